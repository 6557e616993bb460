use Rattle.std.proofs.Common.{refl, inl, inr}
use Rattle.dali_link_commands.proofs.older.joined_store.Goals as goal
use Rattle.dali_link_commands.proofs.older.joined_store.Goals.{in-Ok+in-Err-joined_behind, in-Err}

pub returns-clause-err : goal.returns-clause-err
returns-clause-err g c = (
  c.match-read_settled.fault,
  c.older.ensures,
  elim c.match-read_settled.branch [
    | in-Ok+in-Err-joined_behind w ↦
        rw w.fault-is (inr (w.in-Ok.bytes.items, w.in-Ok.ensures.ok, w.in-Err-joined_behind.ensures.err))
    | in-Err w ↦ rw w.fault-is (inl (w.in-Err.fault, refl, w.in-Err.ensures.err))
  ],
)
