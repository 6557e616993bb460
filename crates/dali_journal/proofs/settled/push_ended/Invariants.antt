use Rattle.std.proofs.Common.{◌≡◌, ◌++◌, nat_eq, All, filter_map, take, Some}
use Rattle.std.specs.Map.{lookup}
use Rattle.dali_journal.specs.Settled.{settled_at}
use Rattle.dali_journal.proofs.settled.push_ended.Given as goal

abbrev pub invariant-loop-place : goal.invariant-loop-place
invariant-loop-place l = record {
  items : l.settled.items ≡ l.fn.settled.items ++ filter_map (settled_at l.front) (take l.place l.index.entries);
  told : All (λ entry. lookup (nat_eq entry.0) l.index.entries ≡ Some entry.1) (take l.place l.index.entries);
}
