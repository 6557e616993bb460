-- A census, and the run after it.
use Rattle.std.proofs.Common.{◌≡◌, ◌∙◌, ◌+◌, ◌<◌, ◌∷◌, [], inl, inr, refl, ℕ, zero, suc, Bool, true, false, List, Option}
use Rattle.std.proofs.Common.{Some, arith, get_or, length, subst, take}
use Rattle.std.specs.Prelude.{if◌then◌else◌}
use Rattle.std.specs.Io.KnownBytes.{Appends}
use Rattle.dali_address.specs.declared.census.CensusEnd.{CensusEnd}
use Rattle.dali_address.specs.declared.task.Task.{Task}
use Rattle.dali_address.specs.declared.task.Task.TheVariants.{Close}
use Rattle.dali_link_commands.specs.AddressLines.{count_text}
use Rattle.dali_link_commands.specs.Counted.{IsCounted}
use Rattle.dali_drive.specs.Desks.{Look}
use Rattle.dali_drive.specs.Surveys.{link_of}
use Rattle.dali_drive.specs.Transcript.{Streams}
use Rattle.dali_input.specs.declared.command_fault.Status.{Status}
use Rattle.dali_link_commands.specs.AddressAnswers.{IsCountAnswer, IsRunAnswer, census_care, marked_in}
use Rattle.dali_link_commands.specs.ReadAnswers.{IsUntouched, on_link}

module _ (middle first : Look) (same : middle.streams.journal ≡ first.streams.journal)
    (leaves : (c : List ℕ) → middle.may_leave c → first.may_leave c) (status : Status) (last : Look) where
  untouched_before : IsUntouched middle last → IsUntouched first last
  untouched_before u = record { journal = u.journal ∙ same; leaves = λ c left. leaves c (u.leaves c left) }

  -- a run of a command that began where the store was the same
  begun_before : (task : Task) (before : Option CensusEnd) (begun : Streams)
      → IsRunAnswer task before begun middle status last → IsRunAnswer task before begun first status last
  begun_before task before begun (inl e) = inl (record {
    end = e.end;
    lines = e.lines;
    lost = e.lost;
    addressed = e.addressed;
    untouched = untouched_before e.untouched;
    unfailed = e.unfailed;
    told = e.told;
  })
  begun_before task before begun (inr e) = inr (record {
    fault = e.fault;
    lines = e.lines;
    lost = e.lost;
    broke = e.broke;
    untouched = untouched_before e.untouched;
    failed = e.failed;
    told = e.told;
  })

  pub counted_then : (end : CensusEnd) → IsCounted census_care end (link_of first.streams) (link_of middle.streams)
      → Appends first.streams.out middle.streams.out (count_text end)
      → IsRunAnswer Close (Some end) (on_link middle) middle status last → IsCountAnswer first status last
  counted_then end counted told closed = inl (record {
    end = end;
    middle = on_link middle;
    counted = counted;
    told = told;
    closed = begun_before Close (Some end) (on_link middle) closed;
  })

next_marked : (addresses : List Bool) (index : ℕ) (other : Bool) → index < length addresses
    → marked_in (take (suc index) addresses)
    ≡ marked_in (take index addresses) + (if get_or addresses index other then 1 else 0)
next_marked [] index other below = absurd (omega arith)
next_marked (true ∷ more) zero other below = refl
next_marked (false ∷ more) zero other below = refl
next_marked (true ∷ more) (suc index) other below =
    let rest = next_marked more index other (omega arith) in omega (arith, rest)
next_marked (false ∷ more) (suc index) other below = next_marked more index other (omega arith)

-- one more
pub one_marked : (addresses : List Bool) (index : ℕ) (other : Bool) → index < length addresses
    → marked_in (take (index + 1) addresses)
    ≡ marked_in (take index addresses) + (if get_or addresses index other then 1 else 0)
one_marked addresses index other below =
    let next : suc index ≡ index + 1 = omega arith in
    subst (λ (count : ℕ). marked_in (take count addresses)
    ≡ marked_in (take index addresses) + (if get_or addresses index other then 1 else 0)) next
    (next_marked addresses index other below)
