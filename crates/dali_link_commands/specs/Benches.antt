-- The desk of a command, by how it looks before and after it.
use Rattle.std.specs.Prelude.{◌≡◌, ◌↔◌, ℕ, Bool, true, List, Option}
use Rattle.dali_drive.specs.Desks.{Look, LeavesNoMore}
use Rattle.dali_input.specs.declared.command_fault.Status.{Status}
use Rattle.dali_input.specs.declared.command_fault.Status.TheVariants.{Unwritten}

-- a desk where its lines hold these bytes, and have failed or not
abbrev pub with_lines : Look → Option (List ℕ) → Bool → Look
with_lines look lines failed =
    record look { streams = record look.streams { out = lines }; failed = record look.failed { out = failed } }

-- the journal and the link were left alone
pub record IsUndriven (first last : Look) : Type 0 where
  pub journal : last.streams.journal ≡ first.streams.journal
  pub link : last.streams.link ≡ first.streams.link
  pub answers : last.streams.answers ≡ first.streams.answers
  pub failed : last.failed ≡ record first.failed { out = last.failed.out }
  pub leaves : LeavesNoMore first last

-- it ends as unwritten exactly where its lines have failed
abbrev pub TellsUnwritten : Status → Look → Type 0
TellsUnwritten status last = (status ≡ Unwritten) ↔ (last.failed.out ≡ true)
