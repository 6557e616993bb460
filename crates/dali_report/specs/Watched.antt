-- The writers of a command that a person watches hold what they would hold unwatched.
use Rattle.std.specs.Prelude.{ℕ, List, Option}
use Rattle.dali_report.specs.declared.watched.Cleared.{Cleared}
use Rattle.dali_report.specs.declared.watched.Counted.{Counted}

abbrev pub cleared_held : {W : Type 0} → (W → Option (List ℕ)) → Cleared W → Option (List ℕ)
cleared_held contents cleared = contents cleared.writer

abbrev pub counted_held : {W : Type 0} → (W → Option (List ℕ)) → Counted W → Option (List ℕ)
counted_held contents counted = contents counted.writer
