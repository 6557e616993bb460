-- The contract terms of an output.
use Rattle.std.specs.Prelude.{◌≡◌, ℕ, Bool, true, List, Option, Result, Ok, Err, is_some}
use Rattle.std.specs.Io.KnownBytes.{Appends}
use Rattle.dali_text.specs.declared.output.Output.{Output}

-- the bytes that its writer holds, if they are known
abbrev pub held : {W : Type 0} → (W → Option (List ℕ)) → Output W → Option (List ℕ)
held contents output = contents output.writer

-- it took these bytes: they follow those that its writer held
abbrev pub Takes : {W : Type 0} → (W → Option (List ℕ)) → Output W → Output W → List ℕ → Type 0
Takes contents old new bytes = Appends (held contents old) (held contents new) bytes

-- a write or a flush of it has failed
abbrev pub has_failed : {W : Type 0} → Output W → Bool
has_failed output = is_some output.cause

-- nothing was written to it since the last flush that succeeded
abbrev pub is_flushed : {W : Type 0} → Output W → Bool
is_flushed output = output.flushed

-- the result of a call over an output: an error if it has failed then, and else it has failed only if it had before
abbrev pub TellsFailure : {W T E : Type 0} → Result T E → Output W → Output W → Type 0
TellsFailure (Ok value) old new = has_failed new ≡ has_failed old
TellsFailure (Err error) old new = has_failed new ≡ true
