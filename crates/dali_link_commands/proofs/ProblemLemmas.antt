-- Lemmas on how a fault is reported.
use Rattle.std.proofs.Common.{◌≡◌, ◌≢◌, refl, inl, inr, ◌+◌, ◌++◌, ℕ, true, List, Option, arith, length, take}
use Rattle.std.proofs.Math.Seq.{take-append-add}
use Rattle.std.proofs.lemmas.List.{length-append, take-append-le}
use Rattle.std.specs.Io.KnownBytes.{Appends}
use Rattle.dali_trace.specs.declared.fault.DriveFault.{DriveFault}
use Rattle.dali_trace.specs.declared.fault.DriveFault.TheVariants as drives
use Rattle.dali_drive.specs.Streams.{PutsFirst}
use Rattle.dali_input.specs.declared.command_fault.Fault.{Fault}
use Rattle.dali_input.specs.declared.command_fault.Fault.TheVariants.{Drive}
use Rattle.dali_input.specs.declared.command_fault.Status.{Status}
use Rattle.dali_input.specs.declared.command_fault.Status.TheVariants.{Unwritten}
use Rattle.dali_input.specs.CommandFaults.{status_of, told_line}
use Rattle.dali_link_commands.specs.Told.{IsFaultTold, IsPlain, TellsLine, TellsText, error_line, is_worded}
use Rattle.dali_text.proofs.StreamLemmas.{appends_both}

-- a first part of some bytes is one of more bytes
pub puts_front : (before after : Option (List ℕ)) (xs ys : List ℕ) → PutsFirst before after xs
    → PutsFirst before after (xs ++ ys)
puts_front before after xs ys (k, within, part) =
    (k, omega (arith, length-append xs ys, within), rw (take-append-le k xs ys within) part)

-- and so are some bytes, and a first part of those after them
pub puts_more : (before mid after : Option (List ℕ)) (xs ys : List ℕ) → Appends before mid xs → PutsFirst mid after ys
    → PutsFirst before after (xs ++ ys)
puts_more before mid after xs ys whole (k, within, part) = (
  length xs + k,
  omega (arith, length-append xs ys, within),
  rw (take-append-add xs ys k) (appends_both before mid after xs (take k ys) whole part),
)

-- of a drive's fault its text, or a first part of it, was written
pub drive_told : (fault : DriveFault) (text : List ℕ) (status : Status) (before after : Option (List ℕ))
    → fault ≢ drives.Out → TellsLine text (status_of (Drive fault)) status before after
    → TellsText (Drive fault) text status before after
drive_told drives.Out text status before after other told = absurd (other refl)
drive_told _ text status before after other told = told

-- the bytes before a text were written, and then the text
text_behind : (fault : Fault) (front text : List ℕ) (status : Status) (before mid after : Option (List ℕ))
    → fault ≢ Drive drives.Out → Appends before mid front → TellsText fault text status mid after
    → TellsText fault (front ++ text) status before after
text_behind (Drive drives.Out) front text status before mid after other whole told = absurd (other refl)
text_behind (Drive _) front text status before mid after other whole (inl (is, rest)) =
    inl (is, appends_both before mid after front text whole rest)
text_behind (Drive _) front text status before mid after other whole (inr (is, part)) =
    inr (is, puts_more before mid after front text whole part)
text_behind _ front text status before mid after other whole told = λ written.
    let (is, rest) = told written in (is, appends_both before mid after front text whole rest)

-- a first part of the words was written, and nothing else
front_alone : (fault : Fault) (front text : List ℕ) (before after : Option (List ℕ)) → fault ≢ Drive drives.Out
    → PutsFirst before after front → TellsText fault (front ++ text) Unwritten before after
front_alone (Drive drives.Out) front text before after other part = absurd (other refl)
front_alone (Drive _) front text before after other part = inr (refl, puts_front before after front text part)
front_alone _ front text before after other part = λ written. absurd (written refl)

-- a fault and its words are reported, or a first part of the words
pub worded_told : (fault : Fault) (words : List ℕ) (status : Status) (before mid after : Option (List ℕ))
    → fault ≢ Drive drives.Out → is_worded fault ≡ true → IsPlain words → Appends before mid (error_line words)
    → TellsText fault (told_line fault) status mid after → IsFaultTold fault status before after
worded_told fault words status before mid after other worded plain whole told = (
  error_line words ++ told_line fault,
  rw worded (words, plain, refl),
  text_behind fault (error_line words) (told_line fault) status before mid after other whole told,
)

pub words_cut : (fault : Fault) (words : List ℕ) (before after : Option (List ℕ)) → fault ≢ Drive drives.Out
    → is_worded fault ≡ true → IsPlain words → PutsFirst before after (error_line words)
    → IsFaultTold fault Unwritten before after
words_cut fault words before after other worded plain part = (
  error_line words ++ told_line fault,
  rw worded (words, plain, refl),
  front_alone fault (error_line words) (told_line fault) before after other part,
)
