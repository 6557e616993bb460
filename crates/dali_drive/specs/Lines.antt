-- The lines that are written and read while a writer is driven: of frames and of answers. That of a reply is
-- `reply_line` of `dali_trace`.
use Rattle.std.specs.Prelude.{◌≡◌, ◌≢◌, ◌≤◌, ◌++◌, ℕ, List, [], ◌∷◌, Option, Result, Ok, Err, length, All}
use Rattle.std.specs.Io.BufRead.{strip_last}
use Rattle.std.specs.Io.KnownBytes.{Consumes, IsAtEnd}
use Rattle.dali_frame.specs.declared.forward.Frame.{Frame}
use Rattle.dali_frame.specs.Frame.{frame_word}
use Rattle.dali_frame.specs.Line.{word_line, SpellsAnswer, IsLineFault}
use Rattle.dali_trace.specs.declared.fault.DriveFault.{DriveFault}
use Rattle.dali_trace.specs.declared.fault.DriveFault.TheVariants.{Link, Line, End, TooLong}

-- the line of a frame: the four upper-case hexadecimal digits of its word
abbrev pub link_line : Frame → List ℕ
link_line frame = word_line (frame_word frame)

-- it has no line feed
abbrev pub IsInLine : List ℕ → Type 0
IsInLine bytes = All (λ byte. byte ≢ 10) bytes

-- a line without its line feed, or a first part of one: at most eight bytes
pub record IsShort (bytes : List ℕ) : Type 0 where
  pub short : length bytes ≤ 8
  pub inside : IsInLine bytes

-- a line that spells this answer; a carriage return before its line feed is dropped
pub record IsAnswerLine (answer : Option ℕ) (bytes : List ℕ) : Type 0 where
  pub line : List ℕ
  pub is_short : IsShort line
  pub spells : SpellsAnswer (strip_last 13 line) answer
  pub ended : bytes ≡ line ++ 10 ∷ []

-- what reading an answer's line takes from a link, and why it gives no answer: the link failed or ended inside the
-- line or before it, the line is no answer, or eight bytes before its line feed are exceeded by one
abbrev pub TakesLine : Option (List ℕ) → Option (List ℕ) → Result (Option ℕ) DriveFault → Type 0
TakesLine old new (Ok answer) = (bytes : List ℕ) × IsAnswerLine answer bytes × Consumes old new bytes
TakesLine old new (Err Link) = (bytes : List ℕ) × IsShort bytes × Consumes old new bytes
TakesLine old new (Err (Line fault)) =
    (line : List ℕ) × IsShort line × IsLineFault fault (strip_last 13 line) × Consumes old new (line ++ 10 ∷ [])
TakesLine old new (Err End) = (bytes : List ℕ) × IsShort bytes × Consumes old new bytes × IsAtEnd new
TakesLine old new (Err TooLong) = (bytes : List ℕ) × (length bytes ≡ 9) × IsInLine bytes × Consumes old new bytes
TakesLine old new (Err other) = ⊥

-- what was read of an answer's line when this fault broke it off: a line that is no answer was read with its line feed
abbrev pub TakesText : DriveFault → List ℕ → Option (List ℕ) → Option (List ℕ) → Type 0
TakesText (Line fault) text old new = Consumes old new (text ++ 10 ∷ [])
TakesText fault text old new = Consumes old new text
