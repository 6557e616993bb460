-- The bytes that are written and read along a trace. A trace has the newest happening first.
use Rattle.std.specs.Prelude.{◌≡◌, ℕ, List, [], ◌∷◌, ◌++◌, Option, None}
use Rattle.std.specs.Io.KnownBytes.{Appends, Consumes}
use Rattle.dali_journal.specs.declared.version.Version.TheVariants.{Two}
use Rattle.dali_journal.specs.Spelling.{records_spelling}
use Rattle.dali_trace.specs.declared.happening.Happening.{Happening}
use Rattle.dali_trace.specs.declared.happening.Happening.TheVariants.{Answered, Sent}
use Rattle.dali_trace.specs.Cut.{kept_in}
use Rattle.dali_drive.specs.Lines.{link_line, IsAnswerLine}
use Rattle.dali_trace.specs.Replies.{reply_line}

-- the bytes of the records that were kept
abbrev pub recorded : List Happening → List ℕ
recorded past = records_spelling Two (kept_in past)

-- the lines of the frames that were sent
abbrev pub sent_lines : List Happening → List ℕ
sent_lines [] = []
sent_lines (Sent frame answer ∷ past) = sent_lines past ++ link_line frame
sent_lines (other ∷ past) = sent_lines past

-- the lines of the replies and the sayings
abbrev pub said_lines : List Happening → List ℕ
said_lines [] = []
said_lines (Answered id reply ∷ past) = said_lines past ++ reply_line id reply
said_lines (other ∷ past) = said_lines past

-- the bytes are a line for each frame that was sent, with its answer
abbrev pub AreAnswers : List Happening → List ℕ → Type 0
AreAnswers [] bytes = bytes ≡ []
AreAnswers (Sent frame answer ∷ past) bytes =
    (before : List ℕ) × (last : List ℕ) × AreAnswers past before × IsAnswerLine answer last × (bytes ≡ before ++ last)
AreAnswers (other ∷ past) bytes = AreAnswers past bytes

-- what the four streams show: the bytes that three of them hold, and those that the fourth has still to give
pub record Streams : Type 0 where
  pub journal : Option (List ℕ)
  pub link : Option (List ℕ)
  pub answers : Option (List ℕ)
  pub out : Option (List ℕ)

-- the same, in this order
abbrev pub shown : Option (List ℕ) → Option (List ℕ) → Option (List ℕ) → Option (List ℕ) → Streams
shown journal link answers out = record { journal = journal; link = link; answers = answers; out = out }

-- what a link shows alone
abbrev pub link_shown : Option (List ℕ) → Option (List ℕ) → Streams
link_shown link answers = shown None link answers None

-- From first to last the text of this trace was written and read, and nothing else.
pub record Transcript (past : List Happening) (first last : Streams) : Type 0 where
  pub heard : List ℕ
  pub lines : AreAnswers past heard
  pub journal : Appends first.journal last.journal (recorded past)
  pub link : Appends first.link last.link (sent_lines past)
  pub answers : Consumes first.answers last.answers heard
  pub out : Appends first.out last.out (said_lines past)
