-- A run that gives or lists short addresses over a link.
use Rattle.std.specs.Prelude.{◌++◌, ℕ, List, [], ◌∷◌, map, ⊤}
use Rattle.std.specs.Io.KnownBytes.{Appends, Keeps}
use Rattle.dali_frame.specs.declared.forward.Frame.TheVariants.{Other}
use Rattle.dali_write.specs.Exchanges.{Exchange as Sending}
use Rattle.dali_trace.specs.declared.fault.DriveFault.{DriveFault}
use Rattle.dali_trace.specs.declared.fault.DriveFault.TheVariants as faults
use Rattle.dali_drive.specs.Transcript.{Streams}
use Rattle.dali_drive.specs.Driven.{AppendsPart, BreaksFrame}
use Rattle.dali_drive.specs.Surveys.{link_of}
use Rattle.dali_drive.specs.UnitRead.{LinkText}
use Rattle.dali_address.specs.Calls.{call_word}
use Rattle.dali_address.specs.Rights.{IsRightWant, MayFollow, MayTell}
use Rattle.dali_address.specs.Steps.{Exchange}
use Rattle.dali_address.specs.declared.call.Call.{Call}
use Rattle.dali_address.specs.declared.task.Line.{Line}
use Rattle.dali_address.specs.declared.task.Task.{Task}
use Rattle.dali_address.specs.declared.task.Want.{Want}
use Rattle.dali_address.specs.declared.task.Want.TheVariants as wants
use Rattle.dali_link_commands.specs.declared.address.addressing.End.{End}
use Rattle.dali_link_commands.specs.declared.address.addressing.End.TheVariants.{Done, Taken}
use Rattle.dali_link_commands.specs.AddressLines.{address_line}

-- what a run does: it carries a frame, or tells a line
pub data Move : Type 0 where
  Carried : Exchange → Move
  Said : Line → Move

-- of moves, the newest first: the exchanges, and the lines
abbrev pub told_in : List Move → List Exchange
told_in [] = []
told_in (Carried exchange ∷ past) = exchange ∷ told_in past
told_in (Said line ∷ past) = told_in past

abbrev pub lines_in : List Move → List ℕ
lines_in [] = []
lines_in (Carried exchange ∷ past) = lines_in past
lines_in (Said line ∷ past) = lines_in past ++ address_line line

-- each move was right where those before it were made
abbrev pub AreRightMoves : Task → List Move → Type 0
AreRightMoves task [] = ⊤
AreRightMoves task (Carried exchange ∷ past) = MayFollow task (told_in past) exchange.call × AreRightMoves task past
AreRightMoves task (Said line ∷ past) = MayTell line (told_in past) × AreRightMoves task past

-- the frames that these are: each is an `Other` of the frame table
abbrev pub frames_of : List Exchange → List Sending
frames_of told = map (λ x. record { frame = Other (call_word x.call); answer = x.answer }) told

-- from first to last these moves were made: exactly their frames went and their answers came, and exactly their lines
-- were written
pub record IsMoved (task : Task) (moves : List Move) (first last : Streams) : Type 0 where
  pub right : AreRightMoves task moves
  pub link : LinkText (frames_of (told_in moves)) (link_of first) (link_of last)
  pub out : Appends first.out last.out (lines_in moves)

-- what a run wanted that ended so
abbrev pub ending : End → Want
ending (Done summary) = wants.Ended summary
ending (Taken short) = wants.Taken short

-- and it ended so, which was right then
pub record IsAddressed (task : Task) (end : End) (first last : Streams) : Type 0 where
  pub moves : List Move
  pub moved : IsMoved task moves first last
  pub ended : IsRightWant task (told_in moves) (ending end)

-- the fault broke the next move off
abbrev pub BreaksMove : Task → List Exchange → DriveFault → Streams → Streams → Type 0
BreaksMove task told faults.Out old new =
    (line : Line) × MayTell line told × LinkText [] (link_of old) (link_of new)
    × AppendsPart old.out new.out (address_line line)
BreaksMove task told fault old new =
    (call : Call) × MayFollow task told call
    × BreaksFrame (Other (call_word call)) fault (link_of old) (link_of new) × Keeps old.out new.out

-- moves were made, and after them the fault broke the run off
pub record AddressingBroke (task : Task) (fault : DriveFault) (first last : Streams) : Type 0 where
  pub moves : List Move
  pub middle : Streams
  pub moved : IsMoved task moves first middle
  pub broke : BreaksMove task (told_in moves) fault middle last
