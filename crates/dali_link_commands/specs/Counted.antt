-- A census over a link.
use Rattle.std.specs.Prelude.{ℕ, List}
use Rattle.std.specs.List.{AllByRecursion}
use Rattle.dali_frame.specs.declared.forward.Frame.TheVariants.{Other}
use Rattle.dali_trace.specs.declared.fault.DriveFault.{DriveFault}
use Rattle.dali_drive.specs.Transcript.{Streams}
use Rattle.dali_drive.specs.Driven.{BreaksFrame}
use Rattle.dali_drive.specs.UnitRead.{LinkText}
use Rattle.dali_address.specs.Calls.{IsCall, call_word}
use Rattle.dali_address.specs.Census.{IsEndOf, WasWhole}
use Rattle.dali_address.specs.Counting.{IsAfterChecks}
use Rattle.dali_address.specs.Keeps.{GivesNone}
use Rattle.dali_address.specs.Steps.{Exchange}
use Rattle.dali_address.specs.Units.{Units}
use Rattle.dali_address.specs.declared.call.Call.{Call}
use Rattle.dali_address.specs.declared.census.CensusEnd.{CensusEnd}
use Rattle.dali_link_commands.specs.Addressed.{frames_of}

-- from first to last exactly these frames went, none of which gives or takes a short address, and exactly their answers
-- came
pub record IsAsked (told : List Exchange) (first last : Streams) : Type 0 where
  pub gives : AllByRecursion (λ exchange. GivesNone exchange.call) told
  pub link : LinkText (frames_of told) first last

-- The census completed, which rests on `care` silent asks. If over these units nothing of this was lost, and no two of
-- them have drawn one random address, what the end says is true of them.
pub record IsCounted (care : ℕ) (end : CensusEnd) (first last : Streams) : Type 0 where
  pub told : List Exchange
  pub asked : IsAsked told first last
  pub checks : IsAfterChecks end care told
  pub says : (before after : Units) (states : List Units) → WasWhole before told after states → IsEndOf end after

-- frames went, and after them the fault broke the next one off
pub record CountingBroke (fault : DriveFault) (first last : Streams) : Type 0 where
  pub told : List Exchange
  pub middle : Streams
  pub asked : IsAsked told first middle
  pub call : Call
  pub fits : IsCall call
  pub gives : GivesNone call
  pub broke : BreaksFrame (Other (call_word call)) fault middle last
