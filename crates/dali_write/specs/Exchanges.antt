-- Frames that were sent, with what came back.
use Rattle.std.specs.Prelude.{ℕ, List, [], ◌∷◌, Option}
use Rattle.dali_frame.specs.declared.forward.Frame.{Frame}
use Rattle.dali_bus.specs.Carry.{BusEvent, Carried, Powered}

-- a frame, and the answer to it or none
pub record Exchange : Type 0 where
  pub frame : Frame
  pub answer : Option ℕ

-- the frames that were carried of what happened on a bus, with what came back
abbrev pub exchanges_of : List BusEvent → List Exchange
exchanges_of [] = []
exchanges_of (Carried frame answer ∷ past) = record { frame = frame; answer = answer } ∷ exchanges_of past
exchanges_of (Powered address ∷ past) = exchanges_of past
