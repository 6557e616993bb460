-- The fate of a frame on the simulated bus.
use Rattle.std.specs.Prelude.{ℕ, Bool, false, ◌==◌, List}
use Rattle.std.specs.Int.{bit_at}
use Rattle.std.specs.Prelude.{get_or}
use Rattle.dali_gear.specs.declared.fate.Fate.{Fate}

-- every unit hears the frame, none refuses, and the answer comes through
abbrev pub whole : Fate
whole = record { lost = 0; answer_lost = false; refuse = false }

-- the unit at this address doesn't hear the frame
abbrev pub is_lost : Fate → ℕ → Bool
is_lost fate address = bit_at fate.lost address == 1

-- the fate of the next frame: if all are used up, frames go through whole
abbrev pub next_fate : List Fate → Fate
next_fate fates = get_or fates 0 whole
