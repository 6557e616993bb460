-- A read of a block of two locations of unit 5, and what is near it and is none.
use Rattle.std.specs.Prelude.{ℕ, List, [], ◌∷◌, Option, Some, None}
use Rattle.dali_frame.specs.declared.forward.Frame.TheVariants.{Dtr0, Dtr1, AskDtr0, AskDtr1, Read}
use Rattle.dali_write.specs.Exchanges.{Exchange}
use Rattle.dali_write.specs.WorkedAccesses.{sent}
use Rattle.dali_write.specs.LoneUnit.{six_frames}
use Rattle.dali_write.specs.declared.block.Block.{Block}
use Rattle.dali_write.specs.Requests.{block}

-- 03h and 04h
abbrev pub two_locations : Block
two_locations = block 0x03 2

-- A try of their block read of unit 5, so answered: the two reads, and then DTR0 and DTR1, asked back.
abbrev pub two_read : Option ℕ → Option ℕ → Option ℕ → Option ℕ → List Exchange
two_read first second moved bank =
    sent (AskDtr1 5) bank ∷ sent (AskDtr0 5) moved ∷ sent (Read 5) second ∷ sent (Read 5) first
    ∷ sent (AskDtr0 5) (Some 0x03) ∷ sent (Dtr0 0x03) None ∷ sent (AskDtr1 5) (Some 0x01) ∷ sent (Dtr1 0x01) None ∷ []

-- as it wants
abbrev pub whole_read : List Exchange
whole_read = two_read (Some 0x0A) (Some 0x0B) (Some 0x05) (Some 0x01)

-- the block read of 00h of the lone unit, which lost its power before the read
abbrev pub seven_frames : List Exchange
seven_frames = sent (AskDtr1 9) (Some 0x00) ∷ six_frames
