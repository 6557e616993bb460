-- The frames of a read of a block and of a checked write, each with the answer that it wants.
use Rattle.std.specs.Prelude.{◌≡◌, ℕ, zero, suc, Bool, true, false, ◌==◌, List, [], ◌∷◌, ◌++◌, replicate, Option, Some}
use Rattle.std.specs.Prelude.{IsSome, ⊤}
use Rattle.std.specs.Option.{option_to_list}
use Rattle.dali_frame.specs.declared.forward.Frame.{Frame}
use Rattle.dali_frame.specs.declared.forward.Frame.TheVariants.{Dtr0, Dtr1, Write, Enable, AskDtr0, AskDtr1, Read}
use Rattle.dali_bus.specs.Hears.{up}
use Rattle.dali_write.specs.declared.request.Wish.{Wish}
use Rattle.dali_write.specs.declared.request.Wish.TheVariants.{Nothing, Exactly, Anything}
use Rattle.dali_write.specs.declared.request.Request.{Request}
use Rattle.dali_write.specs.declared.block.Block.{Block}
use Rattle.dali_write.specs.declared.access.Access.{Access}
use Rattle.dali_write.specs.declared.access.Access.TheVariants.{ReadFrom, WriteTo, WriteOn}

-- the answer is as wished
abbrev pub Meets : Wish → Option ℕ → Type 0
Meets Nothing answer = ⊤
Meets (Exactly byte) answer = answer ≡ Some byte
Meets Anything answer = IsSome answer

abbrev pub request : Frame → Wish → Request
request frame wish = record { frame = frame; wish = wish }

-- the unit tells that DTR1 is 01h, and then that DTR0 is the location
abbrev pub questions : ℕ → ℕ → List Request
questions unit location = request (AskDtr1 unit) (Exactly 1) ∷ request (AskDtr0 unit) (Exactly location) ∷ []

-- select a location of bank 1 at the unit, and make sure of it
abbrev pub select_requests : ℕ → ℕ → List Request
select_requests unit location =
    request (Dtr1 1) Nothing ∷ request (AskDtr1 unit) (Exactly 1)
    ∷ request (Dtr0 location) Nothing ∷ request (AskDtr0 unit) (Exactly location) ∷ []

-- this many locations from this one on
abbrev pub block : ℕ → ℕ → Block
block location count = record { location = location; count = count }

-- the location that DTR0 holds after `count` reads: that many further, and at FFh no further
abbrev pub moved_on : ℕ → ℕ → ℕ
moved_on location zero = location
moved_on location (suc count) = up (moved_on location count)

-- a count of reads, each of which wants a byte
abbrev pub reads : ℕ → ℕ → List Request
reads unit count = replicate count (request (Read unit) Anything)

-- A block read. DTR0 has moved on by each of the reads, and DTR1 is still 01h: so the unit kept its power since it was
-- asked for DTR1, and each byte is that of its place.
abbrev pub block_requests : ℕ → Block → List Request
block_requests unit block =
    select_requests unit block.location ++ reads unit block.count
    ++ request (AskDtr0 unit) (Exactly (moved_on block.location block.count)) ∷ request (AskDtr1 unit) (Exactly 1) ∷ []

-- a checked read of the location: the read of it alone
abbrev pub read_requests : ℕ → ℕ → List Request
read_requests unit location = block_requests unit (block location 1)

-- a write of the byte to the location, at a unit that is enabled and has bank 1 selected; DTR0 has moved there by
-- itself, or else it is set first
abbrev pub put_requests : Bool → ℕ → ℕ → ℕ → List Request
put_requests true unit location byte = questions unit location ++ request (Write byte) (Exactly byte) ∷ []
put_requests false unit location byte =
    request (Dtr0 location) Nothing ∷ questions unit location ++ request (Write byte) (Exactly byte) ∷ []

-- a checked write of the byte to the location
abbrev pub write_requests : ℕ → ℕ → ℕ → List Request
write_requests unit location byte =
    request (Enable unit) Nothing ∷ request (Enable unit) Nothing
    ∷ select_requests unit location ++ request (Write byte) (Exactly byte) ∷ []

-- The frames of a try of an access after this many that missed. A write just after one to another location takes the
-- unit as that one left it, enabled and with DTR0 one further; after a miss it is a checked write.
abbrev pub access_requests : ℕ → Access → ℕ → List Request
access_requests unit (ReadFrom block) misses = block_requests unit block
access_requests unit (WriteTo location byte) misses = write_requests unit location byte
access_requests unit (WriteOn before location byte) zero = put_requests (up before == location) unit location byte
access_requests unit (WriteOn before location byte) (suc misses) = write_requests unit location byte

-- the same frames in each try
abbrev pub each_try : List Request → ℕ → List Request
each_try requests misses = requests

-- what was answered to a read
abbrev pub read_answer : Frame → Option ℕ → List ℕ
read_answer (Read to) answer = option_to_list answer
read_answer other answer = []
