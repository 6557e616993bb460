-- Answers that were asked for and didn't come, and rows that told other bytes than have to be there, among exchanges
-- with the newest first.
use Rattle.std.specs.Prelude.{ℕ, ◌+◌, ◌*◌, ◌≤◌, ◌==◌, ◌&&◌, ◌||◌, Bool, true, false, not, is_some, List, [], ◌∷◌, length, Option}
use Rattle.std.specs.Prelude.{Some, None, suc, nat_lt, if◌then◌else◌, ◌≡◌, ◌++◌, ⊤}
use Rattle.std.specs.List.{list_any}
use Rattle.dali_frame.specs.declared.forward.Frame.{Frame}
use Rattle.dali_frame.specs.declared.forward.Frame.TheVariants.{Dtr0, Write, AskDtr0, AskDtr1, Read}
use Rattle.dali_bus.specs.Hears.{up}
use Rattle.dali_write.specs.Exchanges.{Exchange}
use Rattle.dali_write.specs.declared.access.Access.{Access}
use Rattle.dali_write.specs.declared.access.Access.TheVariants.{ReadFrom, WriteTo, WriteOn}
use Rattle.dali_write.specs.declared.request.Wish.{Wish}
use Rattle.dali_write.specs.declared.request.Wish.TheVariants.{Nothing, Exactly, Anything}
use Rattle.dali_write.specs.declared.pace.Pace.{Pace}
use Rattle.dali_write.specs.Frames.{miss_frames, other_frames}
use Rattle.dali_write.specs.Plans.{most_once}

-- the location that DTR0 should hold after a frame: a read and a write move it on
abbrev pub location_after : Frame → ℕ → ℕ
location_after (Dtr0 location) before = location
location_after (Read unit) before = up before
location_after (Write byte) before = up before
location_after other before = before

-- the location that DTR0 should hold: the one that was set last, moved on by the reads and writes since then
abbrev pub location_in : List Exchange → ℕ
location_in [] = 0
location_in (x ∷ told) = location_after x.frame (location_in told)

-- what a frame of a checked access asks for, if DTR0 should hold this location: that DTR1 is 01h, that DTR0 holds the
-- location, any byte of a read, the byte of a write
abbrev pub wish_of : Frame → ℕ → Wish
wish_of (AskDtr1 unit) location = Exactly 1
wish_of (AskDtr0 unit) location = Exactly location
wish_of (Read unit) location = Anything
wish_of (Write byte) location = Exactly byte
wish_of other location = Nothing

-- another answer came, or none
abbrev pub is_missed : Wish → Option ℕ → Bool
is_missed Nothing answer = false
is_missed (Exactly byte) None = true
is_missed (Exactly byte) (Some got) = not (got == byte)
is_missed Anything answer = not (is_some answer)

-- how many of the frames asked for an answer and got another one or none
abbrev pub misses_in : List Exchange → ℕ
misses_in [] = 0
misses_in (x ∷ told) = (if is_missed (wish_of x.frame (location_in told)) x.answer then 1 else 0) + misses_in told

-- After these, whatever came before them, DTR0 should hold what an access that follows a write takes it to hold. Other
-- accesses may come anywhere.
abbrev pub IsApt : List Exchange → Access → Type 0
IsApt told (ReadFrom block) = ⊤
IsApt told (WriteTo location byte) = ⊤
IsApt told (WriteOn before location byte) = (older : List Exchange) → location_in (told ++ older) ≡ up before

-- a read told another byte than one that has to be at the location that DTR0 should hold
abbrev pub is_other : List (ℕ × ℕ) → Frame → ℕ → Option ℕ → Bool
is_other wanted (Read unit) location (Some byte) =
    list_any (λ own. (own.0 == location) && not (own.1 == byte)) wanted
is_other wanted frame location answer = false

-- the frame reads
abbrev pub reads_one : Frame → Bool
reads_one (Read unit) = true
reads_one other = false

-- how many of the newest exchanges read, with no other frame among them
abbrev pub newest_reads : List Exchange → ℕ
newest_reads [] = 0
newest_reads (x ∷ told) = if reads_one x.frame then suc (newest_reads told) else 0

-- one of them told another byte
abbrev pub has_other : List (ℕ × ℕ) → List Exchange → Bool
has_other wanted [] = false
has_other wanted (x ∷ told) =
    reads_one x.frame && (is_other wanted x.frame (location_in told) x.answer || has_other wanted told)

-- and they are enough for a row of them to be read again
abbrev pub is_read_again : List (ℕ × ℕ) → List Exchange → Bool
is_read_again wanted told = nat_lt most_once (newest_reads told) && has_other wanted told

-- how many times that was so, once for the reads of a row
abbrev pub others_in : List (ℕ × ℕ) → List Exchange → ℕ
others_in wanted [] = 0
others_in wanted (x ∷ told) =
    (if is_read_again wanted (x ∷ told) && not (is_read_again wanted told) then 1 else 0) + others_in wanted told

-- these are `frames` frames, and for each miss and each row that told another byte at most what it may take
abbrev pub IsLong : Pace → List (ℕ × ℕ) → ℕ → List Exchange → Type 0
IsLong pace wanted frames told =
    (frames ≤ length told)
    × (length told ≤ frames + miss_frames pace * misses_in told + other_frames pace * others_in wanted told)
