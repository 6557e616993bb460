-- The records that bytes are decoded as, byte by byte: by this a journal's bytes are seen as its records.
-- Of one piece it says what `Reading` does: that is the contract of `Record::read`.
use Rattle.std.specs.Prelude.{ℕ, suc, zero, ◌+◌, ◌*◌, ◌-◌, ◌&&◌, ◌==◌, nat_lt, nat_le, max, Bool}
use Rattle.std.specs.Prelude.{List, [], ◌∷◌, ◌++◌, length, take, drop, if◌then◌else◌}
use Rattle.std.specs.Int.{w64, from_be_bytes}
use Rattle.dali_bank.specs.Order.{is_writable}
use Rattle.dali_journal.specs.declared.record.Code.{Code}
use Rattle.dali_journal.specs.declared.record.Code.TheVariants.{Done, Short, Format, Silent, Doubt, DoubtOpen}
use Rattle.dali_journal.specs.declared.record.Record.{Record}
use Rattle.dali_journal.specs.declared.record.Record.TheVariants.{Began, Opened, Ended, Closed}
use Rattle.dali_journal.specs.declared.version.Version.{Version}
use Rattle.dali_journal.specs.declared.version.Version.TheVariants.{One, Two}
use Rattle.dali_journal.specs.declared.read.Piece.{Piece}
use Rattle.dali_journal.specs.declared.read.Piece.TheVariants.{Whole, Cut, Bad}
use Rattle.dali_journal.specs.declared.read.Pairs.{Pairs}
use Rattle.dali_journal.specs.declared.read.Pairs.TheVariants as lists

-- how many locations above one an order may write
abbrev pub places_above : ℕ → ℕ
places_above low = (0x10 - max low 0x02) + (0x77 - max low 0x12)

-- whether a location may follow another, with `to_come` more after it
abbrev pub fits : ℕ → ℕ → ℕ → Bool
fits to_come low location =
    is_writable location && nat_lt low location && nat_le to_come (places_above location)

-- the pairs after one
abbrev pub behind_pair : ℕ × ℕ → Pairs → Pairs
behind_pair pair (lists.Whole pairs) = lists.Whole (record { items = pair ∷ pairs.items })
behind_pair pair lists.Cut = lists.Cut
behind_pair pair lists.Bad = lists.Bad

-- the pairs after others
abbrev pub behind_pairs : List (ℕ × ℕ) → Pairs → Pairs
behind_pairs front (lists.Whole pairs) = lists.Whole (record { items = front ++ pairs.items })
behind_pairs front lists.Cut = lists.Cut
behind_pairs front lists.Bad = lists.Bad

-- this many pairs above a location
abbrev pub pairs_of : ℕ → ℕ → List ℕ → Pairs
pairs_of zero low bytes = lists.Whole (record { items = [] })
pairs_of (suc count) low [] = lists.Cut
pairs_of (suc count) low (location ∷ []) = if fits count low location then lists.Cut else lists.Bad
pairs_of (suc count) low (location ∷ byte ∷ rest) =
    if fits count low location then behind_pair (location, byte) (pairs_of count location rest) else lists.Bad

-- the code of a number
abbrev pub code_numbered : ℕ → Code
code_numbered number =
    if number == 0 then Done else if number == 1 then Short else if number == 2 then Format
    else if number == 3 then Silent else if number == 4 then Doubt else DoubtOpen

-- a record of two bytes after its letter: a number of at most `most`
abbrev pub short_piece : (ℕ → Record) → ℕ → List ℕ → Piece
short_piece make most [] = Cut
short_piece make most (number ∷ rest) = if nat_le number most then Whole (make number) 2 else Bad

-- how many bytes a Began has in front of its updates
abbrev pub head_length : Version → ℕ
head_length One = 11
head_length Two = 19

-- an order of this number, moment, unit and count, of these pairs
abbrev pub began_piece : Version → ℕ → ℕ → ℕ → ℕ → Pairs → Piece
began_piece version id moment unit count (lists.Whole pairs) =
    Whole (Began (record { id = id; unit = unit; updates = pairs.items }) moment) (head_length version + 2 * count)
began_piece version id moment unit count lists.Cut = Cut
began_piece version id moment unit count lists.Bad = Bad

-- after a unit: a count, and pairs
abbrev pub counted_piece : Version → ℕ → ℕ → ℕ → List ℕ → Piece
counted_piece version id moment unit [] = Cut
counted_piece version id moment unit (count ∷ rest) =
    if nat_le 1 count && nat_le count 115 then began_piece version id moment unit count (pairs_of count 0 rest)
    else Bad

-- after an order's number and moment: a unit, a count, and pairs
abbrev pub timed_piece : Version → ℕ → ℕ → List ℕ → Piece
timed_piece version id moment [] = Cut
timed_piece version id moment (unit ∷ rest) =
    if nat_le unit 63 then counted_piece version id moment unit rest else Bad

-- after an order's number: in version 2 its moment
abbrev pub numbered_piece : Version → ℕ → List ℕ → Piece
numbered_piece One id bytes = timed_piece One id 0 bytes
numbered_piece Two id bytes =
    if nat_lt (length bytes) 8 then Cut
    else timed_piece Two id (from_be_bytes w64 (take 8 bytes)) (drop 8 bytes)

-- after the letter of an order
abbrev pub order_piece : Version → List ℕ → Piece
order_piece version bytes =
    if nat_lt (length bytes) 8 then Cut else numbered_piece version (from_be_bytes w64 (take 8 bytes)) (drop 8 bytes)

-- what bytes begin with, letter by letter
abbrev pub piece_of : Version → List ℕ → Piece
piece_of version [] = Cut
piece_of version (letter ∷ rest) =
    if letter == 0x42 then order_piece version rest
    else if letter == 0x4F then short_piece Opened 63 rest
    else if letter == 0x45 then short_piece (λ number. Ended (code_numbered number)) 5 rest
    else if letter == 0x43 then short_piece Closed 63 rest
    else Bad

-- what follows a record that was read, or these
abbrev pub read_further : Piece → List Record → (Record → ℕ → List Record) → List Record
read_further (Whole entry len) older further = further entry len
read_further Cut older further = older
read_further Bad older further = older

-- these records, and in front of them at most this many that the bytes begin with: the newest first
abbrev pub records_from : Version → ℕ → List Record → List ℕ → List Record
records_from version zero older bytes = older
records_from version (suc most) older bytes =
    read_further (piece_of version bytes) older
    (λ entry len. records_from version most (entry ∷ older) (drop len bytes))

-- the records that bytes begin with, the newest first
abbrev pub records_in : Version → List ℕ → List Record
records_in version bytes = records_from version (length bytes) [] bytes
