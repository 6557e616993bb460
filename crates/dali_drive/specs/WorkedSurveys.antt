-- A scan of two units of which one is silent, two orders verified, and near misses.
use Rattle.std.specs.Prelude.{ℕ, zero, suc, replicate, List, [], ◌∷◌, ◌++◌, Some, None, codes}
use Rattle.dali_frame.specs.declared.forward.Frame.TheVariants.{Dtr0, Dtr1, AskDtr0, AskDtr1, Read}
use Rattle.dali_bank.specs.Order.{Contents}
use Rattle.dali_write.specs.Exchanges.{Exchange}
use Rattle.dali_write.specs.WorkedAccesses.{sent}
use Rattle.dali_drive.specs.Transcript.{Streams, shown, link_shown}
use Rattle.dali_drive.specs.Surveys.{Report}

-- this many tries of unit 0 that missed when DTR1 was asked back
abbrev pub missed : ℕ → List Exchange
missed zero = []
missed (suc tries) = sent (AskDtr1 0) None ∷ sent (Dtr1 1) None ∷ missed tries

-- location 00h of unit 1 read: its bank 1 ends at 77h
abbrev pub length_read : List Exchange
length_read =
    sent (AskDtr1 1) (Some 0x01) ∷ sent (AskDtr0 1) (Some 0x01) ∷ sent (Read 1) (Some 0x77)
    ∷ sent (AskDtr0 1) (Some 0x00) ∷ sent (Dtr0 0x00) None ∷ sent (AskDtr1 1) (Some 0x01) ∷ sent (Dtr1 1) None ∷ []

-- location 03h of it read
abbrev pub byte_read : ℕ → List Exchange
byte_read byte =
    sent (AskDtr1 1) (Some 0x01) ∷ sent (AskDtr0 1) (Some 0x04) ∷ sent (Read 1) (Some byte)
    ∷ sent (AskDtr0 1) (Some 0x03) ∷ sent (Dtr0 0x03) None ∷ sent (AskDtr1 1) (Some 0x01) ∷ sent (Dtr1 1) None ∷ []

-- ---- which units answer

abbrev pub silent_unit : Report ℕ
silent_unit = record { item = 0; outcome = None; told = missed 8; line = [] }

abbrev pub found_unit : Report ℕ
found_unit = record { item = 1; outcome = Some (0x77 ∷ []); told = length_read; line = codes "unit 1 last 77\n" }

abbrev pub two_units : List (Report ℕ)
two_units = found_unit ∷ silent_unit ∷ []

-- the streams before and after, with one line that is still to be read
abbrev pub before_two_units : Streams
before_two_units =
    shown None (Some [])
    (Some (codes "--\n--\n--\n--\n--\n--\n--\n--\n--\n--\n--\n--\n--\n--\n--\n--\n--\n01\n--\n00\n77\n01\n01\n--\n"))
    (Some [])

abbrev pub lines_to_two_units : List ℕ
lines_to_two_units =
    codes "C301\n019C\nC301\n019C\nC301\n019C\nC301\n019C\nC301\n019C\nC301\n019C\nC301\n019C\nC301\n019C\n"
    ++ codes "C301\n039C\nA300\n0398\n03C5\n0398\n039C\n"

abbrev pub after_two_units : Streams
after_two_units = shown None (Some lines_to_two_units) (Some (codes "--\n")) (Some (codes "unit 1 last 77\n"))

-- and with a first part of the next frame's line
abbrev pub amid_third_unit : Streams
amid_third_unit =
    shown None (Some (lines_to_two_units ++ codes "C3")) (Some (codes "--\n")) (Some (codes "unit 1 last 77\n"))

-- the same with a line for the silent unit too
abbrev pub silent_unit_told : Streams
silent_unit_told =
    shown None (Some lines_to_two_units) (Some (codes "--\n")) (Some (codes "unit 0 last 00\nunit 1 last 77\n"))

-- unit 1 alone, with all of its line, with a first part of it, and with what is no part of it
abbrev pub before_one_unit : Streams
before_one_unit = shown None (Some []) (Some (codes "--\n01\n--\n00\n77\n01\n01\n")) (Some [])

abbrev pub one_unit_and : List ℕ → Streams
one_unit_and out = shown None (Some (codes "C301\n039C\nA300\n0398\n03C5\n0398\n039C\n")) (Some []) (Some out)

-- a GTIN of zeros and an identification number, as a unit has them from 03h on, with its line, and that of a blank unit
abbrev pub known_bytes : List ℕ
known_bytes = replicate 6 0 ++ 1 ∷ 2 ∷ 3 ∷ 4 ∷ 5 ∷ 6 ∷ 7 ∷ 0xA8 ∷ []

abbrev pub known_line : List ℕ
known_line = codes "unit 1 last 77 gtin 00000000000000 identification 01020304050607A8\n"

abbrev pub blank_line : List ℕ
blank_line = codes "unit 1 last 77 gtin unknown identification unknown\n"

-- ---- units beside orders

-- order 7 for unit 1 writes A5h to 03h, and order 8 for unit 0 the same
abbrev pub near_order : Contents
near_order = record { id = 7; unit = 1; updates = (0x03, 0xA5) ∷ [] }

abbrev pub far_order : Contents
far_order = record { id = 8; unit = 0; updates = (0x03, 0xA5) ∷ [] }

-- unit 1 with such a byte there, and with a bank that ends before it
abbrev pub told_of : ℕ → List ℕ → Report Contents
told_of byte line =
    record { item = near_order; outcome = Some (0x77 ∷ byte ∷ []); told = byte_read byte ++ length_read; line = line }

abbrev pub same_order : Report Contents
same_order = told_of 0xA5 (codes "order 7 unit 1 same\n")

abbrev pub other_order : Report Contents
other_order = told_of 0x5A (codes "order 7 unit 1 other 03 5A\n")

abbrev pub short_order : Report Contents
short_order =
    record { item = near_order; outcome = Some (0x02 ∷ []); told = []; line = codes "order 7 unit 1 short\n" }

abbrev pub silent_order : Report Contents
silent_order = record { item = far_order; outcome = None; told = missed 8; line = codes "order 8 unit 0 silent\n" }

-- the streams before both, after the first, and after both
abbrev pub before_two_orders : Streams
before_two_orders =
    shown None (Some [])
    (Some (codes "--\n01\n--\n00\n77\n01\n01\n--\n01\n--\n03\nA5\n04\n01\n--\n"
    ++ codes "--\n--\n--\n--\n--\n--\n--\n--\n--\n--\n--\n--\n--\n--\n--\n"))
    (Some [])

abbrev pub lines_to_near_unit : List ℕ
lines_to_near_unit =
    codes "C301\n039C\nA300\n0398\n03C5\n0398\n039C\nC301\n039C\nA303\n0398\n03C5\n0398\n039C\n"

abbrev pub after_near_order : Streams
after_near_order =
    shown None (Some lines_to_near_unit)
    (Some (codes "--\n--\n--\n--\n--\n--\n--\n--\n--\n--\n--\n--\n--\n--\n--\n--\n"))
    (Some (codes "order 7 unit 1 same\n"))

-- and with a first part of the next frame's line
abbrev pub amid_far_order : Streams
amid_far_order =
    shown None (Some (lines_to_near_unit ++ codes "C3"))
    (Some (codes "--\n--\n--\n--\n--\n--\n--\n--\n--\n--\n--\n--\n--\n--\n--\n--\n"))
    (Some (codes "order 7 unit 1 same\n"))

abbrev pub after_two_orders : Streams
after_two_orders =
    shown None
    (Some (lines_to_near_unit
    ++ codes "C301\n019C\nC301\n019C\nC301\n019C\nC301\n019C\nC301\n019C\nC301\n019C\nC301\n019C\nC301\n019C\n"))
    (Some []) (Some (codes "order 7 unit 1 same\norder 8 unit 0 silent\n"))

-- ---- one frame that is broken off

-- the frame's line is cut off, or whole, and of its answer nothing comes, or a part
abbrev pub before_frame : List ℕ → Streams
before_frame answers = link_shown (Some []) (Some answers)

abbrev pub after_frame : List ℕ → Streams
after_frame line = link_shown (Some line) (Some [])
