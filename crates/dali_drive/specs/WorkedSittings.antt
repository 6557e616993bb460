-- Two drives over a store, one after the other, and what is near them and isn't so: the first is killed while it puts a
-- record, and the second while a frame is under way.
use Rattle.std.specs.Prelude.{◌++◌, ℕ, List, [], ◌∷◌, Some, take, codes}
use Rattle.dali_bus.specs.World.{World}
use Rattle.dali_journal.specs.declared.record.Record.TheVariants.{Began}
use Rattle.dali_journal.specs.declared.version.Version.TheVariants.{Two}
use Rattle.dali_journal.specs.Spelling.{spelling, header}
use Rattle.dali_trace.specs.declared.happening.Happening.{Happening}
use Rattle.dali_trace.specs.declared.happening.Happening.TheVariants.{Stopped}
use Rattle.dali_trace.specs.Worked.{empty, first_order, taken, begun, alone, blank_unit}
use Rattle.dali_trace.specs.WorkedPlans.{first_frame}
use Rattle.dali_laws.specs.Joined.{Sitting}
use Rattle.dali_drive.specs.Transcript.{Streams, shown}
use Rattle.dali_write.specs.declared.pace.Pace.TheVariants.{Checked}

-- the file of no records, of the begun order, and with that record cut off
abbrev pub bare_file : List ℕ
bare_file = header Two

abbrev pub begun_file : List ℕ
begun_file = header Two ++ spelling Two (Began first_order 7)

abbrev pub torn_file : List ℕ
torn_file = header Two ++ take 5 (spelling Two (Began first_order 7))

-- the streams before a drive over a store with these bytes, and once the order was taken and once it was begun
abbrev pub before_on : List ℕ → Streams
before_on bytes = shown (Some bytes) (Some []) (Some []) (Some [])

abbrev pub after_taken : Streams
after_taken = shown (Some bare_file) (Some []) (Some []) (Some (codes "reply 1 taken\n"))

abbrev pub after_begun : Streams
after_begun = shown (Some begun_file) (Some []) (Some []) (Some (codes "reply 1 taken\n"))

-- and with the first three bytes of a frame's line
abbrev pub amid_frame : Streams
amid_frame = shown (Some begun_file) (Some (codes "C30")) (Some []) (Some (codes "reply 1 taken\n"))

-- The first drive finds no bytes at all, and its record is cut off. The second finds that, and its frame is carried, or
-- it isn't.
abbrev pub first_sitting : Sitting
first_sitting = record { start = empty; past = taken }

abbrev pub second_sitting : Sitting
second_sitting = record { start = empty; past = first_frame }

abbrev pub second_without_the_frame : Sitting
second_without_the_frame = record { start = empty; past = begun }

-- all that happened, and a world for each moment of it: the unit hears none of the frames
abbrev pub both_sittings : List Happening
both_sittings = first_frame ++ Stopped Checked ∷ taken

abbrev pub worlds : List World
worlds =
    let w = alone blank_unit in w ∷ w ∷ w ∷ w ∷ w ∷ w ∷ w ∷ []
