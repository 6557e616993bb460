-- Small drives, and what is near them and isn't one.
use Rattle.std.specs.Prelude.{[], Some, codes}
use Rattle.dali_journal.specs.declared.record.Record.TheVariants.{Began}
use Rattle.dali_journal.specs.declared.version.Version.TheVariants.{Two}
use Rattle.dali_journal.specs.Spelling.{spelling}
use Rattle.dali_drive.specs.Transcript.{Streams, shown}
use Rattle.dali_trace.specs.Worked.{first_order}

-- an order is begun and two frames are sent and answered: the streams before and after, with one line that is still
-- to be read
abbrev pub before_two : Streams
before_two = shown (Some []) (Some []) (Some (codes "--\n01\r\n--\n")) (Some [])

abbrev pub after_two : Streams
after_two =
    shown (Some (spelling Two (Began first_order 7))) (Some (codes "C301\n0B9C\n")) (Some (codes "--\n"))
    (Some (codes "reply 1 taken\n"))

-- the same with the frames' lines the other way round, with one answer's line for both, and with the record not in
-- the journal
abbrev pub frames_turned : Streams
frames_turned =
    shown (Some (spelling Two (Began first_order 7))) (Some (codes "0B9C\nC301\n")) (Some (codes "--\n"))
    (Some (codes "reply 1 taken\n"))

abbrev pub one_line_read : Streams
one_line_read =
    shown (Some (spelling Two (Began first_order 7))) (Some (codes "C301\n0B9C\n")) (Some (codes "01\r\n--\n"))
    (Some (codes "reply 1 taken\n"))

abbrev pub record_left_out : Streams
record_left_out = shown (Some []) (Some (codes "C301\n0B9C\n")) (Some (codes "--\n")) (Some (codes "reply 1 taken\n"))
