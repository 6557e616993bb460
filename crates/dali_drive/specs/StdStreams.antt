-- The bytes that the streams over std's readers and writers show.
use Rattle.std.specs.Prelude.{ℕ, Bool, List, Option, is_some}
use Rattle.dali_drive.specs.declared.std_streams.StdSource.{StdSource}
use Rattle.dali_drive.specs.declared.std_streams.StdSink.{StdSink}

-- the bytes that a source has still to give: those of its reader
abbrev pub source_left : {R : Type 0} → (R → Option (List ℕ)) → StdSource R → Option (List ℕ)
source_left remaining source = remaining source.reader

abbrev pub source_failed : {R : Type 0} → StdSource R → Bool
source_failed source = is_some source.cause

-- the bytes that a sink holds: those of its writer
abbrev pub sink_held : {W : Type 0} → (W → Option (List ℕ)) → StdSink W → Option (List ℕ)
sink_held contents sink = contents sink.writer

abbrev pub sink_failed : {W : Type 0} → StdSink W → Bool
sink_failed sink = is_some sink.cause
