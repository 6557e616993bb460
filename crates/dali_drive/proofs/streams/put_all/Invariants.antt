use Rattle.std.proofs.Common.{length, take, ◌-◌, ◌≡◌, ◌≤◌}
use Rattle.std.specs.Io.KnownBytes.{Appends}
use Rattle.dali_drive.proofs.streams.put_all.Given as goal

abbrev pub invariant-loop-done : goal.invariant-loop-done
invariant-loop-done g l = record {
  within : l.done ≤ length l.bytes;
  bytes : Appends (g.S.Sink.held l.fn.sink) (g.S.Sink.held l.sink) (take l.done l.bytes);
  unflushed : g.S.Sink.flushed l.sink ≡ g.S.Sink.flushed l.fn.sink;
  failed : g.S.Sink.failed l.sink ≡ g.S.Sink.failed l.fn.sink;
}

abbrev pub decreases-loop-done : goal.decreases-loop-done
decreases-loop-done g l = length l.bytes - l.done
