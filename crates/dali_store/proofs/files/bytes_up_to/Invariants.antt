use Rattle.std.proofs.Common.{◌≤◌, length}
use Rattle.dali_store.proofs.files.bytes_up_to.Given as goal

abbrev pub invariant-loop : goal.invariant-loop
invariant-loop l = record { within : length l.bytes.items ≤ l.limit }
