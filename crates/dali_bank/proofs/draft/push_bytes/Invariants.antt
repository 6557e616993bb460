use Rattle.std.proofs.Common.{◌≡◌, ◌+◌, ◌++◌, take}
use Rattle.dali_bank.specs.Draft.{placed_at}
use Rattle.dali_bank.proofs.draft.push_bytes.Given as goal

abbrev pub invariant-loop-byte : goal.invariant-loop-byte
invariant-loop-byte l = record {
  pushed : l.updates.items ≡ l.initial.updates.items ++ placed_at l.first (take l.byte-index l.bytes);
  next : l.location ≡ l.first + l.byte-index;
}
