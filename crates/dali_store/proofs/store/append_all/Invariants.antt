use Rattle.std.proofs.Common.{length, take, ◌-◌, ◌≡◌, ◌≤◌, List, ℕ}
use Rattle.std.specs.Io.KnownBytes.{Appends}
use Rattle.dali_store.specs.Stores.{IsDurable, IsBetween, LeavesOnly}
use Rattle.dali_store.proofs.store.append_all.Given as goal

abbrev pub invariant-loop-done : goal.invariant-loop-done
invariant-loop-done g l = record {
  within : l.done ≤ length l.bytes;
  bytes : Appends (g.S.Store.seen l.fn.store) (g.S.Store.seen l.store) (take l.done l.bytes);
  stop : IsDurable (g.S.Store.seen l.fn.store) (g.S.Store.may_leave l.fn.store) → (c : List ℕ)
      → g.S.Store.may_leave l.store c → IsBetween (g.S.Store.seen l.fn.store) (g.S.Store.seen l.store) c;
  moments : IsDurable (g.S.Store.seen l.fn.store) (g.S.Store.may_leave l.fn.store)
      → LeavesOnly g.S.Store.moment g.S.Store.left_since l.fn.store l.store
      (IsBetween (g.S.Store.seen l.fn.store) (g.S.Store.seen l.store));
  failed : g.S.Store.failed l.store ≡ g.S.Store.failed l.fn.store;
}

abbrev pub decreases-loop-done : goal.decreases-loop-done
decreases-loop-done g l = length l.bytes - l.done
