-- The bytes that a store in memory shows, and those that a stop may leave of it or might have left.
use Rattle.std.specs.Prelude.{◌≡◌, ◌⊎◌, ℕ, List, [], ◌∷◌, Some, length, drop, Vec, Bool}
use mathlib.Core.Logic.{inl, inr}
use Rattle.std.proofs.Common.{sym}
use Rattle.std.proofs.lemmas.Option.{same_Some}
use Rattle.std.specs.declared.alloc.Global.{Global}
use Rattle.dali_store.specs.declared.memory.MemoryStore.{MemoryStore}

-- contents that it had, and such contents of one time after another
abbrev pub Contents : Type 0
Contents = List (Vec ℕ Global)

abbrev pub Times : Type 0
Times = List (Vec (Vec ℕ Global) Global)

abbrev pub memory_bytes : MemoryStore → List ℕ
memory_bytes store = store.bytes.items

abbrev pub memory_unsynced : MemoryStore → Contents
memory_unsynced store = store.unsynced.items

abbrev pub memory_past : MemoryStore → Times
memory_past store = store.past.items

abbrev pub memory_failed : MemoryStore → Bool
memory_failed store = store.failed

-- one of the contents is this
abbrev pub HadBeen : Contents → List ℕ → Type 0
HadBeen [] c = ⊥
HadBeen (v ∷ contents) c = (c ≡ v.items) ⊎ HadBeen contents c

-- one of those of some time is this
abbrev pub HadBeenAt : Times → List ℕ → Type 0
HadBeenAt [] c = ⊥
HadBeenAt (time ∷ times) c = HadBeen time.items c ⊎ HadBeenAt times c

-- what is there, or was there since the last sync
abbrev pub MayBeLeft : List ℕ → Contents → List ℕ → Type 0
MayBeLeft bytes unsynced c = (c ≡ bytes) ⊎ HadBeen unsynced c

-- the same, or what might have been left at a time from that one on
abbrev pub MightBeLeft : List ℕ → Contents → Times → ℕ → List ℕ → Type 0
MightBeLeft bytes unsynced past t c = MayBeLeft bytes unsynced c ⊎ HadBeenAt (drop t past) c

-- the same of a store
abbrev pub memory_leaves : MemoryStore → List ℕ → Type 0
memory_leaves store c = MayBeLeft store.bytes.items store.unsynced.items c

abbrev pub memory_left : MemoryStore → ℕ → List ℕ → Type 0
memory_left store t c = MightBeLeft store.bytes.items store.unsynced.items store.past.items t c

none_left : (past : Times) (c : List ℕ) → HadBeenAt (drop (length past) past) c → ⊥
none_left [] c had = had
none_left (time ∷ past) c had = none_left past c had

-- since the last of them there is what may be left now
pub only_now : (bytes : List ℕ) (unsynced : Contents) (past : Times) (c : List ℕ)
    → MightBeLeft bytes unsynced past (length past) c → MayBeLeft bytes unsynced c
only_now bytes unsynced past c (inl now) = now
only_now bytes unsynced past c (inr had) = absurd (none_left past c had)

-- what is there may be left
pub seen_left : (store : MemoryStore) (c : List ℕ) → Some store.bytes.items ≡ Some c → memory_leaves store c
seen_left store c is = inl (sym (same_Some store.bytes.items c is))
