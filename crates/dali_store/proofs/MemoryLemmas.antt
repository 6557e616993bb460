-- One more content joins those that a store in memory had, and one more time those before it.
use Rattle.std.proofs.Common.{◌≡◌, ◌⊎◌, inl, inr, ⊎_elim, ℕ, zero, suc, ◌≤◌, List, [], ◌∷◌, ◌++◌, length, drop, Vec}
use Rattle.std.proofs.Common.{refl, sym, subst, arith, length-append}
use Rattle.std.specs.declared.alloc.Global.{Global}
use Rattle.dali_store.specs.Stores.{Elapses, MayAlso}
use Rattle.dali_store.specs.Memory.{Contents, Times, HadBeen, HadBeenAt, MayBeLeft, MightBeLeft}

-- contents

stays : (contents : Contents) (v : Vec ℕ Global) (c : List ℕ) → HadBeen contents c → HadBeen (contents ++ v ∷ []) c
stays [] v c had = absurd had
stays (w ∷ contents) v c (inl here) = inl here
stays (w ∷ contents) v c (inr there) = inr (stays contents v c there)

splits : (contents : Contents) (v : Vec ℕ Global) (c : List ℕ) → HadBeen (contents ++ v ∷ []) c
    → HadBeen contents c ⊎ (c ≡ v.items)
splits [] v c (inl here) = inr here
splits [] v c (inr none) = absurd none
splits (w ∷ contents) v c (inl here) = inl (inl here)
splits (w ∷ contents) v c (inr there) = ⊎_elim (λ had. inl (inr had)) (λ new. inr new) (splits contents v c there)

newest : (contents : Contents) (v : Vec ℕ Global) (c : List ℕ) → c ≡ v.items → HadBeen (contents ++ v ∷ []) c
newest [] v c is = inl is
newest (w ∷ contents) v c is = inr (newest contents v c is)

-- what was there may still be left
still_left : (unsynced : Contents) (old : Vec ℕ Global) (new c : List ℕ) → MayBeLeft old.items unsynced c
    → MayBeLeft new (unsynced ++ old ∷ []) c
still_left unsynced old new c (inl now) = inr (newest unsynced old c now)
still_left unsynced old new c (inr had) = inr (stays unsynced old c had)

pub put_still : (unsynced then : Contents) (old : Vec ℕ Global) (new c : List ℕ) → then ≡ unsynced ++ old ∷ []
    → MayBeLeft old.items unsynced c → MayBeLeft new then c
put_still unsynced then old new c same left = rw same (still_left unsynced old new c left)

put_left : (unsynced : Contents) (old : Vec ℕ Global) (new : List ℕ)
    → MayAlso (λ c. c ≡ new) (MayBeLeft old.items unsynced) (MayBeLeft new (unsynced ++ old ∷ []))
put_left unsynced old new c (inl now) = inr now
put_left unsynced old new c (inr had) =
    ⊎_elim (λ before. inl (inr before)) (λ last. inl (inl last)) (splits unsynced old c had)

-- after a put a stop leaves what it might have left before, or the bytes that were put
pub put_stop : (unsynced then : Contents) (old : Vec ℕ Global) (new next : List ℕ) → then ≡ unsynced ++ old ∷ []
    → new ≡ next → MayAlso (λ c. c ≡ next) (MayBeLeft old.items unsynced) (MayBeLeft new then)
put_stop unsynced then old new next same is = rw (same, is) (put_left unsynced old next)

put_time : (unsynced : Contents) (past : Times) (old : Vec ℕ Global) (new : List ℕ)
    → Elapses (length past) (length past) (MightBeLeft old.items unsynced past)
    (MightBeLeft new (unsynced ++ old ∷ []) past) (MayBeLeft new (unsynced ++ old ∷ []))
put_time unsynced past old new = record {
  later = omega arith;
  nothing_else = λ t c le left. ⊎_elim (λ now. inr now) (λ had. inl (inr had)) left;
  keeps = λ t c le left. ⊎_elim (λ now. inl (still_left unsynced old new c now)) (λ had. inr had) left;
}

pub put_elapses : (unsynced then : Contents) (past later : Times) (old : Vec ℕ Global) (new : List ℕ)
    → then ≡ unsynced ++ old ∷ [] → later ≡ past
    → Elapses (length past) (length later) (MightBeLeft old.items unsynced past) (MightBeLeft new then later)
    (MayBeLeft new then)
put_elapses unsynced then past later old new same kept = rw (same, kept) (put_time unsynced past old new)

-- times

stays_at : (times : Times) (time : Vec (Vec ℕ Global) Global) (c : List ℕ) → HadBeenAt times c
    → HadBeenAt (times ++ time ∷ []) c
stays_at [] time c had = absurd had
stays_at (first ∷ times) time c (inl here) = inl here
stays_at (first ∷ times) time c (inr there) = inr (stays_at times time c there)

splits_at : (times : Times) (time : Vec (Vec ℕ Global) Global) (c : List ℕ) → HadBeenAt (times ++ time ∷ []) c
    → HadBeenAt times c ⊎ HadBeen time.items c
splits_at [] time c (inl here) = inr here
splits_at [] time c (inr none) = absurd none
splits_at (first ∷ times) time c (inl here) = inl (inl here)
splits_at (first ∷ times) time c (inr there) =
    ⊎_elim (λ had. inl (inr had)) (λ new. inr new) (splits_at times time c there)

newest_at : (times : Times) (time : Vec (Vec ℕ Global) Global) (c : List ℕ) → HadBeen time.items c
    → HadBeenAt (times ++ time ∷ []) c
newest_at [] time c had = inl had
newest_at (first ∷ times) time c had = inr (newest_at times time c had)

drop_push : (t : ℕ) (past : Times) (time : Vec (Vec ℕ Global) Global) → t ≤ length past
    → drop t (past ++ time ∷ []) ≡ drop t past ++ time ∷ []
drop_push zero past time le = refl
drop_push (suc t) [] time le = absurd (omega arith)
drop_push (suc t) (first ∷ past) time le = drop_push t past time (omega arith)

-- what might have been left since some moment before the last time
since : (bytes : List ℕ) (unsynced : Vec (Vec ℕ Global) Global) (past : Times) (t : ℕ) (c : List ℕ) → t ≤ length past
    → HadBeenAt (drop t (past ++ unsynced ∷ [])) c → MightBeLeft bytes unsynced.items past t c
since bytes unsynced past t c le had =
    ⊎_elim (λ was. inr was) (λ last. inl (inr last))
    (splits_at (drop t past) unsynced c (subst (λ (l : Times). HadBeenAt l c) (drop_push t past unsynced le) had))

settle_time : (bytes : List ℕ) (unsynced : Vec (Vec ℕ Global) Global) (past : Times)
    → Elapses (length past) (length (past ++ unsynced ∷ [])) (MightBeLeft bytes unsynced.items past)
    (MightBeLeft bytes [] (past ++ unsynced ∷ [])) (MayBeLeft bytes [])
settle_time bytes unsynced past = record {
  later = omega (arith, length-append past (unsynced ∷ []));
  nothing_else = λ t c le left. ⊎_elim (λ now. inr now) (λ had. inl (since bytes unsynced past t c le had)) left;
  keeps = λ t c le left.
      ⊎_elim (λ now. ⊎_elim (λ is. inl (inl is)) (λ had. moved t c le (newest_at (drop t past) unsynced c had)) now)
      (λ had. moved t c le (stays_at (drop t past) unsynced c had)) left;
}
  where
    moved : (t : ℕ) (c : List ℕ) → t ≤ length past → HadBeenAt (drop t past ++ unsynced ∷ []) c
        → MightBeLeft bytes [] (past ++ unsynced ∷ []) t c
    moved t c le had = inr (subst (λ (l : Times). HadBeenAt l c) (sym (drop_push t past unsynced le)) had)

pub settle_elapses : (bytes : List ℕ) (unsynced : Vec (Vec ℕ Global) Global) (then : Contents) (past later : Times)
    → then ≡ [] → later ≡ past ++ unsynced ∷ []
    → Elapses (length past) (length later) (MightBeLeft bytes unsynced.items past) (MightBeLeft bytes then later)
    (MayBeLeft bytes then)
settle_elapses bytes unsynced then past later none moved = rw (none, moved) (settle_time bytes unsynced past)
