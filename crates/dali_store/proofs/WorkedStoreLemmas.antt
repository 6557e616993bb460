-- The effect of the calls of a store on small bytes and the bytes that a stop may leave of them, and near cases that
-- aren't so.
use Rattle.std.proofs.Common.{◌≡◌, ◌⊎◌, inl, inr, refl, arith, ℕ, List, [], ◌∷◌, Some, None, Vec, true, false}
use Rattle.std.specs.declared.alloc.Global.{Global}
use Rattle.dali_store.specs.Stores.{Shows, IsDurable, IsBetween, IsBehind, MayAlso, Elapses, LeavesOnly}
use Rattle.dali_store.specs.Stores.{Takes, is_refusal, IsWithin, IsLonger, CutsTo, Becomes, KeepsOrBecomes}
use Rattle.dali_store.specs.Memory.{MayBeLeft, MightBeLeft}

-- The bytes that a stop leaves

-- it leaves these bytes, and these alone
abbrev Just : List ℕ → List ℕ → Type 0
Just bytes c = c ≡ bytes

-- it leaves the one or the other
abbrev Either : List ℕ → List ℕ → List ℕ → Type 0
Either one other c = (c ≡ one) ⊎ (c ≡ other)

pub shown : Shows (Some (1 ∷ [])) (1 ∷ [])
shown = refl

pub no_other_shown : Shows (Some (1 ∷ [])) (2 ∷ []) → ⊥
no_other_shown shows = cc

pub settled : IsDurable (Some (1 ∷ 2 ∷ [])) (Just (1 ∷ 2 ∷ []))
settled c left = left

pub unsynced_isnt_settled : IsDurable (Some (1 ∷ 2 ∷ [])) (Either (1 ∷ 2 ∷ []) (1 ∷ [])) → ⊥
unsynced_isnt_settled settled = let lost = settled (1 ∷ []) (inr refl) in cc

pub each_part_between : IsBetween (Some (1 ∷ [])) (Some (1 ∷ 2 ∷ [])) (1 ∷ [])
    × IsBetween (Some (1 ∷ [])) (Some (1 ∷ 2 ∷ 3 ∷ [])) (1 ∷ 2 ∷ [])
    × IsBetween (Some (1 ∷ [])) (Some (1 ∷ 2 ∷ [])) (1 ∷ 2 ∷ [])
each_part_between = (([], 2 ∷ [], refl, refl), (2 ∷ [], 3 ∷ [], refl, refl), (2 ∷ [], [], refl, refl))

pub fewer_arent_between : IsBetween (Some (1 ∷ [])) (Some (1 ∷ 2 ∷ [])) [] → ⊥
fewer_arent_between (more, rest, front, whole) = cc

pub more_arent_between : IsBetween (Some (1 ∷ [])) (Some (1 ∷ 2 ∷ [])) (1 ∷ 2 ∷ 3 ∷ []) → ⊥
more_arent_between (more, rest, front, whole) = cc

pub others_arent_between : IsBetween (Some (1 ∷ [])) (Some (1 ∷ 2 ∷ 3 ∷ [])) (1 ∷ 3 ∷ []) → ⊥
others_arent_between (more, rest, front, whole) = cc

pub each_cut_behind : IsBehind 1 (Some (1 ∷ 2 ∷ 3 ∷ [])) (1 ∷ 2 ∷ []) × IsBehind 1 (Some (1 ∷ 2 ∷ [])) (1 ∷ [])
each_cut_behind = ((omega arith, 3 ∷ [], refl), (omega arith, 2 ∷ [], refl))

pub fewer_arent_behind : IsBehind 1 (Some (1 ∷ 2 ∷ [])) [] → ⊥
fewer_arent_behind behind = omega (arith, behind.0)

pub others_arent_behind : (IsBehind 1 (Some (1 ∷ 2 ∷ [])) (1 ∷ 2 ∷ 3 ∷ []) → ⊥)
    × (IsBehind 1 (Some (1 ∷ 2 ∷ [])) (1 ∷ 3 ∷ []) → ⊥)
others_arent_behind = ((λ (_, rest, same). cc), (λ (_, rest, same). cc))

pub may_also : MayAlso (Just (2 ∷ [])) (Just (1 ∷ [])) (Either (1 ∷ []) (2 ∷ []))
may_also c left = left

pub no_third_also : MayAlso (Just (2 ∷ [])) (Just (1 ∷ [])) (Either (1 ∷ []) (3 ∷ [])) → ⊥
no_third_also also = by (also (3 ∷ []) (inr refl)) where
  by : Either (1 ∷ []) (2 ∷ []) (3 ∷ []) → ⊥
  by (inl first) = cc
  by (inr second) = cc

pub elapses : Elapses 0 1 (λ t. Just (1 ∷ [])) (λ t. Either (1 ∷ []) (2 ∷ [])) (Just (2 ∷ []))
elapses = record { later = omega arith; nothing_else = λ t c le left. left; keeps = λ t c le was. inl was }

pub doesnt_fall : Elapses 1 0 (λ t. Just (1 ∷ [])) (λ t. Just (1 ∷ [])) (Just (1 ∷ [])) → ⊥
doesnt_fall time = omega (arith, time.later)

pub forgets_nothing : Elapses 0 1 (λ t. Just (1 ∷ [])) (λ t. Just (2 ∷ [])) (Just (2 ∷ [])) → ⊥
forgets_nothing time = let kept = time.keeps 0 (1 ∷ []) (omega arith) refl in cc

pub makes_nothing_up : Elapses 0 1 (λ t. Just (1 ∷ [])) (λ t. Either (1 ∷ []) (3 ∷ [])) (Just (1 ∷ [])) → ⊥
makes_nothing_up time = by (time.nothing_else 0 (3 ∷ []) (omega arith) (inr refl)) where
  by : Either (1 ∷ []) (1 ∷ []) (3 ∷ []) → ⊥
  by (inl past) = cc
  by (inr now) = cc

-- of stores that are numbers: what might have been left since is known of all
pub leaves_only : LeavesOnly (λ s. s) (λ s t. Either (1 ∷ []) (2 ∷ [])) 0 1 (Either (1 ∷ []) (2 ∷ []))
leaves_only = record { later = omega arith; each = λ c left. left; before = λ t c le left. inr left }

pub leaves_no_other : LeavesOnly (λ s. s) (λ s t. Either (1 ∷ []) (2 ∷ [])) 0 1 (Just (1 ∷ [])) → ⊥
leaves_no_other only = let left = only.each (2 ∷ []) (inr refl) in cc

pub leaves_nothing_before : LeavesOnly (λ s. s) (λ s t. Just (1 ∷ [])) 1 0 (Just (1 ∷ [])) → ⊥
leaves_nothing_before only = omega (arith, only.later)

-- The effect of the calls

pub takes_a_part : Takes (Some (1 ∷ [])) (Some (1 ∷ 2 ∷ [])) (Some 1) (2 ∷ 3 ∷ [])
takes_a_part = (omega arith, refl)

pub no_more_than_told : Takes (Some (1 ∷ [])) (Some (1 ∷ 2 ∷ 3 ∷ [])) (Some 1) (2 ∷ 3 ∷ []) → ⊥
no_more_than_told takes = let put = takes.1 in cc

pub no_more_than_there_is : Takes (Some (1 ∷ [])) (Some (1 ∷ 2 ∷ [])) (Some 2) (2 ∷ []) → ⊥
no_more_than_there_is takes = omega (arith, takes.0)

pub refused_with_a_part : Takes (Some (1 ∷ [])) (Some (1 ∷ 2 ∷ [])) None (2 ∷ 3 ∷ [])
refused_with_a_part = (1, omega arith, refl)

pub failures_tell : (is_refusal None ≡ true) × (is_refusal (Some 0) ≡ true) × (is_refusal (Some 1) ≡ false)
failures_tell = (refl, refl, refl)

pub cuts : CutsTo 1 (Some (1 ∷ 2 ∷ [])) (Some (1 ∷ [])) true
cuts = refl

pub cuts_no_less : CutsTo 1 (Some (1 ∷ 2 ∷ [])) (Some (1 ∷ 2 ∷ [])) true → ⊥
cuts_no_less first = cc

pub cuts_no_more : CutsTo 1 (Some (1 ∷ 2 ∷ [])) (Some []) true → ⊥
cuts_no_more first = cc

pub failed_cut_cuts_nothing : CutsTo 1 (Some (1 ∷ 2 ∷ [])) (Some (1 ∷ [])) false → ⊥
failed_cut_cuts_nothing keeps = cc

pub within : IsWithin 2 (Some (1 ∷ 2 ∷ [])) × (IsWithin 3 (Some (1 ∷ 2 ∷ [])) → ⊥)
within = (omega arith, λ less. omega (arith, less))

pub longer : IsLonger 1 (Some (1 ∷ 2 ∷ [])) × (IsLonger 2 (Some (1 ∷ 2 ∷ [])) → ⊥)
longer = (omega arith, λ more. omega (arith, more))

pub becomes : Becomes (Some (1 ∷ [])) (Some (2 ∷ [])) (2 ∷ [])
becomes = refl

pub becomes_no_other : Becomes (Some (1 ∷ [])) (Some (1 ∷ [])) (2 ∷ []) → ⊥
becomes_no_other is = cc

pub keeps_or_becomes : KeepsOrBecomes (Some (1 ∷ [])) (Some (1 ∷ [])) (2 ∷ 3 ∷ [])
    × KeepsOrBecomes (Some (1 ∷ [])) (Some (2 ∷ 3 ∷ [])) (2 ∷ 3 ∷ [])
keeps_or_becomes = (inl refl, inr refl)

pub half_isnt_replaced : KeepsOrBecomes (Some (1 ∷ [])) (Some (2 ∷ [])) (2 ∷ 3 ∷ []) → ⊥
half_isnt_replaced (inl keeps) = cc
half_isnt_replaced (inr becomes) = cc

pub become_unknown_isnt_become : Becomes (Some (1 ∷ [])) None (2 ∷ []) → ⊥
become_unknown_isnt_become forgotten = forgotten

-- The bytes that a store in memory may leave

pub unsynced_may_be_left : (v : Vec ℕ Global) → v.items ≡ 1 ∷ [] → MayBeLeft (1 ∷ 2 ∷ []) (v ∷ []) (1 ∷ [])
unsynced_may_be_left v is = inr (inl (grind arith))

pub synced_is_left : MayBeLeft (1 ∷ 2 ∷ []) [] (1 ∷ []) → ⊥
synced_is_left (inl now) = cc
synced_is_left (inr none) = none

pub past_might_be_left : (time : Vec (Vec ℕ Global) Global) (v : Vec ℕ Global) → v.items ≡ 1 ∷ [] → time.items ≡ v ∷ []
    → MightBeLeft (1 ∷ 2 ∷ []) [] (time ∷ []) 0 (1 ∷ []) × (MightBeLeft (1 ∷ 2 ∷ []) [] (time ∷ []) 1 (1 ∷ []) → ⊥)
past_might_be_left time v is had = (inr (inl (rw (had, is) (inl refl))), no) where
  no : MightBeLeft (1 ∷ 2 ∷ []) [] (time ∷ []) 1 (1 ∷ []) → ⊥
  no (inl now) = synced_is_left now
  no (inr none) = none
