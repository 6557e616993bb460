-- A census keeps of short addresses the ones that were answered.
use Rattle.std.proofs.Common.{◌≡◌, ◌≢◌, ◌+◌, ◌<◌, ℕ, Bool, true, false, inl, inr, List, [], ◌∷◌, refl, sym, subst}
use Rattle.std.proofs.Common.{ap, ◌∙◌, length, get_or, get_or-set_same, get_or-set_other, arith, eq-eqb}
use Rattle.std.specs.Prelude.{◌==◌, ◌||◌, ◌&&◌, slice_set}
use Rattle.std.proofs.lemmas.Bool.{ne_eqb}
use Rattle.std.proofs.lemmas.Bool.Decides.{eqb_tells}
use Rattle.dali_address.specs.Calls.{short_byte}
use Rattle.dali_address.specs.Tallying.{Counted, IsIn}
use Rattle.dali_address.specs.Marking.{IsNoShort, is_told, is_told_twice, AreApart, AreMarks, MarksShort, MarksMissing}
use Rattle.dali_address.specs.declared.sharing.Marks.{Marks}

-- the mark of a short address other than the one that was answered now
other_byte : (told short one : ℕ) → told ≡ short_byte short → one ≢ short → (told == short_byte one) ≡ false
other_byte told short one is other = ne_eqb told (short_byte one) (λ same. other (omega arith))

same_byte : (told short one : ℕ) → told ≡ short_byte short → one ≡ short → (told == short_byte one) ≡ true
same_byte told short one is same = eq-eqb told (short_byte one) (omega arith)

-- a flag that was set at a short address
set_at : (flags : List Bool) (short one : ℕ) (flag : Bool) → short < length flags → one ≡ short
    → get_or (slice_set flags short flag) one false ≡ flag
set_at flags short one flag within same =
    subst (λ (it : ℕ). get_or (slice_set flags short flag) it false ≡ flag) (sym same)
    (get_or-set_same flags short flag false within)

set_other : (flags : List Bool) (short one : ℕ) (flag : Bool) → one ≢ short
    → get_or (slice_set flags short flag) one false ≡ get_or flags one false
set_other flags short one flag other = get_or-set_other flags short one flag false other

told_marked : (flags : List Bool) (short one told : ℕ) (before : Bool) → short < length flags
    → told ≡ short_byte short → get_or flags one false ≡ before
    → get_or (slice_set flags short true) one false ≡ ((told == short_byte one) || before)
told_marked flags short one told before within is was = elim (eqb_tells one short) [
  | inl (test, same) ↦
      let now : (told == short_byte one) ≡ true = same_byte told short one is same in
      subst (λ (it : Bool). get_or (slice_set flags short true) one false ≡ (it || before)) (sym now)
      (set_at flags short one true within same)
  | inr (test, other) ↦
      let now : (told == short_byte one) ≡ false = other_byte told short one is other in
      subst (λ (it : Bool). get_or (slice_set flags short true) one false ≡ (it || before)) (sym now)
      (set_other flags short one true other ∙ was)
]

twice_marked : (flags : List Bool) (short one told : ℕ) (now seen twice : Bool) → short < length flags
    → told ≡ short_byte short → get_or flags one false ≡ twice → (one ≡ short → now ≡ (seen || twice))
    → get_or (slice_set flags short now) one false ≡ (((told == short_byte one) && seen) || twice)
twice_marked flags short one told now seen twice within is was set = elim (eqb_tells one short) [
  | inl (test, same) ↦
      let it : (told == short_byte one) ≡ true = same_byte told short one is same in
      subst (λ (b : Bool). get_or (slice_set flags short now) one false ≡ ((b && seen) || twice)) (sym it)
      (set_at flags short one now within same ∙ set same)
  | inr (test, other) ↦
      let it : (told == short_byte one) ≡ false = other_byte told short one is other in
      subst (λ (b : Bool). get_or (slice_set flags short now) one false ≡ ((b && seen) || twice)) (sym it)
      (set_other flags short one now other ∙ was)
]

-- each was answered once, and so is one that wasn't answered before
once_more : (short one told : ℕ) (seen twice : Bool) → told ≡ short_byte short → (one ≡ short → seen ≡ false)
    → twice ≡ false → (((told == short_byte one) && seen) || twice) ≡ false
once_more short one told seen twice is fresh once = elim (eqb_tells one short) [
  | inl (test, same) ↦
      let now : (told == short_byte one) ≡ true = same_byte told short one is same in
      subst (λ (b : Bool). ((b && seen) || twice) ≡ false) (sym now)
      (subst (λ (b : Bool). (b || twice) ≡ false) (sym (fresh same)) once)
  | inr (test, other) ↦
      let now : (told == short_byte one) ≡ false = other_byte told short one is other in
      subst (λ (b : Bool). ((b && seen) || twice) ≡ false) (sym now) once
]

apart_more : (counted : List Counted) (one : Counted) (short before after : ℕ) → short < 64
    → one.told ≡ short_byte short → AreApart counted before → is_told counted (short_byte short) ≡ false
    → after ≡ before + 1 → AreApart (one ∷ counted) after
apart_more counted one short before after within is apart fresh more =
    record {
      many = let long : length counted ≡ before = apart.many in omega arith;
      once = λ other below.
          once_more short other one.told (is_told counted (short_byte other))
          (is_told_twice counted (short_byte other)) is
          (λ same. ap (λ (it : ℕ). is_told counted (short_byte it)) same ∙ fresh) (apart.once other below);
      spelled = spelled;
    }
  where
    spelled : (it : Counted) → IsIn it (one ∷ counted) → IsNoShort it.told → ⊥
    spelled it (inl same) never = never short within (ap (λ (c : Counted). c.told) same ∙ is)
    spelled it (inr later) never = apart.spelled it later never

pub short_marked : (old new : Marks) (byte short : ℕ) → short < 64 → byte ≡ short_byte short
    → MarksShort old short new → (counted : List Counted) (one : Counted) → one.told ≡ byte → AreMarks old counted
    → AreMarks new (one ∷ counted)
short_marked old new byte short within spells marks counted one told are =
    record {
      seen = λ it below. rw marks.seen
          (told_marked old.seen short it one.told (is_told counted (short_byte it)) marks.long_seen is
          (are.seen it below));
      shared = λ it below. rw marks.addresses
          (twice_marked old.sharing.addresses short it one.told _ (is_told counted (short_byte it))
          (is_told_twice counted (short_byte it)) marks.long_addresses is (are.shared it below) (both it below));
      missing = λ on.
          let (it, there, never) = are.missing (sym marks.missing ∙ on) in (it, inr there, never);
      complete = complete;
      apart = λ on.
          let (was, fresh, more) = marks.apart on in
          apart_more counted one short old.count new.count within is (are.apart was)
          (sym (are.seen short within) ∙ fresh) more;
    }
  where
    is : one.told ≡ short_byte short
    is = told ∙ spells

    both : (it : ℕ) → it < 64 → it ≡ short
        → (get_or old.seen short false || get_or old.sharing.addresses short false)
        ≡ (is_told counted (short_byte it) || is_told_twice counted (short_byte it))
    both it below same =
        let P : Bool → Bool → Bool = λ a b. a || b in
        subst (λ (s : ℕ). (get_or old.seen short false || get_or old.sharing.addresses short false)
        ≡ (is_told counted (short_byte s) || is_told_twice counted (short_byte s))) (sym same)
        (ap (λ (a : Bool). P a (get_or old.sharing.addresses short false)) (are.seen short within)
        ∙ ap (λ (b : Bool). P (is_told counted (short_byte short)) b) (are.shared short within))

    complete : new.sharing.has_missing ≡ false → (it : Counted) → IsIn it (one ∷ counted) → IsNoShort it.told → ⊥
    complete off it (inl same) never = never short within (ap (λ (c : Counted). c.told) same ∙ is)
    complete off it (inr later) never = are.complete (sym marks.missing ∙ off) it later never

on_off : (flag : Bool) → flag ≡ true → flag ≡ false → ⊥
on_off flag on off = cc

pub missing_marked : (old new : Marks) (byte : ℕ) → IsNoShort byte → MarksMissing old new
    → (counted : List Counted) (one : Counted) → one.told ≡ byte → AreMarks old counted → AreMarks new (one ∷ counted)
missing_marked old new byte never marks counted one told are =
    record {
      seen = λ it below.
          subst (λ (b : Bool). get_or new.seen it false ≡ (b || is_told counted (short_byte it))) (sym (none it below))
          (rw marks.seen (are.seen it below));
      shared = λ it below.
          subst (λ (b : Bool). get_or new.sharing.addresses it false
          ≡ ((b && is_told counted (short_byte it)) || is_told_twice counted (short_byte it))) (sym (none it below))
          (rw marks.addresses (are.shared it below));
      missing = λ on. (one, inl refl, λ short within same. never short within (sym told ∙ same));
      complete = λ off. absurd (on_off new.sharing.has_missing marks.missing off);
      apart = λ on. absurd (on_off new.is_apart on marks.apart);
    }
  where
    none : (it : ℕ) → it < 64 → (one.told == short_byte it) ≡ false
    none it below = ne_eqb one.told (short_byte it) (λ same. never it below (sym told ∙ same))

-- if nothing was answered
pub unmarked : (marks : Marks)
    → ((short : ℕ) → short < 64 → get_or marks.seen short false ≡ false)
    → ((short : ℕ) → short < 64 → get_or marks.sharing.addresses short false ≡ false)
    → marks.sharing.has_missing ≡ false → marks.count ≡ 0 → AreMarks marks []
unmarked marks seen addresses missing count =
    record {
      seen = seen;
      shared = addresses;
      missing = λ on. absurd (on_off marks.sharing.has_missing on missing);
      complete = λ off it never spelled. never;
      apart = λ on. record {
        many = sym count;
        once = λ short within. refl;
        spelled = λ it never spelled. never;
      };
    }
