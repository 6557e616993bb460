-- 64 units, each at its own short address.
use Rattle.std.proofs.Common.{◌≡◌, ℕ, ◌<◌, Bool, inl, inr, List, [], ◌∷◌, Option, Some, None}
use Rattle.std.proofs.Common.{zero, suc, refl, sym, subst, ap, ◌∙◌, IsSome, arith, length}
use Rattle.std.specs.Prelude.{◌==◌, cond}
use Rattle.std.proofs.lemmas.Bool.Decides.{eqb_tells}
use Rattle.dali_address.specs.Units.{Withdrawn, Member, Units}
use Rattle.dali_address.specs.Census.{highest, IsListed, IsListedOnce, IsEndOf}
use Rattle.dali_address.specs.declared.census.CensusEnd.TheVariants.{Apart}
use Rattle.dali_address.proofs.WorkedCensusLemmas.{unit, is_some, none_there, never, drawn}

-- this many units, each at its own short address
abbrev at_own : ℕ → Member
at_own number = unit (Some number) Withdrawn drawn highest

abbrev full : ℕ → Units
full zero number = None
full (suc more) number = cond (number == more) (Some (at_own more)) (full more number)

abbrev below : ℕ → List ℕ
below zero = []
below (suc more) = more ∷ below more

own : (many number : ℕ) (member : Member) → full many number ≡ Some member → member.short ≡ Some number
own zero number member is = absurd (none_there member is)
own (suc more) number member is = elim (eqb_tells number more) [
  | inl (test, same) ↦
      let here : Some (at_own more) ≡ Some member
      = subst (λ (b : Bool). cond b (Some (at_own more)) (full more number) ≡ Some member) test is in
      ap (λ (m : Member). m.short) (sym (is_some (at_own more) member here)) ∙ ap (λ (n : ℕ). Some n) (sym same)
  | inr (test, other) ↦
      own more number member
      (subst (λ (b : Bool). cond b (Some (at_own more)) (full more number) ≡ Some member) test is)
]

listed : (many number : ℕ) → IsSome (full many number) → IsListed number (below many)
listed zero number some = absurd (never None refl some)
listed (suc more) number some = elim (eqb_tells number more) [
  | inl (test, same) ↦ inl same
  | inr (test, other) ↦
      inr (listed more number (subst (λ (b : Bool). IsSome (cond b (Some (at_own more)) (full more number))) test some))
]

unlisted : (many number : ℕ) → IsListed number (below many) → number < many
unlisted zero number is = absurd is
unlisted (suc more) number (inl same) = omega arith
unlisted (suc more) number (inr is) = let low : number < more = unlisted more number is in omega arith

filled : (many number : ℕ) → number < many → IsSome (full many number)
filled zero number low = absurd (omega arith)
filled (suc more) number low = elim (eqb_tells number more) [
  | inl (test, same) ↦
      subst (λ (b : Bool). IsSome (cond b (Some (at_own more)) (full more number))) (sym test) refl
  | inr (test, other) ↦
      subst (λ (b : Bool). IsSome (cond b (Some (at_own more)) (full more number))) (sym test)
      (filled more number (omega arith))
]

once : (many : ℕ) → IsListedOnce (below many)
once zero = tt
once (suc more) = ((λ is. let low : more < more = unlisted more more is in omega arith), once more)

below_long : (many : ℕ) → length (below many) ≡ many
below_long zero = refl
below_long (suc more) = let long : length (below more) ≡ more = below_long more in omega arith

same_short : (one two : ℕ) → Some one ≡ Some two → one ≡ two
same_short one two e = cc

full_is_apart : (many : ℕ) → IsEndOf (Apart many) (full many)
full_is_apart many = (
  (
    λ number member is. subst (λ (o : Option ℕ). IsSome o) (sym (own many number member is)) refl,
    λ short one two at_one at_two.
        same_short one short (sym (own many one at_one.member at_one.there) ∙ at_one.has)
        ∙ same_short short two (sym at_two.has ∙ own many two at_two.member at_two.there),
  ),
  record {
    numbers = below many;
    long = below_long many;
    once = once many;
    each = λ number. (listed many number, λ is. filled many number (unlisted many number is));
  },
)

-- 64 units, each at its own short address
pub sixty_four_are_apart : IsEndOf (Apart 64) (full 64)
sixty_four_are_apart = full_is_apart 64
