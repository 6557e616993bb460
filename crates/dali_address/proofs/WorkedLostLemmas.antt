-- The losses in a census, and the units without a short address.
use Rattle.std.proofs.Common.{◌≡◌, ℕ, ◌≤◌, inl, inr, ◌⊎◌, List, [], ◌∷◌, Option, Some, None}
use Rattle.std.proofs.Common.{zero, suc, refl, sym, subst, ap, ◌∙◌, IsSome, arith, length}
use Rattle.dali_bus.specs.Chain.{IsChain}
use Rattle.dali_address.specs.Units.{Three, Disabled, Enabled, Withdrawn, Member, Units}
use Rattle.dali_address.specs.Obeys.{Does}
use Rattle.dali_address.specs.Steps.{Exchange, calls_of}
use Rattle.dali_address.specs.Census.{IsHeard, IsWhole, WasHeard, HasCounted}
use Rattle.dali_address.specs.Census.{highest, IsListed, IsEndOf}
use Rattle.dali_address.specs.declared.census.CensusEnd.TheVariants.{Apart}
use Rattle.dali_address.proofs.WorkedCensusLemmas.{unit, crowd, is_some, never, silent, drawn, checked, opened}
use Rattle.dali_address.proofs.WorkedCensusLemmas.{seven, sent_terminate, sent_initialise, sent_randomise, sent_high}
use Rattle.dali_address.proofs.WorkedCensusLemmas.{sent_middle, sent_low, same_on}
use Rattle.dali_address.proofs.OpeningLemmas.{none_drew}

-- a unit without a short address isn't apart
pub missing_is_not_apart : (many : ℕ) → IsEndOf (Apart many) (crowd 1 (unit None Withdrawn drawn highest)) → ⊥
missing_is_not_apart many is =
    never None refl (is.0.0 0 (unit None Withdrawn drawn highest) refl)

abbrev zeros : Three
zeros = record { high = 0; middle = 0; low = 0 }

abbrev unreached : ℕ → List Units
unreached zero = []
unreached (suc more) = crowd 1 (seven Disabled highest highest) ∷ unreached more

seeks : (exchange : Exchange)
    → Does (seven Disabled highest highest) exchange.call None (seven Disabled highest highest)
    → exchange.answer ≡ None
    → IsWhole (crowd 1 (seven Disabled highest highest)) exchange (crowd 1 (seven Disabled highest highest))
seeks exchange does none = silent 1 (seven Disabled highest highest) (seven Disabled highest highest) exchange does none

-- INITIALISE that counts in no unit: then none is counted, and one is there
pub unreached_is_whole : IsChain IsWhole (crowd 1 (seven Disabled highest highest)) (checked ∷ opened)
    (crowd 1 (seven Disabled highest highest)) (unreached 14)
unreached_is_whole = (
  seeks checked (refl, inr ((λ both. off_on both.0), refl)) refl,
  (
    seeks sent_high (inr (refl, refl), refl) refl,
    (
      seeks (sent_low 0xFF) (inr (refl, refl), refl) refl,
      (
        seeks sent_middle (inr (refl, refl), refl) refl,
        (
          seeks sent_high (inr (refl, refl), refl) refl,
          (
            seeks (sent_low 0xFF) (inr (refl, refl), refl) refl,
            (
              seeks sent_middle (inr (refl, refl), refl) refl,
              (
                seeks sent_high (inr (refl, refl), refl) refl,
                (
                  seeks sent_randomise (highest, (inl refl, refl)) refl,
                  (
                    seeks sent_randomise (highest, (inl refl, refl)) refl,
                    (
                      seeks sent_initialise (inl refl, refl) refl,
                      (
                        seeks sent_initialise (inl refl, refl) refl,
                        (
                          seeks sent_terminate (refl, refl) refl,
                          (seeks sent_terminate (refl, refl) refl, refl),
                        ),
                      ),
                    ),
                  ),
                ),
              ),
            ),
          ),
        ),
      ),
    ),
  ),
)
  where
    off_on : Disabled ≡ Enabled → ⊥
    off_on e = cc

pub unreached_is_not_counted : HasCounted (sent_initialise ∷ (sent_initialise ∷ []))
    (crowd 1 (seven Disabled highest highest)) → ⊥
unreached_is_not_counted counts = counts refl refl 0 (seven Disabled highest highest) refl refl

pub unreached_is_not_apart : IsEndOf (Apart 0) (crowd 1 (seven Disabled highest highest)) → ⊥
unreached_is_not_apart is = by is.1.numbers is.1.long ((is.1.each 0).0 refl)
  where
    by : (numbers : List ℕ) → length numbers ≡ 0 → IsListed 0 numbers → ⊥
    by [] long listed = listed
    by (one ∷ more) long listed = omega arith

-- an answer that didn't come back was lost
pub lost_answer_is_not_whole : IsWhole (crowd 1 (seven Enabled drawn highest)) checked
    (crowd 1 (seven Enabled drawn highest)) → ⊥
lost_answer_is_not_whole whole =
    let heard : IsHeard checked (seven Enabled drawn highest) (Some (seven Enabled drawn highest))
    = whole.heard 0 (seven Enabled drawn highest) refl in
    by heard.answer (λ some. heard.told some refl) heard.does.1
  where
    by : (answer : Option ℕ) → (IsSome answer → ⊥)
        → (((Enabled ≡ Enabled) × (16777214 ≤ 16777215)) × (answer ≡ Some 0xFF))
        ⊎ ((((Enabled ≡ Enabled) × (16777214 ≤ 16777215)) → ⊥) × (answer ≡ None)) → ⊥
    by answer told (inl (applies, same)) = told (subst (λ (o : Option ℕ). IsSome o) (sym same) refl)
    by answer told (inr (fails, same)) = fails (refl, omega arith)

-- and so was a frame that a unit didn't hear
pub lost_frame_is_not_whole : IsWhole (crowd 1 (seven Enabled drawn highest)) sent_terminate
    (crowd 1 (seven Enabled drawn highest)) → ⊥
lost_frame_is_not_whole whole =
    let heard : IsHeard sent_terminate (seven Enabled drawn highest) (Some (seven Enabled drawn highest))
    = whole.heard 0 (seven Enabled drawn highest) refl in
    let same : seven Enabled drawn highest ≡ heard.after = is_some _ _ heard.is in
    on_off (ap (λ (m : Member). m.phase) same ∙ heard.on.phase ∙ ap (λ (m : Member). m.phase) heard.does.0)
  where
    on_off : Enabled ≡ Disabled → ⊥
    on_off e = cc

-- a unit whose search address is this one
abbrev seeking : Three → Units
seeking search = crowd 1 (seven Enabled drawn search)

-- a unit that draws doesn't hear the fourth frame after RANDOMISE
pub fourth_is_heard : (past : List Exchange) (states : List Units)
    → WasHeard (sent_high ∷ (sent_low 0xFF ∷ (sent_middle ∷ (sent_high ∷ (sent_randomise ∷ past)))))
    (seeking zeros) (seeking zeros ∷ states)
fourth_is_heard past states = inr (
  inr (inr (inr (inl refl))),
  λ number member is. inr (record { after = member; is = is; on = same_on member }),
)

-- but the fifth, else that was lost
pub fifth_is_lost : (past : List Exchange) (states : List Units)
    → WasHeard (sent_middle ∷ (sent_high ∷ (sent_low 0xFF ∷ (sent_middle ∷ (sent_high ∷ (sent_randomise ∷ past))))))
    (seeking zeros) (seeking zeros ∷ states) → ⊥
fifth_is_lost past states (inl whole) =
    let heard : IsHeard sent_middle (seven Enabled drawn zeros) (Some (seven Enabled drawn zeros))
    = whole.heard 0 (seven Enabled drawn zeros) refl in
    let same : seven Enabled drawn zeros ≡ heard.after = is_some _ _ heard.is in
    let put : heard.obeyed.search.middle ≡ 0xFF = sought heard.obeyed heard.does.0 in
    no (ap (λ (m : Member). m.search.middle) same ∙ ap (λ (t : Three). t.middle) heard.on.search ∙ put)
  where
    on_off : Enabled ≡ Disabled → ⊥
    on_off e = cc

    sought : (new : Member)
        → (new ≡ seven Enabled drawn (record zeros { middle = 0xFF }))
        ⊎ ((Enabled ≡ Disabled) × (new ≡ seven Enabled drawn zeros)) → new.search.middle ≡ 0xFF
    sought new (inl is) = ap (λ (m : Member). m.search.middle) is
    sought new (inr (off, is)) = absurd (on_off off)

    no : (zeros).middle ≡ 0xFF → ⊥
    no e = omega arith
fifth_is_lost past states (inr (drawing, half)) =
    none_drew 4 (calls_of (sent_high ∷ (sent_low 0xFF ∷ (sent_middle ∷ (sent_high ∷ (sent_randomise ∷ past))))))
    ((λ e. cc), ((λ e. cc), ((λ e. cc), ((λ e. cc), tt)))) drawing
