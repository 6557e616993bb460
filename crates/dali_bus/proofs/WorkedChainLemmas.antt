-- Chains of numbers, each event of which adds to the state: near the edges of what a chain is, and of what holds along
-- it.
use Rattle.std.proofs.Common.{◌≡◌, refl, ℕ, ◌+◌, List, [], ◌∷◌, length}
use Rattle.dali_bus.specs.Chain.{IsChain, AtEachState, AtEachMoment}

abbrev Adds : ℕ → ℕ → ℕ → Type 0
Adds old event new = new ≡ old + event

pub two_steps : IsChain Adds 1 (3 ∷ 2 ∷ []) 6 (3 ∷ 1 ∷ [])
two_steps = (refl, (refl, refl))

pub not_from_another : IsChain Adds 0 (3 ∷ 2 ∷ []) 6 (3 ∷ 1 ∷ []) → ⊥
not_from_another chain = let never : 1 ≡ 0 = chain.1.1 in cc

pub not_by_a_wrong_step : IsChain Adds 1 (3 ∷ 2 ∷ []) 6 (4 ∷ 1 ∷ []) → ⊥
not_by_a_wrong_step chain = let never : 4 ≡ 3 = chain.1.0 in cc

pub not_through_too_few : IsChain Adds 1 (3 ∷ 2 ∷ []) 6 (3 ∷ []) → ⊥
not_through_too_few chain = chain.1

pub not_through_too_many : IsChain Adds 1 [] 1 (1 ∷ []) → ⊥
not_through_too_many chain = chain

-- as many events as the state says, and as many states before it
abbrev Counts : List ℕ → ℕ → Type 0
Counts past state = state ≡ length past

abbrev CountsStates : List ℕ → ℕ → List ℕ → Type 0
CountsStates past state states = length states ≡ length past

pub each_counts : AtEachMoment Counts (7 ∷ []) 1 (0 ∷ [])
each_counts = (refl, refl)

pub not_at_the_last_alone : AtEachMoment Counts (7 ∷ []) 1 (5 ∷ []) → ⊥
not_at_the_last_alone each = let never : 5 ≡ 0 = each.1 in cc

pub not_at_the_first_alone : AtEachMoment Counts (7 ∷ []) 5 (0 ∷ []) → ⊥
not_at_the_first_alone each = let never : 5 ≡ 1 = each.0 in cc

pub not_with_too_few : AtEachMoment Counts (7 ∷ []) 1 [] → ⊥
not_with_too_few each = each

pub not_with_too_many : AtEachMoment Counts [] 0 (0 ∷ []) → ⊥
not_with_too_many each = each

pub each_counts_its_states : AtEachState CountsStates (7 ∷ 7 ∷ []) 2 (1 ∷ 0 ∷ [])
each_counts_its_states = (refl, (refl, refl))
