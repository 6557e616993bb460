-- Chains of states: one before the first happening, and one after each. Happenings and states are listed newest first.
use Rattle.std.specs.Prelude.{◌≡◌, List, [], ◌∷◌}

-- from the first state the happenings of the past lead to the last state, through these states before it
abbrev pub IsChain : {S E : Type 0} → (S → E → S → Type 0) → S → List E → S → List S → Type 0
IsChain step first [] last [] = last ≡ first
IsChain step first (newest ∷ past) last (state ∷ states) = step state newest last × IsChain step first past state states
IsChain step first past last states = ⊥

-- it holds at each moment: of what happened up to there, the state there, and those before it
abbrev pub AtEachState : {S E : Type 0} → (List E → S → List S → Type 0) → List E → S → List S → Type 0
AtEachState holds [] last [] = holds [] last []
AtEachState holds (newest ∷ past) last (state ∷ states) =
    holds (newest ∷ past) last (state ∷ states) × AtEachState holds past state states
AtEachState holds past last states = ⊥

-- the same, of what happened up to there and the state there alone
abbrev pub AtEachMoment : {S E : Type 0} → (List E → S → Type 0) → List E → S → List S → Type 0
AtEachMoment holds = AtEachState (λ past state states. holds past state)

-- the happenings lead from the first state to the last one, through some states
pub record Chain {S E : Type 0} (step : S → E → S → Type 0) (first : S) (past : List E) (last : S) : Type 0 where
  pub states : List S
  pub steps : IsChain step first past last states
