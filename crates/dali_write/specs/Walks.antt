-- The whole accesses of a session, the oldest first, and how many tries missed.
use Rattle.std.specs.Prelude.{◌≡◌, ℕ, ◌+◌, ◌*◌, ◌≤◌, List, [], ◌∷◌, ◌++◌, length, Option, Some}
use Rattle.std.proofs.Common.{inl, inr}
use Rattle.dali_write.specs.Exchanges.{Exchange}
use Rattle.dali_write.specs.declared.ask.Verdict.{Verdict}
use Rattle.dali_write.specs.declared.ask.Verdict.TheVariants.{Read}
use Rattle.dali_write.specs.declared.pace.Pace.{Pace}
use Rattle.dali_write.specs.declared.pace.Pace.TheVariants.{Checked}
use Rattle.dali_write.specs.Frames.{miss_frames, other_frames}
use Rattle.dali_write.specs.Counts.{read_all_frames}
use Rattle.dali_write.specs.Plans.{Plan, Finish, Make, next_plan, read_all}
use Rattle.dali_write.specs.Tries.{most_tries, AccessEnds}

-- whole accesses lead from the plan to what is left of it
abbrev pub Walk : ℕ → Plan → List (Option (List ℕ)) → List Exchange → Plan → Type 0
Walk unit plan [] told end = (told ≡ []) × (plan ≡ end)
Walk unit plan (outcome ∷ outcomes) told end =
    (newer : List Exchange) × (older : List Exchange) × (told ≡ newer ++ older) × AccessEnds unit plan outcome older
    × Walk unit (next_plan plan outcome) outcomes newer end

-- this many tries of an access missed
abbrev pub access_misses : (unit : ℕ) (plan : Plan) (outcome : Option (List ℕ)) (told : List Exchange)
    → AccessEnds unit plan outcome told → ℕ
access_misses unit (Finish verdict) outcome told ends = 0
access_misses unit (Make access after) outcome told (inl done) = done.2
access_misses unit (Make access after) outcome told (inr failed) = most_tries

abbrev pub misses_of : (unit : ℕ) (plan : Plan) (outcomes : List (Option (List ℕ))) (told : List Exchange) (end : Plan)
    → Walk unit plan outcomes told end → ℕ
misses_of unit plan [] told end walk = 0
misses_of unit plan (outcome ∷ outcomes) told end walk =
    access_misses unit plan outcome walk.1 walk.3 + misses_of unit (next_plan plan outcome) outcomes walk.0 end walk.4

-- The plan ended so. It took `frames` frames if no try missed, for each that did at most what a miss may take, and for
-- each of `others` rows that told another byte what such a row may take.
pub record Took (pace : Pace) (unit : ℕ) (plan : Plan) (told : List Exchange) (verdict : Verdict) (frames others : ℕ)
    : Type 0 where
  pub outcomes : List (Option (List ℕ))
  pub walk : Walk unit plan outcomes told (Finish verdict)
  pub more : ℕ
  pub took : length told ≡ frames + more
  pub few :
      more ≤ miss_frames pace * misses_of unit plan outcomes told (Finish verdict) walk + other_frames pace * others

-- A reading session ended so. The byte that it read first, at 00h, says how many frames it took.
pub record TookAll (unit : ℕ) (told : List Exchange) : Type 0 where
  pub last : ℕ
  pub took : Took Checked unit read_all told Read (read_all_frames last) 0
  pub rest : List (Option (List ℕ))
  pub first : took.outcomes ≡ Some (last ∷ []) ∷ rest
