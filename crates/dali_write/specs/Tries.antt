-- Tries, accesses and sessions, as lists of exchanges with the newest first.
use Rattle.std.specs.Prelude.{◌≡◌, ℕ, suc, zero, ◌<◌, ◌⊎◌, List, [], ◌∷◌, ◌++◌, Option, Some, None, Bool, true, false}
use Rattle.std.proofs.Common.{refl}
use Rattle.std.proofs.lemmas.Bool.{both_ways}
use Rattle.dali_write.specs.Exchanges.{Exchange}
use Rattle.dali_write.specs.declared.request.Request.{Request}
use Rattle.dali_write.specs.declared.request.Wish.{Wish}
use Rattle.dali_write.specs.declared.ask.Ask.{Ask}
use Rattle.dali_write.specs.declared.ask.Ask.TheVariants.{Send, Ended}
use Rattle.dali_write.specs.Requests.{Meets, request, access_requests, read_answer}
use Rattle.dali_write.specs.Plans.{Plan, Finish, Make, plan_after}

-- an access has at most this many tries
abbrev pub most_tries : ℕ
most_tries = 8

-- A try so far: the first of the requests were sent and got what they want, and these are left.
abbrev pub Trying : List Request → List Exchange → List Request → Type 0
Trying requests [] left = left ≡ requests
Trying requests (x ∷ told) left = (wish : Wish) × Meets wish x.answer
    × Trying requests told (request x.frame wish ∷ left)

-- a try that ended at its first miss
abbrev pub Missed : List Request → List Exchange → Type 0
Missed requests [] = ⊥
Missed requests (x ∷ told) =
    (wish : Wish) × (left : List Request) × (¬ Meets wish x.answer) × Trying requests told (request x.frame wish ∷ left)

-- this many tries, each of which ended at its first miss, where 'requests misses' are those of a try after 'misses' of
-- them
abbrev pub Misses : (ℕ → List Request) → ℕ → List Exchange → Type 0
Misses requests zero told = told ≡ []
Misses requests (suc misses) told =
    (newer : List Exchange) × (older : List Exchange) × (told ≡ newer ++ older) × Missed (requests misses) newer
    × Misses requests misses older

-- what reads were answered, the oldest first
abbrev pub bytes_of : List Exchange → List ℕ
bytes_of [] = []
bytes_of (x ∷ told) = bytes_of told ++ read_answer x.frame x.answer

-- fewer than the most tries missed, and then one came to its end; the outcome is the answers to its reads
abbrev pub Succeeds : (ℕ → List Request) → Option (List ℕ) → List Exchange → Type 0
Succeeds requests outcome told =
    (newer : List Exchange) × (older : List Exchange) × (count : ℕ) × (told ≡ newer ++ older)
    × Trying (requests count) newer [] × (outcome ≡ Some (bytes_of newer)) × (count < most_tries)
    × Misses requests count older

-- the most tries missed
abbrev pub Fails : (ℕ → List Request) → Option (List ℕ) → List Exchange → Type 0
Fails requests outcome told = (outcome ≡ None) × Misses requests most_tries told

-- a whole checked access with its outcome
abbrev pub AccessEnds : ℕ → Plan → Option (List ℕ) → List Exchange → Type 0
AccessEnds unit (Finish verdict) outcome told = ⊥
AccessEnds unit (Make access after) outcome told =
    Succeeds (access_requests unit access) outcome told ⊎ Fails (access_requests unit access) outcome told

-- whole accesses of the plan with their outcomes
abbrev pub AccessesEnd : ℕ → Plan → List (Option (List ℕ)) → List Exchange → Type 0
AccessesEnd unit plan [] told = told ≡ []
AccessesEnd unit plan (outcome ∷ outcomes) told =
    (newer : List Exchange) × (older : List Exchange) × (told ≡ newer ++ older)
    × AccessEnds unit (plan_after plan outcomes) outcome newer × AccessesEnd unit plan outcomes older

-- the frames of a try of the access at hand after this many that missed
abbrev pub plan_requests : ℕ → Plan → ℕ → List Request
plan_requests unit (Finish verdict) misses = []
plan_requests unit (Make access after) misses = access_requests unit access misses

-- while an access is at hand, a frame of it is left
abbrev pub is_going : Plan → List Request → Bool
is_going (Make access after) [] = false
is_going plan left = true

abbrev pub IsGoing : Plan → List Request → Type 0
IsGoing plan left = is_going plan left ≡ true

-- The exchanges are whole accesses, then missed tries of the access at hand, then the try at hand.
pub record Stands (unit : ℕ) (plan : Plan) (outcomes : List (Option (List ℕ))) (told : List Exchange) (now : Plan)
    (misses : ℕ) (left : List Request) (bytes : List ℕ) : Type 0 where
  pub ended : List Exchange
  pub missed : List Exchange
  pub tried : List Exchange
  pub parts : told ≡ tried ++ (missed ++ ended)
  pub accesses : AccessesEnd unit plan outcomes ended
  pub now_is : plan_after plan outcomes ≡ now
  pub few : misses < most_tries
  pub misses_are : Misses (plan_requests unit now) misses missed
  pub try : Trying (plan_requests unit now misses) tried left
  pub bytes_are : bytes_of tried ≡ bytes
  pub going : IsGoing now left

-- the next frame of the try, or the end
abbrev pub ask_at : (plan : Plan) (left : List Request) → IsGoing plan left → Ask
ask_at (Finish verdict) left going = Ended verdict
ask_at (Make access after) [] going = absurd (both_ways false refl going)
ask_at (Make access after) (next ∷ left) going = Send next.frame

-- The frame that a session with this plan wants, or how it ends, after these exchanges.
pub record Wants (unit : ℕ) (plan : Plan) (told : List Exchange) (ask : Ask) : Type 0 where
  pub outcomes : List (Option (List ℕ))
  pub now : Plan
  pub misses : ℕ
  pub left : List Request
  pub bytes : List ℕ
  pub stands : Stands unit plan outcomes told now misses left bytes
  pub ask_is : ask_at now left stands.going ≡ ask
