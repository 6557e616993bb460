-- The exchanges of a session determine its state, and so what it wants.
use Rattle.std.proofs.Common.{◌≡◌, ◌⊎◌, inl, inr, refl, sym, ap, subst, ◌∙◌, ℕ, zero, suc, ◌<◌, Bool, true, false, ◌==◌}
use Rattle.std.proofs.Common.{nat_lt, lt-ltb, eq-eqb, ne_eqb, if◌then◌else◌, List, [], ◌∷◌, ◌++◌, append_assoc, Option}
use Rattle.std.proofs.Common.{Some, None, is_some, arith}
use Rattle.dali_write.specs.Exchanges.{Exchange}
use Rattle.dali_write.specs.declared.request.Request.{Request}
use Rattle.dali_write.specs.declared.request.Wish.{Wish}
use Rattle.dali_write.specs.declared.request.Wish.TheVariants.{Nothing, Exactly, Anything}
use Rattle.dali_write.specs.declared.access.Access.{Access}
use Rattle.dali_write.specs.declared.ask.Ask.{Ask}
use Rattle.dali_write.specs.declared.ask.Ask.TheVariants.{Send}
use Rattle.dali_write.specs.Requests.{Meets, request, access_requests, read_answer}
use Rattle.dali_write.proofs.StandingLemmas.{first_of}
use Rattle.dali_write.specs.Plans.{Plan, Finish, Make, next_plan, plan_after}
use Rattle.dali_write.specs.Tries.{Trying, Missed, Misses, bytes_of, AccessEnds, AccessesEnd, plan_requests, IsGoing}
use Rattle.dali_write.specs.Tries.{Stands}
use Rattle.dali_write.specs.Tries.{Wants}
use Rattle.dali_write.proofs.AskLemmas.{shown_ask, ask_shown}
use Rattle.dali_write.proofs.ShapeLemmas.{none_left}

-- the state of a session: its plan from the access at hand on, the missed tries of that access, what is left of the try
-- at hand, and its bytes
pub record PlanState : Type 0 where
  pub now : Plan
  pub misses : ℕ
  pub left : List Request
  pub bytes : List ℕ

-- before the first frame of a try
abbrev pub begins : ℕ → Plan → ℕ → PlanState
begins unit now misses = record { now = now; misses = misses; left = plan_requests unit now misses; bytes = [] }

-- whether the answer is as wished
abbrev pub is_met : Wish → Option ℕ → Bool
is_met Nothing answer = true
is_met (Exactly byte) None = false
is_met (Exactly byte) (Some other) = other == byte
is_met Anything answer = is_some answer

-- the answer was as wished: the next frame of the try, or the next access of the plan
abbrev pub met_then : ℕ → Plan → ℕ → List Request → List ℕ → PlanState
met_then unit now misses [] bytes = begins unit (next_plan now (Some bytes)) 0
met_then unit now misses (next ∷ left) bytes = record { now = now; misses = misses; left = next ∷ left; bytes = bytes }

-- the answer was not as wished: another try of the access, or after the eighth the next access of the plan
abbrev pub missed_then : ℕ → Plan → ℕ → PlanState
missed_then unit now misses =
    if nat_lt (suc misses) 8 then begins unit now (suc misses) else begins unit (next_plan now None) 0

-- where one more exchange leads (from an ended plan, which has no frame left, it stays)
abbrev pub moved : ℕ → Exchange → Plan → ℕ → List Request → List ℕ → PlanState
moved unit x now misses [] bytes = record { now = now; misses = misses; left = []; bytes = bytes }
moved unit x now misses (next ∷ left) bytes =
    if is_met next.wish x.answer
    then met_then unit now misses left (bytes ++ read_answer x.frame x.answer)
    else missed_then unit now misses

-- where the exchanges lead
abbrev pub plan_state_after : ℕ → Plan → List Exchange → PlanState
plan_state_after unit plan [] = begins unit plan 0
plan_state_after unit plan (x ∷ told) =
    let at = plan_state_after unit plan told in moved unit x at.now at.misses at.left at.bytes

meets_is : (wish : Wish) (answer : Option ℕ) → Meets wish answer → is_met wish answer ≡ true
meets_is Nothing answer meets = refl
meets_is (Exactly byte) None meets = cc
meets_is (Exactly byte) (Some other) meets = let same : other ≡ byte = cc in eq-eqb other byte same
meets_is Anything answer meets = meets

misses_is : (wish : Wish) (answer : Option ℕ) → ¬ Meets wish answer → is_met wish answer ≡ false
misses_is Nothing answer misses = absurd (misses tt)
misses_is (Exactly byte) None misses = refl
misses_is (Exactly byte) (Some other) misses = ne_eqb other byte λ same. misses (ap Some same)
misses_is Anything None misses = refl
misses_is Anything (Some other) misses = absurd (misses refl)

-- an access has a frame
some_requests : (unit : ℕ) (access : Access) (misses : ℕ) → [] ≡ access_requests unit access misses → ⊥
some_requests unit access misses none = let some = (first_of unit access misses).is in cc

-- The newest exchange was of the frame that was wanted, and it led on from the state of the session.
record Peeled (unit : ℕ) (plan : Plan) (told : List Exchange) (state : PlanState) : Type 0 where
  pub newest : Exchange
  pub older : List Exchange
  pub told_is : told ≡ newest ∷ older
  pub now : Plan
  pub misses : ℕ
  pub wish : Wish
  pub left : List Request
  pub bytes : List ℕ
  pub outcomes : List (Option (List ℕ))
  pub before : Stands unit plan outcomes older now misses (request newest.frame wish ∷ left) bytes
  pub sends : shown_ask now (request newest.frame wish ∷ left) ≡ Send newest.frame
  pub leads : moved unit newest now misses (request newest.frame wish ∷ left) bytes ≡ state

-- no exchange yet, or there is a newest one
abbrev Peels : ℕ → Plan → List Exchange → PlanState → Type 0
Peels unit plan told state = ((told ≡ []) × (begins unit plan 0 ≡ state)) ⊎ Peeled unit plan told state

-- whole accesses after which the plan goes on so
abbrev Reaches : ℕ → Plan → Plan → List Exchange → Type 0
Reaches unit plan now ended =
    (outcomes : List (Option (List ℕ))) × AccessesEnd unit plan outcomes ended × (plan_after plan outcomes ≡ now)

-- the exchanges, split before the newest one
peeled : (unit : ℕ) (plan : Plan) (told ended missed tried : List Exchange) (now : Plan) (misses : ℕ) (x : Exchange)
    (wish : Wish) (left : List Request) (state : PlanState)
    → told ≡ (x ∷ tried) ++ (missed ++ ended) → Reaches unit plan now ended → misses < 8
    → Misses (plan_requests unit now) misses missed
    → Trying (plan_requests unit now misses) tried (request x.frame wish ∷ left)
    → moved unit x now misses (request x.frame wish ∷ left) (bytes_of tried) ≡ state
    → Peeled unit plan told state
peeled unit plan told ended missed tried (Finish verdict) misses x wish left state parts reaches few are try leads =
    absurd (none_left tried (request x.frame wish) left try)
peeled unit plan told ended missed tried (Make access after) misses x wish left state parts reaches few are try leads =
    grind arith

-- the first part of the newer exchanges, and then the rest of them before the older ones
regroup : (told newer older ended first : List Exchange) → told ≡ newer ++ ended → newer ≡ first ++ older
    → told ≡ first ++ (older ++ ended)
regroup told newer older ended first parts is = grind (arith, append_assoc first older ended)

-- the newest exchange is the miss of a try
peel_miss : (unit : ℕ) (plan : Plan) (told newer older ended : List Exchange) (now : Plan) (misses : ℕ)
    → told ≡ newer ++ (older ++ ended) → Reaches unit plan now ended → misses < 8
    → Misses (plan_requests unit now) misses older → Missed (plan_requests unit now misses) newer
    → Peeled unit plan told (missed_then unit now misses)
peel_miss unit plan told [] older ended now misses parts reaches few are missed = absurd missed
peel_miss unit plan told (x ∷ tried) older ended now misses parts reaches few are missed =
    grind (
      arith,
      peeled unit plan told ended older tried now misses x missed.0 missed.1 (missed_then unit now misses)
          parts reaches few are missed.3 (rw (misses_is missed.0 x.answer missed.2) refl),
    )

-- the newest exchange is the last of a try that came to its end
peel_end : (unit : ℕ) (plan : Plan) (told newer older ended : List Exchange) (access : Access)
    (after : Option (List ℕ) → Plan)
    (misses : ℕ)
    → told ≡ newer ++ (older ++ ended) → Reaches unit plan (Make access after) ended → misses < 8
    → Misses (access_requests unit access) misses older
    → Trying (access_requests unit access misses) newer []
    → Peeled unit plan told (begins unit (after (Some (bytes_of newer))) 0)
peel_end unit plan told [] older ended access after misses parts reaches few are try = grind (arith, some_requests)
peel_end unit plan told (x ∷ tried) older ended access after misses parts reaches few are try =
    grind (
      arith,
      peeled unit plan told ended older tried (Make access after) misses x try.0 [] (begins unit (after
          (Some (bytes_of (x ∷ tried)))) 0) parts reaches few are try.2 (rw (meets_is try.0 x.answer try.1) refl),
    )

-- the newest exchange is the last of a whole access
peel_access : (unit : ℕ) (plan : Plan) (told newer ended : List Exchange) (now : Plan) (outcome : Option (List ℕ))
    → told ≡ newer ++ ended → Reaches unit plan now ended → AccessEnds unit now outcome newer
    → Peeled unit plan told (begins unit (next_plan now outcome) 0)
peel_access unit plan told newer ended (Finish verdict) outcome parts reaches ends = absurd ends
peel_access unit plan told newer ended (Make access after) outcome parts reaches (inl done) =
    grind (
      arith,
      peel_end unit plan told done.0 done.1 ended access after done.2 (regroup told newer done.1 ended
          done.0 parts done.3) reaches done.6 done.7 done.4,
    )
peel_access unit plan told newer ended (Make access after) outcome parts reaches (inr failed) =
    let are = failed.1 in
    subst (λ (o : Option (List ℕ)). Peeled unit plan told (begins unit (after o) 0)) (sym failed.0)
    (peel_miss unit plan told are.0 are.1 ended (Make access after) 7 (regroup told newer are.1 ended are.0 parts are.2)
    reaches (omega arith) are.4 are.3)

-- no try of an access is at hand
peel_ended : (unit : ℕ) (plan : Plan) (told ended : List Exchange) (now : Plan) (outcomes : List (Option (List ℕ)))
    → told ≡ ended → AccessesEnd unit plan outcomes ended → plan_after plan outcomes ≡ now
    → Peels unit plan told (begins unit now 0)
peel_ended unit plan told ended now [] parts accesses is = inl (parts ∙ accesses, ap (λ (p : Plan). begins unit p 0) is)
peel_ended unit plan told ended now (outcome ∷ outcomes) parts accesses is = grind (arith, peel_access)

-- the try at hand is at its first frame
peel_misses : (unit : ℕ) (plan : Plan) (told missed ended : List Exchange) (now : Plan) (misses : ℕ)
    → told ≡ missed ++ ended → Reaches unit plan now ended → misses < 8 → Misses (plan_requests unit now) misses missed
    → Peels unit plan told (begins unit now misses)
peel_misses unit plan told missed ended now zero parts reaches few are = grind (arith, peel_ended)
peel_misses unit plan told missed ended now (suc misses) parts reaches few are =
    let another : missed_then unit now misses ≡ begins unit now (suc misses) = rw (lt-ltb (suc misses) 8 few) refl in
    inr (subst (λ (p : PlanState). Peeled unit plan told p) another
    (peel_miss unit plan told are.0 are.1 ended now misses (regroup told missed are.1 ended are.0 parts are.2) reaches
    (omega arith) are.4 are.3))

-- the frame at hand was not the last of its try
goes_right : (unit : ℕ) (now : Plan) (misses : ℕ) (left : List Request) (bytes : List ℕ) (tried : List Exchange)
    (next : Request)
    → IsGoing now left
    → Trying (plan_requests unit now misses) tried (next ∷ left)
    → met_then unit now misses left bytes ≡ record { now = now; misses = misses; left = left; bytes = bytes }
goes_right unit (Finish verdict) misses left bytes tried next going try = absurd (none_left tried next left try)
goes_right unit (Make access after) misses [] bytes tried next going try = cc
goes_right unit (Make access after) misses (second ∷ left) bytes tried next going try = refl

-- the newest exchange is of the try at hand, or that is at its first frame
peel_try : (unit : ℕ) (plan : Plan) (told ended missed tried : List Exchange) (now : Plan) (misses : ℕ)
    (left : List Request) (bytes : List ℕ)
    → told ≡ tried ++ (missed ++ ended) → Reaches unit plan now ended → misses < 8
    → Misses (plan_requests unit now) misses missed
    → Trying (plan_requests unit now misses) tried left → bytes_of tried ≡ bytes → IsGoing now left
    → Peels unit plan told (record { now = now; misses = misses; left = left; bytes = bytes })
peel_try unit plan told ended missed [] now misses left bytes parts reaches few are try is going =
    rw (try, sym is) (peel_misses unit plan told missed ended now misses parts reaches few are)
peel_try unit plan told ended missed (x ∷ tried) now misses left bytes parts reaches few are try is going =
    let met : is_met try.0 x.answer ≡ true = meets_is try.0 x.answer try.1 in
    let right = goes_right unit now misses left bytes tried (request x.frame try.0) going try.2 in
    inr (peeled unit plan told ended missed tried now misses x try.0 left
    (record { now = now; misses = misses; left = left; bytes = bytes }) parts reaches few are try.2
    (rw (met, is) right))

-- The newest exchange, peeled off.
peel : (unit : ℕ) (plan : Plan) (outcomes : List (Option (List ℕ))) (told : List Exchange) (now : Plan) (misses : ℕ)
    (left : List Request) (bytes : List ℕ)
    → Stands unit plan outcomes told now misses left bytes
    → Peels unit plan told (record { now = now; misses = misses; left = left; bytes = bytes })
peel unit plan outcomes told now misses left bytes s = grind (arith, peel_try)

-- so there is one state alone
plan_state_is : (unit : ℕ) (plan : Plan) (told : List Exchange) (state : PlanState) → Peels unit plan told state
    → plan_state_after unit plan told ≡ state
plan_state_is unit plan [] state (inl first) = first.1
plan_state_is unit plan [] state (inr p) = let no = p.told_is in cc
plan_state_is unit plan (x ∷ told) state (inl first) = let no = first.0 in cc
plan_state_is unit plan (x ∷ told) state (inr p) =
    let is = p.told_is in
    let newest : x ≡ p.newest = cc in
    let older : p.older ≡ told = cc in
    let before =
    subst (λ (t : List Exchange). Stands unit plan p.outcomes t p.now p.misses
    (request p.newest.frame p.wish ∷ p.left) p.bytes)
    older p.before in
    let same =
    plan_state_is unit plan told _
    (peel unit plan p.outcomes told p.now p.misses (request p.newest.frame p.wish ∷ p.left) p.bytes before) in
    ap (λ (at : PlanState). moved unit x at.now at.misses at.left at.bytes) same
    ∙ ap (λ (y : Exchange). moved unit y p.now p.misses (request p.newest.frame p.wish ∷ p.left) p.bytes) newest
    ∙ p.leads

-- what is wanted in a state
abbrev pub ask_from : PlanState → Ask
ask_from at = shown_ask at.now at.left

pub ask_is : (unit : ℕ) (plan : Plan) (told : List Exchange) (ask : Ask) → Wants unit plan told ask
    → ask_from (plan_state_after unit plan told) ≡ ask
ask_is unit plan told ask w =
    ap ask_from (plan_state_is unit plan told _ (peel unit plan w.outcomes told w.now w.misses w.left w.bytes w.stands))
    ∙ ask_shown w.now w.left w.stands.going ∙ w.ask_is

-- so one thing alone is wanted
pub wants_one : (told : List Exchange) (unit : ℕ) (plan : Plan) (one other : Ask) → Wants unit plan told one
    → Wants unit plan told other → one ≡ other
wants_one told unit plan one other first second =
    sym (ask_is unit plan told one first) ∙ ask_is unit plan told other second

-- the newest exchange is of the frame that was wanted before it
wanted : (unit : ℕ) (plan : Plan) (told : List Exchange) (x : Exchange) (state : PlanState)
    → Peels unit plan (x ∷ told) state → Wants unit plan told (Send x.frame)
wanted unit plan told x state (inl first) = let no = first.0 in cc
wanted unit plan told x state (inr p) = grind (arith, ask_is, ask_shown)

pub frame_wanted : (told : List Exchange) (x : Exchange) (unit : ℕ) (plan : Plan) (ask : Ask)
    → Wants unit plan (x ∷ told) ask → Wants unit plan told (Send x.frame)
frame_wanted told x unit plan ask w =
    wanted unit plan told x _ (peel unit plan w.outcomes (x ∷ told) w.now w.misses w.left w.bytes w.stands)
