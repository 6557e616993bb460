-- The whole accesses of a session, the oldest first.
use Rattle.std.proofs.Common.{◌≡◌, ◌⊎◌, inl, inr, refl, sym, subst, ◌∙◌, ℕ, List, [], ◌∷◌, ◌++◌, append_assoc, append-nil, Option}
use Rattle.std.proofs.Common.{Some, arith}
use Rattle.std.proofs.lemmas.List.{nil_from_length}
use Rattle.dali_write.specs.Exchanges.{Exchange}
use Rattle.dali_write.specs.declared.request.Request.{Request}
use Rattle.dali_write.specs.declared.ask.Verdict.{Verdict}
use Rattle.dali_write.specs.declared.ask.Ask.TheVariants.{Ended}
use Rattle.dali_write.specs.Plans.{Plan, Finish, Make, next_plan, plan_after}
use Rattle.dali_write.specs.Tries.{Trying, Misses, Succeeds, Fails, AccessEnds, AccessesEnd, Stands, Wants}
use Rattle.dali_write.proofs.AskLemmas.{shown_ask, ask_shown}
use Rattle.dali_write.specs.Walks.{Walk}
use Rattle.dali_write.proofs.ShapeLemmas.{trying_length}
use Rattle.dali_write.proofs.CountLemmas.{misses_length}
use Rattle.dali_write.specs.Requests.{each_try}

-- one more access
walk_on : (unit : ℕ) (plan : Plan) (outcomes : List (Option (List ℕ))) (told : List Exchange) (end : Plan)
    (outcome : Option (List ℕ))
    (more : List Exchange)
    → Walk unit plan outcomes told end → AccessEnds unit end outcome more
    → Walk unit plan (outcomes ++ outcome ∷ []) (more ++ told) (next_plan end outcome)
walk_on unit plan [] told end outcome more walk ends = grind (arith, append-nil more)
walk_on unit plan (o ∷ outcomes) told end outcome more walk ends =
    grind (
      arith,
      append_assoc more walk.0 walk.1,
      walk_on unit (next_plan plan o) outcomes walk.0 end outcome more
          walk.4 ends,
    )

pub walks : (unit : ℕ) (plan : Plan) (outcomes : List (Option (List ℕ))) (told : List Exchange)
    → AccessesEnd unit plan outcomes told
    → (forward : List (Option (List ℕ))) × Walk unit plan forward told (plan_after plan outcomes)
walks unit plan [] told ends = ([], (ends, refl))
walks unit plan (outcome ∷ outcomes) told ends =
    let before = walks unit plan outcomes ends.1 ends.4 in (
      before.0 ++ outcome ∷ [],
      subst (λ (t : List Exchange).
          Walk unit plan (before.0 ++ outcome ∷ []) t (next_plan (plan_after plan outcomes) outcome))
          (sym ends.2)
          (walk_on unit plan before.0 ends.1 (plan_after plan outcomes) outcome ends.0 before.1 ends.3),
    )

-- if no frame is at hand, the whole accesses are all
pub ended_told : (told tried missed ended : List Exchange) (left : List Request) (misses : ℕ)
    → told ≡ tried ++ (missed ++ ended) → Trying [] tried left → Misses (each_try []) misses missed
    → told ≡ ended
ended_told told tried missed ended left misses parts try are =
    grind (
      arith,
      trying_length [] tried left try,
      misses_length (each_try []) misses missed (λ n. omega arith) are,
      nil_from_length,
    )

ended_at : (unit : ℕ) (plan : Plan) (outcomes : List (Option (List ℕ))) (told : List Exchange) (now : Plan)
    (misses : ℕ) (left : List Request)
    (bytes : List ℕ) (verdict : Verdict)
    → Stands unit plan outcomes told now misses left bytes → shown_ask now left ≡ Ended verdict
    → (forward : List (Option (List ℕ))) × Walk unit plan forward told (Finish verdict)
ended_at unit plan outcomes told (Finish v) misses left bytes verdict s ask =
    grind (
      arith,
      ended_told told s.tried s.missed s.ended left misses s.parts s.try s.misses_are,
      walks unit plan
          outcomes s.ended s.accesses,
    )
ended_at unit plan outcomes told (Make access after) misses [] bytes verdict s ask = let none = s.going in cc
ended_at unit plan outcomes told (Make access after) misses (next ∷ left) bytes verdict s ask = cc

pub ended_walk : (unit : ℕ) (plan : Plan) (told : List Exchange) (verdict : Verdict)
    → Wants unit plan told (Ended verdict)
    → (forward : List (Option (List ℕ))) × Walk unit plan forward told (Finish verdict)
ended_walk unit plan told verdict w =
    ended_at unit plan w.outcomes told w.now w.misses w.left w.bytes verdict w.stands
    (ask_shown w.now w.left w.stands.going ∙ w.ask_is)

-- a read with an outcome succeeded
pub was_answered : (requests : ℕ → List Request) (bytes : List ℕ) (told : List Exchange)
    → Succeeds requests (Some bytes) told ⊎ Fails requests (Some bytes) told → Succeeds requests (Some bytes) told
was_answered requests bytes told (inl done) = done
was_answered requests bytes told (inr failed) = let never = failed.0 in cc
