-- How the state of a session goes on.
use Rattle.std.proofs.Common.{◌≡◌, refl, sym, ap, subst, ◌∙◌, inl, inr, ℕ, zero, suc, ◌<◌, ◌≤◌, List, [], ◌∷◌, ◌++◌}
use Rattle.std.proofs.Common.{append_assoc, Option, Some, None, Bool, true, false, ◌==◌, arith}
use Rattle.dali_frame.specs.declared.forward.Frame.{Frame}
use Rattle.dali_write.specs.Exchanges.{Exchange}
use Rattle.dali_write.specs.declared.request.Request.{Request}
use Rattle.dali_write.specs.declared.request.Wish.{Wish}
use Rattle.dali_write.specs.declared.access.Access.{Access}
use Rattle.dali_write.specs.declared.access.Access.TheVariants.{ReadFrom, WriteTo, WriteOn}
use Rattle.dali_write.specs.Requests.{Meets, request, put_requests, access_requests, read_answer}
use Rattle.dali_write.specs.Plans.{Plan, Finish, Make, next_plan, plan_after}
use Rattle.dali_write.specs.Tries.{most_tries, Trying, Misses, bytes_of, AccessEnds, AccessesEnd, plan_requests, IsGoing}
use Rattle.dali_write.specs.Tries.{Stands}
use Rattle.dali_write.proofs.ShapeLemmas.{none_left}
use Rattle.dali_bus.specs.Hears.{up}

-- an access has a first frame
pub record HasFirst (requests : List Request) : Type 0 where
  pub first : Request
  pub more : List Request
  pub is : requests ≡ first ∷ more

put_first : (moved : Bool) (unit location byte : ℕ) → HasFirst (put_requests moved unit location byte)
put_first true unit location byte = record { first = _; more = _; is = refl }
put_first false unit location byte = record { first = _; more = _; is = refl }

pub first_of : (unit : ℕ) (access : Access) (misses : ℕ) → HasFirst (access_requests unit access misses)
first_of unit (ReadFrom block) misses = record { first = _; more = _; is = refl }
first_of unit (WriteTo location byte) misses = record { first = _; more = _; is = refl }
first_of unit (WriteOn before location byte) zero = put_first (up before == location) unit location byte
first_of unit (WriteOn before location byte) (suc misses) = record { first = _; more = _; is = refl }

pub goes_first : (unit : ℕ) (plan : Plan) (misses : ℕ) → IsGoing plan (plan_requests unit plan misses)
goes_first unit (Finish verdict) misses = refl
goes_first unit (Make access after) misses =
    subst (λ (l : List Request). IsGoing (Make access after) l) (sym (first_of unit access misses).is) refl

-- at the beginning
pub stands_at_first : (unit : ℕ) (plan : Plan) → Stands unit plan [] [] plan 0 (plan_requests unit plan 0) []
stands_at_first unit plan = grind (arith, goes_first unit plan)

-- the frame at hand got what it wants
pub stands_on : (unit : ℕ) (plan : Plan) (outcomes : List (Option (List ℕ))) (told : List Exchange) (now : Plan)
    (misses : ℕ) (left : List Request) (bytes : List ℕ) (frame : Frame) (answer : Option ℕ) (wish : Wish)
    → Stands unit plan outcomes told now misses (request frame wish ∷ left) bytes → Meets wish answer → IsGoing now left
    → Stands unit plan outcomes (record { frame = frame; answer = answer } ∷ told) now misses left
    (bytes ++ read_answer frame answer)
stands_on unit plan outcomes told now misses left bytes frame answer wish s meets going =
    let x : Exchange = record { frame = frame; answer = answer } in
    record {
      ended = s.ended;
      missed = s.missed;
      tried = x ∷ s.tried;
      parts = ap (λ (t : List Exchange). x ∷ t) s.parts;
      accesses = s.accesses;
      now_is = s.now_is;
      few = s.few;
      misses_are = s.misses_are;
      try = (wish, meets, s.try);
      bytes_are = ap (λ (l : List ℕ). l ++ read_answer frame answer) s.bytes_are;
      going = going;
    }

-- another try of the same access
pub stands_again : (unit : ℕ) (plan : Plan) (outcomes : List (Option (List ℕ))) (told : List Exchange) (now : Plan)
    (misses : ℕ) (left : List Request) (bytes : List ℕ) (frame : Frame) (answer : Option ℕ) (wish : Wish)
    → Stands unit plan outcomes told now misses (request frame wish ∷ left) bytes → ¬ Meets wish answer
    → suc misses < most_tries
    → Stands unit plan outcomes (record { frame = frame; answer = answer } ∷ told) now (suc misses)
    (plan_requests unit now (suc misses)) []
stands_again unit plan outcomes told now misses left bytes frame answer wish s misses_it few =
    let x : Exchange = record { frame = frame; answer = answer } in
    record {
      ended = s.ended;
      missed = (x ∷ s.tried) ++ s.missed;
      tried = [];
      parts = ap (λ (t : List Exchange). x ∷ t) (s.parts ∙ sym (append_assoc s.tried s.missed s.ended));
      accesses = s.accesses;
      now_is = s.now_is;
      few = few;
      misses_are = (x ∷ s.tried, s.missed, refl, (wish, left, misses_it, s.try), s.misses_are);
      try = refl;
      bytes_are = refl;
      going = goes_first unit now (suc misses);
    }

-- the access ended
pub ends_access : (unit : ℕ) (plan : Plan) (told : List Exchange) (now : Plan) (outcomes : List (Option (List ℕ)))
    (ended newer : List Exchange) (outcome : Option (List ℕ))
    → told ≡ newer ++ ended → AccessesEnd unit plan outcomes ended → plan_after plan outcomes ≡ now
    → AccessEnds unit now outcome newer
    → Stands unit plan (outcome ∷ outcomes) told (next_plan now outcome) 0
    (plan_requests unit (next_plan now outcome) 0) []
ends_access unit plan told now outcomes ended newer outcome parts accesses now_is ends =
    record {
      ended = told;
      missed = [];
      tried = [];
      parts = refl;
      accesses = (
        newer,
        ended,
        parts,
        subst (λ (p : Plan). AccessEnds unit p outcome newer) (sym now_is) ends,
        accesses,
      );
      now_is = ap (λ (p : Plan). next_plan p outcome) now_is;
      few = omega arith;
      misses_are = refl;
      try = refl;
      bytes_are = refl;
      going = goes_first unit (next_plan now outcome) 0;
    }

pub done_ends : (unit : ℕ) (now : Plan) (misses : ℕ) (tried missed : List Exchange) (bytes : List ℕ) (frame : Frame)
    (answer : Option ℕ) (wish : Wish)
    → misses < most_tries → Misses (plan_requests unit now) misses missed
    → Trying (plan_requests unit now misses) tried (request frame wish ∷ []) → bytes_of tried ≡ bytes
    → Meets wish answer
    → AccessEnds unit now (Some (bytes ++ read_answer frame answer))
    ((record { frame = frame; answer = answer } ∷ tried) ++ missed)
done_ends unit (Finish verdict) misses tried missed bytes frame answer wish few are try is meets =
    absurd (none_left tried (request frame wish) [] try)
done_ends unit (Make access after) misses tried missed bytes frame answer wish few are try is meets =
    let x : Exchange = record { frame = frame; answer = answer } in
    inl (
      x ∷ tried,
      missed,
      misses,
      refl,
      (wish, meets, try),
      ap (λ (l : List ℕ). Some (l ++ read_answer frame answer)) (sym is),
      few,
      are,
    )

pub failed_ends : (unit : ℕ) (now : Plan) (tried missed : List Exchange) (frame : Frame) (answer : Option ℕ)
    (wish : Wish) (left : List Request)
    → Misses (plan_requests unit now) 7 missed → Trying (plan_requests unit now 7) tried (request frame wish ∷ left)
    → ¬ Meets wish answer
    → AccessEnds unit now None ((record { frame = frame; answer = answer } ∷ tried) ++ missed)
failed_ends unit (Finish verdict) tried missed frame answer wish left are try misses_it = grind (arith, none_left)
failed_ends unit (Make access after) tried missed frame answer wish left are try misses_it =
    let x : Exchange = record { frame = frame; answer = answer } in
    inr (refl, (x ∷ tried, missed, refl, (wish, left, misses_it, try), are))

-- the last frame of a try got what it wants
pub stands_done : (unit : ℕ) (plan : Plan) (outcomes : List (Option (List ℕ))) (told : List Exchange) (now : Plan)
    (misses : ℕ) (bytes : List ℕ)
    (frame : Frame) (answer : Option ℕ) (wish : Wish)
    → Stands unit plan outcomes told now misses (request frame wish ∷ []) bytes → Meets wish answer
    → Stands unit plan (Some (bytes ++ read_answer frame answer) ∷ outcomes)
    (record { frame = frame; answer = answer } ∷ told) (next_plan now (Some (bytes ++ read_answer frame answer)))
    0
    (plan_requests unit (next_plan now (Some (bytes ++ read_answer frame answer))) 0) []
stands_done unit plan outcomes told now misses bytes frame answer wish s meets =
    search (
      arith,
      ends_access,
      append_assoc s.tried s.missed s.ended,
      done_ends unit now misses s.tried s.missed
          bytes frame answer wish s.few s.misses_are s.try s.bytes_are meets,
    )

-- the last try missed
pub stands_failed : (unit : ℕ) (plan : Plan) (outcomes : List (Option (List ℕ))) (told : List Exchange) (now : Plan)
    (misses : ℕ) (left : List Request) (bytes : List ℕ) (frame : Frame) (answer : Option ℕ) (wish : Wish)
    → Stands unit plan outcomes told now misses (request frame wish ∷ left) bytes → ¬ Meets wish answer → 7 ≤ misses
    → Stands unit plan (None ∷ outcomes) (record { frame = frame; answer = answer } ∷ told) (next_plan now None) 0
    (plan_requests unit (next_plan now None) 0) []
stands_failed unit plan outcomes told now misses left bytes frame answer wish s misses_it many =
    let x : Exchange = record { frame = frame; answer = answer } in
    let seven : misses ≡ 7 = let few = s.few in omega arith in
    ends_access unit plan (x ∷ told) now outcomes s.ended ((x ∷ s.tried) ++ s.missed) None
    (ap (λ (t : List Exchange). x ∷ t) (s.parts ∙ sym (append_assoc s.tried s.missed s.ended))) s.accesses s.now_is
    (failed_ends unit now s.tried s.missed frame answer wish left
    (subst (λ (m : ℕ). Misses (plan_requests unit now) m s.missed) seven s.misses_are)
    (subst (λ (m : ℕ). Trying (plan_requests unit now m) s.tried (request frame wish ∷ left)) seven s.try) misses_it)
