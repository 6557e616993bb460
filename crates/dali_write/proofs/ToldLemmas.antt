-- The exchanges that sessions were given.
use Rattle.std.proofs.Common.{◌≡◌, refl, subst, ◌∙◌, ℕ, suc, ◌+◌, ◌≤◌, ◌<◌, true, false, List, [], ◌∷◌}
use Rattle.std.proofs.Common.{◌++◌, append-nil, drop, Option, Some, None, is_some, slice_get, length, arith}
use Rattle.dali_frame.specs.declared.forward.Frame.{Frame}
use Rattle.dali_write.specs.Exchanges.{Exchange}
use Rattle.dali_write.specs.declared.request.Request.{Request}
use Rattle.dali_write.specs.declared.request.Wish.{Wish}
use Rattle.dali_write.specs.declared.session.Session.{Session}
use Rattle.dali_write.specs.declared.stage.Task.{Task}
use Rattle.dali_write.specs.declared.ask.Ask.TheVariants.{Send}
use Rattle.dali_write.specs.Requests.{Meets, request, read_answer}
use Rattle.dali_write.specs.Plans.{Plan, Finish, Make, next_plan, plan_after}
use Rattle.dali_write.specs.Tries.{plan_requests, IsGoing, Stands, Wants}
use Rattle.dali_write.proofs.AskLemmas.{shown_ask, ask_shown}
use Rattle.dali_write.specs.declared.ask.Cause.{Cause}
use Rattle.dali_write.specs.Causes.{cause_by, cause_after, first_of}
use Rattle.dali_write.specs.Found.{StandsWith, ReadsSoFar, IsCause, found, keeps, kept_after}
use Rattle.dali_write.specs.Stages.{plan_of, plan_at, updates_for}
use Rattle.dali_write.specs.Told.{Told, request_at_hand, aim_of, BeginsTry}
use Rattle.dali_write.proofs.StandingLemmas.{stands_at_first, stands_on, stands_again, stands_done, stands_failed}
use Rattle.dali_write.proofs.RequestLemmas.{drop_at, drop_end}
use Rattle.dali_write.proofs.RoomLemmas.{kept_bytes, has_room}

-- bytes that are kept access by access are those of the outcomes
none_kept : (task : Task) → kept_bytes task [] ≡ []
none_kept task = grind arith

more_kept : (task : Task) (outcomes : List (Option (List ℕ))) (bytes more : List ℕ) → bytes ≡ kept_bytes task outcomes
    → kept_after task bytes more ≡ kept_bytes task (Some more ∷ outcomes)
more_kept task outcomes bytes more are = grind arith

same_kept : (task : Task) (outcomes : List (Option (List ℕ)))
    → kept_bytes task outcomes ≡ kept_bytes task (None ∷ outcomes)
same_kept task outcomes = grind (arith, append-nil (found outcomes))

-- one more outcome may be the first that is a cause
caused : (task : Task) (outcomes : List (Option (List ℕ))) (now : Plan) (cause : Option Cause)
    (outcome : Option (List ℕ)) → plan_after (plan_of task) outcomes ≡ now
    → cause ≡ cause_after (updates_for task) (plan_of task) outcomes
    → first_of cause (cause_by (updates_for task) now outcome)
    ≡ cause_after (updates_for task) (plan_of task) (outcome ∷ outcomes)
caused task outcomes now cause outcome is was = rw (← is, was) refl

-- the session is in this state
told_as : (told : List Exchange) (s : Session) (unit : ℕ) (task : Task) (now : Plan) (misses number : ℕ)
    (tried bytes : List ℕ) (cause : Option Cause)
    → plan_at s.task s.stage ≡ now → s.unit ≡ unit → s.task ≡ task → s.misses ≡ misses → s.number ≡ number
    → s.tried.items ≡ tried → s.bytes.items ≡ bytes → s.cause ≡ cause
    → StandsWith task unit told now misses (drop number (plan_requests unit now misses)) tried bytes cause
    → Told told s
unfolding Told
told_as told s unit task now misses number tried bytes cause p u t m n r b w stands =
    rw (p, u, t, m, n, r, b, w) stands

pub told_first : (s : Session) → plan_at s.task s.stage ≡ plan_of s.task → s.misses ≡ 0 → s.number ≡ 0
    → s.tried.items ≡ [] → s.bytes.items ≡ [] → s.cause ≡ None → Told [] s
told_first s p m n r b w = grind (arith, told_as, stands_at_first, none_kept)

goes_cons : (now : Plan) (next : Request) (left : List Request) → IsGoing now (next ∷ left)
goes_cons (Finish verdict) next left = refl
goes_cons (Make access after) next left = refl

pub goes_more : (now : Plan) (requests : List Request) (number : ℕ) → is_some (slice_get requests number) ≡ true
    → IsGoing now (drop number requests)
goes_more now requests number more = grind (arith, drop_at, goes_cons)

-- the requests that are left begin with the request at hand
at_hand : (told : List Exchange) (s : Session) (next : Request) → request_at_hand s ≡ Some next → Told told s
    → StandsWith s.task s.unit told (plan_at s.task s.stage) s.misses
    (next ∷ drop (suc s.number) (plan_requests s.unit (plan_at s.task s.stage) s.misses)) s.tried.items s.bytes.items
    s.cause
unfolding Told
at_hand told s next at was = grind (arith, drop_at)

-- the try goes on
pub told_on : (told : List Exchange) (s new : Session) (frame : Frame) (answer : Option ℕ) (wish : Wish)
    → request_at_hand s ≡ Some (request frame wish) → Meets wish answer → Told told s
    → is_some (slice_get (plan_requests s.unit (plan_at s.task s.stage) s.misses) (suc s.number)) ≡ true
    → new.unit ≡ s.unit → new.task ≡ s.task → new.stage ≡ s.stage → new.misses ≡ s.misses → new.number ≡ suc s.number
    → new.tried.items ≡ s.tried.items ++ read_answer frame answer
    → new.bytes.items ≡ s.bytes.items → new.cause ≡ s.cause
    → Told (record { frame = frame; answer = answer } ∷ told) new
told_on told s new frame answer wish at meets was more unit task stage misses number tried bytes cause =
    grind (
      arith,
      at_hand told s (request frame wish),
      told_as,
      stands_on,
      goes_more (plan_at s.task s.stage) _ (suc
          s.number) more,
    )

-- the access came to its end
pub told_done : (told : List Exchange) (s new : Session) (frame : Frame) (answer : Option ℕ) (wish : Wish)
    → request_at_hand s ≡ Some (request frame wish) → Meets wish answer → Told told s
    → slice_get (plan_requests s.unit (plan_at s.task s.stage) s.misses) (suc s.number) ≡ None
    → new.unit ≡ s.unit → new.task ≡ s.task
    → plan_at new.task new.stage
    ≡ next_plan (plan_at s.task s.stage) (Some (s.tried.items ++ read_answer frame answer)) → BeginsTry new
    → length (s.tried.items ++ read_answer frame answer) ≤ 22
    → (length s.bytes.items + length (s.tried.items ++ read_answer frame answer) ≤ 255
    → new.bytes.items ≡ kept_after s.task s.bytes.items (s.tried.items ++ read_answer frame answer))
    → new.cause ≡ first_of s.cause (cause_by (updates_for s.task) (plan_at s.task s.stage)
    (Some (s.tried.items ++ read_answer frame answer)))
    → Told (record { frame = frame; answer = answer } ∷ told) new
told_done told s new frame answer wish at meets was none unit task plan begins few kept cause =
    let now = plan_at s.task s.stage in
    let w = at_hand told s (request frame wish) at was in
    let last = subst (λ (left : List Request). Stands s.unit (plan_of s.task) w.outcomes told now s.misses
    (request frame wish ∷ left) s.tried.items)
    (drop_end (plan_requests s.unit now s.misses) (suc s.number) none) w.stands in
    let x : Exchange = record { frame = frame; answer = answer } in
    let room =
    has_room s.task s.unit told w.outcomes now s.misses s.tried.items s.bytes.items frame answer wish last meets few
    w.bytes_are in
    told_as (x ∷ told) new s.unit s.task _ 0 0 [] new.bytes.items new.cause plan unit task begins.0 begins.1 begins.2
    refl refl
    (record {
      outcomes = Some (s.tried.items ++ read_answer frame answer) ∷ w.outcomes;
      stands = stands_done s.unit (plan_of s.task) w.outcomes told now s.misses s.tried.items frame answer wish last
          meets;
      bytes_are = kept room ∙ more_kept s.task w.outcomes s.bytes.items (s.tried.items ++ read_answer frame answer)
          w.bytes_are;
      cause_is = cause ∙ caused s.task w.outcomes now s.cause _ w.stands.now_is w.cause_is;
    })

-- another try of the access
pub told_again : (told : List Exchange) (s new : Session) (frame : Frame) (answer : Option ℕ) (wish : Wish)
    → request_at_hand s ≡ Some (request frame wish) → ¬ Meets wish answer → Told told s → s.misses < 7
    → new.unit ≡ s.unit → new.task ≡ s.task → new.stage ≡ s.stage → new.misses ≡ suc s.misses → new.number ≡ 0
    → new.tried.items ≡ [] → new.bytes.items ≡ s.bytes.items → new.cause ≡ s.cause
    → Told (record { frame = frame; answer = answer } ∷ told) new
told_again told s new frame answer wish at missed was few unit task stage misses number tried bytes cause =
    let w = at_hand told s (request frame wish) at was in
    told_as _ new s.unit s.task (plan_at s.task s.stage) (suc s.misses) 0 [] s.bytes.items s.cause
    (rw (task, stage) refl) unit task misses number tried bytes cause (record {
      outcomes = w.outcomes;
      stands = stands_again s.unit (plan_of s.task) w.outcomes told _ s.misses _ s.tried.items frame answer wish
          w.stands missed (omega arith);
      bytes_are = w.bytes_are;
      cause_is = w.cause_is;
    })

-- the access failed
pub told_failed : (told : List Exchange) (s new : Session) (frame : Frame) (answer : Option ℕ) (wish : Wish)
    → request_at_hand s ≡ Some (request frame wish) → ¬ Meets wish answer → Told told s → 7 ≤ s.misses
    → new.unit ≡ s.unit → new.task ≡ s.task → plan_at new.task new.stage ≡ next_plan (plan_at s.task s.stage) None
    → BeginsTry new → new.bytes.items ≡ s.bytes.items
    → new.cause ≡ first_of s.cause (cause_by (updates_for s.task) (plan_at s.task s.stage) None)
    → Told (record { frame = frame; answer = answer } ∷ told) new
told_failed told s new frame answer wish at missed was many unit task plan begins kept cause =
    let w = at_hand told s (request frame wish) at was in
    told_as _ new s.unit s.task _ 0 0 [] s.bytes.items new.cause plan unit task begins.0 begins.1 begins.2 kept refl
    (record {
      outcomes = None ∷ w.outcomes;
      stands = stands_failed s.unit (plan_of s.task) w.outcomes told _ s.misses _ s.tried.items frame answer wish
          w.stands missed many;
      bytes_are = w.bytes_are ∙ same_kept s.task w.outcomes;
      cause_is = cause ∙ caused s.task w.outcomes (plan_at s.task s.stage) s.cause None w.stands.now_is w.cause_is;
    })

-- the frame at hand is what the session wants
aim_in : (unit : ℕ) (plan : Plan) (misses number : ℕ) (next : Request)
    → slice_get (plan_requests unit plan misses) number ≡ Some next
    → shown_ask plan (drop number (plan_requests unit plan misses)) ≡ Send next.frame
aim_in unit (Finish verdict) misses number next at = cc
aim_in unit (Make access after) misses number next at = grind (arith, drop_at)

pub aim_at_request : (s : Session) (next : Request) → request_at_hand s ≡ Some next → aim_of s ≡ Send next.frame
aim_at_request s next at = grind (arith, ask_shown, aim_in)

-- what a session wants is what its plan asks
pub told_wants : (told : List Exchange) (s : Session) → Told told s → Wants s.unit (plan_of s.task) told (aim_of s)
unfolding Told
told_wants told s was = grind (arith, ask_shown)

-- what it keeps
pub told_reads : (told : List Exchange) (s : Session) → Told told s → ReadsSoFar s.task s.unit told s.bytes.items
unfolding Told
told_reads told s was = (_, _, _, _, _, was)

-- why it comes to no good end
pub told_cause : (told : List Exchange) (s : Session) → Told told s → IsCause s.task s.unit told s.cause
unfolding Told
told_cause told s was = (_, _, _, _, _, was)

pub none_read : (told : List Exchange) (s : Session) → Told told s → keeps s.task ≡ false → s.bytes.items ≡ []
unfolding Told
none_read told s was none = rw none at was.bytes_are
