-- The misses among exchanges are those of the tries.
use Rattle.std.proofs.Common.{length-append, ◌≡◌, inl, inr, refl, sym, ap, subst, ℕ, zero, suc, ◌+◌, ◌≤◌, Bool, true, false}
use Rattle.std.specs.Prelude.{◌==◌, ⊤}
use Rattle.std.proofs.Common.{if◌then◌else◌, List, [], ◌∷◌, ◌++◌, append_assoc, append-nil, Option, Some, None}
use Rattle.std.proofs.Common.{arith}
use Rattle.std.proofs.lemmas.Bool.{eq-eqb, ne_eqb, eqb-true}
use Rattle.std.proofs.Common.{◌∙◌}
use Rattle.dali_write.specs.Exchanges.{Exchange}
use Rattle.dali_write.specs.declared.request.Request.{Request}
use Rattle.dali_write.specs.declared.request.Wish.{Wish}
use Rattle.dali_write.specs.declared.request.Wish.TheVariants.{Nothing, Exactly, Anything}
use Rattle.dali_write.specs.declared.access.Access.{Access}
use Rattle.dali_write.specs.declared.access.Access.TheVariants.{ReadFrom, WriteTo, WriteOn}
use Rattle.dali_write.specs.declared.ask.Verdict.{Verdict}
use Rattle.dali_write.specs.Requests.{Meets, request, moved_on, reads, put_requests, access_requests}
use Rattle.dali_bus.specs.Hears.{up}
use Rattle.dali_write.proofs.PlaceLemmas.{moved_next}
use Rattle.dali_write.specs.Plans.{Plan, Finish, Make, next_plan, plan_after, written_by, ComesBehind, IsInTurn}
use Rattle.dali_write.specs.Tries.{most_tries, Trying, Missed, Misses, Succeeds, AccessEnds, AccessesEnd}
use Rattle.dali_write.specs.Walks.{Walk, access_misses, misses_of, Took}
use Rattle.dali_write.specs.Doubts.{EndsInFailure, HasFailed}
use Rattle.dali_write.specs.Misses.{location_after, location_in, wish_of, is_missed, misses_in, others_in, IsApt, IsLong}
use Rattle.dali_write.specs.declared.pace.Pace.{Pace}
use Rattle.dali_write.specs.declared.pace.Pace.TheVariants.{Checked, Short}

-- each request wishes what its frame asks for, if DTR0 should hold this location before the first one
abbrev pub Apt : ℕ → List Request → Type 0
Apt location [] = ⊤
Apt location (next ∷ left) = (next.wish ≡ wish_of next.frame location) × Apt (location_after next.frame location) left

apt_reads : (unit count location : ℕ) (back : List Request) → Apt (moved_on location count) back
    → Apt location (reads unit count ++ back)
apt_reads unit zero location back apt = apt
apt_reads unit (suc count) location back apt = (
  refl,
  apt_reads unit count (up location) back
      (subst (λ (l : ℕ). Apt l back) (sym (moved_next location count)) apt),
)

put_apt : (moved : Bool) (unit at byte location : ℕ) → (moved ≡ true → location ≡ at)
    → Apt location (put_requests moved unit at byte)
put_apt true unit at byte location same = (refl, (ap Exactly (sym (same refl)), (refl, tt)))
put_apt false unit at byte location same = (refl, (refl, (refl, (refl, tt))))

-- DTR0 holds what the access takes it to hold
abbrev StandsFor : ℕ → Access → Type 0
StandsFor location (ReadFrom block) = ⊤
StandsFor location (WriteTo at byte) = ⊤
StandsFor location (WriteOn before at byte) = location ≡ up before

apt_first : (unit : ℕ) (access : Access) (location : ℕ) → StandsFor location access
    → Apt location (access_requests unit access 0)
apt_first unit (ReadFrom block) location stands = grind (arith, apt_reads)
apt_first unit (WriteTo at byte) location stands = (refl, (refl, (refl, (refl, (refl, (refl, (refl, tt)))))))
apt_first unit (WriteOn before at byte) location stands =
    put_apt (up before == at) unit at byte location (λ moved. stands ∙ eqb-true (up before) at moved)

apt_later : (unit : ℕ) (access : Access) (misses location : ℕ)
    → Apt location (access_requests unit access (suc misses))
apt_later unit (ReadFrom block) misses location = grind (arith, apt_reads)
apt_later unit (WriteTo at byte) misses location = (refl, (refl, (refl, (refl, (refl, (refl, (refl, tt)))))))
apt_later unit (WriteOn before at byte) misses location =
    (refl, (refl, (refl, (refl, (refl, (refl, (refl, tt)))))))

-- after misses of the access, or after none
apt_behind : (unit : ℕ) (access : Access) (count : ℕ) (told older : List Exchange)
    → StandsFor (location_in older) access → Misses (access_requests unit access) count told
    → Apt (location_in (told ++ older)) (access_requests unit access count)
apt_behind unit access zero told older stands are = rw are (apt_first unit access (location_in older) stands)
apt_behind unit access (suc count) told older stands are = apt_later unit access count (location_in (told ++ older))

met : (wish : Wish) (answer : Option ℕ) → Meets wish answer → is_missed wish answer ≡ false
met Nothing answer meets = refl
met (Exactly byte) None meets = cc
met (Exactly byte) (Some got) meets = let same : got ≡ byte = cc in rw (eq-eqb got byte same) refl
met Anything None meets = cc
met Anything (Some got) meets = refl

unmet : (wish : Wish) (answer : Option ℕ) → ¬ Meets wish answer → is_missed wish answer ≡ true
unmet Nothing answer missed = absurd (missed tt)
unmet (Exactly byte) None missed = refl
unmet (Exactly byte) (Some got) missed = rw (ne_eqb got byte (λ same. missed (ap Some same))) refl
unmet Anything None missed = refl
unmet Anything (Some got) missed = absurd (missed refl)

-- one more exchange
more : (x : Exchange) (told : List Exchange) (wish : Wish) (b : Bool) → wish ≡ wish_of x.frame (location_in told)
    → is_missed wish x.answer ≡ b
    → misses_in (x ∷ told) ≡ (if b then 1 else 0) + misses_in told
more x told wish b same is = rw (← same, is) refl

-- a part of a try has no miss
pub trying : (requests : List Request) (tried : List Exchange) (left : List Request) (older : List Exchange)
    → Apt (location_in older) requests → Trying requests tried left
    → (misses_in (tried ++ older) ≡ misses_in older) × Apt (location_in (tried ++ older)) left
trying requests [] left older apt try = (refl, subst (Apt (location_in older)) (sym try) apt)
trying requests (x ∷ tried) left older apt try =
    grind (
      arith,
      trying requests tried (request x.frame try.0 ∷ left) older apt try.2,
      more,
      met try.0 x.answer
          try.1,
    )

pub missed : (requests : List Request) (tried older : List Exchange) → Apt (location_in older) requests
    → Missed requests tried
    → misses_in (tried ++ older) ≡ 1 + misses_in older
missed requests [] older apt ends = absurd ends
missed requests (x ∷ tried) older apt ends =
    grind (
      arith,
      trying requests tried (request x.frame ends.0 ∷ ends.1) older apt ends.3,
      more,
      unmet ends.0
          x.answer ends.2,
    )

misses : (unit : ℕ) (access : Access) (count : ℕ) (told older : List Exchange)
    → StandsFor (location_in older) access → Misses (access_requests unit access) count told
    → misses_in (told ++ older) ≡ count + misses_in older
misses unit access zero told older stands are = rw are (omega arith)
misses unit access (suc count) told older stands are =
    grind (
      arith,
      misses unit access count are.1 older stands are.4,
      missed (access_requests unit access count) are.0 (are.1 ++
          older) (apt_behind unit access count are.1 older stands are.4) are.3,
      append_assoc are.0 are.1 older,
    )

-- the plan goes on by an access for which DTR0 is as it should be
abbrev pub PlanStands : List Exchange → Plan → Type 0
PlanStands older (Finish verdict) = ⊤
PlanStands older (Make access after) = StandsFor (location_in older) access

-- of an access
pub access_ends : (unit : ℕ) (plan : Plan) (outcome : Option (List ℕ)) (told older : List Exchange)
    (ends : AccessEnds unit plan outcome told) → PlanStands older plan
    → misses_in (told ++ older) ≡ access_misses unit plan outcome told ends + misses_in older
access_ends unit (Finish verdict) outcome told older ends stands = absurd ends
access_ends unit (Make access after) outcome told older (inl done) stands =
    grind (
      arith,
      misses unit access done.2 done.1 older stands done.7,
      trying (access_requests unit access done.2) done.0 []
          (done.1 ++ older) (apt_behind unit access done.2 done.1 older stands done.7) done.4,
      append_assoc done.0 done.1
          older,
    )
access_ends unit (Make access after) outcome told older (inr failed) stands =
    misses unit access most_tries told older stands failed.1

-- ---- the location that DTR0 should hold after an access

-- the location that it should hold after these requests
abbrev stands_after : ℕ → List Request → ℕ
stands_after location [] = location
stands_after location (next ∷ left) = stands_after (location_after next.frame location) left

stands_trying : (requests : List Request) (tried : List Exchange) (left : List Request) (older : List Exchange)
    → Trying requests tried left
    → stands_after (location_in (tried ++ older)) left ≡ stands_after (location_in older) requests
stands_trying requests [] left older try = ap (stands_after (location_in older)) try
stands_trying requests (x ∷ tried) left older try =
    stands_trying requests tried (request x.frame try.0 ∷ left) older try.2

stands_put : (moved : Bool) (unit at byte location : ℕ) → (moved ≡ true → location ≡ at)
    → stands_after location (put_requests moved unit at byte) ≡ up at
stands_put true unit at byte location same = ap up (same refl)
stands_put false unit at byte location same = refl

stands_wrote : (unit : ℕ) (access : Access) (misses location to : ℕ) → (misses ≡ 0 → StandsFor location access)
    → written_by access ≡ Some to → stands_after location (access_requests unit access misses) ≡ up to
stands_wrote unit (ReadFrom block) misses location to stands is = cc
stands_wrote unit (WriteTo at byte) misses location to stands is = let same : at ≡ to = cc in ap up same
stands_wrote unit (WriteOn before at byte) zero location to stands is =
    let same : at ≡ to = cc in
    stands_put (up before == at) unit at byte location (λ moved. stands refl ∙ eqb-true (up before) at moved)
    ∙ ap up same
stands_wrote unit (WriteOn before at byte) (suc misses) location to stands is =
    let same : at ≡ to = cc in ap up same

-- just after a write to this location, or after none
abbrev pub Behind : Option ℕ → List Exchange → Type 0
Behind last told = (before : ℕ) → last ≡ Some before → (older : List Exchange) → location_in (told ++ older) ≡ up before

pub apt_then : (last : Option ℕ) (access : Access) (told : List Exchange) → ComesBehind last access
    → Behind last told → IsApt told access
apt_then last (ReadFrom block) told comes behind = tt
apt_then last (WriteTo at byte) told comes behind = tt
apt_then last (WriteOn before at byte) told comes behind = behind before comes

stands_then : (access : Access) (told older : List Exchange) → IsApt told access
    → StandsFor (location_in (told ++ older)) access
stands_then (ReadFrom block) told older apt = tt
stands_then (WriteTo at byte) told older apt = tt
stands_then (WriteOn before at byte) told older apt = apt older

stands_now : (access : Access) (told : List Exchange) → IsApt told access → StandsFor (location_in told) access
stands_now access told apt =
    subst (λ (t : List Exchange). StandsFor (location_in t) access) (append-nil told) (stands_then access told [] apt)

none_missed : (requests : ℕ → List Request) (count : ℕ) (told : List Exchange) → count ≡ 0
    → Misses requests count told → told ≡ []
none_missed requests zero told none are = are
none_missed requests (suc count) told none are = cc

behind_done : (unit : ℕ) (access : Access) (outcome : Option (List ℕ)) (newer told : List Exchange) → IsApt told access
    → Succeeds (access_requests unit access) outcome newer → Behind (written_by access) (newer ++ told)
behind_done unit access outcome newer told apt done to is older =
    rw all (stands_trying (access_requests unit access done.2) done.0 [] rest done.4
    ∙ stands_wrote unit access done.2 (location_in rest) to first is)
  where
    rest : List Exchange
    rest = done.1 ++ (told ++ older)

    all : (newer ++ told) ++ older ≡ done.0 ++ rest
    all = ap (λ (t : List Exchange). (t ++ told) ++ older) done.3
        ∙ (append_assoc (done.0 ++ done.1) told older ∙ append_assoc done.0 done.1 (told ++ older))

    first : done.2 ≡ 0 → StandsFor (location_in rest) access
    first none =
        rw (none_missed (access_requests unit access) done.2 done.1 none done.7) (stands_then access told older apt)

-- after an access the plan is in turn again
pub turn_next : (unit : ℕ) (last : Option ℕ) (access : Access) (after : Option (List ℕ) → Plan)
    (outcome : Option (List ℕ)) (newer told : List Exchange)
    → IsInTurn last (Make access after) → Behind last told → AccessEnds unit (Make access after) outcome newer
    → (next : Option ℕ) × IsInTurn next (after outcome) × Behind next (newer ++ told)
turn_next unit last access after None newer told turn behind ends = (None, turn.1, λ before is. cc)
turn_next unit last access after (Some bytes) newer told turn behind (inl done) = (
  written_by access,
  turn.2 bytes,
  behind_done unit access (Some bytes) newer told (apt_then last access told turn.0 behind) done,
)
turn_next unit last access after (Some bytes) newer told turn behind (inr failed) = let never = failed.0 in cc

pub behind_none : (told : List Exchange) → Behind None told
behind_none told before is = cc

-- after whole accesses of a plan
pub turn_after : (unit : ℕ) (plan : Plan) (outcomes : List (Option (List ℕ))) (told : List Exchange)
    → IsInTurn None plan → AccessesEnd unit plan outcomes told
    → (last : Option ℕ) × IsInTurn last (plan_after plan outcomes) × Behind last told
turn_after unit plan [] told turn ends = (None, turn, behind_none told)
turn_after unit plan (outcome ∷ outcomes) told turn ends =
    let older = turn_after unit plan outcomes ends.1 turn ends.4 in
    rw ends.2 (by (plan_after plan outcomes) older.0 older.1 older.2 ends.3)
  where
    by : (now : Plan) (last : Option ℕ) → IsInTurn last now → Behind last ends.1
        → AccessEnds unit now outcome ends.0
        → (next : Option ℕ) × IsInTurn next (next_plan now outcome) × Behind next (ends.0 ++ ends.1)
    by (Finish verdict) last is behind one = absurd one
    by (Make access after) last is behind one =
        turn_next unit last access after outcome ends.0 ends.1 is behind one

-- the misses of a walk
walk_on : (unit : ℕ) (last : Option ℕ) (plan : Plan) (outcomes : List (Option (List ℕ))) (told : List Exchange)
    (end : Plan) (older : List Exchange) (walk : Walk unit plan outcomes told end) → IsInTurn last plan
    → Behind last older
    → misses_in (told ++ older) ≡ misses_of unit plan outcomes told end walk + misses_in older
walk_on unit last plan [] told end older walk turn behind = rw walk.0 (omega arith)
walk_on unit last (Finish verdict) (outcome ∷ outcomes) told end older walk turn behind = absurd walk.3
walk_on unit last (Make access after) (outcome ∷ outcomes) told end older walk turn behind =
    let next = turn_next unit last access after outcome walk.1 older turn behind walk.3 in
    let stands = stands_now access older (apt_then last access older turn.0 behind) in
    let here = access_ends unit (Make access after) outcome walk.1 older walk.3 stands in
    let rest =
    walk_on unit next.0 (after outcome) outcomes walk.0 end (walk.1 ++ older) walk.4 next.1 next.2 in
    let joined : misses_in (told ++ older) ≡ misses_in (walk.0 ++ (walk.1 ++ older)) =
    ap misses_in (ap (λ (t : List Exchange). t ++ older) walk.2 ∙ append_assoc walk.0 walk.1 older) in
    omega arith

pub walk_misses : (unit : ℕ) (plan : Plan) (outcomes : List (Option (List ℕ))) (told : List Exchange) (end : Plan)
    (older : List Exchange) (walk : Walk unit plan outcomes told end) → IsInTurn None plan
    → misses_in (told ++ older) ≡ misses_of unit plan outcomes told end walk + misses_in older
walk_misses unit plan outcomes told end older walk turn =
    walk_on unit None plan outcomes told end older walk turn (behind_none older)

pub walk_misses_in : (unit : ℕ) (plan : Plan) (outcomes : List (Option (List ℕ))) (told : List Exchange) (end : Plan)
    (walk : Walk unit plan outcomes told end) → IsInTurn None plan
    → misses_in told ≡ misses_of unit plan outcomes told end walk
walk_misses_in unit plan outcomes told end walk turn =
    grind (arith, walk_misses unit plan outcomes told end [] walk turn, append-nil told)

-- a walk that is so long, and older frames that are so long
pub took_long : (pace : Pace) (unit : ℕ) (plan : Plan) (wanted : List (ℕ × ℕ)) (told older : List Exchange)
    (verdict : Verdict) (frames others before : ℕ)
    → Took pace unit plan told verdict frames others → others + others_in wanted older ≤ others_in wanted (told ++
    older)
    → IsInTurn None plan → IsLong pace wanted before older → IsLong pace wanted (frames + before) (told ++ older)
took_long Checked unit plan wanted told older verdict frames others before took more turn long =
    let all = walk_misses unit plan took.outcomes told (Finish verdict) older took.walk turn in
    let joined = length-append told older in
    (omega (arith, took.took, long.0), omega (arith, took.took, took.few, long.1))
took_long Short unit plan wanted told older verdict frames others before took more turn long =
    let all = walk_misses unit plan took.outcomes told (Finish verdict) older took.walk turn in
    let joined = length-append told older in
    (omega (arith, took.took, long.0), omega (arith, took.took, took.few, long.1))

-- older misses are among them
more_misses : (newer older : List Exchange) → misses_in older ≤ misses_in (newer ++ older)
more_misses [] older = omega arith
more_misses (x ∷ newer) older = let rest = more_misses newer older in omega arith

-- an access that failed missed as often as it has tries
pub failure_misses : (unit : ℕ) (access : Access) (told : List Exchange) → EndsInFailure unit access told
    → most_tries ≤ misses_in told
failure_misses unit access told f =
    grind (arith, misses unit access most_tries f.tries f.older (stands_now access f.older f.place) f.missed)

pub failed_misses : (unit : ℕ) (told : List Exchange) → HasFailed unit told → most_tries ≤ misses_in told
failed_misses unit told f =
    grind (arith, failure_misses unit f.access f.before f.failure, more_misses f.newer f.before)
