-- A property of each request holds of each frame that tries of them send.
use Rattle.std.proofs.Common.{◌≡◌, ◌⊎◌, inl, inr, refl, sym, subst, ◌∙◌, ℕ, zero, suc, List, [], ◌∷◌, ◌++◌, Option}
use Rattle.std.specs.Prelude.{⊤}
use Rattle.std.specs.List.{AllByRecursion}
use Rattle.dali_frame.specs.declared.forward.Frame.{Frame}
use Rattle.dali_frame.specs.declared.forward.Frame.TheVariants.{Dtr0, Dtr1, Dtr2, Write, WriteSilent, Enable, AskDtr0}
use Rattle.dali_frame.specs.declared.forward.Frame.TheVariants.{AskDtr1, AskDtr2, Read, Other}
use Rattle.dali_write.specs.Exchanges.{Exchange}
use Rattle.dali_write.specs.declared.block.Block.{Block}
use Rattle.dali_write.specs.declared.request.Request.{Request}
use Rattle.dali_write.specs.declared.ask.Ask.{Ask}
use Rattle.dali_write.specs.declared.ask.Ask.TheVariants.{Send}
use Rattle.dali_write.specs.Requests.{request, reads, block_requests, access_requests, moved_on}
use Rattle.dali_write.specs.Plans.{Plan, Finish, Make, next_plan, plan_after}
use Rattle.dali_write.specs.Tries.{most_tries, Trying, Missed, Misses, Succeeds, Fails, AccessEnds, AccessesEnd}
use Rattle.dali_write.specs.Tries.{Wants, plan_requests}
use Rattle.dali_write.specs.Reads.{IsPassive}
use Rattle.dali_write.specs.Guards.{IsGuarded}
use Rattle.dali_write.proofs.AskLemmas.{shown_ask, ask_shown}
use Rattle.dali_write.proofs.GearLemmas.{IsQuiet}
use Rattle.dali_write.proofs.ShapeLemmas.{AllOf, left_all}
use Rattle.dali_write.proofs.BlockShapeLemmas.{back_requests}

-- it holds of each frame that was sent
abbrev pub Sent : (Frame → Type 0) → List Exchange → Type 0
Sent P told = AllByRecursion (λ x. P x.frame) told

-- it holds of each frame of these requests
abbrev pub Asks : (Frame → Type 0) → List Request → Type 0
Asks P requests = AllOf (λ next. P next.frame) requests

-- of newer exchanges after older ones
pub sent_both : (P : Frame → Type 0) (newer older : List Exchange) → Sent P newer → Sent P older
    → Sent P (newer ++ older)
sent_both P [] older one two = two
sent_both P (x ∷ newer) older one two = (one.0, sent_both P newer older one.1 two)

-- the next frame of a try
pub next_asked : (P : Frame → Type 0) (requests : List Request) (tried : List Exchange) (next : Request)
    (left : List Request)
    → Asks P requests → Trying requests tried (next ∷ left) → P next.frame
next_asked P requests tried next left all try =
    (left_all (λ next. P next.frame) requests tried (next ∷ left) all try).0

-- of a try
pub trying_sent : (P : Frame → Type 0) (requests : List Request) (tried : List Exchange) (left : List Request)
    → Asks P requests → Trying requests tried left → Sent P tried
trying_sent P requests [] left all try = tt
trying_sent P requests (x ∷ tried) left all try = (
  next_asked P requests tried (request x.frame try.0) left all try.2,
  trying_sent P requests tried (request x.frame try.0 ∷ left) all try.2,
)

pub missed_sent : (P : Frame → Type 0) (requests : List Request) (tried : List Exchange) → Asks P requests
    → Missed requests tried → Sent P tried
missed_sent P requests [] all never = absurd never
missed_sent P requests (x ∷ tried) all is = (
  next_asked P requests tried (request x.frame is.0) is.1 all is.3,
  trying_sent P requests tried (request x.frame is.0 ∷ is.1) all is.3,
)

-- of this many tries that missed
pub misses_sent : (P : Frame → Type 0) (requests : ℕ → List Request) (misses : ℕ) (told : List Exchange)
    → ((misses : ℕ) → Asks P (requests misses)) → Misses requests misses told → Sent P told
misses_sent P requests zero told all is = subst (λ (t : List Exchange). Sent P t) (sym is) tt
misses_sent P requests (suc misses) told all is =
    subst (λ (t : List Exchange). Sent P t) (sym is.2)
    (sent_both P is.0 is.1 (missed_sent P (requests misses) is.0 (all misses) is.3)
    (misses_sent P requests misses is.1 all is.4))

-- this many reads, and the requests after them
reads_ask : (P : Frame → Type 0) (unit count : ℕ) (back : List Request) → P (Read unit) → Asks P back
    → Asks P (reads unit count ++ back)
reads_ask P unit zero back read all = all
reads_ask P unit (suc count) back read all = (read, reads_ask P unit count back read all)

-- the frames of a read of a block, one by one
pub block_asks : (P : Frame → Type 0) (unit : ℕ) (block : Block) → P (Dtr1 1) → P (AskDtr1 unit)
    → P (Dtr0 block.location) → P (AskDtr0 unit) → P (Read unit) → Asks P (block_requests unit block)
block_asks P unit block set ask1 place ask0 read =
    let back = back_requests unit (moved_on block.location block.count) in
    (set, (ask1, (place, (ask0, reads_ask P unit block.count back read (ask0, (ask1, tt))))))

-- a frame that writes nothing and enables no unit, and that is to the unit or sets a register
abbrev pub IsCalm : ℕ → Frame → Type 0
IsCalm unit frame =
    IsPassive frame × ((writes : List (ℕ × ℕ)) (told : List Exchange) → IsGuarded writes unit told frame)

pub block_calm : (unit : ℕ) (block : Block) → Asks (IsCalm unit) (block_requests unit block)
block_calm unit block =
    block_asks (IsCalm unit) unit block (tt, λ writes told. tt) (tt, λ writes told. refl) (tt, λ writes told. tt)
    (tt, λ writes told. refl) (tt, λ writes told. refl)

pub calm_passive : (unit : ℕ) (told : List Exchange) → Sent (IsCalm unit) told → Sent IsPassive told
calm_passive unit [] sent = tt
calm_passive unit (x ∷ told) sent = (sent.0.0, calm_passive unit told sent.1)

-- such frames are quiet at each address
pub passive_quiet : (frame : Frame) → IsPassive frame → (address : ℕ) → IsQuiet address frame
passive_quiet (Dtr0 byte) passive address = tt
passive_quiet (Dtr1 byte) passive address = tt
passive_quiet (Dtr2 byte) passive address = tt
passive_quiet (AskDtr0 unit) passive address = tt
passive_quiet (AskDtr1 unit) passive address = tt
passive_quiet (AskDtr2 unit) passive address = tt
passive_quiet (Read unit) passive address = tt
passive_quiet (Write byte) passive address = absurd passive
passive_quiet (WriteSilent byte) passive address = absurd passive
passive_quiet (Enable unit) passive address = absurd passive
passive_quiet (Other word) passive address = absurd passive

pub sent_quiet : (address : ℕ) (told : List Exchange) → Sent IsPassive told → Sent (IsQuiet address) told
sent_quiet address [] sent = tt
sent_quiet address (x ∷ told) sent = (passive_quiet x.frame sent.0 address, sent_quiet address told sent.1)

-- of a whole access
pub access_sent : (P : Frame → Type 0) (requests : ℕ → List Request) (outcome : Option (List ℕ))
    (told : List Exchange)
    → ((misses : ℕ) → Asks P (requests misses)) → Succeeds requests outcome told ⊎ Fails requests outcome told
    → Sent P told
access_sent P requests outcome told all (inl done) =
    subst (λ (t : List Exchange). Sent P t) (sym done.3)
    (sent_both P done.0 done.1 (trying_sent P (requests done.2) done.0 [] (all done.2) done.4)
    (misses_sent P requests done.2 done.1 all done.7))
access_sent P requests outcome told all (inr failed) = misses_sent P requests most_tries told all failed.1

-- it holds of each frame of a plan
abbrev pub PlanAsks : (Frame → Type 0) → ℕ → Plan → Type 0
PlanAsks P unit (Finish verdict) = ⊤
PlanAsks P unit (Make access after) =
    ((misses : ℕ) → Asks P (access_requests unit access misses))
    × ((outcome : Option (List ℕ)) → PlanAsks P unit (after outcome))

at_hand_asks : (P : Frame → Type 0) (unit : ℕ) (plan : Plan) → PlanAsks P unit plan
    → (misses : ℕ) → Asks P (plan_requests unit plan misses)
at_hand_asks P unit (Finish verdict) all misses = tt
at_hand_asks P unit (Make access after) all misses = all.0 misses

accesses_sent : (P : Frame → Type 0) (unit : ℕ) (plan : Plan) (outcomes : List (Option (List ℕ)))
    (told : List Exchange)
    → PlanAsks P unit plan → AccessesEnd unit plan outcomes told
    → Sent P told × PlanAsks P unit (plan_after plan outcomes)
accesses_sent P unit plan [] told all ends = (subst (λ (t : List Exchange). Sent P t) (sym ends) tt, all)
accesses_sent P unit plan (outcome ∷ outcomes) told all ends =
    let before = accesses_sent P unit plan outcomes ends.1 all ends.4 in
    let now = by (plan_after plan outcomes) before.1 ends.3 in (
      subst (λ (t : List Exchange). Sent P t) (sym ends.2) (sent_both P ends.0 ends.1 now.0 before.0),
      now.1,
    )
  where
    by : (plan : Plan) → PlanAsks P unit plan → AccessEnds unit plan outcome ends.0
        → Sent P ends.0 × PlanAsks P unit (next_plan plan outcome)
    by (Finish verdict) all ended = absurd ended
    by (Make access after) all ended =
        (access_sent P (access_requests unit access) outcome ends.0 all.0 ended, all.1 outcome)

-- so of each that a session with this plan has sent, and of the one that it wants
pub wants_sent : (P : Frame → Type 0) (unit : ℕ) (plan : Plan) (told : List Exchange) (ask : Ask)
    → PlanAsks P unit plan → Wants unit plan told ask → Sent P told
wants_sent P unit plan told ask all wants =
    let s = wants.stands in
    let before = accesses_sent P unit plan wants.outcomes s.ended all s.accesses in
    let requests = plan_requests unit wants.now in
    let asks = at_hand_asks P unit wants.now (subst (λ (p : Plan). PlanAsks P unit p) s.now_is before.1) in
    subst (λ (t : List Exchange). Sent P t) (sym s.parts)
    (sent_both P s.tried (s.missed ++ s.ended)
    (trying_sent P (requests wants.misses) s.tried wants.left (asks wants.misses) s.try)
    (sent_both P s.missed s.ended (misses_sent P requests wants.misses s.missed asks s.misses_are) before.0))

pub wanted_asked : (P : Frame → Type 0) (unit : ℕ) (plan : Plan) (told : List Exchange) (frame : Frame)
    → PlanAsks P unit plan → Wants unit plan told (Send frame) → P frame
wanted_asked P unit plan told frame all wants =
    let s = wants.stands in
    let before = accesses_sent P unit plan wants.outcomes s.ended all s.accesses in
    let asks = at_hand_asks P unit wants.now (subst (λ (p : Plan). PlanAsks P unit p) s.now_is before.1) in
    by wants.now wants.left (asks wants.misses) s.try (ask_shown wants.now wants.left s.going ∙ wants.ask_is)
  where
    by : (now : Plan) (left : List Request) → Asks P (plan_requests unit now wants.misses)
        → Trying (plan_requests unit now wants.misses) wants.stands.tried left → shown_ask now left ≡ Send frame
        → P frame
    by (Finish verdict) left asks try is = cc
    by (Make access after) [] asks try is = cc
    by (Make access after) (next ∷ left) asks try is =
        let same : next.frame ≡ frame = cc in
        subst P same (next_asked P (access_requests unit access wants.misses) wants.stands.tried next left asks try)
