-- The frames that a session wants are guarded.
use Rattle.std.proofs.Common.{zero, suc, ◌≡◌, refl, ap, ◌∙◌, inl, inr, ℕ, List, [], ◌∷◌, ◌++◌}
use Rattle.std.proofs.Common.{append_assoc, append-nil, subst, sym, Option, Bool, true, false, ◌==◌, arith}
use Rattle.dali_bus.specs.Hears.{up}
use Rattle.std.specs.Prelude.{⊤}
use Rattle.dali_frame.specs.declared.forward.Frame.{Frame}
use Rattle.dali_frame.specs.declared.forward.Frame.TheVariants.{Dtr0, Dtr1, Dtr2, Write, WriteSilent, Enable, AskDtr0}
use Rattle.dali_frame.specs.declared.forward.Frame.TheVariants.{AskDtr1, AskDtr2, Read, Other}
use Rattle.dali_write.specs.Exchanges.{Exchange}
use Rattle.dali_write.specs.declared.request.Request.{Request}
use Rattle.dali_write.specs.declared.request.Wish.TheVariants.{Exactly, Nothing}
use Rattle.dali_write.specs.declared.access.Access.TheVariants.{ReadFrom, WriteTo, WriteOn}
use Rattle.dali_write.specs.declared.ask.Ask.TheVariants.{Send}
use Rattle.dali_write.specs.declared.ask.Verdict.{Verdict}
use Rattle.dali_write.specs.declared.ask.Verdict.TheVariants.{Doubt, DoubtOpen, Closed, NotClosed}
use Rattle.dali_write.specs.declared.block.Block.{Block}
use Rattle.dali_write.specs.Requests.{request, questions, select_requests, block_requests, write_requests}
use Rattle.dali_write.specs.Plans.{Plan, Finish, Make, next_plan, plan_after, close, give_up, read_back}
use Rattle.dali_write.specs.Plans.{write_on, unlock}
use Rattle.dali_write.specs.Tries.{Trying, Wants, plan_requests}
use Rattle.dali_write.proofs.AskLemmas.{shown_ask, ask_shown}
use Rattle.dali_write.specs.Touches.{Has, writes_of}
use Rattle.dali_write.specs.Guards.{IsGuarded}
use Rattle.dali_write.proofs.ShapeLemmas.{AllOf, asked_requests, front_or_last, none_left}
use Rattle.dali_write.proofs.BlockShapeLemmas.{Parts, in_parts}
use Rattle.dali_write.proofs.AskedLemmas.{IsCalm, block_calm, next_asked}
use Rattle.dali_write.proofs.PlanLemmas.{either_all, if_all}
use Rattle.dali_write.specs.declared.pace.Pace.{Pace}
use Rattle.dali_write.specs.declared.pace.Pace.TheVariants.{Checked, Short}
use Rattle.dali_write.specs.Plans.{rows_of, most_of, read_backs, read_all_back, write_next}
use Rattle.dali_write.specs.Requests.{put_requests}
use Rattle.dali_write.specs.Worlds.{Selects}
use Rattle.std.specs.Str.{bytes_eq}
use Rattle.dali_write.specs.Plans.{most_once, pieces_of, expect_all, read_again}
use Rattle.std.proofs.Common.{nat_lt, length}

-- each frame of a try of these requests is guarded when it is next
abbrev pub GuardedRequests : List (ℕ × ℕ) → ℕ → List Request → Type 0
GuardedRequests writes unit requests =
    (tried : List Exchange) (next : Request) (left : List Request) → Trying requests tried (next ∷ left)
    → IsGuarded writes unit tried next.frame

-- the frames of a read
read_guarded : (writes : List (ℕ × ℕ)) (unit : ℕ) (block : Block)
    → GuardedRequests writes unit (block_requests unit block)
read_guarded writes unit block tried next left try =
    (next_asked (IsCalm unit) (block_requests unit block) tried next left (block_calm unit block) try).1 writes tried

-- a try whose last frame writes, if those before it are guarded and make sure of the location
last_guarded : (writes : List (ℕ × ℕ)) (unit location byte : ℕ) (front : List Request) → Has writes location byte
    → AllOf (λ (r : Request). (told : List Exchange) → IsGuarded writes unit told r.frame) front
    → ((tried : List Exchange) → Trying front tried [] → Selects unit location tried)
    → GuardedRequests writes unit (front ++ request (Write byte) (Exactly byte) ∷ [])
last_guarded writes unit location byte front has all selects tried next left try =
    elim (front_or_last (λ (r : Request). (told : List Exchange) → IsGuarded writes unit told r.frame) front
    (request (Write byte) (Exactly byte)) tried next left all try) [
      | inl guarded ↦ guarded tried
      | inr (is, sent) ↦ subst (λ (r : Request). IsGuarded writes unit tried r.frame) (sym is)
          (location, has, selects tried sent)
    ]

-- the frames before the write of a checked write, of which the last four select its location
abbrev pub enabled_requests : ℕ → ℕ → List Request
enabled_requests unit location =
    request (Enable unit) Nothing ∷ request (Enable unit) Nothing ∷ select_requests unit location

pub enabled_parts : (unit location : ℕ) (tried : List Exchange) → Trying (enabled_requests unit location) tried []
    → Parts (request (Enable unit) Nothing ∷ request (Enable unit) Nothing ∷ []) (select_requests unit location)
    tried []
enabled_parts unit location tried try =
    in_parts (request (Enable unit) Nothing ∷ request (Enable unit) Nothing ∷ []) (select_requests unit location) tried
    [] try (omega arith)

write_guarded : (writes : List (ℕ × ℕ)) (unit location byte : ℕ) → Has writes location byte
    → GuardedRequests writes unit (write_requests unit location byte)
write_guarded writes unit location byte has =
    let enables : (told : List Exchange) → IsGuarded writes unit told (Enable unit) =
    λ told. (refl, (location, byte, has)) in
    last_guarded writes unit location byte (enabled_requests unit location) has
    (enables, (enables, (λ told. tt, (λ told. refl, (λ told. tt, (λ told. refl, tt))))))
    (λ tried try. let p = enabled_parts unit location tried try in (p.newer, p.older, p.is, inr p.newer_is))

-- the frames of a write at a unit that is enabled
put_guarded : (writes : List (ℕ × ℕ)) (moved : Bool) (unit location byte : ℕ) → Has writes location byte
    → GuardedRequests writes unit (put_requests moved unit location byte)
put_guarded writes true unit location byte has =
    last_guarded writes unit location byte (questions unit location) has (λ told. refl, (λ told. refl, tt))
    (λ tried try. (tried, [], sym (append-nil tried), inl try))
put_guarded writes false unit location byte has =
    last_guarded writes unit location byte (asked_requests false unit location) has
    (λ told. tt, (λ told. refl, (λ told. refl, tt)))
    (λ tried try.
    let p = in_parts (request (Dtr0 location) Nothing ∷ []) (questions unit location) tried [] try (omega arith) in
    (p.newer, p.older, p.is, inl p.newer_is))

-- each write of the plan is one of these
abbrev pub OnlyWrites : List (ℕ × ℕ) → Plan → Type 0
OnlyWrites writes (Finish verdict) = ⊤
OnlyWrites writes (Make (ReadFrom location) after) = (outcome : Option (List ℕ)) → OnlyWrites writes (after outcome)
OnlyWrites writes (Make (WriteTo location byte) after) =
    Has writes location byte × ((outcome : Option (List ℕ)) → OnlyWrites writes (after outcome))
OnlyWrites writes (Make (WriteOn before location byte) after) =
    Has writes location byte × ((outcome : Option (List ℕ)) → OnlyWrites writes (after outcome))

next_writes : (writes : List (ℕ × ℕ)) (pace : Pace) (before location byte : ℕ) (after : Option (List ℕ) → Plan)
    → Has writes location byte → ((outcome : Option (List ℕ)) → OnlyWrites writes (after outcome))
    → OnlyWrites writes (Make (write_next pace before location byte) after)
next_writes writes Checked before location byte after has only = (has, only)
next_writes writes Short before location byte after has only = (has, only)

-- after an outcome the plan makes only these writes, too
pub goes_on_writes : (writes : List (ℕ × ℕ)) (plan : Plan) (outcome : Option (List ℕ)) → OnlyWrites writes plan
    → OnlyWrites writes (next_plan plan outcome)
goes_on_writes writes (Finish verdict) outcome only = tt
goes_on_writes writes (Make (ReadFrom location) after) outcome only = only outcome
goes_on_writes writes (Make (WriteTo location byte) after) outcome only = only.1 outcome
goes_on_writes writes (Make (WriteOn before location byte) after) outcome only = only.1 outcome

-- the frames of the access at hand
pub plan_guarded : (writes : List (ℕ × ℕ)) (unit : ℕ) (plan : Plan) → OnlyWrites writes plan
    → (misses : ℕ) → GuardedRequests writes unit (plan_requests unit plan misses)
plan_guarded writes unit (Finish verdict) only misses =
    λ tried next left try. absurd (none_left tried next left try)
plan_guarded writes unit (Make (ReadFrom block) after) only misses = read_guarded writes unit block
plan_guarded writes unit (Make (WriteTo location byte) after) only misses =
    write_guarded writes unit location byte only.0
plan_guarded writes unit (Make (WriteOn before location byte) after) only zero =
    put_guarded writes (up before == location) unit location byte only.0
plan_guarded writes unit (Make (WriteOn before location byte) after) only (suc misses) =
    write_guarded writes unit location byte only.0

-- older exchanges take no guard away
pub older_guarded : (writes : List (ℕ × ℕ)) (unit : ℕ) (tried older : List Exchange) (frame : Frame)
    → IsGuarded writes unit tried frame → IsGuarded writes unit (tried ++ older) frame
older_guarded writes unit tried older (Dtr0 byte) guarded = tt
older_guarded writes unit tried older (Dtr1 byte) guarded = tt
older_guarded writes unit tried older (Dtr2 byte) guarded = absurd guarded
older_guarded writes unit tried older (Write byte) guarded =
    let s = guarded.2 in (
      guarded.0,
      guarded.1,
      (s.0, s.1 ++ older, ap (λ (t : List Exchange). t ++ older) s.2 ∙ append_assoc s.0 s.1 older, s.3),
    )
older_guarded writes unit tried older (WriteSilent byte) guarded = absurd guarded
older_guarded writes unit tried older (Enable to) guarded = guarded
older_guarded writes unit tried older (AskDtr0 to) guarded = guarded
older_guarded writes unit tried older (AskDtr1 to) guarded = guarded
older_guarded writes unit tried older (AskDtr2 to) guarded = absurd guarded
older_guarded writes unit tried older (Read to) guarded = guarded
older_guarded writes unit tried older (Other word) guarded = absurd guarded

-- what is left of a plan after whole accesses makes only these writes, too
left_writes : (writes : List (ℕ × ℕ)) (plan : Plan) (outcomes : List (Option (List ℕ))) → OnlyWrites writes plan
    → OnlyWrites writes (plan_after plan outcomes)
left_writes writes plan [] only = only
left_writes writes plan (outcome ∷ outcomes) only =
    goes_on_writes writes (plan_after plan outcomes) outcome (left_writes writes plan outcomes only)

-- the frame that is asked for is the next one of the try
asked_guarded : (writes : List (ℕ × ℕ)) (unit : ℕ) (now : Plan) (misses : ℕ) (tried : List Exchange)
    (left : List Request)
    (frame : Frame)
    → OnlyWrites writes now
    → Trying (plan_requests unit now misses) tried left → shown_ask now left ≡ Send frame
    → IsGuarded writes unit tried frame
asked_guarded writes unit (Finish verdict) misses tried left frame only try is = cc
asked_guarded writes unit (Make access after) misses tried [] frame only try is = cc
asked_guarded writes unit (Make access after) misses tried (next ∷ left) frame only try is =
    grind (arith, plan_guarded writes unit (Make access after) only misses tried next left try)

-- at every frame that a session wants whose plan makes only these writes
wants_guarded : (writes : List (ℕ × ℕ)) (unit : ℕ) (plan : Plan) (told : List Exchange) (frame : Frame)
    → OnlyWrites writes plan → Wants unit plan told (Send frame)
    → IsGuarded writes unit told frame
wants_guarded writes unit plan told frame only wants =
    grind (arith, left_writes writes plan wants.outcomes only, older_guarded, asked_guarded, ask_shown)

-- a plan that locks the unit
pub close_writes : (writes : List (ℕ × ℕ)) (answered unanswered : Verdict) → Has writes 2 0xFF
    → OnlyWrites writes (close answered unanswered)
close_writes writes answered unanswered has = grind (arith, either_all)

all_writes : (writes : List (ℕ × ℕ)) (rows : List (ℕ × List ℕ)) (after : Plan) → Has writes 2 0xFF
    → OnlyWrites writes after → OnlyWrites writes (expect_all rows after)
all_writes writes [] after has rest = rest
all_writes writes (row ∷ rows) after has rest =
    either_all (OnlyWrites writes) give_up _ (close_writes writes Doubt DoubtOpen has)
    (λ read. if_all (OnlyWrites writes) (bytes_eq read row.1) (expect_all rows after) give_up
    (all_writes writes rows after has rest)
    (close_writes writes Doubt DoubtOpen has))

-- a plan that reads rows back
read_back_writes : (writes : List (ℕ × ℕ)) (rows : List (ℕ × List ℕ)) → Has writes 2 0xFF
    → OnlyWrites writes (read_back rows)
read_back_writes writes [] has = tt
read_back_writes writes (row ∷ rows) has =
    let rest = read_back_writes writes rows has in
    let again = read_again row.0 row.1 (read_back rows) in
    let otherwise : OnlyWrites writes again =
    if_all (OnlyWrites writes) (nat_lt most_once (length row.1)) (expect_all (pieces_of row.0 row.1) (read_back rows))
    give_up (all_writes writes (pieces_of row.0 row.1) (read_back rows) has rest)
    (close_writes writes Doubt DoubtOpen has) in
    either_all (OnlyWrites writes) again _ otherwise
    (λ read. if_all (OnlyWrites writes) (bytes_eq read row.1) (read_back rows) again rest otherwise)

-- the updates that are left are among the writes
pub write_on_writes : (writes : List (ℕ × ℕ)) (pace : Pace) (updates : List (ℕ × ℕ)) (before : ℕ) (left : List (ℕ × ℕ))
    → Has writes 2 0xFF
    → ((location byte : ℕ) → Has left location byte → Has writes location byte)
    → OnlyWrites writes (write_on pace updates before left)
write_on_writes writes pace updates before [] has among =
    next_writes writes pace before 2 0xFF _ has
    (either_all (OnlyWrites writes) give_up (λ bytes. read_all_back pace updates)
    (close_writes writes Doubt DoubtOpen has)
    (λ bytes. read_back_writes writes (rows_of (most_of pace) (read_backs updates)) has))
write_on_writes writes pace updates before (update ∷ left) has among =
    next_writes writes pace before update.0 update.1 _ (among update.0 update.1 (inl (refl, refl)))
    (either_all (OnlyWrites writes) give_up (λ bytes. write_on pace updates update.0 left)
    (close_writes writes Doubt DoubtOpen has)
    (λ bytes. write_on_writes writes pace updates update.0 left has
    (λ location b in_left. among location b (inr in_left))))

-- the plan of an opened session
pub unlock_writes : (pace : Pace) (updates : List (ℕ × ℕ)) → OnlyWrites (writes_of updates) (unlock pace updates)
unlock_writes pace updates =
    let has : Has (writes_of updates) 2 0xFF = inr (inl (refl, refl)) in (
      inl (refl, refl),
      either_all (OnlyWrites (writes_of updates)) give_up (λ bytes. write_on pace updates 2 updates)
          (close_writes (writes_of updates) Doubt DoubtOpen has)
          (λ bytes.
          write_on_writes (writes_of updates) pace updates 2 updates has
          (λ location b in_updates. inr (inr in_updates))),
    )

pub opened_guarded : (told : List Exchange) (unit : ℕ) (pace : Pace) (updates : List (ℕ × ℕ)) (frame : Frame)
    → Wants unit (unlock pace updates) told (Send frame)
    → IsGuarded (writes_of updates) unit told frame
opened_guarded told unit pace updates frame wants =
    wants_guarded (writes_of updates) unit (unlock pace updates) told frame (unlock_writes pace updates) wants

pub closing_guarded : (told : List Exchange) (unit : ℕ) (frame : Frame)
    → Wants unit (close Closed NotClosed) told (Send frame) → IsGuarded ((2, 0xFF) ∷ []) unit told frame
closing_guarded told unit frame wants =
    wants_guarded ((2, 0xFF) ∷ []) unit (close Closed NotClosed) told frame
    (close_writes ((2, 0xFF) ∷ []) Closed NotClosed (inl (refl, refl))) wants
