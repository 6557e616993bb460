-- Sessions touch their places alone over a bus that alters answers, too.
use Rattle.std.proofs.Common.{◌≡◌, ◌⊎◌, refl, sym, ap, subst, ◌∙◌, inl, inr, ℕ, List, [], ◌∷◌, ◌++◌}
use Rattle.std.proofs.Common.{append_assoc, append-nil, Option, Some, None, length, Bool, true, false}
use Rattle.std.specs.Prelude.{⊤, nat_lt}
use Rattle.std.proofs.lemmas.Bool.{both_ways}
use Rattle.dali_bus.specs.World.{World, Gear}
use Rattle.dali_bus.specs.Hears.{up}
use Rattle.dali_bus.specs.Carry.{WorldStep}
use Rattle.dali_write.specs.Exchanges.{Exchange}
use Rattle.dali_write.specs.declared.request.Request.{Request}
use Rattle.dali_write.specs.declared.access.Access.{Access}
use Rattle.dali_write.specs.declared.access.Access.TheVariants.{ReadFrom, WriteTo, WriteOn}
use Rattle.dali_write.specs.declared.ask.Ask.{Ask}
use Rattle.dali_write.specs.Plans.{Plan, Finish, Make, plan_after, written_by, ComesBehind, IsInTurn}
use Rattle.dali_write.specs.Plans.{unlock, close, read_length, give_up, read_back}
use Rattle.dali_write.specs.Plans.{read_all_back, write_on, rows_of, most_of, read_backs}
use Rattle.dali_write.specs.Plans.{most_once, pieces_of, expect_all, read_again}
use Rattle.dali_write.specs.Tries.{Trying, Misses, Wants, plan_requests}
use Rattle.dali_write.specs.Walks.{Walk}
use Rattle.dali_write.specs.Worlds.{OnlyEnabled, Run}
use Rattle.dali_write.specs.Touches.{Touches, writes_of}
use Rattle.dali_write.specs.Noise.{Noisy, NoisyStep, as_noisy}
use Rattle.dali_write.proofs.PowerLemmas.{drifts_keep, keeps_then, stays_keeps}
use Rattle.dali_write.proofs.RunLemmas.{Leads, Drifts, leads_of}
use Rattle.dali_write.proofs.AskedLemmas.{IsCalm, Sent, calm_passive, sent_quiet, wants_sent}
use Rattle.dali_write.proofs.FreshLemmas.{Calm, length_calm}
use Rattle.dali_write.proofs.GearLemmas.{IsQuiet, carry_stays}
use Rattle.dali_write.specs.Worlds.{KeepsAt}
use Rattle.dali_write.proofs.GuardLemmas.{OnlyWrites, goes_on_writes, unlock_writes}
use Rattle.dali_write.proofs.GuardLemmas.{close_writes}
use Rattle.dali_write.proofs.TurnLemmas.{unlock_turn, close_turn}
use Rattle.dali_write.specs.declared.pace.Pace.{Pace}
use Rattle.dali_write.specs.declared.pace.Pace.TheVariants.{Checked}
use Rattle.dali_write.specs.declared.ask.Verdict.{Verdict}
use Rattle.dali_write.specs.declared.ask.Verdict.TheVariants.{Closed, NotClosed, Doubt, DoubtOpen}
use Rattle.std.specs.Str.{bytes_eq}
use Rattle.dali_write.proofs.PlanLemmas.{either_all, if_all}
use Rattle.dali_write.proofs.PutLemmas.{touches_then, keeps_touches, only_on}
use Rattle.dali_write.proofs.NoiseLemmas.{IsAt, noisy_drifts, at_drifts}
use Rattle.dali_write.proofs.NoiseLemmas.{plain_run}
use Rattle.dali_write.proofs.WalkLemmas.{walks, ended_told}
use Rattle.dali_write.proofs.NoisyTryLemmas.{split_noisy, Needs, Begins, trying_touches, misses_touch, Leaves, Ended}
use Rattle.dali_write.proofs.NoisyTryLemmas.{access_ended}

-- Whole accesses

-- a write to this location was the last, and the unit has the one after it selected
abbrev pub Stood : Option ℕ → Option Gear → Type 0
Stood None gear = ⊤
Stood (Some location) gear = IsAt (up location) gear

stood_needs : (last : Option ℕ) (access : Access) (gear : Option Gear) → ComesBehind last access → Stood last gear
    → Needs access 0 gear
stood_needs last (ReadFrom block) gear behind stood = tt
stood_needs last (WriteTo location byte) gear behind stood = tt
stood_needs last (WriteOn before location byte) gear behind stood = subst (λ (l : Option ℕ). Stood l gear) behind stood

-- no access of the plan takes the unit as a write left it
abbrev pub IsAlone : Plan → Type 0
IsAlone (Finish verdict) = ⊤
IsAlone (Make (ReadFrom block) after) = (outcome : Option (List ℕ)) → IsAlone (after outcome)
IsAlone (Make (WriteTo location byte) after) = (outcome : Option (List ℕ)) → IsAlone (after outcome)
IsAlone (Make (WriteOn before location byte) after) = ⊥

alone_on : (access : Access) (after : Option (List ℕ) → Plan) (outcome : Option (List ℕ)) → IsAlone (Make access after)
    → IsAlone (after outcome)
alone_on (ReadFrom block) after outcome alone = alone outcome
alone_on (WriteTo location byte) after outcome alone = alone outcome
alone_on (WriteOn before location byte) after outcome alone = absurd alone

alone_needs : (access : Access) (after : Option (List ℕ) → Plan) (gear : Option Gear) → IsAlone (Make access after)
    → Needs access 0 gear
alone_needs (ReadFrom block) after gear alone = tt
alone_needs (WriteTo location byte) after gear alone = tt
alone_needs (WriteOn before location byte) after gear alone = absurd alone

-- the plan may go on from here
pub record MayGoOn (made : Bool) (writes : List (ℕ × ℕ)) (unit : ℕ) (plan : Plan) (state : Noisy) : Type 0 where
  pub last : Option ℕ
  pub turn : IsInTurn last plan
  pub stood : made ≡ false → Stood last (state.world unit)
  pub kind : (made ≡ false) ⊎ IsAlone plan
  pub only : OnlyEnabled unit state.world
  pub writes_are : OnlyWrites writes plan

pub begins_of : {made : Bool} (writes : List (ℕ × ℕ)) (unit : ℕ) (access : Access) (after : Option (List ℕ) → Plan)
    (state : Noisy)
    → MayGoOn made writes unit (Make access after) state → Begins access 0 unit state
begins_of writes unit access after state may =
    record {
      only = may.only;
      needs = elim may.kind [
        | inl so ↦ stood_needs may.last access (state.world unit) may.turn.0 (may.stood so)
        | inr alone ↦ alone_needs access after (state.world unit) alone
      ];
    }

left_stood : (loses : ℕ → Type 0) (access : Access) (bytes : List ℕ) (unit : ℕ) (last : Noisy)
    → Leaves loses access (Some bytes) unit last → Stood (written_by access) (last.world unit)
left_stood loses (ReadFrom block) bytes unit last leaves = tt
left_stood loses (WriteTo location byte) bytes unit last leaves = leaves.at
left_stood loses (WriteOn before location byte) bytes unit last leaves = leaves.at

kind_on : (made : Bool) (access : Access) (after : Option (List ℕ) → Plan) (outcome : Option (List ℕ))
    → (made ≡ false) ⊎ IsAlone (Make access after) → (made ≡ false) ⊎ IsAlone (after outcome)
kind_on made access after outcome (inl so) = inl so
kind_on made access after outcome (inr alone) = inr (alone_on access after outcome alone)

pub goes_on : (made : Bool) (loses : ℕ → Type 0) (writes : List (ℕ × ℕ)) (unit : ℕ) (access : Access)
    (after : Option (List ℕ) → Plan) (outcome : Option (List ℕ)) (first last : Noisy)
    → MayGoOn made writes unit (Make access after) first → Ended made loses writes access outcome unit first last
    → MayGoOn made writes unit (after outcome) last
goes_on made loses writes unit access after None first last may ended =
    record {
      last = None;
      turn = may.turn.1;
      stood = λ so. tt;
      kind = kind_on made access after None may.kind;
      only = only_on writes unit first.world last.world may.only ended.touches;
      writes_are = goes_on_writes writes (Make access after) None may.writes_are;
    }
goes_on made loses writes unit access after (Some bytes) first last may ended =
    record {
      last = written_by access;
      turn = may.turn.2 bytes;
      stood = λ so. left_stood loses access bytes unit last (ended.leaves so);
      kind = kind_on made access after (Some bytes) may.kind;
      only = only_on writes unit first.world last.world may.only ended.touches;
      writes_are = goes_on_writes writes (Make access after) (Some bytes) may.writes_are;
    }

pub record Walked (made : Bool) (loses : ℕ → Type 0) (writes : List (ℕ × ℕ)) (unit : ℕ) (end : Plan)
    (first last : Noisy) : Type 0
  where
    pub touches : Touches loses writes unit first.world last.world
    pub may : MayGoOn made writes unit end last

drift_touches : {made : Bool} {loses : ℕ → Type 0} (writes : List (ℕ × ℕ)) (unit : ℕ) (first last : Noisy)
    → Drifts (NoisyStep made unit) loses first last → Touches loses writes unit first.world last.world
drift_touches writes unit first last drifts =
    keeps_touches writes unit first.world last.world
    (drifts_keep first.world last.world (noisy_drifts unit first last drifts))

stood_drift : {made : Bool} {loses : ℕ → Type 0} (at : Option ℕ) (unit : ℕ) (first last : Noisy)
    → Drifts (NoisyStep made unit) loses first last → Stood at (first.world unit) → Stood at (last.world unit)
stood_drift None unit first last drifts stood = tt
stood_drift (Some location) unit first last drifts stood = at_drifts (up location) unit first last drifts stood

pub walk_touches : (made : Bool) (loses : ℕ → Type 0) (writes : List (ℕ × ℕ)) (unit : ℕ) (plan : Plan)
    (outcomes : List (Option (List ℕ))) (told : List Exchange) (end : Plan) (first last : Noisy)
    → MayGoOn made writes unit plan first → Walk unit plan outcomes told end
    → Leads (NoisyStep made unit) loses told first last → Walked made loses writes unit end first last
walk_touches made loses writes unit plan [] told end first last may walk run =
    let drifts = subst (λ (t : List Exchange). Leads (NoisyStep made unit) loses t first last) walk.0 run in
    let touches = drift_touches writes unit first last drifts in
    record {
      touches = touches;
      may = record {
        last = may.last;
        turn = subst (λ (p : Plan). IsInTurn may.last p) walk.1 may.turn;
        stood = λ so. stood_drift may.last unit first last drifts (may.stood so);
        kind = elim may.kind [
          | inl so ↦ inl so
          | inr alone ↦ inr (subst (λ (p : Plan). IsAlone p) walk.1 alone)
        ];
        only = only_on writes unit first.world last.world may.only touches;
        writes_are = subst (λ (p : Plan). OnlyWrites writes p) walk.1 may.writes_are;
      };
    }
walk_touches made loses writes unit (Finish verdict) (outcome ∷ outcomes) told end first last may walk run =
    absurd walk.3
walk_touches made loses writes unit (Make access after) (outcome ∷ outcomes) told end first last may walk run =
    let parts = split_noisy made loses unit walk.0 walk.1 first last
    (subst (λ (t : List Exchange). Leads (NoisyStep made unit) loses t first last) walk.2 run) in
    let ended = access_ended made loses writes unit access after outcome walk.1 first parts.0 may.writes_are
    (begins_of writes unit access after first may) walk.3 parts.1 in
    let on = goes_on made loses writes unit access after outcome first parts.0 may ended in
    let rest = walk_touches made loses writes unit (after outcome) outcomes walk.0 end parts.0 last on walk.4 parts.2 in
    record {
      touches = touches_then writes unit first.world parts.0.world last.world ended.touches rest.touches;
      may = rest.may;
    }

-- At every ask of a session

at_hand : (made : Bool) (loses : ℕ → Type 0) (writes : List (ℕ × ℕ)) (unit : ℕ) (now : Plan) (misses : ℕ)
    (left : List Request)
    (missed tried : List Exchange) (first last : Noisy)
    → MayGoOn made writes unit now first → Misses (plan_requests unit now) misses missed
    → Trying (plan_requests unit now misses) tried left
    → Leads (NoisyStep made unit) loses (tried ++ missed) first last → Touches loses writes unit first.world last.world
at_hand made loses writes unit (Make access after) misses left missed tried first last may are try run =
    let parts = split_noisy made loses unit tried missed first last run in
    let one = misses_touch made writes unit access after misses missed first parts.0 may.writes_are
    (begins_of writes unit access after first may) are parts.1 in
    touches_then writes unit first.world parts.0.world last.world one.touches
    (trying_touches made writes unit access after misses tried left parts.0 last may.writes_are one.begins try parts.2)
at_hand made loses writes unit (Finish verdict) misses left missed tried first last may are try run =
    let none : tried ++ missed ≡ [] = ended_told (tried ++ missed) tried missed [] left misses
    (ap (λ (m : List Exchange). tried ++ m) (sym (append-nil missed))) try are in
    drift_touches writes unit first last
    (subst (λ (t : List Exchange). Leads (NoisyStep made unit) loses t first last) none run)

wants_touches : (made : Bool) (loses : ℕ → Type 0) (writes : List (ℕ × ℕ)) (unit : ℕ) (plan : Plan)
    (told : List Exchange)
    (ask : Ask) (first last : Noisy)
    → MayGoOn made writes unit plan first → Leads (NoisyStep made unit) loses told first last → Wants unit plan told ask
    → Touches loses writes unit first.world last.world
wants_touches made loses writes unit plan told ask first last may run wants =
    let s = wants.stands in
    let walk = walks unit plan wants.outcomes s.ended s.accesses in
    let run_is = subst (λ (t : List Exchange). Leads (NoisyStep made unit) loses t first last)
    (s.parts ∙ sym (append_assoc s.tried s.missed s.ended)) run in
    let parts = split_noisy made loses unit (s.tried ++ s.missed) s.ended first last run_is in
    let walked = walk_touches made loses writes unit plan walk.0 s.ended (plan_after plan wants.outcomes) first
    parts.0 may
    walk.1 parts.1 in
    let may_now = subst (λ (p : Plan). MayGoOn made writes unit p parts.0) s.now_is walked.may in
    touches_then writes unit first.world parts.0.world last.world walked.touches
    (at_hand made loses writes unit wants.now wants.misses wants.left s.missed s.tried parts.0 last may_now s.misses_are
    s.try parts.2)

-- the sessions that write

close_alone : (answered unanswered : Verdict) → IsAlone (close answered unanswered)
close_alone answered unanswered = λ outcome. either_all IsAlone (Finish unanswered) (λ read. Finish answered) tt
    (λ read. tt)

all_alone : (rows : List (ℕ × List ℕ)) (after : Plan) → IsAlone after → IsAlone (expect_all rows after)
all_alone [] after rest = rest
all_alone (row ∷ rows) after rest =
    either_all IsAlone give_up _ (close_alone Doubt DoubtOpen)
    (λ read. if_all IsAlone (bytes_eq read row.1) (expect_all rows after) give_up (all_alone rows after rest)
    (close_alone Doubt DoubtOpen))

back_alone : (rows : List (ℕ × List ℕ)) → IsAlone (read_back rows)
back_alone [] = tt
back_alone (row ∷ rows) =
    let again = read_again row.0 row.1 (read_back rows) in
    let all = if_all IsAlone (nat_lt most_once (length row.1)) (expect_all (pieces_of row.0 row.1) (read_back rows))
    give_up (all_alone (pieces_of row.0 row.1) (read_back rows) (back_alone rows)) (close_alone Doubt DoubtOpen) in
    either_all IsAlone again _ all
    (λ read. if_all IsAlone (bytes_eq read row.1) (read_back rows) again (back_alone rows) all)

on_alone : (updates : List (ℕ × ℕ)) (before : ℕ) (left : List (ℕ × ℕ)) → IsAlone (write_on Checked updates before left)
on_alone updates before [] =
    either_all IsAlone give_up (λ bytes. read_all_back Checked updates) (close_alone Doubt DoubtOpen)
    (λ bytes. back_alone (rows_of (most_of Checked) (read_backs updates)))
on_alone updates before (update ∷ left) =
    either_all IsAlone give_up (λ bytes. write_on Checked updates update.0 left) (close_alone Doubt DoubtOpen)
    (λ bytes. on_alone updates update.0 left)

unlock_alone : (updates : List (ℕ × ℕ)) → IsAlone (unlock Checked updates)
unlock_alone updates =
    either_all IsAlone give_up (λ bytes. write_on Checked updates 2 updates) (close_alone Doubt DoubtOpen)
    (λ bytes. on_alone updates 2 updates)

pub unlock_kind : (made : Bool) (pace : Pace) (updates : List (ℕ × ℕ)) → (made ≡ true → pace ≡ Checked)
    → (made ≡ false) ⊎ IsAlone (unlock pace updates)
unlock_kind false pace updates checked = inl refl
unlock_kind true pace updates checked =
    inr (subst (λ (p : Pace). IsAlone (unlock p updates)) (sym (checked refl)) (unlock_alone updates))

pub unlock_may : (made : Bool) (unit : ℕ) (pace : Pace) (updates : List (ℕ × ℕ)) (first : Noisy)
    → (made ≡ true → pace ≡ Checked) → OnlyEnabled unit first.world
    → MayGoOn made (writes_of updates) unit (unlock pace updates) first
unlock_may made unit pace updates first checked only =
    record {
      last = None;
      turn = unlock_turn pace updates;
      stood = λ so. tt;
      kind = unlock_kind made pace updates checked;
      only = only;
      writes_are = unlock_writes pace updates;
    }

close_may : (made : Bool) (unit : ℕ) (first : Noisy) → OnlyEnabled unit first.world
    → MayGoOn made ((2, 0xFF) ∷ []) unit (close Closed NotClosed) first
close_may made unit first only =
    record {
      last = None;
      turn = close_turn None Closed NotClosed;
      stood = λ so. tt;
      kind = inr (close_alone Closed NotClosed);
      only = only;
      writes_are = close_writes ((2, 0xFF) ∷ []) Closed NotClosed (inl (refl, refl));
    }

-- Sessions that read alone change nothing, whatever is answered

noisy_keeps : (made : Bool) (loses : ℕ → Type 0) (unit : ℕ) (told : List Exchange) (first last : Noisy) (address : ℕ)
    → Sent (IsQuiet address) told
    → Leads (NoisyStep made unit) loses told first last → KeepsAt loses first.world last.world address
noisy_keeps made loses unit [] first last address quiet run =
    drifts_keep first.world last.world (noisy_drifts unit first last run) address
noisy_keeps made loses unit (x ∷ told) first last address quiet run =
    let sent = carry_stays run.0.world x.frame run.3.given run.1.world address quiet.0 run.3.carries in
    keeps_then first.world run.0.world last.world address
    (noisy_keeps made loses unit told first run.0 address quiet.1 run.2)
    (keeps_then run.0.world run.1.world last.world address (stays_keeps run.0.world run.1.world address sent)
    (drifts_keep run.1.world last.world (noisy_drifts unit run.1 last run.4) address))

calm_keeps : (made : Bool) (loses : ℕ → Type 0) (unit : ℕ) (plan : Plan) (told : List Exchange) (ask : Ask)
    (first last : Noisy)
    → Calm unit plan → Leads (NoisyStep made unit) loses told first last → Wants unit plan told ask
    → (address : ℕ) → KeepsAt loses first.world last.world address
calm_keeps made loses unit plan told ask first last calm run wants address =
    noisy_keeps made loses unit told first last address
    (sent_quiet address told (calm_passive unit told (wants_sent (IsCalm unit) unit plan told ask calm wants))) run

-- The sessions of an order

pub opened_touches : (made : Bool) (loses : ℕ → Type 0) (told : List Exchange) (first last : Noisy) (unit : ℕ)
    (pace : Pace) (updates : List (ℕ × ℕ)) (ask : Ask)
    → (made ≡ true → pace ≡ Checked) → OnlyEnabled unit first.world → Run (NoisyStep made unit) loses told first last
    → Wants unit (unlock pace updates) told ask → Touches loses (writes_of updates) unit first.world last.world
opened_touches made loses told first last unit pace updates ask checked only run wants =
    wants_touches made loses (writes_of updates) unit (unlock pace updates) told ask first last
    (unlock_may made unit pace updates first checked only) (leads_of told first last run) wants

pub closing_touches : (made : Bool) (loses : ℕ → Type 0) (told : List Exchange) (first last : Noisy) (unit : ℕ)
    (ask : Ask)
    → OnlyEnabled unit first.world → Run (NoisyStep made unit) loses told first last
    → Wants unit (close Closed NotClosed) told ask → Touches loses ((2, 0xFF) ∷ []) unit first.world last.world
closing_touches made loses told first last unit ask only run wants =
    wants_touches made loses ((2, 0xFF) ∷ []) unit (close Closed NotClosed) told ask first last
    (close_may made unit first only) (leads_of told first last run) wants

pub fresh_keeps : (made : Bool) (loses : ℕ → Type 0) (told : List Exchange) (first last : Noisy) (unit : ℕ)
    (pace : Pace) (updates : List (ℕ × ℕ)) (ask : Ask)
    → Run (NoisyStep made unit) loses told first last → Wants unit (read_length pace updates) told ask
    → (address : ℕ) → KeepsAt loses first.world last.world address
fresh_keeps made loses told first last unit pace updates ask run wants =
    calm_keeps made loses unit (read_length pace updates) told ask first last (length_calm unit pace updates)
    (leads_of told first last run) wants

-- Over a bus that alters none, which is such a one

pub plain_touches : (loses : ℕ → Type 0) (told : List Exchange) (first last : World) (unit : ℕ) (pace : Pace)
    (updates : List (ℕ × ℕ)) (ask : Ask)
    → OnlyEnabled unit first → Run WorldStep loses told first last → Wants unit (unlock pace updates) told ask
    → Touches loses (writes_of updates) unit first last
plain_touches loses told first last unit pace updates ask only run wants =
    opened_touches false loses told (as_noisy first) (as_noisy last) unit pace updates ask
    (λ never. absurd (both_ways false refl never)) only (plain_run false unit told first last run) wants

pub plain_close_touches : (loses : ℕ → Type 0) (told : List Exchange) (first last : World) (unit : ℕ) (ask : Ask)
    → OnlyEnabled unit first → Run WorldStep loses told first last → Wants unit (close Closed NotClosed) told ask
    → Touches loses ((2, 0xFF) ∷ []) unit first last
plain_close_touches loses told first last unit ask only run wants =
    closing_touches false loses told (as_noisy first) (as_noisy last) unit ask only
    (plain_run false unit told first last run) wants

-- after either no other unit is enabled
pub others_off : (loses : ℕ → Type 0) (told : List Exchange) (first last : World) (unit : ℕ) (pace : Pace)
    (updates : List (ℕ × ℕ)) (ask : Ask)
    → OnlyEnabled unit first → Run WorldStep loses told first last
    → Wants unit (unlock pace updates) told ask ⊎ Wants unit (close Closed NotClosed) told ask → OnlyEnabled unit last
others_off loses told first last unit pace updates ask only run (inl wants) =
    only_on (writes_of updates) unit first last only
    (plain_touches loses told first last unit pace updates ask only run wants)
others_off loses told first last unit pace updates ask only run (inr wants) =
    only_on ((2, 0xFF) ∷ []) unit first last only (plain_close_touches loses told first last unit ask only run wants)
