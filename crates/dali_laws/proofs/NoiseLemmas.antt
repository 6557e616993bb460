-- The sessions of a trace that keeps to the plans, over a bus that alters answers.
use Rattle.std.proofs.Common.{◌≡◌, subst, ℕ, ◌∷◌, Bool, true, false, List, []}
use Rattle.dali_bank.specs.Order.{Contents, AreUpdates}
use Rattle.dali_bus.specs.World.{is_enabled}
use Rattle.dali_journal.specs.declared.record.Code.TheVariants as codes
use Rattle.dali_journal.specs.declared.record.Record.{Record}
use Rattle.dali_journal.specs.declared.record.Record.TheVariants as records
use Rattle.dali_journal.specs.declared.standing.Standing.{Standing}
use Rattle.dali_journal.specs.declared.standing.Standing.TheVariants as standings
use Rattle.dali_write.specs.Exchanges.{Exchange}
use Rattle.dali_write.specs.declared.ask.Ask.TheVariants as asks
use Rattle.dali_write.specs.declared.ask.Verdict.{Verdict}
use Rattle.dali_write.specs.declared.ask.Verdict.TheVariants as verdicts
use Rattle.dali_write.specs.declared.pace.Pace.{Pace}
use Rattle.dali_write.specs.Noise.{Noisy, NoisyStep}
use Rattle.dali_write.specs.Touches.{Touches, writes_of}
use Rattle.dali_write.specs.Verdicts.{Says}
use Rattle.dali_write.specs.Worlds.{Run, KeepsAt, OnlyEnabled}
use Rattle.dali_write.proofs.RisingLemmas.{rises_above_lock}
use Rattle.dali_write.proofs.RunLemmas.{leads_of}
use Rattle.dali_write.proofs.NoisyTouchLemmas.{opened_touches, closing_touches, fresh_keeps}
use Rattle.dali_write.proofs.NoisyDoneLemmas.{noisy_done, opened_off, closing_off}
use Rattle.dali_trace.specs.declared.happening.Happening.{Happening}
use Rattle.dali_trace.specs.declared.happening.Happening.TheVariants.{Kept}
use Rattle.dali_trace.specs.Grounds.{EndsIn}
use Rattle.dali_trace.specs.Trace.{Start, pace_at, standing_at}
use Rattle.dali_trace.specs.ByPlan.{Asks, ByPlan, told_in}
use Rattle.dali_laws.proofs.WorkLemmas.{InSession, in_session}

-- what the session at hand asks
session_at : (start : Start) (past : List Happening) (stands : Standing) → ByPlan start past
    → standing_at start past ≡ stands → InSession (pace_at start past) stands (told_in past)
session_at start past stands planned at =
    subst (λ (s : Standing). InSession (pace_at start past) s (told_in past)) at (in_session start past planned)

pub opened_spares : (made : Bool) (loses : ℕ → Type 0) (start : Start) (past : List Happening) (order : Contents)
    (first last : Noisy)
    → ByPlan start past → standing_at start past ≡ standings.Opened order
    → (made ≡ true → pace_at start past ≡ Pace.Checked) → OnlyEnabled order.unit first.world
    → Run (NoisyStep made order.unit) loses (told_in past) first last
    → Touches loses (writes_of order.updates) order.unit first.world last.world
opened_spares made loses start past order first last planned at checked only run =
    let session = session_at start past (standings.Opened order) planned at in
    opened_touches made loses (told_in past) first last order.unit (pace_at start past) order.updates session.0 checked
    only run session.1

pub begun_spares : (made : Bool) (loses : ℕ → Type 0) (start : Start) (past : List Happening) (order : Contents)
    (first last : Noisy)
    → ByPlan start past → standing_at start past ≡ standings.Began order
    → Run (NoisyStep made order.unit) loses (told_in past) first last
    → (address : ℕ) → KeepsAt loses first.world last.world address
begun_spares made loses start past order first last planned at run =
    let session = session_at start past (standings.Began order) planned at in
    fresh_keeps made loses (told_in past) first last order.unit (pace_at start past) order.updates session.0 run
    session.1

pub left_spares : (made : Bool) (loses : ℕ → Type 0) (start : Start) (past : List Happening) (unit : ℕ)
    (first last : Noisy)
    → ByPlan start past → standing_at start past ≡ standings.Left unit → OnlyEnabled unit first.world
    → Run (NoisyStep made unit) loses (told_in past) first last
    → Touches loses ((2, 0xFF) ∷ []) unit first.world last.world
left_spares made loses start past unit first last planned at only run =
    let session = session_at start past (standings.Left unit) planned at in
    closing_touches made loses (told_in past) first last unit session.0 only run session.1

-- if a record is kept, the session has ended with its verdict
ended_at : (pace : Pace) (now stands : Standing) (told : List Exchange) (entry : Record) (verdict : Verdict)
    → ((one : Verdict) → EndsIn stands one entry → one ≡ verdict) → now ≡ stands
    → (one : Verdict) × Asks pace now told (asks.Ended one) × EndsIn now one entry
    → Asks pace stands told (asks.Ended verdict)
ended_at pace now stands told entry verdict is at (one, asked, ends) =
    subst (λ (v : Verdict). Asks pace stands told (asks.Ended v))
    (is one (subst (λ (s : Standing). EndsIn s one entry) at ends))
    (subst (λ (s : Standing). Asks pace s told (asks.Ended one)) at asked)

pub done_spares : (loses : ℕ → Type 0) (start : Start) (past : List Happening) (order : Contents)
    (first last : Noisy)
    → ByPlan start (Kept (records.Ended codes.Done) ∷ past) → standing_at start past ≡ standings.Opened order
    → AreUpdates order.updates → OnlyEnabled order.unit first.world
    → Run (NoisyStep false order.unit) loses (told_in past) first last
    → Says loses order.unit order.updates last.world Verdict.Done
done_spares loses start past order first last planned at valid only run =
    let pace = pace_at start past in
    noisy_done loses (told_in past) first last order.unit pace order.updates (rises_above_lock order.updates valid) only
    (leads_of (told_in past) first last run)
    (ended_at pace (standing_at start past) (standings.Opened order) (told_in past) (records.Ended codes.Done)
    verdicts.Done (λ one ends. let told = ends.1 in cc) at planned.1)

pub doubt_spares : (loses : ℕ → Type 0) (start : Start) (past : List Happening) (order : Contents)
    (first last : Noisy)
    → ByPlan start (Kept (records.Ended codes.Doubt) ∷ past) → standing_at start past ≡ standings.Opened order
    → Run (NoisyStep false order.unit) loses (told_in past) first last → is_enabled last.world order.unit ≡ false
doubt_spares loses start past order first last planned at run =
    let pace = pace_at start past in
    opened_off loses (told_in past) first last order.unit pace order.updates verdicts.Doubt
    (leads_of (told_in past) first last run)
    (ended_at pace (standing_at start past) (standings.Opened order) (told_in past) (records.Ended codes.Doubt)
    verdicts.Doubt (λ one ends. let told = ends.1 in cc) at planned.1) (λ never. never)

pub closed_spares : (loses : ℕ → Type 0) (start : Start) (past : List Happening) (unit : ℕ) (first last : Noisy)
    → ByPlan start (Kept (records.Closed unit) ∷ past) → standing_at start past ≡ standings.Left unit
    → Run (NoisyStep false unit) loses (told_in past) first last → is_enabled last.world unit ≡ false
closed_spares loses start past unit first last planned at run =
    closing_off loses (told_in past) first last unit (leads_of (told_in past) first last run)
    (ended_at (pace_at start past) (standing_at start past) (standings.Left unit) (told_in past) (records.Closed unit)
    verdicts.Closed (λ one ends. let told = ends.1 in cc) at planned.1)
