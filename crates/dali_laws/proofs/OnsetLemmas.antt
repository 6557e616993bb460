-- The simulated bus when an order starts.
use Rattle.std.proofs.Common.{◌≡◌, ◌≢◌, inl, inr, refl, sym, ap, ◌∙◌, subst, ℕ, Bool, true, false, ◌==◌, if◌then◌else◌}
use Rattle.std.proofs.Common.{List, [], ◌∷◌, ◌++◌, Option, Some, None, is_some, arith}
use Rattle.std.proofs.lemmas.Bool.{eqb-true}
use Rattle.dali_bank.specs.Order.{Contents}
use Rattle.dali_bus.specs.Chain.{IsChain, AtEachMoment, AtEachState}
use Rattle.dali_bus.specs.World.{World, Gear, byte_in, byte_at}
use Rattle.dali_bus.proofs.OpenLemmas.{is_open}
use Rattle.dali_gear.specs.UnitState.{BankState, UnitState, gear_of}
use Rattle.dali_gear.specs.SimState.{SimState, SimStep, AreApart, AreBanks, world_of}
use Rattle.dali_gear.specs.Faults.{IsBank}
use Rattle.dali_journal.specs.declared.record.Code.{Code}
use Rattle.dali_journal.specs.declared.record.Record.TheVariants.{Opened}
use Rattle.dali_journal.specs.declared.standing.Standing.{Standing}
use Rattle.dali_journal.specs.Sentence.{named_unit}
use Rattle.dali_write.specs.Exchanges.{Exchange}
use Rattle.dali_write.specs.declared.ask.Ask.TheVariants as asks
use Rattle.dali_write.specs.declared.ask.Verdict.{Verdict}
use Rattle.dali_write.specs.declared.ask.Verdict.TheVariants as verdicts
use Rattle.dali_write.specs.Plans.{read_length, unlock, close}
use Rattle.dali_write.specs.Tries.{Wants}
use Rattle.dali_write.specs.Worlds.{IsAmong}
use Rattle.dali_write.proofs.GearLemmas.{IsOff}
use Rattle.dali_write.specs.Successes.{HasBank}
use Rattle.dali_write.proofs.NextLemmas.{none_ended}
use Rattle.dali_write.proofs.SuccessLemmas.{starts_whole}
use Rattle.dali_trace.specs.declared.happening.Reply.TheVariants as replies
use Rattle.dali_trace.specs.declared.happening.Happening.{Happening}
use Rattle.dali_trace.specs.declared.happening.Happening.TheVariants.{Asked, Answered, Kept, Stopped}
use Rattle.dali_trace.specs.WhenKept.{TellsTruth}
use Rattle.dali_journal.specs.declared.standing.Standing.TheVariants as standings
use Rattle.dali_trace.specs.Trace.{pace_at, Start, records_of, standing_at, powered_of, sent_since_taken, waiting, has_ended}
use Rattle.dali_trace.specs.Legal.{Legal}
use Rattle.dali_trace.specs.Moves.{MovesBy}
use Rattle.dali_trace.specs.Fits.{OnlyNamed, HasBeenOpened}
use Rattle.dali_trace.specs.Moments.{IsRight}
use Rattle.dali_trace.specs.Work.{stood_at, kept_since}
use Rattle.dali_laws.proofs.RecordLemmas.{not_lock}
use Rattle.dali_laws.proofs.Comings.{EndedBy}
use Rattle.dali_trace.specs.Spared.{state_at_start, IsSpared}
use Rattle.dali_laws.proofs.StandingLemmas.{named_opened}
use Rattle.dali_laws.proofs.RepeatLemmas.{legal_sentence}
use Rattle.dali_laws.proofs.RunLossLemmas.{IsAnother, since_start}
use Rattle.dali_laws.proofs.SparedLemmas.{Onset, blocked_never, kept_spared, blocked_spared}
use Rattle.dali_trace.specs.Runs.{AsksAllProper}
use Rattle.dali_laws.proofs.ValidLemmas.{hand_valid, takes_all}
use Rattle.dali_laws.proofs.WorkLemmas.{said_end}
use Rattle.dali_laws.proofs.OnPlanLemmas.{on_plan}
use Rattle.dali_trace.specs.ByPlan.{told_in, ByPlan}
use Rattle.dali_journal.specs.Orders.{orders_of}
use Rattle.dali_write.specs.declared.pace.Pace.{Pace}

-- an order has sent something before it ends

begun_at_least : (pace : Pace) (unit : ℕ) (updates : List (ℕ × ℕ)) (verdict : Verdict)
    → Wants unit (read_length pace updates) [] (asks.Ended verdict) → ⊥
begun_at_least pace unit updates verdict wants = none_ended unit _ _ verdict wants

opened_at_least : (pace : Pace) (unit : ℕ) (updates : List (ℕ × ℕ)) (verdict : Verdict)
    → Wants unit (unlock pace updates) [] (asks.Ended verdict) → ⊥
opened_at_least pace unit updates verdict wants = none_ended unit _ _ verdict wants

closing_at_least : (unit : ℕ) (verdict : Verdict)
    → Wants unit (close verdicts.Closed verdicts.NotClosed) [] (asks.Ended verdict) → ⊥
closing_at_least unit verdict wants = none_ended unit _ _ verdict wants

none_newer : (sent told older : List Exchange) → sent ≡ told ++ older → sent ≡ [] → told ≡ []
none_newer sent [] older parts none = refl
none_newer sent (x ∷ told) older parts none = let never = sym none ∙ parts in cc

pub ended_sent : (pace : Pace) (first : Standing) (order : Contents) (code : Code) (sent : List Exchange)
    → EndedBy pace first order code sent → sent ≢ []
ended_sent pace first order code sent (verdict, told, older, parts, inl (ends, wants, closed)) none =
    begun_at_least pace order.unit order.updates verdict
    (subst (λ (t : List Exchange). Wants order.unit (read_length pace order.updates) t (asks.Ended verdict))
    (none_newer sent told older parts none) wants)
ended_sent pace first order code sent (verdict, told, older, parts, inr (ends, wants, opened)) none =
    opened_at_least pace order.unit order.updates verdict
    (subst (λ (t : List Exchange). Wants order.unit (unlock pace order.updates) t (asks.Ended verdict))
    (none_newer sent told older parts none) wants)

pub blocked_sent : (unit : ℕ) (sent : List Exchange)
    → Wants unit (close verdicts.Closed verdicts.NotClosed) sent (asks.Ended verdicts.NotClosed) → sent ≢ []
blocked_sent unit sent wants none =
    closing_at_least unit verdicts.NotClosed (subst
    (λ (t : List Exchange). Wants unit (close verdicts.Closed verdicts.NotClosed) t (asks.Ended verdicts.NotClosed))
    none wants)

-- what was so at the last start

-- a trace, the state after it and those before
record Moment (holds : List Happening → SimState → Type 0) (start : Start) (past : List Happening) (last : SimState)
    (states : List SimState) : Type 0 where
  moment : List Happening
  stands : standing_at start moment ≡ stood_at start past
  so : holds moment (state_at_start past last states)
  legal : Legal start moment
  begun : SimState
  before : List SimState
  each : AtEachMoment holds moment (state_at_start past last states) before

at_start : (holds : List Happening → SimState → Type 0) (start : Start) (past : List Happening) (last : SimState)
    (states : List SimState)
    → Legal start past → AtEachMoment holds past last states
    → Moment holds start past last states
at_start holds start [] last [] legal each =
    record { moment = []; stands = refl; so = each; legal = legal; begun = last; before = []; each = each }
at_start holds start [] last (state ∷ states) legal each = absurd each
at_start holds start (next ∷ past) last [] legal each = absurd each
at_start holds start (Answered id replies.Taken ∷ past) last (state ∷ states) legal each =
    record {
      moment = Answered id replies.Taken ∷ past;
      stands = refl;
      so = each.0;
      legal = legal;
      begun = last;
      before = state ∷ states;
      each = each;
    }
at_start holds start (Stopped pace ∷ past) last (state ∷ states) legal each =
    record {
      moment = Stopped pace ∷ past;
      stands = refl;
      so = each.0;
      legal = legal;
      begun = last;
      before = state ∷ states;
      each = each;
    }
at_start holds start (_ ∷ past) last (state ∷ states) legal each =
    let m = at_start holds start past state states legal.0 each.1 in
    record {
      moment = m.moment;
      stands = m.stands;
      so = m.so;
      legal = m.legal;
      begun = m.begun;
      before = m.before;
      each = m.each;
    }

-- no unit but the named one is on
off_or_named : (o : Option Gear) (left : Option ℕ) (address : ℕ) → left ≢ Some address
    → (is_open o ≡ true → left ≡ Some address) → IsOff o
off_or_named None left address other named = refl
off_or_named (Some gear) left address other named = by gear.enabled refl named
  where
    by : (b : Bool) → gear.enabled ≡ b → (gear.enabled ≡ true → left ≡ Some address) → gear.enabled ≡ false
    by true e f = absurd (other (f e))
    by false e f = e

only_left : (start : Start) (past : List Happening) (moment : List Happening) (state : SimState)
    → standing_at start moment ≡ stood_at start past → OnlyNamed (records_of start moment) (world_of state.units)
    → (address : ℕ) → named_unit (stood_at start past) ≢ Some address → IsOff (world_of state.units address)
only_left start past moment state stands only address other =
    off_or_named (world_of state.units address) (named_unit (stood_at start past)) address other
    (λ on. ap named_unit (sym stands) ∙ only address on)

bank_among : (address : ℕ) (bank : BankState) (units : List UnitState) → AreBanks units → HasBank address bank units
    → IsBank bank.bytes
bank_among address bank [] are has = absurd has
bank_among address bank (unit ∷ units) are (inl here) = subst (λ (b : BankState). IsBank b.bytes) here.1 are.0
bank_among address bank (unit ∷ units) are (inr later) = bank_among address bank units are.1 later

-- a unit that was opened is there

found_there : (address : ℕ) (units : List UnitState) (gear : Gear) → world_of units address ≡ Some gear
    → (bank : BankState) × HasBank address bank units
found_there address [] gear is = cc
found_there address (unit ∷ units) gear is = by (address == unit.address) refl (found_there address units gear) is
  where
    by : (b : Bool) → (address == unit.address) ≡ b
        → (world_of units address ≡ Some gear → (bank : BankState) × HasBank address bank units)
        → (if b then Some (gear_of unit) else world_of units address) ≡ Some gear
        → (bank : BankState) × HasBank address bank (unit ∷ units)
    by true e more is = (unit.bank1, inl (sym (eqb-true address unit.address e), refl))
    by false e more is = let rest = more is in (rest.0, inr rest.1)

there_is : (world : World) (address bank location : ℕ) → is_some (byte_at world address bank location) ≡ true
    → (gear : Gear) × (world address ≡ Some gear)
there_is world address bank location some = by (world address) refl some
  where
    by : (o : Option Gear) → world address ≡ o → is_some (byte_in o bank location) ≡ true
        → (gear : Gear) × (world address ≡ Some gear)
    by None e some = cc
    by (Some gear) e some = (gear, e)

-- a unit that is opened has a byte at location 00h of bank 1
held_length : (lost : List ℕ) (now : World) (stands : Standing) (other : ℕ) → TellsTruth lost now stands (Opened other)
    → is_some (byte_at now other 1 0) ≡ true
held_length lost now (standings.Began order) other kept =
    let held = not_lock (IsAmong lost order.unit) 0 _ _ (λ e. omega (arith, e)) kept.grounds.1 in
    rw (kept.allowed, held) refl
held_length lost now _ other kept = absurd kept.allowed

-- opened at some moment, when it had its first byte
opened_was : (limit : Start) (zero : World) (past : List Happening) (last : SimState) (states : List SimState)
    (unit : ℕ)
    → Legal limit past
    → AtEachMoment (λ moment now. IsRight zero [] limit moment (world_of now.units)) past last states
    → (limit.records ≡ []) → HasBeenOpened unit (records_of limit past)
    → is_some (byte_at zero unit 1 0) ≡ true
opened_was limit zero [] last states unit legal each none opened =
    let never : HasBeenOpened unit [] = subst (HasBeenOpened unit) none opened in absurd never
opened_was limit zero (next ∷ past) last [] unit legal each none opened = absurd each
opened_was limit zero (Kept (Opened other) ∷ past) last (state ∷ states) unit legal each none (inr earlier) =
    opened_was limit zero past state states unit legal.0 each.1 none earlier
opened_was limit zero (Kept (Opened other) ∷ past) last (state ∷ states) unit legal each none (inl same) =
    let fits = each.0.0 in
    let held = held_length (powered_of [] past) (world_of last.units) (standing_at limit past) other each.0.3 in
    subst (λ (a : ℕ). is_some (byte_at zero a 1 0) ≡ true) same (sym (fits.places other 1 0) ∙ held)
opened_was limit zero (_ ∷ past) last (state ∷ states) unit legal each none opened =
    opened_was limit zero past state states unit legal.0 each.1 none opened

-- the right moments of a chain of the simulated bus
abbrev pub RightAlong : World → Start → List Happening → SimState → List SimState → Type 0
RightAlong zero start past last states =
    AtEachMoment (λ moment now. IsRight zero [] start moment (world_of now.units)) past last states

-- all that is so where the order started
pub onset : (start : Start) (zero : World) (past : List Happening) (last : SimState) (states : List SimState) (unit : ℕ)
    (bank : BankState)
    → start.records ≡ [] → Legal start past
    → RightAlong zero start past last states
    → AreApart (state_at_start past last states).units × AreBanks (state_at_start past last states).units
    → HasBank unit bank (state_at_start past last states).units
    → Onset (named_unit (stood_at start past)) unit bank (state_at_start past last states)
onset start zero past last states unit bank none legal each whole has =
    let m = at_start (λ moment now. IsRight zero [] start moment (world_of now.units)) start past last states legal
    each in
    record {
      apart = whole.0;
      only = only_left start past m.moment (state_at_start past last states) m.stands m.so.1;
      has = has;
      whole = bank_among unit bank (state_at_start past last states).units whole.1 has;
      left_has = λ address named.
          let opened =
          named_opened (records_of start m.moment) address (legal_sentence start m.moment m.legal).0
          (ap named_unit m.stands ∙ named) in
          let was =
          opened_was start zero m.moment (state_at_start past last states) m.before address m.legal m.each
          none opened in
          let now : is_some (byte_at (world_of (state_at_start past last states).units) address 1 0) ≡ true =
          m.so.0.places address 1 0 ∙ was in
          let gear = there_is (world_of (state_at_start past last states).units) address 1 0 now in
          let found = found_there address (state_at_start past last states).units gear.0 gear.1 in
          (found.0, found.1, bank_among address found.0 (state_at_start past last states).units whole.1 found.1);
    }

said_spared : (start : Start) (zero : World) (first : SimState) (past : List Happening) (last : SimState)
    (states : List SimState)
    → start.records ≡ [] → Legal start past → ByPlan start past
    → IsChain (MovesBy SimStep) first past last states → AsksAllProper past → RightAlong zero start past last states
    → IsSpared start past last states
said_spared start zero first [] last states none legal planned chain asks each = tt
said_spared start zero first (Answered id reply ∷ Asked order moment ∷ past) last states none legal planned chain asks
    each =
    tt
said_spared start zero first (Answered id reply ∷ past) last [] none legal planned chain asks each = absurd chain
said_spared start zero first (Answered id (replies.Kept code) ∷ past) last (state ∷ states) none legal planned chain
    asks each =
    λ order bank hand little.
    let left_one = named_unit (stood_at start past) in
    let since = since_start order.unit left_one first past state states chain.1 little.powered in
    let valid = hand_valid start past order none legal.0 asks.1 hand in
    let said = said_end start past id code legal.0 planned.0 legal.1 in
    let whole =
    starts_whole (IsAnother order.unit left_one) (sent_since_taken past) (state_at_start past state states) state
    since.run (ended_sent (pace_at start past) (stood_at start past) said.0 code (sent_since_taken past) said.3) in
    let start_is = onset start zero past state states order.unit bank none legal.0 each.1 whole little.there in
    let end =
    kept_spared start past id code state states legal.0 planned.0 legal.1 order bank since hand valid little.taken
    start_is little.unrefused little.few
    (λ due. takes_all bank order.updates start_is.whole valid (little.free due) due) in
    record { reply_is = end.0; few_misses = end.1 }
said_spared start zero first (Answered id (replies.Blocked left) ∷ past) last (state ∷ states) none legal planned chain
    asks each =
    λ order bank hand little.
    let left_one = named_unit (stood_at start past) in
    let since = since_start order.unit left_one first past state states chain.1 little.powered in
    let never =
    blocked_never (pace_at start past) (stood_at start past) (standing_at start past) (waiting past) (has_ended past)
    (orders_of (records_of start past)) (sent_since_taken past) (told_in past) (kept_since past)
    id left legal.1.0 legal.1.1 planned.1 (on_plan start past legal.0 planned.0) in
    let whole =
    starts_whole (IsAnother order.unit left_one) (sent_since_taken past) (state_at_start past state states) state
    since.run (blocked_sent left (sent_since_taken past) never.1) in
    absurd (blocked_spared start past id left state states legal.0 planned.0 legal.1 planned.1 order.unit bank since
    (onset start zero past state states order.unit bank none legal.0 each.1 whole little.there) little.unrefused
    little.few)
said_spared start zero first (Answered id reply ∷ past) last (state ∷ states) none legal planned chain asks each =
    absurd legal.1
said_spared start zero first (_ ∷ past) last states none legal planned chain asks each = tt

pub all_spared : (start : Start) (zero : World) (first : SimState) (past : List Happening) (last : SimState)
    (states : List SimState)
    → start.records ≡ [] → Legal start past → ByPlan start past
    → IsChain (MovesBy SimStep) first past last states → AsksAllProper past → RightAlong zero start past last states
    → AtEachState (IsSpared start) past last states
all_spared start zero first [] last [] none legal planned chain asks each = tt
all_spared start zero first [] last (state ∷ states) none legal planned chain asks each = absurd chain
all_spared start zero first (next ∷ past) last [] none legal planned chain asks each = absurd chain
all_spared start zero first (next ∷ past) last (state ∷ states) none legal planned chain asks each = (
  said_spared start zero first (next ∷ past) last (state ∷ states) none legal planned chain asks each,
  all_spared start zero first past state states none legal.0 planned.0 chain.1 asks.1 each.1,
)
