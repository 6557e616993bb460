-- Over the simulated bus an order that loses little ends as its unit's bytes say.
use Rattle.std.proofs.Common.{◌≡◌, ◌≢◌, inl, inr, refl, sym, ap, ◌∙◌, subst, ℕ, ◌≤◌, ◌<◌, Bool, true, false}
use Rattle.std.proofs.Common.{◌==◌, nat_lt, if◌then◌else◌, List, [], ◌∷◌, ◌++◌, append-nil, Option, Some, None, arith}
use Rattle.std.specs.Prelude.{slice_get, slice_index, ⊤}
use Rattle.std.proofs.lemmas.Bool.{eqb-true, eqb-false}
use Rattle.std.proofs.lemmas.Option.{unwrap_or-slice_get}
use Rattle.std.specs.Option.{unwrap_or}
use Rattle.dali_bank.specs.Order.{Contents, AreUpdates, RisesAbove}
use Rattle.dali_bus.specs.World.{Gear}
use Rattle.dali_gear.specs.UnitState.{BankState, UnitState, gear_of}
use Rattle.dali_gear.specs.SimState.{SimState, AreApart, world_of}
use Rattle.dali_gear.specs.Faults.{IsBank}
use Rattle.dali_journal.specs.declared.record.Code.{Code}
use Rattle.dali_journal.specs.declared.record.Code.TheVariants as codes
use Rattle.dali_journal.specs.declared.record.Record.TheVariants.{Ended}
use Rattle.dali_journal.specs.declared.standing.Standing.{Standing}
use Rattle.dali_journal.specs.declared.standing.Standing.TheVariants as standings
use Rattle.dali_journal.specs.Sentence.{named_unit}
use Rattle.dali_write.specs.Exchanges.{Exchange}
use Rattle.dali_write.specs.declared.ask.Ask.TheVariants as asks
use Rattle.dali_write.specs.declared.ask.Verdict.{Verdict}
use Rattle.dali_write.specs.declared.ask.Verdict.TheVariants as verdicts
use Rattle.dali_write.specs.Plans.{greatest, read_length, unlock, close}
use Rattle.dali_write.specs.Tries.{most_tries, Wants}
use Rattle.dali_write.specs.Worlds.{OnlyEnabled}
use Rattle.dali_write.proofs.GearLemmas.{IsOff}
use Rattle.dali_write.specs.Losses.{IsAlone, OnlyDiffers}
use Rattle.dali_write.specs.Misses.{misses_in}
use Rattle.dali_write.specs.Successes.{HasBank, TakesAll, has_format, found_verdict}
use Rattle.dali_write.proofs.RunLemmas.{sim_run}
use Rattle.dali_write.proofs.PowerLemmas.{drifts_keep}
use Rattle.dali_write.proofs.DriftLemmas.{drifts_bank}
use Rattle.dali_write.proofs.StillReadLemmas.{stands_true}
use Rattle.dali_write.proofs.RestLemmas.{closing_rests}
use Rattle.dali_write.proofs.TurnLemmas.{close_turn, length_turn, unlock_turn}
use Rattle.dali_write.proofs.SuccessLemmas.{gone, closing_goes, fresh_goes, world_alone}
use Rattle.dali_write.proofs.OpenedSuccessLemmas.{unlock_goes, takes_still}
use Rattle.dali_write.proofs.ElseLemmas.{closing_keeps_bank, run_apart, none_on, same_bank, alone_with}
use Rattle.dali_trace.specs.declared.happening.Reply.TheVariants as replies
use Rattle.dali_trace.specs.declared.happening.Happening.{Happening}
use Rattle.dali_trace.specs.declared.happening.Happening.TheVariants.{Answered}
use Rattle.dali_trace.specs.Trace.{pace_at, Start, records_of, standing_at, sent_since_taken, waiting, has_ended, is_at_work}
use Rattle.dali_trace.specs.Legal.{Legal, MaySay, HasNumber}
use Rattle.dali_journal.specs.declared.kept.Progress.{Progress}
use Rattle.dali_journal.specs.Orders.{orders_of}
use Rattle.dali_trace.specs.Grounds.{EndsIn}
use Rattle.dali_trace.specs.ByPlan.{told_in, Asks, IsPlanned, ByPlan}
use Rattle.dali_laws.proofs.Comings.{ClosedBy, CheckedBy, OpenedBy, EndedBy, HasCome}
use Rattle.dali_trace.specs.Work.{stood_at, kept_since, order_at_hand}
use Rattle.dali_laws.proofs.OnPlanLemmas.{on_plan}
use Rattle.dali_laws.proofs.WorkLemmas.{said_end}
use Rattle.dali_trace.specs.Spared.{state_at_start, losses_since, UnrefusedSince, due_code}
use Rattle.dali_laws.proofs.RunLossLemmas.{IsAnother, RunBeside, losses_to, Since, own_losses, left_losses, halves}
use Rattle.dali_write.proofs.RunLemmas.{Leads, losses_along, UnrefusedAlong, SparedAlong}
use Rattle.dali_gear.specs.SimState.{SimStep}
use Rattle.dali_write.specs.declared.pace.Pace.{Pace}

-- When an order starts, and this unit or none was left: the units are apart, none is enabled but the left one, the
-- order's unit has this bank 1, and the left one has some.
pub record Onset (left : Option ℕ) (unit : ℕ) (bank : BankState) (state : SimState) : Type 0 where
  pub apart : AreApart state.units
  pub only : (address : ℕ) → left ≢ Some address → IsOff (world_of state.units address)
  pub has : HasBank unit bank state.units
  pub whole : IsBank bank.bytes
  pub left_has : (address : ℕ) → left ≡ Some address
      → (other : BankState) × HasBank address other state.units × IsBank other.bytes

-- the order's unit, once a left one is closed
record Cleared (unit : ℕ) (bank : BankState) (mid : SimState) (older : List Exchange) (lost : ℕ) : Type 0 where
  now : UnitState
  alone : IsAlone unit now mid.units
  like : OnlyDiffers bank 2 now.bank1
  few : misses_in older ≤ lost

as_before : (bank : BankState) → OnlyDiffers bank 2 bank
as_before bank = record { others = λ other away. refl; lengths = refl; fixed = refl }

some_bank : (unit : ℕ) (bank : BankState) (state : SimState) (older : List Exchange) (lost : ℕ) → AreApart state.units
    → OnlyEnabled unit (world_of state.units) → HasBank unit bank state.units
    → misses_in older ≤ lost → Cleared unit bank state older lost
some_bank unit bank state older lost apart only has few =
    let found = alone_with unit bank state.units apart only has in
    record {
      now = found.0;
      alone = found.1;
      like = subst (λ (b : BankState). OnlyDiffers bank 2 b) (sym found.2) (as_before bank);
      few = few;
    }

-- a unit that was closed isn't enabled
closed_off : (loses : ℕ → Type 0) (left : ℕ) (now : UnitState) (older : List Exchange) (begun mid : SimState)
    → Leads SimStep loses older begun mid
    → Wants left (close verdicts.Closed verdicts.NotClosed) older (asks.Ended verdicts.Closed)
    → IsAlone left now mid.units → now.enabled ≡ false
closed_off loses left now older begun mid run closed alone =
    let read = closing_rests older left verdicts.Closed closed in
    let shows =
    stands_true older (world_of begun.units) (world_of mid.units) left 2 read.0
    (sim_run loses older begun mid run)
    read.1 in
    let both : Some shows.gear ≡ Some (gear_of now) = sym shows.is ∙ world_alone left now mid.units alone in
    let same : shows.gear ≡ gear_of now = cc in
    ap (λ (g : Gear). g.enabled) (sym same) ∙ shows.off

cleared : (first : Standing) (unit : ℕ) (bank : BankState) (older : List Exchange) (begun mid : SimState)
    (run : RunBeside unit (named_unit first) older begun mid)
    → is_at_work first ≡ false
    → Onset (named_unit first) unit bank begun → ClosedBy first older
    → UnrefusedAlong (IsAnother unit (named_unit first)) older begun mid run
    → losses_to unit (named_unit first) older begun mid run < most_tries
    → Cleared unit bank mid older (losses_to unit (named_unit first) older begun mid run)
cleared standings.Idle unit bank older begun mid run idle onset closed kind few =
    let loses = IsAnother unit None in
    let still : Leads SimStep loses [] begun mid =
    subst (λ (t : List Exchange). Leads SimStep loses t begun mid) closed run in
    let none : misses_in older ≡ 0 = ap misses_in closed in
    some_bank unit bank mid older _ (run_apart loses older begun mid run onset.apart)
    (λ address other.
    (drifts_keep (world_of begun.units) (world_of mid.units) (sim_run loses [] begun mid still) address).off
    (onset.only address (λ same. cc)))
    (drifts_bank loses unit bank begun mid (λ another. another.0 refl) still onset.has) (omega arith)
cleared (standings.Began order) unit bank older begun mid run idle onset closed kind few = cc
cleared (standings.Opened order) unit bank older begun mid run idle onset closed kind few = cc
cleared (standings.Left left) unit bank older begun mid run idle onset closed kind few =
    let loses = IsAnother unit (Some left) in
    let there = onset.left_has left refl in
    let at_left =
    alone_with left there.0 begun.units onset.apart
    (λ address other. onset.only address (λ same. other (let is : address ≡ left = cc in is))) there.1 in
    let lost = left_losses unit left older begun mid run in
    let whole : IsBank at_left.0.bank1.bytes = subst (λ (b : BankState). IsBank b.bytes) (sym at_left.2) there.2 in
    let least = whole.least in
    let spared : SparedAlong loses left at_left.0 older begun mid =
    record {
      run = run;
      keeps_power = λ another. another.1 refl;
      alone = at_left.1;
      kind = kind;
      few = omega arith;
    } in
    let end =
    gone loses (OnlyDiffers at_left.0.bank1 2) verdicts.Closed verdicts.Closed left
    (close verdicts.Closed verdicts.NotClosed) at_left.0 older [] begun mid spared
    (closing_goes at_left.0.bank1 (omega arith)) (close_turn None verdicts.Closed verdicts.NotClosed) closed in
    let off = closed_off loses left end.2.now older begun mid run closed end.2.alone in
    let same_misses : misses_in (older ++ []) ≡ misses_in older = ap misses_in (append-nil older) in
    let count = end.1 in
    let less = end.2.few in
    by (unit == left) refl at_left.0 at_left.1 end.2.now end.2.alone end.2.bank off (omega arith)
  where
    by : (b : Bool) → (unit == left) ≡ b → (u : UnitState) → IsAlone left u begun.units → (now : UnitState)
        → IsAlone left now mid.units → OnlyDiffers u.bank1 2 now.bank1 → now.enabled ≡ false
        → misses_in older ≤ losses_to unit (Some left) older begun mid run
        → Cleared unit bank mid older (losses_to unit (Some left) older begun mid run)
    by true e u was now alone only off few =
        let here : unit ≡ left = eqb-true unit left e in
        let is : u.bank1 ≡ bank =
        same_bank left bank u begun.units was (subst (λ (a : ℕ). HasBank a bank begun.units) here onset.has) in
        record {
          now = now;
          alone = subst (λ (a : ℕ). IsAlone a now mid.units) (sym here) alone;
          like = subst (λ (b : BankState). OnlyDiffers b 2 now.bank1) is only;
          few = few;
        }
    by false e u was now alone only off few =
        some_bank unit bank mid older (losses_to unit (Some left) older begun mid run)
        (run_apart (IsAnother unit (Some left)) older begun mid run onset.apart)
        (λ address other. none_on left address now mid.units alone off)
        (closing_keeps_bank (IsAnother unit (Some left)) left unit bank u older (asks.Ended verdicts.Closed) begun mid
        run (λ another. another.1 refl) (λ another. another.0 refl) closed
        (eqb-false unit left e) was onset.has)
        few

-- what a bank that is like another says of the updates
same_byte : (one other : List ℕ) (location : ℕ) → slice_get one location ≡ slice_get other location
    → slice_index one location ≡ slice_index other location
same_byte one other location same =
    sym (unwrap_or-slice_get one location 0) ∙ ap (λ (o : Option ℕ). unwrap_or o 0) same
    ∙ unwrap_or-slice_get other location 0

like_bank : (bank now : BankState) → OnlyDiffers bank 2 now → IsBank bank.bytes → IsBank now.bytes
like_bank bank now like is =
    let first = same_byte now.bytes bank.bytes 0 (like.others 0 (λ same. cc)) in
    let long = like.lengths in
    let least = is.least in
    let most = is.most in
    let last = is.last in
    record { least = omega arith; most = omega arith; last = omega arith }

like_found : (bank now : BankState) (updates : List (ℕ × ℕ)) → OnlyDiffers bank 2 now
    → found_verdict now.bytes updates ≡ found_verdict bank.bytes updates
like_found bank now updates like =
    let first = same_byte now.bytes bank.bytes 0 (like.others 0 (λ same. absurd (omega arith))) in
    let high = same_byte now.bytes bank.bytes 0x11 (like.others 0x11 (λ same. absurd (omega arith))) in
    let low = same_byte now.bytes bank.bytes 0x12 (like.others 0x12 (λ same. absurd (omega arith))) in
    rw (first, high, low) refl

like_takes : (bank now : BankState) (updates : List (ℕ × ℕ)) → OnlyDiffers bank 2 now → TakesAll bank updates
    → TakesAll now updates
like_takes bank now [] like takes = tt
like_takes bank now (update ∷ updates) like takes =
    (takes_still bank 2 now update.0 like takes.0, like_takes bank now updates like takes.1)

-- the code of the verdict's name
abbrev code_told : Verdict → Code
code_told verdicts.Short = codes.Short
code_told verdicts.Format = codes.Format
code_told verdicts.MayOpen = codes.Done
code_told _ = codes.Silent

told_code : (order : Contents) (code : Code) (verdict : Verdict) → EndsIn (standings.Began order) verdict (Ended code)
    → code ≡ code_told verdict
told_code order codes.Short verdict ends = let is = ends.1 in let same : verdict ≡ verdicts.Short = cc in rw same refl
told_code order codes.Format verdict ends = let is = ends.1 in let same : verdict ≡ verdicts.Format = cc in rw same refl
told_code order codes.Silent verdict ends = let is = ends.1 in let same : verdict ≡ verdicts.Silent = cc in rw same refl
told_code order _ verdict ends = absurd ends.0

-- the code that is due is that of the verdict which a fresh session finds
due_told : (bytes : List ℕ) (updates : List (ℕ × ℕ)) → due_code bytes updates ≡ code_told (found_verdict bytes updates)
due_told bytes updates =
    by (nat_lt (slice_index bytes 0) (greatest updates)) (nat_lt (greatest updates) 0x13) (has_format bytes)
  where
    by : (short low format : Bool)
        → (if short then codes.Short else (if low then codes.Done else (if format then codes.Done else codes.Format)))
        ≡ code_told (if short
        then verdicts.Short
        else (if low then verdicts.MayOpen else (if format then verdicts.MayOpen else verdicts.Format)))
    by true low format = refl
    by false true format = refl
    by false false true = refl
    by false false false = refl

-- how a fresh session that ended an order says its code
short_code : (order : Contents) (code : Code) (bytes : List ℕ) (updates : List (ℕ × ℕ))
    → EndsIn (standings.Began order) (found_verdict bytes updates) (Ended code) → code ≡ due_code bytes updates
short_code order code bytes updates e =
    told_code order code (found_verdict bytes updates) e ∙ sym (due_told bytes updates)

-- if the order may be opened, it is to be done
open_due : (bytes : List ℕ) (updates : List (ℕ × ℕ)) → verdicts.MayOpen ≡ found_verdict bytes updates
    → due_code bytes updates ≡ codes.Done
open_due bytes updates e = due_told bytes updates ∙ ap code_told (sym e)

done_code : (order : Contents) (code : Code) → EndsIn (standings.Opened order) verdicts.Done (Ended code)
    → code ≡ codes.Done
done_code order codes.Done ends = refl
done_code order _ ends = let is = ends.1 in cc

-- a fresh session after the left unit was closed
record Looked (order : Contents) (bank : BankState) (verdict : Verdict) (sent : List Exchange) (last : SimState)
    (lost : ℕ) : Type 0 where
  verdict_is : verdict ≡ found_verdict bank.bytes order.updates
  now : UnitState
  alone : IsAlone order.unit now last.units
  like : OnlyDiffers bank 2 now.bank1
  few : misses_in sent ≤ lost

looked : (pace : Pace) (first : Standing) (order : Contents) (bank : BankState) (verdict : Verdict)
    (sent told older : List Exchange)
    (begun last : SimState) (run : RunBeside order.unit (named_unit first) sent begun last)
    → is_at_work first ≡ false
    → Onset (named_unit first) order.unit bank begun
    → UnrefusedAlong (IsAnother order.unit (named_unit first)) sent begun last run
    → losses_to order.unit (named_unit first) sent begun last run < most_tries
    → sent ≡ told ++ older → Wants order.unit (read_length pace order.updates) told (asks.Ended verdict)
    → ClosedBy first older
    → Looked order bank verdict sent last (losses_to order.unit (named_unit first) sent begun last run)
looked pace first order bank verdict sent told older begun last run idle onset kind few same wants closed =
    let loses = IsAnother order.unit (named_unit first) in
    let two = halves order.unit (named_unit first) sent told older begun last run same in
    let sum = two.sum in
    let kinds = two.kinds kind in
    let clear = cleared first order.unit bank older begun two.mid two.before idle onset closed kinds.0 (omega arith) in
    let own = own_losses order.unit (named_unit first) told two.mid last two.after in
    let spared : SparedAlong loses order.unit clear.now told two.mid last =
    record {
      run = two.after;
      keeps_power = λ another. another.0 refl;
      alone = clear.alone;
      kind = kinds.1;
      few = omega arith;
    } in
    let end =
    gone loses (λ now. now ≡ clear.now.bank1) (found_verdict clear.now.bank1.bytes order.updates) verdict order.unit
    (read_length pace order.updates) clear.now told older two.mid last spared
    (fresh_goes pace order.updates clear.now.bank1 (like_bank bank clear.now.bank1 clear.like onset.whole))
    (length_turn pace order.updates) wants in
    let count = end.1 in
    let less = end.2.few in
    let before = clear.few in
    let all : misses_in sent ≡ misses_in (told ++ older) = ap misses_in same in
    record {
      verdict_is = end.2.ends ∙ like_found bank clear.now.bank1 order.updates clear.like;
      now = end.2.now;
      alone = end.2.alone;
      like =
          subst (λ (b : BankState). OnlyDiffers bank 2 b) {y = end.2.now.bank1}
          (sym {a = end.2.now.bank1} end.2.bank) clear.like;
      few = omega arith;
    }

-- the end of an order that loses little
pub spared_end : (pace : Pace) (first : Standing) (order : Contents) (code : Code) (bank : BankState)
    (sent : List Exchange)
    (begun last : SimState) (run : RunBeside order.unit (named_unit first) sent begun last)
    → is_at_work first ≡ false
    → Onset (named_unit first) order.unit bank begun → RisesAbove 0 order.updates
    → UnrefusedAlong (IsAnother order.unit (named_unit first)) sent begun last run
    → losses_to order.unit (named_unit first) sent begun last run < most_tries
    → (due_code bank.bytes order.updates ≡ codes.Done → TakesAll bank order.updates)
    → EndedBy pace first order code sent
    → (code ≡ due_code bank.bytes order.updates)
    × (misses_in sent ≤ losses_to order.unit (named_unit first) sent begun last run)
spared_end pace first order code bank sent begun last run idle onset rises kind few takes
    (verdict, told, older, same, inl (ends, wants, closed)) =
    let look = looked pace first order bank verdict sent told older begun last run idle onset kind few same wants closed
    in
    let is : EndsIn (standings.Began order) (found_verdict bank.bytes order.updates) (Ended code) =
    subst (λ (v : Verdict). EndsIn (standings.Began order) v (Ended code)) look.verdict_is ends in
    (short_code order code bank.bytes order.updates is, look.few)
spared_end pace first order code bank sent begun last run idle onset rises kind few takes
    (verdict, told, older, same, inr (ends, wants, opened)) =
    let loses = IsAnother order.unit (named_unit first) in
    let two = halves order.unit (named_unit first) sent told older begun last run same in
    let sum = two.sum in
    let kinds = two.kinds kind in
    let check = checked first idle opened in
    let look =
    looked pace first order bank verdicts.MayOpen older check.0 check.1 begun two.mid two.before idle onset kinds.0
    (omega arith) check.2 check.3 check.4 in
    let due = open_due bank.bytes order.updates look.verdict_is in
    let own = own_losses order.unit (named_unit first) told two.mid last two.after in
    let spared : SparedAlong loses order.unit look.now told two.mid last =
    record {
      run = two.after;
      keeps_power = λ another. another.0 refl;
      alone = look.alone;
      kind = kinds.1;
      few = omega arith;
    } in
    let least = onset.whole.least in
    let long = look.like.lengths in
    let end =
    gone loses (λ now. ⊤) verdicts.Done verdict order.unit (unlock pace order.updates) look.now told older two.mid
    last spared
    (unlock_goes pace order.updates look.now.bank1 rises (omega arith)
    (like_takes bank look.now.bank1 order.updates look.like (takes due)))
    (unlock_turn pace order.updates) wants in
    let count = end.1 in
    let less = end.2.few in
    let before = look.few in
    let all : misses_in sent ≡ misses_in (told ++ older) = ap misses_in same in (
      done_code order code (subst (λ (v : Verdict). EndsIn (standings.Opened order) v (Ended code)) end.2.ends ends)
          ∙ sym due,
      omega arith,
    )
  where
    checked : (first : Standing) → is_at_work first ≡ false → OpenedBy pace first order older
        → CheckedBy pace first order older
    checked standings.Idle idle opened = opened
    checked (standings.Left unit) idle opened = opened
    checked (standings.Began begun) idle opened = cc
    checked (standings.Opened other) idle opened = cc

-- a left unit that loses little is closed
spared_closed : (first : Standing) (left unit : ℕ) (bank : BankState) (sent : List Exchange) (begun last : SimState)
    (run : RunBeside unit (named_unit first) sent begun last)
    → first ≡ standings.Left left
    → Onset (named_unit first) unit bank begun
    → UnrefusedAlong (IsAnother unit (named_unit first)) sent begun last run
    → losses_to unit (named_unit first) sent begun last run < most_tries
    → Wants left (close verdicts.Closed verdicts.NotClosed) sent (asks.Ended verdicts.NotClosed) → ⊥
spared_closed standings.Idle left unit bank sent begun last run at onset kind few wants = cc
spared_closed (standings.Began order) left unit bank sent begun last run at onset kind few wants = cc
spared_closed (standings.Opened order) left unit bank sent begun last run at onset kind few wants = cc
spared_closed (standings.Left other) left unit bank sent begun last run at onset kind few wants =
    let loses = IsAnother unit (Some other) in
    let same : other ≡ left = cc in
    let there = onset.left_has left (ap Some same) in
    let at_left =
    alone_with left there.0 begun.units onset.apart
    (λ address elsewhere. onset.only address (λ is. elsewhere (let one : other ≡ address = cc in sym one ∙ same)))
    there.1 in
    let lost = left_losses unit other sent begun last run in
    let whole : IsBank at_left.0.bank1.bytes = subst (λ (b : BankState). IsBank b.bytes) (sym at_left.2) there.2 in
    let least = whole.least in
    let lost_here : losses_along left loses sent begun last run ≤ losses_to unit (Some other) sent begun last run =
    subst (λ (l : ℕ). losses_along l loses sent begun last run ≤ losses_to unit (Some other) sent begun last run) same
    lost in
    let spared : SparedAlong loses left at_left.0 sent begun last =
    record {
      run = run;
      keeps_power = λ another. another.1 (ap Some same);
      alone = at_left.1;
      kind = kind;
      few = omega arith;
    } in
    let end =
    gone loses (OnlyDiffers at_left.0.bank1 2) verdicts.Closed verdicts.NotClosed left
    (close verdicts.Closed verdicts.NotClosed) at_left.0 sent [] begun last spared
    (closing_goes at_left.0.bank1 (omega arith)) (close_turn None verdicts.Closed verdicts.NotClosed) wants in
    let never = end.2.ends in cc

-- what is said

same_order : (one other : Contents) (hand : Option Contents) → hand ≡ Some one → hand ≡ Some other → one ≡ other
same_order one other hand is also = let both : Some one ≡ Some other = sym is ∙ also in cc

pub blocked_never : (pace : Pace) (first now : Standing) (waiter : Option Contents) (ended : Bool)
    (orders : List (Contents × Progress))
    (sent told : List Exchange) (kept id left : ℕ)
    → now ≡ standings.Left left
    → HasNumber id waiter → Asks pace now told (asks.Ended verdicts.NotClosed)
    → HasCome pace first now waiter ended orders sent told kept
    → (first ≡ standings.Left left)
    × Wants left (close verdicts.Closed verdicts.NotClosed) sent (asks.Ended verdicts.NotClosed)
blocked_never pace first (standings.Left other) (Some order) ended orders sent told kept id left at number asked come =
    let same : other ≡ left = cc in (
      come.0 ∙ at,
      subst (λ (l : ℕ). Wants l (close verdicts.Closed verdicts.NotClosed) sent (asks.Ended verdicts.NotClosed)) same
          (subst (λ (t : List Exchange).
          Wants other (close verdicts.Closed verdicts.NotClosed) t (asks.Ended verdicts.NotClosed))
          (sym come.1) asked),
    )
blocked_never pace first (standings.Left other) None ended orders sent told kept id left at number asked come = absurd
    number
blocked_never pace first standings.Idle waiter ended orders sent told kept id left at number asked come = absurd asked
blocked_never pace first (standings.Began order) waiter ended orders sent told kept id left at number asked come = cc
blocked_never pace first (standings.Opened order) waiter ended orders sent told kept id left at number asked come = cc

pub kept_spared : (start : Start) (past : List Happening) (id : ℕ) (code : Code) (state : SimState)
    (states : List SimState)
    → Legal start past → ByPlan start past → MaySay start past id (replies.Kept code)
    → (order : Contents) (bank : BankState) → Since order.unit (named_unit (stood_at start past)) past state states
    → order_at_hand start past ≡ Some order
    → AreUpdates order.updates → is_at_work (stood_at start past) ≡ false
    → Onset (named_unit (stood_at start past)) order.unit bank (state_at_start past state states)
    → UnrefusedSince past states
    → losses_since order.unit (named_unit (stood_at start past)) past states < most_tries
    → (due_code bank.bytes order.updates ≡ codes.Done → TakesAll bank order.updates)
    → (replies.Kept code ≡ replies.Kept (due_code bank.bytes order.updates))
    × (misses_in (sent_since_taken past) ≤ losses_since order.unit (named_unit (stood_at start past)) past states)
kept_spared start past id code state states legal planned may order bank since hand valid idle onset kind few takes =
    let said = said_end start past id code legal planned may in
    let same = same_order said.0 order (order_at_hand start past) said.2 hand in
    let ended : EndedBy (pace_at start past) (stood_at start past) order code (sent_since_taken past) =
    subst (λ (o : Contents). EndedBy (pace_at start past) (stood_at start past) o code (sent_since_taken past)) same
    said.3 in
    let count = since.losses in
    let end =
    spared_end (pace_at start past) (stood_at start past) order code bank (sent_since_taken past)
    (state_at_start past state states) state
    since.run idle onset valid.rising (since.kind kind) (omega arith) takes ended in
    let less = end.1 in
    (ap replies.Kept end.0, omega arith)

pub blocked_spared : (start : Start) (past : List Happening) (id left : ℕ) (state : SimState) (states : List SimState)
    → Legal start past → ByPlan start past → MaySay start past id (replies.Blocked left)
    → IsPlanned start past (Answered id (replies.Blocked left))
    → (unit : ℕ) (bank : BankState) → Since unit (named_unit (stood_at start past)) past state states
    → Onset (named_unit (stood_at start past)) unit bank (state_at_start past state states) → UnrefusedSince past states
    → losses_since unit (named_unit (stood_at start past)) past states < most_tries → ⊥
blocked_spared start past id left state states legal planned may asked unit bank since onset kind few =
    let never =
    blocked_never (pace_at start past) (stood_at start past) (standing_at start past) (waiting past) (has_ended past)
    (orders_of (records_of start past)) (sent_since_taken past) (told_in past) (kept_since past)
    id left may.0 may.1 asked (on_plan start past legal planned) in
    let count = since.losses in
    spared_closed (stood_at start past) left unit bank (sent_since_taken past) (state_at_start past state states) state
    since.run never.0 onset (since.kind kind) (omega arith) never.1
