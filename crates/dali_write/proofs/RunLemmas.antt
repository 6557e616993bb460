-- Exchanges as a chain of states has them, happening by happening, and one by one; and what the simulated bus does with
-- them.
use Rattle.std.proofs.Common.{◌≡◌, inl, inr, refl, sym, ap, subst, ℕ, ◌+◌, ◌<◌, ◌≤◌, false, List, [], ◌∷◌, map}
use Rattle.std.proofs.Common.{arith}
use Rattle.std.specs.Prelude.{if◌then◌else◌, ⊤}
use Rattle.dali_bus.specs.Chain.{IsChain}
use Rattle.dali_bus.specs.Carry.{BusEvent, Carried, Powered, WorldStep, HasLostPower}
use Rattle.dali_bus.proofs.ChainLemmas.{shown_chain}
use Rattle.dali_gear.specs.SimState.{SimState, SimStep, world_of}
use Rattle.dali_gear.specs.SimSteps.{sim_step-allowed}
use Rattle.dali_gear.specs.Fate.{next_fate}
use Rattle.dali_gear.specs.UnitState.{UnitState}
use Rattle.dali_write.specs.Exchanges.{Exchange, exchanges_of}
use Rattle.dali_write.specs.Tries.{most_tries}
use Rattle.dali_write.specs.Misses.{misses_in}
use Rattle.dali_write.specs.Losses.{is_loss, losses, Unrefused, IsAlone}
use Rattle.dali_write.specs.Successes.{Spared, MissesByLosses}
use Rattle.dali_write.specs.Worlds.{Run}

-- Units of these addresses lose their power and get it back, one after another and any number of times. Nothing else
-- happens.
pub data Drifts {S : Type 0} (step : S → BusEvent → S → Type 0) (loses : ℕ → Type 0) : S → S → Type 0 where
  Stays : {state : S} → Drifts step loses state state
  Loses : {first mid last : S} → (address : ℕ) → loses address → Drifts step loses first mid
      → step mid (Powered address) last → Drifts step loses first last

-- a run, one exchange after another; before, between and after them units of these addresses may lose their power
abbrev pub Leads : {S : Type 0} → (S → BusEvent → S → Type 0) → (ℕ → Type 0) → List Exchange → S → S → Type 0
Leads step loses [] first last = Drifts step loses first last
Leads {S = S} step loses (x ∷ told) first last =
    (before : S) × (after : S) × Leads step loses told first before × step before (Carried x.frame x.answer) after
    × Drifts step loses after last

-- one more loss of power after a run
pub run_on : {S : Type 0} (step : S → BusEvent → S → Type 0) (loses : ℕ → Type 0) (told : List Exchange)
    (first mid last : S) (address : ℕ)
    → loses address → Leads step loses told first mid → step mid (Powered address) last
    → Leads step loses told first last
run_on step loses [] first mid last address of_these run lost = Loses address of_these run lost
run_on step loses (x ∷ told) first mid last address of_these run lost =
    (run.0, run.1, run.2, run.3, Loses address of_these run.4 lost)

-- those who lose their power are among these too
pub drifts_among : {S : Type 0} {step : S → BusEvent → S → Type 0} {loses others : ℕ → Type 0} (first last : S)
    → ((address : ℕ) → loses address → others address)
    → Drifts step loses first last → Drifts step others first last
drifts_among first last among Stays = Stays
drifts_among first last among (Loses {mid = mid} address of_these drifts lost) =
    Loses address (among address of_these) (drifts_among first mid among drifts) lost

pub run_among : {S : Type 0} (step : S → BusEvent → S → Type 0) {loses others : ℕ → Type 0} (told : List Exchange)
    (first last : S)
    → ((address : ℕ) → loses address → others address)
    → Leads step loses told first last → Leads step others told first last
run_among step [] first last among run = drifts_among first last among run
run_among step (x ∷ told) first last among run =
    (run.0, run.1, run_among step told first run.0 among run.2, run.3, drifts_among run.1 last among run.4)

-- a chain
run_along : {S : Type 0} (step : S → BusEvent → S → Type 0) (loses : ℕ → Type 0) (past : List BusEvent)
    (first last : S) (states : List S)
    → ((address : ℕ) → HasLostPower address past → loses address)
    → IsChain step first past last states → Leads step loses (exchanges_of past) first last
run_along {S = S} step loses [] first last [] among same =
    subst (λ (s : S). Drifts step loses first s) (sym same) Stays
run_along step loses [] first last (state ∷ states) among wrong = absurd wrong
run_along step loses (event ∷ past) first last [] among wrong = absurd wrong
run_along step loses (Carried frame answer ∷ past) first last (state ∷ states) among steps =
    (state, last, run_along step loses past first state states among steps.1, steps.0, Stays)
run_along step loses (Powered at ∷ past) first last (state ∷ states) among steps =
    run_on step loses (exchanges_of past) first state last at (among at (inl refl))
    (run_along step loses past first state states (λ address lost. among address (inr lost)) steps.1) steps.0

pub leads_of : {S : Type 0} {step : S → BusEvent → S → Type 0} {loses : ℕ → Type 0} (told : List Exchange)
    (first last : S)
    → Run step loses told first last → Leads step loses told first last
leads_of {step = step} {loses = loses} told first last run =
    subst (λ (t : List Exchange). Leads step loses t first last) run.told_is
    (run_along step loses run.past first last run.chain.states run.among run.chain.steps)

-- and the other way round
drift_on : {S : Type 0} {step : S → BusEvent → S → Type 0} {loses : ℕ → Type 0} (told : List Exchange)
    (first mid last : S)
    → Run step loses told first mid → Drifts step loses mid last → Run step loses told first last
drift_on told first mid last run Stays = run
drift_on {loses = loses} told first mid last run (Loses {mid = between} address of_these drifts lost) =
    let on = drift_on told first mid between run drifts in
    record {
      past = Powered address ∷ on.past;
      told_is = on.told_is;
      among = λ at has. elim has [
        | inl is ↦ subst loses is of_these
        | inr before ↦ on.among at before
      ];
      chain = record { states = between ∷ on.chain.states; steps = (lost, on.chain.steps) };
    }

pub run_of : {S : Type 0} {step : S → BusEvent → S → Type 0} {loses : ℕ → Type 0} (told : List Exchange)
    (first last : S)
    → Leads step loses told first last → Run step loses told first last
run_of [] first last run =
    drift_on [] first first last
    (record { past = []; told_is = refl; among = λ at has. absurd has; chain = record { states = []; steps = refl } })
    run
run_of (x ∷ told) first last run =
    let before = run_of told first run.0 run.2 in
    drift_on (x ∷ told) first run.1 last
    (record {
      past = Carried x.frame x.answer ∷ before.past;
      told_is = ap (λ (t : List Exchange). x ∷ t) before.told_is;
      among = before.among;
      chain = record { states = run.0 ∷ before.chain.states; steps = (run.3, before.chain.steps) };
    }) run.4

-- the same of the simulated bus
pub sim_drifts : (loses : ℕ → Type 0) (first last : SimState) → Drifts SimStep loses first last
    → Drifts WorldStep loses (world_of first.units) (world_of last.units)
sim_drifts loses first last Stays = Stays
sim_drifts loses first last (Loses {mid = mid} address of_these drifts lost) =
    Loses address of_these (sim_drifts loses first mid drifts) (sim_step-allowed mid (Powered address) last lost)

pub sim_run : (loses : ℕ → Type 0) (told : List Exchange) (first last : SimState)
    → Leads SimStep loses told first last
    → Leads WorldStep loses told (world_of first.units) (world_of last.units)
sim_run loses [] first last run = sim_drifts loses first last run
sim_run loses (x ∷ told) first last run = (
  world_of run.0.units,
  world_of run.1.units,
  sim_run loses told first run.0 run.2,
  sim_step-allowed run.0 (Carried x.frame x.answer) run.1 run.3,
  sim_drifts loses run.1 last run.4,
)

pub shown_run : (loses : ℕ → Type 0) (told : List Exchange) (first last : SimState) → Run SimStep loses told first last
    → Run WorldStep loses told (world_of first.units) (world_of last.units)
shown_run loses told first last run =
    record {
      past = run.past;
      told_is = run.told_is;
      among = run.among;
      chain = record {
        states = map (λ (s : SimState). world_of s.units) run.chain.states;
        steps = shown_chain SimStep WorldStep (λ (s : SimState). world_of s.units) sim_step-allowed first run.past last
            run.chain.states run.chain.steps;
      };
    }

-- the count of exchanges that are losses to the unit
abbrev pub losses_along : ℕ → (loses : ℕ → Type 0) (told : List Exchange) (first last : SimState)
    → Leads SimStep loses told first last → ℕ
losses_along address loses [] first last run = 0
losses_along address loses (x ∷ told) first last run =
    (if is_loss address run.0 x.frame then 1 else 0) + losses_along address loses told first run.0 run.2

-- no fate of the exchanges refuses
abbrev pub UnrefusedAlong : (loses : ℕ → Type 0) (told : List Exchange) (first last : SimState)
    → Leads SimStep loses told first last → Type 0
UnrefusedAlong loses [] first last run = ⊤
UnrefusedAlong loses (x ∷ told) first last run =
    ((next_fate run.0.fates).refuse ≡ false) × UnrefusedAlong loses told first run.0 run.2

-- a run with this many losses, one exchange after another
pub record Led (loses : ℕ → Type 0) (told : List Exchange) (first last : SimState) (past : List BusEvent)
    (states : List SimState) : Type 0 where
  pub run : Leads SimStep loses told first last
  pub counts : (at : ℕ) → losses_along at loses told first last run ≡ losses at past states
  pub kinds : Unrefused past states → UnrefusedAlong loses told first last run

led_on : (loses : ℕ → Type 0) (told : List Exchange) (first mid last : SimState) (address : ℕ) (past : List BusEvent)
    (states : List SimState)
    → loses address → SimStep mid (Powered address) last → Led loses told first mid past states
    → Led loses told first last (Powered address ∷ past) (mid ∷ states)
unfolding run_on
led_on loses [] first mid last address past states of_these lost led =
    grind (arith, run_on SimStep loses [] first mid last address of_these led.run lost)
led_on loses (x ∷ told) first mid last address past states of_these lost led =
    record {
      run = run_on SimStep loses (x ∷ told) first mid last address of_these led.run lost;
      counts = led.counts;
      kinds = led.kinds;
    }

led_along : (loses : ℕ → Type 0) (past : List BusEvent) (first last : SimState) (states : List SimState)
    → ((address : ℕ) → HasLostPower address past → loses address)
    → IsChain SimStep first past last states → Led loses (exchanges_of past) first last past states
led_along loses [] first last [] among same = search (arith, run_along SimStep loses [] first last [] among same)
led_along loses [] first last (state ∷ states) among wrong = absurd wrong
led_along loses (event ∷ past) first last [] among wrong = absurd wrong
led_along loses (Carried frame answer ∷ past) first last (state ∷ states) among steps =
    let before = led_along loses past first state states among steps.1 in
    record {
      run = (state, last, before.run, steps.0, Stays);
      counts = λ at. ap (λ (n : ℕ). (if is_loss at state frame then 1 else 0) + n) (before.counts at);
      kinds = λ kind. (kind.0, before.kinds kind.1);
    }
led_along loses (Powered at ∷ past) first last (state ∷ states) among steps =
    led_on loses (exchanges_of past) first state last at past states (among at (inl refl)) steps.0
    (led_along loses past first state states (λ address lost. among address (inr lost)) steps.1)

pub led : (loses : ℕ → Type 0) (told : List Exchange) (first last : SimState) (run : Run SimStep loses told first last)
    → Led loses told first last run.past run.chain.states
led loses told first last run = grind (arith, led_along)

-- little is lost along such a run, and no more was missed
pub record SparedAlong (loses : ℕ → Type 0) (at : ℕ) (unit : UnitState) (told : List Exchange) (first last : SimState)
    : Type 0 where
  pub run : Leads SimStep loses told first last
  pub keeps_power : loses at → ⊥
  pub alone : IsAlone at unit first.units
  pub kind : UnrefusedAlong loses told first last run
  pub few : losses_along at loses told first last run < most_tries

abbrev pub MissesAlong : (loses : ℕ → Type 0) (at : ℕ) (unit : UnitState) (told : List Exchange)
    (first last : SimState)
    → SparedAlong loses at unit told first last → Type 0
MissesAlong loses at unit told first last spared = misses_in told ≤ losses_along at loses told first last spared.run

pub spared_along : (loses : ℕ → Type 0) (at : ℕ) (unit : UnitState) (told : List Exchange) (first last : SimState)
    → Spared loses at unit told first last → SparedAlong loses at unit told first last
spared_along loses at unit told first last spared = grind (arith, led loses told first last spared.run)

pub few_too : (loses : ℕ → Type 0) (at : ℕ) (unit : UnitState) (told : List Exchange) (first last : SimState)
    (spared : Spared loses at unit told first last)
    → MissesAlong loses at unit told first last (spared_along loses at unit told first last spared)
    → MissesByLosses loses at unit told first last spared
unfolding spared_along
few_too loses at unit told first last spared few = grind (arith, led loses told first last spared.run)
