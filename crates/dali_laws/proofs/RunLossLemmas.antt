-- The run of the simulated bus after a trace, its losses, and its halves.
use Rattle.std.proofs.Common.{◌≡◌, ◌≢◌, refl, sym, ap, subst, ℕ, ◌+◌, ◌≤◌, Bool, true, false, ◌||◌, ◌∙◌, length}
use Rattle.std.specs.Prelude.{⊤}
use Rattle.std.proofs.Common.{if◌then◌else◌, List, [], ◌∷◌, ◌++◌, Option, Some, None, arith}
use Rattle.dali_frame.specs.declared.forward.Frame.{Frame}
use Rattle.dali_bus.specs.Chain.{IsChain}
use Rattle.dali_gear.specs.SimState.{SimState, SimStep, SimPower}
use Rattle.dali_write.specs.Exchanges.{Exchange}
use Rattle.dali_write.specs.Losses.{is_loss}
use Rattle.dali_trace.specs.declared.happening.Reply.TheVariants as replies
use Rattle.dali_trace.specs.declared.happening.Happening.{Happening}
use Rattle.dali_trace.specs.declared.happening.Happening.TheVariants.{Answered, Sent, Stopped, Powered}
use Rattle.dali_trace.specs.Trace.{sent_since_taken}
use Rattle.dali_trace.specs.Moves.{MovesBy}
use Rattle.dali_trace.specs.Spared.{is_lost_to, state_at_start, losses_since, UnrefusedSince, KeepsPowerSince}
use Rattle.dali_write.proofs.RunLemmas.{Leads, Stays, Loses, losses_along, UnrefusedAlong}

-- the address is another one than the unit's and the left one's
abbrev pub IsAnother : ℕ → Option ℕ → ℕ → Type 0
IsAnother unit left address = (address ≢ unit) × (left ≢ Some address)

-- a run in which other units may lose their power
abbrev pub RunBeside : ℕ → Option ℕ → List Exchange → SimState → SimState → Type 0
RunBeside unit left told first last = Leads SimStep (IsAnother unit left) told first last

-- how many of the exchanges are: one that is lost to both counts once
abbrev pub losses_to : (unit : ℕ) (left : Option ℕ) (told : List Exchange) (first last : SimState)
    → RunBeside unit left told first last → ℕ
losses_to unit left [] first last run = 0
losses_to unit left (x ∷ told) first last run =
    (if is_lost_to unit left run.0 x.frame then 1 else 0) + losses_to unit left told first run.0 run.2

-- exchanges as a run of the simulated bus, with this many losses, and unrefused if `Kind` holds
pub record RunSo (unit : ℕ) (left : Option ℕ) (told : List Exchange) (first last : SimState) (count : ℕ)
    (Kind : Type 0) : Type 0 where
  pub run : RunBeside unit left told first last
  pub losses : losses_to unit left told first last run ≡ count
  pub kind : Kind → UnrefusedAlong (IsAnother unit left) told first last run

-- the frames since the last start
abbrev pub Since : ℕ → Option ℕ → List Happening → SimState → List SimState → Type 0
Since unit left past last states =
    RunSo unit left (sent_since_taken past) (state_at_start past last states) last
    (losses_since unit left past states) (UnrefusedSince past states)

begins_run : (unit : ℕ) (left : Option ℕ) (last : SimState) → RunSo unit left [] last last 0 ⊤
begins_run unit left last = record { run = Stays; losses = refl; kind = λ kind. tt }

stays : (unit : ℕ) (left : Option ℕ) (told : List Exchange) (first last state : SimState) (count : ℕ) (Kind : Type 0)
    → last ≡ state → RunSo unit left told first state count Kind → RunSo unit left told first last count Kind
stays unit left told first last state count Kind same since =
    subst (λ (s : SimState). RunSo unit left told first s count Kind) (sym same) since

-- another unit loses its power
drifts_on : (unit : ℕ) (left : Option ℕ) (told : List Exchange) (first last state : SimState) (count : ℕ)
    (Kind : Type 0) (address : ℕ)
    → IsAnother unit left address → SimPower state address last
    → RunSo unit left told first state count Kind → RunSo unit left told first last count Kind
drifts_on unit left [] first last state count Kind address is lost since =
    record { run = Loses address is since.run lost; losses = since.losses; kind = since.kind }
drifts_on unit left (x ∷ told) first last state count Kind address is lost since =
    let run = since.run in
    record {
      run = (run.0, run.1, run.2, run.3, Loses address is run.4 lost);
      losses = since.losses;
      kind = since.kind;
    }

one_more : (lost : Bool) (sent : Frame × SimState) (older : List (Frame × SimState))
    → (if lost then 1 else 0) + length older ≡ length (if lost then sent ∷ older else older)
one_more true sent older = omega arith
one_more false sent older = omega arith

pub since_start : (unit : ℕ) (left : Option ℕ) (first : SimState) (past : List Happening) (last : SimState)
    (states : List SimState)
    → IsChain (MovesBy SimStep) first past last states → KeepsPowerSince unit left past
    → Since unit left past last states
since_start unit left first [] last [] chain kept = begins_run unit left last
since_start unit left first [] last (state ∷ states) chain kept = absurd chain
since_start unit left first (next ∷ past) last [] chain kept = absurd chain
since_start unit left first (Answered id replies.Taken ∷ past) last (state ∷ states) chain kept =
    begins_run unit left last
since_start unit left first (Stopped pace ∷ past) last (state ∷ states) chain kept = begins_run unit left last
since_start unit left first (Powered address ∷ past) last (state ∷ states) chain kept =
    drifts_on unit left _ _ last state _ _ address kept.0 chain.0
    (since_start unit left first past state states chain.1 kept.1)
since_start unit left first (Sent frame answer ∷ past) last (state ∷ states) chain kept =
    let before = since_start unit left first past state states chain.1 kept in
    record {
      run = (state, last, before.run, chain.0, Stays);
      losses =
          ap (λ (n : ℕ). (if is_lost_to unit left state frame then 1 else 0) + n) before.losses
          ∙ one_more (is_lost_to unit left state frame) (frame, state) _;
      kind = λ kind. (kind.0, before.kind kind.1);
    }
since_start unit left first (_ ∷ past) last (state ∷ states) chain kept =
    stays unit left _ _ last state _ _ chain.0 (since_start unit left first past state states chain.1 kept)

-- losses to the one unit, or to the one that was left, are losses to either
bit_le : (a b : Bool) → (if a then 1 else 0) ≤ (if a || b then 1 else 0)
bit_le true b = omega arith
bit_le false true = omega arith
bit_le false false = omega arith

bit_right : (a b : Bool) → (if b then 1 else 0) ≤ (if a || b then 1 else 0)
bit_right true true = omega arith
bit_right true false = omega arith
bit_right false b = omega arith

one_le : (unit : ℕ) (left : Option ℕ) (state : SimState) (frame : Frame)
    → (if is_loss unit state frame then 1 else 0) ≤ (if is_lost_to unit left state frame then 1 else 0)
one_le unit None state frame = omega arith
one_le unit (Some left) state frame = bit_le (is_loss unit state frame) (is_loss left state frame)

pub own_losses : (unit : ℕ) (left : Option ℕ) (told : List Exchange) (first last : SimState)
    (run : RunBeside unit left told first last)
    → losses_along unit (IsAnother unit left) told first last run ≤ losses_to unit left told first last run
own_losses unit left [] first last run = omega arith
own_losses unit left (x ∷ told) first last run =
    let here = one_le unit left run.0 x.frame in let rest = own_losses unit left told first run.0 run.2 in omega arith

pub left_losses : (unit left : ℕ) (told : List Exchange) (first last : SimState)
    (run : RunBeside unit (Some left) told first last)
    → losses_along left (IsAnother unit (Some left)) told first last run
    ≤ losses_to unit (Some left) told first last run
left_losses unit left [] first last run = omega arith
left_losses unit left (x ∷ told) first last run =
    let here = bit_right (is_loss unit run.0 x.frame) (is_loss left run.0 x.frame) in
    let rest = left_losses unit left told first run.0 run.2 in omega arith

-- a run in two parts
pub record Halves (unit : ℕ) (left : Option ℕ) (sent told older : List Exchange) (first last : SimState)
    (run : RunBeside unit left sent first last) : Type 0 where
  pub mid : SimState
  pub before : RunBeside unit left older first mid
  pub after : RunBeside unit left told mid last
  pub sum : losses_to unit left sent first last run
      ≡ losses_to unit left told mid last after + losses_to unit left older first mid before
  pub kinds : UnrefusedAlong (IsAnother unit left) sent first last run
      → UnrefusedAlong (IsAnother unit left) older first mid before
      × UnrefusedAlong (IsAnother unit left) told mid last after

joined_halves : (unit : ℕ) (left : Option ℕ) (told older : List Exchange) (first last : SimState)
    (run : RunBeside unit left (told ++ older) first last)
    → Halves unit left (told ++ older) told older first last run
joined_halves unit left [] older first last run =
    record { mid = last; before = run; after = Stays; sum = omega arith; kinds = λ kind. (kind, tt) }
joined_halves unit left (x ∷ told) older first last run =
    let rest = joined_halves unit left told older first run.0 run.2 in
    let sum = rest.sum in
    record {
      mid = rest.mid;
      before = rest.before;
      after = (run.0, run.1, rest.after, run.3, run.4);
      sum = omega arith;
      kinds = λ kind. let both = rest.kinds kind.1 in (both.0, (kind.0, both.1));
    }

pub halves : (unit : ℕ) (left : Option ℕ) (sent told older : List Exchange) (first last : SimState)
    (run : RunBeside unit left sent first last)
    → sent ≡ told ++ older → Halves unit left sent told older first last run
halves unit left sent told older first last run same =
    subst (λ (t : List Exchange). (r : RunBeside unit left t first last) → Halves unit left t told older first last r)
    (sym same) (joined_halves unit left told older first last) run
