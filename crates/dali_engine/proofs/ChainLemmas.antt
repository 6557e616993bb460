-- A chain goes on by one happening, and a chain of a bus is one of its worlds.
use Rattle.std.proofs.Common.{◌≡◌, inl, refl, sym, ap, subst, ◌∙◌, ℕ, List, [], ◌∷◌, ◌++◌, Option, Some, reverse, map}
use Rattle.std.proofs.lemmas.List.{reverse-append}
use Rattle.dali_bus.specs.World.{World}
use Rattle.dali_bus.specs.Carry.{BusEvent, Carried, WorldStep}
use Rattle.dali_bus.specs.Carry as bus
use Rattle.dali_bus.specs.Chain.{AtEachMoment, Chain}
use Rattle.dali_bus.specs.Unenabled.{NoneEnabled}
use Rattle.dali_bus.proofs.ChainLemmas.{shown_chain, shown_moments}
use Rattle.dali_trace.specs.declared.happening.Happening.{Happening}
use Rattle.dali_trace.specs.declared.happening.Happening.TheVariants.{Sent, Powered}
use Rattle.dali_trace.specs.Trace.{Start}
use Rattle.dali_trace.specs.Legal.{Legal}
use Rattle.dali_trace.specs.Moves.{MovesBy, Moves}
use Rattle.dali_trace.specs.Fits.{Fits, OnlyNamed}
use Rattle.dali_trace.specs.Moments.{IsRight}
use Rattle.dali_trace.specs.Runs.{fresh, LeadsRight}
use Rattle.dali_engine.specs.WriterState.{WriterState}
use Rattle.dali_engine.specs.declared.phase.Phase.{Phase}
use Rattle.dali_engine.specs.declared.phase.Phase.TheVariants.{Idle, Begins, Checks, Writes, Closes, Says}
use Rattle.dali_engine.specs.Describes.{IsAt, Describes}
use Rattle.dali_engine.specs.Follows.{Follows}
use Rattle.dali_laws.proofs.AgreeLemmas.{may_follow}
use Rattle.dali_trace.specs.WhenKept.{WhenKept}
use Rattle.dali_laws.proofs.MomentLemmas.{every_moment, each_kept}
use Rattle.dali_write.specs.declared.pace.Pace.{Pace}

-- a longer trace that is written oldest first describes the same writer
pub onto : (start : Start) (w : WriterState) (trace new : List Happening) (next : Happening) → new ≡ trace ++ next ∷ []
    → Describes start (next ∷ reverse trace) w → Describes start (reverse new) w
onto start w trace new next is d =
    subst (λ (t : List Happening). Describes start t w) (sym (ap reverse is ∙ reverse-append trace (next ∷ []))) d

-- so does one that is longer by a loss of power
pub onto_power : (start : Start) (w : WriterState) (trace new : List Happening) (address : ℕ)
    → new ≡ trace ++ Powered address ∷ [] → Describes start (reverse trace) w → Describes start (reverse new) w
onto_power start w trace new address is d = onto start w trace new (Powered address) is (record {
  legal = (d.legal, may_follow start (reverse trace) (Powered address) d.finished tt);
  finished = tt;
  same = d.same;
  limit = d.limit;
  pace = d.pace;
  place = place w.phase d.place;
}) where
  place : (phase : Phase) → IsAt phase (reverse trace) → IsAt phase (Powered address ∷ reverse trace)
  place Idle at = at
  place (Begins order moment) at = at
  place (Checks order s) at = at
  place (Writes order s) at = at
  place (Closes order moment s) at = at
  place (Says id code) at = at

pub follows_power : (start : Start) (w : WriterState) (trace new : List Happening) (address : ℕ)
    → new ≡ trace ++ Powered address ∷ [] → Follows start (reverse trace) w → Follows start (reverse new) w
follows_power start w trace new address is follows =
    subst (λ (t : List Happening). Follows start t w)
    (sym (ap reverse is ∙ reverse-append trace (Powered address ∷ [])))
    (record { planned = (follows.planned, tt); told = follows.told })

module _ {S : Type 0} (world : S → World) (step : S → BusEvent → S → Type 0) where
  -- a chain before anything happens
  pub starts : (first : S) → Chain (MovesBy step) first [] first
  starts first = record { states = []; steps = refl }

  module _ (allowed : (old : S) (event : BusEvent) (new : S) → step old event new
      → WorldStep (world old) event (world new)) where
    moves : (old : S) (next : Happening) (new : S) → MovesBy step old next new → Moves (world old) next (world new)
    moves old (Sent frame answer) new moved = allowed old (Carried frame answer) new moved
    moves old (Powered address) new moved = allowed old (bus.Powered address) new moved
    moves old _ new same = ap world same

    -- each moment of a chain along a legal trace is right
    pub right : (limit : ℕ) (pace : Pace) (first last : S) (past : List Happening) → Legal (fresh limit pace) past
        → Chain (MovesBy step) first past last
        → LeadsRight world step limit pace first past last
    right limit pace first last past legal chain = record {
      states = chain.states;
      chain = chain.steps;
      kept = shown_moments world (WhenKept (fresh limit pace)) past last chain.states
          (each_kept (fresh limit pace) (world first) past (world last) (map world chain.states) legal
          (shown_chain (MovesBy step) Moves world moves first past last chain.states chain.steps)).1;
      right = λ none.
          shown_moments world (IsRight (world first) [] (fresh limit pace)) past last chain.states (each none);
    } where
      fits : Fits (world first) [] [] (world first)
      fits = record {
        places = λ address bank location. refl;
        bytes = λ address bank location one byte lock was is. same one byte was is;
        locks = λ address bank above closed. inl refl;
        indicators = λ address closed. refl;
      } where
        same : {x : Option ℕ} (one byte : ℕ) → x ≡ Some one → x ≡ Some byte → byte ≡ one
        same one byte was is = cc

      only : NoneEnabled (world first) → OnlyNamed [] (world first)
      only none address on = let off = none address in cc

      each : NoneEnabled (world first)
          → AtEachMoment (IsRight (world first) [] (fresh limit pace)) past (world last) (map world chain.states)
      each none =
          every_moment (world first) [] (fresh limit pace) (world first) past (world last) (map world chain.states)
          legal
          (record {
            fits = fits;
            only = only none;
            chain = shown_chain (MovesBy step) Moves world moves first past last chain.states chain.steps;
          })
