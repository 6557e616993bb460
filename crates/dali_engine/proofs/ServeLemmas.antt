-- The part that each event adds, if the trace is written oldest first.
use Rattle.std.proofs.Common.{◌≡◌, inl, refl, sym, ap, subst, ◌∙◌, ℕ, List, [], ◌∷◌, ◌++◌, Option, Some, None, reverse, true}
use Rattle.std.proofs.lemmas.List.{reverse-append}
use Rattle.dali_bank.specs.Order.{Contents, AreUpdates}
use Rattle.dali_bus.specs.Carry.{BusEvent}
use Rattle.dali_bus.specs.Chain.{Chain}
use Rattle.dali_journal.specs.declared.record.Record.{Record}
use Rattle.dali_trace.specs.declared.happening.Event.{Event}
use Rattle.dali_trace.specs.declared.happening.Event.TheVariants as events
use Rattle.dali_trace.specs.declared.happening.Happening.{Happening}
use Rattle.dali_trace.specs.declared.happening.Happening.TheVariants.{Asked, Answered, Powered}
use Rattle.dali_trace.specs.declared.happening.Reply.{Reply}
use Rattle.dali_trace.specs.Trace.{Start, is_busy}
use Rattle.dali_trace.specs.Parts.{IsWork}
use Rattle.dali_trace.specs.Moves.{MovesBy}
use Rattle.dali_trace.specs.Runs.{SendsProper, SendsAllProper, AsksProper, AsksAllProper}
use Rattle.dali_engine.specs.WriterState.{WriterState}
use Rattle.dali_engine.specs.Describes.{Describes}
use Rattle.dali_engine.specs.Follows.{Follows}
use Rattle.dali_engine.specs.Served.{stopped_after, IsStop, IsServed}
use Rattle.dali_engine.proofs.ChainLemmas.{onto_power, follows_power}

-- a trace that is longer by one happening, and by two
pub one_more : (trace new : List Happening) (next : Happening) → new ≡ trace ++ next ∷ []
    → reverse new ≡ next ∷ reverse trace
one_more trace new next is = ap reverse is ∙ reverse-append trace (next ∷ [])

pub two_more : (trace mid new : List Happening) (next last : Happening) → mid ≡ trace ++ next ∷ []
    → new ≡ mid ++ last ∷ [] → reverse new ≡ last ∷ next ∷ reverse trace
two_more trace mid new next last one two =
    one_more mid new last two ∙ ap (λ (past : List Happening). last ∷ past) (one_more trace mid next one)

module _ {S : Type 0} (step : S → BusEvent → S → Type 0) where
  -- an order was taken, or was refused
  pub submitted : (event : Event) (bus : S) (old new : WriterState) (trace mid after : List Happening)
      (order : Contents)
      (moment : ℕ) (reply : Reply) → event ≡ events.Submit order moment → AreUpdates order.updates
      → mid ≡ trace ++ Asked order moment ∷ [] → after ≡ mid ++ Answered order.id reply ∷ []
      → ((start : Start) (past : List Happening) → Describes start past old
      → Describes start (Answered order.id reply ∷ Asked order moment ∷ past) new)
      → ((start : Start) (past : List Happening) → Follows start past old
      → Follows start (Answered order.id reply ∷ Asked order moment ∷ past) new)
      → IsServed step event bus old (reverse trace) bus new (reverse after)
  submitted event bus old new trace mid after order moment reply is may one two described follows =
      subst (λ (past : List Happening). IsServed step event bus old (reverse trace) bus new past)
      (sym (two_more trace mid after (Asked order moment) (Answered order.id reply) one two))
      (subst (λ (e : Event). IsServed step e bus old (reverse trace) bus new
      (Answered order.id reply ∷ Asked order moment ∷ reverse trace)) (sym is)
      (record {
        described = λ start d. described start (reverse trace) d;
        follows = λ start d f. follows start (reverse trace) f;
        part = λ start d f. (reply, refl);
        proper = λ proper. (tt, (tt, proper));
        orders = λ orders. (tt, (may, orders));
        leads = λ first chain. record { states = bus ∷ bus ∷ chain.states; steps = (refl, (refl, chain.steps)) };
      }))

  -- a piece of work was done
  pub stepped : (event : Event) (bus new_bus : S) (old new : WriterState) (trace after : List Happening)
      (next : Happening)
      → event ≡ events.Step → after ≡ trace ++ next ∷ [] → IsWork next → SendsProper next → AsksProper next
      → MovesBy step bus next new_bus
      → ((start : Start) (past : List Happening) → Describes start past old → is_busy start past ≡ true)
      → ((start : Start) (past : List Happening) → Describes start past old → Describes start (next ∷ past) new)
      → ((start : Start) (past : List Happening) → Describes start past old → Follows start past old
      → Follows start (next ∷ past) new)
      → IsServed step event bus old (reverse trace) new_bus new (reverse after)
  stepped event bus new_bus old new trace after next is one work proper orders moved busy described follows =
      subst (λ (past : List Happening). IsServed step event bus old (reverse trace) new_bus new past)
      (sym (one_more trace after next one))
      (subst (λ (e : Event). IsServed step e bus old (reverse trace) new_bus new (next ∷ reverse trace)) (sym is)
      (record {
        described = λ start d. described start (reverse trace) d;
        follows = λ start d f. follows start (reverse trace) d f;
        part = λ start d f. inl (busy start (reverse trace) d, (next, work, refl));
        proper = λ all. (proper, all);
        orders = λ all. (orders, all);
        leads = λ first chain. record { states = bus ∷ chain.states; steps = (moved, chain.steps) };
      }))

  -- the writer was stopped and began anew
  pub stopped : (event : Event) (bytes : ℕ) (bus : S) (old new : WriterState) (trace after : List Happening)
      (kept : Option Record) → event ≡ events.Stop bytes → reverse after ≡ stopped_after old.pace kept (reverse trace)
      → IsStop bytes old kept new → IsServed step event bus old (reverse trace) bus new (reverse after)
  stopped event bytes bus old new trace after kept is longer stop =
      subst (λ (past : List Happening). IsServed step event bus old (reverse trace) bus new past) (sym longer)
      (subst (λ (e : Event). IsServed step e bus old (reverse trace) bus new
      (stopped_after old.pace kept (reverse trace)))
      (sym is)
      (record {
        described = λ start d. stop.described start (reverse trace) d;
        follows = λ start d f. stop.follows start (reverse trace) d f;
        part = λ start d f. stop.part start (reverse trace) d f;
        proper = proper kept;
        orders = orders kept;
        leads = leads kept;
      }))
    where
      proper : (kept : Option Record) → SendsAllProper (reverse trace)
          → SendsAllProper (stopped_after old.pace kept (reverse trace))
      proper (Some entry) all = (tt, (tt, all))
      proper None all = (tt, all)

      orders : (kept : Option Record) → AsksAllProper (reverse trace)
          → AsksAllProper (stopped_after old.pace kept (reverse trace))
      orders (Some entry) all = (tt, (tt, all))
      orders None all = (tt, all)

      leads : (kept : Option Record) (first : S) → Chain (MovesBy step) first (reverse trace) bus
          → Chain (MovesBy step) first (stopped_after old.pace kept (reverse trace)) bus
      leads (Some entry) first chain =
          record { states = bus ∷ bus ∷ chain.states; steps = (refl, (refl, chain.steps)) }
      leads None first chain = record { states = bus ∷ chain.states; steps = (refl, chain.steps) }

  -- a unit lost its power
  pub lost_power : (event : Event) (bus new_bus : S) (writer : WriterState) (trace after : List Happening) (address : ℕ)
      → event ≡ events.Power address → after ≡ trace ++ Powered address ∷ []
      → MovesBy step bus (Powered address) new_bus
      → IsServed step event bus writer (reverse trace) new_bus writer (reverse after)
  lost_power event bus new_bus writer trace after address is one moved =
      let longer = one_more trace after (Powered address) one in
      subst (λ (e : Event). IsServed step e bus writer (reverse trace) new_bus writer (reverse after)) (sym is)
      (record {
        described = λ start d. onto_power start writer trace after address one d;
        follows = λ start d f. follows_power start writer trace after address one f;
        part = λ start d f. longer;
        proper = λ all. subst SendsAllProper (sym longer) (tt, all);
        orders = λ all. subst AsksAllProper (sym longer) (tt, all);
        leads =
            λ first chain. subst (λ (past : List Happening). Chain (MovesBy step) first past new_bus) (sym longer)
            (record { states = bus ∷ chain.states; steps = (moved, chain.steps) });
      })
