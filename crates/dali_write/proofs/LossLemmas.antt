-- A try without a loss comes to its end.
use Rattle.std.proofs.Common.{◌≡◌, refl, sym, ap, subst, ◌∙◌, ℕ, zero, suc, ◌+◌, ◌≤◌, Bool, true, false, List, [], ◌∷◌, ◌++◌}
use Rattle.std.proofs.Common.{Option, Some, None, IsTrue, arith}
use Rattle.std.specs.Prelude.{◌==◌, if◌then◌else◌, ⊤}
use Rattle.std.proofs.lemmas.Bool.{eq-eqb, eqb-true}
use Rattle.std.proofs.Math.Nat.{pos_of_ne-zero}
use Rattle.dali_frame.specs.declared.forward.Frame.TheVariants.{Enable, Write, AskDtr0, AskDtr1, Read}
use Rattle.dali_bus.specs.Hears.{up}
use Rattle.dali_write.specs.Exchanges.{Exchange}
use Rattle.dali_gear.specs.UnitState.{UnitState, after_frame, after_enable, answer_to, is_writable}
use Rattle.dali_gear.specs.SimState.{SimState}
use Rattle.dali_write.specs.declared.request.Request.{Request}
use Rattle.dali_write.specs.declared.request.Wish.{Wish}
use Rattle.dali_write.specs.declared.request.Wish.TheVariants.{Nothing, Exactly, Anything}
use Rattle.dali_write.specs.declared.access.Access.{Access}
use Rattle.dali_write.specs.declared.access.Access.TheVariants.{ReadFrom, WriteTo, WriteOn}
use Rattle.dali_write.specs.declared.block.Block.{Block}
use Rattle.dali_write.specs.Requests.{Meets, request, select_requests, moved_on, reads, block_requests, write_requests}
use Rattle.dali_write.specs.Requests.{access_requests}
use Rattle.dali_write.specs.Tries.{Trying, Missed}
use Rattle.dali_write.specs.Losses.{is_loss, IsAlone, HasFrom, StandsBehind, CanDo}
use Rattle.dali_write.proofs.OneFrameLemmas.{IsFor, heard_whole, address_of}
use Rattle.dali_write.proofs.AskedLemmas.{Asks, block_asks}
use Rattle.dali_write.proofs.PlaceLemmas.{moved_next}
use Rattle.dali_write.proofs.DriftLemmas.{drifts_alone}
use Rattle.dali_write.proofs.RunLemmas.{Leads, losses_along, UnrefusedAlong}
use Rattle.dali_gear.specs.SimState.{SimStep}
use Rattle.dali_write.specs.Requests.{put_requests}

-- a unit that hears all of the requests gives the answers that they want
abbrev pub Suits : List Request → UnitState → Type 0
Suits [] unit = ⊤
Suits (next ∷ left) unit =
    Meets next.wish (answer_to false unit next.frame) × Suits left (after_frame false unit next.frame)

abbrev pub AllFor : ℕ → List Request → Type 0
AllFor at requests = Asks (IsFor at) requests

put_for : (at : ℕ) (moved : Bool) (location byte : ℕ) → AllFor at (put_requests moved at location byte)
put_for at true location byte = (refl, (refl, (tt, tt)))
put_for at false location byte = (tt, (refl, (refl, (tt, tt))))

pub all_for : (at : ℕ) (access : Access) (misses : ℕ) → AllFor at (access_requests at access misses)
all_for at (WriteOn before location byte) zero = put_for at (up before == location) location byte
all_for at (WriteOn before location byte) (suc misses) = (refl, (refl, (tt, (refl, (tt, (refl, (tt, tt)))))))
all_for at (ReadFrom block) misses = block_asks (IsFor at) at block tt refl tt refl refl
all_for at (WriteTo location byte) misses = (refl, (refl, (tt, (refl, (tt, (refl, (tt, tt)))))))

pub after_reading : (at : ℕ) (unit : UnitState) → unit.address ≡ at → unit.dtr1 ≡ 1
    → after_frame false unit (Read at) ≡ record unit { half_pair = false; enabled = false; dtr0 = up unit.dtr0 }
after_reading at unit is bank = rw (eq-eqb at unit.address (sym is), bank) refl

pub suits_asking : (at location : ℕ) (unit : UnitState) → unit.address ≡ at → unit.dtr0 ≡ location → unit.dtr1 ≡ 1
    → Suits (request (AskDtr0 at) (Exactly location) ∷ request (AskDtr1 at) (Exactly 1) ∷ []) unit
suits_asking at location unit is place bank = rw (eq-eqb at unit.address (sym is), place, bank) (refl, (refl, tt))

-- if the first of `count` locations is selected
suits_reading : (at place count : ℕ) (back : List Request) (unit : UnitState) → unit.address ≡ at → unit.dtr0 ≡ place
    → unit.dtr1 ≡ 1 → HasFrom unit.bank1 place count
    → ((now : UnitState) → now.address ≡ at → now.dtr0 ≡ moved_on place count → now.dtr1 ≡ 1 → Suits back now)
    → Suits (reads at count ++ back) unit
suits_reading at place zero back unit is here bank some rest = rest unit is here bank
suits_reading at place (suc count) back unit is here bank some rest = (
  rw (eq-eqb at unit.address (sym is), here, bank) (some 0 (omega arith)),
  subst (λ (u : UnitState). Suits (reads at count ++ back) u) (sym (after_reading at unit is bank))
      (suits_reading at (up place) count back
      (record unit { half_pair = false; enabled = false; dtr0 = up unit.dtr0 }) is (ap up here) bank
      (λ index below. rw (moved_next place index) (some (suc index) (omega arith)))
      (λ now is_now there bank_now. rest now is_now (there ∙ moved_next place count) bank_now)),
)

suits_read : (at : ℕ) (block : Block) (unit : UnitState) → unit.address ≡ at
    → HasFrom unit.bank1 block.location block.count
    → Suits (block_requests at block) unit
suits_read at block unit is some = grind (arith, eq-eqb, suits_reading, suits_asking)

-- if it is enabled and has bank 1 selected
suits_enabled : (at : ℕ) (moved : Bool) (location byte : ℕ) (unit : UnitState) → unit.address ≡ at
    → unit.enabled ≡ true → unit.dtr1 ≡ 1 → (moved ≡ true → unit.dtr0 ≡ location)
    → IsTrue (is_writable unit.bank1 location)
    → Suits (put_requests moved at location byte) unit
suits_enabled at true location byte unit is on bank place can =
    let here : unit.dtr0 ≡ location = place refl in grind (arith, eq-eqb)
suits_enabled at false location byte unit is on bank place can = grind (arith, eq-eqb)

-- if it is enabled
suits_selecting : (at location byte : ℕ) (unit : UnitState) → unit.address ≡ at → unit.enabled ≡ true
    → IsTrue (is_writable unit.bank1 location)
    → Suits (select_requests at location ++ request (Write byte) (Exactly byte) ∷ []) unit
suits_selecting at location byte unit is on can = grind (arith, eq-eqb)

one_enable : (at : ℕ) (unit : UnitState) → unit.address ≡ at → after_frame false unit (Enable at) ≡ after_enable unit
one_enable at unit is = rw (eq-eqb at unit.address (sym is)) refl

enable_pair : (unit : UnitState) → unit.half_pair ≡ true
    → after_enable unit ≡ record unit { enabled = true; half_pair = false }
enable_pair unit e = rw e refl

enable_half : (unit : UnitState) → unit.half_pair ≡ false → after_enable unit ≡ record unit { half_pair = true }
enable_half unit e = rw e refl

-- two frames enable it, with a half pair before them or without
enabled_by_two : (at : ℕ) (unit : UnitState) → unit.address ≡ at
    → after_frame false (after_frame false unit (Enable at)) (Enable at) ≡ record unit { enabled = true }
enabled_by_two at unit is = grind (arith, one_enable, enable_pair, enable_half)

suits_write : (at location byte : ℕ) (unit : UnitState) → unit.address ≡ at → IsTrue (is_writable unit.bank1 location)
    → Suits (write_requests at location byte) unit
suits_write at location byte unit is can = (
  tt,
  (
    tt,
    subst (λ (u : UnitState). Suits (select_requests at location ++ request (Write byte) (Exactly byte) ∷ []) u)
        (sym (enabled_by_two at unit is))
        (suits_selecting at location byte (record unit { enabled = true }) is refl can),
  ),
)

-- the unit can do a try of the access after this many misses: after one, a write enables it
abbrev pub CanTry : Access → ℕ → UnitState → Type 0
CanTry (ReadFrom block) misses unit = HasFrom unit.bank1 block.location block.count
CanTry (WriteTo location byte) misses unit = IsTrue (is_writable unit.bank1 location)
CanTry (WriteOn before location byte) zero unit = IsTrue (is_writable unit.bank1 location) × StandsBehind before unit
CanTry (WriteOn before location byte) (suc misses) unit = IsTrue (is_writable unit.bank1 location)

pub can_try : (access : Access) (misses : ℕ) (unit : UnitState) → CanDo access unit → CanTry access misses unit
can_try (ReadFrom block) misses unit can = can
can_try (WriteTo location byte) misses unit can = can
can_try (WriteOn before location byte) zero unit can = can
can_try (WriteOn before location byte) (suc misses) unit can = can.0

pub suits_access : (at : ℕ) (access : Access) (misses : ℕ) (unit : UnitState) → unit.address ≡ at
    → CanTry access misses unit → Suits (access_requests at access misses) unit
suits_access at (ReadFrom block) misses unit is can = suits_read at block unit is can
suits_access at (WriteTo location byte) misses unit is can = suits_write at location byte unit is can
suits_access at (WriteOn before location byte) zero unit is can =
    suits_enabled at (up before == location) location byte unit is can.1.0 can.1.1
    (λ moved. can.1.2 ∙ eqb-true (up before) location moved) can.0
suits_access at (WriteOn before location byte) (suc misses) unit is can = suits_write at location byte unit is can

meets_own : (wish : Wish) (own answer : Option ℕ) → Meets wish own → ((byte : ℕ) → own ≡ Some byte → answer ≡ Some byte)
    → Meets wish answer
meets_own Nothing own answer meets same = tt
meets_own (Exactly byte) own answer meets same = same byte meets
meets_own Anything None answer meets same = cc
meets_own Anything (Some byte) answer meets same = rw (same byte refl) refl

no_more : (b : Bool) (more : ℕ) → (if b then 1 else 0) + more ≡ 0 → (b ≡ false) × (more ≡ 0)
no_more true more e = absurd (omega arith)
no_more false more e = (refl, omega arith)

-- a try without a loss: the unit, as it is now, suits what is left
pub record Suited (at : ℕ) (left : List Request) (last : SimState) : Type 0 where
  pub now : UnitState
  pub alone : IsAlone at now last.units
  pub suits : Suits left now
  pub for : AllFor at left

pub suited : (loses : ℕ → Type 0) (at : ℕ) (requests left : List Request) (unit : UnitState) (told : List Exchange)
    (first last : SimState) (run : Leads SimStep loses told first last)
    → (loses at → ⊥) → AllFor at requests → Suits requests unit → IsAlone at unit first.units
    → losses_along at loses told first last run ≡ 0 → UnrefusedAlong loses told first last run
    → Trying requests told left
    → Suited at left last
suited loses at requests left unit [] first last run keeps_power for suits alone none kind try =
    rw try (record {
      now = unit;
      alone = drifts_alone loses at unit first last keeps_power run alone;
      suits = suits;
      for = for;
    })
suited loses at requests left unit (x ∷ told) first last run keeps_power for suits alone none kind try =
    let whole = no_more (is_loss at run.0 x.frame) (losses_along at loses told first run.0 run.2) none in
    let before =
    suited loses at requests (request x.frame try.0 ∷ left) unit told first run.0 run.2 keeps_power for suits alone
    whole.1 kind.1 try.2 in
    let heard =
    heard_whole at run.0 before.now x.frame x.answer run.1 run.3 before.for.0 before.alone whole.0 kind.0 in
    record {
      now = after_frame false before.now x.frame;
      alone = drifts_alone loses at _ run.1 last keeps_power run.4 heard.alone;
      suits = before.suits.1;
      for = before.for.1;
    }

-- and so it doesn't miss
pub ends : (loses : ℕ → Type 0) (at : ℕ) (requests : List Request) (unit : UnitState) (told : List Exchange)
    (first last : SimState) (run : Leads SimStep loses told first last)
    → (loses at → ⊥) → AllFor at requests → Suits requests unit → IsAlone at unit first.units
    → losses_along at loses told first last run ≡ 0 → UnrefusedAlong loses told first last run → Missed requests told
    → ⊥
ends loses at requests unit [] first last run keeps_power for suits alone none kind missed = missed
ends loses at requests unit (x ∷ told) first last run keeps_power for suits alone none kind missed =
    let whole = no_more (is_loss at run.0 x.frame) (losses_along at loses told first run.0 run.2) none in
    let before =
    suited loses at requests (request x.frame missed.0 ∷ missed.1) unit told first run.0 run.2 keeps_power for suits
    alone whole.1 kind.1 missed.3 in
    let heard =
    heard_whole at run.0 before.now x.frame x.answer run.1 run.3 before.for.0 before.alone whole.0 kind.0 in
    missed.2 (meets_own missed.0 (answer_to false before.now x.frame) x.answer before.suits.0 heard.answered)

pub missed_by_loss : (loses : ℕ → Type 0) (at : ℕ) (access : Access) (misses : ℕ) (unit : UnitState)
    (told : List Exchange)
    (first last : SimState) (run : Leads SimStep loses told first last)
    → (loses at → ⊥) → IsAlone at unit first.units → CanTry access misses unit
    → UnrefusedAlong loses told first last run → Missed (access_requests at access misses) told
    → 1 ≤ losses_along at loses told first last run
missed_by_loss loses at access misses unit told first last run keeps_power alone can kind missed =
    search (arith, pos_of_ne-zero, ends loses, all_for, suits_access, address_of)
