-- Luminaires that come and go beside an order, and in the place of a left one, near the edges.
use Rattle.std.proofs.Common.{◌≡◌, ◌⊎◌, inl, inr, refl, ap, true, false, ℕ, Bool, not, [], Option, Some}
use Rattle.std.proofs.Common.{None, arith, ◌==◌, if◌then◌else◌}
use Rattle.std.proofs.lemmas.Bool.{eqb-true}
use Rattle.dali_frame.specs.declared.forward.Frame.TheVariants.{Dtr1}
use Rattle.dali_bus.specs.World.{Gear, byte_in}
use Rattle.dali_bus.specs.Hears.{Hears}
use Rattle.dali_bus.specs.Carry.{Carry, MayHear}
use Rattle.dali_bus.proofs.OpenLemmas.{is_open}
use Rattle.dali_trace.specs.Fits.{Fits}
use Rattle.dali_trace.proofs.WorkedWorldLemmas.{past_apart}
use Rattle.dali_trace.specs.Possible.{IsPossible}
use Rattle.dali_trace.specs.Worked.{alone, blank_unit}
use Rattle.dali_journal.specs.Orders.{orders_of}
use Rattle.dali_laws.specs.Stays.{Exchanged, WorkStays, IsAlong, IsRightThrough, bare}
use Rattle.dali_laws.specs.WorkedStays.{at_rest, left_once, beside, beside_one, written}
use Rattle.dali_laws.proofs.StayLemmas.{ready_begins}

-- Unit 5 is at work, and the luminaire at 6 is exchanged

-- what holds at 5, at 6 and elsewhere
pub comes_at_6 : Exchanged beside.staying (beside_one blank_unit (Some blank_unit))
    (beside_one blank_unit (Some written))
comes_at_6 address = by (address == 5) (address == 6) refl where
  by : (five six : Bool) → (address == 6) ≡ six
      → ((if five then Some blank_unit else (if six then Some written else None))
      ≡ (if five then Some blank_unit else (if six then Some blank_unit else None)))
      ⊎ ((not six ≡ false)
      × (is_open (if five then Some blank_unit else (if six then Some written else None)) ≡ false))
  by true six e = inl refl
  by false true e = inr (refl, refl)
  by false false e = inl refl

heard_beside : Carry (beside_one blank_unit (Some written)) (Dtr1 1) None
    (beside_one (record blank_unit { dtr1 = 1 }) (Some written))
heard_beside = record { units = λ address. units address (address == 5) (address == 6) refl; answers = tt } where
  hears : Hears 5 blank_unit (Dtr1 1) None (record blank_unit { dtr1 = 1 })
  hears = record { obeyed = record blank_unit { dtr1 = 1 }; obeys = (refl, refl); ends = inl refl }

  units : (address : ℕ) (five six : Bool) → (address == 5) ≡ five
      → MayHear address (if five then Some blank_unit else (if six then Some written else None)) (Dtr1 1)
      (if five then Some (record blank_unit { dtr1 = 1 }) else (if six then Some written else None))
  units address true six e = inr (None, rw (eqb-true address 5 e) hears)
  units address false true e = inl refl
  units address false false e = tt

none_enabled : (address : ℕ) → is_open (beside.first address) ≡ false
none_enabled address = by (address == 5) (address == 6) where
  by : (five six : Bool) → is_open (if five then Some blank_unit else (if six then Some blank_unit else None)) ≡ false
  by true six = refl
  by false true = refl
  by false false = refl

pub a_stay_goes_on_beside_an_exchange : IsAlong beside
a_stay_goes_on_beside_an_exchange =
    ready_begins beside [] refl refl none_enabled (refl, (refl, (tt, (tt, tt)))) (
      (beside_one blank_unit (Some written), comes_at_6, heard_beside),
      (
        (beside.first, (λ address. inl refl), refl),
        ((beside.first, (λ address. inl refl), refl), ((beside.first, (λ address. inl refl), refl), refl)),
      ),
    )

-- the number, or 100h, which is no byte
abbrev or_none : Option ℕ → ℕ
or_none None = 0x100
or_none (Some number) = number

-- not if all stay, nor by one that is enabled, nor at the address that is at work
pub none_comes_where_all_stay : Exchanged (λ address. true) (beside_one blank_unit (Some blank_unit))
    (beside_one blank_unit (Some written)) → ⊥
none_comes_where_all_stay comes = by (comes 6) where
  by : (Some written ≡ Some blank_unit) ⊎ ((true ≡ false) × (false ≡ false)) → ⊥
  by (inl same) = omega (arith, ap (λ (unit : Option Gear). or_none (byte_in unit 1 3)) same)
  by (inr never) = let no = never.0 in cc

pub none_comes_enabled : Exchanged beside.staying (beside_one blank_unit (Some blank_unit))
    (beside_one blank_unit (Some (record written { enabled = true }))) → ⊥
none_comes_enabled comes = by (comes 6) where
  by : (Some (record written { enabled = true }) ≡ Some blank_unit) ⊎ ((false ≡ false) × (true ≡ false)) → ⊥
  by (inl same) = let off : true ≡ false = ap is_open same in cc
  by (inr (gone, off)) = cc

pub the_one_at_work_stays : WorkStays (record beside { staying = λ address. not (address == 5) }) → ⊥
the_one_at_work_stays stays = let no : false ≡ true = stays.0 in cc

-- and no moment is right at which any unit is enabled that isn't named
pub not_right_with_one_enabled_beside : IsRightThrough
    (record (at_rest (alone blank_unit) [] (beside_one blank_unit (Some (record written { enabled = true }))) []) {
      staying = beside.staying;
    }) → ⊥
not_right_with_one_enabled_beside right = omega (arith, ap (λ (named : Option ℕ). or_none named) (right.0 6 refl))

-- In the place of a left one: the left order's bytes are in no unit that is there since

pub not_with_the_left_orders_byte : Fits (alone blank_unit) (bare left_once.records) [] (alone written) → ⊥
not_with_the_left_orders_byte fits = omega (arith, fits.bytes 5 1 3 0xFF 0x03 (past_apart (omega arith)) refl refl)

-- they may be in the unit that it was for
pub with_the_left_orders_byte : IsPossible 0xFF 5 1 3 (orders_of left_once.records) 0x03
with_the_left_orders_byte = inr refl
