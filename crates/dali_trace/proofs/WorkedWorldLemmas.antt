-- Records and worlds near the edges: cases that a weaker definition would let through.
use Rattle.std.proofs.Common.{◌≡◌, ◌≤◌, ◌<◌, inl, inr, refl, arith, ap, true, false, ℕ, Bool, List, [], ◌∷◌, Option}
use Rattle.std.proofs.Common.{Some, None, ◌==◌, ◌&&◌, if◌then◌else◌}
use Rattle.dali_bus.specs.World.{Gear, World, is_enabled, byte_at}
use Rattle.dali_journal.specs.declared.kept.Progress.{Progress}
use Rattle.dali_journal.specs.declared.kept.Progress.TheVariants as reached
use Rattle.dali_journal.specs.declared.record.Code.TheVariants.{Done, Short, Format, Silent, Doubt, DoubtOpen}
use Rattle.dali_journal.specs.declared.record.Record.{Record}
use Rattle.dali_journal.specs.declared.record.Record.TheVariants.{Began, Opened, Ended, Closed}
use Rattle.dali_journal.specs.declared.standing.Standing.{Standing}
use Rattle.dali_journal.specs.declared.standing.Standing.TheVariants as standings
use Rattle.dali_journal.specs.Sentence.{named_unit}
use Rattle.dali_write.specs.Findings.{IsWritten}
use Rattle.dali_write.specs.Worlds.{IsAmong}
use Rattle.dali_bus.specs.Power.{MayRelock}
use Rattle.dali_trace.specs.declared.happening.Happening.TheVariants.{Kept, Powered}
use Rattle.dali_trace.specs.Possible.{IsPossible, IsCertain, applied}
use Rattle.dali_trace.specs.Fits.{HasBeenOpened, IsLockByte, IsApart, Fits, OnlyNamed, IsApplied}
use Rattle.dali_trace.specs.Moments.{FitsAt}
use Rattle.dali_trace.specs.Moves.{Moves}
use Rattle.dali_trace.specs.WhenKept.{Holds, IsLetGo, WhenKept}
use Rattle.dali_trace.specs.Worked.{first_order, third_order, empty, left_open, begun, third_begun, opened, alone}

-- The bytes that a place may hold. The first order has 03h for location 03h of unit 5, which held FFh.

abbrev MayBe : Progress → ℕ → Type 0
MayBe progress byte = IsPossible 0xFF 5 1 3 ((first_order, progress) ∷ []) byte

-- the old byte alone, the new one alone, or either and no third
abbrev IsOld : Progress → Type 0
IsOld progress = MayBe progress 0xFF × (MayBe progress 0x03 → ⊥)

abbrev IsNew : Progress → Type 0
IsNew progress = MayBe progress 0x03 × (MayBe progress 0xFF → ⊥)

abbrev IsEither : Progress → Type 0
IsEither progress = MayBe progress 0xFF × MayBe progress 0x03 × (MayBe progress 0x04 → ⊥)

pub old_when_begun : IsOld reached.Begun
old_when_begun = (refl, λ is. omega (arith, is))

pub either_when_opened : IsEither reached.Open
either_when_opened = (inl refl, inr refl, elim [ inl is ↦ omega (arith, is) | inr is ↦ omega (arith, is) ])

pub new_when_done : IsNew (reached.Ended Done)
new_when_done = (refl, λ is. omega (arith, is))

pub old_when_too_short : IsOld (reached.Ended Short)
old_when_too_short = (refl, λ is. omega (arith, is))

pub old_with_another_format : IsOld (reached.Ended Format)
old_with_another_format = (refl, λ is. omega (arith, is))

pub old_when_silent : IsOld (reached.Ended Silent)
old_when_silent = (refl, λ is. omega (arith, is))

pub either_in_doubt : IsEither (reached.Ended Doubt)
either_in_doubt = (inl refl, inr refl, elim [ inl is ↦ omega (arith, is) | inr is ↦ omega (arith, is) ])

pub either_when_left_open : IsEither (reached.Ended DoubtOpen)
either_when_left_open = (inl refl, inr refl, elim [ inl is ↦ omega (arith, is) | inr is ↦ omega (arith, is) ])

-- in another unit, in another bank, at a location that the order has no byte for
pub not_in_another_unit : IsPossible 0xFF 4 1 3 ((first_order, reached.Ended Done) ∷ []) 0x03 → ⊥
not_in_another_unit is = omega (arith, is)

pub not_in_another_bank : IsPossible 0xFF 5 2 3 ((first_order, reached.Ended Done) ∷ []) 0x03 → ⊥
not_in_another_bank is = omega (arith, is)

pub not_at_another_location : IsPossible 0xFF 5 1 9 ((first_order, reached.Ended Done) ∷ []) 0x03 → ⊥
not_at_another_location is = omega (arith, is)

-- The byte with the done orders applied, and whether it is the only one

pub applied_when_done : applied 0xFF 5 1 3 ((first_order, reached.Ended Done) ∷ []) ≡ 0x03
applied_when_done = refl

pub not_applied_in_doubt : applied 0xFF 5 1 3 ((first_order, reached.Ended Doubt) ∷ []) ≡ 0xFF
not_applied_in_doubt = refl

pub settled_when_begun : IsCertain 5 1 3 ((first_order, reached.Begun) ∷ [])
settled_when_begun = tt

pub not_settled_in_doubt : IsCertain 5 1 3 ((first_order, reached.Ended Doubt) ∷ []) → ⊥
not_settled_in_doubt is = is

pub not_settled_by_a_silent_order : IsCertain 5 1 3
    ((first_order, reached.Ended Silent) ∷ (first_order, reached.Ended Doubt) ∷ [])
    → ⊥
not_settled_by_a_silent_order is = is

pub settled_by_a_done_order : IsCertain 5 1 3
    ((first_order, reached.Ended Done) ∷ (first_order, reached.Ended Doubt) ∷ [])
settled_by_a_done_order = tt

pub not_settled_elsewhere : IsCertain 5 1 3
    ((third_order, reached.Ended Done) ∷ (first_order, reached.Ended Doubt) ∷ [])
    → ⊥
not_settled_elsewhere is = is

-- Worlds of one unit at address 5. Its bank 1 has 00h, the lock byte at 02h and 03h to 08h, which hold the order's
-- bytes except for the last, and the high byte of its content format.

abbrev place_of : ℕ → ℕ → ℕ → ℕ → ℕ → Option ℕ
place_of last lock high end location =
    if location == 0x00 then Some last else
    (if location == 0x02 then Some lock else
    (if location == 0x03 then Some 0x03 else
    (if location == 0x04 then Some 0xA4 else
    (if location == 0x05 then Some 0xCE else
    (if location == 0x06 then Some 0xEF else
    (if location == 0x07 then Some 0xAD else
    (if location == 0x08 then Some end else
    (if location == 0x11 then Some high else
    (if location == 0x12 then Some 0x03 else None)))))))))

abbrev unit_with : Bool → ℕ → ℕ → ℕ → ℕ → Gear
unit_with enabled last lock high end =
    record {
      dtr0 = 0;
      dtr1 = 0;
      dtr2 = 0;
      enabled = enabled;
      memory = λ bank location. if bank == 1 then place_of last lock high end location else None;
    }

abbrev world_with : Bool → ℕ → ℕ → ℕ → ℕ → World
world_with enabled last lock high end = alone (unit_with enabled last lock high end)

abbrev before : World
before = world_with false 0x77 0xFF 0x00 0xFF

abbrev after : World
after = world_with false 0x77 0xFF 0x00 0xAB

-- the order's records, the newest first
abbrev records_begun : List Record
records_begun = Began first_order 7 ∷ []

abbrev records_done : List Record
records_done = Ended Done ∷ Opened 5 ∷ records_begun

-- A byte of a unit that hasn't lost its power, and of one that has

-- the number, or 100h, which is no byte
abbrev or_none : Option ℕ → ℕ
or_none None = 0x100
or_none (Some number) = number

unlost : (unit bank location : ℕ) (old new : Option ℕ) → MayRelock (IsAmong [] unit) bank location old new → new ≡ old
unlost unit bank location old new (inl same) = same
unlost unit bank location old new (inr relocks) = absurd relocks.0

abbrev unlocked_world : World
unlocked_world = world_with false 0x77 0x55 0x00 0xFF

pub locked_since_it_lost_its_power : Holds (5 ∷ []) before 5 2 0x55
locked_since_it_lost_its_power = inr (inl refl, omega arith, refl, refl)

pub not_locked_where_another_lost_its_power : Holds (6 ∷ []) before 5 2 0x55 → ⊥
not_locked_where_another_lost_its_power (inl is) = omega (arith, ap (λ (byte : Option ℕ). or_none byte) is)
not_locked_where_another_lost_its_power (inr (inl is, above, lock, now)) = omega (arith, is)
not_locked_where_another_lost_its_power (inr (inr none, above, lock, now)) = none

pub no_other_byte_by_a_loss_of_power : Holds (5 ∷ []) before 5 8 0x12 → ⊥
no_other_byte_by_a_loss_of_power (inl is) = omega (arith, ap (λ (byte : Option ℕ). or_none byte) is)
no_other_byte_by_a_loss_of_power (inr relocks) = omega (arith, relocks.2)

pub no_other_lock_byte_by_a_loss_of_power : Holds (5 ∷ []) unlocked_world 5 2 0x33 → ⊥
no_other_lock_byte_by_a_loss_of_power (inl is) = omega (arith, ap (λ (byte : Option ℕ). or_none byte) is)
no_other_lock_byte_by_a_loss_of_power (inr relocks) =
    omega (arith, ap (λ (byte : Option ℕ). or_none byte) relocks.3)

-- A place past the lock byte isn't one that a unit sets by itself

pub past_apart : {bank location : ℕ} → 3 ≤ location → IsApart bank location → ⊥
past_apart past (inl lock) = omega (arith, past, lock.1)
past_apart past (inr indicator) = omega (arith, past, indicator.1)

pub indicator_apart : IsApart 1 1
indicator_apart = inr (refl, refl)

-- A world that doesn't fit

pub not_written_when_begun : Fits before records_begun [] after → ⊥
not_written_when_begun fits = omega (arith, fits.bytes 5 1 8 0xFF 0xAB (past_apart (omega arith)) refl refl)

pub not_unwritten_when_done : Fits before records_done [] before → ⊥
not_unwritten_when_done fits = omega (arith, fits.bytes 5 1 8 0xFF 0xFF (past_apart (omega arith)) refl refl)

-- the lock byte of bank 1 if no unit was opened
lock_of_5 : {zero now : World} {records : List Record} {lost : List ℕ} → (HasBeenOpened 5 records → ⊥)
    → Fits zero records lost now → MayRelock (IsAmong lost 5) 1 2 (byte_at zero 5 1 2) (byte_at now 5 1 2)
lock_of_5 none fits = fits.locks 5 1 (omega arith) (λ one. none)

pub not_unlocked_when_begun : Fits before records_begun [] (world_with false 0x77 0x55 0x00 0xFF) → ⊥
not_unlocked_when_begun fits =
    omega (arith, ap (λ (byte : Option ℕ). or_none byte) (unlost 5 1 2 _ _ (lock_of_5 (λ is. is) fits)))

pub not_a_unit_more : Fits (λ address. None) records_begun [] before → ⊥
not_a_unit_more fits = let more : true ≡ false = fits.places 5 1 3 in cc

pub opened_where_opened : HasBeenOpened 5 records_done
opened_where_opened = inl refl

pub not_opened_elsewhere : HasBeenOpened 6 records_done → ⊥
not_opened_elsewhere (inl is) = omega (arith, is)
not_opened_elsewhere (inr is) = is

pub lock_byte_of_bank_2 : IsLockByte 2 2
lock_byte_of_bank_2 = (omega arith, refl)

pub no_lock_byte_of_bank_0 : IsLockByte 0 2 → ⊥
no_lock_byte_of_bank_0 is = omega (arith, is.0)

pub no_lock_byte_at_03h : IsLockByte 1 3 → ⊥
no_lock_byte_at_03h is = omega (arith, is.1)

-- An enabled unit

abbrev enabled_world : World
enabled_world = world_with true 0x77 0xFF 0x00 0xFF

pub not_enabled_when_begun : OnlyNamed records_begun enabled_world → ⊥
not_enabled_when_begun only = omega (arith, ap (λ (named : Option ℕ). or_none named) (only 5 refl))

pub not_enabled_when_done : OnlyNamed records_done enabled_world → ⊥
not_enabled_when_done only = omega (arith, ap (λ (named : Option ℕ). or_none named) (only 5 refl))

pub not_enabled_for_another_unit : OnlyNamed
    (Opened 6 ∷ Began (record { id = 2; unit = 6; updates = [] }) 9 ∷ []) enabled_world
    → ⊥
not_enabled_for_another_unit only = omega (arith, ap (λ (named : Option ℕ). or_none named) (only 5 refl))

-- A done order whose byte isn't there, and one in doubt, of whose bytes nothing is said

pub not_applied_when_done : IsApplied before records_done before → ⊥
not_applied_when_done is =
    omega (arith, ap (λ (byte : Option ℕ). or_none byte) (is 5 1 8 0xFF (past_apart (omega arith)) refl tt))

-- Facts that are true when a record is kept

-- the unit at 5, which is let go, is off
off_at_5 : (now : World) (stands : Standing) (entry : Record) → named_unit stands ≡ Some 5 → is_enabled now 5 ≡ false
    → IsLetGo now stands entry
off_at_5 now stands entry at off = λ unit named gone. let is : 5 ≡ unit = cc in rw (← is) off

pub opened_where_it_reaches : WhenKept empty (Kept (Opened 5) ∷ begun) (world_with false 0x08 0xFF 0x00 0xFF)
opened_where_it_reaches = record {
  allowed = refl;
  grounds = (0x08, inl refl, omega arith, λ high. absurd (omega (arith, high)));
  let_go = λ unit named gone. cc;
}

pub not_opened_where_it_ends_before : WhenKept empty (Kept (Opened 5) ∷ begun) (world_with false 0x07 0xFF 0x00 0xFF)
    → ⊥
not_opened_where_it_ends_before kept = by kept.grounds.0 (unlost 5 1 0 _ _ kept.grounds.1) kept.grounds.2 where
  by : (last : ℕ) → Some 0x07 ≡ Some last → 8 ≤ last → ⊥
  by last shows reaches = let is : last ≡ 0x07 = cc in omega (arith, is, reaches)

pub not_opened_at_another_unit : WhenKept empty (Kept (Opened 6) ∷ begun) (world_with false 0x08 0xFF 0x00 0xFF) → ⊥
not_opened_at_another_unit kept = omega (arith, kept.allowed)

pub short_where_it_ends_before : WhenKept empty (Kept (Ended Short) ∷ begun) (world_with false 0x07 0xFF 0x00 0xFF)
short_where_it_ends_before =
    record { allowed = tt; grounds = (0x07, inl refl, omega arith); let_go = λ unit named gone. cc }

pub not_short_where_it_reaches : WhenKept empty (Kept (Ended Short) ∷ begun) (world_with false 0x08 0xFF 0x00 0xFF) → ⊥
not_short_where_it_reaches kept = by kept.grounds.0 (unlost 5 1 0 _ _ kept.grounds.1) kept.grounds.2 where
  by : (last : ℕ) → Some 0x08 ≡ Some last → last < 8 → ⊥
  by last shows ends = let is : last ≡ 0x08 = cc in omega (arith, is, ends)

pub format_where_it_is_another : WhenKept empty (Kept (Ended Format) ∷ third_begun)
    (world_with false 0x77 0xFF 0x01 0xFF)
format_where_it_is_another = record {
  allowed = tt;
  grounds = (0x01, 0x03, inl refl, inl refl, omega arith, λ is. omega (arith, is.0));
  let_go = λ unit named gone. cc;
}

pub not_format_where_it_is_0003 : WhenKept empty (Kept (Ended Format) ∷ third_begun)
    (world_with false 0x77 0xFF 0x00 0xFF)
    → ⊥
not_format_where_it_is_0003 kept =
    let high = unlost 5 1 0x11 _ _ kept.grounds.2 in
    let low = unlost 5 1 0x12 _ _ kept.grounds.3 in
    kept.grounds.5 (cc, cc)

pub done_where_all_is_there : WhenKept empty (Kept (Ended Done) ∷ opened) after
done_where_all_is_there = record {
  allowed = tt;
  grounds = (inl refl, (inl refl, (inl refl, (inl refl, (inl refl, (inl refl, (inl refl, tt)))))));
  let_go = off_at_5 after (standings.Opened first_order) (Ended Done) refl refl;
}

pub not_done_with_a_byte_missing : WhenKept empty (Kept (Ended Done) ∷ opened) before → ⊥
not_done_with_a_byte_missing kept =
    let written : IsWritten (Holds [] before 5) first_order.updates = kept.grounds in
    omega (arith, ap (λ (byte : Option ℕ). or_none byte) (unlost 5 1 8 _ _ written.1.1.1.1.1.1.0))

pub not_done_where_unlocked : WhenKept empty (Kept (Ended Done) ∷ opened) (world_with false 0x77 0x55 0x00 0xAB) → ⊥
not_done_where_unlocked kept =
    let written : IsWritten (Holds [] (world_with false 0x77 0x55 0x00 0xAB) 5) first_order.updates = kept.grounds in
    omega (arith, ap (λ (byte : Option ℕ). or_none byte) (unlost 5 1 2 _ _ written.0))

pub not_done_where_enabled : WhenKept empty (Kept (Ended Done) ∷ opened) (world_with true 0x77 0xFF 0x00 0xAB) → ⊥
not_done_where_enabled kept = let is : true ≡ false = kept.let_go 5 refl refl in cc

-- whichever location was read: a unit that answers to a read isn't enabled
pub doubt_where_not_enabled : WhenKept empty (Kept (Ended Doubt) ∷ opened) before
doubt_where_not_enabled = record {
  allowed = tt;
  grounds = (0x00, 0x77, inl refl);
  let_go = off_at_5 before (standings.Opened first_order) (Ended Doubt) refl refl;
}

pub not_doubt_where_enabled : WhenKept empty (Kept (Ended Doubt) ∷ opened) enabled_world → ⊥
not_doubt_where_enabled kept = let is : true ≡ false = kept.let_go 5 refl refl in cc

pub not_doubt_without_the_unit : WhenKept empty (Kept (Ended Doubt) ∷ opened) (λ address. None) → ⊥
not_doubt_without_the_unit kept =
    let none : None ≡ Some kept.grounds.1 = unlost 5 1 kept.grounds.0 _ _ kept.grounds.2 in cc

-- a unit that is left may be enabled
pub left_where_enabled : WhenKept empty (Kept (Ended DoubtOpen) ∷ opened) enabled_world
left_where_enabled = record { allowed = tt; grounds = tt; let_go = λ unit named gone. cc }

pub closed_where_not_enabled : WhenKept left_open (Kept (Closed 5) ∷ []) before
closed_where_not_enabled = record {
  allowed = refl;
  grounds = (0x00, 0x77, inl refl);
  let_go = off_at_5 before (standings.Left 5) (Closed 5) refl refl;
}

pub not_closed_where_enabled : WhenKept left_open (Kept (Closed 5) ∷ []) enabled_world → ⊥
not_closed_where_enabled kept = let is : true ≡ false = kept.let_go 5 refl refl in cc

pub not_closed_without_the_unit : WhenKept left_open (Kept (Closed 5) ∷ []) (λ address. None) → ⊥
not_closed_without_the_unit kept =
    let none : None ≡ Some kept.grounds.1 = unlost 5 1 kept.grounds.0 _ _ kept.grounds.2 in cc

pub not_closed_where_none_is_left : WhenKept empty (Kept (Closed 5) ∷ []) before → ⊥
not_closed_where_none_is_left kept = kept.allowed

-- The effect of a happening on a world: keeping a record does nothing

pub changed_by_a_loss_of_power : Moves enabled_world (Powered 5) enabled_world → ⊥
changed_by_a_loss_of_power loses = let off : true ≡ false = loses.there.off in cc

pub not_changed_by_a_record : Moves before (Kept (Opened 5)) enabled_world → ⊥
not_changed_by_a_record moves = let same : true ≡ false = ap (λ (now : World). is_enabled now 5) moves in cc

-- The units that have lost their power at a moment of a trace

pub fits_after_a_loss_of_power : Fits unlocked_world [] (5 ∷ []) before
    → FitsAt unlocked_world [] empty (Powered 5 ∷ []) before
fits_after_a_loss_of_power fits = fits

pub fits_after_a_loss_before : Fits unlocked_world [] (5 ∷ []) before → FitsAt unlocked_world (5 ∷ []) empty [] before
fits_after_a_loss_before fits = fits

pub not_without_a_loss_of_power : FitsAt unlocked_world [] empty [] before → ⊥
not_without_a_loss_of_power fits = by fits where
  by : Fits unlocked_world [] [] before → ⊥
  by fits = omega (arith, ap (λ (byte : Option ℕ). or_none byte) (unlost 5 1 2 _ _ (lock_of_5 (λ is. is) fits)))

pub not_after_a_loss_of_another : FitsAt unlocked_world [] empty (Powered 6 ∷ []) before → ⊥
not_after_a_loss_of_another fits = of_the_world fits where
  by : MayRelock (IsAmong (6 ∷ []) 5) 1 2 (Some 0x55) (Some 0xFF) → ⊥
  by (inl is) = omega (arith, ap (λ (byte : Option ℕ). or_none byte) is)
  by (inr (inl is, above, lock, now)) = omega (arith, is)
  by (inr (inr none, above, lock, now)) = none

  of_the_world : Fits unlocked_world [] (6 ∷ []) before → ⊥
  of_the_world fits = by (fits.locks 5 1 (omega arith) (λ one is. is))

-- The lock byte of a bank from 2 up: as it was, or FFh since its unit lost its power

abbrev above_with : ℕ → World
above_with lock =
    alone (record (unit_with false 0x77 0xFF 0x00 0xFF) {
      memory = λ bank location. if (bank == 2) && (location == 2) then Some lock else None;
    })

pub locked_above_since_it_lost_its_power : MayRelock (IsAmong (5 ∷ []) 5) 2 2 (Some 0x55) (Some 0xFF)
locked_above_since_it_lost_its_power = inr (inl refl, omega arith, refl, refl)

pub not_locked_above_by_anything_else : Fits (above_with 0x55) records_done [] (above_with 0xFF) → ⊥
not_locked_above_by_anything_else fits =
    omega (
      arith,
      ap (λ (byte : Option ℕ). or_none byte)
          (unlost 5 2 2 _ _ (fits.locks 5 2 (omega arith) (λ one. omega (arith, one)))),
    )

pub no_other_byte_above : Fits (above_with 0x55) records_done (5 ∷ []) (above_with 0x33) → ⊥
no_other_byte_above fits = by (fits.locks 5 2 (omega arith) (λ one. omega (arith, one))) where
  by : MayRelock (IsAmong (5 ∷ []) 5) 2 2 (Some 0x55) (Some 0x33) → ⊥
  by (inl is) = omega (arith, ap (λ (byte : Option ℕ). or_none byte) is)
  by (inr relocks) = omega (arith, ap (λ (byte : Option ℕ). or_none byte) relocks.3)

-- The indicator byte: as it was, unless its unit was opened

abbrev indicator_with : ℕ → World
indicator_with indicator =
    alone (record (unit_with false 0x77 0xFF 0x00 0xFF) {
      memory = λ bank location. if (bank == 1) && (location == 1) then Some indicator else None;
    })

pub no_other_indicator_when_begun : Fits (indicator_with 0xFF) records_begun [] (indicator_with 0xA5) → ⊥
no_other_indicator_when_begun fits =
    omega (arith, ap (λ (byte : Option ℕ). or_none byte) (fits.indicators 5 (λ opened. opened)))
