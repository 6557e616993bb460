-- A small unit at a frame: its possible effects and some that aren't possible, and the same of a bus with two.
use Rattle.std.proofs.lemmas.Bool.{eqb-true}
use Rattle.std.proofs.Common.{◌≡◌, ℕ, Bool, true, false, inl, inr, Option, Some, None, refl, sym, subst, arith, ap, ◌∙◌}
use Rattle.std.proofs.Common.{◌==◌, ◌&&◌, ◌⊎◌, ◌<◌, IsSome, is_some, if◌then◌else◌}
use Rattle.dali_frame.specs.declared.forward.Frame.TheVariants.{Dtr0, Dtr1, Write, WriteSilent, Enable, AskDtr0}
use Rattle.dali_frame.specs.declared.forward.Frame.TheVariants.{AskDtr1, Read, Other}
use Rattle.dali_bus.specs.World.{Gear, Memory, World, stored}
use Rattle.dali_bus.specs.Hears.{Hears, Obeys, IsIndicator, MayIndicate, Stores, PassesBy, PassesLeftOut, MayEnd, selected}
use Rattle.dali_bus.specs.Carry.{Carry, MayHear}
use Rattle.dali_bus.specs.Power.{PowersUp, LosesPower}
use Rattle.dali_bus.specs.WorkedFrames.{at_the_end, small, moved, written, pair, started, with_locks, two_places}
use Rattle.dali_bus.specs.WorkedFrames.{by_a_counter, indicating, indicated}
use Rattle.dali_bus.proofs.ByteLemmas.{same_byte}

-- what may be

counter_passes : {enabled : Bool} → PassesLeftOut (by_a_counter enabled) (by_a_counter enabled)
counter_passes = (omega arith, refl, (4, inr refl, refl, refl))

small_stores : Stores 9 (small true) (written true 3)
small_stores = (refl, refl, (stored two_places 1 3 9, (λ bank location. inl refl), refl))

pub stores : Hears 5 (small true) (Write 9) (Some 9) (written true 3)
stores = record { obeyed = written true 3; obeys = inl (small_stores, refl); ends = inl refl }

pub refuses : Hears 5 (small true) (Write 9) None (moved true)
refuses = record { obeyed = moved true; obeys = inr (inl (4, inl refl, refl, refl)); ends = inl refl }

pub refuses_and_stays : Hears 5 (small true) (Write 9) None (small true)
refuses_and_stays = record { obeyed = small true; obeys = inr (inl (3, inr refl, refl, refl)); ends = inl refl }

pub is_enabled_by_one : Hears 5 (small false) (Enable 5) None (small true)
is_enabled_by_one = record { obeyed = small true; obeys = inl (refl, refl, refl); ends = inl refl }

pub stays_unenabled : Hears 5 (small false) (Enable 5) None (small false)
stays_unenabled = record { obeyed = small false; obeys = inr (refl, refl); ends = inl refl }

pub reads : Hears 5 (small true) (Read 5) (Some 7) (moved false)
reads = record { obeyed = moved false; obeys = inl (refl, inl (refl, refl, refl)); ends = inl refl }

pub reads_nothing : Hears 5 (moved true) (Read 5) None (moved true)
reads_nothing =
    record { obeyed = moved true; obeys = inl (refl, inr (inl (refl, (4, inr refl, refl, refl)))); ends = inl refl }

pub stays_at_ffh : Hears 5 at_the_end (Write 9) None at_the_end
stays_at_ffh = record { obeyed = at_the_end; obeys = inr (inl (0xFF, inl refl, refl, refl)); ends = inl refl }

pub tells_and_ends : Hears 5 (small true) (AskDtr0 5) (Some 3) (small false)
tells_and_ends = record { obeyed = small true; obeys = inl (refl, (refl, refl)); ends = inr refl }

pub stores_silently : Hears 5 (small true) (WriteSilent 9) None (written true 3)
stores_silently = record { obeyed = written true 3; obeys = (inl small_stores, refl); ends = inl refl }

pub refuses_silently : Hears 5 (small true) (WriteSilent 9) None (moved true)
refuses_silently = record { obeyed = moved true; obeys = (inr (4, inl refl, refl, refl), refl); ends = inl refl }

-- A counter in bank 205 counts on by itself: the places that the memory has are as they were, whatever is read and
-- written there.
pub counter_is_seven : Hears 5 (by_a_counter true) (Read 5) (Some 7) (by_a_counter false)
counter_is_seven =
    record { obeyed = by_a_counter true; obeys = inl (refl, inr (inr counter_passes)); ends = inr refl }

pub counter_is_eight : Hears 5 (by_a_counter false) (Read 5) (Some 8) (by_a_counter false)
counter_is_eight =
    record { obeyed = by_a_counter false; obeys = inl (refl, inr (inr counter_passes)); ends = inl refl }

pub counter_is_written : Hears 5 (by_a_counter true) (Write 0) (Some 1) (by_a_counter true)
counter_is_written =
    record { obeyed = by_a_counter true; obeys = inr (inr (refl, counter_passes)); ends = inl refl }

-- nothing is known of what a frame that isn't named does
pub does_anything_with_others : (word : ℕ) (answer : Option ℕ) (old new : Gear) → Hears 5 old (Other word) answer new
does_anything_with_others word answer old new = record { obeyed = new; obeys = tt; ends = inl refl }

-- A unit may set its indicator byte by itself when it stores a byte

pub sets_its_indicator : Hears 5 (indicating 0xFF) (Write 9) (Some 9) (indicated 0xA5)
sets_its_indicator = record {
  obeyed = indicated 0xA5;
  obeys = inl ((refl, refl, ((indicated 0xA5).memory, may, refl)), refl);
  ends = inl refl;
} where
  may : MayIndicate (stored (indicating 0xFF).memory 1 3 9) (indicated 0xA5).memory
  may bank location = by (bank == 1) (location == 1) (location == 3) refl refl refl where
    by : (one first third : Bool) → (bank == 1) ≡ one → (location == 1) ≡ first → (location == 3) ≡ third
        → ((if one && first then Some 0xA5 else (if one && third then Some 9 else two_places bank location))
        ≡ (if one && third then Some 9 else (if one && first then Some 0xFF else two_places bank location)))
        ⊎ (IsIndicator bank location
        × (is_some (if one && first then Some 0xA5 else (if one && third then Some 9 else two_places bank location))
        ≡ is_some (if one && third then Some 9 else (if one && first then Some 0xFF else two_places bank location))))
    by true true true b f t = absurd (omega (arith, eqb-true location 1 f, eqb-true location 3 t))
    by true true false b f t = inr ((eqb-true bank 1 b, eqb-true location 1 f), refl)
    by true false true b f t = inl refl
    by true false false b f t = inl refl
    by false first third b f t = inl refl

-- and not when it stores none, nor makes the place
pub no_indicator_set_unenabled : (answer : Option ℕ)
    → Hears 5 (record (indicating 0xFF) { enabled = false }) (Write 9) answer
    (record (indicating 0xA5) { enabled = false; dtr0 = 4 }) → ⊥
no_indicator_set_unenabled answer h = by h.obeyed h.obeys h.ends where
  before : Gear
  before = record (indicating 0xFF) { enabled = false }

  after : Gear
  after = record (indicating 0xA5) { enabled = false; dtr0 = 4 }

  kept : (obeyed : Gear) → MayEnd obeyed after → obeyed.memory 1 1 ≡ Some 0xFF → ⊥
  kept obeyed (inl same) is = omega (arith, same_byte 0xA5 0xFF (ap (λ (g : Gear). g.memory 1 1) same ∙ is))
  kept obeyed (inr same) is = omega (arith, same_byte 0xA5 0xFF (ap (λ (g : Gear). g.memory 1 1) same ∙ is))

  by : (obeyed : Gear) → Obeys 5 before (Write 9) answer obeyed → MayEnd obeyed after → ⊥
  by obeyed (inl did) ends = let on : false ≡ true = did.0.0 in cc
  by obeyed (inr (inl passed)) ends = kept obeyed ends (ap (λ (g : Gear). g.memory 1 1) passed.2)
  by obeyed (inr (inr (on, aside))) ends = let never : false ≡ true = on in cc

pub no_indicator_comes : MayIndicate two_places (stored two_places 1 1 0xA5) → ⊥
no_indicator_comes may = by (may 1 1) where
  by : ((stored two_places 1 1 0xA5) 1 1 ≡ two_places 1 1) ⊎ (IsIndicator 1 1 × (true ≡ false)) → ⊥
  by (inl same) = cc
  by (inr (is, there)) = cc

pub no_other_place_set : MayIndicate two_places (stored two_places 1 3 0xA5) → ⊥
no_other_place_set may = by (may 1 3) where
  by : ((stored two_places 1 3 0xA5) 1 3 ≡ two_places 1 3) ⊎ (IsIndicator 1 3 × (true ≡ true)) → ⊥
  by (inl same) = omega (arith, same_byte 0xA5 7 same)
  by (inr (is, there)) = omega (arith, is.1)

pub no_indicator_of_bank_2 : IsIndicator 2 1 → ⊥
no_indicator_of_bank_2 is = omega (arith, is.0)

-- what may not

memory_kept : (old new : Gear) → MayEnd old new → new.memory ≡ old.memory
memory_kept old new (inl same) = ap (λ (g : Gear). g.memory) same
memory_kept old new (inr same) = ap (λ (g : Gear). g.memory) same

byte_kept : (old new : Gear) → MayEnd old new → new.memory 1 3 ≡ old.memory 1 3
byte_kept old new ends = ap (λ (m : Memory). m 1 3) (memory_kept old new ends)

lock_kept : (old new : Gear) → MayEnd old new → new.memory 1 2 ≡ old.memory 1 2
lock_kept old new ends = ap (λ (m : Memory). m 1 2) (memory_kept old new ends)

stored_at_3 : (obeyed : Gear) → Stores 9 (small true) obeyed → obeyed.memory 1 3 ≡ Some 9
stored_at_3 obeyed (on, some, (memory, may, same)) = ap (λ (g : Gear). g.memory 1 3) same ∙ (elim (may 1 3) [
  | inl is ↦ is
  | inr (indicator, there) ↦ absurd (omega (arith, indicator.1))
])

pub not_elsewhere : Hears 5 (small true) (Write 9) (Some 9) (written true 2) → ⊥
not_elsewhere h = by h.obeyed h.obeys h.ends where
  by : (obeyed : Gear) → (Obeys 5 (small true) (Write 9) (Some 9) obeyed) → MayEnd obeyed (written true 2) → ⊥
  by obeyed (inl did) ends =
      omega (arith, same_byte 7 9 (byte_kept obeyed (written true 2) ends ∙ stored_at_3 obeyed did.0))
  by obeyed (inr (inl passed)) ends = let none : Some 9 ≡ None = passed.3 in cc
  by obeyed (inr (inr (on, aside))) ends = absurd (omega (arith, aside.0))

pub not_another_answer : Hears 5 (small true) (Write 9) (Some 8) (written true 3) → ⊥
not_another_answer h = by h.obeys where
  by : Obeys 5 (small true) (Write 9) (Some 8) h.obeyed → ⊥
  by (inl did) = omega (arith, same_byte 8 9 did.1)
  by (inr (inl passed)) = let none : Some 8 ≡ None = passed.3 in cc
  by (inr (inr (on, aside))) = absurd (omega (arith, aside.0))

pub not_unenabled : (answer : Option ℕ) → Hears 5 (small false) (Write 9) answer (written false 3) → ⊥
not_unenabled answer h = by h.obeyed h.obeys h.ends where
  by : (obeyed : Gear) → Obeys 5 (small false) (Write 9) answer obeyed → MayEnd obeyed (written false 3) → ⊥
  by obeyed (inl did) ends = let on : false ≡ true = did.0.0 in cc
  by obeyed (inr (inl passed)) ends =
      omega (arith, same_byte 9 7 (byte_kept obeyed (written false 3) ends ∙ ap (λ (g : Gear). g.memory 1 3) passed.2))
  by obeyed (inr (inr (on, aside))) ends = let never : false ≡ true = on in cc

pub silent_not_answered : (byte : ℕ) (new : Gear) → Hears 5 (small true) (WriteSilent 9) (Some byte) new → ⊥
silent_not_answered byte new h = let none : Some byte ≡ None = h.obeys.1 in cc

pub silent_not_elsewhere : Hears 5 (small true) (WriteSilent 9) None (written true 2) → ⊥
silent_not_elsewhere h = by h.obeyed h.obeys.0 h.ends where
  by : (obeyed : Gear)
      → Stores 9 (small true) obeyed ⊎ PassesBy (small true) None obeyed
      → MayEnd obeyed (written true 2) → ⊥
  by obeyed (inl did) ends =
      omega (arith, same_byte 7 9 (byte_kept obeyed (written true 2) ends ∙ stored_at_3 obeyed did))
  by obeyed (inr (dtr0, goes, is, none)) ends =
      omega (
        arith,
        same_byte 0x09 0x55 (lock_kept obeyed (written true 2) ends
            ∙ ap (λ (g : Gear). g.memory 1 2) is),
      )

pub silent_not_unenabled : Hears 5 (small false) (WriteSilent 9) None (written false 3) → ⊥
silent_not_unenabled h = by h.obeyed h.obeys.0 h.ends where
  by : (obeyed : Gear)
      → Stores 9 (small false) obeyed ⊎ PassesBy (small false) None obeyed
      → MayEnd obeyed (written false 3) → ⊥
  by obeyed (inl did) ends = let on : false ≡ true = did.0 in cc
  by obeyed (inr (dtr0, goes, is, none)) ends =
      omega (arith, same_byte 9 7 (byte_kept obeyed (written false 3) ends ∙ ap (λ (g : Gear). g.memory 1 3) is))

off : (old new : Gear) → old.enabled ≡ false → MayEnd old new → new.enabled ≡ false
off old new is (inl same) = ap (λ (g : Gear). g.enabled) same ∙ is
off old new is (inr same) = ap (λ (g : Gear). g.enabled) same

pub not_by_another : Hears 5 (small false) (Enable 6) None (small true) → ⊥
not_by_another h = by h.obeyed h.obeys h.ends where
  by : (obeyed : Gear) → Obeys 5 (small false) (Enable 6) None obeyed → MayEnd obeyed (small true) → ⊥
  by obeyed (inl did) ends = omega (arith, did.0)
  by obeyed (inr ignored) ends =
      let on : true ≡ false = off obeyed (small true) (ap (λ (g : Gear). g.enabled) ignored.0) ends in cc

pub not_still_enabled : Hears 5 (small true) (Read 5) (Some 7) (moved true) → ⊥
not_still_enabled h = by h.obeyed h.obeys h.ends where
  by : (obeyed : Gear) → Obeys 5 (small true) (Read 5) (Some 7) obeyed → MayEnd obeyed (moved true) → ⊥
  by obeyed (inl (mine, inl did)) ends =
      let on : true ≡ false = off obeyed (moved true) (ap (λ (g : Gear). g.enabled) did.2) ends in cc
  by obeyed (inl (mine, inr (inl nothing))) ends = let none : Some 7 ≡ None = nothing.1.3 in cc
  by obeyed (inl (mine, inr (inr aside))) ends = absurd (omega (arith, aside.0))
  by obeyed (inr (others, ignored)) ends = others refl

pub not_from_nowhere : (new : Gear) → Hears 5 (moved true) (Read 5) (Some 7) new → ⊥
not_from_nowhere new h = by h.obeys where
  by : Obeys 5 (moved true) (Read 5) (Some 7) h.obeyed → ⊥
  by (inl (mine, inl did)) = let there : false ≡ true = did.0 in cc
  by (inl (mine, inr (inl nothing))) = let none : Some 7 ≡ None = nothing.1.3 in cc
  by (inl (mine, inr (inr aside))) = absurd (omega (arith, aside.0))
  by (inr (others, ignored)) = let none : Some 7 ≡ None = ignored.1 in cc

-- Nothing else counts on by itself: not a place of bank 0 or 1, nor one that the memory tells of. A unit that isn't
-- write-enabled answers no write, and what is done at a counter is done at no other place.
no_read_aside : (old new obeyed : Gear) (told : ℕ) → IsSome (selected old) ⊎ (old.dtr1 < 2)
    → (selected old ≡ Some told → ⊥) → Obeys 5 old (Read 5) (Some told) obeyed → ⊥
no_read_aside old new obeyed told known other (inl (mine, inl did)) = other (sym did.1)
no_read_aside old new obeyed told known other (inl (mine, inr (inl nothing))) =
    let none : Some told ≡ None = nothing.1.3 in cc
no_read_aside old new obeyed told (inl some) other (inl (mine, inr (inr aside))) =
    let both : true ≡ false = sym some ∙ aside.1 in cc
no_read_aside old new obeyed told (inr below) other (inl (mine, inr (inr aside))) =
    absurd (omega (arith, below, aside.0))
no_read_aside old new obeyed told known other (inr (others, ignored)) = others refl

pub no_counter_in_bank_0 : (new : Gear) → Hears 5 (record (by_a_counter true) { dtr1 = 0 }) (Read 5) (Some 7) new → ⊥
no_counter_in_bank_0 new h =
    no_read_aside (record (by_a_counter true) { dtr1 = 0 }) new h.obeyed 7 (inr (omega arith)) (λ e. cc) h.obeys

pub no_counter_in_bank_1 : (new : Gear) → Hears 5 (small true) (Read 5) (Some 8) new → ⊥
no_counter_in_bank_1 new h =
    no_read_aside (small true) new h.obeyed 8 (inr (omega arith)) (λ e. omega (arith, same_byte 7 8 e)) h.obeys

pub nothing_counts_on_in_bank_1 : (answer : Option ℕ)
    → Hears 5 (small true) (Read 5) answer (record (moved false) { memory = stored two_places 1 3 8 }) → ⊥
nothing_counts_on_in_bank_1 answer h = by h.obeyed h.obeys h.ends where
  counted : Gear
  counted = record (moved false) { memory = stored two_places 1 3 8 }

  changed : (obeyed : Gear) → obeyed.memory 1 3 ≡ Some 7 → MayEnd obeyed counted → ⊥
  changed obeyed same ends = omega (arith, same_byte 8 7 (byte_kept obeyed counted ends ∙ same))

  by : (obeyed : Gear) → Obeys 5 (small true) (Read 5) answer obeyed → MayEnd obeyed counted → ⊥
  by obeyed (inl (mine, inl did)) ends = changed obeyed (ap (λ (g : Gear). g.memory 1 3) did.2) ends
  by obeyed (inl (mine, inr (inl nothing))) ends =
      changed obeyed (ap (λ (g : Gear). g.memory 1 3) nothing.1.2) ends
  by obeyed (inl (mine, inr (inr aside))) ends = changed obeyed (ap (λ (g : Gear). g.memory 1 3) aside.2.2) ends
  by obeyed (inr (others, ignored)) ends = others refl

pub no_other_byte_than_told : (new : Gear)
    → Hears 5 (record (with_locks 0x55 0xFF) { dtr1 = 2; dtr0 = 2 }) (Read 5) (Some 0x55) new → ⊥
no_other_byte_than_told new h =
    no_read_aside (record (with_locks 0x55 0xFF) { dtr1 = 2; dtr0 = 2 }) new h.obeyed 0x55 (inl refl)
    (λ e. omega (arith, same_byte 0xFF 0x55 e)) h.obeys

pub no_counter_written_unenabled : (new : Gear) → Hears 5 (by_a_counter false) (Write 0) (Some 1) new → ⊥
no_counter_written_unenabled new h = by h.obeys where
  by : Obeys 5 (by_a_counter false) (Write 0) (Some 1) h.obeyed → ⊥
  by (inl did) = let on : false ≡ true = did.0.0 in cc
  by (inr (inl passed)) = let none : Some 1 ≡ None = passed.3 in cc
  by (inr (inr (on, aside))) = let never : false ≡ true = on in cc

pub nothing_written_beside_a_counter : (answer : Option ℕ)
    → Hears 5 (by_a_counter true) (Write 9) answer (record (by_a_counter true) { memory = stored two_places 1 3 9 }) → ⊥
nothing_written_beside_a_counter answer h = by h.obeyed h.obeys h.ends where
  beside : Gear
  beside = record (by_a_counter true) { memory = stored two_places 1 3 9 }

  by : (obeyed : Gear) → Obeys 5 (by_a_counter true) (Write 9) answer obeyed → MayEnd obeyed beside → ⊥
  by obeyed (inl did) ends = let none : false ≡ true = did.0.1 in cc
  by obeyed (inr (inl passed)) ends =
      omega (arith, same_byte 9 7 (byte_kept obeyed beside ends ∙ ap (λ (g : Gear). g.memory 1 3) passed.2))
  by obeyed (inr (inr (on, aside))) ends =
      omega (arith, same_byte 9 7 (byte_kept obeyed beside ends ∙ ap (λ (g : Gear). g.memory 1 3) aside.2.2))

pub not_for_another : (new : Gear) → Hears 6 (small true) (AskDtr0 5) (Some 3) new → ⊥
not_for_another new h = by h.obeys where
  by : Obeys 6 (small true) (AskDtr0 5) (Some 3) h.obeyed → ⊥
  by (inl (mine, told)) = omega (arith, mine)
  by (inr (others, ignored)) = let none : Some 3 ≡ None = ignored.1 in cc

pub not_another_register : (new : Gear) → Hears 5 (small true) (AskDtr1 5) (Some 3) new → ⊥
not_another_register new h = by h.obeys where
  by : Obeys 5 (small true) (AskDtr1 5) (Some 3) h.obeyed → ⊥
  by (inl (mine, told)) = omega (arith, same_byte 3 1 told.1)
  by (inr (others, ignored)) = let none : Some 3 ≡ None = ignored.1 in cc

dtr0_kept : (old new : Gear) → MayEnd old new → new.dtr0 ≡ old.dtr0
dtr0_kept old new (inl same) = ap (λ (g : Gear). g.dtr0) same
dtr0_kept old new (inr same) = ap (λ (g : Gear). g.dtr0) same

pub not_from_the_start_again : Hears 5 at_the_end (Write 9) None (record at_the_end { dtr0 = 0 }) → ⊥
not_from_the_start_again h = by h.obeyed h.obeys h.ends where
  by : (obeyed : Gear) → Obeys 5 at_the_end (Write 9) None obeyed → MayEnd obeyed (record at_the_end { dtr0 = 0 }) → ⊥
  by obeyed (inl did) ends = let none : None ≡ Some 9 = did.1 in cc
  by obeyed (inr (inr (on, aside))) ends = absurd (omega (arith, aside.0))
  by obeyed (inr (inl (dtr0, inl goes, is, none))) ends =
      omega (arith, goes, dtr0_kept obeyed (record at_the_end { dtr0 = 0 }) ends ∙ ap (λ (g : Gear). g.dtr0) is)
  by obeyed (inr (inl (dtr0, inr stays, is, none))) ends =
      omega (arith, stays, dtr0_kept obeyed (record at_the_end { dtr0 = 0 }) ends ∙ ap (λ (g : Gear). g.dtr0) is)

pub not_dtr0_by_dtr1 : Hears 5 (small true) (Dtr1 4) None (moved true) → ⊥
not_dtr0_by_dtr1 h = omega (arith, dtr0_kept h.obeyed (moved true) h.ends ∙ ap (λ (g : Gear). g.dtr0) h.obeys.0)

-- A bus with two units

apart : (P : ℕ → Option Gear → Option Gear → Type 0) (a b c d : Gear) → P 5 (Some a) (Some c) → P 6 (Some b) (Some d)
    → ((address : ℕ) → P address None None) → (address : ℕ) → P address (pair a b address) (pair c d address)
apart P a b c d five six none address = by (address == 5) (address == 6) refl refl where
  by : (is_five is_six : Bool) → (address == 5) ≡ is_five → (address == 6) ≡ is_six
      → P address (pair a b address) (pair c d address)
  by true is_six e f =
      let here : address ≡ 5 = eqb-true address 5 e in
      subst (λ (at : ℕ). P at (pair a b at) (pair c d at)) (sym here) five
  by false true e f =
      let here : address ≡ 6 = eqb-true address 6 f in
      subst (λ (at : ℕ). P at (pair a b at) (pair c d at)) (sym here) six
  by false false e f = rw (e, f) (none address)

-- a frame that one unit hears and the other doesn't
pub lost_to_one : Carry (pair (small true) (small true)) (Dtr0 4) None (pair (moved true) (small true))
lost_to_one = record {
  units =
      apart (λ address old new. MayHear address old (Dtr0 4) new) (small true) (small true) (moved true) (small true)
      (inr (None, record { obeyed = moved true; obeys = (refl, refl); ends = inl refl })) (inl refl) (λ address. tt);
  answers = tt;
}

-- if both answer, the answer of one may come back
pub one_of_two : Carry (pair (small true) (small true)) (Write 9) (Some 9) (pair (written true 3) (written true 3))
one_of_two = record {
  units =
      apart (λ address old new. MayHear address old (Write 9) new) (small true) (small true) (written true 3)
      (written true 3)
      (inr (Some 9, stores))
      (inr (Some 9, record { obeyed = written true 3; obeys = inl (small_stores, refl); ends = inl refl }))
      (λ address. tt);
  answers = record { address = 5; before = small true; after = written true 3; was = refl; is = refl; hears = stores };
}

-- no answer comes that no unit gave
pub not_by_none : (new : World) → Carry (pair (small true) (small true)) (Write 9) (Some 8) new → ⊥
not_by_none new carried = by carried.answers.hears.obeyed carried.answers.hears.obeys where
  before : Gear
  before = carried.answers.before

  is_small : (here there : Bool) → (if here then Some (small true) else (if there then Some (small true) else None))
      ≡ Some before → before ≡ small true
  is_small true there is = cc
  is_small false true is = cc
  is_small false false is = cc

  by : (obeyed : Gear) → Obeys carried.answers.address before (Write 9) (Some 8) obeyed → ⊥
  by obeyed (inl did) = omega (arith, same_byte 8 9 did.1)
  by obeyed (inr (inl passed)) = let none : Some 8 ≡ None = passed.3 in cc
  by obeyed (inr (inr (on, aside))) =
      let at = carried.answers.address in
      let one = ap (λ (g : Gear). g.dtr1) (is_small (at == 5) (at == 6) carried.answers.was) in
      omega (arith, aside.0, one)

-- no unit comes
pub not_a_third : (gear : Gear) (new : World) → new 7 ≡ Some gear
    → Carry (pair (small true) (small true)) (Write 9) None new → ⊥
not_a_third gear new there carried =
    subst (λ (unit : Option Gear). MayHear 7 None (Write 9) unit) there (carried.units 7)

-- nor by a frame that isn't named
pub no_unit_by_others : (word : ℕ) (answer : Option ℕ) (gear : Gear) (new : World) → new 7 ≡ Some gear
    → Carry (pair (small true) (small true)) (Other word) answer new → ⊥
no_unit_by_others word answer gear new there carried =
    subst (λ (unit : Option Gear). MayHear 7 None (Other word) unit) there (carried.units 7)

-- A loss of power

elsewhere : (memory : Memory) (byte bank location : ℕ) → (bank ≡ 1 → location ≡ 2 → ⊥)
    → stored memory 1 2 byte bank location ≡ memory bank location
elsewhere memory byte bank location never = by (bank == 1) (location == 2) refl refl
  where
    by : (one two : Bool) → (bank == 1) ≡ one → (location == 2) ≡ two
        → (if one && two then Some byte else memory bank location) ≡ memory bank location
    by true true e f = absurd (never (eqb-true bank 1 e) (eqb-true location 2 f))
    by true false e f = refl
    by false two e f = refl

pub powers_up : PowersUp (small true) started
powers_up = record {
  dtr0 = refl;
  dtr1 = refl;
  dtr2 = refl;
  off = refl;
  lock = refl;
  other_locks = λ bank above. inr (elsewhere two_places 0xFF bank 2 (λ one two. omega (arith, above, one)));
  rest = λ bank location free. elsewhere two_places 0xFF bank location (λ one two. elim free [
    | inl none ↦ omega (arith, none, one)
    | inr other ↦ other two
  ]);
}

pub not_with_a_register : PowersUp (small true) (record started { dtr1 = 1 }) → ⊥
not_with_a_register powers = omega (arith, powers.dtr1)

pub not_still_on : PowersUp (small true) (record started { enabled = true }) → ⊥
not_still_on powers = let on : true ≡ false = powers.off in cc

pub not_unlocked_again : PowersUp (small true) (record started { memory = two_places }) → ⊥
not_unlocked_again powers = omega (arith, same_byte 0x55 0xFF powers.lock)

pub not_with_another_byte : PowersUp (small true) (record started { memory = stored started.memory 1 3 9 }) → ⊥
not_with_another_byte powers = omega (arith, same_byte 9 7 (powers.rest 1 3 (inr (λ two. omega (arith, two)))))

pub bank_0_stays : PowersUp (with_locks 0x55 0x55) (with_locks 0xFF 0x55) → ⊥
bank_0_stays powers = omega (arith, same_byte 0xFF 0x55 (powers.rest 0 2 (inl refl)))

-- the lock byte of bank 2 comes up as FFh, as the simulated one does, or stays, and as nothing else
pub bank_2_may_stay : PowersUp (with_locks 0x55 0x55) (with_locks 0x55 0x55)
bank_2_may_stay = record {
  dtr0 = refl;
  dtr1 = refl;
  dtr2 = refl;
  off = refl;
  lock = refl;
  other_locks = λ bank above. inr refl;
  rest = λ bank location free. refl;
}

pub bank_2_not_as_00h : PowersUp (with_locks 0x55 0x55) (with_locks 0x55 0x00) → ⊥
bank_2_not_as_00h powers = elim (powers.other_locks 2 (omega arith)) [
  | inl is ↦ omega (arith, same_byte 0x00 0xFF is)
  | inr same ↦ omega (arith, same_byte 0x00 0x55 same)
]

-- the unit at the address alone
pub not_both_at_once : LosesPower (pair (small true) (small true)) 5 (pair started started) → ⊥
not_both_at_once loses =
    let same : Some started ≡ Some (small true) = loses.others 6 (λ six. omega (arith, six)) in
    let dtr0 : 0 ≡ 3 = ap (λ (o : Option Gear). dtr0_of o) same in omega (arith, dtr0) where
      dtr0_of : Option Gear → ℕ
      dtr0_of None = 0
      dtr0_of (Some gear) = gear.dtr0

pub none_goes : LosesPower (pair (small true) (small true)) 5 (λ address. None) → ⊥
none_goes loses = loses.there
