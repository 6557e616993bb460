-- On the simulated bus a reading that loses little comes to its end, and its unit stays as it was.
use Rattle.std.proofs.Common.{◌≡◌, ◌≢◌, inl, inr, refl, sym, ap, subst, ◌∙◌, ℕ, ◌+◌, ◌≤◌, List, [], ◌∷◌, ◌++◌}
use Rattle.std.proofs.Common.{length, Option, Some, None, arith}
use Rattle.std.specs.Prelude.{slice_get}
use Rattle.std.specs.List.{AllByRecursion}
use Rattle.dali_gear.specs.Faults.{IsBank}
use Rattle.dali_gear.specs.UnitState.{BankState, UnitState}
use Rattle.dali_gear.specs.SimState.{SimState, SimStep}
use Rattle.dali_write.specs.Exchanges.{Exchange}
use Rattle.dali_write.specs.declared.block.Block.{Block}
use Rattle.dali_write.specs.Blocks.{Fits}
use Rattle.dali_write.specs.Losses.{IsAlone, HasFrom}
use Rattle.dali_write.specs.Misses.{misses_in}
use Rattle.dali_write.specs.Plans.{read_block}
use Rattle.dali_write.proofs.DriftLemmas.{drifts_alone}
use Rattle.dali_write.proofs.KeptLemmas.{parts}
use Rattle.dali_write.proofs.MissLemmas.{access_ends}
use Rattle.dali_write.proofs.PlaceLemmas.{moved_is}
use Rattle.dali_write.proofs.RunLemmas.{Leads, losses_along, UnrefusedAlong, SparedAlong, MissesAlong}
use Rattle.dali_write.proofs.SuccessLemmas.{read_bytes, block_few, byte_there, alone_bank, starts_whole}
use Rattle.dali_read.specs.Places.{first_block}
use Rattle.dali_read.specs.Readings.{Course, Done, bytes_in, told_in, InTurn, IsRead, Ends}
use Rattle.dali_read.specs.Shown.{Holds}
use Rattle.dali_read.proofs.InBlockLemmas.{BlockShows, Follows, Tells, place_is, was_read, in_turn_tells, read_shows}
use Rattle.dali_read.proofs.TurnLemmas.{turn_frames}

-- the first of these bytes, if there is one, is that of 00h
abbrev pub HeadIs : List ℕ → List ℕ → Type 0
HeadIs bank bytes = (last : ℕ) → slice_get bytes 0 ≡ Some last → Holds bank 0 last

-- the course begins with 00h, has these places, and has no block past the bank's end
pub record Stays (course : Course) (place : ℕ → Option ℕ) (bank : List ℕ) : Type 0 where
  pub begins : course [] ≡ Some first_block
  pub first : place 0 ≡ Some 0x00
  pub follows : Follows course place
  pub within : (bytes : List ℕ) (next : Block) → HeadIs bank bytes → course bytes ≡ Some next
      → next.location + next.count ≤ length bank

-- the blocks tell what the bank has
abbrev pub AllHold : List ℕ → List Done → Type 0
AllHold bank done = AllByRecursion (BlockShows (Holds bank)) done

-- blocks that were read one after another
pub record Went (at : ℕ) (unit : UnitState) (done : List Done) (misses lost : ℕ) (last : SimState) : Type 0 where
  pub now : UnitState
  pub alone : IsAlone at now last.units
  pub same : now.bank1 ≡ unit.bank1
  pub few : misses ≤ lost
  pub holds : AllHold unit.bank1.bytes done

-- the block that is next is within the bank
next_within : (course : Course) (place : ℕ → Option ℕ) (at : ℕ) (bank : BankState) (done : List Done) (next : Block)
    → Stays course place bank.bytes → InTurn at course done → AllHold bank.bytes done → Fits next
    → course (bytes_in done) ≡ Some next → HasFrom bank next.location next.count
next_within course place at bank done next stays turn holds fits is =
    grind (arith, in_turn_tells (Holds bank.bytes) place, moved_is, byte_there)

pub went : (loses : ℕ → Type 0) (at : ℕ) (course : Course) (place : ℕ → Option ℕ) (unit : UnitState)
    (done : List Done) (first last : SimState) (run : Leads SimStep loses (told_in done) first last)
    → (loses at → ⊥) → IsAlone at unit first.units → Stays course place unit.bank1.bytes
    → UnrefusedAlong loses (told_in done) first last run → InTurn at course done
    → Went at unit done (misses_in (told_in done)) (losses_along at loses (told_in done) first last run) last
went loses at course place unit [] first last run keeps_power alone stays kind turn =
    record {
      now = unit;
      alone = drifts_alone loses at unit first last keeps_power run alone;
      same = refl;
      few = omega arith;
      holds = tt;
    }
went loses at course place unit (newest ∷ done) first last run keeps_power alone stays kind turn =
    let two = parts loses at (newest.told ++ told_in done) newest.told (told_in done) first last run refl in
    let kinds = two.kinds kind in
    let w = went loses at course place unit done first two.mid two.before keeps_power alone stays kinds.0 turn.0 in
    let there =
    next_within course place at unit.bank1 done newest.block stays turn.0 w.holds turn.1 turn.2 in
    let can : HasFrom w.now.bank1 newest.block.location newest.block.count = rw w.same there in
    let read =
    read_bytes loses at newest.block newest.bytes w.now newest.told two.mid last two.after keeps_power w.alone turn.3 in
    let here =
    block_few loses at newest.block w.now (Some newest.bytes) newest.told two.mid last two.after keeps_power w.alone
    can kinds.1 (inl turn.3) in
    let misses =
    access_ends at (read_block newest.block) (Some newest.bytes) newest.told (told_in done) (inl turn.3) tt in
    let older = w.few in
    let sum = two.sum in
    record {
      now = read.0;
      alone = read.1;
      same = read.2 ∙ w.same;
      few = omega arith;
      holds = (
        λ index byte is.
            let place_is =
            place_is at newest.block newest.bytes turn.3.0 turn.1
            (was_read at newest.block newest.bytes newest.told turn.3) index byte is in
            rw (← place_is, ← w.same) (read.3.1 index byte is),
        w.holds,
      );
    }

-- a reading that loses little comes to its end, and tells the bytes of the bank
pub ends_read : (loses : ℕ → Type 0) (at : ℕ) (course : Course) (place : ℕ → Option ℕ) (unit : UnitState)
    (outcome : Option (List ℕ)) (told : List Exchange) (first last : SimState)
    (spared : SparedAlong loses at unit told first last)
    → Stays course place unit.bank1.bytes → Ends at course outcome told
    → (bytes : List ℕ) × (outcome ≡ Some bytes) × IsRead at course bytes told
    × Tells (Holds unit.bank1.bytes) place bytes × MissesAlong loses at unit told first last spared
ends_read loses at course place unit (Some bytes) told first last spared stays read =
    let w =
    subst (λ (t : List Exchange). (r : Leads SimStep loses t first last) → UnrefusedAlong loses t first last r
    → Went at unit read.done (misses_in t) (losses_along at loses t first last r) last) read.told_are
    (λ run kind.
    went loses at course place unit read.done first last run spared.keeps_power spared.alone stays kind read.in_turn)
    spared.run spared.kind in (
      bytes,
      refl,
      read,
      read_shows (Holds unit.bank1.bytes) place at course bytes told stays.follows read w.holds,
      w.few,
    )
ends_read loses at course place unit None told first last spared stays silent =
    let two = parts loses at told silent.missed (told_in silent.done) first last spared.run (sym silent.told_are) in
    let kinds = two.kinds spared.kind in
    let w =
    went loses at course place unit silent.done first two.mid two.before spared.keeps_power spared.alone stays kinds.0
    silent.in_turn in
    let there =
    next_within course place at unit.bank1 silent.done silent.block stays silent.in_turn w.holds silent.fits
    silent.next in
    let can : HasFrom w.now.bank1 silent.block.location silent.block.count = rw w.same there in
    let many =
    block_few loses at silent.block w.now None silent.missed two.mid last two.after spared.keeps_power w.alone can
    kinds.1 (inr (refl, silent.fails)) in
    let few = spared.few in
    let sum = two.sum in
    absurd (omega arith)

-- a reading that came to its end sent a frame, and so its unit has a bank
nothing_told : (at : ℕ) (course : Course) (outcome : Option (List ℕ)) (told : List Exchange)
    → course [] ≡ Some first_block → Ends at course outcome told → told ≢ []
nothing_told at course (Some bytes) told begins read none = by read.done read.in_turn refl
  where
    by : (done : List Done) → InTurn at course done → read.done ≡ done → ⊥
    by [] turn is =
        let over : Some first_block ≡ None =
        sym begins ∙ (ap (λ (d : List Done). course (bytes_in d)) (sym is) ∙ (ap course read.bytes_are ∙ read.over)) in
        cc
    by (newest ∷ done) turn is =
        let least = (turn_frames at course (newest ∷ done) turn).0 in
        let nothing = ap (λ (t : List Exchange). length t) (ap told_in (sym is) ∙ (read.told_are ∙ none)) in
        omega arith
nothing_told at course None told begins silent none = grind (arith, access_ends)

pub has_bank : (loses : ℕ → Type 0) (at : ℕ) (course : Course) (unit : UnitState) (outcome : Option (List ℕ))
    (told : List Exchange) (first last : SimState)
    → SparedAlong loses at unit told first last → course [] ≡ Some first_block → Ends at course outcome told
    → IsBank unit.bank1.bytes
has_bank loses at course unit outcome told first last spared begins ends =
    grind (arith, alone_bank, starts_whole, nothing_told)
