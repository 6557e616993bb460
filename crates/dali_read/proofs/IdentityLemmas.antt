-- The identity of a unit: its last location, and its GTIN and identification number.
use Rattle.std.proofs.Common.{◌≡◌, inl, inr, refl, sym, ap, subst, ◌∙◌, ℕ, zero, suc, ◌+◌, ◌<◌, ◌≤◌}
use Rattle.std.proofs.Common.{nat_lt, Bool, true, false, if◌then◌else◌, List, [], ◌∷◌, ◌++◌, length, Option, Some, None}
use Rattle.std.proofs.Common.{arith}
use Rattle.std.proofs.lemmas.Bool.{ltb-true, ltb-false, lt-ltb, le-ltb}
use Rattle.dali_gear.specs.Faults.{IsBank}
use Rattle.dali_gear.specs.UnitState.{UnitState}
use Rattle.dali_gear.specs.SimState.{SimState}
use Rattle.dali_write.specs.Exchanges.{Exchange}
use Rattle.dali_write.specs.declared.block.Block.{Block}
use Rattle.dali_write.specs.Requests.{block}
use Rattle.dali_write.proofs.RunLemmas.{SparedAlong, MissesAlong}
use Rattle.dali_read.specs.Places.{first_block, identity_course}
use Rattle.dali_read.specs.Readings.{Done, bytes_in, InTurn, IsRead, Ends}
use Rattle.dali_read.specs.Shown.{InBlock, ShowsIdentity, Holds}
use Rattle.dali_read.specs.Counts.{block_frames, identity_frames, AreSoMany}
use Rattle.dali_read.proofs.InBlockLemmas.{Tells, Follows, done_count, read_tells}
use Rattle.dali_read.proofs.TurnLemmas.{frames_of, turn_frames}
use Rattle.dali_read.proofs.SparedLemmas.{HeadIs, Stays, ends_read, has_bank}
use Rattle.dali_read.proofs.StaysLemmas.{first_within, names_last}

-- the location of each byte that is read
abbrev pub identity_place : ℕ → Option ℕ
identity_place zero = Some 0x00
identity_place (suc index) = Some (0x03 + index)

-- the second block, if the bank reaches it
reaches : (short : Bool) (mine this : Block) → (if short then None else Some mine) ≡ Some this
    → (short ≡ false) × (mine ≡ this)
reaches true mine this is = cc
reaches false mine this is = (refl, cc)

ends : (short : Bool) (mine : Block) → (if short then None else Some mine) ≡ None → short ≡ true
ends true mine is = refl
ends false mine is = cc

-- it holds of the places of this block
abbrev At : ℕ → Block → Type 0
At start this = (index : ℕ) → index < this.count → identity_place (start + index) ≡ Some (this.location + index)

first_at : At 0 first_block
first_at zero below = refl
first_at (suc index) below = absurd (omega arith)

second_at : At 1 (block 0x03 14)
second_at index below = let next : 1 + index ≡ suc index = omega arith in ap identity_place next

pub identity_follows : Follows identity_course identity_place
identity_follows [] this next =
    let same : first_block ≡ this = cc in subst (λ (b : Block). At 0 b) same first_at
identity_follows (last ∷ []) this next =
    subst (λ (b : Block). At 1 b) (reaches (nat_lt last 0x10) (block 0x03 14) this next).1 second_at
identity_follows (last ∷ byte ∷ more) this next = cc

-- what was read, and by how many frames, with no miss
abbrev IdentitySoFar : List ℕ → ℕ → Type 0
IdentitySoFar [] frames = frames ≡ 0
IdentitySoFar (last ∷ []) frames = frames ≡ block_frames 1
IdentitySoFar (last ∷ byte ∷ more) frames =
    (0x10 ≤ last) × (length more ≡ 13) × (frames ≡ identity_frames 0x10)

identity_step : (older newer : List ℕ) (frames : ℕ) (this : Block) → IdentitySoFar older frames
    → identity_course older ≡ Some this → length newer ≡ this.count
    → IdentitySoFar (older ++ newer) (block_frames this.count + frames)
identity_step [] newer frames this none next count = by newer one where
  one : length newer ≡ 1
  one = let same : first_block ≡ this = cc in count ∙ sym (ap (λ (b : Block). b.count) same)

  by : (bytes : List ℕ) → length bytes ≡ 1 → IdentitySoFar bytes (block_frames this.count + frames)
  by [] is = absurd (omega arith)
  by (byte ∷ []) is = let single = one in let here = count in let before = none in omega arith
  by (byte ∷ other ∷ more) is = absurd (omega arith)
identity_step (last ∷ []) newer frames this first next count = by newer many where
  second : (nat_lt last 0x10 ≡ false) × (block 0x03 14 ≡ this)
  second = reaches (nat_lt last 0x10) (block 0x03 14) this next

  many : length newer ≡ 14
  many = count ∙ sym (ap (λ (b : Block). b.count) second.1)

  by : (bytes : List ℕ) → length bytes ≡ 14 → IdentitySoFar (last ∷ bytes) (block_frames this.count + frames)
  by [] is = absurd (omega arith)
  by (byte ∷ more) is =
      let all = many in let here = count in let before = first in
      (ltb-false last 0x10 second.0, omega arith, omega arith)
identity_step (last ∷ byte ∷ more) newer frames this before next count = cc

identity_so_far : (unit : ℕ) (done : List Done) → InTurn unit identity_course done
    → IdentitySoFar (bytes_in done) (frames_of done)
identity_so_far unit [] turn = refl
identity_so_far unit (newest ∷ done) turn =
    identity_step (bytes_in done) newest.bytes (frames_of done) newest.block (identity_so_far unit done turn.0) turn.2
    (done_count unit newest.block newest.bytes newest.told turn.3)

-- of a whole reading
identity_whole : (told : List Exchange) (unit : ℕ) (bytes : List ℕ) (read : IsRead unit identity_course bytes told)
    → IdentitySoFar bytes (frames_of read.done)
identity_whole told unit bytes read =
    subst (λ (l : List ℕ). IdentitySoFar l (frames_of read.done)) read.bytes_are
    (identity_so_far unit read.done read.in_turn)

pub identity_shown : (shows : ℕ → ℕ → Type 0) (told : List Exchange) (unit : ℕ) (bytes : List ℕ)
    → IsRead unit identity_course bytes told → Tells shows identity_place bytes → ShowsIdentity shows bytes
identity_shown shows told unit [] read tells = let more = read.over in cc
identity_shown shows told unit (last ∷ []) read tells =
    record {
      last = last;
      more = [];
      bytes_are = refl;
      named = tells 0 0x00 last refl refl;
      reach = inl (ltb-true last 0x10 (ends (nat_lt last 0x10) (block 0x03 14) read.over), refl);
      more_are = λ index byte there. tells (suc index) (0x03 + index) byte there refl;
    }
identity_shown shows told unit (last ∷ byte ∷ more) read tells =
    let whole = identity_whole told unit (last ∷ byte ∷ more) read in
    record {
      last = last;
      more = byte ∷ more;
      bytes_are = refl;
      named = tells 0 0x00 last refl refl;
      reach = inr (whole.0, let count = whole.1 in omega arith);
      more_are = λ index told_byte there. tells (suc index) (0x03 + index) told_byte there refl;
    }

pub identity_read : (told : List Exchange) (unit : ℕ) (bytes : List ℕ) → IsRead unit identity_course bytes told
    → ShowsIdentity (InBlock told unit) bytes
identity_read told unit bytes read =
    identity_shown (InBlock told unit) told unit bytes read
    (read_tells identity_place unit identity_course bytes told identity_follows read)

-- How many frames

short_frames : (last : ℕ) → last < 0x10 → identity_frames last ≡ 7
short_frames last short = rw (lt-ltb last 0x10 short) refl

long_frames : (last : ℕ) → 0x10 ≤ last → identity_frames last ≡ 27
long_frames last long = rw (le-ltb last 0x10 long) refl

identity_frames_are : (told : List Exchange) (unit last : ℕ) (more : List ℕ)
    → (read : IsRead unit identity_course (last ∷ more) told) → frames_of read.done ≡ identity_frames last
identity_frames_are told unit last [] read =
    identity_whole told unit (last ∷ []) read
    ∙ sym (short_frames last (ltb-true last 0x10 (ends (nat_lt last 0x10) (block 0x03 14) read.over)))
identity_frames_are told unit last (byte ∷ more) read =
    let whole = identity_whole told unit (last ∷ byte ∷ more) read in whole.2 ∙ sym (long_frames last whole.0)

pub identity_took : (told : List Exchange) (unit last : ℕ) (more : List ℕ)
    → IsRead unit identity_course (last ∷ more) told → AreSoMany (identity_frames last) told
identity_took told unit last more read =
    subst (λ (frames : ℕ). AreSoMany frames told) (identity_frames_are told unit last more read)
    (subst (λ (t : List Exchange). AreSoMany (frames_of read.done) t) read.told_are
    (turn_frames unit identity_course read.done read.in_turn))

few_frames : (bytes : List ℕ) (frames : ℕ) (next : Block) → IdentitySoFar bytes frames
    → identity_course bytes ≡ Some next → block_frames next.count + frames ≤ identity_frames 0x10
few_frames [] frames next none is =
    let same : first_block ≡ next = cc in let one = ap (λ (b : Block). b.count) same in omega arith
few_frames (last ∷ []) frames next first is =
    let many = ap (λ (b : Block). b.count) (reaches (nat_lt last 0x10) (block 0x03 14) next is).1 in omega arith
few_frames (last ∷ byte ∷ more) frames next so is = cc

pub identity_few : (unit : ℕ) (done : List Done) (next : Block) → InTurn unit identity_course done
    → identity_course (bytes_in done) ≡ Some next
    → block_frames next.count + frames_of done ≤ identity_frames 0x10
identity_few unit done next turn is =
    few_frames (bytes_in done) (frames_of done) next (identity_so_far unit done turn) is

-- On the simulated bus

identity_stays : (bank : List ℕ) → IsBank bank → Stays identity_course identity_place bank
identity_stays bank is = record { begins = refl; first = refl; follows = identity_follows; within = by }
  where
    by : (bytes : List ℕ) (next : Block) → HeadIs bank bytes → identity_course bytes ≡ Some next
        → next.location + next.count ≤ length bank
    by [] next head here = first_within bank next is here
    by (last ∷ []) next head here =
        let long = names_last bank last is (head last refl) in
        let second = reaches (nat_lt last 0x10) (block 0x03 14) next here in
        let reach = ltb-false last 0x10 second.0 in
        subst (λ (b : Block). b.location + b.count ≤ length bank) second.1 (omega arith)
    by (last ∷ byte ∷ more) next head here = cc

pub identity_succeeds : (loses : ℕ → Type 0) (at : ℕ) (unit : UnitState) (outcome : Option (List ℕ))
    (told : List Exchange) (first last : SimState) (spared : SparedAlong loses at unit told first last)
    → Ends at identity_course outcome told
    → ((bytes : List ℕ) × (outcome ≡ Some bytes) × ShowsIdentity (Holds unit.bank1.bytes) bytes)
    × MissesAlong loses at unit told first last spared
identity_succeeds loses at unit outcome told first last spared ended =
    let bank = has_bank loses at identity_course unit outcome told first last spared refl ended in
    let all =
    ends_read loses at identity_course _ unit outcome told first last spared (identity_stays _ bank) ended in
    ((all.0, all.1, identity_shown (Holds unit.bank1.bytes) told at all.0 all.2 all.3), all.4)
