-- Exchanges that end in the four that select a location, or in a checked read.
use Rattle.std.proofs.Common.{◌⊎◌, inl, inr, ◌≡◌, refl, sym, ap, subst, slice_get, ◌∙◌, ℕ, zero, suc, List, [], ◌∷◌, ◌++◌, Option, Some, None}
use Rattle.std.specs.Option.{option_to_list}
use Rattle.dali_frame.specs.declared.forward.Frame.{Frame}
use Rattle.dali_frame.specs.declared.forward.Frame.TheVariants.{Dtr0, Dtr1, AskDtr0, AskDtr1, Read}
use Rattle.dali_bus.specs.Hears.{up}
use Rattle.dali_write.specs.Exchanges.{Exchange}
use Rattle.dali_write.specs.declared.request.Wish.TheVariants.{Nothing, Exactly, Anything}
use Rattle.dali_write.specs.Worlds.{Selects}
use Rattle.dali_write.specs.Reads.{EndsInRead}
use Rattle.dali_write.specs.Requests.{block, moved_on}
use Rattle.dali_write.specs.Requests.{read_answer}
use Rattle.dali_write.specs.Tries.{bytes_of}
use Rattle.dali_write.specs.Blocks.{Tells}
use Rattle.dali_write.proofs.ShapeLemmas.{Got, questioned, selected}
use Rattle.dali_write.proofs.BlockShapeLemmas.{AllReads, WasBlock}
use Rattle.dali_write.proofs.BlockBytesLemmas.{ToldBlock, told_block}

-- a frame that was sent, with its answer
abbrev pub exchange : Frame → Option ℕ → Exchange
exchange frame answer = record { frame = frame; answer = answer }

-- four exchanges that select
pub selects_by : (unit location : ℕ) (one three : Option ℕ) (older : List Exchange)
    → Selects unit location (exchange (AskDtr0 unit) (Some location) ∷ exchange (Dtr0 location) three
    ∷ exchange (AskDtr1 unit) (Some 1) ∷ exchange (Dtr1 1) one ∷ older)
selects_by unit location one three older = (
  _ ∷ _ ∷ _ ∷ _ ∷ [],
  older,
  refl,
  inr (Exactly location, refl, (Nothing, tt, (Exactly 1, refl, (Nothing, tt, refl)))),
)

-- two that do
pub moved_by : (unit location : ℕ) (older : List Exchange)
    → Selects unit location (exchange (AskDtr0 unit) (Some location) ∷ exchange (AskDtr1 unit) (Some 1) ∷ older)
moved_by unit location older =
    (_ ∷ _ ∷ [], older, refl, inl (Exactly location, refl, (Exactly 1, refl, refl)))

-- seven that are a checked read
pub reads_by : (unit location byte : ℕ) (one three : Option ℕ) (older : List Exchange) → EndsInRead unit location byte
    (exchange (AskDtr1 unit) (Some 1) ∷ exchange (AskDtr0 unit) (Some (up location))
    ∷ exchange (Read unit) (Some byte) ∷ exchange (AskDtr0 unit) (Some location) ∷ exchange (Dtr0 location) three
    ∷ exchange (AskDtr1 unit) (Some 1) ∷ exchange (Dtr1 1) one ∷ older)
reads_by unit location byte one three older = (
  _ ∷ _ ∷ _ ∷ _ ∷ _ ∷ _ ∷ _ ∷ [],
  older,
  refl,
  record {
    block = block location 1;
    bytes = byte ∷ [];
    read = (
      (
        Exactly 1,
        refl,
        (
          Exactly (up location),
          refl,
          (Anything, refl, (Exactly location, refl, (Nothing, tt, (Exactly 1, refl, (Nothing, tt, refl))))),
        ),
      ),
      refl,
    );
    index = 0;
    place = refl;
    there = refl;
  },
)

-- and the other way round: the newest asks DTR0, and the next one asks DTR1, or sets DTR0 after one that asks DTR1,
-- which comes after one that sets it
pub record EndsSelecting (unit location : ℕ) (told : List Exchange) : Type 0 where
  pub x : Exchange
  pub next : Exchange
  pub older : List Exchange
  pub is : told ≡ x ∷ next ∷ older
  pub got : Got x (AskDtr0 unit) (Exactly location)
  pub asks : Got next (AskDtr1 unit) (Exactly 1)
      ⊎ (Got next (Dtr0 location) Nothing × ((y z : Exchange) × (before : List Exchange) × (older ≡ y ∷ z ∷ before)
      × Got y (AskDtr1 unit) (Exactly 1) × Got z (Dtr1 1) Nothing))

pub ends_selecting : (unit location : ℕ) (told : List Exchange) → Selects unit location told
    → EndsSelecting unit location told
ends_selecting unit location told (newer, older, parts, inl try) =
    let s = questioned unit location newer try in
    record {
      x = s.x2;
      next = s.x1;
      older = older;
      is = parts ∙ ap (λ (newer : List Exchange). newer ++ older) s.is;
      got = s.got2;
      asks = inl s.got1;
    }
ends_selecting unit location told (newer, older, parts, inr try) =
    let s = selected unit location newer try in
    record {
      x = s.x4;
      next = s.x3;
      older = s.x2 ∷ s.x1 ∷ older;
      is = parts ∙ ap (λ (newer : List Exchange). newer ++ older) s.is;
      got = s.got4;
      asks = inr (s.got3, (s.x2, s.x1, older, refl, s.got2, s.got1));
    }

-- so the second one asks DTR1, or the fourth one sets it
pub fourth_is : (unit location : ℕ) (x y z w : Exchange) (told : List Exchange)
    → Selects unit location (x ∷ y ∷ z ∷ w ∷ told) → (y.frame ≡ AskDtr1 unit) ⊎ (w.frame ≡ Dtr1 1)
fourth_is unit location x y z w told selects =
    let ends = ends_selecting unit location (x ∷ y ∷ z ∷ w ∷ told) selects in
    let is = ends.is in elim ends.asks [
      | inl asks ↦ let same : y ≡ ends.next = cc in inl (ap (λ (e : Exchange). e.frame) same ∙ asks.frame_is)
      | inr (sets, (third, fourth, before, older_is, asks, first)) ↦
          let same : w ≡ fourth = cc in inr (ap (λ (e : Exchange). e.frame) same ∙ first.frame_is)
    ]

-- the three newest exchanges of a read that told a byte
pub record EndsReading (unit : ℕ) (told : List Exchange) : Type 0 where
  pub x5 : Exchange
  pub x6 : Exchange
  pub x7 : Exchange
  pub older : List Exchange
  pub is : told ≡ x7 ∷ x6 ∷ x5 ∷ older
  pub read5 : x5.frame ≡ Read unit
  pub ask6 : x6.frame ≡ AskDtr0 unit
  pub got7 : Got x7 (AskDtr1 unit) (Exactly 1)

pub ends_reading : (unit location byte : ℕ) (told : List Exchange) → EndsInRead unit location byte told
    → EndsReading unit told
ends_reading unit location byte told ends =
    by s.each s.all (subst (λ (l : List ℕ). slice_get l t.index ≡ Some byte) (sym b.bytes_are) t.there)
    (ends.2 ∙ ap (λ (newer : List Exchange). newer ++ ends.1) s.is) where
      t : Tells unit location byte ends.0
      t = ends.3

      b : ToldBlock unit t.block t.bytes ends.0
      b = told_block unit t.block t.bytes ends.0 t.read

      s : WasBlock unit t.block ends.0
      s = b.was

      by : (each : List Exchange) → AllReads unit each → slice_get (bytes_of each) t.index ≡ Some byte
          → told ≡ ((s.y2 ∷ s.y1 ∷ []) ++ (each ++ s.older)) ++ ends.1 → EndsReading unit told
      by [] all there is = cc
      by (x5 ∷ each) all there is =
          record {
            x5 = x5;
            x6 = s.y1;
            x7 = s.y2;
            older = (each ++ s.older) ++ ends.1;
            is = is;
            read5 = all.0;
            ask6 = s.got1.frame_is;
            got7 = s.got2;
          }

no_ask : (unit to : ℕ) → Read unit ≡ AskDtr0 to → ⊥
no_ask unit to e = cc

past : (answer : Option ℕ) (index : ℕ) {byte : ℕ} → slice_get (option_to_list answer) (suc index) ≡ Some byte → ⊥
past None index there = cc
past (Some v) index there = cc

-- if DTR0 was asked back just before the newest read, its block is of one location, the one that was read
pub one_location : (unit location byte : ℕ) (x7 x6 x5 x4 : Exchange) (told : List Exchange) (to : ℕ)
    → x4.frame ≡ AskDtr0 to → EndsInRead unit location byte (x7 ∷ x6 ∷ x5 ∷ x4 ∷ told)
    → Got x4 (AskDtr0 unit) (Exactly location)
one_location unit location byte x7 x6 x5 x4 told to asks ends =
    by s.each s.all (subst (λ (l : List ℕ). slice_get l t.index ≡ Some byte) (sym b.bytes_are) t.there)
    (ends.2 ∙ ap (λ (newer : List Exchange). newer ++ ends.1)
    (s.is ∙ ap (λ (l : List Exchange). (s.y2 ∷ s.y1 ∷ []) ++ (s.each ++ l)) b.four.is)) where
      t : Tells unit location byte ends.0
      t = ends.3

      b : ToldBlock unit t.block t.bytes ends.0
      b = told_block unit t.block t.bytes ends.0 t.read

      s : WasBlock unit t.block ends.0
      s = b.was

      front : List Exchange
      front = b.four.x4 ∷ b.four.x3 ∷ b.four.x2 ∷ b.four.x1 ∷ []

      at_first : (x : Exchange) (each : List Exchange) → x.frame ≡ Read unit
          → slice_get (bytes_of (x ∷ [])) t.index ≡ Some byte → t.block.location ≡ location
      at_first x each read there = by_index t.index t.place
          (subst (λ (f : Frame). slice_get (read_answer f x.answer) t.index ≡ Some byte) read there) where
            by_index : (index : ℕ) → location ≡ moved_on t.block.location index
                → slice_get (option_to_list x.answer) index ≡ Some byte → t.block.location ≡ location
            by_index zero place there = sym place
            by_index (suc index) place there = absurd (past x.answer index there)

      by : (each : List Exchange) → AllReads unit each → slice_get (bytes_of each) t.index ≡ Some byte
          → x7 ∷ x6 ∷ x5 ∷ x4 ∷ told ≡ ((s.y2 ∷ s.y1 ∷ []) ++ (each ++ front)) ++ ends.1
          → Got x4 (AskDtr0 unit) (Exactly location)
      by [] all there is = cc
      by (x ∷ []) all there is =
          let same : b.four.x4 ≡ x4 = cc in
          let four = subst (λ (e : Exchange). Got e (AskDtr0 unit) (Exactly t.block.location)) same b.four.got4 in
          subst (λ (l : ℕ). Got x4 (AskDtr0 unit) (Exactly l)) (at_first x [] all.0 there) four
      by (x ∷ y ∷ each) all there is =
          let same : y ≡ x4 = cc in
          absurd (no_ask unit to (sym all.2.0 ∙ (ap (λ (e : Exchange). e.frame) same ∙ asks)))
