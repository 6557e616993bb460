-- Other bytes than have to be read, among exchanges: a row that told others has one more.
use Rattle.std.proofs.Common.{length, nat_lt, ◌<◌, if◌then◌else◌, ◌≡◌, ◌≢◌, inl, inr, refl, sym, ap, subst, ◌∙◌, ℕ, suc, ◌+◌, ◌≤◌, Bool}
use Rattle.std.proofs.Common.{true, false, ◌==◌, ◌&&◌, ◌||◌, not, List, [], ◌∷◌, ◌++◌, append_assoc, Some, arith}
use Rattle.std.specs.Prelude.{slice_get}
use Rattle.std.specs.List.{list_any}
use Rattle.std.specs.Str.{bytes_eq}
use Rattle.std.proofs.lemmas.Bool.{eq-eqb, ne_eqb, eqb-true, eqb-false, lt-ltb}
use Rattle.dali_bus.specs.Hears.{up}
use Rattle.dali_frame.specs.declared.forward.Frame.{Frame}
use Rattle.dali_frame.specs.declared.forward.Frame.TheVariants.{Read}
use Rattle.dali_write.specs.Exchanges.{Exchange}
use Rattle.dali_write.specs.declared.access.Access.TheVariants.{ReadFrom}
use Rattle.dali_write.specs.Requests.{block, moved_on, access_requests}
use Rattle.dali_write.specs.Plans.{most_once}
use Rattle.dali_write.specs.Tries.{Succeeds, bytes_of}
use Rattle.dali_write.specs.Touches.{Has}
use Rattle.dali_write.specs.Misses.{location_after, location_in, is_other, newest_reads, has_other, is_read_again, others_in}
use Rattle.dali_write.proofs.PlaceLemmas.{moved_next}
use Rattle.dali_write.proofs.RowLemmas.{AllInRow}
use Rattle.dali_write.proofs.BlockShapeLemmas.{AllReads}
use Rattle.dali_write.proofs.BlockBytesLemmas.{some_byte, bytes_next, bytes_count, one_of, front_of, told_block, block_count}

-- those of older exchanges are among them
pub more_others : (wanted : List (ℕ × ℕ)) (newer older : List Exchange)
    → others_in wanted older ≤ others_in wanted (newer ++ older)
more_others wanted [] older = omega arith
more_others wanted (x ∷ newer) older = let rest = more_others wanted newer older in omega arith

-- a byte that isn't the one of its place
any_other : (wanted : List (ℕ × ℕ)) (location own byte : ℕ) → Has wanted location own → byte ≢ own
    → list_any (λ update. (update.0 == location) && not (update.1 == byte)) wanted ≡ true
any_other [] location own byte has other = absurd has
any_other (update ∷ wanted) location own byte (inl here) other =
    let differs : update.1 ≢ byte = λ same. other (sym same ∙ here.1) in
    rw (eq-eqb update.0 location here.0, ne_eqb update.1 byte differs) refl
any_other (update ∷ wanted) location own byte (inr later) other =
    by ((update.0 == location) && not (update.1 == byte)) (any_other wanted location own byte later other)
  where
    by : (b : Bool) → list_any (λ update. (update.0 == location) && not (update.1 == byte)) wanted ≡ true
        → ◌||◌ b (list_any (λ update. (update.0 == location) && not (update.1 == byte)) wanted) ≡ true
    by true rest = refl
    by false rest = rest

-- each read moves DTR0 on by one
reads_move : (unit location : ℕ) (each older : List Exchange) → AllReads unit each → location_in older ≡ location
    → location_in (each ++ older) ≡ moved_on location (length each)
reads_move unit location [] older all at = at
reads_move unit location (x ∷ each) older all at =
    ap (λ (f : Frame). location_after f (location_in (each ++ older))) all.0
    ∙ ap up (reads_move unit location each older all.2 at)

-- a row of which no read is left counts once
counted_on : (b c : Bool) (few all : ℕ) → (if c then 1 else 0) + few ≤ all
    → (if b then 1 else 0) + few ≤ (if b && not c then 1 else 0) + all
counted_on true true few all le = omega (arith, le)
counted_on true false few all le = omega arith
counted_on false c few all le = omega arith

counted : (wanted : List (ℕ × ℕ)) (each base : List Exchange) → is_read_again wanted base ≡ false
    → (if is_read_again wanted (each ++ base) then 1 else 0) + others_in wanted base ≤ others_in wanted (each ++ base)
counted wanted [] base none = rw none (omega arith)
counted wanted (x ∷ each) base none =
    counted_on (is_read_again wanted (x ∷ (each ++ base))) (is_read_again wanted (each ++ base)) (others_in wanted base)
    (others_in wanted (each ++ base)) (counted wanted each base none)

-- reads after another frame
reads_many : (unit : ℕ) (each base : List Exchange) → AllReads unit each → newest_reads base ≡ 0
    → newest_reads (each ++ base) ≡ length each
reads_many unit [] base all none = none
reads_many unit (x ∷ each) base all none = rw all.0 (ap suc (reads_many unit each base all.2 none))

either : (b : Bool) → ◌||◌ b true ≡ true
either true = refl
either false = refl

-- and one of them did
found_other : (wanted : List (ℕ × ℕ)) (unit location : ℕ) (each base : List Exchange) (index byte own : ℕ)
    → AllReads unit each → location_in base ≡ location → slice_get (bytes_of each) index ≡ Some byte
    → Has wanted (moved_on location index) own → byte ≢ own
    → has_other wanted (each ++ base) ≡ true
found_other wanted unit location [] base index byte own all at is has other = cc
found_other wanted unit location (x ∷ each) base index byte own all at is has other =
    let new = some_byte x.answer all.1 in
    let told : slice_get (bytes_of each ++ new.0 ∷ []) index ≡ Some byte =
    subst (λ (l : List ℕ). slice_get l index ≡ Some byte) (bytes_next unit x each new.0 all.0 new.1) is in
    elim (one_of (bytes_of each) new.0 index byte told) [
      | inl earlier ↦
          let rest = found_other wanted unit location each base index byte own all.2 at earlier has other in
          rw (all.0, rest) (either (is_other wanted (Read unit) (location_in (each ++ base)) x.answer))
      | inr now ↦
          let count : index ≡ length each = now.0 ∙ bytes_count unit each all.2 in
          let place : location_in (each ++ base) ≡ moved_on location index =
          reads_move unit location each base all.2 at ∙ ap (moved_on location) (sym count) in
          rw (all.0, new.1 ∙ ap Some (sym now.1), place, any_other wanted (moved_on location index) own byte has other)
          refl
    ]

-- reads of which one told another byte than its place has
reads_other : (wanted : List (ℕ × ℕ)) (unit location : ℕ) (each older : List Exchange) (index byte own : ℕ)
    → AllReads unit each → most_once < length each → newest_reads older ≡ 0
    → location_in older ≡ location → slice_get (bytes_of each) index ≡ Some byte
    → Has wanted (moved_on location index) own → byte ≢ own
    → 1 + others_in wanted older ≤ others_in wanted (each ++ older)
reads_other wanted unit location each older index byte own all many none at is has other =
    let told = found_other wanted unit location each older index byte own all at is has other in
    let long : nat_lt most_once (newest_reads (each ++ older)) ≡ true =
    rw (reads_many unit each older all none) (lt-ltb most_once (length each) many) in
    let again : is_read_again wanted (each ++ older) ≡ true = rw (long, told) refl in
    let before : is_read_again wanted older ≡ false = rw none refl in
    subst (λ (b : Bool). (if b then 1 else 0) + others_in wanted older ≤ others_in wanted (each ++ older)) again
    (counted wanted each older before)

-- bytes that aren't those of a row have one that isn't
differs_at : (P : ℕ → ℕ → Type 0) (at : ℕ) (row read : List ℕ) → AllInRow P at row
    → length read ≡ length row → bytes_eq read row ≡ false
    → (index : ℕ) × (byte : ℕ) × (own : ℕ) × (slice_get read index ≡ Some byte) × P (moved_on at index) own
    × (byte ≢ own)
differs_at P at [] [] all long differs = cc
differs_at P at [] (byte ∷ read) all long differs = cc
differs_at P at (own ∷ row) [] all long differs = cc
differs_at P at (own ∷ row) (byte ∷ read) all long differs =
    by (byte == own) refl (λ later. differs_at P (up at) row read all.1 (omega (arith, long)) later)
  where
    by : (b : Bool) → (byte == own) ≡ b
        → (bytes_eq read row ≡ false
        → (index : ℕ) × (it : ℕ) × (his : ℕ) × (slice_get read index ≡ Some it) × P (moved_on (up at) index) his
        × (it ≢ his))
        → (index : ℕ) × (it : ℕ) × (his : ℕ) × (slice_get (byte ∷ read) index ≡ Some it) × P (moved_on at index) his
        × (it ≢ his)
    by true same rest =
        let later = rest (grind (arith, eqb-true, eqb-false)) in (
          suc later.0,
          later.1,
          later.2,
          later.3,
          subst (λ (there : ℕ). P there later.2) (moved_next at later.0) later.4,
          later.5,
        )
    by false other rest = (0, byte, own, refl, all.0, λ same. grind (arith, eq-eqb))

-- a read of a row that told other bytes
pub told_other : (wanted : List (ℕ × ℕ)) (unit location : ℕ) (bytes read : List ℕ) (told older : List Exchange)
    → Succeeds (access_requests unit (ReadFrom (block location (length bytes)))) (Some read) told
    → AllInRow (Has wanted) location bytes → bytes_eq read bytes ≡ false → most_once < length bytes
    → 1 + others_in wanted older ≤ others_in wanted (told ++ older)
told_other wanted unit location bytes read told older (tried, missed, count, parts, try, outcome, few, are) all
    differs many =
    let row = block location (length bytes) in
    let is : bytes_of tried ≡ read = cc in
    let t = told_block unit row read tried (try, is) in
    let base : List Exchange = front_of t.four ++ (missed ++ older) in
    let at : location_in base ≡ location = rw (t.four.got4.frame_is, t.four.got3.frame_is) refl in
    let first : newest_reads base ≡ 0 = rw t.four.got4.frame_is refl in
    let reads : most_once < length t.was.each = omega (arith, many, t.was.count_is) in
    let long = block_count unit row read tried (try, is) in
    let it = differs_at (Has wanted) location bytes read all long differs in
    let one =
    reads_other wanted unit location t.was.each base it.0 it.1 it.2 t.was.all reads first at (rw t.bytes_are it.3) it.4
    it.5 in
    let two = more_others wanted (front_of t.four) (missed ++ older) in
    let three = more_others wanted missed older in
    let last : List Exchange = t.was.y2 ∷ t.was.y1 ∷ [] in
    let four = more_others wanted last (t.was.each ++ base) in
    let whole : told ++ older ≡ last ++ (t.was.each ++ base) =
    ap (λ (l : List Exchange). l ++ older) parts ∙ append_assoc tried missed older
    ∙ (ap (λ (l : List Exchange). l ++ (missed ++ older)) t.whole
    ∙ (append_assoc last (t.was.each ++ front_of t.four) (missed ++ older)
    ∙ ap (λ (l : List Exchange). last ++ l) (append_assoc t.was.each (front_of t.four) (missed ++ older)))) in
    rw whole (omega arith)
