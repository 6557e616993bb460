-- The bytes that the exchanges of a block read told.
use Rattle.std.proofs.Common.{◌≡◌, ◌⊎◌, inl, inr, refl, sym, ap, ◌∙◌, ℕ, List, [], ◌∷◌, ◌++◌, length, length-append}
use Rattle.std.proofs.Common.{append-nil, append_assoc, get_or, Option, Some, None, arith}
use Rattle.std.specs.Prelude.{IsSome, slice_get}
use Rattle.std.proofs.lemmas.Option.{slice_get-get_or, slice_get_within, get_or_from_slice_get}
use Rattle.std.proofs.lemmas.List.{get_or_append_left}
use Rattle.std.proofs.Math.Seq.{get_or-append_seam}
use Rattle.std.proofs.Math.Nat.{eq-or-lt_of_le}
use Rattle.dali_frame.specs.declared.forward.Frame.{Frame}
use Rattle.dali_frame.specs.declared.forward.Frame.TheVariants.{AskDtr0, AskDtr1, Read}
use Rattle.dali_write.specs.Exchanges.{Exchange}
use Rattle.dali_write.proofs.ShapeLemmas.{Selected, selected}
use Rattle.dali_write.specs.declared.block.Block.{Block}
use Rattle.dali_write.specs.Requests.{read_answer}
use Rattle.dali_write.specs.Tries.{bytes_of}
use Rattle.dali_write.specs.Blocks.{IsBlockRead}
use Rattle.dali_write.proofs.BlockShapeLemmas.{AllReads, WasBlock, was_block}

-- a byte that is there
pub some_byte : (o : Option ℕ) → IsSome o → (byte : ℕ) × (o ≡ Some byte)
some_byte None some = cc
some_byte (Some byte) some = (byte, refl)

-- a read that was answered tells one more byte
pub bytes_next : (unit : ℕ) (x : Exchange) (each : List Exchange) (byte : ℕ) → x.frame ≡ Read unit
    → x.answer ≡ Some byte → bytes_of (x ∷ each) ≡ bytes_of each ++ byte ∷ []
bytes_next unit x each byte is answer = grind arith

-- each read tells one byte
pub bytes_count : (unit : ℕ) (each : List Exchange) → AllReads unit each → length (bytes_of each) ≡ length each
bytes_count unit [] all = refl
bytes_count unit (x ∷ each) all =
    grind (arith, some_byte x.answer all.1, bytes_count unit each all.2, bytes_next, length-append)

-- frames that read nothing tell no bytes
pub bytes_skip : (x : Exchange) (frame : Frame) (told : List Exchange) → x.frame ≡ frame
    → read_answer frame x.answer ≡ [] → bytes_of (x ∷ told) ≡ bytes_of told
bytes_skip x frame told is none = grind (arith, append-nil (bytes_of told))

-- the bytes of older exchanges come first
pub bytes_both : (newer older : List Exchange) → bytes_of (newer ++ older) ≡ bytes_of older ++ bytes_of newer
bytes_both [] older = sym (append-nil (bytes_of older))
bytes_both (x ∷ newer) older = grind (arith, bytes_both newer older, append_assoc)

-- one more byte, or one of those before it
pub one_of : (bytes : List ℕ) (new index byte : ℕ) → slice_get (bytes ++ new ∷ []) index ≡ Some byte
    → (slice_get bytes index ≡ Some byte) ⊎ ((index ≡ length bytes) × (byte ≡ new))
one_of bytes new index byte is =
    let long = length-append bytes (new ∷ []) in
    let below = slice_get_within (bytes ++ new ∷ []) index byte is in
    let value = get_or_from_slice_get (bytes ++ new ∷ []) index byte 0 is in
    elim (eq-or-lt_of_le {n = index} {m = length bytes} (omega arith)) [
      | inl same ↦
          inr (
            same,
            sym value ∙ (ap (λ (i : ℕ). get_or (bytes ++ new ∷ []) i 0) same ∙ get_or-append_seam bytes new [] 0),
          )
      | inr less ↦
          inl (slice_get-get_or bytes index 0 less
          ∙ ap Some (sym (get_or_append_left bytes (new ∷ []) 0 index less) ∙ value))
    ]

-- the frames that select a location
abbrev pub front_of : {unit location : ℕ} {tried : List Exchange} → Selected unit location tried → List Exchange
front_of four = four.x4 ∷ four.x3 ∷ four.x2 ∷ four.x1 ∷ []

-- the frames that select a location read nothing
pub front_silent : (unit location : ℕ) {tried : List Exchange} (four : Selected unit location tried)
    (each : List Exchange)
    → bytes_of (each ++ front_of four) ≡ bytes_of each
front_silent unit location four each = grind (arith, bytes_both, bytes_skip)

-- a block read that came to its end: its last two frames, its reads, which told the bytes, and its first four frames
pub record ToldBlock (unit : ℕ) (block : Block) (bytes : List ℕ) (tried : List Exchange) : Type 0 where
  pub was : WasBlock unit block tried
  pub four : Selected unit block.location was.older
  pub whole : tried ≡ (was.y2 ∷ was.y1 ∷ []) ++ (was.each ++ front_of four)
  pub bytes_are : bytes_of was.each ≡ bytes

pub told_block : (unit : ℕ) (block : Block) (bytes : List ℕ) (tried : List Exchange)
    → IsBlockRead unit block bytes tried → ToldBlock unit block bytes tried
told_block unit block bytes tried read =
    let s = was_block unit block tried read.0 in
    let four = selected unit block.location s.older s.selects in
    let front = front_of four in
    let back : List Exchange = s.y2 ∷ s.y1 ∷ [] in
    let whole : tried ≡ back ++ (s.each ++ front) =
    s.is ∙ ap (λ (t : List Exchange). back ++ (s.each ++ t)) four.is in
    record {
      was = s;
      four = four;
      whole = whole;
      bytes_are = sym (front_silent unit block.location four s.each)
          ∙ (sym (bytes_skip s.y1 (AskDtr0 unit) (s.each ++ front) s.got1.frame_is refl)
          ∙ (sym (bytes_skip s.y2 (AskDtr1 unit) (s.y1 ∷ (s.each ++ front)) s.got2.frame_is refl)
          ∙ (sym (ap bytes_of whole) ∙ read.1)));
    }

-- it tells a byte of each of its places
pub block_count : (unit : ℕ) (block : Block) (bytes : List ℕ) (tried : List Exchange)
    → IsBlockRead unit block bytes tried → length bytes ≡ block.count
block_count unit block bytes tried read = grind (arith, told_block unit block bytes tried read, bytes_count)
