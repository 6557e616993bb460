-- Lemmas on texts that are filled up with zeros.
use Rattle.std.proofs.Common.{◌≡◌, ◌≢◌, sym, ◌∙◌, get_or, length-append, ℕ, zero, suc, ◌-◌, ◌≤◌, List, [], ◌∷◌, ◌++◌}
use Rattle.std.proofs.Common.{length, take, drop, replicate, refl, ap, arith}
use Rattle.std.proofs.Math.Seq.{take-append_seam}
use Rattle.std.specs.List.{AllByRecursion}
use Rattle.dali_bank.specs.Spelling.{IsText, IsTextByte, ShowsText}
use Rattle.std.proofs.lemmas.List.{take-replicate}

-- the text over the front of `room` zeros, cut to the size
pub filled_up : (s : List ℕ) (size room : ℕ) → length s ≤ size → size ≤ room
    → take size (s ++ drop (length s) (replicate room 0)) ≡ s ++ replicate (size - length s) 0
filled_up [] size room few fits =
    let all : size - 0 ≡ size = omega arith in
    rw all (take-replicate size room 0 fits)
filled_up (byte ∷ s) zero room few fits = absurd (omega arith)
filled_up (byte ∷ s) (suc size) zero few fits = absurd (omega arith)
filled_up (byte ∷ s) (suc size) (suc room) few fits =
    let left : suc size - suc (length s) ≡ size - length s = omega arith in
    rw left (ap (λ t. byte ∷ t) (filled_up s size room (omega arith) (omega arith)))

-- the characters of a text, filled up with zeros, are its first bytes
pub text_shown : (s : List ℕ) (size : ℕ) (bytes : List ℕ) → IsText size s → bytes ≡ s ++ replicate (size - length s) 0
    → ShowsText size bytes (length s)
text_shown s size bytes is_text filled =
    let front : take (length s) bytes ≡ s =
    ap (take (length s)) filled ∙ take-append_seam s (replicate (size - length s) 0) in
    let long : length s ≤ length bytes = rw filled (simp length-append (omega arith)) in
    (long, (rw front is_text, rw front filled))

-- a text isn't FFh in every byte
pub text_not_unknown : (s : List ℕ) (size : ℕ) (bytes : List ℕ) → IsText size s
    → bytes ≡ s ++ replicate (size - length s) 0 → bytes ≢ replicate size 0xFF
text_not_unknown [] size bytes is_text filled same = absurd (omega (arith, is_text.some))
text_not_unknown (byte ∷ s) zero bytes is_text filled same = absurd (omega (arith, is_text.few))
text_not_unknown (byte ∷ s) (suc size) bytes is_text filled same =
    let first : byte ≡ 0xFF = ap (λ (b : List ℕ). get_or b 0 0) (sym filled ∙ same) in
    absurd (omega (arith, first, is_text.characters.0))

-- a text that is filled up with zeros ends in one place
pub text_once : (bytes : List ℕ) (k l m n : ℕ) → k ≤ length bytes → l ≤ length bytes
    → AllByRecursion IsTextByte (take k bytes) → AllByRecursion IsTextByte (take l bytes)
    → bytes ≡ take k bytes ++ replicate m 0 → bytes ≡ take l bytes ++ replicate n 0 → k ≡ l
text_once [] k l m n one other texts others ends end = omega arith
text_once (byte ∷ bytes) zero zero m n one other texts others ends end = refl
text_once (byte ∷ bytes) zero (suc l) zero n one other texts others ends end = cc ends
text_once (byte ∷ bytes) zero (suc l) (suc m) n one other texts others ends end =
    let first : byte ≡ 0 = ap (λ (b : List ℕ). get_or b 0 0) ends in
    absurd (omega (arith, first, others.0))
text_once (byte ∷ bytes) (suc k) zero m zero one other texts others ends end = cc end
text_once (byte ∷ bytes) (suc k) zero m (suc n) one other texts others ends end =
    let first : byte ≡ 0 = ap (λ (b : List ℕ). get_or b 0 0) end in
    absurd (omega (arith, first, texts.0))
text_once (byte ∷ bytes) (suc k) (suc l) m n one other texts others ends end =
    ap suc (text_once bytes k l m n (omega arith) (omega arith) texts.1 others.1 (ap (drop 1) ends) (ap (drop 1) end))
