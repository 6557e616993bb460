-- The orders that lines give, one line after another.
use Rattle.std.proofs.Common.{◌≡◌, ◌≢◌, refl, sym, ap, subst, ◌∙◌, ◌⊎◌, inl, inr, ℕ, ◌+◌, Bool, true, false, length}
use Rattle.std.proofs.Common.{List, [], ◌∷◌, ◌++◌, Option, Some, None, arith}
use Rattle.std.specs.Prelude.{◌||◌, ◌↔◌, IsTrue, codes}
use Rattle.std.specs.List.{list_any}
use Rattle.std.proofs.Math.Bool.{or-false}
use Rattle.std.proofs.lemmas.List.{append-nil}
use Rattle.std.proofs.lemmas.List.Elements.{All-cons}
use Rattle.std.specs.Io.KnownBytes.{Consumes, IsAtEnd}
use Rattle.std.proofs.KnownBytes.{Consumes-trans}
use Rattle.dali_drive.specs.declared.following.Given.{Given}
use Rattle.dali_drive.specs.Followed.{with_next}
use Rattle.dali_drive.specs.Lines.{IsInLine}
use Rattle.dali_link_commands.specs.declared.stream.order_lines.OrderLines.{OrderLines}
use Rattle.dali_link_commands.specs.StreamLines.{bytes_of}
use Rattle.dali_link_commands.specs.LineReads.{IsBroken}
use Rattle.dali_drive.specs.declared.following.Given.TheVariants as gives
use Rattle.arrayvec.specs.ArrayVec.{ArrayVec}
use Rattle.dali_link_commands.specs.LinesGave.{Gave, IsGiven, LineGives, LinesGive, AreLines, IsEnd, is_refusal, ready_line, refuses}

turned : (a b c : Bool) → ((a || b) || c) ≡ (a || (c || b))
turned true b c = refl
turned false true true = refl
turned false true false = refl
turned false false true = refl
turned false false false = refl

-- whether a line was refused, with the next
refused_next : (first : Bool) (given : List Given) (next : Option Given)
    → ((first || list_any is_refusal given) || refuses next) ≡ (first || list_any is_refusal (with_next next given))
refused_next first given None = or-false (first || list_any is_refusal given)
refused_next first given (Some one) = turned first (list_any is_refusal given) (is_refusal one)

-- while more is read, all that was read are whole lines
whole : {R : Type 0} (left : R → Option (List ℕ)) (failed : R → Bool) (first now : OrderLines R)
    (lines : List (List ℕ)) (bytes : List ℕ) → now.is_over ≡ false → AreLines left failed first now lines bytes
    → (first.is_over ≡ false) × (bytes ≡ bytes_of lines)
whole left failed first now lines bytes goes_on (inl going) = (sym going.0 ∙ goes_on, going.1)
whole left failed first now lines bytes goes_on (inr over) = let is = over.0 in cc

-- after `ready`, what the next line yields is given
given_next : (first old new : Bool) (lines more : List (List ℕ)) (bytes longer : List ℕ) (come given : List Given)
    (next : Option Given) → (old ≡ true) × (new ≡ true) → IsGiven first old lines bytes come given
    → IsGiven first new more longer (with_next next come) (with_next next given)
given_next true true true lines more bytes longer come given next begun is =
    (refl, ap (λ (g : List Given). with_next next g) is.1)
given_next false true true lines more bytes longer come given None begun is = is
given_next false true true lines more bytes longer come given (Some one) begun (text, ready, is) =
    (text, ready, ap (λ (g : List Given). one ∷ g) is)
given_next first false new lines more bytes longer come given next begun is = let old_is = begun.0 in cc
given_next first true false lines more bytes longer come given next begun is = let new_is = begun.1 in cc

-- and `ready` itself, before any line was read
ready_given : (first old new : Bool) (lines : List (List ℕ)) (bytes : List ℕ) (come given : List Given)
    (text : ArrayVec ℕ) → old ≡ false → new ≡ true → text.items ≡ ready_line → (lines ≡ [] → come ≡ [])
    → IsGiven first old lines bytes come given → IsGiven first new lines bytes come (gives.Line text ∷ given)
ready_given true old new lines bytes come given text old_is new_is ready none is = let begun = is.0 in cc
ready_given false false true lines bytes come given text old_is new_is ready none (no_line, no_byte, nothing) =
    (text, ready, rw (none no_line, nothing) refl)
ready_given false true new lines bytes come given text old_is new_is ready none is = cc
ready_given false false false lines bytes come given text old_is new_is ready none is = cc

nothing_of_no_lines : (before moment : ℕ) (lines : List (List ℕ)) (come : List Given)
    → LinesGive before moment lines come → lines ≡ [] → come ≡ []
nothing_of_no_lines before moment [] come are none = are
nothing_of_no_lines before moment (line ∷ lines) come are none = cc

pub gave_ready : {R : Type 0} (left : R → Option (List ℕ)) (failed : R → Bool) (first old : OrderLines R)
    (given : List Given) (text : ArrayVec ℕ) → old.is_begun ≡ false → text.items ≡ ready_line
    → Gave left failed first old given
    → Gave left failed first (record old { is_begun = true }) (gives.Line text ∷ given)
gave_ready left failed first old given text unbegun ready gave = record {
  lines = gave.lines;
  bytes = gave.bytes;
  taken = gave.taken;
  inside = gave.inside;
  lines_are = gave.lines_are;
  moment_is = gave.moment_is;
  count_is = gave.count_is;
  come = gave.come;
  come_are = gave.come_are;
  given_are = ready_given first.is_begun old.is_begun true gave.lines gave.bytes gave.come given text unbegun refl ready
      (nothing_of_no_lines first.count first.moment gave.lines gave.come gave.come_are) gave.given_are;
  refused_is = gave.refused_is;
}

-- what the next line is: one with its line feed, or the last one without
abbrev pub IsNext : {R : Type 0} → (R → Option (List ℕ)) → OrderLines R → OrderLines R → List ℕ → Type 0
IsNext left old new line =
    ((new.is_over ≡ false) × Consumes (left old.source) (left new.source) (line ++ codes "\n"))
    ⊎ ((new.is_over ≡ true) × ((line ≢ []) × Consumes (left old.source) (left new.source) line
    × IsAtEnd (left new.source)))

-- and what it gives comes after what the lines before gave
pub gave_next : {R : Type 0} (left : R → Option (List ℕ)) (failed : R → Bool) (first old new : OrderLines R)
    (given : List Given) (line : List ℕ) (next : Option Given) → old.is_over ≡ false
    → Gave left failed first old given → IsInLine line → IsNext left old new line → new.moment ≡ old.moment
    → new.count ≡ old.count + 1 → new.has_refused ≡ (old.has_refused || refuses next)
    → (old.is_begun ≡ true) × (new.is_begun ≡ true)
    → LineGives new.count old.moment line next → Gave left failed first new (with_next next given)
gave_next {R} left failed first old new given line next goes_on gave inside is_next moment count refused begun gives =
    by (whole left failed first old gave.lines gave.bytes goes_on gave.lines_are) is_next
  where
    number : new.count ≡ first.count + length (line ∷ gave.lines)
    number = let before = gave.count_is in omega arith

    all_come : LinesGive first.count first.moment (line ∷ gave.lines) (with_next next gave.come)
    all_come = (
      next,
      gave.come,
      subst (λ (n : ℕ). LineGives n first.moment line next) number
          (subst (λ (m : ℕ). LineGives new.count m line next) gave.moment_is gives),
      gave.come_are,
      refl,
    )

    all_refused : new.has_refused ≡ (first.has_refused || list_any is_refusal (with_next next gave.come))
    all_refused =
        refused ∙ ap (λ (b : Bool). b || refuses next) gave.refused_is ∙ refused_next first.has_refused gave.come next

    by : (first.is_over ≡ false) × (gave.bytes ≡ bytes_of gave.lines) → IsNext left old new line
        → Gave left failed first new (with_next next given)
    by before (inl feed) = record {
      lines = line ∷ gave.lines;
      bytes = gave.bytes ++ (line ++ codes "\n");
      taken = Consumes-trans _ _ _ _ _ gave.taken feed.1;
      inside = All-cons IsInLine line gave.lines inside gave.inside;
      lines_are = inl (feed.0 ∙ sym before.0, ap (λ (b : List ℕ). b ++ (line ++ codes "\n")) before.1);
      moment_is = moment ∙ gave.moment_is;
      count_is = number;
      come = with_next next gave.come;
      come_are = all_come;
      given_are = given_next first.is_begun old.is_begun new.is_begun gave.lines (line ∷ gave.lines) gave.bytes _
          gave.come given next begun gave.given_are;
      refused_is = all_refused;
    }
    by before (inr last) = record {
      lines = line ∷ gave.lines;
      bytes = gave.bytes ++ line;
      taken = Consumes-trans _ _ _ _ _ gave.taken last.1.1;
      inside = All-cons IsInLine line gave.lines inside gave.inside;
      lines_are = inr (last.0, inl (last.1.2, inr (last.1.0, ap (λ (b : List ℕ). b ++ line) before.1)));
      moment_is = moment ∙ gave.moment_is;
      count_is = number;
      come = with_next next gave.come;
      come_are = all_come;
      given_are = given_next first.is_begun old.is_begun new.is_begun gave.lines (line ∷ gave.lines) gave.bytes _
          gave.come given next begun gave.given_are;
      refused_is = all_refused;
    }

-- if the stream ends after a line feed, or a line is broken off, nothing more is given
pub gave_no_more : {R : Type 0} (left : R → Option (List ℕ)) (failed : R → Bool) (first old new : OrderLines R)
    (given : List Given) (line : List ℕ) → old.is_over ≡ false
    → Gave left failed first old given → IsInLine line → new.is_over ≡ true
    → Consumes (left old.source) (left new.source) line
    → ((line ≡ []) × IsAtEnd (left new.source)) ⊎ IsBroken (failed new.source) line
    → new.moment ≡ old.moment → new.count ≡ old.count → new.has_refused ≡ old.has_refused
    → (old.is_begun ≡ true) × (new.is_begun ≡ true) → Gave left failed first new given
gave_no_more {R} left failed first old new given line goes_on gave inside over taken why moment count refused begun =
    record {
      lines = gave.lines;
      bytes = gave.bytes ++ line;
      taken = Consumes-trans _ _ _ _ _ gave.taken taken;
      inside = gave.inside;
      lines_are = inr (over, by why);
      moment_is = moment ∙ gave.moment_is;
      count_is = count ∙ gave.count_is;
      come = gave.come;
      come_are = gave.come_are;
      given_are = given_next first.is_begun old.is_begun new.is_begun gave.lines gave.lines gave.bytes
          (gave.bytes ++ line) gave.come given None begun gave.given_are;
      refused_is = refused ∙ gave.refused_is;
    }
  where
    before : (first.is_over ≡ false) × (gave.bytes ≡ bytes_of gave.lines)
    before = whole left failed first old gave.lines gave.bytes goes_on gave.lines_are

    by : ((line ≡ []) × IsAtEnd (left new.source)) ⊎ IsBroken (failed new.source) line
        → IsEnd (left new.source) (failed new.source) gave.lines (gave.bytes ++ line)
    by (inl ended) = inl (ended.1, inl (rw (ended.0, append-nil) before.1))
    by (inr broken) = inr (record {
      begun = line;
      inside = inside;
      bytes_are = ap (λ (b : List ℕ). b ++ line) before.1;
      broken = broken;
    })

-- a line that isn't empty has a byte
pub has_byte : (is_empty : Bool) (line : List ℕ) → (IsTrue is_empty ↔ (line ≡ [])) → is_empty ≡ false → line ≢ []
has_byte is_empty line both not_empty = λ none. let empty = both.1 none in cc
