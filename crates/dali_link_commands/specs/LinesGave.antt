-- The orders that the lines of a stream give.
use Rattle.std.specs.Prelude.{◌≡◌, ◌≢◌, ◌⊎◌, ◌||◌, ◌+◌, ◌++◌, ◌-◌, ◌^◌, ℕ, Bool, true, false, List, [], ◌∷◌, length}
use Rattle.std.specs.Prelude.{Option, Some, None, Ok, Err, codes}
use Rattle.std.specs.List.{All, list_any}
use Rattle.std.specs.Io.KnownBytes.{Consumes, IsAtEnd}
use Rattle.std.proofs.Common.{refl, sym, inl}
use Rattle.std.proofs.Math.Bool.{or-false}
use Rattle.std.proofs.Math.Nat.{add-zero}
use Rattle.std.proofs.lemmas.List.Elements.{All-nil}
use Rattle.std.proofs.KnownBytes.{Consumes-nil}
use Rattle.dali_drive.specs.declared.following.Given.{Given}
use Rattle.dali_drive.specs.declared.following.Given.TheVariants as gives
use Rattle.dali_drive.specs.Followed.{with_next}
use Rattle.dali_drive.specs.Lines.{IsInLine}
use Rattle.arrayvec.specs.ArrayVec.{ArrayVec}
use Rattle.dali_link_commands.specs.declared.stream.fault.RefusedLine.{RefusedLine}
use Rattle.dali_link_commands.specs.declared.stream.order_lines.OrderLines.{OrderLines}
use Rattle.dali_link_commands.specs.LineFaults.{item_line}
use Rattle.dali_link_commands.specs.LinesJudged.{JudgesLine}
use Rattle.dali_link_commands.specs.StreamLines.{is_blank, bytes_of}
use Rattle.dali_link_commands.specs.LineReads.{IsBroken}

-- the state of the orders of a source: the source, the moment of an order that brings none, how many lines were read,
-- whether one was refused, whether `ready` was given, and whether no more is read
pub record LinesState (R : Type 0) : Type 0 where
  pub source : R
  pub moment : ℕ
  pub count : ℕ
  pub has_refused : Bool
  pub is_begun : Bool
  pub is_over : Bool

abbrev pub state_of : {R : Type 0} → OrderLines R → LinesState R
state_of lines = record {
  source = lines.source;
  moment = lines.moment;
  count = lines.count;
  has_refused = lines.has_refused;
  is_begun = lines.is_begun;
  is_over = lines.is_over;
}

-- no more is given: `ready` was given, and the stream has ended or was broken off, or the lines can't be counted any
-- further
abbrev pub IsOver : {R : Type 0} → OrderLines R → Type 0
IsOver lines = (lines.is_begun ≡ true) × ((lines.is_over ≡ true) ⊎ (lines.count ≡ 2 ^ 64 - 1))

-- ---- which lines were read

-- the newest of these lines has no line feed, but a byte at least
abbrev pub EndsUnended : List (List ℕ) → List ℕ → Type 0
EndsUnended [] bytes = ⊥
EndsUnended (last ∷ lines) bytes = (last ≢ []) × (bytes ≡ bytes_of lines ++ last)

-- after these lines one was broken off
pub record IsCut (failed : Bool) (lines : List (List ℕ)) (bytes : List ℕ) : Type 0 where
  pub begun : List ℕ
  pub inside : IsInLine begun
  pub bytes_are : bytes ≡ bytes_of lines ++ begun
  pub broken : IsBroken failed begun

-- why no more is read: the stream has ended, after a line feed or without one; or a line was broken off
abbrev pub IsEnd : Option (List ℕ) → Bool → List (List ℕ) → List ℕ → Type 0
IsEnd left failed lines bytes =
    (IsAtEnd left × ((bytes ≡ bytes_of lines) ⊎ EndsUnended lines bytes)) ⊎ IsCut failed lines bytes

-- these lines, the newest first, were read of a source, and these are their bytes: each has its line feed, unless no
-- more is read
abbrev pub AreLines : {R : Type 0} → (R → Option (List ℕ)) → (R → Bool) → OrderLines R → OrderLines R
    → List (List ℕ) → List ℕ → Type 0
AreLines left failed first now lines bytes =
    ((now.is_over ≡ first.is_over) × (bytes ≡ bytes_of lines))
    ⊎ ((now.is_over ≡ true) × IsEnd (left now.source) (failed now.source) lines bytes)

-- ---- the results of lines

-- what a line of this number gives: nothing if it is blank, else its order, or the line that tells why it is refused
abbrev pub LineGives : ℕ → ℕ → List ℕ → Option Given → Type 0
LineGives number moment line None = is_blank line ≡ true
LineGives number moment line (Some (gives.Order order at)) =
    (is_blank line ≡ false) × JudgesLine moment line (Ok (order, at))
LineGives number moment line (Some (gives.Line text)) = (is_blank line ≡ false)
    × ((refused : RefusedLine) × JudgesLine moment line (Err refused) × (text.items ≡ item_line number refused))

-- what lines give after `before` others, both the newest first
abbrev pub LinesGive : ℕ → ℕ → List (List ℕ) → List Given → Type 0
LinesGive before moment [] given = given ≡ []
LinesGive before moment (line ∷ lines) given =
    (next : Option Given) × (earlier : List Given) × LineGives (before + length (line ∷ lines)) moment line next
    × LinesGive before moment lines earlier × (given ≡ with_next next earlier)

-- what is given is the line of a refused item
abbrev pub is_refusal : Given → Bool
is_refusal (gives.Order order at) = false
is_refusal (gives.Line text) = true

abbrev pub refuses : Option Given → Bool
refuses None = false
refuses (Some given) = is_refusal given

-- ---- the whole

-- the line that tells that lines are read from here on
abbrev pub ready_line : List ℕ
ready_line = codes "ready\n"

-- all that was given if these lines and bytes were read and yielded that, by whether `ready` had been given at first,
-- and is now: it is given once, and no byte is read before it
abbrev pub IsGiven : Bool → Bool → List (List ℕ) → List ℕ → List Given → List Given → Type 0
IsGiven true now lines bytes come given = (now ≡ true) × (given ≡ come)
IsGiven false true lines bytes come given =
    (text : ArrayVec ℕ) × (text.items ≡ ready_line) × (given ≡ come ++ (gives.Line text ∷ []))
IsGiven false false lines bytes come given = (lines ≡ []) × (bytes ≡ []) × (given ≡ [])

-- since it was the first of the two, these lines were read of the source and no other byte, and they yielded this
pub record Gave {R : Type 0} (left : R → Option (List ℕ)) (failed : R → Bool) (first now : OrderLines R)
    (given : List Given) : Type 0 where
  pub lines : List (List ℕ)
  pub bytes : List ℕ
  pub taken : Consumes (left first.source) (left now.source) bytes
  pub inside : All IsInLine lines
  pub lines_are : AreLines left failed first now lines bytes
  pub moment_is : now.moment ≡ first.moment
  pub count_is : now.count ≡ first.count + length lines
  pub come : List Given
  pub come_are : LinesGive first.count first.moment lines come
  pub given_are : IsGiven first.is_begun now.is_begun lines bytes come given
  pub refused_is : now.has_refused ≡ (first.has_refused || list_any is_refusal come)

-- at first, nothing
none_given : (begun : Bool) → IsGiven begun begun [] [] [] []
none_given true = (refl, refl)
none_given false = (refl, refl, refl)

pub gave_none : {R : Type 0} (left : R → Option (List ℕ)) (failed : R → Bool) (lines : OrderLines R)
    → Gave left failed lines lines []
gave_none left failed lines = record {
  lines = [];
  bytes = [];
  taken = Consumes-nil (left lines.source);
  inside = All-nil IsInLine;
  lines_are = inl (refl, refl);
  moment_is = refl;
  count_is = sym (add-zero lines.count);
  come = [];
  come_are = refl;
  given_are = none_given lines.is_begun;
  refused_is = sym (or-false lines.has_refused);
}
