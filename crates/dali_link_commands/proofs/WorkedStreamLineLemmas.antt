-- Lines and what they give, by hand, on both sides of each rule.
use Rattle.std.proofs.Common.{◌≡◌, refl, sym, ◌∙◌, ap, inl, inr, ◌⊎◌, ◌++◌, ◌-◌, ◌^◌, ℕ, Bool, true, false, List, []}
use Rattle.std.proofs.Common.{◌∷◌, Option, Some, None, Ok, Err, length, codes, decimal, arith}
use Rattle.std.proofs.lemmas.Fmt.{decimal_digit, decimal_step}
use Rattle.std.specs.Io.KnownBytes.{IsAtEnd}
use Rattle.arrayvec.specs.ArrayVec.{ArrayVec}
use Rattle.serde_json.specs.Data.{Data, number, unsigned, object, member, no_members}
use Rattle.dali_bank.specs.declared.fault.BankFault.TheVariants.{Gtin}
use Rattle.dali_bank.specs.Order.{Contents}
use Rattle.dali_input.specs.declared.fault.InputFault.TheVariants.{Json, TooBig}
use Rattle.dali_input.specs.declared.item.ItemFault.TheVariants.{Bank}
use Rattle.dali_input.specs.Input.{IsJson, IsNoJson}
use Rattle.dali_drive.specs.declared.following.Given.{Given}
use Rattle.dali_drive.specs.declared.following.Given.TheVariants as gives
use Rattle.dali_link_commands.specs.declared.stream.order_lines.OrderLines.{OrderLines}
use Rattle.dali_link_commands.specs.LineFaults.{item_line}
use Rattle.dali_link_commands.specs.LinesJudged.{IsSubmitted, IsNoSubmission, JudgesLine, no_json_on}
use Rattle.dali_link_commands.specs.StreamLines.{line_limit, is_blank, bytes_of}
use Rattle.dali_link_commands.specs.LineReads.{IsBroken}
use Rattle.dali_link_commands.specs.LinesGave.{Gave, AreLines, EndsUnended, IsOver, LinesGive}

-- ---- the length of a line

pub most_bytes_fit : (line : List ℕ) → length line ≡ 16384 → ¬ IsNoJson line_limit line TooBig
most_bytes_fit line long = λ too_big. omega arith

pub one_more_is_too_big : (line : List ℕ) → length line ≡ 16385 → IsNoJson line_limit line TooBig
one_more_is_too_big line long = omega arith

pub one_more_has_no_value : (line : List ℕ) (json : Data) → length line ≡ 16385 → ¬ IsJson line_limit line json
one_more_has_no_value line json long = λ read. let fits = read.0 in omega arith

-- ---- blank lines

pub spaces_are_blank : is_blank (codes " \t \r") ≡ true
spaces_are_blank = refl

pub an_empty_line_is_blank : is_blank [] ≡ true
an_empty_line_is_blank = refl

pub a_point_is_not_blank : is_blank (codes " .") ≡ false
a_point_is_not_blank = refl

-- a line feed, a vertical tab and a form feed
pub other_controls_are_not_blank :
    (is_blank (10 ∷ []) ≡ false) × (is_blank (11 ∷ []) ≡ false) × (is_blank (12 ∷ []) ≡ false)
other_controls_are_not_blank = (refl, refl, refl)

pub a_blank_line_gives_nothing : (before moment : ℕ) (given : List Given)
    → LinesGive before moment (codes " \t\r" ∷ []) given → given ≡ []
a_blank_line_gives_nothing before moment given (None, [], gives, none, is) = is
a_blank_line_gives_nothing before moment given (None, next ∷ others, gives, none, is) = cc
a_blank_line_gives_nothing before moment given (Some (gives.Order order at), earlier, gives, none, is) =
    let some = gives.0 in cc
a_blank_line_gives_nothing before moment given (Some (gives.Line text), earlier, gives, none, is) =
    let some = gives.0 in cc

-- ---- the bytes of lines

pub lines_in_turn : bytes_of (codes "c" ∷ [] ∷ codes "a" ∷ []) ≡ codes "a\n\nc\n"
lines_in_turn = refl

pub last_without_a_line_feed : EndsUnended (codes "c" ∷ codes "a" ∷ []) (codes "a\nc")
last_without_a_line_feed = ((λ none. cc), refl)

-- after the last line feed is no line
pub no_line_behind_the_last : ¬ EndsUnended ([] ∷ codes "a" ∷ []) (codes "a\n")
no_line_behind_the_last = λ unended. unended.0 refl

-- nor after no lines at all: such bytes belong to one
pub no_bytes_without_a_line : ¬ EndsUnended [] (codes "a")
no_bytes_without_a_line = λ never. never

-- ---- what is submitted

abbrev order_one : Data
order_one = object (member (codes "order") (number (unsigned 1)) no_members)

abbrev submission : Data
submission = object (member (codes "submit") order_one no_members)

abbrev submission_at_9 : Data
submission_at_9 = object (member (codes "moment") (number (unsigned 9)) (member (codes "submit") order_one no_members))

abbrev submission_and_steps : Data
submission_and_steps =
    object (member (codes "steps") (number (unsigned 9)) (member (codes "submit") order_one no_members))

pub an_order_at_the_moment_of_the_stream : IsSubmitted 5 order_one order_one 5
an_order_at_the_moment_of_the_stream = (refl, refl)

pub a_submission_without_a_moment : IsSubmitted 5 submission order_one 0
a_submission_without_a_moment = (refl, refl, refl)

pub a_submission_at_its_moment : IsSubmitted 5 submission_at_9 order_one 9
a_submission_at_its_moment = (refl, refl, record { whole = refl; from = omega arith; to = omega arith })

pub no_submission_at_the_moment_of_the_stream : ¬ IsSubmitted 5 submission order_one 5
no_submission_at_the_moment_of_the_stream = λ is. let at = is.2 in omega arith

pub a_submission_is_no_order_itself : (at : ℕ) → ¬ IsSubmitted 5 submission submission at
a_submission_is_no_order_itself at = λ is. let item = is.1 in cc

pub steps_beside_a_submission : IsNoSubmission submission_and_steps
steps_beside_a_submission = (refl, λ item at is. let only = is.0 in cc)

-- ---- the line of a refused item

decimal_13 : decimal 13 ≡ codes "13"
decimal_13 =
    decimal_step 13 (omega arith) (omega arith)
    ∙ ap (λ (digits : List ℕ). digits ++ codes "3") (decimal_digit 1 (omega arith))

decimal_11 : decimal 11 ≡ codes "11"
decimal_11 =
    decimal_step 11 (omega arith) (omega arith)
    ∙ ap (λ (digits : List ℕ). digits ++ codes "1") (decimal_digit 1 (omega arith))

pub too_long_line_told : item_line 7 (no_json_on TooBig) ≡ codes "item 7 fault 13 TooBig\n"
too_long_line_told = rw (decimal_digit 7 (omega arith), decimal_13) refl

pub item_told : item_line 2 (record { order = None; fault = Bank Gtin }) ≡ codes "item 2 fault 4 Gtin\n"
item_told = rw (decimal_digit 2 (omega arith), decimal_digit 4 (omega arith)) refl

pub item_of_an_order_told :
    item_line 2 (record { order = Some 7; fault = Bank Gtin }) ≡ codes "item 2 order 7 fault 4 Gtin\n"
item_of_an_order_told = rw (decimal_digit 2 (omega arith), decimal_digit 7 (omega arith), decimal_digit 4 (omega arith))
    refl

-- ---- what lines give, in turn: the first an order at its moment, the second is blank, the third no JSON

abbrev third_line : ArrayVec ℕ
third_line = record { items = codes "item 3 fault 11 Json\n" }

pub given_in_turn : (one three : List ℕ) (order : Contents) → is_blank one ≡ false → is_blank three ≡ false
    → JudgesLine 5 one (Ok (order, 8)) → JudgesLine 5 three (Err (no_json_on Json))
    → LinesGive 0 5 (three ∷ codes " " ∷ one ∷ []) (gives.Line third_line ∷ gives.Order order 8 ∷ [])
given_in_turn one three order one_told three_told is_order no_json = (
  Some (gives.Line third_line),
  gives.Order order 8 ∷ [],
  (three_told, (no_json_on Json, no_json, sym (rw (decimal_digit 3 (omega arith), decimal_11) refl))),
  (
    None,
    gives.Order order 8 ∷ [],
    refl,
    (Some (gives.Order order 8), [], (one_told, is_order), refl, refl),
    refl,
  ),
  refl,
)

-- ---- why no more is given

-- the stream is at its end, or it was broken off: it failed, or a line had more bytes than any program sees; or 2⁶⁴ - 1
-- lines were read
pub why_over : {R : Type 0} (left : R → Option (List ℕ)) (failed : R → Bool) (first now : OrderLines R)
    (given : List Given) → first.is_over ≡ false → Gave left failed first now given → IsOver now
    → (IsAtEnd (left now.source) ⊎ ((begun : List ℕ) × IsBroken (failed now.source) begun)) ⊎ (now.count ≡ 2 ^ 64 - 1)
why_over left failed first now given at_first gave (begun, inr many) = inr many
why_over left failed first now given at_first gave (begun, inl over) = inl (by gave.lines_are)
  where
    by : AreLines left failed first now gave.lines gave.bytes
        → IsAtEnd (left now.source) ⊎ ((begun : List ℕ) × IsBroken (failed now.source) begun)
    by (inl going) = let same = going.0 in absurd (cc)
    by (inr (is, inl ended)) = inl ended.0
    by (inr (is, inr cut)) = inr (cut.begun, cut.broken)
