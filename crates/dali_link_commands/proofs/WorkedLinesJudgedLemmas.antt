-- The result of a line, and what it isn't, and why no more is read, by hand, on both sides of each rule.
use Rattle.std.proofs.Common.{◌≡◌, refl, ap, inl, inr, ◌⊎◌, ◌-◌, ◌^◌, ℕ, true, false, List, [], ◌∷◌, Option, Some, None, Ok, Err}
use Rattle.std.proofs.Common.{length, codes, arith}
use Rattle.serde_json.specs.Data.{Data, null, number, unsigned, string, object, member, no_members}
use Rattle.dali_bank.specs.Order.{Contents}
use Rattle.dali_input.specs.declared.fault.InputFault.{InputFault}
use Rattle.dali_input.specs.declared.fault.InputFault.TheVariants.{Json, Document, TooBig}
use Rattle.dali_input.specs.declared.item.ItemFault.TheVariants.{Input, Shape, Key}
use Rattle.dali_input.specs.Input.{IsJson}
use Rattle.dali_link_commands.specs.declared.stream.fault.RefusedLine.{RefusedLine}
use Rattle.dali_link_commands.specs.declared.stream.order_lines.OrderLines.{OrderLines}
use Rattle.dali_link_commands.specs.declared.stream.reading.LineEnd.TheVariants.{LineFeed, Stream, Broken}
use Rattle.dali_link_commands.specs.LinesJudged.{JudgesAt, JudgesValue, JudgesLine, no_json_on, no_submission_on}
use Rattle.dali_link_commands.specs.LinesJudged.{order_number, Outcome as Judged}
use Rattle.dali_link_commands.specs.StreamLines.{line_limit}
use Rattle.dali_link_commands.specs.LineReads.{IsBroken, ReadsLine}
use Rattle.dali_drive.specs.declared.following.Given.{Given}
use Rattle.dali_drive.specs.declared.following.Given.TheVariants as gives
use Rattle.dali_link_commands.specs.LinesGave.{IsCut, IsEnd, IsGiven, IsOver, LineGives}

-- ---- what is submitted at a moment

-- what is submitted is read already, so that no fault of the line's JSON is left
pub no_input_fault_of_an_item : (moment : ℕ) (item : Data) (order : Option ℕ) (fault : InputFault)
    → ¬ JudgesAt moment item (Err (record { order = order; fault = Input fault }))
no_input_fault_of_an_item moment item order fault = λ judged. judged.0

abbrev shape_of : Option ℕ → RefusedLine
shape_of order = record { order = order; fault = Shape }

pub no_number_is_a_shape : JudgesAt 5 null (Err (shape_of None))
no_number_is_a_shape = (inl refl, refl)

pub no_number_is_no_key : ¬ JudgesAt 5 null (Err (record { order = None; fault = Key }))
no_number_is_no_key = λ ((id, unit, numbers, known), none). let some = numbers.order_is in cc

-- an item without a unit has its order's number, and one whose number is a text has none
abbrev without_unit : Data
without_unit = object (member (codes "order") (number (unsigned 7)) no_members)

abbrev with_a_text : Data
with_a_text = object (member (codes "order") (string (codes "7")) no_members)

pub number_of_a_refused_item : JudgesAt 5 without_unit (Err (shape_of (Some 7)))
number_of_a_refused_item = (inr refl, refl)

pub number_not_left_out : ¬ JudgesAt 5 without_unit (Err (shape_of None))
number_not_left_out = λ judged. let none = judged.1 in cc

pub a_text_is_no_number : order_number with_a_text ≡ None
a_text_is_no_number = refl

pub not_at_another_moment : (item : Data) (order : Contents) → ¬ JudgesAt 5 item (Ok (order, 6))
not_at_another_moment item order = λ judged. let same = judged.1 in omega arith

-- ---- a value

same_fault : (one other : RefusedLine) → ◌≡◌ {A = Judged} (Err one) (Err other) → one.fault ≡ other.fault
same_fault one other is = let both = is in cc

abbrev submission_and_steps : Data
submission_and_steps =
    object (member (codes "steps") (number (unsigned 9)) (member (codes "submit") null no_members))

pub another_key_refused : JudgesValue 5 submission_and_steps (Err (no_submission_on submission_and_steps))
another_key_refused = inl ((refl, λ item at is. let only = is.0 in cc), refl)

-- its number is that of what it would submit
pub number_of_what_is_submitted : (no_submission_on (object (member (codes "order") (number (unsigned 8))
    (member (codes "submit") without_unit no_members)))).order ≡ Some 7
number_of_what_is_submitted = refl

pub another_key_not_as_an_order : (order : Contents) (at : ℕ) → ¬ JudgesValue 5 submission_and_steps (Ok (order, at))
another_key_not_as_an_order order at = λ judged. by judged where
  by : JudgesValue 5 submission_and_steps (Ok (order, at)) → ⊥
  by (inl (none, is)) = cc
  by (inr (item, then, submitted, judged)) = let only = submitted.0 in cc

-- a value without the key is an item, whatever it is
pub item_not_a_document : ¬ JudgesValue 5 null (Err (no_json_on Document))
item_not_a_document = λ judged. by judged where
  by : JudgesValue 5 null (Err (no_json_on Document)) → ⊥
  by (inl (none, is)) = let some = none.0 in cc
  by (inr (item, at, submitted, judged)) = judged.0

pub item_refused_as_one : JudgesValue 5 null (Err (shape_of None))
item_refused_as_one = inr (null, 5, (refl, refl), (inl refl, refl))

pub no_value_without_json : (moment : ℕ) (json : Data) → ¬ JudgesValue moment json (Err (no_json_on Json))
no_value_without_json moment json = λ judged. by judged where
  by : JudgesValue moment json (Err (no_json_on Json)) → ⊥
  by (inl (none, is)) = let same = same_fault (no_json_on Json) (no_submission_on json) is in cc
  by (inr (item, at, submitted, judged)) = judged.0

-- ---- a line

pub json_not_refused_as_none : (moment : ℕ) (line : List ℕ) (json : Data) → IsJson line_limit line json
    → ¬ JudgesLine moment line (Err (no_json_on Json))
json_not_refused_as_none moment line json is_json = λ judged. by judged where
  by : JudgesLine moment line (Err (no_json_on Json)) → ⊥
  by (inl (Json, no_json, is)) = let none = no_json.1 is_json.1.0 in let some = is_json.1.1 in cc
  by (inl (other, no_json, is)) = let same = same_fault (no_json_on Json) (no_json_on other) is in cc
  by (inr (value, is_value, judged)) = no_value_without_json moment value judged

pub fitting_not_too_big : (moment : ℕ) (line : List ℕ) → length line ≡ 16384
    → ¬ JudgesLine moment line (Err (no_json_on TooBig))
fitting_not_too_big moment line fits = λ judged. by judged where
  by : JudgesLine moment line (Err (no_json_on TooBig)) → ⊥
  by (inl (TooBig, no_json, is)) = omega arith
  by (inl (other, no_json, is)) = let same = same_fault (no_json_on TooBig) (no_json_on other) is in cc
  by (inr (value, is_value, inl (none, is))) =
      let same = same_fault (no_json_on TooBig) (no_submission_on value) is in cc
  by (inr (value, is_value, inr (item, at, submitted, judged))) = judged.0

pub too_big_not_an_order : (moment at : ℕ) (line : List ℕ) (order : Contents) → length line ≡ 16385
    → ¬ JudgesLine moment line (Ok (order, at))
too_big_not_an_order moment at line order long = λ judged. by judged where
  by : JudgesLine moment line (Ok (order, at)) → ⊥
  by (inl (fault, no_json, is)) = cc
  by (inr (value, is_value, judged)) = let fits = is_value.0 in omega arith

pub passed_over_where_blank : LineGives 1 5 (codes " \r") None
passed_over_where_blank = refl

pub not_passed_over : ¬ LineGives 1 5 (codes " {}") None
not_passed_over = λ blank. cc

-- ---- a line that is broken off

pub broken_by_a_failure : IsBroken true (codes "ab")
broken_by_a_failure = inl refl

pub not_broken_at_will : ¬ IsBroken false (codes "ab")
not_broken_at_will = λ broken. by broken where
  by : IsBroken false (codes "ab") → ⊥
  by (inl failed) = cc
  by (inr long) = omega (arith, long)

-- the length at which one is, and one less
pub broken_by_its_length : (line : List ℕ) → length line ≡ 2 ^ 64 - 1 → IsBroken false line
broken_by_its_length line long = inr long

pub one_byte_less_not_broken : (line : List ℕ) → length line ≡ 2 ^ 64 - 2 → ¬ IsBroken false line
one_byte_less_not_broken line long = λ broken. by broken where
  by : IsBroken false line → ⊥
  by (inl failed) = cc
  by (inr most) = omega (arith, long, most)

pub not_cut_at_will : ¬ IsCut false (codes "a" ∷ []) (codes "a\nb")
not_cut_at_will = λ cut. by cut (cut.broken) where
  by : (cut : IsCut false (codes "a" ∷ []) (codes "a\nb")) → IsBroken false cut.begun → ⊥
  by cut (inl failed) = cc
  by cut (inr long) = omega (arith, long, ap (length {A = ℕ}) cut.bytes_are)

-- ---- what is taken for a line

pub read_to_its_line_feed : ReadsLine (Some (codes "ab\nc")) (Some (codes "c")) false (codes "ab") LineFeed
read_to_its_line_feed = refl

pub line_feed_is_taken : ¬ ReadsLine (Some (codes "ab\nc")) (Some (codes "\nc")) false (codes "ab") LineFeed
line_feed_is_taken = λ taken. cc

pub read_to_the_end : ReadsLine (Some (codes "ab")) (Some []) false (codes "ab") Stream
read_to_the_end = (refl, refl)

pub no_end_before_the_last_byte : ¬ ReadsLine (Some (codes "ab")) (Some (codes "b")) false (codes "a") Stream
no_end_before_the_last_byte = λ ended. let none = ended.1 in cc

pub no_break_without_a_failure : ¬ ReadsLine (Some (codes "ab")) (Some []) false (codes "ab") Broken
no_break_without_a_failure = λ broken. not_broken_at_will broken.1

-- ---- why no more is read

pub ended_behind_a_line_feed : IsEnd (Some []) false (codes "a" ∷ []) (codes "a\n")
ended_behind_a_line_feed = inl (refl, inl refl)

pub no_end_where_more_is_left : ¬ IsEnd (Some (codes "b\n")) false (codes "a" ∷ []) (codes "a\nb")
no_end_where_more_is_left = λ ends. by ends where
  by : IsEnd (Some (codes "b\n")) false (codes "a" ∷ []) (codes "a\nb") → ⊥
  by (inl ended) = let none = ended.0 in cc
  by (inr cut) = not_cut_at_will cut

pub over_where_the_stream_is : {R : Type 0} (lines : OrderLines R) → lines.is_begun ≡ true → lines.is_over ≡ true
    → IsOver lines
over_where_the_stream_is lines begun is = (begun, inl is)

pub over_where_no_line_can_be_counted : {R : Type 0} (lines : OrderLines R) → lines.is_begun ≡ true
    → lines.count ≡ 2 ^ 64 - 1 → IsOver lines
over_where_no_line_can_be_counted lines begun most = (begun, inr most)

pub not_over_before : {R : Type 0} (lines : OrderLines R) → lines.is_over ≡ false → lines.count ≡ 2 ^ 64 - 2
    → ¬ IsOver lines
not_over_before lines goes_on less = λ over. by over.1 where
  by : (lines.is_over ≡ true) ⊎ (lines.count ≡ 2 ^ 64 - 1) → ⊥
  by (inl is) = cc
  by (inr most) = omega (arith, less, most)

-- nor before `ready` was given
pub not_over_unbegun : {R : Type 0} (lines : OrderLines R) → lines.is_begun ≡ false → ¬ IsOver lines
not_over_unbegun lines unbegun = λ over. let begun = over.0 in cc

-- ---- `ready`

abbrev ready : Given
ready = gives.Line (record { items = codes "ready\n" })

-- it comes before all that lines yield
pub ready_before_all : (order : Contents) (line : List ℕ) → IsGiven false true (line ∷ []) (codes "x\n")
    (gives.Order order 5 ∷ []) (gives.Order order 5 ∷ ready ∷ [])
ready_before_all order line = (record { items = codes "ready\n" }, refl, refl)

pub ready_not_behind : (order : Contents) (line : List ℕ) → ¬ IsGiven false true (line ∷ []) (codes "x\n")
    (gives.Order order 5 ∷ []) (ready ∷ gives.Order order 5 ∷ [])
ready_not_behind order line = λ (text, is, given). cc

pub ready_told : ¬ IsGiven false true [] [] [] []
ready_told = λ (text, is, given). cc

pub ready_told_once : ¬ IsGiven true true [] [] [] (ready ∷ [])
ready_told_once = λ given. let none = given.1 in cc

pub nothing_read_unready : (line : List ℕ) → ¬ IsGiven false false (line ∷ []) (codes "\n") [] []
nothing_read_unready line = λ given. let none = given.0 in cc

pub no_byte_read_unready : ¬ IsGiven false false [] (codes "x") [] []
no_byte_read_unready = λ given. let none = given.1 in cc
