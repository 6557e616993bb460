-- The bytes that are read of an input, their JSON, and the orders of a list that are refused, by hand, on both sides of
-- each rule.
use Rattle.std.specs.declared.io.ErrorKind.TheVariants.{OutOfMemory, UnexpectedEof}
use Rattle.std.proofs.Common.{◌≡◌, ◌∙◌, refl, ap, inl, inr, ℕ, true, false, List, [], ◌∷◌, Some}
use Rattle.std.proofs.Common.{None, Ok, Err, length, codes, arith, append-nil}
use Rattle.std.specs.Prelude.{IsUtf8}
use Rattle.serde_json.specs.Data.{Data, Items, null, number, unsigned, no_items, item}
use Rattle.serde_json.specs.Find.{as_array}
use Rattle.serde_json.specs.Read.{read}
use Rattle.dali_input.specs.declared.fault.InputFault.TheVariants.{Json, Document, TooBig, Memory, File}
use Rattle.dali_input.specs.declared.item.ItemFault.{ItemFault}
use Rattle.dali_input.specs.declared.item.ItemFault.TheVariants.{Shape}
use Rattle.dali_input.specs.Input.{InputState, ReadsInput, ReadsAtMost, ReadsMore, IsReadFailure}
use Rattle.dali_input.specs.BankText.{IsTextFault}
use Rattle.dali_input.specs.Input.{IsReading, IsJson, IsNoJson, IsReadFault}
use Rattle.dali_input.specs.Orders.{AreItems, IsInputFault, Outcome, JudgesEach, AreRefused, refused_from}
use Rattle.dali_input.specs.Values.{IsWhole, IsNoReading}

abbrev seven : Data
seven = number (unsigned 7)

-- ---- what is read, of at most two bytes

abbrev reader_with : List ℕ → InputState
reader_with bytes = record { left = Some bytes; failed = false }

abbrev failed_with : List ℕ → InputState
failed_with bytes = record { left = Some bytes; failed = true }

pub all_is_read : ReadsInput 2 (reader_with (codes "ab")) (reader_with []) (codes "ab")
all_is_read = record { consumed = refl; bounded = omega arith; whole = λ fits. refl; unfailed = refl }

pub one_past_the_limit : ReadsInput 2 (reader_with (codes "abcd")) (reader_with (codes "d")) (codes "abc")
one_past_the_limit = record {
  consumed = refl;
  bounded = omega arith;
  whole = λ fits. absurd (omega (arith, fits));
  unfailed = refl;
}

-- an input of as many bytes as the limit isn't distinguished from a longer one before the reader has ended
pub no_end_at_the_limit : ¬ ReadsInput 2 (reader_with (codes "abcd")) (reader_with (codes "cd")) (codes "ab")
no_end_at_the_limit = λ reads. let none = reads.whole (omega arith) in cc

pub no_end_before_the_limit : ¬ ReadsInput 2 (reader_with (codes "ab")) (reader_with (codes "b")) (codes "a")
no_end_before_the_limit = λ reads. let none = reads.whole (omega arith) in cc

pub no_more_is_read : ¬ ReadsInput 2 (reader_with (codes "abcd")) (reader_with []) (codes "abcd")
no_more_is_read = λ reads. omega (arith, reads.bounded)

pub nor_where_it_fails : ¬ ReadsAtMost 2 (reader_with (codes "abcd")) (failed_with [])
nor_where_it_fails = λ reads.
    let same : codes "abcd" ≡ reads.input = reads.consumed ∙ append-nil reads.input in
    omega (arith, reads.bounded, ap (length {A = ℕ}) same)

pub none_is_read_of_a_failed_reader : ¬ ReadsInput 2 (reader_with (codes "ab")) (failed_with []) (codes "ab")
none_is_read_of_a_failed_reader = λ reads. let unfailed = reads.unfailed in cc

pub no_failure_of_a_file_at_will : ¬ IsReadFailure (reader_with []) (reader_with []) File
no_failure_of_a_file_at_will = λ is. cc

pub memory_is_no_failure_of_a_file : ¬ IsReadFailure (reader_with []) (failed_with []) Memory
memory_is_no_failure_of_a_file = λ is. cc

pub read_behind_what_was : ReadsMore 2 (reader_with (codes "bcd")) (reader_with (codes "d")) (codes "a") (codes "abc")
read_behind_what_was = record {
  bytes = codes "bc";
  consumed = refl;
  bounded = omega arith;
  behind = refl;
  unfailed = refl;
}

pub no_more_than_its_room :
    ¬ ReadsMore 1 (reader_with (codes "bcd")) (reader_with (codes "d")) (codes "a") (codes "abc")
no_more_than_its_room = λ reads. let behind : codes "abc" ≡ 97 ∷ reads.bytes = reads.behind in
    omega (arith, reads.bounded, ap (length {A = ℕ}) behind)

-- ---- what JSON it is

-- of two bytes that are the text of a value
module _ (input : List ℕ) (two : length input ≡ 2) (text : IsUtf8 input) (json : Data)
    (reads : read input ≡ Some json) where
  pub a_value_is_read : IsReading input (Some json)
  a_value_is_read = (text, reads)

  pub a_value_is_not_refused : ¬ IsReading input None
  a_value_is_not_refused = λ none. let no_value = none text in cc

  pub no_other_value_is_read : IsReading input (Some seven) → json ≡ seven
  no_other_value_is_read is = let other = is.1 in cc

  pub json_of_as_many_bytes : IsJson 2 input json
  json_of_as_many_bytes = (omega arith, a_value_is_read)

  pub no_json_of_one_byte_too_many : ¬ IsJson 1 input json
  no_json_of_one_byte_too_many = λ is. omega (arith, is.0)

  pub one_byte_too_many : IsNoJson 1 input TooBig
  one_byte_too_many = omega arith

  pub as_many_bytes_not_too_big : ¬ IsNoJson 2 input TooBig
  as_many_bytes_not_too_big = λ big. omega (arith, big)

  pub json_is_not_refused : ¬ IsNoJson 2 input Json
  json_is_not_refused = λ refused. a_value_is_not_refused refused.1

  -- ---- a list of orders

  pub a_list_is_one : (items : Items) → as_array json ≡ Some items → AreItems 2 input items
  a_list_is_one items is = (json, json_of_as_many_bytes, is)

  pub no_list_is_refused : as_array json ≡ None → IsInputFault 2 input Document
  no_list_is_refused none = (json, json_of_as_many_bytes, none)

  pub a_list_is_not_refused : (items : Items) → as_array json ≡ Some items → ¬ IsInputFault 2 input Document
  a_list_is_not_refused items is = λ (other, is_other, none).
      let same_read = is_other.1.1 in
      let same : json ≡ other = cc in
      let no_items : as_array json ≡ None = ap as_array same ∙ none in cc

-- bytes that are none
pub no_value_is_refused : (input : List ℕ) → length input ≡ 2 → read input ≡ None → IsNoJson 2 input Json
no_value_is_refused input two none = (omega arith, λ text. none)

pub nothing_is_read_of_none : (input : List ℕ) (json : Data) → read input ≡ None → ¬ IsReading input (Some json)
nothing_is_read_of_none input json none = λ is. let some = is.1 in cc

pub too_big_before_json : (input : List ℕ) → length input ≡ 2 → ¬ IsNoJson 1 input Json
too_big_before_json input two = λ refused. omega (arith, refused.0)

-- memory may be wanted over any bytes that aren't too many, and not if there is none
pub memory_over_as_many_bytes : IsNoJson 2 (codes "ab") Memory
memory_over_as_many_bytes = (omega arith, omega arith)

pub no_memory_over_no_byte : ¬ IsNoJson 2 [] Memory
no_memory_over_no_byte = λ wanted. omega (arith, wanted.0)

pub no_memory_over_one_byte_too_many : ¬ IsNoJson 2 (codes "abc") Memory
no_memory_over_one_byte_too_many = λ wanted. omega (arith, wanted.1)

pub no_memory_over_a_text_that_is_too_big : (text : List ℕ) → length text ≡ 4097 → ¬ IsTextFault text Memory
no_memory_over_a_text_that_is_too_big text long = λ wanted. omega (arith, wanted)

-- of a read that failed, Memory is reported exactly when the reader lacked memory
pub lacked_memory : IsReadFault OutOfMemory Memory false false
lacked_memory = inl (refl, refl, refl)

pub lack_of_memory_is_no_failure : ¬ IsReadFault OutOfMemory File false true
lack_of_memory_is_no_failure = λ is. by is where
  by : IsReadFault OutOfMemory File false true → ⊥
  by (inl (kind, fault, after)) = cc
  by (inr (other, fault, after)) = other refl

pub failure_is_no_lack_of_memory : ¬ IsReadFault UnexpectedEof Memory false false
failure_is_no_lack_of_memory = λ is. by is where
  by : IsReadFault UnexpectedEof Memory false false → ⊥
  by (inl (kind, fault, after)) = cc
  by (inr (other, fault, after)) = cc

-- ---- which items are refused

pub second_is_refused_too : AreRefused (item null (item seven no_items)) ((1, Shape) ∷ (2, Shape) ∷ [])
second_is_refused_too = (Err Shape ∷ Err Shape ∷ [], (inl refl, (inl refl, tt)), refl, λ none. cc)

pub nothing_refused_of_no_item : (refused : List (ℕ × ItemFault)) → ¬ AreRefused no_items refused
nothing_refused_of_no_item refused = λ are. by are where
  by : AreRefused no_items refused → ⊥
  by ([], each, all, some) = some all
  by (outcome ∷ outcomes, each, all, some) = each

-- if none is reported as refused, none was refused, so that it is no refusal
pub no_refusal_of_nothing : (items : Items) → ¬ AreRefused items []
no_refusal_of_nothing items = λ (outcomes, each, all, some).
    let never : ¬ (◌≡◌ {A = List (ℕ × ItemFault)} [] []) = some in never refl

pub not_at_another_place : ¬ AreRefused (item null no_items) ((2, Shape) ∷ [])
not_at_another_place = λ (outcomes, each, all, some). by outcomes each all where
  number_of_first : List (ℕ × ItemFault) → ℕ
  number_of_first [] = 0
  number_of_first (first ∷ others) = first.0

  by : (outcomes : List Outcome) → JudgesEach (item null no_items) outcomes
      → (2, Shape) ∷ [] ≡ refused_from 1 outcomes → ⊥
  by [] each all = each
  by (Err fault ∷ outcomes) each all = let same : 2 ≡ 1 = ap number_of_first all in omega (arith, same)
  by (Ok order ∷ []) each all = let same : 2 ≡ 0 = ap number_of_first all in omega (arith, same)
  by (Ok order ∷ outcome ∷ outcomes) each all = each.1

-- ---- a number within bounds

pub most_is_within : IsWhole 0 63 (number (unsigned 63)) 63
most_is_within = record { whole = refl; from = omega arith; to = omega arith }

pub most_is_not_refused : ¬ IsNoReading (IsWhole 0 63 (number (unsigned 63))) Document
most_is_not_refused = λ none. none 63 most_is_within

pub one_more_is_refused : IsNoReading (IsWhole 0 63 (number (unsigned 64))) Document
one_more_is_refused other = λ is.
    let same : Some 64 ≡ Some other = is.whole in let is_64 : 64 ≡ other = cc in omega (arith, is.to, is_64)
