use Rattle.std.proofs.Common.{◌≡◌, ◌<◌, ◌^◌, ◌∙◌, refl, Ok, Some, length, arith, ap}
use Rattle.std.specs.Str.Parse.{digits_value}
use Rattle.std.specs.Result.{result_ok}
use Rattle.std.proofs.lemmas.Str.Parse.{parse_gives, digits_value_short}
use Rattle.dali_bank.specs.Gtin.{IsGtin}
use Rattle.dali_bank.proofs.GtinLemmas.{numerals, at_most_14}
use Rattle.dali_bank.proofs.gtin.gtin_number.Goals as goal
use Rattle.dali_bank.proofs.gtin.gtin_number.Goals.{After-ok}

-- a GTIN is parsed as its number
parsed : (c : After-ok)
    → IsGtin c.args.text.now × (digits_value 10 c.args.text.now < 10 ^ 14)
    × (c.ok.result ≡ Some (digits_value 10 c.args.text.now))
parsed c =
    let text = c.args.text.now in
    let is_gtin : IsGtin text = rw c.as_bytes.ensures.value at (c.if-is_gtin.ensures.0 refl) in
    let short = at_most_14 (length text) is_gtin.sized in
    let small : digits_value 10 text < 10 ^ 14 = digits_value_short numerals text 14 is_gtin.digits short.1 in
    let whole : c.parse.result ≡ Ok (digits_value 10 text) =
    parse_gives numerals 64 text c.parse.result c.parse.ensures.value.0 is_gtin.digits short.0 (omega arith) in
    (is_gtin, small, c.ok.ensures.value ∙ ap result_ok whole)

pub returns-then-is_gtin-clause-found : goal.returns-then-is_gtin-clause-found
returns-then-is_gtin-clause-found c =
    let known = parsed c in
    (λ found. known.0, λ is_gtin. rw known.2 refl)

pub returns-then-is_gtin-clause-small : goal.returns-then-is_gtin-clause-small
returns-then-is_gtin-clause-small c =
    let known = parsed c in
    rw known.2 (omega (arith, known.1))
