use Rattle.std.proofs.Common.{◌+◌, ◌/◌, ◌%◌, ◌∷◌, ◌<◌, [], length, decimal, ap, length-append, rules}
use Rattle.std.proofs.lemmas.Fmt.{decimal_step, decimal_digit, length-decimal-le}
use Rattle.std.proofs.lemmas.Str.{encode_ascii}
use Rattle.dali_trace.proofs.decimal.+decimal_of.Goals as goal

pub push-requires-else-number-lt10 : goal.push-requires-else-number-lt10
push-requires-else-number-lt10 t c =
    let more = ap length (decimal_step c.args.number c.if-number-lt10.false c.ranges.number.fits) in
    let longer = length-append (decimal (c.args.number / 10)) ((48 + c.args.number % 10) ∷ []) in
    let short = length-decimal-le 20 c.args.number in
    let ascii : c.from-else-number-lt10.result < 128 = search rules in
    let one = ap length (encode_ascii c.from-else-number-lt10.result ascii) in search rules

pub returns-then-number-lt10-clause-digits : goal.returns-then-number-lt10-clause-digits
returns-then-number-lt10-clause-digits t c =
    let one = decimal_digit c.args.number c.if-number-lt10.true in
    let ascii : c.from.result < 128 = search rules in
    let pushed = c.push.ensures.ascii ascii in search rules

pub returns-else-number-lt10-clause-digits : goal.returns-else-number-lt10-clause-digits
returns-else-number-lt10-clause-digits t c =
    let more = decimal_step c.args.number c.if-number-lt10.false c.ranges.number.fits in
    let ascii : c.from-else-number-lt10.result < 128 = search rules in
    let pushed = c.push-else-number-lt10.ensures.ascii ascii in search rules

pub returns-else-number-lt10-clause-short : goal.returns-else-number-lt10-clause-short
returns-else-number-lt10-clause-short t c =
    let more = ap length (decimal_step c.args.number c.if-number-lt10.false c.ranges.number.fits) in
    let longer = length-append (decimal (c.args.number / 10)) ((48 + c.args.number % 10) ∷ []) in
    let short = length-decimal-le 20 c.args.number in
    let ascii : c.from-else-number-lt10.result < 128 = search rules in
    let pushed = ap length (c.push-else-number-lt10.ensures.ascii ascii) in
    let joined = length-append c.decimal_of-digits.result.bytes (c.from-else-number-lt10.result ∷ []) in search rules
