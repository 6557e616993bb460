use Rattle.std.proofs.Common.{arith}
use Rattle.std.proofs.lemmas.Bool.Decides.{nat_tests}
use Rattle.dali_bank.proofs.GtinLemmas.{gtin_number_from_digits, gtin_number_small}
use Rattle.dali_bank.proofs.gtin.is_gtin_number.Goals as goal

pub returns-then-number-pow : goal.returns-then-number-pow
returns-then-number-pow c =
    let d = c.digits_of.ensures in
    let same = gtin_number_from_digits c.args.number c.digits_of.result d.sized d.digits d.value in
    (λ yes. same.0 (c.is_gtin.ensures.0 yes), λ known. c.is_gtin.ensures.1 (same.1 known))

pub returns-else-number-pow : goal.returns-else-number-pow
returns-else-number-pow c =
    let past = c.if-number-pow.false in
    let p = c.pow.ensures in (
      λ yes. absurd (grind (arith, nat_tests)),
      λ known. absurd (omega (arith, p, past, gtin_number_small c.args.number known)),
    )
