use Rattle.std.proofs.Common.{◌≡◌, ◌-◌, ◌∙◌, List, ℕ, drop, length, arith, length-drop, ap}
use Rattle.std.proofs.lemmas.List.{take_all}
use Rattle.dali_bank.proofs.NumberLemmas.{last_bytes}
use Rattle.dali_bank.proofs.spelling.number_bytes.Goals as goal

pub returns : goal.returns
returns c =
    let size = c.args.length in
    let spelled = last_bytes size c.args.number c.requires.room c.requires.fits c.ranges.number.fits in
    let last : List ℕ = drop (8 - size) c.to_be_bytes.result in
    let all : c.copied.result.items ≡ last = c.copied.ensures ∙ take_all (8 - (8 - size)) last
    (simp length-drop (omega (arith, ap (length {A = ℕ}) c.to_be_bytes.ensures))) in
    rw (all, c.to_be_bytes.ensures) spelled
