use Rattle.std.proofs.Common.{◌≡◌, ◌∙◌, ap, sym, suc, ◌+◌, ◌-◌, ℕ, ◌≤◌, Some, arith}
use Rattle.dali_frame.specs.declared.forward.Frame.TheVariants.{AskDtr0}
use Rattle.dali_write.specs.declared.request.Wish.TheVariants.{Exactly}
use Rattle.dali_write.specs.Requests.{request}
use Rattle.dali_write.specs.Requests.{moved_on}
use Rattle.dali_write.proofs.PlaceLemmas.{fifth_on, behind_first, behind_second, behind_last, place_behind}
use Rattle.dali_write.proofs.block.Block.request.Goals as goal

pub returns-then-number-behind-2-clause-request : goal.returns-then-number-behind-2-clause-request
returns-then-number-behind-2-clause-request c =
    let b = c.args.self in
    let at : c.args.number ≡ 4 + b.count = omega (arith, c.if-number-behind-2.true, c.from-behind.ensures) in
    let byte : b.location ≤ 255 = omega (arith, c.well_formed) in
    let place : c.saturating_add-place.result ≡ moved_on b.location b.count =
    c.saturating_add-place.ensures ∙ sym (place_behind b.location b.count byte) in
    ap Some (c.request-then-number-behind-2.ensures
    ∙ ap (λ (l : ℕ). request (AskDtr0 c.args.unit) (Exactly l)) place)
    ∙ sym (fifth_on c.args.unit b.location _ c.args.number b.count at ∙ behind_first c.args.unit b.count _ _)

pub returns-then-number-behind-3-clause-request : goal.returns-then-number-behind-3-clause-request
returns-then-number-behind-3-clause-request c =
    let b = c.args.self in
    let at : c.args.number ≡ 4 + suc b.count = omega (arith, c.if-number-behind-3.true, c.from-behind.ensures) in
    ap Some c.request-then-number-behind-3.ensures
    ∙ sym (fifth_on c.args.unit b.location _ c.args.number (suc b.count) at ∙ behind_second c.args.unit b.count _ _)

pub returns-else-number-behind-3-clause-request : goal.returns-else-number-behind-3-clause-request
returns-else-number-behind-3-clause-request c =
    let b = c.args.self in
    let far : b.count + 2 ≤ c.args.number - 4 =
    omega (
      arith,
      c.if-number-behind-3.false,
      c.if-number-behind-2.false,
      c.if-number-behind.false,
      c.from-behind.ensures,
    ) in
    let at : c.args.number ≡ 4 + (c.args.number - 4) = omega (arith, c.if-number-lt4.false) in
    sym (fifth_on c.args.unit b.location _ c.args.number (c.args.number - 4) at
    ∙ behind_last c.args.unit b.count (c.args.number - 4) _ _ far)
