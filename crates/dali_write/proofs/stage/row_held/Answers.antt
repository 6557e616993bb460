use Rattle.std.proofs.Common.{◌∷◌, ◌∙◌, sym, take, drop, refl, arith}
use Rattle.dali_write.proofs.RowLemmas.{bytes_in, few_in}
use Rattle.dali_write.proofs.RequestLemmas.{row_told, row_other, row_requests, piece_told, piece_other, piece_frames}
use Rattle.dali_write.proofs.stage.row_held.Goals as goal

pub returns-then-holds-clause-some : goal.returns-then-holds-clause-some
returns-then-holds-clause-some c =
    let behind = c.args.behind.now in
    let others = c.others_in_row-others.result in
    row_told c.args.most c.args.most c.args.own behind (drop others behind)
    (c.args.own.1 ∷ bytes_in (take others behind)) c.args.read.now refl
    (c.others_in_row-others.ensures.rows c.args.own.1) (sym c.holds.ensures ∙ c.if-holds.true)

pub returns-then-holds-clause-again : goal.returns-then-holds-clause-again
returns-then-holds-clause-again c after =
    let behind = c.args.behind.now in
    let others = c.others_in_row-others.result in
    piece_told c.args.most c.args.own behind (drop others behind)
    (c.args.own.1 ∷ bytes_in (take others behind)) c.args.read.now after
    (c.others_in_row-others.ensures.rows c.args.own.1) (sym c.holds.ensures ∙ c.if-holds.true)

pub returns-then-holds-clause-limit : goal.returns-then-holds-clause-limit
returns-then-holds-clause-limit c unit =
    let behind = c.args.behind.now in
    let others = c.others_in_row-others.result in
    omega (
      arith,
      row_requests unit c.args.most c.args.most c.args.own behind (drop others behind)
          (c.args.own.1 ∷ bytes_in (take others behind)) refl
          (c.others_in_row-others.ensures.rows c.args.own.1),
      few_in others behind,
    )

pub returns-then-holds-clause-left : goal.returns-then-holds-clause-left
returns-then-holds-clause-left c unit after =
    let behind = c.args.behind.now in
    let others = c.others_in_row-others.result in
    piece_frames unit c.args.most c.args.own behind (drop others behind)
    (c.args.own.1 ∷ bytes_in (take others behind)) after (c.others_in_row-others.ensures.rows c.args.own.1)

pub returns-else-holds-clause-none : goal.returns-else-holds-clause-none
returns-else-holds-clause-none c e =
    let behind = c.args.behind.now in
    let others = c.others_in_row-others.result in
    row_other c.args.most c.args.most c.args.own behind (drop others behind)
    (c.args.own.1 ∷ bytes_in (take others behind)) c.args.read.now refl
    (c.others_in_row-others.ensures.rows c.args.own.1) (sym c.holds.ensures ∙ c.if-holds.false)

pub returns-else-holds-clause-other : goal.returns-else-holds-clause-other
returns-else-holds-clause-other c after e =
    let behind = c.args.behind.now in
    let others = c.others_in_row-others.result in
    piece_other c.args.most c.args.own behind (drop others behind)
    (c.args.own.1 ∷ bytes_in (take others behind)) c.args.read.now after
    (c.others_in_row-others.ensures.rows c.args.own.1) (sym c.holds.ensures ∙ c.if-holds.false)
