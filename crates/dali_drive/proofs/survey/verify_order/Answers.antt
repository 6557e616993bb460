use Rattle.std.proofs.Common.{refl, ◌∙◌, ℕ, List, Some, None, subst}
use Rattle.std.proofs.lemmas.Result.{err_from_is_err_and}
use Rattle.dali_read.specs.Findings.{IsFound}
use Rattle.dali_drive.proofs.SurveyLemmas.{order_verified, verify_cut, breaks_reading, read_of, broke_of}
use Rattle.dali_drive.proofs.survey.verify_order.Goals as goal

pub returns-in_err-bytes-clause-broken : goal.returns-in_err-bytes-clause-broken
returns-in_err-bytes-clause-broken g c =
    let p = err_from_is_err_and c.from_residual.result c.from_residual.ensures.1 in
    rw (p.1, p.2) (breaks_reading _ c.in_err-bytes.field-0.0 c.args.order.now _ _ _ _ _ _ _
    (broke_of c.unit.result c.args.order.now.unit c.unit.ensures.value c.in_err-bytes.ensures.broken))

pub returns-then-put_all-clause-told : goal.returns-then-put_all-clause-told
returns-then-put_all-clause-told g c =
    let silent = rw c.in_default.is at c.in_ok-bytes.ensures.silent in
    let read = read_of c.unit.result c.args.order.now.unit c.unit.ensures.value (silent refl) in
    order_verified c.args.order.now _ _ _ _ _ _ None read c.deref.result.now
    (c.deref.ensures.0 ∙ c.order_silent_line.ensures) None c.new.result.items (refl, c.new.ensures)
    (c.if-put_all.ensures.whole refl)

pub returns-else-put_all-clause-broken : goal.returns-else-put_all-clause-broken
returns-else-put_all-clause-broken g c =
    let silent = rw c.in_default.is at c.in_ok-bytes.ensures.silent in
    let read = read_of c.unit.result c.args.order.now.unit c.unit.ensures.value (silent refl) in
    verify_cut c.args.order.now _ _ _ _ _ _ None read c.deref.result.now
    (c.deref.ensures.0 ∙ c.order_silent_line.ensures) (c.if-put_all.ensures.cut refl)

pub returns-then-put_all-2-clause-told : goal.returns-then-put_all-2-clause-told
returns-then-put_all-2-clause-told g c =
    let here = rw c.in-Some.is at c.in_ok-bytes.ensures.read in
    let read = read_of c.unit.result c.args.order.now.unit c.unit.ensures.value here in
    let found = subst (λ (l : List ℕ). IsFound c.args.order.now.updates l c.compare-finding.result) c.deref-2.ensures.0
    c.compare-finding.ensures in
    order_verified c.args.order.now _ _ _ _ _ _ (Some c.in-Some.bytes.items) read c.deref-3.result.now
    (c.compare-finding.result, found, c.deref-3.ensures.0 ∙ c.finding_line.ensures) (Some c.compare-finding.result)
    c.in-Some.bytes.items (c.compare-finding.result, found, refl, refl) (c.if-put_all-2.ensures.whole refl)

pub returns-else-put_all-2-clause-broken : goal.returns-else-put_all-2-clause-broken
returns-else-put_all-2-clause-broken g c =
    let here = rw c.in-Some.is at c.in_ok-bytes.ensures.read in
    let read = read_of c.unit.result c.args.order.now.unit c.unit.ensures.value here in
    let found = subst (λ (l : List ℕ). IsFound c.args.order.now.updates l c.compare-finding.result) c.deref-2.ensures.0
    c.compare-finding.ensures in
    verify_cut c.args.order.now _ _ _ _ _ _ (Some c.in-Some.bytes.items) read c.deref-3.result.now
    (c.compare-finding.result, found, c.deref-3.ensures.0 ∙ c.finding_line.ensures) (c.if-put_all-2.ensures.cut refl)
