use Rattle.std.proofs.Common.{refl, sym, subst, List, ℕ, [], Some, None}
use Rattle.std.proofs.KnownBytes.{Appends-nil}
use Rattle.std.proofs.lemmas.Result.{err_from_is_err_and}
use Rattle.dali_drive.specs.SurveyLines.{HasUnitLine, IsUnitLine}
use Rattle.dali_drive.specs.Surveys.{sought_course}
use Rattle.dali_drive.proofs.SurveyLemmas.{unit_scanned, scan_cut, has_line, read_along, broke_along, breaks_reading}
use Rattle.dali_drive.proofs.survey.scan_unit.Goals as goal

pub returns-in_err-bytes-clause-broken : goal.returns-in_err-bytes-clause-broken
returns-in_err-bytes-clause-broken g c =
    let p = err_from_is_err_and c.from_residual.result c.from_residual.ensures.1 in
    rw (p.1, p.2) (breaks_reading _ c.in_err-bytes.field-0.0 c.args.unit c.args.unit _ _ _ _ _ _
    (broke_along _ (sought_course c.args.sought) c.places-places.ensures c.in_err-bytes.ensures.broken))

pub returns-in_default-clause-told : goal.returns-in_default-clause-told
returns-in_default-clause-told g c =
    let silent = rw c.in_default.is at c.in_ok-bytes.ensures.silent in
    let read = read_along _ (sought_course c.args.sought) c.places-places.ensures (silent refl) in
    unit_scanned c.args.unit c.args.sought _ _ _ _ _ _ None read [] refl (Appends-nil _)

pub unit_line-requires : goal.unit_line-requires
unit_line-requires g c =
    let here = rw c.in-Some.is at c.in_ok-bytes.ensures.read in
    let read = read_along _ (sought_course c.args.sought) c.places-places.ensures here in
    subst (λ (l : List ℕ). HasUnitLine l) (sym c.deref.ensures.0) (has_line c.args.sought c.args.unit _ _ _ read)

pub returns-then-put_all-clause-told : goal.returns-then-put_all-clause-told
returns-then-put_all-clause-told g c =
    let here = rw c.in-Some.is at c.in_ok-bytes.ensures.read in
    let read = read_along _ (sought_course c.args.sought) c.places-places.ensures here in
    let told = subst (λ (l : List ℕ). IsUnitLine c.args.unit l c.unit_line.result.items) c.deref.ensures.0
    c.unit_line.ensures in
    unit_scanned c.args.unit c.args.sought _ _ _ _ _ _ (Some c.in-Some.bytes.items) read c.deref-2.result.now
    (subst (λ (l : List ℕ). IsUnitLine c.args.unit c.in-Some.bytes.items l) (sym c.deref-2.ensures.0) told)
    (c.if-put_all.ensures.whole refl)

pub returns-else-put_all-clause-broken : goal.returns-else-put_all-clause-broken
returns-else-put_all-clause-broken g c =
    let here = rw c.in-Some.is at c.in_ok-bytes.ensures.read in
    let read = read_along _ (sought_course c.args.sought) c.places-places.ensures here in
    let told = subst (λ (l : List ℕ). IsUnitLine c.args.unit l c.unit_line.result.items) c.deref.ensures.0
    c.unit_line.ensures in
    scan_cut c.args.unit c.args.sought _ _ _ _ _ _ (Some c.in-Some.bytes.items) read c.deref-2.result.now
    (subst (λ (l : List ℕ). IsUnitLine c.args.unit c.in-Some.bytes.items l) (sym c.deref-2.ensures.0) told)
    (c.if-put_all.ensures.cut refl)
