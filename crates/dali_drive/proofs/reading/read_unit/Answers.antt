use Rattle.std.proofs.Common.{refl, sym, ◌∙◌, ◌++◌, length, length-append, ap, ℕ, List, arith}
use Rattle.std.proofs.lemmas.Result.{err_from_is_err_and}
use Rattle.dali_read.specs.Places.{course_of}
use Rattle.dali_drive.proofs.ReadingLemmas.{reading_breaks, reading_is_silent, reading_goes_on, told_count}
use Rattle.dali_drive.proofs.reading.read_unit.Goals as goal

pub returns-in_err-more-clause-broken : goal.returns-in_err-more-clause-broken
returns-in_err-more-clause-broken g c =
    let p = err_from_is_err_and c.from_residual.result c.from_residual.ensures.1 in
    let next = ap (course_of c.args.places.now) (sym c.deref.ensures.0) ∙ sym c.in-Some.ensures.next in
    rw (p.1, p.2) (reading_breaks c.args.unit (course_of c.args.places.now) _ _ _ _ c.in-Some.block _
    c.loop-block.invariant.read c.in-Some.ensures.fits next c.in_err-more.ensures.broken)

pub returns-in_default-2-clause-silent : goal.returns-in_default-2-clause-silent
returns-in_default-2-clause-silent g c = λ none.
    let silent = rw c.in_default-2.is at c.in_ok-more.ensures.silent in
    let next = ap (course_of c.args.places.now) (sym c.deref.ensures.0) ∙ sym c.in-Some.ensures.next in
    reading_is_silent c.args.unit (course_of c.args.places.now) _ _ _ _ c.in-Some.block
    c.loop-block.invariant.read c.in-Some.ensures.fits next (silent refl)

pub keep_block-requires : goal.keep_block-requires
keep_block-requires g c =
    let told = rw c.in-Some-2.is at c.in_ok-more.ensures.read in
    let count = told_count c.args.unit c.in-Some.block c.in-Some-2.more.items _ _ told in
    let bytes_are = ap (λ (l : List ℕ). length l) c.deref.ensures.0 in
    let more_is = ap (λ (l : List ℕ). length l) c.deref-in-Some.ensures.0 in
    omega (arith, c.in-Some.ensures.few)

pub loop-block-smaller : goal.loop-block-smaller
loop-block-smaller g c =
    let told = rw c.in-Some-2.is at c.in_ok-more.ensures.read in
    let count = told_count c.args.unit c.in-Some.block c.in-Some-2.more.items _ _ told in
    let bytes_are = ap (λ (l : List ℕ). length l) c.deref.ensures.0 in
    let more_is = ap (λ (l : List ℕ). length l) c.deref-in-Some.ensures.0 in
    let all_are = ap (λ (l : List ℕ). length l) c.keep_block.ensures in
    let long = length-append c.loop-block.bytes.items c.deref-in-Some.result.now in
    omega (arith, c.in-Some.ensures.few, c.in-Some.ensures.fits.some)

pub loop-block-preserved : goal.loop-block-preserved
loop-block-preserved g c =
    let told = rw c.in-Some-2.is at c.in_ok-more.ensures.read in
    let next = ap (course_of c.args.places.now) (sym c.deref.ensures.0) ∙ sym c.in-Some.ensures.next in
    let joined = c.keep_block.ensures
    ∙ ap (λ (l : List ℕ). c.loop-block.bytes.items ++ l) c.deref-in-Some.ensures.0 in
    record {
      read =
          reading_goes_on c.args.unit (course_of c.args.places.now) _ _ _ _ _ _ c.in-Some.block joined
          c.loop-block.invariant.read c.in-Some.ensures.fits next told;
      link_out = c.in_ok-more.ensures.ends.1;
      link_in = c.in_ok-more.ensures.ends.2;
    }
