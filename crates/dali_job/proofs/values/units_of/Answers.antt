use Rattle.std.proofs.Common.{List, [], ◌∷◌, ◌++◌, sym, subst, ◌+◌, ◌≡◌, suc, take, arith, ℕ}
use Rattle.dali_job.specs.Jobs.{AreUnits}
use Rattle.dali_job.proofs.JobLemmas.{no_units, texts_of, units_more}
use Rattle.dali_job.proofs.values.units_of.Goals as goal

pub returns-in_default-clause-none : goal.returns-in_default-clause-none
returns-in_default-clause-none c =
    no_units c.args.texts.now c.loop-text.text-index _ c.loop-text-test.true c.in_default.ensures.none

pub loop-text-preserved : goal.loop-text-preserved
loop-text-preserved c =
    let more =
    units_more c.args.texts.now c.loop-text.text-index _ c.loop-text.units.items c.in-Some.unit c.loop-text-test.true
    c.loop-text.invariant.units c.in-Some.ensures.found in
    let next : suc c.loop-text.text-index ≡ c.loop-text.text-index + 1 = omega arith in
    record {
      units = subst (λ (units : List ℕ). AreUnits (texts_of (take (c.loop-text.text-index + 1) c.args.texts.now)) units)
          (sym c.in_ok-push.ensures.items)
          (subst
          (λ (count : ℕ). AreUnits (texts_of (take count c.args.texts.now))
          (c.loop-text.units.items ++ c.in-Some.unit ∷ []))
          next more);
    }
