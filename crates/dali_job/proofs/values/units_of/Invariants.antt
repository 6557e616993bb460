use Rattle.std.proofs.Common.{take}
use Rattle.dali_job.specs.Jobs.{AreUnits}
use Rattle.dali_job.proofs.JobLemmas.{texts_of}
use Rattle.dali_job.proofs.values.units_of.Given as goal

abbrev pub invariant-loop-text : goal.invariant-loop-text
invariant-loop-text l = record { units : AreUnits (texts_of (take l.text-index l.texts)) l.units.items }
