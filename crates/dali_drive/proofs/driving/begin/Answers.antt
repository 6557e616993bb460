use Rattle.std.proofs.Common.{rules, [], refl}
use Rattle.dali_engine.specs.WriterState.{start_of}
use Rattle.dali_drive.proofs.DriveLemmas.{begun_at}
use Rattle.dali_drive.proofs.driving.begin.Goals as goal

pub returns-clause-worked : goal.returns-clause-worked
returns-clause-worked g c = record {
  came_of_it =
      c.work.ensures.worked.came_of_it (start_of c.args.writer.now) [] _ c.args.observer.now
      (begun_at (start_of c.args.writer.now) c.args.writer.now _ _ _ _ c.rest.ensures.described
      c.rest.ensures.follows) (c.begin.ensures (start_of c.args.writer.now) (rw c.journal.ensures refl));
  ends = search rules;
  grown = search rules;
}
