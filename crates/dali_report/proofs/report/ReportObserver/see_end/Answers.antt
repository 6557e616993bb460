use Rattle.std.proofs.Common.{◌∙◌, ◌++◌, refl, sym}
use Rattle.dali_report.specs.Lines.{line_of, end_data}
use Rattle.dali_report.proofs.ReportLemmas.{unwanted, wanted, more_written, not_both}
use Rattle.dali_report.proofs.report.ReportObserver.see_end.Goals as goal

pub returns-then-is_wanted : goal.returns-then-is_wanted
returns-then-is_wanted g c = λ start first past told.
    let line = line_of (end_data first.run c.args.fault c.args.frame.now c.args.read.now) in
    let kept = c.put.ensures.same in
    record {
      outcome_is = (rw kept refl) ∙ told.outcome_is;
      run_is = (rw kept refl) ∙ told.run_is;
      written = (
        told.written.0 ++ line,
        (told.written.0, told.written.1, refl),
        more_written g.W.Write.contents first c.args.self.now c.put.new.self told.written.0 line told.written.2
            (λ failed. wanted g.W.Write.contents c.args.self.now c.put.new.self c.end_line.result line
            (c.put.ensures.put failed) (rw (sym told.run_is) c.end_line.ensures))
            (not_both c.args.self.now (c.is_wanted.ensures.wanted c.if-is_wanted.true)),
      );
    }

pub returns-else-is_wanted : goal.returns-else-is_wanted
returns-else-is_wanted g c = λ start first past told.
    let line = line_of (end_data first.run c.args.fault c.args.frame.now c.args.read.now) in
    record {
      outcome_is = told.outcome_is;
      run_is = told.run_is;
      written = (
        told.written.0 ++ line,
        (told.written.0, told.written.1, refl),
        more_written g.W.Write.contents first c.args.self.now c.args.self.now told.written.0 line told.written.2
            (λ well. (
              well,
              unwanted g.W.Write.contents c.args.self.now line
                  (c.is_wanted.ensures.unwanted c.if-is_wanted.false) well,
            ))
            (λ failed. (failed, refl)),
      );
    }
