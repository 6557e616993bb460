use Rattle.std.proofs.Common.{refl}
use Rattle.dali_report.specs.Lines.{line_of, last_data}
use Rattle.dali_report.proofs.ReportLemmas.{unwanted, wanted, not_both}
use Rattle.dali_report.proofs.report.Report.write_last.Goals as goal

pub returns-then-is_wanted : goal.returns-then-is_wanted
returns-then-is_wanted g c = record {
  same = c.put.ensures.same;
  written = λ failed. wanted g.W.Write.contents c.args.self.now c.put.new.self c.line.result
      (line_of (last_data c.args.last.now)) (c.put.ensures.put failed) c.line.ensures;
  silent = not_both c.args.self.now (c.is_wanted.ensures.wanted c.if-is_wanted.true);
}

pub returns-else-is_wanted : goal.returns-else-is_wanted
returns-else-is_wanted g c = record {
  same = refl;
  written = λ well. (
    well,
    unwanted g.W.Write.contents c.args.self.now (line_of (last_data c.args.last.now))
        (c.is_wanted.ensures.unwanted c.if-is_wanted.false) well,
  );
  silent = λ failed. refl;
}
