use Rattle.std.proofs.Common.{◌∙◌, refl, subst}
use Rattle.std.specs.Io.KnownBytes.{Appends}
use Rattle.dali_report.specs.declared.line.LastReply.{LastReply}
use Rattle.dali_report.specs.Lines.{line_of, last_data}
use Rattle.dali_report.specs.Told.{report_held}
use Rattle.dali_report.proofs.ReportLemmas.{last_is, told_last, with_last}
use Rattle.dali_report.proofs.report.Report.tell.Goals as goal

pub returns : goal.returns
returns g c = record {
  told = λ start first past told same last.
      let kept = c.write_last.ensures.same in
      told_last g.W.Write.contents start first c.args.self.now past told c.args.id c.args.reply _ last
      (rw kept refl) (rw kept refl) refl (rw kept refl) c.new-self.ensures (rw kept refl)
      (with_last g.W.Write.contents start first c.args.self.now past told c.args.id c.args.reply _ _ _
      c.is_well.ensures c.ends_now-ended_now.ensures
      (λ had every all_now is none. c.with-self.ensures had every all_now ((rw kept refl) ∙ is) none))
      (λ well.
      let written = c.write_last.ensures.written well in (
        written.0,
        subst (λ (l : LastReply). Appends (report_held g.W.Write.contents c.args.self.now)
            (report_held g.W.Write.contents c.write_last.new.self) (line_of (last_data l)))
            (last_is g.W.Write.contents start first c.args.self.now past told c.args.id c.args.reply
            c.args.journal.now.records same _
            (rw (c.unit.ensures, c.moment.ensures, c.ends_now-ended_now.ensures) refl))
            written.1,
      ))
      (λ failed. rw (c.write_last.ensures.silent failed) (failed, refl));
}
