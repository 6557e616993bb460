use Rattle.std.proofs.Common.{rules, ◌≡◌, ◌∷◌, subst, sym, true}
use Rattle.dali_trace.specs.declared.happening.Happening.{Happening}
use Rattle.dali_trace.specs.declared.happening.Happening.TheVariants.{Answered}
use Rattle.dali_trace.specs.Trace.{records_of}
use Rattle.dali_report.specs.Reports.{is_last_reply}
use Rattle.dali_report.specs.Told.{IsTold}
use Rattle.dali_report.proofs.report.ReportObserver.see.Goals as goal

pub returns-in-Answered : goal.returns-in-Answered
returns-in-Answered g c = λ start first past told same beside.
    let last : is_last_reply (Answered c.in-Answered.id c.in-Answered.reply) ≡ true = search rules in
    subst (λ (x : Happening). IsTold g.W.Write.contents start first c.tell.new.self (x ∷ past)) (sym c.in-Answered.is)
    (c.tell.ensures.told start first past told
    (subst (λ (x : Happening). records_of start (x ∷ past) ≡ c.args.journal.now.records) c.in-Answered.is same) last)
