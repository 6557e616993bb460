use Rattle.std.proofs.Common.{◌∙◌, inl, inr, subst}
use Rattle.dali_text.specs.Output.{has_failed, held}
use Rattle.dali_report.specs.declared.outcome.Outcome.{Outcome}
use Rattle.dali_link_commands.specs.FollowAnswers.{TellsFollowed}
use Rattle.dali_link_commands.proofs.BehindLemmas.{break_told}
use Rattle.dali_link_commands.proofs.follow.follow_source.Goals as goal

pub returns-in-Ok-clause-answer : goal.returns-in-Ok-clause-answer
returns-in-Ok-clause-answer g c =
    let followed = rw c.terms_of.ensures at c.in-Ok.ensures.followed in
    inl (record {
      lost = has_failed c.follow_stored.new.desk.out.output;
      replies = held g.W.Write.contents c.follow_stored.new.desk.out.output;
      follows = record {
        writer = c.in-Ok._writer;
        followed = followed;
        unfailed = c.in-Ok.ensures.ready.1.0;
        settled = c.in-Ok.ensures.settled;
      };
      told =
          subst (λ (o : Outcome). TellsFollowed (g.G.OrderSource.failed c.follow_stored.new.orders)
          (g.G.OrderSource.refused c.follow_stored.new.orders) c.args.task.now.required o c.tell_followed.result
          (held g.W.Write.contents c.follow_stored.new.desk.out.output)
          (held g.W.Write.contents c.tell_followed.new.lines.output))
          (c.outcome.ensures ∙ followed.observed.told_all.outcome_is)
          c.tell_followed.ensures.told;
    })

pub returns-in-Err-clause-answer : goal.returns-in-Err-clause-answer
returns-in-Err-clause-answer g c =
    let desk = c.follow_stored.new.desk in
    rw c.tell_broken.ensures.only (
    inr (break_told g.G.Orders.gave g.N.Write.contents c.args.desk.now.older c.args.task.now.pace c.args.report.now
    c.follow_stored.new.observer _ _ _ _ (held g.W.Write.contents desk.out.output) (has_failed desk.out.output)
    c.tell_broken.result c.in-Err.fault (rw c.terms_of.ensures at c.in-Err.ensures.broken) c.in-Err.ensures.err
    c.tell_broken.ensures.told)
    )

pub returns-in-Err-clause-any_moment : goal.returns-in-Err-clause-any_moment
returns-in-Err-clause-any_moment g c =
    let left = rw c.terms_of.ensures at c.follow_stored.ensures.any_moment in
    rw c.tell_broken.ensures.only (record { later = left.later; each = left.each; before = left.before })
