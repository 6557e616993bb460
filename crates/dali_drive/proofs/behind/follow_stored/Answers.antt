use Rattle.dali_drive.proofs.StoreLemmas.{driven_part}
use Rattle.dali_drive.proofs.behind.follow_stored.Goals as goal

pub returns-in-Ok-follow-clause-followed : goal.returns-in-Ok-follow-clause-followed
returns-in-Ok-follow-clause-followed g c =
    let o = c.in-Ok.ensures.journal in
    record {
      behind = o.behind;
      observed =
          rw (c.with_pace-writer.ensures.journal, c.with_pace-writer.ensures.pace, ← o.journal_is, o.streams) at
          c.in-Ok-follow.ensures.followed;
    }

pub returns-in-Err-follow-clause-broken : goal.returns-in-Err-follow-clause-broken
returns-in-Err-follow-clause-broken g c =
    let o = c.in-Ok.ensures.journal in
    record {
      behind = o.behind;
      observed =
          rw (c.with_pace-writer.ensures.journal, c.with_pace-writer.ensures.pace, ← o.journal_is, o.streams) at
          c.in-Err-follow.ensures.broken;
    }

pub returns-in-Ok-follow-clause-any_moment : goal.returns-in-Ok-follow-clause-any_moment
returns-in-Ok-follow-clause-any_moment g c =
    driven_part (λ (desk : g.row.D.Denot). (g.D.Desk.look desk).streams)
    (λ (desk : g.row.D.Denot). (g.D.Desk.look desk).may_leave) g.D.Desk.moment g.D.Desk.left_since
    c.args.terms.orders c.args.terms.bytes _ _ _ _ _ c.in-Ok.ensures.journal c.in-Ok.ensures.any_moment
    c.in-Ok-follow.ensures.grown.leaves

pub returns-in-Err-follow-clause-any_moment : goal.returns-in-Err-follow-clause-any_moment
returns-in-Err-follow-clause-any_moment g c =
    driven_part (λ (desk : g.row.D.Denot). (g.D.Desk.look desk).streams)
    (λ (desk : g.row.D.Denot). (g.D.Desk.look desk).may_leave) g.D.Desk.moment g.D.Desk.left_since
    c.args.terms.orders c.args.terms.bytes _ _ _ _ _ c.in-Ok.ensures.journal c.in-Ok.ensures.any_moment
    c.in-Err-follow.ensures.grown.leaves
