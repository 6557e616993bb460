use Rattle.std.proofs.Common.{rules, ◌∙◌, [], ◌∷◌, refl, sym, ap, subst, ℕ}
use Rattle.std.specs.Io.KnownBytes.{Appends}
use Rattle.std.proofs.KnownBytes.{Appends-nil}
use Rattle.dali_trace.specs.declared.happening.Happening.TheVariants.{Asked, Answered}
use Rattle.dali_trace.specs.Replies.{reply_line}
use Rattle.dali_drive.specs.Transcript.{Streams}
use Rattle.dali_drive.specs.WorkedOn.{IsDrivenAt}
use Rattle.dali_drive.proofs.DriveLemmas.{replied_at, reply_next, asks_on, breaks_saying, breaks_memory, IsCut, stands_so}
use Rattle.dali_store.proofs.Betweens.{settled_between}
use Rattle.dali_drive.proofs.DeskLemmas.{still, grows_on}
use Rattle.dali_drive.proofs.WorkLemmas.{then_work}
use Rattle.dali_drive.proofs.driving.carry_out.Goals as goal

pub returns-in_default-clause-worked : goal.returns-in_default-clause-worked
returns-in_default-clause-worked g c = record {
  came_of_it = λ start past first since d quiet told. record {
    more = [];
    unasked = (c.args.order, c.args.moment) ∷ [];
    ahead = refl;
    then = _;
    driven = d.driven;
    asked = refl;
    said = Appends-nil (g.D.Desk.look c.args.desk.now).streams.out;
    broken = λ rest.
        breaks_memory start past c.args.order c.args.moment rest _ _ _ _ d.described.finished quiet
        (rw c.copy.ensures.value at (c.in_default.ensures.due start past d.described));
    left = settled_between _ _ c.requires.ready.1.1;
    told_all = told;
  };
  ends = search rules;
  grown =
      still g.D.Desk.look g.D.Desk.moment g.D.Desk.left_since g.D.Desk.same c.args.desk.now c.requires.ready.1.1
      (g.met.D.Desk.only_now c.args.desk.now) (g.met.D.Desk.same_now c.args.desk.now);
}

pub returns-then-not-say-clause-worked : goal.returns-then-not-say-clause-worked
returns-then-not-say-clause-worked g c = record {
  came_of_it = λ start past first since d quiet told.
      let order = c.args.order in
      let described = rw c.copy.ensures.value at (c.in-Ok.ensures.described start past d.described) in
      let follows = rw c.copy.ensures.value at (c.in-Ok.ensures.follows start past d.follows) in
      rw c.if-not-say.ensures.only (record {
        more = Asked order c.args.moment ∷ [];
        unasked = [];
        ahead = refl;
        then = _;
        driven = asks_on start past first _ order c.args.moment d.driven quiet described.legal.0;
        asked = refl;
        said = Appends-nil (g.D.Desk.look c.args.desk.now).streams.out;
        broken = λ rest.
            breaks_saying start (Asked order c.args.moment ∷ past) rest _ _ _ _ _ order.id c.in-Ok.reply
            (reply_next start past order c.args.moment c.in-Ok.reply described.legal follows.planned)
            (subst (IsCut _ _) (c.deref.ensures.0 ∙ c.reply_line.ensures
            ∙ ap (λ (n : ℕ). reply_line n c.in-Ok.reply) c.id-id.ensures) (c.if-not-say.ensures.cut refl));
        left = settled_between _ _ (rw c.if-not-say.ensures.only at c.if-not-say.ensures.settled);
        told_all =
            c.see.ensures start since past told
            (stands_so start _ c.submit.new.self _ described c.journal.ensures) refl;
      });
  ends = search rules;
  grown = search rules;
}

pub returns-clause-worked : goal.returns-clause-worked
returns-clause-worked g c = record {
  came_of_it = λ start past first since d quiet told.
      let order = c.args.order in
      let described = rw c.copy.ensures.value at (c.in-Ok.ensures.described start past d.described) in
      let follows = rw c.copy.ensures.value at (c.in-Ok.ensures.follows start past d.follows) in
      let line =
      c.deref.ensures.0 ∙ c.reply_line.ensures ∙ ap (λ (n : ℕ). reply_line n c.in-Ok.reply) c.id-id.ensures in
      let said = subst (Appends _ _) line (c.if-not-say.ensures.whole refl) in
      let asked = c.see.ensures start since past told
      (stands_so start _ c.submit.new.self _ described c.journal.ensures) refl in
      let answered =
      rw c.id-id.ensures at (c.see-2.ensures start since _ asked
      (stands_so start _ c.submit.new.self _ described c.journal-2.ensures) refl) in
      let d_next =
      subst (λ (s : Streams). IsDrivenAt start (Answered order.id c.in-Ok.reply ∷ Asked order c.args.moment ∷ past)
      c.submit.new.self first s) (sym c.if-not-say.ensures.only)
      (replied_at _ _ _ _ _ _ _ _ _ _ _ _ c.in-Ok.reply d quiet described follows said) in
      then_work c.work.result start past ((order, c.args.moment) ∷ []) [] first c.submit.new.self _
      (g.D.Desk.look c.args.desk.now) (g.D.Desk.look c.say.new.self) _ (g.B.Observer.told start since c.see-2.new.self)
      _ _ (record {
        more = Answered order.id c.in-Ok.reply ∷ Asked order c.args.moment ∷ [];
        driven_at = d_next;
        asked = refl;
        said = said;
        told_all = answered;
      }) (c.work.ensures.worked.came_of_it start _ first since d_next answered);
  ends = search rules;
  grown =
      grows_on g.D.Desk.look g.D.Desk.moment g.D.Desk.left_since g.D.Desk.same g.met.D.Desk.same_on _ _ _
      c.if-not-say.ensures.grown c.work.ensures.worked.grown;
}
