use Rattle.std.proofs.Common.{rules, ◌∙◌, [], ◌∷◌, refl, sym, subst, ℕ, List}
use Rattle.std.specs.Io.KnownBytes.{Appends}
use Rattle.std.proofs.KnownBytes.{Appends-nil}
use Rattle.dali_trace.specs.declared.happening.Happening.TheVariants.{Kept, Sent, Answered}
use Rattle.dali_trace.specs.Replies.{reply_line}
use Rattle.dali_drive.specs.Driven.{IsNextFrame}
use Rattle.dali_drive.specs.Lines.{TakesText}
use Rattle.dali_drive.specs.Transcript.{link_shown}
use Rattle.dali_drive.proofs.DriveLemmas.{keeps_on, sends_on, says_on, breaks_record, breaks_exchange, breaks_saying, none_unasked, stands_so, told_of_end}
use Rattle.dali_drive.proofs.DriveLemmas.{IsCut}
use Rattle.dali_store.proofs.Betweens.{settled_between}
use Rattle.dali_drive.proofs.DeskLemmas.{still}
use Rattle.dali_drive.proofs.driving.advance.Goals as goal

pub returns-then-not-keep-clause-worked : goal.returns-then-not-keep-clause-worked
returns-then-not-keep-clause-worked g c = record {
  came_of_it = λ start past first since d told.
      let next = c.in-Keep.ensures.done start past d.described d.follows (Kept c.in-Keep.entry) refl in
      rw c.if-not-keep.ensures.only (record {
        more = [];
        unasked = [];
        ahead = refl;
        then = _;
        driven = d.driven;
        asked = refl;
        said = Appends-nil (g.D.Desk.look c.args.desk.now).streams.out;
        broken = λ rest. breaks_record start past rest _ _ _ _ _ c.in-Keep.entry next
            (c.bytes.ensures.in_range (c.in-Keep.ensures.short c.in-Keep.entry refl))
            (subst (IsCut _ _) (c.deref.ensures.0 ∙ c.bytes.ensures.spelled) (c.if-not-keep.ensures.cut refl));
        left = c.if-not-keep.ensures.left;
        told_all = told;
      });
  ends = search rules;
  grown = search rules;
}

pub returns-in-Err-clause-worked : goal.returns-in-Err-clause-worked
returns-in-Err-clause-worked g c = record {
  came_of_it = λ start past first since d told.
      let next : IsNextFrame start past c.in-Send.frame =
      λ answer. c.in-Send.ensures.done start past d.described d.follows (Sent c.in-Send.frame answer) (answer, refl) in
      rw c.in-Err.ensures.only (record {
        more = [];
        unasked = [];
        ahead = none_unasked c.in-Err.fault c.in-Send.frame _ _ c.in-Err.ensures.broken;
        then = _;
        driven = d.driven;
        asked = refl;
        said = Appends-nil (g.D.Desk.look c.args.desk.now).streams.out;
        broken = λ rest. breaks_exchange c.in-Err.fault start past rest _ _ _ _ _ _ c.in-Send.frame next
            c.in-Err.ensures.broken;
        left = settled_between _ _ (rw c.in-Err.ensures.only at c.in-Err.ensures.settled);
        told_all =
            told_of_end c.in-Err.fault (g.B.Observer.told start since c.see_end.new.self)
            (g.B.Observer.told_end start since c.see_end.new.self) start past
            (link_shown (g.D.Desk.look c.args.desk.now).streams.link (g.D.Desk.look c.args.desk.now).streams.answers)
            (link_shown (g.D.Desk.look c.exchange.new.self).streams.link
            (g.D.Desk.look c.exchange.new.self).streams.answers)
            c.in-Send.frame _ next c.in-Err.ensures.broken
            (subst (λ (t : List ℕ). TakesText c.in-Err.fault t (g.D.Desk.look c.args.desk.now).streams.answers
            (g.D.Desk.look c.exchange.new.self).streams.answers) (sym c.deref-in-Err.ensures.0) c.in-Err.ensures.text)
            (c.see_end.ensures start since past told);
      });
  ends = search rules;
  grown = search rules;
}

pub returns-then-not-say-clause-worked : goal.returns-then-not-say-clause-worked
returns-then-not-say-clause-worked g c = record {
  came_of_it = λ start past first since d told. rw c.if-not-say.ensures.only (record {
    more = [];
    unasked = [];
    ahead = refl;
    then = _;
    driven = d.driven;
    asked = refl;
    said = Appends-nil (g.D.Desk.look c.args.desk.now).streams.out;
    broken = λ rest. breaks_saying start past rest _ _ _ _ _ c.in-Say.id c.in-Say.reply
        (c.in-Say.ensures.done start past d.described d.follows (Answered c.in-Say.id c.in-Say.reply) refl)
        (subst (IsCut _ _) {y = reply_line c.in-Say.id c.in-Say.reply} (c.deref-in-Say.ensures.0 ∙ c.reply_line.ensures)
        (c.if-not-say.ensures.cut refl));
    left = settled_between _ _ (rw c.if-not-say.ensures.only at c.if-not-say.ensures.settled);
    told_all = told;
  });
  ends = search rules;
  grown = search rules;
}

pub returns-else-not-keep-clause-worked : goal.returns-else-not-keep-clause-worked
returns-else-not-keep-clause-worked g c = record {
  came_of_it = λ start past first since d told.
      let described =
      c.kept.ensures.described start past c.in-Keep.entry (sym c.in-Keep.ensures.phase) d.described in
      rw c.if-not-keep.ensures.only (record {
        more = Kept c.in-Keep.entry ∷ [];
        driven_at = record {
          driven =
              keeps_on start past first _ _ _ _ _ c.in-Keep.entry d.driven
              (c.in-Keep.ensures.done start past d.described d.follows (Kept c.in-Keep.entry) refl)
              (c.bytes.ensures.in_range (c.in-Keep.ensures.short c.in-Keep.entry refl))
              (subst (Appends _ _) (c.deref.ensures.0 ∙ c.bytes.ensures.spelled) (c.if-not-keep.ensures.whole refl));
          described = described;
          follows =
              c.kept.ensures.follows start past c.in-Keep.entry (sym c.in-Keep.ensures.phase) d.described d.follows;
        };
        asked = refl;
        said = Appends-nil (g.D.Desk.look c.args.desk.now).streams.out;
        told_all =
            c.see.ensures start since past told
            (stands_so start (Kept c.in-Keep.entry ∷ past) _ _ described c.journal.ensures)
            (c.cause-cause.ensures start past c.in-Keep.entry d.described d.follows (sym c.in-Keep.ensures.phase));
      });
  ends = search rules;
  grown = search rules;
}

pub returns-in-Ok-clause-worked : goal.returns-in-Ok-clause-worked
returns-in-Ok-clause-worked g c = record {
  came_of_it = λ start past first since d told.
      let frame = c.in-Send.frame in
      let answer = c.in-Ok.answer in
      let described = c.heard.ensures.described start past frame (sym c.in-Send.ensures.phase) d.described in
      rw c.in-Ok.ensures.only (record {
        more = Sent frame answer ∷ [];
        driven_at = record {
          driven = sends_on start past first _ _ _ _ _ _ frame answer d.driven
              (c.in-Send.ensures.done start past d.described d.follows (Sent frame answer) (answer, refl))
              c.in-Ok.ensures.told;
          described = described;
          follows = c.heard.ensures.follows start past frame (sym c.in-Send.ensures.phase) d.described d.follows;
        };
        asked = refl;
        said = Appends-nil (g.D.Desk.look c.args.desk.now).streams.out;
        told_all =
            c.see-in-Send.ensures start since past told
            (stands_so start (Sent frame answer ∷ past) _ _ described c.journal-in-Send.ensures) refl;
      });
  ends = search rules;
  grown = search rules;
}

pub returns-else-not-say-clause-worked : goal.returns-else-not-say-clause-worked
returns-else-not-say-clause-worked g c = record {
  came_of_it = λ start past first since d told.
      let said = Answered c.in-Say.id c.in-Say.reply in
      let described =
      c.said.ensures.described start past c.in-Say.id c.in-Say.reply (sym c.in-Say.ensures.phase) d.described in
      rw c.if-not-say.ensures.only (record {
        more = said ∷ [];
        driven_at = record {
          driven = says_on start past first _ _ _ _ _ c.in-Say.id c.in-Say.reply d.driven
              (c.in-Say.ensures.done start past d.described d.follows said refl)
              (subst (Appends _ _) {y = reply_line c.in-Say.id c.in-Say.reply}
              (c.deref-in-Say.ensures.0 ∙ c.reply_line.ensures) (c.if-not-say.ensures.whole refl));
          described = described;
          follows =
              c.said.ensures.follows start past c.in-Say.id c.in-Say.reply (sym c.in-Say.ensures.phase) d.described
              d.follows;
        };
        asked = refl;
        said =
            subst (Appends _ _) {y = reply_line c.in-Say.id c.in-Say.reply}
            (c.deref-in-Say.ensures.0 ∙ c.reply_line.ensures) (c.if-not-say.ensures.whole refl);
        told_all =
            c.see-in-Say.ensures start since past told
            (stands_so start (said ∷ past) _ _ described c.journal-in-Say.ensures) refl;
      });
  ends = search rules;
  grown = search rules;
}

pub returns-in-Idle-clause-worked : goal.returns-in-Idle-clause-worked
returns-in-Idle-clause-worked g c = record {
  came_of_it = λ start past first since d told. record {
    more = [];
    driven_at = d;
    asked = refl;
    said = Appends-nil (g.D.Desk.look c.args.desk.now).streams.out;
    told_all = told;
  };
  ends = search rules;
  grown =
      still g.D.Desk.look g.D.Desk.moment g.D.Desk.left_since g.D.Desk.same c.args.desk.now c.requires.ahead.1
      (g.met.D.Desk.only_now c.args.desk.now) (g.met.D.Desk.same_now c.args.desk.now);
}
