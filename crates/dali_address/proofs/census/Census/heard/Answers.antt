use Rattle.std.proofs.Common.{refl}
use Rattle.dali_address.proofs.WalkLemmas.{comes_on, falls, sent_on}
use Rattle.dali_address.proofs.census.Census.heard.Goals as goal

pub returns-in_default : goal.returns-in_default
returns-in_default c =
    let old = c.args.self.now in
    record {
      care = refl;
      told = λ told was.
          record {
            come = comes_on old.care old.walk c.after-self.result old.kept c.hear.new.self told c.args.call
                c.args.answer c.in_default.not-Open c.requires was.come (c.hear.ensures told) c.after-self.ensures.last
                c.after-self.ensures.going c.after-self.ensures.lost;
            sent = λ on.
                sent_on old.walk old.kept c.args.call c.args.answer told old.left c.requires was.sent
                c.if-self-eq0.false;
          };
      falls = falls old.walk c.after-self.result old.kept c.args.call old.left c.requires c.if-self-eq0.false;
    }
