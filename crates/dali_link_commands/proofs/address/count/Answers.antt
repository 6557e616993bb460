use Rattle.std.proofs.Common.{◌∙◌, List, refl, subst, ℕ}
use Rattle.std.specs.Io.KnownBytes.{Appends}
use Rattle.dali_text.specs.Output.{held}
use Rattle.dali_link_commands.proofs.AddressLemmas.{counted_then}
use Rattle.dali_link_commands.proofs.address.count.Goals as goal

pub returns-else-not-put_all : goal.returns-else-not-put_all
returns-else-not-put_all g c =
    let told =
    subst
    (λ (text : List ℕ). Appends (held g.W.Write.contents c.args.desk.now.out.output)
    (held g.W.Write.contents c.put_all.new.sink.output) text)
    (c.deref.ensures.0 ∙ c.count_text.ensures)
    (c.if-not-put_all.ensures.whole refl) in
    record {
      answer = (
        counted_then _ _ refl (λ _ left. left) c.run.result _ c.in-Ok.end c.in-Ok.ensures.counted told
            c.run.ensures.answer.0,
        c.run.ensures.answer.1,
      );
    }
