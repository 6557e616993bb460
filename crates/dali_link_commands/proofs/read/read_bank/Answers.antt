use Rattle.std.proofs.Common.{rules, ◌≡◌, ◌⊎◌, ◌∙◌, ap, inl, inr, refl, subst, List, ℕ}
use Rattle.dali_input.specs.BankText.{rows_text}
use Rattle.dali_drive.specs.SurveyLines.{bytes_line}
use Rattle.dali_store.specs.Stores.{Becomes, LeavesOnly}
use Rattle.dali_text.specs.Output.{has_failed, held}
use Rattle.dali_input.specs.declared.command_fault.Status.TheVariants.{Good, Refused}
use Rattle.dali_link_commands.proofs.DriveLemmas.{line_told}
use Rattle.dali_link_commands.proofs.ReadLemmas.{left_alone, text_put, unfailed_on}
use Rattle.dali_link_commands.proofs.read.read_bank.Goals as goal

pub returns-then-replace : goal.returns-then-replace
returns-then-replace g c =
    let bytes : List ℕ = c.in-Ok-Some.bytes.items in
    let before = c.args.desk.now.journal in
    let text = c.deref-in-Ok-Some.ensures.0 ∙ c.text_of.ensures.rows ∙ ap rows_text c.deref.ensures.0 in
    record {
      answer = (
        inl (record {
          bytes = bytes;
          read = rw c.in-Ok-Some.field-0-is at c.in-Ok-Some.ensures.read;
          file = subst (λ (t : List ℕ). Becomes (g.S.Store.seen before) (g.S.Store.seen c.replace.new.self) t) text
              (c.replace.ensures.bytes c.if-replace.true);
          settled = c.replace.ensures.settled c.if-replace.true;
          leaves = subst (λ (t : List ℕ). LeavesOnly g.S.Store.moment g.S.Store.left_since before c.replace.new.self
              (λ d. g.S.Store.may_leave before d ⊎ (d ≡ t))) text
              (text_put g.S.Store.moment g.S.Store.left_since g.S.Store.may_leave g.met.S.Store.only_now before
              c.replace.new.self _ c.replace.ensures.time c.replace.ensures.stop);
          lost = has_failed c.args.desk.now.out.output;
          unfailed = (
            unfailed_on _ _ _ c.requires.ready.1.0 c.if-replace.true c.replace.ensures.failed,
            c.in-Ok-Some.ensures.ok.1,
            c.in-Ok-Some.ensures.ok.0,
            c.requires.ready.1.3,
          );
          told =
              line_told Good c.tell_line.result (held g.W.Write.contents c.args.desk.now.out.output)
              (held g.W.Write.contents c.tell_line.new.lines.output) c.deref-then-replace.result.now _
              (c.deref-then-replace.ensures.0 ∙ c.bytes_line-line.ensures
              ∙ ap (bytes_line c.args.unit) c.len.ensures.value) c.tell_line.ensures.told;
        }),
        search rules,
      );
    }

pub returns-in-Ok-None : goal.returns-in-Ok-None
returns-in-Ok-None g c =
    let silent = rw c.in-Ok-None.field-0-is at c.in-Ok-None.ensures.silent in
    record {
      answer = (
        inr (inl (record {
          read = silent refl;
          file = refl;
          leaves =
              left_alone g.S.Store.moment g.S.Store.left_since g.S.Store.may_leave g.met.S.Store.only_now
              c.args.desk.now.journal;
          lost = has_failed c.args.desk.now.out.output;
          unfailed =
              (c.requires.ready.1.0, c.in-Ok-None.ensures.ok.1, c.in-Ok-None.ensures.ok.0, c.requires.ready.1.3);
          told =
              line_told Refused c.tell_line-in-Ok-None.result (held g.W.Write.contents c.args.desk.now.out.output)
              (held g.W.Write.contents c.tell_line-in-Ok-None.new.lines.output) c.deref-in-Ok-None.result.now _
              (c.deref-in-Ok-None.ensures.0 ∙ c.silent_line.ensures) c.tell_line-in-Ok-None.ensures.told;
        })),
        search rules,
      );
    }
