use Rattle.std.proofs.Common.{◌≡◌, ◌∙◌, length, inl, refl, ap}
use Rattle.dali_text.specs.JournalLines.{journal_text}
use Rattle.dali_text.proofs.StreamLemmas.{appends_kept}
use Rattle.dali_file_commands.proofs.journal.write_input.Goals as goal

pub returns-in_ok-flush-in-Ok-clause-told : goal.returns-in_ok-flush-in-Ok-clause-told
returns-in_ok-flush-in-Ok-clause-told g c =
    let total : c.len-total.result ≡ length c.args.input.items = c.len-total.ensures ∙ c.args.input.ok.0 in (
      _,
      inl (record {
        journal = c.in-Ok.journal;
        counted = c.in-Ok.counted;
        version = c.in-Ok.version;
        loaded = c.in-Ok.ensures.ok;
        status_is = refl;
        text_is = ap (journal_text c.args.with_updates c.in-Ok.version c.in-Ok.journal.records c.in-Ok.counted) total;
      }),
      appends_kept _ _ _ _ c.in_ok-write_journal-in-Ok.ensures.text c.in_ok-flush-in-Ok.ensures.bytes,
    )
