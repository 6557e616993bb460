use Rattle.std.proofs.Common.{◌∙◌, ap, refl}
use Rattle.serde_json.proofs.Views.{view-Array}
use Rattle.serde_json.specs.Data.{Items, array}
use Rattle.dali_report.proofs.DifferenceLemmas.{same_banks}
use Rattle.dali_report.proofs.differences.differing_fields.Goals as goal

pub returns : goal.returns
returns c =
    let found = c.in_ok-values.ensures in (
      found.0,
      same_banks _ _ _ _ found.0
          (c.bank_told-held.ensures ∙ rw (c.updates.ensures.value, c.told_bytes.ensures) refl)
          (c.bank_told-wanted.ensures ∙ rw c.updates-2.ensures.value refl) found.1,
      view-Array c.in_ok-values.values ∙ ap (λ (i : Items). array i) found.2,
    )
