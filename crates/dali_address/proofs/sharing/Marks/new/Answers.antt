use Rattle.std.proofs.Common.{false, refl}
use Rattle.std.proofs.lemmas.List.{get_or-replicate}
use Rattle.dali_address.proofs.MarkLemmas.{unmarked}
use Rattle.dali_address.proofs.sharing.Marks.new.Goals as goal

pub returns : goal.returns
returns c =
    unmarked _ (λ short within. get_or-replicate 64 short false false within)
    (λ short within. get_or-replicate 64 short false false within) refl refl
