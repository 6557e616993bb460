use Rattle.std.proofs.Common.{None, ap}
use Rattle.dali_bank.proofs.LayoutLemmas.{map-none}
use Rattle.dali_bank.proofs.draft.Draft.new.Goals as goal

pub returns-clause-ok : goal.returns-clause-ok
returns-clause-ok c =
    ap (λ found. record { id = c.args.id; unit = c.args.unit; found = found }) (map-none (λ b. b.items) c.default.result
    _ c.default.ensures.long (λ i within. c.default.ensures.at i None within))
