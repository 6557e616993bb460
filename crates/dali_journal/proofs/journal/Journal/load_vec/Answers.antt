use Rattle.std.proofs.Common.{◌≡◌, refl, subst, List, ℕ, IfErr, arith}
use Rattle.dali_journal.specs.JournalState.{HoldsOrders}
use Rattle.dali_journal.specs.Loading.{HasBrokenHeader, IsLoadableWithin}
use Rattle.dali_journal.specs.declared.fault.JournalFault.TheVariants as faults
use Rattle.dali_journal.proofs.TornLemmas.{torn_memory}
use Rattle.dali_journal.proofs.journal.Journal.load_vec.Goals as goal

pub returns-in-None-clause-torn : goal.returns-in-None-clause-torn
returns-in-None-clause-torn c =
    torn_memory HoldsOrders c.args.limit c.args.bytes.items faults.Header
    (omega arith, subst HasBrokenHeader c.deref.ensures.value (c.in-None.ensures.none refl))

pub returns-in-Some-One-clause-torn : goal.returns-in-Some-One-clause-torn
returns-in-Some-One-clause-torn c =
    subst (λ n. IfErr c.upgraded.result
    (λ fault. IsLoadableWithin HoldsOrders n c.args.bytes.items → fault ≡ faults.NoMemory))
    c.empty-journal.ensures.limit
    (subst (λ (bytes : List ℕ). IfErr c.upgraded.result
    (λ fault. IsLoadableWithin HoldsOrders c.empty-journal.result.limit bytes → fault ≡ faults.NoMemory))
    c.deref-in-Some-One.ensures.value c.upgraded.ensures.torn)
