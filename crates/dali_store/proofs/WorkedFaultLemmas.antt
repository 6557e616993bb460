-- Which faults a store's bytes may not have, by hand.
use Rattle.std.proofs.Common.{ℕ, List, [], ◌∷◌, Option, Some, arith}
use Rattle.dali_journal.specs.declared.behind.JoinFault.{JoinFault}
use Rattle.dali_journal.specs.declared.fault.JournalFault.{JournalFault}
use Rattle.dali_store.specs.declared.opening.OpenFault.TheVariants.{Join, Journal}
use Rattle.dali_store.specs.Opened.{IsOpenFault}

-- of too many bytes no fault is reported except that one
pub not_told_of_too_many : (fault : JournalFault) (new : Option (List ℕ))
    → IsOpenFault 1 0 (Some (0x44 ∷ [])) new (Journal fault) → ⊥
not_told_of_too_many fault new is = grind (arith, is)

-- and none of older journals, since it opens one alone
pub not_told_of_older_ones : (limit most : ℕ) (old new : Option (List ℕ)) (fault : JoinFault)
    → IsOpenFault limit most old new (Join fault) → ⊥
not_told_of_older_ones limit most old new fault never = never
