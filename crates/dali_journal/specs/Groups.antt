-- A journal as a person reads it: a list of groups, one for each order. The oldest record comes first.
use Rattle.std.specs.Prelude.{◌≡◌, false, List, [], ◌∷◌, ⊤}
use Rattle.dali_journal.specs.declared.record.Code.TheVariants.{Done, Short, Format, Silent, Doubt, DoubtOpen}
use Rattle.dali_journal.specs.declared.record.Record.{Record}
use Rattle.dali_journal.specs.declared.record.Record.TheVariants.{Began, Opened, Ended, Closed}
use Rattle.dali_journal.specs.Sentence.{is_begun}

-- the records are groups of these six kinds, of which the last may end early, each about one unit
abbrev pub AreGroups : List Record → Type 0
AreGroups [] = ⊤
AreGroups (Began order moment ∷ []) = ⊤
AreGroups (Began order moment ∷ Ended Short ∷ rest) = AreGroups rest
AreGroups (Began order moment ∷ Ended Format ∷ rest) = AreGroups rest
AreGroups (Began order moment ∷ Ended Silent ∷ rest) = AreGroups rest
AreGroups (Began order moment ∷ Opened unit ∷ []) = unit ≡ order.unit
AreGroups (Began order moment ∷ Opened unit ∷ Ended Done ∷ rest) = (unit ≡ order.unit) × AreGroups rest
AreGroups (Began order moment ∷ Opened unit ∷ Ended Doubt ∷ rest) = (unit ≡ order.unit) × AreGroups rest
AreGroups (Began order moment ∷ Opened unit ∷ Ended DoubtOpen ∷ []) = unit ≡ order.unit
AreGroups (Began order moment ∷ Opened unit ∷ Ended DoubtOpen ∷ Closed closed ∷ rest) =
    (unit ≡ order.unit) × (closed ≡ order.unit) × AreGroups rest
AreGroups _ = ⊥

-- no number comes twice
abbrev pub HaveDistinctNumbers : List Record → Type 0
HaveDistinctNumbers [] = ⊤
HaveDistinctNumbers (Began order moment ∷ rest) = (is_begun order.id rest ≡ false) × HaveDistinctNumbers rest
HaveDistinctNumbers (other ∷ rest) = HaveDistinctNumbers rest
