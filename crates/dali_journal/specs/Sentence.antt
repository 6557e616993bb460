-- Which lists of records a journal may hold, by the table of standings. The newest record comes first.
use Rattle.std.specs.Prelude.{◌≡◌, ◌≤◌, ◌||◌, ◌==◌, ℕ, Bool, false, List, [], ◌∷◌, Option, Some, None, length, ⊤}
use Rattle.dali_journal.specs.declared.record.Code.TheVariants.{Done, Short, Format, Silent, Doubt, DoubtOpen}
use Rattle.dali_journal.specs.declared.record.Record.{Record}
use Rattle.dali_journal.specs.declared.record.Record.TheVariants.{Began, Opened, Ended, Closed}
use Rattle.dali_journal.specs.declared.standing.Standing.{Standing}
use Rattle.dali_journal.specs.declared.standing.Standing.TheVariants as standings
use Rattle.dali_journal.specs.Orders.{orders_of}

-- the table: which record may come next
abbrev pub Allows : Standing → Record → Type 0
Allows standings.Idle (Began order moment) = ⊤
Allows (standings.Began order) (Opened unit) = unit ≡ order.unit
Allows (standings.Began order) (Ended Short) = ⊤
Allows (standings.Began order) (Ended Format) = ⊤
Allows (standings.Began order) (Ended Silent) = ⊤
Allows (standings.Opened order) (Ended Done) = ⊤
Allows (standings.Opened order) (Ended Doubt) = ⊤
Allows (standings.Opened order) (Ended DoubtOpen) = ⊤
Allows (standings.Left unit) (Closed closed) = closed ≡ unit
Allows _ _ = ⊥

-- the table: the standing after a record that may come
abbrev pub next_standing : Standing → Record → Standing
next_standing standing (Began order moment) = standings.Began order
next_standing (standings.Began order) (Opened unit) = standings.Opened order
next_standing (standings.Opened order) (Ended DoubtOpen) = standings.Left order.unit
next_standing standing other = standings.Idle

-- the standing after these records
abbrev pub standing_of : List Record → Standing
standing_of [] = standings.Idle
standing_of (newest ∷ older) = next_standing (standing_of older) newest

-- the unit that a standing names: it may be write-enabled
abbrev pub named_unit : Standing → Option ℕ
named_unit (standings.Opened order) = Some order.unit
named_unit (standings.Left unit) = Some unit
named_unit other = None

-- a unit that was left has a short address
abbrev pub HasShortUnit : Standing → Type 0
HasShortUnit (standings.Left unit) = unit ≤ 63
HasShortUnit standings.Idle = ⊤
HasShortUnit (standings.Began order) = ⊤
HasShortUnit (standings.Opened order) = ⊤

-- an order of this number was begun
abbrev pub is_begun : ℕ → List Record → Bool
is_begun id [] = false
is_begun id (Began order moment ∷ older) = order.id == id || is_begun id older
is_begun id (other ∷ older) = is_begun id older

-- an order begins under a number that no order before it has
abbrev pub IsNew : Record → List Record → Type 0
IsNew (Began order moment) older = is_begun order.id older ≡ false
IsNew other older = ⊤

-- each record was one that the table allowed, and each order began under a new number
abbrev pub IsSentence : List Record → Type 0
IsSentence [] = ⊤
IsSentence (newest ∷ older) = IsSentence older × Allows (standing_of older) newest × IsNew newest older

-- a sentence of at most this many orders
abbrev pub IsSentenceWithin : ℕ → List Record → Type 0
IsSentenceWithin limit records = IsSentence records × (length (orders_of records) ≤ limit)
