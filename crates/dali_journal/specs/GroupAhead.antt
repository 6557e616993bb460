-- The records at the front of bytes: a whole group (an order that began, and how it ended), or many.
use Rattle.std.specs.Prelude.{◌≡◌, ◌⊎◌, ℕ, ◌≤◌, nat_eq, true, List, [], ◌∷◌, ◌++◌, length, take, drop}
use Rattle.std.specs.Prelude.{Some}
use Rattle.std.specs.List.{AllByRecursion}
use Rattle.std.specs.Map.{lookup}
use Rattle.dali_bank.specs.Order.{Contents, IsWritable, RisesAbove}
use Rattle.dali_journal.specs.declared.record.Code.{Code}
use Rattle.dali_journal.specs.declared.record.Code.TheVariants.{Done, Short, Format, Silent, Doubt, DoubtOpen}
use Rattle.dali_journal.specs.declared.version.Version.{Version}
use Rattle.dali_journal.specs.declared.version.Version.TheVariants.{One, Two}
use Rattle.dali_journal.specs.declared.record.Record.{Record}
use Rattle.dali_journal.specs.declared.record.Record.TheVariants.{Began, Opened, Ended, Closed}
use Rattle.dali_journal.specs.declared.standing.Standing.TheVariants as standings
use Rattle.dali_journal.specs.declared.index.IndexEntry.{IndexEntry}
use Rattle.dali_journal.specs.Spelling.{spelling, pairs_spelling, records_spelling, IsRecord}
use Rattle.dali_journal.specs.Reading.{BeginsWith}
use Rattle.dali_journal.specs.Decoding.{records_in}
use Rattle.dali_journal.specs.Index.{is_begun_at, IsSound}

-- the location of the last update, or another if there is none
abbrev pub last_location : ℕ → List (ℕ × ℕ) → ℕ
last_location low [] = low
last_location low (update ∷ updates) = last_location update.0 updates

-- the bytes are updates above a location, and at most one byte more
pub record AreUpdatesAbove (low : ℕ) (bytes : List ℕ) : Type 0 where
  pub updates : List (ℕ × ℕ)
  pub rest : List ℕ
  pub spelled : bytes ≡ pairs_spelling updates ++ rest
  pub short : length rest ≤ 1
  pub rising : RisesAbove low updates
  pub outside : AllByRecursion (λ update. (update.0 ≤ 0x10) ⊎ (0x13 ≤ update.0)) updates
  pub high : last_location low updates ≤ 0x77

-- at the front of the bytes are `count` updates, above a location
pub record HasUpdates (count low : ℕ) (bytes : List ℕ) : Type 0 where
  pub updates : List (ℕ × ℕ)
  pub rest : List ℕ
  pub spelled : bytes ≡ pairs_spelling updates ++ rest
  pub counted : length updates ≡ count
  pub rising : RisesAbove low updates
  pub writable : AllByRecursion (λ update. IsWritable update.0) updates

-- at the front of the bytes of a version is the Began of an order of this number and unit, `len` bytes long
pub record HasBegan (version : Version) (id unit len : ℕ) (bytes : List ℕ) : Type 0 where
  pub order : Contents
  pub moment : ℕ
  pub begins : BeginsWith version bytes (Began order moment)
  pub named : order.id ≡ id
  pub unit_is : order.unit ≡ unit
  pub counted : len ≡ length (spelling version (Began order moment))

-- the records after the Began of a unit's order that ended so, up to the last of its group: the newest first
abbrev pub end_records : ℕ → Code → List Record
end_records unit Short = Ended Short ∷ []
end_records unit Format = Ended Format ∷ []
end_records unit Silent = Ended Silent ∷ []
end_records unit Done = Ended Done ∷ Opened unit ∷ []
end_records unit Doubt = Ended Doubt ∷ Opened unit ∷ []
end_records unit DoubtOpen = Closed unit ∷ Ended DoubtOpen ∷ Opened unit ∷ []

-- at the front of the bytes are these records, `len` bytes long
pub record HasEnd (unit : ℕ) (code : Code) (len : ℕ) (bytes : List ℕ) : Type 0 where
  pub rest : List ℕ
  pub spelled : bytes ≡ records_spelling Two (end_records unit code) ++ rest
  pub counted : len ≡ length (records_spelling Two (end_records unit code))

-- at the front of the bytes of a version is the whole group of an order of this number that ended so, `len` bytes long
pub record HasGroup (version : Version) (id : ℕ) (code : Code) (len : ℕ) (bytes : List ℕ) : Type 0 where
  pub order : Contents
  pub moment : ℕ
  pub begins : BeginsWith version bytes (Began order moment)
  pub named : order.id ≡ id
  pub rest : List ℕ
  pub spelled : bytes ≡ records_spelling version (end_records order.unit code ++ Began order moment ∷ []) ++ rest
  pub counted : len ≡ length (records_spelling version (end_records order.unit code ++ Began order moment ∷ []))

-- the first `len` bytes are those of a journal that is idle, with `orders` orders; the index has each of these, and no
-- other
pub record IsFront (limit : ℕ) (bytes : List ℕ) (len orders : ℕ) (index : List (ℕ × IndexEntry)) : Type 0 where
  pub within : len ≤ length bytes
  pub sound : IsSound (take len bytes) (records_in Two (take len bytes)) standings.Idle orders limit 0 0 0 [] index
  pub begun : (id : ℕ) (known : IndexEntry) → lookup (nat_eq id) index ≡ Some known → is_begun_at known ≡ true

-- the first `len` bytes are those of records of version 1, and the others are the same records in version 2
pub record AreWidened (bytes : List ℕ) (len : ℕ) (wide : List ℕ) : Type 0 where
  pub records : List Record
  pub in_range : AllByRecursion (IsRecord One) records
  pub spelled : bytes ≡ records_spelling One records ++ drop len bytes
  pub within : len ≤ length bytes
  pub wide_is : wide ≡ records_spelling Two records
