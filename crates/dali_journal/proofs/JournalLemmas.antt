-- A journal's parts stay sound with one record more.
use Rattle.std.proofs.Common.{◌≡◌, ℕ, ◌+◌, ◌-◌, ◌<◌, ◌≤◌, true, nat_eq, List, [], ◌∷◌, ◌++◌, length, refl, sym}
use Rattle.std.proofs.Common.{ap, ◌∙◌, subst, arith, ◌^◌, is_some, length-drop}
use Rattle.std.specs.Prelude.{⊤}
use Rattle.std.specs.List.{AllByRecursion, list_any}
use Rattle.std.specs.Map.{lookup, keys_of}
use Rattle.std.proofs.lemmas.Map.Made.{is_some-lookup}
use Rattle.dali_bank.specs.Order.{Contents, AreUpdates}
use Rattle.dali_journal.specs.declared.record.Code.TheVariants.{Done, Short, Format, Silent, Doubt, DoubtOpen}
use Rattle.dali_journal.specs.declared.record.Record.{Record}
use Rattle.dali_journal.specs.declared.record.Record.TheVariants.{Began, Opened, Ended, Closed}
use Rattle.dali_journal.specs.declared.standing.Standing.{Standing}
use Rattle.dali_journal.specs.declared.standing.Standing.TheVariants as standings
use Rattle.dali_journal.specs.declared.kept.Progress.{Progress}
use Rattle.dali_journal.specs.declared.kept.Progress.TheVariants as reached
use Rattle.dali_journal.specs.declared.index.IndexEntry.{IndexEntry}
use Rattle.dali_journal.specs.declared.version.Version.TheVariants.{Two}
use Rattle.dali_journal.specs.Sentence.{Allows, next_standing, standing_of, IsSentence, IsNew, HasShortUnit}
use Rattle.dali_journal.specs.Orders.{come_to, orders_of}
use Rattle.dali_journal.specs.Spelling.{spelling, pairs_spelling, NamesShortUnit, IsRecord}
use Rattle.dali_journal.specs.Decoding.{records_in}
use Rattle.dali_journal.specs.JournalState.{JournalState, bytes_due, HasRoom, MayBegin, KeepsRoom}
use Rattle.dali_journal.specs.Index.{index_entry, index_entry_after, EntersNumber, BeginsInRange, orders_begun}
use Rattle.dali_journal.specs.Index.{IsSound}
use Rattle.dali_journal.proofs.PairLemmas.{AreBytes}
use Rattle.dali_journal.proofs.PieceLemmas.{bytes-drop}
use Rattle.dali_journal.proofs.DecodeLemmas.{AreRecords, spelling_read}
use Rattle.dali_journal.specs.declared.settled.Settled.{Settled}
use Rattle.dali_journal.proofs.IndexedLemmas.{indexed_more, indexed_same}

-- the order or the unit that a standing names is in range
abbrev IsNamed : Standing → Type 0
IsNamed standings.Idle = ⊤
IsNamed (standings.Began order) = (moment : ℕ) × IsRecord Two (Began order moment)
IsNamed (standings.Opened order) = (moment : ℕ) × IsRecord Two (Began order moment)
IsNamed (standings.Left unit) = unit ≤ 63

named_next : (standing : Standing) (entry : Record) → Allows standing entry → IsRecord Two entry → IsNamed standing
    → IsNamed (next_standing standing entry)
named_next standings.Idle (Began order moment) a r n = (moment, r)
named_next (standings.Began order) (Opened unit) a r n = n
named_next (standings.Began order) (Ended Short) a r n = tt
named_next (standings.Began order) (Ended Format) a r n = tt
named_next (standings.Began order) (Ended Silent) a r n = tt
named_next (standings.Opened order) (Ended Done) a r n = tt
named_next (standings.Opened order) (Ended Doubt) a r n = tt
named_next (standings.Opened order) (Ended DoubtOpen) a r n = n.1.1
named_next (standings.Left unit) (Closed closed) a r n = tt
named_next _ _ a r n = absurd a

named : (records : List Record) → IsSentence records → AreRecords Two records → IsNamed (standing_of records)
named [] s r = tt
named (entry ∷ older) s r = named_next (standing_of older) entry s.1 r.0 (named older s.0 r.1)

-- a record that may come is in range
allowed_record : (standing : Standing) (entry : Record) → Allows standing entry → BeginsInRange entry → IsNamed standing
    → IsRecord Two entry
allowed_record standings.Idle (Began order moment) a o n = o
allowed_record (standings.Began order) (Opened unit) a o n = rw a n.1.1
allowed_record (standings.Began order) (Ended Short) a o n = tt
allowed_record (standings.Began order) (Ended Format) a o n = tt
allowed_record (standings.Began order) (Ended Silent) a o n = tt
allowed_record (standings.Opened order) (Ended Done) a o n = tt
allowed_record (standings.Opened order) (Ended Doubt) a o n = tt
allowed_record (standings.Opened order) (Ended DoubtOpen) a o n = tt
allowed_record (standings.Left unit) (Closed closed) a o n = rw a n
allowed_record _ _ a o n = absurd a

-- what is due falls by the bytes that come
due_next : (standing : Standing) (entry : Record) (records : List Record) (limit room new_room index_room : ℕ)
    (numbers : List ℕ)
    → standing ≡ standing_of records → Allows standing entry
    → MayBegin (record { records = records; limit = limit; room = room; numbers = numbers; index_room = index_room })
    entry
    → bytes_due standing ≤ room → room ≤ new_room + length (spelling Two entry)
    → bytes_due (next_standing standing entry) ≤ new_room
due_next standings.Idle (Began order moment) records limit room new_room index_room numbers s a may d r = let h =
    may.0.0 in omega arith
due_next (standings.Began order) (Opened unit) records limit room new_room index_room numbers s a may d r = omega arith
due_next (standings.Began order) (Ended Short) records limit room new_room index_room numbers s a may d r = omega arith
due_next (standings.Began order) (Ended Format) records limit room new_room index_room numbers s a may d r = omega arith
due_next (standings.Began order) (Ended Silent) records limit room new_room index_room numbers s a may d r = omega arith
due_next (standings.Opened order) (Ended Done) records limit room new_room index_room numbers s a may d r = omega arith
due_next (standings.Opened order) (Ended Doubt) records limit room new_room index_room numbers s a may d r = omega arith
due_next (standings.Opened order) (Ended DoubtOpen) records limit room new_room index_room numbers s a may d r = omega
    arith
due_next (standings.Left unit) (Closed closed) records limit room new_room index_room numbers s a may d r = omega arith
due_next _ _ records limit room new_room index_room numbers s a may d r = absurd a

pub length_come : (progress : Progress) (orders : List (Contents × Progress)) → length (come_to progress orders)
    ≡ length orders
length_come progress [] = refl
length_come progress (newest ∷ older) = refl

pub orders_more : (records : List Record) (entry : Record)
    → length (orders_of (entry ∷ records)) ≡ length (orders_of records) + orders_begun entry
orders_more records (Began order moment) = omega arith
orders_more records (Opened unit) = omega (arith, length_come reached.Open (orders_of records))
orders_more records (Ended code) = omega (arith, length_come (reached.Ended code) (orders_of records))
orders_more records (Closed unit) = omega arith

within_next : (journal : JournalState) (entry : Record) → MayBegin journal entry
    → length (orders_of journal.records) ≤ journal.limit
    → length (orders_of journal.records) + orders_begun entry ≤ journal.limit
within_next journal (Began order moment) may w = let h = may.1 in omega arith
within_next journal (Opened unit) may w = omega arith
within_next journal (Ended code) may w = omega arith
within_next journal (Closed unit) may w = omega arith

new_next : (journal : JournalState) (entry : Record) → MayBegin journal entry → IsNew entry journal.records
new_next journal (Began order moment) may = may.2
new_next journal (Opened unit) may = tt
new_next journal (Ended code) may = tt
new_next journal (Closed unit) may = tt

-- a record that comes is in range
pub entry_record : (bytes : List ℕ) (records : List Record) (standing : Standing)
    (orders limit room index_room front : ℕ) (settled : List Settled) (index : List (ℕ × IndexEntry)) (entry : Record)
    → IsSound bytes records standing orders limit room index_room front settled index
    → Allows (standing_of records) entry
    → BeginsInRange entry
    → IsRecord Two entry
entry_record bytes records standing orders limit room index_room front settled index entry sound a o =
    allowed_record (standing_of records) entry a o
    (named records sound.journal.kept.whole.0 sound.journal.kept.in_range)

sound_more : (bytes : List ℕ) (records : List Record) (standing : Standing)
    (orders limit room new_room index_room new_index_room front at : ℕ)
    (settled : List Settled) (index new_index : List (ℕ × IndexEntry)) (entry : Record)
    → IsSound bytes records standing orders limit room index_room front settled index
    → Allows (standing_of records) entry
    → BeginsInRange entry
    → MayBegin (record {
      records = records;
      limit = limit;
      room = room;
      numbers = keys_of index;
      index_room = index_room;
    }) entry
    → ((id : ℕ)
    → index_entry (lookup (nat_eq id) new_index)
    ≡ index_entry_after standing entry at id (index_entry (lookup (nat_eq id) index)))
    → at ≡ length bytes - front
    → HasShortUnit (next_standing standing entry) → room ≤ new_room + length (spelling Two entry)
    → IsSound (bytes ++ spelling Two entry) (entry ∷ records) (next_standing standing entry)
    (orders + orders_begun entry)
    limit new_room new_index_room front settled new_index
sound_more bytes records standing orders limit room new_room index_room new_index_room front at settled index new_index
    entry sound a o may wrote there short rest =
    let journal : JournalState = record {
      records = records;
      limit = limit;
      room = room;
      numbers = keys_of index;
      index_room = index_room;
    } in
    let is = entry_record bytes records standing orders limit room index_room front settled index entry sound a o in
    let more = orders_more records entry in
    let within = within_next journal entry may sound.journal.kept.whole.1 in
    record {
      spelled = ap (λ front. front ++ spelling Two entry) sound.spelled;
      standing_is = ap (λ st. next_standing st entry) sound.standing_is;
      short = short;
      count = ap (λ n. n + orders_begun entry) sound.count ∙ sym more;
      journal = record {
        kept = record {
          in_range = (is, sound.journal.kept.in_range);
          whole = ((sound.journal.kept.whole.0, a, new_next journal entry may), omega arith);
        };
        limited = sound.journal.limited;
        due =
            due_next (standing_of records) entry records limit room new_room index_room (keys_of index) refl a may
            sound.journal.due rest;
      };
      indexed =
          indexed_more bytes records front at settled index new_index entry sound.indexed sound.journal.kept.whole.0 a
          is (new_next journal entry may) (there ∙ sym (length-drop front bytes))
          (λ id. wrote id
          ∙ ap (λ (st : Standing). index_entry_after st entry at id (index_entry (lookup (nat_eq id) index)))
          sound.standing_is);
    }

-- the bytes of one record more are read as one record more
pub records_more : (bytes : List ℕ) (standing : Standing) (orders limit room index_room front : ℕ)
    (settled : List Settled) (index : List (ℕ × IndexEntry)) (entry : Record)
    → IsSound bytes (records_in Two bytes) standing orders limit room index_room front settled index
    → Allows (standing_of (records_in Two bytes)) entry
    → BeginsInRange entry
    → records_in Two (bytes ++ spelling Two entry) ≡ entry ∷ records_in Two bytes
records_more bytes standing orders limit room index_room front settled index entry sound a o =
    ap (λ front. records_in Two (front ++ spelling Two entry)) sound.spelled
    ∙ spelling_read Two (entry ∷ records_in Two bytes) (
      entry_record bytes (records_in Two bytes) standing orders limit room index_room front settled index entry sound a
          o,
      sound.journal.kept.in_range,
    )

pub sound_next : (bytes : List ℕ) (standing : Standing)
    (orders limit room new_room index_room new_index_room front at : ℕ)
    (settled : List Settled) (index new_index : List (ℕ × IndexEntry)) (entry : Record)
    → IsSound bytes (records_in Two bytes) standing orders limit room index_room front settled index
    → Allows (standing_of (records_in Two bytes)) entry
    → BeginsInRange entry
    → MayBegin (record {
      records = records_in Two bytes;
      limit = limit;
      room = room;
      numbers = keys_of index;
      index_room = index_room;
    }) entry
    → ((id : ℕ)
    → index_entry (lookup (nat_eq id) new_index) ≡ index_entry_after standing entry at id
    (index_entry (lookup (nat_eq id) index)))
    → at ≡ length bytes - front → HasShortUnit (next_standing standing entry)
    → room ≤ new_room + length (spelling Two entry)
    → IsSound (bytes ++ spelling Two entry) (records_in Two (bytes ++ spelling Two entry))
    (next_standing standing entry)
    (orders + orders_begun entry) limit new_room new_index_room front settled new_index
sound_next bytes standing orders limit room new_room index_room new_index_room front at settled index new_index entry
    sound a o may wrote there short rest =
    subst (λ (those : List Record).
    IsSound (bytes ++ spelling Two entry) those (next_standing standing entry) (orders + orders_begun entry) limit
    new_room new_index_room front settled new_index)
    (sym (records_more bytes standing orders limit room index_room front settled index entry sound a o))
    (sound_more bytes (records_in Two bytes) standing orders limit room new_room index_room new_index_room front at
    settled index new_index entry sound a o may wrote there short rest)

-- a number that has room is in the index
pub entered : (journal : JournalState) (index : List (ℕ × IndexEntry)) (entry : Record) → MayBegin journal entry
    → journal.numbers ≡ keys_of index → EntersNumber index entry
entered journal index (Began order moment) may same =
    is_some-lookup (nat_eq order.id) index ∙ ap (list_any (nat_eq order.id)) (sym same) ∙ may.0.1
entered journal index (Opened unit) may same = tt
entered journal index (Ended code) may same = tt
entered journal index (Closed unit) may same = tt

-- a record that ends what has begun takes the room that was due for it
abbrev IsLater : Record → Type 0
IsLater (Began order moment) = ⊥
IsLater other = ⊤

due_falls : (standing : Standing) (entry : Record) (room new_room wanted : ℕ) → Allows standing entry → IsLater entry
    → room ≤ new_room + length (spelling Two entry) → bytes_due standing + wanted + 6 ≤ room
    → bytes_due (next_standing standing entry) + wanted + 6 ≤ new_room
due_falls standings.Idle (Began order moment) room new_room wanted a later rest h = absurd later
due_falls (standings.Began order) (Opened unit) room new_room wanted a later rest h = omega arith
due_falls (standings.Began order) (Ended Short) room new_room wanted a later rest h = omega arith
due_falls (standings.Began order) (Ended Format) room new_room wanted a later rest h = omega arith
due_falls (standings.Began order) (Ended Silent) room new_room wanted a later rest h = omega arith
due_falls (standings.Opened order) (Ended Done) room new_room wanted a later rest h = omega arith
due_falls (standings.Opened order) (Ended Doubt) room new_room wanted a later rest h = omega arith
due_falls (standings.Opened order) (Ended DoubtOpen) room new_room wanted a later rest h = omega arith
due_falls (standings.Left left) (Closed unit) room new_room wanted a later rest h = omega arith
due_falls _ _ room new_room wanted a later rest h = absurd a

room_left : (journal new : JournalState) (entry : Record) → Allows (standing_of journal.records) entry → IsLater entry
    → new.records ≡ entry ∷ journal.records → new.numbers ≡ journal.numbers
    → journal.room ≤ new.room + length (spelling Two entry)
    → (order : Contents) → HasRoom journal order → HasRoom new order
room_left journal new entry a later records numbers rest = λ order room. (
  rw records (due_falls (standing_of journal.records) entry journal.room new.room
      (length (spelling Two (Began order 0))) a
      later rest room.0),
  rw numbers room.1,
)

pub keeps_room : (journal new : JournalState) (entry : Record) → Allows (standing_of journal.records) entry
    → new.records ≡ entry ∷ journal.records
    → new.numbers ≡ journal.numbers → journal.room ≤ new.room + length (spelling Two entry)
    → KeepsRoom entry journal new
keeps_room journal new (Began order moment) a records numbers rest = tt
keeps_room journal new (Opened unit) a records numbers rest =
    room_left journal new (Opened unit) a tt records numbers rest
keeps_room journal new (Ended code) a records numbers rest =
    room_left journal new (Ended code) a tt records numbers rest
keeps_room journal new (Closed unit) a records numbers rest =
    room_left journal new (Closed unit) a tt records numbers rest

-- the bytes of updates that are spelled
pub pairs_in_range : (pairs : List (ℕ × ℕ)) → AreBytes (pairs_spelling pairs)
    → AllByRecursion (λ pair. pair.1 < 256) pairs
pairs_in_range [] bytes = tt
pairs_in_range (pair ∷ pairs) bytes = (bytes.1.0, pairs_in_range pairs bytes.1.1)

pub order_in_range : (bytes : List ℕ) (order : Contents) (moment : ℕ) → AreBytes bytes
    → bytes ≡ spelling Two (Began order moment)
    → order.id < 2 ^ 64 → moment < 2 ^ 64 → order.unit ≤ 63 → AreUpdates order.updates
    → IsRecord Two (Began order moment)
order_in_range bytes order moment are same id at unit updates =
    let spelled : AreBytes (spelling Two (Began order moment)) = subst AreBytes same are in
    (id, unit, updates, pairs_in_range order.updates (bytes-drop 19 (spelling Two (Began order moment)) spelled), at)

pub begins_in_range : (entry : Record) → (NamesShortUnit entry → IsRecord Two entry) → BeginsInRange entry
begins_in_range (Began order moment) tells = tells tt
begins_in_range (Opened unit) tells = tt
begins_in_range (Ended code) tells = tt
begins_in_range (Closed unit) tells = tt

-- a number is in the index if a look-up finds it
pub found_in : (id : ℕ) (index : List (ℕ × IndexEntry))
    → is_some (lookup (nat_eq id) index) ≡ list_any (nat_eq id) (keys_of index)
found_in id index = is_some-lookup (nat_eq id) index

-- the bytes that a reserve makes room for
pub reserved : (bytes new : List ℕ) (standing : Standing) (order : Contents) (wanted len capacity : ℕ)
    → new ≡ bytes → standing ≡ standing_of (records_in Two bytes)
    → wanted ≡ bytes_due standing + length (spelling Two (Began order 0)) + 6
    → len + wanted ≤ capacity
    → bytes_due (standing_of (records_in Two new)) + length (spelling Two (Began order 0)) + 6 ≤ capacity - len
reserved bytes new standing order wanted len capacity same stands w h =
    let due = ap bytes_due (stands ∙ ap (λ bs. standing_of (records_in Two bs)) (sym same)) in omega arith

-- with the same bytes, no less room and no number less there is room still
pub room_kept : (journal : JournalState) (bytes new : List ℕ) (room : ℕ) (index new_index : List (ℕ × IndexEntry))
    → new ≡ bytes → records_in Two bytes ≡ journal.records → keys_of index ≡ journal.numbers → journal.room ≤ room
    → ((id : ℕ) → is_some (lookup (nat_eq id) index) ≡ true → is_some (lookup (nat_eq id) new_index) ≡ true)
    → (order : Contents) → HasRoom journal order
    → HasRoom (record {
      records = records_in Two new;
      limit = 0;
      room = room;
      numbers = keys_of new_index;
      index_room =
          0;
    }) order
room_kept journal bytes new room index new_index same records numbers more stays order h = (
  let due = ap (λ (those : List Record). bytes_due (standing_of those)) (ap (records_in Two) same ∙ records) in
      let enough = h.0 in omega arith,
  sym (found_in order.id new_index)
      ∙ stays order.id (found_in order.id index ∙ ap (list_any (nat_eq order.id)) numbers ∙ h.1),
)

-- with the same bytes, no less room and an index that tells the same it is sound still
pub reserved_sound : (bytes new : List ℕ) (standing : Standing)
    (orders limit room new_room index_room new_index_room front : ℕ) (settled : List Settled)
    (index new_index : List (ℕ × IndexEntry))
    → new ≡ bytes → IsSound bytes (records_in Two bytes) standing orders limit room index_room front settled index
    → room ≤ new_room
    → ((id : ℕ) → index_entry (lookup (nat_eq id) new_index) ≡ index_entry (lookup (nat_eq id) index))
    → IsSound new (records_in Two new) standing orders limit new_room new_index_room front settled new_index
reserved_sound bytes new standing orders limit room new_room index_room new_index_room front settled index new_index is
    sound more same =
    subst (λ (bs : List ℕ).
    IsSound bs (records_in Two bs) standing orders limit new_room new_index_room front settled new_index) (sym is)
    (record {
      spelled = sound.spelled;
      standing_is = sound.standing_is;
      short = sound.short;
      count = sound.count;
      journal = record {
        kept = sound.journal.kept;
        limited = sound.journal.limited;
        due = (let due = sound.journal.due in omega arith);
      };
      indexed = indexed_same bytes (records_in Two bytes) front settled index new_index sound.indexed same;
    })
