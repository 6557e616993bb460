-- A drive after older journals is a drive of the whole, whose bytes are those of the older records and the store's.
use Rattle.std.proofs.Common.{◌≡◌, ◌∙◌, ◌≤◌, refl, sym, subst, ap, inl, inr, ℕ, List, [], ◌∷◌, ◌++◌, ◌+◌, length, Option, Some}
use Rattle.std.proofs.Common.{None, append_assoc, reverse, arith}
use Rattle.std.specs.Prelude.{⊤}
use Rattle.std.proofs.lemmas.List.{append-nil}
use Rattle.std.specs.Prelude.{option_map}
use Rattle.std.specs.Io.KnownBytes.{Appends, Keeps}
use Rattle.dali_bank.specs.Order.{Contents}
use Rattle.dali_journal.specs.declared.record.Record.{Record}
use Rattle.dali_journal.specs.declared.version.Version.TheVariants.{Two}
use Rattle.dali_journal.specs.JournalState.{JournalState, AreKept, order_count}
use Rattle.dali_journal.specs.Loading.{IsLoadable, IsLoaded}
use Rattle.dali_journal.specs.Spelling.{header, records_spelling, journal_spelling}
use Rattle.dali_journal.proofs.AheadLemmas.{spelling_append}
use Rattle.dali_trace.specs.declared.happening.Happening.{Happening}
use Rattle.dali_trace.specs.Trace.{Start}
use Rattle.dali_engine.specs.WriterState.{WriterState, start_by}
use Rattle.dali_engine.proofs.StopLemmas.{cut_of_none}
use Rattle.dali_store.specs.Stores.{IsBetween}
use Rattle.dali_store.proofs.OpenLemmas.{whole_loads}
use Rattle.dali_trace.specs.declared.fault.DriveFault.{DriveFault}
use Rattle.dali_trace.specs.declared.fault.DriveFault.TheVariants.{Journal, Link, NoMemory, Out}
use Rattle.dali_drive.specs.declared.following.Given.{Given}
use Rattle.dali_drive.specs.Behind.{IsBegunBehind, bytes_behind, streams_behind}
use Rattle.dali_drive.specs.Driven.{IsDriven, IsDrive, BrokenOff}
use Rattle.dali_drive.specs.Followed.{happenings, submitted, muted, IsFollowed, IsBrokenFollow}
use Rattle.dali_drive.specs.Repeats.{HasSat, IsSameFile}
use Rattle.dali_drive.specs.Sittings.{CameToItsEnd}
use Rattle.dali_drive.specs.Kills.{StoodOnce}
use Rattle.dali_drive.specs.Stored.{IsBegun, IsPartBehind}
use Rattle.dali_drive.specs.Transcript.{Streams, recorded}
use Rattle.dali_drive.proofs.FollowLawLemmas.{as_drive, Fell, fell, fell_sat}
use Rattle.dali_drive.proofs.SittingLemmas.{made, loads, came_to_its_end, grown_known, from}
use Rattle.dali_drive.proofs.KillLemmas.{one_records, stood_in, stood_before}
use Rattle.dali_write.specs.declared.pace.Pace.{Pace}

module _ (older : List Record) where
  abbrev whole : Option (List ℕ) → Option (List ℕ)
  whole bytes = option_map (bytes_behind older) bytes

  abbrev all : Streams → Streams
  all streams = streams_behind older streams

  -- ---- bytes with a header

  behind_more : (bytes own more longer : List ℕ) → bytes ≡ header Two ++ own → longer ≡ bytes ++ more
      → bytes_behind older longer ≡ bytes_behind older bytes ++ more
  behind_more bytes own more longer has is =
      rw (is, has) (sym (append_assoc (journal_spelling Two older) own more))

  appends_whole : (old new : Option (List ℕ)) (own more : List ℕ) → old ≡ Some (header Two ++ own)
      → Appends old new more → Appends (whole old) (whole new) more
  appends_whole old new own more has added =
      rw (has, grown_known new (header Two ++ own) more (rw has at added))
      (sym (append_assoc (journal_spelling Two older) own more))

  keeps_whole : (old new : Option (List ℕ)) → Keeps old new → Keeps (whole old) (whole new)
  keeps_whole old new same = grind arith

  between_whole : (old new : Option (List ℕ)) (own c : List ℕ) → old ≡ Some (header Two ++ own) → IsBetween old new c
      → IsBetween (whole old) (whole new) (bytes_behind older c)
  between_whole old None own c has between = rw has tt
  between_whole old (Some now) own c has between =
      let k = rw has at between in
      rw has (k.0, k.1, behind_more (header Two ++ own) own k.0 c refl k.2, behind_more c (own ++ k.0) k.1 now k.2 k.3)

  -- ---- what was driven

  module _ {start : Start} {first : Streams} {own begun : List ℕ} (has : first.journal ≡ Some (header Two ++ own))
      (is : journal_spelling Two older ++ own ≡ begun) where
    driven_whole : (past : List Happening) (last : Streams) → IsDriven start past first last
        → IsDriven start past (record first { journal = Some begun }) (all last)
    driven_whole past last d =
        let added = rw (has, is) at (appends_whole first.journal last.journal own (recorded past) has d.text.journal) in
        search

    abbrev drive_whole : {orders : List (Contents × ℕ)} {writer : WriterState} {last : Streams}
        → IsDrive start orders first writer last
        → IsDrive start orders (record first { journal = Some begun }) writer (all last)
    drive_whole {orders} {writer} {last} d = record {
      past = d.past;
      driven = driven_whole d.past last d.driven;
      asked = d.asked;
      quiet = d.quiet;
      described = d.described;
      follows = d.follows;
    }

    now_has : (past : List Happening) (then : Streams) → IsDriven start past first then
        → then.journal ≡ Some (header Two ++ (own ++ recorded past))
    now_has past then d = grown_known then.journal (header Two ++ own) (recorded past) (rw has at d.text.journal)

    off_whole : (past : List Happening) (rest : List (Contents × ℕ)) (fault : DriveFault) (then last : Streams)
        → IsDriven start past first then → BrokenOff start past rest fault then last
        → BrokenOff start past rest fault (all then) (all last)
    off_whole past rest Journal then last d (entry, next, cut) =
        let part = appends_whole then.journal last.journal _ _ (now_has past then d) cut.journal.part in
        (entry, next, search)
    off_whole past rest Link then last d (frame, next, inl cut) =
        (frame, next, inl (assumption (keeps_whole then.journal last.journal cut.journal)))
    off_whole past rest Link then last d (frame, next, inr cut) =
        (frame, next, inr (assumption (keeps_whole then.journal last.journal cut.journal)))
    off_whole past [] NoMemory then last d off = absurd off
    off_whole past (order ∷ rest) NoMemory then last d off =
        (off.0, off.1, off.2, assumption (keeps_whole then.journal last.journal off.3.journal))
    off_whole past rest Out then last d off =
        (off.0, off.1, off.2, assumption (keeps_whole then.journal last.journal off.3.journal))
    off_whole past rest fault then last d off =
        (off.0, off.1, assumption (keeps_whole then.journal last.journal off.2.journal))

    fell_whole : {orders : List (Contents × ℕ)} {fault : DriveFault} {last : Streams}
        (so all_so : Option (List ℕ) → Type 0)
        → ((then : Option (List ℕ)) (more : List ℕ) → then ≡ Some (header Two ++ more) → so then → all_so (whole then))
        → Fell start orders fault first last so
        → Fell start orders fault (record first { journal = Some begun }) (all last) all_so
    fell_whole {orders} {fault} {last} so all_so f (inl (d, is_so)) = inl (
      record {
        past = d.past;
        rest = d.rest;
        middle = all d.middle;
        driven = driven_whole d.past d.middle d.driven;
        asked = d.asked;
        broken = off_whole d.past d.rest fault d.middle last d.driven d.broken;
      },
      f d.middle.journal _ (now_has d.past d.middle d.driven) is_so,
    )
    fell_whole {orders} {fault} {last} so all_so f (inr (writer, then, d, keeps, is_so, still)) = inr (
      writer,
      all then,
      drive_whole d,
      keeps_whole then.journal last.journal keeps,
      f then.journal _ (now_has d.past then d.driven) is_so,
      drive_whole still,
    )

-- ---- a sitting of the whole

module _ (older : JournalState) {limit most : ℕ} {first : Streams} (b : IsBegunBehind (Some older) limit most first)
    (shown : List ℕ) (is : first.journal ≡ Some shown) where
  abbrev found : List ℕ
  found = journal_spelling Two b.journal.records

  -- what the store shows once it is opened is the whole
  whole_found : bytes_behind older.records (journal_spelling Two b.begun.journal.records) ≡ found
  whole_found =
      ap (λ (bytes : List ℕ). header Two ++ bytes) (sym (spelling_append b.begun.journal.records older.records))
      ∙ ap (journal_spelling Two) (sym b.whole.records_are)

  kept_whole : AreKept Two (order_count older + limit) b.journal.records
  kept_whole = rw b.whole.limit_is at b.whole.kept

  loaded : IsLoaded (order_count older + limit) found b.journal (length found) Two
  loaded =
      let spelled = sym (append-nil found) in
      (b.whole.limit_is, kept_whole, record { rest = []; spelled = spelled; cut = cut_of_none; counts = refl })

  abbrev begun_whole : (room : ℕ) → length found ≤ room
      → IsBegun (order_count older + limit) room (muted (record first { journal = Some found }))
  begun_whole room within = record {
    journal = b.journal;
    opened = record {
      version = Two;
      counted = length found;
      total = length found;
      found = record { bytes = found; shown = refl; within = within; total_is = refl; loaded = loaded };
    };
    middle = Some found;
    written = refl;
  }

  pub ended_whole : (pace : Pace) (room : ℕ) (within : length found ≤ room) (given : List Given) (writer : WriterState)
      (last : Streams) (left : List ℕ)
      (follow : IsFollowed (start_by pace b.journal) given (from b.begun) writer last)
      → last.journal ≡ Some left → CameToItsEnd (order_count older + limit) room found
      (record { start = start_by pace b.journal; past = happenings follow.steps }) (bytes_behind older.records left)
  ended_whole pace room within given writer last left follow held =
      came_to_its_end pace {first = muted (record first { journal = Some found })} refl (begun_whole room within)
      (drive_whole older.records (made is b.begun) whole_found
      (as_drive (start_by pace b.journal) given (from b.begun) writer last follow)) (ap (whole older.records) held)

  pub broke_whole : (pace : Pace) (room : ℕ) (within : length found ≤ room) (given : List Given) (fault : DriveFault)
      (last : Streams) (left : List ℕ)
      (follow : IsBrokenFollow (start_by pace b.journal) given fault (from b.begun) last)
      → IsBetween follow.then.journal last.journal left
      → (past : List Happening) × HasSat (order_count older + limit) room found
      (record { start = start_by pace b.journal; past = past }) (bytes_behind older.records left)
  broke_whole pace room within given fault last left follow between =
      fell_sat pace {first = muted (record first { journal = Some found })} refl (begun_whole room within)
      (bytes_behind older.records left)
      (fell_whole older.records (made is b.begun) whole_found (λ then. IsBetween then last.journal left)
      (λ then. IsBetween then (whole older.records last.journal) (bytes_behind older.records left))
      (λ then more has so. between_whole older.records then last.journal more left has so)
      (fell (λ then. IsBetween then last.journal left) follow between))

  -- ---- what a stop may leave

  part_whole : (seen left : List ℕ) → IsPartBehind limit (Some shown) (Some seen) left
      → IsPartBehind (order_count older + limit) (Some found) (Some (bytes_behind older.records seen))
      (bytes_behind older.records left)
  part_whole seen left (records, loads_it, between) =
      let same = one_records limit shown b.begun.journal.records records (loads is b.begun) loads_it in
      let own = records_spelling Two b.begun.journal.records in
      let all_between = between_whole older.records (Some (header Two ++ own)) (Some seen) own left refl
      (rw same at between) in
      let Behind : List ℕ → Type 0 =
      λ front. IsBetween (Some front) (Some (bytes_behind older.records seen)) (bytes_behind older.records left) in (
        b.journal.records,
        whole_loads (order_count older + limit) b.journal.records kept_whole,
        subst Behind whole_found all_between,
      )

  abbrev StoodWhole : ℕ → List ℕ → Streams → Type 0
  StoodWhole room left last =
      StoodOnce (order_count older + limit) room found (bytes_behind older.records left)
      (muted (record first { journal = Some found })) (all older.records last)

  module _ (pace : Pace) (room : ℕ) (within : length found ≤ room) (given : List Given) (seen left : List ℕ)
      (last : Streams) (held : last.journal ≡ Some seen) (part : IsPartBehind limit (Some shown) (Some seen) left) where
    pub ended_stood : (writer : WriterState) → IsFollowed (start_by pace b.journal) given (from b.begun) writer last
        → StoodWhole room left last
    ended_stood writer follow =
        stood_in pace {first = muted (record first { journal = Some found })} (all older.records last) refl
        (ap (whole older.records) held) (begun_whole room within) (reverse (submitted given))
        (part_whole seen left part) writer
        (drive_whole older.records (made is b.begun) whole_found
        (as_drive (start_by pace b.journal) given (from b.begun) writer last follow))

    pub broke_stood : (fault : DriveFault) → IsBrokenFollow (start_by pace b.journal) given fault (from b.begun) last
        → StoodWhole room left last
    broke_stood fault follow =
        by (fell_whole older.records (made is b.begun) whole_found (λ then. ⊤) (λ then. ⊤) (λ then more has so. tt)
        (fell (λ then. ⊤) follow tt))
      where
        by : Fell (start_by pace b.journal) (reverse (submitted given)) fault
            (muted (record first { journal = Some found })) (all older.records last) (λ then. ⊤)
            → StoodWhole room left last
        by (inl (d, so)) =
            stood_before pace {first = muted (record first { journal = Some found })} (all older.records last) refl
            (ap (whole older.records) held) (begun_whole room within) (reverse (submitted given))
            (part_whole seen left part) fault d
        by (inr (writer, then, d, keeps, so, still)) =
            stood_in pace {first = muted (record first { journal = Some found })} (all older.records last) refl
            (ap (whole older.records) held) (begun_whole room within) (reverse (submitted given))
            (part_whole seen left part) writer still

  -- the bytes that a store shows that was opened before, after the older records, are the same file
  abbrev Again : List ℕ → Type 0
  Again bytes = IsSameFile (order_count older + limit) (bytes_behind older.records bytes) found

  again_of : (bytes : List ℕ) (counted : ℕ) → IsLoadable Two bytes b.begun.journal.records counted → Again bytes
  again_of [] counted loadable =
      inl (rw (b.whole.records_are, loadable.1) (sym (append-nil (journal_spelling Two older.records))))
  again_of (byte ∷ bytes) counted torn =
      let spelled : bytes_behind older.records (byte ∷ bytes) ≡ found ++ torn.rest =
      ap (bytes_behind older.records) torn.spelled
      ∙ sym (append_assoc (journal_spelling Two older.records) (records_spelling Two b.begun.journal.records) torn.rest)
      ∙ ap (λ (front : List ℕ). front ++ torn.rest) whole_found in
      inr (
        b.journal.records,
        record {
          version = Two;
          len = length found;
          kept = kept_whole;
          loadable = record { rest = torn.rest; spelled = spelled; cut = torn.cut; counts = refl };
        },
        whole_loads (order_count older + limit) b.journal.records kept_whole,
      )

  pub again_whole : b.begun.opened.version ≡ Two → Again shown
  again_whole version =
      let f = b.begun.opened.found in
      rw (rw is at f.shown) (again_of f.bytes b.begun.opened.counted (rw version at f.loaded.2))
