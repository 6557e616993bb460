-- Drives over a store, one after another, are one trace.
use Rattle.std.proofs.Common.{◌≡◌, subst, inl, inr, refl, ℕ, List, [], ◌∷◌, Some}
use Rattle.dali_journal.specs.declared.record.Record.{Record}
use Rattle.dali_trace.specs.Trace.{Start, records_of}
use Rattle.dali_laws.specs.Joined.{Sitting, joined, FollowOn}
use Rattle.dali_laws.specs.Stays.{Stay, IsStay}
use Rattle.dali_laws.proofs.JoinLemmas.{joined_records, joined_sittings}
use Rattle.dali_laws.proofs.StayLemmas.{stay_right, ready_at_rest}
use Rattle.dali_laws.proofs.TakenLemmas.{kept_are_taken}
use Rattle.dali_store.specs.Opened.{Loads, IsOpenFault}
use Rattle.dali_store.specs.declared.opening.OpenFault.{OpenFault}
use Rattle.dali_store.specs.declared.opening.OpenFault.TheVariants as openings
use Rattle.dali_store.specs.declared.store.StoreFault.TheVariants.{TooBig, Failed, NoMemory}
use Rattle.dali_drive.specs.Repeats.{IsSameFile, HasSat, HaveSat, BeginsBy, ActOnce}
use Rattle.dali_drive.proofs.SittingLemmas.{IsSat, sat_killed, sat_broken, drive_holds, made}
use Rattle.dali_drive.proofs.KillLemmas.{one_records}

pub sat_so : (limit most : ℕ) (found : List ℕ) (sitting : Sitting) (left : List ℕ)
    → HasSat limit most found sitting left → IsSat limit found sitting left
sat_so limit most found sitting left (inl e) =
    let d = e.drive.driven in
    let holds = drive_holds d (made e.is_found e.begun) in
    rw e.is (sat_killed e.pace e.is_found e.begun e.drive.past e.drive.past left (d.legal, d.planned, d.in_range)
    (inl (record { is = refl; finished = e.drive.described.finished; bytes = cc (holds, e.is_left) })))
sat_so limit most found sitting left (inr (inl b)) =
    rw b.is (sat_broken b.pace b.is_found b.begun b.drive left b.is_left b.past b.happened b.finished b.counts)
sat_so limit most found sitting left (inr (inr k)) =
    rw k.is (sat_killed k.pace k.is_found k.begun k.older k.past left
    (k.driven.legal, k.driven.planned, k.driven.in_range)
    k.at)

-- No journal was opened

pub unopened_same : (limit most : ℕ) (found left : List ℕ) (fault : OpenFault)
    → IsOpenFault limit most (Some found) (Some left) fault → IsSameFile limit found left
unopened_same limit most found left (openings.Journal fault) (why, same) = inl same
unopened_same limit most found left (openings.Store TooBig) (long, same) = inl same
unopened_same limit most found left (openings.Store Failed) same = same
unopened_same limit most found left (openings.Store NoMemory) same = inl same
unopened_same limit most found left (openings.Join fault) never = absurd never

-- the same file loads to the same records
pub loads_still : (limit : ℕ) (records : List Record) (old new : List ℕ) → IsSameFile limit old new
    → Loads limit records old → Loads limit records new
loads_still limit records old new (inl same) loads = rw same loads
loads_still limit records old new (inr alike) loads =
    subst (λ (r : List Record). Loads limit r new) (one_records limit old records alike.0 loads alike.1) alike.2

-- the records after all sittings
joined_after : (start : Start) (newest : Sitting) (older : List Sitting)
    → newest.start.records ≡ records_of start (joined older)
    → records_of start (joined (newest ∷ older)) ≡ records_of newest.start newest.past
joined_after start newest [] same = rw same
joined_after start newest (last ∷ older) same =
    joined_records start newest.start (joined (last ∷ older)) newest.past same

pub sittings_follow : (start : Start) (most : ℕ) (first last : List ℕ) (sittings : List Sitting)
    → Loads start.limit start.records first → HaveSat start.limit most first sittings last
    → BeginsBy start sittings → FollowOn start sittings × Loads start.limit (records_of start (joined sittings)) last
sittings_follow start most first last [] loads same begins =
    (loads.kept.whole, loads_still start.limit start.records first last same loads)
sittings_follow start most first last (newest ∷ older) loads (found, left, sat, newest_sat, same) begins =
    let old = sittings_follow start most first found older loads sat begins.1 in
    let one = sat_so start.limit most found newest left newest_sat in
    let records : newest.start.records ≡ records_of start (joined older) =
    one_records start.limit found (records_of start (joined older)) newest.start.records old.1 one.found_loads in (
      (one.legal, one.planned, one.finished, records, one.limit_is, begins.0, old.0),
      loads_still start.limit (records_of start (joined (newest ∷ older))) left last same
          (rw (joined_after start newest older records) one.left_loads),
    )

pub act_once : (start : Start) (most : ℕ) (first left : List ℕ) (sittings : List Sitting) (stay : Stay)
    → Loads start.limit start.records first → HaveSat start.limit most first sittings left
    → BeginsBy start sittings → IsStay start (joined sittings) stay → ActOnce start sittings left stay
act_once start most first left sittings stay loads sat begins is =
    let all = sittings_follow start most first left sittings loads sat begins in
    let one = joined_sittings start sittings all.0 in
    let right = stay_right start (joined sittings) stay one.0 one.1 is in record {
      trace = one;
      file = all.1;
      once = kept_are_taken start (joined sittings) one.0;
      right = right;
      ready = ready_at_rest stay right;
    }
