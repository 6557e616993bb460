-- The worked traces are legal, and what may not happen on the way isn't.
use Rattle.std.proofs.Common.{◌≡◌, inl, inr, refl, sym, ap, ℕ, List, [], ◌∷◌, Option, Some, None, arith}
use Rattle.std.specs.Prelude.{◌≢◌, ⊤}
use Rattle.std.specs.List.{AllByRecursion}
use Rattle.dali_frame.specs.declared.forward.Frame.{Frame}
use Rattle.dali_frame.specs.declared.forward.Frame.TheVariants.{Dtr0, Dtr1, Enable, AskDtr0, AskDtr1, Read}
use Rattle.dali_bus.specs.Hears.{up}
use Rattle.dali_bank.specs.Order.{Contents, update_at}
use Rattle.dali_journal.specs.declared.standing.Standing.{Standing}
use Rattle.dali_journal.specs.declared.standing.Standing.TheVariants as standings
use Rattle.dali_journal.specs.Sentence.{named_unit}
use Rattle.dali_write.specs.Reads.{StillRead}
use Rattle.dali_write.proofs.EndLemmas.{selects_by, moved_by, reads_by}
use Rattle.dali_trace.specs.declared.happening.Happening.{Happening}
use Rattle.dali_trace.specs.declared.happening.Happening.TheVariants.{Sent}
use Rattle.dali_trace.specs.Trace.{Start, standing_at, sent_of}
use Rattle.dali_trace.specs.Legal.{Serves, MayPut, MaySend, MayFollow, Legal}
use Rattle.dali_trace.specs.Worked.{select_at, read_at, enable_twice, write_at, reads_of, write_all, first_order, empty}
use Rattle.dali_trace.specs.Worked.{taken, begun, measured, opened, unlocked, all_written, locked, lock_read}
use Rattle.dali_trace.specs.Worked.{all_read_back, ended, said, first_carried_out, first_elsewhere, busy_while_at_work}
use Rattle.dali_trace.specs.Worked.{number_used_again, one_of_one, full, written_on, jumped_on}

-- a unit that is served is so after one frame more
pub next : (past : List Happening) (frame : Frame) (answer : Option ℕ) (stands : Standing) (unit : ℕ)
    → Serves past stands unit → Serves (Sent frame answer ∷ past) stands unit
next past frame answer standings.Idle unit serves = serves
next past frame answer (standings.Began order) unit serves = serves
next past frame answer (standings.Opened order) unit serves = serves
next past frame answer (standings.Left left) unit serves = serves

-- four frames that select may follow, and then it is served
select_legal : (start : Start) (past : List Happening) (unit location : ℕ) → Legal start past
    → MayFollow start past (Sent (Dtr1 1) None)
    → Serves past (standing_at start past) unit
    → Legal start (select_at unit location past) × Serves (select_at unit location past) (standing_at start past) unit
select_legal start past unit location legal first serves =
    let stands = standing_at start past in
    let s1 = next past (Dtr1 1) None stands unit serves in
    let s2 = next (Sent (Dtr1 1) None ∷ past) (AskDtr1 unit) (Some 1) stands unit s1 in
    let s3 = next (Sent (AskDtr1 unit) (Some 1) ∷ Sent (Dtr1 1) None ∷ past) (Dtr0 location) None stands unit s2 in
    let s4 =
    next (Sent (Dtr0 location) None ∷ Sent (AskDtr1 unit) (Some 1) ∷ Sent (Dtr1 1) None ∷ past) (AskDtr0 unit)
    (Some location) stands unit s3 in
    (((((legal, first), s1), (unit, s2)), s3), s4)

-- a checked read may follow
pub read_legal : (start : Start) (past : List Happening) (unit location byte : ℕ) → Legal start past
    → MayFollow start past (Sent (Dtr1 1) None)
    → Serves past (standing_at start past) unit → Legal start (read_at unit location byte past)
read_legal start past unit location byte legal first serves =
    let stands = standing_at start past in
    let four = select_legal start past unit location legal first serves in
    let p4 = select_at unit location past in
    let s5 = next p4 (Read unit) (Some byte) stands unit four.1 in
    let s6 = next (Sent (Read unit) (Some byte) ∷ p4) (AskDtr0 unit) (Some (up location)) stands unit s5 in
    ((four, s5), s6)

-- so may two frames that enable the unit
pub enable_legal : (start : Start) (past : List Happening) (unit : ℕ) → Legal start past
    → MayFollow start past (Sent (Enable unit) None)
    → Serves past (standing_at start past) unit → named_unit (standing_at start past) ≡ Some unit
    → Legal start (enable_twice unit past) × Serves (enable_twice unit past) (standing_at start past) unit
enable_legal start past unit legal first serves is_named =
    let stands = standing_at start past in
    let s1 = next past (Enable unit) None stands unit serves in
    let s2 = next (Sent (Enable unit) None ∷ past) (Enable unit) None stands unit s1 in
    (((legal, first), (s1, is_named)), s2)

-- and a checked write
pub write_legal : (start : Start) (past : List Happening) (unit location byte : ℕ) → Legal start past
    → MayFollow start past (Sent (Enable unit) None)
    → Serves past (standing_at start past) unit → named_unit (standing_at start past) ≡ Some unit
    → MayPut (standing_at start past) location byte
    → Legal start (write_at unit location byte past)
write_legal start past unit location byte legal first serves is_named may =
    let enabled = enable_legal start past unit legal first serves is_named in
    let selected = select_legal start (enable_twice unit past) unit location enabled.0 (unit, enabled.1) enabled.1 in (
      selected.0,
      record {
        unit = unit;
        location = location;
        serves = selected.1;
        is_named = is_named;
        may = may;
        selected = selects_by unit location None None (sent_of (enable_twice unit past));
      },
    )

-- a checked read holds, and still holds after another
pub read_stands : (past : List Happening) (unit location byte : ℕ)
    → StillRead (sent_of (read_at unit location byte past)) unit location byte
read_stands past unit location byte = inl (reads_by unit location byte None None (sent_of past))

pub behind_read : (past : List Happening) (unit location byte other place found : ℕ)
    → StillRead (sent_of past) unit location byte
    → StillRead (sent_of (read_at other place found past)) unit location byte
behind_read past unit location byte other place found stands =
    inr (tt, inr (tt, inr (tt, inr (tt, inr (tt, inr (tt, inr (tt, stands)))))))

-- the same of all updates that are all_written, or read
abbrev pub IsAmong : Contents → List (ℕ × ℕ) → Type 0
IsAmong order [] = ⊤
IsAmong order (update ∷ updates) = (update_at order.updates update.0 ≡ Some update.1) × IsAmong order updates

pub writes_legal : (start : Start) (order : Contents) (updates : List (ℕ × ℕ)) (past : List Happening)
    → IsAmong order updates
    → standing_at start past ≡ standings.Opened order → Legal start past
    → ((unit : ℕ) → unit ≡ order.unit → MayFollow start past (Sent (Enable unit) None))
    → Legal start (write_all order.unit updates past)
writes_legal start order [] past among at legal first = legal
writes_legal start order (update ∷ updates) past among at legal first =
    let served : Serves past (standing_at start past) order.unit = rw at refl in
    let named : named_unit (standing_at start past) ≡ Some order.unit = rw at refl in
    let may : MayPut (standing_at start past) update.0 update.1 = rw at (inl among.0) in
    let one = write_legal start past order.unit update.0 update.1 legal (first order.unit refl) served named may in
    writes_legal start order updates (write_at order.unit update.0 update.1 past) among.1 at one
    (λ unit is. rw at (is, ap Some (sym is)))

pub reads_legal : (start : Start) (order : Contents) (updates : List (ℕ × ℕ)) (past : List Happening)
    → standing_at start past ≡ standings.Opened order → Legal start past → MayFollow start past (Sent (Dtr1 1) None)
    → Legal start (reads_of order.unit updates past)
reads_legal start order [] past at legal first = legal
reads_legal start order (update ∷ updates) past at legal first =
    let served : Serves past (standing_at start past) order.unit = rw at refl in
    let one = read_legal start past order.unit update.0 update.1 legal first served in
    let on : MaySend (read_at order.unit update.0 update.1 past) (standing_at start past) (Dtr1 1) =
    rw at (order.unit, refl) in
    reads_legal start order updates (read_at order.unit update.0 update.1 past) at one on

-- a read before all of them still holds, and so does each of them
pub reads_behind : (unit location byte : ℕ) (updates : List (ℕ × ℕ)) (other : ℕ) (past : List Happening)
    → StillRead (sent_of past) unit location byte
    → StillRead (sent_of (reads_of other updates past)) unit location byte
reads_behind unit location byte [] other past stands = stands
reads_behind unit location byte (update ∷ updates) other past stands =
    reads_behind unit location byte updates other (read_at other update.0 update.1 past)
    (behind_read past unit location byte other update.0 update.1 stands)

pub reads_stand : (unit : ℕ) (updates : List (ℕ × ℕ)) (past : List Happening)
    → AllByRecursion (λ update. StillRead (sent_of (reads_of unit updates past)) unit update.0 update.1) updates
reads_stand unit [] past = tt
reads_stand unit (update ∷ updates) past = (
  reads_behind unit update.0 update.1 updates unit (read_at unit update.0 update.1 past)
      (read_stands past unit update.0 update.1),
  reads_stand unit updates (read_at unit update.0 update.1 past),
)

-- the first order, piece by piece
taken_legal : Legal empty taken
taken_legal = (((tt, omega arith), tt), (refl, (tt, refl, refl)))

pub begun_legal : Legal empty begun
begun_legal = (taken_legal, record { whole = ((tt, tt, refl), omega arith); due = (refl, refl); grounds = tt })

pub measured_legal : Legal empty measured
measured_legal = read_legal empty begun 5 0x00 0x77 begun_legal (5, refl) refl

pub opened_legal : Legal empty opened
opened_legal = (
  measured_legal,
  record {
    whole = (((tt, tt, refl), refl, tt), omega arith);
    due = tt;
    grounds = (0x77, read_stands begun 5 0x00 0x77, omega arith, λ needed. absurd (omega (arith, needed)));
  },
)

pub unlocked_legal : Legal empty unlocked
unlocked_legal = write_legal empty opened 5 0x02 0x55 opened_legal (refl, refl) refl refl (inr (refl, inl refl))

-- and a write after it, of three frames
pub written_on_legal : Legal empty written_on
written_on_legal = (
  ((unlocked_legal, refl), refl),
  record {
    unit = 5;
    location = 3;
    serves = refl;
    is_named = refl;
    may = inl refl;
    selected = moved_by 5 3 (sent_of unlocked);
  },
)

-- and of four to another location
pub jumped_on_legal : Legal empty jumped_on
jumped_on_legal = (
  (((unlocked_legal, (5, refl)), refl), refl),
  record {
    unit = 5;
    location = 5;
    serves = refl;
    is_named = refl;
    may = inl refl;
    selected = moved_by 5 5 (sent_of (Sent (Dtr0 5) None ∷ unlocked));
  },
)

written_legal : Legal empty all_written
written_legal =
    writes_legal empty first_order first_order.updates unlocked (refl, (refl, (refl, (refl, (refl, (refl, tt)))))) refl
    unlocked_legal (λ unit is. (is, ap Some (sym is)))

locked_legal : Legal empty locked
locked_legal = write_legal empty all_written 5 0x02 0xFF written_legal (refl, refl) refl refl (inr (refl, inr refl))

lock_read_legal : Legal empty lock_read
lock_read_legal = read_legal empty locked 5 0x02 0xFF locked_legal (5, refl) refl

read_back_legal : Legal empty all_read_back
read_back_legal = reads_legal empty first_order first_order.updates lock_read refl lock_read_legal (5, refl)

pub ended_legal : Legal empty ended
ended_legal = (
  read_back_legal,
  record {
    whole = ((((tt, tt, refl), refl, tt), tt, tt), omega arith);
    due = tt;
    grounds = (
      reads_behind 5 0x02 0xFF first_order.updates 5 lock_read (read_stands locked 5 0x02 0xFF),
      reads_stand 5 first_order.updates lock_read,
    );
  },
)

said_legal : Legal empty said
said_legal = (ended_legal, (refl, (refl, refl)))

pub whole_legal : Legal empty first_carried_out
whole_legal = ((said_legal, tt), (refl, refl))

-- the other replies, each when it is due
pub busy_legal : Legal empty busy_while_at_work
busy_legal = ((begun_legal, tt), (refl, (tt, refl)))

pub reused_legal : Legal empty number_used_again
reused_legal = ((said_legal, tt), (refl, other)) where
  other : first_order ≢ first_elsewhere
  other e = let five : 5 ≡ 6 = ap (λ (order : Contents). order.unit) e in omega (arith, five)

pub full_legal : Legal one_of_one full
full_legal = ((((((tt, tt, refl), refl, tt), tt, tt), omega arith), tt), (refl, (tt, refl, refl)))
