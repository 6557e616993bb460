-- The facts of a trace on which worlds depend: its frames are safe, and each record is of a sentence and rests on
-- reads. A legal trace is so; and so it is of the newest records alone, back to where the journal was idle.
use Rattle.std.proofs.Common.{◌≡◌, refl, sym, ap, subst, ℕ, Bool, true, false, ◌||◌, List, [], ◌∷◌, ◌++◌}
use Rattle.std.proofs.Common.{append_assoc, ◌∙◌, Option, Some, ◌==◌, true≢false}
use Rattle.std.specs.Prelude.{⊤}
use Rattle.dali_frame.specs.declared.forward.Frame.{Frame}
use Rattle.dali_frame.specs.declared.forward.Frame.TheVariants.{Dtr0, Dtr1, Dtr2, Write, WriteSilent, Enable, AskDtr0}
use Rattle.dali_frame.specs.declared.forward.Frame.TheVariants.{AskDtr1, AskDtr2, Read, Other}
use Rattle.dali_journal.specs.declared.record.Record.{Record}
use Rattle.dali_journal.specs.declared.record.Record.TheVariants.{Began}
use Rattle.dali_journal.specs.declared.standing.Standing.{Standing}
use Rattle.dali_journal.specs.declared.standing.Standing.TheVariants as standings
use Rattle.dali_journal.specs.Sentence.{Allows, next_standing, standing_of, named_unit, is_begun, IsNew, IsSentence}
use Rattle.dali_write.specs.Exchanges.{Exchange}
use Rattle.dali_write.specs.Reads.{StillRead}
use Rattle.dali_write.specs.Worlds.{Selects}
use Rattle.dali_trace.specs.declared.happening.Happening.{Happening}
use Rattle.dali_trace.specs.declared.happening.Happening.TheVariants.{Asked, Sent, Kept}
use Rattle.dali_trace.specs.Cut.{kept_in}
use Rattle.dali_trace.specs.Trace.{Start, records_of, standing_at, sent_of}
use Rattle.dali_trace.specs.Legal.{Legal, MayFollow, MayKeep, MaySend, MayPut, Serves}
use Rattle.dali_trace.specs.Grounds.{Grounds}
use Rattle.dali_laws.specs.Stays.{unit_at_work}

-- The frames that are safe after these exchanges, with this standing of the records: one that enables the named unit;
-- puts a byte there that may be put, at a place that was made sure to be selected; sets DTR0 or DTR1; or asks or reads
-- the unit at work.
pub record IsSafeWrite (sent : List Exchange) (stands : Standing) (byte : ℕ) : Type 0 where
  pub unit : ℕ
  pub location : ℕ
  pub is_named : named_unit stands ≡ Some unit
  pub may : MayPut stands location byte
  pub selected : Selects unit location sent

abbrev pub IsSafeFrame : List Exchange → Standing → Frame → Type 0
IsSafeFrame sent stands (Enable unit) = named_unit stands ≡ Some unit
IsSafeFrame sent stands (Write byte) = IsSafeWrite sent stands byte
IsSafeFrame sent stands (Dtr0 byte) = ⊤
IsSafeFrame sent stands (Dtr1 byte) = ⊤
IsSafeFrame sent stands (AskDtr0 unit) = unit_at_work stands ≡ Some unit
IsSafeFrame sent stands (AskDtr1 unit) = unit_at_work stands ≡ Some unit
IsSafeFrame sent stands (Read unit) = unit_at_work stands ≡ Some unit
IsSafeFrame sent stands other = ⊥

abbrev pub IsSafe : Start → List Happening → Happening → Type 0
IsSafe start past (Sent frame answer) = IsSafeFrame (sent_of past) (standing_at start past) frame
IsSafe start past (Kept entry) =
    IsSentence (entry ∷ records_of start past) × Grounds (StillRead (sent_of past)) (standing_at start past) entry
IsSafe start past other = ⊤

abbrev pub AllSafe : Start → List Happening → Type 0
AllSafe start [] = IsSentence start.records
AllSafe start (next ∷ past) = AllSafe start past × IsSafe start past next

-- A legal trace

-- a record is kept, and a frame sent, only if one may be
pub may_keep : (start : Start) (past : List Happening) (entry : Record) → MayFollow start past (Kept entry)
    → MayKeep start past entry
may_keep start (Asked order moment ∷ past) entry may = absurd may
may_keep start _ entry may = may

pub may_send : (start : Start) (past : List Happening) (frame : Frame) (answer : Option ℕ)
    → MayFollow start past (Sent frame answer)
    → MaySend past (standing_at start past) frame
may_send start (Asked order moment ∷ past) frame answer may = absurd may
may_send start _ frame answer may = may

-- the unit that frames may be sent to is the one at work
served_works : (past : List Happening) (stands : Standing) (unit : ℕ) → Serves past stands unit
    → unit_at_work stands ≡ Some unit
served_works past standings.Idle unit serves = absurd serves
served_works past (standings.Began order) unit serves = ap Some (sym serves)
served_works past (standings.Opened order) unit serves = ap Some (sym serves)
served_works past (standings.Left left) unit serves = ap Some (sym serves.0)

pub safe_frame : (past : List Happening) (stands : Standing) (frame : Frame) → MaySend past stands frame
    → IsSafeFrame (sent_of past) stands frame
safe_frame past stands (Dtr0 byte) may = tt
safe_frame past stands (Dtr1 byte) may = tt
safe_frame past stands (AskDtr0 unit) may = served_works past stands unit may
safe_frame past stands (AskDtr1 unit) may = served_works past stands unit may
safe_frame past stands (Read unit) may = served_works past stands unit may
safe_frame past stands (Enable unit) may = may.1
safe_frame past stands (Write byte) may = record {
  unit = may.unit;
  location = may.location;
  is_named = may.is_named;
  may = may.may;
  selected = may.selected;
}
safe_frame past stands (Dtr2 byte) may = absurd may
safe_frame past stands (WriteSilent byte) may = absurd may
safe_frame past stands (AskDtr2 unit) may = absurd may
safe_frame past stands (Other word) may = absurd may

safe_next : (start : Start) (past : List Happening) (next : Happening) → MayFollow start past next
    → IsSafe start past next
safe_next start past (Sent frame answer) may =
    safe_frame past (standing_at start past) frame (may_send start past frame answer may)
safe_next start past (Kept entry) may =
    let kept = may_keep start past entry may in (kept.whole.0, kept.grounds)
safe_next start past other may = tt

pub legal_safe : (start : Start) (past : List Happening) → Legal start past → AllSafe start past
legal_safe start [] legal = legal.0
legal_safe start (next ∷ past) legal = (legal_safe start past legal.0, safe_next start past next legal.1)

-- After records at rest, the own ones have their standing by themselves

pub standing_joined : (own older : List Record) → standing_of older ≡ standings.Idle
    → standing_of (own ++ older) ≡ standing_of own
standing_joined [] older rests = rests
standing_joined (newest ∷ own) older rests =
    ap (λ (stands : Standing). next_standing stands newest) (standing_joined own older rests)

begun_own : (id : ℕ) (own older : List Record) → is_begun id (own ++ older) ≡ false → is_begun id own ≡ false
begun_own id [] older e = refl
begun_own id (Began order moment ∷ own) older e = by (order.id == id) e (begun_own id own older) where
  by : (same : Bool) → (same || is_begun id (own ++ older)) ≡ false
      → (is_begun id (own ++ older) ≡ false → is_begun id own ≡ false) → (same || is_begun id own) ≡ false
  by true e f = absurd (true≢false e)
  by false e f = f e
begun_own id (other ∷ own) older e = begun_own id own older e

new_own : (entry : Record) (own older : List Record) → IsNew entry (own ++ older) → IsNew entry own
new_own (Began order moment) own older new = begun_own order.id own older new
new_own other own older new = tt

pub sentence_own : (own older : List Record) → standing_of older ≡ standings.Idle → IsSentence (own ++ older)
    → IsSentence own
sentence_own [] older rests sentence = tt
sentence_own (newest ∷ own) older rests sentence = (
  sentence_own own older rests sentence.0,
  subst (λ (stands : Standing). Allows stands newest) (standing_joined own older rests) sentence.1,
  new_own newest own older sentence.2,
)

-- a frame that is safe after all records is safe after the own ones
pub safe_own : (sent : List Exchange) (own older : List Record) (frame : Frame) → standing_of older ≡ standings.Idle
    → IsSafeFrame sent (standing_of (own ++ older)) frame → IsSafeFrame sent (standing_of own) frame
safe_own sent own older frame rests safe =
    subst (λ (stands : Standing). IsSafeFrame sent stands frame) (standing_joined own older rests) safe

pub kept_own : (sent : List Exchange) (own older : List Record) (entry : Record) → standing_of older ≡ standings.Idle
    → IsSentence (entry ∷ own ++ older) → Grounds (StillRead sent) (standing_of (own ++ older)) entry
    → IsSentence (entry ∷ own) × Grounds (StillRead sent) (standing_of own) entry
kept_own sent own older entry rests sentence grounds = (
  sentence_own (entry ∷ own) older rests sentence,
  subst (λ (stands : Standing). Grounds (StillRead sent) stands entry) (standing_joined own older rests) grounds,
)

-- the records so far are those after the older ones, if they were so at the start
pub records_own : (start own : Start) (past : List Happening) (older : List Record)
    → start.records ≡ own.records ++ older → records_of start past ≡ records_of own past ++ older
records_own start own past older newest =
    ap (λ (records : List Record). kept_in past ++ records) newest
    ∙ sym (append_assoc (kept_in past) own.records older)

next_own : (start own : Start) (past : List Happening) (older : List Record) (next : Happening)
    → start.records ≡ own.records ++ older → standing_of older ≡ standings.Idle
    → IsSafe start past next → IsSafe own past next
next_own start own past older (Sent frame answer) newest rests safe =
    safe_own (sent_of past) (records_of own past) older frame rests
    (rw (records_own start own past older newest) at safe)
next_own start own past older (Kept entry) newest rests safe =
    let both = rw (records_own start own past older newest) at safe in
    kept_own (sent_of past) (records_of own past) older entry rests both.0 both.1
next_own start own past older other newest rests safe = tt

pub all_own : (start own : Start) (past : List Happening) (older : List Record)
    → start.records ≡ own.records ++ older → standing_of older ≡ standings.Idle
    → AllSafe start past → AllSafe own past
all_own start own [] older newest rests safe = sentence_own own.records older rests (rw newest at safe)
all_own start own (next ∷ past) older newest rests safe =
    (all_own start own past older newest rests safe.0, next_own start own past older next newest rests safe.1)
