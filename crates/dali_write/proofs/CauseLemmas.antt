-- An end that is no good one has a cause, and what a cause says of the exchanges.
use Rattle.std.proofs.Common.{◌≡◌, ◌≢◌, ◌∙◌, inl, inr, refl, sym, ap, subst, ℕ, Bool, true, false, nat_lt, ◌==◌, ◌&&◌}
use Rattle.std.proofs.Common.{if◌then◌else◌, List, [], ◌∷◌, ◌++◌, append_assoc, Option, Some, None, IsSome, get_or}
use Rattle.std.proofs.Common.{drop, length}
use Rattle.std.specs.Str.{bytes_eq}
use Rattle.dali_bank.specs.Order.{Contents, RisesAbove}
use Rattle.dali_write.specs.Exchanges.{Exchange}
use Rattle.dali_write.specs.declared.access.Access.{Access}
use Rattle.dali_write.specs.declared.access.Access.TheVariants.{ReadFrom, WriteTo, WriteOn}
use Rattle.dali_write.specs.declared.ask.Ask.TheVariants.{Ended}
use Rattle.dali_write.specs.declared.ask.Cause.{Cause}
use Rattle.dali_write.specs.declared.ask.Cause.TheVariants.{Unread, Unwritten, Another}
use Rattle.dali_write.specs.declared.ask.Verdict.{Verdict}
use Rattle.dali_write.specs.declared.ask.Verdict.TheVariants.{MayOpen, Done, Short, Format, Silent}
use Rattle.dali_write.specs.declared.block.Block.{Block}
use Rattle.dali_write.specs.declared.pace.Pace.{Pace}
use Rattle.dali_write.specs.declared.pace.Pace.TheVariants.{Checked, Short as ShortPace}
use Rattle.dali_write.specs.declared.request.Request.{Request}
use Rattle.dali_write.specs.declared.session.Session.{Session}
use Rattle.dali_write.specs.declared.stage.Task.{Task}
use Rattle.dali_write.specs.declared.stage.Task.TheVariants.{Fresh, Opened}
use Rattle.dali_write.specs.Requests.{block, access_requests}
use Rattle.dali_write.specs.Plans.{Plan, Finish, Make, next_plan, plan_after, either_way, give_up, expect, read_back, rows_of}
use Rattle.dali_write.specs.Plans.{most_of, read_backs, write_next, write_on, read_all_back, unlock, read_format_low, greatest}
use Rattle.dali_write.specs.Plans.{read_format, read_length}
use Rattle.dali_write.specs.Stages.{plan_of, plan_at, updates_for, access_of}
use Rattle.std.proofs.Common.{Err, Ok}
use Rattle.dali_write.specs.Tries.{AccessEnds, AccessesEnd, IsGoing, Misses, Succeeds, bytes_of, most_tries, plan_requests}
use Rattle.dali_write.specs.Doubts.{HasFailed}
use Rattle.dali_write.specs.Causes.{another, cause_by, cause_after, failure, first_of, is_read, is_write, IsShown}
use Rattle.dali_write.specs.Found.{StandsWith, IsCause}
use Rattle.dali_write.specs.Told.{Told, IsFresh, IsOpened, aim_of, cause_of}
use Rattle.dali_write.proofs.AskLemmas.{shown_ask, ask_shown}
use Rattle.dali_write.proofs.BlockBytesLemmas.{block_count}
use Rattle.dali_write.proofs.OtherByteLemmas.{EachBeforeWrite, TellsOther, after_each, task_each}
use Rattle.dali_write.proofs.PlanLemmas.{if_all}
use Rattle.dali_write.proofs.MissLemmas.{Behind, apt_then, turn_after}
use Rattle.dali_write.proofs.TurnLemmas.{task_turn}
use Rattle.dali_write.specs.Misses.{IsApt}
use Rattle.dali_write.specs.Plans.{IsInTurn}
use Rattle.std.specs.Prelude.{⊤}
use Rattle.dali_write.specs.Plans.{most_once, pieces_of, expect_all, read_again}
use Rattle.std.proofs.Common.{◌⊎◌}

-- after an access that failed, a cause if the plan doesn't go on by a read
pub fails_without : (updates : List (ℕ × ℕ)) (plan : Plan) (access : Access) → access_of plan ≡ Ok access
    → ((block : Block) → access_of (next_plan plan None) ≡ Ok (ReadFrom block) → ⊥)
    → cause_by updates plan None ≡ Some (failure access)
fails_without updates (Finish end) access is never = cc
fails_without updates (Make (WriteTo location byte) after) access is never = cc
fails_without updates (Make (WriteOn before location byte) after) access is never = cc
fails_without updates (Make (ReadFrom block) after) access is never = by (after None) never where
  by : (now : Plan) → ((block : Block) → access_of now ≡ Ok (ReadFrom block) → ⊥)
      → (if is_read now then None else Some (failure (ReadFrom block))) ≡ Some (failure access)
  by (Finish end) never = cc
  by (Make (ReadFrom some) after) never = absurd (never some refl)
  by (Make (WriteTo location byte) after) never = cc
  by (Make (WriteOn before location byte) after) never = cc

-- after an access that read, no cause if the plan ends
pub ends_without : (updates : List (ℕ × ℕ)) (plan : Plan) (bytes : List ℕ) (verdict : Verdict)
    → access_of (next_plan plan (Some bytes)) ≡ Err verdict → cause_by updates plan (Some bytes) ≡ None
ends_without updates (Finish end) bytes verdict ends = refl
ends_without updates (Make (WriteTo location byte) after) bytes verdict ends = refl
ends_without updates (Make (WriteOn before location byte) after) bytes verdict ends = refl
ends_without updates (Make (ReadFrom block) after) bytes verdict ends = by (after (Some bytes)) ends where
  by : (now : Plan) → access_of now ≡ Err verdict
      → (if is_write now then Some (another (read_backs updates) block.location bytes) else None) ≡ None
  by (Finish end) ends = refl
  by (Make access next) ends = cc

-- wherever the plan ends with no cause, it ends so
abbrev EndsWell : List (ℕ × ℕ) → (Verdict → Type 0) → Plan → Type 0
EndsWell updates P (Finish verdict) = P verdict
EndsWell updates P (Make access after) =
    (outcome : Option (List ℕ)) → cause_by updates (Make access after) outcome ≡ None
    → EndsWell updates P (after outcome)

neither : (one other : Option Cause) → first_of one other ≡ None → (one ≡ None) × (other ≡ None)
neither None other none = (refl, none)
neither (Some cause) other none = cc

next_well : (updates : List (ℕ × ℕ)) (P : Verdict → Type 0) (plan : Plan) (outcome : Option (List ℕ))
    → EndsWell updates P plan → cause_by updates plan outcome ≡ None → EndsWell updates P (next_plan plan outcome)
next_well updates P (Finish verdict) outcome well none = well
next_well updates P (Make access after) outcome well none = well outcome none

after_well : (updates : List (ℕ × ℕ)) (P : Verdict → Type 0) (plan : Plan) (outcomes : List (Option (List ℕ)))
    → EndsWell updates P plan → cause_after updates plan outcomes ≡ None → EndsWell updates P (plan_after plan outcomes)
after_well updates P plan [] well none = well
after_well updates P plan (outcome ∷ outcomes) well none =
    let both = neither (cause_after updates plan outcomes) (cause_by updates (plan_after plan outcomes) outcome) none in
    next_well updates P (plan_after plan outcomes) outcome (after_well updates P plan outcomes well both.0) both.1

well_over : (updates : List (ℕ × ℕ)) (P : Verdict → Type 0) (now : Plan) (left : List Request) (verdict : Verdict)
    → EndsWell updates P now → IsGoing now left → shown_ask now left ≡ Ended verdict → P verdict
well_over updates P (Finish end) left verdict well going is = let same : end ≡ verdict = cc in subst P same well
well_over updates P (Make access after) [] verdict well going is = cc
well_over updates P (Make access after) (next ∷ left) verdict well going is = cc

-- if it ends otherwise there is a cause
has_cause : (updates : List (ℕ × ℕ)) (P : Verdict → Type 0) (plan : Plan) (outcomes : List (Option (List ℕ)))
    (now : Plan) (left : List Request) (verdict : Verdict) (cause : Option Cause)
    → EndsWell updates P plan → plan_after plan outcomes ≡ now → IsGoing now left
    → shown_ask now left ≡ Ended verdict → cause ≡ cause_after updates plan outcomes → (P verdict → ⊥) → IsSome cause
has_cause updates P plan outcomes now left verdict (Some cause) well at going over is bad = refl
has_cause updates P plan outcomes now left verdict None well at going over is bad =
    absurd (bad (well_over updates P now left verdict
    (subst (EndsWell updates P) at (after_well updates P plan outcomes well (sym is))) going over))

-- ---- an opened session

abbrev IsDone : Verdict → Type 0
IsDone verdict = verdict ≡ Done

write_well : (updates : List (ℕ × ℕ)) (access : Access) (after : Plan) → EndsWell updates IsDone after
    → EndsWell updates IsDone (Make access (either_way give_up (λ bytes. after)))
write_well updates (ReadFrom block) after rest None none = cc
write_well updates (WriteTo location byte) after rest None none = cc
write_well updates (WriteOn before location byte) after rest None none = cc
write_well updates access after rest (Some bytes) none = rest

-- after a read that failed the plan ends well, or it gives up
abbrev AgainWell : List (ℕ × ℕ) → Plan → Type 0
AgainWell updates failed = EndsWell updates IsDone failed ⊎ ((is_read failed ≡ false) × (is_write failed ≡ true))

expect_well : (updates : List (ℕ × ℕ)) (failed : Plan) (location : ℕ) (bytes : List ℕ) (after : Plan)
    → AgainWell updates failed
    → EndsWell updates IsDone after → EndsWell updates IsDone (expect failed location bytes after)
expect_well updates failed location bytes after (inl well) rest None none = well
expect_well updates failed location bytes after (inr gives) rest None none = by (is_read failed) gives.0 none where
  by : (again : Bool) → again ≡ false
      → (if again then None else Some (failure (ReadFrom (block location (length bytes))))) ≡ None
      → EndsWell updates IsDone failed
  by true other none = cc
  by false other none = cc
expect_well updates failed location bytes after again rest (Some read) none = by (bytes_eq read bytes) none where
  told : Bool → Option Cause
  told writes = if writes then Some (another (read_backs updates) location read) else None

  gave : (writes : Bool) → writes ≡ true → told writes ≡ None → EndsWell updates IsDone failed
  gave true is none = cc
  gave false is none = cc

  otherwise : AgainWell updates failed → told (is_write failed) ≡ None → EndsWell updates IsDone failed
  otherwise (inl well) none = well
  otherwise (inr gives) none = gave (is_write failed) gives.1 none

  by : (same : Bool) → told (is_write (if same then after else failed)) ≡ None
      → EndsWell updates IsDone (if same then after else failed)
  by true none = rest
  by false none = otherwise again none

all_well : (updates : List (ℕ × ℕ)) (rows : List (ℕ × List ℕ)) (after : Plan) → EndsWell updates IsDone after
    → EndsWell updates IsDone (expect_all rows after)
all_well updates [] after rest = rest
all_well updates (row ∷ rows) after rest =
    expect_well updates give_up row.0 row.1 (expect_all rows after) (inr (refl, refl))
    (all_well updates rows after rest)

again_well : (updates : List (ℕ × ℕ)) (pieces : List (ℕ × List ℕ)) (after : Plan) (again : Bool)
    → EndsWell updates IsDone after → AgainWell updates (if again then expect_all pieces after else give_up)
again_well updates pieces after true rest = inl (all_well updates pieces after rest)
again_well updates pieces after false rest = inr (refl, refl)

back_well : (updates : List (ℕ × ℕ)) (rows : List (ℕ × List ℕ)) → EndsWell updates IsDone (read_back rows)
back_well updates [] = refl
back_well updates (row ∷ rows) =
    let rest = back_well updates rows in
    expect_well updates (read_again row.0 row.1 (read_back rows)) row.0 row.1 (read_back rows)
    (again_well updates (pieces_of row.0 row.1) (read_back rows) (nat_lt most_once (length row.1)) rest) rest

on_well : (pace : Pace) (updates : List (ℕ × ℕ)) (before : ℕ) (left : List (ℕ × ℕ))
    → EndsWell updates IsDone (write_on pace updates before left)
on_well pace updates before [] =
    write_well updates (write_next pace before 2 0xFF) (read_all_back pace updates)
    (back_well updates (rows_of (most_of pace) (read_backs updates)))
on_well pace updates before (update ∷ left) =
    write_well updates (write_next pace before update.0 update.1) (write_on pace updates update.0 left)
    (on_well pace updates update.0 left)

unlock_well : (pace : Pace) (updates : List (ℕ × ℕ)) → EndsWell updates IsDone (unlock pace updates)
unlock_well pace updates =
    write_well updates (WriteTo 2 0x55) (write_on pace updates 2 updates) (on_well pace updates 2 updates)

-- ---- a fresh one

abbrev IsHeard : Verdict → Type 0
IsHeard verdict = verdict ≢ Silent

judged : (updates : List (ℕ × ℕ)) (suits : Bool) → IsHeard (if suits then MayOpen else Format)
judged updates true = λ silent. cc
judged updates false = λ silent. cc

low_well : (updates : List (ℕ × ℕ)) (high : ℕ) → EndsWell updates IsHeard (read_format_low high)
low_well updates high None none = cc
low_well updates high (Some low) none = judged updates ((high == 0) && (get_or low 0 0 == 3))

checked_well : (updates : List (ℕ × ℕ)) → EndsWell updates IsHeard (read_format Checked)
checked_well updates None none = cc
checked_well updates (Some high) none = low_well updates (get_or high 0 0)

short_well : (updates : List (ℕ × ℕ)) → EndsWell updates IsHeard (read_format ShortPace)
short_well updates None none = cc
short_well updates (Some read) none = judged updates ((get_or read 0 0 == 0) && (get_or read 1 0 == 3))

format_well : (pace : Pace) (updates : List (ℕ × ℕ)) → EndsWell updates IsHeard (read_format pace)
format_well Checked updates = checked_well updates
format_well ShortPace updates = short_well updates

length_well : (pace : Pace) (updates : List (ℕ × ℕ)) → EndsWell updates IsHeard (read_length pace updates)
length_well pace updates None none = cc
length_well pace updates (Some last) none =
    if_all (EndsWell updates IsHeard) (nat_lt (get_or last 0 0) (greatest updates)) (Finish Short) _ (λ silent. cc)
    (if_all (EndsWell updates IsHeard) (nat_lt (greatest updates) 0x13) (Finish MayOpen) (read_format pace)
    (λ silent. cc) (format_well pace updates))

-- ---- sessions

told_as_task : (told : List Exchange) (s : Session) (task : Task) (P : Verdict → Type 0) (verdict : Verdict)
    → Told told s → s.task ≡ task → EndsWell (updates_for task) P (plan_of task) → aim_of s ≡ Ended verdict
    → (P verdict → ⊥) → IsSome (cause_of s)
unfolding Told
told_as_task told s task P verdict was is well aim bad =
    let now = plan_at s.task s.stage in
    let left = drop s.number (plan_requests s.unit now s.misses) in
    let w =
    subst (λ (task : Task). StandsWith task s.unit told now s.misses left s.tried.items s.bytes.items s.cause) is was in
    has_cause (updates_for task) P (plan_of task) w.outcomes now left verdict s.cause well w.stands.now_is s.going
    (ask_shown now left s.going ∙ aim) w.cause_is bad

pub opened_has_cause : (order : Contents) (pace : Pace) (told : List Exchange) (s : Session) (verdict : Verdict)
    → IsOpened order pace s → Told told s → aim_of s ≡ Ended verdict → verdict ≢ Done → IsSome (cause_of s)
opened_has_cause order pace told s verdict is was aim bad =
    told_as_task told s (Opened order pace) IsDone verdict was is.1 (unlock_well pace order.updates) aim bad

pub fresh_has_cause : (order : Contents) (pace : Pace) (told : List Exchange) (s : Session) → IsFresh order pace s
    → Told told s → aim_of s ≡ Ended Silent → IsSome (cause_of s)
fresh_has_cause order pace told s is was aim =
    told_as_task told s (Fresh order pace) IsHeard Silent was is.1 (length_well pace order.updates) aim
    (λ heard. heard refl)

-- ---- the exchanges that show it

-- it is shown by the older ones
failed_later : (unit : ℕ) (newer older : List Exchange) (cause : Cause)
    → ((failed : HasFailed unit older) × (cause ≡ failure failed.access))
    → (failed : HasFailed unit (newer ++ older)) × (cause ≡ failure failed.access)
failed_later unit newer older cause (failed, is) = (
  record {
    newer = newer ++ failed.newer;
    before = failed.before;
    parts = ap (λ (t : List Exchange). newer ++ t) failed.parts ∙ sym (append_assoc newer failed.newer failed.before);
    access = failed.access;
    failure = failed.failure;
  },
  is,
)

shown_later : (unit : ℕ) (updates : List (ℕ × ℕ)) (newer older : List Exchange) (cause : Cause)
    → IsShown unit updates older cause → IsShown unit updates (newer ++ older) cause
shown_later unit updates newer older (Unread location) failed =
    failed_later unit newer older (Unread location) failed
shown_later unit updates newer older (Unwritten location) failed =
    failed_later unit newer older (Unwritten location) failed
shown_later unit updates newer older (Another location byte) read = record {
  newer = newer ++ read.newer;
  read = read.read;
  older = read.older;
  parts = ap (λ (t : List Exchange). newer ++ t) read.parts
      ∙ sym (append_assoc newer read.newer (read.read ++ read.older));
  block = read.block;
  few = read.few;
  bytes = read.bytes;
  answered = read.answered;
  first = read.first;
}

-- an access that failed is its own cause
failed_now : (unit : ℕ) (updates : List (ℕ × ℕ)) (access : Access) (newer older : List Exchange)
    → IsApt older access → Misses (access_requests unit access) most_tries newer
    → IsShown unit updates (newer ++ older) (failure access)
failed_now unit updates access newer older apt missed = by access apt missed
  where
    failed : (access : Access) → IsApt older access → Misses (access_requests unit access) most_tries newer
        → HasFailed unit (newer ++ older)
    failed access apt missed = record {
      newer = [];
      before = newer ++ older;
      parts = refl;
      access = access;
      failure = record { tries = newer; older = older; parts = refl; place = apt; missed = missed };
    }

    by : (access : Access) → IsApt older access → Misses (access_requests unit access) most_tries newer
        → IsShown unit updates (newer ++ older) (failure access)
    by (ReadFrom block) apt missed = (failed (ReadFrom block) apt missed, refl)
    by (WriteTo location byte) apt missed = (failed (WriteTo location byte) apt missed, refl)
    by (WriteOn before location byte) apt missed = (failed (WriteOn before location byte) apt missed, refl)

-- a read that came to its end was answered one byte for each location of its block
read_long : (unit : ℕ) (block : Block) (bytes : List ℕ) (told : List Exchange)
    → Succeeds (access_requests unit (ReadFrom block)) (Some bytes) told → length bytes ≡ block.count
read_long unit block bytes told (newer, older, count, parts, try, is, few, missed) =
    let same : bytes_of newer ≡ bytes = cc in block_count unit block bytes newer (try, same)

-- the plan goes on by an access in its place
abbrev AptPlan : List Exchange → Plan → Type 0
AptPlan older (Finish verdict) = ⊤
AptPlan older (Make access after) = IsApt older access

-- an access that ended is its own cause
shown_now : (unit : ℕ) (updates : List (ℕ × ℕ)) (plan : Plan) (outcome : Option (List ℕ)) (newer older : List Exchange)
    (cause : Cause)
    → EachBeforeWrite (TellsOther updates) plan → AptPlan older plan → AccessEnds unit plan outcome newer
    → cause_by updates plan outcome ≡ Some cause → IsShown unit updates (newer ++ older) cause
shown_now unit updates (Finish verdict) outcome newer older cause each apt ends is = absurd ends
shown_now unit updates (Make (ReadFrom block) after) None newer older cause each apt (inl done) is =
    let never = done.5 in cc
shown_now unit updates (Make (ReadFrom block) after) None newer older cause each apt (inr failed) is =
    by (is_read (after None)) is
  where
    by : (again : Bool) → (if again then None else Some (failure (ReadFrom block))) ≡ Some cause
        → IsShown unit updates (newer ++ older) cause
    by true is = cc
    by false is =
        let same : failure (ReadFrom block) ≡ cause = cc in
        subst (IsShown unit updates (newer ++ older)) same
        (failed_now unit updates (ReadFrom block) newer older apt failed.1)
shown_now unit updates (Make (WriteTo location byte) after) None newer older cause each apt (inl done) is =
    let never = done.5 in cc
shown_now unit updates (Make (WriteTo location byte) after) None newer older cause each apt (inr failed) is =
    let same : failure (WriteTo location byte) ≡ cause = cc in
    subst (IsShown unit updates (newer ++ older)) same
    (failed_now unit updates (WriteTo location byte) newer older apt failed.1)
shown_now unit updates (Make (WriteOn before location byte) after) None newer older cause each apt (inl done) is =
    let never = done.5 in cc
shown_now unit updates (Make (WriteOn before location byte) after) None newer older cause each apt (inr failed) is =
    let same : failure (WriteOn before location byte) ≡ cause = cc in
    subst (IsShown unit updates (newer ++ older)) same
    (failed_now unit updates (WriteOn before location byte) newer older apt failed.1)
shown_now unit updates (Make (ReadFrom block) after) (Some bytes) newer older cause each apt (inl done) is =
    by (is_write (after (Some bytes))) refl is
  where
    by : (gives_up : Bool) → is_write (after (Some bytes)) ≡ gives_up
        → (if gives_up then Some (another (read_backs updates) block.location bytes) else None) ≡ Some cause
        → IsShown unit updates (newer ++ older) cause
    by true writes same =
        let (few, tells) = (each (Some bytes)).0 writes in
        let told = tells (read_long unit block bytes newer done) in
        let is_that : Another told.0 told.1 ≡ cause = cc in
        subst (IsShown unit updates (newer ++ older)) is_that record {
          newer = [];
          read = newer;
          older = older;
          parts = refl;
          block = block;
          few = few;
          bytes = bytes;
          answered = done;
          first = told.3;
        }
    by false writes same = cc
shown_now unit updates (Make (ReadFrom block) after) (Some bytes) newer older cause each apt (inr failed) is =
    let never = failed.0 in cc
shown_now unit updates (Make (WriteTo location byte) after) (Some bytes) newer older cause each apt ends is = cc
shown_now unit updates (Make (WriteOn before location byte) after) (Some bytes) newer older cause each apt ends is = cc

-- the first of them is the cause, or else the newest access is
shown_first : (unit : ℕ) (updates : List (ℕ × ℕ)) (plan : Plan) (outcome : Option (List ℕ))
    (newer older : List Exchange) (first : Option Cause) (cause : Cause)
    → EachBeforeWrite (TellsOther updates) plan → (first ≡ Some cause → IsShown unit updates older cause)
    → AptPlan older plan → AccessEnds unit plan outcome newer
    → first_of first (cause_by updates plan outcome) ≡ Some cause
    → IsShown unit updates (newer ++ older) cause
shown_first unit updates plan outcome newer older (Some one) cause each before apt ends is =
    shown_later unit updates newer older cause (before is)
shown_first unit updates plan outcome newer older None cause each before apt ends is =
    shown_now unit updates plan outcome newer older cause each apt ends is

shown_by : (unit : ℕ) (updates : List (ℕ × ℕ)) (plan : Plan) (outcomes : List (Option (List ℕ)))
    (told : List Exchange) (cause : Cause)
    → EachBeforeWrite (TellsOther updates) plan → IsInTurn None plan → AccessesEnd unit plan outcomes told
    → cause_after updates plan outcomes ≡ Some cause → IsShown unit updates told cause
shown_by unit updates plan [] told cause each turn ends is = cc
shown_by unit updates plan (outcome ∷ outcomes) told cause each turn ends is =
    let here = turn_after unit plan outcomes ends.1 turn ends.4 in
    rw ends.2 (shown_first unit updates (plan_after plan outcomes) outcome ends.0 ends.1
    (cause_after updates plan outcomes) cause (after_each (TellsOther updates) plan outcomes each)
    (shown_by unit updates plan outcomes ends.1 cause each turn ends.4)
    (apt_plan (plan_after plan outcomes) ends.1 here.0 here.1 here.2) ends.3 is)
  where
    apt_plan : (now : Plan) (older : List Exchange) (last : Option ℕ) → IsInTurn last now → Behind last older
        → AptPlan older now
    apt_plan (Finish verdict) older last is behind = tt
    apt_plan (Make access after) older last is behind = apt_then last access older is.0 behind

pub cause_shown : (task : Task) (unit : ℕ) (told : List Exchange) (cause : Cause) → RisesAbove 2 (updates_for task)
    → IsCause task unit told (Some cause) → IsShown unit (updates_for task) told cause
cause_shown task unit told cause rises (now, misses, left, tried, bytes, w) =
    let s = w.stands in
    rw s.parts (shown_later unit (updates_for task) s.tried (s.missed ++ s.ended) cause
    (shown_later unit (updates_for task) s.missed s.ended cause
    (shown_by unit (updates_for task) (plan_of task) w.outcomes s.ended cause (task_each task rises)
    (task_turn task) s.accesses
    (sym w.cause_is))))
