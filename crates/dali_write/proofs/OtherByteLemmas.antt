-- A read after which a session gives up has told another byte than has to be there, since the updates rise: each
-- location has one byte.
use Rattle.std.proofs.Common.{◌≡◌, ◌≢◌, ◌∙◌, ◌≤◌, inl, inr, refl, ap, subst, ℕ, zero, suc, Bool, true, false, ◌==◌}
use Rattle.std.proofs.Common.{nat_lt, if◌then◌else◌, List, [], ◌∷◌, length, Option, Some, None, arith}
use Rattle.std.specs.Prelude.{slice_get, ⊤, get_or, min}
use Rattle.std.specs.Str.{bytes_eq}
use Rattle.std.proofs.lemmas.Bool.{eqb-true, eqb-false, ltb-false}
use Rattle.dali_bank.specs.Order.{RisesAbove}
use Rattle.dali_bus.specs.Hears.{up}
use Rattle.dali_write.specs.declared.access.Access.{Access}
use Rattle.dali_write.specs.declared.access.Access.TheVariants.{ReadFrom}
use Rattle.dali_write.specs.declared.ask.Cause.TheVariants.{Another}
use Rattle.dali_write.specs.declared.ask.Verdict.{Verdict}
use Rattle.dali_write.specs.declared.ask.Verdict.TheVariants.{MayOpen, Short as ShortBank, Silent, Doubt, DoubtOpen, Closed}
use Rattle.dali_write.specs.declared.ask.Verdict.TheVariants.{NotClosed, Read}
use Rattle.dali_write.specs.declared.block.Block.{Block}
use Rattle.dali_write.specs.declared.pace.Pace.{Pace}
use Rattle.dali_write.specs.declared.pace.Pace.TheVariants.{Checked, Short}
use Rattle.dali_write.specs.declared.stage.Task.{Task}
use Rattle.dali_write.specs.declared.stage.Task.TheVariants.{Fresh, Opened, Closing, Reading, ReadingBlock}
use Rattle.dali_write.specs.Requests.{block, moved_on}
use Rattle.dali_write.specs.Plans.{Plan, Finish, Make, next_plan, plan_after, either_way, give_up, close, expect}
use Rattle.dali_write.specs.Plans.{read_back, rows_of, most_of, read_backs, write_next, write_on}
use Rattle.dali_write.specs.Plans.{read_all_back, read_length, read_format, read_format_low, judge_format, greatest}
use Rattle.dali_write.specs.Plans.{judge_length, read_on}
use Rattle.dali_write.specs.Stages.{plan_of, updates_for}
use Rattle.dali_write.specs.Causes.{another, is_wanted, is_write, IsFirstOther}
use Rattle.dali_write.specs.Touches.{Has}
use Rattle.dali_write.proofs.PlaceLemmas.{moved_next}
use Rattle.dali_write.proofs.PlanLemmas.{if_all}
use Rattle.dali_write.proofs.RisingLemmas.{has_above}
use Rattle.dali_write.proofs.RowLemmas.{AllInRow, AllInRows, Small, rows_hold, pieces_small}
use Rattle.dali_write.specs.Plans.{most_once, pieces_of, expect_all, read_again}
use Rattle.dali_write.proofs.RowLemmas.{row_pieces}

-- ---- what has to be there

-- whether a byte is wanted at a place tells whether it is the one of that place
wanted_is : (bound : ℕ) (wanted : List (ℕ × ℕ)) (location own byte : ℕ) → RisesAbove bound wanted
    → Has wanted location own → is_wanted wanted location byte ≡ (own == byte)
wanted_is bound [] location own byte rises has = absurd has
wanted_is bound (update ∷ wanted) location own byte rises (inl here) = grind (arith, eqb-false)
wanted_is bound (update ∷ wanted) location own byte rises (inr later) =
    grind (
      arith,
      eqb-true,
      has_above update.0 wanted location own rises.1 later,
      wanted_is update.0 wanted location own byte rises.1 later,
    )

-- ---- the byte that is reported

-- the first other byte that was read, as it is reported
abbrev Tells : List (ℕ × ℕ) → Block → List ℕ → Type 0
Tells wanted block read =
    (location : ℕ) × (byte : ℕ) × (another wanted block.location read ≡ Another location byte)
    × IsFirstOther wanted block read location byte

-- it is the one at hand
first_here : (wanted : List (ℕ × ℕ)) (location count own byte : ℕ) (behind : List ℕ) → Has wanted location own
    → byte ≢ own → IsFirstOther wanted (block location count) (byte ∷ behind) location byte
first_here wanted location count own byte behind has other = record {
  before = [];
  behind = behind;
  parts = refl;
  place = refl;
  as_wanted = λ index same is. cc;
  other = (own, has, other);
}

-- it comes after one that has to be there
first_later : (wanted : List (ℕ × ℕ)) (at count fewer own : ℕ) (read : List ℕ) (location byte : ℕ) → Has wanted at own
    → IsFirstOther wanted (block (up at) fewer) read location byte
    → IsFirstOther wanted (block at count) (own ∷ read) location byte
first_later wanted at count fewer own read location byte has first = record {
  before = own ∷ first.before;
  behind = first.behind;
  parts = ap (λ (l : List ℕ). own ∷ l) first.parts;
  place = first.place ∙ moved_next at (length first.before);
  as_wanted = each;
  other = first.other;
}
  where
    each : (index same : ℕ) → slice_get (own ∷ first.before) index ≡ Some same → Has wanted (moved_on at index) same
    each zero same is = let it : own ≡ same = cc in subst (λ (byte : ℕ). Has wanted at byte) it has
    each (suc index) same is =
        subst (λ (there : ℕ). Has wanted there same) (moved_next at index) (first.as_wanted index same is)

tells_other : (bound : ℕ) (wanted : List (ℕ × ℕ)) (at count : ℕ) (row read : List ℕ) → RisesAbove bound wanted
    → AllInRow (Has wanted) at row → length read ≡ length row → bytes_eq read row ≡ false
    → Tells wanted (block at count) read
tells_other bound wanted at count [] [] rises all long differs = cc
tells_other bound wanted at count [] (byte ∷ read) rises all long differs = cc
tells_other bound wanted at count (own ∷ row) [] rises all long differs = cc
tells_other bound wanted at count (own ∷ []) (byte ∷ []) rises all long differs =
    let other : byte ≢ own = λ same. grind (arith, eqb-true, eqb-false) in
    (at, byte, refl, first_here wanted at count own byte [] all.0 other)
tells_other bound wanted at count (own ∷ []) (byte ∷ more ∷ read) rises all long differs = cc
tells_other bound wanted at count (own ∷ next ∷ row) (byte ∷ []) rises all long differs = cc
tells_other bound wanted at count (own ∷ next ∷ row) (byte ∷ more ∷ read) rises all long differs =
    by (own == byte) refl (wanted_is bound wanted at own byte rises all.0)
    (tells_other bound wanted (up at) 0 (next ∷ row) (more ∷ read) rises all.1 (omega (arith, long)))
  where
    by : (b : Bool) → (own == byte) ≡ b → is_wanted wanted at byte ≡ (own == byte)
        → (bytes_eq (more ∷ read) (next ∷ row) ≡ false → Tells wanted (block (up at) 0) (more ∷ read))
        → Tells wanted (block at count) (byte ∷ more ∷ read)
    by true same wants behind =
        let is : own ≡ byte = eqb-true own byte same in
        let later = behind (grind (arith, eqb-true, eqb-false)) in (
          later.0,
          later.1,
          rw (wants ∙ same) later.2,
          subst (λ (first : ℕ). IsFirstOther wanted (block at count) (first ∷ more ∷ read) later.0 later.1) is
              (first_later wanted at count 0 own (more ∷ read) later.0 later.1 all.0 later.3),
        )
    by false differs wants behind =
        let other : byte ≢ own = λ same. grind (arith, eqb-true, eqb-false) in
        (at, byte, rw (wants ∙ differs) refl, first_here wanted at count own byte (more ∷ read) all.0 other)

-- ---- plans

-- it holds of each read after which a plan goes on by a write
abbrev BeforeWrite : (Block → List ℕ → Type 0) → Access → (Option (List ℕ) → Plan) → Option (List ℕ) → Type 0
BeforeWrite P (ReadFrom block) after (Some bytes) = is_write (after (Some bytes)) ≡ true → P block bytes
BeforeWrite P access after outcome = ⊤

abbrev pub EachBeforeWrite : (Block → List ℕ → Type 0) → Plan → Type 0
EachBeforeWrite P (Finish verdict) = ⊤
EachBeforeWrite P (Make access after) =
    (outcome : Option (List ℕ)) → BeforeWrite P access after outcome × EachBeforeWrite P (after outcome)

-- the byte that is reported after such a read
abbrev pub TellsOther : List (ℕ × ℕ) → Block → List ℕ → Type 0
TellsOther updates block bytes =
    (block.count ≤ most_once) × (length bytes ≡ block.count → Tells (read_backs updates) block bytes)

next_each : (P : Block → List ℕ → Type 0) (plan : Plan) (outcome : Option (List ℕ)) → EachBeforeWrite P plan
    → EachBeforeWrite P (next_plan plan outcome)
next_each P (Finish verdict) outcome each = each
next_each P (Make access after) outcome each = (each outcome).1

pub after_each : (P : Block → List ℕ → Type 0) (plan : Plan) (outcomes : List (Option (List ℕ)))
    → EachBeforeWrite P plan → EachBeforeWrite P (plan_after plan outcomes)
after_each P plan [] each = each
after_each P plan (outcome ∷ outcomes) each =
    next_each P (plan_after plan outcomes) outcome (after_each P plan outcomes each)

-- a read of one location, with no write after it
read_each : (P : Block → List ℕ → Type 0) (location : ℕ) (count : ℕ) (failed : Plan) (found : List ℕ → Plan)
    → EachBeforeWrite P failed → ((bytes : List ℕ) → (is_write (found bytes) ≡ false) × EachBeforeWrite P (found bytes))
    → EachBeforeWrite P (Make (ReadFrom (block location count)) (either_way failed found))
read_each P location count failed found one two None = (tt, one)
read_each P location count failed found one two (Some bytes) =
    (λ writes. let reads = (two bytes).0 in cc, (two bytes).1)

write_each : (P : Block → List ℕ → Type 0) (pace : Pace) (before location byte : ℕ) (after : Plan)
    → EachBeforeWrite P give_up → EachBeforeWrite P after
    → EachBeforeWrite P (Make (write_next pace before location byte) (either_way give_up (λ bytes. after)))
write_each P Checked before location byte after one two None = (tt, one)
write_each P Checked before location byte after one two (Some bytes) = (tt, two)
write_each P Short before location byte after one two None = (tt, one)
write_each P Short before location byte after one two (Some bytes) = (tt, two)

close_each : (P : Block → List ℕ → Type 0) (answered unanswered : Verdict)
    → EachBeforeWrite P (close answered unanswered)
close_each P answered unanswered None =
    (tt, read_each P 2 1 (Finish unanswered) (λ bytes. Finish answered) tt (λ bytes. (refl, tt)))
close_each P answered unanswered (Some bytes) =
    (tt, read_each P 2 1 (Finish unanswered) (λ bytes. Finish answered) tt (λ bytes. (refl, tt)))

-- ---- an opened session

back_reads : (rows : List (ℕ × List ℕ)) → is_write (read_back rows) ≡ false
back_reads [] = refl
back_reads (row ∷ rows) = refl

expect_each : (updates : List (ℕ × ℕ)) (failed : Plan) (row : ℕ × List ℕ) (after : Plan) → RisesAbove 2 updates
    → AllInRow (Has (read_backs updates)) row.0 row.1 → (is_write failed ≡ true → length row.1 ≤ most_once)
    → is_write after ≡ false
    → EachBeforeWrite (TellsOther updates) failed → EachBeforeWrite (TellsOther updates) after
    → EachBeforeWrite (TellsOther updates) (expect failed row.0 row.1 after)
expect_each updates failed row after rises all few reads again rest None = (tt, again)
expect_each updates failed row after rises all few reads again rest (Some read) = by (bytes_eq read row.1) refl
  where
    by : (b : Bool) → bytes_eq read row.1 ≡ b
        → (is_write (if b then after else failed) ≡ true
        → TellsOther updates (block row.0 (length row.1)) read)
        × EachBeforeWrite (TellsOther updates) (if b then after else failed)
    by true same = (λ writes. cc, rest)
    by false differs = (
      λ writes. (
        few writes,
        λ long.
            tells_other 1 (read_backs updates) row.0 (length row.1) row.1 read (omega arith, rises) all long differs,
      ),
      again,
    )

all_reads : (rows : List (ℕ × List ℕ)) (after : Plan) → is_write after ≡ false
    → is_write (expect_all rows after) ≡ false
all_reads [] after reads = reads
all_reads (row ∷ rows) after reads = refl

all_each : (updates : List (ℕ × ℕ)) (rows : List (ℕ × List ℕ)) (after : Plan) → RisesAbove 2 updates → Small 2 rows
    → AllInRows (Has (read_backs updates)) rows → is_write after ≡ false → EachBeforeWrite (TellsOther updates) after
    → EachBeforeWrite (TellsOther updates) (expect_all rows after)
all_each updates [] after rises small all reads rest = rest
all_each updates (row ∷ rows) after rises small all reads rest =
    expect_each updates give_up row (expect_all rows after) rises all.0 (λ writes. omega (arith, small.0))
    (all_reads rows after reads) (close_each (TellsOther updates) Doubt DoubtOpen)
    (all_each updates rows after rises small.1 all.1 reads rest)

-- a row that is given up isn't one that is read again
few_given : (row : ℕ × List ℕ) (after : Plan) (again : Bool) → nat_lt most_once (length row.1) ≡ again
    → is_write after ≡ false
    → is_write (if again then expect_all (pieces_of row.0 row.1) after else give_up) ≡ true → length row.1 ≤ most_once
few_given row after true is reads writes = let no = all_reads (pieces_of row.0 row.1) after reads in cc
few_given row after false is reads writes = ltb-false most_once (length row.1) is

back_each : (updates : List (ℕ × ℕ)) (rows : List (ℕ × List ℕ)) → RisesAbove 2 updates
    → AllInRows (Has (read_backs updates)) rows → EachBeforeWrite (TellsOther updates) (read_back rows)
back_each updates [] rises all = tt
back_each updates (row ∷ rows) rises all =
    let rest = back_each updates rows rises all.1 in
    expect_each updates (read_again row.0 row.1 (read_back rows)) row (read_back rows) rises all.0
    (few_given row (read_back rows) (nat_lt most_once (length row.1)) refl (back_reads rows)) (back_reads rows)
    (if_all (EachBeforeWrite (TellsOther updates)) (nat_lt most_once (length row.1))
    (expect_all (pieces_of row.0 row.1) (read_back rows)) give_up
    (all_each updates (pieces_of row.0 row.1) (read_back rows) rises (pieces_small row.0 row.1)
    (row_pieces (Has (read_backs updates)) row.0 row.1 all.0) (back_reads rows) rest)
    (close_each (TellsOther updates) Doubt DoubtOpen)) rest

on_each : (pace : Pace) (updates : List (ℕ × ℕ)) (before : ℕ) (left : List (ℕ × ℕ)) → RisesAbove 2 updates
    → EachBeforeWrite (TellsOther updates) (write_on pace updates before left)
on_each pace updates before [] rises =
    write_each (TellsOther updates) pace before 2 0xFF (read_all_back pace updates)
    (close_each (TellsOther updates) Doubt DoubtOpen)
    (back_each updates (rows_of (most_of pace) (read_backs updates)) rises
    (rows_hold (Has (read_backs updates)) (most_of pace) (read_backs updates) (λ location byte has. has)))
on_each pace updates before (update ∷ left) rises =
    write_each (TellsOther updates) pace before update.0 update.1 (write_on pace updates update.0 left)
    (close_each (TellsOther updates) Doubt DoubtOpen) (on_each pace updates update.0 left rises)

-- ---- the others go on by no write

abbrev OnlyReads : (Block → List ℕ → Type 0) → Plan → Type 0
OnlyReads P plan = (is_write plan ≡ false) × EachBeforeWrite P plan

low_each : (P : Block → List ℕ → Type 0) (high : ℕ) → EachBeforeWrite P (read_format_low high)
low_each P high =
    read_each P 0x12 1 (Finish Silent) (λ read. judge_format high (get_or read 0 0)) tt (λ bytes. (refl, tt))

format_reads : (P : Block → List ℕ → Type 0) (pace : Pace) → OnlyReads P (read_format pace)
format_reads P Checked = (
  refl,
  read_each P 0x11 1 (Finish Silent) (λ read. read_format_low (get_or read 0 0)) tt
      (λ bytes. (refl, low_each P (get_or bytes 0 0))),
)
format_reads P Short = (
  refl,
  read_each P 0x11 2 (Finish Silent) (λ read. judge_format (get_or read 0 0) (get_or read 1 0)) tt
      (λ bytes. (refl, tt)),
)

length_each : (P : Block → List ℕ → Type 0) (pace : Pace) (updates : List (ℕ × ℕ))
    → EachBeforeWrite P (read_length pace updates)
length_each P pace updates =
    read_each P 0 1 (Finish Silent) (λ read. judge_length pace updates (get_or read 0 0)) tt
    (λ bytes. if_all (OnlyReads P) (nat_lt (get_or bytes 0 0) (greatest updates)) (Finish ShortBank) _ (refl, tt)
    (if_all (OnlyReads P) (nat_lt (greatest updates) 0x13) (Finish MayOpen) (read_format pace) (refl, tt)
    (format_reads P pace)))

on_reads : (P : Block → List ℕ → Type 0) (location left : ℕ) → OnlyReads P (read_on location left)
on_reads P location zero = (refl, tt)
on_reads P location (suc left) = (
  refl,
  read_each P location 1 (Finish Silent) (λ bytes. read_on (suc location) left) tt
      (λ bytes. on_reads P (suc location) left),
)

pub task_each : (task : Task) → RisesAbove 2 (updates_for task)
    → EachBeforeWrite (TellsOther (updates_for task)) (plan_of task)
task_each (Fresh order pace) rises = length_each (TellsOther order.updates) pace order.updates
task_each (Opened order pace) rises =
    write_each (TellsOther order.updates) Checked 2 2 0x55 (write_on pace order.updates 2 order.updates)
    (close_each (TellsOther order.updates) Doubt DoubtOpen) (on_each pace order.updates 2 order.updates rises)
task_each Closing rises = close_each (TellsOther []) Closed NotClosed
task_each Reading rises =
    read_each (TellsOther []) 0 1 (Finish Silent) (λ read. read_on 1 (min (get_or read 0 0) 0xFE)) tt
    (λ bytes. on_reads (TellsOther []) 1 (min (get_or bytes 0 0) 0xFE))
task_each (ReadingBlock some) rises =
    read_each (TellsOther []) some.location some.count (Finish Silent) (λ bytes. Finish Read) tt (λ bytes. (refl, tt))
