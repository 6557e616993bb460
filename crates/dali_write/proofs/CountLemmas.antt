-- How many frames a session sends at most.
use Rattle.std.proofs.Common.{◌≡◌, ◌⊎◌, inl, inr, refl, ap, ℕ, zero, suc, ◌+◌, ◌-◌, ◌*◌, ◌<◌, ◌≤◌}
use Rattle.std.proofs.Common.{List, [], ◌∷◌, length, length-append, Option, arith}
use Rattle.std.proofs.lemmas.Nat.{mul-le}
use Rattle.dali_write.specs.Exchanges.{Exchange}
use Rattle.dali_write.specs.declared.request.Request.{Request}
use Rattle.dali_write.specs.declared.access.Access.{Access}
use Rattle.dali_write.specs.declared.access.Access.TheVariants.{ReadFrom, WriteTo, WriteOn}
use Rattle.dali_write.specs.declared.ask.Verdict.{Verdict}
use Rattle.dali_write.specs.declared.stage.Task.{Task}
use Rattle.dali_write.specs.declared.stage.Task.TheVariants.{Fresh, Opened, Closing, Reading, ReadingBlock}
use Rattle.dali_write.specs.declared.session.Session.{Session}
use Rattle.dali_write.specs.declared.block.Block.{Block}
use Rattle.dali_write.specs.Requests.{block_requests, put_requests, write_requests, access_requests}
use Rattle.dali_write.specs.Frames.{read_frames, write_frames}
use Rattle.dali_write.specs.Plans.{Plan, Finish, Make, next_plan, plan_after, read_format}
use Rattle.dali_write.specs.Plans.{read_length, close, give_up, expect, read_back, write_on, unlock, read_on}
use Rattle.dali_write.specs.Plans.{read_backs, read_all_back, rows_of, most_of, write_next}
use Rattle.dali_bus.specs.Hears.{up}
use Rattle.std.proofs.lemmas.Bool.{ltb-true}
use Rattle.dali_write.specs.Plans.{most_once, pieces_of, expect_all, read_again}
use Rattle.dali_write.proofs.RowLemmas.{Full, bytes_count, rows_full, rows_count, pieces_few, pieces_bytes}
use Rattle.std.specs.Str.{bytes_eq}
use Rattle.dali_write.specs.Requests.{block}
use Rattle.std.proofs.Common.{Bool, true, false, ◌==◌}
use Rattle.std.specs.Prelude.{nat_lt, if◌then◌else◌}
use Rattle.dali_write.specs.Plans.{read_block}
use Rattle.dali_write.specs.Tries.{most_tries, Trying, Missed, Misses, Succeeds, Fails, AccessEnds, AccessesEnd}
use Rattle.dali_write.specs.Tries.{plan_requests}
use Rattle.dali_write.specs.Tries.{Stands}
use Rattle.dali_write.specs.Counts.{access_limit, TakesAtMost, frame_limit}
use Rattle.dali_write.specs.Stages.{plan_of}
use Rattle.dali_write.specs.Told.{Told}
use Rattle.dali_write.proofs.ShapeLemmas.{trying_length}
use Rattle.dali_write.proofs.BlockShapeLemmas.{block_frames_are}
use Rattle.dali_write.proofs.PlanLemmas.{either_all, if_all}
use Rattle.dali_write.specs.Requests.{each_try}
use Rattle.dali_write.specs.declared.pace.Pace.{Pace}
use Rattle.dali_write.specs.declared.pace.Pace.TheVariants.{Checked, Short}

pub missed_length : (requests : List Request) (tried : List Exchange) → Missed requests tried
    → length tried ≤ length requests
missed_length requests [] missed = absurd missed
missed_length requests (x ∷ tried) missed = grind (arith, trying_length)

suc_times : (n k : ℕ) → (suc n) * k ≡ k + n * k
suc_times n k = omega arith

-- if a try after misses is the longest
pub misses_length : (requests : ℕ → List Request) (misses : ℕ) (told : List Exchange)
    → ((n : ℕ) → length (requests n) ≤ length (requests 1)) → Misses requests misses told
    → length told ≤ misses * length (requests 1)
misses_length requests zero told most is = let none = ap (λ (t : List Exchange). length t) is in omega arith
misses_length requests (suc misses) told most is =
    grind (
      arith,
      missed_length (requests misses) is.0 is.3,
      most misses,
      misses_length requests misses is.1 most is.4,
      length-append is.0 is.1,
      suc_times misses (length (requests 1)),
    )

-- an access takes no more than its most tries of its requests
pub times_most : (misses requests few more : ℕ) → misses < most_tries → more ≤ misses * requests → few ≤ requests
    → few + more ≤ most_tries * requests
times_most misses requests few more below older newer = grind (arith, mul-le)

limit_requests : (unit : ℕ) (access : Access)
    → access_limit access ≡ most_tries * length (access_requests unit access 1)
limit_requests unit (ReadFrom block) = omega (arith, block_frames_are 0 block, block_frames_are unit block)
limit_requests unit (WriteTo location byte) = refl
limit_requests unit (WriteOn before location byte) = refl

put_few : (moved : Bool) (unit location byte : ℕ)
    → length (put_requests moved unit location byte) ≤ length (write_requests unit location byte)
put_few true unit location byte = omega arith
put_few false unit location byte = omega arith

-- no try has more frames than one after a miss
pub longest : (unit : ℕ) (access : Access) (misses : ℕ)
    → length (access_requests unit access misses) ≤ length (access_requests unit access 1)
longest unit (ReadFrom block) misses = omega arith
longest unit (WriteTo location byte) misses = omega arith
longest unit (WriteOn before location byte) zero = put_few (up before == location) unit location byte
longest unit (WriteOn before location byte) (suc misses) = omega arith

access_length : (unit : ℕ) (access : Access) (outcome : Option (List ℕ)) (told : List Exchange)
    → Succeeds (access_requests unit access) outcome told ⊎ Fails (access_requests unit access) outcome told
    → length told ≤ access_limit access
access_length unit access outcome told (inl done) =
    let requests = length (access_requests unit access 1) in
    let newer : length done.0 ≤ requests =
    let all = trying_length (access_requests unit access done.2) done.0 [] done.4 in
    omega (arith, longest unit access done.2) in
    let older = misses_length (access_requests unit access) done.2 done.1 (longest unit access) done.7 in
    let both = ap (λ (t : List Exchange). length t) done.3 in
    let joined = length-append done.0 done.1 in
    let limit = limit_requests unit access in
    let most = times_most done.2 requests (length done.0) (length done.1) done.6 older newer in
    omega arith
access_length unit access outcome told (inr failed) =
    grind (
      arith,
      misses_length (access_requests unit access) most_tries told (longest unit access) failed.1,
      limit_requests unit access,
    )

-- a read of a block takes no more
pub block_length : (unit : ℕ) (block : Block) (outcome : Option (List ℕ)) (told : List Exchange)
    → Succeeds (each_try (block_requests unit block)) outcome told
    ⊎ Fails (each_try (block_requests unit block)) outcome told
    → length told ≤ most_tries * (block.count + 6)
block_length unit block outcome told ends =
    omega (arith, block_frames_are 0 block, access_length unit (ReadFrom block) outcome told ends)

one_takes : (unit : ℕ) (plan : Plan) (outcome : Option (List ℕ)) (newer : List Exchange) (limit : ℕ)
    → AccessEnds unit plan outcome newer → TakesAtMost limit plan
    → (rest : ℕ) × TakesAtMost rest (next_plan plan outcome) × (length newer + rest ≤ limit)
one_takes unit (Finish verdict) outcome newer limit ends takes = absurd ends
one_takes unit (Make access after) outcome newer limit ends takes =
    let few = access_length unit access outcome newer ends in
    let le = takes.0 in
    (limit - access_limit access, takes.1 outcome, omega arith)

accesses_take : (unit : ℕ) (plan : Plan) (outcomes : List (Option (List ℕ))) (told : List Exchange) (limit : ℕ)
    → AccessesEnd unit plan outcomes told → TakesAtMost limit plan
    → (rest : ℕ) × TakesAtMost rest (plan_after plan outcomes) × (length told + rest ≤ limit)
accesses_take unit plan [] told limit ends takes = grind arith
accesses_take unit plan (outcome ∷ outcomes) told limit ends takes =
    grind (arith, accesses_take unit plan outcomes ends.1 limit ends.4 takes, one_takes, length-append ends.0 ends.1)

at_hand_takes : (unit : ℕ) (now : Plan) (misses : ℕ) (missed tried : List Exchange) (left : List Request) (rest : ℕ)
    → misses < most_tries
    → Misses (plan_requests unit now) misses missed → Trying (plan_requests unit now misses) tried left
    → TakesAtMost rest now
    → length tried + length missed ≤ rest
at_hand_takes unit (Finish verdict) misses missed tried left rest few are try takes =
    grind (arith, trying_length [] tried left try, misses_length (each_try []) misses missed (λ n. omega arith) are)
at_hand_takes unit (Make access after) misses missed tried left rest few are try takes =
    let requests = length (access_requests unit access 1) in
    let newer : length tried ≤ requests =
    let all = trying_length (access_requests unit access misses) tried left try in
    omega (arith, longest unit access misses) in
    let older = misses_length (access_requests unit access) misses missed (longest unit access) are in
    let limit = limit_requests unit access in
    let most = times_most misses requests (length tried) (length missed) few older newer in
    let le = takes.0 in
    omega arith

pub stands_takes : (unit : ℕ) (plan : Plan) (outcomes : List (Option (List ℕ))) (told : List Exchange) (now : Plan)
    (misses : ℕ) (left : List Request)
    (bytes : List ℕ) (limit : ℕ)
    → Stands unit plan outcomes told now misses left bytes → TakesAtMost limit plan → length told ≤ limit
stands_takes unit plan outcomes told now misses left bytes limit s takes =
    grind (arith, accesses_take, at_hand_takes, length-append)

-- the most frames of a checked read, of a checked write, and of a write and a read that lock the unit
abbrev most_read : ℕ
most_read = most_tries * read_frames

abbrev most_write : ℕ
most_write = most_tries * write_frames

abbrev most_close : ℕ
most_close = most_write + most_read

next_limit : (pace : Pace) (before location byte : ℕ) → access_limit (write_next pace before location byte) ≡ most_write
next_limit Checked before location byte = refl
next_limit Short before location byte = refl

pub close_takes : (limit : ℕ) (answered unanswered : Verdict) → most_close ≤ limit
    → TakesAtMost limit (close answered unanswered)
close_takes limit answered unanswered le = grind (arith, either_all)

-- the most frames of a row, which are no more than those of the reads one by one
abbrev most_row : List ℕ → ℕ
most_row bytes = most_tries * (length bytes + 6)

expect_takes : (limit location : ℕ) (bytes : List ℕ) (failed after : Plan) → most_row bytes + most_close ≤ limit
    → TakesAtMost (limit - most_row bytes) failed → TakesAtMost (limit - most_row bytes) after
    → TakesAtMost limit (expect failed location bytes after)
expect_takes limit location bytes failed after le again takes =
    let frames = block_frames_are 0 (block location (length bytes)) in
    let same : access_limit (ReadFrom (block location (length bytes))) ≡ most_row bytes = omega arith in (
      omega arith,
      rw same
          (either_all (TakesAtMost (limit - most_row bytes)) failed _ again
          (λ read. if_all (TakesAtMost (limit - most_row bytes)) (bytes_eq read bytes) after failed takes again)),
    )

-- all tries of reading these rows
abbrev most_rows : List (ℕ × List ℕ) → ℕ
most_rows [] = 0
most_rows (row ∷ rows) = most_row row.1 + most_rows rows

most_rows_are : (rows : List (ℕ × List ℕ)) → most_rows rows ≡ 8 * bytes_count rows + 48 * length rows
most_rows_are [] = refl
most_rows_are (row ∷ rows) = omega (arith, most_rows_are rows)

-- each limit from this number on
abbrev TakesFrom : ℕ → Plan → Type 0
TakesFrom need plan = (limit : ℕ) → need ≤ limit → TakesAtMost limit plan

expect_all_takes : (need : ℕ) (rows : List (ℕ × List ℕ)) (after : Plan) → most_close ≤ need → TakesFrom need after
    → TakesFrom (most_rows rows + need) (expect_all rows after)
expect_all_takes need [] after closes takes limit le = takes limit (omega arith)
expect_all_takes need (row ∷ rows) after closes takes limit le =
    expect_takes limit row.0 row.1 give_up (expect_all rows after) (omega arith)
    (close_takes (limit - most_row row.1) _ _ (omega arith))
    (expect_all_takes need rows after closes takes (limit - most_row row.1) (omega arith))

-- all tries of reading a row again
abbrev most_pieces : Bool → List (ℕ × List ℕ) → ℕ
most_pieces again pieces = if again then most_rows pieces else 0

again_takes : (need : ℕ) (again : Bool) (pieces : List (ℕ × List ℕ)) (after : Plan) → most_close ≤ need
    → TakesFrom need after
    → TakesFrom (most_pieces again pieces + need) (if again then expect_all pieces after else give_up)
again_takes need true pieces after closes takes limit le = expect_all_takes need pieces after closes takes limit le
again_takes need false pieces after closes takes limit le = close_takes limit _ _ (omega arith)

-- all tries of reading these rows, each of them again if it fails
abbrev most_back : List (ℕ × List ℕ) → ℕ
most_back [] = 0
most_back (row ∷ rows) =
    most_row row.1 + most_pieces (nat_lt most_once (length row.1)) (pieces_of row.0 row.1) + most_back rows

read_back_takes : (rows : List (ℕ × List ℕ)) → TakesFrom (most_back rows + most_close) (read_back rows)
read_back_takes [] limit le = tt
read_back_takes (row ∷ rows) limit le =
    let again = most_pieces (nat_lt most_once (length row.1)) (pieces_of row.0 row.1) in
    expect_takes limit row.0 row.1 (read_again row.0 row.1 (read_back rows)) (read_back rows) (omega arith)
    (again_takes (most_back rows + most_close) (nat_lt most_once (length row.1)) (pieces_of row.0 row.1)
    (read_back rows) (omega arith) (read_back_takes rows) (limit - most_row row.1) (omega arith))
    (read_back_takes rows (limit - most_row row.1) (omega arith))

-- a row takes no more than the reads one by one, also if it is read again
row_few : (location : ℕ) (bytes : List ℕ) (again : Bool) → 1 ≤ length bytes → nat_lt most_once (length bytes) ≡ again
    → most_row bytes + most_pieces again (pieces_of location bytes) ≤ length bytes * most_read
row_few location bytes true some is =
    let below = ltb-true most_once (length bytes) is in
    omega (
      arith,
      most_rows_are (pieces_of location bytes),
      pieces_bytes location bytes,
      pieces_few location bytes,
    )
row_few location bytes false some is = omega arith

back_few : (rows : List (ℕ × List ℕ)) → Full rows → most_back rows ≤ bytes_count rows * most_read
back_few [] full = omega arith
back_few (row ∷ rows) full =
    omega (
      arith,
      row_few row.0 row.1 (nat_lt most_once (length row.1)) full.0 refl,
      back_few rows full.1,
    )

rows_few : (most : ℕ) (updates : List (ℕ × ℕ)) → most_back (rows_of most updates) ≤ length updates * most_read
rows_few most updates =
    omega (arith, back_few (rows_of most updates) (rows_full most updates), rows_count most updates)

write_on_takes : (limit : ℕ) (pace : Pace) (updates : List (ℕ × ℕ)) (before : ℕ) (left : List (ℕ × ℕ))
    → (length left + 1) * most_write + (length updates + 1) * most_read + most_close ≤ limit
    → TakesAtMost limit (write_on pace updates before left)
write_on_takes limit pace updates before [] le =
    rw (next_limit pace before 2 0xFF) (
      omega arith,
      either_all (TakesAtMost (limit - most_write)) give_up (λ bytes. read_all_back pace updates)
          (close_takes (limit - most_write) _ _ (omega arith))
          (λ bytes. read_back_takes (rows_of (most_of pace) (read_backs updates)) (limit - most_write)
          (omega (arith, rows_few (most_of pace) (read_backs updates)))),
    )
write_on_takes limit pace updates before (update ∷ left) le =
    rw (next_limit pace before update.0 update.1) (
      omega arith,
      either_all (TakesAtMost (limit - most_write)) give_up (λ bytes. write_on pace updates update.0 left)
          (close_takes (limit - most_write) _ _ (omega arith))
          (λ bytes. write_on_takes (limit - most_write) pace updates update.0 left (omega arith)),
    )

pub unlock_takes : (limit : ℕ) (pace : Pace) (updates : List (ℕ × ℕ))
    → (length updates + 2) * most_write + (length updates + 1) * most_read + most_close ≤ limit
    → TakesAtMost limit (unlock pace updates)
unlock_takes limit pace updates le = grind (arith, either_all, close_takes, write_on_takes)

read_format_takes : (pace : Pace) → TakesAtMost (2 * most_read) (read_format pace)
read_format_takes Checked = grind (arith, either_all)
read_format_takes Short = grind (arith, either_all)

pub read_length_takes : (pace : Pace) (updates : List (ℕ × ℕ)) → TakesAtMost (3 * most_read) (read_length pace updates)
read_length_takes pace updates = grind (arith, either_all, if_all, read_format_takes)

read_on_takes : (limit location left : ℕ) → left * most_read ≤ limit → TakesAtMost limit (read_on location left)
read_on_takes limit location zero le = tt
read_on_takes limit location (suc left) le = (
  omega arith,
  either_all (TakesAtMost (limit - most_read)) _ _ tt
      (λ bytes. read_on_takes (limit - most_read) (suc location) left (omega arith)),
)

pub block_takes : (block : Block) → TakesAtMost (access_limit (ReadFrom block)) (read_block block)
block_takes block = (omega arith, either_all (TakesAtMost _) _ _ tt (λ bytes. tt))

plan_takes : (task : Task) → TakesAtMost (frame_limit task) (plan_of task)
plan_takes (Fresh order pace) = read_length_takes pace order.updates
plan_takes (Opened order pace) = unlock_takes (frame_limit (Opened order pace)) pace order.updates (omega arith)
plan_takes Closing = close_takes most_close _ _ (omega arith)
plan_takes Reading = grind (arith, either_all, read_on_takes)
plan_takes (ReadingBlock block) = block_takes block

pub told_length : (told : List Exchange) (s : Session) → Told told s → length told ≤ frame_limit s.task
unfolding Told
told_length told s was = stands_takes _ (plan_of s.task) _ told _ _ _ _ (frame_limit s.task) was.stands
    (plan_takes s.task)
