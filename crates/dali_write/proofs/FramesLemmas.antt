-- The frames that are still to come fall with each frame.
use Rattle.std.proofs.Common.{◌≡◌, ℕ, zero, suc, ◌+◌, ◌-◌, ◌*◌, ◌<◌, ◌≤◌, List, [], ◌∷◌, length, drop}
use Rattle.std.proofs.Common.{IsSome, true, arith}
use Rattle.std.proofs.lemmas.Nat.{mul-le}
use Rattle.std.proofs.lemmas.Bool.{leb-true}
use Rattle.std.proofs.lemmas.Option.{slice_get_within}
use Rattle.dali_write.specs.declared.stage.Task.{Task}
use Rattle.dali_write.specs.declared.stage.Task.TheVariants.{ReadingBlock}
use Rattle.dali_write.specs.declared.session.Session.{Session}
use Rattle.dali_write.specs.declared.stage.Stage.{Stage}
use Rattle.dali_write.specs.declared.stage.Stage.TheVariants.{ReadLength, ReadFormat, ReadFormatLow, Unlock, WriteOn}
use Rattle.dali_write.specs.declared.stage.Stage.TheVariants.{ReadBack, ReadPiece, Close, ReadClosed, ReadAll, ReadOn}
use Rattle.dali_write.specs.declared.stage.Stage.TheVariants.{ReadBlock, Over}
use Rattle.dali_write.specs.declared.pace.Pace.{Pace}
use Rattle.dali_write.specs.declared.pace.Pace.TheVariants.{Checked, Short}
use Rattle.dali_write.specs.Requests.{block}
use Rattle.dali_write.specs.Plans.{Plan, Finish, Make, write_on, rows_of, most_of, read_backs, read_back, read_format, read_on}
use Rattle.dali_write.specs.Plans.{unlock}
use Rattle.dali_write.proofs.RowLemmas.{bytes_in, split_rows}
use Rattle.dali_write.proofs.CountLemmas.{longest}
use Rattle.std.proofs.Common.{take, length-drop}
use Rattle.dali_write.specs.Tries.{plan_requests}
use Rattle.dali_write.specs.Stages.{updates_for, pace_for, plan_at, of_block}
use Rattle.dali_write.proofs.RequestLemmas.{write_on_next, write_on_over, write_on_failed, failed_few}
use Rattle.dali_write.proofs.RequestLemmas.{failed_again, read_back_over, piece_over, piece_next, piece_last}
use Rattle.dali_write.proofs.RequestLemmas.{piece_failed, again_is, behind_others}
use Rattle.dali_write.proofs.RowLemmas.{row_updates, taken_count, rows_frames_are, pieces_bytes, pieces_few}
use Rattle.dali_write.specs.Plans.{updates_in, pieces_of}
use Rattle.dali_write.specs.Counts.{rows_frames}
use Rattle.dali_write.specs.Stages.{go_again, back_from, rows_at, pieces_at}
use Rattle.dali_write.specs.Plans.{expect_all, next_plan}
use Rattle.std.proofs.Common.{◌∙◌, sym, Some, None, length-take}
use Rattle.std.proofs.lemmas.List.{drop_all}
use Rattle.std.proofs.Common.{◌∷◌, ap, subst, refl}
use Rattle.dali_write.proofs.RequestLemmas.{read_on_next, read_on_over, read_on_silent}
use Rattle.dali_write.proofs.BlockShapeLemmas.{block_frames_are}
use Rattle.dali_write.specs.FramesLeft.{limit_at, read_limit, write_limit, close_limit, read_back_limit, write_on_limit}
use Rattle.dali_write.specs.Found.{is_small}
use Rattle.dali_write.specs.Told.{request_at_hand}

pub write_on_requests : (unit : ℕ) (pace : Pace) (updates : List (ℕ × ℕ)) (before : ℕ) (left : List (ℕ × ℕ))
    → length (plan_requests unit (write_on pace updates before left) 1) ≤ 7
write_on_requests unit Checked updates before [] = omega arith
write_on_requests unit Checked updates before (update ∷ left) = omega arith
write_on_requests unit Short updates before [] = omega arith
write_on_requests unit Short updates before (update ∷ left) = omega arith

-- the first row has no more locations than there are updates, and no more than a row may have
pub read_back_requests : (unit most : ℕ) (updates : List (ℕ × ℕ)) → 1 ≤ most
    → (length (plan_requests unit (read_back (rows_of most updates)) 1) ≤ length updates + 6)
    × (length (plan_requests unit (read_back (rows_of most updates)) 1) ≤ most + 6)
read_back_requests unit most [] some = (omega arith, omega arith)
read_back_requests unit most (update ∷ updates) some =
    let split = split_rows most update updates in
    let frames = block_frames_are unit (block update.0 (suc (length (bytes_in (take split.others updates))))) in
    rw split.rows_are (
      omega (arith, split.count, split.within),
      omega (arith, split.count, split.few some),
    )

pub some_most : (pace : Pace) → (1 ≤ most_of pace) × (most_of pace ≤ 16)
some_most Checked = (omega arith, omega arith)
some_most Short = (omega arith, omega arith)

pub read_on_requests : (unit location left : ℕ)
    → 8 * length (plan_requests unit (read_on location left) 1) ≤ read_limit * left
read_on_requests unit location zero = omega arith
read_on_requests unit location (suc left) = omega arith

pub of_block_fits : (unit : ℕ) (task : Task)
    → 8 * length (plan_requests unit (of_block task) 1) ≤ 8 * length (plan_requests 0 (of_block task) 1)
of_block_fits unit (ReadingBlock block) = omega (arith, block_frames_are 0 block, block_frames_are unit block)
of_block_fits unit _ = omega arith

-- after an access that failed there is room to close the unit
pub unlock_room : (unit : ℕ) (pace : Pace) (updates : List (ℕ × ℕ))
    → close_limit + 8 * length (plan_requests unit (unlock pace updates) 1)
    ≤ write_limit + write_on_limit (length updates) 0
unlock_room unit pace updates = omega arith

pub write_on_room : (unit : ℕ) (pace : Pace) (updates : List (ℕ × ℕ)) (before : ℕ) (left : List (ℕ × ℕ)) (index : ℕ)
    → close_limit + 8 * length (plan_requests unit (write_on pace updates before left) 1)
    ≤ write_on_limit (length updates) index
write_on_room unit pace updates before left index = omega (arith, write_on_requests unit pace updates before left)

pub read_back_room : (unit : ℕ) (pace : Pace) (updates : List (ℕ × ℕ)) (index : ℕ)
    → close_limit + 8 * length (plan_requests unit
    (read_back (rows_of (most_of pace) (drop index (read_backs updates)))) 1)
    ≤ read_back_limit (suc (length updates)) index
read_back_room unit pace updates index = by (drop index (read_backs updates)) refl where
  by : (left : List (ℕ × ℕ)) → drop index (read_backs updates) ≡ left
      → close_limit + 8 * length (plan_requests unit (read_back (rows_of (most_of pace) left)) 1)
      ≤ read_back_limit (suc (length updates)) index
  by [] is = omega arith
  by (own ∷ behind) is =
      let all = ap (λ (l : List (ℕ × ℕ)). length l) is in
      omega (
        arith,
        read_back_requests unit (most_of pace) (own ∷ behind) (some_most pace).0,
        length-drop index (read_backs updates),
      )

-- the first piece has no more than all of them
pub piece_requests : (unit : ℕ) (updates : List (ℕ × ℕ)) (after : Plan)
    → (length (plan_requests unit (go_again (rows_of 2 updates) after) 1) ≤ rows_frames (rows_of 2 updates))
    × (length (plan_requests unit (go_again (rows_of 2 updates) after) 1) ≤ 8)
piece_requests unit [] after = (omega arith, omega arith)
piece_requests unit (own ∷ behind) after =
    let split = split_rows 2 own behind in
    let count = suc (length (bytes_in (take split.others behind))) in
    let frames = block_frames_are unit (block own.0 count) in
    let same = block_frames_are 0 (block 0 count) in
    rw split.rows_are (
      omega arith,
      omega (arith, split.count, split.few (omega arith)),
    )

pub piece_room : (unit : ℕ) (updates : List (ℕ × ℕ)) (after : Plan) (count index : ℕ)
    → close_limit + 8 * length (plan_requests unit (go_again (rows_of 2 updates) after) 1)
    ≤ 8 * rows_frames (rows_of 2 updates) + read_back_limit count index
piece_room unit updates after count index = omega (arith, piece_requests unit updates after)

-- a row that failed has room to be read again
pub again_room : (unit most index others : ℕ) (updates behind : List (ℕ × ℕ)) (own : ℕ × ℕ)
    → drop index (read_backs updates) ≡ own ∷ behind → 3 ≤ others → others ≤ length behind
    → rows_of most (own ∷ behind)
    ≡ (own.0, own.1 ∷ bytes_in (take others behind)) ∷ rows_of most (drop others behind)
    → 8 * rows_frames (rows_of 2 (take (1 + others) (drop index (read_backs updates))))
    + read_back_limit (suc (length updates)) (index + (1 + others))
    + 8 * length (plan_requests unit (read_back (rows_of most (drop index (read_backs updates)))) 1)
    ≤ read_back_limit (suc (length updates)) index
again_room unit most index others updates behind own is some le are =
    let row = own.1 ∷ bytes_in (take others behind) in
    let long = taken_count others behind le in
    let all = ap (λ (l : List (ℕ × ℕ)). length l) is in
    let mine : own ∷ take others behind ≡ updates_in own.0 row =
    subst (λ (n : ℕ). take n (own ∷ behind) ≡ updates_in own.0 row) (ap suc long)
    (row_updates most own behind (drop others behind) row are) in
    let pieces : rows_of 2 (take (1 + others) (drop index (read_backs updates))) ≡ pieces_of own.0 row =
    let one_more : 1 + others ≡ suc others = omega arith in
    rw (is, one_more) (ap (λ (l : List (ℕ × ℕ)). rows_of 2 l) mine) in
    rw (pieces, is, are)
    (omega (
      arith,
      long,
      rows_frames_are (pieces_of own.0 row),
      pieces_bytes own.0 row,
      pieces_few own.0 row,
      block_frames_are unit (block own.0 (length row)),
      length-drop index (read_backs updates),
    ))

-- a piece was read: more of the row are left
pub told_more : (task : Task) (index left others : ℕ) (updates within : List (ℕ × ℕ)) (own : ℕ × ℕ) (read : List ℕ)
    → updates ≡ updates_for task → take left (drop index (read_backs updates)) ≡ own ∷ within → others < length within
    → ((after : Plan) → expect_all (rows_of 2 (drop others within)) after
    ≡ next_plan (go_again (rows_of 2 (own ∷ within)) after) (Some read))
    → go_again (pieces_at task (index + 1 + others) (left - 1 - others))
    (read_back (rows_at task (index + 1 + others + (left - 1 - others))))
    ≡ next_plan (plan_at task (ReadPiece index left)) (Some read)
told_more task index left others updates within own read same is below told =
    let all : take left (back_from task index) ≡ own ∷ within =
    subst (λ (l : List (ℕ × ℕ)). take left (drop index (read_backs l)) ≡ own ∷ within) same is in
    let next = piece_next (read_backs (updates_for task)) within own index left others all below in
    let count = ap (λ (l : List (ℕ × ℕ)). length l) all in
    let sum : index + 1 + others + (left - 1 - others) ≡ index + left =
    omega (arith, length-take left (back_from task index)) in
    let after = read_back (rows_at task (index + left)) in
    ap (λ (l : List (ℕ × ℕ)). go_again (rows_of 2 l)
    (read_back (rows_at task (index + 1 + others + (left - 1 - others)))))
    next
    ∙ ap (λ (at : ℕ). go_again (rows_of 2 (drop others within)) (read_back (rows_at task at))) sum
    ∙ by (drop others within) (omega (arith, length-drop others within)) after
    ∙ told after
    ∙ ap (λ (l : List (ℕ × ℕ)). next_plan (go_again (rows_of 2 l) after) (Some read)) (sym all)
  where
    by : (some : List (ℕ × ℕ)) → 1 ≤ length some → (after : Plan)
        → go_again (rows_of 2 some) after ≡ expect_all (rows_of 2 some) after
    by [] none after = absurd (omega arith)
    by (first ∷ more) some after = again_is 2 first more after

-- none is left of it
pub told_last : (task : Task) (index left others : ℕ) (updates within : List (ℕ × ℕ)) (own : ℕ × ℕ) (read : List ℕ)
    → updates ≡ updates_for task → take left (drop index (read_backs updates)) ≡ own ∷ within
    → length within ≤ others → others ≤ length within
    → ((after : Plan) → expect_all (rows_of 2 (drop others within)) after
    ≡ next_plan (go_again (rows_of 2 (own ∷ within)) after) (Some read))
    → read_back (rows_at task (index + 1 + others)) ≡ next_plan (plan_at task (ReadPiece index left)) (Some read)
told_last task index left others updates within own read same is over le told =
    let all : take left (back_from task index) ≡ own ∷ within =
    subst (λ (l : List (ℕ × ℕ)). take left (drop index (read_backs l)) ≡ own ∷ within) same is in
    let after = read_back (rows_at task (index + left)) in
    ap (λ (l : List (ℕ × ℕ)). read_back (rows_of (most_of (pace_for task)) l))
    (piece_last 2 (read_backs (updates_for task)) within own index left others all over le)
    ∙ ap (λ (l : List (ℕ × ℕ)). expect_all (rows_of 2 l) after) (sym (drop_all others within over))
    ∙ told after
    ∙ ap (λ (l : List (ℕ × ℕ)). next_plan (go_again (rows_of 2 l) after) (Some read)) (sym all)

pub told_last_room : (task : Task) (index left others unit : ℕ) (updates within : List (ℕ × ℕ)) (own : ℕ × ℕ)
    → updates ≡ updates_for task → take left (drop index (read_backs updates)) ≡ own ∷ within
    → length within ≤ others → others ≤ length within
    → read_back_limit (suc (length (updates_for task))) (index + 1 + others)
    + 8 * length (plan_requests unit (plan_at task (ReadPiece index left)) 1)
    ≤ limit_at task (ReadPiece index left)
told_last_room task index left others unit updates within own same is over le =
    let all : take left (back_from task index) ≡ own ∷ within =
    subst (λ (l : List (ℕ × ℕ)). take left (drop index (read_backs l)) ≡ own ∷ within) same is in
    let count =
    ap (λ (l : List (ℕ × ℕ)). length l)
    (piece_last 2 (read_backs (updates_for task)) within own index left others all over le) in
    omega (
      arith,
      length-drop (index + 1 + others) (read_backs (updates_for task)),
      length-drop (index + left) (read_backs (updates_for task)),
      piece_requests unit (take left (back_from task index)) (read_back (rows_at task (index + left))),
    )

-- a row that failed is read again
pub failed_more : (task : Task) (index most others : ℕ) (updates behind : List (ℕ × ℕ)) (own : ℕ × ℕ) (pace : Pace)
    → updates ≡ updates_for task → pace ≡ pace_for task → most ≡ most_of pace
    → drop index (read_backs updates) ≡ own ∷ behind → 3 ≤ others → others ≤ length behind
    → rows_of most (own ∷ behind)
    ≡ (own.0, own.1 ∷ bytes_in (take others behind)) ∷ rows_of most (drop others behind)
    → go_again (pieces_at task index (1 + others)) (read_back (rows_at task (index + (1 + others))))
    ≡ next_plan (plan_at task (ReadBack index)) None
failed_more task index most others updates behind own pace same at are is some le rows =
    let is_most : most ≡ most_of (pace_for task) = are ∙ ap most_of at in
    failed_again (most_of (pace_for task)) index others (read_backs (updates_for task)) behind own
    (subst (λ (l : List (ℕ × ℕ)). drop index (read_backs l) ≡ own ∷ behind) same is) some le
    (subst (λ (m : ℕ). rows_of m (own ∷ behind)
    ≡ (own.0, own.1 ∷ bytes_in (take others behind)) ∷ rows_of m (drop others behind)) is_most rows)

-- the stage after one whose access told bytes, or failed
pub ruleset told_next = (
  write_on_next,
  write_on_over,
  read_back_over,
  piece_over,
  piece_next,
  piece_last,
  again_is,
  behind_others,
  read_back_room,
  piece_room,
  read_on_next,
  read_on_over,
  write_on_requests,
  read_back_requests,
  read_on_requests,
  of_block_fits,
)

pub ruleset failed_next = (
  write_on_failed,
  read_back_over,
  piece_over,
  piece_failed,
  failed_few,
  failed_again,
  read_on_silent,
  unlock_room,
  write_on_room,
  read_back_room,
  piece_room,
  again_room,
  read_on_requests,
  of_block_fits,
)

-- no try has more frames than the read of a whole block
pub requests_few : (unit : ℕ) (task : Task) (stage : Stage) → is_small task ≡ true
    → length (plan_requests unit (plan_at task stage) 1) ≤ 22
requests_few unit task ReadLength small = omega arith
requests_few unit task ReadFormat small = by (pace_for task) where
  by : (pace : Pace) → length (plan_requests unit (read_format pace) 1) ≤ 22
  by Checked = omega arith
  by Short = omega arith
requests_few unit task (ReadFormatLow high) small = omega arith
requests_few unit task Unlock small = omega arith
requests_few unit task (WriteOn index) small = grind (arith, write_on_requests)
requests_few unit task (ReadBack index) small =
    let most = some_most (pace_for task) in
    omega (arith, read_back_requests unit (most_of (pace_for task)) (back_from task index) most.0, most.1)
requests_few unit task (ReadPiece index left) small =
    omega (arith, piece_requests unit (take left (back_from task index)) (read_back (rows_at task (index + left))))
requests_few unit task (Close answered unanswered) small = omega arith
requests_few unit task (ReadClosed answered unanswered) small = omega arith
requests_few unit task ReadAll small = omega arith
requests_few unit task (ReadOn location last) small = by (suc last - location) where
  by : (left : ℕ) → length (plan_requests unit (read_on location left) 1) ≤ 22
  by zero = omega arith
  by (suc left) = omega arith
requests_few unit task ReadBlock small = grind (arith, leb-true, block_frames_are)
requests_few unit task (Over verdict) small = omega arith

-- the limit of a stage has room for eight tries of the access at hand
pub tries_fit : (unit : ℕ) (task : Task) (stage : Stage)
    → 8 * length (plan_requests unit (plan_at task stage) 1) ≤ limit_at task stage
tries_fit unit task ReadLength = omega arith
tries_fit unit task ReadFormat = by (pace_for task) where
  by : (pace : Pace) → 8 * length (plan_requests unit (read_format pace) 1) ≤ 2 * read_limit
  by Checked = omega arith
  by Short = omega arith
tries_fit unit task (ReadFormatLow high) = omega arith
tries_fit unit task Unlock = omega arith
tries_fit unit task (WriteOn index) = grind (arith, write_on_requests)
tries_fit unit task (ReadBack index) =
    omega (arith, read_back_room unit (pace_for task) (updates_for task) index)
tries_fit unit task (ReadPiece index left) =
    omega (arith, piece_requests unit (take left (back_from task index)) (read_back (rows_at task (index + left))))
tries_fit unit task (Close answered unanswered) = omega arith
tries_fit unit task (ReadClosed answered unanswered) = omega arith
tries_fit unit task ReadAll = omega arith
tries_fit unit task (ReadOn location last) = read_on_requests unit location (suc last - location)
tries_fit unit task ReadBlock = of_block_fits unit task
tries_fit unit task (Over verdict) = omega arith

-- the frames of the tries so far are fewer than those of eight
within_tries : (misses requests number : ℕ) → misses < 8 → number < requests → misses * requests + number < 8 * requests
within_tries misses requests number few below = grind (arith, mul-le)

-- one frame more of a try
pub falls_on : (limit requests misses number : ℕ) → 8 * requests ≤ limit → misses < 8 → number < requests
    → limit - (misses * requests + (number + 1)) < limit - (misses * requests + number)
falls_on limit requests misses number fit few below = omega (arith, within_tries misses requests number few below)

-- another try
pub falls_again : (limit requests misses number : ℕ) → 8 * requests ≤ limit → misses < 7 → number < requests
    → limit - ((misses + 1) * requests + 0) < limit - (misses * requests + number)
falls_again limit requests misses number fit few below = grind (arith, within_tries)

-- another access
pub falls_next : (limit next requests misses number : ℕ) → next + 8 * requests ≤ limit → misses < 8
    → number < requests → next < limit - (misses * requests + number)
falls_next limit next requests misses number fit few below = grind (arith, within_tries)

plan_longest : (unit : ℕ) (plan : Plan) (misses : ℕ)
    → length (plan_requests unit plan misses) ≤ length (plan_requests unit plan 1)
plan_longest unit (Finish verdict) misses = omega arith
plan_longest unit (Make access after) misses = longest unit access misses

-- while a frame is at hand, its number is below that of the requests
pub number_below : (s : Session) → IsSome (request_at_hand s)
    → s.number < length (plan_requests s.unit (plan_at s.task s.stage) 1)
number_below s some = grind (arith, slice_get_within, plan_longest s.unit (plan_at s.task s.stage) s.misses)

-- so there is room for the byte that it may read
pub number_few : (s : Session) → IsSome (request_at_hand s) → s.number < 22
number_few s some = grind (arith, number_below s some, requests_few s.unit s.task s.stage s.small)
