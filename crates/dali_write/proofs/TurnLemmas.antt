-- Each write of a session that takes the unit as another one left it comes just after that one.
use Rattle.std.proofs.Common.{refl, ℕ, zero, suc, List, []}
use Rattle.std.proofs.Common.{◌∷◌, get_or, Option, Some, None}
use Rattle.std.specs.Prelude.{min, nat_lt}
use Rattle.std.specs.Str.{bytes_eq}
use Rattle.dali_write.specs.declared.ask.Verdict.{Verdict}
use Rattle.dali_write.specs.declared.ask.Verdict.TheVariants.{MayOpen, Short as ShortBank, Silent, Doubt}
use Rattle.dali_write.specs.declared.ask.Verdict.TheVariants.{DoubtOpen, Closed, NotClosed}
use Rattle.dali_write.specs.declared.block.Block.{Block}
use Rattle.dali_write.specs.declared.pace.Pace.{Pace}
use Rattle.dali_write.specs.declared.pace.Pace.TheVariants.{Checked, Short}
use Rattle.dali_write.specs.declared.stage.Task.{Task}
use Rattle.dali_write.specs.declared.stage.Task.TheVariants.{Fresh, Opened, Closing, Reading, ReadingBlock}
use Rattle.dali_write.specs.Plans.{Plan, Finish, Make, either_way, read_at, greatest, judge_format, read_format_low}
use Rattle.dali_write.specs.Plans.{read_format, judge_length, read_length, read_closed, close, give_up, read_back}
use Rattle.dali_write.specs.Plans.{rows_of, most_of, read_backs, read_all_back, write_next, write_on, unlock, read_on}
use Rattle.dali_write.specs.Plans.{read_all, read_block, IsInTurn}
use Rattle.dali_write.specs.Stages.{plan_of}
use Rattle.dali_write.specs.Plans.{expect}
use Rattle.std.proofs.Common.{length}
use Rattle.dali_write.specs.Plans.{most_once, pieces_of, expect_all, read_again}
use Rattle.dali_write.proofs.PlanLemmas.{if_all}

at_turn : (last : Option ℕ) (location : ℕ) (failed : Plan) (found : ℕ → Plan) → IsInTurn None failed
    → ((byte : ℕ) → IsInTurn None (found byte)) → IsInTurn last (read_at location failed found)
at_turn last location failed found one two = (tt, one, λ bytes. two (get_or bytes 0 0))

closed_turn : (last : Option ℕ) (answered unanswered : Verdict) → IsInTurn last (read_closed answered unanswered)
closed_turn last answered unanswered = (tt, tt, λ bytes. tt)

pub close_turn : (last : Option ℕ) (answered unanswered : Verdict) → IsInTurn last (close answered unanswered)
close_turn last answered unanswered =
    (tt, closed_turn None answered unanswered, λ bytes. closed_turn (Some 2) answered unanswered)

expect_turn : (last : Option ℕ) (failed after : Plan) (location : ℕ) (bytes : List ℕ) → IsInTurn None failed
    → IsInTurn None after → IsInTurn last (expect failed location bytes after)
expect_turn last failed after location bytes one two = (
  tt,
  one,
  λ read. if_all (IsInTurn None) (bytes_eq read bytes) after failed two one,
)

all_turn : (rows : List (ℕ × List ℕ)) (after : Plan) → IsInTurn None after → IsInTurn None (expect_all rows after)
all_turn [] after rest = rest
all_turn (row ∷ rows) after rest =
    expect_turn None give_up (expect_all rows after) row.0 row.1 (close_turn None Doubt DoubtOpen)
    (all_turn rows after rest)

back_turn : (last : Option ℕ) (rows : List (ℕ × List ℕ)) → IsInTurn last (read_back rows)
back_turn last [] = tt
back_turn last (row ∷ rows) =
    let rest = back_turn None rows in
    expect_turn last (read_again row.0 row.1 (read_back rows)) (read_back rows) row.0 row.1
    (if_all (IsInTurn None) (nat_lt most_once (length row.1)) (expect_all (pieces_of row.0 row.1) (read_back rows))
    give_up
    (all_turn (pieces_of row.0 row.1) (read_back rows) rest) (close_turn None Doubt DoubtOpen)) rest

next_turn : (pace : Pace) (before location byte : ℕ) (after : Plan) → IsInTurn (Some location) after
    → IsInTurn (Some before) (Make (write_next pace before location byte) (either_way give_up (λ bytes. after)))
next_turn Checked before location byte after rest = (tt, close_turn None Doubt DoubtOpen, λ bytes. rest)
next_turn Short before location byte after rest = (refl, close_turn None Doubt DoubtOpen, λ bytes. rest)

on_turn : (pace : Pace) (updates : List (ℕ × ℕ)) (before : ℕ) (left : List (ℕ × ℕ))
    → IsInTurn (Some before) (write_on pace updates before left)
on_turn pace updates before [] =
    next_turn pace before 2 0xFF (read_all_back pace updates)
    (back_turn (Some 2) (rows_of (most_of pace) (read_backs updates)))
on_turn pace updates before (update ∷ left) =
    next_turn pace before update.0 update.1 (write_on pace updates update.0 left) (on_turn pace updates update.0 left)

pub unlock_turn : (pace : Pace) (updates : List (ℕ × ℕ)) → IsInTurn None (unlock pace updates)
unlock_turn pace updates = (tt, close_turn None Doubt DoubtOpen, λ bytes. on_turn pace updates 2 updates)

format_turn : (pace : Pace) → IsInTurn None (read_format pace)
format_turn Checked =
    at_turn None 0x11 (Finish Silent) read_format_low tt
    (λ high. at_turn None 0x12 (Finish Silent) (judge_format high) tt (λ low. tt))
format_turn Short = (tt, tt, λ bytes. tt)

pub length_turn : (pace : Pace) (updates : List (ℕ × ℕ)) → IsInTurn None (read_length pace updates)
length_turn pace updates =
    at_turn None 0 (Finish Silent) (judge_length pace updates) tt
    (λ last. if_all (IsInTurn None) (nat_lt last (greatest updates)) (Finish ShortBank) _ tt
    (if_all (IsInTurn None) (nat_lt (greatest updates) 0x13) (Finish MayOpen) (read_format pace) tt (format_turn pace)))

read_on_turn : (location left : ℕ) → IsInTurn None (read_on location left)
read_on_turn location zero = tt
read_on_turn location (suc left) =
    at_turn None location (Finish Silent) (λ byte. read_on (suc location) left) tt
    (λ byte. read_on_turn (suc location) left)

pub read_all_turn : IsInTurn None read_all
read_all_turn =
    at_turn None 0 (Finish Silent) (λ last. read_on 1 (min last 0xFE)) tt (λ last. read_on_turn 1 (min last 0xFE))

pub block_turn : (block : Block) → IsInTurn None (read_block block)
block_turn block = (tt, tt, λ bytes. tt)

pub task_turn : (task : Task) → IsInTurn None (plan_of task)
task_turn (Fresh order pace) = length_turn pace order.updates
task_turn (Opened order pace) = unlock_turn pace order.updates
task_turn Closing = close_turn None Closed NotClosed
task_turn Reading = read_all_turn
task_turn (ReadingBlock block) = block_turn block
