-- With which verdicts a session may end.
use Rattle.std.proofs.Common.{◌∙◌, ◌≡◌, subst, ℕ, zero, suc, min, Bool, ◌==◌, ◌&&◌, nat_lt, true, false, if◌then◌else◌}
use Rattle.std.proofs.Common.{List, [], ◌∷◌, Option, get_or}
use Rattle.dali_write.specs.Exchanges.{Exchange}
use Rattle.dali_write.specs.declared.request.Request.{Request}
use Rattle.dali_write.specs.declared.ask.Ask.TheVariants.{Ended}
use Rattle.dali_write.specs.declared.ask.Verdict.{Verdict}
use Rattle.dali_write.specs.declared.ask.Verdict.TheVariants.{MayOpen, Short, Format, Silent, Doubt, DoubtOpen, Closed}
use Rattle.dali_write.specs.declared.ask.Verdict.TheVariants.{NotClosed}
use Rattle.dali_write.specs.Plans.{Plan, Finish, Make, next_plan, plan_after, greatest, read_format}
use Rattle.dali_write.specs.Plans.{read_length, close, give_up, read_back, write_on}
use Rattle.dali_write.specs.Plans.{unlock, read_on, read_all, read_block}
use Rattle.dali_write.specs.declared.block.Block.{Block}
use Rattle.dali_write.specs.Tries.{IsGoing, Wants}
use Rattle.dali_write.proofs.AskLemmas.{shown_ask, ask_shown}
use Rattle.dali_write.specs.Verdicts.{EndsFresh, EndsOpened, EndsClosing, EndsReading}
use Rattle.dali_write.proofs.PlanLemmas.{either_all, if_all}
use Rattle.dali_write.specs.declared.pace.Pace.{Pace}
use Rattle.dali_write.specs.declared.pace.Pace.TheVariants.{Checked, Short as ShortPace}
use Rattle.dali_write.specs.Plans.{rows_of, most_of, read_backs, read_all_back}
use Rattle.std.specs.Str.{bytes_eq}
use Rattle.std.proofs.Common.{length}
use Rattle.dali_write.specs.Plans.{most_once, pieces_of, expect_all, read_again}

-- wherever the plan ends, it ends so
abbrev EndsSo : (Verdict → Type 0) → Plan → Type 0
EndsSo P (Finish verdict) = P verdict
EndsSo P (Make access after) = (outcome : Option (List ℕ)) → EndsSo P (after outcome)

on : (P : Verdict → Type 0) (plan : Plan) (outcome : Option (List ℕ)) → EndsSo P plan
    → EndsSo P (next_plan plan outcome)
on P (Finish verdict) outcome ends = ends
on P (Make access after) outcome ends = ends outcome

after_all : (P : Verdict → Type 0) (plan : Plan) (outcomes : List (Option (List ℕ))) → EndsSo P plan
    → EndsSo P (plan_after plan outcomes)
after_all P plan [] ends = ends
after_all P plan (outcome ∷ outcomes) ends = on P (plan_after plan outcomes) outcome (after_all P plan outcomes ends)

-- the plan that is left has ended
over : (P : Verdict → Type 0) (now : Plan) (left : List Request) (verdict : Verdict) → EndsSo P now → IsGoing now left
    → shown_ask now left ≡ Ended verdict → P verdict
over P (Finish end) left verdict ends going is = let same : end ≡ verdict = cc in subst P same ends
over P (Make access after) [] verdict ends going is = cc
over P (Make access after) (next ∷ left) verdict ends going is = cc

ended : (P : Verdict → Type 0) (unit : ℕ) (plan : Plan) (told : List Exchange) (verdict : Verdict) → EndsSo P plan
    → Wants unit plan told (Ended verdict) → P verdict
ended P unit plan told verdict ends wants =
    let s = wants.stands in
    over P wants.now wants.left verdict (subst (EndsSo P) s.now_is (after_all P plan wants.outcomes ends)) s.going
    (ask_shown wants.now wants.left s.going ∙ wants.ask_is)

close_ends : (P : Verdict → Type 0) (answered unanswered : Verdict) → P answered → P unanswered
    → EndsSo P (close answered unanswered)
close_ends P answered unanswered a u =
    λ outcome. either_all (EndsSo P) (Finish unanswered) (λ byte. Finish answered) u (λ byte. a)

all_ends : (rows : List (ℕ × List ℕ)) (after : Plan) → EndsSo EndsOpened after
    → EndsSo EndsOpened (expect_all rows after)
all_ends [] after rest = rest
all_ends (row ∷ rows) after rest =
    let gives = close_ends EndsOpened Doubt DoubtOpen tt tt in
    either_all (EndsSo EndsOpened) give_up _ gives
    (λ read. if_all (EndsSo EndsOpened) (bytes_eq read row.1) (expect_all rows after) give_up (all_ends rows after rest)
    gives)

read_back_ends : (rows : List (ℕ × List ℕ)) → EndsSo EndsOpened (read_back rows)
read_back_ends [] = tt
read_back_ends (row ∷ rows) =
    let rest = read_back_ends rows in
    let again = read_again row.0 row.1 (read_back rows) in
    let otherwise : EndsSo EndsOpened again =
    if_all (EndsSo EndsOpened) (nat_lt most_once (length row.1)) (expect_all (pieces_of row.0 row.1) (read_back rows))
    give_up (all_ends (pieces_of row.0 row.1) (read_back rows) rest) (close_ends EndsOpened Doubt DoubtOpen tt tt) in
    either_all (EndsSo EndsOpened) again _ otherwise
    (λ read. if_all (EndsSo EndsOpened) (bytes_eq read row.1) (read_back rows) again rest otherwise)

write_on_ends : (pace : Pace) (updates : List (ℕ × ℕ)) (before : ℕ) (left : List (ℕ × ℕ))
    → EndsSo EndsOpened (write_on pace updates before left)
write_on_ends pace updates before [] =
    either_all (EndsSo EndsOpened) give_up (λ bytes. read_all_back pace updates)
    (close_ends EndsOpened Doubt DoubtOpen tt tt)
    (λ bytes. read_back_ends (rows_of (most_of pace) (read_backs updates)))
write_on_ends pace updates before (update ∷ left) =
    either_all (EndsSo EndsOpened) give_up (λ bytes. write_on pace updates update.0 left)
    (close_ends EndsOpened Doubt DoubtOpen tt tt)
    (λ bytes. write_on_ends pace updates update.0 left)

unlock_ends : (pace : Pace) (updates : List (ℕ × ℕ)) → EndsSo EndsOpened (unlock pace updates)
unlock_ends pace updates =
    either_all (EndsSo EndsOpened) give_up (λ bytes. write_on pace updates 2 updates)
    (close_ends EndsOpened Doubt DoubtOpen tt tt) (λ bytes. write_on_ends pace updates 2 updates)

judged : (suits : Bool) → EndsFresh (if suits then MayOpen else Format)
judged true = tt
judged false = tt

format_ends : (pace : Pace) → EndsSo EndsFresh (read_format pace)
format_ends Checked =
    either_all (EndsSo EndsFresh) (Finish Silent) _ tt
    (λ high. either_all (EndsSo EndsFresh) (Finish Silent) _ tt
    (λ low. judged ((get_or high 0 0 == 0) && (get_or low 0 0 == 3))))
format_ends ShortPace =
    either_all (EndsSo EndsFresh) (Finish Silent) _ tt
    (λ read. judged ((get_or read 0 0 == 0) && (get_or read 1 0 == 3)))

length_ends : (pace : Pace) (updates : List (ℕ × ℕ)) → EndsSo EndsFresh (read_length pace updates)
length_ends pace updates =
    either_all (EndsSo EndsFresh) (Finish Silent) _ tt
    (λ last. if_all (EndsSo EndsFresh) (nat_lt (get_or last 0 0) (greatest updates)) (Finish Short) _ tt
    (if_all (EndsSo EndsFresh) (nat_lt (greatest updates) 0x13) (Finish MayOpen) (read_format pace) tt
    (format_ends pace)))

pub fresh_ends : (told : List Exchange) (unit : ℕ) (pace : Pace) (updates : List (ℕ × ℕ)) (verdict : Verdict)
    → Wants unit (read_length pace updates) told (Ended verdict) → EndsFresh verdict
fresh_ends told unit pace updates verdict wants =
    ended EndsFresh unit (read_length pace updates) told verdict (length_ends pace updates) wants

pub opened_ends : (told : List Exchange) (unit : ℕ) (pace : Pace) (updates : List (ℕ × ℕ)) (verdict : Verdict)
    → Wants unit (unlock pace updates) told (Ended verdict) → EndsOpened verdict
opened_ends told unit pace updates verdict wants =
    ended EndsOpened unit (unlock pace updates) told verdict (unlock_ends pace updates) wants

pub closing_ends : (told : List Exchange) (unit : ℕ) (verdict : Verdict)
    → Wants unit (close Closed NotClosed) told (Ended verdict) → EndsClosing verdict
closing_ends told unit verdict wants =
    ended EndsClosing unit (close Closed NotClosed) told verdict (close_ends EndsClosing Closed NotClosed tt tt) wants

on_ends : (location left : ℕ) → EndsSo EndsReading (read_on location left)
on_ends location zero = tt
on_ends location (suc left) =
    either_all (EndsSo EndsReading) (Finish Silent) _ tt
    (λ bytes. on_ends (suc location) left)

pub reading_ends : (told : List Exchange) (unit : ℕ) (verdict : Verdict) → Wants unit read_all told (Ended verdict)
    → EndsReading verdict
reading_ends told unit verdict wants =
    ended EndsReading unit read_all told verdict
    (either_all (EndsSo EndsReading) (Finish Silent) _ tt (λ last. on_ends 1 (min (get_or last 0 0) 0xFE)))
    wants

pub block_ends : (told : List Exchange) (unit : ℕ) (block : Block) (verdict : Verdict)
    → Wants unit (read_block block) told (Ended verdict) → EndsReading verdict
block_ends told unit block verdict wants =
    ended EndsReading unit (read_block block) told verdict
    (either_all (EndsSo EndsReading) (Finish Silent) _ tt (λ bytes. tt)) wants
