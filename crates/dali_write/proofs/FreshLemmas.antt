-- The sessions that read alone: each of their frames is calm.
use Rattle.std.proofs.Common.{ℕ, zero, suc, min, nat_lt, List, []}
use Rattle.dali_frame.specs.declared.forward.Frame.{Frame}
use Rattle.dali_bus.specs.World.{World}
use Rattle.dali_bus.specs.Carry.{WorldStep}
use Rattle.dali_write.specs.Exchanges.{Exchange}
use Rattle.dali_write.specs.declared.ask.Ask.{Ask}
use Rattle.dali_write.specs.declared.ask.Ask.TheVariants.{Send}
use Rattle.dali_write.specs.declared.ask.Verdict.TheVariants.{MayOpen, Short, Silent, Read}
use Rattle.dali_write.specs.declared.block.Block.{Block}
use Rattle.dali_write.specs.Requests.{block}
use Rattle.dali_write.specs.Plans.{Plan, Finish, greatest, judge_length, read_format, read_format_low, read_at}
use Rattle.dali_write.specs.Plans.{read_length, read_on, read_all, read_block}
use Rattle.dali_write.specs.Tries.{Wants}
use Rattle.dali_write.specs.Guards.{IsGuarded}
use Rattle.dali_write.specs.Worlds.{KeepsAt}
use Rattle.dali_write.proofs.AskedLemmas.{IsCalm, PlanAsks, block_calm, calm_passive, wants_sent, wanted_asked}
use Rattle.dali_write.proofs.PlanLemmas.{either_all, if_all}
use Rattle.dali_write.proofs.RunLemmas.{Leads}
use Rattle.dali_write.proofs.VerdictLemmas.{passive_keeps}
use Rattle.dali_write.specs.declared.pace.Pace.{Pace}
use Rattle.dali_write.specs.declared.pace.Pace.TheVariants.{Checked, Short as ShortPace}
use Rattle.dali_write.specs.Plans.{judge_format}

abbrev pub Calm : ℕ → Plan → Type 0
Calm unit plan = PlanAsks (IsCalm unit) unit plan

read_calm : (unit location : ℕ) (failed : Plan) (found : ℕ → Plan) → Calm unit failed
    → ((byte : ℕ) → Calm unit (found byte)) → Calm unit (read_at location failed found)
read_calm unit location failed found one two =
    (λ misses. block_calm unit (block location 1), either_all (Calm unit) failed _ one (λ bytes. two _))

format_calm : (unit : ℕ) (pace : Pace) → Calm unit (read_format pace)
format_calm unit Checked =
    read_calm unit 0x11 (Finish Silent) read_format_low tt
    (λ high. read_calm unit 0x12 (Finish Silent) (judge_format high) tt (λ low. tt))
format_calm unit ShortPace =
    (λ misses. block_calm unit (block 0x11 2), either_all (Calm unit) (Finish Silent) _ tt (λ read. tt))

pub length_calm : (unit : ℕ) (pace : Pace) (updates : List (ℕ × ℕ)) → Calm unit (read_length pace updates)
length_calm unit pace updates =
    read_calm unit 0 (Finish Silent) (judge_length pace updates) tt
    (λ last. if_all (Calm unit) (nat_lt last (greatest updates)) (Finish Short) _ tt
    (if_all (Calm unit) (nat_lt (greatest updates) 0x13) (Finish MayOpen) (read_format pace) tt
    (format_calm unit pace)))

on_calm : (unit location left : ℕ) → Calm unit (read_on location left)
on_calm unit location zero = tt
on_calm unit location (suc left) =
    read_calm unit location (Finish Silent) (λ byte. read_on (suc location) left) tt
    (λ byte. on_calm unit (suc location) left)

pub all_calm : (unit : ℕ) → Calm unit read_all
all_calm unit = read_calm unit 0 (Finish Silent) (λ last. read_on 1 (min last 0xFE)) tt
    (λ last. on_calm unit 1 (min last 0xFE))

pub one_calm : (unit : ℕ) (block : Block) → Calm unit (read_block block)
one_calm unit block =
    (λ misses. block_calm unit block, either_all (Calm unit) (Finish Silent) (λ bytes. Finish Read) tt (λ bytes. tt))

-- so they change no memory
pub calm_quiet : {loses : ℕ → Type 0} (unit : ℕ) (plan : Plan) (told : List Exchange) (ask : Ask) (first last : World)
    → Calm unit plan → Leads WorldStep loses told first last → Wants unit plan told ask
    → (address : ℕ) → KeepsAt loses first last address
calm_quiet unit plan told ask first last calm run wants =
    passive_keeps told first last (calm_passive unit told (wants_sent (IsCalm unit) unit plan told ask calm wants)) run

-- and what they want is guarded
pub calm_guarded : (unit : ℕ) (plan : Plan) (told : List Exchange) (frame : Frame) → Calm unit plan
    → Wants unit plan told (Send frame) → IsGuarded [] unit told frame
calm_guarded unit plan told frame calm wants = (wanted_asked (IsCalm unit) unit plan told frame calm wants).1 [] told
