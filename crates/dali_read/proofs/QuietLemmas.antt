-- The frames of block reads and of readings: what holds of each frame of a block that fits holds of all of them.
use Rattle.std.proofs.Common.{◌⊎◌, inl, inr, ℕ, ◌<◌, ◌≤◌, List, [], ◌∷◌, subst, Option, Some, None, arith}
use Rattle.dali_frame.specs.declared.forward.Frame.{Frame}
use Rattle.dali_frame.specs.Frame.{IsProper}
use Rattle.dali_bus.specs.World.{World}
use Rattle.dali_bus.specs.Carry.{WorldStep}
use Rattle.dali_write.specs.Exchanges.{Exchange}
use Rattle.dali_write.specs.declared.ask.Ask.TheVariants.{Send}
use Rattle.dali_write.specs.declared.block.Block.{Block}
use Rattle.dali_write.specs.Blocks.{Fits}
use Rattle.dali_write.specs.Guards.{IsGuarded}
use Rattle.dali_write.specs.Plans.{read_block}
use Rattle.dali_write.specs.Reads.{IsPassive}
use Rattle.dali_write.specs.Requests.{block_requests, each_try}
use Rattle.dali_write.specs.Tries.{most_tries}
use Rattle.dali_write.specs.Worlds.{KeepsAt}
use Rattle.dali_write.proofs.AskedLemmas.{Sent, Asks, sent_both, misses_sent, access_sent, block_asks, IsCalm, block_calm}
use Rattle.dali_write.proofs.AskedLemmas.{PlanAsks, wants_sent, wanted_asked, sent_quiet}
use Rattle.dali_write.proofs.BlockSessionLemmas.{amid_wants}
use Rattle.dali_write.proofs.PlanLemmas.{either_all}
use Rattle.dali_write.proofs.RunLemmas.{Leads}
use Rattle.dali_write.proofs.TruthLemmas.{run_keeps}
use Rattle.dali_read.specs.Readings.{Course, Done, told_in, InTurn, Ends, IsReading}

-- it holds of each frame of a block that fits
abbrev pub OfBlocks : (Frame → Type 0) → ℕ → Type 0
OfBlocks P unit = (block : Block) → Fits block → Asks P (block_requests unit block)

-- and of all blocks that were read
pub in_turn_sent : (P : Frame → Type 0) (unit : ℕ) → OfBlocks P unit → (course : Course) (done : List Done)
    → InTurn unit course done → Sent P (told_in done)
in_turn_sent P unit all course [] in_turn = tt
in_turn_sent P unit all course (newest ∷ done) in_turn =
    grind (
      arith,
      sent_both P newest.told (told_in done) (access_sent P (each_try (block_requests unit newest.block)) (Some
          newest.bytes) newest.told (λ misses. all newest.block in_turn.1) (inl in_turn.3))
          (in_turn_sent P unit all course done
          in_turn.0),
    )

-- it holds of each frame that a reading sent that came to its end
pub ends_sent : (P : Frame → Type 0) (unit : ℕ) → OfBlocks P unit → (course : Course) (outcome : Option (List ℕ))
    (told : List Exchange) → Ends unit course outcome told → Sent P told
ends_sent P unit all course (Some bytes) told read =
    subst (λ (t : List Exchange). Sent P t) read.told_are (in_turn_sent P unit all course read.done read.in_turn)
ends_sent P unit all course None told silent =
    grind (
      arith,
      sent_both P silent.missed (told_in silent.done) (misses_sent P (each_try (block_requests unit silent.block))
          most_tries silent.missed
          (λ misses. all silent.block silent.fits) silent.fails) (in_turn_sent P unit all course silent.done
          silent.in_turn),
    )

-- and of one that goes on, also of its next frame
pub reading_sent : (P : Frame → Type 0) (unit : ℕ) → OfBlocks P unit → (course : Course) (told : List Exchange)
    (frame : Frame) → IsReading unit course told frame → P frame × Sent P told
reading_sent P unit all course told frame reading =
    let plan = read_block reading.block in
    let wants = amid_wants unit reading.block reading.tried frame reading.amid in
    let asks : PlanAsks P unit plan =
    (λ misses. all reading.block reading.fits, either_all (PlanAsks P unit) _ _ tt (λ bytes. tt)) in (
      wanted_asked P unit plan reading.tried frame asks wants,
      subst (λ (t : List Exchange). Sent P t) reading.told_are
          (sent_both P reading.tried (told_in reading.done)
          (wants_sent P unit plan reading.tried (Send frame) asks wants)
          (in_turn_sent P unit all course reading.done reading.in_turn)),
    )

-- they write nothing
pub blocks_passive : (unit : ℕ) → OfBlocks IsPassive unit
blocks_passive unit block fits = block_asks IsPassive unit block tt tt tt tt tt

blocks_proper : (unit : ℕ) → unit ≤ 63 → OfBlocks IsProper unit
blocks_proper unit short block fits =
    let address : unit < 64 = omega arith in
    block_asks IsProper unit block (omega arith) address (omega (arith, fits.some, fits.within)) address address

-- such frames change no memory and enable no unit
pub sent_keeps : {loses : ℕ → Type 0} (told : List Exchange) (first last : World)
    → Leads WorldStep loses told first last → Sent IsPassive told → (address : ℕ) → KeepsAt loses first last address
sent_keeps told first last run sent address = run_keeps told first last address (sent_quiet address told sent) run

-- wherever a reading is broken off
pub broken_keeps : {loses : ℕ → Type 0} (told : List Exchange) (first last : World) (unit : ℕ) (course : Course)
    (frame : Frame) (answer : Option ℕ)
    → IsReading unit course told frame
    → Leads WorldStep loses told first last
    ⊎ Leads WorldStep loses (record { frame = frame; answer = answer } ∷ told) first last
    → (address : ℕ) → KeepsAt loses first last address
broken_keeps told first last unit course frame answer reading (inl run) =
    sent_keeps told first last run (reading_sent IsPassive unit (blocks_passive unit) course told frame reading).1
broken_keeps told first last unit course frame answer reading (inr run) =
    sent_keeps (record { frame = frame; answer = answer } ∷ told) first last run
    (reading_sent IsPassive unit (blocks_passive unit) course told frame reading)

-- each frame that a reading sends
pub frame_calm : (told : List Exchange) (unit : ℕ) (course : Course) (frame : Frame) → unit ≤ 63
    → IsReading unit course told frame → IsProper frame × IsPassive frame × IsGuarded [] unit told frame
frame_calm told unit course frame short reading =
    let calm = (reading_sent (IsCalm unit) unit (λ block fits. block_calm unit block) course told frame reading).0 in
    ((reading_sent IsProper unit (blocks_proper unit short) course told frame reading).0, calm.0, calm.1 [] told)
