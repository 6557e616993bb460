-- The exchanges of a run, its want and its state.
use Rattle.std.specs.Prelude.{◌≡◌, ℕ, ◌+◌, List}
use Rattle.std.specs.List.{AllByRecursion}
use Rattle.dali_address.specs.Evidences.{Stands}
use Rattle.dali_address.specs.Phases.{IsFit}
use Rattle.dali_address.specs.Rights.{AreRight, IsRightWant}
use Rattle.dali_address.specs.Steps.{Exchange}
use Rattle.dali_address.specs.Tasks.{MaySend}
use Rattle.dali_address.specs.declared.addressing.Addressing.{Addressing}
use Rattle.dali_address.specs.declared.call.Call.{Call}
use Rattle.dali_address.specs.declared.task.Line.{Line}
use Rattle.dali_address.specs.declared.task.Task.{Task}
use Rattle.dali_address.specs.declared.task.Want.{Want}
use Rattle.dali_address.specs.declared.task.Want.TheVariants.{Send, Tell, Ended, Taken}

abbrev pub task_of : Addressing → Task
task_of run = run.task

abbrev pub want_of : Addressing → Want
want_of run = run.want

-- it wants to send this frame
abbrev pub IsWanted : Addressing → Call → Type 0
IsWanted run call = run.want ≡ Send call

-- it wants to tell this line
abbrev pub IsSaying : Addressing → Line → Type 0
IsSaying run line = run.want ≡ Tell line

-- how many frames and lines it wants at most from here on
abbrev pub left_at : Want → ℕ → ℕ
left_at (Send call) left = left + 1
left_at (Tell line) left = left + 1
left_at (Ended summary) left = 0
left_at (Taken short) left = 0

abbrev pub left_of : Addressing → ℕ
left_of run = left_at run.want run.left

-- its phase and its want fit the exchanges
pub record IsGoing (told : List Exchange) (run : Addressing) : Type 0 where
  pub fit : IsFit run.task run.phase
  pub wants : IsRightWant run.task told run.want

-- its task and its exchanges are as they were
pub record Keeps (old new : Addressing) : Type 0 where
  pub task : new.task ≡ old.task
  pub evidence : new.evidence ≡ old.evidence

-- a run has seen these exchanges, the newest first: each frame that it sent was one that it may send, and right when it
-- was sent
pub record Told (told : List Exchange) (run : Addressing) : Type 0 where
  pub stands : Stands run.evidence told
  pub going : IsGoing told run
  pub sent : AllByRecursion (λ exchange. MaySend run.task exchange.call) told
  pub right : AreRight told
