-- The exchanges that a session was given.
use Rattle.std.specs.Prelude.{◌≡◌, ℕ, ◌+◌, ◌-◌, ◌*◌, List, [], length, drop, Option, slice_get}
use Rattle.dali_write.specs.Exchanges.{Exchange}
use Rattle.dali_write.specs.declared.block.Block.{Block}
use Rattle.dali_write.specs.declared.pace.Pace.{Pace}
use Rattle.dali_write.specs.declared.request.Request.{Request}
use Rattle.dali_write.specs.declared.ask.Ask.{Ask}
use Rattle.dali_write.specs.declared.ask.Cause.{Cause}
use Rattle.dali_bank.specs.Order.{Contents}
use Rattle.dali_write.specs.declared.stage.Task.{Task}
use Rattle.dali_write.specs.declared.stage.Task.TheVariants.{Fresh, Opened, Closing, ReadingBlock}
use Rattle.dali_write.specs.declared.session.Session.{Session}
use Rattle.dali_write.specs.Tries.{plan_requests, ask_at}
use Rattle.dali_write.specs.Found.{StandsWith}
use Rattle.dali_write.specs.FramesLeft.{limit_at}
use Rattle.dali_write.specs.Stages.{plan_at}

-- the short address of a session's unit, what it is for, and what it has read
abbrev pub unit_of : Session → ℕ
unit_of s = s.unit

abbrev pub task_of : Session → Task
task_of s = s.task

abbrev pub bytes_read : Session → List ℕ
bytes_read s = s.bytes.items

-- why it comes to no good end
abbrev pub cause_of : Session → Option Cause
cause_of s = s.cause

-- The session looks whether the order suits its unit; it carries the order out; it closes the unit; it reads the block.
abbrev pub IsFresh : Contents → Pace → Session → Type 0
IsFresh order pace s = (unit_of s ≡ order.unit) × (task_of s ≡ Fresh order pace)

abbrev pub IsOpened : Contents → Pace → Session → Type 0
IsOpened order pace s = (unit_of s ≡ order.unit) × (task_of s ≡ Opened order pace)

abbrev pub IsClosing : ℕ → Session → Type 0
IsClosing unit s = (unit_of s ≡ unit) × (task_of s ≡ Closing)

abbrev pub IsReadingBlock : ℕ → Block → Session → Type 0
IsReadingBlock unit block s = (unit_of s ≡ unit) × (task_of s ≡ ReadingBlock block)

-- what the session wants
abbrev pub aim_of : Session → Ask
aim_of s =
    ask_at (plan_at s.task s.stage) (drop s.number (plan_requests s.unit (plan_at s.task s.stage) s.misses)) s.going

-- the frame at hand, with the answer that it wants
abbrev pub request_at_hand : Session → Option Request
request_at_hand s = slice_get (plan_requests s.unit (plan_at s.task s.stage) s.misses) s.number

-- an access begins, with its first try
abbrev pub BeginsTry : Session → Type 0
BeginsTry s = (s.misses ≡ 0) × (s.number ≡ 0) × (s.tried.items ≡ [])

-- The session was given these exchanges.
unfoldable pub Told : List Exchange → Session → Type 0
Told told s =
    StandsWith s.task s.unit told (plan_at s.task s.stage) s.misses
    (drop s.number (plan_requests s.unit (plan_at s.task s.stage) s.misses)) s.tried.items s.bytes.items s.cause

-- the most frames that are still to come: those from the stage on, less those that the tries of the access at hand used
-- up so far, each of them as long as one after a miss
abbrev pub frames_left : Session → ℕ
frames_left s =
    limit_at s.task s.stage - (s.misses * length (plan_requests s.unit (plan_at s.task s.stage) 1) + s.number)
