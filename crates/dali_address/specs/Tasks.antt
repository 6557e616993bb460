-- Which frames a run of each kind may send.
use Rattle.std.specs.Prelude.{⊤}
use Rattle.dali_address.specs.declared.call.Call.{Call}
use Rattle.dali_address.specs.declared.call.Call.TheVariants.{InitialiseAll, InitialiseMissing, InitialiseAt, Randomise}
use Rattle.dali_address.specs.declared.call.Call.TheVariants.{Withdraw, Program, Remove, AskPresent}
use Rattle.dali_address.specs.declared.task.Task.{Task}
use Rattle.dali_address.specs.declared.task.Task.TheVariants.{Give, All, List, Close}

-- it gives short addresses
abbrev pub Gives : Task → Type 0
Gives Give = ⊤
Gives All = ⊤
Gives List = ⊥
Gives Close = ⊥

-- it takes short addresses away
abbrev pub Takes : Task → Type 0
Takes Give = ⊥
Takes All = ⊤
Takes List = ⊥
Takes Close = ⊥

-- it has units draw new random addresses
abbrev pub Draws : Task → Type 0
Draws Give = ⊤
Draws All = ⊤
Draws List = ⊥
Draws Close = ⊥

-- it brings no unit into the initialisation state that has a short address
abbrev pub LeavesAddressed : Task → Type 0
LeavesAddressed Give = ⊤
LeavesAddressed All = ⊥
LeavesAddressed List = ⊤
LeavesAddressed Close = ⊤

-- a run of this kind may send the frame. One that gives brings units without a short address alone into the
-- initialisation state; one that lists or closes brings none
abbrev pub MaySend : Task → Call → Type 0
MaySend task InitialiseAll = ⊥
MaySend task InitialiseMissing = Gives task
MaySend task (InitialiseAt short) = Takes task
MaySend task Randomise = Draws task
MaySend task Withdraw = ⊥
MaySend task (Program short) = Gives task
MaySend task Remove = Takes task
MaySend task _ = ⊤

-- the frame asks whether a unit is at a short address
abbrev pub IsPresenceAsked : Call → Type 0
IsPresenceAsked (AskPresent short) = ⊤
IsPresenceAsked _ = ⊥
