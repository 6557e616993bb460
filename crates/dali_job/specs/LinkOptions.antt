-- The options of the commands over a link, and what they ask for.
use Rattle.std.specs.Prelude.{◌≤◌, ◌==◌, ◌++◌, ℕ, Bool, true, false, List, [], ◌∷◌, Option, Some, None, codes, ⊤}
use Rattle.std.specs.Prelude.{if◌then◌else◌}
use Rattle.std.specs.List.{AllByRecursion, list_any}
use Rattle.dali_address.specs.declared.task.Task.TheVariants as tasks
use Rattle.dali_drive.specs.declared.sought.Sought.{Sought}
use Rattle.dali_drive.specs.declared.sought.Sought.TheVariants.{Identity, Last}
use Rattle.dali_write.specs.declared.pace.Pace.{Pace}
use Rattle.dali_write.specs.declared.pace.Pace.TheVariants.{Checked, Short}
use Rattle.dali_job.specs.declared.link_command.Asked.{Asked}
use Rattle.dali_job.specs.declared.link_command.Asked.TheVariants as asks
use Rattle.dali_job.specs.declared.link_command.LinkCommand.{LinkCommand}
use Rattle.dali_job.specs.declared.link_command.LinkCommand.TheVariants.{Drive, Read, Verify, Scan, Address}
use Rattle.dali_job.specs.declared.link_command.Required.{Required}
use Rattle.dali_job.specs.declared.link_command.Required.TheVariants.{Nothing, Done, DoneNow}

-- the name of a command on the command line
abbrev pub command_name : LinkCommand → List ℕ
command_name (Drive task) = codes "drive"
command_name (Read unit bank) = codes "read"
command_name (Verify orders report) = codes "verify"
command_name (Scan addresses sought) = codes "scan"
command_name (Address command) = codes "address"

-- each short address that it reads or asks is one
abbrev pub IsShort : LinkCommand → Type 0
IsShort (Read unit bank) = unit ≤ 63
IsShort (Scan addresses sought) = AllByRecursion (λ address. address ≤ 63) addresses.items
IsShort other = ⊤

-- the plan that is asked for: the short one, or else the checked one
abbrev pub pace_by : Bool → Pace
pace_by short_plan = if short_plan then Short else Checked

-- the last replies that are required, by two options, of which the second is the stricter one
abbrev pub required_by : Bool → Bool → Required
required_by done now = if now then DoneNow else if done then Done else Nothing

-- what a scan reads, by the option that asks for the GTIN
abbrev pub sought_by : Bool → Sought
sought_by with_gtin = if with_gtin then Identity else Last

-- the task of `address`, by the flags that ask to give all anew, to list, and to count: none if several are given
abbrev pub asked_of : Bool → Bool → Bool → Option Asked
asked_of false false false = Some (asks.Run tasks.Give)
asked_of true false false = Some (asks.Run tasks.All)
asked_of false true false = Some (asks.Run tasks.List)
asked_of false false true = Some asks.Count
asked_of true true count = None
asked_of true false true = None
asked_of false true true = None

-- it gives no short address, and tells of all units
abbrev pub gives_none : Asked → Bool
gives_none (asks.Run tasks.List) = true
gives_none (asks.Run task) = false
gives_none asks.Count = true

-- the first of them that is among those before it, or was named before them
abbrev pub twice_behind : List ℕ → List ℕ → Option ℕ
twice_behind before [] = None
twice_behind before (unit ∷ units) =
    if list_any (λ other. other == unit) before then Some unit else twice_behind (before ++ unit ∷ []) units

-- the first of the units that was named before
abbrev pub named_twice : List ℕ → Option ℕ
named_twice units = twice_behind [] units
