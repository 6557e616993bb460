-- Why a run or a drive didn't come to its end, and how a fault is reported.
use Rattle.std.specs.Prelude.{ℕ, List, codes}
use Rattle.dali_trace.specs.declared.fault.RunFault.{RunFault}
use Rattle.dali_trace.specs.declared.fault.RunFault.TheVariants as runs
use Rattle.dali_trace.specs.declared.fault.DriveFault.{DriveFault}
use Rattle.dali_trace.specs.declared.fault.DriveFault.TheVariants.{Journal, Link, Line, End, NoMemory, TooLong, Out}

abbrev pub run_number : RunFault → ℕ
run_number runs.Limit = 1
run_number runs.NoMemory = 2

abbrev pub run_name : RunFault → List ℕ
run_name runs.Limit = codes "Limit"
run_name runs.NoMemory = codes "NoMemory"

abbrev pub drive_number : DriveFault → ℕ
drive_number Journal = 1
drive_number Link = 2
drive_number (Line fault) = 3
drive_number End = 4
drive_number NoMemory = 5
drive_number TooLong = 6
drive_number Out = 7

abbrev pub drive_name : DriveFault → List ℕ
drive_name Journal = codes "Journal"
drive_name Link = codes "Link"
drive_name (Line fault) = codes "Line"
drive_name End = codes "End"
drive_name NoMemory = codes "NoMemory"
drive_name TooLong = codes "TooLong"
drive_name Out = codes "Out"
