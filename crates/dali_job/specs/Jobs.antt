-- The command line, and what it asks for.
use Rattle.std.specs.Prelude.{◌≡◌, ◌≢◌, ◌⊎◌, ◌<◌, ◌≤◌, ◌^◌, ℕ, Bool, List, [], ◌∷◌, Option, Some, None, codes, map, true}
use Rattle.std.specs.Prelude.{false, unwrap_or, ⊤}
use Rattle.std.specs.Bool.{Decides}
use Rattle.std.specs.List.{AllByRecursion, AllZip}
use Rattle.std.specs.Borrow.{Bor}
use Rattle.std.specs.Str.Parse.{IsNumeral, digits_value, without_leading_plus}
use Rattle.clap.specs.Words.{App, Row, Rule, Text, all_of, app_of, first_of, new_app, new_rule, one_of}
use Rattle.clap.specs.Words.{rule_of, subcommand_of, with_rule, with_subcommand}
use Rattle.clap.specs.declared.builder.arg.Arg.{Arg}
use Rattle.clap.specs.declared.builder.command.Command.{Command}
use Rattle.clap.specs.declared.builder.command.Command.TheViews.{out-Command as fields_of}
use Rattle.clap.specs.declared.builder.ArgAction.{ArgAction}
use Rattle.clap.specs.declared.builder.ArgAction.TheVariants.{Append, Set, SetTrue}
use Rattle.clap.specs.declared.builder.ValueParser.TheVariants.{Unsigned}
use Rattle.dali_drive.specs.declared.sought.Sought.{Sought}
use Rattle.dali_write.specs.declared.pace.Pace.{Pace}
use Rattle.dali_job.specs.declared.job.Job.{Job}
use Rattle.dali_job.specs.declared.job.Job.TheVariants.{Check, Run, Frame, Show, Journal, Fields, Link}
use Rattle.dali_job.specs.declared.job.Job.TheVariants as jobs
use Rattle.dali_job.specs.declared.link_command.AddressCommand.{AddressCommand}
use Rattle.dali_job.specs.declared.link_command.Asked.{Asked}
use Rattle.dali_job.specs.declared.link_command.DriveTask.{DriveTask}
use Rattle.dali_job.specs.declared.link_command.LinkCommand.{LinkCommand}
use Rattle.dali_job.specs.declared.link_command.LinkCommand.TheVariants.{Drive, Read, Verify, Scan, Address}
use Rattle.dali_job.specs.declared.link_command.Required.{Required}
use Rattle.dali_job.specs.declared.refusal.Refusal.{Refusal}
use Rattle.dali_job.specs.declared.refusal.Refusal.TheVariants.{OlderAlone, SeveralAsked, UnitsUnasked, NamedTwice}
use Rattle.dali_job.specs.LinkOptions.{IsShort, asked_of, command_name, gives_none, named_twice, pace_by, required_by, sought_by}

-- `clap` sees this command, none of whose arguments is also one of its own commands
abbrev pub IsApp : App → Command → Type 0
IsApp app command = (app_of command ≡ app) × ((fields_of command).has_globals ≡ false)

-- `clap` sees this argument, which is of its command alone
abbrev pub IsRule : Rule → Arg → Type 0
IsRule rule argument = (rule_of argument ≡ rule) × (argument.global ≡ false)

-- an argument that has to be there, and takes one value
abbrev pub value_rule : Text → Rule
value_rule id = record (new_rule id) { required = true; action = Some Set }

-- a flag under its own name
abbrev pub flag_rule : Text → Rule
flag_rule id = record (new_rule id) { long = Some id; action = Some SetTrue }

-- an option under its own name, which takes a number of a `u64`, and has this one if it isn't given
abbrev pub number_rule : Text → Text → Rule
number_rule id missing = record (new_rule id) {
  long = Some id;
  action = Some Set;
  value_names = 1;
  defaults = missing ∷ [];
  parser = Some (Unsigned 0 18446744073709551615);
}

-- an option under its own name, which takes one value, and may be left out
abbrev pub option_rule : Text → Rule
option_rule id = record (new_rule id) { long = Some id; action = Some Set; value_names = 1 }

-- an option under its own name, which takes one value each time that it is given, and may be left out
abbrev pub many_rule : Text → Rule
many_rule id = record (new_rule id) { long = Some id; action = Some Append; value_names = 1 }

-- an argument that takes the short address of a unit
abbrev pub address_rule : Text → ArgAction → Rule
address_rule id action = record (new_rule id) { action = Some action; parser = Some (Unsigned 0 63) }

-- one that has to be there, and one that may be given more than once, or left out
abbrev pub unit_rule : Text → Rule
unit_rule id = record (address_rule id Set) { required = true }

abbrev pub units_rule : Text → Rule
units_rule id = address_rule id Append

-- a command with one argument
abbrev pub command_app : Text → Text → App
command_app name id = with_rule (new_app name) (value_rule id)

-- a program that wants a command
abbrev pub top_app : App
top_app = let app = new_app (codes "dali_bench") in record app { top = record app.top { subcommand_required = true } }

-- the command that checks, with the journal that is asked and the older ones
abbrev pub check_app : App
check_app = let asked = with_rule (command_app (codes "check") (codes "ORDERS")) (option_rule (codes "journal")) in
    with_rule asked (many_rule (codes "older"))

-- the command that runs a scenario, with its flag
abbrev pub run_app : App
run_app = with_rule (command_app (codes "run") (codes "SCENARIO")) (flag_rule (codes "frames"))

-- the command that prints a journal, with its flag
abbrev pub journal_app : App
journal_app = with_rule (command_app (codes "journal") (codes "FILE")) (flag_rule (codes "updates"))

-- the command that drives, with its two files, the moment, which is 0 if it isn't given, its six flags, its report, and
-- the older journals
abbrev pub drive_app : App
drive_app = let files = with_rule (command_app (codes "drive") (codes "ORDERS")) (value_rule (codes "JOURNAL")) in
    let timed = with_rule files (number_rule (codes "moment") (codes "0")) in
    let followed = with_rule timed (flag_rule (codes "follow")) in
    let planned = with_rule followed (flag_rule (codes "short-plan")) in
    let flagged = with_rule planned (flag_rule (codes "require-done")) in
    let strict = with_rule flagged (flag_rule (codes "require-now")) in
    let there = with_rule strict (flag_rule (codes "require-journal")) in
    let watched = with_rule there (flag_rule (codes "progress")) in
    with_rule (with_rule watched (option_rule (codes "report"))) (many_rule (codes "older"))

-- the command that reads, with its unit, its file and its flag
abbrev pub read_app : App
read_app = let unit = with_rule (new_app (codes "read")) (unit_rule (codes "UNIT")) in
    with_rule (with_rule unit (value_rule (codes "HEXFILE"))) (flag_rule (codes "progress"))

-- the command that compares units with orders, with its report and its flag
abbrev pub verify_app : App
verify_app = let reported = with_rule (command_app (codes "verify") (codes "ORDERS")) (option_rule (codes "report")) in
    with_rule reported (flag_rule (codes "progress"))

-- the command that looks which units answer, with their short addresses and its flags
abbrev pub scan_app : App
scan_app = let units = with_rule (new_app (codes "scan")) (units_rule (codes "UNIT")) in
    with_rule (with_rule units (flag_rule (codes "gtin"))) (flag_rule (codes "progress"))

-- the command that gives short addresses, with them, its flags, and the journal that has to be idle
abbrev pub address_app : App
address_app = let units = with_rule (new_app (codes "address")) (units_rule (codes "UNIT")) in
    let listed = with_rule (with_rule units (flag_rule (codes "all"))) (flag_rule (codes "list")) in
    let counted = with_rule listed (flag_rule (codes "count")) in
    with_rule (with_rule counted (option_rule (codes "journal"))) (flag_rule (codes "progress"))

-- the program's commands and their arguments, as `clap` sees them
abbrev pub bench_app : App
bench_app = let checks = with_subcommand top_app check_app.top in
    let runs = with_subcommand checks run_app.top in
    let frames = with_subcommand runs (command_app (codes "frame") (codes "HEX")).top in
    let shows = with_subcommand frames (command_app (codes "show") (codes "HEXFILE")).top in
    let journals = with_subcommand shows journal_app.top in
    let fields = with_subcommand journals (new_app (codes "fields")).top in
    let drives = with_subcommand fields drive_app.top in
    let reads = with_subcommand drives read_app.top in
    let verifies = with_subcommand reads verify_app.top in
    let scans = with_subcommand verifies scan_app.top in
    with_subcommand scans address_app.top

-- a parse entered the command
abbrev pub IsEntered : Option (Text × List Row) → Text → Type 0
IsEntered entered command = (rows : List Row) × (entered ≡ Some (command, rows))

-- a parse entered the command, and its argument has the value
abbrev pub HasValue : Option (Text × List Row) → Text → Text → Text → Type 0
HasValue entered command id value =
    (rows : List Row) × (entered ≡ Some (command, rows)) × (first_of id rows ≡ Some value)

-- a parse entered the command, and its option is left out
abbrev pub IsLeftOut : Option (Text × List Row) → Text → Text → Type 0
IsLeftOut entered command id =
    (rows : List Row) × (entered ≡ Some (command, rows)) × (first_of id rows ≡ None)

-- a parse entered the command, and its option has the value that is given, or is left out if none is
abbrev pub HasOption : Option (Text × List Row) → Text → Text → Option (Bor Text) → Type 0
HasOption entered command id (Some value) = HasValue entered command id value.now
HasOption entered command id None = IsLeftOut entered command id

-- a parse entered the command, and its option was given exactly these values, in their order: none if it is left out
abbrev pub HasValues : Option (Text × List Row) → Text → Text → List Text → Type 0
HasValues entered command id values =
    (rows : List Row) × (entered ≡ Some (command, rows)) × (unwrap_or (all_of id rows) [] ≡ values)

-- a parse entered the command, and its flag is given
abbrev pub HasFlag : Option (Text × List Row) → Text → Text → Type 0
HasFlag entered command id =
    (rows : List Row) × (entered ≡ Some (command, rows)) × (one_of id rows ≡ Some (codes "true"))

-- the text is the number in decimal digits, as a `u64` is read: a plus may come before them
pub record IsNumber (text : Text) (number : ℕ) : Type 0 where
  pub numeral : IsNumeral 10 (without_leading_plus text)
  pub value : digits_value 10 (without_leading_plus text) ≡ number
  pub fits : number < 2 ^ 64

-- a parse entered the command, and its argument has the number
abbrev pub HasNumber : Option (Text × List Row) → Text → Text → ℕ → Type 0
HasNumber entered command id number = (rows : List Row) × (text : Text) × (entered ≡ Some (command, rows))
    × (one_of id rows ≡ Some text) × IsNumber text number

-- a parse entered the command, and its argument has the short address of a unit
abbrev pub HasUnit : Option (Text × List Row) → Text → Text → ℕ → Type 0
HasUnit entered command id unit = HasNumber entered command id unit × (unit ≤ 63)

-- the texts are these short addresses of units, in their order
abbrev pub AreUnits : List Text → List ℕ → Type 0
AreUnits texts units = AllZip IsNumber texts units × AllByRecursion (λ unit. unit ≤ 63) units

-- a parse entered the command, and its argument was given exactly these short addresses of units, in their order
abbrev pub HasUnits : Option (Text × List Row) → Text → Text → List ℕ → Type 0
HasUnits entered command id units =
    (texts : List Text) × HasValues entered command id texts × AreUnits texts units

-- ---- commands over a link

-- the plan of the drive that a parse entered
abbrev pub HasPace : Option (Text × List Row) → Pace → Type 0
HasPace entered pace = (short_plan : Bool)
    × Decides short_plan (HasFlag entered (codes "drive") (codes "short-plan")) × (pace ≡ pace_by short_plan)

-- the last replies that it requires
abbrev pub HasRequired : Option (Text × List Row) → Required → Type 0
HasRequired entered required = (done : Bool) × (now : Bool)
    × Decides done (HasFlag entered (codes "drive") (codes "require-done"))
    × Decides now (HasFlag entered (codes "drive") (codes "require-now")) × (required ≡ required_by done now)

-- what the scan that a parse entered reads
abbrev pub HasSought : Option (Text × List Row) → Sought → Type 0
HasSought entered sought = (with_gtin : Bool)
    × Decides with_gtin (HasFlag entered (codes "scan") (codes "gtin")) × (sought ≡ sought_by with_gtin)

-- the flags of `address` ask for this, or for several things
abbrev pub AsksFor : Option (Text × List Row) → Option Asked → Type 0
AsksFor entered asked = (all : Bool) × (list : Bool) × (count : Bool)
    × Decides all (HasFlag entered (codes "address") (codes "all"))
    × Decides list (HasFlag entered (codes "address") (codes "list"))
    × Decides count (HasFlag entered (codes "address") (codes "count")) × (asked_of all list count ≡ asked)

abbrev pub HasAsked : Option (Text × List Row) → Asked → Type 0
HasAsked entered asked = AsksFor entered (Some asked)

abbrev pub AsksSeveral : Option (Text × List Row) → Type 0
AsksSeveral entered = AsksFor entered None

-- the task is that of the drive that a parse entered
pub record IsDrive (entered : Option (Text × List Row)) (task : DriveTask) : Type 0 where
  pub orders_is : HasValue entered (codes "drive") (codes "ORDERS") task.orders.now
  pub journal_is : HasValue entered (codes "drive") (codes "JOURNAL") task.journal.now
  pub older_are : HasValues entered (codes "drive") (codes "older") (map (λ value. value.now) task.older.items)
  pub moment_is : HasNumber entered (codes "drive") (codes "moment") task.moment
  pub pace_is : HasPace entered task.pace
  pub required_is : HasRequired entered task.required
  pub journal_required : Decides task.require_journal (HasFlag entered (codes "drive") (codes "require-journal"))
  pub follow_is : Decides task.follow (HasFlag entered (codes "drive") (codes "follow"))
  pub report_is : HasOption entered (codes "drive") (codes "report") task.report

-- the command is the `address` that a parse entered: it asks for one thing, and names each unit once, or none if it
-- gives no short address
pub record IsAddress (entered : Option (Text × List Row)) (command : AddressCommand) : Type 0 where
  pub asked_is : HasAsked entered command.asked
  pub units_are : HasUnits entered (codes "address") (codes "UNIT") command.units.items
  pub none_unasked : gives_none command.asked ≡ true → command.units.items ≡ []
  pub each_once : named_twice command.units.items ≡ None
  pub journal_is : HasOption entered (codes "address") (codes "journal") command.journal

-- the command over a link is the one that a parse entered, with its values, flags, numbers and options
abbrev pub IsCommand : Option (Text × List Row) → LinkCommand → Type 0
IsCommand entered (Drive task) = IsDrive entered task
IsCommand entered (Read unit bank) =
    HasUnit entered (codes "read") (codes "UNIT") unit
    × HasValue entered (codes "read") (codes "HEXFILE") bank.now
IsCommand entered (Verify orders report) =
    HasValue entered (codes "verify") (codes "ORDERS") orders.now
    × HasOption entered (codes "verify") (codes "report") report
IsCommand entered (Scan addresses sought) =
    HasUnits entered (codes "scan") (codes "UNIT") addresses.items × (named_twice addresses.items ≡ None)
    × HasSought entered sought
IsCommand entered (Address command) = IsAddress entered command

-- ---- jobs

-- the job is the command that a parse entered, with its values, flags, numbers and options
abbrev pub IsJob : Option (Text × List Row) → Job → Type 0
IsJob entered (Check orders journal older) =
    HasValue entered (codes "check") (codes "ORDERS") orders.now
    × HasOption entered (codes "check") (codes "journal") journal
    × HasValues entered (codes "check") (codes "older") (map (λ value. value.now) older.items)
    × (journal ≡ None → older.items ≡ [])
IsJob entered (Run scenario single_frames) =
    HasValue entered (codes "run") (codes "SCENARIO") scenario.now
    × Decides single_frames (HasFlag entered (codes "run") (codes "frames"))
IsJob entered (Frame digits) = HasValue entered (codes "frame") (codes "HEX") digits.now
IsJob entered (Show dump) = HasValue entered (codes "show") (codes "HEXFILE") dump.now
IsJob entered (Journal records with_updates) =
    HasValue entered (codes "journal") (codes "FILE") records.now
    × Decides with_updates (HasFlag entered (codes "journal") (codes "updates"))
IsJob entered Fields = IsEntered entered (codes "fields")
IsJob entered (Link command progress) =
    IsCommand entered command × Decides progress (HasFlag entered (command_name command) (codes "progress"))
IsJob entered (jobs.Refused refusal) = ⊥

-- if it is one over a link, each short address that it reads or asks is one
abbrev pub IsShortJob : Job → Type 0
IsShortJob (Link command progress) = IsShort command
IsShortJob other = ⊤

-- the command that a parse entered is refused: `check` names older journals and none to ask; `address` asks for several
-- things; it names units where it gives no short address; `scan`, or `address` where it gives some, names a unit twice,
-- first this one
abbrev pub IsRefused : Option (Text × List Row) → Refusal → Type 0
IsRefused entered OlderAlone = (orders : Text) × (older : List Text)
    × HasValue entered (codes "check") (codes "ORDERS") orders × IsLeftOut entered (codes "check") (codes "journal")
    × HasValues entered (codes "check") (codes "older") older × (older ≢ [])
IsRefused entered SeveralAsked =
    (units : List ℕ) × HasUnits entered (codes "address") (codes "UNIT") units × AsksSeveral entered
IsRefused entered UnitsUnasked = (asked : Asked) × (units : List ℕ) × HasAsked entered asked
    × (gives_none asked ≡ true) × HasUnits entered (codes "address") (codes "UNIT") units × (units ≢ [])
IsRefused entered (NamedTwice unit) =
    ((units : List ℕ) × HasUnits entered (codes "scan") (codes "UNIT") units × (named_twice units ≡ Some unit))
    ⊎ ((asked : Asked) × (units : List ℕ) × HasAsked entered asked
    × (gives_none asked ≡ false) × HasUnits entered (codes "address") (codes "UNIT") units
    × (named_twice units ≡ Some unit))

-- the job is the command that a parse entered, or why that is refused
abbrev pub IsNamed : Option (Text × List Row) → Job → Type 0
IsNamed entered (jobs.Refused refusal) = IsRefused entered refusal
IsNamed entered job = IsJob entered job

-- ---- no jobs

-- a parse didn't enter `check`
abbrev pub IsNoCheck : Option (Text × List Row) → Type 0
IsNoCheck entered = (orders : Text) (older : List Text) → HasValue entered (codes "check") (codes "ORDERS") orders
    → ¬ HasValues entered (codes "check") (codes "older") older

-- nor `verify` and `read`
abbrev pub IsNoReading : Option (Text × List Row) → Type 0
IsNoReading entered =
    ((orders : Text) → ¬ HasValue entered (codes "verify") (codes "ORDERS") orders)
    × ((unit : ℕ) (bank : Text) → HasUnit entered (codes "read") (codes "UNIT") unit
    → ¬ HasValue entered (codes "read") (codes "HEXFILE") bank)

abbrev pub IsNoScan : Option (Text × List Row) → Type 0
IsNoScan entered = (units : List ℕ) → ¬ HasUnits entered (codes "scan") (codes "UNIT") units

abbrev pub IsNoAddress : Option (Text × List Row) → Type 0
IsNoAddress entered = (units : List ℕ) → ¬ HasUnits entered (codes "address") (codes "UNIT") units

abbrev pub IsNoDrive : Option (Text × List Row) → Type 0
IsNoDrive entered = (task : DriveTask) → ¬ IsDrive entered task

-- a parse entered no command over a link
abbrev pub IsNoLink : Option (Text × List Row) → Type 0
IsNoLink entered = IsNoReading entered × IsNoScan entered × IsNoAddress entered × IsNoDrive entered

-- no job is that of the command that a parse entered, and it isn't refused
abbrev pub IsNothing : Option (Text × List Row) → Type 0
IsNothing entered = ((job : Job) → ¬ IsJob entered job) × ((refusal : Refusal) → ¬ IsRefused entered refusal)

-- ---- command lines

-- the words name no job, and none that is refused
abbrev pub NamesNothing : List Text → Type 0
NamesNothing words = IsNothing (subcommand_of bench_app words)

-- the job that the words name: their command, or why they are refused
abbrev pub IsJobOf : List Text → Job → Type 0
IsJobOf words job = IsNamed (subcommand_of bench_app words) job
