-- The answers of `address`, and what it writes.
use Rattle.std.specs.Prelude.{◌≡◌, ◌⊎◌, ◌+◌, ◌&&◌, not, ℕ, Bool, true, false, List, [], ◌∷◌, Option, Some, None}
use Rattle.std.specs.Prelude.{nat_eq, if◌then◌else◌}
use Rattle.std.specs.Borrow.{Bor}
use Rattle.dali_address.specs.declared.census.CensusEnd.{CensusEnd}
use Rattle.dali_address.specs.declared.census.CensusEnd.TheVariants.{Apart, Shared}
use Rattle.dali_address.specs.declared.task.Summary.{Summary}
use Rattle.dali_address.specs.declared.task.Task.{Task}
use Rattle.dali_address.specs.declared.task.Task.TheVariants as tasks
use Rattle.dali_link_commands.specs.declared.address.addressing.End.{End}
use Rattle.dali_link_commands.specs.declared.address.addressing.End.TheVariants.{Done, Taken}
use Rattle.dali_link_commands.specs.Addressed.{AddressingBroke, IsAddressed}
use Rattle.dali_link_commands.specs.AddressLines.{count_text, end_text, open_line}
use Rattle.dali_link_commands.specs.Counted.{CountingBroke, IsCounted}
use Rattle.dali_drive.specs.Surveys.{link_of}
use Rattle.dali_drive.specs.Transcript.{Streams}
use Rattle.dali_drive.specs.Desks.{IsUnfailed, Look, ShowsFault}
use Rattle.dali_trace.specs.declared.fault.DriveFault.{DriveFault}
use Rattle.dali_trace.specs.declared.fault.DriveFault.TheVariants.{Out}
use Rattle.dali_drive.specs.Streams.{PutsFirst}
use Rattle.std.specs.Io.KnownBytes.{Appends}
use Rattle.dali_input.specs.declared.command_fault.Fault.{Fault}
use Rattle.dali_input.specs.declared.command_fault.Fault.TheVariants.{Drive}
use Rattle.dali_input.specs.declared.command_fault.Status.{Status}
use Rattle.dali_input.specs.declared.command_fault.Status.TheVariants.{Good, Refused, Unwritten}
use Rattle.dali_job.specs.declared.link_command.AddressCommand.{AddressCommand}
use Rattle.dali_job.specs.declared.link_command.Asked.{Asked}
use Rattle.dali_job.specs.declared.link_command.Asked.TheVariants.{Count, Run}
use Rattle.dali_link_commands.specs.Benches.{IsUndriven, with_lines}
use Rattle.dali_link_commands.specs.BehindAnswers.{IsBehindNamed, MayBeUnusable}
use Rattle.dali_report.specs.declared.progress.Watched.{Watched}
use Rattle.dali_link_commands.specs.ReadAnswers.{IsUntouched, on_link}
use Rattle.dali_link_commands.specs.Told.{IsFaultTold, TellsLine}

-- the kind of progress that is shown: the number of units is known only if short addresses are named and none is taken
-- away before
abbrev pub watched_asked : Asked → ℕ → Watched
watched_asked (Run tasks.List) named = Watched.List
watched_asked (Run tasks.Give) named = Watched.Address named
watched_asked asked named = Watched.Address 0

-- no unit is without a short address, none is shared, and none may be left in the initialisation state
abbrev pub is_well : Summary → Bool
is_well summary = nat_eq summary.missing 0 && nat_eq summary.shared 0 && not summary.open

-- of a run that may end well or not
abbrev pub status_at_end : Bool → End → Status
status_at_end may_be_good (Done summary) = if may_be_good && is_well summary then Good else Refused
status_at_end may_be_good (Taken short) = Refused

-- units may be in the initialisation state if a fault broke a run off and that can be reported: a list brings none in
abbrev pub is_left_open : Task → DriveFault → Bool
is_left_open tasks.List fault = false
is_left_open task Out = false
is_left_open task fault = true

-- how it is reported that a fault broke a run off: if units may be left open, that first
abbrev pub TellsBreak : Bool → DriveFault → Status → Option (List ℕ) → Option (List ℕ) → Type 0
TellsBreak true fault status before after =
    ((status ≡ Unwritten) × PutsFirst before after open_line)
    ⊎ ((lines : Option (List ℕ)) × Appends before lines open_line × IsFaultTold (Drive fault) status lines after)
TellsBreak false fault status before after = IsFaultTold (Drive fault) status before after

-- each unit was counted with a short address of its own
abbrev pub is_apart : CensusEnd → Bool
is_apart (Apart units) = true
is_apart end = false

-- how many are marked
abbrev pub marked_in : List Bool → ℕ
marked_in [] = 0
marked_in (true ∷ more) = marked_in more + 1
marked_in (false ∷ more) = marked_in more

-- how many short addresses a census found shared
abbrev pub shared_in : CensusEnd → ℕ
shared_in (Shared sharing) = marked_in sharing.addresses
shared_in end = 0

-- how a run ended, with what a census before it found, if there was one
abbrev pub end_after : Option CensusEnd → End → End
end_after (Some census) (Done summary) = Done (record summary { shared = shared_in census })
end_after counted end = end

-- a run may end well, but after a census that didn't find the units apart
abbrev pub may_be_good : Option CensusEnd → Bool
may_be_good None = true
may_be_good (Some census) = is_apart census

-- A run that began where these streams were, of a command that began at the first look, after this census or none.
module _ (task : Task) (counted : Option CensusEnd) (begun : Streams)
    (first : Look) (status : Status) (last : Look) where
  -- the run completed, which was reported
  pub record EndsRun : Type 0 where
    pub end : End
    pub lines : Option (List ℕ)
    pub lost : Bool
    pub addressed : IsAddressed task end begun (on_link (with_lines last lines lost))
    pub untouched : IsUntouched first last
    pub unfailed : IsUnfailed (with_lines last lines lost).failed
    pub told : TellsLine (end_text (end_after counted end))
        (status_at_end (may_be_good counted) (end_after counted end)) status lines last.streams.out

  -- the link or the output broke it off, which is reported
  pub record BreaksRun : Type 0 where
    pub fault : DriveFault
    pub lines : Option (List ℕ)
    pub lost : Bool
    pub broke : AddressingBroke task fault begun (on_link (with_lines last lines lost))
    pub untouched : IsUntouched first last
    pub failed : ShowsFault fault (with_lines last lines lost).failed
    pub told : TellsBreak (is_left_open task fault) fault status lines last.streams.out

  abbrev pub IsRunAnswer : Type 0
  IsRunAnswer = EndsRun ⊎ BreaksRun

-- A census, and then a run that ends the initialisation state, in which it leaves the units.

-- this many silent asks are taken to mean that no unit is left
abbrev pub census_care : ℕ
census_care = 4

module _ (first : Look) (status : Status) (last : Look) where
  -- the census completed, which was reported, and then such a run was made
  pub record EndsCount : Type 0 where
    pub end : CensusEnd
    pub middle : Streams
    pub counted : IsCounted census_care end (link_of first.streams) (link_of middle)
    pub told : Appends first.streams.out middle.out (count_text end)
    pub closed : IsRunAnswer tasks.Close (Some end) middle first status last

  -- the census completed, which couldn't be reported
  pub record CutsCount : Type 0 where
    pub end : CensusEnd
    pub counted : IsCounted census_care end (link_of first.streams) (link_of last.streams)
    pub told : PutsFirst first.streams.out last.streams.out (count_text end)
    pub untouched : IsUntouched first last
    pub unwritten : status ≡ Unwritten

  -- the link broke the census off, which is reported
  pub record BreaksCount : Type 0 where
    pub fault : DriveFault
    pub broke : CountingBroke fault (link_of first.streams) (link_of last.streams)
    pub untouched : IsUntouched first last
    pub failed : ShowsFault fault (with_lines last first.streams.out false).failed
    pub told : TellsBreak (is_left_open tasks.Close fault) fault status first.streams.out last.streams.out

  abbrev pub IsCountAnswer : Type 0
  IsCountAnswer = EndsCount ⊎ CutsCount ⊎ BreaksCount

abbrev pub IsAskedAnswer : Asked → Look → Status → Look → Type 0
IsAskedAnswer (Run task) first status last = IsRunAnswer task None (on_link first) first status last
IsAskedAnswer Count first status last = IsCountAnswer first status last

-- what is known of the journal, if one is named
abbrev pub held_named : (List ℕ → Option (List ℕ)) → Option (Bor (List ℕ)) → List (Option (List ℕ))
held_named has None = []
held_named has (Some name) = has name.now ∷ []

-- the journal can't be used, or isn't at rest, which is reported, and nothing else was done
abbrev pub EndsUnrun : List (Option (List ℕ)) → Look → Status → Look → Type 0
EndsUnrun knowns first status last = (fault : Fault) × MayBeUnusable knowns fault × IsUndriven first last
    × IsFaultTold fault status first.streams.out last.streams.out

-- the journal, if one is named, is at rest, and a run was made; or it is of no use
abbrev pub IsAddressAnswer : (List ℕ → Option (List ℕ)) → AddressCommand → Look → Status → Look → Type 0
IsAddressAnswer has command first status last =
    IsBehindNamed (held_named has command.journal) (λ rests. IsAskedAnswer command.asked first status last)
    (EndsUnrun (held_named has command.journal) first status last)
