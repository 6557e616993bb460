-- The answers of `drive` with older journals, and what it writes: of its journal, and of what was followed over its
-- streams.
use Rattle.std.specs.Prelude.{◌≡◌, ◌≢◌, ◌⊎◌, ◌++◌, ℕ, Bool, List, [], ◌∷◌, Option}
use Rattle.dali_bank.specs.Order.{Contents}
use Rattle.dali_journal.specs.JournalState.{JournalState}
use Rattle.dali_input.specs.declared.fault.InputFault.{InputFault}
use Rattle.dali_store.specs.declared.opening.OpenFault.{OpenFault}
use Rattle.dali_trace.specs.declared.fault.DriveFault.{DriveFault}
use Rattle.dali_drive.specs.declared.following.Given.{Given}
use Rattle.dali_drive.specs.declared.listed.ListedOrders.{ListedOrders}
use Rattle.dali_drive.specs.declared.std_streams.StdSource.{StdSource}
use Rattle.dali_drive.specs.declared.stored.StoredFault.{StoredFault}
use Rattle.dali_drive.specs.declared.stored.StoredFault.TheVariants as stored
use Rattle.dali_drive.specs.Behind.{EndsUnopened, IsFollowBehind, IsFollowBehindBreak, IsDriveBehind}
use Rattle.dali_drive.specs.Driven.{at_moment}
use Rattle.dali_drive.specs.Followed.{happenings}
use Rattle.dali_drive.specs.Listed.{GaveListed, state_of}
use Rattle.dali_drive.specs.StdStreams.{source_left, source_failed}
use Rattle.dali_drive.specs.Desks.{Look, IsDurableAt, IsUnfailed, FailsOpen, ShowsFault}
use Rattle.dali_link_commands.specs.declared.stream.order_lines.OrderLines.{OrderLines}
use Rattle.dali_link_commands.specs.LinesGave as lines
use Rattle.dali_report.specs.declared.report.Report.{Report}
use Rattle.dali_report.specs.Outcomes.{outcome_of}
use Rattle.dali_report.specs.Told.{IsTold, IsToldEnd}
use Rattle.dali_engine.specs.WriterState.{WriterState, start_by}
use Rattle.dali_input.specs.declared.command_fault.Fault.{Fault}
use Rattle.dali_input.specs.declared.command_fault.Fault.TheVariants.{Drive}
use Rattle.dali_input.specs.declared.command_fault.Status.{Status}
use Rattle.dali_link_commands.specs.DriveAnswers.{fault_unopened}
use Rattle.dali_link_commands.specs.Bare.{TellsEnded}
use Rattle.dali_job.specs.declared.link_command.Required.{Required}
use Rattle.dali_link_commands.specs.FollowAnswers.{AreUnread, TellsFollowed}
use Rattle.dali_input.specs.JournalInput.{journal_limit, order_limit}
use Rattle.dali_link_commands.specs.Older.{AreJoined, IsUnusable}
use Rattle.dali_link_commands.specs.Benches.{IsUndriven, with_lines}
use Rattle.dali_link_commands.specs.OrdersAnswers.{EndsUndriven, IsUnopened, IsUnread}
use Rattle.dali_link_commands.specs.Told.{IsFaultTold}
use Rattle.dali_write.specs.declared.pace.Pace.{Pace}

-- how it is reported, after what the lines held, that not all was followed
abbrev pub IsBreakTold : StoredFault → Status → Option (List ℕ) → Option (List ℕ) → Type 0
IsBreakTold (stored.Open fault) status before after = IsFaultTold (fault_unopened fault) status before after
IsBreakTold (stored.Drive fault) status before after = IsFaultTold (Drive fault) status before after

module _ {G N : Type 0} (gave : G → G → List Given → Type 0) (over : G → Type 0) (contents : N → Option (List ℕ))
    (older : Option JournalState) (pace : Pace) (before after : Report N) (orders left : G) (first last : Look) where
  -- exactly what was given was followed, up to where no more came, nothing more is to be done, and the report has it
  -- all; no stream has failed, and a stop leaves what the journal shows
  pub record FollowsBehind : Type 0 where
    pub writer : WriterState
    pub followed : IsFollowBehind gave over (IsTold contents) older order_limit journal_limit pace orders
        first.streams before writer left last.streams after
    pub unfailed : IsUnfailed last.failed
    pub settled : IsDurableAt last

module _ {G N : Type 0} (gave : G → G → List Given → Type 0) (contents : N → Option (List ℕ))
    (older : Option JournalState) (pace : Pace) (before after : Report N) (orders left : G) (first : Look)
    (status : Status) (last : Look) where
  -- The lines of a fault follow what the output held then, 'replies'. It hadn't failed, unless that was the fault,
  -- 'lost'.

  -- the journal wasn't opened, since its store failed or its bytes are none, or it can't be joined to the older one,
  -- which was reported; nothing was taken of the orders
  pub record UnopenedBehind : Type 0 where
    pub fault : OpenFault
    pub replies : Option (List ℕ)
    pub lost : Bool
    pub unopened : EndsUnopened older order_limit journal_limit fault first (with_lines last replies lost)
    pub failed : FailsOpen fault (with_lines last replies lost).failed
    pub told : IsFaultTold (fault_unopened fault) status replies last.streams.out
    pub unread : left ≡ orders
    pub unreported : after ≡ before

  -- it broke off after what had been given so far, since a stream failed or gave no answer, which was reported; the
  -- report has what there was, and a stop leaves all that was kept before the step that was broken off
  pub record BrokenBehind : Type 0 where
    pub fault : DriveFault
    pub replies : Option (List ℕ)
    pub lost : Bool
    pub broken : IsFollowBehindBreak gave (IsTold contents) (IsToldEnd contents) older order_limit journal_limit
        pace orders fault first.streams before left (with_lines last replies lost).streams after last.may_leave
    pub failed : ShowsFault fault (with_lines last replies lost).failed
    pub told : IsFaultTold (Drive fault) status replies last.streams.out

  -- why not all was followed
  abbrev pub BreaksBehind : Type 0
  BreaksBehind = UnopenedBehind ⊎ BrokenBehind

module _ {G N : Type 0} (gave : G → G → List Given → Type 0) (over : G → Type 0) (failed refused : G → Bool)
    (contents : N → Option (List ℕ)) (older : Option JournalState) (pace : Pace) (required : Required)
    (before after : Report N) (orders left : G) (first : Look) (status : Status) (last : Look) where
  -- all that a source gave was followed, and that it failed, or had an item refused, counts at the end
  pub record EndsSourceBehind : Type 0 where
    pub replies : Option (List ℕ)
    pub lost : Bool
    pub follows : FollowsBehind gave over contents older pace before after orders left first
        (with_lines last replies lost)
    pub told : TellsFollowed (failed left) (refused left) required
        (outcome_of (start_by pace follows.followed.behind.journal) (happenings follows.followed.observed.follow.steps))
        status replies last.streams.out

  abbrev pub IsSourceBehind : Type 0
  IsSourceBehind = EndsSourceBehind ⊎ BreaksBehind gave contents older pace before after orders left first status last

module _ {N : Type 0} (older : Option JournalState) (contents : N → Option (List ℕ)) (moment : ℕ)
    (pace : Pace) (required : Required) (before after : Report N) (orders : List Contents) (first : Look)
    (status : Status) (last : Look) where
  -- all the orders of a list were asked at this moment, nothing more is to be done, and the report has all of it; the
  -- lines written then follow what the output held, which hadn't failed
  pub record EndsListBehind : Type 0 where
    pub writer : WriterState
    pub replies : Option (List ℕ)
    pub lost : Bool
    pub driven : IsDriveBehind (IsTold contents) older order_limit journal_limit pace (at_moment moment orders)
        first.streams before writer (with_lines last replies lost).streams after
    pub unfailed : IsUnfailed (with_lines last replies lost).failed
    pub settled : IsDurableAt last
    pub told : TellsEnded required (outcome_of (start_by pace driven.behind.journal) driven.observed.drive.past)
        status replies last.streams.out

  -- the answer to a list of orders, with an older journal if there is one
  abbrev pub IsAnswerBehind : Type 0
  IsAnswerBehind =
      EndsListBehind
      ⊎ ((listed : ListedOrders) × (left : ListedOrders) × (state_of listed ≡ record { rest = orders; moment = moment })
      × BreaksBehind GaveListed contents older pace before after listed left first status last)

-- One of the known ones can't be used after those before it, which are one. Whether a file failed isn't known.
pub record IsOneUnusable (knowns : List (Option (List ℕ))) (fault : Fault) : Type 0 where
  pub earlier : List (Option (List ℕ))
  pub known : Option (List ℕ)
  pub later : List (Option (List ℕ))
  pub are : knowns ≡ earlier ++ (known ∷ later)
  pub older : Option JournalState
  pub joined : AreJoined earlier older
  pub failed : Bool
  pub failed_now : Bool
  pub unusable : IsUnusable older known failed failed_now fault

-- why the files of which this is known aren't older journals of one drive: one isn't opened, or can't be used
abbrev pub MayBeUnusable : List (Option (List ℕ)) → Fault → Type 0
MayBeUnusable knowns fault = IsUnopened fault ⊎ IsOneUnusable knowns fault

-- the answer if older journals are read, of whose files this is known, in the order of their names: after the one that
-- they make, or that one can't be used; if there are none, without an older one
abbrev pub IsBehindNamed : List (Option (List ℕ)) → (Option JournalState → Type 0) → Type 0 → Type 0
IsBehindNamed knowns answers refused =
    ((older : Option JournalState) × AreJoined knowns older × answers older) ⊎ ((knowns ≢ []) × refused)

-- an older journal can't be used, which is reported, and nothing else was done
abbrev pub EndsUnread : {N : Type 0} → List (Option (List ℕ)) → Report N → Report N → Look → Status → Look → Type 0
EndsUnread knowns before after first status last =
    (fault : Fault) × MayBeUnusable knowns fault × IsUndriven first last
    × IsFaultTold fault status first.streams.out last.streams.out × (after ≡ before)

-- The same of a file of lines, of which nothing is known: of what it gave, or of one that isn't opened.
abbrev pub IsFileFollow : {F N : Type 0} → Option JournalState → (F → Option (List ℕ)) → (N → Option (List ℕ)) → ℕ
    → Pace → Required → Report N → Report N → Look → Status → Look → Type 0
IsFileFollow {F} older remaining contents moment pace required before after first status last =
    ((orders : OrderLines (StdSource F)) × (left : OrderLines (StdSource F)) × AreUnread source_failed moment orders
    × IsSourceBehind (lines.Gave (source_left remaining) source_failed) lines.IsOver
    (λ now. source_failed (lines.state_of now).source) (λ now. (lines.state_of now).has_refused) contents older pace
    required before after orders left first status last)
    ⊎ ((fault : InputFault) × IsUnread fault × EndsUndriven fault first status last × (after ≡ before))
