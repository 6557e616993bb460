-- Lemmas on how a drive with older journals ended.
use Rattle.std.proofs.Common.{◌≡◌, ◌≢◌, ◌≤◌, ◌^◌, ◌-◌, ◌∙◌, Bool, false, ℕ, List, [], ◌∷◌, ◌++◌, Option, ap, inl, inr, length}
use Rattle.std.proofs.Common.{refl, subst, sym}
use Rattle.std.specs.Borrow.{Bor}
use Rattle.dali_journal.specs.declared.record.Record.{Record}
use Rattle.dali_journal.specs.declared.standing.Standing.TheVariants.{Idle}
use Rattle.dali_journal.specs.JournalState.{JournalState}
use Rattle.dali_journal.specs.Sentence.{next_standing, standing_of}
use Rattle.dali_bank.specs.Order.{Contents}
use Rattle.dali_drive.specs.declared.following.Given.{Given}
use Rattle.dali_drive.specs.declared.listed.ListedOrders.{ListedOrders}
use Rattle.dali_drive.specs.declared.stored.StoredFault.{StoredFault}
use Rattle.dali_drive.specs.declared.stored.StoredFault.TheVariants.{Open, Drive}
use Rattle.dali_drive.specs.Behind.{EndsBehind}
use Rattle.dali_drive.specs.Desks.{Look}
use Rattle.dali_drive.specs.Listed.{GaveListed, IsEmpty, state_of}
use Rattle.dali_drive.specs.Stored.{StoredShows}
use Rattle.dali_drive.proofs.ListedDriveLemmas.{behind_driven}
use Rattle.dali_job.specs.declared.link_command.Required.{Required}
use Rattle.dali_report.specs.declared.outcome.Outcome.{Outcome}
use Rattle.dali_report.specs.declared.report.Report.{Report}
use Rattle.dali_report.specs.Told.{IsTold, IsToldEnd}
use Rattle.dali_input.specs.declared.command_fault.Status.{Status}
use Rattle.dali_link_commands.specs.Bare.{TellsEnded}
use Rattle.dali_link_commands.specs.BehindAnswers.{BreaksBehind, IsAnswerBehind, IsBreakTold, IsSourceBehind}
use Rattle.dali_link_commands.specs.Benches.{with_lines}
use Rattle.dali_link_commands.specs.Older.{held_under}
use Rattle.dali_input.specs.JournalInput.{journal_limit, order_limit}
use Rattle.dali_write.specs.declared.pace.Pace.{Pace}

-- the cause that broke a drive off was reported, and only its lines were written for that
pub break_told : {G N : Type 0} (gave : G → G → List Given → Type 0) (contents : N → Option (List ℕ))
    (older : Option JournalState) (pace : Pace) (before after : Report N) (orders left : G) (first last : Look)
    (replies : Option (List ℕ)) (lost : Bool) (status : Status) (fault : StoredFault)
    → EndsBehind gave (IsTold contents) (IsToldEnd contents) older order_limit journal_limit pace orders fault first
    before left (with_lines last replies lost) after
    → StoredShows fault (with_lines last replies lost).failed → IsBreakTold fault status replies last.streams.out
    → BreaksBehind gave contents older pace before after orders left first status last
break_told gave contents older pace before after orders left first last replies lost status (Open why) ends shows
    told = inl (search)
break_told gave contents older pace before after orders left first last replies lost status (Drive why) ends shows
    told = inr (search)

-- all that a list gave was followed, or not: so its orders were driven, or not
pub list_answered : {N : Type 0} (older : Option JournalState) (contents : N → Option (List ℕ)) (moment : ℕ)
    (pace : Pace) (required : Required) (before after : Report N) (orders : List Contents) (listed left : ListedOrders)
    (first : Look) (status : Status) (last : Look)
    → length orders ≤ 2 ^ 64 - 1 → state_of listed ≡ record { rest = orders; moment = moment }
    → IsSourceBehind GaveListed IsEmpty (λ _. false) (λ _. false) contents older pace required before after listed left
    first status last
    → IsAnswerBehind older contents moment pace required before after orders first status last
list_answered older contents moment pace required before after orders listed left first status last few is (inl s) =
    let driven = behind_driven (IsTold contents) (IsToldEnd contents) older order_limit journal_limit pace orders moment
    listed is _ _ _ _ _ few s.follows.writer s.follows.followed in
    inl (record {
      writer = s.follows.writer;
      replies = s.replies;
      lost = s.lost;
      driven = driven;
      unfailed = s.follows.unfailed;
      settled = s.follows.settled;
      told =
          subst (λ (o : Outcome). TellsEnded required o status s.replies last.streams.out)
          (sym s.follows.followed.observed.told_all.outcome_is ∙ driven.observed.told_all.outcome_is) s.told;
    })
list_answered older contents moment pace required before after orders listed left first status last few is
    (inr breaks) = inr (listed, left, is, breaks)

-- records after others that are at rest have the standing that they have by themselves
pub standing_behind : (own older : List Record) → standing_of older ≡ Idle
    → standing_of (own ++ older) ≡ standing_of own
standing_behind [] older rests = rests
standing_behind (newest ∷ own) older rests = ap (λ st. next_standing st newest) (standing_behind own older rests)

-- something is known of some files if some are named
pub some_held : (has : List ℕ → Option (List ℕ)) (names : List (Bor (List ℕ))) → names ≢ []
    → held_under has names ≢ []
some_held has [] some none = some refl
some_held has (name ∷ names) some none = cc
