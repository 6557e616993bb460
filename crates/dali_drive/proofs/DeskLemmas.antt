-- A desk along a drive.
use Rattle.std.proofs.Common.{◌≡◌, ◌∙◌, ap, ℕ, List, [], ◌++◌, Option, Some, None, Result, Ok, Err, OnOk}
use Rattle.std.proofs.KnownBytes.{Appends-nil, Appends-trans, Appends-kept}
use Rattle.std.specs.Io.KnownBytes.{Appends, Keeps}
use Rattle.dali_store.specs.Stores.{IsBetween, Elapses}
use Rattle.dali_store.proofs.Moments.{goes_on, so_too}
use Rattle.dali_trace.specs.declared.fault.DriveFault.{DriveFault}
use Rattle.dali_drive.specs.Desks.{Look, IsDurableAt, EndsAs, LeavesPut, Grows, with_journal}
use Rattle.dali_drive.specs.Transcript.{Streams}
use Rattle.dali_drive.proofs.StoreLemmas.{untouched, then_on}

-- what was put stays where the bytes do
between_kept : (old mid new : Option (List ℕ)) (bytes c : List ℕ) → Appends old mid bytes → Keeps mid new
    → IsBetween old mid c → IsBetween old new c
between_kept None mid new bytes c grown kept is = tt
between_kept (Some a) None new bytes c grown kept is = absurd grown
between_kept (Some a) (Some b) None bytes c grown kept is = absurd kept
between_kept (Some a) (Some b) (Some d) bytes c grown kept (more, rest, front, whole) =
    (more, rest, front, kept ∙ whole)

-- and no more is left than was
pub left_settled : (old mid new : Look) (bytes : List ℕ) → Appends old.streams.journal mid.streams.journal bytes
    → LeavesPut old mid → Keeps mid.streams.journal new.streams.journal
    → ((c : List ℕ) → new.may_leave c → mid.may_leave c) → LeavesPut old new
left_settled old mid new bytes grown put kept fewer c left =
    between_kept old.streams.journal mid.streams.journal new.streams.journal bytes c grown kept (put c (fewer c left))

module _ {D : Type 0} (look : D → Look) (moment : D → ℕ) (left_since : D → ℕ → List ℕ → Type 0)
    (same : D → D → Type 0) where
  -- nothing was done
  pub still : (desk : D) → IsDurableAt (look desk)
      → ((c : List ℕ) → left_since desk (moment desk) c → (look desk).may_leave c)
      → same desk desk → Grows look moment left_since same desk desk
  still desk settled only stays = record {
    more = [];
    grown = Appends-nil (look desk).streams.journal;
    leaves = untouched (λ (d : D). (look d).streams.journal) (λ (d : D). (look d).may_leave) moment left_since desk
        settled only;
    stays = stays;
  }

  -- what was put is settled
  pub grows_settled : ((a b c : D) → same a b → same b c → same a c) → (old mid new : D)
      → Grows look moment left_since same old mid → LeavesPut (look old) (look mid)
      → Keeps (look mid).streams.journal (look new).streams.journal
      → ((c : List ℕ) → (look new).may_leave c → (look mid).may_leave c)
      → Elapses (moment mid) (moment new) (left_since mid) (left_since new) (look new).may_leave
      → same mid new → Grows look moment left_since same old new
  grows_settled on old mid new first put kept fewer time stays = record {
    more = first.more;
    grown = Appends-kept _ _ _ _ first.grown kept;
    leaves =
        goes_on moment left_since old mid new _ (look new).may_leave
        (so_too moment left_since old mid _ _ first.leaves
        (λ c is. between_kept _ _ _ first.more c first.grown kept is)) time
        (left_settled (look old) (look mid) (look new) first.more first.grown put kept fewer);
    stays = on old mid new first.stays stays;
  }

  pub grows_on : ((a b c : D) → same a b → same b c → same a c) → (old mid new : D)
      → Grows look moment left_since same old mid → Grows look moment left_since same mid new
      → Grows look moment left_since same old new
  grows_on on old mid new first second = record {
    more = first.more ++ second.more;
    grown =
        Appends-trans (look old).streams.journal (look mid).streams.journal (look new).streams.journal first.more
        second.more first.grown second.grown;
    leaves =
        then_on (λ (d : D). (look d).streams.journal) (λ (d : D). (look d).may_leave) moment left_since old mid new
        (first.more, first.grown) (second.more, second.grown) first.leaves second.leaves;
    stays = on old mid new first.stays second.stays;
  }

-- only the journal's bytes were written
pub only_journal : (old mid new : Streams) → mid ≡ with_journal old mid → new ≡ with_journal mid new
    → new ≡ with_journal old new
only_journal old mid new first second = second ∙ ap (λ (s : Streams). with_journal s new) first

-- a desk whose work completed leaves all
pub ends_settled : {A : Type 0} (result : Result A DriveFault) (look : Look) → EndsAs result look
    → OnOk result (IsDurableAt look)
ends_settled (Ok value) look ends = ends.1
ends_settled (Err fault) look ends = tt
