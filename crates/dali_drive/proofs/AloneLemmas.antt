-- Orders that are followed with no older journal are followed from the store's own.
use Rattle.std.proofs.Common.{◌≡◌, sym, subst, ℕ, List, Some, None, reverse, inl, inr}
use Rattle.std.specs.Prelude.{⊤}
use Rattle.dali_journal.specs.declared.version.Version.TheVariants.{Two}
use Rattle.dali_journal.specs.JournalState.{JournalState}
use Rattle.dali_journal.specs.Spelling.{journal_spelling}
use Rattle.dali_store.specs.Opened.{IsOpened}
use Rattle.dali_store.specs.Stores.{Becomes}
use Rattle.dali_engine.specs.WriterState.{WriterState, start_by}
use Rattle.dali_trace.specs.declared.fault.DriveFault.{DriveFault}
use Rattle.dali_drive.specs.declared.following.Given.{Given}
use Rattle.dali_drive.specs.Behind.{IsBegunBehind}
use Rattle.dali_drive.specs.Followed.{IsBrokenFollow, IsFollowed, muted, submitted}
use Rattle.dali_drive.specs.Kills.{StoodOnce}
use Rattle.dali_drive.specs.Stored.{IsBegun, IsPartBehind}
use Rattle.dali_drive.specs.Transcript.{Streams}
use Rattle.dali_drive.proofs.FollowLawLemmas.{Fell, as_drive, begun_so, fell}
use Rattle.dali_drive.proofs.KillLemmas.{stood_before, stood_in}
use Rattle.dali_drive.proofs.SittingLemmas.{from}
use Rattle.dali_write.specs.declared.pace.Pace.{Pace}

-- the journal of both is the store's own
abbrev pub alone : {limit most : ℕ} {first : Streams} → IsBegunBehind None limit most first → IsBegun limit most first
alone {limit} {most} {first} b = record {
  journal = b.journal;
  opened = subst (λ (journal : JournalState). IsOpened limit most first.journal journal) (sym b.whole) b.begun.opened;
  middle = b.begun.middle;
  written = subst
      (λ (journal : JournalState). Becomes first.journal b.begun.middle (journal_spelling Two journal.records))
      (sym b.whole) b.begun.written;
}

-- what a stop may leave of what is followed over a store
module _ (pace : Pace) {limit most : ℕ} {found : List ℕ} {first : Streams} (is : first.journal ≡ Some found)
    (b : IsBegun limit most first) (given : List Given) (seen left : List ℕ) (last : Streams)
    (held : last.journal ≡ Some seen) (part : IsPartBehind limit (Some found) (Some seen) left) where
  pub followed_stood : (writer : WriterState) → IsFollowed (start_by pace b.journal) given (from b) writer last
      → StoodOnce limit most found left (muted first) last
  followed_stood writer follow =
      stood_in pace {first = muted first} last is held (begun_so pace is b) (reverse (submitted given)) part writer
      (as_drive (start_by pace b.journal) given (from b) writer last follow)

  pub followed_broke_stood : (fault : DriveFault)
      → IsBrokenFollow (start_by pace b.journal) given fault (from b) last
      → StoodOnce limit most found left (muted first) last
  followed_broke_stood fault follow = by (fell (λ then. ⊤) follow tt) where
    by : Fell (start_by pace b.journal) (reverse (submitted given)) fault (muted (from b)) last (λ then. ⊤)
        → StoodOnce limit most found left (muted first) last
    by (inl (d, so)) =
        stood_before pace {first = muted first} last is held (begun_so pace is b) (reverse (submitted given)) part
        fault d
    by (inr (writer, then, d, keeps, so, still)) =
        stood_in pace {first = muted first} last is held (begun_so pace is b) (reverse (submitted given)) part writer
        still
