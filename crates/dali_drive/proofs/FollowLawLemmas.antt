-- Orders that are followed are driven.
use Rattle.std.proofs.Common.{◌≡◌, ◌∙◌, ◌⊎◌, refl, sym, ap, append-nil, inl, inr, ℕ, false, List, [], ◌∷◌, ◌++◌}
use Rattle.std.proofs.Common.{reverse, Option, Some, arith}
use Rattle.std.proofs.lemmas.List.{reverse-append, reverse-reverse}
use Rattle.std.specs.Io.KnownBytes.{Keeps, Appends, Consumes}
use Rattle.dali_bank.specs.Order.{Contents}
use Rattle.dali_trace.specs.declared.happening.Happening.{Happening}
use Rattle.dali_trace.specs.declared.happening.Happening.TheVariants.{Asked}
use Rattle.dali_trace.specs.Trace.{Start, is_busy}
use Rattle.dali_engine.specs.WriterState.{WriterState, start_by}
use Rattle.dali_store.specs.Stores.{IsBetween}
use Rattle.dali_trace.specs.declared.fault.DriveFault.{DriveFault}
use Rattle.dali_trace.specs.declared.fault.DriveFault.TheVariants.{Out}
use Rattle.dali_drive.specs.declared.following.Given.{Given}
use Rattle.dali_drive.specs.Transcript.{Streams, recorded, sent_lines}
use Rattle.dali_drive.specs.Driven.{orders_asked, IsDrive, IsBrokenDrive}
use Rattle.dali_drive.specs.WorkedOn.{IsDrivenAt}
use Rattle.dali_drive.specs.Stored.{IsBegun}
use Rattle.dali_drive.specs.Sittings.{CameToItsEnd}
use Rattle.dali_drive.specs.Repeats.{HasSat}
use Rattle.dali_drive.specs.Followed.{Step, happenings, given_in, submitted, as_given, muted, IsFollowed, BrokenOrder}
use Rattle.dali_drive.specs.Followed.{BrokenLine, BrokenStep, IsBrokenFollow}
use Rattle.dali_drive.specs.Followed.Step.{Happened}
use Rattle.dali_drive.proofs.SittingLemmas.{from, made, drive_holds, between_still, kept_known, came_to_its_end}
use Rattle.dali_drive.proofs.SittingLemmas.{some_broken}
use Rattle.dali_write.specs.declared.pace.Pace.{Pace}

-- the orders that were asked are those that were given
pub asked_given : (steps : List Step) → orders_asked (happenings steps) ≡ submitted (given_in steps)
asked_given [] = refl
asked_given (Happened (Asked order moment) ∷ steps) = ap (◌∷◌ (order, moment)) (asked_given steps)
asked_given (_ ∷ steps) = asked_given steps

pub submitted_both : (orders : List (Contents × ℕ)) (given : List Given)
    → submitted (as_given orders ++ given) ≡ orders ++ submitted given
submitted_both [] given = refl
submitted_both (order ∷ orders) given = ap (◌∷◌ order) (submitted_both orders given)

-- the orders that were asked, and then those that were not
pub given_then : (steps : List Step) (unasked : List (Contents × ℕ)) (given : List Given)
    → given ≡ as_given (reverse unasked) ++ given_in steps
    → reverse (orders_asked (happenings steps)) ++ unasked ≡ reverse (submitted given)
given_then steps unasked given is = rw (is, submitted_both, reverse-append, reverse-reverse, asked_given) refl

abbrev drive_at : (start : Start) (steps : List Step) (given : List Given) (first : Streams) (writer : WriterState)
    (last : Streams) → IsDrivenAt start (happenings steps) writer (muted first) last
    → submitted (given_in steps) ≡ submitted given → is_busy start (happenings steps) ≡ false
    → IsDrive start (reverse (submitted given)) (muted first) writer last
drive_at start steps given first writer last d same quiet = record {
  past = happenings steps;
  driven = d.driven;
  asked = ap reverse (asked_given steps ∙ same);
  quiet = quiet;
  described = d.described;
  follows = d.follows;
}

abbrev pub as_drive : (start : Start) (given : List Given) (first : Streams) (writer : WriterState) (last : Streams)
    → IsFollowed start given first writer last → IsDrive start (reverse (submitted given)) (muted first) writer last
as_drive start given first writer last f =
    drive_at start f.steps given first writer last f.at.driven_at (ap submitted f.at.given_are) f.quiet

-- so is one that completed, if nothing is known of the replies, whatever is written there after it
drive_still : {start : Start} {orders : List (Contents × ℕ)} {then last : Streams} {writer : WriterState}
    (first : Streams) → IsDrive start orders (muted first) writer then → Keeps then.journal last.journal
    → Keeps then.link last.link → Keeps then.answers last.answers → IsDrive start orders (muted first) writer last
drive_still {start} {orders} {then} {last} {writer} first d journal link answers = record {
  past = d.past;
  driven = record {
    legal = d.driven.legal;
    planned = d.driven.planned;
    in_turn = d.driven.in_turn;
    in_range = d.driven.in_range;
    text = record {
      heard = d.driven.text.heard;
      lines = d.driven.text.lines;
      journal = appends_still first.journal then.journal last.journal (recorded d.past) d.driven.text.journal journal;
      link = appends_still first.link then.link last.link (sent_lines d.past) d.driven.text.link link;
      answers =
          consumes_still first.answers then.answers last.answers d.driven.text.heard d.driven.text.answers answers;
      out = tt;
    };
  };
  asked = d.asked;
  quiet = d.quiet;
  described = d.described;
  follows = d.follows;
} where
  appends_still : (a b c : Option (List ℕ)) (bytes : List ℕ) → Appends a b bytes → Keeps b c → Appends a c bytes
  appends_still a b c bytes added same = grind arith

  consumes_still : (a b c : Option (List ℕ)) (bytes : List ℕ) → Consumes a b bytes → Keeps b c → Consumes a c bytes
  consumes_still a b c bytes taken same = grind arith

-- a drive that broke off, or one that ended and after which something broke off; the journal was so before the step
-- that was broken off
abbrev pub Fell : Start → List (Contents × ℕ) → DriveFault → Streams → Streams → (Option (List ℕ) → Type 0) → Type 0
Fell start orders fault first last so =
    ((d : IsBrokenDrive start orders fault first last) × so d.middle.journal)
    ⊎ ((writer : WriterState) × (then : Streams) × IsDrive start orders first writer then
    × Keeps then.journal last.journal × so then.journal × IsDrive start orders first writer last)

pub fell : {start : Start} {given : List Given} {fault : DriveFault} {first last : Streams}
    (so : Option (List ℕ) → Type 0) (f : IsBrokenFollow start given fault first last) → so f.then.journal
    → Fell start (reverse (submitted given)) fault (muted first) last so
fell {start} {given} {fault} {first} {last} so f is_so = by fault f.broken where
  of_order : (fault : DriveFault) → BrokenOrder start f.steps given fault first f.then last
      → Fell start (reverse (submitted given)) fault (muted first) last so
  of_order fault b = inl (
    record {
      past = happenings f.steps;
      rest = b.unasked ++ [];
      middle = f.then;
      driven = b.driven;
      asked = rw append-nil (given_then f.steps b.unasked given b.given_are);
      broken = b.broken [];
    },
    is_so,
  )

  of_line : (fault : DriveFault) → BrokenLine start f.steps given first f.then last
      → Fell start (reverse (submitted given)) fault (muted first) last so
  of_line fault line =
      let drive = drive_at start f.steps given first line.writer f.then line.driven_at
      (sym (ap submitted line.given_are)) line.quiet in
      inr (line.writer, f.then, drive, line.journal, is_so, drive_still first drive line.journal line.link line.answers)

  by : (fault : DriveFault) → BrokenStep start f.steps given fault first f.then last
      → Fell start (reverse (submitted given)) fault (muted first) last so
  by Out (inl line) = of_line Out line
  by Out (inr order) = of_order Out order
  by fault order = of_order fault order

module _ (pace : Pace) {limit most : ℕ} {found : List ℕ} {first : Streams} (is : first.journal ≡ Some found)
    (b : IsBegun limit most first) where
  pub fell_sat : {orders : List (Contents × ℕ)} {fault : DriveFault} {last : Streams} (left : List ℕ)
      → Fell (start_by pace b.journal) orders fault (from b) last (λ then. IsBetween then last.journal left)
      → (past : List Happening) × HasSat limit most found (record { start = start_by pace b.journal; past = past }) left
  fell_sat left (inl (d, between)) =
      let sat = some_broken pace is b d left between in (sat.0, inr (inl sat.1))
  fell_sat {last = last} left (inr (writer, then, d, keeps, between, still_drive)) =
      let holds = drive_holds d.driven (made is b) in
      let still = kept_known last.journal _ (rw holds at keeps) in
      let same = between_still _ left (rw (holds, still) at between) in
      (d.past, inl (came_to_its_end pace is b d (holds ∙ ap Some (sym same))))

module _ (pace : Pace) {limit most : ℕ} {found : List ℕ} {first : Streams} (is : first.journal ≡ Some found)
    (b : IsBegun limit most first) where
  -- a journal is opened whatever the replies' stream is
  abbrev pub begun_so : IsBegun limit most (muted first)
  begun_so = record { journal = b.journal; opened = b.opened; middle = b.middle; written = b.written }

  pub followed_ended : (given : List Given) (writer : WriterState) (last : Streams) (left : List ℕ)
      (follow : IsFollowed (start_by pace b.journal) given (from b) writer last) → last.journal ≡ Some left
      → CameToItsEnd limit most found (record { start = start_by pace b.journal; past = happenings follow.steps }) left
  followed_ended given writer last left follow held =
      came_to_its_end pace is begun_so (as_drive (start_by pace b.journal) given (from b) writer last follow) held

  pub followed_broken : (given : List Given) (fault : DriveFault) (last : Streams) (left : List ℕ)
      (follow : IsBrokenFollow (start_by pace b.journal) given fault (from b) last)
      → IsBetween follow.then.journal last.journal left
      → (past : List Happening) × HasSat limit most found (record { start = start_by pace b.journal; past = past }) left
  followed_broken given fault last left follow between =
      fell_sat pace is begun_so left (fell (λ then. IsBetween then last.journal left) follow between)
