-- How a driven trace grows, and how it is broken off.
use Rattle.std.proofs.Common.{◌≡◌, ◌≤◌, ◌∙◌, refl, sym, ap, subst, inl, inr, ℕ, List, [], ◌∷◌, ◌++◌}
use Rattle.std.proofs.Common.{Option, false, length, take}
use Rattle.std.specs.Io.KnownBytes.{Appends}
use Rattle.std.proofs.KnownBytes.{Appends-trans, Appends-nil, Consumes-trans, Consumes-nil, Keeps-refl}
use Rattle.dali_frame.specs.declared.forward.Frame.{Frame}
use Rattle.dali_bank.specs.Order.{Contents}
use Rattle.dali_journal.specs.declared.record.Record.{Record}
use Rattle.dali_journal.specs.declared.version.Version.TheVariants.{Two}
use Rattle.dali_journal.specs.Spelling.{spelling, IsRecord}
use Rattle.dali_journal.specs.JournalState.{JournalState}
use Rattle.dali_trace.specs.declared.happening.Reply.{Reply}
use Rattle.dali_trace.specs.declared.happening.Reply.TheVariants as replies
use Rattle.dali_trace.specs.declared.happening.Happening.{Happening}
use Rattle.dali_trace.specs.declared.happening.Happening.TheVariants.{Asked, Answered, Sent, Kept}
use Rattle.dali_trace.specs.declared.fault.DriveFault.{DriveFault}
use Rattle.dali_trace.specs.declared.fault.DriveFault.TheVariants.{Journal, Link, Line, End, NoMemory, TooLong, Out}
use Rattle.dali_trace.specs.Trace.{Start, is_busy, records_of}
use Rattle.dali_trace.specs.Replies.{IsReply, reply_line}
use Rattle.dali_trace.specs.Legal.{Legal, IsFinished}
use Rattle.dali_trace.specs.ByPlan.{ByPlan}
use Rattle.dali_trace.specs.Next.{IsNext}
use Rattle.dali_engine.specs.WriterState.{WriterState}
use Rattle.dali_engine.specs.Describes.{Describes}
use Rattle.dali_engine.specs.Follows.{Follows}
use Rattle.dali_drive.specs.WorkedOn.{AreUnasked, IsDrivenAt}
use Rattle.dali_drive.specs.Lines.{IsAnswerLine, TakesText}
use Rattle.dali_drive.specs.Observed.{IsToldEnd}
use Rattle.dali_drive.specs.Transcript.{Streams, Transcript, shown, link_shown}
use Rattle.dali_drive.specs.Driven.{at_moment, IsInTurn, KeepsRecords, IsDriven, IsNextFrame, BreaksFrame, BrokenOff, AppendsPart}

-- nothing has happened yet
driven_nothing : (start : Start) (j l a o : Option (List ℕ)) → Legal start []
    → IsDriven start [] (shown j l a o) (shown j l a o)
driven_nothing start j l a o legal = record {
  legal = legal;
  planned = tt;
  in_turn = tt;
  in_range = tt;
  text = record {
    heard = [];
    lines = refl;
    journal = Appends-nil j;
    link = Appends-nil l;
    answers = Consumes-nil a;
    out = Appends-nil o;
  };
}

pub begun_at : (start : Start) (writer : WriterState) (j l a o : Option (List ℕ)) → Describes start [] writer
    → Follows start [] writer
    → IsDrivenAt start [] writer (shown j l a o) (shown j l a o)
begun_at start writer j l a o described follows =
    record { driven = driven_nothing start j l a o described.legal; described = described; follows = follows }

-- what is next was done, and its text written and read
goes_on : (start : Start) (past : List Happening) (next : Happening) (first old new : Streams)
    → IsDriven start past first old → IsNext start past next
    → IsInTurn start (next ∷ past) → (KeepsRecords past → KeepsRecords (next ∷ past))
    → Transcript (next ∷ past) first new → IsDriven start (next ∷ past) first new
goes_on start past next first old new d is turn range text =
    record {
      legal = (d.legal, is.may);
      planned = (d.planned, is.planned);
      in_turn = (turn, d.in_turn);
      in_range = range d.in_range;
      text = text;
    }

pub keeps_on : (start : Start) (past : List Happening) (first : Streams) (j more l a o : Option (List ℕ))
    (entry : Record)
    → IsDriven start past first (shown j l a o)
    → IsNext start past (Kept entry) → IsRecord Two entry → Appends j more (spelling Two entry)
    → IsDriven start (Kept entry ∷ past) first (shown more l a o)
keeps_on start past first j more l a o entry d next range added =
    goes_on start past (Kept entry) first (shown j l a o) (shown more l a o) d next tt (λ t. (range, t))
    (record {
      heard = d.text.heard;
      lines = d.text.lines;
      journal = Appends-trans _ _ _ _ _ d.text.journal added;
      link = d.text.link;
      answers = d.text.answers;
      out = d.text.out;
    })

-- the line of one answer
only_line : (answer : Option ℕ) (heard before last : List ℕ) → before ≡ [] → IsAnswerLine answer last
    → heard ≡ before ++ last → IsAnswerLine answer heard
only_line answer heard before last none line is =
    subst (λ (l : List ℕ). IsAnswerLine answer l) (sym (is ∙ ap (λ (l : List ℕ). l ++ last) none)) line

pub sends_on : (start : Start) (past : List Happening) (first : Streams) (j l more a less o : Option (List ℕ))
    (frame : Frame) (answer : Option ℕ)
    → IsDriven start past first (shown j l a o) → IsNext start past (Sent frame answer)
    → Transcript (Sent frame answer ∷ []) (link_shown l a) (link_shown more less)
    → IsDriven start (Sent frame answer ∷ past) first (shown j more less o)
sends_on start past first j l more a less o frame answer d next one =
    goes_on start past (Sent frame answer) first (shown j l a o) (shown j more less o) d next tt (λ t. t)
    (record {
      heard = d.text.heard ++ one.heard;
      lines = (
        d.text.heard,
        one.heard,
        d.text.lines,
        only_line answer one.heard one.lines.0 one.lines.1 one.lines.2 one.lines.3 one.lines.4,
        refl,
      );
      journal = d.text.journal;
      link = Appends-trans _ _ _ _ _ d.text.link one.link;
      answers = Consumes-trans _ _ _ _ _ d.text.answers one.answers;
      out = d.text.out;
    })

pub says_on : (start : Start) (past : List Happening) (first : Streams) (j l a o more : Option (List ℕ)) (id : ℕ)
    (reply : Reply)
    → IsDriven start past first (shown j l a o)
    → IsNext start past (Answered id reply) → Appends o more (reply_line id reply)
    → IsDriven start (Answered id reply ∷ past) first (shown j l a more)
says_on start past first j l a o more id reply d next added =
    goes_on start past (Answered id reply) first (shown j l a o) (shown j l a more) d next tt (λ t. t)
    (record {
      heard = d.text.heard;
      lines = d.text.lines;
      journal = d.text.journal;
      link = d.text.link;
      answers = d.text.answers;
      out = Appends-trans _ _ _ _ _ d.text.out added;
    })

-- an order was asked, and nothing written
pub asks_on : (start : Start) (past : List Happening) (first now : Streams) (order : Contents) (moment : ℕ)
    → IsDriven start past first now → is_busy start past ≡ false → Legal start (Asked order moment ∷ past)
    → IsDriven start (Asked order moment ∷ past) first now
asks_on start past first now order moment d quiet legal = record {
  legal = legal;
  planned = (d.planned, tt);
  in_turn = (quiet, d.in_turn);
  in_range = d.in_range;
  text = record {
    heard = d.text.heard;
    lines = d.text.lines;
    journal = d.text.journal;
    link = d.text.link;
    answers = d.text.answers;
    out = d.text.out;
  };
}

-- the reply to it is next
pub reply_next : (start : Start) (past : List Happening) (order : Contents) (moment : ℕ) (reply : Reply)
    → Legal start (Answered order.id reply ∷ Asked order moment ∷ past)
    → ByPlan start (Answered order.id reply ∷ Asked order moment ∷ past)
    → IsNext start (Asked order moment ∷ past) (Answered order.id reply)
reply_next start past order moment reply legal planned = record { work = tt; may = legal.1; planned = planned.1 }

pub replied_at : (start : Start) (past : List Happening) (old new : WriterState) (first : Streams)
    (j l a o more : Option (List ℕ)) (order : Contents) (moment : ℕ) (reply : Reply)
    → IsDrivenAt start past old first (shown j l a o) → is_busy start past ≡ false
    → Describes start (Answered order.id reply ∷ Asked order moment ∷ past) new
    → Follows start (Answered order.id reply ∷ Asked order moment ∷ past) new
    → Appends o more (reply_line order.id reply)
    → IsDrivenAt start (Answered order.id reply ∷ Asked order moment ∷ past) new first (shown j l a more)
replied_at start past old new first j l a o more order moment reply d quiet described follows added = record {
  driven =
      says_on start (Asked order moment ∷ past) first j l a o more order.id reply
      (asks_on start past first (shown j l a o) order moment d.driven quiet described.legal.0)
      (reply_next start past order moment reply described.legal follows.planned) added;
  described = described;
  follows = follows;
}

-- the journal of the writer that a trace describes
pub stands_so : (start : Start) (past : List Happening) (writer : WriterState) (journal : JournalState)
    → Describes start past writer → journal ≡ writer.journal → records_of start past ≡ journal.records
stands_so start past writer journal described is = rw is described.same

-- The orders

pub at_append : (moment : ℕ) (xs ys : List Contents)
    → at_moment moment (xs ++ ys) ≡ at_moment moment xs ++ at_moment moment ys
at_append moment [] ys = refl
at_append moment (x ∷ xs) ys = ap (λ (rest : List (Contents × ℕ)). (x, moment) ∷ rest) (at_append moment xs ys)

-- A step that is broken off

-- the first part of some bytes was written
abbrev pub IsCut : Option (List ℕ) → Option (List ℕ) → List ℕ → Type 0
IsCut old new bytes = (k : ℕ) × (k ≤ length bytes) × Appends old new (take k bytes)

pub part_of_it : (old new : Option (List ℕ)) (bytes : List ℕ) → IsCut old new bytes → AppendsPart old new bytes
part_of_it old new bytes cut = record { count = cut.0; within = cut.1; part = cut.2 }

pub breaks_record : (start : Start) (past : List Happening) (rest : List (Contents × ℕ))
    (j more l a o : Option (List ℕ))
    (entry : Record)
    → IsNext start past (Kept entry)
    → IsRecord Two entry → IsCut j more (spelling Two entry)
    → BrokenOff start past rest Journal (shown j l a o) (shown more l a o)
breaks_record start past rest j more l a o entry next range cut = (
  entry,
  next,
  record {
    in_range = range;
    journal = part_of_it j more (spelling Two entry) cut;
    link = Keeps-refl l;
    answers = Keeps-refl a;
    out = Keeps-refl o;
  },
)

-- a fault broke the exchange of the frame that is next off
pub breaks_exchange : (fault : DriveFault) (start : Start) (past : List Happening) (rest : List (Contents × ℕ))
    (j l more a less o : Option (List ℕ)) (frame : Frame)
    → IsNextFrame start past frame
    → BreaksFrame frame fault (link_shown l a) (link_shown more less)
    → BrokenOff start past rest fault (shown j l a o) (shown j more less o)
breaks_exchange Journal start past rest j l more a less o frame next broken = absurd broken.answers
breaks_exchange NoMemory start past rest j l more a less o frame next broken = absurd broken.answers
breaks_exchange Out start past rest j l more a less o frame next broken = absurd broken.answers
breaks_exchange Link start past rest j l more a less o frame next (inl cut) =
    (frame, next, inl (record { journal = Keeps-refl j; link = cut.link; answers = cut.answers; out = Keeps-refl o }))
breaks_exchange Link start past rest j l more a less o frame next (inr none) =
    (frame, next, inr (record { journal = Keeps-refl j; link = none.link; answers = none.answers; out = Keeps-refl o }))
breaks_exchange (Line fault) start past rest j l more a less o frame next none =
    (frame, next, record { journal = Keeps-refl j; link = none.link; answers = none.answers; out = Keeps-refl o })
breaks_exchange End start past rest j l more a less o frame next none =
    (frame, next, record { journal = Keeps-refl j; link = none.link; answers = none.answers; out = Keeps-refl o })
breaks_exchange TooLong start past rest j l more a less o frame next none =
    (frame, next, record { journal = Keeps-refl j; link = none.link; answers = none.answers; out = Keeps-refl o })

-- no order was read and not asked then
pub none_unasked : (fault : DriveFault) (frame : Frame) (old new : Streams) → BreaksFrame frame fault old new
    → AreUnasked fault []
none_unasked NoMemory frame old new broken = absurd broken.answers
none_unasked Journal frame old new broken = refl
none_unasked Link frame old new broken = refl
none_unasked (Line why) frame old new broken = refl
none_unasked End frame old new broken = refl
none_unasked TooLong frame old new broken = refl
none_unasked Out frame old new broken = refl

-- and how it is passed on to the observer
pub told_of_end : (fault : DriveFault) (told : List Happening → Type 0)
    (told_end : List Happening → DriveFault → Frame → List ℕ → Type 0) (start : Start) (past : List Happening)
    (old new : Streams) (frame : Frame) (text : List ℕ)
    → IsNextFrame start past frame → BreaksFrame frame fault old new → TakesText fault text old.answers new.answers
    → told_end past fault frame text → IsToldEnd told told_end start past fault old.answers new.answers
told_of_end Journal told told_end start past old new frame text next broken taken is = absurd broken.answers
told_of_end NoMemory told told_end start past old new frame text next broken taken is = absurd broken.answers
told_of_end Out told told_end start past old new frame text next broken taken is = absurd broken.answers
told_of_end Link told told_end start past old new frame text next broken taken is =
    record { frame = frame; text = text; next = next; taken = taken; told = is }
told_of_end (Line fault) told told_end start past old new frame text next broken taken is =
    record { frame = frame; text = text; next = next; taken = taken; told = is }
told_of_end End told told_end start past old new frame text next broken taken is =
    record { frame = frame; text = text; next = next; taken = taken; told = is }
told_of_end TooLong told told_end start past old new frame text next broken taken is =
    record { frame = frame; text = text; next = next; taken = taken; told = is }

pub breaks_saying : (start : Start) (past : List Happening) (rest : List (Contents × ℕ))
    (j l a o more : Option (List ℕ))
    (id : ℕ) (reply : Reply)
    → IsNext start past (Answered id reply)
    → IsCut o more (reply_line id reply) → BrokenOff start past rest Out (shown j l a o) (shown j l a more)
breaks_saying start past rest j l a o more id reply next cut = (
  id,
  reply,
  next,
  record {
    journal = Keeps-refl j;
    link = Keeps-refl l;
    answers = Keeps-refl a;
    out = part_of_it o more (reply_line id reply) cut;
  },
)

pub breaks_memory : (start : Start) (past : List Happening) (order : Contents) (moment : ℕ)
    (rest : List (Contents × ℕ)) (j l a o : Option (List ℕ))
    → IsFinished past
    → is_busy start past ≡ false → IsReply start past order replies.Taken
    → BrokenOff start past ((order, moment) ∷ rest) NoMemory (shown j l a o) (shown j l a o)
breaks_memory start past order moment rest j l a o finished quiet due = (
  finished,
  quiet,
  due,
  record { journal = Keeps-refl j; link = Keeps-refl l; answers = Keeps-refl a; out = Keeps-refl o },
)
