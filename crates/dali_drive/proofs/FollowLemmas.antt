-- How orders are followed: work after what was done, and a line that is passed on.
use Rattle.std.proofs.Common.{◌≡◌, ◌∙◌, refl, sym, ap, subst, append_assoc, append-nil, ℕ, List, [], ◌∷◌, ◌++◌}
use Rattle.std.proofs.Common.{map, reverse, inl, inr}
use Rattle.std.proofs.Common.{Option, Result, Ok, Err, OnOk, false}
use Rattle.std.proofs.lemmas.List.{reverse-append, reverse-reverse, map-append}
use Rattle.std.specs.Io.KnownBytes.{Appends}
use Rattle.std.proofs.KnownBytes.{Appends-trans, Appends-nil, Keeps-refl}
use Rattle.arrayvec.specs.ArrayVec.{ArrayVec}
use Rattle.dali_frame.specs.declared.forward.Frame.{Frame}
use Rattle.dali_bank.specs.Order.{Contents}
use Rattle.dali_trace.specs.declared.happening.Happening.{Happening}
use Rattle.dali_trace.specs.declared.happening.Happening.TheVariants.{Asked, Answered, Sent, Kept, Stopped, Powered}
use Rattle.dali_trace.specs.Replies.{reply_line}
use Rattle.dali_trace.specs.Trace.{Start, is_busy}
use Rattle.dali_engine.specs.WriterState.{WriterState}
use Rattle.dali_engine.specs.Describes.{Describes}
use Rattle.dali_trace.specs.declared.fault.DriveFault.{DriveFault}
use Rattle.dali_trace.specs.declared.fault.DriveFault.TheVariants.{Journal, Link, Line, End, NoMemory, TooLong, Out}
use Rattle.dali_drive.specs.declared.following.Given.{Given}
use Rattle.dali_drive.specs.declared.following.Given.TheVariants as gives
use Rattle.dali_drive.specs.Desks.{Look}
use Rattle.dali_drive.specs.Transcript.{Streams, said_lines, shown}
use Rattle.dali_drive.specs.Driven.{orders_asked, IsDriven, LeavesBetween}
use Rattle.dali_drive.specs.Observed.{IsToldEnd}
use Rattle.dali_drive.specs.WorkedOn.{IsDone, IsDrivenAt, HasWorked, HasBroken, WorkedOn}
use Rattle.dali_drive.specs.Followed.{Step, happenings, told_lines, given_in, as_given, muted, IsFollowedAt}
use Rattle.dali_drive.specs.Followed.{IsFollowed, BrokenOrder, BrokenStep, BreaksFollow, GivenOn}
use Rattle.dali_drive.proofs.DriveLemmas.{IsCut}
use Rattle.dali_drive.specs.Followed.Step.{Happened, Told}

happened_first : (more : List Happening) (steps : List Step)
    → happenings (map Happened more ++ steps) ≡ more ++ happenings steps
happened_first [] steps = refl
happened_first (next ∷ more) steps = ap (λ (rest : List Happening). next ∷ rest) (happened_first more steps)

nothing_said : (text first more : List ℕ) → text ≡ first ++ more → text ++ [] ≡ first ++ more
nothing_said text first more is = append-nil text ∙ is

happened_lines : (more : List Happening) (steps : List Step)
    → told_lines (map Happened more ++ steps) ≡ told_lines steps ++ said_lines more
happened_lines [] steps = sym (append-nil (told_lines steps))
happened_lines (Answered id reply ∷ more) steps =
    ap (λ (text : List ℕ). text ++ reply_line id reply) (happened_lines more steps)
    ∙ append_assoc (told_lines steps) (said_lines more) (reply_line id reply)
happened_lines (Asked order moment ∷ more) steps =
    nothing_said (told_lines (map Happened more ++ steps)) (told_lines steps) (said_lines more)
    (happened_lines more steps)
happened_lines (Sent frame answer ∷ more) steps =
    nothing_said (told_lines (map Happened more ++ steps)) (told_lines steps) (said_lines more)
    (happened_lines more steps)
happened_lines (Kept entry ∷ more) steps =
    nothing_said (told_lines (map Happened more ++ steps)) (told_lines steps) (said_lines more)
    (happened_lines more steps)
happened_lines (Stopped pace ∷ more) steps =
    nothing_said (told_lines (map Happened more ++ steps)) (told_lines steps) (said_lines more)
    (happened_lines more steps)
happened_lines (Powered address ∷ more) steps =
    nothing_said (told_lines (map Happened more ++ steps)) (told_lines steps) (said_lines more)
    (happened_lines more steps)

happened_given : (more : List Happening) (steps : List Step)
    → given_in (map Happened more ++ steps) ≡ as_given (orders_asked more) ++ given_in steps
happened_given [] steps = refl
happened_given (Asked order moment ∷ more) steps =
    ap (λ (rest : List Given). gives.Order order moment ∷ rest) (happened_given more steps)
happened_given (Answered id reply ∷ more) steps = happened_given more steps
happened_given (Sent frame answer ∷ more) steps = happened_given more steps
happened_given (Kept entry ∷ more) steps = happened_given more steps
happened_given (Stopped pace ∷ more) steps = happened_given more steps
happened_given (Powered address ∷ more) steps = happened_given more steps

-- a driven trace, of which the replies aren't looked at
muted_driven : (start : Start) (past : List Happening) (first last : Streams)
    → IsDriven start past first last → IsDriven start past (muted first) last
muted_driven start past first last d = record {
  legal = d.legal;
  planned = d.planned;
  in_turn = d.in_turn;
  in_range = d.in_range;
  text = record {
    heard = d.text.heard;
    lines = d.text.lines;
    journal = d.text.journal;
    link = d.text.link;
    answers = d.text.answers;
    out = tt;
  };
}

-- what the replies' stream holds then doesn't matter to it
other_out : (start : Start) (past : List Happening) (writer : WriterState) (first : Streams)
    (j l a o other : Option (List ℕ))
    → IsDrivenAt start past writer (muted first) (shown j l a o)
    → IsDrivenAt start past writer (muted first) (shown j l a other)
other_out start past writer first j l a o other d = record {
  driven = record {
    legal = d.driven.legal;
    planned = d.driven.planned;
    in_turn = d.driven.in_turn;
    in_range = d.driven.in_range;
    text = record {
      heard = d.driven.text.heard;
      lines = d.driven.text.lines;
      journal = d.driven.text.journal;
      link = d.driven.text.link;
      answers = d.driven.text.answers;
      out = tt;
    };
  };
  described = d.described;
  follows = d.follows;
}

pub told_first : (told : List Happening → Type 0) (more : List Happening) (steps : List Step)
    → told (more ++ happenings steps) → told (happenings (map Happened more ++ steps))
told_first told more steps is = rw (happened_first more steps) is

module _ (start : Start) (steps : List Step) (given : List Given) (first : Streams) (then : WriterState)
    (middle : Streams) (before : IsFollowedAt start steps given first then middle) where
  -- and then the work of these orders
  pub follows_on : (orders : List (Contents × ℕ)) (writer : WriterState) (last : Streams)
      (told : List Happening → Type 0)
      (worked : HasWorked start (happenings steps) orders (muted first) writer middle last told)
      → IsFollowedAt start (map Happened worked.more ++ steps) (as_given (reverse orders) ++ given) first writer last
  follows_on orders writer last told worked = record {
    driven_at = rw (happened_first worked.more steps) worked.driven_at;
    said =
        rw (happened_lines worked.more steps) (Appends-trans first.out middle.out last.out (told_lines steps)
        (said_lines worked.more) before.said worked.said);
    given_are =
        happened_given worked.more steps
        ∙ ap (λ (asked : List (Contents × ℕ)). as_given asked ++ given_in steps)
        (sym (reverse-reverse (orders_asked worked.more)) ∙ ap reverse worked.asked)
        ∙ ap (λ (rest : List Given). as_given (reverse orders) ++ rest) before.given_are;
  }

-- A step that was broken off

of_order : (fault : DriveFault) (start : Start) (steps : List Step) (given : List Given) (first then last : Streams)
    → BrokenOrder start steps given fault first then last → BrokenStep start steps given fault first then last
of_order Out start steps given first then last order = inr order
of_order Journal start steps given first then last order = order
of_order Link start steps given first then last order = order
of_order (Line why) start steps given first then last order = order
of_order End start steps given first then last order = order
of_order NoMemory start steps given first then last order = order
of_order TooLong start steps given first then last order = order

-- what was given: the orders that were asked, and at most one that was still to be asked
given_so : (steps : List Step) (given : List Given) (orders unasked : List (Contents × ℕ)) (more : List Happening)
    → reverse (orders_asked more) ++ unasked ≡ orders → given_in steps ≡ given
    → as_given (reverse orders) ++ given ≡ as_given (reverse unasked) ++ given_in (map Happened more ++ steps)
given_so steps given orders unasked more asked is =
    ap (λ (os : List (Contents × ℕ)). as_given os ++ given)
    (ap reverse (sym asked) ∙ reverse-append (reverse (orders_asked more)) unasked
    ∙ ap (λ (os : List (Contents × ℕ)). reverse unasked ++ os) (reverse-reverse (orders_asked more)))
    ∙ ap (λ (rest : List Given). rest ++ given)
    (map-append (λ (next : Contents × ℕ). gives.Order next.0 next.1) (reverse unasked) (orders_asked more))
    ∙ append_assoc (as_given (reverse unasked)) (as_given (orders_asked more)) given
    ∙ ap (λ (rest : List Given). as_given (reverse unasked) ++ rest)
    (ap (λ (rest : List Given). as_given (orders_asked more) ++ rest) (sym is) ∙ sym (happened_given more steps))

module _ (start : Start) (steps : List Step) (given : List Given) (first middle : Streams)
    (said : Appends first.out middle.out (told_lines steps)) (given_are : given_in steps ≡ given)
    (orders : List (Contents × ℕ)) (fault : DriveFault) (last : Streams) (may_leave : List ℕ → Type 0)
    (told : List Happening → Type 0) (told_end : List Happening → DriveFault → Frame → List ℕ → Type 0) where
  -- the work of these orders was broken off
  pub breaks_follow : (zero : Streams)
      (broken : HasBroken start (happenings steps) orders zero fault middle last may_leave told told_end)
      → IsDriven start (broken.more ++ happenings steps) (muted first) broken.then
      → BreaksFollow start (as_given (reverse orders) ++ given) fault first last may_leave told told_end
  breaks_follow zero broken driven = record {
    follow = record {
      steps = map Happened broken.more ++ steps;
      then = broken.then;
      said =
          rw (happened_lines broken.more steps) (Appends-trans first.out middle.out broken.then.out (told_lines steps)
          (said_lines broken.more) said broken.said);
      broken =
          of_order fault start (map Happened broken.more ++ steps)
          (as_given (reverse orders) ++ given) first broken.then
          last (record {
            unasked = broken.unasked;
            ahead = broken.ahead;
            given_are = given_so steps given orders broken.unasked broken.more broken.asked given_are;
            driven = rw (happened_first broken.more steps) driven;
            broken = rw (happened_first broken.more steps) broken.broken;
          });
    };
    left = broken.left;
    told_all =
        subst (λ (past : List Happening). IsToldEnd told told_end start past fault broken.then.answers last.answers)
        (sym (happened_first broken.more steps)) broken.told_all;
  }

-- the first work, before anything was given
pub begins : (start : Start) (first : Streams) (writer : WriterState) (last : Streams) (told : List Happening → Type 0)
    → HasWorked start [] [] first writer first last told
    → ((s : Start) (past : List Happening) → Describes s past writer → is_busy s past ≡ false)
    → (follow : IsFollowed start [] first writer last) × told (happenings follow.steps)
begins start first writer last told worked quiet = (
  record {
    steps = map Happened worked.more ++ [];
    at = record {
      driven_at = rw (happened_first worked.more []) at;
      said = rw (happened_lines worked.more []) worked.said;
      given_are =
          happened_given worked.more []
          ∙ ap (λ (orders : List (Contents × ℕ)). as_given orders ++ [])
          (sym (reverse-reverse (orders_asked worked.more)) ∙ ap reverse worked.asked);
    };
    quiet = rw (happened_first worked.more []) (quiet start (worked.more ++ []) worked.driven_at.described);
  },
  rw (happened_first worked.more []) worked.told_all,
) where
  at : IsDrivenAt start (worked.more ++ []) writer (muted first) last
  at = record {
    driven = muted_driven start (worked.more ++ []) first last worked.driven_at.driven;
    described = worked.driven_at.described;
    follows = worked.driven_at.follows;
  }

-- or it was broken off
pub begins_broken : (start : Start) (first : Streams) (fault : DriveFault) (last : Streams)
    (may_leave : List ℕ → Type 0)
    (told : List Happening → Type 0) (told_end : List Happening → DriveFault → Frame → List ℕ → Type 0)
    → HasBroken start [] [] first fault first last may_leave told told_end
    → BreaksFollow start [] fault first last may_leave told told_end
begins_broken start first fault last may_leave told told_end broken =
    breaks_follow start [] [] first first
    (Appends-nil first.out) refl [] fault last may_leave told told_end first broken
    (muted_driven start (broken.more ++ []) first broken.then broken.driven)

module _ (start : Start) (given : List Given) (first : Streams) (then : WriterState)
    (old new : Look) (follow : IsFollowed start given first then old.streams) (order : Contents) (moment : ℕ)
    (writer : WriterState) (told : List Happening → Type 0)
    (told_end : List Happening → DriveFault → Frame → List ℕ → Type 0) where
  -- and then an order was carried out, or broke off
  pub order_on : {A : Type 0} (result : Result A DriveFault)
      → WorkedOn start (happenings follow.steps) ((order, moment) ∷ []) (muted first) result writer old new told
      told_end
      → OnOk result (IsDone writer)
      → GivenOn start (gives.Order order moment ∷ given) first result writer old new told told_end
  order_on (Ok done) worked quiet =
      let at = follows_on start follow.steps given first then old.streams follow.at ((order, moment) ∷ []) writer
      new.streams told worked in (
        record {
          steps = map Happened worked.more ++ follow.steps;
          at = at;
          quiet = quiet.1 start (happenings (map Happened worked.more ++ follow.steps)) at.driven_at.described;
        },
        told_first told worked.more follow.steps worked.told_all,
      )
  order_on (Err fault) broken quiet =
      breaks_follow start follow.steps given first old.streams follow.at.said follow.at.given_are
      ((order, moment) ∷ []) fault new.streams new.may_leave told told_end (muted first) broken
      broken.driven

module _ (start : Start) (given : List Given) (first : Streams) (writer : WriterState) (j l a o more : Option (List ℕ))
    (follow : IsFollowed start given first writer (shown j l a o)) (line : ArrayVec ℕ) where
  -- and then a line was written
  pub tells_on : (told : List Happening → Type 0) → told (happenings follow.steps) → Appends o more line.items
      → (next : IsFollowed start (gives.Line line ∷ given) first writer (shown j l a more))
      × told (happenings next.steps)
  tells_on told is added = (
    record {
      steps = Told line ∷ follow.steps;
      at = record {
        driven_at = other_out start (happenings follow.steps) writer first j l a o more follow.at.driven_at;
        said = Appends-trans first.out o more (told_lines follow.steps) line.items follow.at.said added;
        given_are = ap (λ (rest : List Given). gives.Line line ∷ rest) follow.at.given_are;
      };
      quiet = follow.quiet;
    },
    is,
  )

  -- or a part of it
  pub cuts_line : (may_leave : List ℕ → Type 0) (told : List Happening → Type 0)
      (told_end : List Happening → DriveFault → Frame → List ℕ → Type 0) → told (happenings follow.steps)
      → LeavesBetween j j may_leave → IsCut o more line.items
      → BreaksFollow start (gives.Line line ∷ given) Out first (shown j l a more) may_leave told told_end
  cuts_line may_leave told told_end is left cut = record {
    follow = record {
      steps = follow.steps;
      then = shown j l a o;
      said = follow.at.said;
      broken = inl (record {
        line = line;
        given_are = ap (λ (rest : List Given). gives.Line line ∷ rest) (sym follow.at.given_are);
        writer = writer;
        driven_at = follow.at.driven_at;
        quiet = follow.quiet;
        journal = Keeps-refl j;
        link = Keeps-refl l;
        answers = Keeps-refl a;
        out = record { count = cut.0; within = cut.1; part = cut.2 };
      });
    };
    left = left;
    told_all = is;
  }
