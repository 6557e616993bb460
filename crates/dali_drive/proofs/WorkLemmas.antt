-- Work after work, and the orders that were asked in both.
use Rattle.std.proofs.Common.{◌≡◌, ◌∙◌, refl, sym, ap, append_assoc, append-nil, ℕ, List, [], ◌∷◌, ◌++◌}
use Rattle.std.proofs.Common.{Option, Result, Ok, Err, reverse}
use Rattle.std.proofs.lemmas.List.{reverse-append}
use Rattle.std.specs.Io.KnownBytes.{Appends}
use Rattle.std.proofs.KnownBytes.{Appends-trans}
use Rattle.dali_frame.specs.declared.forward.Frame.{Frame}
use Rattle.dali_bank.specs.Order.{Contents}
use Rattle.dali_trace.specs.declared.happening.Happening.{Happening}
use Rattle.dali_trace.specs.declared.happening.Happening.TheVariants.{Asked, Answered, Sent, Kept, Stopped, Powered}
use Rattle.dali_trace.specs.Replies.{reply_line}
use Rattle.dali_trace.specs.Trace.{Start}
use Rattle.dali_engine.specs.WriterState.{WriterState}
use Rattle.dali_trace.specs.declared.fault.DriveFault.{DriveFault}
use Rattle.dali_drive.specs.Desks.{Look}
use Rattle.dali_drive.specs.Transcript.{Streams, said_lines}
use Rattle.dali_drive.specs.Driven.{orders_asked}
use Rattle.dali_drive.specs.WorkedOn.{HasWorked, HasBroken, WorkedOn}

asked_both : (newer older : List Happening) → orders_asked (newer ++ older) ≡ orders_asked newer ++ orders_asked older
asked_both [] older = refl
asked_both (Asked order moment ∷ newer) older =
    ap (λ (rest : List (Contents × ℕ)). (order, moment) ∷ rest) (asked_both newer older)
asked_both (Answered id reply ∷ newer) older = asked_both newer older
asked_both (Sent frame answer ∷ newer) older = asked_both newer older
asked_both (Kept entry ∷ newer) older = asked_both newer older
asked_both (Stopped pace ∷ newer) older = asked_both newer older
asked_both (Powered address ∷ newer) older = asked_both newer older

said_both : (newer older : List Happening) → said_lines (newer ++ older) ≡ said_lines older ++ said_lines newer
said_both [] older = sym (append-nil (said_lines older))
said_both (Answered id reply ∷ newer) older =
    ap (λ (text : List ℕ). text ++ reply_line id reply) (said_both newer older)
    ∙ append_assoc (said_lines older) (said_lines newer) (reply_line id reply)
said_both (Asked order moment ∷ newer) older = said_both newer older
said_both (Sent frame answer ∷ newer) older = said_both newer older
said_both (Kept entry ∷ newer) older = said_both newer older
said_both (Stopped pace ∷ newer) older = said_both newer older
said_both (Powered address ∷ newer) older = said_both newer older

-- the orders of both, in their order
pub in_order : (newer older : List Happening)
    → reverse (orders_asked (newer ++ older)) ≡ reverse (orders_asked older) ++ reverse (orders_asked newer)
in_order newer older = ap reverse (asked_both newer older) ∙ reverse-append (orders_asked newer) (orders_asked older)

pub both_said : (newer older : List Happening) (first middle last : Option (List ℕ))
    → Appends first middle (said_lines older) → Appends middle last (said_lines newer)
    → Appends first last (said_lines (newer ++ older))
both_said newer older first middle last then now =
    rw (said_both newer older) (Appends-trans first middle last (said_lines older) (said_lines newer) then now)

module _ (start : Start) (past : List Happening) (orders more_orders : List (Contents × ℕ)) (first : Streams)
    (then : WriterState) (zero middle : Streams) (told_then : List Happening → Type 0)
    (before : HasWorked start past orders first then zero middle told_then) where
  -- work and more work
  pub works_on : (writer : WriterState) (last : Streams) (told : List Happening → Type 0)
      → HasWorked start (before.more ++ past) more_orders first writer middle last told
      → HasWorked start past (orders ++ more_orders) first writer zero last told
  works_on writer last told next = record {
    more = next.more ++ before.more;
    driven_at = rw (append_assoc next.more before.more past) next.driven_at;
    asked = rw (in_order next.more before.more, before.asked, next.asked) refl;
    said = both_said next.more before.more zero.out middle.out last.out before.said next.said;
    told_all = rw (append_assoc next.more before.more past) next.told_all;
  }

  -- work, and then a step that was broken off
  pub breaks_on : (fault : DriveFault) (last : Streams) (may_leave : List ℕ → Type 0) (told : List Happening → Type 0)
      (told_end : List Happening → DriveFault → Frame → List ℕ → Type 0)
      → HasBroken start (before.more ++ past) more_orders first fault middle last may_leave told told_end
      → HasBroken start past (orders ++ more_orders) first fault zero last may_leave told told_end
  breaks_on fault last may_leave told told_end next = record {
    more = next.more ++ before.more;
    unasked = next.unasked;
    ahead = next.ahead;
    then = next.then;
    driven = rw (append_assoc next.more before.more past) next.driven;
    asked =
        ap (λ (asked : List (Contents × ℕ)). asked ++ next.unasked) (in_order next.more before.more)
        ∙ append_assoc (reverse (orders_asked before.more)) (reverse (orders_asked next.more)) next.unasked
        ∙ ap (λ (asked : List (Contents × ℕ)). asked ++ (reverse (orders_asked next.more) ++ next.unasked)) before.asked
        ∙ ap (λ (asked : List (Contents × ℕ)). orders ++ asked) next.asked;
    said = both_said next.more before.more zero.out middle.out next.then.out before.said next.said;
    broken = rw (append_assoc next.more before.more past) next.broken;
    left = next.left;
    told_all = rw (append_assoc next.more before.more past) next.told_all;
  }

-- work, and then whatever came of more
pub then_work : {A : Type 0} (result : Result A DriveFault) (start : Start) (past : List Happening)
    (orders more_orders : List (Contents × ℕ)) (first : Streams) (then writer : WriterState) (old mid new : Look)
    (told_then told : List Happening → Type 0) (told_end : List Happening → DriveFault → Frame → List ℕ → Type 0)
    → (before : HasWorked start past orders first then old.streams mid.streams told_then)
    → WorkedOn start (before.more ++ past) more_orders first result writer mid new told told_end
    → WorkedOn start past (orders ++ more_orders) first result writer old new told told_end
then_work (Ok done) start past orders more_orders first then writer old mid new told_then told told_end before next =
    works_on start past orders more_orders first then old.streams mid.streams told_then before writer new.streams told
    next
then_work (Err fault) start past orders more_orders first then writer old mid new told_then told told_end before next =
    breaks_on start past orders more_orders first then old.streams mid.streams told_then before fault new.streams
    new.may_leave told told_end next
