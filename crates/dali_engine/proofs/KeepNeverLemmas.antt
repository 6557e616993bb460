-- While a session goes on no record is wanted.
use Rattle.std.proofs.Common.{◌≡◌, ℕ}
use Rattle.dali_bank.specs.Order.{Contents}
use Rattle.dali_frame.specs.declared.forward.Frame.{Frame}
use Rattle.dali_write.specs.declared.ask.Ask.{Ask}
use Rattle.dali_write.specs.declared.ask.Ask.TheVariants as asks
use Rattle.dali_write.specs.declared.session.Session.{Session}
use Rattle.dali_write.specs.Told.{aim_of}
use Rattle.dali_engine.specs.declared.phase.Phase.{Phase}
use Rattle.dali_engine.specs.declared.phase.Phase.TheVariants.{Checks, Writes}
use Rattle.dali_engine.specs.Phases.{want_of, check_of, write_of, IsKeep}

check_sends : (unit : ℕ) (ask : Ask) (frame : Frame) → asks.Send frame ≡ ask → IsKeep (check_of unit ask) → ⊥
check_sends unit (asks.Send other) frame e keep = keep
check_sends unit (asks.Ended verdict) frame e keep = cc

write_sends : (ask : Ask) (frame : Frame) → asks.Send frame ≡ ask → IsKeep (write_of ask) → ⊥
write_sends (asks.Send other) frame e keep = keep
write_sends (asks.Ended verdict) frame e keep = cc

pub checks_keep_none : {A : Type 0} (phase : Phase) (order : Contents) (s : Session) (frame : Frame)
    → Checks order s ≡ phase → asks.Send frame ≡ aim_of s → IsKeep (want_of phase) → A
checks_keep_none phase order s frame is aim keep =
    let here : IsKeep (check_of order.unit (aim_of s)) = rw (← is) at keep in
    absurd (check_sends order.unit (aim_of s) frame aim here)

pub writes_keep_none : {A : Type 0} (phase : Phase) (order : Contents) (s : Session) (frame : Frame)
    → Writes order s ≡ phase → asks.Send frame ≡ aim_of s → IsKeep (want_of phase) → A
writes_keep_none phase order s frame is aim keep =
    let here : IsKeep (write_of (aim_of s)) = rw (← is) at keep in
    absurd (write_sends (aim_of s) frame aim here)
