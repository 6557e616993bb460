-- Small traces near the edges of the laws.
use Rattle.std.proofs.Common.{◌≡◌, ◌↔◌, refl, ap, ℕ, [], ◌∷◌, None, length, arith}
use Rattle.dali_frame.specs.declared.forward.Frame.TheVariants.{Dtr0, Dtr1}
use Rattle.dali_bank.specs.Order.{Contents}
use Rattle.dali_journal.specs.declared.record.Record.TheVariants.{Began}
use Rattle.dali_trace.specs.declared.happening.Reply.TheVariants as replies
use Rattle.dali_trace.specs.declared.happening.Happening.{Happening}
use Rattle.dali_trace.specs.declared.happening.Happening.TheVariants.{Asked, Answered, Sent, Kept, Stopped, Powered}
use Rattle.dali_trace.specs.Legal.{MayFollow}
use Rattle.dali_trace.specs.ByPlan.{IsPlanned}
use Rattle.dali_trace.specs.Worked.{empty, first_order, second_order, begun, busy_while_at_work}
use Rattle.dali_trace.specs.WorkedPlans.{first_frame}
use Rattle.dali_laws.specs.Powered.{unpowered, IsPowerApart}
use Rattle.dali_laws.specs.Law.{NothingIsDone, RefusedOrdersChangeNothing}
use Rattle.dali_write.specs.declared.pace.Pace.TheVariants.{Checked}

-- Happenings that do something, and happenings that do nothing

-- an order that is refused, one that is taken and not begun, and a stop
pub nothing_by_a_refused_order : NothingIsDone empty (Answered 1 replies.Busy ∷ Asked first_order 7 ∷ []) begun
nothing_by_a_refused_order = (refl, refl)

pub nothing_before_it_is_begun : NothingIsDone empty (Answered 1 replies.Taken ∷ Asked first_order 7 ∷ []) []
nothing_before_it_is_begun = (refl, refl)

pub nothing_by_a_stop : NothingIsDone empty (Stopped Checked ∷ []) begun
nothing_by_a_stop = (refl, refl)

pub not_nothing_by_a_record : NothingIsDone empty (Kept (Began first_order 7) ∷ []) [] → ⊥
not_nothing_by_a_record (none, same) = omega (arith, ap length same)

pub not_nothing_by_a_frame : NothingIsDone empty (Sent (Dtr0 3) None ∷ []) [] → ⊥
not_nothing_by_a_frame (none, same) = cc

-- Losses of power: they may be before an order, after its reply and one after another, but not between the two

pub apart_elsewhere : (order : Contents) (moment : ℕ)
    → IsPowerApart (Powered 6 ∷ Powered 5 ∷ Answered order.id replies.Busy ∷ Asked order moment ∷ Powered 5 ∷ [])
apart_elsewhere order moment = tt

pub not_apart_before_the_reply : (order : Contents) (moment : ℕ)
    → IsPowerApart (Answered order.id replies.Busy ∷ Powered 6 ∷ Powered 5 ∷ Asked order moment ∷ []) → ⊥
not_apart_before_the_reply order moment apart = apart

pub none_are_left : (order : Contents) (moment : ℕ)
    → unpowered (Powered 6 ∷ Stopped Checked ∷ Powered 5 ∷ Asked order moment ∷ Powered 5 ∷ [])
    ≡ Stopped Checked ∷ Asked order moment ∷ []
none_are_left order moment = refl

-- A frame after a refused order leaves what may come after the frame without it
pub behind_a_refused_order : RefusedOrdersChangeNothing → (next : Happening)
    → (MayFollow empty (Sent (Dtr1 1) None ∷ busy_while_at_work) next ↔ MayFollow empty first_frame next)
    × (IsPlanned empty (Sent (Dtr1 1) None ∷ busy_while_at_work) next ↔ IsPlanned empty first_frame next)
behind_a_refused_order law next =
    law empty begun (Sent (Dtr1 1) None ∷ []) second_order 9 replies.Busy next tt (λ same. cc)
