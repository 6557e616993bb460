-- The next happening after a trace, found from the trace alone.
use Rattle.std.specs.Prelude.{◌≡◌, ℕ, List, Option}
use Rattle.dali_trace.specs.declared.happening.Want.{Want}
use Rattle.dali_trace.specs.declared.happening.Want.TheVariants.{Keep, Send, Say}
use Rattle.dali_trace.specs.declared.happening.Want.TheVariants as wants
use Rattle.dali_trace.specs.declared.happening.Happening.{Happening}
use Rattle.dali_trace.specs.declared.happening.Happening.TheVariants.{Answered, Sent, Kept}
use Rattle.dali_trace.specs.Trace.{Start}
use Rattle.dali_trace.specs.Legal.{MayFollow}
use Rattle.dali_trace.specs.ByPlan.{IsPlanned}
use Rattle.dali_trace.specs.Parts.{IsWork}

-- a record, a frame with any answer, a saying, or the reply that is due: the rules allow it, and the plan of the
-- session at hand asks for it
pub record IsNext (start : Start) (past : List Happening) (next : Happening) : Type 0 where
  pub work : IsWork next
  pub may : MayFollow start past next
  pub planned : IsPlanned start past next

-- it is done what is wanted: a record is kept, a frame sent and answered somehow, something said
abbrev pub IsDone : Want → Happening → Type 0
IsDone wants.Idle next = ⊥
IsDone (Keep entry) next = next ≡ Kept entry
IsDone (Send frame) next = (answer : Option ℕ) × (next ≡ Sent frame answer)
IsDone (Say id reply) next = next ≡ Answered id reply

-- the same record, frame or saying; a frame may be answered otherwise
abbrev pub IsSameBut : Happening → Happening → Type 0
IsSameBut (Sent frame answer) other = (heard : Option ℕ) × (other ≡ Sent frame heard)
IsSameBut next other = other ≡ next
