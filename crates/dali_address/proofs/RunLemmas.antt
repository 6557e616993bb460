-- The exchanges of a run are kept after a line.
use Rattle.std.proofs.Common.{◌≡◌, List, sym, subst}
use Rattle.std.specs.List.{AllByRecursion}
use Rattle.dali_address.specs.Evidences.{Stands}
use Rattle.dali_address.specs.Steps.{Exchange}
use Rattle.dali_address.specs.Tasks.{MaySend}
use Rattle.dali_address.specs.Told.{Told, IsGoing}
use Rattle.dali_address.specs.declared.addressing.Addressing.{Addressing}
use Rattle.dali_address.specs.declared.evidence.Evidence.{Evidence}
use Rattle.dali_address.specs.declared.task.Task.{Task}

-- after a line
pub told_on : (told : List Exchange) (old new : Addressing) → new.task ≡ old.task → new.evidence ≡ old.evidence
    → Told told old → IsGoing told new → Told told new
told_on told old new task evidence was going =
    record {
      stands = subst (λ (it : Evidence). Stands it told) (sym evidence) was.stands;
      going = going;
      sent = subst (λ (it : Task). AllByRecursion (λ (exchange : Exchange). MaySend it exchange.call) told) (sym task)
          was.sent;
      right = was.right;
    }
