-- Runs over a bus.
use Rattle.std.proofs.Common.{◌≡◌, ℕ, List, [], ◌∷◌, refl, sym, subst, ap, ◌∙◌, Option, Some, Result}
use Rattle.std.specs.List.{AllByRecursion}
use Rattle.dali_bus.specs.Chain.{IsChain}
use Rattle.dali_address.specs.Keeps.{LeavesUnitsAt, Rests}
use Rattle.dali_address.specs.Places.{three_of_random}
use Rattle.dali_address.specs.Rights.{IsRead, IsReadBack, MayTell, IsRightWant}
use Rattle.dali_address.specs.Runs.{IsTrueLine, end_of, HasRun, IsRunning}
use Rattle.dali_address.specs.Said.{named_by}
use Rattle.dali_address.specs.Steps.{Exchange, Step}
use Rattle.dali_address.specs.Tasks.{MaySend, Takes, LeavesAddressed}
use Rattle.dali_address.specs.Told.{Told, IsWanted, IsSaying, task_of}
use Rattle.dali_address.specs.Units.{Three, Units}
use Rattle.dali_address.specs.declared.addressing.Addressing.{Addressing}
use Rattle.dali_address.specs.declared.call.Call.{Call}
use Rattle.dali_address.specs.declared.call.Call.TheVariants.{Terminate, InitialiseAll, InitialiseMissing, InitialiseAt}
use Rattle.dali_address.specs.declared.call.Call.TheVariants.{Randomise, Compare, Withdraw, SearchHigh, SearchMiddle}
use Rattle.dali_address.specs.declared.call.Call.TheVariants.{SearchLow, Program, Remove, AskShort, AskMissing}
use Rattle.dali_address.specs.declared.call.Call.TheVariants.{AskPresent, AskRandomHigh, AskRandomMiddle, AskRandomLow}
use Rattle.dali_address.specs.declared.task.Line.{Line}
use Rattle.dali_address.specs.declared.task.Line.TheVariants.{Unit as UnitLine, Shared}
use Rattle.dali_address.specs.declared.task.Summary.{Summary}
use Rattle.dali_address.specs.declared.task.Task.{Task}
use Rattle.dali_address.specs.declared.task.Task.TheVariants.{Give, All, List as ListTask, Close}
use Rattle.dali_address.proofs.KeepLemmas.{rests_along}
use Rattle.dali_address.proofs.SaidLemmas.{names_are_true}

-- at first nothing was sent
pub none_sent : (task : Task) (first : Units) (run : Addressing) → task_of run ≡ task → Told [] run
    → IsRunning task first first run
none_sent task first run own told = record { past = []; states = []; chain = refl; own = own; told = told }

-- one more frame
pub one_more : (task : Task) (first old new : Units) (before after : Addressing) (call : Call) (answer : Option ℕ)
    → IsRunning task first old before → Step old (record { call = call; answer = answer }) new
    → IsWanted before call → task_of after ≡ task_of before
    → ((told : List Exchange) (sent : Call) → IsWanted before sent → Told told before
    → Told (record { call = sent; answer = answer } ∷ told) after)
    → IsRunning task first new after
one_more task first old new before after call answer running step wanted own told =
    record {
      past = record { call = call; answer = answer } ∷ running.past;
      states = old ∷ running.states;
      chain = (step, running.chain);
      own = own ∙ running.own;
      told = told running.past call wanted running.told;
    }

-- one more line, which changes no unit
pub one_said : (task : Task) (first old new : Units) (before after : Addressing) (line : Line)
    → IsRunning task first old before → new ≡ old → IsSaying before line → task_of after ≡ task_of before
    → ((told : List Exchange) (said : Line) → IsSaying before said → Told told before → Told told after)
    → IsRunning task first new after
one_said task first old new before after line running same saying own told =
    record {
      past = running.past;
      states = running.states;
      chain = subst (λ (it : Units). IsChain Step first running.past it running.states) (sym same) running.chain;
      own = own ∙ running.own;
      told = told running.past line saying running.told;
    }

-- three reads
pub read_named : (short : ℕ) (random : Three) (told : List Exchange) → IsRead short random told
    → (older : List Exchange) × (told ≡ named_by short random older)
read_named short random [] is = absurd is
read_named short random (third ∷ []) is = absurd is.1
read_named short random (third ∷ (second ∷ [])) is = absurd is.1.1
read_named short random (third ∷ (second ∷ (one ∷ older))) is = (
  older,
  ap (λ (it : Exchange). it ∷ (second ∷ (one ∷ older))) is.0
      ∙ ap (λ (it : Exchange). record { call = AskRandomLow short; answer = Some random.low } ∷ (it ∷ (one ∷ older)))
      is.1.0
      ∙ ap (λ (it : Exchange). record { call = AskRandomLow short; answer = Some random.low }
      ∷ (record { call = AskRandomMiddle short; answer = Some random.middle } ∷ (it ∷ older))) is.1.1.0,
)

back_read : (short : ℕ) (random : Three) (told : List Exchange) → IsReadBack short random told
    → IsRead short random told
back_read short random [] is = absurd is
back_read short random (newest ∷ past) is = is.0

line_so : (line : Line) (first : Units) (past : List Exchange) (last : Units) (states : List Units)
    → IsChain Step first past last states → MayTell line past → IsTrueLine line last
line_so (UnitLine short random) first past last states chain may =
    let (older, is) = read_named short (three_of_random random) past
    (back_read short (three_of_random random) past may.1) in
    names_are_true first older last states short (three_of_random random)
    (subst (λ (it : List Exchange). IsChain Step first it last states) is chain)
line_so (Shared short) first past last states chain may = tt

-- each line is true when it is reported
pub line_true : (task : Task) (first last : Units) (run : Addressing) (line : Line) → IsRunning task first last run
    → ((told : List Exchange) → Told told run → MayTell line told) → IsTrueLine line last
line_true task first last run line running may =
    line_so line first running.past last running.states running.chain (may running.past running.told)

-- at the end
pub has_run : (task : Task) (first last : Units) (run : Addressing) (end : Result Summary ℕ)
    → IsRunning task first last run
    → ((told : List Exchange) → Told told run → IsRightWant (task_of run) told (end_of end))
    → HasRun task first end last
has_run task first last run end running right =
    record {
      past = running.past;
      states = running.states;
      chain = running.chain;
      sent = subst (λ (it : Task). AllByRecursion (λ (exchange : Exchange). MaySend it exchange.call) running.past)
          running.own running.told.sent;
      right = running.told.right;
      ended = subst (λ (it : Task). IsRightWant it running.past (end_of end)) running.own
          (right running.past running.told);
    }

none_taken : (task : Task) → LeavesAddressed task → Takes task → ⊥
none_taken Give leaves takes = takes
none_taken All leaves takes = leaves
none_taken ListTask leaves takes = takes
none_taken Close leaves takes = takes

leaves_units : (own : ℕ) (task : Task) (call : Call) → LeavesAddressed task → MaySend task call → LeavesUnitsAt own call
leaves_units own task Terminate leaves may = tt
leaves_units own task InitialiseAll leaves may = absurd may
leaves_units own task InitialiseMissing leaves may = tt
leaves_units own task (InitialiseAt at) leaves may = absurd (none_taken task leaves may)
leaves_units own task Randomise leaves may = tt
leaves_units own task Compare leaves may = tt
leaves_units own task Withdraw leaves may = absurd may
leaves_units own task (SearchHigh byte) leaves may = tt
leaves_units own task (SearchMiddle byte) leaves may = tt
leaves_units own task (SearchLow byte) leaves may = tt
leaves_units own task (Program at) leaves may = tt
leaves_units own task Remove leaves may = tt
leaves_units own task AskShort leaves may = tt
leaves_units own task AskMissing leaves may = tt
leaves_units own task (AskPresent at) leaves may = tt
leaves_units own task (AskRandomHigh at) leaves may = tt
leaves_units own task (AskRandomMiddle at) leaves may = tt
leaves_units own task (AskRandomLow at) leaves may = tt

all_leave : (own : ℕ) (task : Task) (past : List Exchange) → LeavesAddressed task
    → AllByRecursion (λ exchange. MaySend task exchange.call) past
    → AllByRecursion (λ exchange. LeavesUnitsAt own exchange.call) past
all_leave own task [] leaves sent = tt
all_leave own task (newest ∷ past) leaves sent =
    (leaves_units own task newest.call leaves sent.0, all_leave own task past leaves sent.1)

pub others_stay : (task : Task) (first last : Units) (end : Result Summary ℕ) → HasRun task first end last
    → LeavesAddressed task → (short : ℕ) (random : Three) (number : ℕ) → Rests short random number first
    → Rests short random number last
others_stay task first last end run leaves short random number rests =
    rests_along first run.past last run.states short (all_leave short task run.past leaves run.sent) run.chain random
    number rests
