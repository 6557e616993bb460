-- If all is said nothing is done until an order is taken.
use Rattle.std.proofs.Common.{◌≡◌, refl, true, false, ℕ, List, [], ◌∷◌, ◌++◌, None}
use Rattle.dali_frame.specs.declared.forward.Frame.{Frame}
use Rattle.dali_frame.specs.declared.forward.Frame.TheVariants.{Dtr0, Dtr1, Write, Enable, AskDtr0, AskDtr1, Read}
use Rattle.dali_journal.specs.declared.record.Record.{Record}
use Rattle.dali_journal.specs.declared.record.Record.TheVariants.{Began, Opened, Ended, Closed}
use Rattle.dali_journal.specs.declared.standing.Standing.{Standing}
use Rattle.dali_journal.specs.declared.standing.Standing.TheVariants as standings
use Rattle.dali_trace.specs.declared.happening.Reply.{Reply}
use Rattle.dali_trace.specs.declared.happening.Reply.TheVariants as replies
use Rattle.dali_trace.specs.declared.happening.Happening.{Happening}
use Rattle.dali_trace.specs.declared.happening.Happening.TheVariants.{Asked, Answered, Sent, Kept, Stopped}
use Rattle.dali_trace.specs.Trace.{Start, records_of, standing_at, waiting, is_unsaid, is_at_work, is_busy, outstanding_of}
use Rattle.dali_trace.specs.Legal.{Serves, MaySay, MaySend, MayKeep, Legal}
use Rattle.dali_trace.specs.Quiet.{NoneTaken, NoneSent}
use Rattle.dali_laws.proofs.SafeLemmas.{may_keep, may_send}
use Rattle.dali_laws.proofs.TakenLemmas.{neither, ended_unsaid, none_waits, no_opened, no_ended}

-- if no order is at work and none waits

serves_none : {A : Type 0} (past : List Happening) (stands : Standing) (unit : ℕ) → is_at_work stands ≡ false
    → waiting past ≡ None
    → Serves past stands unit → A
serves_none past standings.Idle unit idle none serves = absurd serves
serves_none past (standings.Began order) unit idle none serves = cc
serves_none past (standings.Opened order) unit idle none serves = cc
serves_none past (standings.Left left) unit idle none serves = let some : false ≡ true = rw none at serves.1 in cc

sends_none : {A : Type 0} (past : List Happening) (stands : Standing) (frame : Frame) → is_at_work stands ≡ false
    → waiting past ≡ None
    → MaySend past stands frame → A
sends_none past stands (Dtr0 byte) idle none may = serves_none past stands may.0 idle none may.1
sends_none past stands (Dtr1 byte) idle none may = serves_none past stands may.0 idle none may.1
sends_none past stands (AskDtr0 unit) idle none may = serves_none past stands unit idle none may
sends_none past stands (AskDtr1 unit) idle none may = serves_none past stands unit idle none may
sends_none past stands (Read unit) idle none may = serves_none past stands unit idle none may
sends_none past stands (Enable unit) idle none may = serves_none past stands unit idle none may.0
sends_none past stands (Write byte) idle none may = serves_none past stands may.unit idle none may.serves
sends_none past stands frame idle none may = absurd may

-- what is so if nothing is to be done
pub record IsStill (start : Start) (past : List Happening) : Type 0 where
  pub idle : is_at_work (standing_at start past) ≡ false
  pub said : is_unsaid past ≡ false
  pub none : waiting past ≡ None

pub is_still : (start : Start) (past : List Happening) → Legal start past → is_busy start past ≡ false
    → IsStill start past
is_still start past legal e =
    let both = neither (is_at_work (standing_at start past)) (is_unsaid past) e in
    record { idle = both.0; said = both.1; none = none_waits (outstanding_of past) both.1 }

keeps_none : {A : Type 0} (start : Start) (past : List Happening) (entry : Record) → IsStill start past
    → MayKeep start past entry → A
keeps_none start past (Began order moment) still may = let due = may.due in let none = still.none in cc
keeps_none start past (Opened unit) still may = no_opened (standing_at start past) unit still.idle may.whole.0.1
keeps_none start past (Ended code) still may = no_ended (standing_at start past) code still.idle may.whole.0.1
keeps_none start past (Closed unit) still may = let some : false ≡ true = rw still.none at may.due.0 in cc

says_none : {A : Type 0} (start : Start) (past : List Happening) (id : ℕ) (reply : Reply) → IsStill start past
    → MaySay start past id reply → A
says_none start past id (replies.Kept code) still may =
    let unsaid = ended_unsaid (outstanding_of past) may.0 in let said = still.said in cc
says_none start past id (replies.Blocked unit) still may = absurd (rw still.none at may.1)
says_none start past id reply still may = absurd may

-- an answer that takes no order
after_answer : (start : Start) (past : List Happening) (id : ℕ) (reply : Reply) → Legal start (Answered id reply ∷ past)
    → IsStill start past
    → (reply ≡ replies.Taken → ⊥) → IsStill start (Answered id reply ∷ past)
after_answer start (Asked order moment ∷ past) id replies.Taken legal still not = absurd (not refl)
after_answer start (Asked order moment ∷ past) id (replies.Kept code) legal still not =
    record { idle = still.idle; said = still.said; none = still.none }
after_answer start (Asked order moment ∷ past) id replies.IdReused legal still not =
    record { idle = still.idle; said = still.said; none = still.none }
after_answer start (Asked order moment ∷ past) id replies.Busy legal still not =
    record { idle = still.idle; said = still.said; none = still.none }
after_answer start (Asked order moment ∷ past) id replies.Full legal still not =
    record { idle = still.idle; said = still.said; none = still.none }
after_answer start (Asked order moment ∷ past) id (replies.Blocked unit) legal still not =
    record { idle = still.idle; said = still.said; none = still.none }
after_answer start past id reply legal still not = says_none start past id reply still legal.1

-- nothing is done until an order is taken
pub stays_still : (start : Start) (past more : List Happening) → Legal start (more ++ past) → is_busy start past ≡ false
    → NoneTaken more
    → IsStill start (more ++ past) × NoneSent more × (records_of start (more ++ past) ≡ records_of start past)
stays_still start past [] legal e none = (is_still start past legal e, refl, refl)
stays_still start past (Answered id replies.Taken ∷ more) legal e none = absurd none
stays_still start past (Answered id reply ∷ more) legal e none =
    let before = stays_still start past more legal.0 e none in
    (after_answer start (more ++ past) id reply legal before.0 (λ same. cc), before.1, before.2)
stays_still start past (Sent frame answer ∷ more) legal e none =
    let before = stays_still start past more legal.0 e none in
    sends_none (more ++ past) (standing_at start (more ++ past)) frame before.0.idle before.0.none
    (may_send start (more ++ past) frame answer legal.1)
stays_still start past (Kept entry ∷ more) legal e none =
    let before = stays_still start past more legal.0 e none in
    keeps_none start (more ++ past) entry before.0 (may_keep start (more ++ past) entry legal.1)
stays_still start past (Stopped pace ∷ more) legal e none =
    let before = stays_still start past more legal.0 e none in
    (record { idle = before.0.idle; said = refl; none = refl }, before.1, before.2)
stays_still start past (_ ∷ more) legal e none =
    let before = stays_still start past more legal.0 e none in
    (record { idle = before.0.idle; said = before.0.said; none = before.0.none }, before.1, before.2)
