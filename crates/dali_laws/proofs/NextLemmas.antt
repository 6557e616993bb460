-- One thing is next at most: how an order ended is said, the waiting order is begun, or it is done what the plan asks
-- for, and no two of them at once.
use Rattle.std.proofs.Common.{◌≡◌, refl, sym, ap, ◌∙◌, true, false, ℕ, List, [], ◌∷◌, Option, Some, None, IsSome}
use Rattle.std.specs.Prelude.{⊤}
use Rattle.dali_bank.specs.Order.{Contents}
use Rattle.dali_journal.specs.declared.record.Code.{Code}
use Rattle.dali_journal.specs.declared.record.Code.TheVariants as codes
use Rattle.dali_journal.specs.declared.record.Record.{Record}
use Rattle.dali_journal.specs.declared.record.Record.TheVariants.{Began, Opened, Ended, Closed}
use Rattle.dali_journal.specs.declared.kept.Progress.{Progress}
use Rattle.dali_journal.specs.declared.kept.Progress.TheVariants as reached
use Rattle.dali_journal.specs.declared.standing.Standing.{Standing}
use Rattle.dali_journal.specs.declared.standing.Standing.TheVariants as standings
use Rattle.dali_journal.specs.Sentence.{Allows}
use Rattle.dali_journal.specs.Orders.{orders_of, kept_of}
use Rattle.dali_frame.specs.declared.forward.Frame.{Frame}
use Rattle.dali_write.specs.Exchanges.{Exchange}
use Rattle.dali_write.specs.declared.ask.Ask.{Ask}
use Rattle.dali_write.specs.declared.ask.Ask.TheVariants as asks
use Rattle.dali_write.specs.declared.ask.Verdict.{Verdict}
use Rattle.dali_write.specs.declared.ask.Verdict.TheVariants as verdicts
use Rattle.dali_write.specs.Plans.{read_length, unlock, close}
use Rattle.dali_write.proofs.DeterminedLemmas.{wants_one}
use Rattle.dali_trace.specs.declared.happening.Reply.TheVariants as replies
use Rattle.dali_trace.specs.declared.happening.Happening.{Happening}
use Rattle.dali_trace.specs.declared.happening.Happening.TheVariants.{Asked, Answered, Sent, Kept}
use Rattle.dali_trace.specs.Trace.{pace_at, waiting_since}
use Rattle.dali_trace.specs.Trace.{Start, records_of, standing_at, waiting, has_ended, is_at_work, is_busy, is_full}
use Rattle.dali_trace.specs.Trace.{outstanding_of}
use Rattle.dali_trace.specs.Legal.{EndsAs, HasNumber, IsDue, MaySend, MayHappen, Replies, Legal}
use Rattle.dali_trace.specs.Grounds.{verdict_of, EndsIn}
use Rattle.dali_trace.specs.ByPlan.{told_in, Asks, IsPlanned}
use Rattle.dali_trace.specs.Parts.{IsWork}
use Rattle.dali_trace.specs.Next.{IsNext, IsSameBut}
use Rattle.dali_laws.proofs.ReplyLemmas.{only_due}
use Rattle.dali_laws.proofs.TakenLemmas.{none_waits_ended}
use Rattle.dali_laws.proofs.OnPlanLemmas.{waits_on, closed_verdict}
use Rattle.dali_laws.proofs.WorkLemmas.{ended_idle}
use Rattle.dali_write.specs.declared.pace.Pace.{Pace}

-- The next happening by the plan

-- a session is at hand: that of the order at work, or one that closes the left unit while an order waits
abbrev IsAtHand : Standing → Option Contents → Type 0
IsAtHand standings.Idle waits = ⊥
IsAtHand (standings.Left unit) waits = IsSome waits
IsAtHand stands waits = ⊤

-- it is done what is asked for: the frame is sent, or the end is kept or said
abbrev Does : Standing → Option Contents → Ask → Happening → Type 0
Does stands waits (asks.Send frame) next = (answer : Option ℕ) × (next ≡ Sent frame answer)
Does (standings.Left unit) waits (asks.Ended verdicts.NotClosed) next =
    (id : ℕ) × HasNumber id waits × (next ≡ Answered id (replies.Blocked unit))
Does stands waits (asks.Ended verdict) next = (entry : Record) × EndsIn stands verdict entry × (next ≡ Kept entry)

asks_one : (pace : Pace) (stands : Standing) (told : List Exchange) (one other : Ask) → Asks pace stands told one
    → Asks pace stands told other → one ≡ other
asks_one pace standings.Idle told one other first second = absurd first
asks_one pace (standings.Began order) told one other first second =
    wants_one told order.unit (read_length pace order.updates) one other first second
asks_one pace (standings.Opened order) told one other first second =
    wants_one told order.unit (unlock pace order.updates) one other first second
asks_one pace (standings.Left unit) told one other first second =
    wants_one told unit (close verdicts.Closed verdicts.NotClosed) one other first second

-- no code tells that an order may be opened
not_opened : (code : Code) → verdict_of (Ended code) ≡ Some verdicts.MayOpen → ⊥
not_opened codes.Done e = cc
not_opened codes.Short e = cc
not_opened codes.Format e = cc
not_opened codes.Silent e = cc
not_opened codes.Doubt e = cc
not_opened codes.DoubtOpen e = cc

-- one record tells of a verdict
ends_one : (stands : Standing) (verdict : Verdict) (one other : Record) → EndsIn stands verdict one
    → EndsIn stands verdict other → other ≡ one
ends_one (standings.Began order) verdict (Opened unit) (Opened left) first second =
    let is = first.0 in let same = second.0 in cc
ends_one (standings.Left unit) verdict (Closed one) (Closed other) first second =
    let is = first.0 in let same = second.0 in cc
ends_one (standings.Began order) verdict (Opened unit) (Ended code) first second =
    absurd (not_opened code (second.1 ∙ sym first.1))
ends_one (standings.Began order) verdict (Ended codes.Short) (Ended codes.Short) first second = refl
ends_one (standings.Began order) verdict (Ended codes.Format) (Ended codes.Format) first second = refl
ends_one (standings.Began order) verdict (Ended codes.Silent) (Ended codes.Silent) first second = refl
ends_one (standings.Opened order) verdict (Ended codes.Done) (Ended codes.Done) first second = refl
ends_one (standings.Opened order) verdict (Ended codes.Doubt) (Ended codes.Doubt) first second = refl
ends_one (standings.Opened order) verdict (Ended codes.DoubtOpen) (Ended codes.DoubtOpen) first second = refl
ends_one standings.Idle verdict (Began order moment) _ first second = let told = first.1 in cc
ends_one standings.Idle verdict _ _ first second = absurd first.0
ends_one (standings.Began order) verdict (Closed unit) _ first second = absurd first.0
ends_one (standings.Began order) verdict (Ended codes.Done) _ first second = absurd first.0
ends_one (standings.Began order) verdict (Ended codes.Doubt) _ first second = absurd first.0
ends_one (standings.Began order) verdict (Ended codes.DoubtOpen) _ first second = absurd first.0
ends_one (standings.Opened order) verdict (Opened unit) _ first second = absurd first.0
ends_one (standings.Opened order) verdict (Closed unit) _ first second = absurd first.0
ends_one (standings.Opened order) verdict (Ended codes.Short) _ first second = absurd first.0
ends_one (standings.Opened order) verdict (Ended codes.Format) _ first second = absurd first.0
ends_one (standings.Opened order) verdict (Ended codes.Silent) _ first second = absurd first.0
ends_one (standings.Left unit) verdict (Opened left) _ first second = absurd first.0
ends_one (standings.Left unit) verdict (Ended code) _ first second = absurd first.0
ends_one (standings.Left unit) verdict (Closed one) (Ended code) first second = absurd second.0
ends_one _ verdict _ _ first second = let told = first.1 in let other = second.1 in cc

number_one : (one other : ℕ) (waits : Option Contents) → HasNumber one waits → HasNumber other waits → other ≡ one
number_one one other None first second = absurd first
number_one one other (Some order) first second = cc

kept_one : (stands : Standing) (verdict : Verdict) (one other : Happening)
    → (entry : Record) × EndsIn stands verdict entry × (one ≡ Kept entry)
    → (entry : Record) × EndsIn stands verdict entry × (other ≡ Kept entry) → IsSameBut one other
kept_one stands verdict one other first second =
    rw first.2 (second.2 ∙ ap Kept (ends_one stands verdict first.0 second.0 first.1 second.1))

does_one : (stands : Standing) (waits : Option Contents) (ask : Ask) (one other : Happening) → Does stands waits ask one
    → Does stands waits ask other
    → IsSameBut one other
does_one stands waits (asks.Send frame) one other first second = rw first.1 second
does_one (standings.Left unit) waits (asks.Ended verdicts.NotClosed) one other first second =
    rw first.2
    (second.2 ∙ ap (λ id. Answered id (replies.Blocked unit)) (number_one first.0 second.0 waits first.1 second.1))
does_one (standings.Left unit) waits (asks.Ended verdict) one other first second =
    kept_one (standings.Left unit) verdict one other first second
does_one stands waits (asks.Ended verdict) one other first second = kept_one stands verdict one other first second

-- The next happening

-- if no reply is due: an end is said, the waiting order begun, or the session goes on
data Due (start : Start) (past : List Happening) (next : Happening) : Type 0 where
  Says : (id : ℕ) (code : Code) → has_ended past ≡ true → EndsAs id code (orders_of (records_of start past))
      → next ≡ Answered id (replies.Kept code)
      → Due start past next
  Begins : (order : Contents) → standing_at start past ≡ standings.Idle → waiting past ≡ Some order
      → next ≡ Kept (Began order (waiting_since past)) → Due start past next
  Continues : (ask : Ask) → Asks (pace_at start past) (standing_at start past) (told_in past) ask
      → IsAtHand (standing_at start past) (waiting past)
      → Does (standing_at start past) (waiting past) ask next → Due start past next

idle_began : (stands : Standing) (order : Contents) (moment : ℕ) → Allows stands (Began order moment)
    → stands ≡ standings.Idle
idle_began standings.Idle order moment allowed = refl
idle_began stands order moment allowed = absurd allowed

sent_at_hand : (pace : Pace) (past : List Happening) (stands : Standing) (told : List Exchange) (frame : Frame)
    → MaySend past stands frame
    → Asks pace stands told (asks.Send frame) → IsAtHand stands (waiting past)
sent_at_hand pace past standings.Idle told frame may asked = asked
sent_at_hand pace past (standings.Left unit) told frame may asked = waits_on past unit frame may
sent_at_hand pace past stands told frame may asked = tt

kept_at_hand : (past : List Happening) (stands : Standing) (verdict : Verdict) (entry : Record) → IsDue past entry
    → EndsIn stands verdict entry
    → IsAtHand stands (waiting past)
kept_at_hand past standings.Idle verdict (Began order moment) due ends = let none = ends.1 in cc
kept_at_hand past standings.Idle verdict entry due ends = absurd ends.0
kept_at_hand past (standings.Left unit) verdict entry due ends =
    let is = (closed_verdict unit verdict entry ends).1 in (rw is at due).0
kept_at_hand past stands verdict entry due ends = tt

does_keep : (stands : Standing) (waits : Option Contents) (verdict : Verdict) (entry : Record)
    → EndsIn stands verdict entry
    → Does stands waits (asks.Ended verdict) (Kept entry)
does_keep (standings.Left unit) waits verdicts.NotClosed entry ends =
    let no = (closed_verdict unit verdicts.NotClosed entry ends).0 in cc
does_keep (standings.Left unit) waits verdict entry ends = (entry, ends, refl)
does_keep stands waits verdict entry ends = (entry, ends, refl)

kept_due : (start : Start) (past : List Happening) (entry : Record) → IsDue past entry
    → (verdict : Verdict) × Asks (pace_at start past) (standing_at start past) (told_in past) (asks.Ended verdict)
    × EndsIn (standing_at start past) verdict entry
    → Due start past (Kept entry)
kept_due start past entry due (verdict, asked, ends) =
    Continues (asks.Ended verdict) asked (kept_at_hand past (standing_at start past) verdict entry due ends)
    (does_keep (standing_at start past) (waiting past) verdict entry ends)

some_waits : (id : ℕ) (waits : Option Contents) → HasNumber id waits → IsSome waits
some_waits id None number = absurd number
some_waits id (Some order) number = refl

due : (start : Start) (past : List Happening) (next : Happening) → IsWork next → MayHappen start past next
    → IsPlanned start past next → Due start past next
due start past (Answered id (replies.Kept code)) work may planned = Says id code may.0 may.1 refl
due start past (Answered id (replies.Blocked unit)) work may planned =
    Continues (asks.Ended verdicts.NotClosed) planned (rw may.0 (some_waits id (waiting past) may.1))
    (rw may.0 (id, may.1, refl))
due start past (Answered id reply) work may planned = absurd may
due start past (Sent frame answer) work may planned =
    Continues (asks.Send frame) planned
    (sent_at_hand (pace_at start past) past (standing_at start past) (told_in past) frame may planned)
    (answer, refl)
due start past (Kept (Began order moment)) work may planned =
    Begins order (idle_began (standing_at start past) order moment may.whole.0.1) may.due.0
    (ap (λ m. Kept (Began order m)) may.due.1)
due start past (Kept (Opened unit)) work may planned = kept_due start past (Opened unit) may.due planned
due start past (Kept (Ended code)) work may planned = kept_due start past (Ended code) may.due planned
due start past (Kept (Closed unit)) work may planned = kept_due start past (Closed unit) may.due planned
due start past other work may planned = absurd work

-- No two of them at once

ends_as_one : (one other : ℕ) (code last : Code) (orders : List (Contents × Progress)) → EndsAs one code orders
    → EndsAs other last orders
    → Answered other (replies.Kept last) ≡ Answered one (replies.Kept code)
ends_as_one one other code last ((order, reached.Ended newest) ∷ older) first second =
    let a = first.0 in let b = second.0 in let c = first.1 in let d = second.1 in cc
ends_as_one one other code last orders first second = absurd first

ended_not_waiting : {A : Type 0} (start : Start) (past : List Happening) (order : Contents) → Legal start past
    → has_ended past ≡ true
    → waiting past ≡ Some order → A
ended_not_waiting start past order legal ended waits = let none = none_waits_ended (outstanding_of past) ended in cc

ended_not_at_hand : {A : Type 0} (stands : Standing) (waits : Option Contents) → is_at_work stands ≡ false
    → waits ≡ None → IsAtHand stands waits → A
ended_not_at_hand standings.Idle waits idle none hand = absurd hand
ended_not_at_hand (standings.Left unit) waits idle none hand = let some : false ≡ true = rw none at hand in cc
ended_not_at_hand (standings.Began order) waits idle none hand = cc
ended_not_at_hand (standings.Opened order) waits idle none hand = cc

ended_not_on : {A : Type 0} (start : Start) (past : List Happening) → Legal start past → has_ended past ≡ true
    → IsAtHand (standing_at start past) (waiting past) → A
ended_not_on start past legal ended hand =
    ended_not_at_hand (standing_at start past) (waiting past) (ended_idle start past legal ended)
    (none_waits_ended (outstanding_of past) ended) hand

idle_not_on : {A : Type 0} (stands : Standing) (waits : Option Contents) → stands ≡ standings.Idle
    → IsAtHand stands waits → A
idle_not_on stands waits idle hand = let none : ⊥ = rw idle at hand in absurd none

one_due : (start : Start) (past : List Happening) (one other : Happening) → Legal start past → Due start past one
    → Due start past other → IsSameBut one other
one_due start past one other legal (Says id code ended ends is) (Says number last _ so same) =
    rw is (same ∙ ends_as_one id number code last (orders_of (records_of start past)) ends so)
one_due start past one other legal (Begins order idle waits is) (Begins waiter _ so same) =
    let begun : waiter ≡ order = cc in rw is (same ∙ ap (λ o. Kept (Began o (waiting_since past))) begun)
one_due start past one other legal (Continues ask asked hand does) (Continues wish wished _ did) =
    let same = asks_one (pace_at start past) (standing_at start past) (told_in past) wish ask wished asked in
    does_one (standing_at start past) (waiting past) ask one other does (rw same at did)
one_due start past one other legal (Says id code ended ends is) (Begins order idle waits same) =
    ended_not_waiting start past order legal ended waits
one_due start past one other legal (Begins order idle waits is) (Says id code ended ends same) =
    ended_not_waiting start past order legal ended waits
one_due start past one other legal (Says id code ended ends is) (Continues ask asked hand does) =
    ended_not_on start past legal ended hand
one_due start past one other legal (Continues ask asked hand does) (Says id code ended ends same) =
    ended_not_on start past legal ended hand
one_due start past one other legal (Begins order idle waits is) (Continues ask asked hand does) =
    idle_not_on (standing_at start past) (waiting past) idle hand
one_due start past one other legal (Continues ask asked hand does) (Begins order idle waits same) =
    idle_not_on (standing_at start past) (waiting past) idle hand

one_reply : (start : Start) (past : List Happening) (order : Contents) (one other : Happening)
    → Replies start past order one → Replies start past order other
    → IsSameBut one other
one_reply start past order (Answered id reply) (Answered number last) first second =
    let a = first.0 in let b = second.0 in
    let same =
    only_due order (kept_of order.id (records_of start past)) (is_busy start past) (is_full start past) reply last
    first.1 second.1 in
    cc
one_reply start past order (Answered id reply) other first second = absurd second
one_reply start past order one other first second = absurd first

pub one_next : (start : Start) (past : List Happening) (one other : Happening) → Legal start past
    → IsNext start past one → IsNext start past other
    → IsSameBut one other
one_next start (Asked order moment ∷ past) one other legal first second =
    one_reply start past order one other first.may second.may
one_next start [] one other legal first second =
    one_due start [] one other legal (due start [] one first.work first.may first.planned)
    (due start [] other second.work second.may second.planned)
one_next start (newest ∷ past) one other legal first second =
    one_due start (newest ∷ past) one other legal (due start (newest ∷ past) one first.work first.may first.planned)
    (due start (newest ∷ past) other second.work second.may second.planned)
