-- An order that is submitted gets the reply that is due, and the trace describes the writer.
use Rattle.std.proofs.Common.{◌≡◌, ◌⊎◌, inl, inr, refl, sym, ap, ◌∙◌, subst, ℕ, ◌≤◌, ◌<◌, Bool, true, false, ◌==◌, ◌||◌}
use Rattle.std.proofs.Common.{nat_le, List, [], ◌∷◌, arith}
use Rattle.std.specs.Prelude.{◌↔◌, IsTrue, ⊤}
use Rattle.std.proofs.Math.Dec.{leb}
use Rattle.std.proofs.lemmas.Bool.Decides.{nat_tests, leb_tells}
use Rattle.dali_bank.specs.Order.{Contents}
use Rattle.dali_journal.specs.declared.record.Code.{Code}
use Rattle.dali_journal.specs.declared.record.Code.TheVariants as codes
use Rattle.dali_journal.specs.declared.record.Record.{Record}
use Rattle.dali_journal.specs.declared.record.Record.TheVariants.{Began, Opened, Ended, Closed}
use Rattle.dali_journal.specs.declared.standing.Standing.{Standing}
use Rattle.dali_journal.specs.declared.standing.Standing.TheVariants as standings
use Rattle.dali_journal.specs.declared.kept.Progress.{Progress}
use Rattle.dali_journal.specs.declared.kept.Progress.TheVariants as reached
use Rattle.dali_journal.specs.declared.kept.Kept.{Kept}
use Rattle.dali_journal.specs.declared.kept.Kept.TheVariants as kepts
use Rattle.dali_journal.specs.Sentence.{Allows, standing_of, next_standing, is_begun, IsSentence}
use Rattle.dali_journal.specs.Orders.{orders_of, come_to, kept_at, kept_among, kept_of}
use Rattle.dali_journal.specs.JournalState.{JournalState, HasRoom, MayBegin, order_count}
use Rattle.dali_write.specs.Told.{unit_of, aim_of, IsClosing}
use Rattle.dali_trace.specs.declared.happening.Reply.{Reply}
use Rattle.dali_trace.specs.declared.happening.Reply.TheVariants as replies
use Rattle.dali_trace.specs.declared.happening.Happening.{Happening}
use Rattle.dali_trace.specs.declared.happening.Happening.TheVariants.{Asked, Answered}
use Rattle.dali_engine.specs.declared.phase.Phase.{Phase}
use Rattle.dali_engine.specs.declared.phase.Phase.TheVariants.{Idle, Begins, Checks, Writes, Closes, Says}
use Rattle.dali_trace.specs.Trace.{Start, records_of, is_at_work, is_busy, is_full}
use Rattle.dali_trace.specs.Replies.{IsNotEnded, IsReplyBy, IsReply, IsKnownReply}
use Rattle.dali_engine.specs.Phases.{want_of, is_idle, is_wanting}
use Rattle.dali_engine.specs.WriterState.{WriterState, IsReady, IsFirst}
use Rattle.dali_engine.specs.Describes.{IsAt, Describes}
use Rattle.dali_laws.proofs.RepeatLemmas.{never_absent}
use Rattle.dali_laws.proofs.AgreeLemmas.{may_follow}
use Rattle.dali_engine.proofs.StepLemmas.{busy_at, check_wants, write_wants, closing_wants}
use Rattle.dali_write.specs.declared.pace.Pace.{Pace}

-- the replies by which nothing is taken
abbrev pub IsRefusal : Reply → Type 0
IsRefusal (replies.Kept code) = ⊤
IsRefusal replies.IdReused = ⊤
IsRefusal replies.Busy = ⊤
IsRefusal replies.Full = ⊤
IsRefusal _ = ⊥

-- after them a writer is where it was
stays : (phase : Phase) (past : List Happening) (order : Contents) (moment : ℕ) (id : ℕ) (reply : Reply)
    → IsRefusal reply
    → IsAt phase past
    → IsAt phase (Answered id reply ∷ Asked order moment ∷ past)
stays phase past order moment id replies.Taken refused at = absurd refused
stays phase past order moment id (replies.Blocked unit) refused at = absurd refused
stays Idle past order moment id _ refused at = at
stays _ past order moment id _ refused at = at

-- an order moment and its reply
asked : (start : Start) (past : List Happening) (old new : WriterState) (order : Contents) (moment : ℕ) (reply : Reply)
    → Describes start past old → IsReply start past order reply
    → new.journal.records ≡ old.journal.records → new.journal.limit ≡ old.journal.limit → new.pace ≡ old.pace
    → IsAt new.phase (Answered order.id reply ∷ Asked order moment ∷ past)
    → Describes start (Answered order.id reply ∷ Asked order moment ∷ past) new
asked start past old new order moment reply d due records limit keeps place = record {
  legal = ((d.legal, may_follow start past (Asked order moment) d.finished tt), (refl, due));
  finished = tt;
  same = d.same ∙ sym records;
  limit = d.limit ∙ sym limit;
  pace = d.pace ∙ sym keeps;
  place = place;
}

pub refused : (start : Start) (past : List Happening) (w : WriterState) (order : Contents) (moment : ℕ) (reply : Reply)
    → Describes start past w → IsRefusal reply → IsReply start past order reply
    → Describes start (Answered order.id reply ∷ Asked order moment ∷ past) w
refused start past w order moment reply d refusal due =
    asked start past w w order moment reply d due refl refl refl
    (stays w.phase past order moment order.id reply refusal d.place)

-- what the journal knows of the order
known_due : (order : Contents) (kept : Kept) (busy full : Bool) (reply : Reply) → IsKnownReply order kept reply
    → IsReplyBy order kept busy full reply
known_due order kept busy full (replies.Kept code) known = known
known_due order kept busy full replies.IdReused known = known
known_due order kept busy full _ known = absurd known

known_refusal : (order : Contents) (kept : Kept) (reply : Reply) → IsKnownReply order kept reply → IsRefusal reply
known_refusal order kept (replies.Kept code) known = tt
known_refusal order kept replies.IdReused known = tt
known_refusal order kept _ known = absurd known

pub known_on : (start : Start) (past : List Happening) (w : WriterState) (order : Contents) (moment : ℕ) (reply : Reply)
    → Describes start past w
    → IsKnownReply order (kept_of order.id w.journal.records) reply
    → Describes start (Answered order.id reply ∷ Asked order moment ∷ past) w
known_on start past w order moment reply d known =
    let kept = kept_of order.id (records_of start past) in
    let so : IsKnownReply order kept reply = rw d.same known in
    refused start past w order moment reply d (known_refusal order kept reply so)
    (known_due order kept (is_busy start past) (is_full start past) reply so)

-- a phase that isn't idle wants something, and an idle one nothing
idle_wants : (phase : Phase) → is_idle phase ≡ true → is_wanting (want_of phase) ≡ false
idle_wants Idle e = refl
idle_wants (Begins order moment) e = cc
idle_wants (Checks order s) e = cc
idle_wants (Writes order s) e = cc
idle_wants (Closes order moment s) e = cc
idle_wants (Says id code) e = cc

pub busy_on : (pace : Pace) (start : Start) (past : List Happening) (journal : JournalState) (phase : Phase)
    (order : Contents) (moment : ℕ)
    → Describes start past (record { journal = journal; phase = phase; pace = pace }) → IsReady pace phase journal
    → IsNotEnded order (kept_of order.id journal.records)
    → is_idle phase ≡ false → Describes start (Answered order.id replies.Busy ∷ Asked order moment ∷ past)
    (record { journal = journal; phase = phase; pace = pace })
busy_on pace start past journal phase order moment d ready fresh idle =
    let due : IsReply start past order replies.Busy = (rw d.same fresh, is_so phase d ready idle) in
    refused start past _ order moment replies.Busy d tt due where
      is_so : (phase : Phase) → Describes start past (record { journal = journal; phase = phase; pace = pace })
          → IsReady pace phase journal → is_idle phase ≡ false → is_busy start past ≡ true
      is_so Idle d ready e = cc
      is_so (Begins order moment) d ready e = busy_at pace start past journal (Begins order moment) d ready
      is_so (Checks order s) d ready e =
          busy_at pace start past journal (Checks order s) d ready ∙ check_wants order.unit (aim_of s)
      is_so (Writes order s) d ready e = busy_at pace start past journal (Writes order s) d ready
          ∙ write_wants (aim_of s)
      is_so (Closes order moment s) d ready e =
          busy_at pace start past journal (Closes order moment s) d ready
          ∙ closing_wants order.id (unit_of s) (aim_of s)
      is_so (Says id code) d ready e = busy_at pace start past journal (Says id code) d ready

full_is : (limit count : ℕ) → limit ≤ count → nat_le limit count ≡ true
full_is limit count le = grind (arith, nat_tests)

full_not : (limit count : ℕ) → count < limit → nat_le limit count ≡ false
full_not limit count less = grind (arith, nat_tests)

idle_busy : (pace : Pace) (start : Start) (past : List Happening) (journal : JournalState) (phase : Phase)
    → Describes start past (record { journal = journal; phase = phase; pace = pace })
    → IsReady pace phase journal → is_idle phase ≡ true → is_busy start past ≡ false
idle_busy pace start past journal phase d ready idle = busy_at pace start past journal phase d ready
    ∙ idle_wants phase idle

pub full_on : (pace : Pace) (start : Start) (past : List Happening) (journal : JournalState) (phase : Phase)
    (order : Contents) (moment : ℕ)
    → Describes start past (record { journal = journal; phase = phase; pace = pace }) → IsReady pace phase journal
    → IsNotEnded order (kept_of order.id journal.records)
    → is_idle phase ≡ true → journal.limit ≤ order_count journal
    → Describes start (Answered order.id replies.Full ∷ Asked order moment ∷ past)
    (record { journal = journal; phase = phase; pace = pace })
full_on pace start past journal phase order moment d ready fresh idle le =
    let full : is_full start past ≡ true = rw (d.same, d.limit) (full_is journal.limit (order_count journal) le) in
    refused start past _ order moment replies.Full d tt
    (rw d.same fresh, idle_busy pace start past journal phase d ready idle, full)

-- the place of a writer that has taken an order
first_place : (past : List Happening) (order : Contents) (moment : ℕ) (stands : Standing) (next : Phase)
    → IsFirst stands order moment next
    → IsAt next (Answered order.id replies.Taken ∷ Asked order moment ∷ past)
first_place past order moment standings.Idle next is =
    subst (λ (p : Phase). IsAt p (Answered order.id replies.Taken ∷ Asked order moment ∷ past)) (sym is) (refl, refl)
first_place past order moment (standings.Began other) next is =
    subst (λ (p : Phase). IsAt p (Answered order.id replies.Taken ∷ Asked order moment ∷ past)) (sym is) (refl, refl)
first_place past order moment (standings.Opened other) next is =
    subst (λ (p : Phase). IsAt p (Answered order.id replies.Taken ∷ Asked order moment ∷ past)) (sym is) (refl, refl)
first_place past order moment (standings.Left unit) next (s, is, at, closing, is_told) =
    subst (λ (p : Phase). IsAt p (Answered order.id replies.Taken ∷ Asked order moment ∷ past)) (sym is)
    (refl, refl, is_told)

-- if the first four replies don't apply, Taken is due
pub taken_due : (pace : Pace) (start : Start) (past : List Happening) (journal : JournalState) (phase : Phase)
    (order : Contents)
    → Describes start past (record { journal = journal; phase = phase; pace = pace }) → IsReady pace phase journal
    → IsNotEnded order (kept_of order.id journal.records)
    → is_idle phase ≡ true → order_count journal < journal.limit → IsReply start past order replies.Taken
taken_due pace start past journal phase order d ready fresh idle less =
    let room : is_full start past ≡ false = rw (d.same, d.limit) (full_not journal.limit (order_count journal) less) in
    (rw d.same fresh, idle_busy pace start past journal phase d ready idle, room)

pub taken_on : (pace : Pace) (start : Start) (past : List Happening) (journal new : JournalState) (phase next : Phase)
    (order : Contents) (moment : ℕ) (stands : Standing)
    → Describes start past (record { journal = journal; phase = phase; pace = pace }) → IsReady pace phase journal
    → IsNotEnded order (kept_of order.id journal.records)
    → is_idle phase ≡ true → order_count journal < journal.limit → new.records ≡ journal.records
    → new.limit ≡ journal.limit → IsFirst stands order moment next
    → Describes start (Answered order.id replies.Taken ∷ Asked order moment ∷ past)
    (record { journal = new; phase = next; pace = pace })
taken_on pace start past journal new phase next order moment stands d ready fresh idle less records limit first =
    asked start past _ _ order moment replies.Taken d
    (taken_due pace start past journal phase order d ready fresh idle less)
    records limit refl
    (first_place past order moment stands next first)

-- all these orders have ended
abbrev HaveEnded : List (Contents × Progress) → Type 0
HaveEnded [] = ⊤
HaveEnded ((order, reached.Ended code) ∷ older) = HaveEnded older
HaveEnded (newest ∷ older) = ⊥

-- what a sentence leaves of its orders: all but the one at work have ended
abbrev Leaves : Standing → List (Contents × Progress) → Type 0
Leaves standings.Idle orders = HaveEnded orders
Leaves (standings.Left unit) orders = HaveEnded orders
Leaves (standings.Began order) orders =
    (older : List (Contents × Progress)) × (orders ≡ (order, reached.Begun) ∷ older) × HaveEnded older
Leaves (standings.Opened order) orders =
    (older : List (Contents × Progress)) × (orders ≡ (order, reached.Open) ∷ older) × HaveEnded older

ended_now : (code : Code) (orders : List (Contents × Progress)) (order : Contents) (progress : Progress)
    (older : List (Contents × Progress))
    → orders ≡ (order, progress) ∷ older
    → HaveEnded older → HaveEnded (come_to (reached.Ended code) orders)
ended_now code orders order progress older is ended = rw is ended

leaves : (records : List Record) → IsSentence records → Leaves (standing_of records) (orders_of records)
leaves [] sentence = tt
leaves (entry ∷ older) sentence = by (standing_of older) entry sentence.1 (leaves older sentence.0) where
  by : (stands : Standing) (entry : Record) → Allows stands entry → Leaves stands (orders_of older)
      → Leaves (next_standing stands entry) (orders_of (entry ∷ older))
  by standings.Idle (Began order moment) allowed before = (orders_of older, refl, before)
  by (standings.Began order) (Opened unit) allowed before = (before.0, ap (come_to reached.Open) before.1, before.2)
  by (standings.Began order) (Ended codes.Short) allowed before =
      ended_now codes.Short (orders_of older) order reached.Begun before.0 before.1 before.2
  by (standings.Began order) (Ended codes.Format) allowed before =
      ended_now codes.Format (orders_of older) order reached.Begun before.0 before.1 before.2
  by (standings.Began order) (Ended codes.Silent) allowed before =
      ended_now codes.Silent (orders_of older) order reached.Begun before.0 before.1 before.2
  by (standings.Opened order) (Ended codes.Done) allowed before =
      ended_now codes.Done (orders_of older) order reached.Open before.0 before.1 before.2
  by (standings.Opened order) (Ended codes.Doubt) allowed before =
      ended_now codes.Doubt (orders_of older) order reached.Open before.0 before.1 before.2
  by (standings.Opened order) (Ended codes.DoubtOpen) allowed before =
      ended_now codes.DoubtOpen (orders_of older) order reached.Open before.0 before.1 before.2
  by (standings.Left unit) (Closed closed) allowed before = before
  by _ _ allowed before = absurd allowed

-- among orders that have ended none is found that hasn't
none_open : {A : Type 0} (id : ℕ) (orders : List (Contents × Progress)) (order : Contents) → HaveEnded orders
    → kept_among id orders ≡ kepts.Unfinished order → A
none_open id [] order ended e = cc
none_open id ((first, reached.Ended code) ∷ older) order ended e =
    by (λ later. none_open id older order ended later) (first.id == id) refl where
      by : {A : Type 0} → (kept_among id older ≡ kepts.Unfinished order → A) → (x : Bool) → (first.id == id) ≡ x → A
      by more true p = let found : kepts.Ended first code ≡ kepts.Unfinished order = rw p at e in cc
      by more false p = more (rw p at e)
none_open id ((first, reached.Begun) ∷ older) order ended e = absurd ended
none_open id ((first, reached.Open) ∷ older) order ended e = absurd ended

-- if no order is at work, all have ended
idle_ended : (stands : Standing) (orders : List (Contents × Progress)) → is_at_work stands ≡ false
    → Leaves stands orders
    → HaveEnded orders
idle_ended standings.Idle orders idle left = left
idle_ended (standings.Left unit) orders idle left = left
idle_ended (standings.Began order) orders idle left = cc
idle_ended (standings.Opened order) orders idle left = cc

-- an order that isn't kept was not begun
come_absent : (id : ℕ) (progress : Progress) (orders : List (Contents × Progress))
    → kept_among id (come_to progress orders) ≡ kepts.Absent → kept_among id orders ≡ kepts.Absent
come_absent id progress [] e = refl
come_absent id progress (newest ∷ older) e = by (newest.0.id == id) refl where
  by : (x : Bool) → (newest.0.id == id) ≡ x → kept_among id (newest ∷ older) ≡ kepts.Absent
  by true p = let some : kept_at newest.0 progress ≡ kepts.Absent = rw p at e in never_absent newest.0 progress some
  by false p = let none : kept_among id older ≡ kepts.Absent = rw p at e in rw p none

not_begun : (id : ℕ) (records : List Record) → kept_of id records ≡ kepts.Absent → is_begun id records ≡ false
not_begun id [] e = refl
not_begun id (Began order moment ∷ older) e = by (λ none. not_begun id older none) (order.id == id) refl where
  by : (kept_of id older ≡ kepts.Absent → is_begun id older ≡ false) → (x : Bool) → (order.id == id) ≡ x
      → (order.id == id || is_begun id older) ≡ false
  by more true p = let some : kepts.Unfinished order ≡ kepts.Absent = rw p at e in cc
  by more false p = let none : kept_of id older ≡ kepts.Absent = rw p at e in rw p (more none)
not_begun id (Opened unit ∷ older) e = not_begun id older (come_absent id reached.Open (orders_of older) e)
not_begun id (Ended code ∷ older) e = not_begun id older (come_absent id (reached.Ended code) (orders_of older) e)
not_begun id (Closed unit ∷ older) e = not_begun id older e

pub new_number : (records : List Record) (order : Contents) → IsSentence records
    → is_at_work (standing_of records) ≡ false → IsNotEnded order (kept_of order.id records)
    → is_begun order.id records ≡ false
new_number records order sentence idle fresh = by (kept_of order.id records) refl fresh where
  by : (kept : Kept) → kept_of order.id records ≡ kept → IsNotEnded order kept → is_begun order.id records ≡ false
  by kepts.Absent e is = not_begun order.id records e
  by (kepts.Unfinished old) e is =
      none_open order.id (orders_of records) old
      (idle_ended (standing_of records) (orders_of records) idle (leaves records sentence)) e
  by (kepts.Ended old code) e is = absurd is

-- the journal is ready for an order that is taken
is_left_idle : (pace : Pace) (stands : Standing) (order : Contents) (moment : ℕ) (next : Phase) (new : JournalState)
    → standing_of new.records ≡ stands → is_at_work stands ≡ false → IsFirst stands order moment next
    → MayBegin new (Began order moment) → IsReady pace next new
is_left_idle pace standings.Idle order moment next new at idle is may =
    subst (λ (p : Phase). IsReady pace p new) (sym is) (at, may)
is_left_idle pace (standings.Left unit) order moment next new at idle (s, is, same, closing, is_told) may =
    subst (λ (p : Phase). IsReady pace p new) (sym is)
    (at ∙ ap standings.Left (sym same), subst (λ (u : ℕ). IsClosing u s) (sym same) closing, may)
is_left_idle pace (standings.Began other) order moment next new at idle is may = cc
is_left_idle pace (standings.Opened other) order moment next new at idle is may = cc

pub ready_taken : (pace : Pace) (journal new : JournalState) (phase next : Phase) (order : Contents) (moment : ℕ)
    → IsSentence journal.records
    → IsReady pace phase journal
    → IsNotEnded order (kept_of order.id journal.records) → is_idle phase ≡ true → order_count journal < journal.limit
    → new.records ≡ journal.records → new.limit ≡ journal.limit → HasRoom new order
    → IsFirst (standing_of new.records) order moment next → IsReady pace next new
ready_taken pace journal new phase next order moment sentence ready fresh idle less records limit room first =
    let rest : is_at_work (standing_of journal.records) ≡ false = at_rest phase ready idle in
    let number = new_number journal.records order sentence rest fresh in
    is_left_idle pace (standing_of new.records) order moment next new refl (rw records rest) first
    (room, rw (records, limit) less, rw records number) where
      at_rest : (phase : Phase) → IsReady pace phase journal → is_idle phase ≡ true
          → is_at_work (standing_of journal.records) ≡ false
      at_rest Idle ready e = ready
      at_rest (Begins order moment) ready e = cc
      at_rest (Checks order s) ready e = cc
      at_rest (Writes order s) ready e = cc
      at_rest (Closes order moment s) ready e = cc
      at_rest (Says id code) ready e = cc

-- a journal that isn't full has fewer orders than its limit
pub not_full : (full : Bool) (limit count : ℕ) → IsTrue full ↔ (limit ≤ count) → full ≡ false → count < limit
not_full full limit count is e = by (leb_tells limit count) where
  by : ((leb limit count ≡ true) × (limit ≤ count)) ⊎ ((leb limit count ≡ false) × (count < limit)) → count < limit
  by (inl (test, le)) = let told : full ≡ true = is.1 le in cc
  by (inr (test, less)) = less
