-- An order that has ended is the one that is found under its number, so that a repeat is answered by what is kept.
use Rattle.std.proofs.Common.{◌≡◌, refl, sym, ◌∙◌, subst, Contains, length, get_or, ◌<◌, ◌≤◌, zero, suc, Bool, true}
use Rattle.std.specs.Prelude.{⊤}
use Rattle.std.proofs.Common.{false, ◌==◌, ℕ, List, [], ◌∷◌, ◌++◌, arith}
use Rattle.std.proofs.lemmas.Bool.{eqb-true, eq-eqb}
use Rattle.std.proofs.lemmas.List.{append_assoc}
use Rattle.dali_bank.specs.Order.{Contents}
use Rattle.dali_journal.specs.declared.record.Code.{Code}
use Rattle.dali_journal.specs.declared.record.Record.{Record}
use Rattle.dali_journal.specs.declared.record.Record.TheVariants.{Began, Opened, Ended, Closed}
use Rattle.dali_journal.specs.declared.kept.Progress.{Progress}
use Rattle.dali_journal.specs.declared.kept.Progress.TheVariants as reached
use Rattle.dali_journal.specs.declared.kept.Kept.TheVariants as kepts
use Rattle.dali_journal.specs.Sentence.{IsSentence}
use Rattle.dali_journal.specs.Orders.{orders_of, come_to, kept_at, kept_among, kept_of}
use Rattle.dali_trace.specs.declared.happening.Reply.TheVariants as replies
use Rattle.dali_trace.specs.declared.happening.Happening.{Happening}
use Rattle.dali_trace.specs.declared.happening.Happening.TheVariants.{Asked, Answered, Kept as Keeps}
use Rattle.dali_trace.specs.Trace.{Start, records_of, is_busy, is_full}
use Rattle.dali_trace.specs.Legal.{Replies, Legal}
use Rattle.dali_trace.specs.Quiet.{NoneTaken}
use Rattle.dali_laws.specs.Law.{NothingIsDone}
use Rattle.dali_laws.proofs.SafeLemmas.{may_keep}
use Rattle.dali_laws.proofs.ReplyLemmas.{only_due}
use Rattle.dali_laws.proofs.QuietLemmas.{stays_still}
use Rattle.dali_journal.proofs.BehindLemmas.{absent}

-- no two orders have one number
abbrev AreDistinct : List (Contents × Progress) → Type 0
AreDistinct [] = ⊤
AreDistinct (newest ∷ older) = (kept_among newest.0.id older ≡ kepts.Absent) × AreDistinct older

-- what is kept of an order is never nothing
pub never_absent : {A : Type 0} (order : Contents) (progress : Progress) → kept_at order progress ≡ kepts.Absent → A
never_absent order reached.Begun e = cc
never_absent order reached.Open e = cc
never_absent order (reached.Ended code) e = cc

distinct_come : (progress : Progress) (orders : List (Contents × Progress)) → AreDistinct orders
    → AreDistinct (come_to progress orders)
distinct_come progress [] distinct = tt
distinct_come progress (newest ∷ older) distinct = distinct

distinct_orders : (records : List Record) → IsSentence records → AreDistinct (orders_of records)
distinct_orders [] sentence = tt
distinct_orders (Began order moment ∷ older) sentence =
    (absent order.id older sentence.2, distinct_orders older sentence.0)
distinct_orders (Opened unit ∷ older) sentence =
    distinct_come reached.Open (orders_of older) (distinct_orders older sentence.0)
distinct_orders (Ended code ∷ older) sentence =
    distinct_come (reached.Ended code) (orders_of older) (distinct_orders older sentence.0)
distinct_orders (Closed unit ∷ older) sentence = distinct_orders older sentence.0

found_first : (x newest : Contents × Progress) (older : List (Contents × Progress)) → newest ≡ x
    → kept_among x.0.id (newest ∷ older) ≡ kept_at x.0 x.1
found_first x newest older e = rw e (rw (eq-eqb x.0.id x.0.id refl) refl)

found_later : (x newest : Contents × Progress) (older : List (Contents × Progress))
    → kept_among newest.0.id older ≡ kepts.Absent
    → kept_among x.0.id older ≡ kept_at x.0 x.1 → kept_among x.0.id (newest ∷ older) ≡ kept_at x.0 x.1
found_later x newest older none some = by (newest.0.id == x.0.id) refl where
  by : (b : Bool) → (newest.0.id == x.0.id) ≡ b → kept_among x.0.id (newest ∷ older) ≡ kept_at x.0 x.1
  by true p =
      let same : newest.0.id ≡ x.0.id = eqb-true newest.0.id x.0.id p in
      let gone : kept_among x.0.id older ≡ kepts.Absent = rw same at none in
      never_absent x.0 x.1 (sym some ∙ gone)
  by false p = rw p some

found_at : (x : Contents × Progress) (orders : List (Contents × Progress)) (k : ℕ) → AreDistinct orders
    → k < length orders
    → get_or orders k x ≡ x
    → kept_among x.0.id orders ≡ kept_at x.0 x.1
found_at x [] k distinct less e = absurd (omega arith)
found_at x (newest ∷ older) zero distinct less e = found_first x newest older e
found_at x (newest ∷ older) (suc k) distinct less e =
    found_later x newest older distinct.0 (found_at x older k distinct.1 (omega arith) e)

-- an order that has ended is what is kept of its number
pub ended_kept : (records : List Record) (order : Contents) (code : Code) → IsSentence records
    → Contains (orders_of records) (order, reached.Ended code)
    → kept_of order.id records ≡ kepts.Ended order code
ended_kept records order code sentence among =
    found_at (order, reached.Ended code) (orders_of records) among.0 (distinct_orders records sentence) among.1 among.2

-- the records of a legal trace are a sentence within the limit
pub legal_sentence : (start : Start) (past : List Happening) → Legal start past
    → IsSentence (records_of start past) × (length (orders_of (records_of start past)) ≤ start.limit)
legal_sentence start [] legal = legal
legal_sentence start (Keeps entry ∷ past) legal = let may = may_keep start past entry legal.1 in may.whole
legal_sentence start (_ ∷ past) legal = legal_sentence start past legal.0

-- what follows a repeat at once
answered : (start : Start) (past : List Happening) (order : Contents) (code : Code) (next : Happening)
    → kept_of order.id (records_of start past) ≡ kepts.Ended order code → Replies start past order next
    → next ≡ Answered order.id (replies.Kept code)
answered start past order code (Answered id reply) ended (same, due) =
    let is =
    only_due order (kept_of order.id (records_of start past)) (is_busy start past) (is_full start past)
    (replies.Kept code) reply ended due in
    λ i. Answered (same i) (is i)
answered start past order code _ ended due = absurd due

pub repeat_answered : (start : Start) (past : List Happening) (order : Contents) (moment : ℕ) (code : Code)
    (next : Happening)
    → Contains (orders_of (records_of start past)) (order, reached.Ended code)
    → Legal start (next ∷ Asked order moment ∷ past)
    → next ≡ Answered order.id (replies.Kept code)
repeat_answered start past order moment code next among legal =
    answered start past order code next
    (ended_kept (records_of start past) order code (legal_sentence start past legal.0.0).0 among) legal.1

-- the trace before a part of a legal trace is legal
legal_before : (start : Start) (past more : List Happening) → Legal start (more ++ past) → Legal start past
legal_before start past [] legal = legal
legal_before start past (next ∷ more) legal = legal_before start past more legal.0

-- a kept reply takes no order
none_more : (more older : List Happening) → NoneTaken more → NoneTaken older → NoneTaken (more ++ older)
none_more [] older none before = before
none_more (Answered id replies.Taken ∷ more) older none before = absurd none
none_more (_ ∷ more) older none before = none_more more older none before

pub repeat_quiet : (start : Start) (past more : List Happening) (order : Contents) (moment : ℕ) (code : Code)
    (next : Happening)
    → Contains (orders_of (records_of start past)) (order, reached.Ended code) → is_busy start past ≡ false
    → Legal start (more ++ next ∷ Asked order moment ∷ past) → NoneTaken more
    → NothingIsDone start (more ++ next ∷ Asked order moment ∷ []) past
repeat_quiet start past more order moment code next among busy legal none =
    let is =
    repeat_answered start past order moment code next among
    (legal_before start (next ∷ Asked order moment ∷ past) more legal) in
    let part : List Happening = more ++ next ∷ Asked order moment ∷ [] in
    let so : Legal start (part ++ past) =
    subst (Legal start) (sym (append_assoc more (next ∷ Asked order moment ∷ []) past)) legal in
    let reply : NoneTaken (next ∷ Asked order moment ∷ []) =
    subst (λ (h : Happening). NoneTaken (h ∷ Asked order moment ∷ [])) (sym is) tt in
    let still = stays_still start past part so busy (none_more more (next ∷ Asked order moment ∷ []) none reply) in
    (still.1, still.2)
