-- Records whose orders have no bytes: if nothing is at work, what is safe after the records themselves is safe after
-- these, and they leave each place as it was.
use Rattle.std.proofs.Common.{◌≡◌, refl, sym, ap, subst, ◌∙◌, inl, inr, ℕ, Bool, true, false, ◌||◌, ◌==◌, ◌&&◌}
use Rattle.std.proofs.Common.{List, [], ◌∷◌, ◌++◌, Option, Some, None, if◌then◌else◌}
use Rattle.std.specs.List.{AllByRecursion}
use Rattle.dali_bank.specs.Order.{Contents, update_at}
use Rattle.dali_journal.specs.declared.kept.Progress.{Progress}
use Rattle.dali_journal.specs.declared.kept.Progress.TheVariants as reached
use Rattle.dali_journal.specs.declared.record.Code.TheVariants as codes
use Rattle.dali_journal.specs.declared.record.Record.{Record}
use Rattle.dali_journal.specs.declared.record.Record.TheVariants.{Began, Opened, Ended, Closed}
use Rattle.dali_journal.specs.declared.standing.Standing.{Standing}
use Rattle.dali_journal.specs.declared.standing.Standing.TheVariants as standings
use Rattle.dali_journal.specs.Sentence.{Allows, next_standing, standing_of, is_begun, IsNew, IsSentence}
use Rattle.dali_journal.specs.Orders.{come_to, orders_of}
use Rattle.dali_write.specs.Reads.{StillRead}
use Rattle.dali_trace.specs.declared.happening.Happening.{Happening}
use Rattle.dali_trace.specs.declared.happening.Happening.TheVariants.{Sent, Kept}
use Rattle.dali_trace.specs.Cut.{kept_in}
use Rattle.dali_trace.specs.Trace.{Start, records_of, sent_of, is_at_work}
use Rattle.dali_trace.specs.Grounds.{Grounds}
use Rattle.dali_trace.specs.Possible.{Mark, Applied, Untouched, InDoubt, mark_of, byte_for, MayHold, IsPossible}
use Rattle.dali_laws.specs.Stays.{bare}
use Rattle.dali_laws.proofs.SafeLemmas.{IsSafeFrame, IsSafe, AllSafe}

-- Records with the same standing and the same numbers

pub record AreAlike (one other : List Record) : Type 0 where
  pub stand : standing_of other ≡ standing_of one
  pub numbers : (id : ℕ) → is_begun id other ≡ is_begun id one

alike_next : (entry : Record) (one other : List Record) → AreAlike one other → AreAlike (entry ∷ one) (entry ∷ other)
alike_next entry one other alike = record {
  stand = ap (λ (stands : Standing). next_standing stands entry) alike.stand;
  numbers = λ id. by id entry;
} where
  by : (id : ℕ) (entry : Record) → is_begun id (entry ∷ other) ≡ is_begun id (entry ∷ one)
  by id (Began order moment) = ap (λ (begun : Bool). order.id == id || begun) (alike.numbers id)
  by id (Opened unit) = alike.numbers id
  by id (Ended code) = alike.numbers id
  by id (Closed unit) = alike.numbers id

alike_more : (kept one other : List Record) → AreAlike one other → AreAlike (kept ++ one) (kept ++ other)
alike_more [] one other alike = alike
alike_more (entry ∷ kept) one other alike =
    alike_next entry (kept ++ one) (kept ++ other) (alike_more kept one other alike)

new_too : (entry : Record) (one other : List Record) → AreAlike one other → IsNew entry one → IsNew entry other
new_too (Began order moment) one other alike new = alike.numbers order.id ∙ new
new_too (Opened unit) one other alike new = tt
new_too (Ended code) one other alike new = tt
new_too (Closed unit) one other alike new = tt

pub sentence_too : (kept one other : List Record) → AreAlike one other → IsSentence other → IsSentence (kept ++ one)
    → IsSentence (kept ++ other)
sentence_too [] one other alike sentence all = sentence
sentence_too (entry ∷ kept) one other alike sentence all =
    let so = alike_more kept one other alike in (
      sentence_too kept one other alike sentence all.0,
      subst (λ (stands : Standing). Allows stands entry) (sym so.stand) all.1,
      new_too entry (kept ++ one) (kept ++ other) so all.2,
    )

pub sentence_of : (kept one : List Record) → IsSentence (kept ++ one) → IsSentence one
sentence_of [] one all = all
sentence_of (entry ∷ kept) one all = sentence_of kept one all.0

-- so what is safe after the ones is safe after the others
pub alike_safe : (one other : Start) (past : List Happening) → AreAlike one.records other.records
    → IsSentence other.records → AllSafe one past → AllSafe other past
alike_safe one other [] alike sentence safe = sentence
alike_safe one other (next ∷ past) alike sentence safe =
    (alike_safe one other past alike sentence safe.0, by next safe.1) where
      so : AreAlike (records_of one past) (records_of other past)
      so = alike_more (kept_in past) one.records other.records alike

      by : (next : Happening) → IsSafe one past next → IsSafe other past next
      by (Sent frame answer) is =
          subst (λ (stands : Standing). IsSafeFrame (sent_of past) stands frame) (sym so.stand) is
      by (Kept entry) is = (
        sentence_too (entry ∷ kept_in past) one.records other.records alike sentence is.0,
        subst (λ (stands : Standing). Grounds (StillRead (sent_of past)) stands entry) (sym so.stand) is.1,
      )
      by _ is = tt

-- Records of orders without bytes

abbrev bare_standing : Standing → Standing
bare_standing (standings.Began order) = standings.Began (record order { updates = [] })
bare_standing (standings.Opened order) = standings.Opened (record order { updates = [] })
bare_standing stands = stands

abbrev bare_entry : Record → Record
bare_entry (Began order moment) = Began (record order { updates = [] }) moment
bare_entry entry = entry

bare_first : (entry : Record) (older : List Record) → bare (entry ∷ older) ≡ bare_entry entry ∷ bare older
bare_first (Began order moment) older = refl
bare_first (Opened unit) older = refl
bare_first (Ended code) older = refl
bare_first (Closed unit) older = refl

bare_next : (stands : Standing) (entry : Record)
    → next_standing (bare_standing stands) (bare_entry entry) ≡ bare_standing (next_standing stands entry)
bare_next stands (Began order moment) = refl
bare_next standings.Idle (Opened unit) = refl
bare_next (standings.Began order) (Opened unit) = refl
bare_next (standings.Opened order) (Opened unit) = refl
bare_next (standings.Left left) (Opened unit) = refl
bare_next standings.Idle (Ended code) = refl
bare_next (standings.Began order) (Ended code) = refl
bare_next (standings.Opened order) (Ended codes.DoubtOpen) = refl
bare_next (standings.Opened order) (Ended code) = refl
bare_next (standings.Left left) (Ended code) = refl
bare_next standings.Idle (Closed unit) = refl
bare_next (standings.Began order) (Closed unit) = refl
bare_next (standings.Opened order) (Closed unit) = refl
bare_next (standings.Left left) (Closed unit) = refl

bare_stands : (records : List Record) → standing_of (bare records) ≡ bare_standing (standing_of records)
bare_stands [] = refl
bare_stands (entry ∷ older) =
    ap standing_of (bare_first entry older)
    ∙ ap (λ (stands : Standing). next_standing stands (bare_entry entry)) (bare_stands older)
    ∙ bare_next (standing_of older) entry

bare_allowed : (stands : Standing) (entry : Record) → Allows stands entry
    → Allows (bare_standing stands) (bare_entry entry)
bare_allowed standings.Idle (Began order moment) allowed = tt
bare_allowed (standings.Began order) (Opened unit) allowed = allowed
bare_allowed (standings.Began order) (Ended codes.Short) allowed = tt
bare_allowed (standings.Began order) (Ended codes.Format) allowed = tt
bare_allowed (standings.Began order) (Ended codes.Silent) allowed = tt
bare_allowed (standings.Opened order) (Ended codes.Done) allowed = tt
bare_allowed (standings.Opened order) (Ended codes.Doubt) allowed = tt
bare_allowed (standings.Opened order) (Ended codes.DoubtOpen) allowed = tt
bare_allowed (standings.Left left) (Closed unit) allowed = allowed
bare_allowed _ _ allowed = absurd allowed

bare_numbers : (id : ℕ) (records : List Record) → is_begun id (bare records) ≡ is_begun id records
bare_numbers id [] = refl
bare_numbers id (Began order moment ∷ older) = ap (λ (begun : Bool). order.id == id || begun) (bare_numbers id older)
bare_numbers id (Opened unit ∷ older) = bare_numbers id older
bare_numbers id (Ended code ∷ older) = bare_numbers id older
bare_numbers id (Closed unit ∷ older) = bare_numbers id older

bare_new : (entry : Record) (older : List Record) → IsNew entry older → IsNew (bare_entry entry) (bare older)
bare_new (Began order moment) older new = bare_numbers order.id older ∙ new
bare_new (Opened unit) older new = tt
bare_new (Ended code) older new = tt
bare_new (Closed unit) older new = tt

pub bare_sentence : (records : List Record) → IsSentence records → IsSentence (bare records)
bare_sentence [] sentence = tt
bare_sentence (entry ∷ older) sentence =
    subst IsSentence (sym (bare_first entry older)) (
      bare_sentence older sentence.0,
      subst (λ (stands : Standing). Allows stands (bare_entry entry)) (sym (bare_stands older))
          (bare_allowed (standing_of older) entry sentence.1),
      bare_new entry older sentence.2,
    )

-- if nothing is at work, their standing is that of the records themselves
pub bare_alike : (records : List Record) → is_at_work (standing_of records) ≡ false → AreAlike records (bare records)
bare_alike records rests =
    record { stand = bare_stands records ∙ by (standing_of records) rests; numbers = λ id. bare_numbers id records }
  where
    by : (stands : Standing) → is_at_work stands ≡ false → bare_standing stands ≡ stands
    by standings.Idle rests = refl
    by (standings.Left left) rests = refl
    by (standings.Began order) rests = cc
    by (standings.Opened order) rests = cc

-- Each place may hold what it held

abbrev HaveNoBytes : List (Contents × Progress) → Type 0
HaveNoBytes orders = AllByRecursion (λ (order : Contents × Progress). order.0.updates ≡ []) orders

come_bare : (progress : Progress) (orders : List (Contents × Progress)) → HaveNoBytes orders
    → HaveNoBytes (come_to progress orders)
come_bare progress [] none = none
come_bare progress (newest ∷ older) none = (none.0, none.1)

orders_bare : (records : List Record) → HaveNoBytes (orders_of (bare records))
orders_bare [] = tt
orders_bare (Began order moment ∷ older) = (refl, orders_bare older)
orders_bare (Opened unit ∷ older) = come_bare reached.Open (orders_of (bare older)) (orders_bare older)
orders_bare (Ended code ∷ older) = come_bare (reached.Ended code) (orders_of (bare older)) (orders_bare older)
orders_bare (Closed unit ∷ older) = orders_bare older

no_byte : (order : Contents) (address bank location : ℕ) → order.updates ≡ []
    → byte_for order address bank location ≡ None
no_byte order address bank location none = by ((order.unit == address) && (bank == 1)) where
  by : (here : Bool) → (if here then update_at order.updates location else None) ≡ None
  by true = ap (λ (updates : List (ℕ × ℕ)). update_at updates location) none
  by false = refl

as_before : (mark : Mark) (before : ℕ → Type 0) (byte : ℕ) → before byte → MayHold mark None before byte
as_before Applied before byte is = is
as_before Untouched before byte is = is
as_before InDoubt before byte is = is

first_possible : (orders : List (Contents × Progress)) (first address bank location : ℕ) → HaveNoBytes orders
    → IsPossible first address bank location orders first
first_possible [] first address bank location none = refl
first_possible (newest ∷ older) first address bank location none =
    let before = IsPossible first address bank location older in
    subst (λ (found : Option ℕ). MayHold (mark_of newest.1) found before first)
    (sym (no_byte newest.0 address bank location none.0))
    (as_before (mark_of newest.1) before first (first_possible older first address bank location none.1))

pub bare_possible : (records : List Record) (first address bank location : ℕ)
    → IsPossible first address bank location (orders_of (bare records)) first
bare_possible records first address bank location =
    first_possible (orders_of (bare records)) first address bank location (orders_bare records)

-- and no other byte is possible by them

pub hold_too : (mark : Mark) (found : Option ℕ) (P Q : ℕ → Type 0) (byte : ℕ) → (P byte → Q byte)
    → MayHold mark found P byte → MayHold mark found Q byte
hold_too Applied (Some update) P Q byte f is = is
hold_too InDoubt (Some update) P Q byte f (inl before) = inl (f before)
hold_too InDoubt (Some update) P Q byte f (inr is) = inr is
hold_too Untouched (Some update) P Q byte f before = f before
hold_too Applied None P Q byte f before = f before
hold_too InDoubt None P Q byte f before = f before
hold_too Untouched None P Q byte f before = f before

only_first : (orders : List (Contents × Progress)) (address bank location first byte : ℕ) → HaveNoBytes orders
    → IsPossible first address bank location orders byte → byte ≡ first
only_first [] address bank location first byte none is = is
only_first (newest ∷ older) address bank location first byte none is =
    let before = IsPossible first address bank location older in
    only_first older address bank location first byte none.1
    (before_it (mark_of newest.1) before byte
    (subst (λ (found : Option ℕ). MayHold (mark_of newest.1) found before byte)
    (no_byte newest.0 address bank location none.0) is))
  where
    before_it : (mark : Mark) (before : ℕ → Type 0) (byte : ℕ) → MayHold mark None before byte → before byte
    before_it Applied before byte is = is
    before_it Untouched before byte is = is
    before_it InDoubt before byte is = is

pub without_bare : (own : List (Contents × Progress)) (records : List Record) (address bank location first byte : ℕ)
    → IsPossible first address bank location (own ++ orders_of (bare records)) byte
    → IsPossible first address bank location own byte
without_bare [] records address bank location first byte is =
    only_first (orders_of (bare records)) address bank location first byte (orders_bare records) is
without_bare (newest ∷ own) records address bank location first byte is =
    hold_too (mark_of newest.1) (byte_for newest.0 address bank location) _ _ byte
    (without_bare own records address bank location first byte) is
