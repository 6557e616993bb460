-- The meaning of a standing for the records.
use Rattle.std.proofs.Common.{◌≡◌, ◌⊎◌, inl, inr, refl, sym, ap, subst, ℕ, Bool, true, false, List, [], ◌∷◌, Option}
use Rattle.std.proofs.Common.{Some, None, ◌==◌}
use Rattle.std.proofs.lemmas.Bool.{eqb-true, eq-eqb}
use Rattle.dali_bank.specs.Order.{Contents, update_at}
use Rattle.dali_journal.specs.declared.record.Code.TheVariants.{Done, Short, Format, Silent, Doubt, DoubtOpen}
use Rattle.dali_journal.specs.declared.record.Record.{Record}
use Rattle.dali_journal.specs.declared.record.Record.TheVariants.{Began, Opened, Ended, Closed}
use Rattle.dali_journal.specs.declared.standing.Standing.{Standing}
use Rattle.dali_journal.specs.declared.standing.Standing.TheVariants as standings
use Rattle.dali_journal.specs.declared.kept.Progress.{Progress}
use Rattle.dali_journal.specs.declared.kept.Progress.TheVariants as reached
use Rattle.dali_journal.specs.Sentence.{Allows, next_standing, standing_of, named_unit, IsSentence}
use Rattle.dali_journal.specs.Orders.{orders_of, come_to}
use Rattle.dali_trace.specs.Possible.{byte_for}
use Rattle.dali_trace.specs.Fits.{HasBeenOpened}

-- which record leads to a standing
no_begun : (before : Standing) (entry : Record) (o : Contents) → next_standing before entry ≡ standings.Began o
    → (moment : ℕ) × (entry ≡ Began o moment)
no_begun before (Began p moment) o e = let same : p ≡ o = cc in (moment, ap (λ x. Began x moment) same)
no_begun (standings.Began p) (Opened u) o e = cc
no_begun (standings.Opened p) (Ended DoubtOpen) o e = cc
no_begun _ _ o e = cc

pub record WasOpened (before : Standing) (entry : Record) (o : Contents) : Type 0 where
  pub unit : ℕ
  pub was : before ≡ standings.Began o
  pub is : entry ≡ Opened unit

opened_by : (before : Standing) (entry : Record) (o : Contents) → next_standing before entry ≡ standings.Opened o
    → WasOpened before entry o
opened_by before (Began p moment) o e = cc
opened_by (standings.Began p) (Opened u) o e =
    let same : p ≡ o = cc in record { unit = u; was = ap standings.Began same; is = refl }
opened_by (standings.Opened p) (Ended DoubtOpen) o e = cc
opened_by _ _ o e = cc

-- the newest order of records of this standing, and its progress
pub begun_order : (records : List Record) (o : Contents) → standing_of records ≡ standings.Began o
    → (older : List (Contents × Progress)) × orders_of records ≡ (o, reached.Begun) ∷ older
begun_order [] o e = cc
begun_order (entry ∷ rest) o e =
    let P : Record → Type 0 =
    λ r. (older : List (Contents × Progress)) × orders_of (r ∷ rest) ≡ (o, reached.Begun) ∷ older in
    let is = no_begun (standing_of rest) entry o e in subst P (sym is.1) (orders_of rest, refl)

pub open_order : (records : List Record) (o : Contents) → standing_of records ≡ standings.Opened o
    → (older : List (Contents × Progress)) × orders_of records ≡ (o, reached.Open) ∷ older
open_order [] o e = cc
open_order (entry ∷ rest) o e =
    let by = opened_by (standing_of rest) entry o e in
    let before = begun_order rest o by.was in
    let P : Record → Type 0 =
    λ r. (older : List (Contents × Progress)) × orders_of (r ∷ rest) ≡ (o, reached.Open) ∷ older in
    subst P (sym by.is) (before.0, ap (come_to reached.Open) before.1)

-- a unit that is named was opened
pub named_opened : (records : List Record) (unit : ℕ) → IsSentence records
    → named_unit (standing_of records) ≡ Some unit → HasBeenOpened unit records
named_opened [] unit sentence e = cc
named_opened (entry ∷ rest) unit sentence e =
    by (λ earlier. named_opened rest unit sentence.0 earlier) (standing_of rest) refl entry sentence.1 e where
      by : (named_unit (standing_of rest) ≡ Some unit → HasBeenOpened unit rest) → (before : Standing)
          → standing_of rest ≡ before → (entry : Record) → Allows (standing_of rest) entry
          → named_unit (next_standing (standing_of rest) entry) ≡ Some unit
          → HasBeenOpened unit (entry ∷ rest)
      by more before at (Began p moment) allowed e = cc
      by more standings.Idle at (Opened u) allowed e = absurd (rw at at allowed)
      by more (standings.Began p) at (Opened u) allowed e =
          let is : u ≡ p.unit = rw at at allowed in let names : Some p.unit ≡ Some unit = rw at at e in inl cc
      by more (standings.Opened p) at (Opened u) allowed e = absurd (rw at at allowed)
      by more (standings.Left l) at (Opened u) allowed e = absurd (rw at at allowed)
      by more standings.Idle at (Ended c) allowed e = let none : None ≡ Some unit = rw at at e in cc
      by more (standings.Began p) at (Ended c) allowed e = let none : None ≡ Some unit = rw at at e in cc
      by more (standings.Opened p) at (Ended Done) allowed e = let none : None ≡ Some unit = rw at at e in cc
      by more (standings.Opened p) at (Ended Short) allowed e = let none : None ≡ Some unit = rw at at e in cc
      by more (standings.Opened p) at (Ended Format) allowed e = let none : None ≡ Some unit = rw at at e in cc
      by more (standings.Opened p) at (Ended Silent) allowed e = let none : None ≡ Some unit = rw at at e in cc
      by more (standings.Opened p) at (Ended Doubt) allowed e = let none : None ≡ Some unit = rw at at e in cc
      by more (standings.Opened p) at (Ended DoubtOpen) allowed e =
          let names : Some p.unit ≡ Some unit = rw at at e in more (rw at names)
      by more (standings.Left l) at (Ended c) allowed e = let none : None ≡ Some unit = rw at at e in cc
      by more before at (Closed u) allowed e = cc

-- an order's byte for a place
pub byte_for_here : (o : Contents) (location byte : ℕ) → update_at o.updates location ≡ Some byte
    → byte_for o o.unit 1 location ≡ Some byte
byte_for_here o location byte e = rw (eq-eqb o.unit o.unit refl) e

pub record HasByte (o : Contents) (address bank location : ℕ) (update : ℕ) : Type 0 where
  pub for : byte_for o address bank location ≡ Some update
  pub unit : o.unit ≡ address
  pub one : bank ≡ 1
  pub is : update_at o.updates location ≡ Some update

pub byte_for_or_none : (o : Contents) (address bank location : ℕ)
    → (byte_for o address bank location ≡ None) ⊎ ((update : ℕ) × HasByte o address bank location update)
byte_for_or_none o address bank location =
    by (o.unit == address) (bank == 1) (update_at o.updates location) refl refl refl where
      by : (x y : Bool) (found : Option ℕ) → (o.unit == address) ≡ x → (bank == 1) ≡ y
          → update_at o.updates location ≡ found
          → (byte_for o address bank location ≡ None) ⊎ ((update : ℕ) × HasByte o address bank location update)
      by true true (Some update) p q r =
          inr (update, record { for = rw (p, q) r; unit = eqb-true o.unit address p; one = eqb-true bank 1 q; is = r })
      by true true None p q r = inl (rw (p, q) r)
      by true false found p q r = inl (rw (p, q) refl)
      by false y found p q r = inl (rw p refl)
