-- The answers of small journals about an order, by hand, on both sides of each rule.
use Rattle.std.proofs.Common.{◌≡◌, ◌<◌, ◌≤◌, ◌^◌, ℕ, Bool, true, false, List, [], ◌∷◌, Some, None, refl, ap}
use Rattle.std.proofs.Common.{arith, ◌==◌, ◌||◌}
use Rattle.std.proofs.lemmas.Bool.{eqb-true}
use Rattle.dali_bank.specs.Order.{Contents}
use Rattle.dali_journal.specs.declared.record.Code.TheVariants.{Done, Doubt, DoubtOpen}
use Rattle.dali_journal.specs.declared.record.Record.{Record}
use Rattle.dali_journal.specs.declared.record.Record.TheVariants.{Began, Opened, Ended, Closed}
use Rattle.dali_journal.specs.declared.kept.Kept.{Kept}
use Rattle.dali_journal.specs.declared.kept.Kept.TheVariants as kepts
use Rattle.dali_journal.specs.JournalState.{JournalState}
use Rattle.dali_file_commands.specs.declared.known.Known.TheVariants as knowns
use Rattle.dali_file_commands.specs.Known.{IsFree, IsKnown, IsKnownTo, is_closed}

abbrev order_to : ℕ → ℕ → Contents
order_to id unit = record { id = id; unit = unit; updates = (11, 24) ∷ [] }

-- order 1 left unit 5 open
abbrev left : List Record
left = Ended DoubtOpen ∷ Opened 5 ∷ Began (order_to 1 5) 0 ∷ []

-- and that was closed
abbrev closed : List Record
closed = Closed 5 ∷ left

-- and order 2 left it open again
abbrev left_again : List Record
left_again = Ended DoubtOpen ∷ Opened 5 ∷ Began (order_to 2 5) 0 ∷ closed

-- order 1 was done, in a journal for at most `limit` orders
abbrev done : ℕ → JournalState
done limit = record {
  records = Ended Done ∷ Opened 5 ∷ Began (order_to 1 5) 0 ∷ [];
  limit = limit;
  room = 0;
  numbers = [];
  index_room = 0;
}

-- order 1 is begun
abbrev begun : JournalState
begun = record (done 2) { records = Began (order_to 1 5) 0 ∷ [] }

-- ---- closed since

pub closed_once_it_is : is_closed DoubtOpen 1 closed ≡ true
closed_once_it_is = refl

pub not_closed_while_it_is_left : is_closed DoubtOpen 1 left ≡ false
not_closed_while_it_is_left = refl

pub closed_whoever_leaves_it_again : is_closed DoubtOpen 1 left_again ≡ true
closed_whoever_leaves_it_again = refl

pub not_closed_for_the_one_that_leaves_it_again : is_closed DoubtOpen 2 left_again ≡ false
not_closed_for_the_one_that_leaves_it_again = refl

pub no_other_end_is_closed : is_closed Doubt 1 closed ≡ false
no_other_end_is_closed = refl

-- ---- the words

abbrev unit_of_kept : Kept → ℕ
unit_of_kept kepts.Absent = 64
unit_of_kept (kepts.Unfinished order) = order.unit
unit_of_kept (kepts.Ended order code) = order.unit

pub same_order_is_kept : IsKnown (done 2) (order_to 1 5) (knowns.Kept Done false)
same_order_is_kept = (refl, refl)

pub number_of_another_unit_is_not_kept : ¬ IsKnown (done 2) (order_to 1 6) (knowns.Kept Done false)
number_of_another_unit_is_not_kept = λ is. let unit : 5 ≡ 6 = ap unit_of_kept is.0 in omega (arith, unit)

pub number_of_another_unit_is_reused : IsKnown (done 2) (order_to 1 6) knowns.Reused
number_of_another_unit_is_reused = λ same. let unit : 5 ≡ 6 = ap (λ (o : Contents). o.unit) same in omega (arith, unit)

pub same_order_is_not_reused : ¬ IsKnown (done 2) (order_to 1 5) knowns.Reused
same_order_is_not_reused = λ is. is refl

pub kept_order_is_not_new : ¬ IsKnown (done 2) (order_to 1 5) knowns.New
kept_order_is_not_new = λ is. let unit : 5 ≡ 64 = ap unit_of_kept is.0 in omega (arith, unit)

pub begun_order_is_not_new : ¬ IsKnown begun (order_to 1 5) knowns.New
begun_order_is_not_new = λ is. let unit : 5 ≡ 64 = ap unit_of_kept is.0 in omega (arith, unit)

pub begun_order_is_begun : IsKnown begun (order_to 1 5) knowns.Begun
begun_order_is_begun = refl

pub new_where_there_is_room : IsKnown (done 2) (order_to 2 5) knowns.New
new_where_there_is_room = (refl, (tt, refl, refl))

pub not_new_where_it_is_full : ¬ IsKnown (done 1) (order_to 2 5) knowns.New
not_new_where_it_is_full = λ is. let clash : true ≡ false = is.1.2 in cc

pub full_where_it_is_full : IsKnown (done 1) (order_to 2 5) knowns.Full
full_where_it_is_full = (refl, (tt, refl, refl))

pub nothing_said_where_none_is_asked : ¬ IsKnownTo None (order_to 2 5) (Some knowns.New)
nothing_said_where_none_is_asked = λ is. cc

-- ---- the free number

pub free_0_of_none : IsFree [] (Some 0)
free_0_of_none = ((λ id begun. cc, λ other are. omega arith), omega arith)

pub taken_number_is_not_free : ¬ IsFree (Began (order_to 7 5) 0 ∷ []) (Some 7)
taken_number_is_not_free = λ is. let below : 7 < 7 = is.0.0 7 refl in omega (arith, below)

pub first_free_is_the_next : ¬ IsFree (Began (order_to 7 5) 0 ∷ []) (Some 9)
first_free_is_the_next = λ is. let least : 9 ≤ 8 = is.0.1 8 (λ id begun. below id (7 == id) refl begun) in
    omega (arith, least)
  where
    below : (id : ℕ) (test : Bool) → 7 == id ≡ test → (test || false) ≡ true → id < 8
    below id true e begun = let same : 7 ≡ id = eqb-true 7 id e in omega (arith, same)
    below id false e begun = cc

pub none_free_above_the_greatest : ¬ IsFree (Began (order_to 7 5) 0 ∷ []) None
none_free_above_the_greatest = λ is. let least : 2 ^ 64 ≤ 8 = is.1 8 (λ id begun. below id (7 == id) refl begun) in
    omega (arith, least)
  where
    below : (id : ℕ) (test : Bool) → 7 == id ≡ test → (test || false) ≡ true → id < 8
    below id true e begun = let same : 7 ≡ id = eqb-true 7 id e in omega (arith, same)
    below id false e begun = cc
