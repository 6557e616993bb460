-- Orders of a list that are followed are a drive of that list.
use Rattle.std.proofs.Common.{◌≡◌, ◌≤◌, ◌-◌, ◌^◌, ◌∙◌, sym, ap, inl, inr, ℕ, List, [], ◌∷◌, ◌++◌, refl, arith, Option}
use Rattle.std.proofs.Common.{append_assoc, append-nil, length, length-append, reverse}
use Rattle.std.proofs.lemmas.List.{length-map, length-reverse, nil_from_length, reverse-reverse}
use Rattle.std.specs.Prelude.{⊤}
use Rattle.std.specs.Io.KnownBytes.{Appends}
use Rattle.dali_bank.specs.Order.{Contents}
use Rattle.dali_frame.specs.declared.forward.Frame.{Frame}
use Rattle.dali_trace.specs.declared.happening.Happening.{Happening}
use Rattle.dali_trace.specs.declared.happening.Happening.TheVariants.{Answered}
use Rattle.dali_trace.specs.declared.fault.DriveFault.{DriveFault}
use Rattle.dali_trace.specs.declared.fault.DriveFault.TheVariants.{Out}
use Rattle.dali_trace.specs.Replies.{reply_line}
use Rattle.dali_trace.specs.Trace.{Start}
use Rattle.dali_journal.specs.JournalState.{JournalState}
use Rattle.dali_engine.specs.WriterState.{WriterState}
use Rattle.dali_drive.specs.declared.following.Given.{Given}
use Rattle.dali_drive.specs.declared.following.Given.TheVariants as gives
use Rattle.dali_drive.specs.declared.listed.ListedOrders.{ListedOrders}
use Rattle.dali_drive.specs.declared.stored.StoredFault.{StoredFault}
use Rattle.dali_drive.specs.declared.stored.StoredFault.TheVariants.{Open, Drive}
use Rattle.dali_drive.specs.Behind.{EndsAtFault, EndsBehind, IsFollowBehind, IsFollowBehindBreak, IsStoredDrive}
use Rattle.dali_drive.specs.Behind.{IsDriveBehind, IsDriveBehindBreak}
use Rattle.dali_drive.specs.Desks.{Look}
use Rattle.dali_drive.specs.Driven.{at_moment, IsDriven, orders_asked}
use Rattle.dali_drive.specs.Followed.{Step, happenings, told_lines, given_in, submitted, as_given, muted, IsOver}
use Rattle.dali_drive.specs.Followed.{BrokenOrder, BrokenStep, IsObservedFollow, IsObservedFollowBreak}
use Rattle.dali_drive.specs.Followed.Step.{Happened, Told}
use Rattle.dali_drive.specs.Listed.{GaveListed, IsEmpty, ListedState, state_of}
use Rattle.dali_drive.specs.Observed.{IsObserved, IsObservedBreak}
use Rattle.dali_drive.specs.Transcript.{Streams, said_lines}
use Rattle.dali_drive.proofs.DriveLemmas.{at_append}
use Rattle.dali_drive.proofs.FollowLawLemmas.{asked_given, given_then, submitted_both}
use Rattle.dali_write.specs.declared.pace.Pace.{Pace}

-- orders were given and no lines
abbrev AreOrders : List Given → Type 0
AreOrders [] = ⊤
AreOrders (gives.Order order moment ∷ given) = AreOrders given
AreOrders (gives.Line line ∷ given) = ⊥

orders_alone : (orders : List (Contents × ℕ)) → AreOrders (as_given orders)
orders_alone [] = tt
orders_alone (order ∷ orders) = orders_alone orders

orders_behind : (orders : List (Contents × ℕ)) (given : List Given) → AreOrders (as_given orders ++ given)
    → AreOrders given
orders_behind [] given are = are
orders_behind (order ∷ orders) given are = orders_behind orders given are

submitted_given : (orders : List (Contents × ℕ)) → submitted (as_given orders) ≡ orders
submitted_given orders = simp append-nil at (submitted_both orders [])

-- so exactly the replies and the sayings were written
lines_said : (steps : List Step) → AreOrders (given_in steps) → told_lines steps ≡ said_lines (happenings steps)
lines_said [] are = refl
lines_said (Told line ∷ steps) are = absurd are
lines_said (Happened (Answered id reply) ∷ steps) are =
    ap (λ (text : List ℕ). text ++ reply_line id reply) (lines_said steps are)
lines_said (Happened _ ∷ steps) are = append-nil (told_lines steps) ∙ lines_said steps are

unmuted : (start : Start) (steps : List Step) (first last : Streams) → AreOrders (given_in steps)
    → IsDriven start (happenings steps) (muted first) last → Appends first.out last.out (told_lines steps)
    → IsDriven start (happenings steps) first last
unmuted start steps first last are d said = let out = rw (lines_said steps are) at said in search

-- no line was broken off
broken_order : (fault : DriveFault) (start : Start) (steps : List Step) (given : List Given)
    (first then last : Streams) → AreOrders given → BrokenStep start steps given fault first then last
    → BrokenOrder start steps given fault first then last
broken_order Out start steps given first then last are (inl line) = absurd (rw line.given_are at are)
broken_order Out start steps given first then last are (inr order) = order
broken_order fault start steps given first then last are order = order

module _ {B : Type 0} (told : Start → B → B → List Happening → Type 0) (start : Start) (orders : List Contents)
    (moment : ℕ) (listed : ListedOrders) (is : state_of listed ≡ record { rest = orders; moment = moment })
    (first : Streams) (before : B) (orders_left : ListedOrders) (last : Streams) (after : B) where
  rest_is : orders ≡ listed.rest.now
  rest_is = ap (λ (s : ListedState). s.rest) (sym is)

  are_orders : (given : List Given) → GaveListed listed orders_left given → AreOrders given
  are_orders given gave = rw gave.given_are (orders_alone (reverse (at_moment listed.moment gave.orders)))

  -- those that were given and those that are left
  whole : (given : List Given) (gave : GaveListed listed orders_left given)
      → reverse (submitted given) ++ at_moment moment orders_left.rest.now ≡ at_moment moment orders
  whole given gave =
      let at : moment ≡ listed.moment = ap (λ (s : ListedState). s.moment) (sym is) in
      rw (rest_is, gave.rest_is, at, gave.given_are, submitted_given, reverse-reverse)
      (sym (at_append listed.moment gave.orders orders_left.rest.now))

  -- all of them were given
  all_given : length orders ≤ 2 ^ 64 - 1 → (given : List Given) → GaveListed listed orders_left given
      → IsOver (IsEmpty orders_left) given → orders_left.rest.now ≡ []
  all_given few given gave (inl none) = none
  all_given few given gave (inr count) =
      nil_from_length orders_left.rest.now (
      let all = ap (length {A = Contents}) (rest_is ∙ gave.rest_is) in
      let counted = simp (length-map, length-reverse) at (ap (length {A = Given}) gave.given_are) in
      omega (arith, length-append {A = Contents}))

  pub listed_driven : length orders ≤ 2 ^ 64 - 1 → (writer : WriterState)
      → IsObservedFollow GaveListed IsEmpty told start listed first before writer orders_left last after
      → IsObserved told start (at_moment moment orders) first before writer last after
  listed_driven few writer o =
      let f = o.follow in
      let driven =
      unmuted start f.steps first last (rw f.at.given_are (are_orders o.given o.gave_all)) f.at.driven_at.driven
      f.at.said in
      let asked : reverse (orders_asked (happenings f.steps)) ≡ at_moment moment orders =
      rw (asked_given, f.at.given_are, ← whole o.given o.gave_all)
      (rw (all_given few o.given o.gave_all o.ends, append-nil)) in
      record { drive = search; told_all = o.told_all }

  pub listed_broken : (told_end : Start → B → B → List Happening → DriveFault → Frame → List ℕ → Type 0)
      (may_leave : List ℕ → Type 0) (fault : DriveFault)
      → IsObservedFollowBreak GaveListed told told_end start listed fault first before orders_left last after may_leave
      → IsObservedBreak told told_end start (at_moment moment orders) fault first before last after may_leave
  listed_broken told_end may_leave fault o =
      let f = o.breaks.follow in
      let are : AreOrders o.given = are_orders o.given o.gave_all in
      let b = broken_order fault start f.steps o.given first f.then last are f.broken in
      record {
        breaks = record {
          drive = record {
            past = happenings f.steps;
            rest = b.unasked ++ at_moment moment orders_left.rest.now;
            middle = f.then;
            driven =
                unmuted start f.steps first f.then
                (orders_behind (reverse b.unasked) (given_in f.steps) (rw b.given_are at are)) b.driven f.said;
            asked = rw (← append_assoc, given_then f.steps b.unasked o.given b.given_are) (whole o.given o.gave_all);
            broken = b.broken (at_moment moment orders_left.rest.now);
          };
          left = o.breaks.left;
        };
        told_all = o.breaks.told_all;
      }

-- The same over a store

module _ {B : Type 0} (told : Start → B → B → List Happening → Type 0)
    (told_end : Start → B → B → List Happening → DriveFault → Frame → List ℕ → Type 0)
    (older : Option JournalState) (limit most : ℕ) (pace : Pace) (orders : List Contents) (moment : ℕ)
    (listed : ListedOrders)
    (is : state_of listed ≡ record { rest = orders; moment = moment }) (first : Streams) (before : B)
    (orders_left : ListedOrders) (last : Streams) (after : B) where
  pub behind_driven : length orders ≤ 2 ^ 64 - 1 → (writer : WriterState)
      → IsFollowBehind GaveListed IsEmpty told older limit most pace listed first before writer orders_left last after
      → IsDriveBehind told older limit most pace (at_moment moment orders) first before writer last after
  behind_driven few writer o = record {
    behind = o.behind;
    observed = listed_driven told _ orders moment listed is _ _ _ _ _ few writer o.observed;
  }

  pub behind_broken : (may_leave : List ℕ → Type 0) (fault : DriveFault)
      → IsFollowBehindBreak GaveListed told told_end older limit most pace listed fault first before orders_left last
      after may_leave
      → IsDriveBehindBreak told told_end older limit most pace (at_moment moment orders) fault first before last after
      may_leave
  behind_broken may_leave fault o = record {
    behind = o.behind;
    observed = listed_broken told _ orders moment listed is _ _ _ _ _ told_end may_leave fault o.observed;
  }

-- so it is a drive over a store

pub stored_drive : {B : Type 0} (told : Start → B → B → List Happening → Type 0) (older : Option JournalState)
    (limit most : ℕ) (pace : Pace) (orders : List (Contents × ℕ)) (first : Streams) (before : B) (last : Streams)
    (after : B) (writer : WriterState)
    → IsDriveBehind told older limit most pace orders first before writer last after
    → IsStoredDrive older limit most pace orders first writer last
stored_drive told older limit most pace orders first before last after writer o =
    record { behind = o.behind; drive = o.observed.drive }

-- and a drive of a list ends as that does, whatever broke it off
pub listed_end : {B : Type 0} (told : Start → B → B → List Happening → Type 0)
    (told_end : Start → B → B → List Happening → DriveFault → Frame → List ℕ → Type 0) (older : Option JournalState)
    (limit most : ℕ) (pace : Pace) (orders : List Contents) (moment : ℕ) (listed : ListedOrders)
    → state_of listed ≡ record { rest = orders; moment = moment } → (old : Look) (before : B) (left : ListedOrders)
    (new : Look) (after : B) (fault : StoredFault)
    → EndsBehind GaveListed told told_end older limit most pace listed fault old before left new after
    → EndsAtFault older limit most pace (at_moment moment orders) fault old new
listed_end told told_end older limit most pace orders moment listed is old before left new after (Open fault) ends =
    ends.0
listed_end told told_end older limit most pace orders moment listed is old before left new after (Drive fault) ends =
    let o = behind_broken told told_end older limit most pace orders moment listed is old.streams before left
    new.streams after new.may_leave fault ends in
    record { behind = o.behind; breaks = o.observed.breaks }
