-- A unit through a frame at which nothing was lost.
use Rattle.std.proofs.Common.{◌≡◌, ◌≢◌, ℕ, ◌<◌, inl, inr, ◌⊎◌, List, [], ◌∷◌, Option, Some, None, IsSome}
use Rattle.std.proofs.Common.{refl, sym, subst, ap, ◌∙◌}
use Rattle.dali_bus.specs.Chain.{IsChain, AtEachState}
use Rattle.dali_address.specs.Units.{Three, Disabled, Enabled, Withdrawn, Member, Units}
use Rattle.dali_address.specs.Obeys.{Does, MayBecome, Seeks}
use Rattle.dali_address.specs.Steps.{Exchange, Step, MayObey}
use Rattle.dali_address.specs.Census.{KeepsOn, IsHeard, IsWhole, WasHeard, HasAddresses, NumbersDiffer}
use Rattle.dali_address.specs.Tallying.{IsQuiet, sought}
use Rattle.dali_address.specs.declared.call.Call.{Call}
use Rattle.dali_address.specs.declared.call.Call.TheVariants.{Terminate, InitialiseAll, InitialiseMissing, InitialiseAt}
use Rattle.dali_address.specs.declared.call.Call.TheVariants.{Randomise, Compare, Withdraw, SearchHigh, SearchMiddle}
use Rattle.dali_address.specs.declared.call.Call.TheVariants.{SearchLow, Program, Remove, AskShort, AskMissing}
use Rattle.dali_address.specs.declared.call.Call.TheVariants.{AskPresent, AskRandomHigh, AskRandomMiddle, AskRandomLow}

pub some_is : (one two : Member) → Some one ≡ Some two → one ≡ two
some_is one two e = cc

pub some_there : (units : Units) (number : ℕ) → IsSome (units number) → (member : Member) × (units number ≡ Some member)
some_there units number some = by (units number) refl
  where
    by : (it : Option Member) → units number ≡ it → (member : Member) × (units number ≡ Some member)
    by None same = absurd (no (units number) same some)
      where
        no : (it : Option Member) → it ≡ None → IsSome it → ⊥
        no None e is = cc
        no (Some member) e is = cc
    by (Some member) same = (member, same)

-- a unit after a frame at which nothing was lost was there before it
pub record From (exchange : Exchange) (old : Option Member) (new : Member) : Type 0 where
  pub member : Member
  pub was : old ≡ Some member
  pub answer : Option ℕ
  pub obeyed : Member
  pub does : Does member exchange.call answer obeyed
  pub on : KeepsOn obeyed new
  pub told : IsSome answer → exchange.answer ≢ None

pub there_before : (old : Option Member) (call : Call) (new : Option Member) (after : Member) → MayObey old call new
    → new ≡ Some after → (member : Member) × (old ≡ Some member)
there_before None call None after may is = absurd (no is)
  where
    no : None ≡ Some after → ⊥
    no e = cc
there_before None call (Some new) after may is = absurd may
there_before (Some old) call new after may is = (old, refl)

pub from : (old : Units) (exchange : Exchange) (new : Units) → IsWhole old exchange new → (number : ℕ) (after : Member)
    → new number ≡ Some after → From exchange (old number) after
from old exchange new whole number after is =
    let (member, was) = there_before (old number) exchange.call (new number) after (whole.step.each number) is in
    let heard : IsHeard exchange member (new number) = whole.heard number member was in
    let same : heard.after ≡ after = some_is heard.after after (sym heard.is ∙ is) in
    record {
      member = member;
      was = was;
      answer = heard.answer;
      obeyed = heard.obeyed;
      does = heard.does;
      on = subst (λ (it : Member). KeepsOn heard.obeyed it) same heard.on;
      told = heard.told;
    }

-- a unit through a quiet frame
record Quietly (call : Call) (old new : Member) : Type 0 where
  short : new.short ≡ old.short
  random : new.random ≡ old.random
  phase : new.phase ≡ old.phase
  search : old.phase ≢ Disabled → new.search ≡ sought old.search call

quiet_same : (call : Call) (old new : Member) → sought old.search call ≡ old.search → new ≡ old → Quietly call old new
quiet_same call old new put same =
    rw same record { short = refl; random = refl; phase = refl; search = λ on. sym put }

quiet_sought : (call : Call) (search : Three) (old : Member) (answer : Option ℕ) (new : Member)
    → sought old.search call ≡ search → Seeks search old answer new → Quietly call old new
quiet_sought call search old answer new put (inl same, none) =
    rw same record { short = refl; random = refl; phase = refl; search = λ on. sym put }
quiet_sought call search old answer new put (inr (off, same), none) =
    rw same record { short = refl; random = refl; phase = refl; search = λ on. absurd (on off) }

quietly : (call : Call) (old : Member) (answer : Option ℕ) (new : Member) → IsQuiet call → Does old call answer new
    → Quietly call old new
quietly Terminate old answer new quiet does = absurd quiet
quietly InitialiseAll old answer new quiet does = absurd quiet
quietly InitialiseMissing old answer new quiet does = absurd quiet
quietly (InitialiseAt short) old answer new quiet does = absurd quiet
quietly Randomise old answer new quiet does = absurd quiet
quietly Compare old answer new quiet does = quiet_same Compare old new refl does.0
quietly Withdraw old answer new quiet does = absurd quiet
quietly (SearchHigh byte) old answer new quiet does = quiet_sought (SearchHigh byte) _ old answer new refl does
quietly (SearchMiddle byte) old answer new quiet does = quiet_sought (SearchMiddle byte) _ old answer new refl does
quietly (SearchLow byte) old answer new quiet does = quiet_sought (SearchLow byte) _ old answer new refl does
quietly (Program short) old answer new quiet does = absurd quiet
quietly Remove old answer new quiet does = absurd quiet
quietly AskShort old answer new quiet does = quiet_same AskShort old new refl does.0
quietly AskMissing old answer new quiet does = quiet_same AskMissing old new refl does.0
quietly (AskPresent short) old answer new quiet does = quiet_same (AskPresent short) old new refl does.0
quietly (AskRandomHigh short) old answer new quiet does = quiet_same (AskRandomHigh short) old new refl does.0
quietly (AskRandomMiddle short) old answer new quiet does = quiet_same (AskRandomMiddle short) old new refl does.0
quietly (AskRandomLow short) old answer new quiet does = quiet_same (AskRandomLow short) old new refl does.0

-- a unit, with what it was before, through any frame that leaves its addresses
pub record Kept (call : Call) (old : Option Member) (new : Member) : Type 0 where
  pub member : Member
  pub was : old ≡ Some member
  pub short : new.short ≡ member.short
  pub random : new.random ≡ member.random
  pub search : member.phase ≢ Disabled → new.search ≡ sought member.search call
  pub phase : (new.phase ≡ member.phase) ⊎ ((new.phase ≡ Withdrawn) × (member.random ≡ member.search))

kept_quiet : (old : Units) (exchange : Exchange) (new : Units) → IsWhole old exchange new → IsQuiet exchange.call
    → (number : ℕ) (after : Member) → new number ≡ Some after → Kept exchange.call (old number) after
kept_quiet old exchange new whole quiet number after is =
    let it : From exchange (old number) after = from old exchange new whole number after is in
    let kept : Quietly exchange.call it.member it.obeyed
    = quietly exchange.call it.member it.answer it.obeyed quiet it.does in
    record {
      member = it.member;
      was = it.was;
      short = it.on.short ∙ kept.short;
      random = it.on.random ∙ kept.random;
      search = λ on. it.on.search ∙ kept.search on;
      phase = inl (it.on.phase ∙ kept.phase);
    }

withdrawn : (exchange : Exchange) (old : Option Member) (new : Member) (it : From exchange old new)
    → MayBecome ((it.member.phase ≡ Enabled) × (it.member.random ≡ it.member.search))
    (record it.member { phase = Withdrawn }) it.member it.answer it.obeyed
    → Kept Withdraw old new
withdrawn exchange old new it (inl same, none) =
    record {
      member = it.member;
      was = it.was;
      short = it.on.short ∙ ap (λ (m : Member). m.short) same;
      random = it.on.random ∙ ap (λ (m : Member). m.random) same;
      search = λ on. it.on.search ∙ ap (λ (m : Member). m.search) same;
      phase = inl (it.on.phase ∙ ap (λ (m : Member). m.phase) same);
    }
withdrawn exchange old new it (inr (applies, same), none) =
    record {
      member = it.member;
      was = it.was;
      short = it.on.short ∙ ap (λ (m : Member). m.short) same;
      random = it.on.random ∙ ap (λ (m : Member). m.random) same;
      search = λ on. it.on.search ∙ ap (λ (m : Member). m.search) same;
      phase = inr (it.on.phase ∙ ap (λ (m : Member). m.phase) same, applies.1);
    }

kept_withdrawn : (old : Units) (exchange : Exchange) (new : Units) → IsWhole old exchange new
    → exchange.call ≡ Withdraw
    → (number : ℕ) (after : Member) → new number ≡ Some after → Kept Withdraw (old number) after
kept_withdrawn old exchange new whole call number after is =
    let it : From exchange (old number) after = from old exchange new whole number after is in
    withdrawn exchange (old number) after it
    (subst (λ (c : Call). Does it.member c it.answer it.obeyed) call it.does)

-- a quiet frame withdraws none
pub record Calm (call : Call) (old : Option Member) (new : Member) : Type 0 where
  pub kept : Kept call old new
  pub same : new.phase ≡ kept.member.phase

pub calm_quiet : (old : Units) (exchange : Exchange) (new : Units) → IsWhole old exchange new → IsQuiet exchange.call
    → (number : ℕ) (after : Member) → new number ≡ Some after → Calm exchange.call (old number) after
calm_quiet old exchange new whole quiet number after is =
    let it : From exchange (old number) after = from old exchange new whole number after is in
    let kept : Quietly exchange.call it.member it.obeyed
    = quietly exchange.call it.member it.answer it.obeyed quiet it.does in
    record {
      kept = record {
        member = it.member;
        was = it.was;
        short = it.on.short ∙ kept.short;
        random = it.on.random ∙ kept.random;
        search = λ on. it.on.search ∙ kept.search on;
        phase = inl (it.on.phase ∙ kept.phase);
      };
      same = it.on.phase ∙ kept.phase;
    }

-- each unit keeps its addresses, and none goes
pub record Keeps (call : Call) (old new : Units) : Type 0 where
  pub each : (number : ℕ) (after : Member) → new number ≡ Some after → Kept call (old number) after
  pub there : (number : ℕ) (member : Member) → old number ≡ Some member → (after : Member) × (new number ≡ Some after)

pub keeps_quiet : (old : Units) (exchange : Exchange) (new : Units) → IsWhole old exchange new → IsQuiet exchange.call
    → Keeps exchange.call old new
keeps_quiet old exchange new whole quiet =
    record {
      each = λ number after is. kept_quiet old exchange new whole quiet number after is;
      there = λ number member was.
          let heard : IsHeard exchange member (new number) = whole.heard number member was in (heard.after, heard.is);
    }

pub keeps_withdrawn : (old : Units) (answer : Option ℕ) (new : Units)
    → IsWhole old (record { call = Withdraw; answer = answer }) new → Keeps Withdraw old new
keeps_withdrawn old answer new whole =
    record {
      each = λ number after is.
          kept_withdrawn old (record { call = Withdraw; answer = answer }) new whole refl number after is;
      there = λ number member was.
          let heard : IsHeard (record { call = Withdraw; answer = answer }) member (new number)
          = whole.heard number member was in (heard.after, heard.is);
    }

-- a unit that was there is there still, with its addresses
pub record Still (old : Member) (new : Option Member) : Type 0 where
  pub member : Member
  pub is : new ≡ Some member
  pub short : member.short ≡ old.short
  pub random : member.random ≡ old.random

pub still : (call : Call) (old new : Units) → Keeps call old new → (number : ℕ) (member : Member)
    → old number ≡ Some member → Still member (new number)
still call old new keeps number member was =
    let (after, is) = keeps.there number member was in
    let kept : Kept call (old number) after = keeps.each number after is in
    let same : kept.member ≡ member = some_is kept.member member (sym kept.was ∙ was) in
    record {
      member = after;
      is = is;
      short = kept.short ∙ ap (λ (m : Member). m.short) same;
      random = kept.random ∙ ap (λ (m : Member). m.random) same;
    }

-- addresses as units have them, and no two random addresses alike
pub record AreSound (units : Units) : Type 0 where
  pub addresses : (number : ℕ) (member : Member) → units number ≡ Some member → HasAddresses member
  pub numbers : NumbersDiffer units

has_back : (old new : Member) → new.short ≡ old.short → new.random ≡ old.random → HasAddresses new → HasAddresses old
has_back old new short random has =
    let P : Three → Type 0 = λ it. (it.high < 256) × (it.middle < 256) × (it.low < 256) in
    let (high, middle, low) = subst P random (has.high, has.middle, has.low) in
    record {
      high = high;
      middle = middle;
      low = low;
      short = λ it is. has.short it (short ∙ is);
    }

-- what is so after such a frame was so before it
pub sound_before : (call : Call) (old new : Units) → Keeps call old new → AreSound new → AreSound old
sound_before call old new keeps sound =
    record {
      addresses = λ number member was.
          let it : Still member (new number) = still call old new keeps number member was in
          has_back member it.member it.short it.random (sound.addresses number it.member it.is);
      numbers = λ one two member other was_one was_two same.
          let it : Still member (new one) = still call old new keeps one member was_one in
          let also : Still other (new two) = still call old new keeps two other was_two in
          sound.numbers one two it.member also.member it.is also.is (it.random ∙ same ∙ sym also.random);
    }

-- frames that each unit heard
pub steps_of : (first : Units) (past : List Exchange) (last : Units) (states : List Units)
    → IsChain IsWhole first past last states → IsChain Step first past last states
steps_of first [] last [] whole = whole
steps_of first [] last (state ∷ states) whole = absurd whole
steps_of first (newest ∷ past) last [] whole = absurd whole
steps_of first (newest ∷ past) last (state ∷ states) whole =
    (whole.0.step, steps_of first past state states whole.1)

pub heard_of : (first : Units) (past : List Exchange) (last : Units) (states : List Units)
    → IsChain IsWhole first past last states → AtEachState WasHeard past last states
heard_of first [] last [] whole = tt
heard_of first [] last (state ∷ states) whole = absurd whole
heard_of first (newest ∷ past) last [] whole = absurd whole
heard_of first (newest ∷ past) last (state ∷ states) whole =
    (inl whole.0, heard_of first past state states whole.1)
