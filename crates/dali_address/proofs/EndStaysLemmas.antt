-- The result of a census stays true while no short address is given or taken away.
use Rattle.std.proofs.Common.{◌≡◌, ℕ, List, [], ◌∷◌, Option, Some, IsSome, IsNone, refl, sym, subst, ap, ◌∙◌}
use Rattle.std.specs.List.{AllByRecursion}
use Rattle.dali_bus.specs.Chain.{IsChain}
use Rattle.dali_address.specs.Units.{Member, Units, IsAt, IsAlone}
use Rattle.dali_address.specs.Steps.{Exchange, MayObey, Step}
use Rattle.dali_address.specs.Keeps.{GivesNone}
use Rattle.dali_address.specs.Census.{AllHaveOne, AreSoMany, IsShared, LacksOne, IsSharing, IsEndOf}
use Rattle.dali_address.specs.Counting.{EndStays}
use Rattle.dali_address.proofs.KeepLemmas.{short_there}
use Rattle.dali_address.proofs.HeardLemmas.{some_is, some_there, there_before}
use Rattle.dali_address.specs.declared.sharing.Sharing.{Sharing}
use Rattle.dali_address.specs.declared.census.CensusEnd.{CensusEnd}
use Rattle.dali_address.specs.declared.census.CensusEnd.TheVariants.{Apart, Shared, Unclear}

-- the unit has the same short address, or none as before
record SameShort (old : Member) (new : Option Member) : Type 0 where
  after : Member
  is : new ≡ Some after
  short : after.short ≡ old.short

-- the same units, with the same short addresses
record SameShorts (old new : Units) : Type 0 where
  on : (number : ℕ) (member : Member) → old number ≡ Some member → SameShort member (new number)
  back : (number : ℕ) (after : Member) → new number ≡ Some after → SameShort after (old number)

same_step : (old : Units) (exchange : Exchange) (new : Units) → GivesNone exchange.call → Step old exchange new
    → SameShorts old new
same_step old exchange new gives step = record { on = on; back = back }
  where
    on : (number : ℕ) (member : Member) → old number ≡ Some member → SameShort member (new number)
    on number member was =
        let may : MayObey (Some member) exchange.call (new number)
        = subst (λ (it : Option Member). MayObey it exchange.call (new number)) was (step.each number) in
        let (after, is, short) = short_there member exchange.call (new number) gives may in
        record { after = after; is = is; short = short }

    back : (number : ℕ) (after : Member) → new number ≡ Some after → SameShort after (old number)
    back number after is =
        let (member, was)
        = there_before (old number) exchange.call (new number) after (step.each number) is in
        let it : SameShort member (new number) = on number member was in
        let same : it.after ≡ after = some_is it.after after (sym it.is ∙ is) in
        record {
          after = member;
          is = was;
          short = sym it.short ∙ ap (λ (m : Member). m.short) same;
        }

same_chain : (first : Units) (past : List Exchange) (last : Units) (states : List Units)
    → AllByRecursion (λ exchange. GivesNone exchange.call) past → IsChain Step first past last states
    → SameShorts first last
same_chain first [] last [] gives same =
    subst (λ (it : Units). SameShorts first it) (sym same)
    (record {
      on = λ number member was. record { after = member; is = was; short = refl };
      back = λ number after is. record { after = after; is = is; short = refl };
    })
same_chain first [] last (state ∷ states) gives steps = absurd steps
same_chain first (newest ∷ past) last [] gives steps = absurd steps
same_chain first (newest ∷ past) last (state ∷ states) gives steps =
    let one : SameShorts first state = same_chain first past state states gives.1 steps.1 in
    let two : SameShorts state last = same_step state newest last gives.0 steps.0 in
    record {
      on = λ number member was.
          let it : SameShort member (state number) = one.on number member was in
          let more : SameShort it.after (last number) = two.on number it.after it.is in
          record { after = more.after; is = more.is; short = more.short ∙ it.short };
      back = λ number after is.
          let it : SameShort after (state number) = two.back number after is in
          let more : SameShort it.after (first number) = one.back number it.after it.is in
          record { after = more.after; is = more.is; short = more.short ∙ it.short };
    }

-- a unit at a short address, through the same short addresses
at_on : (old new : Units) (short number : ℕ) → ((number : ℕ) (member : Member) → old number ≡ Some member
    → SameShort member (new number)) → IsAt old short number → IsAt new short number
at_on old new short number on at =
    let it : SameShort at.member (new number) = on number at.member at.there in
    record { member = it.after; there = it.is; has = it.short ∙ at.has }

all_on : (old new : Units) → SameShorts old new → AllHaveOne old → AllHaveOne new
all_on old new same all number member is =
    let it : SameShort member (old number) = same.back number member is in
    subst (λ (o : Option ℕ). IsSome o) it.short (all number it.after it.is)

alone_on : (old new : Units) (short : ℕ) → SameShorts old new → IsAlone old short → IsAlone new short
alone_on old new short same alone one two at_one at_two =
    alone one two (at_on new old short one same.back at_one) (at_on new old short two same.back at_two)

some_on : (old new : Units) (number : ℕ) → ((number : ℕ) (member : Member) → old number ≡ Some member
    → SameShort member (new number)) → IsSome (old number) → IsSome (new number)
some_on old new number on some =
    let (member, was) = some_there old number some in
    let it : SameShort member (new number) = on number member was in
    subst (λ (o : Option Member). IsSome o) (sym it.is) refl

many_on : (many : ℕ) (old new : Units) → SameShorts old new → AreSoMany many old → AreSoMany many new
many_on many old new same are =
    record {
      numbers = are.numbers;
      long = are.long;
      once = are.once;
      each = λ number. (
        λ some. (are.each number).0 (some_on new old number same.back some),
        λ is. some_on old new number same.on ((are.each number).1 is),
      );
    }

sharing_on : (sharing : Sharing) (old new : Units) → SameShorts old new → IsSharing sharing old → IsSharing sharing new
sharing_on sharing old new same is =
    record {
      shared = λ short within on.
          let it : IsShared old short = is.shared short within on in
          record {
            one = it.one;
            two = it.two;
            others = it.others;
            at_one = at_on old new short it.one same.on it.at_one;
            at_two = at_on old new short it.two same.on it.at_two;
          };
      alone = λ short within off. alone_on old new short same (is.alone short within off);
      missing = λ on.
          let it : LacksOne old = is.missing on in
          let now : SameShort it.member (new it.number) = same.on it.number it.member it.there in
          record {
            number = it.number;
            member = now.after;
            there = now.is;
            none = subst (λ (o : Option ℕ). IsNone o) (sym now.short) it.none;
          };
      complete = λ off. all_on old new same (is.complete off);
    }

end_on : (end : CensusEnd) (old new : Units) → SameShorts old new → IsEndOf end old → IsEndOf end new
end_on (Apart many) old new same ((all, alone), are) = (
  (all_on old new same all, λ short. alone_on old new short same (alone short)),
  many_on many old new same are,
)
end_on (Shared sharing) old new same is = sharing_on sharing old new same is
end_on Unclear old new same is = tt

pub end_stays : EndStays
end_stays end first past last states gives steps is =
    end_on end first last (same_chain first past last states gives steps) is
