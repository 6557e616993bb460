-- A census over a bus.
use Rattle.std.proofs.Common.{◌≡◌, ℕ, List, [], ◌∷◌, Option, refl, subst, ◌∙◌}
use Rattle.dali_address.specs.Units.{Units}
use Rattle.dali_address.specs.Steps.{Exchange, Step}
use Rattle.dali_address.specs.Keeps.{GivesNone, HasShort}
use Rattle.dali_address.specs.Counting.{Told, HasEnded, care_of, IsAfterChecks, HasTaken, IsTaking}
use Rattle.dali_address.proofs.KeepLemmas.{shorts_along}
use Rattle.dali_address.proofs.CountingLemmas.{census_is_true, checks_count}
use Rattle.dali_address.specs.declared.call.Call.{Call}
use Rattle.dali_address.specs.declared.census.Census.{Census}
use Rattle.dali_address.specs.declared.census.CensusEnd.{CensusEnd}

-- at first nothing was sent
pub none_taken : (care : ℕ) (first : Units) (census : Census) → care_of census ≡ care → Told [] census
    → IsTaking care first first census
none_taken care first census own told =
    record { own = own; past = []; states = []; chain = refl; gives = tt; told = told }

-- one more frame
pub one_taken : (care : ℕ) (first old new : Units) (before after : Census) (call : Call) (answer : Option ℕ)
    → IsTaking care first old before → Step old (record { call = call; answer = answer }) new → GivesNone call
    → care_of after ≡ care_of before
    → ((told : List Exchange) → Told told before → Told (record { call = call; answer = answer } ∷ told) after)
    → IsTaking care first new after
one_taken care first old new before after call answer taking step gives own told =
    record {
      own = own ∙ taking.own;
      past = record { call = call; answer = answer } ∷ taking.past;
      states = old ∷ taking.states;
      chain = (step, taking.chain);
      gives = (gives, taking.gives);
      told = told taking.past taking.told;
    }

pub has_taken : (care : ℕ) (end : CensusEnd) (first last : Units) (census : Census)
    → IsTaking care first last census → HasEnded end census → HasTaken care end first last
has_taken care end first last census taking ended =
    record {
      past = taking.past;
      states = taking.states;
      chain = taking.chain;
      gives = taking.gives;
      checks = subst (λ (it : ℕ). IsAfterChecks end it taking.past) taking.own
          (checks_count census taking.past end taking.told ended);
      says = λ was. census_is_true census taking.past end first last taking.states taking.told ended was;
    }

pub shorts_kept : (care : ℕ) (first last : Units) (census : Census) → IsTaking care first last census
    → (short : Option ℕ) (number : ℕ) → HasShort short number first → HasShort short number last
shorts_kept care first last census taking short number was =
    shorts_along first taking.past last taking.states taking.gives taking.chain short number was
