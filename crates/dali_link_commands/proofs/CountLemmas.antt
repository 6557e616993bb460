-- A census over a link, frame by frame.
use Rattle.std.proofs.Common.{◌≡◌, ℕ, List, [], ◌∷◌, Option, subst, ◌∙◌}
use Rattle.dali_frame.specs.declared.forward.Frame.TheVariants.{Other}
use Rattle.dali_trace.specs.declared.happening.Happening.TheVariants.{Sent}
use Rattle.dali_drive.specs.Transcript.{Streams, Transcript}
use Rattle.dali_drive.proofs.ReadingLemmas.{told_nothing, told_both}
use Rattle.dali_address.specs.Calls.{call_word}
use Rattle.dali_address.specs.Counting.{HasEnded, IsAfterChecks, Told, care_of}
use Rattle.dali_address.specs.Keeps.{GivesNone}
use Rattle.dali_address.specs.Steps.{Exchange}
use Rattle.dali_address.proofs.CountingLemmas.{census_is_true, checks_count}
use Rattle.dali_address.specs.declared.call.Call.{Call}
use Rattle.dali_address.specs.declared.census.Census.{Census}
use Rattle.dali_address.specs.declared.census.CensusEnd.{CensusEnd}
use Rattle.dali_link_commands.specs.Addressed.{frames_of}
use Rattle.dali_link_commands.specs.Counted.{IsAsked, IsCounted}

-- so far these frames went, and the census has seen what came of them
pub record IsCounting (care : ℕ) (census : Census) (first last : Streams) : Type 0 where
  pub own : care_of census ≡ care
  pub past : List Exchange
  pub asked : IsAsked past first last
  pub told : Told past census

pub none_asked : (care : ℕ) (census : Census) (first : Streams) → care_of census ≡ care → Told [] census
    → IsCounting care census first first
none_asked care census first own told =
    record { own = own; past = []; asked = record { gives = tt; link = told_nothing first }; told = told }

-- one more frame
pub one_asked : (care : ℕ) (before after : Census) (first mid last : Streams) (call : Call) (word : ℕ)
    (answer : Option ℕ)
    → IsCounting care before first mid → word ≡ call_word call → GivesNone call → care_of after ≡ care_of before
    → ((told : List Exchange) → Told told before → Told (record { call = call; answer = answer } ∷ told) after)
    → Transcript (Sent (Other word) answer ∷ []) mid last
    → IsCounting care after first last
one_asked care before after first mid last call word answer far is gives own told text =
    let one : Exchange = record { call = call; answer = answer } in
    let here : Transcript (Sent (Other (call_word call)) answer ∷ []) mid last
    = subst (λ (it : ℕ). Transcript (Sent (Other it) answer ∷ []) mid last) is text in
    record {
      own = own ∙ far.own;
      past = one ∷ far.past;
      asked = record {
        gives = (gives, far.asked.gives);
        link = told_both (frames_of (one ∷ [])) (frames_of far.past) first mid last far.asked.link here;
      };
      told = told far.past far.told;
    }

pub counted : (care : ℕ) (end : CensusEnd) (census : Census) (first last : Streams)
    → IsCounting care census first last → HasEnded end census → IsCounted care end first last
counted care end census first last far ended =
    record {
      told = far.past;
      asked = far.asked;
      checks = subst (λ (it : ℕ). IsAfterChecks end it far.past) far.own
          (checks_count census far.past end far.told ended);
      says = λ before after states was. census_is_true census far.past end before after states far.told ended was;
    }
