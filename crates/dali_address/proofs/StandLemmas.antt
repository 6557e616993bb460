-- The state of a census agrees with its tally, frame by frame.
use Rattle.std.proofs.Common.{◌≡◌, ◌≢◌, ℕ, inl, inr, List, [], ◌∷◌, Option, Some, None, refl, sym, subst, ap, ◌∙◌}
use Rattle.std.proofs.Common.{arith}
use Rattle.dali_address.specs.Units.{Three, number_of}
use Rattle.dali_address.specs.Places.{three_of}
use Rattle.dali_address.specs.Steps.{Exchange}
use Rattle.dali_address.specs.Tallying.{Counted, Tally, only_asks, sought, Rises, Repeats, Leads, IsCensus}
use Rattle.dali_address.specs.Standing.{IsNewest, IsInOrder, IsLastOf, MayTally, Stands, CountsIt, CountsAgain}
use Rattle.dali_address.specs.Standing.{Leaves, Follows}
use Rattle.dali_address.specs.declared.call.Call.{Call}
use Rattle.dali_address.specs.declared.call.Call.TheVariants.{Terminate, InitialiseAll, InitialiseMissing, InitialiseAt}
use Rattle.dali_address.specs.declared.call.Call.TheVariants.{Randomise, Compare, Withdraw, SearchHigh, SearchMiddle}
use Rattle.dali_address.specs.declared.call.Call.TheVariants.{SearchLow, Program, Remove, AskShort, AskMissing}
use Rattle.dali_address.specs.declared.call.Call.TheVariants.{AskPresent, AskRandomHigh, AskRandomMiddle, AskRandomLow}
use Rattle.dali_address.specs.declared.stage.Found.{Found}
use Rattle.dali_address.specs.declared.tallied.Tallied.{Tallied}

rises : (newest : Option Found) (counted : List Counted) (random : Three) → IsLastOf newest counted
    → IsInOrder newest random → (IsNewest newest random → ⊥) → Rises counted random
rises None [] random last order other = tt
rises None (one ∷ more) random last order other = absurd last
rises (Some found) [] random last order other = absurd last
rises (Some found) (one ∷ more) random last order other =
    let same : number_of one.random ≡ number_of (three_of found) = ap number_of last in omega arith

repeats : (newest : Option Found) (counted : List Counted) (random : Three) → IsLastOf newest counted
    → IsNewest newest random → Repeats counted random
repeats None [] random last again = absurd again
repeats None (one ∷ more) random last again = absurd last
repeats (Some found) [] random last again = absurd last
repeats (Some found) (one ∷ more) random last again = ap number_of last ∙ again

counts_follow : (told : List Exchange) (tally : Tally) (old new : Tallied) (answer : Option ℕ) → IsCensus told tally
    → Stands old tally → IsInOrder old.newest (three_of old.search) → CountsIt old new
    → Follows told Withdraw answer new
counts_follow told tally old new answer census stands order counts =
    let one : Counted = record { random = tally.search; told = counts.byte } in
    record {
      after = record { search = tally.search; counted = one ∷ tally.counted; asked = None };
      census = inr (
        tally,
        census,
        inl (record {
          byte = counts.byte;
          told = sym stands.asked ∙ counts.told;
          above = subst (λ (it : Three). Rises tally.counted it) stands.search
              (rises old.newest tally.counted (three_of old.search) stands.newest order counts.other);
          is = refl;
        }),
      );
      stands = record {
        search = ap three_of counts.search ∙ stands.search;
        asked = counts.asked;
        newest = subst (λ (it : Option Found). IsLastOf it (one ∷ tally.counted)) (sym counts.newest)
            (sym stands.search);
        marks = counts.marks tally.counted one refl stands.marks;
      };
    }

again_follows : (told : List Exchange) (tally : Tally) (old new : Tallied) (answer : Option ℕ) → IsCensus told tally
    → Stands old tally → CountsAgain old new → Follows told Withdraw answer new
again_follows told tally old new answer census stands again =
    record {
      after = record { search = tally.search; counted = tally.counted; asked = None };
      census = inr (
        tally,
        census,
        inr (record {
          again = subst (λ (it : Three). Repeats tally.counted it) stands.search
              (repeats old.newest tally.counted (three_of old.search) stands.newest again.again);
          is = refl;
        }),
      );
      stands = record {
        search = ap three_of again.search ∙ stands.search;
        asked = again.asked;
        newest = subst (λ (it : Option Found). IsLastOf it tally.counted) (sym again.newest) stands.newest;
        marks = rw again.marks stands.marks;
      };
    }

pub leave_follows : (told : List Exchange) (tally : Tally) (old new : Tallied) (answer : Option ℕ) → IsCensus told tally
    → Stands old tally → MayTally old Withdraw → Leaves old new → Follows told Withdraw answer new
leave_follows told tally old new answer census stands may (inl counts) =
    counts_follow told tally old new answer census stands may.1 counts
leave_follows told tally old new answer census stands may (inr again) =
    again_follows told tally old new answer census stands again

pub asks_follow : (told : List Exchange) (tally : Tally) (old : Tallied) (answer : Option ℕ) (unanswered : ℕ)
    → IsCensus told tally → Stands old tally
    → Follows told AskShort answer (record old { asked = answer; unanswered = unanswered })
asks_follow told tally old answer unanswered census stands =
    record {
      after = record { search = tally.search; counted = tally.counted; asked = answer };
      census = inr (tally, census, refl);
      stands = record { search = stands.search; asked = refl; newest = stands.newest; marks = stands.marks };
    }

-- any other frame that a census may send
leads_other : (old : Tally) (kept : Tallied) (call : Call) (answer : Option ℕ) → call ≢ Withdraw → call ≢ AskShort
    → MayTally kept call → Leads old call answer (only_asks old call)
leads_other old kept Withdraw answer other ask may = absurd (other refl)
leads_other old kept AskShort answer other ask may = absurd (ask refl)
leads_other old kept Terminate answer other ask may = absurd may
leads_other old kept InitialiseAll answer other ask may = absurd may
leads_other old kept InitialiseMissing answer other ask may = absurd may
leads_other old kept (InitialiseAt short) answer other ask may = absurd may
leads_other old kept Randomise answer other ask may = absurd may
leads_other old kept (Program short) answer other ask may = absurd may
leads_other old kept Remove answer other ask may = absurd may
leads_other old kept Compare answer other ask may = (tt, refl)
leads_other old kept (SearchHigh byte) answer other ask may = (tt, refl)
leads_other old kept (SearchMiddle byte) answer other ask may = (tt, refl)
leads_other old kept (SearchLow byte) answer other ask may = (tt, refl)
leads_other old kept AskMissing answer other ask may = (tt, refl)
leads_other old kept (AskPresent short) answer other ask may = (tt, refl)
leads_other old kept (AskRandomHigh short) answer other ask may = (tt, refl)
leads_other old kept (AskRandomMiddle short) answer other ask may = (tt, refl)
leads_other old kept (AskRandomLow short) answer other ask may = (tt, refl)

pub other_follows : (told : List Exchange) (tally : Tally) (old : Tallied) (search : Found) (call : Call)
    (answer : Option ℕ)
    → IsCensus told tally → Stands old tally → call ≢ Withdraw → call ≢ AskShort → MayTally old call
    → three_of search ≡ sought (three_of old.search) call
    → Follows told call answer (record old { search = search; asked = None })
other_follows told tally old search call answer census stands other ask may put =
    record {
      after = only_asks tally call;
      census = inr (tally, census, leads_other tally old call answer other ask may);
      stands = record {
        search = put ∙ ap (λ (it : Three). sought it call) stands.search;
        asked = refl;
        newest = stands.newest;
        marks = stands.marks;
      };
    }
