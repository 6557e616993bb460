-- The result of a census that ended, if nothing was lost.
use Rattle.std.proofs.Common.{◌≡◌, ℕ, inl, inr, List, [], ◌∷◌, None, refl, sym, subst, ap, ◌∙◌}
use Rattle.dali_address.specs.Units.{Units}
use Rattle.dali_address.specs.Steps.{Exchange}
use Rattle.dali_address.specs.Census.{IsWhole, WasWhole, highest, IsEndOf}
use Rattle.dali_address.specs.Tallying.{Tally, IsCensus}
use Rattle.dali_address.specs.Marking.{IsSaidBy}
use Rattle.dali_address.specs.Counting.{AreSilent, HasGivenUp, IsThrough, HasCome, CensusIsTrue, ChecksCount}
use Rattle.dali_address.proofs.HeardLemmas.{Keeps, keeps_quiet, AreSound, sound_before}
use Rattle.dali_address.proofs.CensusLemmas.{IsSoFar, heard_amid, so_far, so_after}
use Rattle.dali_address.proofs.OpeningLemmas.{Came, came_before}
use Rattle.dali_address.proofs.EndLemmas.{AreJust, all_counted, apart_so, sharing_so}
use Rattle.dali_address.specs.declared.call.Call.{Call}
use Rattle.dali_address.specs.declared.call.Call.TheVariants.{Compare, SearchHigh}
use Rattle.dali_address.specs.declared.census.CensusEnd.{CensusEnd}
use Rattle.dali_address.specs.declared.census.CensusEnd.TheVariants.{Apart, Shared, Unclear}
use Rattle.dali_address.specs.declared.walk.Walk.{Walk}
use Rattle.dali_address.specs.declared.walk.Walk.TheVariants.{Done, Lost}
use Rattle.dali_address.specs.declared.tallied.Tallied.{Tallied}

-- the opening ends with another frame than a check
not_opening : (call : Call) (calls others : List Call) → call ≡ Compare → call ∷ calls ≡ SearchHigh 0xFF ∷ others → ⊥
not_opening call calls others check same = cc

-- the check that no unit answered, with the highest search address
just_counted : (first : Units) (past : List Exchange) (last : Units) (states : List Units) (tally : Tally)
    → WasWhole first (record { call = Compare; answer = None } ∷ past) last states
    → IsCensus (record { call = Compare; answer = None } ∷ past) tally → tally.search ≡ highest
    → AreJust tally.counted last
just_counted first past last [] tally was census most = absurd was.chain
just_counted first past last (state ∷ states) tally was (inl opened) most =
    absurd (not_opening Compare _ _ refl opened.sent)
just_counted first past last (state ∷ states) tally was (inr (before, earlier, leads)) most =
    let check : Exchange = record { call = Compare; answer = None } in
    let whole : IsWhole state check last = heard_amid check past last state states before was.heard.0 earlier in
    let came : Came first past state states
    = came_before first check past last state states
    (record { chain = was.chain; heard = was.heard; counted = was.counted }) in
    let sound : AreSound last = record { addresses = was.addresses; numbers = was.numbers } in
    let keeps : Keeps Compare state last
    = keeps_quiet state check last whole tt in
    let old : AreSound state = sound_before Compare state last keeps sound in
    let far : IsSoFar state before = so_far first past state states before old came earlier in
    let now : IsSoFar last tally
    = so_after state Compare None last before tally old far whole leads in
    let search : tally.search ≡ before.search = ap (λ (it : Tally). it.search) leads.1 in
    let counted : tally.counted ≡ before.counted = ap (λ (it : Tally). it.counted) leads.1 in
    let each = all_counted before.counted state last before.search far.amid (sym search ∙ most) old whole in
    record {
      sound = sound;
      covers = rw counted each;
      named = now.amid.named;
      rising = now.amid.rising;
    }

through_so : (care : ℕ) (kept : Tallied) (told : List Exchange) (end : CensusEnd) (first last : Units)
    (states : List Units)
    → IsThrough care kept told → IsSaidBy kept.marks end → WasWhole first told last states → IsEndOf end last
through_so care kept told end first last states through said was =
    let tally = through.so_far.tally in
    let just : AreJust tally.counted last
    = just_counted first through.past last states tally
    (subst (λ (it : List Exchange). WasWhole first it last states) through.newest was)
    (subst (λ (it : List Exchange). IsCensus it tally) through.newest through.so_far.is)
    (sym through.so_far.stands.search ∙ through.put) in
    by end said just
  where
    by : (end : CensusEnd) → IsSaidBy kept.marks end → AreJust through.so_far.tally.counted last → IsEndOf end last
    by (Apart many) (on, count) just =
        subst (λ (it : ℕ). IsEndOf (Apart it) last) count
        (apart_so through.so_far.tally.counted last kept.marks.count just (through.so_far.stands.marks.apart on))
    by (Shared sharing) (off, same) just =
        subst (λ it. IsEndOf (Shared it) last) same
        (sharing_so through.so_far.tally.counted last kept.marks just through.so_far.stands.marks)
    by Unclear said just = absurd said

done_so : (care : ℕ) (walk : Walk) (kept : Tallied) (told : List Exchange) (end : CensusEnd) (first last : Units)
    (states : List Units) → walk ≡ Done → HasCome care walk kept told → IsSaidBy kept.marks end
    → WasWhole first told last states → IsEndOf end last
done_so care walk kept told end first last states done come said was =
    through_so care kept told end first last states
    (subst (λ (it : Walk). HasCome care it kept told) done come) said was

pub census_is_true : CensusIsTrue
census_is_true census told (Apart many) first last states come ended was =
    done_so census.care census.walk census.kept told (Apart many) first last states ended.0 come.come ended.1 was
census_is_true census told (Shared sharing) first last states come ended was =
    done_so census.care census.walk census.kept told (Shared sharing) first last states ended.0 come.come ended.1 was
census_is_true census told Unclear first last states come ended was = tt

silent : (care : ℕ) (walk : Walk) (kept : Tallied) (told : List Exchange) → walk ≡ Done → HasCome care walk kept told
    → AreSilent care told
silent care walk kept told done come =
    let through : IsThrough care kept told = subst (λ (it : Walk). HasCome care it kept told) done come in
    through.silent

given_up : (care : ℕ) (walk : Walk) (kept : Tallied) (told : List Exchange) → walk ≡ Lost → HasCome care walk kept told
    → HasGivenUp told
given_up care walk kept told lost come = subst (λ (it : Walk). HasCome care it kept told) lost come

pub checks_count : ChecksCount
checks_count census told (Apart many) come ended = silent census.care census.walk census.kept told ended.0 come.come
checks_count census told (Shared sharing) come ended = silent census.care census.walk census.kept told ended.0 come.come
checks_count census told Unclear come ended =
    given_up census.care census.walk census.kept told ended come.come
