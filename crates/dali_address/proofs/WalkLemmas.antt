-- A census comes from step to step.
use Rattle.std.proofs.Common.{◌≡◌, ◌≢◌, ◌+◌, ◌-◌, ◌<◌, ◌≤◌, ℕ, zero, suc, inl, List, [], ◌∷◌, Option, None, refl, ap}
use Rattle.std.proofs.Common.{◌∙◌, arith, sym, subst, add-one, length}
use Rattle.dali_address.specs.Steps.{Exchange}
use Rattle.dali_address.specs.Tallying.{Tally, IsCensus}
use Rattle.dali_address.specs.Standing.{Stands, Follows}
use Rattle.dali_address.specs.Walks.{IsStep, IsLast, GoesOn, MayLose, left_in}
use Rattle.dali_address.specs.Counting.{AreSilent, HasGivenUp, IsSearching, IsThrough, IsChecking, HasCome}
use Rattle.dali_address.specs.declared.call.Call.{Call}
use Rattle.dali_address.specs.declared.call.Call.TheVariants.{Compare}
use Rattle.dali_address.specs.declared.walk.Walk.{Walk}
use Rattle.dali_address.specs.declared.walk.Walk.TheVariants.{Open, Check, Seek, Look, Settle, Put, Ask, Leave, Raise}
use Rattle.dali_address.specs.declared.walk.Walk.TheVariants.{Done, Lost}
use Rattle.dali_address.specs.declared.tallied.Tallied.{Tallied}

searching : (care : ℕ) (walk : Walk) (kept : Tallied) (told : List Exchange) (call : Call)
    → ((number : ℕ) → walk ≢ Open number) → IsStep walk kept call → HasCome care walk kept told → IsSearching kept told
searching care (Open number) kept told call never step come = absurd (never number refl)
searching care (Check noes) kept told call never step come = come.so_far
searching care (Seek digit low high noes) kept told call never step come = come
searching care (Look digit low high noes) kept told call never step come = come
searching care (Settle digit byte) kept told call never step come = come
searching care (Put digit) kept told call never step come = come
searching care Ask kept told call never step come = come
searching care Leave kept told call never step come = come
searching care (Raise digit) kept told call never step come = come
searching care Done kept told call never step come = absurd step
searching care Lost kept told call never step come = absurd step

-- a count of silent checks includes any smaller count
fewer : (few many : ℕ) (told : List Exchange) → few ≤ many → AreSilent many told → AreSilent few told
fewer zero many told low silent = tt
fewer (suc few) zero told low silent = absurd (omega arith)
fewer (suc few) (suc many) [] low silent = absurd silent
fewer (suc few) (suc many) (newest ∷ past) low silent =
    (silent.0, fewer few many past (omega arith) silent.1)

one_more_silent : (noes : ℕ) (call : Call) (answer : Option ℕ) (told : List Exchange) → call ≡ Compare → answer ≡ None
    → AreSilent noes told → AreSilent (noes + 1) (record { call = call; answer = answer } ∷ told)
one_more_silent noes call answer told compare none silent =
    let E : Call → Option ℕ → Exchange = λ c a. record { call = c; answer = a } in
    subst (λ (n : ℕ). AreSilent n (E call answer ∷ told)) (sym (add-one noes))
    (ap (λ (it : Call). E it answer) compare ∙ ap (λ (it : Option ℕ). E Compare it) none, silent)

through : (care : ℕ) (walk : Walk) (old new : Tallied) (call : Call) (answer : Option ℕ) (told : List Exchange)
    → IsStep walk old call → HasCome care walk old told → IsLast care walk new answer
    → IsSearching new (record { call = call; answer = answer } ∷ told)
    → IsThrough care new (record { call = call; answer = answer } ∷ told)
through care (Check noes) old new call answer told step was last so_far =
    let E : Call → Option ℕ → List Exchange = λ c a. record { call = c; answer = a } ∷ told in
    record {
      so_far = so_far;
      past = told;
      newest = ap (λ (it : Call). E it answer) step.0 ∙ ap (λ (it : Option ℕ). E Compare it) last.0;
      silent = fewer care (noes + 1) (E call answer) last.2
          (one_more_silent noes call answer told step.0 last.0 was.silent);
      put = last.1;
    }
through care (Open number) old new call answer told step was last so_far = absurd last
through care (Seek digit low high noes) old new call answer told step was last so_far = absurd last
through care (Look digit low high noes) old new call answer told step was last so_far = absurd last
through care (Settle digit byte) old new call answer told step was last so_far = absurd last
through care (Put digit) old new call answer told step was last so_far = absurd last
through care Ask old new call answer told step was last so_far = absurd last
through care Leave old new call answer told step was last so_far = absurd last
through care (Raise digit) old new call answer told step was last so_far = absurd last
through care Done old new call answer told step was last so_far = absurd last
through care Lost old new call answer told step was last so_far = absurd last

none : (noes : ℕ) (told : List Exchange) → noes ≡ 0 → AreSilent noes told
none noes told same = subst (λ (n : ℕ). AreSilent n told) (sym same) tt

first_check : (noes : ℕ) (kept : Tallied) (told : List Exchange) → IsSearching kept told → noes ≡ 0
    → IsChecking noes kept told
first_check noes kept told so_far same = record { so_far = so_far; silent = none noes told same }

-- the checks so far
checking : (care noes : ℕ) (walk : Walk) (old new : Tallied) (call : Call) (answer : Option ℕ) (told : List Exchange)
    → IsStep walk old call → HasCome care walk old told → GoesOn walk answer (Check noes)
    → IsSearching new (record { call = call; answer = answer } ∷ told)
    → IsChecking noes new (record { call = call; answer = answer } ∷ told)
checking care noes (Check before) old new call answer told step was goes so_far =
    record {
      so_far = so_far;
      silent = subst (λ (n : ℕ). AreSilent n (record { call = call; answer = answer } ∷ told)) (sym goes.1)
          (one_more_silent before call answer told step.0 goes.0 was.silent);
    }
checking care noes (Open number) old new call answer told step was goes so_far = first_check noes new _ so_far goes
checking care noes (Seek digit low high other) old new call answer told step was goes so_far =
    first_check noes new _ so_far goes
checking care noes (Look digit low high other) old new call answer told step was goes so_far =
    first_check noes new _ so_far goes
checking care noes (Settle digit byte) old new call answer told step was goes so_far =
    first_check noes new _ so_far goes
checking care noes (Put digit) old new call answer told step was goes so_far = first_check noes new _ so_far goes
checking care noes Ask old new call answer told step was goes so_far = first_check noes new _ so_far goes
checking care noes Leave old new call answer told step was goes so_far = first_check noes new _ so_far goes
checking care noes (Raise digit) old new call answer told step was goes so_far = first_check noes new _ so_far goes
checking care noes Done old new call answer told step was goes so_far = first_check noes new _ so_far goes
checking care noes Lost old new call answer told step was goes so_far = first_check noes new _ so_far goes

-- after an ask a census may have given up
gave_up : (old : Walk) (kept : Tallied) (call : Call) (answer : Option ℕ) (told : List Exchange)
    → ((number : ℕ) → old ≢ Open number) → IsStep old kept call → MayLose old
    → HasGivenUp (record { call = call; answer = answer } ∷ told)
gave_up (Open number) kept call answer told never step may = absurd (never number refl)
gave_up (Check noes) kept call answer told never step may = absurd may
gave_up (Seek digit low high noes) kept call answer told never step may = absurd may
gave_up (Look digit low high noes) kept call answer told never step may = absurd may
gave_up (Settle digit byte) kept call answer told never step may = absurd may
gave_up (Put digit) kept call answer told never step may = absurd may
gave_up Ask kept call answer told never step may = inl step.0
gave_up Leave kept call answer told never step may = absurd may
gave_up (Raise digit) kept call answer told never step may = absurd may
gave_up Done kept call answer told never step may = absurd step
gave_up Lost kept call answer told never step may = absurd step

come : (care : ℕ) (old new : Walk) (answer : Option ℕ) (kept : Tallied) (told : List Exchange) → GoesOn old answer new
    → IsSearching kept told → ((noes : ℕ) → GoesOn old answer (Check noes) → IsChecking noes kept told)
    → (new ≡ Done → IsThrough care kept told) → (new ≡ Lost → HasGivenUp told) → HasCome care new kept told
come care old (Open number) answer kept told goes so_far checks done lost = absurd goes
come care old (Check noes) answer kept told goes so_far checks done lost = checks noes goes
come care old Done answer kept told goes so_far checks done lost = done refl
come care old Lost answer kept told goes so_far checks done lost = lost refl
come care old (Seek digit low high noes) answer kept told goes so_far checks done lost = so_far
come care old (Look digit low high noes) answer kept told goes so_far checks done lost = so_far
come care old (Settle digit byte) answer kept told goes so_far checks done lost = so_far
come care old (Put digit) answer kept told goes so_far checks done lost = so_far
come care old Ask answer kept told goes so_far checks done lost = so_far
come care old Leave answer kept told goes so_far checks done lost = so_far
come care old (Raise digit) answer kept told goes so_far checks done lost = so_far

-- one more frame once the opening is over
pub comes_on : (care : ℕ) (old new : Walk) (before after : Tallied) (told : List Exchange) (call : Call)
    (answer : Option ℕ)
    → ((number : ℕ) → old ≢ Open number) → IsStep old before call → HasCome care old before told
    → ((tally : Tally) → IsCensus told tally → Stands before tally → Follows told call answer after)
    → (new ≡ Done → IsLast care old after answer) → GoesOn old answer new → (new ≡ Lost → MayLose old)
    → HasCome care new after (record { call = call; answer = answer } ∷ told)
comes_on care old new before after told call answer never step was follows last goes lose =
    let so_far : IsSearching before told = searching care old before told call never step was in
    let now : Follows told call answer after = follows so_far.tally so_far.is so_far.stands in
    let here : IsSearching after (record { call = call; answer = answer } ∷ told)
    = record { tally = now.after; is = now.census; stands = now.stands } in
    come care old new answer after (record { call = call; answer = answer } ∷ told) goes here
    (λ noes to. checking care noes old before after call answer told step was to here)
    (λ done. through care old before after call answer told step was (last done) here)
    (λ lost. gave_up old before call answer told never step (lose lost))

left_most : (walk : Walk) (left : ℕ) → left ≢ 0 → left_in walk (left - 1) < left + 1
left_most (Open number) left some = omega arith
left_most (Check noes) left some = omega arith
left_most (Seek digit low high noes) left some = omega arith
left_most (Look digit low high noes) left some = omega arith
left_most (Settle digit byte) left some = omega arith
left_most (Put digit) left some = omega arith
left_most Ask left some = omega arith
left_most Leave left some = omega arith
left_most (Raise digit) left some = omega arith
left_most Done left some = omega arith
left_most Lost left some = omega arith

pub falls : (old new : Walk) (kept : Tallied) (call : Call) (left : ℕ) → IsStep old kept call → left ≢ 0
    → left_in new (left - 1) < left_in old left
falls (Open number) new kept call left step some = left_most new left some
falls (Check noes) new kept call left step some = left_most new left some
falls (Seek digit low high noes) new kept call left step some = left_most new left some
falls (Look digit low high noes) new kept call left step some = left_most new left some
falls (Settle digit byte) new kept call left step some = left_most new left some
falls (Put digit) new kept call left step some = left_most new left some
falls Ask new kept call left step some = left_most new left some
falls Leave new kept call left step some = left_most new left some
falls (Raise digit) new kept call left step some = left_most new left some
falls Done new kept call left step some = absurd step
falls Lost new kept call left step some = absurd step

not_lost : (walk : Walk) (kept : Tallied) (call : Call) → IsStep walk kept call → walk ≢ Lost
not_lost walk kept call step = λ lost. subst (λ (it : Walk). IsStep it kept call) lost step

-- a frame more, and one fewer left
pub sent_on : (walk : Walk) (kept : Tallied) (call : Call) (answer : Option ℕ) (told : List Exchange) (left : ℕ)
    → IsStep walk kept call → (walk ≢ Lost → length told + left ≡ 16000) → left ≢ 0
    → length (record { call = call; answer = answer } ∷ told) + (left - 1) ≡ 16000
sent_on walk kept call answer told left step sent some =
    let was : length told + left ≡ 16000 = sent (not_lost walk kept call step) in omega arith
