-- Properties of each look back along a trace, wherever it ends.
use Rattle.std.proofs.Common.{◌≡◌, refl, ap, Bool, true, false, List, [], ◌∷◌, ◌++◌, if◌then◌else◌}
use Rattle.dali_trace.specs.declared.happening.Reply.TheVariants as replies
use Rattle.dali_trace.specs.declared.happening.Happening.{Happening}
use Rattle.dali_trace.specs.declared.happening.Happening.TheVariants.{Answered, Sent}
use Rattle.dali_trace.specs.Cut.{since, is_stop, is_start, frames_in}

-- it ends at the last happening of the older of two joined traces, if that is an end
pub since_joined : (ends : Happening → Bool) (last : Happening) (past more : List Happening) → ends last ≡ true
    → since ends (more ++ last ∷ past) ≡ since ends more
since_joined ends last past [] is = ap (λ (b : Bool). if b then [] else last ∷ since ends past) is
since_joined ends last past (next ∷ more) is =
    ap (λ (t : List Happening). if ends next then [] else next ∷ t) (since_joined ends last past more is)

-- one that ends sooner has the newest happenings of one that ends later
pub since_sooner : (sooner later : Happening → Bool) → ((next : Happening) → later next ≡ true → sooner next ≡ true)
    → (past : List Happening) → (older : List Happening) × (since later past ≡ since sooner past ++ older)
since_sooner sooner later too [] = ([], refl)
since_sooner sooner later too (next ∷ past) =
    by (sooner next) (later next) (too next) (since_sooner sooner later too past)
  where
    by : (s l : Bool) → (l ≡ true → s ≡ true)
        → (older : List Happening) × (since later past ≡ since sooner past ++ older)
        → (older : List Happening)
        × ((if l then [] else next ∷ since later past) ≡ (if s then [] else next ∷ since sooner past) ++ older)
    by true l is rest = ((if l then [] else next ∷ since later past), refl)
    by false true is rest = let never = is refl in cc
    by false false is rest = (rest.0, ap (λ (t : List Happening). next ∷ t) rest.1)

-- each stop is a start
pub stop_starts : (next : Happening) → is_stop next ≡ true → is_start next ≡ true
stop_starts (Answered id replies.Taken) is = refl
stop_starts other is = is

pub frames_joined : (more past : List Happening) → frames_in (more ++ past) ≡ frames_in more ++ frames_in past
frames_joined [] past = refl
frames_joined (Sent frame answer ∷ more) past =
    ap (◌∷◌ (record { frame = frame; answer = answer })) (frames_joined more past)
frames_joined (other ∷ more) past = frames_joined more past

-- the same frames, with one more happening in front of both
pub frames_next : (ended : Bool) (next : Happening) (one other : List Happening) → frames_in one ≡ frames_in other
    → frames_in (if ended then [] else next ∷ one) ≡ frames_in (if ended then [] else next ∷ other)
frames_next true next one other same = refl
frames_next false (Sent frame answer) one other same = ap (◌∷◌ (record { frame = frame; answer = answer })) same
frames_next false _ one other same = same

-- and with as many as there are
pub frames_on : (ends : Happening → Bool) (more one other : List Happening)
    → frames_in (since ends one) ≡ frames_in (since ends other)
    → frames_in (since ends (more ++ one)) ≡ frames_in (since ends (more ++ other))
frames_on ends [] one other same = same
frames_on ends (next ∷ more) one other same =
    frames_next (ends next) next (since ends (more ++ one)) (since ends (more ++ other))
    (frames_on ends more one other same)
