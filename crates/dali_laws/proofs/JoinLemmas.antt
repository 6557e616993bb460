-- A trace that begins anew from the records of the one before it tells what it would tell after that one and a stop.
-- So the two are one trace.
use Rattle.std.proofs.Common.{◌≡◌, refl, sym, ap, subst, List, [], ◌∷◌, ◌++◌}
use Rattle.dali_trace.specs.declared.happening.Happening.{Happening}
use Rattle.dali_trace.specs.declared.happening.Happening.TheVariants.{Asked, Answered, Kept, Stopped}
use Rattle.dali_trace.specs.Cut.{is_stop, is_start, is_turn, frames_in}
use Rattle.dali_trace.specs.Trace.{pace_at, Start, records_of, Outstanding, replied, next_outstanding}
use Rattle.dali_trace.specs.Trace.{outstanding_of}
use Rattle.dali_trace.specs.Legal.{MayFollow, Legal, IsFinished}
use Rattle.dali_trace.specs.ByPlan.{ByPlan}
use Rattle.dali_trace.proofs.CutLemmas.{since_joined}
use Rattle.dali_laws.specs.Joined.{Sitting, joined, FollowOn, IsOneTrace}
use Rattle.dali_laws.proofs.AgreeLemmas.{Agree, happens_too, replies_too, planned_too, may_follow}
use Rattle.dali_write.specs.declared.pace.Pace.{Pace}

-- Each function of a trace begins anew at a stop

pub joined_records : (start next : Start) (past more : List Happening) → next.records ≡ records_of start past
    → records_of start (more ++ Stopped next.pace ∷ past) ≡ records_of next more
joined_records start next past [] same = sym same
joined_records start next past (Kept entry ∷ more) same = ap (◌∷◌ entry) (joined_records start next past more same)
joined_records start next past (other ∷ more) same = joined_records start next past more same

joined_outstanding : (pace : Pace) (past more : List Happening)
    → outstanding_of (more ++ Stopped pace ∷ past) ≡ outstanding_of more
joined_outstanding pace past [] = refl
joined_outstanding pace past (Answered id reply ∷ Asked order moment ∷ more) =
    ap (replied order moment reply) (joined_outstanding pace past more)
joined_outstanding pace past (newest ∷ more) =
    ap (λ (before : Outstanding). next_outstanding before newest) (joined_outstanding pace past more)

-- and so does the plan
joined_pace : (start next : Start) (past more : List Happening)
    → pace_at start (more ++ Stopped next.pace ∷ past) ≡ pace_at next more
joined_pace start next past [] = refl
joined_pace start next past (Stopped pace ∷ more) = refl
joined_pace start next past (other ∷ more) = joined_pace start next past more

joined_agree : (start next : Start) (past more : List Happening) → next.records ≡ records_of start past
    → next.limit ≡ start.limit
    → Agree start next (more ++ Stopped next.pace ∷ past) more
joined_agree start next past more records limit = record {
  limit = sym limit;
  records = joined_records start next past more records;
  sent = ap frames_in (since_joined is_stop (Stopped next.pace) past more refl);
  since = ap frames_in (since_joined is_start (Stopped next.pace) past more refl);
  outstanding = joined_outstanding next.pace past more;
}

follows_too : (start next : Start) (past more : List Happening) (newest : Happening)
    → next.records ≡ records_of start past → next.limit ≡ start.limit
    → MayFollow next more newest → MayFollow start (more ++ Stopped next.pace ∷ past) newest
follows_too start next past (Asked order moment ∷ more) newest records limit may =
    replies_too start next (more ++ Stopped next.pace ∷ past) more order newest
    (joined_agree start next past more records limit) may
follows_too start next past [] newest records limit may =
    happens_too start next (Stopped next.pace ∷ past) [] newest (joined_agree start next past [] records limit) may
follows_too start next past (last ∷ more) newest records limit may =
    happens_too start next (last ∷ more ++ Stopped next.pace ∷ past) (last ∷ more) newest
    (joined_agree start next past (last ∷ more) records limit) may

pub joined_legal : (start next : Start) (past more : List Happening) → Legal start past → IsFinished past
    → next.records ≡ records_of start past
    → next.limit ≡ start.limit → Legal next more → Legal start (more ++ Stopped next.pace ∷ past)
joined_legal start next past [] legal finished records limit after =
    (legal, may_follow start past (Stopped next.pace) finished tt)
joined_legal start next past (newest ∷ more) legal finished records limit after = (
  joined_legal start next past more legal finished records limit after.0,
  follows_too start next past more newest records limit after.1,
)

pub joined_planned : (start next : Start) (past more : List Happening) → ByPlan start past
    → next.records ≡ records_of start past → ByPlan next more
    → ByPlan start (more ++ Stopped next.pace ∷ past)
joined_planned start next past [] planned same after = (planned, tt)
joined_planned start next past (newest ∷ more) planned same after = (
  joined_planned start next past more planned same after.0,
  planned_too start next (more ++ Stopped next.pace ∷ past) more newest (joined_pace start next past more)
      (joined_records start next past more same)
      (ap frames_in (since_joined is_turn (Stopped next.pace) past more refl)) after.1,
)

pub joined_finished : (pace : Pace) (past more : List Happening) → IsFinished more
    → IsFinished (more ++ Stopped pace ∷ past)
joined_finished pace past [] finished = tt
joined_finished pace past (Asked order moment ∷ more) finished = absurd finished
joined_finished pace past (other ∷ more) finished = tt

-- Sittings

-- the first one starts from the start
first_sitting : (start : Start) (first : Sitting) → FollowOn start (first ∷ []) → IsOneTrace start (first ∷ [])
first_sitting start first follow =
    let same : first.start ≡ start = λ i. record { records = follow.3 i; limit = follow.4 i; pace = follow.5 i } in (
      subst (λ (from : Start). Legal from first.past) same follow.0,
      subst (λ (from : Start). ByPlan from first.past) same follow.1,
      follow.2,
    )

pub joined_sittings : (start : Start) (sittings : List Sitting) → FollowOn start sittings → IsOneTrace start sittings
joined_sittings start [] follow = (follow, tt, tt)
joined_sittings start (first ∷ []) follow = first_sitting start first follow
joined_sittings start (newest ∷ last ∷ older) follow =
    let before = joined_sittings start (last ∷ older) follow.6 in
    let past = joined (last ∷ older) in (
      joined_legal start newest.start past newest.past before.0 before.2 follow.3 follow.4 follow.0,
      joined_planned start newest.start past newest.past before.1 follow.3 follow.1,
      joined_finished newest.start.pace past newest.past follow.2,
    )
