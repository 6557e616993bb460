-- Losses of power between happenings change nothing of what may come next, and of what the plan asks.
use Rattle.std.proofs.Common.{◌≡◌, refl, ap, ◌∙◌, ℕ, Bool, false, if◌then◌else◌, List, [], ◌∷◌}
use Rattle.dali_trace.specs.declared.happening.Happening.{Happening}
use Rattle.dali_trace.specs.declared.happening.Happening.TheVariants.{Asked, Answered, Kept, Powered, Stopped}
use Rattle.dali_trace.specs.Cut.{since, is_stop, is_start, is_turn, frames_in}
use Rattle.dali_trace.proofs.CutLemmas.{frames_next}
use Rattle.dali_trace.specs.Trace.{pace_at, Start, records_of, outstanding_of, replied, next_outstanding, Outstanding}
use Rattle.dali_trace.specs.Legal.{MayFollow, Legal, IsFinished}
use Rattle.dali_trace.specs.ByPlan.{IsPlanned, ByPlan}
use Rattle.dali_laws.specs.Powered.{unpowered, IsPowerApart}
use Rattle.dali_laws.proofs.AgreeLemmas.{Agree, happens_too, replies_too, planned_too, may_happen, said_quiet}

-- Each function of a trace passes over them

same_pace : (start : Start) (past : List Happening) → pace_at start past ≡ pace_at start (unpowered past)
same_pace start [] = refl
same_pace start (Powered address ∷ past) = same_pace start past
same_pace start (Stopped pace ∷ past) = refl
same_pace start (_ ∷ past) = same_pace start past

pub same_records : (start : Start) (past : List Happening) → records_of start past ≡ records_of start (unpowered past)
same_records start [] = refl
same_records start (Powered address ∷ past) = same_records start past
same_records start (Kept entry ∷ past) = ap (◌∷◌ entry) (same_records start past)
same_records start (_ ∷ past) = same_records start past

pub same_frames : (ends : Happening → Bool) → ((address : ℕ) → ends (Powered address) ≡ false) → (past : List Happening)
    → frames_in (since ends past) ≡ frames_in (since ends (unpowered past))
same_frames ends goes [] = refl
same_frames ends goes (Powered address ∷ past) =
    ap (λ (b : Bool). frames_in (if b then [] else Powered address ∷ since ends past)) (goes address)
    ∙ same_frames ends goes past
same_frames ends goes (next ∷ past) =
    frames_next (ends next) next (since ends past) (since ends (unpowered past)) (same_frames ends goes past)

-- no reply is due then, with or without the losses
not_asked : (address : ℕ) (past : List Happening) → IsPowerApart (Powered address ∷ past) → IsFinished (unpowered past)
not_asked address (Asked order moment ∷ past) apart = absurd apart
not_asked address (Powered other ∷ past) apart = not_asked other past apart
not_asked address _ apart = tt

-- a part of the trace
older_apart : (next : Happening) (past : List Happening) → IsPowerApart (next ∷ past) → IsPowerApart past
older_apart (Powered address) (Asked order moment ∷ past) apart = absurd apart
older_apart _ past apart = apart

same_outstanding : (past : List Happening) → IsPowerApart past → outstanding_of past ≡ outstanding_of (unpowered past)
same_outstanding [] apart = refl
same_outstanding (Powered address ∷ past) apart = same_outstanding past (older_apart (Powered address) past apart)
same_outstanding (Answered id reply ∷ Asked order moment ∷ past) apart =
    ap (replied order moment reply) (same_outstanding past apart)
same_outstanding (Answered id reply ∷ Powered address ∷ past) apart =
    said_quiet id reply (unpowered past) (not_asked address past apart)
same_outstanding (newest ∷ past) apart =
    ap (λ (before : Outstanding). next_outstanding before newest) (same_outstanding past apart)

agrees : (start : Start) (past : List Happening) → IsPowerApart past → Agree start start past (unpowered past)
agrees start past apart = record {
  limit = refl;
  records = same_records start past;
  sent = same_frames is_stop (λ address. refl) past;
  since = same_frames is_start (λ address. refl) past;
  outstanding = same_outstanding past apart;
}

follows : (start : Start) (past : List Happening) (next : Happening) → IsPowerApart past
    → MayFollow start (unpowered past) next → MayFollow start past next
follows start [] next apart may = may
follows start (Asked order moment ∷ past) next apart may =
    replies_too start start past (unpowered past) order next (agrees start past apart) may
follows start (Powered address ∷ past) next apart may =
    happens_too start start (Powered address ∷ past) (unpowered past) next
    (agrees start (Powered address ∷ past) apart)
    (may_happen start (unpowered past) next (not_asked address past apart) may)
follows start (last ∷ past) next apart may =
    happens_too start start (last ∷ past) (last ∷ unpowered past) next (agrees start (last ∷ past) apart) may

-- a loss of power may follow when no reply is due
may_lose : (start : Start) (address : ℕ) (past : List Happening) → IsPowerApart (Powered address ∷ past)
    → MayFollow start past (Powered address)
may_lose start address (Asked order moment ∷ past) apart = absurd apart
may_lose start address _ apart = tt

pub powered_legal : (start : Start) (past : List Happening) → IsPowerApart past → Legal start (unpowered past)
    → Legal start past
powered_legal start [] apart legal = legal
powered_legal start (Powered address ∷ past) apart legal =
    (powered_legal start past (older_apart (Powered address) past apart) legal, may_lose start address past apart)
powered_legal start (newest ∷ past) apart legal =
    (powered_legal start past apart legal.0, follows start past newest apart legal.1)

planned_next : (start : Start) (past : List Happening) (next : Happening) → IsPlanned start (unpowered past) next
    → IsPlanned start past next
planned_next start past next planned =
    planned_too start start past (unpowered past) next (same_pace start past) (same_records start past)
    (same_frames is_turn (λ address. refl) past) planned

pub powered_planned : (start : Start) (past : List Happening) → ByPlan start (unpowered past) → ByPlan start past
powered_planned start [] planned = tt
powered_planned start (Powered address ∷ past) planned = (powered_planned start past planned, tt)
powered_planned start (newest ∷ past) planned =
    (powered_planned start past planned.0, planned_next start past newest planned.1)
