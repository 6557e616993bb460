-- The state that a desk shows and what a stop may leave of it, by hand, and near misses.
use Rattle.std.proofs.Common.{refl, inl, inr, arith, ℕ, Bool, true, false, List, [], ◌∷◌, Some, None, Ok, Err}
use Rattle.dali_trace.specs.declared.fault.DriveFault.TheVariants as faults
use Rattle.dali_drive.specs.Desks.{Look, look_of, failures, IsDurableAt, IsAhead, EndsAs, LeavesPut}
use Rattle.dali_drive.specs.Driven.{FlushesFirst}
use Rattle.dali_drive.specs.LentSinks.{SinkLeaves, SinkLeft}
use Rattle.dali_drive.specs.Streams.{Flushes, IsPart}
use Rattle.dali_drive.specs.Transcript.{shown}

-- The effect of a flush

pub flushed_all : Flushes true (Some (1 ∷ 2 ∷ [])) (Some (1 ∷ [])) (Some (1 ∷ 2 ∷ []))
flushed_all = refl

pub flushed_no_less : Flushes true (Some (1 ∷ 2 ∷ [])) (Some (1 ∷ [])) (Some (1 ∷ [])) → ⊥
flushed_no_less flushes = cc

pub failed_flush_flushes_nothing : Flushes false (Some (1 ∷ 2 ∷ [])) (Some (1 ∷ [])) (Some (1 ∷ []))
    × (Flushes false (Some (1 ∷ 2 ∷ [])) (Some (1 ∷ [])) (Some (1 ∷ 2 ∷ [])) → ⊥)
failed_flush_flushes_nothing = (refl, λ flushes. cc)

-- if a sink never shows what was flushed, it doesn't show it then
pub untold_flush : Flushes true (Some (1 ∷ [])) None None × (Flushes true (Some (1 ∷ [])) None (Some (1 ∷ [])) → ⊥)
untold_flush = (refl, λ flushes. cc)

-- A frame's line, of one byte here, is flushed before a byte of its answer is read

pub flushed_and_answered : FlushesFirst {A = ℕ} (Ok 0) (Some (1 ∷ [])) (Some []) (Some (1 ∷ [])) (Some (2 ∷ []))
    (Some [])
flushed_and_answered = refl

pub unflushed_isnt_answered : FlushesFirst {A = ℕ} (Ok 0) (Some (1 ∷ [])) (Some []) (Some []) (Some (2 ∷ [])) (Some [])
    → ⊥
unflushed_isnt_answered flushes = cc

pub failed_before_a_byte : FlushesFirst {A = ℕ} (Err faults.Link) (Some (1 ∷ [])) (Some []) (Some []) (Some (2 ∷ []))
    (Some (2 ∷ []))
failed_before_a_byte = inr refl

pub no_byte_read_of_an_unflushed : FlushesFirst {A = ℕ} (Err faults.Link) (Some (1 ∷ [])) (Some []) (Some [])
    (Some (2 ∷ 3 ∷ [])) (Some (3 ∷ [])) → ⊥
no_byte_read_of_an_unflushed (inl flushes) = cc
no_byte_read_of_an_unflushed (inr kept) = cc

pub no_other_fault_of_an_unflushed : FlushesFirst {A = ℕ} (Err faults.End) (Some (1 ∷ [])) (Some []) (Some []) (Some [])
    (Some []) → ⊥
no_other_fault_of_an_unflushed flushes = cc

-- The part of a sink that is flushed

pub parts : IsPart (Some []) (Some (1 ∷ [])) × IsPart (Some (1 ∷ [])) (Some (1 ∷ 2 ∷ []))
    × IsPart (Some (1 ∷ [])) (Some (1 ∷ []))
parts = ((1 ∷ [], refl), (2 ∷ [], refl), ([], refl))

pub untold_is_part : IsPart None (Some (1 ∷ [])) × IsPart None None
untold_is_part = (tt, tt)

pub more_isnt_part : IsPart (Some (1 ∷ 2 ∷ [])) (Some (1 ∷ [])) → ⊥
more_isnt_part (rest, is) = cc

pub end_isnt_part : IsPart (Some (2 ∷ [])) (Some (1 ∷ 2 ∷ [])) → ⊥
end_isnt_part (rest, is) = cc

pub told_isnt_part_of_untold : IsPart (Some (1 ∷ [])) None → ⊥
told_isnt_part_of_untold part = part

-- The part of a sink that a stop leaves

pub each_part_left : SinkLeaves (Some (1 ∷ [])) (Some (1 ∷ 2 ∷ 3 ∷ [])) (1 ∷ [])
    × SinkLeaves (Some (1 ∷ [])) (Some (1 ∷ 2 ∷ 3 ∷ [])) (1 ∷ 2 ∷ [])
    × SinkLeaves (Some (1 ∷ [])) (Some (1 ∷ 2 ∷ 3 ∷ [])) (1 ∷ 2 ∷ 3 ∷ [])
each_part_left = grind arith

pub flushed_is_left : SinkLeaves (Some (1 ∷ [])) (Some (1 ∷ 2 ∷ 3 ∷ [])) [] → ⊥
flushed_is_left (more, rest, front, whole) = cc

pub no_hole_left : SinkLeaves (Some (1 ∷ [])) (Some (1 ∷ 2 ∷ 3 ∷ [])) (1 ∷ 3 ∷ []) → ⊥
no_hole_left (more, rest, front, whole) = cc

pub no_more_left_than_held : SinkLeaves (Some (1 ∷ [])) (Some (1 ∷ 2 ∷ [])) (1 ∷ 2 ∷ 3 ∷ []) → ⊥
no_more_left_than_held (more, rest, front, whole) = cc

-- before two bytes were flushed one of them might have been left alone
pub might_have_been_left : SinkLeft (Some (1 ∷ 2 ∷ [])) (Some (1 ∷ 2 ∷ 3 ∷ [])) 1 (1 ∷ [])
    × SinkLeft (Some (1 ∷ 2 ∷ [])) (Some (1 ∷ 2 ∷ 3 ∷ [])) 2 (1 ∷ 2 ∷ [])
might_have_been_left = ((omega arith, (2 ∷ 3 ∷ [], refl)), (omega arith, (3 ∷ [], refl)))

pub no_less_was_left : SinkLeft (Some (1 ∷ 2 ∷ [])) (Some (1 ∷ 2 ∷ 3 ∷ [])) 2 (1 ∷ []) → ⊥
no_less_was_left left = omega (arith, left.0)

pub no_other_was_left : SinkLeft (Some (1 ∷ 2 ∷ [])) (Some (1 ∷ 2 ∷ 3 ∷ [])) 0 (2 ∷ []) → ⊥
no_other_was_left (least, (rest, is)) = cc

-- The state of a desk

-- its journal shows these bytes, of which a stop leaves all, or those that were flushed
abbrev desk_of : List ℕ → List ℕ → Bool → Look
desk_of flushed held failed =
    look_of (shown (Some held) (Some []) (Some []) (Some [])) (failures failed false false false)
    (SinkLeaves (Some flushed) (Some held))

abbrev all_flushed : Look
all_flushed = desk_of (1 ∷ []) (1 ∷ []) false

abbrev one_unflushed : Look
one_unflushed = desk_of (1 ∷ []) (1 ∷ 2 ∷ []) false

abbrev journal_failed : Look
journal_failed = desk_of (1 ∷ []) (1 ∷ 2 ∷ []) true

pub all_settled : IsDurableAt all_flushed
all_settled c ([], rest, front, whole) = front
all_settled c (a ∷ more, rest, front, whole) = grind arith

pub unflushed_isnt_settled : IsDurableAt one_unflushed → ⊥
unflushed_isnt_settled settled = let lost = settled (1 ∷ []) ([], 2 ∷ [], refl, refl) in cc

-- when a record may be kept, and a frame or a reply go out
pub all_ahead : IsAhead all_flushed
all_ahead = ((refl, refl, refl, refl), all_settled)

pub unflushed_isnt_ahead : IsAhead one_unflushed → ⊥
unflushed_isnt_ahead ahead = unflushed_isnt_settled ahead.1

pub failed_isnt_ahead : IsAhead (desk_of (1 ∷ []) (1 ∷ []) true) → ⊥
failed_isnt_ahead ahead = let unfailed = ahead.0.0 in cc

-- one that completed
pub ended_ahead : EndsAs {A = ℕ} (Ok 0) all_flushed
ended_ahead = all_ahead

pub unsettled_isnt_ended : EndsAs {A = ℕ} (Ok 0) one_unflushed → ⊥
unsettled_isnt_ended ends = unflushed_isnt_ahead ends

-- what a fault broke off
pub ended_failed : EndsAs {A = ℕ} (Err faults.Journal) journal_failed
ended_failed = (refl, refl, refl, refl)

pub unfailed_isnt_broken_off : EndsAs {A = ℕ} (Err faults.Journal) one_unflushed → ⊥
unfailed_isnt_broken_off ends = let failed = ends.0 in cc

pub another_fault_isnt_shown : EndsAs {A = ℕ} (Err faults.Out) journal_failed → ⊥
another_fault_isnt_shown ends = let unfailed = ends.0 in cc

-- the bytes that were put are left after the rest
pub put_left : LeavesPut all_flushed one_unflushed
put_left c left = left

-- and no bytes were taken away
abbrev cut_off : Look
cut_off = desk_of [] (1 ∷ 2 ∷ []) false

pub rest_isnt_cut_off : LeavesPut all_flushed cut_off → ⊥
rest_isnt_cut_off left = grind (arith, left [] ([], 1 ∷ 2 ∷ [], refl, refl))
