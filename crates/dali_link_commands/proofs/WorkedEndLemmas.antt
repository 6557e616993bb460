-- How a drive's fault is reported: one of the replies' stream by its status alone, with nothing written after them.
use Rattle.std.proofs.Common.{◌≡◌, refl, inl, inr, ap, ℕ, zero, suc, List, [], ◌++◌, Option, Some, codes, get_or, arith}
use Rattle.dali_trace.specs.declared.fault.DriveFault.TheVariants as faults
use Rattle.dali_input.specs.declared.command_fault.Status.TheVariants.{Good, Refused, Failed, Unwritten}
use Rattle.dali_input.specs.declared.fault.InputFault.TheVariants.{File, TooBig}
use Rattle.dali_input.specs.declared.command_fault.Fault.TheVariants.{Input, Drive}
use Rattle.dali_link_commands.specs.Told.{IsFaultTold, IsFaultText, error_line}
use Rattle.dali_input.specs.CommandFaults.{told_line}

pub out_told_by_its_status : (written : Option (List ℕ)) → IsFaultTold (Drive faults.Out) Unwritten written written
out_told_by_its_status written = (told_line (Drive faults.Out), refl, (refl, refl))

pub nothing_behind_the_replies : IsFaultTold (Drive faults.Out) Unwritten (Some []) (Some (codes "{}\n")) → ⊥
nothing_behind_the_replies (text, line, told) = let same = told.1 in cc

pub not_failed : (before after : Option (List ℕ)) → IsFaultTold (Drive faults.Out) Failed before after → ⊥
not_failed before after (text, line, told) = let unwritten = told.0 in cc

-- another fault is reported, and is no good end
pub not_good_where_the_link_ends : IsFaultTold (Drive faults.End) Good (Some []) (Some []) → ⊥
not_good_where_the_link_ends (text, line, inl told) = let refused = told.0 in cc
not_good_where_the_link_ends (text, line, inr told) = let unwritten = told.0 in cc

-- if the output fails then, a first part of its line follows the replies, and nothing else
pub told_in_part : IsFaultTold (Drive faults.End) Unwritten (Some (codes "{}")) (Some (codes "{}drive fault "))
told_in_part = (told_line (Drive faults.End), refl, inr (refl, (12, omega arith, refl)))

pub nothing_else_in_part : IsFaultTold (Drive faults.End) Unwritten (Some []) (Some (codes "{}")) → ⊥
nothing_else_in_part (text, line, inl told) = cc
nothing_else_in_part (text, line, inr (is, (zero, within, part))) = cc
nothing_else_in_part (text, line, inr (is, (suc k, within, part))) =
    let first : 123 ≡ 100 = ap (λ (text : List ℕ). get_or text 0 0) (rw line at part) in omega (arith, first)

pub not_in_part_and_refused : IsFaultTold (Drive faults.End) Refused (Some []) (Some []) → ⊥
not_in_part_and_refused (text, line, inl told) = let none = rw line at told.1 in cc
not_in_part_and_refused (text, line, inr told) = cc

-- a fault of the link has a line in words before its own, and that of its end has none
pub link_told_with_words : IsFaultText (Drive faults.Link) (error_line (codes "x") ++ told_line (Drive faults.Link))
link_told_with_words = (codes "x", omega arith, refl)

pub link_not_without_words : IsFaultText (Drive faults.Link) (told_line (Drive faults.Link)) → ⊥
link_not_without_words (words, plain, told) = omega (arith, ap (λ (text : List ℕ). get_or text 0 0) told)

pub end_not_with_words : IsFaultText (Drive faults.End) (error_line (codes "x") ++ told_line (Drive faults.End)) → ⊥
end_not_with_words told = omega (arith, ap (λ (text : List ℕ). get_or text 0 0) told)

-- a file's fault has a line in words before its own, and that of too many bytes has none
pub told_with_words : IsFaultText (Input File) (error_line (codes "x") ++ told_line (Input File))
told_with_words = (codes "x", omega arith, refl)

pub not_without_words : IsFaultText (Input File) (codes "fault 21 File\n") → ⊥
not_without_words (words, plain, told) = omega (arith, ap (λ (text : List ℕ). get_or text 0 0) told)

pub told_alone : IsFaultText (Input TooBig) (told_line (Input TooBig))
told_alone = refl

pub not_with_words : IsFaultText (Input TooBig) (codes "error: x\nfault 13 TooBig\n") → ⊥
not_with_words told = omega (arith, ap (λ (text : List ℕ). get_or text 0 0) told)
