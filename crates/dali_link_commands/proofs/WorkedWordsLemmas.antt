-- Words on a stream of replies, and the end of a command whose report is lost, on both sides of each rule.
use Rattle.std.proofs.Common.{◌≡◌, ◌∙◌, refl, inl, inr, ℕ, ◌++◌, [], ◌∷◌, List, Option, Some, codes, true, false, arith}
use Rattle.std.proofs.lemmas.List.{append_cancel_right}
use Rattle.dali_input.specs.declared.fault.InputFault.TheVariants.{File}
use Rattle.dali_input.specs.declared.command_fault.Fault.TheVariants.{Input}
use Rattle.dali_input.specs.declared.command_fault.Status.TheVariants.{Good, Failed}
use Rattle.dali_input.specs.CommandFaults.{told_line}
use Rattle.dali_report.specs.declared.report.Report.{Report}
use Rattle.dali_report.specs.Told.{has_failed}
use Rattle.dali_link_commands.specs.LinkCommands.{EndsReported, is_lost}
use Rattle.dali_link_commands.specs.Told.{IsFaultTold, IsPlain, error_line}

-- from the space to the tilde, the backslash too
pub ends_are_plain : IsPlain (codes " ~\\")
ends_are_plain = omega arith

-- a line feed isn't plain, and neither are the characters next to the ends
pub line_feed_is_not : IsPlain (codes "x\n{}") → ⊥
line_feed_is_not (x, (feed, rest)) = omega (arith, feed.0)

pub below_is_not : IsPlain (0x1F ∷ []) → ⊥
below_is_not (one, none) = omega (arith, one.0)

pub above_is_not : IsPlain (0x7F ∷ []) → ⊥
above_is_not (one, none) = omega (arith, one.1)

-- no reply follows a line feed in the words
forged : (words : List ℕ) → error_line (codes "x\n{}") ≡ error_line words → IsPlain words → ⊥
forged words is plain =
    let same = append_cancel_right (codes "x\n{}") words (codes "\n") cc in line_feed_is_not (rw (← same) at plain)

pub no_reply_in_words :
    IsFaultTold (Input File) Failed (Some []) (Some (error_line (codes "x\n{}") ++ told_line (Input File))) → ⊥
no_reply_in_words (text, (words, plain, is), told) =
    let put = (told (λ failed. cc)).1 in
    forged words (append_cancel_right (error_line (codes "x\n{}")) (error_line words) _ (put ∙ is)) plain

-- a report is lost if it was wanted and not opened, or has failed, and not if none was wanted
pub unopened_is_lost : {N : Type 0} (report : Report N) → is_lost true false report ≡ true
unopened_is_lost report = refl

pub failed_is_lost : {N : Type 0} (report : Report N) → has_failed report ≡ true → is_lost true true report ≡ true
failed_is_lost report failed = failed

pub good_is_not_lost : {N : Type 0} (report : Report N) → has_failed report ≡ false → is_lost true true report ≡ false
good_is_not_lost report unfailed = unfailed

pub none_is_not_lost : {N : Type 0} (report : Report N) → is_lost false false report ≡ false
none_is_not_lost report = refl

-- a lost one is reported and is no good end
pub lost_is_told : EndsReported true Good Failed (Some []) (Some (error_line (codes "x")))
lost_is_told = inr (refl, (codes "x", omega arith, refl))

pub lost_is_no_good_end : (before after : Option (List ℕ)) → EndsReported true Good Good before after → ⊥
lost_is_no_good_end before after ends = grind arith

pub lost_is_told_on_one_line : EndsReported true Good Failed (Some []) (Some (error_line (codes "x\n{}"))) → ⊥
lost_is_told_on_one_line (inl unwritten) = cc
lost_is_told_on_one_line (inr (is, (words, plain, told))) = forged words told plain

-- with a good one, or none, the command ends as it did, and nothing is reported
pub good_ends_as_it_did : EndsReported false Good Good (Some []) (Some [])
good_ends_as_it_did = (refl, refl)

pub good_is_no_failure : EndsReported false Good Failed (Some []) (Some []) → ⊥
good_is_no_failure ended = cc

pub nothing_told_of_a_good_one : EndsReported false Good Good (Some []) (Some (codes "error: x\n")) → ⊥
nothing_told_of_a_good_one ended = cc
