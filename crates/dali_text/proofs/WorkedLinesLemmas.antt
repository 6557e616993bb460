-- How a bank's end, an output and runs of frames are printed, by hand, on both sides of each rule.
use Rattle.std.proofs.Common.{◌≡◌, refl, ap, inl, inr, ℕ, true, false, List, [], ◌∷◌, Some, None, Ok, Err, codes}
use Rattle.std.proofs.Common.{arith, get_or}
use Rattle.std.proofs.lemmas.Fmt.{decimal_digit}
use Rattle.dali_frame.specs.declared.forward.Frame.TheVariants.{Dtr0}
use Rattle.dali_trace.specs.declared.happening.Happening.TheVariants.{Sent, Stopped}
use Rattle.dali_text.specs.declared.output.Output.{Output}
use Rattle.dali_text.specs.BankLines.{IsPlainText}
use Rattle.dali_text.specs.Output.{TellsFailure, has_failed}
use Rattle.dali_text.specs.RunText.{trace_text, total}
use Rattle.dali_text.specs.UnitLines.{group_line}
use Rattle.dali_write.specs.declared.pace.Pace.TheVariants.{Checked}

-- ---- a bank of three bytes, at its end

abbrev bank : List ℕ
bank = 0x01 ∷ 0x02 ∷ 0xAB ∷ []

pub last_byte_told : IsPlainText bank 2 1 (codes "AB")
last_byte_told = inr (omega arith, refl)

pub last_byte_not_absent : ¬ IsPlainText bank 2 1 (codes "absent")
last_byte_not_absent = λ says. by says where
  by : IsPlainText bank 2 1 (codes "absent") → ⊥
  by (inl (short, is)) = omega (arith, short)
  by (inr (long, is)) = cc

pub last_two_told : IsPlainText bank 1 2 (codes "02AB")
last_two_told = inr (omega arith, refl)

pub no_other_byte_told : ¬ IsPlainText bank 2 1 (codes "02")
no_other_byte_told = λ says. by says where
  by : IsPlainText bank 2 1 (codes "02") → ⊥
  by (inl (short, is)) = omega (arith, short)
  by (inr (long, is)) = let first : 48 ≡ 65 = ap (λ (text : List ℕ). get_or text 0 0) is in omega (arith, first)

-- of two bytes of which the bank has one, none is printed
pub absent_behind_the_end : IsPlainText bank 2 2 (codes "absent")
absent_behind_the_end = inl (omega arith, refl)

pub no_byte_behind_the_end : (text : List ℕ) → IsPlainText bank 2 2 text → text ≡ codes "absent"
no_byte_behind_the_end text (inl (short, is)) = is
no_byte_behind_the_end text (inr (long, is)) = absurd (omega (arith, long))

-- ---- an output

pub good_call_leaves_it_good : (W T E : Type 0) (old new : Output W) (value : T) → has_failed old ≡ false
    → has_failed new ≡ true → ¬ TellsFailure {E = E} (Ok value) old new
good_call_leaves_it_good W T E old new value well failed = λ tells. cc

pub no_error_of_a_good_output : (W T E : Type 0) (old new : Output W) (error : E) → has_failed new ≡ false
    → ¬ TellsFailure {T = T} (Err error) old new
no_error_of_a_good_output W T E old new error well = λ tells. cc

-- ---- runs of frames

pub two_frames_are_one_run : trace_text false (Sent (Dtr0 1) None ∷ Sent (Dtr0 2) None ∷ Stopped Checked ∷ [])
    ≡ codes "frames 2\nstop\n"
two_frames_are_one_run = rw (decimal_digit 2 (omega arith)) refl

pub apart_they_are_two : trace_text false (Sent (Dtr0 1) None ∷ Stopped Checked ∷ Sent (Dtr0 2) None ∷ [])
    ≡ codes "frames 1\nstop\nframes 1\n"
apart_they_are_two = rw (decimal_digit 1 (omega arith)) refl

pub each_is_counted : total (Sent (Dtr0 1) None ∷ Stopped Checked ∷ Sent (Dtr0 2) (Some 255) ∷ []) ≡ 2
each_is_counted = refl

-- ---- a group of a bank

pub blank_group_untold : group_line 5 0 (0xFF ∷ 0xFF ∷ []) ≡ []
blank_group_untold = refl

pub told_with_its_blank_bytes : group_line 5 0 (0xFF ∷ 0x00 ∷ []) ≡ codes "bank 5 00 FF00\n"
told_with_its_blank_bytes = rw (decimal_digit 5 (omega arith)) refl
