-- How a report of what is found goes on.
use Rattle.std.proofs.Common.{◌≡◌, ◌∙◌, ap, refl, sym, true≢false, ℕ, true, false, List, ◌∷◌, ◌++◌, Option}
use Rattle.std.proofs.Common.{IsOkAnd, IfOk, Result, Ok, Err, Vec, Global, Some, None, ◌⊎◌, inl, inr}
use Rattle.std.specs.Io.KnownBytes.{Appends}
use Rattle.std.proofs.KnownBytes.{Appends-trans}
use Rattle.serde_json.specs.Data.{Data}
use Rattle.serde_json.specs.Written.{has_float}
use Rattle.dali_read.specs.declared.finding.Finding.{Finding}
use Rattle.dali_read.specs.declared.finding.Finding.TheVariants.{Same, Other, Short, Format}
use Rattle.dali_drive.specs.Found.{Found}
use Rattle.dali_report.specs.declared.report.Report.{Report}
use Rattle.dali_report.specs.Differences.{AreDifferences, Difference, held_bank, wanted_bank}
use Rattle.dali_report.specs.Lines.{IsFoundLine, byte_data, found_data, line_of, location_data}
use Rattle.dali_report.specs.Told.{IsToldFound, has_failed, has_output, report_held}
use Rattle.dali_report.proofs.DifferenceLemmas.{no_floats}

-- no line of what is found has a float

byte_no_float : (found : Option Finding) → has_float (byte_data found) ≡ false
byte_no_float None = refl
byte_no_float (Some Same) = refl
byte_no_float (Some (Other location byte)) = refl
byte_no_float (Some Short) = refl
byte_no_float (Some Format) = refl

location_no_float : (found : Option Finding) → has_float (location_data found) ≡ false
location_no_float None = refl
location_no_float (Some Same) = refl
location_no_float (Some (Other location byte)) = refl
location_no_float (Some Short) = refl
location_no_float (Some Format) = refl

pub found_no_float : (run : ℕ) (found : Found) (differing : List Difference)
    → has_float (found_data run found differing) ≡ false
found_no_float run found differing =
    rw (byte_no_float found.finding, no_floats differing, location_no_float found.finding) refl

-- the line of the value that tells it
pub found_told : {E : Type 0} (made : Result (Vec ℕ Global) E) (run : ℕ) (found : Found) (value : Data)
    → ((differing : List Difference)
    × AreDifferences (held_bank found.order found.bytes) (wanted_bank found.order) differing
    × (value ≡ found_data run found differing))
    → IfOk made (λ line. line.items ≡ line_of value) → IfOk made (λ line. IsFoundLine run found line.items)
found_told (Ok line) run found value tells is =
    (tells.0, tells.1, is ∙ ap (λ (v : Data). line_of v) tells.2)
found_told (Err error) run found value tells is = tt

-- the line that was made is the one that was written
line_written : {W E : Type 0} (contents : W → Option (List ℕ)) (old new : Report W) (run : ℕ) (found : Found)
    (made : Result (Vec ℕ Global) E)
    → IsOkAnd made (λ line. Appends (report_held contents old) (report_held contents new) line.items)
    → IfOk made (λ line. IsFoundLine run found line.items)
    → (line : List ℕ) × IsFoundLine run found line
    × Appends (report_held contents old) (report_held contents new) line
line_written contents old new run found (Ok line) put is = (line.items, is, put)
line_written contents old new run found (Err error) put is = absurd put

-- one more line was written, or couldn't be
pub found_more : {W E : Type 0} (contents : W → Option (List ℕ)) (first old new : Report W) (past : List Found)
    (found : Found) (made : Result (Vec ℕ Global) E)
    → IsToldFound contents first old past → new.run ≡ old.run
    → (has_failed new ≡ false → (has_failed old ≡ false)
    × IsOkAnd made (λ line. Appends (report_held contents old) (report_held contents new) line.items))
    → IfOk made (λ line. IsFoundLine old.run found line.items) → has_failed old ≡ false → has_output old ≡ true
    → IsToldFound contents first new (found ∷ past)
found_more contents first old new past found made told same put is well goes = record {
  same_run = same ∙ told.same_run;
  written = λ fine out.
      let before = told.written well goes in
      let line = line_written contents old new old.run found made (put fine).1 is in (
        before.0 ++ line.0,
        (before.0, line.0, before.1, rw (← told.same_run) line.1, refl),
        Appends-trans (report_held contents first) (report_held contents old) (report_held contents new) before.0
            line.0 before.2 line.2,
      );
  silent = λ failed. let silent = told.silent failed in absurd (true≢false (sym silent.0 ∙ well));
}

-- none was wanted
pub found_unwanted : {W : Type 0} (contents : W → Option (List ℕ)) (first old : Report W) (past : List Found)
    (found : Found) → IsToldFound contents first old past → (has_failed old ≡ true) ⊎ (old.output ≡ None)
    → IsToldFound contents first old (found ∷ past)
found_unwanted contents first old past found told (inl failed) = record {
  same_run = told.same_run;
  written = λ well goes. absurd (true≢false (sym failed ∙ well));
  silent = told.silent;
}
found_unwanted contents first old past found told (inr none) = record {
  same_run = told.same_run;
  written = λ well goes. let goes_on = rw none at goes in cc;
  silent = told.silent;
}
