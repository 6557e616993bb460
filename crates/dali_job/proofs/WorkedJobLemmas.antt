-- Which job short command lines ask for, by hand, on both sides of each rule.
use Rattle.std.proofs.Common.{◌≡◌, ◌∙◌, refl, ap, ℕ, Bool, true, false, List, [], ◌∷◌, Option, Some, None, Bor, codes, arith}
use Rattle.std.proofs.Common.{option_map, subst, get_or}
use Rattle.std.specs.Prelude.{unwrap_or}
use Rattle.std.specs.declared.vec.Vec.{Vec}
use Rattle.std.specs.declared.alloc.Global.{Global}
use Rattle.clap.specs.Words.{Row, Text, all_of, fault_of, first_of, one_of, subcommand_of}
use Rattle.clap.specs.declared.error.kind.ErrorKind.TheVariants.{UnknownArgument}
use Rattle.clap.proofs.OnLiterals.{clap_on_literals}
use Rattle.dali_drive.specs.declared.sought.Sought.{Sought}
use Rattle.dali_drive.specs.declared.sought.Sought.TheVariants.{Last}
use Rattle.dali_job.specs.declared.job.Job.TheVariants.{Check, Run, Fields, Link}
use Rattle.dali_job.specs.declared.link_command.AddressCommand.{AddressCommand}
use Rattle.dali_job.specs.declared.link_command.LinkCommand.TheVariants.{Address, Read, Verify, Scan}
use Rattle.dali_job.specs.Jobs.{AreUnits, HasFlag, HasNumber, HasOption, HasUnits, HasValue, HasValues, IsJobOf}
use Rattle.dali_job.specs.Jobs.{IsNumber, bench_app}

-- ---- a number's text

pub plus_may_stand_before : IsNumber (codes "+63") 63
plus_may_stand_before =
    record { numeral = (omega arith, (omega arith, (omega arith, tt))); value = refl; fits = omega arith }

pub no_number_without_a_digit : (number : ℕ) → ¬ IsNumber (codes "+") number
no_number_without_a_digit number = λ is. omega (arith, is.numeral.0)

pub no_letter_in_a_number : (number : ℕ) → ¬ IsNumber (codes "6a") number
no_letter_in_a_number number = λ is. omega (arith, is.numeral.1.1.0)

pub no_other_number : ¬ IsNumber (codes "63") 64
no_other_number = λ is. omega (arith, is.value)

no_6_of_5 : (text : Text) → Some (codes "5") ≡ Some text → ¬ IsNumber text 6
no_6_of_5 text same = λ is.
    let five : text ≡ codes "5" = cc in
    let of_5 : IsNumber (codes "5") 6 = subst (λ t. IsNumber t 6) five is in omega (arith, of_5.value)

-- ---- texts that differ

abbrev first_byte : List Text → ℕ
first_byte [] = 0
first_byte (text ∷ texts) = get_or text 0 0

a_is_not_b : (text : Text) → Some (codes "a") ≡ Some text → text ≡ codes "b" → ⊥
a_is_not_b text same other =
    let both : codes "a" ≡ codes "b" = cc in
    let byte : 97 ≡ 98 = ap (λ (t : Text). get_or t 0 0) both in omega (arith, byte)

turned_is_another : codes "a" ∷ codes "b" ∷ [] ≡ codes "b" ∷ codes "a" ∷ [] → ⊥
turned_is_another turned = let byte : 97 ≡ 98 = ap first_byte turned in omega (arith, byte)

-- ---- what a parse entered

-- the command and the rows of these words
abbrev entered_by : List Text → Option (Text × List Row)
entered_by words = subcommand_of bench_app (codes "dali_bench" ∷ words)

abbrev rows_in : Option (Text × List Row) → List Row
rows_in entered = unwrap_or (option_map (λ (both : Text × List Row). both.1) entered) []

abbrev name_in : Option (Text × List Row) → Text
name_in entered = unwrap_or (option_map (λ (both : Text × List Row). both.0) entered) []

flag_is : (entered : Option (Text × List Row)) (command id : Text) → HasFlag entered command id
    → one_of id (rows_in entered) ≡ Some (codes "true")
flag_is entered command id (rows, is, given) = ap (λ e. one_of id (rows_in e)) is ∙ given

value_is : (entered : Option (Text × List Row)) (command id value : Text) → HasValue entered command id value
    → first_of id (rows_in entered) ≡ Some value
value_is entered command id value (rows, is, given) = ap (λ e. first_of id (rows_in e)) is ∙ given

values_are : (entered : Option (Text × List Row)) (command id : Text) (values : List Text)
    → HasValues entered command id values → unwrap_or (all_of id (rows_in entered)) [] ≡ values
values_are entered command id values (rows, is, given) =
    ap (λ e. unwrap_or (all_of id (rows_in e)) []) is ∙ given

-- ---- commands without options

pub scan_asked : (units : Vec ℕ Global) → units.items ≡ []
    → IsJobOf (codes "dali_bench" ∷ codes "scan" ∷ []) (Link (Scan units Last) false)
unfolding clap_on_literals
scan_asked units none =
    let rows = rows_in (entered_by (codes "scan" ∷ [])) in (
      (
        ([], (rows, refl, refl), rw none (tt, tt)),
        rw none refl,
        (
          false,
          (
            λ is. cc,
            λ has.
                let given : Some (codes "false") ≡ Some (codes "true") =
                flag_is (entered_by (codes "scan" ∷ [])) (codes "scan") (codes "gtin") has in cc,
          ),
          refl,
        ),
      ),
      (
        λ is. cc,
        λ has.
            let given : Some (codes "false") ≡ Some (codes "true") =
            flag_is (entered_by (codes "scan" ∷ [])) (codes "scan") (codes "progress") has in cc,
      ),
    )

-- the units in their order, with their GTINs
abbrev scanned : Option (Text × List Row)
scanned = entered_by (codes "scan" ∷ codes "7" ∷ codes "5" ∷ codes "--gtin" ∷ [])

pub units_in_their_order : HasUnits scanned (codes "scan") (codes "UNIT") (7 ∷ 5 ∷ [])
unfolding clap_on_literals
units_in_their_order = (
  codes "7" ∷ codes "5" ∷ [],
  (rows_in scanned, refl, refl),
  (search arith, search arith),
)

pub gtin_asked : HasFlag scanned (codes "scan") (codes "gtin")
unfolding clap_on_literals
gtin_asked = (rows_in scanned, refl, refl)

pub unit_64_not_scanned : (texts : List Text) → ¬ AreUnits texts (5 ∷ 64 ∷ [])
unit_64_not_scanned texts = λ are. omega (arith, are.1.1.0)

pub no_scan_asked_by_check : (units : Vec ℕ Global) (sought : Sought) (progress : Bool)
    → ¬ IsJobOf (codes "dali_bench" ∷ codes "check" ∷ codes "a" ∷ []) (Link (Scan units sought) progress)
unfolding clap_on_literals
no_scan_asked_by_check units sought progress = λ is.
    let (texts, (rows, entered, given), are) = is.0.0 in
    let other : codes "check" ≡ codes "scan" = ap name_in entered in cc

-- the rows of a check of one file
abbrev checked : List Text → Option (Text × List Row)
checked options = entered_by (codes "check" ∷ codes "a" ∷ options)

pub check_asked : (orders : Bor Text) (older : Vec (Bor Text) Global) → orders.now ≡ codes "a" → older.items ≡ []
    → IsJobOf (codes "dali_bench" ∷ codes "check" ∷ codes "a" ∷ []) (Check orders None older)
unfolding clap_on_literals
check_asked orders older is none = (
  (rows_in (checked []), refl, rw is refl),
  (rows_in (checked []), refl, refl),
  (rows_in (checked []), refl, rw none refl),
  λ left_out. none,
)

pub no_other_file_checked : (orders : Bor Text) (journal : Option (Bor Text)) (older : Vec (Bor Text) Global)
    → orders.now ≡ codes "b"
    → ¬ IsJobOf (codes "dali_bench" ∷ codes "check" ∷ codes "a" ∷ []) (Check orders journal older)
unfolding clap_on_literals
no_other_file_checked orders journal older is = λ has.
    a_is_not_b orders.now (value_is (checked []) (codes "check") (codes "ORDERS") orders.now has.0) is

pub journal_not_dropped : (orders : Bor Text) (older : Vec (Bor Text) Global)
    → ¬ IsJobOf (codes "dali_bench" ∷ codes "check" ∷ codes "a" ∷ codes "--journal" ∷ codes "j" ∷ [])
    (Check orders None older)
unfolding clap_on_literals
journal_not_dropped orders older = λ is.
    let (rows, entered, none) = is.1 in
    let left_out : Some (codes "j") ≡ None = ap (λ e. first_of (codes "journal") (rows_in e)) entered ∙ none in cc

pub fields_asked : IsJobOf (codes "dali_bench" ∷ codes "fields" ∷ []) Fields
unfolding clap_on_literals
fields_asked = (rows_in (entered_by (codes "fields" ∷ [])), refl)

pub no_fields_asked_by_check : ¬ IsJobOf (codes "dali_bench" ∷ codes "check" ∷ codes "a" ∷ []) Fields
unfolding clap_on_literals
no_fields_asked_by_check = λ (rows, entered). let other : codes "check" ≡ codes "fields" = ap name_in entered in cc

-- it takes no argument
pub no_fields_of_a_file : fault_of bench_app (codes "dali_bench" ∷ codes "fields" ∷ codes "a" ∷ [])
    ≡ UnknownArgument ∷ []
unfolding clap_on_literals
no_fields_of_a_file = refl

pub no_fault_without_it : fault_of bench_app (codes "dali_bench" ∷ codes "fields" ∷ []) ≡ []
unfolding clap_on_literals
no_fault_without_it = refl

-- ---- a flag

pub frames_asked : HasFlag (entered_by (codes "run" ∷ codes "a" ∷ codes "--frames" ∷ [])) (codes "run") (codes "frames")
unfolding clap_on_literals
frames_asked = (rows_in (entered_by (codes "run" ∷ codes "a" ∷ codes "--frames" ∷ [])), refl, refl)

pub no_frames_unasked : ¬ HasFlag (entered_by (codes "run" ∷ codes "a" ∷ [])) (codes "run") (codes "frames")
unfolding clap_on_literals
no_frames_unasked = λ has.
    let given : Some (codes "false") ≡ Some (codes "true") =
    flag_is (entered_by (codes "run" ∷ codes "a" ∷ [])) (codes "run") (codes "frames") has in cc

pub progress_asked : HasFlag (entered_by (codes "scan" ∷ codes "--progress" ∷ [])) (codes "scan") (codes "progress")
unfolding clap_on_literals
progress_asked = (rows_in (entered_by (codes "scan" ∷ codes "--progress" ∷ [])), refl, refl)

pub no_progress_unasked : (units : Vec ℕ Global) (sought : Sought)
    → ¬ IsJobOf (codes "dali_bench" ∷ codes "scan" ∷ []) (Link (Scan units sought) true)
unfolding clap_on_literals
no_progress_unasked units sought = λ is.
    let given : Some (codes "false") ≡ Some (codes "true") =
    flag_is (entered_by (codes "scan" ∷ [])) (codes "scan") (codes "progress") (is.1.0 refl) in cc

pub progress_not_dropped : (units : Vec ℕ Global) (sought : Sought)
    → ¬ IsJobOf (codes "dali_bench" ∷ codes "scan" ∷ codes "--progress" ∷ []) (Link (Scan units sought) false)
progress_not_dropped units sought = λ is. let given = is.1.1 progress_asked in cc

pub frames_not_dropped : (scenario : Bor Text)
    → ¬ IsJobOf (codes "dali_bench" ∷ codes "run" ∷ codes "a" ∷ codes "--frames" ∷ []) (Run scenario false)
frames_not_dropped scenario = λ is. let given = is.1.1 frames_asked in cc

-- ---- units, options and moments

pub unit_64_not_read : (bank : Bor Text) (progress : Bool)
    → ¬ IsJobOf (codes "dali_bench" ∷ codes "read" ∷ codes "64" ∷ codes "b" ∷ []) (Link (Read 64 bank) progress)
unit_64_not_read bank progress = λ is. omega (arith, is.0.0.1)

pub report_not_dropped : (orders : Bor Text) (progress : Bool)
    → ¬ IsJobOf (codes "dali_bench" ∷ codes "verify" ∷ codes "a" ∷ codes "--report" ∷ codes "r" ∷ [])
    (Link (Verify orders None) progress)
unfolding clap_on_literals
report_not_dropped orders progress = λ is.
    let (rows, entered, none) = is.0.1 in
    let left_out : Some (codes "r") ≡ None = ap (λ e. first_of (codes "report") (rows_in e)) entered ∙ none in cc

pub no_report_unasked : (report : Bor Text)
    → ¬ HasOption (entered_by (codes "verify" ∷ codes "a" ∷ [])) (codes "verify") (codes "report") (Some report)
unfolding clap_on_literals
no_report_unasked report = λ has.
    let given : None ≡ Some report.now =
    value_is (entered_by (codes "verify" ∷ codes "a" ∷ [])) (codes "verify") (codes "report") report.now has in cc

-- a drive of two files
abbrev driven : List Text → Option (Text × List Row)
driven options = entered_by (codes "drive" ∷ codes "o" ∷ codes "j" ∷ options)

pub moment_0_where_none_is_given : HasNumber (driven []) (codes "drive") (codes "moment") 0
unfolding clap_on_literals
moment_0_where_none_is_given = (
  _,
  codes "0",
  refl,
  refl,
  record { numeral = (omega arith, (omega arith, tt)); value = refl; fits = omega arith },
)

pub no_other_moment : ¬ HasNumber (driven (codes "--moment" ∷ codes "5" ∷ [])) (codes "drive") (codes "moment") 6
unfolding clap_on_literals
no_other_moment = λ (rows, text, entered, given, is).
    no_6_of_5 text (ap (λ e. one_of (codes "moment") (rows_in e)) entered ∙ given) is

pub older_in_their_order : HasValues (driven (codes "--older" ∷ codes "a" ∷ codes "--older" ∷ codes "b" ∷ []))
    (codes "drive") (codes "older") (codes "a" ∷ codes "b" ∷ [])
unfolding clap_on_literals
older_in_their_order =
    (rows_in (driven (codes "--older" ∷ codes "a" ∷ codes "--older" ∷ codes "b" ∷ [])), refl, refl)

pub older_not_turned : ¬ HasValues (driven (codes "--older" ∷ codes "a" ∷ codes "--older" ∷ codes "b" ∷ []))
    (codes "drive") (codes "older") (codes "b" ∷ codes "a" ∷ [])
unfolding clap_on_literals
older_not_turned = λ has. turned_is_another
    (values_are (driven (codes "--older" ∷ codes "a" ∷ codes "--older" ∷ codes "b" ∷ [])) (codes "drive")
    (codes "older") (codes "b" ∷ codes "a" ∷ []) has)

pub no_older_unasked : HasValues (driven []) (codes "drive") (codes "older") []
unfolding clap_on_literals
no_older_unasked = (_, refl, refl)

-- ---- short addresses

-- two of them, given anew, beside a journal
abbrev anew : List Text
anew =
    codes "address" ∷ codes "--all" ∷ codes "--journal" ∷ codes "j" ∷ codes "7" ∷ codes "5" ∷ []

pub addresses_in_their_order : HasUnits (entered_by anew) (codes "address") (codes "UNIT") (7 ∷ 5 ∷ [])
unfolding clap_on_literals
addresses_in_their_order = (
  codes "7" ∷ codes "5" ∷ [],
  (rows_in (entered_by anew), refl, refl),
  (search arith, search arith),
)

pub idle_journal_not_dropped : (command : AddressCommand) (progress : Bool) → command.journal ≡ None
    → ¬ IsJobOf (codes "dali_bench" ∷ anew) (Link (Address command) progress)
unfolding clap_on_literals
idle_journal_not_dropped command progress dropped = λ is.
    let (rows, entered, none) = rw dropped at is.0.journal_is in
    let left_out : Some (codes "j") ≡ None = ap (λ e. first_of (codes "journal") (rows_in e)) entered ∙ none in cc
