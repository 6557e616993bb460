-- The options of commands over a link, and the command lines that are refused that `clap` takes: by hand, on
-- both sides of each rule. A command line that is refused names no job.
use Rattle.std.proofs.Common.{◌≡◌, ◌∙◌, refl, ap, sym, inl, inr, ℕ, Bool, true, false, List, [], ◌∷◌, Option, Some, None}
use Rattle.std.proofs.Common.{Bor, codes, get_or, map, option_map, subst, ◌+◌, ◌*◌}
use Rattle.std.proofs.lemmas.Bool.{eqb-false}
use Rattle.std.specs.Prelude.{◌==◌, unwrap_or}
use Rattle.std.specs.Bool.{Decides}
use Rattle.std.specs.List.{AllZip}
use Rattle.clap.specs.Words.{Row, Text, all_of, first_of, one_of, subcommand_of}
use Rattle.clap.proofs.OnLiterals.{clap_on_literals}
use Rattle.dali_address.specs.declared.task.Task.TheVariants as tasks
use Rattle.dali_drive.specs.declared.sought.Sought.TheVariants.{Identity, Last}
use Rattle.dali_write.specs.declared.pace.Pace.TheVariants.{Checked, Short}
use Rattle.dali_job.specs.declared.job.Job.{Job}
use Rattle.dali_job.specs.declared.job.Job.TheVariants.{Check, Run, Frame, Show, Journal, Fields, Link}
use Rattle.dali_job.specs.declared.job.Job.TheVariants as jobs
use Rattle.dali_job.specs.declared.link_command.Asked.{Asked}
use Rattle.dali_job.specs.declared.link_command.Asked.TheVariants as asks
use Rattle.dali_job.specs.declared.link_command.LinkCommand.TheVariants.{Drive, Read, Verify, Scan, Address}
use Rattle.dali_job.specs.declared.link_command.Required.TheVariants.{Nothing, Done, DoneNow}
use Rattle.dali_job.specs.declared.refusal.Refusal.{Refusal}
use Rattle.dali_job.specs.declared.refusal.Refusal.TheVariants.{OlderAlone, SeveralAsked, UnitsUnasked, NamedTwice}
use Rattle.dali_job.specs.LinkOptions.{asked_of, gives_none, named_twice, pace_by, required_by, sought_by}
use Rattle.dali_job.specs.Jobs.{AsksFor, HasFlag, HasUnits, HasValues, IsJob, IsNumber, IsRefused, bench_app}

-- ---- options

-- the stricter one of two options counts
pub the_stricter_counts :
    (required_by false false ≡ Nothing) × (required_by true false ≡ Done) × (required_by false true ≡ DoneNow)
    × (required_by true true ≡ DoneNow)
the_stricter_counts = (refl, refl, refl, refl)

pub short_if_asked : (pace_by true ≡ Short) × (pace_by false ≡ Checked)
short_if_asked = (refl, refl)

pub identity_if_asked : (sought_by true ≡ Identity) × (sought_by false ≡ Last)
identity_if_asked = (refl, refl)

pub given_without_flags : asked_of false false false ≡ Some (asks.Run tasks.Give)
given_without_flags = refl

pub all_given_anew : asked_of true false false ≡ Some (asks.Run tasks.All)
all_given_anew = refl

pub listed : asked_of false true false ≡ Some (asks.Run tasks.List)
listed = refl

pub counted : asked_of false false true ≡ Some asks.Count
counted = refl

pub two_are_several : (asked_of true true false ≡ None) × (asked_of true false true ≡ None)
    × (asked_of false true true ≡ None) × (asked_of true true true ≡ None)
two_are_several = (refl, refl, refl, refl)

pub none_given_by_these : (gives_none (asks.Run tasks.List) ≡ true) × (gives_none asks.Count ≡ true)
    × (gives_none (asks.Run tasks.Give) ≡ false) × (gives_none (asks.Run tasks.All) ≡ false)
none_given_by_these = (refl, refl, refl, refl)

-- ---- units that are named twice

pub each_once : named_twice (5 ∷ 63 ∷ 0 ∷ []) ≡ None
each_once = refl

-- it is the second mention that counts, the first of those
pub first_repeated : named_twice (5 ∷ 7 ∷ 7 ∷ 5 ∷ []) ≡ Some 7
first_repeated = refl

-- ---- command lines that are refused

abbrev entered_by : List Text → Option (Text × List Row)
entered_by words = subcommand_of bench_app (codes "dali_bench" ∷ words)

abbrev rows_in : Option (Text × List Row) → List Row
rows_in entered = unwrap_or (option_map (λ (both : Text × List Row). both.1) entered) []

abbrev name_in : Option (Text × List Row) → Text
name_in entered = unwrap_or (option_map (λ (both : Text × List Row). both.0) entered) []

pub older_alone_refused :
    IsRefused (entered_by (codes "check" ∷ codes "a" ∷ codes "--older" ∷ codes "b" ∷ [])) OlderAlone
unfolding clap_on_literals
older_alone_refused =
    let rows = rows_in (entered_by (codes "check" ∷ codes "a" ∷ codes "--older" ∷ codes "b" ∷ [])) in (
      codes "a",
      codes "b" ∷ [],
      (rows, refl, refl),
      (rows, refl, refl),
      (rows, refl, refl),
      λ none. cc,
    )

-- two uses of a flag

flag_is : (entered : Option (Text × List Row)) (command id : Text) → HasFlag entered command id
    → one_of id (rows_in entered) ≡ Some (codes "true")
flag_is entered command id (rows, is, given) = ap (λ e. one_of id (rows_in e)) is ∙ given

abbrev all_and_list : Option (Text × List Row)
all_and_list = entered_by (codes "address" ∷ codes "--all" ∷ codes "--list" ∷ [])

pub all_and_list_refused : IsRefused all_and_list SeveralAsked
unfolding clap_on_literals
all_and_list_refused = (
  [],
  ([], (rows_in all_and_list, refl, refl), (tt, tt)),
  (
    true,
    true,
    false,
    (λ is. (rows_in all_and_list, refl, refl), λ has. refl),
    (λ is. (rows_in all_and_list, refl, refl), λ has. refl),
    (
      λ is. cc,
      λ has.
          let given : Some (codes "false") ≡ Some (codes "true") =
          flag_is all_and_list (codes "address") (codes "count") has in cc,
    ),
    refl,
  ),
)

-- ---- what a parse entered has one meaning

same_flag : (a b : Bool) (P : Type 0) → Decides a P → Decides b P → a ≡ b
same_flag true true P is other = refl
same_flag true false P is other = sym (other.1 (is.0 refl))
same_flag false true P is other = is.1 (other.0 refl)
same_flag false false P is other = refl

same_asked : (entered : Option (Text × List Row)) (one other : Option Asked) → AsksFor entered one
    → AsksFor entered other → one ≡ other
same_asked entered one other (all, list, count, all_is, list_is, count_is, is)
    (all', list', count', all_is', list_is', count_is', is') =
    let all_same = same_flag all all' _ all_is all_is' in
    let list_same = same_flag list list' _ list_is list_is' in
    let count_same = same_flag count count' _ count_is count_is' in
    sym is ∙ ap (λ a. asked_of a list count) all_same ∙ ap (λ l. asked_of all' l count) list_same
    ∙ ap (λ c. asked_of all' list' c) count_same
    ∙ is'

values_are : (entered : Option (Text × List Row)) (command id : Text) (values : List Text)
    → HasValues entered command id values → unwrap_or (all_of id (rows_in entered)) [] ≡ values
values_are entered command id values (rows, is, given) =
    ap (λ e. unwrap_or (all_of id (rows_in e)) []) is ∙ given

same_numbers : (texts : List Text) (one other : List ℕ) → AllZip IsNumber texts one → AllZip IsNumber texts other
    → one ≡ other
same_numbers [] [] [] is other_is = refl
same_numbers [] [] (n ∷ other) is other_is = absurd other_is
same_numbers [] (n ∷ one) other is other_is = absurd is
same_numbers (text ∷ texts) [] other is other_is = absurd is
same_numbers (text ∷ texts) (n ∷ one) [] is other_is = absurd other_is
same_numbers (text ∷ texts) (n ∷ one) (m ∷ other) is other_is =
    let number : n ≡ m = sym is.0.value ∙ other_is.0.value in
    let numbers : one ≡ other = same_numbers texts one other is.1 other_is.1 in cc

same_units : (entered : Option (Text × List Row)) (command : Text) (one other : List ℕ)
    → HasUnits entered command (codes "UNIT") one → HasUnits entered command (codes "UNIT") other → one ≡ other
same_units entered command one other (texts, values, are) (texts', values', are') =
    let same : texts ≡ texts' =
    sym (values_are entered command (codes "UNIT") texts values)
    ∙ values_are entered command (codes "UNIT") texts' values' in
    same_numbers texts one other are.0 (subst (λ given. AllZip IsNumber given other) (sym same) are'.0)

-- ---- a command line that is refused names no job

-- the name of the command that a job is of
abbrev name_of : Job → Text
name_of (Check orders journal older) = codes "check"
name_of (Run scenario single_frames) = codes "run"
name_of (Frame digits) = codes "frame"
name_of (Show dump) = codes "show"
name_of (Journal records with_updates) = codes "journal"
name_of Fields = codes "fields"
name_of (jobs.Refused refusal) = []
name_of (Link (Drive task) progress) = codes "drive"
name_of (Link (Read unit bank) progress) = codes "read"
name_of (Link (Verify orders report) progress) = codes "verify"
name_of (Link (Scan addresses sought) progress) = codes "scan"
name_of (Link (Address command) progress) = codes "address"

named_so : (entered : Option (Text × List Row)) (job : Job) → IsJob entered job → name_in entered ≡ name_of job
named_so entered (Check orders journal older) is = ap name_in is.0.1
named_so entered (Run scenario single_frames) is = ap name_in is.0.1
named_so entered (Frame digits) is = ap name_in is.1
named_so entered (Show dump) is = ap name_in is.1
named_so entered (Journal records with_updates) is = ap name_in is.0.1
named_so entered Fields is = ap name_in is.1
named_so entered (jobs.Refused refusal) is = absurd is
named_so entered (Link (Drive task) progress) is = ap name_in is.0.orders_is.1
named_so entered (Link (Read unit bank) progress) is = ap name_in is.0.1.1
named_so entered (Link (Verify orders report) progress) is = ap name_in is.0.0.1
named_so entered (Link (Scan addresses sought) progress) is = ap name_in is.0.0.1.1
named_so entered (Link (Address command) progress) is = ap name_in is.0.units_are.1.1

-- what tells the names apart: their first two letters
abbrev key_of : Text → ℕ
key_of name = get_or name 0 0 * 256 + get_or name 1 0

no_job_of_another : (entered : Option (Text × List Row)) (job : Job) (command : Text) → name_in entered ≡ command
    → (key_of (name_of job) == key_of command) ≡ false → ¬ IsJob entered job
no_job_of_another entered job command named apart = λ is.
    eqb-false (key_of (name_of job)) (key_of command) apart (ap key_of (sym (named_so entered job is) ∙ named))

no_check : (entered : Option (Text × List Row)) (job : Job) → IsRefused entered OlderAlone → ¬ IsJob entered job
no_check entered (Check orders journal older) (_, texts, named, left_out, given, some) = λ is.
    beside journal refl is
  where
    none : first_of (codes "journal") (rows_in entered) ≡ None
    none = ap (λ e. first_of (codes "journal") (rows_in e)) left_out.1 ∙ left_out.2

    beside : (found : Option (Bor Text)) → journal ≡ found → IsJob entered (Check orders journal older) → ⊥
    beside None e is =
        let values = map (λ (value : Bor Text). value.now) older.items in
        let same : texts ≡ values =
        sym (values_are entered (codes "check") (codes "older") texts given)
        ∙ values_are entered (codes "check") (codes "older") values is.2 in
        some (same ∙ ap (map (λ (value : Bor Text). value.now)) (is.3 e))
    beside (Some value) e is =
        let has = rw e at is.1 in
        let held : first_of (codes "journal") (rows_in entered) ≡ Some value.now =
        ap (λ e. first_of (codes "journal") (rows_in e)) has.1 ∙ has.2 in
        let clash : None ≡ Some value.now = sym none ∙ held in cc
no_check entered (Link (Address command) progress) refused =
    no_job_of_another entered (Link (Address command) progress) (codes "check") (ap name_in refused.2.1) refl
no_check entered other refused = no_job_of_another entered other (codes "check") (ap name_in refused.2.1) refl

-- the address that a parse entered, whose units and flags are these, is another
no_address : (entered : Option (Text × List Row)) (job : Job) (units : List ℕ) (asked : Option Asked)
    → HasUnits entered (codes "address") (codes "UNIT") units → AsksFor entered asked
    → ((one : Asked) → asked ≡ Some one → (gives_none one ≡ true → units ≡ []) → named_twice units ≡ None → ⊥)
    → ¬ IsJob entered job
no_address entered (Link (Address command) progress) units asked are asks wrong = λ is.
    let same : units ≡ command.units.items =
    same_units entered (codes "address") units command.units.items are is.0.units_are in
    wrong command.asked (same_asked entered asked (Some command.asked) asks is.0.asked_is)
    (λ none. same ∙ is.0.none_unasked none)
    (ap named_twice same ∙ is.0.each_once)
no_address entered other units asked are asks wrong =
    no_job_of_another entered other (codes "address") (ap name_in are.1.1) refl

no_scan : (entered : Option (Text × List Row)) (job : Job) (units : List ℕ) (unit : ℕ)
    → HasUnits entered (codes "scan") (codes "UNIT") units → named_twice units ≡ Some unit → ¬ IsJob entered job
no_scan entered (Link (Scan addresses sought) progress) units unit are twice = λ is.
    let same : units ≡ addresses.items = same_units entered (codes "scan") units addresses.items are is.0.0 in
    let clash : Some unit ≡ None = sym twice ∙ ap named_twice same ∙ is.0.1 in cc
no_scan entered other units unit are twice =
    no_job_of_another entered other (codes "scan") (ap name_in are.1.1) refl

pub refused_names_no_job : (entered : Option (Text × List Row)) (refusal : Refusal) (job : Job)
    → IsRefused entered refusal → ¬ IsJob entered job
refused_names_no_job entered OlderAlone job refused = no_check entered job refused
refused_names_no_job entered SeveralAsked job (units, are, asks) =
    no_address entered job units None are asks (λ one is none once. cc)
refused_names_no_job entered UnitsUnasked job (asked, units, asks, gives, are, some) =
    no_address entered job units (Some asked) are asks
    (λ one is none once.
    let same : asked ≡ one = cc in some (none (ap gives_none (sym same) ∙ gives)))
refused_names_no_job entered (NamedTwice unit) job (inl (units, are, twice)) =
    no_scan entered job units unit are twice
refused_names_no_job entered (NamedTwice unit) job (inr (asked, units, asks, gives, are, twice)) =
    no_address entered job units (Some asked) are asks
    (λ one is none once. let clash : Some unit ≡ None = sym twice ∙ once in cc)
