-- Lemmas on what the command line names.
use Rattle.std.proofs.Common.{◌≡◌, ◌<◌, ◌≤◌, List, [], ◌∷◌, ◌++◌, ℕ, zero, suc, map, take, length, get_or, arith}
use Rattle.std.proofs.Common.{Bool, Bor, Option, Some, None, IfSome, IfNone, true, false, option_map, inl, inr}
use Rattle.std.proofs.Common.{Result, Ok, Err, IfOk, IsOkAnd, codes, refl, ap, ap₂, sym, subst, ◌∙◌, ◌||◌}
use Rattle.std.proofs.lemmas.Bool.{eqb-true, eqb-false}
use mathlib.Core.Bool.{beq}
use Rattle.std.specs.Prelude.{◌==◌, ◌≢◌, is_some, not}
use Rattle.std.specs.Bool.{Decides}
use Rattle.std.specs.Option.{option_eq}
use Rattle.std.specs.Str.Parse.{ParsesBool, ParsesUnsigned}
use Rattle.std.proofs.lemmas.Bool.Decides.{Decides-like}
use Rattle.clap.specs.Words.{App, HasMatchesOf, ReadsOne, Row, Text, first_of, is_simple, is_simple_and_free, one_of}
use Rattle.clap.specs.Words.{AddsArg, AddsSubcommand, Rule, app_of, subcommand_of, subcommand_rows_of, with_rule}
use Rattle.clap.specs.Words.{with_subcommand}
use Rattle.clap.specs.declared.builder.arg.Arg.{Arg}
use Rattle.clap.specs.declared.builder.command.Command.{Command}
use Rattle.clap.specs.declared.parser.matches.ArgMatches.{ArgMatches}
use Rattle.clap.proofs.OnLiterals.{clap_on_literals}
use Rattle.dali_job.specs.Jobs.{HasAsked, HasFlag, HasNumber, HasOption, HasValue, IsApp, IsCommand, IsEntered, IsJob, IsLeftOut}
use Rattle.dali_job.specs.Jobs.{AreUnits, IsNoCheck, IsNoLink, IsNothing, IsNumber, IsRefused, IsRule}
use Rattle.dali_job.specs.Jobs.{IsJobOf, IsShortJob, bench_app}
use Rattle.dali_job.specs.LinkOptions.{IsShort, asked_of}
use Rattle.dali_job.specs.declared.job.Job.{Job}
use Rattle.dali_job.specs.declared.job.Job.TheVariants.{Check, Run, Frame, Show, Journal, Fields, Link}
use Rattle.dali_job.specs.declared.job.Job.TheVariants as jobs
use Rattle.dali_job.specs.declared.link_command.Asked.{Asked}
use Rattle.dali_job.specs.declared.link_command.LinkCommand.{LinkCommand}
use Rattle.dali_job.specs.declared.link_command.LinkCommand.TheVariants.{Drive, Read, Verify, Scan, Address}
use Rattle.dali_job.specs.declared.refusal.Refusal.{Refusal}
use Rattle.dali_job.specs.declared.refusal.Refusal.TheVariants.{OlderAlone, SeveralAsked, UnitsUnasked, NamedTwice}

bench_is_simple : is_simple bench_app ≡ true
unfolding clap_on_literals
bench_is_simple = refl

pub bench_is_free : is_simple_and_free bench_app ≡ true
unfolding clap_on_literals
bench_is_free = refl

-- the command that a parse of the program's words entered
pub entered_bench : (app : App) (words : List Text) (m : ArgMatches) → app ≡ bench_app → HasMatchesOf app words m
    → subcommand_rows_of m ≡ subcommand_of bench_app words
entered_bench app words m e matches =
    (matches (ap is_simple e ∙ bench_is_simple)).1 ∙ ap (λ (a : App). subcommand_of a words) e

-- a name and rows of one option
pub name_and_rows : {A : Type 0} (o : Option A) (f : A → Text) (g : A → List Row) (name : Text) (rows : List Row)
    → option_map f o ≡ Some name
    → option_map (λ (p : Text × List Row). p.1) (option_map {U = Text × List Row} (λ b. (f b, g b)) o) ≡ Some rows
    → option_map {U = Text × List Row} (λ b. (f b, g b)) o ≡ Some (name, rows)
name_and_rows None f g name rows p q = cc
name_and_rows (Some x) f g name rows p q = cc

pub value_found : (entered : Option (Text × List Row)) (command id : Text) (rows : List Row) (o : Option (Bor (List ℕ)))
    → entered ≡ Some (command, rows)
    → first_of id rows ≡ option_map (λ (s : Bor (List ℕ)). s.now) o
    → IfSome o (λ (value : Bor (List ℕ)). HasValue entered command id value.now)
value_found entered command id rows None e first = tt
value_found entered command id rows (Some x) e first = (rows, e, first)

no_value : (f : List Row → Option Text) (command value : Text) (entered : Option (Text × List Row))
    (rows other : List Row)
    → entered ≡ Some (command, rows) → f rows ≡ None
    → entered ≡ Some (command, other) → f other ≡ Some value → ⊥
no_value f command value entered rows other e none e' some =
    let second : Option (Text × List Row) → Option (List Row) = option_map (λ p. p.1) in
    let same : Some rows ≡ Some other = ap second (sym e ∙ e') in
    let clash : None ≡ Some value = cc in
    cc

pub value_none : (entered : Option (Text × List Row)) (command id : Text) (rows : List Row) (o : Option (Bor (List ℕ)))
    → entered ≡ Some (command, rows)
    → first_of id rows ≡ option_map (λ (s : Bor (List ℕ)). s.now) o
    → IfNone o ((value : Text) → ¬ HasValue entered command id value)
value_none entered command id rows None e first =
    λ value has. no_value (first_of id) command value entered rows has.0 e first has.1 has.2
value_none entered command id rows (Some x) e first = tt

-- an option of a command that a parse entered has the value that was found, or none was and it is left out
pub option_named : (entered : Option (Text × List Row)) (command id : Text) (o : Option (Bor (List ℕ)))
    → IsEntered entered command
    → IfSome o (λ (value : Bor (List ℕ)). HasValue entered command id value.now)
    → IfNone o ((value : Text) → ¬ HasValue entered command id value)
    → HasOption entered command id o
option_named entered command id (Some x) is some none = some
option_named entered command id None is some none = left_out (first_of id is.0) refl
  where
    left_out : (value : Option Text) → first_of id is.0 ≡ value → HasOption entered command id None
    left_out None e = (is.0, is.1, e)
    left_out (Some value) e = absurd (none value (is.0, is.1, e))

-- ---- an option's number

number_read : (E : Type 0) (G : Text → Result ℕ E → Type 0) (text : Text) (number : ℕ)
    → ((t : Text) (r : Result ℕ E) → G t r → ParsesUnsigned 64 10 t r) → G text (Ok number) → IsNumber text number
number_read E G text number only read =
    let parsed = only text (Ok number) read in
    record { numeral = parsed.0.0; value = sym parsed.1; fits = rw parsed.1 parsed.0.1 }

no_number : (E : Type 0) (G : Text → Result ℕ E → Type 0) (text : Text) (error : E) (number : ℕ)
    → ((t : Text) (r : Result ℕ E) → G t r → ParsesUnsigned 64 10 t r) → G text (Err error) → IsNumber text number → ⊥
no_number E G text error number only read is = only text (Err error) read (is.numeral, rw is.value is.fits)

same_text : (f : List Row → Option Text) (command text given : Text) (entered : Option (Text × List Row))
    (rows other : List Row)
    → entered ≡ Some (command, rows) → f rows ≡ Some text
    → entered ≡ Some (command, other) → f other ≡ Some given → given ≡ text
same_text f command text given entered rows other e is e' is' =
    let second : Option (Text × List Row) → Option (List Row) = option_map (λ p. p.1) in
    let same : Some rows ≡ Some other = ap second (sym e ∙ e') in
    cc

-- what `get_one` reads of an option's text as a `u64` is the option's number
pub number_found : (E : Type 0) (G : Text → Result ℕ E → Type 0) (entered : Option (Text × List Row))
    (command id : Text) (rows : List Row) (o : Option ℕ)
    → ((t : Text) (r : Result ℕ E) → G t r → ParsesUnsigned 64 10 t r)
    → entered ≡ Some (command, rows)
    → (one_of id rows ≡ None → o ≡ None) → ((t : Text) → one_of id rows ≡ Some t → ReadsOne G t o)
    → IfSome o (HasNumber entered command id)
number_found E G entered command id rows o only e none value = found (one_of id rows) o refl none value
  where
    found : (text : Option Text) (o : Option ℕ) → one_of id rows ≡ text → (text ≡ None → o ≡ None)
        → ((t : Text) → text ≡ Some t → ReadsOne G t o) → IfSome o (HasNumber entered command id)
    found text None is none value = tt
    found None (Some n) is none value = let clash : Some n ≡ None = none refl in cc
    found (Some t) (Some n) is none value = (rows, t, e, is, number_read E G t n only (value t refl))

pub number_none : (E : Type 0) (G : Text → Result ℕ E → Type 0) (entered : Option (Text × List Row))
    (command id : Text) (rows : List Row) (o : Option ℕ)
    → ((t : Text) (r : Result ℕ E) → G t r → ParsesUnsigned 64 10 t r)
    → entered ≡ Some (command, rows)
    → ((t : Text) → one_of id rows ≡ Some t → ReadsOne G t o)
    → IfNone o ((number : ℕ) → ¬ HasNumber entered command id number)
number_none E G entered command id rows o only e value = not_found (one_of id rows) o refl value
  where
    not_found : (text : Option Text) (o : Option ℕ) → one_of id rows ≡ text
        → ((t : Text) → text ≡ Some t → ReadsOne G t o)
        → IfNone o ((number : ℕ) → ¬ HasNumber entered command id number)
    not_found text (Some n) is value = tt
    not_found None None is value =
        λ number has. no_value (one_of id) command has.1 entered rows has.0 e is has.2 has.3
    not_found (Some t) None is value = λ number has.
        let same = same_text (one_of id) command t has.1 entered rows has.0 e is has.2 has.3 in
        let (error, read) = value t refl in
        no_number E G t error number only read (subst (λ given. IsNumber given number) same has.4)

-- ---- short addresses

abbrev pub texts_of : List (Bor Text) → List Text
texts_of texts = map (λ (text : Bor Text). text.now) texts

-- one more of them
pub units_more : (texts : List (Bor Text)) (index : ℕ) (d : Bor Text) (units : List ℕ) (unit : ℕ) → index < length texts
    → AreUnits (texts_of (take index texts)) units → IsNumber (get_or texts index d).now unit × (unit ≤ 63)
    → AreUnits (texts_of (take (suc index) texts)) (units ++ unit ∷ [])
units_more [] index d units unit below are is = absurd (omega arith)
units_more (text ∷ texts) zero d [] unit below are is = ((is.0, tt), (is.1, tt))
units_more (text ∷ texts) zero d (first ∷ units) unit below are is = absurd are.0
units_more (text ∷ texts) (suc index) d [] unit below are is = absurd are.0
units_more (text ∷ texts) (suc index) d (first ∷ units) unit below are is =
    let rest = units_more texts index d units unit (omega arith) (are.0.1, are.1.1) is in
    ((are.0.0, rest.0), (are.1.0, rest.1))

-- if one text is none, they are no short addresses
pub no_units : (texts : List (Bor Text)) (index : ℕ) (d : Bor Text) → index < length texts
    → ((unit : ℕ) → ¬ (IsNumber (get_or texts index d).now unit × (unit ≤ 63)))
    → (units : List ℕ) → ¬ AreUnits (texts_of texts) units
no_units [] index d below none units = absurd (omega arith)
no_units (text ∷ texts) index d below none [] = λ are. absurd are.0
no_units (text ∷ texts) zero d below none (unit ∷ units) = λ are. none unit (are.0.0, are.1.0)
no_units (text ∷ texts) (suc index) d below none (unit ∷ units) =
    λ are. no_units texts index d (omega arith) none units (are.0.1, are.1.1)

-- ---- commands

-- a command with one more argument
pub with_argument : (was : Command) (argument : Arg) (app : App) (rule : Rule) (more : Command)
    → IsApp app was → IsRule rule argument → AddsArg was argument more → IsApp (with_rule app rule) more
with_argument was argument app rule more (app_is, local) (rule_is, own) added = (
  added.shape own ∙ ap₂ with_rule app_is rule_is,
  added.globals ∙ ap₂ (λ old new. old || new) local own,
)

-- if a command was made and got one more argument, it is with it
pub with_next : (E : Type 0) (made : Result Command E) (argument : Arg) (more : Result Command E) (app : App)
    (rule : Rule) → IfOk made (IsApp app) → IsRule rule argument
    → IfOk more (λ all. IsOkAnd made (λ command. AddsArg command argument all))
    → IfOk more (IsApp (with_rule app rule))
with_next E (Ok was) argument (Ok more) app rule is own added = with_argument was argument app rule more is own added
with_next E (Err error) argument (Ok more) app rule is own added = absurd added
with_next E made argument (Err error) app rule is own added = tt

-- if a program and a command were made and joined, the program is with it
pub with_added : (E : Type 0) (program made all : Result Command E) (before next : App)
    → IfOk program (λ was. app_of was ≡ before) → IfOk made (IsApp next)
    → IfOk all (λ all. IsOkAnd program (λ was. IsOkAnd made (λ command. AddsSubcommand was command all)))
    → IfOk all (λ all. app_of all ≡ with_subcommand before next.top)
with_added E (Ok was) (Ok command) (Ok all) before next was_is (is_next, local) added =
    added.shape local ∙ ap (λ app. with_subcommand app (app_of command).top) was_is
    ∙ ap (λ (app : App). with_subcommand before app.top) is_next
with_added E (Ok was) (Err error) (Ok all) before next was_is is_next added = absurd added
with_added E (Err error) made (Ok all) before next was_is is_next added = absurd added
with_added E program made (Err error) before next was_is is_next added = tt

-- ---- jobs

-- if a parse entered no command over a link, no such job is that of the command that it entered
no_link_job : (entered : Option (Text × List Row)) → IsNoLink entered → (command : LinkCommand)
    → ¬ IsCommand entered command
no_link_job entered none (Drive task) = none.3 task
no_link_job entered none (Read unit bank) = λ named. none.0.1 unit bank.now named.0 named.1
no_link_job entered none (Verify orders report) = λ named. none.0.0 orders.now named.0
no_link_job entered none (Scan addresses sought) = λ named. none.1 addresses.items named.0
no_link_job entered none (Address command) = λ named. none.2 command.units.items named.units_are

-- if no command has its value, the parse entered no job's
no_job : (entered : Option (Text × List Row))
    → ¬ IsEntered entered (codes "fields")
    → ((value : Text) → ¬ HasValue entered (codes "run") (codes "SCENARIO") value)
    → ((value : Text) → ¬ HasValue entered (codes "frame") (codes "HEX") value)
    → ((value : Text) → ¬ HasValue entered (codes "show") (codes "HEXFILE") value)
    → ((value : Text) → ¬ HasValue entered (codes "journal") (codes "FILE") value)
    → IsNoCheck entered → IsNoLink entered → (job : Job) → ¬ IsJob entered job
no_job _ no_fields _ _ _ _ _ _ Fields = no_fields
no_job _ _ no_scenario _ _ _ _ _ (Run scenario _) = λ named. no_scenario scenario.now named.0
no_job _ _ _ no_digits _ _ _ _ (Frame digits) = no_digits digits.now
no_job _ _ _ _ no_dump _ _ _ (Show dump) = no_dump dump.now
no_job _ _ _ _ _ no_records _ _ (Journal records _) = λ named. no_records records.now named.0
no_job _ _ _ _ _ _ no_check _ (Check orders journal older) =
    λ named. no_check orders.now (map (λ (value : Bor Text). value.now) older.items) named.0 named.2
no_job entered _ _ _ _ _ _ no_link (Link command progress) = λ named. no_link_job entered no_link command named.0
no_job _ _ _ _ _ _ _ _ (jobs.Refused refusal) = λ named. named

-- nor is it refused
none_refused : (entered : Option (Text × List Row)) → IsNoCheck entered → IsNoLink entered
    → (refusal : Refusal) → ¬ IsRefused entered refusal
none_refused entered no_check no_link OlderAlone = λ is. no_check is.0 is.1 is.2 is.4
none_refused entered no_check no_link SeveralAsked = λ is. no_link.2 is.0 is.1
none_refused entered no_check no_link UnitsUnasked = λ is. no_link.2 is.1 is.4
none_refused entered no_check no_link (NamedTwice unit) = either
  where
    either : ¬ IsRefused entered (NamedTwice unit)
    either (inl scan) = no_link.1 scan.0 scan.1
    either (inr address) = no_link.2 address.1 address.4

pub nothing_named : (entered : Option (Text × List Row))
    → ¬ IsEntered entered (codes "fields")
    → ((value : Text) → ¬ HasValue entered (codes "run") (codes "SCENARIO") value)
    → ((value : Text) → ¬ HasValue entered (codes "frame") (codes "HEX") value)
    → ((value : Text) → ¬ HasValue entered (codes "show") (codes "HEXFILE") value)
    → ((value : Text) → ¬ HasValue entered (codes "journal") (codes "FILE") value)
    → IsNoCheck entered → IsNoLink entered → IsNothing entered
nothing_named entered no_fields no_run no_frame no_show no_journal no_check no_link =
    let none = no_job entered no_fields no_run no_frame no_show no_journal no_check no_link in
    (none, none_refused entered no_check no_link)

-- a command over a link names only short addresses of units
command_is_short : (entered : Option (Text × List Row)) (command : LinkCommand) → IsCommand entered command
    → IsShort command
command_is_short entered (Drive task) is = tt
command_is_short entered (Read unit bank) is = is.0.1
command_is_short entered (Verify orders report) is = tt
command_is_short entered (Scan addresses sought) is = is.0.2.1
command_is_short entered (Address command) is = tt

pub job_is_short : (words : List Text) (job : Job) → IsJobOf words job → IsShortJob job
job_is_short words (Link command progress) is = command_is_short _ command is.0
job_is_short words (Check orders journal older) is = tt
job_is_short words (Run scenario single_frames) is = tt
job_is_short words (Frame digits) is = tt
job_is_short words (Show dump) is = tt
job_is_short words (Journal records with_updates) is = tt
job_is_short words Fields is = tt
job_is_short words (jobs.Refused refusal) is = tt

-- what `get_one` reads of a text as a `bool` is true exactly when the text is `true`
read_as_true : (E : Type 0) (text : Option Text) (o : Option Bool) → (text ≡ None → o ≡ None)
    → ((t : Text) → text ≡ Some t → ReadsOne {E = E} ParsesBool t o)
    → Decides (option_eq beq o (Some true)) (text ≡ Some (codes "true"))
read_as_true E None None none value = (λ is_true. cc, λ given. cc)
read_as_true E None (Some b) none value = let clash : Some b ≡ None = none refl in (λ is_true. cc, λ given. cc)
read_as_true E (Some t) None none value =
    (λ is_true. cc, λ given. let same : t ≡ codes "true" = cc in absurd ((value t refl).1.0 same))
read_as_true E (Some t) (Some true) none value = (λ _. ap Some (value t refl), λ _. refl)
read_as_true E (Some t) (Some false) none value =
    let as_false : t ≡ codes "false" = value t refl in
    (λ is_true. cc, λ given. cc)

-- the same of a flag, if a parse entered the command
pub flag_decided : (E : Type 0) (entered : Option (Text × List Row)) (command id : Text) (rows : List Row)
    (o : Option Bool)
    → entered ≡ Some (command, rows)
    → (one_of id rows ≡ None → o ≡ None) → ((t : Text) → one_of id rows ≡ Some t → ReadsOne {E = E} ParsesBool t o)
    → Decides (option_eq beq o (Some true)) (HasFlag entered command id)
flag_decided E entered command id rows o e none value =
    let second : Option (Text × List Row) → Option (List Row) = option_map (λ p. p.1) in
    Decides-like _ (λ given. (rows, e, given))
    (λ flag.
    let same : Some rows ≡ Some flag.0 = ap second (sym e ∙ flag.1) in
    let given : one_of id flag.0 ≡ Some (codes "true") = flag.2 in cc)
    (read_as_true E (one_of id rows) o none value)

-- ---- the flags of `address`

-- the task that they ask for
pub asks_for : (entered : Option (Text × List Row)) (all list count : Bool) (asked : Option Asked)
    → Decides all (HasFlag entered (codes "address") (codes "all"))
    → Decides list (HasFlag entered (codes "address") (codes "list"))
    → Decides count (HasFlag entered (codes "address") (codes "count"))
    → asked ≡ asked_of all list count → IfSome asked (HasAsked entered)
asks_for entered all list count None all_is list_is count_is is = tt
asks_for entered all list count (Some asked) all_is list_is count_is is =
    (all, list, count, all_is, list_is, count_is, sym is)

-- ---- older journals beside none to ask

pub left_out : (entered : Option (Text × List Row)) (command id : Text) (o : Option (Bor Text))
    → HasOption entered command id o → is_some o ≡ false → IsLeftOut entered command id
left_out entered command id None has none = has
left_out entered command id (Some value) has none = cc

pub none_where : {A : Type 0} (items : List A) (count : ℕ) (b : Bool) → count ≡ length items → b ≡ (count == 0)
    → b ≡ true → items ≡ []
none_where [] count b is tested holds = refl
none_where (item ∷ items) count b is tested holds =
    let none : suc (length items) ≡ 0 = sym is ∙ eqb-true count 0 (sym tested ∙ holds) in absurd (omega (arith, none))

pub some_where : (texts : List (Bor Text)) (count : ℕ) (b : Bool) → count ≡ length texts → b ≡ (count == 0)
    → b ≡ false → texts_of texts ≢ []
some_where [] count b is tested fails = λ none. eqb-false count 0 (sym tested ∙ fails) is
some_where (text ∷ texts) count b is tested fails = λ none. cc

pub not_none : (o : Option (Bor Text)) (b : Bool) → is_some o ≡ not b → b ≡ false → o ≢ None
not_none None b is fails = λ none. let clash : false ≡ true = is ∙ ap not fails in cc
not_none (Some value) b is fails = λ none. cc
