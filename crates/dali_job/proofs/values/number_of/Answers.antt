use Rattle.std.proofs.Common.{◌≡◌, ◌∙◌, Some, refl}
use Rattle.std.specs.Str.Parse.{ExplainsUnsignedError, HasUnsignedDigitsIfOk, ParsesUnsigned}
use Rattle.clap.specs.Words.{found_of, rows_of, subcommand_rows_of}
use Rattle.clap.specs.Matches.{subcommand_name_of}
use Rattle.clap.proofs.WalkLemmas.{one_text-rows}
use Rattle.dali_job.proofs.JobLemmas.{name_and_rows, number_found, number_none}
use Rattle.dali_job.proofs.values.number_of.Goals as goal
use Rattle.dali_job.proofs.values.number_of.Goals.{After-get_one}

entered : (c : After-get_one)
    → subcommand_rows_of c.args.matches.now ≡ Some (c.args.command.now, rows_of (found_of c.in-Some.found.now))
entered c =
    let name : subcommand_name_of c.args.matches.now ≡ Some c.args.command.now = c.in-Some.ensures.found.0 refl in
    name_and_rows _ _ _ c.args.command.now (rows_of (found_of c.in-Some.found.now)) name c.in-Some.ensures.rows

pub returns-in-Some-clause-found : goal.returns-in-Some-clause-found
returns-in-Some-clause-found c =
    let text = one_text-rows (found_of c.in-Some.found.now) c.args.id.now in
    number_found _ (λ bs r. ParsesUnsigned 64 10 bs r × ExplainsUnsignedError 10 bs r × HasUnsignedDigitsIfOk bs r) _
    c.args.command.now c.args.id.now _ c.get_one.result (λ t r read. read.0) (entered c)
    (λ none. c.get_one.ensures.none (text ∙ none))
    (λ t some. c.get_one.ensures.value t (text ∙ some))

pub returns-in-Some-clause-none : goal.returns-in-Some-clause-none
returns-in-Some-clause-none c =
    let text = one_text-rows (found_of c.in-Some.found.now) c.args.id.now in
    number_none _ (λ bs r. ParsesUnsigned 64 10 bs r × ExplainsUnsignedError 10 bs r × HasUnsignedDigitsIfOk bs r) _
    c.args.command.now c.args.id.now _ c.get_one.result (λ t r read. read.0) (entered c)
    (λ t some. c.get_one.ensures.value t (text ∙ some))
