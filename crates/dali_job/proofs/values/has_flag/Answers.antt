use Rattle.std.proofs.Common.{◌≡◌, ◌∙◌, Some, refl}
use Rattle.clap.specs.Words.{found_of, rows_of, subcommand_rows_of}
use Rattle.clap.specs.Matches.{subcommand_name_of}
use Rattle.clap.proofs.WalkLemmas.{one_text-rows}
use Rattle.dali_job.proofs.JobLemmas.{flag_decided, name_and_rows}
use Rattle.dali_job.proofs.values.has_flag.Goals as goal

pub returns-in-Some : goal.returns-in-Some
returns-in-Some c =
    let found = found_of c.in-Some.found.now in
    let name : subcommand_name_of c.args.matches.now ≡ Some c.args.command.now = c.in-Some.ensures.found.0 refl in
    let entered : subcommand_rows_of c.args.matches.now ≡ Some (c.args.command.now, rows_of found) =
    name_and_rows _ _ _ c.args.command.now (rows_of found) name c.in-Some.ensures.rows in
    let text = one_text-rows found c.args.id.now in
    rw c.eq.ensures
    (flag_decided _ _ c.args.command.now c.args.id.now (rows_of found) c.get_one.result entered
    (λ none. c.get_one.ensures.none (text ∙ none))
    (λ t some. c.get_one.ensures.value t (text ∙ some)))
