use Rattle.std.proofs.Common.{◌≡◌, ◌∙◌, Bor, List, ℕ, Some, option_map, refl, sym}
use Rattle.clap.specs.Words.{first_of, found_of, rows_of, subcommand_rows_of}
use Rattle.clap.specs.Matches.{subcommand_name_of}
use Rattle.clap.proofs.WalkLemmas.{first_value-rows}
use Rattle.dali_job.proofs.JobLemmas.{name_and_rows, value_found, value_none}
use Rattle.dali_job.proofs.values.value_of.Goals as goal
use Rattle.dali_job.proofs.values.value_of.Goals.{After-get_str}

entered : (c : After-get_str)
    → subcommand_rows_of c.args.matches.now ≡ Some (c.args.command.now, rows_of (found_of c.in-Some.found.now))
entered c =
    let name : subcommand_name_of c.args.matches.now ≡ Some c.args.command.now = c.in-Some.ensures.found.0 refl in
    name_and_rows _ _ _ c.args.command.now (rows_of (found_of c.in-Some.found.now)) name c.in-Some.ensures.rows

first : (c : After-get_str)
    → first_of c.args.id.now (rows_of (found_of c.in-Some.found.now))
    ≡ option_map (λ (s : Bor (List ℕ)). s.now) c.get_str.result
first c = sym (first_value-rows (found_of c.in-Some.found.now) c.args.id.now) ∙ sym c.get_str.ensures

pub returns-in-Some-clause-found : goal.returns-in-Some-clause-found
returns-in-Some-clause-found c = value_found _ c.args.command.now c.args.id.now _ c.get_str.result (entered c) (first c)

pub returns-in-Some-clause-none : goal.returns-in-Some-clause-none
returns-in-Some-clause-none c = value_none _ c.args.command.now c.args.id.now _ c.get_str.result (entered c) (first c)
