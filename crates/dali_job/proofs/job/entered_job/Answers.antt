use Rattle.std.proofs.Common.{◌≡◌, ◌∙◌, Bor, IfNone, IfSome, List, ap, map, subst, true, ℕ}
use Rattle.clap.specs.Words.{App, HasKind, app_of, fault_of, is_simple_and_free, subcommand_of, subcommand_rows_of}
use Rattle.dali_job.specs.Jobs.{IsNamed, IsNothing, bench_app}
use Rattle.dali_job.proofs.JobLemmas.{bench_is_free, entered_bench}
use Rattle.dali_job.proofs.job.entered_job.Goals as goal
use Rattle.dali_job.proofs.job.entered_job.Goals.{Joined-matches}

entered : (c : Joined-matches)
    → subcommand_rows_of c.in-Ok.matches
    ≡ subcommand_of bench_app (map (λ (word : Bor (List ℕ)). word.now) c.args.words.now)
entered c =
    let words = map (λ (word : Bor (List ℕ)). word.now) c.args.words.now in
    entered_bench (app_of c.args.command.now) words c.in-Ok.matches c.requires c.in-Ok.ensures.ok.2

pub returns-in-Err-clause-refused : goal.returns-in-Err-clause-refused
returns-in-Err-clause-refused c =
    let words = map (λ (word : Bor (List ℕ)). word.now) c.args.words.now in
    let free : is_simple_and_free (app_of c.args.command.now) ≡ true =
    ap is_simple_and_free c.requires ∙ bench_is_free in
    subst (λ (a : App). HasKind (fault_of a words) c.in-Err.error) c.requires (c.in-Err.ensures.kinds free)

pub returns-in-Ok-job_in-clause-named : goal.returns-in-Ok-job_in-clause-named
returns-in-Ok-job_in-clause-named c =
    subst (λ e. IfSome c.in-Ok-job_in.found (IsNamed e)) (entered c) c.in-Ok-job_in.ensures.named

pub returns-in-Ok-job_in-clause-none : goal.returns-in-Ok-job_in-clause-none
returns-in-Ok-job_in-clause-none c =
    subst (λ e. IfNone c.in-Ok-job_in.found (IsNothing e)) (entered c) c.in-Ok-job_in.ensures.none
