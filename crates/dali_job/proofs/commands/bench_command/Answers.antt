use Rattle.std.proofs.Common.{◌≡◌, ◌∙◌, Ok, ap, true}
use Rattle.clap.specs.Words.{App, app_of}
use Rattle.clap.specs.Simple.{app_of_fields}
use Rattle.dali_job.specs.Jobs.{top_app}
use Rattle.dali_job.proofs.JobLemmas.{with_added}
use Rattle.dali_job.proofs.commands.bench_command.Goals as goal

pub returns : goal.returns
returns c =
    let top : app_of c.subcommand_required-top.result ≡ top_app =
    ap app_of_fields c.subcommand_required-top.ensures
    ∙ ap (λ (app : App). record app { top = record app.top { subcommand_required = true } })
    (ap app_of_fields c.after_help.ensures ∙ ap app_of_fields c.about.ensures ∙ c.new.ensures.app) in
    let checks =
    with_added _ (Ok c.subcommand_required-top.result) c.check_command.result c.with_made-checks.result _ _ top
    c.check_command.ensures c.with_made-checks.ensures in
    let runs =
    with_added _ c.with_made-checks.result c.run_command.result c.with_made-runs.result _ _ checks
    c.run_command.ensures c.with_made-runs.ensures in
    let frames =
    with_added _ c.with_made-runs.result c.command_of.result c.with_made-frames.result _ _ runs
    c.command_of.ensures c.with_made-frames.ensures in
    let shows =
    with_added _ c.with_made-frames.result c.command_of-2.result c.with_made-shows.result _ _ frames
    c.command_of-2.ensures c.with_made-shows.ensures in
    let journals =
    with_added _ c.with_made-shows.result c.journal_command.result c.with_made-journals.result _ _ shows
    c.journal_command.ensures c.with_made-journals.ensures in
    let fields =
    with_added _ c.with_made-journals.result (Ok c.plain_command.result) c.with_made-fields.result _ _ journals
    c.plain_command.ensures c.with_made-fields.ensures in
    let drives =
    with_added _ c.with_made-fields.result c.drive_command.result c.with_made-drives.result _ _ fields
    c.drive_command.ensures c.with_made-drives.ensures in
    let reads =
    with_added _ c.with_made-drives.result c.read_command.result c.with_made-reads.result _ _ drives
    c.read_command.ensures c.with_made-reads.ensures in
    let verifies =
    with_added _ c.with_made-reads.result c.verify_command.result c.with_made-verifies.result _ _ reads
    c.verify_command.ensures c.with_made-verifies.ensures in
    let scans =
    with_added _ c.with_made-verifies.result c.scan_command.result c.with_made-scans.result _ _ verifies
    c.scan_command.ensures c.with_made-scans.ensures in
    with_added _ c.with_made-scans.result c.address_command.result c.with_made.result _ _ scans
    c.address_command.ensures c.with_made.ensures
