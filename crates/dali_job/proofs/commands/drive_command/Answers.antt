use Rattle.dali_job.proofs.JobLemmas.{with_next}
use Rattle.dali_job.proofs.commands.drive_command.Goals as goal

pub returns : goal.returns
returns c =
    let files =
    with_next _ c.command_of-orders.result c.value_argument.result c.with_argument-files.result _ _
    c.command_of-orders.ensures c.value_argument.ensures c.with_argument-files.ensures in
    let timed =
    with_next _ c.with_argument-files.result c.moment_option.result c.with_argument-timed.result _ _ files
    c.moment_option.ensures c.with_argument-timed.ensures in
    let followed =
    with_next _ c.with_argument-timed.result c.flag_of.result c.with_argument-followed.result _ _ timed
    c.flag_of.ensures c.with_argument-followed.ensures in
    let planned =
    with_next _ c.with_argument-followed.result c.flag_of-2.result c.with_argument-planned.result _ _ followed
    c.flag_of-2.ensures c.with_argument-planned.ensures in
    let flagged =
    with_next _ c.with_argument-planned.result c.flag_of-3.result c.with_argument-flagged.result _ _ planned
    c.flag_of-3.ensures c.with_argument-flagged.ensures in
    let strict =
    with_next _ c.with_argument-flagged.result c.flag_of-4.result c.with_argument-strict.result _ _ flagged
    c.flag_of-4.ensures c.with_argument-strict.ensures in
    let there =
    with_next _ c.with_argument-strict.result c.flag_of-5.result c.with_argument-there.result _ _ strict
    c.flag_of-5.ensures c.with_argument-there.ensures in
    let watched =
    with_next _ c.with_argument-there.result c.flag_of-6.result c.with_argument-watched.result _ _ there
    c.flag_of-6.ensures c.with_argument-watched.ensures in
    let reported =
    with_next _ c.with_argument-watched.result c.file_option.result c.with_argument-reported.result _ _ watched
    c.file_option.ensures c.with_argument-reported.ensures in
    with_next _ c.with_argument-reported.result c.older_option.result c.with_argument.result _ _ reported
    c.older_option.ensures c.with_argument.ensures
