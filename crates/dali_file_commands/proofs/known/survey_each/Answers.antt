use Rattle.dali_file_commands.proofs.KnownLemmas.{all_surveyed, none_so_far, one_more}
use Rattle.dali_file_commands.proofs.known.survey_each.Goals as goal

pub loop-entry-init : goal.loop-entry-init
loop-entry-init c = λ records all bytes. none_so_far records c.args.bytes.now all bytes

pub loop-entry-preserved : goal.loop-entry-preserved
loop-entry-preserved c = λ records all bytes.
    rw c.behind-rest.ensures (one_more records c.loop-entry.rest.now c.in-Whole.entry c.in-Whole.len _ _
    c.in-Whole.ensures (c.loop-entry.invariant records all bytes) c.with-survey.ensures)

pub returns : goal.returns
returns c = λ records all bytes.
    all_surveyed records c.loop-entry.rest.now c.read.result _ c.read.ensures c.in_default.not-Whole
    (c.loop-entry.invariant records all bytes)
