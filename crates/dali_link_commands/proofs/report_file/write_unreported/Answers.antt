use Rattle.std.proofs.Common.{codes, arith}
use Rattle.dali_link_commands.proofs.WordsLemmas.{told_plain}
use Rattle.dali_link_commands.proofs.report_file.write_unreported.Goals as goal

pub returns-in-None-clause-line : goal.returns-in-None-clause-line
returns-in-None-clause-line g c =
    told_plain _ (codes "the report can't be written") _ _ (omega arith) c.write_error-in-None.ensures.line
