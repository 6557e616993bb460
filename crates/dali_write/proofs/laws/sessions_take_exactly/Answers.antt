use Rattle.dali_write.proofs.ExactEndLemmas.{short_took, low_took, high_took, format_took, closed_took, read_took}
use Rattle.dali_write.proofs.laws.sessions_take_exactly.Goals as goal

pub returns-clause-short : goal.returns-clause-short
returns-clause-short c = short_took

pub returns-clause-low : goal.returns-clause-low
returns-clause-low c = low_took

pub returns-clause-high : goal.returns-clause-high
returns-clause-high c = high_took

pub returns-clause-format : goal.returns-clause-format
returns-clause-format c = format_took

pub returns-clause-closed : goal.returns-clause-closed
returns-clause-closed c = closed_took

pub returns-clause-read : goal.returns-clause-read
returns-clause-read c = read_took
