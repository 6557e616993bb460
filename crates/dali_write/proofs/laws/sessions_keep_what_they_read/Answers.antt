use Rattle.dali_write.proofs.ToldLemmas.{told_reads, none_read}
use Rattle.dali_write.proofs.laws.sessions_keep_what_they_read.Goals as goal

pub returns-clause-reading : goal.returns-clause-reading
returns-clause-reading c = told_reads

pub returns-clause-few : goal.returns-clause-few
returns-clause-few c = λ told s was. s.held

pub returns-clause-others : goal.returns-clause-others
returns-clause-others c = none_read
