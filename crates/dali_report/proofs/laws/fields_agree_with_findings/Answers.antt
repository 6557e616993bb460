use Rattle.dali_report.proofs.AgreeLemmas.{other_agrees, same_agrees, unread_agrees}
use Rattle.dali_report.proofs.laws.fields_agree_with_findings.Goals as goal

pub returns : goal.returns
returns c = record { same = same_agrees; other = other_agrees; unread = unread_agrees }
