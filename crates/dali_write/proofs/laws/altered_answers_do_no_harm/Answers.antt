use Rattle.dali_write.specs.declared.ask.Verdict.TheVariants.{Doubt}
use Rattle.dali_write.specs.Worlds.{IsAmong}
use Rattle.dali_write.proofs.RunLemmas.{leads_of}
use Rattle.dali_write.proofs.NoisyTouchLemmas.{opened_touches, closing_touches, fresh_keeps}
use Rattle.dali_write.proofs.NoiseLemmas.{plain_run}
use Rattle.dali_write.proofs.NoisyDoneLemmas.{noisy_done, opened_off, closing_off}
use Rattle.dali_write.proofs.laws.altered_answers_do_no_harm.Goals as goal

pub returns-clause-opened : goal.returns-clause-opened
returns-clause-opened c = λ made loses. opened_touches made (IsAmong loses)

pub returns-clause-closing : goal.returns-clause-closing
returns-clause-closing c = λ made loses. closing_touches made (IsAmong loses)

pub returns-clause-fresh : goal.returns-clause-fresh
returns-clause-fresh c = λ made loses. fresh_keeps made (IsAmong loses)

pub returns-clause-done : goal.returns-clause-done
returns-clause-done c = λ loses told first last unit pace updates rises only run wants.
    noisy_done (IsAmong loses) told first last unit pace updates rises only (leads_of told first last run) wants

pub returns-clause-doubt : goal.returns-clause-doubt
returns-clause-doubt c = λ loses told first last unit pace updates run wants.
    opened_off (IsAmong loses) told first last unit pace updates Doubt (leads_of told first last run) wants
    (λ never. never)

pub returns-clause-closed : goal.returns-clause-closed
returns-clause-closed c = λ loses told first last unit run wants.
    closing_off (IsAmong loses) told first last unit (leads_of told first last run) wants

pub returns-clause-plain : goal.returns-clause-plain
returns-clause-plain c = λ made loses told first last unit run. plain_run made unit told first last run
