use Rattle.dali_write.specs.Worlds.{IsAmong}
use Rattle.dali_write.proofs.RunLemmas.{spared_along, few_too}
use Rattle.dali_read.proofs.SparedCourseLemmas.{last_succeeds, bank_succeeds, order_succeeds}
use Rattle.dali_read.proofs.IdentityLemmas.{identity_succeeds}
use Rattle.dali_read.proofs.laws.spared_readings_succeed.Goals as goal

pub returns-clause-last : goal.returns-clause-last
returns-clause-last c = λ loses at unit outcome told first last spared ends.
    let along = spared_along (IsAmong loses) at unit told first last spared in
    let all = last_succeeds (IsAmong loses) at unit outcome told first last along ends in
    (all.0, few_too (IsAmong loses) at unit told first last spared all.1)

pub returns-clause-bank : goal.returns-clause-bank
returns-clause-bank c = λ loses at unit outcome told first last spared ends.
    let along = spared_along (IsAmong loses) at unit told first last spared in
    let all = bank_succeeds (IsAmong loses) at unit outcome told first last along ends in
    (all.0, few_too (IsAmong loses) at unit told first last spared all.1)

pub returns-clause-identity : goal.returns-clause-identity
returns-clause-identity c = λ loses at unit outcome told first last spared ends.
    let along = spared_along (IsAmong loses) at unit told first last spared in
    let all = identity_succeeds (IsAmong loses) at unit outcome told first last along ends in
    (all.0, few_too (IsAmong loses) at unit told first last spared all.1)

pub returns-clause-order : goal.returns-clause-order
returns-clause-order c = λ loses at unit updates outcome told first last spared ends.
    let along = spared_along (IsAmong loses) at unit told first last spared in
    let all = order_succeeds (IsAmong loses) at unit updates outcome told first last along ends in
    (all.0, few_too (IsAmong loses) at unit told first last spared all.1)
