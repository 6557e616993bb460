use Rattle.dali_write.specs.Worlds.{IsAmong}
use Rattle.dali_write.proofs.RunLemmas.{spared_along, few_too}
use Rattle.dali_write.proofs.OpenedSuccessLemmas.{opened_succeeds}
use Rattle.dali_write.proofs.SuccessLemmas.{fresh_succeeds, closing_succeeds, reading_succeeds}
use Rattle.dali_write.proofs.laws.spared_sessions_succeed.Goals as goal

pub returns-clause-fresh : goal.returns-clause-fresh
returns-clause-fresh c = λ loses at unit pace updates verdict told first last spared wants.
    let along = spared_along (IsAmong loses) at unit told first last spared in
    let ends = fresh_succeeds (IsAmong loses) at unit pace updates verdict told first last along wants in
    (ends.0, few_too (IsAmong loses) at unit told first last spared ends.1)

pub returns-clause-opened : goal.returns-clause-opened
returns-clause-opened c = λ loses at unit pace updates verdict told first last spared rises takes wants.
    let along = spared_along (IsAmong loses) at unit told first last spared in
    let ends =
    opened_succeeds (IsAmong loses) at unit pace updates verdict told first last along rises takes wants in
    (ends.0, few_too (IsAmong loses) at unit told first last spared ends.1)

pub returns-clause-closing : goal.returns-clause-closing
returns-clause-closing c = λ loses at unit verdict told first last spared wants.
    let along = spared_along (IsAmong loses) at unit told first last spared in
    let ends = closing_succeeds (IsAmong loses) at unit verdict told first last along wants in
    (ends.0, few_too (IsAmong loses) at unit told first last spared ends.1)

pub returns-clause-reading : goal.returns-clause-reading
returns-clause-reading c = λ loses at unit verdict told first last spared wants.
    let along = spared_along (IsAmong loses) at unit told first last spared in
    let ends = reading_succeeds (IsAmong loses) at unit verdict told first last along wants in
    (ends.0, few_too (IsAmong loses) at unit told first last spared ends.1)
