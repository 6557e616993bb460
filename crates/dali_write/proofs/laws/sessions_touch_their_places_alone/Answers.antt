use Rattle.dali_write.specs.Worlds.{IsAmong}
use Rattle.dali_write.proofs.NoisyTouchLemmas.{plain_touches, plain_close_touches, others_off}
use Rattle.dali_write.proofs.laws.sessions_touch_their_places_alone.Goals as goal

pub returns-clause-opened : goal.returns-clause-opened
returns-clause-opened c = λ loses told first last unit pace updates ask.
    plain_touches (IsAmong loses) told first last unit pace updates ask

pub returns-clause-closing : goal.returns-clause-closing
returns-clause-closing c = λ loses told first last unit ask.
    plain_close_touches (IsAmong loses) told first last unit ask

pub returns-clause-enabled : goal.returns-clause-enabled
returns-clause-enabled c = λ loses told first last unit pace updates ask.
    others_off (IsAmong loses) told first last unit pace updates ask
