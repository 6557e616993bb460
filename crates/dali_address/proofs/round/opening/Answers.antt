use Rattle.dali_address.proofs.round.opening.Goals as goal

pub returns-after-number-pairs-rem3 : goal.returns-after-number-pairs-rem3
returns-after-number-pairs-rem3 c task told fits = c.putting.ensures task told
