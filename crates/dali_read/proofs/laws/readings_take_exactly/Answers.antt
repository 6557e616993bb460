use Rattle.dali_read.specs.Counts.{block_frames, bank_frames, identity_frames, order_frames}
use Rattle.dali_read.specs.Places.{last_course, bank_course, identity_course, order_course}
use Rattle.dali_read.proofs.TurnLemmas.{ends_limit, amid_limit}
use Rattle.dali_read.proofs.BankFramesLemmas.{last_took, bank_took, last_few, bank_few}
use Rattle.dali_read.proofs.IdentityLemmas.{identity_took, identity_few}
use Rattle.dali_read.proofs.OrderFramesLemmas.{order_took, order_few}
use Rattle.dali_read.proofs.laws.readings_take_exactly.Goals as goal

pub returns-clause-last : goal.returns-clause-last
returns-clause-last c = last_took

pub returns-clause-bank : goal.returns-clause-bank
returns-clause-bank c = bank_took

pub returns-clause-identity : goal.returns-clause-identity
returns-clause-identity c = identity_took

pub returns-clause-order : goal.returns-clause-order
returns-clause-order c = order_took

pub returns-clause-last_limit : goal.returns-clause-last_limit
returns-clause-last_limit c = λ told unit outcome ends.
    ends_limit unit last_course (block_frames 1) (last_few unit) told outcome ends

pub returns-clause-bank_limit : goal.returns-clause-bank_limit
returns-clause-bank_limit c = λ told unit outcome ends.
    ends_limit unit bank_course (bank_frames 0xFE) (bank_few unit) told outcome ends

pub returns-clause-identity_limit : goal.returns-clause-identity_limit
returns-clause-identity_limit c = λ told unit outcome ends.
    ends_limit unit identity_course (identity_frames 0x10) (identity_few unit) told outcome ends

pub returns-clause-order_limit : goal.returns-clause-order_limit
returns-clause-order_limit c = λ told unit updates outcome ends.
    ends_limit unit (order_course updates) (order_frames updates) (order_few unit updates) told outcome ends

pub returns-clause-amid_last : goal.returns-clause-amid_last
returns-clause-amid_last c = λ told unit frame reading.
    amid_limit unit last_course (block_frames 1) (last_few unit) told frame reading

pub returns-clause-amid_bank : goal.returns-clause-amid_bank
returns-clause-amid_bank c = λ told unit frame reading.
    amid_limit unit bank_course (bank_frames 0xFE) (bank_few unit) told frame reading

pub returns-clause-amid_identity : goal.returns-clause-amid_identity
returns-clause-amid_identity c = λ told unit frame reading.
    amid_limit unit identity_course (identity_frames 0x10) (identity_few unit) told frame reading

pub returns-clause-amid_order : goal.returns-clause-amid_order
returns-clause-amid_order c = λ told unit updates frame reading.
    amid_limit unit (order_course updates) (order_frames updates) (order_few unit updates) told frame reading
