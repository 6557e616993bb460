use Rattle.dali_address.proofs.round.Round.call.Goals as goal

pub returns-in-Open : goal.returns-in-Open
returns-in-Open c task told stands fits = c.opening.ensures task told fits

pub returns-in-Seek : goal.returns-in-Seek
returns-in-Seek c task told stands fits = c.putting.ensures task told

pub returns-in-Settle : goal.returns-in-Settle
returns-in-Settle c task told stands fits = c.putting-in-Settle.ensures task told

pub returns-in-Put : goal.returns-in-Put
returns-in-Put c task told stands fits = c.putting-in-Put.ensures task told
