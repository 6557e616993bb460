use Rattle.dali_input.proofs.MemberLemmas.{has_none}
use Rattle.dali_input.proofs.members.Members.new.Goals as goal

pub returns : goal.returns
returns c = has_none
