use Rattle.dali_journal.proofs.DecodeLemmas.{one_piece}
use Rattle.dali_journal.proofs.laws.bytes_begin_with_one_piece.Goals as goal

pub returns : goal.returns
returns c = one_piece
