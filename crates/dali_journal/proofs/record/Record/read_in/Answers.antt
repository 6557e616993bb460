use Rattle.std.proofs.Common.{sym, subst, arith}
use Rattle.dali_journal.specs.declared.read.Piece.{Piece}
use Rattle.dali_journal.specs.Reading.{IsRead}
use Rattle.dali_journal.proofs.PairLemmas.{are-bytes}
use Rattle.dali_journal.proofs.PieceLemmas.{reads-piece_of}
use Rattle.dali_journal.proofs.record.Record.read_in.Goals as goal

pub returns : goal.returns
returns c =
    subst (λ (p : Piece). IsRead c.args.version c.args.bytes.now p) (sym c.piece_of.ensures)
    (reads-piece_of c.args.version c.args.bytes.now
    (are-bytes c.args.bytes.now (λ i. omega (arith, c.type_inv.bytes i))))
