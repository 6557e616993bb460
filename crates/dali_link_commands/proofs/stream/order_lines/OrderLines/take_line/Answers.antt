use Rattle.std.proofs.Common.{refl, inl, inr}
use Rattle.dali_link_commands.proofs.LinesGaveLemmas.{gave_next, gave_no_more, has_byte}
use Rattle.dali_link_commands.proofs.stream.order_lines.OrderLines.take_line.Goals.{in-LineFeed, in-Stream+else-is_empty}
use Rattle.dali_link_commands.proofs.stream.order_lines.OrderLines.take_line.Goals as goal

pub returns-then-is_empty-clause-given : goal.returns-then-is_empty-clause-given
returns-then-is_empty-clause-given g c = λ first given gave.
    let read = c.in-Stream.ensures in
    gave_no_more g.R.Source.left g.R.Source.failed first _ _ given read.0 c.requires.goes_on gave read.1 refl read.3.0
    (inl ((c.if-is_empty.ensures read.0 read.2).0 refl, read.3.1)) refl refl refl (c.requires.begun, c.requires.begun)

pub returns-in-Broken-clause-given : goal.returns-in-Broken-clause-given
returns-in-Broken-clause-given g c = λ first given gave.
    let read = c.in-Broken.ensures in
    gave_no_more g.R.Source.left g.R.Source.failed first _ _ given read.0 c.requires.goes_on gave read.1 refl read.3.0
    (inr read.3.1) refl refl refl (c.requires.begun, c.requires.begun)

pub returns-clause-given : goal.returns-clause-given
returns-clause-given g c = λ first given gave. elim c.match-read_line.branch [
  | in-LineFeed w ↦
      let read = w.in-LineFeed.ensures in
      let same = rw w.self-is at c.judge.ensures.same in
      let gives = rw w.self-is at c.judge.ensures.given in
      rw same (gave_next g.R.Source.left g.R.Source.failed first c.args.self.now _ given read.0 c.judge.result
      c.requires.goes_on gave read.1 (inl (c.requires.goes_on, read.3)) refl refl refl
      (c.requires.begun, c.requires.begun) (gives read.0 read.2))
  | in-Stream+else-is_empty w ↦
      let read = w.in-Stream.ensures in
      let same = rw w.self-is at c.judge.ensures.same in
      let gives = rw w.self-is at c.judge.ensures.given in
      let some = has_byte _ read.0 (w.is_empty.ensures read.0 read.2) w.if-is_empty.false in
      rw same (gave_next g.R.Source.left g.R.Source.failed first c.args.self.now _ given read.0 c.judge.result
      c.requires.goes_on gave read.1 (inr (refl, (some, read.3.0, read.3.1))) refl refl refl
      (c.requires.begun, c.requires.begun) (gives read.0 read.2))
]
