use Rattle.std.specs.Fmt.{HasWritten, IsPlainFormatter}
use Rattle.dali_text.specs.Escaped.{shown_letters}
use Rattle.dali_text.proofs.escaped.write_whole.Given as goal

abbrev pub invariant-loop-letter : goal.invariant-loop-letter
invariant-loop-letter g l = IsPlainFormatter l.initial.f
    → HasWritten g.W.Write.write_str_gives l.initial.f (shown_letters l.yielded) l.f
