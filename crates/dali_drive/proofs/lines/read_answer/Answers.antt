use Rattle.std.proofs.Common.{◌≢◌, ◌++◌, ℕ, List, [], ◌∷◌, refl, length-append, arith, subst}
use Rattle.std.proofs.lemmas.Grind.{common_steps}
use Rattle.std.proofs.lemmas.List.Elements.{All-append}
use Rattle.std.proofs.KnownBytes.{Consumes-trans, Consumes-kept}
use Rattle.std.specs.Io.BufRead.{strip_last}
use Rattle.dali_frame.specs.Line.{SpellsAnswer, IsLineFault}
use Rattle.dali_drive.proofs.lines.read_answer.Goals as goal

pub returns-in-Ok-clause-line : goal.returns-in-Ok-clause-line
returns-in-Ok-clause-line g c = (
  c.loop-text.text.items ++ 10 ∷ [],
  record {
    line = c.loop-text.text.items;
    is_short = record { short = c.loop-text.invariant.short; inside = c.loop-text.invariant.inside };
    spells = subst (λ (t : List ℕ). SpellsAnswer (strip_last 13 t) c.in-Ok.answer) c.deref.ensures.0 c.in-Ok.ensures.ok;
    ended = refl;
  },
  Consumes-trans _ _ _ _ _ c.loop-text.invariant.bytes (rw c.in-Byte-eq10.field-0-test at c.in-Byte-eq10.ensures.bytes),
)

pub returns-in-Err-clause-line : goal.returns-in-Err-clause-line
returns-in-Err-clause-line g c = (
  c.loop-text.text.items,
  record { short = c.loop-text.invariant.short; inside = c.loop-text.invariant.inside },
  subst (λ (t : List ℕ). IsLineFault c.in-Err.fault (strip_last 13 t)) c.deref.ensures.0 c.in-Err.ensures.err,
  Consumes-trans _ _ _ _ _ c.loop-text.invariant.bytes (rw c.in-Byte-eq10.field-0-test at c.in-Byte-eq10.ensures.bytes),
)

pub returns-then-is_full-clause-line : goal.returns-then-is_full-clause-line
returns-then-is_full-clause-line g c = (
  c.loop-text.text.items ++ c.in-Byte.byte ∷ [],
  let full = c.if-is_full.ensures.value in grind (arith, common_steps, length-append {A = ℕ}),
  All-append (λ b. b ≢ 10) c.loop-text.text.items (c.in-Byte.byte ∷ []) c.loop-text.invariant.inside
      (let other = c.in-Byte.byte-test.1 in grind (arith, common_steps)),
  Consumes-trans _ _ _ _ _ c.loop-text.invariant.bytes c.in-Byte.ensures.bytes,
)

pub returns-in-End-clause-line : goal.returns-in-End-clause-line
returns-in-End-clause-line g c = (
  c.loop-text.text.items,
  record { short = c.loop-text.invariant.short; inside = c.loop-text.invariant.inside },
  Consumes-kept _ _ _ _ c.loop-text.invariant.bytes c.in-End.ensures.bytes.0,
  c.in-End.ensures.bytes.1,
)

pub returns-in-Failed-clause-line : goal.returns-in-Failed-clause-line
returns-in-Failed-clause-line g c = (
  c.loop-text.text.items,
  record { short = c.loop-text.invariant.short; inside = c.loop-text.invariant.inside },
  Consumes-kept _ _ _ _ c.loop-text.invariant.bytes c.in-Failed.ensures.bytes,
)
