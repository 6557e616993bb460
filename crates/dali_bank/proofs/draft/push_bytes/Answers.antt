use Rattle.std.proofs.Common.{◌≡◌, ◌<◌, ◌+◌, ◌++◌, ◌∷◌, ◌∙◌, [], length, take, get_or, ap, arith, append_assoc}
use Rattle.std.proofs.Common.{length-append, length-take}
use Rattle.std.proofs.lemmas.List.{take_more}
use Rattle.dali_bank.specs.Draft.{placed_at}
use Rattle.dali_bank.proofs.LayoutLemmas.{placed_at-snoc, length-placed_at}
use Rattle.dali_bank.proofs.draft.push_bytes.Goals as goal

pub push-requires : goal.push-requires
push-requires c =
    let pushed = simp (length-append, length-placed_at, length-take) at (ap length c.loop-byte.invariant.pushed) in
    (omega arith, omega (arith, pushed))

pub loop-byte-preserved : goal.loop-byte-preserved
loop-byte-preserved c =
    let first = c.args.first in
    let bytes = c.args.bytes.now in
    let i = c.loop-byte.byte-index in
    let front = take i bytes in
    let byte = get_or bytes i 0 in
    let within : i < length bytes = omega arith in
    let more : take (i + 1) bytes ≡ front ++ byte ∷ [] = take_more bytes i 0 within in
    let there : first + length front ≡ c.loop-byte.location = simp length-take (omega arith) in
    let placed : placed_at first (take (i + 1) bytes) ≡ placed_at first front ++ (c.loop-byte.location, byte) ∷ [] =
    ap (placed_at first) more ∙ placed_at-snoc first front byte
    ∙ ap (λ n. placed_at first front ++ (n, byte) ∷ []) there in
    record {
      pushed = rw (c.push.ensures.items, c.loop-byte.invariant.pushed, placed) (simp append_assoc);
      next = omega arith;
    }
