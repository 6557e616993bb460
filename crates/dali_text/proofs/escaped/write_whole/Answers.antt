-- All characters have been yielded where no more is.
use Rattle.std.proofs.Common.{◌≡◌, ◌∙◌, sym, chars}
use Rattle.std.proofs.lemmas.Iterator.{YieldsList-from_chars}
use Rattle.std.proofs.lemmas.Iterator.Consumers.{YieldsList-end}
use Rattle.std.proofs.lemmas.List.{map-id}
use Rattle.dali_text.proofs.escaped.write_whole.Goals as goal

pub returns : goal.returns
returns g c =
    let all = YieldsList-end (YieldsList-from_chars c.args.text.now c.utf8.text cc) c.loop-letter.yielded _
    c.loop-letter.yielded_by _ _ c.in-None.is c.next.ensures.steps in
    let same : c.loop-letter.yielded ≡ chars c.args.text.now = sym (map-id _) ∙ all.0 in
    λ plain ok. rw same at (c.loop-letter.invariant plain)
