use Rattle.std.proofs.Common.{◌∙◌, ap, take}
use Rattle.dali_bank.proofs.TextLemmas.{filled_up}
use Rattle.dali_bank.proofs.spelling.text_bytes.Goals as goal

pub returns : goal.returns
returns c =
    let text = c.args.text.now in
    c.truncate.ensures.items ∙ ap (take c.args.size) (c.from-bytes.ensures.0)
    ∙ rw c.copy_from_slice.ensures.after (filled_up text c.args.size 60 c.requires.fits c.requires.room)
