use Rattle.std.proofs.Common.{◌∙◌, take, ap}
use Rattle.std.proofs.lemmas.List.{take-replicate}
use Rattle.dali_bank.proofs.spelling.unknown_bytes.Goals as goal

pub returns : goal.returns
returns c =
    c.truncate.ensures.items ∙ ap (take c.args.length) c.from-bytes.ensures.0
    ∙ take-replicate c.args.length 60 255 c.requires
