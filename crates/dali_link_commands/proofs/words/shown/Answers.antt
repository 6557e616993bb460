use Rattle.std.proofs.Common.{◌≡◌, chars, string_bytes}
use Rattle.std.proofs.lemmas.Result.{IfOk-weaker}
use Rattle.dali_text.specs.Escaped.{shown_text}
use Rattle.dali_link_commands.specs.Told.{IsPlain}
use Rattle.dali_link_commands.proofs.WordsLemmas.{plain_shown}
use Rattle.dali_link_commands.proofs.words.shown.Goals as goal

pub returns-clause-plain : goal.returns-clause-plain
returns-clause-plain c =
    IfOk-weaker c.format.result (λ words. string_bytes words ≡ shown_text c.args.text.now)
    (λ words. IsPlain (string_bytes words)) (λ words is. rw is (plain_shown (chars c.args.text.now)))
    c.format.ensures.ok
