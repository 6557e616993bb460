-- Parts go on by one event.
use Rattle.std.proofs.Common.{◌∙◌, ◌+◌, ◌<◌, ap, sym, subst, ℕ, List}
use Rattle.std.proofs.Common.{[], ◌∷◌, length, take, reverse, get_or}
use Rattle.std.proofs.lemmas.List.{take_more, reverse-append}
use Rattle.dali_trace.specs.declared.happening.Event.{Event}
use Rattle.dali_trace.specs.declared.happening.Happening.{Happening}
use Rattle.dali_trace.specs.Trace.{Start}
use Rattle.dali_trace.specs.Parts.{Part, AreParts}

pub more_parts : (start : Start) (events : List Event) (i : ℕ) (d : Event) (before after : List Happening)
    → i < length events → AreParts start (reverse (take i events)) before
    → Part start (get_or events i d) before after → AreParts start (reverse (take (i + 1) events)) after
more_parts start events i d before after within so_far part =
    subst (λ (es : List Event). AreParts start es after)
    (sym (ap reverse (take_more events i d within) ∙ reverse-append (take i events) (get_or events i d ∷ [])))
    (before, part, so_far)
