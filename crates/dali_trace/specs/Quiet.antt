-- The happenings that are not in a part of a trace.
use Rattle.std.specs.Prelude.{◌≡◌, List, [], ◌∷◌, ⊤}
use Rattle.dali_trace.specs.declared.happening.Reply.TheVariants as replies
use Rattle.dali_trace.specs.declared.happening.Happening.{Happening}
use Rattle.dali_trace.specs.declared.happening.Happening.TheVariants.{Answered}
use Rattle.dali_trace.specs.Cut.{frames_in}

-- no order is taken
abbrev pub NoneTaken : List Happening → Type 0
NoneTaken [] = ⊤
NoneTaken (Answered id replies.Taken ∷ past) = ⊥
NoneTaken (other ∷ past) = NoneTaken past

-- no frame is sent
abbrev pub NoneSent : List Happening → Type 0
NoneSent past = frames_in past ≡ []
