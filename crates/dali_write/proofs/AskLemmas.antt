-- The frame that is asked for, from plan and requests alone.
use Rattle.std.proofs.Common.{◌≡◌, refl, List, [], ◌∷◌}
use Rattle.dali_write.specs.declared.request.Request.{Request}
use Rattle.dali_write.specs.declared.ask.Ask.{Ask}
use Rattle.dali_write.specs.declared.ask.Ask.TheVariants.{Send, Ended}
use Rattle.dali_write.specs.declared.ask.Verdict.TheVariants.{Silent}
use Rattle.dali_write.specs.Plans.{Plan, Finish, Make}
use Rattle.dali_write.specs.Tries.{IsGoing, ask_at}

-- the same without the proof that there is a next frame; if there is none, any result will do
abbrev pub shown_ask : Plan → List Request → Ask
shown_ask (Finish verdict) left = Ended verdict
shown_ask (Make access after) [] = Ended Silent
shown_ask (Make access after) (next ∷ left) = Send next.frame

pub ask_shown : (plan : Plan) (left : List Request) (going : IsGoing plan left)
    → shown_ask plan left ≡ ask_at plan left going
ask_shown (Finish verdict) left going = refl
ask_shown (Make access after) [] going = cc
ask_shown (Make access after) (next ∷ left) going = refl
