-- After each answer a session wants something, and it sends no more frames than its plan takes.
use Rattle.std.proofs.Common.{◌∙◌, ◌≡◌, ◌⊎◌, inl, inr, refl, subst, ℕ, ◌≤◌, ◌<◌, true, false, List, [], ◌∷◌}
use Rattle.std.proofs.Common.{length, ◌+◌, ◌*◌, Option, Some, None, arith}
use Rattle.std.proofs.lemmas.Bool.{eqb-true, eqb-false}
use Rattle.std.proofs.lemmas.Bool.Decides.{leb_tells}
use Rattle.std.proofs.Math.Dec.{leb}
use Rattle.dali_frame.specs.declared.forward.Frame.{Frame}
use Rattle.dali_write.specs.Exchanges.{Exchange}
use Rattle.dali_write.specs.declared.request.Request.{Request}
use Rattle.dali_write.specs.declared.request.Wish.{Wish}
use Rattle.dali_write.specs.declared.request.Wish.TheVariants.{Nothing, Exactly, Anything}
use Rattle.dali_write.specs.declared.ask.Ask.{Ask}
use Rattle.dali_write.specs.declared.ask.Ask.TheVariants.{Send, Ended}
use Rattle.dali_write.specs.declared.ask.Verdict.TheVariants.{Closed, NotClosed}
use Rattle.dali_write.specs.declared.ask.Verdict.{Verdict}
use Rattle.dali_write.specs.declared.access.Access.{Access}
use Rattle.dali_write.specs.Requests.{Meets}
use Rattle.dali_write.proofs.DeterminedLemmas.{wants_one}
use Rattle.dali_write.specs.declared.block.Block.{Block}
use Rattle.dali_write.specs.Plans.{Plan, Finish, Make, read_length, close, unlock, read_block}
use Rattle.dali_write.specs.Tries.{most_tries, plan_requests, Stands, Wants}
use Rattle.dali_write.proofs.AskLemmas.{shown_ask, ask_shown}
use Rattle.dali_write.specs.Counts.{fresh_limit, opened_limit, closing_limit}
use Rattle.dali_write.proofs.ShapeLemmas.{none_left}
use Rattle.dali_write.proofs.StandingLemmas.{first_of, stands_at_first, stands_on, stands_again, stands_done, stands_failed}
use Rattle.dali_write.proofs.BlockShapeLemmas.{block_frames_are}
use Rattle.dali_write.proofs.CountLemmas.{stands_takes, block_takes, close_takes, unlock_takes, read_length_takes}
use Rattle.dali_write.specs.declared.pace.Pace.{Pace}

-- the answer is as wished, or it isn't
decides : (wish : Wish) (answer : Option ℕ) → Meets wish answer ⊎ (¬ Meets wish answer)
decides Nothing answer = inl tt
decides (Exactly byte) None = inr (λ meets. cc)
decides (Exactly byte) (Some got) = grind (arith, eqb-true, eqb-false)
decides Anything None = inr (λ meets. cc)
decides Anything (Some got) = inl refl

-- at the beginning
pub first_wanted : (unit : ℕ) (plan : Plan) → (ask : Ask) × Wants unit plan [] ask
first_wanted unit plan = (
  _,
  record {
    outcomes = [];
    now = plan;
    misses = 0;
    left = plan_requests unit plan 0;
    bytes = [];
    stands = stands_at_first unit plan;
    ask_is = refl;
  },
)

-- a session in this state wants something
wants_of : (unit : ℕ) (plan : Plan) (outcomes : List (Option (List ℕ))) (told : List Exchange) (now : Plan)
    (misses : ℕ) (left : List Request)
    (bytes : List ℕ)
    → Stands unit plan outcomes told now misses left bytes
    → (ask : Ask) × Wants unit plan told ask
wants_of unit plan outcomes told now misses left bytes s = (
  _,
  record {
    outcomes = outcomes;
    now = now;
    misses = misses;
    left = left;
    bytes = bytes;
    stands = s;
    ask_is =
        refl;
  },
)

-- after one more answer
next_at : (unit : ℕ) (plan : Plan) (outcomes : List (Option (List ℕ))) (told : List Exchange) (now : Plan)
    (misses : ℕ) (next : Request)
    (left : List Request)
    (bytes : List ℕ) (answer : Option ℕ)
    → Stands unit plan outcomes told now misses (next ∷ left) bytes
    → (ask : Ask) × Wants unit plan (record { frame = next.frame; answer = answer } ∷ told) ask
next_at unit plan outcomes told (Finish verdict) misses next left bytes answer s = absurd
    (none_left s.tried next left s.try)
next_at unit plan outcomes told (Make access after) misses next left bytes answer s =
    by left s (decides next.wish answer) (leb_tells 7 misses)
  where
    by : (rest : List Request) → Stands unit plan outcomes told (Make access after) misses (next ∷ rest) bytes
        → Meets next.wish answer ⊎ (¬ Meets next.wish answer)
        → ((leb 7 misses ≡ true) × (7 ≤ misses)) ⊎ ((leb 7 misses ≡ false) × (misses < 7))
        → (ask : Ask) × Wants unit plan (record { frame = next.frame; answer = answer } ∷ told) ask
    by [] s (inl meets) few =
        wants_of unit plan _ _ _ _ _ _
        (stands_done unit plan outcomes told (Make access after) misses bytes next.frame answer next.wish s meets)
    by (more ∷ rest) s (inl meets) few =
        wants_of unit plan _ _ _ _ _ _
        (stands_on unit plan outcomes told (Make access after) misses (more ∷ rest) bytes next.frame answer next.wish
        s meets
        refl)
    by rest s (inr missed) (inl many) =
        wants_of unit plan _ _ _ _ _ _
        (stands_failed unit plan outcomes told (Make access after) misses rest bytes next.frame answer next.wish s
        missed many.1)
    by rest s (inr missed) (inr few) =
        let less = few.1 in
        wants_of unit plan _ _ _ _ _ _
        (stands_again unit plan outcomes told (Make access after) misses rest bytes next.frame answer
        next.wish s missed (omega arith))

pub next_wanted : (unit : ℕ) (plan : Plan) (told : List Exchange) (frame : Frame) (answer : Option ℕ)
    → Wants unit plan told (Send frame)
    → (ask : Ask) × Wants unit plan (record { frame = frame; answer = answer } ∷ told) ask
next_wanted unit plan told frame answer w = by w.now w.left w.stands (ask_shown w.now w.left w.stands.going ∙ w.ask_is)
  where
    by : (now : Plan) (left : List Request) → Stands unit plan w.outcomes told now w.misses left w.bytes
        → shown_ask now left ≡ Send frame
        → (ask : Ask) × Wants unit plan (record { frame = frame; answer = answer } ∷ told) ask
    by (Finish verdict) left s is = cc
    by (Make access after) [] s is = cc
    by (Make access after) (next ∷ left) s is =
        let same : next.frame ≡ frame = cc in
        subst (λ (f : Frame). (ask : Ask) × Wants unit plan (record { frame = f; answer = answer } ∷ told) ask) same
        (next_at unit plan w.outcomes told (Make access after) w.misses next left w.bytes answer s)

-- limits
pub fresh_few : (unit : ℕ) (pace : Pace) (updates : List (ℕ × ℕ)) (told : List Exchange) (ask : Ask)
    → Wants unit (read_length pace updates) told ask → length told ≤ fresh_limit
fresh_few unit pace updates told ask w =
    stands_takes unit (read_length pace updates) w.outcomes told w.now w.misses w.left w.bytes fresh_limit w.stands
    (read_length_takes pace updates)

pub opened_few : (unit : ℕ) (pace : Pace) (updates : List (ℕ × ℕ)) (told : List Exchange) (ask : Ask)
    → Wants unit (unlock pace updates) told ask → length told ≤ opened_limit (length updates)
opened_few unit pace updates told ask w =
    stands_takes unit (unlock pace updates) w.outcomes told w.now w.misses w.left w.bytes
    (opened_limit (length updates)) w.stands
    (unlock_takes (opened_limit (length updates)) pace updates (omega arith))

pub closing_few : (unit : ℕ) (told : List Exchange) (ask : Ask) → Wants unit (close Closed NotClosed) told ask
    → length told ≤ closing_limit
closing_few unit told ask w =
    stands_takes unit (close Closed NotClosed) w.outcomes told w.now w.misses w.left w.bytes closing_limit w.stands
    (close_takes closing_limit Closed NotClosed (omega arith))

-- while a session of a block wants a frame it has sent fewer than eight tries take
pub block_fewer : (unit : ℕ) (block : Block) (told : List Exchange) (frame : Frame)
    → Wants unit (read_block block) told (Send frame) → length told < most_tries * (block.count + 6)
block_fewer unit block told frame wants =
    let w = (next_wanted unit (read_block block) told frame None wants).1 in
    let few =
    stands_takes unit (read_block block) w.outcomes _ w.now w.misses w.left w.bytes _ w.stands (block_takes block) in
    omega (arith, block_frames_are 0 block)

-- no session with an access ends before its first frame
sends_first : (unit : ℕ) (access : Access) (after : Option (List ℕ) → Plan)
    → (frame : Frame) × Wants unit (Make access after) [] (Send frame)
sends_first unit access after =
    let f = first_of unit access 0 in
    let plan = Make access after in (
      f.first.frame,
      record {
        outcomes = [];
        now = plan;
        misses = 0;
        left = f.first ∷ f.more;
        bytes = [];
        stands = subst (λ (l : List Request). Stands unit plan [] [] plan 0 l []) f.is (stands_at_first unit plan);
        ask_is = refl;
      },
    )

pub none_ended : (unit : ℕ) (access : Access) (after : Option (List ℕ) → Plan) (verdict : Verdict)
    → Wants unit (Make access after) [] (Ended verdict) → ⊥
none_ended unit access after verdict wants =
    let first = sends_first unit access after in
    let never = wants_one [] unit (Make access after) (Ended verdict) (Send first.0) wants first.1 in cc
