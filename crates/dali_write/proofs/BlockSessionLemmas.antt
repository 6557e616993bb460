-- The result of a session of a block.
use Rattle.std.proofs.Common.{◌≡◌, ◌≢◌, ◌⊎◌, inl, inr, refl, sym, ap, subst, ◌∙◌, ℕ, List, [], ◌∷◌, append-nil, drop}
use Rattle.std.proofs.Common.{Option, Some, None}
use Rattle.dali_frame.specs.declared.forward.Frame.{Frame}
use Rattle.dali_write.specs.Exchanges.{Exchange}
use Rattle.dali_write.specs.declared.request.Request.{Request}
use Rattle.dali_write.specs.declared.block.Block.{Block}
use Rattle.dali_write.specs.declared.ask.Cause.{Cause}
use Rattle.dali_write.specs.declared.session.Session.{Session}
use Rattle.dali_write.specs.declared.stage.Task.{Task}
use Rattle.dali_write.specs.declared.stage.Task.TheVariants.{ReadingBlock}
use Rattle.dali_write.specs.declared.ask.Verdict.{Verdict}
use Rattle.dali_write.specs.declared.ask.Verdict.TheVariants.{Read}
use Rattle.dali_write.specs.declared.ask.Ask.TheVariants.{Send, Ended}
use Rattle.dali_write.specs.Blocks.{IsAmid}
use Rattle.dali_write.specs.Requests.{block_requests, access_requests}
use Rattle.dali_write.specs.Plans.{Plan, Finish, Make, next_plan, plan_after, read_block}
use Rattle.dali_write.specs.Tries.{most_tries, Misses, Succeeds, Fails, AccessEnds, AccessesEnd, plan_requests}
use Rattle.dali_write.specs.Tries.{Stands, Wants, bytes_of}
use Rattle.dali_write.specs.Found.{StandsWith, read_by, found}
use Rattle.dali_write.specs.Stages.{plan_at, plan_of}
use Rattle.dali_write.specs.Told.{Told, aim_of, IsReadingBlock}
use Rattle.dali_write.proofs.AskLemmas.{shown_ask, ask_shown}
use Rattle.dali_write.proofs.RoomLemmas.{once}
use Rattle.dali_write.proofs.ToldLemmas.{told_wants}
use Rattle.dali_write.proofs.WalkLemmas.{ended_told}
use Rattle.dali_write.specs.Requests.{each_try}

-- one access with its outcome
record One (unit : ℕ) (block : Block) (verdict : Verdict) (bytes : List ℕ) (told : List Exchange) : Type 0 where
  outcome : Option (List ℕ)
  ends : Succeeds (each_try (block_requests unit block)) outcome told
      ⊎ Fails (each_try (block_requests unit block)) outcome told
  bytes_are : bytes ≡ read_by outcome
  so : next_plan (read_block block) outcome ≡ Finish verdict

one : (unit : ℕ) (block : Block) (verdict : Verdict) (told : List Exchange) (outcomes : List (Option (List ℕ)))
    (bytes : List ℕ)
    → AccessesEnd unit (read_block block) outcomes told → plan_after (read_block block) outcomes ≡ Finish verdict
    → bytes ≡ found outcomes → One unit block verdict bytes told
one unit block verdict told [] bytes ends so are = cc
one unit block verdict told (outcome ∷ []) bytes ends so are =
    record {
      outcome = outcome;
      ends = rw (ends.2, ends.4, append-nil ends.0) ends.3;
      bytes_are = are;
      so = so;
    }
one unit block verdict told (outcome ∷ before ∷ outcomes) bytes ends so are =
    absurd (subst (λ (p : Plan). AccessEnds unit p outcome ends.0) (once block before outcomes).1 ends.3)

ended_one : (unit : ℕ) (block : Block) (verdict : Verdict) (told : List Exchange) (now : Plan) (misses : ℕ)
    (left : List Request) (tried bytes : List ℕ) (cause : Option Cause)
    → StandsWith (ReadingBlock block) unit told now misses left tried bytes cause → shown_ask now left ≡ Ended verdict
    → One unit block verdict bytes told
ended_one unit block verdict told (Finish v) misses left tried bytes cause w ask =
    let s = w.stands in
    let same : v ≡ verdict = cc in
    let all = ended_told told s.tried s.missed s.ended left misses s.parts s.try s.misses_are in
    rw all (one unit block verdict s.ended w.outcomes bytes s.accesses (s.now_is ∙ ap Finish same) w.bytes_are)
ended_one unit block verdict told (Make access after) misses [] tried bytes cause w ask =
    let none = w.stands.going in cc
ended_one unit block verdict told (Make access after) misses (next ∷ left) tried bytes cause w ask = cc

told_one : (told : List Exchange) (s : Session) (unit : ℕ) (block : Block) (verdict : Verdict) → Told told s
    → IsReadingBlock unit block s → aim_of s ≡ Ended verdict → One unit block verdict s.bytes.items told
unfolding Told
told_one told s unit block verdict was (here, reading) ended =
    let now = plan_at s.task s.stage in
    let left = drop s.number (plan_requests s.unit now s.misses) in
    ended_one unit block verdict told now s.misses left s.tried.items s.bytes.items s.cause
    (subst (λ (task : Task). StandsWith task unit told now s.misses left s.tried.items s.bytes.items s.cause) reading
    (subst (λ (u : ℕ). StandsWith s.task u told now s.misses left s.tried.items s.bytes.items s.cause) here was))
    (ask_shown now left s.going ∙ ended)

-- what it wants
pub block_wants : (told : List Exchange) (s : Session) (unit : ℕ) (block : Block) → Told told s
    → IsReadingBlock unit block s → Wants unit (read_block block) told (aim_of s)
block_wants told s unit block was (here, reading) =
    subst (λ (task : Task). Wants unit (plan_of task) told (aim_of s)) reading
    (subst (λ (u : ℕ). Wants u (plan_of s.task) told (aim_of s)) here (told_wants told s was))

pub block_read : (told : List Exchange) (s : Session) (unit : ℕ) (block : Block) → Told told s
    → IsReadingBlock unit block s → aim_of s ≡ Ended Read
    → Succeeds (each_try (block_requests unit block)) (Some s.bytes.items) told
block_read told s unit block was reads ended =
    let o = told_one told s unit block Read was reads ended in by o.outcome o.ends o.bytes_are o.so
  where
    by : (outcome : Option (List ℕ))
        → Succeeds (each_try (block_requests unit block)) outcome told
        ⊎ Fails (each_try (block_requests unit block)) outcome told
        → s.bytes.items ≡ read_by outcome → next_plan (read_block block) outcome ≡ Finish Read
        → Succeeds (each_try (block_requests unit block)) (Some s.bytes.items) told
    by None ends are so = cc
    by (Some bytes) (inl done) are so = rw are done
    by (Some bytes) (inr failed) are so = let never = failed.0 in cc

pub block_silent : (told : List Exchange) (s : Session) (unit : ℕ) (block : Block) (verdict : Verdict) → Told told s
    → IsReadingBlock unit block s → aim_of s ≡ Ended verdict → verdict ≢ Read
    → Misses (each_try (block_requests unit block)) most_tries told
block_silent told s unit block verdict was reads ended other =
    let o = told_one told s unit block verdict was reads ended in by o.outcome o.ends o.so
  where
    by : (outcome : Option (List ℕ))
        → Succeeds (each_try (block_requests unit block)) outcome told
        ⊎ Fails (each_try (block_requests unit block)) outcome told
        → next_plan (read_block block) outcome ≡ Finish verdict
        → Misses (each_try (block_requests unit block)) most_tries told
    by None (inl done) so = let never = done.5 in cc
    by None (inr failed) so = failed.1
    by (Some bytes) ends so = let same : Read ≡ verdict = cc in absurd (other (sym same))

-- amid its way
wants_amid : (unit : ℕ) (block : Block) (told : List Exchange) (frame : Frame)
    → Wants unit (read_block block) told (Send frame) → IsAmid unit block told frame
wants_amid unit block told frame w = by w.outcomes w.now w.left w.stands
    (ask_shown w.now w.left w.stands.going ∙ w.ask_is)
  where
    by : (outcomes : List (Option (List ℕ))) (now : Plan) (left : List Request)
        → Stands unit (read_block block) outcomes told now w.misses left w.bytes → shown_ask now left ≡ Send frame
        → IsAmid unit block told frame
    by outcomes (Finish verdict) left s is = cc
    by outcomes (Make access after) [] s is = cc
    by [] (Make access after) (next ∷ left) s is =
        let requests : access_requests unit access ≡ each_try (block_requests unit block) =
        ap (λ (p : Plan). plan_requests unit p) (sym s.now_is) in
        record {
          tried = s.tried;
          missed = s.missed;
          misses = w.misses;
          next = next;
          left = left;
          parts = rw (s.accesses, append-nil s.missed) at s.parts;
          few = s.few;
          misses_are = rw requests at s.misses_are;
          try = rw requests at s.try;
          frame_is = cc;
        }
    by (outcome ∷ before) (Make access after) (next ∷ left) s is =
        let ended = once block outcome before in let both = sym ended.1 ∙ s.now_is in cc

pub block_amid : (told : List Exchange) (s : Session) (unit : ℕ) (block : Block) (frame : Frame) → Told told s
    → IsReadingBlock unit block s → aim_of s ≡ Send frame → IsAmid unit block told frame
block_amid told s unit block frame was reads wanted =
    wants_amid unit block told frame (rw (← wanted) (block_wants told s unit block was reads))

-- and so a session of a block wants that frame
pub amid_wants : (unit : ℕ) (block : Block) (told : List Exchange) (frame : Frame) → IsAmid unit block told frame
    → Wants unit (read_block block) told (Send frame)
amid_wants unit block told frame a =
    record {
      outcomes = [];
      now = read_block block;
      misses = a.misses;
      left = a.next ∷ a.left;
      bytes = bytes_of a.tried;
      stands = record {
        ended = [];
        missed = a.missed;
        tried = a.tried;
        parts = rw (append-nil a.missed) a.parts;
        accesses = refl;
        now_is = refl;
        few = a.few;
        misses_are = a.misses_are;
        try = a.try;
        bytes_are = refl;
        going = refl;
      };
      ask_is = ap Send a.frame_is;
    }
