-- The bytes that a reading session has read are those that bank 1 of its unit holds.
use Rattle.std.proofs.Common.{◌≡◌, ◌⊎◌, inl, inr, refl, sym, ap, subst, ◌∙◌, ℕ, zero, suc, ◌+◌, ◌<◌, ◌≤◌, min, List, []}
use Rattle.std.proofs.Common.{◌∷◌, ◌++◌, length, length-append, append-nil, get_or, drop, Option, Some, None, arith}
use Rattle.std.proofs.lemmas.Option.{slice_get-get_or}
use Rattle.std.proofs.lemmas.List.{get_or_append_left}
use Rattle.std.proofs.Math.Seq.{get_or-append_seam}
use Rattle.std.proofs.Math.Nat.{eq-or-lt_of_le}
use Rattle.dali_bus.specs.World.{World, Gear, byte_in, byte_at}
use Rattle.dali_write.specs.Exchanges.{Exchange}
use Rattle.dali_write.specs.declared.request.Request.{Request}
use Rattle.dali_write.specs.declared.ask.Cause.{Cause}
use Rattle.dali_write.specs.declared.session.Session.{Session}
use Rattle.dali_write.specs.declared.stage.Task.{Task}
use Rattle.dali_write.specs.declared.stage.Task.TheVariants.{Reading}
use Rattle.dali_write.specs.declared.ask.Verdict.TheVariants.{Silent, Read}
use Rattle.dali_write.specs.declared.ask.Ask.TheVariants.{Ended}
use Rattle.dali_write.specs.Plans.{Plan, Finish, Make, next_plan, plan_after, read_on, read_all}
use Rattle.dali_write.specs.Requests.{block}
use Rattle.dali_write.specs.Tries.{AccessEnds, AccessesEnd, plan_requests}
use Rattle.dali_write.proofs.AskLemmas.{shown_ask, ask_shown}
use Rattle.dali_write.specs.Found.{StandsWith, found, read_by}
use Rattle.dali_write.specs.Reads.{StillRead, ReadsBank}
use Rattle.dali_write.specs.Worlds.{Shows}
use Rattle.dali_bus.specs.Power.{MayRelock}
use Rattle.dali_write.specs.Verdicts.{ShowsBank}
use Rattle.dali_write.specs.Stages.{plan_at}
use Rattle.dali_write.specs.Told.{Told, aim_of}
use Rattle.dali_write.proofs.RestLemmas.{After, KeepsReads, split, shows_kept, read_access_shows, read_access_keeps}
use Rattle.dali_write.proofs.BlockOneLemmas.{access_tells_one}
use Rattle.dali_write.proofs.StillReadLemmas.{stands_true}
use Rattle.dali_write.proofs.WalkLemmas.{ended_told}
use Rattle.dali_write.proofs.RunLemmas.{Leads}
use Rattle.dali_bus.specs.Carry.{WorldStep}

-- each of the bytes came back at its location, and is still read
abbrev pub ReadsEach : List Exchange → ℕ → List ℕ → Type 0
ReadsEach told unit bytes =
    (location : ℕ) → location < length bytes → StillRead told unit location (get_or bytes location 0)

-- so far these bytes were read, of as many as the first one names
pub record ReadSoFar (plan : Plan) (bytes : List ℕ) (unit : ℕ) (told : List Exchange) : Type 0 where
  pub left : ℕ
  pub some : 1 ≤ length bytes
  pub plan_is : plan ≡ read_on (length bytes) left
  pub count : length bytes + left ≡ suc (min (get_or bytes 0 0) 0xFE)
  pub each : ReadsEach told unit bytes

-- nothing was read yet, some bytes were, or a read failed
abbrev pub Reached : Plan → List ℕ → ℕ → List Exchange → Type 0
Reached plan bytes unit told =
    ((plan ≡ read_all) × (bytes ≡ [])) ⊎ (ReadSoFar plan bytes unit told ⊎ (plan ≡ Finish Silent))

-- one more byte, after those that are still read
reads_more : (mid last : List Exchange) (unit byte : ℕ) (bytes : List ℕ) → ReadsEach mid unit bytes
    → KeepsReads mid last
    → StillRead last unit (length bytes) byte
    → ReadsEach last unit (bytes ++ byte ∷ [])
reads_more mid last unit byte bytes each keeps here location below =
    grind (arith, eq-or-lt_of_le, length-append, get_or-append_seam, get_or_append_left, shows_kept)

-- the first read, of location 00h
first_read : (unit : ℕ) (outcome : Option (List ℕ)) (newer mid last : List Exchange)
    → AccessEnds unit read_all outcome newer → After newer mid last
    → Reached (next_plan read_all outcome) (found (outcome ∷ [])) unit last
first_read unit None newer mid last ends run = inr (inr refl)
first_read unit (Some bytes) newer mid last ends run =
    let byte = get_or bytes 0 0 in
    subst (λ (l : List ℕ). Reached (read_on 1 (min byte 0xFE)) l unit last)
    (sym (access_tells_one unit 0 bytes newer ends)) (inr (inl (record {
      left = min byte 0xFE;
      some = omega arith;
      plan_is = refl;
      count = omega arith;
      each =
          reads_more mid last unit byte [] (λ location below. absurd (omega arith))
          (read_access_keeps unit (block 0 1) (Some bytes) newer mid last ends run)
          (read_access_shows unit 0 bytes newer mid last ends run);
    })))

-- a further read
next_read : (unit left : ℕ) (outcome : Option (List ℕ)) (bytes : List ℕ) (newer mid last : List Exchange)
    → 1 ≤ length bytes
    → length bytes + left ≡ suc (min (get_or bytes 0 0) 0xFE) → ReadsEach mid unit bytes
    → AccessEnds unit (read_on (length bytes) left) outcome newer → After newer mid last
    → Reached (next_plan (read_on (length bytes) left) outcome) (bytes ++ read_by outcome) unit last
next_read unit zero outcome bytes newer mid last some count each ends run = absurd ends
next_read unit (suc left) None bytes newer mid last some count each ends run = inr (inr refl)
next_read unit (suc left) (Some new) bytes newer mid last some count each ends run =
    let byte = get_or new 0 0 in
    let more : length (bytes ++ byte ∷ []) ≡ suc (length bytes) = omega (arith, length-append bytes (byte ∷ [])) in
    subst (λ (l : List ℕ). Reached (read_on (suc (length bytes)) left) (bytes ++ l) unit last)
    (sym (access_tells_one unit (length bytes) new newer ends)) (inr (inl (record {
      left = left;
      some = omega arith;
      plan_is = ap (λ (n : ℕ). read_on n left) (sym more);
      count = omega (arith, ap (λ (b : ℕ). min b 0xFE) (get_or_append_left bytes (byte ∷ []) 0 0 some));
      each =
          reads_more mid last unit byte bytes each
          (read_access_keeps unit (block (length bytes) 1) (Some new) newer mid last ends run)
          (read_access_shows unit (length bytes) new newer mid last ends run);
    })))

-- one more access, whatever came before it
access_reaches : (unit : ℕ) (plan : Plan) (outcomes : List (Option (List ℕ))) (outcome : Option (List ℕ))
    (newer mid last : List Exchange)
    → Reached plan (found outcomes) unit mid → AccessEnds unit plan outcome newer → After newer mid last
    → Reached (next_plan plan outcome) (found (outcome ∷ outcomes)) unit last
access_reaches unit plan outcomes outcome newer mid last (inl (is, none)) ends run = grind (arith, first_read)
access_reaches unit plan outcomes outcome newer mid last (inr (inl so_far)) ends run = grind (arith, next_read)
access_reaches unit plan outcomes outcome newer mid last (inr (inr is)) ends run = grind arith

pub accesses_reach : (unit : ℕ) (outcomes : List (Option (List ℕ))) (told : List Exchange)
    (first last : List Exchange)
    → AccessesEnd unit read_all outcomes told → After told first last
    → Reached (plan_after read_all outcomes) (found outcomes) unit last
accesses_reach unit [] told first last ends run = inl (refl, refl)
accesses_reach unit (outcome ∷ outcomes) told first last ends run =
    let parts = split ends.0 ends.1 first last (subst (λ (t : List Exchange). After t first last) ends.2 run) in
    access_reaches unit (plan_after read_all outcomes) outcomes outcome ends.0 parts.0 last
    (accesses_reach unit outcomes ends.1 first parts.0 ends.4 parts.1) ends.3 parts.2

-- if the plan has ended well, the bytes are all that were to be read
bank_read : (unit : ℕ) (bytes : List ℕ) (plan : Plan) (told : List Exchange) → Reached plan bytes unit told
    → plan ≡ Finish Read → ReadsBank told unit bytes
bank_read unit bytes plan told (inl (is, none)) ended = let never : read_all ≡ Finish Read = sym is ∙ ended in cc
bank_read unit bytes plan told (inr (inl so_far)) ended =
    by so_far.left so_far.count (sym so_far.plan_is ∙ ended)
  where
    by : (left : ℕ) → length bytes + left ≡ suc (min (get_or bytes 0 0) 0xFE)
        → read_on (length bytes) left ≡ Finish Read → ReadsBank told unit bytes
    by zero count over =
        record {
          last = get_or bytes 0 0;
          names = so_far.each 0 (omega (arith, so_far.some));
          count = omega (arith, count);
          bytes_are = λ location below.
              (get_or bytes location 0, slice_get-get_or bytes location 0 below, so_far.each location below);
        }
    by (suc left) count over = cc
bank_read unit bytes plan told (inr (inr is)) ended = let never : Finish Silent ≡ Finish Read = sym is ∙ ended in cc

ended_reads : (unit : ℕ) (told : List Exchange) (now : Plan) (misses : ℕ) (left : List Request)
    (tried bytes : List ℕ) (cause : Option Cause)
    → StandsWith Reading unit told now misses left tried bytes cause → shown_ask now left ≡ Ended Read
    → ReadsBank told unit bytes
ended_reads unit told (Finish v) misses left tried bytes cause s ask =
    let same : v ≡ Read = cc in
    let all =
    ended_told told s.stands.tried s.stands.missed s.stands.ended left misses s.stands.parts s.stands.try
    s.stands.misses_are in
    let reached =
    accesses_reach unit s.outcomes s.stands.ended [] told s.stands.accesses (all ∙ sym (append-nil s.stands.ended)) in
    rw s.bytes_are
    (bank_read unit (found s.outcomes) (plan_after read_all s.outcomes) told reached (s.stands.now_is ∙ ap Finish same))
ended_reads unit told (Make access after) misses [] tried bytes cause s ask = let none = s.stands.going in cc
ended_reads unit told (Make access after) misses (next ∷ left) tried bytes cause s ask = cc

pub bytes_are_read : (told : List Exchange) (s : Session) → Told told s → s.task ≡ Reading → aim_of s ≡ Ended Read
    → ReadsBank told s.unit s.bytes.items
unfolding Told
bytes_are_read told s was reading ended =
    let now = plan_at s.task s.stage in
    let left = drop s.number (plan_requests s.unit now s.misses) in
    ended_reads s.unit told now s.misses left s.tried.items s.bytes.items s.cause
    (subst (λ (task : Task). StandsWith task s.unit told now s.misses left s.tried.items s.bytes.items s.cause)
    reading was)
    (ask_shown now left s.going ∙ ended)

-- the byte that a unit shows is at its place, or it is the lock byte
byte_shown : {loses : ℕ → Type 0} (world : World) (unit location byte : ℕ) → Shows loses world unit location byte
    → MayRelock (loses unit) 1 location (Some byte) (byte_at world unit 1 location)
byte_shown {loses} world unit location byte shows =
    subst (λ (o : Option ℕ). MayRelock (loses unit) 1 location (Some byte) o)
    (sym (ap (λ (o : Option Gear). byte_in o 1 location) shows.is)) shows.byte_is

pub not_lock : {lost : Type 0} (location : ℕ) (old new : Option ℕ) → (location ≡ 2 → ⊥)
    → MayRelock lost 1 location old new → new ≡ old
not_lock location old new other (inl same) = same
not_lock location old new other (inr relocks) = absurd (other relocks.2)

pub bytes_are_true : {loses : ℕ → Type 0} (told : List Exchange) (s : Session) (first last : World) → Told told s
    → s.task ≡ Reading
    → aim_of s ≡ Ended Read → Leads WorldStep loses told first last
    → ShowsBank loses last s.unit s.bytes.items
bytes_are_true {loses} told s first last was reading ended run =
    let reads = bytes_are_read told s was reading ended in
    let shown : (location byte : ℕ) → StillRead told s.unit location byte
    → MayRelock (loses s.unit) 1 location (Some byte) (byte_at last s.unit 1 location) =
    λ location byte still.
    byte_shown last s.unit location byte (stands_true told first last s.unit location byte run still) in
    record {
      last = reads.last;
      names = not_lock 0 (Some reads.last) (byte_at last s.unit 1 0) (λ e. cc) (shown 0 reads.last reads.names);
      count = reads.count;
      bytes_are = λ location below.
          let byte = reads.bytes_are location below in
          subst (λ (o : Option ℕ). MayRelock (loses s.unit) 1 location o (byte_at last s.unit 1 location))
          (sym byte.1) (shown location byte.0 byte.2);
    }
