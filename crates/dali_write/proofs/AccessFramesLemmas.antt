-- How many frames the accesses of a walk take, one that succeeded and those after it.
use Rattle.std.proofs.Common.{◌∙◌, suc, zero, ◌-◌, ◌≡◌, inl, inr, ap, ℕ, ◌+◌, ◌*◌, ◌≤◌, Bool, true, false, List}
use Rattle.std.proofs.Common.{[], ◌∷◌, length, length-append, Option, Some, arith}
use Rattle.std.proofs.lemmas.Nat.{mul-le}
use Rattle.dali_write.specs.Exchanges.{Exchange}
use Rattle.dali_write.specs.declared.access.Access.{Access}
use Rattle.dali_write.specs.declared.access.Access.TheVariants.{ReadFrom, WriteTo}
use Rattle.dali_write.specs.Requests.{block, put_requests, write_requests, access_requests}
use Rattle.dali_write.specs.Frames.{miss_frames, other_frames}
use Rattle.dali_bus.specs.Hears.{up}
use Rattle.std.specs.Prelude.{◌==◌}
use Rattle.dali_write.specs.Plans.{Plan, Make}
use Rattle.dali_write.specs.Tries.{AccessEnds}
use Rattle.dali_write.specs.Walks.{Walk, access_misses, misses_of}
use Rattle.dali_write.proofs.ShapeLemmas.{trying_length}
use Rattle.dali_write.proofs.CountLemmas.{misses_length}
use Rattle.dali_write.specs.declared.pace.Pace.{Pace}
use Rattle.dali_write.specs.declared.pace.Pace.TheVariants.{Checked, Short}
use Rattle.dali_write.specs.Plans.{Make, most_of, write_next}
use Rattle.dali_write.proofs.CountLemmas.{longest}
use Rattle.dali_write.proofs.BlockShapeLemmas.{block_frames_are}

-- the frames of a walk: `frames`, and `more` of them
pub record Frames (pace : Pace) (unit : ℕ) (plan : Plan) (outcomes : List (Option (List ℕ))) (told : List Exchange)
    (end : Plan) (walk : Walk unit plan outcomes told end) (frames others : ℕ) : Type 0 where
  pub more : ℕ
  pub took : length told ≡ frames + more
  pub few : more ≤ miss_frames pace * misses_of unit plan outcomes told end walk + other_frames pace * others

-- The first try is the shortest, and one after a miss the longest. The excess of the latter over the former, together
-- with the frames of the latter, is no more than a miss may take.
abbrev pub IsShort : Pace → Access → Type 0
IsShort pace access =
    (unit misses : ℕ)
    → (length (access_requests unit access 0) ≤ length (access_requests unit access misses))
    × (2 * length (access_requests unit access 1) ≤ miss_frames pace + length (access_requests unit access 0))

pub short_to : (pace : Pace) (location byte : ℕ) → IsShort pace (WriteTo location byte)
short_to Checked location byte unit misses = (omega arith, omega arith)
short_to Short location byte unit misses = (omega arith, omega arith)

pub short_next : (pace : Pace) (before location byte : ℕ) → IsShort pace (write_next pace before location byte)
short_next Checked before location byte unit misses = (omega arith, omega arith)
short_next Short before location byte unit zero = by (up before == location) where
  by : (moved : Bool)
      → (length (put_requests moved unit location byte) ≤ length (put_requests moved unit location byte))
      × (2 * length (write_requests unit location byte)
      ≤ miss_frames Short + length (put_requests moved unit location byte))
  by true = (omega arith, omega arith)
  by false = (omega arith, omega arith)
short_next Short before location byte unit (suc misses) = by (up before == location) where
  by : (moved : Bool)
      → (length (put_requests moved unit location byte) ≤ length (write_requests unit location byte))
      × (2 * length (write_requests unit location byte)
      ≤ miss_frames Short + length (put_requests moved unit location byte))
  by true = (omega arith, omega arith)
  by false = (omega arith, omega arith)

pub short_row : (pace : Pace) (location count : ℕ) → count ≤ most_of pace
    → IsShort pace (ReadFrom (block location count))
short_row Checked location count few unit misses =
    (omega arith, omega (arith, block_frames_are unit (block location count)))
short_row Short location count few unit misses =
    (omega arith, omega (arith, block_frames_are unit (block location count)))

-- an access that succeeded
access_frames : (pace : Pace) (unit : ℕ) (access : Access) (after : Option (List ℕ) → Plan) (bytes : List ℕ)
    (told : List Exchange)
    → IsShort pace access
    → (ends : AccessEnds unit (Make access after) (Some bytes) told)
    → (more : ℕ) × (length told ≡ length (access_requests unit access 0) + more)
    × (more ≤ miss_frames pace * access_misses unit (Make access after) (Some bytes) told ends)
access_frames pace unit access after bytes told short (inl done) =
    let whole = trying_length (access_requests unit access done.2) done.0 [] done.4 in
    let older = misses_length (access_requests unit access) done.2 done.1 (longest unit access) done.7 in
    let both = ap (λ (t : List Exchange). length t) done.3 in
    let joined = length-append done.0 done.1 in
    let least = (short unit done.2).0 in (
      length told - length (access_requests unit access 0),
      omega arith,
      rw (both ∙ joined) (by done.2 (length done.0) (length done.1) (omega arith) older),
    )
  where
    first : ℕ
    first = length (access_requests unit access 0)

    long : ℕ
    long = length (access_requests unit access 1)

    by : (misses newer older : ℕ) → newer ≡ length (access_requests unit access misses) → older ≤ misses * long
        → newer + older - first ≤ miss_frames pace * misses
    by zero newer older is few = omega arith
    by (suc misses) newer older is few =
        let most = (short unit 0).1 in
        let longer = longest unit access (suc misses) in
        let each : misses * long ≤ misses * miss_frames pace =
        mul-le misses long misses (miss_frames pace) (omega arith) (omega (arith, longest unit access 0)) in
        omega arith
access_frames pace unit access after bytes told short (inr failed) = let never = failed.0 in cc

-- an access, and the accesses after it
pub and_rest : (pace : Pace) (unit : ℕ) (access : Access) (after : Option (List ℕ) → Plan) (outcome : Option (List ℕ))
    (outcomes : List (Option (List ℕ)))
    (told : List Exchange) (end : Plan)
    (walk : Walk unit (Make access after) (outcome ∷ outcomes) told end) (here frames all others : ℕ)
    → (more : ℕ) × (length walk.1 ≡ here + more)
    × (more ≤ miss_frames pace * access_misses unit (Make access after) outcome walk.1 walk.3)
    → here + frames ≡ all
    → Frames pace unit (after outcome) outcomes walk.0 end walk.4 frames others
    → Frames pace unit (Make access after) (outcome ∷ outcomes) told end walk all others
and_rest Checked unit access after outcome outcomes told end walk length_here frames all others here sum rest =
    let both = ap (λ (t : List Exchange). length t) walk.2 in
    let joined = length-append walk.0 walk.1 in
    record { more = here.0 + rest.more; took = omega (arith, here.1, rest.took); few = omega (arith, here.2, rest.few) }
and_rest Short unit access after outcome outcomes told end walk length_here frames all others here sum rest =
    let both = ap (λ (t : List Exchange). length t) walk.2 in
    let joined = length-append walk.0 walk.1 in
    record { more = here.0 + rest.more; took = omega (arith, here.1, rest.took); few = omega (arith, here.2, rest.few) }

-- an access that succeeded, and the accesses after it
pub access_first : (pace : Pace) (unit : ℕ) (access : Access) (after : Option (List ℕ) → Plan) (bytes : List ℕ)
    (outcomes : List (Option (List ℕ))) (told : List Exchange) (end : Plan)
    (walk : Walk unit (Make access after) (Some bytes ∷ outcomes) told end) (frames all others : ℕ)
    → IsShort pace access → length (access_requests unit access 0) + frames ≡ all
    → Frames pace unit (after (Some bytes)) outcomes walk.0 end walk.4 frames others
    → Frames pace unit (Make access after) (Some bytes ∷ outcomes) told end walk all others
access_first pace unit access after bytes outcomes told end walk frames all others short sum rest =
    and_rest pace unit access after (Some bytes) outcomes told end walk (length (access_requests unit access 0)) frames
    all others (access_frames pace unit access after bytes walk.1 short walk.3) sum rest

pub least_most : (pace : Pace) → 1 ≤ most_of pace
least_most Checked = omega arith
least_most Short = omega arith
