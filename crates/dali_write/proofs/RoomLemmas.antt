-- There is room for what a session that reads keeps.
use Rattle.std.proofs.Common.{◌≡◌, inl, inr, refl, sym, ap, subst, ◌∙◌, ℕ, zero, suc, ◌+◌, ◌≤◌, min, List, [], ◌∷◌}
use Rattle.std.proofs.Common.{◌++◌, append-nil, length, get_or, Option, Some, None, if◌then◌else◌, arith}
use Rattle.dali_frame.specs.declared.forward.Frame.{Frame}
use Rattle.dali_write.specs.Exchanges.{Exchange}
use Rattle.dali_write.specs.declared.request.Wish.{Wish}
use Rattle.dali_write.specs.declared.request.Request.{Request}
use Rattle.dali_write.specs.declared.block.Block.{Block}
use Rattle.dali_write.specs.declared.ask.Verdict.{Verdict}
use Rattle.dali_write.specs.declared.ask.Verdict.TheVariants.{Silent, Read}
use Rattle.dali_write.specs.declared.stage.Task.{Task}
use Rattle.dali_write.specs.declared.stage.Task.TheVariants.{Fresh, Opened, Closing, Reading, ReadingBlock}
use Rattle.dali_write.specs.Requests.{Meets, block, request, read_answer, read_requests}
use Rattle.dali_write.specs.Plans.{Plan, Finish, next_plan, plan_after, read_on, read_block}
use Rattle.dali_write.specs.Tries.{Trying, bytes_of, Stands, plan_requests}
use Rattle.dali_write.specs.Found.{found, keeps}
use Rattle.dali_write.specs.Stages.{plan_of}
use Rattle.dali_write.proofs.BlockBytesLemmas.{block_count}
use Rattle.dali_write.proofs.ReadLemmas.{Reached, accesses_reach}
use Rattle.dali_write.proofs.ShapeLemmas.{none_left}

-- what is kept of these accesses
abbrev pub kept_bytes : Task → List (Option (List ℕ)) → List ℕ
kept_bytes task outcomes = if keeps task then found outcomes else []

-- while a reading session reads one more byte, it has kept fewer than there can be
one_more : (unit : ℕ) (plan : Plan) (misses : ℕ) (bytes : List ℕ) (told tried : List Exchange) (frame : Frame)
    (wish : Wish)
    (answer : Option ℕ)
    → Reached plan bytes unit told → Trying (plan_requests unit plan misses) tried (request frame wish ∷ [])
    → Meets wish answer
    → length bytes + length (bytes_of tried ++ read_answer frame answer) ≤ 255
one_more unit plan misses bytes told tried frame wish answer (inl (is, none)) try meets =
    let all : List Exchange = record { frame = frame; answer = answer } ∷ tried in
    let whole : Trying (read_requests unit 0) all [] =
    (wish, meets, subst (λ (p : Plan). Trying (plan_requests unit p misses) tried (request frame wish ∷ [])) is try) in
    let count = block_count unit (block 0 1) (bytes_of all) all (whole, refl) in
    let empty = ap (λ (l : List ℕ). length l) none in
    omega arith
one_more unit plan misses bytes told tried frame wish answer (inr (inl so_far)) try meets =
    by so_far.left so_far.count
    (subst (λ (p : Plan). Trying (plan_requests unit p misses) tried (request frame wish ∷ [])) so_far.plan_is try)
  where
    by : (left : ℕ) → length bytes + left ≡ suc (min (get_or bytes 0 0) 0xFE)
        → Trying (plan_requests unit (read_on (length bytes) left) misses) tried (request frame wish ∷ [])
        → length bytes + length (bytes_of tried ++ read_answer frame answer) ≤ 255
    by zero count try = absurd (none_left tried (request frame wish) [] try)
    by (suc left) count try =
        let whole : Trying (read_requests unit (length bytes)) (record { frame = frame; answer = answer } ∷ tried) [] =
        (wish, meets, try) in
        let all : List Exchange = record { frame = frame; answer = answer } ∷ tried in
        let one = block_count unit (block (length bytes) 1) (bytes_of all) all (whole, refl) in
        omega arith
one_more unit plan misses bytes told tried frame wish answer (inr (inr is)) try meets = grind (arith, none_left)

-- a session of a block has one access
pub once : (block : Block) (outcome : Option (List ℕ)) (outcomes : List (Option (List ℕ)))
    → (verdict : Verdict) × (plan_after (read_block block) (outcome ∷ outcomes) ≡ Finish verdict)
once block None [] = (Silent, refl)
once block (Some bytes) [] = (Read, refl)
once block outcome (before ∷ outcomes) =
    let ended = once block before outcomes in
    (ended.0, ap (λ (p : Plan). next_plan p outcome) ended.1)

no_more : (unit misses : ℕ) (block : Block) (outcomes : List (Option (List ℕ))) (tried : List Exchange) (next : Request)
    → Trying (plan_requests unit (plan_after (read_block block) outcomes) misses) tried (next ∷ []) → outcomes ≡ []
no_more unit misses block [] tried next try = refl
no_more unit misses block (outcome ∷ outcomes) tried next try = grind (arith, none_left, once block outcome outcomes)

pub has_room : (task : Task) (unit : ℕ) (told : List Exchange) (outcomes : List (Option (List ℕ))) (now : Plan)
    (misses : ℕ) (tried bytes : List ℕ) (frame : Frame) (answer : Option ℕ) (wish : Wish)
    → Stands unit (plan_of task) outcomes told now misses (request frame wish ∷ []) tried → Meets wish answer
    → length (tried ++ read_answer frame answer) ≤ 22 → bytes ≡ kept_bytes task outcomes
    → length bytes + length (tried ++ read_answer frame answer) ≤ 255
has_room Reading unit told outcomes now misses tried bytes frame answer wish s meets few are =
    let reached =
    accesses_reach unit outcomes s.ended [] s.ended s.accesses (sym (append-nil s.ended)) in
    let try = subst (λ (p : Plan). Trying (plan_requests unit p misses) s.tried (request frame wish ∷ []))
    (sym s.now_is) s.try in
    rw (are, ← s.bytes_are)
    (one_more unit _ misses (found outcomes) s.ended s.tried frame wish answer reached try meets)
has_room (ReadingBlock block) unit told outcomes now misses tried bytes frame answer wish s meets few are =
    let try = subst (λ (p : Plan). Trying (plan_requests unit p misses) s.tried (request frame wish ∷ []))
    (sym s.now_is) s.try in
    let none = no_more unit misses block outcomes s.tried (request frame wish) try in
    let empty = ap (λ (l : List ℕ). length l) (are ∙ ap found none) in
    omega arith
has_room (Fresh order pace) unit told outcomes now misses tried bytes frame answer wish s meets few are = grind arith
has_room (Opened order pace) unit told outcomes now misses tried bytes frame answer wish s meets few are = grind arith
has_room Closing unit told outcomes now misses tried bytes frame answer wish s meets few are = grind arith
