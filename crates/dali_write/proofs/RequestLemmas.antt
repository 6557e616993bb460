-- The requests that are left of a try, and the plan that has none.
use Rattle.std.proofs.Common.{subst, ◌≡◌, refl, ap, ℕ, zero, suc, ◌+◌, ◌-◌, ◌<◌, ◌≤◌, List, [], ◌∷◌, length, drop}
use Rattle.std.proofs.Common.{Option, Some, None, Ok, Err, is_some, false, slice_get, add-one, drop-cons, arith}
use Rattle.std.proofs.lemmas.List.{drop_all}
use Rattle.dali_write.specs.declared.request.Request.{Request}
use Rattle.dali_write.specs.declared.access.Access.{Access}
use Rattle.dali_write.specs.declared.ask.Verdict.{Verdict}
use Rattle.dali_write.specs.declared.ask.Verdict.TheVariants.{Silent, Read}
use Rattle.dali_write.specs.declared.ask.Ask.TheVariants.{Send, Ended}
use Rattle.dali_write.specs.Requests.{access_requests}
use Rattle.dali_write.specs.Plans.{Plan, Finish, Make, write_on, read_back, read_on, next_plan, give_up}
use Rattle.dali_write.specs.Plans.{read_all_back, row_before, rows_of, read_backs, most_again, updates_in, pieces_of}
use Rattle.dali_write.specs.Plans.{expect_all}
use Rattle.dali_write.specs.Stages.{go_again}
use Rattle.dali_write.specs.Counts.{rows_frames}
use Rattle.dali_write.proofs.RowLemmas.{bytes_in, few_in, row_updates, taken_count}
use Rattle.std.proofs.Common.{take, length-drop, length-take}
use Rattle.std.proofs.lemmas.List.{drop-take}
use Rattle.std.proofs.lemmas.Bool.{ltb-true, ltb-false, lt-ltb}
use Rattle.dali_bus.specs.Hears.{up}
use Rattle.std.proofs.Common.{Bool, true, false, ◌==◌, ◌&&◌, sym, ◌∙◌}
use Rattle.std.specs.Prelude.{nat_lt, if◌then◌else◌}
use Rattle.std.proofs.lemmas.List.{drop-drop}
use Rattle.dali_write.specs.Tries.{plan_requests, IsGoing, ask_at}
use Rattle.dali_frame.specs.declared.forward.Frame.{Frame}
use Rattle.dali_write.proofs.AskLemmas.{ask_shown}
use Rattle.dali_write.specs.Stages.{access_of, written_before}
use Rattle.dali_write.specs.declared.pace.Pace.{Pace}
use Rattle.dali_write.specs.Requests.{block}
use Rattle.dali_write.proofs.BlockShapeLemmas.{block_frames_are}
use Rattle.std.specs.Str.{bytes_eq}

pub drop_at : (requests : List Request) (i : ℕ) (x : Request) → slice_get requests i ≡ Some x
    → drop i requests ≡ x ∷ drop (suc i) requests
drop_at [] i x e = cc
drop_at (y ∷ ys) zero x e = let same : y ≡ x = cc in ap (λ (z : Request). z ∷ ys) same
drop_at (y ∷ ys) (suc i) x e = drop_at ys i x e

pub drop_end : (requests : List Request) (i : ℕ) → slice_get requests i ≡ None → drop i requests ≡ []
drop_end [] zero e = refl
drop_end [] (suc i) e = refl
drop_end (y ∷ ys) zero e = cc
drop_end (y ∷ ys) (suc i) e = drop_end ys i e

pub wants_request : (unit : ℕ) (plan : Plan) (misses number : ℕ) (access : Access) (request : Request)
    → access_of plan ≡ Ok access
    → slice_get (access_requests unit access misses) number ≡ Some request
    → (going : IsGoing plan (drop number (plan_requests unit plan misses)))
    → ask_at plan (drop number (plan_requests unit plan misses)) going ≡ Send request.frame
wants_request unit (Finish verdict) misses number access request is at going = cc
wants_request unit (Make s after) misses number access request is at going = grind (arith, ask_shown, drop_at)

pub wants_nothing : (plan : Plan) (left : List Request) (verdict : Verdict) → access_of plan ≡ Err verdict
    → (going : IsGoing plan left)
    → ask_at plan left going ≡ Ended verdict
wants_nothing (Finish ended) left verdict is going = let same : ended ≡ verdict = cc in ap Ended same
wants_nothing (Make access after) left verdict is going = cc

-- while an access is at hand, a frame of it is next
pub next_there : (unit : ℕ) (plan : Plan) (misses number : ℕ) (access : Access) → access_of plan ≡ Ok access
    → slice_get (access_requests unit access misses) number ≡ None
    → IsGoing plan (drop number (plan_requests unit plan misses)) → ⊥
next_there unit (Finish verdict) misses number access is none going = cc
next_there unit (Make s after) misses number access is none going = grind (arith, drop_end)

-- if no frame is at hand, none is sent
pub none_sent : (unit : ℕ) (plan : Plan) (misses number : ℕ) (frame : Frame)
    → slice_get (plan_requests unit plan misses) number ≡ None
    → (going : IsGoing plan (drop number (plan_requests unit plan misses)))
    → ask_at plan (drop number (plan_requests unit plan misses)) going ≡ Send frame → ⊥
none_sent unit (Finish verdict) misses number frame none going asks = cc
none_sent unit (Make s after) misses number frame none going asks =
    next_there unit (Make s after) misses number s refl none going

-- one more location to read
pub read_on_next : (location last : ℕ) (bytes : List ℕ) → location < last
    → read_on (location + 1) (suc last - (location + 1)) ≡ next_plan (read_on location (suc last - location))
    (Some bytes)
read_on_next location last bytes below =
    let one : suc last - location ≡ suc (last - location) = omega arith in
    let two : suc last - (location + 1) ≡ last - location = omega arith in
    let next : location + 1 ≡ suc location = omega arith in
    rw (one, two, next) refl

-- the last one was read, and no more are left
pub read_on_over : (location last : ℕ) (bytes : List ℕ) → last ≤ location
    → Finish Read ≡ next_plan (read_on location (suc last - location)) (Some bytes)
read_on_over location last bytes over = grind arith

pub read_on_silent : (location last : ℕ) → location ≤ last
    → Finish Silent ≡ next_plan (read_on location (suc last - location)) None
read_on_silent location last below = grind arith

-- one more update to write
pub write_on_next : (pace : Pace) (updates : List (ℕ × ℕ)) (index : ℕ) (bytes : List ℕ) → index < length updates
    → write_on pace updates (written_before updates (index + 1)) (drop (index + 1) updates)
    ≡ next_plan (write_on pace updates (written_before updates index) (drop index updates)) (Some bytes)
write_on_next pace updates index bytes below = rw (drop-cons updates index (0, 0), add-one) refl

pub write_on_over : (pace : Pace) (updates : List (ℕ × ℕ)) (index : ℕ) (bytes : List ℕ) → length updates ≤ index
    → read_all_back pace updates
    ≡ next_plan (write_on pace updates (written_before updates index) (drop index updates)) (Some bytes)
write_on_over pace updates index bytes over = rw (drop_all index updates over) refl

pub write_on_failed : (pace : Pace) (updates : List (ℕ × ℕ)) (before : ℕ) (left : List (ℕ × ℕ))
    → give_up ≡ next_plan (write_on pace updates before left) None
write_on_failed pace updates before [] = refl
write_on_failed pace updates before (update ∷ left) = refl

pub read_back_over : (most : ℕ) (updates : List (ℕ × ℕ)) (index : ℕ) (outcome : Option (List ℕ))
    → suc (length updates) ≤ index
    → read_back (rows_of most (drop index (read_backs updates)))
    ≡ next_plan (read_back (rows_of most (drop index (read_backs updates)))) outcome
read_back_over most updates index outcome over = rw (drop_all index (read_backs updates) over) refl

-- if none is left of a row that is read again
pub piece_over : (updates : List (ℕ × ℕ)) (index left : ℕ) (after : Plan) (outcome : Option (List ℕ))
    → take left (drop index (read_backs updates)) ≡ []
    → go_again (rows_of most_again (take left (drop index (read_backs updates)))) after
    ≡ next_plan (go_again (rows_of most_again (take left (drop index (read_backs updates)))) after) outcome
piece_over updates index left after outcome none = rw none refl

-- the first row is there
row_is : (most : ℕ) (own : ℕ × ℕ) (behind : List (ℕ × ℕ))
    → (row : ℕ × List ℕ) × (rows : List (ℕ × List ℕ)) × (rows_of most (own ∷ behind) ≡ row ∷ rows)
row_is most own behind = by (rows_of most behind) where
  by : (some : List (ℕ × List ℕ))
      → (row : ℕ × List ℕ) × (rows : List (ℕ × List ℕ)) × (row_before most own some ≡ row ∷ rows)
  by [] = ((own.0, own.1 ∷ []), [], refl)
  by (row ∷ more) = either ((row.0 == up own.0) && nat_lt (length row.1) most)
    where
      either : (b : Bool)
          → (one : ℕ × List ℕ) × (rows : List (ℕ × List ℕ))
          × ((if b then (own.0, own.1 ∷ row.1) ∷ more else (own.0, own.1 ∷ []) ∷ row ∷ more) ≡ one ∷ rows)
      either true = ((own.0, own.1 ∷ row.1), more, refl)
      either false = ((own.0, own.1 ∷ []), row ∷ more, refl)

pub again_is : (most : ℕ) (own : ℕ × ℕ) (behind : List (ℕ × ℕ)) (after : Plan)
    → go_again (rows_of most (own ∷ behind)) after ≡ expect_all (rows_of most (own ∷ behind)) after
again_is most own behind after = let is = row_is most own behind in rw is.2 refl

-- a piece that fails
pub piece_failed : (most : ℕ) (own : ℕ × ℕ) (behind some : List (ℕ × ℕ)) (after : Plan) → some ≡ own ∷ behind
    → give_up ≡ next_plan (go_again (rows_of most some) after) None
piece_failed most own behind some after is =
    let row = row_is most own behind in rw (is, row.2) refl

-- the updates after one
pub behind_others : (updates behind : List (ℕ × ℕ)) (own : ℕ × ℕ) (index others : ℕ) → drop index updates ≡ own ∷ behind
    → drop (index + 1 + others) updates ≡ drop others behind
behind_others updates behind own index others is =
    let one : drop (suc zero) (drop index updates) ≡ behind = rw is refl in
    sym (drop-drop others (index + 1) updates)
    ∙ ap (λ (l : List (ℕ × ℕ)). drop others l) (sym (drop-drop 1 index updates) ∙ one)

pub not_some : (o : Option Request) → ((x : Request) → o ≡ Some x → ⊥) → o ≡ None
not_some None never = refl
not_some (Some x) never = absurd (never x refl)

pub none_of : (o : Option Request) → is_some o ≡ false → o ≡ None
none_of None e = refl
none_of (Some x) e = cc

-- the rows begin with this one
abbrev BeginsWith : (ℕ × ℕ) → List (ℕ × ℕ) → List (ℕ × ℕ) → List ℕ → ℕ → Type 0
BeginsWith own behind left row most = rows_of most (own ∷ behind) ≡ (own.0, row) ∷ rows_of most left

-- the first row was read back: the others are next; else it is as if the read had failed
pub row_told : (some most : ℕ) (own : ℕ × ℕ) (behind left : List (ℕ × ℕ)) (row read : List ℕ) → some ≡ most
    → BeginsWith own behind left row some → bytes_eq read row ≡ true
    → read_back (rows_of most left) ≡ next_plan (read_back (rows_of most (own ∷ behind))) (Some read)
row_told some most own behind left row read same are held =
    rw (subst (BeginsWith own behind left row) same are, held) refl

pub piece_told : (most : ℕ) (own : ℕ × ℕ) (behind left : List (ℕ × ℕ)) (row read : List ℕ) (after : Plan)
    → BeginsWith own behind left row most → bytes_eq read row ≡ true
    → expect_all (rows_of most left) after ≡ next_plan (go_again (rows_of most (own ∷ behind)) after) (Some read)
piece_told most own behind left row read after are held = rw (are, held) refl

pub piece_other : (most : ℕ) (own : ℕ × ℕ) (behind left : List (ℕ × ℕ)) (row read : List ℕ) (after : Plan)
    → BeginsWith own behind left row most → bytes_eq read row ≡ false
    → give_up ≡ next_plan (go_again (rows_of most (own ∷ behind)) after) (Some read)
piece_other most own behind left row read after are other = rw (are, other) refl

pub piece_frames : (unit most : ℕ) (own : ℕ × ℕ) (behind left : List (ℕ × ℕ)) (row : List ℕ) (after : Plan)
    → BeginsWith own behind left row most
    → length (plan_requests unit (go_again (rows_of most (own ∷ behind)) after) 1) + rows_frames (rows_of most left)
    ≡ rows_frames (rows_of most (own ∷ behind))
piece_frames unit most own behind left row after are =
    rw are
    (omega (arith, block_frames_are unit (block own.0 (length row)), block_frames_are 0 (block 0 (length row))))

-- more of the pieces are left
pub piece_next : (updates within : List (ℕ × ℕ)) (own : ℕ × ℕ) (index left others : ℕ)
    → take left (drop index updates) ≡ own ∷ within → others < length within
    → take (left - 1 - others) (drop (index + 1 + others) updates) ≡ drop others within
piece_next updates within own index left others is below =
    let count : length within < left =
    let all = ap (λ (l : List (ℕ × ℕ)). length l) is in omega (arith, length-take left (drop index updates)) in
    let sum : suc others + (left - 1 - others) ≡ left = omega arith in
    let part = drop-take (suc others) (left - 1 - others) (drop index updates) in
    let place : index + 1 + others ≡ index + suc others = omega arith in
    ap (λ (at : ℕ). take (left - 1 - others) (drop at updates)) place
    ∙ ap (λ (l : List (ℕ × ℕ)). take (left - 1 - others) l) (sym (drop-drop (suc others) index updates))
    ∙ sym part ∙ rw (sum, is) refl

-- none is left
pub piece_last : (most : ℕ) (updates within : List (ℕ × ℕ)) (own : ℕ × ℕ) (index left others : ℕ)
    → take left (drop index updates) ≡ own ∷ within → length within ≤ others → others ≤ length within
    → drop (index + 1 + others) updates ≡ drop (index + left) updates
piece_last most updates within own index left others is over le =
    let all = ap (λ (l : List (ℕ × ℕ)). length l) is in
    let taken = length-take left (drop index updates) in
    let dropped = length-drop index updates in
    by (nat_lt (length updates) (index + left)) refl
  where
    by : (b : Bool) → nat_lt (length updates) (index + left) ≡ b
        → drop (index + 1 + others) updates ≡ drop (index + left) updates
    by true past =
        let beyond = ltb-true (length updates) (index + left) past in
        let all = ap (λ (l : List (ℕ × ℕ)). length l) is in
        drop_all (index + 1 + others) updates
        (omega (arith, length-take left (drop index updates), length-drop index updates))
        ∙ sym (drop_all (index + left) updates (omega arith))
    by false before =
        let within_it = ltb-false (length updates) (index + left) before in
        let all = ap (λ (l : List (ℕ × ℕ)). length l) is in
        let same : index + 1 + others ≡ index + left =
        omega (arith, length-take left (drop index updates), length-drop index updates) in
        ap (λ (at : ℕ). drop at updates) same

-- a row that failed: with few locations the session gives up, and with more it reads the row again
pub failed_few : (most index others : ℕ) (updates behind : List (ℕ × ℕ)) (own : ℕ × ℕ)
    → drop index updates ≡ own ∷ behind → others < 3
    → BeginsWith own behind (drop others behind) (own.1 ∷ bytes_in (take others behind)) most
    → give_up ≡ next_plan (read_back (rows_of most (drop index updates))) None
failed_few most index others updates behind own is few are = rw (is, are) (by (nat_lt 3 count) refl) where
  count : ℕ
  count = suc (length (bytes_in (take others behind)))

  by : (b : Bool) → nat_lt 3 count ≡ b
      → give_up
      ≡ (if b then expect_all (pieces_of own.0 (own.1 ∷ bytes_in (take others behind)))
      (read_back (rows_of most (drop others behind))) else give_up)
  by true less = absurd (omega (arith, ltb-true 3 count less, few_in others behind))
  by false other = refl

pub failed_again : (most index others : ℕ) (updates behind : List (ℕ × ℕ)) (own : ℕ × ℕ)
    → drop index updates ≡ own ∷ behind → 3 ≤ others → others ≤ length behind
    → BeginsWith own behind (drop others behind) (own.1 ∷ bytes_in (take others behind)) most
    → go_again (rows_of most_again (take (1 + others) (drop index updates)))
    (read_back (rows_of most (drop (index + (1 + others)) updates)))
    ≡ next_plan (read_back (rows_of most (drop index updates))) None
failed_again most index others updates behind own is some le are =
    let row = own.1 ∷ bytes_in (take others behind) in
    let long : length row ≡ 1 + others = omega (arith, taken_count others behind le) in
    let mine : own ∷ take others behind ≡ updates_in own.0 row =
    let all = row_updates most own behind (drop others behind) row are in
    subst (λ (n : ℕ). take n (own ∷ behind) ≡ updates_in own.0 row) (ap suc (taken_count others behind le)) all in
    let later : drop (index + (1 + others)) updates ≡ drop others behind =
    subst (λ (n : ℕ). drop n updates ≡ drop others behind)
    (let same : index + 1 + others ≡ index + (1 + others) = omega arith in same)
    (behind_others updates behind own index others is) in
    let greater : nat_lt 3 (length row) ≡ true = lt-ltb 3 (length row) (omega (arith, taken_count others behind le)) in
    let left = read_back (rows_of most (drop others behind)) in
    let one_more : 1 + others ≡ suc others = omega arith in
    let taken : take (1 + others) (drop index updates) ≡ own ∷ take others behind = rw (is, one_more) refl in
    let one : go_again (rows_of most_again (take (1 + others) (drop index updates)))
    (read_back (rows_of most (drop (index + (1 + others)) updates)))
    ≡ expect_all (pieces_of own.0 row) left =
    rw (taken, later) (again_is most_again own (take others behind) left
    ∙ ap (λ (l : List (ℕ × ℕ)). expect_all (rows_of most_again l) left) mine) in
    let two : next_plan (read_back (rows_of most (drop index updates))) None ≡ expect_all (pieces_of own.0 row) left =
    rw (is, are, greater) refl in
    one ∙ sym two

pub row_other : (some most : ℕ) (own : ℕ × ℕ) (behind left : List (ℕ × ℕ)) (row read : List ℕ) → some ≡ most
    → BeginsWith own behind left row some → bytes_eq read row ≡ false
    → next_plan (read_back (rows_of most (own ∷ behind))) None
    ≡ next_plan (read_back (rows_of most (own ∷ behind))) (Some read)
row_other some most own behind left row read same are other =
    rw (subst (BeginsWith own behind left row) same are, other) refl

pub row_requests : (unit some most : ℕ) (own : ℕ × ℕ) (behind left : List (ℕ × ℕ)) (row : List ℕ) → some ≡ most
    → BeginsWith own behind left row some
    → length (plan_requests unit (read_back (rows_of most (own ∷ behind))) 1) ≤ length row + 6
row_requests unit some most own behind left row same are =
    rw (subst (BeginsWith own behind left row) same are)
    (omega (arith, block_frames_are unit (block own.0 (length row))))
