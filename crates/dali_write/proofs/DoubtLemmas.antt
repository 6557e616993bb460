-- A session ends in doubt only because an access failed, or because a read found another byte.
use Rattle.std.proofs.Common.{length, ◌≡◌, ◌≢◌, ◌⊎◌, inl, inr, refl, sym, ap, subst, ◌∙◌, ℕ, suc, Bool, true, false}
use Rattle.std.proofs.Common.{if◌then◌else◌, List, [], ◌∷◌, ◌++◌, append_assoc, append-nil, Option, Some, None, arith}
use Rattle.std.specs.List.{Contains}
use Rattle.dali_write.specs.Exchanges.{Exchange}
use Rattle.dali_write.specs.declared.access.Access.{Access}
use Rattle.dali_write.specs.declared.access.Access.TheVariants.{ReadFrom, WriteTo}
use Rattle.dali_write.specs.declared.ask.Verdict.TheVariants.{Doubt}
use Rattle.dali_write.specs.declared.ask.Ask.TheVariants.{Ended}
use Rattle.dali_write.specs.Requests.{block}
use Rattle.dali_write.specs.Plans.{Plan, Finish, Make, either_way, give_up, expect, read_back, write_on}
use Rattle.dali_write.specs.Plans.{unlock}
use Rattle.dali_write.specs.Tries.{Wants}
use Rattle.dali_write.specs.Walks.{Walk}
use Rattle.dali_write.specs.Doubts.{HasFailed, FailedForGood, FoundAnother}
use Rattle.dali_write.proofs.WalkLemmas.{ended_walk, was_answered}
use Rattle.dali_write.proofs.GiveUpLemmas.{all_missed}
use Rattle.dali_write.proofs.MissLemmas.{Behind, apt_then, turn_next, behind_none}
use Rattle.dali_write.specs.Misses.{IsApt}
use Rattle.dali_write.specs.Plans.{IsInTurn}
use Rattle.dali_write.specs.declared.pace.Pace.{Pace}
use Rattle.dali_write.specs.Plans.{rows_of, most_of, read_backs, read_all_back, write_next}
use Rattle.std.specs.Str.{bytes_eq}
use Rattle.dali_write.specs.Plans.{read_again, most_once, pieces_of, expect_all, all_rows}
use Rattle.std.proofs.lemmas.Slice.Eq.{bytes_eq-Decides}
use Rattle.dali_write.specs.Requests.{access_requests}
use Rattle.std.proofs.lemmas.List.Elements.{Contains-append_left, Contains-append_right}
use Rattle.std.proofs.lemmas.Bool.{ltb-false}
use Rattle.std.proofs.Common.{◌≤◌, nat_lt}
use Rattle.dali_write.proofs.RowLemmas.{Small, pieces_small}

-- why a session ended in doubt
abbrev Cause : ℕ → Plan → List (ℕ × List ℕ) → List Exchange → Type 0
Cause unit plan expected told = FailedForGood unit plan told ⊎ FoundAnother unit plan expected told

-- each walk of the plan that ended in doubt has a cause
abbrev HasCause : ℕ → Plan → List (ℕ × List ℕ) → Type 0
HasCause unit plan expected =
    (outcomes : List (Option (List ℕ))) (told : List Exchange) → Walk unit plan outcomes told (Finish Doubt)
    → Cause unit plan expected told

-- in a plan whose accesses are in turn, each access that it reaches is in its place
came_apt : (unit : ℕ) (last : Option ℕ) (plan : Plan) (before : List (Option (List ℕ))) (told older : List Exchange)
    (access : Access) (after : Option (List ℕ) → Plan)
    → IsInTurn last plan → Behind last older → Walk unit plan before told (Make access after)
    → IsApt (told ++ older) access
came_apt unit last plan [] told older access after turn behind walk =
    let here = subst (IsInTurn last) walk.1 turn in rw walk.0 (apt_then last access older here.0 behind)
came_apt unit last (Finish verdict) (outcome ∷ before) told older access after turn behind walk = absurd walk.3
came_apt unit last (Make one next) (outcome ∷ before) told older access after turn behind walk =
    let next_turn = turn_next unit last one next outcome walk.1 older turn behind walk.3 in
    rw (walk.2, append_assoc walk.0 walk.1 older)
    (came_apt unit next_turn.0 (next outcome) before walk.0 (walk.1 ++ older) access after next_turn.1 next_turn.2
    walk.4)

pub failed_good : (unit : ℕ) (plan : Plan) (told : List Exchange) → IsInTurn None plan → FailedForGood unit plan told
    → HasFailed unit told
failed_good unit plan told turn f =
    record {
      newer = f.newer;
      before = f.tries ++ f.older;
      parts = f.parts;
      access = f.access;
      failure = record {
        tries = f.tries;
        older = f.older;
        parts = refl;
        place = subst (λ (t : List Exchange). IsApt t f.access) (append-nil f.older)
            (came_apt unit None plan f.before f.older [] f.access f.after turn (behind_none []) f.came);
        missed = f.failed;
      };
    }

append_twice : (a b c d : List Exchange) → (a ++ (b ++ c)) ++ d ≡ a ++ (b ++ (c ++ d))
append_twice a b c d = append_assoc a (b ++ c) d ∙ ap (λ (t : List Exchange). a ++ t) (append_assoc b c d)

failed_later : (unit : ℕ) (access : Access) (after : Option (List ℕ) → Plan)
    (outcome : Option (List ℕ))
    (outcomes : List (Option (List ℕ))) (told : List Exchange)
    (walk : Walk unit (Make access after) (outcome ∷ outcomes) told (Finish Doubt))
    → FailedForGood unit (after outcome) walk.0 → FailedForGood unit (Make access after) told
failed_later unit access after outcome outcomes told walk f =
    record {
      newer = f.newer;
      tries = f.tries;
      older = f.older ++ walk.1;
      parts = walk.2 ∙ ap (λ (t : List Exchange). t ++ walk.1) f.parts ∙ append_twice f.newer f.tries f.older walk.1;
      access = f.access;
      after = f.after;
      before = outcome ∷ f.before;
      came = (f.older, walk.1, refl, walk.3, f.came);
      last = f.last;
      failed = f.failed;
      later = f.later;
      gave_up = f.gave_up;
    }

-- the first access failed, and the session gave up
failed_now : (unit : ℕ) (access : Access) (after : Option (List ℕ) → Plan) (outcomes : List (Option (List ℕ)))
    (told : List Exchange) (walk : Walk unit (Make access after) (None ∷ outcomes) told (Finish Doubt))
    → after None ≡ give_up → FailedForGood unit (Make access after) told
failed_now unit access after outcomes told walk last =
    record {
      newer = walk.0;
      tries = walk.1;
      older = [];
      parts = walk.2 ∙ ap (λ (t : List Exchange). walk.0 ++ t) (sym (append-nil walk.1));
      access = access;
      after = after;
      before = [];
      came = (refl, refl);
      last = last;
      failed = all_missed unit access after walk.1 walk.3;
      later = outcomes;
      gave_up = subst (λ (p : Plan). Walk unit p outcomes walk.0 (Finish Doubt)) last walk.4;
    }

-- the cause came after the first access
cause_later : (unit : ℕ) (access : Access) (after : Option (List ℕ) → Plan) (expected : List (ℕ × List ℕ))
    (outcome : Option (List ℕ))
    (outcomes : List (Option (List ℕ))) (told : List Exchange)
    (walk : Walk unit (Make access after) (outcome ∷ outcomes) told (Finish Doubt))
    → Cause unit (after outcome) expected walk.0 → Cause unit (Make access after) expected told
cause_later unit access after expected outcome outcomes told walk (inl f) =
    inl (failed_later unit access after outcome outcomes told walk f)
cause_later unit access after expected outcome outcomes told walk (inr f) =
    inr record {
      newer = f.newer;
      read = f.read;
      older = f.older ++ walk.1;
      parts = walk.2 ∙ ap (λ (t : List Exchange). t ++ walk.1) f.parts ∙ append_twice f.newer f.read f.older walk.1;
      location = f.location;
      bytes = f.bytes;
      is_expected = f.is_expected;
      few = f.few;
      before = outcome ∷ f.before;
      after = f.after;
      came = (f.older, walk.1, refl, walk.3, f.came);
      found = f.found;
      answered = f.answered;
      another = f.another;
      later = f.later;
      gave_up = f.gave_up;
    }

-- a row that failed or told other bytes is given up, and isn't one that is read again, or there is a cause later
abbrev Handled : ℕ → Plan → List (ℕ × List ℕ) → ℕ → Type 0
Handled unit failed expected count = ((failed ≡ give_up) × (count ≤ most_once)) ⊎ HasCause unit failed expected

-- a read of a row that must hold the bytes
expect_cause : (unit : ℕ) (failed : Plan) (location : ℕ) (bytes : List ℕ) (after : Plan) (expected : List (ℕ × List ℕ))
    → Contains expected (location, bytes) → Handled unit failed expected (length bytes) → HasCause unit after expected
    → HasCause unit (expect failed location bytes after) expected
expect_cause unit failed location bytes after expected is again rest [] told walk = let differs = walk.1 in cc
expect_cause unit failed location bytes after expected is (inl gives) rest (None ∷ outcomes) told walk =
    inl (failed_now unit (ReadFrom (block location (length bytes)))
    (either_way failed (λ read. if bytes_eq read bytes then after else failed)) outcomes told walk gives.0)
expect_cause unit failed location bytes after expected is (inr has) rest (None ∷ outcomes) told walk =
    cause_later unit (ReadFrom (block location (length bytes)))
    (either_way failed (λ read. if bytes_eq read bytes then after else failed)) expected None outcomes told walk
    (has outcomes walk.0 walk.4)
expect_cause unit failed location bytes after expected is again rest (Some found ∷ outcomes) told walk =
    finish (by (bytes_eq found bytes) refl walk.4)
  where
    -- it went on, or gave up because the bytes were others
    Went : Plan → Type 0
    Went plan = (on : Walk unit plan outcomes walk.0 (Finish Doubt)) → Cause unit plan expected walk.0
        ⊎ ((found ≢ bytes) × (failed ≡ give_up) × (length bytes ≤ most_once)
        × Walk unit give_up outcomes walk.0 (Finish Doubt))

    otherwise : found ≢ bytes → Handled unit failed expected (length bytes) → Went failed
    otherwise differs (inl gives) on =
        inr (differs, gives.0, gives.1, subst (λ (p : Plan). Walk unit p outcomes walk.0 (Finish Doubt)) gives.0 on)
    otherwise differs (inr has) on = inl (has outcomes walk.0 on)

    by : (t : Bool) → bytes_eq found bytes ≡ t → Went (if t then after else failed)
    by true same on = inl (rest outcomes walk.0 on)
    by false same on = otherwise (λ e. let equal = (bytes_eq-Decides found bytes).1 e in cc) again on

    finish : Cause unit (if bytes_eq found bytes then after else failed) expected walk.0
        ⊎ ((found ≢ bytes) × (failed ≡ give_up) × (length bytes ≤ most_once)
        × Walk unit give_up outcomes walk.0 (Finish Doubt))
        → Cause unit (expect failed location bytes after) expected told
    finish (inl cause) =
        cause_later unit (ReadFrom (block location (length bytes)))
        (either_way failed (λ read. if bytes_eq read bytes then after else failed)) expected
        (Some found) outcomes told walk cause
    finish (inr differs) =
        inr record {
          newer = walk.0;
          read = walk.1;
          older = [];
          parts = walk.2 ∙ ap (λ (t : List Exchange). walk.0 ++ t) (sym (append-nil walk.1));
          location = location;
          bytes = bytes;
          is_expected = is;
          few = differs.2;
          before = [];
          after = after;
          came = (refl, ap (λ (p : Plan). expect p location bytes after) differs.1);
          found = found;
          answered = was_answered (access_requests unit (ReadFrom (block location (length bytes)))) found walk.1 walk.3;
          another = differs.0;
          later = outcomes;
          gave_up = differs.3;
        }

head_in : (x : ℕ × List ℕ) (xs : List (ℕ × List ℕ)) → Contains (x ∷ xs) x
head_in x xs = (0, omega arith, refl)

tail_in : (y x : ℕ × List ℕ) (xs : List (ℕ × List ℕ)) → Contains xs x → Contains (y ∷ xs) x
tail_in y x xs is = (suc is.0, (let low = is.1 in omega arith), is.2)

all_cause : (unit : ℕ) (expected rows : List (ℕ × List ℕ)) (after : Plan) → Small 2 rows
    → ((row : ℕ × List ℕ) → Contains rows row → Contains expected row) → HasCause unit after expected
    → HasCause unit (expect_all rows after) expected
all_cause unit expected [] after small all rest = rest
all_cause unit expected (row ∷ rows) after small all rest =
    expect_cause unit give_up row.0 row.1 (expect_all rows after) expected (all row (head_in row rows))
    (inl (refl, omega (arith, small.0)))
    (all_cause unit expected rows after small.1 (λ r is. all r (tail_in row r rows is)) rest)

again_cause : (unit : ℕ) (expected : List (ℕ × List ℕ)) (location : ℕ) (bytes : List ℕ) (after : Plan) (again : Bool)
    → nat_lt most_once (length bytes) ≡ again
    → ((row : ℕ × List ℕ) → Contains (pieces_of location bytes) row → Contains expected row)
    → HasCause unit after expected
    → Handled unit (if again then expect_all (pieces_of location bytes) after else give_up) expected (length bytes)
again_cause unit expected location bytes after true is all rest =
    inr (all_cause unit expected (pieces_of location bytes) after (pieces_small location bytes) all rest)
again_cause unit expected location bytes after false is all rest =
    inl (refl, ltb-false most_once (length bytes) is)

read_back_cause : (unit : ℕ) (expected rows : List (ℕ × List ℕ))
    → ((row : ℕ × List ℕ) → Contains (all_rows rows) row → Contains expected row)
    → HasCause unit (read_back rows) expected
read_back_cause unit expected [] all [] told walk = let differs = walk.1 in cc
read_back_cause unit expected [] all (o ∷ outcomes) told walk = absurd walk.3
read_back_cause unit expected (row ∷ rows) all outcomes told walk =
    let pieces = pieces_of row.0 row.1 in
    let behind = pieces ++ all_rows rows in
    let rest =
    read_back_cause unit expected rows
    (λ r is. all r (tail_in row r behind (Contains-append_right pieces (all_rows rows) r is))) in
    expect_cause unit (read_again row.0 row.1 (read_back rows)) row.0 row.1 (read_back rows) expected
    (all row (head_in row behind))
    (again_cause unit expected row.0 row.1 (read_back rows) (nat_lt most_once (length row.1)) refl
    (λ r is. all r (tail_in row r behind (Contains-append_left pieces (all_rows rows) r is))) rest)
    rest outcomes told walk

-- a write, after which the session goes on or gives up
write_cause : (unit : ℕ) (access : Access) (after : Plan) (expected : List (ℕ × List ℕ)) → HasCause unit after expected
    → HasCause unit (Make access (either_way give_up (λ b. after))) expected
write_cause unit access after expected rest [] told walk = let differs = walk.1 in cc
write_cause unit access after expected rest (None ∷ outcomes) told walk =
    inl (failed_now unit access (either_way give_up (λ b. after)) outcomes told walk refl)
write_cause unit access after expected rest (Some b ∷ outcomes) told walk =
    cause_later unit access _ expected (Some b) outcomes told walk (rest outcomes walk.0 walk.4)

-- the rows that are read back
abbrev back_rows : Pace → List (ℕ × ℕ) → List (ℕ × List ℕ)
back_rows pace updates = all_rows (rows_of (most_of pace) (read_backs updates))

write_on_cause : (unit : ℕ) (pace : Pace) (updates : List (ℕ × ℕ)) (before : ℕ) (left : List (ℕ × ℕ))
    → HasCause unit (write_on pace updates before left) (back_rows pace updates)
write_on_cause unit pace updates before [] =
    write_cause unit (write_next pace before 2 0xFF) (read_all_back pace updates) (back_rows pace updates)
    (read_back_cause unit (back_rows pace updates) (rows_of (most_of pace) (read_backs updates)) (λ row is. is))
write_on_cause unit pace updates before (update ∷ left) =
    write_cause unit (write_next pace before update.0 update.1) (write_on pace updates update.0 left)
    (back_rows pace updates) (write_on_cause unit pace updates update.0 left)

unlock_cause : (unit : ℕ) (pace : Pace) (updates : List (ℕ × ℕ))
    → HasCause unit (unlock pace updates) (back_rows pace updates)
unlock_cause unit pace updates =
    write_cause unit (WriteTo 2 0x55) (write_on pace updates 2 updates) (back_rows pace updates)
    (write_on_cause unit pace updates 2 updates)

pub doubt_cause : (told : List Exchange) (unit : ℕ) (pace : Pace) (updates : List (ℕ × ℕ))
    → Wants unit (unlock pace updates) told (Ended Doubt)
    → FailedForGood unit (unlock pace updates) told
    ⊎ FoundAnother unit (unlock pace updates) (back_rows pace updates) told
doubt_cause told unit pace updates wants =
    let walk = ended_walk unit (unlock pace updates) told Doubt wants in
    unlock_cause unit pace updates walk.0 told walk.1
