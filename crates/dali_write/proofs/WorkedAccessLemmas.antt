-- Near the edges of what is promised of accesses and sessions.
use Rattle.std.proofs.Common.{◌≡◌, ◌⊎◌, inl, inr, refl, sym, ap, subst, ◌∙◌, ℕ, zero, suc, ◌+◌, ◌≤◌, true, false}
use Rattle.std.proofs.Common.{List, [], ◌∷◌, ◌++◌, append_assoc, append-nil, length, Option, Some, None, arith}
use Rattle.dali_gear.specs.UnitState.{UnitState}
use Rattle.dali_gear.specs.SimState.{SimState}
use Rattle.dali_write.specs.Exchanges.{Exchange}
use Rattle.dali_write.specs.declared.request.Request.{Request}
use Rattle.dali_write.specs.declared.request.Wish.{Wish}
use Rattle.dali_write.specs.declared.request.Wish.TheVariants.{Nothing, Exactly, Anything}
use Rattle.dali_write.specs.declared.ask.Ask.TheVariants.{Ended}
use Rattle.dali_write.specs.declared.ask.Verdict.{Verdict}
use Rattle.dali_write.specs.declared.ask.Verdict.TheVariants.{Doubt}
use Rattle.dali_write.specs.Requests.{request, read_requests}
use Rattle.dali_write.specs.Plans.{Plan, Finish, next_plan, plan_after, expect, give_up}
use Rattle.dali_write.specs.Tries.{Trying, Missed, AccessEnds, AccessesEnd, Wants}
use Rattle.dali_write.specs.Walks.{Walk}
use Rattle.dali_write.specs.Misses.{is_missed, misses_in, others_in, IsLong}
use Rattle.dali_write.specs.Losses.{losses, Unrefused, IsAlone}
use Rattle.dali_write.specs.Successes.{MayStoreAt, HasBank, Spared, MissesByLosses}
use Rattle.dali_write.specs.Doubts.{EndsUnread, EndsUnlooked, FoundAnother}
use Rattle.dali_write.specs.WorkedAccesses.{missed_read, after_a_miss, small_bank, two_units}
use Rattle.dali_write.proofs.ShapeLemmas.{trying_length, tail_is}
use Rattle.dali_write.specs.Worlds.{Run}
use Rattle.dali_gear.specs.SimState.{SimStep}
use Rattle.dali_write.specs.declared.pace.Pace.TheVariants.{Checked, Short as ShortPace}
use Rattle.std.specs.Str.{bytes_eq}
use Rattle.std.proofs.lemmas.Slice.Eq.{bytes_eq-Decides}
use Rattle.std.proofs.Common.{Bool, true, false}
use Rattle.std.specs.Prelude.{◌≢◌}

-- what is a miss
pub another_missed : is_missed (Exactly 1) (Some 2) ≡ true
another_missed = refl

pub none_missed : is_missed Anything None ≡ true
none_missed = refl

pub wished_met : is_missed (Exactly 1) (Some 1) ≡ false
wished_met = refl

pub nothing_wished : is_missed Nothing None ≡ false
nothing_wished = refl

-- with one miss at most the frames of one try more, by the short plan those of a row of sixteen and six
pub miss_length : (n : ℕ) → length (after_a_miss n) ≡ 1 + n
miss_length zero = refl
miss_length (suc n) = let rest = miss_length n in omega arith

pub one_miss : (n : ℕ) → misses_in (after_a_miss n) ≡ 1
one_miss zero = refl
one_miss (suc n) = let rest = one_miss n in omega arith

no_other : (n : ℕ) → others_in [] (after_a_miss n) ≡ 0
no_other zero = refl
no_other (suc n) = let rest = no_other n in omega arith

pub long_within : (n : ℕ) → IsLong Checked [] 12 (after_a_miss n) → (11 ≤ n) × (n ≤ 18)
long_within n long = grind (arith, miss_length n, one_miss n)

pub long_enough : (n : ℕ) → (11 ≤ n) × (n ≤ 18) → IsLong Checked [] 12 (after_a_miss n)
long_enough n (least, most) = let all = miss_length n in let one = one_miss n in (omega arith, omega arith)

pub short_within : (n : ℕ) → IsLong ShortPace [] 12 (after_a_miss n) → (11 ≤ n) × (n ≤ 39)
short_within n long = grind (arith, miss_length n, one_miss n, no_other n)

pub short_enough : (n : ℕ) → (11 ≤ n) × (n ≤ 39) → IsLong ShortPace [] 12 (after_a_miss n)
short_enough n (least, most) = let all = miss_length n in let one = one_miss n in (omega arith, omega arith)

-- the locations that are taken
pub first_taken : MayStoreAt small_bank 0x03
first_taken = (omega arith, omega arith, refl)

pub last_taken : MayStoreAt small_bank 0x10
last_taken = (omega arith, omega arith, refl)

pub lock_not_taken : MayStoreAt small_bank 0x02 → ⊥
lock_not_taken takes = let low = takes.0 in omega arith

pub next_not_taken : MayStoreAt small_bank 0x11 → ⊥
next_not_taken takes = let high = takes.1 in omega arith

pub fixed_not_taken : MayStoreAt small_bank 0x07 → ⊥
fixed_not_taken takes = let never : true ≡ false = takes.2 in cc

-- the second unit of two has its bank
pub second_has : HasBank 5 small_bank two_units
second_has = inr (inl (refl, refl))

-- seven losses are few, and with none nothing was missed
pub seven_spared : (loses : ℕ → Type 0) (at : ℕ) (unit : UnitState) (told : List Exchange) (first last : SimState)
    (run : Run SimStep loses told first last)
    → (loses at → ⊥) → IsAlone at unit first.units → Unrefused run.past run.chain.states
    → losses at run.past run.chain.states ≡ 7 → Spared loses at unit told first last
seven_spared loses at unit told first last run keeps_power alone kind seven =
    record { run = run; keeps_power = keeps_power; alone = alone; kind = kind; few = omega arith }

pub none_lost : (loses : ℕ → Type 0) (at : ℕ) (unit : UnitState) (told : List Exchange) (first last : SimState)
    (spared : Spared loses at unit told first last)
    → MissesByLosses loses at unit told first last spared
    → losses at spared.run.past spared.run.chain.states ≡ 0 → misses_in told ≡ 0
none_lost loses at unit told first last spared few none = omega arith

-- a read that failed names its unit and its location
head_of : (x y : Request) (xs ys : List Request) → x ∷ xs ≡ y ∷ ys → x.frame ≡ y.frame
head_of x y xs ys e = let same : x ≡ y = cc in ap (λ (l : Request). l.frame) same

try_names : (unit location u l : ℕ) (x : Exchange) (tried : List Exchange) (wish : Wish) (left : List Request)
    (rest told : List Exchange)
    → missed_read unit location told ≡ (x ∷ tried) ++ rest
    → Trying (read_requests u l) tried (request x.frame wish ∷ left)
    → (u ≡ unit) × (l ≡ location)
try_names unit location u l x [] wish left rest told parts try = grind (arith, head_of)
try_names unit location u l x (a ∷ []) wish left rest told parts try = grind (arith, tail_is, head_of)
try_names unit location u l x (a ∷ b ∷ []) wish left rest told parts try = grind (arith, tail_is, head_of)
try_names unit location u l x (a ∷ b ∷ c ∷ []) wish left rest told parts try = grind (arith, tail_is, head_of)
try_names unit location u l x (a ∷ b ∷ c ∷ d ∷ []) wish left rest told parts try = grind (arith, tail_is, head_of)
try_names unit location u l x (a ∷ b ∷ c ∷ d ∷ e ∷ []) wish left rest told parts try = grind (arith, tail_is, head_of)
try_names unit location u l x (a ∷ b ∷ c ∷ d ∷ e ∷ f ∷ []) wish left rest told parts try =
    grind (arith, tail_is, head_of)
try_names unit location u l x (a ∷ b ∷ c ∷ d ∷ e ∷ f ∷ g ∷ more) wish left rest told parts try =
    grind (arith, trying_length)

missed_names : (unit location u l : ℕ) (newer rest told : List Exchange)
    → missed_read unit location told ≡ newer ++ rest → Missed (read_requests u l) newer → (u ≡ unit) × (l ≡ location)
missed_names unit location u l [] rest told parts missed = absurd missed
missed_names unit location u l (x ∷ tried) rest told parts (wish, left, misses_it, try) =
    try_names unit location u l x tried wish left rest told parts try

pub unread_names : (unit location u l : ℕ) (told : List Exchange) → EndsUnread u l (missed_read unit location told)
    → (u ≡ unit) × (l ≡ location)
unread_names unit location u l told f = grind (arith, missed_names, append_assoc)

pub unlooked_names : (unit location u : ℕ) (told : List Exchange)
    → EndsUnlooked Checked u (missed_read unit location told)
    → (location ≡ 0x00) ⊎ ((location ≡ 0x11) ⊎ (location ≡ 0x12))
unlooked_names unit location u told (inl f) = inl (sym (unread_names unit location u 0x00 told f).1)
unlooked_names unit location u told (inr (inl f)) = inr (inl (sym (unread_names unit location u 0x11 told f).1))
unlooked_names unit location u told (inr (inr f)) = inr (inr (sym (unread_names unit location u 0x12 told f).1))

-- walks one after the other
walk_then : (unit : ℕ) (plan mid end : Plan) (outcomes others : List (Option (List ℕ))) (older newer : List Exchange)
    → Walk unit plan outcomes older mid → Walk unit mid others newer end
    → (all : List (Option (List ℕ))) × Walk unit plan all (newer ++ older) end
walk_then unit plan mid end [] others older newer (none, same) later = grind (arith, append-nil newer)
walk_then unit plan mid end (outcome ∷ outcomes) others older newer (after, before, parts, ends, walk) later =
    let rest = walk_then unit (next_plan plan outcome) mid end outcomes others after newer walk later in (
      outcome ∷ rest.0,
      (
        newer ++ after,
        before,
        ap (λ (t : List Exchange). newer ++ t) parts ∙ sym (append_assoc newer after before),
        ends,
        rest.1,
      ),
    )

-- the accesses of a walk, the newest first
record Accesses (unit : ℕ) (plan : Plan) (told : List Exchange) (end : Plan) : Type 0 where
  outcomes : List (Option (List ℕ))
  accesses : AccessesEnd unit plan outcomes told
  comes : plan_after plan outcomes ≡ end

walk_accesses : (unit : ℕ) (plan now end : Plan) (done outcomes : List (Option (List ℕ))) (ended told : List Exchange)
    → AccessesEnd unit plan done ended → plan_after plan done ≡ now
    → Walk unit now outcomes told end → Accesses unit plan (told ++ ended) end
walk_accesses unit plan now end done [] ended told accesses comes (none, same) = grind arith
walk_accesses unit plan now end done (outcome ∷ outcomes) ended told accesses comes (newer, older, parts, ends, walk) =
    let one : AccessesEnd unit plan (outcome ∷ done) (older ++ ended) =
    (older, ended, refl, subst (λ (p : Plan). AccessEnds unit p outcome older) (sym comes) ends, accesses) in
    let all =
    walk_accesses unit plan (next_plan now outcome) end (outcome ∷ done) outcomes (older ++ ended) newer one
    (ap (λ (p : Plan). next_plan p outcome) comes) walk in
    let same : newer ++ (older ++ ended) ≡ told ++ ended =
    sym (append_assoc newer older ended) ∙ ap (λ (t : List Exchange). t ++ ended) (sym parts) in
    subst (λ (t : List Exchange). Accesses unit plan t end) same all

walk_wants : (unit : ℕ) (plan : Plan) (verdict : Verdict) (outcomes : List (Option (List ℕ))) (told : List Exchange)
    → Walk unit plan outcomes told (Finish verdict) → Wants unit plan told (Ended verdict)
walk_wants unit plan verdict outcomes told walk =
    let all =
    subst (λ (t : List Exchange). Accesses unit plan t (Finish verdict)) (append-nil told)
    (walk_accesses unit plan plan (Finish verdict) [] outcomes [] told refl refl walk) in
    record {
      outcomes = all.outcomes;
      now = Finish verdict;
      misses = 0;
      left = [];
      bytes = [];
      stands = record {
        ended = told;
        missed = [];
        tried = [];
        parts = refl;
        accesses = all.accesses;
        now_is = all.comes;
        few = omega arith;
        misses_are = refl;
        try = refl;
        bytes_are = refl;
        going = refl;
      };
      ask_is = refl;
    }

-- if other bytes were found, the session ended in doubt
pub found_doubts : (unit : ℕ) (plan : Plan) (expected : List (ℕ × List ℕ)) (told : List Exchange)
    → FoundAnother unit plan expected told → Wants unit plan told (Ended Doubt)
found_doubts unit plan expected told f =
    let differs = others f.found f.bytes f.another in
    let goes : next_plan (expect give_up f.location f.bytes f.after) (Some f.found) ≡ give_up = rw differs refl in
    let gave = subst (λ (p : Plan). Walk unit p f.later f.newer (Finish Doubt)) (sym goes) f.gave_up in
    let later : Walk unit (expect give_up f.location f.bytes f.after) (Some f.found ∷ f.later) (f.newer ++ f.read)
    (Finish Doubt) =
    (f.newer, f.read, refl, inl f.answered, gave) in
    let all =
    walk_then unit plan (expect give_up f.location f.bytes f.after) (Finish Doubt) f.before
    (Some f.found ∷ f.later) f.older
    (f.newer ++ f.read) f.came later in
    walk_wants unit plan Doubt all.0 told (subst (λ (t : List Exchange). Walk unit plan all.0 t (Finish Doubt))
    (append_assoc f.newer f.read f.older ∙ sym f.parts) all.1)
  where
    not_true : (b : Bool) → (b ≡ true → ⊥) → b ≡ false
    not_true true never = absurd (never refl)
    not_true false never = refl

    others : (found bytes : List ℕ) → found ≢ bytes → bytes_eq found bytes ≡ false
    others found bytes another = not_true (bytes_eq found bytes)
        (λ same. another ((bytes_eq-Decides found bytes).0 same))
