-- A session gives up only if its last access failed.
use Rattle.std.proofs.Common.{length, ◌≡◌, ◌⊎◌, inl, inr, refl, sym, ap, subst, ◌∙◌, ℕ, zero, suc, min, Bool, true, false, ◌==◌}
use Rattle.std.specs.Prelude.{⊤}
use Rattle.std.proofs.Common.{◌&&◌, nat_lt, if◌then◌else◌, List, [], ◌∷◌, ◌++◌, append_assoc, append-nil, Option, Some}
use Rattle.std.proofs.Common.{None, get_or}
use Rattle.dali_write.specs.Exchanges.{Exchange}
use Rattle.dali_write.specs.declared.access.Access.{Access}
use Rattle.dali_write.specs.declared.ask.Verdict.{Verdict}
use Rattle.dali_write.specs.declared.ask.Verdict.TheVariants.{MayOpen, Short, Format, Silent, DoubtOpen, Closed}
use Rattle.dali_write.specs.declared.ask.Verdict.TheVariants.{NotClosed}
use Rattle.dali_write.specs.declared.ask.Ask.TheVariants.{Ended}
use Rattle.dali_write.specs.Plans.{Plan, Finish, Make, greatest, read_format, read_length, close, give_up, expect}
use Rattle.dali_write.specs.Plans.{read_back, write_on, unlock, read_on, read_all}
use Rattle.dali_write.specs.declared.access.Access.TheVariants.{ReadFrom, WriteTo, WriteOn}
use Rattle.dali_write.specs.declared.block.Block.{Block}
use Rattle.dali_write.specs.Misses.{IsApt, location_in}
use Rattle.dali_write.specs.Requests.{block, access_requests}
use Rattle.dali_write.specs.Tries.{most_tries, Misses, AccessEnds, Wants}
use Rattle.dali_write.specs.Doubts.{EndsInFailure, HasFailed, EndsUnread, EndsUnlooked}
use Rattle.dali_write.specs.Walks.{Walk}
use Rattle.dali_write.proofs.WalkLemmas.{ended_walk}
use Rattle.dali_write.proofs.PlanLemmas.{if_all}
use Rattle.dali_write.specs.declared.pace.Pace.{Pace}
use Rattle.dali_write.specs.declared.pace.Pace.TheVariants.{Checked, Short as ShortPace}
use Rattle.dali_write.specs.Plans.{rows_of, most_of, read_backs, write_next}
use Rattle.std.specs.Str.{bytes_eq}
use Rattle.dali_write.proofs.RowLemmas.{first_piece}
use Rattle.dali_write.specs.Plans.{most_once, pieces_of, expect_all, read_again}

-- an access without an outcome failed: it missed in each of its tries
pub all_missed : (unit : ℕ) (access : Access) (after : Option (List ℕ) → Plan) (told : List Exchange)
    → AccessEnds unit (Make access after) None told → Misses (access_requests unit access) most_tries told
all_missed unit access after told (inl done) = let never = done.5 in cc
all_missed unit access after told (inr failed) = failed.1

-- there was an access just before, and it is one of these
abbrev WasOne : (Access → Type 0) → Option Access → Type 0
WasOne P None = ⊥
WasOne P (Some access) = P access

-- the plan ends so only if the access before its end failed and is one of these; the access before the plan failed, if
-- one did
abbrev Late : (Access → Type 0) → Verdict → Option Access → Plan → Type 0
Late P verdict failed (Finish v) = v ≡ verdict → WasOne P failed
Late P verdict failed (Make access after) =
    Late P verdict (Some access) (after None) × ((bytes : List ℕ) → Late P verdict None (after (Some bytes)))

-- the newest frames are those of the access that failed just before, if one did
abbrev JustFailed : ℕ → Option Access → List Exchange → Type 0
JustFailed unit None told = ⊤
JustFailed unit (Some access) told =
    (tries : List Exchange) × (older : List Exchange) × (told ≡ tries ++ older)
    × Misses (access_requests unit access) most_tries tries

-- each of these accesses is a read
abbrev AreReads : (Access → Type 0) → Type 0
AreReads P = (access : Access) → P access → (block : Block) × (access ≡ ReadFrom block)

-- the newest frames are those of one of these accesses, and it failed
abbrev FailedOf : (Access → Type 0) → ℕ → List Exchange → Type 0
FailedOf P unit told = (access : Access) × P access × EndsInFailure unit access told

failed_last : (P : Access → Type 0) (unit : ℕ) (failed : Option Access) (told : List Exchange) → AreReads P
    → WasOne P failed → JustFailed unit failed told → FailedOf P unit told
failed_last P unit None told reads was just = absurd was
failed_last P unit (Some access) told reads was just = (
  access,
  was,
  record { tries = just.0; older = just.1; parts = just.2; place = read_place; missed = just.3 },
) where
  read_place : IsApt just.1 access
  read_place = let read = reads access was in rw read.1 tt

late_walk : (P : Access → Type 0) (verdict : Verdict) (unit : ℕ) (failed : Option Access) (plan : Plan)
    (outcomes : List (Option (List ℕ))) (told older : List Exchange)
    → AreReads P → Late P verdict failed plan → JustFailed unit failed older
    → Walk unit plan outcomes told (Finish verdict)
    → FailedOf P unit (told ++ older)
late_walk P verdict unit failed (Finish v) [] told older reads late just walk =
    let same = walk.1 in
    rw walk.0 (failed_last P unit failed older reads (late (let is : v ≡ verdict = cc in is)) just)
late_walk P verdict unit failed (Finish v) (o ∷ outcomes) told older reads late just walk = absurd walk.3
late_walk P verdict unit failed (Make access after) [] told older reads late just walk = let differs = walk.1 in cc
late_walk P verdict unit failed (Make access after) (None ∷ outcomes) told older reads late just walk =
    let failure : JustFailed unit (Some access) (walk.1 ++ older) =
    (walk.1, older, refl, all_missed unit access after walk.1 walk.3) in
    rw (walk.2, append_assoc walk.0 walk.1 older)
    (late_walk P verdict unit (Some access) (after None) outcomes walk.0 (walk.1 ++ older) reads late.0 failure
    walk.4)
late_walk P verdict unit failed (Make access after) (Some byte ∷ outcomes) told older reads late just walk =
    rw (walk.2, append_assoc walk.0 walk.1 older)
    (late_walk P verdict unit None (after (Some byte)) outcomes walk.0 (walk.1 ++ older) reads (late.1 byte) tt
    walk.4)

late : (P : Access → Type 0) (unit : ℕ) (plan : Plan) (told : List Exchange) (verdict : Verdict)
    → AreReads P → Late P verdict None plan → Wants unit plan told (Ended verdict) → FailedOf P unit told
late P unit plan told verdict reads is wants =
    let walk = ended_walk unit plan told verdict wants in
    rw (sym (append-nil told)) (late_walk P verdict unit None plan walk.0 told [] reads is tt walk.1)

-- the one access that it may be
only : (access : Access) (unit : ℕ) (told : List Exchange) → FailedOf (λ s. s ≡ access) unit told
    → EndsInFailure unit access told
only access unit told of = subst (λ (s : Access). EndsInFailure unit s told) of.1 of.2

-- a checked read of the location
abbrev IsRead : ℕ → Access → Type 0
IsRead location access = access ≡ ReadFrom (block location 1)

-- a read of the length or of the content format
abbrev IsLook : Pace → Access → Type 0
IsLook Checked access = IsRead 0x00 access ⊎ IsRead 0x11 access ⊎ IsRead 0x12 access
IsLook ShortPace access = IsRead 0x00 access ⊎ (access ≡ ReadFrom (block 0x11 2))

are_reads : (location : ℕ) → AreReads (IsRead location)
are_reads location access is = (block location 1, is)

are_looks : (pace : Pace) → AreReads (IsLook pace)
are_looks Checked access (inl is) = (block 0x00 1, is)
are_looks Checked access (inr (inl is)) = (block 0x11 1, is)
are_looks Checked access (inr (inr is)) = (block 0x12 1, is)
are_looks ShortPace access (inl is) = (block 0x00 1, is)
are_looks ShortPace access (inr is) = (block 0x11 2, is)

one_look : (pace : Pace) (unit : ℕ) (told : List Exchange) → FailedOf (IsLook pace) unit told
    → EndsUnlooked pace unit told
one_look Checked unit told (access, inl is, f) = inl (subst (λ (s : Access). EndsInFailure unit s told) is f)
one_look Checked unit told (access, inr (inl is), f) =
    inr (inl (subst (λ (s : Access). EndsInFailure unit s told) is f))
one_look Checked unit told (access, inr (inr is), f) =
    inr (inr (subst (λ (s : Access). EndsInFailure unit s told) is f))
one_look ShortPace unit told (access, inl is, f) = inl (subst (λ (s : Access). EndsInFailure unit s told) is f)
one_look ShortPace unit told (access, inr is, f) = inr (subst (λ (s : Access). EndsInFailure unit s told) is f)

-- a judged plan is not silent
suits_not_silent : (P : Access → Type 0) (b : Bool) → Late P Silent None (Finish (if b then MayOpen else Format))
suits_not_silent P true = λ e. cc
suits_not_silent P false = λ e. cc

format_late : (pace : Pace) → Late (IsLook pace) Silent None (read_format pace)
format_late Checked = (
  λ e. inr (inl refl),
  λ high. (
    λ e. inr (inr refl),
    λ low. suits_not_silent (IsLook Checked) ((get_or high 0 0 == 0) && (get_or low 0 0 == 3)),
  ),
)
format_late ShortPace = (
  λ e. inr refl,
  λ read. suits_not_silent (IsLook ShortPace) ((get_or read 0 0 == 0) && (get_or read 1 0 == 3)),
)

length_looked : (pace : Pace) → IsLook pace (ReadFrom (block 0x00 1))
length_looked Checked = inl refl
length_looked ShortPace = inl refl

length_late : (pace : Pace) (updates : List (ℕ × ℕ)) → Late (IsLook pace) Silent None (read_length pace updates)
length_late pace updates = (
  λ e. length_looked pace,
  λ last.
      if_all (Late (IsLook pace) Silent None) (nat_lt (get_or last 0 0) (greatest updates)) (Finish Short) _ (λ e. cc)
      (if_all (Late (IsLook pace) Silent None) (nat_lt (greatest updates) 0x13) (Finish MayOpen) (read_format pace)
      (λ e. cc) (format_late pace)),
)

pub fresh_late : (told : List Exchange) (unit : ℕ) (pace : Pace) (updates : List (ℕ × ℕ))
    → Wants unit (read_length pace updates) told (Ended Silent) → EndsUnlooked pace unit told
fresh_late told unit pace updates wants =
    one_look pace unit told
    (late (IsLook pace) unit (read_length pace updates) told Silent (are_looks pace) (length_late pace updates)
    wants)

abbrev LateDoubt : Option Access → Plan → Type 0
LateDoubt = Late (IsRead 0x02) DoubtOpen

give_up_late : (failed : Option Access) → LateDoubt failed give_up
give_up_late failed = ((λ e. refl, λ read e. cc), λ written. (λ e. refl, λ read e. cc))

expect_late : (last : Option Access) (failed : Plan) (location : ℕ) (bytes : List ℕ) (after : Plan)
    → ((access : Option Access) → LateDoubt access failed) → LateDoubt None after
    → LateDoubt last (expect failed location bytes after)
expect_late last failed location bytes after again is = (
  again (Some (ReadFrom (block location (length bytes)))),
  λ read. if_all (LateDoubt None) (bytes_eq read bytes) after failed is (again None),
)

all_late : (last : Option Access) (row : ℕ × List ℕ) (rows : List (ℕ × List ℕ)) (after : Plan) → LateDoubt None after
    → LateDoubt last (expect_all (row ∷ rows) after)
all_late last row [] after is =
    expect_late last give_up row.0 row.1 after give_up_late is
all_late last row (next ∷ rows) after is =
    expect_late last give_up row.0 row.1 (expect_all (next ∷ rows) after) give_up_late
    (all_late None next rows after is)

again_late : (last : Option Access) (location : ℕ) (bytes : List ℕ) (after : Plan) (again : Bool)
    → nat_lt most_once (length bytes) ≡ again → LateDoubt None after
    → LateDoubt last (if again then expect_all (pieces_of location bytes) after else give_up)
again_late last location [] after true is rest = cc
again_late last location (byte ∷ bytes) after true is rest =
    let first = first_piece location byte bytes in
    subst (λ (rows : List (ℕ × List ℕ)). LateDoubt last (expect_all rows after)) (sym first.2)
    (all_late last first.0 first.1 after rest)
again_late last location bytes after false is rest = give_up_late last

read_back_late : (rows : List (ℕ × List ℕ)) → LateDoubt None (read_back rows)
read_back_late [] = λ e. cc
read_back_late (row ∷ rows) =
    expect_late None (read_again row.0 row.1 (read_back rows)) row.0 row.1 (read_back rows)
    (λ access. again_late access row.0 row.1 (read_back rows) (nat_lt most_once (length row.1)) refl
    (read_back_late rows)) (read_back_late rows)

write_on_late : (pace : Pace) (updates : List (ℕ × ℕ)) (before : ℕ) (left : List (ℕ × ℕ))
    → LateDoubt None (write_on pace updates before left)
write_on_late pace updates before [] = (
  give_up_late (Some (write_next pace before 2 0xFF)),
  λ bytes. read_back_late (rows_of (most_of pace) (read_backs updates)),
)
write_on_late pace updates before (update ∷ left) =
    (give_up_late (Some (write_next pace before update.0 update.1)), λ bytes. write_on_late pace updates update.0 left)

pub opened_late : (told : List Exchange) (unit : ℕ) (pace : Pace) (updates : List (ℕ × ℕ))
    → Wants unit (unlock pace updates) told (Ended DoubtOpen) → EndsUnread unit 0x02 told
opened_late told unit pace updates wants =
    only (ReadFrom (block 0x02 1)) unit told
    (late (IsRead 0x02) unit (unlock pace updates) told DoubtOpen (are_reads 0x02)
    (give_up_late (Some (WriteTo 2 0x55)), λ bytes. write_on_late pace updates 2 updates) wants)

pub closing_late : (told : List Exchange) (unit : ℕ) → Wants unit (close Closed NotClosed) told (Ended NotClosed)
    → EndsUnread unit 0x02 told
closing_late told unit wants =
    only (ReadFrom (block 0x02 1)) unit told
    (late (IsRead 0x02) unit (close Closed NotClosed) told NotClosed (are_reads 0x02)
    ((λ e. refl, λ read e. cc), λ written. (λ e. refl, λ read e. cc)) wants)

-- a read of some location
abbrev IsSome : Access → Type 0
IsSome access = (location : ℕ) × IsRead location access

read_on_late : (location left : ℕ) → Late IsSome Silent None (read_on location left)
read_on_late location zero = λ e. cc
read_on_late location (suc left) = (λ e. (location, refl), λ byte. read_on_late (suc location) left)

pub reading_late : (told : List Exchange) (unit : ℕ) → Wants unit read_all told (Ended Silent)
    → (location : ℕ) × EndsUnread unit location told
reading_late told unit wants =
    let of = late IsSome unit read_all told Silent (λ access some. (block some.0 1, some.1))
    (λ e. (0, refl), λ last. read_on_late 1 (min (get_or last 0 0) 0xFE)) wants in
    (of.1.0, subst (λ (s : Access). EndsInFailure unit s told) of.1.1 of.2)

-- with older frames before

apt_joined : (access : Access) (told older : List Exchange) → IsApt told access → IsApt (told ++ older) access
apt_joined (ReadFrom block) told older apt = tt
apt_joined (WriteTo location byte) told older apt = tt
apt_joined (WriteOn before location byte) told older apt =
    λ oldest. ap location_in (append_assoc told older oldest) ∙ apt (older ++ oldest)

failure_joined : (unit : ℕ) (access : Access) (sent told older : List Exchange) → sent ≡ told ++ older
    → EndsInFailure unit access told → EndsInFailure unit access sent
failure_joined unit access sent told older parts f =
    record {
      tries = f.tries;
      older = f.older ++ older;
      parts = parts ∙ ap (λ (t : List Exchange). t ++ older) f.parts ∙ append_assoc f.tries f.older older;
      place = apt_joined access f.older older f.place;
      missed = f.missed;
    }

pub unread_joined : (unit location : ℕ) (sent told older : List Exchange) → sent ≡ told ++ older
    → EndsUnread unit location told → EndsUnread unit location sent
unread_joined unit location sent told older parts f = failure_joined unit
    (ReadFrom (block location 1)) sent told older parts f

pub unlooked_joined : (pace : Pace) (unit : ℕ) (sent told older : List Exchange) → sent ≡ told ++ older
    → EndsUnlooked pace unit told → EndsUnlooked pace unit sent
unlooked_joined Checked unit sent told older parts (inl f) = inl (unread_joined unit 0x00 sent told older parts f)
unlooked_joined Checked unit sent told older parts (inr (inl f)) =
    inr (inl (unread_joined unit 0x11 sent told older parts f))
unlooked_joined Checked unit sent told older parts (inr (inr f)) =
    inr (inr (unread_joined unit 0x12 sent told older parts f))
unlooked_joined ShortPace unit sent told older parts (inl f) = inl (unread_joined unit 0x00 sent told older parts f)
unlooked_joined ShortPace unit sent told older parts (inr f) =
    inr (failure_joined unit (ReadFrom (block 0x11 2)) sent told older parts f)

pub failed_joined : (unit : ℕ) (sent told older : List Exchange) → sent ≡ told ++ older → HasFailed unit told
    → HasFailed unit sent
failed_joined unit sent told older parts f =
    record {
      newer = f.newer;
      before = f.before ++ older;
      parts = parts ∙ ap (λ (t : List Exchange). t ++ older) f.parts ∙ append_assoc f.newer f.before older;
      access = f.access;
      failure = failure_joined unit f.access (f.before ++ older) f.before older refl f.failure;
    }
