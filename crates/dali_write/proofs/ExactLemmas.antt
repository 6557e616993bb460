-- How many frames a session takes that ends Done.
use Rattle.std.proofs.Common.{◌-◌, subst, ◌≡◌, ◌⊎◌, inl, inr, refl, ap, ℕ, ◌+◌, ◌*◌, ◌≤◌, Bool, true, false, if◌then◌else◌, List}
use Rattle.std.proofs.Common.{[], ◌∷◌, ◌++◌, append_assoc, append-nil, length, length-append, Option, Some, None, arith}
use Rattle.dali_write.specs.Exchanges.{Exchange}
use Rattle.dali_write.specs.declared.access.Access.{Access}
use Rattle.dali_write.specs.declared.access.Access.TheVariants.{ReadFrom, WriteTo}
use Rattle.dali_write.specs.declared.ask.Verdict.TheVariants.{Done}
use Rattle.dali_write.specs.declared.ask.Ask.TheVariants.{Ended}
use Rattle.dali_write.specs.Requests.{block, put_requests, access_requests}
use Rattle.dali_write.specs.Frames.{other_frames}
use Rattle.dali_write.specs.Counts.{done_frames, writes_frames, jumps}
use Rattle.dali_bus.specs.Hears.{up}
use Rattle.std.specs.Prelude.{◌==◌}
use Rattle.dali_write.specs.Plans.{Plan, Finish, Make, give_up, expect, read_back, write_on}
use Rattle.dali_write.specs.Plans.{unlock}
use Rattle.dali_write.specs.Tries.{AccessEnds, Wants}
use Rattle.dali_write.specs.Walks.{Walk, access_misses, Took}
use Rattle.dali_write.proofs.CountLemmas.{misses_length}
use Rattle.dali_write.proofs.WalkLemmas.{ended_walk, was_answered}
use Rattle.dali_write.specs.Misses.{others_in}
use Rattle.dali_write.specs.Touches.{Has}
use Rattle.dali_write.specs.declared.ask.Verdict.{Verdict}
use Rattle.dali_write.proofs.OtherLemmas.{more_others, told_other}
use Rattle.dali_write.proofs.AccessFramesLemmas.{Frames, IsShort, short_to, short_next, short_row, access_first, least_most}
use Rattle.dali_write.specs.declared.pace.Pace.{Pace}
use Rattle.dali_write.specs.declared.pace.Pace.TheVariants.{Checked, Short}
use Rattle.dali_write.specs.Frames.{row_frames, next_frames}
use Rattle.dali_write.specs.Counts.{rows_frames}
use Rattle.dali_write.specs.Plans.{Make, rows_of, most_of, read_backs, read_all_back, write_next, either_way}
use Rattle.dali_write.proofs.RowLemmas.{Small, rows_small, AllInRow, AllInRows, rows_hold, row_pieces}
use Rattle.dali_write.proofs.CountLemmas.{longest}
use Rattle.dali_write.proofs.BlockShapeLemmas.{block_frames_are}
use Rattle.std.specs.Str.{bytes_eq}
use Rattle.dali_write.specs.Plans.{most_once, pieces_of, expect_all, read_again}
use Rattle.dali_write.proofs.RowLemmas.{pieces_bytes, pieces_few, pieces_some, pieces_small, rows_frames_are}
use Rattle.std.specs.Prelude.{nat_lt, ◌<◌}
use Rattle.std.proofs.lemmas.Bool.{ltb-true}
use Rattle.dali_write.specs.declared.block.Block.{Block}

-- no plan that gives up ends Done
pub never_done : (unit : ℕ) (outcomes : List (Option (List ℕ))) (told : List Exchange)
    → Walk unit give_up outcomes told (Finish Done) → ⊥
never_done unit [] told walk = let differs = walk.1 in cc
never_done unit (o ∷ []) told walk = let differs = walk.4.1 in cc
never_done unit (o ∷ None ∷ []) told walk = let differs = walk.4.4.1 in cc
never_done unit (o ∷ Some byte ∷ []) told walk = let differs = walk.4.4.1 in cc
never_done unit (o ∷ None ∷ p ∷ outcomes) told walk = walk.4.4.3
never_done unit (o ∷ Some byte ∷ p ∷ outcomes) told walk = walk.4.4.3

-- a count of other bytes among the exchanges of a walk, besides those of older ones
abbrev pub HasOthers : List (ℕ × ℕ) → List Exchange → List Exchange → ℕ → Type 0
HasOthers wanted told older others = others + others_in wanted older ≤ others_in wanted (told ++ older)

pub none_other : (wanted : List (ℕ × ℕ)) (told older : List Exchange) → HasOthers wanted told older 0
none_other wanted told older = omega (arith, more_others wanted told older)

-- those of an access, and of the exchanges after it
joined_others : (wanted : List (ℕ × ℕ)) (told newer mid older : List Exchange) (here others : ℕ) → told ≡ newer ++ mid
    → HasOthers wanted mid older here → HasOthers wanted newer (mid ++ older) others
    → HasOthers wanted told older (here + others)
joined_others wanted told newer mid older here others parts one two =
    rw (parts, append_assoc newer mid older) (omega (arith, one, two))

-- A walk of the plan that ends Done takes `frames` frames, and more only for misses and for other bytes.
record DoneIn (pace : Pace) (wanted : List (ℕ × ℕ)) (unit : ℕ) (plan : Plan) (outcomes : List (Option (List ℕ)))
    (told older : List Exchange) (walk : Walk unit plan outcomes told (Finish Done)) (frames : ℕ) : Type 0 where
  others : ℕ
  among : HasOthers wanted told older others
  frames_are : Frames pace unit plan outcomes told (Finish Done) walk frames others

-- each of the plan does
abbrev TakesDone : Pace → List (ℕ × ℕ) → ℕ → Plan → ℕ → Type 0
TakesDone pace wanted unit plan frames =
    (outcomes : List (Option (List ℕ))) (told older : List Exchange) (walk : Walk unit plan outcomes told (Finish Done))
    → DoneIn pace wanted unit plan outcomes told older walk frames

-- the tries of a row that failed, and then the frames that follow
failed_frames : (unit : ℕ) (block : Block) (after : Option (List ℕ) → Plan) (told : List Exchange)
    → (ends : AccessEnds unit (Make (ReadFrom block) after) None told)
    → (length told ≤ 8 * (block.count + 6)) × (access_misses unit (Make (ReadFrom block) after) None told ends ≡ 8)
failed_frames unit block after told (inl done) = let never = done.5 in cc
failed_frames unit block after told (inr failed) =
    let few = misses_length (access_requests unit (ReadFrom block)) 8 told (longest unit (ReadFrom block)) failed.1 in
    (omega (arith, block_frames_are unit block), refl)

again_first : (unit : ℕ) (block : Block) (after : Option (List ℕ) → Plan) (outcomes : List (Option (List ℕ)))
    (told : List Exchange) (walk : Walk unit (Make (ReadFrom block) after) (None ∷ outcomes) told (Finish Done))
    (frames again others : ℕ)
    → block.count ≤ 16 → block.count + 6 ≤ again → again ≤ 4 * block.count + 3
    → Frames Short unit (after None) outcomes walk.0 (Finish Done) walk.4 (again + frames) others
    → Frames Short unit (Make (ReadFrom block) after) (None ∷ outcomes) told (Finish Done) walk
    (block.count + 6 + frames) others
again_first unit block after outcomes told walk frames again others small least most rest =
    let here = failed_frames unit block after walk.1 walk.3 in
    let both = ap (λ (t : List Exchange). length t) walk.2 in
    let joined = length-append walk.0 walk.1 in
    record {
      more = length walk.1 + again + rest.more - (block.count + 6);
      took = omega (arith, rest.took);
      few = omega (arith, rest.few, here.0, here.1);
    }

-- the count of frames by another sum
same_frames : (pace : Pace) (unit : ℕ) (plan : Plan) (outcomes : List (Option (List ℕ))) (told : List Exchange)
    (walk : Walk unit plan outcomes told (Finish Done)) (all frames others : ℕ) → all ≡ frames
    → Frames pace unit plan outcomes told (Finish Done) walk all others
    → Frames pace unit plan outcomes told (Finish Done) walk frames others
same_frames pace unit plan outcomes told walk all frames others sum rest =
    record { more = rest.more; took = omega (arith, rest.took); few = rest.few }

as_many : (pace : Pace) (wanted : List (ℕ × ℕ)) (unit : ℕ) (plan : Plan) (frames all : ℕ) → frames ≡ all
    → TakesDone pace wanted unit plan frames → TakesDone pace wanted unit plan all
as_many pace wanted unit plan frames all same takes = subst (TakesDone pace wanted unit plan) same takes

-- and they are fewer by what one other byte allows
one_other : (pace : Pace) (unit : ℕ) (plan : Plan) (outcomes : List (Option (List ℕ))) (told : List Exchange)
    (walk : Walk unit plan outcomes told (Finish Done)) (again all frames others : ℕ)
    → pace ≡ Short → again ≤ other_frames Short → all ≡ again + frames
    → Frames pace unit plan outcomes told (Finish Done) walk all others
    → Frames pace unit plan outcomes told (Finish Done) walk frames (1 + others)
one_other Checked unit plan outcomes told walk again all frames others short within sum rest = cc
one_other Short unit plan outcomes told walk again all frames others short within sum rest =
    record { more = again + rest.more; took = omega (arith, rest.took); few = omega (arith, rest.few) }

-- A walk of the plan after a row that failed or told other bytes: it takes `again` more frames to read the row again,
-- which eight misses allow, or one other byte.
record DoneAgain (pace : Pace) (wanted : List (ℕ × ℕ)) (unit : ℕ) (failed : Plan) (outcomes : List (Option (List ℕ)))
    (told older : List Exchange) (walk : Walk unit failed outcomes told (Finish Done)) (count frames : ℕ) : Type 0 where
  short : pace ≡ Short
  many : most_once < count
  again : ℕ
  least : count + 6 ≤ again
  most : again ≤ 4 * count + 3
  within : again ≤ other_frames Short
  done : DoneIn pace wanted unit failed outcomes told older walk (again + frames)

abbrev TakesAgain : Pace → List (ℕ × ℕ) → ℕ → Plan → ℕ → ℕ → Type 0
TakesAgain pace wanted unit failed count frames =
    (outcomes : List (Option (List ℕ))) (told older : List Exchange)
    (walk : Walk unit failed outcomes told (Finish Done))
    → DoneAgain pace wanted unit failed outcomes told older walk count frames

-- a walk after a row that was read, whether it told its bytes or not
record DoneBehind (count : ℕ) (pace : Pace) (wanted : List (ℕ × ℕ)) (unit : ℕ) (plan : Plan)
    (outcomes : List (Option (List ℕ)))
    (told older : List Exchange) (walk : Walk unit plan outcomes told (Finish Done)) (held : Bool) (frames : ℕ) : Type 0
  where
    again : ℕ
    done : DoneIn pace wanted unit plan outcomes told older walk (again + frames)
    cost : (again ≡ 0) ⊎ ((held ≡ false) × (pace ≡ Short) × (again ≤ other_frames Short) × (most_once < count))

row_is : (count : ℕ) → row_frames count ≡ count + 6
row_is count = block_frames_are 0 (block 0 count)

expect_took : (pace : Pace) (wanted : List (ℕ × ℕ)) (unit : ℕ) (failed : Plan) (location : ℕ) (bytes : List ℕ)
    (after : Plan) (frames : ℕ)
    → length bytes ≤ most_of pace → AllInRow (Has wanted) location bytes
    → TakesAgain pace wanted unit failed (length bytes) frames → TakesDone pace wanted unit after frames
    → TakesDone pace wanted unit (expect failed location bytes after) (row_frames (length bytes) + frames)
expect_took pace wanted unit failed location bytes after frames few all again rest [] told older walk =
    let differs = walk.1 in cc
expect_took Checked wanted unit failed location bytes after frames few all again rest (None ∷ outcomes) told older
    walk =
    let never = (again outcomes walk.0 (walk.1 ++ older) walk.4).short in cc
expect_took Short wanted unit failed location bytes after frames few all again rest (None ∷ outcomes) told older walk =
    let one = again outcomes walk.0 (walk.1 ++ older) walk.4 in
    let whole =
    again_first unit (block location (length bytes)) _ outcomes told walk frames one.again one.done.others few one.least
    one.most one.done.frames_are in
    record {
      others = one.done.others;
      among = omega (
        arith,
        joined_others wanted told walk.0 walk.1 older 0 one.done.others walk.2
            (none_other wanted walk.1 older) one.done.among,
      );
      frames_are = same_frames Short unit _ (None ∷ outcomes) told walk (length bytes + 6 + frames) _
          one.done.others (omega (arith, row_is (length bytes))) whole;
    }
expect_took pace wanted unit failed location bytes after frames few all again rest (Some read ∷ outcomes) told older
    walk =
    finish (by (bytes_eq read bytes) walk.0 walk.4)
  where
    base : List Exchange
    base = walk.1 ++ older

    -- after the row
    by : (held : Bool) (newer : List Exchange)
        (on : Walk unit (if held then after else failed) outcomes newer (Finish Done))
        → DoneBehind (length bytes) pace wanted unit (if held then after else failed) outcomes newer base on held frames
    by true newer on =
        let r = rest outcomes newer base on in
        record {
          again = 0;
          done = record {
            others = r.others;
            among = r.among;
            frames_are =
                same_frames pace unit after outcomes newer on frames (0 + frames) r.others (omega arith) r.frames_are;
          };
          cost = inl refl;
        }
    by false newer on =
        let r = again outcomes newer base on in
        record { again = r.again; done = r.done; cost = inr (refl, r.short, r.within, r.many) }

    finish : DoneBehind (length bytes) pace wanted unit (if bytes_eq read bytes then after else failed) outcomes
        walk.0 base walk.4
        (bytes_eq read bytes) frames
        → DoneIn pace wanted unit (expect failed location bytes after) (Some read ∷ outcomes) told older walk
        (row_frames (length bytes) + frames)
    finish b =
        let here = block_frames_are unit (block location (length bytes)) in
        let left = b.again + frames in
        let whole =
        access_first pace unit (ReadFrom (block location (length bytes))) _ read outcomes told (Finish Done) walk left
        (row_frames (length bytes) + left) b.done.others (short_row pace location (length bytes) few)
        (omega (arith, row_is (length bytes))) b.done.frames_are in
        elim b.cost [
          | inl none ↦ record {
            others = b.done.others;
            among = omega (
              arith,
              joined_others wanted told walk.0 walk.1 older 0 b.done.others walk.2
                  (none_other wanted walk.1 older) b.done.among,
            );
            frames_are = same_frames pace unit _ (Some read ∷ outcomes) told walk (row_frames (length bytes) + left) _
                b.done.others (omega (arith, none)) whole;
          }
          | inr (differs, short, within, many) ↦ record {
            others = 1 + b.done.others;
            among = joined_others wanted told walk.0 walk.1 older 1 b.done.others walk.2
                (told_other wanted unit location bytes read walk.1 older (was_answered _ read walk.1 walk.3) all
                differs many) b.done.among;
            frames_are = one_other pace unit _ (Some read ∷ outcomes) told walk b.again
                (row_frames (length bytes) + left) _ b.done.others short within (omega arith) whole;
          }
        ]

-- a plan that gives up never ends so
give_up_took : (pace : Pace) (wanted : List (ℕ × ℕ)) (unit count frames : ℕ)
    → TakesAgain pace wanted unit give_up count frames
give_up_took pace wanted unit count frames outcomes told older walk = absurd (never_done unit outcomes told walk)

all_took : (wanted : List (ℕ × ℕ)) (unit : ℕ) (some : List (ℕ × List ℕ)) (after : Plan) (frames : ℕ) → Small 2 some
    → AllInRows (Has wanted) some → TakesDone Short wanted unit after frames
    → TakesDone Short wanted unit (expect_all some after) (rows_frames some + frames)
all_took wanted unit [] after frames small all rest =
    as_many Short wanted unit after frames (0 + frames) (omega arith) rest
all_took wanted unit (row ∷ some) after frames small all rest =
    as_many Short wanted unit (expect_all (row ∷ some) after)
    (row_frames (length row.1) + (rows_frames some + frames)) _ (omega arith)
    (expect_took Short wanted unit give_up row.0 row.1 (expect_all some after) (rows_frames some + frames)
    (omega (arith, small.0)) all.0 (give_up_took Short wanted unit (length row.1) (rows_frames some + frames))
    (all_took wanted unit some after frames small.1 all.1 rest))

again_took : (pace : Pace) (wanted : List (ℕ × ℕ)) (unit location : ℕ) (bytes : List ℕ) (after : Plan) (frames : ℕ)
    (again : Bool)
    → nat_lt most_once (length bytes) ≡ again → length bytes ≤ most_of pace → AllInRow (Has wanted) location bytes
    → TakesDone pace wanted unit after frames
    → TakesAgain pace wanted unit (if again then expect_all (pieces_of location bytes) after else give_up)
    (length bytes) frames
again_took pace wanted unit location bytes after frames false is few all rest outcomes told older walk =
    give_up_took pace wanted unit (length bytes) frames outcomes told older walk
again_took Checked wanted unit location bytes after frames true is few all rest outcomes told older walk =
    absurd (omega (arith, ltb-true most_once (length bytes) is))
again_took Short wanted unit location bytes after frames true is few all rest outcomes told older walk =
    let below = ltb-true most_once (length bytes) is in
    let count = pieces_bytes location bytes in
    let rows = rows_frames_are (pieces_of location bytes) in
    let some = pieces_some location bytes (omega arith) in
    let most = pieces_few location bytes in
    record {
      short = refl;
      many = below;
      again = rows_frames (pieces_of location bytes);
      least = omega arith;
      most = omega arith;
      within = omega arith;
      done = all_took wanted unit (pieces_of location bytes) after frames (pieces_small location bytes)
          (row_pieces (Has wanted) location bytes all) rest outcomes told older walk;
    }

read_back_took : (pace : Pace) (wanted : List (ℕ × ℕ)) (unit : ℕ) (some : List (ℕ × List ℕ)) → Small (most_of pace) some
    → AllInRows (Has wanted) some → TakesDone pace wanted unit (read_back some) (rows_frames some)
read_back_took pace wanted unit [] small all [] told older walk =
    let none = ap (λ (t : List Exchange). length t) walk.0 in
    record {
      others = 0;
      among = none_other wanted told older;
      frames_are = record { more = 0; took = omega arith; few = omega arith };
    }
read_back_took pace wanted unit [] small all (o ∷ outcomes) told older walk = absurd walk.3
read_back_took pace wanted unit (row ∷ some) small all outcomes told older walk =
    let rest = read_back_took pace wanted unit some small.1 all.1 in
    expect_took pace wanted unit (read_again row.0 row.1 (read_back some)) row.0 row.1 (read_back some)
    (rows_frames some) small.0 all.0
    (again_took pace wanted unit row.0 row.1 (read_back some) (rows_frames some) (nat_lt most_once (length row.1)) refl
    small.0 all.0 rest) rest outcomes told older walk

-- a write, after which the session goes on or gives up
write_took : (pace : Pace) (wanted : List (ℕ × ℕ)) (unit : ℕ) (access : Access) (after : Plan) (frames : ℕ)
    → IsShort pace access → TakesDone pace wanted unit after frames
    → TakesDone pace wanted unit (Make access (either_way give_up (λ bytes. after)))
    (length (access_requests unit access 0) + frames)
write_took pace wanted unit access after frames short rest [] told older walk = let differs = walk.1 in cc
write_took pace wanted unit access after frames short rest (None ∷ outcomes) told older walk =
    absurd (never_done unit outcomes walk.0 walk.4)
write_took pace wanted unit access after frames short rest (Some bytes ∷ outcomes) told older walk =
    let r = rest outcomes walk.0 (walk.1 ++ older) walk.4 in
    record {
      others = r.others;
      among = omega (
        arith,
        joined_others wanted told walk.0 walk.1 older 0 r.others walk.2
            (none_other wanted walk.1 older) r.among,
      );
      frames_are = access_first pace unit access _ bytes outcomes told (Finish Done) walk frames
          (length (access_requests unit access 0) + frames) r.others short refl r.frames_are;
    }

next_is : (pace : Pace) (unit before location byte : ℕ)
    → length (access_requests unit (write_next pace before location byte) 0) ≡ next_frames pace before location
next_is Checked unit before location byte = refl
next_is Short unit before location byte = by (up before == location) where
  by : (moved : Bool) → length (put_requests moved unit location byte) ≡ length (put_requests moved 0 0 0)
  by true = refl
  by false = refl

-- all that is read back
abbrev back_frames : Pace → List (ℕ × ℕ) → ℕ
back_frames pace updates = rows_frames (rows_of (most_of pace) (read_backs updates))

write_on_took : (pace : Pace) (unit : ℕ) (updates : List (ℕ × ℕ)) (before : ℕ) (left : List (ℕ × ℕ))
    → TakesDone pace (read_backs updates) unit (write_on pace updates before left)
    (writes_frames pace before left + back_frames pace updates)
write_on_took pace unit updates before [] =
    as_many pace (read_backs updates) unit (write_on pace updates before []) _ _
    (omega (arith, next_is pace unit before 2 0xFF))
    (write_took pace (read_backs updates) unit (write_next pace before 2 0xFF) (read_all_back pace updates) _
    (short_next pace before 2 0xFF)
    (read_back_took pace (read_backs updates) unit (rows_of (most_of pace) (read_backs updates))
    (rows_small (most_of pace) (read_backs updates) (least_most pace))
    (rows_hold (Has (read_backs updates)) (most_of pace) (read_backs updates) (λ location byte has. has))))
write_on_took pace unit updates before (update ∷ left) =
    as_many pace (read_backs updates) unit (write_on pace updates before (update ∷ left)) _ _
    (omega (arith, next_is pace unit before update.0 update.1))
    (write_took pace (read_backs updates) unit (write_next pace before update.0 update.1)
    (write_on pace updates update.0 left) _ (short_next pace before update.0 update.1)
    (write_on_took pace unit updates update.0 left))

-- after older exchanges, of whose other bytes none is counted
pub done_took_on : (told older : List Exchange) (unit : ℕ) (pace : Pace) (updates : List (ℕ × ℕ))
    → Wants unit (unlock pace updates) told (Ended Done)
    → (others : ℕ) × HasOthers (read_backs updates) told older others
    × Took pace unit (unlock pace updates) told Done (done_frames pace updates) others
done_took_on told older unit pace updates wants =
    let walk = ended_walk unit (unlock pace updates) told Done wants in
    let takes =
    as_many pace (read_backs updates) unit (unlock pace updates) _ (done_frames pace updates) (omega arith)
    (write_took pace (read_backs updates) unit (WriteTo 2 0x55) (write_on pace updates 2 updates) _
    (short_to pace 2 0x55) (write_on_took pace unit updates 2 updates)) in
    let done = takes walk.0 told older walk.1 in
    let frames = done.frames_are in (
      done.others,
      done.among,
      record { outcomes = walk.0; walk = walk.1; more = frames.more; took = frames.took; few = frames.few },
    )

-- as many as there are
all_others : (pace : Pace) (unit : ℕ) (plan : Plan) (told : List Exchange) (verdict : Verdict) (frames some all : ℕ)
    → some ≤ all → Took pace unit plan told verdict frames some → Took pace unit plan told verdict frames all
all_others Checked unit plan told verdict frames some all le t =
    record { outcomes = t.outcomes; walk = t.walk; more = t.more; took = t.took; few = omega (arith, t.few) }
all_others Short unit plan told verdict frames some all le t =
    record { outcomes = t.outcomes; walk = t.walk; more = t.more; took = t.took; few = omega (arith, t.few) }

pub done_took : (told : List Exchange) (unit : ℕ) (pace : Pace) (updates : List (ℕ × ℕ))
    → Wants unit (unlock pace updates) told (Ended Done)
    → Took pace unit (unlock pace updates) told Done (done_frames pace updates) (others_in (read_backs updates) told)
done_took told unit pace updates wants =
    let (some, among, took) = done_took_on told [] unit pace updates wants in
    let all : some ≤ others_in (read_backs updates) told =
    subst (λ (t : List Exchange). some ≤ others_in (read_backs updates) t) (append-nil told) (omega (arith, among)) in
    all_others pace unit (unlock pace updates) told Done (done_frames pace updates) some
    (others_in (read_backs updates) told) all took

-- the frames of the writes, in numbers
pub writes_checked : (before : ℕ) (left : List (ℕ × ℕ)) → writes_frames Checked before left ≡ 7 * length left + 7
writes_checked before [] = refl
writes_checked before (update ∷ left) = let rest = writes_checked update.0 left in omega arith

one_more : (moved : Bool) → length (put_requests moved 0 0 0) ≡ 3 + (if moved then 0 else 1)
one_more true = refl
one_more false = refl

pub writes_short : (before : ℕ) (left : List (ℕ × ℕ))
    → writes_frames Short before left ≡ 3 * length left + 3 + jumps before left
writes_short before [] = let here = one_more (up before == 2) in omega arith
writes_short before (update ∷ left) =
    let rest = writes_short update.0 left in
    let here = one_more (up before == update.0) in
    omega arith
