-- How many frames a session takes that looks at a bank, closes it or reads it.
use Rattle.std.proofs.Common.{◌≡◌, ◌≢◌, inl, inr, refl, ap, ℕ, zero, suc, ◌+◌, ◌-◌, ◌*◌, ◌<◌, ◌≤◌, min, Bool, true}
use Rattle.std.proofs.Common.{false, ◌==◌, ◌&&◌, nat_lt, if◌then◌else◌, List, [], ◌∷◌, length, length-append, Option}
use Rattle.std.proofs.Common.{Some, None, get_or, arith}
use Rattle.std.proofs.lemmas.Bool.{lt-ltb, le-ltb}
use Rattle.dali_write.specs.Exchanges.{Exchange}
use Rattle.dali_write.specs.declared.request.Request.{Request}
use Rattle.dali_write.specs.declared.access.Access.{Access}
use Rattle.dali_write.specs.declared.access.Access.TheVariants.{ReadFrom, WriteTo}
use Rattle.dali_write.specs.declared.ask.Verdict.{Verdict}
use Rattle.dali_write.specs.declared.ask.Verdict.TheVariants.{MayOpen, Short, Format, Silent, Closed, NotClosed, Read}
use Rattle.dali_write.specs.declared.ask.Ask.TheVariants.{Ended}
use Rattle.dali_write.specs.Requests.{block, access_requests}
use Rattle.dali_write.specs.Frames.{read_frames, write_frames, miss_frames}
use Rattle.dali_write.specs.Counts.{read_all_frames}
use Rattle.dali_write.specs.Plans.{Plan, Finish, Make, either_way, greatest, read_at, read_format_low, read_format}
use Rattle.dali_write.specs.Plans.{read_length, read_closed, close, read_on, read_all}
use Rattle.dali_write.specs.Tries.{most_tries, Misses, AccessEnds, Wants}
use Rattle.dali_write.specs.Walks.{Walk, access_misses, Took, TookAll}
use Rattle.dali_write.proofs.WalkLemmas.{ended_walk}
use Rattle.dali_write.proofs.CountLemmas.{misses_length}
use Rattle.dali_write.proofs.AccessFramesLemmas.{Frames, and_rest, access_first, short_to, short_row, least_most}
use Rattle.dali_write.proofs.BlockOneLemmas.{access_tells_one}
use Rattle.dali_write.proofs.VerdictLemmas.{finish_walk}
use Rattle.dali_write.specs.declared.pace.Pace.{Pace}
use Rattle.dali_write.specs.declared.pace.Pace.TheVariants.{Checked, Short as ShortPace}
use Rattle.dali_write.specs.Frames.{row_frames, format_frames}
use Rattle.dali_write.specs.Plans.{most_of, either_way, judge_format}
use Rattle.dali_write.proofs.CountLemmas.{longest}
use Rattle.dali_write.proofs.BlockShapeLemmas.{block_frames_are}
use Rattle.dali_write.specs.Plans.{judge_length}

-- each walk of the plan to the verdict takes `frames` frames, and more only for misses
abbrev Takes : Pace → ℕ → Plan → Verdict → ℕ → Type 0
Takes pace unit plan verdict frames =
    (outcomes : List (Option (List ℕ))) (told : List Exchange) (walk : Walk unit plan outcomes told (Finish verdict))
    → Frames pace unit plan outcomes told (Finish verdict) walk frames 0

-- no walk of the plan leads to the verdict
abbrev Never : ℕ → Plan → Verdict → Type 0
Never unit plan verdict =
    (outcomes : List (Option (List ℕ))) (told : List Exchange) → Walk unit plan outcomes told (Finish verdict) → ⊥

takes_none : (pace : Pace) (unit : ℕ) (end verdict : Verdict) → Takes pace unit (Finish end) verdict 0
takes_none pace unit end verdict [] told walk =
    let none = ap (λ (t : List Exchange). length t) walk.0 in record { more = 0; took = omega arith; few = omega arith }
takes_none pace unit end verdict (o ∷ outcomes) told walk = absurd walk.3

-- if there is no walk, any number will do
takes_any : (pace : Pace) (unit : ℕ) (plan : Plan) (verdict : Verdict) (frames : ℕ) → Never unit plan verdict
    → Takes pace unit plan verdict frames
takes_any pace unit plan verdict frames never outcomes told walk = absurd (never outcomes told walk)

ends_not : (unit : ℕ) (end verdict : Verdict) → end ≢ verdict → Never unit (Finish end) verdict
ends_not unit end verdict differs outcomes told walk = grind (arith, finish_walk)

-- a read, after which the session goes on with what was read or is silent
block_takes : (pace : Pace) (unit location count : ℕ) (found : List ℕ → Plan) (failed verdict : Verdict)
    (frames : ℕ) → count ≤ most_of pace → failed ≢ verdict
    → ((bytes : List ℕ) → Takes pace unit (found bytes) verdict frames)
    → Takes pace unit (Make (ReadFrom (block location count)) (either_way (Finish failed) found)) verdict
    (row_frames count + frames)
block_takes pace unit location count found failed verdict frames few differs rest [] told walk = let no = walk.1 in cc
block_takes pace unit location count found failed verdict frames few differs rest (None ∷ outcomes) told walk =
    grind (arith, ends_not)
block_takes pace unit location count found failed verdict frames few differs rest (Some bytes ∷ outcomes) told walk =
    access_first pace unit (ReadFrom (block location count)) _ bytes outcomes told (Finish verdict) walk frames
    (row_frames count + frames) 0 (short_row pace location count few)
    (omega (arith, block_frames_are unit (block location count), block_frames_are 0 (block 0 count)))
    (rest bytes outcomes walk.0 walk.4)

read_takes : (pace : Pace) (unit location : ℕ) (found : ℕ → Plan) (failed verdict : Verdict) (frames : ℕ)
    → failed ≢ verdict
    → ((byte : ℕ) → Takes pace unit (found byte) verdict frames)
    → Takes pace unit (read_at location (Finish failed) found) verdict (read_frames + frames)
read_takes pace unit location found failed verdict frames differs rest =
    block_takes pace unit location 1 (λ read. found (get_or read 0 0)) failed verdict frames (least_most pace) differs
    (λ read. rest (get_or read 0 0))

read_never : (unit location : ℕ) (found : ℕ → Plan) (failed verdict : Verdict) → failed ≢ verdict
    → ((byte : ℕ) → Never unit (found byte) verdict)
    → Never unit (read_at location (Finish failed) found) verdict
read_never unit location found failed verdict differs rest [] told walk = let no = walk.1 in cc
read_never unit location found failed verdict differs rest (None ∷ outcomes) told walk = grind (arith, ends_not)
read_never unit location found failed verdict differs rest (Some bytes ∷ outcomes) told walk = grind arith

-- a fresh session

format_takes : (pace : Pace) (unit : ℕ) (verdict : Verdict) → Silent ≢ verdict
    → Takes pace unit (read_format pace) verdict (format_frames pace)
format_takes Checked unit verdict differs =
    read_takes Checked unit 0x11 read_format_low Silent verdict read_frames differs
    (λ high. read_takes Checked unit 0x12 (judge_format high) Silent verdict 0 differs
    (λ low. takes_none Checked unit _ verdict))
format_takes ShortPace unit verdict differs =
    block_takes ShortPace unit 0x11 2 _ Silent verdict 0 (omega arith) differs
    (λ read. takes_none ShortPace unit _ verdict)

not_short : (b : Bool) → (if b then MayOpen else Format) ≢ Short
not_short true = λ e. cc
not_short false = λ e. cc

-- no walk of the short plan's read of the format leads to it either
block_never_short : (unit : ℕ) → Never unit (read_format ShortPace) Short
block_never_short unit [] told walk = let no = walk.1 in cc
block_never_short unit (None ∷ outcomes) told walk = ends_not unit Silent Short (λ e. cc) outcomes walk.0 walk.4
block_never_short unit (Some read ∷ outcomes) told walk =
    ends_not unit _ Short (not_short ((get_or read 0 0 == 0) && (get_or read 1 0 == 3))) outcomes walk.0 walk.4

format_never_short : (pace : Pace) (unit : ℕ) → Never unit (read_format pace) Short
format_never_short Checked unit =
    read_never unit 0x11 read_format_low Silent Short (λ e. cc)
    (λ high. read_never unit 0x12 _ Silent Short (λ e. cc)
    (λ low. ends_not unit _ Short (not_short ((high == 0) && (low == 3)))))
format_never_short ShortPace unit = block_never_short unit

-- the plan after the length: the first test says whether the bank is too short, and the second whether all locations
-- are below 13h, so that the format doesn't matter
abbrev judged : Pace → Bool → Bool → Plan
judged pace short below = if short then Finish Short else (if below then Finish MayOpen else read_format pace)

judged_short : (pace : Pace) (unit : ℕ) (short below : Bool) → Takes pace unit (judged pace short below) Short 0
judged_short pace unit true below = takes_none pace unit Short Short
judged_short pace unit false true =
    takes_any pace unit (Finish MayOpen) Short 0 (ends_not unit MayOpen Short (λ e. cc))
judged_short pace unit false false = takes_any pace unit (read_format pace) Short 0 (format_never_short pace unit)

judged_low : (pace : Pace) (unit : ℕ) (short below : Bool) → below ≡ true
    → Takes pace unit (judged pace short below) MayOpen 0
judged_low pace unit true below is = takes_none pace unit Short MayOpen
judged_low pace unit false true is = takes_none pace unit MayOpen MayOpen
judged_low pace unit false false is = cc

judged_high : (pace : Pace) (unit : ℕ) (verdict : Verdict) (short below : Bool) → below ≡ false → Short ≢ verdict
    → Silent ≢ verdict → Takes pace unit (judged pace short below) verdict (format_frames pace)
judged_high pace unit verdict true below is one two = grind (arith, takes_any, ends_not)
judged_high pace unit verdict false true is one two = cc
judged_high pace unit verdict false false is one two = format_takes pace unit verdict two

judged_format : (pace : Pace) (unit : ℕ) (short below : Bool)
    → Takes pace unit (judged pace short below) Format (format_frames pace)
judged_format pace unit true below =
    takes_any pace unit (Finish Short) Format _ (ends_not unit Short Format (λ e. cc))
judged_format pace unit false true =
    takes_any pace unit (Finish MayOpen) Format _ (ends_not unit MayOpen Format (λ e. cc))
judged_format pace unit false false = format_takes pace unit Format (λ e. cc)

length_takes : (pace : Pace) (unit : ℕ) (updates : List (ℕ × ℕ)) (verdict : Verdict) (frames : ℕ) → Silent ≢ verdict
    → ((short : Bool) → Takes pace unit (judged pace short (nat_lt (greatest updates) 0x13)) verdict frames)
    → Takes pace unit (read_length pace updates) verdict (read_frames + frames)
length_takes pace unit updates verdict frames differs rest =
    read_takes pace unit 0 (judge_length pace updates) Silent verdict frames differs
    (λ last. rest (nat_lt last (greatest updates)))

took : (pace : Pace) (unit : ℕ) (plan : Plan) (told : List Exchange) (verdict : Verdict) (frames : ℕ)
    → Takes pace unit plan verdict frames → Wants unit plan told (Ended verdict)
    → Took pace unit plan told verdict frames 0
took pace unit plan told verdict frames takes wants =
    let walk = ended_walk unit plan told verdict wants in
    let all = takes walk.0 told walk.1 in
    record { outcomes = walk.0; walk = walk.1; more = all.more; took = all.took; few = all.few }

pub short_took : (told : List Exchange) (unit : ℕ) (pace : Pace) (updates : List (ℕ × ℕ))
    → Wants unit (read_length pace updates) told (Ended Short)
    → Took pace unit (read_length pace updates) told Short read_frames 0
short_took told unit pace updates wants =
    took pace unit (read_length pace updates) told Short read_frames
    (length_takes pace unit updates Short 0 (λ e. cc) (λ short. judged_short pace unit short _)) wants

pub low_took : (told : List Exchange) (unit : ℕ) (pace : Pace) (updates : List (ℕ × ℕ)) → greatest updates < 0x13
    → Wants unit (read_length pace updates) told (Ended MayOpen)
    → Took pace unit (read_length pace updates) told MayOpen read_frames 0
low_took told unit pace updates below wants =
    let is = lt-ltb (greatest updates) 0x13 below in
    took pace unit (read_length pace updates) told MayOpen read_frames
    (length_takes pace unit updates MayOpen 0 (λ e. cc) (λ short. judged_low pace unit short _ is)) wants

pub high_took : (told : List Exchange) (unit : ℕ) (pace : Pace) (updates : List (ℕ × ℕ)) → 0x13 ≤ greatest updates
    → Wants unit (read_length pace updates) told (Ended MayOpen)
    → Took pace unit (read_length pace updates) told MayOpen (read_frames + format_frames pace) 0
high_took told unit pace updates high wants =
    let is = le-ltb (greatest updates) 0x13 high in
    took pace unit (read_length pace updates) told MayOpen (read_frames + format_frames pace)
    (length_takes pace unit updates MayOpen (format_frames pace) (λ e. cc)
    (λ short. judged_high pace unit MayOpen short _ is (λ e. cc) (λ e. cc)))
    wants

pub format_took : (told : List Exchange) (unit : ℕ) (pace : Pace) (updates : List (ℕ × ℕ))
    → Wants unit (read_length pace updates) told (Ended Format)
    → Took pace unit (read_length pace updates) told Format (read_frames + format_frames pace) 0
format_took told unit pace updates wants =
    took pace unit (read_length pace updates) told Format (read_frames + format_frames pace)
    (length_takes pace unit updates Format (format_frames pace) (λ e. cc)
    (λ short. judged_format pace unit short _)) wants

-- a closing session

-- each missed try has a frame
misses_take : (requests : ℕ → List Request) (misses : ℕ) (told : List Exchange) → Misses requests misses told
    → misses ≤ length told
misses_take requests zero told is = omega arith
misses_take requests (suc misses) told is =
    grind (arith, misses_take requests misses is.1 is.4, length-append is.0 is.1)

-- an access that failed took no fewer frames than a write that succeeds, and no more than its misses allow
failed_frames : (unit : ℕ) (access : Access) (after : Option (List ℕ) → Plan) (told : List Exchange)
    → length (access_requests unit access 1) ≤ miss_frames Checked
    → (ends : AccessEnds unit (Make access after) None told)
    → (more : ℕ) × (length told ≡ write_frames + more)
    × (more ≤ miss_frames Checked * access_misses unit (Make access after) None told ends)
failed_frames unit access after told short (inl done) = let never = done.5 in cc
failed_frames unit access after told short (inr failed) =
    let least = misses_take (access_requests unit access) most_tries told failed.1 in
    let most = misses_length (access_requests unit access) most_tries told (longest unit access) failed.1 in
    (length told - write_frames, omega arith, omega arith)

read_closed_takes : (unit : ℕ) → Takes Checked unit (read_closed Closed NotClosed) Closed read_frames
read_closed_takes unit =
    read_takes Checked unit 2 (λ byte. Finish Closed) NotClosed Closed 0 (λ e. cc)
    (λ byte. takes_none Checked unit Closed Closed)

close_takes : (unit : ℕ) → Takes Checked unit (close Closed NotClosed) Closed (write_frames + read_frames)
close_takes unit [] told walk = let no = walk.1 in cc
close_takes unit (None ∷ outcomes) told walk =
    and_rest Checked unit (WriteTo 2 0xFF) _ None outcomes told (Finish Closed) walk write_frames read_frames
    (write_frames + read_frames) 0
    (failed_frames unit (WriteTo 2 0xFF) (λ outcome. read_closed Closed NotClosed) walk.1 (omega arith) walk.3)
    refl (read_closed_takes unit outcomes walk.0 walk.4)
close_takes unit (Some byte ∷ outcomes) told walk =
    access_first Checked unit (WriteTo 2 0xFF) _ byte outcomes told (Finish Closed) walk read_frames
    (write_frames + read_frames) 0 (short_to Checked 2 0xFF) refl (read_closed_takes unit outcomes walk.0 walk.4)

pub closed_took : (told : List Exchange) (unit : ℕ) → Wants unit (close Closed NotClosed) told (Ended Closed)
    → Took Checked unit (close Closed NotClosed) told Closed (write_frames + read_frames) 0
closed_took told unit wants = grind (arith, took, close_takes)

-- a reading session

read_on_takes : (unit location left : ℕ) → Takes Checked unit (read_on location left) Read (left * read_frames)
read_on_takes unit location zero outcomes told walk = takes_none Checked unit Read Read outcomes told walk
read_on_takes unit location (suc left) outcomes told walk =
    let all = read_takes Checked unit location (λ byte. read_on (suc location) left) Silent Read (left * read_frames)
    (λ e. cc)
    (λ byte. read_on_takes unit (suc location) left) outcomes told walk in
    let sum = all.took in
    record { more = all.more; took = omega arith; few = all.few }

pub read_took : (told : List Exchange) (unit : ℕ) → Wants unit read_all told (Ended Read) → TookAll unit told
read_took told unit wants = let walk = ended_walk unit read_all told Read wants in by walk.0 walk.1
  where
    by : (outcomes : List (Option (List ℕ))) → Walk unit read_all outcomes told (Finish Read) → TookAll unit told
    by [] walk = let no = walk.1 in cc
    by (None ∷ outcomes) walk = absurd (ends_not unit Silent Read (λ e. cc) outcomes walk.0 walk.4)
    by (Some bytes ∷ outcomes) walk =
        let last = get_or bytes 0 0 in
        let on = read_on_takes unit 1 (min last 0xFE) outcomes walk.0 walk.4 in
        let reads = either_way (Finish Silent) (λ l. read_on 1 (min (get_or l 0 0) 0xFE)) in
        let all =
        access_first Checked unit (ReadFrom (block 0 1)) reads bytes outcomes told (Finish Read) walk
        (min last 0xFE * read_frames) (read_all_frames last) 0 (short_row Checked 0 1 (omega arith)) (omega arith) on in
        record {
          last = last;
          rest = outcomes;
          took =
              record { outcomes = Some bytes ∷ outcomes; walk = walk; more = all.more; took = all.took; few = all.few };
          first = ap (λ (l : List ℕ). Some l ∷ outcomes) (access_tells_one unit 0 bytes walk.1 walk.3);
        }
