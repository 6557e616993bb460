-- The records at the front of bytes: updates, a Began, a whole group.
use Rattle.std.proofs.Common.{◌≡◌, ℕ, ◌+◌, ◌*◌, ◌^◌, ◌<◌, ◌≤◌, List, [], ◌∷◌, ◌++◌, length, take, drop, get_or}
use Rattle.std.proofs.Common.{refl, sym, ap, ◌∙◌, subst, arith, append_assoc, length-append, ◌≢◌, ◌⊎◌, inl, inr}
use Rattle.std.proofs.Math.Seq.{drop-append_seam}
use Rattle.std.proofs.lemmas.List.{append-nil, length-take, length-take-le, take-append-drop}
use Rattle.std.proofs.lemmas.Bool.{cases_lt}
use Rattle.std.specs.List.{AllByRecursion}
use Rattle.std.specs.Int.{w64, to_be_bytes, from_be_bytes}
use Rattle.dali_bank.specs.Order.{IsWritable, RisesAbove}
use Rattle.dali_journal.specs.declared.record.Code.{Code}
use Rattle.dali_journal.specs.declared.record.Record.{Record}
use Rattle.dali_journal.specs.declared.record.Record.TheVariants.{Began}
use Rattle.dali_journal.specs.declared.read.Pairs.TheVariants as lists
use Rattle.dali_journal.specs.declared.record.Code.TheVariants.{Done, Short, Format, Silent, Doubt, DoubtOpen}
use Rattle.dali_journal.specs.declared.version.Version.{Version}
use Rattle.dali_journal.specs.declared.version.Version.TheVariants.{One, Two}
use Rattle.dali_journal.specs.Spelling.{head_spelling, spelling, pairs_spelling, records_spelling, IsMoment}
use Rattle.dali_journal.specs.GroupAhead.{AreUpdatesAbove, HasUpdates, HasBegan, HasEnd, HasGroup}
use Rattle.dali_journal.specs.GroupAhead.{last_location, end_records}
use Rattle.dali_journal.specs.Reading.{IsRead}
use Rattle.dali_journal.specs.Decoding.{began_piece, head_length}
use Rattle.dali_journal.proofs.PairLemmas.{AreBytes, climb, length-climb}
use Rattle.dali_journal.proofs.PieceLemmas.{length-pairs_spelling, reads-began, number-of, bytes-take, bytes-drop}
use Rattle.dali_journal.proofs.JournalLemmas.{pairs_in_range}
use Rattle.dali_journal.proofs.TornLemmas.{bytes_front}

-- the two bytes in front
pub two_front : (bytes : List ℕ) → 2 ≤ length bytes
    → get_or (take 2 bytes) 0 0 ∷ get_or (take 2 bytes) 1 0 ∷ drop 2 bytes ≡ bytes
two_front [] h = absurd (omega arith)
two_front (first ∷ []) h = absurd (omega arith)
two_front (first ∷ second ∷ rest) h = refl

-- one update in front of others
pub one_more : (low : ℕ) (bytes two after : List ℕ) → two ≡ take 2 bytes → after ≡ drop 2 bytes
    → length after + 2 ≡ length bytes
    → low < get_or two 0 0 → get_or two 0 0 ≢ 0x11 → get_or two 0 0 ≢ 0x12
    → AreUpdatesAbove (get_or two 0 0) after → AreUpdatesAbove low bytes
one_more low bytes two after t a long above first second has = record {
  updates = (get_or two 0 0, get_or two 1 0) ∷ has.updates;
  rest = has.rest;
  spelled =
      sym (two_front bytes (omega arith)) ∙ (λ j. get_or (sym t j) 0 0 ∷ get_or (sym t j) 1 0 ∷ sym a j)
      ∙ ap (λ bs. get_or two 0 0 ∷ get_or two 1 0 ∷ bs) has.spelled;
  short = has.short;
  rising = (above, has.rising);
  outside = (beside (get_or two 0 0) first second, has.outside);
  high = has.high;
}
  where
    beside : (location : ℕ) → location ≢ 0x11 → location ≢ 0x12 → (location ≤ 0x10) ⊎ (0x13 ≤ location)
    beside location first second = elim (cases_lt location 0x11) [
      | inl below ↦ inl (omega arith)
      | inr above ↦ inr (omega arith)
    ]

-- if locations rise, none is above the last
last_above : (low : ℕ) (updates : List (ℕ × ℕ)) → RisesAbove low updates → low ≤ last_location low updates
last_above low [] rises = omega arith
last_above low (update ∷ updates) rises = omega (arith, rises.0, last_above update.0 updates rises.1)

all_writable : (low : ℕ) (updates : List (ℕ × ℕ)) → 2 ≤ low → RisesAbove low updates
    → AllByRecursion (λ update. (update.0 ≤ 0x10) ⊎ (0x13 ≤ update.0)) updates → last_location low updates ≤ 0x77
    → AllByRecursion (λ update. IsWritable update.0) updates
all_writable low [] most rises outside high = tt
all_writable low (update ∷ updates) most rises outside high = (
  by outside.0,
  all_writable update.0 updates (omega (arith, rises.0)) rises.1 outside.1 high,
)
  where
    by : (update.0 ≤ 0x10) ⊎ (0x13 ≤ update.0) → IsWritable update.0
    by (inl below) = inl (omega (arith, rises.0), below)
    by (inr above) = inr (above, omega (arith, last_above update.0 updates rises.1))

rises_lower : (low lower : ℕ) (updates : List (ℕ × ℕ)) → lower ≤ low → RisesAbove low updates → RisesAbove lower updates
rises_lower low lower [] below rises = tt
rises_lower low lower (update ∷ updates) below rises = (omega (arith, rises.0), rises.1)

-- this many bytes at the front that are updates hold half as many updates
pub updates_there : (count most : ℕ) (bytes : List ℕ) → most ≡ 2 * count → most ≤ length bytes
    → AreUpdatesAbove 0x02 (take most bytes) → HasUpdates count 0 bytes
updates_there count most bytes twice within are = record {
  updates = are.updates;
  rest = are.rest ++ drop most bytes;
  spelled =
      sym (take-append-drop most bytes) ∙ ap (λ bs. bs ++ drop most bytes) are.spelled
      ∙ append_assoc (pairs_spelling are.updates) are.rest (drop most bytes);
  counted =
      (let long = sym (length-take-le most bytes within) ∙ ap length are.spelled in
      let parts = length-append (pairs_spelling are.updates) are.rest in
      let pairs = length-pairs_spelling are.updates in
      let short = are.short in omega arith);
  rising = rises_lower 0x02 0 are.updates (omega arith) are.rising;
  writable = all_writable 0x02 are.updates (omega arith) are.rising are.outside are.high;
}

-- a Began whose updates are there is there
began_whole : (version : Version) (id moment unit count : ℕ) (bytes rest : List ℕ) → AreBytes rest → id < 2 ^ 64
    → IsMoment version moment → unit ≤ 63 → 1 ≤ count
    → 0x42 ∷ head_spelling version id moment ++ unit ∷ count ∷ rest ≡ bytes → HasUpdates count 0 rest
    → HasBegan version id unit (head_length version + 2 * count) bytes
began_whole version id moment unit count bytes rest are i m u some same has =
    let in_range = pairs_in_range has.updates
    (bytes_front (pairs_spelling has.updates) has.rest (subst AreBytes has.spelled are)) in
    let climbs = climb 0 has.updates has.rising has.writable in_range in
    let few : count ≤ 115 = omega (arith, length-climb 0 has.updates climbs, has.counted) in
    let reads = reads-began version id moment unit count rest (lists.Whole (record { items = has.updates })) i m u some
    few (record { length_is = has.counted; rises = climbs }, has.rest, has.spelled) in
    let piece = began_piece version id moment unit count (lists.Whole (record { items = has.updates })) in
    let there = subst (λ (bs : List ℕ). IsRead version bs piece) same reads in
    record {
      order = record { id = id; unit = unit; updates = has.updates };
      moment = moment;
      begins = there.0;
      named = refl;
      unit_is = refl;
      counted = there.1;
    }

-- eight bytes in front of others are a number's
number_front : (bytes number behind : List ℕ) → AreBytes bytes → number ≡ take 8 bytes → behind ≡ drop 8 bytes
    → length behind + 8 ≡ length bytes
    → (from_be_bytes w64 number < 2 ^ 64) × (to_be_bytes w64 (from_be_bytes w64 number) ++ behind ≡ bytes)
    × AreBytes behind
number_front bytes number behind are n b long =
    let eight = number-of (take 8 bytes) (rw length-take (omega arith)) (bytes-take 8 bytes are) in (
      subst (λ (bs : List ℕ). from_be_bytes w64 bs < 2 ^ 64) (sym n) eight.0,
      (λ j. (ap (λ bs. to_be_bytes w64 (from_be_bytes w64 bs)) n ∙ eight.1) j ++ b j) ∙ take-append-drop 8 bytes,
      subst AreBytes (sym b) (bytes-drop 8 bytes are),
    )

pub began_there : (letter id : ℕ) (bytes rest number behind time after_time two after : List ℕ) → AreBytes bytes
    → bytes ≡ letter ∷ rest → letter ≡ 0x42
    → number ≡ take 8 rest → behind ≡ drop 8 rest → length behind + 8 ≡ length rest
    → time ≡ take 8 behind → after_time ≡ drop 8 behind → length after_time + 8 ≡ length behind
    → two ≡ take 2 after_time → after ≡ drop 2 after_time → length after + 2 ≡ length after_time
    → id ≡ from_be_bytes w64 number → get_or two 0 0 ≤ 63 → 1 ≤ get_or two 1 0
    → HasUpdates (get_or two 1 0) 0 after
    → HasBegan Two id (get_or two 0 0) (head_length Two + 2 * get_or two 1 0) bytes
began_there letter id bytes rest number behind time after_time two after are front is_b n b long m c longer t a more i u
    some has =
    let first = number_front rest number behind (subst AreBytes front are).1 n b long in
    let second = number_front behind time after_time first.2 m c longer in
    let pair : get_or two 0 0 ∷ get_or two 1 0 ∷ after ≡ after_time =
    (λ j. get_or (t j) 0 0 ∷ get_or (t j) 1 0 ∷ a j) ∙ two_front after_time (omega arith) in
    let behind_is = ap (λ bs. to_be_bytes w64 (from_be_bytes w64 time) ++ bs) pair ∙ second.1 in
    let rest_is : to_be_bytes w64 id ++ (to_be_bytes w64 (from_be_bytes w64 time)
    ++ get_or two 0 0 ∷ get_or two 1 0 ∷ after) ≡ rest =
    (λ j. to_be_bytes w64 (i j) ++ behind_is j) ∙ first.1 in
    let are_after : AreBytes (get_or two 0 0 ∷ get_or two 1 0 ∷ after) = subst AreBytes (sym pair) second.2 in
    began_whole Two id (from_be_bytes w64 time) (get_or two 0 0) (get_or two 1 0) bytes after are_after.1.1
    (subst (λ k. k < 2 ^ 64) (sym i) first.0) second.0 u some
    ((λ j. sym is_b j ∷ rest_is j) ∙ sym front) has

-- the same of version 1, if the moment is 0
pub old_began_there : (letter id : ℕ) (bytes rest number behind two after : List ℕ) → AreBytes bytes
    → bytes ≡ letter ∷ rest → letter ≡ 0x42
    → number ≡ take 8 rest → behind ≡ drop 8 rest → length behind + 8 ≡ length rest
    → two ≡ take 2 behind → after ≡ drop 2 behind → length after + 2 ≡ length behind
    → id ≡ from_be_bytes w64 number → get_or two 0 0 ≤ 63 → 1 ≤ get_or two 1 0
    → HasUpdates (get_or two 1 0) 0 after
    → HasBegan One id (get_or two 0 0) (head_length One + 2 * get_or two 1 0) bytes
old_began_there letter id bytes rest number behind two after are front is_b n b long t a more i u some has =
    let first = number_front rest number behind (subst AreBytes front are).1 n b long in
    let pair : get_or two 0 0 ∷ get_or two 1 0 ∷ after ≡ behind =
    (λ j. get_or (t j) 0 0 ∷ get_or (t j) 1 0 ∷ a j) ∙ two_front behind (omega arith) in
    let rest_is : to_be_bytes w64 id ++ get_or two 0 0 ∷ get_or two 1 0 ∷ after ≡ rest =
    (λ j. to_be_bytes w64 (i j) ++ pair j) ∙ first.1 in
    let are_after : AreBytes (get_or two 0 0 ∷ get_or two 1 0 ∷ after) = subst AreBytes (sym pair) first.2 in
    began_whole One id 0 (get_or two 0 0) (get_or two 1 0) bytes after are_after.1.1
    (subst (λ k. k < 2 ^ 64) (sym i) first.0) refl u some
    ((λ j. sym is_b j ∷ rest_is j) ∙ sym front) has

-- newer records come after older ones
pub spelled_append : (version : Version) (newer older : List Record)
    → records_spelling version (newer ++ older) ≡ records_spelling version older ++ records_spelling version newer
spelled_append version [] older = sym (append-nil (records_spelling version older))
spelled_append version (newest ∷ newer) older =
    ap (λ front. front ++ spelling version newest) (spelled_append version newer older)
    ∙ append_assoc (records_spelling version older) (records_spelling version newer) (spelling version newest)

pub spelling_append : (newer older : List Record)
    → records_spelling Two (newer ++ older) ≡ records_spelling Two older ++ records_spelling Two newer
spelling_append = spelled_append Two

-- a group's records after its Began are spelled alike in both versions
pub same_ends : (version : Version) (unit : ℕ) (code : Code)
    → records_spelling Two (end_records unit code) ≡ records_spelling version (end_records unit code)
same_ends version unit Done = refl
same_ends version unit Short = refl
same_ends version unit Format = refl
same_ends version unit Silent = refl
same_ends version unit Doubt = refl
same_ends version unit DoubtOpen = refl

-- a Began and the end of its group are the group
pub group_there : (version : Version) (id unit : ℕ) (code : Code) (len end : ℕ) (bytes : List ℕ)
    → HasBegan version id unit len bytes
    → HasEnd unit code end (drop len bytes) → HasGroup version id code (len + end) bytes
group_there version id unit code len end bytes began ended =
    let order = began.order in
    let ends : List Record = end_records order.unit code in
    let moment = began.moment in
    let head : List ℕ = spelling version (Began order moment) in
    let behind : drop len bytes ≡ began.begins.1 =
    (λ j. drop (began.counted j) (began.begins.2 j)) ∙ drop-append_seam head began.begins.1 in
    let unit_is : records_spelling Two (end_records unit code) ≡ records_spelling version ends =
    ap (λ u. records_spelling Two (end_records u code)) (sym began.unit_is) ∙ same_ends version order.unit code in
    let whole : records_spelling version (ends ++ Began order moment ∷ []) ≡ head ++ records_spelling version ends =
    spelled_append version ends (Began order moment ∷ []) in
    record {
      order = order;
      moment = moment;
      begins = began.begins;
      named = began.named;
      rest = ended.rest;
      spelled =
          began.begins.2
          ∙ ap (λ bs. head ++ bs)
          (sym behind ∙ ended.spelled ∙ ap (λ bs. bs ++ ended.rest) unit_is)
          ∙ sym (append_assoc head (records_spelling version ends) ended.rest)
          ∙ ap (λ bs. bs ++ ended.rest) (sym whole);
      counted =
          (let n = began.counted in let m = ended.counted ∙ ap length unit_is in
          let w = ap length whole ∙ length-append head (records_spelling version ends) in omega arith);
    }
