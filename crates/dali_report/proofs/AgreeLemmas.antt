-- The fields that are reported agree with what was found.
use Rattle.std.proofs.Common.{◌≡◌, ◌<◌, ◌≤◌, ◌+◌, ◌-◌, ◌∙◌, inl, inr, refl, sym, ap, true≢false, ℕ, Bool, true, false, cond}
use Rattle.std.proofs.Common.{List, [], ◌∷◌, ◌++◌, drop, length, map, get_or, slice_set, take, arith}
use Rattle.std.specs.Prelude.{◌≢◌, ⊤}
use Rattle.std.specs.List.{AllByRecursion, filter}
use Rattle.std.specs.Str.{bytes_eq}
use Rattle.std.proofs.lemmas.List.{get_or-drop, get_or-set_other, get_or-set_same, get_or-take, length-set}
use Rattle.std.proofs.lemmas.Bool.{cases_lt, le-ltb, lt-ltb}
use Rattle.std.proofs.lemmas.Slice.Eq.{bytes_eq-Decides}
use Rattle.dali_bank.specs.declared.field.Field.{Field}
use Rattle.dali_bank.specs.Blank.{blank_bank}
use Rattle.dali_bank.specs.Layout.{fields, first_of, length_of}
use Rattle.dali_bank.specs.Order.{AreUpdates, Contents, IsWritable, RisesAbove}
use Rattle.dali_bank.specs.Shown.{part_of}
use Rattle.dali_bank.proofs.LayoutLemmas.{at_each}
use Rattle.dali_write.specs.Plans.{greatest}
use Rattle.dali_read.specs.declared.finding.Finding.TheVariants.{Same, Other}
use Rattle.dali_read.specs.Findings.{IsFirstOther, IsFound, own_bytes, told_bytes}
use Rattle.dali_report.specs.Differences.{AreDifferences, Difference, as_told, differs, held_bank, updated, wanted_bank}

-- ---- the bytes read at the own locations

told_near : (updates : List (ℕ × ℕ)) (bytes more : List ℕ) (last : ℕ) → bytes ≡ last ∷ more
    → greatest updates < 0x13 → told_bytes updates bytes ≡ more
told_near updates bytes more last is near = rw (is, lt-ltb (greatest updates) 0x13 near) refl

told_far : (updates : List (ℕ × ℕ)) (bytes more : List ℕ) (last high low : ℕ) → bytes ≡ last ∷ high ∷ low ∷ more
    → 0x13 ≤ greatest updates → told_bytes updates bytes ≡ more
told_far updates bytes more last high low is far = rw (is, le-ltb (greatest updates) 0x13 far) refl

first_same : (updates : List (ℕ × ℕ)) (bytes : List ℕ) → IsFound updates bytes Same
    → IsFirstOther updates (told_bytes updates bytes) Same
first_same updates bytes (last, reaches, inl (more, is, near, first)) =
    rw (told_near updates bytes more last is near) first
first_same updates bytes (last, reaches, inr (more, is, far, first)) =
    rw (told_far updates bytes more last 0x00 0x03 is far) first

first_other : (updates : List (ℕ × ℕ)) (bytes : List ℕ) (location byte : ℕ)
    → IsFound updates bytes (Other location byte)
    → IsFirstOther updates (told_bytes updates bytes) (Other location byte)
first_other updates bytes location byte (last, reaches, inl (more, is, near, first)) =
    rw (told_near updates bytes more last is near) first
first_other updates bytes location byte (last, reaches, inr (more, is, far, first)) =
    rw (told_far updates bytes more last 0x00 0x03 is far) first

-- ---- if all is the same

own_told : (updates : List (ℕ × ℕ)) (more : List ℕ) → as_told updates (own_bytes updates ++ more) ≡ updates
own_told [] [] = refl
own_told [] (byte ∷ more) = refl
own_told (update ∷ updates) more = ap (λ (l : List (ℕ × ℕ)). update ∷ l) (own_told updates more)

none_differs : (bank : List ℕ) (some : List Field) → filter (differs bank bank) some ≡ []
none_differs bank [] = refl
none_differs bank (field ∷ some) =
    rw ((bytes_eq-Decides (part_of field bank) (part_of field bank)).1 refl) (none_differs bank some)

none_between : (held wanted : List ℕ) (found : List Difference) → held ≡ wanted → AreDifferences held wanted found
    → found ≡ []
none_between held wanted found is are = by found (are.all ∙ rw is (none_differs wanted fields)) where
  by : (found : List Difference) → map (λ one. one.field) found ≡ [] → found ≡ []
  by [] none = refl
  by (one ∷ found) none = cc

pub same_agrees : (order : Contents) (read : List ℕ) (found : List Difference) → IsFound order.updates read Same
    → AreDifferences (held_bank order read) (wanted_bank order) found → found ≡ []
same_agrees order read found same are =
    let first = first_same order.updates read same in
    let told : as_told order.updates (told_bytes order.updates read) ≡ order.updates =
    ap (λ (l : List ℕ). as_told order.updates l) first.1 ∙ own_told order.updates first.0 in
    none_between (held_bank order read) (wanted_bank order) found
    (ap (λ (l : List (ℕ × ℕ)). updated l blank_bank) told) are

pub unread_agrees : (order : Contents) (read : List ℕ) (found : List Difference) → told_bytes order.updates read ≡ []
    → AreDifferences (held_bank order read) (wanted_bank order) found → found ≡ []
unread_agrees order read found none are =
    none_between (held_bank order read) (wanted_bank order) found
    (ap (λ (l : List ℕ). updated (as_told order.updates l) blank_bank) none) are

-- ---- where another byte was found

all_above : (low bound : ℕ) (updates : List (ℕ × ℕ)) → low ≤ bound → RisesAbove bound updates
    → AllByRecursion (λ update. low < update.0) updates
all_above low bound [] within rises = tt
all_above low bound (update ∷ updates) within rises =
    (omega (arith, rises.0), all_above low update.0 updates (omega (arith, rises.0)) rises.1)

rises_behind : (bound : ℕ) (before : List (ℕ × ℕ)) (update : ℕ × ℕ) (behind : List (ℕ × ℕ))
    → RisesAbove bound (before ++ update ∷ behind) → RisesAbove update.0 behind
rises_behind bound [] update behind rises = rises.1
rises_behind bound (first ∷ before) update behind rises = rises_behind first.0 before update behind rises.1

told_above : (low : ℕ) (updates : List (ℕ × ℕ)) (bytes : List ℕ) → AllByRecursion (λ update. low < update.0) updates
    → AllByRecursion (λ update. low < update.0) (as_told updates bytes)
told_above low updates [] all = all
told_above low [] (byte ∷ bytes) all = tt
told_above low (update ∷ updates) (byte ∷ bytes) all = (all.0, told_above low updates bytes all.1)

updated_both : (one two : List (ℕ × ℕ)) (bank : List ℕ) → updated (one ++ two) bank ≡ updated two (updated one bank)
updated_both [] two bank = refl
updated_both (update ∷ one) two bank = updated_both one two (slice_set bank update.0 update.1)

length_kept : (updates : List (ℕ × ℕ)) (bank : List ℕ) → length (updated updates bank) ≡ length bank
length_kept [] bank = refl
length_kept (update ∷ updates) bank =
    length_kept updates (slice_set bank update.0 update.1) ∙ length-set bank update.0 update.1

kept_at : (updates : List (ℕ × ℕ)) (bank : List ℕ) (place : ℕ) → AllByRecursion (λ update. place < update.0) updates
    → get_or (updated updates bank) place 0 ≡ get_or bank place 0
kept_at [] bank place all = refl
kept_at (update ∷ updates) bank place all =
    kept_at updates (slice_set bank update.0 update.1) place all.1
    ∙ get_or-set_other bank update.0 place update.1 0 (λ e. omega (arith, all.0, e))

byte_at : (before : List (ℕ × ℕ)) (place byte : ℕ) (rest : List (ℕ × ℕ)) (bank : List ℕ) → place < length bank
    → AllByRecursion (λ update. place < update.0) rest
    → get_or (updated (before ++ (place, byte) ∷ rest) bank) place 0 ≡ byte
byte_at before place byte rest bank within above =
    let inside : place < length (updated before bank) = rw (length_kept before bank) within in
    rw (updated_both before ((place, byte) ∷ rest) bank)
    (kept_at rest (slice_set (updated before bank) place byte) place above
    ∙ get_or-set_same (updated before bank) place byte 0 inside)

told_other : (before : List (ℕ × ℕ)) (location own byte : ℕ) (behind : List (ℕ × ℕ)) (more : List ℕ)
    → as_told (before ++ (location, own) ∷ behind) (own_bytes before ++ byte ∷ more)
    ≡ before ++ (location, byte) ∷ as_told behind more
told_other [] location own byte behind more = refl
told_other (update ∷ before) location own byte behind more =
    ap (λ (l : List (ℕ × ℕ)). update ∷ l) (told_other before location own byte behind more)

writable_middle : (before : List (ℕ × ℕ)) (update : ℕ × ℕ) (behind : List (ℕ × ℕ))
    → AllByRecursion (λ one. IsWritable one.0) (before ++ update ∷ behind) → IsWritable update.0
writable_middle [] update behind all = all.0
writable_middle (first ∷ before) update behind all = writable_middle before update behind all.1

-- ---- the field of a location

abbrev Covers : Field → ℕ → Type 0
Covers field location = (first_of field ≤ location) × (location < first_of field + length_of field)

-- each field begins where the one before it ends
abbrev Adjoin : ℕ → List Field → Type 0
Adjoin from [] = ⊤
Adjoin from (field ∷ some) = (first_of field ≡ from) × Adjoin (from + length_of field) some

-- where the last of them ends
abbrev end_of : ℕ → List Field → ℕ
end_of from [] = from
end_of from (field ∷ some) = end_of (from + length_of field) some

covered : (l from : ℕ) (some : List Field) → Adjoin from some → from ≤ l → l < end_of from some
    → (field : Field) × Covers field l
covered l from [] adjoin low high = absurd (omega (arith, low, high))
covered l from (field ∷ some) adjoin low high = elim (cases_lt l (from + length_of field)) [
  | inl below ↦ (field, rw adjoin.0 (low, below))
  | inr above ↦ covered l (from + length_of field) some adjoin.1 above high
]

-- the fields before the content format, and those after it
field_at : (location : ℕ) → IsWritable location → (field : Field) × Covers field location
field_at l (inl (low, high)) = covered l 0x03 (take 2 fields) (search arith) low (omega (arith, high))
field_at l (inr (low, high)) = covered l 0x13 (drop 2 fields) (search arith) low (omega (arith, high))

part_at : (field : Field) (bank : List ℕ) (location : ℕ) → Covers field location
    → get_or (part_of field bank) (location - first_of field) 0 ≡ get_or bank location 0
part_at field bank location (low, high) =
    let place : first_of field + (location - first_of field) ≡ location = omega (arith, low) in
    get_or-take (length_of field) (drop (first_of field) bank) (location - first_of field) 0 (omega (arith, low, high))
    ∙ get_or-drop (first_of field) bank (location - first_of field) 0 ∙ ap (λ i. get_or bank i 0) place

other_differs : (held wanted : List ℕ) (field : Field) (location : ℕ) → Covers field location
    → get_or held location 0 ≢ get_or wanted location 0 → differs held wanted field ≡ true
other_differs held wanted field location covers other =
    by (bytes_eq (part_of field held) (part_of field wanted)) refl
  where
    by : (same : Bool) → bytes_eq (part_of field held) (part_of field wanted) ≡ same → differs held wanted field ≡ true
    by true is =
        absurd (other (sym (part_at field held location covers)
        ∙ ap (λ (l : List ℕ). get_or l (location - first_of field) 0)
        ((bytes_eq-Decides (part_of field held) (part_of field wanted)).0 is)
        ∙ part_at field wanted location covers))
    by false is = rw is refl

none_passes : (test : Field → Bool) (some : List Field) → filter test some ≡ []
    → AllByRecursion (λ field. test field ≡ false) some
none_passes test [] none = tt
none_passes test (field ∷ some) none = by (test field) refl none (none_passes test some) where
  by : (passes : Bool) → test field ≡ passes → cond passes (field ∷ filter test some) (filter test some) ≡ []
      → (filter test some ≡ [] → AllByRecursion (λ one. test one ≡ false) some)
      → (test field ≡ false) × AllByRecursion (λ one. test one ≡ false) some
  by true is none rest = cc
  by false is none rest = (is, rest none)

some_between : (held wanted : List ℕ) (location : ℕ) (found : List Difference) → IsWritable location
    → get_or held location 0 ≢ get_or wanted location 0 → AreDifferences held wanted found → found ≢ []
some_between held wanted location found writable other are = λ none.
    let field = field_at location writable in
    let passes : differs held wanted field.0 ≡ true = other_differs held wanted field.0 location field.1 other in
    let empty : filter (differs held wanted) fields ≡ [] =
    sym are.all ∙ ap (λ (l : List Difference). map (λ one. one.field) l) none in
    let fails : differs held wanted field.0 ≡ false =
    at_each (λ one. differs held wanted one ≡ false) (none_passes (differs held wanted) fields empty) field.0 in
    true≢false (sym passes ∙ fails)

inside : (location : ℕ) → IsWritable location → location < length blank_bank
inside location (inl (low, high)) = omega (arith, high)
inside location (inr (low, high)) = omega (arith, high)

pub other_agrees : (order : Contents) (read : List ℕ) (found : List Difference) (location byte : ℕ)
    → AreUpdates order.updates → IsFound order.updates read (Other location byte)
    → AreDifferences (held_bank order read) (wanted_bank order) found → found ≢ []
other_agrees order read found location byte valid is are =
    by (first_other order.updates read location byte is)
  where
    by : IsFirstOther order.updates (told_bytes order.updates read) (Other location byte) → found ≢ []
    by (before, own, behind, more, parts, told, other) =
        let rises : RisesAbove location behind =
        rises_behind 0 before (location, own) behind (rw (← parts) valid.rising) in
        let writable : IsWritable location =
        writable_middle before (location, own) behind (rw (← parts) valid.writable) in
        let above : AllByRecursion (λ update. location < update.0) behind =
        all_above location location behind (omega arith) rises in
        let within : location < length blank_bank = inside location writable in
        let held : get_or (held_bank order read) location 0 ≡ byte =
        rw (told, parts, told_other before location own byte behind more)
        (byte_at before location byte (as_told behind more) blank_bank within
        (told_above location behind more above)) in
        let wanted : get_or (wanted_bank order) location 0 ≡ own =
        rw parts (byte_at before location own behind blank_bank within above) in
        some_between (held_bank order read) (wanted_bank order) location found writable
        (λ same. other (sym held ∙ same ∙ wanted)) are
