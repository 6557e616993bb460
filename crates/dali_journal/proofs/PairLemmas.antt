-- The reading of pairs is exact: whole if the bytes begin with pairs, cut if they are a proper front of some, else bad.
use Rattle.std.proofs.Common.{◌≡◌, ◌≢◌, ℕ, zero, suc, ◌+◌, ◌^◌, ◌<◌, ◌≤◌, max, ◌&&◌, ◌||◌, Bool, true, false}
use Rattle.std.proofs.Common.{cond, List, [], ◌∷◌, ◌++◌, length, get_or, refl, sym, ap, subst, arith, inl, inr}
use Rattle.std.specs.Prelude.{nat_le, ⊤}
use Rattle.std.proofs.lemmas.Bool.{cases_lt}
use Rattle.std.proofs.lemmas.Bool.Decides.{nat_tests}
use Rattle.std.specs.List.{AllByRecursion}
use Rattle.arrayvec.specs.ArrayVec.{ArrayVec}
use Rattle.dali_bank.specs.Order.{Contents, AreUpdates, IsWritable, RisesAbove}
use Rattle.dali_journal.specs.declared.record.Record.TheVariants.{Began}
use Rattle.dali_journal.specs.declared.read.Pairs.{Pairs}
use Rattle.dali_journal.specs.declared.read.Pairs.TheVariants as lists
use Rattle.dali_journal.specs.declared.version.Version.{Version}
use Rattle.dali_journal.specs.declared.version.Version.TheVariants.{One}
use Rattle.dali_journal.specs.Spelling.{pairs_spelling, IsMoment, IsRecord}
use Rattle.dali_journal.specs.Decoding.{places_above, fits, behind_pair, pairs_of}

-- updates of an order, above a location
abbrev pub Climb : ℕ → List (ℕ × ℕ) → Type 0
Climb low [] = ⊤
Climb low (update ∷ updates) = IsWritable update.0 × (low < update.0) × (update.1 < 256) × Climb update.0 updates

pub climb : (low : ℕ) (updates : List (ℕ × ℕ)) → RisesAbove low updates
    → AllByRecursion (λ update. IsWritable update.0) updates
    → AllByRecursion (λ update. update.1 < 256) updates → Climb low updates
climb low [] rises writable bytes = tt
climb low (update ∷ updates) rises writable bytes =
    (writable.0, rises.0, bytes.0, climb update.0 updates rises.1 writable.1 bytes.1)

climb_rises : (low : ℕ) (updates : List (ℕ × ℕ)) → Climb low updates → RisesAbove low updates
climb_rises low [] c = tt
climb_rises low (update ∷ updates) c = (c.1, climb_rises update.0 updates c.3)

climb_writable : (low : ℕ) (updates : List (ℕ × ℕ)) → Climb low updates
    → AllByRecursion (λ update. IsWritable update.0) updates
climb_writable low [] c = tt
climb_writable low (update ∷ updates) c = (c.0, climb_writable update.0 updates c.3)

climb_bytes : (low : ℕ) (updates : List (ℕ × ℕ)) → Climb low updates → AllByRecursion (λ update. update.1 < 256) updates
climb_bytes low [] c = tt
climb_bytes low (update ∷ updates) c = (c.2, climb_bytes update.0 updates c.3)

places_fall : (low place : ℕ) → IsWritable place → low < place → suc (places_above place) ≤ places_above low
places_fall low place (inl w) h = omega arith
places_fall low place (inr w) h = omega arith

pub length-climb : (low : ℕ) (updates : List (ℕ × ℕ)) → Climb low updates → length updates ≤ places_above low
length-climb low [] c = omega arith
length-climb low (u ∷ us) c = omega (arith, places_fall low u.0 c.0 c.1, length-climb u.0 us c.3)

-- an order in these words, and back
pub order-climbs : (version : Version) (order : Contents) (moment : ℕ) → IsRecord version (Began order moment)
    → Climb 0 order.updates
order-climbs version order moment is = climb 0 order.updates is.2.rising is.2.writable is.3

pub climbs-order : (version : Version) (id moment unit : ℕ) (updates : List (ℕ × ℕ)) → id < 2 ^ 64
    → IsMoment version moment → unit ≤ 63 → 1 ≤ length updates → Climb 0 updates
    → IsRecord version (Began (record { id = id; unit = unit; updates = updates }) moment)
climbs-order version id moment unit updates i m u some c = (
  i,
  u,
  record {
    some = some;
    few = (let few = length-climb 0 updates c in omega arith);
    rising = climb_rises 0 updates c;
    writable = climb_writable 0 updates c;
  },
  climb_bytes 0 updates c,
  m,
)

-- bytes are bytes
abbrev pub AreBytes : List ℕ → Type 0
AreBytes bytes = AllByRecursion (λ byte. byte < 256) bytes

-- this many updates above a location
pub record Updates (count low : ℕ) (pairs : List (ℕ × ℕ)) : Type 0 where
  pub length_is : length pairs ≡ count
  pub rises : Climb low pairs

-- what the answer says
abbrev pub ReadsPairs : ℕ → ℕ → List ℕ → Pairs → Type 0
ReadsPairs count low bytes (lists.Whole pairs) =
    Updates count low pairs.items × (rest : List ℕ) × (bytes ≡ pairs_spelling pairs.items ++ rest)
ReadsPairs count low bytes lists.Cut =
    (pairs : List (ℕ × ℕ)) × Updates count low pairs × (more : List ℕ) × (more ≢ [])
    × (pairs_spelling pairs ≡ bytes ++ more)
ReadsPairs count low bytes lists.Bad =
    (pairs : List (ℕ × ℕ)) → Updates count low pairs → (rest more : List ℕ)
    → pairs_spelling pairs ++ rest ≡ bytes ++ more → ⊥

pub and-parts : (a b : Bool) → (a && b) ≡ true → (a ≡ true) × (b ≡ true)
and-parts true b e = (refl, e)
and-parts false b e = cc

-- The tests of a location mean what they say.
writable : (location : ℕ)
    → ((nat_le 3 location && nat_le location 16) || (nat_le 19 location && nat_le location 119)) ≡ true
    → IsWritable location
writable location e = grind (arith, nat_tests)

fits-true : (to_come low location : ℕ) → fits to_come low location ≡ true
    → IsWritable location × (low < location) × (to_come ≤ places_above location)
fits-true to_come low location e =
    let both = and-parts _ _ e in let two = and-parts _ _ both.0 in
    (writable location two.0, grind (arith, nat_tests), grind (arith, nat_tests))

fits-holds : (to_come low location : ℕ) → IsWritable location → low < location → to_come ≤ places_above location
    → fits to_come low location ≡ true
fits-holds to_come low location (inl w) l p = grind (arith, nat_tests)
fits-holds to_come low location (inr w) l p = grind (arith, nat_tests)

-- If there is a place above one, the lowest such place takes just one from what is left.
next-place : (low : ℕ) → 1 ≤ places_above low →
    (place : ℕ) × IsWritable place × (low < place) × (suc (places_above place) ≡ places_above low)
next-place low h = elim (cases_lt low 16) [
  | inl below ↦ (max low 2 + 1, inl (omega arith, omega arith), omega arith, omega arith)
  | inr above ↦ (max low 18 + 1, inr (omega arith, omega arith), omega arith, omega arith)
]

-- If there are places enough, there are updates that fill them.
filled : (count low : ℕ) → count ≤ places_above low → (pairs : List (ℕ × ℕ)) × Updates count low pairs
filled zero low h = ([], record { length_is = refl; rises = tt })
filled (suc count) low h =
    let next = next-place low (omega arith) in
    let more = filled count next.0 (let e = next.3 in omega arith) in (
      (next.0, 0) ∷ more.0,
      record {
        length_is = (let e = more.1.length_is in omega arith);
        rises = (next.1, next.2, omega arith, more.1.rises);
      },
    )

-- a list of pairs that is not empty
head-fits : (count low location : ℕ) (pairs : List (ℕ × ℕ)) (rest more : List ℕ) → Updates (suc count) low pairs →
    pairs_spelling pairs ++ rest ≡ location ∷ more → fits count low location ≡ true
head-fits count low location [] rest more u e = absurd (let h = u.length_is in omega arith)
head-fits count low location (pair ∷ pairs) rest more u e =
    let same : pair.0 ≡ location = cc in
    let few = length-climb pair.0 pairs u.rises.3 in
    let n = u.length_is in
    subst (λ l. fits count low l ≡ true) same
    (fits-holds count low pair.0 u.rises.0 u.rises.1 (omega arith))

some-spelling : (count : ℕ) (pairs : List (ℕ × ℕ)) → length pairs ≡ suc count → pairs_spelling pairs ≢ []
some-spelling count [] h e = omega arith
some-spelling count (pair ∷ pairs) h e = cc

-- if places enough are left, the empty list is a front of some updates
cut-empty : (count low : ℕ) → suc count ≤ places_above low → ReadsPairs (suc count) low [] lists.Cut
cut-empty count low h =
    let some = filled (suc count) low h in
    (some.0, some.1, pairs_spelling some.0, some-spelling count some.0 some.1.length_is, refl)

-- the byte after a location may be any
cut-location : (count low location : ℕ) → fits count low location ≡ true
    → ReadsPairs (suc count) low (location ∷ []) lists.Cut
cut-location count low location e =
    let test = fits-true count low location e in
    let more = filled count location test.2 in (
      (location, 0) ∷ more.0,
      record { length_is = ap suc more.1.length_is; rises = (test.0, test.1, omega arith, more.1.rises) },
      0 ∷ pairs_spelling more.0,
      λ e. cc,
      refl,
    )

-- no updates have a location that does not fit
bad-location : (count low location : ℕ) (after : List ℕ) → fits count low location ≡ false
    → ReadsPairs (suc count) low (location ∷ after) lists.Bad
bad-location count low location after e = λ pairs updates rest more same.
    let yes = head-fits count low location pairs rest (after ++ more) updates same in cc

-- one pair in front
behind : (count low location byte : ℕ) (rest : List ℕ) (piece : Pairs) → fits count low location ≡ true → byte < 256 →
    ReadsPairs count location rest piece
    → ReadsPairs (suc count) low (location ∷ byte ∷ rest) (behind_pair (location, byte) piece)
behind count low location byte rest (lists.Whole pairs) e small reads =
    let test = fits-true count low location e in (
      record { length_is = ap suc reads.0.length_is; rises = (test.0, test.1, small, reads.0.rises) },
      reads.1,
      ap (λ bs. location ∷ byte ∷ bs) reads.2,
    )
behind count low location byte rest lists.Cut e small reads =
    let test = fits-true count low location e in (
      (location, byte) ∷ reads.0,
      record { length_is = ap suc reads.1.length_is; rises = (test.0, test.1, small, reads.1.rises) },
      reads.2,
      reads.3,
      ap (λ bs. location ∷ byte ∷ bs) reads.4,
    )
behind count low location byte rest lists.Bad e small reads = bad
  where
    bad : ReadsPairs (suc count) low (location ∷ byte ∷ rest) lists.Bad
    bad [] updates after more same = absurd (let h = updates.length_is in omega arith)
    bad (pair ∷ pairs) updates after more same =
        let first : pair.0 ≡ location = cc in
        let tail : pairs_spelling pairs ++ after ≡ rest ++ more = cc in
        let count_is : length pairs ≡ count = (let h = updates.length_is in omega arith) in
        reads pairs (record { length_is = count_is; rises = subst (λ l. Climb l pairs) first updates.rises.3 }) after
        more tail

step : (count low location byte : ℕ) (rest : List ℕ) → location < 256 → byte < 256 →
    (count ≤ places_above location → ReadsPairs count location rest (pairs_of count location rest)) →
    ReadsPairs (suc count) low (location ∷ byte ∷ rest) (pairs_of (suc count) low (location ∷ byte ∷ rest))
step count low location byte rest l b reads = more (fits count low location) refl
  where
    more : (test : Bool) → fits count low location ≡ test → ReadsPairs (suc count) low (location ∷ byte ∷ rest)
        (cond test (behind_pair (location, byte) (pairs_of count location rest)) lists.Bad)
    more true e =
        behind count low location byte rest (pairs_of count location rest) e b
        (reads (fits-true count low location e).2)
    more false e = bad-location count low location (byte ∷ rest) e

-- The reading of pairs is exact.
pub reads-pairs_of : (count low : ℕ) (bytes : List ℕ) → count ≤ places_above low → AreBytes bytes
    → ReadsPairs count low bytes (pairs_of count low bytes)
reads-pairs_of zero low bytes h fit = (record { length_is = refl; rises = tt }, bytes, refl)
reads-pairs_of (suc count) low [] h fit = cut-empty count low h
reads-pairs_of (suc count) low (location ∷ []) h fit = one (fits count low location) refl
  where
    one : (test : Bool) → fits count low location ≡ test
        → ReadsPairs (suc count) low (location ∷ []) (cond test lists.Cut lists.Bad)
    one true e = cut-location count low location e
    one false e = bad-location count low location [] e
reads-pairs_of (suc count) low (location ∷ byte ∷ rest) h fit =
    step count low location byte rest fit.0 fit.1.0 (λ e. reads-pairs_of count location rest e fit.1.1)

pub are-bytes : (bytes : List ℕ) → ((i : ℕ) → get_or bytes i 0 < 256) → AreBytes bytes
are-bytes [] h = tt
are-bytes (byte ∷ rest) h = (h 0, are-bytes rest (λ i. h (suc i)))

-- pairs that were read whole are updates
pub updates-read : (count : ℕ) (rest : List ℕ) (pairs : ArrayVec (ℕ × ℕ)) (updates : List (ℕ × ℕ)) →
    1 ≤ count → count ≤ 115 → AreBytes rest → lists.Whole pairs ≡ pairs_of count 0 rest → updates ≡ pairs.items
    → AreUpdates updates
updates-read count rest pairs updates some few fit is same =
    let reads =
    subst (λ (p : Pairs). ReadsPairs count 0 rest p) (sym is) (reads-pairs_of count 0 rest (omega arith) fit) in
    let long = reads.0.length_is in
    rw same (climbs-order One 0 0 0 pairs.items (omega arith) refl (omega arith) (omega arith) reads.0.rises).2
