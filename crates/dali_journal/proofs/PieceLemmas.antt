-- The reading of a record is exact, and no record's bytes begin another's.
use Rattle.std.proofs.Common.{◌≡◌, ◌≢◌, ℕ, zero, suc, ◌+◌, ◌*◌, ◌^◌, ◌-◌, ◌<◌, ◌≤◌, ◌&&◌, Bool, true, false, cond}
use Rattle.std.proofs.Common.{List, [], ◌∷◌, ◌++◌, length, take, drop, get_or, refl, sym, ap, ◌∙◌, subst}
use Rattle.std.proofs.Common.{arith, ◌==◌, length-append, inl, true≢false, replicate, append_assoc}
use Rattle.std.specs.Prelude.{nat_le, nat_lt}
use Rattle.std.specs.Int.{w64, to_be_bytes, from_be_bytes}
use Rattle.std.proofs.lemmas.Bool.{leb-true, leb-false, ltb-true, ltb-false, eqb-true, eqb-false}
use Rattle.std.proofs.lemmas.List.{length-replicate, length-take, take-append-drop, append-nil}
use Rattle.std.proofs.lemmas.Bool.Decides.{nat_tests}
use Rattle.std.proofs.lemmas.Nat.{be_bytes_8}
use Rattle.dali_bank.specs.Order.{Contents}
use Rattle.dali_journal.specs.declared.record.Code.{Code}
use Rattle.dali_journal.specs.declared.record.Code.TheVariants.{Done, Short, Format, Silent, Doubt, DoubtOpen}
use Rattle.dali_journal.specs.declared.record.Record.{Record}
use Rattle.dali_journal.specs.declared.record.Record.TheVariants.{Began, Opened, Ended, Closed}
use Rattle.dali_journal.specs.declared.version.Version.{Version}
use Rattle.dali_journal.specs.declared.version.Version.TheVariants.{One, Two}
use Rattle.dali_journal.specs.declared.read.Piece.TheVariants.{Whole, Cut, Bad}
use Rattle.dali_journal.specs.declared.read.Pairs.{Pairs}
use Rattle.dali_journal.specs.declared.read.Pairs.TheVariants as lists
use Rattle.dali_journal.specs.Spelling.{head_spelling, spelling, pairs_spelling, IsMoment, IsRecord, code_number}
use Rattle.dali_journal.specs.Reading.{IsRead}
use Rattle.dali_journal.specs.Decoding.{code_numbered, short_piece, began_piece, counted_piece, timed_piece}
use Rattle.dali_journal.specs.Decoding.{numbered_piece, order_piece, piece_of, pairs_of, head_length}
use Rattle.dali_journal.proofs.SpellingLemmas.{letter_of, letter_at}
use Rattle.dali_journal.proofs.PairLemmas.{AreBytes, ReadsPairs, reads-pairs_of, and-parts, order-climbs, climbs-order}

-- no record agrees with the bytes as far as both go
abbrev pub NoRecord : Version → List ℕ → Type 0
NoRecord version bytes = (entry : Record) (rest more : List ℕ) → IsRecord version entry
    → spelling version entry ++ rest ≡ bytes ++ more → ⊥

bad-reads : (version : Version) (bytes : List ℕ) → NoRecord version bytes → IsRead version bytes Bad
bad-reads version bytes none = λ entry. (
  λ begins. none entry begins.1 [] begins.0 (sym begins.2 ∙ sym (append-nil bytes)),
  λ cut. none entry [] cut.1 cut.0 (append-nil (spelling version entry) ∙ cut.3),
)

letter-first : (version : Version) (entry : Record) (rest : List ℕ) (letter : ℕ) (more : List ℕ)
    → spelling version entry ++ rest ≡ letter ∷ more
    → letter ≡ letter_of entry
letter-first version entry rest letter more e = sym (ap (λ bytes. get_or bytes 0 0) e) ∙ letter_at version entry rest

-- another letter is another record
other-letter : (version : Version) (entry : Record) (rest : List ℕ) (letter : ℕ) (more : List ℕ)
    → letter ≢ letter_of entry
    → spelling version entry ++ rest ≡ letter ∷ more → ⊥
other-letter version entry rest letter more other e = other (letter-first version entry rest letter more e)

-- after each letter of a two-byte record, a number that is too large
no-opened : (version : Version) (unit : ℕ) (after : List ℕ) → 63 < unit → NoRecord version (0x4F ∷ unit ∷ after)
no-opened version unit after large (Opened other) rest more is e =
    let same : other ≡ unit = ap (λ bytes. get_or bytes 1 0) e in omega arith
no-opened version unit after large entry rest more is e =
    other-letter version entry rest 0x4F (unit ∷ after ++ more) (omega arith) e

no-closed : (version : Version) (unit : ℕ) (after : List ℕ) → 63 < unit → NoRecord version (0x43 ∷ unit ∷ after)
no-closed version unit after large (Closed other) rest more is e =
    let same : other ≡ unit = ap (λ bytes. get_or bytes 1 0) e in omega arith
no-closed version unit after large entry rest more is e =
    other-letter version entry rest 0x43 (unit ∷ after ++ more) (omega arith) e

pub code_number-small : (code : Code) → code_number code ≤ 5
code_number-small Done = omega arith
code_number-small Short = omega arith
code_number-small Format = omega arith
code_number-small Silent = omega arith
code_number-small Doubt = omega arith
code_number-small DoubtOpen = omega arith

no-ended : (version : Version) (number : ℕ) (after : List ℕ) → 5 < number → NoRecord version (0x45 ∷ number ∷ after)
no-ended version number after large (Ended code) rest more is e =
    let same : code_number code ≡ number = ap (λ bytes. get_or bytes 1 0) e in omega (arith, code_number-small code)
no-ended version number after large entry rest more is e =
    other-letter version entry rest 0x45 (number ∷ after ++ more) (omega arith) e

-- a record of two bytes is read
reads-short : (version : Version) (letter most : ℕ) (make : ℕ → Record)
    → ((n : ℕ) → n ≤ most → IsRecord version (make n)) →
    ((n : ℕ) → n ≤ most → spelling version (make n) ≡ letter ∷ n ∷ [])
    → ((n : ℕ) (after : List ℕ) → most < n → NoRecord version (letter ∷ n ∷ after)) →
    (bytes : List ℕ) → IsRead version (letter ∷ bytes) (short_piece make most bytes)
reads-short version letter most make is spelled none [] =
    (make 0, (is 0 (omega arith), 0 ∷ [], λ e. cc, spelled 0 (omega arith)))
reads-short version letter most make is spelled none (n ∷ rest) = by (nat_le n most) refl
  where
    by : (test : Bool) → nat_le n most ≡ test → IsRead version (letter ∷ n ∷ rest) (cond test (Whole (make n) 2) Bad)
    by true e =
        let few = leb-true n most e in
        ((is n few, rest, ap (λ front. front ++ rest) (sym (spelled n few))), sym (ap length (spelled n few)))
    by false e = bad-reads version (letter ∷ n ∷ rest) (none n rest (leb-false n most e))

code_number-code_of : (number : ℕ) → number ≤ 5 → code_number (code_numbered number) ≡ number
code_number-code_of zero h = refl
code_number-code_of (suc zero) h = refl
code_number-code_of (suc (suc zero)) h = refl
code_number-code_of (suc (suc (suc zero))) h = refl
code_number-code_of (suc (suc (suc (suc zero)))) h = refl
code_number-code_of (suc (suc (suc (suc (suc zero))))) h = refl
code_number-code_of (suc (suc (suc (suc (suc (suc n)))))) h = absurd (omega arith)

-- ---- the bytes of an order

-- an order with one update, to complete what is cut short
abbrev smallest : ℕ → ℕ → Contents
smallest id unit = record { id = id; unit = unit; updates = (3, 0) ∷ [] }

-- the bytes after the number and the moment
abbrev behind-head : Contents → List ℕ
behind-head o = o.unit ∷ length o.updates ∷ pairs_spelling o.updates

-- bytes after the same head are the same
same-behind : (version : Version) (id moment : ℕ) (after : List ℕ) (o : Contents) (at : ℕ) (rest more : List ℕ) →
    spelling version (Began o at) ++ rest ≡ (0x42 ∷ head_spelling version id moment ++ after) ++ more
    → behind-head o ++ rest ≡ after ++ more
same-behind One id moment after o at rest more e = ap (drop 9) e
same-behind Two id moment after o at rest more e = ap (drop 17) e

unit-of : (version : Version) (id moment unit : ℕ) (after : List ℕ) (o : Contents) (at : ℕ) (rest more : List ℕ) →
    spelling version (Began o at) ++ rest ≡ (0x42 ∷ head_spelling version id moment ++ unit ∷ after) ++ more
    → o.unit ≡ unit
unit-of version id moment unit after o at rest more e =
    ap (λ bytes. get_or bytes 0 0) (same-behind version id moment (unit ∷ after) o at rest more e)

count-of : (version : Version) (id moment unit count : ℕ) (after : List ℕ) (o : Contents) (at : ℕ)
    (rest more : List ℕ) →
    spelling version (Began o at) ++ rest ≡ (0x42 ∷ head_spelling version id moment ++ unit ∷ count ∷ after) ++ more
    → length o.updates ≡ count
count-of version id moment unit count after o at rest more e =
    ap (λ bytes. get_or bytes 1 0) (same-behind version id moment (unit ∷ count ∷ after) o at rest more e)

pairs-behind : (version : Version) (id moment unit count : ℕ) (after : List ℕ) (o : Contents) (at : ℕ)
    (rest more : List ℕ) →
    spelling version (Began o at) ++ rest ≡ (0x42 ∷ head_spelling version id moment ++ unit ∷ count ∷ after) ++ more
    → pairs_spelling o.updates ++ rest ≡ after ++ more
pairs-behind version id moment unit count after o at rest more e =
    ap (drop 2) (same-behind version id moment (unit ∷ count ∷ after) o at rest more e)

-- the length of an order's bytes
pub length-pairs_spelling : (ps : List (ℕ × ℕ)) → length (pairs_spelling ps) ≡ 2 * length ps
length-pairs_spelling [] = refl
length-pairs_spelling (p ∷ ps) = omega (arith, length-pairs_spelling ps)

pub length-began : (version : Version) (o : Contents) (moment : ℕ)
    → length (spelling version (Began o moment)) ≡ head_length version + 2 * length o.updates
length-began One o moment = omega (arith, length-pairs_spelling o.updates)
length-began Two o moment = omega (arith, length-pairs_spelling o.updates)

-- no record but an order begins with its letter
no-order : (version : Version) (bytes : List ℕ)
    → ((o : Contents) (at : ℕ) (rest more : List ℕ) → IsRecord version (Began o at)
    → spelling version (Began o at) ++ rest ≡ (0x42 ∷ bytes) ++ more → ⊥)
    → NoRecord version (0x42 ∷ bytes)
no-order version bytes none (Began o at) rest more is e = none o at rest more is e
no-order version bytes none entry rest more is e = other-letter version entry rest 0x42 (bytes ++ more) (omega arith) e

-- after a count that may be
pub reads-began : (version : Version) (id moment unit count : ℕ) (bytes : List ℕ) (piece : Pairs) → id < 2 ^ 64
    → IsMoment version moment → unit ≤ 63 → 1 ≤ count → count ≤ 115 → ReadsPairs count 0 bytes piece
    → IsRead version (0x42 ∷ head_spelling version id moment ++ unit ∷ count ∷ bytes)
    (began_piece version id moment unit count piece)
reads-began version id moment unit count bytes (lists.Whole pairs) i m u some few reads =
    let n = reads.0.length_is in
    let order : Contents = record { id = id; unit = unit; updates = pairs.items } in
    let head : List ℕ = head_spelling version id moment in (
      (
        climbs-order version id moment unit pairs.items i m u (omega arith) reads.0.rises,
        reads.1,
        (λ j. 0x42 ∷ head ++ unit ∷ sym n j ∷ reads.2 j)
            ∙ ap (λ bs. 0x42 ∷ bs) (sym (append_assoc head (behind-head order) reads.1)),
      ),
      (let long = length-began version order moment in omega arith),
    )
reads-began version id moment unit count bytes lists.Cut i m u some few reads =
    let n = reads.1.length_is in
    let head : List ℕ = head_spelling version id moment in (
      Began (record { id = id; unit = unit; updates = reads.0 }) moment,
      (
        climbs-order version id moment unit reads.0 i m u (omega arith) reads.1.rises,
        reads.2,
        reads.3,
        (λ j. 0x42 ∷ head ++ unit ∷ n j ∷ reads.4 j)
            ∙ ap (λ bs. 0x42 ∷ bs) (sym (append_assoc head (unit ∷ count ∷ bytes) reads.2)),
      ),
    )
reads-began version id moment unit count bytes lists.Bad i m u some few reads =
    bad-reads version (0x42 ∷ head_spelling version id moment ++ unit ∷ count ∷ bytes)
    (no-order version (head_spelling version id moment ++ unit ∷ count ∷ bytes) (λ o at rest more is e.
    reads o.updates
    (record {
      length_is = count-of version id moment unit count bytes o at rest more e;
      rises = order-climbs version o at is;
    })
    rest more
    (pairs-behind version id moment unit count bytes o at rest more e)))

smallest-order : (version : Version) (id moment unit : ℕ) → id < 2 ^ 64 → IsMoment version moment → unit ≤ 63
    → IsRecord version (Began (smallest id unit) moment)
smallest-order version id moment unit i m u =
    climbs-order version id moment unit ((3, 0) ∷ []) i m u (omega arith)
    (inl (omega arith, omega arith), omega arith, omega arith, tt)

-- the count of an order is one that may be
count-fits : (version : Version) (o : Contents) (at : ℕ) → IsRecord version (Began o at)
    → (nat_le 1 (length o.updates) && nat_le (length o.updates) 115) ≡ true
count-fits version o at is =
    let some = is.2.some in
    let few = is.2.few in
    grind (arith, nat_tests)

-- the bytes that complete a head that is there, and the bytes after it
cut-behind : (version : Version) (id moment unit : ℕ) (after fill : List ℕ) → id < 2 ^ 64 → IsMoment version moment
    → unit ≤ 63 → fill ≢ [] → after ++ fill ≡ behind-head (smallest id unit)
    → IsRead version (0x42 ∷ head_spelling version id moment ++ after) Cut
cut-behind version id moment unit after fill i m u some e = (
  Began (smallest id unit) moment,
  (
    smallest-order version id moment unit i m u,
    fill,
    some,
    ap (λ bs. 0x42 ∷ head_spelling version id moment ++ bs) (sym e)
        ∙ ap (λ bs. 0x42 ∷ bs) (sym (append_assoc (head_spelling version id moment) after fill)),
  ),
)

-- after a unit
reads-counted : (version : Version) (id moment unit : ℕ) (bytes : List ℕ) → id < 2 ^ 64 → IsMoment version moment
    → unit ≤ 63 → AreBytes bytes
    → IsRead version (0x42 ∷ head_spelling version id moment ++ unit ∷ bytes)
    (counted_piece version id moment unit bytes)
reads-counted version id moment unit [] i m u fit =
    cut-behind version id moment unit (unit ∷ []) (1 ∷ 3 ∷ 0 ∷ []) i m u (λ e. cc) refl
reads-counted version id moment unit (count ∷ rest) i m u fit = by (nat_le 1 count && nat_le count 115) refl
  where
    head : List ℕ
    head = head_spelling version id moment

    by : (test : Bool) → (nat_le 1 count && nat_le count 115) ≡ test →
        IsRead version (0x42 ∷ head ++ unit ∷ count ∷ rest)
        (cond test (began_piece version id moment unit count (pairs_of count 0 rest)) Bad)
    by true e =
        let both = and-parts (nat_le 1 count) (nat_le count 115) e in
        let few = leb-true count 115 both.1 in
        reads-began version id moment unit count rest (pairs_of count 0 rest) i m u (leb-true 1 count both.0) few
        (reads-pairs_of count 0 rest (omega arith) fit.1)
    by false e =
        bad-reads version (0x42 ∷ head ++ unit ∷ count ∷ rest)
        (no-order version (head ++ unit ∷ count ∷ rest) (λ o at after more is same.
        let yes =
        subst (λ n. (nat_le 1 n && nat_le n 115) ≡ true)
        (count-of version id moment unit count rest o at after more same) (count-fits version o at is) in
        true≢false (sym yes ∙ e)))

-- after an order's number and moment
reads-timed : (version : Version) (id moment : ℕ) (bytes : List ℕ) → id < 2 ^ 64 → IsMoment version moment
    → AreBytes bytes
    → IsRead version (0x42 ∷ head_spelling version id moment ++ bytes) (timed_piece version id moment bytes)
reads-timed version id moment [] i m fit =
    cut-behind version id moment 0 [] (0 ∷ 1 ∷ 3 ∷ 0 ∷ []) i m (omega arith) (λ e. cc) refl
reads-timed version id moment (unit ∷ rest) i m fit = by (nat_le unit 63) refl
  where
    head : List ℕ
    head = head_spelling version id moment

    by : (test : Bool) → nat_le unit 63 ≡ test
        → IsRead version (0x42 ∷ head ++ unit ∷ rest) (cond test (counted_piece version id moment unit rest) Bad)
    by true e = reads-counted version id moment unit rest i m (leb-true unit 63 e) fit.1
    by false e =
        bad-reads version (0x42 ∷ head ++ unit ∷ rest)
        (no-order version (head ++ unit ∷ rest) (λ o at after more is same.
        let u = unit-of version id moment unit rest o at after more same in
        let large = leb-false unit 63 e in
        let small = is.1 in omega arith))

bytes-at : (bytes : List ℕ) → AreBytes bytes → (i : ℕ) → get_or bytes i 0 < 256
bytes-at [] fit i = omega arith
bytes-at (byte ∷ rest) fit zero = fit.0
bytes-at (byte ∷ rest) fit (suc i) = bytes-at rest fit.1 i

pub bytes-append : (a b : List ℕ) → AreBytes a → AreBytes b → AreBytes (a ++ b)
bytes-append [] b p q = q
bytes-append (x ∷ a) b p q = (p.0, bytes-append a b p.1 q)

zeros : (n : ℕ) → AreBytes (replicate n 0)
zeros zero = tt
zeros (suc n) = (omega arith, zeros n)

pub bytes-take : (n : ℕ) (a : List ℕ) → AreBytes a → AreBytes (take n a)
bytes-take zero a p = tt
bytes-take (suc n) [] p = tt
bytes-take (suc n) (x ∷ a) p = (p.0, bytes-take n a p.1)

pub bytes-drop : (n : ℕ) (a : List ℕ) → AreBytes a → AreBytes (drop n a)
bytes-drop zero a p = p
bytes-drop (suc n) [] p = tt
bytes-drop (suc n) (x ∷ a) p = bytes-drop n a p.1

-- eight bytes are a number's
pub number-of : (bytes : List ℕ) → length bytes ≡ 8 → AreBytes bytes →
    (from_be_bytes w64 bytes < 2 ^ 64) × (to_be_bytes w64 (from_be_bytes w64 bytes) ≡ bytes)
number-of bytes n fit =
    let at = bytes-at bytes fit in (
      omega (arith, at 0, at 1, at 2, at 3, at 4, at 5, at 6, at 7),
      be_bytes_8 bytes (from_be_bytes w64 bytes) n at refl,
    )

-- fewer than eight bytes, filled up with zeros
filled-number : (bytes : List ℕ) → AreBytes bytes → length bytes < 8
    → (number : ℕ) × (number < 2 ^ 64) × (fill : List ℕ) × (to_be_bytes w64 number ≡ bytes ++ fill)
filled-number bytes fit short =
    let fill : List ℕ = replicate (8 - length bytes) 0 in
    let number =
    number-of (bytes ++ fill) (rw (length-append, length-replicate) (omega arith))
    (bytes-append bytes fill fit (zeros (8 - length bytes))) in
    (from_be_bytes w64 (bytes ++ fill), number.0, fill, number.1)

-- eight bytes in front of others
front-number : (bytes : List ℕ) → AreBytes bytes → 8 ≤ length bytes
    → (from_be_bytes w64 (take 8 bytes) < 2 ^ 64) × (to_be_bytes w64 (from_be_bytes w64 (take 8 bytes)) ≡ take 8 bytes)
front-number bytes fit long = number-of (take 8 bytes) (rw length-take (omega arith)) (bytes-take 8 bytes fit)

not-empty : (front : List ℕ) (x : ℕ) (xs : List ℕ) → front ++ x ∷ xs ≢ []
not-empty [] x xs e = cc
not-empty (y ∷ front) x xs e = cc

-- a moment cut short
cut-moment : (id moment : ℕ) (bytes fill : List ℕ) → id < 2 ^ 64 → moment < 2 ^ 64
    → to_be_bytes w64 moment ≡ bytes ++ fill
    → IsRead Two (0x42 ∷ to_be_bytes w64 id ++ bytes) Cut
cut-moment id moment bytes fill i m e = (
  Began (smallest id 0) moment,
  (
    smallest-order Two id moment 0 i m (omega arith),
    fill ++ 0 ∷ 1 ∷ 3 ∷ 0 ∷ [],
    not-empty fill 0 (1 ∷ 3 ∷ 0 ∷ []),
    ap (λ bs. 0x42 ∷ to_be_bytes w64 id ++ bs ++ 0 ∷ 1 ∷ 3 ∷ 0 ∷ []) e
        ∙ ap (λ bs. 0x42 ∷ to_be_bytes w64 id ++ bs) (append_assoc bytes fill (0 ∷ 1 ∷ 3 ∷ 0 ∷ [])),
  ),
)

-- after an order's number
reads-numbered : (version : Version) (id : ℕ) (bytes : List ℕ) → id < 2 ^ 64 → AreBytes bytes
    → IsRead version (0x42 ∷ to_be_bytes w64 id ++ bytes) (numbered_piece version id bytes)
reads-numbered One id bytes i fit = reads-timed One id 0 bytes i refl fit
reads-numbered Two id bytes i fit = by (nat_lt (length bytes) 8) refl
  where
    by : (test : Bool) → nat_lt (length bytes) 8 ≡ test →
        IsRead Two (0x42 ∷ to_be_bytes w64 id ++ bytes)
        (cond test Cut (timed_piece Two id (from_be_bytes w64 (take 8 bytes)) (drop 8 bytes)))
    by true e =
        let moment = filled-number bytes fit (ltb-true (length bytes) 8 e) in
        cut-moment id moment.0 bytes moment.2 i moment.1 moment.3
    by false e =
        let moment = front-number bytes fit (ltb-false (length bytes) 8 e) in
        subst (λ bs. IsRead Two (0x42 ∷ to_be_bytes w64 id ++ bs)
        (timed_piece Two id (from_be_bytes w64 (take 8 bytes)) (drop 8 bytes)))
        (ap (λ front. front ++ drop 8 bytes) moment.1 ∙ take-append-drop 8 bytes)
        (reads-timed Two id (from_be_bytes w64 (take 8 bytes)) (drop 8 bytes) i moment.0 (bytes-drop 8 bytes fit))

-- a number cut short
cut-number : (version : Version) (id : ℕ) (bytes fill : List ℕ) → id < 2 ^ 64 → to_be_bytes w64 id ≡ bytes ++ fill
    → IsRead version (0x42 ∷ bytes) Cut
cut-number One id bytes fill i e = (
  Began (smallest id 0) 0,
  (
    smallest-order One id 0 0 i refl (omega arith),
    fill ++ 0 ∷ 1 ∷ 3 ∷ 0 ∷ [],
    not-empty fill 0 (1 ∷ 3 ∷ 0 ∷ []),
    ap (λ ids. 0x42 ∷ ids ++ 0 ∷ 1 ∷ 3 ∷ 0 ∷ []) e
        ∙ ap (λ bs. 0x42 ∷ bs) (append_assoc bytes fill (0 ∷ 1 ∷ 3 ∷ 0 ∷ [])),
  ),
)
cut-number Two id bytes fill i e =
    let more : List ℕ = to_be_bytes w64 0 ++ 0 ∷ 1 ∷ 3 ∷ 0 ∷ [] in (
      Began (smallest id 0) 0,
      (
        smallest-order Two id 0 0 i (omega arith) (omega arith),
        fill ++ more,
        not-empty fill 0 (drop 1 more),
        ap (λ ids. 0x42 ∷ ids ++ more) e ∙ ap (λ bs. 0x42 ∷ bs) (append_assoc bytes fill more),
      ),
    )

reads-order : (version : Version) (bytes : List ℕ) → AreBytes bytes
    → IsRead version (0x42 ∷ bytes) (order_piece version bytes)
reads-order version bytes fit = by (nat_lt (length bytes) 8) refl
  where
    by : (test : Bool) → nat_lt (length bytes) 8 ≡ test →
        IsRead version (0x42 ∷ bytes)
        (cond test Cut (numbered_piece version (from_be_bytes w64 (take 8 bytes)) (drop 8 bytes)))
    by true e =
        let number = filled-number bytes fit (ltb-true (length bytes) 8 e) in
        cut-number version number.0 bytes number.2 number.1 number.3
    by false e =
        let number = front-number bytes fit (ltb-false (length bytes) 8 e) in
        subst (λ bs. IsRead version (0x42 ∷ bs)
        (numbered_piece version (from_be_bytes w64 (take 8 bytes)) (drop 8 bytes)))
        (ap (λ front. front ++ drop 8 bytes) number.1 ∙ take-append-drop 8 bytes)
        (reads-numbered version (from_be_bytes w64 (take 8 bytes)) (drop 8 bytes) number.0 (bytes-drop 8 bytes fit))

no-letter : (version : Version) (letter : ℕ) (after : List ℕ) → (letter == 0x42) ≡ false → (letter == 0x4F) ≡ false
    → (letter == 0x45) ≡ false → (letter == 0x43) ≡ false →
    NoRecord version (letter ∷ after)
no-letter version letter after b o e c (Began order moment) rest more is same =
    eqb-false letter 0x42 b (letter-first version (Began order moment) rest letter (after ++ more) same)
no-letter version letter after b o e c (Opened unit) rest more is same =
    eqb-false letter 0x4F o (letter-first version (Opened unit) rest letter (after ++ more) same)
no-letter version letter after b o e c (Ended code) rest more is same =
    eqb-false letter 0x45 e (letter-first version (Ended code) rest letter (after ++ more) same)
no-letter version letter after b o e c (Closed unit) rest more is same =
    eqb-false letter 0x43 c (letter-first version (Closed unit) rest letter (after ++ more) same)

-- The reading of a record is exact.
pub reads-piece_of : (version : Version) (bytes : List ℕ) → AreBytes bytes
    → IsRead version bytes (piece_of version bytes)
reads-piece_of version [] fit = (Opened 0, (omega arith, 0x4F ∷ 0 ∷ [], λ e. cc, refl))
reads-piece_of version (letter ∷ rest) fit =
    by (letter == 0x42) (letter == 0x4F) (letter == 0x45) (letter == 0x43) refl refl refl refl
  where
    by : (b o e c : Bool) → (letter == 0x42) ≡ b → (letter == 0x4F) ≡ o → (letter == 0x45) ≡ e → (letter == 0x43) ≡ c →
        IsRead version (letter ∷ rest)
        (cond b (order_piece version rest) (cond o (short_piece Opened 63 rest)
        (cond e (short_piece (λ n. Ended (code_numbered n)) 5 rest) (cond c (short_piece Closed 63 rest) Bad))))
    by true o e c p q r s =
        subst (λ l. IsRead version (l ∷ rest) (order_piece version rest)) (sym (eqb-true letter 0x42 p))
        (reads-order version rest fit.1)
    by false true e c p q r s =
        subst (λ l. IsRead version (l ∷ rest) (short_piece Opened 63 rest)) (sym (eqb-true letter 0x4F q))
        (reads-short version 0x4F 63 Opened (λ n few. few) (λ n few. refl) (no-opened version) rest)
    by false false true c p q r s =
        subst (λ l. IsRead version (l ∷ rest) (short_piece (λ n. Ended (code_numbered n)) 5 rest))
        (sym (eqb-true letter 0x45 r))
        (reads-short version 0x45 5 (λ n. Ended (code_numbered n)) (λ n few. tt)
        (λ n few. ap (λ number. 0x45 ∷ number ∷ []) (code_number-code_of n few))
        (no-ended version) rest)
    by false false false true p q r s =
        subst (λ l. IsRead version (l ∷ rest) (short_piece Closed 63 rest)) (sym (eqb-true letter 0x43 s))
        (reads-short version 0x43 63 Closed (λ n few. few) (λ n few. refl) (no-closed version) rest)
    by false false false false p q r s = bad-reads version (letter ∷ rest) (no-letter version letter rest p q r s)
