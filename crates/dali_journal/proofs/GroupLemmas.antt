-- The records that the table allows, record by record, are a list of groups.
use Rattle.std.proofs.Common.{◌≡◌, ℕ, Bool, true, false, List, [], ◌∷◌, ◌++◌, reverse, refl, sym, ap, ◌∙◌, subst, arith}
use Rattle.std.specs.Prelude.{⊤}
use Rattle.std.proofs.Common.{◌||◌, ◌==◌}
use Rattle.std.proofs.Math.Bool.{or_assoc, or-false}
use Rattle.std.proofs.lemmas.Bool.{or_from, or_parts}
use Rattle.std.proofs.lemmas.Bool.Decides.{nat_tests}
use Rattle.std.proofs.lemmas.List.{reverse-append}
use Rattle.dali_bank.specs.Order.{Contents}
use Rattle.dali_journal.specs.declared.record.Code.TheVariants.{Done, Short, Format, Silent, Doubt, DoubtOpen}
use Rattle.dali_journal.specs.declared.record.Record.{Record}
use Rattle.dali_journal.specs.declared.record.Record.TheVariants.{Began, Opened, Ended, Closed}
use Rattle.dali_journal.specs.declared.standing.Standing.{Standing}
use Rattle.dali_journal.specs.declared.standing.Standing.TheVariants as standings
use Rattle.dali_journal.specs.Sentence.{Allows, next_standing, standing_of, is_begun, IsNew, IsSentence}
use Rattle.dali_journal.specs.Groups.{AreGroups, HaveDistinctNumbers}

-- each record may come where it comes
abbrev AllowedFrom : Standing → List Record → Type 0
AllowedFrom standing [] = ⊤
AllowedFrom standing (entry ∷ rest) = Allows standing entry × AllowedFrom (next_standing standing entry) rest

-- the work that is left after the records
abbrev standing_after : Standing → List Record → Standing
standing_after standing [] = standing
standing_after standing (entry ∷ rest) = standing_after (next_standing standing entry) rest

groups_allowed : (entries : List Record) → AreGroups entries → AllowedFrom standings.Idle entries
groups_allowed [] h = tt
groups_allowed (Began order moment ∷ []) h = (tt, tt)
groups_allowed (Began order moment ∷ Ended Short ∷ rest) h = (tt, (tt, groups_allowed rest h))
groups_allowed (Began order moment ∷ Ended Format ∷ rest) h = (tt, (tt, groups_allowed rest h))
groups_allowed (Began order moment ∷ Ended Silent ∷ rest) h = (tt, (tt, groups_allowed rest h))
groups_allowed (Began order moment ∷ Opened unit ∷ []) h = (tt, (h, tt))
groups_allowed (Began order moment ∷ Opened unit ∷ Ended Done ∷ rest) h = (tt, (h.0, (tt, groups_allowed rest h.1)))
groups_allowed (Began order moment ∷ Opened unit ∷ Ended Doubt ∷ rest) h = (tt, (h.0, (tt, groups_allowed rest h.1)))
groups_allowed (Began order moment ∷ Opened unit ∷ Ended DoubtOpen ∷ []) h = (tt, (h, (tt, tt)))
groups_allowed (Began order moment ∷ Opened unit ∷ Ended DoubtOpen ∷ Closed left ∷ rest) h =
    (tt, (h.0, (tt, (h.1, groups_allowed rest h.2))))
groups_allowed _ h = absurd h

allowed_groups : (entries : List Record) → AllowedFrom standings.Idle entries → AreGroups entries
allowed_groups [] h = tt
allowed_groups (Began order moment ∷ []) h = tt
allowed_groups (Began order moment ∷ Ended Short ∷ rest) h = allowed_groups rest h.1.1
allowed_groups (Began order moment ∷ Ended Format ∷ rest) h = allowed_groups rest h.1.1
allowed_groups (Began order moment ∷ Ended Silent ∷ rest) h = allowed_groups rest h.1.1
allowed_groups (Began order moment ∷ Opened unit ∷ []) h = h.1.0
allowed_groups (Began order moment ∷ Opened unit ∷ Ended Done ∷ rest) h = (h.1.0, allowed_groups rest h.1.1.1)
allowed_groups (Began order moment ∷ Opened unit ∷ Ended Doubt ∷ rest) h = (h.1.0, allowed_groups rest h.1.1.1)
allowed_groups (Began order moment ∷ Opened unit ∷ Ended DoubtOpen ∷ []) h = h.1.0
allowed_groups (Began order moment ∷ Opened unit ∷ Ended DoubtOpen ∷ Closed left ∷ rest) h =
    (h.1.0, h.1.1.1.0, allowed_groups rest h.1.1.1.1)
allowed_groups (Began order moment ∷ Opened unit ∷ Ended DoubtOpen ∷ _) h = absurd h.1.1.1.0
allowed_groups (Began order moment ∷ Opened unit ∷ _ ∷ _) h = absurd h.1.1.0
allowed_groups (Began order moment ∷ _ ∷ _) h = absurd h.1.0
allowed_groups (_ ∷ _) h = absurd h.0

-- one record more at the end
allowed_push : (standing : Standing) (entries : List Record) (entry : Record) →
    AllowedFrom standing entries → Allows (standing_after standing entries) entry
    → AllowedFrom standing (entries ++ entry ∷ [])
allowed_push standing [] entry h may = (may, tt)
allowed_push standing (first ∷ rest) entry h may = (h.0, allowed_push (next_standing standing first) rest entry h.1 may)

allowed_pop : (standing : Standing) (entries : List Record) (entry : Record) →
    AllowedFrom standing (entries ++ entry ∷ [])
    → AllowedFrom standing entries × Allows (standing_after standing entries) entry
allowed_pop standing [] entry h = (tt, h.0)
allowed_pop standing (first ∷ rest) entry h =
    let more = allowed_pop (next_standing standing first) rest entry h.1 in ((h.0, more.0), more.1)

after_push : (standing : Standing) (entries : List Record) (entry : Record) →
    standing_after standing (entries ++ entry ∷ []) ≡ next_standing (standing_after standing entries) entry
after_push standing [] entry = refl
after_push standing (first ∷ rest) entry = after_push (next_standing standing first) rest entry

reverse_cons : (entry : Record) (older : List Record) → reverse (entry ∷ older) ≡ reverse older ++ entry ∷ []
reverse_cons entry older = reverse-append (entry ∷ []) older

standing_reverse : (records : List Record) → standing_after standings.Idle (reverse records) ≡ standing_of records
standing_reverse [] = refl
standing_reverse (entry ∷ older) =
    ap (standing_after standings.Idle) (reverse_cons entry older) ∙ after_push standings.Idle (reverse older) entry
    ∙ ap (λ stands. next_standing stands entry) (standing_reverse older)

-- numbers

or_swap : (a b : Bool) → (b || (a || false)) ≡ (a || b)
or_swap true true = refl
or_swap true false = refl
or_swap false true = refl
or_swap false false = refl

apart : (a b : ℕ) → (a == b) ≡ false → (b == a) ≡ false
apart a b e = grind (arith, nat_tests)

begun_push : (id : ℕ) (entries : List Record) (entry : Record) →
    is_begun id (entries ++ entry ∷ []) ≡ (is_begun id entries || is_begun id (entry ∷ []))
begun_push id [] entry = refl
begun_push id (Began order moment ∷ rest) entry =
    ap (λ more. order.id == id || more) (begun_push id rest entry)
    ∙ sym (or_assoc (order.id == id) (is_begun id rest) (is_begun id (entry ∷ [])))
begun_push id (Opened unit ∷ rest) entry = begun_push id rest entry
begun_push id (Ended code ∷ rest) entry = begun_push id rest entry
begun_push id (Closed unit ∷ rest) entry = begun_push id rest entry

one_more : (id : ℕ) (entry : Record) (older : List Record)
    → (is_begun id older || is_begun id (entry ∷ [])) ≡ is_begun id (entry ∷ older)
one_more id (Began order moment) older = or_swap (order.id == id) (is_begun id older)
one_more id (Opened unit) older = or-false (is_begun id older)
one_more id (Ended code) older = or-false (is_begun id older)
one_more id (Closed unit) older = or-false (is_begun id older)

begun_reverse : (id : ℕ) (records : List Record) → is_begun id (reverse records) ≡ is_begun id records
begun_reverse id [] = refl
begun_reverse id (entry ∷ older) =
    ap (is_begun id) (reverse_cons entry older) ∙ begun_push id (reverse older) entry
    ∙ ap (λ b. b || is_begun id (entry ∷ [])) (begun_reverse id older) ∙ one_more id entry older

new_same : (entry : Record) (some same : List Record) → ((id : ℕ) → is_begun id same ≡ is_begun id some)
    → IsNew entry some → IsNew entry same
new_same (Began order moment) some same f new = f order.id ∙ new
new_same (Opened unit) some same f new = tt
new_same (Ended code) some same f new = tt
new_same (Closed unit) some same f new = tt

alone : (entry : Record) → HaveDistinctNumbers (entry ∷ [])
alone (Began order moment) = (refl, tt)
alone (Opened unit) = tt
alone (Ended code) = tt
alone (Closed unit) = tt

new_alone : (entry : Record) → IsNew entry []
new_alone (Began order moment) = refl
new_alone (Opened unit) = tt
new_alone (Ended code) = tt
new_alone (Closed unit) = tt

-- a new number is another than the first
new_first : (first : Contents) (moment : ℕ) (rest : List Record) (entry : Record)
    → IsNew entry (Began first moment ∷ rest)
    → is_begun first.id (entry ∷ []) ≡ false
new_first first moment rest (Began order at) new =
    or_from (order.id == first.id) false
    (apart first.id order.id (or_parts (first.id == order.id) (is_begun order.id rest) new).0) refl
new_first first moment rest (Opened unit) new = refl
new_first first moment rest (Ended code) new = refl
new_first first moment rest (Closed unit) new = refl

new_rest : (first : Contents) (moment : ℕ) (rest : List Record) (entry : Record)
    → IsNew entry (Began first moment ∷ rest)
    → IsNew entry rest
new_rest first moment rest (Began order at) new = (or_parts (first.id == order.id) (is_begun order.id rest) new).1
new_rest first moment rest (Opened unit) new = tt
new_rest first moment rest (Ended code) new = tt
new_rest first moment rest (Closed unit) new = tt

new_both : (first : Contents) (moment : ℕ) (rest : List Record) (entry : Record)
    → is_begun first.id (entry ∷ []) ≡ false
    → IsNew entry rest
    → IsNew entry (Began first moment ∷ rest)
new_both first moment rest (Began order at) other new =
    or_from (first.id == order.id) (is_begun order.id rest)
    (apart order.id first.id (or_parts (order.id == first.id) false other).0) new
new_both first moment rest (Opened unit) other new = tt
new_both first moment rest (Ended code) other new = tt
new_both first moment rest (Closed unit) other new = tt

distinct_push : (entries : List Record) (entry : Record) → HaveDistinctNumbers entries → IsNew entry entries
    → HaveDistinctNumbers (entries ++ entry ∷ [])
distinct_push [] entry h new = alone entry
distinct_push (Began first moment ∷ rest) entry h new = (
  begun_push first.id rest entry
      ∙ or_from (is_begun first.id rest) (is_begun first.id (entry ∷ [])) h.0 (new_first first moment rest entry new),
  distinct_push rest entry h.1 (new_rest first moment rest entry new),
)
distinct_push (Opened unit ∷ rest) entry h new =
    distinct_push rest entry h (new_same entry (Opened unit ∷ rest) rest (λ id. refl) new)
distinct_push (Ended code ∷ rest) entry h new =
    distinct_push rest entry h (new_same entry (Ended code ∷ rest) rest (λ id. refl) new)
distinct_push (Closed unit ∷ rest) entry h new =
    distinct_push rest entry h (new_same entry (Closed unit ∷ rest) rest (λ id. refl) new)

distinct_pop : (entries : List Record) (entry : Record) → HaveDistinctNumbers (entries ++ entry ∷ [])
    → HaveDistinctNumbers entries × IsNew entry entries
distinct_pop [] entry h = (tt, new_alone entry)
distinct_pop (Began first moment ∷ rest) entry h =
    let more = distinct_pop rest entry h.1 in
    let both =
    or_parts (is_begun first.id rest) (is_begun first.id (entry ∷ [])) (sym (begun_push first.id rest entry) ∙ h.0) in
    ((both.0, more.0), new_both first moment rest entry both.1 more.1)
distinct_pop (Opened unit ∷ rest) entry h =
    let more = distinct_pop rest entry h in (more.0, new_same entry rest (Opened unit ∷ rest) (λ id. refl) more.1)
distinct_pop (Ended code ∷ rest) entry h =
    let more = distinct_pop rest entry h in (more.0, new_same entry rest (Ended code ∷ rest) (λ id. refl) more.1)
distinct_pop (Closed unit ∷ rest) entry h =
    let more = distinct_pop rest entry h in (more.0, new_same entry rest (Closed unit ∷ rest) (λ id. refl) more.1)

-- both, oldest first
abbrev AreAllowed : List Record → Type 0
AreAllowed entries = AllowedFrom standings.Idle entries × HaveDistinctNumbers entries

sentence_allowed : (records : List Record) → IsSentence records → AreAllowed (reverse records)
sentence_allowed [] sentence = (tt, tt)
sentence_allowed (entry ∷ older) sentence =
    let before = sentence_allowed older sentence.0 in
    subst AreAllowed (sym (reverse_cons entry older)) (
      allowed_push standings.Idle (reverse older) entry before.0
          (subst (λ stands. Allows stands entry) (sym (standing_reverse older)) sentence.1),
      distinct_push (reverse older) entry before.1
          (new_same entry older (reverse older) (λ id. begun_reverse id older) sentence.2),
    )

allowed_sentence : (records : List Record) → AreAllowed (reverse records) → IsSentence records
allowed_sentence [] h = tt
allowed_sentence (entry ∷ older) h =
    let so = subst AreAllowed (reverse_cons entry older) h in
    let allowed = allowed_pop standings.Idle (reverse older) entry so.0 in
    let distinct = distinct_pop (reverse older) entry so.1 in (
      allowed_sentence older (allowed.0, distinct.0),
      subst (λ stands. Allows stands entry) (standing_reverse older) allowed.1,
      new_same entry (reverse older) older (λ id. sym (begun_reverse id older)) distinct.1,
    )

pub sentence_groups : (records : List Record) → IsSentence records
    → AreGroups (reverse records) × HaveDistinctNumbers (reverse records)
sentence_groups records sentence =
    let allowed = sentence_allowed records sentence in (allowed_groups (reverse records) allowed.0, allowed.1)

pub groups_sentence : (records : List Record) → AreGroups (reverse records) × HaveDistinctNumbers (reverse records)
    → IsSentence records
groups_sentence records h = allowed_sentence records (groups_allowed (reverse records) h.0, h.1)
