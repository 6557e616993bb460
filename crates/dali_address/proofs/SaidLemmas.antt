-- The random address shown by three reads of it is true.
use Rattle.std.proofs.Common.{◌≡◌, ◌≢◌, ℕ, inl, inr, ◌⊎◌, [], ◌∷◌, Option, Some, None, refl, sym, subst, ap, ◌∙◌}
use Rattle.dali_address.specs.Units.{Three, Member, Units, IsAt, IsAlone, IsNamed}
use Rattle.dali_address.specs.Obeys.{Does, Tells}
use Rattle.dali_address.specs.Steps.{MayObey, Step, Answers, Collides}
use Rattle.dali_address.specs.Said.{IsTrueOf, NamesAreTrue}
use Rattle.dali_address.specs.declared.call.Call.{Call}
use Rattle.dali_address.specs.declared.call.Call.TheVariants.{AskRandomHigh, AskRandomMiddle, AskRandomLow}

-- the frame asks this byte of the random address at a short address
abbrev Asks : ℕ → (Three → ℕ) → Call → Type 0
Asks short part call =
    (old : Member) (answer : Option ℕ) (new : Member) → Does old call answer new
    → Tells (old.short ≡ Some short) (part old.random) old answer new

-- the unit of this number is at the short address, and this byte of its random address is so
record Told (short : ℕ) (part : Three → ℕ) (byte : ℕ) (units : Units) (number : ℕ) : Type 0 where
  member : Member
  there : units number ≡ Some member
  has : member.short ≡ Some short
  is : part member.random ≡ byte

-- two units are at the short address
record Two (short : ℕ) (units : Units) : Type 0 where
  one : ℕ
  two : ℕ
  others : one ≢ two
  at_one : IsAt units short one
  at_two : IsAt units short two

same_some : (old new : Member) → Some old ≡ Some new → old ≡ new
same_some old new e = cc

told_one : (byte : ℕ) (part : Three → ℕ) (short : ℕ) (call : Call) → Asks short part call → (old new : Units)
    (number : ℕ) → Answers old call byte new number → Told short part byte new number
told_one byte part short call asks old new number answers =
    let tells = asks answers.before (Some byte) answers.obeys.obeyed answers.obeys.does in
    elim tells.1 [
      | inl (has, told) ↦ record {
        member = answers.after;
        there = answers.is;
        has = answers.obeys.passes.short ∙ ap (λ (it : Member). it.short) tells.0 ∙ has;
        is = ap part (answers.obeys.passes.random ∙ ap (λ (it : Member). it.random) tells.0) ∙ by told;
      }
      | inr (never, told) ↦ absurd (not_none told)
    ]
  where
    by : Some byte ≡ Some (part answers.before.random) → part answers.before.random ≡ byte
    by e = cc

    not_none : Some byte ≡ None → ⊥
    not_none e = cc

is_at : (short : ℕ) (part : Three → ℕ) (byte : ℕ) (units : Units) (number : ℕ) → Told short part byte units number
    → IsAt units short number
is_at short part byte units number told = record { member = told.member; there = told.there; has = told.has }

heard_by : (byte : ℕ) (part : Three → ℕ) (short : ℕ) (call : Call) → Asks short part call → (old new : Units)
    → ((number : ℕ) × Answers old call byte new number) ⊎ Collides old call new
    → ((number : ℕ) × Told short part byte new number) ⊎ Two short new
heard_by byte part short call asks old new (inl (number, answers)) =
    inl (number, told_one byte part short call asks old new number answers)
heard_by byte part short call asks old new (inr collides) =
    inr record {
      one = collides.one;
      two = collides.two;
      others = collides.others;
      at_one = is_at short part collides.byte_one new collides.one
          (told_one collides.byte_one part short call asks old new collides.one collides.answers_one);
      at_two = is_at short part collides.byte_two new collides.two
          (told_one collides.byte_two part short call asks old new collides.two collides.answers_two);
    }

heard : {P : Type 0} (byte : ℕ) (part : Three → ℕ) (short : ℕ) (call : Call) → Asks short part call → (P → ⊥)
    → (old new : Units) → P ⊎ ((number : ℕ) × Answers old call byte new number) ⊎ Collides old call new
    → ((number : ℕ) × Told short part byte new number) ⊎ Two short new
heard byte part short call asks other old new (inl alone) = absurd (other alone)
heard byte part short call asks other old new (inr came) = heard_by byte part short call asks old new came

-- a unit's addresses through such a frame
record Same (old new : Member) : Type 0 where
  short : new.short ≡ old.short
  random : new.random ≡ old.random

same_there : (part : Three → ℕ) (short : ℕ) (call : Call) → Asks short part call → (old : Member)
    (new : Option Member) → MayObey (Some old) call new → (after : Member) × (new ≡ Some after) × Same old after
same_there part short call asks old None may = absurd may
same_there part short call asks old (Some new) (inl passes) =
    (new, refl, record { short = passes.short; random = passes.random })
same_there part short call asks old (Some new) (inr (answer, obeys)) =
    let same : obeys.obeyed ≡ old = (asks old answer obeys.obeyed obeys.does).0 in (
      new,
      refl,
      record {
        short = obeys.passes.short ∙ ap (λ (it : Member). it.short) same;
        random = obeys.passes.random ∙ ap (λ (it : Member). it.random) same;
      },
    )

later : (asked : Three → ℕ) (call : Call) (answer : Option ℕ) (short : ℕ) → Asks short asked call → (part : Three → ℕ)
    (byte : ℕ) (old new : Units) → Step old (record { call = call; answer = answer }) new → (number : ℕ)
    → Told short part byte old number → Told short part byte new number
later asked call answer short asks part byte old new step number told =
    let may : MayObey (Some told.member) call (new number)
    = subst (λ (it : Option Member). MayObey it call (new number)) told.there (step.each number) in
    let (after, is, same) = same_there asked short call asks told.member (new number) may in
    record { member = after; there = is; has = same.short ∙ told.has; is = ap part same.random ∙ told.is }

later_at : (asked : Three → ℕ) (call : Call) (answer : Option ℕ) (short : ℕ) → Asks short asked call → (old new : Units)
    → Step old (record { call = call; answer = answer }) new → (number : ℕ) → IsAt old short number
    → IsAt new short number
later_at asked call answer short asks old new step number at =
    let told : Told short asked (asked at.member.random) old number
    = record { member = at.member; there = at.there; has = at.has; is = refl } in
    is_at short asked (asked at.member.random) new number
    (later asked call answer short asks asked (asked at.member.random) old new step number told)

later_two : (asked : Three → ℕ) (call : Call) (answer : Option ℕ) (short : ℕ) → Asks short asked call
    → (old new : Units)
    → Step old (record { call = call; answer = answer }) new → Two short old → Two short new
later_two asked call answer short asks old new step two =
    record {
      one = two.one;
      two = two.two;
      others = two.others;
      at_one = later_at asked call answer short asks old new step two.one two.at_one;
      at_two = later_at asked call answer short asks old new step two.two two.at_two;
    }

-- what came is of a unit there, or two are there
abbrev Heard : ℕ → (Three → ℕ) → ℕ → Units → Type 0
Heard short part byte units = ((number : ℕ) × Told short part byte units number) ⊎ Two short units

later_heard : (asked : Three → ℕ) (call : Call) (answer : Option ℕ) (short : ℕ) → Asks short asked call
    → (part : Three → ℕ) (byte : ℕ) (old new : Units) → Step old (record { call = call; answer = answer }) new
    → Heard short part byte old → Heard short part byte new
later_heard asked call answer short asks part byte old new step (inl (number, told)) =
    inl (number, later asked call answer short asks part byte old new step number told)
later_heard asked call answer short asks part byte old new step (inr two) =
    inr (later_two asked call answer short asks old new step two)

some_at : (short : ℕ) (part : Three → ℕ) (byte : ℕ) (units : Units) → Heard short part byte units
    → (number : ℕ) × IsAt units short number
some_at short part byte units (inl (number, told)) = (number, is_at short part byte units number told)
some_at short part byte units (inr two) = (two.one, two.at_one)

one_of : (short : ℕ) (part : Three → ℕ) (byte : ℕ) (units : Units) → IsAlone units short
    → Heard short part byte units → (number : ℕ) × Told short part byte units number
one_of short part byte units alone (inl told) = told
one_of short part byte units alone (inr two) =
    absurd (two.others (alone two.one two.two two.at_one two.at_two))

abbrev three : ℕ → ℕ → ℕ → Three
three high middle low = record { high = high; middle = middle; low = low }

three_same : (one two : Three) → one.high ≡ two.high → one.middle ≡ two.middle → one.low ≡ two.low → one ≡ two
three_same one two high middle low =
    ap (λ (it : ℕ). three it one.middle one.low) high ∙ ap (λ (it : ℕ). three two.high it one.low) middle
    ∙ ap (λ (it : ℕ). three two.high two.middle it) low

abbrev high_of : Three → ℕ
high_of it = it.high

abbrev middle_of : Three → ℕ
middle_of it = it.middle

abbrev low_of : Three → ℕ
low_of it = it.low

-- two that have one number are one
same_member : (short : ℕ) (part other : Three → ℕ) (byte more : ℕ) (units : Units) (one two : ℕ) → one ≡ two
    → (first : Told short part byte units one) → (second : Told short other more units two)
    → first.member ≡ second.member
same_member short part other byte more units one two same first second =
    same_some first.member second.member (sym first.there ∙ ap units same ∙ second.there)

joined : (short : ℕ) (random : Three) (units : Units) (one two three : ℕ) → one ≡ two → one ≡ three
    → Told short high_of random.high units one → Told short middle_of random.middle units two
    → Told short low_of random.low units three → IsNamed units short random one
joined short random units one two three second third high middle low =
    let same_two : high.member ≡ middle.member
    = same_member short high_of middle_of random.high random.middle units one two second high middle in
    let same_three : high.member ≡ low.member
    = same_member short high_of low_of random.high random.low units one three third high low in
    record {
      member = high.member;
      there = high.there;
      has = high.has;
      drew = three_same high.member.random random high.is
          (ap (λ (it : Member). it.random.middle) same_two ∙ middle.is)
          (ap (λ (it : Member). it.random.low) same_three ∙ low.is);
    }

named : (short : ℕ) (random : Three) (units : Units) → IsAlone units short
    → (number : ℕ) × Told short high_of random.high units number
    → (number : ℕ) × Told short middle_of random.middle units number
    → (number : ℕ) × Told short low_of random.low units number
    → (number : ℕ) × IsNamed units short random number
named short random units alone (one, high) (two, middle) (three, low) = (
  one,
  joined short random units one two three
      (alone one two (is_at short high_of random.high units one high)
      (is_at short middle_of random.middle units two middle))
      (alone one three (is_at short high_of random.high units one high) (is_at short low_of random.low units three low))
      high middle low,
)

true_of : (short : ℕ) (random : Three) (units : Units) → Heard short high_of random.high units
    → Heard short middle_of random.middle units → Heard short low_of random.low units → IsTrueOf short random units
true_of short random units high middle low =
    let some = some_at short high_of random.high units high in
    record {
      number = some.0;
      some = some.1;
      named = λ alone. named short random units alone (one_of short high_of random.high units alone high)
          (one_of short middle_of random.middle units alone middle) (one_of short low_of random.low units alone low);
    }

asks_high : (short : ℕ) → Asks short high_of (AskRandomHigh short)
asks_high short old answer new does = does

asks_middle : (short : ℕ) → Asks short middle_of (AskRandomMiddle short)
asks_middle short old answer new does = does

asks_low : (short : ℕ) → Asks short low_of (AskRandomLow short)
asks_low short old answer new does = does

pub names_are_true : NamesAreTrue
names_are_true first older last [] short random steps = absurd steps
names_are_true first older last (third ∷ []) short random steps = absurd steps.1
names_are_true first older last (third ∷ (second ∷ [])) short random steps = absurd steps.1.1
names_are_true first older last (third ∷ (second ∷ (begun ∷ states))) short random steps =
    let low_step = steps.0 in
    let middle_step = steps.1.0 in
    let high_step = steps.1.1.0 in
    let high_then : Heard short high_of random.high second
    = heard random.high high_of short (AskRandomHigh short) (asks_high short) (λ f. f) begun second high_step.back in
    let middle_then : Heard short middle_of random.middle third
    = heard random.middle middle_of short (AskRandomMiddle short) (asks_middle short) (λ f. f) second third
    middle_step.back in
    let low : Heard short low_of random.low last
    = heard random.low low_of short (AskRandomLow short) (asks_low short) (λ f. f) third last low_step.back in
    let middle : Heard short middle_of random.middle last
    = later_heard low_of (AskRandomLow short) (Some random.low) short (asks_low short) middle_of random.middle
    third last
    low_step middle_then in
    let high_mid : Heard short high_of random.high third
    = later_heard middle_of (AskRandomMiddle short) (Some random.middle) short (asks_middle short) high_of random.high
    second third middle_step high_then in
    let high : Heard short high_of random.high last
    = later_heard low_of (AskRandomLow short) (Some random.low) short (asks_low short) high_of random.high third last
    low_step high_mid in
    true_of short random last high middle low
