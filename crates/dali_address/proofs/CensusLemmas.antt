-- The units during a census in which nothing was lost.
use Rattle.std.proofs.Common.{◌≡◌, ◌≢◌, ℕ, ◌<◌, inl, inr, ◌⊎◌, List, [], ◌∷◌, Option, Some, None, refl, sym, subst, ap, ◌∙◌}
use Rattle.std.proofs.Common.{arith}
use Rattle.dali_address.specs.Units.{Three, number_of, Phase, Disabled, Enabled, Withdrawn, Member, Units}
use Rattle.dali_address.specs.Obeys.{Tells, IsChosen, told_short}
use Rattle.dali_address.specs.Steps.{Exchange, Answers, Collides, calls_of}
use Rattle.dali_address.specs.Census.{IsWhole, IsDrawnWithin, WasHeard, HasAddresses}
use Rattle.dali_address.specs.Tallying.{IsQuiet, sought, Counted, IsIn, Tally, only_asks, Rises, Repeats, CountsOne}
use Rattle.dali_address.specs.Tallying.{CountsNone, Leads, IsCensus}
use Rattle.dali_address.proofs.HeardLemmas.{some_is, Kept, Calm, calm_quiet, Keeps, keeps_quiet, keeps_withdrawn, Still}
use Rattle.dali_address.proofs.HeardLemmas.{still, AreSound, sound_before}
use Rattle.dali_address.proofs.OpeningLemmas.{AreReady, Came, all_heard, came_before, opening_drew, ready, within_more}
use Rattle.dali_address.specs.declared.call.Call.{Call}
use Rattle.dali_address.specs.declared.call.Call.TheVariants.{Terminate, InitialiseAll, InitialiseMissing, InitialiseAt}
use Rattle.dali_address.specs.declared.call.Call.TheVariants.{Randomise, Compare, Withdraw, SearchHigh, SearchMiddle}
use Rattle.dali_address.specs.declared.call.Call.TheVariants.{SearchLow, Program, Remove, AskShort, AskMissing}
use Rattle.dali_address.specs.declared.call.Call.TheVariants.{AskPresent, AskRandomHigh, AskRandomMiddle, AskRandomLow}

-- what a census would tell of the unit
abbrev pub entry : Member → Counted
entry member = record { random = member.random; told = told_short member.short }

-- a unit is there with these counted answers
pub record Named (units : Units) (one : Counted) : Type 0 where
  pub number : ℕ
  pub member : Member
  pub there : units number ≡ Some member
  pub random : member.random ≡ one.random
  pub told : told_short member.short ≡ one.told

named_on : (call : Call) (old new : Units) (one : Counted) → Keeps call old new → Named old one → Named new one
named_on call old new one keeps named =
    let it : Still named.member (new named.number) = still call old new keeps named.number named.member named.there in
    record {
      number = named.number;
      member = it.member;
      there = it.is;
      random = it.random ∙ named.random;
      told = ap (λ (s : Option ℕ). told_short s) it.short ∙ named.told;
    }

-- the random addresses rise, the newest first
abbrev pub IsRising : List Counted → Type 0
IsRising [] = Unit {0}
IsRising (one ∷ more) = Rises more one.random × IsRising more

-- what is so of the units during a census
pub record IsAmid (counted : List Counted) (units : Units) (search : Three) : Type 0 where
  pub on : (number : ℕ) (member : Member) → units number ≡ Some member
      → (member.phase ≢ Disabled) × (member.search ≡ search)
  pub covers : (number : ℕ) (member : Member) → units number ≡ Some member
      → (member.phase ≡ Enabled) ⊎ IsIn (entry member) counted
  pub named : (one : Counted) → IsIn one counted → Named units one
  pub rising : IsRising counted

clash : (phase : Phase) → phase ≡ Enabled → phase ≢ Disabled
clash phase on = λ off. differ on off
  where
    differ : phase ≡ Enabled → phase ≡ Disabled → ⊥
    differ one other = cc

in_same : (member after : Member) (counted : List Counted) → after.short ≡ member.short
    → after.random ≡ member.random → IsIn (entry member) counted → IsIn (entry after) counted
in_same member after counted short random is =
    subst (λ (r : Three). IsIn (record { random = r; told = told_short after.short }) counted) (sym random)
    (subst (λ (s : Option ℕ). IsIn (record { random = member.random; told = told_short s }) counted) (sym short) is)

still_on : (old new : Phase) → old ≢ Disabled → (new ≡ old) → new ≢ Disabled
still_on old new on same = λ off. on (sym same ∙ off)

not_off : (phase : Phase) → phase ≡ Withdrawn → phase ≢ Disabled
not_off phase drawn = λ off. differ drawn off
  where
    differ : phase ≡ Withdrawn → phase ≡ Disabled → ⊥
    differ one other = cc

on_after : (call : Call) (old : Option Member) (new : Member) (kept : Kept call old new)
    → kept.member.phase ≢ Disabled → new.phase ≢ Disabled
on_after call old new kept on = elim kept.phase [
  | inl same ↦ still_on kept.member.phase new.phase on same
  | inr (drawn, at) ↦ not_off new.phase drawn
]

-- amid a census after WITHDRAW, if the units that the frame withdrew are counted
amid_withdrawn : (counted more : List Counted) (old new : Units) (search : Three) → IsAmid counted old search
    → Keeps Withdraw old new → ((one : Counted) → IsIn one counted → IsIn one more)
    → ((number : ℕ) (member : Member) → old number ≡ Some member → member.random ≡ search → IsIn (entry member) more)
    → ((one : Counted) → IsIn one more → Named new one) → IsRising more → IsAmid more new search
amid_withdrawn counted more old new search amid keeps grows drawn named rising =
    record {
      on = λ number after is.
          let kept : Kept Withdraw (old number) after = keeps.each number after is in
          let was = amid.on number kept.member kept.was in
          (on_after Withdraw (old number) after kept was.0, kept.search was.0 ∙ was.1);
      covers = λ number after is. covered number after (keeps.each number after is);
      named = named;
      rising = rising;
    }
  where
    covered : (number : ℕ) (after : Member) → Kept Withdraw (old number) after
        → (after.phase ≡ Enabled) ⊎ IsIn (entry after) more
    covered number after kept = by kept.phase (amid.covers number kept.member kept.was)
      where
        by : ((after.phase ≡ kept.member.phase)
            ⊎ ((after.phase ≡ Withdrawn) × (kept.member.random ≡ kept.member.search)))
            → ((kept.member.phase ≡ Enabled) ⊎ IsIn (entry kept.member) counted)
            → (after.phase ≡ Enabled) ⊎ IsIn (entry after) more
        by (inl same) (inl on) = inl (same ∙ on)
        by (inl same) (inr is) = inr (in_same kept.member after more kept.short kept.random (grows _ is))
        by (inr (gone, at)) before =
            inr (in_same kept.member after more kept.short kept.random
            (drawn number kept.member kept.was (at ∙ (amid.on number kept.member kept.was).1)))

-- a quiet frame withdraws none
amid_quiet : (counted : List Counted) (old : Units) (exchange : Exchange) (new : Units) (search : Three)
    → IsAmid counted old search → IsWhole old exchange new → IsQuiet exchange.call
    → IsAmid counted new (sought search exchange.call)
amid_quiet counted old exchange new search amid whole quiet =
    record {
      on = λ number after is.
          let it : Calm exchange.call (old number) after = calm_quiet old exchange new whole quiet number after is in
          let was = amid.on number it.kept.member it.kept.was in (
            still_on it.kept.member.phase after.phase was.0 it.same,
            it.kept.search was.0 ∙ ap (λ (at : Three). sought at exchange.call) was.1,
          );
      covers = λ number after is. covered number after (calm_quiet old exchange new whole quiet number after is);
      named = λ one is.
          named_on exchange.call old new one (keeps_quiet old exchange new whole quiet) (amid.named one is);
      rising = amid.rising;
    }
  where
    covered : (number : ℕ) (after : Member) → Calm exchange.call (old number) after
        → (after.phase ≡ Enabled) ⊎ IsIn (entry after) counted
    covered number after it = elim (amid.covers number it.kept.member it.kept.was) [
      | inl on ↦ inl (it.same ∙ on)
      | inr is ↦ inr (in_same it.kept.member after counted it.kept.short it.kept.random is)
    ]

-- who answers QUERY SHORT ADDRESS is at the search address
told_of : (counted : List Counted) (old new : Units) (search : Three) (byte number : ℕ) → IsAmid counted old search
    → Answers old AskShort byte new number
    → (member : Member) × (old number ≡ Some member) × (member.random ≡ search) × (told_short member.short ≡ byte)
told_of counted old new search byte number amid answers =
    let tells : Tells (IsChosen answers.before) (told_short answers.before.short) answers.before (Some byte)
    answers.obeys.obeyed
    = answers.obeys.does in
    by tells.1
  where
    by : ((IsChosen answers.before × (Some byte ≡ Some (told_short answers.before.short)))
        ⊎ ((IsChosen answers.before → ⊥) × (Some byte ≡ None)))
        → (member : Member) × (old number ≡ Some member) × (member.random ≡ search)
        × (told_short member.short ≡ byte)
    by (inl (chosen, told)) = (
      answers.before,
      answers.was,
      chosen.1 ∙ (amid.on number answers.before answers.was).1,
      some_byte (told_short answers.before.short) byte (sym told),
    )
      where
        some_byte : (one two : ℕ) → Some one ≡ Some two → one ≡ two
        some_byte one two e = cc
    by (inr (never, told)) = absurd (no told)
      where
        no : Some byte ≡ None → ⊥
        no e = cc

-- so what came back is what the unit there told, since one alone is there
told_at : (counted : List Counted) (old new : Units) (search : Three) (byte : ℕ) → AreSound old
    → IsAmid counted old search → IsWhole old (record { call = AskShort; answer = Some byte }) new
    → Named old (record { random = search; told = byte })
told_at counted old new search byte sound amid whole = by whole.step.back
  where
    by : ⊥ ⊎ ((number : ℕ) × Answers old AskShort byte new number) ⊎ Collides old AskShort new
        → Named old (record { random = search; told = byte })
    by (inl never) = absurd never
    by (inr (inl (number, answers))) =
        let (member, there, random, told) = told_of counted old new search byte number amid answers in
        record { number = number; member = member; there = there; random = random; told = told }
    by (inr (inr collides)) =
        let (one, was_one, at_one, told_one)
        = told_of counted old new search collides.byte_one collides.one amid collides.answers_one in
        let (two, was_two, at_two, told_two)
        = told_of counted old new search collides.byte_two collides.two amid collides.answers_two in
        absurd (collides.others (sound.numbers collides.one collides.two one two was_one was_two (at_one ∙ sym at_two)))

counted_same : (one two : Counted) → one.random ≡ two.random → one.told ≡ two.told → one ≡ two
counted_same one two random told =
    let C : Three → ℕ → Counted = λ r t. record { random = r; told = t } in
    ap (λ (it : Three). C it one.told) random ∙ ap (λ (it : ℕ). C two.random it) told

-- one random address is one unit's
pub same_unit : (units : Units) (one : Counted) (number : ℕ) (member : Member) → AreSound units → Named units one
    → units number ≡ Some member → member.random ≡ one.random → entry member ≡ one
same_unit units one number member sound named was at =
    let same : number ≡ named.number
    = sound.numbers number named.number member named.member was named.there (at ∙ sym named.random) in
    let it : member ≡ named.member = some_is member named.member (sym was ∙ ap units same ∙ named.there) in
    counted_same (entry member) one at (ap (λ (m : Member). told_short m.short) it ∙ named.told)

-- what is so after some exchanges: amid the census, and what the newest ask told is so of the unit at the search
-- address
pub record IsSoFar (units : Units) (tally : Tally) : Type 0 where
  pub amid : IsAmid tally.counted units tally.search
  pub asked : (byte : ℕ) → tally.asked ≡ Some byte → Named units (record { random = tally.search; told = byte })

no_byte : (byte : ℕ) → None ≡ Some byte → ⊥
no_byte byte e = cc

unasked : (counted : List Counted) (units : Units) (search : Three) → IsAmid counted units search
    → IsSoFar units (record { search = search; counted = counted; asked = None })
unasked counted units search amid = record { amid = amid; asked = λ byte told. absurd (no_byte byte told) }

-- a frame that asks the short address
asked_so : (old : Units) (answer : Option ℕ) (new : Units) (tally : Tally) → AreSound old
    → IsAmid tally.counted old tally.search → IsWhole old (record { call = AskShort; answer = answer }) new
    → IsSoFar new (record { search = tally.search; counted = tally.counted; asked = answer })
asked_so old None new tally sound amid whole =
    unasked tally.counted new tally.search
    (amid_quiet tally.counted old (record { call = AskShort; answer = None }) new tally.search amid whole tt)
asked_so old (Some byte) new tally sound amid whole =
    record {
      amid = amid_quiet tally.counted old (record { call = AskShort; answer = Some byte }) new tally.search amid whole
          tt;
      asked = λ other told.
          subst (λ (it : ℕ). Named new (record { random = tally.search; told = it })) (same_byte byte other told)
          (named_on AskShort old new (record { random = tally.search; told = byte })
          (keeps_quiet old (record { call = AskShort; answer = Some byte }) new whole tt)
          (told_at tally.counted old new tally.search byte sound amid whole));
    }
  where
    same_byte : (one two : ℕ) → Some one ≡ Some two → one ≡ two
    same_byte one two e = cc

-- a unit that was asked and withdrawn is the one that is counted
counted_so : (old : Units) (answer : Option ℕ) (new : Units) (tally after : Tally) → AreSound old → IsSoFar old tally
    → IsWhole old (record { call = Withdraw; answer = answer }) new → CountsOne tally after → IsSoFar new after
counted_so old answer new tally after sound far whole counts =
    let one : Counted = record { random = tally.search; told = counts.byte } in
    let keeps : Keeps Withdraw old new = keeps_withdrawn old answer new whole in
    let here : Named old one = far.asked counts.byte counts.told in
    let amid : IsAmid (one ∷ tally.counted) new tally.search
    = amid_withdrawn tally.counted (one ∷ tally.counted) old new tally.search far.amid keeps (λ it is. inr is)
    (λ number member was at. inl (same_unit old one number member sound here was at)) (named one here keeps)
    (counts.above, far.amid.rising) in
    subst (λ (it : Tally). IsSoFar new it) (sym counts.is) (unasked (one ∷ tally.counted) new tally.search amid)
  where
    named : (one : Counted) → Named old one → Keeps Withdraw old new → (it : Counted) → IsIn it (one ∷ tally.counted)
        → Named new it
    named one here keeps it (inl same) =
        subst (λ (c : Counted). Named new c) (sym same) (named_on Withdraw old new one keeps here)
    named one here keeps it (inr is) = named_on Withdraw old new it keeps (far.amid.named it is)

three_same : (one two : Three) → (one.high < 256) × (one.middle < 256) × (one.low < 256)
    → (two.high < 256) × (two.middle < 256) × (two.low < 256) → number_of one ≡ number_of two → one ≡ two
three_same one two (a, b, c) (d, e, f) same =
    let T : ℕ → ℕ → ℕ → Three = λ high middle low. record { high = high; middle = middle; low = low } in
    let high : one.high ≡ two.high = omega arith in
    let middle : one.middle ≡ two.middle = omega arith in
    let low : one.low ≡ two.low = omega arith in
    ap (λ (it : ℕ). T it one.middle one.low) high ∙ ap (λ (it : ℕ). T two.high it one.low) middle
    ∙ ap (λ (it : ℕ). T two.high two.middle it) low

bytes_of : (member : Member) → HasAddresses member
    → (member.random.high < 256) × (member.random.middle < 256) × (member.random.low < 256)
bytes_of member has = (has.high, has.middle, has.low)

-- what is withdrawn at the random address that was counted last is that unit
repeated : (counted : List Counted) (old : Units) (search : Three) → AreSound old → IsAmid counted old search
    → Repeats counted search → (number : ℕ) (member : Member) → old number ≡ Some member → member.random ≡ search
    → IsIn (entry member) counted
repeated [] old search sound amid again number member was at = absurd again
repeated (newest ∷ older) old search sound amid again number member was at =
    let named : Named old newest = amid.named newest (inl refl) in
    let numbers : number_of member.random ≡ number_of named.member.random
    = ap number_of at ∙ sym again ∙ sym (ap number_of named.random) in
    let same : member.random ≡ named.member.random
    = three_same member.random named.member.random (bytes_of member (sound.addresses number member was))
    (bytes_of named.member (sound.addresses named.number named.member named.there)) numbers in
    inl (same_unit old newest number member sound named was (same ∙ named.random))

again_so : (old : Units) (answer : Option ℕ) (new : Units) (tally after : Tally) → AreSound old → IsSoFar old tally
    → IsWhole old (record { call = Withdraw; answer = answer }) new → CountsNone tally after → IsSoFar new after
again_so old answer new tally after sound far whole counts =
    let keeps : Keeps Withdraw old new = keeps_withdrawn old answer new whole in
    let amid : IsAmid tally.counted new tally.search
    = amid_withdrawn tally.counted tally.counted old new tally.search far.amid keeps (λ it is. is)
    (repeated tally.counted old tally.search sound far.amid counts.again)
    (λ it is. named_on Withdraw old new it keeps (far.amid.named it is)) far.amid.rising in
    subst (λ (it : Tally). IsSoFar new it) (sym counts.is) (unasked tally.counted new tally.search amid)

quiet_so : (old : Units) (exchange : Exchange) (new : Units) (tally after : Tally) → IsSoFar old tally
    → IsWhole old exchange new → IsQuiet exchange.call → after ≡ only_asks tally exchange.call → IsSoFar new after
quiet_so old exchange new tally after far whole quiet is =
    subst (λ (it : Tally). IsSoFar new it) (sym is)
    (unasked tally.counted new (sought tally.search exchange.call)
    (amid_quiet tally.counted old exchange new tally.search far.amid whole quiet))

withdrawn_so : (old : Units) (answer : Option ℕ) (new : Units) (tally after : Tally) → AreSound old → IsSoFar old tally
    → IsWhole old (record { call = Withdraw; answer = answer }) new → CountsOne tally after ⊎ CountsNone tally after
    → IsSoFar new after
withdrawn_so old answer new tally after sound far whole (inl counts) =
    counted_so old answer new tally after sound far whole counts
withdrawn_so old answer new tally after sound far whole (inr counts) =
    again_so old answer new tally after sound far whole counts

-- a frame of a census but of its opening keeps the addresses
leads_keep : (old : Units) (call : Call) (answer : Option ℕ) (new : Units) (tally after : Tally)
    → IsWhole old (record { call = call; answer = answer }) new → Leads tally call answer after → Keeps call old new
leads_keep old Withdraw answer new tally after whole leads = keeps_withdrawn old answer new whole
leads_keep old AskShort answer new tally after whole leads =
    keeps_quiet old (record { call = AskShort; answer = answer }) new whole tt
leads_keep old Terminate answer new tally after whole leads = absurd leads.0
leads_keep old InitialiseAll answer new tally after whole leads = absurd leads.0
leads_keep old InitialiseMissing answer new tally after whole leads = absurd leads.0
leads_keep old (InitialiseAt short) answer new tally after whole leads = absurd leads.0
leads_keep old Randomise answer new tally after whole leads = absurd leads.0
leads_keep old (Program short) answer new tally after whole leads = absurd leads.0
leads_keep old Remove answer new tally after whole leads = absurd leads.0
leads_keep old Compare answer new tally after whole leads =
    keeps_quiet old (record { call = Compare; answer = answer }) new whole tt
leads_keep old (SearchHigh byte) answer new tally after whole leads =
    keeps_quiet old (record { call = SearchHigh byte; answer = answer }) new whole tt
leads_keep old (SearchMiddle byte) answer new tally after whole leads =
    keeps_quiet old (record { call = SearchMiddle byte; answer = answer }) new whole tt
leads_keep old (SearchLow byte) answer new tally after whole leads =
    keeps_quiet old (record { call = SearchLow byte; answer = answer }) new whole tt
leads_keep old AskMissing answer new tally after whole leads =
    keeps_quiet old (record { call = AskMissing; answer = answer }) new whole tt
leads_keep old (AskPresent short) answer new tally after whole leads =
    keeps_quiet old (record { call = AskPresent short; answer = answer }) new whole tt
leads_keep old (AskRandomHigh short) answer new tally after whole leads =
    keeps_quiet old (record { call = AskRandomHigh short; answer = answer }) new whole tt
leads_keep old (AskRandomMiddle short) answer new tally after whole leads =
    keeps_quiet old (record { call = AskRandomMiddle short; answer = answer }) new whole tt
leads_keep old (AskRandomLow short) answer new tally after whole leads =
    keeps_quiet old (record { call = AskRandomLow short; answer = answer }) new whole tt

pub so_after : (old : Units) (call : Call) (answer : Option ℕ) (new : Units) (tally after : Tally) → AreSound old
    → IsSoFar old tally → IsWhole old (record { call = call; answer = answer }) new → Leads tally call answer after
    → IsSoFar new after
so_after old Withdraw answer new tally after sound far whole leads =
    withdrawn_so old answer new tally after sound far whole leads
so_after old AskShort answer new tally after sound far whole leads =
    subst (λ (it : Tally). IsSoFar new it) (sym leads) (asked_so old answer new tally sound far.amid whole)
so_after old Terminate answer new tally after sound far whole leads = absurd leads.0
so_after old InitialiseAll answer new tally after sound far whole leads = absurd leads.0
so_after old InitialiseMissing answer new tally after sound far whole leads = absurd leads.0
so_after old (InitialiseAt short) answer new tally after sound far whole leads = absurd leads.0
so_after old Randomise answer new tally after sound far whole leads = absurd leads.0
so_after old (Program short) answer new tally after sound far whole leads = absurd leads.0
so_after old Remove answer new tally after sound far whole leads = absurd leads.0
so_after old Compare answer new tally after sound far whole leads =
    quiet_so old (record { call = Compare; answer = answer }) new tally after far whole tt leads.1
so_after old (SearchHigh byte) answer new tally after sound far whole leads =
    quiet_so old (record { call = SearchHigh byte; answer = answer }) new tally after far whole tt leads.1
so_after old (SearchMiddle byte) answer new tally after sound far whole leads =
    quiet_so old (record { call = SearchMiddle byte; answer = answer }) new tally after far whole tt leads.1
so_after old (SearchLow byte) answer new tally after sound far whole leads =
    quiet_so old (record { call = SearchLow byte; answer = answer }) new tally after far whole tt leads.1
so_after old AskMissing answer new tally after sound far whole leads =
    quiet_so old (record { call = AskMissing; answer = answer }) new tally after far whole tt leads.1
so_after old (AskPresent short) answer new tally after sound far whole leads =
    quiet_so old (record { call = AskPresent short; answer = answer }) new tally after far whole tt leads.1
so_after old (AskRandomHigh short) answer new tally after sound far whole leads =
    quiet_so old (record { call = AskRandomHigh short; answer = answer }) new tally after far whole tt leads.1
so_after old (AskRandomMiddle short) answer new tally after sound far whole leads =
    quiet_so old (record { call = AskRandomMiddle short; answer = answer }) new tally after far whole tt leads.1
so_after old (AskRandomLow short) answer new tally after sound far whole leads =
    quiet_so old (record { call = AskRandomLow short; answer = answer }) new tally after far whole tt leads.1

-- when the opening is over
amid_first : (units : Units) (search : Three) → AreReady search units → IsAmid [] units search
amid_first units search ready =
    record {
      on = λ number member is. (clash member.phase (ready number member is).0, (ready number member is).1);
      covers = λ number member is. inl (ready number member is).0;
      named = λ one never. absurd never;
      rising = tt;
    }

-- a frame of a census but of its opening isn't RANDOMISE
leads_other : (tally after : Tally) (call : Call) (answer : Option ℕ) → Leads tally call answer after → call ≢ Randomise
leads_other tally after call answer leads =
    λ same. (subst (λ (it : Call). Leads tally it answer after) same leads).0

-- so nobody draws during a census
none_draws : (told : List Exchange) (tally : Tally) → IsCensus told tally → IsDrawnWithin 4 (calls_of told) → ⊥
none_draws [] tally census drew = census
none_draws (newest ∷ past) tally (inl opened) drew =
    opening_drew (subst (λ (it : List Call). IsDrawnWithin 4 it) opened.sent drew)
none_draws (newest ∷ past) tally (inr (before, earlier, leads)) (inl same) =
    leads_other before tally newest.call newest.answer leads same
none_draws (newest ∷ past) tally (inr (before, earlier, leads)) (inr drew) =
    none_draws past before earlier (within_more 3 (calls_of past) drew)

-- so each unit heard the next one
pub heard_amid : (newest : Exchange) (past : List Exchange) (last state : Units) (states : List Units) (tally : Tally)
    → WasHeard (newest ∷ past) last (state ∷ states) → IsCensus past tally → IsWhole state newest last
heard_amid newest past last state states tally heard census =
    all_heard state newest last heard (none_draws past tally census)

pub so_far : (first : Units) (told : List Exchange) (last : Units) (states : List Units) (tally : Tally)
    → AreSound last → Came first told last states → IsCensus told tally → IsSoFar last tally
so_far first [] last states tally sound came census = absurd census
so_far first (newest ∷ past) last [] tally sound came census = absurd came.chain
so_far first (newest ∷ past) last (state ∷ states) tally sound came (inl opened) =
    subst (λ (it : Tally). IsSoFar last it) (sym opened.is)
    (unasked [] last _ (amid_first last _ (ready first (newest ∷ past) last (state ∷ states) opened.sent came)))
so_far first (newest ∷ past) last (state ∷ states) tally sound came (inr (before, earlier, leads)) =
    let whole : IsWhole state newest last = heard_amid newest past last state states before came.heard.0 earlier in
    let keeps : Keeps newest.call state last
    = leads_keep state newest.call newest.answer last before tally whole leads in
    let was : AreSound state = sound_before newest.call state last keeps sound in
    so_after state newest.call newest.answer last before tally was
    (so_far first past state states before was (came_before first newest past last state states came) earlier)
    whole leads
