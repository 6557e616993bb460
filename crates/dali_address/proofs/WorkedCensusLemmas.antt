-- Censuses that meet each premise of the law, and censuses that miss one of them and then say what isn't so.
use Rattle.std.proofs.Common.{◌≡◌, ◌≢◌, ℕ, ◌<◌, false, inl, inr, List, [], ◌∷◌, Option, Some, None}
use Rattle.std.proofs.Common.{zero, suc, refl, sym, subst, ◌∙◌, IsSome, arith, length}
use Rattle.dali_bus.specs.Chain.{IsChain, AtEachMoment}
use Rattle.dali_bus.specs.WorkedFrames.{small}
use Rattle.dali_address.specs.Units.{Three, Phase, Disabled, Enabled, Withdrawn, Member, Units, IsAt}
use Rattle.dali_address.specs.Obeys.{Does, Passes, Obeys}
use Rattle.dali_address.specs.Steps.{Exchange, MayObey, ComesBack}
use Rattle.dali_address.specs.Census.{KeepsOn, IsHeard, IsWhole, HasCounted, HasAddresses, NumbersDiffer, WasWhole}
use Rattle.dali_address.specs.Census.{highest, IsListed, IsListedOnce, AreSoMany, IsShared, IsEndOf}
use Rattle.dali_address.proofs.HeardLemmas.{heard_of, steps_of}
use Rattle.dali_address.specs.declared.call.Call.TheVariants.{Terminate, InitialiseAll, Randomise, SearchHigh}
use Rattle.dali_address.specs.declared.call.Call.TheVariants.{SearchMiddle, SearchLow, Compare, AskShort, Withdraw}
use Rattle.dali_address.specs.declared.census.CensusEnd.TheVariants.{Apart}

-- a unit at this short address, or at none
abbrev pub unit : Option ℕ → Phase → Three → Three → Member
unit short phase random search =
    record { short = short; random = random; search = search; phase = phase; gear = small false }

-- this many units, each like this one
abbrev pub crowd : ℕ → Member → Units
crowd zero member number = None
crowd (suc more) member zero = Some member
crowd (suc more) member (suc number) = crowd more member number

pub is_some : (one two : Member) → Some one ≡ Some two → one ≡ two
is_some one two e = cc

pub none_there : (member : Member) → None ≡ Some member → ⊥
none_there member e = cc

like : (many : ℕ) (member it : Member) (number : ℕ) → crowd many member number ≡ Some it → member ≡ it
like zero member it number is = absurd (none_there it is)
like (suc more) member it zero is = is_some member it is
like (suc more) member it (suc number) is = like more member it number is

-- and is there after each of them became like that one
there_still : (many : ℕ) (old it new : Member) (number : ℕ) → crowd many old number ≡ Some it
    → crowd many new number ≡ Some new
there_still zero old it new number is = absurd (none_there it is)
there_still (suc more) old it new zero is = refl
there_still (suc more) old it new (suc number) is = there_still more old it new number is

same_passes : (member : Member) → Passes member member
same_passes member = record { short = refl; random = refl; phase = inr (refl, refl); gear = inl (inl refl) }

pub same_on : (member : Member) → KeepsOn member member
same_on member = record { short = refl; random = refl; search = refl; phase = refl }

obeys : (old new : Member) (exchange : Exchange) (answer : Option ℕ) → Does old exchange.call answer new
    → Obeys old exchange.call answer new
obeys old new exchange answer does = record { obeyed = new; does = does; passes = same_passes new }

each_obeys : (many : ℕ) (old new : Member) (exchange : Exchange) (answer : Option ℕ)
    → Does old exchange.call answer new
    → (number : ℕ) → MayObey (crowd many old number) exchange.call (crowd many new number)
each_obeys zero old new exchange answer does number = tt
each_obeys (suc more) old new exchange answer does zero = inr (answer, obeys old new exchange answer does)
each_obeys (suc more) old new exchange answer does (suc number) =
    each_obeys more old new exchange answer does number

-- a frame that each of them hears, and what comes back
crowd_whole : (many : ℕ) (old new : Member) (exchange : Exchange) (answer : Option ℕ)
    → Does old exchange.call answer new → (IsSome answer → exchange.answer ≢ None)
    → ComesBack (crowd many old) exchange.call exchange.answer (crowd many new)
    → IsWhole (crowd many old) exchange (crowd many new)
crowd_whole many old new exchange answer does told back =
    record {
      step = record { each = each_obeys many old new exchange answer does; back = back };
      heard = λ number member is.
          subst (λ (it : Member). IsHeard exchange it (crowd many new number)) (like many old member number is)
          (record {
            answer = answer;
            obeyed = new;
            does = does;
            after = new;
            is = there_still many old member new number is;
            on = same_on new;
            told = told;
          });
    }

pub never : (answer : Option ℕ) → answer ≡ None → IsSome answer → ⊥
never None is some = cc
never (Some byte) is some = cc

-- a frame that nobody answers
pub silent : (many : ℕ) (old new : Member) (exchange : Exchange) → Does old exchange.call None new
    → exchange.answer ≡ None
    → IsWhole (crowd many old) exchange (crowd many new)
silent many old new exchange does none =
    crowd_whole many old new exchange None does (λ some. absurd (never None refl some))
    (subst (λ (it : Option ℕ). ComesBack (crowd many old) exchange.call it (crowd many new)) (sym none) tt)

abbrev pub drawn : Three
drawn = record { high = 0xFF; middle = 0xFF; low = 0xFE }

abbrev pub sent_terminate : Exchange
sent_terminate = record { call = Terminate; answer = None }

abbrev pub sent_initialise : Exchange
sent_initialise = record { call = InitialiseAll; answer = None }

abbrev pub sent_randomise : Exchange
sent_randomise = record { call = Randomise; answer = None }

abbrev pub sent_high : Exchange
sent_high = record { call = SearchHigh 0xFF; answer = None }

abbrev pub sent_middle : Exchange
sent_middle = record { call = SearchMiddle 0xFF; answer = None }

abbrev pub sent_low : ℕ → Exchange
sent_low byte = record { call = SearchLow byte; answer = None }

abbrev asked : Exchange
asked = record { call = AskShort; answer = Some 15 }

abbrev withdrew : Exchange
withdrew = record { call = Withdraw; answer = None }

abbrev pub checked : Exchange
checked = record { call = Compare; answer = None }

-- the opening, the newest first
abbrev pub opened : List Exchange
opened =
    sent_high ∷ (sent_low 0xFF ∷ (sent_middle ∷ (sent_high ∷ (sent_low 0xFF ∷ (sent_middle ∷ (sent_high
    ∷ (sent_randomise ∷ (sent_randomise ∷ (sent_initialise ∷ (sent_initialise ∷ (sent_terminate ∷ (sent_terminate
    ∷ []))))))))))))

-- a unit that is found, asked and withdrawn
abbrev counted_one : List Exchange
counted_one =
    checked ∷ (sent_low 0xFF ∷ (withdrew ∷ (asked ∷ (sent_low 0xFE ∷ opened))))

-- a unit at short address 7
abbrev pub seven : Phase → Three → Three → Member
seven phase random search = unit (Some 7) phase random search

-- the states of the opening, where INITIALISE and RANDOMISE count the second time
abbrev opening_states : ℕ → List Units
opening_states many =
    crowd many (seven Enabled drawn highest)
    ∷ (crowd many (seven Enabled drawn highest)
    ∷ (crowd many (seven Enabled drawn highest)
    ∷ (crowd many (seven Enabled drawn highest)
    ∷ (crowd many (seven Enabled drawn highest)
    ∷ (crowd many (seven Enabled drawn highest)
    ∷ (crowd many (seven Enabled drawn highest)
    ∷ (crowd many (seven Enabled highest highest)
    ∷ (crowd many (seven Enabled highest highest)
    ∷ (crowd many (seven Disabled highest highest)
    ∷ (crowd many (seven Disabled highest highest)
    ∷ (crowd many (seven Disabled highest highest)
    ∷ (crowd many (seven Disabled highest highest) ∷ []))))))))))))

enabled_on : Enabled ≢ Disabled
enabled_on = λ e. cc

withdrawn_out : Withdrawn ≡ Enabled → ⊥
withdrawn_out e = cc

put_high : (many : ℕ) → IsWhole (crowd many (seven Enabled drawn highest)) sent_high
    (crowd many (seven Enabled drawn highest))
put_high many = silent many _ _ sent_high (inl refl, refl) refl

put_middle : (many : ℕ) → IsWhole (crowd many (seven Enabled drawn highest)) sent_middle
    (crowd many (seven Enabled drawn highest))
put_middle many = silent many _ _ sent_middle (inl refl, refl) refl

put_low : (many : ℕ) → IsWhole (crowd many (seven Enabled drawn highest)) (sent_low 0xFF)
    (crowd many (seven Enabled drawn highest))
put_low many = silent many _ _ (sent_low 0xFF) (inl refl, refl) refl

ends : (many : ℕ) → IsWhole (crowd many (seven Disabled highest highest)) sent_terminate
    (crowd many (seven Disabled highest highest))
ends many = silent many _ _ sent_terminate (refl, refl) refl

opening_whole : (many : ℕ) → IsChain IsWhole (crowd many (seven Disabled highest highest)) opened
    (crowd many (seven Enabled drawn highest)) (opening_states many)
opening_whole many = (
  put_high many,
  (
    put_low many,
    (
      put_middle many,
      (
        put_high many,
        (
          put_low many,
          (
            put_middle many,
            (
              put_high many,
              (
                silent many (seven Enabled highest highest) (seven Enabled drawn highest) sent_randomise
                    (drawn, (inr (enabled_on, refl), refl)) refl,
                (
                  silent many (seven Enabled highest highest) (seven Enabled highest highest) sent_randomise
                      (drawn, (inl refl, refl)) refl,
                  (
                    silent many (seven Disabled highest highest) (seven Enabled highest highest) sent_initialise
                        (inr (tt, refl), refl) refl,
                    (
                      silent many (seven Disabled highest highest) (seven Disabled highest highest) sent_initialise
                          (inl refl, refl) refl,
                      (
                        ends many,
                        (
                          ends many,
                          refl,
                        ),
                      ),
                    ),
                  ),
                ),
              ),
            ),
          ),
        ),
      ),
    ),
  ),
)

-- and of the search and the count
abbrev counted_states : ℕ → List Units
counted_states many =
    crowd many (seven Withdrawn drawn highest)
    ∷ (crowd many (seven Withdrawn drawn drawn)
    ∷ (crowd many (seven Enabled drawn drawn)
    ∷ (crowd many (seven Enabled drawn drawn)
    ∷ (crowd many (seven Enabled drawn highest) ∷ opening_states many))))

some_byte : (byte : ℕ) → Some byte ≢ None
some_byte byte = λ e. cc

-- one of them tells its short address, and others that drew the same number tell the same
asks : (more : ℕ) → IsWhole (crowd (suc more) (seven Enabled drawn drawn)) asked
    (crowd (suc more) (seven Enabled drawn drawn))
asks more =
    let does : Does (seven Enabled drawn drawn) AskShort (Some 15) (seven Enabled drawn drawn)
    = (refl, inl ((enabled_on, refl), refl)) in
    crowd_whole (suc more) (seven Enabled drawn drawn) (seven Enabled drawn drawn) asked (Some 15) does
    (λ some. some_byte 15)
    (inr (inl (
      0,
      record {
        before = seven Enabled drawn drawn;
        after = seven Enabled drawn drawn;
        was = refl;
        is = refl;
        obeys = obeys (seven Enabled drawn drawn) (seven Enabled drawn drawn) asked (Some 15) does;
      },
    )))

counted_whole : (more : ℕ) → IsChain IsWhole (crowd (suc more) (seven Disabled highest highest)) counted_one
    (crowd (suc more) (seven Withdrawn drawn highest)) (counted_states (suc more))
counted_whole more = (
  silent (suc more) (seven Withdrawn drawn highest) (seven Withdrawn drawn highest) checked
      (refl, inr ((λ both. withdrawn_out both.0), refl)) refl,
  (
    silent (suc more) (seven Withdrawn drawn drawn) (seven Withdrawn drawn highest) (sent_low 0xFF) (inl refl, refl)
        refl,
    (
      silent (suc more) (seven Enabled drawn drawn) (seven Withdrawn drawn drawn) withdrew
          (inr ((refl, refl), refl), refl) refl,
      (
        asks more,
        (
          silent (suc more) (seven Enabled drawn highest) (seven Enabled drawn drawn) (sent_low 0xFE) (inl refl, refl)
              refl,
          opening_whole (suc more),
        ),
      ),
    ),
  ),
)

no_low : (byte : ℕ) → SearchLow byte ≢ InitialiseAll
no_low byte = λ e. cc

no_middle : (byte : ℕ) → SearchMiddle byte ≢ InitialiseAll
no_middle byte = λ e. cc

no_high : (byte : ℕ) → SearchHigh byte ≢ InitialiseAll
no_high byte = λ e. cc

no_randomise : Randomise ≢ InitialiseAll
no_randomise = λ e. cc

no_terminate : Terminate ≢ InitialiseAll
no_terminate = λ e. cc

no_compare : Compare ≢ InitialiseAll
no_compare = λ e. cc

no_withdraw : Withdraw ≢ InitialiseAll
no_withdraw = λ e. cc

no_ask : AskShort ≢ InitialiseAll
no_ask = λ e. cc

active : (many : ℕ) (number : ℕ) (member : Member)
    → crowd many (seven Enabled highest highest) number ≡ Some member → member.phase ≢ Disabled
active many number member is =
    subst (λ (it : Member). it.phase ≢ Disabled) (like many (seven Enabled highest highest) member number is) enabled_on

opening_counts : (many : ℕ) → AtEachMoment HasCounted opened (crowd many (seven Enabled drawn highest))
    (opening_states many)
opening_counts many = (
  λ a b. absurd (no_high 0xFF a),
  (
    λ a b. absurd (no_low 0xFF a),
    (
      λ a b. absurd (no_middle 0xFF a),
      (
        λ a b. absurd (no_high 0xFF a),
        (
          λ a b. absurd (no_low 0xFF a),
          (
            λ a b. absurd (no_middle 0xFF a),
            (
              λ a b. absurd (no_high 0xFF a),
              (
                λ a b. absurd (no_randomise a),
                (
                  λ a b. absurd (no_randomise a),
                  (
                    λ a b. active many,
                    (λ a b. absurd (no_terminate b), (λ a b. absurd (no_terminate a), (tt, tt))),
                  ),
                ),
              ),
            ),
          ),
        ),
      ),
    ),
  ),
)

counted_counts : (many : ℕ) → AtEachMoment HasCounted counted_one (crowd many (seven Withdrawn drawn highest))
    (counted_states many)
counted_counts many = (
  λ a b. absurd (no_compare a),
  (
    λ a b. absurd (no_low 0xFF a),
    (
      λ a b. absurd (no_withdraw a),
      (
        λ a b. absurd (no_ask a),
        (
          λ a b. absurd (no_low 0xFE a),
          opening_counts many,
        ),
      ),
    ),
  ),
)

under_64 : (short : ℕ) → Some 7 ≡ Some short → short < 64
under_64 short same =
    let is : 7 ≡ short = seven_is short same in omega arith
  where
    seven_is : (other : ℕ) → Some 7 ≡ Some other → 7 ≡ other
    seven_is other e = cc

has : HasAddresses (seven Withdrawn drawn highest)
has = record { high = omega arith; middle = omega arith; low = omega arith; short = under_64 }

one_differs : (member : Member) → NumbersDiffer (crowd 1 member)
one_differs member zero zero it other is_one is_two same = refl
one_differs member zero (suc two) it other is_one is_two same = absurd (none_there other is_two)
one_differs member (suc one) two it other is_one is_two same = absurd (none_there it is_one)

-- a census of one unit meets each premise
pub one_is_counted : WasWhole (crowd 1 (seven Disabled highest highest)) counted_one
    (crowd 1 (seven Withdrawn drawn highest)) (counted_states 1)
one_is_counted =
    record {
      chain = steps_of (crowd 1 (seven Disabled highest highest)) counted_one (crowd 1 (seven Withdrawn drawn highest))
          (counted_states 1) (counted_whole 0);
      heard = heard_of (crowd 1 (seven Disabled highest highest)) counted_one (crowd 1 (seven Withdrawn drawn highest))
          (counted_states 1) (counted_whole 0);
      counted = counted_counts 1;
      addresses = λ number member is.
          subst (λ (it : Member). HasAddresses it) (like 1 (seven Withdrawn drawn highest) member number is) has;
      numbers = one_differs (seven Withdrawn drawn highest);
    }

-- and it ends as Apart(1)
pub one_is_apart : IsEndOf (Apart 1) (crowd 1 (seven Withdrawn drawn highest))
one_is_apart = (
  (
    λ number member is.
        subst (λ (it : Member). IsSome it.short) (like 1 (seven Withdrawn drawn highest) member number is) refl,
    λ short one two at_one at_two. alone one two at_one.member at_two.member at_one.there at_two.there,
  ),
  record {
    numbers = 0 ∷ [];
    long = refl;
    once = ((λ listed. listed), tt);
    each = λ number. (there number, back number);
  },
)
  where
    alone : (one two : ℕ) (member other : Member) → crowd 1 (seven Withdrawn drawn highest) one ≡ Some member
        → crowd 1 (seven Withdrawn drawn highest) two ≡ Some other → one ≡ two
    alone zero zero member other a b = refl
    alone zero (suc two) member other a b = absurd (none_there other b)
    alone (suc one) two member other a b = absurd (none_there member a)

    there : (number : ℕ) → IsSome (crowd 1 (seven Withdrawn drawn highest) number) → IsListed number (0 ∷ [])
    there zero some = inl refl
    there (suc number) some = absurd (never None refl some)

    back : (number : ℕ) → IsListed number (0 ∷ []) → IsSome (crowd 1 (seven Withdrawn drawn highest) number)
    back number (inl same) =
        subst (λ (it : ℕ). IsSome (crowd 1 (seven Withdrawn drawn highest) it)) (sym same) refl
    back number (inr listed) = absurd listed

-- not as Apart(2)
pub one_is_not_two : AreSoMany 2 (crowd 1 (seven Withdrawn drawn highest)) → ⊥
one_is_not_two are = by are.numbers are.long are.once (λ number. (are.each number).1)
  where
    first : (number : ℕ) → IsSome (crowd 1 (seven Withdrawn drawn highest) number) → number ≡ 0
    first zero some = refl
    first (suc number) some = absurd (never None refl some)

    by : (numbers : List ℕ) → length numbers ≡ 2 → IsListedOnce numbers
        → ((number : ℕ) → IsListed number numbers → IsSome (crowd 1 (seven Withdrawn drawn highest) number)) → ⊥
    by [] long once each = omega arith
    by (one ∷ []) long once each = omega arith
    by (one ∷ (two ∷ more)) long once each =
        let a : one ≡ 0 = first one (each one (inl refl)) in
        let b : two ≡ 0 = first two (each two (inr (inl refl))) in
        once.0 (inl (a ∙ sym b))

-- Two that drew one number and share an address are counted as one: so no two may have drawn one.
pub twins_are_counted : IsChain IsWhole (crowd 2 (seven Disabled highest highest)) counted_one
    (crowd 2 (seven Withdrawn drawn highest)) (counted_states 2)
twins_are_counted = counted_whole 1

pub twins_came_in : AtEachMoment HasCounted counted_one (crowd 2 (seven Withdrawn drawn highest)) (counted_states 2)
twins_came_in = counted_counts 2

zero_one : (number : ℕ) → number ≡ suc number → ⊥
zero_one number e = omega arith

pub twins_drew_alike : NumbersDiffer (crowd 2 (seven Withdrawn drawn highest)) → ⊥
twins_drew_alike differ =
    zero_one 0 (differ 0 1 (seven Withdrawn drawn highest) (seven Withdrawn drawn highest) refl refl refl)

twin_at : (member : Member) (number : ℕ) → member.short ≡ Some 7 → crowd 2 member number ≡ Some member
    → IsAt (crowd 2 member) 7 number
twin_at member number has there = record { member = member; there = there; has = has }

pub twins_are_not_apart : (many : ℕ) → IsEndOf (Apart many) (crowd 2 (seven Withdrawn drawn highest)) → ⊥
twins_are_not_apart many is =
    zero_one 0 (is.0.1 7 0 1 (twin_at (seven Withdrawn drawn highest) 0 refl refl)
    (twin_at (seven Withdrawn drawn highest) 1 refl refl))

pub twins_share : IsShared (crowd 2 (seven Withdrawn drawn highest)) 7
twins_share =
    record {
      one = 0;
      two = 1;
      others = zero_one 0;
      at_one = twin_at (seven Withdrawn drawn highest) 0 refl refl;
      at_two = twin_at (seven Withdrawn drawn highest) 1 refl refl;
    }

-- one alone shares with nobody
pub one_shares_none : IsShared (crowd 1 (seven Withdrawn drawn highest)) 7 → ⊥
one_shares_none shared =
    shared.others
    (alone shared.one shared.two shared.at_one.member shared.at_two.member shared.at_one.there shared.at_two.there)
  where
    alone : (one two : ℕ) (member other : Member) → crowd 1 (seven Withdrawn drawn highest) one ≡ Some member
        → crowd 1 (seven Withdrawn drawn highest) two ≡ Some other → one ≡ two
    alone zero zero member other a b = refl
    alone zero (suc two) member other a b = absurd (none_there other b)
    alone (suc one) two member other a b = absurd (none_there member a)
