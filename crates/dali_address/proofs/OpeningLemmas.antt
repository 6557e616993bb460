-- After an opening at which nothing was lost each unit is in the initialisation state, with the highest search address:
-- also one that heard nothing while it drew.
use Rattle.std.proofs.Common.{◌≡◌, ◌≢◌, ℕ, inl, inr, ◌⊎◌, List, [], ◌∷◌, Option, Some, refl, sym, subst, ap, ◌∙◌}
use Rattle.std.proofs.Common.{zero, suc}
use Rattle.std.specs.Prelude.{⊤}
use Rattle.dali_bus.specs.Chain.{IsChain, AtEachMoment, AtEachState}
use Rattle.dali_address.specs.Units.{Three, Phase, Disabled, Enabled, Withdrawn, Member, Units}
use Rattle.dali_address.specs.Obeys.{Does, Seeks}
use Rattle.dali_address.specs.Steps.{Exchange, Step, calls_of}
use Rattle.dali_address.specs.Census.{IsHeard, IsUnheard, IsWhole, IsHalfHeard, IsDrawnWithin, WasHeard, HasCounted, highest}
use Rattle.dali_address.specs.Tallying.{opening}
use Rattle.dali_address.proofs.HeardLemmas.{From, from, some_is, there_before}
use Rattle.dali_address.specs.declared.call.Call.{Call}
use Rattle.dali_address.specs.declared.call.Call.TheVariants.{Terminate, InitialiseAll, Randomise, SearchHigh}
use Rattle.dali_address.specs.declared.call.Call.TheVariants.{SearchMiddle, SearchLow}

-- these frames led there, and at each of them nothing was lost
pub record Came (first : Units) (told : List Exchange) (last : Units) (states : List Units) : Type 0 where
  pub chain : IsChain Step first told last states
  pub heard : AtEachState WasHeard told last states
  pub counted : AtEachMoment HasCounted told last states

pub came_before : (first : Units) (newest : Exchange) (past : List Exchange) (last state : Units) (states : List Units)
    → Came first (newest ∷ past) last (state ∷ states) → Came first past state states
came_before first newest past last state states came =
    record { chain = came.chain.1; heard = came.heard.1; counted = came.counted.1 }

-- the newest frame, and those before it
record Peeled (call : Call) (calls : List Call) (first : Units) (told : List Exchange) (last : Units) : Type 0 where
  answer : Option ℕ
  past : List Exchange
  is : told ≡ record { call = call; answer = answer } ∷ past
  state : Units
  rest : List Units
  sent : calls_of past ≡ calls
  step : Step state (record { call = call; answer = answer }) last
  heard : IsWhole state (record { call = call; answer = answer }) last
      ⊎ (IsDrawnWithin 4 calls × IsHalfHeard state (record { call = call; answer = answer }) last)
  here : HasCounted told last
  before : Came first past state rest

peeled : (call : Call) (calls : List Call) (first : Units) (told : List Exchange) (last : Units) (states : List Units)
    → calls_of told ≡ call ∷ calls → Came first told last states → Peeled call calls first told last
peeled call calls first [] last states sent came = absurd (no sent)
  where
    no : [] ≡ call ∷ calls → ⊥
    no e = cc
peeled call calls first (newest ∷ past) last [] sent came = absurd came.chain
peeled call calls first (newest ∷ past) last (state ∷ states) sent came =
    let E : Call → Exchange = λ it. record { call = it; answer = newest.answer } in
    let same : newest.call ≡ call = head newest.call call (calls_of past) calls sent in
    let older : calls_of past ≡ calls = tail newest.call call (calls_of past) calls sent in
    record {
      answer = newest.answer;
      past = past;
      is = ap (λ (it : Call). E it ∷ past) same;
      state = state;
      rest = states;
      sent = older;
      step = subst (λ (it : Call). Step state (E it) last) same came.chain.0;
      heard = subst (λ (those : List Call). IsWhole state (E call) last
          ⊎ (IsDrawnWithin 4 those × IsHalfHeard state (E call) last)) older
          (subst (λ (it : Call). IsWhole state (E it) last
          ⊎ (IsDrawnWithin 4 (calls_of past) × IsHalfHeard state (E it) last)) same came.heard.0);
      here = came.counted.0;
      before = came_before first newest past last state states came;
    }
  where
    head : (one two : Call) (ones twos : List Call) → one ∷ ones ≡ two ∷ twos → one ≡ two
    head one two ones twos e = cc

    tail : (one two : Call) (ones twos : List Call) → one ∷ ones ≡ two ∷ twos → ones ≡ twos
    tail one two ones twos e = cc

-- a frame while nobody draws
pub all_heard : {D : Type 0} (old : Units) (exchange : Exchange) (new : Units)
    → IsWhole old exchange new ⊎ (D × IsHalfHeard old exchange new) → (D → ⊥) → IsWhole old exchange new
all_heard old exchange new (inl whole) not = whole
all_heard old exchange new (inr (drawing, half)) not = absurd (not drawing)

-- it holds of each unit
abbrev Each : (Member → Type 0) → Units → Type 0
Each P units = (number : ℕ) (member : Member) → units number ≡ Some member → P member

-- it holds of the phase and the search address
abbrev Shows : (Phase → Three → Type 0) → Member → Type 0
Shows P member = P member.phase member.search

each_after : (P Q : Phase → Three → Type 0) (old : Units) (call : Call) (answer : Option ℕ) (new : Units)
    → IsWhole old (record { call = call; answer = answer }) new
    → ((before : Member) (answer : Option ℕ) (after : Member) → Does before call answer after → Shows P before
    → Shows Q after)
    → Each (Shows P) old → Each (Shows Q) new
each_after P Q old call answer new whole does each number after is =
    let it : From (record { call = call; answer = answer }) (old number) after
    = from old (record { call = call; answer = answer }) new whole number after is in
    let now : Q it.obeyed.phase it.obeyed.search
    = does it.member it.answer it.obeyed it.does (each number it.member it.was) in
    subst (λ (phase : Phase). Q phase after.search) (sym it.on.phase)
    (subst (λ (search : Three). Q it.obeyed.phase search) (sym it.on.search) now)

-- it stays so, also of a unit that didn't hear the frame
each_on : (P : Phase → Three → Type 0) (old : Units) (call : Call) (answer : Option ℕ) (new : Units) (calls : List Call)
    → Step old (record { call = call; answer = answer }) new
    → IsWhole old (record { call = call; answer = answer }) new
    ⊎ (IsDrawnWithin 4 calls × IsHalfHeard old (record { call = call; answer = answer }) new)
    → ((before : Member) (answer : Option ℕ) (after : Member) → Does before call answer after → Shows P before
    → Shows P after)
    → Each (Shows P) old → Each (Shows P) new
each_on P old call answer new calls step (inl whole) does each number after is =
    each_after P P old call answer new whole does each number after is
each_on P old call answer new calls step (inr (drawing, half)) does each number after is =
    let (member, was) = there_before (old number) call (new number) after (step.each number) is in
    by member (each number member was) (half number member was)
  where
    shown : (it at : Member) → Shows P it → at.phase ≡ it.phase → at.search ≡ it.search → Shows P at
    shown it at now phase search =
        subst (λ (p : Phase). P p at.search) (sym phase) (subst (λ (s : Three). P it.phase s) (sym search) now)

    by : (member : Member) → Shows P member
        → IsHeard (record { call = call; answer = answer }) member (new number) ⊎ IsUnheard member (new number)
        → Shows P after
    by member before (inl heard) =
        let same : heard.after ≡ after = some_is heard.after after (sym heard.is ∙ is) in
        subst (λ (it : Member). Shows P it) same
        (shown heard.obeyed heard.after (does member heard.answer heard.obeyed heard.does before) heard.on.phase
        heard.on.search)
    by member before (inr unheard) =
        let same : unheard.after ≡ after = some_is unheard.after after (sym unheard.is ∙ is) in
        subst (λ (it : Member). Shows P it) same
        (shown member unheard.after before unheard.on.phase unheard.on.search)

abbrev Any : Phase → Three → Type 0
Any phase search = Unit {0}

abbrev Off : Phase → Three → Type 0
Off phase search = phase ≡ Disabled

abbrev NotOut : Phase → Three → Type 0
NotOut phase search = phase ≢ Withdrawn

abbrev On : Phase → Three → Type 0
On phase search = phase ≡ Enabled

abbrev OnMiddle : Phase → Three → Type 0
OnMiddle phase search = (phase ≡ Enabled) × (search.middle ≡ 0xFF)

abbrev OnLow : Phase → Three → Type 0
OnLow phase search = (phase ≡ Enabled) × (search.middle ≡ 0xFF) × (search.low ≡ 0xFF)

abbrev OnAll : Phase → Three → Type 0
OnAll phase search = (phase ≡ Enabled) × (search ≡ highest)

terminated : (before : Member) (answer : Option ℕ) (after : Member) → Does before Terminate answer after
    → Shows Any before → Shows Off after
terminated before answer after does any = ap (λ (m : Member). m.phase) does.0

out_of : (phase other : Phase) → phase ≡ other → other ≢ Withdrawn → phase ≢ Withdrawn
out_of phase other same never = λ out. never (sym same ∙ out)

off_in : Disabled ≢ Withdrawn
off_in = λ e. cc

on_in : Enabled ≢ Withdrawn
on_in = λ e. cc

initialised : (before : Member) (answer : Option ℕ) (after : Member) → Does before InitialiseAll answer after
    → Shows NotOut before → Shows NotOut after
initialised before answer after (inl same, none) never =
    out_of after.phase before.phase (ap (λ (m : Member). m.phase) same) never
initialised before answer after (inr (applies, same), none) never =
    out_of after.phase Enabled (ap (λ (m : Member). m.phase) same) on_in

left_on : (phase : Phase) → phase ≢ Withdrawn → phase ≢ Disabled → phase ≡ Enabled
left_on Disabled out off = absurd (off refl)
left_on Enabled out off = refl
left_on Withdrawn out off = absurd (out refl)

randomised : (before : Member) (answer : Option ℕ) (after : Member) → Does before Randomise answer after
    → Shows On before → Shows On after
randomised before answer after (random, (inl same, none)) on = ap (λ (m : Member). m.phase) same ∙ on
randomised before answer after (random, (inr (applies, same), none)) on = ap (λ (m : Member). m.phase) same ∙ on

not_both : (phase : Phase) → phase ≡ Enabled → phase ≡ Disabled → ⊥
not_both phase on off = cc

-- a unit in the initialisation state takes the byte of the search address
seeks_on : (search : Three) (before : Member) (answer : Option ℕ) (after : Member) → Seeks search before answer after
    → before.phase ≡ Enabled → (after.phase ≡ Enabled) × (after.search ≡ search)
seeks_on search before answer after (inl same, none) on =
    (ap (λ (m : Member). m.phase) same ∙ on, ap (λ (m : Member). m.search) same)
seeks_on search before answer after (inr (off, same), none) on = absurd (not_both before.phase on off)

sought_on : (put : Member → Three) (before : Member) (answer : Option ℕ) (after : Member)
    → Seeks (put before) before answer after → Shows On before → Shows On after
sought_on put before answer after seeks on = (seeks_on (put before) before answer after seeks on).0

put_middle : (before : Member) (answer : Option ℕ) (after : Member) → Does before (SearchMiddle 0xFF) answer after
    → Shows On before → Shows OnMiddle after
put_middle before answer after does on =
    let now = seeks_on (record before.search { middle = 0xFF }) before answer after does on in
    (now.0, ap (λ (t : Three). t.middle) now.1)

put_low : (before : Member) (answer : Option ℕ) (after : Member) → Does before (SearchLow 0xFF) answer after
    → Shows OnMiddle before → Shows OnLow after
put_low before answer after does (on, middle) =
    let now = seeks_on (record before.search { low = 0xFF }) before answer after does on in
    (now.0, ap (λ (t : Three). t.middle) now.1 ∙ middle, ap (λ (t : Three). t.low) now.1)

put_high : (before : Member) (answer : Option ℕ) (after : Member) → Does before (SearchHigh 0xFF) answer after
    → Shows OnLow before → Shows OnAll after
put_high before answer after does (on, middle, low) =
    let now = seeks_on (record before.search { high = 0xFF }) before answer after does on in
    let T : ℕ → ℕ → Three = λ m l. record { high = 0xFF; middle = m; low = l } in (
      now.0,
      now.1 ∙ ap (λ (m : ℕ). T m before.search.low) middle ∙ ap (λ (l : ℕ). T 0xFF l) low,
    )

abbrev ended : List Call
ended = Terminate ∷ (Terminate ∷ [])

abbrev called : List Call
called = InitialiseAll ∷ (InitialiseAll ∷ ended)

abbrev asked_to_draw : List Call
asked_to_draw = Randomise ∷ (Randomise ∷ called)

-- while units may draw
abbrev sought_once : List Call
sought_once = SearchHigh 0xFF ∷ (SearchLow 0xFF ∷ (SearchMiddle 0xFF ∷ (SearchHigh 0xFF ∷ asked_to_draw)))

-- the newest of these are other frames than RANDOMISE
abbrev pub AreOthers : ℕ → List Call → Type 0
AreOthers zero calls = ⊤
AreOthers (suc more) [] = ⊤
AreOthers (suc more) (newest ∷ older) = (newest ≢ Randomise) × AreOthers more older

pub none_drew : (many : ℕ) (calls : List Call) → AreOthers many calls → IsDrawnWithin many calls → ⊥
none_drew zero calls others drew = drew
none_drew (suc more) [] others drew = drew
none_drew (suc more) (newest ∷ older) others (inl same) = others.0 same
none_drew (suc more) (newest ∷ older) others (inr drew) = none_drew more older others.1 drew

pub within_more : (many : ℕ) (calls : List Call) → IsDrawnWithin many calls → IsDrawnWithin (suc many) calls
within_more zero calls drew = absurd drew
within_more (suc more) [] drew = drew
within_more (suc more) (newest ∷ older) (inl same) = inl same
within_more (suc more) (newest ∷ older) (inr drew) = inr (within_more more older drew)

terminate_other : Terminate ≢ Randomise
terminate_other = λ e. cc

initialise_other : InitialiseAll ≢ Randomise
initialise_other = λ e. cc

high_other : SearchHigh 0xFF ≢ Randomise
high_other = λ e. cc

middle_other : SearchMiddle 0xFF ≢ Randomise
middle_other = λ e. cc

low_other : SearchLow 0xFF ≢ Randomise
low_other = λ e. cc

-- after TERMINATE and INITIALISE, each twice
called_in : (first : Units) (told : List Exchange) (last : Units) (states : List Units) → calls_of told ≡ called
    → Came first told last states → Each (Shows On) last
called_in first told last states sent came =
    let p : Peeled InitialiseAll (InitialiseAll ∷ ended) first told last
    = peeled InitialiseAll _ first told last states sent came in
    let q : Peeled InitialiseAll ended first p.past p.state
    = peeled InitialiseAll _ first p.past p.state p.rest p.sent p.before in
    let r : Peeled Terminate (Terminate ∷ []) first q.past q.state
    = peeled Terminate _ first q.past q.state q.rest q.sent q.before in
    let off : Each (Shows Off) q.state
    = each_after Any Off r.state Terminate r.answer q.state
    (all_heard _ _ _ r.heard (none_drew 4 (Terminate ∷ []) (terminate_other, tt))) terminated
    (λ number member is. tt) in
    let once : Each (Shows NotOut) p.state
    = each_after NotOut NotOut q.state InitialiseAll q.answer p.state
    (all_heard _ _ _ q.heard (none_drew 4 ended (terminate_other, (terminate_other, tt)))) initialised
    (λ number member is. out_of member.phase Disabled (off number member is) off_in) in
    let twice : Each (Shows NotOut) last
    = each_after NotOut NotOut p.state InitialiseAll p.answer last
    (all_heard _ _ _ p.heard
    (none_drew 4 (InitialiseAll ∷ ended) (initialise_other, (terminate_other, (terminate_other, tt)))))
    initialised once in
    let here : HasCounted (record { call = InitialiseAll; answer = p.answer }
    ∷ (record { call = InitialiseAll; answer = q.answer } ∷ q.past)) last
    = subst (λ (it : List Exchange). HasCounted (record { call = InitialiseAll; answer = p.answer } ∷ it) last) q.is
    (subst (λ (it : List Exchange). HasCounted it last) p.is p.here) in
    λ number member is. left_on member.phase (twice number member is) (here refl refl number member is)

-- each unit is in the initialisation state, not withdrawn, with this search address
abbrev pub AreReady : Three → Units → Type 0
AreReady search units = (number : ℕ) (member : Member) → units number ≡ Some member
    → (member.phase ≡ Enabled) × (member.search ≡ search)

-- after RANDOMISE twice
drawn : (first : Units) (told : List Exchange) (last : Units) (states : List Units) → calls_of told ≡ asked_to_draw
    → Came first told last states → Each (Shows On) last
drawn first told last states sent came =
    let p : Peeled Randomise (Randomise ∷ called) first told last
    = peeled Randomise _ first told last states sent came in
    let q : Peeled Randomise called first p.past p.state
    = peeled Randomise _ first p.past p.state p.rest p.sent p.before in
    let on : Each (Shows On) q.state = called_in first q.past q.state q.rest q.sent q.before in
    let once : Each (Shows On) p.state
    = each_on On q.state Randomise q.answer p.state called q.step q.heard randomised on in
    each_on On p.state Randomise p.answer last (Randomise ∷ called) p.step p.heard randomised once

-- after four frames more, which those that draw need not hear
listening : (first : Units) (told : List Exchange) (last : Units) (states : List Units) → calls_of told ≡ sought_once
    → Came first told last states → Each (Shows On) last
listening first told last states sent came =
    let p : Peeled (SearchHigh 0xFF) _ first told last = peeled (SearchHigh 0xFF) _ first told last states sent came in
    let q : Peeled (SearchLow 0xFF) _ first p.past p.state
    = peeled (SearchLow 0xFF) _ first p.past p.state p.rest p.sent p.before in
    let r : Peeled (SearchMiddle 0xFF) _ first q.past q.state
    = peeled (SearchMiddle 0xFF) _ first q.past q.state q.rest q.sent q.before in
    let s : Peeled (SearchHigh 0xFF) asked_to_draw first r.past r.state
    = peeled (SearchHigh 0xFF) _ first r.past r.state r.rest r.sent r.before in
    let on : Each (Shows On) s.state = drawn first s.past s.state s.rest s.sent s.before in
    let high : Each (Shows On) r.state
    = each_on On s.state (SearchHigh 0xFF) s.answer r.state asked_to_draw s.step s.heard
    (sought_on (λ it. record it.search { high = 0xFF })) on in
    let middle : Each (Shows On) q.state
    = each_on On r.state (SearchMiddle 0xFF) r.answer q.state (SearchHigh 0xFF ∷ asked_to_draw) r.step r.heard
    (sought_on (λ it. record it.search { middle = 0xFF })) high in
    let low : Each (Shows On) p.state
    = each_on On q.state (SearchLow 0xFF) q.answer p.state (SearchMiddle 0xFF ∷ (SearchHigh 0xFF ∷ asked_to_draw))
    q.step q.heard
    (sought_on (λ it. record it.search { low = 0xFF })) middle in
    each_on On p.state (SearchHigh 0xFF) p.answer last
    (SearchLow 0xFF ∷ (SearchMiddle 0xFF ∷ (SearchHigh 0xFF ∷ asked_to_draw))) p.step p.heard
    (sought_on (λ it. record it.search { high = 0xFF })) low

-- with the three frames after those each of them has the highest search address
pub ready : (first : Units) (told : List Exchange) (last : Units) (states : List Units) → calls_of told ≡ opening
    → Came first told last states → AreReady highest last
ready first told last states sent came =
    let p : Peeled (SearchHigh 0xFF) _ first told last = peeled (SearchHigh 0xFF) _ first told last states sent came in
    let q : Peeled (SearchLow 0xFF) _ first p.past p.state
    = peeled (SearchLow 0xFF) _ first p.past p.state p.rest p.sent p.before in
    let r : Peeled (SearchMiddle 0xFF) sought_once first q.past q.state
    = peeled (SearchMiddle 0xFF) _ first q.past q.state q.rest q.sent q.before in
    let on : Each (Shows On) r.state = listening first r.past r.state r.rest r.sent r.before in
    let middle : Each (Shows OnMiddle) q.state
    = each_after On OnMiddle r.state (SearchMiddle 0xFF) r.answer q.state
    (all_heard _ _ _ r.heard
    (none_drew 4 sought_once (high_other, (low_other, (middle_other, (high_other, tt))))))
    put_middle on in
    let low : Each (Shows OnLow) p.state
    = each_after OnMiddle OnLow q.state (SearchLow 0xFF) q.answer p.state (all_heard _ _ _ q.heard
    (none_drew 4 (SearchMiddle 0xFF ∷ sought_once) (middle_other, (high_other, (low_other, (middle_other, tt))))))
    put_low middle in
    each_after OnLow OnAll p.state (SearchHigh 0xFF) p.answer last (all_heard _ _ _ p.heard
    (none_drew 4 (SearchLow 0xFF ∷ (SearchMiddle 0xFF ∷ sought_once))
    (low_other, (middle_other, (high_other, (low_other, tt)))))) put_high low

-- and nobody draws any more
pub opening_drew : IsDrawnWithin 4 opening → ⊥
opening_drew = none_drew 4 opening (high_other, (low_other, (middle_other, (high_other, tt))))
