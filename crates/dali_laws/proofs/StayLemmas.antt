-- Each stay is right by itself, and when it comes to rest the units are ready for the next one.
use Rattle.std.proofs.Common.{◌≡◌, ◌⊎◌, inl, inr, refl, sym, ap, subst, ◌∙◌, ℕ, Bool, true, false, true≢false}
use Rattle.std.proofs.Common.{◌||◌, ◌==◌, List, [], ◌∷◌, ◌++◌, map, append-nil, Some, None, if◌then◌else◌}
use Rattle.std.proofs.lemmas.Bool.{eqb-true, eqb-false}
use Rattle.dali_bus.specs.World.{World, is_enabled}
use Rattle.dali_bus.specs.Chain.{IsChain, AtEachMoment}
use Rattle.dali_bus.proofs.OpenLemmas.{is_open}
use Rattle.dali_bus.proofs.ChainLemmas.{shown_moments}
use Rattle.dali_bus.proofs.ByteLemmas.{same_byte}
use Rattle.dali_journal.specs.declared.standing.Standing.{Standing}
use Rattle.dali_journal.specs.declared.standing.Standing.TheVariants as standings
use Rattle.dali_journal.specs.Sentence.{standing_of, named_unit, is_begun, IsSentence}
use Rattle.dali_journal.specs.declared.record.Record.{Record}
use Rattle.dali_journal.specs.Orders.{orders_of}
use Rattle.dali_trace.specs.declared.happening.Happening.{Happening}
use Rattle.dali_trace.specs.declared.happening.Happening.TheVariants.{Sent, Kept, Powered}
use Rattle.dali_trace.specs.Cut.{is_stop}
use Rattle.dali_trace.specs.Possible.{IsPossible}
use Rattle.dali_trace.specs.Trace.{Start, records_of, standing_at, sent_of, is_at_work, is_unsaid}
use Rattle.dali_trace.specs.Legal.{Legal}
use Rattle.dali_trace.specs.ByPlan.{ByPlan}
use Rattle.dali_trace.specs.Moves.{Moves}
use Rattle.dali_trace.specs.Fits.{Fits, OnlyNamed}
use Rattle.dali_trace.specs.Moments.{OnlyNamedAt, IsRight}
use Rattle.dali_laws.specs.Powered.{unpowered}
use Rattle.dali_laws.specs.Stays.{Stay, among, MovesAmid, WorkStays, IsAlong, IsRightThrough, bare, IsAtRest, Begins}
use Rattle.dali_laws.specs.Stays.{IsStay, IsReady, IsReadyAtRest}
use Rattle.dali_laws.proofs.AmongLemmas.{OthersOff, WorkStaysAt, stays_apart, chain_among}
use Rattle.dali_laws.proofs.BareLemmas.{AreAlike, alike_safe, bare_sentence, bare_alike, bare_possible}
use Rattle.dali_laws.proofs.SafeLemmas.{IsSafe, AllSafe, legal_safe, all_own, standing_joined}
use Rattle.dali_laws.proofs.PartLemmas.{part_safe}
use Rattle.dali_laws.proofs.PoweredLemmas.{same_records, same_frames}
use Rattle.dali_laws.proofs.MomentLemmas.{safe_right, part_of}

-- Losses of power, wherever they are, take no safety away

powered_next : (start : Start) (past : List Happening) (next : Happening) → IsSafe start (unpowered past) next
    → IsSafe start past next
powered_next start past next safe = by next safe where
  records : records_of start past ≡ records_of start (unpowered past)
  records = same_records start past

  sent : sent_of past ≡ sent_of (unpowered past)
  sent = same_frames is_stop (λ address. refl) past

  by : (next : Happening) → IsSafe start (unpowered past) next → IsSafe start past next
  by (Sent frame answer) safe = rw (records, sent) safe
  by (Kept entry) safe = rw (records, sent) safe
  by other safe = tt

powered_safe : (start : Start) (past : List Happening) → AllSafe start (unpowered past) → AllSafe start past
powered_safe start [] safe = safe
powered_safe start (Powered address ∷ past) safe = (powered_safe start past safe, tt)
powered_safe start (next ∷ past) safe = (powered_safe start past safe.0, powered_next start past next safe.1)

-- A part of a trace

older_legal : (start : Start) (later past : List Happening) → Legal start (later ++ past) → Legal start past
older_legal start [] past legal = legal
older_legal start (next ∷ later) past legal = older_legal start later past legal.0

older_planned : (start : Start) (later past : List Happening) → ByPlan start (later ++ past) → ByPlan start past
older_planned start [] past planned = planned
older_planned start (next ∷ later) past planned = older_planned start later past planned.0

-- A stay is described by the newest records, or at rest by those without bytes, and what is safe after the former is so
-- after the latter

-- the start by the newest records themselves
abbrev by_newest : (stay : Stay) (newest : List Record) → Start
by_newest stay newest = record { records = newest; limit = stay.start.limit; pace = stay.start.pace }

safe_sentence : (start : Start) (past : List Happening) → AllSafe start past → IsSentence start.records
safe_sentence start [] safe = safe
safe_sentence start (next ∷ past) safe = safe_sentence start past safe.0

-- nothing is at work by the newest records if nothing is by all
rests_newest : (start : Start) (before : List Happening) (newest older : List Record)
    → records_of start before ≡ newest ++ older → standing_of older ≡ standings.Idle → IsAtRest start before
    → is_at_work (standing_of newest) ≡ false
rests_newest start before newest older are idle rests =
    ap is_at_work (sym (ap standing_of are ∙ standing_joined newest older idle)) ∙ by rests where
      free : (works unsaid : Bool) → (works || unsaid) ≡ false → works ≡ false
      free false unsaid e = refl
      free true unsaid e = e

      by : IsAtRest start before → is_at_work (standing_at start before) ≡ false
      by (inl at) = ap is_at_work at
      by (inr quiet) = free (is_at_work (standing_at start before)) (is_unsaid before) quiet

told_safe : (start : Start) (before past : List Happening) (stay : Stay) (begins : Begins start before stay)
    → AllSafe (by_newest stay begins.newest) past → AllSafe stay.start past
told_safe start before past stay begins safe = by begins.told where
  newest : List Record
  newest = begins.newest

  sentence : IsSentence newest
  sentence = safe_sentence (by_newest stay newest) past safe

  by : ((stay.start.records ≡ newest) × ((before ≡ []) ⊎ IsAtRest start before))
      ⊎ ((stay.start.records ≡ bare newest) × IsAtRest start before)
      → AllSafe stay.start past
  by (inl (same, rests)) =
      alike_safe (by_newest stay newest) stay.start past
      (record { stand = ap standing_of same; numbers = λ id. ap (is_begun id) same })
      (subst IsSentence (sym same) sentence) safe
  by (inr (same, rests)) =
      alike_safe (by_newest stay newest) stay.start past
      (subst (AreAlike newest) (sym same)
      (bare_alike newest (rests_newest start before newest begins.older begins.are begins.idle rests)))
      (subst IsSentence (sym same) (bare_sentence newest sentence)) safe

pub stay_safe : (start : Start) (happened : List Happening) (stay : Stay) → Legal start happened → ByPlan start happened
    → IsStay start happened stay → AllSafe stay.start stay.past
stay_safe start happened stay legal planned is =
    powered_safe stay.start stay.past (told_safe start is.before part stay is.begins (by is.begins.told))
  where
    part : List Happening
    part = unpowered stay.past

    own : Start
    own = by_newest stay is.begins.newest

    all_legal : Legal start (part ++ is.before)
    all_legal = older_legal start is.later (part ++ is.before) (subst (Legal start) is.is_part legal)

    all_planned : ByPlan start (part ++ is.before)
    all_planned = older_planned start is.later (part ++ is.before) (subst (ByPlan start) is.is_part planned)

    at_rest : IsAtRest start is.before → AllSafe own part
    at_rest rests =
        part_safe start own is.before is.begins.older is.begins.are is.begins.idle rests part all_legal all_planned

    from_the_first : is.before ≡ [] → AllSafe own part
    from_the_first none =
        let alone : Legal start part =
        subst (Legal start) (ap (λ (t : List Happening). part ++ t) none ∙ append-nil part) all_legal in
        let newest = ap (records_of start) (sym none) ∙ is.begins.are in
        all_own start own part is.begins.older newest is.begins.idle (legal_safe start part alone)

    by : ((stay.start.records ≡ is.begins.newest) × ((is.before ≡ []) ⊎ IsAtRest start is.before))
        ⊎ ((stay.start.records ≡ bare is.begins.newest) × IsAtRest start is.before)
        → AllSafe own part
    by (inl (same, inl none)) = from_the_first none
    by (inl (same, inr rests)) = at_rest rests
    by (inr (same, rests)) = at_rest rests

-- Along its worlds

at_the_first : (holds : List Happening → Type 0) (past : List Happening) (last : World) (states : List World)
    → AtEachMoment (λ moment now. holds moment) past last states → holds []
at_the_first holds [] last [] each = each
at_the_first holds [] last (state ∷ states) each = absurd each
at_the_first holds (next ∷ past) last [] each = absurd each
at_the_first holds (next ∷ past) last (state ∷ states) each = at_the_first holds past state states each.1

both_moments : (P Q : List Happening → World → Type 0) (past : List Happening) (last : World) (states : List World)
    → AtEachMoment P past last states → AtEachMoment Q past last states
    → AtEachMoment (λ moment now. P moment now × Q moment now) past last states
both_moments P Q [] last [] one other = (one, other)
both_moments P Q [] last (state ∷ states) one other = absurd one
both_moments P Q (next ∷ past) last [] one other = absurd one
both_moments P Q (next ∷ past) last (state ∷ states) one other =
    ((one.0, other.0), both_moments P Q past state states one.1 other.1)

-- an enabled unit of the whole bus stays, and is one of those that stay
only_of_all : (staying : ℕ → Bool) (records : List Record) (now : World) → OthersOff staying now
    → OnlyNamed records (among staying now) → OnlyNamed records now
only_of_all staying records now off only address on = by (staying address) refl where
  by : (here : Bool) → staying address ≡ here → named_unit (standing_of records) ≡ Some address
  by true e = only address (ap (λ (here : Bool). is_open (if here then now address else None)) e ∙ on)
  by false e = absurd (true≢false (sym on ∙ off address e))

along_right : (stay : Stay) → AllSafe stay.start stay.past → IsAlong stay → IsRightThrough stay
along_right stay safe along =
    part_of (λ moment now. OthersOff stay.staying now × Right moment (among stay.staying now))
    (λ moment now. OnlyNamedAt stay.zero stay.lost stay.start moment now × Right moment (among stay.staying now))
    (λ moment now both. (
      only_of_all stay.staying (records_of stay.start moment) now both.0 both.1.1,
      both.1,
    )) stay.past stay.last stay.states
    (both_moments (λ moment now. OthersOff stay.staying now) (λ moment now. Right moment (among stay.staying now))
    stay.past stay.last stay.states amid.1
    (shown_moments (among stay.staying) Right stay.past stay.last stay.states right))
  where
    Right : List Happening → World → Type 0
    Right = IsRight stay.zero stay.lost stay.start

    works : WorkStaysAt stay.staying (standing_of stay.start.records)
    works =
        at_the_first (λ moment. WorkStaysAt stay.staying (standing_at stay.start moment)) stay.past stay.last
        stay.states along.work

    off : OthersOff stay.staying stay.first
    off address gone = by (is_enabled stay.first address) refl where
      by : (on : Bool) → is_enabled stay.first address ≡ on → is_enabled stay.first address ≡ false
      by false e = e
      by true e =
          absurd (stays_apart stay.staying (standing_of stay.start.records) address works (along.only address e) gone)

    only : OnlyNamed stay.start.records (among stay.staying stay.first)
    only address = by (stay.staying address) where
      by : (here : Bool) → is_open (if here then stay.first address else None) ≡ true
          → named_unit (standing_of stay.start.records) ≡ Some address
      by true on = along.only address on
      by false on = absurd (true≢false (sym on))

    amid : IsChain Moves (among stay.staying stay.first) stay.past (among stay.staying stay.last)
        (map (among stay.staying) stay.states)
        × AtEachMoment (λ moment now. OthersOff stay.staying now) stay.past stay.last stay.states
    amid =
        chain_among stay.staying stay.start stay.first stay.past stay.last stay.states safe off along.work along.chain

    right : AtEachMoment Right stay.past (among stay.staying stay.last) (map (among stay.staying) stay.states)
    right =
        safe_right stay.zero stay.lost stay.start (among stay.staying stay.first) stay.past
        (among stay.staying stay.last) (map (among stay.staying) stay.states) safe
        (record { fits = along.fits; only = only; chain = amid.0 })

pub stay_right : (start : Start) (happened : List Happening) (stay : Stay) → Legal start happened
    → ByPlan start happened → IsStay start happened stay → IsRightThrough stay
stay_right start happened stay legal planned is =
    along_right stay (stay_safe start happened stay legal planned is) is.along

-- a legal trace, whether planned or not, from its start on
pub trace_right : (start : Start) (stay : Stay) → Legal start stay.past → Begins start [] stay → IsAlong stay
    → IsRightThrough stay
trace_right start stay legal begins along =
    along_right stay (told_safe start [] stay.past stay begins
    (all_own start (by_newest stay begins.newest) stay.past begins.older begins.are begins.idle
    (legal_safe start stay.past legal))) along

-- Rest

is_ready : (records : List Record) (now : World) (stands : Standing) → standing_of records ≡ stands
    → OnlyNamed records now → is_at_work stands ≡ false → IsReady stands now
is_ready records now stands at only rests = by stands at rests where
  off : (address : ℕ) → (named_unit (standing_of records) ≡ Some address → ⊥) → is_enabled now address ≡ false
  off address never = by (is_enabled now address) refl where
    by : (on : Bool) → is_enabled now address ≡ on → is_enabled now address ≡ false
    by false e = e
    by true e = absurd (never (only address e))

  by : (stands : Standing) → standing_of records ≡ stands → is_at_work stands ≡ false → IsReady stands now
  by standings.Idle at rests = λ address.
      off address (λ named. let none : None ≡ Some address = ap named_unit (sym at) ∙ named in cc)
  by (standings.Left unit) at rests = λ address other.
      off address (λ named. let one : Some unit ≡ Some address = ap named_unit (sym at) ∙ named in
      let same : unit ≡ address = cc in other (sym same))
  by (standings.Began order) at rests = absurd (true≢false rests)
  by (standings.Opened order) at rests = absurd (true≢false rests)

pub ready_at_rest : (stay : Stay) → IsRightThrough stay → IsReadyAtRest stay
ready_at_rest stay right =
    part_of (λ moment now. OnlyNamedAt stay.zero stay.lost stay.start moment now
    × IsRight stay.zero stay.lost stay.start moment (among stay.staying now))
    (λ moment now. is_at_work (standing_at stay.start moment) ≡ false → IsReady (standing_at stay.start moment) now)
    (λ moment now is rests. is_ready (records_of stay.start moment) now (standing_at stay.start moment) refl is.0 rests)
    stay.past stay.last stay.states right

-- so a stay may begin with such units: the world that it starts from is what the units that stay hold
rests_when_ready : (stands : Standing) (now : World) → IsReady stands now → is_at_work stands ≡ false
rests_when_ready standings.Idle now ready = refl
rests_when_ready (standings.Left unit) now ready = refl
rests_when_ready (standings.Began order) now ready = absurd ready
rests_when_ready (standings.Opened order) now ready = absurd ready

only_when_ready : (records : List Record) (now : World) (stands : Standing) → standing_of records ≡ stands
    → IsReady stands now → OnlyNamed records now
only_when_ready records now standings.Idle at ready address on = absurd (true≢false (sym on ∙ ready address))
only_when_ready records now (standings.Left unit) at ready address on = by (unit == address) refl where
  by : (same : Bool) → (unit == address) ≡ same → named_unit (standing_of records) ≡ Some address
  by true e = ap named_unit at ∙ ap Some (eqb-true unit address e)
  by false e = absurd (true≢false (sym on ∙ ready address (λ same. eqb-false unit address e (sym same))))
only_when_ready records now (standings.Began order) at ready address on = absurd ready
only_when_ready records now (standings.Opened order) at ready address on = absurd ready

pub ready_begins : (stay : Stay) (records : List Record) → stay.zero ≡ among stay.staying stay.first
    → stay.start.records ≡ bare records → IsReady (standing_of records) stay.first → WorkStays stay
    → IsChain (MovesAmid stay.staying) stay.first stay.past stay.last stay.states → IsAlong stay
ready_begins stay records holds told ready work chain = record {
  fits = subst (λ (zero : World). Fits zero stay.start.records stay.lost stays) (sym holds)
      (subst (λ (own : List Record). Fits stays own stay.lost stays) (sym told) fits);
  only = only_when_ready stay.start.records stay.first (standing_of records)
      (ap standing_of told
      ∙ (bare_alike records (rests_when_ready (standing_of records) stay.first ready)).stand) ready;
  work = work;
  chain = chain;
} where
  stays : World
  stays = among stay.staying stay.first

  fits : Fits stays (bare records) stay.lost stays
  fits = record {
    places = λ address bank location. refl;
    bytes = λ address bank location held byte lock was is.
        subst (IsPossible held address bank location (orders_of (bare records)))
        (same_byte held byte (sym was ∙ is)) (bare_possible records held address bank location);
    locks = λ address bank above closed. inl refl;
    indicators = λ address closed. refl;
  }
