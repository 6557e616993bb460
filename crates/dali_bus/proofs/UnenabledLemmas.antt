-- No frame writes if no unit is write-enabled and no frame may enable one.
use Rattle.std.proofs.Common.{◌≡◌, ◌≢◌, ℕ, Bool, true, false, inl, inr, ◌⊎◌, List, [], ◌∷◌, Option, Some, None, is_some}
use Rattle.std.proofs.Common.{IsSome, refl, sym, subst, ap, zero, suc, arith, ◌∙◌, ◌≤◌}
use Rattle.std.specs.Prelude.{◌==◌, ⊤}
use Rattle.std.proofs.lemmas.Bool.{eqb-true, eqb-false}
use Rattle.std.specs.List.{AllByRecursion}
use Rattle.dali_frame.specs.declared.forward.Frame.{Frame}
use Rattle.dali_frame.specs.declared.forward.Frame.TheVariants.{Dtr0, Dtr1, Dtr2, Write, WriteSilent, Enable, AskDtr0}
use Rattle.dali_frame.specs.declared.forward.Frame.TheVariants.{AskDtr1, AskDtr2, Read, Other}
use Rattle.dali_bus.specs.World.{Gear, World, byte_in, byte_at, SameAddresses, IfThere}
use Rattle.dali_bus.proofs.OpenLemmas.{is_open}
use Rattle.dali_bus.specs.Hears.{Obeys, MayEnd, PassesBy, Stores, Ignores, AnswersRegister}
use Rattle.dali_bus.specs.Power.{relocked, PowersUp, LosesPower}
use Rattle.dali_bus.specs.Carry.{BusEvent, Carried, Powered, WorldStep, MayHear, HasLostPower}
use Rattle.dali_bus.specs.Chain.{IsChain, AtEachMoment}
use Rattle.dali_bus.specs.Unenabled.{NoneEnabled, MayEnable, EnablesNone, HoldsAsBefore, UnenabledMemoryStays}

-- the unit isn't write-enabled, and its memory is as it was
record Kept (old new : Gear) : Type 0 where
  shut : new.enabled ≡ false
  memory : new.memory ≡ old.memory

kept_same : (old new : Gear) → old.enabled ≡ false → new ≡ old → Kept old new
kept_same old new shut same = rw same record { shut = shut; memory = refl }

kept_passed : (old : Gear) (answer : Option ℕ) (new : Gear) → old.enabled ≡ false → PassesBy old answer new
    → Kept old new
kept_passed old answer new shut (dtr0, up, same, none) = rw same record { shut = shut; memory = refl }

never_stored : (byte : ℕ) (old new : Gear) → old.enabled ≡ false → Stores byte old new → ⊥
never_stored byte old new shut (enabled, exists, same) = cc

-- the frame could enable the unit at this address
abbrev MayEnableAt : ℕ → Frame → Type 0
MayEnableAt at (Enable to) = to ≡ at
MayEnableAt at (Other word) = ⊤
MayEnableAt at _ = ⊥

kept_asked : (to at register : ℕ) (old : Gear) (answer : Option ℕ) (new : Gear) → old.enabled ≡ false
    → ((to ≡ at) × AnswersRegister register old answer new) ⊎ ((to ≢ at) × Ignores old answer new) → Kept old new
kept_asked to at register old answer new shut (inl (mine, tells)) = kept_same old new shut tells.0
kept_asked to at register old answer new shut (inr (other, ignores)) = kept_same old new shut ignores.0

-- what a unit does with a frame that doesn't enable it
kept_obeying : (at : ℕ) (old : Gear) (frame : Frame) (answer : Option ℕ) (new : Gear) → old.enabled ≡ false
    → ¬ MayEnableAt at frame
    → Obeys at old frame answer new → Kept old new
kept_obeying at old (Dtr0 byte) answer new shut quiet (same, none) = rw same record { shut = shut; memory = refl }
kept_obeying at old (Dtr1 byte) answer new shut quiet (same, none) = rw same record { shut = shut; memory = refl }
kept_obeying at old (Dtr2 byte) answer new shut quiet (same, none) = rw same record { shut = shut; memory = refl }
kept_obeying at old (Write byte) answer new shut quiet (inl (stores, told)) =
    absurd (never_stored byte old new shut stores)
kept_obeying at old (Write byte) answer new shut quiet (inr (inl passes)) = kept_passed old answer new shut passes
kept_obeying at old (Write byte) answer new shut quiet (inr (inr (on, aside))) =
    kept_passed old None new shut aside.2
kept_obeying at old (WriteSilent byte) answer new shut quiet (inl stores, none) =
    absurd (never_stored byte old new shut stores)
kept_obeying at old (WriteSilent byte) answer new shut quiet (inr passes, none) = kept_passed old None new shut passes
kept_obeying at old (Enable to) answer new shut quiet (inl (mine, same, none)) = absurd (quiet mine)
kept_obeying at old (Enable to) answer new shut quiet (inr ignores) = kept_same old new shut ignores.0
kept_obeying at old (AskDtr0 to) answer new shut quiet asked = kept_asked to at old.dtr0 old answer new shut asked
kept_obeying at old (AskDtr1 to) answer new shut quiet asked = kept_asked to at old.dtr1 old answer new shut asked
kept_obeying at old (AskDtr2 to) answer new shut quiet asked = kept_asked to at old.dtr2 old answer new shut asked
kept_obeying at old (Read to) answer new shut quiet (inl (mine, inl (exists, told, same))) =
    rw same record { shut = refl; memory = refl }
kept_obeying at old (Read to) answer new shut quiet (inl (mine, inr (inl (absent, passes)))) =
    kept_passed old answer new shut passes
kept_obeying at old (Read to) answer new shut quiet (inl (mine, inr (inr aside))) =
    kept_passed old None new shut aside.2
kept_obeying at old (Read to) answer new shut quiet (inr (other, ignores)) = kept_same old new shut ignores.0
kept_obeying at old (Other word) answer new shut quiet anything = absurd (quiet tt)

-- and write enable may have ended
kept_ending : (old mid new : Gear) → Kept old mid → MayEnd mid new → Kept old new
kept_ending old mid new kept (inl same) = rw same kept
kept_ending old mid new kept (inr ended) = rw ended record { shut = refl; memory = kept.memory }

-- what a unit, or none, at an address does with a frame that doesn't enable it
record KeptAt (old new : Option Gear) : Type 0 where
  shut : is_open new ≡ false
  some : is_some new ≡ is_some old
  bytes : (bank location : ℕ) → byte_in new bank location ≡ byte_in old bank location

kept_there : (old new : Gear) → Kept old new → KeptAt (Some old) (Some new)
kept_there old new kept = record { shut = kept.shut; some = refl; bytes = λ bank location. rw kept.memory refl }

kept_at : (at : ℕ) (old : Option Gear) (frame : Frame) (new : Option Gear) → is_open old ≡ false
    → (IsSome old → ¬ MayEnableAt at frame) → MayHear at old frame new → KeptAt old new
kept_at at None frame None shut quiet hears = record { shut = refl; some = refl; bytes = λ bank location. refl }
kept_at at None frame (Some new) shut quiet hears = absurd hears
kept_at at (Some old) frame None shut quiet hears = absurd hears
kept_at at (Some old) frame (Some new) shut quiet (inl same) = kept_there old new (kept_same old new shut same)
kept_at at (Some old) frame (Some new) shut quiet (inr (answer, hears)) =
    kept_there old new
    (kept_ending old hears.obeyed new (kept_obeying at old frame answer hears.obeyed shut (quiet refl) hears.obeys)
    hears.ends)

-- a frame that enables no unit of the world enables none at an address where a unit is
none_at : (world : World) (at : ℕ) (frame : Frame) → IsSome (world at) → ¬ MayEnable world frame
    → ¬ MayEnableAt at frame
none_at world at (Enable to) some quiet =
    λ mine. quiet (let P : ℕ → Type 0 = λ address. IsSome (world address) in subst P (sym mine) some)
none_at world at (Other word) some quiet = λ any. quiet tt
none_at world at (Dtr0 byte) some quiet = λ f. f
none_at world at (Dtr1 byte) some quiet = λ f. f
none_at world at (Dtr2 byte) some quiet = λ f. f
none_at world at (Write byte) some quiet = λ f. f
none_at world at (WriteSilent byte) some quiet = λ f. f
none_at world at (AskDtr0 to) some quiet = λ f. f
none_at world at (AskDtr1 to) some quiet = λ f. f
none_at world at (AskDtr2 to) some quiet = λ f. f
none_at world at (Read to) some quiet = λ f. f

-- what a place holds after its unit lost power
pub relocked_twice : (byte : Option ℕ) → relocked (relocked byte) ≡ relocked byte
relocked_twice None = refl
relocked_twice (Some byte) = refl

-- what a unit's memory is after power-up: a lock byte, and any place
powered_lock : (old new : Gear) (bank : ℕ) → PowersUp old new
    → (new.memory bank 2 ≡ old.memory bank 2) ⊎ ((1 ≤ bank) × (new.memory bank 2 ≡ relocked (old.memory bank 2)))
powered_lock old new zero powers = inl (powers.rest 0 2 (inl refl))
powered_lock old new (suc zero) powers = inr (omega arith, powers.lock)
powered_lock old new (suc (suc more)) powers = elim (powers.other_locks (suc (suc more)) (omega arith)) [
  | inl is ↦ inr (omega arith, is)
  | inr same ↦ inl same
]

powered_place : (old new : Gear) (bank location : ℕ) → PowersUp old new
    → (new.memory bank location ≡ old.memory bank location)
    ⊎ ((1 ≤ bank) × (location ≡ 2) × (new.memory bank location ≡ relocked (old.memory bank location)))
powered_place old new bank location powers = by (location == 2) refl
  where
    by : (is : Bool) → (location == 2) ≡ is
        → (new.memory bank location ≡ old.memory bank location)
        ⊎ ((1 ≤ bank) × (location ≡ 2) × (new.memory bank location ≡ relocked (old.memory bank location)))
    by false e = inl (powers.rest bank location (inr (eqb-false location 2 e)))
    by true e =
        let here : location ≡ 2 = eqb-true location 2 e in
        elim (powered_lock old new bank powers) [
          | inl same ↦ inl (rw here same)
          | inr (above, is) ↦ inr (above, here, rw here is)
        ]

-- a unit, or none, after the unit at an address lost power
pub record PoweredAt (at address : ℕ) (old new : Option Gear) : Type 0 where
  pub shut : is_open old ≡ false → is_open new ≡ false
  pub some : is_some new ≡ is_some old
  pub bytes : (bank location : ℕ) → (byte_in new bank location ≡ byte_in old bank location)
      ⊎ ((address ≡ at) × (1 ≤ bank) × (location ≡ 2)
      × (byte_in new bank location ≡ relocked (byte_in old bank location)))

unpowered : (at address : ℕ) (old new : Option Gear) → new ≡ old → PoweredAt at address old new
unpowered at address old new same =
    rw same record { shut = λ off. off; some = refl; bytes = λ bank location. inl refl }

powered_there : (at : ℕ) (old new : Option Gear) → IfThere PowersUp old new → PoweredAt at at old new
powered_there at None None powers = unpowered at at None None refl
powered_there at (Some old) (Some new) powers =
    record {
      shut = λ off. powers.off;
      some = refl;
      bytes = λ bank location. elim (powered_place old new bank location powers) [
        | inl same ↦ inl same
        | inr (above, lock, is) ↦ inr (refl, above, lock, is)
      ];
    }
powered_there at None (Some new) powers = absurd powers
powered_there at (Some old) None powers = absurd powers

pub powered_at : (old : World) (address : ℕ) (new : World) → LosesPower old address new
    → (at : ℕ) → PoweredAt at address (old at) (new at)
powered_at old address new loses at = by (at == address) refl
  where
    by : (is : Bool) → (at == address) ≡ is → PoweredAt at address (old at) (new at)
    by false e = unpowered at address (old at) (new at) (loses.others at (eqb-false at address e))
    by true e =
        let here : at ≡ address = eqb-true at address e in
        let there : IfThere PowersUp (old at) (new at) =
        subst (λ (a : ℕ). IfThere PowersUp (old a) (new a)) (sym here) loses.there in
        subst (λ (a : ℕ). PoweredAt at a (old at) (new at)) here (powered_there at (old at) (new at) there)

-- the world at a moment: no unit is write-enabled, units are where they were first, and bytes as they may be
record StillShut (first : World) (happened : List BusEvent) (world : World) : Type 0 where
  none : NoneEnabled world
  addresses : SameAddresses first world
  bytes : HoldsAsBefore first happened world

shut_after : (first : World) (happened : List BusEvent) (old : World) (event : BusEvent) (new : World)
    → StillShut first happened old → EnablesNone first event → WorldStep old event new
    → StillShut first (event ∷ happened) new
shut_after first happened old (Carried frame answer) new shut quiet carry =
    let kept : (at : ℕ) → KeptAt (old at) (new at)
    = λ at. kept_at at (old at) frame (new at) (shut.none at)
    (λ some. none_at first at frame (let P : Bool → Type 0 = λ b. b ≡ true in subst P (shut.addresses at) some) quiet)
    (carry.units at) in
    record {
      none = λ at. (kept at).shut;
      addresses = λ at. (kept at).some ∙ shut.addresses at;
      bytes = λ at bank location. rw ((kept at).bytes bank location) (shut.bytes at bank location);
    }
shut_after first happened old (Powered address) new shut quiet loses =
    let after : (at : ℕ) → PoweredAt at address (old at) (new at) = powered_at old address new loses in
    record {
      none = λ at. (after at).shut (shut.none at);
      addresses = λ at. (after at).some ∙ shut.addresses at;
      bytes = λ at bank location.
          by at bank location ((after at).bytes bank location) (shut.bytes at bank location);
    }
  where
    by : (at bank location : ℕ)
        → (byte_at new at bank location ≡ byte_at old at bank location)
        ⊎ ((address ≡ at) × (1 ≤ bank) × (location ≡ 2)
        × (byte_at new at bank location ≡ relocked (byte_at old at bank location)))
        → (byte_at old at bank location ≡ byte_at first at bank location)
        ⊎ (HasLostPower at happened × (1 ≤ bank) × (location ≡ 2)
        × (byte_at old at bank location ≡ relocked (byte_at first at bank location)))
        → (byte_at new at bank location ≡ byte_at first at bank location)
        ⊎ (HasLostPower at (Powered address ∷ happened) × (1 ≤ bank) × (location ≡ 2)
        × (byte_at new at bank location ≡ relocked (byte_at first at bank location)))
    by at bank location (inl same) (inl before) = inl (same ∙ before)
    by at bank location (inl same) (inr (lost, above, lock, is)) = inr (inr lost, above, lock, same ∙ is)
    by at bank location (inr (here, above, lock, is)) (inl before) =
        inr (inl here, above, lock, is ∙ ap relocked before)
    by at bank location (inr (here, above, lock, is)) (inr (lost, more, again, was)) =
        inr (inl here, above, lock, is ∙ ap relocked was ∙ relocked_twice (byte_at first at bank location))

shut_along : (first : World) (past : List BusEvent) (last : World) (states : List World) → NoneEnabled first
    → AllByRecursion (EnablesNone first) past → IsChain WorldStep first past last states
    → StillShut first past last × AtEachMoment (HoldsAsBefore first) past last states
shut_along first [] last [] none quiet same =
    let here : StillShut first [] last =
    rw same record { none = none; addresses = λ at. refl; bytes = λ at bank location. inl refl } in
    (here, here.bytes)
shut_along first [] last (state ∷ states) none quiet wrong = absurd wrong
shut_along first (newest ∷ past) last [] none quiet wrong = absurd wrong
shut_along first (newest ∷ past) last (state ∷ states) none quiet steps =
    let before = shut_along first past state states none quiet.1 steps.1 in
    let here = shut_after first past state newest last before.0 quiet.0 steps.0 in
    (here, (here.bytes, before.1))

pub unenabled_stays : UnenabledMemoryStays
unenabled_stays first past last states none quiet steps = (shut_along first past last states none quiet steps).1
