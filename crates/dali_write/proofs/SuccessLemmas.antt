-- Along the simulated bus a session that loses little goes its way.
use Rattle.std.proofs.Common.{get_or, ◌≡◌, ◌≢◌, inl, inr, refl, sym, ap, subst, ◌∙◌, ℕ, zero, suc, ◌+◌, ◌≤◌, ◌<◌, Bool}
use Rattle.std.proofs.Common.{true, false, nat_lt, if◌then◌else◌, List, [], ◌∷◌, ◌++◌, length, Option, Some, None}
use Rattle.std.proofs.Common.{IsTrue, arith}
use Rattle.std.specs.Prelude.{slice_get, slice_index, min}
use Rattle.std.proofs.lemmas.Bool.{eq-eqb, ne_eqb, lt-ltb, ltb-false}
use Rattle.std.proofs.Math.Nat.{min-le_left}
use Rattle.std.proofs.lemmas.Option.{slice_get-get_or}
use Rattle.dali_bus.specs.World.{Gear}
use Rattle.dali_gear.specs.UnitState.{BankState, UnitState, is_writable, gear_of}
use Rattle.dali_gear.specs.SimState.{SimState, AreApart, AreBanks, world_of}
use Rattle.dali_gear.specs.Faults.{IsBank}
use Rattle.dali_write.specs.Exchanges.{Exchange}
use Rattle.dali_write.specs.declared.access.Access.{Access}
use Rattle.dali_write.specs.declared.access.Access.TheVariants.{ReadFrom, WriteTo, WriteOn}
use Rattle.dali_write.specs.declared.ask.Verdict.{Verdict}
use Rattle.dali_write.specs.declared.ask.Verdict.TheVariants.{MayOpen, Short, Format, Silent, Closed, NotClosed}
use Rattle.dali_write.specs.declared.ask.Verdict.TheVariants.{Read}
use Rattle.dali_write.specs.declared.ask.Ask.TheVariants.{Ended}
use Rattle.dali_write.specs.Plans.{Plan, Finish, Make, read_block, greatest, judge_length, read_at, read_length, read_format}
use Rattle.dali_write.specs.Plans.{read_format_low, close, read_on, read_all}
use Rattle.dali_write.specs.declared.block.Block.{Block}
use Rattle.dali_write.specs.Requests.{moved_on, block_requests}
use Rattle.dali_write.specs.Tries.{most_tries, Succeeds, bytes_of, AccessEnds, Wants}
use Rattle.dali_write.specs.Walks.{Walk, access_misses, misses_of}
use Rattle.dali_write.specs.Losses.{IsAlone, HasFrom, StandsBehind, CanDo, OnlyDiffers}
use Rattle.dali_write.specs.Misses.{misses_in}
use Rattle.dali_write.specs.Successes.{has_format, found_verdict}
use Rattle.dali_bus.specs.Power.{MayRelock}
use Rattle.dali_write.proofs.RunLemmas.{sim_run}
use Rattle.dali_write.proofs.BlockBytesLemmas.{block_count}
use Rattle.dali_write.proofs.BlockLemmas.{block_true}
use Rattle.dali_write.proofs.DriftLemmas.{drifts_alone, whole_before}
use Rattle.dali_write.proofs.KeptLemmas.{parts}
use Rattle.dali_write.proofs.OutliveLemmas.{misses_by_losses, access_succeeds}
use Rattle.dali_write.proofs.StoredLemmas.{read_keeps}
use Rattle.dali_write.proofs.WalkLemmas.{ended_walk}
use Rattle.dali_write.proofs.NextLemmas.{none_ended}
use Rattle.dali_write.proofs.MissLemmas.{walk_misses, walk_misses_in}
use Rattle.dali_write.proofs.RunLemmas.{Leads, losses_along, UnrefusedAlong, SparedAlong, MissesAlong}
use Rattle.dali_gear.specs.SimState.{SimStep}
use Rattle.dali_write.specs.declared.pace.Pace.{Pace}
use Rattle.dali_write.specs.declared.pace.Pace.TheVariants.{Checked, Short as ShortPace}
use Rattle.dali_write.specs.Plans.{judge_format, written_by, IsInTurn}
use Rattle.dali_write.proofs.TurnLemmas.{close_turn, length_turn, read_all_turn}
use Rattle.dali_write.specs.Requests.{each_try, access_requests}
use Rattle.dali_write.proofs.StoredLemmas.{write_done}
use Rattle.dali_write.specs.Plans.{either_way}
use Rattle.dali_write.specs.Requests.{block}

-- the bytes are those that the bank has from the block's location on
abbrev pub HasBytes : BankState → Block → List ℕ → Type 0
HasBytes bank block bytes =
    (length bytes ≡ block.count) × ((index byte : ℕ) → slice_get bytes index ≡ Some byte
    → slice_get bank.bytes (moved_on block.location index) ≡ Some byte)

-- the bank lets the access succeed, at a unit that is as a write to this location left it, or isn't known to be
abbrev pub MayDo : Access → BankState → Option ℕ → Type 0
MayDo (ReadFrom block) bank last = HasFrom bank block.location block.count
MayDo (WriteTo location byte) bank last = IsTrue (is_writable bank location)
MayDo (WriteOn before location byte) bank last = IsTrue (is_writable bank location) × (last ≡ Some before)

-- the bytes of the bank that the access told, and the bank after it
abbrev pub Did : Access → BankState → List ℕ → BankState → Type 0
Did (ReadFrom block) bank bytes new = (new ≡ bank) × HasBytes bank block bytes
Did (WriteTo location byte) bank bytes new =
    OnlyDiffers bank location new × (slice_get new.bytes location ≡ Some byte)
Did (WriteOn before location byte) bank bytes new =
    OnlyDiffers bank location new × (slice_get new.bytes location ≡ Some byte)

-- From this bank the plan reads what is there and writes where it may, and if no access of it fails it ends so, with a
-- bank that is so.
abbrev pub Goes : (BankState → Type 0) → Verdict → Plan → BankState → Option ℕ → Type 0
Goes P verdict (Finish v) bank last = (v ≡ verdict) × P bank
Goes P verdict (Make access after) bank last =
    MayDo access bank last
    × ((new : BankState) (bytes : List ℕ) → Did access bank bytes new
    → Goes P verdict (after (Some bytes)) new (written_by access))

-- the unit that is alone at its address is the one that the world has there
pub world_alone : (at : ℕ) (unit : UnitState) (units : List UnitState) → IsAlone at unit units
    → world_of units at ≡ Some (gear_of unit)
world_alone at unit [] alone = absurd alone
world_alone at unit (first ∷ units) (inl here) = grind (arith, eq-eqb)
world_alone at unit (first ∷ units) (inr further) =
    rw (ne_eqb at first.address (λ same. further.0.0 (sym same))) (world_alone at unit units further.1)

-- a byte of a unit that doesn't lose its power
pub unlost : (lost : Type 0) (location : ℕ) (old new : Option ℕ) → (lost → ⊥) → MayRelock lost 1 location old new
    → new ≡ old
unlost lost location old new keeps_power (inl same) = same
unlost lost location old new keeps_power (inr relocks) = absurd (keeps_power relocks.0)

-- a read tells the bytes of the bank
pub read_bytes : (loses : ℕ → Type 0) (at : ℕ) (block : Block) (bytes : List ℕ) (unit : UnitState)
    (told : List Exchange) (first last : SimState)
    → Leads SimStep loses told first last → (loses at → ⊥) → IsAlone at unit first.units
    → Succeeds (each_try (block_requests at block)) (Some bytes) told
    → (now : UnitState) × IsAlone at now last.units × (now.bank1 ≡ unit.bank1) × HasBytes unit.bank1 block bytes
read_bytes loses at block bytes unit told first last run keeps_power alone done =
    let two = parts loses at told done.0 done.1 first last run done.3 in
    let kept = read_keeps loses at block unit (Some bytes) told first last run keeps_power alone (inl done) in
    let same : bytes ≡ bytes_of done.0 = let is = done.5 in cc in
    let count = block_count at block (bytes_of done.0) done.0 (done.4, refl) in (
      kept.0,
      kept.1,
      kept.2,
      (
        rw same count,
        λ index byte is.
            let shows =
            block_true done.0 (world_of two.mid.units) (world_of last.units) at block (bytes_of done.0)
            (sim_run loses done.0 two.mid last two.after) (done.4, refl) index byte (rw same at is) in
            let both : Some shows.gear ≡ Some (gear_of kept.0) =
            sym shows.is ∙ world_alone at kept.0 last.units kept.1 in
            let gear : shows.gear ≡ gear_of kept.0 = cc in
            let place = moved_on block.location index in
            let there : slice_get kept.0.bank1.bytes place ≡ Some byte =
            ap (λ (g : Gear). g.memory 1 place) (sym gear)
            ∙ unlost (loses at) place (Some byte) _ keeps_power shows.byte_is in
            ap (λ (b : BankState). slice_get b.bytes place) (sym kept.2) ∙ there,
      ),
    )

-- the misses of one access
access_few : (loses : ℕ → Type 0) (at : ℕ) (access : Access) (after : Option (List ℕ) → Plan) (unit : UnitState)
    (outcome : Option (List ℕ)) (told : List Exchange) (first last : SimState)
    (run : Leads SimStep loses told first last)
    → (loses at → ⊥) → IsAlone at unit first.units → CanDo access unit → UnrefusedAlong loses told first last run
    → (ends : AccessEnds at (Make access after) outcome told)
    → access_misses at (Make access after) outcome told ends ≤ losses_along at loses told first last run
access_few loses at access after unit outcome told first last run keeps_power alone can kind (inl done) =
    let two = parts loses at told done.0 done.1 first last run done.3 in
    let few =
    misses_by_losses loses at access unit done.2 done.1 first two.mid two.before keeps_power alone can
    (two.kinds kind).0
    done.7 in
    let sum = two.sum in
    omega arith
access_few loses at access after unit outcome told first last run keeps_power alone can kind (inr failed) =
    misses_by_losses loses at access unit most_tries told first last run keeps_power alone can kind failed.1

pub block_few : (loses : ℕ → Type 0) (at : ℕ) (block : Block) (unit : UnitState) (outcome : Option (List ℕ))
    (told : List Exchange) (first last : SimState) (run : Leads SimStep loses told first last)
    → (loses at → ⊥) → IsAlone at unit first.units → HasFrom unit.bank1 block.location block.count
    → UnrefusedAlong loses told first last run → (ends : AccessEnds at (read_block block) outcome told)
    → access_misses at (read_block block) outcome told ends ≤ losses_along at loses told first last run
block_few loses at block unit outcome told first last run keeps_power alone can kind ends =
    search (arith, access_few loses)

-- the end of a walk: its verdict, its misses, and the unit then
pub record Gone (P : BankState → Type 0) (verdict end : Verdict) (at : ℕ) (misses lost : ℕ) (last : SimState)
    : Type 0 where
  pub ends : end ≡ verdict
  pub few : misses ≤ lost
  pub now : UnitState
  pub alone : IsAlone at now last.units
  pub bank : P now.bank1

-- if the last access wrote this location, the unit is as that left it
abbrev StandsSo : Option ℕ → UnitState → Type 0
StandsSo last unit = (before : ℕ) → last ≡ Some before → StandsBehind before unit

can_do : (access : Access) (unit : UnitState) (last : Option ℕ) → MayDo access unit.bank1 last
    → StandsSo last unit → CanDo access unit
can_do (ReadFrom block) unit last may stands = may
can_do (WriteTo location byte) unit last may stands = may
can_do (WriteOn before location byte) unit last may stands = (may.0, stands before may.1)

-- after a write to a location
stands_so : (location : ℕ) (unit : UnitState) → StandsBehind location unit → StandsSo (Some location) unit
stands_so location unit stands before is =
    let same : location ≡ before = cc in subst (λ (l : ℕ). StandsBehind l unit) same stands

-- an access that succeeded
did : (loses : ℕ → Type 0) (at : ℕ) (access : Access) (bytes : List ℕ) (unit : UnitState) (told : List Exchange)
    (first last : SimState)
    → Leads SimStep loses told first last → (loses at → ⊥) → IsAlone at unit first.units
    → Succeeds (access_requests at access) (Some bytes) told
    → (now : UnitState) × IsAlone at now last.units × Did access unit.bank1 bytes now.bank1
    × StandsSo (written_by access) now
did loses at (ReadFrom block) bytes unit told first last run keeps_power alone done =
    let read = read_bytes loses at block bytes unit told first last run keeps_power alone done in
    (read.0, read.1, (read.2, read.3), λ before is. cc)
did loses at (WriteTo location byte) bytes unit told first last run keeps_power alone done =
    let all =
    write_done loses Checked at location location byte unit (Some bytes) told first last run keeps_power alone done in
    (all.0, all.1, (all.2, all.3.0), stands_so location all.0 all.3.1)
did loses at (WriteOn before location byte) bytes unit told first last run keeps_power alone done =
    let all =
    write_done loses ShortPace at before location byte unit (Some bytes) told first last run keeps_power alone done in
    (all.0, all.1, (all.2, all.3.0), stands_so location all.0 all.3.1)

-- a walk of the plan ends as it goes, and misses no more often than the unit loses
goes : (loses : ℕ → Type 0) (P : BankState → Type 0) (verdict end : Verdict) (at : ℕ) (plan : Plan)
    (outcomes : List (Option (List ℕ))) (unit : UnitState) (of : Option ℕ) (told : List Exchange)
    (first last : SimState)
    (run : Leads SimStep loses told first last)
    → (loses at → ⊥) → IsAlone at unit first.units → StandsSo of unit
    → Goes P verdict plan unit.bank1 of
    → UnrefusedAlong loses told first last run → losses_along at loses told first last run < most_tries
    → (walk : Walk at plan outcomes told (Finish end))
    → Gone P verdict end at (misses_of at plan outcomes told (Finish end) walk)
    (losses_along at loses told first last run)
    last
goes loses P verdict end at (Finish v) [] unit of told first last run keeps_power alone enabled way kind few walk =
    let same = walk.1 in
    let is : v ≡ end = cc in
    let none : Leads SimStep loses [] first last =
    subst (λ (t : List Exchange). Leads SimStep loses t first last) walk.0 run in
    record {
      ends = sym is ∙ way.0;
      few = omega arith;
      now = unit;
      alone = drifts_alone loses at unit first last keeps_power none alone;
      bank = way.1;
    }
goes loses P verdict end at (Finish v) (o ∷ outcomes) unit of told first last run keeps_power alone enabled way kind
    few walk = absurd walk.3
goes loses P verdict end at (Make access after) [] unit of told first last run keeps_power alone enabled way kind few
    walk = let differs = walk.1 in cc
goes loses P verdict end at (Make access after) (None ∷ outcomes) unit of told first last run keeps_power alone enabled
    way kind few walk =
    let two = parts loses at told walk.0 walk.1 first last run walk.2 in
    let sum = two.sum in
    let done =
    access_succeeds loses at access unit None walk.1 first two.mid two.before keeps_power alone
    (can_do access unit of way.0 enabled) (two.kinds kind).0 (omega arith) walk.3 in
    let never = done.5 in cc
goes loses P verdict end at (Make access after) (Some bytes ∷ outcomes) unit of told first last run keeps_power alone
    enabled way kind few walk =
    let two = parts loses at told walk.0 walk.1 first last run walk.2 in
    let sum = two.sum in
    let kinds = two.kinds kind in
    let can = can_do access unit of way.0 enabled in
    let done =
    access_succeeds loses at access unit (Some bytes) walk.1 first two.mid two.before keeps_power alone can kinds.0
    (omega arith) walk.3 in
    let here = did loses at access bytes unit walk.1 first two.mid two.before keeps_power alone done in
    let rest =
    goes loses P verdict end at (after (Some bytes)) outcomes here.0 (written_by access) walk.0 two.mid last two.after
    keeps_power here.1 here.3 (way.1 here.0.bank1 bytes here.2) kinds.1 (omega arith) walk.4 in
    let fewer =
    access_few loses at access after unit (Some bytes) walk.1 first two.mid two.before keeps_power alone can kinds.0
    walk.3 in
    let more = rest.few in
    record { ends = rest.ends; few = omega arith; now = rest.now; alone = rest.alone; bank = rest.bank }

-- the same of a session, with frames before it
pub gone : (loses : ℕ → Type 0) (P : BankState → Type 0) (verdict end : Verdict) (at : ℕ) (plan : Plan)
    (unit : UnitState) (told older : List Exchange) (first last : SimState)
    (spared : SparedAlong loses at unit told first last)
    → Goes P verdict plan unit.bank1 None → IsInTurn None plan → Wants at plan told (Ended end)
    → (misses : ℕ) × (misses_in (told ++ older) ≡ misses + misses_in older)
    × Gone P verdict end at misses (losses_along at loses told first last spared.run) last
gone loses P verdict end at plan unit told older first last spared way turn wants =
    let walk = ended_walk at plan told end wants in (
      misses_of at plan walk.0 told (Finish end) walk.1,
      walk_misses at plan walk.0 told (Finish end) older walk.1 turn,
      goes loses P verdict end at plan walk.0 unit None told first last spared.run spared.keeps_power spared.alone
          (λ before is. cc) way spared.kind spared.few walk.1,
    )

pub succeeds : (loses : ℕ → Type 0) (P : BankState → Type 0) (verdict end : Verdict) (at : ℕ) (plan : Plan)
    (unit : UnitState) (told : List Exchange) (first last : SimState)
    (spared : SparedAlong loses at unit told first last)
    → Goes P verdict plan unit.bank1 None → IsInTurn None plan → Wants at plan told (Ended end)
    → (end ≡ verdict) × MissesAlong loses at unit told first last spared
succeeds loses P verdict end at plan unit told first last spared way turn wants =
    let walk = ended_walk at plan told end wants in
    let all =
    goes loses P verdict end at plan walk.0 unit None told first last spared.run spared.keeps_power spared.alone
    (λ before is. cc) way spared.kind spared.few walk.1 in
    let count = walk_misses_in at plan walk.0 told (Finish end) walk.1 turn in
    let few = all.few in
    (all.ends, omega arith)

-- a session that has ended sent a frame, and so its unit had a bank
pub alone_bank : (at : ℕ) (unit : UnitState) (units : List UnitState) → IsAlone at unit units → AreBanks units
    → IsBank unit.bank1.bytes
alone_bank at unit [] alone are = absurd alone
alone_bank at unit (first ∷ units) (inl here) are = subst (λ (u : UnitState). IsBank u.bank1.bytes) here.0 are.0
alone_bank at unit (first ∷ units) (inr further) are = alone_bank at unit units further.1 are.1

-- if a frame was sent the units were apart, each with a bank
pub starts_whole : (loses : ℕ → Type 0) (sent : List Exchange) (first last : SimState)
    → Leads SimStep loses sent first last
    → sent ≢ [] → AreApart first.units × AreBanks first.units
starts_whole loses [] first last run some = absurd (some refl)
starts_whole loses (x ∷ []) first last run some = grind (arith, whole_before)
starts_whole loses (x ∷ y ∷ sent) first last run some = starts_whole loses (y ∷ sent) first run.0 run.2 (λ e. cc)

pub spared_bank : (loses : ℕ → Type 0) (at : ℕ) (unit : UnitState) (access : Access) (after : Option (List ℕ) → Plan)
    (verdict : Verdict) (told : List Exchange) (first last : SimState)
    → SparedAlong loses at unit told first last
    → Wants at (Make access after) told (Ended verdict) → IsBank unit.bank1.bytes
spared_bank loses at unit access after verdict told first last spared wants =
    alone_bank at unit first.units spared.alone
    (starts_whole loses told first last spared.run
    (λ none. none_ended at access after verdict
    (subst (λ (t : List Exchange). Wants at (Make access after) t (Ended verdict)) none wants))).1

-- a closing session

pub lock_writable : (bank : BankState) → 2 < length bank.bytes → is_writable bank 2 ≡ true
lock_writable bank long = rw (lt-ltb 2 (length bank.bytes) long) refl

-- a read of what the bank has
pub read_goes : (P : BankState → Type 0) (verdict : Verdict) (block : Block) (failed : Plan) (found : List ℕ → Plan)
    (bank : BankState) (last : Option ℕ)
    → HasFrom bank block.location block.count
    → ((bytes : List ℕ) → HasBytes bank block bytes → Goes P verdict (found bytes) bank None)
    → Goes P verdict (Make (ReadFrom block) (either_way failed found)) bank last
read_goes P verdict block failed found bank last has rest = (
  has,
  λ new bytes read. subst (λ (b : BankState). Goes P verdict (found bytes) b None) (sym read.0) (rest bytes read.1),
)

-- a checked read of a location that it has
pub at_goes : (P : BankState → Type 0) (verdict : Verdict) (location byte : ℕ) (failed : Plan) (found : ℕ → Plan)
    (bank : BankState) (last : Option ℕ)
    → slice_get bank.bytes location ≡ Some byte → Goes P verdict (found byte) bank None
    → Goes P verdict (read_at location failed found) bank last
at_goes P verdict location byte failed found bank last is rest =
    read_goes P verdict (block location 1) failed (λ read. found (get_or read 0 0)) bank last (here location byte is)
    (λ read has. subst (λ (b : ℕ). Goes P verdict (found b) bank None) (same read has) rest)
  where
    here : (location byte : ℕ) → slice_get bank.bytes location ≡ Some byte → HasFrom bank location 1
    here location byte is zero below = rw is refl
    here location byte is (suc index) below = absurd (omega arith)

    same : (read : List ℕ) → HasBytes bank (block location 1) read → byte ≡ get_or read 0 0
    same [] has = let none = has.0 in cc
    same (first ∷ read) has = let both : Some byte ≡ Some first = sym is ∙ has.1 0 first refl in cc

pub closing_goes : (bank : BankState) → 2 < length bank.bytes
    → Goes (OnlyDiffers bank 2) Closed (close Closed NotClosed) bank None
closing_goes bank long = (
  lock_writable bank long,
  λ new echo written.
      at_goes (OnlyDiffers bank 2) Closed 2 0xFF (Finish NotClosed) (λ byte. Finish Closed) new (Some 2) written.1
      (refl, written.0),
)

pub closing_succeeds : (loses : ℕ → Type 0) (at : ℕ) (unit : UnitState) (verdict : Verdict) (told : List Exchange)
    (first last : SimState) (spared : SparedAlong loses at unit told first last)
    → Wants at (close Closed NotClosed) told (Ended verdict)
    → (verdict ≡ Closed) × MissesAlong loses at unit told first last spared
closing_succeeds loses at unit verdict told first last spared wants =
    let least = (spared_bank loses at unit _ _ verdict told first last spared wants).least in
    succeeds loses (OnlyDiffers unit.bank1 2) Closed verdict at (close Closed NotClosed) unit told first last spared
    (closing_goes unit.bank1 (omega arith)) (close_turn None Closed NotClosed) wants

-- a fresh session

pub byte_there : (bytes : List ℕ) (location : ℕ) → location < length bytes
    → slice_get bytes location ≡ Some (slice_index bytes location)
byte_there bytes location long = slice_get-get_or bytes location 0 long

-- the short plan's read of the content format
format_goes : (pace : Pace) (bank : BankState) → 0x12 < length bank.bytes
    → Goes (λ now. now ≡ bank) (if has_format bank.bytes then MayOpen else Format) (read_format pace) bank None
format_goes Checked bank long =
    at_goes (λ now. now ≡ bank) _ 0x11 (slice_index bank.bytes 0x11) (Finish Silent) read_format_low bank None
    (byte_there bank.bytes 0x11 (omega arith))
    (at_goes (λ now. now ≡ bank) _ 0x12 (slice_index bank.bytes 0x12) (Finish Silent)
    (judge_format (slice_index bank.bytes 0x11)) bank None
    (byte_there bank.bytes 0x12 long) (refl, refl))
format_goes ShortPace bank long =
    read_goes (λ now. now ≡ bank) (if has_format bank.bytes then MayOpen else Format) (block 0x11 2) (Finish Silent)
    (λ read. judge_format (get_or read 0 0) (get_or read 1 0)) bank None there (λ read has. by read has.0 has.1)
  where
    there : HasFrom bank 0x11 2
    there zero below = rw (byte_there bank.bytes 0x11 (omega arith)) refl
    there (suc zero) below = rw (byte_there bank.bytes 0x12 long) refl
    there (suc (suc index)) below = absurd (omega arith)

    by : (read : List ℕ) → length read ≡ 2
        → ((index byte : ℕ) → slice_get read index ≡ Some byte
        → slice_get bank.bytes (moved_on 0x11 index) ≡ Some byte)
        → Goes (λ now. now ≡ bank) (if has_format bank.bytes then MayOpen else Format)
        (judge_format (get_or read 0 0) (get_or read 1 0)) bank None
    by [] two each = absurd (omega arith)
    by (one ∷ []) two each = absurd (omega arith)
    by (one ∷ other ∷ more) two each =
        let first : Some (slice_index bank.bytes 0x11) ≡ Some one =
        sym (byte_there bank.bytes 0x11 (omega arith)) ∙ each 0 one refl in
        let second : Some (slice_index bank.bytes 0x12) ≡ Some other =
        sym (byte_there bank.bytes 0x12 long) ∙ each 1 other refl in
        let high : one ≡ slice_index bank.bytes 0x11 = cc in
        let low : other ≡ slice_index bank.bytes 0x12 = cc in
        rw (high, low) (refl, refl)

pub fresh_goes : (pace : Pace) (updates : List (ℕ × ℕ)) (bank : BankState) → IsBank bank.bytes
    → Goes (λ now. now ≡ bank) (found_verdict bank.bytes updates) (read_length pace updates) bank None
fresh_goes pace updates bank is =
    let least = is.least in
    let last = is.last in
    at_goes (λ now. now ≡ bank) _ 0 (slice_index bank.bytes 0) (Finish Silent) (judge_length pace updates) bank None
    (byte_there bank.bytes 0 (omega arith))
    (by (nat_lt (slice_index bank.bytes 0) (greatest updates)) (nat_lt (greatest updates) 0x13) refl refl)
  where
    by : (short low : Bool) → nat_lt (slice_index bank.bytes 0) (greatest updates) ≡ short
        → nat_lt (greatest updates) 0x13 ≡ low
        → Goes (λ now. now ≡ bank)
        (if short then Short else (if low then MayOpen else (if has_format bank.bytes then MayOpen else Format)))
        (if short then Finish Short else (if low then Finish MayOpen else read_format pace)) bank None
    by true low e f = (refl, refl)
    by false true e f = (refl, refl)
    by false false e f =
        let reaches = ltb-false (slice_index bank.bytes 0) (greatest updates) e in
        let high = ltb-false (greatest updates) 0x13 f in
        let least = is.least in
        let last = is.last in
        format_goes pace bank (omega arith)

pub fresh_succeeds : (loses : ℕ → Type 0) (at : ℕ) (unit : UnitState) (pace : Pace) (updates : List (ℕ × ℕ))
    (verdict : Verdict) (told : List Exchange) (first last : SimState)
    (spared : SparedAlong loses at unit told first last)
    → Wants at (read_length pace updates) told (Ended verdict)
    → (verdict ≡ found_verdict unit.bank1.bytes updates) × MissesAlong loses at unit told first last spared
fresh_succeeds loses at unit pace updates verdict told first last spared wants =
    succeeds loses (λ now. now ≡ unit.bank1) (found_verdict unit.bank1.bytes updates) verdict at
    (read_length pace updates) unit told first last spared
    (fresh_goes pace updates unit.bank1 (spared_bank loses at unit _ _ verdict told first last spared wants))
    (length_turn pace updates) wants

-- a reading session

read_on_goes : (location left : ℕ) (bank : BankState) → location + left ≤ length bank.bytes
    → Goes (λ now. now ≡ bank) Read (read_on location left) bank None
read_on_goes location zero bank few = (refl, refl)
read_on_goes location (suc left) bank few =
    at_goes (λ now. now ≡ bank) Read location (slice_index bank.bytes location) (Finish Silent)
    (λ byte. read_on (suc location) left) bank None (byte_there bank.bytes location (omega arith))
    (read_on_goes (suc location) left bank (omega arith))

read_all_goes : (bank : BankState) → IsBank bank.bytes → Goes (λ now. now ≡ bank) Read read_all bank None
read_all_goes bank is =
    let least = is.least in
    let last = is.last in
    at_goes (λ now. now ≡ bank) Read 0 (slice_index bank.bytes 0) (Finish Silent)
    (λ last. read_on 1 (min last 0xFE)) bank None (byte_there bank.bytes 0 (omega arith))
    (read_on_goes 1 (min (slice_index bank.bytes 0) 0xFE) bank
    (omega (arith, min-le_left (slice_index bank.bytes 0) 0xFE)))

pub reading_succeeds : (loses : ℕ → Type 0) (at : ℕ) (unit : UnitState) (verdict : Verdict) (told : List Exchange)
    (first last : SimState) (spared : SparedAlong loses at unit told first last)
    → Wants at read_all told (Ended verdict) → (verdict ≡ Read) × MissesAlong loses at unit told first last spared
reading_succeeds loses at unit verdict told first last spared wants =
    succeeds loses (λ now. now ≡ unit.bank1) Read verdict at read_all unit told first last spared
    (read_all_goes unit.bank1 (spared_bank loses at unit _ _ verdict told first last spared wants)) read_all_turn wants
