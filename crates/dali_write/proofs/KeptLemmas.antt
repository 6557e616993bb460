-- The state that a unit keeps along the frames of tries, whatever of them is lost or refused, and its state after a try
-- that came to its end.
use Rattle.std.proofs.Common.{◌≡◌, refl, sym, subst, ℕ, zero, suc, ◌+◌, ◌<◌, Bool, true, false, List, []}
use Rattle.std.proofs.Common.{◌∷◌, ◌++◌, append-nil, length, Option, Some, None, arith}
use Rattle.std.specs.Prelude.{◌==◌, slice_get, slice_set, if◌then◌else◌, ⊤}
use Rattle.std.proofs.lemmas.Bool.{ltb-true}
use Rattle.std.proofs.lemmas.Grind.{common_steps}
use Rattle.std.proofs.lemmas.Option.{gets}
use Rattle.dali_frame.specs.declared.forward.Frame.{Frame}
use Rattle.dali_frame.specs.declared.forward.Frame.TheVariants.{Dtr0, Dtr1, Write, Enable, AskDtr0, AskDtr1}
use Rattle.dali_gear.specs.Fate.{is_lost, next_fate}
use Rattle.dali_write.specs.Exchanges.{Exchange}
use Rattle.dali_gear.specs.UnitState.{BankState, UnitState, after_frame, after_write, answer_to, with_byte}
use Rattle.dali_gear.specs.UnitState.{stores, carries_out}
use Rattle.dali_bus.specs.Hears.{up}
use Rattle.dali_gear.specs.SimState.{SimState, SimCarry, unit_after}
use Rattle.dali_gear.proofs.BankLemmas.{IsQuiet, bank_stays}
use Rattle.dali_write.specs.declared.request.Request.{Request}
use Rattle.dali_write.specs.declared.request.Wish.TheVariants.{Nothing, Exactly}
use Rattle.dali_write.specs.declared.access.Access.{Access}
use Rattle.dali_write.specs.declared.access.Access.TheVariants.{ReadFrom, WriteTo, WriteOn}
use Rattle.dali_write.specs.Requests.{Meets, request, block_requests, access_requests}
use Rattle.dali_write.specs.Tries.{Trying, Missed, Misses, Succeeds}
use Rattle.dali_write.specs.Losses.{IsAlone, StandsBehind}
use Rattle.dali_write.proofs.OneFrameLemmas.{own_answer, alone_then}
use Rattle.dali_write.proofs.DriftLemmas.{drifts_alone}
use Rattle.dali_write.proofs.AskedLemmas.{Asks, block_asks}
use Rattle.dali_write.proofs.LossLemmas.{AllFor, all_for}
use Rattle.dali_write.proofs.RunLemmas.{Leads, Stays, losses_along, UnrefusedAlong}
use Rattle.dali_gear.specs.SimState.{SimStep}
use Rattle.dali_write.specs.Requests.{put_requests, write_requests}
use Rattle.std.proofs.lemmas.Bool.{and_parts}

-- the unit hears the frame or not
abbrev hears : Bool → Bool → UnitState → Frame → UnitState
hears lost refuses unit frame = if lost then unit else after_frame refuses unit frame

-- and this is what it answers
abbrev says : Bool → Bool → UnitState → Frame → Option ℕ
says lost refuses unit frame = if lost then None else answer_to refuses unit frame

-- Whatever is lost or refused of the requests, it holds of the bank, and it goes on so while answers that come back are
-- as wished; after the last request, the unit is so.
abbrev Safe : (BankState → Type 0) → (UnitState → Type 0) → List Request → UnitState → Type 0
Safe keep end [] unit = end unit
Safe keep end (next ∷ left) unit =
    (lost refuses : Bool) (answer : Option ℕ)
    → ((byte : ℕ) → answer ≡ Some byte → says lost refuses unit next.frame ≡ Some byte)
    → keep (hears lost refuses unit next.frame).bank1
    × (Meets next.wish answer → Safe keep end left (hears lost refuses unit next.frame))

keep_quiet : (keep : BankState → Type 0) (lost refuses : Bool) (unit : UnitState) (frame : Frame) → IsQuiet frame
    → keep unit.bank1 → keep (hears lost refuses unit frame).bank1
keep_quiet keep true refuses unit frame quiet kept = kept
keep_quiet keep false refuses unit frame quiet kept = subst keep (sym (bank_stays refuses unit frame quiet)) kept

-- quiet requests, and then others
quiet_first : (keep : BankState → Type 0) (end : UnitState → Type 0) (requests left : List Request) (unit : UnitState)
    → Asks IsQuiet requests → keep unit.bank1
    → ((new : UnitState) → keep new.bank1 → Safe keep end left new) → Safe keep end (requests ++ left) unit
quiet_first keep end [] left unit quiet kept rest = rest unit kept
quiet_first keep end (next ∷ requests) left unit quiet kept rest = λ lost refuses answer back.
    let still = keep_quiet keep lost refuses unit next.frame quiet.0 kept in
    (still, λ meets. quiet_first keep end requests left (hears lost refuses unit next.frame) quiet.1 still rest)

-- storing the byte of the access keeps it
abbrev pub Keeps : (BankState → Type 0) → Access → Type 0
Keeps keep (ReadFrom block) = ⊤
Keeps keep (WriteTo location byte) = (bank : BankState) → keep bank → keep (with_byte bank location byte)
Keeps keep (WriteOn before location byte) = (bank : BankState) → keep bank → keep (with_byte bank location byte)

-- the byte is in bank 1, and the unit is as the write leaves it
abbrev pub HasPut : ℕ → ℕ → UnitState → Type 0
HasPut location byte unit = (slice_get unit.bank1.bytes location ≡ Some byte) × StandsBehind location unit

-- the unit after the access: it has the byte, if the access wrote one
abbrev pub Ends : Access → UnitState → Type 0
Ends (ReadFrom block) unit = ⊤
Ends (WriteTo location byte) unit = HasPut location byte unit
Ends (WriteOn before location byte) unit = HasPut location byte unit

-- a byte that was set
get_set : (xs : List ℕ) (i x : ℕ) → i < length xs → slice_get (slice_set xs i x) i ≡ Some x
get_set xs i x below = grind (arith, common_steps, gets)

-- a write when the location is selected keeps it
keep_write : (keep : BankState → Type 0) (location byte : ℕ) (unit : UnitState) (on done first : Bool)
    → Keeps keep (WriteTo location byte)
    → unit.dtr0 ≡ location → keep unit.bank1
    → keep (if on
    then record (if done
    then (if first
    then record unit { bank1 = with_byte unit.bank1 unit.dtr0 byte }
    else record unit { bank2 = with_byte unit.bank2 unit.dtr0 byte })
    else unit) { dtr0 = up unit.dtr0 }
    else unit).bank1
keep_write keep location byte unit true true true stored here kept = rw here (stored unit.bank1 kept)
keep_write keep location byte unit true true false stored here kept = kept
keep_write keep location byte unit true false first stored here kept = kept
keep_write keep location byte unit false done first stored here kept = kept

told_if : (b : Bool) (told byte : ℕ) → (if b then Some told else None) ≡ Some byte → (b ≡ true) × (told ≡ byte)
told_if true told byte e = (refl, cc)
told_if false told byte e = cc

-- a write that was stored has its byte there
has_written : (location byte : ℕ) (refuses : Bool) (unit : UnitState) → unit.dtr1 ≡ 1 → unit.dtr0 ≡ location
    → stores refuses unit ≡ true
    → HasPut location byte (after_write refuses unit byte)
has_written location byte refuses unit bank here done =
    (grind (arith, get_set, ltb-true), (grind (arith, and_parts), grind (arith, and_parts), grind (arith, and_parts)))

-- the requests of a checked write, from the last one back
safe_write : (keep : BankState → Type 0) (location byte : ℕ) → Keeps keep (WriteTo location byte)
    → (unit : UnitState) → unit.dtr1 ≡ 1 → unit.dtr0 ≡ location → keep unit.bank1
    → Safe keep (HasPut location byte) (request (Write byte) (Exactly byte) ∷ []) unit
safe_write keep location byte stored unit bank here kept true refuses answer back = grind arith
safe_write keep location byte stored unit bank here kept false refuses answer back =
    let now : UnitState = record unit { half_pair = false } in (
      keep_write keep location byte now (carries_out now) (stores refuses now) (unit.dtr1 == 1) stored here kept,
      λ meets.
          has_written location byte refuses now bank here (told_if (stores refuses now) byte byte (back byte meets)).0,
    )

safe_ask0 : (keep : BankState → Type 0) (at location byte : ℕ) → Keeps keep (WriteTo location byte)
    → (unit : UnitState) → unit.dtr1 ≡ 1 → keep unit.bank1
    → Safe keep (HasPut location byte)
    (request (AskDtr0 at) (Exactly location) ∷ request (Write byte) (Exactly byte) ∷ []) unit
safe_ask0 keep at location byte stored unit bank kept true refuses answer back = grind arith
safe_ask0 keep at location byte stored unit bank kept false refuses answer back = (
  kept,
  λ meets. safe_write keep location byte stored (record unit { half_pair = false }) bank
      (told_if (at == unit.address) unit.dtr0 location (back location meets)).1 kept,
)

safe_dtr0 : (keep : BankState → Type 0) (at location byte : ℕ) → Keeps keep (WriteTo location byte)
    → (unit : UnitState) → unit.dtr1 ≡ 1 → keep unit.bank1
    → Safe keep (HasPut location byte)
    (request (Dtr0 location) Nothing ∷ request (AskDtr0 at) (Exactly location) ∷ request (Write byte) (Exactly byte)
    ∷ []) unit
safe_dtr0 keep at location byte stored unit bank kept true refuses answer back =
    (kept, λ meets. safe_ask0 keep at location byte stored unit bank kept)
safe_dtr0 keep at location byte stored unit bank kept false refuses answer back = (
  kept,
  λ meets. safe_ask0 keep at location byte stored (record unit { half_pair = false; dtr0 = location }) bank kept,
)

safe_ask1 : (keep : BankState → Type 0) (at location byte : ℕ) → Keeps keep (WriteTo location byte)
    → (unit : UnitState) → keep unit.bank1
    → Safe keep (HasPut location byte)
    (request (AskDtr1 at) (Exactly 1) ∷ request (Dtr0 location) Nothing ∷ request (AskDtr0 at) (Exactly location)
    ∷ request (Write byte) (Exactly byte) ∷ [])
    unit
safe_ask1 keep at location byte stored unit kept true refuses answer back = grind arith
safe_ask1 keep at location byte stored unit kept false refuses answer back = (
  kept,
  λ meets. safe_dtr0 keep at location byte stored (record unit { half_pair = false })
      (told_if (at == unit.address) unit.dtr1 1 (back 1 meets)).1 kept,
)

-- the same if DTR0 isn't set
safe_moved : (keep : BankState → Type 0) (at location byte : ℕ) → Keeps keep (WriteTo location byte)
    → (unit : UnitState) → keep unit.bank1
    → Safe keep (HasPut location byte)
    (request (AskDtr1 at) (Exactly 1) ∷ request (AskDtr0 at) (Exactly location)
    ∷ request (Write byte) (Exactly byte) ∷ [])
    unit
safe_moved keep at location byte stored unit kept true refuses answer back = grind arith
safe_moved keep at location byte stored unit kept false refuses answer back = (
  kept,
  λ meets. safe_ask0 keep at location byte stored (record unit { half_pair = false })
      (told_if (at == unit.address) unit.dtr1 1 (back 1 meets)).1 kept,
)

safe_put : (keep : BankState → Type 0) (moved : Bool) (at location byte : ℕ) (unit : UnitState)
    → Keeps keep (WriteTo location byte) → keep unit.bank1
    → Safe keep (HasPut location byte) (put_requests moved at location byte) unit
safe_put keep true at location byte unit keeps kept = safe_moved keep at location byte keeps unit kept
safe_put keep false at location byte unit keeps kept =
    quiet_first keep (HasPut location byte) (request (Dtr0 location) Nothing ∷ [])
    (put_requests true at location byte) unit
    (tt, tt) kept (λ new still. safe_moved keep at location byte keeps new still)

safe_full : (keep : BankState → Type 0) (at location byte : ℕ) (unit : UnitState)
    → Keeps keep (WriteTo location byte) → keep unit.bank1
    → Safe keep (HasPut location byte) (write_requests at location byte) unit
safe_full keep at location byte unit keeps kept =
    quiet_first keep (HasPut location byte)
    (request (Enable at) Nothing ∷ request (Enable at) Nothing ∷ request (Dtr1 1) Nothing ∷ [])
    (request (AskDtr1 at) (Exactly 1) ∷ request (Dtr0 location) Nothing ∷ request (AskDtr0 at) (Exactly location)
    ∷ request (Write byte) (Exactly byte) ∷ []) unit (tt, (tt, (tt, tt))) kept
    (λ new still. safe_ask1 keep at location byte keeps new still)

safe_access : (keep : BankState → Type 0) (at : ℕ) (access : Access) (misses : ℕ) (unit : UnitState)
    → Keeps keep access → keep unit.bank1 → Safe keep (Ends access) (access_requests at access misses) unit
safe_access keep at (ReadFrom block) misses unit keeps kept =
    grind (arith, append-nil (block_requests at block), quiet_first, block_asks IsQuiet)
safe_access keep at (WriteTo location byte) misses unit keeps kept = safe_full keep at location byte unit keeps kept
safe_access keep at (WriteOn before location byte) zero unit keeps kept =
    safe_put keep (up before == location) at location byte unit keeps kept
safe_access keep at (WriteOn before location byte) (suc misses) unit keeps kept =
    safe_full keep at location byte unit keeps kept

-- the unit after a part of a try
record After (keep : BankState → Type 0) (end : UnitState → Type 0) (at : ℕ) (left : List Request) (last : SimState)
    : Type 0 where
  now : UnitState
  alone : IsAlone at now last.units
  kept : keep now.bank1
  safe : Safe keep end left now
  for : AllFor at left

-- one more frame, with its answer
one_more : (keep : BankState → Type 0) (end : UnitState → Type 0) (at : ℕ) (next : Request) (left : List Request)
    (old : SimState) (answer : Option ℕ) (new : SimState)
    → SimCarry old next.frame answer new → After keep end at (next ∷ left) old
    → (now : UnitState) × IsAlone at now new.units × keep now.bank1 × (Meets next.wish answer → Safe keep end left now)
one_more keep end at next left old answer new carry before =
    let fate = next_fate old.fates in
    let here =
    before.safe (is_lost fate before.now.address) fate.refuse answer
    (own_answer at old before.now next.frame answer new carry before.for.0 before.alone) in (
      unit_after fate next.frame before.now,
      alone_then at old before.now next.frame answer new carry before.for.0 before.alone,
      here.0,
      here.1,
    )

after_trying : (loses : ℕ → Type 0) (keep : BankState → Type 0) (end : UnitState → Type 0) (at : ℕ)
    (requests left : List Request) (unit : UnitState) (told : List Exchange) (first last : SimState)
    → Leads SimStep loses told first last → (loses at → ⊥)
    → IsAlone at unit first.units → keep unit.bank1 → Safe keep end requests unit → AllFor at requests
    → Trying requests told left → After keep end at left last
after_trying loses keep end at requests left unit [] first last run keeps_power alone kept safe for try =
    rw try (record {
      now = unit;
      alone = drifts_alone loses at unit first last keeps_power run alone;
      kept = kept;
      safe = safe;
      for = for;
    })
after_trying loses keep end at requests left unit (x ∷ told) first last run keeps_power alone kept safe for try =
    let before =
    after_trying loses keep end at requests (request x.frame try.0 ∷ left) unit told first run.0 run.2 keeps_power alone
    kept safe for try.2 in
    let more = one_more keep end at (request x.frame try.0) left run.0 x.answer run.1 run.3 before in
    record {
      now = more.0;
      alone = drifts_alone loses at more.0 run.1 last keeps_power run.4 more.1;
      kept = more.2;
      safe = more.3 try.1;
      for = before.for.1;
    }

-- a try that missed
after_missed : (loses : ℕ → Type 0) (keep : BankState → Type 0) (at : ℕ) (access : Access) (unit : UnitState)
    (misses : ℕ) (told : List Exchange) (first last : SimState)
    → Leads SimStep loses told first last → (loses at → ⊥)
    → IsAlone at unit first.units → keep unit.bank1 → Keeps keep access
    → Missed (access_requests at access misses) told
    → (now : UnitState) × IsAlone at now last.units × keep now.bank1
after_missed loses keep at access unit misses [] first last run keeps_power alone kept keeps missed = absurd missed
after_missed loses keep at access unit misses (x ∷ told) first last run keeps_power alone kept keeps missed =
    let before =
    after_trying loses keep (Ends access) at (access_requests at access misses) (request x.frame missed.0 ∷ missed.1)
    unit told first run.0 run.2 keeps_power
    alone kept
    (safe_access keep at access misses unit keeps kept) (all_for at access misses) missed.3 in
    let more = one_more keep (Ends access) at (request x.frame missed.0) missed.1 run.0 x.answer run.1 run.3 before in
    (more.0, drifts_alone loses at more.0 run.1 last keeps_power run.4 more.1, more.2)

-- a run in two parts
pub record Parts (loses : ℕ → Type 0) (at : ℕ) (told newer older : List Exchange) (first last : SimState)
    (run : Leads SimStep loses told first last) : Type 0 where
  pub mid : SimState
  pub before : Leads SimStep loses older first mid
  pub after : Leads SimStep loses newer mid last
  pub sum : losses_along at loses told first last run
      ≡ losses_along at loses newer mid last after + losses_along at loses older first mid before
  pub kinds : UnrefusedAlong loses told first last run
      → UnrefusedAlong loses older first mid before × UnrefusedAlong loses newer mid last after

joined_parts : (loses : ℕ → Type 0) (at : ℕ) (newer older : List Exchange) (first last : SimState)
    (run : Leads SimStep loses (newer ++ older) first last)
    → Parts loses at (newer ++ older) newer older first last run
joined_parts loses at [] older first last run =
    record { mid = last; before = run; after = Stays; sum = omega arith; kinds = λ kind. (kind, tt) }
joined_parts loses at (x ∷ newer) older first last run =
    let rest = joined_parts loses at newer older first run.0 run.2 in
    let sum = rest.sum in
    record {
      mid = rest.mid;
      before = rest.before;
      after = (run.0, run.1, rest.after, run.3, run.4);
      sum = omega arith;
      kinds = λ kind. let older_newer = rest.kinds kind.1 in (older_newer.0, (kind.0, older_newer.1));
    }

pub parts : (loses : ℕ → Type 0) (at : ℕ) (told newer older : List Exchange) (first last : SimState)
    (run : Leads SimStep loses told first last)
    → told ≡ newer ++ older → Parts loses at told newer older first last run
parts loses at told newer older first last run same =
    subst (λ (t : List Exchange). (r : Leads SimStep loses t first last) → Parts loses at t newer older first last r)
    (sym same)
    (joined_parts loses at newer older first last) run

-- after misses the unit is alone still, and has kept it
pub after_misses : (loses : ℕ → Type 0) (keep : BankState → Type 0) (at : ℕ) (access : Access) (unit : UnitState)
    (misses : ℕ) (told : List Exchange) (first last : SimState)
    → Leads SimStep loses told first last → (loses at → ⊥)
    → IsAlone at unit first.units → keep unit.bank1 → Keeps keep access → Misses (access_requests at access) misses told
    → (now : UnitState) × IsAlone at now last.units × keep now.bank1
after_misses loses keep at access unit zero [] first last run keeps_power alone kept keeps are =
    (unit, drifts_alone loses at unit first last keeps_power run alone, kept)
after_misses loses keep at access unit zero (x ∷ told) first last run keeps_power alone kept keeps are = cc
after_misses loses keep at access unit (suc misses) told first last run keeps_power alone kept keeps are =
    let two = parts loses at told are.0 are.1 first last run are.2 in
    let older =
    after_misses loses keep at access unit misses are.1 first two.mid two.before keeps_power alone kept keeps are.4 in
    after_missed loses keep at access older.0 misses are.0 two.mid last two.after keeps_power older.1 older.2 keeps
    are.3

-- an access that succeeded
pub after_success : (loses : ℕ → Type 0) (keep : BankState → Type 0) (at : ℕ) (access : Access) (unit : UnitState)
    (outcome : Option (List ℕ)) (told : List Exchange) (first last : SimState)
    → Leads SimStep loses told first last → (loses at → ⊥)
    → IsAlone at unit first.units → keep unit.bank1 → Keeps keep access
    → Succeeds (access_requests at access) outcome told
    → (now : UnitState) × IsAlone at now last.units × keep now.bank1 × Ends access now
after_success loses keep at access unit outcome told first last run keeps_power alone kept keeps done =
    let two = parts loses at told done.0 done.1 first last run done.3 in
    let older =
    after_misses loses keep at access unit done.2 done.1 first two.mid two.before keeps_power alone kept keeps done.7 in
    let all =
    after_trying loses keep (Ends access) at (access_requests at access done.2) [] older.0 done.0 two.mid last two.after
    keeps_power older.1
    older.2
    (safe_access keep at access done.2 older.0 keeps older.2) (all_for at access done.2) done.4 in
    (all.now, all.alone, all.kept, all.safe)
