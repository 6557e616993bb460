-- One access of a session over a bus that alters answers, too.
use Rattle.std.proofs.Common.{◌≡◌, refl, sym, ap, subst, ◌∙◌, inl, inr, ℕ, zero, suc, List, [], ◌∷◌, ◌++◌}
use Rattle.std.proofs.Common.{Option, Some, None, is_some, Bool, true, false, ◌==◌, arith}
use Rattle.std.specs.Prelude.{◌≢◌, ⊤}
use Rattle.std.proofs.lemmas.Bool.{eqb-true}
use Rattle.dali_frame.specs.declared.forward.Frame.{Frame}
use Rattle.dali_frame.specs.declared.forward.Frame.TheVariants.{Dtr0, Dtr1, Dtr2, Write, WriteSilent, Enable, AskDtr0}
use Rattle.dali_frame.specs.declared.forward.Frame.TheVariants.{AskDtr1, AskDtr2, Read, Other}
use Rattle.dali_bus.specs.World.{World, Gear, Memory, stored, byte_in, byte_at}
use Rattle.dali_bus.specs.Power.{MayRelock}
use Rattle.dali_bus.specs.Hears.{up}
use Rattle.dali_bus.specs.Carry.{Carry}
use Rattle.dali_write.specs.Exchanges.{Exchange}
use Rattle.dali_write.specs.declared.request.Request.{Request}
use Rattle.dali_write.specs.declared.request.Wish.{Wish}
use Rattle.dali_write.specs.declared.request.Wish.TheVariants.{Exactly}
use Rattle.dali_write.specs.declared.access.Access.{Access}
use Rattle.dali_write.specs.declared.access.Access.TheVariants.{ReadFrom, WriteTo, WriteOn}
use Rattle.dali_write.specs.Requests.{request, block_requests, write_requests}
use Rattle.dali_write.specs.Requests.{put_requests, access_requests}
use Rattle.dali_write.specs.Plans.{Plan, Make}
use Rattle.dali_write.specs.Tries.{Trying, Missed, Misses, AccessEnds}
use Rattle.dali_write.specs.Tries.{most_tries}
use Rattle.dali_write.specs.Worlds.{OnlyEnabled, Written}
use Rattle.dali_write.specs.Touches.{Has, Touches}
use Rattle.dali_write.specs.Guards.{IsGuarded}
use Rattle.dali_write.specs.Noise.{Noisy, NoisyStep}
use Rattle.dali_write.proofs.GearLemmas.{memory_of}
use Rattle.dali_write.proofs.PowerLemmas.{drifts_keep}
use Rattle.dali_write.proofs.RunLemmas.{Leads, Drifts, Stays}
use Rattle.dali_write.proofs.ShapeLemmas.{AllOf, asked_requests, put_parts, Got}
use Rattle.dali_write.proofs.ShapeLemmas.{got, trying_length, head_is, front_or_last}
use Rattle.dali_write.proofs.BlockShapeLemmas.{in_parts}
use Rattle.dali_write.proofs.AskedLemmas.{block_asks, next_asked}
use Rattle.dali_write.proofs.GuardLemmas.{OnlyWrites, plan_guarded}
use Rattle.dali_write.proofs.GuardLemmas.{enabled_requests, enabled_parts}
use Rattle.dali_write.proofs.TruthLemmas.{off_write_here}
use Rattle.dali_write.proofs.PutLemmas.{Puts, quiet_puts, enable_puts}
use Rattle.dali_write.proofs.PutLemmas.{kept_old, written_new, write_off_here, puts_touch}
use Rattle.dali_write.proofs.PutLemmas.{touches_then, keeps_touches, only_on}
use Rattle.dali_write.proofs.NoiseLemmas.{IsAt, noisy_drifts, at_drifts, noisy_as, selects_noisy, asked_noisy, here_at}
use Rattle.dali_write.proofs.NoiseLemmas.{answered_at}

-- a run in two parts
pub split_noisy : (made : Bool) (loses : ℕ → Type 0) (unit : ℕ) (newer older : List Exchange) (first last : Noisy)
    → Leads (NoisyStep made unit) loses (newer ++ older) first last
    → (mid : Noisy) × Leads (NoisyStep made unit) loses older first mid × Leads (NoisyStep made unit) loses newer mid
    last
split_noisy made loses unit [] older first last run = (last, run, Stays)
split_noisy made loses unit (x ∷ newer) older first last run =
    let parts = split_noisy made loses unit newer older first run.0 run.2 in
    (parts.0, parts.1, (run.0, run.1, parts.2, run.3, run.4))

-- The effect of one frame

-- a write goes to a location of one of the writes, which the unit has selected if it is enabled
abbrev Sure : List (ℕ × ℕ) → ℕ → World → Frame → Type 0
Sure writes unit world (Write byte) = (location : ℕ) × Has writes location byte × IsAt location (world unit)
Sure writes unit world other = ⊤

write_puts : (writes : List (ℕ × ℕ)) (unit location byte : ℕ) (before last : World) (given : Option ℕ)
    → Has writes location byte → IsAt location (before unit) → OnlyEnabled unit before
    → Carry before (Write byte) given last → Puts writes unit before last
write_puts writes unit location byte before last given has at only carry =
    record {
      others = λ address other. record {
        memory = off_write_here address (before address) byte (last address) (only address other)
            (carry.units address);
        off = write_off_here address (before address) byte (last address) (carry.units address);
      };
      here = elim (here_at unit location byte (before unit) (last unit) at (carry.units unit)) [
        | inl same ↦ kept_old writes (before unit) (last unit) same
        | inr stored_it ↦ written_new writes (before unit) (last unit) location byte has stored_it
      ];
    }

frame_puts : (writes : List (ℕ × ℕ)) (unit : ℕ) (tried : List Exchange) (before last : World) (frame : Frame)
    (given : Option ℕ)
    → OnlyEnabled unit before → IsGuarded writes unit tried frame → Sure writes unit before frame
    → Carry before frame given last → Puts writes unit before last
frame_puts writes unit tried before last (Write byte) given only guarded sure carry =
    write_puts writes unit sure.0 byte before last given sure.1 sure.2 only carry
frame_puts writes unit tried before last (Enable to) given only guarded sure carry =
    enable_puts writes unit before given last
    (subst (λ (a : ℕ). Carry before (Enable a) given last) guarded.0 carry)
frame_puts writes unit tried before last (Dtr0 byte) given only guarded sure carry =
    quiet_puts writes unit before (Dtr0 byte) given last (λ address. tt) carry
frame_puts writes unit tried before last (Dtr1 byte) given only guarded sure carry =
    quiet_puts writes unit before (Dtr1 byte) given last (λ address. tt) carry
frame_puts writes unit tried before last (AskDtr0 to) given only guarded sure carry =
    quiet_puts writes unit before (AskDtr0 to) given last (λ address. tt) carry
frame_puts writes unit tried before last (AskDtr1 to) given only guarded sure carry =
    quiet_puts writes unit before (AskDtr1 to) given last (λ address. tt) carry
frame_puts writes unit tried before last (Read to) given only guarded sure carry =
    quiet_puts writes unit before (Read to) given last (λ address. tt) carry
frame_puts writes unit tried before last (Dtr2 byte) given only guarded sure carry = absurd guarded
frame_puts writes unit tried before last (WriteSilent byte) given only guarded sure carry = absurd guarded
frame_puts writes unit tried before last (AskDtr2 to) given only guarded sure carry = absurd guarded
frame_puts writes unit tried before last (Other word) given only guarded sure carry = absurd guarded

-- A try

-- the state of the unit that a try of an access relies on, after this many tries that missed
abbrev pub Needs : Access → ℕ → Option Gear → Type 0
Needs (ReadFrom block) misses gear = ⊤
Needs (WriteTo location byte) misses gear = ⊤
Needs (WriteOn before location byte) zero gear = IsAt (up before) gear
Needs (WriteOn before location byte) (suc misses) gear = ⊤

-- a try begins where it may, and no other unit is enabled
pub record Begins (access : Access) (misses unit : ℕ) (first : Noisy) : Type 0 where
  pub only : OnlyEnabled unit first.world
  pub needs : Needs access misses (first.world unit)

-- a try whose last frame writes, if those before it make sure of the location
last_sure : (writes : List (ℕ × ℕ)) (unit location byte : ℕ) (front : List Request) (tried : List Exchange)
    (next : Request) (left : List Request) (before : World)
    → Has writes location byte → AllOf (λ (r : Request). Sure writes unit before r.frame) front
    → Trying (front ++ request (Write byte) (Exactly byte) ∷ []) tried (next ∷ left)
    → (Trying front tried [] → IsAt location (before unit)) → Sure writes unit before next.frame
last_sure writes unit location byte front tried next left before has all try at =
    elim (front_or_last (λ (r : Request). Sure writes unit before r.frame) front (request (Write byte) (Exactly byte))
    tried next left all try) [
      | inl sure ↦ sure
      | inr (is, sent) ↦ subst (λ (r : Request). Sure writes unit before r.frame) (sym is) (location, has, at sent)
    ]

enabled_noisy : (made : Bool) (loses : ℕ → Type 0) (unit location : ℕ) (tried : List Exchange) (first last : Noisy)
    → Leads (NoisyStep made unit) loses tried first last → Trying (enabled_requests unit location) tried []
    → IsAt location (last.world unit)
enabled_noisy made loses unit location tried first last run try =
    let p = enabled_parts unit location tried try in
    let parts = split_noisy made loses unit p.newer p.older first last
    (subst (λ (t : List Exchange). Leads (NoisyStep made unit) loses t first last) p.is run) in
    selects_noisy made loses unit location p.newer parts.0 last parts.2 p.newer_is

-- a checked write
write_sure : (made : Bool) (loses : ℕ → Type 0) (writes : List (ℕ × ℕ)) (unit location byte : ℕ) (tried : List Exchange)
    (next : Request) (left : List Request) (first before : Noisy)
    → Has writes location byte → Trying (write_requests unit location byte) tried (next ∷ left)
    → Leads (NoisyStep made unit) loses tried first before → Sure writes unit before.world next.frame
write_sure made loses writes unit location byte tried next left first before has try run =
    last_sure writes unit location byte (enabled_requests unit location) tried next left before.world has
    (tt, (tt, (tt, (tt, (tt, (tt, tt)))))) try (enabled_noisy made loses unit location tried first before run)

-- one at a unit that is enabled
put_sure : (writes : List (ℕ × ℕ)) (moved : Bool) (unit location byte : ℕ) (tried : List Exchange)
    (next : Request) (left : List Request) (before : World)
    → Has writes location byte → Trying (put_requests moved unit location byte) tried (next ∷ left)
    → (Trying (asked_requests moved unit location) tried [] → IsAt location (before unit))
    → Sure writes unit before next.frame
put_sure writes true unit location byte tried next left before has try at =
    last_sure writes unit location byte (asked_requests true unit location) tried next left before has (tt, (tt, tt))
    try at
put_sure writes false unit location byte tried next left before has try at =
    last_sure writes unit location byte (asked_requests false unit location) tried next left before has
    (tt, (tt, (tt, tt))) try at

pub sure_next : (made : Bool) (loses : ℕ → Type 0) (writes : List (ℕ × ℕ)) (unit : ℕ) (access : Access)
    (after : Option (List ℕ) → Plan) (misses : ℕ)
    (tried : List Exchange) (next : Request) (left : List Request) (first before : Noisy)
    → OnlyWrites writes (Make access after) → Begins access misses unit first
    → Trying (access_requests unit access misses) tried (next ∷ left)
    → Leads (NoisyStep made unit) loses tried first before → Sure writes unit before.world next.frame
sure_next made loses writes unit (ReadFrom block) after misses tried next left first before only begins try run =
    let sure : Frame → Type 0 = Sure writes unit before.world in
    next_asked sure (block_requests unit block) tried next left (block_asks sure unit block tt tt tt tt tt) try
sure_next made loses writes unit (WriteTo location byte) after misses tried next left first before only begins try run =
    write_sure made loses writes unit location byte tried next left first before only.0 try run
sure_next made loses writes unit (WriteOn behind location byte) after zero tried next left first before only begins
    try run =
    let moved = up behind == location in
    put_sure writes moved unit location byte tried next left before.world only.0 try
    (asked_noisy made loses unit (up behind) location tried first before begins.needs run moved
    (eqb-true (up behind) location))
sure_next made loses writes unit (WriteOn behind location byte) after (suc misses) tried next left first before only
    begins try run =
    write_sure made loses writes unit location byte tried next left first before only.0 try run

-- one more frame
next_touches : {made : Bool} {loses : ℕ → Type 0} (writes : List (ℕ × ℕ)) (unit : ℕ) (access : Access)
    (after : Option (List ℕ) → Plan) (misses : ℕ) (x : Exchange) (wish : Wish)
    (tried : List Exchange) (left : List Request) (first last : Noisy)
    → OnlyWrites writes (Make access after) → Begins access misses unit first
    → Trying (access_requests unit access misses) tried (request x.frame wish ∷ left)
    → ((mid : Noisy) → Leads (NoisyStep made unit) loses tried first mid
    → Touches loses writes unit first.world mid.world)
    → Leads (NoisyStep made unit) loses (x ∷ tried) first last → Touches loses writes unit first.world last.world
next_touches {made} {loses} writes unit access after misses x wish tried left first last only begins try before run =
    let next = request x.frame wish in
    let one = before run.0 run.2 in
    let on = only_on writes unit first.world run.0.world begins.only one in
    let guarded = plan_guarded writes unit (Make access after) only misses tried next left try in
    let sure = sure_next made loses writes unit access after misses tried next left first run.0 only begins try run.2 in
    let puts = frame_puts writes unit tried run.0.world run.1.world x.frame run.3.given on guarded sure run.3.carries
    in
    touches_then writes unit first.world run.0.world last.world one
    (touches_then writes unit run.0.world run.1.world last.world
    (puts_touch writes unit run.0.world run.1.world puts)
    (keeps_touches writes unit run.1.world last.world
    (drifts_keep run.1.world last.world (noisy_drifts unit run.1 last run.4))))

pub trying_touches : (made : Bool) {loses : ℕ → Type 0} (writes : List (ℕ × ℕ)) (unit : ℕ) (access : Access)
    (after : Option (List ℕ) → Plan) (misses : ℕ)
    (tried : List Exchange) (left : List Request) (first last : Noisy)
    → OnlyWrites writes (Make access after) → Begins access misses unit first
    → Trying (access_requests unit access misses) tried left
    → Leads (NoisyStep made unit) loses tried first last → Touches loses writes unit first.world last.world
trying_touches made writes unit access after misses [] left first last only begins try run =
    keeps_touches writes unit first.world last.world
    (drifts_keep first.world last.world (noisy_drifts unit first last run))
trying_touches made writes unit access after misses (x ∷ tried) left first last only begins try run =
    next_touches writes unit access after misses x try.0 tried left first last only begins try.2
    (λ mid. trying_touches made writes unit access after misses tried (request x.frame try.0 ∷ left) first mid
    only begins try.2) run

missed_touches : (made : Bool) {loses : ℕ → Type 0} (writes : List (ℕ × ℕ)) (unit : ℕ) (access : Access)
    (after : Option (List ℕ) → Plan) (misses : ℕ)
    (tried : List Exchange) (first last : Noisy)
    → OnlyWrites writes (Make access after) → Begins access misses unit first
    → Missed (access_requests unit access misses) tried
    → Leads (NoisyStep made unit) loses tried first last → Touches loses writes unit first.world last.world
missed_touches made writes unit access after misses [] first last only begins missed run = absurd missed
missed_touches made writes unit access after misses (x ∷ tried) first last only begins missed run =
    next_touches writes unit access after misses x missed.0 tried missed.1 first last only begins missed.3
    (λ mid. trying_touches made writes unit access after misses tried (request x.frame missed.0 ∷ missed.1) first
    mid only begins missed.3) run

needs_drift : {made : Bool} {loses : ℕ → Type 0} (access : Access) (misses unit : ℕ) (first last : Noisy)
    → Drifts (NoisyStep made unit) loses first last → Needs access misses (first.world unit)
    → Needs access misses (last.world unit)
needs_drift (ReadFrom block) misses unit first last drifts needs = tt
needs_drift (WriteTo location byte) misses unit first last drifts needs = tt
needs_drift (WriteOn before location byte) zero unit first last drifts needs =
    at_drifts (up before) unit first last drifts needs
needs_drift (WriteOn before location byte) (suc misses) unit first last drifts needs = tt

needs_none : (access : Access) (misses : ℕ) (gear : Option Gear) → Needs access (suc misses) gear
needs_none (ReadFrom block) misses gear = tt
needs_none (WriteTo location byte) misses gear = tt
needs_none (WriteOn before location byte) misses gear = tt

-- tries that missed, and then the next one may begin
pub record Between (loses : ℕ → Type 0) (writes : List (ℕ × ℕ)) (access : Access) (misses unit : ℕ)
    (first last : Noisy) : Type 0 where
  pub touches : Touches loses writes unit first.world last.world
  pub begins : Begins access misses unit last

pub misses_touch : (made : Bool) {loses : ℕ → Type 0} (writes : List (ℕ × ℕ)) (unit : ℕ) (access : Access)
    (after : Option (List ℕ) → Plan) (misses : ℕ) (told : List Exchange) (first last : Noisy)
    → OnlyWrites writes (Make access after) → Begins access 0 unit first
    → Misses (access_requests unit access) misses told
    → Leads (NoisyStep made unit) loses told first last → Between loses writes access misses unit first last
misses_touch made {loses} writes unit access after zero told first last only begins is run =
    let drifts = subst (λ (t : List Exchange). Leads (NoisyStep made unit) loses t first last) is run in
    let touches = keeps_touches writes unit first.world last.world
    (drifts_keep first.world last.world (noisy_drifts unit first last drifts)) in
    record {
      touches = touches;
      begins = record {
        only = only_on writes unit first.world last.world begins.only touches;
        needs = needs_drift access 0 unit first last drifts begins.needs;
      };
    }
misses_touch made {loses} writes unit access after (suc misses) told first last only begins is run =
    let parts = split_noisy made loses unit is.0 is.1 first last
    (subst (λ (t : List Exchange). Leads (NoisyStep made unit) loses t first last) is.2 run) in
    let one = misses_touch made writes unit access after misses is.1 first parts.0 only begins is.4 parts.1 in
    let two = missed_touches made writes unit access after misses is.0 parts.0 last only one.begins is.3 parts.2 in
    let touches = touches_then writes unit first.world parts.0.world last.world one.touches two in
    record {
      touches = touches;
      begins = record {
        only = only_on writes unit first.world last.world begins.only touches;
        needs = needs_none access misses (last.world unit);
      };
    }

-- A whole access

-- a whole try, and its last exchange
record LastOne (front : List Request) (last : Request) (told : List Exchange) : Type 0 where
  pub x : Exchange
  pub older : List Exchange
  pub is : told ≡ x ∷ older
  pub got : Got x last.frame last.wish
  pub before : Trying front older []
  pub left : List Request
  pub all : Trying (front ++ last ∷ []) older left

one_told : (last : Request) (told : List Exchange) → Trying (last ∷ []) told []
    → (x : Exchange) × (told ≡ x ∷ []) × Got x last.frame last.wish
one_told last [] try = cc
one_told last (x ∷ []) try = (x, refl, got x try.0 last (head_is (request x.frame try.0) last [] [] try.2) try.1)
one_told last (y ∷ x ∷ told) try = grind (arith, trying_length)

last_one : (front : List Request) (last : Request) (told : List Exchange) → Trying (front ++ last ∷ []) told []
    → LastOne front last told
last_one front last told try =
    let p = in_parts front (last ∷ []) told [] try (omega arith) in
    let one = one_told last p.newer p.newer_is in
    let is : told ≡ one.0 ∷ p.older = p.is ∙ ap (λ (t : List Exchange). t ++ p.older) one.1 in
    let sent = subst (λ (t : List Exchange). Trying (front ++ last ∷ []) t []) is try in
    record {
      x = one.0;
      older = p.older;
      is = is;
      got = one.2;
      before = p.older_is;
      left = request one.0.frame sent.0 ∷ [];
      all = sent.2;
    }

-- a write that succeeded: its byte is there, unless that is the indicator byte, and the unit has the next location
-- selected if it is enabled
pub record HasWritten (loses : ℕ → Type 0) (location byte unit : ℕ) (last : Noisy) : Type 0 where
  pub at : IsAt (up location) (last.world unit)
  pub byte_is : location ≢ 1 → MayRelock (loses unit) 1 location (Some byte) (byte_at last.world unit 1 location)

pub some_given : (answer given : Option ℕ) (byte : ℕ) → is_some answer ≡ is_some given → answer ≡ Some byte
    → (v : ℕ) × (given ≡ Some v)
some_given answer None byte altered is = cc
some_given answer (Some v) byte altered is = (v, refl)

stored_here : (memory : Memory) (location byte : ℕ) → stored memory 1 location byte 1 location ≡ Some byte
stored_here memory location byte = grind arith

written_byte : (location byte : ℕ) (old new : Option Gear) → location ≢ 1
    → Written location byte (memory_of old) (memory_of new) → byte_in new 1 location ≡ Some byte
written_byte location byte None new other written = absurd written
written_byte location byte (Some old) None other written = absurd written
written_byte location byte (Some old) (Some new) other written =
    elim (written.1 1 location) [
      | inl same ↦ same ∙ stored_here old.memory location byte
      | inr (is, there) ↦ absurd (other is.1)
    ]

has_written : (made : Bool) (loses : ℕ → Type 0) (writes : List (ℕ × ℕ)) (unit location byte : ℕ) (access : Access)
    (after : Option (List ℕ) → Plan) (misses : ℕ) (front : List Request) (told : List Exchange) (first last : Noisy)
    → made ≡ false → OnlyWrites writes (Make access after) → Begins access misses unit first
    → access_requests unit access misses ≡ front ++ request (Write byte) (Exactly byte) ∷ []
    → ((older : List Exchange) (mid : Noisy) → Leads (NoisyStep made unit) loses older first mid → Trying front older []
    → IsAt location (mid.world unit))
    → Trying (front ++ request (Write byte) (Exactly byte) ∷ []) told []
    → Leads (NoisyStep made unit) loses told first last → HasWritten loses location byte unit last
has_written made loses writes unit location byte access after misses front told first last so only begins are at try
    run =
    let one = last_one front (request (Write byte) (Exactly byte)) told try in
    let r = subst (λ (t : List Exchange). Leads (NoisyStep made unit) loses t first last) one.is run in
    let touches = trying_touches made writes unit access after misses one.older one.left first r.0 only begins
    (subst (λ (l : List Request). Trying l one.older one.left) (sym are) one.all) r.2 in
    let on = only_on writes unit first.world r.0.world begins.only touches in
    let n = noisy_as unit r.0 r.1 one.x (Write byte) one.got.frame_is r.3 in
    let given = some_given one.x.answer n.given byte (n.altered so tt) one.got.meets in
    let stored_it = answered_at unit location byte given.0 r.0.world r.1.world (at one.older r.0 r.2 one.before) on
    (subst (λ (a : Option ℕ). Carry r.0.world (Write byte) a r.1.world) given.1 n.carries) in
    let keeps = drifts_keep r.1.world last.world (noisy_drifts unit r.1 last r.4) unit in
    record {
      at = at_drifts (up location) unit r.1 last r.4 stored_it.at;
      byte_is = λ other. subst
          (λ (o : Option ℕ). MayRelock (loses unit) 1 location o (byte_at last.world unit 1 location))
          (written_byte location byte (r.0.world unit) (r.1.world unit) other stored_it.written)
          (keeps.memory 1 location);
    }

-- what an access leaves of the unit, by its outcome
abbrev pub Leaves : (ℕ → Type 0) → Access → Option (List ℕ) → ℕ → Noisy → Type 0
Leaves loses (ReadFrom block) outcome unit last = ⊤
Leaves loses (WriteTo location byte) None unit last = ⊤
Leaves loses (WriteTo location byte) (Some bytes) unit last = HasWritten loses location byte unit last
Leaves loses (WriteOn before location byte) None unit last = ⊤
Leaves loses (WriteOn before location byte) (Some bytes) unit last = HasWritten loses location byte unit last

leaves_none : (loses : ℕ → Type 0) (access : Access) (unit : ℕ) (last : Noisy) → Leaves loses access None unit last
leaves_none loses (ReadFrom block) unit last = tt
leaves_none loses (WriteTo location byte) unit last = tt
leaves_none loses (WriteOn before location byte) unit last = tt

try_leaves : (made : Bool) (loses : ℕ → Type 0) (writes : List (ℕ × ℕ)) (unit : ℕ) (access : Access)
    (after : Option (List ℕ) → Plan) (misses : ℕ) (bytes : List ℕ) (told : List Exchange) (first last : Noisy)
    → made ≡ false → OnlyWrites writes (Make access after) → Begins access misses unit first
    → Trying (access_requests unit access misses) told []
    → Leads (NoisyStep made unit) loses told first last → Leaves loses access (Some bytes) unit last
try_leaves made loses writes unit (ReadFrom block) after misses bytes told first last so only begins try run = tt
try_leaves made loses writes unit (WriteTo location byte) after misses bytes told first last so only begins try run =
    has_written made loses writes unit location byte (WriteTo location byte) after misses
    (enabled_requests unit location) told first last so only begins refl
    (λ older mid. enabled_noisy made loses unit location older first mid) try run
try_leaves made loses writes unit (WriteOn before location byte) after zero bytes told first last so only begins try
    run =
    let moved = up before == location in
    let parts = put_parts moved unit location byte in
    has_written made loses writes unit location byte (WriteOn before location byte) after 0
    (asked_requests moved unit location) told first last so only begins parts
    (λ older mid lead. asked_noisy made loses unit (up before) location older first mid begins.needs lead moved
    (eqb-true (up before) location)) (subst (λ (l : List Request). Trying l told []) parts try) run
try_leaves made loses writes unit (WriteOn before location byte) after (suc misses) bytes told first last so only
    begins try run =
    has_written made loses writes unit location byte (WriteOn before location byte) after (suc misses)
    (enabled_requests unit location) told first last so only begins refl
    (λ older mid. enabled_noisy made loses unit location older first mid) try run

-- an access came to its end
pub record Ended (made : Bool) (loses : ℕ → Type 0) (writes : List (ℕ × ℕ)) (access : Access)
    (outcome : Option (List ℕ)) (unit : ℕ)
    (first last : Noisy) : Type 0 where
  pub touches : Touches loses writes unit first.world last.world
  pub leaves : made ≡ false → Leaves loses access outcome unit last

pub access_ended : (made : Bool) (loses : ℕ → Type 0) (writes : List (ℕ × ℕ)) (unit : ℕ) (access : Access)
    (after : Option (List ℕ) → Plan) (outcome : Option (List ℕ)) (told : List Exchange) (first last : Noisy)
    → OnlyWrites writes (Make access after) → Begins access 0 unit first
    → AccessEnds unit (Make access after) outcome told
    → Leads (NoisyStep made unit) loses told first last → Ended made loses writes access outcome unit first last
access_ended made loses writes unit access after outcome told first last only begins (inl done) run =
    let parts = split_noisy made loses unit done.0 done.1 first last
    (subst (λ (t : List Exchange). Leads (NoisyStep made unit) loses t first last) done.3 run) in
    let one = misses_touch made writes unit access after done.2 done.1 first parts.0 only begins done.7 parts.1 in
    let two = trying_touches made writes unit access after done.2 done.0 [] parts.0 last only one.begins done.4
    parts.2 in
    record {
      touches = touches_then writes unit first.world parts.0.world last.world one.touches two;
      leaves = λ so. subst (λ (o : Option (List ℕ)). Leaves loses access o unit last) (sym done.5)
          (try_leaves made loses writes unit access after done.2 _ done.0 parts.0 last so only one.begins done.4
          parts.2);
    }
access_ended made loses writes unit access after outcome told first last only begins (inr failed) run =
    record {
      touches =
          (misses_touch made writes unit access after most_tries told first last only begins failed.1 run).touches;
      leaves = λ so. subst (λ (o : Option (List ℕ)). Leaves loses access o unit last) (sym failed.0)
          (leaves_none loses access unit last);
    }
