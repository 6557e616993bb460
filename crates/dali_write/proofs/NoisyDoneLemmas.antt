-- The bytes that a session has stored if it ends as done, over a bus that alters answers, too.
use Rattle.std.proofs.Common.{◌≡◌, ◌⊎◌, refl, sym, ap, subst, ◌∙◌, inl, inr, ℕ, ◌<◌, ◌≤◌, List, [], ◌∷◌, ◌++◌}
use Rattle.std.proofs.Common.{Option, Some, None, IsSome, is_some, length, Bool, true, false, ◌==◌, arith}
use Rattle.std.specs.Prelude.{◌≢◌, ⊤, ◌&&◌, nat_lt, if◌then◌else◌}
use Rattle.std.specs.Str.{bytes_eq}
use Rattle.std.specs.List.{AllByRecursion}
use Rattle.dali_frame.specs.declared.forward.Frame.TheVariants.{Read, AskDtr0, AskDtr1}
use Rattle.dali_bank.specs.Order.{RisesAbove}
use Rattle.dali_bus.specs.World.{World, Gear, byte_in, byte_at}
use Rattle.dali_bus.specs.Power.{MayRelock}
use Rattle.dali_bus.specs.Hears.{Hears, up, ReadsByte, ReadsNothing, PassesLeftOut, Ignores}
use Rattle.dali_bus.specs.Carry.{Carry}
use Rattle.dali_write.specs.Exchanges.{Exchange}
use Rattle.dali_write.specs.declared.block.Block.{Block}
use Rattle.dali_write.specs.declared.access.Access.TheVariants.{ReadFrom, WriteTo, WriteOn}
use Rattle.dali_write.specs.declared.pace.Pace.{Pace}
use Rattle.dali_write.specs.declared.pace.Pace.TheVariants.{Checked, Short}
use Rattle.dali_write.specs.declared.ask.Verdict.{Verdict}
use Rattle.dali_write.specs.declared.ask.Verdict.TheVariants.{Done, Doubt, DoubtOpen, Closed, NotClosed}
use Rattle.dali_write.specs.declared.ask.Ask.TheVariants.{Ended}
use Rattle.dali_write.specs.Requests.{block, block_requests, access_requests, each_try}
use Rattle.dali_write.specs.Plans.{Plan, Finish, Make, either_way, give_up, row_before, rows_of, most_of, read_backs}
use Rattle.dali_write.specs.Plans.{read_back, read_all_back, write_next, write_on, unlock, close, read_closed}
use Rattle.dali_write.specs.Plans.{most_once, most_again, updates_in, pieces_of, expect_all, read_again}
use Rattle.dali_write.specs.Tries.{Trying, Succeeds, Fails, Wants}
use Rattle.dali_write.specs.Walks.{Walk}
use Rattle.dali_write.specs.Worlds.{OnlyEnabled, Shows}
use Rattle.dali_write.specs.Touches.{Has, Touches, writes_of}
use Rattle.dali_write.specs.Findings.{IsWritten}
use Rattle.dali_write.specs.Noise.{Noisy, NoisyStep}
use Rattle.dali_write.proofs.GearLemmas.{end_steady, carry_stays, IsOff}
use Rattle.dali_write.proofs.PowerLemmas.{drifts_keep, relock_then}
use Rattle.dali_write.proofs.RunLemmas.{Leads, Drifts}
use Rattle.dali_write.proofs.TruthLemmas.{HasBank}
use Rattle.dali_bus.proofs.OpenLemmas.{is_open}
use Rattle.dali_write.proofs.GearLemmas.{dtr1_in}
use Rattle.dali_write.proofs.BlockShapeLemmas.{AllReads, was_block}
use Rattle.dali_write.proofs.RisingLemmas.{has_above}
use Rattle.dali_write.proofs.WalkLemmas.{ended_walk}
use Rattle.std.proofs.lemmas.Bool.{both_ways}
use Rattle.dali_write.specs.Reads.{IsPassive}
use Rattle.dali_write.proofs.PlanLemmas.{either_all, if_all}
use Rattle.dali_write.proofs.RowLemmas.{pieces_some}
use Rattle.dali_write.proofs.AskedLemmas.{IsCalm, Sent, access_sent, block_calm, calm_passive, passive_quiet}
use Rattle.dali_write.proofs.ExactLemmas.{never_done}
use Rattle.dali_write.proofs.GuardLemmas.{write_on_writes}
use Rattle.dali_write.proofs.NoiseLemmas.{noisy_drifts, noisy_as, selects_noisy, step_bank, bank_drifts}
use Rattle.dali_write.proofs.NoisyTryLemmas.{split_noisy, HasWritten, access_ended, Leaves}
use Rattle.dali_write.proofs.NoisyTouchLemmas.{MayGoOn, begins_of, goes_on, walk_touches, unlock_may}

-- A read that was answered

-- the unit that answered isn't enabled any more, if it had bank 1 selected where it was
answers_off : (at : ℕ) (old : Gear) (to v : ℕ) (new : Gear) → Hears at old (Read to) (Some v) new
    → (to ≡ at) × ((old.enabled ≡ true → old.dtr1 ≡ 1) → new.enabled ≡ false)
answers_off at old to v new h = told h.obeys
  where
    told : ((to ≡ at)
        × (ReadsByte old (Some v) h.obeyed ⊎ ReadsNothing old (Some v) h.obeyed ⊎ PassesLeftOut old h.obeyed))
        ⊎ ((to ≢ at) × Ignores old (Some v) h.obeyed)
        → (to ≡ at) × ((old.enabled ≡ true → old.dtr1 ≡ 1) → new.enabled ≡ false)
    told (inl (is, inl read)) =
        (is, λ bank. (end_steady h.obeyed new h.ends).keeps.off (ap (λ (g : Gear). g.enabled) read.2))
    told (inl (is, inr (inl nothing))) = let never = nothing.1.3 in cc
    told (inl (is, inr (inr aside))) = (is, λ bank. by bank old.enabled refl)
      where
        by : (old.enabled ≡ true → old.dtr1 ≡ 1) → (on : Bool) → old.enabled ≡ on → new.enabled ≡ false
        by bank true on = let one = bank on in let high = aside.0 in let never : ⊥ = omega arith in absurd never
        by bank false off =
            (end_steady h.obeyed new h.ends).keeps.off (ap (λ (g : Gear). g.enabled) aside.2.2 ∙ off)
    told (inr (isnt, ignores)) = let never = ignores.1 in cc

bank_of : (gear : Gear) (seen : Option Gear) → seen ≡ Some gear → HasBank seen → gear.enabled ≡ true → gear.dtr1 ≡ 1
bank_of gear seen is bank on = grind (arith, is_open, dtr1_in)

read_off : (unit v : ℕ) (old new : World) → HasBank (old unit) → Carry old (Read unit) (Some v) new
    → IsOff (new unit)
read_off unit v old new bank carry =
    let a = carry.answers in
    let off = answers_off a.address a.before unit v a.after a.hears in
    let was : old unit ≡ Some a.before = subst (λ (u : ℕ). old u ≡ Some a.before) (sym off.0) a.was in
    let is : new unit ≡ Some a.after = subst (λ (u : ℕ). new u ≡ Some a.after) (sym off.0) a.is in
    ap is_open is ∙ off.1 (bank_of a.before (old unit) was bank)

reads_bank : (loses : ℕ → Type 0) (unit : ℕ) (each : List Exchange) (first last : Noisy) → HasBank (first.world unit)
    → AllReads unit each → Leads (NoisyStep false unit) loses each first last → HasBank (last.world unit)
reads_bank loses unit [] first last bank all run = bank_drifts unit first last run bank
reads_bank loses unit (x ∷ each) first last bank all run =
    step_bank unit run.0 run.1 last x (Read unit) all.0 tt tt run.3 run.4
    (reads_bank loses unit each first run.0 bank all.2 run.2)

off_drifts : {loses : ℕ → Type 0} (unit : ℕ) (first last : Noisy) → Drifts (NoisyStep false unit) loses first last
    → IsOff (first.world unit) → IsOff (last.world unit)
off_drifts unit first last drifts off =
    (drifts_keep first.world last.world (noisy_drifts unit first last drifts) unit).off off

given_too : (answer given : Option ℕ) → is_some answer ≡ is_some given → IsSome answer → (v : ℕ) × (given ≡ Some v)
given_too answer None altered some = cc
given_too answer (Some v) altered some = (v, refl)

reads_off : (loses : ℕ → Type 0) (unit : ℕ) (each : List Exchange) (first last : Noisy) → HasBank (first.world unit)
    → AllReads unit each → 1 ≤ length each → Leads (NoisyStep false unit) loses each first last → IsOff
    (last.world unit)
reads_off loses unit [] first last bank all some run = let never : ⊥ = omega arith in absurd never
reads_off loses unit (x ∷ each) first last bank all some run =
    let before = reads_bank loses unit each first run.0 bank all.2 run.2 in
    let n = noisy_as unit run.0 run.1 x (Read unit) all.0 run.3 in
    let given = given_too x.answer n.given (n.altered refl tt) all.1 in
    off_drifts unit run.1 last run.4
    (read_off unit given.0 run.0.world run.1.world before
    (subst (λ (a : Option ℕ). Carry run.0.world (Read unit) a run.1.world) given.1 n.carries))

block_off : (loses : ℕ → Type 0) (unit : ℕ) (block : Block) (tried : List Exchange) (first last : Noisy)
    → 1 ≤ block.count → Trying (block_requests unit block) tried []
    → Leads (NoisyStep false unit) loses tried first last → IsOff (last.world unit)
block_off loses unit block tried first last some try run =
    let w = was_block unit block tried try in
    let one = split_noisy false loses unit (w.y2 ∷ w.y1 ∷ []) (w.each ++ w.older) first last
    (subst (λ (t : List Exchange). Leads (NoisyStep false unit) loses t first last) w.is run) in
    let two = split_noisy false loses unit w.each w.older first one.0 one.1 in
    let at = selects_noisy false loses unit block.location w.older first two.0 two.1 w.selects in
    let count : 1 ≤ length w.each = subst (λ (n : ℕ). 1 ≤ n) (sym w.count_is) some in
    let off = reads_off loses unit w.each two.0 one.0 at.0 w.all count two.2 in
    let r2 = one.2 in
    let r1 = r2.2 in
    let n1 = noisy_as unit r1.0 r1.1 w.y1 (AskDtr0 unit) w.got1.frame_is r1.3 in
    let n2 = noisy_as unit r2.0 r2.1 w.y2 (AskDtr1 unit) w.got2.frame_is r2.3 in
    let off0 = off_drifts unit one.0 r1.0 r1.2 off in
    let off1 = (carry_stays r1.0.world (AskDtr0 unit) n1.given r1.1.world unit tt n1.carries).off off0 in
    let off2 = off_drifts unit r1.1 r2.0 r1.4 off1 in
    let off3 = (carry_stays r2.0.world (AskDtr1 unit) n2.given r2.1.world unit tt n2.carries).off off2 in
    off_drifts unit r2.1 last r2.4 off3

access_off : (loses : ℕ → Type 0) (unit : ℕ) (block : Block) (outcome : Option (List ℕ)) (bytes : List ℕ)
    (told : List Exchange) (first last : Noisy)
    → 1 ≤ block.count → outcome ≡ Some bytes
    → Succeeds (access_requests unit (ReadFrom block)) outcome told
    ⊎ Fails (access_requests unit (ReadFrom block)) outcome told
    → Leads (NoisyStep false unit) loses told first last → IsOff (last.world unit)
access_off loses unit block outcome bytes told first last some is (inl done) run =
    let parts = split_noisy false loses unit done.0 done.1 first last
    (subst (λ (t : List Exchange). Leads (NoisyStep false unit) loses t first last) done.3 run) in
    block_off loses unit block done.0 parts.0 last some done.4 parts.2
access_off loses unit block outcome bytes told first last some is (inr failed) run =
    let none = failed.0 in cc

-- All that is read back

abbrev HaveBytes : List (ℕ × List ℕ) → Type 0
HaveBytes rows = AllByRecursion (λ row. 1 ≤ length row.1) rows

row_before_bytes : (most : ℕ) (update : ℕ × ℕ) (some : List (ℕ × List ℕ)) → HaveBytes some
    → HaveBytes (row_before most update some) × (1 ≤ length (row_before most update some))
row_before_bytes most update [] all = ((omega arith, tt), omega arith)
row_before_bytes most update (row ∷ more) all = by ((row.0 == up update.0) && nat_lt (length row.1) most)
  where
    by : (b : Bool)
        → HaveBytes (if b then (update.0, update.1 ∷ row.1) ∷ more else (update.0, update.1 ∷ []) ∷ row ∷ more)
        × (1 ≤ length (if b then (update.0, update.1 ∷ row.1) ∷ more else (update.0, update.1 ∷ []) ∷ row ∷ more))
    by true = ((omega arith, all.1), omega arith)
    by false = ((omega arith, all), omega arith)

rows_bytes : (most : ℕ) (updates : List (ℕ × ℕ)) → HaveBytes (rows_of most updates)
rows_bytes most [] = tt
rows_bytes most (update ∷ updates) = (row_before_bytes most update (rows_of most updates) (rows_bytes most updates)).0

-- these verdicts leave open whether the unit is enabled
abbrev pub LeavesOpen : Verdict → Type 0
LeavesOpen DoubtOpen = ⊤
LeavesOpen NotClosed = ⊤
LeavesOpen other = ⊥

-- if the plan ends with another verdict, a read was answered after the last write, unless one is known already
abbrev Quits : Bool → Plan → Type 0
Quits known (Finish verdict) = (known ≡ true) ⊎ LeavesOpen verdict
Quits known (Make (ReadFrom block) after) =
    (1 ≤ block.count) × Quits known (after None) × ((bytes : List ℕ) → Quits true (after (Some bytes)))
Quits known (Make (WriteTo location byte) after) = (outcome : Option (List ℕ)) → Quits false (after outcome)
Quits known (Make (WriteOn before location byte) after) = (outcome : Option (List ℕ)) → Quits false (after outcome)

closed_quits : (known : Bool) (answered unanswered : Verdict) → LeavesOpen unanswered
    → Quits known (read_closed answered unanswered)
closed_quits known answered unanswered leaves = (omega arith, inr leaves, λ bytes. inl refl)

close_quits : (known : Bool) (answered unanswered : Verdict) → LeavesOpen unanswered
    → Quits known (close answered unanswered)
close_quits known answered unanswered leaves = λ outcome. closed_quits false answered unanswered leaves

all_quits : (known : Bool) (rows : List (ℕ × List ℕ)) (after : Plan) → HaveBytes rows
    → (known ≡ true) ⊎ (1 ≤ length rows) → Quits true after → Quits known (expect_all rows after)
all_quits known [] after have (inl is) rest = subst (λ (k : Bool). Quits k after) (sym is) rest
all_quits known [] after have (inr some) rest = let never : ⊥ = omega arith in absurd never
all_quits known (row ∷ rows) after have start rest = (
  have.0,
  close_quits known Doubt DoubtOpen tt,
  λ read. if_all (Quits true) (bytes_eq read row.1) (expect_all rows after) give_up
      (all_quits true rows after have.1 (inl refl) rest) (close_quits true Doubt DoubtOpen tt),
)

-- a row that is read again has a piece, so one of its reads is answered, too
again_quits : (known : Bool) (location : ℕ) (bytes : List ℕ) (after : Plan) → 1 ≤ length bytes → Quits true after
    → Quits known (read_again location bytes after)
again_quits known location bytes after some rest =
    if_all (Quits known) (nat_lt most_once (length bytes)) (expect_all (pieces_of location bytes) after) give_up
    (all_quits known (pieces_of location bytes) after (rows_bytes most_again (updates_in location bytes))
    (inr (pieces_some location bytes some)) rest) (close_quits known Doubt DoubtOpen tt)

back_quits : (known : Bool) (rows : List (ℕ × List ℕ)) → HaveBytes rows → (known ≡ true) ⊎ (1 ≤ length rows)
    → Quits known (read_back rows)
back_quits known [] have (inl is) = inl is
back_quits known [] have (inr some) = let never : ⊥ = omega arith in absurd never
back_quits known (row ∷ rows) have start =
    let rest = back_quits true rows have.1 (inl refl) in (
      have.0,
      again_quits known row.0 row.1 (read_back rows) have.0 rest,
      λ read. if_all (Quits true) (bytes_eq read row.1) (read_back rows) (read_again row.0 row.1 (read_back rows)) rest
          (again_quits true row.0 row.1 (read_back rows) have.0 rest),
    )

next_quits : (pace : Pace) (known : Bool) (before location byte : ℕ) (after : Plan) → Quits false after
    → Quits known (Make (write_next pace before location byte) (either_way give_up (λ bytes. after)))
next_quits Checked known before location byte after rest =
    either_all (Quits false) give_up (λ bytes. after) (close_quits false Doubt DoubtOpen tt) (λ bytes. rest)
next_quits Short known before location byte after rest =
    either_all (Quits false) give_up (λ bytes. after) (close_quits false Doubt DoubtOpen tt) (λ bytes. rest)

on_quits : (pace : Pace) (updates : List (ℕ × ℕ)) (before : ℕ) (left : List (ℕ × ℕ))
    → Quits false (write_on pace updates before left)
on_quits pace updates before [] =
    let most = most_of pace in
    next_quits pace false before 2 0xFF (read_all_back pace updates)
    (back_quits false (rows_of most (read_backs updates)) (rows_bytes most (read_backs updates))
    (inr (row_before_bytes most (2, 0xFF) (rows_of most updates) (rows_bytes most updates)).1))
on_quits pace updates before (update ∷ left) =
    next_quits pace false before update.0 update.1 (write_on pace updates update.0 left)
    (on_quits pace updates update.0 left)

unlock_quits : (pace : Pace) (updates : List (ℕ × ℕ)) → Quits false (unlock pace updates)
unlock_quits pace updates =
    either_all (Quits false) give_up (λ bytes. write_on pace updates 2 updates) (close_quits false Doubt DoubtOpen tt)
    (λ bytes. on_quits pace updates 2 updates)

-- frames that write nothing and enable no unit
passive_off : (loses : ℕ → Type 0) (unit : ℕ) (told : List Exchange) (first last : Noisy) → Sent IsPassive told
    → IsOff (first.world unit) → Leads (NoisyStep false unit) loses told first last → IsOff (last.world unit)
passive_off loses unit [] first last sent off run = off_drifts unit first last run off
passive_off loses unit (x ∷ told) first last sent off run =
    off_drifts unit run.1 last run.4
    ((carry_stays run.0.world x.frame run.3.given run.1.world unit (passive_quiet x.frame sent.0 unit)
    run.3.carries).off (passive_off loses unit told first run.0 sent.1 off run.2))

walk_off : (loses : ℕ → Type 0) (unit : ℕ) (known : Bool) (plan : Plan) (outcomes : List (Option (List ℕ)))
    (told : List Exchange) (verdict : Verdict) (first last : Noisy)
    → Quits known plan → (known ≡ true → IsOff (first.world unit)) → (LeavesOpen verdict → ⊥)
    → Walk unit plan outcomes told (Finish verdict)
    → Leads (NoisyStep false unit) loses told first last → IsOff (last.world unit)
walk_off loses unit known plan [] told verdict first last quits off shut walk run =
    let drifts = subst (λ (t : List Exchange). Leads (NoisyStep false unit) loses t first last) walk.0 run in
    let ends : (known ≡ true) ⊎ LeavesOpen verdict = subst (λ (p : Plan). Quits known p) walk.1 quits in
    elim ends [
      | inl is ↦ off_drifts unit first last drifts (off is)
      | inr leaves ↦ absurd (shut leaves)
    ]
walk_off loses unit known (Finish end) (outcome ∷ outcomes) told verdict first last quits off shut walk run =
    absurd walk.3
walk_off loses unit known (Make (ReadFrom block) after) (None ∷ outcomes) told verdict first last quits off shut walk
    run =
    let parts = split_noisy false loses unit walk.0 walk.1 first last
    (subst (λ (t : List Exchange). Leads (NoisyStep false unit) loses t first last) walk.2 run) in
    let calm = access_sent (IsCalm unit) (each_try (block_requests unit block)) None walk.1
    (λ misses. block_calm unit block) walk.3 in
    walk_off loses unit known (after None) outcomes walk.0 verdict parts.0 last quits.1
    (λ is. passive_off loses unit walk.1 first parts.0 (calm_passive unit walk.1 calm) (off is) parts.1) shut walk.4
    parts.2
walk_off loses unit known (Make (ReadFrom block) after) (Some bytes ∷ outcomes) told verdict first last quits off
    shut walk run =
    let parts = split_noisy false loses unit walk.0 walk.1 first last
    (subst (λ (t : List Exchange). Leads (NoisyStep false unit) loses t first last) walk.2 run) in
    let now = access_off loses unit block (Some bytes) bytes walk.1 first parts.0 quits.0 refl walk.3 parts.1 in
    walk_off loses unit true (after (Some bytes)) outcomes walk.0 verdict parts.0 last (quits.2 bytes) (λ is. now) shut
    walk.4 parts.2
walk_off loses unit known (Make (WriteTo location byte) after) (outcome ∷ outcomes) told verdict first last quits off
    shut walk run =
    let parts = split_noisy false loses unit walk.0 walk.1 first last
    (subst (λ (t : List Exchange). Leads (NoisyStep false unit) loses t first last) walk.2 run) in
    walk_off loses unit false (after outcome) outcomes walk.0 verdict parts.0 last (quits outcome)
    (λ is. absurd (both_ways false refl is)) shut walk.4 parts.2
walk_off loses unit known (Make (WriteOn before location byte) after) (outcome ∷ outcomes) told verdict first last
    quits off shut walk run =
    let parts = split_noisy false loses unit walk.0 walk.1 first last
    (subst (λ (t : List Exchange). Leads (NoisyStep false unit) loses t first last) walk.2 run) in
    walk_off loses unit false (after outcome) outcomes walk.0 verdict parts.0 last (quits outcome)
    (λ is. absurd (both_ways false refl is)) shut walk.4 parts.2

pub opened_off : (loses : ℕ → Type 0) (told : List Exchange) (first last : Noisy) (unit : ℕ) (pace : Pace)
    (updates : List (ℕ × ℕ)) (verdict : Verdict)
    → Leads (NoisyStep false unit) loses told first last → Wants unit (unlock pace updates) told (Ended verdict)
    → (LeavesOpen verdict → ⊥) → IsOff (last.world unit)
opened_off loses told first last unit pace updates verdict run wants shut =
    let walk = ended_walk unit (unlock pace updates) told verdict wants in
    walk_off loses unit false (unlock pace updates) walk.0 told verdict first last (unlock_quits pace updates)
    (λ is. absurd (both_ways false refl is)) shut walk.1 run

pub closing_off : (loses : ℕ → Type 0) (told : List Exchange) (first last : Noisy) (unit : ℕ)
    → Leads (NoisyStep false unit) loses told first last → Wants unit (close Closed NotClosed) told (Ended Closed)
    → IsOff (last.world unit)
closing_off loses told first last unit run wants =
    let walk = ended_walk unit (close Closed NotClosed) told Closed wants in
    walk_off loses unit false (close Closed NotClosed) walk.0 told Closed first last
    (close_quits false Closed NotClosed tt) (λ is. absurd (both_ways false refl is)) (λ never. never) walk.1 run

-- The bytes in the unit

-- the byte is there, or is that of a lock byte since the unit lost its power
abbrev Holds : (ℕ → Type 0) → ℕ → Noisy → ℕ → ℕ → Type 0
Holds loses unit state location byte =
    MayRelock (loses unit) 1 location (Some byte) (byte_at state.world unit 1 location)

-- a byte that is written no more stays there
holds_on : {loses : ℕ → Type 0} (writes : List (ℕ × ℕ)) (unit location byte : ℕ) (first last : Noisy)
    → location ≢ 1 → Holds loses unit first location byte → Touches loses writes unit first.world last.world
    → ((other : ℕ) → Has writes location other → ⊥) → Holds loses unit last location byte
holds_on writes unit location byte first last above holds touches no_more =
    elim (touches.here 1 location) [
      | inl old ↦
          relock_then (Some byte) (byte_at first.world unit 1 location) (byte_at last.world unit 1 location) holds old
      | inr (inl (other, bank, has, there, is)) ↦ absurd (no_more other has)
      | inr (inr (is, there)) ↦ absurd (above is.1)
    ]

-- so does what is written with the same byte alone
same_on : {loses : ℕ → Type 0} (writes : List (ℕ × ℕ)) (unit location byte : ℕ) (first last : Noisy)
    → location ≢ 1 → Holds loses unit first location byte → Touches loses writes unit first.world last.world
    → ((other : ℕ) → Has writes location other → other ≡ byte) → Holds loses unit last location byte
same_on writes unit location byte first last above holds touches same =
    elim (touches.here 1 location) [
      | inl old ↦
          relock_then (Some byte) (byte_at first.world unit 1 location) (byte_at last.world unit 1 location) holds old
      | inr (inl (other, bank, has, there, is)) ↦ inl (is ∙ ap Some (same other has))
      | inr (inr (is, there)) ↦ absurd (above is.1)
    ]

lock_alone : (other : ℕ) → Has ((2, 0xFF) ∷ []) 2 other → other ≡ 0xFF
lock_alone other (inl here) = sym here.1
lock_alone other (inr never) = absurd never

-- the lock byte, and locations above
no_other : (bound : ℕ) (left : List (ℕ × ℕ)) (other : ℕ) → 2 < bound → RisesAbove bound left
    → Has ((2, 0xFF) ∷ left) bound other → ⊥
no_other bound left other above rises (inl here) = let two = here.0 in omega arith
no_other bound left other above rises (inr later) = let more = has_above bound left bound other rises later in omega
    arith

-- the write just made
next_has_written : (loses : ℕ → Type 0) (pace : Pace) (before location byte unit : ℕ) (bytes : List ℕ) (last : Noisy)
    → Leaves loses (write_next pace before location byte) (Some bytes) unit last
    → HasWritten loses location byte unit last
next_has_written loses Checked before location byte unit bytes last leaves = leaves
next_has_written loses Short before location byte unit bytes last leaves = leaves

-- all that was to be written is there
pub record AllStands (loses : ℕ → Type 0) (left : List (ℕ × ℕ)) (unit : ℕ) (last : Noisy) : Type 0 where
  pub updates : AllByRecursion (λ update. Holds loses unit last update.0 update.1) left
  pub lock : Holds loses unit last 2 0xFF

-- with fewer writes
fewer : (unit : ℕ) (pace : Pace) (updates : List (ℕ × ℕ)) (writes : List (ℕ × ℕ)) (before : ℕ) (left : List (ℕ × ℕ))
    (state : Noisy)
    → MayGoOn false writes unit (write_on pace updates before left) state
    → MayGoOn false ((2, 0xFF) ∷ left) unit (write_on pace updates before left) state
fewer unit pace updates writes before left state may =
    record {
      last = may.last;
      turn = may.turn;
      stood = may.stood;
      kind = inl refl;
      only = may.only;
      writes_are = write_on_writes ((2, 0xFF) ∷ left) pace updates before left (inl (refl, refl))
          (λ location byte has. inr has);
    }

stands_on : (loses : ℕ → Type 0) (unit : ℕ) (pace : Pace) (updates : List (ℕ × ℕ)) (bound before : ℕ)
    (left : List (ℕ × ℕ)) (outcomes : List (Option (List ℕ))) (told : List Exchange) (first last : Noisy)
    → 2 ≤ bound → RisesAbove bound left
    → MayGoOn false ((2, 0xFF) ∷ left) unit (write_on pace updates before left) first
    → Walk unit (write_on pace updates before left) outcomes told (Finish Done)
    → Leads (NoisyStep false unit) loses told first last → AllStands loses left unit last
stands_on loses unit pace updates bound before [] [] told first last above rises may walk run =
    let never = walk.1 in cc
stands_on loses unit pace updates bound before [] (None ∷ outcomes) told first last above rises may walk run =
    absurd (never_done unit outcomes walk.0 walk.4)
stands_on loses unit pace updates bound before [] (Some bytes ∷ outcomes) told first last above rises may walk run =
    let access = write_next pace before 2 0xFF in
    let after : Option (List ℕ) → Plan = either_way give_up (λ bytes. read_all_back pace updates) in
    let writes : List (ℕ × ℕ) = (2, 0xFF) ∷ [] in
    let parts = split_noisy false loses unit walk.0 walk.1 first last
    (subst (λ (t : List Exchange). Leads (NoisyStep false unit) loses t first last) walk.2 run) in
    let ended = access_ended false loses writes unit access after (Some bytes) walk.1 first parts.0 may.writes_are
    (begins_of writes unit access after first may) walk.3 parts.1 in
    let on = goes_on false loses writes unit access after (Some bytes) first parts.0 may ended in
    let rest = walk_touches false loses writes unit (read_all_back pace updates) outcomes walk.0 (Finish Done)
    parts.0 last on
    walk.4 parts.2 in
    let stored_it = next_has_written loses pace before 2 0xFF unit bytes parts.0 (ended.leaves refl) in
    let not_one : 2 ≢ 1 = λ is. let never : ⊥ = omega (arith, is) in never in
    record {
      updates = tt;
      lock = same_on writes unit 2 0xFF parts.0 last not_one (stored_it.byte_is not_one) rest.touches lock_alone;
    }
stands_on loses unit pace updates bound before (update ∷ left) [] told first last above rises may walk run =
    let never = walk.1 in cc
stands_on loses unit pace updates bound before (update ∷ left) (None ∷ outcomes) told first last above rises may walk
    run =
    absurd (never_done unit outcomes walk.0 walk.4)
stands_on loses unit pace updates bound before (update ∷ left) (Some bytes ∷ outcomes) told first last above rises
    may walk run =
    let access = write_next pace before update.0 update.1 in
    let after : Option (List ℕ) → Plan = either_way give_up (λ bytes. write_on pace updates update.0 left) in
    let writes : List (ℕ × ℕ) = (2, 0xFF) ∷ update ∷ left in
    let parts = split_noisy false loses unit walk.0 walk.1 first last
    (subst (λ (t : List Exchange). Leads (NoisyStep false unit) loses t first last) walk.2 run) in
    let ended = access_ended false loses writes unit access after (Some bytes) walk.1 first parts.0 may.writes_are
    (begins_of writes unit access after first may) walk.3 parts.1 in
    let on = fewer unit pace updates writes update.0 left parts.0
    (goes_on false loses writes unit access after (Some bytes) first parts.0 may ended) in
    let rest = walk_touches false loses ((2, 0xFF) ∷ left) unit (write_on pace updates update.0 left) outcomes walk.0
    (Finish Done) parts.0 last on walk.4 parts.2 in
    let stored_it = next_has_written loses pace before update.0 update.1 unit bytes parts.0 (ended.leaves refl) in
    let high : 2 < update.0 = omega (arith, rises.0) in
    let not_one : update.0 ≢ 1 = λ is. let never : ⊥ = omega (arith, is) in never in
    let all = stands_on loses unit pace updates update.0 update.0 left outcomes walk.0 parts.0 last (omega arith)
    rises.1
    on walk.4 parts.2 in
    record {
      updates = (
        holds_on ((2, 0xFF) ∷ left) unit update.0 update.1 parts.0 last not_one (stored_it.byte_is not_one) rest.touches
            (λ other. no_other update.0 left other high rises.1),
        all.updates,
      );
      lock = all.lock;
    }

-- the unit shows the byte that is there
there_shows : {loses : ℕ → Type 0} (world : World) (unit location byte : ℕ) (gear : Option Gear) → world unit ≡ gear
    → MayRelock (loses unit) 1 location (Some byte) (byte_in gear 1 location) → IsOff gear
    → Shows loses world unit location byte
there_shows world unit location byte None is (inl none) off = cc
there_shows world unit location byte None is (inr (lost, above, lock, none)) off = cc
there_shows world unit location byte (Some gear) is holds off =
    record { gear = gear; is = is; byte_is = holds; off = off }

all_show : (loses : ℕ → Type 0) (unit : ℕ) (last : Noisy) (updates : List (ℕ × ℕ)) → IsOff (last.world unit)
    → AllByRecursion (λ update. Holds loses unit last update.0 update.1) updates
    → AllByRecursion (λ update. Shows loses last.world unit update.0 update.1) updates
all_show loses unit last [] off all = tt
all_show loses unit last (update ∷ updates) off all = (
  there_shows last.world unit update.0 update.1 (last.world unit) refl all.0 off,
  all_show loses unit last updates off all.1,
)

pub noisy_done : (loses : ℕ → Type 0) (told : List Exchange) (first last : Noisy) (unit : ℕ) (pace : Pace)
    (updates : List (ℕ × ℕ))
    → RisesAbove 2 updates → OnlyEnabled unit first.world → Leads (NoisyStep false unit) loses told first last
    → Wants unit (unlock pace updates) told (Ended Done) → IsWritten (Shows loses last.world unit) updates
noisy_done loses told first last unit pace updates rises only run wants =
    let walk = ended_walk unit (unlock pace updates) told Done wants in
    by walk.0 walk.1
  where
    by : (outcomes : List (Option (List ℕ))) → Walk unit (unlock pace updates) outcomes told (Finish Done)
        → IsWritten (Shows loses last.world unit) updates
    by [] walk = let never = walk.1 in cc
    by (None ∷ outcomes) walk = absurd (never_done unit outcomes walk.0 walk.4)
    by (Some bytes ∷ outcomes) walk =
        let writes = writes_of updates in
        let after : Option (List ℕ) → Plan = either_way give_up (λ bytes. write_on pace updates 2 updates) in
        let may = unlock_may false unit pace updates first (λ never. absurd (both_ways false refl never)) only in
        let parts = split_noisy false loses unit walk.0 walk.1 first last
        (subst (λ (t : List Exchange). Leads (NoisyStep false unit) loses t first last) walk.2 run) in
        let ended = access_ended false loses writes unit (WriteTo 2 0x55) after (Some bytes) walk.1 first parts.0
        may.writes_are (begins_of writes unit (WriteTo 2 0x55) after first may) walk.3 parts.1 in
        let on = fewer unit pace updates writes 2 updates parts.0
        (goes_on false loses writes unit (WriteTo 2 0x55) after (Some bytes) first parts.0 may ended) in
        let all = stands_on loses unit pace updates 2 2 updates outcomes walk.0 parts.0 last (omega arith) rises on
        walk.4
        parts.2 in
        let off = opened_off loses told first last unit pace updates Done run wants (λ never. never) in (
          there_shows last.world unit 2 0xFF (last.world unit) refl all.lock off,
          all_show loses unit last updates off all.updates,
        )
