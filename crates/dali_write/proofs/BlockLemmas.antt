-- A block read tells each byte at its place, and its unit kept its power from the second frame to the last.
use Rattle.std.proofs.Common.{◌≡◌, inl, inr, refl, sym, ap, subst, ◌∙◌, ℕ, List, []}
use Rattle.std.proofs.Common.{◌∷◌, ◌++◌, length, append_assoc, Option, Some, arith}
use Rattle.std.specs.Prelude.{slice_get}
use Rattle.std.proofs.lemmas.Option.{slice_get_within}
use Rattle.dali_frame.specs.declared.forward.Frame.TheVariants.{Dtr0, AskDtr0, AskDtr1, Read}
use Rattle.dali_bus.specs.World.{World, Gear, byte_in, byte_at}
use Rattle.dali_bus.specs.Hears.{Hears, up}
use Rattle.dali_bus.specs.Carry.{Carry, WorldStep}
use Rattle.dali_write.specs.Exchanges.{Exchange}
use Rattle.dali_write.specs.Requests.{select_requests}
use Rattle.dali_write.specs.Tries.{Trying}
use Rattle.dali_write.specs.Worlds.{Shows}
use Rattle.dali_write.proofs.GearLemmas.{IsQuiet, carry_stays, carry_dtr1, dtr0_in, dtr1_in, asked1, end_steady}
use Rattle.dali_write.proofs.PowerLemmas.{shows_kept, stays_keeps, drifts_keep}
use Rattle.dali_write.proofs.TruthLemmas.{split, carried, selects_run, held_then, shown, shows_now, run_keeps}
use Rattle.dali_write.proofs.AskedLemmas.{Sent}
use Rattle.dali_write.proofs.WhenReadLemmas.{AllLeave, kept_on, leaves}
use Rattle.dali_write.proofs.RunLemmas.{leads_of, run_of, Leads, Drifts, Stays, Loses}
use Rattle.dali_write.specs.declared.block.Block.{Block}
use Rattle.dali_write.specs.Requests.{moved_on}
use Rattle.dali_write.specs.Tries.{bytes_of}
use Rattle.dali_write.specs.Blocks.{IsBlockRead}
use Rattle.dali_write.specs.WhenBlock.{AllBut, HeldAt, WhenBlock}
use Rattle.dali_write.proofs.BlockShapeLemmas.{AllReads}
use Rattle.dali_write.proofs.BlockBytesLemmas.{some_byte, bytes_next, bytes_count, one_of, front_of, told_block}

-- others lost their power: the unit is as it was
drifts_same : {loses : ℕ → Type 0} (unit : ℕ) (first last : World) → Drifts WorldStep (AllBut unit loses) first last
    → last unit ≡ first unit
drifts_same unit first last Stays = refl
drifts_same unit first last (Loses {mid = mid} at of_these drifts lost) =
    lost.others unit (λ e. of_these.1 (sym e)) ∙ drifts_same unit first mid drifts

-- a unit that answers a read of bank 1 moves DTR0 on
answers_moves : (at : ℕ) (old : Gear) (to v : ℕ) (new : Gear) → Hears at old (Read to) (Some v) new
    → (to ≡ at) × (old.dtr1 ≡ 1 → new.dtr0 ≡ up old.dtr0)
answers_moves at old to v new h = grind (arith, end_steady h.obeyed new h.ends)

-- so the unit that answered has moved on
moves_on : (old : World) (unit location byte : ℕ) (new : World) → Carry old (Read unit) (Some byte) new
    → dtr1_in (old unit) ≡ Some 1 → dtr0_in (old unit) ≡ Some location → dtr0_in (new unit) ≡ Some (up location)
moves_on old unit location byte new carry bank place = grind (arith, answers_moves, dtr0_in, dtr1_in)

-- the location that a unit has selected, if it has bank 1
abbrev pub StandsAt : Option Gear → ℕ → Type 0
StandsAt gear location = (dtr1_in gear ≡ Some 1) × (dtr0_in gear ≡ Some location)

-- after a count of reads, a unit that keeps its power has moved on by as many locations
reads_stand : (loses : ℕ → Type 0) (unit location : ℕ) (each : List Exchange) (first last : World)
    → Leads WorldStep (AllBut unit loses) each first last → AllReads unit each
    → StandsAt (first unit) location → StandsAt (last unit) (moved_on location (length each))
reads_stand loses unit location [] first last run all at = grind (arith, drifts_same)
reads_stand loses unit location (x ∷ each) first last run all at =
    grind (
      arith,
      reads_stand loses unit location each first run.0 run.2 all.2,
      some_byte x.answer all.1,
      carried,
      carry_dtr1,
      moves_on,
      drifts_same {loses = loses} unit run.1 last run.4,
    )

-- each byte that they told was at its place when its read reached the unit
reads_held : (loses : ℕ → Type 0) (unit location : ℕ) (each : List Exchange) (first last : World)
    → Leads WorldStep (AllBut unit loses) each first last → AllReads unit each
    → StandsAt (first unit) location → (index byte : ℕ) → slice_get (bytes_of each) index ≡ Some byte
    → HeldAt (AllBut unit loses) each first last unit (moved_on location index) index byte
reads_held loses unit location [] first last run all at index byte is = grind (arith, slice_get_within)
reads_held loses unit location (x ∷ each) first last run all at index byte is =
    let before = reads_stand loses unit location each first run.0 run.2 all.2 at in
    let new = some_byte x.answer all.1 in
    let carry = carried run.0 run.1 x (Read unit) (Some new.0) all.0 new.1 run.3 in
    let place = moved_on location (length each) in
    let here = subst (λ (l : List ℕ). slice_get l index ≡ Some byte) (bytes_next unit x each new.0 all.0 new.1) is in
    elim (one_of (bytes_of each) new.0 index byte here) [
      | inl earlier ↦
          let held = reads_held loses unit location each first run.0 run.2 all.2 at index byte earlier in
          let behind : Leads WorldStep (AllBut unit loses) (x ∷ held.newer) held.reached last =
          (run.0, run.1, leads_of held.newer held.reached run.0 held.behind, run.3, run.4) in
          record {
            newer = x ∷ held.newer;
            older = held.older;
            parts = ap (λ (t : List Exchange). x ∷ t) held.parts;
            index_is = held.index_is;
            reached = held.reached;
            before = held.before;
            behind = run_of _ _ _ behind;
            held = held.held;
          }
      | inr now ↦
          let count : index ≡ length each = now.0 ∙ bytes_count unit each all.2 in
          let behind : Leads WorldStep (AllBut unit loses) (x ∷ []) run.0 last = (run.0, run.1, Stays, run.3, run.4) in
          record {
            newer = x ∷ [];
            older = each;
            parts = refl;
            index_is = sym count;
            reached = run.0;
            before = run_of _ _ _ run.2;
            behind = run_of _ _ _ behind;
            held = subst (λ (i : ℕ). byte_at run.0 unit 1 (moved_on location i) ≡ Some byte) (sym count)
                (held_then run.0 unit place new.0 run.1 carry before.0 before.1 ∙ ap Some (sym now.1));
          }
    ]

-- each byte is shown at its place
abbrev pub ShowsEach : (ℕ → Type 0) → World → ℕ → ℕ → List ℕ → Type 0
ShowsEach loses world unit location bytes =
    (index byte : ℕ) → slice_get bytes index ≡ Some byte → Shows loses world unit (moved_on location index) byte

-- after a count of reads, a unit that keeps its power shows each byte that they told
reads_show : (loses : ℕ → Type 0) (unit location : ℕ) (each : List Exchange) (first last : World)
    → Leads WorldStep (AllBut unit loses) each first last → AllReads unit each
    → StandsAt (first unit) location → ShowsEach (AllBut unit loses) last unit location (bytes_of each)
reads_show loses unit location [] first last run all at index byte is = grind (arith, slice_get_within)
reads_show loses unit location (x ∷ each) first last run all at index byte is =
    let before = reads_stand loses unit location each first run.0 run.2 all.2 at in
    let new = some_byte x.answer all.1 in
    let carry = carried run.0 run.1 x (Read unit) (Some new.0) all.0 new.1 run.3 in
    let place = moved_on location (length each) in
    let here = subst (λ (l : List ℕ). slice_get l index ≡ Some byte) (bytes_next unit x each new.0 all.0 new.1) is in
    shows_kept run.1 last unit (moved_on location index) byte
    (elim (one_of (bytes_of each) new.0 index byte here) [
      | inl earlier ↦
          shows_kept run.0 run.1 unit (moved_on location index) byte
          (reads_show loses unit location each first run.0 run.2 all.2 at index byte earlier)
          (stays_keeps run.0 run.1 unit (carry_stays run.0 (Read unit) (Some new.0) run.1 unit tt carry))
      | inr now ↦
          let shown_now = shown run.0 unit place new.0 run.1 carry before.0 before.1 in
          let count : index ≡ length each = now.0 ∙ bytes_count unit each all.2 in
          subst (λ (i : ℕ). Shows (AllBut unit loses) run.1 unit (moved_on location i) byte) (sym count)
          (subst (λ (b : ℕ). Shows (AllBut unit loses) run.1 unit place b) (sym now.1)
          (shows_now run.1 unit place new.0 (run.1 unit) refl shown_now))
    ])
    (drifts_keep run.1 last run.4 unit)

-- what holds whichever units but this one lose their power
all_show : {loses : ℕ → Type 0} (world : World) (unit location byte : ℕ)
    → Shows (AllBut unit loses) world unit location byte → Shows loses world unit location byte
all_show {loses} world unit location byte shows =
    record {
      gear = shows.gear;
      is = shows.is;
      byte_is = elim shows.byte_is [
        | inl same ↦ inl same
        | inr (lost, above, lock, is) ↦ absurd (lost.1 refl)
      ];
      off = shows.off;
    }

-- of a unit that keeps its power, each byte is as it was
stood : {loses : ℕ → Type 0} (world : World) (unit location byte : ℕ)
    → Shows (AllBut unit loses) world unit location byte → byte_at world unit 1 location ≡ Some byte
stood {loses} world unit location byte shows =
    ap (λ (g : Option Gear). byte_in g 1 location) shows.is ∙ (elim shows.byte_is [
      | inl same ↦ same
      | inr (lost, above, lock, is) ↦ absurd (lost.1 refl)
    ])

-- runs that begin with losses of power
drifts_then : {loses : ℕ → Type 0} (first mid last : World) → Drifts WorldStep loses first mid
    → Drifts WorldStep loses mid last → Drifts WorldStep loses first last
drifts_then first mid last one Stays = one
drifts_then first mid last one (Loses {mid = then} at of_these drifts lost) =
    Loses at of_these (drifts_then first mid then one drifts) lost

-- one run after another
pub run_joined : (loses : ℕ → Type 0) (newer older : List Exchange) (first mid last : World)
    → Leads WorldStep loses older first mid
    → Leads WorldStep loses newer mid last → Leads WorldStep loses (newer ++ older) first last
run_joined loses [] [] first mid last one two = drifts_then first mid last one two
run_joined loses [] (x ∷ older) first mid last one two = grind (arith, drifts_then one.1 mid last one.4 two)
run_joined loses (x ∷ newer) older first mid last one two =
    (two.0, two.1, run_joined loses newer older first mid two.0 one two.2, two.3, two.4)

-- reads set no DTR1
reads_leave : (unit : ℕ) (each : List Exchange) → AllReads unit each → AllLeave each
reads_leave unit [] all = tt
reads_leave unit (x ∷ each) all = (leaves x (Read unit) all.0 tt, reads_leave unit each all.2)

-- a block read with exchanges before it
when_just_block : (loses : ℕ → Type 0) (tried older : List Exchange) (first begun last : World) (unit : ℕ)
    (block : Block) (bytes : List ℕ)
    → Leads WorldStep loses older first begun → Leads WorldStep loses tried begun last
    → IsBlockRead unit block bytes tried
    → WhenBlock loses (tried ++ older) first last unit block bytes × ShowsEach loses last unit block.location bytes
when_just_block loses tried older first begun last unit block bytes before run read =
    let location = block.location in
    let t = told_block unit block bytes tried read in
    let s = t.was in
    let four = t.four in
    let front = front_of four in
    let back : List Exchange = s.y2 ∷ s.y1 ∷ [] in
    let r2 = subst (λ (t : List Exchange). Leads WorldStep loses t begun last) t.whole run in
    let r1 = r2.2 in
    let q = split loses s.each front begun r1.0 r1.2 in
    let f4 = q.1 in
    let f3 = f4.2 in
    let f2 = f3.2 in
    let c2 = carried r2.0 r2.1 s.y2 (AskDtr1 unit) (Some 1) s.got2.frame_is s.got2.meets r2.3 in
    let later : Leads WorldStep loses (s.y2 ∷ s.y1 ∷ s.each) q.0 r2.1 =
    (r2.0, r2.1, (r1.0, r1.1, q.2, r1.3, r1.4), r2.3, Stays) in
    let all_leave : AllLeave (s.y2 ∷ s.y1 ∷ s.each) = (
      leaves s.y2 (AskDtr1 unit) s.got2.frame_is tt,
      (leaves s.y1 (AskDtr0 unit) s.got1.frame_is tt, reads_leave unit s.each s.all),
    ) in
    let kept =
    kept_on loses unit (s.y2 ∷ s.y1 ∷ s.each) q.0 r2.1 all_leave later (asked1 r2.0 unit 1 r2.1 c2) in
    let middle : Leads WorldStep loses (four.x4 ∷ four.x3 ∷ []) f2.1 q.0 =
    (f4.0, f4.1, (f3.0, f3.1, f2.4, f3.3, f3.4), f4.3, f4.4) in
    let both_leave : AllLeave (four.x4 ∷ four.x3 ∷ []) = (
      leaves four.x4 (AskDtr0 unit) four.got4.frame_is tt,
      (leaves four.x3 (Dtr0 location) four.got3.frame_is tt, tt),
    ) in
    let selecting = kept_on loses unit (four.x4 ∷ four.x3 ∷ []) f2.1 q.0 both_leave middle kept.1 in
    let selects = subst (λ (t : List Exchange). Trying (select_requests unit location) t []) four.is s.selects in
    let place = (selects_run loses unit location front begun q.0 q.1 selects).1 kept.1 in
    let k2 = kept.0 in
    let k1 = k2.2 in
    let asking : Leads WorldStep loses (four.x2 ∷ four.x1 ∷ []) begun f2.1 = (f2.0, f2.1, f2.2, f2.3, Stays) in
    let asking_back : Leads WorldStep (AllBut unit loses) back k1.0 r2.1 =
    (k2.0, k2.1, (k1.0, k1.1, Stays, k1.3, k1.4), k2.3, k2.4) in
    let behind : Leads WorldStep loses [] r2.1 last = r2.4 in
    let quiet : Sent (IsQuiet unit) back = (
      subst (IsQuiet unit) (sym s.got2.frame_is) tt,
      (subst (IsQuiet unit) (sym s.got1.frame_is) tt, tt),
    ) in
    let told_by : (index byte : ℕ) → slice_get bytes index ≡ Some byte → slice_get (bytes_of s.each) index ≡ Some byte =
    λ index byte is. subst (λ (l : List ℕ). slice_get l index ≡ Some byte) (sym t.bytes_are) is in
    let shown_then : ShowsEach (AllBut unit loses) r2.1 unit location bytes = λ index byte is.
    shows_kept k1.0 r2.1 unit (moved_on location index) byte
    (reads_show loses unit location s.each q.0 k1.0 k1.2 s.all (kept.1, place) index byte
    (told_by index byte is))
    (run_keeps back k1.0 r2.1 unit quiet asking_back) in (
      record {
        newer = [];
        back = back;
        each = s.each;
        middle = four.x4 ∷ four.x3 ∷ [];
        two = four.x2 ∷ four.x1 ∷ [];
        older = older;
        parts = ap (λ (t : List Exchange). t ++ older) t.whole;
        read = subst (λ (t : List Exchange). IsBlockRead unit block bytes t) t.whole read;
        counts = (refl, s.count_is, refl, refl);
        bytes_are = t.bytes_are;
        begun = begun;
        asked = f2.1;
        selected = q.0;
        moved = k1.0;
        answered = r2.1;
        before = run_of _ _ _ before;
        asking = run_of _ _ _ asking;
        selecting = run_of _ _ _ selecting.0;
        reading = run_of _ _ _ k1.2;
        asking_back = run_of _ _ _ asking_back;
        behind = run_of _ _ _ behind;
        held = λ index byte is. reads_held loses unit location s.each q.0 k1.0 k1.2 s.all (kept.1, place) index
            byte (told_by index byte is);
        together = λ index byte is. stood r2.1 unit (moved_on location index) byte (shown_then index byte is);
      },
      λ index byte is.
          shows_kept r2.1 last unit (moved_on location index) byte
          (all_show r2.1 unit (moved_on location index) byte (shown_then index byte is))
          (drifts_keep r2.1 last r2.4 unit),
    )

-- and with exchanges after it
pub when_block : {loses : ℕ → Type 0} (newer tried older : List Exchange) (first last : World) (unit : ℕ)
    (block : Block) (bytes : List ℕ)
    → Leads WorldStep loses (newer ++ (tried ++ older)) first last → IsBlockRead unit block bytes tried
    → WhenBlock loses (newer ++ (tried ++ older)) first last unit block bytes
when_block {loses} newer tried older first last unit block bytes run read =
    let p = split loses newer (tried ++ older) first last run in
    let q = split loses tried older first p.0 p.1 in
    let w = (when_just_block loses tried older first q.0 p.0 unit block bytes q.1 q.2 read).0 in
    let behind =
    run_joined loses newer w.newer w.answered p.0 last (leads_of w.newer w.answered p.0 w.behind) p.2 in
    let rest : List Exchange = (w.back ++ (w.each ++ (w.middle ++ w.two))) ++ w.older in
    let told : List Exchange = w.newer ++ rest in
    let whole : List Exchange = (newer ++ w.newer) ++ rest in
    record {
      newer = newer ++ w.newer;
      back = w.back;
      each = w.each;
      middle = w.middle;
      two = w.two;
      older = w.older;
      parts = ◌∙◌ {b = newer ++ told} {c = whole} (ap (λ (t : List Exchange). newer ++ t) {y = told} w.parts)
          (sym {a = whole} {b = newer ++ told} (append_assoc newer w.newer rest));
      read = w.read;
      counts = w.counts;
      bytes_are = w.bytes_are;
      begun = w.begun;
      asked = w.asked;
      selected = w.selected;
      moved = w.moved;
      answered = w.answered;
      before = w.before;
      asking = w.asking;
      selecting = w.selecting;
      reading = w.reading;
      asking_back = w.asking_back;
      behind = run_of _ _ _ behind;
      held = w.held;
      together = w.together;
    }

-- a block read shows its bytes
pub block_true : {loses : ℕ → Type 0} (tried : List Exchange) (first last : World) (unit : ℕ) (block : Block)
    (bytes : List ℕ)
    → Leads WorldStep loses tried first last → IsBlockRead unit block bytes tried
    → (index byte : ℕ) → slice_get bytes index ≡ Some byte → Shows loses last unit (moved_on block.location index) byte
block_true {loses} tried first last unit block bytes run read index byte is =
    (when_just_block loses tried [] first first last unit block bytes Stays run read).1 index byte is
