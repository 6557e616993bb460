-- The byte that a read told was there when it was read, and its unit kept its power until the last answer.
use Rattle.std.proofs.Common.{sym, ap, subst, inl, inr, ℕ, List, [], ◌∷◌}
use Rattle.dali_bus.specs.World.{World}
use Rattle.dali_write.specs.Exchanges.{Exchange}
use Rattle.dali_write.specs.Reads.{StillRead}
use Rattle.dali_write.specs.WhenBlock.{WhenBlock, WhenTold}
use Rattle.dali_write.proofs.BlockLemmas.{when_block}
use Rattle.dali_write.proofs.RunLemmas.{leads_of, run_of, Leads}
use Rattle.dali_bus.specs.Carry.{WorldStep}

pub when_told : {loses : ℕ → Type 0} (told : List Exchange) (first last : World) (unit location byte : ℕ)
    → Leads WorldStep loses told first last → StillRead told unit location byte
    → WhenTold loses told first last unit location byte
when_told [] first last unit location byte run still = absurd still
when_told {loses} (x ∷ told) first last unit location byte run (inl ends) =
    let t = ends.3 in
    record {
      block = t.block;
      bytes = t.bytes;
      index = t.index;
      place = t.place;
      there = t.there;
      when = subst (λ (l : List Exchange). WhenBlock loses l first last unit t.block t.bytes) (sym ends.2)
          (when_block [] ends.0 ends.1 first last unit t.block t.bytes
          (subst (λ (l : List Exchange). Leads WorldStep loses l first last) ends.2 run) t.read);
    }
when_told {loses} (x ∷ told) first last unit location byte run (inr (passive, still)) =
    let t = when_told told first run.0 unit location byte run.2 still in
    let w = t.when in
    let behind : Leads WorldStep loses (x ∷ w.newer) w.answered last =
    (run.0, run.1, leads_of w.newer w.answered run.0 w.behind, run.3, run.4) in
    record {
      block = t.block;
      bytes = t.bytes;
      index = t.index;
      place = t.place;
      there = t.there;
      when = record {
        newer = x ∷ w.newer;
        back = w.back;
        each = w.each;
        middle = w.middle;
        two = w.two;
        older = w.older;
        parts = ap (λ (l : List Exchange). x ∷ l) w.parts;
        read = w.read;
        counts = w.counts;
        bytes_are = w.bytes_are;
        begun = w.begun;
        asked = w.asked;
        selected = w.selected;
        moved = w.moved;
        answered = w.answered;
        before = w.before;
        asking = w.asking;
        selecting = w.selecting;
        reading = w.reading;
        asking_back = w.asking_back;
        behind = run_of _ _ _ behind;
        held = w.held;
        together = w.together;
      };
    }
