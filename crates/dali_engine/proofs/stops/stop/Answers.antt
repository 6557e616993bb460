use Rattle.std.proofs.Common.{inl, inr, refl, sym, subst, ◌∷◌}
use Rattle.dali_trace.specs.declared.happening.Happening.TheVariants.{Kept}
use Rattle.dali_engine.specs.WriterState.{WriterState}
use Rattle.dali_engine.specs.Describes.{Describes}
use Rattle.dali_engine.specs.Follows.{Follows}
use Rattle.dali_engine.proofs.StopLemmas.{cut_of_none}
use Rattle.dali_engine.proofs.stops.stop.Goals as goal

pub begin_anew-requires : goal.begin_anew-requires
begin_anew-requires c = cut_of_none

pub returns-in-Ok : goal.returns-in-Ok
returns-in-Ok c =
    let pace = c.in-Some.ensures.pace in
    record {
      described = λ start past d.
          rw (← pace) (c.in-Ok.ensures.described start (Kept c.in-Some.entry ∷ past)
          (c.in-Some.ensures.described start past d));
      follows = λ start past d f.
          rw (← pace) (c.in-Ok.ensures.follows start (Kept c.in-Some.entry ∷ past)
          (c.in-Some.ensures.follows start past d f));
      part = λ start past d f.
          let next = c.in-Some.ensures.next start past d f c.in-Some.entry in
          inr (c.in-Some.entry, next.0 c.in-Some.ensures.wanted, c.in-Some.ensures.few, rw d.pace refl);
    }

pub returns-in-Ok-cut_off : goal.returns-in-Ok-cut_off
returns-in-Ok-cut_off c =
    let same = c.in-None.ensures.same refl in
    let pace = c.in-None.ensures.pace in
    record {
      described = λ start past d.
          rw (← pace) (c.in-Ok-cut_off.ensures.described start past
          (subst (λ (w : WriterState). Describes start past w) (sym same) d));
      follows = λ start past d f.
          rw (← pace) (c.in-Ok-cut_off.ensures.follows start past
          (subst (λ (w : WriterState). Follows start past w) (sym same) f));
      part = λ start past d f.
          inl (
            rw d.pace refl,
            λ entry next.
                c.in-None.ensures.cut refl entry ((c.in-None.ensures.next start past d f entry).1 next),
          );
    }
