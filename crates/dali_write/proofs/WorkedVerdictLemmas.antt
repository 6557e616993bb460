-- With which verdicts each kind of session may end: these, and no others.
use Rattle.std.proofs.Common.{◌≡◌, ◌⊎◌, inl, inr, refl}
use Rattle.dali_write.specs.declared.ask.Verdict.{Verdict}
use Rattle.dali_write.specs.declared.ask.Verdict.TheVariants.{MayOpen, Done, Short, Format, Silent, Doubt, DoubtOpen}
use Rattle.dali_write.specs.declared.ask.Verdict.TheVariants.{Closed, NotClosed, Read}
use Rattle.dali_write.specs.Verdicts.{EndsFresh, EndsOpened, EndsClosing, EndsReading}

pub fresh_may : EndsFresh MayOpen × EndsFresh Short × EndsFresh Format × EndsFresh Silent
fresh_may = (tt, tt, tt, tt)

pub fresh_is : (verdict : Verdict) → EndsFresh verdict
    → (verdict ≡ MayOpen) ⊎ (verdict ≡ Short) ⊎ (verdict ≡ Format) ⊎ (verdict ≡ Silent)
fresh_is MayOpen ends = inl refl
fresh_is Short ends = inr (inl refl)
fresh_is Format ends = inr (inr (inl refl))
fresh_is Silent ends = inr (inr (inr refl))
fresh_is _ ends = absurd ends

pub opened_may : EndsOpened Done × EndsOpened Doubt × EndsOpened DoubtOpen
opened_may = (tt, tt, tt)

pub opened_is : (verdict : Verdict) → EndsOpened verdict
    → (verdict ≡ Done) ⊎ (verdict ≡ Doubt) ⊎ (verdict ≡ DoubtOpen)
opened_is Done ends = inl refl
opened_is Doubt ends = inr (inl refl)
opened_is DoubtOpen ends = inr (inr refl)
opened_is _ ends = absurd ends

pub closing_may : EndsClosing Closed × EndsClosing NotClosed
closing_may = (tt, tt)

pub closing_is : (verdict : Verdict) → EndsClosing verdict → (verdict ≡ Closed) ⊎ (verdict ≡ NotClosed)
closing_is Closed ends = inl refl
closing_is NotClosed ends = inr refl
closing_is _ ends = absurd ends

pub reading_may : EndsReading Read × EndsReading Silent
reading_may = (tt, tt)

pub reading_is : (verdict : Verdict) → EndsReading verdict → (verdict ≡ Read) ⊎ (verdict ≡ Silent)
reading_is Read ends = inl refl
reading_is Silent ends = inr refl
reading_is _ ends = absurd ends
