use Rattle.std.proofs.Common.{inl, inr, ◌∷◌}
use Rattle.dali_write.specs.Reads.{IsPassive}
use Rattle.dali_write.proofs.RunLemmas.{leads_of}
use Rattle.dali_read.proofs.QuietLemmas.{ends_sent, blocks_passive, sent_keeps, broken_keeps}
use Rattle.dali_drive.proofs.laws.what_is_read_stays.Goals as goal

pub returns-clause-ended : goal.returns-clause-ended
returns-clause-ended g = λ loses unit course outcome first last read begun ended run.
    sent_keeps read.told begun ended (leads_of read.told begun ended run)
    (ends_sent IsPassive unit (blocks_passive unit) course outcome read.told read.ends)

pub returns-clause-broken : goal.returns-clause-broken
returns-clause-broken g = λ loses unit course fault first last broke answer begun ended run.
    broken_keeps broke.told begun ended unit course broke.frame answer broke.reading (elim run [
      | inl short ↦ inl (leads_of broke.told begun ended short)
      | inr long ↦ inr (leads_of (record { frame = broke.frame; answer = answer } ∷ broke.told) begun ended long)
    ])
