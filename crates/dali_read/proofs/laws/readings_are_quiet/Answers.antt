use Rattle.std.proofs.Common.{inl, inr, ◌∷◌}
use Rattle.dali_write.specs.Reads.{IsPassive}
use Rattle.dali_write.proofs.RunLemmas.{leads_of}
use Rattle.dali_read.proofs.QuietLemmas.{ends_sent, blocks_passive, sent_keeps, broken_keeps, frame_calm}
use Rattle.dali_read.proofs.laws.readings_are_quiet.Goals as goal

pub returns-clause-ended : goal.returns-clause-ended
returns-clause-ended c = λ loses told first last unit course outcome run ends.
    sent_keeps told first last (leads_of told first last run)
    (ends_sent IsPassive unit (blocks_passive unit) course outcome told ends)

pub returns-clause-broken : goal.returns-clause-broken
returns-clause-broken c = λ loses told first last unit course frame answer reading run.
    broken_keeps told first last unit course frame answer reading (elim run [
      | inl short ↦ inl (leads_of told first last short)
      | inr long ↦ inr (leads_of (record { frame = frame; answer = answer } ∷ told) first last long)
    ])

pub returns-clause-frames : goal.returns-clause-frames
returns-clause-frames c = frame_calm

pub returns-clause-sent : goal.returns-clause-sent
returns-clause-sent c = λ told unit course outcome ends.
    ends_sent IsPassive unit (blocks_passive unit) course outcome told ends
