use Rattle.dali_write.proofs.RunLemmas.{leads_of}
use Rattle.dali_write.specs.Worlds.{IsAmong}
use Rattle.dali_read.specs.Places.{order_course}
use Rattle.dali_read.specs.Shown.{WhenTold}
use Rattle.dali_read.proofs.CourseLemmas.{bank_read, order_place, order_follows}
use Rattle.dali_read.proofs.FindLemmas.{found_so}
use Rattle.dali_read.proofs.InBlockLemmas.{read_tells, when_told}
use Rattle.dali_drive.proofs.laws.what_is_read_was_there.Goals as goal

pub returns-clause-bank : goal.returns-clause-bank
returns-clause-bank g = λ loses unit bytes first last read begun ended run.
    let bank = bank_read read.told unit bytes read.ends in
    record {
      last = bank.last;
      names = bank.names;
      count = bank.count;
      bytes_are = λ location byte is.
          when_told read.told begun ended unit location byte (bank.bytes_are location byte is)
          (leads_of read.told begun ended run);
    }

pub returns-clause-order : goal.returns-clause-order
returns-clause-order g = λ loses unit updates bytes finding first last read begun ended found run.
    let tells =
    read_tells (order_place updates) unit (order_course updates) bytes read.told (order_follows updates) read.ends in
    found_so (WhenTold (IsAmong loses) read.told begun ended unit) updates bytes finding
    (λ index location byte place is.
    when_told read.told begun ended unit location byte (tells index location byte place is)
    (leads_of read.told begun ended run)) found
