-- When a record is kept, what it rests on is so in the world, in the words of the promises.
use Rattle.std.proofs.Common.{ℕ, List}
use Rattle.dali_bus.specs.World.{World}
use Rattle.dali_journal.specs.declared.record.Code.TheVariants.{Done, Doubt, DoubtOpen}
use Rattle.dali_journal.specs.declared.record.Record.{Record}
use Rattle.dali_journal.specs.declared.record.Record.TheVariants.{Began, Opened, Ended, Closed}
use Rattle.dali_journal.specs.declared.standing.Standing.{Standing}
use Rattle.dali_journal.specs.declared.standing.Standing.TheVariants as standings
use Rattle.dali_journal.specs.Sentence.{Allows}
use Rattle.dali_write.specs.Worlds.{IsAmong, Shows}
use Rattle.dali_trace.specs.Grounds.{Grounds}
use Rattle.dali_trace.specs.WhenKept.{Holds, IsLetGo, TellsTruth}
use Rattle.dali_laws.proofs.RecordLemmas.{shown_byte, shown_off, grounds_too}

-- the unit that a record lets go
let_go : (lost : List ℕ) (now : World) (stands : Standing) (entry : Record) → Allows stands entry
    → Grounds (Shows (IsAmong lost) now) stands entry
    → IsLetGo now stands entry
let_go lost now standings.Idle (Began order moment) allowed grounds = λ unit named none. cc
let_go lost now (standings.Began order) (Opened unit) allowed grounds = λ unit named none. cc
let_go lost now (standings.Began order) (Ended code) allowed grounds = λ unit named none. cc
let_go lost now (standings.Opened order) (Ended Done) allowed grounds = λ unit named none.
    let off = shown_off lost now order.unit 2 0xFF grounds.0 in cc
let_go lost now (standings.Opened order) (Ended Doubt) allowed grounds = λ unit named none.
    let off = shown_off lost now order.unit grounds.0 grounds.1 grounds.2 in cc
let_go lost now (standings.Opened order) (Ended DoubtOpen) allowed grounds = λ unit named none. cc
let_go lost now (standings.Left left) (Closed closed) allowed grounds = λ unit named none.
    let off = shown_off lost now left grounds.0 grounds.1 grounds.2 in cc
let_go lost now _ _ allowed grounds = absurd allowed

pub tells_truth : (lost : List ℕ) (now : World) (stands : Standing) (entry : Record) → Allows stands entry
    → Grounds (Shows (IsAmong lost) now) stands entry
    → TellsTruth lost now stands entry
tells_truth lost now stands entry allowed grounds = record {
  allowed = allowed;
  grounds =
      grounds_too (Shows (IsAmong lost) now) (Holds lost now)
      (λ unit location byte shows. shown_byte lost now unit location byte shows) stands
      entry grounds;
  let_go = let_go lost now stands entry allowed grounds;
}
