use Rattle.std.proofs.Common.{◌≡◌, ◌+◌, ◌-◌, ◌≤◌, ◌++◌, length, drop}
use Rattle.dali_journal.specs.Spelling.{journal_spelling}
use Rattle.dali_journal.specs.JournalState.{AreKept, IsJournal}
use Rattle.dali_journal.proofs.journal.Journal.take_rest.Given as goal

abbrev pub invariant-records : goal.invariant-records
invariant-records l = record {
  spelled :
      journal_spelling l.version l.fn.self.records ++ l.rest
      ≡ journal_spelling l.version l.self.records ++ drop l.at l.rest;
  place : l.front + l.at ≡ length (journal_spelling l.version l.self.records);
  within : l.at ≤ length l.rest;
  journal : IsJournal l.self;
  kept : AreKept l.version l.fn.self.limit l.self.records;
  limit : l.self.limit ≡ l.fn.self.limit;
}

abbrev pub decreases-records : goal.decreases-records
decreases-records l = length l.rest - l.at
