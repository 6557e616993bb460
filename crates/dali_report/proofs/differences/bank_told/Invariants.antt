use Rattle.std.proofs.Common.{◌≡◌, take}
use Rattle.dali_bank.specs.Blank.{blank_bank}
use Rattle.dali_report.specs.Differences.{as_told, updated}
use Rattle.dali_report.proofs.differences.bank_told.Given as goal

abbrev pub invariant-loop-at : goal.invariant-loop-at
invariant-loop-at l = record { bank : l.bank ≡ updated (as_told (take l.at l.updates) l.told) blank_bank }
