-- The result of comparing an order.
use Rattle.std.specs.Prelude.{ℕ, List, Option}
use Rattle.dali_bank.specs.Order.{Contents}
use Rattle.dali_read.specs.declared.finding.Finding.{Finding}

-- the order, how its unit compares with it, and all bytes that were read for it: nothing of a silent unit
pub record Found : Type 0 where
  pub order : Contents
  pub finding : Option Finding
  pub bytes : List ℕ

abbrev pub was_found : Contents → Option Finding → List ℕ → Found
was_found order finding bytes = record { order = order; finding = finding; bytes = bytes }
