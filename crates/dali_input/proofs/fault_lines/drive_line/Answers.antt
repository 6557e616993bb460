use Rattle.std.proofs.Common.{refl, arith}
use Rattle.std.proofs.lemmas.Fmt.{decimal_digit, decimal_step}
use Rattle.dali_input.proofs.fault_lines.drive_line.Goals as goal

pub returns-in-Journal : goal.returns-in-Journal
returns-in-Journal c = rw (c.in-Journal.is, decimal_digit 1 (omega arith)) refl

pub returns-in-Link : goal.returns-in-Link
returns-in-Link c = rw (c.in-Link.is, decimal_digit 2 (omega arith)) refl

pub returns-in-Line : goal.returns-in-Line
returns-in-Line c = rw (c.in-Line.is, decimal_digit 3 (omega arith)) refl

pub returns-in-End : goal.returns-in-End
returns-in-End c = rw (c.in-End.is, decimal_digit 4 (omega arith)) refl

pub returns-in-NoMemory : goal.returns-in-NoMemory
returns-in-NoMemory c =
    rw (c.in-NoMemory.is, decimal_step 20 (omega arith) (omega arith), decimal_digit 2 (omega arith)) refl

pub returns-in-TooLong : goal.returns-in-TooLong
returns-in-TooLong c = rw (c.in-TooLong.is, decimal_digit 6 (omega arith)) refl

pub returns-in-Out : goal.returns-in-Out
returns-in-Out c = rw (c.in-Out.is, decimal_digit 7 (omega arith)) refl
