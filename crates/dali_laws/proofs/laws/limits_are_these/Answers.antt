use Rattle.std.proofs.Common.{arith}
use Rattle.std.proofs.lemmas.Bool.{lt-ltb, le-ltb}
use Rattle.dali_write.specs.Plans.{greatest, rows_of, read_backs}
use Rattle.dali_write.proofs.RowLemmas.{rows_count, rows_frames_are, rows_alone}
use Rattle.dali_write.proofs.ExactLemmas.{writes_checked, writes_short}
use Rattle.dali_laws.proofs.laws.limits_are_these.Goals as goal

pub returns-clause-low : goal.returns-clause-low
returns-clause-low c updates below =
    let all = read_backs updates in
    rw (lt-ltb (greatest updates) 0x13 below)
    (omega (arith, writes_checked 2 updates, rows_frames_are (rows_of 1 all), rows_count 1 all, rows_alone all))

pub returns-clause-high : goal.returns-clause-high
returns-clause-high c updates high =
    let all = read_backs updates in
    rw (le-ltb (greatest updates) 0x13 high)
    (omega (arith, writes_checked 2 updates, rows_frames_are (rows_of 1 all), rows_count 1 all, rows_alone all))

pub returns-clause-low_short : goal.returns-clause-low_short
returns-clause-low_short c updates below =
    let all = read_backs updates in
    rw (lt-ltb (greatest updates) 0x13 below) (omega
    (arith, writes_short 2 updates, rows_frames_are (rows_of 16 all), rows_count 16 all))

pub returns-clause-high_short : goal.returns-clause-high_short
returns-clause-high_short c updates high =
    let all = read_backs updates in
    rw (le-ltb (greatest updates) 0x13 high) (omega
    (arith, writes_short 2 updates, rows_frames_are (rows_of 16 all), rows_count 16 all))
