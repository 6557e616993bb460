use Rattle.std.proofs.Common.{arith}
use Rattle.dali_write.specs.Plans.{rows_of, read_backs}
use Rattle.dali_write.proofs.RowLemmas.{rows_count, rows_frames_are, rows_alone}
use Rattle.dali_write.proofs.ExactLemmas.{writes_checked, writes_short}
use Rattle.dali_write.proofs.laws.counts_are_these.Goals as goal

pub returns-clause-done : goal.returns-clause-done
returns-clause-done c updates =
    let all = read_backs updates in
    omega (arith, writes_checked 2 updates, rows_frames_are (rows_of 1 all), rows_count 1 all, rows_alone all)

pub returns-clause-done_short : goal.returns-clause-done_short
returns-clause-done_short c updates =
    let all = read_backs updates in
    omega (arith, writes_short 2 updates, rows_frames_are (rows_of 16 all), rows_count 16 all)
