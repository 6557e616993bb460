use Rattle.std.proofs.Common.{arith}
use Rattle.dali_read.proofs.FindingLemmas.{no_updates, first_is_own, first_is_other}
use Rattle.dali_read.proofs.finding.+first_other.Goals as goal

pub returns-in_default : goal.returns-in_default
returns-in_default t c = no_updates c.args.updates.now c.args.bytes.now (omega (arith, c.in_default.len_below))

pub returns-then-byte-own : goal.returns-then-byte-own
returns-then-byte-own t c =
    first_is_own c.args.updates.now c.args.bytes.now c.first_other.result c.in-len1-up.len_at_least
    c.in-len1-up-bytes.len_at_least c.if-byte-own.true c.first_other.ensures

pub returns-else-byte-own : goal.returns-else-byte-own
returns-else-byte-own t c =
    first_is_other c.args.updates.now c.args.bytes.now c.in-len1-up.len_at_least c.in-len1-up-bytes.len_at_least
    c.if-byte-own.false
