use Rattle.std.proofs.Common.{sym}
use Rattle.dali_engine.proofs.stops.keep_within.Goals as goal

pub returns-then-len-from-clause-described : goal.returns-then-len-from-clause-described
returns-then-len-from-clause-described c =
    λ start past d. c.kept.ensures.described start past c.in-Keep.entry (sym c.in-Keep.ensures.phase) d

pub returns-then-len-from-clause-follows : goal.returns-then-len-from-clause-follows
returns-then-len-from-clause-follows c =
    λ start past d f. c.kept.ensures.follows start past c.in-Keep.entry (sym c.in-Keep.ensures.phase) d f
