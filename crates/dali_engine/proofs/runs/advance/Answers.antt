use Rattle.std.proofs.Common.{sym}
use Rattle.dali_engine.proofs.runs.advance.Goals as goal

pub returns-in-Keep-clause-described : goal.returns-in-Keep-clause-described
returns-in-Keep-clause-described g c =
    λ start past d. c.kept.ensures.described start past c.in-Keep.entry (sym c.in-Keep.ensures.phase) d

pub returns-in-Send-clause-described : goal.returns-in-Send-clause-described
returns-in-Send-clause-described g c =
    λ start past d. c.heard.ensures.described start past c.in-Send.frame (sym c.in-Send.ensures.phase) d

pub returns-in-Say-clause-described : goal.returns-in-Say-clause-described
returns-in-Say-clause-described g c =
    λ start past d. c.said.ensures.described start past c.in-Say.id c.in-Say.reply (sym c.in-Say.ensures.phase) d

pub returns-in-Keep-clause-follows : goal.returns-in-Keep-clause-follows
returns-in-Keep-clause-follows g c =
    λ start past d f. c.kept.ensures.follows start past c.in-Keep.entry (sym c.in-Keep.ensures.phase) d f

pub returns-in-Send-clause-follows : goal.returns-in-Send-clause-follows
returns-in-Send-clause-follows g c =
    λ start past d f. c.heard.ensures.follows start past c.in-Send.frame (sym c.in-Send.ensures.phase) d f

pub returns-in-Say-clause-follows : goal.returns-in-Say-clause-follows
returns-in-Say-clause-follows g c =
    λ start past d f. c.said.ensures.follows start past c.in-Say.id c.in-Say.reply (sym c.in-Say.ensures.phase) d f
