use Rattle.std.proofs.Common.{sym, ◌∙◌, arith}
use Rattle.dali_engine.proofs.StopLemmas.{cut_of_none, cut_of_some}
use Rattle.dali_engine.proofs.stops.cut_off.Goals as goal

pub begin_anew-requires : goal.begin_anew-requires
begin_anew-requires c =
    let want = c.in-Keep.is in
    let few = c.requires c.in-Keep.entry (sym c.in-Keep.ensures.phase) in
    cut_of_some c.in-Keep.entry c.deref.result.now c.from.result (c.deref.ensures.0 ∙ c.bytes-spelled.ensures.spelled)
    (c.bytes-spelled.ensures.in_range (c.want.ensures.short c.in-Keep.entry c.in-Keep.is))
    (omega (arith, few, c.from.ensures))

pub begin_anew-requires-in-Idle : goal.begin_anew-requires-in-Idle
begin_anew-requires-in-Idle c = cut_of_none
