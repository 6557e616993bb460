use Rattle.std.proofs.Common.{sym, ◌∙◌, ap}
use Rattle.std.proofs.lemmas.Result.{err_from_is_err_and}
use Rattle.dali_write.specs.declared.ask.Ask.TheVariants.{Ended}
use Rattle.dali_drive.proofs.ReadingLemmas.{block_goes_on, block_breaks, block_told, block_failed}
use Rattle.dali_drive.proofs.reading.read_block.Goals as goal

pub returns-in_err-exchange-in-Send-clause-broken : goal.returns-in_err-exchange-in-Send-clause-broken
returns-in_err-exchange-in-Send-clause-broken g c =
    let p = err_from_is_err_and c.from_residual.result c.from_residual.ensures.1 in
    rw (p.1, p.2) (block_breaks c.args.unit c.args.block c.loop-frame.session _ _ _ c.in-Send.frame _
    c.loop-frame.invariant.so_far (sym c.in-Send.ensures.aim) c.in_err-exchange-in-Send.ensures.broken)

pub loop-frame-preserved : goal.loop-frame-preserved
loop-frame-preserved g c =
    let b = c.loop-frame.invariant.so_far in
    let was = c.heard.ensures.told b.told c.in-Send.frame (sym c.in-Send.ensures.aim) b.was in
    record {
      so_far =
          block_goes_on c.args.unit c.args.block c.loop-frame.session c.heard.new.self _ _ _ c.in-Send.frame _ b was
          c.heard.ensures.unit c.heard.ensures.task c.in_ok-exchange-in-Send.ensures.told;
      link_out = c.in_ok-exchange-in-Send.ensures.ok.1;
      link_in = c.in_ok-exchange-in-Send.ensures.ok.0;
    }

pub returns-in-Read-clause-read : goal.returns-in-Read-clause-read
returns-in-Read-clause-read g c =
    rw (c.keep_block.ensures, c.new-bytes.ensures, c.bytes.ensures.value)
    (block_told c.args.unit c.args.block c.loop-frame.session _ _ c.loop-frame.invariant.so_far
    (sym c.in-Ended.ensures.aim ∙ ap Ended c.in-Read.is))

pub returns-in_default : goal.returns-in_default
returns-in_default g c = record {
  read = tt;
  silent = λ none.
      block_failed c.args.unit c.args.block c.loop-frame.session _ _ c.in-Ended.verdict c.loop-frame.invariant.so_far
      (sym c.in-Ended.ensures.aim) c.in_default.not-Read;
  broken = tt;
  ends = search;
}
