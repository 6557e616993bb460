use Rattle.std.proofs.Common.{rules, inl, inr, refl}
use Rattle.dali_link_commands.proofs.address.tell_open.Goals as goal

pub returns-then-not-put_all : goal.returns-then-not-put_all
returns-then-not-put_all g c =
    let part = c.if-not-put_all.ensures.cut refl in
    record { told = (inl (refl, rw c.as_bytes.ensures.value at part), search rules) }

pub returns : goal.returns
returns g c =
    let whole = c.if-not-put_all.ensures.whole refl in
    record {
      told = (
        inr (
          g.W.Write.contents c.put_all.new.sink.output.writer,
          rw c.as_bytes.ensures.value at whole,
          c.tell_fault.ensures.told.0,
        ),
        c.tell_fault.ensures.told.1,
      );
    }
