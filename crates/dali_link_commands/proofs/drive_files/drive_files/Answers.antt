use Rattle.std.proofs.Common.{rules, inl, inr, refl}
use Rattle.dali_drive.specs.Desks.{Look}
use Rattle.dali_link_commands.specs.LinkCommands.{Drives}
use Rattle.dali_link_commands.proofs.BehindLemmas.{some_held}
use Rattle.dali_link_commands.proofs.ReadLemmas.{kept_orders, std_look}
use Rattle.dali_link_commands.proofs.DriveLemmas.{drives_unopened}
use Rattle.dali_link_commands.proofs.drive_files.drive_files.Goals as goal

pub returns-in-Ok-opened-clause-driven : goal.returns-in-Ok-opened-clause-driven
returns-in-Ok-opened-clause-driven g c = inl (
  c.in-Ok.older,
  rw c.as_slice.ensures.value at c.in-Ok.ensures.ok,
  kept_orders g.L.Write.contents g.I.Read.remaining g.O.Write.contents
      (record c.args.desk.now { older = c.in-Ok.older }) c.set_orders.new.self
      (λ (first : Look). Drives c.args.task.now.follow c.args.task.now g.N.Write.contents c.in-Ok.older
      c.args.report.now c.drive_file.new.report first c.drive_file.result
      (std_look g.L.Write.contents g.I.Read.remaining g.O.Write.contents c.drive_file.new.desk))
      c.set_orders.ensures.failed c.drive_file.ensures.driven,
)

pub returns-in-Err-opened-clause-driven : goal.returns-in-Err-opened-clause-driven
returns-in-Err-opened-clause-driven g c = inl (
  c.in-Ok.older,
  rw c.as_slice.ensures.value at c.in-Ok.ensures.ok,
  drives_unopened c.args.task.now.follow c.args.task.now g.N.Write.contents c.in-Ok.older c.args.report.now _ _ _
      c.refused.ensures.0 c.refused.ensures.2
      (record { undriven = search rules; told = rw c.refused.ensures.1 at c.tell-in-Err-opened.ensures.told }),
)

pub returns-in-Err-clause-driven : goal.returns-in-Err-clause-driven
returns-in-Err-clause-driven g c = inr (
  some_held _ c.args.task.now.older.items (rw c.as_slice.ensures.value at c.in-Err.ensures.err),
  (
    c.in-Err.problem.fault,
    rw c.as_slice.ensures.value at c.in-Err.ensures.why,
    search rules,
    c.tell.ensures.told,
    refl,
  ),
)
