use Rattle.dali_link_commands.proofs.report_lines.look_through.Given as goal

abbrev pub decreases-loop-left : goal.decreases-loop-left
decreases-loop-left l = l.left
