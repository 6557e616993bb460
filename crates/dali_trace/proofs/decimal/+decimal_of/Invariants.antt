use Rattle.dali_trace.proofs.decimal.+decimal_of.Given as goal

-- proposed from what the function passes where it calls itself
abbrev pub decreases-decimal_of : goal.decreases-decimal_of
decreases-decimal_of l = l.number
