use Rattle.dali_read.proofs.places.+row_length.Given as goal

abbrev pub decreases-row_length : goal.decreases-row_length
decreases-row_length l = l.most
