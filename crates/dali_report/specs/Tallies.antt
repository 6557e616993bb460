-- The counts that a report keeps of the frames since the last reply before.
use Rattle.std.specs.Prelude.{◌≡◌, List, length}
use Rattle.dali_write.specs.Exchanges.{Exchange}
use Rattle.dali_write.specs.Misses.{location_in, misses_in}
use Rattle.dali_report.specs.declared.tally.Tally.{Tally}
use Rattle.dali_report.specs.Lines.{counted}

-- it is that of these exchanges, the newest first
pub record IsTally (told : List Exchange) (tally : Tally) : Type 0 where
  pub frames : tally.frames ≡ counted (length told)
  pub misses : tally.misses ≡ counted (misses_in told)
  pub location : tally.location ≡ location_in told
