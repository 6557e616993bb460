-- Search addresses and random addresses that the code holds.
use Rattle.dali_address.specs.Units.{Three}
use Rattle.dali_address.specs.declared.stage.Found.{Found}
use Rattle.dali_address.specs.declared.task.Random.{Random}

-- the three bytes
abbrev pub three_of : Found → Three
three_of found = record { high = found.high; middle = found.middle; low = found.low }

abbrev pub three_of_random : Random → Three
three_of_random random = record { high = random.high; middle = random.middle; low = random.low }
