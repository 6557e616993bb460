-- The part of the state of a run that holds the random addresses that it read.
use Rattle.std.specs.Prelude.{List, [], ◌∷◌, Option, Some, None, ⊤}
use Rattle.dali_address.specs.Places.{three_of_random}
use Rattle.dali_address.specs.Rights.{AfterAnswer, Whatever, IsRead, WasRead}
use Rattle.dali_address.specs.Steps.{Exchange}
use Rattle.dali_address.specs.declared.call.Call.TheVariants.{AskRandomHigh, AskRandomMiddle}
use Rattle.dali_address.specs.declared.reading.Named.{Named}
use Rattle.dali_address.specs.declared.reading.Reading.{Reading}
use Rattle.dali_address.specs.declared.reading.Reading.TheVariants.{Nothing, High, Middle, Whole}

-- the exchanges show it
abbrev pub HasReading : Reading → List Exchange → Type 0
HasReading Nothing told = ⊤
HasReading (High short high) told = AfterAnswer (AskRandomHigh short) (Some high) Whatever told
HasReading (Middle short high middle) told =
    AfterAnswer (AskRandomMiddle short) (Some middle) (AfterAnswer (AskRandomHigh short) (Some high) Whatever) told
HasReading (Whole named) told = IsRead named.short (three_of_random named.random) told

-- it was read before the newest frame
abbrev pub HasEarlier : Option Named → List Exchange → Type 0
HasEarlier None told = ⊤
HasEarlier (Some named) [] = ⊥
HasEarlier (Some named) (newest ∷ past) = WasRead named.short (three_of_random named.random) past
