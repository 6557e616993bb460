-- The part of the state of a run that holds the search address that it put.
use Rattle.std.specs.Prelude.{List, ⊤}
use Rattle.dali_address.specs.Places.{three_of}
use Rattle.dali_address.specs.Rights.{After, Whatever, IsSought}
use Rattle.dali_address.specs.Steps.{Exchange}
use Rattle.dali_address.specs.declared.call.Call.TheVariants.{SearchHigh, SearchMiddle}
use Rattle.dali_address.specs.declared.search.Search.{Search}
use Rattle.dali_address.specs.declared.search.Search.TheVariants.{Nothing, High, Middle, Whole}

-- the exchanges show it
abbrev pub HasSearch : Search → List Exchange → Type 0
HasSearch Nothing told = ⊤
HasSearch (High high) told = After (SearchHigh high) Whatever told
HasSearch (Middle high middle) told = After (SearchMiddle middle) (After (SearchHigh high) Whatever) told
HasSearch (Whole found) told = IsSought (three_of found) told
