-- The part of the state of a run that says how the initialisation state was ended.
use Rattle.std.specs.Prelude.{List, None, ⊤}
use Rattle.dali_address.specs.Rights.{After, AfterAnswer, Whatever, IsTerminated}
use Rattle.dali_address.specs.Steps.{Exchange}
use Rattle.dali_address.specs.declared.call.Call.TheVariants.{Terminate, Compare}
use Rattle.dali_address.specs.declared.ending.Ending.{Ending}
use Rattle.dali_address.specs.declared.ending.Ending.TheVariants.{Nothing, Once, Twice, Silent, Checked}

-- the exchanges show it
abbrev pub HasEnding : Ending → List Exchange → Type 0
HasEnding Nothing told = ⊤
HasEnding Once told = After Terminate Whatever told
HasEnding Twice told = IsTerminated told
HasEnding Silent told = AfterAnswer Compare None IsTerminated told
HasEnding Checked told = AfterAnswer Compare None (AfterAnswer Compare None IsTerminated) told
