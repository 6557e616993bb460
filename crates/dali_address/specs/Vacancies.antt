-- The part of the state of a run that holds a free short address.
use Rattle.std.specs.Prelude.{ℕ, List, Option, Some, None, ⊤}
use Rattle.dali_address.specs.Rights.{IsSilent, IsFree, IsKeptFree}
use Rattle.dali_address.specs.Steps.{Exchange}
use Rattle.dali_address.specs.declared.vacancy.Vacancy.{Vacancy}
use Rattle.dali_address.specs.declared.vacancy.Vacancy.TheVariants.{Unknown, Silent, Free}

-- the exchanges show it
abbrev pub HasVacancy : Vacancy → List Exchange → Type 0
HasVacancy Unknown told = ⊤
HasVacancy (Silent short count) told = IsSilent short count told
HasVacancy (Free short) told = IsFree short told

-- the short address was free at the search address at hand
abbrev pub HasPlace : Option ℕ → List Exchange → Type 0
HasPlace None told = ⊤
HasPlace (Some short) told = IsKeptFree short told
