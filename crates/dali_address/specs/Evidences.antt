-- The state that a run keeps of its exchanges, and what that says.
use Rattle.std.specs.Prelude.{◌≡◌, ℕ, List, Option, Some, None, true, false, ⊤}
use Rattle.std.specs.List.{slice_index_or, AllByRecursion}
use Rattle.dali_address.specs.Calls.{short_byte}
use Rattle.dali_address.specs.Endings.{HasEnding}
use Rattle.dali_address.specs.Readings.{HasReading, HasEarlier}
use Rattle.dali_address.specs.Rights.{AfterAnswer, Whatever, IsUntold, WasPresent}
use Rattle.dali_address.specs.Searching.{HasSearch}
use Rattle.dali_address.specs.Steps.{Exchange}
use Rattle.dali_address.specs.Tasks.{IsPresenceAsked}
use Rattle.dali_address.specs.Vacancies.{HasVacancy, HasPlace}
use Rattle.dali_address.specs.declared.call.Call.TheVariants.{AskShort}
use Rattle.dali_address.specs.declared.evidence.Evidence.{Evidence}
use Rattle.dali_address.specs.declared.evidence.Told.{Told}

-- QUERY SHORT ADDRESS went last, and this came back
abbrev pub HasAsked : Option ℕ → List Exchange → Type 0
HasAsked None told = ⊤
HasAsked (Some byte) told = AfterAnswer AskShort (Some byte) Whatever told

-- each address that isn't marked wasn't told
abbrev pub HasTold : Told → List Exchange → Type 0
HasTold kept told =
    (short : ℕ) → slice_index_or kept.bytes (short_byte short) false ≡ false → IsUntold short told

-- an answer showed that a unit is there
abbrev pub HasPresent : Option ℕ → List Exchange → Type 0
HasPresent None told = ⊤
HasPresent (Some short) told = WasPresent short told

-- the exchanges show all of it
pub record Stands (evidence : Evidence) (told : List Exchange) : Type 0 where
  pub search : HasSearch evidence.search told
  pub asked : HasAsked evidence.asked told
  pub vacancy : HasVacancy evidence.vacancy told
  pub place : HasPlace evidence.place told
  pub marked : HasTold evidence.told told
  pub ending : HasEnding evidence.ending told
  pub reading : HasReading evidence.reading told
  pub earlier : HasEarlier evidence.earlier told
  pub present : HasPresent evidence.present told
  pub asking : evidence.is_asking ≡ true → AllByRecursion (λ exchange. IsPresenceAsked exchange.call) told
