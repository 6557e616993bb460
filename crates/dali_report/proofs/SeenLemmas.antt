-- Lemmas on what a line is seen to be.
use Rattle.std.proofs.Common.{◌≡◌, refl, ap, inl, suc, ℕ, List, [], ◌∷◌, Option, Some, None, String, Global, length}
use Rattle.serde_json.specs.Data.{Data}
use Rattle.serde_json.specs.View.{members_view}
use Rattle.serde_json.specs.declared.value.Value.{Value}
use Rattle.dali_report.specs.Seen.{IsSeen, IsValue, count_in, run_in, seen_by}

-- an object has as many members as entries
pub count_all : (entries : List (String Global × Value)) → count_in (members_view entries) ≡ length entries
count_all [] = refl
count_all (entry ∷ entries) = ap suc (count_all entries)

-- a value is seen by its run
pub value_seen : (line : List ℕ) (value : Data) (found : Option ℕ) → run_in value ≡ found → IsValue line value
    → IsSeen line (seen_by found)
value_seen line value (Some run) is read = (value, read, is)
value_seen line value None is read = inl (value, read, is)
