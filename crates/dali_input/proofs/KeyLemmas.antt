-- Lemmas on objects with one key, or two.
use Rattle.std.proofs.Common.{◌≡◌, refl, ◌∙◌, ℕ, Bool, true, false, List, [], ◌∷◌, Option, Some, None}
use Rattle.std.specs.Prelude.{◌||◌, codes}
use Rattle.std.specs.Cmp.{first_so, second_so}
use Rattle.std.specs.Cmp.Lexicographic.{slice_cmp}
use Rattle.std.specs.List.{list_all, list_any}
use Rattle.std.specs.Ordering.{nat_cmp, match_ordering}
use Rattle.std.specs.Str.{bytes_eq}
use Rattle.std.proofs.lemmas.Slice.Eq.{bytes_eq-Decides}
use Rattle.serde_json.specs.Data.{Data, null, boolean, number, string, array, object, Members, no_members, member}
use Rattle.serde_json.specs.Find.{get, get_member}
use Rattle.dali_input.specs.declared.fault.InputFault.{InputFault}
use Rattle.dali_input.specs.Items.{keys_of}
use Rattle.dali_input.specs.Scenario.{PlannedEvent, submit, steps, stop, power, IsEvent, most_events, most_moment}
use Rattle.dali_input.specs.Values.{IsWhole, IsOptional, IsNoReading, has_only_keys}
use Rattle.dali_input.proofs.ValueLemmas.{needs}

-- one key isn't found by the other
abbrev AreOther : List ℕ → List ℕ → Type 0
AreOther key other =
    (found value : Option Data) → match_ordering (slice_cmp nat_cmp key other) found value found ≡ found

same_key : (key other : List ℕ) → (bytes_eq key other || false) ≡ true → key ≡ other
same_key key other is = by (bytes_eq key other) refl is
  where
    by : (b : Bool) → bytes_eq key other ≡ b → (b || false) ≡ true → key ≡ other
    by true e is = (bytes_eq-Decides key other).0 e
    by false e is = cc

only_member : (key other : List ℕ) (members : Members) → AreOther key other
    → list_all (λ k. list_any (bytes_eq k) (other ∷ [])) (keys_of members) ≡ true → get_member key members ≡ None
only_member key other no_members apart only = refl
only_member key other (member k value members) apart only =
    let is = same_key k other (first_so (bytes_eq k other || false) _ only) in
    rw is (apart (get_member key members) (Some value)
    ∙ only_member key other members apart (second_so (bytes_eq k other || false) _ only))

-- an object with one key alone has nothing at another
only_key : (key other : List ℕ) (json value : Data) → AreOther key other → has_only_keys (other ∷ []) json ≡ true
    → get key json ≡ Some value → ⊥
only_key key other (object members) value apart only there = let none = only_member key other members apart only in cc
only_key key other null value apart only there = cc
only_key key other (boolean b) value apart only there = cc
only_key key other (number n) value apart only there = cc
only_key key other (string s) value apart only there = cc
only_key key other (array items) value apart only there = cc

-- nor has an object with two keys alone
only_of_two : (key one two : List ℕ) (members : Members) → AreOther key one → AreOther key two
    → list_all (λ k. list_any (bytes_eq k) (one ∷ two ∷ [])) (keys_of members) ≡ true → get_member key members ≡ None
only_of_two key one two no_members apart also only = refl
only_of_two key one two (member k value members) apart also only =
    by (bytes_eq k one) refl (first_so (bytes_eq k one || (bytes_eq k two || false)) _ only)
    (only_of_two key one two members apart also (second_so (bytes_eq k one || (bytes_eq k two || false)) _ only))
  where
    by : (b : Bool) → bytes_eq k one ≡ b → (b || (bytes_eq k two || false)) ≡ true → get_member key members ≡ None
        → get_member key (member k value members) ≡ None
    by true e is none =
        rw ((bytes_eq-Decides k one).0 e) (apart (get_member key members) (Some value) ∙ none)
    by false e is none = rw (same_key k two is) (also (get_member key members) (Some value) ∙ none)

only_two : (key one two : List ℕ) (json value : Data) → AreOther key one → AreOther key two
    → has_only_keys (one ∷ two ∷ []) json ≡ true → get key json ≡ Some value → ⊥
only_two key one two (object members) value apart also only there =
    let none = only_of_two key one two members apart also only in cc
only_two key one two null value apart also only there = cc
only_two key one two (boolean b) value apart also only there = cc
only_two key one two (number n) value apart also only there = cc
only_two key one two (string s) value apart also only there = cc
only_two key one two (array items) value apart also only there = cc

-- an event whose number of steps can't be read
pub no_steps : (json value : Data) (fault : InputFault) → get (codes "steps") json ≡ Some value
    → IsNoReading (IsWhole 1 most_events value) fault
    → IsNoReading (IsEvent json) fault
no_steps json value fault there none = needs (IsWhole 1 most_events value) (IsEvent json) fault by none
  where
    by : (event : PlannedEvent) → IsEvent json event → (count : ℕ) × IsWhole 1 most_events value count
    by (submit order moment) (only, is, since) =
        absurd (only_two (codes "steps") (codes "submit") (codes "moment") json value (λ found v. refl)
        (λ found v. refl) only there)
    by (stop bytes) (only, is) =
        absurd (only_key (codes "steps") (codes "stop") json value (λ found v. refl) only there)
    by (power address) (only, is) =
        absurd (only_key (codes "steps") (codes "power") json value (λ found v. refl) only there)
    by (steps count) (only, is) = (count, rw there at is)

-- one whose number of bytes can't be read
pub no_bytes : (json value : Data) (fault : InputFault) → get (codes "stop") json ≡ Some value
    → IsNoReading (IsWhole 0 65535 value) fault
    → IsNoReading (IsEvent json) fault
no_bytes json value fault there none = needs (IsWhole 0 65535 value) (IsEvent json) fault by none
  where
    by : (event : PlannedEvent) → IsEvent json event → (bytes : ℕ) × IsWhole 0 65535 value bytes
    by (submit order moment) (only, is, since) =
        absurd (only_two (codes "stop") (codes "submit") (codes "moment") json value (λ found v. refl)
        (λ found v. refl) only there)
    by (steps count) (only, is) =
        absurd (only_key (codes "stop") (codes "steps") json value (λ found v. refl) only there)
    by (stop bytes) (only, is) = (bytes, rw there at is)
    by (power address) (only, is) =
        absurd (only_key (codes "stop") (codes "power") json value (λ found v. refl) only there)

-- and one whose address can't be read
pub no_address : (json value : Data) (fault : InputFault) → get (codes "power") json ≡ Some value
    → IsNoReading (IsWhole 0 63 value) fault
    → IsNoReading (IsEvent json) fault
no_address json value fault there none = needs (IsWhole 0 63 value) (IsEvent json) fault by none
  where
    by : (event : PlannedEvent) → IsEvent json event → (address : ℕ) × IsWhole 0 63 value address
    by (submit order moment) (only, is, since) =
        absurd (only_two (codes "power") (codes "submit") (codes "moment") json value (λ found v. refl)
        (λ found v. refl) only there)
    by (steps count) (only, is) =
        absurd (only_key (codes "power") (codes "steps") json value (λ found v. refl) only there)
    by (stop bytes) (only, is) =
        absurd (only_key (codes "power") (codes "stop") json value (λ found v. refl) only there)
    by (power address) (only, is) = (address, rw there at is)

-- one whose moment can't be read
pub no_moment : (json order : Data) (fault : InputFault) → get (codes "submit") json ≡ Some order
    → IsNoReading (IsOptional (IsWhole 0 most_moment) 0 (get (codes "moment") json)) fault
    → IsNoReading (IsEvent json) fault
no_moment json order fault there none =
    needs (IsOptional (IsWhole 0 most_moment) 0 (get (codes "moment") json)) (IsEvent json) fault by none
  where
    by : (event : PlannedEvent) → IsEvent json event
        → (moment : ℕ) × IsOptional (IsWhole 0 most_moment) 0 (get (codes "moment") json) moment
    by (submit source moment) (only, is, since) = (moment, since)
    by (steps count) (only, is) =
        absurd (only_key (codes "submit") (codes "steps") json order (λ found v. refl) only there)
    by (stop bytes) (only, is) =
        absurd (only_key (codes "submit") (codes "stop") json order (λ found v. refl) only there)
    by (power address) (only, is) =
        absurd (only_key (codes "submit") (codes "power") json order (λ found v. refl) only there)

-- an object with the key of a submission, and with one that no submission has
pub no_other_key : (json order : Data) → get (codes "submit") json ≡ Some order
    → has_only_keys (codes "submit" ∷ codes "moment" ∷ []) json ≡ false → (event : PlannedEvent) → ¬ IsEvent json event
no_other_key json order there others (submit source moment) (only, is, since) = cc
no_other_key json order there others (steps count) (only, is) =
    absurd (only_key (codes "submit") (codes "steps") json order (λ found v. refl) only there)
no_other_key json order there others (stop bytes) (only, is) =
    absurd (only_key (codes "submit") (codes "stop") json order (λ found v. refl) only there)
no_other_key json order there others (power address) (only, is) =
    absurd (only_key (codes "submit") (codes "power") json order (λ found v. refl) only there)
