-- Lemmas on what an item gives to a draft.
use Rattle.std.proofs.Common.{◌≡◌, ◌≢◌, ◌<◌, ◌≤◌, ℕ, zero, inl, inr, ◌+◌, length-set, get_or-set_same, get_or-set_other}
use Rattle.std.proofs.Common.{List, [], ◌∷◌, Option, Some, None, MatchOption, suc, length, get_or, take, drop}
use Rattle.std.proofs.Common.{min, length-take, refl, arith, subst, sym, ◌∙◌}
use Rattle.std.specs.Bool.{⊤}
use Rattle.std.proofs.lemmas.Bool.{cases_eq}
use Rattle.std.proofs.Math.Seq.{split_at}
use Rattle.std.proofs.lemmas.List.{get_or-take, get_or_default}
use Rattle.std.proofs.lemmas.List.Elements.{recursion_from_All}
use Rattle.serde_json.specs.Data.{Data}
use Rattle.serde_json.specs.Find.{get}
use Rattle.dali_bank.specs.declared.field.Field.{Field}
use Rattle.dali_bank.specs.declared.field.Field.TheVariants.{Gtin}
use Rattle.dali_bank.specs.declared.fault.BankFault.{BankFault}
use Rattle.dali_bank.specs.declared.fault.BankFault.TheVariants as bank
use Rattle.dali_bank.specs.Layout.{fields, rank_of}
use Rattle.dali_bank.proofs.LayoutLemmas.{rank_within, same_rank, all_of}
use Rattle.dali_bank.specs.Spelling.{Plain, unknown, number, digits, hex, text, AreFieldBytes, HasBytes}
use Rattle.dali_bank.specs.Draft.{Drafted, found_of, with_field}
use Rattle.dali_bank.specs.Faults.{IsFinishFault, rule_fault, IsValueFault}
use Rattle.dali_input.specs.declared.item.ItemFault.TheVariants.{Bank}
use Rattle.dali_bank.specs.Keys.{key_of}
use Rattle.dali_input.specs.Items.{IsForUnit, HasFieldsOf, IsFieldFault, IsDraftOf, IsFaultOf, IsFoundIn, IsAcceptable}
use Rattle.dali_input.specs.Items.{IsFieldRefused, given as given_value}
use Rattle.dali_input.specs.Members.{IsGivenBy}

pub above_63 : (unit : ℕ) → (unit ≤ 63 → ⊥) → 63 < unit
above_63 unit far = grind arith

-- ---- the fields of a draft

-- each field is at the place of its rank, from this rank on
RanksFrom : ℕ → List Field → Type 0
RanksFrom rank [] = ⊤
RanksFrom rank (field ∷ others) = (rank_of field ≡ rank) × RanksFrom (rank + 1) others

rank_at_from : (rank : ℕ) (fs : List Field) (k : ℕ) → RanksFrom rank fs → k < length fs
    → rank_of (get_or fs k Gtin) ≡ rank + k
unfolding RanksFrom
rank_at_from rank [] k ranks within = absurd (omega arith)
rank_at_from rank (field ∷ others) zero ranks within =
    let same : rank ≡ rank + zero = omega arith in
    ranks.0 ∙ same
rank_at_from rank (field ∷ others) (suc k) ranks within =
    let next : rank + 1 + k ≡ rank + suc k = omega arith in
    rank_at_from (rank + 1) others k ranks.1 (omega arith) ∙ next

fields_rank : RanksFrom 0 fields
unfolding RanksFrom
fields_rank =
    (refl, (refl, (refl, (refl, (refl, (refl, (refl, (refl, (refl, (refl, (refl, (refl, (refl, (refl, tt))))))))))))))

pub rank_at : (k : ℕ) → k < length fields → rank_of (get_or fields k Gtin) ≡ k
rank_at k within =
    let same : 0 + k ≡ k = omega arith in
    rank_at_from 0 fields k fields_rank within ∙ same

-- the fields of the first ranks are set as the object gives them, and the others not yet
pub record SetSoFar (source : Data) (count : ℕ) (before now : Drafted) : Type 0 where
  pub id_is : now.id ≡ before.id
  pub unit_is : now.unit ≡ before.unit
  pub sized : length now.found ≡ length fields
  pub done : (field : Field) → rank_of field < count → IsFoundIn source field (found_of field now)
  pub rest : (field : Field) → count ≤ rank_of field → found_of field now ≡ None

-- nothing was given
pub not_given : (source : Data) (field : Field) (before now : Drafted) → get (key_of field) source ≡ None
    → SetSoFar source (rank_of field) before now → SetSoFar source (rank_of field + 1) before now
not_given source field before now none so_far = record {
  id_is = so_far.id_is;
  unit_is = so_far.unit_is;
  sized = so_far.sized;
  done = λ other below. elim (cases_eq (rank_of other) (rank_of field)) [
    | inl same ↦
        let it : other ≡ field = same_rank other field same in
        rw (it, none) (so_far.rest field (omega arith))
    | inr differs ↦ so_far.done other (omega (arith, below, differs))
  ];
  rest = λ other above. so_far.rest other (omega (arith, above));
}

-- a value was given, and its bytes set
was_given : (source : Data) (field : Field) (bytes : List ℕ) (before now : Drafted)
    → IsFoundIn source field (Some bytes)
    → SetSoFar source (rank_of field) before now
    → SetSoFar source (rank_of field + 1) before (with_field field bytes now)
was_given source field bytes before now given so_far = record {
  id_is = so_far.id_is;
  unit_is = so_far.unit_is;
  sized = rw length-set so_far.sized;
  done = λ other below. elim (cases_eq (rank_of other) (rank_of field)) [
    | inl same ↦
        let it : other ≡ field = same_rank other field same in
        let room : rank_of field < length now.found = rw so_far.sized (rank_within field) in
        rw (it, get_or-set_same) given
    | inr differs ↦ rw get_or-set_other (so_far.done other (omega (arith, below, differs)))
  ];
  rest = λ other above.
      let differs : rank_of other ≢ rank_of field = λ same. omega (arith, same, above) in
      rw get_or-set_other (so_far.rest other (omega (arith, above)));
}

-- the fields from this rank on are not set
abbrev pub AreUnsetFrom : ℕ → Drafted → Type 0
AreUnsetFrom count draft = (field : Field) → count ≤ rank_of field → found_of field draft ≡ None

pub unset_after : (count : ℕ) (draft : Drafted) → AreUnsetFrom count draft → AreUnsetFrom (count + 1) draft
unset_after count draft unset = λ field above. unset field (omega (arith, above))

pub unset_given : (json : Data) (given : Field) (before after : Drafted) → AreUnsetFrom (rank_of given) before
    → IsGivenBy json given before after → AreUnsetFrom (rank_of given + 1) after
unset_given json given before after unset by = λ field above.
    let differs : rank_of field ≢ rank_of given = λ same. omega (arith, same, above) in
    rw (by.4, get_or-set_other) (unset field (omega (arith, above)))

-- one field more is set as a value gives it
pub one_more : (source : Data) (field : Field) (before now after : Drafted) (json : Data)
    → SetSoFar source (rank_of field) before now → get (key_of field) source ≡ Some json
    → IsGivenBy json field now after → SetSoFar source (rank_of field + 1) before after
one_more source field before now after json so_far there by =
    let found : IsFoundIn source field (Some by.1) = rw there (by.0, by.1, by.2, by.3, refl) in
    rw by.4 (was_given source field by.1 before now found so_far)

-- all fields are set as the object gives them
pub all_set : (source : Data) (count : ℕ) (before now : Drafted) → length fields ≤ count
    → SetSoFar source count before now → HasFieldsOf source before now
all_set source count before now full so_far = record {
  id = so_far.id_is;
  unit = so_far.unit_is;
  sized = so_far.sized;
  found =
      all_of (λ field. IsFoundIn source field (found_of field now)) fields
      (λ field. let within = rank_within field in so_far.done field (omega (arith, within, full)));
}

found_acceptable : (source : Data) (field : Field) (found : Option (List ℕ)) → IsFoundIn source field found
    → IsAcceptable source field
found_acceptable source field found given = acceptable (get (key_of field) source) given
  where
    acceptable : (json : Option Data)
        → MatchOption json (found ≡ None) (λ j. (value : Plain) × (bytes : List ℕ) × (given_value field j ≡ Some value)
        × AreFieldBytes field value bytes × (found ≡ Some bytes))
        → MatchOption json ⊤ (λ j. (value : Plain) × (given_value field j ≡ Some value) × HasBytes field value)
    acceptable None g = tt
    acceptable (Some j) g = (g.0, g.2, (g.1, g.3))

acceptable_at : (source : Data) (i : ℕ) (before now : Drafted) → SetSoFar source i before now → i < length fields
    → (k : ℕ) (d : Field) → k < length (take i fields) → IsAcceptable source (get_or (take i fields) k d)
acceptable_at source i before now so_far within k d below =
    let least : k < min i (length fields) = simp length-take at below in
    let early : k < i = omega arith in
    let inside : k < length fields = omega arith in
    let same : get_or (take i fields) k d ≡ get_or fields k Gtin =
    get_or-take i fields k d early ∙ get_or_default fields k d Gtin inside in
    let rank : rank_of (get_or fields k Gtin) < i = rw (rank_at k inside) early in
    subst (IsAcceptable source) (sym same) (found_acceptable source (get_or fields k Gtin)
    (found_of (get_or fields k Gtin) now) (so_far.done (get_or fields k Gtin) rank))

-- the field after those that are set is the first that is refused
pub first_refused : (source : Data) (i : ℕ) (before now : Drafted) (fault : BankFault) → i < length fields
    → SetSoFar source i before now
    → IsFieldRefused source (get_or fields i Gtin) fault → IsFieldFault source fault
first_refused source i before now fault within so_far refused = record {
  front = take i fields;
  field = get_or fields i Gtin;
  behind = drop (suc i) fields;
  split = split_at fields i Gtin within;
  accepted =
      recursion_from_All (IsAcceptable source) (take i fields)
      (λ k d below. acceptable_at source i before now so_far within k d below);
  refused = refused;
}

-- the fault tells a value that a field refuses
abbrev IsOfValues : BankFault → Type 0
IsOfValues bank.Kind = ⊤
IsOfValues bank.Range = ⊤
IsOfValues bank.Gtin = ⊤
IsOfValues bank.Text = ⊤
IsOfValues _ = ⊥

same_values : (one other : BankFault) → Some one ≡ Some other → IsOfValues one → IsOfValues other
same_values one other same holds = let equal : one ≡ other = cc in subst IsOfValues equal holds

rule_of_values : (value : Plain) (fault : BankFault) → rule_fault value ≡ Some fault → IsOfValues fault
rule_of_values unknown fault rule = cc
rule_of_values (number n) fault rule = same_values bank.Range fault rule tt
rule_of_values (digits s) fault rule = same_values bank.Gtin fault rule tt
rule_of_values (hex s) fault rule = same_values bank.Text fault rule tt
rule_of_values (text s) fault rule = same_values bank.Text fault rule tt

value_fault_of_values : (field : Field) (value : Plain) (fault : BankFault) → IsValueFault field value fault
    → IsOfValues fault
value_fault_of_values field value bank.Unit refused = rule_of_values value bank.Unit refused.2
value_fault_of_values field value bank.Kind refused = tt
value_fault_of_values field value bank.Range refused = tt
value_fault_of_values field value bank.Gtin refused = tt
value_fault_of_values field value bank.Text refused = tt
value_fault_of_values field value bank.Twice refused = rule_of_values value bank.Twice refused.2
value_fault_of_values field value bank.Voltage refused = rule_of_values value bank.Voltage refused.2
value_fault_of_values field value bank.Empty refused = rule_of_values value bank.Empty refused.2

field_fault_of_values : (field : Field) (value : Option Plain) (fault : BankFault)
    → MatchOption value (fault ≡ bank.Kind) (λ v. IsValueFault field v fault) → IsOfValues fault
field_fault_of_values field None fault refused = subst IsOfValues (sym refused) tt
field_fault_of_values field (Some value) fault refused = value_fault_of_values field value fault refused

-- a draft with the object's fields is the draft of the object
pub drafted : (source : Data) (before after : Drafted) → IsForUnit source before.id before.unit
    → HasFieldsOf source before after → IsDraftOf source after
drafted source before after for_unit fields_are = record {
  for_unit = rw (fields_are.id, fields_are.unit) for_unit;
  fields = record { id = refl; unit = refl; sized = fields_are.sized; found = fields_are.found };
}

-- what stops a draft at the end is a fault of the item
pub finish_fault : (source : Data) (draft : Drafted) (fault : BankFault) → IsDraftOf source draft
    → IsFinishFault draft fault → IsFaultOf source (Bank fault)
finish_fault source draft bank.Voltage of_item stands = (draft, of_item, stands)
finish_fault source draft bank.Empty of_item stands = (draft, of_item, stands.0, stands.1)
finish_fault source draft bank.Unit of_item stands = absurd stands
finish_fault source draft bank.Kind of_item stands = absurd stands
finish_fault source draft bank.Range of_item stands = absurd stands
finish_fault source draft bank.Gtin of_item stands = absurd stands
finish_fault source draft bank.Text of_item stands = absurd stands
finish_fault source draft bank.Twice of_item stands = absurd stands

-- what a field refuses is a fault of the item
pub field_fault : (source : Data) (id unit : ℕ) (fault : BankFault) → IsForUnit source id unit
    → IsFieldFault source fault → IsFaultOf source (Bank fault)
field_fault source id unit bank.Kind for_unit first = (id, unit, for_unit, first)
field_fault source id unit bank.Range for_unit first = (id, unit, for_unit, first)
field_fault source id unit bank.Gtin for_unit first = (id, unit, for_unit, first)
field_fault source id unit bank.Text for_unit first = (id, unit, for_unit, first)
field_fault source id unit bank.Unit for_unit first =
    absurd (field_fault_of_values first.field (given_value first.field first.refused.0) bank.Unit first.refused.2)
field_fault source id unit bank.Twice for_unit first =
    absurd (field_fault_of_values first.field (given_value first.field first.refused.0) bank.Twice first.refused.2)
field_fault source id unit bank.Voltage for_unit first =
    absurd (field_fault_of_values first.field (given_value first.field first.refused.0) bank.Voltage first.refused.2)
field_fault source id unit bank.Empty for_unit first =
    absurd (field_fault_of_values first.field (given_value first.field first.refused.0) bank.Empty first.refused.2)
