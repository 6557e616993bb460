use Rattle.std.proofs.Common.{◌≡◌, ◌∙◌, Some, None, ap, map, set, sym, subst}
use Rattle.std.proofs.lemmas.List.{map-set}
use Rattle.std.specs.Option.{option_map}
use Rattle.dali_bank.specs.Draft.{AreFound, found_of, with_field}
use Rattle.dali_bank.specs.Spelling.{plain}
use Rattle.dali_bank.specs.Layout.{row_of, rank_of, length_of}
use Rattle.dali_bank.proofs.LayoutLemmas.{found_with, unset}
use Rattle.dali_bank.proofs.SpellingLemmas.{form_bytes_sized}
use Rattle.dali_bank.proofs.draft.Draft.set.Goals as goal
use Rattle.dali_bank.proofs.draft.Draft.set.Goals.{After-index-self-rank-2}

-- what the draft has found with the field set
now_found : (c : After-index-self-rank-2)
    → map (option_map (λ b. b.items)) (set c.self.inside.found c.rank-2.result (Some c.in_ok-bytes.bytes))
    ≡ set (map (option_map (λ b. b.items)) c.self.inside.found) (rank_of c.args.field) (Some c.in_ok-bytes.bytes.items)
now_found c =
    let found = c.self.inside.found in
    rw c.rank-2.ensures.value
    (map-set (option_map (λ b. b.items)) found (rank_of c.args.field) (Some c.in_ok-bytes.bytes))

pub invariant_of-self : goal.invariant_of-self
invariant_of-self c =
    let field = c.args.field in
    let bytes = c.in_ok-bytes.bytes.items in
    let sized =
    form_bytes_sized (row_of field).form (length_of field) (plain c.args.value) bytes c.in_ok-bytes.ensures.ok in (
      c.self.invariant.0,
      subst AreFound (sym (now_found c))
          (found_with (map (option_map (λ b. b.items)) c.self.inside.found) field bytes sized c.self.invariant.1),
    )

pub returns-clause-ok : goal.returns-clause-ok
returns-clause-ok c =
    let field = c.args.field in
    let bytes = c.in_ok-bytes.bytes.items in
    let view = c.self.view_is in
    let none : found_of field c.args.self.now ≡ None = rw (← view, ← c.rank.ensures.value)
    (unset (λ b. b.items) c.self.inside.found c.rank.result c.index-self-rank.result c.if-is_some.ensures) in (
      bytes,
      c.in_ok-bytes.ensures.ok,
      none,
      ap (λ found. record { id = c.self.inside.id; unit = c.self.inside.unit; found = found }) (now_found c)
          ∙ ap (with_field field bytes) view,
    )
