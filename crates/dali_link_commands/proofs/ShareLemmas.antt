-- The lines of shared short addresses, one by one.
use Rattle.std.proofs.Common.{◌≡◌, ◌∙◌, ◌+◌, ◌<◌, ◌++◌, ◌∷◌, [], ℕ, zero, suc, Bool, true, false, List, ap, refl, subst, sym, arith}
use Rattle.std.proofs.Common.{append-nil, append_assoc, get_or, length, take}
use Rattle.std.specs.Prelude.{if◌then◌else◌}
use Rattle.dali_address.specs.declared.task.Line.TheVariants.{Shared}
use Rattle.dali_link_commands.specs.AddressLines.{address_line, shared_lines}

abbrev pub marked : Bool → ℕ → List ℕ
marked is_shared short = if is_shared then address_line (Shared short) else []

next_shared : (addresses : List Bool) (index from : ℕ) (other : Bool) → index < length addresses
    → shared_lines (take (suc index) addresses) from
    ≡ shared_lines (take index addresses) from ++ marked (get_or addresses index other) (from + index)
next_shared [] index from other below = absurd (omega arith)
next_shared (true ∷ more) zero from other below =
    let same : from ≡ from + 0 = omega arith in
    append-nil (address_line (Shared from)) ∙ ap (λ (short : ℕ). address_line (Shared short)) same
next_shared (false ∷ more) zero from other below = refl
next_shared (true ∷ more) (suc index) from other below =
    let same : from + 1 + index ≡ from + suc index = omega arith in
    ap (λ (lines : List ℕ). address_line (Shared from) ++ lines) (next_shared more index (from + 1) other (omega arith))
    ∙ sym (append_assoc (address_line (Shared from)) (shared_lines (take index more) (from + 1))
    (marked (get_or more index other) (from + 1 + index)))
    ∙ ap (λ (short : ℕ). (address_line (Shared from) ++ shared_lines (take index more) (from + 1))
    ++ marked (get_or more index other) short) same
next_shared (false ∷ more) (suc index) from other below =
    let same : from + 1 + index ≡ from + suc index = omega arith in
    next_shared more index (from + 1) other (omega arith)
    ∙ ap (λ (short : ℕ). shared_lines (take index more) (from + 1) ++ marked (get_or more index other) short) same

-- the next one's line comes after those before it, if it is marked
pub next_line : (addresses : List Bool) (index : ℕ) (other : Bool) → index < length addresses
    → shared_lines (take (index + 1) addresses) 0
    ≡ shared_lines (take index addresses) 0 ++ marked (get_or addresses index other) index
next_line addresses index other below =
    let next : suc index ≡ index + 1 = omega arith in
    let same : 0 + index ≡ index = omega arith in
    subst (λ (count : ℕ). shared_lines (take count addresses) 0
    ≡ shared_lines (take index addresses) 0 ++ marked (get_or addresses index other) index) next
    (next_shared addresses index 0 other below
    ∙ ap (λ (short : ℕ). shared_lines (take index addresses) 0 ++ marked (get_or addresses index other) short) same)
