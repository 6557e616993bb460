use Rattle.std.proofs.Common.{◌≡◌, ◌↔◌, ℕ, take}
use Rattle.std.specs.Int.{bit_at}
use Rattle.std.specs.List.{Contains}
use Rattle.dali_input.proofs.scenario.bits_of.Given as goal

abbrev pub invariant-loop-address : goal.invariant-loop-address
invariant-loop-address l =
    (address : ℕ) → (bit_at l.bits address ≡ 1) ↔ Contains (take l.address-index l.addresses) address
