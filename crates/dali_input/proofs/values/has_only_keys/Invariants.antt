use Rattle.std.proofs.Common.{map}
use Rattle.std.specs.List.{list_any}
use Rattle.std.specs.Str.{bytes_eq}
use Rattle.dali_input.proofs.ValueLemmas.{KnownSoFar}
use Rattle.dali_input.proofs.values.has_only_keys.Given as goal

abbrev pub invariant-loop-key : goal.invariant-loop-key
invariant-loop-key l =
    KnownSoFar (λ key. list_any (bytes_eq key) (map (λ one. one.now) l.keys)) l.initial.key-iterator l.key-iterator
