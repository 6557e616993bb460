-- Traces without the losses of power in them.
use Rattle.std.specs.Prelude.{List, [], ◌∷◌, ⊤}
use Rattle.dali_trace.specs.declared.happening.Happening.{Happening}
use Rattle.dali_trace.specs.declared.happening.Happening.TheVariants.{Asked, Powered}

-- the trace without them: what a program knows of
abbrev pub unpowered : List Happening → List Happening
unpowered [] = []
unpowered (Powered address ∷ past) = unpowered past
unpowered (other ∷ past) = other ∷ unpowered past

-- none of them is directly after an order, before its reply
abbrev pub IsPowerApart : List Happening → Type 0
IsPowerApart [] = ⊤
IsPowerApart (Powered address ∷ Asked order moment ∷ past) = ⊥
IsPowerApart (newest ∷ past) = IsPowerApart past
