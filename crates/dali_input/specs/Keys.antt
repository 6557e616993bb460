-- The keys of order objects.
use Rattle.std.specs.Prelude.{ℕ, List, codes}
use Rattle.dali_bank.specs.Keys.{key_of}
use Rattle.dali_input.specs.declared.key.Key.{Key}
use Rattle.dali_input.specs.declared.key.Key.TheVariants.{Order, Unit, Of}

-- the text of a key
abbrev pub text_of : Key → List ℕ
text_of Order = codes "order"
text_of Unit = codes "unit"
text_of (Of field) = key_of field
