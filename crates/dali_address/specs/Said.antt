-- The random address that three answers to QUERY RANDOM ADDRESS show.
use Rattle.std.specs.Prelude.{ℕ, List, ◌∷◌, Some}
use Rattle.dali_bus.specs.Chain.{IsChain}
use Rattle.dali_address.specs.Units.{Three, Units, IsAt, IsAlone, IsNamed}
use Rattle.dali_address.specs.Steps.{Exchange, Step}
use Rattle.dali_address.specs.declared.call.Call.TheVariants.{AskRandomHigh, AskRandomMiddle, AskRandomLow}

-- the three bytes of a random address were asked of a short address in succession, and came; newest first
abbrev pub named_by : ℕ → Three → List Exchange → List Exchange
named_by short random older =
    record { call = AskRandomLow short; answer = Some random.low }
    ∷ (record { call = AskRandomMiddle short; answer = Some random.middle }
    ∷ (record { call = AskRandomHigh short; answer = Some random.high } ∷ older))

-- Some unit has the short address; and if it is the only one, it has the random address.
pub record IsTrueOf (short : ℕ) (random : Three) (units : Units) : Type 0 where
  pub number : ℕ
  pub some : IsAt units short number
  pub named : IsAlone units short → (number : ℕ) × IsNamed units short random number

-- Whatever is lost, and whoever answers at once: what the three answers say is so when the last of them came.
abbrev pub NamesAreTrue : Type 0
NamesAreTrue =
    (first : Units) (older : List Exchange) (last : Units) (states : List Units) (short : ℕ) (random : Three)
    → IsChain Step first (named_by short random older) last states → IsTrueOf short random last
