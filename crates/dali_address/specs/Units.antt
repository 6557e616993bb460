-- The control gear that a bus reaches, as the giving of addresses sees it.
use Rattle.std.specs.Prelude.{◌≡◌, ℕ, ◌+◌, ◌*◌, Option, Some}
use Rattle.dali_bus.specs.World.{Gear}

-- three bytes: a random address or a search address
pub record Three : Type 0 where
  pub high : ℕ
  pub middle : ℕ
  pub low : ℕ

abbrev pub number_of : Three → ℕ
number_of three = 65536 * three.high + 256 * three.middle + three.low

-- the initialisation state: not in it, in it, or withdrawn from the search
pub data Phase : Type 0 where
  Disabled : Phase
  Enabled : Phase
  Withdrawn : Phase

-- a unit: its short address if it has one, its random address, its search address, its initialisation state, and what
-- memory access sees of it
pub record Member : Type 0 where
  pub short : Option ℕ
  pub random : Three
  pub search : Three
  pub phase : Phase
  pub gear : Gear

-- the units by a number of ours, whatever their addresses: so several may have one short address
abbrev pub Units : Type 0
Units = ℕ → Option Member

-- the unit of this number has the short address
pub record IsAt (units : Units) (short number : ℕ) : Type 0 where
  pub member : Member
  pub there : units number ≡ Some member
  pub has : member.short ≡ Some short

-- at most one unit has the short address
abbrev pub IsAlone : Units → ℕ → Type 0
IsAlone units short = (one two : ℕ) → IsAt units short one → IsAt units short two → one ≡ two

-- the unit of this number has the short address and the random address
pub record IsNamed (units : Units) (short : ℕ) (random : Three) (number : ℕ) : Type 0 where
  pub member : Member
  pub there : units number ≡ Some member
  pub has : member.short ≡ Some short
  pub drew : member.random ≡ random
