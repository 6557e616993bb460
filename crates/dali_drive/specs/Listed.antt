-- The orders that a list gives.
use Rattle.std.specs.Prelude.{◌≡◌, ◌++◌, ℕ, List, [], reverse}
use Rattle.std.proofs.Common.{refl}
use Rattle.dali_bank.specs.Order.{Contents}
use Rattle.dali_drive.specs.declared.following.Given.{Given}
use Rattle.dali_drive.specs.declared.listed.ListedOrders.{ListedOrders}
use Rattle.dali_drive.specs.Driven.{at_moment}
use Rattle.dali_drive.specs.Followed.{as_given}

-- the orders that are still to be given, and their moment
pub record ListedState : Type 0 where
  pub rest : List Contents
  pub moment : ℕ

abbrev pub state_of : ListedOrders → ListedState
state_of orders = record { rest = orders.rest.now; moment = orders.moment }

abbrev pub IsEmpty : ListedOrders → Type 0
IsEmpty orders = orders.rest.now ≡ []

-- since it was the first of the two, these were given, from its front on
pub record GaveListed (first now : ListedOrders) (given : List Given) : Type 0 where
  pub orders : List Contents
  pub rest_is : first.rest.now ≡ orders ++ now.rest.now
  pub moment_is : now.moment ≡ first.moment
  pub given_are : given ≡ as_given (reverse (at_moment first.moment orders))

pub gave_none : (orders : ListedOrders) → GaveListed orders orders []
gave_none orders = record { orders = []; rest_is = refl; moment_is = refl; given_are = refl }
