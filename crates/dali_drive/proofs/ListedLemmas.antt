-- One order more of a list is given.
use Rattle.std.proofs.Common.{◌≡◌, ◌∙◌, sym, ap, ℕ, List, [], ◌∷◌, ◌++◌, append_assoc, reverse}
use Rattle.std.proofs.lemmas.List.{reverse-append, map-append}
use Rattle.dali_bank.specs.Order.{Contents}
use Rattle.dali_drive.specs.declared.following.Given.{Given}
use Rattle.dali_drive.specs.declared.following.Given.TheVariants as gives
use Rattle.dali_drive.specs.declared.listed.ListedOrders.{ListedOrders}
use Rattle.dali_drive.specs.Driven.{at_moment}
use Rattle.dali_drive.specs.Followed.{as_given}
use Rattle.dali_drive.specs.Listed.{GaveListed}

pub gave_more : (first old new : ListedOrders) (order : Contents) (given : List Given)
    → old.rest.now ≡ order ∷ new.rest.now → new.moment ≡ old.moment → GaveListed first old given
    → GaveListed first new (gives.Order order old.moment ∷ given)
gave_more first old new order given more same gave = record {
  orders = gave.orders ++ order ∷ [];
  rest_is =
      gave.rest_is ∙ ap (λ (rest : List Contents). gave.orders ++ rest) more
      ∙ sym (append_assoc gave.orders (order ∷ []) new.rest.now);
  moment_is = same ∙ gave.moment_is;
  given_are =
      ap (λ (rest : List Given). gives.Order order old.moment ∷ rest) gave.given_are
      ∙ ap (λ (m : ℕ). gives.Order order m ∷ as_given (reverse (at_moment first.moment gave.orders))) gave.moment_is
      ∙ sym (ap as_given (ap reverse (map-append (λ (order : Contents). (order, first.moment)) gave.orders (order ∷ []))
      ∙ reverse-append (at_moment first.moment gave.orders) ((order, first.moment) ∷ [])));
}
