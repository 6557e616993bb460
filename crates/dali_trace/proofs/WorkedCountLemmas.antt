-- Counts of the worked traces: frames, orders that were taken, and whether a reply is due.
use Rattle.std.proofs.Common.{◌≡◌, refl, [], ◌∷◌, length}
use Rattle.dali_trace.specs.Trace.{sent_of}
use Rattle.dali_trace.specs.Taken.{taken_orders}
use Rattle.dali_trace.specs.Legal.{IsFinished}
use Rattle.dali_trace.specs.Worked.{first_order, second_order, asked, first_carried_out, unreached, blocked, second_begun}
use Rattle.dali_trace.specs.Worked.{taken_after_a_stop}

pub finished : IsFinished first_carried_out
finished = tt

pub not_finished : IsFinished asked → ⊥
not_finished finished = finished

pub frames_of_an_order : length (sent_of first_carried_out) ≡ 112
frames_of_an_order = refl

pub frames_to_a_left_unit : length (sent_of unreached) ≡ 48
frames_to_a_left_unit = refl

pub one_taken : taken_orders first_carried_out ≡ first_order ∷ []
one_taken = refl

pub none_taken_where_blocked : taken_orders blocked ≡ []
none_taken_where_blocked = refl

pub taken_once_it_began : taken_orders second_begun ≡ second_order ∷ []
taken_once_it_began = refl

pub taken_once_through_a_stop : taken_orders taken_after_a_stop ≡ first_order ∷ []
taken_once_through_a_stop = refl
