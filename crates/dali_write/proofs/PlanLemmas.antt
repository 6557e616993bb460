-- Properties of a plan whichever way it goes on.
use Rattle.std.proofs.Common.{ℕ, List, Bool, true, false, if◌then◌else◌, Option, Some, None}
use Rattle.dali_write.specs.Plans.{Plan, either_way}

pub either_all : (P : Plan → Type 0) (failed : Plan) (found : List ℕ → Plan) → P failed
    → ((bytes : List ℕ) → P (found bytes))
    → (outcome : Option (List ℕ)) → P (either_way failed found outcome)
either_all P failed found one two None = one
either_all P failed found one two (Some bytes) = two bytes

pub if_all : (P : Plan → Type 0) (b : Bool) (p q : Plan) → P p → P q → P (if b then p else q)
if_all P true p q one two = one
if_all P false p q one two = two
