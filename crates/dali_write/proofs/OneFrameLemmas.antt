-- The effect of a frame that is meant for one unit on the simulated bus.
use Rattle.std.proofs.Common.{◌≡◌, ◌≢◌, inl, inr, refl, sym, ap, subst, ◌∙◌, ℕ, Bool, true, false, ◌&&◌, ◌||◌, List, []}
use Rattle.std.proofs.Common.{◌∷◌, map, Option, Some, None}
use Rattle.std.specs.Prelude.{◌==◌, if◌then◌else◌, ⊤}
use Rattle.std.specs.List.{filter_map, cons_option}
use Rattle.std.proofs.lemmas.Bool.{eq-eqb, ne_eqb}
use Rattle.std.specs.List.{AllByRecursion}
use Rattle.dali_frame.specs.declared.forward.Frame.{Frame}
use Rattle.dali_frame.specs.declared.forward.Frame.TheVariants.{Dtr0, Dtr1, Dtr2, Write, WriteSilent, Enable, AskDtr0}
use Rattle.dali_frame.specs.declared.forward.Frame.TheVariants.{AskDtr1, AskDtr2, Read, Other}
use Rattle.dali_gear.specs.declared.fate.Fate.{Fate}
use Rattle.dali_gear.specs.Fate.{is_lost, next_fate}
use Rattle.dali_gear.specs.UnitState.{UnitState, after_frame, answer_to}
use Rattle.dali_gear.specs.SimState.{SimState, SimCarry, unit_after, unit_answer, only_answer}
use Rattle.dali_gear.specs.SimSteps.{fate_keeps}
use Rattle.dali_write.specs.Losses.{answers_at, is_loss, IsElse, IsAlone}

-- no other unit is enabled or asked by the frame
abbrev pub IsFor : ℕ → Frame → Type 0
IsFor at (Dtr0 b) = ⊤
IsFor at (Dtr1 b) = ⊤
IsFor at (Dtr2 b) = ⊤
IsFor at (Write b) = ⊤
IsFor at (WriteSilent b) = ⊤
IsFor at (Enable to) = to ≡ at
IsFor at (AskDtr0 to) = to ≡ at
IsFor at (AskDtr1 to) = to ≡ at
IsFor at (AskDtr2 to) = to ≡ at
IsFor at (Read to) = to ≡ at
IsFor at (Other w) = ⊤

not_to : (to at address : ℕ) → to ≡ at → address ≢ at → (to == address) ≡ false
not_to to at address same other = ne_eqb to address (λ e. other (sym e ∙ same))

-- another unit stays off, and answers nothing
off_after : (refuses : Bool) (at : ℕ) (unit : UnitState) (frame : Frame) → IsFor at frame → unit.address ≢ at
    → unit.enabled ≡ false
    → (after_frame refuses unit frame).enabled ≡ false
off_after refuses at unit (Dtr0 b) is other off = off
off_after refuses at unit (Dtr1 b) is other off = off
off_after refuses at unit (Dtr2 b) is other off = off
off_after refuses at unit (Write b) is other off = rw off refl
off_after refuses at unit (WriteSilent b) is other off = rw off refl
off_after refuses at unit (Enable to) is other off = rw (not_to to at unit.address is other) off
off_after refuses at unit (AskDtr0 to) is other off = off
off_after refuses at unit (AskDtr1 to) is other off = off
off_after refuses at unit (AskDtr2 to) is other off = off
off_after refuses at unit (Read to) is other off = rw (not_to to at unit.address is other) off
off_after refuses at unit (Other w) is other off = refl

silent : (refuses : Bool) (at : ℕ) (unit : UnitState) (frame : Frame) → IsFor at frame → unit.address ≢ at
    → unit.enabled ≡ false
    → answer_to refuses unit frame ≡ None
silent refuses at unit (Dtr0 b) is other off = refl
silent refuses at unit (Dtr1 b) is other off = refl
silent refuses at unit (Dtr2 b) is other off = refl
silent refuses at unit (Write b) is other off = rw off refl
silent refuses at unit (WriteSilent b) is other off = refl
silent refuses at unit (Enable to) is other off = refl
silent refuses at unit (AskDtr0 to) is other off = rw (not_to to at unit.address is other) refl
silent refuses at unit (AskDtr1 to) is other off = rw (not_to to at unit.address is other) refl
silent refuses at unit (AskDtr2 to) is other off = rw (not_to to at unit.address is other) refl
silent refuses at unit (Read to) is other off = rw (not_to to at unit.address is other) refl
silent refuses at unit (Other w) is other off = refl

pub else_after : (fate : Fate) (at : ℕ) (unit : UnitState) (frame : Frame) → IsFor at frame → IsElse at unit
    → IsElse at (unit_after fate frame unit)
else_after fate at unit frame is other = (rw (fate_keeps fate frame unit) other.0, off)
  where
    by : (b : Bool) → (if b then unit else after_frame fate.refuse unit frame).enabled ≡ false
    by true = other.1
    by false = off_after fate.refuse at unit frame is other.0 other.1

    off : (unit_after fate frame unit).enabled ≡ false
    off = by (is_lost fate unit.address)

else_silent : (fate : Fate) (at : ℕ) (unit : UnitState) (frame : Frame) → IsFor at frame → IsElse at unit
    → unit_answer fate frame unit ≡ None
else_silent fate at unit frame is other = by (is_lost fate unit.address)
  where
    by : (b : Bool) → (if b then None else answer_to fate.refuse unit frame) ≡ None
    by true = refl
    by false = silent fate.refuse at unit frame is other.0 other.1

all_else_after : (fate : Fate) (at : ℕ) (units : List UnitState) (frame : Frame) → IsFor at frame
    → AllByRecursion (IsElse at) units
    → AllByRecursion (IsElse at) (map (unit_after fate frame) units)
all_else_after fate at [] frame is all = tt
all_else_after fate at (unit ∷ units) frame is all =
    (else_after fate at unit frame is all.0, all_else_after fate at units frame is all.1)

all_else_silent : (fate : Fate) (at : ℕ) (units : List UnitState) (frame : Frame) → IsFor at frame
    → AllByRecursion (IsElse at) units
    → filter_map (unit_answer fate frame) units ≡ []
all_else_silent fate at [] frame is all = refl
all_else_silent fate at (unit ∷ units) frame is all =
    rw (else_silent fate at unit frame is all.0) (all_else_silent fate at units frame is all.1)

-- the unit stays alone
pub alone_after : (fate : Fate) (at : ℕ) (unit : UnitState) (units : List UnitState) (frame : Frame) → IsFor at frame
    → IsAlone at unit units
    → IsAlone at (unit_after fate frame unit) (map (unit_after fate frame) units)
alone_after fate at unit [] frame is alone = absurd alone
alone_after fate at unit (first ∷ units) frame is (inl here) =
    inl (
      ap (unit_after fate frame) here.0,
      fate_keeps fate frame unit ∙ here.1,
      all_else_after fate at units frame is here.2,
    )
alone_after fate at unit (first ∷ units) frame is (inr further) =
    inr (else_after fate at first frame is further.0, alone_after fate at unit units frame is further.1)

-- the answers are its own
own_answers : (fate : Fate) (at : ℕ) (unit : UnitState) (units : List UnitState) (frame : Frame) → IsFor at frame
    → IsAlone at unit units
    → filter_map (unit_answer fate frame) units ≡ cons_option (unit_answer fate frame unit) []
own_answers fate at unit [] frame is alone = absurd alone
own_answers fate at unit (first ∷ units) frame is (inl here) =
    rw (here.0, all_else_silent fate at units frame is here.2) refl
own_answers fate at unit (first ∷ units) frame is (inr further) =
    rw (else_silent fate at first frame is further.0) (own_answers fate at unit units frame is further.1)

pub address_of : (at : ℕ) (unit : UnitState) (units : List UnitState) → IsAlone at unit units → unit.address ≡ at
address_of at unit [] alone = absurd alone
address_of at unit (first ∷ units) (inl here) = here.1
address_of at unit (first ∷ units) (inr further) = address_of at unit units further.1

-- if it answers, it is found to answer
found_answering : (fate : Fate) (at : ℕ) (unit : UnitState) (units : List UnitState) (frame : Frame) (byte : ℕ)
    → IsAlone at unit units
    → unit_answer fate frame unit ≡ Some byte → answers_at at fate frame units ≡ true
found_answering fate at unit [] frame byte alone answers = absurd alone
found_answering fate at unit (first ∷ units) frame byte (inl here) answers =
    rw (here.0, eq-eqb unit.address at here.1, answers) refl
found_answering fate at unit (first ∷ units) frame byte (inr further) answers =
    rw (ne_eqb first.address at further.0.0) (found_answering fate at unit units frame byte further.1 answers)

-- the unit has heard the frame, and if it answers, that comes back
pub record HeardWhole (at : ℕ) (unit : UnitState) (frame : Frame) (answer : Option ℕ) (new : SimState) : Type 0 where
  pub alone : IsAlone at (after_frame false unit frame) new.units
  pub answered : (byte : ℕ) → answer_to false unit frame ≡ Some byte → answer ≡ Some byte

loss_parts : (lost answer_lost answers : Bool) → (lost || (answer_lost && answers)) ≡ false
    → (lost ≡ false) × (answers ≡ true → answer_lost ≡ false)
loss_parts true answer_lost answers e = cc
loss_parts false true true e = cc
loss_parts false true false e = (refl, λ h. sym h)
loss_parts false false answers e = (refl, λ h. refl)

comes_back : (lost : Bool) (own : Option ℕ) (byte : ℕ) (answers : List ℕ) → lost ≡ false → answers ≡ cons_option own []
    → own ≡ Some byte
    → (if lost then None else only_answer answers) ≡ Some byte
comes_back lost own byte answers whole are is = rw (whole, are, is) refl

-- a frame that is no loss to the unit, and is not refused
pub heard_whole : (at : ℕ) (old : SimState) (unit : UnitState) (frame : Frame) (answer : Option ℕ) (new : SimState)
    → SimCarry old frame answer new
    → IsFor at frame → IsAlone at unit old.units → is_loss at old frame ≡ false → (next_fate old.fates).refuse ≡ false
    → HeardWhole at unit frame answer new
heard_whole at old unit frame answer new access is alone whole kind =
    let fate = next_fate old.fates in
    let parts = loss_parts (is_lost fate at) fate.answer_lost (answers_at at fate frame old.units) whole in
    let here : is_lost fate unit.address ≡ false = rw (address_of at unit old.units alone) parts.0 in
    let after : unit_after fate frame unit ≡ after_frame false unit frame = rw (here, kind) refl in
    let own : unit_answer fate frame unit ≡ answer_to false unit frame = rw (here, kind) refl in
    record {
      alone =
          rw access.units (subst (λ (u : UnitState). IsAlone at u (map (unit_after fate frame) old.units)) after
          (alone_after fate at unit old.units frame is alone));
      answered = λ byte answers.
          access.answers
          ∙ comes_back fate.answer_lost (unit_answer fate frame unit) byte
          (filter_map (unit_answer fate frame) old.units)
          (parts.1 (found_answering fate at unit old.units frame byte alone (own ∙ answers)))
          (own_answers fate at unit old.units frame is alone) (own ∙ answers);
    }

-- what came back is what it answered
pub own_answer : (at : ℕ) (old : SimState) (unit : UnitState) (frame : Frame) (answer : Option ℕ) (new : SimState)
    → SimCarry old frame answer new
    → IsFor at frame → IsAlone at unit old.units → (byte : ℕ) → answer ≡ Some byte
    → unit_answer (next_fate old.fates) frame unit ≡ Some byte
own_answer at old unit frame answer new access is alone byte back =
    let fate = next_fate old.fates in
    by fate.answer_lost (unit_answer fate frame unit) (own_answers fate at unit old.units frame is alone)
    (sym access.answers ∙ back)
  where
    by : (lost : Bool) (own : Option ℕ)
        → filter_map (unit_answer (next_fate old.fates) frame) old.units ≡ cons_option own []
        → (if lost then None else only_answer (filter_map (unit_answer (next_fate old.fates) frame) old.units))
        ≡ Some byte
        → own ≡ Some byte
    by true own are e = cc
    by false None are e =
        let P : List ℕ → Type 0 = λ l. only_answer l ≡ Some byte in let none : None ≡ Some byte = subst P are e in cc
    by false (Some b) are e = let P : List ℕ → Type 0 = λ l. only_answer l ≡ Some byte in subst P are e

-- the unit after the frame is still alone at its address, whatever the fate
pub alone_then : (at : ℕ) (old : SimState) (unit : UnitState) (frame : Frame) (answer : Option ℕ) (new : SimState)
    → SimCarry old frame answer new
    → IsFor at frame → IsAlone at unit old.units → IsAlone at (unit_after (next_fate old.fates) frame unit) new.units
alone_then at old unit frame answer new access is alone =
    rw access.units (alone_after (next_fate old.fates) at unit old.units frame is alone)
