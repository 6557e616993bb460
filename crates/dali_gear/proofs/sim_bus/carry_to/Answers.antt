use Rattle.std.proofs.Common.{◌<◌, ◌≡◌, ◌+◌, ◌++◌, [], length, take, subst, arith, sym, ◌∙◌, length-append}
use Rattle.std.proofs.lemmas.List.{append-nil}
use Rattle.std.proofs.lemmas.List.Edits.{map_over_more}
use Rattle.std.specs.List.{filter_map, cons_option}
use Rattle.dali_gear.specs.SimState.{unit_after, unit_answer}
use Rattle.dali_gear.specs.UnitState.{UnitState}
use Rattle.dali_gear.proofs.SimLemmas.{answers_more, first_more, first_of_none}
use Rattle.dali_gear.proofs.sim_bus.carry_to.Goals as goal
use Rattle.dali_gear.proofs.sim_bus.carry_to.Goals.{in-Some, then-count-eq0, else-count-eq0, in_default, Joined-answer}

lt : (c : Joined-answer) → c.loop-unit.unit-index < length c.args.units.now
lt c = c.loop-unit-test.true

-- what the unit of this turn answered
told : (c : Joined-answer) → c.hear_by-answer.result ≡ unit_answer c.args.fate.now c.args.frame.now c.unit-item.result
told c =
    let P : UnitState → Type 0 = λ u. c.hear_by-answer.result ≡ unit_answer c.args.fate.now c.args.frame.now u in
    subst P (sym c.unit-item.is) c.hear_by-answer.ensures.answer

more : (c : Joined-answer)
    → filter_map (unit_answer c.args.fate.now c.args.frame.now) (take (c.loop-unit.unit-index + 1) c.args.units.now)
    ≡ filter_map (unit_answer c.args.fate.now c.args.frame.now) (take c.loop-unit.unit-index c.args.units.now)
    ++ cons_option c.hear_by-answer.result []
more c =
    answers_more (unit_after c.args.fate.now c.args.frame.now) (unit_answer c.args.fate.now c.args.frame.now)
    c.args.units.now c.loop-unit.units
    c.loop-unit.unit-index c.unit-item.result c.hear_by-answer.result (lt c) c.loop-unit.invariant.units c.unit-item.is
    (told c)

pub loop-unit-preserved : goal.loop-unit-preserved
loop-unit-preserved c =
    record {
      units =
          let P : UnitState → Type 0 = λ u. c.hear_by-answer.new.unit ≡ unit_after c.args.fate.now c.args.frame.now u in
          let after = subst P (sym c.unit-item.is) c.hear_by-answer.ensures.after in
          rw after
          (map_over_more (unit_after c.args.fate.now c.args.frame.now) c.args.units.now c.loop-unit.units
          c.loop-unit.unit-index c.unit-item.result
          (lt c) c.loop-unit.invariant.units c.unit-item.is);
      count = rw (more c) (elim c.match-answer.branch [
        | in-Some w ↦ rw (w.in-Some.is, w.count-is) (simp length-append (omega arith))
        | in_default w ↦ rw (w.in_default.is, w.count-is) (simp append-nil (c.loop-unit.invariant.count))
      ]);
      first = rw (more c) (elim c.match-answer.branch [
        | in-Some w ↦ rw (w.in-Some.is, w.first-is) (elim w.if-count-eq0.branch [
          | then-count-eq0 w' ↦
              rw w'.first-is (sym (first_of_none
              (filter_map (unit_answer c.args.fate.now c.args.frame.now) (take c.loop-unit.unit-index c.args.units.now))
              w.in-Some.byte (omega arith)))
          | else-count-eq0 w' ↦
              rw w'.first-is (c.loop-unit.invariant.first
              ∙ sym (first_more
              (filter_map (unit_answer c.args.fate.now c.args.frame.now) (take c.loop-unit.unit-index c.args.units.now))
              w.in-Some.byte (λ e. omega arith)))
        ])
        | in_default w ↦ rw (w.in_default.is, w.first-is) (simp append-nil (c.loop-unit.invariant.first))
      ]);
      few = elim c.match-answer.branch [ in-Some w ↦ omega arith | in_default w ↦ omega arith ];
    }
