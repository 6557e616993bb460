use Rattle.std.proofs.Common.{◌≡◌}
use Rattle.dali_write.specs.declared.ask.Ask.TheVariants as asks
use Rattle.dali_write.specs.Told.{unit_of, aim_of}
use Rattle.dali_trace.specs.declared.happening.Want.TheVariants.{Send}
use Rattle.dali_engine.specs.declared.phase.Phase.TheVariants.{Checks, Writes, Closes}
use Rattle.dali_engine.specs.Phases.{check_of, write_of, closing_of}
use Rattle.dali_engine.specs.WriterState.{IsReady}
use Rattle.dali_engine.specs.Describes.{Describes}
use Rattle.dali_engine.proofs.StepLemmas.{checks_on, writes_on, closes_on}
use Rattle.dali_engine.proofs.SayLemmas.{check_sends, write_sends, closing_sends_it}
use Rattle.dali_engine.specs.Follows.{Follows}
use Rattle.dali_engine.proofs.FollowLemmas.{checks_follow, writes_follow, closes_follow}
use Rattle.dali_engine.proofs.writer.Writer.heard.Goals as goal
use Rattle.dali_engine.proofs.writer.Writer.heard.Goals.{in-Checks, in-Writes, in-Closes, in-Idle, in-Begins, in-Says}

pub returns-clause-described : goal.returns-clause-described
returns-clause-described c = λ start past frame want d. elim c.match-self.branch [
  | in-Checks w ↦
      let before : Describes start past
      (record {
        journal = c.self.inside.journal;
        phase = Checks w.in-Checks.field-0 w.in-Checks.session;
        pace =
            c.self.inside.pace;
      }) =
      rw (← w.in-Checks.is) (rw (← c.self.view_is) at d) in
      let ready : IsReady c.self.inside.pace (Checks w.in-Checks.field-0 w.in-Checks.session) c.self.inside.journal =
      rw w.in-Checks.is at c.self.invariant.ready in
      let wanted : check_of w.in-Checks.field-0.unit (aim_of w.in-Checks.session) ≡ Send frame =
      rw w.in-Checks.is at (rw (← c.self.view_is) at want) in
      let aim : aim_of w.in-Checks.session ≡ asks.Send frame =
      check_sends w.in-Checks.field-0.unit (aim_of w.in-Checks.session) frame wanted in
      rw w.self-inside-is
      (checks_on c.self.inside.pace start past c.self.inside.journal w.in-Checks.field-0 w.in-Checks.session _ frame
      c.args.answer before ready aim
      (λ told is_told. w.heard.ensures.told told frame aim is_told))
  | in-Writes w ↦
      let before : Describes start past
      (record {
        journal = c.self.inside.journal;
        phase = Writes w.in-Writes.field-0 w.in-Writes.session;
        pace =
            c.self.inside.pace;
      }) =
      rw (← w.in-Writes.is) (rw (← c.self.view_is) at d) in
      let ready : IsReady c.self.inside.pace (Writes w.in-Writes.field-0 w.in-Writes.session) c.self.inside.journal =
      rw w.in-Writes.is at c.self.invariant.ready in
      let wanted : write_of (aim_of w.in-Writes.session) ≡ Send frame =
      rw w.in-Writes.is at (rw (← c.self.view_is) at want) in
      let aim : aim_of w.in-Writes.session ≡ asks.Send frame = write_sends (aim_of w.in-Writes.session) frame wanted in
      rw w.self-inside-is
      (writes_on c.self.inside.pace start past c.self.inside.journal w.in-Writes.field-0 w.in-Writes.session _ frame
      c.args.answer before ready aim
      (λ told is_told. w.heard-in-Writes.ensures.told told frame aim is_told))
  | in-Closes w ↦
      let before : Describes start past
      (record {
        journal = c.self.inside.journal;
        phase = Closes w.in-Closes.field-0 w.in-Closes.field-1 w.in-Closes.session;
        pace = c.self.inside.pace;
      }) =
      rw (← w.in-Closes.is) (rw (← c.self.view_is) at d) in
      let ready : IsReady c.self.inside.pace (Closes w.in-Closes.field-0 w.in-Closes.field-1 w.in-Closes.session)
      c.self.inside.journal =
      rw w.in-Closes.is at c.self.invariant.ready in
      let wanted : closing_of w.in-Closes.field-0.id (unit_of w.in-Closes.session) (aim_of w.in-Closes.session)
      ≡ Send frame =
      rw w.in-Closes.is at (rw (← c.self.view_is) at want) in
      let aim : aim_of w.in-Closes.session ≡ asks.Send frame =
      closing_sends_it w.in-Closes.field-0.id (unit_of w.in-Closes.session) (aim_of w.in-Closes.session) frame wanted in
      rw w.self-inside-is
      (closes_on c.self.inside.pace start past c.self.inside.journal w.in-Closes.field-0 w.in-Closes.field-1
      w.in-Closes.session _ frame
      c.args.answer before ready aim
      (λ told is_told. w.heard-in-Closes.ensures.told told frame aim is_told))
  | in-Idle w ↦ let never = rw w.in-Idle.is at (rw (← c.self.view_is) at want) in cc
  | in-Begins w ↦ let never = rw w.in-Begins.is at (rw (← c.self.view_is) at want) in cc
  | in-Says w ↦ let never = rw w.in-Says.is at (rw (← c.self.view_is) at want) in cc
]

pub returns-clause-follows : goal.returns-clause-follows
returns-clause-follows c = λ start past frame want d f. elim c.match-self.branch [
  | in-Checks w ↦
      let before : Describes start past
      (record {
        journal = c.self.inside.journal;
        phase = Checks w.in-Checks.field-0 w.in-Checks.session;
        pace =
            c.self.inside.pace;
      }) =
      rw (← w.in-Checks.is) (rw (← c.self.view_is) at d) in
      let follows : Follows start past
      (record {
        journal = c.self.inside.journal;
        phase = Checks w.in-Checks.field-0 w.in-Checks.session;
        pace =
            c.self.inside.pace;
      }) =
      rw (← w.in-Checks.is) (rw (← c.self.view_is) at f) in
      let ready : IsReady c.self.inside.pace (Checks w.in-Checks.field-0 w.in-Checks.session) c.self.inside.journal =
      rw w.in-Checks.is at c.self.invariant.ready in
      let wanted : check_of w.in-Checks.field-0.unit (aim_of w.in-Checks.session) ≡ Send frame =
      rw w.in-Checks.is at (rw (← c.self.view_is) at want) in
      let aim : aim_of w.in-Checks.session ≡ asks.Send frame =
      check_sends w.in-Checks.field-0.unit (aim_of w.in-Checks.session) frame wanted in
      rw w.self-inside-is
      (checks_follow c.self.inside.pace start past c.self.inside.journal w.in-Checks.field-0 w.in-Checks.session _
      frame c.args.answer before follows ready aim
      (λ told is_told. w.heard.ensures.told told frame aim is_told))
  | in-Writes w ↦
      let before : Describes start past
      (record {
        journal = c.self.inside.journal;
        phase = Writes w.in-Writes.field-0 w.in-Writes.session;
        pace =
            c.self.inside.pace;
      }) =
      rw (← w.in-Writes.is) (rw (← c.self.view_is) at d) in
      let follows : Follows start past
      (record {
        journal = c.self.inside.journal;
        phase = Writes w.in-Writes.field-0 w.in-Writes.session;
        pace =
            c.self.inside.pace;
      }) =
      rw (← w.in-Writes.is) (rw (← c.self.view_is) at f) in
      let ready : IsReady c.self.inside.pace (Writes w.in-Writes.field-0 w.in-Writes.session) c.self.inside.journal =
      rw w.in-Writes.is at c.self.invariant.ready in
      let wanted : write_of (aim_of w.in-Writes.session) ≡ Send frame =
      rw w.in-Writes.is at (rw (← c.self.view_is) at want) in
      let aim : aim_of w.in-Writes.session ≡ asks.Send frame = write_sends (aim_of w.in-Writes.session) frame wanted in
      rw w.self-inside-is
      (writes_follow c.self.inside.pace start past c.self.inside.journal w.in-Writes.field-0 w.in-Writes.session _
      frame c.args.answer before follows ready aim
      (λ told is_told. w.heard-in-Writes.ensures.told told frame aim is_told))
  | in-Closes w ↦
      let before : Describes start past
      (record {
        journal = c.self.inside.journal;
        phase = Closes w.in-Closes.field-0 w.in-Closes.field-1 w.in-Closes.session;
        pace = c.self.inside.pace;
      }) =
      rw (← w.in-Closes.is) (rw (← c.self.view_is) at d) in
      let follows : Follows start past
      (record {
        journal = c.self.inside.journal;
        phase = Closes w.in-Closes.field-0 w.in-Closes.field-1 w.in-Closes.session;
        pace = c.self.inside.pace;
      }) =
      rw (← w.in-Closes.is) (rw (← c.self.view_is) at f) in
      let ready : IsReady c.self.inside.pace (Closes w.in-Closes.field-0 w.in-Closes.field-1 w.in-Closes.session)
      c.self.inside.journal =
      rw w.in-Closes.is at c.self.invariant.ready in
      let wanted : closing_of w.in-Closes.field-0.id (unit_of w.in-Closes.session) (aim_of w.in-Closes.session)
      ≡ Send frame =
      rw w.in-Closes.is at (rw (← c.self.view_is) at want) in
      let aim : aim_of w.in-Closes.session ≡ asks.Send frame =
      closing_sends_it w.in-Closes.field-0.id (unit_of w.in-Closes.session) (aim_of w.in-Closes.session) frame wanted in
      rw w.self-inside-is
      (closes_follow c.self.inside.pace start past c.self.inside.journal w.in-Closes.field-0 w.in-Closes.field-1
      w.in-Closes.session _
      frame c.args.answer before follows ready aim
      (λ told is_told. w.heard-in-Closes.ensures.told told frame aim is_told))
  | in-Idle w ↦ let never = rw w.in-Idle.is at (rw (← c.self.view_is) at want) in cc
  | in-Begins w ↦ let never = rw w.in-Begins.is at (rw (← c.self.view_is) at want) in cc
  | in-Says w ↦ let never = rw w.in-Says.is at (rw (← c.self.view_is) at want) in cc
]
