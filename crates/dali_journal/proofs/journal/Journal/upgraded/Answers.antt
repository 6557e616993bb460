use Rattle.std.proofs.Common.{◌≡◌, ◌++◌, ◌∙◌, drop, sym, subst, List, IfErr, vec_len}
use Rattle.std.specs.List.{AllByRecursion}
use Rattle.std.proofs.lemmas.Bool.{eqb-true}
use Rattle.dali_journal.specs.declared.fault.JournalFault.TheVariants as faults
use Rattle.dali_journal.specs.declared.record.Record.{Record}
use Rattle.dali_journal.specs.declared.version.Version.TheVariants.{One}
use Rattle.dali_journal.specs.Spelling.{records_spelling, IsRecord}
use Rattle.dali_journal.specs.JournalState.{HoldsOrders}
use Rattle.dali_journal.specs.Loading.{IsLoadableWithin}
use Rattle.dali_journal.proofs.WidenLemmas.{same_widened, nothing_left}
use Rattle.dali_journal.proofs.journal.Journal.upgraded.Goals as goal

pub upgraded_behind-requires-clause-kept : goal.upgraded_behind-requires-clause-kept
upgraded_behind-requires-clause-kept c =
    let groups = c.in-Ok-take_groups.ensures in
    let new = c.take_groups.new.self in
    record {
      in_range =
          subst (AllByRecursion (IsRecord One))
          (same_widened c.args.bytes.now c.in-Ok.wide.items c.in-Ok-take_groups.rest.items c.in-Ok.len new.records
          c.in-Ok.ensures groups.journal.kept.in_range groups.spelled
          (nothing_left c.in-Ok-take_groups.rest.items (sym c.in-Ok-take_groups.rest.ok.0
          ∙ eqb-true (vec_len c.in-Ok-take_groups.rest) 0 (sym c.is_empty.ensures ∙ c.if-is_empty.true))))
          c.in-Ok.ensures.in_range;
      whole = groups.journal.kept.whole;
    }

pub upgraded_behind-requires-clause-front : goal.upgraded_behind-requires-clause-front
upgraded_behind-requires-clause-front c =
    let groups = c.in-Ok-take_groups.ensures in
    let new = c.take_groups.new.self in
    subst (λ (those : List Record).
    c.args.bytes.now ≡ records_spelling One those ++ drop c.in-Ok.len c.args.bytes.now)
    (same_widened c.args.bytes.now c.in-Ok.wide.items c.in-Ok-take_groups.rest.items c.in-Ok.len new.records
    c.in-Ok.ensures groups.journal.kept.in_range groups.spelled
    (nothing_left c.in-Ok-take_groups.rest.items (sym c.in-Ok-take_groups.rest.ok.0
    ∙ eqb-true (vec_len c.in-Ok-take_groups.rest) 0 (sym c.is_empty.ensures ∙ c.if-is_empty.true))))
    c.in-Ok.ensures.spelled

pub returns-in-Ok-take_groups-clause-torn : goal.returns-in-Ok-take_groups-clause-torn
returns-in-Ok-take_groups-clause-torn c =
    subst (λ n. IfErr c.upgraded_behind.result
    (λ fault. IsLoadableWithin HoldsOrders n c.args.bytes.now → fault ≡ faults.NoMemory))
    c.in-Ok-take_groups.ensures.limit c.upgraded_behind.ensures.torn

pub returns-in_default-take_groups-clause-torn : goal.returns-in_default-take_groups-clause-torn
returns-in_default-take_groups-clause-torn c =
    subst (λ n. IfErr c.upgraded_behind-in_default-take_groups.result
    (λ fault. IsLoadableWithin HoldsOrders n c.args.bytes.now → fault ≡ faults.NoMemory))
    (c.empty.ensures.limit ∙ c.limit-limit.ensures.value) c.upgraded_behind-in_default-take_groups.ensures.torn
