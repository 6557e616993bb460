use Rattle.std.proofs.Common.{◌≡◌, ◌+◌, ◌-◌, ◌++◌, ◌∙◌, take, drop, sym, ap, subst, List, ℕ, arith}
use Rattle.std.specs.Int.{w64, to_be_bytes}
use Rattle.dali_journal.specs.declared.version.Version.TheVariants.{One}
use Rattle.dali_journal.specs.GroupAhead.{HasGroup, AreWidened}
use Rattle.dali_journal.proofs.IndexLemmas.{slice_rest}
use Rattle.dali_journal.proofs.WidenLemmas.{widened_more}
use Rattle.dali_journal.proofs.widen.widened.Goals as goal

pub loop-group-preserved : goal.loop-group-preserved
loop-group-preserved c =
    let l = c.loop-group in
    let group = c.in-Some.group in
    let bytes = c.args.bytes.now in
    let has = subst (λ (bs : List ℕ). HasGroup One group.id group.code group.len bs) (slice_rest l.at bytes)
    c.in-Some.ensures in
    let there : l.at + group.len - l.at ≡ group.len = omega arith in
    subst (λ (bs : List ℕ). AreWidened bytes (l.at + group.len) bs)
    (sym (c.in_ok-push_widened.ensures
    ∙ ap (λ n. l.wide.items ++ (take 9 (take n (drop l.at bytes))
    ++ (to_be_bytes w64 0 ++ drop 9 (take n (drop l.at bytes))))) there))
    (widened_more bytes l.wide.items l.at group.len group.id group.code l.invariant has)
