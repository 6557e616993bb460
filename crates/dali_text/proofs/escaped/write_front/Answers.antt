-- The first characters have been yielded where no more is; whether there are others their number tells.
use Rattle.std.proofs.Common.{◌≡◌, ◌∙◌, sym, List, ℕ, arith, ◌++◌, codes, chars, take, length}
use Rattle.std.proofs.lemmas.Grind.{put_two}
use Rattle.std.proofs.lemmas.Iterator.{YieldsList-from_chars, YieldsList-from_take}
use Rattle.std.proofs.lemmas.Iterator.Consumers.{YieldsList-end, count_from_yields_List}
use Rattle.std.proofs.lemmas.List.{map-id}
use Rattle.dali_text.specs.Escaped.{shown_front, shown_letters}
use Rattle.dali_text.proofs.EscapedLemmas.{front_past, front_whole}
use Rattle.dali_text.proofs.escaped.write_front.Goals as goal

pub returns-then-count-gt-MOST : goal.returns-then-count-gt-MOST
returns-then-count-gt-MOST g c =
    let letters : List ℕ = chars c.args.text.now in
    let all = YieldsList-end (YieldsList-from_take 40 (YieldsList-from_chars c.args.text.now c.utf8.text cc) cc)
    c.loop-letter.yielded _ c.loop-letter.yielded_by _ _ c.in-None.is c.next.ensures.steps in
    let same : c.loop-letter.yielded ≡ take 40 letters = sym (map-id _) ∙ all.0 in
    let count : c.count.result ≡ length letters =
    count_from_yields_List _ _ c.count.ensures.ran (YieldsList-from_chars c.args.text.now c.utf8.text cc) in
    let is : shown_letters c.loop-letter.yielded ++ codes "..." ≡ shown_front 40 letters =
    rw same (front_past 40 letters (omega arith)) in
    λ plain ok. let first = c.loop-letter.invariant plain in
    put_two _ _ _ _ _ _ _ first (c.write_str.ensures.writes first.plain ok) is

pub returns-else-count-gt-MOST : goal.returns-else-count-gt-MOST
returns-else-count-gt-MOST g c =
    let letters : List ℕ = chars c.args.text.now in
    let all = YieldsList-end (YieldsList-from_take 40 (YieldsList-from_chars c.args.text.now c.utf8.text cc) cc)
    c.loop-letter.yielded _ c.loop-letter.yielded_by _ _ c.in-None.is c.next.ensures.steps in
    let same : c.loop-letter.yielded ≡ take 40 letters = sym (map-id _) ∙ all.0 in
    let count : c.count.result ≡ length letters =
    count_from_yields_List _ _ c.count.ensures.ran (YieldsList-from_chars c.args.text.now c.utf8.text cc) in
    let is : shown_letters c.loop-letter.yielded ≡ shown_front 40 letters =
    rw same (front_whole 40 letters (omega arith)) in
    λ plain ok. rw is at (c.loop-letter.invariant plain)
