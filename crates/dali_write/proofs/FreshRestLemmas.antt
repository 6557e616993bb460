-- The grounds of the verdict of a fresh session.
use Rattle.std.proofs.Common.{slice_get, length, arith, ◌≡◌, refl, sym, subst, ℕ, ◌≤◌, Bool, true, false, ◌==◌, ◌&&◌, nat_lt, if◌then◌else◌, List}
use Rattle.std.proofs.Common.{[], ◌∷◌, get_or, Option, Some, None, arith}
use Rattle.std.proofs.lemmas.Bool.{eqb-true, ltb-true, ltb-false}
use Rattle.std.proofs.lemmas.List.{append-nil}
use Rattle.std.specs.Cmp.{first_so, second_so}
use Rattle.dali_write.specs.Exchanges.{Exchange}
use Rattle.dali_write.specs.declared.ask.Ask.TheVariants.{Ended}
use Rattle.dali_write.specs.declared.ask.Verdict.{Verdict}
use Rattle.dali_write.specs.declared.ask.Verdict.TheVariants.{MayOpen, Short, Format, Silent}
use Rattle.dali_write.specs.Findings.{Rests}
use Rattle.dali_write.specs.Plans.{Finish, greatest, read_format, read_format_low}
use Rattle.dali_write.specs.Plans.{read_length}
use Rattle.dali_write.specs.Requests.{block}
use Rattle.dali_write.specs.Tries.{Wants}
use Rattle.dali_write.specs.Reads.{StillRead}
use Rattle.dali_write.specs.Walks.{Walk}
use Rattle.dali_write.proofs.WalkLemmas.{ended_walk}
use Rattle.dali_write.proofs.VerdictLemmas.{finish_walk}
use Rattle.dali_write.proofs.RestLemmas.{After, split, read_access_shows, read_access_keeps, shows_kept}
use Rattle.dali_write.specs.declared.pace.Pace.{Pace}
use Rattle.dali_write.specs.declared.pace.Pace.TheVariants.{Checked, Short as ShortPace}
use Rattle.dali_write.specs.Plans.{judge_format}
use Rattle.dali_write.proofs.RestLemmas.{block_shows}
use Rattle.dali_write.proofs.BlockOneLemmas.{access_count}

-- what a read of two locations has told
two_bytes : (bytes : List ℕ) → length bytes ≡ 2
    → (slice_get bytes 0 ≡ Some (get_or bytes 0 0)) × (slice_get bytes 1 ≡ Some (get_or bytes 1 0))
two_bytes [] two = absurd (omega arith)
two_bytes (one ∷ []) two = absurd (omega arith)
two_bytes (one ∷ other ∷ more) two = (refl, refl)

no_match : (high low : ℕ) → ((high == 0) && (low == 3)) ≡ false → (high ≡ 0) × (low ≡ 3) → ⊥
no_match high low differs both = grind arith

ends_silent : (unit : ℕ) (updates : List (ℕ × ℕ)) (verdict : Verdict) (last : List Exchange)
    (outcomes : List (Option (List ℕ))) (told : List Exchange)
    → Walk unit (Finish Silent) outcomes told (Finish verdict) → Rests (StillRead last unit) updates verdict
ends_silent unit updates verdict last outcomes told walk = grind (arith, finish_walk)

-- it ended at once, in the same world
ends_here : (unit : ℕ) (end verdict : Verdict) (first last : List Exchange) (outcomes : List (Option (List ℕ)))
    (told : List Exchange)
    → Walk unit (Finish end) outcomes told (Finish verdict) → After told first last → (end ≡ verdict) × (last ≡ first)
ends_here unit end verdict first last outcomes told walk run = grind (arith, finish_walk)

-- by the two bytes at 11h and 12h
judged_rests : (unit : ℕ) (updates : List (ℕ × ℕ)) (length high low : ℕ) (verdict : Verdict)
    (outcomes : List (Option (List ℕ))) (told : List Exchange) (first last : List Exchange)
    → StillRead first unit 0 length → greatest updates ≤ length → 0x13 ≤ greatest updates
    → StillRead first unit 0x11 high → StillRead first unit 0x12 low
    → Walk unit (judge_format high low) outcomes told (Finish verdict) → After told first last
    → Rests (StillRead last unit) updates verdict
judged_rests unit updates length high low verdict outcomes told first last size fits long high_is low_is walk run =
    by ((high == 0) && (low == 3)) refl walk
  where
    by : (t : Bool) → ((high == 0) && (low == 3)) ≡ t
        → Walk unit (Finish (if t then MayOpen else Format)) outcomes told (Finish verdict)
        → Rests (StillRead last unit) updates verdict
    by true suits on =
        let over = ends_here unit MayOpen verdict first last outcomes told on run in
        let zero = eqb-true high 0 (first_so (high == 0) (low == 3) suits) in
        let three = eqb-true low 3 (second_so (high == 0) (low == 3) suits) in
        subst (λ (v : Verdict). Rests (StillRead last unit) updates v) over.0
        (subst (λ (w : List Exchange). Rests (StillRead w unit) updates MayOpen) (sym over.1) (
          length,
          size,
          fits,
          λ long. (
            subst (λ (h : ℕ). StillRead first unit 0x11 h) zero high_is,
            subst (λ (l : ℕ). StillRead first unit 0x12 l) three low_is,
          ),
        ))
    by false differs on =
        let over = ends_here unit Format verdict first last outcomes told on run in
        subst (λ (v : Verdict). Rests (StillRead last unit) updates v) over.0
        (subst (λ (w : List Exchange). Rests (StillRead w unit) updates Format) (sym over.1)
        (high, low, high_is, low_is, long, no_match high low differs))

format_low_rests : (unit : ℕ) (updates : List (ℕ × ℕ)) (length high : ℕ) (verdict : Verdict)
    (outcomes : List (Option (List ℕ))) (told : List Exchange) (first last : List Exchange)
    → StillRead first unit 0 length → greatest updates ≤ length → 0x13 ≤ greatest updates
    → StillRead first unit 0x11 high
    → Walk unit (read_format_low high) outcomes told (Finish verdict) → After told first last
    → Rests (StillRead last unit) updates verdict
format_low_rests unit updates length high verdict [] told first last size fits long shows walk run = grind arith
format_low_rests unit updates length high verdict (None ∷ outcomes) told first last size fits long shows walk run =
    ends_silent unit updates verdict last outcomes walk.0 walk.4
format_low_rests unit updates length high verdict
    (Some bytes ∷ outcomes) told first last size fits long shows walk run =
    let parts = split walk.0 walk.1 first last (subst (λ (t : List Exchange). After t first last) walk.2 run) in
    let low_is = read_access_shows unit 0x12 bytes walk.1 first parts.0 walk.3 parts.1 in
    let keeps = read_access_keeps unit (block 0x12 1) (Some bytes) walk.1 first parts.0 walk.3 parts.1 in
    judged_rests unit updates length high (get_or bytes 0 0) verdict outcomes walk.0 parts.0 last
    (shows_kept first parts.0 unit 0 length size keeps) fits long (shows_kept first parts.0 unit 0x11 high shows keeps)
    low_is walk.4 parts.2

format_rests : (unit : ℕ) (pace : Pace) (updates : List (ℕ × ℕ)) (length : ℕ) (verdict : Verdict)
    (outcomes : List (Option (List ℕ))) (told : List Exchange) (first last : List Exchange)
    → StillRead first unit 0 length → greatest updates ≤ length → 0x13 ≤ greatest updates
    → Walk unit (read_format pace) outcomes told (Finish verdict) → After told first last
    → Rests (StillRead last unit) updates verdict
format_rests unit Checked updates length verdict [] told first last size fits long walk run = let no = walk.1 in cc
format_rests unit Checked updates length verdict (None ∷ outcomes) told first last size fits long walk run =
    ends_silent unit updates verdict last outcomes walk.0 walk.4
format_rests unit Checked updates length verdict (Some bytes ∷ outcomes) told first last size fits long walk run =
    let parts = split walk.0 walk.1 first last (subst (λ (t : List Exchange). After t first last) walk.2 run) in
    let high_is = read_access_shows unit 0x11 bytes walk.1 first parts.0 walk.3 parts.1 in
    let keeps = read_access_keeps unit (block 0x11 1) (Some bytes) walk.1 first parts.0 walk.3 parts.1 in
    format_low_rests unit updates length (get_or bytes 0 0) verdict outcomes walk.0 parts.0 last
    (shows_kept first parts.0 unit 0 length size keeps) fits long high_is walk.4 parts.2
format_rests unit ShortPace updates length verdict [] told first last size fits long walk run = let no = walk.1 in cc
format_rests unit ShortPace updates length verdict (None ∷ outcomes) told first last size fits long walk run =
    ends_silent unit updates verdict last outcomes walk.0 walk.4
format_rests unit ShortPace updates length verdict (Some bytes ∷ outcomes) told first last size fits long walk run =
    let parts = split walk.0 walk.1 first last (subst (λ (t : List Exchange). After t first last) walk.2 run) in
    let keeps = read_access_keeps unit (block 0x11 2) (Some bytes) walk.1 first parts.0 walk.3 parts.1 in
    let both = two_bytes bytes (access_count unit (block 0x11 2) bytes walk.1 walk.3) in
    let shows = block_shows unit (block 0x11 2) bytes walk.1 first parts.0 walk.3 parts.1 in
    judged_rests unit updates length (get_or bytes 0 0) (get_or bytes 1 0) verdict outcomes walk.0 parts.0 last
    (shows_kept first parts.0 unit 0 length size keeps) fits long (shows 0 (get_or bytes 0 0) both.0)
    (shows 1 (get_or bytes 1 0) both.1) walk.4 parts.2

length_rests : (unit : ℕ) (pace : Pace) (updates : List (ℕ × ℕ)) (verdict : Verdict) (outcomes : List (Option (List ℕ)))
    (told : List Exchange) (first last : List Exchange)
    → Walk unit (read_length pace updates) outcomes told (Finish verdict) → After told first last
    → Rests (StillRead last unit) updates verdict
length_rests unit pace updates verdict [] told first last walk run = let no = walk.1 in cc
length_rests unit pace updates verdict (None ∷ outcomes) told first last walk run = grind (arith, ends_silent)
length_rests unit pace updates verdict (Some bytes ∷ outcomes) told first last walk run =
    let parts = split walk.0 walk.1 first last (subst (λ (t : List Exchange). After t first last) walk.2 run) in
    let size_is = read_access_shows unit 0 bytes walk.1 first parts.0 walk.3 parts.1 in
    by parts.0 parts.2 size_is (nat_lt (get_or bytes 0 0) (greatest updates)) refl (nat_lt (greatest updates) 0x13)
    refl walk.4 where
      length : ℕ
      length = get_or bytes 0 0

      by : (mid : List Exchange) → After walk.0 mid last → StillRead mid unit 0 length → (s : Bool)
          → nat_lt length (greatest updates) ≡ s → (t : Bool) → nat_lt (greatest updates) 0x13 ≡ t
          → Walk unit (if s then Finish Short else (if t then Finish MayOpen else read_format pace)) outcomes walk.0
          (Finish verdict)
          → Rests (StillRead last unit) updates verdict
      by mid run size_is true short t early on =
          let over = ends_here unit Short verdict mid last outcomes walk.0 on run in
          subst (λ (v : Verdict). Rests (StillRead last unit) updates v) over.0
          (subst (λ (w : List Exchange). Rests (StillRead w unit) updates Short) (sym over.1)
          (length, size_is, ltb-true length (greatest updates) short))
      by mid run size_is false fits true early on =
          let over = ends_here unit MayOpen verdict mid last outcomes walk.0 on run in
          let below = ltb-true (greatest updates) 0x13 early in
          subst (λ (v : Verdict). Rests (StillRead last unit) updates v) over.0
          (subst (λ (w : List Exchange). Rests (StillRead w unit) updates MayOpen) (sym over.1)
          (length, size_is, ltb-false length (greatest updates) fits, λ long. let no : ⊥ = omega arith in absurd no))
      by mid run size_is false fits false late on =
          format_rests unit pace updates length verdict outcomes walk.0 mid last size_is
          (ltb-false length (greatest updates) fits) (ltb-false (greatest updates) 0x13 late) on run

pub fresh_rests : (told : List Exchange) (unit : ℕ) (pace : Pace) (updates : List (ℕ × ℕ)) (verdict : Verdict)
    → Wants unit (read_length pace updates) told (Ended verdict) → Rests (StillRead told unit) updates verdict
fresh_rests told unit pace updates verdict wants =
    let ended = ended_walk unit (read_length pace updates) told verdict wants in
    length_rests unit pace updates verdict ended.0 told [] told ended.1 (sym (append-nil told))
