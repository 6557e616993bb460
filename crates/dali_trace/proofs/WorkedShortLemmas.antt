-- Done by the short plan, near the edges of what a row allows that told another byte.
use Rattle.std.proofs.Common.{◌≡◌, refl, sym, ◌∙◌, ℕ, zero, suc, ◌+◌, ◌≤◌, List, [], ◌∷◌, length, Some, arith}
use Rattle.dali_journal.specs.declared.record.Code.TheVariants as codes
use Rattle.dali_journal.specs.declared.record.Record.TheVariants.{Opened, Ended}
use Rattle.dali_journal.specs.declared.standing.Standing.TheVariants as standings
use Rattle.dali_write.specs.declared.pace.Pace.TheVariants.{Short}
use Rattle.dali_write.specs.Misses.{misses_in, others_in, IsLong}
use Rattle.dali_write.specs.Plans.{read_backs}
use Rattle.dali_trace.specs.declared.happening.Happening.{Happening}
use Rattle.dali_trace.specs.declared.happening.Happening.TheVariants.{Kept}
use Rattle.dali_trace.specs.Runs.{fresh}
use Rattle.dali_trace.specs.Trace.{pace_at, sent_since_taken}
use Rattle.dali_trace.specs.Work.{stood_at, frames_from, order_at_hand, IsSaidSo}
use Rattle.dali_trace.specs.Worked.{first_order}
use Rattle.dali_trace.specs.WorkedPlans.{row_told, frames_more, opened_said}

-- a row of four, and this many frames that ask for nothing
abbrev behind_row : ℕ → ℕ → ℕ → List Happening
behind_row first last n = frames_more n (row_told first (last ∷ 0xCE ∷ 0xA4 ∷ 0x03 ∷ []))

more_length : (first last n : ℕ) → length (sent_since_taken (behind_row first last n)) ≡ 5 + n
more_length first last zero = refl
more_length first last (suc n) = let rest = more_length first last n in omega arith

more_misses : (first last n : ℕ) → misses_in (sent_since_taken (behind_row first last n)) ≡ 0
more_misses first last zero = refl
more_misses first last (suc n) = let rest = more_misses first last n in omega arith

more_others : (first last n : ℕ)
    → others_in (read_backs first_order.updates) (sent_since_taken (behind_row first last n))
    ≡ others_in (read_backs first_order.updates) (sent_since_taken (behind_row first last 0))
more_others first last zero = refl
more_others first last (suc n) = let rest = more_others first last n in omega arith

more_stood : (first last n : ℕ) → stood_at (fresh 10 Short) (behind_row first last n) ≡ standings.Idle
more_stood first last zero = refl
more_stood first last (suc n) = more_stood first last n

more_pace : (first last n : ℕ) → pace_at (fresh 10 Short) (behind_row first last n) ≡ Short
more_pace first last zero = refl
more_pace first last (suc n) = more_pace first last n

more_done : (first last n : ℕ)
    → order_at_hand (fresh 10 Short) (Kept (Ended codes.Done) ∷ Kept (Opened 5) ∷ behind_row first last n)
    ≡ Some first_order
more_done first last zero = refl
more_done first last (suc n) = more_done first last n

-- what is said so took these frames
long_so : (first last n : ℕ) → IsSaidSo (fresh 10 Short) (opened_said codes.Done (behind_row first last n))
    → IsLong Short (read_backs first_order.updates) (frames_from Short standings.Idle first_order.updates)
    (sent_since_taken (behind_row first last n))
long_so first last n (order, number, hand, earned) =
    let past = behind_row first last n in
    let both : Some first_order ≡ Some order = sym (more_done first last n) ∙ hand in
    let same : order ≡ first_order = cc in
    let long : IsLong (pace_at (fresh 10 Short) past) (read_backs order.updates)
    (frames_from (pace_at (fresh 10 Short) past) (stood_at (fresh 10 Short) past) order.updates)
    (sent_since_taken past) =
    earned in
    rw (more_pace first last n, more_stood first last n, same) at long

-- 49 frames in all, and no more by a row of 03h to 06h that told the order's bytes
pub short_done_after : (n : ℕ) → IsSaidSo (fresh 10 Short) (opened_said codes.Done (behind_row 0x03 0xEF n)) → n ≡ 44
short_done_after n said =
    let long = long_so 0x03 0xEF n said in
    let least = long.0 in
    let most = long.1 in
    let count = more_length 0x03 0xEF n in
    let none = more_misses 0x03 0xEF n in
    let here : others_in (read_backs first_order.updates) (sent_since_taken (behind_row 0x03 0xEF 0)) ≡ 0 = refl in
    let others = more_others 0x03 0xEF n ∙ here in
    omega arith

-- nor by one of 20h to 23h, where the order writes nothing
pub short_done_elsewhere : (n : ℕ) → IsSaidSo (fresh 10 Short) (opened_said codes.Done (behind_row 0x20 0x00 n))
    → n ≡ 44
short_done_elsewhere n said =
    let long = long_so 0x20 0x00 n said in
    let least = long.0 in
    let most = long.1 in
    let count = more_length 0x20 0x00 n in
    let none = more_misses 0x20 0x00 n in
    let here : others_in (read_backs first_order.updates) (sent_since_taken (behind_row 0x20 0x00 0)) ≡ 0 = refl in
    let others = more_others 0x20 0x00 n ∙ here in
    omega arith

-- one that told another byte allows to read a row of sixteen again
pub short_done_again : (n : ℕ) → IsSaidSo (fresh 10 Short) (opened_said codes.Done (behind_row 0x03 0x00 n))
    → (44 ≤ n) × (n ≤ 108)
short_done_again n said =
    let long = long_so 0x03 0x00 n said in
    let least = long.0 in
    let most = long.1 in
    let count = more_length 0x03 0x00 n in
    let none = more_misses 0x03 0x00 n in
    let here : others_in (read_backs first_order.updates) (sent_since_taken (behind_row 0x03 0x00 0)) ≡ 1 = refl in
    let others = more_others 0x03 0x00 n ∙ here in
    (omega arith, omega arith)
