-- The finding of an order, if each byte is shown at its location.
use Rattle.std.proofs.Common.{◌≡◌, inl, inr, refl, sym, ap, subst, ◌∙◌, ℕ, suc, ◌<◌, ◌≤◌, List, [], ◌∷◌, ◌++◌}
use Rattle.std.proofs.Common.{append-nil, slice_get, arith, Bool, true, false, Some, drop, option_map}
use Rattle.std.specs.Prelude.{nat_lt, if◌then◌else◌}
use Rattle.std.proofs.lemmas.Bool.{ltb-true, ltb-false}
use Rattle.std.proofs.lemmas.Option.{slice_get-map}
use Rattle.std.specs.Prelude.{◌≢◌}
use Rattle.std.specs.List.{AllByRecursion}
use Rattle.std.proofs.lemmas.List.{map-append}
use Rattle.dali_write.specs.Exchanges.{Exchange}
use Rattle.dali_write.specs.Findings.{Suits}
use Rattle.dali_write.specs.Plans.{greatest}
use Rattle.dali_read.specs.declared.finding.Finding.{Finding}
use Rattle.dali_read.specs.declared.finding.Finding.TheVariants.{Same, Other, Short, Format}
use Rattle.dali_read.specs.Findings.{own_bytes, IsFirstOther, IsFound}
use Rattle.dali_read.specs.Places.{order_course}
use Rattle.dali_read.specs.Readings.{IsRead}
use Rattle.dali_read.specs.Shown.{InBlock, Finds, ShowsTold}
use Rattle.dali_read.proofs.InBlockLemmas.{Tells, read_tells}
use Rattle.dali_read.proofs.CourseLemmas.{own_places, order_place, near_places, far_places, order_follows}

-- the bytes are shown at these places, one by one
abbrev pub Shown : (ℕ → ℕ → Type 0) → List ℕ → List ℕ → Type 0
Shown shows places bytes = Tells shows (λ index. slice_get places index) bytes

-- each location of these updates shows its own byte, and so on after them
own_shown : (shows : ℕ → ℕ → Type 0) (updates : List (ℕ × ℕ)) (places more : List ℕ)
    → Shown shows (own_places updates ++ places) (own_bytes updates ++ more)
    → AllByRecursion (λ update. shows update.0 update.1) updates × Shown shows places more
own_shown shows [] places more shown = (tt, shown)
own_shown shows (update ∷ updates) places more shown =
    let rest = own_shown shows updates places more (λ index. shown (suc index)) in
    ((shown 0 update.0 update.1 refl refl, rest.0), rest.1)

pub all_shown : (shows : ℕ → ℕ → Type 0) (updates : List (ℕ × ℕ)) (bytes : List ℕ)
    → Shown shows (own_places updates) bytes → IsFirstOther updates bytes Same
    → AllByRecursion (λ update. shows update.0 update.1) updates
all_shown shows updates bytes shown (more, is) =
    (own_shown shows updates [] more
    (subst (λ (l : List ℕ). Shown shows l (own_bytes updates ++ more)) (sym (append-nil (own_places updates)))
    (subst (λ (l : List ℕ). Shown shows (own_places updates) l) is shown))).0

-- the first other byte, and own bytes before it
abbrev OtherShown : (ℕ → ℕ → Type 0) → List (ℕ × ℕ) → ℕ → ℕ → Type 0
OtherShown shows updates location byte =
    (before : List (ℕ × ℕ)) × (own : ℕ) × (behind : List (ℕ × ℕ)) × (updates ≡ before ++ (location, own) ∷ behind)
    × AllByRecursion (λ update. shows update.0 update.1) before × shows location byte × (byte ≢ own)

pub other_shown : (shows : ℕ → ℕ → Type 0) (updates : List (ℕ × ℕ)) (bytes : List ℕ) (location byte : ℕ)
    → Shown shows (own_places updates) bytes → IsFirstOther updates bytes (Other location byte)
    → OtherShown shows updates location byte
other_shown shows updates bytes location byte shown (before, own, behind, more, parts, is, other) =
    let places : own_places updates ≡ own_places before ++ location ∷ own_places behind =
    ap own_places parts ∙ map-append (λ (update : ℕ × ℕ). update.0) before ((location, own) ∷ behind) in
    let both =
    own_shown shows before (location ∷ own_places behind) (byte ∷ more)
    (subst (λ (l : List ℕ). Shown shows l (own_bytes before ++ byte ∷ more)) places
    (subst (λ (l : List ℕ). Shown shows (own_places updates) l) is shown)) in
    (before, own, behind, parts, both.0, both.1 0 location byte refl refl, other)

-- after the first byte, or the first three
near_shown : (shows : ℕ → ℕ → Type 0) (updates : List (ℕ × ℕ)) (bytes more : List ℕ) (last : ℕ)
    → Tells shows (order_place updates) bytes → greatest updates < 0x13 → bytes ≡ last ∷ more
    → Shown shows (own_places updates) more
near_shown shows updates bytes more last tells near is index location byte there at =
    tells (suc index) location byte (ap (λ (l : List ℕ). slice_get l (suc index)) is ∙ there)
    (ap (λ (l : List ℕ). slice_get l (suc index)) (near_places updates near) ∙ at)

far_shown : (shows : ℕ → ℕ → Type 0) (updates : List (ℕ × ℕ)) (bytes more : List ℕ) (last high low : ℕ)
    → Tells shows (order_place updates) bytes → 0x13 ≤ greatest updates → bytes ≡ last ∷ high ∷ low ∷ more
    → Shown shows (own_places updates) more
far_shown shows updates bytes more last high low tells far is index location byte there at =
    tells (suc (suc (suc index))) location byte
    (ap (λ (l : List ℕ). slice_get l (suc (suc (suc index)))) is ∙ there)
    (ap (λ (l : List ℕ). slice_get l (suc (suc (suc index)))) (far_places updates far) ∙ at)

-- the first byte is shown at 00h, and of a long order the next two at 11h and 12h
first_shown : (shows : ℕ → ℕ → Type 0) (updates : List (ℕ × ℕ)) (bytes more : List ℕ) (last : ℕ)
    → Tells shows (order_place updates) bytes → bytes ≡ last ∷ more → shows 0x00 last
first_shown shows updates bytes more last tells is =
    tells 0 0x00 last (ap (λ (l : List ℕ). slice_get l 0) is) refl

format_shown : (shows : ℕ → ℕ → Type 0) (updates : List (ℕ × ℕ)) (bytes more : List ℕ) (last high low : ℕ)
    → Tells shows (order_place updates) bytes → 0x13 ≤ greatest updates → bytes ≡ last ∷ high ∷ low ∷ more
    → shows 0x11 high × shows 0x12 low
format_shown shows updates bytes more last high low tells far is = (
  tells 1 0x11 high (ap (λ (l : List ℕ). slice_get l 1) is)
      (ap (λ (l : List ℕ). slice_get l 1) (far_places updates far)),
  tells 2 0x12 low (ap (λ (l : List ℕ). slice_get l 2) is)
      (ap (λ (l : List ℕ). slice_get l 2) (far_places updates far)),
)

near_suits : (shows : ℕ → ℕ → Type 0) (updates : List (ℕ × ℕ)) (bytes more : List ℕ) (last : ℕ)
    → Tells shows (order_place updates) bytes → greatest updates ≤ last → greatest updates < 0x13
    → bytes ≡ last ∷ more → Suits shows updates
near_suits shows updates bytes more last tells reach near is =
    (last, first_shown shows updates bytes more last tells is, reach, λ far. absurd (omega arith))

far_suits : (shows : ℕ → ℕ → Type 0) (updates : List (ℕ × ℕ)) (bytes more : List ℕ) (last : ℕ)
    → Tells shows (order_place updates) bytes → greatest updates ≤ last → 0x13 ≤ greatest updates
    → bytes ≡ last ∷ 0x00 ∷ 0x03 ∷ more → Suits shows updates
far_suits shows updates bytes more last tells reach far is =
    grind (
      arith,
      first_shown shows updates bytes (0x00 ∷ 0x03 ∷ more) last tells is,
      format_shown shows updates bytes
          more last 0x00 0x03 tells far is,
    )

-- what is found is so
pub found_so : (shows : ℕ → ℕ → Type 0) (updates : List (ℕ × ℕ)) (bytes : List ℕ) (finding : Finding)
    → Tells shows (order_place updates) bytes → IsFound updates bytes finding → Finds shows updates finding
found_so shows updates bytes Short tells (last, more, is, short) =
    (last, first_shown shows updates bytes more last tells is, short)
found_so shows updates bytes Format tells (last, high, low, more, is, reach, far, other) =
    grind (arith, format_shown shows updates bytes more last high low tells far is)
found_so shows updates bytes Same tells (last, reach, inl (more, is, near, first)) =
    grind (
      arith,
      near_suits shows updates bytes more last tells reach near is,
      all_shown shows updates more
          (near_shown shows updates bytes more last tells near is) first,
    )
found_so shows updates bytes Same tells (last, reach, inr (more, is, far, first)) =
    grind (
      arith,
      far_suits shows updates bytes more last tells reach far is,
      all_shown shows updates more (far_shown
          shows updates bytes more last 0x00 0x03 tells far is) first,
    )
found_so shows updates bytes (Other location byte) tells (last, reach, inl (more, is, near, first)) =
    grind (
      arith,
      near_suits shows updates bytes more last tells reach near is,
      other_shown shows updates more
          location byte (near_shown shows updates bytes more last tells near is) first,
    )
found_so shows updates bytes (Other location byte) tells (last, reach, inr (more, is, far, first)) =
    grind (
      arith,
      far_suits shows updates bytes more last tells reach far is,
      other_shown shows updates more location
          byte (far_shown shows updates bytes more last 0x00 0x03 tells far is) first,
    )

-- the byte that was read of an update's own location is shown there
update_place : (updates : List (ℕ × ℕ)) (index : ℕ) (update : ℕ × ℕ) → slice_get updates index ≡ Some update
    → slice_get (own_places updates) index ≡ Some update.0
update_place updates index update at =
    slice_get-map (λ (one : ℕ × ℕ). one.0) updates index ∙ ap (λ o. option_map (λ (one : ℕ × ℕ). one.0) o) at

shown_behind : (shows : ℕ → ℕ → Type 0) (updates : List (ℕ × ℕ)) (bytes : List ℕ) (near : Bool)
    → nat_lt (greatest updates) 0x13 ≡ near → Tells shows (order_place updates) bytes
    → (index byte : ℕ) (update : ℕ × ℕ) → slice_get (drop (if near then 1 else 3) bytes) index ≡ Some byte
    → slice_get updates index ≡ Some update → shows update.0 byte
shown_behind shows updates [] true is tells index byte update there at = cc
shown_behind shows updates (last ∷ more) true is tells index byte update there at =
    near_shown shows updates (last ∷ more) more last tells (ltb-true (greatest updates) 0x13 is) refl index update.0
    byte there (update_place updates index update at)
shown_behind shows updates [] false is tells index byte update there at = cc
shown_behind shows updates (last ∷ []) false is tells index byte update there at = cc
shown_behind shows updates (last ∷ high ∷ []) false is tells index byte update there at = cc
shown_behind shows updates (last ∷ high ∷ low ∷ more) false is tells index byte update there at =
    far_shown shows updates (last ∷ high ∷ low ∷ more) more last high low tells
    (ltb-false (greatest updates) 0x13 is) refl index update.0 byte there (update_place updates index update at)

pub told_so : (shows : ℕ → ℕ → Type 0) (updates : List (ℕ × ℕ)) (bytes : List ℕ)
    → Tells shows (order_place updates) bytes → ShowsTold shows updates bytes
told_so shows updates bytes tells = shown_behind shows updates bytes (nat_lt (greatest updates) 0x13) refl tells

-- of a whole reading
pub updates_told : (told : List Exchange) (unit : ℕ) (updates : List (ℕ × ℕ)) (bytes : List ℕ)
    → IsRead unit (order_course updates) bytes told → ShowsTold (InBlock told unit) updates bytes
updates_told told unit updates bytes read =
    told_so (InBlock told unit) updates bytes
    (read_tells (order_place updates) unit (order_course updates) bytes told (order_follows updates) read)

pub order_read : (told : List Exchange) (unit : ℕ) (updates : List (ℕ × ℕ)) (bytes : List ℕ) (finding : Finding)
    → IsRead unit (order_course updates) bytes told → IsFound updates bytes finding
    → Finds (InBlock told unit) updates finding
order_read told unit updates bytes finding read found =
    found_so (InBlock told unit) updates bytes finding
    (read_tells (order_place updates) unit (order_course updates) bytes told (order_follows updates) read) found
