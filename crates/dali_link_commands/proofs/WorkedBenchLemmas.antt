-- The parts of a desk, by hand: its lines, what was left alone, and how it ends if its lines have failed.
use Rattle.std.proofs.Common.{◌≡◌, refl, ap, true, false, ℕ, List, [], ◌∷◌, Option, Some, codes}
use Rattle.std.specs.Prelude.{⊤}
use Rattle.dali_input.specs.declared.command_fault.Status.TheVariants.{Good, Unwritten}
use Rattle.dali_drive.specs.Desks.{Failures, Look, failures, look_of}
use Rattle.dali_drive.specs.Transcript.{shown}
use Rattle.dali_store.specs.Stores.{IsDurable}
use Rattle.dali_link_commands.specs.Benches.{IsUndriven, TellsUnwritten, with_lines}

-- a desk whose journal shows one byte, of which a stop leaves exactly that; a line of the link's answers is unread
abbrev pub desk_of : List ℕ → List ℕ → List ℕ → List ℕ → Failures → (List ℕ → Type 0) → Look
desk_of journal link answers out failed may_leave =
    look_of (shown (Some journal) (Some link) (Some answers) (Some out)) failed may_leave

abbrev pub none_failed : Failures
none_failed = failures false false false false

abbrev pub one_byte : List ℕ → Type 0
one_byte c = c ≡ 1 ∷ []

abbrev pub before : Look
before = desk_of (1 ∷ []) [] (codes "--\n") [] none_failed one_byte

-- ---- its lines

abbrev told : Look
told = with_lines before (Some (codes "fault 21 File\n")) true

pub lines_are_so : (told.streams.out ≡ Some (codes "fault 21 File\n")) × (told.failed.out ≡ true)
lines_are_so = (refl, refl)

pub the_rest_is_as_it_was :
    (told.streams.journal ≡ before.streams.journal) × (told.streams.link ≡ before.streams.link)
    × (told.streams.answers ≡ before.streams.answers) × (told.failed.journal ≡ false)
    × (told.failed.link_out ≡ false) × (told.failed.link_in ≡ false) × (told.may_leave ≡ before.may_leave)
the_rest_is_as_it_was = (refl, refl, refl, refl, refl, refl, refl)

-- ---- what was left alone

-- lines were written, and they failed
pub just_told : IsUndriven before told
just_told = assumption

-- a frame was sent
abbrev pub sent : Look
sent = desk_of (1 ∷ []) (codes "C301\n") (codes "--\n") [] none_failed one_byte

pub sent_is_driven : IsUndriven before sent → ⊥
sent_is_driven undriven = let kept = undriven.link in cc

-- an answer was read
abbrev pub heard : Look
heard = desk_of (1 ∷ []) [] [] [] none_failed one_byte

pub heard_is_driven : IsUndriven before heard → ⊥
heard_is_driven undriven = let kept = undriven.answers in cc

-- a record was kept
abbrev pub kept : Look
kept = desk_of (1 ∷ 2 ∷ []) [] (codes "--\n") [] none_failed one_byte

pub kept_is_driven : IsUndriven before kept → ⊥
kept_is_driven undriven = let same = undriven.journal in cc

-- a stream other than the lines has failed
abbrev journal_failed : Look
journal_failed = desk_of (1 ∷ []) [] (codes "--\n") [] (failures true false false false) one_byte

pub failed_is_driven : IsUndriven before journal_failed → ⊥
failed_is_driven undriven = cc (ap (λ (failed : Failures). failed.journal) undriven.failed)

abbrev link_failed : Look
link_failed = desk_of (1 ∷ []) [] (codes "--\n") [] (failures false true false false) one_byte

pub failed_link_is_driven : IsUndriven before link_failed → ⊥
failed_link_is_driven undriven = cc (ap (λ (failed : Failures). failed.link_out) undriven.failed)

-- a stop may leave less than before
abbrev pub unsettled : Look
unsettled = desk_of (1 ∷ []) [] (codes "--\n") [] none_failed (λ c. ⊤)

pub unsettled_is_driven : IsUndriven before unsettled → ⊥
unsettled_is_driven undriven = let less = undriven.leaves [] tt in cc

-- ---- how it ends

pub unwritten_where_lines_failed : TellsUnwritten Unwritten told × TellsUnwritten Good before
unwritten_where_lines_failed = ((λ is. refl, λ failed. refl), (λ is. cc, λ failed. cc))

pub not_good_where_lines_failed : TellsUnwritten Good told → ⊥
not_good_where_lines_failed tells = let is = tells.1 refl in cc

pub not_unwritten_where_none_failed : TellsUnwritten Unwritten before → ⊥
not_unwritten_where_none_failed tells = let failed = tells.0 refl in cc

pub not_unwritten_where_another_failed : TellsUnwritten Unwritten journal_failed → ⊥
not_unwritten_where_another_failed tells = let failed = tells.0 refl in cc

-- ---- what a stop leaves

-- what shows a byte and may be left with none isn't settled
pub emptied_unsettled : (seen : Option (List ℕ)) (may_leave : List ℕ → Type 0) → seen ≡ Some (1 ∷ []) → may_leave []
    → IsDurable seen may_leave → ⊥
emptied_unsettled seen may_leave shows less settled = let none = rw shows at settled [] less in cc

-- nor are both shown at once
pub emptied : (seen : Option (List ℕ)) → seen ≡ Some (1 ∷ []) → seen ≡ Some [] → ⊥
emptied seen one none = cc
