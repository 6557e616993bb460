-- Words of others as a terminal may show them, by hand, on both sides of each rule.
use Rattle.std.proofs.Common.{◌≡◌, refl, codes}
use Rattle.std.specs.Fmt.{digits}
use Rattle.dali_text.specs.Escaped.{is_plain, shown_front, shown_letter, shown_letters}
use Rattle.std.proofs.Common.{true, false}

-- from the space to the tilde, and nothing beside them
pub first_and_last_are_plain : (is_plain 0x20 ≡ true) × (is_plain 0x7E ≡ true)
first_and_last_are_plain = (refl, refl)

pub beside_them_is_not : (is_plain 0x1F ≡ false) × (is_plain 0x7F ≡ false)
beside_them_is_not = (refl, refl)

-- each is shown by plain characters: itself, or its number
pub shown_as_itself : (shown_letter 65 ≡ codes "A") × (shown_letter 92 ≡ codes "\\")
shown_as_itself = (refl, refl)

pub shown_by_its_number : (shown_letter 10 ≡ codes "\\u{a}") × (shown_letter 0x20AC ≡ codes "\\u{20ac}")
unfolding digits
shown_by_its_number = (refl, refl)

-- no line ends within what is shown
pub line_feed_in_words : shown_letters (codes "x\nreply") ≡ codes "x\\u{a}reply"
unfolding digits
line_feed_in_words = refl

-- this many characters are shown alone, and of more the first ones with dots
pub as_many_shown : shown_front 2 (codes "ab") ≡ codes "ab"
as_many_shown = refl

pub one_more_cut : shown_front 2 (codes "abc") ≡ codes "ab..."
one_more_cut = refl
