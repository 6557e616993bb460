-- Which word spells which frame.
use Rattle.std.specs.Prelude.{◌≡◌, ◌≢◌, ℕ, ◌+◌, ◌*◌, ◌^◌, ◌<◌}
use Rattle.dali_frame.specs.declared.forward.Frame.{Frame}
use Rattle.dali_frame.specs.declared.forward.Frame.TheVariants.{Dtr0, Dtr1, Dtr2, Write, WriteSilent, Enable, AskDtr0}
use Rattle.dali_frame.specs.declared.forward.Frame.TheVariants.{AskDtr1, AskDtr2, Read, Other}

-- the word of a special command: the address byte that names it, and then its operand
abbrev pub special_word : ℕ → ℕ → ℕ
special_word address_byte operand = 256 * address_byte + operand

-- the word of a command to a short address: the address byte `2 * address + 1`, and then its opcode
abbrev pub command_word : ℕ → ℕ → ℕ
command_word address opcode = 256 * (2 * address + 1) + opcode

-- the word of a frame: the standard's table, and the word that an `Other` holds
abbrev pub frame_word : Frame → ℕ
frame_word (Dtr0 operand) = special_word 0xA3 operand
frame_word (Dtr1 operand) = special_word 0xC3 operand
frame_word (Dtr2 operand) = special_word 0xC5 operand
frame_word (Write operand) = special_word 0xC7 operand
frame_word (WriteSilent operand) = special_word 0xC9 operand
frame_word (Enable address) = command_word address 0x81
frame_word (AskDtr0 address) = command_word address 0x98
frame_word (AskDtr1 address) = command_word address 0x9C
frame_word (AskDtr2 address) = command_word address 0x9D
frame_word (Read address) = command_word address 0xC5
frame_word (Other word) = word

-- the frame is in the table: its operand is a byte, or its address is a short address
abbrev pub IsListed : Frame → Type 0
IsListed (Dtr0 operand) = operand < 256
IsListed (Dtr1 operand) = operand < 256
IsListed (Dtr2 operand) = operand < 256
IsListed (Write operand) = operand < 256
IsListed (WriteSilent operand) = operand < 256
IsListed (Enable address) = address < 64
IsListed (AskDtr0 address) = address < 64
IsListed (AskDtr1 address) = address < 64
IsListed (AskDtr2 address) = address < 64
IsListed (Read address) = address < 64
IsListed (Other word) = ⊥

-- the frame is in the table with this word
abbrev pub Lists : Frame → ℕ → Type 0
Lists frame word = IsListed frame × (frame_word frame ≡ word)

-- a word of sixteen bits that no frame of the table has
abbrev pub IsUnlisted : ℕ → Type 0
IsUnlisted word = (word < 2 ^ 16) × ((frame : Frame) → IsListed frame → frame_word frame ≢ word)

-- the frame is in the table, or it is an `Other` with a word that no frame of the table has
abbrev pub IsProper : Frame → Type 0
IsProper (Other word) = IsUnlisted word
IsProper frame = IsListed frame

-- the pairs of a frame and its word: those of the table, and an `Other` with each word that is left
abbrev pub Spells : Frame → ℕ → Type 0
Spells frame word = IsProper frame × (frame_word frame ≡ word)
