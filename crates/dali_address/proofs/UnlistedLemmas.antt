-- No frame of addresses is in the frame table.
use Rattle.std.proofs.Common.{◌≢◌, ℕ, ◌+◌, ◌*◌, ◌<◌, ◌≤◌, arith}
use Rattle.dali_frame.specs.declared.forward.Frame.{Frame}
use Rattle.dali_frame.specs.declared.forward.Frame.TheVariants.{Dtr0, Dtr1, Dtr2, Write, WriteSilent, Enable, AskDtr0}
use Rattle.dali_frame.specs.declared.forward.Frame.TheVariants.{AskDtr1, AskDtr2, Read, Other}
use Rattle.dali_frame.specs.Frame.{frame_word, special_word, command_word, IsListed, IsUnlisted}
use Rattle.dali_address.specs.Calls.{call_word, IsCall}
use Rattle.dali_address.specs.declared.call.Call.{Call}
use Rattle.dali_address.specs.declared.call.Call.TheVariants.{Terminate, InitialiseAll, InitialiseMissing, InitialiseAt}
use Rattle.dali_address.specs.declared.call.Call.TheVariants.{Randomise, Compare, Withdraw, SearchHigh, SearchMiddle}
use Rattle.dali_address.specs.declared.call.Call.TheVariants.{SearchLow, Program, Remove, AskShort, AskMissing}
use Rattle.dali_address.specs.declared.call.Call.TheVariants.{AskPresent, AskRandomHigh, AskRandomMiddle, AskRandomLow}

-- an address byte from 128 on that names no special command of the table
record IsForeign (first : ℕ) : Type 0 where
  most : 128 ≤ first
  byte : first < 256
  a3 : first ≢ 0xA3
  c3 : first ≢ 0xC3
  c5 : first ≢ 0xC5
  c7 : first ≢ 0xC7
  c9 : first ≢ 0xC9

special_apart : (first second : ℕ) → IsForeign first → second < 256 → (frame : Frame) → IsListed frame
    → frame_word frame ≢ special_word first second
special_apart first second foreign byte (Dtr0 operand) listed = λ e. omega arith
special_apart first second foreign byte (Dtr1 operand) listed = λ e. omega arith
special_apart first second foreign byte (Dtr2 operand) listed = λ e. omega arith
special_apart first second foreign byte (Write operand) listed = λ e. omega arith
special_apart first second foreign byte (WriteSilent operand) listed = λ e. omega arith
special_apart first second foreign byte (Enable address) listed = λ e. omega arith
special_apart first second foreign byte (AskDtr0 address) listed = λ e. omega arith
special_apart first second foreign byte (AskDtr1 address) listed = λ e. omega arith
special_apart first second foreign byte (AskDtr2 address) listed = λ e. omega arith
special_apart first second foreign byte (Read address) listed = λ e. omega arith
special_apart first second foreign byte (Other word) listed = absurd listed

special : (first second : ℕ) → IsForeign first → second < 256 → IsUnlisted (special_word first second)
special first second foreign byte = (omega arith, special_apart first second foreign byte)

-- an opcode that names no command of the table
record IsStrange (opcode : ℕ) : Type 0 where
  byte : opcode < 256
  n81 : opcode ≢ 0x81
  n98 : opcode ≢ 0x98
  n9c : opcode ≢ 0x9C
  n9d : opcode ≢ 0x9D
  c5 : opcode ≢ 0xC5

command_apart : (address opcode : ℕ) → address < 64 → IsStrange opcode → (frame : Frame) → IsListed frame
    → frame_word frame ≢ command_word address opcode
command_apart address opcode short strange (Dtr0 operand) listed = λ e. omega arith
command_apart address opcode short strange (Dtr1 operand) listed = λ e. omega arith
command_apart address opcode short strange (Dtr2 operand) listed = λ e. omega arith
command_apart address opcode short strange (Write operand) listed = λ e. omega arith
command_apart address opcode short strange (WriteSilent operand) listed = λ e. omega arith
command_apart address opcode short strange (Enable to) listed = λ e. omega arith
command_apart address opcode short strange (AskDtr0 to) listed = λ e. omega arith
command_apart address opcode short strange (AskDtr1 to) listed = λ e. omega arith
command_apart address opcode short strange (AskDtr2 to) listed = λ e. omega arith
command_apart address opcode short strange (Read to) listed = λ e. omega arith
command_apart address opcode short strange (Other word) listed = absurd listed

command : (address opcode : ℕ) → address < 64 → IsStrange opcode → IsUnlisted (command_word address opcode)
command address opcode short strange = (omega arith, command_apart address opcode short strange)

foreign : (first : ℕ) → 128 ≤ first → first < 256 → first ≢ 0xA3 → first ≢ 0xC3 → first ≢ 0xC5 → first ≢ 0xC7
    → first ≢ 0xC9 → IsForeign first
foreign first most byte a3 c3 c5 c7 c9 =
    record { most = most; byte = byte; a3 = a3; c3 = c3; c5 = c5; c7 = c7; c9 = c9 }

is_a1 : IsForeign 0xA1
is_a1 = foreign 0xA1 (omega arith) (omega arith) (omega arith) (omega arith) (omega arith) (omega arith) (omega arith)

is_a5 : IsForeign 0xA5
is_a5 = foreign 0xA5 (omega arith) (omega arith) (omega arith) (omega arith) (omega arith) (omega arith) (omega arith)

is_a7 : IsForeign 0xA7
is_a7 = foreign 0xA7 (omega arith) (omega arith) (omega arith) (omega arith) (omega arith) (omega arith) (omega arith)

is_a9 : IsForeign 0xA9
is_a9 = foreign 0xA9 (omega arith) (omega arith) (omega arith) (omega arith) (omega arith) (omega arith) (omega arith)

is_ab : IsForeign 0xAB
is_ab = foreign 0xAB (omega arith) (omega arith) (omega arith) (omega arith) (omega arith) (omega arith) (omega arith)

is_b1 : IsForeign 0xB1
is_b1 = foreign 0xB1 (omega arith) (omega arith) (omega arith) (omega arith) (omega arith) (omega arith) (omega arith)

is_b3 : IsForeign 0xB3
is_b3 = foreign 0xB3 (omega arith) (omega arith) (omega arith) (omega arith) (omega arith) (omega arith) (omega arith)

is_b5 : IsForeign 0xB5
is_b5 = foreign 0xB5 (omega arith) (omega arith) (omega arith) (omega arith) (omega arith) (omega arith) (omega arith)

is_b7 : IsForeign 0xB7
is_b7 = foreign 0xB7 (omega arith) (omega arith) (omega arith) (omega arith) (omega arith) (omega arith) (omega arith)

is_bb : IsForeign 0xBB
is_bb = foreign 0xBB (omega arith) (omega arith) (omega arith) (omega arith) (omega arith) (omega arith) (omega arith)

is_ff : IsForeign 0xFF
is_ff = foreign 0xFF (omega arith) (omega arith) (omega arith) (omega arith) (omega arith) (omega arith) (omega arith)

strange : (opcode : ℕ) → opcode < 256 → opcode ≢ 0x81 → opcode ≢ 0x98 → opcode ≢ 0x9C → opcode ≢ 0x9D
    → opcode ≢ 0xC5 → IsStrange opcode
strange opcode byte n81 n98 n9c n9d c5 =
    record { byte = byte; n81 = n81; n98 = n98; n9c = n9c; n9d = n9d; c5 = c5 }

pub call_unlisted : (call : Call) → IsCall call → IsUnlisted (call_word call)
call_unlisted Terminate is = special 0xA1 0x00 is_a1 (omega arith)
call_unlisted InitialiseAll is = special 0xA5 0x00 is_a5 (omega arith)
call_unlisted InitialiseMissing is = special 0xA5 0xFF is_a5 (omega arith)
call_unlisted (InitialiseAt short) is = special 0xA5 (2 * short + 1) is_a5 (omega arith)
call_unlisted Randomise is = special 0xA7 0x00 is_a7 (omega arith)
call_unlisted Compare is = special 0xA9 0x00 is_a9 (omega arith)
call_unlisted Withdraw is = special 0xAB 0x00 is_ab (omega arith)
call_unlisted (SearchHigh byte) is = special 0xB1 byte is_b1 is
call_unlisted (SearchMiddle byte) is = special 0xB3 byte is_b3 is
call_unlisted (SearchLow byte) is = special 0xB5 byte is_b5 is
call_unlisted (Program short) is = special 0xB7 (2 * short + 1) is_b7 (omega arith)
call_unlisted Remove is = special 0xB7 0xFF is_b7 (omega arith)
call_unlisted AskShort is = special 0xBB 0x00 is_bb (omega arith)
call_unlisted AskMissing is = special 0xFF 0x96 is_ff (omega arith)
call_unlisted (AskPresent short) is =
    command short 0x91 is
    (strange 0x91 (omega arith) (omega arith) (omega arith) (omega arith) (omega arith) (omega arith))
call_unlisted (AskRandomHigh short) is =
    command short 0xC2 is
    (strange 0xC2 (omega arith) (omega arith) (omega arith) (omega arith) (omega arith) (omega arith))
call_unlisted (AskRandomMiddle short) is =
    command short 0xC3 is
    (strange 0xC3 (omega arith) (omega arith) (omega arith) (omega arith) (omega arith) (omega arith))
call_unlisted (AskRandomLow short) is =
    command short 0xC4 is
    (strange 0xC4 (omega arith) (omega arith) (omega arith) (omega arith) (omega arith) (omega arith))
