-- The words of the frames that give and ask addresses.
use Rattle.std.specs.Prelude.{ℕ, ◌+◌, ◌*◌, ◌<◌, ⊤}
use Rattle.dali_frame.specs.Frame.{special_word, command_word}
use Rattle.dali_address.specs.declared.call.Call.{Call}
use Rattle.dali_address.specs.declared.call.Call.TheVariants.{Terminate, InitialiseAll, InitialiseMissing, InitialiseAt}
use Rattle.dali_address.specs.declared.call.Call.TheVariants.{Randomise, Compare, Withdraw, SearchHigh, SearchMiddle}
use Rattle.dali_address.specs.declared.call.Call.TheVariants.{SearchLow, Program, Remove, AskShort, AskMissing}
use Rattle.dali_address.specs.declared.call.Call.TheVariants.{AskPresent, AskRandomHigh, AskRandomMiddle, AskRandomLow}

-- the byte that spells a short address
abbrev pub short_byte : ℕ → ℕ
short_byte short = 2 * short + 1

-- the word of each frame (IEC 62386-102)
abbrev pub call_word : Call → ℕ
call_word Terminate = special_word 0xA1 0x00
call_word InitialiseAll = special_word 0xA5 0x00
call_word InitialiseMissing = special_word 0xA5 0xFF
call_word (InitialiseAt short) = special_word 0xA5 (short_byte short)
call_word Randomise = special_word 0xA7 0x00
call_word Compare = special_word 0xA9 0x00
call_word Withdraw = special_word 0xAB 0x00
call_word (SearchHigh byte) = special_word 0xB1 byte
call_word (SearchMiddle byte) = special_word 0xB3 byte
call_word (SearchLow byte) = special_word 0xB5 byte
call_word (Program short) = special_word 0xB7 (short_byte short)
call_word Remove = special_word 0xB7 0xFF
call_word AskShort = special_word 0xBB 0x00
call_word AskMissing = special_word 0xFF 0x96
call_word (AskPresent short) = command_word short 0x91
call_word (AskRandomHigh short) = command_word short 0xC2
call_word (AskRandomMiddle short) = command_word short 0xC3
call_word (AskRandomLow short) = command_word short 0xC4

-- its operand is a byte, or its short address is 0 to 63
abbrev pub IsCall : Call → Type 0
IsCall Terminate = ⊤
IsCall InitialiseAll = ⊤
IsCall InitialiseMissing = ⊤
IsCall (InitialiseAt short) = short < 64
IsCall Randomise = ⊤
IsCall Compare = ⊤
IsCall Withdraw = ⊤
IsCall (SearchHigh byte) = byte < 256
IsCall (SearchMiddle byte) = byte < 256
IsCall (SearchLow byte) = byte < 256
IsCall (Program short) = short < 64
IsCall Remove = ⊤
IsCall AskShort = ⊤
IsCall AskMissing = ⊤
IsCall (AskPresent short) = short < 64
IsCall (AskRandomHigh short) = short < 64
IsCall (AskRandomMiddle short) = short < 64
IsCall (AskRandomLow short) = short < 64
