-- The steps of a census.
use Rattle.std.specs.Prelude.{◌≡◌, ◌+◌, ◌≤◌, ℕ, ⊤, Option, None, List, [], ◌∷◌, nat_lt, if◌then◌else◌, ◌==◌, zero, suc}
use Rattle.dali_address.specs.Census.{highest}
use Rattle.dali_address.specs.Places.{three_of}
use Rattle.dali_address.specs.Standing.{MayTally}
use Rattle.dali_address.specs.declared.call.Call.{Call}
use Rattle.dali_address.specs.declared.call.Call.TheVariants.{Terminate, InitialiseAll, Randomise, Compare, AskShort}
use Rattle.dali_address.specs.declared.call.Call.TheVariants.{SearchHigh, SearchMiddle, SearchLow}
use Rattle.dali_address.specs.declared.walk.Walk.{Walk}
use Rattle.dali_address.specs.declared.walk.Walk.TheVariants.{Open, Check, Ask, Done, Lost}
use Rattle.dali_address.specs.declared.tallied.Tallied.{Tallied}

-- the frame of this number of the opening, from 0
abbrev pub opening_call : ℕ → Call
opening_call number =
    if nat_lt number 2 then Terminate
    else (if nat_lt number 4 then InitialiseAll
    else (if nat_lt number 6 then Randomise
    else (if number == 6 then SearchHigh 0xFF
    else (if number == 9 then SearchHigh 0xFF
    else (if number == 12 then SearchHigh 0xFF
    else (if number == 7 then SearchMiddle 0xFF
    else (if number == 10 then SearchMiddle 0xFF
    else SearchLow 0xFF)))))))

-- this many frames of the opening, the newest first
abbrev pub opened : ℕ → List Call
opened zero = []
opened (suc number) = opening_call number ∷ opened number

-- the frame may be the one of this step: of the opening, of a check and of an ask it is said which
abbrev pub IsStep : Walk → Tallied → Call → Type 0
IsStep (Open number) kept call = call ≡ opening_call number
IsStep (Check noes) kept call = (call ≡ Compare) × MayTally kept call
IsStep Ask kept call = (call ≡ AskShort) × MayTally kept call
IsStep Done kept call = ⊥
IsStep Lost kept call = ⊥
IsStep _ kept call = MayTally kept call

-- a check that no unit answered, with the highest search address, after enough of them
abbrev pub IsLast : ℕ → Walk → Tallied → Option ℕ → Type 0
IsLast care (Check noes) kept answer = (answer ≡ None) × (three_of kept.search ≡ highest) × (care ≤ noes + 1)
IsLast care _ kept answer = ⊥

-- what may come after a step once the opening is over: one silent check more, after a check that no unit answered
abbrev pub GoesOn : Walk → Option ℕ → Walk → Type 0
GoesOn old answer (Open number) = ⊥
GoesOn (Check noes) answer (Check more) = (answer ≡ None) × (more ≡ noes + 1)
GoesOn old answer (Check noes) = noes ≡ 0
GoesOn old answer new = ⊤

-- a step of a search
abbrev pub IsOn : Walk → Type 0
IsOn (Open number) = ⊥
IsOn (Check noes) = ⊥
IsOn Done = ⊥
IsOn _ = ⊤

-- a census may give up after it: in its opening, or after an ask
abbrev pub MayLose : Walk → Type 0
MayLose (Open number) = ⊤
MayLose Ask = ⊤
MayLose Done = ⊤
MayLose Lost = ⊤
MayLose _ = ⊥

-- how many frames are left
abbrev pub left_in : Walk → ℕ → ℕ
left_in Done left = 0
left_in Lost left = 0
left_in _ left = left + 1
