-- The exchanges before a short address is given or taken away, before a line is reported, and before an end. They are a
-- list of frames and answers, the newest first.
use Rattle.std.specs.Prelude.{◌≡◌, ◌≢◌, ℕ, zero, suc, ◌<◌, ◌⊎◌, List, [], ◌∷◌, Option, Some, None, IsSome, false, ⊤}
use Rattle.std.specs.List.{AllByRecursion}
use Rattle.dali_address.specs.Calls.{IsCall, short_byte}
use Rattle.dali_address.specs.Census.{highest}
use Rattle.dali_address.specs.Places.{three_of_random}
use Rattle.dali_address.specs.Steps.{Exchange}
use Rattle.dali_address.specs.Tasks.{MaySend, IsPresenceAsked}
use Rattle.dali_address.specs.Units.{Three}
use Rattle.dali_address.specs.declared.call.Call.{Call}
use Rattle.dali_address.specs.declared.call.Call.TheVariants.{Terminate, Compare, SearchHigh, SearchMiddle, SearchLow}
use Rattle.dali_address.specs.declared.call.Call.TheVariants.{Program, Remove, AskShort, AskPresent}
use Rattle.dali_address.specs.declared.call.Call.TheVariants.{AskRandomHigh, AskRandomMiddle, AskRandomLow}
use Rattle.dali_address.specs.declared.task.Line.{Line}
use Rattle.dali_address.specs.declared.task.Line.TheVariants.{Unit, Shared}
use Rattle.dali_address.specs.declared.task.Task.{Task}
use Rattle.dali_address.specs.declared.task.Want.{Want}
use Rattle.dali_address.specs.declared.task.Want.TheVariants.{Send, Tell, Ended, Taken}

-- this frame went last, whatever came back, and this holds of the exchanges before
abbrev pub After : Call → (List Exchange → Type 0) → List Exchange → Type 0
After call P [] = ⊥
After call P (newest ∷ past) = (newest.call ≡ call) × P past

-- this frame went last and this came back, and this holds of the exchanges before
abbrev pub AfterAnswer : Call → Option ℕ → (List Exchange → Type 0) → List Exchange → Type 0
AfterAnswer call answer P [] = ⊥
AfterAnswer call answer P (newest ∷ past) = (newest ≡ record { call = call; answer = answer }) × P past

abbrev pub Whatever : List Exchange → Type 0
Whatever told = ⊤

-- the frame puts no byte of the search address
abbrev pub LeavesSearch : Call → Type 0
LeavesSearch (SearchHigh byte) = ⊥
LeavesSearch (SearchMiddle byte) = ⊥
LeavesSearch (SearchLow byte) = ⊥
LeavesSearch _ = ⊤

-- the three bytes of this search address were put, one right after the other, and none since
abbrev pub IsSought : Three → List Exchange → Type 0
IsSought search [] = ⊥
IsSought search (newest ∷ past) =
    After (SearchLow search.low) (After (SearchMiddle search.middle) (After (SearchHigh search.high) Whatever))
    (newest ∷ past)
    ⊎ (LeavesSearch newest.call × IsSought search past)

-- the last `count` frames asked whether a unit is at the short address, and nothing came back
abbrev pub IsSilent : ℕ → ℕ → List Exchange → Type 0
IsSilent short zero told = ⊤
IsSilent short (suc count) [] = ⊥
IsSilent short (suc count) (newest ∷ past) =
    (newest ≡ record { call = AskPresent short; answer = None }) × IsSilent short count past

-- the frame asks nobody whether it is there, and gives and takes no address
abbrev pub IsIdle : Call → Type 0
IsIdle (Program short) = ⊥
IsIdle Remove = ⊥
IsIdle (AskPresent short) = ⊥
IsIdle _ = ⊤

-- the short address stayed silent eight times in a row, and since then no address was asked for, given or taken away
abbrev pub IsFree : ℕ → List Exchange → Type 0
IsFree short [] = ⊥
IsFree short (newest ∷ past) =
    IsSilent short 8 (newest ∷ past) ⊎ (IsIdle newest.call × IsFree short past)

-- the frame puts no search address, and gives no other short address
abbrev pub GivesThisAlone : ℕ → Call → Type 0
GivesThisAlone short (SearchHigh byte) = ⊥
GivesThisAlone short (SearchMiddle byte) = ⊥
GivesThisAlone short (SearchLow byte) = ⊥
GivesThisAlone short (Program other) = other ≡ short
GivesThisAlone short Remove = ⊥
GivesThisAlone short _ = ⊤

-- the short address was free when the search address at hand was put, and at this search address alone was it given
abbrev pub IsKeptFree : ℕ → List Exchange → Type 0
IsKeptFree short [] = ⊥
IsKeptFree short (newest ∷ past) =
    ((byte : ℕ) × (newest.call ≡ SearchLow byte) × IsFree short past)
    ⊎ (GivesThisAlone short newest.call × IsKeptFree short past)

-- since a short address was taken away last, or from the beginning, no unit told that it has this one
abbrev pub IsUntold : ℕ → List Exchange → Type 0
IsUntold short [] = ⊤
IsUntold short (newest ∷ past) =
    (newest.call ≡ Remove)
    ⊎ ((newest ≢ record { call = AskShort; answer = Some (short_byte short) }) × IsUntold short past)

-- A short address may be given to the unit that is searched for: its random address was put whole, and it isn't
-- FFFFFFh, which nobody draws; asked just before, it told that it has none; the short address is free, and wasn't
-- given in this run.
pub record MayGive (short : ℕ) (told : List Exchange) : Type 0 where
  pub search : Three
  pub sought : IsSought search told
  pub drawn : search ≢ highest
  pub none : AfterAnswer AskShort (Some 0xFF) Whatever told
  pub free : IsKeptFree short told
  pub once : IsUntold short told

-- The unit that is searched for may lose its short address: its random address was put whole, and it isn't FFFFFFh;
-- asked just before, it told that it has one.
pub record MayTake (told : List Exchange) : Type 0 where
  pub search : Three
  pub sought : IsSought search told
  pub drawn : search ≢ highest
  pub short : ℕ
  pub address : short < 64
  pub some : AfterAnswer AskShort (Some (short_byte short)) Whatever told

-- the frame may follow
abbrev pub IsRight : Call → List Exchange → Type 0
IsRight (Program short) told = MayGive short told
IsRight Remove told = MayTake told
IsRight _ told = ⊤

-- a run of this kind may send the frame after these exchanges
pub record MayFollow (task : Task) (told : List Exchange) (call : Call) : Type 0 where
  pub fits : IsCall call
  pub sent : MaySend task call
  pub right : IsRight call told

-- each frame might follow the exchanges before it
abbrev pub AreRight : List Exchange → Type 0
AreRight [] = ⊤
AreRight (newest ∷ past) = IsRight newest.call past × AreRight past

-- the last two frames ended the initialisation state
abbrev pub IsTerminated : List Exchange → Type 0
IsTerminated told = After Terminate (After Terminate Whatever) told

-- the highest search address is put, the initialisation state was ended twice, and then two COMPAREs stayed silent
abbrev pub IsClosed : List Exchange → Type 0
IsClosed told =
    IsSought highest told × AfterAnswer Compare None (AfterAnswer Compare None IsTerminated) told

-- the three bytes of the random address were asked at the short address, one right after the other, and came; last
abbrev pub IsRead : ℕ → Three → List Exchange → Type 0
IsRead short random told =
    AfterAnswer (AskRandomLow short) (Some random.low)
    (AfterAnswer (AskRandomMiddle short) (Some random.middle)
    (AfterAnswer (AskRandomHigh short) (Some random.high) Whatever)) told

-- some time
abbrev pub WasRead : ℕ → Three → List Exchange → Type 0
WasRead short random [] = ⊥
WasRead short random (newest ∷ past) = IsRead short random (newest ∷ past) ⊎ WasRead short random past

-- the random address was read at the short address last, and earlier too
abbrev pub IsReadBack : ℕ → Three → List Exchange → Type 0
IsReadBack short random [] = ⊥
IsReadBack short random (newest ∷ past) = IsRead short random (newest ∷ past) × WasRead short random past

-- an answer showed a unit at the short address, some time
abbrev pub WasPresent : ℕ → List Exchange → Type 0
WasPresent short [] = ⊥
WasPresent short (newest ∷ past) =
    ((newest.call ≡ AskPresent short) × IsSome newest.answer) ⊎ WasPresent short past

-- an answer showed a unit at the short address, and only presence at short addresses was asked
abbrev pub IsTaken : ℕ → List Exchange → Type 0
IsTaken short told =
    WasPresent short told × AllByRecursion (λ exchange. IsPresenceAsked exchange.call) told

-- the line may be reported
abbrev pub MayTell : Line → List Exchange → Type 0
MayTell (Unit short random) told = (short < 64) × IsReadBack short (three_of_random random) told
MayTell (Shared short) told = (short < 64) × WasPresent short told

-- the want of a run of this kind is right after these exchanges
abbrev pub IsRightWant : Task → List Exchange → Want → Type 0
IsRightWant task told (Send call) = MayFollow task told call
IsRightWant task told (Tell line) = MayTell line told
IsRightWant task told (Ended summary) = summary.open ≡ false → IsClosed told
IsRightWant task told (Taken short) = IsTaken short told
