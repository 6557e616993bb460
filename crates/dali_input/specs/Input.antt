-- The bytes that are read of a reader, and their JSON.
use Rattle.std.specs.Prelude.{◌≡◌, ◌≢◌, ◌⊎◌, ◌+◌, ◌<◌, ◌≤◌, ℕ, Bool, true, List, ◌++◌, Option, Some, None, is_some, length, IsUtf8}
use Rattle.std.specs.Io.KnownBytes.{Consumes, IsAtEnd}
use Rattle.std.specs.declared.io.ErrorKind.{ErrorKind}
use Rattle.std.specs.declared.io.ErrorKind.TheVariants.{OutOfMemory}
use Rattle.serde_json.specs.Data.{Data}
use Rattle.serde_json.specs.Read.{read}
use Rattle.dali_input.specs.declared.input.Input.{Input}
use Rattle.dali_input.specs.declared.fault.InputFault.{InputFault}
use Rattle.dali_input.specs.declared.fault.InputFault.TheVariants.{Json, Document, TooBig, Hex, Memory, File}

-- the state of a reader: the bytes that it has left, if they are known, and whether a read has failed
pub record InputState : Type 0 where
  pub left : Option (List ℕ)
  pub failed : Bool

abbrev pub state_of : {R : Type 0} → (R → Option (List ℕ)) → Input R → InputState
state_of remaining input = record { left = remaining input.reader; failed = is_some input.cause }

-- at most one byte past the limit is read
pub record ReadsAtMost (limit : ℕ) (before after : InputState) : Type 0 where
  pub input : List ℕ
  pub consumed : Consumes before.left after.left input
  pub bounded : length input ≤ limit + 1

-- all that the reader has is read, or its first bytes up to one past the limit, and no read failed
pub record ReadsInput (limit : ℕ) (before after : InputState) (input : List ℕ) : Type 0 where
  pub consumed : Consumes before.left after.left input
  pub bounded : length input ≤ limit + 1
  pub whole : length input ≤ limit → IsAtEnd after.left
  pub unfailed : after.failed ≡ before.failed

-- why nothing is read: memory ran out, which may come at any reader, or the reader has failed
abbrev pub IsReadFailure : InputState → InputState → InputFault → Type 0
IsReadFailure before after Memory = after.failed ≡ before.failed
IsReadFailure before after File = after.failed ≡ true
IsReadFailure before after Json = ⊥
IsReadFailure before after Document = ⊥
IsReadFailure before after TooBig = ⊥
IsReadFailure before after Hex = ⊥

-- the fault of a read that failed so, and the reader's state then: it lacked memory, or it has failed
abbrev pub IsReadFault : ErrorKind → InputFault → Bool → Bool → Type 0
IsReadFault kind fault before after =
    ((kind ≡ OutOfMemory) × (fault ≡ Memory) × (after ≡ before))
    ⊎ ((kind ≢ OutOfMemory) × (fault ≡ File) × (after ≡ true))

-- what JSON the bytes are, as `serde_json` reads them: a value, or none
abbrev pub IsReading : List ℕ → Option Data → Type 0
IsReading input (Some value) = IsUtf8 input × (read input ≡ Some value)
IsReading input None = IsUtf8 input → read input ≡ None

-- the JSON of an input of at most `limit` bytes
abbrev pub IsJson : ℕ → List ℕ → Data → Type 0
IsJson limit input json = (length input ≤ limit) × IsReading input (Some json)

-- why an input has no JSON; want of memory may come at any input that has a byte, and no more than the limit
abbrev pub IsNoJson : ℕ → List ℕ → InputFault → Type 0
IsNoJson limit input TooBig = limit < length input
IsNoJson limit input Json = (length input ≤ limit) × IsReading input None
IsNoJson limit input Memory = (0 < length input) × (length input ≤ limit)
IsNoJson limit input Document = ⊥
IsNoJson limit input Hex = ⊥
IsNoJson limit input File = ⊥

-- some more bytes are read, at most `most`, and follow the old ones
pub record ReadsMore (most : ℕ) (before after : InputState) (old new : List ℕ) : Type 0 where
  pub bytes : List ℕ
  pub consumed : Consumes before.left after.left bytes
  pub bounded : length bytes ≤ most
  pub behind : new ≡ old ++ bytes
  pub unfailed : after.failed ≡ before.failed
