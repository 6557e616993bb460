-- Readings of a unit over a link.
use Rattle.std.specs.Prelude.{◌≡◌, ◌≤◌, ℕ, Bool, false, List, Option, Some, map}
use Rattle.dali_frame.specs.declared.forward.Frame.{Frame}
use Rattle.dali_trace.specs.declared.happening.Happening.TheVariants.{Sent}
use Rattle.dali_write.specs.Exchanges.{Exchange}
use Rattle.dali_write.specs.declared.block.Block.{Block}
use Rattle.dali_write.specs.declared.session.Session.{Session}
use Rattle.dali_write.specs.Blocks.{Fits, IsAmid}
use Rattle.dali_write.specs.Requests.{block_requests, each_try}
use Rattle.dali_write.specs.Told.{Told, IsReadingBlock}
use Rattle.dali_write.specs.Tries.{most_tries, Misses, Succeeds}
use Rattle.dali_read.specs.Readings.{Course, Done, InTurn, Ends, IsReading, bytes_in, told_in}
use Rattle.dali_trace.specs.declared.fault.DriveFault.{DriveFault}
use Rattle.dali_drive.specs.Transcript.{Streams, Transcript}
use Rattle.dali_drive.specs.Driven.{BreaksFrame}

-- From first to last the lines of these exchanges were written and read, and nothing else; the newest comes first.
abbrev pub LinkText : List Exchange → Streams → Streams → Type 0
LinkText told first last = Transcript (map (λ x. Sent x.frame x.answer) told) first last

-- after these exchanges the fault broke that of the frame off
pub record BreaksAfter (told : List Exchange) (frame : Frame) (fault : DriveFault) (first last : Streams) : Type 0 where
  pub middle : Streams
  pub text : LinkText told first middle
  pub broken : BreaksFrame frame fault middle last

-- a block of a unit can be read over streams that haven't failed
abbrev pub CanRead : ℕ → Block → Bool → Bool → Type 0
CanRead unit block link_out link_in = (unit ≤ 63) × Fits block × (link_out ≡ false) × (link_in ≡ false)

-- One block

-- the session that reads it so far
pub record BlockSoFar (unit : ℕ) (block : Block) (session : Session) (first last : Streams) : Type 0 where
  pub told : List Exchange
  pub was : Told told session
  pub reads : IsReadingBlock unit block session
  pub text : LinkText told first last

pub record BlockTold (unit : ℕ) (block : Block) (bytes : List ℕ) (first last : Streams) : Type 0 where
  pub told : List Exchange
  pub succeeds : Succeeds (each_try (block_requests unit block)) (Some bytes) told
  pub text : LinkText told first last

pub record BlockFailed (unit : ℕ) (block : Block) (first last : Streams) : Type 0 where
  pub told : List Exchange
  pub fails : Misses (each_try (block_requests unit block)) most_tries told
  pub text : LinkText told first last

pub record BlockBroke (unit : ℕ) (block : Block) (fault : DriveFault) (first last : Streams) : Type 0 where
  pub told : List Exchange
  pub frame : Frame
  pub amid : IsAmid unit block told frame
  pub broke : BreaksAfter told frame fault first last

-- A whole reading

-- these bytes were read so far
pub record ReadSoFar (unit : ℕ) (course : Course) (bytes : List ℕ) (first last : Streams) : Type 0 where
  pub done : List Done
  pub in_turn : InTurn unit course done
  pub bytes_are : bytes_in done ≡ bytes
  pub text : LinkText (told_in done) first last

-- it completed: with these bytes, or with none if all tries of a block missed
pub record IsUnitRead (unit : ℕ) (course : Course) (outcome : Option (List ℕ)) (first last : Streams) : Type 0 where
  pub told : List Exchange
  pub ends : Ends unit course outcome told
  pub text : LinkText told first last

-- a fault broke it off
pub record UnitReadBroke (unit : ℕ) (course : Course) (fault : DriveFault) (first last : Streams) : Type 0 where
  pub told : List Exchange
  pub frame : Frame
  pub reading : IsReading unit course told frame
  pub broke : BreaksAfter told frame fault first last
