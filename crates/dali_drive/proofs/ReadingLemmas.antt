-- How the reading of a unit goes on, frame by frame and block by block, and how it is broken off.
use Rattle.std.proofs.Common.{◌≡◌, ◌≢◌, ◌∙◌, ℕ, List, [], ◌∷◌, ◌++◌, length, map}
use Rattle.std.proofs.Common.{append_assoc, append-nil, Option, Some, None, arith}
use Rattle.std.proofs.KnownBytes.{Appends-trans, Appends-nil, Consumes-trans, Consumes-nil}
use Rattle.dali_frame.specs.declared.forward.Frame.{Frame}
use Rattle.dali_trace.specs.declared.happening.Happening.{Happening}
use Rattle.dali_trace.specs.declared.happening.Happening.TheVariants.{Sent}
use Rattle.dali_write.specs.Exchanges.{Exchange}
use Rattle.dali_write.specs.declared.ask.Ask.TheVariants.{Send, Ended}
use Rattle.dali_write.specs.declared.ask.Verdict.TheVariants.{Read}
use Rattle.dali_write.specs.declared.ask.Verdict.{Verdict}
use Rattle.dali_write.specs.declared.block.Block.{Block}
use Rattle.dali_write.specs.declared.session.Session.{Session}
use Rattle.dali_write.specs.Blocks.{Fits}
use Rattle.dali_write.specs.Told.{Told, unit_of, task_of, aim_of, bytes_read}
use Rattle.dali_write.proofs.BlockSessionLemmas.{block_amid, block_read, block_silent}
use Rattle.dali_read.specs.Readings.{Course, told_in, Done}
use Rattle.dali_read.proofs.InBlockLemmas.{done_count}
use Rattle.dali_trace.specs.declared.fault.DriveFault.{DriveFault}
use Rattle.dali_drive.specs.Transcript.{Streams, Transcript, AreAnswers, sent_lines, said_lines, recorded}
use Rattle.dali_drive.specs.Driven.{BreaksFrame}
use Rattle.dali_drive.specs.UnitRead.{LinkText, BlockSoFar, BlockTold, BlockFailed, BlockBroke}
use Rattle.dali_drive.specs.UnitRead.{ReadSoFar, IsUnitRead, UnitReadBroke}

-- The exchanges seen over a link, piece by piece

abbrev pub as_sent : List Exchange → List Happening
as_sent told = map (λ x. Sent x.frame x.answer) told

pub told_nothing : (first : Streams) → LinkText [] first first
told_nothing first = grind (arith, Appends-nil, Consumes-nil)

pub answers_both : (newer older : List Exchange) (heard then : List ℕ) → AreAnswers (as_sent older) heard
    → AreAnswers (as_sent newer) then → AreAnswers (as_sent (newer ++ older)) (heard ++ then)
answers_both [] older heard then lines more = grind (arith, append-nil)
answers_both (x ∷ newer) older heard then lines more =
    (_, _, answers_both newer older heard more.0 lines more.2, more.3, grind (arith, append_assoc))

texts_both : (newer older : List Exchange)
    → (recorded (as_sent (newer ++ older)) ≡ recorded (as_sent older) ++ recorded (as_sent newer))
    × (sent_lines (as_sent (newer ++ older)) ≡ sent_lines (as_sent older) ++ sent_lines (as_sent newer))
    × (said_lines (as_sent (newer ++ older)) ≡ said_lines (as_sent older) ++ said_lines (as_sent newer))
texts_both [] older = search append-nil
texts_both (x ∷ newer) older = let rest = texts_both newer older in grind (arith, append_assoc)

pub told_both : (newer older : List Exchange) (first mid last : Streams) → LinkText older first mid
    → LinkText newer mid last → LinkText (newer ++ older) first last
told_both newer older first mid last one two = record {
  heard = one.heard ++ two.heard;
  lines = answers_both newer older _ _ one.lines two.lines;
  journal = rw (texts_both newer older).0 (Appends-trans _ _ _ _ _ one.journal two.journal);
  link = rw (texts_both newer older).1 (Appends-trans _ _ _ _ _ one.link two.link);
  answers = Consumes-trans _ _ _ _ _ one.answers two.answers;
  out = rw (texts_both newer older).2 (Appends-trans _ _ _ _ _ one.out two.out);
}

-- One block

module _ (unit : ℕ) (block : Block) where
  pub block_goes_on : (s next : Session) (first mid last : Streams) (frame : Frame) (answer : Option ℕ)
      → (b : BlockSoFar unit block s first mid) → Told (record { frame = frame; answer = answer } ∷ b.told) next
      → unit_of next ≡ unit_of s → task_of next ≡ task_of s
      → Transcript (Sent frame answer ∷ []) mid last → BlockSoFar unit block next first last
  block_goes_on s next first mid last frame answer b was here same text =
      let one : List Exchange = record { frame = frame; answer = answer } ∷ [] in
      record {
        told = one ++ b.told;
        was = was;
        reads = (here ∙ b.reads.0, same ∙ b.reads.1);
        text = told_both one b.told _ _ _ b.text text;
      }

  pub block_breaks : (s : Session) (first mid last : Streams) (frame : Frame) (fault : DriveFault)
      → BlockSoFar unit block s first mid → aim_of s ≡ Send frame → BreaksFrame frame fault mid last
      → BlockBroke unit block fault first last
  block_breaks s first mid last frame fault b is broken =
      record {
        told = b.told;
        frame = frame;
        amid = block_amid b.told s unit block frame b.was b.reads is;
        broke = record { middle = mid; text = b.text; broken = broken };
      }

  pub block_told : (s : Session) (first last : Streams) → BlockSoFar unit block s first last
      → aim_of s ≡ Ended Read → BlockTold unit block (bytes_read s) first last
  block_told s first last b is =
      record { told = b.told; succeeds = block_read b.told s unit block b.was b.reads is; text = b.text }

  pub block_failed : (s : Session) (first last : Streams) (verdict : Verdict) → BlockSoFar unit block s first last
      → aim_of s ≡ Ended verdict → verdict ≢ Read → BlockFailed unit block first last
  block_failed s first last verdict b is other =
      record { told = b.told; fails = block_silent b.told s unit block verdict b.was b.reads is other; text = b.text }

  -- a block that was read has shown a byte of each of its locations
  pub told_count : (bytes : List ℕ) (first last : Streams) → BlockTold unit block bytes first last
      → length bytes ≡ block.count
  told_count bytes first last t = done_count unit block bytes t.told t.succeeds

-- A whole reading

module _ (unit : ℕ) (course : Course) where
  pub reading_goes_on : (bytes more all : List ℕ) (first mid last : Streams) (block : Block) → all ≡ bytes ++ more
      → ReadSoFar unit course bytes first mid → Fits block → course bytes ≡ Some block
      → BlockTold unit block more mid last → ReadSoFar unit course all first last
  reading_goes_on bytes more all first mid last block joined r fits next t =
      let done : List Done = record { block = block; bytes = more; told = t.told } ∷ r.done in
      let text = told_both t.told (told_in r.done) first mid last r.text t.text in
      record { done = done; in_turn = grind arith; bytes_are = grind (arith, r.bytes_are); text = text }

  pub reading_is_silent : (bytes : List ℕ) (first mid last : Streams) (block : Block)
      → ReadSoFar unit course bytes first mid → Fits block → course bytes ≡ Some block
      → BlockFailed unit block mid last → IsUnitRead unit course None first last
  reading_is_silent bytes first mid last block r fits next f =
      record { told = _; ends = grind arith; text = told_both f.told (told_in r.done) _ _ _ r.text f.text }

  pub reading_breaks : (bytes : List ℕ) (first mid last : Streams) (block : Block) (fault : DriveFault)
      → ReadSoFar unit course bytes first mid → Fits block → course bytes ≡ Some block
      → BlockBroke unit block fault mid last → UnitReadBroke unit course fault first last
  reading_breaks bytes first mid last block fault r fits next b =
      let told = b.told ++ told_in r.done in
      record { told = told; frame = b.frame; reading = grind arith; broke = grind (arith, told_both) }
