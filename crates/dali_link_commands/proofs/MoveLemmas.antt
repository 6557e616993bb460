-- A run over a link, move by move.
use Rattle.std.proofs.Common.{◌≡◌, ℕ, List, [], ◌∷◌, Option, sym, subst, ◌∙◌}
use Rattle.std.proofs.KnownBytes.{Appends-nil, Appends-trans}
use Rattle.std.specs.Io.KnownBytes.{Appends}
use Rattle.dali_frame.specs.declared.forward.Frame.TheVariants.{Other}
use Rattle.dali_trace.specs.declared.happening.Happening.TheVariants.{Sent}
use Rattle.dali_trace.specs.declared.fault.DriveFault.TheVariants as faults
use Rattle.dali_drive.specs.Driven.{AppendsPart}
use Rattle.dali_drive.specs.Surveys.{link_of}
use Rattle.dali_drive.specs.Transcript.{Streams, Transcript}
use Rattle.dali_drive.specs.UnitRead.{LinkText}
use Rattle.dali_drive.proofs.ReadingLemmas.{told_nothing, told_both}
use Rattle.dali_address.specs.Calls.{call_word}
use Rattle.dali_address.specs.Rights.{MayFollow, MayTell}
use Rattle.dali_address.specs.Steps.{Exchange}
use Rattle.dali_address.specs.Told.{Told, IsWanted, IsSaying, task_of}
use Rattle.dali_address.specs.declared.addressing.Addressing.{Addressing}
use Rattle.dali_address.specs.declared.call.Call.{Call}
use Rattle.dali_address.specs.declared.task.Line.{Line}
use Rattle.dali_address.specs.declared.task.Task.{Task}
use Rattle.dali_link_commands.specs.AddressLines.{address_line}
use Rattle.dali_link_commands.specs.Addressed.{AddressingBroke, IsMoved, Move, frames_of, lines_in, told_in}
use Rattle.dali_link_commands.specs.Addressed.Move.{Carried, Said}

-- so far these moves were made, and the run has seen what came of them
pub record IsGoing (task : Task) (run : Addressing) (first last : Streams) : Type 0 where
  pub moves : List Move
  pub moved : IsMoved task moves first last
  pub own : task_of run ≡ task
  pub told : Told (told_in moves) run

pub nothing_yet : (task : Task) (run : Addressing) (first : Streams) → task_of run ≡ task → Told [] run
    → IsGoing task run first first
nothing_yet task run first own told = record {
  moves = [];
  moved = record { right = tt; link = told_nothing _; out = Appends-nil _ };
  own = own;
  told = told;
}

-- one more frame was carried
pub carried : (task : Task) (before after : Addressing) (first mid last : Streams) (call : Call) (word : ℕ)
    (answer : Option ℕ)
    → IsGoing task before first mid → word ≡ call_word call → IsWanted before call
    → ((told : List Exchange) → Told told before → MayFollow (task_of before) told call)
    → task_of after ≡ task_of before
    → ((told : List Exchange) (sent : Call) → IsWanted before sent → Told told before
    → Told (record { call = sent; answer = answer } ∷ told) after)
    → Transcript (Sent (Other word) answer ∷ []) (link_of mid) (link_of last) → last.out ≡ mid.out
    → IsGoing task after first last
carried task before after first mid last call word answer far is wanted right own told text same =
    let one : Exchange = record { call = call; answer = answer } in
    let here : Transcript (Sent (Other (call_word call)) answer ∷ []) (link_of mid) (link_of last)
    = subst (λ (it : ℕ). Transcript (Sent (Other it) answer ∷ []) (link_of mid) (link_of last)) is text in
    record {
      moves = Carried one ∷ far.moves;
      moved = record {
        right = (
          subst (λ (it : Task). MayFollow it (told_in far.moves) call) far.own (right (told_in far.moves) far.told),
          far.moved.right,
        );
        link =
            told_both (frames_of (one ∷ [])) (frames_of (told_in far.moves)) (link_of first) (link_of mid)
            (link_of last) far.moved.link here;
        out = subst (λ (o : Option (List ℕ)). Appends first.out o (lines_in far.moves)) (sym same) far.moved.out;
      };
      own = own ∙ far.own;
      told = told (told_in far.moves) call wanted far.told;
    }

-- one more line was written
pub said : (task : Task) (before after : Addressing) (first mid last : Streams) (line : Line) (text : List ℕ)
    → IsGoing task before first mid → text ≡ address_line line → IsSaying before line
    → ((told : List Exchange) → Told told before → MayTell line told)
    → task_of after ≡ task_of before
    → ((told : List Exchange) (saying : Line) → IsSaying before saying → Told told before → Told told after)
    → Appends mid.out last.out text → link_of last ≡ link_of mid
    → IsGoing task after first last
said task before after first mid last line text far is saying right own told written same = record {
  moves = Said line ∷ far.moves;
  moved = record {
    right = (right (told_in far.moves) far.told, far.moved.right);
    link =
        subst (λ (s : Streams). LinkText (frames_of (told_in far.moves)) (link_of first) s) (sym same) far.moved.link;
    out =
        Appends-trans _ _ _ _ _ far.moved.out
        (subst (λ (t : List ℕ). Appends mid.out last.out t) is written);
  };
  own = own ∙ far.own;
  told = told (told_in far.moves) line saying far.told;
}

-- the next line was broken off
pub line_broke : (task : Task) (run : Addressing) (line : Line) (text : List ℕ) (first mid last : Streams)
    → IsGoing task run first mid → text ≡ address_line line
    → ((told : List Exchange) → Told told run → MayTell line told)
    → AppendsPart mid.out last.out text → link_of last ≡ link_of mid → AddressingBroke task faults.Out first last
line_broke task run line text first mid last far is right part same = record {
  moves = far.moves;
  middle = mid;
  moved = far.moved;
  broke = (
    line,
    right (told_in far.moves) far.told,
    subst (λ (s : Streams). LinkText [] (link_of mid) s) (sym same) (told_nothing (link_of mid)),
    subst (λ (t : List ℕ). AppendsPart mid.out last.out t) is part,
  );
}
