-- Lemmas on the lines of a run and of its units.
use Rattle.std.proofs.Common.{◌≡◌, ◌<◌, ◌≤◌, ◌+◌, ◌∙◌, ℕ, zero, suc, List, [], ◌∷◌, ◌++◌, Option, true, false, length}
use Rattle.std.proofs.Common.{drop, take, get_or, reverse, append_assoc, drop-cons, ap, sym, subst, refl}
use Rattle.std.proofs.Common.{rules, arith, add-one}
use Rattle.std.specs.List.{AllByRecursion, flat_map, range_with_len}
use Rattle.std.specs.Io.KnownBytes.{Appends}
use Rattle.std.proofs.lemmas.List.{flat_map_more, reverse-append, take_more}
use Rattle.dali_frame.specs.declared.forward.Frame.{Frame}
use Rattle.dali_gear.specs.UnitState.{UnitState}
use Rattle.dali_trace.specs.declared.happening.Happening.{Happening}
use Rattle.dali_trace.specs.declared.happening.Happening.TheVariants.{Sent}
use Rattle.dali_trace.specs.Runs.{SendsAllProper, SendsProper}
use Rattle.dali_text.specs.RunText.{frames_ahead, frames_line, happening_line, is_sent, run_line, summary}
use Rattle.dali_text.specs.UnitLines.{group_line, unit_text}
use Rattle.dali_text.proofs.StreamLemmas.{appends_both}
use Rattle.dali_bank.proofs.ListLemmas.{range_more}

-- ---- proper frames

proper_apart : (past : List Happening) (oldest : Happening) → SendsAllProper (past ++ oldest ∷ [])
    → SendsAllProper past × SendsProper oldest
proper_apart [] oldest all = (tt, all.0)
proper_apart (newest ∷ past) oldest all = let (rest, last) = proper_apart past oldest all.1 in ((all.0, rest), last)

-- the same, the oldest first
pub proper_forward : (trace : List Happening) → SendsAllProper (reverse trace) → AllByRecursion SendsProper trace
proper_forward [] all = tt
proper_forward (oldest ∷ trace) all =
    let (rest, last) =
    proper_apart (reverse trace) oldest (subst SendsAllProper (reverse-append (oldest ∷ []) trace) all) in
    (last, proper_forward trace rest)

-- ---- groups

-- the first `count` groups
abbrev pub groups : ℕ → List ℕ → ℕ → List ℕ
groups address bytes count = flat_map (λ number. group_line address number bytes) (range_with_len 0 count)

pub groups_more : (address : ℕ) (bytes : List ℕ) (n : ℕ)
    → groups address bytes n ++ group_line address n bytes ≡ groups address bytes (n + 1)
groups_more address bytes n =
    rw (add-one n) (flat_map_more (λ number. group_line address number bytes) [] (range_with_len 0 n) n
    ∙ ap (flat_map (λ number. group_line address number bytes)) (sym (range_more 0 n n (omega arith))))

-- ---- runs of frames

-- the part of a trace that isn't printed yet: if some frames of a run aren't printed yet, the line of this run, and
-- then the rest
abbrev pub left_text : ℕ → List Happening → List ℕ
left_text zero rest = summary false rest
left_text (suc k) rest = frames_line (frames_ahead rest + suc k) ++ summary true rest

run_some : (k : ℕ) → run_line (suc k) ≡ frames_line (suc k)
run_some k = search rules

told_before : (k : ℕ) (line rest : List ℕ)
    → frames_line (0 + suc k) ++ (line ++ rest) ≡ (run_line (suc k) ++ line) ++ rest
told_before k line rest =
    ap (λ n. frames_line n ++ (line ++ rest)) (omega arith) ∙ ap (λ t. t ++ (line ++ rest)) (sym (run_some k))
    ∙ sym (append_assoc (run_line (suc k)) line rest)

left_other : (frames : ℕ) (happening : Happening) (rest : List Happening) → is_sent happening ≡ false
    → left_text frames (happening ∷ rest) ≡ (run_line frames ++ happening_line happening) ++ left_text 0 rest
left_other frames (Sent frame answer) rest other = cc
left_other zero _ rest other = refl
left_other (suc k) happening rest other = told_before k (happening_line happening) (summary false rest)

-- the trace is printed up to an index, except for the frames of a run right before it
pub record Summing (trace : List Happening) (index frames : ℕ) (before now : Option (List ℕ)) : Type 0 where
  pub few : frames ≤ index
  pub text : List ℕ
  pub appended : Appends before now text
  pub whole : text ++ left_text frames (drop index trace) ≡ summary false trace

next : (trace : List Happening) (i : ℕ) (happening : Happening) → i < length trace
    → happening ≡ get_or trace i happening → drop i trace ≡ happening ∷ drop (i + 1) trace
next trace i happening within is =
    drop-cons trace i happening within ∙ ap (λ h. h ∷ drop (suc i) trace) (sym is)
    ∙ ap (λ k. happening ∷ drop k trace) (sym (add-one i))

pub sum_other : (trace : List Happening) (i frames : ℕ) (happening : Happening) (before mid told now : Option (List ℕ))
    → i < length trace → happening ≡ get_or trace i happening
    → is_sent happening ≡ false → Summing trace i frames before mid → Appends mid told (run_line frames)
    → Appends told now (happening_line happening) → Summing trace (i + 1) 0 before now
sum_other trace i frames happening before mid told now within is other s run line = record {
  few = omega arith;
  text = s.text ++ (run_line frames ++ happening_line happening);
  appended = appends_both before mid now _ _ s.appended (appends_both mid told now _ _ run line);
  whole =
      append_assoc s.text (run_line frames ++ happening_line happening) (left_text 0 (drop (i + 1) trace))
      ∙ ap (λ t. s.text ++ t) (sym (left_other frames happening (drop (i + 1) trace) other))
      ∙ ap (λ r. s.text ++ left_text frames r) (sym (next trace i happening within is)) ∙ s.whole;
}

pub not_sent : (happening : Happening) → ((frame : Frame) (answer : Option ℕ) → ¬ (happening ≡ Sent frame answer))
    → is_sent happening ≡ false
not_sent (Sent frame answer) other = absurd (other frame answer refl)
not_sent _ other = refl

-- ---- units

-- one more unit
pub units_more : (units : List UnitState) (i : ℕ) (unit : UnitState) (before mid now : Option (List ℕ))
    → i < length units → unit ≡ get_or units i unit
    → Appends before mid (flat_map unit_text (take i units)) → Appends mid now (unit_text unit)
    → Appends before now (flat_map unit_text (take (i + 1) units))
units_more units i unit before mid now within is told line =
    subst (λ text. Appends before now text)
    (ap (λ u. flat_map unit_text (take i units) ++ unit_text u) is
    ∙ flat_map_more unit_text [] (take i units) (get_or units i unit)
    ∙ ap (λ us. flat_map unit_text us) (sym (take_more units i unit within)))
    (appends_both before mid now (flat_map unit_text (take i units)) (unit_text unit) told line)
