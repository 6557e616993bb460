-- A scan of two units and two orders verified by hand, frames that are broken off, and near misses.
use Rattle.std.proofs.Common.{◌≡◌, inl, refl, sym, ap, append_assoc, ℕ, zero, suc, List, [], ◌∷◌, ◌++◌, Some, None, codes}
use Rattle.std.proofs.Common.{true, is_some, take, length, arith, ◌≤◌, ◌+◌, append-nil, take-append-drop, inr, false, replicate, reverse}
use Rattle.std.proofs.Common.{length-append}
use Rattle.std.proofs.lemmas.Fmt.{decimal_digit}
use Rattle.std.proofs.lemmas.List.{length-map, length-reverse}
use Rattle.dali_frame.specs.declared.forward.Frame.TheVariants.{Dtr0, Dtr1, AskDtr0, AskDtr1, Read}
use Rattle.dali_write.specs.Exchanges.{Exchange}
use Rattle.dali_write.specs.WorkedAccesses.{sent}
use Rattle.dali_write.specs.declared.request.Wish.TheVariants.{Nothing, Exactly}
use Rattle.dali_write.specs.Tries.{Misses, Succeeds}
use Rattle.dali_write.specs.Requests.{request}
use Rattle.dali_read.specs.declared.finding.Finding.TheVariants.{Same, Other, Short, Format}
use Rattle.dali_write.specs.Requests.{block_requests, each_try}
use Rattle.dali_write.specs.Blocks.{Fits, IsBlockRead, IsAmid}
use Rattle.dali_write.specs.Requests.{block}
use Rattle.dali_read.specs.Places.{first_block, last_course, identity_course, order_course}
use Rattle.dali_read.specs.Readings.{Course, Ends, Done, IsRead, InTurn, bytes_in, told_in}
use Rattle.dali_drive.specs.Lines.{IsAnswerLine, link_line}
use Rattle.dali_drive.specs.Transcript.{Streams, AreAnswers, link_shown}
use Rattle.dali_drive.specs.UnitRead.{LinkText, UnitReadBroke}
use Rattle.dali_drive.specs.SurveyLines.{last_line, units_line, bytes_line, silent_line, order_head, finding_line}
use Rattle.dali_drive.specs.SurveyLines.{order_silent_line}
use Rattle.dali_bank.specs.Gtin.{IsGtinNumber}
use Rattle.dali_bank.specs.declared.shown.Shown.TheVariants as shown_as
use Rattle.dali_drive.specs.Surveys.{Report, Surveyed, IsScanReport, link_of, Reported, BreaksReport, TellsUnit, IsScan}
use Rattle.dali_drive.specs.Surveys.{BreaksScan, ScanBroke, items_in, all_told, lines_in, answered, sought_course}
use Rattle.dali_drive.specs.declared.sought.Sought.{Sought}
use Rattle.dali_drive.specs.declared.sought.Sought.TheVariants as sought
use Rattle.dali_drive.specs.Surveys.{IsOrderReport, IsSame, TellsOrder, IsVerified, VerifyBroke}
use Rattle.dali_drive.specs.WorkedSurveys.{missed, length_read, silent_unit, found_unit, two_units, before_two_units}
use Rattle.dali_drive.specs.WorkedSurveys.{known_bytes, known_line, blank_line}
use Rattle.dali_drive.specs.WorkedSurveys.{after_two_units, near_order, far_order, same_order, silent_order}
use Rattle.dali_drive.specs.WorkedSurveys.{amid_third_unit, silent_unit_told, before_one_unit, one_unit_and, byte_read}
use Rattle.dali_drive.specs.WorkedSurveys.{other_order, short_order, before_two_orders, after_two_orders}
use Rattle.dali_drive.specs.WorkedSurveys.{after_near_order, amid_far_order, before_frame, after_frame}
use Rattle.dali_trace.specs.declared.fault.DriveFault.{DriveFault}
use Rattle.dali_drive.specs.Driven.{BreaksFrame}
use Rattle.dali_drive.proofs.ReadingLemmas.{told_nothing, as_sent, answers_both, reading_breaks}
use Rattle.dali_drive.proofs.WorkedDriveLemmas.{none_line, answer_line, is_short}
use Rattle.dali_trace.specs.declared.fault.DriveFault.TheVariants as faults
use Rattle.dali_frame.specs.declared.forward.Frame.{Frame}
use Rattle.dali_write.specs.declared.block.Block.{Block}
use Rattle.dali_read.specs.Findings.{IsFound}
use Rattle.dali_trace.specs.declared.fault.DriveFault.TheVariants as faults

-- The lines

pub lines_are : (last_line 7 0xFE ≡ codes "unit 7 last FE\n") × (units_line 0 ≡ codes "units 0\n")
    × (bytes_line 5 9 ≡ codes "unit 5 bytes 9\n") × (silent_line 6 ≡ codes "unit 6 silent\n")
lines_are = search (decimal_digit, arith)

pub near_head : order_head near_order ≡ codes "order 7 unit 1"
near_head = search (decimal_digit, arith)

pub far_head : order_head far_order ≡ codes "order 8 unit 0"
far_head = search (decimal_digit, arith)

pub findings_are : (finding_line near_order Same ≡ codes "order 7 unit 1 same\n")
    × (finding_line near_order (Other 0x0C 0x5A) ≡ codes "order 7 unit 1 other 0C 5A\n")
    × (finding_line near_order Short ≡ codes "order 7 unit 1 short\n")
    × (finding_line near_order Format ≡ codes "order 7 unit 1 format\n")
    × (order_silent_line far_order ≡ codes "order 8 unit 0 silent\n")
findings_are = search (decimal_digit, arith)

-- The answers that came back

pub line_00 : IsAnswerLine (Some 0x00) (codes "00\n")
line_00 = answer_line (codes "00") (omega arith) (omega arith)

pub line_01 : IsAnswerLine (Some 0x01) (codes "01\n")
line_01 = answer_line (codes "01") (omega arith) (omega arith)

pub line_03 : IsAnswerLine (Some 0x03) (codes "03\n")
line_03 = answer_line (codes "03") (omega arith) (omega arith)

pub line_04 : IsAnswerLine (Some 0x04) (codes "04\n")
line_04 = answer_line (codes "04") (omega arith) (omega arith)

pub line_77 : IsAnswerLine (Some 0x77) (codes "77\n")
line_77 = answer_line (codes "77") (omega arith) (omega arith)

pub line_A5 : IsAnswerLine (Some 0xA5) (codes "A5\n")
line_A5 = answer_line (codes "A5") (omega arith) (omega arith)

-- a read of unit 1, by the lines that give DTR0, the byte and DTR0 after it
pub read_heard : (told : List Exchange) (location byte after : ℕ) (heard place read moved : List ℕ)
    → IsAnswerLine (Some location) place → IsAnswerLine (Some byte) read → IsAnswerLine (Some after) moved
    → AreAnswers (as_sent told) heard
    → AreAnswers (as_sent (sent (AskDtr1 1) (Some 1) ∷ sent (AskDtr0 1) (Some after) ∷ sent (Read 1) (Some byte)
    ∷ sent (AskDtr0 1) (Some location) ∷ sent (Dtr0 location) None ∷ sent (AskDtr1 1) (Some 1) ∷ sent (Dtr1 1) None
    ∷ told))
    (heard ++ codes "--\n01\n--\n" ++ place ++ read ++ moved ++ codes "01\n")
read_heard told location byte after heard place read moved at is next lines =
    let selected : AreAnswers (as_sent (sent (Dtr0 location) None ∷ sent (AskDtr1 1) (Some 1) ∷ sent (Dtr1 1) None
    ∷ told)) (heard ++ codes "--\n01\n--\n") =
    (_, _, (_, _, (_, _, lines, none_line, refl), line_01, refl), none_line, simp append_assoc) in
    (_, _, (_, _, (_, _, (_, _, selected, at, refl), is, refl), next, refl), line_01, refl)

abbrev pub lines_of : ℕ → List ℕ → List ℕ
lines_of zero heard = heard
lines_of (suc tries) heard = lines_of tries heard ++ codes "--\n" ++ codes "--\n"

pub missed_heard : (tries : ℕ) (told : List Exchange) (heard : List ℕ) → AreAnswers (as_sent told) heard
    → AreAnswers (as_sent (missed tries ++ told)) (lines_of tries heard)
missed_heard zero told heard lines = lines
missed_heard (suc tries) told heard lines =
    (_, _, (_, _, missed_heard tries told heard lines, none_line, refl), none_line, refl)

-- Unit 0 is silent, and unit 1 answers

all_missed : (tries : ℕ) → Misses (each_try (block_requests 0 first_block)) tries (missed tries)
all_missed zero = refl
all_missed (suc tries) =
    let older = all_missed tries in
    (sent (AskDtr1 0) None ∷ sent (Dtr1 1) None ∷ [], _, refl, (Exactly 1, _, (λ e. cc), (Nothing, tt, refl)), older)

pub first_fits : Fits first_block
first_fits = omega arith

pub silent_ends : (course : Course) → course [] ≡ Some first_block → Ends 0 course None (missed 8)
silent_ends course next =
    let fits = first_fits in let fails = all_missed 8 in
    record { done = []; in_turn = tt; block = _; fits = fits; next = next; missed = _; fails = fails; told_are = refl }

pub silent_scanned : IsScanReport sought.Last silent_unit
silent_scanned = (silent_ends last_course refl, refl)

-- a block that was read at once, and a reading that completed
at_once : (unit : ℕ) (block : Block) (bytes : List ℕ) (told : List Exchange) → IsBlockRead unit block bytes told
    → Succeeds (each_try (block_requests unit block)) (Some bytes) told
at_once unit block bytes told read =
    (told, [], 0, sym (append-nil told), read.0, ap Some (sym read.1), omega arith, refl)

is_read : {unit : ℕ} {course : Course} (done : List Done) → InTurn unit course done → course (bytes_in done) ≡ None
    → IsRead unit course (bytes_in done) (told_in done)
is_read done turn over = grind arith

pub length_told : Succeeds (each_try (block_requests 1 first_block)) (Some (0x77 ∷ [])) length_read
length_told =
    at_once 1 first_block _ _
    ((_, search, (_, search, (_, search, (_, search, (_, search, (_, search, (_, search, refl))))))), refl)

abbrev pub first_done : Done
first_done = record { block = first_block; bytes = 0x77 ∷ []; told = length_read }

pub found_scanned : IsScanReport sought.Last found_unit
found_scanned =
    (is_read (first_done ∷ []) (tt, first_fits, refl, length_told) refl, search (decimal_digit, arith))

length_heard : AreAnswers (as_sent length_read) (codes "--\n01\n--\n00\n77\n01\n01\n")
length_heard =
    read_heard [] 0x00 0x77 0x01 [] (codes "00\n") (codes "77\n") (codes "01\n") line_00 line_77 line_01 refl

two_heard : AreAnswers (as_sent (length_read ++ missed 8)) (lines_of 8 [] ++ codes "--\n01\n--\n00\n77\n01\n01\n")
two_heard = answers_both length_read (missed 8) (lines_of 8 []) _ (missed_heard 8 [] [] refl) length_heard

pub two_surveyed : Surveyed (IsScanReport sought.Last) two_units before_two_units after_two_units
two_surveyed = search (arith, found_scanned, silent_scanned, two_heard)

-- of a small survey: what its reports are for, their exchanges and lines, and how many units answered
pub two_units_are : (items_in two_units ≡ 1 ∷ 0 ∷ []) × (all_told two_units ≡ length_read ++ missed 8)
    × (lines_in two_units ≡ codes "unit 1 last 77\n") × (answered two_units ≡ 1)
    × (answered (silent_unit ∷ []) ≡ 0) × (sought_course sought.Last ≡ last_course)
    × (sought_course sought.Identity ≡ identity_course)
two_units_are = (refl, refl, refl, refl, refl, refl, refl)

pub lines_in_turn : lines_in (silent_order ∷ same_order ∷ []) ≡ codes "order 7 unit 1 same\norder 8 unit 0 silent\n"
lines_in_turn = refl

-- a silent unit has no line, and a unit that answers only its own
pub no_silent_line : Surveyed (IsScanReport sought.Last) two_units before_two_units silent_unit_told → ⊥
no_silent_line surveyed = grind arith

pub not_silent_with_a_line : TellsUnit 0 None (codes "unit 0 last 00\n") → ⊥
not_silent_with_a_line is = cc

pub not_two_bytes : (line : List ℕ) → TellsUnit 1 (Some (0x77 ∷ 0x00 ∷ [])) line → ⊥
not_two_bytes line tells = let few = tells.0 in omega arith

-- what a unit is

zeros_are_gtin : IsGtinNumber 0
zeros_are_gtin =
    (replicate 14 0x30, refl, record { sized = search arith; digits = search arith; checked = refl }, refl)

pub known_told : TellsUnit 1 (Some (0x77 ∷ known_bytes)) known_line
known_told = (
  refl,
  replicate 14 0x30,
  codes "01020304050607A8",
  (
    shown_as.Number 0,
    (omega arith, (λ same. cc, (zeros_are_gtin, record { sized = refl; in_range = search arith; adds_up = refl }))),
    search (decimal_digit, arith),
  ),
  (shown_as.Hex, (omega arith, (λ same. cc, tt)), search arith),
  search (decimal_digit, arith),
)

pub blank_told : TellsUnit 1 (Some (0x77 ∷ replicate 14 0xFF)) blank_line
blank_told = (
  refl,
  codes "unknown",
  codes "unknown",
  (shown_as.Unknown, (omega arith, refl), refl),
  (shown_as.Unknown, (omega arith, refl), refl),
  search (decimal_digit, arith),
)

-- the last location alone isn't reported of a unit whose identity was read
pub not_without_identity : TellsUnit 1 (Some (0x77 ∷ known_bytes)) (codes "unit 1 last 77\n") → ⊥
not_without_identity tells = grind (arith, decimal_digit)

-- a reading that is broken off in its first frame
first_amid : (unit : ℕ) (block : Block) → IsAmid unit block [] (Dtr1 1)
first_amid unit block =
    record {
      tried = [];
      missed = [];
      misses = 0;
      next = request (Dtr1 1) Nothing;
      left = _;
      parts = refl;
      few = omega arith;
      misses_are = refl;
      try = refl;
      frame_is = refl;
    }

pub frame_broke : {fault : DriveFault} {old new : Streams} (unit : ℕ) (course : Course) → course [] ≡ Some first_block
    → BreaksFrame (Dtr1 1) fault old new → UnitReadBroke unit course fault old new
frame_broke {old = old} unit course next broken =
    let text = told_nothing old in
    reading_breaks unit course [] _ _ _ first_block _
    (record { done = []; in_turn = tt; bytes_are = refl; text = text }) first_fits next
    (record {
      told = [];
      frame = Dtr1 1;
      amid = first_amid unit first_block;
      broke = record { middle = old; text = text; broken = broken };
    })

-- a frame's line is broken off after `count` bytes
cut_frame : (frame : Frame) (count : ℕ) (old answers : List ℕ) → count ≤ 5 → BreaksFrame frame faults.Link
    (link_shown (Some old) (Some answers)) (link_shown (Some (old ++ take count (link_line frame))) (Some answers))
cut_frame frame count old answers few = grind arith

-- the third unit is broken off in its first frame
third_cut : BreaksScan sought.Last faults.Link (2 ∷ []) 1 after_two_units amid_third_unit
third_cut = (frame_broke 2 last_course refl (cut_frame (Dtr1 1) 2 _ _ (omega arith)), refl)

pub third_broke : ScanBroke sought.Last (0 ∷ 1 ∷ 2 ∷ []) faults.Link before_two_units amid_third_unit
third_broke = search (arith, two_surveyed, third_cut)

-- One unit, and its line whole or in part

one_text : LinkText length_read (link_of before_one_unit) (link_of (one_unit_and []))
one_text = record { heard = _; lines = length_heard; journal = tt; link = refl; answers = refl; out = tt }

pub one_reported : Reported (IsScanReport sought.Last) 1 (λ report. true ≡ is_some report.outcome) before_one_unit
    (one_unit_and (codes "unit 1 last 77\n"))
one_reported = search (arith, found_scanned, one_text)

pub part_written : BreaksReport (IsScanReport sought.Last) faults.Out 1 1 last_course before_one_unit
    (one_unit_and (codes "unit 1"))
part_written = (found_unit, refl, found_scanned, one_text, record { count = 6; within = omega arith; part = refl })

pub no_other_text : BreaksReport (IsScanReport sought.Last) faults.Out 1 1 last_course before_one_unit
    (one_unit_and (codes "unit 2")) → ⊥
no_other_text broke = grind (arith, decimal_digit, take-append-drop broke.4.count broke.0.line)

-- another fault than Out leaves no part of a line
pub no_line_of_another_fault : BreaksReport (IsScanReport sought.Last) faults.End 1 1 last_course before_one_unit
    (one_unit_and (codes "unit 1")) → ⊥
no_line_of_another_fault broke = let never : codes "unit 1" ≡ [] = broke.1 in cc

-- a whole scan

pub all_asked : (what : Sought) (addresses : List ℕ) (units : ℕ) (first last : Streams)
    → (scan : IsScan what addresses units first last) → length scan.reports ≡ length addresses
all_asked what addresses units first last scan = grind (arith, length-map, length-reverse)

-- at most as many units as there are addresses
answered_few : (reports : List (Report ℕ)) → answered reports ≤ length reports
answered_few [] = omega arith
answered_few (report ∷ reports) = let few = answered_few reports in grind arith

pub at_most_all : (what : Sought) (addresses : List ℕ) (units : ℕ) (first last : Streams)
    → IsScan what addresses units first last → units ≤ length addresses
at_most_all what addresses units first last scan =
    omega (arith, answered_few scan.reports, all_asked _ _ _ _ _ scan, scan.units_are)

-- a scan that is broken off has a report of each address before it
pub all_before_asked : (what : Sought) (addresses : List ℕ) (fault : DriveFault) (first last : Streams)
    → (broke : ScanBroke what addresses fault first last)
    → length broke.reports + length broke.rest ≡ length addresses
all_before_asked what addresses fault first last broke =
    grind (arith, length-map, length-reverse, length-append (reverse (items_in broke.reports)) broke.rest)

pub only_its_line_behind : (what : Sought) (fault : DriveFault) (units : ℕ) (old new : Streams)
    → BreaksScan what fault [] units old new → fault ≡ faults.Out
only_its_line_behind what fault units old new broke = grind arith

-- Two orders: the unit of the first one has its byte, and that of the second is silent

byte_told : (byte : ℕ) → Succeeds (each_try (block_requests 1 (block 0x03 1))) (Some (byte ∷ [])) (byte_read byte)
byte_told byte =
    at_once 1 (block 0x03 1) _ _
    ((_, search, (_, search, (_, search, (_, search, (_, search, (_, search, (_, search, refl))))))), refl)

near_ends : (byte : ℕ)
    → Ends 1 (order_course near_order.updates) (Some (0x77 ∷ byte ∷ [])) (byte_read byte ++ length_read)
near_ends byte = is_read (record { block = block 0x03 1; bytes = byte ∷ []; told = byte_read byte } ∷ first_done ∷ [])
    ((tt, first_fits, refl, length_told), omega arith, refl, byte_told byte) refl

same_found : IsFound near_order.updates (0x77 ∷ 0xA5 ∷ []) Same
same_found = (0x77, omega arith, inl (0xA5 ∷ [], refl, omega arith, ([], refl)))

other_found : IsFound near_order.updates (0x77 ∷ 0x5A ∷ []) (Other 0x03 0x5A)
other_found = (0x77, omega arith, inl (_, refl, omega arith, ([], 0xA5, [], [], refl, refl, λ e. omega (arith, e))))

pub same_told : IsOrderReport same_order
same_told = (near_ends 0xA5, (Same, same_found, sym findings_are.0))

pub other_told : IsOrderReport other_order
other_told = (near_ends 0x5A, (Other 0x03 0x5A, other_found, search (decimal_digit, arith)))

pub short_told : TellsOrder near_order (Some (0x02 ∷ [])) (codes "order 7 unit 1 short\n")
short_told = (Short, (0x02, [], refl, omega arith), sym findings_are.2)

pub silent_told : IsOrderReport silent_order
silent_told = (silent_ends (order_course far_order.updates) refl, sym findings_are.4)

-- which of them are the same

pub is_same : IsSame same_order
is_same = (0x77 ∷ 0xA5 ∷ [], refl, same_found)

pub not_other : IsFound near_order.updates (0x77 ∷ 0x5A ∷ []) Same → ⊥
not_other found = grind arith

pub other_is_not : IsSame other_order → ⊥
other_is_not same = grind arith

pub short_is_not : IsSame short_order → ⊥
short_is_not same = grind arith

pub silent_is_not : IsSame silent_order → ⊥
silent_is_not (bytes, is, found) = cc

-- another byte isn't reported as the same
pub not_told_same : TellsOrder near_order (Some (0x77 ∷ 0x5A ∷ [])) (codes "order 7 unit 1 same\n") → ⊥
not_told_same tells = grind (arith, not_other, decimal_digit)

-- nor a silent unit as a short one
pub not_told_short : TellsOrder far_order None (codes "order 8 unit 0 short\n") → ⊥
not_told_short is = grind (arith, findings_are)

near_heard : AreAnswers (as_sent (byte_read 0xA5 ++ length_read))
    (codes "--\n01\n--\n00\n77\n01\n01\n--\n01\n--\n03\nA5\n04\n01\n")
near_heard =
    read_heard length_read 0x03 0xA5 0x04 (codes "--\n01\n--\n00\n77\n01\n01\n") (codes "03\n") (codes "A5\n")
    (codes "04\n") line_03 line_A5 line_04 length_heard

near_verified : Surveyed IsOrderReport (same_order ∷ []) before_two_orders after_near_order
near_verified = search (arith, same_told, near_heard)

pub one_verified : IsVerified (near_order ∷ []) true before_two_orders after_near_order
one_verified = grind (arith, same_order, near_verified, is_same)

both_heard : AreAnswers (as_sent (missed 8 ++ byte_read 0xA5 ++ length_read))
    (lines_of 8 (codes "--\n01\n--\n00\n77\n01\n01\n--\n01\n--\n03\nA5\n04\n01\n"))
both_heard = missed_heard 8 (byte_read 0xA5 ++ length_read) _ near_heard

both_verified : Surveyed IsOrderReport (silent_order ∷ same_order ∷ []) before_two_orders after_two_orders
both_verified = search (arith, silent_told, same_told, both_heard)

pub two_verified : IsVerified (near_order ∷ far_order ∷ []) false before_two_orders after_two_orders
two_verified = grind (arith, silent_order, same_order, both_verified, silent_is_not)

far_cut : BreaksReport IsOrderReport faults.Link far_order 0 (order_course far_order.updates) after_near_order
    amid_far_order
far_cut = (frame_broke 0 (order_course far_order.updates) refl (cut_frame (Dtr1 1) 2 _ _ (omega arith)), refl)

pub far_broke : VerifyBroke (near_order ∷ far_order ∷ []) faults.Link before_two_orders amid_far_order
far_broke = search (arith, near_verified, far_cut)

-- One frame that is broken off

pub cut_line_is_link : BreaksFrame (AskDtr0 5) faults.Link (before_frame []) (after_frame (codes "0B9"))
cut_line_is_link = cut_frame (AskDtr0 5) 3 _ _ (omega arith)

pub half_answer_is_link : BreaksFrame (AskDtr0 5) faults.Link (before_frame (codes "0")) (after_frame (codes "0B98\n"))
half_answer_is_link =
    inr (record { journal = tt; link = refl; answers = (codes "0", is_short _ (omega arith), refl); out = tt })

pub no_answer_is_end : BreaksFrame (AskDtr0 5) faults.End (before_frame []) (after_frame (codes "0B98\n"))
no_answer_is_end = grind arith

pub cut_line_is_no_end : BreaksFrame (AskDtr0 5) faults.End (before_frame []) (after_frame (codes "0B9")) → ⊥
cut_line_is_no_end broke = grind arith

pub other_line_is_no_end : BreaksFrame (AskDtr0 5) faults.End (before_frame []) (after_frame (codes "0B9C\n")) → ⊥
other_line_is_no_end broke = grind arith

pub out_breaks_no_frame : (old new : Streams) → BreaksFrame (AskDtr0 5) faults.Out old new → ⊥
out_breaks_no_frame old new broke = broke.answers
