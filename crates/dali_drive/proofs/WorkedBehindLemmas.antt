-- The journal after older journals, what a list of orders gives, and what is followed, by hand, and near misses.
use Rattle.std.proofs.Common.{Some, ◌≡◌, refl, ℕ, List, [], ◌∷◌, ◌++◌, arith, append-nil, length-append, codes, Option}
use Rattle.std.proofs.Common.{None, ap, length, ◌≤◌}
use Rattle.dali_bank.specs.Order.{Contents}
use Rattle.dali_journal.specs.declared.behind.JoinFault.{JoinFault}
use Rattle.dali_journal.specs.declared.behind.JoinFault.TheVariants.{Repeated}
use Rattle.dali_journal.specs.declared.record.Code.TheVariants.{Silent}
use Rattle.dali_journal.specs.declared.record.Record.{Record}
use Rattle.dali_journal.specs.declared.record.Record.TheVariants.{Began, Opened, Ended}
use Rattle.dali_journal.specs.declared.version.Version.TheVariants.{Two}
use Rattle.dali_journal.specs.JournalState.{JournalState}
use Rattle.dali_journal.specs.Spelling.{header, journal_spelling}
use Rattle.dali_trace.specs.Trace.{Start}
use Rattle.dali_trace.specs.Worked.{first_order, second_order, empty}
use Rattle.dali_drive.specs.declared.following.Given.TheVariants as gives
use Rattle.dali_drive.specs.declared.listed.ListedOrders.{ListedOrders}
use Rattle.dali_drive.specs.Behind.{ActsOnceBehind, IsBegunBehind, IsUnjoinedAt, bytes_behind}
use Rattle.dali_drive.specs.Listed.{GaveListed, IsEmpty}
use Rattle.dali_drive.specs.Desks.{Look}
use Rattle.dali_drive.specs.Transcript.{Streams}
use Rattle.std.proofs.lemmas.List.{append_cancel_right, length-reverse, length-map}
use Rattle.std.proofs.lemmas.Fmt.{decimal_digit}
use Rattle.arrayvec.specs.ArrayVec.{ArrayVec}
use Rattle.dali_trace.specs.declared.fault.DriveFault.{DriveFault}
use Rattle.dali_trace.specs.declared.fault.DriveFault.TheVariants.{Journal, Link, Line, End, NoMemory, TooLong, Out}
use Rattle.dali_drive.specs.WorkedOn.{AreUnasked}
use Rattle.dali_trace.specs.declared.happening.Happening.TheVariants.{Asked, Answered, Sent, Kept, Stopped, Powered}
use Rattle.dali_trace.specs.declared.happening.Reply.TheVariants.{Taken, Full}
use Rattle.dali_frame.specs.declared.forward.Frame.TheVariants.{Dtr1}
use Rattle.dali_drive.specs.declared.following.Given.TheVariants as gives
use Rattle.dali_drive.specs.Followed.{Step, happenings, told_lines, given_in, submitted, as_given, BrokenOrder}
use Rattle.dali_drive.specs.Followed.Step.{Happened, Told}
use Rattle.dali_write.specs.declared.pace.Pace.TheVariants.{Checked}

-- ---- the bytes of both

-- of a store without records they are the older journal's
pub bytes_of_the_older_alone : (older : List Record) → bytes_behind older (header Two) ≡ journal_spelling Two older
bytes_of_the_older_alone older = append-nil _

-- of older journals without records they are the store's
pub bytes_of_the_store_alone :
    bytes_behind [] (0x44 ∷ 0x42 ∷ 0x31 ∷ 0x02 ∷ 0x45 ∷ 3 ∷ []) ≡ 0x44 ∷ 0x42 ∷ 0x31 ∷ 0x02 ∷ 0x45 ∷ 3 ∷ []
bytes_of_the_store_alone = refl

-- one header in front, the older records, and then the store's
pub bytes_of_both :
    bytes_behind (Opened 5 ∷ []) (0x44 ∷ 0x42 ∷ 0x31 ∷ 0x02 ∷ 0x45 ∷ 0 ∷ [])
    ≡ 0x44 ∷ 0x42 ∷ 0x31 ∷ 0x02 ∷ 0x4F ∷ 5 ∷ 0x45 ∷ 0 ∷ []
bytes_of_both = refl

-- ---- the records of both

abbrev older_records : List Record
older_records = Ended Silent ∷ Began first_order 7 ∷ []

abbrev own_records : List Record
own_records = Ended Silent ∷ Began second_order 8 ∷ []

-- the store's come in front of the older ones, and the whole may hold the older orders and the limit
pub whole_of_two : (older : JournalState) (most : ℕ) (first : Streams) (b : IsBegunBehind (Some older) 10 most first)
    → older.records ≡ older_records → b.begun.journal.records ≡ own_records
    → (b.journal.records ≡ own_records ++ older_records) × (b.journal.limit ≡ 11)
whole_of_two older most first b there here = grind arith

-- ---- each order acts once

-- a trace from a journal without the older records doesn't follow them
pub older_records_forgotten : (older : JournalState) (start : Start) → older.records ≡ older_records
    → start.records ≡ [] → ActsOnceBehind older 10 start [] → ⊥
older_records_forgotten older start there here acts =
    grind (arith, length-append acts.own older.records, acts.records_are)

-- nor is one from a journal that has an older number again
pub older_number_again : (older : JournalState) (start : Start) → older.records ≡ older_records
    → start.records ≡ Began first_order 9 ∷ older_records → ActsOnceBehind older 10 start [] → ⊥
older_number_again older start there here acts =
    grind (arith, append_cancel_right acts.own (Began first_order 9 ∷ []) older.records, acts.apart 1)

-- ---- two journals that are none together

-- they have a number in common
pub unjoined_without_a_common_number : (older : JournalState) (limit most : ℕ) (first : Streams) (last : Look)
    → older.records ≡ older_records → IsUnjoinedAt (Repeated 2) (Some older) limit most first last → ⊥
unjoined_without_a_common_number older limit most first last there ends = grind arith

-- a journal without an older one is never refused as unjoined
pub alone_is_joined : (fault : JoinFault) (limit most : ℕ) (first : Streams) (last : Look)
    → IsUnjoinedAt fault None limit most first last → ⊥
alone_is_joined fault limit most first last ends = ends.why

-- no frame was sent, no line read and no reply written
pub unjoined_and_sent : (fault : JoinFault) (older : Option JournalState) (limit most : ℕ) (first : Streams)
    (last : Look) → first.link ≡ Some [] → last.streams.link ≡ Some (codes "C301\n")
    → IsUnjoinedAt fault older limit most first last → ⊥
unjoined_and_sent fault older limit most first last none sent ends = grind arith

pub unjoined_and_heard : (fault : JoinFault) (older : Option JournalState) (limit most : ℕ) (first : Streams)
    (last : Look) → first.answers ≡ Some (codes "--\n") → last.streams.answers ≡ Some []
    → IsUnjoinedAt fault older limit most first last → ⊥
unjoined_and_heard fault older limit most first last line heard ends = grind arith

pub unjoined_and_said : (fault : JoinFault) (older : Option JournalState) (limit most : ℕ) (first : Streams)
    (last : Look) → first.out ≡ Some [] → last.streams.out ≡ Some (codes "reply 1 taken\n")
    → IsUnjoinedAt fault older limit most first last → ⊥
unjoined_and_said fault older limit most first last none said ends = grind arith

-- ---- what a list gives

abbrev IsList : ListedOrders → List Contents → Type 0
IsList listed orders = (listed.rest.now ≡ orders) × (listed.moment ≡ 7)

-- its first order at its moment, and then the second one
pub gave_the_first : (first now : ListedOrders) → IsList first (first_order ∷ second_order ∷ [])
    → IsList now (second_order ∷ []) → GaveListed first now (gives.Order first_order 7 ∷ [])
gave_the_first first now before after =
    record { orders = first_order ∷ []; rest_is = cc; moment_is = cc; given_are = cc }

pub gave_both : (first now : ListedOrders) → IsList first (first_order ∷ second_order ∷ []) → IsList now []
    → GaveListed first now (gives.Order second_order 7 ∷ gives.Order first_order 7 ∷ []) × IsEmpty now
gave_both first now before after =
    (record { orders = first_order ∷ second_order ∷ []; rest_is = cc; moment_is = cc; given_are = cc }, after.0)

-- if the second one is left, only the first was given
pub second_before_the_first : (first now : ListedOrders) → IsList first (first_order ∷ second_order ∷ [])
    → IsList now (second_order ∷ []) → GaveListed first now (gives.Order second_order 7 ∷ []) → ⊥
second_before_the_first first now before after gave =
    grind (arith, append_cancel_right gave.orders (first_order ∷ []) now.rest.now)

pub first_at_another_moment : (first now : ListedOrders) → IsList first (first_order ∷ second_order ∷ [])
    → IsList now (second_order ∷ []) → GaveListed first now (gives.Order first_order 8 ∷ []) → ⊥
first_at_another_moment first now before after gave =
    grind (arith, append_cancel_right gave.orders (first_order ∷ []) now.rest.now)

pub first_passed_over : (first now : ListedOrders) → IsList first (first_order ∷ second_order ∷ [])
    → IsList now (second_order ∷ []) → GaveListed first now [] → ⊥
first_passed_over first now before after gave =
    grind (arith, append_cancel_right gave.orders (first_order ∷ []) now.rest.now)

-- if both are left, none was given
pub first_given_and_left : (first now : ListedOrders) → IsList first (first_order ∷ second_order ∷ [])
    → IsList now (first_order ∷ second_order ∷ []) → GaveListed first now (gives.Order first_order 7 ∷ []) → ⊥
first_given_and_left first now before after gave = grind (arith, append_cancel_right gave.orders [] now.rest.now)

-- ---- orders and refused lines that are followed

abbrev first_line : ArrayVec ℕ
first_line = record { items = codes "item 1 fault 11 Json\n" }

abbrev last_line : ArrayVec ℕ
last_line = record { items = codes "item 4 fault 12 Document\n" }

-- a line is refused, an order is taken and begun and a frame sent, another is answered, and a line is refused
abbrev followed : List Step
followed =
    Told last_line ∷ Happened (Answered 2 Full) ∷ Happened (Asked second_order 8)
    ∷ Happened (Powered 5) ∷ Happened (Stopped Checked) ∷ Happened (Sent (Dtr1 1) None) ∷ Happened
    (Kept (Began first_order 7))
    ∷ Happened (Answered 1 Taken) ∷ Happened (Asked first_order 7) ∷ Told first_line ∷ []

-- what was written: each line in its turn
pub lines_in_turn : told_lines followed
    ≡ codes "item 1 fault 11 Json\nreply 1 taken\nreply 2 full\nitem 4 fault 12 Document\n"
lines_in_turn = rw (decimal_digit 1 (omega arith), decimal_digit 2 (omega arith)) refl

-- what was given
pub given_in_turn : given_in followed
    ≡ gives.Line last_line ∷ gives.Order second_order 8 ∷ gives.Order first_order 7 ∷ gives.Line first_line ∷ []
given_in_turn = refl

-- what happened: all but the refused lines that were passed on
pub happened_in_turn : happenings followed
    ≡ Answered 2 Full ∷ Asked second_order 8 ∷ Powered 5 ∷ Stopped Checked ∷ Sent (Dtr1 1) None ∷ Kept
    (Began first_order 7)
    ∷ Answered 1 Taken ∷ Asked first_order 7 ∷ []
happened_in_turn = refl

-- which orders were submitted, and at which moments
pub orders_in_turn : submitted (given_in followed) ≡ (second_order, 8) ∷ (first_order, 7) ∷ []
orders_in_turn = refl

pub given_alone : as_given ((second_order, 8) ∷ (first_order, 7) ∷ [])
    ≡ gives.Order second_order 8 ∷ gives.Order first_order 7 ∷ []
given_alone = refl

-- ---- orders that were broken off

-- one order at most is read ahead of what is asked, if there is no memory for it
pub one_is_ahead_without_memory : AreUnasked NoMemory ((first_order, 7) ∷ [])
one_is_ahead_without_memory = refl

one_at_most : (fault : DriveFault) (unasked : List (Contents × ℕ)) → AreUnasked fault unasked → length unasked ≤ 1
one_at_most NoMemory unasked ahead = omega (arith, ahead)
one_at_most Journal unasked ahead = rw ahead (omega arith)
one_at_most Link unasked ahead = rw ahead (omega arith)
one_at_most (Line why) unasked ahead = rw ahead (omega arith)
one_at_most End unasked ahead = rw ahead (omega arith)
one_at_most TooLong unasked ahead = rw ahead (omega arith)
one_at_most Out unasked ahead = rw ahead (omega arith)

pub two_orders_arent_ahead : (fault : DriveFault) (first then last : Streams) → BrokenOrder empty []
    (gives.Order second_order 8 ∷ gives.Order first_order 7 ∷ []) fault first then last → ⊥
two_orders_arent_ahead fault first then last broken =
    let one = one_at_most fault broken.unasked broken.ahead in
    let lengths = ap length broken.given_are in grind (arith, length-append, length-reverse, length-map)

-- at any other fault none is
none_is_ahead : (fault : DriveFault) (first then last : Streams)
    (broken : BrokenOrder empty [] (gives.Order first_order 7 ∷ []) fault first then last) → broken.unasked ≡ [] → ⊥
none_is_ahead fault first then last broken none =
    let lengths = ap length broken.given_are in grind (arith, length-append, length-reverse, length-map)

pub none_is_ahead_of_a_failed_journal : (first then last : Streams)
    → BrokenOrder empty [] (gives.Order first_order 7 ∷ []) Journal first then last → ⊥
none_is_ahead_of_a_failed_journal first then last broken = none_is_ahead Journal first then last broken broken.ahead

pub none_is_ahead_of_a_failed_link : (first then last : Streams)
    → BrokenOrder empty [] (gives.Order first_order 7 ∷ []) Link first then last → ⊥
none_is_ahead_of_a_failed_link first then last broken = none_is_ahead Link first then last broken broken.ahead

pub none_is_ahead_of_a_failed_output : (first then last : Streams)
    → BrokenOrder empty [] (gives.Order first_order 7 ∷ []) Out first then last → ⊥
none_is_ahead_of_a_failed_output first then last broken = none_is_ahead Out first then last broken broken.ahead
