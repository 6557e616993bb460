-- A line of a file as seen by a report: a line of one, a first part of one, or neither.
use Rattle.std.specs.Prelude.{◌≡◌, ◌⊎◌, ◌||◌, ◌&&◌, ◌==◌, ◌+◌, ℕ, Bool, true, false, List, Option, Some, None}
use Rattle.std.specs.Prelude.{codes, is_some, length, min, option_and_then, suc, take, if◌then◌else◌}
use Rattle.std.specs.Option.{option_map_or}
use Rattle.std.specs.Str.{IsUtf8, bytes_eq}
use Rattle.serde_json.specs.Data.{Data, Members, no_members, member}
use Rattle.serde_json.specs.Find.{get, as_number, as_object, as_u64}
use Rattle.serde_json.specs.Read.{read}
use Rattle.dali_report.specs.declared.seen.Seen.{Seen}
use Rattle.dali_report.specs.declared.seen.Seen.TheVariants.{Line, Torn, Other}

abbrev pub count_in : Members → ℕ
count_in no_members = 0
count_in (member key value others) = suc (count_in others)

-- the value is an object of this many members
abbrev pub has_count : ℕ → Data → Bool
has_count count value = option_map_or (λ members. count_in members == count) (as_object value) false

abbrev pub has : Data → List ℕ → Bool
has value key = is_some (get key value)

-- ---- the three kinds of lines, by their keys and `more` others

abbrev pub is_last : ℕ → Data → Bool
is_last more value =
    has_count (9 + more) value && has value (codes "code") && has value (codes "ended") && has value (codes "frames")
    && has value (codes "misses") && has value (codes "moment") && has value (codes "name")
    && has value (codes "order") && has value (codes "reply") && has value (codes "unit")

abbrev pub is_end : ℕ → Data → Bool
is_end more value =
    has_count (4 + more) value && has value (codes "answer") && has value (codes "fault") && has value (codes "frame")
    && has value (codes "name")

abbrev pub is_found : ℕ → Data → Bool
is_found more value =
    has_count (5 + more) value && has value (codes "byte") && has value (codes "found") && has value (codes "location")
    && has value (codes "order") && has value (codes "unit")

abbrev pub is_line : ℕ → Data → Bool
is_line more value = is_last more value || is_end more value || is_found more value

-- a line of a verification that tells the fields in which the unit differs, or of a drive that tells a cause
abbrev pub is_newest : Data → Bool
is_newest value =
    is_found 2 value && has value (codes "differs") || is_last 2 value && has value (codes "cause")

-- the run that a line tells
abbrev pub told_run : Data → Option ℕ
told_run value = option_and_then as_u64 (option_and_then as_number (get (codes "run") value))

-- of which run it is: a line of the first version tells none, and comes before the first
abbrev pub run_in : Data → Option ℕ
run_in value =
    if is_line 0 value then Some 0
    else if is_line 1 value || is_newest value then told_run value
    else None

-- a line that is JSON is seen by that
abbrev pub seen_by : Option ℕ → Seen
seen_by (Some run) = Line run
seen_by None = Other

-- ---- what is torn

-- both begin alike, as far as the shorter one goes
abbrev pub begin_alike : List ℕ → List ℕ → Bool
begin_alike one other = let count = min (length one) (length other) in bytes_eq (take count one) (take count other)

-- it begins as a line of one of the three kinds does: so does one that has no byte
abbrev pub begins_so : List ℕ → Bool
begins_so line =
    begin_alike line (codes "{\"code\":") || begin_alike line (codes "{\"answer\":")
    || begin_alike line (codes "{\"byte\":") || begin_alike line (codes "{\"cause\":")

-- a line that is no JSON
abbrev pub IsUnread : List ℕ → Type 0
IsUnread line = IsUtf8 line → read line ≡ None

-- and one that is
abbrev pub IsValue : List ℕ → Data → Type 0
IsValue line value = IsUtf8 line × (read line ≡ Some value)

abbrev pub IsSeen : List ℕ → Seen → Type 0
IsSeen line (Line run) = (value : Data) × IsValue line value × (run_in value ≡ Some run)
IsSeen line Torn = IsUnread line × (begins_so line ≡ true)
IsSeen line Other =
    ((value : Data) × IsValue line value × (run_in value ≡ None)) ⊎ (IsUnread line × (begins_so line ≡ false))
