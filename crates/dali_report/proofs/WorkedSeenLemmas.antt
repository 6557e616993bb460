-- The lines of a report, and near misses.
use Rattle.std.proofs.Common.{◌≡◌, refl, codes, true, false, [], Some, None}
use Rattle.serde_json.specs.Data.{Data, null, number, unsigned, string, object, array, no_items, Members, member, no_members}
use Rattle.dali_report.specs.Seen.{begins_so, run_in}

-- the members of a line of a verification, after `found`, and the value at `run`
abbrev with_run : Data → Members
with_run run =
    member (codes "found") (string (codes "same"))
    (member (codes "location") null (member (codes "order") (number (unsigned 1))
    (member (codes "run") run (member (codes "unit") (number (unsigned 5)) no_members))))

abbrev without_run : Members
without_run =
    member (codes "found") (string (codes "same"))
    (member (codes "location") null (member (codes "order") (number (unsigned 1))
    (member (codes "unit") (number (unsigned 5)) no_members)))

pub run_is_read : run_in (object (member (codes "byte") null (with_run (number (unsigned 7))))) ≡ Some 7
run_is_read = refl

-- and of a line that tells the fields in which the unit differs
pub newest_run_is_read :
    run_in (object (member (codes "byte") null (member (codes "differs") (array no_items)
    (with_run (number (unsigned 7)))))) ≡ Some 7
newest_run_is_read = refl

pub no_other_key_in_its_place :
    run_in (object (member (codes "byte") null (member (codes "differ") (array no_items)
    (with_run (number (unsigned 7)))))) ≡ None
no_other_key_in_its_place = refl

-- which has a run
pub newest_without_a_run :
    run_in (object (member (codes "byte") null (member (codes "differs") (array no_items) without_run))) ≡ None
newest_without_a_run = refl

-- and of a line that tells a cause
abbrev last_members : Members → Members
last_members others =
    member (codes "code") null (member (codes "ended") null (member (codes "frames") (number (unsigned 0))
    (member (codes "misses") (number (unsigned 0)) (member (codes "moment") null (member (codes "name") null
    (member (codes "order") (number (unsigned 1)) (member (codes "reply") (string (codes "busy")) others)))))))

abbrev run_and_unit : Data → Members
run_and_unit run = member (codes "run") run (member (codes "unit") null no_members)

pub caused_run_is_read :
    (run_in (object (member (codes "cause") null (last_members (run_and_unit (number (unsigned 7)))))) ≡ Some 7)
    × (run_in (object (last_members (run_and_unit (number (unsigned 7))))) ≡ Some 7)
caused_run_is_read = (refl, refl)

pub no_other_key_for_a_cause :
    run_in (object (member (codes "causes") null (last_members (run_and_unit (number (unsigned 7)))))) ≡ None
no_other_key_for_a_cause = refl

-- a line of an earlier version comes before the first run
pub earlier_is_before_the_first : run_in (object (member (codes "byte") null without_run)) ≡ Some 0
earlier_is_before_the_first = refl

-- one key less, one more, another one, and a run that is no number
pub one_key_less : run_in (object without_run) ≡ None
one_key_less = refl

pub one_key_more :
    run_in (object (member (codes "also") null (member (codes "byte") null (with_run (number (unsigned 7)))))) ≡ None
one_key_more = refl

pub another_key : run_in (object (member (codes "also") null (with_run (number (unsigned 7))))) ≡ None
another_key = refl

pub run_that_is_no_number : run_in (object (member (codes "byte") null (with_run (string (codes "7"))))) ≡ None
run_that_is_no_number = refl

pub no_object : (run_in null ≡ None) × (run_in (array no_items) ≡ None)
no_object = (refl, refl)

-- ---- which lines may be torn

pub torn_anywhere :
    (begins_so (codes "{") ≡ true) × (begins_so (codes "{\"byt") ≡ true)
    × (begins_so (codes "{\"answer\":\"--\",\"fau") ≡ true) × (begins_so (codes "{\"cause\":nul") ≡ true)
torn_anywhere = (refl, refl, refl, refl)

-- of a line nothing may be there
pub no_byte_is_torn : begins_so [] ≡ true
no_byte_is_torn = refl

pub others_are_not_torn :
    (begins_so (codes "{\"order\":1") ≡ false) × (begins_so (codes "{ \"code\":") ≡ false)
    × (begins_so (codes "{\"codes\":") ≡ false) × (begins_so (codes "{\"causes\":") ≡ false)
others_are_not_torn = (refl, refl, refl, refl)
