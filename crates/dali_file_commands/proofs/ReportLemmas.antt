-- Lemmas on what is written of a list of items.
use Rattle.std.proofs.Common.{◌≡◌, ℕ, suc, ◌+◌, List, [], ◌∷◌, ◌++◌, Bool, true, false, Option, length, count_by, is_ok}
use Rattle.std.proofs.Common.{not, ap, sym, ◌∙◌, arith, append_assoc, append-nil, add-zero, zero-add, cond, subst}
use Rattle.std.proofs.Common.{IfOk, OnOk, Result, Ok, Err, length-append, refl}
use Rattle.std.proofs.lemmas.Bool.{ne_eqb}
use Rattle.std.proofs.lemmas.List.Sums.{sum_by-append}
use Rattle.std.specs.Io.KnownBytes.{Appends}
use Rattle.serde_json.specs.Data.{Data, Items, no_items, item}
use Rattle.serde_json.specs.View.{items_of}
use Rattle.dali_bank.specs.Order.{Contents}
use Rattle.dali_journal.specs.JournalState.{JournalState}
use Rattle.dali_text.specs.OrderLines.{order_lines}
use Rattle.dali_input.specs.Items.{Judges}
use Rattle.dali_input.specs.Orders.{Outcome, JudgesEach}
use Rattle.dali_input.proofs.ItemsLemmas.{before, before_push, before_end}
use Rattle.dali_input.proofs.OrderLemmas.{judges_one_more}
use Rattle.dali_input.specs.declared.command_fault.Status.TheVariants.{Refused}
use Rattle.dali_file_commands.specs.declared.known.Known.{Known}
use Rattle.dali_file_commands.specs.Known.{IsKnownTo, known_lines}
use Rattle.dali_file_commands.specs.Report.{AreEach, AreItemLines, refused_count, report_status}
use Rattle.dali_text.proofs.StreamLemmas.{appends_both}
use Rattle.std.proofs.KnownBytes.{Appends-nil}

-- the items so far, what became of them, what was written of them, and what was noted of them beside
pub record SoFar (journal : Option JournalState) (all left : Items) (accepted refused : ℕ)
    (first now : Option (List ℕ)) (Noted : List Outcome → Type 0) : Type 0 where
  pub seen : List Data
  pub split : all ≡ before seen left
  pub outcomes : List Outcome
  pub judged : JudgesEach (items_of seen) outcomes
  pub many : length outcomes ≡ accepted + refused
  pub good : count_by is_ok outcomes ≡ accepted
  pub bad : refused_count outcomes ≡ refused
  pub text : List ℕ
  pub lines : AreEach (AreItemLines journal) 1 outcomes text
  pub written : Appends first now text
  pub noted : Noted outcomes

-- before the first item
pub none_yet : (journal : Option JournalState) (all : Items) (first : Option (List ℕ)) (Noted : List Outcome → Type 0)
    → Noted [] → SoFar journal all all 0 0 first first Noted
none_yet journal all first Noted noted = record {
  seen = [];
  split = refl;
  outcomes = [];
  judged = tt;
  many = refl;
  good = refl;
  bad = refl;
  text = [];
  lines = refl;
  written = Appends-nil first;
  noted = noted;
}

-- the text of one outcome more
pub each_one_more : (IsOne : ℕ → Outcome → List ℕ → Type 0) (i : ℕ) (xs : List Outcome) (x : Outcome)
    (text here : List ℕ)
    → AreEach IsOne i xs text → IsOne (i + length xs) x here → AreEach IsOne i (xs ++ x ∷ []) (text ++ here)
each_one_more IsOne i [] x text here are is = (
  here,
  [],
  subst (λ n. IsOne n x here) (add-zero i) is,
  refl,
  rw are (sym (append-nil here)),
)
each_one_more IsOne i (y ∷ xs) x text here (first, later, first_is, are, split) is =
    let there : i + suc (length xs) ≡ i + 1 + length xs = omega arith in (
      first,
      later ++ here,
      first_is,
      each_one_more IsOne (i + 1) xs x later here are (subst (λ n. IsOne n x here) there is),
      ap (λ t. t ++ here) split ∙ append_assoc first later here,
    )

count_one_more : {X : Type 0} (p : X → Bool) (xs : List X) (x : X)
    → count_by p (xs ++ x ∷ []) ≡ count_by p xs + cond (p x) 1 0
count_one_more p xs x =
    sum_by-append (λ y. cond (p y) 1 0) xs (x ∷ []) ∙ ap (λ n. count_by p xs + n) (zero-add (cond (p x) 1 0))

-- an accepted item is printed, and then what the journal says of it
pub accepted_told : {A E : Type 0} (r : Result A E) (journal : Option JournalState) (number : ℕ) (order : Contents)
    (known : Option Known) (before mid now : Option (List ℕ))
    → IsKnownTo journal order known → Appends before mid (order_lines number order)
    → OnOk r (Appends mid now (known_lines known))
    → IfOk r (λ _. (text : List ℕ) × AreItemLines journal number (Ok order) text × Appends before now text)
accepted_told (Ok done) journal number order known before mid now is lines line = (
  order_lines number order ++ known_lines known,
  (known, is, refl),
  appends_both before mid now (order_lines number order) (known_lines known) lines line,
)
accepted_told (Err error) journal number order known before mid now is lines line = tt

-- the step of the loop: one more item, its outcome, and its lines
module _ (journal : Option JournalState) (all left others : Items) (source : Data) (next : left ≡ item source others)
    (a r : ℕ) (first mid now : Option (List ℕ)) (x : Outcome) (here : List ℕ) (Noted NotedNow : List Outcome → Type 0)
    (s : SoFar journal all left a r first mid Noted) (judged : Judges source x)
    (n : ℕ) (at : n ≡ a + r + 1) (lines : AreItemLines journal n x here) (written : Appends mid now here)
    (more : (xs : List Outcome) → n ≡ 1 + length xs → Noted xs → NotedNow (xs ++ x ∷ [])) where
  one_more : (accepted refused : ℕ) → accepted + refused ≡ a + r + 1
      → count_by is_ok (s.outcomes ++ x ∷ []) ≡ accepted → refused_count (s.outcomes ++ x ∷ []) ≡ refused
      → SoFar journal all others accepted refused first now NotedNow
  one_more accepted refused counted good bad =
      let number : n ≡ 1 + length s.outcomes = omega (arith, s.many) in
      record {
        seen = s.seen ++ source ∷ [];
        split = s.split ∙ ap (before s.seen) next ∙ before_push s.seen source others;
        outcomes = s.outcomes ++ x ∷ [];
        judged = judges_one_more s.seen s.outcomes source x s.judged judged;
        many = length-append s.outcomes (x ∷ []) ∙ ap (λ n. n + 1) s.many ∙ sym counted;
        good = good;
        bad = bad;
        text = s.text ++ here;
        lines = each_one_more (AreItemLines journal) 1 s.outcomes x s.text here s.lines
            (subst (λ n. AreItemLines journal n x here) number lines);
        written = appends_both first mid now s.text here s.written written;
        noted = more s.outcomes number s.noted;
      }

  pub accepted_more : is_ok x ≡ true → SoFar journal all others (a + 1) r first now NotedNow
  accepted_more good = one_more (a + 1) r (omega arith)
      (count_one_more is_ok s.outcomes x ∙ rw good (ap (λ n. n + 1) s.good))
      (count_one_more (λ y. not (is_ok y)) s.outcomes x ∙ rw good (add-zero _ ∙ s.bad))

  pub refused_more : is_ok x ≡ false → SoFar journal all others a (r + 1) first now NotedNow
  refused_more bad = one_more a (r + 1) (omega arith)
      (count_one_more is_ok s.outcomes x ∙ rw bad (add-zero _ ∙ s.good))
      (count_one_more (λ y. not (is_ok y)) s.outcomes x ∙ rw bad (ap (λ n. n + 1) s.bad))

-- after the last item
pub all_judged : (journal : Option JournalState) (all left : Items) (a r : ℕ) (first now : Option (List ℕ))
    (Noted : List Outcome → Type 0) (s : SoFar journal all left a r first now Noted) → left ≡ no_items
    → JudgesEach all s.outcomes
all_judged journal all left a r first now Noted s none =
    subst (λ ds. JudgesEach ds s.outcomes) (sym (s.split ∙ ap (before s.seen) none ∙ before_end s.seen)) s.judged

-- the status where an item is refused
pub some_refused : (outcomes : List Outcome) (n : ℕ)
    → refused_count outcomes ≡ n → ¬ (n ≡ 0) → Refused ≡ report_status outcomes
some_refused outcomes n is some = rw (is, ne_eqb n 0 some) refl
