-- Lemmas on stores that are read one after the other, each as a journal after those before it.
use Rattle.std.proofs.Common.{◌≡◌, refl, ℕ, Bool, ◌+◌, ◌<◌, List, [], ◌∷◌, ◌++◌, Option, Some, None, IfSome, length, map}
use Rattle.std.proofs.Common.{take, get_or, set, ap, sym, ◌∙◌, arith, append-nil, append_assoc, length-append}
use Rattle.std.proofs.Math.Seq.{get_or-append_seam, set-append_seam}
use Rattle.std.proofs.lemmas.List.{length_push, map-append, take_more}
use Rattle.std.specs.Borrow.{Bor}
use Rattle.std.specs.List.{AllByRecursion}
use Rattle.dali_journal.specs.declared.standing.Standing.TheVariants.{Idle}
use Rattle.dali_journal.specs.JournalState.{JournalState}
use Rattle.dali_journal.specs.Sentence.{standing_of}
use Rattle.dali_store.specs.Stores.{IsDurable}
use Rattle.dali_input.specs.declared.command_fault.Fault.{Fault}
use Rattle.dali_link_commands.specs.Older.{AreJoined, AreOne, AreReadAtRest, IsFirstUnusable, IsJoinedBehind}
use Rattle.dali_link_commands.specs.Older.{IsReadAtRest, IsReadBehind, IsUnusable, held_under, records_in, records_named}

one_has : (owns : List JournalState) (whole : Option JournalState) → AreOne owns whole
    → records_in whole ≡ records_named owns
one_has [] whole is = ap records_in is
one_has (oldest ∷ newer) None never = absurd never
one_has (oldest ∷ newer) (Some journal) one = one.0

-- the one journal that some are is at rest
pub one_rests : (knowns : List (Option (List ℕ))) (whole : Option JournalState) → AreJoined knowns whole
    → IfSome whole (λ journal. standing_of journal.records ≡ Idle)
one_rests knowns None joined = tt
one_rests knowns (Some journal) joined = rests joined.owns joined.are_one where
  rests : (owns : List JournalState) → AreOne owns (Some journal) → standing_of journal.records ≡ Idle
  rests [] one = cc
  rests (oldest ∷ newer) one = one.1

-- one more is named after the others
at_rest_more : (knowns : List (Option (List ℕ))) (owns : List JournalState) (known : Option (List ℕ))
    (own : JournalState) → AreReadAtRest knowns owns → IsReadAtRest known own
    → AreReadAtRest (knowns ++ (known ∷ [])) (owns ++ (own ∷ []))
at_rest_more [] [] known own others is = (is, tt)
at_rest_more (k ∷ knowns) (o ∷ owns) known own others is = (others.0, at_rest_more knowns owns known own others.1 is)
at_rest_more _ _ known own never is = absurd never

records_more : (owns : List JournalState) (own : JournalState)
    → records_named (owns ++ (own ∷ [])) ≡ own.records ++ records_named owns
records_more [] own = sym (append-nil own.records)
records_more (oldest ∷ newer) own =
    ap (λ records. records ++ oldest.records) (records_more newer own)
    ∙ append_assoc own.records (records_named newer) oldest.records

one_more : (owns : List JournalState) (older : Option JournalState) (bytes : List ℕ) (journal : JournalState)
    → AreOne owns older → (is : IsJoinedBehind older bytes journal)
    → AreOne (owns ++ (is.own ∷ [])) (Some journal)
one_more [] older bytes journal one is = (cc (one_has [] older one, records_more [] is.own), is.stands)
one_more (oldest ∷ newer) older bytes journal one is =
    (cc (one_has (oldest ∷ newer) older one, records_more (oldest ∷ newer) is.own), is.stands)

joined_more : (knowns : List (Option (List ℕ))) (older : Option JournalState) (known : Option (List ℕ))
    (journal : JournalState) → AreJoined knowns older → IsReadBehind older known journal
    → AreJoined (knowns ++ (known ∷ [])) (Some journal)
joined_more knowns older known journal joined (bytes, shown, is) = record {
  owns = joined.owns ++ (is.own ∷ []);
  at_rest = at_rest_more knowns joined.owns known is.own joined.at_rest (search);
  are_one = one_more joined.owns older bytes journal joined.are_one is;
}

-- one more is opened, of the next name
pub opened_more : {S : Type 0} (seen : S → Option (List ℕ)) (has : List ℕ → Option (List ℕ))
    (names : List (Bor (List ℕ))) (index : ℕ) (other : Bor (List ℕ)) (stores : List S) (store : S)
    → map seen stores ≡ held_under has (take index names) → index < length names
    → seen store ≡ has (get_or names index other).now
    → map seen (stores ++ (store ∷ [])) ≡ held_under has (take (index + 1) names)
opened_more seen has names index other stores store opened within is =
    map-append seen stores (store ∷ []) ∙ ap (λ known. known ++ (seen store ∷ [])) opened
    ∙ ap (λ known. held_under has (take index names) ++ (known ∷ [])) is
    ∙ sym (map-append (λ (name : Bor (List ℕ)). has name.now) (take index names) (get_or names index other ∷ []))
    ∙ ap (held_under has) (sym (take_more names index other within))

settled_more : {S : Type 0} (P : S → Type 0) (stores : List S) (store : S) → AllByRecursion P stores → P store
    → AllByRecursion P (stores ++ (store ∷ []))
settled_more P [] store all is = (is, tt)
settled_more P (first ∷ stores) store all is = (all.0, settled_more P stores store all.1 is)

module _ {S : Type 0} (seen : S → Option (List ℕ)) (failed : S → Bool) (may_leave : S → List ℕ → Type 0) where
  -- a stop leaves all that they are known to have
  abbrev pub AreSettled : List S → Type 0
  AreSettled stores = AllByRecursion (λ store. IsDurable (seen store) (may_leave store)) stores

  -- the first `count` stores have been read, are durable, and are one; the others are left alone
  pub record HaveJoined (first now : List S) (count : ℕ) (whole : Option JournalState) : Type 0 where
    pub earlier : List S
    pub read : List S
    pub later : List S
    pub firsts : first ≡ earlier ++ later
    pub nows : now ≡ read ++ later
    pub counts : count ≡ length earlier
    pub reads : count ≡ length read
    pub joined : AreJoined (map seen earlier) whole
    pub same : map seen read ≡ map seen earlier
    pub settled : AreSettled read

  pub none_joined : (stores : List S) → HaveJoined stores stores 0 None
  none_joined stores = record {
    earlier = [];
    read = [];
    later = stores;
    firsts = refl;
    nows = refl;
    counts = refl;
    reads = refl;
    joined = record { owns = []; at_rest = tt; are_one = refl };
    same = refl;
    settled = tt;
  }

  -- the store whose turn it is comes right after those that are read
  at_turn : (first now earlier read later : List S) (count : ℕ) (item new : S) → first ≡ earlier ++ later
      → now ≡ read ++ later → count ≡ length read → count < length now → item ≡ get_or now count item
      → (rest : List S) × (first ≡ earlier ++ (item ∷ rest)) × (set now count new ≡ read ++ (new ∷ rest))
  at_turn first now earlier read [] count item new first_is now_is counts within is =
      absurd (omega (arith, ap length now_is, length-append read []))
  at_turn first now earlier read (other ∷ rest) count item new first_is now_is counts within is =
      let at = get_or-append_seam read other rest item in
      let put = set-append_seam read other rest new in (rest, cc, cc)

  pub one_joined : (first now : List S) (count : ℕ) (item new : S) (older : Option JournalState)
      (journal : JournalState) → HaveJoined first now count older → count < length now → item ≡ get_or now count item
      → IsReadBehind older (seen (get_or now count item)) journal → seen new ≡ seen (get_or now count item)
      → IsDurable (seen new) (may_leave new) → HaveJoined first (set now count new) (count + 1) (Some journal)
  one_joined first now count item new older journal h within is behind same durable =
      let (rest, firsts, nows) = at_turn first now h.earlier h.read h.later count item new h.firsts h.nows h.reads
      within is in
      record {
        earlier = h.earlier ++ (item ∷ []);
        read = h.read ++ (new ∷ []);
        later = rest;
        firsts = firsts ∙ sym (append_assoc h.earlier (item ∷ []) rest);
        nows = nows ∙ sym (append_assoc h.read (new ∷ []) rest);
        counts = omega (arith, h.counts, length_push h.earlier item);
        reads = omega (arith, h.reads, length_push h.read new);
        joined = rw (map-append seen h.earlier (item ∷ []))
            (joined_more (map seen h.earlier) older (seen item) journal h.joined (rw (← is) at behind));
        same = rw (map-append seen h.earlier (item ∷ []), map-append seen h.read (new ∷ []), h.same, same, ← is) refl;
        settled = settled_more (λ store. IsDurable (seen store) (may_leave store)) h.read new h.settled durable;
      }

  pub first_unusable : (first now : List S) (count : ℕ) (item new : S) (older : Option JournalState)
      (fault : Fault) → HaveJoined first now count older → count < length now → item ≡ get_or now count item
      → IsUnusable older (seen (get_or now count item)) (failed (get_or now count item)) (failed new) fault
      → IsFirstUnusable seen failed first (set now count new) fault
  first_unusable first now count item new older fault h within is unusable =
      let (rest, firsts, nows) = at_turn first now h.earlier h.read h.later count item new h.firsts h.nows h.reads
      within is in
      record {
        earlier = h.earlier;
        read = h.read;
        before = item;
        after = new;
        later = rest;
        befores_are = firsts;
        afters_are = nows;
        as_many = omega (arith, h.counts, h.reads);
        older = older;
        joined = h.joined;
        unusable = rw (← is) at unusable;
      }
