-- The verdict of a session rests on checked reads among its exchanges that still hold.
use Rattle.std.proofs.Common.{ap, ◌≡◌, ◌⊎◌, inl, inr, refl, sym, subst, ◌∙◌, ℕ, Bool, true, false, if◌then◌else◌}
use Rattle.std.proofs.Common.{List, [], ◌∷◌, ◌++◌, get_or, Option, Some, None}
use Rattle.std.proofs.lemmas.List.{append_assoc, append-nil}
use Rattle.std.specs.List.{AllByRecursion}
use Rattle.dali_write.specs.Exchanges.{Exchange}
use Rattle.dali_write.specs.declared.ask.Ask.TheVariants.{Ended}
use Rattle.dali_write.specs.declared.ask.Verdict.{Verdict}
use Rattle.dali_write.specs.declared.ask.Verdict.TheVariants.{MayOpen, Done, Short, Format, Silent, Doubt, DoubtOpen}
use Rattle.dali_write.specs.declared.ask.Verdict.TheVariants.{Closed, NotClosed}
use Rattle.dali_write.specs.declared.pace.Pace.{Pace}
use Rattle.dali_write.specs.declared.access.Access.{Access}
use Rattle.dali_write.specs.declared.access.Access.TheVariants.{WriteTo}
use Rattle.dali_write.specs.Plans.{Plan, Finish, Make, either_way, read_closed, close, give_up, expect, read_back}
use Rattle.dali_write.specs.Plans.{rows_of, most_of, read_backs, read_all_back, write_next, write_on, unlock}
use Rattle.std.specs.Str.{bytes_eq}
use Rattle.std.proofs.lemmas.Slice.Eq.{bytes_eq-Decides}
use Rattle.dali_bus.specs.Hears.{up}
use Rattle.dali_write.specs.Blocks.{Tells}
use Rattle.dali_write.proofs.RowLemmas.{AllInRow, AllInRows, all_in_rows, by_index}
use Rattle.std.proofs.Common.{length, slice_get}
use Rattle.dali_write.specs.declared.block.Block.{Block}
use Rattle.dali_write.specs.Requests.{block, moved_on, read_requests, block_requests, each_try}
use Rattle.dali_write.specs.Tries.{Succeeds, Fails, Wants, bytes_of}
use Rattle.dali_write.specs.Findings.{Suits, IsTooShort, HasOtherFormat, IsWritten, RestsOn, Rests}
use Rattle.dali_write.specs.Reads.{IsPassive, EndsInRead, StillRead}
use Rattle.dali_write.specs.Walks.{Walk}
use Rattle.dali_write.proofs.AskedLemmas.{IsCalm, Sent, access_sent, block_calm, calm_passive}
use Rattle.dali_write.proofs.EndLemmas.{ends_reading}
use Rattle.dali_write.proofs.BlockOneLemmas.{access_tells_one}
use Rattle.dali_write.proofs.VerdictLemmas.{finish_walk, only_older}
use Rattle.dali_write.proofs.WalkLemmas.{ended_walk}
use Rattle.dali_write.specs.Plans.{most_once, pieces_of, expect_all, read_again}
use Rattle.dali_write.proofs.RowLemmas.{pieces_all}
use Rattle.std.specs.Prelude.{nat_lt}

-- the exchanges, the newest first, after the first ones are the last ones
abbrev pub After : List Exchange → List Exchange → List Exchange → Type 0
After told first last = last ≡ told ++ first

-- in two parts
pub split : (newer older first last : List Exchange) → After (newer ++ older) first last
    → (mid : List Exchange) × After older first mid × After newer mid last
split newer older first last after = (older ++ first, refl, after ∙ append_assoc newer older first)

-- each read that held still holds
abbrev pub KeepsReads : List Exchange → List Exchange → Type 0
KeepsReads first last =
    (unit location byte : ℕ) → StillRead first unit location byte → StillRead last unit location byte

keeps_then : (first mid last : List Exchange) → KeepsReads first mid → KeepsReads mid last → KeepsReads first last
keeps_then first mid last one two = λ unit location byte stands. two unit location byte (one unit location byte stands)

keeps_none : (first last : List Exchange) → last ≡ first → KeepsReads first last
keeps_none first last same =
    λ unit location byte stands. subst (λ (t : List Exchange). StillRead t unit location byte) (sym same) stands

pub shows_kept : (first last : List Exchange) (unit location byte : ℕ) → StillRead first unit location byte
    → KeepsReads first last → StillRead last unit location byte
shows_kept first last unit location byte stands keeps = keeps unit location byte stands

passive_keeps : (told first : List Exchange) → Sent IsPassive told → KeepsReads first (told ++ first)
passive_keeps [] first sent = λ unit location byte stands. stands
passive_keeps (x ∷ told) first sent =
    λ unit location byte stands. inr (sent.0, passive_keeps told first sent.1 unit location byte stands)

-- a read access keeps the reads that held
pub read_access_keeps : (unit : ℕ) (block : Block) (outcome : Option (List ℕ)) (told first last : List Exchange)
    → Succeeds (each_try (block_requests unit block)) outcome told
    ⊎ Fails (each_try (block_requests unit block)) outcome told
    → After told first last → KeepsReads first last
read_access_keeps unit block outcome told first last ends is = λ u l b stands.
    let calm =
    access_sent (IsCalm unit) (each_try (block_requests unit block)) outcome told (λ misses. block_calm unit block)
    ends in
    subst (λ (t : List Exchange). StillRead t u l b) (sym is)
    (passive_keeps told first (calm_passive unit told calm) u l b stands)

-- a checked read that was just made holds
stands_now : (unit location byte : ℕ) (told : List Exchange) → EndsInRead unit location byte told
    → StillRead told unit location byte
stands_now unit location byte told ends =
    let is = (ends_reading unit location byte told ends).is in
    subst (λ (t : List Exchange). StillRead t unit location byte) (sym is)
    (inl (subst (λ (t : List Exchange). EndsInRead unit location byte t) is ends))

-- it holds whatever came before
pub older_reads : (told older : List Exchange) (unit location byte : ℕ) → StillRead told unit location byte
    → StillRead (told ++ older) unit location byte
older_reads [] older unit location byte stands = absurd stands
older_reads (x ∷ told) older unit location byte (inl ends) =
    let parts : (x ∷ told) ++ older ≡ ends.0 ++ (ends.1 ++ older) =
    subst (λ (t : List Exchange). (x ∷ told) ++ older ≡ t ++ older) ends.2 refl ∙ append_assoc ends.0 ends.1 older in
    inl (ends.0, ends.1 ++ older, parts, ends.3)
older_reads (x ∷ told) older unit location byte (inr (passive, stands)) =
    inr (passive, older_reads told older unit location byte stands)

-- and a read access that didn't fail ends in one
pub block_shows : (unit : ℕ) (block : Block) (bytes : List ℕ) (told first last : List Exchange)
    → Succeeds (each_try (block_requests unit block)) (Some bytes) told
    ⊎ Fails (each_try (block_requests unit block)) (Some bytes) told
    → After told first last → (index byte : ℕ) → slice_get bytes index ≡ Some byte
    → StillRead last unit (moved_on block.location index) byte
block_shows unit block bytes told first last (inl done) is index byte at =
    let parts : last ≡ done.0 ++ (done.1 ++ first) =
    is ∙ (subst (λ (t : List Exchange). told ++ first ≡ t ++ first) done.3 refl ∙ append_assoc done.0 done.1 first) in
    let same : bytes_of done.0 ≡ bytes = let is = done.5 in cc in
    let tells : Tells unit (moved_on block.location index) byte done.0 =
    record { block = block; bytes = bytes; read = (done.4, same); index = index; place = refl; there = at } in
    stands_now unit (moved_on block.location index) byte last (done.0, done.1 ++ first, parts, tells)
block_shows unit block bytes told first last (inr failed) is index byte at = let never = failed.0 in cc

pub read_access_shows : (unit location : ℕ) (bytes : List ℕ) (told first last : List Exchange)
    → Succeeds (each_try (read_requests unit location)) (Some bytes) told
    ⊎ Fails (each_try (read_requests unit location)) (Some bytes) told
    → After told first last
    → StillRead last unit location (get_or bytes 0 0)
read_access_shows unit location bytes told first last ends is =
    let one = access_tells_one unit location bytes told ends in
    block_shows unit (block location 1) bytes told first last ends is 0 (get_or bytes 0 0)
    (ap (λ (l : List ℕ). slice_get l 0) one)

-- it gave the order up
Gave : ℕ → Verdict → Verdict → Verdict → List Exchange → Type 0
Gave unit answered unanswered verdict world =
    (verdict ≡ unanswered) ⊎ ((verdict ≡ answered) × ((byte : ℕ) × StillRead world unit 2 byte))

read_closed_rests : (unit : ℕ) (answered unanswered verdict : Verdict) (outcomes : List (Option (List ℕ)))
    (told : List Exchange) (first last : List Exchange)
    → Walk unit (read_closed answered unanswered) outcomes told (Finish verdict) → After told first last
    → Gave unit answered unanswered verdict last
unfolding Gave
read_closed_rests unit answered unanswered verdict [] told first last walk run = let no = walk.1 in cc
read_closed_rests unit answered unanswered verdict (None ∷ outcomes) told first last walk run =
    let end = finish_walk unit unanswered outcomes walk.0 (Finish verdict) walk.4 in
    let same = end.1 in
    inl (let is : verdict ≡ unanswered = cc in is)
read_closed_rests unit answered unanswered verdict (Some byte ∷ outcomes) told first last walk run =
    let end = finish_walk unit answered outcomes walk.0 (Finish verdict) walk.4 in
    let same = end.1 in
    let older = only_older told walk.0 walk.1 walk.2 end.0 in
    let is : verdict ≡ answered = cc in
    inr (
      is,
      (
        get_or byte 0 0,
        read_access_shows unit 2 byte walk.1 first last walk.3
            (subst (λ (t : List Exchange). After t first last) older run),
      ),
    )

close_rests : (unit : ℕ) (answered unanswered verdict : Verdict) (outcomes : List (Option (List ℕ)))
    (told : List Exchange)
    (first last : List Exchange)
    → Walk unit (close answered unanswered) outcomes told (Finish verdict) → After told first last
    → Gave unit answered unanswered verdict last
unfolding Gave
close_rests unit answered unanswered verdict [] told first last walk run = let no = walk.1 in cc
close_rests unit answered unanswered verdict (o ∷ outcomes) told first last walk run =
    let parts = split walk.0 walk.1 first last (subst (λ (t : List Exchange). After t first last) walk.2 run) in
    read_closed_rests unit answered unanswered verdict outcomes walk.0 parts.0 last walk.4 parts.2

gave_up : (unit : ℕ) (updates : List (ℕ × ℕ)) (verdict : Verdict) (last : List Exchange)
    → Gave unit Doubt DoubtOpen verdict last → Rests (StillRead last unit) updates verdict
unfolding Gave
gave_up unit updates verdict last (inl is) = subst (λ (v : Verdict). Rests (StillRead last unit) updates v) (sym is) tt
gave_up unit updates verdict last (inr gave) =
    subst (λ (v : Verdict). Rests (StillRead last unit) updates v) (sym gave.0) gave.1

-- the bytes that the rows show are still read
row_kept : (first last : List Exchange) (unit location : ℕ) (bytes : List ℕ)
    → AllInRow (StillRead first unit) location bytes → KeepsReads first last
    → AllInRow (StillRead last unit) location bytes
row_kept first last unit location [] all keeps = tt
row_kept first last unit location (byte ∷ bytes) all keeps =
    (keeps unit location byte all.0, row_kept first last unit (up location) bytes all.1 keeps)

-- the unit held the row, and the plan went on; or it gave the order up
record Went (unit location : ℕ) (bytes : List ℕ) (after : Plan) (verdict : Verdict) (first last : List Exchange)
    : Type 0 where
  mid : List Exchange
  outcomes : List (Option (List ℕ))
  newer : List Exchange
  walk : Walk unit after outcomes newer (Finish verdict)
  run : After newer mid last
  shows : AllInRow (StillRead mid unit) location bytes
  keeps : KeepsReads first mid

-- each walk of the plan held the row and went on, or gave up
abbrev WentSo : ℕ → Plan → ℕ → List ℕ → Plan → Verdict → List Exchange → Type 0
WentSo unit plan location bytes after verdict last =
    (outcomes : List (Option (List ℕ))) (told first : List Exchange)
    → Walk unit plan outcomes told (Finish verdict) → After told first last
    → Went unit location bytes after verdict first last ⊎ Gave unit Doubt DoubtOpen verdict last

give_up_went : (unit location : ℕ) (bytes : List ℕ) (after : Plan) (verdict : Verdict) (last : List Exchange)
    → WentSo unit give_up location bytes after verdict last
give_up_went unit location bytes after verdict last outcomes told first walk run =
    inr (close_rests unit Doubt DoubtOpen verdict outcomes told first last walk run)

-- it held the row later
went_later : (unit location : ℕ) (bytes : List ℕ) (after : Plan) (verdict : Verdict) (first mid last : List Exchange)
    → KeepsReads first mid → Went unit location bytes after verdict mid last ⊎ Gave unit Doubt DoubtOpen verdict last
    → Went unit location bytes after verdict first last ⊎ Gave unit Doubt DoubtOpen verdict last
went_later unit location bytes after verdict first mid last keeps (inr gave) = inr gave
went_later unit location bytes after verdict first mid last keeps (inl went) =
    inl (record {
      mid = went.mid;
      outcomes = went.outcomes;
      newer = went.newer;
      walk = went.walk;
      run = went.run;
      shows = went.shows;
      keeps = keeps_then first mid went.mid keeps went.keeps;
    })

expect_rests : (unit : ℕ) (failed : Plan) (location : ℕ) (bytes : List ℕ) (after : Plan) (verdict : Verdict)
    (outcomes : List (Option (List ℕ))) (told : List Exchange) (first last : List Exchange)
    → WentSo unit failed location bytes after verdict last
    → Walk unit (expect failed location bytes after) outcomes told (Finish verdict) → After told first last
    → Went unit location bytes after verdict first last ⊎ Gave unit Doubt DoubtOpen verdict last
expect_rests unit failed location bytes after verdict [] told first last again walk run = let no = walk.1 in cc
expect_rests unit failed location bytes after verdict (None ∷ outcomes) told first last again walk run =
    let parts = split walk.0 walk.1 first last (subst (λ (t : List Exchange). After t first last) walk.2 run) in
    let keeps =
    read_access_keeps unit (block location (length bytes)) None walk.1 first parts.0 walk.3 parts.1 in
    went_later unit location bytes after verdict first parts.0 last keeps
    (again outcomes walk.0 parts.0 walk.4 parts.2)
expect_rests unit failed location bytes after verdict (Some read ∷ outcomes) told first last again walk run =
    let parts = split walk.0 walk.1 first last (subst (λ (t : List Exchange). After t first last) walk.2 run) in
    let row = block location (length bytes) in
    let shows = by_index (StillRead parts.0 unit) location read
    (block_shows unit row read walk.1 first parts.0 walk.3 parts.1) in
    let keeps = read_access_keeps unit row (Some read) walk.1 first parts.0 walk.3 parts.1 in
    by parts.0 parts.2 shows keeps (bytes_eq read bytes) refl walk.4
  where
    by : (mid : List Exchange) → After walk.0 mid last → AllInRow (StillRead mid unit) location read
        → (KeepsReads first mid)
        → (t : Bool) → bytes_eq read bytes ≡ t
        → Walk unit (if t then after else failed) outcomes walk.0 (Finish verdict)
        → Went unit location bytes after verdict first last ⊎ Gave unit Doubt DoubtOpen verdict last
    by mid run shows keeps true same on =
        inl (record {
          mid = mid;
          outcomes = outcomes;
          newer = walk.0;
          walk = on;
          run = run;
          shows = subst (λ (l : List ℕ). AllInRow (StillRead mid unit) location l)
              ((bytes_eq-Decides read bytes).0 same) shows;
          keeps = keeps;
        })
    by mid run shows keeps false differs on =
        went_later unit location bytes after verdict first mid last keeps (again outcomes walk.0 mid on run)

-- the same of rows that are read again
record WentAll (unit : ℕ) (rows : List (ℕ × List ℕ)) (after : Plan) (verdict : Verdict) (first last : List Exchange)
    : Type 0 where
  mid : List Exchange
  outcomes : List (Option (List ℕ))
  newer : List Exchange
  walk : Walk unit after outcomes newer (Finish verdict)
  run : After newer mid last
  shows : AllInRows (StillRead mid unit) rows
  keeps : KeepsReads first mid

all_rests : (unit : ℕ) (rows : List (ℕ × List ℕ)) (after : Plan) (verdict : Verdict)
    (outcomes : List (Option (List ℕ))) (told : List Exchange) (first last : List Exchange)
    → Walk unit (expect_all rows after) outcomes told (Finish verdict) → After told first last
    → WentAll unit rows after verdict first last ⊎ Gave unit Doubt DoubtOpen verdict last
all_rests unit [] after verdict outcomes told first last walk run =
    inl (record {
      mid = first;
      outcomes = outcomes;
      newer = told;
      walk = walk;
      run = run;
      shows = tt;
      keeps = keeps_none first first refl;
    })
all_rests unit (row ∷ rows) after verdict outcomes told first last walk run =
    elim (expect_rests unit give_up row.0 row.1 (expect_all rows after) verdict outcomes told first last
    (give_up_went unit row.0 row.1 (expect_all rows after) verdict last) walk run) [
      | inr gave ↦ inr gave
      | inl went ↦
          elim (all_rests unit rows after verdict went.outcomes went.newer went.mid last went.walk went.run) [
            | inr gave ↦ inr gave
            | inl all ↦ inl (record {
              mid = all.mid;
              outcomes = all.outcomes;
              newer = all.newer;
              walk = all.walk;
              run = all.run;
              shows = (row_kept went.mid all.mid unit row.0 row.1 went.shows all.keeps, all.shows);
              keeps = keeps_then first went.mid all.mid went.keeps all.keeps;
            })
          ]
    ]

-- a row that is read again, or given up
again_rests : (unit location : ℕ) (bytes : List ℕ) (after : Plan) (verdict : Verdict) (last : List Exchange)
    (again : Bool)
    → WentSo unit (if again then expect_all (pieces_of location bytes) after else give_up) location bytes after verdict
    last
again_rests unit location bytes after verdict last false outcomes told first walk run =
    give_up_went unit location bytes after verdict last outcomes told first walk run
again_rests unit location bytes after verdict last true outcomes told first walk run =
    elim (all_rests unit (pieces_of location bytes) after verdict outcomes told first last walk run) [
      | inr gave ↦ inr gave
      | inl all ↦ inl (record {
        mid = all.mid;
        outcomes = all.outcomes;
        newer = all.newer;
        walk = all.walk;
        run = all.run;
        shows = pieces_all (StillRead all.mid unit) location bytes all.shows;
        keeps = all.keeps;
      })
    ]

-- all bytes were read back
record Held (unit : ℕ) (rows : List (ℕ × List ℕ)) (verdict : Verdict) (first last : List Exchange) : Type 0 where
  done : verdict ≡ Done
  shows : AllInRows (StillRead last unit) rows
  keeps : KeepsReads first last

read_back_rests : (unit : ℕ) (rows : List (ℕ × List ℕ)) (verdict : Verdict) (outcomes : List (Option (List ℕ)))
    (told : List Exchange) (first last : List Exchange)
    → Walk unit (read_back rows) outcomes told (Finish verdict) → After told first last
    → Held unit rows verdict first last ⊎ Gave unit Doubt DoubtOpen verdict last
read_back_rests unit [] verdict outcomes told first last walk run =
    let end = finish_walk unit Done outcomes told (Finish verdict) walk in
    let same = end.1 in
    let done : verdict ≡ Done = cc in
    let still : last ≡ first = subst (λ (t : List Exchange). After t first last) end.0 run in
    inl (record { done = done; shows = tt; keeps = keeps_none first last still })
read_back_rests unit (row ∷ rows) verdict outcomes told first last walk run =
    elim (expect_rests unit (read_again row.0 row.1 (read_back rows)) row.0 row.1 (read_back rows) verdict outcomes told
    first last (again_rests unit row.0 row.1 (read_back rows) verdict last (nat_lt most_once (length row.1))) walk
    run) [
      | inr gave ↦ inr gave
      | inl went ↦
          elim (read_back_rests unit rows verdict went.outcomes went.newer went.mid last went.walk went.run) [
            | inr gave ↦ inr gave
            | inl held ↦ inl (record {
              done = held.done;
              shows = (row_kept went.mid last unit row.0 row.1 went.shows held.keeps, held.shows);
              keeps = keeps_then first went.mid last went.keeps held.keeps;
            })
          ]
    ]

-- each walk of the plan rests on what it must
abbrev RestsSo : ℕ → List (ℕ × ℕ) → Verdict → List Exchange → Plan → Type 0
RestsSo unit updates verdict last plan =
    (outcomes : List (Option (List ℕ))) (told first : List Exchange)
    → Walk unit plan outcomes told (Finish verdict) → After told first last
    → Rests (StillRead last unit) updates verdict

read_all_back_rests : (unit : ℕ) (pace : Pace) (updates : List (ℕ × ℕ)) (verdict : Verdict) (last : List Exchange)
    → RestsSo unit updates verdict last (read_all_back pace updates)
read_all_back_rests unit pace updates verdict last outcomes told first walk run =
    elim (read_back_rests unit (rows_of (most_of pace) (read_backs updates)) verdict outcomes told first last walk
    run) [
      | inr gave ↦ gave_up unit updates verdict last gave
      | inl held ↦ subst (λ (v : Verdict). Rests (StillRead last unit) updates v) (sym held.done)
          (all_in_rows (StillRead last unit) (most_of pace) (read_backs updates) held.shows)
    ]

-- a write, after which the session goes on or gives up
write_rests : (unit : ℕ) (access : Access) (after : Plan) (updates : List (ℕ × ℕ)) (verdict : Verdict)
    (last : List Exchange)
    → RestsSo unit updates verdict last after
    → RestsSo unit updates verdict last (Make access (either_way give_up (λ bytes. after)))
write_rests unit access after updates verdict last rest [] told first walk run = let no = walk.1 in cc
write_rests unit access after updates verdict last rest (None ∷ outcomes) told first walk run =
    let parts = split walk.0 walk.1 first last (subst (λ (t : List Exchange). After t first last) walk.2 run) in
    gave_up unit updates verdict last
    (close_rests unit Doubt DoubtOpen verdict outcomes walk.0 parts.0 last walk.4 parts.2)
write_rests unit access after updates verdict last rest (Some bytes ∷ outcomes) told first walk run =
    let parts = split walk.0 walk.1 first last (subst (λ (t : List Exchange). After t first last) walk.2 run) in
    rest outcomes walk.0 parts.0 walk.4 parts.2

write_on_rests : (unit : ℕ) (pace : Pace) (updates : List (ℕ × ℕ)) (before : ℕ) (left : List (ℕ × ℕ))
    (verdict : Verdict) (last : List Exchange)
    → RestsSo unit updates verdict last (write_on pace updates before left)
write_on_rests unit pace updates before [] verdict last =
    write_rests unit (write_next pace before 2 0xFF) (read_all_back pace updates) updates verdict last
    (read_all_back_rests unit pace updates verdict last)
write_on_rests unit pace updates before (update ∷ left) verdict last =
    write_rests unit (write_next pace before update.0 update.1) (write_on pace updates update.0 left) updates verdict
    last
    (write_on_rests unit pace updates update.0 left verdict last)

pub opened_rests : (told : List Exchange) (unit : ℕ) (pace : Pace) (updates : List (ℕ × ℕ)) (verdict : Verdict)
    → Wants unit (unlock pace updates) told (Ended verdict) → Rests (StillRead told unit) updates verdict
opened_rests told unit pace updates verdict wants =
    let ended = ended_walk unit (unlock pace updates) told verdict wants in
    write_rests unit (WriteTo 2 0x55) (write_on pace updates 2 updates) updates verdict told
    (write_on_rests unit pace updates 2 updates verdict told) ended.0 told [] ended.1 (sym (append-nil told))

closed : (unit : ℕ) (verdict : Verdict) (last : List Exchange) → Gave unit Closed NotClosed verdict last
    → Rests (StillRead last unit) [] verdict
unfolding Gave
closed unit verdict last (inl is) = subst (λ (v : Verdict). Rests (StillRead last unit) [] v) (sym is) tt
closed unit verdict last (inr gave) = subst (λ (v : Verdict). Rests (StillRead last unit) [] v) (sym gave.0) gave.1

pub closing_rests : (told : List Exchange) (unit : ℕ) (verdict : Verdict)
    → Wants unit (close Closed NotClosed) told (Ended verdict) → Rests (StillRead told unit) [] verdict
closing_rests told unit verdict wants =
    let ended = ended_walk unit (close Closed NotClosed) told verdict wants in
    closed unit verdict told
    (close_rests unit Closed NotClosed verdict ended.0 told [] told ended.1 (sym (append-nil told)))

-- what rests on one way of showing rests on another that shows no less
abbrev pub Shown : (ℕ → ℕ → Type 0) → (ℕ → ℕ → Type 0) → Type 0
Shown P Q = (location byte : ℕ) → P location byte → Q location byte

pub suits_too : (P Q : ℕ → ℕ → Type 0) (updates : List (ℕ × ℕ)) → Shown P Q → Suits P updates → Suits Q updates
suits_too P Q updates f suits =
    (suits.0, f 0 suits.0 suits.1, suits.2, λ needed. (f 0x11 0 (suits.3 needed).0, f 0x12 3 (suits.3 needed).1))

pub short_too : (P Q : ℕ → ℕ → Type 0) (updates : List (ℕ × ℕ)) → Shown P Q → IsTooShort P updates
    → IsTooShort Q updates
short_too P Q updates f short = (short.0, f 0 short.0 short.1, short.2)

pub format_too : (P Q : ℕ → ℕ → Type 0) (updates : List (ℕ × ℕ)) → Shown P Q → HasOtherFormat P updates
    → HasOtherFormat Q updates
format_too P Q updates f other = (other.0, other.1, f 0x11 other.0 other.2, f 0x12 other.1 other.3, other.4, other.5)

all_too : (P Q : ℕ → ℕ → Type 0) (updates : List (ℕ × ℕ)) → Shown P Q
    → AllByRecursion (λ update. P update.0 update.1) updates → AllByRecursion (λ update. Q update.0 update.1) updates
all_too P Q [] f all = tt
all_too P Q (update ∷ updates) f all = (f update.0 update.1 all.0, all_too P Q updates f all.1)

pub written_too : (P Q : ℕ → ℕ → Type 0) (updates : List (ℕ × ℕ)) → Shown P Q → IsWritten P updates
    → IsWritten Q updates
written_too P Q updates f done = (f 2 0xFF done.0, all_too P Q updates f done.1)

pub rests_on_too : (P Q : ℕ → ℕ → Type 0) (A B : Type 0) (updates : List (ℕ × ℕ)) (verdict : Verdict) → Shown P Q
    → (A → B) → RestsOn P A updates verdict → RestsOn Q B updates verdict
rests_on_too P Q A B updates MayOpen f answered rests = suits_too P Q updates f rests
rests_on_too P Q A B updates Done f answered rests = written_too P Q updates f rests
rests_on_too P Q A B updates Short f answered rests = short_too P Q updates f rests
rests_on_too P Q A B updates Format f answered rests = format_too P Q updates f rests
rests_on_too P Q A B updates Silent f answered rests = tt
rests_on_too P Q A B updates Doubt f answered rests = answered rests
rests_on_too P Q A B updates DoubtOpen f answered rests = tt
rests_on_too P Q A B updates Closed f answered rests = answered rests
rests_on_too P Q A B updates NotClosed f answered rests = tt
rests_on_too P Q A B updates _ f answered rests = tt

pub rests_too : (P Q : ℕ → ℕ → Type 0) (updates : List (ℕ × ℕ)) (verdict : Verdict) → Shown P Q
    → Rests P updates verdict → Rests Q updates verdict
rests_too P Q updates verdict f rests =
    rests_on_too P Q ((byte : ℕ) × P 2 byte) ((byte : ℕ) × Q 2 byte) updates verdict f
    (λ lock. (lock.0, f 2 lock.0 lock.1)) rests
