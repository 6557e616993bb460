-- A closing session that ends as NotClosed has seen no checked read that came to its end.
use Rattle.std.proofs.Common.{◌≡◌, ◌⊎◌, inl, inr, refl, sym, subst, ℕ, zero, suc, ◌≤◌, ◌<◌, List, [], ◌∷◌}
use Rattle.std.specs.Prelude.{⊤}
use Rattle.std.proofs.Common.{◌++◌, append_assoc, append-nil, length, Bool, true, false, Option, Some, None, arith}
use Rattle.dali_frame.specs.declared.forward.Frame.{Frame}
use Rattle.dali_frame.specs.declared.forward.Frame.TheVariants.{Dtr0, Dtr1, Dtr2, Write, WriteSilent, Enable, AskDtr0}
use Rattle.dali_frame.specs.declared.forward.Frame.TheVariants.{AskDtr1, AskDtr2, Read, Other}
use Rattle.dali_write.specs.Exchanges.{Exchange}
use Rattle.dali_write.specs.declared.request.Request.{Request}
use Rattle.dali_write.specs.declared.request.Wish.{Wish}
use Rattle.dali_write.specs.declared.request.Wish.TheVariants.{Exactly}
use Rattle.dali_write.specs.declared.ask.Ask.TheVariants.{Ended}
use Rattle.dali_write.specs.declared.ask.Verdict.TheVariants.{Closed, NotClosed}
use Rattle.dali_write.specs.Requests.{Meets, request, read_requests, write_requests}
use Rattle.dali_write.specs.Plans.{Finish, read_closed, close}
use Rattle.dali_write.specs.Tries.{most_tries, Trying, Missed, Misses, Succeeds, Fails, Wants}
use Rattle.dali_write.specs.Walks.{Walk}
use Rattle.dali_write.specs.Reads.{EndsInRead, HasRead}
use Rattle.dali_write.proofs.EndLemmas.{ends_reading}
use Rattle.dali_write.proofs.VerdictLemmas.{finish_walk, only_older}
use Rattle.dali_write.proofs.WalkLemmas.{ended_walk}
use Rattle.dali_write.specs.Requests.{each_try}

-- the newest frame asks for DTR0
abbrev is_ask : Frame → Bool
is_ask (AskDtr0 to) = true
is_ask frame = false

abbrev asked_in : List Exchange → Bool
asked_in [] = false
asked_in (x ∷ told) = is_ask x.frame

-- The frame doesn't end a checked read: if it asks for DTR1 directly after DTR0, the answer isn't 01h.
abbrev IsUnread : Frame → Option ℕ → Bool → Type 0
IsUnread (AskDtr1 to) answer true = answer ≡ Some 1 → ⊥
IsUnread frame answer asked = ⊤

abbrev AllUnread : List Exchange → Type 0
AllUnread [] = ⊤
AllUnread (x ∷ told) = IsUnread x.frame x.answer (asked_in told) × AllUnread told

-- if the frame may end a checked read, it wants 01h, and fewer than `late` requests are left after it
abbrev ReadsLate : ℕ → Frame → Bool → Wish → List Request → Type 0
ReadsLate late (AskDtr1 to) true wish left = (wish ≡ Exactly 1) × (length left < late)
ReadsLate late frame asked wish left = ⊤

-- only the last `late` requests may end a checked read
abbrev RequestsReadLate : ℕ → Bool → List Request → Type 0
RequestsReadLate late asked [] = ⊤
RequestsReadLate late asked (next ∷ left) =
    ReadsLate late next.frame asked next.wish left × RequestsReadLate late (is_ask next.frame) left

early_unread : (late : ℕ) (frame : Frame) (asked : Bool) (wish : Wish) (answer : Option ℕ) (left : List Request)
    → ReadsLate late frame asked wish left → late ≤ length left → IsUnread frame answer asked
early_unread late (AskDtr1 to) true wish answer left reads early = let never : ⊥ = omega arith in absurd never
early_unread late (AskDtr1 to) false wish answer left reads early = tt
early_unread late (Dtr0 b) asked wish answer left reads early = tt
early_unread late (Dtr1 b) asked wish answer left reads early = tt
early_unread late (Dtr2 b) asked wish answer left reads early = tt
early_unread late (Write b) asked wish answer left reads early = tt
early_unread late (WriteSilent b) asked wish answer left reads early = tt
early_unread late (Enable to) asked wish answer left reads early = tt
early_unread late (AskDtr0 to) asked wish answer left reads early = tt
early_unread late (AskDtr2 to) asked wish answer left reads early = tt
early_unread late (Read to) asked wish answer left reads early = tt
early_unread late (Other w) asked wish answer left reads early = tt

miss_unread : (late : ℕ) (frame : Frame) (asked : Bool) (wish : Wish) (answer : Option ℕ) (left : List Request)
    → ReadsLate late frame asked wish left → (Meets wish answer → ⊥) → IsUnread frame answer asked
miss_unread late (AskDtr1 to) true wish answer left reads missed = grind arith
miss_unread late (AskDtr1 to) false wish answer left reads missed = tt
miss_unread late (Dtr0 b) asked wish answer left reads missed = tt
miss_unread late (Dtr1 b) asked wish answer left reads missed = tt
miss_unread late (Dtr2 b) asked wish answer left reads missed = tt
miss_unread late (Write b) asked wish answer left reads missed = tt
miss_unread late (WriteSilent b) asked wish answer left reads missed = tt
miss_unread late (Enable to) asked wish answer left reads missed = tt
miss_unread late (AskDtr0 to) asked wish answer left reads missed = tt
miss_unread late (AskDtr2 to) asked wish answer left reads missed = tt
miss_unread late (Read to) asked wish answer left reads missed = tt
miss_unread late (Other w) asked wish answer left reads missed = tt

-- while all requests that may end a checked read are left, none was
trying_unread : (late : ℕ) (requests : List Request) (tried : List Exchange) (left : List Request)
    (older : List Exchange)
    → RequestsReadLate late (asked_in older) requests → AllUnread older → Trying requests tried left
    → late ≤ length left
    → AllUnread (tried ++ older) × RequestsReadLate late (asked_in (tried ++ older)) left
trying_unread late requests [] left older reads unread try early = grind arith
trying_unread late requests (x ∷ tried) left older reads unread try early =
    let before =
    trying_unread late requests tried (request x.frame try.0 ∷ left) older reads unread try.2 (omega arith) in (
      (early_unread late x.frame (asked_in (tried ++ older)) try.0 x.answer left before.1.0 early, before.0),
      before.1.1,
    )

-- the requests are such whatever was asked before them
abbrev Reading : ℕ → List Request → Type 0
Reading late requests = (asked : Bool) → RequestsReadLate late asked requests

-- if only the last request may end a checked read, no missed try has one
missed_unread : (late : ℕ) (requests : List Request) (tried older : List Exchange) → Reading late requests → late ≤ 1
    → AllUnread older → Missed requests tried → AllUnread (tried ++ older)
missed_unread late requests [] older reads last unread missed = absurd missed
missed_unread late requests (x ∷ tried) older reads last unread missed =
    let before =
    trying_unread late requests tried (request x.frame missed.0 ∷ missed.1) older (reads (asked_in older)) unread
    missed.3 (omega arith) in (
      miss_unread late x.frame (asked_in (tried ++ older)) missed.0 x.answer missed.1 before.1.0 missed.2,
      before.0,
    )

misses_unread : (late : ℕ) (requests : ℕ → List Request) (misses : ℕ) (told older : List Exchange)
    → ((misses : ℕ) → Reading late (requests misses)) → late ≤ 1 → AllUnread older → Misses requests misses told
    → AllUnread (told ++ older)
misses_unread late requests zero told older reads last unread are = grind arith
misses_unread late requests (suc misses) told older reads last unread are =
    let before = misses_unread late requests misses are.1 older reads last unread are.4 in
    subst (λ (t : List Exchange). AllUnread (t ++ older)) (sym are.2)
    (subst AllUnread (sym (append_assoc are.0 are.1 older))
    (missed_unread late (requests misses) are.0 (are.1 ++ older) (reads misses) last before are.3))

-- the requests of a write end no checked read
write_requests_unread : (unit location byte : ℕ) → Reading 0 (write_requests unit location byte)
write_requests_unread unit location byte = λ asked. (tt, (tt, (tt, (tt, (tt, (tt, (tt, tt)))))))

-- those of a read do so in the last
read_requests_late : (unit location : ℕ) → Reading 1 (read_requests unit location)
read_requests_late unit location = λ asked. (tt, (tt, (tt, (tt, (tt, (tt, ((refl, omega arith), tt)))))))

write_unread : (unit location byte : ℕ) (outcome : Option (List ℕ)) (told : List Exchange)
    → Succeeds (each_try (write_requests unit location byte)) outcome told
    ⊎ Fails (each_try (write_requests unit location byte)) outcome told
    → AllUnread told
write_unread unit location byte outcome told (inl done) =
    let requests = write_requests_unread unit location byte in
    let missed =
    misses_unread 0 (each_try (write_requests unit location byte)) done.2 done.1 [] (λ misses. requests) (omega arith)
    tt done.7 in
    subst AllUnread (sym done.3)
    (trying_unread 0 (write_requests unit location byte) done.0 [] done.1 (requests (asked_in done.1))
    (subst AllUnread (append-nil done.1) missed) done.4 (omega arith)).0
write_unread unit location byte outcome told (inr failed) =
    subst AllUnread (append-nil told)
    (misses_unread 0 (each_try (write_requests unit location byte)) most_tries told []
    (λ misses. write_requests_unread unit location byte) (omega arith) tt failed.1)

-- if a read access failed, no checked read was answered
read_unread : (unit location : ℕ) (told older : List Exchange)
    → Succeeds (each_try (read_requests unit location)) None told
    ⊎ Fails (each_try (read_requests unit location)) None told
    → AllUnread older → AllUnread (told ++ older)
read_unread unit location told older (inl done) unread = let never = done.5 in cc
read_unread unit location told older (inr failed) unread =
    misses_unread 1 (each_try (read_requests unit location)) most_tries told older
    (λ misses. read_requests_late unit location) (omega arith) unread failed.1

-- so it is in the two accesses of a closing session that ended as NotClosed
read_closed_unread : (unit : ℕ) (outcomes : List (Option (List ℕ))) (told older : List Exchange)
    → Walk unit (read_closed Closed NotClosed) outcomes told (Finish NotClosed)
    → AllUnread older → AllUnread (told ++ older)
read_closed_unread unit [] told older walk unread = let differs = walk.1 in cc
read_closed_unread unit (Some byte ∷ outcomes) told older walk unread = grind (arith, finish_walk)
read_closed_unread unit (None ∷ outcomes) told older walk unread =
    grind (
      arith,
      finish_walk unit NotClosed outcomes walk.0 (Finish NotClosed) walk.4,
      only_older,
      read_unread unit 2
          walk.1 older walk.3 unread,
    )

close_unread : (unit : ℕ) (outcomes : List (Option (List ℕ))) (told : List Exchange)
    → Walk unit (close Closed NotClosed) outcomes told (Finish NotClosed) → AllUnread told
close_unread unit [] told walk = let differs = walk.1 in cc
close_unread unit (outcome ∷ outcomes) told walk =
    subst AllUnread (sym walk.2)
    (read_closed_unread unit outcomes walk.0 walk.1 walk.4 (write_unread unit 2 0xFF outcome walk.1 walk.3))

-- the newest exchange of a checked read ends one
not_ended : (unit location byte : ℕ) (told : List Exchange) → AllUnread told → EndsInRead unit location byte told → ⊥
not_ended unit location byte told unread ends = grind (arith, ends_reading unit location byte told ends)

unread_none : (unit : ℕ) (told : List Exchange) → AllUnread told → HasRead unit told → ⊥
unread_none unit [] unread has = has
unread_none unit (x ∷ told) unread (inl reads) = not_ended unit reads.0 reads.1 (x ∷ told) unread reads.2
unread_none unit (x ∷ told) unread (inr has) = unread_none unit told unread.1 has

pub closing_unread : (told : List Exchange) (unit : ℕ) → Wants unit (close Closed NotClosed) told (Ended NotClosed)
    → HasRead unit told → ⊥
closing_unread told unit wants has =
    grind (arith, ended_walk unit (close Closed NotClosed) told NotClosed wants, unread_none, close_unread)
