-- The exchanges before a short address is given, a line is reported and a run ends: facts on both sides of each edge.
use Rattle.std.proofs.Common.{◌≡◌, ◌<◌, ◌+◌, ◌*◌, ℕ, List, [], ◌∷◌, Option, Some, None, inl, inr, refl, sym, ap, ◌∙◌}
use Rattle.std.proofs.Common.{arith}
use Rattle.dali_address.specs.Census.{highest}
use Rattle.dali_address.specs.Calls.{short_byte}
use Rattle.dali_address.specs.Rights.{IsSought, IsFree, MayGive, MayTake, IsClosed, IsReadBack}
use Rattle.dali_address.specs.Said.{named_by}
use Rattle.dali_address.specs.Steps.{Exchange}
use Rattle.dali_address.specs.Units.{Three}
use Rattle.dali_address.specs.declared.call.Call.{Call}
use Rattle.dali_address.specs.declared.call.Call.TheVariants.{Terminate, Compare, SearchHigh, SearchMiddle, SearchLow}
use Rattle.dali_address.specs.declared.call.Call.TheVariants.{Remove, AskShort, AskPresent}
use Rattle.dali_address.specs.declared.call.Call.TheVariants.{AskRandomHigh, AskRandomMiddle, AskRandomLow}

abbrev sent : Call → Exchange
sent call = record { call = call; answer = None }

abbrev told : Call → ℕ → Exchange
told call byte = record { call = call; answer = Some byte }

-- the three bytes of a search address were put
abbrev put : Three → List Exchange → List Exchange
put search past =
    sent (SearchLow search.low) ∷ (sent (SearchMiddle search.middle) ∷ (sent (SearchHigh search.high) ∷ past))

call_same : (one two : Exchange) → one ≡ two → one.call ≡ two.call
call_same one two same = ap (λ (it : Exchange). it.call) same

answer_same : (one two : Exchange) → one ≡ two → one.answer ≡ two.answer
answer_same one two same = ap (λ (it : Exchange). it.answer) same

no_none : (byte : ℕ) → None ≡ Some byte → ⊥
no_none byte same = cc

no_some : (byte : ℕ) → Some byte ≡ None → ⊥
no_some byte same = cc

byte_same : (one two : ℕ) → Some one ≡ Some two → one ≡ two
byte_same one two same = cc

low_same : (one two : ℕ) → SearchLow one ≡ SearchLow two → one ≡ two
low_same one two same = cc

middle_same : (one two : ℕ) → SearchMiddle one ≡ SearchMiddle two → one ≡ two
middle_same one two same = cc

high_same : (one two : ℕ) → SearchHigh one ≡ SearchHigh two → one ≡ two
high_same one two same = cc

three_same : (one two : Three) → one.high ≡ two.high → one.middle ≡ two.middle → one.low ≡ two.low → one ≡ two
three_same one two high middle low =
    ap (λ (it : ℕ). record { high = it; middle = one.middle; low = one.low }) high
    ∙ ap (λ (it : ℕ). record { high = two.high; middle = it; low = one.low }) middle
    ∙ ap (λ (it : ℕ). record { high = two.high; middle = two.middle; low = it }) low

-- the search address that was put is the only one
put_same : (search one : Three) (past : List Exchange) → IsSought one (put search past) → one ≡ search
put_same search one past (inl (low, (middle, (high, whatever)))) =
    sym (three_same search one (high_same _ _ high) (middle_same _ _ middle) (low_same _ _ low))
put_same search one past (inr (leaves, sought)) = absurd leaves

asked_same : (search one : Three) (answer : Option ℕ) (past : List Exchange)
    → IsSought one (record { call = AskShort; answer = answer } ∷ put search past) → one ≡ search
asked_same search one answer past (inl (wrong, older)) = absurd (no wrong)
  where
    no : AskShort ≡ SearchLow one.low → ⊥
    no e = cc
asked_same search one answer past (inr (leaves, sought)) = put_same search one past sought

-- FFFFFFh is given to nobody: a unit that drew no random address has it
pub undrawn_isnt_given : (short : ℕ) (past : List Exchange)
    → MayGive short (told AskShort 0xFF ∷ put highest past) → ⊥
undrawn_isnt_given short past may = may.drawn (asked_same highest may.search (Some 0xFF) past may.sought)

-- nor is anything given if nobody told that it has no short address
pub silent_isnt_given : (short : ℕ) (past : List Exchange) → MayGive short (sent AskShort ∷ past) → ⊥
silent_isnt_given short past may = no_none 0xFF (answer_same _ _ may.none.0)

-- nor if the unit there told that it has one
pub addressed_isnt_given : (short : ℕ) (past : List Exchange) → MayGive short (told AskShort 0x0F ∷ past) → ⊥
addressed_isnt_given short past may = below 0x0F 0xFF (omega arith) (byte_same 0x0F 0xFF (answer_same _ _ may.none.0))
  where
    below : (one two : ℕ) → one < two → one ≡ two → ⊥
    below one two less same = omega arith

-- nor right after the search address was put
pub unasked_isnt_given : (short : ℕ) (search : Three) (past : List Exchange) → MayGive short (put search past) → ⊥
unasked_isnt_given short search past may = no (call_same _ _ may.none.0)
  where
    no : SearchLow search.low ≡ AskShort → ⊥
    no e = cc

-- an address that a unit told isn't given
pub told_isnt_given : (short : ℕ) (past : List Exchange)
    → MayGive short (told AskShort 0xFF ∷ (told AskShort (short_byte short) ∷ past)) → ⊥
told_isnt_given short past may = elim may.once [
  | inl removed ↦ no removed
  | inr (other, before) ↦ elim before [ inl removed ↦ no removed | inr (own, older) ↦ own refl ]
]
  where
    no : AskShort ≡ Remove → ⊥
    no e = cc

-- MASK tells no address that could be taken away
pub mask_isnt_taken : (past : List Exchange) → MayTake (told AskShort 0xFF ∷ past) → ⊥
mask_isnt_taken past may = no may.short may.address (byte_same 0xFF (short_byte may.short) (answer_same _ _ may.some.0))
  where
    no : (short : ℕ) → short < 64 → 0xFF ≡ 2 * short + 1 → ⊥
    no short few same = omega arith

-- seven silent asks aren't enough
pub seven_arent_free : (short : ℕ)
    → IsFree short (sent (AskPresent short) ∷ (sent (AskPresent short) ∷ (sent (AskPresent short)
    ∷ (sent (AskPresent short) ∷ (sent (AskPresent short) ∷ (sent (AskPresent short)
    ∷ (sent (AskPresent short) ∷ []))))))) → ⊥
seven_arent_free short (inl silent) = silent.1.1.1.1.1.1.1
seven_arent_free short (inr (idle, free)) = idle

-- eight are
pub eight_are_free : (short : ℕ)
    → IsFree short (sent (AskPresent short) ∷ (sent (AskPresent short) ∷ (sent (AskPresent short)
    ∷ (sent (AskPresent short) ∷ (sent (AskPresent short) ∷ (sent (AskPresent short)
    ∷ (sent (AskPresent short) ∷ (sent (AskPresent short) ∷ []))))))))
eight_are_free short = inl (refl, (refl, (refl, (refl, (refl, (refl, (refl, (refl, tt))))))))

-- what was read once isn't read back
pub once_isnt_read_back : (short : ℕ) (random : Three) → IsReadBack short random (named_by short random []) → ⊥
once_isnt_read_back short random back = elim back.1 [
  | inl (wrong, older) ↦ middle (call_same _ _ wrong)
  | inr before ↦ elim before [ inl (wrong, older) ↦ high (call_same _ _ wrong) | inr none ↦ none ]
]
  where
    middle : AskRandomMiddle short ≡ AskRandomLow short → ⊥
    middle e = cc

    high : AskRandomHigh short ≡ AskRandomLow short → ⊥
    high e = cc

-- what was read twice is
pub twice_is_read_back : (short : ℕ) (random : Three)
    → IsReadBack short random (named_by short random (named_by short random []))
twice_is_read_back short random =
    ((refl, (refl, (refl, tt))), inr (inr (inl (refl, (refl, (refl, tt))))))

-- a run is closed by TERMINATE twice and two silent COMPAREs
pub closed_twice : IsClosed (sent Compare ∷ (sent Compare ∷ (sent Terminate ∷ (sent Terminate ∷ put highest []))))
closed_twice = (
  inr (tt, inr (tt, inr (tt, inr (tt, inl (refl, (refl, (refl, tt))))))),
  (refl, (refl, (refl, (refl, tt)))),
)

-- and not by one TERMINATE
pub once_isnt_closed : IsClosed (sent Compare ∷ (sent Compare ∷ (sent Terminate ∷ put highest []))) → ⊥
once_isnt_closed closed = no closed.1.1.1.1.0
  where
    no : SearchLow 0xFF ≡ Terminate → ⊥
    no e = cc

-- nor if a COMPARE was answered
pub answered_isnt_closed :
    IsClosed (sent Compare ∷ (told Compare 0xFF ∷ (sent Terminate ∷ (sent Terminate ∷ put highest []))))
    → ⊥
answered_isnt_closed closed = no_some 0xFF (answer_same _ _ closed.1.1.0)
