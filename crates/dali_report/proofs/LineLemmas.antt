-- The members of a report's lines, put in one after the other.
use Rattle.std.proofs.Common.{◌≡◌, ◌∙◌, ap₂, refl, codes, ℕ, List, Result, Ok, Err, IfOk, IsOkAnd}
use Rattle.serde_json.specs.Data.{Data, Members, member, no_members, put}

-- if members and a value were made, so are the members with it
pub put_made : {A V E : Type 0} (members_of : A → Members) (data_of : V → Data) (made : Result A E)
    (value : Result V E) (more : Result A E) (key : List ℕ) (told : Data) (before : Members)
    → IfOk made (λ was. members_of was ≡ before) → IfOk value (λ v. data_of v ≡ told)
    → IfOk more (λ all. IsOkAnd made (λ was. IsOkAnd value
    (λ v. members_of all ≡ put key (data_of v) (members_of was))))
    → IfOk more (λ all. members_of all ≡ put key told before)
put_made members_of data_of (Ok was) (Ok v) (Ok all) key told before was_is v_is is =
    is ∙ ap₂ (λ d ms. put key d ms) v_is was_is
put_made members_of data_of (Ok was) (Err error) (Ok all) key told before was_is v_is is = absurd is
put_made members_of data_of (Err error) value (Ok all) key told before was_is v_is is = absurd is
put_made members_of data_of made value (Err error) key told before was_is v_is is = tt

pub cause_members : {none : Members}
    {v1 d1 : Data} {m1 : Members}
    {v2 d2 : Data} {m2 : Members}
    {v3 d3 : Data} {m3 : Members}
    → none ≡ no_members
    → v1 ≡ d1 → m1 ≡ put (codes "was") v1 none
    → v2 ≡ d2 → m2 ≡ put (codes "location") v2 m1
    → v3 ≡ d3 → m3 ≡ put (codes "byte") v3 m2
    → m3 ≡ member (codes "byte") d3 (member (codes "location") d2 (member (codes "was") d1 no_members))
cause_members e e1 f1 e2 f2 e3 f3 = rw (f3, e3, f2, e2, f1, e1, e) refl

pub end_members : {none : Members}
    {v1 d1 : Data} {m1 : Members}
    {v2 d2 : Data} {m2 : Members}
    {v3 d3 : Data} {m3 : Members}
    {v4 d4 : Data} {m4 : Members}
    {v5 d5 : Data} {m5 : Members}
    → none ≡ no_members
    → v1 ≡ d1 → m1 ≡ put (codes "run") v1 none
    → v2 ≡ d2 → m2 ≡ put (codes "name") v2 m1
    → v3 ≡ d3 → m3 ≡ put (codes "frame") v3 m2
    → v4 ≡ d4 → m4 ≡ put (codes "fault") v4 m3
    → v5 ≡ d5 → m5 ≡ put (codes "answer") v5 m4
    → m5 ≡ member (codes "answer") d5 (member (codes "fault") d4
    (member (codes "frame") d3 (member (codes "name") d2 (member (codes "run") d1 no_members))))
end_members e e1 f1 e2 f2 e3 f3 e4 f4 e5 f5 = rw (f5, e5, f4, e4, f3, e3, f2, e2, f1, e1, e) refl

pub found_members : {none : Members}
    {v1 d1 : Data} {m1 : Members}
    {v2 d2 : Data} {m2 : Members}
    {v3 d3 : Data} {m3 : Members}
    {v4 d4 : Data} {m4 : Members}
    {v5 d5 : Data} {m5 : Members}
    {v6 d6 : Data} {m6 : Members}
    {v7 d7 : Data} {m7 : Members}
    → none ≡ no_members
    → v1 ≡ d1 → m1 ≡ put (codes "unit") v1 none
    → v2 ≡ d2 → m2 ≡ put (codes "run") v2 m1
    → v3 ≡ d3 → m3 ≡ put (codes "order") v3 m2
    → v4 ≡ d4 → m4 ≡ put (codes "location") v4 m3
    → v5 ≡ d5 → m5 ≡ put (codes "found") v5 m4
    → v6 ≡ d6 → m6 ≡ put (codes "differs") v6 m5
    → v7 ≡ d7 → m7 ≡ put (codes "byte") v7 m6
    → m7 ≡ member (codes "byte") d7 (member (codes "differs") d6
    (member (codes "found") d5 (member (codes "location") d4 (member (codes "order") d3
    (member (codes "run") d2 (member (codes "unit") d1 no_members))))))
found_members e e1 f1 e2 f2 e3 f3 e4 f4 e5 f5 e6 f6 e7 f7 =
    rw (f7, e7, f6, e6, f5, e5, f4, e4, f3, e3, f2, e2, f1, e1, e) refl

pub difference_members : {none : Members}
    {v1 d1 : Data} {m1 : Members}
    {v2 d2 : Data} {m2 : Members}
    {v3 d3 : Data} {m3 : Members}
    → none ≡ no_members
    → v1 ≡ d1 → m1 ≡ put (codes "wants") v1 none
    → v2 ≡ d2 → m2 ≡ put (codes "has") v2 m1
    → v3 ≡ d3 → m3 ≡ put (codes "field") v3 m2
    → m3 ≡ member (codes "field") d3 (member (codes "has") d2 (member (codes "wants") d1 no_members))
difference_members e e1 f1 e2 f2 e3 f3 = rw (f3, e3, f2, e2, f1, e1, e) refl
