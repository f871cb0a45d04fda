-- Room for answers that is reserved in one session after the other, or given back.
use Rattle.std.proofs.Common.{◌≡◌, ◌∙◌, ℕ, zero, suc, ◌<◌, ◌≤◌, ◌+◌, true, false, Result, Ok, Err, List, [], ◌∷◌, length, get_or, set, max, ap, sym, subst, refl, arith, inl, inr}
use Rattle.std.specs.Prelude.{◌==◌, is_err, min, nat_lt, OnErr, OnOk}
use Rattle.std.proofs.lemmas.Bool.{cases_Bool, eqb-true, eq-eqb, false≢true, ltb-true, ltb-false}
use Rattle.std.proofs.lemmas.List.{get_or-set_same, get_or-set_other, length-set, set-get_or}
use Rattle.server_session.specs.declared.session.SessionState.{SessionState}
use Rattle.server_session.specs.Rooms.{with_replies_left}
use Rattle.server_session.specs.SessionState.{replies_left}
use Rattle.server_core.specs.declared.tick_turns.TickTurn.{TickTurn}
use Rattle.server_core.specs.Reserving.{AreReserved, IsReserved}
use Rattle.server_core.proofs.Places.{one-of}
use Rattle.server_core.proofs.Rooms.{given-back}

pub err-so : {A E : Type 0} (result : Result A E) (P : Type 0) → is_err result ≡ true → OnErr result P → P
err-so (Ok x) P is holds = absurd (false≢true is)
err-so (Err error) P is holds = holds

pub ok-so : {A E : Type 0} (result : Result A E) (P : Type 0) → is_err result ≡ false → OnOk result P → P
ok-so (Ok x) P is holds = holds
ok-so (Err error) P is holds = absurd (false≢true (sym is))

set-twice : (items : List SessionState) (place : ℕ) (one other : SessionState) → set (set items place one) place other ≡ set items place other
set-twice [] place one other = refl
set-twice (item ∷ items) zero one other = refl
set-twice (item ∷ items) (suc place) one other = ap (λ (items : List SessionState). item ∷ items) (set-twice items place one other)

-- what a session becomes whose room is reserved
abbrev pub reserved : ℕ → SessionState → SessionState
reserved answers standing = with_replies_left (max (replies_left standing) answers) standing

pub back-so : (items : List SessionState) (place : ℕ) (d : SessionState) (answers before : ℕ) (new last : List SessionState) → place < length items
    → new ≡ set items place (reserved answers (get_or items place d)) → before ≡ replies_left (get_or items place d)
    → last ≡ set new place (with_replies_left (min (replies_left (get_or new place d)) before) (get_or new place d)) → last ≡ items
back-so items place d answers before new last within is was back =
    let standing = get_or items place d in
    let first = reserved answers standing in
    let lent : get_or new place d ≡ first = ap (λ (new : List SessionState). get_or new place d) is ∙ get_or-set_same items place first d within in
    let given : with_replies_left (min (replies_left (get_or new place d)) before) (get_or new place d) ≡ standing =
    given-back standing (get_or new place d) (with_replies_left (min (replies_left (get_or new place d)) before) (get_or new place d)) before answers was lent refl in
    back
    ∙ (ap (λ (standing : SessionState). set new place standing) given
    ∙ (ap (λ (new : List SessionState). set new place standing) is
    ∙ (set-twice items place first standing ∙ set-get_or items place d)))

most-room : (room answers : ℕ) → answers ≤ max room answers
most-room room answers = omega arith

next-place : (place i : ℕ) → place ≤ i → (i ≡ place → ⊥) → place + 1 ≤ i
next-place place i from differ =
    elim (cases_Bool (nat_lt place i)) [
      | inl more ↦ let lt : place < i = ltb-true place i more in omega arith
      | inr not_more ↦ absurd (differ (let le : i ≤ place = ltb-false place i not_more in omega arith))
    ]

less-same : (i place : ℕ) → i < place → i ≡ place → ⊥
less-same i place lt same = absurd (omega arith)

pub reserved-more : (place : ℕ) (items : List SessionState) (voices : List TickTurn) (new after : List SessionState) (voice : TickTurn) → place < length items
    → ((d : SessionState) → new ≡ set items place (reserved voice.left (get_or items place d))) → ((e : TickTurn) → get_or voices place e ≡ voice)
    → AreReserved (place + 1) new voices after → AreReserved place items voices after
reserved-more place items voices new after voice within is its are =
    let long_new : (d : SessionState) → length new ≡ length items = λ d. ap (λ (items : List SessionState). length items) (is d) ∙ length-set items place (reserved voice.left (get_or items place d)) in
    let other : (i : ℕ) (d : SessionState) → (i ≡ place → ⊥) → get_or new i d ≡ get_or items i d = λ i d differ.
    ap (λ (items : List SessionState). get_or items i d) (is d) ∙ get_or-set_other items place i (reserved voice.left (get_or items place d)) d differ in
    record {
      long = are.long ∙ long_new (one-of items place within);
      front = λ i d lt. are.front i d (omega (arith, lt)) ∙ other i d (λ same. less-same i place lt same);
      each = λ i d e from lt.
          elim (cases_Bool (i == place)) [
            | inl same ↦
                let at : i ≡ place = eqb-true i place same in
                let standing = get_or items place d in
                let done : get_or after place d ≡ reserved voice.left standing =
                are.front place d (omega arith)
                ∙ (ap (λ (items : List SessionState). get_or items place d) (is d) ∙ get_or-set_same items place (reserved voice.left standing) d within) in
                subst (λ (i : ℕ). IsReserved (get_or voices i e).left (get_or items i d) (get_or after i d)) (sym at)
                (record {
                  room = max (replies_left standing) voice.left;
                  enough = subst (λ (voice' : TickTurn). voice'.left ≤ max (replies_left standing) voice.left) (sym (its e)) (most-room (replies_left standing) voice.left);
                  same = done;
                })
            | inr off ↦
                let differ : (i ≡ place) → ⊥ = λ same. false≢true (sym off ∙ eq-eqb i place same) in
                let long = long_new d in
                subst (λ (standing : SessionState). IsReserved (get_or voices i e).left standing (get_or after i d)) (other i d differ)
                (are.each i d e (next-place place i from differ) (omega (arith, lt, long)))
          ];
    }
