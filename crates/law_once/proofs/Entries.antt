-- The entries of a world and those of the law, one for one.
use Rattle.std.proofs.Common.{◌≡◌, ◌≢◌, ℕ, ◌+◌, ◌<◌, ◌≤◌, Bool, true, List, [], ◌∷◌, ◌++◌, length, length-append, map, filter, reverse, inl, inr, refl, sym, ap, subst, ◌∙◌, arith}
use Rattle.std.specs.List.{Contains}
use Rattle.std.proofs.lemmas.Bool.{cases_Bool}
use Rattle.std.proofs.lemmas.List.{reverse-append}
use Rattle.std.proofs.lemmas.List.Elements.{Contains-append_cases, Contains-append_left, Contains-append_right}
use Rattle.server_rules.specs.Event.{Entry}
use Rattle.server_rules.specs.Server.{Session}
use Rattle.law_moves.specs.Table as moves
use Rattle.law_moves.specs.Once.{AtMostOne}
use Rattle.world_rules.specs.World.{Entered}
use Rattle.law_server_moves.specs.Servers.{AreEntered, IsEntered}
use Rattle.law_once.proofs.Lists.{first_or, here, later}

-- ---- both lists

pub there_of : (lives : List Session) (es : List Entry) (ts : List moves.Entry) → AreEntered lives es ts → (e : Entry) → Contains es e → (t : moves.Entry) × Contains ts t × IsEntered lives e t
there_of lives [] [] h e among = let below : among.0 < 0 = among.1 in absurd (omega (arith, below))
there_of lives [] (t ∷ ts) h e among = absurd h
there_of lives (x ∷ es) [] h e among = absurd h
there_of lives (x ∷ es) (t ∷ ts) h e among =
    elim (first_or e x es among) [
      | inl is ↦ (t, here t ts, subst (λ (z : Entry). IsEntered lives z t) is h.0)
      | inr other ↦ let rest = there_of lives es ts h.1 e other in (rest.0, later rest.0 t ts rest.1, rest.2)
    ]

pub entry_of : (lives : List Session) (es : List Entry) (ts : List moves.Entry) → AreEntered lives es ts → (t : moves.Entry) → Contains ts t → (e : Entry) × Contains es e × IsEntered lives e t
entry_of lives [] [] h t among = let below : among.0 < 0 = among.1 in absurd (omega (arith, below))
entry_of lives [] (x ∷ ts) h t among = absurd h
entry_of lives (e ∷ es) [] h t among = absurd h
entry_of lives (e ∷ es) (x ∷ ts) h t among =
    elim (first_or t x ts among) [
      | inl is ↦ (e, here e es, subst (λ (z : moves.Entry). IsEntered lives e z) is h.0)
      | inr other ↦ let rest = entry_of lives es ts h.1 t other in (rest.0, later rest.0 e es rest.1, rest.2)
    ]

module _ (lives : List Session) (test : Entry → Bool) (P : moves.Entry → Type 0) (so : (e : Entry) (t : moves.Entry) → IsEntered lives e t → test e ≡ true → P t) where
  pub none_kept : (es : List Entry) (ts : List moves.Entry) → AreEntered lives es ts → ((t : moves.Entry) → Contains ts t → P t → ⊥) → filter test es ≡ []
  none_kept [] [] h none = refl
  none_kept [] (t ∷ ts) h none = absurd h
  none_kept (e ∷ es) [] h none = absurd h
  none_kept (e ∷ es) (t ∷ ts) h none =
      elim (cases_Bool (test e)) [
        | inl is ↦ absurd (none t (here t ts) (so e t h.0 is))
        | inr fails ↦ rw fails (none_kept es ts h.1 (λ other among. none other (later other t ts among)))
      ]

  pub one_kept : (es : List Entry) (ts : List moves.Entry) → AreEntered lives es ts → AtMostOne P ts → length (filter test es) ≤ 1
  one_kept [] [] h one = omega arith
  one_kept [] (t ∷ ts) h one = absurd h
  one_kept (e ∷ es) [] h one = absurd h
  one_kept (e ∷ es) (t ∷ ts) h one =
      elim (cases_Bool (test e)) [
        | inl is ↦
            let none : filter test es ≡ [] = none_kept es ts h.1 (λ other among its. one.0 (so e t h.0 is) other among its) in
            rw (is, none) (omega arith)
        | inr fails ↦ rw fails (one_kept es ts h.1 one.1)
      ]

-- ---- the same entries in a world

abbrev pub entry : Entered → Entry
entry one = one.entry

abbrev pub listed : List Entered → List Entry
listed entries = reverse (map entry entries)

reverse_first : {X : Type 0} (x : X) (xs : List X) → reverse (x ∷ xs) ≡ reverse xs ++ x ∷ []
reverse_first x xs = reverse-append (x ∷ []) xs

filter_more : {X : Type 0} (test : X → Bool) (xs ys : List X) → filter test (xs ++ ys) ≡ filter test xs ++ filter test ys
filter_more test [] ys = refl
filter_more test (x ∷ xs) ys =
    elim (cases_Bool (test x)) [
      | inl is ↦ rw is (ap (λ (l : List _). x ∷ l) (filter_more test xs ys))
      | inr fails ↦ rw fails (filter_more test xs ys)
    ]

pub counted_alike : (test : Entry → Bool) (entries : List Entered) → length (filter (λ (one : Entered). test one.entry) entries) ≡ length (filter test (listed entries))
counted_alike test [] = refl
counted_alike test (one ∷ entries) =
    let rest = counted_alike test entries in
    let e : filter test (listed (one ∷ entries)) ≡ filter test (listed entries) ++ filter test (one.entry ∷ []) =
    ap (filter test) (reverse_first one.entry (map entry entries)) ∙ filter_more test (listed entries) (one.entry ∷ []) in
    let n : length (filter test (listed (one ∷ entries))) ≡ length (filter test (listed entries)) + length (filter test (one.entry ∷ [])) =
    ap length e ∙ length-append (filter test (listed entries)) (filter test (one.entry ∷ [])) in
    elim (cases_Bool (test one.entry)) [
      | inl is ↦
          let m : length (filter test (one.entry ∷ [])) ≡ 1 = rw is refl in
          rw is (omega (arith, rest, n, m))
      | inr fails ↦
          let m : length (filter test (one.entry ∷ [])) ≡ 0 = rw fails refl in
          rw fails (omega (arith, rest, n, m))
    ]

pub in_listed : (entries : List Entered) (one : Entered) → Contains entries one → Contains (listed entries) one.entry
in_listed [] one among = let below : among.0 < 0 = among.1 in absurd (omega (arith, below))
in_listed (first ∷ entries) one among =
    subst (λ (l : List Entry). Contains l one.entry) (sym (reverse_first first.entry (map entry entries)))
    (elim (first_or one first entries among) [
      | inl is ↦ Contains-append_right (listed entries) (first.entry ∷ []) one.entry (subst (λ (z : Entered). Contains (first.entry ∷ []) z.entry) is (here first.entry []))
      | inr other ↦ Contains-append_left (listed entries) (first.entry ∷ []) one.entry (in_listed entries one other)
    ])

pub from_listed : (entries : List Entered) (e : Entry) → Contains (listed entries) e → (one : Entered) × Contains entries one × (one.entry ≡ e)
from_listed [] e among = let below : among.0 < 0 = among.1 in absurd (omega (arith, below))
from_listed (first ∷ entries) e among =
    elim (Contains-append_cases (listed entries) (first.entry ∷ []) e (subst (λ (l : List Entry). Contains l e) (reverse_first first.entry (map entry entries)) among)) [
      | inl old ↦ let rest = from_listed entries e old in (rest.0, later rest.0 first entries rest.1, rest.2)
      | inr new ↦
          elim (first_or e first.entry [] new) [
            | inl is ↦ (first, here first entries, is)
            | inr none ↦ let below : none.0 < 0 = none.1 in absurd (omega (arith, below))
          ]
    ]

-- ---- lists of none and of one

pub no_length : {X : Type 0} (xs : List X) → length xs ≡ 0 → xs ≡ []
no_length [] is = refl
no_length (x ∷ xs) is = absurd (omega (arith, is))

pub one_length : {X : Type 0} (xs : List X) (x : X) → Contains xs x → length xs ≤ 1 → xs ≡ x ∷ []
one_length [] x among most = let below : among.0 < 0 = among.1 in absurd (omega (arith, below))
one_length (y ∷ []) x among most =
    elim (first_or x y [] among) [
      | inl is ↦ ap (λ (z : _). z ∷ []) is
      | inr none ↦ let below : none.0 < 0 = none.1 in absurd (omega (arith, below))
    ]
one_length (y ∷ z ∷ xs) x among most = absurd (omega arith)

pub two_length : {X : Type 0} (xs : List X) (f : X → ℕ) (x y : X) → Contains xs x → Contains xs y → f x ≢ f y → 2 ≤ length xs
two_length [] f x y one other differ = let below : one.0 < 0 = one.1 in absurd (omega (arith, below))
two_length (z ∷ []) f x y one other differ =
    elim (first_or x z [] one) [
      | inl is ↦
          elim (first_or y z [] other) [
            | inl as_well ↦ absurd (differ (ap f (sym is) ∙ ap f as_well))
            | inr none ↦ let below : none.0 < 0 = none.1 in absurd (omega (arith, below))
          ]
      | inr none ↦ let below : none.0 < 0 = none.1 in absurd (omega (arith, below))
    ]
two_length (z ∷ v ∷ xs) f x y one other differ = omega arith
