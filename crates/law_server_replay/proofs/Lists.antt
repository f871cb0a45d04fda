-- Lists that have something, and sessions by their names.
use Rattle.std.proofs.Common.{◌≡◌, ◌≢◌, suc, ◌==◌, Bool, true, false, Some, List, [], ◌∷◌, ◌++◌, if◌then◌else◌, filter, inl, inr, refl, sym, ap, subst, ◌∙◌, arith}
use Rattle.std.specs.List.{All, AllPairs, find}
use Rattle.std.proofs.lemmas.Bool.{and_from, and_parts, cases_Bool, eqb-true}
use Rattle.std.proofs.lemmas.Bool.{eq-eqb}
use Rattle.server_rules.specs.Answer.{is_spent}
use Rattle.server_rules.specs.Server.{Name, Session, is_named, is_same, name_of, session_named, with_session}

-- ---- lists that aren't empty

abbrev pub Has : {X : Type 0} → List X → Type 0
Has {X} xs = (first : X) × (rest : List X) × (xs ≡ first ∷ rest)

pub has_more : {X : Type 0} → (xs ys : List X) → Has xs → Has (xs ++ ys)
has_more xs ys (first, rest, is) = (first, rest ++ ys, ap (λ l. l ++ ys) is)

pub has_last : {X : Type 0} → (xs : List X) (x : X) → Has (xs ++ x ∷ [])
has_last [] x = (x, [], refl)
has_last (y ∷ xs) x = (y, xs ++ x ∷ [], refl)

pub has_some : {X : Type 0} → (xs : List X) → Has xs → xs ≡ [] → ⊥
has_some xs (first, rest, is) none = let e : first ∷ rest ≡ [] = sym is ∙ none in absurd (cc)

-- ---- all of a list

pub at_all : {X : Type 0} (P : X → Type 0) (x : X) (xs : List X) → All P (x ∷ xs) → P x
at_all P x xs h = h 0 x (omega arith)

pub all_rest : {X : Type 0} (P : X → Type 0) (x : X) (xs : List X) → All P (x ∷ xs) → All P xs
all_rest P x xs h k d below = h (suc k) d (omega (arith, below))

-- none is lost where each has room
pub none_spent : (sessions : List Session) → All (λ session. is_spent session ≡ false) sessions → filter is_spent sessions ≡ []
none_spent [] h = refl
none_spent (session ∷ sessions) h =
    rw (at_all (λ s. is_spent s ≡ false) session sessions h) (none_spent sessions (all_rest (λ s. is_spent s ≡ false) session sessions h))

-- ---- names

pub same_names : (one other : Name) → is_same one other ≡ true → one ≡ other
same_names one other is =
    let both = and_parts (one.key == other.key) (one.session == other.session) is in
    let key : one.key ≡ other.key = eqb-true one.key other.key both.0 in
    let session : one.session ≡ other.session = eqb-true one.session other.session both.1 in
    λ i. record { key = key i; session = session i }

pub names_same : (one : Name) → is_same one one ≡ true
names_same one = and_from (one.key == one.key) (one.session == one.session) (eq-eqb one.key one.key refl) (eq-eqb one.session one.session refl)

pub found_is : {X : Type 0} (test : X → Bool) (xs : List X) (x : X) → find test xs ≡ Some x → test x ≡ true
found_is test [] x is = absurd (cc)
found_is test (y ∷ xs) x is =
    elim (cases_Bool (test y)) [
      | inl holds ↦
          let same : Some y ≡ Some x = subst (λ (b : Bool). (if b then Some y else find test xs) ≡ Some x) holds is in
          let e : y ≡ x = cc in ap test (sym e) ∙ holds
      | inr fails ↦ found_is test xs x (subst (λ (b : Bool). (if b then Some y else find test xs) ≡ Some x) fails is)
    ]

pub found_name : (name : Name) (sessions : List Session) (session : Session) → session_named name sessions ≡ Some session → name_of session ≡ name
found_name name sessions session is = sym (same_names name (name_of session) (found_is (is_named name) sessions session is))

-- ---- a session in its own place

abbrev pub Apart : List Session → Type 0
Apart sessions = AllPairs (λ (one other : Session). name_of one ≢ name_of other) sessions

apart_rest : (o : Session) (sessions : List Session) → Apart (o ∷ sessions) → Apart sessions
apart_rest o sessions h i j d below within = h (suc i) (suc j) d (omega (arith, below)) (omega (arith, within))

apart_first : (o : Session) (sessions : List Session) → Apart (o ∷ sessions) → All (λ (other : Session). name_of o ≢ name_of other) sessions
apart_first o sessions h k d below = h 0 (suc k) d (omega arith) (omega (arith, below))

none_put : (b : Session) (sessions : List Session) → All (λ (other : Session). name_of b ≢ name_of other) sessions → with_session b sessions ≡ sessions
none_put b [] h = refl
none_put b (o ∷ sessions) h =
    let rest = none_put b sessions (all_rest (λ (other : Session). name_of b ≢ name_of other) o sessions h) in
    elim (cases_Bool (is_named (name_of b) o)) [
      | inl is ↦ absurd (at_all (λ (other : Session). name_of b ≢ name_of other) o sessions h (same_names (name_of b) (name_of o) is))
      | inr fails ↦ rw fails (ap (λ (l : List Session). o ∷ l) rest)
    ]

pub put_itself : (name : Name) (sessions : List Session) (y : Session) → Apart sessions → session_named name sessions ≡ Some y → with_session y sessions ≡ sessions
put_itself name [] y apart is = absurd (cc)
put_itself name (o ∷ sessions) y apart is =
    let named : name_of y ≡ name = found_name name (o ∷ sessions) y is in
    elim (cases_Bool (is_named name o)) [
      | inl holds ↦
          let same : Some o ≡ Some y = subst (λ (t : Bool). (if t then Some o else session_named name sessions) ≡ Some y) holds is in
          let e : o ≡ y = cc in
          let own : is_named (name_of y) o ≡ true = ap (λ (n : Name). is_named n o) named ∙ holds in
          let rest : with_session y sessions ≡ sessions =
          none_put y sessions (subst (λ (s : Session). All (λ (other : Session). name_of s ≢ name_of other) sessions) e (apart_first o sessions apart)) in
          rw own ((λ i. sym e i ∷ rest i))
      | inr fails ↦
          let other : is_named (name_of y) o ≡ false = ap (λ (n : Name). is_named n o) named ∙ fails in
          let there : session_named name sessions ≡ Some y = subst (λ (t : Bool). (if t then Some o else session_named name sessions) ≡ Some y) fails is in
          rw other (ap (λ (l : List Session). o ∷ l) (put_itself name sessions y (apart_rest o sessions apart) there))
    ]
