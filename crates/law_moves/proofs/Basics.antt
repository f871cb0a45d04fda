-- Lists and choices: what a list with one more thing holds, and what a change at one number or call leaves elsewhere.
use Rattle.std.proofs.Common.{◌≡◌, ℕ, zero, suc, ◌<◌, ◌==◌, if◌then◌else◌, true, false, List, [], ◌∷◌, length, ◌⊎◌, inl, inr, sym, refl, ap, subst, subst₂, eq-eqb, ne_eqb, arith}
use Rattle.std.proofs.lemmas.Bool.{cases_eq, cases_Bool, and_parts, eqb-true}
use Rattle.std.specs.List.{Contains, slice_index_or}
use Rattle.law_moves.specs.Table.{CallId, same_call}

-- Lists

pub contains_first : {A : Type 0} (x : A) (xs : List A) → Contains (x ∷ xs) x
contains_first x xs = (0, omega arith, refl)

pub contains_rest : {A : Type 0} (x y : A) (xs : List A) → Contains xs x → Contains (y ∷ xs) x
contains_rest x y xs h = let below : h.0 < length xs = h.1 in (suc h.0, omega arith, h.2)

contains_cases_at : {A : Type 0} (x y : A) (xs : List A) (k : ℕ)
    → k < length (y ∷ xs) → slice_index_or (y ∷ xs) k x ≡ x → (x ≡ y) ⊎ Contains xs x
contains_cases_at x y xs zero below is = inl (sym is)
contains_cases_at x y xs (suc k) below is = inr (k, omega arith, is)

-- what a list holds is its first thing, or stands later in it
pub contains_cases : {A : Type 0} (x y : A) (xs : List A) → Contains (y ∷ xs) x → (x ≡ y) ⊎ Contains xs x
contains_cases x y xs h = contains_cases_at x y xs h.0 h.1 h.2

pub contains_none : {A : Type 0} (x : A) → Contains [] x → ⊥
contains_none x h = let below : h.0 < 0 = h.1 in omega arith

pub empty : {A : Type 0} (x : A) (xs : List A) → xs ≡ [] → Contains xs x → ⊥
empty x xs none h = contains_none x (subst (λ list. Contains list x) none h)

-- what holds of the first thing and of each later one holds of each
pub each_of : {A : Type 0} (P : A → Type 0) (y : A) (xs : List A)
    → P y → ((x : A) → Contains xs x → P x) → (x : A) → Contains (y ∷ xs) x → P x
each_of P y xs first later x h =
    elim (contains_cases x y xs h) [ inl is ↦ subst P (sym is) first | inr old ↦ later x old ]

-- what a list holds that has one more thing where a test passes
pub added_cases : {A : Type 0} (x y : A) (xs : List A) (v u : ℕ)
    → Contains (if v == u then y ∷ xs else xs) x → ((v ≡ u) × (x ≡ y)) ⊎ Contains xs x
added_cases x y xs v u h =
    elim (cases_eq v u) [
      | inl same ↦
          elim (contains_cases x y xs (rw (eq-eqb v u same) at h)) [ inl is ↦ inl (same, is) | inr old ↦ inr old ]
      | inr differs ↦ inr (rw (ne_eqb v u differs) at h)
    ]

pub added_still : {A : Type 0} (x y : A) (xs : List A) (v u : ℕ) → Contains xs x → Contains (if v == u then y ∷ xs else xs) x
added_still x y xs v u h =
    elim (cases_eq v u) [
      | inl same ↦ rw (eq-eqb v u same) (contains_rest x y xs h)
      | inr differs ↦ rw (ne_eqb v u differs) h
    ]

-- Choices by a number

-- what a choice gives, by its cases
pub choice : {A : Type 0} (P : A → Type 0) (v u : ℕ) (new old : A)
    → (v ≡ u → P new) → ((v ≡ u → ⊥) → P old) → P (if v == u then new else old)
choice P v u new old at_new at_old =
    elim (cases_eq v u) [
      | inl same ↦ rw (eq-eqb v u same) (at_new same)
      | inr differs ↦ rw (ne_eqb v u differs) (at_old differs)
    ]

pub choice_of : {A : Type 0} (P : A → Type 0) (v u : ℕ) (new old : A)
    → P (if v == u then new else old) → ((v ≡ u) × P new) ⊎ ((v ≡ u → ⊥) × P old)
choice_of P v u new old h =
    elim (cases_eq v u) [
      | inl same ↦ inl (same, rw (eq-eqb v u same) at h)
      | inr differs ↦ inr (differs, rw (ne_eqb v u differs) at h)
    ]

pub chosen : {A : Type 0} (v u : ℕ) (new old : A) → v ≡ u → (if v == u then new else old) ≡ new
chosen v u new old same = rw (eq-eqb v u same)

pub unchosen : {A : Type 0} (v u : ℕ) (new old : A) → (v ≡ u → ⊥) → (if v == u then new else old) ≡ old
unchosen v u new old differs = rw (ne_eqb v u differs)

-- Choices by a call

is_call : (call other : CallId) → same_call call other ≡ true → call ≡ other
is_call call other passes =
    let parts = and_parts (call.client == other.client) (call.place == other.place) passes in
    let same_client : call.client ≡ other.client = eqb-true call.client other.client parts.0 in
    let same_place : call.place ≡ other.place = eqb-true call.place other.place parts.1 in
    subst₂ (λ client place. call ≡ record { client = client; place = place }) same_client same_place refl

passes_if : (call other : CallId) → call ≡ other → same_call call other ≡ true
passes_if call other same =
    rw (eq-eqb call.client other.client (ap (λ (c : CallId). c.client) same), eq-eqb call.place other.place (ap (λ (c : CallId). c.place) same)) refl

-- a call is the other one, and passes the test, or isn't, and fails it
pub record IsCall (call other : CallId) : Type 0 where
  pub same : call ≡ other
  pub passes : same_call call other ≡ true

pub record IsNoCall (call other : CallId) : Type 0 where
  pub differs : call ≡ other → ⊥
  pub fails : same_call call other ≡ false

pub cases_call : (call other : CallId) → IsCall call other ⊎ IsNoCall call other
cases_call call other =
    elim (cases_Bool (same_call call other)) [
      | inl passes ↦ inl (record { same = is_call call other passes; passes = passes })
      | inr fails ↦ inr (record { differs = λ same. let passes = passes_if call other same in absurd cc; fails = fails })
    ]

pub call_choice : {A : Type 0} (P : A → Type 0) (call other : CallId) (new old : A)
    → (call ≡ other → P new) → ((call ≡ other → ⊥) → P old) → P (if same_call call other then new else old)
call_choice P call other new old at_new at_old =
    elim (cases_call call other) [ inl is ↦ rw is.passes (at_new is.same) | inr is ↦ rw is.fails (at_old is.differs) ]

pub call_chosen : {A : Type 0} (call other : CallId) (new old : A) → call ≡ other → (if same_call call other then new else old) ≡ new
call_chosen call other new old same = rw (passes_if call other same)

pub call_unchosen : {A : Type 0} (call other : CallId) (new old : A)
    → (call ≡ other → ⊥) → (if same_call call other then new else old) ≡ old
call_unchosen call other new old differs =
    elim (cases_call call other) [ inl is ↦ absurd (differs is.same) | inr is ↦ rw is.fails ]

pub call_added_cases : {A : Type 0} (x y : A) (xs : List A) (call other : CallId)
    → Contains (if same_call call other then y ∷ xs else xs) x → ((call ≡ other) × (x ≡ y)) ⊎ Contains xs x
call_added_cases x y xs call other h =
    elim (cases_call call other) [
      | inl of ↦
          elim (contains_cases x y xs (rw of.passes at h)) [ inl is ↦ inl (of.same, is) | inr old ↦ inr old ]
      | inr of ↦ inr (rw of.fails at h)
    ]

pub call_added_still : {A : Type 0} (x y : A) (xs : List A) (call other : CallId)
    → Contains xs x → Contains (if same_call call other then y ∷ xs else xs) x
call_added_still x y xs call other h =
    call_choice (λ list. Contains list x) call other (y ∷ xs) xs (λ same. contains_rest x y xs h) (λ differs. h)
