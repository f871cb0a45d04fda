-- Lists of calls and of messages, and what a client's names keep.
use Rattle.std.proofs.Common.{◌≡◌, ◌≢◌, ℕ, zero, suc, ◌≤◌, ◌<◌, List, [], ◌∷◌, ◌++◌, length, map, None, Some, inl, inr, refl, sym, ap, subst, ◌∙◌, arith}
use Rattle.std.specs.Prelude.{◌⊎◌, slice_get, option_map}
use Rattle.std.specs.List.{All, AllByRecursion, Contains, slice_index_or}
use Rattle.law_moves.specs.Table as moves
use Rattle.law_moves.specs.World.{World, Owns, IsName, IsUnder}
use Rattle.law_moves.specs.Lawful.{IsNewSession}
use Rattle.law_moves.specs.Reached.{Reached}
use Rattle.call_table.specs.Table.{Call, Name}
use Rattle.client_rules.specs.Client.{Client}
use Rattle.law_client.specs.Clients.{LivesIn, IsNameThere, AreNamesThere, IsGivenBy}

-- what the law on moves promises of names
pub record Apart : Type 0 where
  pub of_one : (w : World) (one other : moves.CallId) (name same : moves.Name) → Reached w → Contains (w.calls one).names name
      → Contains (w.calls other).names same → name.session ≡ same.session → name.number ≡ same.number → one ≡ other
  pub newest : (w : World) (call : moves.CallId) (name same : moves.Name) (older : List moves.Name) → Reached w
      → (w.calls call).names ≡ name ∷ older → Contains older same → name.session ≡ same.session → name.number ≡ same.number → ⊥
  pub sent : (w : World) (call : moves.CallId) (name : moves.Name) → Reached w → Contains (w.calls call).names name
      → (message : moves.Message) × Contains w.ups message × IsUnder name message
  pub of_name : (w : World) (call : moves.CallId) (name : moves.Name) → Reached w → Contains (w.calls call).names name
      → Owns (w.clients call.client) name.session
  pub of_message : (w : World) (message : moves.Message) → Reached w → Contains w.ups message
      → (client : ℕ) × Owns (w.clients client) message.session
  pub no_name : (w : World) (message : moves.Message) → Reached w → Contains w.ups message → message.call ≡ None
      → IsName w.calls message.session message.number → ⊥
  pub one_owner : (w : World) (one other session : ℕ) → Reached w → Owns (w.clients one) session → Owns (w.clients other) session
      → one ≡ other

-- ---- members of a list

pub here : {X : Type 0} (x : X) (xs : List X) → Contains (x ∷ xs) x
here x xs = (0, omega arith, refl)

pub later : {X : Type 0} (x y : X) (xs : List X) → Contains xs x → Contains (y ∷ xs) x
later x y xs h = let below : h.0 < length xs = h.1 in (suc h.0, omega arith, h.2)

pub all_of : {X : Type 0} (P : X → Type 0) (xs : List X) → ((x : X) → Contains xs x → P x) → AllByRecursion P xs
all_of P [] each = tt
all_of P (x ∷ xs) each = (each x (here x xs), all_of P xs (λ y among. each y (later y x xs among)))

pub each_in : {X : Type 0} (P : X → Type 0) (xs : List X) → AllByRecursion P xs → (k : ℕ) (x : X) → k < length xs → slice_index_or xs k x ≡ x → P x
each_in P [] h k x below is = absurd (omega arith)
each_in P (y ∷ xs) h zero x below is = subst P is h.0
each_in P (y ∷ xs) h (suc k) x below is = each_in P xs h.1 k x (omega arith) is

pub each_of : {X : Type 0} (P : X → Type 0) (xs : List X) → AllByRecursion P xs → (x : X) → Contains xs x → P x
each_of P xs h x among = each_in P xs h among.0 x among.1 among.2

pub at_each : {X : Type 0} (P : X → Type 0) (xs : List X) → AllByRecursion P xs → All P xs
at_each P [] h k d below = absurd (omega arith)
at_each P (x ∷ xs) h zero d below = h.0
at_each P (x ∷ xs) h (suc k) d below = at_each P xs h.1 k d (omega arith)

-- ---- a place of a list

pub get_map : {X Y : Type 0} (f : X → Y) (xs : List X) (i : ℕ) → slice_get (map f xs) i ≡ option_map f (slice_get xs i)
get_map f [] i = refl
get_map f (x ∷ xs) zero = refl
get_map f (x ∷ xs) (suc i) = get_map f xs i

pub get_past : {X : Type 0} (xs : List X) (i : ℕ) → length xs ≤ i → slice_get xs i ≡ None
get_past [] i past = refl
get_past (x ∷ xs) zero past = absurd (omega arith)
get_past (x ∷ xs) (suc i) past = get_past xs i (omega arith)

pub get_pushed : {X : Type 0} (xs : List X) (x : X) (i : ℕ)
    → ((i ≡ length xs) × (slice_get (xs ++ x ∷ []) i ≡ Some x)) ⊎ ((i ≢ length xs) × (slice_get (xs ++ x ∷ []) i ≡ slice_get xs i))
get_pushed [] x zero = inl (refl, refl)
get_pushed [] x (suc i) = inr (λ is. omega (arith, is), refl)
get_pushed (y ∷ xs) x zero = inr (λ is. omega (arith, is), refl)
get_pushed (y ∷ xs) x (suc i) =
    elim (get_pushed xs x i) [ inl h ↦ inl (ap suc h.0, h.1) | inr h ↦ inr (λ is. h.0 (omega (arith, is)), h.1) ]

-- ---- names

pub names_keep : (ups more : List moves.Message) (names : List Name) (theres : List moves.Name)
    → ((name : Name) (there : moves.Name) → Contains theres there → IsNameThere ups name there → IsNameThere more name there)
    → AreNamesThere ups names theres → AreNamesThere more names theres
names_keep ups more [] [] keep h = tt
names_keep ups more [] (there ∷ theres) keep h = h
names_keep ups more (name ∷ names) [] keep h = h
names_keep ups more (name ∷ names) (there ∷ theres) keep h = (
  keep name there (here there theres) h.0,
  names_keep ups more names theres (λ n t among. keep n t (later t there theres among)) h.1,
)

-- a client in the same session, whose last number is no less
pub record Alike (one other : Client) : Type 0 where
  pub session : other.session ≡ one.session
  pub last : one.counters.last ≤ other.counters.last

pub given_alike : (one other : Client) → Alike one other → (session number : ℕ) → IsGivenBy one session number → IsGivenBy other session number
given_alike one other alike session number given = λ is.
    let le : number ≤ one.counters.last = given (is ∙ alike.session) in
    omega (arith, le, alike.last)

pub all_given_alike : (one other : Client) → Alike one other → (ups : List moves.Message)
    → AllByRecursion (λ (message : moves.Message). IsGivenBy one message.session message.number) ups
    → AllByRecursion (λ (message : moves.Message). IsGivenBy other message.session message.number) ups
all_given_alike one other alike [] h = tt
all_given_alike one other alike (message ∷ ups) h =
    (given_alike one other alike message.session message.number h.0, all_given_alike one other alike ups h.1)

pub living_alike : (one other : Client) → other.session ≡ one.session → (call : Call)
    → LivesIn one.session call.state call.names → LivesIn other.session call.state call.names
living_alike one other session call h = subst (λ (s : ℕ). LivesIn s call.state call.names) (sym session) h

-- ---- a new session number

-- what was sent is of no new session number
pub none_given : Apart → (w : World) (session number : ℕ) → Reached w → IsNewSession w session
    → AllByRecursion (λ (message : moves.Message). message.session ≡ session → message.number ≤ number) w.ups
none_given apart w session number reached new =
    all_of (λ (message : moves.Message). message.session ≡ session → message.number ≤ number) w.ups
    (λ message among is.
    let owner = apart.of_message w message reached among in
    absurd (new.1 owner.0 (subst (λ (s : ℕ). Owns (w.clients owner.0) s) is owner.1)))
