-- What a part of a packet up, and an item that is heard, make of a world.
use Rattle.std.proofs.Common.{◌≡◌, ◌≢◌, ℕ, ◌<◌, ◌≤◌, ◌==◌, Bool, true, false, ◌&&◌, if◌then◌else◌, List, [], ◌∷◌, length, inl, inr, refl, ap, ◌∙◌, eq-eqb, ne_eqb}
use Rattle.std.proofs.lemmas.Bool.{cases_Bool, cases_eq, lt-ltb, le-ltb}
use Rattle.std.specs.List.{Contains, list_any}
use Rattle.law_moves.specs.Table.{CallId, State, Name, Item, call_at}
use Rattle.law_moves.specs.Table.State.{Queued, Sent, Held, Done, Refused, Unknown}
use Rattle.law_moves.specs.World.{World}
use Rattle.law_moves.specs.Move.Part.{First}
use Rattle.law_moves.specs.After.{is_sent, after_part, after_settled, after_learnt, end_client, learn, after_heard, after_items, LEARNT_MAX}
use Rattle.law_moves.proofs.Basics.{cases_call}
use Rattle.law_moves.proofs.ClientTests.{any_of}
use Rattle.law_moves.proofs.Heard.{among_if}

pub first_others : (w : World) (client place number : ℕ) (call : CallId)
    → call ≢ call_at client place → (after_part w client (First place number)).calls call ≡ w.calls call
first_others w client place number call differs =
    elim (cases_call call (call_at client place)) [ inl is ↦ absurd (differs is.same) | inr is ↦ rw is.fails refl ]

pub learnt_already : (w : World) (client unique salt : ℕ)
    → Contains (w.clients client).learnt unique → learn w client unique salt ≡ w
learnt_already w client unique salt among = rw (any_of (w.clients client).learnt unique among) refl

-- the test fails of a number that isn't learnt
fresh : (list : List ℕ) (unique : ℕ) → (Contains list unique → ⊥) → list_any (λ known. known == unique) list ≡ false
fresh list unique none =
    elim (cases_Bool (list_any (λ known. known == unique) list)) [
      | inl passes ↦ absurd (none (among_if unique list passes))
      | inr fails ↦ fails
    ]

pub learnt_new : (w : World) (client unique salt : ℕ)
    → (Contains (w.clients client).learnt unique → ⊥)
    → length (w.clients client).learnt < LEARNT_MAX
    → learn w client unique salt ≡ after_learnt w client unique salt
learnt_new w client unique salt none room =
    rw (fresh (w.clients client).learnt unique none, lt-ltb (length (w.clients client).learnt) LEARNT_MAX room) refl

pub learnt_full : (w : World) (client unique salt : ℕ)
    → (Contains (w.clients client).learnt unique → ⊥)
    → LEARNT_MAX ≤ length (w.clients client).learnt
    → learn w client unique salt ≡ end_client w client
learnt_full w client unique salt none full =
    rw (fresh (w.clients client).learnt unique none, le-ltb (length (w.clients client).learnt) LEARNT_MAX full) refl

pub heard_by_ended : (w : World) (client : ℕ) (item : Item) (takes : Bool) → (w.clients client).ended ≡ true → after_heard w client item takes ≡ w
heard_by_ended w client item takes ended = rw ended refl

pub ended_leaves : (w : World) (client : ℕ) (items : List Item) (takes : List Bool)
    → (w.clients client).ended ≡ true → after_items w client items takes ≡ w
ended_leaves w client [] takes ended = refl
ended_leaves w client (item ∷ items) [] ended =
    ap (λ (v : World). after_items v client items []) (heard_by_ended w client item false ended) ∙ ended_leaves w client items [] ended
ended_leaves w client (item ∷ items) (take ∷ takes) ended =
    ap (λ (v : World). after_items v client items takes) (heard_by_ended w client item take ended) ∙ ended_leaves w client items takes ended

pub settles : (w : World) (client number : ℕ) (state : State) (call : CallId) (name : Name) (older : List Name)
    → call.client ≡ client
    → (w.calls call).state ≡ Sent
    → (w.calls call).names ≡ name ∷ older
    → name.session ≡ (w.clients client).present
    → name.number ≡ number
    → (after_settled w client number state).calls call ≡ record (w.calls call) { state = state }
settles w client number state call name older mine sent names session is =
    rw (
      eq-eqb call.client client mine,
      sent,
      names,
      eq-eqb name.session (w.clients client).present session,
      eq-eqb name.number number is,
    ) refl

not_sent : (state : State) → state ≢ Sent → is_sent state ≡ false
not_sent Queued differs = refl
not_sent Sent differs = absurd (differs refl)
not_sent Held differs = refl
not_sent (Done reply) differs = refl
not_sent (Refused code) differs = refl
not_sent (Unknown cause) differs = refl

pub leaves_unsent : (w : World) (client number : ℕ) (state : State) (call : CallId)
    → (w.calls call).state ≢ Sent → (after_settled w client number state).calls call ≡ w.calls call
leaves_unsent w client number state call differs =
    elim (cases_eq call.client client) [
      | inl same ↦ rw (eq-eqb call.client client same, not_sent (w.calls call).state differs) refl
      | inr other ↦ rw (ne_eqb call.client client other) refl
    ]

pub learnt_unsent : (w : World) (client unique salt : ℕ) (call : CallId)
    → (w.calls call).state ≢ Sent → (after_learnt w client unique salt).calls call ≡ w.calls call
learnt_unsent w client unique salt call differs =
    elim (cases_eq call.client client) [
      | inl same ↦ rw (eq-eqb call.client client same, not_sent (w.calls call).state differs) refl
      | inr other ↦ rw (ne_eqb call.client client other) refl
    ]

-- a call stays whose newest name isn't the one
unnamed : (state new : State) (test : Bool) → test ≡ false → (if is_sent state && test then new else state) ≡ state
unnamed state new test fails =
    elim (cases_Bool (is_sent state)) [ inl sent ↦ rw (sent, fails) refl | inr unsent ↦ rw unsent refl ]

another : (name : Name) (session number : ℕ)
    → (name.session ≡ session → name.number ≢ number) → (name.session == session) && (name.number == number) ≡ false
another name session number differs =
    elim (cases_eq name.session session) [
      | inl same ↦ rw (eq-eqb name.session session same) (ne_eqb name.number number (differs same))
      | inr other ↦ rw (ne_eqb name.session session other) refl
    ]

pub leaves_others : (w : World) (client number : ℕ) (state : State) (call : CallId) (name : Name) (older : List Name)
    → (w.calls call).names ≡ name ∷ older
    → (name.session ≡ (w.clients client).present → name.number ≢ number)
    → (after_settled w client number state).calls call ≡ w.calls call
leaves_others w client number state call name older names differs =
    let stays = unnamed (w.calls call).state state _ (another name (w.clients client).present number differs) in
    elim (cases_eq call.client client) [
      | inl same ↦ rw (eq-eqb call.client client same, names, stays) refl
      | inr other ↦ rw (ne_eqb call.client client other) refl
    ]
