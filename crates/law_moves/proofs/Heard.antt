-- A packet that is heard keeps all: what it says is so, and a notice in it is from the one that could have taken the name.
use Rattle.std.proofs.Common.{◌≡◌, ◌≢◌, ℕ, ◌<◌, ◌==◌, ◌&&◌, Bool, true, if◌then◌else◌, List, [], ◌∷◌, ◌⊎◌, inl, inr, sym, refl, ap, ◌∙◌, subst, subst₂}
use Rattle.std.specs.List.{Contains, list_any}
use Rattle.law_moves.specs.Table.{CallId, Text, State, Name, Client, Message, ServerSession, Entry}
use Rattle.law_moves.specs.Table.Cause.{Forgotten}
use Rattle.law_moves.specs.Table.State.{Queued, Sent, Held, Done, Refused, Unknown}
use Rattle.law_moves.specs.Table.Status.{Unmade}
use Rattle.law_moves.specs.Table.Outcome.{Noticed}
use Rattle.law_moves.specs.Table.Item.{Result, Notice}
use Rattle.law_moves.specs.World.{World}
use Rattle.law_moves.specs.After.{is_sent, is_newest, after_settled, state_noticed, after_salt}
use Rattle.law_moves.specs.Lawful.{MaySay, IsUncalled}
use Rattle.law_moves.specs.Once.{older_names, OnLast, WasForgotten}
use Rattle.law_moves.proofs.Kept.{Kept, SaltAmong, Dead, AllDead, Lives, Fits}
use Rattle.law_moves.proofs.Basics.{contains_first, contains_rest, contains_cases, choice}
use Rattle.std.proofs.lemmas.Bool.{and_parts, cond_both, or_cases, eqb-true}
use Rattle.law_moves.proofs.Clients.{fits_client}
use Rattle.law_moves.proofs.Restated.{kept_restated}
use Rattle.law_moves.proofs.Taker.{dead_if_refused}

-- The tests

pub sent_if : (state : State) → is_sent state ≡ true → state ≡ Sent
sent_if Queued h = cc
sent_if Sent h = refl
sent_if Held h = cc
sent_if (Done reply) h = cc
sent_if (Refused code) h = cc
sent_if (Unknown cause) h = cc

-- the newest name has this session number and this number
pub record Newest (names : List Name) (session number : ℕ) : Type 0 where
  pub name : Name
  pub older : List Name
  pub is : names ≡ name ∷ older
  pub of_session : name.session ≡ session
  pub is_number : name.number ≡ number

newest_if : (names : List Name) (session number : ℕ) → is_newest names session number ≡ true → Newest names session number
newest_if [] session number h = absurd cc
newest_if (name ∷ older) session number h =
    let parts = and_parts (name.session == session) (name.number == number) h in
    record {
      name = name;
      older = older;
      is = refl;
      of_session = eqb-true name.session session parts.0;
      is_number = eqb-true name.number number parts.1;
    }

pub among_if : (n : ℕ) (list : List ℕ) → list_any (λ m. m == n) list ≡ true → Contains list n
among_if n [] h = absurd cc
among_if n (m ∷ list) h =
    elim (or_cases (m == n) (list_any (λ m. m == n) list) h) [
      | inl same ↦ subst (Contains (m ∷ list)) (eqb-true m n same) (contains_first m list)
      | inr later ↦ contains_rest n m list (among_if n list later)
    ]

-- A call that gets a new state

among_newest : (names : List Name) (name : Name) (older : List Name) → names ≡ name ∷ older → Contains names name
among_newest names name older is = subst (λ list. Contains list name) (sym is) (contains_first name older)

older_is : (names : List Name) (name : Name) (older : List Name) → names ≡ name ∷ older → older_names names ≡ older
older_is names name older is = ap older_names is

pub settled : (now : ℕ) (w : World) (client number : ℕ) (state : State)
    → Kept now w
    → (
    (call : CallId)
    → call.client ≡ client
    → (w.calls call).state ≡ Sent
    → Newest (w.calls call).names (w.clients client).present number
    → Fits (w.clients call.client) w.servers w.ups w.entries (w.calls call).names state
    )
    → Kept now (after_settled w client number state)
settled now w client number state k fits =
    let later : World = after_settled w client number state in
    let test : CallId → Bool = λ call. is_sent (w.calls call).state && is_newest (w.calls call).names (w.clients client).present number in
    kept_restated now w w.clients (λ call. (later.calls call).state) k k.owners k.clients
    (
    λ call is.
    choice (λ (s : State). s ≡ Refused 0) call.client client (if test call then state else (w.calls call).state) (w.calls call).state
    (
    λ same.
    cond_both (test call) state (w.calls call).state (λ s. s ≡ Refused 0)
    (
    λ passes.
    let sent : (w.calls call).state ≡ Sent = sent_if (w.calls call).state (and_parts (is_sent (w.calls call).state) _ passes).0 in
    let never : Refused 0 ≡ Sent = sym is ∙ sent in
    absurd cc
    )
    (λ fails. is)
    )
    (λ differs. is)
    )
    (
    λ call.
    choice (Fits (w.clients call.client) w.servers w.ups w.entries (w.calls call).names) call.client client
    (if test call then state else (w.calls call).state) (w.calls call).state
    (
    λ same.
    cond_both (test call) state (w.calls call).state (Fits (w.clients call.client) w.servers w.ups w.entries (w.calls call).names)
    (
    λ passes.
    let parts = and_parts (is_sent (w.calls call).state) (is_newest (w.calls call).names (w.clients client).present number) passes in
    fits call same (sent_if (w.calls call).state parts.0) (newest_if (w.calls call).names (w.clients client).present number parts.1)
    )
    (λ fails. k.calls.fits call)
    )
    (λ differs. k.calls.fits call)
    )

-- what is known of a packet's server session when an item is taken
pub record Takes (now : ℕ) (w : World) (client unique : ℕ) : Type 0 where
  pub kept : Kept now w
  pub session : (w.servers unique).session ≡ (w.clients client).present
  pub made : (w.servers unique).status ≢ Unmade

-- what is said of a number that was given to no call changes none
uncalled : (now : ℕ) (w : World) (client unique number : ℕ) (state : State)
    → Takes now w client unique
    → IsUncalled w (w.servers unique).session number
    → Kept now (after_settled w client number state)
uncalled now w client unique number state t none =
    settled now w client number state t.kept (
    λ call mine sent newest.
    absurd (
    none.1 (
      call,
      newest.name,
      among_newest (w.calls call).names newest.name newest.older newest.is,
      newest.of_session ∙ sym t.session,
      newest.is_number,
    )
    )
    )

-- a result
pub resulted : (now : ℕ) (w : World) (client unique number : ℕ) (reply : Text)
    → Takes now w client unique
    → MaySay w unique (Result number reply)
    → Kept now (after_settled w client number (Done reply))
resulted now w client unique number reply t (inl has) =
    settled now w client number (Done reply) t.kept (
    λ call mine sent newest. (
      has.0,
      has.1,
      (
        newest.name,
        among_newest (w.calls call).names newest.name newest.older newest.is,
        (ap (λ u. (w.servers u).session) has.2 ∙ t.session ∙ sym newest.of_session, has.3 ∙ sym newest.is_number),
      ),
      has.4,
    )
    )
resulted now w client unique number reply t (inr none) = uncalled now w client unique number (Done reply) t none

-- the living name of a call of the client, whose server session is learnt, was sent first while that one stood
pub lives : (now : ℕ) (w : World) (client : ℕ) (call : CallId)
    → Kept now w
    → call.client ≡ client
    → (w.calls call).state ≡ Sent
    → (name : Name) (older : List Name)
    → (w.calls call).names ≡ name ∷ older
    → Lives (w.clients client) name
lives now w client call k mine sent name older is =
    let fits : Fits (w.clients client) w.servers w.ups w.entries (name ∷ older) Sent =
    subst (λ list. Fits (w.clients client) w.servers w.ups w.entries list Sent) is (
    subst₂ (λ c (s : State). Fits (w.clients c) w.servers w.ups w.entries (w.calls call).names s) mine sent (k.calls.fits call)
    ) in
    fits

pub made_before_living : (now : ℕ) (w : World) (client : ℕ) (call : CallId) (unique : ℕ)
    → Kept now w
    → call.client ≡ client
    → (w.calls call).state ≡ Sent
    → (name : Name) (older : List Name)
    → (w.calls call).names ≡ name ∷ older
    → Contains (w.clients client).learnt unique
    → (w.servers unique).made < name.first
made_before_living now w client call unique k mine sent name older is learnt =
    let live = lives now w client call k mine sent name older is in
    (k.takers.known call name unique (among_newest (w.calls call).names name older is) (subst (λ list. Contains list unique) (sym live.1) learnt)).0

-- a name that its learnt server session has noticed is dead, and so are all names of the call
noticed_dead : (now : ℕ) (w : World) (client unique number code : ℕ)
    → Takes now w client unique
    → Contains (w.clients client).learnt unique
    → Contains (w.servers unique).judged (record { number = number; outcome = Noticed code })
    → (call : CallId)
    → call.client ≡ client
    → (w.calls call).state ≡ Sent
    → Newest (w.calls call).names (w.clients client).present number
    → AllDead w.servers w.ups (w.calls call).names
noticed_dead now w client unique number code t learnt noticed call mine sent newest name among =
    let k = t.kept in
    elim (contains_cases name newest.name newest.older (subst (λ list. Contains list name) newest.is among)) [
      | inl same ↦
          let here : Contains (w.calls call).names newest.name = among_newest (w.calls call).names newest.name newest.older newest.is in
          let of : (w.servers unique).session ≡ newest.name.session = t.session ∙ sym newest.of_session in
          subst (Dead w.servers w.ups) (sym same) (
          dead_if_refused now w call newest.name unique (record { number = number; outcome = Noticed code }) k here of (
            made_before_living now w client call unique k mine sent newest.name newest.older newest.is learnt,
            k.takers.judged call newest.name unique (record { number = number; outcome = Noticed code }) here of noticed (sym newest.is_number),
          ) noticed (sym newest.is_number) (λ accepted. accepted)
          )
      | inr old ↦
          k.takers.replaced call name (subst (λ list. Contains list name) (sym (older_is (w.calls call).names newest.name newest.older newest.is)) old)
    ]

-- what a notice other than 20 makes of a call whose names are dead
fits_noticed : (client : Client) (servers : ℕ → ServerSession) (ups : List Message) (entries : List Entry) (names : List Name) (code : ℕ)
    → code ≢ 20
    → AllDead servers ups names
    → Fits client servers ups entries names (state_noticed code)
fits_noticed client servers ups entries names code differs dead =
    choice (Fits client servers ups entries names) code 16 Queued _ (λ is. dead) (
    λ not16. choice (Fits client servers ups entries names) code 48 Queued _ (λ is. dead) (
    λ not48. choice (Fits client servers ups entries names) code 17 Held _ (λ is. dead) (
    λ not17. choice (Fits client servers ups entries names) code 20 (Unknown Forgotten) (Refused code) (λ is. absurd (differs is)) (λ not20. dead)
    )
    )
    )

pub noticed : (now : ℕ) (w : World) (client unique number code : ℕ)
    → Takes now w client unique
    → Contains (w.clients client).learnt unique
    → MaySay w unique (Notice number code)
    → Kept now (after_settled w client number (state_noticed code))
noticed now w client unique number code t learnt (inl judged) =
    let back = t.kept.outcomes.backed unique (record { number = number; outcome = Noticed code }) judged in
    settled now w client number (state_noticed code) t.kept (
    λ call mine sent newest.
    fits_noticed (w.clients call.client) w.servers w.ups w.entries (w.calls call).names code back.4 (
    noticed_dead now w client unique number code t learnt judged call mine sent newest
    )
    )
noticed now w client unique number code t learnt (inr (inr none)) = uncalled now w client unique number (state_noticed code) t none
noticed now w client unique number code t learnt (inr (inl forgotten)) =
    settled now w client number (state_noticed code) t.kept (
    λ call mine sent newest.
    subst (λ c. Fits (w.clients call.client) w.servers w.ups w.entries (w.calls call).names (state_noticed c)) (sym forgotten.0) (
    subst (OnLast (WasForgotten w.servers)) (sym newest.is) (
      unique,
      t.session ∙ sym newest.of_session,
      subst (λ n. Contains (w.servers unique).forgotten n) (sym newest.is_number) forgotten.1,
    )
    )
    )

-- a salt that is taken over
pub salt_taken : (now : ℕ) (w : World) (client unique salt : ℕ) (takes : Bool)
    → Kept now w
    → Contains (w.clients client).learnt unique
    → Contains (w.servers unique).salts salt
    → Kept now (after_salt w client salt takes)
salt_taken now w client unique salt takes k learnt of =
    let later : World = after_salt w client salt takes in
    kept_restated now w later.clients (λ call. (w.calls call).state) k k.owners
    (
    record {
      salted = λ other.
          cond_both ((other == client) && takes) salt (w.clients other).salt
          (λ s. (((w.clients other).learnt ≡ []) × (s ≡ 0)) ⊎ SaltAmong w.servers (w.clients other).learnt s)
          (
          λ passes.
          let same : other ≡ client = eqb-true other client (and_parts (other == client) takes passes).0 in
          inr (unique, of, subst (λ c. Contains (w.clients c).learnt unique) (sym same) learnt)
          )
          (λ fails. k.clients.salted other);
      learnt = k.clients.learnt;
      bounded = k.clients.bounded;
      knows = k.clients.knows;
      unmade = k.clients.unmade;
    }
    )
    (λ call is. is)
    (
    λ call.
    fits_client (w.clients call.client) (later.clients call.client) w.servers w.ups w.entries (w.calls call).names
    refl refl (λ some among. among) (λ ended. ended) (w.calls call).state (k.calls.fits call)
    )
