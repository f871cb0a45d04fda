-- Where a client's salt comes from, event by event.
use Rattle.std.proofs.Common.{◌≡◌, ◌∙◌, ℕ, Bool, true, false, List, [], ◌∷◌, ◌++◌, fold, Option, None, Some, if◌then◌else◌, refl, subst, sym, ap, append_assoc, append-nil, inl, inr}
use Rattle.std.specs.List.{AllByRecursion, list_any}
use Rattle.std.proofs.lemmas.Bool.{cases_Bool}
use Rattle.envelope.specs.declared.parts.Envelope.{Envelope}
use Rattle.service_tl.specs.ItemOf.{item_of}
use Rattle.service_tl.specs.declared.item.Item.{Item}
use Rattle.service_tl.specs.declared.lists.Message.{Message}
use Rattle.client_rules.specs.Asking.{dropped}
use Rattle.client_rules.specs.Client.{Client, Temporary, at_moment, is_open}
use Rattle.client_rules.specs.Events.{AskSalts, Attach, Drop, End, Event, Flush, Ping, Renew, Run, Submit, Take, Tick, made, run_of, step, unless_fault}
use Rattle.client_rules.specs.Flush.{flush}
use Rattle.client_rules.specs.Sending.{Setting}
use Rattle.client_rules.specs.Taking.{is_for, message_in, messages_of, take, takes_message, without_idle_wish}
use Rattle.law_client.specs.Salts.{CameIn, GoesOn, IsCreation, IsNotice, IsOpenSalt, IsOpeningSalt}
use Rattle.law_client.proofs.Bounded.{drop-keeps, submit-keeps}
use Rattle.law_client.proofs.Keeping.{Keeps}
use Rattle.law_client.proofs.BoundedSending.{Flows, flush-flows}
use Rattle.law_client.proofs.BoundedTaking.{Moves, message-moves}

-- salt and learnt numbers stay
pub record Same (one other : Client) : Type 0 where
  pub learnt : other.learnt ≡ one.learnt
  pub salt : other.salt ≡ one.salt

alike : (one other : Client) → Keeps one other → Same one other
alike one other k = record { learnt = k.learnt; salt = k.salt }

and-one : (events : List Event) (event : Event) → AllByRecursion GoesOn events → GoesOn event → AllByRecursion GoesOn (events ++ event ∷ [])
and-one [] event h is = (is, tt)
and-one (first ∷ events) event h is = (h.0, and-one events event h.1 is)

any-last : (xs : List ℕ) (x : ℕ) → list_any (λ (unique : ℕ). true) (xs ++ x ∷ []) ≡ true
any-last [] x = refl
any-last (y ∷ xs) x = refl

fold-one : {A X : Type 0} (change : A → X → A) (one : A) (xs : List X) (x : X) → fold change one (xs ++ x ∷ []) ≡ change (fold change one xs) x
fold-one change one [] x = refl
fold-one change one (y ∷ xs) x = fold-one change (change one y) xs x

module _ {S : Type 0} (setting : Setting S) (start : Run S) where
  -- the salt of a client behind these events has its source
  pub record Sourced (events : List Event) (client : Client) : Type 0 where
    pub opening : is_open client ≡ false → IsOpeningSalt setting start events client.salt
    pub opened : is_open client ≡ true → IsOpenSalt setting start events client.salt

  same-source : (events : List Event) (one other : Client) → Same one other → Sourced events one → Sourced events other
  same-source events one other same s = record {
    opening = λ is.
        subst (λ (salt : ℕ). IsOpeningSalt setting start events salt) (sym same.salt)
        (s.opening (subst (λ (learnt : List ℕ). list_any (λ (unique : ℕ). true) learnt ≡ false) same.learnt is));
    opened = λ is.
        subst (λ (salt : ℕ). IsOpenSalt setting start events salt) (sym same.salt)
        (s.opened (subst (λ (learnt : List ℕ). list_any (λ (unique : ℕ). true) learnt ≡ true) same.learnt is));
  }

  -- ---- another event came

  later : (P : Item → Client → Type 0) (events : List Event) (event : Event) → GoesOn event → CameIn setting start events P → CameIn setting start (events ++ event ∷ []) P
  later P events event on came = record {
    before = came.before;
    after = came.after ++ event ∷ [];
    now = came.now;
    envelope = came.envelope;
    whole = ap (λ (all : List Event). all ++ event ∷ []) came.whole ∙ append_assoc came.before (Take came.now (Some came.envelope) ∷ came.after) (event ∷ []);
    stays = and-one came.after event came.stays on;
    client = came.client;
    its = came.its;
    looked_at = came.looked_at;
    front = came.front;
    message = came.message;
    rest = came.rest;
    messages = came.messages;
    item = came.item;
  }

  opening-later : (events : List Event) (event : Event) (salt : ℕ) → GoesOn event → IsOpeningSalt setting start events salt → IsOpeningSalt setting start (events ++ event ∷ []) salt
  opening-later events event salt on (inl h) = inl h
  opening-later events event salt on (inr h) = inr (later (IsNotice salt) events event on h)

  open-later : (events : List Event) (event : Event) (salt : ℕ) → GoesOn event → IsOpenSalt setting start events salt → IsOpenSalt setting start (events ++ event ∷ []) salt
  open-later events event salt on (inl h) = inl (later (λ (item : Item) (client : Client). IsCreation salt item) events event on h)
  open-later events event salt on (inr h) = inr (later (IsNotice salt) events event on h)

  source-later : (events : List Event) (event : Event) (client : Client) → GoesOn event → Sourced events client → Sourced (events ++ event ∷ []) client
  source-later events event client on s = record {
    opening = λ is. opening-later events event client.salt on (s.opening is);
    opened = λ is. open-later events event client.salt on (s.opened is);
  }

  quiet : (events : List Event) (event : Event) (one other : Client) → GoesOn event → Same one other → Sourced events one → Sourced (events ++ event ∷ []) other
  quiet events event one other on same s =
      same-source (events ++ event ∷ []) one other same (source-later events event one on s)

  -- ---- a packet came

  module _ (events : List Event) (now : ℕ) (envelope : Envelope) where
    abbrev more : List Event
    more = events ++ Take now (Some envelope) ∷ []

    abbrev ready : Client
    ready = at_moment now (run_of setting start events).client

    abbrev taken : List Message → Client
    taken front = fold (takes_message envelope.number) ready front

    module _ (looked_at : is_for ready envelope ≡ true) where
      came-now : (P : Item → Client → Type 0) (front : List Message) (message : Message) (rest : List Message) → messages_of (message_in envelope) ≡ front ++ message ∷ rest
          → P (item_of message.body) (taken front) → CameIn setting start more P
      came-now P front message rest are holds = record {
        before = events;
        after = [];
        now = now;
        envelope = envelope;
        whole = refl;
        stays = tt;
        client = ready;
        its = refl;
        looked_at = looked_at;
        front = front;
        message = message;
        rest = rest;
        messages = are;
        item = holds;
      }

      moved : (front : List Message) (message : Message) (rest : List Message) (other : Client) → messages_of (message_in envelope) ≡ front ++ message ∷ rest
          → Sourced more (taken front) → Moves (item_of message.body) (taken front) other → Sourced more other
      moved front message rest other are s (inl k) = same-source more (taken front) other (alike (taken front) other k) s
      moved front message rest other are s (inr (inl l)) =
          let known : is_open other ≡ true =
          subst (λ (learnt : List ℕ). list_any (λ (unique : ℕ). true) learnt ≡ true) (sym l.learnt) (any-last (taken front).learnt l.unique) in
          record {
            opening = λ is. absurd (cc (known, is));
            opened = λ is. inl (came-now (λ (item : Item) (client : Client). IsCreation other.salt item) front message rest are l.creation);
          }
      moved front message rest other are s (inr (inr n)) =
          let came = came-now (IsNotice other.salt) front message rest are n.notice in
          record { opening = λ is. inr came; opened = λ is. inr came }

      all-moved : (front rest : List Message) → messages_of (message_in envelope) ≡ front ++ rest → Sourced more (taken front) → Sourced more (taken (front ++ rest))
      all-moved front [] are s = subst (λ (some : List Message). Sourced more (taken some)) (sym (append-nil front)) s
      all-moved front (message ∷ rest) are s =
          let other : Client = takes_message envelope.number (taken front) message in
          let next : Sourced more other = moved front message rest other are s (message-moves envelope.number (taken front) message) in
          let same = append_assoc front (message ∷ []) rest in
          subst (λ (some : List Message). Sourced more (taken some)) same
          (all-moved (front ++ message ∷ []) rest (are ∙ sym same)
          (subst (λ (client : Client). Sourced more client) (sym (fold-one (takes_message envelope.number) ready front message)) next))

    took : Sourced events (run_of setting start events).client → Sourced more (take now envelope (run_of setting start events).client)
    took s =
        let client : Client = (run_of setting start events).client in
        let messages = messages_of (message_in envelope) in
        let first : Sourced more ready = quiet events (Take now (Some envelope)) client ready refl (record { learnt = refl; salt = refl }) s in
        let Goal : Bool → Type 0 = λ b. Sourced more (if b then without_idle_wish (taken messages) else ready) in
        elim (cases_Bool (is_for client envelope)) [
          | inl is ↦ subst Goal (sym is) (same-source more (taken messages) (without_idle_wish (taken messages)) (record { learnt = refl; salt = refl }) (all-moved is [] messages refl first))
          | inr not ↦ subst Goal (sym not) first
        ]

  -- ---- an event

  flow : (events : List Event) (event : Event) (one other : Client) → GoesOn event → Flows one other → Sourced events one → Sourced (events ++ event ∷ []) other
  flow events event one other on h s = quiet events event one other on (record { learnt = h.learnt; salt = h.salt }) s

  stepped : (events : List Event) (event : Event) → Sourced events (run_of setting start events).client
      → Sourced (events ++ event ∷ []) (step setting (run_of setting start events) event).client
  stepped events (Submit body after) s =
      let client : Client = (run_of setting start events).client in
      quiet events (Submit body after) client (unless_fault body after client) refl (alike client (unless_fault body after client) (submit-keeps body after client)) s
  stepped events Attach s = quiet events Attach (run_of setting start events).client (step setting (run_of setting start events) Attach).client refl (record { learnt = refl; salt = refl }) s
  stepped events Tick s = quiet events Tick (run_of setting start events).client (step setting (run_of setting start events) Tick).client refl (record { learnt = refl; salt = refl }) s
  stepped events (Ping id) s = quiet events (Ping id) (run_of setting start events).client (step setting (run_of setting start events) (Ping id)).client refl (record { learnt = refl; salt = refl }) s
  stepped events (AskSalts count) s =
      quiet events (AskSalts count) (run_of setting start events).client (step setting (run_of setting start events) (AskSalts count)).client refl (record { learnt = refl; salt = refl }) s
  stepped events (Drop call) s =
      let client : Client = (run_of setting start events).client in
      quiet events (Drop call) client (dropped call client) refl (alike client (dropped call client) (drop-keeps call client)) s
  stepped events (Flush now) s =
      let run : Run S = run_of setting start events in
      flow events (Flush now) run.client (flush setting now run.client run.draw).client refl (flush-flows setting now run.client run.draw) s
  stepped events (Take now None) s =
      quiet events (Take now None) (run_of setting start events).client (step setting (run_of setting start events) (Take now None)).client refl (record { learnt = refl; salt = refl }) s
  stepped events (Take now (Some envelope)) s = took events now envelope s
  stepped events Renew s = record { opening = λ is. inl refl; opened = λ is. absurd (cc is) }
  stepped events End s = quiet events End (run_of setting start events).client (step setting (run_of setting start events) End).client refl (record { learnt = refl; salt = refl }) s

  pub all-sourced : (front rest : List Event) → Sourced front (run_of setting start front).client → Sourced (front ++ rest) (run_of setting start (front ++ rest)).client
  all-sourced front [] s = subst (λ (some : List Event). Sourced some (run_of setting start some).client) (sym (append-nil front)) s
  all-sourced front (event ∷ rest) s =
      let same = append_assoc front (event ∷ []) rest in
      subst (λ (some : List Event). Sourced some (run_of setting start some).client) same
      (all-sourced (front ++ event ∷ []) rest
      (subst (λ (run : Run S). Sourced (front ++ event ∷ []) run.client) (sym (fold-one (step setting) start front event)) (stepped front event s)))

pub made-sourced : {S : Type 0} (setting : Setting S) (key : ℕ) (temporary : Option Temporary) (draw : S) (events : List Event)
    → Sourced setting (made setting key temporary draw) events (run_of setting (made setting key temporary draw) events).client
made-sourced setting key temporary draw events =
    all-sourced setting (made setting key temporary draw) [] events (record { opening = λ is. inl refl; opened = λ is. absurd (cc is) })
