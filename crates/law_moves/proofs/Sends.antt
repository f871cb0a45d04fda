-- What stays where a client sends one more message, and which names it can be under.
use Rattle.std.proofs.Common.{◌≡◌, ℕ, ◌<◌, List, [], ◌∷◌, Option, Some, inl, inr, sym, ◌⊎◌, ◌∙◌, subst, refl, arith}
use Rattle.std.specs.List.{Contains}
use Rattle.std.proofs.lemmas.List.Elements.{All-contains}
use Rattle.law_moves.specs.Table.{CallId, Text, Name, Message, ServerSession}
use Rattle.law_moves.specs.World.{World, Owns, IsUnder, WasGiven}
use Rattle.law_moves.specs.After.{message_of}
use Rattle.law_moves.specs.Lawful.{IsMadeClient, IsNewNumber, IsBelow}
use Rattle.law_moves.specs.Once.{older_names}
use Rattle.law_moves.proofs.Kept.{Kept, SaltAmong, Dead, Outcomes, Messages, Clients}
use Rattle.law_moves.proofs.Basics.{contains_rest, each_of}

pub some_same : (body same : Text) → Some body ≡ Some same → body ≡ same
some_same body same h = cc

pub older_among : (names : List Name) (name : Name) → Contains (older_names names) name → Contains names name
older_among [] name h = h
older_among (newer ∷ older) name h = contains_rest name newer older h

-- a new number is above each that was given under the session number
pub below_new : (w : World) (client number : ℕ) (message : Message)
    → IsNewNumber w client number → Contains w.ups message → message.session ≡ (w.clients client).present → message.number < number
below_new w client number message new among session =
    All-contains (IsBelow (w.clients client).present number) w.ups message new among session

-- a message with a new number is under no name that was there
pub carries_none : (now : ℕ) (w : World) (client number : ℕ) (body : Option Text) (call : CallId) (name : Name)
    → Kept now w
    → IsNewNumber w client number
    → Contains (w.calls call).names name
    → IsUnder name (message_of (w.clients client) number body)
    → ⊥
carries_none now w client number body call name k new among under =
    let sent = k.names.sent call name among in
    let less : sent.0.number < number = below_new w client number sent.0 new sent.1 (sent.2.0 ∙ sym under.0) in
    let same : sent.0.number ≡ number = sent.2.1 ∙ sym under.1 in
    absurd (omega arith)

pub given_more : (ups : List Message) (new : Message) (session number : ℕ) → WasGiven ups session number → WasGiven (new ∷ ups) session number
given_more ups new session number h = (h.0, contains_rest h.0 new ups h.1, h.2, h.3)

-- a dead name that the new message isn't under stays dead
pub dead_more : (servers : ℕ → ServerSession) (ups : List Message) (new : Message) (name : Name)
    → (IsUnder name new → ⊥) → Dead servers ups name → Dead servers (new ∷ ups) name
dead_more servers ups new name other h unique session = (
  (h unique session).0,
  λ standing.
      elim ((h unique session).1 standing) [
        | inl judged ↦ inl judged
        | inr none ↦
            inr (each_of (λ (m : Message). IsUnder name m → Contains (servers unique).salts m.salt → ⊥) new ups (λ under. absurd (other under)) none)
      ],
)

pub outcomes_more : {now : ℕ} {w : World} (k : Kept now w) (new : Message) → Outcomes w.servers (new ∷ w.ups) w.entries
outcomes_more {w = w} k new =
    record {
      backed = λ unique judged among.
          let old = k.outcomes.backed unique judged among in
          (old.0, contains_rest old.0 new w.ups old.1, old.2, old.3, old.4);
      judged_once = k.outcomes.judged_once;
      forgotten_given = λ unique number among.
          given_more w.ups new (w.servers unique).session number (k.outcomes.forgotten_given unique number among);
      entry_judged = k.outcomes.entry_judged;
      entry_once = k.outcomes.entry_once;
    }

-- the message of a client has a salt of a server session that the client has learnt, or 0
pub messages_more : {now : ℕ} {w : World} (k : Kept now w) (client number : ℕ) (body : Option Text)
    → Messages w.servers (message_of (w.clients client) number body ∷ w.ups)
messages_more {w = w} k client number body =
    each_of (λ (m : Message). ((m.known ≡ []) × (m.salt ≡ 0)) ⊎ SaltAmong w.servers m.known m.salt) (message_of (w.clients client) number body) w.ups
    (k.clients.salted client) k.messages

pub owned_more : {now : ℕ} {w : World} (k : Kept now w) (client number : ℕ) (body : Option Text)
    → IsMadeClient w client
    → (message : Message)
    → Contains (message_of (w.clients client) number body ∷ w.ups) message
    → (owner : ℕ) × Owns (w.clients owner) message.session
owned_more {w = w} k client number body made =
    each_of (λ (m : Message). (owner : ℕ) × Owns (w.clients owner) m.session) (message_of (w.clients client) number body) w.ups
    (client, (made, inl refl)) k.owners.of_message

pub clients_more : {now : ℕ} {w : World} (k : Kept now w) (client number : ℕ) (body : Option Text)
    → IsMadeClient w client → Clients w.clients w.servers (message_of (w.clients client) number body ∷ w.ups)
clients_more {w = w} k client number body made =
    record {
      salted = k.clients.salted;
      learnt = k.clients.learnt;
      bounded = k.clients.bounded;
      knows = λ message other unique among.
          each_of (λ (m : Message). m.session ≡ (w.clients other).present → Contains m.known unique → Contains (w.clients other).learnt unique)
          (message_of (w.clients client) number body) w.ups
          (
          λ present known.
          let same : client ≡ other = k.owners.once client other (w.clients client).present (made, inl refl) (made, inl present) in
          subst (λ c. Contains (w.clients c).learnt unique) same known
          )
          (λ old sent. k.clients.knows old other unique sent) message among;
      unmade = k.clients.unmade;
    }
