-- What stays where a client takes a new session number.
use Rattle.std.proofs.Common.{◌≡◌, ◌≢◌, ℕ, ◌≤◌, false, [], length, ◌⊎◌, inl, inr, sym, ap, ◌∙◌, subst, zero-le}
use Rattle.std.proofs.lemmas.Bool.{cases_eq}
use Rattle.std.specs.List.{Contains}
use Rattle.law_moves.specs.Table.{Client, Message}
use Rattle.law_moves.specs.Table.Status.{Unmade}
use Rattle.law_moves.specs.World.{World, Owns}
use Rattle.law_moves.specs.After.{LEARNT_MAX}
use Rattle.law_moves.specs.Lawful.{IsNewSession}
use Rattle.law_moves.proofs.Kept.{Kept, SaltAmong, Owners, Clients}
use Rattle.law_moves.proofs.Basics.{empty}

-- one client has a new session number and salt 0, and has learnt nothing; the others are as they were
pub record TakesSession (w : World) (later : ℕ → Client) (client session : ℕ) : Type 0 where
  pub others : (other : ℕ) → (other ≡ client → ⊥) → later other ≡ w.clients other
  pub present : (later client).present ≡ session
  pub learnt : (later client).learnt ≡ []
  pub salt : (later client).salt ≡ 0
  pub owned : (other some : ℕ) → Owns (w.clients other) some → Owns (later other) some
  pub owned_before : (other some : ℕ)
      → Owns (later other) some → ((other ≡ client) × (some ≡ session)) ⊎ Owns (w.clients other) some

-- what holds of the new client and held of every other holds of each
each_client : {w : World} {later : ℕ → Client} {client session : ℕ} (P : Client → Type 0)
    → TakesSession w later client session
    → P (later client)
    → (other : ℕ)
    → P (w.clients other)
    → P (later other)
each_client {later = later} {client = client} P t new other old =
    elim (cases_eq other client) [
      | inl same ↦ subst (λ c. P (later c)) (sym same) new
      | inr differs ↦ subst P (sym (t.others other differs)) old
    ]

-- no message was made under the new session number
knows_still : {now : ℕ} {w : World} {later : ℕ → Client} {client session : ℕ} (k : Kept now w)
    → TakesSession w later client session
    → IsNewSession w session
    → (message : Message) (other unique : ℕ)
    → Contains w.ups message
    → message.session ≡ (later other).present
    → Contains message.known unique
    → Contains (later other).learnt unique
knows_still {w = w} {later = later} {client = client} {session = session} k t new message other unique among present known =
    elim (cases_eq other client) [
      | inl same ↦
          let is : message.session ≡ session = present ∙ ap (λ c. (later c).present) same ∙ t.present in
          let old = k.owners.of_message message among in
          absurd (new.1 old.0 (subst (λ s. Owns (w.clients old.0) s) is old.1))
      | inr differs ↦
          let is = t.others other differs in
          subst (λ (c : Client). Contains c.learnt unique) (sym is) (
          k.clients.knows message other unique among (present ∙ ap (λ (c : Client). c.present) is) known
          )
    ]

pub clients_with_session : {now : ℕ} {w : World} {later : ℕ → Client} {client session : ℕ} (k : Kept now w)
    → TakesSession w later client session → IsNewSession w session → Clients later w.servers w.ups
clients_with_session {w = w} {later = later} {client = client} k t new =
    record {
      salted = λ other.
          each_client (λ (c : Client). ((c.learnt ≡ []) × (c.salt ≡ 0)) ⊎ SaltAmong w.servers c.learnt c.salt) t (inl (t.learnt, t.salt)) other
          (k.clients.salted other);
      learnt = λ other unique.
          each_client (λ (c : Client). Contains c.learnt unique → ((w.servers unique).session ≡ c.present) × ((w.servers unique).status ≢ Unmade)) t
          (λ among. absurd (empty unique (later client).learnt t.learnt among)) other (k.clients.learnt other unique);
      bounded = λ other.
          each_client (λ (c : Client). length c.learnt ≤ LEARNT_MAX) t (subst (λ list. length list ≤ LEARNT_MAX) (sym t.learnt) zero-le) other
          (k.clients.bounded other);
      knows = knows_still k t new;
      unmade = λ other.
          each_client (λ (c : Client). c.present ≡ 0 → (c.former ≡ []) × (c.ended ≡ false)) t
          (λ none. absurd (new.0 (sym t.present ∙ none))) other (k.clients.unmade other);
    }

-- the new session number had no owner
pub owners_with_session : {now : ℕ} {w : World} {later : ℕ → Client} {client session : ℕ} (k : Kept now w)
    → TakesSession w later client session
    → IsNewSession w session
    → Owners (λ other some. Owns (later other) some) w.ups (λ call. (w.calls call).names)
owners_with_session {w = w} k t new =
    record {
      once = λ one other some of_one of_other.
          elim (t.owned_before one some of_one) [
            | inl first ↦
                elim (t.owned_before other some of_other) [
                  | inl second ↦ first.0 ∙ sym second.0
                  | inr old ↦ absurd (new.1 other (subst (λ s. Owns (w.clients other) s) first.1 old))
                ]
            | inr old ↦
                elim (t.owned_before other some of_other) [
                  | inl second ↦ absurd (new.1 one (subst (λ s. Owns (w.clients one) s) second.1 old))
                  | inr too ↦ k.owners.once one other some old too
                ]
          ];
      of_message = λ message among. let old = k.owners.of_message message among in (old.0, t.owned old.0 message.session old.1);
      of_name = λ call name among. t.owned call.client name.session (k.owners.of_name call name among);
    }
