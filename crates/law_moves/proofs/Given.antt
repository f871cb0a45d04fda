-- What is kept says of the salts and the numbers of messages.
use Rattle.std.proofs.Common.{◌≡◌, ◌≢◌, ℕ, Option, Some, None, ◌⊎◌, inl, inr, sym, refl, ◌∙◌, subst, arith}
use Rattle.std.proofs.lemmas.List.Elements.{All-contains_itself, All-weaker}
use Rattle.std.specs.List.{Contains, All}
use Rattle.law_moves.specs.Table.{Text, Message}
use Rattle.law_moves.specs.Table.Status.{Unmade}
use Rattle.law_moves.specs.Table.Item.{Notice, Result}
use Rattle.law_moves.specs.World.{World, IsName}
use Rattle.law_moves.specs.Lawful.{IsUncalled, MaySay}
use Rattle.law_moves.proofs.Kept.{Kept}
use Rattle.law_moves.proofs.Grows.{made_if_salted}

pub message_salt : {now : ℕ} {w : World} (k : Kept now w) (message : Message)
    → Contains w.ups message
    → (message.salt ≡ 0) ⊎ ((unique : ℕ) × Contains (w.servers unique).salts message.salt × ((w.servers unique).status ≢ Unmade))
message_salt k message among =
    elim (k.messages message among) [
      | inl none ↦ inl none.1
      | inr of ↦ inr (of.0, of.1, made_if_salted k of.0 message.salt of.1)
    ]

pub new_salt : {now : ℕ} {w : World} (k : Kept now w) (salt : ℕ)
    → salt ≢ 0
    → ((unique : ℕ) → Contains (w.servers unique).salts salt → ⊥)
    → All (λ (message : Message). message.salt ≢ salt) w.ups
new_salt {w = w} k salt some none =
    All-weaker (Contains w.ups) (λ (message : Message). message.salt ≢ salt)
    (
    λ message among is.
    elim (message_salt k message among) [
      | inl zero_salt ↦ some (sym is ∙ zero_salt)
      | inr of ↦ none of.0 (subst (Contains (w.servers of.0).salts) is of.1)
    ]
    ) w.ups (All-contains_itself w.ups)

-- a number that was given to no call is no name's
pub never_a_name : {now : ℕ} {w : World} (k : Kept now w) (message : Message)
    → Contains w.ups message → message.call ≡ None → IsName w.calls message.session message.number → ⊥
never_a_name {w = w} k message among none name =
    let some : message.call ≡ Some (w.calls name.0).body =
    k.bodies.of_name name.0 name.1 message name.2 among (sym name.3, sym name.4) in
    cc

one_call_of : {now : ℕ} {w : World} (k : Kept now w) (one other : Message)
    → Contains w.ups one
    → Contains w.ups other
    → one.session ≡ other.session
    → one.number ≡ other.number
    → (call : Option Text)
    → other.call ≡ call
    → one.call ≡ call
one_call_of {w = w} k one other at_one at_other session number (Some body) is =
    let named = k.bodies.of_message other body at_other is in
    k.bodies.of_name named.0 named.1 one named.2 at_one (session ∙ named.3.0, number ∙ named.3.1)
    ∙ sym (k.bodies.of_name named.0 named.1 other named.2 at_other named.3)
    ∙ is
one_call_of {w = w} k one other at_one at_other session number None is = none one.call refl
  where
    none : (call : Option Text) → one.call ≡ call → one.call ≡ None
    none None same = same
    none (Some body) same =
        let named = k.bodies.of_message one body at_one same in
        let some : other.call ≡ Some (w.calls named.0).body =
        k.bodies.of_name named.0 named.1 other named.2 at_other (sym session ∙ named.3.0, sym number ∙ named.3.1) in
        let never : Some (w.calls named.0).body ≡ None = sym some ∙ is in
        absurd cc

pub one_call : {now : ℕ} {w : World} (k : Kept now w) (one other : Message)
    → Contains w.ups one
    → Contains w.ups other
    → one.session ≡ other.session
    → one.number ≡ other.number
    → one.call ≡ other.call
one_call k one other at_one at_other session number = one_call_of k one other at_one at_other session number other.call refl

given_to_none : {now : ℕ} {w : World} (k : Kept now w) (unique : ℕ) (message : Message)
    → Contains w.ups message
    → message.session ≡ (w.servers unique).session
    → message.call ≡ None
    → IsUncalled w (w.servers unique).session message.number
given_to_none {w = w} k unique message among session none = (
  (message, among, session, omega arith),
  λ name. never_a_name k message among none (subst (λ s. IsName w.calls s message.number) (sym session) name),
)

pub any_result : {now : ℕ} {w : World} (k : Kept now w) (unique : ℕ) (message : Message) (reply : Text)
    → Contains w.ups message
    → message.session ≡ (w.servers unique).session
    → message.call ≡ None
    → MaySay w unique (Result message.number reply)
any_result {w = w} k unique message reply among session none =
    inr (given_to_none k unique message among session none)

pub any_notice : {now : ℕ} {w : World} (k : Kept now w) (unique : ℕ) (message : Message) (code : ℕ)
    → Contains w.ups message
    → message.session ≡ (w.servers unique).session
    → message.call ≡ None
    → MaySay w unique (Notice message.number code)
any_notice k unique message code among session none = inr (inr (given_to_none k unique message among session none))
