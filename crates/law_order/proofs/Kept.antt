-- What changes of a client leave of the numbers that it gave, and what one number more adds.
use Rattle.std.proofs.Common.{◌≡◌, ◌∙◌, ℕ, ◌<◌, ◌≤◌, Bool, Option, Some, None, List, [], ◌∷◌, ◌++◌, map, ap, sym, subst, refl, arith, inl, inr}
use Rattle.std.specs.Prelude.{IfSome, slice_get}
use Rattle.std.specs.List.{AllByRecursion, Contains}
use Rattle.std.proofs.lemmas.List.Elements.{Contains-append_left, Contains-push_cases}
use Rattle.service_tl.specs.declared.lists.Message.{Message}
use Rattle.call_table.specs.declared.call.Flags.{Flags}
use Rattle.call_table.specs.declared.call.Fate.{Fate}
use Rattle.call_table.specs.declared.call.Fate.TheVariants as fate
use Rattle.call_table.specs.declared.call.Living.{Living}
use Rattle.call_table.specs.Table.{Call, Name, State, changed_at, flagged, living_name, living_name_in, sent, sent_again, settled, state_after, with_salt}
use Rattle.call_table.specs.Table as table
use Rattle.client_rules.specs.Client.{Asked, Binding, Bound, Client, Held, Needed, Refused, Temporary, after_message, calls_of, numbered, with_calls}
use Rattle.client_rules.specs.Filling.{body_behind}
use Rattle.client_rules.specs.Flush.{message_behind}
use Rattle.law_order.specs.Given.{AreOnce, HasGiven, IsAskedAmong, IsPlain, LivesAmong}
use Rattle.law_order.proofs.Lists.{all-map, all-weaker, none-some, some-same}
use Rattle.law_order.proofs.Places.{all-changed}

-- a session number, and those before it
pub record Line : Type 0 where
  pub present : ℕ
  pub former : List ℕ

abbrev pub line_of : Client → Line
line_of client = record { present = client.session; former = client.former }

-- what it has, in a session of this number, behind those before it
pub record Has (session : Line) (given : List Message) (client : Client) : Type 0 where
  pub once : AreOnce given
  pub within : (message : Message) → Contains given message → message.number ≤ client.counters.last
  pub living : AllByRecursion (LivesAmong given) (calls_of client)
  pub asked : IfSome client.temporary (λ temporary. IsAskedAmong given temporary.binding)
  pub same : line_of client ≡ session

pub has-now : (given : List Message) (client : Client) → HasGiven given client → Has (line_of client) given client
has-now given client h = record { once = h.once; within = h.within; living = h.living; asked = h.asked; same = refl }

pub has-given : (session : Line) (given : List Message) (client : Client) → Has session given client → HasGiven given client
has-given session given client h = record { once = h.once; within = h.within; living = h.living; asked = h.asked }

-- ---- one call

never-lives : (given : List Message) (body : List ℕ) (fate : Fate) (names : List Name) (message : Message)
    → message_behind body (living_name_in (state_after fate) names) ≡ Some message → Contains given message
never-lives given body fate.Queue names message is = absurd (none-some message is)
never-lives given body fate.Hold names message is = absurd (none-some message is)
never-lives given body (fate.Done bytes) names message is = absurd (none-some message is)
never-lives given body (fate.Refused code) names message is = absurd (none-some message is)
never-lives given body (fate.Unknown cause) names message is = absurd (none-some message is)

pub settled-lives : (given : List Message) (fate : Fate) (call : Call) → IsPlain call.body → LivesAmong given (settled fate call)
settled-lives given fate call plain = (plain, never-lives given call.body fate call.names)

salted-same : (body : List ℕ) (salt : ℕ) (state : State) (names : List Name)
    → message_behind body (living_name_in state (with_salt salt names)) ≡ message_behind body (living_name_in state names)
salted-same body salt table.Sent [] = refl
salted-same body salt table.Sent (name ∷ names) = refl
salted-same body salt table.Queued names = refl
salted-same body salt table.Held names = refl
salted-same body salt (table.Done reply) names = refl
salted-same body salt (table.Refused code) names = refl
salted-same body salt (table.Unknown cause) names = refl

pub again-lives : (given : List Message) (salt : ℕ) (flags : Flags) (call : Call) → LivesAmong given call → LivesAmong given (sent_again salt (flagged flags call))
again-lives given salt flags call lives = (lives.0, λ message is. lives.1 message (sym (salted-same call.body salt call.state call.names) ∙ is))

pub sent-lives : (given : List Message) (session salt : ℕ) (living : Living) (call : Call) → IsPlain call.body
    → Contains given (record { number = living.number; seq = living.seq; body = body_behind living.wrap call.body }) → LivesAmong given (sent session living salt call)
sent-lives given session salt living call plain among =
    let one : Message = record { number = living.number; seq = living.seq; body = body_behind living.wrap call.body } in
    (plain, λ message is. subst (Contains given) (some-same one message is) among)

more-lives : (given more : List Message) (calls : List Call) → AllByRecursion (LivesAmong given) calls → AllByRecursion (LivesAmong (given ++ more)) calls
more-lives given more calls all =
    all-weaker (LivesAmong given) (LivesAmong (given ++ more)) calls (λ call lives. (lives.0, λ message is. Contains-append_left given more message (lives.1 message is))) all

-- ---- the binding

more-asked : (given more : List Message) (binding : Binding) → IsAskedAmong given binding → IsAskedAmong (given ++ more) binding
more-asked given more Needed asked = tt
more-asked given more (Asked message) asked = (asked.0, Contains-append_left given more message asked.1)
more-asked given more Held asked = tt
more-asked given more Bound asked = tt
more-asked given more (Refused code) asked = tt

more-temporary : (given more : List Message) (temporary : Option Temporary) → IfSome temporary (λ temporary. IsAskedAmong given temporary.binding)
    → IfSome temporary (λ temporary. IsAskedAmong (given ++ more) temporary.binding)
more-temporary given more None asked = tt
more-temporary given more (Some temporary) asked = more-asked given more temporary.binding asked

-- ---- calls

pub changed-given : (session : Line) (given : List Message) (place : ℕ) (change : Call → Call) (client : Client)
    → ((call : Call) → slice_get (calls_of client) place ≡ Some call → LivesAmong given call → LivesAmong given (change call))
    → Has session given client → Has session given (with_calls (changed_at place change (calls_of client)) client)
changed-given session given place change client so h =
    record { once = h.once; within = h.within; living = all-changed (LivesAmong given) place change (calls_of client) so h.living; asked = h.asked; same = h.same }

pub mapped-given : (session : Line) (given : List Message) (change : Call → Call) (client : Client) → ((call : Call) → LivesAmong given call → LivesAmong given (change call))
    → Has session given client → Has session given (with_calls (map change (calls_of client)) client)
mapped-given session given change client so h =
    record { once = h.once; within = h.within; living = all-map (LivesAmong given) (LivesAmong given) change (calls_of client) so h.living; asked = h.asked; same = h.same }

-- ---- one message more

-- the next number is a new one
pub more-given : (session : Line) (given : List Message) (is_content : Bool) (body : List ℕ) (client : Client) → Has session given client
    → Has session (given ++ numbered is_content body client ∷ []) (after_message is_content client)
more-given session given is_content body client h =
    let message : Message = numbered is_content body client in
    let last = client.counters.last in
    let new : last < message.number = omega arith in
    let all : List Message = given ++ message ∷ [] in
    let below : (one : Message) → Contains given one → one.number < message.number = λ one among. let within = h.within one among in omega (arith, within, new) in
    record {
      once = λ one other among beside same.
          elim (Contains-push_cases given message one among) [
            | inl old ↦
                elim (Contains-push_cases given message other beside) [
                  | inl too ↦ h.once one other old too same
                  | inr is ↦
                      let number : message.number ≡ other.number = ap (λ (m : Message). m.number) is in
                      let less = below one old in absurd (omega (arith, number, less, same))
                ]
            | inr is ↦
                elim (Contains-push_cases given message other beside) [
                  | inl old ↦
                      let number : message.number ≡ one.number = ap (λ (m : Message). m.number) is in
                      let less = below other old in absurd (omega (arith, number, less, same))
                  | inr too ↦ sym is ∙ too
                ]
          ];
      within = λ one among.
          elim (Contains-push_cases given message one among) [
            | inl old ↦ let less = below one old in omega (arith, less)
            | inr is ↦ let number : message.number ≡ one.number = ap (λ (m : Message). m.number) is in omega (arith, number)
          ];
      living = more-lives given (message ∷ []) (calls_of client) h.living;
      asked = more-temporary given (message ∷ []) client.temporary h.asked;
      same = h.same;
    }

-- a message that was given goes once more
pub again-given : (session : Line) (given : List Message) (message : Message) (client : Client) → Contains given message → Has session given client → Has session (given ++ message ∷ []) client
again-given session given message client there h =
    let was : (one : Message) → Contains (given ++ message ∷ []) one → Contains given one =
    λ one among. elim (Contains-push_cases given message one among) [
      | inl old ↦ old
      | inr is ↦ subst (Contains given) is there
    ] in
    record {
      once = λ one other among beside same. h.once one other (was one among) (was other beside) same;
      within = λ one among. h.within one (was one among);
      living = more-lives given (message ∷ []) (calls_of client) h.living;
      asked = more-temporary given (message ∷ []) client.temporary h.asked;
      same = h.same;
    }
