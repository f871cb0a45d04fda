-- What stays of a call where its client changes.
use Rattle.std.proofs.Common.{◌≡◌, ℕ, true, List, [], ◌∷◌, ◌∙◌}
use Rattle.std.specs.List.{Contains}
use Rattle.law_moves.specs.Table.{Cause, State, Name, Client, Message, ServerSession, Entry}
use Rattle.law_moves.specs.Table.Cause.{ServerSessionLost, Renewed, Ended, Forgotten}
use Rattle.law_moves.specs.Table.State.{Queued, Sent, Held, Done, Refused, Unknown}
use Rattle.law_moves.specs.Once.{OnLast}
use Rattle.law_moves.proofs.Kept.{HasCause, Fits}
use Rattle.law_moves.proofs.Basics.{contains_first}
use Rattle.law_moves.proofs.Grows.{on_last}

pub cause_of_client : (client later : Client) (servers : ℕ → ServerSession) (names : List Name)
    → ((session : ℕ) → Contains client.former session → Contains later.former session)
    → (client.ended ≡ true → later.ended ≡ true)
    → (cause : Cause)
    → HasCause client servers names cause
    → HasCause later servers names cause
cause_of_client client later servers names former ended ServerSessionLost h = h
cause_of_client client later servers names former ended Renewed h = on_last names (λ name. former name.session) h
cause_of_client client later servers names former ended Ended h = ended h
cause_of_client client later servers names former ended Forgotten h = h

pub fits_client : (client later : Client) (servers : ℕ → ServerSession) (ups : List Message) (entries : List Entry) (names : List Name)
    → (client.present ≡ later.present)
    → (client.learnt ≡ later.learnt)
    → ((session : ℕ) → Contains client.former session → Contains later.former session)
    → (client.ended ≡ true → later.ended ≡ true)
    → (state : State)
    → Fits client servers ups entries names state
    → Fits later servers ups entries names state
fits_client client later servers ups entries names present learnt former ended Queued h = h
fits_client client later servers ups entries names present learnt former ended Sent h =
    on_last names (λ name lives. (lives.0 ∙ present, lives.1 ∙ learnt)) h
fits_client client later servers ups entries names present learnt former ended Held h = h
fits_client client later servers ups entries names present learnt former ended (Done reply) h = h
fits_client client later servers ups entries names present learnt former ended (Refused code) h = h
fits_client client later servers ups entries names present learnt former ended (Unknown cause) h =
    cause_of_client client later servers names former ended cause h

-- a fact of the last name is one of some name
pub on_last_among : {Has : Name → Type 0} (names : List Name) → OnLast Has names → (name : Name) × Contains names name × Has name
on_last_among [] h = absurd h
on_last_among (name ∷ older) h = (name, contains_first name older, h)
