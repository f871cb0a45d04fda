-- A session that has accepted nothing and is attached makes one packet, which says that it is new.
use Rattle.std.proofs.Common.{◌≡◌, ◌∙◌, true, false, Option, Some, List, [], ◌∷◌, ◌++◌, ap, sym, subst, refl}
use Rattle.std.specs.Prelude.{fold}
use Rattle.std.specs.List.{filter}
use Rattle.service_tl.specs.declared.lists.Message.{Message}
use Rattle.server_rules.specs.Server.{Name, Session, Server, name_of, is_same, session_named, has_accepted}
use Rattle.server_rules.specs.Event.{Setting, State, Speaker, Sent, Owed, speaker_in, spoken, spoken_by, speaks, lost}
use Rattle.server_rules.specs.Speaking.{says_it_is_new}
use Rattle.server_rules.specs.Sending.{messages_by, sends, all_sent}
use Rattle.server_rules.specs.Answer.{attaches, is_spent, begun, after_attach}
use Rattle.law_server.specs.Order.{AreOrdered, IsOrderly, IsOrderlyAt, jobs_of}
use Rattle.law_server.specs.Start.{SaysItIsNew, new_owed}
use Rattle.law_server.proofs.Names.{names-same}
use Rattle.law_server.proofs.Sessions.{found-named, with-own}
use Rattle.law_server.proofs.Start.{attaches-new}

spent-sent : {S : Type 0} (spent : List Session) (state : State S) → (fold (λ so_far session. lost (name_of session) so_far) state spent).sent ≡ state.sent
spent-sent [] state = refl
spent-sent (session ∷ spent) state = spent-sent spent (lost (name_of session) state)

one-sent : {S : Type 0} (setting : Setting S) (message : Message) (speaker : Speaker S)
    → (packet : Sent) × ((sends setting (message ∷ []) speaker).sent ≡ speaker.sent ++ packet ∷ []) × (packet.envelope.key ≡ speaker.session.key)
    × (packet.envelope.session ≡ speaker.session.number) × (packet.envelope.body ≡ message.body)
one-sent setting message speaker = (_, refl, refl, refl, refl)

pub attach-starts : {S : Type 0} (setting : Setting S) (name : Name) (server : Server) (draw : S) (session : Session) → AreOrdered server.sessions server.jobs
    → session_named name server.sessions ≡ Some session → has_accepted session ≡ false
    → (packet : Sent) × ((after_attach setting name server draw).packets ≡ packet ∷ []) × (packet.envelope.key ≡ session.key)
    × (packet.envelope.session ≡ session.number) × SaysItIsNew session packet.envelope.body
attach-starts {S} setting name server draw session ordered is unheard =
    let state : State S = begun server draw in
    let before = speaker_in state session in
    let said = says_it_is_new setting before in
    let done = spoken state said in
    let own_name = name_of session in
    let one : Owed = new_owed setting before in
    let O : Option Session → Type 0 = λ found. IsOrderlyAt found (jobs_of name server.jobs) in
    let order : IsOrderly session.history session.replies session.counters.last (jobs_of name server.jobs) = subst O is (ordered.each name) in
    let attached : speaks name (attaches setting) state ≡ done =
    ap (λ (found : Option Session). spoken_by found (attaches setting) state) is
    ∙ ap (spoken state) (attaches-new setting before (jobs_of name server.jobs) order unheard) in
    let N : Name → Type 0 = λ name. session_named name server.sessions ≡ Some session in
    let own : session_named own_name done.sessions ≡ Some said.session =
    with-own said.session server.sessions session (subst N (sym (found-named name server.sessions session is)) is) in
    let e : is_same own_name own_name ≡ true = names-same own_name own_name refl in
    let messages : messages_by own_name done.owed ≡ one.message ∷ [] = rw e refl in
    let sent : all_sent setting done ≡ spoken done (sends setting (one.message ∷ []) (speaker_in done said.session)) =
    ap (λ (messages : List Message). speaks own_name (sends setting messages) done) messages
    ∙ ap (λ (found : Option Session). spoken_by found (sends setting (one.message ∷ [])) done) own in
    let all = all_sent setting (speaks name (attaches setting) state) in
    let packet = one-sent setting one.message (speaker_in done said.session) in (
      packet.0,
      spent-sent (filter is_spent all.sessions) all
          ∙ (ap (λ (state : State S). (all_sent setting state).sent) attached ∙ (ap (λ (state : State S). state.sent) sent ∙ packet.1)),
      packet.2,
      packet.3,
      (_, packet.4),
    )
