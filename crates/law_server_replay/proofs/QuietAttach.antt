-- An attach that sends nothing.
use Rattle.std.proofs.Common.{◌≡◌, true, false, Option, Some, None, List, [], ◌∷◌, ◌⊎◌, filter, fold, inl, inr, refl, sym, ap, subst, ◌∙◌}
use Rattle.std.specs.List.{All}
use Rattle.std.proofs.lemmas.Bool.{cases_Bool, cond_both}
use Rattle.server_rules.specs.Answer.{after_attach, attaches, begun, ended, is_spent}
use Rattle.server_rules.specs.Event.{Owed, Setting, Speaker, State, speaker_in, spoken, spoken_by}
use Rattle.server_rules.specs.Server.{Name, Reply, Server, Session, has_accepted, is_kept, name_of, session_named, with_session}
use Rattle.server_rules.specs.Speaking.{has_said, message_of, owes_message, says_again, says_it_is_new}
use Rattle.law_server.specs.Order.{AreOrdered}
use Rattle.law_server.specs.Speech.{SaidFor}
use Rattle.law_server_replay.specs.Quiet.{quiet}
use Rattle.law_server_replay.proofs.Lists.{Has, at_all, found_name, has_last, has_more, has_some, put_itself}
use Rattle.law_server_replay.proofs.QuietEnd.{Begins, ended_quiet, owed_goes}

module _ {S : Type 0} (setting : Setting S) where
  again_has : (reply : Reply) (speaker : Speaker S) → Has speaker.owed → Has (says_again reply speaker).owed
  again_has reply speaker h =
      cond_both (has_said reply.number speaker) speaker (owes_message (message_of reply) speaker) (λ (s : Speaker S). Has s.owed)
      (λ is. h) (λ is. has_more speaker.owed _ h)

  all_again_has : (replies : List Reply) (speaker : Speaker S) → Has speaker.owed → Has (fold (λ speaker reply. says_again reply speaker) speaker replies).owed
  all_again_has [] speaker h = h
  all_again_has (reply ∷ replies) speaker h = all_again_has replies (says_again reply speaker) (again_has reply speaker h)

  -- the first reply is said where nothing was said
  first_has : (reply : Reply) (speaker : Speaker S) → speaker.owed ≡ [] → Has (says_again reply speaker).owed
  first_has reply speaker none =
      cond_both (has_said reply.number speaker) speaker (owes_message (message_of reply) speaker) (λ (s : Speaker S). Has s.owed)
      (λ is. let said : has_said reply.number (record speaker { owed = [] }) ≡ true = subst (λ (l : List Owed). has_said reply.number (record speaker { owed = l }) ≡ true) none is in
      let e : false ≡ true = said in absurd (cc))
      (λ is. has_last speaker.owed _)

  replies_or : (replies : List Reply) (speaker : Speaker S) → speaker.owed ≡ []
      → Has (fold (λ speaker reply. says_again reply speaker) speaker replies).owed ⊎ (fold (λ speaker reply. says_again reply speaker) speaker replies ≡ speaker)
  replies_or [] speaker none = inr refl
  replies_or (reply ∷ replies) speaker none = inl (all_again_has replies (says_again reply speaker) (first_has reply speaker none))

  -- a session owes something when a connection is opened for it, or does nothing
  attaches_or : (speaker : Speaker S) → speaker.owed ≡ [] → Has (attaches setting speaker).owed ⊎ (attaches setting speaker ≡ speaker)
  attaches_or speaker none =
      elim (cases_Bool (has_accepted speaker.session)) [
        | inl is ↦ rw is (replies_or (filter is_kept speaker.session.replies) speaker none)
        | inr fails ↦ rw fails (inl (all_again_has (filter is_kept speaker.session.replies) (says_it_is_new setting speaker) (has_last speaker.owed _)))
      ]

  module _ (begins : Begins) (alone : (speaker : Speaker S) → SaidFor S speaker (attaches setting speaker)) (server : Server) (draw : S)
      (ordered : AreOrdered server.sessions server.jobs) (unspent : All (λ session. is_spent session ≡ false) server.sessions)
      (own : (name : Name) (speak : Speaker S → Speaker S) (state : State S) (session : Session) → session_named name state.sessions ≡ Some session
      → name_of (speak (speaker_in state session)).session ≡ name
      → session_named name (spoken_by (session_named name state.sessions) speak state).sessions ≡ Some (speak (speaker_in state session)).session) where
    abbrev it : Session → Speaker S
    it session = speaker_in (begun server draw) session

    -- what it owes has its name, and goes out
    owes_out : (name : Name) (session : Session) → session_named name server.sessions ≡ Some session → Has (attaches setting (it session)).owed
        → Has (ended setting (spoken (begun server draw) (attaches setting (it session)))).packets
    owes_out name session there (one, more, is) =
        let said = alone (it session) in
        let named : name_of session ≡ name = found_name name server.sessions session there in
        let its = said.owed.2 in
        let split : said.owed.0 ≡ one ∷ more = sym said.owed.1 ∙ is in
        let first : one.name ≡ name_of session = at_all (λ (o : Owed). o.name ≡ name_of session) one more (subst (λ (l : List Owed). All (λ (o : Owed). o.name ≡ name_of session) l) split its) in
        let key = said.key in
        let number = said.number in
        let after : name_of (attaches setting (it session)).session ≡ name_of session = λ i. record { key = key i; session = number i } in
        let spoken_there : session_named name (spoken (begun server draw) (attaches setting (it session))).sessions ≡ Some (attaches setting (it session)).session =
        subst (λ (f : Option Session). session_named name (spoken_by f (attaches setting) (begun server draw)).sessions ≡ Some (attaches setting (it session)).session) there
        (own name (attaches setting) (begun server draw) session there (after ∙ named)) in
        owed_goes setting begins one more (spoken (begun server draw) (attaches setting (it session))) (attaches setting (it session)).session is
        (ap (λ (n : Name). session_named n (spoken (begun server draw) (attaches setting (it session))).sessions) (first ∙ named) ∙ spoken_there)

    attach_by : (name : Name) (found : Option Session) → session_named name server.sessions ≡ found
        → (ended setting (spoken_by found (attaches setting) (begun server draw))).packets ≡ []
        → ended setting (spoken_by found (attaches setting) (begun server draw)) ≡ quiet setting.now server draw
    attach_by name None there none = ended_quiet setting server draw unspent
    attach_by name (Some session) there none =
        elim (attaches_or (it session) refl) [
          | inl owes ↦ absurd (has_some _ (owes_out name session there owes) none)
          | inr same ↦
              let sessions : with_session session server.sessions ≡ server.sessions = put_itself name server.sessions session ordered.names there in
              ap (λ (speaker : Speaker S). ended setting (spoken (begun server draw) speaker)) same
              ∙ ap (λ (l : List Session). ended setting (record (begun server draw) { sessions = l })) sessions
              ∙ ended_quiet setting server draw unspent
        ]

    pub attach_quiet : (name : Name) → (after_attach setting name server draw).packets ≡ [] → after_attach setting name server draw ≡ quiet setting.now server draw
    attach_quiet name none = attach_by name (session_named name server.sessions) refl none
