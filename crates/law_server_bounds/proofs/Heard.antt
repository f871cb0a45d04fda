-- Each event, up to where all that it owes is known.
use Rattle.std.proofs.Common.{◌≡◌, ◌∙◌, ℕ, ◌+◌, ◌*◌, ◌≤◌, ltb, Bool, true, false, cond, Option, Some, None, List, [], ◌∷◌, ◌++◌, length, ap, sym, subst, refl, arith, inl, inr}
use Rattle.std.specs.Prelude.{map}
use Rattle.std.specs.List.{AllByRecursion, zip}
use Rattle.std.proofs.lemmas.Bool.{cases_Bool, cond_both, cond-true, cond-false}
use Rattle.octets.specs.Bytes.{IsBytes}
use Rattle.msg_ids.specs.Moments.{latest_moment}
use Rattle.msg_ids.specs.Counters.{none_given, room}
use Rattle.inbox.specs.Refusals.{InEnvelope}
use Rattle.inbox.specs.Judging.{judgements, session_after}
use Rattle.outbox.specs.Replies.{IsWithin}
use Rattle.waits.specs.declared.job.Job.{Job}
use Rattle.waits.specs.Jobs.{without_ready}
use Rattle.server_rules.specs.Server.{Name, Server, Session, is_named, kept_replies, name_of, remembered, session_named, sessions_max, without_session}
use Rattle.server_rules.specs.Event.{Envelope, Setting, State, speaks, lost}
use Rattle.server_rules.specs.Waiting.{after_timeouts}
use Rattle.server_rules.specs.Answer.{attaches, begun, finishes, hears, hears_by, makes, message_in, messages_judged, name_in, opens, runs, session_for, takes, takes_by, ticks, without_first as without_first_session}
use Rattle.law_server_bounds.specs.Steady.{IsKnown, IsSteady}
use Rattle.law_server_bounds.proofs.Counts.{FallsByOne, count, off-name, ready-fewer}
use Rattle.law_server_bounds.proofs.Lists.{find-all, find-of, none-some}
use Rattle.law_server_bounds.proofs.Names.{cases_name, found-named, lost-named, lost-none, names-same}
use Rattle.law_server_bounds.proofs.Unsaid.{unsaid-kept}
use Rattle.law_server_bounds.proofs.Owing.{G, HasLeft, Speak, UnsaidAt, attached-g, failures, finished-g, lost-g, more-g, opened-g, settled, timeouts}
use Rattle.law_server_bounds.proofs.Bodies.{AreLawful, judged-few}

-- ---- who stands under a name

push-none : (name : Name) (sessions : List Session) (one : Session) → session_named name sessions ≡ None → is_named name one ≡ true → session_named name (sessions ++ one ∷ []) ≡ Some one
push-none name [] one is own = cond-true (is_named name one) (Some one) None own
push-none name (first ∷ sessions) one is own =
    elim (cases_Bool (is_named name first)) [
      | inl holds ↦ absurd (none-some first (sym is ∙ cond-true (is_named name first) (Some first) (session_named name sessions) holds))
      | inr fails ↦
          let rest = push-none name sessions one (sym (cond-false (is_named name first) (Some first) (session_named name sessions) fails) ∙ is) own in
          cond-false (is_named name first) (Some first) (session_named name (sessions ++ one ∷ [])) fails ∙ rest
    ]

push-other : (name : Name) (sessions : List Session) (one : Session) → is_named name one ≡ false → session_named name (sessions ++ one ∷ []) ≡ session_named name sessions
push-other name [] one off = cond-false (is_named name one) (Some one) None off
push-other name (first ∷ sessions) one off = ap (λ (found : Option Session). cond (is_named name first) (Some first) found) (push-other name sessions one off)

heard-named : (name own : Name) (sessions : List Session) (session : Session) → session_named name sessions ≡ Some session
    → session_named own (without_session (name_of session) sessions ++ session ∷ []) ≡ session_named own sessions
heard-named name own sessions session is =
    let left = without_session (name_of session) sessions in
    elim (cases_name own (name_of session)) [
      | inl same ↦
          let R : Name → Type 0 = λ other. session_named own (without_session other sessions) ≡ None in
          let none : session_named own left ≡ None = subst R same (lost-none own sessions) in
          let At : Name → Type 0 = λ name. session_named name sessions ≡ Some session in
          let was : session_named own sessions ≡ Some session = subst At (sym (same ∙ found-named name sessions session is)) is in
          push-none own left session none (names-same own (name_of session) same) ∙ sym was
      | inr apart ↦ push-other own left session (off-name own (name_of session) apart) ∙ lost-named (name_of session) own sessions apart
    ]

still-none : (name lost : Name) (sessions : List Session) → session_named name sessions ≡ None → session_named name (without_session lost sessions) ≡ None
still-none name lost sessions none =
    elim (cases_name name lost) [
      | inl same ↦ let R : Name → Type 0 = λ other. session_named name (without_session other sessions) ≡ None in subst R same (lost-none name sessions)
      | inr apart ↦ lost-named lost name sessions apart ∙ none
    ]

-- a session that gave no number has room
new-room : 16384 ≤ room none_given
unfolding room
new-room = omega arith

-- ---- the beginning

pub found-key : (known : ℕ → Bool) (own : Name) (sessions : List Session) (session : Session) → session_named own sessions ≡ Some session → AllByRecursion (IsKnown known) sessions → known own.key ≡ true
found-key known own sessions session is keys =
    let one = find-of (IsKnown known) (is_named own) sessions session keys is in
    let K : Name → Type 0 = λ name. known name.key ≡ true in
    subst K (found-named own sessions session is) one

module _ {S : Type 0} (laws : Speak S) (falls : FallsByOne) (setting : Setting S) (timely : setting.now ≤ latest_moment) (known : ℕ → Bool) (own : Name) where
  abbrev At : ℕ → State S → Type 0
  At n state = G laws falls setting timely known own n state

  begun-at : (found : Option Session) (server : Server) → session_named own server.sessions ≡ found → IsSteady known server → (UnsaidAt own [] found ≤ 4096) × HasLeft known own 0 found
  begun-at None server is steady = (omega arith, tt)
  begun-at (Some session) server is steady =
      let within = find-all (λ (session : Session). IsWithin (kept_replies session.replies)) (is_named own) server.sessions session steady.replies is in
      let left = find-all (λ (session : Session). 16384 ≤ room session.counters) (is_named own) server.sessions session steady.room is in
      let few = within.count in
      let kept = unsaid-kept own session.replies in
      (omega (arith, few, kept), (omega (arith, left), found-key known own server.sessions session is steady.keys))

  pub begun-g : (server : Server) (draw : S) → IsSteady known server → At 8192 (begun server draw)
  begun-g server draw steady =
      let start = begun-at (session_named own server.sessions) server refl steady in
      let jobs = (steady.jobs own.key own.session).0 in
      let few = start.0 in
      record { total = omega (arith, jobs, few); left = start.1; unsent = refl }

  -- ---- a packet

  made-g : (envelope : Envelope) (n : ℕ) (state : State S) → session_named (name_in envelope) state.sessions ≡ None → known envelope.key ≡ true → At n state → At n (makes setting envelope state)
  made-g envelope n state none key g =
      let new = session_for setting envelope state.draw in
      let total = g.total in
      let Left : Option Session → Type 0 = λ found. HasLeft known own (count own state.owed) found in
      let Said : Option Session → ℕ = λ found. UnsaidAt own state.owed found in
      elim (cases_name own (name_in envelope)) [
        | inl same ↦
            let N : Name → Type 0 = λ name. session_named name state.sessions ≡ None in
            let stands = push-none own state.sessions new (subst N (sym same) none) (names-same own (name_in envelope) same) in
            let here = ap Said stands in
            let K : Name → Type 0 = λ name. known name.key ≡ true in
            let low = new-room in
            record { total = omega (arith, here, total); left = subst Left (sym stands) (omega (arith, low), subst K (sym same) key); unsent = g.unsent }
        | inr apart ↦
            let stands = push-other own state.sessions new (off-name own (name_in envelope) apart) in
            let here = ap Said stands in
            record { total = omega (arith, here, total); left = subst Left (sym stands) g.left; unsent = g.unsent }
      ]

  place-g : (envelope : Envelope) (n : ℕ) (sessions : List Session) (state : State S) → session_named (name_in envelope) state.sessions ≡ None → known envelope.key ≡ true → At n state
      → At n (makes setting envelope (without_first_session sessions state))
  place-g envelope n [] state none key g = made-g envelope n state none key g
  place-g envelope n (session ∷ sessions) state none key g =
      made-g envelope n (lost (name_of session) state) (still-none (name_in envelope) (name_of session) state.sessions none) key
      (lost-g laws falls setting timely known own n (name_of session) state g)

  heard-g : (envelope : Envelope) (found : Option Session) (n : ℕ) (state : State S) → session_named (name_in envelope) state.sessions ≡ found → known envelope.key ≡ true → At n state
      → At n (hears_by setting envelope found state)
  heard-g envelope (Some session) n state is key g =
      let stands = heard-named (name_in envelope) own state.sessions session is in
      let here = ap (λ (found : Option Session). UnsaidAt own state.owed found) stands in
      let Left : Option Session → Type 0 = λ found. HasLeft known own (count own state.owed) found in
      let total = g.total in
      record { total = omega (arith, here, total); left = subst Left (sym stands) g.left; unsent = g.unsent }
  heard-g envelope None n state is key g =
      cond_both (ltb (length state.sessions) sessions_max) state (without_first_session state.sessions state) (λ (placed : State S). At n (makes setting envelope placed))
      (λ room. made-g envelope n state is key g) (λ full. place-g envelope n state.sessions state is key g)

  taken-g : AreLawful → (envelope : Envelope) (found : Option Session) (state : State S) → IsBytes envelope.body → At 8192 state → At 10236 (takes_by setting envelope found state)
  taken-g lawful envelope None state bytes g = more-g laws falls setting timely known own 8192 10236 state (omega arith) g
  taken-g lawful envelope (Some session) state bytes g =
      let name = name_of session in
      let way = InEnvelope setting.now session.salts envelope.salt in
      let message = message_in envelope in
      let judged = judgements way (remembered session) message in
      let later = (session_after way (remembered session) message).history in
      let pairs = zip judged (map (λ one. one.body) (messages_judged way session message)) in
      let few = judged-few lawful way session message bytes in
      let opened = speaks name (opens setting later judged) state in
      more-g laws falls setting timely known own (8194 + 2 * length pairs) 10236 (takes_by setting envelope (Some session) state) (omega (arith, few))
      (settled laws falls setting timely known own name pairs 8194 opened (opened-g laws falls setting timely known own name later judged 8192 state g))

  pub packet-g : AreLawful → (envelope : Envelope) (server : Server) (draw : S) → IsBytes envelope.body → known envelope.key ≡ true → IsSteady known server
      → At 10236 (takes setting envelope (begun server draw))
  packet-g lawful envelope server draw bytes key steady =
      let state = begun server draw in
      let heard = hears setting envelope state in
      taken-g lawful envelope (session_named (name_in envelope) heard.sessions) heard bytes
      (heard-g envelope (session_named (name_in envelope) state.sessions) 8192 state refl key (begun-g server draw steady))

  -- ---- other events

  pub tick-g : (server : Server) (draw : S) → IsSteady known server → At 10236 (ticks setting (begun server draw))
  tick-g server draw steady =
      let state = begun server draw in
      more-g laws falls setting timely known own 8192 10236 (ticks setting state) (omega arith)
      (failures laws falls setting timely known own 8192 (after_timeouts setting state)
      (timeouts laws falls setting timely known own 8192 state (begun-g server draw steady)))

  pub attach-g : (name : Name) (server : Server) (draw : S) → IsSteady known server → At 10236 (speaks name (attaches setting) (begun server draw))
  attach-g name server draw steady =
      let state = begun server draw in
      more-g laws falls setting timely known own 8193 10236 (speaks name (attaches setting) state) (omega arith)
      (attached-g laws falls setting timely known own name 8192 state (begun-g server draw steady))

  pub run-g : (place : ℕ) (job : Job) (reply : List ℕ) (server : Server) (draw : S) → IsSteady known server → At 10236 (runs setting place job reply (begun server draw))
  run-g place job reply server draw steady =
      let name : Name = record { key = job.key; session = job.session } in
      let rest : State S = record (begun server draw) { jobs = without_ready place server.jobs } in
      let done = speaks name (finishes setting job reply) rest in
      let start = begun-g server draw steady in
      let fewer = ready-fewer own place server.jobs in
      let total = start.total in
      let left : At 8192 rest = record { total = omega (arith, fewer, total); left = start.left; unsent = refl } in
      more-g laws falls setting timely known own 8193 10236 (runs setting place job reply (begun server draw)) (omega arith)
      (failures laws falls setting timely known own 8193 done (finished-g laws falls setting timely known own name job reply 8192 rest left))
