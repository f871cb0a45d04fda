-- What an event draws: a property of draws that each step keeps holds after it, where it held before.
use Rattle.std.proofs.Common.{◌≡◌, ℕ, zero, suc, ◌∙◌, length, ◌==◌, ◌&&◌, not, Option, None, Some, List, [], ◌∷◌, map, filter, fold, inl, inr, refl, sym, subst, ap}
use Rattle.std.specs.Prelude.{is_some}
use Rattle.std.specs.List.{zip}
use Rattle.std.proofs.lemmas.Bool.{cases_Bool, cond_both}
use Rattle.draws.specs.Draws.{draw_after, words_for}
use Rattle.salt_line.specs.Rows.{Row, period_at}
use Rattle.salt_line.specs.Line.{current_salt}
use Rattle.salt_line.specs.Needed.{has_row, needed, needed_from}
use Rattle.service_tl.specs.declared.item.Item.{Item}
use Rattle.service_tl.specs.declared.item.Item.TheVariants.{DestroySession, DestroySessionOk, DestroySessionNone}
use Rattle.service_tl.specs.declared.lists.Message.{Message}
use Rattle.id_window.specs.History.{History}
use Rattle.inbox.specs.Verdicts.{Judgement, Verdict, Accepted, Again, Noticed}
use Rattle.inbox.specs.Refusals.{InEnvelope}
use Rattle.inbox.specs.Judging.{judgements, session_after}
use Rattle.packing.specs.Packing.{after_packets, packets_of}
use Rattle.regs_service.specs.Served.{Step}
use Rattle.waits.specs.declared.job.Job.{Job}
use Rattle.waits.specs.Jobs.{Queue, ready_job, without_ready}
use Rattle.server_rules.specs.Server.{Name, Server, Session, name_of, remembered, session_named}
use Rattle.server_rules.specs.Event.{Envelope, Owed, Setting, Speaker, State, lost, speaker_in, speaks, spoken_by}
use Rattle.server_rules.specs.Speaking.{needs_salts, says}
use Rattle.server_rules.specs.Waiting.{after_failures, after_timeouts, all_given_up, first_given_up, given_up, gives_up, tells_of}
use Rattle.server_rules.specs.Rows.{destroys, owes, row, settles}
use Rattle.server_rules.specs.Sending.{all_sent, messages_by, names_in, padding_bytes, seals, sends}
use Rattle.server_rules.specs.Answer.{after_attach, after_packet, after_run, after_tick, after_work, attaches, begun, ended, finishes, hears, hears_by, is_spent, message_in, messages_judged, name_in, opens, runs, takes, takes_by, ticks, with_place, without_first}
use Rattle.law_server.specs.Drawing.{DrawsSalts}

-- what is known of what a session says: it draws words for its salts alone
pub record OfSalts (S : Type 0) : Type 0 where
  pub owes : (setting : Setting S) (speaker : Speaker S) (number seq : ℕ) (verdict : Verdict) (body : List ℕ) → DrawsSalts setting speaker (owes setting number seq verdict body speaker)
  pub opens : (setting : Setting S) (speaker : Speaker S) (history : History) (judged : List Judgement) → DrawsSalts setting speaker (opens setting history judged speaker)
  pub attaches : (setting : Setting S) (speaker : Speaker S) → DrawsSalts setting speaker (attaches setting speaker)

module _ {S : Type 0} (known : OfSalts S) (setting : Setting S) (P : S → Type 0) (on : (draw : S) → P draw → P (setting.step draw).1) where
  stepped : (n : ℕ) (draw : S) → P draw → P (draw_after setting.step n draw)
  stepped zero draw h = h
  stepped (suc n) draw h = stepped n (setting.step draw).1 (on draw h)

  needed_one : (period : ℕ) (rows : List Row) (draw : S) → P draw → P (needed setting.step period (rows, draw)).1
  needed_one period rows draw h =
      elim (cases_Bool (has_row period rows)) [
        | inl is ↦ rw is h
        | inr fails ↦ rw fails (on draw h)
      ]

  needed_all : (period n : ℕ) (rows : List Row) (draw : S) → P draw → P (needed_from setting.step period n (rows, draw)).1
  needed_all period zero rows draw h = h
  needed_all period (suc n) rows draw h =
      let next = needed setting.step period (rows, draw) in
      needed_all (suc period) n next.0 next.1 (needed_one period rows draw h)

  -- ---- one session

  abbrev From : Speaker S → Speaker S → Type 0
  From before after = P before.draw → P after.draw

  itself : (speaker : Speaker S) → From speaker speaker
  itself speaker h = h

  and_then : (a b c : Speaker S) → From a b → From b c → From a c
  and_then a b c one two h = two (one h)

  salts_later : (before after : Speaker S) → DrawsSalts setting before after → From before after
  salts_later before after drawn h =
      subst P (sym drawn.1.draw_then) (needed_all (period_at before.session.salts.start setting.now) drawn.1.periods before.session.salts.rows before.draw h)

  needs_later : (number : ℕ) (speaker : Speaker S) → From speaker (needs_salts setting number speaker)
  needs_later number speaker h = needed_all (period_at speaker.session.salts.start setting.now) number speaker.session.salts.rows speaker.draw h

  seals_later : (salt : ℕ) (packets : List Message) (speaker : Speaker S) → From speaker (fold (seals setting salt) speaker packets)
  seals_later salt [] speaker = itself speaker
  seals_later salt (packet ∷ packets) speaker =
      let next = seals setting salt speaker packet in
      and_then speaker next (fold (seals setting salt) next packets)
      (λ h. stepped (words_for (padding_bytes (length packet.body))) speaker.draw h) (seals_later salt packets next)

  sends_later : (messages : List Message) (speaker : Speaker S) → From speaker (sends setting messages speaker)
  sends_later messages speaker =
      let ready : Speaker S = needs_salts setting 1 speaker in
      let counters = after_packets setting.now ready.session.counters messages in
      let counted : Speaker S = record ready { session = record ready.session { counters = counters } } in
      and_then speaker counted (sends setting messages speaker) (needs_later 1 speaker)
      (seals_later (current_salt ready.session.salts setting.now) (packets_of setting.now ready.session.counters messages) counted)

  finishes_later : (job : Job) (reply : List ℕ) (speaker : Speaker S) → From speaker (finishes setting job reply speaker)
  finishes_later job reply speaker = itself speaker

  gives_up_later : (content : List ℕ) (job : Job) (speaker : Speaker S) → From speaker (gives_up setting content job speaker)
  gives_up_later content job speaker = itself speaker

  -- ---- all sessions

  abbrev So : State S → Type 0
  So state = P state.draw

  spoken_so : (speak : Speaker S → Speaker S) (found : Option Session) (state : State S) → ((speaker : Speaker S) → From speaker (speak speaker)) → So state → So (spoken_by found speak state)
  spoken_so speak None state so h = h
  spoken_so speak (Some session) state so h = so (speaker_in state session) h

  speaks_so : (name : Name) (speak : Speaker S → Speaker S) (state : State S) → ((speaker : Speaker S) → From speaker (speak speaker)) → So state → So (speaks name speak state)
  speaks_so name speak state so h = spoken_so speak (session_named name state.sessions) state so h

  given_so : (content : List ℕ) (job : Option Job) (state : State S) → So state → So (given_up setting content job state)
  given_so content None state h = h
  given_so content (Some job) state h =
      speaks_so (record { key = job.key; session = job.session }) (gives_up setting content job) state (λ speaker. gives_up_later content job speaker) h

  all_given_so : (content : List ℕ) (first : Queue → Option Job × Queue) (n : ℕ) (state : State S) → So state → So (all_given_up setting content first n state)
  all_given_so content first zero state h = h
  all_given_so content first (suc n) state h =
      all_given_so content first n (first_given_up setting content first state)
      (given_so content (first state.jobs).0 (record state { jobs = (first state.jobs).1 }) h)

  failures_so : (state : State S) → So state → So (after_failures setting state)
  failures_so state h = all_given_so _ _ (length state.jobs) state h

  ticks_so : (state : State S) → So state → So (ticks setting state)
  ticks_so state h = failures_so (after_timeouts setting state) (all_given_so _ _ (length state.jobs) state h)

  runs_so : (place : ℕ) (job : Job) (reply : List ℕ) (state : State S) → So state → So (runs setting place job reply state)
  runs_so place job reply state h =
      let ready : State S = record state { jobs = without_ready place state.jobs } in
      failures_so (speaks (record { key = job.key; session = job.session }) (finishes setting job reply) ready)
      (speaks_so (record { key = job.key; session = job.session }) (finishes setting job reply) ready (λ speaker. finishes_later job reply speaker) h)

  says_so : (name : Name) (item : Item) (state : State S) → So state → So (speaks name (says setting item) state)
  says_so name item state h = speaks_so name (says setting item) state itself h

  destroys_so : (number destroyed : ℕ) (name : Name) (state : State S) → So state → So (destroys setting number destroyed name state)
  destroys_so number destroyed name state h =
      let other : Name = record name { session = destroyed } in
      cond_both (not (destroyed == name.session) && is_some (session_named other state.sessions))
      (speaks name (says setting (DestroySessionOk destroyed)) (lost other state)) (speaks name (says setting (DestroySessionNone destroyed)) state) So
      (λ is. says_so name (DestroySessionOk destroyed) (lost other state) h)
      (λ is. says_so name (DestroySessionNone destroyed) state h)

  owes_so : (name : Name) (number seq : ℕ) (verdict : Verdict) (body : List ℕ) (state : State S) → So state → So (speaks name (owes setting number seq verdict body) state)
  owes_so name number seq verdict body state h =
      speaks_so name (owes setting number seq verdict body) state (λ speaker. salts_later speaker (owes setting number seq verdict body speaker) (known.owes setting speaker number seq verdict body)) h

  accepted_so : (name : Name) (number seq : ℕ) (item : Item) (body : List ℕ) (state : State S) → So state → So (row setting name number seq (Accepted item) body state)
  accepted_so name number seq (DestroySession destroyed) body state h = destroys_so number destroyed name state h
  accepted_so name number seq item body state h = owes_so name number seq (Accepted item) body state h

  row_so : (name : Name) (number seq : ℕ) (verdict : Verdict) (body : List ℕ) (state : State S) → So state → So (row setting name number seq verdict body state)
  row_so name number seq (Noticed code) body state h = owes_so name number seq (Noticed code) body state h
  row_so name number seq (Again mark) body state h = owes_so name number seq (Again mark) body state h
  row_so name number seq (Accepted item) body state h = accepted_so name number seq item body state h

  settled_so : (name : Name) (judged : List (Judgement × List ℕ)) (state : State S) → So state → So (fold (settles setting name) state judged)
  settled_so name [] state h = h
  settled_so name (one ∷ judged) state h =
      let done : State S = row setting name one.0.number one.0.seq one.0.verdict one.1 state in
      settled_so name judged (settles setting name state one)
      (failures_so (speaks name (tells_of one.0.number) done)
      (speaks_so name (tells_of one.0.number) done itself (row_so name one.0.number one.0.seq one.0.verdict one.1 state h)))

  taken_so : (envelope : Envelope) (found : Option Session) (state : State S) → So state → So (takes_by setting envelope found state)
  taken_so envelope None state h = h
  taken_so envelope (Some session) state h =
      let way = InEnvelope setting.now session.salts envelope.salt in
      let message : Message = message_in envelope in
      let judged = judgements way (remembered session) message in
      let bodies = map (λ (one : Message). one.body) (messages_judged way session message) in
      let history = (session_after way (remembered session) message).history in
      settled_so (name_of session) (zip judged bodies) (speaks (name_of session) (opens setting history judged) state)
      (speaks_so (name_of session) (opens setting history judged) state (λ speaker. salts_later speaker (opens setting history judged speaker) (known.opens setting speaker history judged)) h)

  placed_so : (sessions : List Session) (state : State S) → So state → So (without_first sessions state)
  placed_so [] state h = h
  placed_so (session ∷ sessions) state h = h

  place_so : (state : State S) → So state → So (with_place state)
  place_so state h = cond_both _ state (without_first state.sessions state) So (λ is. h) (λ is. placed_so state.sessions state h)

  hears_so : (envelope : Envelope) (found : Option Session) (state : State S) → So state → So (hears_by setting envelope found state)
  hears_so envelope None state h = stepped 2 (with_place state).draw (place_so state h)
  hears_so envelope (Some session) state h = h

  takes_so : (envelope : Envelope) (state : State S) → So state → So (takes setting envelope state)
  takes_so envelope state h =
      let heard : State S = hears setting envelope state in
      taken_so envelope (session_named (name_in envelope) heard.sessions) heard (hears_so envelope (session_named (name_in envelope) state.sessions) state h)

  -- ---- the end

  names_sent : (owed : List Owed) (names : List Name) (state : State S) → So state
      → So (fold (λ so_far name. speaks name (sends setting (messages_by name owed)) so_far) state names)
  names_sent owed [] state h = h
  names_sent owed (name ∷ names) state h =
      names_sent owed names (speaks name (sends setting (messages_by name owed)) state)
      (speaks_so name (sends setting (messages_by name owed)) state (λ speaker. sends_later (messages_by name owed) speaker) h)

  all_lost : (sessions : List Session) (state : State S) → So state → So (fold (λ so_far session. lost (name_of session) so_far) state sessions)
  all_lost [] state h = h
  all_lost (session ∷ sessions) state h = all_lost sessions (lost (name_of session) state) h

  ended_so : (state : State S) → So state → P (ended setting state).draw
  ended_so state h =
      let sent = all_sent setting state in
      all_lost (filter is_spent sent.sessions) sent (names_sent state.owed (names_in state.owed) state h)

  -- ---- the events

  pub packet_so : (envelope : Envelope) (server : Server) (draw : S) → P draw → P (after_packet setting envelope server draw).draw
  packet_so envelope server draw h = ended_so (takes setting envelope (begun server draw)) (takes_so envelope (begun server draw) h)

  pub tick_so : (server : Server) (draw : S) → P draw → P (after_tick setting server draw).draw
  tick_so server draw h = ended_so (ticks setting (begun server draw)) (ticks_so (begun server draw) h)

  pub attach_so : (name : Name) (server : Server) (draw : S) → P draw → P (after_attach setting name server draw).draw
  attach_so name server draw h =
      ended_so (speaks name (attaches setting) (begun server draw)) (speaks_so name (attaches setting) (begun server draw) (λ speaker. salts_later speaker (attaches setting speaker) (known.attaches setting speaker)) h)

  pub run_so : {V : Type 0} → (place : ℕ) (found : Option Job) (serve : Step V) (service : V) (server : Server) (draw : S) → P draw
      → P (after_run setting place found serve service server draw).0.draw
  run_so place None serve service server draw h = ended_so (begun server draw) h
  run_so place (Some job) serve service server draw h =
      ended_so (runs setting place job (serve service job.request).0 (begun server draw)) (runs_so place job (serve service job.request).0 (begun server draw) h)

-- ---- some words later

abbrev IsLater : {S : Type 0} → (S → ℕ × S) → S → S → Type 0
IsLater step before draw = (words : ℕ) × (draw ≡ draw_after step words before)

one_more : {S : Type 0} → (step : S → ℕ × S) (n : ℕ) (before : S) → (step (draw_after step n before)).1 ≡ draw_after step (suc n) before
one_more step zero before = refl
one_more step (suc n) before = one_more step n (step before).1

later_on : {S : Type 0} → (step : S → ℕ × S) (before draw : S) → IsLater step before draw → IsLater step before (step draw).1
later_on step before draw (words, is) = (suc words, ap (λ d. (step d).1) is ∙ one_more step words before)

module _ {S : Type 0} (known : OfSalts S) (setting : Setting S) (server : Server) (draw : S) where
  abbrev pub From_it : S → Type 0
  From_it behind = IsLater setting.step draw behind

  start : From_it draw
  start = (0, refl)

  pub packet_later : (envelope : Envelope) → From_it (after_packet setting envelope server draw).draw
  packet_later envelope = packet_so known setting From_it (later_on setting.step draw) envelope server draw start

  pub tick_later : From_it (after_tick setting server draw).draw
  tick_later = tick_so known setting From_it (later_on setting.step draw) server draw start

  pub attach_later : (name : Name) → From_it (after_attach setting name server draw).draw
  attach_later name = attach_so known setting From_it (later_on setting.step draw) name server draw start

  pub work_later : {V : Type 0} → (place : ℕ) (serve : Step V) (service : V) → From_it (after_work setting place serve service server draw).0.draw
  work_later place serve service = run_so known setting From_it (later_on setting.step draw) place (ready_job place server.jobs) serve service server draw start
