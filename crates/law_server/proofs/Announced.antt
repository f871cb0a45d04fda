-- Each life announces itself as long as it has accepted nothing.
use Rattle.std.proofs.Common.{◌≡◌, ◌≢◌, ◌∙◌, ℕ, ltb, false, cond, Option, Some, None, List, [], ◌∷◌, ◌++◌, length, get_or, ap, sym, subst, refl, arith, inl, inr}
use Rattle.std.specs.Prelude.{fold, drop}
use Rattle.std.specs.List.{filter, All}
use Rattle.std.proofs.Math.Seq.{drop-append_seam}
use Rattle.std.proofs.lemmas.Bool.{cond_both, cond-true, cond-false}
use Rattle.std.proofs.lemmas.List.Elements.{All-nil, All-cons, All-head, All-tail, All-map, All-append}
use Rattle.id_window.specs.History.{History}
use Rattle.inbox.specs.Inbox.{was_heard}
use Rattle.inbox.specs.Refusals.{InEnvelope}
use Rattle.inbox.specs.Judging.{judgements}
use Rattle.regs_service.specs.Served.{Step}
use Rattle.waits.specs.declared.job.Job.{Job}
use Rattle.waits.specs.Jobs.{Queue, ready_job}
use Rattle.server_rules.specs.Server.{Name, Session, Server, Reply, name_of, is_same, is_kept, session_named, has_accepted, remembered, sessions_max}
use Rattle.server_rules.specs.Event.{Setting, State, Speaker, Envelope, Sent, speaks}
use Rattle.server_rules.specs.Speaking.{says_it_is_new, says_again}
use Rattle.server_rules.specs.Events.{Event, Packet, Work, Tick, Attach, Loss, Restart, Course, setting_at, worked, after_event}
use Rattle.server_rules.specs.Answer.{name_in, message_in, opens, without_first as without_first_session, session_for, makes, hears_by, hears, takes_by, takes, runs, ticks, attaches, begun, ended, after_run}
use Rattle.server_rules.specs.Sending.{messages_by}
use Rattle.law_server.specs.Order.{AreOrdered, IsOrderly, IsOrderlyAt, jobs_of}
use Rattle.law_server.specs.Lives.{Life, Told, judged_by, history_by, heard_by, with_packet, hearing, with_event, gone_on, is_packet_of, life_of, newborn, made_by, lives_after, told_after, told_from}
use Rattle.law_server.specs.Announced.{SaysNew, IsAnnounced}
use Rattle.law_server.proofs.LivedNames.{cases_name, names-same, found-named, some-same, none-some}
use Rattle.law_server.proofs.Counting.{any}
use Rattle.law_server.proofs.Going.{Holds, Known}
use Rattle.law_server.proofs.Packets.{IsBegun, begins, hears-stands, last-other}
use Rattle.law_server.proofs.LivedEvents.{IsEven, Stands, nothing-new}
use Rattle.law_server.proofs.Living.{Laws, AreLives, IsRecorded, no-jobs, unnamed-jobs, event-lives}
use Rattle.law_server.proofs.Onward.{Floors, hearing-adds}
use Rattle.law_server.proofs.Mute.{Mute, IsMute, IsUnheard, Few, mute-weaker, lost-mute, opens-mute, settles-mute, ticks-mute, runs-mute, attach-mute}
use Rattle.law_server.proofs.Opening.{Nothing, New, Kept, Stood, own-mute, says-new, takes-mute, unheard-before}
use Rattle.law_server.proofs.Packed.{IsNew, ended-new}

-- what laws say of sessions that have accepted nothing
pub record Quiet : Type 0 where
  pub replies : (history : History) (replies : List Reply) (last : ℕ) (jobs : Queue) → IsOrderly history replies last jobs → was_heard history ≡ false → replies ≡ []
  pub jobs : (history : History) (replies : List Reply) (last : ℕ) (jobs : Queue) → IsOrderly history replies last jobs → was_heard history ≡ false → jobs ≡ []

abbrev pub mute_of : Life → Mute
mute_of life = record { name = life.name; first = life.first; unique = life.unique }

-- ---- a packet is heard

hears-said : {S : Type 0} (setting : Setting S) (envelope : Envelope) (state : State S) (found : Option Session)
    → ((hears_by setting envelope found state).owed ≡ state.owed) × ((hears_by setting envelope found state).sent ≡ state.sent)
hears-said setting envelope state (Some session) = (refl, refl)
hears-said {S} setting envelope state None =
    cond_both (ltb (length state.sessions) sessions_max) state (without_first_session state.sessions state)
    (λ (placed : State S). ((makes setting envelope placed).owed ≡ state.owed) × ((makes setting envelope placed).sent ≡ state.sent))
    (λ room. (refl, refl)) (λ full. placed state.sessions) where
      placed : (sessions : List Session) → ((without_first_session sessions state).owed ≡ state.owed) × ((without_first_session sessions state).sent ≡ state.sent)
      placed [] = (refl, refl)
      placed (session ∷ sessions) = (refl, refl)

module _ {S : Type 0} (known : Known S) (setting : Setting S) (envelope : Envelope) (mute : Mute) where
  made-mute : (state : State S) → mute.name ≢ name_in envelope → IsMute S mute Nothing state → IsMute S mute Nothing (makes setting envelope state)
  made-mute state apart m =
      let session = session_for setting envelope state.draw in
      let U : Option Session → Type 0 = IsUnheard mute in
      record { unheard = subst U (sym (last-other state.sessions session mute.name apart)) m.unheard; jobs = m.jobs; owed = m.owed; sent = m.sent }

  first-lost-mute : (sessions : List Session) (state : State S) → IsMute S mute Nothing state → IsMute S mute Nothing (without_first_session sessions state)
  first-lost-mute [] state m = m
  first-lost-mute (session ∷ sessions) state m = lost-mute known mute Nothing (name_of session) state m

  hears-by-mute : (state : State S) (found : Option Session) → session_named (name_in envelope) state.sessions ≡ found → (found ≡ None → mute.name ≢ name_in envelope)
      → IsMute S mute Nothing state → IsMute S mute Nothing (hears_by setting envelope found state)
  hears-by-mute state (Some session) is apart m =
      let U : Option Session → Type 0 = IsUnheard mute in
      record { unheard = subst U (sym (hears-stands setting envelope state session is mute.name)) m.unheard; jobs = m.jobs; owed = m.owed; sent = m.sent }
  hears-by-mute state None is apart m =
      cond_both (ltb (length state.sessions) sessions_max) state (without_first_session state.sessions state)
      (λ (placed : State S). IsMute S mute Nothing (makes setting envelope placed))
      (λ room. made-mute state (apart refl) m)
      (λ full. made-mute (without_first_session state.sessions state) (apart refl) (first-lost-mute state.sessions state m))

  hears-mute : (state : State S) → (session_named (name_in envelope) state.sessions ≡ None → mute.name ≢ name_in envelope) → IsMute S mute Nothing state
      → IsMute S mute Nothing (hears setting envelope state)
  hears-mute state apart m = hears-by-mute state (session_named (name_in envelope) state.sessions) refl apart m

  -- a packet for another session
  other-takes : (state : State S) (found : Option Session) → ((session : Session) → found ≡ Some session → mute.name ≢ name_of session) → IsMute S mute Nothing state
      → IsMute S mute Nothing (takes_by setting envelope found state)
  other-takes state None apart m = m
  other-takes state (Some session) apart m =
      let name = name_of session in
      let history = history_by setting envelope session in
      let judged = judgements (InEnvelope setting.now session.salts envelope.salt) (remembered session) (message_in envelope) in
      settles-mute known mute Nothing setting name (judged_by setting envelope session) (speaks name (opens setting history judged) state) (apart session refl)
      (opens-mute known mute Nothing setting history judged name state (apart session refl) m)

  -- its own packet
  own-takes : (state : State S) (session : Session) → mute.name ≡ name_in envelope → session_named (name_in envelope) (hears setting envelope state).sessions ≡ Some session
      → was_heard (history_by setting envelope session) ≡ false → IsMute S mute Nothing (hears setting envelope state)
      → IsMute S mute (Few 2 mute.first mute.unique) (takes setting envelope state)
  own-takes state session own found unheard m =
      let heard = hears setting envelope state in
      let P : Option Session → Type 0 = λ found. IsMute S mute (Few 2 mute.first mute.unique) (takes_by setting envelope found heard) in
      let N : Name → Type 0 = λ name. session_named name heard.sessions ≡ Some session in
      subst P (sym found)
      (mute-weaker mute (New setting mute 2) (Few 2 mute.first mute.unique) (takes_by setting envelope (Some session) heard) (λ said opening. inr opening)
      (takes-mute known setting mute envelope session heard (subst N (sym own) found) unheard m))

-- ---- a connection is opened for it

attaches-kept : {S : Type 0} (setting : Setting S) (mute : Mute) (speaker : Speaker S) → Stood S mute Nothing speaker
    → Kept S mute (Few 2 mute.first mute.unique) speaker.session (attaches setting speaker)
attaches-kept {S} setting mute speaker stood =
    let said = says_it_is_new setting speaker in
    let first = cond (has_accepted speaker.session) speaker said in
    let K : Speaker S → Type 0 = Kept S mute (Few 2 mute.first mute.unique) speaker.session in
    let P : List Reply → Type 0 = λ replies. K (fold (λ speaker reply. says_again reply speaker) first (filter is_kept replies)) in
    let opening = says-new setting mute speaker stood.name stood.unheard.0 stood.unheard.1 stood.owed in
    subst P (sym stood.unheard.2) (subst K (sym (cond-false (has_accepted speaker.session) speaker said stood.unheard.3)) (record {
      name = refl;
      unheard = stood.unheard;
      jobs = stood.jobs;
      owed = inr (opening.0, opening.1, opening.2, opening.3, (let few = opening.4 in omega arith), opening.5);
      sent = stood.sent;
    }))

-- ---- an event

begun-mute : {S : Type 0} (quiet : Quiet) (server : Server) (draw : S) (life : Life) → AreOrdered server.sessions server.jobs → Stands server life → was_heard life.history ≡ false
    → IsMute S (mute_of life) Nothing (begun server draw)
begun-mute quiet server draw life ordered stands unheard =
    let session = stands.0 in
    let O : Option Session → Type 0 = λ found. IsOrderlyAt found (jobs_of life.name server.jobs) in
    let orderly : IsOrderly session.history session.replies session.counters.last (jobs_of life.name server.jobs) = subst O stands.1 (ordered.each life.name) in
    let unheard_so : was_heard session.history ≡ false = ap was_heard stands.2.2 ∙ unheard in
    let U : Option Session → Type 0 = IsUnheard (mute_of life) in
    record {
      unheard =
          subst U (sym stands.1)
          (stands.2.0, stands.2.1, quiet.replies session.history session.replies session.counters.last (jobs_of life.name server.jobs) orderly unheard_so, unheard_so);
      jobs = no-jobs life.name server.jobs (quiet.jobs session.history session.replies session.counters.last (jobs_of life.name server.jobs) orderly unheard_so) any;
      owed = refl;
      sent = refl;
    }

module _ {S V : Type 0} (setting : Setting S) (serve : Step V) (fresh : V) (known : Known S) (quiet : Quiet) (floors : Floors) (before : Course S V)
    (ordered : AreOrdered before.server.sessions before.server.jobs) where
  -- the packets that an event made
  abbrev NewPackets : Mute → Course S V → Type 0
  NewPackets mute after = All (IsNew mute) (drop (length before.packets) after.packets)

  made-packets : (mute : Mute) (after : Course S V) (packets : List Sent) → after.packets ≡ before.packets ++ packets → All (IsNew mute) packets → NewPackets mute after
  made-packets mute after packets is all =
      let P : List Sent → Type 0 = All (IsNew mute) in
      subst P (sym (ap (drop (length before.packets)) is ∙ drop-append_seam before.packets packets)) all

  no-packets : (mute : Mute) (after : Course S V) → after.packets ≡ before.packets → NewPackets mute after
  no-packets mute after is =
      let P : List Sent → Type 0 = All (IsNew mute) in
      subst P (sym (ap (drop (length before.packets)) is ∙ nothing-new before.packets)) (All-nil (IsNew mute))

  -- what was said so far in an event that gives it nothing to say
  few-said : (at : Setting S) (mute : Mute) (state : State S) → IsMute S mute Nothing state → All (IsNew mute) (ended at state).packets
  few-said at mute state m = ended-new at mute state (mute-weaker mute Nothing (Few 2 mute.first mute.unique) state (λ said none. inl none) m)

  work-packets : (at : Setting S) (place : ℕ) (job : Option Job) (mute : Mute) → ready_job place before.server.jobs ≡ job → IsMute S mute Nothing (begun before.server before.draw)
      → NewPackets mute (worked before (after_run at place job serve before.service before.server before.draw))
  work-packets at place None mute is m =
      let state : State S = begun before.server before.draw in
      made-packets mute (worked before (after_run at place None serve before.service before.server before.draw)) (ended at state).packets refl (few-said at mute state m)
  work-packets at place (Some job) mute is m =
      let state : State S = begun before.server before.draw in
      let reply = (serve before.service job.request).0 in
      made-packets mute (worked before (after_run at place (Some job) serve before.service before.server before.draw)) (ended at (runs at place job reply state)).packets refl
      (few-said at mute (runs at place job reply state) (runs-mute known mute Nothing at place job reply state is m))

  attach-packets : (at : Setting S) (name : Name) (mute : Mute) → IsMute S mute Nothing (begun before.server before.draw)
      → All (IsNew mute) (ended at (speaks name (attaches at) (begun before.server before.draw))).packets
  attach-packets at name mute m =
      let state : State S = begun before.server before.draw in
      elim (cases_name mute.name name) [
        | inl own ↦
            let P : Name → Type 0 = λ name. All (IsNew mute) (ended at (speaks name (attaches at) state)).packets in
            subst P own
            (ended-new at mute (speaks mute.name (attaches at) state)
            (own-mute known mute Nothing (Few 2 mute.first mute.unique) (attaches at) state (λ none said is. inl is) (attaches-kept at mute) m))
        | inr off ↦ few-said at mute (speaks name (attaches at) state) (attach-mute known mute Nothing at name state off m)
      ]

  -- its own packet, which it is judged by
  own-packets : (moment : ℕ) (envelope : Envelope) (mute : Mute) (session : Session) → mute.name ≡ name_in envelope
      → heard_by (setting_at setting moment before.server) envelope before ≡ Some session
      → was_heard (history_by (setting_at setting moment before.server) envelope session) ≡ false
      → IsMute S mute Nothing (hears (setting_at setting moment before.server) envelope (begun before.server before.draw))
      → NewPackets mute (after_event setting serve fresh before (Packet moment (Some envelope)))
  own-packets moment envelope mute session own heard unheard m =
      let at = setting_at setting moment before.server in
      let state : State S = begun before.server before.draw in
      made-packets mute (after_event setting serve fresh before (Packet moment (Some envelope))) (ended at (takes at envelope state)).packets refl
      (ended-new at mute (takes at envelope state) (own-takes known at envelope mute state session own heard unheard m))

  packet-packets : (moment : ℕ) (envelope : Envelope) (life : Life) → Stands before.server life → was_heard (hearing setting before (Packet moment (Some envelope)) life).history ≡ false
      → was_heard life.history ≡ false
      → NewPackets (mute_of life) (after_event setting serve fresh before (Packet moment (Some envelope)))
  packet-packets moment envelope life stands later_unheard unheard =
      let at = setting_at setting moment before.server in
      let state : State S = begun before.server before.draw in
      let mute = mute_of life in
      let m = begun-mute quiet before.server before.draw life ordered stands unheard in
      elim (cases_name life.name (name_in envelope)) [
        | inl own ↦
            let session = stands.0 in
            let N : Name → Type 0 = λ name. session_named name before.server.sessions ≡ Some session in
            let found : session_named (name_in envelope) before.server.sessions ≡ Some session = subst N own stands.1 in
            let heard : heard_by at envelope before ≡ Some session =
            ap (λ (one : Option Session). session_named (name_in envelope) (hears_by at envelope one state).sessions) found
            ∙ (hears-stands at envelope state session found (name_in envelope) ∙ found) in
            let is : hearing setting before (Packet moment (Some envelope)) life ≡ with_packet at envelope (Some session) life =
            cond-true (is_same life.name (name_in envelope)) (with_packet at envelope (heard_by at envelope before) life) life (names-same life.name (name_in envelope) own)
            ∙ ap (λ (found : Option Session). with_packet at envelope found life) heard in
            own-packets moment envelope mute session own heard (ap (λ (life : Life). was_heard life.history) (sym is) ∙ later_unheard)
            (hears-mute known at envelope mute state (λ none. absurd (none-some session (sym none ∙ found))) m)
        | inr apart ↦
            let heard = hears at envelope state in
            made-packets mute (after_event setting serve fresh before (Packet moment (Some envelope))) (ended at (takes at envelope state)).packets refl
            (few-said at mute (takes at envelope state)
            (other-takes known at envelope mute heard (session_named (name_in envelope) heard.sessions)
            (λ session is same. apart (same ∙ found-named (name_in envelope) heard.sessions session is))
            (hears-mute known at envelope mute state (λ none. apart) m)))
      ]

  event-packets : (event : Event) (life : Life) → Stands before.server life → was_heard (hearing setting before event life).history ≡ false → was_heard life.history ≡ false
      → NewPackets (mute_of life) (after_event setting serve fresh before event)
  event-packets (Packet moment None) life stands later unheard = no-packets (mute_of life) (after_event setting serve fresh before (Packet moment None)) refl
  event-packets (Packet moment (Some envelope)) life stands later unheard = packet-packets moment envelope life stands later unheard
  event-packets (Work moment place) life stands later unheard =
      work-packets (setting_at setting moment before.server) place (ready_job place before.server.jobs) (mute_of life) refl
      (begun-mute quiet before.server before.draw life ordered stands unheard)
  event-packets (Tick moment) life stands later unheard =
      let at = setting_at setting moment before.server in
      let state : State S = begun before.server before.draw in
      made-packets (mute_of life) (after_event setting serve fresh before (Tick moment)) (ended at (ticks at state)).packets refl
      (few-said at (mute_of life) (ticks at state)
      (ticks-mute known (mute_of life) Nothing at state (begun-mute quiet before.server before.draw life ordered stands unheard)))
  event-packets (Attach moment name) life stands later unheard =
      let at = setting_at setting moment before.server in
      let state : State S = begun before.server before.draw in
      made-packets (mute_of life) (after_event setting serve fresh before (Attach moment name)) (ended at (speaks name (attaches at) state)).packets refl
      (attach-packets at name (mute_of life) (begun-mute quiet before.server before.draw life ordered stands unheard))
  event-packets (Loss name) life stands later unheard = no-packets (mute_of life) (after_event setting serve fresh before (Loss name)) refl
  event-packets Restart life stands later unheard = no-packets (mute_of life) (after_event setting serve fresh before Restart) refl

  -- ---- a life after an event

  own-new : (mute : Mute) (packets : List Sent) → All (IsNew mute) packets → All (λ packet. SaysNew mute.first mute.unique packet.envelope.body) (filter (is_packet_of mute.name) packets)
  own-new mute [] all = All-nil (λ (packet : Sent). SaysNew mute.first mute.unique packet.envelope.body)
  own-new mute (packet ∷ packets) all =
      let P : Sent → Type 0 = λ packet. SaysNew mute.first mute.unique packet.envelope.body in
      let rest = own-new mute packets (All-tail (IsNew mute) packet packets all) in
      cond_both (is_packet_of mute.name packet) (packet ∷ filter (is_packet_of mute.name) packets) (filter (is_packet_of mute.name) packets) (All P)
      (λ is. All-cons P packet (filter (is_packet_of mute.name) packets) (All-head (IsNew mute) packet packets all is) rest) (λ fails. rest)

  with-event : (after : Course S V) (life : Life) → IsAnnounced life → (was_heard life.history ≡ false → NewPackets (mute_of life) after) → IsAnnounced (with_event before after life)
  with-event after life announced new = λ unheard.
      All-append (λ (packet : Sent). SaysNew life.first life.unique packet.envelope.body) life.packets
      (filter (is_packet_of life.name) (drop (length before.packets) after.packets)) (announced unheard)
      (own-new (mute_of life) (drop (length before.packets) after.packets) (new unheard))

  mute-same : (one other : Life) → other.name ≡ one.name → other.first ≡ one.first → other.unique ≡ one.unique → mute_of one ≡ mute_of other
  mute-same one other name first unique =
      let N : Name → Mute = λ name. record { name = name; first = one.first; unique = one.unique } in
      let F : ℕ → Mute = λ first. record { name = other.name; first = first; unique = one.unique } in
      let U : ℕ → Mute = λ unique. record { name = other.name; first = other.first; unique = unique } in
      ap N (sym name) ∙ (ap F (sym first) ∙ ap U (sym unique))

  pub stood-announced : (event : Event) (life : Life) → Stands before.server life → IsAnnounced life
      → IsAnnounced (with_event before (after_event setting serve fresh before event) (hearing setting before event life))
  stood-announced event life stands announced =
      let after = after_event setting serve fresh before event in
      let later = hearing setting before event life in
      let h = hearing-adds floors setting before event life stands in
      let H : History → Type 0 = λ history. was_heard history ≡ false in
      let unheard_before : was_heard later.history ≡ false → was_heard life.history ≡ false = λ unheard.
      unheard-before life.history h.history.0 (subst H h.history.1 unheard) in
      let same : mute_of life ≡ mute_of later = mute-same life later h.name h.first h.unique in
      let M : Mute → Type 0 = λ mute. All (λ packet. SaysNew mute.first mute.unique packet.envelope.body) life.packets in
      let P : List Sent → Type 0 = λ packets. All (λ packet. SaysNew later.first later.unique packet.envelope.body) packets in
      let N : Mute → Type 0 = λ mute. NewPackets mute after in
      with-event after later
      (λ unheard. subst P (sym h.packets) (subst M same (announced (unheard_before unheard))))
      (λ unheard. subst N same (event-packets event life stands unheard (unheard_before unheard)))

  life-announced : (event : Event) (life : Life) → IsEven before.server life → IsAnnounced life
      → IsAnnounced (gone_on setting before (after_event setting serve fresh before event) event life)
  life-announced event life even announced =
      let after = after_event setting serve fresh before event in
      cond_both life.stands (with_event before after (hearing setting before event life)) life IsAnnounced
      (λ stands. let standing = even.standing stands in stood-announced event life (standing.0, standing.1, standing.2) announced) (λ gone. announced)

  -- ---- a life that begins

  born-announced : (moment : ℕ) (envelope : Envelope) (found heard : Option Session) → session_named (name_in envelope) before.server.sessions ≡ found
      → heard_by (setting_at setting moment before.server) envelope before ≡ heard
      → All (λ life. IsAnnounced (gone_on setting before (after_event setting serve fresh before (Packet moment (Some envelope))) (Packet moment (Some envelope)) life)) (newborn found heard)
  born-announced moment envelope None (Some session) none heard =
      let event = Packet moment (Some envelope) in
      let after = after_event setting serve fresh before event in
      let at = setting_at setting moment before.server in
      let state : State S = begun before.server before.draw in
      let jobs = unnamed-jobs (name_in envelope) before.server.sessions before.server.jobs ordered none in
      let start = begins at envelope state none jobs refl in
      let life = life_of session in
      let B : Session → Type 0 = λ session. IsBegun at envelope session (hears at envelope state) in
      let is : IsBegun at envelope session (hears at envelope state) = subst B (some-same start.0 session (sym start.1.0 ∙ heard)) start.1 in
      let own : name_of session ≡ name_in envelope = ap name_of is.1.1 in
      let mute : Mute = record { name = name_in envelope; first = session.first; unique = session.unique } in
      let R : Session → Type 0 = λ session. session.replies ≡ [] in
      let W : Session → Type 0 = λ session. was_heard session.history ≡ false in
      let U : Option Session → Type 0 = IsUnheard mute in
      let C : Option Session → Type 0 = λ found.
      Holds (record { name = name_in envelope; first = session.first; unique = session.unique; history = [] }) any 0 found (hears at envelope state).jobs (hears at envelope state).entries in
      let said = hears-said at envelope state (session_named (name_in envelope) state.sessions) in
      let m : IsMute S mute Nothing (hears at envelope state) = record {
        unheard = subst U (sym heard) (refl, refl, subst R (sym is.1.1) refl, subst W (sym is.1.1) refl);
        jobs = (let sum = (subst C heard (is.2 any)).1 in omega arith);
        owed = ap (messages_by mute.name) said.0;
        sent = said.1;
      } in
      let same : mute ≡ mute_of life = ap (λ (name : Name). record { name = name; first = session.first; unique = session.unique }) (sym own) in
      let later = hearing setting before event life in
      let later_is : later ≡ with_packet at envelope (Some session) life =
      cond-true (is_same life.name (name_in envelope)) (with_packet at envelope (heard_by at envelope before) life) life (names-same life.name (name_in envelope) own)
      ∙ ap (λ (found : Option Session). with_packet at envelope found life) heard in
      let P : Life → Type 0 = λ life. IsAnnounced (gone_on setting before after event life) in
      let A : Life → Type 0 = λ later. IsAnnounced (with_event before after later) in
      let N : Mute → Type 0 = λ mute. NewPackets mute after in
      All-cons P life []
      (subst A (sym later_is)
      (with-event after (with_packet at envelope (Some session) life)
      (λ unheard. All-nil (λ (packet : Sent). SaysNew life.first life.unique packet.envelope.body))
      (λ unheard. subst N same (own-packets moment envelope mute session refl heard unheard m))))
      (All-nil P)
  born-announced moment envelope None None none heard =
      All-nil (λ (life : Life). IsAnnounced (gone_on setting before (after_event setting serve fresh before (Packet moment (Some envelope))) (Packet moment (Some envelope)) life))
  born-announced moment envelope (Some session) found none heard =
      All-nil (λ (life : Life). IsAnnounced (gone_on setting before (after_event setting serve fresh before (Packet moment (Some envelope))) (Packet moment (Some envelope)) life))

  abbrev AfterEvent : Event → Life → Type 0
  AfterEvent event life = IsAnnounced (gone_on setting before (after_event setting serve fresh before event) event life)

  made-announced : (event : Event) → All (AfterEvent event) (made_by setting before event)
  made-announced (Packet moment (Some envelope)) =
      born-announced moment envelope (session_named (name_in envelope) before.server.sessions) (heard_by (setting_at setting moment before.server) envelope before) refl refl
  made-announced (Packet moment None) = All-nil (AfterEvent (Packet moment None))
  made-announced (Work moment place) = All-nil (AfterEvent (Work moment place))
  made-announced (Tick moment) = All-nil (AfterEvent (Tick moment))
  made-announced (Attach moment name) = All-nil (AfterEvent (Attach moment name))
  made-announced (Loss name) = All-nil (AfterEvent (Loss name))
  made-announced Restart = All-nil (AfterEvent Restart)

  pub event-announced : (event : Event) (lives : List Life) → All (λ life. IsEven before.server life × IsRecorded life) lives → All IsAnnounced lives
      → All IsAnnounced (lives_after setting before (after_event setting serve fresh before event) event lives)
  event-announced event lives even all =
      let after = after_event setting serve fresh before event in
      All-map IsAnnounced (gone_on setting before after event) (lives ++ made_by setting before event)
      (All-append (AfterEvent event) lives (made_by setting before event)
      (λ k d within. life-announced event (get_or lives k d) (even k d within).0 (all k d within)) (made-announced event))

-- ---- all events

pub told-announced : {S V : Type 0} (setting : Setting S) (serve : Step V) (fresh : V) (laws : Laws S V setting serve fresh) (quiet : Quiet) (floors : Floors) (events : List Event) (told : Told S V)
    → AreLives S V told → All IsAnnounced told.lives → All IsAnnounced (told_from setting serve fresh told events).lives
told-announced setting serve fresh laws quiet floors [] told are all = all
told-announced setting serve fresh laws quiet floors (event ∷ events) told are all =
    told-announced setting serve fresh laws quiet floors events (told_after setting serve fresh told event)
    (record {
      ordered = laws.ordered told.course event are.ordered;
      lives = event-lives setting serve fresh laws told.course are.ordered event told.lives are.lives;
    })
    (event-announced setting serve fresh laws.speech quiet floors told.course are.ordered event told.lives are.lives all)
