-- Each event leaves all as it has to be, and what it owes, and the packets that it makes.
use Rattle.std.proofs.Common.{◌≡◌, ◌∙◌, ℕ, zero, suc, ltb, ◌<◌, ◌^◌, Bool, true, false, cond, Option, Some, None, List, [], ◌∷◌, length, sym, subst, refl}
use Rattle.std.specs.Prelude.{map, fold, not}
use Rattle.std.specs.List.{AllByRecursion, filter, zip}
use Rattle.std.proofs.lemmas.Bool.{cond_both}
use Rattle.draws.specs.Draws.{draw_after, next_bytes}
use Rattle.service_tl.specs.declared.item.Item.TheVariants.{DestroySession, DestroySessionOk, DestroySessionNone}
use Rattle.service_tl.specs.declared.lists.Message.{Message}
use Rattle.salt_line.specs.Line.{current_salt}
use Rattle.packing.specs.Packing.{after_packets, groups, packets_of}
use Rattle.inbox.specs.Verdicts.{Judgement, Verdict, Accepted, Again, Noticed}
use Rattle.inbox.specs.Refusals.{InEnvelope}
use Rattle.inbox.specs.Judging.{judgements, session_after}
use Rattle.waits.specs.declared.job.Job.{Job}
use Rattle.waits.specs.declared.job.Unfinished.{Unfinished}
use Rattle.waits.specs.Jobs.{Queue, first_job, has_failed, is_of, is_overdue, is_ready, without_first, without_ready}
use Rattle.server_rules.specs.Server.{Name, Reply, Server, Session, has_accepted, is_kept, name_of, is_named, is_same, session_named, with_session, without_session, remembered, sessions_max}
use Rattle.server_rules.specs.Event.{Setting, State, Speaker, Envelope, Owed, Sent, speaker_in, spoken_by, speaks, lost}
use Rattle.server_rules.specs.Speaking.{has_said, message_of, needs_salts, owes_message, says, says_again, says_it_is_new, msg_wait_failed, msg_wait_timeout}
use Rattle.server_rules.specs.Waiting.{given_up, gives_up, first_given_up, all_given_up, after_failures, after_timeouts, tells_of}
use Rattle.server_rules.specs.Rows.{settles, row, owes, destroys}
use Rattle.server_rules.specs.Sending.{envelope_of, messages_by, names_in, padding_bytes, seals, sends, all_sent}
use Rattle.server_rules.specs.Answer.{name_in, message_in, messages_judged, finishes, hears, hears_by, makes, session_for, without_first as without_first_session, opens, takes, takes_by, attaches, runs, ticks, is_spent, begun, without_spent}
use Rattle.law_server_bounds.specs.Small.{AreGivenTo, AreSmall, DrawsWords, IsGivenTo, IsSmallEnvelope, IsSmallJob, IsSmallOwed, IsSmallReply, IsSmallSession, IsSmallState, IsWhole, IsWholeSent, IsContent}
use Rattle.law_server_bounds.proofs.SizeContents.{failed-content, timeout-content}
use Rattle.law_server_bounds.proofs.Judging.{AreLawful, IsSmallBoth, history-small, judgements-small, zipped-small, AreRead}
use Rattle.law_server_bounds.proofs.SizeLists.{all-filter, all-map, all-push, both-all, filter-tested, find-all, weaker}
use Rattle.law_server_bounds.proofs.SizeNames.{names-apart, same-names}
use Rattle.law_server_bounds.proofs.Packets.{ArePackets, AreSized, HaveAll, IsReady, IsWholeOuter, outers-go, packets-whole}
use Rattle.law_server_bounds.proofs.SizeRows.{IsSmallCall, IsSmallVerdict, first-small, finished, given, left-small, new-said, opened, owed-so, told-so}
use Rattle.law_server_bounds.proofs.Speaking.{Says, counters-on, repeated, said, salted, salt-small}

-- the session of this place among the ready jobs
pub ready-left : (place : ℕ) (jobs : Queue) → AllByRecursion IsSmallJob jobs → AllByRecursion IsSmallJob (without_ready place jobs)
ready-left place [] small = tt
ready-left zero (one ∷ others) small =
    cond_both (is_ready one) others (one ∷ without_ready zero others) (λ (left : Queue). AllByRecursion IsSmallJob left) (λ is. small.1) (λ is. (small.0, ready-left zero others small.1))
ready-left (suc place) (one ∷ others) small =
    (small.0, ready-left (cond (is_ready one) place (suc place)) others small.1)

-- ---- an event so far

-- with the packets that it made
pub record Good {S : Type 0} (state : State S) : Type 0 where
  pub kept : AllByRecursion IsSmallSession state.sessions
  pub jobs : AllByRecursion IsSmallJob state.jobs
  pub owed : AllByRecursion IsSmallOwed state.owed
  pub given : AllByRecursion (AreGivenTo state.owed) state.sessions
  pub sent : AllByRecursion IsWholeSent state.sent

pub small-state : {S : Type 0} (state : State S) → Good state → IsSmallState state
small-state state good = record { kept = record { sessions = good.kept; jobs = good.jobs }; owed = good.owed; given = good.given }

pub good-state : {S : Type 0} (state : State S) → IsSmallState state → state.sent ≡ [] → Good state
good-state state small none =
    record {
      kept = small.kept.sessions;
      jobs = small.kept.jobs;
      owed = small.owed;
      given = small.given;
      sent = subst (λ (sent : List Sent). AllByRecursion IsWholeSent sent) (sym none) tt;
    }

module _ {S : Type 0} (setting : Setting S) (draws : DrawsWords setting) where
  -- ---- one session speaks

  -- what is so of it and was so of the others is so of all
  replaced : (P Q : Session → Type 0) (session : Session) (sessions : List Session) → ((other : Session) → is_named (name_of session) other ≡ false → P other → Q other) → Q session
      → AllByRecursion P sessions → AllByRecursion Q (with_session session sessions)
  replaced P Q session sessions keeps is all =
      all-map P Q (λ other. cond (is_named (name_of session) other) session other) sessions
      (λ other before. cond_both (is_named (name_of session) other) session other Q (λ same. is) (λ apart. keeps other apart before)) all

  by-speaks : (found : Option Session) (name : Name) (speak : Speaker S → Speaker S) (state : State S) → session_named name state.sessions ≡ found
      → ((session : Session) → session_named name state.sessions ≡ Some session → (x : Speaker S) → x ≡ speaker_in state session → Says (name_of session) state.owed x → Says (name_of session) state.owed (speak x))
      → Good state → Good (spoken_by found speak state)
  by-speaks None name speak state is keeps good = good
  by-speaks (Some session) name speak state is keeps good =
      let own = name_of session in
      let x = speaker_in state session in
      let small = (find-all IsSmallSession (is_named name) state.sessions session good.kept is).0 in
      let owed = (find-all (AreGivenTo state.owed) (is_named name) state.sessions session good.given is).0 in
      let before : Says own state.owed x = record {
        named = refl;
        small = small;
        jobs = good.jobs;
        owed = good.owed;
        given = owed;
        others = λ other counters apart given. given;
        sent = good.sent;
      } in
      let after = keeps session is x refl before in
      let later = (speak x).session in
      let Given : Name → Type 0 = λ name. AllByRecursion (IsGivenTo name later.counters) (speak x).owed in
      record {
        kept = replaced IsSmallSession IsSmallSession later state.sessions (λ other apart one. one) after.small good.kept;
        jobs = after.jobs;
        owed = after.owed;
        given =
            replaced (AreGivenTo state.owed) (AreGivenTo (speak x).owed) later state.sessions
            (λ other apart one. after.others (name_of other) other.counters (λ same. names-apart (name_of later) (name_of other) apart (after.named ∙ same)) one)
            (subst Given (sym after.named) after.given) good.given;
        sent = after.sent;
      }

  speaks-good : (name : Name) (speak : Speaker S → Speaker S) (state : State S) → ((own : Name) (x : Speaker S) → Says own state.owed x → Says own state.owed (speak x))
      → Good state → Good (speaks name speak state)
  speaks-good name speak state keeps good =
      by-speaks (session_named name state.sessions) name speak state refl (λ session is x from p. keeps (name_of session) x p) good

  lost-good : (name : Name) (state : State S) → Good state → Good (lost name state)
  lost-good name state good =
      record {
        kept = all-filter IsSmallSession (λ session. not (is_named name session)) state.sessions good.kept;
        jobs = all-filter IsSmallJob (λ one. not (is_of name.key name.session one)) state.jobs good.jobs;
        owed = good.owed;
        given = all-filter (AreGivenTo state.owed) (λ session. not (is_named name session)) state.sessions good.given;
        sent = good.sent;
      }

  jobs-good : (queue : Queue) (state : State S) → AllByRecursion IsSmallJob queue → Good state → Good (record state { jobs = queue })
  jobs-good queue state small good = record { kept = good.kept; jobs = small; owed = good.owed; given = good.given; sent = good.sent }

  -- ---- jobs that are given up

  given-good : (content : List ℕ) (job : Option Job) (state : State S) → IsContent content → IsSmallCall job → Good state → Good (given_up setting content job state)
  given-good content None state words small good = good
  given-good content (Some job) state words small good =
      speaks-good (record { key = job.key; session = job.session }) (gives_up setting content job) state
      (λ own x p. given setting draws own state.owed content job x small words p) good

  all-good : (content : List ℕ) (test : Unfinished → Bool) (n : ℕ) (state : State S) → IsContent content → Good state
      → Good (all_given_up setting content (λ queue. (first_job test queue, without_first test queue)) n state)
  all-good content test zero state words good = good
  all-good content test (suc n) state words good =
      let first : Queue → Option Job × Queue = λ queue. (first_job test queue, without_first test queue) in
      let rest : State S = record state { jobs = without_first test state.jobs } in
      all-good content test n (first_given_up setting content first state) words
      (given-good content (first_job test state.jobs) rest words (first-small test state.jobs good.jobs)
      (jobs-good (without_first test state.jobs) state (left-small test state.jobs good.jobs) good))

  failures-good : (state : State S) → Good state → Good (after_failures setting state)
  failures-good state good = all-good msg_wait_failed has_failed (length state.jobs) state failed-content good

  timeouts-good : (state : State S) → Good state → Good (after_timeouts setting state)
  timeouts-good state good = all-good msg_wait_timeout (is_overdue setting.now) (length state.jobs) state timeout-content good

  -- ---- a packet

  destroys-good : (number destroyed : ℕ) (name : Name) (state : State S) → Good state → Good (destroys setting number destroyed name state)
  destroys-good number destroyed name state good =
      let other : Name = record name { session = destroyed } in
      cond_both _ _ _ Good
      (λ is. speaks-good name (says setting (DestroySessionOk destroyed)) (lost other state) (λ own x p. said setting own state.owed (DestroySessionOk destroyed) x tt p) (lost-good other state good))
      (λ is. speaks-good name (says setting (DestroySessionNone destroyed)) state (λ own x p. said setting own state.owed (DestroySessionNone destroyed) x tt p) good)

  owed-good : (name : Name) (number seq : ℕ) (verdict : Verdict) (body : List ℕ) (state : State S) → number < 2 ^ 64 → IsSmallVerdict verdict → Good state
      → Good (speaks name (owes setting number seq verdict body) state)
  owed-good name number seq verdict body state fits small good =
      speaks-good name (owes setting number seq verdict body) state (λ own x p. owed-so setting draws own state.owed number seq verdict body x fits small p) good

  row-good : (name : Name) (number seq : ℕ) (verdict : Verdict) (body : List ℕ) (state : State S) → number < 2 ^ 64 → IsSmallVerdict verdict → Good state
      → Good (row setting name number seq verdict body state)
  row-good name number seq (Accepted (DestroySession destroyed)) body state fits small good = destroys-good number destroyed name state good
  row-good name number seq (Accepted item) body state fits small good = owed-good name number seq (Accepted item) body state fits small good
  row-good name number seq (Again mark) body state fits small good = owed-good name number seq (Again mark) body state fits small good
  row-good name number seq (Noticed code) body state fits small good = owed-good name number seq (Noticed code) body state fits small good

  settle-good : (name : Name) (judged : List (Judgement × List ℕ)) (state : State S) → AllByRecursion IsSmallBoth judged → Good state → Good (fold (settles setting name) state judged)
  settle-good name [] state small good = good
  settle-good name ((judgement, body) ∷ judged) state small good =
      let done = row setting name judgement.number judgement.seq judgement.verdict body state in
      settle-good name judged (settles setting name state (judgement, body)) small.1
      (failures-good (speaks name (tells_of judgement.number) done)
      (speaks-good name (tells_of judgement.number) done (λ own x p. told-so setting draws own done.owed judgement.number x p)
      (row-good name judgement.number judgement.seq judgement.verdict body state small.0.0 small.0.1 good)))

  module _ (lawful : AreLawful) (read : AreRead) where
    takes-good : (envelope : Envelope) (found : Option Session) (state : State S) → IsSmallEnvelope envelope → session_named (name_in envelope) state.sessions ≡ found → Good state
        → Good (takes_by setting envelope found state)
    takes-good envelope None state small is good = good
    takes-good envelope (Some session) state small is good =
        let way = InEnvelope setting.now session.salts envelope.salt in
        let message = message_in envelope in
        let judged = judgements way (remembered session) message in
        let later = (session_after way (remembered session) message).history in
        let name = name_of session in
        let own = (find-all IsSmallSession (is_named (name_in envelope)) state.sessions session good.kept is).0 in
        let history = history-small lawful read way (remembered session) message small.number small.bytes own.history in
        let are = judgements-small lawful read way (remembered session) message small.number small.bytes in
        let bodies = map (λ (one : Message). one.body) (messages_judged way session message) in
        settle-good name (zip judged bodies) (speaks name (opens setting later judged) state)
        (zipped-small judged bodies are.0)
        (speaks-good name (opens setting later judged) state (λ one x p. opened setting draws one state.owed later judged x history are.1 p) good)

  -- the session that is made
  made-small : (envelope : Envelope) (draw : S) → IsSmallEnvelope envelope → IsSmallSession (session_for setting envelope draw)
  made-small envelope draw small =
      record { key = small.key; number = small.session; unique = draws draw; salts = (draws (draw_after setting.step 1 draw), tt); history = tt; replies = tt }

  none-given : (session : Session) (all : List Owed) → all ≡ [] → AreGivenTo all session
  none-given session all none = subst (λ (all : List Owed). AreGivenTo all session) (sym none) tt

  made-good : (envelope : Envelope) (state : State S) → IsSmallEnvelope envelope → state.owed ≡ [] → Good state → Good (makes setting envelope state)
  made-good envelope state small none good =
      let session = session_for setting envelope state.draw in
      record {
        kept = all-push IsSmallSession state.sessions session good.kept (made-small envelope state.draw small);
        jobs = good.jobs;
        owed = good.owed;
        given = all-push (AreGivenTo state.owed) state.sessions session good.given (none-given session state.owed none);
        sent = good.sent;
      }

  place-good : (envelope : Envelope) (sessions : List Session) (state : State S) → IsSmallEnvelope envelope → state.owed ≡ [] → Good state → Good (makes setting envelope (without_first_session sessions state))
  place-good envelope [] state small none good = made-good envelope state small none good
  place-good envelope (session ∷ sessions) state small none good = made-good envelope (lost (name_of session) state) small none (lost-good (name_of session) state good)

  pub hears-good : (envelope : Envelope) (found : Option Session) (state : State S) → session_named (name_in envelope) state.sessions ≡ found → IsSmallEnvelope envelope → state.owed ≡ [] → Good state
      → Good (hears_by setting envelope found state)
  hears-good envelope (Some session) state is small none good =
      let own = (find-all IsSmallSession (is_named (name_in envelope)) state.sessions session good.kept is).0 in
      let test : Session → Bool = λ other. not (is_named (name_of session) other) in
      record {
        kept = all-push IsSmallSession (without_session (name_of session) state.sessions) session (all-filter IsSmallSession test state.sessions good.kept) own;
        jobs = good.jobs;
        owed = good.owed;
        given =
            all-push (AreGivenTo state.owed) (without_session (name_of session) state.sessions) session (all-filter (AreGivenTo state.owed) test state.sessions good.given)
            (none-given session state.owed none);
        sent = good.sent;
      }
  hears-good envelope None state is small none good =
      cond_both (ltb (length state.sessions) sessions_max) state (without_first_session state.sessions state) (λ (placed : State S). Good (makes setting envelope placed))
      (λ room. made-good envelope state small none good) (λ full. place-good envelope state.sessions state small none good)

  pub begun-good : (server : Server) (draw : S) → AreSmall server.sessions server.jobs → Good (begun server draw)
  begun-good server draw small =
      record {
        kept = small.sessions;
        jobs = small.jobs;
        owed = tt;
        given = weaker IsSmallSession (AreGivenTo []) server.sessions (λ session one. tt) small.sessions;
        sent = tt;
      }

  pub packet-good : AreLawful → AreRead → (envelope : Envelope) (server : Server) (draw : S) → IsSmallEnvelope envelope → AreSmall server.sessions server.jobs
      → Good (takes setting envelope (begun server draw))
  packet-good lawful read envelope server draw small kept =
      let state = begun server draw in
      let heard = hears setting envelope state in
      takes-good lawful read envelope (session_named (name_in envelope) heard.sessions) heard small refl
      (hears-good envelope (session_named (name_in envelope) state.sessions) state refl small refl (begun-good server draw kept))

  -- ---- other events

  pub tick-good : (server : Server) (draw : S) → AreSmall server.sessions server.jobs → Good (ticks setting (begun server draw))
  tick-good server draw kept =
      let state = begun server draw in
      failures-good (after_timeouts setting state) (timeouts-good state (begun-good server draw kept))

  pub run-good : (place : ℕ) (job : Job) (reply : List ℕ) (server : Server) (draw : S) → job.number < 2 ^ 64 → IsContent reply → AreSmall server.sessions server.jobs
      → Good (runs setting place job reply (begun server draw))
  run-good place job reply server draw fits words kept =
      let state = begun server draw in
      let rest : State S = record state { jobs = without_ready place state.jobs } in
      let name : Name = record { key = job.key; session = job.session } in
      failures-good (speaks name (finishes setting job reply) rest)
      (speaks-good name (finishes setting job reply) rest (λ own x p. finished setting draws own rest.owed job reply x fits words p)
      (jobs-good (without_ready place server.jobs) state (ready-left place server.jobs kept.jobs) (begun-good server draw kept)))

  all-again : (own : Name) (past : List Owed) (replies : List Reply) (x : Speaker S) → AllByRecursion (IsSmallReply x.session.counters) replies → Says own past x
      → Says own past (fold (λ speaker reply. says_again reply speaker) x replies)
  all-again own past [] x small p = p
  all-again own past (reply ∷ replies) x small p =
      let rest : AllByRecursion (IsSmallReply (says_again reply x).session.counters) replies =
      cond_both (has_said reply.number x) x (owes_message (message_of reply) x) (λ (y : Speaker S). AllByRecursion (IsSmallReply y.session.counters) replies) (λ is. small.1) (λ is. small.1) in
      all-again own past replies (says_again reply x) rest (repeated setting own past reply x small.0 p)

  attached : (own : Name) (past : List Owed) (x : Speaker S) → Says own past x → Says own past (attaches setting x)
  attached own past x p =
      let kept = filter is_kept x.session.replies in
      let P : Speaker S → Type 0 = λ y. Says own past (fold (λ speaker reply. says_again reply speaker) y kept) in
      let replies = all-filter (IsSmallReply x.session.counters) is_kept x.session.replies p.small.replies in
      cond_both (has_accepted x.session) x (says_it_is_new setting x) P (λ is. all-again own past kept x replies p)
      (λ is.
      let new = says_it_is_new setting x in
      let is_new = new-said setting draws own past x p in
      all-again own past kept new (all-filter (IsSmallReply new.session.counters) is_kept x.session.replies is_new.small.replies) is_new)

  pub attach-good : (name : Name) (server : Server) (draw : S) → AreSmall server.sessions server.jobs → Good (speaks name (attaches setting) (begun server draw))
  attach-good name server draw kept =
      let state = begun server draw in
      speaks-good name (attaches setting) state (λ own x p. attached own state.owed x p) (begun-good server draw kept)

  -- ---- the end

  module _ (sized : AreSized) (have : HaveAll) (packets : ArePackets) where
    whole-sent : (salt : ℕ) (outer : Message) (x : Speaker S) → salt < 2 ^ 64 → IsSmallSession x.session → IsWholeOuter outer → IsWhole (envelope_of salt x outer)
    whole-sent salt outer x word small whole =
        record {
          group = whole.group;
          body = whole.body;
          messages = whole.messages;
          key = small.key;
          salt = word;
          session = small.number;
          bytes = whole.bytes;
          words = whole.words;
          short = whole.short;
          whole = whole.whole;
        }

    sealed : (own : Name) (past : List Owed) (salt : ℕ) (outers : List Message) (x : Speaker S) → salt < 2 ^ 64 → AllByRecursion IsWholeOuter outers → Says own past x
        → Says own past (fold (seals setting salt) x outers)
    sealed own past salt [] x word whole p = p
    sealed own past salt (outer ∷ outers) x word whole p =
        let bytes = padding_bytes (length outer.body) in
        let one : Sent = record { envelope = envelope_of salt x outer; padding = next_bytes setting.step bytes x.draw } in
        sealed own past salt outers (seals setting salt x outer) word whole.1
        (record {
          named = p.named;
          small = p.small;
          jobs = p.jobs;
          owed = p.owed;
          given = p.given;
          others = p.others;
          sent = all-push IsWholeSent x.sent one p.sent (whole-sent salt outer x word p.small whole.0);
        })

    sends-so : (own : Name) (past : List Owed) (messages : List Message) (x : Speaker S) → AllByRecursion (IsReady x.session.counters) messages → Says own past x
        → Says own past (sends setting messages x)
    sends-so own past messages x all p =
        let ready = needs_salts setting 1 x in
        let is_ready = salted setting own past draws 1 x p in
        let counters = after_packets setting.now ready.session.counters messages in
        let done : Speaker S = record ready { session = record ready.session { counters = counters } } in
        sealed own past (current_salt ready.session.salts setting.now) (packets_of setting.now ready.session.counters messages) done (salt-small setting.now ready.session.salts is_ready.small.salts)
        (packets-whole sized have packets setting.now ready.session.counters messages all)
        (counters-on setting own past counters ready.session ready.jobs ready.owed ready.sent (outers-go setting.now ready.session.counters (groups messages)) is_ready)

    -- the messages of a name are its own, and were given their numbers
    messages-ready : (name : Name) (session : Session) (all : List Owed) → is_named name session ≡ true → AllByRecursion IsSmallOwed all → AreGivenTo all session
        → AllByRecursion (IsReady session.counters) (messages_by name all)
    messages-ready name session all named small owed =
        let test : Owed → Bool = λ one. is_same name one.name in
        let First : Owed → Type 0 = λ one. IsSmallOwed one × IsGivenTo (name_of session) session.counters one in
        let is : name ≡ name_of session = same-names name (name_of session) named in
        all-map (λ (one : Owed). First one × (test one ≡ true)) (IsReady session.counters) (λ one. one.message) (filter test all)
        (λ one both. (both.0.0, both.0.1 (sym (same-names name one.name both.1) ∙ is)))
        (filter-tested First test all (both-all IsSmallOwed (IsGivenTo (name_of session) session.counters) all small owed))

    send-good : (name : Name) (all : List Owed) (state : State S) → state.owed ≡ all → Good state → Good (speaks name (sends setting (messages_by name all)) state)
    send-good name all state same good =
        by-speaks (session_named name state.sessions) name (sends setting (messages_by name all)) state refl
        (λ session is x from p.
        let both = find-all (AreGivenTo state.owed) (is_named name) state.sessions session good.given is in
        let Ready : List Owed → Type 0 = λ all. AllByRecursion (IsReady session.counters) (messages_by name all) in
        let ready = subst Ready same (messages-ready name session state.owed both.1 good.owed both.0) in
        let R : Speaker S → Type 0 = λ x. AllByRecursion (IsReady x.session.counters) (messages_by name all) in
        sends-so (name_of session) state.owed (messages_by name all) x (subst R (sym from) ready) p) good

    sends-owed : (messages : List Message) (salt : ℕ) (outers : List Message) (x : Speaker S) → (fold (seals setting salt) x outers).owed ≡ x.owed
    sends-owed messages salt [] x = refl
    sends-owed messages salt (outer ∷ outers) x = sends-owed messages salt outers (seals setting salt x outer)

    send-owed : (found : Option Session) (messages : List Message) (state : State S) → (spoken_by found (sends setting messages) state).owed ≡ state.owed
    send-owed None messages state = refl
    send-owed (Some session) messages state =
        let x = speaker_in state session in
        let ready = needs_salts setting 1 x in
        let counters = after_packets setting.now ready.session.counters messages in
        sends-owed messages (current_salt ready.session.salts setting.now) (packets_of setting.now ready.session.counters messages)
        (record ready { session = record ready.session { counters = counters } })

    all-sent-good : (names : List Name) (all : List Owed) (state : State S) → state.owed ≡ all → Good state
        → Good (fold (λ so_far name. speaks name (sends setting (messages_by name all)) so_far) state names)
    all-sent-good [] all state same good = good
    all-sent-good (name ∷ names) all state same good =
        let next = speaks name (sends setting (messages_by name all)) state in
        all-sent-good names all next (send-owed (session_named name state.sessions) (messages_by name all) state ∙ same) (send-good name all state same good)

    spent-good : (spent : List Session) (state : State S) → Good state → Good (fold (λ so_far session. lost (name_of session) so_far) state spent)
    spent-good [] state good = good
    spent-good (session ∷ spent) state good = spent-good spent (lost (name_of session) state) (lost-good (name_of session) state good)

    pub sent-good : (state : State S) → Good state → Good (all_sent setting state)
    sent-good state good = all-sent-good (names_in state.owed) state.owed state refl good

    pub end-good : (state : State S) → Good state → Good (without_spent (all_sent setting state))
    end-good state good =
        let sent = all_sent setting state in
        spent-good (filter is_spent sent.sessions) sent (sent-good state good)
