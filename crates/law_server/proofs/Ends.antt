-- One session and its account at the end of an event.
use Rattle.std.proofs.Common.{◌≡◌, ℕ, cond, Some, List, [], ◌∷◌, refl}
use Rattle.std.specs.Prelude.{fold}
use Rattle.std.specs.List.{filter}
use Rattle.std.proofs.lemmas.Bool.{cond_both}
use Rattle.id_window.specs.History.{History}
use Rattle.salt_line.specs.Line.{current_salt}
use Rattle.packing.specs.Packing.{packets_of, after_packets}
use Rattle.service_tl.specs.declared.lists.Message.{Message}
use Rattle.waits.specs.declared.job.Job.{Job}
use Rattle.waits.specs.Jobs.{ready_job, without_ready}
use Rattle.server_rules.specs.Server.{Name, Session, Reply, name_of, session_named, is_kept, has_accepted}
use Rattle.server_rules.specs.Event.{Setting, State, Speaker, Owed, speaks, lost}
use Rattle.server_rules.specs.Speaking.{says_again, says_it_is_new, needs_salts, has_said}
use Rattle.server_rules.specs.Waiting.{after_timeouts}
use Rattle.server_rules.specs.Sending.{names_in, messages_by, seals, sends, all_sent}
use Rattle.server_rules.specs.Answer.{attaches, finishes, runs, ticks, is_spent, ended}
use Rattle.law_server.proofs.Counting.{Test}
use Rattle.law_server.proofs.Accounts.{none, Still, still-account}
use Rattle.law_server.proofs.Going.{Who, Holds, HoldsIn, Spoke, spoke-said, Known, speaks-same, lost-holds, failures-hold, timeouts-hold, run-holds}
use Rattle.law_server.proofs.Packets.{quiet}

-- ---- packets are sealed

seals-spoke : {S : Type 0} (setting : Setting S) (salt : ℕ) (packets : List Message) (judged : History) (before after : Speaker S) → Spoke S judged none before after
    → Spoke S judged none before (fold (seals setting salt) after packets)
seals-spoke setting salt [] judged before after spoke = spoke
seals-spoke setting salt (packet ∷ packets) judged before after spoke =
    seals-spoke setting salt packets judged before (seals setting salt after packet) (record {
      name = spoke.name;
      first = spoke.first;
      unique = spoke.unique;
      history = spoke.history;
      account = record { own = spoke.account.own; others = spoke.account.others };
      entries = spoke.entries;
    })

sends-spoke : {S : Type 0} (setting : Setting S) (messages : List Message) (speaker : Speaker S) → Spoke S speaker.session.history none speaker (sends setting messages speaker)
sends-spoke {S} setting messages speaker =
    let ready = needs_salts setting 1 speaker in
    let counters = after_packets setting.now ready.session.counters messages in
    let numbered : Speaker S = record ready { session = record ready.session { counters = counters } } in
    seals-spoke setting (current_salt ready.session.salts setting.now) (packets_of setting.now ready.session.counters messages) speaker.session.history speaker numbered
    (quiet speaker.session.history speaker numbered refl refl refl refl (refl, refl))

-- ---- a connection is opened

attached-still : {S : Type 0} (replies : List Reply) (before after : Speaker S) → Still S before after
    → Still S before (fold (λ speaker reply. says_again reply speaker) after replies)
attached-still [] before after still = still
attached-still {S} (reply ∷ replies) before after still =
    attached-still replies before (says_again reply after)
    (cond_both (has_said reply.number after) after _ (Still S before) (λ is. still) (λ is. still))

pub attaches-still : {S : Type 0} (setting : Setting S) (speaker : Speaker S) → Still S speaker (attaches setting speaker)
attaches-still {S} setting speaker =
    attached-still (filter is_kept speaker.session.replies) speaker (cond (has_accepted speaker.session) speaker (says_it_is_new setting speaker))
    (cond_both (has_accepted speaker.session) speaker (says_it_is_new setting speaker) (Still S speaker) (λ is. (refl, refl)) (λ is. (refl, refl)))

module _ {S : Type 0} (known : Known S) (setting : Setting S) (who : Who) (test : Test) (total : ℕ) where
  pub attach-holds : (name : Name) (state : State S) → HoldsIn who test total state → HoldsIn who test total (speaks name (attaches setting) state)
  attach-holds name state holds =
      speaks-same known who test total name (attaches setting) state
      (λ speaker. spoke-said none speaker (attaches setting speaker) (known.attaches setting speaker) (still-account speaker (attaches setting speaker) (attaches-still setting speaker)))
      holds

  -- ---- the end of an event

  sent-by : (owed : List Owed) (names : List Name) (state : State S) → HoldsIn who test total state
      → HoldsIn who test total (fold (λ so_far name. speaks name (sends setting (messages_by name owed)) so_far) state names)
  sent-by owed [] state holds = holds
  sent-by owed (name ∷ names) state holds =
      sent-by owed names (speaks name (sends setting (messages_by name owed)) state)
      (speaks-same known who test total name (sends setting (messages_by name owed)) state (sends-spoke setting (messages_by name owed)) holds)

  all-lost : (spent : List Session) (state : State S) → HoldsIn who test total state
      → HoldsIn who test total (fold (λ so_far session. lost (name_of session) so_far) state spent)
  all-lost [] state holds = holds
  all-lost (session ∷ spent) state holds = all-lost spent (lost (name_of session) state) (lost-holds known who test total (name_of session) state holds)

  pub ended-holds : (state : State S) → HoldsIn who test total state
      → Holds who test total (session_named who.name (ended setting state).server.sessions) (ended setting state).server.jobs (ended setting state).entries
  ended-holds state holds =
      let sent = all_sent setting state in
      all-lost (filter is_spent sent.sessions) sent (sent-by state.owed (names_in state.owed) state holds)

  pub ticks-hold : (state : State S) → HoldsIn who test total state → HoldsIn who test total (ticks setting state)
  ticks-hold state holds = failures-hold known setting who test total (after_timeouts setting state) (timeouts-hold known setting who test total state holds)

  pub runs-hold : (place : ℕ) (job : Job) (reply : List ℕ) (state : State S) → ready_job place state.jobs ≡ Some job
      → HoldsIn who test total state → HoldsIn who test total (runs setting place job reply state)
  runs-hold place job reply state is holds =
      failures-hold known setting who test total
      (speaks (record { key = job.key; session = job.session }) (finishes setting job reply) (record state { jobs = without_ready place state.jobs }))
      (run-holds known setting place job reply who test total state is holds)
