-- A run, a tick and the opening of a connection, to their ends.
use Rattle.std.proofs.Common.{◌≡◌, ℕ, true, false, Option, None, Some, List, [], inl, inr, refl, sym, ap, subst, ◌∙◌, eq-eqb}
use Rattle.std.specs.List.{AllByRecursion, Contains, flat_map}
use Rattle.std.proofs.lemmas.Bool.{cases_Bool}
use Rattle.std.proofs.lemmas.List.Elements.{All-contains}
use Rattle.salt_line.specs.Line.{Line, current_salt}
use Rattle.salt_line.specs.Rows.{Row}
use Rattle.service_tl.specs.declared.lists.Message.{Message}
use Rattle.inbox.specs.Inbox.{was_heard}
use Rattle.packing.specs.Packing.{groups}
use Rattle.waits.specs.declared.job.Job.{Job}
use Rattle.waits.specs.Jobs.{Queue, ready_job}
use Rattle.server_rules.specs.Server.{Name, Server, Session, has_accepted, is_named, is_same, name_of, session_named}
use Rattle.server_rules.specs.Event.{Owed, Sent, Setting, Speaker, State, speaker_in, speaks, spoken, spoken_by}
use Rattle.server_rules.specs.Speaking.{needs_salts, says_it_is_new}
use Rattle.server_rules.specs.Sending.{all_sent}
use Rattle.server_rules.specs.Answer.{attaches, begun, runs, ticks, without_spent}
use Rattle.law_server.specs.Speech.{SaidFor}
use Rattle.law_server.specs.Order.{AreOrdered, IsOrderly, jobs_of}
use Rattle.law_moves.specs.World.{World}
use Rattle.law_moves.specs.Move.{Move}
use Rattle.law_moves.specs.Extends.{Extends}
use Rattle.law_moves.specs.Reached.{AreLawful, Reached, after_all}
use Rattle.law_server_moves.specs.Leading.{Leads}
use Rattle.law_server_moves.specs.Servers.{Past, ServerStands}
use Rattle.law_server_moves.specs.Speaking.{IsWithin, SpeaksThere, with_line}
use Rattle.law_server_moves.specs.Events.{AreLines, EventStands, with_lines}
use Rattle.law_server_moves.specs.Sending.{EventEnds, IsFit, MayAllGo, WentOut}
use Rattle.law_server_moves.proofs.Lists.{all_of}
use Rattle.law_server_moves.proofs.Leading.{GoOn, goes_on, stays}
use Rattle.law_server_moves.proofs.Losing.{named_itself}
use Rattle.law_server_moves.proofs.One.{put}
use Rattle.law_server_moves.proofs.Speaking.{AnySaid}
use Rattle.law_server_moves.proofs.Speech.{Adds}
use Rattle.law_server_moves.proofs.Found.{found_in}
use Rattle.law_server_moves.proofs.Words.{attaches_it, current}
use Rattle.law_server_moves.proofs.Events.{all_mapped, lines_put, name_is, speaks_on}
use Rattle.law_server_moves.proofs.Beginning.{begins_on}
use Rattle.law_server_moves.proofs.Ordered.{ordered_open, orderly}
use Rattle.law_server_moves.proofs.Jobs.{FinishesAlone, GivesUpAlone, IsGoing, runs_on, ticks_on}
use Rattle.law_server_moves.proofs.Ending.{ends_on}
use Rattle.law_server_moves.proofs.HeardOwe.{OwesHeard, heard_may_go, lines_heard, ordered_heard, runs_heard, ticks_heard}

-- a session that has accepted nothing only says that it is new when a connection is opened for it
abbrev pub SaysNew : Type 0 → Type 0
SaysNew S =
    (setting : Setting S) (speaker : Speaker S) (jobs : Queue) → IsOrderly speaker.session.history speaker.session.replies speaker.session.counters.last jobs
    → has_accepted speaker.session ≡ false → attaches setting speaker ≡ says_it_is_new setting speaker

pub same_itself : (name : Name) → is_same name name ≡ true
same_itself name = rw (eq-eqb name.key name.key refl, eq-eqb name.session name.session refl) refl

pub none_out : (w : World) (packets : List Sent) → packets ≡ [] → AllByRecursion (λ (sent : Sent). WentOut w sent.envelope) packets
none_out w packets none = subst (λ (l : List Sent). AllByRecursion (λ (sent : Sent). WentOut w sent.envelope) l) (sym none) tt

module _ {S : Type 0} (adds : Adds) (extends : (w : World) (list : List Move) → AreLawful w list → Extends w (after_all w list)) (on : GoOn) (any : AnySaid)
    (whole : (messages : List Message) → flat_map (λ group. group) (groups messages) ≡ messages) (setting : Setting S) (w : World) (gone : Past) (lines : Name → Line) (more : Name → List Row)
    (server : Server) (draw : S) (reached : Reached w) (s : ServerStands w gone server.sessions server.jobs) (order : AreOrdered server.sessions server.jobs) (h : AreLines w lines more server.sessions) where
  abbrev Ends : State S → World → Type 0
  Ends state later = EventEnds later gone lines (all_sent setting state).sessions (without_spent (all_sent setting state))

  abbrev start : State S
  start = begun server draw

  abbrev Begun : World → Type 0
  Begun later = EventStands later gone lines start

  abbrev Fits : State S → Type 0
  Fits state = state.sent ≡ [] → AllByRecursion IsFit (with_lines lines state.sessions)

  ends_so : (state : State S) → AllByRecursion (MayAllGo state.owed) (with_lines lines state.sessions) → state.sent ≡ [] → Fits state → (later : World) → Reached later → EventStands later gone lines state
      → Leads later (Ends state)
  ends_so state go none fits later reached k = ends_on adds extends on any whole setting gone lines later state reached k go (fits none) (none_out later state.sent none)

  -- an event that does nothing
  pub idle_ends : Fits start → Leads w (Ends start)
  idle_ends fits =
      goes_on on w Begun (Ends start) reached (begins_on on w gone lines more server draw reached s h)
      (λ later reached k. ends_so start (all_of (MayAllGo []) (with_lines lines server.sessions) (λ o there. tt)) refl fits later reached k)

  pub run_ends : GivesUpAlone S → FinishesAlone S → (place : ℕ) (job : Job) (reply : List ℕ) → ready_job place server.jobs ≡ Some job → Fits (runs setting place job reply start) → Leads w (Ends (runs setting place job reply start))
  run_ends alone finishing place job reply is fits =
      let state : State S = runs setting place job reply start in
      let heard = runs_heard setting alone finishing start place job reply (ordered_heard server.sessions server.jobs s.apart order, refl) is in
      goes_on on w Begun (Ends state) reached (begins_on on w gone lines more server draw reached s h)
      (λ later reached k.
      goes_on on later (λ last. IsGoing last gone lines state) (Ends state) reached
      (runs_on adds setting gone lines alone finishing on later start place job reply reached (k, ordered_open server.sessions server.jobs s.apart order.each) is)
      (λ last reached m. ends_so state (lines_heard lines state.owed state.sessions heard.0.owe) heard.1 fits last reached m.0))

  pub tick_ends : GivesUpAlone S → Fits (ticks setting start) → Leads w (Ends (ticks setting start))
  tick_ends alone fits =
      let state : State S = ticks setting start in
      let heard = ticks_heard setting alone start (ordered_heard server.sessions server.jobs s.apart order, refl) in
      goes_on on w Begun (Ends state) reached (begins_on on w gone lines more server draw reached s h)
      (λ later reached k.
      goes_on on later (λ last. IsGoing last gone lines state) (Ends state) reached
      (ticks_on adds setting gone lines alone on later start reached (k, ordered_open server.sessions server.jobs s.apart order.each))
      (λ last reached m. ends_so state (lines_heard lines state.owed state.sessions heard.0.owe) heard.1 fits last reached m.0))

  -- ---- a connection is opened

  module _ (name : Name) (says_new : SaysNew S) (alone : (setting : Setting S) (speaker : Speaker S) → SaidFor S speaker (attaches setting speaker))
      (within : (x : Session) → session_named name server.sessions ≡ Some x → IsWithin (lines name) (attaches setting (speaker_in start x)).session) where
    module _ (x : Session) (found : session_named name server.sessions ≡ Some x) where
      place : Contains server.sessions x × (is_named name x ≡ true)
      place = found_in (is_named name) server.sessions x found

      its_name : name ≡ name_of x
      its_name = name_is name x place.1

      abbrev first : Speaker S
      first = speaker_in start x

      abbrev b : Speaker S
      b = attaches setting first

      said : SaidFor S first b
      said = alone setting first

      abbrev named : ℕ → ℕ → Name
      named key session = record { key = key; session = session }

      name_b : name_of b.session ≡ name_of x
      name_b = ap (λ (key : ℕ). named key b.session.number) said.key ∙ ap (λ (number : ℕ). named x.key number) said.number

      abbrev now : Session
      now = with_line (lines name) b.session

      -- one that has accepted nothing
      abbrev new : Speaker S
      new = says_it_is_new setting first

      go_new : has_accepted x ≡ false → MayAllGo b.owed now
      go_new not_so =
          let is : b ≡ new = says_new setting first (jobs_of (name_of x) server.jobs) (orderly server.sessions server.jobs s.apart order.each x place.0) not_so in
          let has = current adds setting gone (with_lines lines server.sessions) (lines name) first
          (subst (λ (sp : Speaker S). IsWithin (lines name) sp.session) is (within x found)) in
          subst (λ (sp : Speaker S). MayAllGo sp.owed (with_line (lines name) sp.session)) (sym is)
          (rw (same_itself (name_of x)) (inr (x.first, current_salt (needs_salts setting 1 first).session.salts setting.now, refl, has), tt))

      go_now : MayAllGo b.owed now
      go_now =
          elim (cases_Bool (has_accepted x)) [
            | inl is ↦ heard_may_go b.owed now (all_of (λ (one : Owed). one.name ≡ name_of now → has_accepted now ≡ true) b.owed (λ one there own. ap was_heard said.history ∙ is))
            | inr not_so ↦ go_new not_so
          ]

      -- the others owe nothing
      go_other : (o : Session) → is_named (name_of now) o ≡ false → MayAllGo b.owed o
      go_other o not_so =
          heard_may_go b.owed o
          (subst (λ (l : List Owed). OwesHeard l o) (sym said.owed.1)
          (all_of (λ (one : Owed). one.name ≡ name_of o → has_accepted o ≡ true) said.owed.0
          (λ one is its.
          let same : name_of now ≡ name_of o = name_b ∙ sym (All-contains (λ (one : Owed). one.name ≡ name_of x) said.owed.0 one said.owed.2 is) ∙ its in
          let e : false ≡ true = sym not_so ∙ subst (λ (n : Name). is_named n o ≡ true) (sym same) (named_itself o) in absurd (cc))))

      go_put : (o : Session) → MayAllGo b.owed (put now o)
      go_put o =
          elim (cases_Bool (is_named (name_of now) o)) [
            | inl is ↦ rw is go_now
            | inr not_so ↦ rw not_so (go_other o not_so)
          ]

      all_go : AllByRecursion (MayAllGo b.owed) (with_lines lines (spoken start b).sessions)
      all_go =
          subst (λ (l : List Session). AllByRecursion (MayAllGo b.owed) l) (sym (lines_put lines name b.session server.sessions (name_b ∙ sym its_name)))
          (all_mapped (MayAllGo b.owed) (put now) (with_lines lines server.sessions) (λ o there. go_put o))

    abbrev opened : Option Session → State S
    opened found = spoken_by found (attaches setting) start

    go_found : (found : Option Session) → session_named name server.sessions ≡ found → AllByRecursion (MayAllGo (opened found).owed) (with_lines lines (opened found).sessions)
    go_found None is = all_of (MayAllGo []) (with_lines lines server.sessions) (λ o there. tt)
    go_found (Some x) is = all_go x is

    sent_found : (found : Option Session) → (opened found).sent ≡ []
    sent_found None = refl
    sent_found (Some x) = (alone setting (speaker_in start x)).sent

    pub attach_ends : Fits (speaks name (attaches setting) start) → Leads w (Ends (speaks name (attaches setting) start))
    attach_ends fits =
        let state : State S = speaks name (attaches setting) start in
        goes_on on w Begun (Ends state) reached (begins_on on w gone lines more server draw reached s h)
        (λ later reached k.
        goes_on on later (λ last. EventStands last gone lines state) (Ends state) reached
        (speaks_on adds later gone lines start k name (attaches setting)
        (λ x found. (
          alone setting (speaker_in start x),
          λ k. stays later (λ last. SpeaksThere last gone (with_lines lines server.sessions) (lines name) (attaches setting (speaker_in start x)))
              (attaches_it adds setting gone (with_lines lines server.sessions) (lines name) later (speaker_in start x) k (within x found)),
        )))
        (λ last reached m. ends_so state (go_found (session_named name server.sessions) refl) (sent_found (session_named name server.sessions)) fits last reached m))
