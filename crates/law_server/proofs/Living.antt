-- All lives and their accounts, from event to event.
use Rattle.std.proofs.Common.{◌≡◌, ◌∙◌, ℕ, ◌+◌, Bool, true, Option, Some, None, List, [], ◌∷◌, ◌++◌, length, ap, sym, subst, refl, arith}
use Rattle.std.specs.Prelude.{map, drop, filter_map}
use Rattle.std.specs.List.{filter, All}
use Rattle.std.proofs.lemmas.Bool.{cond_both, and_parts}
use Rattle.std.proofs.lemmas.List.{map-append}
use Rattle.std.proofs.lemmas.List.Elements.{All-nil, All-cons, All-map, All-append, All-weaker}
use Rattle.service_tl.specs.declared.lists.Message.{Message}
use Rattle.id_window.specs.History.{EachOnce}
use Rattle.inbox.specs.Refusals.{Way, InEnvelope}
use Rattle.inbox.specs.Judging.{session_after}
use Rattle.regs_service.specs.Served.{Step}
use Rattle.waits.specs.Jobs.{Queue, is_of}
use Rattle.server_rules.specs.Server.{Name, Session, name_of, is_same, session_named, remembered}
use Rattle.server_rules.specs.Event.{Setting, State, Envelope, Entry}
use Rattle.server_rules.specs.Events.{Event, Packet, Work, Tick, Attach, Loss, Restart, Course, setting_at, after_event}
use Rattle.server_rules.specs.Answer.{name_in, message_in, hears_by, hears, begun}
use Rattle.law_server.specs.Order.{AreOrdered, IsOrderly, IsOrderlyAt, jobs_of}
use Rattle.law_server.specs.Lives.{Acceptance, Life, Told, acceptance_of, judged_by, heard_by, with_packet, hearing, with_event, gone_on, is_entry_of, life_of, newborn, made_by, lives_after, told_after, told_from}
use Rattle.law_server.specs.Finality.{accepted_numbers}
use Rattle.law_server.proofs.LivedNames.{same-names, some-same}
use Rattle.law_server.proofs.Counting.{Test, count-length, count-more, jobs_at, job_passes}
use Rattle.law_server.proofs.LivedJudged.{all-numbers}
use Rattle.law_server.proofs.Going.{HoldsIn, Known}
use Rattle.law_server.proofs.Packets.{IsBegun, begins, hears-stands}
use Rattle.law_server.proofs.LivedEvents.{IsEven, IsGiven, Stands, given-even, life-even, packet-given}

-- ---- what a life has recorded

pub record IsRecorded (life : Life) : Type 0 where
  pub judged : EachOnce life.history
  pub accepted : map (λ one. one.number) life.accepted ≡ accepted_numbers life.history
  pub own : All (λ entry. is_entry_of life.name entry ≡ true) life.entries

-- what laws say of judging, and of events
pub record Laws (S V : Type 0) (setting : Setting S) (serve : Step V) (fresh : V) : Type 0 where
  pub speech : Known S
  pub once : (way : Way) (session : Session) (message : Message) (jobs : Queue) → IsOrderly session.history session.replies session.counters.last jobs
      → EachOnce (session_after way (remembered session) message).history
  pub ordered : (course : Course S V) (event : Event) → AreOrdered course.server.sessions course.server.jobs
      → AreOrdered (after_event setting serve fresh course event).server.sessions (after_event setting serve fresh course event).server.jobs

packet-recorded : {S : Type 0} (once : (way : Way) (session : Session) (message : Message) (jobs : Queue) → IsOrderly session.history session.replies session.counters.last jobs → EachOnce (session_after way (remembered session) message).history)
    (setting : Setting S) (envelope : Envelope) (session : Session) (jobs : Queue) (life : Life) → session.history ≡ life.history
    → IsOrderly session.history session.replies session.counters.last jobs → IsRecorded life → IsRecorded (with_packet setting envelope (Some session) life)
packet-recorded once setting envelope session jobs life same order recorded =
    let way = InEnvelope setting.now session.salts envelope.salt in
    let message = message_in envelope in
    let number_of : Acceptance → ℕ = λ one. one.number in
    record {
      judged = once way session message jobs order;
      accepted =
          map-append number_of life.accepted (filter_map acceptance_of (judged_by setting envelope session))
          ∙ (ap (λ (numbers : List ℕ). numbers ++ map number_of (filter_map acceptance_of (judged_by setting envelope session)))
          (recorded.accepted ∙ ap accepted_numbers (sym same))
          ∙ sym (all-numbers way (remembered session) message));
      own = recorded.own;
    }

all-filtered : {X : Type 0} (test : X → Bool) (xs : List X) → All (λ x. test x ≡ true) (filter test xs)
all-filtered {X} test [] = All-nil (λ (x : X). test x ≡ true)
all-filtered {X} test (x ∷ xs) =
    let P : X → Type 0 = λ x. test x ≡ true in
    cond_both (test x) (x ∷ filter test xs) (filter test xs) (All P)
    (λ is. All-cons P x (filter test xs) is (all-filtered test xs)) (λ fails. all-filtered test xs)

event-recorded : {S V : Type 0} (before after : Course S V) (life : Life) → IsRecorded life → IsRecorded (with_event before after life)
event-recorded before after life recorded =
    let new = drop (length before.entries) after.entries in
    record {
      judged = recorded.judged;
      accepted = recorded.accepted;
      own =
          All-append (λ (entry : Entry). is_entry_of life.name entry ≡ true) life.entries (filter (is_entry_of life.name) new) recorded.own
          (all-filtered (is_entry_of life.name) new);
    }

-- ---- where no session has a name, none has jobs

pub no-jobs : (name : Name) (jobs : Queue) → jobs_of name jobs ≡ [] → (test : Test) → jobs_at name test jobs ≡ 0
no-jobs name jobs none test =
    let less = count-more (λ one. job_passes name test one.job) (is_of name.key name.session) jobs (λ one is. (and_parts _ _ is).0) in
    let all = count-length (is_of name.key name.session) jobs in
    let nothing : length (jobs_of name jobs) ≡ 0 = ap length none in omega arith

pub unnamed-jobs : (name : Name) (sessions : List Session) (jobs : Queue) → AreOrdered sessions jobs → session_named name sessions ≡ None → (test : Test) → jobs_at name test jobs ≡ 0
unnamed-jobs name sessions jobs ordered none =
    let P : Option Session → Type 0 = λ found. IsOrderlyAt found (jobs_of name jobs) in
    no-jobs name jobs (subst P none (ordered.each name))

fresh-orderly : IsOrderly [] [] 0 []
fresh-orderly = record {
  judged = λ i j d below within. absurd (omega arith);
  replied = record {
    accepted = λ k d within. absurd (omega arith);
    once = λ i j d below within. absurd (omega arith);
    rising = λ i j d below within. absurd (omega arith);
    given = λ k d within. absurd (omega arith);
  };
  unfinished = record {
    called = λ k d within. absurd (omega arith);
    unanswered = λ k d within. absurd (omega arith);
    once = λ i j d below within. absurd (omega arith);
  };
}

module _ {S V : Type 0} (setting : Setting S) (serve : Step V) (fresh : V) (laws : Laws S V setting serve fresh) (before : Course S V)
    (ordered : AreOrdered before.server.sessions before.server.jobs) where
  -- ---- a life that stood when the event began

  hearing-recorded : (event : Event) (life : Life) → Stands before.server life → IsRecorded life → IsRecorded (hearing setting before event life)
  hearing-recorded (Packet moment (Some envelope)) life stands recorded =
      let at = setting_at setting moment before.server in
      let state : State S = begun before.server before.draw in
      cond_both (is_same life.name (name_in envelope)) (with_packet at envelope (heard_by at envelope before) life) life IsRecorded
      (λ is.
      let own : life.name ≡ name_in envelope = same-names life.name (name_in envelope) is in
      let session = stands.0 in
      let N : Name → Type 0 = λ name. session_named name before.server.sessions ≡ Some session in
      let found : session_named (name_in envelope) before.server.sessions ≡ Some session = subst N own stands.1 in
      let heard : heard_by at envelope before ≡ Some session =
      ap (λ (one : Option Session). session_named (name_in envelope) (hears_by at envelope one state).sessions) found
      ∙ (hears-stands at envelope state session found (name_in envelope) ∙ found) in
      let O : Option Session → Type 0 = λ found. IsOrderlyAt found (jobs_of life.name before.server.jobs) in
      let P : Option Session → Type 0 = λ found. IsRecorded (with_packet at envelope found life) in
      subst P (sym heard)
      (packet-recorded laws.once at envelope session (jobs_of life.name before.server.jobs) life stands.2.2 (subst O stands.1 (ordered.each life.name)) recorded))
      (λ fails. recorded)
  hearing-recorded (Packet moment None) life stands recorded = recorded
  hearing-recorded (Work moment place) life stands recorded = recorded
  hearing-recorded (Tick moment) life stands recorded = recorded
  hearing-recorded (Attach moment name) life stands recorded = recorded
  hearing-recorded (Loss name) life stands recorded = recorded
  hearing-recorded Restart life stands recorded = recorded

  -- what holds of a life after an event
  abbrev Lives : Event → Life → Type 0
  Lives event life = IsEven (after_event setting serve fresh before event).server life × IsRecorded life

  stood-lives : (event : Event) (life : Life) → IsEven before.server life → IsRecorded life
      → Lives event (gone_on setting before (after_event setting serve fresh before event) event life)
  stood-lives event life even recorded =
      let after = after_event setting serve fresh before event in (
        life-even laws.speech setting serve fresh before event life even,
        cond_both life.stands (with_event before after (hearing setting before event life)) life IsRecorded
            (λ stands.
            let standing = even.standing stands in
            event-recorded before after (hearing setting before event life)
            (hearing-recorded event life (standing.0, standing.1, standing.2) recorded))
            (λ gone. recorded),
      )

  -- ---- a life that begins in it

  born-lives : (moment : ℕ) (envelope : Envelope) (found heard : Option Session) → session_named (name_in envelope) before.server.sessions ≡ found
      → heard_by (setting_at setting moment before.server) envelope before ≡ heard
      → All (λ life. Lives (Packet moment (Some envelope))
      (gone_on setting before (after_event setting serve fresh before (Packet moment (Some envelope))) (Packet moment (Some envelope)) life)) (newborn found heard)
  born-lives moment envelope None (Some session) none heard =
      let event = Packet moment (Some envelope) in
      let after = after_event setting serve fresh before event in
      let at = setting_at setting moment before.server in
      let state : State S = begun before.server before.draw in
      let jobs = unnamed-jobs (name_in envelope) before.server.sessions before.server.jobs ordered none in
      let start = begins at envelope state none jobs refl in
      let life = life_of session in
      let B : Session → Type 0 = λ session. IsBegun at envelope session (hears at envelope state) in
      let is : IsBegun at envelope session (hears at envelope state) = subst B (some-same start.0 session (sym start.1.0 ∙ heard)) start.1 in
      let own : name_of session ≡ name_in envelope = ap name_of is.1.1 in
      let P : Life → Type 0 = λ life. Lives event (gone_on setting before after event life) in
      let later = hearing setting before event life in
      let given : IsGiven S V before after life later =
      packet-given laws.speech setting serve fresh before moment envelope life session own heard
      (λ test.
      let no_jobs = jobs test in
      let N : Name → Type 0 = λ name.
      HoldsIn (record { name = name; first = session.first; unique = session.unique; history = [] }) test (jobs_at name test before.server.jobs + 0) (hears at envelope state) in
      let Z : ℕ → Type 0 = λ total.
      HoldsIn (record { name = name_in envelope; first = session.first; unique = session.unique; history = [] }) test total (hears at envelope state) in
      let total : 0 ≡ jobs_at (name_in envelope) test before.server.jobs + 0 = omega arith in
      subst N (sym own) (subst Z total (is.2 test))) in
      let O : Session → Type 0 = λ session. IsOrderly session.history session.replies session.counters.last [] in
      let orderly : O session = subst O (sym is.1.1) fresh-orderly in
      let H : Session → Type 0 = λ session. session.history ≡ [] in
      let unjudged : session.history ≡ [] = subst H (sym is.1.1) refl in
      let recorded_first : IsRecorded life = record {
        judged = λ i j d below within. absurd (omega arith);
        accepted = refl;
        own = All-nil (λ (entry : Entry). is_entry_of life.name entry ≡ true);
      } in
      let R : Option Session → Type 0 = λ found. IsRecorded (with_packet at envelope found life) in
      let recorded : IsRecorded later =
      cond_both (is_same life.name (name_in envelope)) (with_packet at envelope (heard_by at envelope before) life) life IsRecorded
      (λ same. subst R (sym heard) (packet-recorded laws.once at envelope session [] life unjudged orderly recorded_first)) (λ fails. recorded_first) in
      All-cons P life [] (
        given-even before after life later given
            (λ test. let no_jobs = jobs test in let names = ap (λ (name : Name). jobs_at name test before.server.jobs) own in omega arith),
        event-recorded before after later recorded,
      )
      (All-nil P)
  born-lives moment envelope None None none heard =
      All-nil (λ (life : Life). Lives (Packet moment (Some envelope))
      (gone_on setting before (after_event setting serve fresh before (Packet moment (Some envelope))) (Packet moment (Some envelope)) life))
  born-lives moment envelope (Some session) found none heard =
      All-nil (λ (life : Life). Lives (Packet moment (Some envelope))
      (gone_on setting before (after_event setting serve fresh before (Packet moment (Some envelope))) (Packet moment (Some envelope)) life))

  abbrev After : Event → Life → Type 0
  After event life = Lives event (gone_on setting before (after_event setting serve fresh before event) event life)

  made-lives : (event : Event) → All (After event) (made_by setting before event)
  made-lives (Packet moment (Some envelope)) =
      born-lives moment envelope (session_named (name_in envelope) before.server.sessions) (heard_by (setting_at setting moment before.server) envelope before) refl refl
  made-lives (Packet moment None) = All-nil (After (Packet moment None))
  made-lives (Work moment place) = All-nil (After (Work moment place))
  made-lives (Tick moment) = All-nil (After (Tick moment))
  made-lives (Attach moment name) = All-nil (After (Attach moment name))
  made-lives (Loss name) = All-nil (After (Loss name))
  made-lives Restart = All-nil (After Restart)

  pub event-lives : (event : Event) (lives : List Life) → All (λ life. IsEven before.server life × IsRecorded life) lives
      → All (Lives event) (lives_after setting before (after_event setting serve fresh before event) event lives)
  event-lives event lives all =
      let after = after_event setting serve fresh before event in
      All-map (Lives event) (gone_on setting before after event) (lives ++ made_by setting before event)
      (All-append (After event) lives (made_by setting before event)
      (All-weaker (λ (life : Life). IsEven before.server life × IsRecorded life) (After event) (λ life is. stood-lives event life is.0 is.1) lives all)
      (made-lives event))

-- ---- all events

pub record AreLives (S V : Type 0) (told : Told S V) : Type 0 where
  pub ordered : AreOrdered told.course.server.sessions told.course.server.jobs
  pub lives : All (λ life. IsEven told.course.server life × IsRecorded life) told.lives

pub told-lives : {S V : Type 0} (setting : Setting S) (serve : Step V) (fresh : V) (laws : Laws S V setting serve fresh) (events : List Event) (told : Told S V)
    → AreLives S V told → AreLives S V (told_from setting serve fresh told events)
told-lives setting serve fresh laws [] told are = are
told-lives setting serve fresh laws (event ∷ events) told are =
    told-lives setting serve fresh laws events (told_after setting serve fresh told event) (record {
      ordered = laws.ordered told.course event are.ordered;
      lives = event-lives setting serve fresh laws told.course are.ordered event told.lives are.lives;
    })
