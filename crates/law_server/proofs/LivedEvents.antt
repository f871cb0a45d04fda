-- A life and its account, from event to event.
use Rattle.std.proofs.Common.{◌≡◌, ◌∙◌, ℕ, ◌+◌, ◌≤◌, Bool, true, false, Option, Some, None, List, [], ◌∷◌, ◌++◌, length, ap, sym, subst, refl, arith, inl, inr}
use Rattle.std.specs.Prelude.{drop, is_some, filter_map, ◌&&◌}
use Rattle.std.specs.List.{filter}
use Rattle.std.proofs.Math.Seq.{drop-append_seam}
use Rattle.std.proofs.lemmas.List.{append-nil}
use Rattle.std.proofs.lemmas.Bool.{cases_Bool, cond_both, cond-true, cond-false, false≢true}
use Rattle.regs_service.specs.Served.{Step}
use Rattle.waits.specs.declared.job.Job.{Job}
use Rattle.waits.specs.Jobs.{ready_job, one_if}
use Rattle.server_rules.specs.Server.{Name, Session, Server, is_same, session_named}
use Rattle.server_rules.specs.Event.{Setting, Envelope, Entry, speaks}
use Rattle.server_rules.specs.Events.{Event, Packet, Work, Tick, Attach, Loss, Restart, Course, setting_at, worked, after_event}
use Rattle.server_rules.specs.Answer.{Answer, name_in, hears_by, hears, takes, runs, ticks, attaches, begun, ended, after_run}
use Rattle.law_server.specs.Lives.{Acceptance, Life, request_of, acceptance_of, judged_by, heard_by, with_packet, hearing, with_event, gone_on as life_gone_on, is_entry_of}
use Rattle.law_server.specs.Finality.{IsLifeOf}
use Rattle.law_server.proofs.LivedNames.{cases_name, names-same, apart-names, none-some}
use Rattle.law_server.proofs.Counting.{Test, any, count-append, jobs_at, entries_at, entry_passes, asked_at, asks}
use Rattle.law_server.proofs.Going.{Who, Holds, HoldsIn, Known, lost-holds}
use Rattle.law_server.proofs.Packets.{rises, rises-asked, hears-stands, hears-hold, packet-own, packet-other}
use Rattle.law_server.proofs.Ends.{attach-holds, ended-holds, ticks-hold, runs-hold}

abbrev pub who_of : Life → Who
who_of life = record { name = life.name; first = life.first; unique = life.unique; history = life.history }

-- ---- the account of a life

-- The account is even: of the calls that it accepted as many pass a test as of its jobs and entries together.
pub record IsEven (server : Server) (life : Life) : Type 0 where
  pub standing : life.stands ≡ true
      → (session : Session) × (session_named life.name server.sessions ≡ Some session) × IsLifeOf life session
      × ((test : Test) → jobs_at life.name test server.jobs + entries_at life.name test life.entries ≡ asked_at test life.accepted)
  pub lost : life.stands ≡ false → (test : Test) → entries_at life.name test life.entries ≤ asked_at test life.accepted

-- what an event gives a life that stands when it begins: it goes on as the later one
pub record IsGiven (S V : Type 0) (before after : Course S V) (life later : Life) : Type 0 where
  pub rise : Test → ℕ
  pub asked : (test : Test) → asked_at test later.accepted ≡ asked_at test life.accepted + rise test
  pub same : later.name ≡ life.name
  pub entries : later.entries ≡ life.entries
  pub holds : (test : Test)
      → Holds (who_of later) test (jobs_at later.name test before.server.jobs + rise test)
      (session_named later.name after.server.sessions) after.server.jobs (drop (length before.entries) after.entries)

-- ---- the account after the event

own-entries-at : (name : Name) (test : Test) (entries : List Entry) → entries_at name test (filter (is_entry_of name) entries) ≡ entries_at name test entries
own-entries-at name test [] = refl
own-entries-at name test (entry ∷ entries) =
    let rest = own-entries-at name test entries in
    let others = filter (is_entry_of name) entries in
    elim (cases_Bool (is_entry_of name entry)) [
      | inl is ↦
          let first : entries_at name test (filter (is_entry_of name) (entry ∷ entries)) ≡ entries_at name test (entry ∷ others) =
          ap (entries_at name test) (cond-true (is_entry_of name entry) (entry ∷ others) others is) in omega arith
      | inr fails ↦
          let first : entries_at name test (filter (is_entry_of name) (entry ∷ entries)) ≡ entries_at name test others =
          ap (entries_at name test) (cond-false (is_entry_of name entry) (entry ∷ others) others fails) in
          let off : one_if (entry_passes name test entry) ≡ 0 = ap (λ (is : Bool). one_if (is && test entry.number entry.request)) fails in omega arith
    ]

event-entries : {S V : Type 0} (before after : Course S V) (life : Life) (test : Test)
    → entries_at life.name test (with_event before after life).entries
    ≡ entries_at life.name test life.entries + entries_at life.name test (drop (length before.entries) after.entries)
event-entries before after life test =
    let new = drop (length before.entries) after.entries in
    let all = count-append (entry_passes life.name test) life.entries (filter (is_entry_of life.name) new) in
    let own = own-entries-at life.name test new in omega arith

event-even : {S V : Type 0} (before after : Course S V) (life : Life) (start : Test → ℕ) (found : Option Session) → session_named life.name after.server.sessions ≡ found
    → ((test : Test) → start test + entries_at life.name test life.entries ≡ asked_at test life.accepted)
    → ((test : Test) → Holds (who_of life) test (start test) found after.server.jobs (drop (length before.entries) after.entries))
    → IsEven after.server (with_event before after life)
event-even before after life start None is even holds = record {
  standing = λ stands. absurd (false≢true (sym (ap is_some is) ∙ stands));
  lost = λ gone test. let sum = even test in let less = (holds test).1 in let all = event-entries before after life test in omega arith;
}
event-even before after life start (Some session) is even holds = record {
  standing = λ stands. (
    session,
    is,
    (holds any).0,
    λ test. let sum = even test in let now = (holds test).1 in let all = event-entries before after life test in omega arith,
  );
  lost = λ gone. absurd (false≢true (sym gone ∙ ap is_some is));
}

pub given-even : {S V : Type 0} (before after : Course S V) (life later : Life) → IsGiven S V before after life later
    → ((test : Test) → jobs_at life.name test before.server.jobs + entries_at life.name test life.entries ≡ asked_at test life.accepted)
    → IsEven after.server (with_event before after later)
given-even before after life later given even =
    event-even before after later (λ test. jobs_at later.name test before.server.jobs + given.rise test) (session_named later.name after.server.sessions) refl
    (λ test.
    let jobs = ap (λ (name : Name). jobs_at name test before.server.jobs) given.same in
    let names = ap (λ (name : Name). entries_at name test later.entries) given.same in
    let entries = ap (entries_at life.name test) given.entries in
    let asked = given.asked test in
    let sum = even test in omega arith)
    given.holds

-- ---- what each event gives

-- a life that stands is that of the session of its name
abbrev pub Stands : Server → Life → Type 0
Stands server life = (session : Session) × (session_named life.name server.sessions ≡ Some session) × IsLifeOf life session

begun-holds : {S : Type 0} (server : Server) (draw : S) (life : Life) (test : Test) → Stands server life
    → HoldsIn (who_of life) test (jobs_at life.name test server.jobs + 0) (begun server draw)
begun-holds {S} server draw life test stands =
    let P : Option Session → Type 0 = λ found. Holds (who_of life) test (jobs_at life.name test server.jobs + 0) found server.jobs [] in
    subst P (sym stands.1) (stands.2, omega arith)

pub nothing-new : {X : Type 0} (xs : List X) → drop (length xs) xs ≡ []
nothing-new {X} xs = ap (drop (length xs)) (sym (append-nil xs)) ∙ drop-append_seam xs []

-- an event that gives it nothing to judge
unheard-given : {S V : Type 0} (before after : Course S V) (entries : List Entry) (life : Life) → drop (length before.entries) after.entries ≡ entries
    → ((test : Test)
    → Holds (who_of life) test (jobs_at life.name test before.server.jobs + 0) (session_named life.name after.server.sessions) after.server.jobs entries)
    → IsGiven S V before after life life
unheard-given before after entries life new holds = record {
  rise = λ test. 0;
  asked = λ test. omega arith;
  same = refl;
  entries = refl;
  holds = λ test.
      let P : List Entry → Type 0 = λ entries.
      Holds (who_of life) test (jobs_at life.name test before.server.jobs + 0) (session_named life.name after.server.sessions) after.server.jobs entries in
      subst P (sym new) (holds test);
}

module _ {S V : Type 0} (known : Known S) (setting : Setting S) (serve : Step V) (fresh : V) (before : Course S V) where
  -- an answer to the event
  answered : (after : Course S V) (answer : Answer S) → after.server ≡ answer.server → after.entries ≡ before.entries ++ answer.entries → (life : Life)
      → ((test : Test)
      → Holds (who_of life) test (jobs_at life.name test before.server.jobs + 0) (session_named life.name answer.server.sessions) answer.server.jobs answer.entries)
      → IsGiven S V before after life life
  answered after answer servers entries life holds =
      unheard-given before after answer.entries life (ap (drop (length before.entries)) entries ∙ drop-append_seam before.entries answer.entries)
      (λ test.
      let P : Server → Type 0 = λ server.
      Holds (who_of life) test (jobs_at life.name test before.server.jobs + 0) (session_named life.name server.sessions) server.jobs answer.entries in
      subst P (sym servers) (holds test))

  work-given : (at : Setting S) (place : ℕ) (job : Option Job) (life : Life) → ready_job place before.server.jobs ≡ job → Stands before.server life
      → IsGiven S V before (worked before (after_run at place job serve before.service before.server before.draw)) life life
  work-given at place None life is stands =
      let answer = ended at (begun before.server before.draw) in
      answered (worked before (after_run at place None serve before.service before.server before.draw)) answer refl refl life
      (λ test.
      let total = jobs_at life.name test before.server.jobs + 0 in
      ended-holds known at (who_of life) test total (begun before.server before.draw) (begun-holds before.server before.draw life test stands))
  work-given at place (Some job) life is stands =
      let reply = (serve before.service job.request).0 in
      let answer = ended at (runs at place job reply (begun before.server before.draw)) in
      answered (worked before (after_run at place (Some job) serve before.service before.server before.draw)) answer refl refl life
      (λ test.
      let total = jobs_at life.name test before.server.jobs + 0 in
      ended-holds known at (who_of life) test total (runs at place job reply (begun before.server before.draw))
      (runs-hold known at (who_of life) test total place job reply (begun before.server before.draw) is (begun-holds before.server before.draw life test stands)))

  -- a packet comes to the session
  pub packet-given : (moment : ℕ) (envelope : Envelope) (life : Life) (session : Session) → life.name ≡ name_in envelope
      → heard_by (setting_at setting moment before.server) envelope before ≡ Some session
      → ((test : Test)
      → HoldsIn (who_of life) test (jobs_at life.name test before.server.jobs + 0)
      (hears (setting_at setting moment before.server) envelope (begun before.server before.draw)))
      → IsGiven S V before (after_event setting serve fresh before (Packet moment (Some envelope))) life (hearing setting before (Packet moment (Some envelope)) life)
  packet-given moment envelope life session own heard holds =
      let at = setting_at setting moment before.server in
      let after = after_event setting serve fresh before (Packet moment (Some envelope)) in
      let judged = judged_by at envelope session in
      let later : Life = with_packet at envelope (Some session) life in
      let is : hearing setting before (Packet moment (Some envelope)) life ≡ later =
      cond-true (is_same life.name (name_in envelope)) (with_packet at envelope (heard_by at envelope before) life) life (names-same life.name (name_in envelope) own)
      ∙ ap (λ (found : Option Session). with_packet at envelope found life) heard in
      let P : Life → Type 0 = IsGiven S V before after life in
      subst P (sym is) (record {
        rise = λ test. rises test judged;
        asked = λ test.
            let all = count-append (λ (one : Acceptance). asks test one.number (request_of one.item one.body)) life.accepted (filter_map acceptance_of judged) in
            let more = rises-asked test judged in omega arith;
        same = refl;
        entries = refl;
        holds = λ test.
            let total = jobs_at life.name test before.server.jobs + rises test judged in
            let state = begun before.server before.draw in
            let new : drop (length before.entries) after.entries ≡ (ended at (takes at envelope state)).entries =
            drop-append_seam before.entries (ended at (takes at envelope state)).entries in
            let Z : ℕ → Type 0 = λ total. HoldsIn (who_of later) test total (takes at envelope state) in
            let plus : jobs_at life.name test before.server.jobs + 0 + rises test judged ≡ total = omega arith in
            let taken = subst Z plus (packet-own known at envelope (who_of life) test (jobs_at life.name test before.server.jobs + 0) session state own heard (holds test)) in
            let E : List Entry → Type 0 = Holds (who_of later) test total (session_named later.name after.server.sessions) after.server.jobs in
            subst E (sym new) (ended-holds known at (who_of later) test total (takes at envelope state) taken);
      })

  heard-given : (moment : ℕ) (envelope : Envelope) (life : Life) → Stands before.server life
      → IsGiven S V before (after_event setting serve fresh before (Packet moment (Some envelope))) life (hearing setting before (Packet moment (Some envelope)) life)
  heard-given moment envelope life stands =
      let at = setting_at setting moment before.server in
      let state = begun before.server before.draw in
      let event = Packet moment (Some envelope) in
      let after = after_event setting serve fresh before event in
      elim (cases_name life.name (name_in envelope)) [
        | inl own ↦
            let N : Name → Type 0 = λ name. session_named name before.server.sessions ≡ Some stands.0 in
            let found : session_named (name_in envelope) before.server.sessions ≡ Some stands.0 = subst N own stands.1 in
            let heard : heard_by at envelope before ≡ Some stands.0 =
            ap (λ (one : Option Session). session_named (name_in envelope) (hears_by at envelope one state).sessions) found
            ∙ (hears-stands at envelope state stands.0 found (name_in envelope) ∙ found) in
            packet-given moment envelope life stands.0 own heard
            (λ test.
            hears-hold known at envelope test (who_of life) (jobs_at life.name test before.server.jobs + 0) state
            (λ none. absurd (none-some stands.0 (sym none ∙ found))) (begun-holds before.server before.draw life test stands))
        | inr apart ↦
            let is : hearing setting before event life ≡ life =
            cond-false (is_same life.name (name_in envelope)) (with_packet at envelope (heard_by at envelope before) life) life (apart-names life.name (name_in envelope) apart) in
            let P : Life → Type 0 = IsGiven S V before after life in
            subst P (sym is)
            (answered after (ended at (takes at envelope state)) refl refl life
            (λ test.
            let total = jobs_at life.name test before.server.jobs + 0 in
            ended-holds known at (who_of life) test total (takes at envelope state)
            (packet-other known at envelope (who_of life) test total state apart (begun-holds before.server before.draw life test stands))))
      ]

  pub event-given : (event : Event) (life : Life) → Stands before.server life
      → IsGiven S V before (after_event setting serve fresh before event) life (hearing setting before event life)
  event-given (Packet moment None) life stands =
      unheard-given before (after_event setting serve fresh before (Packet moment None)) [] life (nothing-new before.entries)
      (λ test. begun-holds before.server before.draw life test stands)
  event-given (Packet moment (Some envelope)) life stands = heard-given moment envelope life stands
  event-given (Work moment place) life stands = work-given (setting_at setting moment before.server) place (ready_job place before.server.jobs) life refl stands
  event-given (Tick moment) life stands =
      let at = setting_at setting moment before.server in
      let state = begun before.server before.draw in
      answered (after_event setting serve fresh before (Tick moment)) (ended at (ticks at state)) refl refl life
      (λ test.
      let total = jobs_at life.name test before.server.jobs + 0 in
      ended-holds known at (who_of life) test total (ticks at state) (ticks-hold known at (who_of life) test total state (begun-holds before.server before.draw life test stands)))
  event-given (Attach moment name) life stands =
      let at = setting_at setting moment before.server in
      let state = begun before.server before.draw in
      answered (after_event setting serve fresh before (Attach moment name)) (ended at (speaks name (attaches at) state)) refl refl life
      (λ test.
      let total = jobs_at life.name test before.server.jobs + 0 in
      ended-holds known at (who_of life) test total (speaks name (attaches at) state)
      (attach-holds known at (who_of life) test total name state (begun-holds before.server before.draw life test stands)))
  event-given (Loss name) life stands =
      unheard-given before (after_event setting serve fresh before (Loss name)) [] life (nothing-new before.entries)
      (λ test.
      lost-holds known (who_of life) test (jobs_at life.name test before.server.jobs + 0) name (begun before.server before.draw)
      (begun-holds before.server before.draw life test stands))
  event-given Restart life stands =
      unheard-given before (after_event setting serve fresh before Restart) [] life (nothing-new before.entries) (λ test. (refl, omega arith))

  -- ---- lives

  -- a life goes on, or stays as it was
  pub life-even : (event : Event) (life : Life) → IsEven before.server life
      → IsEven (after_event setting serve fresh before event).server (life_gone_on setting before (after_event setting serve fresh before event) event life)
  life-even event life even =
      let after = after_event setting serve fresh before event in
      let later = with_event before after (hearing setting before event life) in
      cond_both life.stands later life (IsEven after.server)
      (λ stands.
      let standing = even.standing stands in
      given-even before after life (hearing setting before event life) (event-given event life (standing.0, standing.1, standing.2)) standing.3)
      (λ gone. record { standing = λ stands. absurd (false≢true (sym gone ∙ stands)); lost = even.lost })
