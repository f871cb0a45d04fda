-- Each session that stands has one life.
use Rattle.std.proofs.Common.{◌≡◌, ◌≢◌, ◌∙◌, ℕ, ◌<◌, true, Option, Some, None, List, [], ◌∷◌, ◌++◌, length, get_or, ap, sym, subst, refl, arith, inl, inr}
use Rattle.std.specs.Prelude.{map, is_some}
use Rattle.std.specs.List.{All, AllPairs, Contains}
use Rattle.std.proofs.Math.ListN.{get_or-map}
use Rattle.std.proofs.lemmas.Bool.{cond_both, cond-true, and_from}
use Rattle.std.proofs.lemmas.List.{append-nil, length-map}
use Rattle.std.proofs.lemmas.List.Elements.{All-map, All-contains, Contains-append_left, Contains-push}
use Rattle.std.proofs.lemmas.List.Quantifiers.{all_pairs_push}
use Rattle.regs_service.specs.Served.{Step}
use Rattle.waits.specs.declared.job.Job.{Job}
use Rattle.waits.specs.declared.job.Unfinished.{Unfinished}
use Rattle.waits.specs.Jobs.{Queue, is_of, ready_job}
use Rattle.server_rules.specs.Server.{Name, Session, Server, name_of, is_same, session_named}
use Rattle.server_rules.specs.Event.{Setting, State, Envelope, Entry, speaks}
use Rattle.server_rules.specs.Events.{Event, Packet, Work, Tick, Attach, Loss, Restart, Course, setting_at, after_event}
use Rattle.server_rules.specs.Answer.{name_in, takes, runs, ticks, attaches, begun, ended, after_run}
use Rattle.law_server.specs.Order.{AreOrdered}
use Rattle.law_server.specs.Lives.{Life, Told, heard_by, with_packet, hearing, with_event, gone_on, life_of, newborn, made_by, lives_after, told_after, told_from}
use Rattle.law_server.specs.Finality.{IsFinal, AreLived, AreApart, IsOfLife}
use Rattle.law_server.proofs.LivedNames.{named, cases_name, none-some}
use Rattle.law_server.proofs.Counting.{any, job_passes, by-own}
use Rattle.law_server.proofs.LivedLists.{pairs-head, pairs-tail, pairs-nil, pairs-cons, count-at}
use Rattle.law_server.proofs.Going.{Who, Holds, HoldsIn, Known, lost-holds}
use Rattle.law_server.proofs.Packets.{begins, packet-other}
use Rattle.law_server.proofs.Ends.{attach-holds, ended-holds, ticks-hold, runs-hold}
use Rattle.law_server.proofs.LivedEvents.{IsEven}
use Rattle.law_server.proofs.Living.{Laws, AreLives, IsRecorded, unnamed-jobs, event-lives}
use Rattle.law_server.proofs.Final.{is-final}

-- ---- where no session has a name, none has it after an event that makes none

-- of any session of this name that stands then these are the numbers
abbrev Sought : Who → Option Session → Type 0
Sought who found = (jobs : Queue) × (entries : List Entry) × Holds who any 0 found jobs entries

-- the event makes no session of this name
abbrev Unmade : Name → Event → Type 0
Unmade name (Packet moment (Some envelope)) = name ≢ name_in envelope
Unmade name _ = Unit {0}

module _ {S V : Type 0} (setting : Setting S) (serve : Step V) (fresh : V) (known : Known S) (before : Course S V)
    (ordered : AreOrdered before.server.sessions before.server.jobs) where
  none-begun : (who : Who) → session_named who.name before.server.sessions ≡ None → HoldsIn who any 0 (begun before.server before.draw)
  none-begun who none =
      let P : Option Session → Type 0 = λ found. Holds who any 0 found before.server.jobs [] in
      subst P (sym none) (unnamed-jobs who.name before.server.sessions before.server.jobs ordered none any, omega arith)

  ended-sought : (at : Setting S) (who : Who) (state : State S) → HoldsIn who any 0 state → Sought who (session_named who.name (ended at state).server.sessions)
  ended-sought at who state holds = ((ended at state).server.jobs, (ended at state).entries, ended-holds known at who any 0 state holds)

  work-sought : (at : Setting S) (place : ℕ) (job : Option Job) (who : Who) → ready_job place before.server.jobs ≡ job → HoldsIn who any 0 (begun before.server before.draw)
      → Sought who (session_named who.name (after_run at place job serve before.service before.server before.draw).0.server.sessions)
  work-sought at place None who is holds = ended-sought at who (begun before.server before.draw) holds
  work-sought at place (Some job) who is holds =
      let reply = (serve before.service job.request).0 in
      ended-sought at who (runs at place job reply (begun before.server before.draw)) (runs-hold known at who any 0 place job reply (begun before.server before.draw) is holds)

  event-sought : (event : Event) (who : Who) → session_named who.name before.server.sessions ≡ None → Unmade who.name event
      → Sought who (session_named who.name (after_event setting serve fresh before event).server.sessions)
  event-sought (Packet moment None) who none unmade = (before.server.jobs, [], none-begun who none)
  event-sought (Packet moment (Some envelope)) who none unmade =
      let at = setting_at setting moment before.server in
      let state : State S = begun before.server before.draw in
      ended-sought at who (takes at envelope state) (packet-other known at envelope who any 0 state unmade (none-begun who none))
  event-sought (Work moment place) who none unmade =
      work-sought (setting_at setting moment before.server) place (ready_job place before.server.jobs) who refl (none-begun who none)
  event-sought (Tick moment) who none unmade =
      let at = setting_at setting moment before.server in
      let state : State S = begun before.server before.draw in
      ended-sought at who (ticks at state) (ticks-hold known at who any 0 state (none-begun who none))
  event-sought (Attach moment name) who none unmade =
      let at = setting_at setting moment before.server in
      let state : State S = begun before.server before.draw in
      ended-sought at who (speaks name (attaches at) state) (attach-holds known at who any 0 name state (none-begun who none))
  event-sought (Loss name) who none unmade =
      let lost_state = lost-holds known who any 0 name (begun before.server before.draw) (none-begun who none) in
      ((after_event setting serve fresh before (Loss name)).server.jobs, [], lost_state)
  event-sought Restart who none unmade = ([], [], (refl, omega arith))

  -- it would have any unique number
  sought-unique : (who : Who) (found : Option Session) (session : Session) → found ≡ Some session → Sought who found → session.unique ≡ who.unique
  sought-unique who found session is sought =
      let P : Option Session → Type 0 = λ found. Holds who any 0 found sought.0 sought.1 in
      (subst P is sought.2).0.1

  none-stays : (event : Event) (name : Name) (session : Session) → session_named name before.server.sessions ≡ None → Unmade name event
      → session_named name (after_event setting serve fresh before event).server.sessions ≡ Some session → ⊥
  none-stays event name session none unmade is =
      let found = session_named name (after_event setting serve fresh before event).server.sessions in
      let one : Who = record { name = name; first = 0; unique = 0; history = [] } in
      let other : Who = record { name = name; first = 0; unique = 1; history = [] } in
      let zero_is : session.unique ≡ 0 = sought-unique one found session is (event-sought event one none unmade) in
      let one_is : session.unique ≡ 1 = sought-unique other found session is (event-sought event other none unmade) in
      absurd (omega arith)

  -- ---- what stays of a life

  abbrev after : Event → Course S V
  after event = after_event setting serve fresh before event

  abbrev next : Event → Life → Life
  next event life = gone_on setting before (after event) event life

  packet-name : (at : Setting S) (envelope : Envelope) (found : Option Session) (life : Life) → (with_packet at envelope found life).name ≡ life.name
  packet-name at envelope None life = refl
  packet-name at envelope (Some session) life = refl

  hearing-name : (event : Event) (life : Life) → (hearing setting before event life).name ≡ life.name
  hearing-name (Packet moment (Some envelope)) life =
      let at = setting_at setting moment before.server in
      cond_both (is_same life.name (name_in envelope)) (with_packet at envelope (heard_by at envelope before) life) life (λ (later : Life). later.name ≡ life.name)
      (λ is. packet-name at envelope (heard_by at envelope before) life) (λ fails. refl)
  hearing-name (Packet moment None) life = refl
  hearing-name (Work moment place) life = refl
  hearing-name (Tick moment) life = refl
  hearing-name (Attach moment name) life = refl
  hearing-name (Loss name) life = refl
  hearing-name Restart life = refl

  next-name : (event : Event) (life : Life) → (next event life).name ≡ life.name
  next-name event life =
      cond_both life.stands (with_event before (after event) (hearing setting before event life)) life (λ (later : Life). later.name ≡ life.name)
      (λ is. hearing-name event life) (λ fails. refl)

  next-stood : (event : Event) (life : Life) → (next event life).stands ≡ true → life.stands ≡ true
  next-stood event life =
      cond_both life.stands (with_event before (after event) (hearing setting before event life)) life (λ (later : Life). later.stands ≡ true → life.stands ≡ true)
      (λ is stands. is) (λ fails stands. stands)

  -- a life that stood, and whose session stands, stands
  next-stands : (event : Event) (life : Life) (session : Session) → life.stands ≡ true → session_named life.name (after event).server.sessions ≡ Some session
      → (next event life).stands ≡ true
  next-stands event life session stands is =
      let later = with_event before (after event) (hearing setting before event life) in
      let same : next event life ≡ later = cond-true life.stands later life stands in
      ap (λ (life : Life). life.stands) same
      ∙ (ap (λ (name : Name). is_some (session_named name (after event).server.sessions)) (hearing-name event life) ∙ ap is_some is)

  contains-map : (f : Life → Life) (lives : List Life) (life : Life) → Contains lives life → Contains (map f lives) (f life)
  contains-map f lives life has =
      let all = length-map lives f in
      let within = has.1 in
      (has.0, omega arith, get_or-map f lives has.0 life ∙ ap f has.2)

  -- ---- lives after an event

  -- the life that a packet begins
  born : (moment : ℕ) (envelope : Envelope) → session_named (name_in envelope) before.server.sessions ≡ None
      → (session : Session) × (name_of session ≡ name_in envelope) × (made_by setting before (Packet moment (Some envelope)) ≡ life_of session ∷ [])
  born moment envelope none =
      let at = setting_at setting moment before.server in
      let state : State S = begun before.server before.draw in
      let start = begins at envelope state none (unnamed-jobs (name_in envelope) before.server.sessions before.server.jobs ordered none) refl in (
        start.0,
        ap name_of start.1.1.1,
        ap (λ (found : Option Session). newborn found (heard_by at envelope before)) none ∙ ap (newborn None) start.1.0,
      )

  born-lived : (moment : ℕ) (envelope : Envelope) (lives : List Life) (session : Session) → session_named (name_in envelope) before.server.sessions ≡ None
      → session_named (name_in envelope) (after (Packet moment (Some envelope))).server.sessions ≡ Some session
      → (life : Life) × Contains (lives_after setting before (after (Packet moment (Some envelope))) (Packet moment (Some envelope)) lives) life
      × (life.stands ≡ true) × (life.name ≡ name_in envelope)
  born-lived moment envelope lives session none is =
      let event = Packet moment (Some envelope) in
      let made = born moment envelope none in
      let life = life_of made.0 in
      let N : Name → Type 0 = λ name. session_named name (after event).server.sessions ≡ Some session in
      let found : session_named life.name (after event).server.sessions ≡ Some session = subst N (sym made.1) is in
      let P : List Life → Type 0 = λ made. Contains (map (next event) (lives ++ made)) (next event life) in (
        next event life,
        subst P (sym made.2) (contains-map (next event) (lives ++ life ∷ []) life (Contains-push lives life)),
        next-stands event life session refl found,
        next-name event life ∙ made.1,
      )

  stood-lived : (event : Event) (lives : List Life) (life : Life) (session : Session) → Contains lives life → life.stands ≡ true
      → session_named life.name (after event).server.sessions ≡ Some session
      → (later : Life) × Contains (lives_after setting before (after event) event lives) later × (later.stands ≡ true) × (later.name ≡ life.name)
  stood-lived event lives life session has stands is = (
    next event life,
    contains-map (next event) (lives ++ made_by setting before event) life (Contains-append_left lives (made_by setting before event) life has),
    next-stands event life session stands is,
    next-name event life,
  )

  -- an event that makes a session of this name, or doesn't
  made-lived : (event : Event) (lives : List Life) (name : Name) (session : Session) → session_named name before.server.sessions ≡ None
      → session_named name (after event).server.sessions ≡ Some session
      → (life : Life) × Contains (lives_after setting before (after event) event lives) life × (life.stands ≡ true) × (life.name ≡ name)
  made-lived (Packet moment (Some envelope)) lives name session none is =
      let event = Packet moment (Some envelope) in
      elim (cases_name name (name_in envelope)) [
        | inl own ↦
            let N : Name → Type 0 = λ name. session_named name before.server.sessions ≡ None in
            let A : Name → Type 0 = λ name. session_named name (after event).server.sessions ≡ Some session in
            let R : Name → Type 0 = λ name. (life : Life) × Contains (lives_after setting before (after event) event lives) life × (life.stands ≡ true) × (life.name ≡ name) in
            subst R (sym own) (born-lived moment envelope lives session (subst N own none) (subst A own is))
        | inr apart ↦ absurd (none-stays event name session none apart is)
      ]
  made-lived (Packet moment None) lives name session none is = absurd (none-stays (Packet moment None) name session none tt is)
  made-lived (Work moment place) lives name session none is = absurd (none-stays (Work moment place) name session none tt is)
  made-lived (Tick moment) lives name session none is = absurd (none-stays (Tick moment) name session none tt is)
  made-lived (Attach moment other) lives name session none is = absurd (none-stays (Attach moment other) name session none tt is)
  made-lived (Loss other) lives name session none is = absurd (none-stays (Loss other) name session none tt is)
  made-lived Restart lives name session none is = absurd (none-stays Restart name session none tt is)

  lived-by : (event : Event) (lives : List Life) (name : Name) (session : Session) (found : Option Session) → session_named name before.server.sessions ≡ found
      → AreLived before.server.sessions lives → session_named name (after event).server.sessions ≡ Some session
      → (life : Life) × Contains (lives_after setting before (after event) event lives) life × (life.stands ≡ true) × (life.name ≡ name)
  lived-by event lives name session None was lived is = made-lived event lives name session was is
  lived-by event lives name session (Some former) was lived is =
      let life = lived name former was in
      let A : Name → Type 0 = λ name. session_named name (after event).server.sessions ≡ Some session in
      let later = stood-lived event lives life.0 session life.1 life.2 (subst A (sym life.3) is) in
      (later.0, later.1, later.2, later.3 ∙ life.3)

  pub event-lived : (event : Event) (lives : List Life) → AreLived before.server.sessions lives
      → AreLived (after event).server.sessions (lives_after setting before (after event) event lives)
  event-lived event lives lived = λ name session is.
      lived-by event lives name session (session_named name before.server.sessions) refl lived is

  -- ---- one life of a name stands

  abbrev Other : Life → Life → Type 0
  Other one other = one.stands ≡ true → other.stands ≡ true → one.name ≢ other.name

  pairs-map : (f : Life → Life) (lives : List Life) → AllPairs (λ one other. Other (f one) (f other)) lives → AllPairs Other (map f lives)
  pairs-map f [] all = pairs-nil Other
  pairs-map f (life ∷ lives) all =
      let R : Life → Life → Type 0 = λ one other. Other (f one) (f other) in
      pairs-cons Other (f life) (map f lives) (All-map (Other (f life)) f lives (pairs-head R life lives all)) (pairs-map f lives (pairs-tail R life lives all))

  next-apart : (event : Event) (one other : Life) → Other one other → Other (next event one) (next event other)
  next-apart event one other apart = λ one_stands other_stands same.
      apart (next-stood event one one_stands) (next-stood event other other_stands) (sym (next-name event one) ∙ (same ∙ next-name event other))

  -- no life that stands has the name of the one that begins
  made-apart : (event : Event) (lives : List Life) → All (λ life. IsEven before.server life × IsRecorded life) lives → AreApart lives
      → AreApart (lives ++ made_by setting before event)
  made-apart (Packet moment (Some envelope)) lives even apart =
      made-by (session_named (name_in envelope) before.server.sessions) refl where
        made-by : (found : Option Session) → session_named (name_in envelope) before.server.sessions ≡ found
            → AreApart (lives ++ made_by setting before (Packet moment (Some envelope)))
        made-by None none =
            let made = born moment envelope none in
            let P : List Life → Type 0 = λ made. AreApart (lives ++ made) in
            subst P (sym made.2)
            (all_pairs_push Other lives (life_of made.0) apart
            (λ k d within stands begun same.
            let standing = (even k d within).0.standing stands in
            let N : Name → Type 0 = λ name. session_named name before.server.sessions ≡ Some standing.0 in
            none-some standing.0 (sym none ∙ subst N (same ∙ made.1) standing.1)))
        made-by (Some session) is =
            let P : List Life → Type 0 = AreApart in
            let nothing : made_by setting before (Packet moment (Some envelope)) ≡ [] =
            ap (λ (found : Option Session). newborn found (heard_by (setting_at setting moment before.server) envelope before)) is in
            subst P (ap (λ (made : List Life). lives ++ made) (sym nothing)) (subst P (sym (append-nil lives)) apart)
  made-apart (Packet moment None) lives even apart = let P : List Life → Type 0 = AreApart in subst P (sym (append-nil lives)) apart
  made-apart (Work moment place) lives even apart = let P : List Life → Type 0 = AreApart in subst P (sym (append-nil lives)) apart
  made-apart (Tick moment) lives even apart = let P : List Life → Type 0 = AreApart in subst P (sym (append-nil lives)) apart
  made-apart (Attach moment name) lives even apart = let P : List Life → Type 0 = AreApart in subst P (sym (append-nil lives)) apart
  made-apart (Loss name) lives even apart = let P : List Life → Type 0 = AreApart in subst P (sym (append-nil lives)) apart
  made-apart Restart lives even apart = let P : List Life → Type 0 = AreApart in subst P (sym (append-nil lives)) apart

  pub event-apart : (event : Event) (lives : List Life) → All (λ life. IsEven before.server life × IsRecorded life) lives → AreApart lives
      → AreApart (lives_after setting before (after event) event lives)
  event-apart event lives even apart =
      let all = lives ++ made_by setting before event in
      let before_apart = made-apart event lives even apart in
      pairs-map (next event) all (λ i j d lt within. next-apart event (get_or all i d) (get_or all j d) (before_apart i j d lt within))

-- ---- all events

pub told-lived : {S V : Type 0} (setting : Setting S) (serve : Step V) (fresh : V) (laws : Laws S V setting serve fresh) (events : List Event) (told : Told S V)
    → AreLives S V told → AreLived told.course.server.sessions told.lives → AreApart told.lives
    → AreLived (told_from setting serve fresh told events).course.server.sessions (told_from setting serve fresh told events).lives
    × AreApart (told_from setting serve fresh told events).lives
told-lived setting serve fresh laws [] told are lived apart = (lived, apart)
told-lived setting serve fresh laws (event ∷ events) told are lived apart =
    told-lived setting serve fresh laws events (told_after setting serve fresh told event)
    (record {
      ordered = laws.ordered told.course event are.ordered;
      lives = event-lives setting serve fresh laws told.course are.ordered event told.lives are.lives;
    })
    (event-lived setting serve fresh laws.speech told.course are.ordered event told.lives lived)
    (event-apart setting serve fresh laws.speech told.course are.ordered event told.lives are.lives apart)

-- ---- jobs

job-by : (server : Server) (lives : List Life) → AreOrdered server.sessions server.jobs → AreLived server.sessions lives
    → All (λ life. IsEven server life × IsRecorded life) lives → (k : ℕ) (d : Unfinished) → k < length server.jobs
    → (found : Option Session) → session_named (named (get_or server.jobs k d).job.key (get_or server.jobs k d).job.session) server.sessions ≡ found
    → IsOfLife lives (get_or server.jobs k d)
job-by server lives ordered lived even k d within None none =
    let job = (get_or server.jobs k d).job in
    let name = named job.key job.session in
    let nothing = unnamed-jobs name server.sessions server.jobs ordered none any in
    let passes : job_passes name any job ≡ true = and_from _ _ (by-own job.key job.session) refl in
    let one = count-at (λ (one : Unfinished). job_passes name any one.job) server.jobs k d within passes in
    absurd (omega arith)
job-by server lives ordered lived even k d within (Some session) is =
    let one = get_or server.jobs k d in
    let name = named one.job.key one.job.session in
    let life = lived name session is in
    let holds = All-contains (λ (life : Life). IsEven server life × IsRecorded life) lives life.0 even life.1 in
    let final_so : IsFinal server.jobs life.0 = is-final server life.0 holds.0 holds.1 in
    let O : Name → Type 0 = λ name. is_of name.key name.session one ≡ true in
    (life.0, life.1, life.2, life.3, final_so.waiting life.2 k d within (subst O (sym life.3) (by-own one.job.key one.job.session)))

pub jobs-lived : (server : Server) (lives : List Life) → AreOrdered server.sessions server.jobs → AreLived server.sessions lives
    → All (λ life. IsEven server life × IsRecorded life) lives → All (IsOfLife lives) server.jobs
jobs-lived server lives ordered lived even = λ k d within.
    job-by server lives ordered lived even k d within (session_named (named (get_or server.jobs k d).job.key (get_or server.jobs k d).job.session) server.sessions) refl
