-- One session and its account while a packet is taken.
use Rattle.std.proofs.Common.{◌≡◌, ◌≢◌, ◌∙◌, ℕ, ◌+◌, ltb, Bool, true, false, cond, Option, Some, None, List, [], ◌∷◌, ◌++◌, length, ap, sym, subst, refl, arith, inl, inr}
use Rattle.std.specs.Prelude.{fold, not, is_some, filter_map, ◌&&◌, ◌==◌}
use Rattle.std.specs.List.{cons_option}
use Rattle.std.specs.Option.{option_or}
use Rattle.std.proofs.lemmas.Bool.{cond_both, cond-true, cond-false}
use Rattle.std.proofs.lemmas.List.Folds.{find-append}
use Rattle.service_tl.specs.declared.item.Item.{Item}
use Rattle.service_tl.specs.declared.item.Item.TheVariants.{DestroySession, DestroySessionOk, DestroySessionNone}
use Rattle.id_window.specs.History.{History}
use Rattle.inbox.specs.Verdicts.{Verdict, Accepted, Again, Noticed, Judgement}
use Rattle.inbox.specs.Refusals.{InEnvelope}
use Rattle.inbox.specs.Judging.{judgements}
use Rattle.server_rules.specs.Server.{Name, Session, name_of, is_same, is_named, session_named, without_session, remembered, has_accepted, sessions_max}
use Rattle.server_rules.specs.Event.{Setting, State, Speaker, Envelope, speaks, lost}
use Rattle.server_rules.specs.Speaking.{says, says_it_is_new}
use Rattle.server_rules.specs.Waiting.{tells_of}
use Rattle.server_rules.specs.Rows.{owes, row, destroys, settles, acknowledges, acks_of}
use Rattle.server_rules.specs.Answer.{name_in, message_in, without_first as without_first_session, session_for, makes, hears_by, hears, opens, takes_by, takes}
use Rattle.law_server.specs.Lives.{Acceptance, acceptance_of, acceptance_by, judged_by, history_by}
use Rattle.law_server.proofs.LivedNames.{none-some, cases_name, names-same, apart-names, found-named, lost-name, lost-other}
use Rattle.law_server.proofs.Counting.{Test, jobs_at, entries_at, asked_at, lost-own, lost-others}
use Rattle.law_server.proofs.Accounts.{none, asking, asked_by, Still, still-account, owes-account, told-account}
use Rattle.law_server.proofs.Going.{Who, Holds, HoldsIn, holds-same, Spoke, spoke-said, Known, with_history, speaks-hold, speaks-same, opens-own, opens-other, lost-holds, failures-hold}

-- ---- what speeches are

pub quiet : {S : Type 0} (judged : History) (before after : Speaker S) → name_of after.session ≡ name_of before.session → after.session.first ≡ before.session.first
    → after.session.unique ≡ before.session.unique → after.session.history ≡ judged → Still S before after → Spoke S judged none before after
quiet judged before after name first unique history still = record {
  name = name;
  first = first;
  unique = unique;
  history = history;
  account = still-account before after still;
  entries = λ other apart test. ap (entries_at other test) still.1;
}

says-spoke : {S : Type 0} (setting : Setting S) (item : Item) (speaker : Speaker S) → Spoke S speaker.session.history none speaker (says setting item speaker)
says-spoke setting item speaker = quiet speaker.session.history speaker (says setting item speaker) refl refl refl refl (refl, refl)

tells-spoke : {S : Type 0} (number : ℕ) (speaker : Speaker S) → Spoke S speaker.session.history none speaker (tells_of number speaker)
tells-spoke number speaker = record {
  name = refl;
  first = refl;
  unique = refl;
  history = refl;
  account = told-account number speaker;
  entries = λ other apart test. refl;
}

acknowledges-spoke : {S : Type 0} (setting : Setting S) (numbers : List ℕ) (judged : History) (before after : Speaker S) → Spoke S judged none before after
    → Spoke S judged none before (acknowledges setting numbers after)
acknowledges-spoke setting [] judged before after spoke = spoke
acknowledges-spoke setting (number ∷ numbers) judged before after spoke = record {
  name = spoke.name;
  first = spoke.first;
  unique = spoke.unique;
  history = spoke.history;
  account = record { own = spoke.account.own; others = spoke.account.others };
  entries = spoke.entries;
}

opens-spoke : {S : Type 0} (setting : Setting S) (history : History) (judged : List Judgement) (speaker : Speaker S)
    → Spoke S history none speaker (opens setting history judged speaker)
opens-spoke {S} setting history judged speaker =
    let ready : Speaker S = record speaker { session = record speaker.session { history = history } } in
    acknowledges-spoke setting (acks_of judged) history speaker (cond (has_accepted ready.session) ready (says_it_is_new setting ready))
    (cond_both (has_accepted ready.session) ready (says_it_is_new setting ready) (Spoke S history none speaker)
    (λ is. quiet history speaker ready refl refl refl refl (refl, refl))
    (λ is. quiet history speaker (says_it_is_new setting ready) refl refl refl refl (refl, refl)))

-- ---- what judgements ask

abbrev pub rises : Test → List (Judgement × List ℕ) → ℕ
rises test [] = 0
rises test ((judgement, body) ∷ judged) = asking judgement.number (asked_by judgement.verdict body) test + rises test judged

rises-by : (test : Test) (number : ℕ) (verdict : Verdict) (body : List ℕ) (accepted : List Acceptance) (more : ℕ) → more ≡ asked_at test accepted
    → asking number (asked_by verdict body) test + more ≡ asked_at test (cons_option (acceptance_by number verdict body) accepted)
rises-by test number (Accepted item) body accepted more is = omega arith
rises-by test number (Again mark) body accepted more is = omega arith
rises-by test number (Noticed code) body accepted more is = omega arith

pub rises-asked : (test : Test) (judged : List (Judgement × List ℕ)) → rises test judged ≡ asked_at test (filter_map acceptance_of judged)
rises-asked test [] = refl
rises-asked test ((judgement, body) ∷ judged) =
    rises-by test judgement.number judgement.verdict body (filter_map acceptance_of judged) (rises test judged) (rises-asked test judged)

-- ---- judgements are settled

more-of : (own : Bool) (total first rest : ℕ) → total + cond own first 0 + cond own rest 0 ≡ total + cond own (first + rest) 0
more-of true total first rest = omega arith
more-of false total first rest = omega arith

nothing-more : (own : Bool) (total : ℕ) → total ≡ total + cond own 0 0
nothing-more true total = omega arith
nothing-more false total = omega arith

module _ {S : Type 0} (known : Known S) (setting : Setting S) (who : Who) (test : Test) where
  destroys-hold : (number destroyed : ℕ) (name : Name) (total : ℕ) (state : State S) → HoldsIn who test total state → HoldsIn who test total (destroys setting number destroyed name state)
  destroys-hold number destroyed name total state holds =
      let other : Name = record name { session = destroyed } in
      cond_both (not (destroyed == name.session) && is_some (session_named other state.sessions))
      (speaks name (says setting (DestroySessionOk destroyed)) (lost other state)) (speaks name (says setting (DestroySessionNone destroyed)) state)
      (λ (state : State S). HoldsIn who test total state)
      (λ is. speaks-same known who test total name (says setting (DestroySessionOk destroyed)) (lost other state) (says-spoke setting (DestroySessionOk destroyed)) (lost-holds known who test total other state holds))
      (λ is. speaks-same known who test total name (says setting (DestroySessionNone destroyed)) state (says-spoke setting (DestroySessionNone destroyed)) holds)

  row-by : (name : Name) (number seq : ℕ) (verdict : Verdict) (body : List ℕ) (total : ℕ) (state : State S) → HoldsIn who test total state
      → HoldsIn who test (total + cond (is_same who.name name) (asking number (asked_by verdict body) test) 0) (speaks name (owes setting number seq verdict body) state)
  row-by name number seq verdict body total state holds =
      speaks-hold known who test total (asking number (asked_by verdict body)) name (owes setting number seq verdict body) state
      (λ speaker.
      spoke-said (asking number (asked_by verdict body)) speaker (owes setting number seq verdict body speaker) (known.owes setting speaker number seq verdict body)
      (owes-account setting number seq verdict body speaker))
      holds

  row-holds : (name : Name) (number seq : ℕ) (verdict : Verdict) (body : List ℕ) (total : ℕ) (state : State S) → HoldsIn who test total state
      → HoldsIn who test (total + cond (is_same who.name name) (asking number (asked_by verdict body) test) 0) (row setting name number seq verdict body state)
  row-holds name number seq (Accepted (DestroySession destroyed)) body total state holds =
      let done = destroys setting number destroyed name state in
      let Z : ℕ → Type 0 = λ total. HoldsIn who test total done in
      subst Z (nothing-more (is_same who.name name) total) (destroys-hold number destroyed name total state holds)
  row-holds name number seq (Accepted item) body total state holds = row-by name number seq (Accepted item) body total state holds
  row-holds name number seq (Again mark) body total state holds = row-by name number seq (Again mark) body total state holds
  row-holds name number seq (Noticed code) body total state holds = row-by name number seq (Noticed code) body total state holds

  settle-holds : (name : Name) (judgement : Judgement) (body : List ℕ) (total : ℕ) (state : State S) → HoldsIn who test total state
      → HoldsIn who test (total + cond (is_same who.name name) (asking judgement.number (asked_by judgement.verdict body) test) 0) (settles setting name state (judgement, body))
  settle-holds name judgement body total state holds =
      let done = row setting name judgement.number judgement.seq judgement.verdict body state in
      let later = total + cond (is_same who.name name) (asking judgement.number (asked_by judgement.verdict body) test) 0 in
      failures-hold known setting who test later (speaks name (tells_of judgement.number) done)
      (speaks-same known who test later name (tells_of judgement.number) done (tells-spoke judgement.number)
      (row-holds name judgement.number judgement.seq judgement.verdict body total state holds))

  pub all-hold : (name : Name) (judged : List (Judgement × List ℕ)) (total : ℕ) (state : State S) → HoldsIn who test total state
      → HoldsIn who test (total + cond (is_same who.name name) (rises test judged) 0) (fold (settles setting name) state judged)
  all-hold name [] total state holds =
      let Z : ℕ → Type 0 = λ total. HoldsIn who test total state in subst Z (nothing-more (is_same who.name name) total) holds
  all-hold name ((judgement, body) ∷ judged) total state holds =
      let first = asking judgement.number (asked_by judgement.verdict body) test in
      let Z : ℕ → Type 0 = λ total. HoldsIn who test total (fold (settles setting name) state ((judgement, body) ∷ judged)) in
      subst Z (more-of (is_same who.name name) total first (rises test judged))
      (all-hold name judged (total + cond (is_same who.name name) first 0) (settles setting name state (judgement, body)) (settle-holds name judgement body total state holds))

-- ---- the session takes the packet

module _ {S : Type 0} (known : Known S) (setting : Setting S) (envelope : Envelope) (test : Test) where
  -- the state once its messages are judged
  abbrev opened : Session → State S → State S
  opened session state =
      speaks (name_of session) (opens setting (history_by setting envelope session)
      (judgements (InEnvelope setting.now session.salts envelope.salt) (remembered session) (message_in envelope))) state

  pub takes-own : (who : Who) (total : ℕ) (session : Session) (state : State S) → who.name ≡ name_of session → HoldsIn who test total state
      → HoldsIn (with_history who (history_by setting envelope session)) test (total + rises test (judged_by setting envelope session))
      (takes_by setting envelope (Some session) state)
  takes-own who total session state own holds =
      let name = name_of session in
      let history = history_by setting envelope session in
      let judged = judgements (InEnvelope setting.now session.salts envelope.salt) (remembered session) (message_in envelope) in
      let pairs = judged_by setting envelope session in
      let later = with_history who history in
      let more : cond (is_same who.name name) (rises test pairs) 0 ≡ rises test pairs = cond-true (is_same who.name name) (rises test pairs) 0 (names-same who.name name own) in
      let N : ℕ → Type 0 = λ more. HoldsIn later test (total + more) (takes_by setting envelope (Some session) state) in
      subst N more
      (all-hold known setting later test name pairs total (opened session state)
      (opens-own known who history test total name (opens setting history judged) state own (opens-spoke setting history judged) holds))

  pub takes-other : (who : Who) (total : ℕ) (found : Option Session) (state : State S)
      → ((session : Session) → found ≡ Some session → who.name ≢ name_of session) → HoldsIn who test total state
      → HoldsIn who test total (takes_by setting envelope found state)
  takes-other who total None state apart holds = holds
  takes-other who total (Some session) state apart holds =
      let name = name_of session in
      let history = history_by setting envelope session in
      let judged = judgements (InEnvelope setting.now session.salts envelope.salt) (remembered session) (message_in envelope) in
      let pairs = judged_by setting envelope session in
      let off : who.name ≢ name = apart session refl in
      let more : cond (is_same who.name name) (rises test pairs) 0 ≡ 0 = cond-false (is_same who.name name) (rises test pairs) 0 (apart-names who.name name off) in
      let plus : total + cond (is_same who.name name) (rises test pairs) 0 ≡ total = omega arith in
      let Z : ℕ → Type 0 = λ total. HoldsIn who test total (takes_by setting envelope (Some session) state) in
      subst Z plus
      (all-hold known setting who test name pairs total (opened session state)
      (opens-other known who history test total name (opens setting history judged) state off (opens-spoke setting history judged) holds))

-- ---- the session hears the packet

option_or-none : {X : Type 0} (found : Option X) → option_or found None ≡ found
option_or-none (Some x) = refl
option_or-none None = refl

-- a session put last under a name that no other has
last-own : (sessions : List Session) (session : Session) → session_named (name_of session) sessions ≡ None
    → session_named (name_of session) (sessions ++ session ∷ []) ≡ Some session
last-own sessions session none =
    let name = name_of session in
    find-append (is_named name) sessions (session ∷ [])
    ∙ (ap (λ (found : Option Session). option_or found (session_named name (session ∷ []))) none
    ∙ cond-true (is_named name session) (Some session) None (names-same name name refl))

pub last-other : (sessions : List Session) (session : Session) (name : Name) → name ≢ name_of session
    → session_named name (sessions ++ session ∷ []) ≡ session_named name sessions
last-other sessions session name apart =
    find-append (is_named name) sessions (session ∷ [])
    ∙ (ap (option_or (session_named name sessions)) (cond-false (is_named name session) (Some session) None (apart-names name (name_of session) apart))
    ∙ option_or-none (session_named name sessions))

-- a session that stands is heard last
pub hears-stands : {S : Type 0} (setting : Setting S) (envelope : Envelope) (state : State S) (session : Session) → session_named (name_in envelope) state.sessions ≡ Some session
    → (name : Name) → session_named name (hears_by setting envelope (Some session) state).sessions ≡ session_named name state.sessions
hears-stands setting envelope state session is name =
    let own = name_of session in
    let rest = without_session own state.sessions in
    let is_own : name_of session ≡ name_in envelope = found-named (name_in envelope) state.sessions session is in
    elim (cases_name name own) [
      | inl same ↦
          ap (λ (name : Name). session_named name (rest ++ session ∷ [])) same
          ∙ (last-own rest session (lost-name own state.sessions)
          ∙ (sym is ∙ ap (λ (name : Name). session_named name state.sessions) (sym (same ∙ is_own))))
      | inr apart ↦ last-other rest session name apart ∙ lost-other own name state.sessions apart
    ]

placed-none : {S : Type 0} (name : Name) (sessions : List Session) (state : State S) → session_named name state.sessions ≡ None
    → session_named name (without_first_session sessions state).sessions ≡ None
placed-none name [] state none = none
placed-none name (session ∷ sessions) state none =
    elim (cases_name name (name_of session)) [
      | inl own ↦ ap (λ (name : Name). session_named name (without_session (name_of session) state.sessions)) own ∙ lost-name (name_of session) state.sessions
      | inr apart ↦ lost-other (name_of session) name state.sessions apart ∙ none
    ]

placed-jobs : {S : Type 0} (name : Name) (test : Test) (sessions : List Session) (state : State S) → jobs_at name test state.jobs ≡ 0
    → jobs_at name test (without_first_session sessions state).jobs ≡ 0
placed-jobs name test [] state none = none
placed-jobs name test (session ∷ sessions) state none =
    elim (cases_name name (name_of session)) [
      | inl own ↦
          ap (λ (other : Name). jobs_at other test (lost (name_of session) state).jobs) own ∙ lost-own (name_of session) test state.jobs
      | inr apart ↦ lost-others (name_of session) name test state.jobs apart ∙ none
    ]

placed-entries : {S : Type 0} (sessions : List Session) (state : State S) → (without_first_session sessions state).entries ≡ state.entries
placed-entries [] state = refl
placed-entries (session ∷ sessions) state = refl

module _ {S : Type 0} (known : Known S) (setting : Setting S) (envelope : Envelope) (test : Test) where
  first-lost-holds : (who : Who) (total : ℕ) (sessions : List Session) (state : State S) → HoldsIn who test total state → HoldsIn who test total (without_first_session sessions state)
  first-lost-holds who total [] state holds = holds
  first-lost-holds who total (session ∷ sessions) state holds = lost-holds known who test total (name_of session) state holds

  made-holds : (who : Who) (total : ℕ) (state : State S) → who.name ≢ name_in envelope → HoldsIn who test total state → HoldsIn who test total (makes setting envelope state)
  made-holds who total state apart holds =
      let session = session_for setting envelope state.draw in
      holds-same who test total total (session_named who.name state.sessions) (session_named who.name (state.sessions ++ session ∷ [])) state.jobs state.jobs
      state.entries state.entries refl (sym (last-other state.sessions session who.name apart)) (λ test. refl) refl holds

  -- another session of the packet's name, or one that stands already, is what it was, or is lost
  hears-by : (who : Who) (total : ℕ) (state : State S) (found : Option Session) → session_named (name_in envelope) state.sessions ≡ found
      → (found ≡ None → who.name ≢ name_in envelope) → HoldsIn who test total state → HoldsIn who test total (hears_by setting envelope found state)
  hears-by who total state (Some session) is apart holds =
      holds-same who test total total (session_named who.name state.sessions) (session_named who.name (hears_by setting envelope (Some session) state).sessions)
      state.jobs state.jobs state.entries state.entries refl (sym (hears-stands setting envelope state session is who.name)) (λ test. refl) refl holds
  hears-by who total state None is apart holds =
      cond_both (ltb (length state.sessions) sessions_max) state (without_first_session state.sessions state)
      (λ (placed : State S). HoldsIn who test total (makes setting envelope placed))
      (λ room. made-holds who total state (apart refl) holds)
      (λ full. made-holds who total (without_first_session state.sessions state) (apart refl) (first-lost-holds who total state.sessions state holds))

  pub hears-hold : (who : Who) (total : ℕ) (state : State S) → (session_named (name_in envelope) state.sessions ≡ None → who.name ≢ name_in envelope)
      → HoldsIn who test total state → HoldsIn who test total (hears setting envelope state)
  hears-hold who total state apart holds =
      hears-by who total state (session_named (name_in envelope) state.sessions) refl apart holds

-- ---- a session is made

-- what a session begins with
abbrev pub IsBegun : {S : Type 0} → Setting S → Envelope → Session → State S → Type 0
IsBegun {S} setting envelope session state =
    (session_named (name_in envelope) state.sessions ≡ Some session)
    × ((draw : S) × (session ≡ session_for setting envelope draw))
    × ((test : Test)
    → HoldsIn (record { name = name_in envelope; first = session.first; unique = session.unique; history = [] }) test 0 state)

made-begun : {S : Type 0} (setting : Setting S) (envelope : Envelope) (placed : State S) → session_named (name_in envelope) placed.sessions ≡ None
    → ((test : Test) → jobs_at (name_in envelope) test placed.jobs ≡ 0) → placed.entries ≡ []
    → IsBegun setting envelope (session_for setting envelope placed.draw) (makes setting envelope placed)
made-begun setting envelope placed none jobs entries =
    let name = name_in envelope in
    let session = session_for setting envelope placed.draw in
    let found : session_named name (placed.sessions ++ session ∷ []) ≡ Some session = last-own placed.sessions session none in (
      found,
      (placed.draw, refl),
      λ test.
          let who : Who = record { name = name; first = session.first; unique = session.unique; history = [] } in
          let P : Option Session → Type 0 = λ found. Holds who test 0 found placed.jobs placed.entries in
          let no_jobs = jobs test in
          let no_entries : entries_at name test placed.entries ≡ 0 = ap (entries_at name test) entries in
          subst P (sym found) ((refl, refl, refl), omega arith),
    )

hears-new : {S : Type 0} (setting : Setting S) (envelope : Envelope) (state : State S) (found : Option Session) → session_named (name_in envelope) state.sessions ≡ found → found ≡ None
    → ((test : Test) → jobs_at (name_in envelope) test state.jobs ≡ 0) → state.entries ≡ []
    → (session : Session) × IsBegun setting envelope session (hears_by setting envelope found state)
hears-new setting envelope state (Some session) is no_one jobs entries = absurd (none-some session (sym no_one))
hears-new {S} setting envelope state None is no_one jobs entries =
    let name = name_in envelope in
    let other = without_first_session state.sessions state in
    cond_both (ltb (length state.sessions) sessions_max) state other
    (λ (placed : State S). (session : Session) × IsBegun setting envelope session (makes setting envelope placed))
    (λ room. (session_for setting envelope state.draw, made-begun setting envelope state is jobs entries))
    (λ full. (
      session_for setting envelope other.draw,
      made-begun setting envelope other (placed-none name state.sessions state is) (λ test. placed-jobs name test state.sessions state (jobs test))
          (placed-entries state.sessions state ∙ entries),
    ))

pub begins : {S : Type 0} (setting : Setting S) (envelope : Envelope) (state : State S) → session_named (name_in envelope) state.sessions ≡ None
    → ((test : Test) → jobs_at (name_in envelope) test state.jobs ≡ 0) → state.entries ≡ []
    → (session : Session) × IsBegun setting envelope session (hears setting envelope state)
begins setting envelope state none jobs entries = hears-new setting envelope state (session_named (name_in envelope) state.sessions) refl none jobs entries

-- ---- the packet of a session, and of another

module _ {S : Type 0} (known : Known S) (setting : Setting S) (envelope : Envelope) where
  pub packet-own : (who : Who) (test : Test) (total : ℕ) (session : Session) (state : State S) → who.name ≡ name_in envelope
      → session_named (name_in envelope) (hears setting envelope state).sessions ≡ Some session
      → HoldsIn who test total (hears setting envelope state)
      → HoldsIn (with_history who (history_by setting envelope session)) test (total + rises test (judged_by setting envelope session)) (takes setting envelope state)
  packet-own who test total session state own found holds =
      let heard = hears setting envelope state in
      let P : Option Session → Type 0 = λ found.
      HoldsIn (with_history who (history_by setting envelope session)) test (total + rises test (judged_by setting envelope session)) (takes_by setting envelope found heard) in
      let named_so : name_of session ≡ name_in envelope = found-named (name_in envelope) heard.sessions session found in
      subst P (sym found) (takes-own known setting envelope test who total session heard (own ∙ sym named_so) holds)

  pub packet-other : (who : Who) (test : Test) (total : ℕ) (state : State S) → who.name ≢ name_in envelope
      → HoldsIn who test total state → HoldsIn who test total (takes setting envelope state)
  packet-other who test total state apart holds =
      let heard = hears setting envelope state in
      takes-other known setting envelope test who total (session_named (name_in envelope) heard.sessions) heard
      (λ session is same. apart (same ∙ found-named (name_in envelope) heard.sessions session is))
      (hears-hold known setting envelope test who total state (λ none. apart) holds)
