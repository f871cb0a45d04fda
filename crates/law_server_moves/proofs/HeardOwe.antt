-- In a run, or a tick, only sessions speak that have accepted a message.
use Rattle.std.proofs.Common.{◌≡◌, ℕ, zero, suc, ◌==◌, ◌&&◌, ◌||◌, Bool, true, false, Option, None, Some, List, [], ◌∷◌, length, inl, inr, refl, sym, ap, subst, ◌∙◌, ◌<◌, arith}
use Rattle.std.specs.List.{AllByRecursion, Contains}
use Rattle.std.proofs.lemmas.Bool.{cases_Bool}
use Rattle.std.proofs.lemmas.List.Elements.{All-contains}
use Rattle.salt_line.specs.Line.{Line}
use Rattle.service_tl.specs.declared.lists.Message.{Message}
use Rattle.id_window.specs.History.{FirstJudgement, History, was_accepted}
use Rattle.inbox.specs.Inbox.{was_heard}
use Rattle.packing.specs.Packing.{groups}
use Rattle.waits.specs.declared.job.Job.{Job}
use Rattle.waits.specs.declared.job.Unfinished.{Unfinished}
use Rattle.waits.specs.Jobs.{Queue, first_job, has_failed, is_of, is_overdue, ready_job, without_first, without_ready}
use Rattle.server_rules.specs.Server.{Name, Session, has_accepted, is_named, is_same, name_of, session_named}
use Rattle.server_rules.specs.Event.{Owed, Setting, Speaker, State, speaker_in, speaks, spoken, spoken_by}
use Rattle.server_rules.specs.Speaking.{answers, msg_wait_failed, msg_wait_timeout}
use Rattle.server_rules.specs.Waiting.{Outlook, after_failures, after_timeouts, all_given_up, first_given_up, given_up, gives_up, outlook}
use Rattle.server_rules.specs.Sending.{messages_by}
use Rattle.server_rules.specs.Answer.{finishes, runs, ticks}
use Rattle.law_server.specs.Speech.{SaidFor}
use Rattle.law_server.specs.Order.{AreOrdered, IsOrderlyAt, WasCalled, jobs_of}
use Rattle.law_server_moves.specs.Servers.{AreApart, IsJobOf}
use Rattle.law_server_moves.specs.Speaking.{with_line}
use Rattle.law_server_moves.specs.Events.{with_lines}
use Rattle.law_server_moves.specs.Sending.{MayAllGo, MayGo}
use Rattle.law_server_moves.proofs.Lists.{all_append, all_of, each_of, first_or, kept_in, map_all}
use Rattle.law_server_moves.proofs.Ordered.{orderly}
use Rattle.law_server_moves.proofs.Losing.{named_itself}
use Rattle.law_server_moves.proofs.One.{put}
use Rattle.law_server_moves.proofs.Kept.{all_told, first_out, ready_out}
use Rattle.law_server_moves.proofs.Found.{first_in, found_in}
use Rattle.law_server_moves.proofs.Events.{all_mapped}
use Rattle.law_server_moves.proofs.Ending.{same_name}
use Rattle.law_server_moves.proofs.Jobs.{FinishesAlone, GivesUpAlone, ready_in}

-- ---- what may go

-- where a session owes a message, it has accepted one
abbrev pub OwesHeard : List Owed → Session → Type 0
OwesHeard owed o = AllByRecursion (λ (one : Owed). one.name ≡ name_of o → has_accepted o ≡ true) owed

named_same : (name : Name) (one : Owed) → is_same name one.name ≡ true → one.name ≡ name
named_same name one is = same_name name one.name is

none_owed : (o : Session) (owed : List Owed) → OwesHeard owed o → has_accepted o ≡ false → messages_by (name_of o) owed ≡ []
none_owed o [] h not_so = refl
none_owed o (one ∷ owed) h not_so =
    elim (cases_Bool (is_same (name_of o) one.name)) [
      | inl is ↦ let e : false ≡ true = sym not_so ∙ h.0 (named_same (name_of o) one is) in absurd (cc)
      | inr other ↦ rw other (none_owed o owed h.1 not_so)
    ]

pub heard_may_go : (owed : List Owed) (o : Session) → OwesHeard owed o → MayAllGo owed o
heard_may_go owed o h =
    elim (cases_Bool (has_accepted o)) [
      | inl is ↦ all_of (MayGo o) (groups (messages_by (name_of o) owed)) (λ group there. inl is)
      | inr not_so ↦ subst (λ (l : List Message). AllByRecursion (MayGo o) (groups l)) (sym (none_owed o owed h not_so)) tt
    ]

-- ---- a session speaks

-- the session of each job has accepted a message
abbrev pub WorksHeard : Queue → Session → Type 0
WorksHeard jobs o = AllByRecursion (λ (one : Unfinished). is_of o.key o.number one ≡ true → has_accepted o ≡ true) jobs

pub record AreHeard (sessions : List Session) (jobs : Queue) (owed : List Owed) : Type 0 where
  pub owe : AllByRecursion (OwesHeard owed) sessions
  pub work : AllByRecursion (WorksHeard jobs) sessions

pub works_so : (jobs new : Queue) (o : Session) → AllByRecursion (IsJobOf jobs) new → WorksHeard jobs o → WorksHeard new o
works_so jobs new o from h =
    map_all (IsJobOf jobs) (λ (one : Unfinished). is_of o.key o.number one ≡ true → has_accepted o ≡ true) new
    (λ one is other of.
    each_of (λ (one : Unfinished). is_of o.key o.number one ≡ true → has_accepted o ≡ true) jobs h other.0 other.1
    (ap (λ (k : ℕ). (k == o.key) && (other.0.job.session == o.number)) other.2 ∙ ap (λ (n : ℕ). (one.job.key == o.key) && (n == o.number)) other.3 ∙ of)) from

pub fewer_heard : (sessions : List Session) (jobs new : Queue) (owed : List Owed) → AllByRecursion (IsJobOf jobs) new → AreHeard sessions jobs owed → AreHeard sessions new owed
fewer_heard sessions jobs new owed from h = record {
  owe = h.owe;
  work = map_all (WorksHeard jobs) (WorksHeard new) sessions (λ o is works. works_so jobs new o from works) h.work;
}

abbrev named : ℕ → ℕ → Name
named key session = record { key = key; session = session }

module _ {S : Type 0} (state : State S) (name : Name) (x : Session) (found : session_named name state.sessions ≡ Some x) (b : Speaker S) (said : SaidFor S (speaker_in state x) b)
    (heard : has_accepted x ≡ true) (from : AllByRecursion (IsJobOf state.jobs) b.jobs) (h : AreHeard state.sessions state.jobs state.owed) where
  name_b : name_of b.session ≡ name_of x
  name_b = ap (λ (key : ℕ). named key b.session.number) said.key ∙ ap (λ (number : ℕ). named x.key number) said.number

  heard_b : has_accepted b.session ≡ true
  heard_b = ap was_heard said.history ∙ heard

  owes_other : (o : Session) → Contains state.sessions o → is_named (name_of b.session) o ≡ false → OwesHeard b.owed o
  owes_other o there not_so =
      subst (λ (l : List Owed). OwesHeard l o) (sym said.owed.1)
      (all_append (λ (one : Owed). one.name ≡ name_of o → has_accepted o ≡ true) state.owed said.owed.0 (each_of (OwesHeard state.owed) state.sessions h.owe o there)
      (all_of (λ (one : Owed). one.name ≡ name_of o → has_accepted o ≡ true) said.owed.0
      (λ one is its.
      let same : name_of b.session ≡ name_of o = name_b ∙ sym (All-contains (λ (one : Owed). one.name ≡ name_of x) said.owed.0 one said.owed.2 is) ∙ its in
      let e : false ≡ true = sym not_so ∙ subst (λ (n : Name). is_named n o ≡ true) (sym same) (named_itself o) in absurd (cc))))

  owes_put : (o : Session) → Contains state.sessions o → OwesHeard b.owed (put b.session o)
  owes_put o there =
      elim (cases_Bool (is_named (name_of b.session) o)) [
        | inl is ↦ rw is (all_of (λ (one : Owed). one.name ≡ name_of b.session → has_accepted b.session ≡ true) b.owed (λ one is its. heard_b))
        | inr not_so ↦ rw not_so (owes_other o there not_so)
      ]

  works_put : (o : Session) → Contains state.sessions o → WorksHeard b.jobs (put b.session o)
  works_put o there =
      elim (cases_Bool (is_named (name_of b.session) o)) [
        | inl is ↦ rw is (all_of (λ (one : Unfinished). is_of b.session.key b.session.number one ≡ true → has_accepted b.session ≡ true) b.jobs (λ one is its. heard_b))
        | inr not_so ↦ rw not_so (works_so state.jobs b.jobs o from (each_of (WorksHeard state.jobs) state.sessions h.work o there))
      ]

  pub speaks_heard : AreHeard (spoken state b).sessions b.jobs b.owed
  speaks_heard = record {
    owe = all_mapped (OwesHeard b.owed) (put b.session) state.sessions owes_put;
    work = all_mapped (WorksHeard b.jobs) (put b.session) state.sessions works_put;
  }

-- ---- jobs are answered

module _ {S : Type 0} (setting : Setting S) (alone : GivesUpAlone S) where
  abbrev Heard : State S → Type 0
  Heard state = AreHeard state.sessions state.jobs state.owed × (state.sent ≡ [])

  module _ (state : State S) (rest : Queue) (job : Job) (one : Unfinished) (among : Contains state.jobs one) (is_job : one.job ≡ job) (from : AllByRecursion (IsJobOf state.jobs) rest) (h : Heard state) where
    abbrev name : Name
    name = record { key = job.key; session = job.session }

    abbrev without : State S
    without = record state { jobs = rest }

    h_rest : Heard without
    h_rest = (fewer_heard state.sessions state.jobs rest state.owed from h.0, h.1)

    heard_x : (x : Session) → session_named name state.sessions ≡ Some x → has_accepted x ≡ true
    heard_x x found =
        let place = found_in (is_named name) state.sessions x found in
        each_of (λ (one : Unfinished). is_of x.key x.number one ≡ true → has_accepted x ≡ true) state.jobs (each_of (WorksHeard state.jobs) state.sessions h.0.work x place.0) one among
        (subst (λ (j : Job). ((j.key == x.key) && (j.session == x.number)) ≡ true) (sym is_job) place.1)

    gives_up_found : (content : List ℕ) (found : Option Session) → session_named name state.sessions ≡ found → Heard (spoken_by found (gives_up setting content job) without)
    gives_up_found content None is = h_rest
    gives_up_found content (Some x) is =
        let b : Speaker S = gives_up setting content job (speaker_in without x) in
        let told_by : Speaker S = record (answers setting job.number content (speaker_in without x)) { jobs = rest } in
        let told_of : Outlook = outlook told_by.session rest job.number in
        let said = alone setting (speaker_in without x) content job in
        (speaks_heard without name x is b said (heard_x x is) (all_told told_of told_by.session job.number rest) h_rest.0, said.sent ∙ h.1)

    pub finishes_found : FinishesAlone S → (reply : List ℕ) (found : Option Session) → session_named name state.sessions ≡ found → Heard (spoken_by found (finishes setting job reply) without)
    finishes_found finishing reply None is = h_rest
    finishes_found finishing reply (Some x) is =
        let b : Speaker S = finishes setting job reply (speaker_in without x) in
        let told_by : Speaker S = record (answers setting job.number reply (speaker_in without x)) { jobs = rest } in
        let told_of : Outlook = outlook told_by.session rest job.number in
        let said = finishing setting (speaker_in without x) job reply in
        (speaks_heard without name x is b said (heard_x x is) (all_told told_of told_by.session job.number rest) h_rest.0, said.sent ∙ h.1)

  first_heard : (content : List ℕ) (test : Unfinished → Bool) (state : State S) → Heard state → (found : Option Job) → first_job test state.jobs ≡ found
      → Heard (given_up setting content found (record state { jobs = without_first test state.jobs }))
  first_heard content test state h None is = (fewer_heard state.sessions state.jobs (without_first test state.jobs) state.owed (first_out test state.jobs) h.0, h.1)
  first_heard content test state h (Some job) is =
      let found = first_in test state.jobs job is in
      gives_up_found state (without_first test state.jobs) job found.0 found.1 found.2 (first_out test state.jobs) h content
      (session_named (record { key = job.key; session = job.session }) state.sessions) refl

  abbrev first_of : (Unfinished → Bool) → Queue → Option Job × Queue
  first_of test queue = (first_job test queue, without_first test queue)

  all_heard : (content : List ℕ) (test : Unfinished → Bool) (n : ℕ) (state : State S) → Heard state → Heard (all_given_up setting content (first_of test) n state)
  all_heard content test zero state h = h
  all_heard content test (suc n) state h =
      all_heard content test n (first_given_up setting content (first_of test) state) (first_heard content test state h (first_job test state.jobs) refl)

  pub failures_heard : (state : State S) → Heard state → Heard (after_failures setting state)
  failures_heard state h = all_heard msg_wait_failed has_failed (length state.jobs) state h

  pub ticks_heard : (state : State S) → Heard state → Heard (ticks setting state)
  ticks_heard state h = failures_heard (after_timeouts setting state) (all_heard msg_wait_timeout (is_overdue setting.now) (length state.jobs) state h)

  pub runs_heard : FinishesAlone S → (state : State S) (place : ℕ) (job : Job) (reply : List ℕ) → Heard state → ready_job place state.jobs ≡ Some job
      → Heard (runs setting place job reply state)
  runs_heard finishing state place job reply h is =
      let found = ready_in place state.jobs job is in
      failures_heard (speaks (record { key = job.key; session = job.session }) (finishes setting job reply) (record state { jobs = without_ready place state.jobs }))
      (finishes_found state (without_ready place state.jobs) job found.0 found.1 found.2 (ready_out place state.jobs) h finishing reply
      (session_named (record { key = job.key; session = job.session }) state.sessions) refl)

-- ---- a server in order

or_left : (a b : Bool) → a ≡ true → (a || b) ≡ true
or_left true b is = refl
or_left false b is = absurd (cc)

or_right : (a b : Bool) → b ≡ true → (a || b) ≡ true
or_right true b is = refl
or_right false b is = is

pub any_of : (history : History) (one : FirstJudgement) → Contains history one → was_accepted one.outcome ≡ true → was_heard history ≡ true
any_of [] one there is = let below : there.0 < 0 = there.1 in absurd (omega (arith, below))
any_of (first ∷ history) one there is =
    elim (first_or one first history there) [
      | inl same ↦ or_left (was_accepted first.outcome) (was_heard history) (ap (λ (j : FirstJudgement). was_accepted j.outcome) same ∙ is)
      | inr other ↦ or_right (was_accepted first.outcome) (was_heard history) (any_of history one other is)
    ]

pub ordered_works : (sessions : List Session) (jobs : Queue) → AreApart sessions → ((name : Name) → IsOrderlyAt (session_named name sessions) (jobs_of name jobs)) → AllByRecursion (WorksHeard jobs) sessions
ordered_works sessions jobs apart each =
    all_of (WorksHeard jobs) sessions
    (λ o there.
    all_of (λ (one : Unfinished). is_of o.key o.number one ≡ true → has_accepted o ≡ true) jobs
    (λ one is of.
    let called : WasCalled one.job.number o.history =
    All-contains (λ (one : Unfinished). WasCalled one.job.number o.history) (jobs_of (name_of o) jobs) one (orderly sessions jobs apart each o there).unfinished.called (kept_in (is_of o.key o.number) jobs one is of) in
    any_of o.history called.0 called.1 (ap was_accepted called.3)))

pub ordered_heard : (sessions : List Session) (jobs : Queue) → AreApart sessions → AreOrdered sessions jobs → AreHeard sessions jobs []
ordered_heard sessions jobs apart h = record { owe = all_of (OwesHeard []) sessions (λ o there. tt); work = ordered_works sessions jobs apart h.each }

pub lines_heard : (lines : Name → Line) (owed : List Owed) (sessions : List Session) → AllByRecursion (OwesHeard owed) sessions
    → AllByRecursion (MayAllGo owed) (with_lines lines sessions)
lines_heard lines owed sessions h =
    all_mapped (MayAllGo owed) (λ session. with_line (lines (name_of session)) session) sessions
    (λ o there. heard_may_go owed (with_line (lines (name_of o)) o) (each_of (OwesHeard owed) sessions h o there))
