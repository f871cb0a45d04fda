-- Jobs are answered in an event.
use Rattle.std.proofs.Common.{◌≡◌, ℕ, zero, suc, ◌==◌, ◌&&◌, Bool, true, false, Option, None, Some, List, [], ◌∷◌, ◌++◌, length, if◌then◌else◌, inl, inr, refl, sym, ap, subst, ◌∙◌}
use Rattle.std.specs.List.{AllByRecursion, Contains}
use Rattle.std.proofs.lemmas.Bool.{cases_Bool}
use Rattle.salt_line.specs.Line.{Line}
use Rattle.service_tl.specs.declared.item.Item.TheVariants.{RpcResult}
use Rattle.packing.specs.Numbering.{numbered}
use Rattle.waits.specs.declared.job.Job.{Job}
use Rattle.waits.specs.declared.job.Unfinished.{Unfinished}
use Rattle.waits.specs.Jobs.{Queue, after_answer, first_job, has_failed, is_of, is_overdue, is_ready, ready_job, settled, told as job_told, waits_for, without_first, without_ready}
use Rattle.server_rules.specs.Server.{IsKept, Name, Reply, Session, is_named, name_of, session_named, with_session}
use Rattle.server_rules.specs.Event.{Setting, Speaker, State, speaker_in, speaks, spoken_by}
use Rattle.server_rules.specs.Speaking.{answers, made_room, msg_wait_failed, msg_wait_timeout}
use Rattle.server_rules.specs.Waiting.{GoesOn, InVain, Outlook, Over, after_failures, after_timeouts, all_given_up, first_given_up, given_up, gives_up, outlook, told}
use Rattle.server_rules.specs.Answer.{finishes, runs, ticks}
use Rattle.law_server.specs.Speech.{SaidFor}
use Rattle.law_moves.specs.World.{World}
use Rattle.law_moves.specs.Reached.{Reached}
use Rattle.law_server_moves.specs.Leading.{Leads}
use Rattle.law_server_moves.specs.Servers.{AsksThere, IsJobOf, IsJobThere, Past, with_entries}
use Rattle.law_server_moves.specs.Speaking.{IsOpen, with_line}
use Rattle.law_server_moves.specs.Events.{AreCallsApart, AreOpenJobs, AreUnanswered, EventStands, IsNoneOf, IsSameCall, with_lines}
use Rattle.law_server_moves.proofs.Lists.{all_of, each_of, here, later as one_later, map_all}
use Rattle.law_server_moves.proofs.Leading.{GoOn as MovesGoOn, goes_on, leads_so, stays}
use Rattle.law_server_moves.proofs.Losing.{and_right, eq_true}
use Rattle.law_server_moves.proofs.One.{put}
use Rattle.law_server_moves.proofs.Answering.{jobs_go_on}
use Rattle.law_server_moves.proofs.Kept.{all_told, first_out, ready_out, room_made}
use Rattle.law_server_moves.proofs.Found.{first_in, found_in, some_same}
use Rattle.law_server_moves.proofs.Speech.{Adds}
use Rattle.law_server_moves.proofs.Words.{finishes_it, gives_up_it, open_more, still_open}
use Rattle.law_server_moves.proofs.Events.{all_mapped, and_first, mapped_in, name_is, speaks_on}

-- ---- jobs that stay what they are

none_so : (jobs new : Queue) (job : Job) → AllByRecursion (IsJobOf jobs) new → IsNoneOf jobs job → IsNoneOf new job
none_so jobs new job from none =
    map_all (IsJobOf jobs) (λ (other : Unfinished). IsSameCall job other → ⊥) new
    (λ other is h same. each_of (λ (o : Unfinished). IsSameCall job o → ⊥) jobs none h.0 h.1 (same.0 ∙ sym h.2, same.1 ∙ sym h.3, same.2 ∙ sym h.4)) from

unanswered_so : (jobs new : Queue) (o : Session) → AllByRecursion (IsJobOf jobs) new → AreUnanswered jobs o → AreUnanswered new o
unanswered_so jobs new o from open_all =
    map_all (IsJobOf jobs) (λ (one : Unfinished). is_of o.key o.number one ≡ true → IsOpen one.job.number o.replies) new
    (λ one is h of.
    subst (λ (n : ℕ). IsOpen n o.replies) h.4
    (each_of (λ (one : Unfinished). is_of o.key o.number one ≡ true → IsOpen one.job.number o.replies) jobs open_all h.0 h.1
    (ap (λ (k : ℕ). (k == o.key) && (h.0.job.session == o.number)) h.2 ∙ ap (λ (n : ℕ). (one.job.key == o.key) && (n == o.number)) h.3 ∙ of))) from

-- ---- calls stay apart

pub apart_first : (test : Unfinished → Bool) (jobs : Queue) → AreCallsApart jobs → AreCallsApart (without_first test jobs)
apart_first test [] h = tt
apart_first test (one ∷ jobs) h =
    elim (cases_Bool (test one)) [
      | inl is ↦ rw is h.1
      | inr not ↦ rw not (none_so jobs (without_first test jobs) one.job (first_out test jobs) h.0, apart_first test jobs h.1)
    ]

pub apart_ready : (place : ℕ) (jobs : Queue) → AreCallsApart jobs → AreCallsApart (without_ready place jobs)
apart_ready place [] h = tt
apart_ready zero (one ∷ jobs) h =
    elim (cases_Bool (is_ready one)) [
      | inl is ↦ rw is h.1
      | inr not ↦ rw not (none_so jobs (without_ready zero jobs) one.job (ready_out zero jobs) h.0, apart_ready zero jobs h.1)
    ]
apart_ready (suc place) (one ∷ jobs) h = (
  none_so jobs (without_ready (if is_ready one then place else suc place) jobs) one.job (ready_out (if is_ready one then place else suc place) jobs) h.0,
  apart_ready (if is_ready one then place else suc place) jobs h.1,
)

told_fields : (number : ℕ) (ok : Bool) (one : Unfinished) → IsSameCall one.job (job_told number ok one)
told_fields number true one = (refl, refl, refl)
told_fields number false one = (refl, refl, refl)

after_fields : (key session number : ℕ) (ok : Bool) (one : Unfinished) → IsSameCall one.job (after_answer key session number ok one)
after_fields key session number ok one =
    elim (cases_Bool (waits_for key session number one)) [
      | inl is ↦ rw is (told_fields number ok one)
      | inr not ↦ rw not (refl, refl, refl)
    ]

none_settled : (job : Job) (key session number : ℕ) (ok : Bool) (jobs : Queue) → IsNoneOf jobs job → IsNoneOf (settled key session number ok jobs) job
none_settled job key session number ok [] h = tt
none_settled job key session number ok (one ∷ jobs) h =
    let f = after_fields key session number ok one in
    (λ same. h.0 (same.0 ∙ sym f.0, same.1 ∙ sym f.1, same.2 ∙ sym f.2), none_settled job key session number ok jobs h.1)

settled_apart : (key session number : ℕ) (ok : Bool) (jobs : Queue) → AreCallsApart jobs → AreCallsApart (settled key session number ok jobs)
settled_apart key session number ok [] h = tt
settled_apart key session number ok (one ∷ jobs) h =
    let f = after_fields key session number ok one in (
      map_all (λ (other : Unfinished). IsSameCall one.job other → ⊥) (λ (other : Unfinished). IsSameCall (after_answer key session number ok one).job other → ⊥) (settled key session number ok jobs)
          (λ other is none same. none (f.0 ∙ same.0, f.1 ∙ same.1, f.2 ∙ same.2)) (none_settled one.job key session number ok jobs h.0),
      settled_apart key session number ok jobs h.1,
    )

told_apart : (outlook : Outlook) (x : Session) (number : ℕ) (jobs : Queue) → AreCallsApart jobs → AreCallsApart (told outlook x number jobs)
told_apart Over x number jobs h = settled_apart x.key x.number number true jobs h
told_apart InVain x number jobs h = settled_apart x.key x.number number false jobs h
told_apart GoesOn x number jobs h = h

-- ---- one that is taken out is another call than the rest

pub ready_in : (place : ℕ) (jobs : Queue) (job : Job) → ready_job place jobs ≡ Some job → (one : Unfinished) × Contains jobs one × (one.job ≡ job)
ready_in place [] job is = absurd (cc)
ready_in zero (one ∷ jobs) job is =
    elim (cases_Bool (is_ready one)) [
      | inl holds ↦ (one, here one jobs, some_same one.job job (subst (λ (b : Bool). (if b then Some one.job else ready_job zero jobs) ≡ Some job) holds is))
      | inr fails ↦
          let rest = ready_in zero jobs job (subst (λ (b : Bool). (if b then Some one.job else ready_job zero jobs) ≡ Some job) fails is) in
          (rest.0, one_later rest.0 one jobs rest.1, rest.2)
    ]
ready_in (suc place) (one ∷ jobs) job is =
    let rest = ready_in (if is_ready one then place else suc place) jobs job is in
    (rest.0, one_later rest.0 one jobs rest.1, rest.2)

-- one of a list, and another job
not_that : (jobs : Queue) (one found : Unfinished) (job : Job) → IsNoneOf jobs one.job → Contains jobs found → found.job ≡ job → IsSameCall job one → ⊥
not_that jobs one found job none among is same =
    each_of (λ (o : Unfinished). IsSameCall one.job o → ⊥) jobs none found among
    (sym same.0 ∙ ap (λ (j : Job). j.key) (sym is), sym same.1 ∙ ap (λ (j : Job). j.session) (sym is), sym same.2 ∙ ap (λ (j : Job). j.number) (sym is))

first_apart : (test : Unfinished → Bool) (jobs : Queue) (job : Job) → AreCallsApart jobs → first_job test jobs ≡ Some job → IsNoneOf (without_first test jobs) job
first_apart test [] job h is = tt
first_apart test (one ∷ jobs) job h is =
    elim (cases_Bool (test one)) [
      | inl holds ↦ rw holds (subst (λ (j : Job). IsNoneOf jobs j) (some_same one.job job (subst (λ (b : Bool). (if b then Some one.job else first_job test jobs) ≡ Some job) holds is)) h.0)
      | inr fails ↦
          let rest : first_job test jobs ≡ Some job = subst (λ (b : Bool). (if b then Some one.job else first_job test jobs) ≡ Some job) fails is in
          let found = first_in test jobs job rest in
          let none : IsSameCall job one → ⊥ = not_that jobs one found.0 job h.0 found.1 found.2 in
          let others : IsNoneOf (without_first test jobs) job = first_apart test jobs job h.1 rest in
          rw fails (none, others)
    ]

ready_apart : (place : ℕ) (jobs : Queue) (job : Job) → AreCallsApart jobs → ready_job place jobs ≡ Some job → IsNoneOf (without_ready place jobs) job
ready_apart place [] job h is = tt
ready_apart zero (one ∷ jobs) job h is =
    elim (cases_Bool (is_ready one)) [
      | inl holds ↦ rw holds (subst (λ (j : Job). IsNoneOf jobs j) (some_same one.job job (subst (λ (b : Bool). (if b then Some one.job else ready_job zero jobs) ≡ Some job) holds is)) h.0)
      | inr fails ↦
          let rest : ready_job zero jobs ≡ Some job = subst (λ (b : Bool). (if b then Some one.job else ready_job zero jobs) ≡ Some job) fails is in
          let found = ready_in zero jobs job rest in
          let none : IsSameCall job one → ⊥ = not_that jobs one found.0 job h.0 found.1 found.2 in
          let others : IsNoneOf (without_ready zero jobs) job = ready_apart zero jobs job h.1 rest in
          rw fails (none, others)
    ]
ready_apart (suc place) (one ∷ jobs) job h is =
    let found = ready_in (if is_ready one then place else suc place) jobs job is in
    (not_that jobs one found.0 job h.0 found.1 found.2, ready_apart (if is_ready one then place else suc place) jobs job h.1 is)

-- ---- a job is answered

module _ (sessions : List Session) (x b : Session) (rest new : Queue) (job : Job) (among : Contains sessions x) (key : b.key ≡ x.key) (number : b.number ≡ x.number)
    (of_key : job.key ≡ x.key) (of_session : job.session ≡ x.number)
    (still : (n : ℕ) → IsOpen n x.replies → (n ≡ job.number → ⊥) → IsOpen n b.replies)
    (open_all : AllByRecursion (AreUnanswered rest) sessions) (none : IsNoneOf rest job) (from : AllByRecursion (IsJobOf rest) new) where
  its_rest : AreUnanswered rest b
  its_rest =
      all_of (λ (one : Unfinished). is_of b.key b.number one ≡ true → IsOpen one.job.number b.replies) rest
      (λ one is of.
      let one_key : one.job.key ≡ x.key = eq_true one.job.key b.key (and_first (one.job.key == b.key) (one.job.session == b.number) of) ∙ key in
      let one_session : one.job.session ≡ x.number = eq_true one.job.session b.number (and_right (one.job.key == b.key) (one.job.session == b.number) of) ∙ number in
      let of_x : is_of x.key x.number one ≡ true =
      subst (λ (k : ℕ). ((one.job.key == k) && (one.job.session == x.number)) ≡ true) key (subst (λ (n : ℕ). ((one.job.key == b.key) && (one.job.session == n)) ≡ true) number of) in
      still one.job.number
      (each_of (λ (one : Unfinished). is_of x.key x.number one ≡ true → IsOpen one.job.number x.replies) rest (each_of (AreUnanswered rest) sessions open_all x among) one is of_x)
      (λ same. each_of (λ (o : Unfinished). IsSameCall job o → ⊥) rest none one is (of_key ∙ sym one_key, of_session ∙ sym one_session, sym same)))

  put_open : (o : Session) → Contains sessions o → AreUnanswered new (put b o)
  put_open o there =
      elim (cases_Bool (is_named (name_of b) o)) [
        | inl is ↦ rw is (unanswered_so rest new b from its_rest)
        | inr not ↦ rw not (unanswered_so rest new o from (each_of (AreUnanswered rest) sessions open_all o there))
      ]

  pub answered_open : AllByRecursion (AreUnanswered new) (with_session b sessions)
  answered_open = all_mapped (AreUnanswered new) (put b) sessions put_open

-- ---- in an event

-- what an event so far is, with its jobs
abbrev pub IsGoing : {S : Type 0} → World → Past → (Name → Line) → State S → Type 0
IsGoing w gone lines state = EventStands w gone lines state × AreOpenJobs state.sessions state.jobs

abbrev pub GivesUpAlone : Type 0 → Type 0
GivesUpAlone S = (setting : Setting S) (speaker : Speaker S) (content : List ℕ) (job : Job) → SaidFor S speaker (gives_up setting content job speaker)

abbrev pub FinishesAlone : Type 0 → Type 0
FinishesAlone S = (setting : Setting S) (speaker : Speaker S) (job : Job) (reply : List ℕ) → SaidFor S speaker (finishes setting job reply speaker)

module _ {S : Type 0} (adds : Adds) (setting : Setting S) (gone : Past) (lines : Name → Line) where
  -- a reply to a job leaves the other numbers open
  replied_open : (x : Session) (job : ℕ) (content : List ℕ) (n : ℕ) → IsOpen n x.replies → (n ≡ job → ⊥)
      → IsOpen n (made_room (length (numbered setting.now x.counters (RpcResult job content)).body) x.replies
      ++ record {
        call = job;
        number = (numbered setting.now x.counters (RpcResult job content)).number;
        seq = (numbered setting.now x.counters (RpcResult job content)).seq;
        content = content;
        fate = IsKept;
      } ∷ [])
  replied_open x job content n is_open differs =
      let message = numbered setting.now x.counters (RpcResult job content) in
      let room : List Reply = made_room (length message.body) x.replies in
      open_more room (record { call = job; number = message.number; seq = message.seq; content = content; fate = IsKept }) n
      (still_open x.replies room (room_made (length message.body) x.replies) n is_open) differs

  module _ (w : World) (state : State S) (rest : Queue) (job : Job) (one : Unfinished) (h : EventStands w gone lines state) (jobs : AreOpenJobs state.sessions state.jobs)
      (among : Contains state.jobs one) (is_job : one.job ≡ job) (from : AllByRecursion (IsJobOf state.jobs) rest) (none : IsNoneOf rest job) (apart : AreCallsApart rest) where
    abbrev name : Name
    name = record { key = job.key; session = job.session }

    abbrev without : State S
    without = record state { jobs = rest }

    h_rest : EventStands w gone lines without
    h_rest = record { stands = jobs_go_on w (with_entries state.entries gone) (with_lines lines state.sessions) state.jobs rest h.stands from; owed = h.owed }

    open_rest : AllByRecursion (AreUnanswered rest) state.sessions
    open_rest = map_all (AreUnanswered state.jobs) (AreUnanswered rest) state.sessions (λ o there is. unanswered_so state.jobs rest o from is) jobs.unanswered

    module _ (x : Session) (found : session_named name state.sessions ≡ Some x) where
      x_among : Contains state.sessions x
      x_among = (found_in (is_named name) state.sessions x found).0

      its_name : name ≡ name_of x
      its_name = name_is name x (found_in (is_named name) state.sessions x found).1

      of_x : is_of x.key x.number one ≡ true
      of_x = subst (λ (j : Job). ((j.key == x.key) && (j.session == x.number)) ≡ true) (sym is_job) (found_in (is_named name) state.sessions x found).1

      asks : AsksThere w x job.number (Some job.request)
      asks =
          let its : Session = with_line (lines (name_of x)) x in
          let there : Contains (with_lines lines state.sessions) its = mapped_in (λ (session : Session). with_line (lines (name_of session)) session) state.sessions x x_among in
          subst (λ (j : Job). AsksThere w x j.number (Some j.request)) is_job
          (each_of (IsJobThere w its) state.jobs (each_of (λ (o : Session). AllByRecursion (IsJobThere w o) state.jobs) (with_lines lines state.sessions) h.stands.working its there) one among of_x)

      is_open : IsOpen job.number x.replies
      is_open =
          subst (λ (j : Job). IsOpen j.number x.replies) is_job
          (each_of (λ (one : Unfinished). is_of x.key x.number one ≡ true → IsOpen one.job.number x.replies) state.jobs (each_of (AreUnanswered state.jobs) state.sessions jobs.unanswered x x_among) one among of_x)

    -- one that is given up
    given_open : (content : List ℕ) (found : Option Session) → session_named name state.sessions ≡ found
        → AreOpenJobs (spoken_by found (gives_up setting content job) without).sessions (spoken_by found (gives_up setting content job) without).jobs
    given_open content None is = record { unanswered = open_rest; apart = apart }
    given_open content (Some x) is =
        let b : Speaker S = gives_up setting content job (speaker_in without x) in
        let told_by : Speaker S = record (answers setting job.number content (speaker_in without x)) { jobs = rest } in
        let told_of : Outlook = outlook told_by.session rest job.number in
        record {
          unanswered = answered_open state.sessions x b.session rest b.jobs job (x_among x is) refl refl (ap (λ (n : Name). n.key) (its_name x is)) (ap (λ (n : Name). n.session) (its_name x is))
              (replied_open x job.number content) open_rest none (all_told told_of told_by.session job.number rest);
          apart = told_apart told_of told_by.session job.number rest apart;
        }

    pub gives_up_on : GivesUpAlone S → (content : List ℕ) → Leads w (λ later. IsGoing later gone lines (speaks name (gives_up setting content job) without))
    gives_up_on alone content =
        leads_so w (λ later. EventStands later gone lines (speaks name (gives_up setting content job) without)) (λ later. IsGoing later gone lines (speaks name (gives_up setting content job) without))
        (λ later k. (k, given_open content (session_named name state.sessions) refl))
        (speaks_on adds w gone lines without h_rest name (gives_up setting content job)
        (λ x found. (
          alone setting (speaker_in without x) content job,
          λ k. gives_up_it adds setting gone (with_lines lines state.sessions) (lines name) w content job (speaker_in without x) k (asks x found) (is_open x found),
        )))

    -- one that has run
    finished_open : (reply : List ℕ) (found : Option Session) → session_named name state.sessions ≡ found
        → AreOpenJobs (spoken_by found (finishes setting job reply) without).sessions (spoken_by found (finishes setting job reply) without).jobs
    finished_open reply None is = record { unanswered = open_rest; apart = apart }
    finished_open reply (Some x) is =
        let b : Speaker S = finishes setting job reply (speaker_in without x) in
        let told_by : Speaker S = record (answers setting job.number reply (speaker_in without x)) { jobs = rest } in
        let told_of : Outlook = outlook told_by.session rest job.number in
        record {
          unanswered = answered_open state.sessions x b.session rest b.jobs job (x_among x is) refl refl (ap (λ (n : Name). n.key) (its_name x is)) (ap (λ (n : Name). n.session) (its_name x is))
              (replied_open x job.number reply) open_rest none (all_told told_of told_by.session job.number rest);
          apart = told_apart told_of told_by.session job.number rest apart;
        }

    pub finishes_on : FinishesAlone S → (reply : List ℕ) → Leads w (λ later. IsGoing later gone lines (speaks name (finishes setting job reply) without))
    finishes_on alone reply =
        leads_so w (λ later. EventStands later gone lines (speaks name (finishes setting job reply) without)) (λ later. IsGoing later gone lines (speaks name (finishes setting job reply) without))
        (λ later k. (k, finished_open reply (session_named name state.sessions) refl))
        (speaks_on adds w gone lines without h_rest name (finishes setting job reply)
        (λ x found. (
          alone setting (speaker_in without x) job reply,
          λ k. finishes_it adds setting gone (with_lines lines state.sessions) (lines name) w job reply (speaker_in without x) k (asks x found) (is_open x found),
        )))

  -- ---- all that are so

  abbrev first_of : (Unfinished → Bool) → Queue → Option Job × Queue
  first_of test queue = (first_job test queue, without_first test queue)

  first_on : GivesUpAlone S → (content : List ℕ) (test : Unfinished → Bool) (w : World) (state : State S) → IsGoing w gone lines state → (found : Option Job) → first_job test state.jobs ≡ found
      → Leads w (λ later. IsGoing later gone lines (given_up setting content found (record state { jobs = without_first test state.jobs })))
  first_on alone content test w state h None is =
      let from = first_out test state.jobs in
      stays w (λ later. IsGoing later gone lines (record state { jobs = without_first test state.jobs })) (
        record { stands = jobs_go_on w (with_entries state.entries gone) (with_lines lines state.sessions) state.jobs (without_first test state.jobs) h.0.stands from; owed = h.0.owed },
        record {
          unanswered = map_all (AreUnanswered state.jobs) (AreUnanswered (without_first test state.jobs)) state.sessions
              (λ o there k. unanswered_so state.jobs (without_first test state.jobs) o from k) h.1.unanswered;
          apart = apart_first test state.jobs h.1.apart;
        },
      )
  first_on alone content test w state h (Some job) is =
      let found = first_in test state.jobs job is in
      gives_up_on w state (without_first test state.jobs) job found.0 h.0 h.1 found.1 found.2 (first_out test state.jobs) (first_apart test state.jobs job h.1.apart is)
      (apart_first test state.jobs h.1.apart) alone content

  all_on : GivesUpAlone S → MovesGoOn → (content : List ℕ) (test : Unfinished → Bool) (n : ℕ) (w : World) (state : State S) → Reached w → IsGoing w gone lines state
      → Leads w (λ later. IsGoing later gone lines (all_given_up setting content (first_of test) n state))
  all_on alone on content test zero w state reached h = stays w (λ later. IsGoing later gone lines state) h
  all_on alone on content test (suc n) w state reached h =
      let next : State S = first_given_up setting content (first_of test) state in
      goes_on on w (λ later. IsGoing later gone lines next) (λ later. IsGoing later gone lines (all_given_up setting content (first_of test) n next)) reached
      (first_on alone content test w state h (first_job test state.jobs) refl)
      (λ later reached k. all_on alone on content test n later next reached k)

  pub failures_on : GivesUpAlone S → MovesGoOn → (w : World) (state : State S) → Reached w → IsGoing w gone lines state
      → Leads w (λ later. IsGoing later gone lines (after_failures setting state))
  failures_on alone on w state reached h = all_on alone on msg_wait_failed has_failed (length state.jobs) w state reached h

  pub ticks_on : GivesUpAlone S → MovesGoOn → (w : World) (state : State S) → Reached w → IsGoing w gone lines state
      → Leads w (λ later. IsGoing later gone lines (ticks setting state))
  ticks_on alone on w state reached h =
      goes_on on w (λ later. IsGoing later gone lines (after_timeouts setting state)) (λ later. IsGoing later gone lines (ticks setting state)) reached
      (all_on alone on msg_wait_timeout (is_overdue setting.now) (length state.jobs) w state reached h)
      (λ later reached k. failures_on alone on later (after_timeouts setting state) reached k)

  pub runs_on : GivesUpAlone S → FinishesAlone S → MovesGoOn → (w : World) (state : State S) (place : ℕ) (job : Job) (reply : List ℕ) → Reached w → IsGoing w gone lines state
      → ready_job place state.jobs ≡ Some job → Leads w (λ later. IsGoing later gone lines (runs setting place job reply state))
  runs_on alone finishing on w state place job reply reached h is =
      let rest : Queue = without_ready place state.jobs in
      let found = ready_in place state.jobs job is in
      let next : State S = speaks (record { key = job.key; session = job.session }) (finishes setting job reply) (record state { jobs = rest }) in
      goes_on on w (λ later. IsGoing later gone lines next) (λ later. IsGoing later gone lines (runs setting place job reply state)) reached
      (finishes_on w state rest job found.0 h.0 h.1 found.1 found.2 (ready_out place state.jobs) (ready_apart place state.jobs job h.1.apart is) (apart_ready place state.jobs h.1.apart)
      finishing reply)
      (λ later reached k. failures_on alone on later next reached k)
