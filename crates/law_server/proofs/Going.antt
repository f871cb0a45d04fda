-- One session and its account within an event, whichever session speaks or is lost.
use Rattle.std.proofs.Common.{◌≡◌, ◌≢◌, ◌∙◌, ℕ, zero, suc, ◌+◌, ◌≤◌, Bool, true, false, cond, Option, Some, None, List, ap, sym, subst, refl, arith, inl, inr}
use Rattle.std.specs.Prelude.{length, ◌&&◌}
use Rattle.std.proofs.lemmas.Bool.{cond_both, cond-true, cond-false}
use Rattle.id_window.specs.History.{History}
use Rattle.inbox.specs.Verdicts.{Verdict}
use Rattle.waits.specs.declared.job.Job.{Job}
use Rattle.waits.specs.declared.job.Unfinished.{Unfinished}
use Rattle.waits.specs.Jobs.{Queue, has_failed, is_overdue, first_job, without_first, ready_job, without_ready, one_if}
use Rattle.server_rules.specs.Server.{Name, Session, name_of, is_same, session_named}
use Rattle.server_rules.specs.Event.{Setting, State, Speaker, Entry, speaker_in, spoken_by, speaks, lost}
use Rattle.server_rules.specs.Speaking.{msg_wait_failed, msg_wait_timeout}
use Rattle.server_rules.specs.Waiting.{gives_up, given_up, first_given_up, all_given_up, after_failures, after_timeouts}
use Rattle.server_rules.specs.Rows.{owes}
use Rattle.server_rules.specs.Answer.{attaches, finishes}
use Rattle.law_server.specs.Speech.{SaidFor}
use Rattle.law_server.proofs.LivedNames.{named, cases_name, names-same, apart-names, found-named, lost-name, lost-other}
use Rattle.law_server.proofs.Counting.{Test, any, jobs_at, entries_at, is_by, job_passes, entry_passes, count-append, by-own, by-other, first-at, ready-at, found_at, lost-own, lost-others, own-entries}
use Rattle.law_server.proofs.Accounts.{Rise, none, asking, Account, gives_up-account, finishes-account}

-- which session it is, and what it has judged
pub record Who : Type 0 where
  pub name : Name
  pub first : ℕ
  pub unique : ℕ
  pub history : History

abbrev pub IsWho : Who → Session → Type 0
IsWho who session = (session.first ≡ who.first) × (session.unique ≡ who.unique) × (session.history ≡ who.history)

-- where it stands its jobs and entries that pass a test are so many; where it is lost it has no jobs, and no more entries
abbrev pub Holds : Who → Test → ℕ → Option Session → Queue → List Entry → Type 0
Holds who test total None jobs entries = (jobs_at who.name any jobs ≡ 0) × (entries_at who.name test entries ≤ total)
Holds who test total (Some session) jobs entries =
    IsWho who session × (jobs_at who.name test jobs + entries_at who.name test entries ≡ total)

abbrev pub HoldsIn : {S : Type 0} → Who → Test → ℕ → State S → Type 0
HoldsIn who test total state = Holds who test total (session_named who.name state.sessions) state.jobs state.entries

pub holds-same : (who : Who) (test : Test) (total later : ℕ) (found other : Option Session) (jobs rest : Queue) (entries more : List Entry) → total ≡ later → found ≡ other
    → ((test : Test) → jobs_at who.name test rest ≡ jobs_at who.name test jobs) → entries_at who.name test more ≡ entries_at who.name test entries
    → Holds who test total found jobs entries → Holds who test later other rest more
holds-same who test total later found other jobs rest entries more totals same same_jobs same_entries holds =
    let P : Option Session → Type 0 = λ found. Holds who test later found rest more in
    subst P same (go found holds) where
      go : (found : Option Session) → Holds who test total found jobs entries → Holds who test later found rest more
      go None holds = (same_jobs any ∙ holds.0, let entries_so = holds.1 in omega arith)
      go (Some session) holds = (holds.0, let jobs_so = same_jobs test in let sum = holds.1 in omega arith)

-- ---- what a speech is

-- between these two the session that speaks stays the same one and has this history, its account rose by so much, and
-- other sessions have the same jobs and entries
pub record Spoke (S : Type 0) (judged : History) (rise : Rise) (before after : Speaker S) : Type 0 where
  pub name : name_of after.session ≡ name_of before.session
  pub first : after.session.first ≡ before.session.first
  pub unique : after.session.unique ≡ before.session.unique
  pub history : after.session.history ≡ judged
  pub account : Account S rise before after
  pub entries : (other : Name) → other ≢ name_of before.session → (test : Test) → entries_at other test after.entries ≡ entries_at other test before.entries

pub spoke-said : {S : Type 0} (rise : Rise) (before after : Speaker S) → SaidFor S before after → Account S rise before after
    → Spoke S before.session.history rise before after
spoke-said rise before after said account = record {
  name = ap (λ (k : ℕ). named k after.session.number) said.key ∙ ap (named before.session.key) said.number;
  first = said.first;
  unique = said.unique;
  history = said.history;
  account = account;
  entries = λ other apart test.
      let all = count-append (entry_passes other test) before.entries said.entries.0 in
      let none_more = own-entries (name_of before.session) other test said.entries.0 apart said.entries.2 in
      let same = ap (entries_at other test) said.entries.1 in omega arith;
}

-- what laws say of sessions that speak
pub record Known (S : Type 0) : Type 0 where
  pub own : (name : Name) (speak : Speaker S → Speaker S) (state : State S) (session : Session) → session_named name state.sessions ≡ Some session
      → name_of (speak (speaker_in state session)).session ≡ name
      → session_named name (speaks name speak state).sessions ≡ Some (speak (speaker_in state session)).session
  pub others : (name other : Name) (speak : Speaker S → Speaker S) (state : State S) (session : Session) → session_named name state.sessions ≡ Some session
      → name_of (speak (speaker_in state session)).session ≡ name → other ≢ name
      → session_named other (speaks name speak state).sessions ≡ session_named other state.sessions
  pub owes : (setting : Setting S) (speaker : Speaker S) (number seq : ℕ) (verdict : Verdict) (body : List ℕ) → SaidFor S speaker (owes setting number seq verdict body speaker)
  pub attaches : (setting : Setting S) (speaker : Speaker S) → SaidFor S speaker (attaches setting speaker)
  pub gives_up : (setting : Setting S) (speaker : Speaker S) (content : List ℕ) (job : Job) → SaidFor S speaker (gives_up setting content job speaker)
  pub finishes : (setting : Setting S) (speaker : Speaker S) (job : Job) (reply : List ℕ) → SaidFor S speaker (finishes setting job reply speaker)

abbrev pub with_history : Who → History → Who
with_history who history = record who { history = history }

module _ {S : Type 0} (known : Known S) where
  -- ---- one session speaks

  own-by : (who : Who) (history : History) (test : Test) (total more : ℕ) (rise : Rise) (speak : Speaker S → Speaker S) (state : State S) (found : Option Session)
      → session_named who.name state.sessions ≡ found → more ≡ rise test
      → ((session : Session) → IsWho who session → Spoke S history rise (speaker_in state session) (speak (speaker_in state session)))
      → Holds who test total found state.jobs state.entries
      → HoldsIn (with_history who history) test (total + more) (spoken_by found speak state)
  own-by who history test total more rise speak state None is more_is spoke holds =
      let P : Option Session → Type 0 = λ found. Holds (with_history who history) test (total + more) found state.jobs state.entries in
      let entries = holds.1 in
      subst P (sym is) (holds.0, omega arith)
  own-by who history test total more rise speak state (Some session) is more_is spoke holds =
      let before = speaker_in state session in
      let after = speak before in
      let spoke_so = spoke session holds.0 in
      let own_name : name_of session ≡ who.name = found-named who.name state.sessions session is in
      let found : session_named who.name (spoken_by (Some session) speak state).sessions ≡ Some after.session =
      ap (λ (found : Option Session). session_named who.name (spoken_by found speak state).sessions) (sym is)
      ∙ known.own who.name speak state session is (spoke_so.name ∙ own_name) in
      let P : Option Session → Type 0 = λ found. Holds (with_history who history) test (total + more) found after.jobs after.entries in
      let A : Name → Type 0 = λ name. jobs_at name test after.jobs + entries_at name test after.entries ≡ jobs_at name test state.jobs + entries_at name test state.entries + rise test in
      let account : A who.name = subst A own_name (spoke_so.account.own test) in
      let sum = holds.1 in
      subst P (sym found) ((spoke_so.first ∙ holds.0.0, spoke_so.unique ∙ holds.0.1, spoke_so.history), omega arith)

  other-by : (who : Who) (test : Test) (total : ℕ) (history : Session → History) (rise : Rise) (name : Name) (speak : Speaker S → Speaker S) (state : State S) (found : Option Session)
      → session_named name state.sessions ≡ found → who.name ≢ name
      → ((session : Session) → Spoke S (history session) rise (speaker_in state session) (speak (speaker_in state session)))
      → HoldsIn who test total state → HoldsIn who test total (spoken_by found speak state)
  other-by who test total history rise name speak state None is apart spoke holds = holds
  other-by who test total history rise name speak state (Some session) is apart spoke holds =
      let after = speak (speaker_in state session) in
      let spoke_so = spoke session in
      let its_name : name_of session ≡ name = found-named name state.sessions session is in
      let apart_so : who.name ≢ name_of session = λ same. apart (same ∙ its_name) in
      let found : session_named who.name (spoken_by (Some session) speak state).sessions ≡ session_named who.name state.sessions =
      ap (λ (found : Option Session). session_named who.name (spoken_by found speak state).sessions) (sym is)
      ∙ known.others name who.name speak state session is (spoke_so.name ∙ its_name) apart in
      holds-same who test total total (session_named who.name state.sessions) (session_named who.name (spoken_by (Some session) speak state).sessions)
      state.jobs after.jobs state.entries after.entries refl (sym found) (spoke_so.account.others who.name apart_so) (spoke_so.entries who.name apart_so test) holds

  -- the session of a name speaks: the account of a session of that name rises, and others stay
  pub speaks-hold : (who : Who) (test : Test) (total : ℕ) (rise : Rise) (name : Name) (speak : Speaker S → Speaker S) (state : State S)
      → ((speaker : Speaker S) → Spoke S speaker.session.history rise speaker (speak speaker))
      → HoldsIn who test total state → HoldsIn who test (total + cond (is_same who.name name) (rise test) 0) (speaks name speak state)
  speaks-hold who test total rise name speak state spoke holds =
      elim (cases_name who.name name) [
        | inl own ↦
            let P : Name → Type 0 = λ name. HoldsIn who test (total + cond (is_same who.name name) (rise test) 0) (speaks name speak state) in
            let more : cond (is_same who.name who.name) (rise test) 0 ≡ rise test = cond-true (is_same who.name who.name) (rise test) 0 (names-same who.name who.name refl) in
            let H : Session → History → Type 0 = λ session history. Spoke S history rise (speaker_in state session) (speak (speaker_in state session)) in
            subst P own
            (own-by who who.history test total (cond (is_same who.name who.name) (rise test) 0) rise speak state (session_named who.name state.sessions) refl more
            (λ session is. let Q : History → Type 0 = H session in subst Q is.2 (spoke (speaker_in state session))) holds)
        | inr apart ↦
            let more : cond (is_same who.name name) (rise test) 0 ≡ 0 = cond-false (is_same who.name name) (rise test) 0 (apart-names who.name name apart) in
            let N : ℕ → Type 0 = λ more. HoldsIn who test (total + more) (speaks name speak state) in
            let Z : ℕ → Type 0 = λ total. HoldsIn who test total (speaks name speak state) in
            let plus : total ≡ total + 0 = omega arith in
            subst N (sym more) (subst Z plus
            (other-by who test total (λ session. session.history) rise name speak state (session_named name state.sessions) refl apart (λ session. spoke (speaker_in state session)) holds))
      ]

  -- where no account rises, none changes
  pub speaks-same : (who : Who) (test : Test) (total : ℕ) (name : Name) (speak : Speaker S → Speaker S) (state : State S)
      → ((speaker : Speaker S) → Spoke S speaker.session.history none speaker (speak speaker))
      → HoldsIn who test total state → HoldsIn who test total (speaks name speak state)
  speaks-same who test total name speak state spoke holds =
      let Z : ℕ → Type 0 = λ total. HoldsIn who test total (speaks name speak state) in
      let plus : total + cond (is_same who.name name) 0 0 ≡ total =
      cond_both (is_same who.name name) 0 0 (λ (more : ℕ). total + more ≡ total) (λ is. omega arith) (λ is. omega arith) in
      subst Z plus (speaks-hold who test total none name speak state spoke holds)

  -- it is told of a further history
  pub opens-own : (who : Who) (history : History) (test : Test) (total : ℕ) (name : Name) (speak : Speaker S → Speaker S) (state : State S) → who.name ≡ name
      → ((speaker : Speaker S) → Spoke S history none speaker (speak speaker))
      → HoldsIn who test total state → HoldsIn (with_history who history) test total (speaks name speak state)
  opens-own who history test total name speak state own spoke holds =
      let P : Name → Type 0 = λ name. HoldsIn (with_history who history) test total (speaks name speak state) in
      let Z : ℕ → Type 0 = λ total. HoldsIn (with_history who history) test total (speaks who.name speak state) in
      let plus : total + 0 ≡ total = omega arith in
      subst P own (subst Z plus
      (own-by who history test total 0 none speak state (session_named who.name state.sessions) refl refl (λ session is. spoke (speaker_in state session)) holds))

  pub opens-other : (who : Who) (history : History) (test : Test) (total : ℕ) (name : Name) (speak : Speaker S → Speaker S) (state : State S) → who.name ≢ name
      → ((speaker : Speaker S) → Spoke S history none speaker (speak speaker))
      → HoldsIn who test total state → HoldsIn who test total (speaks name speak state)
  opens-other who history test total name speak state apart spoke holds =
      other-by who test total (λ session. history) none name speak state (session_named name state.sessions) refl apart (λ session. spoke (speaker_in state session)) holds

  -- ---- one session is lost

  holds-less : (who : Who) (test : Test) (total : ℕ) (found : Option Session) (jobs : Queue) (entries : List Entry) → Holds who test total found jobs entries
      → entries_at who.name test entries ≤ total
  holds-less who test total None jobs entries holds = holds.1
  holds-less who test total (Some session) jobs entries holds = let sum = holds.1 in omega arith

  pub lost-holds : (who : Who) (test : Test) (total : ℕ) (name : Name) (state : State S) → HoldsIn who test total state → HoldsIn who test total (lost name state)
  lost-holds who test total name state holds =
      elim (cases_name who.name name) [
        | inl own ↦
            let P : Name → Type 0 = λ name. HoldsIn who test total (lost name state) in
            let Q : Option Session → Type 0 = λ found. Holds who test total found (lost who.name state).jobs state.entries in
            subst P own (subst Q (sym (lost-name who.name state.sessions))
            (lost-own who.name any state.jobs, holds-less who test total (session_named who.name state.sessions) state.jobs state.entries holds))
        | inr apart ↦
            holds-same who test total total (session_named who.name state.sessions) (session_named who.name (lost name state).sessions) state.jobs (lost name state).jobs
            state.entries state.entries refl (sym (lost-other name who.name state.sessions apart)) (λ test. lost-others name who.name test state.jobs apart) refl holds
      ]

  -- ---- a job is taken out, and its session answers it

  -- what is left where a job was taken out
  abbrev IsRest : Name → Job → Queue → Queue → Type 0
  IsRest name job jobs rest = (test : Test) → jobs_at name test jobs ≡ jobs_at name test rest + one_if (job_passes name test job)

  taken-own : (who : Who) (test : Test) (total : ℕ) (found : Option Session) (job : Job) (jobs rest : Queue) (entries : List Entry) → IsRest who.name job jobs rest
      → is_by who.name job.key job.session ≡ true → Holds who test total found jobs entries
      → (less : ℕ) × (less + one_if (test job.number job.request) ≡ total) × Holds who test less found rest entries
  taken-own who test total None job jobs rest entries taken own holds =
      let all = taken any in
      let one : one_if (job_passes who.name any job) ≡ 1 = ap (λ (is : Bool). one_if (is && true)) own in
      let none_left = holds.0 in absurd (omega arith)
  taken-own who test total (Some session) job jobs rest entries taken own holds =
      let all = taken test in
      let one : one_if (job_passes who.name test job) ≡ one_if (test job.number job.request) = ap (λ (is : Bool). one_if (is && test job.number job.request)) own in
      let sum = holds.1 in
      (jobs_at who.name test rest + entries_at who.name test entries, omega arith, (holds.0, refl))

  taken-holds : (who : Who) (test : Test) (total : ℕ) (job : Job) (rest : Queue) (speak : Speaker S → Speaker S) (state : State S)
      → ((name : Name) → IsRest name job state.jobs rest)
      → ((speaker : Speaker S) → Spoke S speaker.session.history (asking job.number (Some job.request)) speaker (speak speaker))
      → HoldsIn who test total state → HoldsIn who test total (speaks (named job.key job.session) speak (record state { jobs = rest }))
  taken-holds who test total job rest speak state taken spoke holds =
      let name = named job.key job.session in
      let left : State S = record state { jobs = rest } in
      let rise = asking job.number (Some job.request) in
      let Z : ℕ → Type 0 = λ total. HoldsIn who test total (speaks name speak left) in
      elim (cases_name who.name name) [
        | inl own ↦
            let is : is_by who.name job.key job.session ≡ true = ap (λ (name : Name). is_by name job.key job.session) own ∙ by-own job.key job.session in
            let less = taken-own who test total (session_named who.name state.sessions) job state.jobs rest state.entries (taken who.name) is holds in
            let more : cond (is_same who.name name) (rise test) 0 ≡ rise test = cond-true (is_same who.name name) (rise test) 0 (names-same who.name name own) in
            let sum : less.0 + cond (is_same who.name name) (rise test) 0 ≡ total = ap (λ (more : ℕ). less.0 + more) more ∙ less.1 in
            subst Z sum (speaks-hold who test less.0 rise name speak left spoke less.2)
        | inr apart ↦
            let off : is_by who.name job.key job.session ≡ false = by-other who.name job.key job.session apart in
            let stays : (test : Test) → jobs_at who.name test rest ≡ jobs_at who.name test state.jobs = λ test.
            let all = taken who.name test in
            let none_out : one_if (job_passes who.name test job) ≡ 0 = ap (λ (is : Bool). one_if (is && test job.number job.request)) off in omega arith in
            let more : cond (is_same who.name name) (rise test) 0 ≡ 0 = cond-false (is_same who.name name) (rise test) 0 (apart-names who.name name apart) in
            let sum : total + cond (is_same who.name name) (rise test) 0 ≡ total = omega arith in
            subst Z sum
            (speaks-hold who test total rise name speak left spoke
            (holds-same who test total total (session_named who.name state.sessions) (session_named who.name state.sessions) state.jobs rest state.entries state.entries refl refl stays refl holds))
      ]

  -- ---- jobs that are given up

  spoke-gives_up : (setting : Setting S) (content : List ℕ) (job : Job) (speaker : Speaker S)
      → Spoke S speaker.session.history (asking job.number (Some job.request)) speaker (gives_up setting content job speaker)
  spoke-gives_up setting content job speaker =
      spoke-said (asking job.number (Some job.request)) speaker (gives_up setting content job speaker) (known.gives_up setting speaker content job)
      (gives_up-account setting content job speaker)

  given_up-by : (setting : Setting S) (content : List ℕ) (take : Unfinished → Bool) (who : Who) (test : Test) (total : ℕ) (state : State S) (job : Option Job)
      → first_job take state.jobs ≡ job → HoldsIn who test total state
      → HoldsIn who test total (given_up setting content job (record state { jobs = without_first take state.jobs }))
  given_up-by setting content take who test total state None is holds =
      holds-same who test total total (session_named who.name state.sessions) (session_named who.name state.sessions) state.jobs (without_first take state.jobs)
      state.entries state.entries refl refl
      (λ test.
      let all = first-at who.name test take state.jobs in
      let none_found : found_at who.name test (first_job take state.jobs) ≡ 0 = ap (found_at who.name test) is in omega arith)
      refl holds
  given_up-by setting content take who test total state (Some job) is holds =
      taken-holds who test total job (without_first take state.jobs) (gives_up setting content job) state
      (λ name test. first-at name test take state.jobs ∙ ap (λ (found : Option Job). jobs_at name test (without_first take state.jobs) + found_at name test found) is)
      (spoke-gives_up setting content job) holds

  all_given-holds : (setting : Setting S) (content : List ℕ) (take : Unfinished → Bool) (who : Who) (test : Test) (total n : ℕ) (state : State S)
      → HoldsIn who test total state
      → HoldsIn who test total (all_given_up setting content (λ queue. (first_job take queue, without_first take queue)) n state)
  all_given-holds setting content take who test total zero state holds = holds
  all_given-holds setting content take who test total (suc n) state holds =
      all_given-holds setting content take who test total n (first_given_up setting content (λ queue. (first_job take queue, without_first take queue)) state)
      (given_up-by setting content take who test total state (first_job take state.jobs) refl holds)

  pub failures-hold : (setting : Setting S) (who : Who) (test : Test) (total : ℕ) (state : State S) → HoldsIn who test total state → HoldsIn who test total (after_failures setting state)
  failures-hold setting who test total state holds = all_given-holds setting msg_wait_failed has_failed who test total (length state.jobs) state holds

  pub timeouts-hold : (setting : Setting S) (who : Who) (test : Test) (total : ℕ) (state : State S) → HoldsIn who test total state → HoldsIn who test total (after_timeouts setting state)
  timeouts-hold setting who test total state holds = all_given-holds setting msg_wait_timeout (is_overdue setting.now) who test total (length state.jobs) state holds

  -- a ready job runs
  pub run-holds : (setting : Setting S) (place : ℕ) (job : Job) (reply : List ℕ) (who : Who) (test : Test) (total : ℕ) (state : State S) → ready_job place state.jobs ≡ Some job
      → HoldsIn who test total state
      → HoldsIn who test total (speaks (named job.key job.session) (finishes setting job reply) (record state { jobs = without_ready place state.jobs }))
  run-holds setting place job reply who test total state is holds =
      taken-holds who test total job (without_ready place state.jobs) (finishes setting job reply) state
      (λ name test. ready-at name test place state.jobs ∙ ap (λ (found : Option Job). jobs_at name test (without_ready place state.jobs) + found_at name test found) is)
      (λ speaker.
      spoke-said (asking job.number (Some job.request)) speaker (finishes setting job reply speaker) (known.finishes setting speaker job reply)
      (finishes-account setting job reply speaker))
      holds
