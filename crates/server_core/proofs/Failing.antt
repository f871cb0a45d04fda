-- Where the jobs that have failed are all of the session that speaks, that session answers them.
use Rattle.std.proofs.Common.{◌≡◌, ◌∙◌, ℕ, zero, suc, Bool, true, false, Option, Some, None, List, [], ◌∷◌, ap, sym, subst, refl, inl, inr}
use Rattle.std.proofs.lemmas.Bool.{cases_Bool, cond-true, cond-false, and_parts, eqb-true}
use Rattle.std.proofs.lemmas.List.Elements.{All-cons, All-head, All-tail, All-map, All-weaker}
use Rattle.waits.specs.declared.job.Job.{Job}
use Rattle.waits.specs.declared.job.Unfinished.{Unfinished}
use Rattle.waits.specs.Jobs.{Queue, after_answer, first_job, has_failed, is_of, settled, told, waits_for, without_first}
use Rattle.server_rules.specs.Server.{Name, Session, name_of, session_named}
use Rattle.server_rules.specs.Event.{Setting, Speaker, State, speaks, spoken, spoken_by}
use Rattle.server_rules.specs.Speaking.{answers_in_place, msg_wait_failed}
use Rattle.server_rules.specs.Waiting.{Outlook, Over, InVain, GoesOn, all_given_up, first_failed, first_given_up, given_up, gives_up, outlook, told as told_of}
use Rattle.server_core.specs.One.{AreOwnFailures, fails_all, given_up_by}
use Rattle.server_core.proofs.Names.{name-by, named, none-some, some-same, with-own, with-twice}

abbrev IsOwn : Name → Unfinished → Type 0
IsOwn name one = one.failed ≡ true → is_of name.key name.session one ≡ true

-- ---- the jobs that are left are its own too

pub first-own : (name : Name) (jobs : Queue) (job : Job) → AreOwnFailures name jobs → first_job has_failed jobs ≡ Some job → named job.key job.session ≡ name
first-own name [] job own is = absurd (none-some job is)
first-own name (one ∷ jobs) job own is =
    elim (cases_Bool one.failed) [
      | inl failed ↦
          let same : one.job ≡ job = some-same one.job job (sym (cond-true one.failed (Some one.job) (first_job has_failed jobs) failed) ∙ is) in
          let parts = and_parts _ _ (All-head (IsOwn name) one jobs own failed) in
          name-by (named job.key job.session) name
          (ap (λ (job : Job). job.key) (sym same) ∙ eqb-true one.job.key name.key parts.0)
          (ap (λ (job : Job). job.session) (sym same) ∙ eqb-true one.job.session name.session parts.1)
      | inr not_so ↦
          first-own name jobs job (All-tail (IsOwn name) one jobs own) (sym (cond-false one.failed (Some one.job) (first_job has_failed jobs) not_so) ∙ is)
    ]

pub rest-own : (name : Name) (jobs : Queue) → AreOwnFailures name jobs → AreOwnFailures name (without_first has_failed jobs)
rest-own name [] own = own
rest-own name (one ∷ jobs) own =
    let P : Queue → Type 0 = λ jobs. AreOwnFailures name jobs in
    let left = without_first has_failed jobs in
    let rest = All-tail (IsOwn name) one jobs own in
    elim (cases_Bool one.failed) [
      | inl failed ↦ subst P (sym (cond-true one.failed jobs (one ∷ left) failed)) rest
      | inr not_so ↦
          subst P (sym (cond-false one.failed jobs (one ∷ left) not_so)) (All-cons (IsOwn name) one left (All-head (IsOwn name) one jobs own) (rest-own name jobs rest))
    ]

told-own : (name : Name) (number : ℕ) (ok : Bool) (one : Unfinished) → is_of name.key name.session one ≡ true
    → is_of name.key name.session (told number ok one) ≡ true
told-own name number true one is = is
told-own name number false one is = is

answered-own : (name : Name) (number : ℕ) (ok : Bool) (one : Unfinished) → IsOwn name one → IsOwn name (after_answer name.key name.session number ok one)
answered-own name number ok one own =
    elim (cases_Bool (waits_for name.key name.session number one)) [
      | inl waits ↦
          let is = (and_parts _ _ waits).0 in
          subst (IsOwn name) (sym (cond-true (waits_for name.key name.session number one) (told number ok one) one waits)) (λ failed. told-own name number ok one is)
      | inr not_so ↦
          subst (IsOwn name) (sym (cond-false (waits_for name.key name.session number one) (told number ok one) one not_so)) own
    ]

settled-own : (name : Name) (number : ℕ) (ok : Bool) (jobs : Queue) → AreOwnFailures name jobs → AreOwnFailures name (settled name.key name.session number ok jobs)
settled-own name number ok jobs own =
    All-map (IsOwn name) (after_answer name.key name.session number ok) jobs
    (All-weaker (IsOwn name) (λ one. IsOwn name (after_answer name.key name.session number ok one)) (answered-own name number ok) jobs own)

pub outlook-own : (session : Session) (outlook : Outlook) (number : ℕ) (jobs : Queue) → AreOwnFailures (name_of session) jobs
    → AreOwnFailures (name_of session) (told_of outlook session number jobs)
outlook-own session Over number jobs own = settled-own (name_of session) number true jobs own
outlook-own session InVain number jobs own = settled-own (name_of session) number false jobs own
outlook-own session GoesOn number jobs own = own

pub given-own : {S : Type 0} (setting : Setting S) (found : Option Job) (speaker : Speaker S) → AreOwnFailures (name_of speaker.session) speaker.jobs
    → AreOwnFailures (name_of speaker.session) (given_up_by setting found speaker).jobs
given-own setting None speaker own = own
given-own {S} setting (Some job) speaker own =
    let answered : Speaker S = answers_in_place setting job.number job.request msg_wait_failed speaker in
    outlook-own answered.session (outlook answered.session answered.jobs job.number) job.number answered.jobs own

pub given-name : {S : Type 0} (setting : Setting S) (found : Option Job) (speaker : Speaker S) → name_of (given_up_by setting found speaker).session ≡ name_of speaker.session
given-name setting None speaker = refl
given-name setting (Some job) speaker = refl

-- ---- one by one

speaks-again : {S : Type 0} (speak : Speaker S → Speaker S) (state : State S) (speaker : Speaker S) (before : Session)
    → session_named (name_of speaker.session) state.sessions ≡ Some before → name_of (speak speaker).session ≡ name_of speaker.session
    → speaks (name_of speaker.session) speak (spoken state speaker) ≡ spoken state (speak speaker)
speaks-again {S} speak state speaker before found same =
    let said : State S = spoken state speaker in
    ap (λ (found : Option Session). spoken_by found speak said) (with-own speaker.session state.sessions before found)
    ∙ ap (λ (sessions : List Session). record (spoken state (speak speaker)) { sessions = sessions })
    (with-twice speaker.session (speak speaker).session state.sessions (sym same))

given-by : {S : Type 0} (setting : Setting S) (state : State S) (found : Option Job) (speaker : Speaker S) (before : Session)
    → session_named (name_of speaker.session) state.sessions ≡ Some before
    → ((job : Job) → found ≡ Some job → named job.key job.session ≡ name_of speaker.session)
    → given_up setting msg_wait_failed found (spoken state speaker) ≡ spoken state (given_up_by setting found speaker)
given-by setting state None speaker before is own = refl
given-by {S} setting state (Some job) speaker before is own =
    let speak : Speaker S → Speaker S = gives_up setting msg_wait_failed job in
    ap (λ (name : Name). speaks name speak (spoken state speaker)) (own job refl)
    ∙ speaks-again speak state speaker before is (given-name setting (Some job) speaker)

pub all-by_one : {S : Type 0} (setting : Setting S) (state : State S) (n : ℕ) (speaker : Speaker S) (before : Session)
    → session_named (name_of speaker.session) state.sessions ≡ Some before → AreOwnFailures (name_of speaker.session) speaker.jobs
    → all_given_up setting msg_wait_failed first_failed n (spoken state speaker) ≡ spoken state (fails_all setting n speaker)
all-by_one setting state zero speaker before is own = refl
all-by_one {S} setting state (suc n) speaker before is own =
    let found = first_job has_failed speaker.jobs in
    let left : Speaker S = record speaker { jobs = without_first has_failed speaker.jobs } in
    let next : Speaker S = given_up_by setting found left in
    let same : name_of next.session ≡ name_of speaker.session = given-name setting found left in
    let F : Name → Type 0 = λ name. session_named name state.sessions ≡ Some before in
    let O : Name → Type 0 = λ name. AreOwnFailures name next.jobs in
    let first : first_given_up setting msg_wait_failed first_failed (spoken state speaker) ≡ spoken state next =
    given-by setting state found left before is (λ job some. first-own (name_of speaker.session) speaker.jobs job own some) in
    ap (all_given_up setting msg_wait_failed first_failed n) first
    ∙ all-by_one setting state n next before (subst F (sym same) is)
    (subst O (sym same) (given-own setting found left (rest-own (name_of speaker.session) speaker.jobs own)))
