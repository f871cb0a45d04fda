-- A run is an event of the session alone whose job has run.
use Rattle.std.proofs.Common.{◌≡◌, ◌∙◌, ℕ, zero, suc, true, false, cond, Option, Some, List, [], ◌∷◌, length, ap, sym, subst, inl, inr}
use Rattle.std.specs.List.{All}
use Rattle.std.proofs.lemmas.Bool.{cases_Bool, false≢true}
use Rattle.std.proofs.lemmas.List.Elements.{All-cons, All-head, All-tail, All-weaker}
use Rattle.waits.specs.declared.job.Job.{Job}
use Rattle.waits.specs.declared.job.Unfinished.{Unfinished}
use Rattle.waits.specs.Jobs.{Queue, is_of, is_ready, without_ready}
use Rattle.server_rules.specs.Server.{Name, Session, name_of, session_named}
use Rattle.server_rules.specs.Event.{Setting, Speaker, State, speaker_in, speaks, spoken, spoken_by}
use Rattle.server_rules.specs.Speaking.{answers, records}
use Rattle.server_rules.specs.Waiting.{after_failures, outlook}
use Rattle.server_rules.specs.Answer.{finishes, runs}
use Rattle.server_core.specs.One.{AreOwnFailures, finishes_all}
use Rattle.server_core.proofs.Names.{found-named, named}
use Rattle.server_core.proofs.Failing.{all-by_one, outlook-own}

abbrev pub IsUnfailed : Unfinished → Type 0
IsUnfailed one = one.failed ≡ false

pub ready-left : (P : Unfinished → Type 0) (place : ℕ) (jobs : Queue) → All P jobs → All P (without_ready place jobs)
ready-left P zero [] all = all
ready-left P (suc place) [] all = all
ready-left P zero (one ∷ jobs) all =
    let rest = All-tail P one jobs all in
    elim (cases_Bool (is_ready one)) [
      | inl ready ↦ rw ready rest
      | inr not_so ↦ rw not_so (All-cons P one (without_ready zero jobs) (All-head P one jobs all) (ready-left P zero jobs rest))
    ]
ready-left P (suc place) (one ∷ jobs) all =
    let next = cond (is_ready one) place (suc place) in
    All-cons P one (without_ready next jobs) (All-head P one jobs all) (ready-left P next jobs (All-tail P one jobs all))

pub unfailed-own : (name : Name) (jobs : Queue) → All IsUnfailed jobs → AreOwnFailures name jobs
unfailed-own name jobs all =
    All-weaker IsUnfailed (λ one. one.failed ≡ true → is_of name.key name.session one ≡ true) (λ one not_so failed. absurd (false≢true (sym not_so ∙ failed))) jobs all

pub run-by_one : {S : Type 0} (setting : Setting S) (place : ℕ) (job : Job) (reply : List ℕ) (state : State S) (session : Session)
    → session_named (named job.key job.session) state.sessions ≡ Some session → All IsUnfailed state.jobs
    → runs setting place job reply state ≡ spoken state (finishes_all setting place job reply (speaker_in state session))
run-by_one {S} setting place job reply state session found unfailed =
    let name = named job.key job.session in
    let rest : State S = record state { jobs = without_ready place state.jobs } in
    let before : Speaker S = speaker_in rest session in
    let answered : Speaker S = records true job.number job.request reply (answers setting job.number reply before) in
    let done : Speaker S = finishes setting job reply before in
    let F : Name → Type 0 = λ name. session_named name state.sessions ≡ Some session in
    let begins : speaks name (finishes setting job reply) rest ≡ spoken rest done =
    ap (λ (found : Option Session). spoken_by found (finishes setting job reply) rest) found in
    let own : AreOwnFailures (name_of done.session) done.jobs =
    outlook-own answered.session (outlook answered.session answered.jobs job.number) job.number answered.jobs
    (unfailed-own (name_of answered.session) answered.jobs (ready-left IsUnfailed place state.jobs unfailed)) in
    ap (after_failures setting) begins
    ∙ all-by_one setting rest (length done.jobs) done session (subst F (sym (found-named name state.sessions session found)) found) own
