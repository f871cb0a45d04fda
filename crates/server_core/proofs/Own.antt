-- A session that says its own alone in an event, as its job is run.
use Rattle.std.proofs.Common.{◌≡◌, ◌∙◌, ℕ, zero, suc, ◌≤◌, true, Option, Some, None, List, [], ◌∷◌, length, sym, subst, arith}
use Rattle.std.specs.List.{All}
use Rattle.std.proofs.lemmas.List.Elements.{All-append}
use Rattle.id_window.specs.History.{History}
use Rattle.waits.specs.declared.job.Job.{Job}
use Rattle.waits.specs.Jobs.{Queue, first_job, has_failed, without_first}
use Rattle.server_rules.specs.Server.{Name, name_of}
use Rattle.server_rules.specs.Event.{Owed, Setting, Speaker}
use Rattle.server_rules.specs.Speaking.{answers, msg_wait_failed, records}
use Rattle.server_rules.specs.Waiting.{gives_up, outlook}
use Rattle.server_rules.specs.Answer.{finishes}
use Rattle.law_server.specs.Order.{IsSpeaking}
use Rattle.law_server.specs.Speech.{SaidFor}
use Rattle.server_core.specs.One.{AreOwnFailures, fails_all, fails_first, given_up_by}
use Rattle.server_core.specs.Failures.{HasFailures, blocked_of}
use Rattle.server_core.specs.Working.{IsRunning, ran}
use Rattle.server_core.proofs.Names.{name-by}
use Rattle.server_core.proofs.Failing.{outlook-own}
use Rattle.server_core.proofs.Running.{unfailed-own}
use Rattle.server_core.proofs.Blocked.{told-blocked}

-- what the crates below promise
abbrev pub GivesUpFor : (S : Type 0) → Type 0
GivesUpFor S = (setting : Setting S) (speaker : Speaker S) (content : List ℕ) (job : Job) → SaidFor S speaker (gives_up setting content job speaker)

abbrev pub FinishesFor : (S : Type 0) → Type 0
FinishesFor S = (setting : Setting S) (speaker : Speaker S) (job : Job) (reply : List ℕ) → SaidFor S speaker (finishes setting job reply speaker)

abbrev pub FinishesInOrder : (S : Type 0) → Type 0
FinishesInOrder S = (setting : Setting S) (job : Job) (reply : List ℕ) (name : Name) (others : Name → Queue) (past : History) (opened : List ℕ) (speaker : Speaker S)
    → IsSpeaking name others past (job.number ∷ opened) speaker → IsSpeaking name others past opened (finishes setting job reply speaker)

-- so far it owes only messages of its own, and has sent none
pub record IsOwn (S : Type 0) (name : Name) (speaker : Speaker S) : Type 0 where
  pub named : name_of speaker.session ≡ name
  pub owed : All (λ one. one.name ≡ name) speaker.owed
  pub sent : speaker.sent ≡ []

pub own-after : {S : Type 0} (name : Name) (before after : Speaker S) → IsOwn S name before → SaidFor S before after → IsOwn S name after
own-after {S} name before after own said =
    let N : Name → Type 0 = λ name. All (λ (one : Owed). one.name ≡ name) said.owed.0 in
    let O : List Owed → Type 0 = λ owed. All (λ (one : Owed). one.name ≡ name) owed in
    record {
      named = name-by (name_of after.session) (name_of before.session) said.key said.number ∙ own.named;
      owed = subst O (sym said.owed.1) (All-append (λ (one : Owed). one.name ≡ name) before.owed said.owed.0 own.owed (subst N own.named said.owed.2));
      sent = said.sent ∙ own.sent;
    }

own-given : {S : Type 0} → GivesUpFor S → (setting : Setting S) (name : Name) (found : Option Job) (speaker : Speaker S) → IsOwn S name speaker
    → IsOwn S name (given_up_by setting found speaker)
own-given gives setting name None speaker own = own
own-given gives setting name (Some job) speaker own =
    own-after name speaker (gives_up setting msg_wait_failed job speaker) own (gives setting speaker msg_wait_failed job)

own-fails : {S : Type 0} → GivesUpFor S → (setting : Setting S) (name : Name) (n : ℕ) (speaker : Speaker S) → IsOwn S name speaker
    → IsOwn S name (fails_all setting n speaker)
own-fails gives setting name zero speaker own = own
own-fails {S} gives setting name (suc n) speaker own =
    let left : Speaker S = record speaker { jobs = without_first has_failed speaker.jobs } in
    own-fails gives setting name n (fails_first setting speaker)
    (own-given gives setting name (first_job has_failed speaker.jobs) left (record { named = own.named; owed = own.owed; sent = own.sent }))

pub own-ran : {S : Type 0} → GivesUpFor S → FinishesFor S → (setting : Setting S) (name : Name) (job : Job) (reply : List ℕ) (speaker : Speaker S) → IsOwn S name speaker
    → IsOwn S name (ran setting job reply speaker)
own-ran {S} gives ends setting name job reply speaker own =
    let done : Speaker S = finishes setting job reply speaker in
    own-fails gives setting name (length done.jobs) done (own-after name speaker done own (ends setting speaker job reply))

-- what holds once the job has run

pub running-fails : {S : Type 0} → FinishesInOrder S → FinishesFor S → (setting : Setting S) (job : Job) (reply : List ℕ) (name : Name) (others : Name → Queue) (past : History)
    (limit : ℕ) (speaker : Speaker S) → IsRunning name others past job limit speaker → HasFailures name others past (finishes setting job reply speaker)
running-fails {S} orders ends setting job reply name others past limit speaker is =
    let done : Speaker S = finishes setting job reply speaker in
    let answered : Speaker S = records true job.number job.request reply (answers setting job.number reply speaker) in
    let said : SaidFor S speaker done = ends setting speaker job reply in
    let named : name_of done.session ≡ name = name-by (name_of done.session) (name_of speaker.session) said.key said.number ∙ is.named in
    let P : Name → Type 0 = λ name. AreOwnFailures name done.jobs in
    record {
      named = named;
      order = orders setting job reply name others past [] speaker is.order;
      own = subst P named (outlook-own answered.session (outlook answered.session answered.jobs job.number) job.number answered.jobs
          (unfailed-own (name_of answered.session) answered.jobs is.unfailed));
    }

pub running-few : {S : Type 0} → FinishesFor S → (setting : Setting S) (job : Job) (reply : List ℕ) (name : Name) (others : Name → Queue) (past : History)
    (limit : ℕ) (speaker : Speaker S) → IsRunning name others past job limit speaker → blocked_of name (finishes setting job reply speaker).jobs ≤ limit
running-few {S} ends setting job reply name others past limit speaker is =
    let done : Speaker S = finishes setting job reply speaker in
    let answered : Speaker S = records true job.number job.request reply (answers setting job.number reply speaker) in
    let said : SaidFor S speaker done = ends setting speaker job reply in
    let named : name_of done.session ≡ name = name-by (name_of done.session) (name_of speaker.session) said.key said.number ∙ is.named in
    let P : Name → Type 0 = λ name. blocked_of name done.jobs ≤ blocked_of name speaker.jobs in
    let fewer = subst P named (told-blocked answered.session (outlook answered.session answered.jobs job.number) job.number answered.jobs) in
    omega (arith, is.few)
