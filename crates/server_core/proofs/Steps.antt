-- One step of answering the jobs of a session that have failed.
use Rattle.std.proofs.Common.{◌≡◌, ◌∙◌, ℕ, ◌+◌, ◌*◌, ◌≤◌, Bool, Option, Some, List, [], ◌∷◌, length, ap, sym, subst, arith, add-one}
use Rattle.std.proofs.lemmas.List.Elements.{All-head}
use Rattle.id_window.specs.History.{History}
use Rattle.waits.specs.declared.job.Job.{Job}
use Rattle.waits.specs.declared.job.Unfinished.{Unfinished}
use Rattle.waits.specs.Jobs.{Queue, first_job, has_failed, without_first}
use Rattle.server_rules.specs.Server.{Binding, Name, name_of}
use Rattle.server_rules.specs.Event.{Setting, Speaker}
use Rattle.server_rules.specs.Speaking.{msg_wait_failed}
use Rattle.server_rules.specs.Waiting.{gives_up}
use Rattle.law_server.specs.Order.{IsSpeaking, IsUnanswered}
use Rattle.server_session.specs.declared.session.SessionState.{SessionState}
use Rattle.server_dispatch.specs.declared.turn.Turn.{Turn}
use Rattle.server_dispatch.specs.Speaks.{Speaks, Spends}
use Rattle.server_core.specs.One.{AreOwnFailures, fails_all, fails_first, given_up_by}
use Rattle.server_core.specs.Failures.{HasFailures, SoFar, blocked_of}
use Rattle.server_core.proofs.Names.{named}
use Rattle.server_core.proofs.Failing.{first-own, given-name, given-own, rest-own}
use Rattle.server_core.proofs.Blocked.{given-blocked, given-length, taken-blocked, taken-length}

-- what the crates below promise of a job that is taken out and given up
abbrev pub TakesOut : (S : Type 0) → Type 0
TakesOut S = (test : Unfinished → Bool) (job : Job) (name : Name) (others : Name → Queue) (past : History) (opened : List ℕ) (speaker : Speaker S)
    → first_job test speaker.jobs ≡ Some job → job.key ≡ name.key → job.session ≡ name.session
    → IsSpeaking name others past opened speaker → IsSpeaking name others past (job.number ∷ opened) (record speaker { jobs = without_first test speaker.jobs })

abbrev pub GivesUp : (S : Type 0) → Type 0
GivesUp S = (setting : Setting S) (content : List ℕ) (job : Job) (name : Name) (others : Name → Queue) (past : History) (opened : List ℕ) (speaker : Speaker S)
    → IsSpeaking name others past (job.number ∷ opened) speaker → IsSpeaking name others past opened (gives_up setting content job speaker)

-- one job fewer is left to be answered
fewer : {S : Type 0} (setting : Setting S) (speaker : Speaker S) (m : ℕ) → length speaker.jobs ≡ m + 1
    → fails_all setting (length speaker.jobs) speaker ≡ fails_all setting m (fails_first setting speaker)
fewer setting speaker m long = ap (λ (n : ℕ). fails_all setting n speaker) (long ∙ add-one m)

pub record Taken (S : Type 0) (name : Name) (others : Name → Queue) (past : History) (job : Job) (speaker : Speaker S) : Type 0 where
  pub order : IsSpeaking name others past (job.number ∷ []) (record speaker { jobs = without_first has_failed speaker.jobs })
  pub unanswered : IsUnanswered speaker.session.replies job.number

pub taken : {S : Type 0} → TakesOut S → (name : Name) (others : Name → Queue) (past : History) (job : Job) (speaker : Speaker S) → HasFailures name others past speaker
    → first_job has_failed speaker.jobs ≡ Some job → Taken S name others past job speaker
taken takes name others past job speaker has found =
    let of_name : named job.key job.session ≡ name = first-own name speaker.jobs job has.own found in
    let order = takes has_failed job name others past [] speaker found (ap (λ (name : Name). name.key) of_name) (ap (λ (name : Name). name.session) of_name) has.order in
    record {
      order = order;
      unanswered = All-head (IsUnanswered speaker.session.replies) job.number [] order.midway.opened.unanswered;
    }

-- the first that has failed was given up
pub after-some : {S : Type 0} → TakesOut S → GivesUp S → (now : ℕ) (setting : Setting S) (bindings : List Binding) (draw : S) (name : Name) (others : Name → Queue) (past : History)
    (start : Speaker S) (steps : ℕ) (standing after : SessionState) (turn next : Turn) (jobs later : Queue) (job : Job) (before : SoFar now setting bindings draw name others past start steps standing turn jobs)
    → first_job has_failed before.speaker.jobs ≡ Some job
    → Speaks now after next later bindings draw (gives_up setting msg_wait_failed job (record before.speaker { jobs = without_first has_failed before.speaker.jobs }))
    → SoFar now setting bindings draw name others past start (steps + 1) after next later
after-some {S} takes gives now setting bindings draw name others past start steps standing after turn next jobs later job before found speaks =
    let speaker : Speaker S = before.speaker in
    let rest : Speaker S = record speaker { jobs = without_first has_failed speaker.jobs } in
    let done : Speaker S = given_up_by setting (Some job) rest in
    let out = taken {S = S} takes name others past job speaker before.has found in
    let own : AreOwnFailures name rest.jobs = rest-own name speaker.jobs before.has.own in
    let named_so : name_of rest.session ≡ name = before.has.named in
    let O : Name → Type 0 = λ name. AreOwnFailures name rest.jobs in
    let D : Name → Type 0 = λ name. AreOwnFailures name done.jobs in
    let B : Name → Type 0 = λ name. blocked_of name done.jobs ≤ blocked_of name rest.jobs in
    let fewer_blocked = subst B named_so (given-blocked setting job rest) in
    let one_out = taken-blocked name speaker.jobs job before.has.own found in
    let first : fails_first setting speaker ≡ done = ap (λ (found : Option Job). given_up_by setting found rest) found in
    let short : length done.jobs + 1 ≡ length speaker.jobs =
    ap (λ (n : ℕ). n + 1) (given-length setting job rest) ∙ taken-length speaker.jobs job found in
    record {
      speaker = done;
      speaks = speaks;
      has = record {
        named = given-name setting (Some job) rest ∙ named_so;
        order = gives setting msg_wait_failed job name others past [] rest out.order;
        own = subst D named_so (given-own setting (Some job) rest (subst O (sym named_so) own));
      };
      left = let fewer_left = before.left in omega arith;
      same = ap (fails_all setting (length done.jobs)) (sym first) ∙ (sym (fewer setting speaker (length done.jobs) (sym short)) ∙ before.same);
    }

-- ---- what the steps use up

pub spends-more : (now place : ℕ) (standing after last : SessionState) (turn next end : Turn) → Spends now place (place * 48) place standing turn after next
    → Spends now 1 48 1 after next last end → Spends now (place + 1) ((place + 1) * 48) (place + 1) standing turn last end
spends-more now place standing after last turn next end one two =
    record {
      places = omega (arith, one.places, two.places);
      bytes = omega (arith, one.bytes, two.bytes);
      numbers = omega (arith, one.numbers, two.numbers);
      entries = omega (arith, one.entries, two.entries);
      places_taken = two.places_taken ∙ one.places_taken;
      bytes_taken = two.bytes_taken ∙ one.bytes_taken;
      key = two.key ∙ one.key;
      number = two.number ∙ one.number;
      at = λ is. two.at (one.at is);
    }
