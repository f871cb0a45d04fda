-- The first entry of a run is that run.
use Rattle.std.proofs.Common.{◌≡◌, ◌∙◌, ℕ, zero, suc, true, Option, Some, None, List, [], ◌∷◌, ◌++◌, length, ap, sym, subst, refl, inl, inr, false}
use Rattle.std.specs.Prelude.{fold, ◌⊎◌}
use Rattle.std.specs.List.{filter}
use Rattle.std.proofs.lemmas.List.{append_assoc, append-nil}
use Rattle.waits.specs.declared.job.Job.{Job}
use Rattle.waits.specs.Jobs.{first_job, has_failed, ready_job, without_first}
use Rattle.regs_service.specs.Served.{Step}
use Rattle.server_rules.specs.Server.{Name, Server as Rules, Session, name_of, session_named}
use Rattle.server_rules.specs.Event.{Entry, Owed, Setting, Speaker, State, lost, speaker_in, speaks, spoken_by}
use Rattle.server_rules.specs.Sending.{all_sent, messages_by, names_in, sends}
use Rattle.server_rules.specs.Speaking.{msg_wait_failed}
use Rattle.server_rules.specs.Answer.{after_run, after_work, begun, ended, finishes, is_spent, runs}
use Rattle.law_server.specs.Order.{AreOrdered}
use Rattle.server_core.specs.One.{fails_all, fails_first, given_up_by}
use Rattle.server_core.specs.Working.{ran, run_entry}
use Rattle.server_core.proofs.Attached.{sends-rest}
use Rattle.server_core.proofs.Names.{found-named, named}
use Rattle.server_core.proofs.Running.{run-by_one}
use Rattle.server_core.proofs.Worked.{ready-stands, without_its}

-- ---- what the end of an event leaves alone

spoken-entries : {S : Type 0} (setting : Setting S) (name : Name) (owed : List Owed) (state : State S) (found : Option Session)
    → (spoken_by found (sends setting (messages_by name owed)) state).entries ≡ state.entries
spoken-entries setting name owed state None = refl
spoken-entries setting name owed state (Some session) = (sends-rest setting (messages_by name owed) (speaker_in state session)).entries

sent-entries : {S : Type 0} (setting : Setting S) (owed : List Owed) (names : List Name) (state : State S)
    → (fold (λ (so_far : State S) (name : Name). speaks name (sends setting (messages_by name owed)) so_far) state names).entries ≡ state.entries
sent-entries setting owed [] state = refl
sent-entries {S} setting owed (name ∷ names) state =
    let next : State S = speaks name (sends setting (messages_by name owed)) state in
    sent-entries setting owed names next ∙ spoken-entries setting name owed state (session_named name state.sessions)

lost-entries : {S : Type 0} (sessions : List Session) (state : State S) → (fold (λ so_far session. lost (name_of session) so_far) state sessions).entries ≡ state.entries
lost-entries [] state = refl
lost-entries (session ∷ sessions) state = lost-entries sessions (lost (name_of session) state)

ended-entries : {S : Type 0} (setting : Setting S) (state : State S) → (ended setting state).entries ≡ state.entries
ended-entries {S} setting state =
    let sent : State S = all_sent setting state in
    lost-entries (filter is_spent sent.sessions) sent ∙ sent-entries setting state.owed (names_in state.owed) state

-- ---- what a run enters

found-by : {X : Type 0} (found : Option X) → (found ≡ None) ⊎ ((x : X) × (found ≡ Some x))
found-by None = inl refl
found-by (Some x) = inr (x, refl)

found-or : (name : Name) (sessions : List Session) → (session_named name sessions ≡ None) ⊎ ((session : Session) × (session_named name sessions ≡ Some session))
found-or name sessions = found-by (session_named name sessions)

given-entries : {S : Type 0} (setting : Setting S) (found : Option Job) (speaker : Speaker S)
    → (later : List Entry) × ((given_up_by setting found speaker).entries ≡ speaker.entries ++ later)
given-entries setting None speaker = ([], sym (append-nil speaker.entries))
given-entries setting (Some job) speaker = (
  record {
    key = speaker.session.key;
    session = speaker.session.number;
    number = job.number;
    request = job.request;
    reply = msg_wait_failed;
    ran = false;
  } ∷ [],
  refl,
)

fails-entries : {S : Type 0} (setting : Setting S) (n : ℕ) (speaker : Speaker S) → (later : List Entry) × ((fails_all setting n speaker).entries ≡ speaker.entries ++ later)
fails-entries setting zero speaker = ([], sym (append-nil speaker.entries))
fails-entries {S} setting (suc n) speaker =
    let left : Speaker S = record speaker { jobs = without_first has_failed speaker.jobs } in
    let one = given-entries setting (first_job has_failed speaker.jobs) left in
    let rest = fails-entries setting n (fails_first setting speaker) in
    (one.0 ++ rest.0, rest.1 ∙ (ap (λ (entries : List Entry). entries ++ rest.0) one.1 ∙ append_assoc speaker.entries one.0 rest.0))

pub work-first : {S V : Type 0} (setting : Setting S) (place : ℕ) (serve : Step V) (service : V) (server : Rules) (draw : S) (job : Job)
    → AreOrdered server.sessions server.jobs → ready_job place server.jobs ≡ Some job
    → (later : List Entry) × ((after_work setting place serve service server draw).0.entries ≡ run_entry job (serve service job.request).0 ∷ later)
work-first {S} {V} setting place serve service server draw job order ready =
    let state : State S = begun server draw in
    let reply : List ℕ = (serve service job.request).0 in
    let name : Name = named job.key job.session in
    elim (found-or name server.sessions) [
      | inl none ↦ absurd (ready-stands server place job order ready none)
      | inr there ↦
          let session : Session = there.0 in
          let found : session_named name server.sessions ≡ Some session = there.1 in
          let is : name_of session ≡ name = found-named name server.sessions session found in
          let done : Speaker S = finishes setting job reply (without_its place (speaker_in state session)) in
          let said : Speaker S = ran setting job reply (without_its place (speaker_in state session)) in
          let later = fails-entries setting (length done.jobs) done in
          let E : Name → Type 0 = λ name. said.entries ≡ record { key = name.key; session = name.session; number = job.number; request = job.request; reply = reply; ran = true } ∷ later.0 in (
            later.0,
            ap (λ (found : Option Job). (after_run setting place found serve service server draw).0.entries) ready
                ∙ (ended-entries setting (runs setting place job reply state)
                ∙ (ap (λ (state : State S). state.entries) (run-by_one setting place job reply state session found order.unfailed)
                ∙ subst E is later.1)),
          )
    ]
