-- Steps of a session that leave the jobs, the bindings and the entries.
use Rattle.std.proofs.Common.{◌≡◌, ◌∙◌, ℕ, Bool, Option, Some, None, List, [], ◌∷◌, ◌++◌, ap, fold, refl, subst, sym, inl, inr}
use Rattle.std.specs.Prelude.{◌==◌, is_some}
use Rattle.std.specs.List.{list_all}
use Rattle.std.proofs.lemmas.Bool.{cases_Bool}
use Rattle.waits.specs.Jobs.{Queue}
use Rattle.server_rules.specs.Server.{Binding, Reply}
use Rattle.server_rules.specs.Event.{Entry, Setting, Speaker}
use Rattle.server_rules.specs.Speaking.{has_said, records}
use Rattle.server_rules.specs.Calls.{with_binding}
use Rattle.server_rules.specs.Waiting.{tells_of}
use Rattle.server_rules.specs.Rows.{acknowledges, kept_numbered, notices, says_reply, sends_again}
use Rattle.server_output.specs.Dues.{Dues}
use Rattle.server_session.specs.declared.session.SessionState.{SessionState}
use Rattle.server_session.specs.Says.{Says}
use Rattle.server_dispatch.specs.declared.turn.Turn.{Turn}
use Rattle.server_dispatch.specs.Entries.{Held}
use Rattle.server_dispatch.specs.Speaks.{Speaks}

pub record LeavesRest {S : Type 0} (before after : Speaker S) : Type 0 where
  pub jobs : after.jobs ≡ before.jobs
  pub bindings : after.bindings ≡ before.bindings
  pub entries : after.entries ≡ before.entries

-- a session that says so speaks so
pub spoken : {S : Type 0} (now : ℕ) (standing after : SessionState) (turn : Turn) (dues : Dues) (queue : Queue) (bound : List Binding) (draw later : S) (speaker next : Speaker S)
    → Speaks now standing turn queue bound draw speaker
    → (Says now standing turn.owing draw speaker → Says now after dues later next)
    → LeavesRest speaker next
    → Speaks now after (record turn { owing = dues }) queue bound later next
spoken now standing after turn dues queue bound draw later speaker next speaks says rest =
    record {
      says = says speaks.says;
      jobs = speaks.jobs ∙ sym rest.jobs;
      bindings = speaks.bindings ∙ sym rest.bindings;
      entries = speaks.entries ∙ sym rest.entries;
    }

pub same : {S : Type 0} (speaker : Speaker S) → LeavesRest speaker speaker
same speaker = record { jobs = refl; bindings = refl; entries = refl }

pub notices-rest : {S : Type 0} (setting : Setting S) (number seq code : ℕ) (speaker : Speaker S) → LeavesRest speaker (notices setting number seq code speaker)
notices-rest setting number seq code speaker =
    elim (cases_Bool (code == 48)) [
      | inl salt ↦ rw salt (record { jobs = refl; bindings = refl; entries = refl })
      | inr other ↦ rw other (record { jobs = refl; bindings = refl; entries = refl })
    ]

pub acknowledges-rest : {S : Type 0} (setting : Setting S) (numbers : List ℕ) (speaker : Speaker S) → LeavesRest speaker (acknowledges setting numbers speaker)
acknowledges-rest setting [] speaker = record { jobs = refl; bindings = refl; entries = refl }
acknowledges-rest setting (number ∷ numbers) speaker = record { jobs = refl; bindings = refl; entries = refl }

-- an answer is recorded
pub recorded : {S : Type 0} (now : ℕ) (standing : SessionState) (turn : Turn) (entries : Held) (queue : Queue) (bound : List Binding) (draw : S) (speaker : Speaker S)
    (ran : Bool) (call : ℕ) (request content : List ℕ) (key number : ℕ) (reply : List ℕ)
    → Speaks now standing turn queue bound draw speaker
    → key ≡ speaker.session.key → number ≡ speaker.session.number → reply ≡ content
    → entries.entries ≡ turn.entries.entries ++ record { key = key; session = number; number = call; request = request; reply = reply; ran = ran } ∷ []
    → Speaks now standing (record turn { entries = entries }) queue bound draw (records ran call request content speaker)
recorded now standing turn entries queue bound draw speaker ran call request content key number reply speaks own named said is =
    let one : ℕ → ℕ → List ℕ → Entry = λ k n r. record { key = k; session = n; number = call; request = request; reply = r; ran = ran } in
    record {
      says = record { stands = speaks.says.stands; owed = speaks.says.owed; draws = speaks.says.draws };
      jobs = speaks.jobs;
      bindings = speaks.bindings;
      entries = is ∙ (ap (λ (es : List Entry). es ++ one key number reply ∷ []) speaks.entries
          ∙ (ap (λ (k : ℕ). speaker.entries ++ one k number reply ∷ []) own
          ∙ (ap (λ (n : ℕ). speaker.entries ++ one speaker.session.key n reply ∷ []) named
          ∙ ap (λ (r : List ℕ). speaker.entries ++ one speaker.session.key speaker.session.number r ∷ []) said)));
    }

-- a binding is put
pub put-bound : {S : Type 0} (now : ℕ) (standing : SessionState) (turn : Turn) (queue : Queue) (bound after : List Binding) (draw : S) (speaker : Speaker S) (binding : Binding)
    → Speaks now standing turn queue bound draw speaker
    → after ≡ with_binding binding bound
    → Speaks now standing turn queue after draw (record speaker { bindings = with_binding binding speaker.bindings })
put-bound now standing turn queue bound after draw speaker binding speaks is =
    record {
      says = record { stands = speaks.says.stands; owed = speaks.says.owed; draws = speaks.says.draws };
      jobs = speaks.jobs;
      bindings = is ∙ ap (with_binding binding) speaks.bindings;
      entries = speaks.entries;
    }

-- the jobs that wait for a number are told
pub told-of : {S : Type 0} (now : ℕ) (standing : SessionState) (turn : Turn) (queue after : Queue) (bound : List Binding) (draw : S) (speaker : Speaker S) (number : ℕ)
    → Speaks now standing turn queue bound draw speaker
    → after ≡ (tells_of number speaker).jobs
    → Speaks now standing turn after bound draw (tells_of number speaker)
told-of now standing turn queue after bound draw speaker number speaks is =
    record {
      says = record { stands = speaks.says.stands; owed = speaks.says.owed; draws = speaks.says.draws };
      jobs = is;
      bindings = speaks.bindings;
      entries = speaks.entries;
    }

-- the same by another name
pub spoken-as : {S : Type 0} (now : ℕ) (standing : SessionState) (turn : Turn) (queue : Queue) (bound : List Binding) (draw : S) (other next : Speaker S)
    → other ≡ next → Speaks now standing turn queue bound draw next → Speaks now standing turn queue bound draw other
spoken-as now standing turn queue bound draw other next is speaks = subst (λ speaker. Speaks now standing turn queue bound draw speaker) (sym is) speaks

-- the jobs are others
pub with-jobs : {S : Type 0} (now : ℕ) (standing : SessionState) (turn : Turn) (queue after told : Queue) (bound : List Binding) (draw : S) (speaker : Speaker S)
    → Speaks now standing turn queue bound draw speaker → after ≡ told → Speaks now standing turn after bound draw (record speaker { jobs = told })
with-jobs now standing turn queue after told bound draw speaker speaks is =
    record {
      says = record { stands = speaks.says.stands; owed = speaks.says.owed; draws = speaks.says.draws };
      jobs = is;
      bindings = speaks.bindings;
      entries = speaks.entries;
    }

pub again-rest : {S : Type 0} (reply : Option Reply) (speaker : Speaker S) → LeavesRest speaker (says_reply reply speaker)
again-rest None speaker = record { jobs = refl; bindings = refl; entries = refl }
again-rest (Some reply) speaker =
    elim (cases_Bool (has_said reply.number speaker)) [
      | inl said ↦ rw said (record { jobs = refl; bindings = refl; entries = refl })
      | inr unsaid ↦ rw unsaid (record { jobs = refl; bindings = refl; entries = refl })
    ]

both-rest : {S : Type 0} (first next last : Speaker S) → LeavesRest first next → LeavesRest next last → LeavesRest first last
both-rest first next last one other =
    record { jobs = other.jobs ∙ one.jobs; bindings = other.bindings ∙ one.bindings; entries = other.entries ∙ one.entries }

-- the replies of numbers, one after the other
abbrev said_numbered : {S : Type 0} → Speaker S → List ℕ → Speaker S
said_numbered speaker numbers = fold (λ so_far number. says_reply (kept_numbered so_far.session.replies number) so_far) speaker numbers

numbered-rest : {S : Type 0} (numbers : List ℕ) (speaker : Speaker S) → LeavesRest speaker (said_numbered speaker numbers)
numbered-rest [] speaker = same speaker
numbered-rest (number ∷ numbers) speaker =
    let next = says_reply (kept_numbered speaker.session.replies number) speaker in
    both-rest speaker next (said_numbered next numbers) (again-rest (kept_numbered speaker.session.replies number) speaker) (numbered-rest numbers next)

pub resends-rest : {S : Type 0} (setting : Setting S) (number : ℕ) (numbers : List ℕ) (speaker : Speaker S) → LeavesRest speaker (sends_again setting number numbers speaker)
resends-rest setting number numbers speaker =
    elim (cases_Bool (list_all (λ other. is_some (kept_numbered speaker.session.replies other)) numbers)) [
      | inl all ↦ rw all (numbered-rest numbers speaker)
      | inr some ↦ rw some (record { jobs = refl; bindings = refl; entries = refl })
    ]
