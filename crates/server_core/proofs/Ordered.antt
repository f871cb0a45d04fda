-- A session that settles a judgement stays in order.
use Rattle.std.proofs.Common.{◌≡◌, ◌≢◌, ◌∙◌, ℕ, zero, suc, ◌+◌, ◌<◌, Bool, true, false, cond, Option, Some, None, List, [], ◌∷◌, length, ap, sym, subst, refl, inl, inr, not}
use Rattle.std.specs.Prelude.{is_some, nat_lt}
use Rattle.std.specs.List.{All, filter}
use Rattle.std.proofs.lemmas.Bool.{cases_Bool, cond_both, cond-true, cond-false, and_parts, eqb-true}
use Rattle.std.proofs.lemmas.List.Elements.{All-nil}
use Rattle.service_tl.specs.declared.item.Item.{Item}
use Rattle.service_tl.specs.declared.item.Item.TheVariants.{DestroySession, DestroySessionOk, DestroySessionNone}
use Rattle.id_window.specs.History.{FirstJudgement, History}
use Rattle.id_window.specs.declared.mark.Mark.{Mark}
use Rattle.inbox.specs.Verdicts.{Verdict, Accepted, Again, Noticed, Judgement}
use Rattle.inbox.specs.Judging.{is_accepted}
use Rattle.waits.specs.declared.job.Job.{Job}
use Rattle.waits.specs.declared.job.Unfinished.{Unfinished}
use Rattle.waits.specs.Jobs.{Queue, first_job, has_failed, is_of, without_first, without_session as without_jobs_of}
use Rattle.server_rules.specs.Server.{Name, Reply, Server, Session, has_accepted, mark_in, name_of, session_named, sessions_max}
use Rattle.server_rules.specs.Event.{Envelope, Setting, Speaker, State}
use Rattle.server_rules.specs.Speaking.{msg_wait_failed, says, says_it_is_new}
use Rattle.server_rules.specs.Waiting.{tells_of}
use Rattle.server_rules.specs.Rows.{accepts, acknowledges, acks_of, came_again, notices}
use Rattle.server_rules.specs.Answer.{begun, name_in, opens, with_place, without_first as without_first_session}
use Rattle.law_server.specs.Order.{AreOrdered, IsMidway, IsOrderly, IsOrderlyAt, IsSpeaking, IsTold, IsUnanswered, WasAccepted, WasCalled, is_for_service, jobs_of, opens_of}
use Rattle.server_core.specs.One.{AreOwnFailures, fails_all, given_up_by}
use Rattle.server_core.specs.Among.{Among, IsAlone, IsInOrder, IsOrderlySpeaker, destroys_another, heard_among, heard_by, loses_another, row_among, settles_among, speaks_among, tells_all}
use Rattle.server_core.proofs.Among.{OwesForItself, found-another, row-alone, told-alone}
use Rattle.server_core.proofs.Blocked.{none-taken}
use Rattle.server_core.proofs.Failing.{first-own, given-name, given-own, rest-own}
use Rattle.server_core.proofs.Lists.{pairs-nil}
use Rattle.server_core.proofs.Names.{name-by, named}
use Rattle.server_core.proofs.Steps.{GivesUp, TakesOut}

-- what the crate below says of a session that speaks in order
pub record KeepsOrder (S : Type 0) : Type 0 where
  pub says : (setting : Setting S) (item : Item) (name : Name) (others : Name → Queue) (past : History) (opened : List ℕ) (speaker : Speaker S)
      → IsSpeaking name others past opened speaker → IsSpeaking name others past opened (says setting item speaker)
  pub notices : (setting : Setting S) (number seq code : ℕ) (name : Name) (others : Name → Queue) (past : History) (opened : List ℕ) (speaker : Speaker S)
      → IsSpeaking name others past opened speaker → IsSpeaking name others past opened (notices setting number seq code speaker)
  pub again : (setting : Setting S) (number seq : ℕ) (mark : Option Mark) (name : Name) (others : Name → Queue) (past : History) (opened : List ℕ) (speaker : Speaker S)
      → IsSpeaking name others past opened speaker → IsSpeaking name others past opened (came_again setting number seq mark speaker)
  pub left : (number : ℕ) (name : Name) (others : Name → Queue) (past : History) (opened : List ℕ) (speaker : Speaker S)
      → IsSpeaking name others past (number ∷ opened) speaker → IsSpeaking name others past opened speaker
  pub tells : (number : ℕ) (name : Name) (others : Name → Queue) (past : History) (opened : List ℕ) (speaker : Speaker S)
      → IsSpeaking name others past opened speaker → IsSpeaking name others past opened (tells_of number speaker)
  pub accepts : (setting : Setting S) (number : ℕ) (item : Item) (body : List ℕ) (name : Name) (others : Name → Queue) (past : History) (opened : List ℕ) (speaker : Speaker S)
      → (is_for_service item ≡ true → WasCalled number speaker.session.history)
      → IsSpeaking name others past (number ∷ opened) speaker → IsSpeaking name others past opened (accepts setting number item body speaker)
  pub new : (setting : Setting S) (name : Name) (others : Name → Queue) (past : History) (opened : List ℕ) (speaker : Speaker S)
      → IsSpeaking name others past opened speaker → IsSpeaking name others past opened (says_it_is_new setting speaker)
  pub acknowledges : (setting : Setting S) (numbers : List ℕ) (name : Name) (others : Name → Queue) (past : History) (opened : List ℕ) (speaker : Speaker S)
      → IsSpeaking name others past opened speaker → IsSpeaking name others past opened (acknowledges setting numbers speaker)
  pub gives : GivesUp S
  pub takes : TakesOut S

-- whatever the jobs of others were before, they are what they are
in-order : {S : Type 0} (name : Name) (others : Name → Queue) (past : History) (opened : List ℕ) (speaker : Speaker S)
    → IsSpeaking name others past opened speaker → IsInOrder name past opened speaker
in-order name others past opened speaker order =
    record { of_key = order.of_key; of_session = order.of_session; same = order.same; midway = order.midway; apart = λ other apart. refl }

-- ---- jobs that have failed

given-order : {S : Type 0} → KeepsOrder S → (setting : Setting S) (name : Name) (others : Name → Queue) (past : History) (opened : List ℕ) (found : Option Job) (speaker : Speaker S)
    → first_job has_failed speaker.jobs ≡ found → AreOwnFailures name speaker.jobs → IsSpeaking name others past opened speaker
    → IsSpeaking name others past opened (given_up_by setting found (record speaker { jobs = without_first has_failed speaker.jobs }))
given-order {S} keeps setting name others past opened None speaker is own order =
    let P : Queue → Type 0 = λ jobs. IsSpeaking name others past opened (record speaker { jobs = jobs }) in
    subst P (sym (none-taken speaker.jobs is)) order
given-order {S} keeps setting name others past opened (Some job) speaker is own order =
    let of_name : named job.key job.session ≡ name = first-own name speaker.jobs job own is in
    keeps.gives setting msg_wait_failed job name others past opened (record speaker { jobs = without_first has_failed speaker.jobs })
    (keeps.takes has_failed job name others past opened speaker is (ap (λ (name : Name). name.key) of_name) (ap (λ (name : Name). name.session) of_name) order)

fails-order : {S : Type 0} → KeepsOrder S → (setting : Setting S) (name : Name) (others : Name → Queue) (past : History) (opened : List ℕ) (n : ℕ) (speaker : Speaker S)
    → name_of speaker.session ≡ name → AreOwnFailures name speaker.jobs → IsSpeaking name others past opened speaker
    → IsSpeaking name others past opened (fails_all setting n speaker)
fails-order keeps setting name others past opened zero speaker is own order = order
fails-order {S} keeps setting name others past opened (suc n) speaker is own order =
    let found = first_job has_failed speaker.jobs in
    let left : Speaker S = record speaker { jobs = without_first has_failed speaker.jobs } in
    let next : Speaker S = given_up_by setting found left in
    let N : Name → Type 0 = λ name. AreOwnFailures name left.jobs in
    let M : Name → Type 0 = λ name. AreOwnFailures name next.jobs in
    fails-order keeps setting name others past opened n next (given-name setting found left ∙ is)
    (subst M is (given-own setting found left (subst N (sym is) (rest-own name speaker.jobs own))))
    (given-order keeps setting name others past opened found speaker refl own order)

-- ---- another session is lost

of-another : (name other : Name) (one : Unfinished) → name ≢ other → is_of name.key name.session one ≡ true → is_of other.key other.session one ≡ false
of-another name other one apart is =
    elim (cases_Bool (is_of other.key other.session one)) [
      | inl also ↦
          let own = and_parts _ _ is in
          let its = and_parts _ _ also in
          absurd (apart (name-by name other
          (sym (eqb-true one.job.key name.key own.0) ∙ eqb-true one.job.key other.key its.0)
          (sym (eqb-true one.job.session name.session own.1) ∙ eqb-true one.job.session other.session its.1)))
      | inr fails ↦ fails
    ]

lost-keeps : (name other : Name) (jobs : Queue) → name ≢ other → jobs_of name (without_jobs_of other.key other.session jobs) ≡ jobs_of name jobs
lost-keeps name other [] apart = refl
lost-keeps name other (one ∷ jobs) apart =
    let rest = lost-keeps name other jobs apart in
    elim (cases_Bool (is_of name.key name.session one)) [
      | inl is ↦
          let fails = of-another name other one apart is in
          rw (fails, is) (ap (λ (rest : Queue). one ∷ rest) rest)
      | inr not_so ↦
          elim (cases_Bool (is_of other.key other.session one)) [
            | inl its ↦ rw (its, not_so) rest
            | inr fails ↦ rw (fails, not_so) rest
          ]
    ]

lost-order : {S : Type 0} (name other : Name) (others : Name → Queue) (past : History) (opened : List ℕ) (among : Among S) → name ≢ other
    → IsSpeaking name others past opened among.speaker → IsInOrder name past opened (loses_another other among).speaker
lost-order name other others past opened among apart order =
    let P : Queue → Type 0 = IsMidway opened among.speaker.session.history among.speaker.session.replies among.speaker.session.counters.last in
    record {
      of_key = order.of_key;
      of_session = order.of_session;
      same = order.same;
      midway = subst P (sym (lost-keeps name other among.speaker.jobs apart)) order.midway;
      apart = λ one is. refl;
    }

destroyed-order : {S : Type 0} → KeepsOrder S → (setting : Setting S) (name : Name) (others : Name → Queue) (past : History) (opened : List ℕ) (destroyed : ℕ) (among : Among S)
    → IsAlone name among → IsSpeaking name others past opened among.speaker → IsInOrder name past opened (destroys_another setting destroyed among).speaker
destroyed-order {S} keeps setting name others past opened destroyed among alone order =
    let own = name_of among.speaker.session in
    let other = named own.key destroyed in
    let N : Name → Type 0 = λ name. All (λ (other : Session). name ≢ name_of other) among.others in
    let P : Among S → Type 0 = λ among. IsInOrder name past opened among.speaker in
    let lost = loses_another other among in
    cond_both (is_some (session_named other among.others)) _ _ P
    (λ is.
    let another : name ≢ other = λ same. found-another own other among.others (subst N (sym alone.named) alone.apart) is (sym same ∙ sym alone.named) in
    let begins = lost-order name other others past opened among another order in
    in-order name (λ one. jobs_of one lost.speaker.jobs) past opened (says setting (DestroySessionOk destroyed) lost.speaker)
    (keeps.says setting (DestroySessionOk destroyed) name (λ one. jobs_of one lost.speaker.jobs) past opened lost.speaker begins))
    (λ is.
    in-order name others past opened (says setting (DestroySessionNone destroyed) among.speaker)
    (keeps.says setting (DestroySessionNone destroyed) name others past opened among.speaker order))

-- ---- the rows

-- the numbers that are open before and after one was judged so
abbrev opens_with : ℕ → Verdict → List ℕ → List ℕ
opens_with number verdict opened = cond (is_accepted verdict) (number ∷ opened) opened

accepted-order : {S : Type 0} → KeepsOrder S → (setting : Setting S) (name : Name) (others : Name → Queue) (past : History) (opened : List ℕ) (number : ℕ) (item : Item) (body : List ℕ)
    (speaker : Speaker S) → IsTold number (Accepted item) past → IsSpeaking name others past (number ∷ opened) speaker
    → IsInOrder name past opened (accepts setting number item body speaker)
accepted-order {S} keeps setting name others past opened number item body speaker told order =
    let W : History → Type 0 = λ history. WasCalled number history in
    in-order name others past opened (accepts setting number item body speaker)
    (keeps.accepts setting number item body name others past opened speaker
    (λ is. subst W (sym order.same) (told.called item refl is)) order)

pub row-order : {S : Type 0} → KeepsOrder S → (setting : Setting S) (name : Name) (others : Name → Queue) (past : History) (opened : List ℕ) (number seq : ℕ) (verdict : Verdict) (body : List ℕ)
    (among : Among S) → IsAlone name among → IsTold number verdict past → IsSpeaking name others past (opens_with number verdict opened) among.speaker
    → IsInOrder name past opened (row_among setting number seq verdict body among).speaker
row-order keeps setting name others past opened number seq (Accepted (DestroySession destroyed)) body among alone told order =
    destroyed-order keeps setting name others past opened destroyed among alone (keeps.left number name others past opened among.speaker order)
row-order keeps setting name others past opened number seq (Accepted item) body among alone told order =
    accepted-order keeps setting name others past opened number item body among.speaker told order
row-order keeps setting name others past opened number seq (Again mark) body among alone told order =
    in-order name others past opened (came_again setting number seq (mark_in among.speaker.session number) among.speaker)
    (keeps.again setting number seq (mark_in among.speaker.session number) name others past opened among.speaker order)
row-order keeps setting name others past opened number seq (Noticed code) body among alone told order =
    in-order name others past opened (notices setting number seq code among.speaker)
    (keeps.notices setting number seq code name others past opened among.speaker order)

pub settled-order : {S : Type 0} → KeepsOrder S → OwesForItself S → (setting : Setting S) (name : Name) (others : Name → Queue) (past : History) (judgement : Judgement) (judged : List Judgement)
    (body : List ℕ) (among : Among S) → IsAlone name among → IsTold judgement.number judgement.verdict past
    → IsSpeaking name others past (opens_of (judgement ∷ judged)) among.speaker
    → IsInOrder name past (opens_of judged) (settles_among setting among (judgement, body)).speaker
settled-order {S} keeps owed setting name others past judgement judged body among alone told order =
    let opened = opens_of judged in
    let number = judgement.number in
    let rowed : Among S = row_among setting number judgement.seq judgement.verdict body among in
    let is_rowed : IsAlone name rowed = row-alone owed setting name number judgement.seq judgement.verdict body among alone in
    let after : Speaker S = tells_of number rowed.speaker in
    let is_told : IsAlone name (speaks_among (tells_of number) rowed) = told-alone setting name number rowed is_rowed in
    let before = λ (one : Name). jobs_of one rowed.speaker.jobs in
    let row_order = row-order keeps setting name others past opened number judgement.seq judgement.verdict body among alone told order in
    let tells_order = keeps.tells number name before past opened rowed.speaker row_order in
    in-order name before past opened (tells_all setting number rowed.speaker)
    (fails-order keeps setting name before past opened (length after.jobs) after is_told.named is_told.own tells_order)

-- ---- as an event begins

pub opened-order : {S : Type 0} → KeepsOrder S → (setting : Setting S) (history : History) (judged : List Judgement) (name : Name) (opened : List ℕ) (speaker : Speaker S)
    → name_of speaker.session ≡ name → IsMidway opened history speaker.session.replies speaker.session.counters.last (jobs_of name speaker.jobs)
    → IsInOrder name history opened (opens setting history judged speaker)
opened-order {S} keeps setting history judged name opened speaker is midway =
    let ready : Speaker S = record speaker { session = record speaker.session { history = history } } in
    let others = λ (one : Name). jobs_of one speaker.jobs in
    let P : Speaker S → Type 0 = λ speaker. IsSpeaking name others history opened speaker in
    let first : IsSpeaking name others history opened ready = record {
      of_key = ap (λ (name : Name). name.key) is;
      of_session = ap (λ (name : Name). name.session) is;
      same = refl;
      midway = midway;
      apart = λ other apart. refl;
    } in
    let begun_so : Speaker S = cond (has_accepted ready.session) ready (says_it_is_new setting ready) in
    let begins : P begun_so =
    cond_both (has_accepted ready.session) ready (says_it_is_new setting ready) P (λ accepted. first) (λ accepted. keeps.new setting name others history opened ready first) in
    in-order name others history opened (opens setting history judged speaker)
    (keeps.acknowledges setting (acks_of judged) name others history opened begun_so begins)

nil-cons : {X : Type 0} (x : X) (xs : List X) → [] ≡ x ∷ xs → ⊥
nil-cons x xs same = cc

none-left : {X : Type 0} (p q : X → Bool) (xs : List X) → filter p xs ≡ [] → filter p (filter q xs) ≡ []
none-left p q [] none = refl
none-left {X} p q (x ∷ xs) none =
    elim (cases_Bool (p x)) [
      | inl is ↦ absurd (nil-cons x (filter p xs) (sym none ∙ cond-true (p x) (x ∷ filter p xs) (filter p xs) is))
      | inr not_so ↦
          let rest = none-left p q xs (sym (cond-false (p x) (x ∷ filter p xs) (filter p xs) not_so) ∙ none) in
          elim (cases_Bool (q x)) [
            | inl stays ↦ rw (stays, not_so) rest
            | inr fails ↦ rw fails rest
          ]
    ]

none-jobs : {S : Type 0} (name : Name) (sessions : List Session) (state : State S) → jobs_of name state.jobs ≡ [] → jobs_of name (without_first_session sessions state).jobs ≡ []
none-jobs name [] state none = none
none-jobs name (session ∷ sessions) state none =
    let other = name_of session in
    none-left (is_of name.key name.session) (λ one. not (is_of other.key other.session one)) state.jobs none

-- nothing came yet
nothing-came : (last : ℕ) → IsOrderly [] [] last []
nothing-came last = record {
  judged = pairs-nil (λ (earlier later : FirstJudgement). earlier.number ≢ later.number);
  replied = record {
    accepted = All-nil (λ (reply : Reply). WasAccepted reply.call []);
    once = pairs-nil (λ (one other : Reply). one.call ≢ other.call);
    rising = pairs-nil (λ (one other : Reply). one.number < other.number);
    given = All-nil (λ (reply : Reply). reply.number < last + 4);
  };
  unfinished = record {
    called = All-nil (λ (one : Unfinished). WasCalled one.job.number []);
    unanswered = All-nil (λ (one : Unfinished). IsUnanswered [] one.job.number);
    once = pairs-nil (λ (one other : Unfinished). one.job.number ≢ other.job.number);
  };
}

heard_by-order : {S : Type 0} (setting : Setting S) (envelope : Envelope) (server : Server) (draw : S) (found : Option Session)
    → IsOrderlyAt found (jobs_of (name_in envelope) server.jobs) → IsOrderlySpeaker (name_in envelope) (heard_by setting envelope found (begun server draw)).speaker
heard_by-order setting envelope server draw (Some session) order = order
heard_by-order {S} setting envelope server draw None order =
    let name = name_in envelope in
    let state : State S = begun server draw in
    let placed : jobs_of name (with_place state).jobs ≡ [] =
    cond_both (nat_lt (length state.sessions) sessions_max) state (without_first_session state.sessions state) (λ (state : State S). jobs_of name state.jobs ≡ [])
    (λ is. order) (λ is. none-jobs name state.sessions state order) in
    subst (IsOrderly [] [] 0) (sym placed) (nothing-came 0)

pub heard-order : {S : Type 0} (setting : Setting S) (envelope : Envelope) (server : Server) (draw : S) → AreOrdered server.sessions server.jobs
    → IsOrderlySpeaker (name_in envelope) (heard_among setting envelope (begun server draw)).speaker
heard-order setting envelope server draw ordered =
    let name = name_in envelope in
    heard_by-order setting envelope server draw (session_named name server.sessions) (ordered.each name)
