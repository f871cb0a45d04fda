-- A session that has accepted nothing, within an event: what it owes begins with its `new_session_created`.
use Rattle.std.proofs.Common.{◌≡◌, ◌≢◌, ◌∙◌, ℕ, zero, suc, ◌+◌, ◌≤◌, Bool, true, false, Option, Some, None, List, [], ◌∷◌, ◌++◌, length, ap, sym, subst, refl, arith, inl, inr, append_assoc}
use Rattle.std.specs.Prelude.{fold, map, not, is_some, ◌⊎◌, ◌&&◌, ◌==◌}
use Rattle.std.specs.List.{filter, All}
use Rattle.std.proofs.lemmas.Bool.{cond_both, cond-false}
use Rattle.std.proofs.lemmas.List.{append-nil, map-append}
use Rattle.std.proofs.lemmas.List.Elements.{All-nil, All-cons, All-head, All-tail, All-push, filter-append}
use Rattle.service_tl.specs.declared.item.Item.{Item}
use Rattle.service_tl.specs.declared.item.Item.TheVariants.{DestroySession, DestroySessionOk, DestroySessionNone, MsgsAck}
use Rattle.service_tl.specs.declared.lists.Message.{Message}
use Rattle.packing.specs.Numbering.{numbered}
use Rattle.id_window.specs.History.{History}
use Rattle.inbox.specs.Inbox.{was_heard}
use Rattle.inbox.specs.Verdicts.{Verdict, Accepted, Again, Noticed, Judgement}
use Rattle.waits.specs.declared.job.Job.{Job}
use Rattle.waits.specs.declared.job.Unfinished.{Unfinished}
use Rattle.waits.specs.Jobs.{Queue, has_failed, is_overdue, first_job, without_first, ready_job, without_ready, one_if}
use Rattle.server_rules.specs.Server.{Name, Session, name_of, is_same, session_named, has_accepted}
use Rattle.server_rules.specs.Event.{Setting, State, Speaker, Owed, speaker_in, spoken_by, speaks, lost}
use Rattle.server_rules.specs.Speaking.{says, says_it_is_new, msg_wait_failed, msg_wait_timeout}
use Rattle.server_rules.specs.Waiting.{gives_up, given_up, first_given_up, all_given_up, after_failures, after_timeouts, tells_of}
use Rattle.server_rules.specs.Rows.{owes, row, destroys, settles, acknowledges, acks_of}
use Rattle.server_rules.specs.Sending.{messages_by}
use Rattle.server_rules.specs.Answer.{attaches, finishes, opens, runs, ticks}
use Rattle.law_server.specs.Speech.{SaidFor}
use Rattle.law_server.specs.Announced.{NamesSession}
use Rattle.law_server.proofs.LivedNames.{named, cases_name, apart-names, found-named, lost-name, lost-other}
use Rattle.law_server.proofs.Counting.{Test, any, jobs_at, is_by, job_passes, by-own, first-at, ready-at, found_at, lost-own, lost-others}
use Rattle.law_server.proofs.Accounts.{asking, asked_by, still-account, Account, told-account, owes-account, gives_up-account, finishes-account}
use Rattle.law_server.proofs.Going.{Known}
use Rattle.law_server.proofs.Ends.{attaches-still}
use Rattle.law_server.proofs.Small.{IsShort}

-- ---- what such a session owes

-- its `new_session_created`, and so many short messages behind it
abbrev pub Opening : ℕ → ℕ → ℕ → List Message → Type 0
Opening most first unique said =
    (new : Message) × (rest : List Message) × (said ≡ new ∷ rest) × NamesSession first unique new.body × (length rest ≤ most) × All IsShort rest

-- or nothing
abbrev pub Few : ℕ → ℕ → ℕ → List Message → Type 0
Few most first unique said = (said ≡ []) ⊎ Opening most first unique said

-- ---- which session it is

pub record Mute : Type 0 where
  pub name : Name
  pub first : ℕ
  pub unique : ℕ

-- it has accepted nothing and has no replies, where it stands
abbrev pub IsUnheard : Mute → Option Session → Type 0
IsUnheard mute None = Unit {0}
IsUnheard mute (Some session) =
    (session.first ≡ mute.first) × (session.unique ≡ mute.unique) × (session.replies ≡ []) × (was_heard session.history ≡ false)

-- a state in which it owes such messages
pub record IsMute (S : Type 0) (mute : Mute) (Owes : List Message → Type 0) (state : State S) : Type 0 where
  pub unheard : IsUnheard mute (session_named mute.name state.sessions)
  pub jobs : jobs_at mute.name any state.jobs ≡ 0
  pub owed : Owes (messages_by mute.name state.owed)
  pub sent : state.sent ≡ []

pub mute-weaker : {S : Type 0} (mute : Mute) (P Q : List Message → Type 0) (state : State S) → ((said : List Message) → P said → Q said) → IsMute S mute P state → IsMute S mute Q state
mute-weaker mute P Q state weaker m = record { unheard = m.unheard; jobs = m.jobs; owed = weaker (messages_by mute.name state.owed) m.owed; sent = m.sent }

-- ---- another session speaks

pub messages-append : (name : Name) (owed later : List Owed) → messages_by name (owed ++ later) ≡ messages_by name owed ++ messages_by name later
messages-append name owed later =
    ap (map (λ (one : Owed). one.message)) (filter-append (λ (one : Owed). is_same name one.name) owed later)
    ∙ map-append (λ (one : Owed). one.message) (filter (λ (one : Owed). is_same name one.name) owed) (filter (λ (one : Owed). is_same name one.name) later)

none-others : (own other : Name) (later : List Owed) → other ≢ own → All (λ one. one.name ≡ own) later → messages_by other later ≡ []
none-others own other [] apart all = refl
none-others own other (one ∷ later) apart all =
    let P : Owed → Type 0 = λ one. one.name ≡ own in
    let off : is_same other one.name ≡ false = apart-names other one.name (λ is. apart (is ∙ All-head P one later all)) in
    ap (map (λ (one : Owed). one.message)) (cond-false (is_same other one.name) (one ∷ filter (λ (one : Owed). is_same other one.name) later) (filter (λ (one : Owed). is_same other one.name) later) off)
    ∙ none-others own other later apart (All-tail P one later all)

-- what a speech leaves as it was at other names
pub record Apart (S : Type 0) (before after : Speaker S) : Type 0 where
  pub name : name_of after.session ≡ name_of before.session
  pub owed : (later : List Owed) × (after.owed ≡ before.owed ++ later) × All (λ one. one.name ≡ name_of before.session) later
  pub jobs : (other : Name) → other ≢ name_of before.session → (test : Test) → jobs_at other test after.jobs ≡ jobs_at other test before.jobs
  pub sent : after.sent ≡ before.sent

apart-said : {S : Type 0} (rise : Test → ℕ) (before after : Speaker S) → SaidFor S before after → Account S rise before after → Apart S before after
apart-said rise before after said account = record {
  name = ap (λ (k : ℕ). named k after.session.number) said.key ∙ ap (named before.session.key) said.number;
  owed = said.owed;
  jobs = account.others;
  sent = said.sent;
}

tells-apart : {S : Type 0} (number : ℕ) (speaker : Speaker S) → Apart S speaker (tells_of number speaker)
tells-apart number speaker = record {
  name = refl;
  owed = ([], sym (append-nil speaker.owed), All-nil (λ (one : Owed). one.name ≡ name_of speaker.session));
  jobs = (told-account number speaker).others;
  sent = refl;
}

one-owed : {S : Type 0} (speaker : Speaker S) (one : Owed) → one.name ≡ name_of speaker.session → All (λ one. one.name ≡ name_of speaker.session) (one ∷ [])
one-owed speaker one is = All-cons (λ (one : Owed). one.name ≡ name_of speaker.session) one [] is (All-nil (λ (one : Owed). one.name ≡ name_of speaker.session))

says-apart : {S : Type 0} (setting : Setting S) (item : Item) (speaker : Speaker S) → Apart S speaker (says setting item speaker)
says-apart setting item speaker = record {
  name = refl;
  owed = (_, refl, one-owed speaker _ refl);
  jobs = λ other apart test. refl;
  sent = refl;
}

module _ {S : Type 0} (known : Known S) (mute : Mute) (Owes : List Message → Type 0) where
  other-by : (name : Name) (speak : Speaker S → Speaker S) (state : State S) (found : Option Session) → session_named name state.sessions ≡ found → mute.name ≢ name
      → ((speaker : Speaker S) → Apart S speaker (speak speaker))
      → IsMute S mute Owes state → IsMute S mute Owes (spoken_by found speak state)
  other-by name speak state None is off apart m = m
  other-by name speak state (Some session) is off apart m =
      let after = speak (speaker_in state session) in
      let apart_so = apart (speaker_in state session) in
      let its_name : name_of session ≡ name = found-named name state.sessions session is in
      let off_so : mute.name ≢ name_of session = λ same. off (same ∙ its_name) in
      let found : session_named mute.name (spoken_by (Some session) speak state).sessions ≡ session_named mute.name state.sessions =
      ap (λ (found : Option Session). session_named mute.name (spoken_by found speak state).sessions) (sym is)
      ∙ known.others name mute.name speak state session is (apart_so.name ∙ its_name) off in
      let U : Option Session → Type 0 = IsUnheard mute in
      let owed = apart_so.owed in
      let same : messages_by mute.name after.owed ≡ messages_by mute.name state.owed =
      ap (messages_by mute.name) owed.1
      ∙ (messages-append mute.name state.owed owed.0
      ∙ (ap (λ (more : List Message). messages_by mute.name state.owed ++ more) (none-others (name_of session) mute.name owed.0 off_so owed.2)
      ∙ append-nil (messages_by mute.name state.owed))) in
      record {
        unheard = subst U (sym found) m.unheard;
        jobs = apart_so.jobs mute.name off_so any ∙ m.jobs;
        owed = subst Owes (sym same) m.owed;
        sent = apart_so.sent ∙ m.sent;
      }

  pub other-mute : (name : Name) (speak : Speaker S → Speaker S) (state : State S) → mute.name ≢ name → ((speaker : Speaker S) → Apart S speaker (speak speaker))
      → IsMute S mute Owes state → IsMute S mute Owes (speaks name speak state)
  other-mute name speak state off apart m = other-by name speak state (session_named name state.sessions) refl off apart m

  -- ---- a session is lost

  pub lost-mute : (name : Name) (state : State S) → IsMute S mute Owes state → IsMute S mute Owes (lost name state)
  lost-mute name state m =
      let U : Option Session → Type 0 = IsUnheard mute in
      elim (cases_name mute.name name) [
        | inl own ↦
            let P : Name → Type 0 = λ name. IsMute S mute Owes (lost name state) in
            subst P own (record {
              unheard = subst U (sym (lost-name mute.name state.sessions)) tt;
              jobs = lost-own mute.name any state.jobs;
              owed = m.owed;
              sent = m.sent;
            })
        | inr apart ↦
            record {
              unheard = subst U (sym (lost-other name mute.name state.sessions apart)) m.unheard;
              jobs = lost-others name mute.name any state.jobs apart ∙ m.jobs;
              owed = m.owed;
              sent = m.sent;
            }
      ]

  -- ---- a job is taken out, of another session

  taken-mute : (job : Job) (rest : Queue) (speak : Speaker S → Speaker S) (state : State S)
      → jobs_at mute.name any state.jobs ≡ jobs_at mute.name any rest + one_if (job_passes mute.name any job)
      → ((speaker : Speaker S) → Apart S speaker (speak speaker))
      → IsMute S mute Owes state → IsMute S mute Owes (speaks (named job.key job.session) speak (record state { jobs = rest }))
  taken-mute job rest speak state all apart m =
      let name = named job.key job.session in
      let none_left = m.jobs in
      elim (cases_name mute.name name) [
        | inl own ↦
            let is : is_by mute.name job.key job.session ≡ true = ap (λ (name : Name). is_by name job.key job.session) own ∙ by-own job.key job.session in
            let one : one_if (job_passes mute.name any job) ≡ 1 = ap (λ (is : Bool). one_if (is && true)) is in
            absurd (omega arith)
        | inr off ↦
            other-mute name speak (record state { jobs = rest }) off apart
            (record { unheard = m.unheard; jobs = omega arith; owed = m.owed; sent = m.sent })
      ]

  given_up-by : (setting : Setting S) (content : List ℕ) (take : Unfinished → Bool) (state : State S) (job : Option Job) → first_job take state.jobs ≡ job
      → IsMute S mute Owes state → IsMute S mute Owes (given_up setting content job (record state { jobs = without_first take state.jobs }))
  given_up-by setting content take state None is m =
      let all = first-at mute.name any take state.jobs in
      let none_left = m.jobs in
      record { unheard = m.unheard; jobs = omega arith; owed = m.owed; sent = m.sent }
  given_up-by setting content take state (Some job) is m =
      taken-mute job (without_first take state.jobs) (gives_up setting content job) state
      (first-at mute.name any take state.jobs ∙ ap (λ (found : Option Job). jobs_at mute.name any (without_first take state.jobs) + found_at mute.name any found) is)
      (λ speaker.
      apart-said (asking job.number (Some job.request)) speaker (gives_up setting content job speaker) (known.gives_up setting speaker content job)
      (gives_up-account setting content job speaker)) m

  all_given-mute : (setting : Setting S) (content : List ℕ) (take : Unfinished → Bool) (n : ℕ) (state : State S) → IsMute S mute Owes state
      → IsMute S mute Owes (all_given_up setting content (λ queue. (first_job take queue, without_first take queue)) n state)
  all_given-mute setting content take zero state m = m
  all_given-mute setting content take (suc n) state m =
      all_given-mute setting content take n (first_given_up setting content (λ queue. (first_job take queue, without_first take queue)) state)
      (given_up-by setting content take state (first_job take state.jobs) refl m)

  pub failures-mute : (setting : Setting S) (state : State S) → IsMute S mute Owes state → IsMute S mute Owes (after_failures setting state)
  failures-mute setting state m = all_given-mute setting msg_wait_failed has_failed (length state.jobs) state m

  pub ticks-mute : (setting : Setting S) (state : State S) → IsMute S mute Owes state → IsMute S mute Owes (ticks setting state)
  ticks-mute setting state m =
      failures-mute setting (after_timeouts setting state) (all_given-mute setting msg_wait_timeout (is_overdue setting.now) (length state.jobs) state m)

  pub runs-mute : (setting : Setting S) (place : ℕ) (job : Job) (reply : List ℕ) (state : State S) → ready_job place state.jobs ≡ Some job
      → IsMute S mute Owes state → IsMute S mute Owes (runs setting place job reply state)
  runs-mute setting place job reply state is m =
      failures-mute setting
      (speaks (record { key = job.key; session = job.session }) (finishes setting job reply) (record state { jobs = without_ready place state.jobs }))
      (taken-mute job (without_ready place state.jobs) (finishes setting job reply) state
      (ready-at mute.name any place state.jobs ∙ ap (λ (found : Option Job). jobs_at mute.name any (without_ready place state.jobs) + found_at mute.name any found) is)
      (λ speaker.
      apart-said (asking job.number (Some job.request)) speaker (finishes setting job reply speaker) (known.finishes setting speaker job reply)
      (finishes-account setting job reply speaker)) m)

  -- ---- another session's judgements are settled

  destroys-mute : (setting : Setting S) (number destroyed : ℕ) (name : Name) (state : State S) → mute.name ≢ name → IsMute S mute Owes state
      → IsMute S mute Owes (destroys setting number destroyed name state)
  destroys-mute setting number destroyed name state off m =
      let other : Name = record name { session = destroyed } in
      cond_both (not (destroyed == name.session) && is_some (session_named other state.sessions))
      (speaks name (says setting (DestroySessionOk destroyed)) (lost other state)) (speaks name (says setting (DestroySessionNone destroyed)) state)
      (IsMute S mute Owes)
      (λ is. other-mute name (says setting (DestroySessionOk destroyed)) (lost other state) off (says-apart setting (DestroySessionOk destroyed)) (lost-mute other state m))
      (λ is. other-mute name (says setting (DestroySessionNone destroyed)) state off (says-apart setting (DestroySessionNone destroyed)) m)

  owes-apart : (setting : Setting S) (number seq : ℕ) (verdict : Verdict) (body : List ℕ) (speaker : Speaker S) → Apart S speaker (owes setting number seq verdict body speaker)
  owes-apart setting number seq verdict body speaker =
      apart-said (asking number (asked_by verdict body)) speaker (owes setting number seq verdict body speaker) (known.owes setting speaker number seq verdict body)
      (owes-account setting number seq verdict body speaker)

  row-mute : (setting : Setting S) (name : Name) (number seq : ℕ) (verdict : Verdict) (body : List ℕ) (state : State S) → mute.name ≢ name → IsMute S mute Owes state
      → IsMute S mute Owes (row setting name number seq verdict body state)
  row-mute setting name number seq (Accepted (DestroySession destroyed)) body state off m = destroys-mute setting number destroyed name state off m
  row-mute setting name number seq (Accepted item) body state off m =
      other-mute name (owes setting number seq (Accepted item) body) state off (owes-apart setting number seq (Accepted item) body) m
  row-mute setting name number seq (Again mark) body state off m =
      other-mute name (owes setting number seq (Again mark) body) state off (owes-apart setting number seq (Again mark) body) m
  row-mute setting name number seq (Noticed code) body state off m =
      other-mute name (owes setting number seq (Noticed code) body) state off (owes-apart setting number seq (Noticed code) body) m

  pub settles-mute : (setting : Setting S) (name : Name) (judged : List (Judgement × List ℕ)) (state : State S) → mute.name ≢ name → IsMute S mute Owes state
      → IsMute S mute Owes (fold (settles setting name) state judged)
  settles-mute setting name [] state off m = m
  settles-mute setting name ((judgement, body) ∷ judged) state off m =
      let done = row setting name judgement.number judgement.seq judgement.verdict body state in
      settles-mute setting name judged (settles setting name state (judgement, body)) off
      (failures-mute setting (speaks name (tells_of judgement.number) done)
      (other-mute name (tells_of judgement.number) done off (tells-apart judgement.number)
      (row-mute setting name judgement.number judgement.seq judgement.verdict body state off m)))

  -- ---- another session judges, or is attached

  opens-apart : (setting : Setting S) (history : History) (judged : List Judgement) (speaker : Speaker S) → Apart S speaker (opens setting history judged speaker)
  opens-apart setting history judged speaker =
      let ready : Speaker S = record speaker { session = record speaker.session { history = history } } in
      cond_both (has_accepted ready.session) ready (says_it_is_new setting ready)
      (λ (first : Speaker S). Apart S speaker (acknowledges setting (acks_of judged) first))
      (λ is. acks (acks_of judged) ready (record {
        name = refl;
        owed = ([], sym (append-nil speaker.owed), All-nil (λ (one : Owed). one.name ≡ name_of speaker.session));
        jobs = λ other apart test. refl;
        sent = refl;
      }))
      (λ is. acks (acks_of judged) (says_it_is_new setting ready) (record {
        name = refl;
        owed = (_, refl, one-owed speaker _ refl);
        jobs = λ other apart test. refl;
        sent = refl;
      })) where
        acks : (numbers : List ℕ) (after : Speaker S) → Apart S speaker after → Apart S speaker (acknowledges setting numbers after)
        acks [] after apart = apart
        acks (number ∷ numbers) after apart =
            let one : Owed = record { name = name_of after.session; message = numbered setting.now after.session.counters (MsgsAck (number ∷ numbers)) } in
            let owed = apart.owed in
            record {
              name = apart.name;
              owed = (
                owed.0 ++ one ∷ [],
                ap (λ (all : List Owed). all ++ one ∷ []) owed.1 ∙ append_assoc speaker.owed owed.0 (one ∷ []),
                All-push (λ (one : Owed). one.name ≡ name_of speaker.session) owed.0 one owed.2 apart.name,
              );
              jobs = apart.jobs;
              sent = apart.sent;
            }

  pub opens-mute : (setting : Setting S) (history : History) (judged : List Judgement) (name : Name) (state : State S) → mute.name ≢ name → IsMute S mute Owes state
      → IsMute S mute Owes (speaks name (opens setting history judged) state)
  opens-mute setting history judged name state off m = other-mute name (opens setting history judged) state off (opens-apart setting history judged) m

  pub attach-mute : (setting : Setting S) (name : Name) (state : State S) → mute.name ≢ name → IsMute S mute Owes state
      → IsMute S mute Owes (speaks name (attaches setting) state)
  attach-mute setting name state off m =
      other-mute name (attaches setting) state off
      (λ speaker.
      apart-said (λ test. 0) speaker (attaches setting speaker) (known.attaches setting speaker) (still-account speaker (attaches setting speaker) (attaches-still setting speaker))) m
