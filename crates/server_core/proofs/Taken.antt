-- A session that has judged a packet answers it.
use Rattle.std.proofs.Common.{◌≡◌, ◌≢◌, ◌∙◌, ◌+◌, ◌≤◌, ℕ, zero, suc, Bool, true, false, Option, Some, None, List, [], ◌∷◌, length, map, ap, sym, subst, refl, arith}
use Rattle.std.specs.Prelude.{fold, is_some}
use Rattle.std.specs.List.{All, zip}
use Rattle.std.proofs.lemmas.Bool.{cond_both}
use Rattle.std.proofs.lemmas.List.{length-append}
use Rattle.std.proofs.lemmas.List.Elements.{All-push}
use Rattle.auth_keys.specs.declared.ring.RingKey.{RingKey}
use Rattle.service_tl.specs.declared.item.Item.TheVariants.{DestroySession}
use Rattle.service_tl.specs.declared.lists.Message.{Message}
use Rattle.id_window.specs.History.{History}
use Rattle.inbox.specs.declared.judged.Judgement.{Judgement as BareJudgement}
use Rattle.inbox.specs.Verdicts.{Judgement, Verdict, Accepted, Again, Noticed, bare_judgement}
use Rattle.inbox.specs.Judging.{judgements, session_after}
use Rattle.inbox.specs.Refusals.{Way}
use Rattle.waits.specs.declared.job.Job.{Job}
use Rattle.waits.specs.Jobs.{Queue, first_job, has_failed, without_first}
use Rattle.server_rules.specs.Server.{Binding, Name, Session, has_accepted, name_of, remembered, session_named}
use Rattle.server_rules.specs.Event.{Envelope, Owed, Setting, Speaker}
use Rattle.server_rules.specs.Sending.{messages_by}
use Rattle.server_rules.specs.Speaking.{msg_wait_failed, says_it_is_new}
use Rattle.server_rules.specs.Waiting.{tells_of}
use Rattle.server_rules.specs.Rows.{acks_of, acknowledges}
use Rattle.server_rules.specs.Answer.{message_in, name_in, opens}
use Rattle.law_server.specs.Order.{IsMidway, IsOrderly, IsTold, jobs_of, opens_of}
use Rattle.server_dispatch.specs.declared.dues.Due.{Due}
use Rattle.server_dispatch.specs.declared.turn.Turn.{Turn}
use Rattle.server_dispatch.specs.Speaks.{Speaks}
use Rattle.server_session.specs.declared.session.SessionState.{SessionState}
use Rattle.server_session.specs.Names.{name_kept}
use Rattle.law_server.specs.Lives.{history_by, way_of}
use Rattle.server_core.specs.Among.{Among, IsAlone, IsOrderlySpeaker, destroys_another, left_where, remembers_among, row_among, settles_among, speaks_among, takes_among}
use Rattle.server_core.specs.Failures.{blocked_of}
use Rattle.server_core.specs.One.{fails_all, fails_first, given_up_by}
use Rattle.server_core.specs.Others.{AreLeft, with_last_where}
use Rattle.server_core.specs.Packets.{AreBeside, HasJudged, bodies_of, judged_of}
use Rattle.server_core.specs.Server.{CanSpeak, IsSound}
use Rattle.server_core.specs.SettlingAll.{AreDue, AreSettling}
use Rattle.server_core.proofs.Among.{OwesForItself, opened-alone}
use Rattle.server_core.proofs.Left.{left-each, left-few}
use Rattle.server_core.proofs.Ordered.{KeepsOrder, opened-order}
use Rattle.server_core.proofs.Own.{GivesUpFor}

-- What a session judged, as the definitions tell it, and what the messages need. It is a value of its own, so that what these
-- judgements are is looked at only where that is asked.
pub record Told (judged : List BareJudgement) (bodies : List (List ℕ)) (dues : List Due) (all : List Judgement) : Type 0 where
  pub told : List Judgement
  pub same : told ≡ all
  pub are : judged ≡ map bare_judgement told
  pub due : AreDue told bodies dues

pub told-so : (judged : List BareJudgement) (bodies : List (List ℕ)) (dues : List Due) (all : List Judgement) → judged ≡ map bare_judgement all → AreDue all bodies dues
    → Told judged bodies dues all
told-so judged bodies dues all are due = record { told = all; same = refl; are = are; due = due }

-- ---- what it owes first leaves its jobs alone

acknowledged-jobs : {S : Type 0} (setting : Setting S) (numbers : List ℕ) (speaker : Speaker S) → (acknowledges setting numbers speaker).jobs ≡ speaker.jobs
acknowledged-jobs setting [] speaker = refl
acknowledged-jobs setting (number ∷ numbers) speaker = refl

opened-jobs : {S : Type 0} (setting : Setting S) (history : History) (judged : List Judgement) (speaker : Speaker S) → (opens setting history judged speaker).jobs ≡ speaker.jobs
opened-jobs {S} setting history judged speaker =
    let ready : Speaker S = record speaker { session = record speaker.session { history = history } } in
    let J : Speaker S → Type 0 = λ after. (acknowledges setting (acks_of judged) after).jobs ≡ speaker.jobs in
    cond_both (has_accepted ready.session) ready (says_it_is_new setting ready) J
    (λ is. acknowledged-jobs setting (acks_of judged) ready)
    (λ is. acknowledged-jobs setting (acks_of judged) (says_it_is_new setting ready))

-- what the crate below promises of the messages of a packet
abbrev pub PacketsOpen : Type 0
PacketsOpen =
    (way : Way) (session : Session) (message : Message) (jobs : Queue) → IsOrderly session.history session.replies session.counters.last jobs
    → IsMidway (opens_of (judgements way (remembered session) message)) (session_after way (remembered session) message).history session.replies session.counters.last jobs

abbrev pub PacketsTell : Type 0
PacketsTell =
    (way : Way) (session : Session) (message : Message) (jobs : Queue) → IsOrderly session.history session.replies session.counters.last jobs
    → All (λ judgement. IsTold judgement.number judgement.verdict (session_after way (remembered session) message).history) (judgements way (remembered session) message)

-- and then all its judgements can be settled
pub opened-settling : {S : Type 0} → KeepsOrder S → PacketsOpen → PacketsTell → (setting : Setting S) (envelope : Envelope) (limit : ℕ) (judged : List Judgement) (among : Among S)
    → IsAlone (name_in envelope) among → IsOrderlySpeaker (name_in envelope) among.speaker → judged ≡ judged_of setting envelope among.speaker.session
    → blocked_of (name_in envelope) among.speaker.jobs + length judged ≤ limit
    → AreSettling (name_in envelope) (history_by setting envelope among.speaker.session) limit judged
    (speaks_among (opens setting (history_by setting envelope among.speaker.session) judged) among)
opened-settling {S} keeps open_so tells setting envelope limit judged among alone order is few =
    let name = name_in envelope in
    let session = among.speaker.session in
    let way = way_of setting envelope session in
    let history = history_by setting envelope session in
    let message = message_in envelope in
    let T : List Judgement → Type 0 = λ judged. All (λ judgement. IsTold judgement.number judgement.verdict history) judged in
    let M : List Judgement → Type 0 = λ judged. IsMidway (opens_of judged) history session.replies session.counters.last (jobs_of name among.speaker.jobs) in
    let midway : IsMidway (opens_of judged) history session.replies session.counters.last (jobs_of name among.speaker.jobs) =
    subst M (sym is) (open_so way session message (jobs_of name among.speaker.jobs) order) in
    let B : Queue → Type 0 = λ jobs. blocked_of name jobs + length judged ≤ limit in
    record {
      alone = opened-alone setting name history judged among alone;
      told = subst T (sym is) (tells way session message (jobs_of name among.speaker.jobs) order);
      order = opened-order keeps setting history judged name (opens_of judged) among.speaker alone.named midway;
      few = subst B (sym (opened-jobs setting history judged among.speaker)) few;
    }

-- as it begins to owe
pub begins-taking : {S : Type 0} (setting : Setting S) (envelope : Envelope) (kept : List SessionState) (standing : SessionState) (turn : Turn) (queue : Queue) (bound : List Binding) (draw : S)
    (judged : List BareJudgement) (among : Among S) → HasJudged setting envelope kept standing queue bound draw judged among → turn.owing.messages ≡ [] → turn.entries.entries ≡ []
    → Speaks setting.now standing turn queue bound draw (remembers_among (history_by setting envelope among.speaker.session) among).speaker
begins-taking setting envelope kept standing turn queue bound draw judged among has none nothing =
    let name = name_of among.speaker.session in
    record {
      says = record {
        stands = has.heard.stands;
        owed = none ∙ ap (λ (owed : List Owed). messages_by name owed) (sym has.heard.owed);
        draws = has.heard.draws;
      };
      jobs = has.heard.jobs;
      bindings = has.heard.bindings;
      entries = nothing ∙ sym has.heard.entries;
    }

-- ---- nothing was sent so far

acknowledged-sent : {S : Type 0} (setting : Setting S) (numbers : List ℕ) (speaker : Speaker S) → (acknowledges setting numbers speaker).sent ≡ speaker.sent
acknowledged-sent setting [] speaker = refl
acknowledged-sent setting (number ∷ numbers) speaker = refl

opened-sent : {S : Type 0} (setting : Setting S) (history : History) (judged : List Judgement) (speaker : Speaker S) → (opens setting history judged speaker).sent ≡ speaker.sent
opened-sent {S} setting history judged speaker =
    let ready : Speaker S = record speaker { session = record speaker.session { history = history } } in
    let J : Speaker S → Type 0 = λ after. (acknowledges setting (acks_of judged) after).sent ≡ speaker.sent in
    cond_both (has_accepted ready.session) ready (says_it_is_new setting ready) J
    (λ is. acknowledged-sent setting (acks_of judged) ready)
    (λ is. acknowledged-sent setting (acks_of judged) (says_it_is_new setting ready))

given-sent : {S : Type 0} → GivesUpFor S → (setting : Setting S) (found : Option Job) (speaker : Speaker S) → (given_up_by setting found speaker).sent ≡ speaker.sent
given-sent gives setting None speaker = refl
given-sent gives setting (Some job) speaker = (gives setting speaker msg_wait_failed job).sent

fails-sent : {S : Type 0} → GivesUpFor S → (setting : Setting S) (n : ℕ) (speaker : Speaker S) → (fails_all setting n speaker).sent ≡ speaker.sent
fails-sent gives setting zero speaker = refl
fails-sent {S} gives setting (suc n) speaker =
    let left : Speaker S = record speaker { jobs = without_first has_failed speaker.jobs } in
    fails-sent gives setting n (fails_first setting speaker) ∙ given-sent gives setting (first_job has_failed speaker.jobs) left

destroyed-sent : {S : Type 0} (setting : Setting S) (destroyed : ℕ) (among : Among S) → (destroys_another setting destroyed among).speaker.sent ≡ among.speaker.sent
destroyed-sent {S} setting destroyed among =
    let other = record (name_of among.speaker.session) { session = destroyed } in
    cond_both (is_some (session_named other among.others)) _ _ (λ (after : Among S). after.speaker.sent ≡ among.speaker.sent) (λ is. refl) (λ is. refl)

row-sent : {S : Type 0} → OwesForItself S → (setting : Setting S) (number seq : ℕ) (verdict : Verdict) (body : List ℕ) (among : Among S)
    → (row_among setting number seq verdict body among).speaker.sent ≡ among.speaker.sent
row-sent says setting number seq (Accepted (DestroySession destroyed)) body among = destroyed-sent setting destroyed among
row-sent says setting number seq (Accepted item) body among = (says setting among.speaker number seq (Accepted item) body).sent
row-sent says setting number seq (Again mark) body among = (says setting among.speaker number seq (Again mark) body).sent
row-sent says setting number seq (Noticed code) body among = (says setting among.speaker number seq (Noticed code) body).sent

all_settled-sent : {S : Type 0} → OwesForItself S → GivesUpFor S → (setting : Setting S) (judged : List (Judgement × List ℕ)) (among : Among S)
    → (fold (settles_among setting) among judged).speaker.sent ≡ among.speaker.sent
all_settled-sent says gives setting [] among = refl
all_settled-sent {S} says gives setting ((judgement, body) ∷ judged) among =
    let rowed : Among S = row_among setting judgement.number judgement.seq judgement.verdict body among in
    let told : Speaker S = tells_of judgement.number rowed.speaker in
    all_settled-sent says gives setting judged (settles_among setting among (judgement, body))
    ∙ (fails-sent gives setting (length told.jobs) told ∙ row-sent says setting judgement.number judgement.seq judgement.verdict body among)

pub taken-sent : {S : Type 0} → OwesForItself S → GivesUpFor S → (setting : Setting S) (envelope : Envelope) (among : Among S)
    → (takes_among setting envelope among).speaker.sent ≡ among.speaker.sent
taken-sent {S} says gives setting envelope among =
    let session = among.speaker.session in
    let judged = judged_of setting envelope session in
    let history = history_by setting envelope session in
    all_settled-sent says gives setting (zip judged (bodies_of setting envelope session)) (speaks_among (opens setting history judged) among)
    ∙ opened-sent setting history judged among.speaker

-- ---- the end

pub left-bound : {S : Type 0} (so : Bool) (among : Among S) → (left_where so among).bindings ≡ among.speaker.bindings
left-bound true among = refl
left-bound false among = refl

pub left-drawn : {S : Type 0} (so : Bool) (among : Among S) → (left_where so among).draw ≡ among.speaker.draw
left-drawn true among = refl
left-drawn false among = refl

pub left-sent : {S : Type 0} (so : Bool) (among : Among S) → (left_where so among).sent ≡ among.speaker.sent
left-sent true among = refl
left-sent false among = refl

pub left-entered : {S : Type 0} (so : Bool) (among : Among S) → (left_where so among).entries ≡ among.speaker.entries
left-entered true among = refl
left-entered false among = refl

-- of the sessions beside one that spoke, those that are left have other names still
pub left-apart : (keys : List RingKey) (moment : ℕ) (name : Name) (others left : List SessionState) (standing : SessionState) → AreBeside keys moment name others → AreLeft others left
    → name_kept standing ≡ name → All (λ other. name_kept other ≢ name_kept standing) left
left-apart keys moment name others left standing beside are is =
    let P : Name → Type 0 = λ name. All (λ (other : SessionState). name_kept other ≢ name) left in
    subst P (sym is) (left-each (λ (other : SessionState). name_kept other ≢ name) others left are beside.apart)

-- and with it they are a server's
pub sound-last : (keys : List RingKey) (moment : ℕ) (name : Name) (others left : List SessionState) (standing : SessionState) (so : Bool) → AreBeside keys moment name others
    → AreLeft others left → (so ≡ false → CanSpeak keys moment standing) → IsSound keys moment (with_last_where so standing left)
sound-last keys moment name others left standing true beside are can =
    let fewer = left-few others left are in
    record {
      few = omega (arith, beside.few);
      speaking = left-each (CanSpeak keys moment) others left are beside.speaking;
    }
sound-last keys moment name others left standing false beside are can =
    let fewer = left-few others left are in
    let long = length-append left (standing ∷ []) in
    record {
      few = omega (arith, beside.few);
      speaking = All-push (CanSpeak keys moment) left standing (left-each (CanSpeak keys moment) others left are beside.speaking) (can refl);
    }
