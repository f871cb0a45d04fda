-- A packet is an event of its session alone, but for the others that it destroys.
use Rattle.std.proofs.Common.{◌≡◌, ◌≢◌, ◌∙◌, ℕ, zero, suc, eqb, Bool, true, false, cond, Option, Some, None, List, [], ◌∷◌, ◌++◌, length, map, ap, sym, subst, refl, inl, inr, not}
use Rattle.std.specs.Prelude.{fold, is_some, nat_lt, ◌&&◌}
use Rattle.std.specs.List.{All, zip}
use Rattle.std.proofs.lemmas.Bool.{cases_Bool, cond_both, cond-true, cond-false, eq-eqb, eqb-true, false≢true}
use Rattle.std.proofs.lemmas.List.Elements.{All-append, All-filter, All-nil, All-push, All-weaker}
use Rattle.service_tl.specs.declared.item.Item.{Item}
use Rattle.service_tl.specs.declared.item.Item.TheVariants.{DestroySession, DestroySessionOk, DestroySessionNone, MsgsAck, NewSessionCreated}
use Rattle.id_window.specs.History.{History}
use Rattle.inbox.specs.Verdicts.{Verdict, Accepted, Again, Noticed, Judgement}
use Rattle.inbox.specs.Judging.{judgements, session_after}
use Rattle.inbox.specs.Refusals.{InEnvelope}
use Rattle.waits.specs.declared.job.Job.{Job}
use Rattle.waits.specs.declared.job.Unfinished.{Unfinished}
use Rattle.waits.specs.Jobs.{Queue, first_job, has_failed, is_of, without_first}
use Rattle.server_rules.specs.Server.{Name, Server, Session, has_accepted, is_named, name_of, remembered, session_named, sessions_max, without_session}
use Rattle.server_rules.specs.Event.{Envelope, Owed, Setting, Speaker, State, lost, speaks, spoken, spoken_by}
use Rattle.packing.specs.Numbering.{numbered}
use Rattle.salt_line.specs.Line.{current_salt}
use Rattle.server_rules.specs.Speaking.{msg_wait_failed, needs_salts, says, says_it_is_new}
use Rattle.server_rules.specs.Waiting.{after_failures, gives_up, tells_of}
use Rattle.server_rules.specs.Rows.{acks_of, acknowledges, destroys, owes, row, settles}
use Rattle.server_rules.specs.Sending.{all_sent}
use Rattle.server_rules.specs.Answer.{after_packet, begun, ended, hears_by, is_spent, message_in, messages_judged, name_in, opens, takes, takes_by, with_place, without_first as without_first_session, without_spent}
use Rattle.law_server.specs.Speech.{SaidFor}
use Rattle.server_core.specs.One.{AreOwnFailures, answer_of, fails_all, given_up_by, says_its_own}
use Rattle.server_core.specs.Among.{Among, IsAlone, destroys_another, ended_among, heard_among, heard_by, left_where, loses_another, packet_among, row_among, settles_among, speaks_among, state_of, takes_among}
use Rattle.server_core.proofs.Failing.{all-by_one, given-own, rest-own}
use Rattle.server_core.proofs.Last.{AreApart, another-found, another-lost, apart-none, last-found, last-lost, last-set, last-spent, none-apart, other_name, without-apart}
use Rattle.server_core.proofs.Names.{found-named, name-by, named}
use Rattle.server_core.proofs.One.{one-sends}
use Rattle.server_core.proofs.OwnJobs.{FailsAlone, owes-alone, tells-alone}
use Rattle.server_core.proofs.Spent.{HasRoom, own-name}

abbrev IsOwed : Name → Owed → Type 0
IsOwed name one = one.name ≡ name

abbrev IsOwn : Name → Unfinished → Type 0
IsOwn name one = one.failed ≡ true → is_of name.key name.session one ≡ true

-- ---- it speaks

-- the last one is the speaker that it was
as-spoken : {S : Type 0} (name : Name) (among : Among S) (speaker : Speaker S) → AreApart name among.others → name_of among.speaker.session ≡ name
    → name_of speaker.session ≡ name → spoken (state_of among) speaker ≡ state_of (record among { speaker = speaker })
as-spoken {S} name among speaker apart is named =
    let N : Name → Type 0 = λ name. AreApart name among.others in
    ap (λ (sessions : List Session). record (state_of (record among { speaker = speaker })) { sessions = sessions })
    (last-set speaker.session among.speaker.session among.others (subst N (sym named) apart) (is ∙ sym named))

pub speaks-last : {S : Type 0} (name : Name) (speak : Speaker S → Speaker S) (among : Among S) → AreApart name among.others
    → name_of among.speaker.session ≡ name → name_of (speak among.speaker).session ≡ name
    → speaks name speak (state_of among) ≡ state_of (speaks_among speak among)
speaks-last {S} name speak among apart is named =
    ap (λ (found : Option Session). spoken_by found speak (state_of among)) (last-found name among.others among.speaker.session apart is)
    ∙ as-spoken name among (speak among.speaker) apart is named

-- what it says for itself leaves it alone
said-alone : {S : Type 0} (name : Name) (among : Among S) (after : Speaker S) → IsAlone name among → SaidFor S among.speaker after
    → AreOwnFailures name after.jobs → IsAlone name (record among { speaker = after })
said-alone {S} name among after alone said own =
    let O : Name → Type 0 = λ name. All (IsOwed name) said.owed.0 in
    let P : List Owed → Type 0 = λ owed. All (IsOwed name) owed in
    record {
      named = name-by (name_of after.session) (name_of among.speaker.session) said.key said.number ∙ alone.named;
      apart = alone.apart;
      room = alone.room;
      own = own;
      owed =
          subst P (sym said.owed.1)
          (All-append (IsOwed name) among.speaker.owed said.owed.0 alone.owed (subst O alone.named said.owed.2));
    }

-- ---- jobs of it that have failed

-- what the crate below says of a job that is given up, and of what a judgement owes
abbrev pub GivesUpForItself : Type 0 → Type 0
GivesUpForItself S = (setting : Setting S) (speaker : Speaker S) (content : List ℕ) (job : Job) → SaidFor S speaker (gives_up setting content job speaker)

abbrev pub OwesForItself : Type 0 → Type 0
OwesForItself S =
    (setting : Setting S) (speaker : Speaker S) (number seq : ℕ) (verdict : Verdict) (body : List ℕ) → SaidFor S speaker (owes setting number seq verdict body speaker)

given-alone : {S : Type 0} → GivesUpForItself S → (setting : Setting S) (name : Name) (found : Option Job) (among : Among S) → IsAlone name among
    → IsAlone name (speaks_among (given_up_by setting found) among)
given-alone says setting name None among alone = alone
given-alone {S} says setting name (Some job) among alone =
    let after : Speaker S = gives_up setting msg_wait_failed job among.speaker in
    let N : Name → Type 0 = λ name. AreOwnFailures name among.speaker.jobs in
    let M : Name → Type 0 = λ name. AreOwnFailures name after.jobs in
    said-alone name among after alone (says setting among.speaker msg_wait_failed job)
    (subst M alone.named (given-own setting (Some job) among.speaker (subst N (sym alone.named) alone.own)))

fails-alone : {S : Type 0} → GivesUpForItself S → (setting : Setting S) (name : Name) (n : ℕ) (among : Among S) → IsAlone name among
    → IsAlone name (speaks_among (fails_all setting n) among)
fails-alone says setting name zero among alone = alone
fails-alone {S} says setting name (suc n) among alone =
    let speaker = among.speaker in
    let left : Speaker S = record speaker { jobs = without_first has_failed speaker.jobs } in
    let rest : IsAlone name (record among { speaker = left }) =
    record { named = alone.named; apart = alone.apart; room = alone.room; own = rest-own name speaker.jobs alone.own; owed = alone.owed } in
    let found = first_job has_failed speaker.jobs in
    fails-alone says setting name n (speaks_among (given_up_by setting found) (record among { speaker = left }))
    (given-alone says setting name found (record among { speaker = left }) rest)

-- each of its jobs that has failed is answered
abbrev fails_whole : {S : Type 0} → Setting S → Speaker S → Speaker S
fails_whole setting speaker = fails_all setting (length speaker.jobs) speaker

own-found : {S : Type 0} (name : Name) (among : Among S) → IsAlone name among
    → session_named (name_of among.speaker.session) (state_of among).sessions ≡ Some among.speaker.session
own-found name among alone =
    let N : Name → Type 0 = λ name. AreApart name among.others in
    last-found (name_of among.speaker.session) among.others among.speaker.session (subst N (sym alone.named) alone.apart) refl

failures-same : {S : Type 0} → GivesUpForItself S → (setting : Setting S) (name : Name) (among : Among S) → IsAlone name among
    → after_failures setting (state_of among) ≡ state_of (speaks_among (fails_whole setting) among)
failures-same {S} says setting name among alone =
    let speaker = among.speaker in
    let n = length speaker.jobs in
    let N : Name → Type 0 = λ name. AreOwnFailures name speaker.jobs in
    let done : IsAlone name (speaks_among (fails_all setting n) among) = fails-alone says setting name n among alone in
    ap (after_failures setting) (sym (as-spoken name among speaker alone.apart alone.named alone.named))
    ∙ (all-by_one setting (state_of among) n speaker speaker.session (own-found name among alone) (subst N (sym alone.named) alone.own)
    ∙ as-spoken name among (fails_all setting n speaker) alone.apart alone.named done.named)

-- ---- it says an item

says-alone : {S : Type 0} (setting : Setting S) (name : Name) (item : Item) (among : Among S) → IsAlone name among
    → IsAlone name (speaks_among (says setting item) among)
says-alone {S} setting name item among alone =
    let message = numbered setting.now among.speaker.session.counters item in
    let one : Owed = record { name = name_of among.speaker.session; message = message } in
    record {
      named = alone.named;
      apart = alone.apart;
      room = alone.room;
      own = alone.own;
      owed = All-push (IsOwed name) among.speaker.owed one alone.owed alone.named;
    }

new-alone : {S : Type 0} (setting : Setting S) (name : Name) (among : Among S) → IsAlone name among
    → IsAlone name (speaks_among (says_it_is_new setting) among)
new-alone {S} setting name among alone =
    let ready : Speaker S = needs_salts setting 1 among.speaker in
    let item = NewSessionCreated among.speaker.session.first among.speaker.session.unique (current_salt ready.session.salts setting.now) in
    says-alone setting name item (record among { speaker = ready })
    (record { named = alone.named; apart = alone.apart; room = alone.room; own = alone.own; owed = alone.owed })

acknowledged-alone : {S : Type 0} (setting : Setting S) (name : Name) (numbers : List ℕ) (among : Among S) → IsAlone name among
    → IsAlone name (speaks_among (acknowledges setting numbers) among)
acknowledged-alone setting name [] among alone = alone
acknowledged-alone setting name (number ∷ numbers) among alone = says-alone setting name (MsgsAck (number ∷ numbers)) among alone

pub opened-alone : {S : Type 0} (setting : Setting S) (name : Name) (history : History) (judged : List Judgement) (among : Among S) → IsAlone name among
    → IsAlone name (speaks_among (opens setting history judged) among)
opened-alone {S} setting name history judged among alone =
    let ready : Speaker S = record among.speaker { session = record among.speaker.session { history = history } } in
    let remembers : IsAlone name (record among { speaker = ready }) =
    record { named = alone.named; apart = alone.apart; room = alone.room; own = alone.own; owed = alone.owed } in
    let begun_so : Speaker S = cond (has_accepted ready.session) ready (says_it_is_new setting ready) in
    let begins : IsAlone name (record among { speaker = begun_so }) =
    cond_both (has_accepted ready.session) ready (says_it_is_new setting ready) (λ (speaker : Speaker S). IsAlone name (record among { speaker = speaker }))
    (λ is. remembers) (λ is. new-alone setting name (record among { speaker = ready }) remembers) in
    acknowledged-alone setting name (acks_of judged) (record among { speaker = begun_so }) begins

-- ---- it destroys another

lost-alone : {S : Type 0} (name other : Name) (among : Among S) → IsAlone name among → IsAlone name (loses_another other among)
lost-alone {S} name other among alone = record {
  named = alone.named;
  apart = All-filter (λ session. not (is_named other session)) (other_name name) among.others alone.apart;
  room = All-filter (λ session. not (is_named other session)) HasRoom among.others alone.room;
  own = All-filter (λ one. not (is_of other.key other.session one)) (IsOwn name) among.speaker.jobs alone.own;
  owed = alone.owed;
}

lost-same : {S : Type 0} (other : Name) (among : Among S) → other ≢ name_of among.speaker.session
    → lost other (state_of among) ≡ state_of (loses_another other among)
lost-same {S} other among apart =
    ap (λ (sessions : List Session). record (state_of (loses_another other among)) { sessions = sessions })
    (another-lost other among.others among.speaker.session apart)

-- the other session of the key is another one, or none
destroys-test : (own other : Name) (destroyed : ℕ) (others : List Session) (session : Session) → AreApart own others → own ≡ name_of session → other ≡ named own.key destroyed
    → (not (eqb destroyed own.session) && is_some (session_named other (others ++ session ∷ []))) ≡ is_some (session_named other others)
destroys-test own other destroyed others session apart is names =
    elim (cases_Bool (eqb destroyed own.session)) [
      | inl same ↦
          let own_name : other ≡ own = names ∙ ap (λ (number : ℕ). named own.key number) (eqb-true destroyed own.session same) in
          let N : Name → Type 0 = λ name. AreApart name others in
          let none : session_named other others ≡ None = apart-none other others (subst N (sym own_name) apart) in
          rw (same, none) refl
      | inr not_so ↦
          let another : other ≢ name_of session = λ alike.
          false≢true (sym not_so ∙ eq-eqb destroyed own.session (ap (λ (name : Name). name.session) (sym names ∙ (alike ∙ sym is)))) in
          rw (not_so, another-found other others session another) refl
    ]

pub found-another : (own other : Name) (others : List Session) → AreApart own others → is_some (session_named other others) ≡ true → other ≢ own
found-another own other others apart found same =
    let N : Name → Type 0 = λ name. AreApart name others in
    let none : session_named other others ≡ None = apart-none other others (subst N (sym same) apart) in
    absurd (false≢true (ap (λ (one : Option Session). is_some one) (sym none) ∙ found))

destroyed-same : {S : Type 0} (setting : Setting S) (number destroyed : ℕ) (among : Among S) → AreApart (name_of among.speaker.session) among.others
    → destroys setting number destroyed (name_of among.speaker.session) (state_of among) ≡ state_of (destroys_another setting destroyed among)
destroyed-same {S} setting number destroyed among apart =
    let own = name_of among.speaker.session in
    let other = named own.key destroyed in
    let ok : State S = speaks own (says setting (DestroySessionOk destroyed)) (lost other (state_of among)) in
    let none : State S = speaks own (says setting (DestroySessionNone destroyed)) (state_of among) in
    let ok_among : Among S = speaks_among (says setting (DestroySessionOk destroyed)) (loses_another other among) in
    let none_among : Among S = speaks_among (says setting (DestroySessionNone destroyed)) among in
    let found = is_some (session_named other among.others) in
    let test = destroys-test own other destroyed among.others among.speaker.session apart refl refl in
    let others = All-filter (λ session. not (is_named other session)) (other_name own) among.others apart in
    elim (cases_Bool found) [
      | inl is ↦
          cond-true _ ok none (test ∙ is)
          ∙ (ap (speaks own (says setting (DestroySessionOk destroyed))) (lost-same other among (found-another own other among.others apart is))
          ∙ (speaks-last own (says setting (DestroySessionOk destroyed)) (loses_another other among) others refl refl
          ∙ ap state_of (sym (cond-true found ok_among none_among is))))
      | inr not_so ↦
          cond-false _ ok none (test ∙ not_so)
          ∙ (speaks-last own (says setting (DestroySessionNone destroyed)) among apart refl refl
          ∙ ap state_of (sym (cond-false found ok_among none_among not_so)))
    ]

destroyed-alone : {S : Type 0} (setting : Setting S) (name : Name) (destroyed : ℕ) (among : Among S) → IsAlone name among
    → IsAlone name (destroys_another setting destroyed among)
destroyed-alone {S} setting name destroyed among alone =
    let other = named among.speaker.session.key destroyed in
    cond_both (is_some (session_named other among.others)) _ _ (IsAlone name)
    (λ is. says-alone setting name (DestroySessionOk destroyed) (loses_another other among) (lost-alone name other among alone))
    (λ is. says-alone setting name (DestroySessionNone destroyed) among alone)

-- ---- the rows

row-owes : {S : Type 0} → OwesForItself S → (setting : Setting S) (number seq : ℕ) (verdict : Verdict) (body : List ℕ) (among : Among S)
    → AreApart (name_of among.speaker.session) among.others
    → speaks (name_of among.speaker.session) (owes setting number seq verdict body) (state_of among)
    ≡ state_of (speaks_among (owes setting number seq verdict body) among)
row-owes {S} says setting number seq verdict body among apart =
    let said : SaidFor S among.speaker (owes setting number seq verdict body among.speaker) = says setting among.speaker number seq verdict body in
    speaks-last (name_of among.speaker.session) (owes setting number seq verdict body) among apart refl
    (name-by (name_of (owes setting number seq verdict body among.speaker).session) (name_of among.speaker.session) said.key said.number)

row-own : {S : Type 0} → OwesForItself S → (setting : Setting S) (number seq : ℕ) (verdict : Verdict) (body : List ℕ) (among : Among S)
    → AreApart (name_of among.speaker.session) among.others
    → row setting (name_of among.speaker.session) number seq verdict body (state_of among) ≡ state_of (row_among setting number seq verdict body among)
row-own says setting number seq (Accepted (DestroySession destroyed)) body among apart = destroyed-same setting number destroyed among apart
row-own says setting number seq (Accepted item) body among apart = row-owes says setting number seq (Accepted item) body among apart
row-own says setting number seq (Again mark) body among apart = row-owes says setting number seq (Again mark) body among apart
row-own says setting number seq (Noticed code) body among apart = row-owes says setting number seq (Noticed code) body among apart

row-same : {S : Type 0} → OwesForItself S → (setting : Setting S) (name : Name) (number seq : ℕ) (verdict : Verdict) (body : List ℕ) (among : Among S)
    → IsAlone name among → row setting name number seq verdict body (state_of among) ≡ state_of (row_among setting number seq verdict body among)
row-same {S} says setting name number seq verdict body among alone =
    let N : Name → Type 0 = λ name. AreApart name among.others in
    ap (λ (name : Name). row setting name number seq verdict body (state_of among)) (sym alone.named)
    ∙ row-own says setting number seq verdict body among (subst N (sym alone.named) alone.apart)

owed-alone : {S : Type 0} → OwesForItself S → (setting : Setting S) (name : Name) (number seq : ℕ) (verdict : Verdict) (body : List ℕ) (among : Among S)
    → IsAlone name among → IsAlone name (speaks_among (owes setting number seq verdict body) among)
owed-alone {S} says setting name number seq verdict body among alone =
    let fails : FailsAlone S name (owes setting number seq verdict body among.speaker) =
    owes-alone setting name number seq verdict body among.speaker (record { named = alone.named; own = alone.own }) in
    said-alone name among (owes setting number seq verdict body among.speaker) alone (says setting among.speaker number seq verdict body) fails.own

pub row-alone : {S : Type 0} → OwesForItself S → (setting : Setting S) (name : Name) (number seq : ℕ) (verdict : Verdict) (body : List ℕ) (among : Among S)
    → IsAlone name among → IsAlone name (row_among setting number seq verdict body among)
row-alone says setting name number seq (Accepted (DestroySession destroyed)) body among alone = destroyed-alone setting name destroyed among alone
row-alone says setting name number seq (Accepted item) body among alone = owed-alone says setting name number seq (Accepted item) body among alone
row-alone says setting name number seq (Again mark) body among alone = owed-alone says setting name number seq (Again mark) body among alone
row-alone says setting name number seq (Noticed code) body among alone = owed-alone says setting name number seq (Noticed code) body among alone

-- ---- a judgement is settled

pub told-alone : {S : Type 0} (setting : Setting S) (name : Name) (number : ℕ) (among : Among S) → IsAlone name among
    → IsAlone name (speaks_among (tells_of number) among)
told-alone {S} setting name number among alone =
    let fails : FailsAlone S name (tells_of number among.speaker) = tells-alone setting name number among.speaker (record { named = alone.named; own = alone.own }) in
    record { named = alone.named; apart = alone.apart; room = alone.room; own = fails.own; owed = alone.owed }

settled-same : {S : Type 0} → OwesForItself S → GivesUpForItself S → (setting : Setting S) (name : Name) (judgement : Judgement) (body : List ℕ) (among : Among S)
    → IsAlone name among → settles setting name (state_of among) (judgement, body) ≡ state_of (settles_among setting among (judgement, body))
settled-same {S} owed given setting name judgement body among alone =
    let number = judgement.number in
    let rowed : Among S = row_among setting number judgement.seq judgement.verdict body among in
    let is_rowed : IsAlone name rowed = row-alone owed setting name number judgement.seq judgement.verdict body among alone in
    let told : Among S = speaks_among (tells_of number) rowed in
    ap (λ (state : State S). after_failures setting (speaks name (tells_of number) state)) (row-same owed setting name number judgement.seq judgement.verdict body among alone)
    ∙ (ap (after_failures setting) (speaks-last name (tells_of number) rowed is_rowed.apart is_rowed.named is_rowed.named)
    ∙ failures-same given setting name told (told-alone setting name number rowed is_rowed))

pub settled-alone : {S : Type 0} → OwesForItself S → GivesUpForItself S → (setting : Setting S) (name : Name) (judgement : Judgement) (body : List ℕ) (among : Among S)
    → IsAlone name among → IsAlone name (settles_among setting among (judgement, body))
settled-alone {S} owed given setting name judgement body among alone =
    let number = judgement.number in
    let rowed : Among S = row_among setting number judgement.seq judgement.verdict body among in
    let told : Among S = speaks_among (tells_of number) rowed in
    fails-alone given setting name (length told.speaker.jobs) told
    (told-alone setting name number rowed (row-alone owed setting name number judgement.seq judgement.verdict body among alone))

all_settled-same : {S : Type 0} → OwesForItself S → GivesUpForItself S → (setting : Setting S) (name : Name) (judged : List (Judgement × List ℕ)) (among : Among S)
    → IsAlone name among → fold (settles setting name) (state_of among) judged ≡ state_of (fold (settles_among setting) among judged)
all_settled-same owed given setting name [] among alone = refl
all_settled-same owed given setting name ((judgement, body) ∷ judged) among alone =
    ap (λ state. fold (settles setting name) state judged) (settled-same owed given setting name judgement body among alone)
    ∙ all_settled-same owed given setting name judged (settles_among setting among (judgement, body)) (settled-alone owed given setting name judgement body among alone)

all_settled-alone : {S : Type 0} → OwesForItself S → GivesUpForItself S → (setting : Setting S) (name : Name) (judged : List (Judgement × List ℕ)) (among : Among S)
    → IsAlone name among → IsAlone name (fold (settles_among setting) among judged)
all_settled-alone owed given setting name [] among alone = alone
all_settled-alone owed given setting name ((judgement, body) ∷ judged) among alone =
    all_settled-alone owed given setting name judged (settles_among setting among (judgement, body)) (settled-alone owed given setting name judgement body among alone)

-- ---- its packet

-- what is owed because of these judgements
abbrev judged_of : {S : Type 0} → Setting S → Envelope → Session → List Judgement
judged_of setting envelope session = judgements (InEnvelope setting.now session.salts envelope.salt) (remembered session) (message_in envelope)

abbrev later_of : {S : Type 0} → Setting S → Envelope → Session → History
later_of setting envelope session = (session_after (InEnvelope setting.now session.salts envelope.salt) (remembered session) (message_in envelope)).history

abbrev pairs_of : {S : Type 0} → Setting S → Envelope → Session → List (Judgement × List ℕ)
pairs_of setting envelope session =
    zip (judged_of setting envelope session)
    (map (λ one. one.body) (messages_judged (InEnvelope setting.now session.salts envelope.salt) session (message_in envelope)))

pub taken-same : {S : Type 0} → OwesForItself S → GivesUpForItself S → (setting : Setting S) (envelope : Envelope) (name : Name) (among : Among S)
    → IsAlone name among → takes_by setting envelope (Some among.speaker.session) (state_of among) ≡ state_of (takes_among setting envelope among)
taken-same {S} owed given setting envelope name among alone =
    let session = among.speaker.session in
    let own = name_of session in
    let N : Name → Type 0 = λ name. IsAlone name among in
    let alone_own : IsAlone own among = subst N (sym alone.named) alone in
    let open_so = opens setting (later_of setting envelope session) (judged_of setting envelope session) in
    let opened : IsAlone own (speaks_among open_so among) =
    opened-alone setting own (later_of setting envelope session) (judged_of setting envelope session) among alone_own in
    ap (λ state. fold (settles setting own) state (pairs_of setting envelope session))
    (speaks-last own open_so among alone_own.apart refl opened.named)
    ∙ all_settled-same owed given setting own (pairs_of setting envelope session) (speaks_among open_so among) opened

pub taken-alone : {S : Type 0} → OwesForItself S → GivesUpForItself S → (setting : Setting S) (envelope : Envelope) (name : Name) (among : Among S)
    → IsAlone name among → IsAlone name (takes_among setting envelope among)
taken-alone {S} owed given setting envelope name among alone =
    let session = among.speaker.session in
    let open_so = opens setting (later_of setting envelope session) (judged_of setting envelope session) in
    all_settled-alone owed given setting name (pairs_of setting envelope session) (speaks_among open_so among)
    (opened-alone setting name (later_of setting envelope session) (judged_of setting envelope session) among alone)

-- ---- it is heard

pub heard_by-same : {S : Type 0} (setting : Setting S) (envelope : Envelope) (found : Option Session) (state : State S)
    → hears_by setting envelope found state ≡ state_of (heard_by setting envelope found state)
heard_by-same setting envelope None state = refl
heard_by-same setting envelope (Some session) state = refl

abbrev pub Unfailed : Queue → Type 0
Unfailed jobs = All (λ one. one.failed ≡ false) jobs

unfailed-own : (name : Name) (jobs : Queue) → Unfailed jobs → AreOwnFailures name jobs
unfailed-own name jobs all =
    All-weaker (λ one. one.failed ≡ false) (IsOwn name) (λ one not_so failed. absurd (false≢true (sym not_so ∙ failed))) jobs all

-- as an event begins, where none of the sessions has this name
record IsFree (S : Type 0) (name : Name) (state : State S) : Type 0 where
  pub apart : AreApart name state.sessions
  pub room : All HasRoom state.sessions
  pub unfailed : Unfailed state.jobs
  pub owed : All (IsOwed name) state.owed

free-first : {S : Type 0} (name : Name) (sessions : List Session) (state : State S) → IsFree S name state → IsFree S name (without_first_session sessions state)
free-first name [] state is = is
free-first name (session ∷ sessions) state is =
    let other = name_of session in
    record {
      apart = All-filter (λ session. not (is_named other session)) (other_name name) state.sessions is.apart;
      room = All-filter (λ session. not (is_named other session)) HasRoom state.sessions is.room;
      unfailed = All-filter (λ one. not (is_of other.key other.session one)) (λ one. one.failed ≡ false) state.jobs is.unfailed;
      owed = is.owed;
    }

pub heard_by-alone : {S : Type 0} (setting : Setting S) (envelope : Envelope) (server : Server) (draw : S) (found : Option Session)
    → session_named (name_in envelope) server.sessions ≡ found → All HasRoom server.sessions → Unfailed server.jobs
    → IsAlone (name_in envelope) (heard_by setting envelope found (begun server draw))
heard_by-alone {S} setting envelope server draw (Some session) is room unfailed =
    let name = name_in envelope in
    let named_so = found-named name server.sessions session is in
    let N : Name → Type 0 = λ name. AreApart name (without_session (name_of session) server.sessions) in
    record {
      named = named_so;
      apart = subst N named_so (without-apart (name_of session) server.sessions);
      room = All-filter (λ other. not (is_named (name_of session) other)) HasRoom server.sessions room;
      own = unfailed-own name server.jobs unfailed;
      owed = All-nil (IsOwed name);
    }
heard_by-alone {S} setting envelope server draw None is room unfailed =
    let name = name_in envelope in
    let state : State S = begun server draw in
    let free : IsFree S name state =
    record { apart = none-apart name server.sessions is; room = room; unfailed = unfailed; owed = All-nil (IsOwed name) } in
    let placed : IsFree S name (with_place state) =
    cond_both (nat_lt (length state.sessions) sessions_max) state (without_first_session state.sessions state) (IsFree S name)
    (λ is. free) (λ is. free-first name state.sessions state free) in
    record {
      named = refl;
      apart = placed.apart;
      room = placed.room;
      own = unfailed-own name (with_place state).jobs placed.unfailed;
      owed = placed.owed;
    }

-- ---- the end

pub sent-same : {S : Type 0} (setting : Setting S) (name : Name) (among : Among S) → IsAlone name among
    → all_sent setting (state_of among) ≡ state_of (speaks_among (says_its_own setting) among)
sent-same {S} setting name among alone =
    let speaker = among.speaker in
    let N : Name → Type 0 = λ name. All (IsOwed name) speaker.owed in
    ap (all_sent setting) (sym (as-spoken name among speaker alone.apart alone.named alone.named))
    ∙ (one-sends setting (state_of among) speaker speaker.session (own-found name among alone) (subst N (sym alone.named) alone.owed)
    ∙ as-spoken name among (says_its_own setting speaker) alone.apart alone.named (own-name setting speaker ∙ alone.named))

lost-last : {S : Type 0} (among : Among S) (so : Bool) → AreApart (name_of among.speaker.session) among.others
    → fold (λ so_far session. lost (name_of session) so_far) (state_of among) (cond so (among.speaker.session ∷ []) []) ≡ left_where so among
lost-last {S} among true apart =
    ap (λ (sessions : List Session). record (left_where true among) { sessions = sessions })
    (last-lost (name_of among.speaker.session) among.others among.speaker.session apart refl)
lost-last among false apart = refl

ended-same : {S : Type 0} (setting : Setting S) (name : Name) (among : Among S) → IsAlone name among
    → ended setting (state_of among) ≡ ended_among setting among
ended-same {S} setting name among alone =
    let done : Among S = speaks_among (says_its_own setting) among in
    let N : Name → Type 0 = λ name. AreApart name among.others in
    let stays : name_of done.speaker.session ≡ name = own-name setting among.speaker ∙ alone.named in
    ap (λ (state : State S). answer_of setting (without_spent state)) (sent-same setting name among alone)
    ∙ (ap (λ (spent : List Session). answer_of setting (fold (λ (so_far : State S) (session : Session). lost (name_of session) so_far) (state_of done) spent))
    (last-spent among.others done.speaker.session alone.room)
    ∙ ap (answer_of setting) (lost-last done (is_spent done.speaker.session) (subst N (sym stays) alone.apart)))

first-unfailed : {S : Type 0} (sessions : List Session) (state : State S) → Unfailed state.jobs → Unfailed (without_first_session sessions state).jobs
first-unfailed [] state all = all
first-unfailed (session ∷ sessions) state all =
    All-filter (λ one. not (is_of session.key session.number one)) (λ one. one.failed ≡ false) state.jobs all

-- what is heard, among the others
pub takes-same : {S : Type 0} → OwesForItself S → GivesUpForItself S → (setting : Setting S) (envelope : Envelope) (server : Server) (draw : S)
    → All HasRoom server.sessions → Unfailed server.jobs
    → takes setting envelope (begun server draw) ≡ state_of (takes_among setting envelope (heard_among setting envelope (begun server draw)))
takes-same {S} owed given setting envelope server draw room unfailed =
    let name = name_in envelope in
    let state : State S = begun server draw in
    let heard : Among S = heard_among setting envelope state in
    let alone : IsAlone name heard = heard_by-alone setting envelope server draw (session_named name server.sessions) refl room unfailed in
    ap (λ (heard : State S). takes_by setting envelope (session_named name heard.sessions) heard)
    (heard_by-same setting envelope (session_named name server.sessions) state)
    ∙ (ap (λ (found : Option Session). takes_by setting envelope found (state_of heard))
    (last-found name heard.others heard.speaker.session alone.apart alone.named)
    ∙ taken-same owed given setting envelope name heard alone)

-- no job has failed as it is heard
pub heard-unfailed : {S : Type 0} (setting : Setting S) (envelope : Envelope) (server : Server) (draw : S) (found : Option Session) → Unfailed server.jobs
    → Unfailed (heard_by setting envelope found (begun server draw)).speaker.jobs
heard-unfailed setting envelope server draw (Some session) unfailed = unfailed
heard-unfailed {S} setting envelope server draw None unfailed =
    let state : State S = begun server draw in
    cond_both (nat_lt (length state.sessions) sessions_max) state (without_first_session state.sessions state) (λ (placed : State S). Unfailed placed.jobs)
    (λ is. unfailed) (λ is. first-unfailed state.sessions state unfailed)

pub packet-same : {S : Type 0} → OwesForItself S → GivesUpForItself S → (setting : Setting S) (envelope : Envelope) (server : Server) (draw : S)
    → All HasRoom server.sessions → Unfailed server.jobs → after_packet setting envelope server draw ≡ packet_among setting envelope server draw
packet-same {S} owed given setting envelope server draw room unfailed =
    let name = name_in envelope in
    let state : State S = begun server draw in
    let heard : Among S = heard_among setting envelope state in
    let alone : IsAlone name heard = heard_by-alone setting envelope server draw (session_named name server.sessions) refl room unfailed in
    ap (λ (heard : State S). ended setting (takes_by setting envelope (session_named name heard.sessions) heard))
    (heard_by-same setting envelope (session_named name server.sessions) state)
    ∙ (ap (λ (found : Option Session). ended setting (takes_by setting envelope found (state_of heard)))
    (last-found name heard.others heard.speaker.session alone.apart alone.named)
    ∙ (ap (ended setting) (taken-same owed given setting envelope name heard alone)
    ∙ ended-same setting name (takes_among setting envelope heard) (taken-alone owed given setting envelope name heard alone)))
