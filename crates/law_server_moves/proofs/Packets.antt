-- A packet's messages are judged.
use Rattle.std.proofs.Common.{◌≡◌, ◌≢◌, ℕ, ◌≤◌, ◌<◌, ◌==◌, ◌&&◌, ◌||◌, Bool, true, false, List, [], ◌∷◌, ◌++◌, map, fold, Option, None, Some, Result, Ok, Err, if◌then◌else◌, inl, inr, refl, sym, ap, subst, ◌∙◌, arith, eq-eqb, ne_eqb}
use Rattle.std.specs.Prelude.{nat_le}
use Rattle.std.specs.List.{All, AllByRecursion, Contains, cons_option, filter_map, list_any, zip}
use Rattle.std.specs.Option.{option_or}
use Rattle.std.proofs.lemmas.Bool.{cases_Bool, cases_eq}
use Rattle.std.proofs.lemmas.Bool.Decides.{nat_tests}
use Rattle.std.proofs.lemmas.List.Elements.{All-contains, Contains-append_cases}
use Rattle.salt_line.specs.Rows.{Row}
use Rattle.salt_line.specs.Line.{Line}
use Rattle.service_tl.specs.declared.lists.Message.{Message}
use Rattle.service_tl.specs.declared.item.Item.{Item}
use Rattle.id_window.specs.declared.mark.Mark.{Mark}
use Rattle.id_window.specs.Marks.{Marks, mark_of}
use Rattle.id_window.specs.History.{FirstJudgement, History, Outcome, Refused, AcceptedContainer, AcceptedCall, AcceptedOther, EachOnce, floor, found, is_kept, noted, was_accepted}
use Rattle.containers.specs.declared.fault.ContainerFault.{ContainerFault}
use Rattle.inbox.specs.Verdicts.{Verdict, Accepted, Again, Noticed}
use Rattle.inbox.specs.Kinds.{begins_acknowledgement, begins_call, container_in, item_told, kind_among, kind_of}
use Rattle.service_tl.specs.Results.{constructor_of}
use Rattle.inbox.specs.Refusals.{Way, InContainer, InEnvelope, by_envelope, by_number, is_row_of, is_valid_salt, refusal}
use Rattle.inbox.specs.Judging.{Session as Remembered, first_mark, inner_judgements, inner_session, is_container, is_recorded, is_uncontained, judge, judged_session, judgements, outcome_of, recorded, remembered as remembers, session_after, unfolded, verdict_by}
use Rattle.waits.specs.Jobs.{Queue}
use Rattle.server_rules.specs.Server.{Reply, Session, is_named, mark_after, marks_of, name_of, remembered, with_session}
use Rattle.server_rules.specs.Answer.{messages_judged}
use Rattle.law_server.specs.Lives.{Acceptance, acceptance_by, acceptance_of, request_of}
use Rattle.law_moves.specs.Table as moves
use Rattle.law_moves.specs.World.{World, IsAccepted}
use Rattle.law_moves.specs.Lawful.{MayDecide}
use Rattle.law_moves.specs.Move.{Move}
use Rattle.law_moves.specs.Reached.{AreLawful, Reached, after_all}
use Rattle.law_client.specs.Sent.{WasSent}
use Rattle.law_server_moves.specs.Leading.{Leads}
use Rattle.law_server_moves.specs.Servers.{AsksThere, HasSalt, IsAcceptedThere, IsStanding, IsSuch, IsUp, Past, ServerStands, WasJudged, with_history}
use Rattle.law_server_moves.proofs.Lists.{each_of, first_or, here, later, map_all}
use Rattle.law_server_moves.proofs.Leading.{GoOn, goes_on, stays}
use Rattle.law_server_moves.proofs.Judging.{judges}
use Rattle.law_server_moves.proofs.Others.{empty_has}
use Rattle.law_server_moves.proofs.One.{put, put_itself, with_itself}
use Rattle.law_server_moves.proofs.Losing.{eq_true}
use Rattle.law_server_moves.proofs.Speaking.{salt_of}

-- ---- marks

mark_more_from : (number : ℕ) (last : Option Mark) (marks : Marks) (n : ℕ) (mark : Mark)
    → fold (λ last given. if given.0 == number then Some given.1 else last) last (marks ++ (n, mark) ∷ [])
    ≡ (if n == number then Some mark else fold (λ last given. if given.0 == number then Some given.1 else last) last marks)
mark_more_from number last [] n mark = refl
mark_more_from number last (first ∷ marks) n mark = mark_more_from number (if first.0 == number then Some first.1 else last) marks n mark

-- each number that was judged has a mark
abbrev pub HasMarks : Remembered → Type 0
HasMarks r = (number : ℕ) → WasJudged number r.history → mark_of number r.marks ≢ None

some_is_not_none : (mark : Mark) → Some mark ≡ None → ⊥
some_is_not_none mark is = cc

-- a session's marks are such
pub marked : ((history : History) (replies : List Reply) (judgement : FirstJudgement) → EachOnce history → Contains history judgement
    → mark_of judgement.number (marks_of history replies) ≡ Some (mark_after replies judgement.number judgement.outcome))
    → (x : Session) → EachOnce x.history → HasMarks (remembered x)
marked marks x once number was none =
    some_is_not_none (mark_after x.replies was.0.number was.0.outcome)
    (sym (marks x.history x.replies was.0 once was.1) ∙ ap (λ (n : ℕ). mark_of n (marks_of x.history x.replies)) was.2 ∙ none)

none_there : (j : FirstJudgement) → Contains [] j → ⊥
none_there j h = let below : h.0 < 0 = h.1 in omega (arith, below)

marks_more : (r : Remembered) (number seq : ℕ) (outcome : Outcome) → HasMarks r → HasMarks (remembers number seq (Some outcome) r)
marks_more r number seq outcome h n was none =
    let more : (if number == n then Some (first_mark outcome) else mark_of n r.marks) ≡ None = sym (mark_more_from n None r.marks number (first_mark outcome)) ∙ none in
    elim (cases_eq number n) [
      | inl same ↦ some_is_not_none (first_mark outcome) (subst (λ (b : Bool). (if b then Some (first_mark outcome) else mark_of n r.marks) ≡ None) (eq-eqb number n same) more)
      | inr differs ↦
          elim (Contains-append_cases r.history (record { number = number; seq = seq; outcome = outcome } ∷ []) was.0 was.1) [
            | inl old ↦ h n (was.0, old, was.2) (subst (λ (b : Bool). (if b then Some (first_mark outcome) else mark_of n r.marks) ≡ None) (ne_eqb number n differs) more)
            | inr new ↦
                elim (first_or was.0 (record { number = number; seq = seq; outcome = outcome }) [] new) [
                  | inl is ↦ absurd (differs (ap (λ (j : FirstJudgement). j.number) is ∙ was.2))
                  | inr none_left ↦ absurd (none_there was.0 none_left)
                ]
          ]
    ]

-- ---- what gets an outcome

none_is_not_some : (outcome : Outcome) → None ≡ Some outcome → ⊥
none_is_not_some outcome is = cc

again_none : (b : Bool) (message : Message) (mark : Mark) (outcome : Outcome) → recorded (kind_of message) (if b then Noticed 19 else Again mark) ≡ Some outcome → ⊥
again_none true message mark outcome is = none_is_not_some outcome is
again_none false message mark outcome is = none_is_not_some outcome is

unforgotten : (code : ℕ) (outcome : Outcome) → (if is_recorded code then Some (Refused code) else None) ≡ Some outcome → code ≢ 20
unforgotten code outcome is same = none_is_not_some outcome (subst (λ (c : ℕ). (if is_recorded c then Some (Refused c) else None) ≡ Some outcome) same is)

none_is_some : (n : ℕ) → None ≡ Some n → ⊥
none_is_some n e = cc

abbrev or_zero : Option ℕ → ℕ
or_zero None = 0
or_zero (Some n) = n

-- it has no mark, and isn't refused by 20
new_one : (mark : Option Mark) (code : Option ℕ) (message : Message) (item : Item) (outcome : Outcome) → recorded (kind_of message) (verdict_by mark code (kind_of message) item) ≡ Some outcome
    → (mark ≡ None) × (code ≢ Some 20)
new_one (Some mark) code message item outcome is = absurd (again_none (is_container (kind_of message) && is_uncontained mark) message mark outcome is)
new_one None None message item outcome is = (refl, λ same. none_is_some 20 same)
new_one None (Some code) message item outcome is = (refl, λ same. unforgotten code outcome is (ap (λ (o : Option ℕ). or_zero o) same))

le_test : (a b : ℕ) → a ≤ b → nat_le a b ≡ true
le_test a b h = grind (arith, nat_tests)

low_refused : (way : Way) (history : History) (message : Message) → message.number ≤ floor history → refusal way history message ≡ Some 20
low_refused way history message low = rw (le_test message.number (floor history) low) refl

-- ---- which outcome it gets there

accepted_among : (parts : Option (Result (List Message) ContainerFault)) (body : List ℕ) → was_accepted (outcome_of (kind_among parts body)) ≡ true
accepted_among (Some (Ok messages)) body = refl
accepted_among (Some (Err fault)) body = refl
accepted_among None body =
    elim (cases_Bool (begins_acknowledgement (constructor_of body))) [
      | inl is ↦ rw is refl
      | inr fails ↦ elim (cases_Bool (begins_call (constructor_of body))) [ inl is ↦ rw (fails, is) refl | inr not_call ↦ rw (fails, not_call) refl ]
    ]

such_accepted : (outcome : Outcome) → was_accepted outcome ≡ true → (decided : moves.Outcome) → IsAccepted decided → IsSuch outcome decided
such_accepted (Refused code) is decided h = absurd (cc)
such_accepted AcceptedContainer is decided h = h
such_accepted AcceptedCall is decided h = h
such_accepted AcceptedOther is decided h = h

such_of : (message : Message) (decided : moves.Outcome) → IsAccepted decided → IsSuch (outcome_of (kind_of message)) decided
such_of message decided h = such_accepted (outcome_of (kind_of message)) (accepted_among (container_in message.number message.body) message.body) decided h

-- an outcome there that is as this one, and that a message may have
pub record Decided (server : moves.ServerSession) (m : moves.Message) (outcome : Outcome) : Type 0 where
  pub decided : moves.Outcome
  pub such : IsSuch outcome decided
  pub may : MayDecide server m decided
  pub called : (body : moves.Text) → was_accepted outcome ≡ true → m.call ≡ Some body → decided ≡ moves.Outcome.AcceptedCall body

abbrev or_body : Option moves.Text → moves.Text → moves.Text
or_body None other = other
or_body (Some body) other = body

none_is_no_body : (body : moves.Text) → None ≡ Some body → ⊥
none_is_no_body body is = cc

by_call : (server : moves.ServerSession) (m : moves.Message) (message : Message) (call : Option moves.Text) → m.call ≡ call → Contains server.salts m.salt → Decided server m (outcome_of (kind_of message))
by_call server m message None is salted = record {
  decided = moves.Outcome.AcceptedOther;
  such = such_of message moves.Outcome.AcceptedOther tt;
  may = salted;
  called = λ body accepted also. absurd (none_is_no_body body (sym is ∙ also));
}
by_call server m message (Some body) is salted = record {
  decided = moves.Outcome.AcceptedCall body;
  such = such_of message (moves.Outcome.AcceptedCall body) tt;
  may = (is, salted);
  called = λ other accepted also. ap (λ (o : Option moves.Text). moves.Outcome.AcceptedCall (or_body o body)) (sym is ∙ also);
}

abbrev or_outcome : Option Outcome → Outcome → Outcome
or_outcome None other = other
or_outcome (Some outcome) other = outcome

refused_accepted : (code : ℕ) → was_accepted (Refused code) ≡ true → ⊥
refused_accepted code is = cc

noticed_so : (server : moves.ServerSession) (m : moves.Message) (code : ℕ) (recorded_so : Bool) (outcome : Outcome) → (recorded_so ≡ true → code ≢ 20)
    → (if recorded_so then Some (Refused code) else None) ≡ Some outcome → Decided server m outcome
noticed_so server m code true outcome differs is =
    let same : Refused code ≡ outcome = ap (λ (o : Option Outcome). or_outcome o outcome) is in
    record {
      decided = moves.Outcome.Noticed code;
      such = subst (λ (o : Outcome). IsSuch o (moves.Outcome.Noticed code)) same refl;
      may = differs refl;
      called = λ body accepted also. absurd (refused_accepted code (subst (λ (o : Outcome). was_accepted o ≡ true) (sym same) accepted));
    }
noticed_so server m code false outcome differs is = absurd (none_is_not_some outcome is)

recorded_differs : (code : ℕ) → is_recorded code ≡ true → code ≢ 20
recorded_differs code is same = let e : is_recorded 20 ≡ true = subst (λ (c : ℕ). is_recorded c ≡ true) same is in absurd (cc)

decides : (server : moves.ServerSession) (m : moves.Message) (message : Message) (verdict : Verdict) (outcome : Outcome) → recorded (kind_of message) verdict ≡ Some outcome
    → ((item : Item) → verdict ≡ Accepted item → Contains server.salts m.salt) → Decided server m outcome
decides server m message (Again mark) outcome is salted = absurd (none_is_not_some outcome is)
decides server m message (Noticed code) outcome is salted = noticed_so server m code (is_recorded code) outcome (recorded_differs code) is
decides server m message (Accepted item) outcome is salted =
    subst (λ (o : Outcome). Decided server m o) (ap (λ (o : Option Outcome). or_outcome o outcome) is) (by_call server m message m.call refl (salted item refl))

again_accepted : (b : Bool) (mark : Mark) (told : Item) → (if b then Noticed 19 else Again mark) ≡ Accepted told → ⊥
again_accepted true mark told is = cc
again_accepted false mark told is = cc

noticed_accepted : (code : ℕ) (told : Item) → Noticed code ≡ Accepted told → ⊥
noticed_accepted code told is = cc

abbrev item_in : Verdict → Item → Item
item_in (Accepted item) other = item
item_in (Again mark) other = other
item_in (Noticed code) other = other

-- ---- what was accepted

item_same : (mark : Option Mark) (code : Option ℕ) (message : Message) (item told : Item) → verdict_by mark code (kind_of message) item ≡ Accepted told → item ≡ told
item_same (Some mark) code message item told is = absurd (again_accepted (is_container (kind_of message) && is_uncontained mark) mark told is)
item_same None None message item told is = ap (λ (v : Verdict). item_in v item) is
item_same None (Some code) message item told is = absurd (noticed_accepted code told is)

one_fact : (w : World) (x : Session) (message : Message) (verdict : Verdict)
    → ((item : Item) → verdict ≡ Accepted item → AsksThere w x message.number (request_of item message.body))
    → AllByRecursion (IsAcceptedThere w x) (cons_option (acceptance_by message.number verdict message.body) [])
one_fact w x message (Accepted item) h = (h item refl, tt)
one_fact w x message (Again mark) h = tt
one_fact w x message (Noticed code) h = tt

fact_and : {X : Type 0} (P : X → Type 0) (one : Option X) (rest : List X) → AllByRecursion P (cons_option one []) → AllByRecursion P rest → AllByRecursion P (cons_option one rest)
fact_and P None rest h k = k
fact_and P (Some x) rest h k = (h.0, k)

asks_now : (w : World) (x : Session) (salt number : ℕ) (request : Option (List ℕ)) → WasSent w.ups x.number salt number request
    → ((body : List ℕ) → request ≡ Some body → Contains (w.servers x.unique).judged (record { number = number; outcome = moves.Outcome.AcceptedCall body }))
    → AsksThere w x number request
asks_now w x salt number None sent called = (sent.up, sent.there, sent.under, sent.numbered, sent.is)
asks_now w x salt number (Some body) sent called = called body refl

-- what the law on moves promises of messages and judgements: none is taken away
pub record Lasts : Type 0 where
  pub messages : (w : World) (list : List Move) → AreLawful w list → (message : moves.Message) → Contains w.ups message → Contains (after_all w list).ups message
  pub judged : (w : World) (list : List Move) → AreLawful w list → (unique : ℕ) (judged : moves.Judged) → Contains (w.servers unique).judged judged
      → Contains ((after_all w list).servers unique).judged judged

asks_last : Lasts → (w : World) (list : List Move) → AreLawful w list → (x : Session) (number : ℕ) (request : Option (List ℕ)) → AsksThere w x number request
    → AsksThere (after_all w list) x number request
asks_last lasts w list lawful x number None h = (h.0, lasts.messages w list lawful h.0 h.1, h.2, h.3, h.4)
asks_last lasts w list lawful x number (Some request) h = lasts.judged w list lawful x.unique (record { number = number; outcome = moves.Outcome.AcceptedCall request }) h

all_last : Lasts → (w : World) (list : List Move) → AreLawful w list → (x : Session) (ones : List Acceptance) → AllByRecursion (IsAcceptedThere w x) ones
    → AllByRecursion (IsAcceptedThere (after_all w list) x) ones
all_last lasts w list lawful x ones h =
    map_all (IsAcceptedThere w x) (IsAcceptedThere (after_all w list) x) ones (λ one is a. asks_last lasts w list lawful x one.number (request_of one.item one.body) a) h

-- ---- sessions with a longer history

pub with_among : (sessions : List Session) (x new : Session) → new.key ≡ x.key → new.number ≡ x.number → Contains sessions x → Contains (with_session new sessions) new
with_among [] x new key number h = absurd (empty_has x h)
with_among (first ∷ sessions) x new key number h =
    elim (first_or x first sessions h) [
      | inl same ↦
          subst (λ (z : Session). Contains (z ∷ with_session new sessions) new)
          (sym (put_itself new first (key ∙ ap (λ (z : Session). z.key) (sym same)) (number ∙ ap (λ (z : Session). z.number) (sym same))))
          (here new (with_session new sessions))
      | inr other ↦ later new (put new first) (with_session new sessions) (with_among sessions x new key number other)
    ]

put_twice : (one two o : Session) → two.key ≡ one.key → two.number ≡ one.number → put two (put one o) ≡ put two o
put_twice one two o key number =
    elim (cases_Bool (is_named (name_of one) o)) [
      | inl is ↦
          rw (is, eq-eqb two.key one.key key, eq-eqb two.number one.number number)
          (sym (rw (subst (λ (k : ℕ). ((k == o.key) && (two.number == o.number)) ≡ true) (sym key) (subst (λ (n : ℕ). ((one.key == o.key) && (n == o.number)) ≡ true) (sym number) is)) refl))
      | inr not ↦ rw not refl
    ]

pub with_twice : (sessions : List Session) (one two : Session) → two.key ≡ one.key → two.number ≡ one.number → with_session two (with_session one sessions) ≡ with_session two sessions
with_twice [] one two key number = refl
with_twice (o ∷ sessions) one two key number =
    ap (λ (z : Session). z ∷ with_session two (with_session one sessions)) (put_twice one two o key number)
    ∙ ap (λ (l : List Session). put two o ∷ l) (with_twice sessions one two key number)

-- ---- the salt of an envelope that is accepted

first_fails : (a b rest : Bool) → a ≡ false → ((a && b) || rest) ≡ true → rest ≡ true
first_fails true b rest fails is = absurd (cc)
first_fails false b rest fails is = is

verdict_none : (mark : Option Mark) (code : Option ℕ) (message : Message) (item told : Item) → verdict_by mark code (kind_of message) item ≡ Accepted told → code ≡ None
verdict_none (Some mark) code message item told is = absurd (again_accepted (is_container (kind_of message) && is_uncontained mark) mark told is)
verdict_none None None message item told is = refl
verdict_none None (Some code) message item told is = absurd (noticed_accepted code told is)

or_none : {X : Type 0} (a b : Option X) → option_or a b ≡ None → (a ≡ None) × (b ≡ None)
or_none None b is = (refl, is)
or_none (Some x) b is = absurd (cc)

valid_by : (old ahead valid : Bool) (a b c : ℕ) → (if old then Some a else if ahead then Some b else if valid then None else Some c) ≡ None → valid ≡ true
valid_by true ahead valid a b c is = absurd (cc)
valid_by false true valid a b c is = absurd (cc)
valid_by false false true a b c is = refl
valid_by false false false a b c is = absurd (cc)

any_row : (start now salt : ℕ) (rows : List Row) → list_any (is_row_of start now salt) rows ≡ true → (row : Row) × Contains rows row × (row.word ≡ salt)
any_row start now salt [] is = absurd (cc)
any_row start now salt (row ∷ rows) is =
    elim (cases_Bool (row.word == salt)) [
      | inl same ↦ (row, here row rows, eq_true row.word salt same)
      | inr differs ↦
          let rest = any_row start now salt rows (first_fails (row.word == salt) _ (list_any (is_row_of start now salt) rows) differs is) in
          (rest.0, later rest.0 row rows rest.1, rest.2)
    ]

nonzero_any : (zero_salt any : Bool) → (if zero_salt then false else any) ≡ true → any ≡ true
nonzero_any true any is = absurd (cc)
nonzero_any false any is = is

salt_accepted : (now salt : ℕ) (line : Line) (r : Remembered) (message : Message) (item : Item) → judge (InEnvelope now line salt) r message ≡ Accepted item
    → (row : Row) × Contains line.rows row × (row.word ≡ salt)
salt_accepted now salt line r message item is =
    let unrefused = verdict_none (found message.number r.history r.marks) (refusal (InEnvelope now line salt) r.history message) message (item_told message.body) item is in
    let rest = or_none (by_number (floor r.history) message.number) _ unrefused in
    let envelope = or_none (by_envelope (InEnvelope now line salt) message.number) _ rest.1 in
    any_row line.start now salt line.rows
    (nonzero_any (salt == 0) (list_any (is_row_of line.start now salt) line.rows) (valid_by _ _ (is_valid_salt line now salt) 16 17 48 envelope.0))

module _ (low : (history : History) → All (λ (j : FirstJudgement). is_kept j.number history ≡ false → j.number ≤ floor history) history) where
  unjudged : (way : Way) (r : Remembered) (message : Message) (outcome : Outcome) → HasMarks r → recorded (kind_of message) (judge way r message) ≡ Some outcome
      → WasJudged message.number r.history → ⊥
  unjudged way r message outcome marks is was =
      let new = new_one (found message.number r.history r.marks) (refusal way r.history message) message (item_told message.body) outcome is in
      elim (cases_Bool (is_kept message.number r.history)) [
        | inl kept ↦ marks message.number was (subst (λ (b : Bool). (if b then mark_of message.number r.marks else None) ≡ None) kept new.0)
        | inr other ↦ new.1 (low_refused way r.history message (subst (λ (n : ℕ). n ≤ floor r.history) was.2 (All-contains (λ (j : FirstJudgement). is_kept j.number r.history ≡ false → j.number ≤ floor r.history) r.history was.0 (low r.history) was.1 (subst (λ (n : ℕ). is_kept n r.history ≡ false) (sym was.2) other))))
      ]

  module _ (rises : (history later : History) → floor history ≤ floor (history ++ later)) (on : GoOn) (lasts : Lasts)
      (past : Past) (sessions : List Session) (jobs : Queue) (x : Session) (among : Contains sessions x) (salt : ℕ) where
    abbrev pub At : Remembered → World → Type 0
    At r later = ServerStands later past (with_session (with_history r.history x) sessions) jobs

    -- with what was accepted
    abbrev pub AtWith : Remembered → List Acceptance → World → Type 0
    AtWith r ones later = At r later × AllByRecursion (IsAcceptedThere later x) ones

    abbrev one_of : Way → Remembered → Message → List Acceptance
    one_of way r message = cons_option (acceptance_by message.number (judge way r message) message.body) []

    up_more : (w : World) (list : List Move) → AreLawful w list → (message : Message) → IsUp w.ups x.number salt message → IsUp (after_all w list).ups x.number salt message
    up_more w list lawful message h =
        (h.0, record { up = h.1.up; there = lasts.messages w list lawful h.1.up h.1.there; under = h.1.under; salted = h.1.salted; numbered = h.1.numbered; is = h.1.is })

    recorded_accepted : (message : Message) (verdict : Verdict) (item : Item) → verdict ≡ Accepted item → (rec : Option Outcome) → recorded (kind_of message) verdict ≡ rec
        → rec ≡ Some (outcome_of (kind_of message))
    recorded_accepted message verdict item is rec rec_is = sym rec_is ∙ ap (λ (v : Verdict). recorded (kind_of message) v) is

    step_by : (way : Way) (r : Remembered) (message : Message) (rec : Option Outcome) → recorded (kind_of message) (judge way r message) ≡ rec → HasMarks r
        → ((item : Item) → judge way r message ≡ Accepted item → HasSalt x salt) → (w : World) → At r w → IsUp w.ups x.number salt message
        → Leads w (AtWith (remembers message.number message.seq rec r) (one_of way r message))
    step_by way r message None is marks salted w s up =
        stays w (AtWith r (one_of way r message)) (
          s,
          one_fact w x message (judge way r message)
              (λ item accepted. absurd (none_is_not_some (outcome_of (kind_of message)) (recorded_accepted message (judge way r message) item accepted None is))),
        )
    step_by way r message (Some outcome) is marks salted w s up =
        let now : Session = with_history r.history x in
        let its : Contains (with_session now sessions) now = with_among sessions x now refl refl among in
        let stands : IsStanding w now = each_of (IsStanding w) (with_session now sessions) s.standing now its in
        let decision = decides (w.servers x.unique) up.1.up message (judge way r message) outcome is
        (λ item accepted. subst (λ (n : ℕ). Contains (w.servers x.unique).salts n) (sym up.1.salted) (salt_of w now stands salt (salted item accepted))) in
        let l = judges w past (with_session now sessions) jobs s now its rises message.number message.seq outcome up.1.up decision.decided up.1.there up.1.under up.1.numbered
        (unjudged way r message outcome marks is) decision.such decision.may in
        record {
          moves = l.moves;
          lawful = l.lawful;
          own = l.own;
          gives = (
            subst (λ (list : List Session). ServerStands (after_all w l.moves) past list jobs)
                (with_twice sessions now (with_history (noted message.number message.seq outcome r.history) x) refl refl) l.gives.0,
            one_fact (after_all w l.moves) x message (judge way r message)
                (λ item accepted.
                let same : item_told message.body ≡ item =
                item_same (found message.number r.history r.marks) (refusal way r.history message) message (item_told message.body) item accepted in
                let was : was_accepted outcome ≡ true =
                subst (λ (o : Outcome). was_accepted o ≡ true)
                (ap (λ (o : Option Outcome). or_outcome o outcome) (sym (recorded_accepted message (judge way r message) item accepted (Some outcome) is)))
                (accepted_among (container_in message.number message.body) message.body) in
                subst (λ (i : Item). AsksThere (after_all w l.moves) x message.number (request_of i message.body)) same
                (asks_now (after_all w l.moves) x salt message.number (request_of (item_told message.body) message.body) (up_more w l.moves l.lawful message up).1
                (λ body asked. subst (λ (o : moves.Outcome). Contains ((after_all w l.moves).servers x.unique).judged (record { number = message.number; outcome = o }))
                (decision.called body was (up.1.is ∙ asked)) l.gives.1))),
          );
        }

    step_marks : (r : Remembered) (number seq : ℕ) (rec : Option Outcome) → HasMarks r → HasMarks (remembers number seq rec r)
    step_marks r number seq None h = h
    step_marks r number seq (Some outcome) h = marks_more r number seq outcome h

    -- and then those of a list
    abbrev ones_of : Remembered → List Message → List Acceptance
    ones_of r messages = filter_map acceptance_of (zip (inner_judgements r messages) (map (λ (one : Message). one.body) messages))

    then_those : (w : World) (r then_ : Remembered) (ones rest : List Acceptance) (all : List Acceptance) (messages : List Message) → Reached w
        → ((later : World) → AllByRecursion (IsAcceptedThere later x) ones → AllByRecursion (IsAcceptedThere later x) rest → AllByRecursion (IsAcceptedThere later x) all)
        → AllByRecursion (IsUp w.ups x.number salt) messages → Leads w (AtWith r ones)
        → ((later : World) → Reached later → At r later → AllByRecursion (IsUp later.ups x.number salt) messages → Leads later (AtWith then_ rest))
        → Leads w (AtWith then_ all)
    then_those w r then_ ones rest all messages reached joined ups first next =
        goes_on on w
        (λ later. AtWith r ones later × AllByRecursion (IsUp later.ups x.number salt) messages) (AtWith then_ all) reached
        (record {
          moves = first.moves;
          lawful = first.lawful;
          own = first.own;
          gives = (
            first.gives,
            map_all (IsUp w.ups x.number salt) (IsUp (after_all w first.moves).ups x.number salt) messages (λ m is h. up_more w first.moves first.lawful m h) ups,
          );
        })
        (λ later reached h.
        let l = next later reached h.0.0 h.1 in
        record {
          moves = l.moves;
          lawful = l.lawful;
          own = l.own;
          gives = (l.gives.0, joined (after_all later l.moves) (all_last lasts later l.moves l.lawful x ones h.0.1) l.gives.1);
        })

    pub inside : (r : Remembered) (messages : List Message) → HasMarks r → HasSalt x salt → (w : World) → Reached w → At r w
        → AllByRecursion (IsUp w.ups x.number salt) messages → Leads w (AtWith (inner_session r messages) (ones_of r messages))
    inside r [] marks salted w reached s ups = stays w (AtWith r []) (s, tt)
    inside r (message ∷ messages) marks salted w reached s ups =
        let then_ : Remembered = judged_session InContainer r message in
        then_those w then_ (inner_session then_ messages) (one_of InContainer r message) (ones_of then_ messages) (ones_of r (message ∷ messages)) messages reached
        (λ later one rest. fact_and (IsAcceptedThere later x) (acceptance_by message.number (judge InContainer r message) message.body) (ones_of then_ messages) one rest) ups.1
        (step_by InContainer r message (recorded (kind_of message) (judge InContainer r message)) refl marks (λ item is. salted) w s ups.0)
        (λ later reached h more. inside then_ messages (step_marks r message.number message.seq (recorded (kind_of message) (judge InContainer r message)) marks) salted later reached h more)

    -- ---- the whole packet

    rest_by : (way : Way) (r : Remembered) (message : Message) (verdict : Verdict) → judge way r message ≡ verdict → HasMarks (judged_session way r message)
        → ((item : Item) → judge way r message ≡ Accepted item → HasSalt x salt) → (w : World) → Reached w → At (judged_session way r message) w
        → AllByRecursion (IsUp w.ups x.number salt) (unfolded verdict message)
        → Leads w (AtWith (inner_session (judged_session way r message) (unfolded verdict message)) (ones_of (judged_session way r message) (unfolded verdict message)))
    rest_by way r message (Accepted item) is marks salted w reached s ups =
        inside (judged_session way r message) (unfolded (Accepted item) message) marks (salted item is) w reached s ups
    rest_by way r message (Again mark) is marks salted w reached s ups = stays w (AtWith (judged_session way r message) []) (s, tt)
    rest_by way r message (Noticed code) is marks salted w reached s ups = stays w (AtWith (judged_session way r message) []) (s, tt)

    -- by salts that are some of the session's
    pub judged_packet : (now : ℕ) (line : Line) (within : AllByRecursion (λ (row : Row). Contains x.salts.rows row) line.rows) (message : Message) (marks : HasMarks (remembered x)) (w : World) → Reached w
        → ServerStands w past sessions jobs
        → AllByRecursion (IsUp w.ups x.number salt) (messages_judged (InEnvelope now line salt) x message)
        → Leads w (AtWith (session_after (InEnvelope now line salt) (remembered x) message)
        (filter_map acceptance_of (zip (judgements (InEnvelope now line salt) (remembered x) message)
        (map (λ (one : Message). one.body) (messages_judged (InEnvelope now line salt) x message)))))
    judged_packet now line within message marks w reached s ups =
        let way : Way = InEnvelope now line salt in
        let r : Remembered = remembered x in
        let verdict : Verdict = judge way r message in
        let rec : Option Outcome = recorded (kind_of message) verdict in
        let salted : (item : Item) → judge way r message ≡ Accepted item → HasSalt x salt = λ item is.
        let row = salt_accepted now salt line r message item is in (row.0, each_of (λ (row : Row). Contains x.salts.rows row) line.rows within row.0 row.1, row.2) in
        let before : At r w = subst (λ (l : List Session). ServerStands w past l jobs) (sym (with_itself sessions s.apart x among)) s in
        let then_ : Remembered = judged_session way r message in
        let inner : List Message = unfolded verdict message in
        then_those w then_ (inner_session then_ inner) (one_of way r message) (ones_of then_ inner)
        (filter_map acceptance_of (zip (judgements way r message) (map (λ (one : Message). one.body) (message ∷ inner)))) inner reached
        (λ later one rest. fact_and (IsAcceptedThere later x) (acceptance_by message.number verdict message.body) (ones_of then_ inner) one rest) ups.1
        (step_by way r message rec refl marks salted w before ups.0)
        (λ later reached h more. rest_by way r message verdict refl (step_marks r message.number message.seq rec marks) salted later reached h more)
