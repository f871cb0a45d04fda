-- Judgements that are settled one after the other.
use Rattle.std.proofs.Common.{◌≡◌, ◌∙◌, ℕ, ◌+◌, ◌*◌, ◌≤◌, Bool, true, List, [], ◌∷◌, drop, get_or, length, map, sym, ap, subst, refl, arith, inl, inr}
use Rattle.std.specs.Prelude.{◌==◌, ◌||◌}
use Rattle.std.specs.List.{sum_by}
use Rattle.std.proofs.lemmas.Bool.{and_parts, eqb-true, false≢true, or_cases, or_left, or_right}
use Rattle.std.proofs.lemmas.List.{length-map}
use Rattle.std.proofs.lemmas.List.Elements.{All-head, All-tail}
use Rattle.std.proofs.lemmas.List.Sums.{sum_by-cons}
use Rattle.id_window.specs.History.{History}
use Rattle.outbox.specs.declared.kept.Kept.{Kept}
use Rattle.inbox.specs.declared.judged.Verdict.{Verdict as BareVerdict}
use Rattle.inbox.specs.declared.judged.Verdict.TheVariants as without
use Rattle.inbox.specs.declared.judged.Judgement.{Judgement as BareJudgement}
use Rattle.inbox.specs.Verdicts.{Verdict, Judgement, bare_judgement}
use Rattle.waits.specs.Jobs.{Queue}
use Rattle.server_rules.specs.Server.{Binding, Name}
use Rattle.server_rules.specs.Event.{Setting}
use Rattle.law_server.specs.Order.{IsSpeaking, IsTold, jobs_of, opens_of}
use Rattle.server_session.specs.declared.session.SessionState.{SessionState}
use Rattle.server_dispatch.specs.declared.action.Action.{Action}
use Rattle.server_dispatch.specs.declared.action.Action.TheVariants.{Notice, CameAgain, Tells, Answers, Destroys, Nothing}
use Rattle.server_dispatch.specs.declared.dues.Due.{Due}
use Rattle.server_dispatch.specs.declared.turn.Turn.{Turn}
use Rattle.server_dispatch.specs.Action.{asked_by, due_by, due_bytes, due_calls, due_of, may_call}
use Rattle.server_dispatch.specs.Spare.{HasSpare, Uses}
use Rattle.server_session.specs.Unsaid.{CallsFor, is_among, is_to}
use Rattle.server_core.specs.Among.{Among, IsAlone, IsInOrder, settles_among}
use Rattle.server_core.specs.Failures.{blocked_of}
use Rattle.server_core.specs.Settling.{IsSettling, SpeaksAmong, settled_among}
use Rattle.server_core.specs.SettlingAll.{AreDue, AreSettling, all_settled, are_numbered, calls_by, calls_of, due_judged, due_most}
use Rattle.server_core.proofs.Uses.{bytes-less, count-less, nothing-used, uses-both}

-- ---- what is kept stands for the session, as far as its judgements are settled

-- what the laws of one session promise

abbrev pub StaysAlone : (S : Type 0) → Type 0
StaysAlone S = (setting : Setting S) (name : Name) (judgement : Judgement) (body : List ℕ) (among : Among S) → IsAlone name among
    → IsAlone name (settles_among setting among (judgement, body))

abbrev pub StaysInOrder : (S : Type 0) → Type 0
StaysInOrder S = (setting : Setting S) (name : Name) (others : Name → Queue) (past : History) (judgement : Judgement) (judged : List Judgement) (body : List ℕ) (among : Among S)
    → IsAlone name among → IsTold judgement.number judgement.verdict past → IsSpeaking name others past (opens_of (judgement ∷ judged)) among.speaker
    → IsInOrder name past (opens_of judged) (settles_among setting among (judgement, body)).speaker

-- the judgements that are left lead to what all lead to
pub record IsUnderWay (S : Type 0) (now : ℕ) (setting : Setting S) (name : Name) (past : History) (limit : ℕ) (all : Among S) (judged : List BareJudgement) (dues : List Due)
    (others : List SessionState) (standing : SessionState) (turn : Turn) (queue : Queue) (bound : List Binding) (draw : S) : Type 0 where
  pub told : List Judgement
  pub bodies : List (List ℕ)
  pub among : Among S
  pub are : judged ≡ map bare_judgement told
  pub due : AreDue told bodies dues
  pub settling : AreSettling name past limit told among
  pub speaks : SpeaksAmong now others standing turn queue bound draw among
  pub same : all_settled setting told bodies among ≡ all

-- what the first judgement that is left promises
pub record FirstSettles (S : Type 0) (now : ℕ) (name : Name) (past : History) (limit answered : ℕ) (setting : Setting S) (number : ℕ) (due : Action)
    (others : List SessionState) (standing : SessionState) (turn : Turn) (queue : Queue) (bound : List Binding) (draw : S)
    (others_after : List SessionState) (after : SessionState) (turn_after : Turn) (queue_after : Queue) (bound_after : List Binding) (draw_after : S) : Type 0 where
  pub settled : (seq : ℕ) (verdict : Verdict) (body opened : List ℕ) (among : Among S) → due ≡ due_of number seq verdict body → IsSettling name past number verdict opened among
      → blocked_of name among.speaker.jobs + 1 ≤ limit → SpeaksAmong now others standing turn queue bound draw among
      → SpeaksAmong now others_after after turn_after queue_after bound_after draw_after (settled_among setting number seq verdict body among)
  pub fewer : (seq : ℕ) (verdict : Verdict) (body opened : List ℕ) (among : Among S) → due ≡ due_of number seq verdict body → IsSettling name past number verdict opened among
      → SpeaksAmong now others standing turn queue bound draw among
      → blocked_of name queue_after + answered ≤ blocked_of name among.speaker.jobs + 1

first-settled : {S : Type 0} → StaysAlone S → StaysInOrder S → (now : ℕ) (setting : Setting S) (name : Name) (past : History) (limit answered left : ℕ) (all : Among S)
    (judgement : Judgement) (judged : List Judgement) (due : Due) (dues : List Due)
    (others : List SessionState) (standing : SessionState) (turn : Turn) (queue : Queue) (bound : List Binding) (draw : S)
    (others_after : List SessionState) (after : SessionState) (turn_after : Turn) (queue_after : Queue) (bound_after : List Binding) (draw_after : S)
    (bodies : List (List ℕ)) (among : Among S) (given : Action) → AreDue (judgement ∷ judged) bodies (due ∷ dues) → AreSettling name past limit (judgement ∷ judged) among
    → SpeaksAmong now others standing turn queue bound draw among → all_settled setting (judgement ∷ judged) bodies among ≡ all → left + answered ≡ limit
    → given ≡ due_judged (bare_judgement judgement) due → FirstSettles S now name past limit answered setting judgement.number given others standing turn queue bound draw others_after after turn_after queue_after bound_after draw_after
    → IsUnderWay S now setting name past left all (map bare_judgement judged) dues others_after after turn_after queue_after bound_after draw_after
first-settled alone order now setting name past limit answered left all judgement judged due dues others standing turn queue bound draw others_after after turn_after queue_after bound_after draw_after
    [] among given are is speaks same enough given_is first = absurd are
first-settled {S} alone order now setting name past limit answered left all judgement judged due dues others standing turn queue bound draw others_after after turn_after queue_after bound_after draw_after
    (body ∷ bodies) among given are is speaks same enough given_is first =
    let P : Judgement → Type 0 = λ judgement. IsTold judgement.number judgement.verdict past in
    let told = All-head P judgement judged is.told in
    let settling : IsSettling name past judgement.number judgement.verdict (opens_of judged) among = record { alone = is.alone; told = told; order = is.order } in
    let few = is.few in
    let next : Among S = settles_among setting among (judgement, body) in
    let speaks_after : SpeaksAmong now others_after after turn_after queue_after bound_after draw_after next =
    first.settled judgement.seq judgement.verdict body (opens_of judged) among (given_is ∙ are.0) settling (omega arith) speaks in
    let fewer = first.fewer judgement.seq judgement.verdict body (opens_of judged) among (given_is ∙ are.0) settling speaks in
    let jobs : blocked_of name queue_after ≡ blocked_of name next.speaker.jobs = ap (blocked_of name) speaks_after.speaks.jobs in
    record {
      told = judged;
      bodies = bodies;
      among = next;
      are = refl;
      due = are.1;
      settling = record {
        alone = alone setting name judgement body among is.alone;
        told = All-tail P judgement judged is.told;
        order = order setting name (λ one. jobs_of one among.speaker.jobs) past judgement judged body among is.alone told is.order;
        few = omega (arith, few, fewer, jobs, enough);
      };
      speaks = speaks_after;
      same = same;
    }

some-told : (judgement : BareJudgement) (next : List BareJudgement) → judgement ∷ next ≡ [] → ⊥
some-told judgement next is = cc

first-of : (judgement : BareJudgement) (next : List BareJudgement) (told : Judgement) (left : List Judgement) → judgement ∷ next ≡ map bare_judgement (told ∷ left)
    → (judgement ≡ bare_judgement told) × (next ≡ map bare_judgement left)
first-of judgement next told left is =
    (ap (λ (js : List BareJudgement). get_or js 0 judgement) is, ap (λ (js : List BareJudgement). drop 1 js) is)

goes-from : {S : Type 0} → StaysAlone S → StaysInOrder S → (now : ℕ) (setting : Setting S) (name : Name) (past : History) (limit answered left : ℕ) (all : Among S)
    (judgement : BareJudgement) (next : List BareJudgement) (due : Due) (left_dues : List Due)
    (others : List SessionState) (standing : SessionState) (turn : Turn) (queue : Queue) (bound : List Binding) (draw : S)
    (others_after : List SessionState) (after : SessionState) (turn_after : Turn) (queue_after : Queue) (bound_after : List Binding) (draw_after : S)
    (given : Action) → given ≡ due_judged judgement due → left + answered ≡ limit
    → (told : List Judgement) (bodies : List (List ℕ)) (among : Among S) → judgement ∷ next ≡ map bare_judgement told → AreDue told bodies (due ∷ left_dues)
    → AreSettling name past limit told among → SpeaksAmong now others standing turn queue bound draw among → all_settled setting told bodies among ≡ all
    → FirstSettles S now name past limit answered setting judgement.number given others standing turn queue bound draw others_after after turn_after queue_after bound_after draw_after
    → IsUnderWay S now setting name past left all next left_dues others_after after turn_after queue_after bound_after draw_after
goes-from alone order now setting name past limit answered left all judgement next due left_dues others standing turn queue bound draw
    others_after after turn_after queue_after bound_after draw_after given given_is enough [] bodies among is due_are settling speaks same first =
    absurd (some-told judgement next is)
goes-from {S} alone order now setting name past limit answered left all judgement next due left_dues others standing turn queue bound draw
    others_after after turn_after queue_after bound_after draw_after given given_is enough (one ∷ told) bodies among is due_are settling speaks same first =
    let parts = first-of judgement next one told is in
    let F : BareJudgement → Type 0 = λ judgement.
    FirstSettles S now name past limit answered setting judgement.number given others standing turn queue bound draw others_after after turn_after queue_after bound_after draw_after in
    let N : List BareJudgement → Type 0 = λ next. IsUnderWay S now setting name past left all next left_dues others_after after turn_after queue_after bound_after draw_after in
    let needed : given ≡ due_judged (bare_judgement one) due = given_is ∙ ap (λ (judgement : BareJudgement). due_judged judgement due) parts.0 in
    subst N (sym parts.1)
    (first-settled alone order now setting name past limit answered left all one told due left_dues others standing turn queue bound draw
    others_after after turn_after queue_after bound_after draw_after bodies among given due_are settling speaks same enough needed (subst F parts.0 first))

pub goes-on : {S : Type 0} → StaysAlone S → StaysInOrder S → (now : ℕ) (setting : Setting S) (name : Name) (past : History) (limit answered left : ℕ) (all : Among S)
    (judgement : BareJudgement) (judged next : List BareJudgement) (due : Due) (dues left_dues : List Due)
    (others : List SessionState) (standing : SessionState) (turn : Turn) (queue : Queue) (bound : List Binding) (draw : S)
    (others_after : List SessionState) (after : SessionState) (turn_after : Turn) (queue_after : Queue) (bound_after : List Binding) (draw_after : S)
    (given : Action) → given ≡ due_judged judgement due → judged ≡ judgement ∷ next → dues ≡ due ∷ left_dues → left + answered ≡ limit
    → IsUnderWay S now setting name past limit all judged dues others standing turn queue bound draw
    → FirstSettles S now name past limit answered setting judgement.number given others standing turn queue bound draw others_after after turn_after queue_after bound_after draw_after
    → IsUnderWay S now setting name past left all next left_dues others_after after turn_after queue_after bound_after draw_after
goes-on {S} alone order now setting name past limit answered left all judgement judged next due dues left_dues others standing turn queue bound draw
    others_after after turn_after queue_after bound_after draw_after given given_is first_is due_is enough under first =
    let J : List BareJudgement → Type 0 = λ judged. IsUnderWay S now setting name past limit all judged dues others standing turn queue bound draw in
    let D : List Due → Type 0 = λ dues. IsUnderWay S now setting name past limit all (judgement ∷ next) dues others standing turn queue bound draw in
    let begins : IsUnderWay S now setting name past limit all (judgement ∷ next) (due ∷ left_dues) others standing turn queue bound draw = subst D due_is (subst J first_is under) in
    goes-from alone order now setting name past limit answered left all judgement next due left_dues others standing turn queue bound draw
    others_after after turn_after queue_after bound_after draw_after given given_is enough begins.told begins.bodies begins.among begins.are begins.due begins.settling begins.speaks begins.same first

pub all-begin : {S : Type 0} (now : ℕ) (setting : Setting S) (name : Name) (past : History) (limit : ℕ) (judged first : List BareJudgement) (dues second : List Due)
    (others : List SessionState) (standing : SessionState) (turn : Turn) (queue : Queue) (bound : List Binding) (draw : S) (told : List Judgement) (bodies : List (List ℕ)) (among : Among S)
    → first ≡ judged → second ≡ dues → judged ≡ map bare_judgement told → AreDue told bodies dues → AreSettling name past limit told among → SpeaksAmong now others standing turn queue bound draw among
    → IsUnderWay S now setting name past limit (all_settled setting told bodies among) first second others standing turn queue bound draw
all-begin {S} now setting name past limit judged first dues second others standing turn queue bound draw told bodies among first_is second_is told_are are is speaks =
    let all : Among S = all_settled setting told bodies among in
    let J : List BareJudgement → Type 0 = λ judged. IsUnderWay S now setting name past limit all judged second others standing turn queue bound draw in
    let D : List Due → Type 0 = λ dues. IsUnderWay S now setting name past limit all judged dues others standing turn queue bound draw in
    subst J (sym first_is) (subst D (sym second_is) (record { told = told; bodies = bodies; among = among; are = told_are; due = are; settling = is; speaks = speaks; same = refl }))

-- none is left
nothing-left : {S : Type 0} (setting : Setting S) (judged : List Judgement) (bodies : List (List ℕ)) (among : Among S) → length judged ≡ 0 → all_settled setting judged bodies among ≡ among
nothing-left setting [] bodies among none = refl
nothing-left setting (judgement ∷ judged) bodies among none = absurd (omega arith)

pub ends : {S : Type 0} (now : ℕ) (setting : Setting S) (name : Name) (past : History) (limit : ℕ) (all : Among S) (judged : List BareJudgement) (dues : List Due)
    (others : List SessionState) (standing : SessionState) (turn : Turn) (queue : Queue) (bound : List Binding) (draw : S)
    → IsUnderWay S now setting name past limit all judged dues others standing turn queue bound draw → length judged ≡ 0
    → SpeaksAmong now others standing turn queue bound draw all
ends {S} now setting name past limit all judged dues others standing turn queue bound draw under none =
    let long : length under.told ≡ 0 = sym (length-map under.told bare_judgement) ∙ ap (λ (js : List BareJudgement). length js) (sym under.are) ∙ none in
    subst (λ (among : Among S). SpeaksAmong now others standing turn queue bound draw among)
    (sym (nothing-left setting under.told under.bodies under.among long) ∙ under.same) under.speaks

-- ---- what it has used up

due-most : (seq : ℕ) (verdict : BareVerdict) (due : Due) → due_bytes (due_by seq verdict due.action) ≤ due_most due
due-most seq (without.Noticed code) due = omega arith
due-most seq (without.Again mark) due = omega arith
due-most seq without.Accepted due = omega arith

-- what is used of the room for these dues and for so many answers, where these are left
pub record HasUsed (now limit : ℕ) (calls : Kept → Bool) (all dues : List Due) (left : ℕ) (standing : SessionState) (turn : Turn) (after : SessionState) (turn_after : Turn) : Type 0 where
  pub settled : ℕ
  pub size : ℕ
  pub answered : ℕ
  pub count : settled + length dues ≡ length all
  pub bytes : size + sum_by due_most dues ≡ sum_by due_most all
  pub answers : answered + left ≡ limit
  pub uses : (called : Kept → Bool) → CallsFor calls called
      → Uses called now (2 * settled + answered) (size + answered * 48) (settled + answered) (2 * settled + answered) standing turn after turn_after

-- the first due's share of all bytes
bytes-first : (due : Due) (dues left_dues : List Due) → dues ≡ due ∷ left_dues → sum_by due_most dues ≡ due_most due + sum_by due_most left_dues
bytes-first due dues left_dues is = ap (sum_by due_most) is ∙ sum_by-cons due_most due left_dues

length-first : (due : Due) (dues left_dues : List Due) → dues ≡ due ∷ left_dues → length dues ≡ length left_dues + 1
length-first due dues left_dues is = ap (λ (dues : List Due). length dues) is ∙ omega arith

-- room that is left, of all room
spare-left : (called fewer : Kept → Bool) (now messages size answers kept used bytes given more part portion share further : ℕ) (standing : SessionState) (turn : Turn) (after : SessionState) (turn_after : Turn)
    → HasSpare called messages size answers kept standing turn → Uses called now used bytes given more standing turn after turn_after
    → CallsFor fewer called
    → used + part ≤ messages → bytes + portion ≤ size → given + share ≤ answers → more + further ≤ kept → HasSpare fewer part portion share further after turn_after
spare-left called fewer now messages size answers kept used bytes given more part portion share further standing turn after turn_after spare uses is of_messages of_size of_answers of_kept =
    let count = count-less fewer called after turn_after.owing is in
    let long = bytes-less fewer called after turn_after.owing is in
    record {
      places = omega (arith, spare.places, uses.places, count, of_messages);
      bytes = omega (arith, spare.bytes, uses.bytes, long, of_size);
      numbers = omega (arith, spare.numbers, uses.numbers, of_messages);
      entries = omega (arith, spare.entries, uses.entries, of_answers);
      replies = omega (arith, spare.replies, uses.replies, of_kept);
    }

-- room for the first of them
pub spare-first : (now limit : ℕ) (calls : Kept → Bool) (judgement : BareJudgement) (all dues left_dues : List Due) (due : Due) (given : Action) (left : ℕ) (standing : SessionState) (turn : Turn) (after : SessionState) (turn_after : Turn)
    → given ≡ due_judged judgement due → HasSpare calls (2 * length all + limit) (sum_by due_most all + limit * 48) (length all + limit) (2 * length all + limit) standing turn
    → HasUsed now limit calls all dues left standing turn after turn_after → dues ≡ due ∷ left_dues → CallsFor (due_calls judgement.number (due_judged judgement due)) calls
    → HasSpare (due_calls judgement.number given) (2 + left) (due_bytes given + left * 48) (1 + left) (2 + left) after turn_after
spare-first now limit calls judgement all dues left_dues due given left standing turn after turn_after given_is spare used is again =
    let P : Action → Type 0 = λ given. HasSpare (due_calls judgement.number given) (2 + left) (due_bytes given + left * 48) (1 + left) (2 + left) after turn_after in
    let count = used.count in
    let bytes = used.bytes in
    let answers = used.answers in
    let first = bytes-first due dues left_dues is in
    let long = length-first due dues left_dues is in
    let most = due-most judgement.seq judgement.verdict due in
    subst P (sym given_is)
    (spare-left calls (due_calls judgement.number (due_judged judgement due)) now (2 * length all + limit) (sum_by due_most all + limit * 48) (length all + limit) (2 * length all + limit)
    (2 * used.settled + used.answered) (used.size + used.answered * 48) (used.settled + used.answered) (2 * used.settled + used.answered)
    (2 + left) (due_bytes (due_judged judgement due) + left * 48) (1 + left) (2 + left) standing turn after turn_after spare (used.uses calls (λ kept is. is)) again
    (omega (arith, count, answers, long)) (omega (arith, bytes, answers, first, most)) (omega (arith, count, answers, long)) (omega (arith, count, answers, long)))

pub uses-first : (now limit : ℕ) (calls : Kept → Bool) (judgement : BareJudgement) (all dues left_dues : List Due) (due : Due) (given : Action) (left answered less : ℕ)
    (standing : SessionState) (turn : Turn) (after : SessionState) (turn_after : Turn) (last : SessionState) (turn_last : Turn)
    → given ≡ due_judged judgement due → HasUsed now limit calls all dues left standing turn after turn_after → dues ≡ due ∷ left_dues → CallsFor (due_calls judgement.number (due_judged judgement due)) calls
    → less + answered ≡ left
    → ((called : Kept → Bool) → CallsFor (due_calls judgement.number given) called
    → Uses called now (2 + answered) (due_bytes given + answered * 48) (1 + answered) (2 + answered) after turn_after last turn_last)
    → HasUsed now limit calls all left_dues less standing turn last turn_last
uses-first now limit calls judgement all dues left_dues due given left answered less standing turn after turn_after last turn_last given_is used is again enough uses_given =
    let P : Action → Type 0 = λ given. (called : Kept → Bool) → CallsFor (due_calls judgement.number given) called
    → Uses called now (2 + answered) (due_bytes given + answered * 48) (1 + answered) (2 + answered) after turn_after last turn_last in
    let uses = subst P given_is uses_given in
    let count = used.count in
    let bytes = used.bytes in
    let answers = used.answers in
    let first = bytes-first due dues left_dues is in
    let long = length-first due dues left_dues is in
    let most = due-most judgement.seq judgement.verdict due in
    record {
      settled = used.settled + 1;
      size = used.size + due_most due;
      answered = used.answered + answered;
      count = omega (arith, count, long);
      bytes = omega (arith, bytes, first);
      answers = omega (arith, answers, enough);
      uses = λ so implied.
          uses-both so now (2 * used.settled + used.answered) (used.size + used.answered * 48) (used.settled + used.answered) (2 * used.settled + used.answered)
          (2 + answered) (due_bytes (due_judged judgement due) + answered * 48) (1 + answered) (2 + answered)
          (2 * (used.settled + 1) + (used.answered + answered)) (used.size + due_most due + (used.answered + answered) * 48) (used.settled + 1 + (used.answered + answered)) (2 * (used.settled + 1) + (used.answered + answered))
          standing turn after turn_after last turn_last (used.uses so implied) (uses so (λ kept is. implied kept (again kept is)))
          (omega arith) (omega (arith, most)) (omega arith) (omega arith);
    }

-- all that is used in the end
pub uses-all : (now limit : ℕ) (calls : Kept → Bool) (all dues : List Due) (left : ℕ) (standing : SessionState) (turn : Turn) (after : SessionState) (turn_after : Turn)
    → HasUsed now limit calls all dues left standing turn after turn_after → (called : Kept → Bool) → CallsFor calls called
    → Uses called now (2 * length all + limit) (sum_by due_most all + limit * 48) (length all + limit) (2 * length all + limit) standing turn after turn_after
uses-all now limit calls all dues left standing turn after turn_after used called implied =
    let count = used.count in
    let bytes = used.bytes in
    let answers = used.answers in
    uses-both called now (2 * used.settled + used.answered) (used.size + used.answered * 48) (used.settled + used.answered) (2 * used.settled + used.answered) 0 0 0 0
    (2 * length all + limit) (sum_by due_most all + limit * 48) (length all + limit) (2 * length all + limit) standing turn after turn_after after turn_after
    (used.uses called implied) (nothing-used called now after turn_after)
    (omega (arith, count, answers)) (omega (arith, bytes, answers)) (omega (arith, count, answers)) (omega (arith, count, answers))

pub nothing-yet : (now limit : ℕ) (calls : Kept → Bool) (all : List Due) (standing : SessionState) (turn : Turn) → HasUsed now limit calls all all limit standing turn standing turn
nothing-yet now limit calls all standing turn = record {
  settled = 0;
  size = 0;
  answered = 0;
  count = omega arith;
  bytes = omega arith;
  answers = omega arith;
  uses = λ called implied. nothing-used called now standing turn;
}

-- ---- the kept replies that they call for

pub calls-first : (calls : Kept → Bool) (judgement : BareJudgement) (judged next : List BareJudgement) (due : Due) (dues left_dues : List Due) → judged ≡ judgement ∷ next → dues ≡ due ∷ left_dues
    → CallsFor (calls_of judged dues) calls → CallsFor (due_calls judgement.number (due_judged judgement due)) calls
calls-first calls judgement judged next due dues left_dues first_is due_is all kept is =
    let same : calls_of judged dues kept ≡ calls_of (judgement ∷ next) (due ∷ left_dues) kept =
    ap (λ (judged : List BareJudgement). calls_of judged dues kept) first_is ∙ ap (λ (dues : List Due). calls_of (judgement ∷ next) dues kept) due_is in
    all kept (same ∙ or_left (due_calls judgement.number (due_judged judgement due) kept) (calls_of next left_dues kept) is)

pub calls-next : (calls : Kept → Bool) (judgement : BareJudgement) (judged next : List BareJudgement) (due : Due) (dues left_dues : List Due) → judged ≡ judgement ∷ next → dues ≡ due ∷ left_dues
    → CallsFor (calls_of judged dues) calls → CallsFor (calls_of next left_dues) calls
calls-next calls judgement judged next due dues left_dues first_is due_is all kept is =
    let same : calls_of judged dues kept ≡ calls_of (judgement ∷ next) (due ∷ left_dues) kept =
    ap (λ (judged : List BareJudgement). calls_of judged dues kept) first_is ∙ ap (λ (dues : List Due). calls_of (judgement ∷ next) dues kept) due_is in
    all kept (same ∙ or_right (due_calls judgement.number (due_judged judgement due) kept) (calls_of next left_dues kept) is)

-- judgements call for no more than their messages may

accepted-calls : (number own : ℕ) (action : Action) (kept : Kept) → number ≡ own → due_calls number action kept ≡ true → (is_among (asked_by action) kept || is_to own kept) ≡ true
accepted-calls number own (CameAgain seq) kept same is = subst (λ (n : ℕ). is_to n kept ≡ true) same is
accepted-calls number own (Notice seq code) kept same is = absurd (false≢true is)
accepted-calls number own (Tells telling) kept same is = or_left (is_among (asked_by (Tells telling)) kept) (is_to own kept) is
accepted-calls number own (Answers answering) kept same is = absurd (false≢true is)
accepted-calls number own (Destroys session) kept same is = absurd (false≢true is)
accepted-calls number own Nothing kept same is = absurd (false≢true is)

one-calls : (seq number : ℕ) (verdict : BareVerdict) (due : Due) (kept : Kept) → number ≡ due.number → due_calls number (due_by seq verdict due.action) kept ≡ true → may_call due kept ≡ true
one-calls seq number (without.Noticed code) due kept same is = absurd (false≢true is)
one-calls seq number (without.Again mark) due kept same is = or_right (is_among (asked_by due.action) kept) (is_to due.number kept) (subst (λ (n : ℕ). is_to n kept ≡ true) same is)
one-calls seq number without.Accepted due kept same is = accepted-calls number due.number due.action kept same is

pub judged-calls : (judged : List BareJudgement) (dues : List Due) → are_numbered judged dues ≡ true → CallsFor (calls_of judged dues) (calls_by dues)
judged-calls [] [] numbered kept is = absurd (false≢true is)
judged-calls [] (due ∷ dues) numbered kept is = absurd (false≢true is)
judged-calls (judgement ∷ judged) [] numbered kept is = absurd (false≢true is)
judged-calls (judgement ∷ judged) (due ∷ dues) numbered kept is =
    let both = and_parts (judgement.number == due.number) (are_numbered judged dues) numbered in
    elim (or_cases (due_calls judgement.number (due_judged judgement due) kept) (calls_of judged dues kept) is) [
      | inl first ↦ or_left (may_call due kept) (calls_by dues kept) (one-calls judgement.seq judgement.number judgement.verdict due kept (eqb-true judgement.number due.number both.0) first)
      | inr rest ↦ or_right (may_call due kept) (calls_by dues kept) (judged-calls judged dues both.1 kept rest)
    ]
