-- Marks and kept replies after an answer, and sessions by their names after one spoke.
use Rattle.std.proofs.Common.{◌≡◌, ◌≢◌, ◌∙◌, ℕ, zero, suc, ◌<◌, eqb, true, cond, Option, Some, None, List, [], ◌∷◌, ◌++◌, length, get_or, ap, sym, subst, refl, arith}
use Rattle.std.specs.Prelude.{map, fold}
use Rattle.std.specs.List.{Contains, filter}
use Rattle.std.specs.Option.{option_or}
use Rattle.std.proofs.lemmas.Bool.{cond-true, cond-false, eq-eqb, ne_eqb}
use Rattle.std.proofs.lemmas.List.{map-append}
use Rattle.std.proofs.lemmas.List.Elements.{All-head, All-tail, All-weaker, filter-append}
use Rattle.std.proofs.lemmas.List.Folds.{find-append}
use Rattle.id_window.specs.declared.mark.Mark.{Mark}
use Rattle.id_window.specs.Marks.{Marks, mark_of}
use Rattle.id_window.specs.History.{History, FirstJudgement, EachOnce}
use Rattle.server_rules.specs.Server.{Name, Session, Reply, is_kept, kept_of, kept_replies, marks_of, mark_after, reply_to, name_of, session_named, with_session}
use Rattle.server_rules.specs.Event.{State, Speaker, speaker_in, spoken, spoken_by, speaks}
use Rattle.server_rules.specs.Speaking.{made_room}
use Rattle.law_server.specs.Order.{IsUnanswered}
use Rattle.law_server.proofs.Lists.{pairs-head, pairs-tail, all-same}
use Rattle.law_server.proofs.Midway.{stamp}
use Rattle.law_server.proofs.Speaking.{room-stamps}
use Rattle.law_server.proofs.Judged.{IsNew, none-answers}
use Rattle.law_server.proofs.Sessions.{with-own, with-others}

-- ---- marks

abbrev from_mark : ℕ → Option Mark → Marks → Option Mark
from_mark number last marks = fold (λ so_far given. cond (eqb given.0 number) (Some given.1) so_far) last marks

absent : (number : ℕ) (last : Option Mark) (history : History) (replies : List Reply) → IsNew number history → from_mark number last (marks_of history replies) ≡ last
absent number last [] replies new = refl
absent number last (first ∷ history) replies new =
    let P : FirstJudgement → Type 0 = λ judgement. judgement.number ≢ number in
    let mark = Some (mark_after replies first.number first.outcome) in
    ap (λ (found : Option Mark). from_mark number found (marks_of history replies)) (cond-false (eqb first.number number) mark last (ne_eqb first.number number (All-head P first history new)))
    ∙ absent number last history replies (All-tail P first history new)

present : (history : History) (replies : List Reply) (k : ℕ) (judgement : FirstJudgement) (last : Option Mark) → EachOnce history → k < length history → get_or history k judgement ≡ judgement
    → from_mark judgement.number last (marks_of history replies) ≡ Some (mark_after replies judgement.number judgement.outcome)
present [] replies k judgement last once within is = absurd (omega arith)
present (first ∷ history) replies zero judgement last once within is =
    let R : FirstJudgement → FirstJudgement → Type 0 = λ one other. one.number ≢ other.number in
    let mark = mark_after replies first.number first.outcome in
    let new : IsNew first.number history =
    All-weaker (R first) (λ (other : FirstJudgement). other.number ≢ first.number) (λ other apart same. apart (sym same)) history (pairs-head R first history once) in
    let P : FirstJudgement → Type 0 = λ judgement. from_mark judgement.number last (marks_of (first ∷ history) replies) ≡ Some (mark_after replies judgement.number judgement.outcome) in
    subst P is
    (ap (λ (found : Option Mark). from_mark first.number found (marks_of history replies)) (cond-true (eqb first.number first.number) (Some mark) last (eq-eqb first.number first.number refl))
    ∙ absent first.number (Some mark) history replies new)
present (first ∷ history) replies (suc k) judgement last once within is =
    let R : FirstJudgement → FirstJudgement → Type 0 = λ one other. one.number ≢ other.number in
    present history replies k judgement (cond (eqb first.number judgement.number) (Some (mark_after replies first.number first.outcome)) last) (pairs-tail R first history once) (omega arith) is

pub mark-of : (history : History) (replies : List Reply) (judgement : FirstJudgement) → EachOnce history → Contains history judgement
    → mark_of judgement.number (marks_of history replies) ≡ Some (mark_after replies judgement.number judgement.outcome)
mark-of history replies judgement once has = present history replies has.0 judgement None once has.1 has.2

-- ---- a further reply

pub reply-last : (bytes : ℕ) (replies : List Reply) (reply : Reply) → IsUnanswered replies reply.call → reply_to reply.call (made_room bytes replies ++ reply ∷ []) ≡ Some reply
reply-last bytes replies reply none =
    let made = made_room bytes replies in
    let none_made : IsUnanswered made reply.call = all-same (λ (other : Reply). other.call ≢ reply.call) stamp replies made (room-stamps bytes replies) none in
    let own : reply_to reply.call (reply ∷ []) ≡ Some reply = cond-true (eqb reply.call reply.call) (Some reply) None (eq-eqb reply.call reply.call refl) in
    find-append (λ (other : Reply). eqb other.call reply.call) made (reply ∷ [])
    ∙ (ap (λ (found : Option Reply). option_or found (reply_to reply.call (reply ∷ []))) (none-answers reply.call made none_made) ∙ own)

or-none : {X : Type 0} (found : Option X) → option_or found None ≡ found
or-none (Some x) = refl
or-none None = refl

pub reply-others : (replies : List Reply) (reply : Reply) (number : ℕ) → number ≢ reply.call → reply_to number (replies ++ reply ∷ []) ≡ reply_to number replies
reply-others replies reply number apart =
    let last : reply_to number (reply ∷ []) ≡ None = cond-false (eqb reply.call number) (Some reply) None (ne_eqb reply.call number (λ same. apart (sym same))) in
    find-append (λ (other : Reply). eqb other.call number) replies (reply ∷ [])
    ∙ (ap (option_or (reply_to number replies)) last ∙ or-none (reply_to number replies))

pub kept-last : (replies : List Reply) (reply : Reply) → is_kept reply ≡ true → kept_replies (replies ++ reply ∷ []) ≡ kept_replies replies ++ kept_of reply ∷ []
kept-last replies reply is =
    ap (map kept_of) (filter-append is_kept replies (reply ∷ []))
    ∙ (map-append kept_of (filter is_kept replies) (filter is_kept (reply ∷ []))
    ∙ ap (λ (rest : List Reply). kept_replies replies ++ map kept_of rest) (cond-true (is_kept reply) (reply ∷ []) [] is))

-- ---- sessions by their names

pub speaks-is : {S : Type 0} (name : Name) (speak : Speaker S → Speaker S) (state : State S) (session : Session) → session_named name state.sessions ≡ Some session
    → speaks name speak state ≡ spoken state (speak (speaker_in state session))
speaks-is {S} name speak state session is = ap (λ (found : Option Session). spoken_by found speak state) is

pub speaks-named : {S : Type 0} (name : Name) (speak : Speaker S → Speaker S) (state : State S) (session : Session) → session_named name state.sessions ≡ Some session
    → name_of (speak (speaker_in state session)).session ≡ name → session_named name (speaks name speak state).sessions ≡ Some (speak (speaker_in state session)).session
speaks-named {S} name speak state session is same =
    let after = (speak (speaker_in state session)).session in
    let N : Name → Type 0 = λ name. session_named name state.sessions ≡ Some session in
    let M : Name → Type 0 = λ name. session_named name (with_session after state.sessions) ≡ Some after in
    ap (λ (state : State S). session_named name state.sessions) (speaks-is name speak state session is)
    ∙ subst M same (with-own after state.sessions session (subst N (sym same) is))

pub speaks-apart : {S : Type 0} (name other : Name) (speak : Speaker S → Speaker S) (state : State S) (session : Session) → session_named name state.sessions ≡ Some session
    → name_of (speak (speaker_in state session)).session ≡ name → other ≢ name → session_named other (speaks name speak state).sessions ≡ session_named other state.sessions
speaks-apart {S} name other speak state session is same apart =
    let after = (speak (speaker_in state session)).session in
    ap (λ (state : State S). session_named other state.sessions) (speaks-is name speak state session is)
    ∙ with-others other after state.sessions (λ own. apart (own ∙ same))
