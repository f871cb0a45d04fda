-- Replies where the oldest kept one is dropped, or a further one is kept, and the marks that follow.
use Rattle.std.proofs.Common.{◌≡◌, ◌≢◌, ◌∙◌, ℕ, eqb, cond, Bool, true, false, Option, Some, None, List, [], ◌∷◌, ◌++◌, map, ap, sym, refl, inl, inr}
use Rattle.std.specs.Prelude.{option_map}
use Rattle.std.specs.List.{filter, slice_get}
use Rattle.std.proofs.lemmas.Bool.{cases_Bool, cond-true, cond-false, eqb-true, eq-eqb, false≢true, ne_eqb}
use Rattle.std.proofs.lemmas.List.{map-append}
use Rattle.std.proofs.lemmas.List.Elements.{All-head, All-tail, filter-append}
use Rattle.std.proofs.lemmas.List.Folds.{find-append}
use Rattle.std.proofs.lemmas.Option.{none-some, same_Some}
use Rattle.id_window.specs.declared.mark.Mark.{Mark}
use Rattle.id_window.specs.declared.mark.Mark.TheVariants.{Service, Waiting, Replied}
use Rattle.id_window.specs.Marks.{Marks}
use Rattle.id_window.specs.History.{History, Outcome, Refused, AcceptedContainer, AcceptedCall, AcceptedOther}
use Rattle.outbox.specs.Replies.{call_of, fits}
use Rattle.server_rules.specs.Server.{Fate, IsKept, WasAcked, WasDropped, Reply, answered_mark, is_fate_kept, is_kept, kept_of, kept_replies, mark_after, mark_by, marks_of, reply_to}
use Rattle.service_tl.specs.Results.{is_good}
use Rattle.server_rules.specs.Speaking.{dropped, made_room, without_oldest}
use Rattle.law_server.specs.Order.{IsUnanswered}
use Rattle.server_session.specs.Marking.{dropped_mark, replied_mark, turned}

-- ---- the marks of replies where those of one number are turned

pub marks-turned : (history : History) (before after : List Reply) (call : ℕ) (turn : Mark → Mark)
    → ((number : ℕ) (outcome : Outcome) → mark_after after number outcome ≡ cond (eqb number call) (turn (mark_after before number outcome)) (mark_after before number outcome))
    → marks_of history after ≡ turned call turn (marks_of history before)
marks-turned [] before after call turn same = refl
marks-turned (judgement ∷ history) before after call turn same =
    ap (λ (mark : Mark). (judgement.number, mark) ∷ marks_of history after) (same judgement.number judgement.outcome)
    ∙ ap (λ (marks : Marks). (judgement.number, cond (eqb judgement.number call) (turn (mark_after before judgement.number judgement.outcome)) (mark_after before judgement.number judgement.outcome)) ∷ marks)
    (marks-turned history before after call turn same)

-- both ways alike
cond-same : {A : Type 0} (test : Bool) (one : A) → one ≡ cond test one one
cond-same true one = refl
cond-same false one = refl

-- ---- a reply that is dropped

kept-fate : (fate : Fate) → is_fate_kept fate ≡ true → fate ≡ IsKept
kept-fate IsKept is = refl
kept-fate WasAcked is = absurd (false≢true is)
kept-fate WasDropped is = absurd (false≢true is)

other-mark : (good : Bool) (fate : Fate) → is_fate_kept fate ≡ false → answered_mark good fate ≡ dropped_mark (answered_mark good fate)
other-mark good IsKept is = absurd (false≢true (sym is))
other-mark good WasAcked is = refl
other-mark good WasDropped is = refl

dropped-marked : (reply : Reply) → answered_mark (is_good (dropped reply).content) (dropped reply).fate ≡ dropped_mark (answered_mark (is_good reply.content) reply.fate)
dropped-marked reply =
    elim (cases_Bool (is_kept reply)) [
      | inl is ↦ rw is (rw (kept-fate reply.fate is) refl)
      | inr other ↦ rw other (other-mark (is_good reply.content) reply.fate other)
    ]

dropped-call : (reply : Reply) → (dropped reply).call ≡ reply.call
dropped-call reply = elim (cases_Bool (is_kept reply)) [ inl is ↦ rw is refl | inr other ↦ rw other refl ]

dropped-other : (reply : Reply) → is_kept reply ≡ false → dropped reply ≡ reply
dropped-other reply other = rw other refl

first-call : (reply : Reply) (replies : List Reply) (call : ℕ) → is_kept reply ≡ true → call_of (slice_get (kept_replies (reply ∷ replies)) 0) ≡ Some call
    → reply.call ≡ call
first-call reply replies call is first = let now : Some reply.call ≡ Some call = rw is at first in same_Some reply.call call now

rest-call : (reply : Reply) (replies : List Reply) (call : ℕ) → is_kept reply ≡ false → call_of (slice_get (kept_replies (reply ∷ replies)) 0) ≡ Some call
    → call_of (slice_get (kept_replies replies) 0) ≡ Some call
rest-call reply replies call other first = rw other at first

oldest-kept : (reply : Reply) (replies : List Reply) → is_kept reply ≡ true → without_oldest (reply ∷ replies) ≡ dropped reply ∷ replies
oldest-kept reply replies is = cond-true (is_kept reply) (dropped reply ∷ replies) (reply ∷ without_oldest replies) is

oldest-other : (reply : Reply) (replies : List Reply) → is_kept reply ≡ false → without_oldest (reply ∷ replies) ≡ reply ∷ without_oldest replies
oldest-other reply replies is = cond-false (is_kept reply) (dropped reply ∷ replies) (reply ∷ without_oldest replies) is

abbrev Dropped : ℕ → ℕ → List Reply → Option Reply
Dropped number call replies = cond (eqb number call) (option_map dropped (reply_to number replies)) (reply_to number replies)

-- the reply to a number, where it is the first one
here-first : (number : ℕ) (reply : Reply) (replies : List Reply) → eqb reply.call number ≡ true → reply_to number (reply ∷ replies) ≡ Some reply
here-first number reply replies is = cond-true (eqb reply.call number) (Some reply) (reply_to number replies) is

here-later : (number : ℕ) (reply : Reply) (replies : List Reply) → eqb reply.call number ≡ false → reply_to number (reply ∷ replies) ≡ reply_to number replies
here-later number reply replies other = cond-false (eqb reply.call number) (Some reply) (reply_to number replies) other

dropped-here : (number call : ℕ) (reply : Reply) (replies : List Reply) → reply.call ≡ call → reply_to number (dropped reply ∷ replies) ≡ Dropped number call (reply ∷ replies)
dropped-here number call reply replies is =
    elim (cases_Bool (eqb reply.call number)) [
      | inl here ↦
          let same : eqb number call ≡ true = eq-eqb number call (sym (eqb-true reply.call number here) ∙ is) in
          let first : eqb (dropped reply).call number ≡ true = ap (λ (call : ℕ). eqb call number) (dropped-call reply) ∙ here in
          here-first number (dropped reply) replies first
          ∙ (ap (option_map dropped) (sym (here-first number reply replies here))
          ∙ sym (cond-true (eqb number call) (option_map dropped (reply_to number (reply ∷ replies))) (reply_to number (reply ∷ replies)) same))
      | inr later ↦
          let apart : eqb number call ≡ false = elim (cases_Bool (eqb number call)) [
            | inl same ↦ absurd (false≢true (sym later ∙ eq-eqb reply.call number (is ∙ sym (eqb-true number call same))))
            | inr not_same ↦ not_same
          ] in
          let other : eqb (dropped reply).call number ≡ false = ap (λ (call : ℕ). eqb call number) (dropped-call reply) ∙ later in
          here-later number (dropped reply) replies other
          ∙ (sym (here-later number reply replies later)
          ∙ sym (cond-false (eqb number call) (option_map dropped (reply_to number (reply ∷ replies))) (reply_to number (reply ∷ replies)) apart))
    ]

-- what dropping the oldest kept reply, to this call, makes of the reply to a number
pub oldest-replied : (number call : ℕ) (replies : List Reply) → call_of (slice_get (kept_replies replies) 0) ≡ Some call
    → reply_to number (without_oldest replies) ≡ Dropped number call replies
oldest-replied number call [] first = cond-same (eqb number call) None
oldest-replied number call (reply ∷ replies) first =
    elim (cases_Bool (is_kept reply)) [
      | inl is ↦
          ap (reply_to number) (oldest-kept reply replies is) ∙ dropped-here number call reply replies (first-call reply replies call is first)
      | inr other ↦ ap (reply_to number) (oldest-other reply replies other) ∙ elim (cases_Bool (eqb reply.call number)) [
        | inl here ↦
            here-first number reply (without_oldest replies) here
            ∙ (cond-same (eqb number call) (Some reply)
            ∙ rw (here-first number reply replies here) (ap (λ (mine : Reply). cond (eqb number call) (Some mine) (Some reply)) (sym (dropped-other reply other))))
        | inr later ↦
            here-later number reply (without_oldest replies) later
            ∙ (oldest-replied number call replies (rest-call reply replies call other first)
            ∙ rw (here-later number reply replies later) refl)
      ]
    ]

by-dropped : (unanswered : Mark) (reply : Option Reply) → unanswered ≡ dropped_mark unanswered → mark_by unanswered (option_map dropped reply) ≡ dropped_mark (mark_by unanswered reply)
by-dropped unanswered None same = same
by-dropped unanswered (Some reply) same = dropped-marked reply

by-either : (unanswered : Mark) (test : Bool) (reply now : Option Reply) → unanswered ≡ dropped_mark unanswered → now ≡ cond test (option_map dropped reply) reply
    → mark_by unanswered now ≡ cond test (dropped_mark (mark_by unanswered reply)) (mark_by unanswered reply)
by-either unanswered true reply now same is = ap (mark_by unanswered) is ∙ by-dropped unanswered reply same
by-either unanswered false reply now same is = ap (mark_by unanswered) is

oldest-marked : (replies : List Reply) (call : ℕ) → call_of (slice_get (kept_replies replies) 0) ≡ Some call → (number : ℕ) (outcome : Outcome)
    → mark_after (without_oldest replies) number outcome ≡ cond (eqb number call) (dropped_mark (mark_after replies number outcome)) (mark_after replies number outcome)
oldest-marked replies call first number (Refused code) = cond-same (eqb number call) _
oldest-marked replies call first number AcceptedContainer = cond-same (eqb number call) _
oldest-marked replies call first number AcceptedCall =
    by-either Waiting (eqb number call) (reply_to number replies) (reply_to number (without_oldest replies)) refl (oldest-replied number call replies first)
oldest-marked replies call first number AcceptedOther =
    by-either Service (eqb number call) (reply_to number replies) (reply_to number (without_oldest replies)) refl (oldest-replied number call replies first)

-- the marks where the oldest kept reply is dropped
pub marks-oldest : (history : History) (replies : List Reply) (call : ℕ) → call_of (slice_get (kept_replies replies) 0) ≡ Some call
    → marks_of history (without_oldest replies) ≡ turned call dropped_mark (marks_of history replies)
marks-oldest history replies call first = marks-turned history replies (without_oldest replies) call dropped_mark (oldest-marked replies call first)

-- ---- a reply that is kept

by-replied : (unanswered : Mark) (good : Bool) (number call : ℕ) (before after : List Reply) → replied_mark good unanswered ≡ Replied good
    → reply_to call before ≡ None → ((reply : Reply) × (reply_to call after ≡ Some reply) × (reply.fate ≡ IsKept) × (is_good reply.content ≡ good))
    → (eqb number call ≡ false → reply_to number after ≡ reply_to number before)
    → mark_by unanswered (reply_to number after) ≡ cond (eqb number call) (replied_mark good (mark_by unanswered (reply_to number before))) (mark_by unanswered (reply_to number before))
by-replied unanswered good number call before after turns none kept others =
    elim (cases_Bool (eqb number call)) [
      | inl is ↦
          let same : number ≡ call = eqb-true number call is in
          let was : reply_to number before ≡ None = rw same none in
          let now : reply_to number after ≡ Some kept.0 = rw same kept.1 in
          ap (mark_by unanswered) now
          ∙ (rw (kept.2, kept.3) (sym turns)
          ∙ (ap (λ (reply : Option Reply). replied_mark good (mark_by unanswered reply)) (sym was) ∙ sym (cond-true (eqb number call) _ _ is)))
      | inr other ↦ ap (mark_by unanswered) (others other) ∙ sym (cond-false (eqb number call) _ _ other)
    ]

replied-marked : (good : Bool) (call : ℕ) (before after : List Reply) → reply_to call before ≡ None
    → ((reply : Reply) × (reply_to call after ≡ Some reply) × (reply.fate ≡ IsKept) × (is_good reply.content ≡ good))
    → ((number : ℕ) → eqb number call ≡ false → reply_to number after ≡ reply_to number before) → (number : ℕ) (outcome : Outcome)
    → mark_after after number outcome ≡ cond (eqb number call) (replied_mark good (mark_after before number outcome)) (mark_after before number outcome)
replied-marked good call before after none kept others number (Refused code) = cond-same (eqb number call) _
replied-marked good call before after none kept others number AcceptedContainer = cond-same (eqb number call) _
replied-marked good call before after none kept others number AcceptedCall = by-replied Waiting good number call before after refl none kept (others number)
replied-marked good call before after none kept others number AcceptedOther = by-replied Service good number call before after refl none kept (others number)

-- a further reply stands behind the others
further-own : (reply : Reply) (replies : List Reply) → reply_to reply.call replies ≡ None → reply_to reply.call (replies ++ reply ∷ []) ≡ Some reply
further-own reply replies none =
    find-append (λ (one : Reply). eqb one.call reply.call) replies (reply ∷ [])
    ∙ rw (none, eq-eqb reply.call reply.call refl) refl

further-others : (reply : Reply) (replies : List Reply) (number : ℕ) → eqb number reply.call ≡ false → reply_to number (replies ++ reply ∷ []) ≡ reply_to number replies
further-others reply [] number other =
    elim (cases_Bool (eqb reply.call number)) [
      | inl is ↦ absurd (false≢true (sym other ∙ eq-eqb number reply.call (sym (eqb-true reply.call number is))))
      | inr later ↦ rw later refl
    ]
further-others reply (first ∷ replies) number other = ap (cond (eqb first.call number) (Some first)) (further-others reply replies number other)

-- the marks where a further reply is kept, to a call that had none
pub marks-kept : (history : History) (replies : List Reply) (reply : Reply) → reply_to reply.call replies ≡ None → reply.fate ≡ IsKept
    → marks_of history (replies ++ reply ∷ []) ≡ turned reply.call (replied_mark (is_good reply.content)) (marks_of history replies)
marks-kept history replies reply none kept =
    marks-turned history replies (replies ++ reply ∷ []) reply.call (replied_mark (is_good reply.content))
    (replied-marked (is_good reply.content) reply.call replies (replies ++ reply ∷ []) none (reply, further-own reply replies none, kept, refl) (further-others reply replies))

-- making room leaves a call without a reply
made-call : (fits : Bool) (reply : Reply) → (cond fits reply (dropped reply)).call ≡ reply.call
made-call true reply = refl
made-call false reply = dropped-call reply

pub room-unanswered : (bytes call : ℕ) (replies : List Reply) → reply_to call replies ≡ None → reply_to call (made_room bytes replies) ≡ None
room-unanswered bytes call [] none = refl
room-unanswered bytes call (reply ∷ replies) none =
    let made : Reply = cond (fits bytes (kept_replies (reply ∷ replies))) reply (dropped reply) in
    let same : made.call ≡ reply.call = made-call (fits bytes (kept_replies (reply ∷ replies))) reply in
    elim (cases_Bool (eqb reply.call call)) [
      | inl here ↦ absurd (none-some reply (sym none ∙ here-first call reply replies here))
      | inr later ↦
          let rest : reply_to call replies ≡ None = sym (here-later call reply replies later) ∙ none in
          here-later call made (made_room bytes replies) (ap (λ (number : ℕ). eqb number call) same ∙ later) ∙ room-unanswered bytes call replies rest
    ]

-- where no reply is to a call, none is found
pub none-found : (call : ℕ) (replies : List Reply) → IsUnanswered replies call → reply_to call replies ≡ None
none-found call [] none = refl
none-found call (reply ∷ replies) none =
    here-later call reply replies (ne_eqb reply.call call (All-head (λ (one : Reply). one.call ≢ call) reply replies none))
    ∙ none-found call replies (All-tail (λ (one : Reply). one.call ≢ call) reply replies none)

-- a further kept reply is the last one that is kept
pub kept-further : (replies : List Reply) (reply : Reply) → reply.fate ≡ IsKept → kept_replies (replies ++ reply ∷ []) ≡ kept_replies replies ++ kept_of reply ∷ []
kept-further replies reply is =
    let alone : filter is_kept (reply ∷ []) ≡ reply ∷ [] = cond-true (is_kept reply) (reply ∷ []) [] (ap is_fate_kept is) in
    ap (map kept_of) (filter-append is_kept replies (reply ∷ []) ∙ ap (λ (more : List Reply). filter is_kept replies ++ more) alone)
    ∙ map-append kept_of (filter is_kept replies) (reply ∷ [])
