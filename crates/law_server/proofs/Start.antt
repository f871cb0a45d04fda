-- A session that has accepted nothing has no replies and no jobs, and says first that it is new.
use Rattle.std.proofs.Common.{◌≡◌, ◌∙◌, ℕ, zero, suc, ◌<◌, true, false, cond, List, [], ◌∷◌, ◌++◌, length, get_or, ap, sym, subst, refl, arith, inl, inr, append_assoc}
use Rattle.std.specs.Prelude.{fold}
use Rattle.std.specs.List.{All, filter}
use Rattle.std.proofs.lemmas.Bool.{cases_Bool, cond-false, cond_both, false≢true}
use Rattle.std.proofs.lemmas.List.{append-nil}
use Rattle.std.proofs.lemmas.List.Elements.{All-head}
use Rattle.service_tl.specs.declared.lists.Message.{Message}
use Rattle.msg_ids.specs.Counters.{Counters}
use Rattle.id_window.specs.History.{History, FirstJudgement, was_accepted}
use Rattle.inbox.specs.Inbox.{was_heard}
use Rattle.inbox.specs.Verdicts.{Judgement}
use Rattle.packing.specs.Packing.{is_within, grouped, outer_of, outers_of, after_outer, packed, packets_of}
use Rattle.waits.specs.declared.job.Unfinished.{Unfinished}
use Rattle.waits.specs.Jobs.{Queue}
use Rattle.server_rules.specs.Server.{Reply, is_kept, has_accepted}
use Rattle.server_rules.specs.Event.{Setting, Speaker, Owed}
use Rattle.server_rules.specs.Speaking.{says_it_is_new, says_again}
use Rattle.server_rules.specs.Rows.{acknowledges, acks_of}
use Rattle.server_rules.specs.Answer.{opens, attaches}
use Rattle.law_server.specs.Order.{WasAccepted, WasCalled, IsOrderly}
use Rattle.law_server.specs.Start.{BeginsWith, new_owed}

-- ---- nothing accepted

heard-at : (history : History) (k : ℕ) (one : FirstJudgement) → k < length history → get_or history k one ≡ one → was_accepted one.outcome ≡ true → was_heard history ≡ true
heard-at [] k one within is was = absurd (omega arith)
heard-at (first ∷ history) zero one within is was =
    let e : was_accepted first.outcome ≡ true = ap (λ (one : FirstJudgement). was_accepted one.outcome) is ∙ was in rw e refl
heard-at (first ∷ history) (suc k) one within is was =
    elim (cases_Bool (was_accepted first.outcome)) [
      | inl e ↦ rw e refl
      | inr e ↦ rw e (heard-at history k one (omega arith) is was)
    ]

none-accepted : (number : ℕ) (history : History) → was_heard history ≡ false → WasAccepted number history → ⊥
none-accepted number history unheard accepted =
    let has = accepted.1 in
    false≢true (sym unheard ∙ heard-at history has.0 accepted.0 has.1 has.2 accepted.3)

no-replies : (history : History) (replies : List Reply) → was_heard history ≡ false → All (λ reply. WasAccepted reply.call history) replies → replies ≡ []
no-replies history [] unheard all = refl
no-replies history (reply ∷ replies) unheard all =
    absurd (none-accepted reply.call history unheard (All-head (λ (reply : Reply). WasAccepted reply.call history) reply replies all))

no-jobs : (history : History) (jobs : Queue) → was_heard history ≡ false → All (λ one. WasCalled one.job.number history) jobs → jobs ≡ []
no-jobs history [] unheard all = refl
no-jobs history (one ∷ jobs) unheard all =
    let called = All-head (λ (one : Unfinished). WasCalled one.job.number history) one jobs all in
    absurd (none-accepted one.job.number history unheard (called.0, called.1, called.2, ap was_accepted called.3))

pub unheard-replies : (history : History) (replies : List Reply) (last : ℕ) (jobs : Queue) → IsOrderly history replies last jobs → was_heard history ≡ false → replies ≡ []
unheard-replies history replies last jobs order unheard = no-replies history replies unheard order.replied.accepted

pub unheard-jobs : (history : History) (replies : List Reply) (last : ℕ) (jobs : Queue) → IsOrderly history replies last jobs → was_heard history ≡ false → jobs ≡ []
unheard-jobs history replies last jobs order unheard = no-jobs history jobs unheard order.unfinished.called

-- ---- what is said first

acks-add : {S : Type 0} (setting : Setting S) (numbers : List ℕ) (speaker : Speaker S) → (later : List Owed) × ((acknowledges setting numbers speaker).owed ≡ speaker.owed ++ later)
acks-add setting [] speaker = ([], sym (append-nil speaker.owed))
acks-add setting (number ∷ numbers) speaker = (_, refl)

pub opens-new : {S : Type 0} (setting : Setting S) (history : History) (judged : List Judgement) (speaker : Speaker S) → was_heard history ≡ false
    → (later : List Owed) × ((opens setting history judged speaker).owed ≡ speaker.owed ++ new_owed setting speaker ∷ later)
opens-new {S} setting history judged speaker unheard =
    let ready : Speaker S = record speaker { session = record speaker.session { history = history } } in
    let said = says_it_is_new setting ready in
    let new = new_owed setting speaker in
    let P : Speaker S → Type 0 = λ spoke. (later : List Owed) × ((acknowledges setting (acks_of judged) spoke).owed ≡ speaker.owed ++ new ∷ later) in
    let acks = acks-add setting (acks_of judged) said in
    subst P (sym (cond-false (was_heard history) ready said unheard)) (acks.0, acks.1 ∙ append_assoc speaker.owed (new ∷ []) acks.0)

pub attaches-new : {S : Type 0} (setting : Setting S) (speaker : Speaker S) (jobs : Queue)
    → IsOrderly speaker.session.history speaker.session.replies speaker.session.counters.last jobs → has_accepted speaker.session ≡ false
    → attaches setting speaker ≡ says_it_is_new setting speaker
attaches-new {S} setting speaker jobs order unheard =
    let first = cond (has_accepted speaker.session) speaker (says_it_is_new setting speaker) in
    let none = unheard-replies speaker.session.history speaker.session.replies speaker.session.counters.last jobs order unheard in
    ap (λ (replies : List Reply). fold (λ (speaker : Speaker S) (reply : Reply). says_again reply speaker) first (filter is_kept replies)) none
    ∙ cond-false (has_accepted speaker.session) speaker (says_it_is_new setting speaker) unheard

-- ---- packets

abbrev Begun : Message → List (List Message) → Type 0
Begun message all = (more : List Message) × (rest : List (List Message)) × (all ≡ (message ∷ more) ∷ rest)

grouped-begin : (message : Message) (begun messages : List Message) → Begun message (grouped (message ∷ begun) messages)
grouped-begin message begun [] = (begun, [], refl)
grouped-begin message begun (next ∷ messages) =
    cond_both (is_within (message ∷ (begun ++ next ∷ []))) (grouped (message ∷ (begun ++ next ∷ [])) messages) ((message ∷ begun) ∷ grouped (next ∷ []) messages)
    (Begun message) (λ is. grouped-begin message (begun ++ next ∷ []) messages) (λ is. (begun, grouped (next ∷ []) messages, refl))

outer-body : (now : ℕ) (counters : Counters) (group : List Message) → (outer_of now counters group).body ≡ packed group
outer-body now counters [] = refl
outer-body now counters (message ∷ []) = refl
outer-body now counters (message ∷ (next ∷ messages)) = refl

pub packets-begin : (now : ℕ) (counters : Counters) (message : Message) (messages : List Message)
    → (first : Message) × (others : List Message) × (packets_of now counters (message ∷ messages) ≡ first ∷ others) × BeginsWith message first.body
packets-begin now counters message messages =
    let begun = grouped-begin message [] messages in
    let group = message ∷ begun.0 in (
      outer_of now counters group,
      outers_of now (after_outer now counters group) begun.1,
      ap (outers_of now counters) begun.2,
      (begun.0, outer-body now counters group),
    )
