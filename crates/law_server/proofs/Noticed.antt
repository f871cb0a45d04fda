-- Numbers that were noticed have no reply and no job.
use Rattle.std.proofs.Common.{◌≡◌, ◌≢◌, ◌∙◌, ℕ, false, List, get_or, ap, sym, inl, inr}
use Rattle.std.specs.List.{Contains}
use Rattle.std.proofs.lemmas.Bool.{cases_order, false≢true}
use Rattle.std.proofs.lemmas.List.{get_or_default}
use Rattle.std.proofs.lemmas.List.Elements.{All-weaker}
use Rattle.id_window.specs.History.{History, FirstJudgement, EachOnce, was_accepted}
use Rattle.waits.specs.declared.job.Unfinished.{Unfinished}
use Rattle.waits.specs.Jobs.{Queue}
use Rattle.server_rules.specs.Server.{Reply}
use Rattle.law_server.specs.Order.{WasAccepted, WasCalled, IsUnanswered, HasNoJob, IsOrderly}

-- two judgements of one number are one
pub one-judgement : (history : History) (one other : FirstJudgement) → EachOnce history → Contains history one → Contains history other → one.number ≡ other.number → one ≡ other
one-judgement history one other once has had same =
    let here : (get_or history has.0 one) ≡ one = has.2 in
    let there : (get_or history had.0 other) ≡ other = had.2 in
    let there_so : (get_or history had.0 one) ≡ other = get_or_default history had.0 one other had.1 ∙ there in
    elim (cases_order has.0 had.0) [
      | inl at ↦ sym here ∙ (ap (λ (k : ℕ). get_or history k one) at ∙ there_so)
      | inr apart ↦ elim apart [
        | inl before ↦
            absurd (once has.0 had.0 one before had.1 (ap (λ (judgement : FirstJudgement). judgement.number) here ∙ (same ∙ ap (λ (judgement : FirstJudgement). judgement.number) (sym there_so))))
        | inr after ↦
            absurd (once had.0 has.0 one after has.1 (ap (λ (judgement : FirstJudgement). judgement.number) there_so ∙ (sym same ∙ ap (λ (judgement : FirstJudgement). judgement.number) (sym here))))
      ]
    ]

pub noticed-unanswered : (history : History) (replies : List Reply) (last : ℕ) (jobs : Queue) (judgement : FirstJudgement) → IsOrderly history replies last jobs
    → Contains history judgement → was_accepted judgement.outcome ≡ false → IsUnanswered replies judgement.number
noticed-unanswered history replies last jobs judgement order has refused =
    All-weaker (λ (reply : Reply). WasAccepted reply.call history) (λ (reply : Reply). reply.call ≢ judgement.number)
    (λ reply accepted same.
    let one = one-judgement history accepted.0 judgement order.judged accepted.1 has (accepted.2 ∙ same) in
    false≢true (sym refused ∙ (ap (λ (one : FirstJudgement). was_accepted one.outcome) (sym one) ∙ accepted.3)))
    replies order.replied.accepted

pub noticed-no_job : (history : History) (replies : List Reply) (last : ℕ) (jobs : Queue) (judgement : FirstJudgement) → IsOrderly history replies last jobs
    → Contains history judgement → was_accepted judgement.outcome ≡ false → HasNoJob jobs judgement.number
noticed-no_job history replies last jobs judgement order has refused =
    All-weaker (λ (one : Unfinished). WasCalled one.job.number history) (λ (one : Unfinished). one.job.number ≢ judgement.number)
    (λ job called same.
    let one = one-judgement history called.0 judgement order.judged called.1 has (called.2 ∙ same) in
    false≢true (sym refused ∙ (ap (λ (one : FirstJudgement). was_accepted one.outcome) (sym one) ∙ ap was_accepted called.3)))
    jobs order.unfinished.called
