use Rattle.std.proofs.Common.{◌≡◌, ◌∙◌, ℕ, eqb, Option, Some, List, ap, sym, subst, length, arith}
use Rattle.std.specs.Prelude.{option_map}
use Rattle.std.proofs.lemmas.List.{length-drop}
use Rattle.outbox.specs.Bodies.{head_bytes}
use Rattle.outbox.specs.declared.kept.Kept.{Kept}
use Rattle.outbox.specs.Replies.{Replies, by_call, call_of}
use Rattle.server_rules.specs.Server.{Reply, WasDropped, kept_of, kept_replies}
use Rattle.server_session.specs.Fates.{kept_to, refated, told_of, with_dropped}
use Rattle.server_session.specs.Kept.{IsResult}
use Rattle.server_session.specs.SessionState.{Stands}
use Rattle.server_session.proofs.FateLemmas.{are-apart, drops-refates, found-holds, found-kept, told-kept, told-none}
use Rattle.server_session.proofs.UnsaidLemmas.{no-more-kept}
use Rattle.server_session.proofs.session.SessionState.drops_reply.Goals as goal

-- what an outbox tells of the reply to a call
told : (call : ℕ) (replies : List Reply) (kept : Replies) → kept ≡ kept_replies replies → option_map kept_of (kept_to call replies) ≡ by_call call kept
told call replies kept is = sym (ap (by_call call) is ∙ found-kept (λ (one : Kept). eqb one.call call) replies)

pub returns-in_err-kept-clause-told : goal.returns-in_err-kept-clause-told
returns-in_err-kept-clause-told c = λ now session stands.
    let none = told-none (kept_to c.args.call session.replies) (ap call_of (told c.args.call session.replies c.args.self.now.outbox.replies stands.outbox ∙ sym c.in_err-kept.ensures)) in
    c.from_residual.ensures ∙ sym (ap (option_map told_of) none)

pub returns-in_err-kept-clause-stands : goal.returns-in_err-kept-clause-stands
returns-in_err-kept-clause-stands c = λ now session stands are.
    let none = told-none (kept_to c.args.call session.replies) (ap call_of (told c.args.call session.replies c.args.self.now.outbox.replies stands.outbox ∙ sym c.in_err-kept.ensures)) in
    subst (λ (found : Option Reply). Stands now c.args.self.now (record session { replies = with_dropped found session.replies })) (sym none) stands

pub returns-clause-told : goal.returns-clause-told
returns-clause-told c = λ now session stands.
    let kept = c.in_ok-kept.kept.now in
    let it = told-kept kept (kept_to c.args.call session.replies) (told c.args.call session.replies c.args.self.now.outbox.replies stands.outbox ∙ sym c.in_ok-kept.ensures) in
    ap (λ (n : ℕ). Some (record { number = kept.number; seq = kept.seq; length = n })) c.len.ensures.value
    ∙ ap (λ (one : Kept). Some (record { number = one.number; seq = one.seq; length = length one.body })) (sym it.2)
    ∙ sym (ap (option_map told_of) it.1)

pub returns-clause-stands : goal.returns-clause-stands
returns-clause-stands c = λ now session stands are.
    let kept = c.in_ok-kept.kept.now in
    let replies = session.replies in
    let it = told-kept kept (kept_to c.args.call replies) (told c.args.call replies c.args.self.now.outbox.replies stands.outbox ∙ sym c.in_ok-kept.ensures) in
    let same : refated WasDropped kept.number replies ≡ with_dropped (kept_to c.args.call replies) replies =
    ap (λ (n : ℕ). refated WasDropped n replies) (sym (ap (λ (one : Kept). one.number) it.2)) ∙ sym (drops-refates it.0.number replies)
    ∙ sym (ap (λ (found : Option Reply). with_dropped found replies) it.1) in
    subst (λ (all : List Reply). Stands now c.ends_reply.new.self (record session { replies = all })) same
    (c.ends_reply.ensures.stands now session stands (are-apart session.history replies session.counters.last are))

pub overflow_cast-dropped : goal.overflow_cast-dropped
overflow_cast-dropped c =
    let kept = c.in_ok-kept.kept.now in
    let result = found-holds IsResult (λ (one : Kept). eqb one.call c.args.call) c.args.self.now.outbox.replies kept (sym c.in_ok-kept.ensures) c.args.self.now.contents in
    let short = result.content.short in
    let left = length-drop head_bytes kept.body in
    let value = c.len.ensures.value in
    omega arith

pub returns-clause-unsaid : goal.returns-clause-unsaid
returns-clause-unsaid c = λ owing. no-more-kept c.args.self.now _ owing c.ends_reply.ensures.fewer_kept
