use Rattle.std.proofs.Common.{◌≡◌, ◌∙◌, ℕ, Bool, [], ◌∷◌, ◌++◌, drop, ap, subst, sym}
use Rattle.id_window.specs.Marks.{Marks}
use Rattle.inbox.specs.Inbox.{Stands as InboxStands}
use Rattle.outbox.specs.declared.kept.Kept.{Kept}
use Rattle.outbox.specs.Bodies.{head_bytes}
use Rattle.outbox.specs.Replies.{Replies}
use Rattle.server_rules.specs.Server.{kept_replies, marks_of}
use Rattle.service_tl.specs.Results.{is_good}
use Rattle.server_session.specs.Marking.{replied_mark, turned}
use Rattle.server_session.proofs.OldestLemmas.{kept-further, marks-kept}
use Rattle.server_session.proofs.session.SessionState.keeps_reply.Goals as goal

pub returns-clause-stands : goal.returns-clause-stands
returns-clause-stands c = λ now session reply stands same kept none.
    let before = marks_of session.history session.replies in
    let good : is_good reply.content ≡ c.is_good.result =
    sym (c.is_good.ensures ∙ ap is_good (c.rest.ensures.value ∙ (ap (λ (one : Kept). drop head_bytes one.body) (sym same) ∙ c.replies_are_results.ensures reply.call reply.content))) in
    let call : reply.call ≡ c.args.kept.call = ap (λ (one : Kept). one.call) same in
    let marks : marks_of session.history (session.replies ++ reply ∷ []) ≡ turned c.args.kept.call (replied_mark c.is_good.result) before =
    marks-kept session.history session.replies reply none kept
    ∙ (ap (λ (good : Bool). turned reply.call (replied_mark good) before) good ∙ ap (λ (call : ℕ). turned call (replied_mark c.is_good.result) before) call) in
    record {
      key = stands.key;
      number = stands.number;
      first = stands.first;
      unique = stands.unique;
      salts = stands.salts;
      latest = stands.latest;
      inbox = subst (λ (marks : Marks). InboxStands c.mark_replied.new.inbox session.history marks) (sym marks)
          (c.mark_replied.ensures session.history before stands.inbox);
      outbox = c.keep.ensures.kept
          ∙ (ap (λ (replies : Replies). replies ++ c.args.kept ∷ []) stands.outbox
          ∙ (ap (λ (one : Kept). kept_replies session.replies ++ one ∷ []) (sym same) ∙ sym (kept-further session.replies reply kept)));
      counters = stands.counters;
    }
