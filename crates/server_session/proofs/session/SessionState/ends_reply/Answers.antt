use Rattle.std.proofs.Common.{◌≡◌, ◌∙◌, ℕ, eqb, false, ap, sym, subst, refl}
use Rattle.std.specs.Prelude.{option_map, All}
use Rattle.std.specs.List.{find}
use Rattle.id_window.specs.History.{found}
use Rattle.inbox.specs.Inbox.{Stands as InboxStands}
use Rattle.outbox.specs.declared.kept.Kept.{Kept}
use Rattle.outbox.specs.Replies.{Replies, by_number, call_of, without_number}
use Rattle.server_rules.specs.Server.{is_fate_kept, kept_of, kept_replies, marks_of}
use Rattle.server_session.specs.declared.dropping.Ending.{Ending}
use Rattle.server_session.specs.declared.dropping.Ending.TheVariants.{Acked, Dropped}
use Rattle.server_session.specs.Fates.{fate_of, refated, with_ended}
use Rattle.server_session.specs.Kept.{IsResult}
use Rattle.server_session.proofs.FateLemmas.{all-left, found-kept, is_one, kept-left, marks-ended, none-found, told-call, told-none}
use Rattle.server_session.proofs.UnsaidLemmas.{fewer-taken}
use Rattle.server_session.proofs.session.SessionState.ends_reply.Goals as goal

ends : (ending : Ending) → is_fate_kept (fate_of ending) ≡ false
ends Acked = refl
ends Dropped = refl

-- what an outbox tells of the reply
told : (number : ℕ) (replies : _) (kept : Replies) → kept ≡ kept_replies replies
    → call_of (by_number number kept) ≡ call_of (option_map kept_of (find (is_one number) replies))
told number replies kept is = ap (λ (all : Replies). call_of (by_number number all)) is ∙ ap call_of (found-kept (λ (one : Kept). eqb one.number number) replies)

pub returns-in-Some-clause-stands : goal.returns-in-Some-clause-stands
returns-in-Some-clause-stands c = λ now session stands apart.
    let fate = fate_of c.args.ending in
    let number = c.args.number in
    let replies = session.replies in
    let history = session.history in
    let marks = marks_of history replies in
    let call = c.in-Some.call in
    let it = told-call call (find (is_one number) replies) (sym (told number replies c.args.self.now.outbox.replies stands.outbox) ∙ sym c.ack.ensures.call ∙ c.in-Some.is) in
    let marked : InboxStands c.ends_call.new.inbox history (with_ended it.0.call fate (found it.0.call history marks) marks) =
    subst (λ (n : ℕ). InboxStands c.ends_call.new.inbox history (with_ended n fate (found n history marks) marks)) (sym it.2)
    (c.ends_call.ensures history marks stands.inbox) in
    record {
      key = stands.key;
      number = stands.number;
      first = stands.first;
      unique = stands.unique;
      salts = stands.salts;
      latest = stands.latest;
      inbox = record {
        window = c.other_marks_count_nothing.ensures c.ends_call.new.inbox.window history
            (with_ended it.0.call fate (found it.0.call history marks) marks) (marks_of history (refated fate number replies)) marked.window
            (marks-ended c.marks_follow_history.ensures.others fate number history replies it.0 apart it.1);
        heard = marked.heard;
      };
      outbox = ap (λ box. box.replies) c.ack.ensures.after ∙ ap (without_number number) stands.outbox
          ∙ sym (kept-left fate number replies (ends c.args.ending) apart.numbers);
      counters = stands.counters;
    }

pub returns-in_default-clause-stands : goal.returns-in_default-clause-stands
returns-in_default-clause-stands c = λ now session stands apart.
    let fate = fate_of c.args.ending in
    let number = c.args.number in
    let replies = session.replies in
    let history = session.history in
    let none = told-none (find (is_one number) replies) (sym (told number replies c.args.self.now.outbox.replies stands.outbox) ∙ sym c.ack.ensures.call ∙ c.in_default.is) in
    record {
      key = stands.key;
      number = stands.number;
      first = stands.first;
      unique = stands.unique;
      salts = stands.salts;
      latest = stands.latest;
      inbox = subst (λ (all : _). InboxStands c.args.self.now.inbox history (marks_of history all)) (sym (none-found fate number replies none)) stands.inbox;
      outbox = ap (λ box. box.replies) c.ack.ensures.after ∙ ap (without_number number) stands.outbox
          ∙ sym (kept-left fate number replies (ends c.args.ending) apart.numbers);
      counters = stands.counters;
    }

pub invariant_of-self : goal.invariant_of-self
invariant_of-self c =
    record { contents = subst (All IsResult) (sym (ap (λ box. box.replies) c.ack.ensures.after)) (all-left IsResult c.args.number c.args.self.now.outbox.replies c.args.self.now.contents) }

pub invariant_of-self-in_default : goal.invariant_of-self-in_default
invariant_of-self-in_default c =
    record { contents = subst (All IsResult) (sym (ap (λ box. box.replies) c.ack.ensures.after)) (all-left IsResult c.args.number c.args.self.now.outbox.replies c.args.self.now.contents) }

pub returns-in-Some-clause-fewer_kept : goal.returns-in-Some-clause-fewer_kept
returns-in-Some-clause-fewer_kept c = fewer-taken c.args.number _ _ (ap (λ box. box.replies) c.ack.ensures.after)

pub returns-in_default-clause-fewer_kept : goal.returns-in_default-clause-fewer_kept
returns-in_default-clause-fewer_kept c = fewer-taken c.args.number _ _ (ap (λ box. box.replies) c.ack.ensures.after)
