use Rattle.std.proofs.Common.{◌≡◌, ◌∙◌, ℕ, false, None, Some, drop, ap, subst, sym, inl, inr}
use Rattle.std.specs.List.{slice_get}
use Rattle.std.proofs.lemmas.Bool.{cases_Bool, cond-true, cond-false}
use Rattle.std.proofs.lemmas.Option.{none-some}
use Rattle.id_window.specs.Marks.{Marks}
use Rattle.inbox.specs.Inbox.{Stands as InboxStands}
use Rattle.outbox.specs.Replies.{Contents, Replies, call_of, dropped_for, fits}
use Rattle.server_rules.specs.Server.{kept_replies, marks_of}
use Rattle.server_session.proofs.OldestLemmas.{marks-oldest}
use Rattle.server_session.proofs.UnsaidLemmas.{fewer-with-room}
use Rattle.server_session.proofs.session.SessionState.drops_oldest.Goals as goal

-- a call that is given is that of the oldest reply, since a further one didn't fit
oldest-given : (bytes call : ℕ) (replies : Replies) → call_of (dropped_for bytes replies) ≡ Some call
    → (fits bytes replies ≡ false) × (call_of (slice_get replies 0) ≡ Some call)
oldest-given bytes call replies given =
    elim (cases_Bool (fits bytes replies)) [
      | inl is ↦ absurd (none-some call (sym (ap call_of (cond-true (fits bytes replies) None (slice_get replies 0) is)) ∙ given))
      | inr full ↦ (full, sym (ap call_of (cond-false (fits bytes replies) None (slice_get replies 0) full)) ∙ given)
    ]

pub returns-in-Some-clause-stands : goal.returns-in-Some-clause-stands
returns-in-Some-clause-stands g c = λ now session dropped stands.
    let before = c.args.self.now.outbox.replies in
    let given = oldest-given c.args.bytes c.in-Some.call before (sym c.make_room.ensures.call ∙ c.in-Some.is) in
    let first : call_of (slice_get (kept_replies session.replies) 0) ≡ Some c.in-Some.call =
    ap (λ (replies : Replies). call_of (slice_get replies 0)) (sym stands.outbox) ∙ given.1 in
    record {
      key = stands.key;
      number = stands.number;
      first = stands.first;
      unique = stands.unique;
      salts = stands.salts;
      latest = stands.latest;
      inbox = subst (λ (marks : Marks). InboxStands c.mark_dropped.new.inbox session.history marks)
          (sym (marks-oldest session.history session.replies c.in-Some.call first))
          (c.mark_dropped.ensures session.history (marks_of session.history session.replies) stands.inbox);
      outbox = ap (λ (contents : Contents). contents.replies) c.make_room.ensures.after
          ∙ (cond-false (fits c.args.bytes before) before (drop 1 before) given.0
          ∙ (ap (λ (replies : Replies). drop 1 replies) stands.outbox ∙ sym (c.oldest_replies_are_dropped.ensures.oldest session.replies)));
      counters = stands.counters;
    }

pub returns-in-Some-clause-fewer_kept : goal.returns-in-Some-clause-fewer_kept
returns-in-Some-clause-fewer_kept g c = fewer-with-room c.args.bytes c.args.self.now.outbox.replies c.make_room.new.self.replies (ap (λ (contents : Contents). contents.replies) c.make_room.ensures.after)

pub returns-in-None-clause-fewer_kept : goal.returns-in-None-clause-fewer_kept
returns-in-None-clause-fewer_kept g c = fewer-with-room c.args.bytes c.args.self.now.outbox.replies c.make_room.new.self.replies (ap (λ (contents : Contents). contents.replies) c.make_room.ensures.after)
