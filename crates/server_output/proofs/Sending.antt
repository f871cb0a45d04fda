-- Packets that go out one after the other.
use Rattle.std.proofs.Common.{◌≡◌, ◌∙◌, ℕ, List, [], ◌∷◌, ◌++◌, ap, sym, refl, append_assoc, append-nil, subst}
use Rattle.msg_ids.specs.Counters.{Counters}
use Rattle.service_tl.specs.declared.lists.Message.{Message}
use Rattle.auth_keys.specs.declared.ring.RingKey.{RingKey}
use Rattle.envelope.specs.Packet.{Lock}
use Rattle.packing.specs.Packing.{outer_of, after_outer, outers_of, after_outers}
use Rattle.server_rules.specs.Event.{Sent}
use Rattle.server_output.specs.declared.outs.Out.{Out}
use Rattle.server_output.specs.declared.outs.Header.{Header}
use Rattle.server_output.specs.Outs.{IsSent, AreSent, GoesOn, one_sent, sent_of, draw_after_one, draw_after_sent}
use Rattle.server_output.specs.Course.{Course}

sent-push : (lock : Lock) (ring : List RingKey) (sent : List Sent) (outs : List Out) (one : Sent) (out : Out) → AreSent lock ring sent outs → IsSent lock ring one out
    → AreSent lock ring (sent ++ one ∷ []) (outs ++ out ∷ [])
sent-push lock ring [] [] one out are is = (is, tt)
sent-push lock ring (first ∷ sent) (out-first ∷ outs) one out are is = (are.0, sent-push lock ring sent outs one out are.1 is)
sent-push lock ring [] (out-first ∷ outs) one out are is = absurd are
sent-push lock ring (first ∷ sent) [] one out are is = absurd are

sent-append : (lock : Lock) (ring : List RingKey) (before sent : List Sent) (old outs : List Out) → AreSent lock ring before old → AreSent lock ring sent outs
    → AreSent lock ring (before ++ sent) (old ++ outs)
sent-append lock ring [] sent [] outs so_far are = are
sent-append lock ring (first ∷ before) sent (out-first ∷ old) outs so_far are = (so_far.0, sent-append lock ring before sent old outs so_far.1 are)
sent-append lock ring [] sent (out-first ∷ old) outs so_far are = absurd so_far
sent-append lock ring (first ∷ before) sent [] outs so_far are = absurd so_far

module _ (lock : Lock) (ring : List RingKey) where
  pub course-begun : (before : List Out) (all : List Sent) → Course lock ring before before all all
  course-begun before all = record { outs = []; sent = []; behind = sym (append-nil before); are = tt; so_far = refl }

  pub course-more : (before now after : List Out) (left all : List Sent) (one : Sent) (out : Out) → Course lock ring before now (one ∷ left) all
      → after ≡ now ++ out ∷ [] → IsSent lock ring one out → Course lock ring before after left all
  course-more before now after left all one out course pushed is = record {
    outs = course.outs ++ out ∷ [];
    sent = course.sent ++ one ∷ [];
    behind = pushed ∙ (ap (λ (outs : List Out). outs ++ out ∷ []) course.behind ∙ append_assoc before course.outs (out ∷ []));
    are = sent-push lock ring course.sent course.outs one out course.are is;
    so_far = append_assoc course.sent (one ∷ []) left ∙ course.so_far;
  }

  pub course-ended : (before now : List Out) (all : List Sent) → Course lock ring before now [] all → GoesOn lock ring all before now
  course-ended before now all course =
      let P : List Sent → Type 0 = λ sent. AreSent lock ring sent course.outs in
      record { outs = course.outs; behind = course.behind; are = subst P (sym (append-nil course.sent) ∙ course.so_far) course.are }

  pub goes-on : (sent : List Sent) (old new : List Out) → GoesOn lock ring sent old new → (before : List Sent) → AreSent lock ring before old → AreSent lock ring (before ++ sent) new
  goes-on sent old new goes before so_far =
      let P : List Out → Type 0 = AreSent lock ring (before ++ sent) in
      subst P (sym goes.behind) (sent-append lock ring before sent old goes.outs so_far goes.are)

-- the packet of the first group, and what is left
module _ {S : Type 0} (step : S → ℕ × S) (header : Header) (now : ℕ) (numbers after : Counters) (draw drawn : S) (group : List Message) (rest others : List (List Message))
    (rest_is : rest ≡ group ∷ others) (after_is : after ≡ after_outer now numbers group) (drawn_is : drawn ≡ draw_after_one step (outer_of now numbers group) draw) where
  pub first-sent : sent_of step header (outers_of now numbers rest) draw ≡ one_sent step header (outer_of now numbers group) draw ∷ sent_of step header (outers_of now after others) drawn
  first-sent = rw (rest_is, after_is, drawn_is) refl

  pub first-drawn : draw_after_sent step (outers_of now after others) drawn ≡ draw_after_sent step (outers_of now numbers rest) draw
  first-drawn = rw (rest_is, after_is, drawn_is) refl

  pub first-counted : after_outers now after others ≡ after_outers now numbers rest
  first-counted = rw (rest_is, after_is) refl
