use Rattle.std.proofs.Common.{◌≡◌, ◌∙◌, List, true, false, ap, subst, sym, refl, arith}
use Rattle.outbox.specs.Replies.{fits}
use Rattle.server_rules.specs.Server.{Reply, kept_replies}
use Rattle.server_rules.specs.Speaking.{made_room, without_oldest}
use Rattle.server_session.specs.declared.session.SessionState.{SessionState}
use Rattle.server_session.specs.SessionState.{Stands}
use Rattle.server_session.proofs.session.SessionState.makes_room.Goals as goal

pub drops-init : goal.drops-init
drops-init g c =
    record {
      stands = λ now session stands. (session.replies, stands, refl);
      fewer = λ weight messages. omega arith;
      same_room = refl;
      same_numbers = refl;
      same_key = refl;
      same_number = refl;
      same_salts = refl;
    }

pub drops-preserved : goal.drops-preserved
drops-preserved g c =
    let so_far = c.drops.invariant in
    let law = c.oldest_replies_are_dropped.ensures in
    let step = c.drops_oldest.ensures in
    let dropped = c.drops-test.true in
    record {
      stands = λ now session stands.
          let before = so_far.stands now session stands in
          let here : Stands now c.drops.self (record session { replies = before.0 }) = before.1 in
          let full : fits c.args.bytes (kept_replies before.0) ≡ false = ap (fits c.args.bytes) (sym here.outbox) ∙ step.did_not_fit dropped in
          (without_oldest before.0, step.stands now (record session { replies = before.0 }) dropped here, sym (law.more c.args.bytes before.0 full) ∙ before.2);
      fewer = λ weight messages. omega (arith, step.fewer_kept weight messages, so_far.fewer weight messages);
      same_room = step.same_room ∙ so_far.same_room;
      same_numbers = step.same_numbers ∙ so_far.same_numbers;
      same_key = step.same_key ∙ so_far.same_key;
      same_number = step.same_number ∙ so_far.same_number;
      same_salts = step.same_salts ∙ so_far.same_salts;
    }

pub returns-clause-stands : goal.returns-clause-stands
returns-clause-stands g c = λ now session stands.
    let before = c.drops.invariant.stands now session stands in
    let step = c.drops_oldest.ensures in
    let over = c.drops-test.false in
    let here : Stands now c.drops_oldest.new.self (record session { replies = before.0 }) =
    subst (λ (standing : SessionState). Stands now standing (record session { replies = before.0 })) (sym (step.unchanged over)) before.1 in
    let fit : fits c.args.bytes (kept_replies before.0) ≡ true = ap (fits c.args.bytes) (sym here.outbox) ∙ step.fits over in
    let made : before.0 ≡ made_room c.args.bytes session.replies = sym (c.oldest_replies_are_dropped.ensures.there c.args.bytes before.0 fit) ∙ before.2 in
    subst (λ (replies : List Reply). Stands now c.drops_oldest.new.self (record session { replies = replies })) made here

pub returns-clause-fewer_kept : goal.returns-clause-fewer_kept
returns-clause-fewer_kept g c = λ weight messages. omega (arith, c.drops_oldest.ensures.fewer_kept weight messages, c.drops.invariant.fewer weight messages)
