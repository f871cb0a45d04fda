use Rattle.std.proofs.Common.{◌≡◌, ◌∙◌, Some, ap, sym, refl, arith}
use Rattle.id_window.specs.declared.mark.Mark.{Mark}
use Rattle.id_window.specs.declared.mark.Mark.TheVariants.{Noticed, Replied, Dropped}
use Rattle.server_rules.specs.Server.{mark_in, reply_to}
use Rattle.server_rules.specs.Rows.{says_reply}
use Rattle.server_output.specs.Items.{bad_salt_bytes}
use Rattle.server_dispatch.proofs.Using.{none-used, same-left, used}
use Rattle.server_dispatch.proofs.Steps.{again-rest, spoken}
use Rattle.server_dispatch.proofs.turn.Turn.came_again.Goals as goal

pub returns-in-Some-Noticed-clause-speaks : goal.returns-in-Some-Noticed-clause-speaks
returns-in-Some-Noticed-clause-speaks g c = λ keys jobs bindings speaker speaks.
    let told = c.in-Some-Noticed.ensures c.args.now speaker.session speaks.says.stands in
    let marked : mark_in speaker.session c.args.number ≡ Some (Noticed c.in-Some-Noticed.code) = sym told ∙ ap (λ (mark : Mark). Some mark) c.in-Some-Noticed.field-0-is in
    rw marked (c.notices.ensures.speaks keys jobs bindings speaker speaks)

pub returns-in-Some-Replied-clause-speaks : goal.returns-in-Some-Replied-clause-speaks
returns-in-Some-Replied-clause-speaks g c = λ keys jobs bindings speaker speaks.
    let told = c.in-Some-Replied.ensures c.args.now speaker.session speaks.says.stands in
    let good = c.in-Some-Replied.field-0-0 in
    let marked : mark_in speaker.session c.args.number ≡ Some (Replied good) = sym told ∙ ap (λ (mark : Mark). Some mark) c.in-Some-Replied.field-0-is in
    let reply = reply_to c.args.number speaker.session.replies in
    let said = spoken _ _ _ _ _ _ _ _ _ _ (says_reply reply speaker) speaks (c.says_kept.ensures.says c.args.now c.args.draw.now good speaker marked) (again-rest reply speaker) in
    rw marked said

pub returns-in-Some-Dropped-clause-speaks : goal.returns-in-Some-Dropped-clause-speaks
returns-in-Some-Dropped-clause-speaks g c = λ keys jobs bindings speaker speaks.
    let told = c.in-Some-Dropped.ensures c.args.now speaker.session speaks.says.stands in
    let marked : mark_in speaker.session c.args.number ≡ Some (Dropped c.in-Some-Dropped.field-0-0) = sym told ∙ ap (λ (mark : Mark). Some mark) c.in-Some-Dropped.field-0-is in
    rw marked (c.notices-in-Some-Dropped.ensures.speaks keys jobs bindings speaker speaks)

pub returns-in-Some-Noticed-clause-uses : goal.returns-in-Some-Noticed-clause-uses
returns-in-Some-Noticed-clause-uses g c = λ called calls.
    used called c.args.now 1 bad_salt_bytes 0 0 1 bad_salt_bytes 0 0 _ _ _ _ c.notices.ensures.spends c.notices.ensures.unsaid
    (same-left _ _ c.notices.ensures.same_replies) (omega arith) (omega arith) (omega arith) (omega arith)

pub returns-in-Some-Replied-clause-uses : goal.returns-in-Some-Replied-clause-uses
returns-in-Some-Replied-clause-uses g c = λ called calls.
    let said = c.says_kept.ensures in
    record {
      places = omega (arith, said.places called calls);
      bytes = omega (arith, said.left called calls);
      numbers = omega arith;
      entries = omega arith;
      replies = omega arith;
      places_taken = said.taken.0;
      bytes_taken = said.taken.1;
      key = refl;
      number = refl;
      at = λ is. is;
    }

pub returns-in-Some-Dropped-clause-uses : goal.returns-in-Some-Dropped-clause-uses
returns-in-Some-Dropped-clause-uses g c = λ called calls.
    let noticed = c.notices-in-Some-Dropped.ensures in
    used called c.args.now 1 bad_salt_bytes 0 0 1 bad_salt_bytes 0 0 _ _ _ _ noticed.spends noticed.unsaid
    (same-left _ _ noticed.same_replies) (omega arith) (omega arith) (omega arith) (omega arith)

pub returns-2-clause-uses : goal.returns-2-clause-uses
returns-2-clause-uses g c = λ called calls. none-used called c.args.now 1 bad_salt_bytes 0 0 c.args.standing.now c.args.self.now
