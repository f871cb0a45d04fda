use Rattle.std.specs.Prelude.{Some}
use Rattle.std.proofs.Common.{◌∙◌, ap, refl, sym, subst}
use Rattle.framing.specs.Held.{Held}
use Rattle.framing.specs.Holding.{Stands}
use Rattle.framing.proofs.Steps.{in_fault, in_more, in_found, behind_found, in_packet, behind_packet}
use Rattle.framing.proofs.incoming.Incoming.next.Goals as goal

pub returns-in-Some : goal.returns-in-Some
returns-in-Some g c =
    let form = g.F.Framing.form c.args.form.now in (
      (refl, (λ _. tt), (λ packets bytes. subst (λ (held : Held). Stands form held packets bytes) (sym c.self.view_is), λ fault is. c.in-Some.is ∙ ap Some is)),
      record {
        answers = in_fault form (g.met.F.Framing.lawful c.args.form.now) c.self.inside.at _ _ _ c.self.inside.bytes.items _ c.self.view_is c.in-Some.is;
        after = tt;
      },
    )

pub returns-in-More : goal.returns-in-More
returns-in-More g c =
    let form = g.F.Framing.form c.args.form.now in (
      (refl, (λ _. tt), (λ packets bytes. subst (λ (held : Held). Stands form held packets bytes) (sym c.self.view_is), λ fault is. elim is [ ])),
      record {
        answers = in_more form (g.met.F.Framing.lawful c.args.form.now) _ _ _ _ _ _ c.self.view_is c.in_default.is c.deref.ensures.value c.in-More.ensures;
        after = tt;
      },
    )

pub returns-in-Fault : goal.returns-in-Fault
returns-in-Fault g c =
    let form = g.F.Framing.form c.args.form.now in
    let lawful = g.met.F.Framing.lawful c.args.form.now in (
      (refl, (λ _. tt), (behind_found form lawful _ _ _ _ _ _ _ _ c.self.view_is c.in_default.is c.deref.ensures.value c.in-Fault.ensures, λ fault is. ap Some is)),
      record {
        answers = in_found form lawful _ _ _ _ _ _ _ c.self.view_is c.in_default.is c.deref.ensures.value c.in-Fault.ensures;
        after = tt;
      },
    )

pub returns-in-Whole : goal.returns-in-Whole
returns-in-Whole g c =
    let form = g.F.Framing.form c.args.form.now in
    let lawful = g.met.F.Framing.lawful c.args.form.now in (
      (refl, (λ _. tt), (behind_packet form lawful _ _ _ _ _ _ _ _ _ _ c.self.view_is c.in_default.is c.deref.ensures.value c.deref-in-Whole.ensures.value c.in-Whole.ensures, λ fault is. elim is [ ])),
      record {
        answers = in_packet form lawful _ _ _ _ _ _ _ _ _ _ _ c.self.view_is c.in_default.is c.deref.ensures.value c.deref-in-Whole.ensures.value refl c.in-Whole.ensures;
        after = tt;
      },
    )
