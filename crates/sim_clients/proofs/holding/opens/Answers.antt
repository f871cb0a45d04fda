use Rattle.std.proofs.Common.{◌≡◌, sym, subst}
use Rattle.std.specs.Prelude.{IfOk, is_some}
use Rattle.envelope.specs.declared.parts.Dir.TheVariants.{Down}
use Rattle.sim_clients.proofs.ReadingLemmas.{opens_none, opens_some}
use Rattle.sim_clients.proofs.holding.opens.Goals.{in-Envelope, in-Refused, in-Memory}
use Rattle.sim_clients.proofs.holding.opens.Goals as goal

pub returns-clause-told : goal.returns-clause-told
returns-clause-told g c opens reading = elim c.match-unseal.branch [
  | in-Envelope w ↦ subst (λ r. IfOk r (λ told. told ≡ is_some (opens c.args.now Down c.args.bytes.now))) (sym w.result-is)
      (opens_some g.S.Seal.lock (g.S.Seal.keys c.args.seal.now) opens c.args.now c.args.bytes.now w.in-Envelope.field-0 reading w.in-Envelope.ensures.envelope)
  | in-Refused w ↦ subst (λ r. IfOk r (λ told. told ≡ is_some (opens c.args.now Down c.args.bytes.now))) (sym w.result-is)
      (opens_none g.S.Seal.lock (g.S.Seal.keys c.args.seal.now) opens c.args.now c.args.bytes.now reading
      (λ envelope opening. c.opens_what_it_sealed.ensures.not_both (g.S.Seal.keys c.args.seal.now) c.args.now Down c.args.bytes.now envelope w.in-Refused.field-0 opening w.in-Refused.ensures.refused))
  | in-Memory w ↦ subst (λ r. IfOk r (λ told. told ≡ is_some (opens c.args.now Down c.args.bytes.now))) (sym w.result-is) tt
]
