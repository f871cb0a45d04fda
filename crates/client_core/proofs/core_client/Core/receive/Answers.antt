use Rattle.std.proofs.Common.{◌≡◌, ◌∙◌, ap, false, max, refl}
use Rattle.client_rules.specs.Client.{Client, at_moment}
use Rattle.client_rules.specs.Taking.{take}
use Rattle.client_core.specs.Kept.{Contents}
use Rattle.client_core.proofs.OwnLemmas.{take_own}
use Rattle.client_core.proofs.ResultLemmas.{done_by, result_done}
use Rattle.client_core.proofs.TakingLemmas.{took_ok}
use Rattle.client_core.proofs.core_client.Core.receive.Goals as goal

pub returns-in-Envelope-clause-opened : goal.returns-in-Envelope-clause-opened
returns-in-Envelope-clause-opened g c client envelope stands opens =
    let moment : c.later.result ≡ max client.now c.args.now = c.later.ensures ∙ ap (λ (own : Contents). max own.rest.now c.args.now) c.self.view_is ∙ ap (λ (own : Client). max own.now c.args.now) stands.rest in
    let got = rw moment at (rw c.in-Envelope.is at c.unseal.ensures.envelope) in
    let same : c.in-Envelope.envelope ≡ envelope = c.opens_what_it_sealed.ensures.one_envelope _ _ _ _ c.in-Envelope.envelope envelope got opens in
    rw same at (c.take_envelope.ensures.stands client stands)

pub returns-in-Refused-clause-opened : goal.returns-in-Refused-clause-opened
returns-in-Refused-clause-opened g c client envelope stands opens =
    let moment : c.later.result ≡ max client.now c.args.now = c.later.ensures ∙ ap (λ (own : Contents). max own.rest.now c.args.now) c.self.view_is ∙ ap (λ (own : Client). max own.now c.args.now) stands.rest in
    let got = rw moment at (rw c.in-Refused.is at c.unseal.ensures.refused) in
    absurd (c.opens_what_it_sealed.ensures.not_both _ _ _ _ envelope _ opens got)

pub returns-in-Envelope-clause-results : goal.returns-in-Envelope-clause-results
returns-in-Envelope-clause-results g c client envelope call answer stands opens brings =
    let moment : c.later.result ≡ max client.now c.args.now = c.later.ensures ∙ ap (λ (own : Contents). max own.rest.now c.args.now) c.self.view_is ∙ ap (λ (own : Client). max own.now c.args.now) stands.rest in
    let got = rw moment at (rw c.in-Envelope.is at c.unseal.ensures.envelope) in
    let same : c.in-Envelope.envelope ≡ envelope = c.opens_what_it_sealed.ensures.one_envelope _ _ _ _ c.in-Envelope.envelope envelope got opens in
    done_by c.tables_tell.ensures.states c.take_envelope.result _ client _ call answer (rw same at (c.take_envelope.ensures.stands client stands)) (result_done c.args.now envelope client call answer brings)

pub returns-in-Refused-clause-results : goal.returns-in-Refused-clause-results
returns-in-Refused-clause-results g c client envelope call answer stands opens brings =
    let moment : c.later.result ≡ max client.now c.args.now = c.later.ensures ∙ ap (λ (own : Contents). max own.rest.now c.args.now) c.self.view_is ∙ ap (λ (own : Client). max own.now c.args.now) stands.rest in
    let got = rw moment at (rw c.in-Refused.is at c.unseal.ensures.refused) in
    absurd (c.opens_what_it_sealed.ensures.not_both _ _ _ _ envelope _ opens got)

pub returns-in-Envelope-clause-came : goal.returns-in-Envelope-clause-came
returns-in-Envelope-clause-came g c client stands =
    record {
      after = take c.args.now c.in-Envelope.envelope client;
      took = c.take_envelope.ensures.stands client stands;
      own = take_own c.args.now c.in-Envelope.envelope client;
    }

pub returns-in-Refused-clause-came : goal.returns-in-Refused-clause-came
returns-in-Refused-clause-came g c client stands =
    record {
      after = at_moment c.args.now client;
      took = took_ok false _ client (at_moment c.args.now client) c.reach.ensures.living (c.reach.ensures.stands client stands);
      own = refl;
    }

pub returns-in-Memory-clause-came : goal.returns-in-Memory-clause-came
returns-in-Memory-clause-came g c client stands = record { after = client; took = stands; own = refl }
