use Rattle.std.proofs.Common.{◌≡◌, ◌∙◌, ℕ, false, ap, subst, arith}
use Rattle.msg_ids.specs.Counters.{Counters, after_next, next_number, seq_of}
use Rattle.service_tl.specs.declared.lists.Message.{Message}
use Rattle.call_table.specs.Table.{no_calls, remembered}
use Rattle.call_table.specs.Kept.{Stands as StandsFor}
use Rattle.client_rules.specs.Client.{Client, after_message, numbered, time_of}
use Rattle.client_rules.specs.Flush.{remembers}
use Rattle.client_rules.specs.Sending.{draw_after_packet, packet_of}
use Rattle.client_core.specs.Filled.{body_in}
use Rattle.client_core.specs.Flushed.{IsSealed, setting_of}
use Rattle.client_core.specs.Kept.{Stands}
use Rattle.client_core.proofs.NumberLemmas.{next_behind}
use Rattle.client_core.proofs.core_client.Core.send_container.Goals as goal

pub invariant_of-self : goal.invariant_of-self
invariant_of-self g c = (
  rw (c.remember.ensures.kept) (c.calls_stay_sound.ensures.later c.self.inside.numbers.last _ _ (omega (arith, ap (λ (own : Counters). own.last) c.given-number.ensures.counted, next_behind c.self.inside.numbers.last c.time-at.result)) c.self.invariant.0),
  c.self.invariant.1,
  c.self.invariant.2,
)

pub returns-clause-stands : goal.returns-clause-stands
returns-clause-stands g c client stands =
    let inside : Stands (Rattle.client_core.specs.contracts.core_client.Core.the_view c.self.inside) client = rw c.self.view_is stands in
    let at = c.time-at.result in
    let now : at ≡ time_of client = c.time-at.ensures client stands in
    let counters : c.self.inside.numbers ≡ client.counters = ap (λ (rest : Client). rest.counters) inside.rest in
    let body = body_in c.args.filled in
    let same : record { number = c.given-number.result.0; seq = c.given-number.result.1; body = body } ≡ numbered false body client =
    ap (λ own. record { number = own.0; seq = own.1; body = body }) c.given-number.ensures.given
    ∙ (ap (λ (moment : ℕ). record { number = next_number c.self.inside.numbers.last moment; seq = seq_of c.self.inside.numbers.content_messages false; body = body }) now
    ∙ ap (λ (own : Counters). record { number = next_number own.last (time_of client); seq = seq_of own.content_messages false; body = body }) counters) in
    record {
      rest = ap (λ (rest : Client). record rest { counters = c.given-number.new.numbers }) inside.rest
          ∙ ap (λ (own : Counters). record client { counters = own; table = no_calls })
          (c.given-number.ensures.counted ∙ (ap (λ (moment : ℕ). after_next c.self.inside.numbers moment false) now ∙ ap (λ (own : Counters). after_next own (time_of client) false) counters));
      calls = subst (λ (one : Message). StandsFor c.remember.new.self (record client.table { packets = remembered one.number c.args.filled.inner client.table.packets })) same
          (c.remember.ensures.stands client.table inside.calls);
    }

pub returns-clause-sealed : goal.returns-clause-sealed
returns-clause-sealed g c client stands =
    let after = returns-clause-stands g c client stands in
    let setting = setting_of g.D.Draw.step (g.S.Seal.keys c.args.seal.now) in
    let at = c.time-at.result in
    let now : at ≡ time_of client = c.time-at.ensures client stands in
    let inside : Stands (Rattle.client_core.specs.contracts.core_client.Core.the_view c.self.inside) client = rw c.self.view_is stands in
    let counters : c.self.inside.numbers ≡ client.counters = ap (λ (rest : Client). rest.counters) inside.rest in
    let body = body_in c.args.filled in
    let same : record { number = c.given-number.result.0; seq = c.given-number.result.1; body = body } ≡ numbered false body client =
    ap (λ own. record { number = own.0; seq = own.1; body = body }) c.given-number.ensures.given
    ∙ (ap (λ (moment : ℕ). record { number = next_number c.self.inside.numbers.last moment; seq = seq_of c.self.inside.numbers.content_messages false; body = body }) now
    ∙ ap (λ (own : Counters). record { number = next_number own.last (time_of client); seq = seq_of own.content_messages false; body = body }) counters) in
    subst (λ (one : Message). IsSealed g.S.Seal.lock (g.S.Seal.keys c.args.seal.now) (packet_of setting client c.args.draw.now one) c.sealed_in_place.result) same
    (c.sealed_in_place.ensures.sealed (remembers (numbered false body client).number c.args.filled.inner (after_message false client)) after)

pub returns-clause-drawn : goal.returns-clause-drawn
returns-clause-drawn g c client stands =
    let setting = setting_of g.D.Draw.step (g.S.Seal.keys c.args.seal.now) in
    let at = c.time-at.result in
    let now : at ≡ time_of client = c.time-at.ensures client stands in
    let inside : Stands (Rattle.client_core.specs.contracts.core_client.Core.the_view c.self.inside) client = rw c.self.view_is stands in
    let counters : c.self.inside.numbers ≡ client.counters = ap (λ (rest : Client). rest.counters) inside.rest in
    let body = body_in c.args.filled in
    let same : record { number = c.given-number.result.0; seq = c.given-number.result.1; body = body } ≡ numbered false body client =
    ap (λ own. record { number = own.0; seq = own.1; body = body }) c.given-number.ensures.given
    ∙ (ap (λ (moment : ℕ). record { number = next_number c.self.inside.numbers.last moment; seq = seq_of c.self.inside.numbers.content_messages false; body = body }) now
    ∙ ap (λ (own : Counters). record { number = next_number own.last (time_of client); seq = seq_of own.content_messages false; body = body }) counters) in
    c.sealed_in_place.ensures.drawn ∙ ap (draw_after_packet setting c.args.draw.now) same
