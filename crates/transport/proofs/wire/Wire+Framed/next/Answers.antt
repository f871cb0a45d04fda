use Rattle.std.proofs.Common.{List, ℕ, Option, refl, sym, ap, subst, ◌∙◌}
use Rattle.cipher_modes.specs.CounterMode.{CtrState}
use Rattle.framing.specs.Holding.{Answers, taken}
use Rattle.transport.specs.Forms.{framing_of}
use Rattle.transport.specs.Directions.{through}
use Rattle.transport.specs.Wires.{Line, Hears}
use Rattle.transport.proofs.Hearing.{heard_next}
use Rattle.transport.proofs.Wholes.{takes_past, next_sent, none_sent}
use Rattle.transport.proofs.wire.Wire+Framed.next.Goals as goal

pub returns : goal.returns
returns c =
    let old : Line = c.self.inside.state in
    let new : Line = c.next.follows.lender-at-none in
    let after = c.next.follows.holds-at-none in
    let hears = subst (λ (o : Line). (from : Option CtrState) (packets : List (List ℕ)) (bytes : List ℕ) → Hears o from packets bytes
    → Hears new from (taken packets c.next.result) bytes) c.self.view_is
    (λ from packets bytes hears. subst (λ (l : Line). Hears l from (taken packets c.next.result) bytes) (sym after.0)
    (heard_next old new.held c.next.result from packets bytes c.next.ensures.answers after.1 after.2 hears)) in
    let form = ap (λ (l : Line). l.form) after.0 ∙ ap (λ (l : Line). l.form) c.self.view_is in
    let answers = subst (λ (o : Line). (from : Option CtrState) (packets : List (List ℕ)) (bytes : List ℕ) → Hears o from packets bytes
    → Answers (framing_of o.form) packets (through from bytes) c.next.result) c.self.view_is
    (λ from packets bytes hears. c.next.ensures.answers packets (through from bytes) hears.stands) in (
      (
        refl,
        (λ _. tt),
        (
          hears,
          form,
          ap (λ (l : Line). l.writing) after.0 ∙ ap (λ (l : Line). l.writing) c.self.view_is,
          ap (λ (l : Line). l.number) after.0 ∙ ap (λ (l : Line). l.number) c.self.view_is,
          after.2,
          (λ packets bytes takes. takes_past _ new packets bytes c.next.result hears form takes),
        ),
      ),
      record {
        answers = answers;
        sent = λ client sent heard left packet bytes sends takes. next_sent c.ctr_pieces_equal_the_whole.ensures c.one_reading.ensures.apart
            c.streams_go_on.ensures.lasts c.one_answer.ensures.pair c.one_answer.ensures.not_both client _ sent heard bytes c.next.result sends takes answers left packet;
        no_more = λ client sent heard bytes sends takes. none_sent c.ctr_pieces_equal_the_whole.ensures c.one_reading.ensures.apart
            c.streams_go_on.ensures.lasts c.one_answer.ensures.pair c.one_answer.ensures.not_both client _ sent heard bytes c.next.result sends takes answers;
        after = tt;
      },
    )
