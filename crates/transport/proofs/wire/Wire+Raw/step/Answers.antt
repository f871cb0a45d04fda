use Rattle.std.proofs.Common.{◌≡◌, ◌++◌, [], List, ℕ, take, drop, length, sym, ap, ap₂, ◌-◌, subst, ◌∙◌}
use Rattle.std.proofs.lemmas.List.{take_rest}
use Rattle.transport.specs.Starts.{Opening, Starts, IsRefused}
use Rattle.transport.specs.Wires.{Line, Hears}
use Rattle.transport.proofs.Starting.{refused_on, starts_on, streams_stand}
use Rattle.transport.proofs.Answering.{joined, opened_on}
use Rattle.transport.proofs.Begun.{begun, begun_out, on_ok_get}
use Rattle.transport.proofs.wire.Wire+Raw.step.Goals as goal

pub returns-in-Refused-clause-refuses : goal.returns-in-Refused-clause-refuses
returns-in-Refused-clause-refuses c =
    let first : List ℕ = c.with-first.result.0 in
    let more : List ℕ = drop c.with-first.result.1 c.args.piece.now in
    let whole : c.args.self ++ c.args.piece.now ≡ first ++ more =
    ap (λ (l : List ℕ). l ++ c.args.piece.now) (sym c.self.view_is)
    ∙ joined c.self.inside.state c.args.piece.now first c.with-first.result.1 c.with-first.ensures.bytes in
    let looked : IsRefused first first = subst (λ (l : List ℕ). IsRefused l l) c.as_slice.ensures.value c.in-Refused.ensures in
    subst (λ (l : List ℕ). IsRefused l c.whole.result) (sym whole)
    (subst (λ (w : List ℕ). IsRefused (first ++ more) w) (sym c.whole.ensures) (refused_on first first more c.with-first.ensures.most looked))

pub returns-else-is_err-2-clause-opens : goal.returns-else-is_err-2-clause-opens
returns-else-is_err-2-clause-opens c =
    let start : ℕ = c.in-Opens.start in
    let slice : List ℕ = c.as_slice.result.now in
    let first : List ℕ = c.with-first.result.0 in
    let more : List ℕ = drop c.with-first.result.1 c.args.piece.now in
    let opening : Opening = record { form = c.in-Opens.form; up = c.in-Opens.up; down = c.in-Opens.down } in
    let whole : c.args.self ++ c.args.piece.now ≡ first ++ more =
    ap (λ (l : List ℕ). l ++ c.args.piece.now) (sym c.self.view_is)
    ∙ joined c.self.inside.state c.args.piece.now first c.with-first.result.1 c.with-first.ensures.bytes in
    let looked : Starts first opening (drop start first) =
    subst (λ (l : List ℕ). Starts l opening (drop start l)) c.as_slice.ensures.value c.in-Opens.ensures.1 in
    let starts : Starts (first ++ more) opening (drop start first ++ more) = starts_on first opening (drop start first) more looked in
    let stand = streams_stand first opening (drop start first) looked in
    let fresh : Hears c.new-wire.result opening.up [] [] =
    begun c.buffers_stand.ensures.fresh c.in-Opens.form c.in-Opens.up c.in-Opens.down stand.0 c.new-wire.result c.new-wire.ensures in
    let slice2 : List ℕ = c.as_slice-in-Opens.result.now in
    let piece : List ℕ = c.args.piece.now in
    let used : ℕ = c.with-first.result.1 in
    let behind : List ℕ = take (length slice2 - start) (drop start slice2) in
    let one = on_ok_get c.feed.result (sym c.is_err.ensures.value ∙ c.if-is_err.false) c.feed.ensures.hears opening.up [] [] fresh in
    let two = on_ok_get c.feed-in-Opens.result (sym c.is_err-in-Opens.ensures.value ∙ c.if-is_err-2.false) c.feed-in-Opens.ensures.hears opening.up [] behind one in
    let rest : behind ++ take (length piece - used) (drop used piece) ≡ drop start first ++ more =
    ap₂ (λ (k l : List ℕ). k ++ l) (take_rest slice2 start ∙ ap (λ (l : List ℕ). drop start l) c.as_slice-in-Opens.ensures.value)
    (take_rest piece used) in
    record {
      opening = opening;
      rest = drop start first ++ more;
      starts = subst (λ (l : List ℕ). Starts l opening (drop start first ++ more)) (sym whole) starts;
      form = c.feed-in-Opens.ensures.same_out.0 ∙ c.feed.ensures.same_out.0 ∙ ap (λ (l : Line). l.form) c.new-wire.ensures;
      hears = subst (λ (l : List ℕ). Hears c.feed-in-Opens.new.self opening.up [] l) rest two;
      tells = begun_out c.feed-in-Opens.new.self opening.down
          (c.feed-in-Opens.ensures.same_out.1 ∙ c.feed.ensures.same_out.1 ∙ ap (λ (l : Line). l.writing) c.new-wire.ensures)
          (c.feed-in-Opens.ensures.same_out.2 ∙ c.feed.ensures.same_out.2 ∙ ap (λ (l : Line). l.number) c.new-wire.ensures) stand.1;
    }

pub returns-then-is_err-clause-known_on_memory : goal.returns-then-is_err-clause-known_on_memory
returns-then-is_err-clause-known_on_memory c =
    opened_on (c.args.self ++ c.args.piece.now) c.as_slice.result.now c.with-first.result.0 (drop c.with-first.result.1 c.args.piece.now)
    c.in-Opens.start (record { form = c.in-Opens.form; up = c.in-Opens.up; down = c.in-Opens.down })
    (ap (λ (l : List ℕ). l ++ c.args.piece.now) (sym c.self.view_is)
    ∙ joined c.self.inside.state c.args.piece.now c.with-first.result.0 c.with-first.result.1 c.with-first.ensures.bytes)
    c.as_slice.ensures.value c.in-Opens.ensures.1

pub returns-then-is_err-2-clause-known_on_memory : goal.returns-then-is_err-2-clause-known_on_memory
returns-then-is_err-2-clause-known_on_memory c =
    opened_on (c.args.self ++ c.args.piece.now) c.as_slice.result.now c.with-first.result.0 (drop c.with-first.result.1 c.args.piece.now)
    c.in-Opens.start (record { form = c.in-Opens.form; up = c.in-Opens.up; down = c.in-Opens.down })
    (ap (λ (l : List ℕ). l ++ c.args.piece.now) (sym c.self.view_is)
    ∙ joined c.self.inside.state c.args.piece.now c.with-first.result.0 c.with-first.result.1 c.with-first.ensures.bytes)
    c.as_slice.ensures.value c.in-Opens.ensures.1
