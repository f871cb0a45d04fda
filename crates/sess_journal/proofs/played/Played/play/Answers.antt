use Rattle.std.proofs.Common.{sym, ap, subst, arith, ◌∙◌}
use Rattle.sess_records.specs.declared.records.Event.TheVariants.{Packet, Tick, Attach, Begin, Ran, Interrupted}
use Rattle.sess_journal.specs.Playing.{Player, StandsAt, basis_for}
use Rattle.sess_journal.specs.Replay.{Bases, bases_of}
use Rattle.sess_journal.proofs.PlayLemmas.{not_below, on_err, on_ok, plays_none, plays_of}
use Rattle.sess_journal.proofs.played.Played.play.Goals as goal

pub returns-in-Packet-clause-played : goal.returns-in-Packet-clause-played
returns-in-Packet-clause-played g c = λ reached stands.
    let bases : Bases g.row.S.Denot g.row.D.Denot = bases_of g.S.Seal.lock g.S.Seal.keys g.D.Draw.step g.D.Seeded.standing_at g.D.Seeded.place_of in
    let seeded_places = g.met.D.Seeded.places in
    let inside : Player g.row.S.Denot g.row.D.Denot =
    record { seed = c.self.inside.seed; server = c.self.inside.server; latest = c.self.inside.latest; draw = c.self.inside.draw; begun = c.self.inside.begun } in
    let its : StandsAt bases reached inside = subst (λ (p : Player g.row.S.Denot g.row.D.Denot). StandsAt bases reached p) (sym c.self.view_is) stands in
    let low = not_below bases inside reached c.args.entry.now.moment c.args.entry.now.place c.seconds.result c.place.result
    (λ place below. seeded_places c.self.inside.seed place below) its c.seconds.ensures.value c.place.ensures (omega (arith, c.if-entry-seconds.false)) (omega (arith, c.if-entry-place.false)) in
    on_ok c.hears.result
    (λ leads. plays_of bases c.args.self.now c.hears.new.self c.args.entry.now (Packet c.as_slice.result.now) reached c.hears.ensures.same_seal c.hears.ensures.same_seed (c.in-Packet.is ∙ ap Packet (sym c.as_slice.ensures.value)) low.0 low.1 leads)
    (c.hears.ensures.led reached stands low.0)

pub returns-in-Tick-clause-played : goal.returns-in-Tick-clause-played
returns-in-Tick-clause-played g c = λ reached stands.
    let bases : Bases g.row.S.Denot g.row.D.Denot = bases_of g.S.Seal.lock g.S.Seal.keys g.D.Draw.step g.D.Seeded.standing_at g.D.Seeded.place_of in
    let seeded_places = g.met.D.Seeded.places in
    let inside : Player g.row.S.Denot g.row.D.Denot =
    record { seed = c.self.inside.seed; server = c.self.inside.server; latest = c.self.inside.latest; draw = c.self.inside.draw; begun = c.self.inside.begun } in
    let its : StandsAt bases reached inside = subst (λ (p : Player g.row.S.Denot g.row.D.Denot). StandsAt bases reached p) (sym c.self.view_is) stands in
    let low = not_below bases inside reached c.args.entry.now.moment c.args.entry.now.place c.seconds.result c.place.result
    (λ place below. seeded_places c.self.inside.seed place below) its c.seconds.ensures.value c.place.ensures (omega (arith, c.if-entry-seconds.false)) (omega (arith, c.if-entry-place.false)) in
    on_ok c.ticks.result
    (λ leads. plays_of bases c.args.self.now c.ticks.new.self c.args.entry.now Tick reached c.ticks.ensures.same_seal c.ticks.ensures.same_seed c.in-Tick.is low.0 low.1 leads)
    (c.ticks.ensures.led reached stands low.0)

pub returns-in-Attach-clause-played : goal.returns-in-Attach-clause-played
returns-in-Attach-clause-played g c = λ reached stands.
    let bases : Bases g.row.S.Denot g.row.D.Denot = bases_of g.S.Seal.lock g.S.Seal.keys g.D.Draw.step g.D.Seeded.standing_at g.D.Seeded.place_of in
    let seeded_places = g.met.D.Seeded.places in
    let inside : Player g.row.S.Denot g.row.D.Denot =
    record { seed = c.self.inside.seed; server = c.self.inside.server; latest = c.self.inside.latest; draw = c.self.inside.draw; begun = c.self.inside.begun } in
    let its : StandsAt bases reached inside = subst (λ (p : Player g.row.S.Denot g.row.D.Denot). StandsAt bases reached p) (sym c.self.view_is) stands in
    let low = not_below bases inside reached c.args.entry.now.moment c.args.entry.now.place c.seconds.result c.place.result
    (λ place below. seeded_places c.self.inside.seed place below) its c.seconds.ensures.value c.place.ensures (omega (arith, c.if-entry-seconds.false)) (omega (arith, c.if-entry-place.false)) in
    on_ok c.attaches.result
    (λ leads. plays_of bases c.args.self.now c.attaches.new.self c.args.entry.now (Attach c.in-Attach.key c.in-Attach.session) reached c.attaches.ensures.same_seal c.attaches.ensures.same_seed c.in-Attach.is low.0 low.1 leads)
    (c.attaches.ensures.led reached stands low.0)

pub returns-in-Begin-clause-played : goal.returns-in-Begin-clause-played
returns-in-Begin-clause-played g c = λ reached stands.
    let bases : Bases g.row.S.Denot g.row.D.Denot = bases_of g.S.Seal.lock g.S.Seal.keys g.D.Draw.step g.D.Seeded.standing_at g.D.Seeded.place_of in
    let seeded_places = g.met.D.Seeded.places in
    let inside : Player g.row.S.Denot g.row.D.Denot =
    record { seed = c.self.inside.seed; server = c.self.inside.server; latest = c.self.inside.latest; draw = c.self.inside.draw; begun = c.self.inside.begun } in
    let its : StandsAt bases reached inside = subst (λ (p : Player g.row.S.Denot g.row.D.Denot). StandsAt bases reached p) (sym c.self.view_is) stands in
    let low = not_below bases inside reached c.args.entry.now.moment c.args.entry.now.place c.seconds.result c.place.result
    (λ place below. seeded_places c.self.inside.seed place below) its c.seconds.ensures.value c.place.ensures (omega (arith, c.if-entry-seconds.false)) (omega (arith, c.if-entry-place.false)) in
    on_ok c.begins.result
    (λ leads. plays_of bases c.args.self.now c.begins.new.self c.args.entry.now (Begin c.in-Begin.job) reached c.begins.ensures.same_seal c.begins.ensures.same_seed c.in-Begin.is low.0 low.1 leads)
    (c.begins.ensures.led reached c.args.entry.now.moment c.args.entry.now.place stands)

pub returns-in-Ran-clause-played : goal.returns-in-Ran-clause-played
returns-in-Ran-clause-played g c = λ reached stands.
    let bases : Bases g.row.S.Denot g.row.D.Denot = bases_of g.S.Seal.lock g.S.Seal.keys g.D.Draw.step g.D.Seeded.standing_at g.D.Seeded.place_of in
    let seeded_places = g.met.D.Seeded.places in
    let inside : Player g.row.S.Denot g.row.D.Denot =
    record { seed = c.self.inside.seed; server = c.self.inside.server; latest = c.self.inside.latest; draw = c.self.inside.draw; begun = c.self.inside.begun } in
    let its : StandsAt bases reached inside = subst (λ (p : Player g.row.S.Denot g.row.D.Denot). StandsAt bases reached p) (sym c.self.view_is) stands in
    let low = not_below bases inside reached c.args.entry.now.moment c.args.entry.now.place c.seconds.result c.place.result
    (λ place below. seeded_places c.self.inside.seed place below) its c.seconds.ensures.value c.place.ensures (omega (arith, c.if-entry-seconds.false)) (omega (arith, c.if-entry-place.false)) in
    on_ok c.ran.result
    (λ leads. plays_of bases c.args.self.now c.ran.new.self c.args.entry.now (Ran c.as_slice-in-Ran.result.now) reached c.ran.ensures.same_seal c.ran.ensures.same_seed (c.in-Ran.is ∙ ap Ran (sym c.as_slice-in-Ran.ensures.value)) low.0 low.1 leads)
    (c.ran.ensures.led reached stands low.0)

pub returns-in-Interrupted-clause-played : goal.returns-in-Interrupted-clause-played
returns-in-Interrupted-clause-played g c = λ reached stands.
    let bases : Bases g.row.S.Denot g.row.D.Denot = bases_of g.S.Seal.lock g.S.Seal.keys g.D.Draw.step g.D.Seeded.standing_at g.D.Seeded.place_of in
    let seeded_places = g.met.D.Seeded.places in
    let inside : Player g.row.S.Denot g.row.D.Denot =
    record { seed = c.self.inside.seed; server = c.self.inside.server; latest = c.self.inside.latest; draw = c.self.inside.draw; begun = c.self.inside.begun } in
    let its : StandsAt bases reached inside = subst (λ (p : Player g.row.S.Denot g.row.D.Denot). StandsAt bases reached p) (sym c.self.view_is) stands in
    let low = not_below bases inside reached c.args.entry.now.moment c.args.entry.now.place c.seconds.result c.place.result
    (λ place below. seeded_places c.self.inside.seed place below) its c.seconds.ensures.value c.place.ensures (omega (arith, c.if-entry-seconds.false)) (omega (arith, c.if-entry-place.false)) in
    on_ok c.interrupted.result
    (λ leads. plays_of bases c.args.self.now c.interrupted.new.self c.args.entry.now Interrupted reached c.interrupted.ensures.same_seal c.interrupted.ensures.same_seed c.in-Interrupted.is low.0 low.1 leads)
    (c.interrupted.ensures.led reached stands low.0)

pub returns-in-Packet-clause-unlawful : goal.returns-in-Packet-clause-unlawful
returns-in-Packet-clause-unlawful g c = λ reached stands.
    let bases : Bases g.row.S.Denot g.row.D.Denot = bases_of g.S.Seal.lock g.S.Seal.keys g.D.Draw.step g.D.Seeded.standing_at g.D.Seeded.place_of in
    let seeded_places = g.met.D.Seeded.places in
    let inside : Player g.row.S.Denot g.row.D.Denot =
    record { seed = c.self.inside.seed; server = c.self.inside.server; latest = c.self.inside.latest; draw = c.self.inside.draw; begun = c.self.inside.begun } in
    let its : StandsAt bases reached inside = subst (λ (p : Player g.row.S.Denot g.row.D.Denot). StandsAt bases reached p) (sym c.self.view_is) stands in
    let low = not_below bases inside reached c.args.entry.now.moment c.args.entry.now.place c.seconds.result c.place.result
    (λ place below. seeded_places c.self.inside.seed place below) its c.seconds.ensures.value c.place.ensures (omega (arith, c.if-entry-seconds.false)) (omega (arith, c.if-entry-place.false)) in
    on_err c.hears.result
    (λ fault none is. plays_none (basis_for bases c.args.self.now) c.args.entry.now (Packet c.as_slice.result.now) reached (c.in-Packet.is ∙ ap Packet (sym c.as_slice.ensures.value)) (none is))
    (c.hears.ensures.unlawful reached stands low.0)

pub returns-in-Ran-clause-unlawful : goal.returns-in-Ran-clause-unlawful
returns-in-Ran-clause-unlawful g c = λ reached stands.
    let bases : Bases g.row.S.Denot g.row.D.Denot = bases_of g.S.Seal.lock g.S.Seal.keys g.D.Draw.step g.D.Seeded.standing_at g.D.Seeded.place_of in
    let seeded_places = g.met.D.Seeded.places in
    let inside : Player g.row.S.Denot g.row.D.Denot =
    record { seed = c.self.inside.seed; server = c.self.inside.server; latest = c.self.inside.latest; draw = c.self.inside.draw; begun = c.self.inside.begun } in
    let its : StandsAt bases reached inside = subst (λ (p : Player g.row.S.Denot g.row.D.Denot). StandsAt bases reached p) (sym c.self.view_is) stands in
    let low = not_below bases inside reached c.args.entry.now.moment c.args.entry.now.place c.seconds.result c.place.result
    (λ place below. seeded_places c.self.inside.seed place below) its c.seconds.ensures.value c.place.ensures (omega (arith, c.if-entry-seconds.false)) (omega (arith, c.if-entry-place.false)) in
    on_err c.ran.result
    (λ fault none is. plays_none (basis_for bases c.args.self.now) c.args.entry.now (Ran c.as_slice-in-Ran.result.now) reached (c.in-Ran.is ∙ ap Ran (sym c.as_slice-in-Ran.ensures.value)) (none is))
    (c.ran.ensures.unlawful reached stands)

pub returns-in-Interrupted-clause-unlawful : goal.returns-in-Interrupted-clause-unlawful
returns-in-Interrupted-clause-unlawful g c = λ reached stands.
    let bases : Bases g.row.S.Denot g.row.D.Denot = bases_of g.S.Seal.lock g.S.Seal.keys g.D.Draw.step g.D.Seeded.standing_at g.D.Seeded.place_of in
    let seeded_places = g.met.D.Seeded.places in
    let inside : Player g.row.S.Denot g.row.D.Denot =
    record { seed = c.self.inside.seed; server = c.self.inside.server; latest = c.self.inside.latest; draw = c.self.inside.draw; begun = c.self.inside.begun } in
    let its : StandsAt bases reached inside = subst (λ (p : Player g.row.S.Denot g.row.D.Denot). StandsAt bases reached p) (sym c.self.view_is) stands in
    let low = not_below bases inside reached c.args.entry.now.moment c.args.entry.now.place c.seconds.result c.place.result
    (λ place below. seeded_places c.self.inside.seed place below) its c.seconds.ensures.value c.place.ensures (omega (arith, c.if-entry-seconds.false)) (omega (arith, c.if-entry-place.false)) in
    on_err c.interrupted.result
    (λ fault none is. plays_none (basis_for bases c.args.self.now) c.args.entry.now Interrupted reached c.in-Interrupted.is (none is))
    (c.interrupted.ensures.unlawful reached stands)
