use Rattle.std.proofs.Common.{None, refl, sym, subst}
use Rattle.ring_rules.specs.Binding.{keys_of}
use Rattle.msg_ids.specs.Moments.{moment_of}
use Rattle.server_rules.specs.Answer.{after_tick}
use Rattle.server_session.specs.Says.{setting_of}
use Rattle.sess_journal.specs.Playing.{Player, StandsAt, basis_for}
use Rattle.sess_journal.specs.Replay.{Bases, bases_of, reached_by}
use Rattle.sess_journal.proofs.PlayLemmas.{event_stands}
use Rattle.sess_journal.proofs.played.Played.ticks.Goals as goal

pub returns-clause-led : goal.returns-clause-led
returns-clause-led g c = λ reached stands le.
    let bases : Bases g.row.S.Denot g.row.D.Denot = bases_of g.S.Seal.lock g.S.Seal.keys g.D.Draw.step g.D.Seeded.standing_at g.D.Seeded.place_of in
    let player : Player g.row.S.Denot g.row.D.Denot =
    record { seed = c.self.inside.seed; server = c.tick.new.self; latest = c.new-now.result; draw = c.tick.new.draw; begun = None } in
    let basis = basis_for bases player in
    let old = c.self.inside.server in
    let at : StandsAt bases reached (record { seed = c.self.inside.seed; server = c.self.inside.server; latest = c.self.inside.latest; draw = c.self.inside.draw; begun = c.self.inside.begun }) =
    subst (λ (p : Player g.row.S.Denot g.row.D.Denot). StandsAt bases reached p) (sym c.self.view_is) stands in
    let keys = keys_of basis.keys in
    let draw = basis.at c.args.place in
    let seeded_draws = c.seeded_draws_go_on.ensures.after in
    let seeded_places = g.met.D.Seeded.places in
    let answer = after_tick (setting_of (moment_of c.args.moment) g.D.Draw.step keys) reached.server draw in (
      reached_by basis answer,
      (answer, refl, refl),
      event_stands bases player (λ n d. after_tick (setting_of n g.D.Draw.step keys) reached.server d) g.S.Seal.lock (g.S.Seal.keys old.seal)
          c.in_ok-tick.field-0 old.moment reached.server.now c.args.moment c.args.place c.new-now.result c.at.result
          (λ place words below. seeded_draws c.self.inside.seed place words below)
          (λ place below. seeded_places c.self.inside.seed place below)
          c.ranges.place.fits at.stands.stands.moment le at.stands.between.at
          (λ n. c.events_draw_words.ensures.tick (setting_of n g.D.Draw.step keys) reached.server draw)
          (λ n. refl) c.new-now.ensures c.at.ensures.standing
          (c.in_ok-tick.ensures.given keys reached.server at.stands) refl refl,
    )
