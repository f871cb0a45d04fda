use Rattle.std.proofs.Common.{None, refl, sym, subst, ◌∙◌}
use Rattle.ring_rules.specs.Binding.{keys_of}
use Rattle.server_session.specs.Says.{setting_of}
use Rattle.sess_journal.specs.Playing.{Player, StandsAt, basis_for}
use Rattle.sess_journal.specs.Replay.{Bases, after_reply, always, bases_of}
use Rattle.sess_journal.proofs.PlayLemmas.{event_stands, reply_now}
use Rattle.sess_journal.proofs.played.Played.ends.Goals as goal

pub returns-clause-ended : goal.returns-clause-ended
returns-clause-ended g c = λ reached stands le.
    let bases : Bases g.row.S.Denot g.row.D.Denot = bases_of g.S.Seal.lock g.S.Seal.keys g.D.Draw.step g.D.Seeded.standing_at g.D.Seeded.place_of in
    let player : Player g.row.S.Denot g.row.D.Denot =
    record { seed = c.self.inside.seed; server = c.work.new.self; latest = c.new-now.result; draw = c.work.new.draw; begun = None } in
    let basis = basis_for bases player in
    let old = c.self.inside.server in
    let at : StandsAt bases reached (record { seed = c.self.inside.seed; server = c.self.inside.server; latest = c.self.inside.latest; draw = c.self.inside.draw; begun = c.self.inside.begun }) =
    subst (λ (p : Player g.row.S.Denot g.row.D.Denot). StandsAt bases reached p) (sym c.self.view_is) stands in
    let keys = keys_of basis.keys in
    let draw = basis.at c.args.place in
    let seeded_draws = c.seeded_draws_go_on.ensures.after in
    let seeded_places = g.met.D.Seeded.places in
    let job = c.in-Some.job in (
      job,
      sym at.begun_is ∙ c.in-Some.is,
      event_stands bases player (λ n d. after_reply (setting_of n g.D.Draw.step keys) job c.args.recorded reached.server d) g.S.Seal.lock (g.S.Seal.keys old.seal)
          c.in_ok-work.field-0 old.moment reached.server.now c.args.moment c.args.place c.new-now.result c.at.result
          (λ place words below. seeded_draws c.self.inside.seed place words below)
          (λ place below. seeded_places c.self.inside.seed place below)
          c.ranges.place.fits at.stands.stands.moment le at.stands.between.at
          (λ n. c.events_draw_words.ensures.work (setting_of n g.D.Draw.step keys) job always c.args.recorded reached.server draw)
          (λ n. reply_now (setting_of n g.D.Draw.step keys) job c.args.recorded reached.server draw) c.new-now.ensures c.at.ensures.standing
          (c.in_ok-work.ensures.given keys reached.server at.stands) refl refl,
    )
