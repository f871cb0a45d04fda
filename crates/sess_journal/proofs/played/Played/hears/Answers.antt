use Rattle.std.proofs.Common.{ℕ, None, refl, sym, subst, max}
use Rattle.envelope.specs.declared.parts.Dir.TheVariants.{Up}
use Rattle.envelope.specs.Opening.{Opens}
use Rattle.ring_rules.specs.Binding.{keys_of}
use Rattle.msg_ids.specs.Moments.{moment_of}
use Rattle.server_core.specs.declared.desk.Heard.{Heard}
use Rattle.server_core.specs.Packets.{IsHeardOf, brought_in, effects_in}
use Rattle.server_dispatch.specs.Rings.{AreOf}
use Rattle.server_rules.specs.Answer.{after_packet}
use Rattle.server_session.specs.Says.{setting_of}
use Rattle.sess_journal.specs.Playing.{Player, StandsAt, basis_for}
use Rattle.sess_journal.specs.Replay.{Bases, bases_of, reached_by}
use Rattle.sess_journal.proofs.PlayLemmas.{event_moment, event_stands, refused_only}
use Rattle.sess_journal.proofs.played.Played.hears.Goals as goal

pub returns-in-NotOpened-clause-unlawful : goal.returns-in-NotOpened-clause-unlawful
returns-in-NotOpened-clause-unlawful g c = λ reached stands le is after leads.
    let bases : Bases g.row.S.Denot g.row.D.Denot = bases_of g.S.Seal.lock g.S.Seal.keys g.D.Draw.step g.D.Seeded.standing_at g.D.Seeded.place_of in
    let old = c.self.inside.server in
    let at : StandsAt bases reached (record { seed = c.self.inside.seed; server = c.self.inside.server; latest = c.self.inside.latest; draw = c.self.inside.draw; begun = c.self.inside.begun }) =
    subst (λ (p : Player g.row.S.Denot g.row.D.Denot). StandsAt bases reached p) (sym c.self.view_is) stands in
    let envelope = leads.1.0 in
    let moment = event_moment old.moment reached.server.now c.args.moment c.new-now.result at.stands.stands.moment le at.stands.between.at c.new-now.ensures in
    let opens : Opens g.S.Seal.lock (g.S.Seal.keys old.seal) (moment_of c.args.moment) Up c.args.packet.now envelope =
    subst (λ (p : Player g.row.S.Denot g.row.D.Denot). Opens g.S.Seal.lock (g.S.Seal.keys p.server.seal) (moment_of c.args.moment) Up c.args.packet.now envelope) (sym c.self.view_is) leads.1.1 in
    refused_only g.S.Seal.lock (g.S.Seal.keys old.seal) (max old.moment c.new-now.result) c.args.packet.now c.in_ok-reply.reply.heard c.in-NotOpened.field-0
    c.opens_what_it_sealed.ensures c.in-NotOpened.is c.in_ok-reply.ensures.heard envelope
    (subst (λ (n : ℕ). Opens g.S.Seal.lock (g.S.Seal.keys old.seal) n Up c.args.packet.now envelope) (sym moment) opens)

pub returns-clause-led : goal.returns-clause-led
returns-clause-led g c = λ reached stands le.
    let bases : Bases g.row.S.Denot g.row.D.Denot = bases_of g.S.Seal.lock g.S.Seal.keys g.D.Draw.step g.D.Seeded.standing_at g.D.Seeded.place_of in
    let player : Player g.row.S.Denot g.row.D.Denot =
    record { seed = c.self.inside.seed; server = c.on_packet.new.self; latest = c.new-now.result; draw = c.on_packet.new.draw; begun = None } in
    let basis = basis_for bases player in
    let old = c.self.inside.server in
    let at : StandsAt bases reached (record { seed = c.self.inside.seed; server = c.self.inside.server; latest = c.self.inside.latest; draw = c.self.inside.draw; begun = c.self.inside.begun }) =
    subst (λ (p : Player g.row.S.Denot g.row.D.Denot). StandsAt bases reached p) (sym c.self.view_is) stands in
    let moment = event_moment old.moment reached.server.now c.args.moment c.new-now.result at.stands.stands.moment le at.stands.between.at c.new-now.ensures in
    let keys = keys_of basis.keys in
    let draw = basis.at c.args.place in
    let heard : IsHeardOf g.S.Seal.lock (g.S.Seal.keys old.seal) (max old.moment c.new-now.result) c.args.packet.now c.in_ok-reply.reply.heard = c.in_ok-reply.ensures.heard in
    let judged = subst (λ (h : Heard). IsHeardOf g.S.Seal.lock (g.S.Seal.keys old.seal) (max old.moment c.new-now.result) c.args.packet.now h) c.in-Judged.is heard in
    let envelope = judged.0 in
    let timed : Opens g.S.Seal.lock (g.S.Seal.keys old.seal) (moment_of c.args.moment) Up c.args.packet.now envelope =
    subst (λ (n : ℕ). Opens g.S.Seal.lock (g.S.Seal.keys old.seal) n Up c.args.packet.now envelope) moment judged.1 in
    let opens : Opens g.S.Seal.lock basis.keys (moment_of c.args.moment) Up c.args.packet.now envelope =
    subst (λ (s : g.row.S.Denot). Opens g.S.Seal.lock (g.S.Seal.keys s) (moment_of c.args.moment) Up c.args.packet.now envelope) (sym c.in_ok-reply.ensures.same_seal) timed in
    let are : AreOf (g.S.Seal.keys old.seal) keys =
    subst (λ (s : g.row.S.Denot). AreOf (g.S.Seal.keys s) keys) c.in_ok-reply.ensures.same_seal (c.rings_have_keys.ensures basis.keys) in
    let seeded_draws = c.seeded_draws_go_on.ensures.after in
    let seeded_places = g.met.D.Seeded.places in
    let answer = after_packet (setting_of (moment_of c.args.moment) g.D.Draw.step keys) (brought_in envelope) reached.server draw in (
      reached_by basis answer,
      (answer, (envelope, opens, refl), refl),
      event_stands bases player (λ n d. after_packet (setting_of n g.D.Draw.step keys) (brought_in envelope) reached.server d) g.S.Seal.lock (g.S.Seal.keys old.seal)
          (effects_in c.in_ok-reply.reply) old.moment reached.server.now c.args.moment c.args.place c.new-now.result c.at.result
          (λ place words below. seeded_draws c.self.inside.seed place words below)
          (λ place below. seeded_places c.self.inside.seed place below)
          c.ranges.place.fits at.stands.stands.moment le at.stands.between.at
          (λ n. c.events_draw_words.ensures.packet (setting_of n g.D.Draw.step keys) (brought_in envelope) reached.server draw)
          (λ n. refl) c.new-now.ensures c.at.ensures.standing
          (c.in_ok-reply.ensures.given keys reached.server envelope are at.stands judged.1) refl refl,
    )
