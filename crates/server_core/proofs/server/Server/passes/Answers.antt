use Rattle.std.proofs.Common.{◌≤◌, ℕ, get_or, ap, sym, subst, refl}
use Rattle.server_core.specs.Server.{Kept, Stands}
use Rattle.server_core.proofs.Speaking.{kept-later}
use Rattle.server_core.proofs.server.Server.passes.Goals as goal

pub returns-clause-stands : goal.returns-clause-stands
returns-clause-stands g c = λ server stands.
    let K : Type 0 = Kept g.row.S.Denot in
    let inside = subst (λ (kept : K). Stands kept server) (sym c.self.view_is) stands in
    let lt : c.self.inside.moment ≤ c.args.moment =
    subst (λ (moment : ℕ). moment ≤ c.args.moment) (sym (ap (λ (kept : K). kept.moment) c.self.view_is)) c.requires.later in
    record {
      moment = refl;
      sessions = kept-later c.sessions_stand_later.ensures.later c.self.inside.moment c.args.moment c.self.inside.sessions server.sessions lt inside.sessions;
      jobs = inside.jobs;
      bindings = inside.bindings;
    }

pub invariant_of-self : goal.invariant_of-self
invariant_of-self g c =
    let K : Type 0 = Kept g.row.S.Denot in
    let ring = g.S.Seal.keys c.self.inside.seal in
    let old = c.self.invariant in
    let lt : c.self.inside.moment ≤ c.args.moment =
    subst (λ (moment : ℕ). moment ≤ c.args.moment) (sym (ap (λ (kept : K). kept.moment) c.self.view_is)) c.requires.later in
    let stands = returns-clause-stands g c old.server (subst (λ (kept : K). Stands kept old.server) c.self.view_is old.stands_for.stands) in
    record {
      few = old.few;
      speaking = λ i d within.
          let can = old.speaking i d within in
          record { key = can.key; numbers = can.numbers; at = c.sessions_stand_later.ensures.at c.self.inside.moment c.args.moment (get_or c.self.inside.sessions i d) lt can.at };
      server = record old.server { now = c.args.moment };
      stands_for = record { stands = stands; between = c.losses_keep_order.ensures.later c.args.moment old.server c.is_early.ensures old.stands_for.between };
    }
