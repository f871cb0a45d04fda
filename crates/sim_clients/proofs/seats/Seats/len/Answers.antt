use Rattle.std.proofs.Common.{◌≡◌, length, ◌∙◌, arith}
use Rattle.sim_clients.specs.Standing.{StandsFor}
use Rattle.sim_clients.proofs.PlaceLemmas.{zip_count}
use Rattle.sim_clients.proofs.seats.Seats.len.Goals as goal

pub returns-clause-count : goal.returns-clause-count
returns-clause-count c seats all =
    let kept : c.len.result ≡ length c.args.self.now = grind arith in
    kept ∙ zip_count StandsFor c.args.self.now seats all
