use Rattle.std.proofs.Common.{◌∙◌, ap, map}
use Rattle.std.specs.Prelude.{string_bytes}
use Rattle.cmd_pair.specs.Servers.{kids_of, server_words}
use Rattle.cmd_pair.proofs.Spawning.{begins-as}
use Rattle.cmd_pair.proofs.servers.begin.Goals as goal

pub returns : goal.returns
returns g c =
    begins-as (map string_bytes c.as_slice.result.now) (server_words c.args.server.now.keys.now c.args.server.now.port c.args.server.now.stop_after) c.start.result
    (kids_of g.P.Spawner.calls g.P.Spawner.faults c.args.kids.now c.start.new.kids) (ap (map string_bytes) c.as_slice.ensures.value ∙ c.in_ok-words.ensures) c.start.ensures
