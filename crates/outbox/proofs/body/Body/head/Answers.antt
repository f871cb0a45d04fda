use Rattle.std.proofs.Common.{◌∙◌, ap}
use Rattle.std.specs.Prelude.{take}
use Rattle.outbox.specs.Bodies.{head_bytes, rest_of}
use Rattle.outbox.proofs.Halves.{first_of}
use Rattle.outbox.proofs.body.Body.head.Goals as goal

pub returns : goal.returns
returns c =
    first_of head_bytes c.self.inside.head (rest_of c.self.inside.rest) c.self.invariant
    ∙ ap (λ body. take head_bytes body) c.self.view_is
