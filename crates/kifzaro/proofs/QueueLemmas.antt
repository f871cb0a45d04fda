-- The first of the packets that wait.
use Rattle.std.proofs.Common.{◌≡◌, ◌<◌, List, [], ◌∷◌, ◌++◌, length, get_or, ap, sym, arith}
use Rattle.server_output.specs.declared.outs.Out.{Out}
use Rattle.kifzaro.specs.Queues.{IsFirst}

pub first_in_front : (front behind : List Out) (out : Out) → 0 < length front → out ≡ get_or front 0 out → IsFirst out (front ++ behind)
first_in_front [] behind out some at = absurd (omega (arith, some))
first_in_front (one ∷ front) behind out some at = (front ++ behind, ap (λ (first : Out). first ∷ (front ++ behind)) (sym at))
