use Rattle.std.proofs.Common.{◌+◌, ◌∷◌, [], length, arith}
use Rattle.std.proofs.lemmas.Bool.{leb-true, le-leb}
use Rattle.std.proofs.lemmas.List.{length_push}
use Rattle.std.proofs.lemmas.List.Sums.{sum_by-append}
use Rattle.containers.specs.Container.{message_head}
use Rattle.containers.proofs.packing.fits.Goals as goal

pub returns-then-count-lt-CONTAINER_MESSAGES_MAX-clause-as_packed : goal.returns-then-count-lt-CONTAINER_MESSAGES_MAX-clause-as_packed
returns-then-count-lt-CONTAINER_MESSAGES_MAX-clause-as_packed c = λ messages message count bytes next.
    let longer = sum_by-append (λ m. message_head + length m.body) messages (message ∷ []) in
    let more = length_push messages message in
    let sum = c.saturating_add-then-count-lt-CONTAINER_MESSAGES_MAX.ensures in
    let front = c.saturating_add.ensures in
    (λ is. let below = leb-true _ _ is in record { few = omega arith; short = omega arith }, λ within. le-leb _ _ (omega arith))
