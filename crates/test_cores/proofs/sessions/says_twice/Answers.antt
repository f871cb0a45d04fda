use Rattle.std.proofs.Common.{ap, arith}
use Rattle.server_output.specs.Dues.{Dues}
use Rattle.server_session.specs.Unsaid.{is_to}
use Rattle.test_cores.proofs.sessions.says_twice.Goals as goal

pub says_kept-requires-clause-places : goal.says_kept-requires-clause-places
says_kept-requires-clause-places c =
    let places = ap (λ (owing : Dues). owing.places) c.in_ok-owing.ensures in
    let most = c.kept_count.ensures.unsaid (is_to c.args.call) c.in_ok-owing.owing in
    omega (arith, places, most)

pub says_kept-requires-clause-bytes : goal.says_kept-requires-clause-bytes
says_kept-requires-clause-bytes c =
    let room = ap (λ (owing : Dues). owing.room) c.in_ok-owing.ensures in
    let most = c.kept_bytes.ensures.unsaid (is_to c.args.call) c.in_ok-owing.owing in
    omega (arith, room, most)

pub says_kept-requires-2-clause-places : goal.says_kept-requires-2-clause-places
says_kept-requires-2-clause-places c =
    let places = ap (λ (owing : Dues). owing.places) c.in_ok-owing.ensures in
    let most = c.kept_count.ensures.unsaid (is_to c.args.call) c.in_ok-owing.owing in
    omega (arith, places, most, c.says_kept.ensures.places (is_to c.args.call) (λ kept is. is))

pub says_kept-requires-2-clause-bytes : goal.says_kept-requires-2-clause-bytes
says_kept-requires-2-clause-bytes c =
    let room = ap (λ (owing : Dues). owing.room) c.in_ok-owing.ensures in
    let most = c.kept_bytes.ensures.unsaid (is_to c.args.call) c.in_ok-owing.owing in
    omega (arith, room, most, c.says_kept.ensures.left (is_to c.args.call) (λ kept is. is))
