use Rattle.std.proofs.Common.{◌++◌, List, ℕ}
use Rattle.transport.proofs.Answering.{only_awaits, only_opens, only_refuses}
use Rattle.transport.proofs.Wholes.{takes_first}
use Rattle.transport.proofs.wire.Wire+Raw.feed.Goals as goal

pub returns-clause-takes : goal.returns-clause-takes
returns-clause-takes c = takes_first (c.args.self ++ c.args.piece.now) c.step.result c.step.ensures.opens

pub returns-clause-only_awaits : goal.returns-clause-only_awaits
returns-clause-only_awaits c =
    let whole : List ℕ = c.args.self ++ c.args.piece.now in
    only_awaits whole c.step.result (λ rest opening. c.first_bytes_tell_one_thing.ensures.not_awaited whole rest opening)
    (c.first_bytes_tell_one_thing.ensures.awaited_or_refused whole)
    c.step.ensures.opens c.step.ensures.refuses c.step.ensures.known_on_memory

pub returns-clause-only_opens : goal.returns-clause-only_opens
returns-clause-only_opens c opening rest =
    let whole : List ℕ = c.args.self ++ c.args.piece.now in
    only_opens whole c.step.result opening rest (c.first_bytes_tell_one_thing.ensures.not_awaited whole rest opening)
    (λ wire. c.first_bytes_tell_one_thing.ensures.not_refused whole rest wire opening)
    c.step.ensures.awaits c.step.ensures.refuses

pub returns-clause-only_refuses : goal.returns-clause-only_refuses
returns-clause-only_refuses c wire =
    let whole : List ℕ = c.args.self ++ c.args.piece.now in
    only_refuses whole wire c.step.result (λ rest opening. c.first_bytes_tell_one_thing.ensures.not_refused whole rest wire opening)
    (c.first_bytes_tell_one_thing.ensures.awaited_or_refused whole wire)
    c.step.ensures.awaits c.step.ensures.opens c.step.ensures.refuses c.step.ensures.known_on_memory
