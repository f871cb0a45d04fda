use Rattle.std.proofs.Common.{List, ℕ}
use Rattle.secret_relay.specs.Stories.{Story, UpEnds, with_up}
use Rattle.secret_relay.specs.Standing.{Adds, KeepsLink, StandsIn}
use Rattle.secret_relay.proofs.Phases.{link_up_goes, link_up_ends, on_end, opened, whole_is}
use Rattle.secret_relay.proofs.phase.Phase.up.Goals as goal

pub returns-in-Ok-None-clause-goes_on : goal.returns-in-Ok-None-clause-goes_on
returns-in-Ok-None-clause-goes_on c =
    link_up_goes c.ctr_pieces_equal_the_whole.ensures c.args.form c.args.self c.in-Links.link c.up.new.self c.requires c.in-Links.is
    c.args.piece.now c.args.out.now c.up.new.out c.in-Ok-None.field-0 c.in-Ok-None.field-0-is c.in-Ok-None.ensures.passed c.args.secret.now

pub returns-in-Ok-Some-clause-ends : goal.returns-in-Ok-Some-clause-ends
returns-in-Ok-Some-clause-ends c =
    on_end c.in-Ok-Some.fault ((story : Story) → StandsIn c.args.form c.args.secret.now c.args.self story
    → Adds c.args.out.now c.up.new.out (λ (more : List ℕ). UpEnds c.args.form c.args.secret.now c.in-Ok-Some.fault (with_up c.args.piece.now more story)))
    (link_up_ends c.ctr_pieces_equal_the_whole.ensures c.args.form c.args.self c.in-Links.link c.up.new.self c.requires c.in-Links.is
    c.args.piece.now c.args.out.now c.up.new.out c.in-Ok-Some.field-0 c.in-Ok-Some.fault c.in-Ok-Some.field-0-is c.in-Ok-Some.ensures.passed c.args.secret.now)

pub returns-in-Ok-clause-goes_on : goal.returns-in-Ok-clause-goes_on
returns-in-Ok-clause-goes_on c = λ story stands.
    opened (KeepsLink c.args.form c.args.secret.now c.in-Ok.link) c.args.form c.args.secret.now c.in-Awaits.first c.args.self story _ c.args.piece.now
    c.args.out.now c.begin.new.out c.in-Awaits.is
    (whole_is c.in-Awaits.first c.args.piece.now c.with-more.result.0 c.whole.result c.with-more.result.1 c.with-more.ensures.bytes c.whole.ensures)
    stands c.in-Ok.ensures.begun
