use Rattle.std.proofs.Common.{List, ℕ}
use Rattle.secret_relay.specs.Stories.{DownEnds, Story, with_down}
use Rattle.secret_relay.specs.Standing.{Adds, StandsIn}
use Rattle.secret_relay.proofs.Phases.{link_down_goes, link_down_ends, on_end}
use Rattle.secret_relay.proofs.phase.Phase.down.Goals as goal

pub returns-in-Ok-None-clause-goes_on : goal.returns-in-Ok-None-clause-goes_on
returns-in-Ok-None-clause-goes_on c =
    link_down_goes c.ctr_pieces_equal_the_whole.ensures c.args.form c.args.self c.in-Links.link c.down.new.self c.requires c.in-Links.is
    c.args.piece.now c.args.out.now c.down.new.out c.in-Ok-None.field-0 c.in-Ok-None.field-0-is c.in-Ok-None.ensures.passed

pub returns-in-Ok-Some-clause-ends : goal.returns-in-Ok-Some-clause-ends
returns-in-Ok-Some-clause-ends c =
    on_end c.in-Ok-Some.fault ((secret : List ℕ) (story : Story) → StandsIn c.args.form secret c.args.self story
    → Adds c.args.out.now c.down.new.out (λ (more : List ℕ). DownEnds c.args.form secret c.in-Ok-Some.fault (with_down c.args.piece.now more story)))
    (link_down_ends c.ctr_pieces_equal_the_whole.ensures c.args.form c.args.self c.in-Links.link c.down.new.self c.requires c.in-Links.is
    c.args.piece.now c.args.out.now c.down.new.out c.in-Ok-Some.field-0 c.in-Ok-Some.fault c.in-Ok-Some.field-0-is c.in-Ok-Some.ensures.passed)
