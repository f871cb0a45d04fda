use Rattle.std.proofs.Common.{◌∙◌, take}
use Rattle.mt_edge.specs.declared.source.Got.TheVariants.{Bytes}
use Rattle.mt_edge.proofs.ReadLemmas.{more_left, more_pieces, more_room}
use Rattle.mt_edge.proofs.whole.read_all.Goals as goal

-- one more read gave bytes
pub loop-count-preserved : goal.loop-count-preserved
loop-count-preserved g c = record {
  room = more_room c.loop-count.text c.read.new.into c.push_all.new.self c.in-Bytes.count c.loop-count.room c.args.max_bytes
      c.in_ok-push_all-in-Bytes.ensures.appended c.in-Bytes.ensures.within.1 c.if-count-room.true c.loop-count.invariant.room;
  read = more_left (g.S.Source.left c.args.source.now) (g.S.Source.left c.loop-count.source) (g.S.Source.left c.read.new.self)
      c.loop-count.text (take c.in-Bytes.count c.read.new.into) c.push_all.new.self
      c.in_ok-push_all-in-Bytes.ensures.appended c.loop-count.invariant.read c.in-Bytes.ensures.told;
  reads = more_pieces (g.S.Source.reads c.args.source.now) (g.S.Source.reads c.loop-count.source) (g.S.Source.reads c.read.new.self) (Bytes c.in-Bytes.count) tt
      c.loop-count.invariant.reads c.in-Bytes.ensures.noted;
  faults = c.in-Bytes.ensures.counted ∙ c.loop-count.invariant.faults;
}
