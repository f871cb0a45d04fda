use Rattle.std.proofs.Common.{◌∙◌, refl}
use Rattle.mt_edge.specs.declared.act.Act.TheVariants.{Ready, Failed}
use Rattle.sess_records.proofs.JournalLemmas.{find_told, inside_same, other_told, short_told, sure_leaves, sure_same}
use Rattle.sess_records.proofs.header.look.Goals as goal

pub read-requires : goal.read-requires
read-requires g c = inside_same 41 c.in-Len.len (g.K.Disk.told c.settle.new.disk) (g.K.Disk.told c.len.new.self) c.len.ensures.told c.in-Len.ensures.length c.if-len.false

pub returns-in_default-clause-any_moment : goal.returns-in_default-clause-any_moment
returns-in_default-clause-any_moment g c =
    sure_leaves Failed (g.K.Disk.told c.args.disk.now) (g.K.Disk.told c.settle.new.disk) (g.K.Disk.told c.settle.new.disk) refl c.in_default.ensures.settled

pub returns-in_default-len-clause-any_moment : goal.returns-in_default-len-clause-any_moment
returns-in_default-len-clause-any_moment g c =
    sure_leaves Ready (g.K.Disk.told c.args.disk.now) (g.K.Disk.told c.settle.new.disk) (g.K.Disk.told c.len.new.self) c.len.ensures.told c.in-Ready.ensures.settled

pub returns-then-len-clause-any_moment : goal.returns-then-len-clause-any_moment
returns-then-len-clause-any_moment g c =
    sure_leaves Ready (g.K.Disk.told c.args.disk.now) (g.K.Disk.told c.settle.new.disk) (g.K.Disk.told c.len.new.self) c.len.ensures.told c.in-Ready.ensures.settled

pub returns-then-len-clause-refused : goal.returns-then-len-clause-refused
returns-then-len-clause-refused g c =
    (refl, short_told c.in-Len.len (g.K.Disk.told c.args.disk.now) (g.K.Disk.told c.settle.new.disk) c.in-Ready.ensures.settled c.in-Len.ensures.length c.if-len.true)

pub returns-then-len-clause-unchanged : goal.returns-then-len-clause-unchanged
returns-then-len-clause-unchanged g c =
    sure_same (g.K.Disk.told c.args.disk.now) (g.K.Disk.told c.settle.new.disk) (g.K.Disk.told c.len.new.self) c.len.ensures.told c.in-Ready.ensures.settled

pub returns-in_default-read-clause-any_moment : goal.returns-in_default-read-clause-any_moment
returns-in_default-read-clause-any_moment g c =
    sure_leaves Ready (g.K.Disk.told c.args.disk.now) (g.K.Disk.told c.settle.new.disk) (g.K.Disk.told c.read.new.self) (c.read.ensures.told ∙ c.len.ensures.told) c.in-Ready.ensures.settled

pub returns-in_default-seed_in-clause-any_moment : goal.returns-in_default-seed_in-clause-any_moment
returns-in_default-seed_in-clause-any_moment g c =
    sure_leaves Ready (g.K.Disk.told c.args.disk.now) (g.K.Disk.told c.settle.new.disk) (g.K.Disk.told c.read.new.self) (c.read.ensures.told ∙ c.len.ensures.told) c.in-Ready.ensures.settled

pub returns-in_default-seed_in-clause-unchanged : goal.returns-in_default-seed_in-clause-unchanged
returns-in_default-seed_in-clause-unchanged g c =
    sure_same (g.K.Disk.told c.args.disk.now) (g.K.Disk.told c.settle.new.disk) (g.K.Disk.told c.read.new.self) (c.read.ensures.told ∙ c.len.ensures.told) c.in-Ready.ensures.settled

pub returns-in_default-seed_in-clause-refused : goal.returns-in_default-seed_in-clause-refused
returns-in_default-seed_in-clause-refused g c = (
  refl,
  other_told c.read.new.into (g.K.Disk.told c.args.disk.now) (g.K.Disk.told c.settle.new.disk) (g.K.Disk.told c.len.new.self) c.len.ensures.told
      c.in-Ready.ensures.settled (c.in-Ready-read.ensures.bytes refl) c.in_default-seed_in.ensures,
)

pub returns-clause-any_moment : goal.returns-clause-any_moment
returns-clause-any_moment g c =
    sure_leaves Ready (g.K.Disk.told c.args.disk.now) (g.K.Disk.told c.settle.new.disk) (g.K.Disk.told c.read.new.self) (c.read.ensures.told ∙ c.len.ensures.told) c.in-Ready.ensures.settled

pub returns-clause-found : goal.returns-clause-found
returns-clause-found g c =
    find_told c.in-Len.len c.read.new.into c.in-Some.seed (g.K.Disk.told c.args.disk.now) (g.K.Disk.told c.settle.new.disk) (g.K.Disk.told c.len.new.self) (g.K.Disk.told c.read.new.self)
    c.len.ensures.told c.read.ensures.told c.in-Ready.ensures.settled c.in-Len.ensures.length c.if-len.false (c.in-Ready-read.ensures.bytes refl) c.in-Some.ensures
