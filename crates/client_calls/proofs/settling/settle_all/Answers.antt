use Rattle.std.proofs.Common.{refl, sym}
use Rattle.client_calls.proofs.RuleLemmas.{calls_ended, calls_learnt_by, calls_renewed, rows_ended, rows_learnt, rows_renewed}
use Rattle.client_calls.proofs.SettledLemmas.{sound_by, sound_renewed}
use Rattle.client_calls.proofs.settling.settle_all.Goals as goal

pub returns-in-Learnt-clause-kept : goal.returns-in-Learnt-clause-kept
returns-in-Learnt-clause-kept c = rw (c.settle_group.ensures.kept, c.in-Learnt.is, rows_learnt) refl

pub returns-in-Learnt-clause-stands : goal.returns-in-Learnt-clause-stands
returns-in-Learnt-clause-stands c table stands = rw (sym (calls_learnt_by c.args.rule _ _ table.calls c.in-Learnt.is)) (c.settle_group.ensures.stands table stands)

pub returns-in-Renewed-clause-kept : goal.returns-in-Renewed-clause-kept
returns-in-Renewed-clause-kept c = rw (c.settle_group-in-Renewed.ensures.kept, c.settle_group.ensures.kept, c.in-Renewed.is, rows_renewed) refl

pub returns-in-Renewed-clause-stands : goal.returns-in-Renewed-clause-stands
returns-in-Renewed-clause-stands c table stands =
    rw (c.in-Renewed.is, sym (calls_renewed table.calls)) (rw (c.in-Renewed.is) at (c.settle_group-in-Renewed.ensures.stands _ (c.settle_group.ensures.stands table stands)))

pub returns-in-Ended-clause-kept : goal.returns-in-Ended-clause-kept
returns-in-Ended-clause-kept c = rw (c.settle_group-in-Ended-2.ensures.kept, c.settle_group-in-Ended.ensures.kept, c.settle_group.ensures.kept, c.in-Ended.is, rows_ended) refl

pub returns-in-Ended-clause-stands : goal.returns-in-Ended-clause-stands
returns-in-Ended-clause-stands c table stands =
    rw (c.in-Ended.is, sym (calls_ended table.calls)) (rw (c.in-Ended.is) at (c.settle_group-in-Ended-2.ensures.stands _ (c.settle_group-in-Ended.ensures.stands _ (c.settle_group.ensures.stands table stands))))

pub returns-in-Learnt-clause-sound : goal.returns-in-Learnt-clause-sound
returns-in-Learnt-clause-sound c last sound = rw (returns-in-Learnt-clause-kept c) (sound_by last c.args.rule _ sound)

pub returns-in-Learnt-clause-renewed : goal.returns-in-Learnt-clause-renewed
returns-in-Learnt-clause-renewed c is last sound = rw (returns-in-Learnt-clause-kept c, is) (sound_renewed last _ sound)

pub returns-in-Renewed-clause-sound : goal.returns-in-Renewed-clause-sound
returns-in-Renewed-clause-sound c last sound = rw (returns-in-Renewed-clause-kept c) (sound_by last c.args.rule _ sound)

pub returns-in-Renewed-clause-renewed : goal.returns-in-Renewed-clause-renewed
returns-in-Renewed-clause-renewed c is last sound = rw (returns-in-Renewed-clause-kept c, is) (sound_renewed last _ sound)

pub returns-in-Ended-clause-sound : goal.returns-in-Ended-clause-sound
returns-in-Ended-clause-sound c last sound = rw (returns-in-Ended-clause-kept c) (sound_by last c.args.rule _ sound)

pub returns-in-Ended-clause-renewed : goal.returns-in-Ended-clause-renewed
returns-in-Ended-clause-renewed c is last sound = rw (returns-in-Ended-clause-kept c, is) (sound_renewed last _ sound)
