use Rattle.call_table.specs.declared.call.Group.TheVariants as group
use Rattle.call_table.proofs.groups.Groups.enter.Goals as goal

pub put-requires-clause-ascending : goal.put-requires-clause-ascending
put-requires-clause-ascending c = c.requires.ascending group.Queued

pub put-requires-clause-room : goal.put-requires-clause-room
put-requires-clause-room c = c.requires.room group.Queued

pub put-requires-2-clause-ascending : goal.put-requires-2-clause-ascending
put-requires-2-clause-ascending c = c.requires.ascending group.Outstanding

pub put-requires-2-clause-room : goal.put-requires-2-clause-room
put-requires-2-clause-room c = c.requires.room group.Outstanding

pub put-requires-3-clause-ascending : goal.put-requires-3-clause-ascending
put-requires-3-clause-ascending c = c.requires.ascending group.Held

pub put-requires-3-clause-room : goal.put-requires-3-clause-room
put-requires-3-clause-room c = c.requires.room group.Held

pub put-requires-4-clause-ascending : goal.put-requires-4-clause-ascending
put-requires-4-clause-ascending c = c.requires.ascending group.Alone

pub put-requires-4-clause-room : goal.put-requires-4-clause-room
put-requires-4-clause-room c = c.requires.room group.Alone

pub put-requires-5-clause-ascending : goal.put-requires-5-clause-ascending
put-requires-5-clause-ascending c = c.requires.ascending group.Dropping

pub put-requires-5-clause-room : goal.put-requires-5-clause-room
put-requires-5-clause-room c = c.requires.room group.Dropping
