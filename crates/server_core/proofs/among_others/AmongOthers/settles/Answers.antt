use Rattle.std.proofs.Common.{◌∙◌, ◌+◌, ◌*◌, Bool, ap, sym, subst, arith}
use Rattle.outbox.specs.declared.kept.Kept.{Kept}
use Rattle.outbox.specs.Replies.{Contents}
use Rattle.server_output.specs.Items.{destroyed_bytes}
use Rattle.server_rules.specs.Event.{Setting}
use Rattle.server_rules.specs.Server.{Name}
use Rattle.law_server.specs.Order.{jobs_of}
use Rattle.server_session.specs.Says.{setting_of}
use Rattle.server_session.specs.SessionState.{key_of}
use Rattle.server_dispatch.specs.Action.{due_bytes, due_calls}
use Rattle.server_dispatch.specs.Spare.{Uses}
use Rattle.server_core.specs.Among.{Among, row_among}
use Rattle.server_core.specs.Settling.{SpeaksAmong}
use Rattle.server_core.proofs.Left.{left-all, left-without}
use Rattle.server_core.proofs.Names.{named}
use Rattle.server_core.proofs.Ordered.{KeepsOrder}
use Rattle.server_core.proofs.RowCases.{row-destroys, row-speaks}
use Rattle.server_core.proofs.Settled.{is-rowed}
use Rattle.server_core.proofs.Uses.{nothing-used, used, uses-both}
use Rattle.server_core.proofs.among_others.AmongOthers.settles.Goals as goal

pub returns-in-Destroys-clause-settled : goal.returns-in-Destroys-clause-settled
returns-in-Destroys-clause-settled g c = λ keys name past seq verdict body opened among are due is few begins.
    let D : Type 0 = g.row.D.Denot in
    let setting : Setting D = setting_of c.args.now g.D.Draw.step keys in
    let number = c.args.number in
    let draw = c.args.draw.now in
    let speech = c.speech_keeps_order.ensures in
    let rows = c.rows_keep_order.ensures in
    let keeps : KeepsOrder D = record {
      says = speech.says;
      notices = speech.notices;
      again = speech.came_again;
      left = speech.left;
      tells = speech.tells;
      accepts = rows.accepts;
      new = speech.new;
      acknowledges = speech.acknowledges;
      gives = rows.gives_up;
      takes = c.taken_jobs_are_open.ensures.first;
    } in
    let rowed : Among D = row_among setting number seq verdict body among in
    let done = is-rowed {S = D} keeps c.sessions_speak_for_themselves.ensures.owes setting name past number seq verdict body opened among is in
    let blocked = done.few in
    let others = λ (one : Name). jobs_of one rowed.speaker.jobs in
    let bindings = c.args.self.now.speaking.bindings.bindings in
    let P : Among D → Type 0 = λ among.
    SpeaksAmong c.args.now c.destroys.new.others c.destroys.new.standing c.destroys.new.turn c.destroys.new.jobs.jobs bindings draw among in
    let at : SpeaksAmong c.args.now c.destroys.new.others c.destroys.new.standing c.destroys.new.turn c.destroys.new.jobs.jobs bindings draw rowed =
    subst P (row-destroys setting number seq verdict body among c.in-Destroys.destroyed (sym c.in-Destroys.is ∙ due))
    (record {
      others = c.destroys.ensures.kept keys bindings draw among begins.others begins.speaks;
      speaks = c.destroys.ensures.speaks keys bindings draw among begins.others begins.speaks;
    }) in
    record {
      others = at.others;
      speaks = c.tells_jobs.ensures.speaks keys draw name others past rowed.speaker at.speaks done.has (omega arith);
    }

pub returns-in-Destroys-clause-fewer : goal.returns-in-Destroys-clause-fewer
returns-in-Destroys-clause-fewer g c = λ keys name past seq verdict body opened among are due is begins.
    let D : Type 0 = g.row.D.Denot in
    let setting : Setting D = setting_of c.args.now g.D.Draw.step keys in
    let number = c.args.number in
    let draw = c.args.draw.now in
    let speech = c.speech_keeps_order.ensures in
    let rows = c.rows_keep_order.ensures in
    let keeps : KeepsOrder D = record {
      says = speech.says;
      notices = speech.notices;
      again = speech.came_again;
      left = speech.left;
      tells = speech.tells;
      accepts = rows.accepts;
      new = speech.new;
      acknowledges = speech.acknowledges;
      gives = rows.gives_up;
      takes = c.taken_jobs_are_open.ensures.first;
    } in
    let rowed : Among D = row_among setting number seq verdict body among in
    let done = is-rowed {S = D} keeps c.sessions_speak_for_themselves.ensures.owes setting name past number seq verdict body opened among is in
    let blocked = done.few in
    let others = λ (one : Name). jobs_of one rowed.speaker.jobs in
    let bindings = c.args.self.now.speaking.bindings.bindings in
    let P : Among D → Type 0 = λ among.
    SpeaksAmong c.args.now c.destroys.new.others c.destroys.new.standing c.destroys.new.turn c.destroys.new.jobs.jobs bindings draw among in
    let at : SpeaksAmong c.args.now c.destroys.new.others c.destroys.new.standing c.destroys.new.turn c.destroys.new.jobs.jobs bindings draw rowed =
    subst P (row-destroys setting number seq verdict body among c.in-Destroys.destroyed (sym c.in-Destroys.is ∙ due))
    (record {
      others = c.destroys.ensures.kept keys bindings draw among begins.others begins.speaks;
      speaks = c.destroys.ensures.speaks keys bindings draw among begins.others begins.speaks;
    }) in
    let fewer = c.tells_jobs.ensures.fewer keys draw name others past rowed.speaker at.speaks done.has in
    omega arith

pub returns-in_default-clause-settled : goal.returns-in_default-clause-settled
returns-in_default-clause-settled g c = λ keys name past seq verdict body opened among are due is few begins.
    let D : Type 0 = g.row.D.Denot in
    let setting : Setting D = setting_of c.args.now g.D.Draw.step keys in
    let number = c.args.number in
    let draw = c.args.draw.now in
    let speech = c.speech_keeps_order.ensures in
    let rows = c.rows_keep_order.ensures in
    let keeps : KeepsOrder D = record {
      says = speech.says;
      notices = speech.notices;
      again = speech.came_again;
      left = speech.left;
      tells = speech.tells;
      accepts = rows.accepts;
      new = speech.new;
      acknowledges = speech.acknowledges;
      gives = rows.gives_up;
      takes = c.taken_jobs_are_open.ensures.first;
    } in
    let rowed : Among D = row_among setting number seq verdict body among in
    let done = is-rowed {S = D} keeps c.sessions_speak_for_themselves.ensures.owes setting name past number seq verdict body opened among is in
    let blocked = done.few in
    let others = λ (one : Name). jobs_of one rowed.speaker.jobs in
    let P : Among D → Type 0 = λ among.
    SpeaksAmong c.args.now c.args.self.now.others c.owes.new.self.standing c.owes.new.self.turn c.owes.new.self.jobs.jobs c.owes.new.self.bindings.bindings c.owes.new.draw among in
    let said = c.owes.ensures.speaks keys seq verdict body among.speaker name (λ one. jobs_of one among.speaker.jobs) past opened are due is.order begins.speaks in
    let at : SpeaksAmong c.args.now c.args.self.now.others c.owes.new.self.standing c.owes.new.self.turn c.owes.new.self.jobs.jobs c.owes.new.self.bindings.bindings c.owes.new.draw rowed =
    subst P (row-speaks setting number seq verdict body among c.args.due c.in_default.not-Destroys due) (record { others = begins.others; speaks = said }) in
    record {
      others = at.others;
      speaks = c.tells_jobs-in_default.ensures.speaks keys c.owes.new.draw name others past rowed.speaker at.speaks done.has (omega arith);
    }

pub returns-in_default-clause-fewer : goal.returns-in_default-clause-fewer
returns-in_default-clause-fewer g c = λ keys name past seq verdict body opened among are due is begins.
    let D : Type 0 = g.row.D.Denot in
    let setting : Setting D = setting_of c.args.now g.D.Draw.step keys in
    let number = c.args.number in
    let draw = c.args.draw.now in
    let speech = c.speech_keeps_order.ensures in
    let rows = c.rows_keep_order.ensures in
    let keeps : KeepsOrder D = record {
      says = speech.says;
      notices = speech.notices;
      again = speech.came_again;
      left = speech.left;
      tells = speech.tells;
      accepts = rows.accepts;
      new = speech.new;
      acknowledges = speech.acknowledges;
      gives = rows.gives_up;
      takes = c.taken_jobs_are_open.ensures.first;
    } in
    let rowed : Among D = row_among setting number seq verdict body among in
    let done = is-rowed {S = D} keeps c.sessions_speak_for_themselves.ensures.owes setting name past number seq verdict body opened among is in
    let blocked = done.few in
    let others = λ (one : Name). jobs_of one rowed.speaker.jobs in
    let P : Among D → Type 0 = λ among.
    SpeaksAmong c.args.now c.args.self.now.others c.owes.new.self.standing c.owes.new.self.turn c.owes.new.self.jobs.jobs c.owes.new.self.bindings.bindings c.owes.new.draw among in
    let said = c.owes.ensures.speaks keys seq verdict body among.speaker name (λ one. jobs_of one among.speaker.jobs) past opened are due is.order begins.speaks in
    let at : SpeaksAmong c.args.now c.args.self.now.others c.owes.new.self.standing c.owes.new.self.turn c.owes.new.self.jobs.jobs c.owes.new.self.bindings.bindings c.owes.new.draw rowed =
    subst P (row-speaks setting number seq verdict body among c.args.due c.in_default.not-Destroys due) (record { others = begins.others; speaks = said }) in
    let fewer = c.tells_jobs-in_default.ensures.fewer keys c.owes.new.draw name others past rowed.speaker at.speaks done.has in
    omega arith

pub returns-in-Destroys-clause-uses : goal.returns-in-Destroys-clause-uses
returns-in-Destroys-clause-uses g c = λ called calls.
    let due = c.args.due in
    let many = c.tells_jobs.result in
    let size = ap due_bytes c.in-Destroys.is in
    let left = ap (λ (outbox : Contents). outbox.room) c.destroys.ensures.same_replies in
    let rowed : Uses called c.args.now 2 (due_bytes c.args.due) 1 2 c.args.self.now.speaking.standing c.args.self.now.speaking.turn c.destroys.new.standing c.destroys.new.turn =
    uses-both called c.args.now 1 destroyed_bytes 0 0 0 0 0 0 2 (due_bytes c.args.due) 1 2
    c.args.self.now.speaking.standing c.args.self.now.speaking.turn c.destroys.new.standing c.destroys.new.turn c.destroys.new.standing c.destroys.new.turn
    (used called c.args.now 1 destroyed_bytes 0 0 c.args.self.now.speaking.standing c.args.self.now.speaking.turn c.destroys.new.standing c.destroys.new.turn c.destroys.ensures.spends c.destroys.ensures.unsaid (omega arith))
    (nothing-used called c.args.now c.destroys.new.standing c.destroys.new.turn) (omega arith) (omega (arith, size)) (omega arith) (omega arith) in
    uses-both called c.args.now 2 (due_bytes due) 1 2 many (many * 48) many many (2 + many) (due_bytes due + many * 48) (1 + many) (2 + many)
    c.args.self.now.speaking.standing c.args.self.now.speaking.turn c.destroys.new.standing c.destroys.new.turn c.tells_jobs.new.speaking.standing c.tells_jobs.new.speaking.turn
    rowed (c.tells_jobs.ensures.uses called) (omega arith) (omega arith) (omega arith) (omega arith)

pub tells_jobs-requires-clause-room : goal.tells_jobs-requires-clause-room
tells_jobs-requires-clause-room g c =
    let called : Kept → Bool = due_calls c.args.number c.args.due in
    let room = c.requires.room in
    let size = ap due_bytes c.in-Destroys.is in
    let left = ap (λ (outbox : Contents). outbox.room) c.destroys.ensures.same_replies in
    let uses : Uses called c.args.now 2 (due_bytes c.args.due) 1 2 c.args.self.now.speaking.standing c.args.self.now.speaking.turn c.destroys.new.standing c.destroys.new.turn =
    uses-both called c.args.now 1 destroyed_bytes 0 0 0 0 0 0 2 (due_bytes c.args.due) 1 2
    c.args.self.now.speaking.standing c.args.self.now.speaking.turn c.destroys.new.standing c.destroys.new.turn c.destroys.new.standing c.destroys.new.turn
    (used called c.args.now 1 destroyed_bytes 0 0 c.args.self.now.speaking.standing c.args.self.now.speaking.turn c.destroys.new.standing c.destroys.new.turn c.destroys.ensures.spends c.destroys.ensures.unsaid (omega arith))
    (nothing-used called c.args.now c.destroys.new.standing c.destroys.new.turn) (omega arith) (omega (arith, size)) (omega arith) (omega arith) in
    record {
      places = omega (arith, uses.places, room.places);
      bytes = omega (arith, uses.bytes, room.bytes);
      numbers = omega (arith, uses.numbers, room.numbers);
      entries = omega (arith, uses.entries, room.entries);
    }

pub tells_jobs-requires-clause-replies : goal.tells_jobs-requires-clause-replies
tells_jobs-requires-clause-replies g c =
    let called : Kept → Bool = due_calls c.args.number c.args.due in
    let size = ap due_bytes c.in-Destroys.is in
    let left = ap (λ (outbox : Contents). outbox.room) c.destroys.ensures.same_replies in
    let uses : Uses called c.args.now 2 (due_bytes c.args.due) 1 2 c.args.self.now.speaking.standing c.args.self.now.speaking.turn c.destroys.new.standing c.destroys.new.turn =
    uses-both called c.args.now 1 destroyed_bytes 0 0 0 0 0 0 2 (due_bytes c.args.due) 1 2
    c.args.self.now.speaking.standing c.args.self.now.speaking.turn c.destroys.new.standing c.destroys.new.turn c.destroys.new.standing c.destroys.new.turn
    (used called c.args.now 1 destroyed_bytes 0 0 c.args.self.now.speaking.standing c.args.self.now.speaking.turn c.destroys.new.standing c.destroys.new.turn c.destroys.ensures.spends c.destroys.ensures.unsaid (omega arith))
    (nothing-used called c.args.now c.destroys.new.standing c.destroys.new.turn) (omega arith) (omega (arith, size)) (omega arith) (omega arith) in
    omega (arith, uses.replies, c.requires.room.replies)

pub returns-in_default-clause-uses : goal.returns-in_default-clause-uses
returns-in_default-clause-uses g c = λ called calls.
    let due = c.args.due in
    let many = c.tells_jobs-in_default.result in
    let rowed = c.owes.ensures.uses called calls in
    uses-both called c.args.now 2 (due_bytes due) 1 2 many (many * 48) many many (2 + many) (due_bytes due + many * 48) (1 + many) (2 + many)
    c.args.self.now.speaking.standing c.args.self.now.speaking.turn c.owes.new.self.standing c.owes.new.self.turn c.tells_jobs-in_default.new.speaking.standing c.tells_jobs-in_default.new.speaking.turn
    rowed (c.tells_jobs-in_default.ensures.uses called) (omega arith) (omega arith) (omega arith) (omega arith)

pub tells_jobs-requires-in_default : goal.tells_jobs-requires-in_default
tells_jobs-requires-in_default g c =
    let called : Kept → Bool = due_calls c.args.number c.args.due in
    let room = c.requires.room in
    let uses = c.owes.ensures.uses called (λ kept is. is) in
    record {
      room = record {
        places = omega (arith, uses.places, room.places);
        bytes = omega (arith, uses.bytes, room.bytes);
        numbers = omega (arith, uses.numbers, room.numbers);
        entries = omega (arith, uses.entries, room.entries);
      };
      replies = omega (arith, uses.replies, room.replies);
    }

pub returns-in-Destroys-clause-left : goal.returns-in-Destroys-clause-left
returns-in-Destroys-clause-left g c =
    left-without (named (key_of c.args.self.now.speaking.standing) c.in-Destroys.destroyed) c.args.self.now.others c.destroys.new.others c.destroys.ensures.others

pub returns-in_default-clause-left : goal.returns-in_default-clause-left
returns-in_default-clause-left g c = left-all c.args.self.now.others
