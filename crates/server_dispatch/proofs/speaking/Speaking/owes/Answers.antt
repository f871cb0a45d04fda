use Rattle.std.proofs.Common.{◌≡◌, ◌∙◌, ◌∷◌, ℕ, List, length, ap, refl, subst, sym, arith}
use Rattle.std.specs.Prelude.{min}
use Rattle.std.proofs.lemmas.Bool.{cond-true}
use Rattle.inbox.specs.Judging.{is_accepted}
use Rattle.salt_line.specs.Rows.{future_rows_max}
use Rattle.server_rules.specs.Rows.{owes, sends_again, takes_acks, tells_states}
use Rattle.law_server.specs.Order.{IsSpeaking}
use Rattle.server_session.specs.Says.{setting_of}
use Rattle.server_dispatch.specs.declared.action.Action.{Action}
use Rattle.server_dispatch.specs.declared.action.Action.TheVariants.{Tells}
use Rattle.server_dispatch.specs.declared.action.Telling.TheVariants.{Pongs, Salts, Acks, States, Resends}
use Rattle.server_dispatch.specs.declared.turn.Turn.{Turn}
use Rattle.server_output.specs.Items.{bad_salt_bytes, pong_bytes, salts_bytes, states_bytes}
use Rattle.server_session.specs.Unsaid.{is_to}
use Rattle.server_dispatch.specs.Action.{answering_bytes, due_bytes, due_calls}
use Rattle.server_dispatch.specs.Spare.{HasSpare}
use Rattle.server_dispatch.specs.Speaks.{Spends}
use Rattle.server_dispatch.proofs.Using.{less-spare, more-used, same-left, used}
use Rattle.server_dispatch.proofs.Follows.{Follows, follows}
use Rattle.server_dispatch.proofs.Steps.{resends-rest, spoken, spoken-as}
use Rattle.server_dispatch.proofs.speaking.Speaking.owes.Goals as goal

pub returns-in-Notice-clause-speaks : goal.returns-in-Notice-clause-speaks
returns-in-Notice-clause-speaks g c = λ keys seq verdict body speaker name others past opened are due order speaks.
    let setting = setting_of c.args.now g.D.Draw.step keys in
    let number = c.args.number in
    let next = owes setting number seq verdict body speaker in
    let at = subst (λ (needed : Action). Follows setting number (is_accepted verdict) speaker next needed) (sym due ∙ c.in-Notice.is) (follows setting number seq verdict body speaker) in
    spoken-as _ _ _ _ _ _ _ _ at (c.notices.ensures.speaks keys c.args.self.now.jobs.jobs c.args.self.now.bindings.bindings speaker speaks)

pub returns-in-CameAgain-clause-speaks : goal.returns-in-CameAgain-clause-speaks
returns-in-CameAgain-clause-speaks g c = λ keys seq verdict body speaker name others past opened are due order speaks.
    let setting = setting_of c.args.now g.D.Draw.step keys in
    let number = c.args.number in
    let next = owes setting number seq verdict body speaker in
    let at = subst (λ (needed : Action). Follows setting number (is_accepted verdict) speaker next needed) (sym due ∙ c.in-CameAgain.is) (follows setting number seq verdict body speaker) in
    spoken-as _ _ _ _ _ _ _ _ at (c.came_again.ensures.speaks keys c.args.self.now.jobs.jobs c.args.self.now.bindings.bindings speaker speaks)

pub returns-in-Answers-clause-speaks : goal.returns-in-Answers-clause-speaks
returns-in-Answers-clause-speaks g c = λ keys seq verdict body speaker name others past opened are due order speaks.
    let setting = setting_of c.args.now g.D.Draw.step keys in
    let number = c.args.number in
    let next = owes setting number seq verdict body speaker in
    let at = subst (λ (needed : Action). Follows setting number (is_accepted verdict) speaker next needed) (sym due ∙ c.in-Answers.is) (follows setting number seq verdict body speaker) in
    let still_open : IsSpeaking name others past (number ∷ opened) speaker =
    subst (λ (numbers : List ℕ). IsSpeaking name others past numbers speaker) (cond-true (is_accepted verdict) (number ∷ opened) opened at.0) order in
    spoken-as _ _ _ _ _ _ _ _ at.3 (c.gives.ensures.speaks keys at.1 c.args.draw.now speaker name others past opened are at.2 still_open speaks)

pub returns-in-Notice-clause-uses : goal.returns-in-Notice-clause-uses
returns-in-Notice-clause-uses g c = λ called calls.
    let size = ap due_bytes c.in-Notice.is in
    used called c.args.now 2 (due_bytes c.args.due) 1 2 1 bad_salt_bytes 0 0 _ _ _ _ c.notices.ensures.spends c.notices.ensures.unsaid
    (same-left _ _ c.notices.ensures.same_replies) (omega arith) (omega (arith, size)) (omega arith) (omega arith)

pub came_again-requires-clause-room : goal.came_again-requires-clause-room
came_again-requires-clause-room g c =
    let size = ap due_bytes c.in-CameAgain.is in
    less-spare (is_to c.args.number) 2 (due_bytes c.args.due) 1 2 1 bad_salt_bytes 0 0 _ _
    (subst (λ (due : Action). HasSpare (due_calls c.args.number due) 2 (due_bytes c.args.due) 1 2 c.args.self.now.standing c.args.self.now.turn) c.in-CameAgain.is c.requires.room)
    (omega arith) (omega (arith, size)) (omega arith) (omega arith)

pub returns-in-CameAgain-clause-uses : goal.returns-in-CameAgain-clause-uses
returns-in-CameAgain-clause-uses g c = λ called calls.
    let size = ap due_bytes c.in-CameAgain.is in
    more-used called c.args.now 2 (due_bytes c.args.due) 1 2 1 bad_salt_bytes 0 0 _ _ _ _
    (c.came_again.ensures.uses called (λ kept there. calls kept (ap (λ (due : Action). due_calls c.args.number due kept) c.in-CameAgain.is ∙ there)))
    (omega arith) (omega (arith, size)) (omega arith) (omega arith)

pub gives-requires-clause-room : goal.gives-requires-clause-room
gives-requires-clause-room g c =
    subst (λ (due : Action). HasSpare (due_calls c.args.number due) 2 (due_bytes due) 1 2 c.args.self.now.standing c.args.self.now.turn) c.in-Answers.is c.requires.room

pub returns-in-Answers-clause-uses : goal.returns-in-Answers-clause-uses
returns-in-Answers-clause-uses g c = λ called calls.
    let size = ap due_bytes c.in-Answers.is in
    more-used called c.args.now 2 (due_bytes c.args.due) 1 2 2 answering_bytes 1 2 _ _ _ _ (c.gives.ensures.uses called)
    (omega arith) (omega (arith, size)) (omega arith) (omega arith)

pub returns-in-Tells-Pongs-clause-speaks : goal.returns-in-Tells-Pongs-clause-speaks
returns-in-Tells-Pongs-clause-speaks g c = λ keys seq verdict body speaker name others past opened are due order speaks.
    let setting = setting_of c.args.now g.D.Draw.step keys in
    let number = c.args.number in
    let next = owes setting number seq verdict body speaker in
    let is : c.args.due ≡ Tells (Pongs c.in-Tells-Pongs.ping) = cc (c.in-Tells-Pongs.is, c.in-Tells-Pongs.field-0-is, c.in-Tells-Pongs.ping-is) in
    let at = subst (λ (needed : Action). Follows setting number (is_accepted verdict) speaker next needed) (sym due ∙ is) (follows setting number seq verdict body speaker) in
    spoken-as _ _ _ _ _ _ _ _ at.1
    (spoken _ _ _ _ _ _ _ _ _ _ _ speaks (c.answers_ping.ensures.says keys c.args.draw.now speaker) (record { jobs = refl; bindings = refl; entries = refl }))

pub returns-in-Tells-Salts-clause-speaks : goal.returns-in-Tells-Salts-clause-speaks
returns-in-Tells-Salts-clause-speaks g c = λ keys seq verdict body speaker name others past opened are due order speaks.
    let setting = setting_of c.args.now g.D.Draw.step keys in
    let number = c.args.number in
    let next = owes setting number seq verdict body speaker in
    let is : c.args.due ≡ Tells (Salts c.in-Tells-Salts.count) = cc (c.in-Tells-Salts.is, c.in-Tells-Salts.field-0-is, c.in-Tells-Salts.count-is) in
    let at = subst (λ (needed : Action). Follows setting number (is_accepted verdict) speaker next needed) (sym due ∙ is) (follows setting number seq verdict body speaker) in
    spoken-as _ _ _ _ _ _ _ _ at.1
    (spoken _ _ _ _ _ _ _ _ _ _ _ speaks (c.tells_salts.ensures.says keys speaker) (record { jobs = refl; bindings = refl; entries = refl }))

pub returns-in-Tells-Acks-clause-speaks : goal.returns-in-Tells-Acks-clause-speaks
returns-in-Tells-Acks-clause-speaks g c = λ keys seq verdict body speaker name others past opened are due order speaks.
    let setting = setting_of c.args.now g.D.Draw.step keys in
    let number = c.args.number in
    let next = owes setting number seq verdict body speaker in
    let is : c.args.due ≡ Tells (Acks c.in-Tells-Acks.ids) = cc (c.in-Tells-Acks.is, c.in-Tells-Acks.field-0-is, c.in-Tells-Acks.ids-is) in
    let at = subst (λ (needed : Action). Follows setting number (is_accepted verdict) speaker next needed) (sym due ∙ is) (follows setting number seq verdict body speaker) in
    spoken-as _ _ _ _ _ _ _ _ (at.1 ∙ ap (λ (numbers : List ℕ). takes_acks numbers speaker) (sym c.ids-in-Tells-Acks.ensures.value))
    (spoken _ _ _ _ _ _ _ _ _ _ (takes_acks c.ids-in-Tells-Acks.result.now speaker) speaks (c.takes_acks.ensures.says c.args.now c.args.self.now.turn.owing c.args.draw.now speaker order.midway.order.replied) (record { jobs = refl; bindings = refl; entries = refl }))

pub returns-in-Tells-States-clause-speaks : goal.returns-in-Tells-States-clause-speaks
returns-in-Tells-States-clause-speaks g c = λ keys seq verdict body speaker name others past opened are due order speaks.
    let setting = setting_of c.args.now g.D.Draw.step keys in
    let number = c.args.number in
    let next = owes setting number seq verdict body speaker in
    let is : c.args.due ≡ Tells (States c.in-Tells-States.asked) = cc (c.in-Tells-States.is, c.in-Tells-States.field-0-is, c.in-Tells-States.asked-is) in
    let at = subst (λ (needed : Action). Follows setting number (is_accepted verdict) speaker next needed) (sym due ∙ is) (follows setting number seq verdict body speaker) in
    spoken-as _ _ _ _ _ _ _ _ (at.1 ∙ ap (λ (numbers : List ℕ). tells_states setting number numbers speaker) (sym c.ids-in-Tells-States.ensures.value))
    (spoken _ _ _ _ _ _ _ _ _ _ _ speaks (c.tells_states.ensures.says keys c.args.draw.now speaker) (record { jobs = refl; bindings = refl; entries = refl }))

pub returns-in-Tells-Resends-clause-speaks : goal.returns-in-Tells-Resends-clause-speaks
returns-in-Tells-Resends-clause-speaks g c = λ keys seq verdict body speaker name others past opened are due order speaks.
    let setting = setting_of c.args.now g.D.Draw.step keys in
    let number = c.args.number in
    let next = owes setting number seq verdict body speaker in
    let is : c.args.due ≡ Tells (Resends c.in-Tells-Resends.asked) = cc (c.in-Tells-Resends.is, c.in-Tells-Resends.field-0-is, c.in-Tells-Resends.asked-is) in
    let at = subst (λ (needed : Action). Follows setting number (is_accepted verdict) speaker next needed) (sym due ∙ is) (follows setting number seq verdict body speaker) in
    spoken-as _ _ _ _ _ _ _ _ (at.1 ∙ ap (λ (numbers : List ℕ). sends_again setting number numbers speaker) (sym c.ids-in-Tells-Resends.ensures.value))
    (spoken _ _ _ _ _ _ _ _ _ _ _ speaks (c.sends_again.ensures.says keys c.args.draw.now speaker) (resends-rest setting number c.ids-in-Tells-Resends.result.now speaker))

pub returns-in-Tells-Pongs-clause-uses : goal.returns-in-Tells-Pongs-clause-uses
returns-in-Tells-Pongs-clause-uses g c = λ called calls.
    let is : c.args.due ≡ Tells (Pongs c.in-Tells-Pongs.ping) = cc (c.in-Tells-Pongs.is, c.in-Tells-Pongs.field-0-is, c.in-Tells-Pongs.ping-is) in
    let size : due_bytes c.args.due ≡ pong_bytes = ap due_bytes is in
    let said = c.answers_ping.ensures in
    let turn = c.args.self.now.turn in
    let left : Turn = record turn { owing = c.answers_ping.new.owing } in
    let spends : Spends c.args.now 1 (pong_bytes) 0 c.args.self.now.standing turn c.answers_ping.new.self left = record {
      places = omega (arith, said.places);
      bytes = omega (arith, said.left);
      numbers = omega (arith, said.numbers_last);
      entries = omega arith;
      places_taken = said.taken.0;
      bytes_taken = said.taken.1;
      key = said.same_key;
      number = said.same_number;
      at = said.at;
    } in
    used called c.args.now 2 (due_bytes c.args.due) 1 2 1 (pong_bytes) 0 0 _ _ _ _ spends said.unsaid (same-left _ _ said.same_replies)
    (omega arith) (omega (arith, size)) (omega arith) (omega arith)

pub returns-in-Tells-Salts-clause-uses : goal.returns-in-Tells-Salts-clause-uses
returns-in-Tells-Salts-clause-uses g c = λ called calls.
    let is : c.args.due ≡ Tells (Salts c.in-Tells-Salts.count) = cc (c.in-Tells-Salts.is, c.in-Tells-Salts.field-0-is, c.in-Tells-Salts.count-is) in
    let size : due_bytes c.args.due ≡ salts_bytes (min c.in-Tells-Salts.count future_rows_max) = ap due_bytes is in
    let said = c.tells_salts.ensures in
    let turn = c.args.self.now.turn in
    let left : Turn = record turn { owing = c.tells_salts.new.owing } in
    let spends : Spends c.args.now 1 (salts_bytes (min c.in-Tells-Salts.count future_rows_max)) 0 c.args.self.now.standing turn c.tells_salts.new.self left = record {
      places = omega (arith, said.places);
      bytes = omega (arith, said.left);
      numbers = omega (arith, said.numbers_last);
      entries = omega arith;
      places_taken = said.taken.0;
      bytes_taken = said.taken.1;
      key = said.same_key;
      number = said.same_number;
      at = said.at;
    } in
    used called c.args.now 2 (due_bytes c.args.due) 1 2 1 (salts_bytes (min c.in-Tells-Salts.count future_rows_max)) 0 0 _ _ _ _ spends said.unsaid (same-left _ _ said.same_replies)
    (omega arith) (omega (arith, size)) (omega arith) (omega arith)

pub returns-in-Tells-States-clause-uses : goal.returns-in-Tells-States-clause-uses
returns-in-Tells-States-clause-uses g c = λ called calls.
    let is : c.args.due ≡ Tells (States c.in-Tells-States.asked) = cc (c.in-Tells-States.is, c.in-Tells-States.field-0-is, c.in-Tells-States.asked-is) in
    let size : due_bytes c.args.due ≡ states_bytes (length c.ids-in-Tells-States.result.now) = ap due_bytes is ∙ sym (ap (λ (numbers : List ℕ). states_bytes (length numbers)) c.ids-in-Tells-States.ensures.value) in
    let said = c.tells_states.ensures in
    let turn = c.args.self.now.turn in
    let left : Turn = record turn { owing = c.tells_states.new.owing } in
    let spends : Spends c.args.now 1 (states_bytes (length c.ids-in-Tells-States.result.now)) 0 c.args.self.now.standing turn c.tells_states.new.self left = record {
      places = omega (arith, said.places);
      bytes = omega (arith, said.left);
      numbers = omega (arith, said.numbers_last);
      entries = omega arith;
      places_taken = said.taken.0;
      bytes_taken = said.taken.1;
      key = said.same_key;
      number = said.same_number;
      at = said.at;
    } in
    used called c.args.now 2 (due_bytes c.args.due) 1 2 1 (states_bytes (length c.ids-in-Tells-States.result.now)) 0 0 _ _ _ _ spends said.unsaid (same-left _ _ said.same_replies)
    (omega arith) (omega (arith, size)) (omega arith) (omega arith)

pub returns-in-Tells-Acks-clause-uses : goal.returns-in-Tells-Acks-clause-uses
returns-in-Tells-Acks-clause-uses g c = λ called calls.
    let said = c.takes_acks.ensures in
    let turn = c.args.self.now.turn in
    let spends : Spends c.args.now 0 0 0 c.args.self.now.standing turn c.takes_acks.new.self turn = record {
      places = omega arith;
      bytes = omega arith;
      numbers = omega (arith, said.same_numbers);
      entries = omega arith;
      places_taken = refl;
      bytes_taken = refl;
      key = said.same_key;
      number = said.same_number;
      at = said.at c.args.now;
    } in
    used called c.args.now 2 (due_bytes c.args.due) 1 2 0 0 0 0 _ _ _ _ spends (said.unsaid turn.owing) (omega (arith, said.same_room))
    (omega arith) (omega arith) (omega arith) (omega arith)
