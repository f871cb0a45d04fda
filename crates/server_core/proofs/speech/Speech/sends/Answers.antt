use Rattle.std.proofs.Common.{◌∙◌, ◌<◌, ◌≤◌, length, ap, sym, subst, arith}
use Rattle.server_output.specs.Outs.{AreSent, Going}
use Rattle.server_rules.specs.Event.{Speaker}
use Rattle.server_rules.specs.Sending.{sends}
use Rattle.server_session.specs.declared.session.SessionState.{SessionState}
use Rattle.server_session.specs.SessionState.{Stands}
use Rattle.server_session.specs.Says.{setting_of}
use Rattle.server_core.proofs.Sending.{its-own, none-sent, nothing-sent, some-sent}
use Rattle.server_core.proofs.speech.Speech.sends.Goals as goal
use Rattle.server_core.proofs.speech.Speech.sends.Goals.{then-len-gt0, else-len-gt0}

pub returns-clause-stands : goal.returns-clause-stands
returns-clause-stands g c = λ keys speaker says.
    let setting = setting_of c.args.now g.D.Draw.step keys in
    let messages = c.args.self.owing.messages in
    let own = its-own setting speaker messages says.owed in
    let said : Speaker g.row.D.Denot = sends setting messages speaker in
    let P = λ (said : Speaker g.row.D.Denot). Stands c.args.now c.if-len-gt0.standing said.session in
    elim c.if-len-gt0.branch [
      | then-len-gt0 w ↦
          let some : 0 < length messages = omega arith in
          subst P (sym (own ∙ some-sent setting messages speaker some))
          (subst (λ (standing : SessionState). Stands c.args.now standing said.session) (sym w.standing-is) (w.sends.ensures.stands keys speaker says))
      | else-len-gt0 w ↦
          let none : length messages ≤ 0 = omega arith in
          subst P (sym (own ∙ none-sent setting messages speaker none))
          (subst (λ (standing : SessionState). Stands c.args.now standing speaker.session) (sym w.standing-is) says.stands)
    ]

pub returns-clause-drawn : goal.returns-clause-drawn
returns-clause-drawn g c = λ keys speaker says.
    let setting = setting_of c.args.now g.D.Draw.step keys in
    let messages = c.args.self.owing.messages in
    let own = its-own setting speaker messages says.owed in
    let draw_of = λ (said : Speaker g.row.D.Denot). said.draw in
    elim c.if-len-gt0.branch [
      | then-len-gt0 w ↦
          let some : 0 < length messages = omega arith in
          w.draw-is ∙ (w.sends.ensures.drawn keys speaker says ∙ ap draw_of (sym (own ∙ some-sent setting messages speaker some)))
      | else-len-gt0 w ↦
          let none : length messages ≤ 0 = omega arith in
          w.draw-is ∙ (says.draws ∙ ap draw_of (sym (own ∙ none-sent setting messages speaker none)))
    ]

pub returns-clause-sent : goal.returns-clause-sent
returns-clause-sent g c = λ keys speaker says none_before.
    let setting = setting_of c.args.now g.D.Draw.step keys in
    let messages = c.args.self.owing.messages in
    let own = its-own setting speaker messages says.owed in
    let said : Speaker g.row.D.Denot = sends setting messages speaker in
    let ring = g.S.Seal.keys c.args.seal.now in
    let before : AreSent g.S.Seal.lock ring speaker.sent c.args.self.outs.outs = nothing-sent g.S.Seal.lock ring speaker.sent c.args.self.outs.outs none_before c.requires.nothing in
    let P = λ (said : Speaker g.row.D.Denot). AreSent g.S.Seal.lock ring said.sent c.if-len-gt0.outs.outs in
    elim c.if-len-gt0.branch [
      | then-len-gt0 w ↦
          let some : 0 < length messages = omega arith in
          subst P (sym (own ∙ some-sent setting messages speaker some))
          (subst (λ (going : Going). AreSent g.S.Seal.lock ring said.sent going.outs) (sym w.outs-is) (w.sends.ensures.sent keys speaker says before))
      | else-len-gt0 w ↦
          let none : length messages ≤ 0 = omega arith in
          subst P (sym (own ∙ none-sent setting messages speaker none))
          (subst (λ (going : Going). AreSent g.S.Seal.lock ring speaker.sent going.outs) (sym w.outs-is) before)
    ]
