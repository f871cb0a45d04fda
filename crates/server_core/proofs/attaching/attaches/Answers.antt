use Rattle.std.proofs.Common.{◌≡◌, ◌∙◌, true, false, List, ap, sym, subst, not}
use Rattle.std.proofs.lemmas.Bool.{cond-true, cond-false}
use Rattle.server_output.specs.Dues.{Dues}
use Rattle.server_rules.specs.Server.{has_accepted, name_of}
use Rattle.server_rules.specs.Event.{Owed, Speaker}
use Rattle.server_rules.specs.Speaking.{says_it_is_new}
use Rattle.server_rules.specs.Sending.{messages_by}
use Rattle.server_rules.specs.Answer.{attaches}
use Rattle.server_session.specs.Says.{Says, setting_of}
use Rattle.server_core.specs.declared.speech.Speech.{Speech}
use Rattle.server_core.proofs.Attached.{all-again, attaches-sent, begun_so, said-as}
use Rattle.server_core.proofs.attaching.attaches.Goals as goal
use Rattle.server_core.proofs.attaching.attaches.Goals.{then-is_new, else-is_new}

pub returns-clause-stands : goal.returns-clause-stands
returns-clause-stands g c = λ keys speaker begins.
    let D : Type 0 = g.row.D.Denot in
    let now = c.args.now in
    let setting = setting_of now g.D.Draw.step keys in
    let owed : c.args.speech.owing.messages ≡ messages_by (name_of speaker.session) speaker.owed =
    ap (λ (dues : Dues). dues.messages) c.requires.room.room.owing ∙ ap (λ (owed : List Owed). messages_by (name_of speaker.session) owed) (sym begins.owed) in
    let first : Says now c.args.standing.now c.args.speech.owing c.args.draw.now speaker = record { stands = begins.stands; owed = owed; draws = begins.draws } in
    let heard : has_accepted speaker.session ≡ not c.is_new.result = c.is_new.ensures now speaker.session begins.stands in
    let opened : Says now c.if-is_new.standing c.if-is_new.speech.owing c.if-is_new.draw (begun_so setting speaker) =
    elim c.if-is_new.branch [
      | then-is_new w ↦
          let unheard : has_accepted speaker.session ≡ false = heard ∙ ap not w.if-is_new.true in
          said-as now w.says_it_is_new.new.self c.if-is_new.standing w.says_it_is_new.new.owing c.if-is_new.speech.owing w.says_it_is_new.new.draw c.if-is_new.draw
          (says_it_is_new setting speaker) (begun_so setting speaker) w.standing-is (ap (λ (speech : Speech). speech.owing) w.speech-is) w.draw-is
          (cond-false (has_accepted speaker.session) speaker (says_it_is_new setting speaker) unheard) (w.says_it_is_new.ensures.says keys speaker first)
      | else-is_new w ↦
          let was_heard : has_accepted speaker.session ≡ true = heard ∙ ap not w.if-is_new.false in
          said-as now c.args.standing.now c.if-is_new.standing c.args.speech.owing c.if-is_new.speech.owing c.args.draw.now c.if-is_new.draw
          speaker (begun_so setting speaker) w.standing-is (ap (λ (speech : Speech). speech.owing) w.speech-is) w.draw-is
          (cond-true (has_accepted speaker.session) speaker (says_it_is_new setting speaker) was_heard) first
    ] in
    let again = c.says_all_again.ensures.says now c.if-is_new.draw (begun_so setting speaker) opened in
    let all : Says now c.if-is_new.standing c.says_all_again.new.owing c.if-is_new.draw (attaches setting speaker) =
    subst (λ (said : Speaker D). Says now c.if-is_new.standing c.says_all_again.new.owing c.if-is_new.draw said) (all-again setting speaker) again in
    c.sends.ensures.stands keys (attaches setting speaker) all

pub returns-clause-drawn : goal.returns-clause-drawn
returns-clause-drawn g c = λ keys speaker begins.
    let D : Type 0 = g.row.D.Denot in
    let now = c.args.now in
    let setting = setting_of now g.D.Draw.step keys in
    let owed : c.args.speech.owing.messages ≡ messages_by (name_of speaker.session) speaker.owed =
    ap (λ (dues : Dues). dues.messages) c.requires.room.room.owing ∙ ap (λ (owed : List Owed). messages_by (name_of speaker.session) owed) (sym begins.owed) in
    let first : Says now c.args.standing.now c.args.speech.owing c.args.draw.now speaker = record { stands = begins.stands; owed = owed; draws = begins.draws } in
    let heard : has_accepted speaker.session ≡ not c.is_new.result = c.is_new.ensures now speaker.session begins.stands in
    let opened : Says now c.if-is_new.standing c.if-is_new.speech.owing c.if-is_new.draw (begun_so setting speaker) =
    elim c.if-is_new.branch [
      | then-is_new w ↦
          let unheard : has_accepted speaker.session ≡ false = heard ∙ ap not w.if-is_new.true in
          said-as now w.says_it_is_new.new.self c.if-is_new.standing w.says_it_is_new.new.owing c.if-is_new.speech.owing w.says_it_is_new.new.draw c.if-is_new.draw
          (says_it_is_new setting speaker) (begun_so setting speaker) w.standing-is (ap (λ (speech : Speech). speech.owing) w.speech-is) w.draw-is
          (cond-false (has_accepted speaker.session) speaker (says_it_is_new setting speaker) unheard) (w.says_it_is_new.ensures.says keys speaker first)
      | else-is_new w ↦
          let was_heard : has_accepted speaker.session ≡ true = heard ∙ ap not w.if-is_new.false in
          said-as now c.args.standing.now c.if-is_new.standing c.args.speech.owing c.if-is_new.speech.owing c.args.draw.now c.if-is_new.draw
          speaker (begun_so setting speaker) w.standing-is (ap (λ (speech : Speech). speech.owing) w.speech-is) w.draw-is
          (cond-true (has_accepted speaker.session) speaker (says_it_is_new setting speaker) was_heard) first
    ] in
    let again = c.says_all_again.ensures.says now c.if-is_new.draw (begun_so setting speaker) opened in
    let all : Says now c.if-is_new.standing c.says_all_again.new.owing c.if-is_new.draw (attaches setting speaker) =
    subst (λ (said : Speaker D). Says now c.if-is_new.standing c.says_all_again.new.owing c.if-is_new.draw said) (all-again setting speaker) again in
    c.sends.ensures.drawn keys (attaches setting speaker) all

pub returns-clause-sent : goal.returns-clause-sent
returns-clause-sent g c = λ keys speaker begins.
    let D : Type 0 = g.row.D.Denot in
    let now = c.args.now in
    let setting = setting_of now g.D.Draw.step keys in
    let owed : c.args.speech.owing.messages ≡ messages_by (name_of speaker.session) speaker.owed =
    ap (λ (dues : Dues). dues.messages) c.requires.room.room.owing ∙ ap (λ (owed : List Owed). messages_by (name_of speaker.session) owed) (sym begins.owed) in
    let first : Says now c.args.standing.now c.args.speech.owing c.args.draw.now speaker = record { stands = begins.stands; owed = owed; draws = begins.draws } in
    let heard : has_accepted speaker.session ≡ not c.is_new.result = c.is_new.ensures now speaker.session begins.stands in
    let opened : Says now c.if-is_new.standing c.if-is_new.speech.owing c.if-is_new.draw (begun_so setting speaker) =
    elim c.if-is_new.branch [
      | then-is_new w ↦
          let unheard : has_accepted speaker.session ≡ false = heard ∙ ap not w.if-is_new.true in
          said-as now w.says_it_is_new.new.self c.if-is_new.standing w.says_it_is_new.new.owing c.if-is_new.speech.owing w.says_it_is_new.new.draw c.if-is_new.draw
          (says_it_is_new setting speaker) (begun_so setting speaker) w.standing-is (ap (λ (speech : Speech). speech.owing) w.speech-is) w.draw-is
          (cond-false (has_accepted speaker.session) speaker (says_it_is_new setting speaker) unheard) (w.says_it_is_new.ensures.says keys speaker first)
      | else-is_new w ↦
          let was_heard : has_accepted speaker.session ≡ true = heard ∙ ap not w.if-is_new.false in
          said-as now c.args.standing.now c.if-is_new.standing c.args.speech.owing c.if-is_new.speech.owing c.args.draw.now c.if-is_new.draw
          speaker (begun_so setting speaker) w.standing-is (ap (λ (speech : Speech). speech.owing) w.speech-is) w.draw-is
          (cond-true (has_accepted speaker.session) speaker (says_it_is_new setting speaker) was_heard) first
    ] in
    let again = c.says_all_again.ensures.says now c.if-is_new.draw (begun_so setting speaker) opened in
    let all : Says now c.if-is_new.standing c.says_all_again.new.owing c.if-is_new.draw (attaches setting speaker) =
    subst (λ (said : Speaker D). Says now c.if-is_new.standing c.says_all_again.new.owing c.if-is_new.draw said) (all-again setting speaker) again in
    c.sends.ensures.sent keys (attaches setting speaker) all (attaches-sent setting speaker ∙ begins.sent)
