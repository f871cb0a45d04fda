use Rattle.std.proofs.Common.{◌≡◌, ◌∙◌, ℕ, Option, [], ◌∷◌, ap, subst}
use Rattle.std.specs.Prelude.{IfOk}
use Rattle.id_window.specs.declared.mark.Mark.{Mark}
use Rattle.inbox.specs.Inbox.{message_in}
use Rattle.server_dispatch.specs.declared.action.Action.TheVariants.{Nothing}
use Rattle.server_rules.specs.Server.{mark_in}
use Rattle.server_core.specs.Room.{dues_in}
use Rattle.server_core.proofs.room.dues_in.Goals as goal

pub returns-in-None-clause-dues : goal.returns-in-None-clause-dues
returns-in-None-clause-dues c = λ now session stands.
    subst (λ (mark : Option Mark). IfOk c.dues_of.result (λ dues. dues.items ≡ dues_in mark (message_in c.args.outer.now)))
    (c.in-None.ensures now session stands ∙ ap (λ (number : ℕ). mark_in session number) c.number.ensures) c.dues_of.ensures.dues

pub returns-in-Some-clause-dues : goal.returns-in-Some-clause-dues
returns-in-Some-clause-dues c = λ now session stands.
    subst (λ (mark : Option Mark). IfOk c.due_alone.result (λ dues. dues.items ≡ dues_in mark (message_in c.args.outer.now)))
    (c.in-Some.ensures now session stands ∙ ap (λ (number : ℕ). mark_in session number) c.number.ensures)
    (subst (λ (number : ℕ). IfOk c.due_alone.result (λ dues. dues.items ≡ record { number = number; action = Nothing } ∷ [])) c.number-in-Some.ensures c.due_alone.ensures.dues)
