use Rattle.std.proofs.Common.{sym, subst}
use Rattle.framing.specs.Looks.{TellsLength}
use Rattle.transport.specs.Forms.{framing_of}
use Rattle.transport.specs.declared.form.Form.{Form}
use Rattle.transport.proofs.form.FormFraming.length.Goals as goal

pub returns-in-Intermediate : goal.returns-in-Intermediate
returns-in-Intermediate c =
    subst (λ (f : Form). TellsLength (framing_of f) c.args.text.now c.length-in-Intermediate.result) (sym c.in-Intermediate.is) c.length-in-Intermediate.ensures

pub returns-in-Padded : goal.returns-in-Padded
returns-in-Padded c =
    subst (λ (f : Form). TellsLength (framing_of f) c.args.text.now c.length-in-Padded.result) (sym c.in-Padded.is) c.length-in-Padded.ensures
