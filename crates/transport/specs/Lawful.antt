-- Scaffolding of proofs, and no promise: each form is one that can be read.
use Rattle.std.specs.Prelude.{true, false}
use Rattle.framing.specs.Laws.{IsForm}
use Rattle.frame_short.specs.Lawful.{abridged_lawful}
use Rattle.frame_len.specs.Lawful as len
use Rattle.frame_full.specs.Lawful.{full_lawful}
use Rattle.transport.specs.Forms.{framing_of}
use Rattle.transport.specs.declared.form.Form.{Form}
use Rattle.transport.specs.declared.form.Form.TheVariants.{Abridged, Intermediate, Padded, Full}

pub lawful : (form : Form) → IsForm (framing_of form)
lawful Abridged = abridged_lawful
lawful Intermediate = len.lawful false
lawful Padded = len.lawful true
lawful Full = full_lawful
