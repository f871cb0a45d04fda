-- Packets that go over a wire.
use Rattle.std.specs.Prelude.{ℕ, List}
use Rattle.transport.specs.Forms.{IsSent}
use Rattle.transport.specs.declared.form.Form.{Form}

-- it may be put into a frame of each form
abbrev pub Fits : List ℕ → Type 0
Fits packet = (form : Form) → IsSent form packet
