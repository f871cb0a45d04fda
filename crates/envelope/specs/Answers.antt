-- A fact about one answer of an opening.
use Rattle.std.specs.Prelude.{⊤}
use Rattle.envelope.specs.declared.parts.Envelope.{Envelope}
use Rattle.envelope.specs.declared.parts.Opened.{Opened}
use Rattle.envelope.specs.declared.parts.Opened.TheVariants as opened
use Rattle.envelope.specs.declared.refusal.Refusal.{Refusal}

-- where an envelope was answered, it is such
abbrev pub IfEnvelope : Opened → (Envelope → Type 0) → Type 0
IfEnvelope (opened.Envelope envelope) P = P envelope
IfEnvelope (opened.Refused refusal) P = ⊤
IfEnvelope opened.Memory P = ⊤

-- where a refusal was answered, it is such
abbrev pub IfRefused : Opened → (Refusal → Type 0) → Type 0
IfRefused (opened.Envelope envelope) P = ⊤
IfRefused (opened.Refused refusal) P = P refusal
IfRefused opened.Memory P = ⊤
