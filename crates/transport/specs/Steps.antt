-- What a server's end becomes as its first bytes come.
use Rattle.std.specs.Prelude.{◌≡◌, ⊤, ℕ, List}
use Rattle.transport.specs.Wires.{Line}
use Rattle.transport.specs.declared.wire.RawStep.{RawStep}
use Rattle.transport.specs.declared.wire.RawStep.TheVariants.{Raw, Framed, Start, Memory}

abbrev pub IfRaw : RawStep → (List ℕ → Type 0) → Type 0
IfRaw (Raw wire) P = P wire
IfRaw (Framed wire) P = ⊤
IfRaw (Start bytes) P = ⊤
IfRaw (Memory wire) P = ⊤

abbrev pub IfFramed : RawStep → (Line → Type 0) → Type 0
IfFramed (Raw wire) P = ⊤
IfFramed (Framed wire) P = P wire
IfFramed (Start bytes) P = ⊤
IfFramed (Memory wire) P = ⊤

abbrev pub IfStart : RawStep → (List ℕ → Type 0) → Type 0
IfStart (Raw wire) P = ⊤
IfStart (Framed wire) P = ⊤
IfStart (Start bytes) P = P bytes
IfStart (Memory wire) P = ⊤

abbrev pub IfMemory : RawStep → (List ℕ → Type 0) → Type 0
IfMemory (Raw wire) P = ⊤
IfMemory (Framed wire) P = ⊤
IfMemory (Start bytes) P = ⊤
IfMemory (Memory wire) P = P wire

-- that it awaits more bytes
abbrev pub IsRaw : RawStep → Type 0
IsRaw (Raw wire) = ⊤
IsRaw (Framed wire) = ⊥
IsRaw (Start bytes) = ⊥
IsRaw (Memory wire) = ⊥

-- that its form is known, or would be but for want of memory
abbrev pub IsFramedOrMemory : RawStep → Type 0
IsFramedOrMemory (Raw wire) = ⊥
IsFramedOrMemory (Framed wire) = ⊤
IsFramedOrMemory (Start bytes) = ⊥
IsFramedOrMemory (Memory wire) = ⊤

-- that these bytes name no form
abbrev pub IsStart : List ℕ → RawStep → Type 0
IsStart bytes (Raw wire) = ⊥
IsStart bytes (Framed wire) = ⊥
IsStart bytes (Start found) = found ≡ bytes
IsStart bytes (Memory wire) = ⊥
