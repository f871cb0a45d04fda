-- Where a write of an event's bytes failed.
use Rattle.std.proofs.Common.{◌≡◌, ℕ, List, [], ◌∷◌, ◌++◌, Option, Some, None, IfSome, IsSomeAnd, refl, sym, subst, ◌∙◌, append-nil}
use Rattle.auth_keys.specs.declared.ring.RingKey.{RingKey}
use Rattle.cipher_modes.specs.CounterMode.{CtrState}
use Rattle.envelope.specs.Packet.{Lock}
use Rattle.mt_edge.specs.Links.{Told}
use Rattle.regs_service.specs.Served.{Step}
use Rattle.server_node.specs.Doing.{CutBy, Side, Stands, at_once}
use Rattle.server_node.specs.Frames.{AreFramesOf}
use Rattle.server_node.specs.Steps.{HearsAlike, LineFrames, LineTells}
use Rattle.server_node.specs.Trace.{Act, Talk}
use Rattle.server_node.specs.Writes.{WrittenBy, WroteFront}
use Rattle.server_node.specs.declared.conn.ConnEnd.{ConnEnd}
use Rattle.server_node.specs.declared.conn.ConnEnd.TheVariants as ends
use Rattle.server_node.specs.declared.line.Line.{Line}
use Rattle.server_node.specs.declared.line.Line.TheVariants.{Raw, Framed}
use Rattle.server_node.proofs.Spelling.{frames_in}

-- what was sent before reads as it did
frames_still : (line after : Line) (to : Option CtrState) (packets : List (List ℕ)) (text : List ℕ) → HearsAlike line after → LineTells line to packets text → LineFrames after to packets (text ++ [])
frames_still (Raw wire) after to packets text same tells = subst (λ (some : Line). LineFrames some to packets (text ++ [])) (sym same) (tells.0, append-nil text ∙ tells.1)
frames_still (Framed wire) (Raw other) to packets text same tells = absurd same
frames_still (Framed wire) (Framed other) to packets text same tells =
    subst (λ bytes. AreFramesOf other.form to packets bytes) (sym (append-nil text))
    (subst (λ form. AreFramesOf form to packets text) (sym same.0) (frames_in wire to packets text tells))

-- it is the first event's
pub cut_one : {S V : Type 0} (end : Option ConnEnd) (step : S → ℕ × S) (serve : Step V) (lock : Lock) (ring : List RingKey) (side : Side S V) (line : Line) (told : Option Told) (act : Act) (bytes : List ℕ)
    → HearsAlike side.line line → WrittenBy end bytes side.told told → CutBy end step serve lock ring side line told at_once (act ∷ []) bytes
cut_one (Some ends.LinkFault) step serve lock ring side line told act bytes alike written = record {
  earlier = [];
  last = act;
  whole = [];
  rest = bytes;
  are = refl;
  all = refl;
  frames = λ outside talk is stands to text tells. frames_still side.line line to talk.sent text alike tells;
  fails = written;
}
cut_one None step serve lock ring side line told act bytes alike written = tt
cut_one (Some ends.Ended) step serve lock ring side line told act bytes alike written = tt
cut_one (Some (ends.Frame fault)) step serve lock ring side line told act bytes alike written = tt
cut_one (Some ends.Start) step serve lock ring side line told act bytes alike written = tt
cut_one (Some ends.TurnsSpent) step serve lock ring side line told act bytes alike written = tt
cut_one (Some ends.Stopped) step serve lock ring side line told act bytes alike written = tt
cut_one (Some (ends.Journal fault)) step serve lock ring side line told act bytes alike written = tt
cut_one (Some ends.Memory) step serve lock ring side line told act bytes alike written = tt

-- the same from another side, whose talks are those of the first one
pub cut_from : {S V : Type 0} (end : Option ConnEnd) (step : S → ℕ × S) (serve : Step V) (lock : Lock) (ring : List RingKey) (side other : Side S V) (line : Line) (told : Option Told) (acts : List Act) (bytes : List ℕ)
    → other.told ≡ side.told → ((talk : Talk S V) → Stands other talk → Stands side talk)
    → ((to : Option CtrState) (packets : List (List ℕ)) (text : List ℕ) → LineTells other.line to packets text → LineTells side.line to packets text)
    → CutBy end step serve lock ring side line told at_once acts bytes → CutBy end step serve lock ring other line told at_once acts bytes
cut_from (Some ends.LinkFault) step serve lock ring side other line told acts bytes same stays tell cut = record {
  earlier = cut.earlier;
  last = cut.last;
  whole = cut.whole;
  rest = cut.rest;
  are = cut.are;
  all = cut.all;
  frames = λ outside talk is stands to text tells. cut.frames outside talk is (stays talk stands) to text (tell to talk.sent text tells);
  fails = subst (λ (some : Option Told). IfSome told (λ ended. IsSomeAnd some (λ begun. WroteFront cut.whole cut.rest begun ended))) (sym same) cut.fails;
}
cut_from None step serve lock ring side other line told acts bytes same stays tell cut = tt
cut_from (Some ends.Ended) step serve lock ring side other line told acts bytes same stays tell cut = tt
cut_from (Some (ends.Frame fault)) step serve lock ring side other line told acts bytes same stays tell cut = tt
cut_from (Some ends.Start) step serve lock ring side other line told acts bytes same stays tell cut = tt
cut_from (Some ends.TurnsSpent) step serve lock ring side other line told acts bytes same stays tell cut = tt
cut_from (Some ends.Stopped) step serve lock ring side other line told acts bytes same stays tell cut = tt
cut_from (Some (ends.Journal fault)) step serve lock ring side other line told acts bytes same stays tell cut = tt
cut_from (Some ends.Memory) step serve lock ring side other line told acts bytes same stays tell cut = tt
