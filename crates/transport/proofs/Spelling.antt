-- The writer's frames, one packet more.
use Rattle.std.proofs.Common.{◌≡◌, ◌+◌, ℕ, List, [], ◌∷◌, ◌++◌, length, Option, None, Some, refl, sym, ap, subst, ◌∙◌, append_assoc, append-nil, arith}
use Rattle.std.specs.List.{concat}
use Rattle.cipher_modes.specs.CounterMode.{CtrState, advanced, applied, applied_in_turn}
use Rattle.framing.specs.Streams.{number_after}
use Rattle.transport.specs.Directions.{behind, through}
use Rattle.transport.specs.Forms.{frame_of}
use Rattle.transport.specs.Wires.{IsNumbered, Line}
use Rattle.transport.specs.Spelt.{Spells, SpellsMore, TellsMore, framed, frames_of}
use Rattle.transport.specs.declared.form.Form.{Form}
use Rattle.transport.specs.declared.form.Form.TheVariants.{Abridged, Intermediate, Padded, Full}

-- what the crate below promises
abbrev PiecesEqualTheWhole : Type 0
PiecesEqualTheWhole = (stream : CtrState) (pieces : List (List ℕ)) → applied_in_turn stream pieces ≡ applied stream (concat pieces)

abbrev UndoesItself : Type 0
UndoesItself = (stream : CtrState) (text : List ℕ) → applied stream (applied stream text) ≡ text

through_append : PiecesEqualTheWhole → (stream : Option CtrState) (one other : List ℕ)
    → through stream (one ++ other) ≡ through stream one ++ through (behind stream (length one)) other
through_append pieces None one other = refl
through_append pieces (Some stream) one other =
    ap (λ (bytes : List ℕ). applied stream (one ++ bytes)) (sym (append-nil other))
    ∙ sym (pieces stream (one ∷ other ∷ []))
    ∙ ap (λ (bytes : List ℕ). applied stream one ++ bytes) (append-nil (applied (advanced stream (length one)) other))

undone : UndoesItself → (stream : Option CtrState) (text : List ℕ) → through stream (through stream text) ≡ text
undone undoes None text = refl
undone undoes (Some stream) text = undoes stream text

frames_more : (form : Form) (count : ℕ) (packets : List (List ℕ)) (packet : List ℕ)
    → frames_of form count (packets ++ packet ∷ []) ≡ frames_of form count packets ++ frame_of form (number_after (length packets + count)) packet
frames_more form count [] packet =
    let same : count ≡ 0 + count = omega arith in
    append-nil (frame_of form (number_after count) packet) ∙ ap (λ (n : ℕ). frame_of form (number_after n) packet) same
frames_more form count (first ∷ others) packet =
    let front = frame_of form (number_after count) first in
    let last = λ (n : ℕ). frame_of form (number_after n) packet in
    let same : length others + (count + 1) ≡ length (first ∷ others) + count = omega arith in
    ap (λ (bytes : List ℕ). front ++ bytes) (frames_more form (count + 1) others packet)
    ∙ sym (append_assoc front (frames_of form (count + 1) others) (last (length others + (count + 1))))
    ∙ ap (λ (n : ℕ). (front ++ frames_of form (count + 1) others) ++ last n) same

-- full frames alone are numbered
numbered : (form : Form) (number count : ℕ) (packet : List ℕ) → IsNumbered form number count → frame_of form number packet ≡ frame_of form (number_after count) packet
numbered Abridged number count packet is = refl
numbered Intermediate number count packet is = refl
numbered Padded number count packet is = refl
numbered Full number count packet is = ap (λ (n : ℕ). frame_of Full n packet) is

pub spells_more : PiecesEqualTheWhole → UndoesItself → (old new : Line) (packet : List ℕ) → new.form ≡ old.form → TellsMore old new packet → SpellsMore old new packet
spells_more pieces undoes old new packet form tells to packets bytes before =
    let frame = frame_of old.form old.number packet in
    let last = λ (n : ℕ). frame_of old.form (number_after n) packet in
    let out : through (behind to (length bytes)) (framed old packet) ≡ frame =
    ap (λ (stream : Option CtrState). through stream (framed old packet)) (sym before.tells.place) ∙ undone undoes old.writing frame in
    let count : length packets ≡ length packets + 0 = omega arith in
    record {
      tells = tells to packets bytes before.tells;
      spelt = subst (λ (one : Form). through to (bytes ++ framed old packet) ≡ frames_of one 0 (packets ++ packet ∷ [])) (sym form)
          (through_append pieces to bytes (framed old packet)
          ∙ ap (λ (front : List ℕ). front ++ through (behind to (length bytes)) (framed old packet)) before.spelt
          ∙ ap (λ (rest : List ℕ). frames_of old.form 0 packets ++ rest) (out ∙ numbered old.form old.number (length packets) packet before.tells.number ∙ ap last count)
          ∙ sym (frames_more old.form 0 packets packet));
    }
