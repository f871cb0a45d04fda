use Rattle.std.proofs.Common.{rules, ◌≡◌, ◌∷◌, [], ◌++◌, List, ℕ, length, drop, refl, sym, ap, subst, ◌∙◌, Option}
use Rattle.std.proofs.lemmas.List.{drop_at}
use Rattle.cipher_modes.specs.CounterMode.{CtrState}
use Rattle.transport.specs.Forms.{frame_of, IsSent}
use Rattle.transport.specs.Directions.{through, behind}
use Rattle.transport.specs.Wires.{Line, Tells}
use Rattle.transport.proofs.Telling.{TellLaws, told}
use Rattle.transport.proofs.Wholes.{begins, enciphered, sends_on}
use Rattle.transport.proofs.wire.Wire+Framed.put.Goals as goal

pub returns-clause-tells : goal.returns-clause-tells
returns-clause-tells c =
    let packet : List ℕ = c.args.packet.now in
    let old : Line = c.self.inside.state in
    let new : Line = c.encipher.new.self in
    let out : List ℕ = c.args.out.now in
    let front : List ℕ = frame_of old.form old.number packet in
    let laws : TellLaws = record {
      pieces = c.ctr_pieces_equal_the_whole.ensures;
      undone = c.ctr_undoes_itself.ensures;
      short = c.written_frames.ensures;
      len = c.written_frames-2.ensures;
      full = c.written_frames-3.ensures;
      next = c.numbers_go_on.ensures.next;
      frame = c.streams_go_on.ensures.frame;
    } in
    let counted = c.in_ok-frame.ensures.counted in
    let passed = c.encipher.ensures.passed in
    let tail : drop (length c.as_slice-start.result.now) c.frame.new.out ≡ front =
    ap (λ (l : List ℕ). drop (length l) c.frame.new.out) c.as_slice-start.ensures.value
    ∙ ap (drop (length out)) c.in_ok-frame.ensures.appended ∙ drop_at out front (length out) refl in
    let writing : new.writing ≡ behind old.writing (length front) =
    ap (λ (l : Line). l.writing) passed
    ∙ ap (λ (l : Line). behind l.writing (length (drop (length c.as_slice-start.result.now) c.frame.new.out))) counted
    ∙ ap (λ (t : List ℕ). behind old.writing (length t)) tail in
    subst (λ (o : Line). (to : Option CtrState) (packets : List (List ℕ)) (bytes : List ℕ) → Tells o to packets bytes
    → Tells new to (packets ++ packet ∷ []) (bytes ++ through o.writing (frame_of o.form o.number packet))) c.self.view_is
    (told laws old new packet (subst (λ (o : Line). IsSent o.form packet) (sym c.self.view_is) c.requires)
    (ap (λ (l : Line). l.form) passed ∙ ap (λ (l : Line). l.form) counted)
    (ap (λ (l : Line). l.number) passed ∙ ap (λ (l : Line). l.number) counted) writing)

pub returns-clause-sends_first : goal.returns-clause-sends_first
returns-clause-sends_first c form obfuscate drawn plain begun sent =
    let old : Line = c.self.inside.state in
    let packet : List ℕ = c.args.packet.now in
    let out : List ℕ = c.args.out.now in
    let whole = subst (λ (o : Line). c.encipher.new.out ≡ out ++ through o.writing (frame_of o.form o.number packet)) c.self.view_is
    (enciphered out (frame_of old.form old.number packet) c.as_slice-start.result.now c.frame.new.out c.encipher.new.out old.writing _
    c.as_slice-start.ensures.value c.in_ok-frame.ensures.appended (ap (λ (l : Line). l.writing) c.in_ok-frame.ensures.counted) c.encipher.ensures.text) in
    begins _ _ form obfuscate drawn packet _ _ plain begun sent c.requires (returns-clause-tells c) (search rules) whole

pub returns-clause-sends : goal.returns-clause-sends
returns-clause-sends c packets more sends is =
    let old : Line = c.self.inside.state in
    let packet : List ℕ = c.args.packet.now in
    let out : List ℕ = c.args.out.now in
    let whole = subst (λ (o : Line). c.encipher.new.out ≡ out ++ through o.writing (frame_of o.form o.number packet)) c.self.view_is
    (enciphered out (frame_of old.form old.number packet) c.as_slice-start.result.now c.frame.new.out c.encipher.new.out old.writing _
    c.as_slice-start.ensures.value c.in_ok-frame.ensures.appended (ap (λ (l : Line). l.writing) c.in_ok-frame.ensures.counted) c.encipher.ensures.text) in
    sends_on _ _ packets more packet _ _ _ (returns-clause-tells c) (search rules) whole sends is
