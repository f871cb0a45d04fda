-- A write that failed, behind the place where its piece was answered.
use Rattle.std.proofs.Common.{◌≡◌, ℕ, List, ◌++◌, Option, Some, None, IfSome, IsSomeAnd, inl, inr, sym, ap, subst, ◌∙◌, append_assoc}
use Rattle.auth_keys.specs.declared.ring.RingKey.{RingKey}
use Rattle.cipher_modes.specs.CounterMode.{CtrState}
use Rattle.envelope.specs.Packet.{Lock}
use Rattle.mt_edge.specs.Links.{Told}
use Rattle.regs_service.specs.Served.{Step}
use Rattle.server_node.specs.Connection.{BreaksIn, IsText, Passed, PassedFront, Place}
use Rattle.server_node.specs.Doing.{CutBy, Due, Side, Stands}
use Rattle.server_node.specs.Frames.{AreFramesOf}
use Rattle.server_node.specs.Steps.{LineFrames, LineTells}
use Rattle.server_node.specs.Trace.{Act, IsOutside, Outside, Rules, Talk, after_acts, rules_of}
use Rattle.server_node.specs.Turns.{IsLine}
use Rattle.server_node.specs.Writes.{WroteFront}
use Rattle.server_node.specs.declared.conn.ConnEnd.{ConnEnd}
use Rattle.server_node.specs.declared.conn.ConnEnd.TheVariants as ends
use Rattle.server_node.specs.declared.line.Line.{Line as Ends}
use Rattle.server_node.specs.declared.line.Line.TheVariants.{Raw, Framed}
use Rattle.server_node.proofs.Lines.{SameForm}
use Rattle.server_node.proofs.Reading.{passed_wrote, told_both}

-- what was written before
frames_then : (line after : Ends) (came : List ℕ) (packets sent sent_then : List (List ℕ)) (bytes bytes_then : List ℕ) → SameForm line after → IsLine line came packets sent bytes
    → ((to : Option CtrState) → LineTells line to sent bytes → LineFrames after to sent_then bytes_then)
    → IsText came sent_then bytes_then
frames_then (Raw wire) after came packets sent sent_then bytes bytes_then same raw sends =
    inl (subst (λ (some : Ends). LineFrames some None sent_then bytes_then) same (sends None (raw.unsent, raw.unwritten)))
frames_then (Framed wire) (Raw other) came packets sent sent_then bytes bytes_then same framed sends = absurd same
frames_then (Framed wire) (Framed other) came packets sent sent_then bytes bytes_then same framed sends = inr (record {
  opening = framed.opening;
  rest = framed.rest;
  starts = framed.starts;
  frames = subst (λ form. AreFramesOf form framed.opening.down sent_then bytes_then) (same ∙ framed.form) (sends framed.opening.down framed.tells);
})

passed_front : {S V : Type 0} (bytes whole rest : List ℕ) (place : Place S V) (first middle last : Told) → Passed bytes place first middle → WroteFront whole rest middle last → PassedFront (bytes ++ whole) rest place first last
passed_front bytes whole rest place first middle last before wrote = record {
  front = wrote.front;
  rest = wrote.rest;
  cut = wrote.cut;
  some = wrote.some;
  passed = subst (λ (all : List ℕ). Passed all place first last) (sym (append_assoc bytes whole wrote.front)) (passed_wrote bytes (whole ++ wrote.front) place first middle last before wrote.wrote);
}

-- where the connection ended by it
pub breaks_in : {S V : Type 0} (end : ConnEnd) (step : S → ℕ × S) (serve : Step V) (lock : Lock) (ring : List RingKey) (side : Side S V) (line : Ends) (told : Option Told) (first : Due S V) (acts : List Act) (more : List ℕ) (outside : Outside) (talk : Talk S V) (place : Place S V) (packets : List (List ℕ)) (bytes : List ℕ) (before : Option Told)
    → IsOutside lock ring outside → Stands side talk → after_acts (rules_of step serve outside) talk (first (rules_of step serve outside) talk) ≡ place.talk
    → SameForm side.line line → IsLine side.line place.came packets talk.sent bytes
    → IfSome side.told (λ last. IsSomeAnd before (λ begun. Passed bytes place begun last))
    → CutBy (Some end) step serve lock ring side line told first acts more
    → BreaksIn end (rules_of step serve outside) place acts (bytes ++ more) before told
breaks_in {S} {V} ends.LinkFault step serve lock ring side line told first acts more outside talk place packets bytes before is stands there same its passed cut =
    let rules : Rules S V = rules_of step serve outside in
    record {
      earlier = cut.earlier;
      last = cut.last;
      whole = bytes ++ cut.whole;
      rest = cut.rest;
      are = cut.are;
      all = ap (λ (some : List ℕ). bytes ++ some) cut.all ∙ sym (append_assoc bytes cut.whole cut.rest);
      text = frames_then side.line line place.came packets talk.sent (after_acts rules place.talk cut.earlier).sent bytes (bytes ++ cut.whole) same its
          (λ to tells. subst (λ (here : Talk S V). LineFrames line to (after_acts rules here cut.earlier).sent (bytes ++ cut.whole)) there (cut.frames outside talk is stands to bytes tells));
      fails = told_both (Passed bytes place) (WroteFront cut.whole cut.rest) (PassedFront (bytes ++ cut.whole) cut.rest place) (passed_front bytes cut.whole cut.rest place) before side.told told passed cut.fails;
    }
breaks_in ends.Ended step serve lock ring side line told first acts more outside talk place packets bytes before is stands there same its passed cut = tt
breaks_in (ends.Frame fault) step serve lock ring side line told first acts more outside talk place packets bytes before is stands there same its passed cut = tt
breaks_in ends.Start step serve lock ring side line told first acts more outside talk place packets bytes before is stands there same its passed cut = tt
breaks_in ends.TurnsSpent step serve lock ring side line told first acts more outside talk place packets bytes before is stands there same its passed cut = tt
breaks_in ends.Stopped step serve lock ring side line told first acts more outside talk place packets bytes before is stands there same its passed cut = tt
breaks_in (ends.Journal fault) step serve lock ring side line told first acts more outside talk place packets bytes before is stands there same its passed cut = tt
breaks_in ends.Memory step serve lock ring side line told first acts more outside talk place packets bytes before is stands there same its passed cut = tt
