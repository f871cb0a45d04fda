-- Packets that go out one after the other.
use Rattle.std.proofs.Common.{◌≡◌, ◌+◌, ◌<◌, ℕ, zero, suc, List, [], ◌∷◌, ◌++◌, length, map, take, get_or, Option, Some, None, refl, sym, ap, subst, ◌∙◌, append_assoc, append-nil, arith}
use Rattle.std.proofs.lemmas.List.{map-append}
use Rattle.std.proofs.lemmas.List.Elements.{filter-append}
use Rattle.std.specs.List.{filter}
use Rattle.mt_edge.specs.Links.{Told}
use Rattle.server_output.specs.declared.outs.Out.{Out}
use Rattle.transport.specs.Wires.{Line}
use Rattle.server_node.specs.Frames.{AreFramesOf}
use Rattle.transport.specs.Spelt.{Spells}
use Rattle.server_node.specs.Steps.{Framings, IsSameIn, Said, goes_out, going_out}
use Rattle.server_node.specs.Writes.{WrittenBy}
use Rattle.server_node.specs.declared.conn.ConnEnd.TheVariants as ends
use Rattle.server_core.specs.declared.session_name.SessionName.{SessionName}
use Rattle.server_node.specs.declared.line.Line.TheVariants.{Raw, Framed}
use Rattle.server_node.proofs.Spelling.{frames_in}
use Rattle.server_node.proofs.Writing.{wrote_nothing}

pub going_both : (heard : List SessionName) (front back : List Out) → going_out heard (front ++ back) ≡ going_out heard front ++ going_out heard back
going_both heard front back =
    ap (map (λ (out : Out). out.packet)) (filter-append (goes_out heard) front back) ∙ map-append (λ (out : Out). out.packet) (filter (goes_out heard) front) (filter (goes_out heard) back)

pub none_going : (outs : List Out) → going_out [] outs ≡ []
none_going [] = refl
none_going (out ∷ outs) = none_going outs

pub framed_both : (first middle last : Line) (text between after : List ℕ) (one other : List (List ℕ))
    → Framings first text one middle between → Framings middle between other last after → Framings first text (one ++ other) last after
framed_both first middle last text between after one other before next = record {
  bytes = before.bytes ++ next.bytes;
  behind = next.behind ∙ ap (λ bytes. bytes ++ next.bytes) before.behind ∙ append_assoc text before.bytes next.bytes;
  tells = λ to packets sent tells.
      subst (λ (all : List (List ℕ)). Spells last to all (sent ++ (before.bytes ++ next.bytes))) (append_assoc packets one other)
      (subst (λ (bytes : List ℕ). Spells last to ((packets ++ one) ++ other) bytes) (append_assoc sent before.bytes next.bytes)
      (next.tells to (packets ++ one) (sent ++ before.bytes) (before.tells to packets sent tells)));
}

pub take_next : {X : Type 0} (xs : List X) (i : ℕ) (x : X) → i < length xs → x ≡ get_or xs i x → take (i + 1) xs ≡ take i xs ++ x ∷ []
take_next [] i x less is = absurd (omega (arith, less))
take_next (y ∷ ys) zero x less is = ap (λ one. one ∷ []) (sym is)
take_next (y ∷ ys) (suc i) x less is = let e : suc i + 1 ≡ suc (i + 1) = omega arith in rw e (ap (λ rest. y ∷ rest) (take_next ys i x (omega (arith, less)) is))

-- all of one event's packets
pub said_all : (wire wire_then : Line) (heard : List SessionName) (text piece : List ℕ) (packets : List (List ℕ)) (told told_then : Option Told)
    → Framings wire (take 0 text) packets wire_then piece → WrittenBy None piece told told_then
    → Said (Framed wire) heard told packets None (Framed wire_then) told_then
said_all wire wire_then heard text piece packets told told_then framed written = record {
  bytes = framed.bytes;
  sends = λ to before sent quiet tells. framed.tells to before sent tells;
  written = subst (λ bytes. WrittenBy None bytes told told_then) framed.behind written;
}

pub said_front : (wire wire_then : Line) (heard : List SessionName) (text piece : List ℕ) (packets : List (List ℕ)) (told told_then : Option Told)
    → Framings wire (take 0 text) packets wire_then piece → WrittenBy (Some ends.LinkFault) piece told told_then
    → Said (Framed wire) heard told packets (Some ends.LinkFault) (Framed wire_then) told_then
said_front wire wire_then heard text piece packets told told_then framed written = record {
  bytes = framed.bytes;
  sends = λ to before sent quiet tells. framed.tells to before sent tells;
  written = subst (λ bytes. WrittenBy (Some ends.LinkFault) bytes told told_then) framed.behind written;
}

pub said_memory : (wire wire_then : Line) (heard : List SessionName) (packets : List (List ℕ)) (told : Option Told)
    → IsSameIn wire wire_then → Said (Framed wire) heard told packets (Some ends.Memory) (Framed wire_then) told
said_memory wire wire_then heard packets told same = record {
  bytes = [];
  sends = λ to before sent quiet tells. record {
    front = before;
    rest = packets;
    whole = refl;
    frames = subst (λ bytes. AreFramesOf wire_then.form to before bytes) (sym (append-nil sent))
        (subst (λ form. AreFramesOf form to before sent) (sym same.0) (frames_in wire to before sent tells));
  };
  written = wrote_nothing told;
}

pub said_raw : (wire : List ℕ) (heard : List SessionName) (outs : List Out) (told : Option Told) → Said (Raw wire) heard told (going_out heard outs) None (Raw wire) told
said_raw wire heard outs told = record {
  bytes = [];
  sends = λ to before sent quiet tells.
      (ap (λ packets. before ++ packets) (ap (λ names. going_out names outs) quiet ∙ none_going outs) ∙ append-nil before ∙ tells.0, append-nil sent ∙ tells.1);
  written = wrote_nothing told;
}

-- one packet more
pub framed_more : (first middle last : Line) (text between after : List ℕ) (heard : List SessionName) (outs : List Out) (i : ℕ) (out : Out) → i < length outs → out ≡ get_or outs i out
    → Framings first text (going_out heard (take i outs)) middle between → Framings middle between (going_out heard (out ∷ [])) last after
    → Framings first text (going_out heard (take (i + 1) outs)) last after
framed_more first middle last text between after heard outs i out less is before next =
    subst (λ packets. Framings first text packets last after) (sym (ap (going_out heard) (take_next outs i out less is) ∙ going_both heard (take i outs) (out ∷ [])))
    (framed_both first middle last text between after (going_out heard (take i outs)) (going_out heard (out ∷ [])) before next)
