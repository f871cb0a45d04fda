-- A packet comes, and what follows it directly; and several packets, one after the other.
use Rattle.std.proofs.Common.{◌≡◌, ℕ, List, [], ◌∷◌, ◌++◌, Option, Some, None, Err, refl, sym, ap, subst, ◌∙◌, append_assoc}
use Rattle.auth_keys.specs.declared.ring.RingKey.{RingKey}
use Rattle.envelope.specs.Packet.{Lock}
use Rattle.regs_service.specs.Served.{Step}
use Rattle.server_core.specs.declared.desk.DeskFault.{DeskFault}
use Rattle.transport.specs.Wires.{Line}
use Rattle.server_node.specs.Coming.{CameBy, HeardLast, HeardOne, Sides, TookBy, TookLast, TookOne}
use Rattle.server_node.specs.Doing.{Did, Due, IsEventEnd, IsPart, Side, Stands, then_due}
use Rattle.server_node.specs.Steps.{IsSameIn}
use Rattle.server_node.specs.Trace.{Act, Attach, Hear, IsOutside, Outside, Rules, Talk, first_acts, moment_at, packet_acts, rules_of}
use Rattle.server_node.specs.declared.conn.ConnEnd.{ConnEnd}
use Rattle.server_node.specs.declared.conn.ConnEnd.TheVariants as ends
use Rattle.server_core.specs.declared.session_name.SessionName.{SessionName}
use Rattle.server_node.proofs.Answering.{next_on}
use Rattle.server_node.proofs.Doings.{did_both, did_under}

-- the same events, told otherwise, from where this stands
did_where : {S V : Type 0} (step : S → ℕ × S) (serve : Step V) (lock : Lock) (ring : List RingKey) (side later : Side S V) (due other : Due S V) (end : Option ConnEnd)
    → ((outside : Outside) (talk : Talk S V) → IsOutside lock ring outside → Stands side talk → due (rules_of step serve outside) talk ≡ other (rules_of step serve outside) talk)
    → Did step serve lock ring side due end later → Did step serve lock ring side other end later
did_where step serve lock ring side later due other end same did = record {
  acts = did.acts;
  bytes = did.bytes;
  follows = λ outside talk is stands.
      let one = did.follows outside talk is stands in
      record {
        part = subst (λ (acts : List Act). IsPart end acts did.acts) (same outside talk is stands) one.part;
        stands = one.stands;
        sends = one.sends;
      };
  written = did.written;
  cut = did.cut;
}

-- the connection ended, and more events would have been due
did_longer : {S V : Type 0} (step : S → ℕ × S) (serve : Step V) (lock : Lock) (ring : List RingKey) (side later : Side S V) (due more other : Due S V) (end : ConnEnd)
    → ((rules : Rules S V) (talk : Talk S V) → other rules talk ≡ due rules talk ++ more rules talk)
    → Did step serve lock ring side due (Some end) later → Did step serve lock ring side other (Some end) later
did_longer step serve lock ring side later due more other end same did = record {
  acts = did.acts;
  bytes = did.bytes;
  follows = λ outside talk is stands.
      let one = did.follows outside talk is stands in
      let rest : List Act = more (rules_of step serve outside) talk in
      record {
        part = (one.part.0 ++ rest, same (rules_of step serve outside) talk ∙ ap (λ (some : List Act). some ++ rest) one.part.1 ∙ append_assoc did.acts one.part.0 rest);
        stands = one.stands;
        sends = one.sends;
      };
  written = did.written;
  cut = did.cut;
}

-- no attach follows
pub took_heard : {S V : Type 0} (step : S → ℕ × S) (serve : Step V) (lock : Lock) (ring : List RingKey) (side later : Sides S V) (now : ℕ) (wire wire_then : Line)
    → HeardOne step serve lock ring side now wire wire_then None [] later → TookOne step serve lock ring side now wire wire_then later
took_heard {S} {V} step serve lock ring side later now wire wire_then heard = record {
  packet = heard.packet;
  next = heard.next;
  did = λ service. did_where step serve lock ring (side service) (later service) (λ rules talk. Hear now heard.packet ∷ []) (λ rules talk. packet_acts rules now heard.packet talk) None
      (λ outside talk is stands. ap (λ (acts : List Act). Hear now heard.packet ∷ acts) (sym (heard.first service outside talk is stands))) (heard.did service);
}

-- an attach follows
first_did : {S V : Type 0} (step : S → ℕ × S) (serve : Step V) (lock : Lock) (ring other : List RingKey) (side middle later : Sides S V) (now : ℕ) (wire between : Line) (name : SessionName) (end : Option ConnEnd)
    → other ≡ ring → (heard : HeardOne step serve lock ring side now wire between None (Attach now name ∷ []) middle)
    → ((service : V) → Did step serve lock other (middle service) (λ rules talk. Attach now name ∷ []) end (later service))
    → (service : V) → Did step serve lock ring (side service) (λ rules talk. packet_acts rules now heard.packet talk) end (later service)
first_did {S} {V} step serve lock ring other side middle later now wire between name end same heard attached service =
    did_where step serve lock ring (side service) (later service) (then_due (λ rules talk. Hear now heard.packet ∷ []) (λ rules talk. Attach now name ∷ [])) (λ rules talk. packet_acts rules now heard.packet talk) end
    (λ outside talk is stands. ap (λ (acts : List Act). Hear now heard.packet ∷ acts) (sym (heard.first service outside talk is stands)))
    (did_both step serve lock ring (side service) (middle service) (later service) (λ rules talk. Hear now heard.packet ∷ []) (λ rules talk. Attach now name ∷ []) end (heard.did service)
    (did_under step serve lock ring other (middle service) (later service) (λ rules talk. Attach now name ∷ []) end same (attached service)))

pub took_first : {S V : Type 0} (step : S → ℕ × S) (serve : Step V) (lock : Lock) (ring other : List RingKey) (side middle later : Sides S V) (now : ℕ) (wire between wire_then : Line) (name : SessionName)
    → other ≡ ring → IsSameIn between wire_then → HeardOne step serve lock ring side now wire between None (Attach now name ∷ []) middle
    → ((service : V) → Did step serve lock other (middle service) (λ rules talk. Attach now name ∷ []) None (later service))
    → TookOne step serve lock ring side now wire wire_then later
took_first step serve lock ring other side middle later now wire between wire_then name same alike heard attached = record {
  packet = heard.packet;
  next = next_on wire between wire_then heard.packet alike heard.next;
  did = first_did step serve lock ring other side middle later now wire between name None same heard attached;
}

last_by : {S V : Type 0} (step : S → ℕ × S) (serve : Step V) (lock : Lock) (ring : List RingKey) (side later : Sides S V) (now : ℕ) (wire wire_then : Line) (MayAnswer : DeskFault → Type 0) (end : ConnEnd)
    → IsEventEnd MayAnswer (Some end) → TookLast step serve lock ring side now wire end later → TookBy step serve lock ring side now wire wire_then (Err end) later
last_by step serve lock ring side later now wire wire_then MayAnswer ends.LinkFault can last = last
last_by step serve lock ring side later now wire wire_then MayAnswer ends.Memory can last = last
last_by step serve lock ring side later now wire wire_then MayAnswer (ends.Journal fault) can last = last
last_by step serve lock ring side later now wire wire_then MayAnswer ends.Ended can last = absurd can
last_by step serve lock ring side later now wire wire_then MayAnswer (ends.Frame fault) can last = absurd can
last_by step serve lock ring side later now wire wire_then MayAnswer ends.Start can last = absurd can
last_by step serve lock ring side later now wire wire_then MayAnswer ends.TurnsSpent can last = absurd can
last_by step serve lock ring side later now wire wire_then MayAnswer ends.Stopped can last = absurd can

pub attach_failed : {S V : Type 0} (step : S → ℕ × S) (serve : Step V) (lock : Lock) (ring other : List RingKey) (side middle later : Sides S V) (now : ℕ) (wire between wire_then : Line) (name : SessionName) (MayAnswer : DeskFault → Type 0) (end : ConnEnd)
    → other ≡ ring → IsEventEnd MayAnswer (Some end) → HeardOne step serve lock ring side now wire between None (Attach now name ∷ []) middle
    → ((service : V) → Did step serve lock other (middle service) (λ rules talk. Attach now name ∷ []) (Some end) (later service))
    → TookBy step serve lock ring side now wire wire_then (Err end) later
attach_failed step serve lock ring other side middle later now wire between wire_then name MayAnswer end same can heard attached =
    last_by step serve lock ring side later now wire wire_then MayAnswer end can (record {
      packet = heard.packet;
      next = λ from packets bytes hears. (heard.next from packets bytes hears).0;
      did = λ short. first_did step serve lock ring other side middle later now wire between name (Some end) same heard attached;
    })

-- the packet's own event ended the connection
heard_last : {S V : Type 0} (step : S → ℕ × S) (serve : Step V) (lock : Lock) (ring : List RingKey) (side later : Sides S V) (now : ℕ) (wire : Line) (end : ConnEnd)
    → HeardLast step serve lock ring side now wire end later → TookLast step serve lock ring side now wire end later
heard_last {S} {V} step serve lock ring side later now wire end last = record {
  packet = last.packet;
  next = last.next;
  did = λ short service. did_longer step serve lock ring (side service) (later service) (λ rules talk. Hear now last.packet ∷ []) (λ rules talk. first_acts now talk (rules.outside.reading (moment_at talk now) last.packet))
      (λ rules talk. packet_acts rules now last.packet talk) end (λ rules talk. refl) (last.did short service);
}

pub hear_ended : {S V : Type 0} (step : S → ℕ × S) (serve : Step V) (lock : Lock) (ring : List RingKey) (side later : Sides S V) (now : ℕ) (wire wire_then : Line) (end : ConnEnd)
    → CameBy step serve lock ring side now wire wire_then (Err end) later → TookBy step serve lock ring side now wire wire_then (Err end) later
hear_ended step serve lock ring side later now wire wire_then (ends.Frame fault) came = came
hear_ended step serve lock ring side later now wire wire_then ends.LinkFault came = heard_last step serve lock ring side later now wire ends.LinkFault came
hear_ended step serve lock ring side later now wire wire_then ends.Memory came = heard_last step serve lock ring side later now wire ends.Memory came
hear_ended step serve lock ring side later now wire wire_then (ends.Journal fault) came = heard_last step serve lock ring side later now wire (ends.Journal fault) came
hear_ended step serve lock ring side later now wire wire_then ends.Ended came = heard_last step serve lock ring side later now wire ends.Ended came
hear_ended step serve lock ring side later now wire wire_then ends.Start came = heard_last step serve lock ring side later now wire ends.Start came
hear_ended step serve lock ring side later now wire wire_then ends.TurnsSpent came = heard_last step serve lock ring side later now wire ends.TurnsSpent came
hear_ended step serve lock ring side later now wire wire_then ends.Stopped came = heard_last step serve lock ring side later now wire ends.Stopped came
