-- All packets that are whole, one after the other.
use Rattle.std.proofs.Common.{◌≡◌, ◌≢◌, ◌+◌, ℕ, zero, suc, false, List, [], ◌∷◌, ◌++◌, length, Option, Some, None, Ok, Err, inl, inr, refl, sym, ap, subst, ◌∙◌, append-nil, append_assoc, length-append, arith}
use Rattle.auth_keys.specs.declared.ring.RingKey.{RingKey}
use Rattle.cipher_modes.specs.CounterMode.{CtrState}
use Rattle.envelope.specs.Packet.{Lock}
use Rattle.framing.specs.Streams.{Begins, Faulty, Stream}
use Rattle.regs_service.specs.Served.{Step}
use Rattle.server_core.specs.declared.desk.DeskFault.{DeskFault}
use Rattle.transport.specs.Directions.{through}
use Rattle.transport.specs.Forms.{framing_of}
use Rattle.transport.specs.Wires.{Hears, Line}
use Rattle.server_node.specs.Coming.{AllCut, IsNext, Sides, TookAll, TookBy, TookLast, TookOne, TookSome, packets_max}
use Rattle.server_node.specs.Doing.{Did, IsPacketEnd, Side, then_due}
use Rattle.server_node.specs.Record.{counted_down, with_answered}
use Rattle.server_node.specs.Trace.{packet_acts, packets_acts}
use Rattle.server_node.specs.declared.conn.ConnEnd.{ConnEnd}
use Rattle.server_node.specs.declared.conn.ConnEnd.TheVariants as ends
use Rattle.server_node.proofs.Doings.{packets_more}
use Rattle.server_node.proofs.Doings.{did_as, did_both, did_then, did_under}
use Rattle.server_node.proofs.Events.{same_tells}
use Rattle.server_node.proofs.Writing.{wrote_nothing}

-- ---- no packet yet

pub did_zero : {S V : Type 0} (step : S → ℕ × S) (serve : Step V) (lock : Lock) (ring : List RingKey) (side : Side S V) → Did step serve lock ring side (λ rules talk. []) None side
did_zero step serve lock ring side = record {
  acts = [];
  bytes = [];
  follows = λ outside talk is stands. record { part = refl; stands = stands; sends = λ to text tells. same_tells side.line to talk.sent text tells };
  written = wrote_nothing side.told;
  cut = tt;
}

answered_zero : (left : Option ℕ) → left ≡ with_answered 0 left
answered_zero None = refl
answered_zero (Some left) = ap (λ (n : ℕ). Some n) (omega arith)

pub some_none : {S V : Type 0} (step : S → ℕ × S) (serve : Step V) (lock : Lock) (ring : List RingKey) (side : Sides S V) (now : ℕ) (wire : Line) (left : Option ℕ)
    → TookSome step serve lock ring side now 0 wire wire left left side
some_none step serve lock ring side now wire left = record {
  packets = [];
  count_is = refl;
  did = λ service. did_zero step serve lock ring (side service);
  heard = λ from before bytes hears. subst (λ (all : List (List ℕ)). Hears wire from all bytes) (sym (append-nil before)) hears;
  form = refl;
  left_is = answered_zero left;
}

-- ---- a packet more

did_more : {S V : Type 0} (step : S → ℕ × S) (serve : Step V) (lock : Lock) (ring other : List RingKey) (side middle later : Side S V) (now : ℕ) (packets : List (List ℕ)) (packet : List ℕ) (end : Option ConnEnd)
    → other ≡ ring → Did step serve lock ring side (λ rules talk. packets_acts rules now packets talk) None middle → Did step serve lock other middle (λ rules talk. packet_acts rules now packet talk) end later
    → Did step serve lock ring side (λ rules talk. packets_acts rules now (packets ++ packet ∷ []) talk) end later
did_more step serve lock ring other side middle later now packets packet end same before next =
    did_as step serve lock ring side later (then_due (λ rules talk. packets_acts rules now packets talk) (λ rules talk. packet_acts rules now packet talk)) (λ rules talk. packets_acts rules now (packets ++ packet ∷ []) talk) end
    (λ rules talk. packets_more rules now packets packet talk)
    (did_both step serve lock ring side middle later (λ rules talk. packets_acts rules now packets talk) (λ rules talk. packet_acts rules now packet talk) end before
    (did_under step serve lock ring other middle later (λ rules talk. packet_acts rules now packet talk) end same next))

count_more : (packets : List (List ℕ)) (packet : List ℕ) (count : ℕ) → length packets ≡ count → length (packets ++ packet ∷ []) ≡ count + 1
count_more packets packet count same = length-append packets (packet ∷ []) ∙ ap (λ (n : ℕ). n + 1) same

one_fewer : (count more : ℕ) (before : Option ℕ) → more ≡ count + 1 → before ≢ Some 0 → with_answered count before ≡ with_answered more (counted_down before)
one_fewer count more None same some = refl
one_fewer count more (Some zero) same some = absurd (some refl)
one_fewer count more (Some (suc left)) same some = ap (λ (n : ℕ). Some n) (omega (arith, same))

left_more : (packets : List (List ℕ)) (packet : List ℕ) (left before after : Option ℕ) → left ≡ with_answered (length packets) before → after ≡ counted_down before → before ≢ Some 0
    → left ≡ with_answered (length (packets ++ packet ∷ [])) after
left_more packets packet left before after was down some =
    was ∙ one_fewer (length packets) (length (packets ++ packet ∷ [])) before (count_more packets packet (length packets) refl) some
    ∙ ap (λ (rest : Option ℕ). with_answered (length (packets ++ packet ∷ [])) rest) (sym down)

hears_more : (first middle last : Line) (packets : List (List ℕ)) (packet : List ℕ)
    → ((from : Option CtrState) (before : List (List ℕ)) (bytes : List ℕ) → Hears first from before bytes → Hears middle from (before ++ packets) bytes)
    → IsNext middle packet last
    → (from : Option CtrState) (before : List (List ℕ)) (bytes : List ℕ) → Hears first from before bytes → Hears last from (before ++ (packets ++ packet ∷ [])) bytes
hears_more first middle last packets packet so_far next from before bytes hears =
    subst (λ (all : List (List ℕ)). Hears last from all bytes) (append_assoc before packets (packet ∷ [])) (next from (before ++ packets) bytes (so_far from before bytes hears)).1

pub some_more : {S V : Type 0} (step : S → ℕ × S) (serve : Step V) (lock : Lock) (ring other : List RingKey) (side middle later : Sides S V) (now count : ℕ) (wire between wire_then : Line) (left left_between left_then : Option ℕ)
    → other ≡ ring → TookSome step serve lock ring side now count wire between left left_between middle → TookOne step serve lock other middle now between wire_then later
    → wire_then.form ≡ between.form → left_then ≡ counted_down left_between → left_between ≢ Some 0
    → TookSome step serve lock ring side now (count + 1) wire wire_then left left_then later
some_more step serve lock ring other side middle later now count wire between wire_then left left_between left_then same so_far one form down some = record {
  packets = so_far.packets ++ one.packet ∷ [];
  count_is = count_more so_far.packets one.packet count so_far.count_is;
  did = λ service. did_more step serve lock ring other (side service) (middle service) (later service) now so_far.packets one.packet None same (so_far.did service) (one.did service);
  heard = hears_more wire between wire_then so_far.packets one.packet so_far.heard one.next;
  form = form ∙ so_far.form;
  left_is = left_more so_far.packets one.packet left left_between left_then so_far.left_is down some;
}

-- ---- how it ends

did_still : {S V : Type 0} (step : S → ℕ × S) (serve : Step V) (lock : Lock) (ring other : List RingKey) (side middle later : Side S V) (now : ℕ) (packets : List (List ℕ))
    → other ≡ ring → Did step serve lock ring side (λ rules talk. packets_acts rules now packets talk) None middle → Did step serve lock other middle (λ rules talk. []) None later
    → Did step serve lock ring side (λ rules talk. packets_acts rules now packets talk) None later
did_still step serve lock ring other side middle later now packets same before next =
    did_as step serve lock ring side later (then_due (λ rules talk. packets_acts rules now packets talk) (λ rules talk. [])) (λ rules talk. packets_acts rules now packets talk) None
    (λ rules talk. append-nil (packets_acts rules now packets talk))
    (did_both step serve lock ring side middle later (λ rules talk. packets_acts rules now packets talk) (λ rules talk. []) None before
    (did_under step serve lock ring other middle later (λ rules talk. []) None same next))

-- no further packet is whole
pub all_idle : {S V : Type 0} (step : S → ℕ × S) (serve : Step V) (lock : Lock) (ring other : List RingKey) (side middle later : Sides S V) (now count : ℕ) (wire between wire_then : Line) (left left_then : Option ℕ)
    → other ≡ ring → TookSome step serve lock ring side now count wire between left left_then middle → TookBy step serve lock other middle now between wire_then (Ok false) later
    → TookAll step serve lock ring side now wire wire_then left left_then None later
all_idle step serve lock ring other side middle later now count wire between wire_then left left_then same so_far idle = record {
  packets = so_far.packets;
  did = λ service. did_still step serve lock ring other (side service) (middle service) (later service) now so_far.packets same (so_far.did service) (idle.1 service);
  heard = λ from before bytes hears.
      let next = idle.0 from (before ++ so_far.packets) bytes (so_far.heard from before bytes hears) in
      (inl (next.0.0, subst (λ form. Stream (framing_of form) (before ++ so_far.packets) next.0.0 (through from bytes)) so_far.form next.0.1), next.1);
  left_is = so_far.left_is;
}

-- as many came as there may be
pub all_most : {S V : Type 0} (step : S → ℕ × S) (serve : Step V) (lock : Lock) (ring : List RingKey) (side later : Sides S V) (now count : ℕ) (wire wire_then : Line) (left left_then : Option ℕ)
    → count ≡ packets_max → TookSome step serve lock ring side now count wire wire_then left left_then later
    → TookAll step serve lock ring side now wire wire_then left left_then None later
all_most step serve lock ring side later now count wire wire_then left left_then same so_far = record {
  packets = so_far.packets;
  did = so_far.did;
  heard = λ from before bytes hears. (inr (so_far.count_is ∙ same), so_far.heard from before bytes hears);
  left_is = so_far.left_is;
}

-- the last packet that may be answered was
pub all_stopped : {S V : Type 0} (step : S → ℕ × S) (serve : Step V) (lock : Lock) (ring other : List RingKey) (side middle later : Sides S V) (now count : ℕ) (wire between wire_then : Line) (left left_between left_then : Option ℕ) (end : ConnEnd)
    → other ≡ ring → TookSome step serve lock ring side now count wire between left left_between middle → TookOne step serve lock other middle now between wire_then later
    → wire_then.form ≡ between.form → left_then ≡ counted_down left_between → left_between ≢ Some 0 → end ≡ ends.Stopped
    → TookAll step serve lock ring side now wire wire_then left left_then (Some end) later
all_stopped {S} {V} step serve lock ring other side middle later now count wire between wire_then left left_between left_then end same before one form down left_some is =
    let so_far : TookSome step serve lock ring side now (count + 1) wire wire_then left left_then later =
    some_more step serve lock ring other side middle later now count wire between wire_then left left_between left_then same before one form down left_some in
    subst (λ (some : ConnEnd). TookAll step serve lock ring side now wire wire_then left left_then (Some some) later) (sym is) (record {
      packets = so_far.packets;
      did = so_far.did;
      heard = so_far.heard;
      left_is = so_far.left_is;
    })

-- an event of a further packet ended the connection
all_last : {S V : Type 0} (step : S → ℕ × S) (serve : Step V) (lock : Lock) (ring other : List RingKey) (side middle later : Sides S V) (now count : ℕ) (wire between : Line) (left left_then : Option ℕ) (end : ConnEnd)
    → other ≡ ring → TookSome step serve lock ring side now count wire between left left_then middle → TookLast step serve lock other middle now between end later
    → AllCut step serve lock ring side now wire left left_then end later
all_last step serve lock ring other side middle later now count wire between left left_then end same so_far last = record {
  packets = so_far.packets;
  packet = last.packet;
  did = λ short service. did_then step serve lock ring (side service) (middle service) (later service) (λ rules talk. packets_acts rules now so_far.packets talk) (λ rules talk. packet_acts rules now last.packet talk) (Some end)
      (so_far.did service) (did_under step serve lock ring other (middle service) (later service) (λ rules talk. packet_acts rules now last.packet talk) (Some end) same (last.did short service));
  next = λ from before bytes hears.
      subst (λ form. Begins (framing_of form) (before ++ (so_far.packets ++ last.packet ∷ [])) (through from bytes)) so_far.form
      (subst (λ (all : List (List ℕ)). Begins (framing_of between.form) all (through from bytes)) (append_assoc before so_far.packets (last.packet ∷ []))
      (last.next from (before ++ so_far.packets) bytes (so_far.heard from before bytes hears)));
  left_is = so_far.left_is;
}

pub all_failed : {S V : Type 0} (step : S → ℕ × S) (serve : Step V) (lock : Lock) (ring other : List RingKey) (side middle later : Sides S V) (now count : ℕ) (wire between wire_then : Line) (left left_then : Option ℕ) (MayAnswer : DeskFault → Type 0) (end : ConnEnd)
    → other ≡ ring → IsPacketEnd MayAnswer (Some end) → TookSome step serve lock ring side now count wire between left left_then middle → TookBy step serve lock other middle now between wire_then (Err end) later
    → TookAll step serve lock ring side now wire wire_then left left_then (Some end) later
all_failed step serve lock ring other side middle later now count wire between wire_then left left_then MayAnswer (ends.Frame fault) same can so_far took = record {
  packets = so_far.packets;
  did = λ service. did_still step serve lock ring other (side service) (middle service) (later service) now so_far.packets same (so_far.did service) (took.1 service);
  heard = λ from before bytes hears.
      subst (λ form. Faulty (framing_of form) (before ++ so_far.packets) fault (through from bytes)) so_far.form (took.0 from (before ++ so_far.packets) bytes (so_far.heard from before bytes hears));
  left_is = so_far.left_is;
}
all_failed step serve lock ring other side middle later now count wire between wire_then left left_then MayAnswer ends.LinkFault same can so_far last =
    all_last step serve lock ring other side middle later now count wire between left left_then ends.LinkFault same so_far last
all_failed step serve lock ring other side middle later now count wire between wire_then left left_then MayAnswer ends.Memory same can so_far last =
    all_last step serve lock ring other side middle later now count wire between left left_then ends.Memory same so_far last
all_failed step serve lock ring other side middle later now count wire between wire_then left left_then MayAnswer (ends.Journal fault) same can so_far last =
    all_last step serve lock ring other side middle later now count wire between left left_then (ends.Journal fault) same so_far last
all_failed step serve lock ring other side middle later now count wire between wire_then left left_then MayAnswer ends.Ended same can so_far last = absurd can
all_failed step serve lock ring other side middle later now count wire between wire_then left left_then MayAnswer ends.Start same can so_far last = absurd can
all_failed step serve lock ring other side middle later now count wire between wire_then left left_then MayAnswer ends.TurnsSpent same can so_far last = absurd can
all_failed step serve lock ring other side middle later now count wire between wire_then left left_then MayAnswer ends.Stopped same can so_far last = absurd can
