-- What events do one after the other.
use Rattle.std.proofs.Common.{◌≡◌, ◌+◌, zero, suc, arith, ℕ, List, [], ◌∷◌, ◌++◌, Option, Some, None, IfSome, IsSomeAnd, refl, sym, ap, subst, ◌∙◌, append-nil, append_assoc}
use Rattle.auth_keys.specs.declared.ring.RingKey.{RingKey}
use Rattle.envelope.specs.Packet.{Lock}
use Rattle.mt_edge.specs.Links.{Told}
use Rattle.regs_service.specs.Served.{Step}
use Rattle.server_node.specs.Doing.{CutBy, Did, DidThen, Due, FollowedThenBy, IsPart, Side, StandsBy, at_once, then_due}
use Rattle.server_node.specs.Steps.{LineFrames, SentBy}
use Rattle.server_node.specs.Trace.{Act, Rules, Run, Talk, Tick, after_acts, packet_acts, packets_acts, rules_of, runs, work_acts}
use Rattle.server_node.specs.Writes.{WrittenBy, Wrote, WroteBy, WroteFront}
use Rattle.server_node.specs.declared.conn.ConnEnd.{ConnEnd}
use Rattle.server_node.specs.declared.conn.ConnEnd.TheVariants as ends
use Rattle.server_node.specs.declared.line.Line.{Line}

-- ---- what is written

wrote_both : (one other : List ℕ) (first middle last : Told) → Wrote one first middle → Wrote other middle last → Wrote (one ++ other) first last
wrote_both one other first middle last before after =
    record {
      written = after.written ∙ ap (λ bytes. bytes ++ other) before.written ∙ append_assoc first.written one other;
      came = after.came ∙ before.came;
      left = after.left ∙ before.left;
      reads = after.reads ∙ before.reads;
    }

wrote_front : (one other : List ℕ) (first middle last : Told) → Wrote one first middle → WroteFront [] other middle last → WroteFront [] (one ++ other) first last
wrote_front one other first middle last before after =
    record {
      front = one ++ after.front;
      rest = after.rest;
      cut = ap (λ bytes. one ++ bytes) after.cut ∙ sym (append_assoc one after.front after.rest);
      some = after.some;
      wrote = wrote_both one after.front first middle last before after.wrote;
    }

wrote_by : (end : Option ConnEnd) (one other : List ℕ) (first middle last : Told) → Wrote one first middle → WroteBy end other middle last → WroteBy end (one ++ other) first last
wrote_by None = wrote_both
wrote_by (Some ends.LinkFault) = wrote_front
wrote_by (Some ends.Ended) = wrote_both
wrote_by (Some (ends.Frame fault)) = wrote_both
wrote_by (Some ends.Start) = wrote_both
wrote_by (Some ends.TurnsSpent) = wrote_both
wrote_by (Some ends.Stopped) = wrote_both
wrote_by (Some (ends.Journal fault)) = wrote_both
wrote_by (Some ends.Memory) = wrote_both

pub written_both : (end : Option ConnEnd) (one other : List ℕ) (first middle last : Option Told)
    → WrittenBy None one first middle → WrittenBy end other middle last → WrittenBy end (one ++ other) first last
written_both end one other first middle None before after = tt
written_both end one other first None (Some last) before after = absurd after
written_both end one other None (Some middle) (Some last) before after = absurd before
written_both end one other (Some first) (Some middle) (Some last) before after = wrote_by end one other first middle last before after

-- ---- the events

pub acts_both : {S V : Type 0} (rules : Rules S V) (talk : Talk S V) (one other : List Act) → after_acts rules talk (one ++ other) ≡ after_acts rules (after_acts rules talk one) other
acts_both rules talk [] other = refl
acts_both rules talk (act ∷ acts) other = acts_both rules (after_acts rules talk (act ∷ [])) acts other

pub part_both : (end : Option ConnEnd) (whole acts more done : List Act) → whole ≡ acts → IsPart end more done → IsPart end (whole ++ more) (acts ++ done)
part_both None whole acts more done same part = ap (λ (some : List Act). some ++ more) same ∙ ap (λ (some : List Act). acts ++ some) part
part_both (Some end) whole acts more done same (rest, part) =
    (rest, ap (λ (some : List Act). some ++ more) same ∙ ap (λ (some : List Act). acts ++ some) part ∙ sym (append_assoc acts done rest))

-- a write failed in the second of two parts
fails_behind : (one whole rest : List ℕ) (first middle last : Told) → Wrote one first middle → WroteFront whole rest middle last → WroteFront (one ++ whole) rest first last
fails_behind one whole rest first middle last before after =
    record {
      front = after.front;
      rest = after.rest;
      cut = after.cut;
      some = after.some;
      wrote = subst (λ (bytes : List ℕ). Wrote bytes first last) (sym (append_assoc one whole after.front)) (wrote_both one (whole ++ after.front) first middle last before after.wrote);
    }

told_behind : (one whole rest : List ℕ) (first middle last : Option Told) → WrittenBy None one first middle
    → IfSome last (λ ended. IsSomeAnd middle (λ begun. WroteFront whole rest begun ended))
    → IfSome last (λ ended. IsSomeAnd first (λ begun. WroteFront (one ++ whole) rest begun ended))
told_behind one whole rest first middle None before after = tt
told_behind one whole rest first None (Some last) before after = absurd after
told_behind one whole rest None (Some middle) (Some last) before after = absurd before
told_behind one whole rest (Some first) (Some middle) (Some last) before after = fails_behind one whole rest first middle last before after

cut_both : {S V : Type 0} (end : Option ConnEnd) (step : S → ℕ × S) (serve : Step V) (lock : Lock) (ring : List RingKey) (side middle : Side S V) (line : Line) (told : Option Told) (first : Due S V) (acts : List Act) (bytes : List ℕ)
    → (before : Did step serve lock ring side first None middle) → CutBy end step serve lock ring middle line told at_once acts bytes
    → CutBy end step serve lock ring side line told at_once (before.acts ++ acts) (before.bytes ++ bytes)
cut_both {S} {V} (Some ends.LinkFault) step serve lock ring side middle line told first acts bytes before cut = record {
  earlier = before.acts ++ cut.earlier;
  last = cut.last;
  whole = before.bytes ++ cut.whole;
  rest = cut.rest;
  are = ap (λ (some : List Act). before.acts ++ some) cut.are ∙ sym (append_assoc before.acts cut.earlier (cut.last ∷ []));
  all = ap (λ (some : List ℕ). before.bytes ++ some) cut.all ∙ sym (append_assoc before.bytes cut.whole cut.rest);
  frames = λ outside talk is stands to text tells.
      let rules : Rules S V = rules_of step serve outside in
      let one = before.follows outside talk is stands in
      let between : Talk S V = after_acts rules talk before.acts in
      subst (λ (last : Talk S V). LineFrames line to last.sent (text ++ (before.bytes ++ cut.whole))) (sym (acts_both rules talk before.acts cut.earlier))
      (subst (λ (all : List ℕ). LineFrames line to (after_acts rules between cut.earlier).sent all) (append_assoc text before.bytes cut.whole)
      (cut.frames outside between is one.stands to (text ++ before.bytes) (one.sends to text tells)));
  fails = told_behind before.bytes cut.whole cut.rest side.told middle.told told before.written cut.fails;
}
cut_both None step serve lock ring side middle line told first acts bytes before cut = tt
cut_both (Some ends.Ended) step serve lock ring side middle line told first acts bytes before cut = tt
cut_both (Some (ends.Frame fault)) step serve lock ring side middle line told first acts bytes before cut = tt
cut_both (Some ends.Start) step serve lock ring side middle line told first acts bytes before cut = tt
cut_both (Some ends.TurnsSpent) step serve lock ring side middle line told first acts bytes before cut = tt
cut_both (Some ends.Stopped) step serve lock ring side middle line told first acts bytes before cut = tt
cut_both (Some (ends.Journal fault)) step serve lock ring side middle line told first acts bytes before cut = tt
cut_both (Some ends.Memory) step serve lock ring side middle line told first acts bytes before cut = tt

cut_then : {S V : Type 0} (end : Option ConnEnd) (step : S → ℕ × S) (serve : Step V) (lock : Lock) (ring : List RingKey) (side middle : Side S V) (line : Line) (told : Option Told) (first : Due S V) (acts : List Act) (bytes : List ℕ)
    → (before : Did step serve lock ring side first None middle) → CutBy end step serve lock ring middle line told at_once acts bytes
    → CutBy end step serve lock ring side line told first acts (before.bytes ++ bytes)
cut_then {S} {V} (Some ends.LinkFault) step serve lock ring side middle line told first acts bytes before cut = record {
  earlier = cut.earlier;
  last = cut.last;
  whole = before.bytes ++ cut.whole;
  rest = cut.rest;
  are = cut.are;
  all = ap (λ (some : List ℕ). before.bytes ++ some) cut.all ∙ sym (append_assoc before.bytes cut.whole cut.rest);
  frames = λ outside talk is stands to text tells.
      let rules : Rules S V = rules_of step serve outside in
      let one = before.follows outside talk is stands in
      let between : Talk S V = after_acts rules talk before.acts in
      subst (λ (done : List Act). LineFrames line to (after_acts rules (after_acts rules talk done) cut.earlier).sent (text ++ (before.bytes ++ cut.whole))) (sym one.part)
      (subst (λ (all : List ℕ). LineFrames line to (after_acts rules between cut.earlier).sent all) (append_assoc text before.bytes cut.whole)
      (cut.frames outside between is one.stands to (text ++ before.bytes) (one.sends to text tells)));
  fails = told_behind before.bytes cut.whole cut.rest side.told middle.told told before.written cut.fails;
}
cut_then None step serve lock ring side middle line told first acts bytes before cut = tt
cut_then (Some ends.Ended) step serve lock ring side middle line told first acts bytes before cut = tt
cut_then (Some (ends.Frame fault)) step serve lock ring side middle line told first acts bytes before cut = tt
cut_then (Some ends.Start) step serve lock ring side middle line told first acts bytes before cut = tt
cut_then (Some ends.TurnsSpent) step serve lock ring side middle line told first acts bytes before cut = tt
cut_then (Some ends.Stopped) step serve lock ring side middle line told first acts bytes before cut = tt
cut_then (Some (ends.Journal fault)) step serve lock ring side middle line told first acts bytes before cut = tt
cut_then (Some ends.Memory) step serve lock ring side middle line told first acts bytes before cut = tt

-- the events of two parts, of which the first went on
pub did_both : {S V : Type 0} (step : S → ℕ × S) (serve : Step V) (lock : Lock) (ring : List RingKey) (side middle later : Side S V) (first second : Due S V) (end : Option ConnEnd)
    → Did step serve lock ring side first None middle → Did step serve lock ring middle second end later → Did step serve lock ring side (then_due first second) end later
did_both {S} {V} step serve lock ring side middle later first second end before next = record {
  acts = before.acts ++ next.acts;
  bytes = before.bytes ++ next.bytes;
  follows = λ outside talk is stands.
      let rules : Rules S V = rules_of step serve outside in
      let one = before.follows outside talk is stands in
      let between : Talk S V = after_acts rules talk before.acts in
      let two = next.follows outside between is one.stands in
      let same : after_acts rules talk (before.acts ++ next.acts) ≡ after_acts rules between next.acts = acts_both rules talk before.acts next.acts in
      record {
        part = part_both end (first rules talk) before.acts (second rules (after_acts rules talk (first rules talk))) next.acts one.part
            (subst (λ (acts : List Act). IsPart end (second rules (after_acts rules talk acts)) next.acts) (sym one.part) two.part);
        stands = subst (λ (then : Talk S V). StandsBy end later then) (sym same) two.stands;
        sends = λ to text tells.
            subst (λ (then : Talk S V). SentBy end later.line to then.sent (text ++ (before.bytes ++ next.bytes))) (sym same)
            (subst (λ (all : List ℕ). SentBy end later.line to (after_acts rules between next.acts).sent all) (append_assoc text before.bytes next.bytes)
            (two.sends to (text ++ before.bytes) (one.sends to text tells)));
      };
  written = written_both end before.bytes next.bytes side.told middle.told later.told before.written next.written;
  cut = cut_both end step serve lock ring side middle later.line later.told first next.acts next.bytes before next.cut;
}

-- the events of a part that went on, and then those of another
pub did_then : {S V : Type 0} (step : S → ℕ × S) (serve : Step V) (lock : Lock) (ring : List RingKey) (side middle later : Side S V) (first second : Due S V) (end : Option ConnEnd)
    → Did step serve lock ring side first None middle → Did step serve lock ring middle second end later → DidThen step serve lock ring side first second end later
did_then {S} {V} step serve lock ring side middle later first second end before next = record {
  acts = next.acts;
  bytes = before.bytes ++ next.bytes;
  follows = λ outside talk is stands.
      let rules : Rules S V = rules_of step serve outside in
      let one = before.follows outside talk is stands in
      let between : Talk S V = after_acts rules talk before.acts in
      let two = next.follows outside between is one.stands in
      subst (λ (acts : List Act). FollowedThenBy rules side second end later acts next.acts (before.bytes ++ next.bytes) talk) (sym one.part) (record {
        part = two.part;
        stands = two.stands;
        sends = λ to text tells.
            subst (λ (all : List ℕ). SentBy end later.line to (after_acts rules between next.acts).sent all) (append_assoc text before.bytes next.bytes)
            (two.sends to (text ++ before.bytes) (one.sends to text tells));
      });
  written = written_both end before.bytes next.bytes side.told middle.told later.told before.written next.written;
  cut = cut_then end step serve lock ring side middle later.line later.told first next.acts next.bytes before next.cut;
}

-- the same events, told otherwise
pub did_as : {S V : Type 0} (step : S → ℕ × S) (serve : Step V) (lock : Lock) (ring : List RingKey) (side later : Side S V) (due other : Due S V) (end : Option ConnEnd)
    → ((rules : Rules S V) (talk : Talk S V) → due rules talk ≡ other rules talk)
    → Did step serve lock ring side due end later → Did step serve lock ring side other end later
did_as step serve lock ring side later due other end same did = record {
  acts = did.acts;
  bytes = did.bytes;
  follows = λ outside talk is stands.
      let one = did.follows outside talk is stands in
      record {
        part = subst (λ (acts : List Act). IsPart end acts did.acts) (same (rules_of step serve outside) talk) one.part;
        stands = one.stands;
        sends = one.sends;
      };
  written = did.written;
  cut = did.cut;
}

-- the keys of its ring are the same
pub did_under : {S V : Type 0} (step : S → ℕ × S) (serve : Step V) (lock : Lock) (ring other : List RingKey) (side later : Side S V) (due : Due S V) (end : Option ConnEnd)
    → other ≡ ring → Did step serve lock other side due end later → Did step serve lock ring side due end later
did_under step serve lock ring other side later due end same did = subst (λ (keys : List RingKey). Did step serve lock keys side due end later) same did

-- ---- work

pub runs_more : (now count : ℕ) → runs now count ++ Run now ∷ [] ≡ runs now (count + 1)
runs_more now zero = refl
runs_more now (suc count) = let e : suc count + 1 ≡ suc (count + 1) = omega arith in rw e (ap (λ acts. Run now ∷ acts) (runs_more now count))

-- a further run
pub did_more : {S V : Type 0} (step : S → ℕ × S) (serve : Step V) (lock : Lock) (ring other : List RingKey) (side middle later : Side S V) (now count : ℕ) (end : Option ConnEnd)
    → other ≡ ring
    → Did step serve lock ring side (λ rules talk. work_acts now count) None middle
    → Did step serve lock other middle (λ rules talk. Run now ∷ []) end later
    → Did step serve lock ring side (λ rules talk. work_acts now (count + 1)) end later
did_more {S} {V} step serve lock ring other side middle later now count end same before next =
    did_as step serve lock ring side later (then_due (λ rules talk. work_acts now count) (λ rules talk. Run now ∷ [])) (λ rules talk. work_acts now (count + 1)) end
    (λ rules talk. ap (λ acts. Tick now ∷ acts) (runs_more now count))
    (did_both step serve lock ring side middle later (λ rules talk. work_acts now count) (λ rules talk. Run now ∷ []) end before
    (did_under step serve lock ring other middle later (λ rules talk. Run now ∷ []) end same next))

-- ---- packets

pub packets_more : {S V : Type 0} (rules : Rules S V) (now : ℕ) (front : List (List ℕ)) (packet : List ℕ) (talk : Talk S V)
    → packets_acts rules now front talk ++ packet_acts rules now packet (after_acts rules talk (packets_acts rules now front talk)) ≡ packets_acts rules now (front ++ packet ∷ []) talk
packets_more rules now [] packet talk = sym (append-nil (packet_acts rules now packet talk))
packets_more {S} {V} rules now (one ∷ others) packet talk =
    let acts : List Act = packet_acts rules now one talk in
    let then_talk : Talk S V = after_acts rules talk acts in
    append_assoc acts (packets_acts rules now others then_talk) (packet_acts rules now packet (after_acts rules talk (acts ++ packets_acts rules now others then_talk)))
    ∙ ap (λ (more : List Act). acts ++ more)
    (ap (λ (last : Talk S V). packets_acts rules now others then_talk ++ packet_acts rules now packet last) (acts_both rules talk acts (packets_acts rules now others then_talk))
    ∙ packets_more rules now others packet then_talk)
