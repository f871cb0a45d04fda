-- A plain client flushes: it stays plain, and where it sends nothing all is as it was.
use Rattle.std.proofs.Common.{◌≡◌, ◌∙◌, ℕ, Bool, true, false, if◌then◌else◌, Option, Some, None, List, [], ◌∷◌, refl, ap, sym, subst}
use Rattle.std.specs.Prelude.{is_some, nat_lt}
use Rattle.msg_ids.specs.Counters.{room}
use Rattle.containers.specs.Container.{container_of}
use Rattle.service_tl.specs.declared.lists.Message.{Message}
use Rattle.call_table.specs.declared.call.Group.TheVariants.{Alone}
use Rattle.call_table.specs.Table.{group_of, owner}
use Rattle.client_rules.specs.Client.{Client, after_message, at_moment, calls_of}
use Rattle.client_rules.specs.Sending.{Setting}
use Rattle.client_rules.specs.Filling.{Filling}
use Rattle.client_rules.specs.Flush.{Answer, Flushed, Marked, Nothing, Spent, Sends, binding_alone, filled, first_marked, flush, gone_again, has_any, remembers, remembers_lone, room_min, sends, unless_binding, unless_call}
use Rattle.world_rules.specs.Load as load
use Rattle.sim_load.specs.Plain.{IsPlain}
use Rattle.sim_load.proofs.PlainClients.{call_changed, either}
use Rattle.sim_load.proofs.PlainFilling.{Holds, fills-holds}

-- ---- what it sends

call-or-fills : {S : Type 0} (setting : Setting S) (marked : Option Marked) (client : Client) (draw : S) → IsPlain client
    → Holds client draw (unless_call setting marked client draw)
call-or-fills setting (Some marked) client draw plain =
    record { plain = call_changed marked.call (gone_again client.salt) (λ call none. none) client plain; same = λ none. absurd (cc) }
call-or-fills setting None client draw plain = fills-holds setting client draw plain

binding-or-fills : {S : Type 0} (setting : Setting S) (message : Option Message) (client : Client) (draw : S) → message ≡ None → IsPlain client
    → Holds client draw (unless_binding setting message client draw)
binding-or-fills setting (Some message) client draw none plain = absurd (cc)
binding-or-fills setting None client draw none plain =
    call-or-fills setting (first_marked (calls_of client) (group_of Alone (calls_of client))) client draw plain

filled-holds : {S : Type 0} (setting : Setting S) (client : Client) (draw : S) → IsPlain client → Holds client draw (filled setting client draw)
filled-holds setting client draw plain = binding-or-fills setting (binding_alone client.temporary) client draw (ap binding_alone plain.key) plain

-- ---- the packet

lone-plain : (number : ℕ) (inner : List ℕ) (client : Client) → IsPlain client → IsPlain (remembers_lone number inner client)
lone-plain number inner client plain =
    either IsPlain (is_some (owner number (calls_of client))) client (remembers number inner client) plain (record { key = plain.key; calls = plain.calls })

sends-plain : {S : Type 0} (setting : Setting S) (messages : List Message) (filling : Filling S) → IsPlain filling.client → IsPlain (sends setting messages filling).client
sends-plain setting [] filling plain = plain
sends-plain setting (one ∷ []) filling plain = lone-plain one.number filling.inner filling.client plain
sends-plain setting (one ∷ other ∷ more) filling plain = record { key = plain.key; calls = plain.calls }

tested-plain : {S : Type 0} (setting : Setting S) (due few : Bool) (messages : List Message) (filling : Filling S) (client : Client) (draw : S)
    → IsPlain client → IsPlain filling.client
    → IsPlain (if due then (if few then record { answer = Spent; client = client; draw = draw } else sends setting messages filling) else sends setting [] filling).client
tested-plain setting true true messages filling client draw plain more = plain
tested-plain setting true false messages filling client draw plain more = sends-plain setting messages filling more
tested-plain setting false few messages filling client draw plain more = more

pub flush-plain : {S : Type 0} (setting : Setting S) (now : ℕ) (client : Client) (draw : S) → IsPlain client → IsPlain (flush setting now client draw).client
flush-plain setting now client draw plain =
    let ready = at_moment now client in
    let filling = filled setting ready draw in
    let holds = filled-holds setting ready draw (record { key = plain.key; calls = plain.calls }) in
    tested-plain setting (has_any filling.messages) (nat_lt (room client.counters) room_min) filling.messages filling client draw plain holds.plain

-- ---- where it sends nothing

abbrev Same : {S : Type 0} → Client → S → Flushed S → Type 0
Same client draw done = (done.client ≡ client) × (done.draw ≡ draw)

sends-same : {S : Type 0} (setting : Setting S) (messages : List Message) (filling : Filling S) (client : Client) (draw : S)
    → load.sends (sends setting messages filling).answer ≡ false → has_any messages ≡ true → Same client draw (sends setting messages filling)
sends-same setting [] filling client draw quiet any = absurd (cc)
sends-same setting (one ∷ []) filling client draw quiet any = absurd (cc)
sends-same setting (one ∷ other ∷ more) filling client draw quiet any = absurd (cc)

none-due : (messages : List Message) → has_any messages ≡ false → messages ≡ []
none-due [] none = refl
none-due (one ∷ more) none = absurd (cc)

tested-same : {S : Type 0} (setting : Setting S) (due few : Bool) (filling : Filling S) (client : Client) (draw : S)
    → has_any filling.messages ≡ due → (filling.messages ≡ [] → (filling.client ≡ client) × (filling.draw ≡ draw))
    → load.sends (if due then (if few then record { answer = Spent; client = client; draw = draw } else sends setting filling.messages filling) else sends setting [] filling).answer ≡ false
    → Same client draw (if due then (if few then record { answer = Spent; client = client; draw = draw } else sends setting filling.messages filling) else sends setting [] filling)
tested-same setting true true filling client draw is same quiet = (refl, refl)
tested-same setting true false filling client draw is same quiet = sends-same setting filling.messages filling client draw quiet is
tested-same setting false few filling client draw is same quiet = same (none-due filling.messages is)

pub flush-same : {S : Type 0} (setting : Setting S) (now : ℕ) (client : Client) (draw : S) → IsPlain client → at_moment now client ≡ client
    → load.sends (flush setting now client draw).answer ≡ false
    → ((flush setting now client draw).client ≡ client) × ((flush setting now client draw).draw ≡ draw)
flush-same setting now client draw plain still quiet =
    let ready = at_moment now client in
    let filling = filled setting ready draw in
    let holds = filled-holds setting ready draw (record { key = plain.key; calls = plain.calls }) in
    tested-same setting (has_any filling.messages) (nat_lt (room client.counters) room_min) filling client draw refl
    (λ none. ((holds.same none).0 ∙ still, (holds.same none).1)) quiet
