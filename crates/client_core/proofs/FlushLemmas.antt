-- How a flush comes about.
use Rattle.std.proofs.Common.{◌≡◌, ◌∙◌, ℕ, Bool, true, false, List, [], ◌∷◌, Some, None, length, ap, refl, sym, subst, arith}
use Rattle.std.specs.Prelude.{◌≢◌, nat_lt, if◌then◌else◌}
use Rattle.std.proofs.lemmas.Bool.{true≢false}
use Rattle.auth_keys.specs.declared.ring.RingKey.{RingKey}
use Rattle.envelope.specs.Packet.{Lock}
use Rattle.msg_ids.specs.Counters.{room}
use Rattle.service_tl.specs.declared.lists.Message.{Message}
use Rattle.packing.specs.Packing.{packed}
use Rattle.containers.specs.Container.{container_of}
use Rattle.client_rules.specs.Client.{Asked, Client, after_message, at_moment, calls_of, numbered, with_binding, with_call}
use Rattle.client_rules.specs.Filling.{Filling, empty, fills}
use Rattle.client_core.specs.Draft.{Draft, Goes, nothing_yet}
use Rattle.client_rules.specs.Sending.{Setting, draw_after_packet, packet_of}
use Rattle.client_rules.specs.Flush.{Answer, Nothing, Spent, Sends, Flushed, Marked, again, binding_alone, filled, first_marked, flush, gone_again, has_any, is_due, remembers, remembers_lone, room_min, sends, unless_binding, unless_call}
use Rattle.client_core.specs.Flushed.{Flushes, IsSealed, Sent, TellsFlush}
use Rattle.client_core.specs.declared.flush.Flush.TheVariants as told
use Rattle.call_table.specs.declared.call.Group.TheVariants.{Alone}
use Rattle.call_table.specs.Table.{group_of}
use Rattle.client_core.specs.Kept.{Contents, Stands}

-- ---- which of the three

abbrev pub picks : {S : Type 0} → Setting S → ℕ → Client → S → Filling S → Bool → Bool → Flushed S
picks setting now client draw filling any few =
    if any
    then (if few then record { answer = Spent; client = client; draw = draw } else sends setting filling.messages filling)
    else sends setting [] filling

pub flush_spent : {S : Type 0} (setting : Setting S) (now : ℕ) (client : Client) (draw : S) → is_due setting (at_moment now client) draw ≡ true → nat_lt (room client.counters) room_min ≡ true
    → flush setting now client draw ≡ record { answer = Spent; client = client; draw = draw }
flush_spent setting now client draw due few =
    let filling = filled setting (at_moment now client) draw in
    ap (λ any. picks setting now client draw filling any (nat_lt (room client.counters) room_min)) due
    ∙ ap (λ own. picks setting now client draw filling true own) few

pub flush_sends : {S : Type 0} (setting : Setting S) (now : ℕ) (client : Client) (draw : S) → is_due setting (at_moment now client) draw ≡ true → nat_lt (room client.counters) room_min ≡ false
    → flush setting now client draw ≡ sends setting (filled setting (at_moment now client) draw).messages (filled setting (at_moment now client) draw)
flush_sends setting now client draw due few =
    let filling = filled setting (at_moment now client) draw in
    ap (λ any. picks setting now client draw filling any (nat_lt (room client.counters) room_min)) due
    ∙ ap (λ own. picks setting now client draw filling true own) few

pub flush_nothing : {S : Type 0} (setting : Setting S) (now : ℕ) (client : Client) (draw : S) → is_due setting (at_moment now client) draw ≡ false
    → flush setting now client draw ≡ sends setting [] (filled setting (at_moment now client) draw)
flush_nothing setting now client draw due =
    ap (λ any. picks setting now client draw (filled setting (at_moment now client) draw) any (nat_lt (room client.counters) room_min)) due

-- ---- what is sent

pub any_some : (messages : List Message) → has_any messages ≡ true → length messages ≢ 0
any_some [] any = absurd (true≢false (sym any))
any_some (one ∷ others) any = λ none. absurd (omega (arith, none))

-- a single message goes as it is
pub lone_sent : {S : Type 0} (lock : Lock) (keys : List RingKey) (setting : Setting S) (filling : Filling S) (messages : List Message) (own : Message) (inner bytes : List ℕ) (new : Contents) (draw after : S)
    → length messages ≡ 1 → ((one : Message) → messages ≡ one ∷ [] → (own.number ≡ one.number) × (own.seq ≡ one.seq)) → own.body ≡ packed messages → inner ≡ filling.inner → filling.draw ≡ draw
    → Stands new (remembers_lone own.number inner filling.client)
    → IsSealed lock keys (packet_of setting (remembers_lone own.number inner filling.client) draw own) bytes
    → after ≡ draw_after_packet setting draw own
    → Sent lock keys (sends setting messages filling) bytes new after
lone_sent lock keys setting filling [] own inner bytes new draw after count last body same drawn stands sealed went = grind (arith, count)
lone_sent lock keys setting filling (one ∷ []) own inner bytes new draw after count last body same drawn stands sealed went =
    let named = last one refl in
    let is : own ≡ one =
    ap (λ number. record { number = number; seq = own.seq; body = own.body }) named.0
    ∙ (ap (λ seq. record { number = one.number; seq = seq; body = own.body }) named.1 ∙ ap (λ text. record { number = one.number; seq = one.seq; body = text }) body) in
    let client = λ (message : Message) (numbers : List ℕ). remembers_lone message.number numbers filling.client in
    record {
      answer = subst (λ before. IsSealed lock keys (packet_of setting (client one filling.inner) before one) bytes) (sym drawn)
          (subst (λ numbers. IsSealed lock keys (packet_of setting (client one numbers) draw one) bytes) same
          (subst (λ (message : Message). IsSealed lock keys (packet_of setting (client message inner) draw message) bytes) is sealed));
      client = subst (λ numbers. Stands new (client one numbers)) same (subst (λ (message : Message). Stands new (client message inner)) is stands);
      drawn = went ∙ (ap (draw_after_packet setting draw) is ∙ ap (λ before. draw_after_packet setting before one) (sym drawn));
    }
lone_sent lock keys setting filling (one ∷ two ∷ others) own inner bytes new draw after count last body same drawn stands sealed went = grind (arith, count)

-- more go in a container
pub container_sent : {S : Type 0} (lock : Lock) (keys : List RingKey) (setting : Setting S) (filling : Filling S) (messages : List Message) (body inner bytes : List ℕ) (new : Contents) (draw after : S)
    → length messages ≢ 1 → length messages ≢ 0 → body ≡ packed messages → inner ≡ filling.inner → filling.draw ≡ draw
    → Stands new (remembers (numbered false body filling.client).number inner (after_message false filling.client))
    → IsSealed lock keys (packet_of setting filling.client draw (numbered false body filling.client)) bytes
    → after ≡ draw_after_packet setting draw (numbered false body filling.client)
    → Sent lock keys (sends setting messages filling) bytes new after
container_sent lock keys setting filling [] body inner bytes new draw after not_one some is same drawn stands sealed went = absurd (some refl)
container_sent lock keys setting filling (one ∷ []) body inner bytes new draw after not_one some is same drawn stands sealed went = absurd (not_one refl)
container_sent lock keys setting filling (one ∷ two ∷ others) body inner bytes new draw after not_one some is same drawn stands sealed went =
    let whole = container_of (one ∷ two ∷ others) in
    let message = λ (text : List ℕ). numbered false text filling.client in
    record {
      answer = subst (λ before. IsSealed lock keys (packet_of setting filling.client before (message whole)) bytes) (sym drawn)
          (subst (λ text. IsSealed lock keys (packet_of setting filling.client draw (message text)) bytes) is sealed);
      client = subst (λ numbers. Stands new (remembers (message whole).number numbers (after_message false filling.client))) same stands;
      drawn = went ∙ (ap (λ text. draw_after_packet setting draw (message text)) is ∙ ap (λ before. draw_after_packet setting before (message whole)) (sym drawn));
    }

-- ---- what goes alone

pub told_memory : (lock : Lock) (keys : List RingKey) (answer : Answer) → TellsFlush lock keys answer told.Memory
told_memory lock keys Nothing = tt
told_memory lock keys Spent = tt
told_memory lock keys (Sends packet) = tt

pub binding_goes : {S : Type 0} (setting : Setting S) (now : ℕ) (client : Client) (draw : S) (message : Message) → binding_alone client.temporary ≡ Some message
    → filled setting (at_moment now client) draw ≡ again message (message.number ∷ []) (with_binding (Asked message) (at_moment now client)) draw
binding_goes setting now client draw message is = ap (λ own. unless_binding setting own (at_moment now client) draw) is

pub call_goes : {S : Type 0} (setting : Setting S) (now : ℕ) (client : Client) (draw : S) (marked : Marked) → binding_alone client.temporary ≡ None
    → first_marked (calls_of client) (group_of Alone (calls_of client)) ≡ Some marked
    → filled setting (at_moment now client) draw ≡ again marked.message (marked.message.number ∷ []) (with_call marked.call (gone_again client.salt) (at_moment now client)) draw
call_goes setting now client draw marked none is =
    ap (λ own. unless_binding setting own (at_moment now client) draw) none ∙ ap (λ own. unless_call setting own (at_moment now client) draw) is

pub rest_goes : {S : Type 0} (setting : Setting S) (now : ℕ) (client : Client) (draw : S) → binding_alone client.temporary ≡ None
    → first_marked (calls_of client) (group_of Alone (calls_of client)) ≡ None
    → filled setting (at_moment now client) draw ≡ fills setting (at_moment now client) draw
rest_goes setting now client draw none is =
    ap (λ own. unless_binding setting own (at_moment now client) draw) none ∙ ap (λ own. unless_call setting own (at_moment now client) draw) is

pub alone_due : {S : Type 0} (setting : Setting S) (now : ℕ) (client after : Client) (draw : S) (message : Message) (inner : List ℕ)
    → filled setting (at_moment now client) draw ≡ again message inner after draw → is_due setting (at_moment now client) draw ≡ true
alone_due setting now client after draw message inner is = ap (λ (own : Filling _). has_any own.messages) is

-- no numbers are left for it
pub alone_spent : {S : Type 0} (setting : Setting S) (lock : Lock) (keys : List RingKey) (now : ℕ) (client after : Client) (before : S) (message : Message) (inner : List ℕ) (core : Contents)
    → filled setting (at_moment now client) before ≡ again message inner after before → nat_lt (room client.counters) room_min ≡ true → Stands core client
    → Flushes setting lock keys now client before told.Spent core before
alone_spent setting lock keys now client after before message inner core is few stands =
    let due = alone_due setting now client after before message inner is in
    let same = flush_spent setting now client before due few in
    record {
      told = subst (λ own. TellsFlush lock keys own.answer told.Spent) (sym same) tt;
      leaves = subst (λ own. Stands core own.client × (before ≡ own.draw)) (sym same) (stands, refl);
      cause = (due, few);
    }

-- memory ran out
pub memory_left : {S : Type 0} (setting : Setting S) (lock : Lock) (keys : List RingKey) (now : ℕ) (client : Client) (before : S) (core : Contents)
    → Stands core client → Flushes setting lock keys now client before told.Memory core before
memory_left setting lock keys now client before core stands =
    record { told = told_memory lock keys (flush setting now client before).answer; leaves = (stands, refl); cause = tt }

-- it goes
pub alone_sent : {S : Type 0} (setting : Setting S) (lock : Lock) (keys : List RingKey) (now : ℕ) (client after : Client) (before : S) (message : Message) (inner bytes : List ℕ) (core : Contents) (draw : S)
    → filled setting (at_moment now client) before ≡ again message inner after before → nat_lt (room client.counters) room_min ≡ false
    → Stands core (remembers_lone message.number inner after)
    → IsSealed lock keys (packet_of setting (remembers_lone message.number inner after) before message) bytes
    → draw ≡ draw_after_packet setting before message
    → Flushes setting lock keys now client before (told.Packet bytes) core draw
alone_sent setting lock keys now client after before message inner bytes core draw is few stands sealed drawn =
    let due = alone_due setting now client after before message inner is in
    let same = flush_sends setting now client before due few ∙ ap (λ (own : Filling _). sends setting own.messages own) is in
    record {
      told = subst (λ own. TellsFlush lock keys own.answer (told.Packet bytes)) (sym same) sealed;
      leaves = subst (λ own. Stands core own.client × (draw ≡ own.draw)) (sym same) (stands, drawn);
      cause = (due, few);
    }

-- ---- what waits and the queued calls

-- nothing is in the packet yet
pub begins : {S : Type 0} (core : Contents) (draft : Draft) (client : Client) (draw : S) → draft ≡ record nothing_yet { room = draft.room; numbers = draft.numbers } → Stands core client → Goes core draft (empty client draw)
begins core draft client draw is stands =
    subst (λ own. Goes core own (empty client draw)) (sym is)
    (record {
      client = stands;
      messages = record { rows = refl; size = omega arith; count = refl; last = λ one same. grind (arith, same) };
      inner = refl;
      is_full = refl;
    })

-- nothing is due
pub rest_nothing : {S : Type 0} (setting : Setting S) (lock : Lock) (keys : List RingKey) (now : ℕ) (client : Client) (before : S) (own : Filling S) (core : Contents)
    → filled setting (at_moment now client) before ≡ own → is_due setting (at_moment now client) before ≡ false → Stands core own.client → own.draw ≡ before
    → Flushes setting lock keys now client before told.Nothing core before
rest_nothing setting lock keys now client before own core is due stands drawn =
    let same = flush_nothing setting now client before due ∙ ap (sends setting []) is in
    record {
      told = subst (λ (it : Flushed _). TellsFlush lock keys it.answer told.Nothing) (sym same) tt;
      leaves = subst (λ (it : Flushed _). Stands core it.client × (before ≡ it.draw)) (sym same) (stands, sym drawn);
      cause = due;
    }

-- no numbers are left for it
pub rest_spent : {S : Type 0} (setting : Setting S) (lock : Lock) (keys : List RingKey) (now : ℕ) (client : Client) (before : S) (core : Contents)
    → is_due setting (at_moment now client) before ≡ true → nat_lt (room client.counters) room_min ≡ true → Stands core client
    → Flushes setting lock keys now client before told.Spent core before
rest_spent setting lock keys now client before core due few stands =
    let same = flush_spent setting now client before due few in
    record {
      told = subst (λ own. TellsFlush lock keys own.answer told.Spent) (sym same) tt;
      leaves = subst (λ own. Stands core own.client × (before ≡ own.draw)) (sym same) (stands, refl);
      cause = (due, few);
    }

-- it goes
pub rest_sent : {S : Type 0} (setting : Setting S) (lock : Lock) (keys : List RingKey) (now : ℕ) (client : Client) (before : S) (own : Filling S) (bytes : List ℕ) (core : Contents) (draw : S)
    → filled setting (at_moment now client) before ≡ own → is_due setting (at_moment now client) before ≡ true → nat_lt (room client.counters) room_min ≡ false
    → Sent lock keys (sends setting own.messages own) bytes core draw
    → Flushes setting lock keys now client before (told.Packet bytes) core draw
rest_sent setting lock keys now client before own bytes core draw is due few sent =
    let same = flush_sends setting now client before due few ∙ ap (λ (it : Filling _). sends setting it.messages it) is in
    record {
      told = subst (λ it. TellsFlush lock keys it.answer (told.Packet bytes)) (sym same) sent.answer;
      leaves = subst (λ it. Stands core it.client × (draw ≡ it.draw)) (sym same) (sent.client, sent.drawn);
      cause = (due, few);
    }
