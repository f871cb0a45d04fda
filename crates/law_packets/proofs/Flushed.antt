-- A flush leaves a client steady, and its packet may be sealed.
use Rattle.std.proofs.Common.{◌≡◌, ℕ, ◌<◌, ◌≤◌, ◌^◌, ltb, Bool, true, false, cond, Option, Some, None, List, [], ◌∷◌, length, ap, sym, subst, refl, arith}
use Rattle.std.specs.Prelude.{is_some, option_map}
use Rattle.std.specs.List.{AllByRecursion}
use Rattle.std.proofs.lemmas.Bool.{cond_both, false≢true, ltb-false}
use Rattle.draws.specs.Draws.{next_bytes}
use Rattle.msg_ids.specs.Counters.{room}
use Rattle.service_tl.specs.declared.lists.Message.{Message}
use Rattle.containers.specs.Container.{container_of, size_of}
use Rattle.envelope.specs.Packet.{IsPadding, least_padding}
use Rattle.call_table.specs.declared.call.CallNo.{CallNo}
use Rattle.call_table.specs.declared.call.Group.TheVariants.{Alone}
use Rattle.call_table.specs.Table.{Call, Name, State, at, group_of, living_name, living_name_in, owner}
use Rattle.call_table.specs.Table as table
use Rattle.client_rules.specs.Client.{Asked, Binding, Client, Temporary, after_message, at_moment, calls_of, numbered, with_binding, with_call}
use Rattle.client_rules.specs.Client as binding
use Rattle.client_rules.specs.Filling.{Filling, body_behind}
use Rattle.client_rules.specs.Sending.{Setting}
use Rattle.client_rules.specs.Flush.{Flushed, Marked, Spent, again, asked_alone, binding_alone, filled, first_marked, flush, gone_again, has_any, marked_at, message_behind, remembers, remembers_lone, room_min, seals, sends, unless_binding, unless_call}
use Rattle.law_packets.specs.Steady.{IsAsking, IsCall, IsFit, IsMessage, IsNamed, IsSteady, IsTemporary, MayGo}
use Rattle.law_packets.proofs.Calls.{after-message, again-keeps, with-binding, with-call}
use Rattle.law_packets.proofs.Counters.{numbers-fit}
use Rattle.law_packets.proofs.Filled.{Filled, Full, Laws}
use Rattle.law_packets.proofs.Fills.{fills-filled}
use Rattle.law_packets.proofs.ClientLists.{If, rec-get}
use Rattle.law_packets.proofs.Spelled.{IsBody, IsText, behind, behind-length, container-text}

-- the laws on the length of a container, and on the padding that is drawn
abbrev pub AreSized : Type 0
AreSized = (messages : List Message) → length (container_of messages) ≡ size_of messages

abbrev pub IsPadded : {S : Type 0} → (S → ℕ × S) → Type 0
IsPadded {S} step = (body : ℕ) (draw : S) → IsPadding body (next_bytes step (least_padding body) draw)

-- ---- what goes alone

asked-may : (is : Bool) (asked : Binding) → IsAsking asked → If IsMessage (asked_alone is asked)
asked-may false asked may = tt
asked-may true binding.Needed may = tt
asked-may true (Asked message) may = may
asked-may true binding.Held may = tt
asked-may true binding.Bound may = tt
asked-may true (binding.Refused code) may = tt

binding-may : (temporary : Option Temporary) → IsTemporary temporary → If IsMessage (binding_alone temporary)
binding-may None may = tt
binding-may (Some temporary) may = asked-may temporary.is_alone temporary.binding may

living-in : (state : State) (names : List Name) → AllByRecursion IsNamed names → If IsNamed (living_name_in state names)
living-in table.Sent [] all = tt
living-in table.Sent (name ∷ names) all = all.0
living-in table.Queued names all = tt
living-in table.Held names all = tt
living-in (table.Done result) names all = tt
living-in (table.Refused code) names all = tt
living-in (table.Unknown cause) names all = tt

body-text : (wrap : Option ℕ) (body : List ℕ) → IsText body → length body ≤ 262144 → IsText (body_behind wrap body) × (length (body_behind wrap body) ≤ 1044456)
body-text None body text short = (text, omega (arith, short))
body-text (Some number) body text short = let same = behind-length number body in (behind number body text, omega (arith, short, same))

behind-may : (call : Call) (found : Option Name) → IsCall call → If IsNamed found → If IsMessage (message_behind call.body found)
behind-may call None is named = tt
behind-may call (Some name) is named =
    let body = body-text name.message.wrap call.body (record { bytes = is.bytes; words = is.words }) is.short in
    record { number = named.number; seq = named.seq; bytes = body.0.bytes; words = body.0.words; short = body.1 }

mapped-may : (number : CallNo) (found : Option Message) → If IsMessage found → If (λ (marked : Marked). IsMessage marked.message) (option_map (λ message. record { call = number; message = message }) found)
mapped-may number None may = tt
mapped-may number (Some message) may = may

marked-may : (number : CallNo) (found : Option Call) → If IsCall found → If (λ (marked : Marked). IsMessage marked.message) (marked_at number found)
marked-may number None is = tt
marked-may number (Some call) is =
    mapped-may number (message_behind call.body (living_name call)) (behind-may call (living_name call) is (living-in call.state call.names is.names))

first-may : (calls : List Call) (numbers : List CallNo) → AllByRecursion IsCall calls → If (λ (marked : Marked). IsMessage marked.message) (first_marked calls numbers)
first-may calls [] all = tt
first-may calls (number ∷ numbers) all = marked-may number (at number calls) (rec-get IsCall calls _ all)

has-none : (messages : List Message) → has_any messages ≡ false → messages ≡ []
has-none [] is = refl
has-none (message ∷ messages) is = absurd (false≢true (sym is))

module _ {S : Type 0} (laws : Laws) (sized : AreSized) (known : ℕ → Bool) (setting : Setting S) (fit : IsFit setting) (padded : IsPadded setting.step) where
  again-filled : (message : Message) (inner : List ℕ) (client : Client) (draw : S) (first : ℕ) → IsMessage message → IsSteady known client → first ≤ room client.counters
      → Filled laws known first (again message inner client draw)
  again-filled message inner client draw first may s enough =
      let one = laws.grows [] message in
      let short = may.short in
      record {
        full = λ large. record { steady = s; all = (may, tt); left = omega (arith, large, enough); few = omega arith; size = omega (arith, one, short) };
        quiet = λ none. s;
      }

  unless-call : (found : Option Marked) (client : Client) (draw : S) → If (λ (marked : Marked). IsMessage marked.message) found → IsSteady known client
      → Filled laws known (room client.counters) (unless_call setting found client draw)
  unless-call None client draw may s = fills-filled laws known setting fit (room client.counters) client draw s (omega arith)
  unless-call (Some marked) client draw may s =
      again-filled marked.message (marked.message.number ∷ []) (with_call marked.call (gone_again client.salt) client) draw (room client.counters) may
      (with-call known marked.call (gone_again client.salt) client (again-keeps client.salt (λ (call : Call). record call.flags { alone = false })) s) (omega arith)

  unless-binding : (found : Option Message) (client : Client) (draw : S) → If IsMessage found → IsSteady known client → Filled laws known (room client.counters) (unless_binding setting found client draw)
  unless-binding None client draw may s =
      unless-call (first_marked (calls_of client) (group_of Alone (calls_of client))) client draw (first-may (calls_of client) (group_of Alone (calls_of client)) s.calls) s
  unless-binding (Some message) client draw may s =
      again-filled message (message.number ∷ []) (with_binding (Asked message) client) draw (room client.counters) may (with-binding known (Asked message) client may s) (omega arith)

  -- ---- the packet

  pub record Good (done : Flushed S) : Type 0 where
    pub steady : IsSteady known done.client
    pub answer : MayGo known done.answer

  seals-good : (message : Message) (client : Client) (draw : S) → IsSteady known client → message.number < 2 ^ 64 → message.seq < 2 ^ 32 → IsText message.body → length message.body ≤ 1044480
      → Good (seals setting message client draw)
  seals-good message client draw s number seq text short =
      record {
        steady = s;
        answer = record {
          lawful = record { key = s.key; salt = s.salt; session = s.session; number = number; seq = seq; bytes = text.bytes; words = text.words };
          short = short;
          key = s.is_known;
          padded = padded (length message.body) draw;
        };
      }

  remembers-steady : (outer : ℕ) (inner : List ℕ) (client : Client) → IsSteady known client → IsSteady known (remembers outer inner client)
  remembers-steady outer inner client s =
      record { is_known = s.is_known; key = s.key; session = s.session; salt = s.salt; temporary = s.temporary; told = s.told; calls = s.calls }

  lone-steady : (number : ℕ) (inner : List ℕ) (client : Client) → IsSteady known client → IsSteady known (remembers_lone number inner client)
  lone-steady number inner client s =
      cond_both (is_some (owner number (calls_of client))) client (remembers number inner client) (IsSteady known) (λ is. s) (λ is. remembers-steady number inner client s)

  bodies : (messages : List Message) → AllByRecursion IsMessage messages → AllByRecursion IsBody messages
  bodies [] all = tt
  bodies (message ∷ messages) all = let one = all.0 in (record { bytes = one.bytes; words = one.words }, bodies messages all.1)

  sends-good : (messages : List Message) (filling : Filling S) → filling.messages ≡ messages → Full laws known filling → Good (sends setting messages filling)
  sends-good [] filling is f = record { steady = f.steady; answer = tt }
  sends-good (message ∷ []) filling is f =
      let A : List Message → Type 0 = λ messages. AllByRecursion IsMessage messages in
      let one = (subst A is f.all).0 in
      let short = one.short in
      seals-good message (remembers_lone message.number filling.inner filling.client) filling.draw (lone-steady message.number filling.inner filling.client f.steady) one.number one.seq
      (record { bytes = one.bytes; words = one.words }) (omega (arith, short))
  sends-good (first ∷ (second ∷ messages)) filling is f =
      let all = first ∷ (second ∷ messages) in
      let A : List Message → Type 0 = λ messages. AllByRecursion IsMessage messages in
      let text = container-text all (bodies all (subst A is f.all)) in
      let outer = numbered false (container_of all) filling.client in
      let left = f.left in
      let few = f.few in
      let size = f.size in
      let fits = numbers-fit laws.room false (container_of all) filling.client (omega (arith, left, few)) in
      let same = sized all in
      let are = ap size_of is in
      seals-good outer (remembers outer.number filling.inner (after_message false filling.client)) filling.draw
      (remembers-steady outer.number filling.inner (after_message false filling.client) (after-message known false filling.client f.steady)) fits.0 fits.1 text (omega (arith, same, size, are))

  pub flush-good : (now : ℕ) (client : Client) (draw : S) → IsSteady known client → Good (flush setting now client draw)
  flush-good now client draw s =
      let ready = at_moment now client in
      let is_ready : IsSteady known ready =
      record { is_known = s.is_known; key = s.key; session = s.session; salt = s.salt; temporary = s.temporary; told = s.told; calls = s.calls } in
      let filling = filled setting ready draw in
      let done = unless-binding (binding_alone ready.temporary) ready draw (binding-may ready.temporary is_ready.temporary) is_ready in
      let spent : Flushed S = record { answer = Spent; client = client; draw = draw } in
      let gone = sends setting filling.messages filling in
      let tried = cond (ltb (room client.counters) room_min) spent gone in
      let second : Good tried =
      cond_both (ltb (room client.counters) room_min) spent gone Good (λ is. record { steady = s; answer = tt })
      (λ is. sends-good filling.messages filling refl (done.full (ltb-false (room client.counters) room_min is))) in
      cond_both (has_any filling.messages) tried (sends setting [] filling) Good (λ is. second)
      (λ is. record { steady = done.quiet (has-none filling.messages is); answer = tt })
