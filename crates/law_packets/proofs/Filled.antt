-- A packet that is filled: what goes into it, where it fits.
use Rattle.std.proofs.Common.{◌≡◌, ◌∙◌, ℕ, ◌+◌, ◌<◌, ◌≤◌, ◌^◌, leb, Bool, true, cond, List, [], ◌∷◌, ◌++◌, length, ap, sym, subst, refl, arith}
use Rattle.std.specs.List.{AllByRecursion}
use Rattle.std.proofs.lemmas.Bool.{and_parts, cond_both, leb-true}
use Rattle.std.proofs.lemmas.List.{length_push}
use Rattle.msg_ids.specs.Counters.{room}
use Rattle.service_tl.specs.declared.item.Item.{Item}
use Rattle.service_tl.specs.declared.lists.Message.{Message}
use Rattle.service_tl.specs.Items.{spelling_of}
use Rattle.containers.specs.Container.{message_head, size_of}
use Rattle.packing.specs.Packing.{is_within}
use Rattle.client_rules.specs.Client.{Client, after_message, numbered}
use Rattle.client_rules.specs.Filling.{Filling, changes, goes, says}
use Rattle.law_packets.specs.Steady.{IsMessage, IsSteady}
use Rattle.law_packets.proofs.Calls.{after-message}
use Rattle.law_packets.proofs.Counters.{Room, numbers-fit, room-falls}
use Rattle.law_packets.proofs.ClientLists.{rec-append}
use Rattle.law_packets.proofs.Spelled.{IsText}

-- the law on how a container grows
abbrev pub Grows : Type 0
Grows = (messages : List Message) (message : Message) → size_of (messages ++ message ∷ []) ≡ size_of messages + message_head + length message.body

-- the laws that are needed
pub record Laws : Type 0 where
  pub room : Room
  pub grows : Grows

never-empty : (messages : List Message) (message : Message) → messages ++ message ∷ [] ≡ [] → ⊥
never-empty messages message is =
    let pushed = length_push messages message in
    let none = ap (λ (all : List Message). length all) is in
    omega (arith, pushed, none)

module _ {S : Type 0} (laws : Laws) (known : ℕ → Bool) where
  -- as long as there was room for 2,048 numbers at first
  pub record Full (filling : Filling S) : Type 0 where
    pub steady : IsSteady known filling.client
    pub all : AllByRecursion IsMessage filling.messages
    pub left : 2048 ≤ room filling.client.counters + length filling.messages
    pub few : length filling.messages ≤ 1020
    pub size : size_of filling.messages ≤ 1044480

  -- where there was room, and where nothing goes
  pub record Filled (first : ℕ) (filling : Filling S) : Type 0 where
    pub full : 2048 ≤ first → Full filling
    pub quiet : filling.messages ≡ [] → IsSteady known filling.client

  -- what a message leaves that goes
  pub record Leaves (message : Message) (leaves : Filling S → Filling S) (filling : Filling S) : Type 0 where
    pub same : (leaves (record filling { messages = filling.messages ++ message ∷ [] })).messages ≡ filling.messages ++ message ∷ []
    pub counters : room filling.client.counters ≤ room (leaves (record filling { messages = filling.messages ++ message ∷ [] })).client.counters + 1
    pub steady : IsMessage message → IsSteady known filling.client → IsSteady known (leaves (record filling { messages = filling.messages ++ message ∷ [] })).client
    pub fits : 0 < room filling.client.counters → (message.number < 2 ^ 64) × (message.seq < 2 ^ 32)
    pub text : IsSteady known filling.client → IsText message.body

  went : (message : Message) (leaves : Filling S → Filling S) (filling : Filling S) → Leaves message leaves filling → is_within (filling.messages ++ message ∷ []) ≡ true → Full filling
      → Full (leaves (record filling { messages = filling.messages ++ message ∷ [] }))
  went message leaves filling one within f =
      let all = filling.messages ++ message ∷ [] in
      let after = leaves (record filling { messages = all }) in
      let parts = and_parts (leb (length all) 1020) (leb (size_of all) 1044480) within in
      let few = leb-true (length all) 1020 parts.0 in
      let size = leb-true (size_of all) 1044480 parts.1 in
      let grown = laws.grows filling.messages message in
      let left = f.left in
      let before = f.few in
      let pushed = length_push filling.messages message in
      let fits = one.fits (omega (arith, left, before)) in
      let text = one.text f.steady in
      let is : IsMessage message = record { number = fits.0; seq = fits.1; bytes = text.bytes; words = text.words; short = omega (arith, grown, size) } in
      let same = one.same in
      let count = ap (λ (messages : List Message). length messages) same in
      let sized = ap size_of same in
      let fewer = one.counters in
      let A : List Message → Type 0 = λ messages. AllByRecursion IsMessage messages in
      record {
        steady = one.steady is f.steady;
        all = subst A (sym same) (rec-append IsMessage filling.messages (message ∷ []) f.all (is, tt));
        left = omega (arith, left, count, pushed, fewer);
        few = omega (arith, few, count);
        size = omega (arith, size, sized);
      }

  pub goes-filled : (message : Message) (leaves : Filling S → Filling S) (first : ℕ) (filling : Filling S) → Leaves message leaves filling → Filled first filling
      → Filled first (goes message leaves filling)
  goes-filled message leaves first filling one filled =
      let all = filling.messages ++ message ∷ [] in
      let after = leaves (record filling { messages = all }) in
      let over : Filling S = record filling { is_full = true } in
      let tried = cond (is_within all) after over in
      let Q : Filling S → Type 0 = λ filling. filling.messages ≡ [] → IsSteady known filling.client in
      record {
        full = λ enough.
            let f = filled.full enough in
            let second : Full tried =
            cond_both (is_within all) after over Full (λ within. went message leaves filling one within f)
            (λ beyond. record { steady = f.steady; all = f.all; left = f.left; few = f.few; size = f.size }) in
            cond_both filling.is_full filling tried Full (λ is. f) (λ is. second);
        quiet =
            let second : Q tried =
            cond_both (is_within all) after over Q (λ within none. absurd (never-empty filling.messages message (sym one.same ∙ none))) (λ beyond. filled.quiet) in
            cond_both filling.is_full filling tried Q (λ is. filled.quiet) (λ is. second);
      }

  -- an item that is said
  pub says-filled : (is_content : Bool) (item : Item) (change : Client → Client) (first : ℕ) (filling : Filling S) → (IsSteady known filling.client → IsText (spelling_of item))
      → ((client : Client) → IsSteady known client → IsSteady known (change client)) → ((client : Client) → (change client).counters ≡ client.counters)
      → Filled first filling → Filled first (says is_content item change filling)
  says-filled is_content item change first filling text keeps counters filled =
      let message = numbered is_content (spelling_of item) filling.client in
      let leaves : Filling S → Filling S = changes (λ client. change (after_message is_content client)) in
      let later = after_message is_content filling.client in
      let same = ap room (counters later) in
      let fewer = room-falls laws.room is_content filling.client in
      goes-filled message leaves first filling
      (record {
        same = refl;
        counters = omega (arith, same, fewer);
        steady = λ is s. keeps later (after-message known is_content filling.client s);
        fits = λ left. numbers-fit laws.room is_content (spelling_of item) filling.client left;
        text = text;
      }) filled

  -- a change of the client beside the messages
  pub changed-filled : (change : Client → Client) (first : ℕ) (filling : Filling S) → ((client : Client) → IsSteady known client → IsSteady known (change client))
      → ((client : Client) → (change client).counters ≡ client.counters) → Filled first filling → Filled first (changes change filling)
  changed-filled change first filling keeps counters filled =
      let same = ap room (counters filling.client) in
      record {
        full = λ enough.
            let f = filled.full enough in
            let left = f.left in
            record { steady = keeps filling.client f.steady; all = f.all; left = omega (arith, left, same); few = f.few; size = f.size };
        quiet = λ none. keeps filling.client (filled.quiet none);
      }
