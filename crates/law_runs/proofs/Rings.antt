-- What a client does under its own ring it does under another one that has its keys.
use Rattle.std.proofs.Common.{◌≡◌, ◌∙◌, ◌==◌, ℕ, if◌then◌else◌, true, false, Option, None, Some, List, [], ◌∷◌, fold, refl, sym, ap, inl, inr}
use Rattle.std.specs.Prelude.{◌&&◌, IfSome, nat_lt, option_map}
use Rattle.std.proofs.lemmas.Bool.{and_left, eqb-true, cases_Bool, cond-false, cond_both}
use Rattle.auth_keys.specs.Rings.{entry_of, key_in}
use Rattle.auth_keys.specs.declared.ring.RingKey.{RingKey}
use Rattle.service_tl.specs.declared.lists.Message.{Message}
use Rattle.service_tl.specs.declared.item.Item.TheVariants.{AuthBindTempAuthKey}
use Rattle.service_tl.specs.Items.{spelling_of}
use Rattle.temp_keys.specs.declared.binding.Inner.{Inner}
use Rattle.draws.specs.Draws.{draw_after, next_bytes}
use Rattle.envelope.specs.declared.parts.Dir.TheVariants.{Down}
use Rattle.envelope.specs.declared.parts.Envelope.{Envelope}
use Rattle.envelope.specs.Lock.{mt_lock}
use Rattle.envelope.specs.Opening.{key_named}
use Rattle.envelope.specs.Reading.{envelope_in}
use Rattle.ring_rules.specs.Opening.{is_good_at, is_sealed, opened, opened_under, padding_in, plain_in}
use Rattle.msg_ids.specs.Counters.{room}
use Rattle.call_table.specs.declared.call.Group.TheVariants as group
use Rattle.call_table.specs.Table.{group_of}
use Rattle.client_core.specs.Flushed.{binding_under}
use Rattle.client_core.specs.Keys.{BoundTo, Keys}
use Rattle.client_rules.specs.Client.{Client, Temporary, at_moment, calls_of, is_open, numbered}
use Rattle.client_rules.specs.Sending.{Setting, binding_body, inner_of}
use Rattle.client_rules.specs.Filling.{Filling, asks_binding, empty, fills, goes, is_needed, says_acks, says_binding, says_call, says_destroyed, says_drop, says_ping, says_resent, says_salts, says_states, says_told}
use Rattle.client_rules.specs.Flush.{Flushed, Marked, Spent, binding_alone, filled, first_marked, flush, has_any, room_min, sends, unless_binding, unless_call}
use Rattle.client_rules.specs.Events.{takes}
use Rattle.client_rules.specs.Taking.{is_for}
use Rattle.law_runs.specs.Joining.{Shares}
use Rattle.law_runs.proofs.Living.{Sign, perm_of, sign_of}

-- ---- what it hears

module _ (now moment : ℕ) (packet : List ℕ) (c : Client) where
  -- of a packet under another key than the client's the moment alone counts
  stranger : (found : Option RingKey) → (key_named packet == c.key) ≡ false → takes now (opened_under mt_lock moment Down packet found) c ≡ at_moment now c
  unfolding envelope_in
  stranger None other = refl
  stranger (Some entry) other =
      let plain = plain_in mt_lock entry.key Down packet in
      let envelope : Envelope = envelope_in (key_named packet) plain in
      cond_both (is_good_at moment entry.kind && is_sealed mt_lock entry.key Down envelope (padding_in plain) packet) (Some envelope) None
      (λ (found : Option Envelope). takes now found c ≡ at_moment now c)
      (λ is. cond-false (is_for c envelope) _ (at_moment now c) (and_left _ _ (and_left (key_named packet == c.key) (envelope.session == c.session) other))) (λ is. refl)

  pub taken_so : (own ring : List RingKey) → entry_of c.key own ≡ entry_of c.key ring
      → takes now (opened mt_lock own moment Down packet) c ≡ takes now (opened mt_lock ring moment Down packet) c
  unfolding opened
  taken_so own ring shares =
      elim (cases_Bool (key_named packet == c.key)) [
        | inl is ↦
            let named : key_named packet ≡ c.key = eqb-true (key_named packet) c.key is in
            let found : entry_of (key_named packet) own ≡ entry_of (key_named packet) ring =
            ap (λ (id : ℕ). entry_of id own) named ∙ (shares ∙ ap (λ (id : ℕ). entry_of id ring) (sym named)) in
            ap (λ (one : Option RingKey). takes now (opened_under mt_lock moment Down packet one) c) found
        | inr other ↦ stranger (entry_of (key_named packet) own) other ∙ sym (stranger (entry_of (key_named packet) ring) other)
      ]

-- ---- what it sends

abbrev Messages : Type 0
Messages = ℕ → List ℕ → ℕ → Inner → List ℕ → List ℕ

-- the binding messages under its permanent key are the same
abbrev Agree : Messages → Messages → Option Temporary → Type 0
Agree one other None = Unit {0}
Agree one other (Some temporary) = one temporary.perm ≡ other temporary.perm

module _ {S : Type 0} (step : S → ℕ × S) (one other : Messages) where
  abbrev first : Setting S
  first = record { step = step; binding_message = one }

  abbrev second : Setting S
  second = record { step = step; binding_message = other }

  body_same : (c : Client) (temporary : Temporary) (number : ℕ) (draw : S) → one temporary.perm ≡ other temporary.perm
      → binding_body first c temporary number draw ≡ binding_body second c temporary number draw
  body_same c temporary number draw agree =
      let inner = inner_of first c temporary draw in
      let random = next_bytes step 16 (draw_after step 1 draw) in
      let padding = next_bytes step 8 (draw_after step 3 draw) in
      ap (λ (made : List ℕ → ℕ → Inner → List ℕ → List ℕ). spelling_of (AuthBindTempAuthKey inner.perm inner.nonce inner.expires (made random number inner padding))) agree

  says_same : (temporary : Option Temporary) (filling : Filling S) → Agree one other temporary → says_binding first temporary filling ≡ says_binding second temporary filling
  says_same None filling agree = refl
  says_same (Some temporary) filling agree =
      let unsaid : Message = numbered true [] filling.client in
      ap (λ (body : List ℕ).
      let message : Message = record unsaid { body = body } in
      if is_needed temporary.binding && is_open filling.client then goes message (asks_binding first message) filling else filling)
      (body_same filling.client temporary unsaid.number filling.draw agree)

  fills_same : (c : Client) (draw : S) → Agree one other c.temporary → fills first c draw ≡ fills second c draw
  fills_same c draw agree =
      let waiting = c.waiting in
      let items : Filling S = says_destroyed waiting.destroyed (says_salts waiting.salts (says_ping waiting.ping
      (says_states waiting.states (says_resent waiting.resent (says_told waiting.told (says_acks c.table.acks (empty c draw))))))) in
      ap (λ (bound : Filling S). fold says_call (fold says_drop bound (group_of group.Dropping (calls_of c))) (group_of group.Queued (calls_of c))) (says_same c.temporary items agree)

  call_same : (marked : Option Marked) (c : Client) (draw : S) → Agree one other c.temporary → unless_call first marked c draw ≡ unless_call second marked c draw
  call_same (Some marked) c draw agree = refl
  call_same None c draw agree = fills_same c draw agree

  alone_same : (message : Option Message) (c : Client) (draw : S) → Agree one other c.temporary → unless_binding first message c draw ≡ unless_binding second message c draw
  alone_same (Some message) c draw agree = refl
  alone_same None c draw agree = call_same (first_marked (calls_of c) (group_of group.Alone (calls_of c))) c draw agree

  sends_same : (messages : List Message) (filling : Filling S) → sends first messages filling ≡ sends second messages filling
  sends_same [] filling = refl
  sends_same (message ∷ []) filling = refl
  sends_same (message ∷ next ∷ messages) filling = refl

  flush_same : (now : ℕ) (c : Client) (draw : S) → Agree one other c.temporary → flush first now c draw ≡ flush second now c draw
  flush_same now c draw agree =
      let same = alone_same (binding_alone c.temporary) (at_moment now c) draw agree in
      let there : Filling S = filled second (at_moment now c) draw in
      let spent : Flushed S = record { answer = Spent; client = c; draw = draw } in
      ap (λ (filling : Filling S). if has_any filling.messages then (if nat_lt (room c.counters) room_min then spent else sends first filling.messages filling) else sends first [] filling) same
      ∙ ap (λ (done : Flushed S). if has_any there.messages then (if nat_lt (room c.counters) room_min then spent else done) else sends first [] there) (sends_same there.messages there)

-- ---- under two rings

abbrev pub sign_under : Keys → Sign
sign_under keys = (keys.key, option_map (λ (one : BoundTo). one.perm) keys.bound_to)

abbrev messages_under : List RingKey → Messages
messages_under ring perm = binding_under (key_in (entry_of perm ring))

agree_by : (ring own : List RingKey) (temporary : Option Temporary) (bound : Option BoundTo) → perm_of temporary ≡ option_map (λ (one : BoundTo). one.perm) bound
    → IfSome bound (λ one. entry_of one.perm own ≡ entry_of one.perm ring) → Agree (messages_under own) (messages_under ring) temporary
agree_by ring own None bound same shares = tt
agree_by ring own (Some temporary) None same shares = absurd (let e : Some temporary.perm ≡ None = same in cc)
agree_by ring own (Some temporary) (Some one) same shares =
    let perm : temporary.perm ≡ one.perm = cc in
    let found : entry_of temporary.perm own ≡ entry_of temporary.perm ring =
    ap (λ (id : ℕ). entry_of id own) perm ∙ (shares ∙ ap (λ (id : ℕ). entry_of id ring) (sym perm)) in
    ap (λ (entry : Option RingKey). binding_under (key_in entry)) found

module _ (ring own : List RingKey) (keys : Keys) (shares : Shares ring own keys) (c : Client) (its : sign_of c ≡ sign_under keys) where
  pub heard_same : (now moment : ℕ) (packet : List ℕ) → takes now (opened mt_lock own moment Down packet) c ≡ takes now (opened mt_lock ring moment Down packet) c
  heard_same now moment packet =
      let key : c.key ≡ keys.key = ap (λ (sign : Sign). sign.0) its in
      taken_so now moment packet c own ring (ap (λ (id : ℕ). entry_of id own) key ∙ (shares.key ∙ ap (λ (id : ℕ). entry_of id ring) (sym key)))

  pub flushed_same : {S : Type 0} (step : S → ℕ × S) (now : ℕ) (draw : S)
      → flush (record { step = step; binding_message = messages_under own }) now c draw ≡ flush (record { step = step; binding_message = messages_under ring }) now c draw
  flushed_same step now draw =
      flush_same step (messages_under own) (messages_under ring) now c draw (agree_by ring own c.temporary keys.bound_to (ap (λ (sign : Sign). sign.1) its) shares.perm)
