-- A binding is asked for, in a packet.
use Rattle.std.proofs.Common.{◌≡◌, ◌∙◌, ℕ, ◌≤◌, Bool, true, false, List, [], ◌∷◌, ◌++◌, Option, Some, None, length, ap, refl, sym, subst, inl, inr, arith}
use Rattle.std.specs.Prelude.{◌&&◌, if◌then◌else◌, IfSome, IsSome}
use Rattle.std.proofs.lemmas.Bool.{cases_Bool, true≢false}
use Rattle.draws.specs.Draws.{draw_after, next_bytes, word_after}
use Rattle.service_tl.specs.declared.lists.Message.{Message}
use Rattle.service_tl.specs.declared.item.Item.TheVariants.{AuthBindTempAuthKey}
use Rattle.service_tl.specs.Items.{spelling_of}
use Rattle.auth_keys.specs.declared.ring.RingKey.{RingKey}
use Rattle.auth_keys.specs.declared.key.KeyKind.{KeyKind}
use Rattle.auth_keys.specs.Rings.{entry_of, key_in}
use Rattle.call_table.specs.Table.{no_calls}
use Rattle.call_table.specs.Kept.{Contents as Calls, Stands as StandsFor}
use Rattle.client_rules.specs.Client.{Asked, Client, Temporary, is_open, numbered, time_of, with_binding}
use Rattle.client_rules.specs.Filling.{Filling, asks_binding, goes, is_needed, says_binding}
use Rattle.client_rules.specs.Sending.{Setting, binding_body, draw_after_binding}
use Rattle.msg_ids.specs.Counters.{after_next}
use Rattle.client_core.specs.Asked.{asked_inner, asked_message, asking_message, needed_of}
use Rattle.client_core.specs.declared.rebinding.Needed.{Needed}
use Rattle.client_core.specs.Flushed.{binding_under, setting_of}
use Rattle.client_core.specs.Kept.{Contents}
use Rattle.client_core.specs.Draft.{Draft, Goes, Holds, enters}
use Rattle.client_core.proofs.CallLemmas.{value}
use Rattle.client_core.proofs.GoesLemmas.{goes_in, goes_out_keeps}

abbrev both : {X : Type 0} → Bool → Bool → X → X → X
both needed learnt gone stays = if needed && learnt then gone else stays

both_closed : {X : Type 0} (needed learnt : Bool) (gone stays : X) → learnt ≡ false → both needed learnt gone stays ≡ stays
both_closed false learnt gone stays is = refl
both_closed true false gone stays is = refl
both_closed true true gone stays is = absurd (true≢false is)

both_held : {X : Type 0} (needed learnt : Bool) (gone stays : X) → needed ≡ true → learnt ≡ true → both needed learnt gone stays ≡ gone
both_held false learnt gone stays is learns = absurd (true≢false (sym is))
both_held true false gone stays is learns = absurd (true≢false (sym learns))
both_held true true gone stays is learns = refl

both_not : {X : Type 0} (needed learnt : Bool) (gone stays : X) → needed ≡ false → both needed learnt gone stays ≡ stays
both_not false learnt gone stays is = refl
both_not true learnt gone stays is = absurd (true≢false is)

abbrev message_at : {S : Type 0} → Setting S → Temporary → Filling S → Message
message_at setting temporary filling =
    let unsaid = numbered true [] filling.client in
    record unsaid { body = binding_body setting filling.client temporary unsaid.number filling.draw }

abbrev goes_so_far : {S : Type 0} → Setting S → Temporary → Filling S → Filling S
goes_so_far setting temporary filling =
    goes (message_at setting temporary filling) (asks_binding setting (message_at setting temporary filling)) filling

-- a client that isn't open asks for none
pub unopened : {S : Type 0} (setting : Setting S) (own : Option Temporary) (filling : Filling S) → is_open filling.client ≡ false → says_binding setting own filling ≡ filling
unopened setting None filling closed = refl
unopened setting (Some temporary) filling closed = both_closed (is_needed temporary.binding) (is_open filling.client) (goes_so_far setting temporary filling) filling closed

some_not_none : {X : Type 0} (x : X) → Some x ≡ None → ⊥
some_not_none x is = grind (arith, is)

abbrev needs : Temporary → Needed
needs temporary = record { perm = temporary.perm; expires = temporary.expires }

-- none is needed
pub needed_not : {S : Type 0} (setting : Setting S) (own : Option Temporary) (filling : Filling S) → needed_of own ≡ None → says_binding setting own filling ≡ filling
needed_not setting None filling is = refl
needed_not setting (Some temporary) filling is = elim (cases_Bool (is_needed temporary.binding)) [
  | inl needed ↦ absurd (some_not_none (needs temporary) (sym (ap (λ b. if b then Some (needs temporary) else None) needed) ∙ is))
  | inr settled ↦ both_not (is_needed temporary.binding) (is_open filling.client) (goes_so_far setting temporary filling) filling settled
]

needed_yes : (temporary : Temporary) (needed : Needed) → needed_of (Some temporary) ≡ Some needed
    → (is_needed temporary.binding ≡ true) × (needs temporary ≡ needed)
needed_yes temporary needed is = elim (cases_Bool (is_needed temporary.binding)) [
  | inl yes_now ↦ (yes_now, ap (value needed) (sym (ap (λ b. if b then Some (needs temporary) else None) yes_now) ∙ is))
  | inr settled ↦ absurd (some_not_none needed (sym is ∙ ap (λ b. if b then Some (needs temporary) else None) settled))
]

-- it is, and the message goes where it fits
pub needed_goes : {S : Type 0} (setting : Setting S) (own : Option Temporary) (filling : Filling S) (needed : Needed)
    → needed_of own ≡ Some needed → is_open filling.client ≡ true
    → says_binding setting own filling
    ≡ goes (asking_message setting filling.client needed filling.draw) (asks_binding setting (asking_message setting filling.client needed filling.draw)) filling
needed_goes setting None filling needed is learns = absurd (some_not_none needed (sym is))
needed_goes setting (Some temporary) filling needed is learns =
    let told = needed_yes temporary needed is in
    both_held (is_needed temporary.binding) (is_open filling.client) (goes_so_far setting temporary filling) filling told.0 learns
    ∙ ap (λ (own : Needed). goes (asking_message setting filling.client own filling.draw) (asks_binding setting (asking_message setting filling.client own filling.draw)) filling) told.1

-- the permanent key is one of the ring
pub under_key : {S : Type 0} (step : S → ℕ × S) (keys : List RingKey) (client : Client) (needed : Needed) (draw : S) (key : List ℕ) (kind : KeyKind)
    → entry_of needed.perm keys ≡ Some (record { key = key; kind = kind })
    → asking_message (setting_of step keys) client needed draw ≡ asked_message step key (time_of client) client needed draw
under_key step keys client needed draw key kind is =
    let unsaid = numbered true [] client in
    let behind = draw_after step 1 draw in
    ap (λ (own : Option RingKey). record unsaid {
      body = spelling_of (AuthBindTempAuthKey needed.perm (word_after step 0 draw) needed.expires
          (binding_under (key_in own) (next_bytes step 16 behind) unsaid.number (asked_inner client needed (word_after step 0 draw))
          (next_bytes step 8 (draw_after step 3 draw))));
    }) is

-- by what is kept of the client
pub asked_kept : {S : Type 0} (step : S → ℕ × S) (key : List ℕ) (at : ℕ) (rest client : Client) (needed : Needed) (draw first : S)
    → rest ≡ record client { table = no_calls } → at ≡ time_of client → first ≡ draw
    → asked_message step key (time_of client) client needed first ≡ asked_message step key at rest needed draw
asked_kept step key at rest client needed draw first same now drawn =
    ap (λ own. asked_message step key (time_of client) client needed own) drawn
    ∙ (ap (λ (moment : ℕ). asked_message step key moment client needed draw) (sym now)
    ∙ ap (λ (own : Client). asked_message step key at own needed draw) (sym same))

-- it fits, and goes
pub asked_goes : {S : Type 0} (core new : Contents) (draft after : Draft) (filling : Filling S) (setting : Setting S) (message own : Message) (at size : ℕ)
    → Goes core draft filling → message ≡ own → at ≡ time_of filling.client → length own.body ≡ size → enters size draft ≡ true
    → ((messages : List Message) → Holds draft messages → Holds after (messages ++ own ∷ []))
    → after.inner ≡ draft.inner ++ own.number ∷ [] → after.is_full ≡ draft.is_full
    → new.rest ≡ with_binding (Asked own) (record core.rest { counters = after_next core.rest.counters at true })
    → new.calls ≡ core.calls
    → Goes new after (goes message (asks_binding setting message) filling)
asked_goes core new draft after filling setting message own at size is same now sized fits holds inner full rest calls =
    let client = filling.client in
    subst (λ (one : Message). Goes new after (goes one (asks_binding setting one) filling)) (sym same)
    (subst (Goes new after) (sym (goes_in core draft filling own (asks_binding setting own) size is sized fits)) (record {
      client = record {
        rest = rest ∙ (ap (λ (kept : Client). with_binding (Asked own) (record kept { counters = after_next kept.counters at true })) is.client.rest
            ∙ ap (λ (moment : ℕ). record (with_binding (Asked own) (record client { counters = after_next client.counters moment true })) { table = no_calls }) now);
        calls = subst (λ (kept : Calls). StandsFor kept client.table) (sym calls) is.client.calls;
      };
      messages = holds filling.messages is.messages;
      inner = inner ∙ ap (λ xs. xs ++ own.number ∷ []) is.inner;
      is_full = full ∙ is.is_full;
    }))

-- what is drawn where it goes, and where it doesn't
pub asked_draw : {S : Type 0} (core : Contents) (draft : Draft) (filling : Filling S) (setting : Setting S) (message : Message) (size : ℕ)
    → Goes core draft filling → length message.body ≡ size → enters size draft ≡ true
    → (goes message (asks_binding setting message) filling).draw ≡ draw_after_binding setting filling.draw
asked_draw core draft filling setting message size is sized fits =
    ap (λ (own : Filling _). own.draw) (goes_in core draft filling message (asks_binding setting message) size is sized fits)

pub unasked_draw : {S : Type 0} (core : Contents) (draft : Draft) (filling : Filling S) (message : Message) (leaves : Filling S → Filling S) (size : ℕ)
    → Goes core draft filling → length message.body ≡ size → enters size draft ≡ false
    → (goes message leaves filling).draw ≡ filling.draw
unasked_draw core draft filling message leaves size is sized fits = goes_out_keeps (λ (own : Filling _). own.draw) core draft filling message leaves size is sized fits refl

-- the message that asks for a binding fits into a packet
entry_short : {S : Type 0} (step : S → ℕ × S) (keys : List RingKey) (client : Client) (needed : Needed) (draw : S)
    → ((key : List ℕ) (at : ℕ) (one : Client) (own : Needed) (first : S) → length (asked_message step key at one own first).body ≡ 132)
    → (entry : Option RingKey) → entry_of needed.perm keys ≡ entry → IsSome entry → length (asking_message (setting_of step keys) client needed draw).body ≤ 1000000
entry_short step keys client needed draw sizes None is there = absurd (true≢false (sym there))
entry_short step keys client needed draw sizes (Some ring) is there =
    omega (arith, ap (λ (own : Message). length own.body) (under_key step keys client needed draw ring.key ring.kind is), sizes ring.key (time_of client) client needed draw)

if_short : (b : Bool) (needed : Needed) (P : Needed → Type 0) → P needed → IfSome (if b then Some needed else None) P
if_short true needed P h = h
if_short false needed P h = tt

pub asked_short : {S : Type 0} (step : S → ℕ × S) (keys : List RingKey) (client : Client) (draw : S)
    → ((key : List ℕ) (at : ℕ) (one : Client) (own : Needed) (first : S) → length (asked_message step key at one own first).body ≡ 132)
    → (own : Option Temporary) → IfSome own (λ temporary. IsSome (entry_of temporary.perm keys))
    → IfSome (needed_of own) (λ needed. length (asking_message (setting_of step keys) client needed draw).body ≤ 1000000)
asked_short step keys client draw sizes None perm = tt
asked_short step keys client draw sizes (Some temporary) perm =
    if_short (is_needed temporary.binding) (needs temporary) (λ needed. length (asking_message (setting_of step keys) client needed draw).body ≤ 1000000)
    (entry_short step keys client (needs temporary) draw sizes (entry_of temporary.perm keys) refl perm)
