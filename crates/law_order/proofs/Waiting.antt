-- Calls that went behind a number run behind the earlier call.
use Rattle.std.proofs.Common.{◌≡◌, ◌∙◌, ◌<◌, ◌≤◌, ◌-◌, ◌==◌, zero, suc, ℕ, Bool, true, Option, Some, None, List, [], ◌∷◌, ◌++◌, length, map, refl, sym, ap, subst, arith, inl, inr}
use Rattle.std.specs.Prelude.{◌&&◌, not}
use Rattle.std.specs.List.{Contains, list_any, filter}
use Rattle.std.proofs.lemmas.Bool.{cases_Bool, and_parts}
use Rattle.tl_codec.specs.Standard.{bytes_max}
use Rattle.service_tl.specs.Schema.{rpc_error, rpc_answer_dropped_running}
use Rattle.envelope.specs.declared.parts.Envelope.{Envelope}
use Rattle.service_tl.specs.Results.{constructor_of}
use Rattle.server_rules.specs.Event.{Entry}
use Rattle.service_tl.specs.Results.{is_good, is_good_beginning}
use Rattle.call_table.specs.declared.call.CallNo.{CallNo}
use Rattle.call_table.specs.Table.{Call, Name, at}
use Rattle.client_rules.specs.Client.{Client, calls_of}
use Rattle.law_moves.specs.Table as moves
use Rattle.law_moves.specs.World.{World as Moved}
use Rattle.law_client.specs.Sent.{IsPacketSent}
use Rattle.law_server_moves.specs.Servers.{IsPacketUp}
use Rattle.law_order.specs.After.{HasRun, Pair, is_run, is_run_well}
use Rattle.law_order.specs.Behind.{GoesBehind, HasName, IsBehind, IsInTurn, KeepsTurn, WentBehind}
use Rattle.world_rules.specs.Setting.{Setting, as_heard}
use Rattle.world_rules.specs.World.{Entered, Seat, World}
use Rattle.world_rules.specs.Once.{IsCallOf, IsEarlierCall, Once, RanWell, earlier_of, entries_under, is_entry_under, older_names}
use Rattle.law_once.specs.Standing.{WorldStands}
use Rattle.law_order.specs.Keeping.{KeepsOrder, WaitingInOrder, entries_in}
use Rattle.law_order.proofs.Lists.{each_of, first_or, here, later, map-append, none-some, some-same}
use Rattle.law_order.proofs.Places.{all-at}
use Rattle.law_order.proofs.Named.{Apart, is-name}
use Rattle.law_order.proofs.Reading.{Bytes-laws, true-false}
use Rattle.law_order.proofs.Pairs.{Waits, packets-for}

-- ---- lists

pub any-at : {X : Type 0} (test : X → Bool) (xs : List X) (x : X) → Contains xs x → test x ≡ true → list_any test xs ≡ true
any-at test [] x among is = let below : among.0 < 0 = among.1 in absurd (omega (arith, below))
any-at test (first ∷ xs) x among is =
    elim (first_or x first xs among) [
      | inl same ↦ rw (ap test same ∙ is) refl
      | inr other ↦
          elim (cases_Bool (test first)) [
            | inl holds ↦ rw holds refl
            | inr fails ↦ rw fails (any-at test xs x other is)
          ]
    ]

pub any-mapped : {X Y : Type 0} (test : Y → Bool) (f : X → Y) (xs : List X) → list_any test (map f xs) ≡ true → (x : X) × Contains xs x × (test (f x) ≡ true)
any-mapped test f [] is = absurd (true-false (sym is))
any-mapped test f (first ∷ xs) is =
    elim (cases_Bool (test (f first))) [
      | inl holds ↦ (first, here first xs, holds)
      | inr fails ↦ let rest = any-mapped test f xs (rw fails at is) in (rest.0, later rest.0 first xs rest.1, rest.2)
    ]

filtered-some : {X : Type 0} (test : X → Bool) (xs : List X) (x : X) → Contains xs x → test x ≡ true → filter test xs ≡ [] → ⊥
filtered-some test [] x among is none = let below : among.0 < 0 = among.1 in absurd (omega (arith, below))
filtered-some test (first ∷ xs) x among is none =
    elim (first_or x first xs among) [
      | inl same ↦ let e = (rw (ap test same ∙ is) at none) in let counted = ap length e in absurd (omega arith)
      | inr other ↦
          elim (cases_Bool (test first)) [
            | inl holds ↦ let e = (rw holds at none) in let counted = ap length e in absurd (omega arith)
            | inr fails ↦ filtered-some test xs x other is (rw fails at none)
          ]
    ]

pub split-there : {X : Type 0} (xs before behind : List X) (x : X) → xs ≡ before ++ x ∷ behind → Contains xs x
split-there xs [] behind x is = subst (λ (xs : List _). Contains xs x) (sym is) (here x behind)
split-there xs (first ∷ before) behind x is =
    subst (λ (xs : List _). Contains xs x) (sym is) (later x first (before ++ x ∷ behind) (split-there (before ++ x ∷ behind) before behind x refl))

-- ---- entries

not-error : (beginning : Option ℕ) → is_good_beginning beginning ≡ true → beginning ≡ Some rpc_error.number → ⊥
not-error None good is = none-some rpc_error.number is
not-error (Some number) good is =
    let same : number ≡ rpc_error.number = some-same number rpc_error.number is in
    let e : (not (rpc_error.number == rpc_error.number) && not (rpc_error.number == rpc_answer_dropped_running.number)) ≡ true =
    subst (λ (n : ℕ). (not (n == rpc_error.number) && not (n == rpc_answer_dropped_running.number)) ≡ true) same good in
    true-false (sym e)

pub ran-well : (entered : Entered) → entered.entry.ran ≡ true → is_good entered.entry.reply ≡ true → RanWell entered
ran-well entered ran good = record { ran = ran; well = not-error (constructor_of entered.entry.reply) good }

module _ {S V : Type 0} (laws : Bytes-laws) (apart : Apart)
    (up : (ups : List moves.Message) (sealed : Envelope) → Rattle.envelope.specs.Packet.IsEnvelope sealed → length sealed.body ≤ bytes_max → IsPacketSent ups sealed → IsPacketUp ups (as_heard sealed))
    (setting : Setting S V) (m : Moved) (world : World S V) (h : WorldStands m world) (once : Once setting world) (kept : KeepsOrder world) where
  -- the name of an entry is the newest one
  newest : (number place : ℕ) (client : Client) (call : Call) (name : Name) (entered : Entered) → IsCallOf world number place client call → Contains world.entries entered
      → is_entry_under client name entered ≡ true → (names : List Name) → call.names ≡ names → Contains names name → (older : List Name) × (call.names ≡ name ∷ older)
  newest number place client call name entered of among under [] is named = let below : named.0 < 0 = named.1 in absurd (omega (arith, below))
  newest number place client call name entered of among under (first ∷ older) is named =
      elim (first_or name first older named) [
        | inl same ↦ (older, is ∙ ap (λ (first : Name). first ∷ older) same)
        | inr old ↦
            let olds : older_names call ≡ older = ap (λ (names : List Name). Rattle.world_rules.specs.Once.without_first names) is in
            absurd
            (filtered-some (is_entry_under client name) world.entries entered among under
            (once.replaced number place client call name of (subst (λ (names : List Name). Contains names name) (sym olds) old)))
      ]

  under-parts : (client : Client) (name : Name) (entered : Entered) → is_entry_under client name entered ≡ true
      → ((entered.entry.key == client.key) ≡ true) × ((entered.entry.session == name.session) ≡ true) × ((entered.entry.number == name.message.number) ≡ true)
  under-parts client name entered is =
      let parts = and_parts (entered.entry.key == client.key) ((entered.entry.session == name.session) && (entered.entry.number == name.message.number)) is in
      let rest = and_parts (entered.entry.session == name.session) (entered.entry.number == name.message.number) parts.1 in
      (parts.0, rest.0, rest.1)

  -- what the earlier call is
  earlier-is : (client : Client) (call earlier : Call) (after : Option CallNo) → call.after ≡ after → earlier_of client after ≡ Some earlier
      → (no : CallNo) × (call.after ≡ Some no) × (at no (calls_of client) ≡ Some earlier)
  earlier-is client call earlier None is there = absurd (none-some earlier there)
  earlier-is client call earlier (Some one) is there = (one, is, there)

  waiting : (n place : ℕ) (client : Client) (call earlier : Call) (before behind : List Entered) (entered : Entered) (name : Name) (wrap : ℕ)
      → IsCallOf world (suc n) place client call → IsEarlierCall client call earlier → world.entries ≡ before ++ entered ∷ behind → Contains call.names name
      → name.message.wrap ≡ Some wrap → is_entry_under client name entered ≡ true → entered.entry.ran ≡ true
      → (first : Entered) × Contains before first × (list_any (λ name. is_entry_under client name first) earlier.names ≡ true) × RanWell first
  waiting n place client call earlier before behind entered name wrap of is_earlier entries named wrapped under ran =
      let seat : Seat = record { client = client; clock = of.clock } in
      let among = split-there world.entries before behind entered entries in
      let head = newest (suc n) place client call name entered of among under call.names refl named in
      let e = earlier-is client call earlier call.after refl is_earlier in
      let turn : KeepsTurn client = all-at (λ (seat : Seat). KeepsTurn seat.client) world.seats n seat of.seated kept.clients in
      let goes : GoesBehind (calls_of client) call e.0 = all-at (IsInTurn (calls_of client)) (calls_of client) place call of.submitted turn.behind e.0 e.1 in
      let same : goes.earlier ≡ earlier = some-same goes.earlier earlier (sym goes.there ∙ e.2) in
      let behind_it : IsBehind goes.earlier name = each_of (IsBehind goes.earlier) call.names goes.names name named in
      let has : HasName goes.earlier name.session name.message.number wrap =
      subst (WentBehind goes.earlier name.session name.message.number) wrapped behind_it in
      let waits : Waits world name wrap =
      record {
        place = n;
        at = place;
        seat = seat;
        call = call;
        older = head.0;
        seated = of.seated;
        called = of.submitted;
        newest = head.1;
        wrapped = wrapped;
        below = has.below;
      } in
      let own = is-name apart m world h n place seat call name of.seated of.submitted named in
      let theirs = is-name apart m world h n (e.0.n - 1) seat goes.earlier has.name of.seated goes.there has.among in
      let theirs_so = subst (λ (number : ℕ). Rattle.law_moves.specs.World.IsName m.calls name.session number) has.of_number
      (subst (λ (session : ℕ). Rattle.law_moves.specs.World.IsName m.calls session has.name.message.number) has.of_session theirs) in
      let pair : Pair = record { name = record { key = client.key; session = name.session }; call = name.message.number; earlier = wrap } in
      let turned = kept.served pair (packets-for laws apart up m world h name wrap waits own theirs_so client.key kept) in
      let entry_of : Entered → Entry = λ entered. entered.entry in
      let split : entries_in world ≡ map entry_of before ++ entered.entry ∷ map entry_of behind =
      ap (map entry_of) entries ∙ map-append entry_of before (entered ∷ behind) in
      let u = under-parts client name entered under in
      let runs : is_run pair.name pair.call entered.entry ≡ true = rw (u.0, u.1, u.2, ran) refl in
      let run : HasRun pair (map entry_of before) = turned.behind (map entry_of before) (map entry_of behind) entered.entry split runs in
      let first = any-mapped (is_run_well pair.name pair.earlier) entry_of before run in
      let well = and_parts (is_run pair.name pair.earlier first.0.entry) (is_good first.0.entry.reply) first.2 in
      let whose = and_parts ((first.0.entry.key == client.key) && (first.0.entry.session == name.session)) ((first.0.entry.number == wrap) && first.0.entry.ran) well.0 in
      let keys = and_parts (first.0.entry.key == client.key) (first.0.entry.session == name.session) whose.0 in
      let numbers = and_parts (first.0.entry.number == wrap) first.0.entry.ran whose.1 in
      let session_so : (first.0.entry.session == has.name.session) ≡ true = ap (λ (s : ℕ). first.0.entry.session == s) has.of_session ∙ keys.1 in
      let number_so : (first.0.entry.number == has.name.message.number) ≡ true = ap (λ (n : ℕ). first.0.entry.number == n) has.of_number ∙ numbers.0 in
      let its : is_entry_under client has.name first.0 ≡ true = rw (keys.0, session_so, number_so) refl in (
        first.0,
        first.1,
        any-at (λ (name : Name). is_entry_under client name first.0) earlier.names has.name (subst (λ (call : Call). Contains call.names has.name) same has.among) its,
        ran-well first.0 numbers.1 well.1,
      )

  pub waiting-in-order : WaitingInOrder world
  waiting-in-order zero place client call earlier before behind entered name wrap of is_earlier entries named wrapped under ran = absurd (none-some _ of.seated)
  waiting-in-order (suc n) place client call earlier before behind entered name wrap of is_earlier entries named wrapped under ran =
      waiting n place client call earlier before behind entered name wrap of is_earlier entries named wrapped under ran
