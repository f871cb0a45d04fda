-- The room of the sessions in a tick, as one of them answers a job.
use Rattle.std.proofs.Common.{◌≡◌, ◌∙◌, ℕ, ◌<◌, ◌≤◌, ◌+◌, ◌-◌, Bool, true, false, cond, Option, Some, None, List, [], ◌∷◌, ◌++◌, length, get_or, set, ap, sym, subst, refl, arith, inl, inr}
use Rattle.std.specs.Prelude.{◌==◌, IfSome, IsSome}
use Rattle.std.specs.List.{All}
use Rattle.std.proofs.lemmas.Bool.{cases_Bool, eqb-true, eq-eqb, false≢true}
use Rattle.std.proofs.lemmas.List.{get_or-set_same, get_or-set_other, length-append, length-set}
use Rattle.std.proofs.lemmas.List.Elements.{All-push, All-set}
use Rattle.std.proofs.lemmas.List.Sums.{get_or-le-sum_by, sum_by-set}
use Rattle.auth_keys.specs.declared.ring.RingKey.{RingKey}
use Rattle.auth_keys.specs.Rings.{entry_of}
use Rattle.server_output.specs.Batch.{Batch, packets_most}
use Rattle.server_dispatch.specs.Entries.{Held}
use Rattle.server_dispatch.specs.Speaks.{HasRoom, Spends}
use Rattle.server_dispatch.specs.declared.turn.Turn.{Turn}
use Rattle.server_session.specs.declared.session.SessionState.{SessionState}
use Rattle.server_session.specs.SessionState.{IsAt, key_of, numbers_left, replies_left}
use Rattle.server_core.specs.declared.tick_turns.TickTurn.{TickTurn}
use Rattle.server_core.specs.Answering.{AreVoices, IsVoice, silent, turn_with}
use Rattle.server_core.specs.Losing.{IsHere}
use Rattle.server_core.specs.Outgoing.{CanGoOut, CanSend, IsSendable}

-- what a session uses up of its room by one answer
pub record IsStep (now : ℕ) (standing after : SessionState) (voice next : TickTurn) (entries more : Held) : Type 0 where
  pub spends : Spends now 1 48 1 standing (turn_with voice entries) after (turn_with next more)
  pub replies : replies_left after + 1 ≡ replies_left standing
  pub left : next.left + 1 ≡ voice.left
  pub spoke : next.spoke ≡ true
  pub packets : next.packets ≡ voice.packets

one-step : (now : ℕ) (standing after : SessionState) (voice next : TickTurn) (entries more : Held) → IsVoice standing voice → IsStep now standing after voice next entries more
    → IsVoice after next
one-step now standing after voice next entries more is step =
    let spends = step.spends in
    let left = step.left in
    let replies = step.replies in
    let had = is.places in
    let bytes = is.bytes in
    let kept = is.replies in
    let numbers = is.numbers in
    let used = spends.places in
    let used_bytes = spends.bytes in
    let used_numbers = spends.numbers in
    record {
      places = omega arith;
      bytes = omega arith;
      replies = omega arith;
      numbers = omega arith;
      some = λ more_left. subst IsSome (sym step.packets) (is.some (omega arith));
      packets =
          subst (λ (taken : ℕ). IfSome next.packets (λ packets. packets ≡ record { messages = taken; bytes = next.turn.owing.bytes_taken })) (sym spends.places_taken)
          (subst (λ (taken : ℕ). IfSome next.packets (λ packets. packets ≡ record { messages = voice.turn.owing.places_taken; bytes = taken })) (sym spends.bytes_taken)
          (subst (λ (packets : Option Batch). IfSome packets (λ packets. packets ≡ record { messages = voice.turn.owing.places_taken; bytes = voice.turn.owing.bytes_taken })) (sym step.packets) is.packets));
      few =
          subst (λ (taken : ℕ). packets_most taken next.turn.owing.bytes_taken ≤ 5) (sym spends.places_taken)
          (subst (λ (taken : ℕ). packets_most voice.turn.owing.places_taken taken ≤ 5) (sym spends.bytes_taken) is.few);
    }

order-long : (spoke : Bool) (order : List ℕ) (place : ℕ) → length (cond spoke order (order ++ place ∷ [])) ≡ length order + cond spoke 0 1
order-long true order place = omega arith
order-long false order place = length-append order (place ∷ [])

order-within : (P : ℕ → Type 0) (spoke : Bool) (order : List ℕ) (place : ℕ) → All P order → P place → All P (cond spoke order (order ++ place ∷ []))
order-within P true order place all is = all
order-within P false order place all is = All-push P order place all is

silent-one : (voice : TickTurn) → silent voice ≡ cond voice.spoke 0 1
silent-one voice =
    elim (cases_Bool voice.spoke) [
      | inl is ↦ rw is refl
      | inr off ↦ rw off refl
    ]

pub voices-step : (now : ℕ) (standings : List SessionState) (voices : List TickTurn) (order : List ℕ) (entries more : Held) (place : ℕ) (d : SessionState) (e : TickTurn) (after : SessionState) (next : TickTurn)
    → AreVoices standings voices order entries.room → place < length standings
    → IsStep now (get_or standings place d) after (get_or voices place e) next entries more
    → AreVoices (set standings place after) (set voices place next) (cond (get_or voices place e).spoke order (order ++ place ∷ [])) more.room
voices-step now standings voices order entries more place d e after next are within step =
    let voice = get_or voices place e in
    let long = are.long in
    let within_voices : place < length voices = omega arith in
    let still : length (set standings place after) ≡ length standings = length-set standings place after in
    let still_voices : length (set voices place next) ≡ length voices = length-set voices place next in
    let sums = sum_by-set (λ (voice : TickTurn). voice.left) voices place next e within_voices in
    let silents = sum_by-set silent voices place next e within_voices in
    let now_silent : silent next ≡ 0 = silent-one next ∙ ap (λ (b : Bool). cond b 0 1) step.spoke in
    let was_silent = silent-one voice in
    let longer = order-long voice.spoke order place in
    let room = are.entries in
    let few = are.silent in
    let used = step.spends.entries in
    let left = step.left in
    record {
      long = still_voices ∙ (are.long ∙ sym still);
      each = λ i d' e' lt.
          elim (cases_Bool (i == place)) [
            | inl same ↦
                let is : i ≡ place = eqb-true i place same in
                let its : get_or (set standings place after) i d' ≡ after = ap (λ (n : ℕ). get_or (set standings place after) n d') is ∙ get_or-set_same standings place after d' within in
                let own : get_or (set voices place next) i e' ≡ next = ap (λ (n : ℕ). get_or (set voices place next) n e') is ∙ get_or-set_same voices place next e' within_voices in
                subst (λ (standing : SessionState). IsVoice standing (get_or (set voices place next) i e')) (sym its)
                (subst (λ (voice : TickTurn). IsVoice after voice) (sym own)
                (one-step now (get_or standings place d) after voice next entries more (are.each place d e within) step))
            | inr off ↦
                let differ : (i ≡ place) → ⊥ = λ same. false≢true (sym off ∙ eq-eqb i place same) in
                subst (λ (standing : SessionState). IsVoice standing (get_or (set voices place next) i e')) (sym (get_or-set_other standings place i after d' differ))
                (subst (λ (voice : TickTurn). IsVoice (get_or standings i d') voice) (sym (get_or-set_other voices place i next e' differ))
                (are.each i d' e' (omega (arith, lt, still))))
          ];
      within =
          subst (λ (n : ℕ). All (λ (place : ℕ). place < n) (cond voice.spoke order (order ++ place ∷ []))) (sym still)
          (order-within (λ (place : ℕ). place < length standings) voice.spoke order place are.within within);
      entries = omega arith;
      silent = omega arith;
    }

-- a session that has an answer left has room for it
pub has-room : (standing : SessionState) (voice : TickTurn) (entries : Held) → IsVoice standing voice → 0 < voice.left → 1 ≤ entries.room
    → HasRoom 1 48 1 standing (turn_with voice entries)
has-room standing voice entries is some room =
    let places = is.places in
    let bytes = is.bytes in
    let numbers = is.numbers in
    record { places = omega arith; bytes = omega arith; numbers = omega arith; entries = omega arith }

pub entries-room : (standings : List SessionState) (voices : List TickTurn) (order : List ℕ) (room place : ℕ) (e : TickTurn) → AreVoices standings voices order room
    → place < length standings → 0 < (get_or voices place e).left → 1 ≤ room
entries-room standings voices order room place e are within some =
    let long = are.long in
    let within_voices : place < length voices = omega arith in
    let most = get_or-le-sum_by (λ (voice : TickTurn). voice.left) voices place e within_voices in
    let fits = are.entries in
    omega arith

-- ---- all that is owed can go out

sendable : (voice : TickTurn) (left : ℕ) (packets : Option Batch) → 5 ≤ left → packets_most voice.turn.owing.places_taken voice.turn.owing.bytes_taken ≤ 5
    → IfSome packets (λ packets. packets ≡ record { messages = voice.turn.owing.places_taken; bytes = voice.turn.owing.bytes_taken })
    → IfSome packets (λ packets. IsSendable voice left packets.messages packets.bytes)
sendable voice left None numbers few is = tt
sendable voice left (Some packets) numbers few is =
    let P : Batch → Type 0 = λ packets. IsSendable voice left packets.messages packets.bytes in
    subst P (sym is) (record { few = omega arith; short = omega arith; packets = few; numbers = numbers })

pub can-send : (ring : List RingKey) (now : ℕ) (standings : List SessionState) (voices : List TickTurn) (order : List ℕ) (room : ℕ) → AreVoices standings voices order room
    → All (IsHere ring now) standings → CanSend ring now standings voices
can-send ring now standings voices order room are here =
    record {
      long = are.long;
      each = λ i d e lt.
          let is = are.each i d e lt in
          let its : IsHere ring now (get_or standings i d) = here i d lt in
          let numbers = is.numbers in
          record {
            key = its.key;
            at = its.at;
            room = sendable (get_or voices i e) (numbers_left (get_or standings i d)) (get_or voices i e).packets (omega arith) is.few is.packets;
          };
    }

pub some-sendable : (voice : TickTurn) (left : ℕ) (found : Option Batch) (packets : Batch) → found ≡ Some packets
    → IfSome found (λ packets. IsSendable voice left packets.messages packets.bytes) → IsSendable voice left packets.messages packets.bytes
some-sendable voice left found packets is room =
    subst (λ (found : Option Batch). IfSome found (λ packets. IsSendable voice left packets.messages packets.bytes)) is room

-- once it has sent, it has no room for packets, and each can send as before
pub sent-step : (ring : List RingKey) (now : ℕ) (standings : List SessionState) (voices : List TickTurn) (place : ℕ) (d : SessionState) (after : SessionState) (next : TickTurn)
    → CanSend ring now standings voices → place < length standings → IsSome (entry_of (key_of after) ring) → IsAt now after → next.packets ≡ None
    → CanSend ring now (set standings place after) (set voices place next)
sent-step ring now standings voices place d after next can within key at none =
    let long = can.long in
    let within_voices : place < length voices = omega arith in
    let still : length (set standings place after) ≡ length standings = length-set standings place after in
    let still_voices : length (set voices place next) ≡ length voices = length-set voices place next in
    record {
      long = still_voices ∙ (can.long ∙ sym still);
      each = λ i d' e' lt.
          elim (cases_Bool (i == place)) [
            | inl same ↦
                let is : i ≡ place = eqb-true i place same in
                let its : get_or (set standings place after) i d' ≡ after = ap (λ (n : ℕ). get_or (set standings place after) n d') is ∙ get_or-set_same standings place after d' within in
                let own : get_or (set voices place next) i e' ≡ next = ap (λ (n : ℕ). get_or (set voices place next) n e') is ∙ get_or-set_same voices place next e' within_voices in
                subst (λ (standing : SessionState). CanGoOut ring now standing (get_or (set voices place next) i e')) (sym its)
                (subst (λ (voice : TickTurn). CanGoOut ring now after voice) (sym own)
                (record {
                  key = key;
                  at = at;
                  room = subst (λ (packets : Option Batch). IfSome packets (λ packets. IsSendable next (numbers_left after) packets.messages packets.bytes)) (sym none) tt;
                }))
            | inr off ↦
                let differ : (i ≡ place) → ⊥ = λ same. false≢true (sym off ∙ eq-eqb i place same) in
                subst (λ (standing : SessionState). CanGoOut ring now standing (get_or (set voices place next) i e')) (sym (get_or-set_other standings place i after d' differ))
                (subst (λ (voice : TickTurn). CanGoOut ring now (get_or standings i d') voice) (sym (get_or-set_other voices place i next e' differ))
                (can.each i d' e' (omega (arith, lt, still))))
          ];
    }

-- what becomes of a session that answers a job
pub is-step : (now : ℕ) (standing after : SessionState) (voice begun next : TickTurn) (entries more : Held) → begun ≡ record voice { left = voice.left - 1; spoke = true } → 0 < voice.left
    → Spends now 1 48 1 standing (turn_with begun entries) after (turn_with next more) → replies_left after + 1 ≡ replies_left standing
    → next.packets ≡ begun.packets → next.left ≡ begun.left → next.spoke ≡ begun.spoke → IsStep now standing after voice next entries more
is-step now standing after voice begun next entries more is some spends replies packets left spoke =
    let fewer : begun.left ≡ voice.left - 1 = ap (λ (voice : TickTurn). voice.left) is in
    record {
      spends = subst (λ (begun : TickTurn). Spends now 1 48 1 standing (turn_with begun entries) after (turn_with next more)) is spends;
      replies = replies;
      left = omega arith;
      spoke = spoke ∙ ap (λ (voice : TickTurn). voice.spoke) is;
      packets = packets ∙ ap (λ (voice : TickTurn). voice.packets) is;
    }

pub here-set : (ring : List RingKey) (now : ℕ) (standings : List SessionState) (place : ℕ) (before after : SessionState) (turn next : Turn) → IsHere ring now before
    → Spends now 1 48 1 before turn after next → All (IsHere ring now) standings → All (IsHere ring now) (set standings place after)
here-set ring now standings place before after turn next is spends all =
    All-set (IsHere ring now) standings place after
    (record { key = subst (λ (key : ℕ). IsSome (entry_of key ring)) (sym spends.key) is.key; at = spends.at is.at }) all

-- the room of a session is that of the voice that was lent
pub has-turn : (standing : SessionState) (voice begun : TickTurn) (entries : Held) → begun ≡ record voice { left = voice.left - 1; spoke = true }
    → HasRoom 1 48 1 standing (turn_with voice entries) → HasRoom 1 48 1 standing (turn_with begun entries)
has-turn standing voice begun entries is room = subst (λ (voice : TickTurn). HasRoom 1 48 1 standing (turn_with voice entries)) (sym is) room
