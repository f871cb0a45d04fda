-- Each of what waits, as it goes into the packet.
use Rattle.std.proofs.Common.{◌≡◌, ℕ, ◌≤◌, ◌&&◌, Bool, true, false, Option, Some, None, List, [], ◌∷◌, ◌++◌, fold, subst, refl, arith}
use Rattle.std.specs.Prelude.{slice_get}
use Rattle.std.specs.Int.{bytes_low_first}
use Rattle.std.specs.List.{AllByRecursion}
use Rattle.std.proofs.lemmas.Bool.{cond_both}
use Rattle.octets.specs.Bytes.{HasBytes}
use Rattle.draws.specs.Draws.{draw_after, next_bytes}
use Rattle.msg_ids.specs.Counters.{room}
use Rattle.service_tl.specs.declared.lists.Message.{Message}
use Rattle.service_tl.specs.declared.item.Item.TheVariants.{DestroySession, GetFutureSalts, MsgResendReq, MsgsAck, MsgsStateInfo, MsgsStateReq, Ping, RpcDropAnswer}
use Rattle.call_table.specs.declared.call.CallNo.{CallNo}
use Rattle.call_table.specs.declared.call.Living.{Living}
use Rattle.call_table.specs.declared.call.Group.TheVariants as group
use Rattle.call_table.specs.declared.call.Fate.TheVariants as fate
use Rattle.call_table.specs.Table.{Call, at, group_of, sent, settled}
use Rattle.client_rules.specs.Client.{Asked, Client, States, Temporary, after_message, calls_of, is_open, numbered, with_call}
use Rattle.client_rules.specs.Sending.{Setting, binding_body, inner_of}
use Rattle.client_rules.specs.Filling.{Filling, Goes, Never, Turn, Waits, asks_binding, asks_states, body_behind, empty, fills, goes, is_needed, number_of, outstanding, says_acks, says_binding, says_call, says_call_at, says_destroyed, says_drop, says_drop_of, says_ping, says_resent, says_salts, says_states, says_told, sends_call, takes_turn, turn_of, undropped}
use Rattle.law_packets.specs.Steady.{IsCall, IsFit, IsSteady, IsTold}
use Rattle.law_packets.proofs.Calls.{after-message, flagged-keeps, sent-keeps, settled-keeps, with-binding, with-call}
use Rattle.law_packets.proofs.Counters.{numbers-fit, room-falls}
use Rattle.law_packets.proofs.Filled.{Filled, Laws, changed-filled, goes-filled, says-filled}
use Rattle.law_packets.proofs.ClientLists.{If, rec-get}
use Rattle.law_packets.proofs.Spelled as spelled
use Rattle.law_packets.proofs.Spelled.{IsText, bytes-append, bytes-nil, little-bytes}

-- ---- words that are drawn

sixteen : {S : Type 0} (step : S → ℕ × S) (draw : S) → HasBytes 16 (next_bytes step 16 draw)
sixteen step draw =
    let first : List ℕ = bytes_low_first 0 8 (step draw).0 in
    let second : List ℕ = bytes_low_first 0 8 (step (step draw).1).0 in
    record {
      count = refl;
      in_range = bytes-append first (second ++ []) (little-bytes 8 (step draw).0) (bytes-append second [] (little-bytes 8 (step (step draw).1).0) bytes-nil);
    }

eight : {S : Type 0} (step : S → ℕ × S) (draw : S) → HasBytes 8 (next_bytes step 8 draw)
eight step draw = record { count = refl; in_range = bytes-append (bytes_low_first 0 8 (step draw).0) [] (little-bytes 8 (step draw).0) bytes-nil }

module _ {S : Type 0} (laws : Laws) (known : ℕ → Bool) (setting : Setting S) (fit : IsFit setting) (first : ℕ) where
  abbrev F : Filling S → Type 0
  F filling = Filled laws known first filling

  -- ---- what waits beside the calls

  said-acks : (acks : List ℕ) (filling : Filling S) → F filling → F (says_acks acks filling)
  said-acks [] filling f = f
  said-acks (number ∷ acks) filling f =
      says-filled laws known false (MsgsAck (number ∷ acks)) (λ client. record client { table = record client.table { acks = [] } }) first filling (λ s. spelled.acks (number ∷ acks))
      (λ client s. record { is_known = s.is_known; key = s.key; session = s.session; salt = s.salt; temporary = s.temporary; told = s.told; calls = s.calls }) (λ client. refl) f

  said-told : (told : Option States) (filling : Filling S) → (IsTold told) → F filling → F (says_told told filling)
  said-told None filling bytes f = f
  said-told (Some states) filling bytes f =
      says-filled laws known false (MsgsStateInfo states.request states.info) (λ client. record client { waiting = record client.waiting { told = None } }) first filling
      (λ s. spelled.states_told states.request states.info bytes)
      (λ client s. record { is_known = s.is_known; key = s.key; session = s.session; salt = s.salt; temporary = s.temporary; told = tt; calls = s.calls }) (λ client. refl) f

  said-resent : (numbers : List ℕ) (filling : Filling S) → F filling → F (says_resent numbers filling)
  said-resent [] filling f = f
  said-resent (number ∷ numbers) filling f =
      says-filled laws known false (MsgResendReq (number ∷ numbers)) (λ client. record client { waiting = record client.waiting { resent = [] } }) first filling
      (λ s. spelled.resent (number ∷ numbers))
      (λ client s. record { is_known = s.is_known; key = s.key; session = s.session; salt = s.salt; temporary = s.temporary; told = s.told; calls = s.calls }) (λ client. refl) f

  said-states : (is : Bool) (filling : Filling S) → F filling → F (says_states is filling)
  said-states false filling f = f
  said-states true filling f =
      let numbers = outstanding filling.client in
      says-filled laws known false (MsgsStateReq numbers) (asks_states numbers) first filling (λ s. spelled.states_asked numbers)
      (λ client s. record { is_known = s.is_known; key = s.key; session = s.session; salt = s.salt; temporary = s.temporary; told = s.told; calls = s.calls }) (λ client. refl) f

  said-ping : (ping : Option ℕ) (filling : Filling S) → F filling → F (says_ping ping filling)
  said-ping None filling f = f
  said-ping (Some id) filling f =
      says-filled laws known false (Ping id) (λ client. record client { waiting = record client.waiting { ping = None } }) first filling (λ s. spelled.ping id)
      (λ client s. record { is_known = s.is_known; key = s.key; session = s.session; salt = s.salt; temporary = s.temporary; told = s.told; calls = s.calls }) (λ client. refl) f

  said-salts : (salts : Option ℕ) (filling : Filling S) → F filling → F (says_salts salts filling)
  said-salts None filling f = f
  said-salts (Some count) filling f =
      says-filled laws known true (GetFutureSalts count) (λ client. record client { waiting = record client.waiting { salts = None } }) first filling (λ s. spelled.salts count)
      (λ client s. record { is_known = s.is_known; key = s.key; session = s.session; salt = s.salt; temporary = s.temporary; told = s.told; calls = s.calls }) (λ client. refl) f

  said-destroyed : (session : Option ℕ) (filling : Filling S) → F filling → F (says_destroyed session filling)
  said-destroyed None filling f = f
  said-destroyed (Some session) filling f =
      cond_both (is_open filling.client) _ filling F
      (λ is.
      says-filled laws known true (DestroySession session) (λ client. record client { waiting = record client.waiting { destroyed = None } }) first filling (λ s. spelled.destroyed session)
      (λ client s. record { is_known = s.is_known; key = s.key; session = s.session; salt = s.salt; temporary = s.temporary; told = s.told; calls = s.calls }) (λ client. refl) f) (λ is. f)

  -- ---- the binding

  said-binding : (temporary : Option Temporary) (filling : Filling S) → F filling → F (says_binding setting temporary filling)
  said-binding None filling f = f
  said-binding (Some temporary) filling f =
      let unsaid = numbered true [] filling.client in
      let body = binding_body setting filling.client temporary unsaid.number filling.draw in
      let message : Message = record unsaid { body = body } in
      let inner = inner_of setting filling.client temporary filling.draw in
      let random = next_bytes setting.step 16 (draw_after setting.step 1 filling.draw) in
      let padding = next_bytes setting.step 8 (draw_after setting.step 3 filling.draw) in
      let bytes = fit.bindings inner.perm unsaid.number random padding inner (sixteen setting.step (draw_after setting.step 1 filling.draw)) (eight setting.step (draw_after setting.step 3 filling.draw)) in
      let fewer = room-falls laws.room true filling.client in
      cond_both (is_needed temporary.binding && is_open filling.client) (goes message (asks_binding setting message) filling) filling F
      (λ is.
      goes-filled laws known message (asks_binding setting message) first filling
      (record {
        same = refl;
        counters = omega (arith, fewer);
        steady = λ may s. with-binding known (Asked message) (after_message true filling.client) may (after-message known true filling.client s);
        fits = λ left. numbers-fit laws.room true [] filling.client left;
        text = λ s. spelled.binding inner.perm inner.nonce inner.expires (setting.binding_message inner.perm random unsaid.number inner padding) bytes;
      }) f)
      (λ is. f)

  -- ---- answers to drop

  said-drop_of : (call : CallNo) (number : Option ℕ) (filling : Filling S) → F filling → F (says_drop_of call number filling)
  said-drop_of call None filling f = f
  said-drop_of call (Some number) filling f =
      says-filled laws known true (RpcDropAnswer number) (with_call call undropped) first filling (λ s. spelled.dropped number)
      (λ client s. with-call known call undropped client (flagged-keeps (λ (call : Call). record call.flags { dropping = false })) s) (λ client. refl) f

  all-dropped : (calls : List CallNo) (filling : Filling S) → F filling → F (fold says_drop filling calls)
  all-dropped [] filling f = f
  all-dropped (call ∷ calls) filling f =
      all-dropped calls (says_drop filling call) (said-drop_of call (number_of (at call (calls_of filling.client))) filling f)

  -- ---- queued calls

  call-text : (wrap : Option ℕ) (body : List ℕ) → IsText body → IsText (body_behind wrap body)
  call-text None body text = text
  call-text (Some number) body text = spelled.behind number body text

  found-call : (calls : List Call) (place : ℕ) (call : Call) → slice_get calls place ≡ Some call → AllByRecursion IsCall calls → IsCall call
  found-call calls place call is all =
      let P : Option Call → Type 0 = λ found. If IsCall found in
      subst P is (rec-get IsCall calls place all)

  turn-taken : (number : CallNo) (call : Call) (turn : Turn) (filling : Filling S) → at number (calls_of filling.client) ≡ Some call → F filling
      → F (takes_turn number call.body turn filling)
  turn-taken number call (Goes wrap) filling is f =
      let message = numbered true (body_behind wrap call.body) filling.client in
      let living : Living = record { number = message.number; seq = message.seq; wrap = wrap } in
      let fewer = room-falls laws.room true filling.client in
      goes-filled laws known message (sends_call number wrap message) first filling
      (record {
        same = refl;
        counters = omega (arith, fewer);
        steady = λ may s. with-call known number (sent filling.client.session living filling.client.salt) (after_message true filling.client)
            (sent-keeps filling.client.session living filling.client.salt may.number may.seq) (after-message known true filling.client s);
        fits = λ left. numbers-fit laws.room true (body_behind wrap call.body) filling.client left;
        text = λ s. let one = found-call (calls_of filling.client) _ call is s.calls in call-text wrap call.body (record { bytes = one.bytes; words = one.words });
      }) f
  turn-taken number call Waits filling is f = f
  turn-taken number call Never filling is f =
      changed-filled laws known (with_call number (settled (fate.Refused 0))) first filling
      (λ client s. with-call known number (settled (fate.Refused 0)) client (settled-keeps (fate.Refused 0)) s) (λ client. refl) f

  said-call-at : (number : CallNo) (found : Option Call) (filling : Filling S) → at number (calls_of filling.client) ≡ found → F filling → F (says_call_at number found filling)
  said-call-at number None filling is f = f
  said-call-at number (Some call) filling is f = turn-taken number call (turn_of filling.client call) filling is f

  said-call : (filling : Filling S) (number : CallNo) → F filling → F (says_call filling number)
  said-call filling number f =
      cond_both filling.is_full filling (says_call_at number (at number (calls_of filling.client)) filling) F (λ is. f)
      (λ is. said-call-at number (at number (calls_of filling.client)) filling refl f)

  all-said : (calls : List CallNo) (filling : Filling S) → F filling → F (fold says_call filling calls)
  all-said [] filling f = f
  all-said (number ∷ calls) filling f = all-said calls (says_call filling number) (said-call filling number f)

  -- ---- all of it

  pub empty-filled : (client : Client) (draw : S) → IsSteady known client → first ≤ room client.counters → F (empty client draw)
  empty-filled client draw s enough =
      record {
        full = λ large. record { steady = s; all = tt; left = omega (arith, large, enough); few = omega arith; size = omega arith };
        quiet = λ none. s;
      }

  pub fills-filled : (client : Client) (draw : S) → IsSteady known client → first ≤ room client.counters → F (fills setting client draw)
  fills-filled client draw s enough =
      let waiting = client.waiting in
      let acks = says_acks client.table.acks (empty client draw) in
      let told = says_told waiting.told acks in
      let resent = says_resent waiting.resent told in
      let states = says_states waiting.states resent in
      let pinged = says_ping waiting.ping states in
      let salted = says_salts waiting.salts pinged in
      let items = says_destroyed waiting.destroyed salted in
      let bound = says_binding setting client.temporary items in
      let drops = fold says_drop bound (group_of group.Dropping (calls_of client)) in
      all-said (group_of group.Queued (calls_of client)) drops
      (all-dropped (group_of group.Dropping (calls_of client)) bound
      (said-binding client.temporary items
      (said-destroyed waiting.destroyed salted
      (said-salts waiting.salts pinged
      (said-ping waiting.ping states
      (said-states waiting.states resent
      (said-resent waiting.resent told
      (said-told waiting.told acks s.told
      (said-acks client.table.acks (empty client draw) (empty-filled client draw s enough))))))))))
