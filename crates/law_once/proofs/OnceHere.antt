-- The six sentences, of a world that stands there.
use Rattle.std.proofs.Common.{◌≡◌, ℕ, zero, suc, ◌≤◌, List, [], length, Some, None, ap, subst, ◌∙◌}
use Rattle.std.specs.List.{Contains}
use Rattle.regs_service.specs.Served.{Served}
use Rattle.law_moves.specs.Table as moves
use Rattle.law_moves.specs.World.{World as Moved}
use Rattle.law_moves.specs.Once.{IsOfName, Once as IsOnceThere}
use Rattle.law_moves.specs.Once as law
use Rattle.call_table.specs.Table.{Call, Name}
use Rattle.call_table.specs.Table as table
use Rattle.call_table.specs.declared.call.Cause.{Cause}
use Rattle.call_table.specs.declared.call.Cause.TheVariants as cause
use Rattle.client_rules.specs.Client.{Client}
use Rattle.law_client.specs.Clients.{cause_there, state_there}
use Rattle.world_rules.specs.Setting.{Setting}
use Rattle.world_rules.specs.World.{World, lives}
use Rattle.world_rules.specs.Once.{HasCause, HasNoEntry, IsCallOf, Once, RanOnce, entries_of, entries_under, older_names, ran_in}
use Rattle.law_once.specs.Standing.{WorldStands}
use Rattle.law_once.proofs.Carried.{Naming, asked, last_caused, none_here, older_there, one_here, ran_here, so_name, there, under}
use Rattle.law_once.proofs.Entries.{counted_alike, listed, no_length, none_kept}
use Rattle.law_once.proofs.Outstanding.{AllNamed, HasName}

module _ {S V : Type 0} (setting : Setting S V) (naming : Naming) (w : Moved) (world : World S V) (h : WorldStands w world) (once : IsOnceThere w) (named : AllNamed w.calls)
    (served : (start : ℕ) → Served setting.serve setting.fresh (ran_in start world.entries)) where
  no_call_of_zero : (P : Type 0) (place : ℕ) (client : Client) (call : Call) → IsCallOf world zero place client call → P
  no_call_of_zero P place client call of = let none : None ≡ Some (record { client = client; clock = of.clock }) = of.seated in absurd (cc)

  module _ (n place : ℕ) (client : Client) (call : Call) (of : IsCallOf world (suc n) place client call) where
    abbrev id : moves.CallId
    id = moves.call_at n place

    state_of : (state : table.State) → call.state ≡ state → (w.calls id).state ≡ state_there state
    state_of state is = (there naming w world h n client of.clock of.seated place call of.submitted).state ∙ ap state_there is

    ran : (reply : List ℕ) → call.state ≡ table.Done reply → RanOnce world client call reply
    ran reply is =
        let d = once.done id reply (state_of (table.Done reply) is) in
        let r = ran_here naming w world h n client of.clock of.seated place call of.submitted (once.once id) d.0 d.1 d.2 in
        record { entered = r.0; only = r.1; replied = r.2 ∙ d.3 }

    none : law.HasNoEntry w id → HasNoEntry world client call
    none has_none = none_here naming w world h n client of.clock of.seated place call of.submitted has_none

    gone : (name : Name) → Contains (older_names call) name → entries_under world client name ≡ []
    gone name among =
        let t = older_there w.ups call.names (w.calls id).names (there naming w world h n client of.clock of.seated place call of.submitted).names name among in
        no_length (entries_under world client name)
        (counted_alike (under client name) world.entries
        ∙ ap length (none_kept (lives world) (under client name) (IsOfName w t.0)
        (λ e x its holds. so_name naming w world h n client of.clock of.seated name t.0 t.2 e x its holds) (listed world.entries) w.entries h.server.entered
        (λ x there_is its. once.replaced id t.0 x t.1 there_is its)))

    why_so : (why : Cause) → call.state ≡ table.Unknown why → HasCause world client call.names why
    why_so why is =
        let state : (w.calls id).state ≡ moves.State.Unknown (cause_there why) = state_of (table.Unknown why) is in
        let by : (other : Cause) → why ≡ other → (w.calls id).state ≡ moves.State.Unknown (cause_there other) =
        λ other same. state ∙ ap (λ (c : Cause). moves.State.Unknown (cause_there c)) same in
        let has : HasName (moves.State.Unknown (cause_there why)) (w.calls id).names = subst (λ (s : moves.State). HasName s (w.calls id).names) state (named id) in
        last_caused naming w world h once n client of.clock of.seated call.names (w.calls id).names (there naming w world h n client of.clock of.seated place call of.submitted).names
        (λ name among. naming.of_name w id name h.reached among) why
        (λ same. once.session_lost id (by cause.Session same)) (λ same. once.renewed id (by cause.Renewed same)) (λ same. once.ended id (by cause.Ended same))
        (λ same. once.forgotten id (by cause.Forgotten same)) has

  most : (number place : ℕ) (client : Client) (call : Call) → IsCallOf world number place client call → length (entries_of world client call) ≤ 1
  most zero place client call of = no_call_of_zero (length (entries_of world client call) ≤ 1) place client call of
  most (suc n) place client call of = one_here naming w world h n client of.clock of.seated place call of.submitted (once.once (moves.call_at n place))

  done : (number place : ℕ) (client : Client) (call : Call) (reply : List ℕ) → IsCallOf world number place client call → call.state ≡ table.Done reply → RanOnce world client call reply
  done zero place client call reply of is = no_call_of_zero (RanOnce world client call reply) place client call of
  done (suc n) place client call reply of is = ran n place client call of reply is

  replaced : (number place : ℕ) (client : Client) (call : Call) (name : Name) → IsCallOf world number place client call → Contains (older_names call) name → entries_under world client name ≡ []
  replaced zero place client call name of among = no_call_of_zero (entries_under world client name ≡ []) place client call of
  replaced (suc n) place client call name of among = gone n place client call of name among

  refused : (number place : ℕ) (client : Client) (call : Call) (code : ℕ) → IsCallOf world number place client call → call.state ≡ table.Refused code → HasNoEntry world client call
  refused zero place client call code of is = no_call_of_zero (HasNoEntry world client call) place client call of
  refused (suc n) place client call code of is = none n place client call of (once.refused (moves.call_at n place) code (state_of n place client call of (table.Refused code) is))

  held : (number place : ℕ) (client : Client) (call : Call) → IsCallOf world number place client call → call.state ≡ table.Held → HasNoEntry world client call
  held zero place client call of is = no_call_of_zero (HasNoEntry world client call) place client call of
  held (suc n) place client call of is = none n place client call of (once.held (moves.call_at n place) (state_of n place client call of table.Held is))

  queued : (number place : ℕ) (client : Client) (call : Call) → IsCallOf world number place client call → call.state ≡ table.Queued → HasNoEntry world client call
  queued zero place client call of is = no_call_of_zero (HasNoEntry world client call) place client call of
  queued (suc n) place client call of is = none n place client call of (once.queued (moves.call_at n place) (state_of n place client call of table.Queued is))

  unknown : (number place : ℕ) (client : Client) (call : Call) (why : Cause) → IsCallOf world number place client call → call.state ≡ table.Unknown why → HasCause world client call.names why
  unknown zero place client call why of is = no_call_of_zero (HasCause world client call.names why) place client call of
  unknown (suc n) place client call why of is = why_so n place client call of why is

  pub once_here : Once setting world
  once_here = record {
    at_most_once = most;
    as_sent = asked naming w world h once;
    done = done;
    replaced = replaced;
    refused = refused;
    held = held;
    queued = queued;
    unknown = unknown;
    served = served;
  }
