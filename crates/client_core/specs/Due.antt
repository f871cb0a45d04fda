-- What is due at a client that sends nothing alone: scaffolding of private functions, and no promise.
use Rattle.std.specs.Prelude.{◌≡◌, ◌≢◌, ◌≤◌, ℕ, ◌+◌, ◌&&◌, ◌||◌, Bool, true, false, is_some, IfSome, Option, Some, None, option_map, slice_get, List, [], ◌∷◌, length, drop, fold}
use Rattle.std.specs.List.{list_any}
use Rattle.call_table.specs.declared.call.CallNo.{CallNo}
use Rattle.call_table.specs.declared.call.Group.TheVariants.{Dropping, Queued}
use Rattle.call_table.specs.Table.{Call, at, group_of}
use Rattle.client_rules.specs.Client.{Client, calls_of, is_open}
use Rattle.client_rules.specs.Filling.{Filling, Turn, Goes as Going, Waits, Never, number_of, says_call, turn_of}
use Rattle.client_core.specs.Asked.{needed_of}
use Rattle.client_core.specs.Draft.{Goes, nothing_yet, queue}
use Rattle.client_core.specs.Kept.{Contents}

abbrev pub has_some : {X : Type 0} → List X → Bool
has_some [] = false
has_some (x ∷ xs) = true

-- a queued call that goes when its turn comes
abbrev pub goes_now : Turn → Bool
goes_now (Going wrap) = true
goes_now Waits = false
goes_now Never = false

abbrev pub goes_of : Client → Option Call → Bool
goes_of client None = false
goes_of client (Some call) = goes_now (turn_of client call)

abbrev pub goes_at : Client → CallNo → Bool
goes_at client call = goes_of client (at call (calls_of client))

-- what waits beside the binding and the calls, in the order of a packet
abbrev pub waits : Client → Bool
waits client =
    (((((has_some client.table.acks || is_some client.waiting.told) || has_some client.waiting.resent) || client.waiting.states)
    || is_some client.waiting.ping) || is_some client.waiting.salts) || (is_some client.waiting.destroyed && is_open client)

-- what goes before the queued calls
abbrev pub is_due_before : Client → Bool
is_due_before client =
    (waits client || (is_some (needed_of client.temporary) && is_open client)) || has_some (group_of Dropping (calls_of client))

-- a packet has at least one message
abbrev pub is_due_beside : Client → Bool
is_due_beside client = is_due_before client || list_any (goes_at client) (group_of Queued (calls_of client))

-- the one at a place passes
abbrev pub any_of : (CallNo → Bool) → Option CallNo → Bool
any_of test None = false
any_of test (Some call) = test call

-- each of what waits fits into a packet, alone; and a call whose answer is to be dropped has a number
pub record CanSay (client : Client) : Type 0 where
  pub acks : length client.table.acks ≤ 8192
  pub told : IfSome client.waiting.told (λ states. length states.info ≤ 8192)
  pub resent : length client.waiting.resent ≤ 8192
  pub drops : IfSome (slice_get (group_of Dropping (calls_of client)) 0) (λ call. number_of (at call (calls_of client)) ≢ None)
  pub bodies : (call : CallNo) → IfSome (option_map (λ one. one.body) (at call (calls_of client))) (λ body. length body ≤ 262144)

-- nothing goes: of the queued calls so many turns came, and what is left gives what all give
pub record Quiet {S : Type 0} (first : Filling S) (core : Contents) (place k count : ℕ) : Type 0 where
  pub now : Filling S
  pub goes : Goes core nothing_yet now
  pub same : fold says_call first (queue first) ≡ fold says_call now (drop place (queue now))
  pub left : k + length (drop place (queue now)) ≡ count
  pub none : list_any (goes_at now.client) (drop place (queue now)) ≡ false
