-- A client in one of its states, and what is told of it.
use Rattle.std.specs.Prelude.{◌≡◌, ℕ, ◌==◌, ◌||◌, ◌&&◌, not, if◌then◌else◌, Bool, true, false, Result, Ok, Err}
use Rattle.std.specs.List.{list_any}
use Rattle.octets.specs.declared.memory.Memory.{Memory}
use Rattle.client_rules.specs.Asking.{pinged, salts_asked, ticked}
use Rattle.client_rules.specs.Client.{Client, is_open}
use Rattle.client_core.specs.Kept.{Contents, Stands}
use Rattle.client_core.specs.declared.holder.Holder.{Holder}
use Rattle.client_core.specs.declared.holder.Holder.TheVariants as holder
use Rattle.client_core.specs.declared.moving.Wish.{Wish}
use Rattle.client_core.specs.declared.moving.Wish.TheVariants as wish

-- what is kept of it
abbrev pub kept_of : Holder → Contents
kept_of (holder.Opening kept) = kept
kept_of (holder.Open kept) = kept
kept_of (holder.Ended kept) = kept

-- it learnt a unique number of its present session, and hasn't ended
abbrev pub is_open_now : Client → Bool
is_open_now client = is_open client && not client.has_ended

-- the session number is its present one, or a former one
abbrev pub owns : ℕ → Client → Bool
owns session client = (client.session == session) || list_any (λ former. former == session) client.former

-- the state in which it is held is that of the client
abbrev pub IsInState : Holder → Type 0
IsInState (holder.Opening kept) = (is_open kept.rest ≡ false) × (kept.rest.has_ended ≡ false)
IsInState (holder.Open kept) = (is_open kept.rest ≡ true) × (kept.rest.has_ended ≡ false)
IsInState (holder.Ended kept) = kept.rest.has_ended ≡ true

-- ---- its state

-- it has learnt nothing of its present session; it has; it ended
pub data Phase : Type 0 where
  Opening : Phase
  Open : Phase
  Ended : Phase

abbrev pub phase_of : Holder → Phase
phase_of (holder.Opening kept) = Opening
phase_of (holder.Open kept) = Open
phase_of (holder.Ended kept) = Ended

-- after a packet: an opening client that learnt is open, and an open one that learnt too much ended
abbrev pub phase_after : Phase → Client → Phase
phase_after Opening client = if is_open client then Open else Opening
phase_after Open client = if client.has_ended then Ended else Open
phase_after Ended client = Ended

-- ---- its events

-- an ended client does nothing
abbrev pub unless_ended : (Client → Client) → Client → Client
unless_ended does client = if client.has_ended then client else does client

-- what an open client is asked to do
abbrev pub wished : Wish → Client → Client
wished wish.Tick client = ticked client
wished (wish.Ping id) client = pinged id client
wished (wish.Salts count) client = salts_asked count client

-- By a packet it became this client, in its state; or memory ran out and it is the client that it was, in the state that it
-- was in.
abbrev pub Became : {X : Type 0} → Holder → Client → Client → Holder → Result X Memory → Type 0
Became held before after left (Ok told) = (phase_of left ≡ phase_after (phase_of held) after) × Stands (kept_of left) after
Became held before after left (Err memory) = (phase_of left ≡ phase_of held) × Stands (kept_of left) before
