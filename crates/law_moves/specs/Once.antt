-- At most once: what calls and executions have to do with one another.
use Rattle.std.specs.Prelude.{ℕ, ◌≡◌, ◌≢◌, true, List, [], ◌∷◌}
use Rattle.std.specs.List.{Contains}
use Rattle.law_moves.specs.Table.{CallId, Text, Name, Entry, ServerSession, State}
use Rattle.law_moves.specs.Table.State.{Queued, Sent, Held, Done, Refused, Unknown}
use Rattle.law_moves.specs.Table.Cause.{ServerSessionLost, Renewed, Ended, Forgotten}
use Rattle.law_moves.specs.Table.Status.{Unmade}
use Rattle.law_moves.specs.World.{World, Owns, LostBefore}

-- at most one place of the list has something that is so
abbrev pub AtMostOne : {A : Type 0} → (A → Type 0) → List A → Type 0
AtMostOne IsSo [] = Unit {0}
AtMostOne {A = A} IsSo (x ∷ xs) = (IsSo x → (y : A) → Contains xs y → IsSo y → ⊥) × AtMostOne IsSo xs

-- the entry is of this name
abbrev pub IsOfName : World → Name → Entry → Type 0
IsOfName w name entry = ((w.servers entry.server).session ≡ name.session) × (entry.number ≡ name.number)

-- the entry is of a name of the call
abbrev pub IsOfCall : World → CallId → Entry → Type 0
IsOfCall w call entry = (name : Name) × Contains (w.calls call).names name × IsOfName w name entry

abbrev pub HasNoEntry : World → CallId → Type 0
HasNoEntry w call = (entry : Entry) → Contains w.entries entry → IsOfCall w call entry → ⊥

-- the call is done, refused or unknown
abbrev pub IsDecided : State → Type 0
IsDecided Queued = ⊥
IsDecided Sent = ⊥
IsDecided Held = ⊥
IsDecided (Done reply) = Unit {0}
IsDecided (Refused code) = Unit {0}
IsDecided (Unknown cause) = Unit {0}

-- every name but the last
abbrev pub older_names : List Name → List Name
older_names [] = []
older_names (name ∷ older) = older

-- the call's last name has this
abbrev pub OnLast : (Name → Type 0) → List Name → Type 0
OnLast Has [] = ⊥
OnLast Has (name ∷ older) = Has name

-- two server sessions were made for the session number, and the first was lost before the second was made
abbrev pub HadTwo : (ℕ → ServerSession) → Name → Type 0
HadTwo servers name =
    (first second : ℕ)
    × ((servers first).session ≡ name.session)
    × ((servers second).session ≡ name.session)
    × ((servers second).status ≢ Unmade)
    × LostBefore (servers first) (servers second).made

-- some server session of the session number has forgotten the number
abbrev pub WasForgotten : (ℕ → ServerSession) → Name → Type 0
WasForgotten servers name =
    (unique : ℕ) × ((servers unique).session ≡ name.session) × Contains (servers unique).forgotten name.number

pub record Once (w : World) : Type 0 where
  -- over all names of a call there is at most one entry
  pub once : (call : CallId) → AtMostOne (IsOfCall w call) w.entries
  -- each entry is of a name of one call of the client that has or had its session number, and its request is that call's body
  pub as_sent : (entry : Entry)
      → Contains w.entries entry
      → (call : CallId)
      × IsOfCall w call entry
      × (entry.request ≡ (w.calls call).body)
      × Owns (w.clients call.client) (w.servers entry.server).session
      × ((other : CallId) → IsOfCall w other entry → other ≡ call)
  -- a done call has exactly one entry, with its reply
  pub done : (call : CallId) (reply : Text)
      → (w.calls call).state ≡ Done reply
      → (entry : Entry)
      × Contains w.entries entry
      × IsOfCall w call entry
      × (entry.reply ≡ reply)
      × ((other : Entry) → Contains w.entries other → IsOfCall w call other → other ≡ entry)
  -- a replaced name has no entry
  pub replaced : (call : CallId) (name : Name) (entry : Entry)
      → Contains (older_names (w.calls call).names) name → Contains w.entries entry → IsOfName w name entry → ⊥
  -- nor has any name of a queued, held or refused call
  pub queued : (call : CallId) → (w.calls call).state ≡ Queued → HasNoEntry w call
  pub held : (call : CallId) → (w.calls call).state ≡ Held → HasNoEntry w call
  pub refused : (call : CallId) (code : ℕ) → (w.calls call).state ≡ Refused code → HasNoEntry w call
  -- each unknown call has its cause
  pub session_lost : (call : CallId) → (w.calls call).state ≡ Unknown ServerSessionLost → OnLast (HadTwo w.servers) (w.calls call).names
  pub renewed : (call : CallId)
      → (w.calls call).state ≡ Unknown Renewed
      → OnLast (λ name. Contains (w.clients call.client).former name.session) (w.calls call).names
  pub ended : (call : CallId) → (w.calls call).state ≡ Unknown Ended → (w.clients call.client).ended ≡ true
  pub forgotten : (call : CallId) → (w.calls call).state ≡ Unknown Forgotten → OnLast (WasForgotten w.servers) (w.calls call).names
