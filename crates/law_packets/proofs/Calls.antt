-- What a client changes in its calls, its binding and what waits leaves it steady.
use Rattle.std.proofs.Common.{ℕ, ◌<◌, ◌^◌, zero, suc, Bool, Option, Some, None, List, [], ◌∷◌}
use Rattle.std.specs.Prelude.{map, option_map}
use Rattle.std.specs.List.{AllByRecursion}
use Rattle.call_table.specs.declared.call.CallNo.{CallNo}
use Rattle.call_table.specs.declared.call.Fate.{Fate}
use Rattle.call_table.specs.declared.call.Flags.{Flags}
use Rattle.call_table.specs.declared.call.Living.{Living}
use Rattle.call_table.specs.Table.{Call, Name, changed_at, flagged, sent, sent_again, settled, with_salt}
use Rattle.client_rules.specs.Client.{Binding, Client, Temporary, bound_so, calls_of, with_binding, with_call, with_calls, after_message}
use Rattle.client_rules.specs.Learning.{each_becomes, settled_if}
use Rattle.law_packets.specs.Steady.{IsAsking, IsCall, IsNamed, IsSteady, IsTemporary}
use Rattle.law_packets.proofs.ClientLists.{rec-map}

-- ---- one call

abbrev pub Keeps : (Call → Call) → Type 0
Keeps change = (call : Call) → IsCall call → IsCall (change call)

pub settled-keeps : (fate : Fate) → Keeps (settled fate)
settled-keeps fate call is = record { bytes = is.bytes; words = is.words; short = is.short; names = is.names }

pub flagged-keeps : (flags : Call → Flags) → Keeps (λ call. flagged (flags call) call)
flagged-keeps flags call is = record { bytes = is.bytes; words = is.words; short = is.short; names = is.names }

pub sent-keeps : (session : ℕ) (living : Living) (salt : ℕ) → living.number < 2 ^ 64 → living.seq < 2 ^ 32 → Keeps (sent session living salt)
sent-keeps session living salt number seq call is =
    record { bytes = is.bytes; words = is.words; short = is.short; names = (record { number = number; seq = seq }, is.names) }

salted-names : (salt : ℕ) (names : List Name) → AllByRecursion IsNamed names → AllByRecursion IsNamed (with_salt salt names)
salted-names salt [] all = tt
salted-names salt (name ∷ names) all = let first = all.0 in (record { number = first.number; seq = first.seq }, all.1)

pub again-keeps : (salt : ℕ) (flags : Call → Flags) → Keeps (λ call. sent_again salt (flagged (flags call) call))
again-keeps salt flags call is =
    record { bytes = is.bytes; words = is.words; short = is.short; names = salted-names salt call.names is.names }

pub if-keeps : (fate : Option Fate) → Keeps (settled_if fate)
if-keeps None call is = is
if-keeps (Some fate) call is = settled-keeps fate call is

pub changed-all : (change : Call → Call) → Keeps change → (place : ℕ) (calls : List Call) → AllByRecursion IsCall calls → AllByRecursion IsCall (changed_at place change calls)
changed-all change keeps place [] all = tt
changed-all change keeps zero (call ∷ calls) all = (keeps call all.0, all.1)
changed-all change keeps (suc place) (call ∷ calls) all = (all.0, changed-all change keeps place calls all.1)

-- ---- a client

module _ (known : ℕ → Bool) where
  pub with-calls : (calls : List Call) (client : Client) → AllByRecursion IsCall calls → IsSteady known client → IsSteady known (with_calls calls client)
  with-calls calls client all s =
      record { is_known = s.is_known; key = s.key; session = s.session; salt = s.salt; temporary = s.temporary; told = s.told; calls = all }

  pub with-call : (call : CallNo) (change : Call → Call) (client : Client) → Keeps change → IsSteady known client → IsSteady known (with_call call change client)
  with-call call change client keeps s =
      record {
        is_known = s.is_known;
        key = s.key;
        session = s.session;
        salt = s.salt;
        temporary = s.temporary;
        told = s.told;
        calls = changed-all change keeps _ (calls_of client) s.calls;
      }

  pub each-becomes : (fate : Call → Option Fate) (client : Client) → IsSteady known client → IsSteady known (each_becomes fate client)
  each-becomes fate client s =
      with-calls (map (λ call. settled_if (fate call) call) (calls_of client)) client
      (rec-map IsCall (λ call. settled_if (fate call) call) (calls_of client) (λ call is. if-keeps (fate call) call is) s.calls) s

  bound-so : (binding : Binding) (temporary : Option Temporary) → IsAsking binding → IsTemporary (option_map (bound_so binding) temporary)
  bound-so binding None is = tt
  bound-so binding (Some temporary) is = is

  pub with-binding : (binding : Binding) (client : Client) → IsAsking binding → IsSteady known client → IsSteady known (with_binding binding client)
  with-binding binding client is s =
      record {
        is_known = s.is_known;
        key = s.key;
        session = s.session;
        salt = s.salt;
        temporary = bound-so binding client.temporary is;
        told = s.told;
        calls = s.calls;
      }

  pub after-message : (is_content : Bool) (client : Client) → IsSteady known client → IsSteady known (after_message is_content client)
  after-message is_content client s =
      record { is_known = s.is_known; key = s.key; session = s.session; salt = s.salt; temporary = s.temporary; told = s.told; calls = s.calls }
