-- What a run of `call` owes to what it read: the status and the text that are due, in the order of its checks.
use Rattle.std.specs.Prelude.{◌≡◌, ◌<◌, ◌≤◌, ◌⊎◌, ◌↔◌, ℕ, true, false, Option, Some, None, IfSome, IsSomeAnd, codes, List, [], ◌∷◌, length}
use Rattle.auth_keys.specs.KeyFile.{IsRingOf}
use Rattle.auth_keys.specs.declared.ring.RingKey.{RingKey}
use Rattle.call_script.specs.Scripts.{HasBadLine, Spells}
use Rattle.call_script.specs.declared.script.ScriptCall.{ScriptCall}
use Rattle.client_core.specs.Keys.{Keys}
use Rattle.client_core.specs.declared.holder.Holder.{Holder}
use Rattle.client_node.specs.Course.{Course, Opening, is_decided}
use Rattle.client_node.specs.Ends.{batch_by}
use Rattle.client_node.specs.Talks.{Rules, rules_of}
use Rattle.client_node.specs.Trace.{AreLost, Attempt, ClientTrace, after_all, end_of_attempt}
use Rattle.client_node.specs.declared.plan.Batch.{Batch}
use Rattle.client_node.specs.declared.plan.Batch.TheVariants as batch
use Rattle.client_node.specs.declared.plan.Plan.{Plan}
use Rattle.client_rules.specs.Asking.{Fault}
use Rattle.client_rules.specs.Client.{Client, calls_of}
use Rattle.commands.specs.declared.command.CallOptions.{CallOptions}
use Rattle.draws.specs.Draws.{draw_after, word_after}
use Rattle.envelope.specs.Lock.{mt_lock}
use Rattle.key_files.specs.Files.{AsksOnce, HasFile, IsRefusedAt, not_read, refused_at}
use Rattle.mt_edge.specs.Files.{FilesTold}
use Rattle.mt_edge.specs.declared.net_call.NetCall.{NetCall}
use Rattle.statuses.specs.Lines.{bad_line, input_bytes_max, refusal_line, too_long}
use Rattle.statuses.specs.Outside.{HadFault, IfTold, IsReadToTheEnd, Outside, Part}
use Rattle.statuses.specs.declared.status.Status.{Status}
use Rattle.statuses.specs.declared.status.Status.TheVariants as status
use Rattle.world_rules.specs.Report.{fault_text}
use Rattle.cmd_call.specs.Keys.{client_under, keys_for}
use Rattle.cmd_call.specs.Reading.{reading_under}
use Rattle.cmd_call.specs.Script.{given_all, untaken}
use Rattle.cmd_call.specs.Table.{TellsBatch, are_done}

-- ---- the outside

-- key files, before a run and after it
abbrev pub Files : Type 0 → Type 0
Files F = Part FilesTold F

abbrev pub files_of : {F : Type 0} → (F → Option FilesTold) → (F → ℕ) → F → F → Files F
files_of told faults before after = record { told = told; faults = faults; before = before; after = after }

-- they were asked once, for the file of this name
abbrev pub AskedFor : {F : Type 0} → List ℕ → Files F → Type 0
AskedFor name files = IfSome (files.told files.after) (λ after. IsSomeAnd (files.told files.before) (λ before. AsksOnce name before after))

-- a read of them failed, and was counted
abbrev pub FileFault : {F : Type 0} → Files F → Type 0
FileFault files = HadFault files

-- they gave this text for that name: it is that of a file of this name, where they tell
pub record Gave {F : Type 0} (name : List ℕ) (files : Files F) (text : List ℕ) : Type 0 where
  pub asked : AskedFor name files
  pub named : HasFile (files.told files.before) name text
  pub no_fault : files.faults files.after ≡ files.faults files.before

-- What is around a batch, before a run and after it: a net, with the calls that it tells, how many more of them it can note, and its
-- faults; a clock, with the moments that it gave; and words that are drawn.
pub record Around (N C D : Type 0) : Type 0 where
  pub calls : N → Option (List NetCall)
  pub room : N → ℕ
  pub faults : N → ℕ
  pub given : C → Option (List ℕ)
  pub step : D → ℕ × D
  pub net : N
  pub net_then : N
  pub clock : C
  pub clock_then : C
  pub draw : D
  pub draw_then : D

-- these parts of it
abbrev pub around_of : {N C D : Type 0} → (N → Option (List NetCall)) → (N → ℕ) → (N → ℕ) → (C → Option (List ℕ)) → (D → ℕ × D) → N → N → C → C → D → D → Around N C D
around_of calls room faults given step net net_then clock clock_then draw draw_then =
    record {
      calls = calls;
      room = room;
      faults = faults;
      given = given;
      step = step;
      net = net;
      net_then = net_then;
      clock = clock;
      clock_then = clock_then;
      draw = draw;
      draw_then = draw_then;
    }

-- nothing was connected to, and the clock wasn't asked
pub record IsOffline {N C D : Type 0} (around : Around N C D) : Type 0 where
  pub net : around.net_then ≡ around.net
  pub clock : around.clock_then ≡ around.clock

-- and no word was drawn
pub record IsIdle {N C D : Type 0} (around : Around N C D) : Type 0 where
  pub offline : IsOffline around
  pub draw : around.draw_then ≡ around.draw

-- ---- the calls, under the keys of a ring

abbrev pub plan_of : CallOptions → Plan
plan_of options = record { port = options.port; form = options.form; obfuscate = options.obfuscate; retries = options.retries }

-- the rules under which its events go, with the keys of a ring
abbrev pub rules_under : {N C D : Type 0} → List RingKey → Around N C D → Rules D
rules_under ring around = rules_of around.step mt_lock ring (reading_under ring)

-- the client under these keys that was given the calls, at the beginning of its batch: its session number is drawn
abbrev pub begins : {N C D : Type 0} → Keys → List ScriptCall → Around N C D → Course D
begins keys calls around =
    record {
      phase = Opening;
      client = given_all calls (client_under keys (word_after around.step 0 around.draw));
      draw = draw_after around.step 1 around.draw;
    }

-- A call isn't taken: the line of the first one is told, and why. The session number was drawn.
pub record RefusesCall {N C D : Type 0} (calls : List ScriptCall) (around : Around N C D) (one : Status) (due : List ℕ) : Type 0 where
  pub line : ℕ
  pub fault : Fault
  pub first : untaken calls ≡ Some (line, fault)
  pub offline : IsOffline around
  pub drawn : around.draw_then ≡ draw_after around.step 1 around.draw
  pub said : one ≡ status.InputRefused
  pub told : due ≡ refusal_line line (fault_text fault)

-- the last of these attempts to connect ended as a batch ends so
abbrev pub LastEnds : List Attempt → Batch → Type 0
LastEnds [] end = ⊥
LastEnds (last ∷ earlier) end = batch_by (end_of_attempt last) ≡ end

-- it was lost, and as many connections before it as may be
abbrev pub LostTooMany : {D : Type 0} → Rules D → Plan → Course D → List Attempt → Type 0
LostTooMany rules plan course [] = ⊥
LostTooMany rules plan course (last ∷ earlier) =
    LastEnds (last ∷ earlier) batch.LinkLost × AreLost rules plan course earlier × (length earlier ≡ plan.retries)

-- Each status of a batch that was told has its cause in what the batch did, and comes there and nowhere else.
pub record HasCause {D : Type 0} (rules : Rules D) (plan : Plan) (course : Course D) (attempts : List Attempt) (left : Client) (one : Status) : Type 0 where
  -- each call is done; each is decided, and one isn't done
  pub done : (one ≡ status.Done) ↔ (are_done (calls_of left) ≡ true)
  pub not_all : (one ≡ status.NotAllDone) ↔ ((is_decided left ≡ true) × (are_done (calls_of left) ≡ false))
  -- more connections were lost than may be
  pub link_lost : (one ≡ status.LinkLost) ↔ LostTooMany rules plan course attempts
  -- the last connection gave as many pieces as one gives, and a call isn't decided
  pub turns_spent : (one ≡ status.TurnsSpent) ↔ LastEnds attempts batch.TurnsSpent
  -- the last connection ended as there may be no further numbers for what the client had to send
  pub numbers_spent : (one ≡ status.NumbersSpent) ↔ LastEnds attempts batch.Spent

-- Each call is taken, and the batch was run. It ended so; what it did is the trace of the client that was given the calls, and
-- what became of these is told.
pub record RanBatch {N C D : Type 0} (options : CallOptions) (calls : List ScriptCall) (ring : List RingKey) (keys : Keys) (around : Around N C D) (one : Status) (due : List ℕ) : Type 0 where
  pub taken : untaken calls ≡ None
  pub end : Batch
  pub kept : Holder
  pub trace : ClientTrace (rules_under ring around) (plan_of options) (begins keys calls around) end (around.calls around.net) (around.calls around.net_then) (around.given around.clock) (around.given around.clock_then) kept around.draw_then
  -- the client as the batch left it
  pub left : Client
  pub its : left ≡ (after_all (rules_under ring around) (plan_of options) (begins keys calls around) trace.attempts).client
  pub told : TellsBatch end (calls_of left) one due
  pub cause : HasCause (rules_under ring around) (plan_of options) (begins keys calls around) trace.attempts left one
  -- with no call it connects to nothing, and nothing is told
  pub no_call : calls ≡ [] → (one ≡ status.Done) × (due ≡ []) × IsOffline around

-- Each call is taken, and memory ran out in the batch, or behind it, before what became of the calls was told. It ended so, and
-- what it did is the trace of the client that was given the calls.
pub record LeftBatch {N C D : Type 0} (options : CallOptions) (calls : List ScriptCall) (ring : List RingKey) (keys : Keys) (around : Around N C D) : Type 0 where
  pub taken : untaken calls ≡ None
  pub end : Batch
  pub kept : Holder
  pub trace : ClientTrace (rules_under ring around) (plan_of options) (begins keys calls around) end (around.calls around.net) (around.calls around.net_then) (around.given around.clock) (around.given around.clock_then) kept around.draw_then

-- no batch was begun: nothing was connected to, the clock wasn't asked, and the session number alone was drawn, or no word
pub record IsBefore {N C D : Type 0} (around : Around N C D) : Type 0 where
  pub offline : IsOffline around
  pub drawn : (around.draw_then ≡ around.draw) ⊎ (around.draw_then ≡ draw_after around.step 1 around.draw)

-- ---- in the order of the checks

abbrev pub OwesToKeys : {N C D : Type 0} → CallOptions → List ScriptCall → List RingKey → Keys → Around N C D → Status → List ℕ → Type 0
OwesToKeys options calls ring keys around one due = RefusesCall calls around one due ⊎ RanBatch options calls ring keys around one due

abbrev pub no_key_text : List ℕ
no_key_text = codes "no such key\n"

-- the ring hasn't the key, or not the permanent one that it needs
pub record LacksKey {N C D : Type 0} (options : CallOptions) (ring : List RingKey) (around : Around N C D) (one : Status) (due : List ℕ) : Type 0 where
  pub none : keys_for ring options.key options.perm ≡ None
  pub idle : IsIdle around
  pub said : one ≡ status.KeysRefused
  pub told : due ≡ no_key_text

abbrev pub OwesToRing : {N C D : Type 0} → CallOptions → List ScriptCall → List RingKey → Around N C D → Status → List ℕ → Type 0
OwesToRing options calls ring around one due =
    LacksKey options ring around one due
    ⊎ ((keys : Keys) × (keys_for ring options.key options.perm ≡ Some keys) × OwesToKeys options calls ring keys around one due)

-- a line of the key file is refused
pub record RefusesKeyFile {N C D : Type 0} (text : List ℕ) (around : Around N C D) (one : Status) (due : List ℕ) : Type 0 where
  pub line : ℕ
  pub fault : IsRefusedAt text line
  pub idle : IsIdle around
  pub said : one ≡ status.KeysRefused
  pub told : due ≡ refused_at line

abbrev pub OwesToKeyFile : {N C D : Type 0} → CallOptions → List ScriptCall → List ℕ → Around N C D → Status → List ℕ → Type 0
OwesToKeyFile options calls text around one due =
    RefusesKeyFile text around one due ⊎ ((ring : List RingKey) × IsRingOf text ring × OwesToRing options calls ring around one due)

-- the key file can't be read
pub record ReadsNoKeys {F N C D : Type 0} (options : CallOptions) (files : Files F) (around : Around N C D) (one : Status) (due : List ℕ) : Type 0 where
  pub asked : AskedFor options.keys files
  pub fault : FileFault files
  pub idle : IsIdle around
  pub said : one ≡ status.KeysRefused
  pub told : due ≡ not_read

abbrev pub OwesToScript : {F N C D : Type 0} → CallOptions → List ScriptCall → Files F → Around N C D → Status → List ℕ → Type 0
OwesToScript options calls files around one due =
    ReadsNoKeys options files around one due
    ⊎ ((text : List ℕ) × Gave options.keys files text × OwesToKeyFile options calls text around one due)

-- a line of the input is outside the grammar, and this is the first one; nothing else was touched
pub record RefusesLine {F N C D : Type 0} (text : List ℕ) (files : Files F) (around : Around N C D) (one : Status) (due : List ℕ) : Type 0 where
  pub line : ℕ
  pub bad : HasBadLine text line
  pub unasked : files.after ≡ files.before
  pub idle : IsIdle around
  pub said : one ≡ status.InputRefused
  pub told : due ≡ bad_line line

abbrev pub OwesToText : {F N C D : Type 0} → CallOptions → List ℕ → Files F → Around N C D → Status → List ℕ → Type 0
OwesToText options text files around one due =
    RefusesLine text files around one due ⊎ ((calls : List ScriptCall) × Spells text calls × OwesToScript options calls files around one due)

-- the input has more bytes than a script may have; nothing else was touched
pub record RefusesInput {S F N C D : Type 0} (input : Outside S) (files : Files F) (around : Around N C D) (one : Status) (due : List ℕ) : Type 0 where
  pub long : IfTold input (λ text. input_bytes_max < length text)
  pub unasked : files.after ≡ files.before
  pub idle : IsIdle around
  pub said : one ≡ status.InputRefused
  pub told : due ≡ too_long

-- this was read of the input, up to its end
pub record IsRead {S : Type 0} (input : Outside S) (text : List ℕ) : Type 0 where
  pub whole : IfTold input (λ left. text ≡ left)
  pub to_the_end : IsReadToTheEnd input
  pub short : length text ≤ input_bytes_max

abbrev pub Owes : {S F N C D : Type 0} → CallOptions → Outside S → Files F → Around N C D → Status → List ℕ → Type 0
Owes options input files around one due =
    RefusesInput input files around one due ⊎ ((text : List ℕ) × IsRead input text × OwesToText options text files around one due)

-- ---- where memory runs out

-- the key file is that of a ring with the keys, and a batch under these was left
pub record LeftUnderFile {F N C D : Type 0} (options : CallOptions) (calls : List ScriptCall) (files : Files F) (around : Around N C D) : Type 0 where
  pub text : List ℕ
  pub gave : Gave options.keys files text
  pub ring : List RingKey
  pub its : IsRingOf text ring
  pub keys : Keys
  pub found : keys_for ring options.key options.perm ≡ Some keys
  pub left : LeftBatch options calls ring keys around

-- the input is a script, and a batch of its calls was left
pub record LeavesBatch {S F N C D : Type 0} (options : CallOptions) (input : Outside S) (files : Files F) (around : Around N C D) : Type 0 where
  pub text : List ℕ
  pub read : IsRead input text
  pub calls : List ScriptCall
  pub spelt : Spells text calls
  pub left : LeftUnderFile options calls files around

-- no batch was begun, or one was left
abbrev pub RunsOut : {S F N C D : Type 0} → CallOptions → Outside S → Files F → Around N C D → Type 0
RunsOut options input files around = IsBefore around ⊎ LeavesBatch options input files around
