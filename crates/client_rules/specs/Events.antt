-- The events of a client, one after the other.
use Rattle.std.specs.Prelude.{ℕ, if◌then◌else◌, is_none, Option, Some, None, List, [], ◌∷◌, ◌++◌, fold}
use Rattle.draws.specs.Draws.{draw_after, word_after}
use Rattle.msg_ids.specs.Counters.{none_given}
use Rattle.envelope.specs.declared.parts.Envelope.{Envelope}
use Rattle.call_table.specs.declared.call.CallNo.{CallNo}
use Rattle.call_table.specs.declared.call.Fate.{Fate}
use Rattle.call_table.specs.declared.call.Fate.TheVariants as fate
use Rattle.call_table.specs.declared.call.Cause.TheVariants as cause
use Rattle.call_table.specs.Table.{State}
use Rattle.call_table.specs.Table as table
use Rattle.client_rules.specs.Client.{Client, Temporary, Needed, at_moment, fresh_client, nothing_waits, with_binding}
use Rattle.client_rules.specs.Sending.{Setting}
use Rattle.client_rules.specs.Asking.{submit_fault, submitted, attached, ticked, pinged, salts_asked, dropped}
use Rattle.client_rules.specs.Flush.{Flushed, flush}
use Rattle.client_rules.specs.Learning.{each_becomes, ended}
use Rattle.client_rules.specs.Taking.{take}

-- a client with what is drawn after it
pub record Run (S : Type 0) : Type 0 where
  pub client : Client
  pub draw : S

-- a client is made in a session whose number is drawn
abbrev pub made : {S : Type 0} → Setting S → ℕ → Option Temporary → S → Run S
made setting key temporary draw =
    record {
      client = fresh_client key temporary (word_after setting.step 0 draw);
      draw = draw_after setting.step 1 draw;
    }

-- ---- another session

-- of calls that are sent it isn't known what became; those that waited for another session are queued
abbrev pub fate_renewed : State → Option Fate
fate_renewed table.Sent = Some (fate.Unknown cause.Renewed)
fate_renewed table.Held = Some fate.Queue
fate_renewed _ = None

-- The client goes on in the session of this number: nothing of the former one is kept but its clock and its calls, and
-- nothing waits but to destroy it.
abbrev pub renewed : ℕ → Client → Client
renewed session client =
    let settled = with_binding Needed (each_becomes (λ call. fate_renewed call.state) client) in
    record settled {
      session = session;
      former = client.former ++ client.session ∷ [];
      salt = 0;
      learnt = [];
      counters = none_given;
      waiting = record nothing_waits { destroyed = Some client.session };
      asked = None;
      table = record settled.table { acks = []; packets = [] };
    }

-- ---- all events

-- what a client is called with; a packet counts by the envelope that it opens to under the client's key
pub data Event : Type 0 where
  Submit : List ℕ → Option CallNo → Event
  Attach : Event
  Tick : Event
  Ping : ℕ → Event
  AskSalts : ℕ → Event
  Drop : CallNo → Event
  Flush : ℕ → Event
  Take : ℕ → Option Envelope → Event
  Renew : Event
  End : Event

-- a packet that doesn't open counts by its moment alone
abbrev pub takes : ℕ → Option Envelope → Client → Client
takes now None client = at_moment now client
takes now (Some envelope) client = take now envelope client

abbrev pub unless_fault : List ℕ → Option CallNo → Client → Client
unless_fault body after client = if is_none (submit_fault body after client) then submitted body after client else client

abbrev pub with_client : {S : Type 0} → (Client → Client) → Run S → Run S
with_client change run = record run { client = change run.client }

abbrev pub flushed : {S : Type 0} → Flushed S → Run S
flushed done = record { client = done.client; draw = done.draw }

abbrev pub renews : {S : Type 0} → Setting S → Run S → Run S
renews setting run =
    record {
      client = renewed (word_after setting.step 0 run.draw) run.client;
      draw = draw_after setting.step 1 run.draw;
    }

abbrev pub step : {S : Type 0} → Setting S → Run S → Event → Run S
step setting run (Submit body after) = with_client (unless_fault body after) run
step setting run Attach = with_client attached run
step setting run Tick = with_client ticked run
step setting run (Ping id) = with_client (pinged id) run
step setting run (AskSalts count) = with_client (salts_asked count) run
step setting run (Drop call) = with_client (dropped call) run
step setting run (Flush now) = flushed (flush setting now run.client run.draw)
step setting run (Take now opened) = with_client (takes now opened) run
step setting run Renew = renews setting run
step setting run End = with_client ended run

-- the client after a list of events; ticks, pings, salts, drops, renewals and the end are events of an open client
abbrev pub run_of : {S : Type 0} → Setting S → Run S → List Event → Run S
run_of setting run events = fold (step setting) run events
