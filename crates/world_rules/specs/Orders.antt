-- Schedules of calls one after the other, of answers that are dropped, and of a temporary key, in a setting whose service
-- refuses what isn't a request to add, and whose temporary key is good for two hours.
use Rattle.std.specs.Prelude.{ℕ, nat_le, nat_lt, ◌==◌, ◌&&◌, if◌then◌else◌, Option, Some, None, codes, List, [], ◌∷◌, ◌++◌, length}
use Rattle.envelope.specs.declared.parts.Dir.{Dir}
use Rattle.envelope.specs.declared.parts.Envelope.{Envelope}
use Rattle.regs_service.specs.Replies.{error_reply}
use Rattle.sched_text.specs.declared.event.Event.{Event}
use Rattle.sched_text.specs.declared.event.Event.TheVariants as line
use Rattle.server_rules.specs.Server.{Binding, Name}
use Rattle.server_rules.specs.Event.{BindingCall}
use Rattle.world_rules.specs.Setting.{Setting}
use Rattle.world_rules.specs.World.{World}
use Rattle.world_rules.specs.Refusals.{Refusal, refusal}
use Rattle.world_rules.specs.Run.{run_of}
use Rattle.world_rules.specs.Report.{report}
use Rattle.world_rules.specs.Witness.{add_x, adds, gives, one_after_another, setting as plain_setting, taken_up}

-- ---- the setting

abbrev pub adds_alone : ℕ → List ℕ → List ℕ × ℕ
adds_alone sum request = if nat_lt (length request) 16 then (error_reply (codes "BAD_REQUEST"), sum) else adds sum request

-- an envelope under the temporary key opens until that expires
abbrev pub while_good : ℕ → Option Envelope → Option Envelope
while_good now None = None
while_good now (Some envelope) = if (envelope.key == 2) && nat_le 7200 now then None else Some envelope

abbrev pub taken_in_time : ℕ → Dir → List ℕ → Option Envelope
taken_in_time now dir bytes = while_good now (taken_up now dir bytes)

-- each binding call binds its key
abbrev pub binds_all : ℕ → Name → BindingCall → Option Binding
binds_all now name call = Some (record { temp = name.key; perm = call.perm; expires = call.expires })

abbrev pub setting : Setting ℕ ℕ
setting = record plain_setting { serve = adds_alone; opens = taken_in_time; bound_by = binds_all }

abbrev pub after : List Event → World ℕ ℕ
after events = run_of setting 0 events

-- what is told of the world after these events, why a further one is refused, and how many packets there are
abbrev pub told : List Event → List ℕ
told events = report (after events)

abbrev pub refused : List Event → Event → Option Refusal
refused events event = refusal setting (after events) event

abbrev pub packets_of : List Event → ℕ
packets_of events = length (after events).bag

-- ---- one after the other

-- two calls, of which the second waits for the first, and both results
abbrev pub both : List Event
both = one_after_another ++ line.Work 1 ∷ line.Work 1 ∷ gives (5 ∷ 6 ∷ [])

-- the first is no request, and is refused when it runs: the second never runs
abbrev pub first_is_refused : List Event
first_is_refused =
    line.Client ∷ line.Call 1 (0 ∷ 0 ∷ 0 ∷ 0 ∷ []) None ∷ line.Call 1 (add_x 7) (Some 1) ∷ line.Flush 1 ∷ line.Give 1
    ∷ line.Give 2 ∷ line.Flush 1 ∷ line.Give 3 ∷ line.Work 1 ∷ line.Give 5 ∷ []

-- the second has waited for 30 seconds before the first runs
abbrev pub second_waits_too_long : List Event
second_waits_too_long =
    one_after_another ++ line.ClockServer 30 ∷ line.TickServer ∷ line.Give 5 ∷ line.Work 1 ∷ line.Give 6 ∷ []

-- ---- dropped answers

-- the answer to a call that is sent is dropped before the call runs
abbrev pub dropped : List Event
dropped =
    line.Client ∷ line.Call 1 (add_x 5) None ∷ line.Flush 1 ∷ line.Give 1 ∷ line.Give 2 ∷ line.Flush 1 ∷ line.Give 3
    ∷ line.DropAnswer 1 1 ∷ line.Flush 1 ∷ gives (5 ∷ 6 ∷ [])

-- another call waits for it
abbrev pub dropped_first : List Event
dropped_first = one_after_another ++ line.DropAnswer 1 1 ∷ line.Flush 1 ∷ gives (5 ∷ 6 ∷ [])

-- ---- a temporary key

-- it is bound in the packet that acknowledges the session, and the call goes when that is answered
abbrev pub bound_first : List Event
bound_first =
    line.ClientTemp ∷ line.Call 1 (add_x 5) None ∷ line.Flush 1 ∷ line.Give 1 ∷ line.Give 2 ∷ line.Flush 1
    ∷ gives (3 ∷ 4 ∷ []) ++ line.Flush 1 ∷ line.Give 5 ∷ line.Work 1 ∷ line.Give 7 ∷ []

-- a first packet comes at this moment
abbrev pub begun_at : ℕ → List Event
begun_at moment = line.ClientTemp ∷ line.ClockAll moment ∷ line.Call 1 (add_x 5) None ∷ line.Flush 1 ∷ line.Give 1 ∷ []
