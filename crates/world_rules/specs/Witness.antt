-- Schedules that show what the definitions give, in a setting of their own: words drawn one after the other, packets
-- without a cipher, and a service that adds.
use Rattle.std.specs.Prelude.{ℕ, zero, suc, ◌+◌, ◌==◌, Bool, true, false, if◌then◌else◌, Option, Some, None, codes, List, [], ◌∷◌, ◌++◌, length, map, replicate, slice_get, unwrap_or}
use Rattle.draws.specs.Steps.{step_word}
use Rattle.envelope.specs.declared.parts.Dir.{Dir}
use Rattle.envelope.specs.declared.parts.Dir.TheVariants.{Up, Down}
use Rattle.envelope.specs.declared.parts.Envelope.{Envelope}
use Rattle.regs_service.specs.Replies.{value_reply}
use Rattle.sched_text.specs.declared.event.Event.{Event}
use Rattle.sched_text.specs.declared.event.Event.TheVariants as line
use Rattle.client_rules.specs.Client.{calls_of}
use Rattle.call_table.specs.Table.{State}
use Rattle.world_rules.specs.Setting.{Setting}
use Rattle.world_rules.specs.World.{World, begins}
use Rattle.world_rules.specs.Refusals.{Refusal, refusal}
use Rattle.world_rules.specs.Run.{run_of, run_from}
use Rattle.world_rules.specs.Report.{report, all_calls, count_of, is_done}
use Rattle.world_rules.specs.Load.{load}

-- ---- the setting

-- words that are drawn one after the other
abbrev pub drawn : ℕ → ℕ × ℕ
drawn place = (step_word (place + 1), place + 1)

-- a packet has its way in front, and the fields of its envelope one by one
abbrev pub way : Dir → ℕ
way Up = 0
way Down = 1

abbrev pub laid_out : Dir → Envelope → List ℕ → List ℕ
laid_out dir envelope padding =
    way dir ∷ envelope.key ∷ envelope.salt ∷ envelope.session ∷ envelope.number ∷ envelope.seq ∷ envelope.body

abbrev pub fields : List ℕ → Option Envelope
fields (key ∷ salt ∷ session ∷ number ∷ seq ∷ body) =
    Some (record { key = key; salt = salt; session = session; number = number; seq = seq; body = body })
fields _ = None

abbrev pub taken_up : ℕ → Dir → List ℕ → Option Envelope
taken_up now dir [] = None
taken_up now dir (first ∷ rest) = if first == way dir then fields rest else None

-- the request that adds this amount to the register `x`
abbrev pub add_x : ℕ → List ℕ
add_x amount = 1 ∷ 44 ∷ 27 ∷ 10 ∷ 1 ∷ 120 ∷ 0 ∷ 0 ∷ amount ∷ 0 ∷ 0 ∷ 0 ∷ 0 ∷ 0 ∷ 0 ∷ 0 ∷ []

abbrev pub adds : ℕ → List ℕ → List ℕ × ℕ
adds sum request =
    let next = sum + unwrap_or (slice_get request 8) 0 in (value_reply next, next)

abbrev pub setting : Setting ℕ ℕ
setting =
    record {
      step = drawn;
      sealed = laid_out;
      opens = taken_up;
      keys = record { permanent = 1; temporary = 2; expires = 7200 };
      is_temporary = λ key. key == 2;
      binding_message = λ perm random number inner padding. 6 ∷ [];
      bound_by = λ now name call. None;
      serve = adds;
      fresh = 0;
    }

abbrev pub after : List Event → World ℕ ℕ
after events = run_of setting 0 events

-- what is told of the world after these events
abbrev pub told : List Event → List ℕ
told events = report (after events)

-- why the last event is refused
abbrev pub refused : List Event → Event → Option Refusal
refused events event = refusal setting (after events) event

-- packets come one after the other
abbrev pub gives : List ℕ → List Event
gives packets = map (λ packet. line.Give packet) packets

-- ---- a call is sent, refused for its salt, sent again, runs, and is answered

abbrev pub first_run : List Event
first_run =
    line.Client ∷ line.Call 1 (add_x 5) None ∷ line.Flush 1 ∷ line.Give 1 ∷ line.Give 2 ∷ line.Flush 1 ∷ line.Give 3
    ∷ line.Work 1 ∷ line.Give 4 ∷ line.Give 5 ∷ []

-- everything comes more than once, and late
abbrev pub repeats : List Event
repeats =
    line.Client ∷ line.Call 1 (add_x 5) None ∷ line.Flush 1
    ∷ gives (1 ∷ 1 ∷ 1 ∷ 4 ∷ 3 ∷ 2 ∷ []) ++ line.Flush 1 ∷ gives (5 ∷ 5 ∷ 5 ∷ []) ++ line.Work 1 ∷ gives (7 ∷ 7 ∷ 6 ∷ [])

-- the result is lost, and the server starts again
abbrev pub result_lost : List Event
result_lost =
    line.Client ∷ line.Call 1 (add_x 5) None ∷ line.Flush 1 ∷ line.Give 1 ∷ line.Give 2 ∷ line.Flush 1 ∷ line.Give 3
    ∷ line.Work 1 ∷ line.Restart ∷ gives (3 ∷ 6 ∷ 5 ∷ [])

-- the server starts again before the call arrives
abbrev pub restarted : List Event
restarted =
    line.Client ∷ line.Call 1 (add_x 5) None ∷ line.Flush 1 ∷ line.Give 1 ∷ line.Give 2 ∷ line.Flush 1 ∷ line.Restart
    ∷ gives (3 ∷ 4 ∷ [])

-- a notice of the session before a restart comes after one of the session behind it
abbrev pub late_notice : List Event
late_notice =
    line.Client ∷ line.Call 1 (add_x 5) None ∷ line.Flush 1 ∷ line.Give 1 ∷ line.Restart ∷ line.Give 1 ∷ line.Give 3
    ∷ line.Flush 1 ∷ line.Give 2 ∷ line.Call 1 (add_x 7) None ∷ line.Flush 1 ∷ line.Give 5 ∷ line.Give 6 ∷ line.Flush 1
    ∷ line.Give 7 ∷ line.Work 1 ∷ line.Give 9 ∷ []

-- a number is too high, and would fit later
abbrev pub too_high : List Event
too_high =
    line.Client ∷ line.ClockClient 1 31 ∷ line.Call 1 (add_x 5) None ∷ line.Flush 1 ∷ line.Give 1 ∷ line.ClockServer 40
    ∷ line.Give 1 ∷ []

-- the client's clock is an hour behind
abbrev pub behind : List Event
behind =
    line.Client ∷ line.ClockServer 3600 ∷ line.Call 1 (add_x 5) None ∷ line.Flush 1 ∷ line.Give 1 ∷ line.Give 2 ∷ line.Flush 1
    ∷ line.Give 3 ∷ line.Work 1 ∷ line.Give 5 ∷ []

-- it is an hour ahead: the call is held, and goes in another session
abbrev pub held : List Event
held =
    line.Client ∷ line.ClockClient 1 3600 ∷ line.Call 1 (add_x 5) None ∷ line.Flush 1 ∷ line.Give 1 ∷ line.Give 2 ∷ line.Flush 1
    ∷ gives (3 ∷ 4 ∷ []) ++ line.Flush 1 ∷ gives (5 ∷ 6 ∷ [])

abbrev pub ahead : List Event
ahead =
    held ++ line.Renew 1 ∷ line.Flush 1 ∷ gives (7 ∷ 8 ∷ []) ++ line.Flush 1 ∷ line.Give 9 ∷ line.Work 1 ∷ line.Give 11 ∷ []

-- ---- other schedules

-- a packed body is answered in place
abbrev pub packed : List Event
packed =
    line.Client ∷ line.Call 1 (161 ∷ 207 ∷ 114 ∷ 48 ∷ 0 ∷ 0 ∷ 0 ∷ 0 ∷ []) None ∷ line.Flush 1 ∷ line.Give 1 ∷ line.Give 2
    ∷ line.Flush 1 ∷ gives (3 ∷ 4 ∷ [])

-- a client that ends, with a call sent and one queued
abbrev pub ends : List Event
ends =
    line.Client ∷ line.Call 1 (add_x 5) None ∷ line.Flush 1 ∷ line.Give 1 ∷ line.Give 2 ∷ line.Flush 1
    ∷ line.Call 1 (add_x 7) None ∷ line.End 1 ∷ []

-- bytes that nobody sent
abbrev pub foreign : List Event
foreign = line.ForeignServer [] ∷ line.ForeignServer (replicate 4 0) ∷ line.ForeignServer (9 ∷ replicate 23 0) ∷ []

-- an open client whose call is queued
abbrev pub opened_queued : List Event
opened_queued = line.Client ∷ line.Call 1 (add_x 5) None ∷ line.Flush 1 ∷ line.Give 1 ∷ line.Give 2 ∷ []

-- the large schedule of so many calls: how many are done, and how many packets there are
abbrev pub loaded : ℕ → ℕ × ℕ
loaded calls =
    let world = load setting 0 calls in (count_of is_done (all_calls world), length world.bag)

-- a client alone
abbrev pub joined : List Event
joined = line.Client ∷ []

-- two calls, the second after the first
abbrev pub one_after_another : List Event
one_after_another =
    line.Client ∷ line.Call 1 (add_x 5) None ∷ line.Call 1 (add_x 7) (Some 1) ∷ line.Flush 1 ∷ line.Give 1 ∷ line.Give 2
    ∷ line.Flush 1 ∷ line.Give 3 ∷ []

-- jobs run one after the other
abbrev pub works_twice : List Event
works_twice = one_after_another ++ line.Work 1 ∷ line.Work 1 ∷ []
