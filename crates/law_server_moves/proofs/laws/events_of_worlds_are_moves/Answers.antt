use Rattle.std.proofs.Common.{◌≡◌, ◌≢◌, ℕ, Option, None, Some, true, List, [], ◌++◌, filter, map, refl, sym, ap, subst, ◌∙◌}
use Rattle.std.specs.List.{All, AllByRecursion, flat_map}
use Rattle.service_tl.specs.declared.lists.Message.{Message}
use Rattle.packing.specs.Packing.{groups}
use Rattle.waits.specs.declared.job.Job.{Job}
use Rattle.waits.specs.Jobs.{ready_job, without_session as without_jobs_of}
use Rattle.server_rules.specs.Server.{Name, Session, is_named, name_of, session_named, with_session, without_session}
use Rattle.server_rules.specs.Event.{Setting, State, speaker_in, speaks, spoken_by}
use Rattle.server_rules.specs.Events.{Attach, Loss, Restart, Tick, setting_at, worked}
use Rattle.server_rules.specs.Answer.{after_run, attaches, begun, runs, ticks}
use Rattle.server_rules.specs.Sending.{all_sent}
use Rattle.law_server.specs.Order.{AreOrdered}
use Rattle.world_rules.specs.World as rules
use Rattle.world_rules.specs.World.{has_named, lives, lost_in}
use Rattle.world_rules.specs.Setting as settings
use Rattle.world_rules.specs.Setting.{at_server}
use Rattle.world_rules.specs.Ends.{course_in, said_by_work, sent_down, serves}
use Rattle.world_rules.specs.Premises.{Fresh, sessions_drawn}
use Rattle.salt_line.specs.Line.{Line}
use Rattle.law_moves.specs.World.{World}
use Rattle.law_moves.specs.Reached.{Reached}
use Rattle.law_server_moves.specs.Leading.{Leads}
use Rattle.law_server_moves.specs.Servers.{ServerStands, with_lost}
use Rattle.law_server_moves.specs.Speaking.{IsWithin}
use Rattle.law_server_moves.specs.Worlds.{HasServed, StandsIn, past_in}
use Rattle.law_server_moves.proofs.Leading.{GoOn as MovesGoOn, leads_so}
use Rattle.law_server_moves.proofs.Losing.{loses, loses_all}
use Rattle.law_server_moves.proofs.Speech.{Adds, adds_of}
use Rattle.law_server_moves.proofs.Speaking.{AnySaid}
use Rattle.law_server_moves.proofs.Jobs.{FinishesAlone, GivesUpAlone}
use Rattle.law_server_moves.proofs.WorksEnd.{SaysNew, attach_ends, idle_ends, run_ends, tick_ends}
use Rattle.law_server_moves.proofs.Found.{found_in}
use Rattle.law_server_moves.proofs.Events.{name_is}
use Rattle.law_server_moves.proofs.Chosen.{within_between}
use Rattle.law_server_moves.proofs.Gone.{has_run, has_spoken, has_ticked, none_are_lost, nothing_lost, only_put}
use Rattle.law_server_moves.proofs.Whole.{loss_of, lost_quietly, restart_of}
use Rattle.law_server_moves.proofs.Growth.{AllFrom, all_itself, all_sent_from, attaches_grows, runs_from, speaks_from, ticks_from}
use Rattle.law_server_moves.proofs.Fresh.{AreDistinct, IsBlank, distinct_back, distinct_of, drawn_for, some_back}
use Rattle.law_server_bounds.specs.Small.{AreGivenTo, AreSmall, DrawsWords, GivesReplies, IsSmallState}
use Rattle.law_server_moves.specs.Events.{with_lines}
use Rattle.law_server_moves.specs.Sending.{IsFit}
use Rattle.law_server_moves.proofs.Lists.{all_of}
use Rattle.law_server_moves.proofs.Fitting.{fits_last}
use Rattle.law_server_moves.proofs.Chosen.{line_by}
use Rattle.law_server_moves.proofs.Served.{Stands, apart, leads_on, lines, lines_are, more, named_said}
use Rattle.law_server_moves.proofs.laws.events_of_worlds_are_moves.Goals as goal

module _ (g : Rattle.law_server_moves.proofs.laws.events_of_worlds_are_moves.Given.Over) (c : goal.After-new_sessions_say_so g) where
  abbrev S : Type 0
  S = g.row.D.Denot

  adds : Adds
  adds = adds_of c.moves_only_add.ensures

  on : MovesGoOn
  on = record { reached = c.moves_go_on.ensures.reached; lawful = c.moves_go_on.ensures.lawful; after = c.moves_go_on.ensures.after }

  any : AnySaid
  any = record { result = c.numbers_are_given_once.ensures.any_result; notice = c.numbers_are_given_once.ensures.any_notice }

  blank : IsBlank
  blank = λ w unique reached unmade. c.what_was_not_made_is_blank.ensures.servers w unique reached unmade

  whole : (messages : List Message) → flat_map (λ group. group) (groups messages) ≡ messages
  whole = λ messages. c.packets_have_all_messages.ensures.all messages

  alone : GivesUpAlone S
  alone = λ setting speaker content job. c.sessions_speak_for_themselves.ensures.gives_up setting speaker content job

  finishing : FinishesAlone S
  finishing = λ setting speaker job reply. c.sessions_speak_for_themselves.ensures.finishes setting speaker job reply

  says_new : SaysNew S
  says_new = λ setting speaker jobs order not_so. c.new_sessions_say_so.ensures.attach setting speaker jobs order not_so

-- the words of the sessions of a world
some_of : {S V : Type 0} (world : rules.World S V) → Fresh world → All (λ word. word ≢ 0) (drawn_for (lives world))
some_of world fresh = some_back (flat_map sessions_drawn world.seats) (drawn_for (lives world)) fresh.some

apart_of : {S V : Type 0} (world : rules.World S V) → Fresh world → AreDistinct (drawn_for (lives world))
apart_of world fresh =
    distinct_back (flat_map sessions_drawn world.seats) (drawn_for (lives world)) (distinct_of (flat_map sessions_drawn world.seats ++ drawn_for (lives world)) fresh.apart)

-- ---- runs, ticks and connections

module _ (g : Rattle.law_server_moves.proofs.laws.events_of_worlds_are_moves.Given.Over) (c : goal.After-new_sessions_say_so g) where
  abbrev D : Type 0
  D = g.row.D.Denot

  abbrev V : Type 0
  V = g.row.V.Denot

  module _ (w : World) (setting : settings.Setting D V) (world : rules.World D V) (moment : ℕ) (reached : Reached w) (s : StandsIn w world) (order : AreOrdered world.server.sessions world.server.jobs)
      (draws : DrawsWords (at_server setting)) (kept : AreSmall world.server.sessions world.server.jobs) where
    abbrev now : Setting D
    now = setting_at (at_server setting) moment world.server

    abbrev first : State D
    first = begun world.server world.draw

    abbrev from : List Session
    from = world.server.sessions

    fit_last : (done : State D) → IsSmallState done → done.sent ≡ []
        → AllByRecursion IsFit (with_lines (λ name. line_by (session_named name (all_sent now done).sessions) (session_named name from)) done.sessions)
    fit_last done small none = fits_last now done (λ name. session_named name from) small (c.packets_are_whole.ensures.sent now done draws small none).0

    tick_so : Fresh (serves setting (Tick moment) world) → Leads w (λ later. HasServed later world (serves setting (Tick moment) world))
    tick_so fresh =
        let done : State D = ticks now first in
        let comes : AllFrom from (all_sent now done).sessions = all_sent_from now from done (ticks_from now from (alone g c) first (all_itself from)) in
        let names : (n : Name) → has_named n done.sessions ≡ has_named n from = λ n. has_ticked now n first in
        let some = some_of (serves setting (Tick moment) world) fresh in
        let distinct = apart_of (serves setting (Tick moment) world) fresh in
        let l = leads_on (blank g c) now w world done reached s comes names some distinct
        (tick_ends (adds g c) c.moves_only_add.ensures (on g c) (any g c) (whole g c) now w (past_in world) (lines (blank g c) now w world done reached s comes names) (more (blank g c) now w world done reached s comes names)
        world.server world.draw reached s order (lines_are (blank g c) now w world done reached s comes names some distinct) (alone g c)
        (fit_last done (c.what_is_owed_is_small.ensures.tick now world.server world.draw draws kept))) in
        leads_so w (Stands (blank g c) now w world done reached s comes names some distinct) (λ later. HasServed later world (serves setting (Tick moment) world))
        (λ later k. record { stands = k.0; packets = _; bag = refl; down = k.1 }) l

    -- a job that is ready, or none
    abbrev served_by : ℕ → Option Job → rules.World D V
    served_by place found =
        let done = worked (course_in world) (after_run now place found setting.serve world.service world.server world.draw) in
        record world {
          server = done.server;
          service = done.service;
          lost = world.lost ++ lost_in from (said_by_work now place found setting.serve (course_in world)) done.server.sessions;
          draw = done.draw;
          entries = world.entries ++ map (λ entry. record { start = world.start; entry = entry }) done.entries;
          bag = world.bag ++ map sent_down done.packets;
        }

    work_by : GivesReplies setting.serve → (place : ℕ) (found : Option Job) → ready_job place world.server.jobs ≡ found → Fresh (served_by place found) → Leads w (λ later. HasServed later world (served_by place found))
    work_by gives place None is fresh =
        let comes : AllFrom from (all_sent now first).sessions = all_sent_from now from first (all_itself from) in
        let names : (n : Name) → has_named n first.sessions ≡ has_named n from = λ n. refl in
        let some = some_of (served_by place None) fresh in
        let distinct = apart_of (served_by place None) fresh in
        let l = leads_on (blank g c) now w world first reached s comes names some distinct
        (idle_ends (adds g c) c.moves_only_add.ensures (on g c) (any g c) (whole g c) now w (past_in world) (lines (blank g c) now w world first reached s comes names) (more (blank g c) now w world first reached s comes names)
        world.server world.draw reached s order (lines_are (blank g c) now w world first reached s comes names some distinct)
        (fit_last first (record { kept = kept; owed = tt; given = all_of (AreGivenTo []) from (λ o there. tt) }))) in
        leads_so w (Stands (blank g c) now w world first reached s comes names some distinct) (λ later. HasServed later world (served_by place None))
        (λ later k. record { stands = k.0; packets = _; bag = refl; down = k.1 }) l
    work_by gives place (Some job) is fresh =
        let reply : List ℕ = (setting.serve world.service job.request).0 in
        let done : State D = runs now place job reply first in
        let comes : AllFrom from (all_sent now done).sessions = all_sent_from now from done (runs_from now from (alone g c) (finishing g c) place job reply first (all_itself from)) in
        let names : (n : Name) → has_named n done.sessions ≡ has_named n from = λ n. has_run now place job reply n first in
        let some = some_of (served_by place (Some job)) fresh in
        let distinct = apart_of (served_by place (Some job)) fresh in
        let l = leads_on (blank g c) now w world done reached s comes names some distinct
        (run_ends (adds g c) c.moves_only_add.ensures (on g c) (any g c) (whole g c) now w (past_in world) (lines (blank g c) now w world done reached s comes names) (more (blank g c) now w world done reached s comes names)
        world.server world.draw reached s order (lines_are (blank g c) now w world done reached s comes names some distinct) (alone g c) (finishing g c) place job reply is
        (fit_last done (c.what_is_owed_is_small.ensures.work now place job reply world.server world.draw draws (gives world.service job.request) is kept))) in
        leads_so w (Stands (blank g c) now w world done reached s comes names some distinct) (λ later. HasServed later world (served_by place (Some job)))
        (λ later k. record { stands = k.0; packets = _; bag = refl; down = k.1 }) l

    -- a connection is opened
    module _ (name : Name) (fresh : Fresh (serves setting (Attach moment name) world)) where
      abbrev done : State D
      done = speaks name (attaches now) first

      comes_done : AllFrom from done.sessions
      comes_done = speaks_from now from name (attaches now) first (λ y is. attaches_grows now from (speaker_in first y)) (all_itself from)

      comes : AllFrom from (all_sent now done).sessions
      comes = all_sent_from now from done comes_done

      names : (n : Name) → has_named n done.sessions ≡ has_named n from
      names n = has_spoken n name (attaches now) first

      abbrev line : Name → Line
      line = lines (blank g c) now w world done reached s comes names

      within : (x : Session) → session_named name from ≡ Some x → IsWithin (line name) (attaches now (speaker_in first x)).session
      within x found =
          let b : Session = (attaches now (speaker_in first x)).session in
          let its : name_of b ≡ name_of x = (attaches_grows now from (speaker_in first x)).name in
          let f = found_in (is_named name) from x found in
          let same : name ≡ name_of b = name_is name x f.1 ∙ sym its in
          let spoken_so : done.sessions ≡ with_session b from = ap (λ (o : Option Session). (spoken_by o (attaches now) first).sessions) found in
          subst (λ (n : Name). IsWithin (line n) b) (sym same)
          (within_between from (all_sent now done).sessions (apart (blank g c) now w world done reached s comes names) comes (with_session b from)
          (subst (λ (l : List Session). AllFrom l (all_sent now done).sessions) spoken_so (all_sent_from now done.sessions done (all_itself done.sessions))) b
          (λ z there is. only_put b from z there is)
          (subst (λ (n : Name). has_named n (all_sent now done).sessions ≡ true) (sym its) (named_said (blank g c) now w world done reached s comes names x f.0)))

      attach_so : Leads w (λ later. HasServed later world (serves setting (Attach moment name) world))
      attach_so =
          let some = some_of (serves setting (Attach moment name) world) fresh in
          let distinct = apart_of (serves setting (Attach moment name) world) fresh in
          let l = leads_on (blank g c) now w world done reached s comes names some distinct
          (attach_ends (adds g c) c.moves_only_add.ensures (on g c) (any g c) (whole g c) now w (past_in world) line (more (blank g c) now w world done reached s comes names)
          world.server world.draw reached s order (lines_are (blank g c) now w world done reached s comes names some distinct) name (says_new g c)
          (λ setting speaker. c.sessions_speak_for_themselves.ensures.attaches setting speaker) within
          (fit_last done (c.what_is_owed_is_small.ensures.attach now name world.server world.draw draws kept))) in
          leads_so w (Stands (blank g c) now w world done reached s comes names some distinct) (λ later. HasServed later world (serves setting (Attach moment name) world))
          (λ later k. record { stands = k.0; packets = _; bag = refl; down = k.1 }) l

pub returns-clause-work : goal.returns-clause-work
returns-clause-work g c = λ w setting world moment place reached s order draws gives kept fresh. work_by g c w setting world moment reached s order draws kept gives place (ready_job place world.server.jobs) refl fresh

pub returns-clause-tick : goal.returns-clause-tick
returns-clause-tick g c = λ w setting world moment reached s order draws kept fresh. tick_so g c w setting world moment reached s order draws kept fresh

pub returns-clause-attach : goal.returns-clause-attach
returns-clause-attach g c = λ w setting world moment name reached s order draws kept fresh. attach_so g c w setting world moment reached s order draws kept name fresh

pub returns-clause-loss : goal.returns-clause-loss
returns-clause-loss g c = λ w setting world name s.
    let before : List Session = world.server.sessions in
    leads_so w (λ later. ServerStands later (with_lost (filter (is_named name) before) (past_in world)) (without_session name before) (without_jobs_of name.key name.session world.server.jobs))
    (λ later. HasServed later world (serves setting (Loss name) world))
    (λ later k. record {
      stands = lost_quietly later (past_in world) before (without_session name before) (filter (is_named name) before) (without_jobs_of name.key name.session world.server.jobs) k (loss_of name before) world.start world.entries refl;
      packets = [];
      bag = refl;
      down = tt;
    })
    (loses w (past_in world) before world.server.jobs name s)

pub returns-clause-restart : goal.returns-clause-restart
returns-clause-restart g c = λ w setting world reached s.
    let before : List Session = world.server.sessions in
    leads_so w (λ later. ServerStands later (with_lost before (past_in world)) [] []) (λ later. HasServed later world (serves setting Restart world))
    (λ later k. record {
      stands = lost_quietly later (past_in world) before [] before [] k (restart_of before) world.start world.entries refl;
      packets = [];
      bag = refl;
      down = tt;
    })
    (loses_all (on g c) w (past_in world) before world.server.jobs reached s)

pub returns-clause-unopened : goal.returns-clause-unopened
returns-clause-unopened g c = λ w setting world moment s.
    let before : List Session = world.server.sessions in
    record {
      stands = lost_quietly w (past_in world) before before [] world.server.jobs (nothing_lost w (past_in world) before world.server.jobs s) (none_are_lost (λ o. o) before) world.start world.entries refl;
      packets = [];
      bag = refl;
      down = tt;
    }
