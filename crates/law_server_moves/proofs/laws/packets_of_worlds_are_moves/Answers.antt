use Rattle.std.proofs.Common.{◌≡◌, ◌≢◌, ℕ, true, false, Option, None, Some, List, [], ◌++◌, map, inl, refl, sym, ap, subst, ◌∙◌, append_assoc, eq-eqb}
use Rattle.std.specs.Prelude.{◌⊎◌}
use Rattle.std.specs.List.{All, AllByRecursion, Contains, flat_map}
use Rattle.std.proofs.lemmas.List.Elements.{recursion_from_All}
use Rattle.draws.specs.Draws.{word_after}
use Rattle.salt_line.specs.Line.{Line}
use Rattle.salt_line.specs.Rows.{Row}
use Rattle.service_tl.specs.declared.lists.Message.{Message}
use Rattle.packing.specs.Packing.{groups}
use Rattle.id_window.specs.History.{History}
use Rattle.inbox.specs.Verdicts.{Judgement}
use Rattle.inbox.specs.Refusals.{InContainer, InEnvelope, Way}
use Rattle.inbox.specs.Judging.{judgements, session_after}
use Rattle.waits.specs.declared.job.Unfinished.{Unfinished}
use Rattle.waits.specs.Jobs.{is_of}
use Rattle.server_rules.specs.Server.{Name, Session, is_named, name_of, remembered, session_named}
use Rattle.server_rules.specs.Event.{Entry, Envelope, Owed, Setting, State, speaker_in, speaks}
use Rattle.server_rules.specs.Events.{Packet as Comes, setting_at}
use Rattle.server_rules.specs.Answer.{begun, hears, message_in, messages_judged, name_in, opens, session_for, takes, takes_by, without_spent}
use Rattle.server_rules.specs.Sending.{all_sent}
use Rattle.law_server.specs.Order.{AreOrdered, IsGoingOn, IsOrderlyAt, jobs_of}
use Rattle.law_server.specs.Going.{none_open, past_in as histories_in}
use Rattle.world_rules.specs.World as rules
use Rattle.world_rules.specs.World.{Entered, has_named, lives, lost_in}
use Rattle.world_rules.specs.Setting as settings
use Rattle.world_rules.specs.Setting.{at_server}
use Rattle.world_rules.specs.Ends.{sent_down, serves}
use Rattle.world_rules.specs.Premises.{Fresh, sessions_drawn}
use Rattle.law_moves.specs.World.{Owns, World}
use Rattle.law_moves.specs.Reached.{Reached, after_all}
use Rattle.law_server_moves.specs.Leading.{Leads}
use Rattle.law_server_moves.specs.Servers.{IsPacketUp, IsUp, Past, ServerStands, with_lost}
use Rattle.law_server_moves.specs.Speaking.{IsOwedThere, IsWithin}
use Rattle.law_server_moves.specs.Events.{AreLost, EventStands, lined, with_lines}
use Rattle.law_server_moves.specs.Sending.{EventEnds}
use Rattle.law_server_moves.specs.Worlds.{HasServed, StandsIn, past_in}
use Rattle.law_server_moves.proofs.Lists.{all_of, each_of, here, map_all}
use Rattle.law_server_moves.proofs.Leading.{GoOn as MovesGoOn, goes_on, leads_so, stays}
use Rattle.law_server_moves.proofs.Speech.{Adds, adds_of}
use Rattle.law_server_moves.proofs.Speaking.{AnySaid}
use Rattle.law_server_moves.proofs.Losing.{append_nothing}
use Rattle.law_server_moves.proofs.Others.{empty_has}
use Rattle.law_server_moves.proofs.Found.{found_in, some_same}
use Rattle.law_server_moves.proofs.Events.{name_is}
use Rattle.law_server_moves.proofs.Jobs.{GivesUpAlone}
use Rattle.law_server_moves.proofs.Named.{IsThere, Speaks}
use Rattle.law_server_moves.proofs.Settling.{Orders, OwesAlone}
use Rattle.law_server_moves.proofs.PacketEnd.{ByName, found_itself}
use Rattle.law_server_moves.proofs.Taking.{Ends, Judges, Opens, done_apart, done_there, packet_goes, takes_on}
use Rattle.law_server_moves.proofs.Ending.{ends_on}
use Rattle.law_server_moves.proofs.WorksEnd.{none_out}
use Rattle.law_server_moves.proofs.Beginning.{draws_each}
use Rattle.law_server_moves.proofs.Hearing.{known_heard, made_heard}
use Rattle.law_server_moves.proofs.Gone.{AreNamedApart, has_none, named_apart, named_among, nothing_lost}
use Rattle.law_server_moves.proofs.Growth.{AllFrom, all_itself, all_sent_from, opens_grows, settles_from, speaks_from}
use Rattle.law_server_moves.proofs.Chosen.{itself_found, line_at, more_at, said_line, within, within_between}
use Rattle.law_server_moves.proofs.Fresh.{AreDistinct, IsBlank, distinct_back, distinct_of, drawn_for, some_back}
use Rattle.law_server_moves.proofs.Whole.{all_down, stands_after}
use Rattle.law_server_moves.proofs.Served.{has_sent, spent_or}
use Rattle.law_server_bounds.specs.Small.{AreSmall, DrawsWords, IsSmallEnvelope, IsSmallState}
use Rattle.law_server_moves.specs.Sending.{IsFit}
use Rattle.law_server_moves.proofs.Fitting.{fits_last}
use Rattle.law_server_moves.proofs.Heard.{AreUnfailed, IsHeard, before_there, is_heard, made_there, none_found, none_kept}
use Rattle.law_server_moves.proofs.Comes.{found_lost, lines_are, new_salt, unique_some, unmade, was_lost}
use Rattle.law_server_moves.proofs.laws.packets_of_worlds_are_moves.Goals as goal

some_of : {S V : Type 0} (world : rules.World S V) → Fresh world → All (λ word. word ≢ 0) (drawn_for (lives world))
some_of world fresh = some_back (flat_map sessions_drawn world.seats) (drawn_for (lives world)) fresh.some

apart_of : {S V : Type 0} (world : rules.World S V) → Fresh world → AreDistinct (drawn_for (lives world))
apart_of world fresh =
    distinct_back (flat_map sessions_drawn world.seats) (drawn_for (lives world)) (distinct_of (flat_map sessions_drawn world.seats ++ drawn_for (lives world)) fresh.apart)

module _ (g : Rattle.law_server_moves.proofs.laws.packets_of_worlds_are_moves.Given.Over) (c : goal.After-new_sessions_owe_little g) where
  abbrev D : Type 0
  D = g.row.D.Denot

  abbrev V : Type 0
  V = g.row.V.Denot

  adds : Adds
  adds = adds_of c.moves_only_add.ensures

  on : MovesGoOn
  on = record { reached = c.moves_go_on.ensures.reached; lawful = c.moves_go_on.ensures.lawful; after = c.moves_go_on.ensures.after }

  any : AnySaid
  any = record { result = c.numbers_are_given_once.ensures.any_result; notice = c.numbers_are_given_once.ensures.any_notice }

  blank : IsBlank
  blank = λ w unique reached unmade. c.what_was_not_made_is_blank.ensures.servers w unique reached unmade

  whole : (messages : List Message) → flat_map (λ group. group) (groups messages) ≡ messages
  whole = λ messages. c.packets_have_all_messages.ensures.all messages

  alone : GivesUpAlone D
  alone = λ setting speaker content job. c.sessions_speak_for_themselves.ensures.gives_up setting speaker content job

  owing : OwesAlone D
  owing = λ setting speaker number seq verdict body. c.sessions_speak_for_themselves.ensures.owes setting speaker number seq verdict body

  said_by : Speaks D
  said_by = record { own = c.sessions_speak.ensures.own; others = c.sessions_speak.ensures.others }

  orders : Orders D
  orders = record {
    row = c.packets_settle_in_order.ensures.row;
    tells = c.packets_settle_in_order.ensures.tells;
    failures = c.packets_settle_in_order.ensures.failures;
    own = c.packets_settle_in_order.ensures.own_open;
  }

  judges : Judges
  judges = record {
    low = λ history. c.others_are_not_above_the_floor.ensures history;
    rises = c.floors_never_fall.ensures.rises;
    lasts = record {
      messages = λ v list lawful. (c.moves_only_add.ensures v list lawful).messages;
      judged = λ v list lawful. (c.moves_only_add.ensures v list lawful).servers.judged;
    };
    marks = λ history replies judgement once is. c.marks_are_of_replies.ensures history replies judgement once is;
  }

  opening : Opens D
  opening = record { opens = c.packets_settle_in_order.ensures.opens; own_past = c.packets_settle_in_order.ensures.own_past; told = c.packets_are_judged.ensures.told }

  by_names : ByName D
  by_names = record { own = c.messages_are_owed_by_name.ensures.own; others = c.messages_are_owed_by_name.ensures.others }

  module _ (w : World) (setting : settings.Setting D V) (world : rules.World D V) (moment : ℕ) (e : Envelope) (reached : Reached w) (s : StandsIn w world) (order : AreOrdered world.server.sessions world.server.jobs)
      (draws : DrawsWords (at_server setting)) (fits : IsSmallEnvelope e) (kept : AreSmall world.server.sessions world.server.jobs) (fresh : Fresh (serves setting (Comes moment (Some e)) world)) (ups : IsPacketUp w.ups e)
      (keys : (other : Session) → Contains world.server.sessions other → other.number ≡ e.session → other.key ≡ e.key) where
    abbrev now : Setting D
    now = setting_at (at_server setting) moment world.server

    abbrev first : State D
    first = begun world.server world.draw

    abbrev before : List Session
    before = world.server.sessions

    abbrev own : Name
    own = name_in e

    abbrev heard : State D
    heard = hears now e first

    h : IsHeard now e first heard
    h = is_heard now e first

    abbrev x : Session
    x = h.x

    heard_order : IsGoingOn (histories_in heard.sessions) none_open heard.sessions heard.jobs
    heard_order = c.packets_settle_in_order.ensures.hears now e world.server world.draw order

    heard_apart : AreNamedApart heard.sessions
    heard_apart one other a b same =
        some_same one other
        (sym (found_itself heard.sessions heard_order.names one a) ∙ ap (λ (n : Name). session_named n heard.sessions) same ∙ found_itself heard.sessions heard_order.names other b)

    found : session_named (name_of x) heard.sessions ≡ Some x
    found = itself_found heard.sessions heard_apart x h.there

    unfailed : AreUnfailed heard.jobs
    unfailed = h.jobs (recursion_from_All (λ (one : Unfinished). one.failed ≡ false) world.server.jobs order.unfailed)

    abbrev done : State D
    done = takes_by now e (Some x) heard

    is_done : takes now e first ≡ done
    is_done = ap (λ (f : Option Session). takes_by now e f heard) (ap (λ (n : Name). session_named n heard.sessions) h.name ∙ found)

    abbrev no_lines : Name → Line
    no_lines name = record { start = 0; rows = [] }

    there_done : IsThere said_by (name_of x) x.unique done
    there_done = done_there adds on alone owing said_by orders judges opening by_names now e heard (past_in world) no_lines x found unfailed h.owed h.sent heard_order

    apart_done : AreNamedApart done.sessions
    apart_done = done_apart adds on alone owing said_by orders judges opening by_names now e heard (past_in world) no_lines x found unfailed h.owed h.sent heard_order

    -- ---- what comes from what

    abbrev way : Way
    way = InEnvelope now.now x.salts e.salt

    abbrev judged : List Judgement
    judged = judgements way (remembered x) (message_in e)

    abbrev bodies : List (List ℕ)
    bodies = map (λ (one : Message). one.body) (messages_judged way x (message_in e))

    abbrev later_history : History
    later_history = (session_after way (remembered x) (message_in e)).history

    comes_done : AllFrom heard.sessions done.sessions
    comes_done =
        settles_from now heard.sessions alone owing (name_of x) judged bodies (speaks (name_of x) (opens now later_history judged) heard)
        (speaks_from now heard.sessions (name_of x) (opens now later_history judged) heard (λ y is. opens_grows now heard.sessions later_history judged (speaker_in heard y)) (all_itself heard.sessions))

    abbrev said : List Session
    said = (all_sent now done).sessions

    abbrev end : State D
    end = without_spent (all_sent now done)

    comes : AllFrom heard.sessions said
    comes = all_sent_from now heard.sessions done comes_done

    own_done : has_named (name_of x) done.sessions ≡ true
    own_done =
        let f = found_in (is_named (name_of x)) done.sessions there_done.x there_done.found in
        subst (λ (n : Name). has_named n done.sessions ≡ true) (sym (name_is (name_of x) there_done.x f.1)) (named_among done.sessions there_done.x f.0)

    own_said : has_named own said ≡ true
    own_said = subst (λ (n : Name). has_named n said ≡ true) (sym h.name) (has_sent now (name_of x) done ∙ own_done)

    before_apart : AreNamedApart before
    before_apart = named_apart before s.apart

    ends : (y : Session) → Contains said y → Contains end.sessions y ⊎ (has_named (name_of y) end.sessions ≡ false)
    ends y there = spent_or (all_sent now done) y there

    abbrev lines : Name → Line
    lines = line_at heard.sessions said heard_apart comes

    abbrev more : Name → List Row
    more = more_at heard.sessions said heard_apart comes

    -- the world after an event that ends so
    abbrev after_by : State D → rules.World D V
    after_by state =
        let last = without_spent (all_sent now state) in
        record world {
          server = record { now = now.now; sessions = last.sessions; jobs = last.jobs; bindings = last.bindings };
          lost = world.lost ++ lost_in before (all_sent now state).sessions last.sessions;
          draw = last.draw;
          entries = world.entries ++ map (λ entry. record { start = world.start; entry = entry }) last.entries;
          bag = world.bag ++ map sent_down last.sent;
        }

    fresh_done : Fresh (after_by done)
    fresh_done = subst (λ (state : State D). Fresh (after_by state)) is_done fresh

    some : All (λ word. word ≢ 0) (drawn_for (lives (after_by done)))
    some = some_of (after_by done) fresh_done

    distinct : AreDistinct (drawn_for (lives (after_by done)))
    distinct = apart_of (after_by done) fresh_done

    small_done : IsSmallState done
    small_done = subst (λ (state : State D). IsSmallState state) is_done (c.what_is_owed_is_small.ensures.packet now e world.server world.draw draws fits kept)

    fit_done : done.sent ≡ [] → AllByRecursion IsFit (with_lines lines done.sessions)
    fit_done none = fits_last now done (λ name. session_named name heard.sessions) small_done (c.packets_are_whole.ensures.sent now done draws small_done none).0

    -- ---- it is heard

    abbrev HeardThere : World → Type 0
    HeardThere later =
        (early : List Session)
        × ServerStands later (with_lost early (past_in world)) heard.sessions heard.jobs
        × ((o : Session) → Contains early o → Contains before o × (has_named (name_of o) heard.sessions ≡ false))
        × ((o : Session) → Contains before o → Contains heard.sessions o ⊎ Contains early o)

    abbrev OwnsIt : Type 0
    OwnsIt = (client : ℕ) × Owns (w.clients client) e.session

    owner : OwnsIt
    owner =
        let up = (ups InContainer x).0.1 in
        let it = c.names_are_apart.ensures.of_message w up.up reached up.there in
        (it.0, subst (λ (n : ℕ). Owns (w.clients it.0) n) up.under it.1)

    heard_by : (found : Option Session) → session_named own before ≡ found → Leads w HeardThere
    heard_by (Some known) is =
        stays w HeardThere (
          [],
          nothing_lost w (past_in world) heard.sessions heard.jobs (known_heard w (past_in world) now e first known s is),
          λ o there. absurd (empty_has o there),
          λ o there. inl (before_there now e first known is before_apart o there),
        )
    heard_by None is =
        let z : Session = session_for now e world.draw in
        let z_there : Contains heard.sessions z = made_there now e first is in
        let none_before : has_named own before ≡ false = none_found own before is in
        let word : ℕ = word_after now.step 1 world.draw in
        let differ : AllByRecursion (λ (o : Session). o.number ≢ e.session) before =
        all_of (λ (o : Session). o.number ≢ e.session) before
        (λ o there same.
        let key : o.key ≡ e.key = keys o there same in
        let named : is_named own o ≡ true = rw (eq-eqb e.key o.key (sym key), eq-eqb e.session o.number (sym same)) refl in
        let e : true ≡ false = sym named ∙ has_none own before none_before o there in absurd (cc)) in
        let no_jobs : AllByRecursion (λ (one : Unfinished). is_of e.key e.session one ≡ false) world.server.jobs =
        none_kept (is_of e.key e.session) world.server.jobs (subst (λ (f : Option Session). IsOrderlyAt f (jobs_of own world.server.jobs)) is (order.each own)) in
        leads_so w _ HeardThere
        (λ later k. (
          k.0,
          k.1,
          λ o there.
              let one = each_of (λ (o : Session). (session : Session) × Contains before session × (o ≡ session) × (has_named (name_of session) heard.sessions ≡ false)) k.0 k.2.each o there in
              (subst (λ (z : Session). Contains before z) (sym one.2) one.1, subst (λ (z : Session). has_named (name_of z) heard.sessions ≡ false) (sym one.2) one.3),
          λ o there. each_of (λ (o : Session). Contains heard.sessions o ⊎ Contains k.0 o) before k.3 o there,
        ))
        (made_heard on blank w (past_in world) now e first reached s
        (unique_some before heard.sessions said end.sessions world.lost own before_apart heard_apart comes h.from own_said ends some distinct z z_there refl none_before w (past_in world) refl world.server.jobs blank reached s)
        (unmade before heard.sessions said end.sessions world.lost own before_apart heard_apart comes h.from own_said ends some distinct z z_there refl none_before w (past_in world) refl world.server.jobs blank reached s)
        (new_salt before heard.sessions said end.sessions world.lost own before_apart heard_apart comes h.from own_said ends some distinct z z_there refl none_before w (past_in world) refl world.server.jobs blank reached s
        word (here word []))
        owner differ no_jobs is)

    -- ---- what was sent stays sent

    up_still : (v : World) (P : World → Type 0) → IsPacketUp v.ups e → Leads v P → Leads v (λ later. P later × IsPacketUp later.ups e)
    up_still v P sent l =
        record {
          moves = l.moves;
          lawful = l.lawful;
          own = l.own;
          gives = (
            l.gives,
            λ way session.
                map_all (IsUp v.ups e.session e.salt) (IsUp (after_all v l.moves).ups e.session e.salt) (messages_judged way session (message_in e))
                (λ m there up. (up.0, record { up = up.1.up; there = adds.messages v l.moves l.lawful up.1.up up.1.there; under = up.1.under; salted = up.1.salted; numbered = up.1.numbered; is = up.1.is })) (sent way session),
          );
        }

    -- ---- it is taken, and the event ends

    abbrev Goal : World → Type 0
    Goal later = HasServed later world (after_by done)

    number_x : e.session ≡ x.number
    number_x = ap (λ (n : Name). n.session) h.name

    within_done : (o : Session) → session_named (name_of x) done.sessions ≡ Some o → IsWithin (lines (name_of x)) o
    within_done o is =
        let f = found_in (is_named (name_of x)) done.sessions o is in
        let its : name_of x ≡ name_of o = name_is (name_of x) o f.1 in
        subst (λ (n : Name). IsWithin (lines n) o) (sym its)
        (within_between heard.sessions said heard_apart comes done.sessions (all_sent_from now done.sessions done (all_itself done.sessions)) o
        (λ z there same. apart_done z o there f.0 same)
        (subst (λ (n : Name). has_named n said ≡ true) its (has_sent now (name_of x) done ∙ own_done)))

    module _ (early : List Session) (early_each : (o : Session) → Contains early o → Contains before o × (has_named (name_of o) heard.sessions ≡ false))
        (early_others : (o : Session) → Contains before o → Contains heard.sessions o ⊎ Contains early o) where
      abbrev past_heard : Past
      past_heard = with_lost early (past_in world)

      -- all is said and the spent are lost
      ended_so : (v : World) (late : List Session) → AreLost (lined lines) heard.sessions done.sessions late → EventEnds v (with_lost late past_heard) lines said end → Goal v
      ended_so v late late_lost k =
          let all : EventEnds v (with_lost (early ++ late) (past_in world)) lines said end =
          subst (λ (l : List Session). EventEnds v (record (past_in world) { lost = l }) lines said end) (append_assoc world.lost early late) k in
          let line_said : (y : Session) → Contains said y → lines (name_of y) ≡ y.salts = λ y there. said_line heard.sessions said heard_apart comes (named_apart said k.apart) y there in
          record {
            stands = stands_after v (past_in world) (early ++ late) lines said end all line_said before
                (was_lost before heard.sessions said end.sessions world.lost own before_apart heard_apart comes h.from own_said ends v (past_in world) early late done.sessions end all
                (λ n. has_sent now n done) early_each early_others late_lost)
                (found_lost before heard.sessions said end.sessions world.lost own before_apart heard_apart comes h.from own_said ends v (past_in world) early late done.sessions end all
                (λ n. has_sent now n done) early_each early_others late_lost)
                world.start world.entries refl;
            packets = map sent_down end.sent;
            bag = refl;
            down = all_down v (past_in world) (early ++ late) lines said end all line_said;
          }

      taken_so : (v : World) → Reached v → EventStands v past_heard lines heard → IsPacketUp v.ups e → Leads v Goal
      taken_so v reached k sent =
          let ups_x : AllByRecursion (IsUp v.ups x.number e.salt) (messages_judged way x (message_in e)) =
          subst (λ (n : ℕ). AllByRecursion (IsUp v.ups n e.salt) (messages_judged way x (message_in e))) number_x (sent way x) in
          goes_on on v (Ends adds on alone owing said_by orders judges opening by_names now e heard past_heard lines x found unfailed h.owed h.sent heard_order) Goal reached
          (takes_on adds on alone owing said_by orders judges opening by_names now e heard past_heard lines x found unfailed h.owed h.sent heard_order v reached k
          (within heard.sessions said heard_apart comes x h.there) ups_x within_done)
          (λ later reached m.
          leads_so later (λ last. EventEnds last (with_lost m.1.more past_heard) lines said end) Goal (λ last n. ended_so last m.1.more m.1.lost n)
          (ends_on adds c.moves_only_add.ensures on any whole now (with_lost m.1.more past_heard) lines later done reached m.1.stands
          (packet_goes adds on alone owing said_by orders judges opening by_names now e heard past_heard lines x found unfailed h.owed h.sent heard_order
          (λ setting history judged speaker unheard. c.new_sessions_say_so.ensures.packet setting history judged speaker unheard)
          (λ setting envelope state session sent owed order found unheard. c.new_sessions_owe_little.ensures setting envelope state session sent owed order found unheard)
          later m.0 m.1 within_done)
          (fit_done m.1.there.sent)
          (none_out later done.sent m.1.there.sent)))

      begun_so : (v : World) → Reached v → ServerStands v past_heard heard.sessions heard.jobs → IsPacketUp v.ups e → Leads v Goal
      begun_so v reached k sent =
          let are = lines_are before heard.sessions said end.sessions world.lost own before_apart heard_apart comes h.from own_said ends some distinct blank v past_heard early heard.jobs reached refl early_each k in
          let Drawn : World → Type 0 = λ later. ServerStands later past_heard (with_lines lines heard.sessions) heard.jobs in
          goes_on on v (λ later. Drawn later × IsPacketUp later.ups e) Goal reached
          (up_still v Drawn sent (draws_each on v past_heard [] heard.sessions heard.jobs lines more reached k are))
          (λ later reached m.
          taken_so later reached
          (record {
            stands = subst (λ (l : List Entry). ServerStands later (record past_heard { entries = l }) (with_lines lines heard.sessions) heard.jobs)
                (sym (ap (λ (l : List Entry). past_heard.entries ++ l) h.entries ∙ append_nothing past_heard.entries)) m.0;
            owed = subst (λ (l : List Owed). AllByRecursion (λ (o : Session). AllByRecursion (IsOwedThere later o) l) (with_lines lines heard.sessions)) (sym h.owed)
                (all_of (λ (o : Session). AllByRecursion (IsOwedThere later o) []) (with_lines lines heard.sessions) (λ o there. tt));
          }) m.1)

    packet_so : Leads w (λ later. HasServed later world (serves setting (Comes moment (Some e)) world))
    packet_so =
        subst (λ (state : State D). Leads w (λ later. HasServed later world (after_by state))) (sym is_done)
        (goes_on on w (λ later. HeardThere later × IsPacketUp later.ups e) Goal reached (up_still w HeardThere ups (heard_by (session_named own before) refl))
        (λ later reached k. begun_so k.0.0 k.0.2 k.0.3 later reached k.0.1 k.1))

pub returns : goal.returns
returns g c = λ w setting world moment envelope reached s order draws fits kept fresh ups keys. packet_so g c w setting world moment envelope reached s order draws fits kept fresh ups keys
