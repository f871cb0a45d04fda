-- All that an event owes goes out.
use Rattle.std.proofs.Common.{◌≡◌, ◌≢◌, ℕ, ◌==◌, not, true, Option, None, Some, List, [], ◌∷◌, ◌++◌, fold, filter, inl, inr, refl, sym, ap, subst, ◌∙◌, arith, append_assoc}
use Rattle.std.specs.List.{AllByRecursion, Contains, flat_map}
use Rattle.std.proofs.lemmas.Bool.{cases_Bool}
use Rattle.msg_ids.specs.Counters.{Counters}
use Rattle.salt_line.specs.Line.{Line, current_salt}
use Rattle.service_tl.specs.declared.lists.Message.{Message}
use Rattle.packing.specs.Packing.{after_outer, after_packets, groups, outer_of, outers_of, packed, packets_of}
use Rattle.server_rules.specs.Server.{Name, Session, is_named, is_same, name_of, session_named, with_session, without_session}
use Rattle.server_rules.specs.Event.{Owed, Sent, Setting, Speaker, State, lost, speaker_in, speaks, spoken, spoken_by}
use Rattle.server_rules.specs.Answer.{is_spent, without_spent}
use Rattle.server_rules.specs.Speaking.{needs_salts}
use Rattle.server_rules.specs.Sending.{all_sent, messages_by, names_in, seals, sends}
use Rattle.law_moves.specs.Table.Status.{Unmade, Standing}
use Rattle.law_moves.specs.World.{World}
use Rattle.law_moves.specs.Move.{Move}
use Rattle.law_moves.specs.Extends.{Extends}
use Rattle.law_moves.specs.Reached.{AreLawful, Reached, after_all}
use Rattle.law_server_moves.specs.Leading.{Leads}
use Rattle.law_server_moves.specs.Servers.{AreApart, IsStanding, Past, with_lost}
use Rattle.law_server_moves.specs.Speaking.{IsOwedThere, IsSaid, SpeaksThere, with_line}
use Rattle.law_server_moves.specs.Events.{EventStands, lined, with_lines}
use Rattle.law_server_moves.specs.Sending.{EventEnds, IsFit, IsSpoken, MayAllGo, MayGo, WentOut}
use Rattle.law_server_moves.proofs.Lists.{all_append, all_of, each_of, from_filter, map_all}
use Rattle.law_server_moves.proofs.Leading.{GoOn, goes_on, leads_so, stays}
use Rattle.law_server_moves.proofs.Losing.{and_right, append_nothing, eq_true}
use Rattle.law_server_moves.proofs.One.{put}
use Rattle.law_server_moves.proofs.Speaking.{AnySaid}
use Rattle.law_server_moves.proofs.Speech.{Adds}
use Rattle.law_server_moves.proofs.Found.{found_in}
use Rattle.law_server_moves.proofs.Sending.{sends_on}
use Rattle.law_server_moves.proofs.Gone.{apart_lines, lost_named, named_apart, none_are_lost, none_lost}
use Rattle.law_server_moves.proofs.Events.{IsItsOwn, all_mapped, and_first, lines_put, lost_on, mapped_in, name_is, speaks_with}

-- ---- what a session owes

abbrev named : ℕ → ℕ → Name
named key session = record { key = key; session = session }

pub same_name : (one other : Name) → is_same one other ≡ true → other ≡ one
same_name one other is =
    let key : one.key ≡ other.key = eq_true one.key other.key (and_first (one.key == other.key) (one.session == other.session) is) in
    let session : one.session ≡ other.session = eq_true one.session other.session (and_right (one.key == other.key) (one.session == other.session) is) in
    sym (ap (λ (k : ℕ). named k one.session) key ∙ ap (λ (n : ℕ). named other.key n) session)

-- each message that a session owes is one of its own
by_name : (P : Message → Type 0) (name : Name) (owed : List Owed) → AllByRecursion (λ (one : Owed). one.name ≡ name → P one.message) owed
    → AllByRecursion P (messages_by name owed)
by_name P name [] h = tt
by_name P name (one ∷ owed) h =
    elim (cases_Bool (is_same name one.name)) [
      | inl is ↦ rw is (h.0 (same_name name one.name is), by_name P name owed h.1)
      | inr not_so ↦ rw not_so (by_name P name owed h.1)
    ]

-- ---- sealing

outer_body : (now : ℕ) (counters : Counters) (group : List Message) → (outer_of now counters group).body ≡ packed group
outer_body now counters [] = refl
outer_body now counters (message ∷ []) = refl
outer_body now counters (message ∷ other ∷ group) = refl

pub sealed_session : {S : Type 0} (setting : Setting S) (salt : ℕ) (packets : List Message) (speaker : Speaker S)
    → (fold (seals setting salt) speaker packets).session ≡ speaker.session
sealed_session setting salt [] speaker = refl
sealed_session setting salt (packet ∷ packets) speaker = sealed_session setting salt packets (seals setting salt speaker packet)

sealed_owed : {S : Type 0} (setting : Setting S) (salt : ℕ) (packets : List Message) (speaker : Speaker S)
    → (fold (seals setting salt) speaker packets).owed ≡ speaker.owed
sealed_owed setting salt [] speaker = refl
sealed_owed setting salt (packet ∷ packets) speaker = sealed_owed setting salt packets (seals setting salt speaker packet)

-- what sealing needs of the session's place there
record IsThere (w : World) (session : Session) : Type 0 where
  pub made : (w.servers session.unique).status ≢ Unmade
  pub number : (w.servers session.unique).session ≡ session.number

sealed_out : {S : Type 0} (setting : Setting S) (salt : ℕ) (w : World) (counters : Counters) (lists : List (List Message)) (speaker : Speaker S) → IsThere w speaker.session
    → AllByRecursion (IsSpoken w speaker.session.unique) lists → AllByRecursion (λ (sent : Sent). WentOut w sent.envelope) speaker.sent
    → AllByRecursion (λ (sent : Sent). WentOut w sent.envelope) (fold (seals setting salt) speaker (outers_of setting.now counters lists)).sent
sealed_out setting salt w counters [] speaker there spoken h = h
sealed_out setting salt w counters (group ∷ lists) speaker there spoken h =
    let outer : Message = outer_of setting.now counters group in
    let next = seals setting salt speaker outer in
    sealed_out setting salt w (after_outer setting.now counters group) lists next there spoken.1
    (all_append (λ (sent : Sent). WentOut w sent.envelope) speaker.sent _ h (
      record {
        unique = speaker.session.unique;
        group = group;
        body = outer_body setting.now counters group;
        spoken = spoken.0;
        made = there.made;
        session = there.number;
      },
      tt,
    ))

-- ---- one session sends

abbrev counted : Counters → Session → Session
counted counters session = record session { counters = counters }

-- counters say nothing of what may go
go_counted : (counters : Counters) (session : Session) (group : List Message) → MayGo session group → MayGo (counted counters session) group
go_counted counters session group (inl accepted) = inl accepted
go_counted counters session [] (inr first) = absurd first
go_counted counters session (message ∷ group) (inr first) = inr first

all_go_counted : (counters : Counters) (owed : List Owed) (session : Session) → MayAllGo owed session → MayAllGo owed (counted counters session)
all_go_counted counters owed session h =
    map_all (MayGo session) (MayGo (counted counters session)) (groups (messages_by (name_of session) owed)) (λ group is may. go_counted counters session group may) h

fit_counted : (counters : Counters) (session : Session) → IsFit session → IsFit (counted counters session)
fit_counted counters session h = record { unique = h.unique; salts = h.salts; history = h.history; replies = h.replies }

module _ {S : Type 0} (adds : Adds) (extends : (w : World) (list : List Move) → AreLawful w list → Extends w (after_all w list)) (on : GoOn) (any : AnySaid)
    (whole : (messages : List Message) → flat_map (λ group. group) (groups messages) ≡ messages) (setting : Setting S) (gone : Past) (lines : Name → Line) (owed : List Owed) where
  abbrev OutIn : World → Sent → Type 0
  OutIn w sent = WentOut w sent.envelope

  -- an event so far, of which some sessions have sent what they owe
  pub record Sends (w : World) (state : State S) : Type 0 where
    pub stands : EventStands w gone lines state
    pub same : state.owed ≡ owed
    pub go : AllByRecursion (MayAllGo owed) (with_lines lines state.sessions)
    pub fit : AllByRecursion IsFit (with_lines lines state.sessions)
    pub out : AllByRecursion (OutIn w) state.sent

  pub went_still : (w : World) (list : List Move) → AreLawful w list → (sent : Sent) → OutIn w sent → OutIn (after_all w list) sent
  went_still w list lawful sent h =
      let more = extends w list lawful in
      record {
        unique = h.unique;
        group = h.group;
        body = h.body;
        spoken = record { items = h.spoken.items; spelt = h.spoken.spelt; there = more.packets _ h.spoken.there; small = h.spoken.small };
        made = more.servers.made h.unique h.made;
        session = more.servers.session h.unique h.made ∙ h.session;
      }

  pub all_still : (w : World) (list : List Move) → AreLawful w list → (packets : List Sent) → AllByRecursion (OutIn w) packets → AllByRecursion (OutIn (after_all w list)) packets
  all_still w list lawful packets h = map_all (OutIn w) (OutIn (after_all w list)) packets (λ sent is out. went_still w list lawful sent out) h

  -- a session sends

  module _ (name : Name) (x : Session) (w : World) (state : State S) (h : Sends w state) (reached : Reached w) (found : session_named name state.sessions ≡ Some x) where
    abbrev xs : List Session
    xs = with_lines lines state.sessions

    abbrev its : Session
    its = with_line (lines name) x

    abbrev messages : List Message
    messages = messages_by name owed

    its_name : name ≡ name_of x
    its_name = name_is name x (found_in (is_named name) state.sessions x found).1

    its_there : Contains xs its
    its_there =
        subst (λ (n : Name). Contains xs (with_line (lines n) x)) (sym its_name)
        (mapped_in (λ (session : Session). with_line (lines (name_of session)) session) state.sessions x (found_in (is_named name) state.sessions x found).0)

    said : AllByRecursion (IsSaid w its) messages
    said =
        let all = each_of (λ (o : Session). AllByRecursion (IsOwedThere w o) state.owed) xs h.stands.owed its its_there in
        let of_owed = subst (λ (l : List Owed). AllByRecursion (IsOwedThere w its) l) h.same all in
        by_name (IsSaid w its) name owed
        (map_all (IsOwedThere w its) (λ (one : Owed). one.name ≡ name → IsSaid w its one.message) owed (λ one is o named. o (named ∙ its_name)) of_owed)

    go_its : MayAllGo owed its
    go_its = each_of (MayAllGo owed) xs h.go its its_there

    fit_its : IsFit its
    fit_its = each_of IsFit xs h.fit its its_there

    may : AllByRecursion (MayGo its) (groups messages)
    may = subst (λ (n : Name). AllByRecursion (MayGo its) (groups (messages_by n owed))) (sym its_name) go_its

    abbrev first : Speaker S
    first = speaker_in state x

    abbrev ready : Speaker S
    ready = needs_salts setting 1 first

    abbrev counters : Counters
    counters = after_packets setting.now ready.session.counters messages

    abbrev numbered : Speaker S
    numbered = record ready { session = record ready.session { counters = counters } }

    abbrev salt : ℕ
    salt = current_salt ready.session.salts setting.now

    abbrev b : Speaker S
    b = sends setting messages first

    session_b : b.session ≡ numbered.session
    session_b = sealed_session setting salt (packets_of setting.now ready.session.counters messages) numbered

    owed_b : b.owed ≡ state.owed
    owed_b = sealed_owed setting salt (packets_of setting.now ready.session.counters messages) numbered

    own : IsItsOwn S first b
    own = record {
      key = ap (λ (s : Session). s.key) session_b;
      number = ap (λ (s : Session). s.number) session_b;
      owed = ([], owed_b ∙ sym (append_nothing state.owed), λ k d below. absurd (omega arith));
    }

    abbrev Out : World → Type 0
    Out later = AllByRecursion (OutIn later) b.sent

    goes : SpeaksThere w gone xs (lines name) first → Leads w (λ later. SpeaksThere later gone xs (lines name) b × Out later)
    goes k =
        let l = sends_on setting gone xs (lines name) adds on any whole w messages first reached k said may fit_its in
        let later : World = after_all w l.moves in
        let stands = each_of (IsStanding later) (with_session (with_line (lines name) b.session) xs) l.gives.0.stands.standing (with_line (lines name) b.session) l.gives.0.among in
        let unmade : (later.servers b.session.unique).status ≢ Unmade = λ is. (let e : Unmade ≡ Standing = sym is ∙ stands.stands in absurd (cc)) in
        record {
          moves = l.moves;
          lawful = l.lawful;
          own = l.own;
          gives = (
            l.gives.0,
            sealed_out setting salt later ready.session.counters (groups messages) numbered
                (record {
                  made = subst (λ (s : Session). (later.servers s.unique).status ≢ Unmade) session_b unmade;
                  number = subst (λ (s : Session). (later.servers s.unique).session ≡ s.number) session_b stands.made.number;
                })
                l.gives.1 (all_still w l.moves l.lawful state.sent h.out),
          );
        }

    abbrev now : Session
    now = with_line (lines name) b.session

    named_b : name_of b.session ≡ name
    named_b = ap (λ (s : Session). name_of s) session_b ∙ sym its_name

    go_now : MayAllGo owed now
    go_now = subst (λ (s : Session). MayAllGo owed (with_line (lines name) s)) (sym session_b) (all_go_counted counters owed its go_its)

    go_put : (o : Session) → Contains xs o → MayAllGo owed (put now o)
    go_put o there =
        elim (cases_Bool (is_named (name_of now) o)) [
          | inl is ↦ rw is go_now
          | inr not_so ↦ rw not_so (each_of (MayAllGo owed) xs h.go o there)
        ]

    fit_now : IsFit now
    fit_now = subst (λ (s : Session). IsFit (with_line (lines name) s)) (sym session_b) (fit_counted counters its fit_its)

    fit_put : (o : Session) → Contains xs o → IsFit (put now o)
    fit_put o there =
        elim (cases_Bool (is_named (name_of now) o)) [
          | inl is ↦ rw is fit_now
          | inr not_so ↦ rw not_so (each_of IsFit xs h.fit o there)
        ]

    sends_it : Leads w (λ later. Sends later (spoken state b))
    sends_it =
        leads_so w (λ later. EventStands later gone lines (spoken state b) × Out later) (λ later. Sends later (spoken state b))
        (λ later k. record {
          stands = k.0;
          same = owed_b ∙ h.same;
          go = subst (λ (l : List Session). AllByRecursion (MayAllGo owed) l) (sym (lines_put lines name b.session state.sessions named_b)) (all_mapped (MayAllGo owed) (put now) xs go_put);
          fit = subst (λ (l : List Session). AllByRecursion IsFit l) (sym (lines_put lines name b.session state.sessions named_b)) (all_mapped IsFit (put now) xs fit_put);
          out = k.1;
        })
        (speaks_with adds w gone lines state h.stands name x found (sends setting messages) Out own goes)

  sends_found : (name : Name) (w : World) (state : State S) → Reached w → Sends w state → (found : Option Session) → session_named name state.sessions ≡ found
      → Leads w (λ later. Sends later (spoken_by found (sends setting (messages_by name owed)) state))
  sends_found name w state reached h None is = stays w (λ later. Sends later state) h
  sends_found name w state reached h (Some x) is = sends_it name x w state h reached is

  abbrev one_sent : State S → Name → State S
  one_sent so_far name = speaks name (sends setting (messages_by name owed)) so_far

  pub sends_names : (names : List Name) (w : World) (state : State S) → Reached w → Sends w state → Leads w (λ later. Sends later (fold one_sent state names))
  sends_names [] w state reached h = stays w (λ later. Sends later state) h
  sends_names (name ∷ names) w state reached h =
      goes_on on w (λ later. Sends later (one_sent state name)) (λ later. Sends later (fold one_sent (one_sent state name) names)) reached
      (sends_found name w state reached h (session_named name state.sessions) refl)
      (λ later reached k. sends_names names later (one_sent state name) reached k)

  -- ---- sessions are lost

  abbrev one_lost : State S → Session → State S
  one_lost so_far session = lost (name_of session) so_far

  module _ (said : List Session) (said_apart : AreApart said) where
    -- all that are there have spoken, and are as they were then
    abbrev EndsSo : World → State S → Type 0
    EndsSo w state = EventEnds w gone lines said state

    loses_one : (w : World) (state : State S) (session : Session) → EndsSo w state → Leads w (λ later. EndsSo later (one_lost state session))
    loses_one w state session h =
        let n : Name = name_of session in
        let more : List Session = filter (is_named n) (with_lines lines state.sessions) in
        let l = lost_on adds w (with_lost h.more gone) lines state h.stands n in
        record {
          moves = l.moves;
          lawful = l.lawful;
          own = l.own;
          gives = record {
            more = h.more ++ more;
            stands = subst (λ (all : List Session). EventStands (after_all w l.moves) (record gone { lost = all }) lines (one_lost state session)) (append_assoc gone.lost h.more more) l.gives;
            lost = lost_named lines said state.sessions h.more n (named_apart said said_apart) (λ o there is. each_of (Contains said) state.sessions h.kept o there) h.lost;
            kept = all_of (Contains said) (without_session n state.sessions)
                (λ o there. each_of (Contains said) state.sessions h.kept o (from_filter (λ (o : Session). not (is_named n o)) state.sessions o there).0);
            apart = said_apart;
            out = all_still w l.moves l.lawful state.sent h.out;
          };
        }

    loses_all : (spent : List Session) (w : World) (state : State S) → Reached w → EndsSo w state → Leads w (λ later. EndsSo later (fold one_lost state spent))
    loses_all [] w state reached h = stays w (λ later. EndsSo later state) h
    loses_all (session ∷ spent) w state reached h =
        goes_on on w (λ later. EndsSo later (one_lost state session)) (λ later. EndsSo later (fold one_lost (one_lost state session) spent)) reached
        (loses_one w state session h)
        (λ later reached k. loses_all spent later (one_lost state session) reached k)

pub ends_on : {S : Type 0} (adds : Adds) (extends : (w : World) (list : List Move) → AreLawful w list → Extends w (after_all w list)) (on : GoOn) (any : AnySaid)
    (whole : (messages : List Message) → flat_map (λ group. group) (groups messages) ≡ messages) (setting : Setting S) (gone : Past) (lines : Name → Line) (w : World) (state : State S)
    → Reached w → EventStands w gone lines state → AllByRecursion (MayAllGo state.owed) (with_lines lines state.sessions) → AllByRecursion IsFit (with_lines lines state.sessions)
    → AllByRecursion (λ (sent : Sent). WentOut w sent.envelope) state.sent
    → Leads w (λ later. EventEnds later gone lines (all_sent setting state).sessions (without_spent (all_sent setting state)))
ends_on adds extends on any whole setting gone lines w state reached h go fit out =
    let owed : List Owed = state.owed in
    let end : State _ = all_sent setting state in
    let Ends : World → Type 0 = λ later. EventEnds later gone lines end.sessions (without_spent end) in
    goes_on on w (λ later. Sends adds extends on any whole setting gone lines owed later end) Ends reached
    (sends_names adds extends on any whole setting gone lines owed (names_in owed) w state reached (record { stands = h; same = refl; go = go; fit = fit; out = out }))
    (λ later reached k.
    let apart : AreApart end.sessions = apart_lines lines end.sessions k.stands.stands.apart in
    loses_all adds extends on any whole setting gone lines owed end.sessions apart (filter is_spent end.sessions) later end reached
    (record {
      more = [];
      stands = none_lost later gone lines end k.stands;
      lost = none_are_lost (lined lines) end.sessions;
      kept = all_of (Contains end.sessions) end.sessions (λ o there. there);
      apart = apart;
      out = k.out;
    }))
