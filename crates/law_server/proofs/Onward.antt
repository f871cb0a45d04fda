-- Lives go on.
use Rattle.std.proofs.Common.{◌≡◌, ◌∙◌, ◌≤◌, false, Option, Some, None, List, [], ◌∷◌, ◌++◌, length, get_or, ap, sym, subst, refl, append_assoc}
use Rattle.std.specs.Prelude.{map, drop, filter_map}
use Rattle.std.specs.List.{filter, All, Contains}
use Rattle.std.proofs.lemmas.Bool.{cond_both, false≢true}
use Rattle.std.proofs.lemmas.List.{append-nil}
use Rattle.std.proofs.lemmas.List.Elements.{All-head, All-tail, Contains-get_or}
use Rattle.service_tl.specs.declared.lists.Message.{Message}
use Rattle.id_window.specs.History.{History, FirstJudgement, is_kept, floor}
use Rattle.inbox.specs.Refusals.{Way}
use Rattle.inbox.specs.Judging.{session_after, Session as Remembered}
use Rattle.regs_service.specs.Served.{Step}
use Rattle.server_rules.specs.Server.{Name, Session, is_same, session_named, remembered}
use Rattle.server_rules.specs.Event.{Setting, State, Envelope, Entry, Sent}
use Rattle.server_rules.specs.Events.{Event, Packet, Work, Tick, Attach, Loss, Restart, Course, setting_at, after_event}
use Rattle.server_rules.specs.Answer.{name_in, message_in, hears_by, begun}
use Rattle.law_server.specs.Lives.{Acceptance, Life, Told, acceptance_of, judged_by, heard_by, way_of, with_packet, hearing, with_event, gone_on, is_entry_of, is_packet_of, made_by, told_after, told_from}
use Rattle.law_server.specs.Courses.{GoesOn, GoOn}
use Rattle.law_server.proofs.LivedNames.{same-names}
use Rattle.law_server.proofs.Packets.{hears-stands}
use Rattle.law_server.proofs.LivedEvents.{IsEven, Stands}
use Rattle.law_server.proofs.Living.{Laws, AreLives, IsRecorded, event-lives}

-- what laws say of floors
pub record Floors : Type 0 where
  pub dropped : (history later : History) (judgement : FirstJudgement) → Contains history judgement → is_kept judgement.number history ≡ false
      → judgement.number ≤ floor (history ++ later)
  pub added : (way : Way) (session : Remembered) (message : Message) → (later : History) × ((session_after way session message).history ≡ session.history ++ later)

-- ---- one life

nothing-added : {X : Type 0} (xs : List X) → (more : List X) × (xs ≡ xs ++ more)
nothing-added xs = ([], sym (append-nil xs))

both-added : {X : Type 0} (xs ys zs : List X) → ((more : List X) × (ys ≡ xs ++ more)) → ((more : List X) × (zs ≡ ys ++ more)) → (more : List X) × (zs ≡ xs ++ more)
both-added {X} xs ys zs one other =
    (one.0 ++ other.0, other.1 ∙ (ap (λ (list : List X). list ++ other.0) one.1 ∙ append_assoc xs one.0 other.0))

-- numbers that are dropped, where a history is added to
dropped-from : (floors : Floors) (history later : History) → ((more : History) × (later ≡ history ++ more))
    → All (λ judgement. is_kept judgement.number history ≡ false → judgement.number ≤ floor later) history
dropped-from floors history later added = λ k d within unkept.
    let judgement = get_or history k d in
    let P : History → Type 0 = λ later. judgement.number ≤ floor later in
    subst P (sym added.1) (floors.dropped history added.0 judgement (Contains-get_or history k d within) unkept)

pub goes-same : (floors : Floors) (life : Life) → GoesOn life life
goes-same floors life = record {
  name = refl;
  first = refl;
  unique = refl;
  history = nothing-added life.history;
  accepted = nothing-added life.accepted;
  entries = nothing-added life.entries;
  packets = nothing-added life.packets;
  ended = λ ended. refl;
  dropped = dropped-from floors life.history life.history (nothing-added life.history);
}

goes-then : (floors : Floors) (one other third : Life) → GoesOn one other → GoesOn other third → GoesOn one third
goes-then floors one other third first second =
    let history = both-added one.history other.history third.history first.history second.history in
    record {
      name = second.name ∙ first.name;
      first = second.first ∙ first.first;
      unique = second.unique ∙ first.unique;
      history = history;
      accepted = both-added one.accepted other.accepted third.accepted first.accepted second.accepted;
      entries = both-added one.entries other.entries third.entries first.entries second.entries;
      packets = both-added one.packets other.packets third.packets first.packets second.packets;
      ended = λ gone. let same = first.ended gone in second.ended (ap (λ (life : Life). life.stands) same ∙ gone) ∙ same;
      dropped = dropped-from floors one.history third.history history;
    }

-- what a packet adds
pub record IsHearing (earlier later : Life) : Type 0 where
  pub name : later.name ≡ earlier.name
  pub first : later.first ≡ earlier.first
  pub unique : later.unique ≡ earlier.unique
  pub history : (more : History) × (later.history ≡ earlier.history ++ more)
  pub accepted : (more : List Acceptance) × (later.accepted ≡ earlier.accepted ++ more)
  pub entries : later.entries ≡ earlier.entries
  pub packets : later.packets ≡ earlier.packets

unheard : (life : Life) → IsHearing life life
unheard life = record {
  name = refl;
  first = refl;
  unique = refl;
  history = nothing-added life.history;
  accepted = nothing-added life.accepted;
  entries = refl;
  packets = refl;
}

heard-adds : {S : Type 0} (floors : Floors) (setting : Setting S) (envelope : Envelope) (session : Session) (life : Life) → session.history ≡ life.history
    → IsHearing life (with_packet setting envelope (Some session) life)
heard-adds floors setting envelope session life same =
    let added = floors.added (way_of setting envelope session) (remembered session) (message_in envelope) in
    record {
      name = refl;
      first = refl;
      unique = refl;
      history = (added.0, added.1 ∙ ap (λ (history : History). history ++ added.0) same);
      accepted = (filter_map acceptance_of (judged_by setting envelope session), refl);
      entries = refl;
      packets = refl;
    }

pub hearing-adds : {S V : Type 0} (floors : Floors) (setting : Setting S) (before : Course S V) (event : Event) (life : Life) → Stands before.server life
    → IsHearing life (hearing setting before event life)
hearing-adds {S} floors setting before (Packet moment (Some envelope)) life stands =
    let at = setting_at setting moment before.server in
    let state : State S = begun before.server before.draw in
    cond_both (is_same life.name (name_in envelope)) (with_packet at envelope (heard_by at envelope before) life) life (IsHearing life)
    (λ is.
    let own : life.name ≡ name_in envelope = same-names life.name (name_in envelope) is in
    let session = stands.0 in
    let N : Name → Type 0 = λ name. session_named name before.server.sessions ≡ Some session in
    let found : session_named (name_in envelope) before.server.sessions ≡ Some session = subst N own stands.1 in
    let heard : heard_by at envelope before ≡ Some session =
    ap (λ (one : Option Session). session_named (name_in envelope) (hears_by at envelope one state).sessions) found
    ∙ (hears-stands at envelope state session found (name_in envelope) ∙ found) in
    let P : Option Session → Type 0 = λ found. IsHearing life (with_packet at envelope found life) in
    subst P (sym heard) (heard-adds floors at envelope session life stands.2.2))
    (λ fails. unheard life)
hearing-adds floors setting before (Packet moment None) life stands = unheard life
hearing-adds floors setting before (Work moment place) life stands = unheard life
hearing-adds floors setting before (Tick moment) life stands = unheard life
hearing-adds floors setting before (Attach moment name) life stands = unheard life
hearing-adds floors setting before (Loss name) life stands = unheard life
hearing-adds floors setting before Restart life stands = unheard life

event-goes : {S V : Type 0} (floors : Floors) (setting : Setting S) (before after : Course S V) (event : Event) (life : Life) → IsEven before.server life
    → GoesOn life (gone_on setting before after event life)
event-goes floors setting before after event life even =
    let later = hearing setting before event life in
    cond_both life.stands (with_event before after later) life (GoesOn life)
    (λ stands.
    let standing = even.standing stands in
    let heard = hearing-adds floors setting before event life (standing.0, standing.1, standing.2) in
    let entries : List Entry = filter (is_entry_of later.name) (drop (length before.entries) after.entries) in
    let packets : List Sent = filter (is_packet_of later.name) (drop (length before.packets) after.packets) in
    record {
      name = heard.name;
      first = heard.first;
      unique = heard.unique;
      history = heard.history;
      accepted = heard.accepted;
      entries = (entries, ap (λ (list : List Entry). list ++ entries) heard.entries);
      packets = (packets, ap (λ (list : List Sent). list ++ packets) heard.packets);
      ended = λ gone. absurd (false≢true (sym gone ∙ stands));
      dropped = dropped-from floors life.history later.history heard.history;
    })
    (λ gone. goes-same floors life)

-- ---- all lives

go-same : (floors : Floors) (lives : List Life) → GoOn lives lives
go-same floors [] = tt
go-same floors (life ∷ lives) = (goes-same floors life, go-same floors lives)

go-then : (floors : Floors) (one other third : List Life) → GoOn one other → GoOn other third → GoOn one third
go-then floors [] other third first second = tt
go-then floors (life ∷ one) [] third first second = absurd first
go-then floors (life ∷ one) (later ∷ other) [] first second = absurd second
go-then floors (life ∷ one) (later ∷ other) (last ∷ third) first second =
    (goes-then floors life later last first.0 second.0, go-then floors one other third first.1 second.1)

map-goes : (f : Life → Life) (P : Life → Type 0) (lives made : List Life) → ((life : Life) → P life → GoesOn life (f life)) → All P lives → GoOn lives (map f (lives ++ made))
map-goes f P [] made goes all = tt
map-goes f P (life ∷ lives) made goes all =
    (goes life (All-head P life lives all), map-goes f P lives made goes (All-tail P life lives all))

module _ {S V : Type 0} (floors : Floors) (setting : Setting S) (serve : Step V) (fresh : V) (laws : Laws S V setting serve fresh) where
  event-go : (told : Told S V) (event : Event) → AreLives S V told → GoOn told.lives (told_after setting serve fresh told event).lives
  event-go told event are =
      let after = after_event setting serve fresh told.course event in
      map-goes (gone_on setting told.course after event) (λ (life : Life). IsEven told.course.server life × IsRecorded life) told.lives (made_by setting told.course event)
      (λ life is. event-goes floors setting told.course after event life is.0) are.lives

  after-lives : (told : Told S V) (event : Event) → AreLives S V told → AreLives S V (told_after setting serve fresh told event)
  after-lives told event are = record {
    ordered = laws.ordered told.course event are.ordered;
    lives = event-lives setting serve fresh laws told.course are.ordered event told.lives are.lives;
  }

  pub events-go : (told : Told S V) (events : List Event) → AreLives S V told → GoOn told.lives (told_from setting serve fresh told events).lives
  events-go told [] are = go-same floors told.lives
  events-go told (event ∷ events) are =
      let next = told_after setting serve fresh told event in
      go-then floors told.lives next.lives (told_from setting serve fresh next events).lives (event-go told event are) (events-go next events (after-lives told event are))

pub told-append : {S V : Type 0} (setting : Setting S) (serve : Step V) (fresh : V) (told : Told S V) (events more : List Event)
    → told_from setting serve fresh told (events ++ more) ≡ told_from setting serve fresh (told_from setting serve fresh told events) more
told-append setting serve fresh told [] more = refl
told-append setting serve fresh told (event ∷ events) more = told-append setting serve fresh (told_after setting serve fresh told event) events more
