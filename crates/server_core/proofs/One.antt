-- Where one session speaks in an event, and what it owes is its own, its packets are all that is sent.
use Rattle.std.proofs.Common.{◌≡◌, ◌∙◌, ℕ, true, Option, Some, List, [], ◌∷◌, ap, sym, refl, not}
use Rattle.std.specs.Prelude.{fold}
use Rattle.std.specs.List.{All, filter}
use Rattle.std.proofs.lemmas.List.Elements.{All-head, All-tail}
use Rattle.service_tl.specs.declared.lists.Message.{Message}
use Rattle.salt_line.specs.Line.{current_salt}
use Rattle.packing.specs.Packing.{packets_of, after_packets}
use Rattle.server_rules.specs.Server.{Name, Session, is_same, name_of, session_named}
use Rattle.server_rules.specs.Event.{Owed, Setting, Speaker, State, speaks, spoken, spoken_by}
use Rattle.server_rules.specs.Speaking.{needs_salts}
use Rattle.server_rules.specs.Sending.{all_sent, messages_by, names_in, seals, sends}
use Rattle.server_core.specs.One.{says_its_own, sends_all}
use Rattle.server_core.proofs.Names.{names-same, with-own, with-twice}

-- messages of one session alone are owed by that one
pub names-one : (name : Name) (one : Owed) (owed : List Owed) → All (λ one. one.name ≡ name) (one ∷ owed) → names_in (one ∷ owed) ≡ name ∷ []
names-one name one [] all = ap (λ (first : Name). first ∷ []) (All-head (λ (one : Owed). one.name ≡ name) one [] all)
names-one name one (next ∷ owed) all =
    let P : Owed → Type 0 = λ one. one.name ≡ name in
    let is : one.name ≡ name = All-head P one (next ∷ owed) all in
    let rest = names-one name next owed (All-tail P one (next ∷ owed) all) in
    let same : is_same one.name name ≡ true = names-same one.name name is in
    let alone : filter (λ other. not (is_same one.name other)) (name ∷ []) ≡ [] = rw same refl in
    ap (λ (names : List Name). one.name ∷ filter (λ other. not (is_same one.name other)) names) rest
    ∙ (ap (λ (names : List Name). one.name ∷ names) alone ∙ ap (λ (first : Name). first ∷ []) is)

seals-session : {S : Type 0} (setting : Setting S) (salt : ℕ) (messages : List Message) (speaker : Speaker S)
    → (fold (seals setting salt) speaker messages).session ≡ speaker.session
seals-session setting salt [] speaker = refl
seals-session setting salt (message ∷ messages) speaker = seals-session setting salt messages (seals setting salt speaker message)

-- a session that sends stays the one of its name
pub sends-name : {S : Type 0} (setting : Setting S) (messages : List Message) (speaker : Speaker S)
    → name_of (sends setting messages speaker).session ≡ name_of speaker.session
sends-name setting messages speaker =
    let ready = needs_salts setting 1 speaker in
    let counters = after_packets setting.now ready.session.counters messages in
    ap name_of (seals-session setting (current_salt ready.session.salts setting.now) (packets_of setting.now ready.session.counters messages)
    (record ready { session = record ready.session { counters = counters } }))

own-messages : (name : Name) (one : Owed) (owed : List Owed) → one.name ≡ name → messages_by name (one ∷ owed) ≡ one.message ∷ messages_by name owed
own-messages name one owed is =
    let same : is_same name one.name ≡ true = names-same name one.name (sym is) in
    rw same refl

sent-by : {S : Type 0} (setting : Setting S) (state : State S) (speaker : Speaker S) (before : Session) (owed : List Owed) → speaker.owed ≡ owed
    → session_named (name_of speaker.session) state.sessions ≡ Some before → All (λ one. one.name ≡ name_of speaker.session) owed
    → all_sent setting (spoken state speaker) ≡ spoken state (says_its_own setting speaker)
sent-by {S} setting state speaker before [] is found all =
    let name = name_of speaker.session in
    let send = λ (so_far : State S) (name : Name). speaks name (sends setting (messages_by name speaker.owed)) so_far in
    ap (λ (owed : List Owed). fold send (spoken state speaker) (names_in owed)) is
    ∙ ap (λ (owed : List Owed). spoken state (sends_all setting (messages_by name owed) speaker)) (sym is)
sent-by {S} setting state speaker before (one ∷ owed) is found all =
    let name = name_of speaker.session in
    let said = spoken state speaker in
    let messages = messages_by name speaker.owed in
    let send = λ (so_far : State S) (name : Name). speaks name (sends setting (messages_by name speaker.owed)) so_far in
    let P : Owed → Type 0 = λ one. one.name ≡ name in
    let names : names_in speaker.owed ≡ name ∷ [] = ap names_in is ∙ names-one name one owed all in
    let own : session_named name said.sessions ≡ Some speaker.session = with-own speaker.session state.sessions before found in
    let some : messages ≡ one.message ∷ messages_by name owed =
    ap (messages_by name) is ∙ own-messages name one owed (All-head P one owed all) in
    let sent = sends setting messages speaker in
    let all_of_them : says_its_own setting speaker ≡ sent =
    ap (λ (messages : List Message). sends_all setting messages speaker) some
    ∙ ap (λ (messages : List Message). sends setting messages speaker) (sym some) in
    let once : spoken said sent ≡ spoken state sent =
    ap (λ (sessions : List Session). record (spoken state sent) { sessions = sessions })
    (with-twice speaker.session sent.session state.sessions (sym (sends-name setting messages speaker))) in
    ap (λ (names : List Name). fold send said names) names
    ∙ (ap (λ (found : Option Session). spoken_by found (sends setting messages) said) own
    ∙ (once ∙ ap (spoken state) (sym all_of_them)))

pub one-sends : {S : Type 0} (setting : Setting S) (state : State S) (speaker : Speaker S) (before : Session)
    → session_named (name_of speaker.session) state.sessions ≡ Some before → All (λ one. one.name ≡ name_of speaker.session) speaker.owed
    → all_sent setting (spoken state speaker) ≡ spoken state (says_its_own setting speaker)
one-sends setting state speaker before found all = sent-by setting state speaker before speaker.owed refl found all
