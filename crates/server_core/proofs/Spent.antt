-- Where the others have room, the one session that spoke is lost alone, if it has none.
use Rattle.std.proofs.Common.{◌≡◌, ◌≢◌, ◌∙◌, Bool, true, false, cond, Option, Some, List, [], ◌∷◌, ap, sym, subst, refl, inl, inr}
use Rattle.std.specs.Prelude.{fold}
use Rattle.std.specs.List.{All, AllPairs, filter}
use Rattle.std.proofs.lemmas.Bool.{cases_Bool, cond-true, cond-false}
use Rattle.std.proofs.lemmas.List.Elements.{All-head, All-tail}
use Rattle.server_rules.specs.Server.{Name, Session, is_named, name_of, session_named, with_session}
use Rattle.server_rules.specs.Event.{Owed, Setting, Speaker, State, lost, speaker_in, speaks, spoken, spoken_by}
use Rattle.server_rules.specs.Sending.{all_sent, messages_by, names_in, sends}
use Rattle.server_rules.specs.Answer.{ended, is_spent, without_spent}
use Rattle.server_core.specs.One.{answer_of, lost_where, says_its_own, sends_all}
use Rattle.server_core.proofs.Lists.{pairs-head, pairs-tail}
use Rattle.server_core.proofs.Names.{apart-names, find-other, none-some, same-names}
use Rattle.server_core.proofs.One.{one-sends, sends-name}
use Rattle.service_tl.specs.declared.lists.Message.{Message}

abbrev pub HasRoom : Session → Type 0
HasRoom session = is_spent session ≡ false

abbrev pub AreOthers : Session → Session → Type 0
AreOthers one other = name_of one ≢ name_of other

pub no-other : (session : Session) (sessions : List Session) → All (λ other. name_of session ≢ name_of other) sessions → with_session session sessions ≡ sessions
no-other session [] apart = refl
no-other session (first ∷ sessions) apart =
    let P : Session → Type 0 = λ other. name_of session ≢ name_of other in
    let off : is_named (name_of session) first ≡ false = apart-names (name_of session) (name_of first) (All-head P first sessions apart) in
    ap (λ (now : Session). now ∷ with_session session sessions) (cond-false (is_named (name_of session) first) session first off)
    ∙ ap (λ (others : List Session). first ∷ others) (no-other session sessions (All-tail P first sessions apart))

none-spent : (sessions : List Session) → All HasRoom sessions → filter is_spent sessions ≡ []
none-spent [] all = refl
none-spent (session ∷ sessions) all =
    cond-false (is_spent session) (session ∷ filter is_spent sessions) (filter is_spent sessions) (All-head HasRoom session sessions all)
    ∙ none-spent sessions (All-tail HasRoom session sessions all)

spent-one : (session : Session) (sessions : List Session) (before : Session) → AllPairs AreOthers sessions → All HasRoom sessions
    → session_named (name_of session) sessions ≡ Some before
    → filter is_spent (with_session session sessions) ≡ cond (is_spent session) (session ∷ []) []
spent-one session [] before apart all found = absurd (none-some before found)
spent-one session (first ∷ sessions) before apart all found =
    let name = name_of session in
    let left = All-tail HasRoom first sessions all in
    elim (cases_Bool (is_named name first)) [
      | inl holds ↦
          let is : name ≡ name_of first = same-names name (name_of first) holds in
          let N : Name → Type 0 = λ name. All (λ (other : Session). name ≢ name_of other) sessions in
          let others : with_session session sessions ≡ sessions = no-other session sessions (subst N (sym is) (pairs-head AreOthers first sessions apart)) in
          ap (λ (now : Session). filter is_spent (now ∷ with_session session sessions)) (cond-true (is_named name first) session first holds)
          ∙ (ap (λ (rest : List Session). filter is_spent (session ∷ rest)) others
          ∙ ap (λ (rest : List Session). cond (is_spent session) (session ∷ rest) rest) (none-spent sessions left))
      | inr fails ↦
          ap (λ (now : Session). filter is_spent (now ∷ with_session session sessions)) (cond-false (is_named name first) session first fails)
          ∙ (cond-false (is_spent first) (first ∷ filter is_spent (with_session session sessions)) (filter is_spent (with_session session sessions)) (All-head HasRoom first sessions all)
          ∙ spent-one session sessions before (pairs-tail AreOthers first sessions apart) left (sym (find-other (is_named name) first sessions fails) ∙ found))
    ]

lost-by : {S : Type 0} (session : Session) (state : State S) (so : Bool)
    → fold (λ so_far session. lost (name_of session) so_far) state (cond so (session ∷ []) []) ≡ lost_where so (name_of session) state
lost-by session state true = refl
lost-by session state false = refl

pub one-spent : {S : Type 0} (state : State S) (speaker : Speaker S) (before : Session) → AllPairs AreOthers state.sessions → All HasRoom state.sessions
    → session_named (name_of speaker.session) state.sessions ≡ Some before
    → without_spent (spoken state speaker) ≡ lost_where (is_spent speaker.session) (name_of speaker.session) (spoken state speaker)
one-spent {S} state speaker before apart all found =
    ap (λ (spent : List Session). fold (λ (so_far : State S) (session : Session). lost (name_of session) so_far) (spoken state speaker) spent)
    (spent-one speaker.session state.sessions before apart all found)
    ∙ lost-by speaker.session (spoken state speaker) (is_spent speaker.session)

-- what these messages make of a state
abbrev all_by : {S : Type 0} → Setting S → State S → List Owed → State S
all_by {S} setting state owed = fold (λ (so_far : State S) (name : Name). speaks name (sends setting (messages_by name owed)) so_far) state (names_in owed)

-- none speaks
pub none-ends : {S : Type 0} (setting : Setting S) (state : State S) → All HasRoom state.sessions → state.owed ≡ [] → ended setting state ≡ answer_of setting state
none-ends {S} setting state all none =
    let sent : all_sent setting state ≡ state = ap (λ (owed : List Owed). all_by setting state owed) none in
    ap (λ (state : State S). answer_of setting (without_spent state)) sent
    ∙ ap (λ (spent : List Session). answer_of setting (fold (λ (so_far : State S) (session : Session). lost (name_of session) so_far) state spent)) (none-spent state.sessions all)

stays-named : {S : Type 0} (setting : Setting S) (messages : List Message) (speaker : Speaker S) → name_of (sends_all setting messages speaker).session ≡ name_of speaker.session
stays-named setting [] speaker = refl
stays-named setting (message ∷ messages) speaker = sends-name setting (message ∷ messages) speaker

-- the session that says its own stays the one of its name
pub own-name : {S : Type 0} (setting : Setting S) (speaker : Speaker S) → name_of (says_its_own setting speaker).session ≡ name_of speaker.session
own-name setting speaker = stays-named setting (messages_by (name_of speaker.session) speaker.owed) speaker

-- one speaks
pub one-ends : {S : Type 0} (setting : Setting S) (speak : Speaker S → Speaker S) (state : State S) (name : Name) (session : Session)
    → session_named name state.sessions ≡ Some session → AllPairs AreOthers state.sessions → All HasRoom state.sessions
    → name_of (speak (speaker_in state session)).session ≡ name → All (λ one. one.name ≡ name) (speak (speaker_in state session)).owed
    → ended setting (speaks name speak state)
    ≡ answer_of setting (lost_where (is_spent (says_its_own setting (speak (speaker_in state session))).session) name
    (spoken state (says_its_own setting (speak (speaker_in state session)))))
one-ends {S} setting speak state name session found apart all is own =
    let said : Speaker S = speak (speaker_in state session) in
    let done : Speaker S = says_its_own setting said in
    let F : Name → Type 0 = λ name. session_named name state.sessions ≡ Some session in
    let O : Name → Type 0 = λ name. All (λ (one : Owed). one.name ≡ name) said.owed in
    let stays : name_of done.session ≡ name = own-name setting said ∙ is in
    let begins : speaks name speak state ≡ spoken state said = ap (λ (found : Option Session). spoken_by found speak state) found in
    let sent : all_sent setting (spoken state said) ≡ spoken state done = one-sends setting state said session (subst F (sym is) found) (subst O (sym is) own) in
    let spent = one-spent state done session apart all (subst F (sym stays) found) in
    ap (λ (state : State S). answer_of setting (without_spent (all_sent setting state))) begins
    ∙ (ap (λ (state : State S). answer_of setting (without_spent state)) sent
    ∙ (ap (answer_of setting) spent
    ∙ ap (λ (name : Name). answer_of setting (lost_where (is_spent done.session) name (spoken state done))) stays))
