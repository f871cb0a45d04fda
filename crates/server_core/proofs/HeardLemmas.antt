-- The session of a packet is heard, and judges what the packet brought.
use Rattle.std.proofs.Common.{◌≡◌, ◌≢◌, ◌∙◌, ◌+◌, ◌<◌, ◌≤◌, ℕ, zero, suc, Option, Some, None, List, [], ◌∷◌, length, get_or, map, ap, sym, subst, refl, arith, not}
use Rattle.std.specs.Prelude.{nat_lt}
use Rattle.std.specs.List.{All, insert, position_or_len, remove}
use Rattle.std.proofs.lemmas.Bool.{cond_both, ltb-true}
use Rattle.std.proofs.lemmas.List.Edits.{length-remove}
use Rattle.std.proofs.lemmas.List.Elements.{All-filter, All-tail}
use Rattle.auth_keys.specs.declared.ring.RingKey.{RingKey}
use Rattle.draws.specs.Draws.{draw_after}
use Rattle.inbox.specs.declared.judged.Judgement.{Judgement}
use Rattle.inbox.specs.Verdicts.{bare_judgement}
use Rattle.waits.specs.Jobs.{Queue, is_of}
use Rattle.server_rules.specs.Server.{Binding, Name, Server as Rules, Session, session_named, sessions_max}
use Rattle.server_rules.specs.Event.{Envelope, Setting, State}
use Rattle.server_rules.specs.Answer.{begun, name_in, session_for, with_place as place_made, without_first}
use Rattle.server_session.specs.declared.session.SessionState.{SessionState}
use Rattle.server_session.specs.Names.{name_kept}
use Rattle.server_session.specs.SessionState.{IsAt, Stands, numbers_left}
use Rattle.law_server.specs.Lives.{history_by}
use Rattle.server_core.specs.Among.{Among, IsAlone, IsOrderlySpeaker, heard_among, heard_by}
use Rattle.server_core.specs.Failures.{blocked_of}
use Rattle.server_core.specs.Hearing.{IsHeard}
use Rattle.server_core.specs.Others.{rest_of, with_place}
use Rattle.server_core.specs.Packets.{AreBeside, HasJudged, judged_of}
use Rattle.server_core.specs.Server.{CanSpeak, IsSound}
use Rattle.server_core.specs.Sessions.{AreKept, is_kept_as, without_kept}
use Rattle.server_core.proofs.HearLemmas.{others-apart}
use Rattle.server_core.proofs.Lists.{none-out}
use Rattle.server_core.proofs.Places.{StaysAt, can-still, speaking-later}
use Rattle.server_core.proofs.Settled.{blocked-left}

-- a session that was heard has judged
pub judged-so : {S : Type 0} (setting : Setting S) (envelope : Envelope) (kept : List SessionState) (standing after : SessionState) (queue later : Queue) (bound bindings : List Binding) (draw : S)
    (judged : List Judgement) (among : Among S) → IsHeard setting.now kept standing queue bound draw among
    → Stands setting.now after (record among.speaker.session { history = history_by setting envelope among.speaker.session })
    → later ≡ queue → bindings ≡ bound → judged ≡ map bare_judgement (judged_of setting envelope among.speaker.session) → IsAlone (name_in envelope) among
    → IsOrderlySpeaker (name_in envelope) among.speaker → HasJudged setting envelope kept after later bindings draw judged among
judged-so setting envelope kept standing after queue later bound bindings draw judged among heard stands same_jobs same_bindings is alone order =
    record {
      heard = record {
        others = heard.others;
        stands = stands;
        jobs = same_jobs ∙ heard.jobs;
        bindings = same_bindings ∙ heard.bindings;
        draws = heard.draws;
        owed = heard.owed;
        sent = heard.sent;
        entries = heard.entries;
      };
      are = is;
      alone = alone;
      order = order;
    }

-- ---- where a place is made

-- what is lost for it are a session and its jobs alone
pub record IsPlaced (S : Type 0) (before after : State S) : Type 0 where
  pub bindings : after.bindings ≡ before.bindings
  pub draw : after.draw ≡ before.draw
  pub owed : after.owed ≡ before.owed
  pub sent : after.sent ≡ before.sent
  pub entries : after.entries ≡ before.entries
  pub blocked : (name : Name) → blocked_of name after.jobs ≤ blocked_of name before.jobs

as-it_is : {S : Type 0} (state : State S) → IsPlaced S state state
as-it_is state = record { bindings = refl; draw = refl; owed = refl; sent = refl; entries = refl; blocked = λ name. omega arith }

first-placed : {S : Type 0} (sessions : List Session) (state : State S) → IsPlaced S state (without_first sessions state)
first-placed [] state = as-it_is state
first-placed (session ∷ sessions) state =
    record {
      bindings = refl;
      draw = refl;
      owed = refl;
      sent = refl;
      entries = refl;
      blocked = λ name. blocked-left name (λ one. not (is_of session.key session.number one)) state.jobs;
    }

pub place-made : {S : Type 0} (state : State S) → IsPlaced S state (place_made state)
place-made {S} state =
    cond_both (nat_lt (length state.sessions) sessions_max) state (without_first state.sessions state) (IsPlaced S state)
    (λ few. as-it_is state) (λ full. first-placed state.sessions state)

-- a session that is made is heard
pub heard-new : {S : Type 0} (setting : Setting S) (envelope : Envelope) (server : Rules) (draw later : S) (kept : List SessionState) (standing : SessionState) (queue : Queue)
    → session_named (name_in envelope) server.sessions ≡ None → AreKept setting.now kept (place_made (begun server draw)).sessions
    → queue ≡ (place_made (begun server draw)).jobs → Stands setting.now standing (session_for setting envelope draw)
    → later ≡ draw_after setting.step 2 draw
    → IsHeard setting.now kept standing queue server.bindings later (heard_among setting envelope (begun server draw))
heard-new {S} setting envelope server draw later kept standing queue none are jobs stands drawn =
    let state : State S = begun server draw in
    let placed : State S = place_made state in
    let is : IsPlaced S state placed = place-made state in
    let T : S → Type 0 = λ draw. Stands setting.now standing (session_for setting envelope draw) in
    let H : Option Session → Type 0 = λ found. IsHeard setting.now kept standing queue server.bindings later (heard_by setting envelope found state) in
    subst H (sym none)
    (record {
      others = are;
      stands = subst T (sym is.draw) stands;
      jobs = jobs;
      bindings = sym is.bindings;
      draws = drawn ∙ ap (draw_after setting.step 2) (sym is.draw);
      owed = is.owed;
      sent = is.sent;
      entries = is.entries;
    })

-- the jobs of a session that aren't ready were so before it was heard
pub heard-blocked : {S : Type 0} (setting : Setting S) (envelope : Envelope) (found : Option Session) (state : State S)
    → blocked_of (name_in envelope) (heard_by setting envelope found state).speaker.jobs ≤ blocked_of (name_in envelope) state.jobs
heard-blocked setting envelope (Some session) state = omega arith
heard-blocked setting envelope None state = (place-made state).blocked (name_in envelope)

-- ---- the others then

rest-each : (P : SessionState → Type 0) (standings : List SessionState) → All P standings → All P (rest_of standings)
rest-each P [] all = all
rest-each P (standing ∷ standings) all = All-tail P standing standings all

pub placed-each : (P : SessionState → Type 0) (standings : List SessionState) → All P standings → All P (with_place standings)
placed-each P standings all =
    cond_both (nat_lt (length standings) sessions_max) standings (rest_of standings) (All P) (λ few. all) (λ full. rest-each P standings all)

rest-few : (standings : List SessionState) → length standings ≤ sessions_max → length (rest_of standings) < sessions_max
rest-few [] few = omega arith
rest-few (standing ∷ standings) few = omega arith

pub placed-few : (standings : List SessionState) → length standings ≤ sessions_max → length (with_place standings) < sessions_max
placed-few standings few =
    cond_both (nat_lt (length standings) sessions_max) standings (rest_of standings) (λ standings. length standings < sessions_max)
    (λ is. ltb-true (length standings) sessions_max is) (λ full. rest-few standings few)

-- one that was removed is back at its place
pub back-at : (standings : List SessionState) (place : ℕ) (standing : SessionState) → place < length standings → standing ≡ get_or standings place standing
    → insert (remove standings place) place standing ≡ standings
back-at [] place standing within is = absurd (omega arith)
back-at (first ∷ standings) zero standing within is = ap (λ (standing : SessionState). standing ∷ standings) is
back-at (first ∷ standings) (suc place) standing within is =
    ap (λ (rest : List SessionState). first ∷ rest) (back-at standings place standing (omega arith) is)

-- those beside one that is lent

pub beside-known : StaysAt → (keys : List RingKey) (moment later : ℕ) (name : Name) (standings others : List SessionState) (place : ℕ) (one : SessionState) → moment ≤ later
    → IsSound keys moment standings → place < length standings → others ≡ remove standings place → others ≡ without_kept name standings → name_kept one ≡ name
    → AreBeside keys later (name_kept one) others
beside-known stay keys moment later name standings others place one lt sound within removed left is =
    let N : Name → Type 0 = λ name. All (λ (other : SessionState). name_kept other ≢ name) others in
    let A : List SessionState → Type 0 = λ standings. All (λ (other : SessionState). name_kept other ≢ name) standings in
    let C : List SessionState → Type 0 = λ standings. All (CanSpeak keys later) standings in
    let long : length others ≡ length (remove standings place) = ap (λ (standings : List SessionState). length standings) removed in
    let one_less = length-remove standings place within in
    record {
      few = omega (arith, sound.few);
      apart = subst N (sym is) (subst A (sym left) (others-apart name standings));
      speaking = subst C (sym left)
          (All-filter (λ (standing : SessionState). not (is_kept_as name standing)) (CanSpeak keys later) standings (speaking-later stay keys moment later standings lt sound.speaking));
    }

pub beside-new : StaysAt → (keys : List RingKey) (moment later : ℕ) (name : Name) (standings others : List SessionState) (one : SessionState) → moment ≤ later
    → IsSound keys moment standings → length standings ≤ position_or_len (is_kept_as name) standings → others ≡ with_place standings → name_kept one ≡ name
    → AreBeside keys later (name_kept one) others
beside-new stay keys moment later name standings others one lt sound none placed is =
    let P : SessionState → Type 0 = λ other. name_kept other ≢ name in
    let N : Name → Type 0 = λ name. All (λ (other : SessionState). name_kept other ≢ name) others in
    let A : List SessionState → Type 0 = λ standings. All (λ (other : SessionState). name_kept other ≢ name) standings in
    let C : List SessionState → Type 0 = λ standings. All (CanSpeak keys later) standings in
    let F : List SessionState → Type 0 = λ standings. length standings < sessions_max in
    record {
      few = subst F (sym placed) (placed-few standings sound.few);
      apart = subst N (sym is) (subst A (sym placed) (placed-each P standings (subst A (none-out (is_kept_as name) standings none) (others-apart name standings))));
      speaking = subst C (sym placed) (placed-each (CanSpeak keys later) standings (speaking-later stay keys moment later standings lt sound.speaking));
    }

-- it can speak with as many numbers as before
pub can-judged : (keys : List RingKey) (moment later : ℕ) (before after : SessionState) → CanSpeak keys moment before → name_kept after ≡ name_kept before
    → numbers_left after ≡ numbers_left before → IsAt later after → CanSpeak keys later after
can-judged keys moment later before after can same left at = can-still keys moment later before after can same at (omega (arith, left, can.numbers))

-- so many jobs fail at most as all judgements are settled
pub fits-few : (before after judged dues limit : ℕ) → limit ≡ before + dues → after ≤ before → judged ≤ dues → after + judged ≤ limit
fits-few before after judged dues limit is fewer enough = omega arith

-- one that is lent can speak
pub can-lent : (keys : List RingKey) (moment : ℕ) (standings : List SessionState) (place : ℕ) (one : SessionState) → All (CanSpeak keys moment) standings → place < length standings
    → one ≡ get_or standings place one → CanSpeak keys moment one
can-lent keys moment standings place one all within is = subst (CanSpeak keys moment) (sym is) (all place one within)
