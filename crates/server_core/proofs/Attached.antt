-- A connection is opened for a session: what the event leaves.
use Rattle.std.proofs.Common.{◌≡◌, ◌∙◌, ℕ, Bool, true, false, cond, Option, Some, None, List, [], ◌∷◌, ap, sym, subst, refl}
use Rattle.std.specs.Prelude.{fold}
use Rattle.std.specs.List.{All, AllPairs, filter}
use Rattle.service_tl.specs.declared.lists.Message.{Message}
use Rattle.salt_line.specs.Line.{current_salt}
use Rattle.packing.specs.Packing.{packets_of, after_packets}
use Rattle.waits.specs.Jobs.{Queue, without_session as without_jobs_of}
use Rattle.server_rules.specs.Server.{Binding, Name, Reply, Server as Rules, Session, has_accepted, is_kept, name_of, session_named, with_session}
use Rattle.server_rules.specs.Event.{Owed, Setting, Speaker, State, speaker_in, spoken, spoken_by}
use Rattle.server_rules.specs.Speaking.{has_said, message_of, needs_salts, owes_message, says_again, says_it_is_new}
use Rattle.server_rules.specs.Sending.{messages_by, seals, sends}
use Rattle.server_rules.specs.Answer.{after_attach, attaches, begun, ended, is_spent}
use Rattle.law_server.specs.Speech.{SaidFor}
use Rattle.server_output.specs.Dues.{Dues}
use Rattle.server_session.specs.Says.{Says}
use Rattle.server_session.specs.Repeats.{says_all_again}
use Rattle.server_session.specs.declared.session.SessionState.{SessionState}
use Rattle.server_core.specs.One.{answer_of, lost_where, says_its_own, sends_all}
use Rattle.server_core.specs.Sessions.{AreKept}
use Rattle.server_core.specs.Server.{Stands, without_jobs_where, without_kept_where}
use Rattle.server_core.specs.Speech.{attached}
use Rattle.server_core.proofs.Names.{name-by, found-named}
use Rattle.server_core.proofs.Spent.{AreOthers, HasRoom, none-ends, one-ends, own-name}
use Rattle.server_core.proofs.SessionState.{HasItsName, others-kept}

-- ---- what a session leaves alone when it says messages that it has, and sends them

pub record SameRest (S : Type 0) (before after : Speaker S) : Type 0 where
  pub jobs : after.jobs ≡ before.jobs
  pub bindings : after.bindings ≡ before.bindings
  pub entries : after.entries ≡ before.entries

rest-same : {S : Type 0} (speaker : Speaker S) → SameRest S speaker speaker
rest-same speaker = record { jobs = refl; bindings = refl; entries = refl }

rest-then : {S : Type 0} (one two three : Speaker S) → SameRest S one two → SameRest S two three → SameRest S one three
rest-then one two three first next =
    record { jobs = next.jobs ∙ first.jobs; bindings = next.bindings ∙ first.bindings; entries = next.entries ∙ first.entries }

again-rest : {S : Type 0} (reply : Reply) (speaker : Speaker S) (said : Bool)
    → SameRest S speaker (cond said speaker (owes_message (message_of reply) speaker))
again-rest reply speaker true = rest-same speaker
again-rest reply speaker false = record { jobs = refl; bindings = refl; entries = refl }

all_again-rest : {S : Type 0} (replies : List Reply) (speaker : Speaker S) → SameRest S speaker (fold (λ speaker reply. says_again reply speaker) speaker replies)
all_again-rest [] speaker = rest-same speaker
all_again-rest {S} (reply ∷ replies) speaker =
    let next : Speaker S = says_again reply speaker in
    rest-then speaker next (fold (λ (speaker : Speaker S) (reply : Reply). says_again reply speaker) next replies)
    (again-rest reply speaker (has_said reply.number speaker)) (all_again-rest replies next)

new-rest : {S : Type 0} (setting : Setting S) (speaker : Speaker S) (accepted : Bool) → SameRest S speaker (cond accepted speaker (says_it_is_new setting speaker))
new-rest setting speaker true = rest-same speaker
new-rest setting speaker false = record { jobs = refl; bindings = refl; entries = refl }

attaches-rest : {S : Type 0} (setting : Setting S) (speaker : Speaker S) → SameRest S speaker (attaches setting speaker)
attaches-rest {S} setting speaker =
    let begun_so : Speaker S = cond (has_accepted speaker.session) speaker (says_it_is_new setting speaker) in
    rest-then speaker begun_so (attaches setting speaker) (new-rest setting speaker (has_accepted speaker.session))
    (all_again-rest (filter is_kept speaker.session.replies) begun_so)

seals-rest : {S : Type 0} (setting : Setting S) (salt : ℕ) (messages : List Message) (speaker : Speaker S) → SameRest S speaker (fold (seals setting salt) speaker messages)
seals-rest setting salt [] speaker = rest-same speaker
seals-rest setting salt (message ∷ messages) speaker =
    let rest = seals-rest setting salt messages (seals setting salt speaker message) in
    record { jobs = rest.jobs; bindings = rest.bindings; entries = rest.entries }

pub sends-rest : {S : Type 0} (setting : Setting S) (messages : List Message) (speaker : Speaker S) → SameRest S speaker (sends setting messages speaker)
sends-rest setting messages speaker =
    let ready = needs_salts setting 1 speaker in
    let counters = after_packets setting.now ready.session.counters messages in
    let rest = seals-rest setting (current_salt ready.session.salts setting.now) (packets_of setting.now ready.session.counters messages)
    (record ready { session = record ready.session { counters = counters } }) in
    record { jobs = rest.jobs; bindings = rest.bindings; entries = rest.entries }

sent-rest : {S : Type 0} (setting : Setting S) (messages : List Message) (speaker : Speaker S) → SameRest S speaker (sends_all setting messages speaker)
sent-rest setting [] speaker = rest-same speaker
sent-rest setting (message ∷ messages) speaker = sends-rest setting (message ∷ messages) speaker

pub own-rest : {S : Type 0} (setting : Setting S) (speaker : Speaker S) → SameRest S speaker (says_its_own setting speaker)
own-rest setting speaker = sent-rest setting (messages_by (name_of speaker.session) speaker.owed) speaker

pub attached-rest : {S : Type 0} (setting : Setting S) (speaker : Speaker S) → SameRest S speaker (attached setting speaker)
attached-rest {S} setting speaker =
    let said : Speaker S = attaches setting speaker in
    rest-then speaker said (attached setting speaker) (attaches-rest setting speaker)
    (sent-rest setting (messages_by (name_of said.session) said.owed) said)

again-sent : {S : Type 0} (reply : Reply) (speaker : Speaker S) (said : Bool) → (cond said speaker (owes_message (message_of reply) speaker)).sent ≡ speaker.sent
again-sent reply speaker true = refl
again-sent reply speaker false = refl

all_again-sent : {S : Type 0} (replies : List Reply) (speaker : Speaker S) → (fold (λ speaker reply. says_again reply speaker) speaker replies).sent ≡ speaker.sent
all_again-sent [] speaker = refl
all_again-sent {S} (reply ∷ replies) speaker =
    all_again-sent replies (says_again reply speaker) ∙ again-sent reply speaker (has_said reply.number speaker)

new-sent : {S : Type 0} (setting : Setting S) (speaker : Speaker S) (accepted : Bool) → (cond accepted speaker (says_it_is_new setting speaker)).sent ≡ speaker.sent
new-sent setting speaker true = refl
new-sent setting speaker false = refl

-- what is said isn't sent yet
pub attaches-sent : {S : Type 0} (setting : Setting S) (speaker : Speaker S) → (attaches setting speaker).sent ≡ speaker.sent
attaches-sent {S} setting speaker =
    all_again-sent (filter is_kept speaker.session.replies) (cond (has_accepted speaker.session) speaker (says_it_is_new setting speaker))
    ∙ new-sent setting speaker (has_accepted speaker.session)

-- ---- what an event of one session leaves

pub ends-so : HasItsName → {S D : Type 0} (setting : Setting D) (state : State D) (done : Speaker D) (name : Name) (so : Bool) (seal : S) (standings : List SessionState)
    (jobs : Queue) (bindings : List Binding) → AreKept setting.now standings (with_session done.session state.sessions) → jobs ≡ done.jobs → bindings ≡ done.bindings
    → Stands {S = S} (record {
      seal = seal;
      moment = setting.now;
      sessions = without_kept_where so name standings;
      jobs = without_jobs_where so name jobs;
      bindings = bindings;
    }) (answer_of setting (lost_where so name (spoken state done))).server
ends-so names setting state done name true seal standings jobs bindings are same same_bindings =
    record {
      moment = refl;
      sessions = others-kept names setting.now name standings (with_session done.session state.sessions) are;
      jobs = ap (without_jobs_of name.key name.session) same;
      bindings = same_bindings;
    }
ends-so names setting state done name false seal standings jobs bindings are same same_bindings =
    record { moment = refl; sessions = are; jobs = same; bindings = same_bindings }

-- what is sent and drawn doesn't hang on whether the session is lost
pub sent-where : {S : Type 0} (so : Bool) (name : Name) (state : State S) → (lost_where so name state).sent ≡ state.sent
sent-where true name state = refl
sent-where false name state = refl

pub drawn-where : {S : Type 0} (so : Bool) (name : Name) (state : State S) → (lost_where so name state).draw ≡ state.draw
drawn-where true name state = refl
drawn-where false name state = refl

pub entered-where : {S : Type 0} (so : Bool) (name : Name) (state : State S) → (lost_where so name state).entries ≡ state.entries
entered-where true name state = refl
entered-where false name state = refl

-- ---- a connection is opened for a session that is there

pub record IsThere (S : Type 0) (setting : Setting S) (name : Name) (server : Rules) (draw : S) (session : Session) : Type 0 where
  pub found : session_named name server.sessions ≡ Some session
  pub apart : AllPairs AreOthers server.sessions
  pub room : All HasRoom server.sessions
  pub speaks : (speaker : Speaker S) → SaidFor S speaker (attaches setting speaker)

pub attached-name : {S : Type 0} (setting : Setting S) (name : Name) (server : Rules) (draw : S) (session : Session) → IsThere S setting name server draw session
    → name_of (attached setting (speaker_in (begun server draw) session)).session ≡ name
attached-name {S} setting name server draw session there =
    let speaker : Speaker S = speaker_in (begun server draw) session in
    let said : SaidFor S speaker (attaches setting speaker) = there.speaks speaker in
    own-name setting (attaches setting speaker)
    ∙ (name-by (name_of (attaches setting speaker).session) (name_of session) said.key said.number ∙ found-named name server.sessions session there.found)

pub attach-gives : {S : Type 0} (setting : Setting S) (name : Name) (server : Rules) (draw : S) (session : Session) → IsThere S setting name server draw session
    → after_attach setting name server draw
    ≡ answer_of setting (lost_where (is_spent (attached setting (speaker_in (begun server draw) session)).session) name
    (spoken (begun server draw) (attached setting (speaker_in (begun server draw) session))))
attach-gives {S} setting name server draw session there =
    let state : State S = begun server draw in
    let speaker : Speaker S = speaker_in state session in
    let said : SaidFor S speaker (attaches setting speaker) = there.speaks speaker in
    let is : name_of (attaches setting speaker).session ≡ name =
    name-by (name_of (attaches setting speaker).session) (name_of session) said.key said.number ∙ found-named name server.sessions session there.found in
    let N : Name → Type 0 = λ name. All (λ (one : Owed). one.name ≡ name) said.owed.0 in
    let O : List Owed → Type 0 = λ owed. All (λ (one : Owed). one.name ≡ name) owed in
    let own = subst O (sym said.owed.1) (subst N (found-named name server.sessions session there.found) said.owed.2) in
    one-ends setting (attaches setting) state name session there.found there.apart there.room is own

-- none is there
pub none-gives : {S : Type 0} (setting : Setting S) (name : Name) (server : Rules) (draw : S) → session_named name server.sessions ≡ None
    → All HasRoom server.sessions → after_attach setting name server draw ≡ answer_of setting (begun server draw)
none-gives {S} setting name server draw none all =
    ap (λ (found : Option Session). ended setting (spoken_by found (attaches setting) (begun server draw))) none
    ∙ none-ends setting (begun server draw) all refl

-- ---- what it says first, and then all that it keeps

abbrev pub begun_so : {S : Type 0} → Setting S → Speaker S → Speaker S
begun_so setting speaker = cond (has_accepted speaker.session) speaker (says_it_is_new setting speaker)

new-replies : {S : Type 0} (setting : Setting S) (speaker : Speaker S) (accepted : Bool)
    → (cond accepted speaker (says_it_is_new setting speaker)).session.replies ≡ speaker.session.replies
new-replies setting speaker true = refl
new-replies setting speaker false = refl

pub all-again : {S : Type 0} (setting : Setting S) (speaker : Speaker S) → says_all_again (begun_so setting speaker) ≡ attaches setting speaker
all-again {S} setting speaker =
    ap (λ (replies : List Reply). fold (λ (so_far : Speaker S) (reply : Reply). says_again reply so_far) (begun_so setting speaker) (filter is_kept replies))
    (new-replies setting speaker (has_accepted speaker.session))

pub said-as : {S : Type 0} (now : ℕ) (standing other : SessionState) (owing more : Dues) (draw next : S) (speaker said : Speaker S) → other ≡ standing → more ≡ owing
    → next ≡ draw → said ≡ speaker → Says now standing owing draw speaker → Says now other more next said
said-as {S} now standing other owing more draw next speaker said same_standing same_owing same_draw same says =
    subst (λ (one : SessionState). Says now one more next said) (sym same_standing)
    (subst (λ (dues : Dues). Says now standing dues next said) (sym same_owing)
    (subst (λ (one : S). Says now standing owing one said) (sym same_draw)
    (subst (λ (one : Speaker S). Says now standing owing draw one) (sym same) says)))
