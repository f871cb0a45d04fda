-- What a session that has accepted nothing owes to a packet goes out together.
use Rattle.std.proofs.Common.{◌≡◌, ◌∙◌, ℕ, false, Option, Some, List, [], ◌∷◌, ap, sym, subst, refl}
use Rattle.service_tl.specs.declared.lists.Message.{Message}
use Rattle.packing.specs.Packing.{groups}
use Rattle.inbox.specs.Inbox.{was_heard}
use Rattle.server_rules.specs.Server.{Session, name_of, remembered, session_named}
use Rattle.server_rules.specs.Event.{Envelope, Owed, Setting, State}
use Rattle.server_rules.specs.Sending.{messages_by}
use Rattle.server_rules.specs.Answer.{message_in, takes_by}
use Rattle.law_server.specs.Order.{IsOrderly, jobs_of}
use Rattle.law_server.specs.Lives.{history_by, way_of}
use Rattle.law_server.proofs.Counting.{any}
use Rattle.law_server.proofs.Going.{Known}
use Rattle.law_server.proofs.Living.{no-jobs}
use Rattle.law_server.proofs.Onward.{Floors}
use Rattle.law_server.proofs.Mute.{IsMute, IsUnheard, Mute}
use Rattle.law_server.proofs.Opening.{Nothing, New, takes-mute, unheard-before}
use Rattle.law_server.proofs.Small.{one-group}
use Rattle.law_server.proofs.Packed.{short-new}
use Rattle.law_server.proofs.Announced.{Quiet}

pub goes-together : {S : Type 0} (known : Known S) (quiet : Quiet) (floors : Floors) (setting : Setting S) (envelope : Envelope) (state : State S) (session : Session) → state.sent ≡ [] → state.owed ≡ []
    → IsOrderly session.history session.replies session.counters.last (jobs_of (name_of session) state.jobs)
    → session_named (name_of session) state.sessions ≡ Some session → was_heard (history_by setting envelope session) ≡ false
    → groups (messages_by (name_of session) (takes_by setting envelope (Some session) state).owed) ≡ messages_by (name_of session) (takes_by setting envelope (Some session) state).owed ∷ []
goes-together {S} known quiet floors setting envelope state session sent owed order found unheard =
    let name = name_of session in
    let mute : Mute = record { name = name; first = session.first; unique = session.unique } in
    let more = floors.added (way_of setting envelope session) (remembered session) (message_in envelope) in
    let unheard_now : was_heard session.history ≡ false = unheard-before session.history more.0 (ap was_heard (sym more.1) ∙ unheard) in
    let U : Option Session → Type 0 = IsUnheard mute in
    let m : IsMute S mute Nothing state = record {
      unheard = subst U (sym found) (refl, refl, quiet.replies session.history session.replies session.counters.last (jobs_of name state.jobs) order unheard_now, unheard_now);
      jobs = no-jobs name state.jobs (quiet.jobs session.history session.replies session.counters.last (jobs_of name state.jobs) order unheard_now) any;
      owed = ap (messages_by name) owed;
      sent = sent;
    } in
    let done = takes-mute known setting mute envelope session state found unheard m in
    let new = done.owed in
    let P : List Message → Type 0 = λ messages. groups messages ≡ messages ∷ [] in
    subst P (sym new.2) (one-group new.0 new.1 (short-new session.first session.unique new.0 new.3) new.4 new.5)
