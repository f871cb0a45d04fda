-- What a session does, step by step, leaves it in order.
use Rattle.std.proofs.Common.{◌≡◌, ◌∙◌, ℕ, ◌+◌, ◌≤◌, Bool, true, false, cond, List, [], ◌∷◌, ◌++◌, length, ap, sym, subst, refl, arith}
use Rattle.std.specs.Prelude.{map}
use Rattle.std.proofs.lemmas.Bool.{cond_both}
use Rattle.std.proofs.lemmas.List.Elements.{filter-append}
use Rattle.std.proofs.lemmas.List.{append-nil}
use Rattle.msg_ids.specs.Counters.{next_number}
use Rattle.service_tl.specs.declared.item.Item.{Item}
use Rattle.service_tl.specs.declared.item.Item.TheVariants.{RpcResult}
use Rattle.outbox.specs.Replies.{fits}
use Rattle.packing.specs.Numbering.{numbered}
use Rattle.id_window.specs.History.{History}
use Rattle.waits.specs.declared.job.Job.{Job}
use Rattle.waits.specs.declared.job.Unfinished.{Unfinished}
use Rattle.waits.specs.Jobs.{Queue, is_of, accepted, settled}
use Rattle.server_rules.specs.Server.{Name, Session, Reply, IsKept, is_kept, kept_replies}
use Rattle.server_rules.specs.Event.{Setting, Speaker}
use Rattle.server_rules.specs.Speaking.{says, says_again, has_said, dropped, made_room, answers, answers_in_place}
use Rattle.server_rules.specs.Waiting.{Outlook, Over, InVain, GoesOn, outlook, told, tells_of}
use Rattle.law_server.specs.Order.{WasCalled, IsMidway, Speaks, IsSpeaking, jobs_of}
use Rattle.law_server.proofs.Midway.{stamp, midway-given, midway-fates, midway-told, midway-leaves, midway-job, midway-out, midway-answered}
use Rattle.law_server.proofs.Own.{of-another, is-of, filter-first, filter-other, settled-own, settled-others, IsTaken, around-own, around-others}

-- ---- messages

pub next-above : (last now : ℕ) → last + 4 ≤ next_number last now
next-above last now = grind arith

pub says-keeps : {S : Type 0} (setting : Setting S) (item : Item) (name : Name) (others : Name → Queue) (past : History) (opened : List ℕ) (speaker : Speaker S)
    → IsSpeaking name others past opened speaker → IsSpeaking name others past opened (says setting item speaker)
says-keeps setting item name others past opened speaker s =
    let last = speaker.session.counters.last in
    let above = next-above last setting.now in
    record {
      of_key = s.of_key;
      of_session = s.of_session;
      same = s.same;
      midway = midway-given opened speaker.session.history speaker.session.replies last (next_number last setting.now) (jobs_of name speaker.jobs) (omega arith) s.midway;
      apart = s.apart;
    }

pub says_again-keeps : {S : Type 0} (reply : Reply) (name : Name) (others : Name → Queue) (past : History) (opened : List ℕ) (speaker : Speaker S)
    → IsSpeaking name others past opened speaker → IsSpeaking name others past opened (says_again reply speaker)
says_again-keeps {S} reply name others past opened speaker s =
    cond_both (has_said reply.number speaker) speaker _ (λ (speaker : Speaker S). IsSpeaking name others past opened speaker) (λ is. s) (λ is. s)

-- ---- answers

stamp-dropped : (reply : Reply) → stamp (dropped reply) ≡ stamp reply
stamp-dropped reply = cond_both (is_kept reply) _ reply (λ (other : Reply). stamp other ≡ stamp reply) (λ is. refl) (λ is. refl)

pub room-stamps : (bytes : ℕ) (replies : List Reply) → map stamp replies ≡ map stamp (made_room bytes replies)
room-stamps bytes [] = refl
room-stamps bytes (reply ∷ replies) =
    let first : stamp (cond (fits bytes (kept_replies (reply ∷ replies))) reply (dropped reply)) ≡ stamp reply =
    cond_both (fits bytes (kept_replies (reply ∷ replies))) reply (dropped reply) (λ (other : Reply). stamp other ≡ stamp reply) (λ is. refl) (λ is. stamp-dropped reply) in
    ap (λ (one : Reply). one ∷ map stamp replies) (sym first)
    ∙ ap (λ (rest : List Reply). stamp (cond (fits bytes (kept_replies (reply ∷ replies))) reply (dropped reply)) ∷ rest) (room-stamps bytes replies)

pub answers-keeps : {S : Type 0} (setting : Setting S) (call : ℕ) (content : List ℕ) (name : Name) (others : Name → Queue) (past : History) (opened : List ℕ) (speaker : Speaker S)
    → IsSpeaking name others past (call ∷ opened) speaker → IsSpeaking name others past opened (answers setting call content speaker)
answers-keeps setting call content name others past opened speaker s =
    let last = speaker.session.counters.last in
    let message = numbered setting.now speaker.session.counters (RpcResult call content) in
    let above = next-above last setting.now in
    let replies = speaker.session.replies in
    let made = made_room (length message.body) replies in
    let reply : Reply = record { call = call; number = message.number; seq = message.seq; content = content; fate = IsKept } in
    record {
      of_key = s.of_key;
      of_session = s.of_session;
      same = s.same;
      midway =
          midway-answered reply opened speaker.session.history made last (next_number last setting.now) (jobs_of name speaker.jobs) (omega arith) (omega arith)
          (midway-fates (call ∷ opened) speaker.session.history replies made last (jobs_of name speaker.jobs) (room-stamps (length message.body) replies) s.midway);
      apart = s.apart;
    }

pub in_place-keeps : {S : Type 0} (setting : Setting S) (call : ℕ) (request content : List ℕ) (name : Name) (others : Name → Queue) (past : History) (opened : List ℕ) (speaker : Speaker S)
    → IsSpeaking name others past (call ∷ opened) speaker → IsSpeaking name others past opened (answers_in_place setting call request content speaker)
in_place-keeps setting call request content name others past opened speaker s = answers-keeps setting call content name others past opened speaker s

-- an open number may be left as it is
pub leaves-keeps : {S : Type 0} (number : ℕ) (name : Name) (others : Name → Queue) (past : History) (opened : List ℕ) (speaker : Speaker S)
    → IsSpeaking name others past (number ∷ opened) speaker → IsSpeaking name others past opened speaker
leaves-keeps number name others past opened speaker s = record {
  of_key = s.of_key;
  of_session = s.of_session;
  same = s.same;
  midway = midway-leaves number opened speaker.session.history speaker.session.replies speaker.session.counters.last (jobs_of name speaker.jobs) s.midway;
  apart = s.apart;
}

-- ---- jobs

-- what the jobs of the session are told
abbrev Parts : Name → (Name → Queue) → History → List ℕ → ℕ → ℕ → History → List Reply → ℕ → Queue → Type 0
Parts name others past opened key session history replies last jobs = Speaks name others past opened key session history replies last jobs

settled-keeps : (number : ℕ) (ok : Bool) (name : Name) (others : Name → Queue) (past : History) (opened : List ℕ) (history : History) (replies : List Reply) (last : ℕ) (jobs : Queue)
    → Parts name others past opened name.key name.session history replies last jobs
    → Parts name others past opened name.key name.session history replies last (settled name.key name.session number ok jobs)
settled-keeps number ok name others past opened history replies last jobs s = record {
  of_key = refl;
  of_session = refl;
  same = s.same;
  midway =
      midway-told opened history replies last (jobs_of name jobs) (jobs_of name (settled name.key name.session number ok jobs))
      (settled-own name name.key name.session number ok jobs) s.midway;
  apart = λ other apart. settled-others name other number ok jobs apart ∙ s.apart other apart;
}

-- the key and the number of the session that speaks are those of its name
renamed : (P : ℕ → ℕ → Type 0) (key session : ℕ) (name : Name) → key ≡ name.key → session ≡ name.session → P name.key name.session → P key session
renamed P key session name of_key of_session is =
    let Q : ℕ → Type 0 = λ k. P k session in
    let R : ℕ → Type 0 = λ s. P name.key s in
    subst Q (sym of_key) (subst R (sym of_session) is)

renamed_back : (P : ℕ → ℕ → Type 0) (key session : ℕ) (name : Name) → key ≡ name.key → session ≡ name.session → P key session → P name.key name.session
renamed_back P key session name of_key of_session is =
    let Q : ℕ → Type 0 = λ k. P k session in
    let R : ℕ → Type 0 = λ s. P name.key s in
    subst R of_session (subst Q of_key is)

pub settled-speaks : (number : ℕ) (ok : Bool) (name : Name) (others : Name → Queue) (past : History) (opened : List ℕ) (key session : ℕ) (history : History) (replies : List Reply) (last : ℕ) (jobs : Queue)
    → Speaks name others past opened key session history replies last jobs
    → Speaks name others past opened key session history replies last (settled key session number ok jobs)
settled-speaks number ok name others past opened key session history replies last jobs s =
    renamed (λ (k s : ℕ). Speaks name others past opened k s history replies last (settled k s number ok jobs)) key session name s.of_key s.of_session
    (settled-keeps number ok name others past opened history replies last jobs
    (renamed_back (λ (k s : ℕ). Speaks name others past opened k s history replies last jobs) key session name s.of_key s.of_session s))

told-speaks : (look : Outlook) (number : ℕ) (name : Name) (others : Name → Queue) (past : History) (opened : List ℕ) (session : Session) (jobs : Queue)
    → Speaks name others past opened session.key session.number session.history session.replies session.counters.last jobs
    → Speaks name others past opened session.key session.number session.history session.replies session.counters.last (told look session number jobs)
told-speaks Over number name others past opened session jobs s =
    settled-speaks number true name others past opened session.key session.number session.history session.replies session.counters.last jobs s
told-speaks InVain number name others past opened session jobs s =
    settled-speaks number false name others past opened session.key session.number session.history session.replies session.counters.last jobs s
told-speaks GoesOn number name others past opened session jobs s = s

pub tells-keeps : {S : Type 0} (number : ℕ) (name : Name) (others : Name → Queue) (past : History) (opened : List ℕ) (speaker : Speaker S)
    → IsSpeaking name others past opened speaker → IsSpeaking name others past opened (tells_of number speaker)
tells-keeps number name others past opened speaker s =
    told-speaks (outlook speaker.session speaker.jobs number) number name others past opened speaker.session speaker.jobs s

-- an open number that is a call becomes a job
pub job-keeps : {S : Type 0} (job : Job) (name : Name) (others : Name → Queue) (past : History) (opened : List ℕ) (speaker : Speaker S)
    → job.key ≡ speaker.session.key → job.session ≡ speaker.session.number → WasCalled job.number speaker.session.history
    → IsSpeaking name others past (job.number ∷ opened) speaker → IsSpeaking name others past opened (record speaker { jobs = accepted job speaker.jobs })
job-keeps job name others past opened speaker of_key of_session called s =
    let one : Unfinished = record { job = job; failed = false } in
    let session = speaker.session in
    let own = is-of name.key name.session one (of_key ∙ s.of_key) (of_session ∙ s.of_session) in
    let all : jobs_of name (accepted job speaker.jobs) ≡ jobs_of name speaker.jobs ++ one ∷ [] =
    filter-append (is_of name.key name.session) speaker.jobs (one ∷ [])
    ∙ ap (λ (rest : Queue). jobs_of name speaker.jobs ++ rest) (filter-first (is_of name.key name.session) one [] own) in
    let P : Queue → Type 0 = IsMidway opened session.history session.replies session.counters.last in
    record {
      of_key = s.of_key;
      of_session = s.of_session;
      same = s.same;
      midway = subst P (sym all) (midway-job one opened session.history session.replies session.counters.last (jobs_of name speaker.jobs) called s.midway);
      apart = λ other apart.
          filter-append (is_of other.key other.session) speaker.jobs (one ∷ [])
          ∙ (ap (λ (rest : Queue). jobs_of other speaker.jobs ++ rest) (filter-other (is_of other.key other.session) one [] (of-another other name one (λ is. apart (sym is)) own))
          ∙ (append-nil (jobs_of other speaker.jobs) ∙ s.apart other apart));
    }

-- a job of the session is taken out, and its number is open
pub taken-speaks : (job : Job) (rest : Queue) (name : Name) (others : Name → Queue) (past : History) (opened : List ℕ) (key session : ℕ) (history : History) (replies : List Reply) (last : ℕ) (jobs : Queue)
    → IsTaken job jobs rest → job.key ≡ name.key → job.session ≡ name.session
    → Speaks name others past opened key session history replies last jobs → Speaks name others past (job.number ∷ opened) key session history replies last rest
taken-speaks job rest name others past opened key session history replies last jobs taken of_key of_session s =
    let own = is-of name.key name.session taken.one (ap (λ (job : Job). job.key) taken.is ∙ of_key) (ap (λ (job : Job). job.session) taken.is ∙ of_session) in
    let P : Queue → Type 0 = IsMidway opened history replies last in
    let Q : Queue → Type 0 = IsMidway (taken.one.job.number ∷ opened) history replies last in
    let R : Job → Type 0 = λ job. IsMidway (job.number ∷ opened) history replies last (jobs_of name rest) in
    let with_one = ap (jobs_of name) taken.all ∙ around-own name taken.before taken.one taken.after own in
    let without : jobs_of name rest ≡ jobs_of name taken.before ++ jobs_of name taken.after =
    ap (jobs_of name) taken.others ∙ filter-append (is_of name.key name.session) taken.before taken.after in
    record {
      of_key = s.of_key;
      of_session = s.of_session;
      same = s.same;
      midway =
          subst R taken.is (subst Q (sym without)
          (midway-out (jobs_of name taken.before) taken.one (jobs_of name taken.after) opened history replies last (subst P with_one s.midway)));
      apart = λ other apart.
          ap (jobs_of other) taken.others
          ∙ (sym (around-others other taken.before taken.one taken.after (of-another other name taken.one (λ is. apart (sym is)) own))
          ∙ (ap (jobs_of other) (sym taken.all) ∙ s.apart other apart));
    }
