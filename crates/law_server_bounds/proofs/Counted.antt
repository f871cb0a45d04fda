-- One event owes few messages, and enters no more answers than it owes.
use Rattle.std.proofs.Common.{◌≡◌, ◌≢◌, ◌∙◌, ℕ, zero, suc, ◌+◌, ◌*◌, ◌≤◌, ltb, Bool, true, false, cond, Option, Some, None, List, [], ◌∷◌, ◌++◌, length, ap, sym, subst, refl, arith, inl, inr}
use Rattle.std.specs.Prelude.{map, fold, not, is_some, ◌&&◌, ◌==◌}
use Rattle.std.specs.List.{All, Contains, filter}
use Rattle.std.proofs.lemmas.Bool.{cases_Bool, cond_both, cond-true, cond-false, and_parts, eqb-true, eq-eqb, false≢true}
use Rattle.std.proofs.lemmas.List.{length-map, length_push}
use Rattle.std.proofs.lemmas.List.Elements.{All-head, All-tail}
use Rattle.service_tl.specs.declared.item.Item.TheVariants.{DestroySession, DestroySessionOk, DestroySessionNone, RpcResult}
use Rattle.service_tl.specs.declared.lists.Message.{Message}
use Rattle.packing.specs.Numbering.{numbered}
use Rattle.id_window.specs.History.{History}
use Rattle.inbox.specs.Verdicts.{Judgement, Verdict, Accepted, Again, Noticed}
use Rattle.waits.specs.declared.job.Job.{Job}
use Rattle.waits.specs.declared.job.Unfinished.{Unfinished}
use Rattle.waits.specs.Jobs.{Queue, accepted as with_job, after_answer, first_job, has_failed, is_call, is_overdue, is_ready, without_first, without_ready, without_session as without_jobs_of, is_of}
use Rattle.server_rules.specs.Server.{Name, Session, Reply, IsKept, is_kept, is_same, is_named, name_of, session_named, without_session, has_accepted}
use Rattle.server_rules.specs.Event.{Setting, State, Speaker, Owed, Entry, speaker_in, spoken_by, speaks, lost}
use Rattle.server_rules.specs.Speaking.{says, says_again, says_it_is_new, has_said, owes_message, message_of, answers, answers_in_place, records, needs_salts, msg_wait_failed, msg_wait_timeout}
use Rattle.server_rules.specs.Waiting.{Outlook, Over, InVain, GoesOn, outlook, told as told_so, gives_up, given_up, first_given_up, all_given_up, first_failed, first_overdue, after_failures, after_timeouts, tells_of}
use Rattle.server_rules.specs.Rows.{settles, row, owes, destroys}
use Rattle.server_rules.specs.Answer.{attaches, finishes, opens}
use Rattle.law_server_bounds.proofs.Lists.{none-some, filter-there}
use Rattle.law_server_bounds.proofs.Names.{names-same, cases_name, found-named, lost-named}
use Rattle.law_server_bounds.proofs.Unsaid.{has, not-true, unsaid, unsaid-further, unsaid-changed, unsaid-answered, unsaid-said}
use Rattle.law_server_bounds.proofs.Kept.{OnlyDrops}
use Rattle.law_server_bounds.proofs.Rows.{Steps, owed, given, new-said, opened, finished}

-- ---- queues

first-shorter : (test : Unfinished → Bool) (queue : Queue) → length (without_first test queue) ≤ length queue
first-shorter test [] = omega arith
first-shorter test (one ∷ queue) =
    let rest = first-shorter test queue in
    cond_both (test one) queue (one ∷ without_first test queue) (λ (left : Queue). length left ≤ length (one ∷ queue)) (λ is. omega arith) (λ is. omega arith)

first-out : (test : Unfinished → Bool) (queue : Queue) (job : Job) → first_job test queue ≡ Some job → length (without_first test queue) + 1 ≤ length queue
first-out test [] job is = absurd (none-some job is)
first-out test (one ∷ queue) job is =
    elim (cases_Bool (test one)) [
      | inl holds ↦ rw holds (omega arith)
      | inr fails ↦
          let rest = first-out test queue job (sym (cond-false (test one) (Some one.job) (first_job test queue) fails) ∙ is) in
          rw fails (omega (arith, rest))
    ]

told-length : (look : Outlook) (session : Session) (number : ℕ) (queue : Queue) → length (told_so look session number queue) ≡ length queue
told-length Over session number queue = length-map queue (after_answer session.key session.number number true)
told-length InVain session number queue = length-map queue (after_answer session.key session.number number false)
told-length GoesOn session number queue = refl

pub filter-shorter : (test : Unfinished → Bool) (queue : Queue) → length (filter test queue) ≤ length queue
filter-shorter test [] = omega arith
filter-shorter test (one ∷ queue) =
    let rest = filter-shorter test queue in
    cond_both (test one) (one ∷ filter test queue) (filter test queue) (λ (left : Queue). length left ≤ length (one ∷ queue)) (λ is. omega arith) (λ is. omega arith)

pub ready-shorter : (place : ℕ) (queue : Queue) → length (without_ready place queue) ≤ length queue
ready-shorter place [] = omega arith
ready-shorter zero (one ∷ queue) =
    let rest = ready-shorter zero queue in
    cond_both (is_ready one) queue (one ∷ without_ready zero queue) (λ (left : Queue). length left ≤ length (one ∷ queue)) (λ is. omega arith) (λ is. omega arith)
ready-shorter (suc place) (one ∷ queue) =
    let rest = ready-shorter (cond (is_ready one) place (suc place)) queue in omega (arith, rest)

-- ---- counts

-- so many messages are owed, and no more entries are made
pub record Counts (n owed jobs unsaid entries : ℕ) : Type 0 where
  pub total : owed + jobs + unsaid ≤ n
  pub entered : entries ≤ owed

counts-more : (n m owed jobs unsaid entries : ℕ) → n ≤ m → Counts n owed jobs unsaid entries → Counts m owed jobs unsaid entries
counts-more n m owed jobs unsaid entries le counts =
    let total = counts.total in record { total = omega (arith, total, le); entered = counts.entered }

abbrev pub UnsaidAt : Name → List Owed → Option Session → ℕ
UnsaidAt name owed None = 0
UnsaidAt name owed (Some session) = unsaid name owed session.replies

at-further : (name : Name) (found : Option Session) (owed : List Owed) (one : Owed) → UnsaidAt name (owed ++ one ∷ []) found ≤ UnsaidAt name owed found
at-further name None owed one = omega arith
at-further name (Some session) owed one = unsaid-further name owed (one ∷ []) session.replies

-- what the laws say of sessions that speak
pub record Speak (S : Type 0) : Type 0 where
  pub own : (name : Name) (speak : Speaker S → Speaker S) (state : State S) (session : Session) → session_named name state.sessions ≡ Some session
      → name_of (speak (speaker_in state session)).session ≡ name
      → session_named name (speaks name speak state).sessions ≡ Some (speak (speaker_in state session)).session
  pub others : (name other : Name) (speak : Speaker S → Speaker S) (state : State S) (session : Session) → session_named name state.sessions ≡ Some session
      → name_of (speak (speaker_in state session)).session ≡ name → other ≢ name
      → session_named other (speaks name speak state).sessions ≡ session_named other state.sessions

module _ {S : Type 0} (laws : Speak S) (setting : Setting S) (own : Name) where
  -- a speaker of this name
  pub record P (n : ℕ) (x : Speaker S) : Type 0 where
    pub named : name_of x.session ≡ own
    pub counts : Counts n (length x.owed) (length x.jobs) (unsaid own x.owed x.session.replies) (length x.entries)
    pub unsent : x.sent ≡ []

  abbrev F : List ℕ → Type 0
  F content = Unit {0}

  -- one message more is owed
  owes-one : (message : Message) (n : ℕ) (x : Speaker S) → P n x → P (suc n) (owes_message message x)
  owes-one message n x p =
      let one : Owed = record { name = name_of x.session; message = message } in
      let longer = length_push x.owed one in
      let less = unsaid-further own x.owed (one ∷ []) x.session.replies in
      let total = p.counts.total in
      let entered = p.counts.entered in
      record { named = p.named; counts = record { total = omega (arith, longer, less, total); entered = omega (arith, longer, entered) }; unsent = p.unsent }

  more-p : (n : ℕ) (x : Speaker S) → P n x → P (suc n) x
  more-p n x p =
      record {
        named = p.named;
        counts = counts-more n (suc n) (length x.owed) (length x.jobs) (unsaid own x.owed x.session.replies) (length x.entries) (omega arith) p.counts;
        unsent = p.unsent;
      }

  answered-p : (call : ℕ) (content : List ℕ) (n : ℕ) (x : Speaker S) → P n x → P (suc n) (answers setting call content x)
  answered-p call content n x p =
      let message = numbered setting.now x.session.counters (RpcResult call content) in
      let one : Owed = record { name = name_of x.session; message = message } in
      let reply : Reply = record { call = call; number = message.number; seq = message.seq; content = content; fate = IsKept } in
      let longer = length_push x.owed one in
      let less = unsaid-answered (length message.body) own x.owed one x.session.replies reply (names-same (name_of x.session) own p.named) refl in
      let total = p.counts.total in
      let entered = p.counts.entered in
      record { named = p.named; counts = record { total = omega (arith, longer, less, total); entered = omega (arith, longer, entered) }; unsent = p.unsent }

  placed-p : (ran : Bool) (call : ℕ) (request content : List ℕ) (n : ℕ) (x : Speaker S) → P n x → P (suc n) (records ran call request content (answers setting call content x))
  placed-p ran call request content n x p =
      let message = numbered setting.now x.session.counters (RpcResult call content) in
      let one : Owed = record { name = name_of x.session; message = message } in
      let entry : Entry = record { key = x.session.key; session = x.session.number; number = call; request = request; reply = content; ran = ran } in
      let after = answered-p call content n x p in
      let longer = length_push x.owed one in
      let more = length_push x.entries entry in
      let entered = p.counts.entered in
      record { named = p.named; counts = record { total = after.counts.total; entered = omega (arith, longer, more, entered) }; unsent = p.unsent }

  repeated-p : (reply : Reply) (n : ℕ) (x : Speaker S) → P n x → P (suc n) (says_again reply x)
  repeated-p reply n x p =
      cond_both (has_said reply.number x) x (owes_message (message_of reply) x) (P (suc n)) (λ is. more-p n x p) (λ is. owes-one (message_of reply) n x p)

  kept-p : (reply : Reply) (n : ℕ) (x : Speaker S) → Contains x.session.replies reply → is_kept reply ≡ true → P n x → P n (says_again reply x)
  kept-p reply n x there is_so p =
      cond_both (has_said reply.number x) x (owes_message (message_of reply) x) (P n) (λ is. p)
      (λ is.
      let message = message_of reply in
      let one : Owed = record { name = name_of x.session; message = message } in
      let none : has own x.owed reply.number ≡ false = sym (ap (λ (name : Name). has name x.owed reply.number) p.named) ∙ is in
      let longer = length_push x.owed one in
      let less = unsaid-said own x.owed one reply x.session.replies there is_so none (names-same (name_of x.session) own p.named) refl in
      let total = p.counts.total in
      let entered = p.counts.entered in
      record { named = p.named; counts = record { total = omega (arith, longer, less, total); entered = omega (arith, longer, entered) }; unsent = p.unsent })

  fated-p : (change : Reply → Reply) (n : ℕ) (x : Speaker S) → OnlyDrops change → P n x → P n (record x { session = record x.session { replies = map change x.session.replies } })
  fated-p change n x only p =
      let less = unsaid-changed change only own x.owed x.session.replies in
      let total = p.counts.total in
      record { named = p.named; counts = record { total = omega (arith, less, total); entered = p.counts.entered }; unsent = p.unsent }

  joined-p : (job : Job) (n : ℕ) (x : Speaker S) → P n x → P (suc n) (record x { jobs = with_job job x.jobs })
  joined-p job n x p =
      let one : Unfinished = record { job = job; failed = false } in
      let longer = length_push x.jobs one in
      let total = p.counts.total in
      record { named = p.named; counts = record { total = omega (arith, longer, total); entered = p.counts.entered }; unsent = p.unsent }

  taken-p : (test : Unfinished → Bool) (n : ℕ) (x : Speaker S) → P n x → P n (record x { jobs = without_first test x.jobs })
  taken-p test n x p =
      let shorter = first-shorter test x.jobs in
      let total = p.counts.total in
      record { named = p.named; counts = record { total = omega (arith, shorter, total); entered = p.counts.entered }; unsent = p.unsent }

  told-p : (number n : ℕ) (x : Speaker S) → P n x → P n (tells_of number x)
  told-p number n x p =
      let same = told-length (outlook x.session x.jobs number) x.session number x.jobs in
      let total = p.counts.total in
      record { named = p.named; counts = record { total = omega (arith, same, total); entered = p.counts.entered }; unsent = p.unsent }

  -- what leaves all that is counted as it is
  as-it-is : (n : ℕ) (x y : Speaker S) → name_of y.session ≡ name_of x.session → y.owed ≡ x.owed → y.jobs ≡ x.jobs → y.session.replies ≡ x.session.replies → y.entries ≡ x.entries
      → y.sent ≡ x.sent → P n x → P n y
  as-it-is n x y name owed jobs replies entries sent p =
      let o = ap (λ (owed : List Owed). length owed) owed in
      let j = ap (λ (jobs : Queue). length jobs) jobs in
      let u = ap (λ (owed : List Owed). unsaid own owed y.session.replies) owed ∙ ap (λ (replies : List Reply). unsaid own x.owed replies) replies in
      let e = ap (λ (entries : List Entry). length entries) entries in
      let total = p.counts.total in
      let entered = p.counts.entered in
      record { named = name ∙ p.named; counts = record { total = omega (arith, o, j, u, total); entered = omega (arith, o, e, entered) }; unsent = sent ∙ p.unsent }

  steps : Steps S setting F P
  steps = record {
    fine = λ content fits. tt;
    more = more-p;
    said = λ item n x p.
        as-it-is (suc n) (owes_message (numbered setting.now x.session.counters item) x) (says setting item x) refl refl refl refl refl refl
        (owes-one (numbered setting.now x.session.counters item) n x p);
    salted = λ count n x p. as-it-is n x (needs_salts setting count x) refl refl refl refl refl refl p;
    answered = λ call content n x fine p. answered-p call content n x p;
    placed = λ ran call request content n x fine p. placed-p ran call request content n x p;
    repeated = repeated-p;
    kept = kept-p;
    fated = fated-p;
    joined = λ job n x key session room p. joined-p job n x p;
    ended = λ job request content n x fine p.
        let test = is_call job.key job.session job.number in
        placed-p false job.number request content n (record x { jobs = without_first test x.jobs }) (taken-p test n x p);
    told = told-p;
    bound = λ bindings n x p. as-it-is n x (record x { bindings = bindings }) refl refl refl refl refl refl p;
    past = λ history n x p. as-it-is n x (record x { session = record x.session { history = history } }) refl refl refl refl refl refl p;
  }

  -- ---- all sessions

  pub record G (n : ℕ) (state : State S) : Type 0 where
    pub counts : Counts n (length state.owed) (length state.jobs) (UnsaidAt own state.owed (session_named own state.sessions)) (length state.entries)
    pub unsent : state.sent ≡ []

  pub more-g : (n m : ℕ) (state : State S) → n ≤ m → G n state → G m state
  more-g n m state le g =
      record {
        counts = counts-more n m (length state.owed) (length state.jobs) (UnsaidAt own state.owed (session_named own state.sessions)) (length state.entries) le g.counts;
        unsent = g.unsent;
      }

  by-own : (found : Option Session) (n m : ℕ) (speak : Speaker S → Speaker S) (state : State S) → session_named own state.sessions ≡ found → n ≤ m
      → ((x : Speaker S) → P n x → P m (speak x)) → G n state → G m (spoken_by found speak state)
  by-own None n m speak state is le goes g = more-g n m state le g
  by-own (Some session) n m speak state is le goes g =
      let x = speaker_in state session in
      let here = ap (λ (found : Option Session). UnsaidAt own state.owed found) is in
      let total = g.counts.total in
      let before : P n x = record { named = found-named own state.sessions session is; counts = record { total = omega (arith, here, total); entered = g.counts.entered }; unsent = g.unsent } in
      let after = goes x before in
      let Q : Option Session → Type 0 = λ found. session_named own (spoken_by found speak state).sessions ≡ Some (speak x).session in
      let there = ap (λ (found : Option Session). UnsaidAt own (speak x).owed found) (subst Q is (laws.own own speak state session is after.named)) in
      let later = after.counts.total in
      record { counts = record { total = omega (arith, there, later); entered = after.counts.entered }; unsent = after.unsent }

  own-speaks : (n m : ℕ) (speak : Speaker S → Speaker S) (state : State S) → n ≤ m → ((x : Speaker S) → P n x → P m (speak x)) → G n state → G m (speaks own speak state)
  own-speaks n m speak state le goes g = by-own (session_named own state.sessions) n m speak state refl le goes g

  -- ---- jobs that are given up

  by-other : (found : Option Session) (name : Name) (content : List ℕ) (job : Job) (n : ℕ) (state : State S) → session_named name state.sessions ≡ found → own ≢ name
      → G n state → G (suc n) (spoken_by found (gives_up setting content job) state)
  by-other None name content job n state is apart g = more-g n (suc n) state (omega arith) g
  by-other (Some session) name content job n state is apart g =
      let speak = gives_up setting content job in
      let x = speaker_in state session in
      let Q : Option Session → Type 0 = λ found. session_named own (spoken_by found speak state).sessions ≡ session_named own state.sessions in
      let same = subst Q is (laws.others name own speak state session is (found-named name state.sessions session is) apart) in
      let message = numbered setting.now session.counters (RpcResult job.number content) in
      let one : Owed = record { name = name_of session; message = message } in
      let entry : Entry = record { key = session.key; session = session.number; number = job.number; request = job.request; reply = content; ran = false } in
      let longer = length_push state.owed one in
      let more = length_push state.entries entry in
      let done = answers_in_place setting job.number job.request content x in
      let jobs = told-length (outlook done.session done.jobs job.number) done.session job.number done.jobs in
      let there = ap (λ (found : Option Session). UnsaidAt own (speak x).owed found) same in
      let less = at-further own (session_named own state.sessions) state.owed one in
      let total = g.counts.total in
      let entered = g.counts.entered in
      record { counts = record { total = omega (arith, longer, jobs, there, less, total); entered = omega (arith, longer, more, entered) }; unsent = g.unsent }

  one-given : (content : List ℕ) (job : Job) (n : ℕ) (state : State S) → G n state → G (suc n) (given_up setting content (Some job) state)
  one-given content job n state g =
      let name : Name = record { key = job.key; session = job.session } in
      elim (cases_name own name) [
        | inl same ↦
            let Q : Name → Type 0 = λ name. G (suc n) (speaks name (gives_up setting content job) state) in
            subst Q same (own-speaks n (suc n) (gives_up setting content job) state (omega arith) (λ x p. given setting F P steps content job n x tt p) g)
        | inr apart ↦ by-other (session_named name state.sessions) name content job n state refl apart g
      ]

  left : (n : ℕ) (jobs : Queue) (state : State S) → length jobs ≤ length state.jobs → G n state → G n (record state { jobs = jobs })
  left n jobs state shorter g =
      let total = g.counts.total in
      record { counts = record { total = omega (arith, shorter, total); entered = g.counts.entered }; unsent = g.unsent }

  left-one : (n : ℕ) (jobs : Queue) (state : State S) → length jobs + 1 ≤ length state.jobs → G (suc n) state → G n (record state { jobs = jobs })
  left-one n jobs state shorter g =
      let total = g.counts.total in
      record { counts = record { total = omega (arith, shorter, total); entered = g.counts.entered }; unsent = g.unsent }

  first-given : (content : List ℕ) (found : Option Job) (n : ℕ) (rest : Queue) (state : State S)
      → length rest ≤ length state.jobs → ((job : Job) → found ≡ Some job → length rest + 1 ≤ length state.jobs)
      → G n state → G n (given_up setting content found (record state { jobs = rest }))
  first-given content None n rest state shorter out g = left n rest state shorter g
  first-given content (Some job) zero rest state shorter out g =
      let total = g.counts.total in
      let one = out job refl in
      absurd (omega (arith, total, one))
  first-given content (Some job) (suc n) rest state shorter out g = one-given content job n (record state { jobs = rest }) (left-one n rest state (out job refl) g)

  all-given : (content : List ℕ) (test : Unfinished → Bool) (times n : ℕ) (state : State S) → G n state
      → G n (all_given_up setting content (λ queue. (first_job test queue, without_first test queue)) times state)
  all-given content test zero n state g = g
  all-given content test (suc times) n state g =
      all-given content test times n (first_given_up setting content (λ queue. (first_job test queue, without_first test queue)) state)
      (first-given content (first_job test state.jobs) n (without_first test state.jobs) state (first-shorter test state.jobs) (λ job is. first-out test state.jobs job is) g)

  pub failures : (n : ℕ) (state : State S) → G n state → G n (after_failures setting state)
  failures n state g = all-given msg_wait_failed has_failed (length state.jobs) n state g

  pub timeouts : (n : ℕ) (state : State S) → G n state → G n (after_timeouts setting state)
  timeouts n state g = all-given msg_wait_timeout (is_overdue setting.now) (length state.jobs) n state g

  -- ---- judgements

  lost-other : (n : ℕ) (other : Name) (state : State S) → own ≢ other → G n state → G n (lost other state)
  lost-other n other state apart g =
      let same = ap (λ (found : Option Session). UnsaidAt own state.owed found) (lost-named other own state.sessions apart) in
      let shorter = filter-shorter (λ one. not (is_of other.key other.session one)) state.jobs in
      let total = g.counts.total in
      record { counts = record { total = omega (arith, same, shorter, total); entered = g.counts.entered }; unsent = g.unsent }

  destroyed-g : (number destroyed n : ℕ) (state : State S) → G n state → G (suc n) (destroys setting number destroyed own state)
  destroyed-g number destroyed n state g =
      let other : Name = record own { session = destroyed } in
      let test = not (destroyed == own.session) && is_some (session_named other state.sessions) in
      cond_both test (speaks own (says setting (DestroySessionOk destroyed)) (lost other state)) (speaks own (says setting (DestroySessionNone destroyed)) state) (G (suc n))
      (λ is.
      let off = not-true (destroyed == own.session) (and_parts (not (destroyed == own.session)) (is_some (session_named other state.sessions)) is).0 in
      let apart : own ≢ other = λ same. false≢true (sym off ∙ eq-eqb destroyed own.session (sym (ap (λ (name : Name). name.session) same))) in
      own-speaks n (suc n) (says setting (DestroySessionOk destroyed)) (lost other state) (omega arith) (λ x p. Steps.said steps (DestroySessionOk destroyed) n x p) (lost-other n other state apart g))
      (λ is. own-speaks n (suc n) (says setting (DestroySessionNone destroyed)) state (omega arith) (λ x p. Steps.said steps (DestroySessionNone destroyed) n x p) g)

  owed-g : (number seq : ℕ) (verdict : Verdict) (body : List ℕ) (n : ℕ) (state : State S) → G n state → G (suc (suc n)) (speaks own (owes setting number seq verdict body) state)
  owed-g number seq verdict body n state g =
      own-speaks n (suc (suc n)) (owes setting number seq verdict body) state (omega arith) (λ x p. owed setting F P steps number seq verdict body n x p) g

  row-g : (number seq : ℕ) (verdict : Verdict) (body : List ℕ) (n : ℕ) (state : State S) → G n state → G (suc (suc n)) (row setting own number seq verdict body state)
  row-g number seq (Accepted (DestroySession destroyed)) body n state g =
      more-g (suc n) (suc (suc n)) (destroys setting number destroyed own state) (omega arith) (destroyed-g number destroyed n state g)
  row-g number seq (Accepted item) body n state g = owed-g number seq (Accepted item) body n state g
  row-g number seq (Again mark) body n state g = owed-g number seq (Again mark) body n state g
  row-g number seq (Noticed code) body n state g = owed-g number seq (Noticed code) body n state g

  pub settled : (judged : List (Judgement × List ℕ)) (n : ℕ) (state : State S) → G n state → G (n + 2 * length judged) (fold (settles setting own) state judged)
  settled [] n state g = more-g n (n + 2 * 0) state (omega arith) g
  settled ((judgement, body) ∷ judged) n state g =
      let done = row setting own judgement.number judgement.seq judgement.verdict body state in
      let next = settles setting own state (judgement, body) in
      let after : G (suc (suc n)) next =
      failures (suc (suc n)) (speaks own (tells_of judgement.number) done)
      (own-speaks (suc (suc n)) (suc (suc n)) (tells_of judgement.number) done (omega arith) (λ x p. told-p judgement.number (suc (suc n)) x p)
      (row-g judgement.number judgement.seq judgement.verdict body n state g)) in
      more-g (suc (suc n) + 2 * length judged) (n + 2 * suc (length judged)) (fold (settles setting own) next judged) (omega arith) (settled judged (suc (suc n)) next after)

  -- ---- other events

  pub opened-g : (history : History) (judged : List Judgement) (n : ℕ) (state : State S) → G n state → G (suc (suc n)) (speaks own (opens setting history judged) state)
  opened-g history judged n state g =
      own-speaks n (suc (suc n)) (opens setting history judged) state (omega arith) (λ x p. opened setting F P steps history judged n x p) g

  all-kept : (replies : List Reply) (n : ℕ) (x : Speaker S) → All (λ reply. Contains x.session.replies reply × (is_kept reply ≡ true)) replies → P n x
      → P n (fold (λ speaker reply. says_again reply speaker) x replies)
  all-kept [] n x all p = p
  all-kept (reply ∷ replies) n x all p =
      let There : Speaker S → Reply → Type 0 = λ x reply. Contains x.session.replies reply × (is_kept reply ≡ true) in
      let first = All-head (There x) reply replies all in
      let rest : All (There (says_again reply x)) replies =
      cond_both (has_said reply.number x) x (owes_message (message_of reply) x) (λ (y : Speaker S). All (There y) replies) (λ is. All-tail (There x) reply replies all) (λ is. All-tail (There x) reply replies all) in
      all-kept replies n (says_again reply x) rest (kept-p reply n x first.0 first.1 p)

  attached-p : (n : ℕ) (x : Speaker S) → P n x → P (suc n) (attaches setting x)
  attached-p n x p =
      let ready = cond (has_accepted x.session) x (says_it_is_new setting x) in
      let is_ready : P (suc n) ready = cond_both (has_accepted x.session) x (says_it_is_new setting x) (P (suc n)) (λ is. more-p n x p) (λ is. new-said setting F P steps n x p) in
      let There : Speaker S → Reply → Type 0 = λ x reply. Contains x.session.replies reply × (is_kept reply ≡ true) in
      let there : All (There ready) (filter is_kept x.session.replies) =
      cond_both (has_accepted x.session) x (says_it_is_new setting x) (λ (y : Speaker S). All (There y) (filter is_kept x.session.replies))
      (λ is. filter-there is_kept x.session.replies) (λ is. filter-there is_kept x.session.replies) in
      all-kept (filter is_kept x.session.replies) (suc n) ready there is_ready

  pub attached-g : (n : ℕ) (state : State S) → G n state → G (suc n) (speaks own (attaches setting) state)
  attached-g n state g = own-speaks n (suc n) (attaches setting) state (omega arith) (λ x p. attached-p n x p) g

  pub finished-g : (job : Job) (reply : List ℕ) (n : ℕ) (state : State S) → G n state → G (suc n) (speaks own (finishes setting job reply) state)
  finished-g job reply n state g =
      own-speaks n (suc n) (finishes setting job reply) state (omega arith) (λ x p. finished setting F P steps job reply n x tt p) g
