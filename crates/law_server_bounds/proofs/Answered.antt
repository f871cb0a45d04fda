-- A call that a packet brings is a job or answered from its row on.
use Rattle.std.proofs.Common.{◌≡◌, ◌≢◌, ◌∙◌, ℕ, zero, suc, eqb, ◌==◌, ◌&&◌, Bool, true, false, cond, Option, Some, None, List, [], ◌∷◌, ◌++◌, length, ap, sym, subst, refl, arith, inl, inr}
use Rattle.std.specs.Prelude.{map, fold, not, is_some, ◌⊎◌, ◌||◌}
use Rattle.std.specs.List.{Contains, filter, list_any}
use Rattle.std.proofs.lemmas.Bool.{cases_Bool, cond_both, cond-true, cond-false, and_parts, and_from, eq-eqb, eqb-true, false≢true}
use Rattle.std.proofs.lemmas.List.Folds.{list_any-append}
use Rattle.service_tl.specs.declared.item.Item.{Item}
use Rattle.service_tl.specs.declared.item.Item.TheVariants.{DestroySession, DestroySessionOk, DestroySessionNone, RpcResult, Call, InvokeAfterMsg, InvokeAfterMsgs}
use Rattle.service_tl.specs.declared.lists.Message.{Message}
use Rattle.salt_line.specs.Line.{current_salt}
use Rattle.packing.specs.Numbering.{numbered}
use Rattle.packing.specs.Packing.{after_packets, packets_of}
use Rattle.id_window.specs.History.{History}
use Rattle.outbox.specs.Replies.{fits}
use Rattle.inbox.specs.Verdicts.{Judgement, Verdict, Accepted, Again, Noticed}
use Rattle.waits.specs.declared.job.Job.{Job}
use Rattle.waits.specs.declared.job.Unfinished.{Unfinished}
use Rattle.waits.specs.Jobs.{Queue, accepted as with_job, after_answer, first_job, has_failed, is_call, is_of, told, waits_for, without_first, without_session as without_jobs_of}
use Rattle.server_rules.specs.Server.{Name, Session, Reply, IsKept, is_kept, kept_replies, name_of, session_named, without_session}
use Rattle.server_rules.specs.Event.{Setting, State, Speaker, Owed, speaker_in, spoken_by, speaks, lost}
use Rattle.server_rules.specs.Speaking.{says, says_again, has_said, owes_message, message_of, answers, answers_in_place, dropped, made_room, msg_wait_failed, needs_salts, records}
use Rattle.server_rules.specs.Waiting.{Outlook, Over, InVain, GoesOn, outlook, told as told_so, after_failures, all_given_up, first_failed, first_given_up, given_up, gives_up, tells_of}
use Rattle.server_rules.specs.Calls.{accepts_call, becomes_job, job_of, refusal}
use Rattle.server_rules.specs.Rows.{destroys, owes, row, settles}
use Rattle.server_rules.specs.Sending.{messages_by, seals, sends}
use Rattle.law_server.specs.Order.{is_for_service}
use Rattle.law_server_bounds.specs.Taking.{HasJob, HasReply, Taken}
use Rattle.law_server_bounds.proofs.Lists.{none-some, some-same}
use Rattle.law_server_bounds.proofs.Names.{cases_name, found-named, lost-named, lost-none, named}
use Rattle.law_server_bounds.proofs.Unsaid.{not-true}
use Rattle.law_server_bounds.proofs.Kept.{OnlyDrops}
use Rattle.law_server_bounds.proofs.Counted.{Speak}
use Rattle.law_server_bounds.proofs.Rows.{Steps, owed, given, opened}

-- ---- replies and jobs of a number

any-left : {X : Type 0} (test : X → Bool) (xs ys : List X) → list_any test xs ≡ true → list_any test (xs ++ ys) ≡ true
any-left test xs ys is = list_any-append test xs ys ∙ ap (λ (b : Bool). b || list_any test ys) is

any-last : {X : Type 0} (test : X → Bool) (xs : List X) (x : X) → test x ≡ true → list_any test (xs ++ x ∷ []) ≡ true
any-last test [] x is = rw is refl
any-last test (first ∷ xs) x is =
    let rest = any-last test xs x is in
    elim (cases_Bool (test first)) [ inl one ↦ rw one refl | inr one ↦ rw one rest ]

any-map : {X : Type 0} (test : X → Bool) (change : X → X) (xs : List X) → ((x : X) → test (change x) ≡ test x) → list_any test (map change xs) ≡ list_any test xs
any-map test change [] same = refl
any-map test change (x ∷ xs) same =
    ap (λ (b : Bool). b || list_any test (map change xs)) (same x) ∙ ap (λ (b : Bool). test x || b) (any-map test change xs same)

dropped-call : (number : ℕ) (reply : Reply) → ((dropped reply).call == number) ≡ (reply.call == number)
dropped-call number reply = cond_both (is_kept reply) _ reply (λ (after : Reply). (after.call == number) ≡ (reply.call == number)) (λ is. refl) (λ is. refl)

room-any : (number bytes : ℕ) (replies : List Reply) → HasReply number replies → HasReply number (made_room bytes replies)
room-any number bytes [] is = is
room-any number bytes (reply ∷ replies) is =
    let first = cond (fits bytes (kept_replies (reply ∷ replies))) reply (dropped reply) in
    let same : (first.call == number) ≡ (reply.call == number) =
    cond_both (fits bytes (kept_replies (reply ∷ replies))) reply (dropped reply) (λ (after : Reply). (after.call == number) ≡ (reply.call == number)) (λ is. refl) (λ is. dropped-call number reply) in
    elim (cases_Bool (reply.call == number)) [
      | inl own ↦ ap (λ (b : Bool). b || list_any (λ reply. reply.call == number) (made_room bytes replies)) (same ∙ own)
      | inr other ↦
          let rest : HasReply number replies = sym (ap (λ (b : Bool). b || list_any (λ reply. reply.call == number) replies) other) ∙ is in
          ap (λ (b : Bool). b || list_any (λ reply. reply.call == number) (made_room bytes replies)) (same ∙ other) ∙ room-any number bytes replies rest
    ]

-- what isn't taken out stays
first-stays : (test p : Unfinished → Bool) (queue : Queue) → ((one : Unfinished) → test one ≡ true → first_job test queue ≡ Some one.job → p one ≡ false)
    → list_any p queue ≡ true → list_any p (without_first test queue) ≡ true
first-stays test p [] off is = is
first-stays test p (one ∷ queue) off is =
    elim (cases_Bool (test one)) [
      | inl holds ↦
          let other = off one holds (cond-true (test one) (Some one.job) (first_job test queue) holds) in
          let rest : list_any p queue ≡ true = sym (ap (λ (b : Bool). b || list_any p queue) other) ∙ is in
          rw holds rest
      | inr fails ↦
          let later : (next : Unfinished) → test next ≡ true → first_job test queue ≡ Some next.job → p next ≡ false =
          λ next holds found. off next holds (cond-false (test one) (Some one.job) (first_job test queue) fails ∙ found) in
          elim (cases_Bool (p one)) [
            | inl own ↦ rw (fails, own) refl
            | inr other ↦
                let rest : list_any p queue ≡ true = sym (ap (λ (b : Bool). b || list_any p queue) other) ∙ is in
                rw (fails, other) (first-stays test p queue later rest)
          ]
    ]

told-call : (key session number told_number : ℕ) (ok : Bool) (one : Unfinished) → is_call key session number (told told_number ok one) ≡ is_call key session number one
told-call key session number told_number true one = refl
told-call key session number told_number false one = refl

after-call : (key session number of_key of_session told_number : ℕ) (ok : Bool) (one : Unfinished)
    → is_call key session number (after_answer of_key of_session told_number ok one) ≡ is_call key session number one
after-call key session number of_key of_session told_number ok one =
    cond_both (waits_for of_key of_session told_number one) (told told_number ok one) one (λ (after : Unfinished). is_call key session number after ≡ is_call key session number one)
    (λ is. told-call key session number told_number ok one) (λ is. refl)

told-job : (own : Name) (number : ℕ) (look : Outlook) (session : Session) (told_number : ℕ) (jobs : Queue) → HasJob own number jobs → HasJob own number (told_so look session told_number jobs)
told-job own number Over session told_number jobs is =
    any-map (is_call own.key own.session number) (after_answer session.key session.number told_number true) jobs (after-call own.key own.session number session.key session.number told_number true) ∙ is
told-job own number InVain session told_number jobs is =
    any-map (is_call own.key own.session number) (after_answer session.key session.number told_number false) jobs (after-call own.key own.session number session.key session.number told_number false) ∙ is
told-job own number GoesOn session told_number jobs is = is

call-number : (key session number : ℕ) (one : Unfinished) → is_call key session number one ≡ true → one.job.number ≡ number
call-number key session number one is = eqb-true one.job.number number (and_parts (is_of key session one) (one.job.number == number) is).1

call-name : (own : Name) (number : ℕ) (one : Unfinished) → is_call own.key own.session number one ≡ true → own ≡ named one.job.key one.job.session
call-name own number one is =
    let of = and_parts (one.job.key == own.key) (one.job.session == own.session) (and_parts (is_of own.key own.session one) (one.job.number == number) is).0 in
    ap (λ (key : ℕ). named key own.session) (sym (eqb-true one.job.key own.key of.0)) ∙ ap (λ (session : ℕ). named one.job.key session) (sym (eqb-true one.job.session own.session of.1))

off-by : (b : Bool) → (b ≡ true → ⊥) → b ≡ false
off-by true not_so = absurd (not_so refl)
off-by false not_so = refl

module _ {S : Type 0} (laws : Speak S) (setting : Setting S) (own : Name) (number : ℕ) where
  -- a speaker of this name, whose call it is
  record P (n : ℕ) (x : Speaker S) : Type 0 where
    named_so : name_of x.session ≡ own
    taken : Taken own number x.session.replies x.jobs

  abbrev F : List ℕ → Type 0
  F content = Unit {0}

  reply-of : (call : ℕ) (content : List ℕ) (x : Speaker S) → HasReply call (answers setting call content x).session.replies
  reply-of call content x =
      let message = numbered setting.now x.session.counters (RpcResult call content) in
      let reply : Reply = record { call = call; number = message.number; seq = message.seq; content = content; fate = IsKept } in
      any-last (λ reply. reply.call == call) (made_room (length message.body) x.session.replies) reply (eq-eqb call call refl)

  more-reply : (call : ℕ) (content : List ℕ) (x : Speaker S) → HasReply number x.session.replies → HasReply number (answers setting call content x).session.replies
  more-reply call content x is =
      let message = numbered setting.now x.session.counters (RpcResult call content) in
      let reply : Reply = record { call = call; number = message.number; seq = message.seq; content = content; fate = IsKept } in
      any-left (λ reply. reply.call == number) (made_room (length message.body) x.session.replies) (reply ∷ []) (room-any number (length message.body) x.session.replies is)

  replied : (call : ℕ) (content : List ℕ) (x : Speaker S) → Taken own number x.session.replies x.jobs → Taken own number (answers setting call content x).session.replies x.jobs
  replied call content x (inl is) = inl (more-reply call content x is)
  replied call content x (inr is) = inr is

  answered-p : (call : ℕ) (content : List ℕ) (n m : ℕ) (x : Speaker S) → P n x → P m (answers setting call content x)
  answered-p call content n m x p = record { named_so = p.named_so; taken = replied call content x p.taken }

  placed-p : (ran : Bool) (call : ℕ) (request content : List ℕ) (n m : ℕ) (x : Speaker S) → P n x → P m (records ran call request content (answers setting call content x))
  placed-p ran call request content n m x p = record { named_so = p.named_so; taken = replied call content x p.taken }

  again-p : (reply : Reply) (n m : ℕ) (x : Speaker S) → P n x → P m (says_again reply x)
  again-p reply n m x p =
      cond_both (has_said reply.number x) x (owes_message (message_of reply) x) (P m) (λ is. record { named_so = p.named_so; taken = p.taken }) (λ is. record { named_so = p.named_so; taken = p.taken })

  fated-t : (change : Reply → Reply) (replies : List Reply) (jobs : Queue) → OnlyDrops change → Taken own number replies jobs → Taken own number (map change replies) jobs
  fated-t change replies jobs only (inl is) =
      inl (any-map (λ reply. reply.call == number) change replies (λ reply. ap (λ (call : ℕ). call == number) (only reply).0) ∙ is)
  fated-t change replies jobs only (inr is) = inr is

  joined-t : (job : Job) (replies : List Reply) (jobs : Queue) → Taken own number replies jobs → Taken own number replies (with_job job jobs)
  joined-t job replies jobs (inl is) = inl is
  joined-t job replies jobs (inr is) = inr (any-left (is_call own.key own.session number) jobs (record { job = job; failed = false } ∷ []) is)

  told-t : (look : Outlook) (session : Session) (told_number : ℕ) (replies : List Reply) (jobs : Queue) → Taken own number replies jobs → Taken own number replies (told_so look session told_number jobs)
  told-t look session told_number replies jobs (inl is) = inl is
  told-t look session told_number replies jobs (inr is) = inr (told-job own number look session told_number jobs is)

  -- a job that is answered as it is taken out
  ended-t : (job : Job) (content : List ℕ) (x : Speaker S) → Taken own number x.session.replies x.jobs
      → Taken own number (answers setting job.number content x).session.replies (without_first (is_call job.key job.session job.number) x.jobs)
  ended-t job content x (inl is) = inl (more-reply job.number content x is)
  ended-t job content x (inr is) =
      elim (cases_Bool (job.number == number)) [
        | inl same ↦
            let N : ℕ → Type 0 = λ number. HasReply number (answers setting job.number content x).session.replies in
            inl (subst N (eqb-true job.number number same) (reply-of job.number content x))
        | inr other ↦
            inr (first-stays (is_call job.key job.session job.number) (is_call own.key own.session number) x.jobs
            (λ one holds found. off-by (is_call own.key own.session number one)
            (λ own_call. false≢true (sym other ∙ eq-eqb job.number number (sym (call-number job.key job.session job.number one holds) ∙ call-number own.key own.session number one own_call)))) is)
      ]

  steps : Steps S setting F P
  steps = record {
    fine = λ content fits. tt;
    more = λ n x p. record { named_so = p.named_so; taken = p.taken };
    said = λ item n x p. record { named_so = p.named_so; taken = p.taken };
    salted = λ count n x p. record { named_so = p.named_so; taken = p.taken };
    answered = λ call content n x fine p. answered-p call content n (suc n) x p;
    placed = λ ran call request content n x fine p. placed-p ran call request content n (suc n) x p;
    repeated = λ reply n x p. again-p reply n (suc n) x p;
    kept = λ reply n x there is p. again-p reply n n x p;
    fated = λ change n x only p. record { named_so = p.named_so; taken = fated-t change x.session.replies x.jobs only p.taken };
    joined = λ job n x key session room p. record { named_so = p.named_so; taken = joined-t job x.session.replies x.jobs p.taken };
    ended = λ job request content n x fine p. record { named_so = p.named_so; taken = ended-t job content x p.taken };
    told = λ told_number n x p. record { named_so = p.named_so; taken = told-t (outlook x.session x.jobs told_number) x.session told_number x.session.replies x.jobs p.taken };
    bound = λ bindings n x p. record { named_so = p.named_so; taken = p.taken };
    past = λ history n x p. record { named_so = p.named_so; taken = p.taken };
  }

  -- ---- all sessions

  -- where the session stands, its call is a job or answered
  abbrev pub Good : State S → Type 0
  Good state = (session : Session) → session_named own state.sessions ≡ Some session → Taken own number session.replies state.jobs

  by-own : (found : Option Session) (speak : Speaker S → Speaker S) (state : State S) → session_named own state.sessions ≡ found
      → ((session : Session) → session_named own state.sessions ≡ Some session → P 0 (speak (speaker_in state session))) → Good (spoken_by found speak state)
  by-own None speak state is goes = λ after there. absurd (none-some after (sym is ∙ there))
  by-own (Some session) speak state is goes = λ after there.
      let x = speaker_in state session in
      let p = goes session is in
      let Q : Option Session → Type 0 = λ found. session_named own (spoken_by found speak state).sessions ≡ Some (speak x).session in
      let same : (speak x).session ≡ after = some-same (speak x).session after (sym (subst Q is (laws.own own speak state session is p.named_so)) ∙ there) in
      let T : Session → Type 0 = λ session. Taken own number session.replies (speak x).jobs in
      subst T same p.taken

  own-speaks : (speak : Speaker S → Speaker S) (state : State S) → ((x : Speaker S) → P 0 x → P 0 (speak x)) → Good state → Good (speaks own speak state)
  own-speaks speak state goes good =
      by-own (session_named own state.sessions) speak state refl
      (λ session is. goes (speaker_in state session) (record { named_so = found-named own state.sessions session is; taken = good session is }))

  job-then : (replies : List Reply) (jobs after : Queue) → (HasJob own number jobs → HasJob own number after) → Taken own number replies jobs → Taken own number replies after
  job-then replies jobs after then (inl is) = inl is
  job-then replies jobs after then (inr is) = inr (then is)

  by-other : (found : Option Session) (name : Name) (speak : Speaker S → Speaker S) (state : State S) → session_named name state.sessions ≡ found → own ≢ name
      → ((x : Speaker S) → name_of (speak x).session ≡ name_of x.session) → ((x : Speaker S) → HasJob own number x.jobs → HasJob own number (speak x).jobs)
      → Good state → Good (spoken_by found speak state)
  by-other None name speak state is apart names then good = good
  by-other (Some session) name speak state is apart names then good = λ after there.
      let x = speaker_in state session in
      let Q : Option Session → Type 0 = λ found. session_named own (spoken_by found speak state).sessions ≡ session_named own state.sessions in
      let same = subst Q is (laws.others name own speak state session is (names x ∙ found-named name state.sessions session is) apart) in
      job-then after.replies state.jobs (speak x).jobs (then x) (good after (sym same ∙ there))

  any-speaks : (name : Name) (speak : Speaker S → Speaker S) (state : State S) → ((x : Speaker S) → P 0 x → P 0 (speak x))
      → ((x : Speaker S) → name_of (speak x).session ≡ name_of x.session) → ((x : Speaker S) → HasJob own number x.jobs → HasJob own number (speak x).jobs)
      → Good state → Good (speaks name speak state)
  any-speaks name speak state goes names then good =
      elim (cases_name own name) [
        | inl same ↦
            let G : Name → Type 0 = λ name. Good (speaks name speak state) in
            subst G same (own-speaks speak state goes good)
        | inr apart ↦ by-other (session_named name state.sessions) name speak state refl apart names then good
      ]

  -- ---- jobs that fail

  gives-job : (content : List ℕ) (job : Job) (x : Speaker S) → HasJob own number x.jobs → HasJob own number (gives_up setting content job x).jobs
  gives-job content job x is =
      let done = answers_in_place setting job.number job.request content x in
      told-job own number (outlook done.session done.jobs job.number) done.session job.number done.jobs is

  gives-answer : (content : List ℕ) (job : Job) (x : Speaker S) → job.number ≡ number → name_of x.session ≡ own → P 0 (gives_up setting content job x)
  gives-answer content job x same named_so =
      let N : ℕ → Type 0 = λ number. HasReply number (answers setting job.number content x).session.replies in
      record { named_so = named_so; taken = inl (subst N same (reply-of job.number content x)) }

  -- where its job is taken out it is answered, else its job is left
  one-given : (content : List ℕ) (test : Unfinished → Bool) (found : Option Job) (state : State S) → first_job test state.jobs ≡ found → Good state
      → Good (given_up setting content found (record state { jobs = without_first test state.jobs }))
  one-given content test None state is good = λ after there.
      job-then after.replies state.jobs (without_first test state.jobs)
      (first-stays test (is_call own.key own.session number) state.jobs (λ one holds found. absurd (none-some one.job (sym is ∙ found)))) (good after there)
  one-given content test (Some job) state is good =
      let name : Name = named job.key job.session in
      let rest : State S = record state { jobs = without_first test state.jobs } in
      let speak = gives_up setting content job in
      let left : ((own ≡ name) × (job.number ≡ number) → ⊥) → Good rest = λ not_own after there.
      job-then after.replies state.jobs rest.jobs
      (first-stays test (is_call own.key own.session number) state.jobs
      (λ one holds found. off-by (is_call own.key own.session number one)
      (λ call.
      let same : one.job ≡ job = some-same one.job job (sym found ∙ is) in
      not_own (call-name own number one call ∙ ap (λ (job : Job). named job.key job.session) same, ap (λ (job : Job). job.number) (sym same) ∙ call-number own.key own.session number one call))))
      (good after there) in
      let goes : Good rest → Good (speaks name speak rest) = λ good.
      any-speaks name speak rest (λ x p. record { named_so = p.named_so; taken = (given setting F P steps content job 0 x tt p).taken }) (λ x. refl) (λ x is. gives-job content job x is) good in
      elim (cases_name own name) [
        | inl same ↦
            elim (cases_Bool (job.number == number)) [
              | inl own_number ↦
                  let G : Name → Type 0 = λ name. Good (speaks name speak rest) in
                  subst G same
                  (by-own (session_named own rest.sessions) speak rest refl
                  (λ session there. gives-answer content job (speaker_in rest session) (eqb-true job.number number own_number) (found-named own rest.sessions session there)))
              | inr other ↦ goes (left (λ both. false≢true (sym other ∙ eq-eqb job.number number both.1)))
            ]
        | inr apart ↦ goes (left (λ both. apart both.0))
      ]

  failures : (times : ℕ) (state : State S) → Good state → Good (all_given_up setting msg_wait_failed first_failed times state)
  failures zero state good = good
  failures (suc times) state good =
      failures times (first_given_up setting msg_wait_failed first_failed state) (one-given msg_wait_failed has_failed (first_job has_failed state.jobs) state refl good)

  all-failures : (state : State S) → Good state → Good (after_failures setting state)
  all-failures state good = failures (length state.jobs) state good

  -- ---- sessions that are lost

  lost-job : (name : Name) (jobs : Queue) → own ≢ name → HasJob own number jobs → HasJob own number (without_jobs_of name.key name.session jobs)
  lost-job name [] apart is = is
  lost-job name (one ∷ jobs) apart is =
      elim (cases_Bool (is_of name.key name.session one)) [
        | inl holds ↦
            let parts = and_parts (one.job.key == name.key) (one.job.session == name.session) holds in
            let its : named one.job.key one.job.session ≡ name =
            ap (λ (key : ℕ). named key one.job.session) (eqb-true one.job.key name.key parts.0) ∙ ap (λ (session : ℕ). named name.key session) (eqb-true one.job.session name.session parts.1) in
            let off = off-by (is_call own.key own.session number one) (λ call. apart (call-name own number one call ∙ its)) in
            let rest : HasJob own number jobs = sym (ap (λ (b : Bool). b || list_any (is_call own.key own.session number) jobs) off) ∙ is in
            rw holds (lost-job name jobs apart rest)
        | inr fails ↦
            elim (cases_Bool (is_call own.key own.session number one)) [
              | inl call ↦ rw (fails, call) refl
              | inr other ↦
                  let rest : HasJob own number jobs = sym (ap (λ (b : Bool). b || list_any (is_call own.key own.session number) jobs) other) ∙ is in
                  rw (fails, other) (lost-job name jobs apart rest)
            ]
      ]

  pub lost-good : (name : Name) (state : State S) → own ≢ name → Good state → Good (lost name state)
  lost-good name state apart good = λ after there.
      job-then after.replies state.jobs (without_jobs_of name.key name.session state.jobs) (lost-job name state.jobs apart)
      (good after (sym (lost-named name own state.sessions apart) ∙ there))

  -- ---- judgements

  destroyed : (message other_number : ℕ) (state : State S) → Good state → Good (destroys setting message other_number own state)
  destroyed message other_number state good =
      let other : Name = record own { session = other_number } in
      let test = not (other_number == own.session) && is_some (session_named other state.sessions) in
      cond_both test (speaks own (says setting (DestroySessionOk other_number)) (lost other state)) (speaks own (says setting (DestroySessionNone other_number)) state) Good
      (λ is.
      let off = not-true (other_number == own.session) (and_parts (not (other_number == own.session)) (is_some (session_named other state.sessions)) is).0 in
      let apart : own ≢ other = λ same. false≢true (sym off ∙ eq-eqb other_number own.session (sym (ap (λ (name : Name). name.session) same))) in
      own-speaks (says setting (DestroySessionOk other_number)) (lost other state) (λ x p. record { named_so = p.named_so; taken = p.taken }) (lost-good other state apart good))
      (λ is. own-speaks (says setting (DestroySessionNone other_number)) state (λ x p. record { named_so = p.named_so; taken = p.taken }) good)

  owed-good : (message seq : ℕ) (verdict : Verdict) (body : List ℕ) (state : State S) → Good state → Good (speaks own (owes setting message seq verdict body) state)
  owed-good message seq verdict body state good =
      own-speaks (owes setting message seq verdict body) state
      (λ x p. let q = owed setting F P steps message seq verdict body 0 x p in record { named_so = q.named_so; taken = q.taken }) good

  rowed : (message seq : ℕ) (verdict : Verdict) (body : List ℕ) (state : State S) → Good state → Good (row setting own message seq verdict body state)
  rowed message seq (Accepted (DestroySession other_number)) body state good = destroyed message other_number state good
  rowed message seq (Accepted item) body state good = owed-good message seq (Accepted item) body state good
  rowed message seq (Again mark) body state good = owed-good message seq (Again mark) body state good
  rowed message seq (Noticed code) body state good = owed-good message seq (Noticed code) body state good

  tells-good : (told_number : ℕ) (state : State S) → Good state → Good (speaks own (tells_of told_number) state)
  tells-good told_number state good =
      own-speaks (tells_of told_number) state
      (λ x p. record { named_so = p.named_so; taken = told-t (outlook x.session x.jobs told_number) x.session told_number x.session.replies x.jobs p.taken }) good

  pub all-settled : (judged : List (Judgement × List ℕ)) (state : State S) → Good state → Good (fold (settles setting own) state judged)
  all-settled [] state good = good
  all-settled ((judgement, body) ∷ judged) state good =
      let done = row setting own judgement.number judgement.seq judgement.verdict body state in
      all-settled judged (settles setting own state (judgement, body))
      (all-failures (speaks own (tells_of judgement.number) done) (tells-good judgement.number done (rowed judgement.number judgement.seq judgement.verdict body state good)))

  -- ---- its own row

  becomes : (job : Job) (content : Option (List ℕ)) (x : Speaker S) → name_of x.session ≡ own → job.key ≡ x.session.key → job.session ≡ x.session.number → job.number ≡ number
      → P 0 (becomes_job setting job content x)
  becomes job (Some content) x named_so key session same =
      let N : ℕ → Type 0 = λ number. HasReply number (answers setting job.number content x).session.replies in
      record { named_so = named_so; taken = inl (subst N same (reply-of job.number content x)) }
  becomes job None x named_so key session same =
      let one : Unfinished = record { job = job; failed = false } in
      let is =
      and_from (is_of own.key own.session one) (job.number == number)
      (and_from (job.key == own.key) (job.session == own.session) (eq-eqb job.key own.key (key ∙ ap (λ (name : Name). name.key) named_so)) (eq-eqb job.session own.session (session ∙ ap (λ (name : Name). name.session) named_so)))
      (eq-eqb job.number number same) in
      record { named_so = named_so; taken = inr (any-last (is_call own.key own.session number) x.jobs one is) }

  called : (numbers request : List ℕ) (state : State S) → Good (speaks own (accepts_call setting number numbers request) state)
  called numbers request state =
      by-own (session_named own state.sessions) (accepts_call setting number numbers request) state refl
      (λ session is.
      let x = speaker_in state session in
      let job = job_of setting number numbers request x in
      becomes job (refusal setting job x) x (found-named own state.sessions session is) refl refl refl)

  row-by : (item : Item) (seq : ℕ) (body : List ℕ) (state : State S) → is_for_service item ≡ true → Good (row setting own number seq (Accepted item) body state)
  row-by Call seq body state is = called [] body state
  row-by (InvokeAfterMsg other query) seq body state is = called (other ∷ []) query state
  row-by (InvokeAfterMsgs others query) seq body state is = called others query state
  row-by _ seq body state is = absurd (false≢true is)

  pub first-settled : (item : Item) (judgement : Judgement) (body : List ℕ) (judged : List (Judgement × List ℕ)) (state : State S) → is_for_service item ≡ true → judgement.number ≡ number
      → judgement.verdict ≡ Accepted item → Good (fold (settles setting own) state ((judgement, body) ∷ judged))
  first-settled item judgement body judged state is same verdict =
      let R : Verdict → Type 0 = λ verdict. Good (row setting own number judgement.seq verdict body state) in
      let N : ℕ → Type 0 = λ message. Good (row setting own message judgement.seq judgement.verdict body state) in
      let done = row setting own judgement.number judgement.seq judgement.verdict body state in
      all-settled judged (settles setting own state (judgement, body))
      (all-failures (speaks own (tells_of judgement.number) done)
      (tells-good judgement.number done (subst N (sym same) (subst R (sym verdict) (row-by item judgement.seq body state is)))))

  -- ---- the end

  sealed-p : (salt : ℕ) (packets : List Message) (x : Speaker S) → P 0 x → P 0 (fold (seals setting salt) x packets)
  sealed-p salt [] x p = p
  sealed-p salt (packet ∷ packets) x p = sealed-p salt packets (seals setting salt x packet) (record { named_so = p.named_so; taken = p.taken })

  sends-p : (messages : List Message) (x : Speaker S) → P 0 x → P 0 (sends setting messages x)
  sends-p messages x p =
      let ready = needs_salts setting 1 x in
      let counters = after_packets setting.now ready.session.counters messages in
      sealed-p (current_salt ready.session.salts setting.now) (packets_of setting.now ready.session.counters messages)
      (record ready { session = record ready.session { counters = counters } }) (record { named_so = p.named_so; taken = p.taken })

  sealed-same : (salt : ℕ) (packets : List Message) (x : Speaker S)
      → (name_of (fold (seals setting salt) x packets).session ≡ name_of x.session) × ((fold (seals setting salt) x packets).jobs ≡ x.jobs)
  sealed-same salt [] x = (refl, refl)
  sealed-same salt (packet ∷ packets) x = sealed-same salt packets (seals setting salt x packet)

  sends-same : (messages : List Message) (x : Speaker S) → (name_of (sends setting messages x).session ≡ name_of x.session) × ((sends setting messages x).jobs ≡ x.jobs)
  sends-same messages x =
      let ready = needs_salts setting 1 x in
      let counters = after_packets setting.now ready.session.counters messages in
      sealed-same (current_salt ready.session.salts setting.now) (packets_of setting.now ready.session.counters messages)
      (record ready { session = record ready.session { counters = counters } })

  pub all-sent : (owed : List Owed) (names : List Name) (state : State S) → Good state
      → Good (fold (λ so_far name. speaks name (sends setting (messages_by name owed)) so_far) state names)
  all-sent owed [] state good = good
  all-sent owed (name ∷ names) state good =
      let messages = messages_by name owed in
      let J : Queue → Type 0 = λ jobs. HasJob own number jobs in
      all-sent owed names (speaks name (sends setting messages) state)
      (any-speaks name (sends setting messages) state (λ x p. sends-p messages x p) (λ x. (sends-same messages x).0) (λ x is. subst J (sym (sends-same messages x).1) is) good)

  pub all-spent : (spent : List Session) (state : State S) → Good state → Good (fold (λ so_far session. lost (name_of session) so_far) state spent)
  all-spent [] state good = good
  all-spent (session ∷ spent) state good =
      all-spent spent (lost (name_of session) state)
      (elim (cases_name own (name_of session)) [
        | inl same ↦ λ after there. absurd (none-some after (sym (lost-none own state.sessions) ∙ subst (λ (name : Name). session_named own (without_session name state.sessions) ≡ Some after) (sym same) there))
        | inr apart ↦ lost-good (name_of session) state apart good
      ])
