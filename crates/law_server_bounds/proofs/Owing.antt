-- What one event owes to the session of a name, and what numbers it gives to it.
use Rattle.std.proofs.Common.{◌≡◌, ◌≢◌, ℕ, zero, suc, ◌+◌, ◌*◌, ◌≤◌, Bool, true, Option, Some, None, List, [], ◌∷◌, length, ap, sym, subst, refl, arith, inl, inr}
use Rattle.std.specs.Prelude.{fold, not, is_some, ◌&&◌, ◌==◌, ⊤}
use Rattle.std.proofs.lemmas.Bool.{cond_both}
use Rattle.msg_ids.specs.Moments.{latest_moment}
use Rattle.msg_ids.specs.Counters.{room}
use Rattle.service_tl.specs.declared.item.Item.TheVariants.{DestroySession, DestroySessionOk, DestroySessionNone}
use Rattle.id_window.specs.History.{History}
use Rattle.inbox.specs.Verdicts.{Judgement, Verdict, Accepted, Again, Noticed}
use Rattle.waits.specs.declared.job.Job.{Job}
use Rattle.waits.specs.declared.job.Unfinished.{Unfinished}
use Rattle.waits.specs.Jobs.{Queue, first_job, has_failed, is_of, is_overdue, without_first}
use Rattle.server_rules.specs.Server.{Name, Session, name_of, session_named, without_session}
use Rattle.server_rules.specs.Event.{Setting, State, Speaker, Owed, speaker_in, spoken_by, speaks, lost}
use Rattle.server_rules.specs.Speaking.{says, msg_wait_failed, msg_wait_timeout}
use Rattle.server_rules.specs.Waiting.{gives_up, given_up, first_given_up, all_given_up, after_failures, after_timeouts, tells_of}
use Rattle.server_rules.specs.Rows.{settles, row, owes, destroys}
use Rattle.server_rules.specs.Answer.{attaches, finishes, opens}
use Rattle.law_server_bounds.proofs.Counts.{FallsByOne, count, filter-fewer, first-fewer, first-out, jobs_by, name_for}
use Rattle.law_server_bounds.proofs.Names.{cases_name, found-named, lost-named, lost-none}
use Rattle.law_server_bounds.proofs.Unsaid.{unsaid}
use Rattle.law_server_bounds.proofs.PacketSteps.{Steps, attached, finished, given, opened, owed}
use Rattle.law_server_bounds.proofs.Saying.{P, Q, own-steps, other-steps}

-- ---- what is so of a session, where one of the name stands

abbrev pub UnsaidAt : Name → List Owed → Option Session → ℕ
UnsaidAt name owed None = 0
UnsaidAt name owed (Some session) = unsaid name owed session.replies

-- it has given no more numbers than it owes messages, and its key is known
abbrev pub HasLeft : (ℕ → Bool) → Name → ℕ → Option Session → Type 0
HasLeft known name owed None = ⊤
HasLeft known name owed (Some session) = (16384 ≤ room session.counters + owed) × (known name.key ≡ true)

-- what the laws say of sessions that speak
pub record Speak (S : Type 0) : Type 0 where
  pub own : (name : Name) (speak : Speaker S → Speaker S) (state : State S) (session : Session) → session_named name state.sessions ≡ Some session
      → name_of (speak (speaker_in state session)).session ≡ name
      → session_named name (speaks name speak state).sessions ≡ Some (speak (speaker_in state session)).session
  pub others : (name other : Name) (speak : Speaker S → Speaker S) (state : State S) (session : Session) → session_named name state.sessions ≡ Some session
      → name_of (speak (speaker_in state session)).session ≡ name → other ≢ name
      → session_named other (speaks name speak state).sessions ≡ session_named other state.sessions

module _ {S : Type 0} (laws : Speak S) (falls : FallsByOne) (setting : Setting S) (timely : setting.now ≤ latest_moment) (known : ℕ → Bool) (own : Name) where
  -- in the event so far
  pub record G (n : ℕ) (state : State S) : Type 0 where
    pub total : count own state.owed + jobs_by own state.jobs + UnsaidAt own state.owed (session_named own state.sessions) ≤ n
    pub left : HasLeft known own (count own state.owed) (session_named own state.sessions)
    pub unsent : state.sent ≡ []

  pub more-g : (n m : ℕ) (state : State S) → n ≤ m → G n state → G m state
  more-g n m state le g = let total = g.total in record { total = omega (arith, total, le); left = g.left; unsent = g.unsent }

  -- ---- one session speaks

  by-own : (found : Option Session) (n m : ℕ) (speak : Speaker S → Speaker S) (state : State S) → session_named own state.sessions ≡ found → n ≤ m
      → ((x : Speaker S) → P falls setting timely own n x → P falls setting timely own m (speak x)) → G n state → G m (spoken_by found speak state)
  by-own None n m speak state is le goes g = more-g n m state le g
  by-own (Some session) n m speak state is le goes g =
      let x = speaker_in state session in
      let here = ap (λ (found : Option Session). UnsaidAt own state.owed found) is in
      let total = g.total in
      let Left : Option Session → Type 0 = λ found. HasLeft known own (count own state.owed) found in
      let left = subst Left is g.left in
      let before : P falls setting timely own n x = record {
        named = found-named own state.sessions session is;
        total = omega (arith, here, total);
        left = left.0;
        unsent = g.unsent;
      } in
      let after = goes x before in
      let Q : Option Session → Type 0 = λ found. session_named own (spoken_by found speak state).sessions ≡ Some (speak x).session in
      let stands = subst Q is (laws.own own speak state session is after.named) in
      let there = ap (λ (found : Option Session). UnsaidAt own (speak x).owed found) stands in
      let later = after.total in
      let Now : Option Session → Type 0 = λ found. HasLeft known own (count own (speak x).owed) found in
      record { total = omega (arith, there, later); left = subst Now (sym stands) (after.left, left.1); unsent = after.unsent }

  by-other : (found : Option Session) (name : Name) (n : ℕ) (speak : Speaker S → Speaker S) (state : State S) → session_named name state.sessions ≡ found → (apart : own ≢ name)
      → ((messages jobs : ℕ) (past : List Owed) (x : Speaker S) → Q setting own name apart messages jobs past 0 x → (k : ℕ) × Q setting own name apart messages jobs past k (speak x))
      → G n state → G n (spoken_by found speak state)
  by-other None name n speak state is apart goes g = g
  by-other (Some session) name n speak state is apart goes g =
      let x = speaker_in state session in
      let before : Q setting own name apart (count own state.owed) (jobs_by own state.jobs) state.owed 0 x = record {
        named = found-named name state.sessions session is;
        owed = refl;
        fewer = omega arith;
        unsaid = λ replies. omega arith;
        unsent = g.unsent;
      } in
      let done = goes (count own state.owed) (jobs_by own state.jobs) state.owed x before in
      let after = done.1 in
      let Q : Option Session → Type 0 = λ found. session_named own (spoken_by found speak state).sessions ≡ session_named own state.sessions in
      let same = subst Q is (laws.others name own speak state session is after.named apart) in
      let there = ap (λ (found : Option Session). UnsaidAt own (speak x).owed found) same in
      let less = at-most (speak x).owed state.owed (session_named own state.sessions) after.unsaid in
      let owed = after.owed in
      let fewer = after.fewer in
      let total = g.total in
      let Left : ℕ → Type 0 = λ n. HasLeft known own n (session_named own state.sessions) in
      let Now : Option Session → Type 0 = λ found. HasLeft known own (count own (speak x).owed) found in
      record { total = omega (arith, there, less, owed, fewer, total); left = subst Now (sym same) (subst Left (sym owed) g.left); unsent = after.unsent }
    where
      at-most : (later before : List Owed) (found : Option Session) → ((replies : _) → unsaid own later replies ≤ unsaid own before replies) → UnsaidAt own later found ≤ UnsaidAt own before found
      at-most later before None less = omega arith
      at-most later before (Some session) less = less session.replies

  -- whoever it is, by steps
  speaks-g : (name : Name) (n m : ℕ) (speak : Speaker S → Speaker S) (state : State S) → n ≤ m
      → ((x : Speaker S) → P falls setting timely own n x → P falls setting timely own m (speak x))
      → ((apart : own ≢ name) (messages jobs : ℕ) (past : List Owed) (x : Speaker S) → Q setting own name apart messages jobs past 0 x → (k : ℕ) × Q setting own name apart messages jobs past k (speak x))
      → G n state → G m (speaks name speak state)
  speaks-g name n m speak state le mine theirs g =
      elim (cases_name own name) [
        | inl same ↦
            let R : Name → Type 0 = λ name. G m (speaks name speak state) in
            subst R same (by-own (session_named own state.sessions) n m speak state refl le mine g)
        | inr apart ↦
            more-g n m (speaks name speak state) le (by-other (session_named name state.sessions) name n speak state refl apart (theirs apart) g)
      ]

  own-is : Steps S setting (P falls setting timely own)
  own-is = own-steps falls setting timely own

  -- ---- jobs that are given up

  left-jobs : (n : ℕ) (jobs : Queue) (state : State S) → jobs_by own jobs ≤ jobs_by own state.jobs → G n state → G n (record state { jobs = jobs })
  left-jobs n jobs state fewer g = let total = g.total in record { total = omega (arith, fewer, total); left = g.left; unsent = g.unsent }

  left-one : (n : ℕ) (jobs : Queue) (state : State S) → jobs_by own jobs + 1 ≤ jobs_by own state.jobs → G (suc n) state → G n (record state { jobs = jobs })
  left-one n jobs state fewer g = let total = g.total in record { total = omega (arith, fewer, total); left = g.left; unsent = g.unsent }

  own-given : (content : List ℕ) (job : Job) (n : ℕ) (rest : Queue) (state : State S) → own ≡ name_for job → jobs_by own rest + 1 ≤ jobs_by own state.jobs
      → G n state → G n (given_up setting content (Some job) (record state { jobs = rest }))
  own-given content job zero rest state same fewer g = let total = g.total in absurd (omega (arith, total, fewer))
  own-given content job (suc n) rest state same fewer g =
      let R : Name → Type 0 = λ name. G (suc n) (speaks name (gives_up setting content job) (record state { jobs = rest })) in
      subst R same
      (by-own (session_named own state.sessions) n (suc n) (gives_up setting content job) (record state { jobs = rest }) refl (omega arith)
      (λ x p. given setting (P falls setting timely own) own-is content job n x p) (left-one n rest state fewer g))

  first-given : (content : List ℕ) (found : Option Job) (n : ℕ) (rest : Queue) (state : State S)
      → jobs_by own rest ≤ jobs_by own state.jobs → ((job : Job) → found ≡ Some job → name_for job ≡ own → jobs_by own rest + 1 ≤ jobs_by own state.jobs)
      → G n state → G n (given_up setting content found (record state { jobs = rest }))
  first-given content None n rest state fewer out g = left-jobs n rest state fewer g
  first-given content (Some job) n rest state fewer out g =
      let name = name_for job in
      elim (cases_name own name) [
        | inl same ↦ own-given content job n rest state same (out job refl (sym same)) g
        | inr apart ↦
            let left : State S = record state { jobs = rest } in
            by-other (session_named name state.sessions) name n (gives_up setting content job) left refl apart
            (λ messages jobs past x q. (1, given setting (Q setting own name apart messages jobs past) (other-steps setting own name apart messages jobs past) content job 0 x q))
            (left-jobs n rest state fewer g)
      ]

  all-given : (content : List ℕ) (test : Unfinished → Bool) (times n : ℕ) (state : State S) → G n state
      → G n (all_given_up setting content (λ queue. (first_job test queue, without_first test queue)) times state)
  all-given content test zero n state g = g
  all-given content test (suc times) n state g =
      all-given content test times n (first_given_up setting content (λ queue. (first_job test queue, without_first test queue)) state)
      (first-given content (first_job test state.jobs) n (without_first test state.jobs) state (first-fewer own test state.jobs)
      (λ job is same. first-out own test state.jobs job is same) g)

  pub failures : (n : ℕ) (state : State S) → G n state → G n (after_failures setting state)
  failures n state g = all-given msg_wait_failed has_failed (length state.jobs) n state g

  pub timeouts : (n : ℕ) (state : State S) → G n state → G n (after_timeouts setting state)
  timeouts n state g = all-given msg_wait_timeout (is_overdue setting.now) (length state.jobs) n state g

  -- ---- sessions that are lost

  pub lost-g : (n : ℕ) (name : Name) (state : State S) → G n state → G n (lost name state)
  lost-g n name state g =
      let test : Unfinished → Bool = λ one. not (is_of name.key name.session one) in
      let fewer = filter-fewer own test state.jobs in
      let total = g.total in
      let At : Option Session → ℕ = λ found. UnsaidAt own state.owed found in
      let Left : Option Session → Type 0 = λ found. HasLeft known own (count own state.owed) found in
      elim (cases_name own name) [
        | inl same ↦
            let R : Name → Type 0 = λ name. session_named own (without_session name state.sessions) ≡ None in
            let none = subst R same (lost-none own state.sessions) in
            let here = ap At none in
            record { total = omega (arith, here, fewer, total); left = subst Left (sym none) tt; unsent = g.unsent }
        | inr apart ↦
            let stands = lost-named name own state.sessions apart in
            let here = ap At stands in
            record { total = omega (arith, here, fewer, total); left = subst Left (sym stands) g.left; unsent = g.unsent }
      ]

  -- ---- judgements

  module _ (name : Name) where
    said-g : (item : _) (n : ℕ) (state : State S) → G n state → G (suc n) (speaks name (says setting item) state)
    said-g item n state g =
        speaks-g name n (suc n) (says setting item) state (omega arith) (λ x p. Steps.said own-is item n x p)
        (λ apart messages jobs past x q. (1, Steps.said (other-steps setting own name apart messages jobs past) item 0 x q)) g

    destroyed-g : (number destroyed n : ℕ) (state : State S) → G n state → G (suc n) (destroys setting number destroyed name state)
    destroyed-g number destroyed n state g =
        let other : Name = record name { session = destroyed } in
        cond_both (not (destroyed == name.session) && is_some (session_named other state.sessions)) (speaks name (says setting (DestroySessionOk destroyed)) (lost other state))
        (speaks name (says setting (DestroySessionNone destroyed)) state) (G (suc n))
        (λ is. said-g (DestroySessionOk destroyed) n (lost other state) (lost-g n other state g))
        (λ is. said-g (DestroySessionNone destroyed) n state g)

    owed-g : (number seq : ℕ) (verdict : Verdict) (body : List ℕ) (n : ℕ) (state : State S) → G n state
        → G (suc (suc n)) (speaks name (owes setting number seq verdict body) state)
    owed-g number seq verdict body n state g =
        speaks-g name n (suc (suc n)) (owes setting number seq verdict body) state (omega arith)
        (λ x p. owed setting (P falls setting timely own) own-is number seq verdict body n x p)
        (λ apart messages jobs past x q. (2, owed setting (Q setting own name apart messages jobs past) (other-steps setting own name apart messages jobs past) number seq verdict body 0 x q)) g

    row-g : (number seq : ℕ) (verdict : Verdict) (body : List ℕ) (n : ℕ) (state : State S) → G n state
        → G (suc (suc n)) (row setting name number seq verdict body state)
    row-g number seq (Accepted (DestroySession destroyed)) body n state g =
        more-g (suc n) (suc (suc n)) (destroys setting number destroyed name state) (omega arith) (destroyed-g number destroyed n state g)
    row-g number seq (Accepted item) body n state g = owed-g number seq (Accepted item) body n state g
    row-g number seq (Again mark) body n state g = owed-g number seq (Again mark) body n state g
    row-g number seq (Noticed code) body n state g = owed-g number seq (Noticed code) body n state g

    tells-g : (number n : ℕ) (state : State S) → G n state → G n (speaks name (tells_of number) state)
    tells-g number n state g =
        speaks-g name n n (tells_of number) state (omega arith) (λ x p. Steps.told own-is number n x p)
        (λ apart messages jobs past x q. (0, Steps.told (other-steps setting own name apart messages jobs past) number 0 x q)) g

    pub settled : (judged : List (Judgement × List ℕ)) (n : ℕ) (state : State S) → G n state
        → G (n + 2 * length judged) (fold (settles setting name) state judged)
    settled [] n state g = more-g n (n + 2 * 0) state (omega arith) g
    settled ((judgement, body) ∷ judged) n state g =
        let done = row setting name judgement.number judgement.seq judgement.verdict body state in
        let next = settles setting name state (judgement, body) in
        let after : G (suc (suc n)) next =
        failures (suc (suc n)) (speaks name (tells_of judgement.number) done)
        (tells-g judgement.number (suc (suc n)) done
        (row-g judgement.number judgement.seq judgement.verdict body n state g)) in
        more-g (suc (suc n) + 2 * length judged) (n + 2 * suc (length judged)) (fold (settles setting name) next judged) (omega arith) (settled judged (suc (suc n)) next after)

    -- ---- other events

    pub opened-g : (history : History) (judged : List Judgement) (n : ℕ) (state : State S) → G n state → G (suc (suc n)) (speaks name (opens setting history judged) state)
    opened-g history judged n state g =
        speaks-g name n (suc (suc n)) (opens setting history judged) state (omega arith) (λ x p. opened setting (P falls setting timely own) own-is history judged n x p)
        (λ apart messages jobs past x q. (2, opened setting (Q setting own name apart messages jobs past) (other-steps setting own name apart messages jobs past) history judged 0 x q)) g

    pub attached-g : (n : ℕ) (state : State S) → G n state → G (suc n) (speaks name (attaches setting) state)
    attached-g n state g =
        speaks-g name n (suc n) (attaches setting) state (omega arith) (λ x p. attached setting (P falls setting timely own) own-is n x p)
        (λ apart messages jobs past x q. (1, attached setting (Q setting own name apart messages jobs past) (other-steps setting own name apart messages jobs past) 0 x q)) g

    pub finished-g : (job : Job) (reply : List ℕ) (n : ℕ) (state : State S) → G n state → G (suc n) (speaks name (finishes setting job reply) state)
    finished-g job reply n state g =
        speaks-g name n (suc n) (finishes setting job reply) state (omega arith) (λ x p. finished setting (P falls setting timely own) own-is job reply n x p)
        (λ apart messages jobs past x q. (1, finished setting (Q setting own name apart messages jobs past) (other-steps setting own name apart messages jobs past) job reply 0 x q)) g
