-- One step of a tick: a session answers a job that is due.
use Rattle.std.proofs.Common.{◌≡◌, ◌≢◌, ◌∙◌, ℕ, ◌<◌, ◌≤◌, ◌+◌, Bool, true, false, cond, Option, Some, None, List, [], ◌∷◌, ◌++◌, length, map, get_or, set, ap, sym, subst, refl, arith, inl, inr}
use Rattle.std.specs.Prelude.{◌||◌, ◌==◌, nat_lt}
use Rattle.std.specs.List.{find, list_any, position, position_or_len}
use Rattle.std.proofs.lemmas.Bool.{cases_Bool, cond-true, cond-false, eqb-true, eq-eqb, false≢true, ltb-true, ltb-false}
use Rattle.std.proofs.Math.Seq.{map-set_same}
use Rattle.std.proofs.lemmas.List.{get_or_default, get_or-map, get_or-set_same, get_or-set_other, length-set}
use Rattle.std.proofs.lemmas.List.Elements.{All-cons, All-head, All-nil}
use Rattle.service_tl.specs.declared.item.Item.TheVariants.{RpcResult}
use Rattle.packing.specs.Numbering.{numbered}
use Rattle.waits.specs.declared.job.Job.{Job}
use Rattle.waits.specs.declared.job.Unfinished.{Unfinished}
use Rattle.waits.specs.Jobs.{Queue, first_job, without_first}
use Rattle.server_dispatch.specs.Entries.{Held}
use Rattle.server_dispatch.specs.Speaks.{Speaks}
use Rattle.server_rules.specs.Server.{Binding, Name, Session, is_named, is_same, name_of, session_named, with_session}
use Rattle.server_rules.specs.Event.{Owed, Setting, Speaker, State, speaker_in, spoken, spoken_by}
use Rattle.server_rules.specs.Sending.{messages_by, names_in}
use Rattle.server_rules.specs.Waiting.{given_up, gives_up}
use Rattle.law_server.specs.Order.{HasNoJob, IsOrderlyAt, IsSpeaking, IsUnanswered, WasAccepted, jobs_of}
use Rattle.server_session.specs.declared.session.SessionState.{SessionState}
use Rattle.server_session.specs.SessionState.{Stands}
use Rattle.server_session.specs.Names.{name_kept}
use Rattle.server_core.specs.declared.tick_turns.TickTurn.{TickTurn}
use Rattle.server_core.specs.Answering.{IsDueTest, IsInTick, answers_left, name_at, no_name, turn_with}
use Rattle.server_core.specs.Sessions.{AreApart, AreKept, is_kept_as}
use Rattle.server_core.specs.Ticking.{has_spoken, with_name}
use Rattle.server_core.proofs.Due.{other-left, own-left}
use Rattle.server_core.proofs.FirstWords.{first-words}
use Rattle.server_core.proofs.Lists.{pairs-nil, place-is}
use Rattle.server_core.proofs.Names.{apart-names, find-first, find-other, found-named, names-same, none-some, same-names, with-own}
use Rattle.server_core.proofs.Places.{names-set, one-of}
use Rattle.server_core.proofs.Shares.{filter-push_off, owner, taken-own}
use Rattle.server_core.proofs.Speaking.{found-at, kept-set}
use Rattle.server_core.proofs.SessionState.{HasItsName}
use Rattle.server_core.proofs.Steps.{GivesUp, TakesOut}

-- ---- lists

or-off : (b : Bool) → (b || false) ≡ b
or-off true = refl
or-off false = refl

or-or : (one two three : Bool) → (one || (two || three)) ≡ ((one || two) || three)
or-or true two three = refl
or-or false two three = refl

or-true : (b : Bool) → (b || true) ≡ true
or-true true = refl
or-true false = refl

any-push : {X : Type 0} (test : X → Bool) (xs : List X) (x : X) → list_any test (xs ++ x ∷ []) ≡ (list_any test xs || test x)
any-push test [] x = or-off (test x)
any-push test (first ∷ xs) x = ap (λ (b : Bool). test first || b) (any-push test xs x) ∙ or-or (test first) (list_any test xs) (test x)

map-push : {X Y : Type 0} (f : X → Y) (xs : List X) (x : X) → map f (xs ++ x ∷ []) ≡ map f xs ++ f x ∷ []
map-push f [] x = refl
map-push {X} {Y} f (first ∷ xs) x = ap (λ (ys : List Y). f first ∷ ys) (map-push f xs x)

pub map-same : {X Y : Type 0} (f g : X → Y) → ((x : X) → f x ≡ g x) → (xs : List X) → map f xs ≡ map g xs
map-same f g same [] = refl
map-same {X} {Y} f g same (x ∷ xs) =
    ap (λ (y : Y). y ∷ map f xs) (same x) ∙ ap (λ (ys : List Y). g x ∷ ys) (map-same f g same xs)

-- ---- the sessions stay in order

abbrev pub AreInOrder : List Session → Queue → Type 0
AreInOrder sessions jobs = (name : Name) → IsOrderlyAt (session_named name sessions) (jobs_of name jobs)

pub named-other : (name : Name) (session : Session) → name ≢ name_of session → (sessions : List Session)
    → session_named name (with_session session sessions) ≡ session_named name sessions
named-other name session apart [] = refl
named-other name session apart (first ∷ sessions) =
    let rest = with_session session sessions in
    let later = named-other name session apart sessions in
    elim (cases_Bool (is_named (name_of session) first)) [
      | inl holds ↦
          let is : name_of session ≡ name_of first = same-names (name_of session) (name_of first) holds in
          let off : is_named name session ≡ false = apart-names name (name_of session) apart in
          let off_first : is_named name first ≡ false = apart-names name (name_of first) (λ same. apart (same ∙ sym is)) in
          ap (λ (one : Session). find (is_named name) (one ∷ rest)) (cond-true (is_named (name_of session) first) session first holds)
          ∙ (find-other (is_named name) session rest off ∙ (later ∙ sym (find-other (is_named name) first sessions off_first)))
      | inr fails ↦
          ap (λ (one : Session). find (is_named name) (one ∷ rest)) (cond-false (is_named (name_of session) first) session first fails)
          ∙ elim (cases_Bool (is_named name first)) [
            | inl is ↦ find-first (is_named name) first rest is ∙ sym (find-first (is_named name) first sessions is)
            | inr off ↦ find-other (is_named name) first rest off ∙ (later ∙ sym (find-other (is_named name) first sessions off))
          ]
    ]

nil-none : (test : Unfinished → Bool) (jobs : Queue) (job : Job) → jobs ≡ [] → first_job test jobs ≡ Some job → ⊥
nil-none test jobs job none is = none-some job (sym (ap (first_job test) none) ∙ is)

-- where the sessions are in order, the session of a job stands
pub owner-stands : (sessions : List Session) (jobs : Queue) (test : Unfinished → Bool) (job : Job) → AreInOrder sessions jobs → first_job test jobs ≡ Some job
    → session_named (owner job) sessions ≡ None → ⊥
owner-stands sessions jobs test job order is none =
    nil-none test (jobs_of (owner job) jobs) job
    (subst (λ (found : Option Session). IsOrderlyAt found (jobs_of (owner job) jobs)) none (order (owner job)))
    (taken-own test (owner job) job jobs is refl).found

pub record IsOut (S : Type 0) (setting : Setting S) (content : List ℕ) (test : Unfinished → Bool) (job : Job) (state : State S) (session : Session) : Type 0 where
  pub unanswered : IsUnanswered session.replies job.number
  pub order : AreInOrder (with_session (gives_up setting content job (speaker_in (record state { jobs = without_first test state.jobs }) session)).session state.sessions)
      (gives_up setting content job (speaker_in (record state { jobs = without_first test state.jobs }) session)).jobs

pub taken-order : {S : Type 0} → TakesOut S → GivesUp S → (setting : Setting S) (content : List ℕ) (test : Unfinished → Bool) (job : Job) (state : State S) (session : Session)
    → AreInOrder state.sessions state.jobs → first_job test state.jobs ≡ Some job → session_named (owner job) state.sessions ≡ Some session
    → IsOut S setting content test job state session
taken-order {S} takes gives setting content test job state session order is found =
    let name = owner job in
    let others : Name → Queue = λ other. jobs_of other state.jobs in
    let of_name : name_of session ≡ name = found-named name state.sessions session found in
    let speaker : Speaker S = speaker_in state session in
    let left : Speaker S = speaker_in (record state { jobs = without_first test state.jobs }) session in
    let after : Speaker S = gives_up setting content job left in
    let speaking : IsSpeaking name others session.history [] speaker = record {
      of_key = ap (λ (name : Name). name.key) of_name;
      of_session = ap (λ (name : Name). name.session) of_name;
      same = refl;
      midway = record {
        order = subst (λ (found : Option Session). IsOrderlyAt found (jobs_of name state.jobs)) found (order name);
        opened = record {
          once = pairs-nil (λ (one other : ℕ). one ≢ other);
          accepted = All-nil (λ (number : ℕ). WasAccepted number session.history);
          unanswered = All-nil (IsUnanswered session.replies);
          unfinished = All-nil (HasNoJob (jobs_of name state.jobs));
        };
      };
      apart = λ other off. refl;
    } in
    let opened = takes test job name others session.history [] speaker is refl refl speaking in
    let done = gives setting content job name others session.history [] left opened in
    let F : Name → Type 0 = λ name. session_named name state.sessions ≡ Some session in
    let own : session_named name (with_session after.session state.sessions) ≡ Some after.session =
    subst (λ (name : Name). session_named name (with_session after.session state.sessions) ≡ Some after.session) of_name
    (with-own after.session state.sessions session (subst F (sym of_name) found)) in
    record {
      unanswered = All-head (IsUnanswered session.replies) job.number [] opened.midway.opened.unanswered;
      order = λ other.
          elim (cases_Bool (is_same other name)) [
            | inl same ↦
                subst (λ (other : Name). IsOrderlyAt (session_named other (with_session after.session state.sessions)) (jobs_of other after.jobs))
                (sym (same-names other name same))
                (subst (λ (found : Option Session). IsOrderlyAt found (jobs_of name after.jobs)) (sym own) done.midway.order)
            | inr not_so ↦
                let off : other ≢ name = λ same. false≢true (sym not_so ∙ names-same other name same) in
                subst (λ (jobs : Queue). IsOrderlyAt (session_named other (with_session after.session state.sessions)) jobs) (sym (done.apart other off))
                (subst (λ (found : Option Session). IsOrderlyAt found (jobs_of other state.jobs))
                (sym (named-other other after.session (λ same. off (same ∙ of_name)) state.sessions)) (order other))
          ];
    }

-- ---- what is owed

pub owed-other : (name : Name) (owed : List Owed) (one : Owed) → name ≢ one.name → messages_by name (owed ++ one ∷ []) ≡ messages_by name owed
owed-other name owed one apart =
    ap (λ (some : List Owed). map (λ (one : Owed). one.message) some)
    (filter-push_off (λ (one : Owed). is_same name one.name) owed one (apart-names name one.name apart))

spoken-own : (name : Name) (owed : List Owed) (one : Owed) → one.name ≡ name → has_spoken name (owed ++ one ∷ []) ≡ true
spoken-own name owed one is =
    any-push (λ (one : Owed). is_same one.name name) owed one
    ∙ (ap (λ (b : Bool). has_spoken name owed || b) (names-same one.name name is) ∙ or-true (has_spoken name owed))

spoken-other : (name : Name) (owed : List Owed) (one : Owed) → name ≢ one.name → has_spoken name (owed ++ one ∷ []) ≡ has_spoken name owed
spoken-other name owed one apart =
    any-push (λ (one : Owed). is_same one.name name) owed one
    ∙ (ap (λ (b : Bool). has_spoken name owed || b) (apart-names one.name name (λ same. apart (sym same))) ∙ or-off (has_spoken name owed))

-- ---- places

above : (n i : ℕ) → n ≤ i → n ≢ i → n < i
above n i le differ =
    elim (cases_Bool (nat_lt n i)) [
      | inl less ↦ ltb-true n i less
      | inr not_less ↦ absurd (differ (let back : i ≤ n = ltb-false n i not_less in omega arith))
    ]

-- the session at another place has another name
pub other-place : (standings : List SessionState) (i n : ℕ) (d : SessionState) → AreApart standings → i < length standings → n < length standings → (i == n) ≡ false
    → name_kept (get_or standings i d) ≢ name_kept (get_or standings n d)
other-place standings i n d apart within at off =
    elim (cases_Bool (nat_lt i n)) [
      | inl before ↦ apart i n d (ltb-true i n before) at
      | inr not_before ↦
          let differ : i ≢ n = λ same. false≢true (sym off ∙ eq-eqb i n same) in
          let less : n < i = above n i (ltb-false i n not_before) (λ same. differ (sym same)) in
          λ same. apart n i d less within (sym same)
    ]

first-step : (f : ℕ → Name) (spoke : Bool) (order : List ℕ) (place : ℕ) (name : Name) (names : List Name) → map f order ≡ names → f place ≡ name
    → map f (cond spoke order (order ++ place ∷ [])) ≡ with_name spoke name names
first-step f true order place name names are is = are
first-step f false order place name names are is =
    map-push f order place
    ∙ (ap (λ (some : List Name). some ++ f place ∷ []) are ∙ ap (λ (last : Name). names ++ last ∷ []) is)

-- ---- the step

pub tick-step : {S : Type 0} → TakesOut S → GivesUp S → HasItsName → (setting : Setting S) (content : List ℕ) (test : Unfinished → Bool) → IsDueTest setting.now test
    → (standings : List SessionState) (voices : List TickTurn) (order : List ℕ) (entries : Held) (bound : List Binding) (draw : S) (state : State S)
    → IsInTick setting.now standings voices order entries.entries state.jobs bound draw state → AreApart standings → length voices ≡ length standings
    → (job : Job) → first_job test state.jobs ≡ Some job → (place : ℕ) → Some place ≡ position (is_kept_as (owner job)) standings
    → (after : SessionState) (voice : TickTurn) (more : Held) (queue : Queue)
    → ((d : SessionState) (e : TickTurn) (speaker : Speaker S) → IsUnanswered speaker.session.replies job.number
    → Speaks setting.now (get_or standings place d) (turn_with (get_or voices place e) entries) (without_first test state.jobs) bound draw speaker
    → Speaks setting.now after (turn_with voice more) queue bound draw (gives_up setting content job speaker))
    → ((e : TickTurn) → voice.left + 1 ≡ (get_or voices place e).left) → voice.spoke ≡ true
    → (spoke : Bool) → ((e : TickTurn) → (get_or voices place e).spoke ≡ spoke)
    → IsInTick setting.now (set standings place after) (set voices place voice) (cond spoke order (order ++ place ∷ [])) more.entries queue bound draw
    (given_up setting content (Some job) (record state { jobs = without_first test state.jobs }))
tick-step {S} takes gives names setting content test due standings voices order entries bound draw state tick apart long job is place placed after voice more queue speaks left spoke_now spoke spoke_was =
    let now = setting.now in
    let name = owner job in
    let kept_as = is_kept_as name in
    let at = place-is kept_as standings place placed in
    let d = one-of standings place at.1 in
    let first_at = position_or_len kept_as standings in
    let within : first_at < length standings = omega (arith, at.0, at.1) in
    let there = found-at names now name standings state.sessions d tick.kept within in
    let session = there.session in
    let out = taken-order takes gives setting content test job state session tick.in_order is there.found in
    let rest : State S = record state { jobs = without_first test state.jobs } in
    let speaker : Speaker S = speaker_in rest session in
    let before : Speaker S = speaker_in state session in
    let done : Speaker S = gives_up setting content job speaker in
    let of_name : name_of session ≡ name = found-named name state.sessions session there.found in
    let stands : Stands now (get_or standings place d) session = subst (λ (n : ℕ). Stands now (get_or standings n d) session) at.0 there.stands in
    let here : name_kept (get_or standings place d) ≡ name_of session = names now (get_or standings place d) session stands in
    let here_any : (d' : SessionState) → name_kept (get_or standings place d') ≡ name_of session = λ d'.
    ap name_kept (get_or_default standings place d' d at.1) ∙ here in
    let within_voices : place < length voices = omega (arith, long, at.1) in
    let begins : (e : TickTurn) → Speaks now (get_or standings place d) (turn_with (get_or voices place e) entries) rest.jobs bound draw speaker = λ e. record {
      says = record {
        stands = stands;
        owed = tick.owed place d e at.1 ∙ ap (λ (name : Name). messages_by name state.owed) here;
        draws = tick.draws;
      };
      jobs = refl;
      bindings = tick.bindings;
      entries = tick.entries;
    } in
    let ends : (e : TickTurn) → Speaks now after (turn_with voice more) queue bound draw done = λ e. speaks d e speaker out.unanswered (begins e) in
    let ended = ends voice in
    let last : name_kept after ≡ name_of session = names now after done.session ended.says.stands in
    let last_any : (d' : SessionState) → name_kept after ≡ name_kept (get_or standings place d') = λ d'. last ∙ sym (here_any d') in
    let then : given_up setting content (Some job) rest ≡ spoken rest done =
    ap (λ (found : Option Session). spoken_by found (gives_up setting content job) rest) there.found in
    let said : Owed = record { name = name_of session; message = numbered setting.now session.counters (RpcResult job.number content) } in
    let P : State S → Type 0 = λ state. IsInTick now (set standings place after) (set voices place voice) (cond spoke order (order ++ place ∷ [])) more.entries queue bound draw state in
    let named_at : (i : ℕ) (d' : SessionState) → name_kept (get_or (set standings place after) i d') ≡ name_kept (get_or standings i d') = λ i d'.
    names-set standings place after i d' at.1 (last_any d') in
    let other : (i : ℕ) (d' : SessionState) → i < length (set standings place after) → (i == place) ≡ false → name_kept (get_or (set standings place after) i d') ≢ name_of session =
    λ i d' inside off same.
    let still : length (set standings place after) ≡ length standings = length-set standings place after in
    other-place standings i place d' apart (omega (arith, inside, still)) at.1 off (sym (named_at i d') ∙ (same ∙ sym (here_any d'))) in
    let inside : (i : ℕ) → i < length (set standings place after) → i < length standings = λ i lt.
    let still : length (set standings place after) ≡ length standings = length-set standings place after in omega (arith, lt, still) in
    subst P (sym then)
    (record {
      kept = subst (λ (n : ℕ). AreKept now (set standings n after) (with_session done.session state.sessions)) at.0
          (kept-set names now name standings state.sessions after done.session tick.kept apart within ended.says.stands of_name);
      jobs = ended.jobs;
      bindings = ended.bindings;
      draws = ended.says.draws;
      entries = ended.entries;
      sent = tick.sent;
      in_order = out.order;
      owed = λ i d' e lt.
          elim (cases_Bool (i == place)) [
            | inl same ↦
                let is_place : i ≡ place = eqb-true i place same in
                ap (λ (voice : TickTurn). voice.turn.owing.messages) (ap (λ (n : ℕ). get_or (set voices place voice) n e) is_place ∙ get_or-set_same voices place voice e within_voices)
                ∙ (ended.says.owed ∙ ap (λ (name : Name). messages_by name done.owed)
                (sym (named_at i d' ∙ (ap (λ (n : ℕ). name_kept (get_or standings n d')) is_place ∙ here_any d'))))
            | inr off ↦
                ap (λ (voice : TickTurn). voice.turn.owing.messages) (get_or-set_other voices place i voice e (λ same. false≢true (sym off ∙ eq-eqb i place same)))
                ∙ (tick.owed i d' e (inside i lt) ∙ (ap (λ (name : Name). messages_by name state.owed) (sym (named_at i d'))
                ∙ sym (owed-other (name_kept (get_or (set standings place after) i d')) state.owed said (other i d' lt off))))
          ];
      spoke = λ i d' e lt.
          elim (cases_Bool (i == place)) [
            | inl same ↦
                let is_place : i ≡ place = eqb-true i place same in
                ap (λ (voice : TickTurn). voice.spoke) (ap (λ (n : ℕ). get_or (set voices place voice) n e) is_place ∙ get_or-set_same voices place voice e within_voices)
                ∙ (spoke_now ∙ sym (spoken-own (name_kept (get_or (set standings place after) i d')) state.owed said
                (sym (named_at i d' ∙ (ap (λ (n : ℕ). name_kept (get_or standings n d')) is_place ∙ here_any d')))))
            | inr off ↦
                ap (λ (voice : TickTurn). voice.spoke) (get_or-set_other voices place i voice e (λ same. false≢true (sym off ∙ eq-eqb i place same)))
                ∙ (tick.spoke i d' e (inside i lt) ∙ (ap (λ (name : Name). has_spoken name state.owed) (sym (named_at i d'))
                ∙ sym (spoken-other (name_kept (get_or (set standings place after) i d')) state.owed said (other i d' lt off))))
          ];
      enough = λ i d' e lt.
          elim (cases_Bool (i == place)) [
            | inl same ↦
                let is_place : i ≡ place = eqb-true i place same in
                let its = named_at i d' ∙ (ap (λ (n : ℕ). name_kept (get_or standings n d')) is_place ∙ here_any d') in
                let less = own-left setting content now test job before due is (sym of_name) in
                let had = subst (λ (name : Name). answers_left now state.jobs name ≤ (get_or voices place e).left) (here_any d') (tick.enough place d' e at.1) in
                let has = left e in
                let few : answers_left now done.jobs (name_of session) ≤ voice.left = omega arith in
                let of_voice : get_or (set voices place voice) i e ≡ voice = ap (λ (n : ℕ). get_or (set voices place voice) n e) is_place ∙ get_or-set_same voices place voice e within_voices in
                subst (λ (one : TickTurn). answers_left now done.jobs (name_kept (get_or (set standings place after) i d')) ≤ one.left) (sym of_voice)
                (subst (λ (name : Name). answers_left now done.jobs name ≤ voice.left) (sym its) few)
            | inr off ↦
                let of_voice : get_or (set voices place voice) i e ≡ get_or voices i e = get_or-set_other voices place i voice e (λ same. false≢true (sym off ∙ eq-eqb i place same)) in
                let one_name = name_kept (get_or (set standings place after) i d') in
                let had = subst (λ (name : Name). answers_left now state.jobs name ≤ (get_or voices i e).left) (sym (named_at i d')) (tick.enough i d' e (inside i lt)) in
                let same_left = other-left setting content now test job one_name before is (sym of_name) (other i d' lt off) in
                subst (λ (one : TickTurn). answers_left now done.jobs one_name ≤ one.left) (sym of_voice)
                (subst (λ (n : ℕ). n ≤ (get_or voices i e).left) (sym same_left) had)
          ];
      first =
          let g : ℕ → Name = name_at standings in
          let was : spoke ≡ has_spoken (name_of session) state.owed =
          sym (spoke_was voice) ∙ (tick.spoke place d voice at.1 ∙ ap (λ (name : Name). has_spoken name state.owed) here) in
          let names_same : map name_kept (set standings place after) ≡ map name_kept standings = map-set_same name_kept standings place after d (last_any d) in
          let here_at : g place ≡ name_of session = get_or-map name_kept standings place d no_name at.1 ∙ here in
          ap (λ (some : List Name). map (λ n. get_or some n no_name) (cond spoke order (order ++ place ∷ []))) names_same
          ∙ (first-step g spoke order place (name_of session) (names_in state.owed) tick.first here_at
          ∙ (ap (λ (b : Bool). with_name b (name_of session) (names_in state.owed)) was
          ∙ sym (first-words (name_of session) state.owed said [] (All-cons (λ (one : Owed). one.name ≡ name_of session) said [] refl (All-nil (λ (one : Owed). one.name ≡ name_of session))))));
    })
