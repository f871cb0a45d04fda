-- What may go once a packet was taken.
use Rattle.std.proofs.Common.{◌≡◌, ◌≢◌, ℕ, zero, suc, ◌==◌, ◌&&◌, not, true, false, Option, None, Some, List, [], ◌∷◌, ◌++◌, fold, length, inl, inr, refl, sym, ap, subst, ◌∙◌, ◌<◌, arith}
use Rattle.std.specs.Prelude.{◌⊎◌, is_some}
use Rattle.std.specs.List.{All, AllByRecursion, AllPairs, Contains, zip}
use Rattle.std.proofs.lemmas.Bool.{cases_Bool, cond_both}
use Rattle.std.proofs.lemmas.List.Elements.{All-contains, All-head, All-tail}
use Rattle.service_tl.specs.declared.item.Item.TheVariants.{DestroySession, DestroySessionOk, DestroySessionNone}
use Rattle.service_tl.specs.declared.lists.Message.{Message}
use Rattle.id_window.specs.History.{History, was_accepted}
use Rattle.inbox.specs.Inbox.{was_heard}
use Rattle.inbox.specs.Verdicts.{Judgement, Verdict, Accepted, Again, Noticed}
use Rattle.waits.specs.declared.job.Job.{Job}
use Rattle.waits.specs.declared.job.Unfinished.{Unfinished}
use Rattle.waits.specs.Jobs.{Queue, first_job, has_failed, is_of, without_first}
use Rattle.server_rules.specs.Server.{Name, Session, has_accepted, is_named, name_of, session_named, without_session}
use Rattle.server_rules.specs.Event.{Owed, Setting, Speaker, State, lost, speaker_in, speaks, spoken, spoken_by}
use Rattle.server_rules.specs.Speaking.{answers, msg_wait_failed, says}
use Rattle.server_rules.specs.Waiting.{Outlook, after_failures, all_given_up, first_given_up, given_up, gives_up, outlook, tells_of}
use Rattle.server_rules.specs.Rows.{destroys, owes, row, settles}
use Rattle.server_rules.specs.Sending.{messages_by}
use Rattle.law_server.specs.Order.{IsGoingOn, IsOrderlyAt, IsTold, WasCalled, jobs_of, opens_of}
use Rattle.law_server.specs.Going.{open_only}
use Rattle.law_server.specs.Speech.{SaidFor}
use Rattle.law_server_moves.specs.Servers.{IsJobOf}
use Rattle.law_server_moves.proofs.Lists.{all_append, all_of, each_of, first_or, from_filter, kept_in, map_all}
use Rattle.law_server_moves.proofs.Losing.{named_itself}
use Rattle.law_server_moves.proofs.One.{put}
use Rattle.law_server_moves.proofs.Kept.{all_told, first_out}
use Rattle.law_server_moves.proofs.Found.{first_in, found_in}
use Rattle.law_server_moves.proofs.Events.{all_mapped, name_is}
use Rattle.law_server_moves.proofs.HeardOwe.{OwesHeard, WorksHeard, any_of, works_so}
use Rattle.law_server_moves.proofs.Jobs.{GivesUpAlone}
use Rattle.law_server_moves.proofs.Named.{Said, cases_names, name_said, said_item, said_told}
use Rattle.law_server_moves.proofs.Settling.{Orders, OwesAlone, ended_at}

-- ---- each session is found by its name

abbrev Apart : Session → Session → Type 0
Apart one other = name_of one ≢ name_of other

apart_head : (x : Session) (xs : List Session) (y : Session) → AllPairs Apart (x ∷ xs) → Contains xs y → Apart x y
apart_head x xs y h c = let below : c.0 < length xs = c.1 in subst (λ (z : Session). Apart x z) c.2 (h zero (suc c.0) y (omega arith) (omega (arith, below)))

apart_tail : (x : Session) (xs : List Session) → AllPairs Apart (x ∷ xs) → AllPairs Apart xs
apart_tail x xs h = λ i j d lt within. h (suc i) (suc j) d (omega (arith, lt)) (omega (arith, within))

pub found_itself : (sessions : List Session) → AllPairs Apart sessions → (o : Session) → Contains sessions o → session_named (name_of o) sessions ≡ Some o
found_itself [] h o there = let below : there.0 < 0 = there.1 in absurd (omega (arith, below))
found_itself (first ∷ sessions) h o there =
    elim (first_or o first sessions there) [
      | inl same ↦ subst (λ (z : Session). session_named (name_of z) (first ∷ sessions) ≡ Some z) same (rw (named_itself first) refl)
      | inr other ↦
          elim (cases_Bool (is_named (name_of o) first)) [
            | inl is ↦ absurd (apart_head first sessions o h other (sym (name_is (name_of o) first is)))
            | inr fails ↦ rw fails (found_itself sessions (apart_tail first sessions h) o other)
          ]
    ]

named_works : (sessions : List Session) (jobs : Queue) → AllPairs Apart sessions → ((name : Name) → IsOrderlyAt (session_named name sessions) (jobs_of name jobs)) → AllByRecursion (WorksHeard jobs) sessions
named_works sessions jobs apart each =
    all_of (WorksHeard jobs) sessions
    (λ o there.
    let order : IsOrderlyAt (Some o) (jobs_of (name_of o) jobs) = subst (λ (f : Option Session). IsOrderlyAt f (jobs_of (name_of o) jobs)) (found_itself sessions apart o there) (each (name_of o)) in
    all_of (λ (one : Unfinished). is_of o.key o.number one ≡ true → has_accepted o ≡ true) jobs
    (λ one is of.
    let called : WasCalled one.job.number o.history =
    All-contains (λ (one : Unfinished). WasCalled one.job.number o.history) (jobs_of (name_of o) jobs) one order.unfinished.called (kept_in (is_of o.key o.number) jobs one is of) in
    any_of o.history called.0 called.1 (ap was_accepted called.3)))

-- what laws say of messages and their names
pub record ByName (S : Type 0) : Type 0 where
  pub own : (before after : Speaker S) → SaidFor S before after
      → (more : List Message) × (messages_by (name_of before.session) after.owed ≡ messages_by (name_of before.session) before.owed ++ more)
  pub others : (before after : Speaker S) (other : Name) → SaidFor S before after → other ≢ name_of before.session
      → messages_by other after.owed ≡ messages_by other before.owed

module _ {S : Type 0} (by_name : ByName S) (alone : GivesUpAlone S) (owing : OwesAlone S) (setting : Setting S) (name : Name) where
  owes_said : (number seq : ℕ) (verdict : Verdict) (body : List ℕ) (state : State S) → Said state name (owes setting number seq verdict body)
  owes_said number seq verdict body state = λ y is. owing setting (speaker_in state y) number seq verdict body

  abbrev failed : Queue → Option Job × Queue
  failed queue = (first_job has_failed queue, without_first has_failed queue)

  -- ---- what the session owes first

  module _ (first : Message) where
    abbrev pub Begins : State S → Type 0
    Begins state = (rest : List Message) × (messages_by name state.owed ≡ first ∷ rest)

    begins_by : (at : Name) (speak : Speaker S → Speaker S) (state : State S) → Said state at speak → Begins state → (found : Option Session) → session_named at state.sessions ≡ found
        → Begins (spoken_by found speak state)
    begins_by at speak state its h None is = h
    begins_by at speak state its h (Some y) is =
        let before : Speaker S = speaker_in state y in
        let after : Speaker S = speak before in
        let name_y : at ≡ name_of y = name_is at y (found_in (is_named at) state.sessions y is).1 in
        elim (cases_names name at) [
          | inl own ↦
              let more = by_name.own before after (its y is) in
              let same : name_of y ≡ name = sym name_y ∙ sym own in
              let grown : messages_by name after.owed ≡ messages_by name state.owed ++ more.0 =
              subst (λ (n : Name). messages_by n after.owed ≡ messages_by n state.owed ++ more.0) same more.1 in
              (h.0 ++ more.0, grown ∙ ap (λ (l : List Message). l ++ more.0) h.1)
          | inr differs ↦ (h.0, by_name.others before after name (its y is) (λ same. differs (same ∙ sym name_y)) ∙ h.1)
        ]

    begins_speaks : (at : Name) (speak : Speaker S → Speaker S) (state : State S) → Said state at speak → Begins state → Begins (speaks at speak state)
    begins_speaks at speak state its h = begins_by at speak state its h (session_named at state.sessions) refl

    begins_given : (content : List ℕ) (found : Option Job) (state : State S) → Begins state → Begins (given_up setting content found state)
    begins_given content None state h = h
    begins_given content (Some job) state h =
        begins_speaks (record { key = job.key; session = job.session }) (gives_up setting content job) state (λ y is. alone setting (speaker_in state y) content job) h

    begins_all : (content : List ℕ) (n : ℕ) (state : State S) → Begins state → Begins (all_given_up setting content failed n state)
    begins_all content zero state h = h
    begins_all content (suc n) state h =
        begins_all content n (first_given_up setting content failed state) (begins_given content (first_job has_failed state.jobs) (record state { jobs = without_first has_failed state.jobs }) h)

    begins_destroys : (number destroyed : ℕ) (state : State S) → Begins state → Begins (destroys setting number destroyed name state)
    begins_destroys number destroyed state h =
        let other : Name = record name { session = destroyed } in
        cond_both (not (destroyed == name.session) && is_some (session_named other state.sessions)) (speaks name (says setting (DestroySessionOk destroyed)) (lost other state))
        (speaks name (says setting (DestroySessionNone destroyed)) state) Begins
        (λ is. begins_speaks name (says setting (DestroySessionOk destroyed)) (lost other state) (λ y found. said_item setting (DestroySessionOk destroyed) (speaker_in (lost other state) y)) h)
        (λ is. begins_speaks name (says setting (DestroySessionNone destroyed)) state (λ y found. said_item setting (DestroySessionNone destroyed) (speaker_in state y)) h)

    begins_row : (number seq : ℕ) (verdict : Verdict) (body : List ℕ) (state : State S) → Begins state → Begins (row setting name number seq verdict body state)
    begins_row number seq (Accepted (DestroySession destroyed)) body state h = begins_destroys number destroyed state h
    begins_row number seq (Accepted item) body state h = begins_speaks name (owes setting number seq (Accepted item) body) state (owes_said number seq (Accepted item) body state) h
    begins_row number seq (Again mark) body state h = begins_speaks name (owes setting number seq (Again mark) body) state (owes_said number seq (Again mark) body state) h
    begins_row number seq (Noticed code) body state h = begins_speaks name (owes setting number seq (Noticed code) body) state (owes_said number seq (Noticed code) body state) h

    pub begins_fold : (judged : List Judgement) (bodies : List (List ℕ)) (state : State S) → Begins state → Begins (fold (settles setting name) state (zip judged bodies))
    begins_fold [] bodies state h = h
    begins_fold (judgement ∷ judged) [] state h = h
    begins_fold (judgement ∷ judged) (body ∷ bodies) state h =
        let done : State S = row setting name judgement.number judgement.seq judgement.verdict body state in
        let heard : State S = speaks name (tells_of judgement.number) done in
        begins_fold judged bodies (after_failures setting heard)
        (begins_all msg_wait_failed (length heard.jobs) heard
        (begins_speaks name (tells_of judgement.number) done (λ y found. said_told judgement.number (speaker_in done y)) (begins_row judgement.number judgement.seq judgement.verdict body state h)))

  -- ---- what the others owe

  -- where another session owes a message, it has accepted one
  abbrev pub OwesSo : List Owed → Session → Type 0
  OwesSo owed o = (is_named name o ≡ true) ⊎ OwesHeard owed o

  abbrev pub OthersHeard : State S → Type 0
  OthersHeard state = AllByRecursion (OwesSo state.owed) state.sessions

  module _ (at : Name) (state : State S) (y : Session) (is : session_named at state.sessions ≡ Some y) (b : Speaker S) (its : SaidFor S (speaker_in state y) b) where
    name_b : name_of b.session ≡ at
    name_b = name_said at state y b is its

    -- one that didn't speak
    other_so : (o : Session) → Contains state.sessions o → is_named (name_of b.session) o ≡ false → OwesSo state.owed o → OwesSo b.owed o
    other_so o there not_so (inl own) = inl own
    other_so o there not_so (inr heard) =
        inr (subst (λ (l : List Owed). OwesHeard l o) (sym its.owed.1)
        (all_append (λ (one : Owed). one.name ≡ name_of o → has_accepted o ≡ true) state.owed its.owed.0 heard
        (all_of (λ (one : Owed). one.name ≡ name_of o → has_accepted o ≡ true) its.owed.0
        (λ one among of.
        let name_y : at ≡ name_of y = name_is at y (found_in (is_named at) state.sessions y is).1 in
        let same : name_of b.session ≡ name_of o = name_b ∙ name_y ∙ sym (All-contains (λ (one : Owed). one.name ≡ name_of y) its.owed.0 one its.owed.2 among) ∙ of in
        let e : false ≡ true = sym not_so ∙ subst (λ (n : Name). is_named n o ≡ true) (sym same) (named_itself o) in absurd (cc)))))

    put_so : OwesSo b.owed b.session → OthersHeard state → (o : Session) → Contains state.sessions o → OwesSo b.owed (put b.session o)
    put_so own h o there =
        elim (cases_Bool (is_named (name_of b.session) o)) [
          | inl holds ↦ rw holds own
          | inr not_so ↦ rw not_so (other_so o there not_so (each_of (OwesSo state.owed) state.sessions h o there))
        ]

    others_spoken : OwesSo b.owed b.session → OthersHeard state → OthersHeard (spoken state b)
    others_spoken own h = all_mapped (OwesSo b.owed) (put b.session) state.sessions (put_so own h)

  -- the session itself speaks
  own_by : (speak : Speaker S → Speaker S) (state : State S) → Said state name speak → OthersHeard state → (found : Option Session) → session_named name state.sessions ≡ found → OthersHeard (spoken_by found speak state)
  own_by speak state its h None is = h
  own_by speak state its h (Some y) is =
      let b : Speaker S = speak (speaker_in state y) in
      let own : is_named name b.session ≡ true = subst (λ (n : Name). is_named n b.session ≡ true) (name_said name state y b is (its y is)) (named_itself b.session) in
      others_spoken name state y is b (its y is) (inl own) h

  own_speaks : (speak : Speaker S → Speaker S) (state : State S) → Said state name speak → OthersHeard state → OthersHeard (speaks name speak state)
  own_speaks speak state its h = own_by speak state its h (session_named name state.sessions) refl

  others_lost : (other : Name) (state : State S) → OthersHeard state → OthersHeard (lost other state)
  others_lost other state h =
      all_of (OwesSo state.owed) (without_session other state.sessions)
      (λ o there. each_of (OwesSo state.owed) state.sessions h o (from_filter (λ (o : Session). not (is_named other o)) state.sessions o there).0)

  others_destroys : (number destroyed : ℕ) (state : State S) → OthersHeard state → OthersHeard (destroys setting number destroyed name state)
  others_destroys number destroyed state h =
      let other : Name = record name { session = destroyed } in
      cond_both (not (destroyed == name.session) && is_some (session_named other state.sessions)) (speaks name (says setting (DestroySessionOk destroyed)) (lost other state))
      (speaks name (says setting (DestroySessionNone destroyed)) state) OthersHeard
      (λ is. own_speaks (says setting (DestroySessionOk destroyed)) (lost other state) (λ y found. said_item setting (DestroySessionOk destroyed) (speaker_in (lost other state) y)) (others_lost other state h))
      (λ is. own_speaks (says setting (DestroySessionNone destroyed)) state (λ y found. said_item setting (DestroySessionNone destroyed) (speaker_in state y)) h)

  others_row : (number seq : ℕ) (verdict : Verdict) (body : List ℕ) (state : State S) → OthersHeard state → OthersHeard (row setting name number seq verdict body state)
  others_row number seq (Accepted (DestroySession destroyed)) body state h = others_destroys number destroyed state h
  others_row number seq (Accepted item) body state h = own_speaks (owes setting number seq (Accepted item) body) state (owes_said number seq (Accepted item) body state) h
  others_row number seq (Again mark) body state h = own_speaks (owes setting number seq (Again mark) body) state (owes_said number seq (Again mark) body state) h
  others_row number seq (Noticed code) body state h = own_speaks (owes setting number seq (Noticed code) body) state (owes_said number seq (Noticed code) body state) h

  -- ---- jobs that have failed

  abbrev Works : State S → Type 0
  Works state = AllByRecursion (WorksHeard state.jobs) state.sessions

  module _ (state : State S) (rest : Queue) (job : Job) (one : Unfinished) (among : Contains state.jobs one) (is_job : one.job ≡ job) (from : AllByRecursion (IsJobOf state.jobs) rest)
      (h : OthersHeard state) (works : Works state) where
    abbrev at : Name
    at = record { key = job.key; session = job.session }

    abbrev without : State S
    without = record state { jobs = rest }

    fewer : Works without
    fewer = map_all (WorksHeard state.jobs) (WorksHeard rest) state.sessions (λ o there w. works_so state.jobs rest o from w) works

    heard_x : (x : Session) → session_named at state.sessions ≡ Some x → has_accepted x ≡ true
    heard_x x found =
        let place = found_in (is_named at) state.sessions x found in
        each_of (λ (one : Unfinished). is_of x.key x.number one ≡ true → has_accepted x ≡ true) state.jobs (each_of (WorksHeard state.jobs) state.sessions works x place.0) one among
        (subst (λ (j : Job). ((j.key == x.key) && (j.session == x.number)) ≡ true) (sym is_job) place.1)

    given_so : (content : List ℕ) (found : Option Session) → session_named at state.sessions ≡ found
        → OthersHeard (spoken_by found (gives_up setting content job) without) × Works (spoken_by found (gives_up setting content job) without)
    given_so content None is = (h, fewer)
    given_so content (Some x) is =
        let b : Speaker S = gives_up setting content job (speaker_in without x) in
        let its = alone setting (speaker_in without x) content job in
        let told_by : Speaker S = record (answers setting job.number content (speaker_in without x)) { jobs = rest } in
        let told_of : Outlook = outlook told_by.session rest job.number in
        let from_b : AllByRecursion (IsJobOf rest) b.jobs = all_told told_of told_by.session job.number rest in
        let heard_b : has_accepted b.session ≡ true = ap was_heard its.history ∙ heard_x x is in (
          others_spoken at without x is b its (inr (all_of (λ (one : Owed). one.name ≡ name_of b.session → has_accepted b.session ≡ true) b.owed (λ one there own. heard_b))) h,
          all_mapped (WorksHeard b.jobs) (put b.session) state.sessions
              (λ o there.
              elim (cases_Bool (is_named (name_of b.session) o)) [
                | inl holds ↦ rw holds (all_of (λ (one : Unfinished). is_of b.session.key b.session.number one ≡ true → has_accepted b.session ≡ true) b.jobs (λ one there own. heard_b))
                | inr not_so ↦ rw not_so (works_so rest b.jobs o from_b (each_of (WorksHeard rest) state.sessions fewer o there))
              ]),
        )

  first_so : (content : List ℕ) (state : State S) → OthersHeard state → Works state → (found : Option Job) → first_job has_failed state.jobs ≡ found
      → OthersHeard (given_up setting content found (record state { jobs = without_first has_failed state.jobs })) × Works (given_up setting content found (record state { jobs = without_first has_failed state.jobs }))
  first_so content state h works None is =
      (h, map_all (WorksHeard state.jobs) (WorksHeard (without_first has_failed state.jobs)) state.sessions (λ o there w. works_so state.jobs (without_first has_failed state.jobs) o (first_out has_failed state.jobs) w) works)
  first_so content state h works (Some job) is =
      let found = first_in has_failed state.jobs job is in
      given_so state (without_first has_failed state.jobs) job found.0 found.1 found.2 (first_out has_failed state.jobs) h works content
      (session_named (record { key = job.key; session = job.session }) state.sessions) refl

  all_so : (content : List ℕ) (n : ℕ) (state : State S) → OthersHeard state → Works state → OthersHeard (all_given_up setting content failed n state)
  all_so content zero state h works = h
  all_so content (suc n) state h works =
      let next = first_so content state h works (first_job has_failed state.jobs) refl in
      all_so content n (first_given_up setting content failed state) next.0 next.1

  -- ---- all judgements

  module _ (orders : Orders S) (past : Name → History) where
    works_of : (numbers : List ℕ) (state : State S) → IsGoingOn past (open_only name numbers) state.sessions state.jobs → Works state
    works_of numbers state order =
        named_works state.sessions state.jobs order.names
        (λ other. ended_at (past other) (open_only name numbers other) (session_named other state.sessions) (jobs_of other state.jobs) (order.each other))

    pub others_fold : (judged : List Judgement) (bodies : List (List ℕ)) (state : State S) → IsGoingOn past (open_only name (opens_of judged)) state.sessions state.jobs
        → All (λ judgement. IsTold judgement.number judgement.verdict (past name)) judged → OthersHeard state → OthersHeard (fold (settles setting name) state (zip judged bodies))
    others_fold [] bodies state order told h = h
    others_fold (judgement ∷ judged) [] state order told h = h
    others_fold (judgement ∷ judged) (body ∷ bodies) state order told h =
        let P : Judgement → Type 0 = λ judgement. IsTold judgement.number judgement.verdict (past name) in
        let number : ℕ = judgement.number in
        let done : State S = row setting name number judgement.seq judgement.verdict body state in
        let heard : State S = speaks name (tells_of number) done in
        let row_order = orders.row setting name number judgement.seq judgement.verdict body past (opens_of judged) state (All-head P judgement judged told) order in
        let heard_order = orders.tells name number past (opens_of judged) done row_order in
        let heard_so : OthersHeard heard = own_speaks (tells_of number) done (λ y found. said_told number (speaker_in done y)) (others_row number judgement.seq judgement.verdict body state h) in
        others_fold judged bodies (after_failures setting heard) (orders.failures setting past (open_only name (opens_of judged)) heard heard_order) (All-tail P judgement judged told)
        (all_so msg_wait_failed (length heard.jobs) heard heard_so (works_of (opens_of judged) heard heard_order))
