-- Over an event each session comes from one that was there before, with more rows of salts at most.
use Rattle.std.proofs.Common.{◌≡◌, ℕ, zero, suc, ◌==◌, ◌&&◌, not, Option, None, Some, List, [], ◌∷◌, filter, fold, length, if◌then◌else◌, inl, inr, refl, sym, ap, subst, ◌∙◌}
use Rattle.std.specs.Prelude.{is_some}
use Rattle.std.specs.List.{AllByRecursion, Contains, zip}
use Rattle.std.proofs.lemmas.Bool.{cases_Bool, cond_both}
use Rattle.service_tl.specs.declared.item.Item.{Item}
use Rattle.service_tl.specs.declared.item.Item.TheVariants.{DestroySession, DestroySessionOk, DestroySessionNone}
use Rattle.service_tl.specs.declared.lists.Message.{Message}
use Rattle.id_window.specs.History.{History}
use Rattle.inbox.specs.Verdicts.{Judgement, Verdict, Accepted, Again, Noticed}
use Rattle.waits.specs.declared.job.Job.{Job}
use Rattle.waits.specs.Jobs.{Queue, without_ready}
use Rattle.server_rules.specs.Server.{Name, Reply, Session, has_accepted, is_kept, is_named, name_of, session_named, without_session}
use Rattle.server_rules.specs.Event.{Owed, Setting, Speaker, State, lost, speaker_in, speaks, spoken_by}
use Rattle.server_rules.specs.Speaking.{has_said, message_of, msg_wait_failed, msg_wait_timeout, needs_salts, owes_message, says, says_again, says_it_is_new}
use Rattle.server_rules.specs.Waiting.{after_failures, after_timeouts, all_given_up, first_failed, first_given_up, first_overdue, given_up, gives_up, tells_of}
use Rattle.server_rules.specs.Rows.{acknowledges, acks_of, destroys, owes, row, settles}
use Rattle.server_rules.specs.Sending.{all_sent, messages_by, names_in, sends}
use Rattle.packing.specs.Packing.{after_packets, packets_of}
use Rattle.server_rules.specs.Answer.{attaches, finishes, opens, runs, ticks}
use Rattle.law_server.specs.Speech.{SaidFor}
use Rattle.law_server_moves.proofs.Lists.{all_of, each_of, from_filter}
use Rattle.law_server_moves.proofs.One.{put}
use Rattle.law_server_moves.proofs.Found.{found_in}
use Rattle.law_server_moves.proofs.Events.{all_mapped}
use Rattle.law_server_moves.proofs.Jobs.{FinishesAlone, GivesUpAlone}
use Rattle.law_server_moves.proofs.Growing.{Grown, grown_itself, grown_then, needs_grown, owes_grown}
use Rattle.law_server_moves.proofs.Settling.{OwesAlone, named_alike}
use Rattle.law_server_moves.proofs.Ending.{sealed_session}

-- the session comes from one of these
pub record ComesFrom (from : List Session) (y : Session) : Type 0 where
  pub x : Session
  pub there : Contains from x
  pub name : name_of x ≡ name_of y
  pub unique : x.unique ≡ y.unique
  pub grown : Grown x y

abbrev pub AllFrom : List Session → List Session → Type 0
AllFrom from now = AllByRecursion (ComesFrom from) now

pub all_itself : (sessions : List Session) → AllFrom sessions sessions
all_itself sessions = all_of (ComesFrom sessions) sessions (λ o there. record { x = o; there = there; name = refl; unique = refl; grown = grown_itself o })

-- what a session does that speaks
pub record Grows {S : Type 0} (before after : Speaker S) : Type 0 where
  pub name : name_of after.session ≡ name_of before.session
  pub unique : after.session.unique ≡ before.session.unique
  pub grown : Grown before.session after.session

module _ {S : Type 0} (setting : Setting S) (from : List Session) where
  abbrev Comes : State S → Type 0
  Comes state = AllFrom from state.sessions

  spoken_from : (speak : Speaker S → Speaker S) (state : State S) (at : Name) → ((y : Session) → session_named at state.sessions ≡ Some y → Grows (speaker_in state y) (speak (speaker_in state y)))
      → Comes state → (found : Option Session) → session_named at state.sessions ≡ found → Comes (spoken_by found speak state)
  spoken_from speak state at its h None is = h
  spoken_from speak state at its h (Some y) is =
      let b : Speaker S = speak (speaker_in state y) in
      let g = its y is in
      let old = each_of (ComesFrom from) state.sessions h y (found_in (is_named at) state.sessions y is).0 in
      let new : ComesFrom from b.session = record {
        x = old.x;
        there = old.there;
        name = old.name ∙ sym g.name;
        unique = old.unique ∙ sym g.unique;
        grown = grown_then old.x y b.session old.grown g.grown;
      } in
      all_mapped (ComesFrom from) (put b.session) state.sessions
      (λ o there.
      elim (cases_Bool (is_named (name_of b.session) o)) [
        | inl holds ↦ rw holds new
        | inr not_so ↦ rw not_so (each_of (ComesFrom from) state.sessions h o there)
      ])

  pub speaks_from : (at : Name) (speak : Speaker S → Speaker S) (state : State S) → ((y : Session) → session_named at state.sessions ≡ Some y → Grows (speaker_in state y) (speak (speaker_in state y)))
      → Comes state → Comes (speaks at speak state)
  speaks_from at speak state its h = spoken_from speak state at its h (session_named at state.sessions) refl

  said_grows : (before after : Speaker S) → SaidFor S before after → Grown before.session after.session → Grows before after
  said_grows before after said grown = record { name = named_alike said; unique = said.unique; grown = grown }

  lost_from : (name : Name) (state : State S) → Comes state → Comes (lost name state)
  lost_from name state h =
      all_of (ComesFrom from) (without_session name state.sessions)
      (λ o there. each_of (ComesFrom from) state.sessions h o (from_filter (λ (o : Session). not (is_named name o)) state.sessions o there).0)

  -- ---- jobs that are given up

  module _ (alone : GivesUpAlone S) where
    given_from : (content : List ℕ) (found : Option Job) (state : State S) → Comes state → Comes (given_up setting content found state)
    given_from content None state h = h
    given_from content (Some job) state h =
        speaks_from (record { key = job.key; session = job.session }) (gives_up setting content job) state
        (λ y is. said_grows (speaker_in state y) (gives_up setting content job (speaker_in state y)) (alone setting (speaker_in state y) content job) (grown_itself y)) h

    all_given_from : (content : List ℕ) (first : Queue → Option Job × Queue) (n : ℕ) (state : State S) → Comes state → Comes (all_given_up setting content first n state)
    all_given_from content first zero state h = h
    all_given_from content first (suc n) state h =
        all_given_from content first n (first_given_up setting content first state) (given_from content (first state.jobs).0 (record state { jobs = (first state.jobs).1 }) h)

    pub failures_from : (state : State S) → Comes state → Comes (after_failures setting state)
    failures_from state h = all_given_from msg_wait_failed first_failed (length state.jobs) state h

    pub ticks_from : (state : State S) → Comes state → Comes (ticks setting state)
    ticks_from state h = failures_from (after_timeouts setting state) (all_given_from msg_wait_timeout (first_overdue setting.now) (length state.jobs) state h)

    pub runs_from : FinishesAlone S → (place : ℕ) (job : Job) (reply : List ℕ) (state : State S) → Comes state → Comes (runs setting place job reply state)
    runs_from finishing place job reply state h =
        let rest : State S = record state { jobs = without_ready place state.jobs } in
        let name : Name = record { key = job.key; session = job.session } in
        failures_from (speaks name (finishes setting job reply) rest)
        (speaks_from name (finishes setting job reply) rest
        (λ y is. said_grows (speaker_in rest y) (finishes setting job reply (speaker_in rest y)) (finishing setting (speaker_in rest y) job reply) (grown_itself y)) h)

    -- ---- a packet

    module _ (owing : OwesAlone S) (name : Name) where
      says_from : (item : Item) (state : State S) → Comes state → Comes (speaks name (says setting item) state)
      says_from item state h = speaks_from name (says setting item) state (λ y is. record { name = refl; unique = refl; grown = grown_itself y }) h

      destroys_from : (number destroyed : ℕ) (state : State S) → Comes state → Comes (destroys setting number destroyed name state)
      destroys_from number destroyed state h =
          let other : Name = record name { session = destroyed } in
          cond_both (not (destroyed == name.session) && is_some (session_named other state.sessions)) (speaks name (says setting (DestroySessionOk destroyed)) (lost other state))
          (speaks name (says setting (DestroySessionNone destroyed)) state) Comes
          (λ is. says_from (DestroySessionOk destroyed) (lost other state) (lost_from other state h)) (λ is. says_from (DestroySessionNone destroyed) state h)

      owes_from : (number seq : ℕ) (verdict : Verdict) (body : List ℕ) (state : State S) → Comes state → Comes (speaks name (owes setting number seq verdict body) state)
      owes_from number seq verdict body state h =
          speaks_from name (owes setting number seq verdict body) state
          (λ y is. said_grows (speaker_in state y) (owes setting number seq verdict body (speaker_in state y)) (owing setting (speaker_in state y) number seq verdict body)
          (owes_grown setting number seq verdict body (speaker_in state y))) h

      row_from : (number seq : ℕ) (verdict : Verdict) (body : List ℕ) (state : State S) → Comes state → Comes (row setting name number seq verdict body state)
      row_from number seq (Accepted (DestroySession destroyed)) body state h = destroys_from number destroyed state h
      row_from number seq (Accepted item) body state h = owes_from number seq (Accepted item) body state h
      row_from number seq (Again mark) body state h = owes_from number seq (Again mark) body state h
      row_from number seq (Noticed code) body state h = owes_from number seq (Noticed code) body state h

      tells_from : (number : ℕ) (state : State S) → Comes state → Comes (speaks name (tells_of number) state)
      tells_from number state h = speaks_from name (tells_of number) state (λ y is. record { name = refl; unique = refl; grown = grown_itself y }) h

      pub settles_from : (judged : List Judgement) (bodies : List (List ℕ)) (state : State S) → Comes state → Comes (fold (settles setting name) state (zip judged bodies))
      settles_from [] bodies state h = h
      settles_from (judgement ∷ judged) [] state h = h
      settles_from (judgement ∷ judged) (body ∷ bodies) state h =
          let done : State S = row setting name judgement.number judgement.seq judgement.verdict body state in
          settles_from judged bodies (settles setting name state (judgement, body))
          (failures_from (speaks name (tells_of judgement.number) done)
          (tells_from judgement.number done (row_from judgement.number judgement.seq judgement.verdict body state h)))

  -- ---- what a packet opens with, and an attach

  new_grows : (speaker : Speaker S) → Grows speaker (says_it_is_new setting speaker)
  new_grows speaker = record { name = refl; unique = refl; grown = needs_grown setting 1 speaker }

  acknowledged : (numbers : List ℕ) (before speaker : Speaker S) → Grows before speaker → Grows before (acknowledges setting numbers speaker)
  acknowledged [] before speaker h = h
  acknowledged (number ∷ numbers) before speaker h = record { name = h.name; unique = h.unique; grown = h.grown }

  pub opens_grows : (history : History) (judged : List Judgement) (speaker : Speaker S) → Grows speaker (opens setting history judged speaker)
  opens_grows history judged speaker =
      let ready : Speaker S = record speaker { session = record speaker.session { history = history } } in
      let same : Grows speaker ready = record { name = refl; unique = refl; grown = grown_itself speaker.session } in
      let new : Grows speaker (says_it_is_new setting ready) = record { name = refl; unique = refl; grown = needs_grown setting 1 speaker } in
      cond_both (has_accepted ready.session) ready (says_it_is_new setting ready) (λ (first : Speaker S). Grows speaker (acknowledges setting (acks_of judged) first))
      (λ is. acknowledged (acks_of judged) speaker ready same) (λ is. acknowledged (acks_of judged) speaker (says_it_is_new setting ready) new)

  again_session : (replies : List Reply) (speaker : Speaker S) → (fold (λ speaker reply. says_again reply speaker) speaker replies).session ≡ speaker.session
  again_session [] speaker = refl
  again_session (reply ∷ replies) speaker =
      again_session replies (says_again reply speaker)
      ∙ cond_both (has_said reply.number speaker) speaker (owes_message (message_of reply) speaker) (λ s. s.session ≡ speaker.session) (λ is. refl) (λ is. refl)

  pub attaches_grows : (speaker : Speaker S) → Grows speaker (attaches setting speaker)
  attaches_grows speaker =
      let first : Speaker S = if has_accepted speaker.session then speaker else says_it_is_new setting speaker in
      let list : List Reply = filter is_kept speaker.session.replies in
      let one : Grows speaker first =
      cond_both (has_accepted speaker.session) speaker (says_it_is_new setting speaker) (λ (s : Speaker S). Grows speaker s)
      (λ is. record { name = refl; unique = refl; grown = grown_itself speaker.session }) (λ is. new_grows speaker) in
      let same = again_session list first in
      record {
        name = ap (λ (s : Session). name_of s) same ∙ one.name;
        unique = ap (λ (s : Session). s.unique) same ∙ one.unique;
        grown = subst (λ (s : Session). Grown speaker.session s) (sym same) one.grown;
      }

  -- ---- all is sent

  sends_grows : (messages : List Message) (speaker : Speaker S) → Grows speaker (sends setting messages speaker)
  sends_grows messages speaker =
      let ready : Speaker S = needs_salts setting 1 speaker in
      let numbered : Speaker S = record ready { session = record ready.session { counters = after_packets setting.now ready.session.counters messages } } in
      let same : (sends setting messages speaker).session ≡ numbered.session = sealed_session setting _ (packets_of setting.now ready.session.counters messages) numbered in
      record {
        name = ap (λ (s : Session). name_of s) same;
        unique = ap (λ (s : Session). s.unique) same;
        grown = subst (λ (s : Session). Grown speaker.session s) (sym same) (needs_grown setting 1 speaker);
      }

  sent_from : (owed : List Owed) (names : List Name) (state : State S) → Comes state → Comes (fold (λ so_far name. speaks name (sends setting (messages_by name owed)) so_far) state names)
  sent_from owed [] state h = h
  sent_from owed (name ∷ names) state h =
      sent_from owed names (speaks name (sends setting (messages_by name owed)) state)
      (speaks_from name (sends setting (messages_by name owed)) state (λ y is. sends_grows (messages_by name owed) (speaker_in state y)) h)

  pub all_sent_from : (state : State S) → Comes state → Comes (all_sent setting state)
  all_sent_from state h = sent_from state.owed (names_in state.owed) state h
