-- What becomes of replies and jobs, an answer, and a number that is forgotten.
use Rattle.std.proofs.Common.{◌≡◌, ◌≢◌, ℕ, ◌==◌, ◌&&◌, ◌||◌, Bool, true, false, List, [], ◌∷◌, ◌++◌, inl, inr, refl, sym, ap, subst, ◌∙◌, eq-eqb, ne_eqb}
use Rattle.std.specs.List.{All, AllByRecursion, Contains}
use Rattle.std.proofs.lemmas.Bool.{cases_Bool}
use Rattle.std.proofs.lemmas.List.Elements.{Contains-append_left, Contains-append_right}
use Rattle.waits.specs.declared.job.Job.{Job}
use Rattle.waits.specs.declared.job.Unfinished.{Unfinished}
use Rattle.waits.specs.Jobs.{Queue, accepted}
use Rattle.server_rules.specs.Server.{Reply, Session, with_session}
use Rattle.server_rules.specs.Event.{Entry}
use Rattle.law_moves.specs.Table as moves
use Rattle.law_moves.specs.Table.Outcome.{AcceptedCall}
use Rattle.law_moves.specs.World.{World, WasGiven}
use Rattle.law_moves.specs.Move.Move.{Answer, Forget}
use Rattle.law_moves.specs.After.{after}
use Rattle.law_moves.specs.Lawful.{WasNoCall}
use Rattle.law_server_moves.specs.Leading.{Leads}
use Rattle.law_server_moves.specs.Servers.{GoOn, HasForgotten, HasSame, IsJobOf, IsJobThere, IsReplyThere, IsStanding, Past, ServerStands, WasAnswered, has_dropped, is_dropped, with_entries, with_replies}
use Rattle.law_server_moves.proofs.Lists.{all_append, all_of, each_of, here, later, map_all}
use Rattle.law_server_moves.proofs.Entered.{entered_more}
use Rattle.law_server_moves.proofs.Leading.{moves_once}
use Rattle.law_server_moves.proofs.Judging.{at_all}
use Rattle.law_server_moves.proofs.Losing.{and_right, eq_true}
use Rattle.law_server_moves.proofs.One.{changes, none_grow, with_itself}
use Rattle.law_server_moves.proofs.Others.{one_of_number}

reply_same : (w : World) (x : Session) (one other : Reply) → one.call ≡ other.call → one.content ≡ other.content → IsReplyThere w x one → IsReplyThere w x other
reply_same w x one other call content (inl h) = inl (h.0, h.1, h.2, h.3 ∙ call, h.4 ∙ content)
reply_same w x one other call content (inr h) = inr (h.0, h.1, h.2, h.3 ∙ call, h.4)

forgotten_so : (x : Session) (replies : List Reply) → ((number : ℕ) → has_dropped number x.replies ≡ true → has_dropped number replies ≡ true)
    → (number : ℕ) → HasForgotten number x → HasForgotten number (with_replies replies x)
forgotten_so x replies dropped number (inl low) = inl low
forgotten_so x replies dropped number (inr is) = inr (dropped number is)

-- one more reply leaves the dropped ones
dropped_more : (number : ℕ) (replies : List Reply) (reply : Reply) → has_dropped number replies ≡ true → has_dropped number (replies ++ reply ∷ []) ≡ true
dropped_more number [] reply is = absurd (cc)
dropped_more number (first ∷ replies) reply is =
    elim (cases_Bool ((first.call == number) && is_dropped first.fate)) [
      | inl holds ↦ rw holds refl
      | inr fails ↦ rw fails (dropped_more number replies reply (subst (λ (b : Bool). (b || has_dropped number replies) ≡ true) fails is))
    ]

module _ (w : World) (past : Past) (sessions : List Session) (jobs : Queue) (s : ServerStands w past sessions jobs) (x : Session) (among : Contains sessions x) where
  its : IsStanding w x
  its = each_of (IsStanding w) sessions s.standing x among

  its_jobs : AllByRecursion (IsJobThere w x) jobs
  its_jobs = each_of (λ (o : Session). AllByRecursion (IsJobThere w o) jobs) sessions s.working x among

  -- ---- what became of its replies

  module _ (new : List Reply) (on : GoOn x.replies new) where
    same_there : (reply : Reply) → HasSame x.replies reply → IsReplyThere w (with_replies new x) reply
    same_there reply h = reply_same w x h.0 reply h.2 h.3 (each_of (IsReplyThere w x) x.replies its.replies h.0 h.1)

    still_answered : (number : ℕ) → WasAnswered number x.replies → WasAnswered number new
    still_answered number h =
        let other = each_of (HasSame new) x.replies on.all h.0 h.1 in
        (other.0, other.1, other.2 ∙ h.2)

    fated_stands : IsStanding w (with_replies new x)
    fated_stands = record {
      made = record {
        number = its.made.number;
        salts = its.made.salts;
        forgotten = map_all (λ (n : ℕ). HasForgotten n x) (λ (n : ℕ). HasForgotten n (with_replies new x)) (w.servers x.unique).forgotten
            (λ n is h. forgotten_so x new on.dropped n h) its.made.forgotten;
      };
      stands = its.stands;
      judged = its.judged;
      known = its.known;
      replies = map_all (HasSame x.replies) (IsReplyThere w (with_replies new x)) new (λ reply is h. same_there reply h) on.from;
      entries = map_all (λ (entry : moves.Entry). entry.server ≡ x.unique → WasAnswered entry.number x.replies)
          (λ (entry : moves.Entry). entry.server ≡ x.unique → WasAnswered entry.number new) w.entries (λ entry is h of. still_answered entry.number (h of)) its.entries;
    }

    pub fated : ServerStands w past (with_session (with_replies new x) sessions) jobs
    fated =
        changes w past sessions jobs jobs s x (with_replies new x) among refl refl refl w (λ other differs. refl) (none_grow x.unique w.entries) past refl (λ lives on h. h) (λ m is. is)
        (λ reply o differs r. r) fated_stands its_jobs (λ o differs h. h)

  -- ---- it answers

  module _ (reply : Reply) where
    abbrev more : List Reply
    more = x.replies ++ reply ∷ []

    abbrev answered : Session
    answered = with_replies more x

    also_answered : (number : ℕ) → WasAnswered number x.replies → WasAnswered number more
    also_answered number h = (h.0, Contains-append_left x.replies (reply ∷ []) h.0 h.1, h.2)

    now_answered : WasAnswered reply.call more
    now_answered = (reply, Contains-append_right x.replies (reply ∷ []) reply (here reply []), refl)

    forgotten_more : AllByRecursion (λ (n : ℕ). HasForgotten n answered) (w.servers x.unique).forgotten
    forgotten_more = map_all (λ (n : ℕ). HasForgotten n x) (λ (n : ℕ). HasForgotten n answered) (w.servers x.unique).forgotten
        (λ n is h. forgotten_so x more (λ number dropped. dropped_more number x.replies reply dropped) n h) its.made.forgotten

    answered_before : AllByRecursion (λ (entry : moves.Entry). entry.server ≡ x.unique → WasAnswered entry.number more) w.entries
    answered_before = map_all (λ (entry : moves.Entry). entry.server ≡ x.unique → WasAnswered entry.number x.replies)
        (λ (entry : moves.Entry). entry.server ≡ x.unique → WasAnswered entry.number more) w.entries (λ entry is h of. also_answered entry.number (h of)) its.entries

    -- a message that is no call: no move
    told_stands : WasNoCall w.ups x.number reply.call → IsStanding w answered
    told_stands was = record {
      made = record { number = its.made.number; salts = its.made.salts; forgotten = forgotten_more };
      stands = its.stands;
      judged = its.judged;
      known = its.known;
      replies = all_append (IsReplyThere w answered) x.replies (reply ∷ []) its.replies (inr was, tt);
      entries = answered_before;
    }

    pub tells : WasNoCall w.ups x.number reply.call → ServerStands w past (with_session answered sessions) jobs
    tells was =
        changes w past sessions jobs jobs s x answered among refl refl refl w (λ other differs. refl) (none_grow x.unique w.entries) past refl (λ lives on h. h) (λ m is. is)
        (λ reply o differs r. r) (told_stands was) its_jobs (λ o differs h. h)

    -- a call: one entry
    module _ (request : List ℕ) (accepted_so : Contains (w.servers x.unique).judged (record { number = reply.call; outcome = AcceptedCall request }))
        (unanswered : WasAnswered reply.call x.replies → ⊥) where
      abbrev v : World
      v = after w (Answer x.unique reply.call request reply.content)

      abbrev entry : moves.Entry
      entry = record { server = x.unique; number = reply.call; request = request; reply = reply.content }

      -- what the server enters of it
      abbrev pub entered_of : Bool → Entry
      entered_of ran = record { key = x.key; session = x.number; number = reply.call; request = request; reply = reply.content; ran = ran }

      more_replies : (o : Session) (r : Reply) → IsReplyThere w o r → IsReplyThere v o r
      more_replies o r (inl h) = inl (h.0, later h.0 entry w.entries h.1, h.2, h.3, h.4)
      more_replies o r (inr h) = inr h

      answered_stands : IsStanding v answered
      answered_stands = record {
        made = record { number = its.made.number; salts = its.made.salts; forgotten = forgotten_more };
        stands = its.stands;
        judged = its.judged;
        known = its.known;
        replies = all_append (IsReplyThere v answered) x.replies (reply ∷ [])
            (map_all (IsReplyThere w x) (IsReplyThere v answered) x.replies (λ r is h. more_replies x r h) its.replies)
            (inl (entry, here entry w.entries, refl, refl, refl), tt);
        entries = (λ of. now_answered, answered_before);
      }

      no_entry : All (λ (entry : moves.Entry). entry.server ≡ x.unique → entry.number ≢ reply.call) w.entries
      no_entry = at_all (λ (entry : moves.Entry). entry.server ≡ x.unique → entry.number ≢ reply.call) w.entries
          (map_all (λ (entry : moves.Entry). entry.server ≡ x.unique → WasAnswered entry.number x.replies)
          (λ (entry : moves.Entry). entry.server ≡ x.unique → entry.number ≢ reply.call) w.entries
          (λ entry is h of same. unanswered (subst (λ (n : ℕ). WasAnswered n x.replies) same (h of))) its.entries)

      pub answers : (ran : Bool) → Leads w (λ later. ServerStands later (with_entries (entered_of ran ∷ []) past) (with_session answered sessions) jobs)
      answers ran =
          moves_once w (λ later. ServerStands later (with_entries (entered_of ran ∷ []) past) (with_session answered sessions) jobs) x.unique (Answer x.unique reply.call request reply.content)
          (its.stands, accepted_so, no_entry) refl
          (changes w past sessions jobs jobs s x answered among refl refl refl v (λ other differs. refl) (entry ∷ [], refl, (refl, tt)) (with_entries (entered_of ran ∷ []) past) refl
          (λ lives life h. entered_more lives past (entered_of ran) entry w.entries
          (record { life = life.life; among = life.among; unique = life.unique; key = life.key; session = life.number; number = refl; request = refl; reply = refl }) h)
          (λ m is. is) (λ r o differs h. more_replies o r h) answered_stands its_jobs (λ o differs h. h))

  -- ---- it forgets a number

  module _ (number : ℕ) (given : WasGiven w.ups x.number number) (is : HasForgotten number x) where
    abbrev later_w : World
    later_w = after w (Forget x.unique number)

    other_left : (other : ℕ) → other ≢ x.unique → later_w.servers other ≡ w.servers other
    other_left other differs = rw (ne_eqb other x.unique differs) refl

    list_now : (later_w.servers x.unique).forgotten ≡ number ∷ (w.servers x.unique).forgotten
    list_now = rw (eq-eqb x.unique x.unique refl) refl

    still_stands : IsStanding later_w x
    still_stands = record {
      made = record {
        number = its.made.number;
        salts = its.made.salts;
        forgotten = subst (λ (l : List ℕ). AllByRecursion (λ (n : ℕ). HasForgotten n x) l) (sym list_now) (is, its.made.forgotten);
      };
      stands = its.stands;
      judged = its.judged;
      known = its.known;
      replies = its.replies;
      entries = its.entries;
    }

    pub forgets : Leads w (λ later. ServerStands later past sessions jobs × Contains (later.servers x.unique).forgotten number)
    forgets =
        moves_once w (λ later. ServerStands later past sessions jobs × Contains (later.servers x.unique).forgotten number) x.unique (Forget x.unique number)
        (its.stands, subst (λ (n : ℕ). WasGiven w.ups n number) (sym its.made.number) given) refl (
          subst (λ (l : List Session). ServerStands later_w past l jobs) (with_itself sessions s.apart x among)
              (changes w past sessions jobs jobs s x x among refl refl refl later_w other_left (none_grow x.unique w.entries) past refl (λ lives on h. h) (λ m is. is)
              (λ r o differs h. h) still_stands its_jobs (λ o differs h. h)),
          subst (λ (l : List ℕ). Contains l number) (sym list_now) (here number (w.servers x.unique).forgotten),
        )

  -- ---- it accepts a job

  module _ (job : Job) (session : job.session ≡ x.number) (accepted_so : Contains (w.servers x.unique).judged (record { number = job.number; outcome = AcceptedCall job.request })) where
    abbrev one : Unfinished
    one = record { job = job; failed = false }

    at_other : (o : Session) → Contains sessions o → IsJobThere w o one
    at_other o among_too of =
        let same : o ≡ x = one_of_number sessions s.apart o x among_too among (sym (eq_true job.session o.number (and_right (job.key == o.key) (job.session == o.number) of)) ∙ session) in
        subst (λ (z : Session). Contains (w.servers z.unique).judged (record { number = job.number; outcome = AcceptedCall job.request })) (sym same) accepted_so

    pub accepts : ServerStands w past sessions (accepted job jobs)
    accepts = record {
      standing = s.standing;
      working = all_of (λ (o : Session). AllByRecursion (IsJobThere w o) (accepted job jobs)) sessions
          (λ o among_too. all_append (IsJobThere w o) jobs (one ∷ [])
          (each_of (λ (o : Session). AllByRecursion (IsJobThere w o) jobs) sessions s.working o among_too) (at_other o among_too, tt));
      gone = s.gone;
      apart = s.apart;
      only = s.only;
      entered = s.entered;
    }

-- ---- jobs that stay what they are, or go

module _ (w : World) (past : Past) (sessions : List Session) (jobs new : Queue) (s : ServerStands w past sessions jobs) (from : AllByRecursion (IsJobOf jobs) new) where
  job_so : (o : Session) → Contains sessions o → (one : Unfinished) → IsJobOf jobs one → IsJobThere w o one
  job_so o among one h of =
      let its : Contains (w.servers o.unique).judged (record { number = h.0.job.number; outcome = AcceptedCall h.0.job.request }) =
      each_of (IsJobThere w o) jobs (each_of (λ (o : Session). AllByRecursion (IsJobThere w o) jobs) sessions s.working o among) h.0 h.1
      (ap (λ (k : ℕ). (k == o.key) && (h.0.job.session == o.number)) h.2 ∙ ap (λ (n : ℕ). (one.job.key == o.key) && (n == o.number)) h.3 ∙ of) in
      subst (λ (n : ℕ). Contains (w.servers o.unique).judged (record { number = n; outcome = AcceptedCall one.job.request })) h.4
      (subst (λ (r : List ℕ). Contains (w.servers o.unique).judged (record { number = h.0.job.number; outcome = AcceptedCall r })) h.5 its)

  pub jobs_go_on : ServerStands w past sessions new
  jobs_go_on = record {
    standing = s.standing;
    working = all_of (λ (o : Session). AllByRecursion (IsJobThere w o) new) sessions (λ o among. map_all (IsJobOf jobs) (IsJobThere w o) new (λ one is h. job_so o among one h) from);
    gone = s.gone;
    apart = s.apart;
    only = s.only;
    entered = s.entered;
  }
