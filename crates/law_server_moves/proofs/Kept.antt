-- What an event makes of replies and of jobs leaves them what they are.
use Rattle.std.proofs.Common.{◌≡◌, ℕ, zero, suc, ◌==◌, ◌&&◌, ◌||◌, Bool, true, false, List, [], ◌∷◌, map, if◌then◌else◌, inl, inr, refl, sym, ap, subst, ◌∙◌}
use Rattle.std.specs.Prelude.{⊤}
use Rattle.std.specs.List.{AllByRecursion, Contains, list_any}
use Rattle.std.proofs.lemmas.Bool.{cases_Bool}
use Rattle.outbox.specs.Replies.{fits}
use Rattle.waits.specs.declared.job.Unfinished.{Unfinished}
use Rattle.waits.specs.Jobs.{Queue, after_answer, is_ready, settled, told as job_told, waits_for, without_first, without_ready}
use Rattle.server_rules.specs.Server.{Fate, IsKept, Reply, Session, WasAcked, WasDropped, is_fate_kept, is_kept, kept_replies}
use Rattle.server_rules.specs.Speaking.{dropped, made_room}
use Rattle.server_rules.specs.Waiting.{GoesOn, InVain, Outlook, Over, told}
use Rattle.server_rules.specs.Rows.{acked_by}
use Rattle.law_server_moves.specs.Servers.{GoOn, HasSame, IsJobOf, has_dropped, is_dropped}
use Rattle.law_server_moves.proofs.Lists.{here, later, map_all}

-- ---- replies

abbrev Alike : Reply → Reply → Type 0
Alike one other = (other.call ≡ one.call) × (other.content ≡ one.content) × (is_dropped one.fate ≡ true → is_dropped other.fate ≡ true)

abbrev AreAlike : List Reply → List Reply → Type 0
AreAlike [] [] = ⊤
AreAlike [] (other ∷ others) = ⊥
AreAlike (one ∷ ones) [] = ⊥
AreAlike (one ∷ ones) (other ∷ others) = Alike one other × AreAlike ones others

from_all : (old new : List Reply) → AreAlike old new → AllByRecursion (HasSame old) new
from_all [] [] h = tt
from_all [] (q ∷ new) h = absurd h
from_all (r ∷ old) [] h = tt
from_all (r ∷ old) (q ∷ new) h = (
  (r, here r old, sym h.0.0, sym h.0.1),
  map_all (HasSame old) (HasSame (r ∷ old)) new (λ q is s. (s.0, later s.0 r old s.1, s.2, s.3)) (from_all old new h.1),
)

to_all : (old new : List Reply) → AreAlike old new → AllByRecursion (HasSame new) old
to_all [] new h = tt
to_all (r ∷ old) [] h = absurd h
to_all (r ∷ old) (q ∷ new) h = (
  (q, here q new, h.0.0, h.0.1),
  map_all (HasSame new) (HasSame (q ∷ new)) old (λ r is s. (s.0, later s.0 q new s.1, s.2, s.3)) (to_all old new h.1),
)

and_both : (a b : Bool) → (a && b) ≡ true → (a ≡ true) × (b ≡ true)
and_both true b is = (refl, is)
and_both false b is = absurd (cc)

or_right : (a b : Bool) → b ≡ true → (a || b) ≡ true
or_right true b is = refl
or_right false b is = is

dropped_all : (number : ℕ) (old new : List Reply) → AreAlike old new → has_dropped number old ≡ true → has_dropped number new ≡ true
dropped_all number [] new h is = absurd (cc)
dropped_all number (r ∷ old) [] h is = absurd h
dropped_all number (r ∷ old) (q ∷ new) h is =
    elim (cases_Bool ((r.call == number) && is_dropped r.fate)) [
      | inl holds ↦
          let both = and_both (r.call == number) (is_dropped r.fate) holds in
          rw (ap (λ (call : ℕ). call == number) h.0.0 ∙ both.0, h.0.2 both.1) refl
      | inr fails ↦
          or_right ((q.call == number) && is_dropped q.fate) (has_dropped number new)
          (dropped_all number old new h.1 (subst (λ (b : Bool). (b || has_dropped number old) ≡ true) fails is))
    ]

go_on : (old new : List Reply) → AreAlike old new → GoOn old new
go_on old new h = record { from = from_all old new h; all = to_all old new h; dropped = λ number is. dropped_all number old new h is }

itself : (r : Reply) → Alike r r
itself r = (refl, refl, λ is. is)

alike_dropped : (r : Reply) → Alike r (dropped r)
alike_dropped r =
    elim (cases_Bool (is_kept r)) [
      | inl is ↦ rw is (refl, refl, λ was. refl)
      | inr not ↦ rw not (itself r)
    ]

kept_not_dropped : (fate : Fate) → is_fate_kept fate ≡ true → is_dropped fate ≡ true → ⊥
kept_not_dropped IsKept kept was = cc
kept_not_dropped WasAcked kept was = cc
kept_not_dropped WasDropped kept was = cc

alike_acked : (numbers : List ℕ) (r : Reply) → Alike r (acked_by numbers r)
alike_acked numbers r =
    elim (cases_Bool (is_kept r && list_any (λ number. number == r.number) numbers)) [
      | inl is ↦ rw is (refl, refl, λ was. absurd (kept_not_dropped r.fate (and_both (is_kept r) (list_any (λ number. number == r.number) numbers) is).0 was))
      | inr not ↦ rw not (itself r)
    ]

alike_numbered : (number : ℕ) (r : Reply) → Alike r (if r.number == number then dropped r else r)
alike_numbered number r =
    elim (cases_Bool (r.number == number)) [
      | inl is ↦ rw is (alike_dropped r)
      | inr not ↦ rw not (itself r)
    ]

all_alike : (f : Reply → Reply) → ((r : Reply) → Alike r (f r)) → (replies : List Reply) → AreAlike replies (map f replies)
all_alike f each [] = tt
all_alike f each (r ∷ replies) = (each r, all_alike f each replies)

alike_if : (b : Bool) (r : Reply) → Alike r (if b then r else dropped r)
alike_if true r = itself r
alike_if false r = alike_dropped r

alike_room : (bytes : ℕ) (replies : List Reply) → AreAlike replies (made_room bytes replies)
alike_room bytes [] = tt
alike_room bytes (r ∷ replies) = (alike_if (fits bytes (kept_replies (r ∷ replies))) r, alike_room bytes replies)

pub room_made : (bytes : ℕ) (replies : List Reply) → GoOn replies (made_room bytes replies)
room_made bytes replies = go_on replies (made_room bytes replies) (alike_room bytes replies)

pub acks_taken : (numbers : List ℕ) (replies : List Reply) → GoOn replies (map (acked_by numbers) replies)
acks_taken numbers replies = go_on replies (map (acked_by numbers) replies) (all_alike (acked_by numbers) (alike_acked numbers) replies)

pub one_dropped : (number : ℕ) (replies : List Reply) → GoOn replies (map (λ other. if other.number == number then dropped other else other) replies)
one_dropped number replies =
    go_on replies (map (λ other. if other.number == number then dropped other else other) replies)
    (all_alike (λ other. if other.number == number then dropped other else other) (alike_numbered number) replies)

-- ---- jobs

one_more : (one : Unfinished) (jobs new : Queue) → AllByRecursion (IsJobOf jobs) new → AllByRecursion (IsJobOf (one ∷ jobs)) new
one_more one jobs new h =
    map_all (IsJobOf jobs) (IsJobOf (one ∷ jobs)) new (λ j is s. (s.0, later s.0 one jobs s.1, s.2, s.3, s.4, s.5)) h

pub same_jobs : (jobs : Queue) → AllByRecursion (IsJobOf jobs) jobs
same_jobs [] = tt
same_jobs (one ∷ jobs) = ((one, here one jobs, refl, refl, refl, refl), one_more one jobs jobs (same_jobs jobs))

pub first_out : (test : Unfinished → Bool) (jobs : Queue) → AllByRecursion (IsJobOf jobs) (without_first test jobs)
first_out test [] = tt
first_out test (one ∷ jobs) =
    elim (cases_Bool (test one)) [
      | inl is ↦ rw is (one_more one jobs jobs (same_jobs jobs))
      | inr not ↦ rw not ((one, here one jobs, refl, refl, refl, refl), one_more one jobs (without_first test jobs) (first_out test jobs))
    ]

pub ready_out : (place : ℕ) (jobs : Queue) → AllByRecursion (IsJobOf jobs) (without_ready place jobs)
ready_out place [] = tt
ready_out zero (one ∷ jobs) =
    elim (cases_Bool (is_ready one)) [
      | inl is ↦ rw is (one_more one jobs jobs (same_jobs jobs))
      | inr not ↦ rw not ((one, here one jobs, refl, refl, refl, refl), one_more one jobs (without_ready zero jobs) (ready_out zero jobs))
    ]
ready_out (suc place) (one ∷ jobs) =
    ((one, here one jobs, refl, refl, refl, refl), one_more one jobs (without_ready (if is_ready one then place else suc place) jobs) (ready_out (if is_ready one then place else suc place) jobs))

told_same : (jobs : Queue) (number : ℕ) (ok : Bool) (one : Unfinished) → Contains jobs one → IsJobOf jobs (job_told number ok one)
told_same jobs number true one among = (one, among, refl, refl, refl, refl)
told_same jobs number false one among = (one, among, refl, refl, refl, refl)

answered_same : (jobs : Queue) (key session number : ℕ) (ok : Bool) (one : Unfinished) → Contains jobs one → IsJobOf jobs (after_answer key session number ok one)
answered_same jobs key session number ok one among =
    elim (cases_Bool (waits_for key session number one)) [
      | inl is ↦ rw is (told_same jobs number ok one among)
      | inr not ↦ rw not (one, among, refl, refl, refl, refl)
    ]

settled_from : (jobs : Queue) (key session number : ℕ) (ok : Bool) (list : Queue) → ((one : Unfinished) → Contains list one → Contains jobs one)
    → AllByRecursion (IsJobOf jobs) (settled key session number ok list)
settled_from jobs key session number ok [] among = tt
settled_from jobs key session number ok (one ∷ list) among = (
  answered_same jobs key session number ok one (among one (here one list)),
  settled_from jobs key session number ok list (λ j is. among j (later j one list is)),
)

pub all_told : (outlook : Outlook) (session : Session) (number : ℕ) (jobs : Queue) → AllByRecursion (IsJobOf jobs) (told outlook session number jobs)
all_told Over session number jobs = settled_from jobs session.key session.number number true jobs (λ one is. is)
all_told InVain session number jobs = settled_from jobs session.key session.number number false jobs (λ one is. is)
all_told GoesOn session number jobs = same_jobs jobs
