-- What the definitions find: a mark, a reply, a job, a row of salts.
use Rattle.std.proofs.Common.{◌≡◌, ℕ, ◌==◌, ◌||◌, Bool, true, false, Option, None, Some, List, [], ◌∷◌, ◌++◌, fold, if◌then◌else◌, inl, inr, refl, sym, ap, subst, ◌∙◌, eq-eqb}
use Rattle.std.specs.Prelude.{◌⊎◌}
use Rattle.std.specs.List.{Contains, find}
use Rattle.std.proofs.lemmas.Bool.{cases_Bool}
use Rattle.salt_line.specs.Rows.{Row}
use Rattle.salt_line.specs.Needed.{has_row, needed, word_in}
use Rattle.id_window.specs.declared.mark.Mark.{Mark}
use Rattle.id_window.specs.declared.mark.Mark.TheVariants.{Noticed as MarkNoticed, Service, Waiting, Dropped}
use Rattle.id_window.specs.Marks.{mark_of}
use Rattle.id_window.specs.History.{FirstJudgement, History, Outcome, Refused, AcceptedContainer, AcceptedCall, AcceptedOther, found, is_kept}
use Rattle.waits.specs.declared.job.Job.{Job}
use Rattle.waits.specs.declared.job.Unfinished.{Unfinished}
use Rattle.waits.specs.Jobs.{Queue, first_job}
use Rattle.server_rules.specs.Server.{Fate, IsKept, Reply, WasAcked, WasDropped, answered_mark, mark_after, mark_by, marks_of, reply_to}
use Rattle.service_tl.specs.Results.{is_good}
use Rattle.law_server_moves.specs.Servers.{has_dropped, is_dropped}
use Rattle.law_server_moves.proofs.Lists.{here, later}

-- ---- in a list

abbrev or_one : {X : Type 0} → Option X → X → X
or_one None other = other
or_one (Some x) other = x

pub some_same : {X : Type 0} (x y : X) → Some x ≡ Some y → x ≡ y
some_same x y is = ap (λ (o : Option _). or_one o x) is

pub found_in : {X : Type 0} (test : X → Bool) (xs : List X) (x : X) → find test xs ≡ Some x → Contains xs x × (test x ≡ true)
found_in test [] x is = absurd (cc)
found_in test (y ∷ xs) x is =
    elim (cases_Bool (test y)) [
      | inl holds ↦
          let same : y ≡ x = some_same y x (subst (λ (b : Bool). (if b then Some y else find test xs) ≡ Some x) holds is) in
          (subst (λ (z : _). Contains (z ∷ xs) x) (sym same) (here x xs), ap test (sym same) ∙ holds)
      | inr fails ↦
          let rest = found_in test xs x (subst (λ (b : Bool). (if b then Some y else find test xs) ≡ Some x) fails is) in
          (later x y xs rest.0, rest.1)
    ]

-- ---- marks

mark_from : (history : History) (replies : List Reply) (n : ℕ) (last : Option Mark) (m : Mark)
    → fold (λ last given. if given.0 == n then Some given.1 else last) last (marks_of history replies) ≡ Some m
    → (last ≡ Some m) ⊎ ((j : FirstJudgement) × Contains history j × ((j.number == n) ≡ true) × (mark_after replies j.number j.outcome ≡ m))
mark_from [] replies n last m is = inl is
mark_from (j ∷ history) replies n last m is =
    elim (mark_from history replies n (if j.number == n then Some (mark_after replies j.number j.outcome) else last) m is) [
      | inr rest ↦ inr (rest.0, later rest.0 j history rest.1, rest.2, rest.3)
      | inl first ↦
          elim (cases_Bool (j.number == n)) [
            | inl holds ↦
                inr (
                  j,
                  here j history,
                  holds,
                  some_same (mark_after replies j.number j.outcome) m
                      (subst (λ (b : Bool). (if b then Some (mark_after replies j.number j.outcome) else last) ≡ Some m) holds first),
                )
            | inr fails ↦ inl (subst (λ (b : Bool). (if b then Some (mark_after replies j.number j.outcome) else last) ≡ Some m) fails first)
          ]
    ]

-- a number's mark is that of a judgement
pub judged_so : (history : History) (replies : List Reply) (n : ℕ) (m : Mark) → found n history (marks_of history replies) ≡ Some m
    → (j : FirstJudgement) × Contains history j × ((j.number == n) ≡ true) × (mark_after replies j.number j.outcome ≡ m)
judged_so history replies n m is =
    elim (cases_Bool (is_kept n history)) [
      | inl holds ↦
          elim (mark_from history replies n None m (subst (λ (b : Bool). (if b then mark_of n (marks_of history replies) else None) ≡ Some m) holds is)) [
            | inl none ↦ absurd (cc)
            | inr one ↦ one
          ]
      | inr fails ↦ let e : None ≡ Some m = subst (λ (b : Bool). (if b then mark_of n (marks_of history replies) else None) ≡ Some m) fails is in absurd (cc)
    ]

fate_noticed : (good : Bool) (fate : Fate) (code : ℕ) → answered_mark good fate ≡ MarkNoticed code → ⊥
fate_noticed good IsKept code is = cc
fate_noticed good WasAcked code is = cc
fate_noticed good WasDropped code is = cc

by_noticed : (unanswered : Mark) → ((code : ℕ) → unanswered ≡ MarkNoticed code → ⊥) → (reply : Option Reply) (code : ℕ) → mark_by unanswered reply ≡ MarkNoticed code → ⊥
by_noticed unanswered differs None code is = differs code is
by_noticed unanswered differs (Some reply) code is = fate_noticed (is_good reply.content) reply.fate code is

waiting_noticed : (code : ℕ) → Waiting ≡ MarkNoticed code → ⊥
waiting_noticed code is = cc

service_noticed : (code : ℕ) → Service ≡ MarkNoticed code → ⊥
service_noticed code is = cc

abbrev code_of : Mark → ℕ
code_of (MarkNoticed code) = code
code_of _ = 0

-- a notice is an outcome
pub noticed_outcome : (replies : List Reply) (n : ℕ) (outcome : Outcome) (code : ℕ) → mark_after replies n outcome ≡ MarkNoticed code → outcome ≡ Refused code
noticed_outcome replies n (Refused other) code is = ap (λ (c : ℕ). Refused c) (ap (λ (m : Mark). code_of m) is)
noticed_outcome replies n AcceptedContainer code is = absurd (cc)
noticed_outcome replies n AcceptedCall code is = absurd (by_noticed Waiting waiting_noticed (reply_to n replies) code is)
noticed_outcome replies n AcceptedOther code is = absurd (by_noticed Service service_noticed (reply_to n replies) code is)

fate_dropped : (good also : Bool) (fate : Fate) → answered_mark good fate ≡ Dropped also → is_dropped fate ≡ true
fate_dropped good also IsKept is = absurd (cc)
fate_dropped good also WasAcked is = absurd (cc)
fate_dropped good also WasDropped is = refl

has_it : (replies : List Reply) (n : ℕ) (reply : Reply) → reply_to n replies ≡ Some reply → is_dropped reply.fate ≡ true → has_dropped n replies ≡ true
has_it [] n reply is was = absurd (cc)
has_it (first ∷ replies) n reply is was =
    elim (cases_Bool (first.call == n)) [
      | inl holds ↦
          let same : first ≡ reply = some_same first reply (subst (λ (b : Bool). (if b then Some first else reply_to n replies) ≡ Some reply) holds is) in
          let fate : is_dropped first.fate ≡ true = ap (λ (r : Reply). is_dropped r.fate) same ∙ was in
          rw (holds, fate) refl
      | inr fails ↦ rw fails (has_it replies n reply (subst (λ (b : Bool). (if b then Some first else reply_to n replies) ≡ Some reply) fails is) was)
    ]

by_dropped : (unanswered : Mark) → ((also : Bool) → unanswered ≡ Dropped also → ⊥) → (replies : List Reply) (n : ℕ) (reply : Option Reply) → reply_to n replies ≡ reply
    → (also : Bool) → mark_by unanswered reply ≡ Dropped also → has_dropped n replies ≡ true
by_dropped unanswered differs replies n None found_so also is = absurd (differs also is)
by_dropped unanswered differs replies n (Some reply) found_so also is = has_it replies n reply found_so (fate_dropped (is_good reply.content) also reply.fate is)

waiting_dropped : (also : Bool) → Waiting ≡ Dropped also → ⊥
waiting_dropped also is = cc

service_dropped : (also : Bool) → Service ≡ Dropped also → ⊥
service_dropped also is = cc

-- a dropped one was dropped
pub dropped_outcome : (replies : List Reply) (n : ℕ) (outcome : Outcome) (also : Bool) → mark_after replies n outcome ≡ Dropped also → has_dropped n replies ≡ true
dropped_outcome replies n (Refused other) also is = absurd (cc)
dropped_outcome replies n AcceptedContainer also is = absurd (cc)
dropped_outcome replies n AcceptedCall also is = by_dropped Waiting waiting_dropped replies n (reply_to n replies) refl also is
dropped_outcome replies n AcceptedOther also is = by_dropped Service service_dropped replies n (reply_to n replies) refl also is

-- ---- jobs

pub first_in : (test : Unfinished → Bool) (jobs : Queue) (job : Job) → first_job test jobs ≡ Some job
    → (one : Unfinished) × Contains jobs one × (one.job ≡ job) × (test one ≡ true)
first_in test [] job is = absurd (cc)
first_in test (one ∷ jobs) job is =
    elim (cases_Bool (test one)) [
      | inl holds ↦ (one, here one jobs, some_same one.job job (subst (λ (b : Bool). (if b then Some one.job else first_job test jobs) ≡ Some job) holds is), holds)
      | inr fails ↦
          let rest = first_in test jobs job (subst (λ (b : Bool). (if b then Some one.job else first_job test jobs) ≡ Some job) fails is) in
          (rest.0, later rest.0 one jobs rest.1, rest.2, rest.3)
    ]

-- ---- rows

in_others : (b : Bool) (one other word : ℕ) → b ≡ false → word ≡ other → word ≡ (if b then one else other)
in_others true one other word fails is = absurd (cc)
in_others false one other word fails is = is

pub row_in : (period : ℕ) (rows : List Row) → has_row period rows ≡ true → (row : Row) × Contains rows row × (row.word ≡ word_in period rows)
row_in period [] is = absurd (cc)
row_in period (row ∷ rows) is =
    elim (cases_Bool (row.period == period)) [
      | inl holds ↦ (row, here row rows, rw holds refl)
      | inr fails ↦
          let rest = row_in period rows (subst (λ (b : Bool). (b || has_row period rows) ≡ true) fails is) in
          (rest.0, later rest.0 row rows rest.1, in_others (row.period == period) row.word (word_in period rows) rest.0.word fails rest.2)
    ]

has_more : (period : ℕ) (rows : List Row) (row : Row) → row.period ≡ period → has_row period (rows ++ row ∷ []) ≡ true
has_more period [] row is = rw (eq-eqb row.period period is) refl
has_more period (first ∷ rows) row is =
    elim (cases_Bool (first.period == period)) [
      | inl holds ↦ rw holds refl
      | inr fails ↦ rw fails (has_more period rows row is)
    ]

pub needed_row : {S : Type 0} (step : S → ℕ × S) (period : ℕ) (rows : List Row) (draw : S) → has_row period (needed step period (rows, draw)).0 ≡ true
needed_row step period rows draw =
    elim (cases_Bool (has_row period rows)) [
      | inl holds ↦ rw holds holds
      | inr fails ↦ rw fails (has_more period rows (record { period = period; word = (step draw).0 }) refl)
    ]
