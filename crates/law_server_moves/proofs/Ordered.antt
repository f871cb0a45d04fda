-- The jobs of a server in order are open.
use Rattle.std.proofs.Common.{◌≡◌, ◌≢◌, zero, suc, ◌<◌, arith, Bool, true, false, Option, None, Some, List, [], ◌∷◌, length, if◌then◌else◌, inl, inr, refl, sym, ap, subst, ◌∙◌, eq-eqb}
use Rattle.std.specs.List.{AllPairs, Contains, find}
use Rattle.std.proofs.lemmas.Bool.{cases_Bool}
use Rattle.std.proofs.lemmas.List.Elements.{All-contains}
use Rattle.waits.specs.declared.job.Unfinished.{Unfinished}
use Rattle.waits.specs.Jobs.{Queue, is_of}
use Rattle.server_rules.specs.Server.{Name, Reply, Session, is_named, name_of, session_named}
use Rattle.law_server.specs.Order.{IsOrderlyAt, IsUnanswered, jobs_of}
use Rattle.law_server_moves.specs.Servers.{AreApart}
use Rattle.law_server_moves.specs.Speaking.{IsOpen}
use Rattle.law_server_moves.specs.Events.{AreCallsApart, AreOpenJobs, AreUnanswered, IsSameCall}
use Rattle.law_server_moves.proofs.Lists.{all_of, first_or, kept_in}
use Rattle.law_server_moves.proofs.Losing.{named_itself, number_of_named}
use Rattle.law_server_moves.proofs.Others.{one_of_number}
use Rattle.law_server_moves.proofs.Found.{found_in}

abbrev Differ : Unfinished → Unfinished → Type 0
Differ one other = one.job.number ≢ other.job.number

pairs_head : (x : Unfinished) (xs : Queue) (y : Unfinished) → AllPairs Differ (x ∷ xs) → Contains xs y → Differ x y
pairs_head x xs y h c = let below : c.0 < length xs = c.1 in subst (λ (z : Unfinished). Differ x z) c.2 (h zero (suc c.0) y (omega arith) (omega (arith, below)))

pairs_tail : (x : Unfinished) (xs : Queue) → AllPairs Differ (x ∷ xs) → AllPairs Differ xs
pairs_tail x xs h = λ i j d lt within. h (suc i) (suc j) d (omega (arith, lt)) (omega (arith, within))

no_pairs : AllPairs Differ []
no_pairs = λ i j d lt within. absurd (omega (arith, within))

apart_of : (jobs : Queue) → ((name : Name) → AllPairs Differ (jobs_of name jobs)) → AreCallsApart jobs
apart_of [] h = tt
apart_of (one ∷ jobs) h =
    let name : Name = record { key = one.job.key; session = one.job.session } in
    let of_one : is_of name.key name.session one ≡ true = rw (eq-eqb one.job.key one.job.key refl, eq-eqb one.job.session one.job.session refl) refl in
    let its : AllPairs Differ (one ∷ jobs_of name jobs) =
    subst (λ (b : Bool). AllPairs Differ (if b then one ∷ jobs_of name jobs else jobs_of name jobs)) of_one (h name) in (
      all_of (λ (other : Unfinished). IsSameCall one.job other → ⊥) jobs
          (λ other is same.
          let of_other : is_of name.key name.session other ≡ true = rw (eq-eqb other.job.key one.job.key (sym same.0), eq-eqb other.job.session one.job.session (sym same.1)) refl in
          pairs_head one (jobs_of name jobs) other its (kept_in (is_of name.key name.session) jobs other is of_other) same.2),
      apart_of jobs
          (λ name.
          elim (cases_Bool (is_of name.key name.session one)) [
            | inl is ↦ pairs_tail one (jobs_of name jobs) (subst (λ (b : Bool). AllPairs Differ (if b then one ∷ jobs_of name jobs else jobs_of name jobs)) is (h name))
            | inr not ↦ subst (λ (b : Bool). AllPairs Differ (if b then one ∷ jobs_of name jobs else jobs_of name jobs)) not (h name)
          ]),
    )

once_at : (found : Option Session) (jobs : Queue) → IsOrderlyAt found jobs → AllPairs Differ jobs
once_at None jobs h = subst (λ (l : Queue). AllPairs Differ l) (sym h) no_pairs
once_at (Some x) jobs h = h.unfinished.once

finds : (test : Session → Bool) (sessions : List Session) (x : Session) → Contains sessions x → test x ≡ true → (y : Session) × (find test sessions ≡ Some y)
finds test [] x among is = let below : among.0 < 0 = among.1 in absurd (omega (arith, below))
finds test (first ∷ sessions) x among is =
    elim (cases_Bool (test first)) [
      | inl holds ↦ (first, rw holds refl)
      | inr fails ↦
          elim (first_or x first sessions among) [
            | inl same ↦ let e : false ≡ true = sym fails ∙ ap test same ∙ is in absurd (cc)
            | inr other ↦ let rest = finds test sessions x other is in let found : find test sessions ≡ Some rest.0 = rest.1 in (rest.0, rw fails found)
          ]
    ]

module _ (sessions : List Session) (jobs : Queue) (apart : AreApart sessions) (each : (name : Name) → IsOrderlyAt (session_named name sessions) (jobs_of name jobs)) where
  pub orderly : (x : Session) → Contains sessions x → IsOrderlyAt (Some x) (jobs_of (name_of x) jobs)
  orderly x among =
      let found = finds (is_named (name_of x)) sessions x among (named_itself x) in
      let y = found_in (is_named (name_of x)) sessions found.0 found.1 in
      let same : found.0 ≡ x = one_of_number sessions apart found.0 x y.0 among (sym (number_of_named (name_of x) found.0 y.1)) in
      subst (λ (o : Option Session). IsOrderlyAt o (jobs_of (name_of x) jobs)) (found.1 ∙ ap (λ (z : Session). Some z) same) (each (name_of x))

  its_open : (x : Session) → Contains sessions x → AreUnanswered jobs x
  its_open x among =
      all_of (λ (one : Unfinished). is_of x.key x.number one ≡ true → IsOpen one.job.number x.replies) jobs
      (λ one is of was.
      let none : IsUnanswered x.replies one.job.number =
      All-contains (λ (one : Unfinished). IsUnanswered x.replies one.job.number) (jobs_of (name_of x) jobs) one (orderly x among).unfinished.unanswered (kept_in (is_of x.key x.number) jobs one is of) in
      All-contains (λ (reply : Reply). reply.call ≢ one.job.number) x.replies was.0 none was.1 was.2)

  pub ordered_open : AreOpenJobs sessions jobs
  ordered_open = record {
    unanswered = all_of (AreUnanswered jobs) sessions (λ x among. its_open x among);
    apart = apart_of jobs (λ name. once_at (session_named name sessions) (jobs_of name jobs) (each name));
  }
