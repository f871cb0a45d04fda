-- The jobs of a session are kept right where one comes, goes or is told.
use Rattle.std.proofs.Common.{◌≡◌, ◌∙◌, ℕ, ◌+◌, ◌<◌, ◌≤◌, max, Bool, true, not, ◌&&◌, List, [], ◌∷◌, ◌++◌, length, map, ap, sym, refl, subst, arith, length-append}
use Rattle.std.specs.List.{remove}
use Rattle.std.proofs.lemmas.List.{length-map}
use Rattle.waits.specs.declared.stamped.Stamped.{Stamped}
use Rattle.waits.specs.declared.totals.Totals.{Totals}
use Rattle.waits.specs.declared.owner.Owner.TheInside.{Inside}
use Rattle.waits.specs.Limits.{most_jobs, most_job_bytes}
use Rattle.waits.specs.Jobs.{is_of, one_if, load_of, waits_for, after_answer}
use Rattle.waits.specs.Numbers.{greatest_of, are_above}
use Rattle.waits.specs.Stamps.{tally, after, bytes_of, IsRising}
use Rattle.waits.specs.Totals.{AreTotals}
use Rattle.waits.specs.Parts.{is_later}
use Rattle.waits.specs.Owned.{IsOwned}
use Rattle.waits.proofs.Sums.{weigh_append}
use Rattle.waits.proofs.Counted.{among_sum, among_length}
use Rattle.waits.proofs.Rising.{IsAt, rising_push, rising_map}
use Rattle.waits.proofs.Owned.{waiters, known_less, known_more, waiters_told, own_told, bytes_told, among_at, rising_at}

pub none_owned : (nodes : List Stamped) (key session : ℕ) (totals : Totals) → nodes ≡ [] → AreTotals [] totals → IsOwned (record { key = key; session = session; jobs = nodes; totals = totals; bytes = 0; greatest = 0; single = true })
none_owned nodes key session totals none counted =
    record {
      own = ap (λ (xs : List Stamped). tally (λ x. not (is_of key session x.one)) xs) none;
      rising = subst IsRising (sym none) tt;
      fits = omega (arith, ap (λ (xs : List Stamped). length xs) none);
      bytes_fit = omega arith;
      totals = subst (λ (xs : List Stamped). AreTotals xs totals) (sym none) counted;
      bytes = sym (ap bytes_of none);
      greatest = λ number above. ap (waiters key session number) none;
      single = λ one number. omega (arith, ap (waiters key session number) none);
    }

pub owned_more : (owner : Inside) (x : Stamped) (jobs : List Stamped) (totals : Totals) (bytes greatest : ℕ) (single : Bool) → IsOwned owner → jobs ≡ owner.jobs ++ x ∷ [] → is_of owner.key owner.session x.one ≡ true → length owner.jobs < most_jobs → bytes_of owner.jobs + load_of x.one.job ≤ most_job_bytes → is_later x owner.jobs → AreTotals (owner.jobs ++ x ∷ []) totals → bytes ≡ owner.bytes + load_of x.one.job → greatest ≡ max owner.greatest (greatest_of x.one.job.after) → single ≡ (owner.single && are_above owner.greatest x.one.job.after) → IsOwned (record owner { jobs = jobs; totals = totals; bytes = bytes; greatest = greatest; single = single })
owned_more owner x jobs totals bytes greatest single owned is mine fits bytes_fit later counted more above one =
    let xs = owner.jobs in
    let known = known_more owner.key owner.session owner.greatest owner.single xs x (record { none_above = owned.greatest; alone = owned.single }) in
    let nought : one_if (not (is_of owner.key owner.session x.one)) ≡ 0 = rw mine refl in
    record {
      own = omega (arith, ap (λ (ys : List Stamped). tally (λ y. not (is_of owner.key owner.session y.one)) ys) is, weigh_append (λ y. one_if (not (is_of owner.key owner.session y.one))) xs (x ∷ []), owned.own, nought);
      rising = subst IsRising (sym is) (rising_push xs x owned.rising later);
      fits = omega (arith, ap (λ (ys : List Stamped). length ys) is, length-append xs (x ∷ []), fits);
      bytes_fit = omega (arith, more, owned.bytes, bytes_fit);
      totals = subst (λ (ys : List Stamped). AreTotals ys totals) (sym is) counted;
      bytes = omega (arith, more, owned.bytes, ap bytes_of is, weigh_append (λ y. load_of y.one.job) xs (x ∷ []));
      greatest = λ number past. ap (waiters owner.key owner.session number) is ∙ known.none_above number (omega (arith, past, above));
      single = λ alone number. omega (arith, ap (waiters owner.key owner.session number) is, known.alone (sym one ∙ alone) number);
    }

pub owned_less : (owner : Inside) (at : ℕ) (x : Stamped) (jobs : List Stamped) (totals : Totals) (bytes : ℕ) → IsOwned owner → IsAt owner.jobs at x → jobs ≡ remove owner.jobs at → AreTotals (remove owner.jobs at) totals → bytes + load_of x.one.job ≡ owner.bytes → IsOwned (record owner { jobs = jobs; totals = totals; bytes = bytes })
owned_less owner at x jobs totals bytes owned one is counted less =
    let xs = owner.jobs in
    let among = among_at xs at x one in
    let sum = λ (m : Stamped → ℕ). among_sum m x (remove xs at) xs among in
    let known = known_less owner.key owner.session owner.greatest owner.single xs (remove xs at) (λ number. omega (arith, sum (λ y. one_if (waits_for owner.key owner.session number y.one)))) (record { none_above = owned.greatest; alone = owned.single }) in
    record {
      own = omega (arith, ap (λ (ys : List Stamped). tally (λ y. not (is_of owner.key owner.session y.one)) ys) is, sum (λ y. one_if (not (is_of owner.key owner.session y.one))), owned.own);
      rising = subst IsRising (sym is) (rising_at xs at x one owned.rising);
      fits = omega (arith, ap (λ (ys : List Stamped). length ys) is, among_length x (remove xs at) xs among, owned.fits);
      bytes_fit = omega (arith, less, owned.bytes_fit);
      totals = subst (λ (ys : List Stamped). AreTotals ys totals) (sym is) counted;
      bytes = omega (arith, less, owned.bytes, ap bytes_of is, sum (λ y. load_of y.one.job));
      greatest = λ number past. ap (waiters owner.key owner.session number) is ∙ known.none_above number past;
      single = λ alone number. omega (arith, ap (waiters owner.key owner.session number) is, known.alone alone number);
    }

pub owned_told : (owner : Inside) (key session number : ℕ) (ok : Bool) (jobs : List Stamped) (totals : Totals) (bytes : ℕ) → IsOwned owner → jobs ≡ map (after key session number ok) owner.jobs → AreTotals jobs totals → bytes ≡ bytes_of jobs → owner.key ≡ key → owner.session ≡ session → IsOwned (record owner { jobs = jobs; totals = totals; bytes = bytes })
owned_told owner key session number ok jobs totals bytes owned is counted sum same_key same_session =
    let xs = owner.jobs in
    let told = map (after key session number ok) xs in
    let less = λ (other : ℕ). subst (λ (k : ℕ). waiters k owner.session other told ≤ waiters k owner.session other xs) (sym same_key) (subst (λ (s : ℕ). waiters key s other told ≤ waiters key s other xs) (sym same_session) (waiters_told key session number ok xs other)) in
    let known = known_less owner.key owner.session owner.greatest owner.single xs told less (record { none_above = owned.greatest; alone = owned.single }) in
    record {
      own = ap (λ (ys : List Stamped). tally (λ y. not (is_of owner.key owner.session y.one)) ys) is ∙ (own_told owner.key owner.session key session number ok xs ∙ owned.own);
      rising = subst IsRising (sym is) (rising_map (after_answer key session number ok) xs owned.rising);
      fits = omega (arith, ap (λ (ys : List Stamped). length ys) is, length-map xs (after key session number ok), owned.fits);
      bytes_fit = omega (arith, sum, ap bytes_of is, bytes_told key session number ok xs, owned.bytes, owned.bytes_fit);
      totals = counted;
      bytes = sum;
      greatest = λ other past. ap (waiters owner.key owner.session other) is ∙ known.none_above other past;
      single = λ alone other. omega (arith, ap (waiters owner.key owner.session other) is, known.alone alone other);
    }
