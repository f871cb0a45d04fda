-- What is counted of jobs, where one comes or goes.
use Rattle.std.proofs.Common.{◌≡◌, ◌∙◌, ℕ, ◌+◌, ◌^◌, ◌<◌, not, List, ◌∷◌, ◌++◌, length, ap, sym, arith, length-append}
use Rattle.waits.specs.declared.stamped.Stamped.{Stamped}
use Rattle.waits.specs.declared.totals.Totals.{Totals}
use Rattle.waits.specs.Jobs.{is_waiting, is_ready, has_failed, one_if}
use Rattle.waits.specs.Stamps.{weigh, IsWith}
use Rattle.waits.specs.Totals.{AreTotals, AreBelow, Counts, Holds, Differ}
use Rattle.waits.proofs.Sums.{weigh_append, weigh_with, tally_le}

pub among_sum : (m : Stamped → ℕ) (x : Stamped) (others all : List Stamped) → IsWith x others all → weigh m all ≡ m x + weigh m others
among_sum m x others all among = ap (λ (xs : List Stamped). weigh m xs) among.more ∙ (weigh_with m x among.front among.back ∙ ap (λ (xs : List Stamped). m x + weigh m xs) (sym among.less))

pub among_length : (x : Stamped) (others all : List Stamped) → IsWith x others all → length all ≡ length others + 1
among_length x others all among = omega (arith, ap length among.more, ap length among.less, length-append among.front (x ∷ among.back), length-append among.front among.back)

pub holds_one : (x : Stamped) (others all : List Stamped) (totals : Totals) → IsWith x others all → AreTotals all totals → Counts x totals
holds_one x others all totals among right =
    record {
      count = omega (arith, right.count, among_length x others all among);
      waiting = omega (arith, right.waiting, among_sum (λ y. one_if (is_waiting y.one)) x others all among);
      blocked = omega (arith, right.blocked, among_sum (λ y. one_if (not (is_ready y.one))) x others all among);
      failing = omega (arith, right.failing, among_sum (λ y. one_if (has_failed y.one)) x others all among);
    }

pub are_below : (xs : List Stamped) (totals : Totals) → length xs + 1 < 2 ^ 64 → AreTotals xs totals → AreBelow totals
are_below xs totals few right =
    record {
      count = omega (arith, right.count, few);
      waiting = omega (arith, right.count, right.waiting, tally_le (λ y. is_waiting y.one) xs);
      blocked = omega (arith, right.count, right.blocked, tally_le (λ y. not (is_ready y.one)) xs);
      failing = omega (arith, right.count, right.failing, tally_le (λ y. has_failed y.one) xs);
    }

pub counted_more : (x : Stamped) (others all : List Stamped) (old new : Totals) → IsWith x others all → AreTotals others old → new.count ≡ old.count + 1 → new.waiting ≡ old.waiting + one_if (is_waiting x.one) → new.blocked ≡ old.blocked + one_if (not (is_ready x.one)) → new.failing ≡ old.failing + one_if (has_failed x.one) → AreTotals all new
counted_more x others all old new among right count waiting blocked failing =
    record {
      count = omega (arith, count, right.count, among_length x others all among);
      waiting = omega (arith, waiting, right.waiting, among_sum (λ y. one_if (is_waiting y.one)) x others all among);
      blocked = omega (arith, blocked, right.blocked, among_sum (λ y. one_if (not (is_ready y.one))) x others all among);
      failing = omega (arith, failing, right.failing, among_sum (λ y. one_if (has_failed y.one)) x others all among);
    }

pub counted_less : (x : Stamped) (others all : List Stamped) (old new : Totals) → IsWith x others all → AreTotals all old → new.count + 1 ≡ old.count → new.waiting + one_if (is_waiting x.one) ≡ old.waiting → new.blocked + one_if (not (is_ready x.one)) ≡ old.blocked → new.failing + one_if (has_failed x.one) ≡ old.failing → AreTotals others new
counted_less x others all old new among right count waiting blocked failing =
    record {
      count = omega (arith, count, right.count, among_length x others all among);
      waiting = omega (arith, waiting, right.waiting, among_sum (λ y. one_if (is_waiting y.one)) x others all among);
      blocked = omega (arith, blocked, right.blocked, among_sum (λ y. one_if (not (is_ready y.one))) x others all among);
      failing = omega (arith, failing, right.failing, among_sum (λ y. one_if (has_failed y.one)) x others all among);
    }

-- ---- a part of the jobs is changed

around_sum : (m : Stamped → ℕ) (front part back : List Stamped) → weigh m (front ++ (part ++ back)) ≡ weigh m front + (weigh m part + weigh m back)
around_sum m front part back = omega (arith, weigh_append m front (part ++ back), weigh_append m part back)

around_length : (front part back : List Stamped) → length (front ++ (part ++ back)) ≡ length front + (length part + length back)
around_length front part back = omega (arith, length-append front (part ++ back), length-append part back)

pub part_held : (front part new back : List Stamped) (all before after : Totals) → AreTotals (front ++ (part ++ back)) all → AreTotals part before → AreTotals new after → length front + (length new + length back) < 2 ^ 64 → Holds all before after
part_held front part new back all before after right old more few =
    record {
      count = omega (arith, right.count, old.count, around_length front part back);
      waiting = omega (arith, right.waiting, old.waiting, around_sum (λ y. one_if (is_waiting y.one)) front part back);
      blocked = omega (arith, right.blocked, old.blocked, around_sum (λ y. one_if (not (is_ready y.one))) front part back);
      failing = omega (arith, right.failing, old.failing, around_sum (λ y. one_if (has_failed y.one)) front part back);
      count_fits = omega (arith, few, right.count, old.count, more.count, around_length front part back);
      waiting_fits = omega (arith, few, right.waiting, old.waiting, more.waiting, around_sum (λ y. one_if (is_waiting y.one)) front part back, tally_le (λ y. is_waiting y.one) front, tally_le (λ y. is_waiting y.one) new, tally_le (λ y. is_waiting y.one) back);
      blocked_fits = omega (arith, few, right.blocked, old.blocked, more.blocked, around_sum (λ y. one_if (not (is_ready y.one))) front part back, tally_le (λ y. not (is_ready y.one)) front, tally_le (λ y. not (is_ready y.one)) new, tally_le (λ y. not (is_ready y.one)) back);
      failing_fits = omega (arith, few, right.failing, old.failing, more.failing, around_sum (λ y. one_if (has_failed y.one)) front part back, tally_le (λ y. has_failed y.one) front, tally_le (λ y. has_failed y.one) new, tally_le (λ y. has_failed y.one) back);
    }

pub part_changed : (front part new back : List Stamped) (all before after left : Totals) → AreTotals (front ++ (part ++ back)) all → AreTotals part before → AreTotals new after → Differ all before after left → AreTotals (front ++ (new ++ back)) left
part_changed front part new back all before after left right old more differ =
    record {
      count = omega (arith, right.count, old.count, more.count, differ.count, around_length front part back, around_length front new back);
      waiting = omega (arith, right.waiting, old.waiting, more.waiting, differ.waiting, around_sum (λ y. one_if (is_waiting y.one)) front part back, around_sum (λ y. one_if (is_waiting y.one)) front new back);
      blocked = omega (arith, right.blocked, old.blocked, more.blocked, differ.blocked, around_sum (λ y. one_if (not (is_ready y.one))) front part back, around_sum (λ y. one_if (not (is_ready y.one))) front new back);
      failing = omega (arith, right.failing, old.failing, more.failing, differ.failing, around_sum (λ y. one_if (has_failed y.one)) front part back, around_sum (λ y. one_if (has_failed y.one)) front new back);
    }
