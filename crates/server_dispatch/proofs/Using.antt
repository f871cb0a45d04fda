-- What steps use up, of what they spend.
use Rattle.std.proofs.Common.{◌≡◌, ◌≤◌, ◌+◌, ℕ, Bool, ap, refl, arith}
use Rattle.outbox.specs.declared.kept.Kept.{Kept}
use Rattle.outbox.specs.Replies.{Contents}
use Rattle.server_output.specs.Dues.{Dues}
use Rattle.server_session.specs.declared.session.SessionState.{SessionState}
use Rattle.server_session.specs.SessionState.{replies_left}
use Rattle.server_session.specs.Unsaid.{NoMoreUnsaid}
use Rattle.server_dispatch.specs.declared.turn.Turn.{Turn}
use Rattle.server_dispatch.specs.Speaks.{Spends}
use Rattle.server_dispatch.specs.Spare.{HasSpare, Uses}

-- the same kept replies leave as much room for further ones
pub same-left : (before after : Contents) → after ≡ before → before.room ≤ after.room + 0
same-left before after same = let left = ap (λ (outbox : Contents). outbox.room) same in omega arith

pub used : (called : Kept → Bool) (now messages size answers replies : ℕ) (spent sized recorded kept : ℕ) (standing : SessionState) (turn : Turn) (after : SessionState) (left : Turn)
    → Spends now spent sized recorded standing turn after left → NoMoreUnsaid standing turn.owing after left.owing
    → replies_left standing ≤ replies_left after + kept
    → spent ≤ messages → sized ≤ size → recorded ≤ answers → kept ≤ replies
    → Uses called now messages size answers replies standing turn after left
used called now messages size answers replies spent sized recorded kept standing turn after left spends unsaid room few short entered fewer =
    record {
      places = omega (arith, spends.places, unsaid.count called);
      bytes = omega (arith, spends.bytes, unsaid.bytes called);
      numbers = omega (arith, spends.numbers);
      entries = omega (arith, spends.entries);
      replies = omega arith;
      places_taken = spends.places_taken;
      bytes_taken = spends.bytes_taken;
      key = spends.key;
      number = spends.number;
      at = spends.at;
    }

pub more-used : (called : Kept → Bool) (now messages size answers replies : ℕ) (spent sized recorded kept : ℕ) (standing : SessionState) (turn : Turn) (after : SessionState) (left : Turn)
    → Uses called now spent sized recorded kept standing turn after left
    → spent ≤ messages → sized ≤ size → recorded ≤ answers → kept ≤ replies
    → Uses called now messages size answers replies standing turn after left
more-used called now messages size answers replies spent sized recorded kept standing turn after left uses few short entered fewer =
    record {
      places = omega (arith, uses.places);
      bytes = omega (arith, uses.bytes);
      numbers = omega (arith, uses.numbers);
      entries = omega (arith, uses.entries);
      replies = omega (arith, uses.replies);
      places_taken = uses.places_taken;
      bytes_taken = uses.bytes_taken;
      key = uses.key;
      number = uses.number;
      at = uses.at;
    }

pub less-spare : (called : Kept → Bool) (messages size answers replies : ℕ) (needed sized recorded kept : ℕ) (standing : SessionState) (turn : Turn) → HasSpare called messages size answers replies standing turn
    → needed ≤ messages → sized ≤ size → recorded ≤ answers → kept ≤ replies → HasSpare called needed sized recorded kept standing turn
less-spare called messages size answers replies needed sized recorded kept standing turn spare few short entered fewer =
    record {
      places = omega (arith, spare.places);
      bytes = omega (arith, spare.bytes);
      numbers = omega (arith, spare.numbers);
      entries = omega (arith, spare.entries);
      replies = omega (arith, spare.replies);
    }

-- as before, nothing is used
pub none-used : (called : Kept → Bool) (now messages size answers replies : ℕ) (standing : SessionState) (turn : Turn) → Uses called now messages size answers replies standing turn standing turn
none-used called now messages size answers replies standing turn =
    record {
      places = omega arith;
      bytes = omega arith;
      numbers = omega arith;
      entries = omega arith;
      replies = omega arith;
      places_taken = refl;
      bytes_taken = refl;
      key = refl;
      number = refl;
      at = λ is. is;
    }

pub both-unsaid : (standing next after : SessionState) (owing owed left : Dues) → NoMoreUnsaid standing owing next owed → NoMoreUnsaid next owed after left → NoMoreUnsaid standing owing after left
both-unsaid standing next after owing owed left one other = record { count = λ called. omega (arith, one.count called, other.count called); bytes = λ called. omega (arith, one.bytes called, other.bytes called) }
