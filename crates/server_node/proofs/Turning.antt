-- The reads of a connection, one after the other.
use Rattle.std.proofs.Common.{◌≡◌, ◌≢◌, ◌<◌, ◌+◌, ℕ, zero, suc, List, [], ◌∷◌, ◌++◌, length, All, Option, Some, None, IfSome, IsSomeAnd, inl, inr, refl, sym, ap, subst, ◌∙◌, append_assoc, append-nil, length-append, arith}
use Rattle.std.proofs.lemmas.List.Elements.{All-append}
use Rattle.mt_edge.specs.Links.{Told, ReadsOver}
use Rattle.mt_edge.specs.Reads.{IsPiece as GaveBytes}
use Rattle.mt_edge.specs.declared.link_read.LinkRead.{LinkRead}
use Rattle.mt_edge.specs.declared.source.Got.{Got}
use Rattle.mt_edge.specs.declared.source.Got.TheVariants.{Bytes, End, Failed}
use Rattle.server_core.specs.declared.desk.DeskFault.{DeskFault}
use Rattle.server_core.specs.declared.desk.DeskFault.TheVariants as faults
use Rattle.server_node.specs.Doing.{IsPieceEnd, IsTurnEnd}
use Rattle.server_node.specs.Record.{IsLast, IsPiece, IsTurn, ReadTo, Turned}
use Rattle.server_node.specs.Writes.{CountsBy, OnlyWrites}
use Rattle.server_node.specs.declared.conn.ConnEnd.{ConnEnd}
use Rattle.server_node.specs.declared.conn.ConnEnd.TheVariants as ends

-- ---- one read

piece_turn : (MayAnswer : DeskFault → Type 0) (end : Option ConnEnd) (n : ℕ) → IsPieceEnd MayAnswer end → IsTurn end (Bytes n)
piece_turn MayAnswer None n can = tt
piece_turn MayAnswer (Some ends.LinkFault) n can = λ same. absurd cc
piece_turn MayAnswer (Some ends.Memory) n can = tt
piece_turn MayAnswer (Some (ends.Journal fault)) n can = tt
piece_turn MayAnswer (Some (ends.Frame fault)) n can = tt
piece_turn MayAnswer (Some ends.Start) n can = tt
piece_turn MayAnswer (Some ends.Stopped) n can = tt
piece_turn MayAnswer (Some ends.Ended) n can = absurd can
piece_turn MayAnswer (Some ends.TurnsSpent) n can = absurd can

-- a piece, and what it brought
pub turned_piece : (MayAnswer : DeskFault → Type 0) (end : Option ConnEnd) (n : ℕ) (buffer : List ℕ) (first middle last : Option Told) → IsPieceEnd MayAnswer end
    → IfSome middle (λ after. IsSomeAnd first (λ before. ReadsOver (Bytes n) buffer before after))
    → IfSome last (λ after. IsSomeAnd middle (λ before. OnlyWrites before after))
    → IfSome last (λ after. IsSomeAnd first (λ before. Turned end (length buffer) before after))
turned_piece MayAnswer end n buffer first middle None can before after = tt
turned_piece MayAnswer end n buffer first None (Some last) can before after = absurd after
turned_piece MayAnswer end n buffer None (Some middle) (Some last) can before after = absurd before
turned_piece MayAnswer end n buffer (Some first) (Some middle) (Some last) can before after =
    record { read = record { room = length buffer; answer = Bytes n }; reads = after.wrote.reads ∙ before.reads; offered = refl; its = piece_turn MayAnswer end n can }

pub turned_end : (buffer : List ℕ) (first last : Option Told)
    → IfSome last (λ after. IsSomeAnd first (λ before. ReadsOver End buffer before after))
    → IfSome last (λ after. IsSomeAnd first (λ before. Turned (Some ends.Ended) (length buffer) before after))
turned_end buffer first None read = tt
turned_end buffer None (Some last) read = absurd read
turned_end buffer (Some first) (Some last) read = record { read = record { room = length buffer; answer = End }; reads = read.reads; offered = refl; its = refl }

pub turned_failed : (buffer : List ℕ) (first last : Option Told)
    → IfSome last (λ after. IsSomeAnd first (λ before. ReadsOver Failed buffer before after))
    → IfSome last (λ after. IsSomeAnd first (λ before. Turned (Some ends.LinkFault) (length buffer) before after))
turned_failed buffer first None read = tt
turned_failed buffer None (Some last) read = absurd read
turned_failed buffer (Some first) (Some last) read = record { read = record { room = length buffer; answer = Failed }; reads = read.reads; offered = refl; its = λ same. absurd cc }

pub piece_is_turn_end : (MayAnswer : DeskFault → Type 0) (end : Option ConnEnd) → IsPieceEnd MayAnswer end → IsTurnEnd MayAnswer end
piece_is_turn_end MayAnswer None can = tt
piece_is_turn_end MayAnswer (Some ends.LinkFault) can = tt
piece_is_turn_end MayAnswer (Some ends.Memory) can = tt
piece_is_turn_end MayAnswer (Some (ends.Journal fault)) can = can
piece_is_turn_end MayAnswer (Some (ends.Frame fault)) can = tt
piece_is_turn_end MayAnswer (Some ends.Start) can = tt
piece_is_turn_end MayAnswer (Some ends.Stopped) can = tt
piece_is_turn_end MayAnswer (Some ends.Ended) can = absurd can
piece_is_turn_end MayAnswer (Some ends.TurnsSpent) can = absurd can

pub counted_after : (end : Option ConnEnd) (first before after : ℕ) → before ≡ first → CountsBy end before after → CountsBy end first after
counted_after end first before after same counted = subst (λ (count : ℕ). CountsBy end count after) same counted

-- ---- all of them

-- so many pieces were read
pub record PiecesRead (count : ℕ) (before after : Told) : Type 0 where
  pub pieces : List LinkRead
  pub reads : after.reads ≡ before.reads ++ pieces
  pub each : All IsPiece pieces
  pub count_is : length pieces ≡ count

abbrev pub AreRead : ℕ → Option Told → Option Told → Type 0
AreRead count first last = IfSome last (λ after. IsSomeAnd first (λ before. PiecesRead count before after))

none_pieces : All IsPiece []
none_pieces k d less = absurd (omega (arith, less))

one_piece : (read : LinkRead) → IsPiece read → All IsPiece (read ∷ [])
one_piece read one zero d less = one
one_piece read one (suc k) d less = absurd (omega (arith, less))

pub none_read : (told : Option Told) → AreRead 0 told told
none_read None = tt
none_read (Some told) = record { pieces = []; reads = sym (append-nil told.reads); each = none_pieces; count_is = refl }

one_more : (count room : ℕ) (first middle last : Told) → room ≡ 65536 → PiecesRead count first middle → Turned None room middle last → PiecesRead (count + 1) first last
one_more count room first middle last size before turn = record {
  pieces = before.pieces ++ turn.read ∷ [];
  reads = turn.reads ∙ ap (λ reads. reads ++ turn.read ∷ []) before.reads ∙ append_assoc first.reads before.pieces (turn.read ∷ []);
  each = All-append IsPiece before.pieces (turn.read ∷ []) before.each (one_piece turn.read (turn.offered ∙ size, turn.its));
  count_is = length-append before.pieces (turn.read ∷ []) ∙ ap (λ (n : ℕ). n + 1) before.count_is;
}

pub one_more_read : (count room : ℕ) (first middle last : Option Told) → room ≡ 65536
    → AreRead count first middle
    → IfSome last (λ after. IsSomeAnd middle (λ before. Turned None room before after))
    → AreRead (count + 1) first last
one_more_read count room first middle None size before turn = tt
one_more_read count room first None (Some last) size before turn = absurd turn
one_more_read count room None (Some middle) (Some last) size before turn = absurd before
one_more_read count room (Some first) (Some middle) (Some last) size before turn = one_more count room first middle last size before turn

-- the read that ended the connection gave a piece
ended_by_piece : (end : ConnEnd) (count room : ℕ) (first middle last : Told) → room ≡ 65536 → count < 1000000 → PiecesRead count first middle
    → (turn : Turned (Some end) room middle last) → IsPiece turn.read → (end ≢ ends.TurnsSpent) → IsLast end [] → ReadTo end first last
ended_by_piece end count room first middle last size few before turn is other its = record {
  pieces = before.pieces ++ turn.read ∷ [];
  last = [];
  reads = turn.reads ∙ ap (λ reads. reads ++ turn.read ∷ []) before.reads ∙ append_assoc first.reads before.pieces (turn.read ∷ [])
      ∙ ap (λ reads. first.reads ++ reads) (sym (append-nil (before.pieces ++ turn.read ∷ [])));
  each = All-append IsPiece before.pieces (turn.read ∷ []) before.each (one_piece turn.read is);
  its = its;
  few = omega (arith, length-append before.pieces (turn.read ∷ []), before.count_is, few);
  spent = λ same. absurd (other same);
}

ended_by_read : (end : ConnEnd) (count room : ℕ) (first middle last : Told) → count < 1000000 → PiecesRead count first middle
    → (turn : Turned (Some end) room middle last) → (end ≢ ends.TurnsSpent) → IsLast end (turn.read ∷ []) → ReadTo end first last
ended_by_read end count room first middle last few before turn other its = record {
  pieces = before.pieces;
  last = turn.read ∷ [];
  reads = turn.reads ∙ ap (λ reads. reads ++ turn.read ∷ []) before.reads ∙ append_assoc first.reads before.pieces (turn.read ∷ []);
  each = before.each;
  its = its;
  few = omega (arith, before.count_is, few);
  spent = λ same. absurd (other same);
}

read_as : (read : LinkRead) (room : ℕ) (answer : Got) → read.room ≡ room → read.answer ≡ answer → read ∷ [] ≡ record { room = room; answer = answer } ∷ []
read_as read room answer same is = ap (λ (n : ℕ). (record { room = n; answer = read.answer }) ∷ []) same ∙ ap (λ (got : Got). (record { room = room; answer = got }) ∷ []) is

by_fault : (count room : ℕ) (first middle last : Told) (answer : Got) → room ≡ 65536 → count < 1000000 → PiecesRead count first middle
    → (turn : Turned (Some ends.LinkFault) room middle last) → turn.read.answer ≡ answer → (answer ≢ End) → ReadTo ends.LinkFault first last
by_fault count room first middle last (Bytes n) size few before turn is other =
    ended_by_piece ends.LinkFault count room first middle last size few before turn (turn.offered ∙ size, subst GaveBytes (sym is) tt) (λ same. absurd cc) (inl refl)
by_fault count room first middle last Failed size few before turn is other =
    ended_by_read ends.LinkFault count room first middle last few before turn (λ same. absurd cc) (inr (read_as turn.read 65536 Failed (turn.offered ∙ size) is))
by_fault count room first middle last End size few before turn is other = absurd (other refl)

ends_so : (MayAnswer : DeskFault → Type 0) (end : ConnEnd) (count room : ℕ) (first middle last : Told) → room ≡ 65536 → count < 1000000 → IsTurnEnd MayAnswer (Some end)
    → PiecesRead count first middle → Turned (Some end) room middle last → ReadTo end first last
ends_so MayAnswer ends.Ended count room first middle last size few can before turn =
    ended_by_read ends.Ended count room first middle last few before turn (λ same. absurd cc) (read_as turn.read 65536 End (turn.offered ∙ size) turn.its)
ends_so MayAnswer ends.LinkFault count room first middle last size few can before turn = by_fault count room first middle last turn.read.answer size few before turn refl turn.its
ends_so MayAnswer (ends.Frame fault) count room first middle last size few can before turn =
    ended_by_piece (ends.Frame fault) count room first middle last size few before turn (turn.offered ∙ size, turn.its) (λ same. absurd cc) refl
ends_so MayAnswer ends.Start count room first middle last size few can before turn =
    ended_by_piece ends.Start count room first middle last size few before turn (turn.offered ∙ size, turn.its) (λ same. absurd cc) refl
ends_so MayAnswer ends.Stopped count room first middle last size few can before turn =
    ended_by_piece ends.Stopped count room first middle last size few before turn (turn.offered ∙ size, turn.its) (λ same. absurd cc) refl
ends_so MayAnswer (ends.Journal fault) count room first middle last size few can before turn =
    ended_by_piece (ends.Journal fault) count room first middle last size few before turn (turn.offered ∙ size, turn.its) (λ same. absurd cc) refl
ends_so MayAnswer ends.Memory count room first middle last size few can before turn =
    ended_by_piece ends.Memory count room first middle last size few before turn (turn.offered ∙ size, turn.its) (λ same. absurd cc) refl
ends_so MayAnswer ends.TurnsSpent count room first middle last size few can before turn = absurd can

pub read_to_end : (MayAnswer : DeskFault → Type 0) (end : ConnEnd) (count room : ℕ) (first middle last : Option Told) → room ≡ 65536 → count < 1000000 → IsTurnEnd MayAnswer (Some end)
    → AreRead count first middle
    → IfSome last (λ after. IsSomeAnd middle (λ before. Turned (Some end) room before after))
    → IfSome last (λ after. IsSomeAnd first (λ before. ReadTo end before after))
read_to_end MayAnswer end count room first middle None size few can before turn = tt
read_to_end MayAnswer end count room first None (Some last) size few can before turn = absurd turn
read_to_end MayAnswer end count room None (Some middle) (Some last) size few can before turn = absurd before
read_to_end MayAnswer end count room (Some first) (Some middle) (Some last) size few can before turn = ends_so MayAnswer end count room first middle last size few can before turn

-- as many pieces as there may be
pub all_read : (count : ℕ) (first last : Option Told) → count ≡ 1000000 → AreRead count first last
    → IfSome last (λ after. IsSomeAnd first (λ before. ReadTo ends.TurnsSpent before after))
all_read count first None most read = tt
all_read count None (Some last) most read = absurd read
all_read count (Some first) (Some last) most read = record {
  pieces = read.pieces;
  last = [];
  reads = read.reads ∙ ap (λ reads. first.reads ++ reads) (sym (append-nil read.pieces));
  each = read.each;
  its = refl;
  few = omega (arith, read.count_is, most);
  spent = λ same. read.count_is ∙ most;
}

pub journal_in : (MayAnswer : DeskFault → Type 0) (end : ConnEnd) (fault : DeskFault) → IsTurnEnd MayAnswer (Some end) → end ≡ ends.Journal fault → MayAnswer fault × (fault ≢ faults.Memory)
journal_in MayAnswer end fault can same = subst (λ some. IsTurnEnd MayAnswer (Some some)) same can
