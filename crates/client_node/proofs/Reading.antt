-- What a read of a piece tells.
use Rattle.std.proofs.Common.{◌≡◌, ◌<◌, ◌≤◌, ◌⊎◌, ℕ, List, [], ◌∷◌, ◌++◌, length, take, Option, IfSome, IsSomeAnd, Result, inl, inr, refl, sym, ap, subst, ◌∙◌, length-take, arith}
use Rattle.auth_keys.specs.declared.ring.RingKey.{RingKey}
use Rattle.envelope.specs.Packet.{Lock}
use Rattle.transport.specs.Wires.{Line}
use Rattle.mt_edge.specs.Clocks.{Gave}
use Rattle.mt_edge.specs.Faults.{one_more}
use Rattle.mt_edge.specs.Got.{Counts}
use Rattle.mt_edge.specs.Links.{ReadsOver, Told}
use Rattle.mt_edge.specs.declared.source.Got.{Got}
use Rattle.mt_edge.specs.declared.source.Got.TheVariants as got
use Rattle.client_core.specs.declared.holder.Holder.{Holder}
use Rattle.client_node.specs.Runs.{GotPiece, MissedPiece, ReadBy}
use Rattle.client_node.specs.Talks.{IsNoPiece, piece_bytes}
use Rattle.client_node.specs.Took.{TookPiece}
use Rattle.client_node.specs.Writes.{Seen}
use Rattle.client_node.specs.declared.end.End.{End}
use Rattle.client_node.proofs.Flowing.{map_told}

front_length : (count : ℕ) (buffer : List ℕ) → count ≤ length buffer → length (take count buffer) ≡ count
front_length count buffer fits = omega (arith, length-take count buffer, fits)

got_read : (count : ℕ) (buffer : List ℕ) → length buffer ≡ piece_bytes → count ≤ length buffer → (before after : Told)
    → ReadsOver (got.Bytes count) buffer before after → ReadBy (got.Bytes (length (take count buffer))) (take count buffer) before after
got_read count buffer room fits before after over =
    record {
      came = over.came;
      reads = over.reads
          ∙ ap (λ (size : ℕ). before.reads ++ record { room = size; answer = got.Bytes count } ∷ []) room
          ∙ ap (λ (size : ℕ). before.reads ++ record { room = piece_bytes; answer = got.Bytes size } ∷ []) (sym (front_length count buffer fits));
      written = over.written;
    }

pub got_piece : {S : Type 0} (step : S → ℕ × S) (lock : Lock) (keys : List RingKey) (kept : Holder) (draw : S) (line : Line) (link : Seen) (given : Option (List ℕ)) (buffer : List ℕ) (count moment : ℕ) (result : Result Unit End) (left : Holder) (drawn : S) (line_then : Line) (link_then : Seen) (given_then : Option (List ℕ))
    → length buffer ≡ piece_bytes → (0 < count) × (count ≤ length buffer)
    → IfSome link_then.told (λ after. IsSomeAnd link.told (λ before. ReadsOver (got.Bytes count) buffer before after))
    → link_then.faults ≡ link.faults
    → Gave (moment ∷ []) given given_then
    → TookPiece step lock keys moment kept draw line (take count buffer) result left drawn line_then
    → GotPiece step lock keys kept draw line link given (take count buffer) moment result left drawn line_then link_then given_then
got_piece step lock keys kept draw line link given buffer count moment result left drawn line_then link_then given_then room within over faults gave took =
    let size = front_length count buffer within.1 in
    record {
      some = omega (arith, size, within.0);
      most = omega (arith, size, within.1, room);
      told = map_told (ReadsOver (got.Bytes count) buffer) (ReadBy (got.Bytes (length (take count buffer))) (take count buffer)) (got_read count buffer room within.1) link.told link_then.told over;
      faults = faults;
      gave = gave;
      took = took;
    }

-- ---- no piece

pub no_piece : (answer : Got) → (answer ≡ got.End) ⊎ (answer ≡ got.Failed) → IsNoPiece answer
no_piece answer (inl same) = subst IsNoPiece (sym same) tt
no_piece answer (inr same) = subst IsNoPiece (sym same) tt

abbrev IsEnd : Got → Type 0
IsEnd (got.Bytes count) = ⊥
IsEnd got.End = Unit {0}
IsEnd got.Failed = ⊥

missed_read : (answer : Got) (buffer : List ℕ) → IsNoPiece answer → length buffer ≡ piece_bytes → (before after : Told) → ReadsOver answer buffer before after → ReadBy answer [] before after
missed_read (got.Bytes count) buffer none room before after over = absurd none
missed_read got.End buffer none room before after over =
    record { came = over.came; reads = over.reads ∙ ap (λ (size : ℕ). before.reads ++ record { room = size; answer = got.End } ∷ []) room; written = over.written }
missed_read got.Failed buffer none room before after over =
    record { came = over.came; reads = over.reads ∙ ap (λ (size : ℕ). before.reads ++ record { room = size; answer = got.Failed } ∷ []) room; written = over.written }

ended_counts : (answer : Got) (before after : ℕ) → IsNoPiece answer → Counts answer before after → answer ≡ got.End → after ≡ before
ended_counts (got.Bytes count) before after none counted same = absurd none
ended_counts got.End before after none counted same = counted
ended_counts got.Failed before after none counted same = absurd (subst IsEnd (sym same) tt)

failed_counts : (answer : Got) (before after : ℕ) → IsNoPiece answer → Counts answer before after → answer ≡ got.Failed → after ≡ one_more before
failed_counts (got.Bytes count) before after none counted same = absurd none
failed_counts got.End before after none counted same = absurd (subst IsEnd same tt)
failed_counts got.Failed before after none counted same = counted

pub either_counts : (answer : Got) (before after : ℕ) → IsNoPiece answer → Counts answer before after → (after ≡ before) ⊎ (after ≡ one_more before)
either_counts (got.Bytes count) before after none counted = absurd none
either_counts got.End before after none counted = inl counted
either_counts got.Failed before after none counted = inr counted

pub missed_piece : {S : Type 0} (kept : Holder) (draw : S) (link : Seen) (given : Option (List ℕ)) (answer : Got) (buffer : List ℕ) (link_then : Seen)
    → length buffer ≡ piece_bytes → IsNoPiece answer
    → IfSome link_then.told (λ after. IsSomeAnd link.told (λ before. ReadsOver answer buffer before after))
    → Counts answer link.faults link_then.faults
    → MissedPiece kept draw link given answer kept draw link_then given
missed_piece kept draw link given answer buffer link_then room none over counted =
    record {
      none = none;
      told = map_told (ReadsOver answer buffer) (ReadBy answer []) (missed_read answer buffer none room) link.told link_then.told over;
      ended = ended_counts answer link.faults link_then.faults none counted;
      failed = failed_counts answer link.faults link_then.faults none counted;
      same_kept = refl;
      same_draw = refl;
      same_given = refl;
    }
