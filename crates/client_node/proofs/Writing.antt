-- A piece that is written bit by bit.
use Rattle.std.proofs.Common.{◌≡◌, ℕ, List, ◌++◌, Option, Some, None, IfErr, IfSome, IsSomeAnd, Result, Ok, Err, take, drop, length, ◌-◌, sym, ap, subst, ◌∙◌, append_assoc}
use Rattle.std.proofs.lemmas.List.{length-drop, take-append-drop}
use Rattle.std.proofs.Math.Seq.{take-length}
use Rattle.mt_edge.specs.Links.{Told, WritesOver}
use Rattle.mt_edge.specs.declared.sink.Put.TheVariants.{Took}
use Rattle.client_node.specs.Writes.{StaysBy, Wrote}
use Rattle.client_node.specs.declared.end.End.{End}
use Rattle.client_node.specs.declared.end.End.TheVariants as ends

take_rest : (count : ℕ) (rest : List ℕ) → take (length rest - count) (drop count rest) ≡ drop count rest
take_rest count rest = subst (λ (size : ℕ). take size (drop count rest) ≡ drop count rest) (length-drop count rest) (take-length (drop count rest))

-- the front that is written grows, and the rest shrinks
pub front_more : (piece front rest : List ℕ) (count : ℕ) → piece ≡ front ++ rest → piece ≡ (front ++ take count rest) ++ take (length rest - count) (drop count rest)
front_more piece front rest count whole =
    let parts : (front ++ take count rest) ++ drop count rest ≡ front ++ rest =
    append_assoc front (take count rest) (drop count rest) ∙ ap (λ bytes. front ++ bytes) (take-append-drop count rest) in
    whole ∙ sym (ap (λ bytes. (front ++ take count rest) ++ bytes) (take_rest count rest) ∙ parts)

wrote_more : (front rest : List ℕ) (count : ℕ) (first middle last : Told) → Wrote front first middle → WritesOver (Took count) rest middle last → Wrote (front ++ take count rest) first last
wrote_more front rest count first middle last before after =
    record {
      written = after.written ∙ ap (λ bytes. bytes ++ take count rest) before.written ∙ append_assoc first.written front (take count rest);
      came = after.came ∙ before.came;
      left = after.left ∙ before.left;
      reads = after.reads ∙ before.reads;
    }

-- by what the link told, where it tells
pub told_more : (front rest : List ℕ) (count : ℕ) (first middle last : Option Told)
    → IfSome middle (λ after. IsSomeAnd first (λ before. Wrote front before after))
    → IfSome last (λ after. IsSomeAnd middle (λ before. WritesOver (Took count) rest before after))
    → IfSome last (λ after. IsSomeAnd first (λ before. Wrote (front ++ take count rest) before after))
told_more front rest count first middle None before after = tt
told_more front rest count first None (Some last) before after = absurd after
told_more front rest count None (Some middle) (Some last) before after = absurd before
told_more front rest count (Some first) (Some middle) (Some last) before after = wrote_more front rest count first middle last before after

abbrev IsNoMemory : End → Type 0
IsNoMemory ends.Lost = Unit {0}
IsNoMemory ends.Decided = Unit {0}
IsNoMemory ends.TurnsSpent = Unit {0}
IsNoMemory ends.Spent = Unit {0}
IsNoMemory ends.Memory = ⊥

-- no memory was wanted
pub stays_unless_memory : {X : Type 0} (result : Result X End) (same : Type 0) → IfErr result (λ end. end ≡ ends.Lost) → StaysBy result same
stays_unless_memory (Ok done) same lost = tt
stays_unless_memory (Err ends.Lost) same lost = tt
stays_unless_memory (Err ends.Decided) same lost = tt
stays_unless_memory (Err ends.TurnsSpent) same lost = tt
stays_unless_memory (Err ends.Spent) same lost = tt
stays_unless_memory (Err ends.Memory) same lost = absurd (subst IsNoMemory (sym lost) tt)
