-- A piece that is written bit by bit.
use Rattle.std.proofs.Common.{◌≡◌, ℕ, List, [], ◌++◌, Option, Some, None, IfSome, IsSomeAnd, take, drop, length, ◌-◌, refl, sym, ap, subst, ◌∙◌, append_assoc, append-nil}
use Rattle.std.proofs.lemmas.List.{length-drop, take-append-drop}
use Rattle.std.proofs.Math.Seq.{take-length}
use Rattle.mt_edge.specs.Links.{Told, WritesOver}
use Rattle.mt_edge.specs.declared.sink.Put.TheVariants.{Took}
use Rattle.server_node.specs.Writes.{OnlyWrites, Wrote}

take_rest : (count : ℕ) (rest : List ℕ) → take (length rest - count) (drop count rest) ≡ drop count rest
take_rest count rest = subst (λ (size : ℕ). take size (drop count rest) ≡ drop count rest) (length-drop count rest) (take-length (drop count rest))

-- the front that is written grows, and the rest shrinks
pub front_more : (piece front rest : List ℕ) (count : ℕ) → piece ≡ front ++ rest → piece ≡ (front ++ take count rest) ++ take (length rest - count) (drop count rest)
front_more piece front rest count whole =
    let parts : (front ++ take count rest) ++ drop count rest ≡ front ++ rest =
    append_assoc front (take count rest) (drop count rest) ∙ ap (λ bytes. front ++ bytes) (take-append-drop count rest) in
    whole ∙ sym (ap (λ bytes. (front ++ take count rest) ++ bytes) (take_rest count rest) ∙ parts)

wrote_more : (front rest : List ℕ) (count : ℕ) (first middle last : Told) → Wrote front first middle → WritesOver (Took count) rest middle last → Wrote (front ++ take count rest) first last
wrote_more front rest count first middle last before after =
    record {
      written = after.written ∙ ap (λ bytes. bytes ++ take count rest) before.written ∙ append_assoc first.written front (take count rest);
      came = after.came ∙ before.came;
      left = after.left ∙ before.left;
      reads = after.reads ∙ before.reads;
    }

-- by what the link told, where it tells
pub told_more : (front rest : List ℕ) (count : ℕ) (first middle last : Option Told)
    → IfSome middle (λ after. IsSomeAnd first (λ before. Wrote front before after))
    → IfSome last (λ after. IsSomeAnd middle (λ before. WritesOver (Took count) rest before after))
    → IfSome last (λ after. IsSomeAnd first (λ before. Wrote (front ++ take count rest) before after))
told_more front rest count first middle None before after = tt
told_more front rest count first None (Some last) before after = absurd after
told_more front rest count None (Some middle) (Some last) before after = absurd before
told_more front rest count (Some first) (Some middle) (Some last) before after = wrote_more front rest count first middle last before after

-- nothing was written
pub wrote_nothing : (told : Option Told) → IfSome told (λ after. IsSomeAnd told (λ before. Wrote [] before after))
wrote_nothing None = tt
wrote_nothing (Some told) = record { written = sym (append-nil told.written); came = refl; left = refl; reads = refl }

-- so nothing was read
pub only_wrote : (bytes : List ℕ) (first last : Option Told)
    → IfSome last (λ after. IsSomeAnd first (λ before. Wrote bytes before after))
    → IfSome last (λ after. IsSomeAnd first (λ before. OnlyWrites before after))
only_wrote bytes first None wrote = tt
only_wrote bytes None (Some last) wrote = absurd wrote
only_wrote bytes (Some first) (Some last) wrote = record { bytes = bytes; wrote = wrote }
