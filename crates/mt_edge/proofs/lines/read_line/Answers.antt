use Rattle.std.proofs.Common.{◌≡◌, ◌≢◌, ℕ, List, [], ◌∷◌, ◌++◌, length, Option, None, Some, IfSome, IsSomeAnd, arith, ap, subst, length-append}
use Rattle.std.proofs.lemmas.Grind.{common_steps}
use Rattle.std.proofs.lemmas.List.Elements.{All-push}
use Rattle.std.specs.List.{All}
use Rattle.mt_edge.specs.declared.lines.NextLine.TheVariants.{Memory}
use Rattle.mt_edge.specs.Lines.{Loses, ReadsLine}
use Rattle.mt_edge.proofs.lines.read_line.Goals as goal

-- what was read so far and the byte read now are lost, and so there was one
here : (left rest text : List ℕ) (byte : ℕ) (new : Option (List ℕ)) → All (λ b. b ≢ 10) text → byte ≢ 10 → left ≡ text ++ rest
    → IsSomeAnd new (λ after. rest ≡ byte ∷ after) → IsSomeAnd new (λ after. Loses left after × (left ≢ []))
here left rest text byte None one other e h = absurd h
here left rest text byte (Some after) one other e h = (
  record {
    lost = text ++ byte ∷ [];
    one = All-push (λ b. b ≢ 10) text byte one other;
    front = grind (arith, common_steps, e, h);
  },
  λ nothing. omega (arith, ap length nothing, ap length e, length-append text rest, ap length h),
)

lost_here : (max : ℕ) (first old new : Option (List ℕ)) (text : List ℕ) (byte : ℕ) → All (λ b. b ≢ 10) text → byte ≢ 10
    → IfSome first (λ left. (rest : List ℕ) × (left ≡ text ++ rest) × (old ≡ Some rest)) → IfSome old (λ before. IsSomeAnd new (λ after. before ≡ byte ∷ after))
    → ReadsLine max Memory first new
lost_here max None old new text byte one other read told = tt
lost_here max (Some left) old new text byte one other (rest, e, f) told =
    here left rest text byte new one other e (subst (λ o. IfSome o (λ before. IsSomeAnd new (λ after. before ≡ byte ∷ after))) f told)

-- memory runs out behind a byte
pub returns-in-Err : goal.returns-in-Err
returns-in-Err g c =
    lost_here c.args.max_bytes (g.R.Read.remaining c.args.reader.now) (g.R.Read.remaining c.bytes.reader) (g.R.Read.remaining c.next_byte.new.reader) c.bytes.text c.in-Byte.byte
    c.bytes.invariant.one (grind (arith, common_steps)) c.bytes.invariant.read c.in-Byte.ensures.told
