-- Lemmas on the reads of a whole text.
use Rattle.std.proofs.Common.{◌≡◌, ◌≤◌, ◌+◌, ◌-◌, ℕ, List, [], ◌∷◌, ◌++◌, length, length-append, take, arith, Option, None, Some, IfSome, IsSomeAnd, Result, refl, sym, ap, subst, ◌∙◌, append_assoc, append-nil}
use Rattle.std.proofs.lemmas.List.{length-take-le}
use Rattle.std.proofs.lemmas.List.Elements.{All-append, All-nil, All-cons}
use Rattle.std.specs.List.{All}
use Rattle.mt_edge.specs.declared.source.Got.{Got}
use Rattle.mt_edge.specs.Reads.{IsLast, IsPiece, ReadBy}
use Rattle.mt_edge.specs.declared.whole.ReadFault.{ReadFault}

-- where a source tells its reads, those since gave bytes
abbrev pub GavePieces : Option (List Got) → Option (List Got) → Type 0
GavePieces first last = IfSome last (λ after. IsSomeAnd first (λ before. (pieces : List Got) × (after ≡ before ++ pieces) × All IsPiece pieces))

pub no_pieces : (reads : Option (List Got)) → GavePieces reads reads
no_pieces None = tt
no_pieces (Some reads) = ([], sym (append-nil reads), All-nil IsPiece)

-- one more read gave bytes
pub more_pieces : (first between last : Option (List Got)) (got : Got) → IsPiece got → GavePieces first between
    → IfSome last (λ after. IsSomeAnd between (λ before. after ≡ before ++ got ∷ []))
    → GavePieces first last
more_pieces first between None got is pieces noted = tt
more_pieces first None (Some last) got is pieces noted = absurd noted
more_pieces None (Some between) (Some last) got is pieces noted = absurd pieces
more_pieces (Some first) (Some between) (Some last) got is pieces noted = (
  pieces.0 ++ got ∷ [],
  noted ∙ ap (λ (reads : List Got). reads ++ got ∷ []) pieces.1 ∙ append_assoc first pieces.0 (got ∷ []),
  All-append IsPiece pieces.0 (got ∷ []) pieces.2 (All-cons IsPiece got [] is (All-nil IsPiece)),
)

-- the last read is this one
pub last_read : {T : Type 0} (result : Result T ReadFault) (first between last : Option (List Got)) (got : Got) → IsLast result got → GavePieces first between
    → IfSome last (λ after. IsSomeAnd between (λ before. after ≡ before ++ got ∷ []))
    → IfSome last (λ after. IsSomeAnd first (λ before. ReadBy result before after))
last_read result first between None got is pieces noted = tt
last_read result first None (Some last) got is pieces noted = absurd noted
last_read result None (Some between) (Some last) got is pieces noted = absurd pieces
last_read result (Some first) (Some between) (Some last) got is pieces noted = record {
  pieces = pieces.0;
  last = got;
  noted = noted ∙ ap (λ (reads : List Got). reads ++ got ∷ []) pieces.1;
  all_pieces = pieces.2;
  is_last = is;
}

-- ---- a text that grows by what a read handed over

left_here : (left rest text taken now : List ℕ) (last : Option (List ℕ)) → now ≡ text ++ taken → left ≡ text ++ rest → IsSomeAnd last (λ after. rest ≡ taken ++ after)
    → (behind : List ℕ) × (left ≡ now ++ behind) × (last ≡ Some behind)
left_here left rest text taken now None grown front told = absurd told
left_here left rest text taken now (Some after) grown front told = (
  after,
  front ∙ ap (λ (bytes : List ℕ). text ++ bytes) told ∙ sym (append_assoc text taken after) ∙ ap (λ (bytes : List ℕ). bytes ++ after) (sym grown),
  refl,
)

-- it is the front of what was left
pub more_left : (first between last : Option (List ℕ)) (text taken now : List ℕ) → now ≡ text ++ taken
    → IfSome first (λ left. (rest : List ℕ) × (left ≡ text ++ rest) × (between ≡ Some rest))
    → IfSome between (λ before. IsSomeAnd last (λ after. before ≡ taken ++ after))
    → IfSome first (λ left. (rest : List ℕ) × (left ≡ now ++ rest) × (last ≡ Some rest))
more_left None between last text taken now grown so_far told = tt
more_left (Some left) between last text taken now grown (rest, front, is) told =
    left_here left rest text taken now last grown front (subst (λ (one : Option (List ℕ)). IfSome one (λ before. IsSomeAnd last (λ after. before ≡ taken ++ after))) is told)

-- the room shrinks by as much
pub more_room : (text buffer now : List ℕ) (count room max : ℕ) → now ≡ text ++ take count buffer → count ≤ length buffer → count ≤ room → length text + room ≡ max
    → length now + (room - count) ≡ max
more_room text buffer now count room max grown within fits so_far =
    let sum : length now ≡ length text + count = ap length grown ∙ length-append text (take count buffer) ∙ ap (λ (n : ℕ). length text + n) (length-take-le count buffer within) in
    omega (arith, sum, fits, so_far)
