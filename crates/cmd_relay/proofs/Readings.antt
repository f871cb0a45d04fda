-- A text has one reading: one list of pieces, or one bad line.
use Rattle.std.proofs.Common.{◌≡◌, ◌∙◌, ℕ, List, [], ◌∷◌, inl, inr, refl, sym, subst, Ok}
use Rattle.std.specs.Prelude.{codes}
use Rattle.hex.specs.Hex.{decode_of}
use Rattle.hex.proofs.HexLemmas.{decode_of-same}
use Rattle.sched_text.specs.Lines.{Line, words_of, Say, IsFirstBad}
use Rattle.cmd_relay.specs.Captures.{IsHex, SaysBytes, SaysPiece, way_word}
use Rattle.cmd_relay.specs.declared.capture.Piece.{Piece}
use Rattle.cmd_relay.specs.declared.capture.Way.{Way}
use Rattle.cmd_relay.specs.declared.capture.Way.TheVariants.{Up, Down}

-- a dash alone is no pairs of digits
no_pairs : (bytes word : List ℕ) → word ≡ codes "-" → decode_of word ≡ Ok bytes → ⊥
no_pairs bytes word is reads =
    let odd : decode_of (codes "-") ≡ Ok bytes = subst (λ (w : List ℕ). decode_of w ≡ Ok bytes) is reads in
    cc

one_hex : (bytes other word : List ℕ) → IsHex bytes word → IsHex other word → bytes ≡ other
one_hex bytes other word (inl f) (inl g) = f.0 ∙ sym g.0
one_hex bytes other word (inl f) (inr g) = absurd (no_pairs other word f.1 g.1)
one_hex bytes other word (inr f) (inl g) = absurd (no_pairs bytes word g.1 f.1)
one_hex bytes other word (inr f) (inr g) = decode_of-same word bytes other f.1 g.1

one_way : (way other : Way) (first : List ℕ) → first ≡ way_word way → first ≡ way_word other → way ≡ other
one_way Up Up first e f = refl
one_way Down Down first e f = refl
one_way Up Down first e f = let no : codes "up" ≡ codes "down" = sym e ∙ f in cc
one_way Down Up first e f = let no : codes "down" ≡ codes "up" = sym e ∙ f in cc

same_words : (a b c d : List ℕ) → a ∷ b ∷ [] ≡ c ∷ d ∷ [] → (a ≡ c) × (b ≡ d)
same_words a b c d e =
    let one : a ≡ c = cc in
    let two : b ≡ d = cc in
    (one, two)

-- words whose second is no digits say no piece
pub no_bytes : (first word : List ℕ) (way : Way) (bytes : List ℕ) (words : List (List ℕ)) → words ≡ first ∷ word ∷ []
    → ((one : List ℕ) → IsHex one word → ⊥) → SaysBytes way bytes words → ⊥
no_bytes first word way bytes words two none says =
    let same = same_words (way_word way) says.word first word (sym says.two ∙ two) in
    none bytes (subst (λ (w : List ℕ). IsHex bytes w) same.1 says.hex)

pub one_says : (way another : Way) (bytes other : List ℕ) (words : List (List ℕ)) → SaysBytes way bytes words → SaysBytes another other words
    → (way ≡ another) × (bytes ≡ other)
one_says way another bytes other words f g =
    let same = same_words (way_word way) f.word (way_word another) g.word (sym f.two ∙ g.two) in (
      one_way way another (way_word way) refl same.0,
      one_hex bytes other g.word (subst (λ (w : List ℕ). IsHex bytes w) same.1 f.hex) g.hex,
    )

same_piece : (p q : Piece) → p.way ≡ q.way → p.bytes ≡ q.bytes → p.line ≡ q.line → p ≡ q
same_piece p q w b l i = record { way = w i; bytes = b i; line = l i }

pub one_list : (lines : List Line) (pieces others : List Piece) → Say SaysPiece lines pieces → Say SaysPiece lines others → pieces ≡ others
one_list [] [] [] h g = refl
one_list [] [] (q ∷ others) h g = absurd g
one_list [] (p ∷ pieces) others h g = absurd h
one_list (line ∷ lines) [] others h g = absurd h
one_list (line ∷ lines) (p ∷ pieces) [] h g = absurd g
one_list (line ∷ lines) (p ∷ pieces) (q ∷ others) h g =
    let same = one_says p.way q.way p.bytes q.bytes (words_of line.text) h.0.1 g.0.1 in
    let head : p ≡ q = same_piece p q same.0 same.1 (h.0.0 ∙ sym g.0.0) in
    let tail : pieces ≡ others = one_list lines pieces others h.1 g.1 in
    cc

pub not_both : (lines : List Line) (pieces : List Piece) (bad : ℕ) → Say SaysPiece lines pieces → IsFirstBad SaysPiece lines bad → ⊥
not_both [] pieces bad h g = g
not_both (line ∷ lines) [] bad h g = absurd h
not_both (line ∷ lines) (p ∷ pieces) bad h g = elim g [ inl first ↦ first.0 p h.0 | inr later ↦ not_both lines pieces bad h.1 later.1 ]

pub one_bad : (lines : List Line) (a b : ℕ) → IsFirstBad SaysPiece lines a → IsFirstBad SaysPiece lines b → a ≡ b
one_bad [] a b h g = absurd h
one_bad (line ∷ lines) a b h g =
    elim h [
      | inl first ↦ elim g [ inl second ↦ first.1 ∙ sym second.1 | inr later ↦ absurd (first.0 later.0.0 later.0.1) ]
      | inr later ↦ elim g [ inl second ↦ absurd (second.0 later.0.0 later.0.1) | inr last ↦ one_bad lines a b later.1 last.1 ]
    ]
