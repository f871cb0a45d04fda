-- What goes out for pieces, one after the other.
use Rattle.std.proofs.Common.{◌≡◌, ◌≢◌, ◌∙◌, ℕ, ◌<◌, List, [], ◌∷◌, ◌++◌, length, inl, inr, refl, sym, ap, subst, arith, append_assoc, append-nil, length-append}
use Rattle.transport.specs.declared.form.Form.{Form}
use Rattle.transport.specs.declared.form.Form.TheVariants.{Full}
use Rattle.secret_relay.specs.Stories.{Story, GoesOn, Relayed, UpEnds, DownEnds, nothing, other_text, with_up, with_down}
use Rattle.secret_relay.specs.declared.fault.RelayFault.{RelayFault}
use Rattle.secret_relay.specs.declared.fault.RelayFault.TheVariants as faults
use Rattle.cmd_relay.specs.Captures.{line_of}
use Rattle.cmd_relay.specs.Relays.{AreTaken, IsTaken, IsRefusedFor, after, text_of, then}
use Rattle.cmd_relay.specs.declared.capture.Piece.{Piece}
use Rattle.cmd_relay.specs.declared.capture.Way.{Way}
use Rattle.cmd_relay.specs.declared.capture.Way.TheVariants.{Up, Down}

-- ---- the whole

-- nothing has come yet
pub none_came : {form : Form} {secret : List ℕ} → Relayed form secret nothing
none_came = inl (record { few = omega arith; server = refl; upwards = refl; downwards = refl })

one_relayed : (form : Form) (secret : List ℕ) (way : Way) (bytes out : List ℕ) (story : Story) → IsTaken form secret way bytes out story
    → Relayed form secret (then way bytes out story)
one_relayed form secret Up bytes out story taken = taken
one_relayed form secret Down bytes out story taken = inr taken

-- what holds of each piece in turn holds of all of them
pub all_relayed : (form : Form) (secret : List ℕ) (pieces : List Piece) (outs : List (List ℕ)) (story : Story) → Relayed form secret story
    → AreTaken form secret pieces outs story → Relayed form secret (after pieces outs story)
all_relayed form secret [] outs story so_far all = so_far
all_relayed form secret (p ∷ pieces) [] story so_far all = so_far
all_relayed form secret (p ∷ pieces) (o ∷ outs) story so_far all =
    all_relayed form secret pieces outs (then p.way p.bytes o story) (one_relayed form secret p.way p.bytes o story all.0) all.1

-- ---- one more

pub taken-snoc : (form : Form) (secret : List ℕ) (pieces : List Piece) (outs : List (List ℕ)) (piece : Piece) (out : List ℕ) (story : Story)
    → AreTaken form secret pieces outs story → IsTaken form secret piece.way piece.bytes out (after pieces outs story)
    → AreTaken form secret (pieces ++ piece ∷ []) (outs ++ out ∷ []) story
taken-snoc form secret [] [] piece out story all one = (one, tt)
taken-snoc form secret [] (o ∷ outs) piece out story all one = absurd all
taken-snoc form secret (p ∷ pieces) [] piece out story all one = absurd all
taken-snoc form secret (p ∷ pieces) (o ∷ outs) piece out story all one =
    (all.0, taken-snoc form secret pieces outs piece out (then p.way p.bytes o story) all.1 one)

pub after-snoc : (form : Form) (secret : List ℕ) (pieces : List Piece) (outs : List (List ℕ)) (piece : Piece) (out : List ℕ) (story : Story)
    → AreTaken form secret pieces outs story
    → after (pieces ++ piece ∷ []) (outs ++ out ∷ []) story ≡ then piece.way piece.bytes out (after pieces outs story)
after-snoc form secret [] [] piece out story all = refl
after-snoc form secret [] (o ∷ outs) piece out story all = absurd all
after-snoc form secret (p ∷ pieces) [] piece out story all = absurd all
after-snoc form secret (p ∷ pieces) (o ∷ outs) piece out story all =
    after-snoc form secret pieces outs piece out (then p.way p.bytes o story) all.1

pub text-snoc : (form : Form) (secret : List ℕ) (pieces : List Piece) (outs : List (List ℕ)) (piece : Piece) (out : List ℕ) (story : Story)
    → AreTaken form secret pieces outs story
    → text_of (pieces ++ piece ∷ []) (outs ++ out ∷ []) ≡ text_of pieces outs ++ line_of piece.way out
text-snoc form secret [] [] piece out story all = append-nil (line_of piece.way out)
text-snoc form secret [] (o ∷ outs) piece out story all = absurd all
text-snoc form secret (p ∷ pieces) [] piece out story all = absurd all
text-snoc form secret (p ∷ pieces) (o ∷ outs) piece out story all =
    ap (λ (l : List ℕ). line_of p.way o ++ l) (text-snoc form secret pieces outs piece out (then p.way p.bytes o story) all.1)
    ∙ sym (append_assoc (line_of p.way o) (text_of pieces outs) (line_of piece.way out))

-- ---- one reading of pieces

-- what the crate below promises
pub record Outcomes : Type 0 where
  pub text : (form : Form) (secret upwards downwards : List ℕ) (story : Story) → form ≢ Full → Relayed form secret story
      → Relayed form secret (other_text upwards downwards story) → (story.upwards ≡ upwards) × (story.downwards ≡ downwards)
  pub up_apart : (form : Form) (secret upwards downwards : List ℕ) (story : Story) (fault : RelayFault) → form ≢ Full
      → Relayed form secret story → UpEnds form secret fault (other_text upwards downwards story) → ⊥
  pub down_apart : (form : Form) (secret upwards downwards : List ℕ) (story : Story) (fault : RelayFault) → form ≢ Full
      → GoesOn form secret story → DownEnds form secret fault (other_text upwards downwards story) → ⊥
  pub up_end : (form : Form) (secret upwards downwards : List ℕ) (story : Story) (fault other : RelayFault) → form ≢ Full
      → UpEnds form secret fault story → UpEnds form secret other (other_text upwards downwards story) → fault ≡ other
  pub down_end : (form : Form) (secret upwards downwards : List ℕ) (story : Story) (fault other : RelayFault) → form ≢ Full
      → DownEnds form secret fault story → DownEnds form secret other (other_text upwards downwards story) → fault ≡ other

-- two refusals are of one piece, for one fault
pub record OneRefusal (piece another : Piece) (fault other : RelayFault) : Type 0 where
  pub same_piece : piece ≡ another
  pub same_fault : fault ≡ other

not_early : (form : Form) (secret : List ℕ) (fault : RelayFault) (story : Story) → DownEnds form secret fault story → length story.client < 64 → ⊥
not_early form secret faults.Early story h few = h
not_early form secret (faults.Start found) story h few = h
not_early form secret (faults.Frame fault) story h few =
    omega (arith, h.opens.size, few, ap length h.opens.whole, length-append h.opens.wire h.opens.rest)
not_early form secret (faults.Length len) story h few =
    omega (arith, h.opens.size, few, ap length h.opens.whole, length-append h.opens.wire h.opens.rest)
not_early form secret faults.Memory story h few = h

same_back : (x r s : List ℕ) → x ++ r ≡ x ++ s → r ≡ s
same_back [] r s e = e
same_back (a ∷ x) r s e = same_back x r s (cc)

module _ (laws : Outcomes) (form : Form) (plain : form ≢ Full) (secret : List ℕ) where
  one_out : (way : Way) (bytes out other : List ℕ) (story : Story) → IsTaken form secret way bytes out story → IsTaken form secret way bytes other story
      → out ≡ other
  one_out Up bytes out other story f g =
      same_back story.upwards out other
      (laws.text form secret (story.upwards ++ other) story.downwards (with_up bytes out story) plain f g).0
  one_out Down bytes out other story f g =
      same_back story.downwards out other
      (laws.text form secret story.upwards (story.downwards ++ other) (with_down bytes out story) plain (inr f) (inr g)).1

  not_refused : (way : Way) (bytes out : List ℕ) (fault : RelayFault) (story : Story) → IsTaken form secret way bytes out story
      → IsRefusedFor form secret way bytes fault story → ⊥
  not_refused Up bytes out fault story f g =
      laws.up_apart form secret (story.upwards ++ g.0) story.downwards (with_up bytes out story) fault plain f g.1
  not_refused Down bytes out fault story f (inl g) =
      omega (arith, f.opens.size, g.1, ap length f.opens.whole, length-append f.opens.wire f.opens.rest)
  not_refused Down bytes out fault story f (inr g) =
      laws.down_apart form secret story.upwards (story.downwards ++ g.0) (with_down bytes out story) fault plain f g.1

  pub taken_or_refused : (front : List Piece) (piece : Piece) (back : List Piece) (outs others : List (List ℕ)) (fault : RelayFault) (story : Story)
      → AreTaken form secret (front ++ piece ∷ back) outs story → AreTaken form secret front others story
      → IsRefusedFor form secret piece.way piece.bytes fault (after front others story) → ⊥
  taken_or_refused [] piece back [] others fault story t f r = t
  taken_or_refused [] piece back (out ∷ outs) [] fault story t f r = not_refused piece.way piece.bytes out fault story t.0 r
  taken_or_refused [] piece back (out ∷ outs) (other ∷ others) fault story t f r = f
  taken_or_refused (p ∷ front) piece back [] others fault story t f r = t
  taken_or_refused (p ∷ front) piece back (out ∷ outs) [] fault story t f r = f
  taken_or_refused (p ∷ front) piece back (out ∷ outs) (other ∷ others) fault story t f r =
      let same : out ≡ other = one_out p.way p.bytes out other story t.0 f.0 in
      taken_or_refused front piece back outs others fault (then p.way p.bytes other story)
      (subst (λ (o : List ℕ). AreTaken form secret (front ++ piece ∷ back) outs (then p.way p.bytes o story)) same t.1) f.1 r

  one_fault : (way : Way) (bytes : List ℕ) (fault other : RelayFault) (story : Story) → IsRefusedFor form secret way bytes fault story
      → IsRefusedFor form secret way bytes other story → fault ≡ other
  one_fault Up bytes fault other story f g =
      laws.up_end form secret (story.upwards ++ g.0) story.downwards (with_up bytes f.0 story) fault other plain f.1 g.1
  one_fault Down bytes fault other story (inl f) (inl g) = f.0 ∙ sym g.0
  one_fault Down bytes fault other story (inl f) (inr g) = absurd (not_early form secret other (with_down bytes g.0 story) g.1 f.1)
  one_fault Down bytes fault other story (inr f) (inl g) = absurd (not_early form secret fault (with_down bytes f.0 story) f.1 g.1)
  one_fault Down bytes fault other story (inr f) (inr g) =
      laws.down_end form secret story.upwards (story.downwards ++ g.0) (with_down bytes f.0 story) fault other plain f.1 g.1

  pub one_outs : (pieces : List Piece) (outs others : List (List ℕ)) (story : Story) → AreTaken form secret pieces outs story
      → AreTaken form secret pieces others story → outs ≡ others
  one_outs [] [] [] story t f = refl
  one_outs [] [] (other ∷ others) story t f = absurd f
  one_outs [] (out ∷ outs) others story t f = absurd t
  one_outs (p ∷ pieces) [] others story t f = absurd t
  one_outs (p ∷ pieces) (out ∷ outs) [] story t f = absurd f
  one_outs (p ∷ pieces) (out ∷ outs) (other ∷ others) story t f =
      let same : out ≡ other = one_out p.way p.bytes out other story t.0 f.0 in
      let rest : outs ≡ others = one_outs pieces outs others (then p.way p.bytes other story)
      (subst (λ (o : List ℕ). AreTaken form secret pieces outs (then p.way p.bytes o story)) same t.1) f.1 in
      cc

  refused_alike : (piece another : Piece) (fault other : RelayFault) (story : Story) → piece ≡ another
      → IsRefusedFor form secret piece.way piece.bytes fault story → IsRefusedFor form secret another.way another.bytes other story
      → OneRefusal piece another fault other
  refused_alike piece another fault other story same f g = record {
    same_piece = same;
    same_fault = one_fault another.way another.bytes fault other story
        (subst (λ (p : Piece). IsRefusedFor form secret p.way p.bytes fault story) same f) g;
  }

  taken_not_refused : (piece another : Piece) (out : List ℕ) (fault : RelayFault) (story : Story) → piece ≡ another
      → IsTaken form secret piece.way piece.bytes out story → IsRefusedFor form secret another.way another.bytes fault story → ⊥
  taken_not_refused piece another out fault story same f g =
      not_refused another.way another.bytes out fault story (subst (λ (p : Piece). IsTaken form secret p.way p.bytes out story) same f) g

  pub one_refusal : (front : List Piece) (piece : Piece) (back others : List Piece) (another : Piece) (more : List Piece) (outs told : List (List ℕ))
      (fault other : RelayFault) (story : Story)
      → front ++ piece ∷ back ≡ others ++ another ∷ more → AreTaken form secret front outs story → AreTaken form secret others told story
      → IsRefusedFor form secret piece.way piece.bytes fault (after front outs story)
      → IsRefusedFor form secret another.way another.bytes other (after others told story) → OneRefusal piece another fault other
  one_refusal [] piece back [] another more outs told fault other story e t f r s =
      let same : piece ≡ another = cc in refused_alike piece another fault other story same r s
  one_refusal [] piece back (q ∷ others) another more outs [] fault other story e t f r s = absurd f
  one_refusal [] piece back (q ∷ others) another more outs (o ∷ told) fault other story e t f r s =
      let same : q ≡ piece = cc in absurd (taken_not_refused q piece o fault story same f.0 r)
  one_refusal (p ∷ front) piece back [] another more [] told fault other story e t f r s = absurd t
  one_refusal (p ∷ front) piece back [] another more (o ∷ outs) told fault other story e t f r s =
      let same : p ≡ another = cc in absurd (taken_not_refused p another o other story same t.0 s)
  one_refusal (p ∷ front) piece back (q ∷ others) another more [] told fault other story e t f r s = absurd t
  one_refusal (p ∷ front) piece back (q ∷ others) another more (o ∷ outs) [] fault other story e t f r s = absurd f
  one_refusal (p ∷ front) piece back (q ∷ others) another more (o ∷ outs) (k ∷ told) fault other story e t f r s =
      let same : q ≡ p = cc in
      let rest : front ++ piece ∷ back ≡ others ++ another ∷ more = cc in
      let one : IsTaken form secret p.way p.bytes k story = subst (λ (x : Piece). IsTaken form secret x.way x.bytes k story) same f.0 in
      let out : k ≡ o = one_out p.way p.bytes k o story one t.0 in
      let taken : AreTaken form secret others told (then p.way p.bytes o story) =
      subst (λ (x : List ℕ). AreTaken form secret others told (then p.way p.bytes x story)) out
      (subst (λ (x : Piece). AreTaken form secret others told (then x.way x.bytes k story)) same f.1) in
      let refused : IsRefusedFor form secret another.way another.bytes other (after others told (then p.way p.bytes o story)) =
      subst (λ (x : List ℕ). IsRefusedFor form secret another.way another.bytes other (after others told (then p.way p.bytes x story))) out
      (subst (λ (x : Piece). IsRefusedFor form secret another.way another.bytes other (after others told (then x.way x.bytes k story))) same s) in
      one_refusal front piece back others another more outs told fault other (then p.way p.bytes o story) rest t.1 taken r refused
