-- The front of a text, where one frame is due.
use Rattle.std.proofs.Common.{◌≡◌, ℕ, ◌+◌, List, [], ◌∷◌, ◌++◌, length, refl, sym, ap, ap₂, subst, ◌∙◌, arith, inl, inr, append_assoc, length-append}
use Rattle.tl_codec.specs.declared.fault.FrameFault.{FrameFault}
use Rattle.framing.specs.Streams.{Form, Frame, IsOutline, IsBegun, Shows}
use Rattle.framing.specs.Laws.{IsForm}

-- fronts of one text that are as long are the same
pub same_front : (x y r s : List ℕ) → length x ≡ length y → x ++ r ≡ y ++ s → x ≡ y
same_front [] [] r s n e = refl
same_front [] (b ∷ y) r s n e = absurd (omega arith)
same_front (a ∷ x) [] r s n e = absurd (omega arith)
same_front (a ∷ x) (b ∷ y) r s n e =
    let first : a ≡ b = cc in
    let behind : x ++ r ≡ y ++ s = cc in
    let long : length x ≡ length y = omega arith in
    let rest = same_front x y r s long behind in
    ap₂ (λ (h : ℕ) (t : List ℕ). h ∷ t) first rest

module _ (form : Form) (lawful : IsForm form) where
  sized_by : (size : ℕ) (x r text : List ℕ) → form.sized size x → x ++ r ≡ text → form.sized size text
  sized_by size x r text sized e = subst (λ (t : List ℕ). form.sized size t) e (lawful.sized_on size x r sized)

  -- two outlines at the front of one text are the same
  one_outline : (x y r s : List ℕ) → IsOutline form x → IsOutline form y → x ++ r ≡ y ++ s → x ≡ y
  one_outline x y r s f g e =
      let same = lawful.one_size (length x) (length y) (y ++ s) (sized_by (length x) x r (y ++ s) f e) (sized_by (length y) y s (y ++ s) g refl) in
      same_front x y r s same e

  -- a wrong length is at no outline's front
  right_length : (x r text : List ℕ) (fault : FrameFault) → IsOutline form x → x ++ r ≡ text → form.wrong fault text → ⊥
  right_length x r text fault f e shown = lawful.apart (length x) fault text (sized_by (length x) x r text f e) shown

  -- an outline at the front isn't cut off
  no_begun : (x r text : List ℕ) → IsOutline form x → x ++ r ≡ text → IsBegun form text → ⊥
  no_begun x r text f e (inl cut) = lawful.unsized (length x) text cut (sized_by (length x) x r text f e)
  no_begun x r text f e (inr short) =
      let same = lawful.one_size (length x) short.size text (sized_by (length x) x r text f e) short.sized in
      let long : length text ≡ length x + length r = ap length (sym e) ∙ length-append x r in
      omega (arith, same, long, short.short)

  pub one_frame : (i : ℕ) (p q x y r s : List ℕ) → Frame form i p x → Frame form i q y → x ++ r ≡ y ++ s → (p ≡ q) × (x ≡ y)
  one_frame i p q x y r s f g e =
      let same : x ≡ y = one_outline x y r s (lawful.outlined i p x f) (lawful.outlined i q y g) e in
      (lawful.one_packet i p q y (subst (λ (t : List ℕ). Frame form i p t) same f) g, same)

  pub whole : (i : ℕ) (packet bytes rest : List ℕ) → Frame form i packet bytes → IsBegun form (bytes ++ rest) → ⊥
  whole i packet bytes rest f begun = no_begun bytes rest (bytes ++ rest) (lawful.outlined i packet bytes f) refl begun

  pub sound : (i : ℕ) (packet bytes rest : List ℕ) (fault : FrameFault) → Frame form i packet bytes → Shows form i fault (bytes ++ rest) → ⊥
  sound i packet bytes rest fault f (inl shown) = right_length bytes rest (bytes ++ rest) fault (lawful.outlined i packet bytes f) refl shown
  sound i packet bytes rest fault f (inr shown) =
      let same : shown.front ≡ bytes = one_outline shown.front bytes shown.rest rest shown.outline (lawful.outlined i packet bytes f) (sym shown.whole) in
      lawful.sound i packet bytes fault f (subst (λ (t : List ℕ). form.spoilt i fault t) same shown.spoilt)

  pub awaited : (i : ℕ) (bytes : List ℕ) (fault : FrameFault) → IsBegun form bytes → Shows form i fault bytes → ⊥
  awaited i bytes fault (inl cut) (inl shown) = lawful.unfaulted fault bytes cut shown
  awaited i bytes fault (inr short) (inl shown) = lawful.apart short.size fault bytes short.sized shown
  awaited i bytes fault begun (inr shown) = no_begun shown.front shown.rest bytes shown.outline (sym shown.whole) begun

  pub one_fault : (i : ℕ) (bytes : List ℕ) (one other : FrameFault) → Shows form i one bytes → Shows form i other bytes → one ≡ other
  one_fault i bytes one other (inl f) (inl g) = lawful.one_wrong one other bytes f g
  one_fault i bytes one other (inl f) (inr g) = absurd (right_length g.front g.rest bytes one g.outline (sym g.whole) f)
  one_fault i bytes one other (inr f) (inl g) = absurd (right_length f.front f.rest bytes other f.outline (sym f.whole) g)
  one_fault i bytes one other (inr f) (inr g) =
      let same : f.front ≡ g.front = one_outline f.front g.front f.rest g.rest f.outline g.outline (sym f.whole ∙ g.whole) in
      lawful.one_spoilt i one other g.front (subst (λ (t : List ℕ). form.spoilt i one t) same f.spoilt) g.spoilt

  pub lasting : (i : ℕ) (bytes more : List ℕ) (fault : FrameFault) → Shows form i fault bytes → Shows form i fault (bytes ++ more)
  lasting i bytes more fault (inl f) = inl (lawful.wrong_on fault bytes more f)
  lasting i bytes more fault (inr f) =
      inr (record {
        front = f.front;
        rest = f.rest ++ more;
        outline = f.outline;
        spoilt = f.spoilt;
        whole = ap (λ (t : List ℕ). t ++ more) f.whole ∙ append_assoc f.front f.rest more;
      })
