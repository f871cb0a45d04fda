-- A stream has one reading.
use Rattle.std.proofs.Common.{◌≡◌, ℕ, ◌+◌, List, [], ◌∷◌, ◌++◌, length, take, drop, refl, sym, ap, ap₂, subst, ◌∙◌, arith, inl, inr, append_assoc, length-append}
use Rattle.std.proofs.lemmas.List.{take_at, drop_at}
use Rattle.std.specs.List.{All}
use Rattle.tl_codec.specs.declared.fault.FrameFault.{FrameFault}
use Rattle.framing.specs.Laws.{IsForm}
use Rattle.framing.specs.Streams.{Form, Frame, Frames, IsBegun, Shows, number_after}
use Rattle.secret_relay.proofs.Every.{all_first, all_rest}

-- frames at the front of one text
pub record OneFront (p q x y r s : List ℕ) : Type 0 where
  pub packet : p ≡ q
  pub back : r ≡ s

module _ (form : Form) (is : IsForm form) where
  sized_front : (i : ℕ) (p x r text : List ℕ) → Frame form i p x → x ++ r ≡ text → form.sized (length x) text
  sized_front i p x r text f e = subst (λ (t : List ℕ). form.sized (length x) t) e (is.sized_on (length x) x r (is.outlined i p x f))

  pub one_front : (i : ℕ) (p q x y r s : List ℕ) → Frame form i p x → Frame form i q y → x ++ r ≡ y ++ s → OneFront p q x y r s
  one_front i p q x y r s f g e =
      let size : length x ≡ length y =
      is.one_size (length x) (length y) (y ++ s) (sized_front i p x r (y ++ s) f e) (sized_front i q y s (y ++ s) g refl) in
      let front : x ≡ y =
      sym (take_at x r (length x) refl) ∙ ap (λ (l : List ℕ). take (length x) l) e ∙ take_at y s (length x) (sym size) in
      let back : r ≡ s =
      sym (drop_at x r (length x) refl) ∙ ap (λ (l : List ℕ). drop (length x) l) e ∙ drop_at y s (length x) (sym size) in
      record { packet = is.one_packet i p q y (subst (λ (t : List ℕ). Frame form i p t) front f) g; back = back }

  -- a text that begins with a frame is no proper prefix of one
  pub not_begun : (i : ℕ) (p x r text : List ℕ) → Frame form i p x → x ++ r ≡ text → IsBegun form text → ⊥
  not_begun i p x r text f e (inl cut) = is.unsized (length x) text cut (sized_front i p x r text f e)
  not_begun i p x r text f e (inr short) =
      let same = is.one_size (length x) short.size text (sized_front i p x r text f e) short.sized in
      let long : length text ≡ length x + length r = ap length (sym e) ∙ length-append x r in
      omega (arith, same, long, short.short)

  -- and shows no fault
  pub not_shown : (i : ℕ) (p x r text : List ℕ) (fault : FrameFault) → Frame form i p x → x ++ r ≡ text → Shows form i fault text → ⊥
  not_shown i p x r text fault f e (inl wrong) = is.apart (length x) fault text (sized_front i p x r text f e) wrong
  not_shown i p x r text fault f e (inr shown) =
      let size : length x ≡ length shown.front =
      is.one_size (length x) (length shown.front) text (sized_front i p x r text f e)
      (subst (λ (t : List ℕ). form.sized (length shown.front) t) (sym shown.whole)
      (is.sized_on (length shown.front) shown.front shown.rest shown.outline)) in
      let front : x ≡ shown.front =
      sym (take_at x r (length x) refl) ∙ ap (λ (l : List ℕ). take (length x) l) (e ∙ shown.whole)
      ∙ take_at shown.front shown.rest (length x) (sym size) in
      is.sound i p shown.front fault (subst (λ (t : List ℕ). Frame form i p t) front f) shown.spoilt

  -- Behind packets that a text is read as stands no frame. So those that it begins with are the first of them.
  module _ (stops : ℕ → List ℕ → Type 0)
      (stopped : (count : ℕ) (p x r text : List ℕ) → Frame form (number_after count) p x → x ++ r ≡ text → stops count text → ⊥) where
    pub all_read : (P : List ℕ → Type 0) (count : ℕ) (packets : List (List ℕ)) (packet : List ℕ) (others : List (List ℕ)) (x y r s : List ℕ)
        → Frames form count (packets ++ packet ∷ []) x → Frames form count others y → x ++ r ≡ y ++ s
        → ((at : ℕ) → stops at s) → All P others → P packet
    all_read P count [] packet [] x y r s f g e stop all =
        absurd (stopped count packet f.0 (f.1 ++ r) s f.2
        (sym (append_assoc f.0 f.1 r) ∙ ap (λ (l : List ℕ). l ++ r) (sym f.4) ∙ e ∙ ap (λ (l : List ℕ). l ++ s) g) (stop count))
    all_read P count [] packet (q ∷ others) x y r s f g e stop all =
        let text : f.0 ++ (f.1 ++ r) ≡ g.0 ++ (g.1 ++ s) =
        sym (append_assoc f.0 f.1 r) ∙ ap (λ (l : List ℕ). l ++ r) (sym f.4) ∙ e ∙ ap (λ (l : List ℕ). l ++ s) g.4 ∙ append_assoc g.0 g.1 s in
        let one = one_front (number_after count) packet q f.0 g.0 (f.1 ++ r) (g.1 ++ s) f.2 g.2 text in
        subst P (sym one.packet) (all_first P q others all)
    all_read P count (p ∷ packets) packet [] x y r s f g e stop all =
        absurd (stopped count p f.0 (f.1 ++ r) s f.2
        (sym (append_assoc f.0 f.1 r) ∙ ap (λ (l : List ℕ). l ++ r) (sym f.4) ∙ e ∙ ap (λ (l : List ℕ). l ++ s) g) (stop count))
    all_read P count (p ∷ packets) packet (q ∷ others) x y r s f g e stop all =
        let text : f.0 ++ (f.1 ++ r) ≡ g.0 ++ (g.1 ++ s) =
        sym (append_assoc f.0 f.1 r) ∙ ap (λ (l : List ℕ). l ++ r) (sym f.4) ∙ e ∙ ap (λ (l : List ℕ). l ++ s) g.4 ∙ append_assoc g.0 g.1 s in
        let one = one_front (number_after count) p q f.0 g.0 (f.1 ++ r) (g.1 ++ s) f.2 g.2 text in
        all_read P (count + 1) packets packet others f.1 g.1 r s f.3 g.3 one.back stop (all_rest P q others all)

  -- the first packet that isn't such a one
  pub one_first : (P : List ℕ → Type 0) (count : ℕ) (ps : List (List ℕ)) (p : List ℕ) (qs : List (List ℕ)) (q x y r s : List ℕ)
      → Frames form count (ps ++ p ∷ []) x → Frames form count (qs ++ q ∷ []) y → x ++ r ≡ y ++ s
      → All P ps → (P p → ⊥) → All P qs → (P q → ⊥) → (ps ≡ qs) × (p ≡ q)
  one_first P count [] p [] q x y r s f g e all not also nor =
      let text : f.0 ++ (f.1 ++ r) ≡ g.0 ++ (g.1 ++ s) =
      sym (append_assoc f.0 f.1 r) ∙ ap (λ (l : List ℕ). l ++ r) (sym f.4) ∙ e ∙ ap (λ (l : List ℕ). l ++ s) g.4 ∙ append_assoc g.0 g.1 s in
      (refl, (one_front (number_after count) p q f.0 g.0 (f.1 ++ r) (g.1 ++ s) f.2 g.2 text).packet)
  one_first P count [] p (h ∷ qs) q x y r s f g e all not also nor =
      let text : f.0 ++ (f.1 ++ r) ≡ g.0 ++ (g.1 ++ s) =
      sym (append_assoc f.0 f.1 r) ∙ ap (λ (l : List ℕ). l ++ r) (sym f.4) ∙ e ∙ ap (λ (l : List ℕ). l ++ s) g.4 ∙ append_assoc g.0 g.1 s in
      let one = one_front (number_after count) p h f.0 g.0 (f.1 ++ r) (g.1 ++ s) f.2 g.2 text in
      absurd (not (subst P (sym one.packet) (all_first P h qs also)))
  one_first P count (h ∷ ps) p [] q x y r s f g e all not also nor =
      let text : f.0 ++ (f.1 ++ r) ≡ g.0 ++ (g.1 ++ s) =
      sym (append_assoc f.0 f.1 r) ∙ ap (λ (l : List ℕ). l ++ r) (sym f.4) ∙ e ∙ ap (λ (l : List ℕ). l ++ s) g.4 ∙ append_assoc g.0 g.1 s in
      let one = one_front (number_after count) h q f.0 g.0 (f.1 ++ r) (g.1 ++ s) f.2 g.2 text in
      absurd (nor (subst P one.packet (all_first P h ps all)))
  one_first P count (h ∷ ps) p (k ∷ qs) q x y r s f g e all not also nor =
      let text : f.0 ++ (f.1 ++ r) ≡ g.0 ++ (g.1 ++ s) =
      sym (append_assoc f.0 f.1 r) ∙ ap (λ (l : List ℕ). l ++ r) (sym f.4) ∙ e ∙ ap (λ (l : List ℕ). l ++ s) g.4 ∙ append_assoc g.0 g.1 s in
      let one = one_front (number_after count) h k f.0 g.0 (f.1 ++ r) (g.1 ++ s) f.2 g.2 text in
      let rest = one_first P (count + 1) ps p qs q f.1 g.1 r s f.3 g.3 one.back (all_rest P h ps all) not (all_rest P k qs also) nor in
      (ap₂ (λ (a : List ℕ) (more : List (List ℕ)). a ∷ more) one.packet rest.0, rest.1)
