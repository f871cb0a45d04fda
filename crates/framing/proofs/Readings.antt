-- Two readings of one text.
use Rattle.std.proofs.Common.{◌≡◌, ℕ, ◌+◌, List, [], ◌∷◌, ◌++◌, length, refl, sym, ap, ap₂, subst, ◌∙◌, arith, inl, inr, append_assoc, append-nil, zero-add}
use Rattle.std.specs.Prelude.{◌⊎◌}
use Rattle.tl_codec.specs.declared.fault.FrameFault.{FrameFault}
use Rattle.framing.specs.Streams.{Form, Frame, Frames, IsBegun, Shows, Stream, Faulty, number_after}
use Rattle.framing.specs.Laws.{IsForm}
use Rattle.framing.proofs.Fronts.{one_frame, whole, sound, awaited, one_fault, lasting}

pub cancel : (x r s : List ℕ) → x ++ r ≡ x ++ s → r ≡ s
cancel [] r s e = e
cancel (a ∷ x) r s e = cancel x r s (cc)

-- the text begins with the frame that is due behind so many others
pub record BeginsFrame (form : Form) (count : ℕ) (packet text : List ℕ) : Type 0 where
  pub front : List ℕ
  pub rest : List ℕ
  pub frame : Frame form (number_after count) packet front
  pub whole : text ≡ front ++ rest

pub frames-snoc : (form : Form) (count : ℕ) (packets : List (List ℕ)) (packet frames front : List ℕ)
    → Frames form count packets frames → Frame form (number_after (count + length packets)) packet front
    → Frames form count (packets ++ packet ∷ []) (frames ++ front)
frames-snoc form count [] packet frames front each frame =
    let here : count + 0 ≡ count = omega arith in
    let due : Frame form (number_after count) packet front = subst (λ (n : ℕ). Frame form (number_after n) packet front) here frame in
    let only : frames ++ front ≡ front ++ [] = ap (λ (xs : List ℕ). xs ++ front) each ∙ sym (append-nil front) in
    (front, [], due, refl, only)
frames-snoc form count (p ∷ packets) packet frames front each frame =
    let later : count + length (p ∷ packets) ≡ count + 1 + length packets = omega arith in
    let due : Frame form (number_after (count + 1 + length packets)) packet front =
    subst (λ (n : ℕ). Frame form (number_after n) packet front) later frame in
    let whole : frames ++ front ≡ each.0 ++ (each.1 ++ front) =
    ap (λ (xs : List ℕ). xs ++ front) each.4 ∙ append_assoc each.0 each.1 front in
    (each.0, each.1 ++ front, each.2, frames-snoc form (count + 1) packets packet each.1 front each.3 due, whole)

pub first_frames-snoc : (form : Form) (packets : List (List ℕ)) (packet frames front : List ℕ)
    → Frames form 0 packets frames → Frame form (number_after (length packets)) packet front
    → Frames form 0 (packets ++ packet ∷ []) (frames ++ front)
first_frames-snoc form packets packet frames front each frame =
    frames-snoc form 0 packets packet frames front each
    (subst (λ (n : ℕ). Frame form (number_after n) packet front) (sym (zero-add (length packets))) frame)

module _ (form : Form) (lawful : IsForm form) where
  -- frames of the same packets are the same
  pub same_frames : (count : ℕ) (packets : List (List ℕ)) (x y r s : List ℕ)
      → Frames form count packets x → Frames form count packets y → x ++ r ≡ y ++ s → r ≡ s
  same_frames count [] x y r s f g e =
      ap (λ (xs : List ℕ). xs ++ r) (sym f) ∙ e ∙ ap (λ (xs : List ℕ). xs ++ s) g
  same_frames count (p ∷ packets) x y r s f g e =
      let text : f.0 ++ (f.1 ++ r) ≡ g.0 ++ (g.1 ++ s) =
      sym (append_assoc f.0 f.1 r) ∙ ap (λ (xs : List ℕ). xs ++ r) (sym f.4) ∙ e ∙ ap (λ (xs : List ℕ). xs ++ s) g.4 ∙ append_assoc g.0 g.1 s in
      let one = one_frame form lawful (number_after count) p p f.0 g.0 (f.1 ++ r) (g.1 ++ s) f.2 g.2 text in
      let behind : f.1 ++ r ≡ g.1 ++ s = cancel f.0 (f.1 ++ r) (g.1 ++ s) (text ∙ ap (λ (xs : List ℕ). xs ++ (g.1 ++ s)) (sym one.1)) in
      same_frames (count + 1) packets f.1 g.1 r s f.3 g.3 behind

  -- behind the frames of some packets stands the frame of the one after them
  pub next_frame : (count : ℕ) (packets : List (List ℕ)) (packet x y r s : List ℕ)
      → Frames form count packets x → Frames form count (packets ++ packet ∷ []) y → x ++ r ≡ y ++ s
      → BeginsFrame form (count + length packets) packet r
  next_frame count [] packet x y r s f g e =
      let here : count ≡ count + 0 = omega arith in
      let due : Frame form (number_after (count + 0)) packet g.0 = subst (λ (n : ℕ). Frame form (number_after n) packet g.0) here g.2 in
      let text : r ≡ g.0 ++ (g.1 ++ s) =
      ap (λ (xs : List ℕ). xs ++ r) (sym f) ∙ e ∙ ap (λ (xs : List ℕ). xs ++ s) g.4 ∙ append_assoc g.0 g.1 s in
      record { front = g.0; rest = g.1 ++ s; frame = due; whole = text }
  next_frame count (p ∷ packets) packet x y r s f g e =
      let text : f.0 ++ (f.1 ++ r) ≡ g.0 ++ (g.1 ++ s) =
      sym (append_assoc f.0 f.1 r) ∙ ap (λ (xs : List ℕ). xs ++ r) (sym f.4) ∙ e ∙ ap (λ (xs : List ℕ). xs ++ s) g.4 ∙ append_assoc g.0 g.1 s in
      let one = one_frame form lawful (number_after count) p p f.0 g.0 (f.1 ++ r) (g.1 ++ s) f.2 g.2 text in
      let behind : f.1 ++ r ≡ g.1 ++ s = cancel f.0 (f.1 ++ r) (g.1 ++ s) (text ∙ ap (λ (xs : List ℕ). xs ++ (g.1 ++ s)) (sym one.1)) in
      let later : count + 1 + length packets ≡ count + length (p ∷ packets) = omega arith in
      subst (λ (n : ℕ). BeginsFrame form n packet r) later
      (next_frame (count + 1) packets packet f.1 g.1 r s f.3 g.3 behind)

  -- Two readings of the frames of one text: the same packets and the same rest, or a frame stands at the
  -- front of a rest.
  pub two_readings : (count : ℕ) (ps qs : List (List ℕ)) (x y r s : List ℕ)
      → Frames form count ps x → Frames form count qs y → x ++ r ≡ y ++ s
      → ((ps ≡ qs) × (r ≡ s)) ⊎ (((packet : List ℕ) × BeginsFrame form (count + length ps) packet r) ⊎ ((packet : List ℕ) × BeginsFrame form (count + length qs) packet s))
  two_readings count [] [] x y r s f g e =
      inl (refl, same_frames count [] x y r s f g e)
  two_readings count [] (q ∷ qs) x y r s f g e =
      let here : count ≡ count + 0 = omega arith in
      let text : r ≡ g.0 ++ (g.1 ++ s) =
      ap (λ (xs : List ℕ). xs ++ r) (sym f) ∙ e ∙ ap (λ (xs : List ℕ). xs ++ s) g.4 ∙ append_assoc g.0 g.1 s in
      inr (inl (q, record { front = g.0; rest = g.1 ++ s; frame = subst (λ (n : ℕ). Frame form (number_after n) q g.0) here g.2; whole = text }))
  two_readings count (p ∷ ps) [] x y r s f g e =
      let here : count ≡ count + 0 = omega arith in
      let text : s ≡ f.0 ++ (f.1 ++ r) =
      ap (λ (xs : List ℕ). xs ++ s) (sym g) ∙ sym e ∙ ap (λ (xs : List ℕ). xs ++ r) f.4 ∙ append_assoc f.0 f.1 r in
      inr (inr (p, record { front = f.0; rest = f.1 ++ r; frame = subst (λ (n : ℕ). Frame form (number_after n) p f.0) here f.2; whole = text }))
  two_readings count (p ∷ ps) (q ∷ qs) x y r s f g e =
      let text : f.0 ++ (f.1 ++ r) ≡ g.0 ++ (g.1 ++ s) =
      sym (append_assoc f.0 f.1 r) ∙ ap (λ (xs : List ℕ). xs ++ r) (sym f.4) ∙ e ∙ ap (λ (xs : List ℕ). xs ++ s) g.4 ∙ append_assoc g.0 g.1 s in
      let one = one_frame form lawful (number_after count) p q f.0 g.0 (f.1 ++ r) (g.1 ++ s) f.2 g.2 text in
      let behind : f.1 ++ r ≡ g.1 ++ s = cancel f.0 (f.1 ++ r) (g.1 ++ s) (text ∙ ap (λ (xs : List ℕ). xs ++ (g.1 ++ s)) (sym one.1)) in
      let left : count + 1 + length ps ≡ count + length (p ∷ ps) = omega arith in
      let right : count + 1 + length qs ≡ count + length (q ∷ qs) = omega arith in
      elim (two_readings (count + 1) ps qs f.1 g.1 r s f.3 g.3 behind) [
        | inl same ↦ inl (ap₂ (λ (a : List ℕ) (more : List (List ℕ)). a ∷ more) one.0 same.0, same.1)
        | inr other ↦ inr (elim other [
          | inl front ↦ inl (front.0, subst (λ (n : ℕ). BeginsFrame form n front.0 r) left front.1)
          | inr front ↦ inr (front.0, subst (λ (n : ℕ). BeginsFrame form n front.0 s) right front.1)
        ])
      ]

  -- the same from the start of a stream
  pub first_readings : (ps qs : List (List ℕ)) (x y r s : List ℕ)
      → Frames form 0 ps x → Frames form 0 qs y → x ++ r ≡ y ++ s
      → ((ps ≡ qs) × (r ≡ s)) ⊎ (((packet : List ℕ) × BeginsFrame form (length ps) packet r) ⊎ ((packet : List ℕ) × BeginsFrame form (length qs) packet s))
  first_readings ps qs x y r s f g e =
      elim (two_readings 0 ps qs x y r s f g e) [
        | inl same ↦ inl same
        | inr other ↦ inr (elim other [
          | inl front ↦ inl (front.0, subst (λ (n : ℕ). BeginsFrame form n front.0 r) (zero-add (length ps)) front.1)
          | inr front ↦ inr (front.0, subst (λ (n : ℕ). BeginsFrame form n front.0 s) (zero-add (length qs)) front.1)
        ])
      ]

  pub first_frame_after : (packets : List (List ℕ)) (packet x y r s : List ℕ)
      → Frames form 0 packets x → Frames form 0 (packets ++ packet ∷ []) y → x ++ r ≡ y ++ s
      → BeginsFrame form (length packets) packet r
  first_frame_after packets packet x y r s f g e =
      subst (λ (n : ℕ). BeginsFrame form n packet r) (zero-add (length packets)) (next_frame 0 packets packet x y r s f g e)

  -- a text that begins with a frame is neither a proper prefix of one nor a fault
  pub not_begun : (count : ℕ) (packet text : List ℕ) → BeginsFrame form count packet text → IsBegun form text → ⊥
  not_begun count packet text front begun =
      whole form lawful (number_after count) packet front.front front.rest front.frame (subst (λ (xs : List ℕ). IsBegun form xs) front.whole begun)

  pub not_faulty : (count : ℕ) (packet text : List ℕ) (fault : FrameFault) → BeginsFrame form count packet text → Shows form (number_after count) fault text → ⊥
  not_faulty count packet text fault front shown =
      sound form lawful (number_after count) packet front.front front.rest fault front.frame (subst (λ (xs : List ℕ). Shows form (number_after count) fault xs) front.whole shown)

  pub one_stream : (packets others : List (List ℕ)) (rest other bytes : List ℕ)
      → Stream form packets rest bytes → Stream form others other bytes → (packets ≡ others) × (rest ≡ other)
  one_stream packets others rest other bytes f g =
      elim (first_readings packets others f.frames g.frames rest other f.each g.each (sym f.whole ∙ g.whole)) [
        | inl same ↦ same
        | inr front ↦ elim front [
          | inl here ↦ absurd (not_begun _ _ _ here.1 f.begun)
          | inr here ↦ absurd (not_begun _ _ _ here.1 g.begun)
        ]
      ]

  pub stream_or_fault : (packets others : List (List ℕ)) (rest bytes : List ℕ) (fault : FrameFault)
      → Stream form packets rest bytes → Faulty form others fault bytes → ⊥
  stream_or_fault packets others rest bytes fault f g =
      elim (first_readings packets others f.frames g.frames rest g.rest f.each g.each (sym f.whole ∙ g.whole)) [
        | inl same ↦ awaited form lawful _ _ _ (subst (λ (xs : List ℕ). IsBegun form xs) same.1 f.begun) g.shown
        | inr front ↦ elim front [
          | inl here ↦ not_begun _ _ _ here.1 f.begun
          | inr here ↦ not_faulty _ _ _ _ here.1 g.shown
        ]
      ]

  pub one_faulty : (packets others : List (List ℕ)) (one other : FrameFault) (bytes : List ℕ)
      → Faulty form packets one bytes → Faulty form others other bytes → (packets ≡ others) × (one ≡ other)
  one_faulty packets others one other bytes f g =
      elim (first_readings packets others f.frames g.frames f.rest g.rest f.each g.each (sym f.whole ∙ g.whole)) [
        | inl same ↦
            let shown : Shows form (number_after (length packets)) other f.rest =
            subst (λ (xs : List ℕ). Shows form (number_after (length packets)) other xs) (sym same.1)
            (subst (λ (ps : List (List ℕ)). Shows form (number_after (length ps)) other g.rest) (sym same.0) g.shown) in
            (same.0, one_fault form lawful _ _ _ _ f.shown shown)
        | inr front ↦ elim front [
          | inl here ↦ absurd (not_faulty _ _ _ _ here.1 f.shown)
          | inr here ↦ absurd (not_faulty _ _ _ _ here.1 g.shown)
        ]
      ]

  pub fault_lasts : (packets : List (List ℕ)) (fault : FrameFault) (bytes more : List ℕ)
      → Faulty form packets fault bytes → Faulty form packets fault (bytes ++ more)
  fault_lasts packets fault bytes more f = record {
    frames = f.frames;
    rest = f.rest ++ more;
    each = f.each;
    shown = lasting form lawful _ _ _ _ f.shown;
    whole = ap (λ (xs : List ℕ). xs ++ more) f.whole ∙ append_assoc f.frames f.rest more;
  }
