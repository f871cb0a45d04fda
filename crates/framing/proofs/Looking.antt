-- From what a form tells of a length field and of a whole frame to one look.
use Rattle.std.proofs.Common.{◌≡◌, ℕ, ◌+◌, ◌-◌, ◌≤◌, List, length, take, drop, sym, ap, subst, ◌∙◌, arith, inr}
use Rattle.std.specs.Prelude.{slice_range}
use Rattle.std.proofs.lemmas.List.{drop-take, take-take, take-append-drop, length-take-le}
use Rattle.tl_codec.specs.declared.fault.FrameFault.{FrameFault}
use Rattle.framing.specs.declared.form.Span.{Span}
use Rattle.framing.specs.Streams.{Form, Frame, IsOutline, Shows}
use Rattle.framing.specs.Laws.{IsForm}
use Rattle.framing.specs.Looks.{IsFrameAt, IsWholeFrame}

same_part : (text : List ℕ) (start end size : ℕ) → start ≤ end → end ≤ size → slice_range (take size text) start end ≡ slice_range text start end
same_part text start end size h k =
    let e : size ≡ start + (size - start) = omega arith in
    let le : end - start ≤ size - start = omega arith in
    ap (λ (n : ℕ). take (end - start) (drop start (take n text))) e
    ∙ ap (take (end - start)) (drop-take start (size - start) text)
    ∙ take-take (end - start) (size - start) (drop start text) le

-- what is told of a whole frame is told of the text that it begins
pub whole_frame : (form : Form) (i : ℕ) (text : List ℕ) (size : ℕ) (span : Span) → size ≤ length text → IsFrameAt form i (take size text) span
    → IsWholeFrame form i text span.start span.end size
whole_frame form i text size span there at =
    let long : length (take size text) ≡ size = length-take-le size text there in
    let end : span.end ≤ size = omega (arith, at.end) in
    record {
      packet_start = at.start;
      packet_end = end;
      there = there;
      frame = subst (λ (p : List ℕ). Frame form i p (take size text)) (same_part text span.start span.end size at.start end) at.frame;
    }

module _ (form : Form) (lawful : IsForm form) where
  pub outline_of : (text : List ℕ) (size : ℕ) → form.sized size text → size ≤ length text → IsOutline form (take size text)
  outline_of text size h there =
      subst (λ (n : ℕ). form.sized n (take size text)) (sym (length-take-le size text there)) (lawful.within size text h there)

  pub spoilt_front : (i : ℕ) (text : List ℕ) (size : ℕ) (fault : FrameFault) → form.sized size text → size ≤ length text
      → form.spoilt i fault (take size text) → Shows form i fault text
  spoilt_front i text size fault h there spoilt = inr (record {
    front = take size text;
    rest = drop size text;
    outline = outline_of text size h there;
    spoilt = spoilt;
    whole = sym (take-append-drop size text);
  })
