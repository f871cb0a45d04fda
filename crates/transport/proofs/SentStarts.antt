-- What a client sends is taken for a start of its form.
use Rattle.std.proofs.Common.{◌≡◌, ◌≢◌, ℕ, ◌+◌, ◌%◌, Bool, true, false, List, [], ◌∷◌, ◌++◌, length, drop, Option, None, inl, inr, refl, sym, ap, subst, ◌∙◌, arith}
use Rattle.std.specs.Prelude.{nat_eq}
use Rattle.std.specs.List.{starts_with}
use Rattle.std.proofs.lemmas.Bool.Decides.{nat_tests}
use Rattle.cipher_modes.specs.CounterMode.{CtrState}
use Rattle.framing.specs.Payload.{IsPayload}
use Rattle.frame_full.specs.Full as full
use Rattle.obfus.specs.declared.tag.Tag.{Tag}
use Rattle.obfus.specs.declared.tag.Tag.TheVariants as tags
use Rattle.transport.specs.Directions.{through, behind}
use Rattle.transport.specs.Forms.{IsSent, frame_of}
use Rattle.transport.specs.Starts.{BeginsFull, IsSentStart, Opening, Starts, form_of_tag}
use Rattle.transport.specs.Wires.{HasBegun, IsNumbered}
use Rattle.transport.specs.declared.form.Form.{Form}
use Rattle.transport.specs.declared.form.Form.TheVariants as forms
use Rattle.transport.specs.Wires.{Line}

apart : (a b : ℕ) → a ≢ b → nat_eq a b ≡ false
apart a b differ = grind (arith, nat_tests)

other_first : (b w : ℕ) (bytes word : List ℕ) → w ≢ b → starts_with nat_eq (b ∷ bytes) (w ∷ word) ≡ false
other_first b w bytes word differ = rw (apart w b differ) refl

-- the length of a full frame is a multiple of 4, and the first byte of no other start is
pub full_begins : (packet more : List ℕ) → IsPayload packet → BeginsFull (full.frame_of 0 packet ++ more)
full_begins packet more fits =
    let size : ℕ = length packet + 12 in
    let words : length packet % 4 ≡ 0 = fits.words in
    let after : List ℕ = drop 1 (full.frame_of 0 packet ++ more) in
    let low : size % 256 % 4 ≡ 0 = omega arith in
    record {
      numbered = refl;
      not_abridged = other_first (size % 256) 0xef after [] (λ is. omega (arith, is));
      not_intermediate = other_first (size % 256) 0xee after (0xee ∷ 0xee ∷ 0xee ∷ []) (λ is. omega (arith, is));
      not_padded = other_first (size % 256) 0xdd after (0xdd ∷ 0xdd ∷ 0xdd ∷ []) (λ is. omega (arith, is));
    }

no_tag : (tag : Tag) → form_of_tag tag ≡ forms.Full → ⊥
no_tag tags.Abridged is = absurd (cc)
no_tag tags.Intermediate is = absurd (cc)
no_tag tags.Padded is = absurd (cc)

-- the full form isn't obfuscated
full_is_plain : (bytes : List ℕ) (opening : Opening) (rest : List ℕ) → Starts bytes opening rest → opening.form ≡ forms.Full → opening.up ≡ None
full_is_plain bytes opening rest (inl s) full = ap (λ (o : Opening). o.up) s.opens
full_is_plain bytes opening rest (inr s) full = absurd (no_tag s.pair.tag (ap (λ (o : Opening). o.form) (sym s.opens) ∙ full))

no_draw : (obfuscate : Bool) (drawn start : List ℕ) → (obfuscate ≡ true → forms.Full ≢ forms.Full) → IsSentStart obfuscate forms.Full drawn start → start ≡ []
no_draw true drawn start plain sent = absurd (plain refl refl)
no_draw false drawn start plain sent = sent

full_told : (line : Line) (obfuscate : Bool) (drawn start packet more : List ℕ) → (obfuscate ≡ true → forms.Full ≢ forms.Full)
    → HasBegun line forms.Full start → IsSentStart obfuscate forms.Full drawn start → IsPayload packet
    → BeginsFull (start ++ (through line.writing (full.frame_of line.number packet) ++ more))
full_told line obfuscate drawn start packet more plain begun sent fits =
    let none : start ≡ [] = no_draw obfuscate drawn start plain sent in
    let some : List ℕ = full.frame_of 0 packet in
    let told : BeginsFull (start ++ (some ++ [])) = subst (λ (l : List ℕ). BeginsFull (l ++ (some ++ []))) (sym none) (full_begins packet [] fits) in
    let up : begun.opening.up ≡ None =
    full_is_plain (start ++ (some ++ [])) begun.opening (some ++ []) (begun.starts (some ++ []) told) begun.opens in
    let writing : line.writing ≡ None = begun.tells.place ∙ ap (λ (s : Option CtrState). behind s 0) up in
    let number : line.number ≡ 0 = subst (λ (f : Form). IsNumbered f line.number 0) begun.form begun.tells.number in
    subst (λ (l : List ℕ). BeginsFull (l ++ (through line.writing (full.frame_of line.number packet) ++ more))) (sym none)
    (subst (λ (s : Option CtrState). BeginsFull (through s (full.frame_of line.number packet) ++ more)) (sym writing)
    (subst (λ (n : ℕ). BeginsFull (full.frame_of n packet ++ more)) (sym number) (full_begins packet more fits)))

pub taken : (line : Line) (form : Form) (obfuscate : Bool) (drawn start packet more : List ℕ) → (obfuscate ≡ true → form ≢ forms.Full)
    → (begun : HasBegun line form start) → IsSentStart obfuscate form drawn start → IsSent form packet
    → Starts (start ++ (through line.writing (frame_of form line.number packet) ++ more)) begun.opening
    (through line.writing (frame_of form line.number packet) ++ more)
taken line forms.Abridged obfuscate drawn start packet more plain begun sent fits =
    begun.starts (through line.writing (frame_of forms.Abridged line.number packet) ++ more) tt
taken line forms.Intermediate obfuscate drawn start packet more plain begun sent fits =
    begun.starts (through line.writing (frame_of forms.Intermediate line.number packet) ++ more) tt
taken line forms.Padded obfuscate drawn start packet more plain begun sent fits =
    begun.starts (through line.writing (frame_of forms.Padded line.number packet) ++ more) tt
taken line forms.Full obfuscate drawn start packet more plain begun sent fits =
    begun.starts (through line.writing (full.frame_of line.number packet) ++ more)
    (full_told line obfuscate drawn start packet more plain begun sent fits.fits)
