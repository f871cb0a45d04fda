-- What is written is read again in order.
use Rattle.std.proofs.Common.{◌≡◌, ℕ, ◌+◌, ◌<◌, List, [], ◌∷◌, ◌++◌, length, length-append, take, drop, append_assoc, append-nil, Option, None, Some, inl, refl, sym, ap, ap₂, subst, ◌∙◌, arith}
use Rattle.std.specs.Prelude.{MatchOption}
use Rattle.std.proofs.lemmas.List.{take_at, drop_at}
use Rattle.cipher_modes.specs.CounterMode.{CtrState}
use Rattle.tl_codec.specs.declared.fault.FrameFault.{FrameFault}
use Rattle.framing.specs.Laws.{IsForm}
use Rattle.framing.specs.Streams as streams
use Rattle.framing.specs.Streams.{Frame, Frames, Stream, Faulty, Begins, number_after}
use Rattle.framing.specs.Holding.{Answers, IsBehind, IsMore, IsPacket}
use Rattle.framing.specs.declared.next.Next.{Next}
use Rattle.transport.specs.Directions.{through, behind}
use Rattle.transport.specs.Forms.{framing_of}
use Rattle.transport.specs.Lawful.{lawful}
use Rattle.transport.specs.Wires.{Line, Hears, Tells}
use Rattle.transport.specs.declared.form.Form.{Form}
use Rattle.transport.proofs.Hearing.{PiecesEqualTheWhole, through-append}

-- what the crates below promise
abbrev pub Apart : Type 0
Apart = (form : Form) (packets others : List (List ℕ)) (rest bytes : List ℕ) (fault : FrameFault)
    → Stream (framing_of form) packets rest bytes → Faulty (framing_of form) others fault bytes → ⊥

abbrev pub Lasts : Type 0
Lasts = (form : Form) (packets : List (List ℕ)) (fault : FrameFault) (bytes more : List ℕ)
    → Faulty (framing_of form) packets fault bytes → Faulty (framing_of form) packets fault (bytes ++ more)

-- the frames of some packets and of others behind them
frames-split : (form : streams.Form) (count : ℕ) (packets more : List (List ℕ)) (bytes : List ℕ) → Frames form count (packets ++ more) bytes
    → (front back : List ℕ) × Frames form count packets front × (bytes ≡ front ++ back)
frames-split form count [] more bytes f = ([], bytes, refl, refl)
frames-split form count (packet ∷ packets) more bytes f =
    let back = frames-split form (count + 1) packets more f.1 f.3 in (
      f.0 ++ back.0,
      back.1,
      (f.0, back.0, f.2, back.2, refl),
      f.4 ∙ ap (λ (l : List ℕ). f.0 ++ l) back.3 ∙ sym (append_assoc f.0 back.0 back.1),
    )

module _ (form : streams.Form) (is : IsForm form) where
  -- packets whose frames stand at the front of others' frames are the first of those
  first_of : (count : ℕ) (heard told : List (List ℕ)) (x y r : List ℕ)
      → Frames form count heard x → Frames form count told y → x ++ r ≡ y → (left : List (List ℕ)) × (told ≡ heard ++ left)
  first_of count [] told x y r f g e = (told, refl)
  first_of count (p ∷ heard) [] x y r f g e =
      let some : 0 < length f.0 = is.some (length f.0) f.0 (is.outlined (number_after count) p f.0 f.2) in
      let none : length (x ++ r) ≡ 0 = ap length (e ∙ g) in
      absurd (omega (arith, some, none, length-append x r, ap length f.4, length-append f.0 f.1))
  first_of count (p ∷ heard) (q ∷ told) x y r f g e =
      let text : f.0 ++ (f.1 ++ r) ≡ g.0 ++ g.1 =
      sym (append_assoc f.0 f.1 r) ∙ ap (λ (xs : List ℕ). xs ++ r) (sym f.4) ∙ e ∙ g.4 in
      let size : length f.0 ≡ length g.0 =
      is.one_size (length f.0) (length g.0) (g.0 ++ g.1)
      (subst (λ (t : List ℕ). form.sized (length f.0) t) text
      (is.sized_on (length f.0) f.0 (f.1 ++ r) (is.outlined (number_after count) p f.0 f.2)))
      (is.sized_on (length g.0) g.0 g.1 (is.outlined (number_after count) q g.0 g.2)) in
      let front : f.0 ≡ g.0 =
      sym (take_at f.0 (f.1 ++ r) (length f.0) refl) ∙ ap (λ (l : List ℕ). take (length f.0) l) text
      ∙ take_at g.0 g.1 (length f.0) (sym size) in
      let back : f.1 ++ r ≡ g.1 =
      sym (drop_at f.0 (f.1 ++ r) (length f.0) refl) ∙ ap (λ (l : List ℕ). drop (length f.0) l) text
      ∙ drop_at g.0 g.1 (length f.0) (sym size) in
      let packet : p ≡ q =
      is.one_packet (number_after count) p q g.0 (subst (λ (t : List ℕ). Frame form (number_after count) p t) front f.2) g.2 in
      let rest = first_of (count + 1) heard told f.1 g.1 r f.3 g.3 back in
      (rest.0, ap₂ (λ (h : List ℕ) (t : List (List ℕ)). h ∷ t) (sym packet) rest.1)

  -- frames alone are a stream with nothing behind them
  frames_alone : (packets : List (List ℕ)) (bytes : List ℕ) → Frames form 0 packets bytes → Stream form packets [] bytes
  frames_alone packets bytes each = record { frames = bytes; each = each; begun = inl is.empty; whole = sym (append-nil bytes) }

module _ (apart : Apart) (lasts : Lasts) (form : Form) (told heard : List (List ℕ)) (left text more : List ℕ)
    (each : Frames (framing_of form) 0 told (text ++ more)) where
  held_first : (fault : Option FrameFault)
      → MatchOption fault (IsBehind (framing_of form) heard left text) (λ fault. Faulty (framing_of form) heard fault text)
      → (fault ≡ None) × ((left : List (List ℕ)) × (told ≡ heard ++ left))
  held_first None behind = (
    refl,
    first_of (framing_of form) (lawful form) 0 heard told behind.frames (text ++ more) (left ++ more) behind.each each
        (sym (append_assoc behind.frames left more) ∙ ap (λ (l : List ℕ). l ++ more) (sym behind.whole)),
  )
  held_first (Some fault) faulty =
      absurd (apart form told heard [] (text ++ more) fault (frames_alone (framing_of form) (lawful form) told (text ++ more) each)
      (lasts form heard fault text more faulty))

told_to : (one other : Line) (stream : Option CtrState) (packets : List (List ℕ)) (bytes : List ℕ) → one.form ≡ other.form
    → Tells one stream packets bytes → Frames (framing_of other.form) 0 packets (through stream bytes)
told_to one other stream packets bytes form tells = subst (λ (f : Form). Frames (framing_of f) 0 packets (through stream bytes)) form tells.frames

pub in_order : PiecesEqualTheWhole → Apart → Lasts → (one other : Line) (stream : Option CtrState) (told heard : List (List ℕ)) (bytes later : List ℕ)
    → one.form ≡ other.form → Tells one stream told (bytes ++ later) → Hears other stream heard bytes
    → (other.held.fault ≡ None) × ((left : List (List ℕ)) × (told ≡ heard ++ left))
in_order pieces apart lasts one other stream told heard bytes later form tells hears =
    let each : Frames (framing_of other.form) 0 told (through stream bytes ++ through (behind stream (length bytes)) later) =
    subst (λ (t : List ℕ). Frames (framing_of other.form) 0 told t) (through-append pieces stream bytes later)
    (told_to one other stream told (bytes ++ later) form tells) in
    held_first apart lasts other.form told heard other.held.left (through stream bytes) (through (behind stream (length bytes)) later) each
    other.held.fault hears.stands.text

pub next_is : (one other : Line) (stream : Option CtrState) (heard left : List (List ℕ)) (packet bytes : List ℕ) (answer : Next)
    → one.form ≡ other.form → Tells one stream (heard ++ packet ∷ left) bytes
    → Answers (framing_of other.form) heard (through stream bytes) answer → IsPacket packet answer
next_is one other stream heard left packet bytes answer form tells answers =
    let each : Frames (framing_of other.form) 0 ((heard ++ packet ∷ []) ++ left) (through stream bytes) =
    subst (λ (l : List (List ℕ)). Frames (framing_of other.form) 0 l (through stream bytes)) (sym (append_assoc heard (packet ∷ []) left))
    (told_to one other stream (heard ++ packet ∷ left) bytes form tells) in
    let split = frames-split (framing_of other.form) 0 (heard ++ packet ∷ []) left (through stream bytes) each in
    (answers.packet packet).1 (record { frames = split.0; rest = split.1; each = split.2; whole = split.3 })

pub no_more : (one other : Line) (stream : Option CtrState) (heard : List (List ℕ)) (bytes : List ℕ) (answer : Next)
    → one.form ≡ other.form → Tells one stream heard bytes → Answers (framing_of other.form) heard (through stream bytes) answer → IsMore answer
no_more one other stream heard bytes answer form tells answers =
    answers.more.1 ([], frames_alone (framing_of other.form) (lawful other.form) heard (through stream bytes) (told_to one other stream heard bytes form tells))
