-- From one look at the front of what is left to what is answered, and to what the buffer stands for then.
use Rattle.std.proofs.Common.{◌≡◌, ℕ, ◌+◌, ◌-◌, ◌%◌, ◌≤◌, List, [], ◌∷◌, ◌++◌, length, take, drop, refl, sym, ap, ap₂, subst, ◌∙◌, arith, append_assoc, length-append}
use Rattle.std.specs.Prelude.{Option, None, Some, slice_range}
use Rattle.std.proofs.lemmas.List.{take-append-drop, drop-drop, take_all, length-drop}
use Rattle.tl_codec.specs.declared.fault.FrameFault.{FrameFault}
use Rattle.framing.specs.declared.next.Next.{Next}
use Rattle.framing.specs.declared.next.Next.TheVariants.{Packet, More, Fault}
use Rattle.framing.specs.Streams.{Form, Frame, IsBegun, Shows, Stream, Faulty, Begins, number_after}
use Rattle.framing.specs.Laws.{IsForm}
use Rattle.framing.specs.Looks.{IsWholeFrame}
use Rattle.framing.specs.Held.{Held, nothing, put_behind, with_piece}
use Rattle.framing.specs.Holding.{IsBehind, Stands, Answers, IsPacket}
use Rattle.framing.proofs.Fronts.{one_frame, awaited, one_fault}
use Rattle.framing.proofs.Readings.{BeginsFrame, first_frames-snoc, same_frames, first_frame_after, not_begun, not_faulty, fault_lasts}

-- what the answer says of what is left
abbrev pub ShownBy : Form → ℕ → List ℕ → Next → Type 0
ShownBy form count left (Packet lent) = BeginsFrame form count lent.now left
ShownBy form count left More = IsBegun form left
ShownBy form count left (Fault fault) = Shows form (number_after count) fault left

abbrev pub Held-of : List ℕ → ℕ → Option FrameFault → Held
Held-of left number fault = record { left = left; number = number; fault = fault }

-- what is left from a place on, and a packet in it, as slices of the buffer have them
abbrev pub rest_of : List ℕ → ℕ → List ℕ
rest_of text at = take (length text - at) (drop at text)

abbrev pub lent_of : List ℕ → ℕ → ℕ → ℕ → List ℕ
lent_of text at start end = take (at + end - (at + start)) (drop (at + start) text)

rest_is : (text items : List ℕ) (at : ℕ) → text ≡ items → rest_of text at ≡ drop at items
rest_is text items at e =
    let long : length (drop at text) ≤ length text - at = omega (arith, length-drop at text) in
    take_all (length text - at) (drop at text) long ∙ ap (drop at) e

lent_is : (text items again : List ℕ) (at start end : ℕ) → text ≡ items → again ≡ items
    → lent_of again at start end ≡ slice_range (rest_of text at) start end
lent_is text items again at start end t a =
    let count : at + end - (at + start) ≡ end - start = omega arith in
    let same : again ≡ text = a ∙ sym t in
    let rest : rest_of text at ≡ drop at text = rest_is text text at refl in
    ap₂ (λ (n : ℕ) (xs : List ℕ). take n (drop (at + start) xs)) count same
    ∙ ap (take (end - start)) (sym (drop-drop start at text))
    ∙ ap (λ (xs : List ℕ). take (end - start) (drop start xs)) (sym rest)

module _ (form : Form) (lawful : IsForm form) where
  stream_behind : (packets : List (List ℕ)) (left bytes : List ℕ) → IsBehind form packets left bytes → IsBegun form left
      → (rest : List ℕ) × Stream form packets rest bytes
  stream_behind packets left bytes behind begun =
      (left, record { frames = behind.frames; each = behind.each; begun = begun; whole = behind.whole })

  fault_behind : (packets : List (List ℕ)) (left bytes : List ℕ) (fault : FrameFault) → IsBehind form packets left bytes
      → Shows form (number_after (length packets)) fault left → Faulty form packets fault bytes
  fault_behind packets left bytes fault behind shown =
      record { frames = behind.frames; rest = left; each = behind.each; shown = shown; whole = behind.whole }

  frames_behind : (packets : List (List ℕ)) (packet left bytes : List ℕ) → IsBehind form packets left bytes
      → BeginsFrame form (length packets) packet left → Begins form (packets ++ packet ∷ []) bytes
  frames_behind packets packet left bytes behind front =
      record {
        frames = behind.frames ++ front.front;
        rest = front.rest;
        each = first_frames-snoc form packets packet behind.frames front.front behind.each front.frame;
        whole = behind.whole ∙ ap (λ (xs : List ℕ). behind.frames ++ xs) front.whole ∙ sym (append_assoc behind.frames front.front front.rest);
      }

  left_begins : (packets : List (List ℕ)) (packet left bytes : List ℕ) → IsBehind form packets left bytes
      → Begins form (packets ++ packet ∷ []) bytes → BeginsFrame form (length packets) packet left
  left_begins packets packet left bytes behind begins =
      first_frame_after form lawful packets packet behind.frames begins.frames left begins.rest behind.each begins.each (sym behind.whole ∙ begins.whole)

  left_begun : (packets : List (List ℕ)) (rest left bytes : List ℕ) → IsBehind form packets left bytes
      → Stream form packets rest bytes → IsBegun form left
  left_begun packets rest left bytes behind stream =
      let same : left ≡ rest = same_frames form lawful 0 packets behind.frames stream.frames left rest behind.each stream.each (sym behind.whole ∙ stream.whole) in
      subst (λ (xs : List ℕ). IsBegun form xs) (sym same) stream.begun

  left_shows : (packets : List (List ℕ)) (left bytes : List ℕ) (fault : FrameFault) → IsBehind form packets left bytes
      → Faulty form packets fault bytes → Shows form (number_after (length packets)) fault left
  left_shows packets left bytes fault behind faulty =
      let same : left ≡ faulty.rest = same_frames form lawful 0 packets behind.frames faulty.frames left faulty.rest behind.each faulty.each (sym behind.whole ∙ faulty.whole) in
      subst (λ (xs : List ℕ). Shows form (number_after (length packets)) fault xs) (sym same) faulty.shown

  one_packet : (count : ℕ) (p q text : List ℕ) → BeginsFrame form count p text → BeginsFrame form count q text → p ≡ q
  one_packet count p q text f g =
      let one = one_frame form lawful (number_after count) p q f.front g.front f.rest g.rest f.frame g.frame (sym f.whole ∙ g.whole) in
      one.0

  -- what is shown of what is left is what has to be answered
  pub answered : (packets : List (List ℕ)) (left bytes : List ℕ) (answer : Next) → IsBehind form packets left bytes
      → ShownBy form (length packets) left answer → Answers form packets bytes answer
  answered packets left bytes (Packet lent) behind front = record {
    packet = λ packet. (
      (λ e. frames_behind packets packet left bytes behind (subst (λ (p : List ℕ). BeginsFrame form (length packets) p left) e front)),
      (λ begins. one_packet (length packets) lent.now packet left front (left_begins packets packet left bytes behind begins)),
    );
    more = (
      (λ e. absurd e),
      (λ stream. not_begun form lawful (length packets) lent.now left front (left_begun packets stream.0 left bytes behind stream.1)),
    );
    fault = λ fault. (
      (λ e. absurd e),
      (λ faulty. not_faulty form lawful (length packets) lent.now left fault front (left_shows packets left bytes fault behind faulty)),
    );
  }
  answered packets left bytes More behind begun = record {
    packet = λ packet. (
      (λ e. absurd e),
      (λ begins. not_begun form lawful (length packets) packet left (left_begins packets packet left bytes behind begins) begun),
    );
    more = ((λ _. stream_behind packets left bytes behind begun), (λ _. tt));
    fault = λ fault. (
      (λ e. absurd e),
      (λ faulty. awaited form lawful (number_after (length packets)) left fault begun (left_shows packets left bytes fault behind faulty)),
    );
  }
  answered packets left bytes (Fault found) behind shown = record {
    packet = λ packet. (
      (λ e. absurd e),
      (λ begins. not_faulty form lawful (length packets) packet left found (left_begins packets packet left bytes behind begins) shown),
    );
    more = (
      (λ e. absurd e),
      (λ stream. awaited form lawful (number_after (length packets)) left found (left_begun packets stream.0 left bytes behind stream.1) shown),
    );
    fault = λ fault. (
      (λ e. fault_behind packets left bytes fault behind (subst (λ (f : FrameFault). Shows form (number_after (length packets)) f left) e shown)),
      (λ faulty. one_fault form lawful (number_after (length packets)) left found fault shown (left_shows packets left bytes fault behind faulty)),
    );
  }

  -- ---- what a buffer answers, by what it holds

  pub after_fault : (left : List ℕ) (number : ℕ) (fault : FrameFault) (packets : List (List ℕ)) (bytes : List ℕ)
      → Stands form (record { left = left; number = number; fault = Some fault }) packets bytes → Answers form packets bytes (Fault fault)
  after_fault left number fault packets bytes stands =
      let f : Faulty form packets fault bytes = stands.text in
      let behind : IsBehind form packets f.rest bytes = record { frames = f.frames; each = f.each; whole = f.whole } in
      answered packets f.rest bytes (Fault fault) behind f.shown

  pub while_more : (left : List ℕ) (number : ℕ) (packets : List (List ℕ)) (bytes : List ℕ) → IsBegun form left
      → Stands form (record { left = left; number = number; fault = None }) packets bytes → Answers form packets bytes More
  while_more left number packets bytes begun stands = answered packets left bytes More stands.text begun

  due : (number : ℕ) (packets : List (List ℕ)) (fault : FrameFault) (left : List ℕ) → number ≡ number_after (length packets)
      → Shows form number fault left → Shows form (number_after (length packets)) fault left
  due number packets fault left e shown = subst (λ (n : ℕ). Shows form n fault left) e shown

  pub at_fault : (left : List ℕ) (number : ℕ) (fault : FrameFault) (packets : List (List ℕ)) (bytes : List ℕ) → Shows form number fault left
      → Stands form (record { left = left; number = number; fault = None }) packets bytes → Answers form packets bytes (Fault fault)
  at_fault left number fault packets bytes shown stands =
      answered packets left bytes (Fault fault) stands.text (due number packets fault left stands.number shown)

  pub past_fault : (left none : List ℕ) (number : ℕ) (fault : FrameFault) (packets : List (List ℕ)) (bytes : List ℕ) → Shows form number fault left
      → Stands form (record { left = left; number = number; fault = None }) packets bytes
      → Stands form (record { left = none; number = number; fault = Some fault }) packets bytes
  past_fault left none number fault packets bytes shown stands = record {
    number = stands.number;
    text = fault_behind packets left bytes fault stands.text (due number packets fault left stands.number shown);
  }

  front_of : (left : List ℕ) (number start end size : ℕ) (packets : List (List ℕ)) → number ≡ number_after (length packets)
      → IsWholeFrame form number left start end size → BeginsFrame form (length packets) (slice_range left start end) left
  front_of left number start end size packets e whole = record {
    front = take size left;
    rest = drop size left;
    frame = subst (λ (n : ℕ). Frame form n (slice_range left start end) (take size left)) e whole.frame;
    whole = sym (take-append-drop size left);
  }

  pub at_packet : (left : List ℕ) (number start end size : ℕ) (packets : List (List ℕ)) (bytes : List ℕ) (answer : Next)
      → IsPacket (slice_range left start end) answer
      → IsWholeFrame form number left start end size
      → Stands form (record { left = left; number = number; fault = None }) packets bytes → Answers form packets bytes answer
  at_packet left number start end size packets bytes (Packet lent) e whole stands =
      let front : BeginsFrame form (length packets) lent.now left =
      subst (λ (p : List ℕ). BeginsFrame form (length packets) p left) (sym e) (front_of left number start end size packets stands.number whole) in
      answered packets left bytes (Packet lent) stands.text front
  at_packet left number start end size packets bytes More e whole stands = absurd e
  at_packet left number start end size packets bytes (Fault fault) e whole stands = absurd e

  pub past_packet : (left : List ℕ) (number start end size : ℕ) (packets : List (List ℕ)) (bytes : List ℕ)
      → IsWholeFrame form number left start end size
      → Stands form (record { left = left; number = number; fault = None }) packets bytes
      → Stands form (record { left = drop size left; number = (number + 1) % 4294967296; fault = None }) (packets ++ slice_range left start end ∷ []) bytes
  past_packet left number start end size packets bytes whole stands =
      let behind : IsBehind form packets left bytes = stands.text in
      let packet = slice_range left start end in
      let frame : Frame form (number_after (length packets)) packet (take size left) =
      subst (λ (n : ℕ). Frame form n packet (take size left)) stands.number whole.frame in
      let one_more : length (packets ++ packet ∷ []) ≡ length packets + 1 = length-append packets (packet ∷ []) in
      record {
        number = grind (arith, one_more, stands.number);
        text = record {
          frames = behind.frames ++ take size left;
          each = first_frames-snoc form packets packet behind.frames (take size left) behind.each frame;
          whole = behind.whole ∙ ap (λ (xs : List ℕ). behind.frames ++ xs) (sym (take-append-drop size left)) ∙ sym (append_assoc behind.frames (take size left) (drop size left));
        };
      }

  -- ---- the same, as the buffer's fields have it: `text` is the whole buffer, of which what is left begins at `at`

  held_as : (at number : ℕ) (fault found : Option FrameFault) (items left : List ℕ) (held : Held) (packets : List (List ℕ)) (bytes : List ℕ)
      → Held-of (drop at items) number fault ≡ held → fault ≡ found → left ≡ drop at items
      → Stands form held packets bytes → Stands form (Held-of left number found) packets bytes
  held_as at number fault found items left held packets bytes e f l stands =
      let one : Stands form (Held-of (drop at items) number fault) packets bytes = subst (λ (h : Held). Stands form h packets bytes) (sym e) stands in
      let two : Stands form (Held-of (drop at items) number found) packets bytes = subst (λ (x : Option FrameFault). Stands form (Held-of (drop at items) number x) packets bytes) f one in
      subst (λ (xs : List ℕ). Stands form (Held-of xs number found) packets bytes) (sym l) two

  pub in_fault : (at number : ℕ) (known : Option FrameFault) (fault : FrameFault) (items : List ℕ) (held : Held) → Held-of (drop at items) number known ≡ held → known ≡ Some fault
      → (packets : List (List ℕ)) (bytes : List ℕ) → Stands form held packets bytes → Answers form packets bytes (Fault fault)
  in_fault at number known fault items held e f packets bytes stands =
      after_fault (drop at items) number fault packets bytes (held_as at number known (Some fault) items (drop at items) held packets bytes e f refl stands)

  pub in_more : (at number : ℕ) (known : Option FrameFault) (items text : List ℕ) (held : Held) → Held-of (drop at items) number known ≡ held → known ≡ None → text ≡ items
      → IsBegun form (rest_of text at)
      → (packets : List (List ℕ)) (bytes : List ℕ) → Stands form held packets bytes → Answers form packets bytes More
  in_more at number known items text held e f t begun packets bytes stands =
      while_more (rest_of text at) number packets bytes begun (held_as at number known None items (rest_of text at) held packets bytes e f (rest_is text items at t) stands)

  pub in_found : (at number : ℕ) (known : Option FrameFault) (fault : FrameFault) (items text : List ℕ) (held : Held) → Held-of (drop at items) number known ≡ held → known ≡ None → text ≡ items
      → Shows form number fault (rest_of text at)
      → (packets : List (List ℕ)) (bytes : List ℕ) → Stands form held packets bytes → Answers form packets bytes (Fault fault)
  in_found at number known fault items text held e f t shown packets bytes stands =
      at_fault (rest_of text at) number fault packets bytes shown (held_as at number known None items (rest_of text at) held packets bytes e f (rest_is text items at t) stands)

  pub behind_found : (at number : ℕ) (known : Option FrameFault) (fault : FrameFault) (items text none : List ℕ) (held : Held) → Held-of (drop at items) number known ≡ held → known ≡ None → text ≡ items
      → Shows form number fault (rest_of text at)
      → (packets : List (List ℕ)) (bytes : List ℕ) → Stands form held packets bytes → Stands form (Held-of none number (Some fault)) packets bytes
  behind_found at number known fault items text none held e f t shown packets bytes stands =
      past_fault (rest_of text at) none number fault packets bytes shown (held_as at number known None items (rest_of text at) held packets bytes e f (rest_is text items at t) stands)

  pub in_packet : (at number start end size : ℕ) (known : Option FrameFault) (items text again : List ℕ) (held : Held) (answer : Next)
      → Held-of (drop at items) number known ≡ held → known ≡ None → text ≡ items → again ≡ items
      → IsPacket (lent_of again at start end) answer
      → IsWholeFrame form number (rest_of text at) start end size
      → (packets : List (List ℕ)) (bytes : List ℕ) → Stands form held packets bytes → Answers form packets bytes answer
  in_packet at number start end size known items text again held answer e f t a is whole packets bytes stands =
      at_packet (rest_of text at) number start end size packets bytes answer
      (subst (λ (p : List ℕ). IsPacket p answer) (lent_is text items again at start end t a) is) whole
      (held_as at number known None items (rest_of text at) held packets bytes e f (rest_is text items at t) stands)

  pub behind_packet : (at number start end size : ℕ) (known : Option FrameFault) (items text again : List ℕ) (held : Held)
      → Held-of (drop at items) number known ≡ held → known ≡ None → text ≡ items → again ≡ items
      → IsWholeFrame form number (rest_of text at) start end size
      → (packets : List (List ℕ)) (bytes : List ℕ) → Stands form held packets bytes
      → Stands form (Held-of (drop (at + size) items) ((number + 1) % 4294967296) known) (packets ++ lent_of again at start end ∷ []) bytes
  behind_packet at number start end size known items text again held e f t a whole packets bytes stands =
      let past = past_packet (rest_of text at) number start end size packets bytes whole
      (held_as at number known None items (rest_of text at) held packets bytes e f (rest_is text items at t) stands) in
      let left : drop size (rest_of text at) ≡ drop (at + size) items =
      ap (drop size) (rest_is text items at t) ∙ drop-drop size at items in
      let one : Stands form (Held-of (drop (at + size) items) ((number + 1) % 4294967296) None) (packets ++ slice_range (rest_of text at) start end ∷ []) bytes =
      subst (λ (xs : List ℕ). Stands form (Held-of xs ((number + 1) % 4294967296) None) (packets ++ slice_range (rest_of text at) start end ∷ []) bytes) left past in
      let two : Stands form (Held-of (drop (at + size) items) ((number + 1) % 4294967296) known) (packets ++ slice_range (rest_of text at) start end ∷ []) bytes =
      subst (λ (x : Option FrameFault). Stands form (Held-of (drop (at + size) items) ((number + 1) % 4294967296) x) (packets ++ slice_range (rest_of text at) start end ∷ []) bytes) (sym f) one in
      subst (λ (p : List ℕ). Stands form (Held-of (drop (at + size) items) ((number + 1) % 4294967296) known) (packets ++ p ∷ []) bytes) (sym (lent_is text items again at start end t a)) two

  -- ---- pieces

  pub fresh : Stands form nothing [] []
  fresh = record { number = refl; text = record { frames = []; each = refl; whole = refl } }

  fed_held : (left : List ℕ) (number : ℕ) (fault : Option FrameFault) (packets : List (List ℕ)) (bytes piece : List ℕ)
      → Stands form (Held-of left number fault) packets bytes → Stands form (Held-of (put_behind fault left piece) number fault) packets (bytes ++ piece)
  fed_held left number None packets bytes piece stands =
      let behind : IsBehind form packets left bytes = stands.text in
      record {
        number = stands.number;
        text = record {
          frames = behind.frames;
          each = behind.each;
          whole = ap (λ (xs : List ℕ). xs ++ piece) behind.whole ∙ append_assoc behind.frames left piece;
        };
      }
  fed_held left number (Some fault) packets bytes piece stands = record {
    number = stands.number;
    text = fault_lasts form lawful packets fault bytes piece stands.text;
  }

  pub fed : (held : Held) (packets : List (List ℕ)) (bytes piece : List ℕ)
      → Stands form held packets bytes → Stands form (with_piece piece held) packets (bytes ++ piece)
  fed held = fed_held held.left held.number held.fault
