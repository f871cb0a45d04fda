-- What the plain speller spells.
use Rattle.std.proofs.Common.{◌≡◌, ◌≢◌, ◌∙◌, ℕ, ◌+◌, ◌/◌, ◌%◌, ◌≤◌, nat_le, eqb, true, false, List, [], ◌∷◌, length, codes, All, Option, Some, None, inl, inr, subst, refl, sym, ap, arith}
use Rattle.std.specs.Fmt.{decimal}
use Rattle.std.specs.List.{list_all}
use Rattle.std.proofs.lemmas.Bool.{leb-true, and_parts, ne_eqb}
use Rattle.std.proofs.lemmas.List.Elements.{All-cons, All-nil, All-append, All-head, All-tail}
use Rattle.octets.specs.Bytes.{IsBytes}
use Rattle.hex.specs.Hex.{encode_lower}
use Rattle.hex.proofs.HexLemmas.{decode_of-encode_lower}
use Rattle.sched_text.specs.declared.event.Event.{Event}
use Rattle.sched_text.specs.declared.event.Event.TheVariants.{Client, ClientTemp, ClockAll, ClockServer, ClockClient, Call, Flush, Give, ForeignServer, ForeignClient, Work, TickServer, TickClient, AttachServer, AttachClient, Ping, Salts, DropAnswer, Renew, End, Lose, Restart}
use Rattle.sched_text.specs.Lines.{lines_of, words_of, is_left_out, numbered, Say}
use Rattle.sched_text.specs.Words.{IsNumber, IsDigit, ArePairs, IsHex}
use Rattle.sched_text.specs.Bodies.{SaysCall, IsAfter}
use Rattle.sched_text.specs.Bodies as bodies
use Rattle.sched_text.specs.Events.{IsEvent}
use Rattle.sched_text.specs.Schedule.{SaysEvent}
use Rattle.sched_text.specs.Speller.{IsCallNumber, IsInRange, AreInRange, hex_word, after_words, words_for, line_of, text_for, placed_from}
use Rattle.sched_text.proofs.Pieces.{NotBlank, lines_of-line, words_of-word, words_of-last}
use Rattle.sched_text.proofs.Hexes.{pairs_of}
use Rattle.sched_text.proofs.Meanings.{IsFigure, figures}
use Rattle.sched_text.proofs.Steps.{skip}

-- ---- bytes of words

-- neither a blank nor a newline
abbrev IsVisible : ℕ → Type 0
IsVisible byte = 33 ≤ byte

abbrev AreVisible : List (List ℕ) → Type 0
AreVisible [] = Unit {0}
AreVisible (word ∷ words) = All IsVisible word × AreVisible words

weaker : (P Q : ℕ → Type 0) → ((b : ℕ) → P b → Q b) → (xs : List ℕ) → All P xs → All Q xs
weaker P Q h [] all = All-nil Q
weaker P Q h (x ∷ xs) all = All-cons Q x xs (h x (All-head P x xs all)) (weaker P Q h xs (All-tail P x xs all))

tested : (word : List ℕ) → list_all (λ b. nat_le 33 b) word ≡ true → All IsVisible word
tested [] e = All-nil IsVisible
tested (byte ∷ word) e =
    let p = and_parts (nat_le 33 byte) (list_all (λ b. nat_le 33 b) word) e in
    All-cons IsVisible byte word (leb-true 33 byte p.0) (tested word p.1)

number_visible : (n : ℕ) → IsNumber n → All IsVisible (decimal n)
number_visible n fits = weaker IsFigure IsVisible (λ b h. let low = h.0 in omega (arith, low)) (decimal n) (figures n fits)

digit_visible : (value digit : ℕ) → IsDigit value digit → IsVisible digit
digit_visible value digit h =
    elim h [
      | inl d ↦ omega (arith, d.1)
      | inr d ↦ elim d.2 [ inl low ↦ omega (arith, d.0, low) | inr high ↦ omega (arith, d.0, high) ]
    ]

pairs_visible : (bytes word : List ℕ) → ArePairs bytes word → All IsVisible word
pairs_visible [] word e = subst (All IsVisible) (sym e) (All-nil IsVisible)
pairs_visible (byte ∷ bytes) word (a, b, rest, digit_a, digit_b, e, h) =
    subst (All IsVisible) (sym e)
    (All-cons IsVisible a (b ∷ rest) (digit_visible (byte / 16) a digit_a) (All-cons IsVisible b rest (digit_visible (byte % 16) b digit_b) (pairs_visible bytes rest h)))

hex_pairs : (byte : ℕ) (bytes : List ℕ) → IsBytes (byte ∷ bytes) → ArePairs (byte ∷ bytes) (encode_lower (byte ∷ bytes))
hex_pairs byte bytes h = pairs_of (encode_lower (byte ∷ bytes)) (byte ∷ bytes) (decode_of-encode_lower (byte ∷ bytes) h)

hex_is : (bytes : List ℕ) → IsBytes bytes → IsHex bytes (hex_word bytes)
hex_is [] h = inl (refl, refl)
hex_is (byte ∷ bytes) h = inr (omega arith, hex_pairs byte bytes h)

hex_visible : (bytes : List ℕ) → IsBytes bytes → All IsVisible (hex_word bytes)
hex_visible [] h = tested (codes "-") refl
hex_visible (byte ∷ bytes) h = pairs_visible (byte ∷ bytes) (encode_lower (byte ∷ bytes)) (hex_pairs byte bytes h)

-- ---- words of events

after_is : (after : Option ℕ) → IsCallNumber after → IsAfter after (after_words after)
after_is None h = refl
after_is (Some call) h = (h, refl)

after_visible : (after : Option ℕ) → IsCallNumber after → AreVisible (after_words after)
after_visible None h = tt
after_visible (Some call) h = (tested (codes "after") refl, (number_visible call h, tt))

words_are : (event : Event) → IsInRange event → IsEvent event (words_for event)
words_are Client h = refl
words_are ClientTemp h = refl
words_are (ClockAll at) h = (h, refl)
words_are (ClockServer at) h = (h, refl)
words_are (ClockClient client at) h = (h.0, h.1, refl)
words_are (Call client body after) h = (
  h.0,
  (
    codes "hex" ∷ hex_word body ∷ after_words after,
    record {
      front = codes "hex" ∷ hex_word body ∷ [];
      rest = after_words after;
      body_is = bodies.Hex (hex_word body, hex_is body h.1, refl);
      after_is = after_is after h.2;
      parted = refl;
    },
    refl,
  ),
)
words_are (Flush client) h = (h, refl)
words_are (Give packet) h = (h, refl)
words_are (ForeignServer bytes) h = (hex_word bytes, hex_is bytes h, refl)
words_are (ForeignClient client bytes) h = (h.0, (hex_word bytes, hex_is bytes h.1, refl))
words_are (Work job) h = (h, refl)
words_are TickServer h = refl
words_are (TickClient client) h = (h, refl)
words_are (AttachServer client) h = (h, refl)
words_are (AttachClient client) h = (h, refl)
words_are (Ping client) h = (h, refl)
words_are (Salts client count) h = (h.0, h.1, refl)
words_are (DropAnswer client call) h = (h.0, h.1, refl)
words_are (Renew client) h = (h, refl)
words_are (End client) h = (h, refl)
words_are (Lose client) h = (h, refl)
words_are Restart h = refl

small : (count : ℕ) → count ≤ 4294967295 → IsNumber count
small count h = omega (arith, h)

words_visible : (event : Event) → IsInRange event → AreVisible (words_for event)
words_visible Client h = (tested (codes "client") refl, tt)
words_visible ClientTemp h = (tested (codes "client") refl, (tested (codes "temp") refl, tt))
words_visible (ClockAll at) h = (tested (codes "clock") refl, (number_visible at h, tt))
words_visible (ClockServer at) h = (tested (codes "clock") refl, (tested (codes "server") refl, (number_visible at h, tt)))
words_visible (ClockClient client at) h = (tested (codes "clock") refl, (number_visible client h.0, (number_visible at h.1, tt)))
words_visible (Call client body after) h = (tested (codes "call") refl, (number_visible client h.0, (tested (codes "hex") refl, (hex_visible body h.1, after_visible after h.2))))
words_visible (Flush client) h = (tested (codes "flush") refl, (number_visible client h, tt))
words_visible (Give packet) h = (tested (codes "give") refl, (number_visible packet h, tt))
words_visible (ForeignServer bytes) h = (tested (codes "foreign") refl, (tested (codes "server") refl, (hex_visible bytes h, tt)))
words_visible (ForeignClient client bytes) h = (tested (codes "foreign") refl, (number_visible client h.0, (hex_visible bytes h.1, tt)))
words_visible (Work job) h = (tested (codes "work") refl, (number_visible job h, tt))
words_visible TickServer h = (tested (codes "tick") refl, (tested (codes "server") refl, tt))
words_visible (TickClient client) h = (tested (codes "tick") refl, (number_visible client h, tt))
words_visible (AttachServer client) h = (tested (codes "attach") refl, (tested (codes "server") refl, (number_visible client h, tt)))
words_visible (AttachClient client) h = (tested (codes "attach") refl, (number_visible client h, tt))
words_visible (Ping client) h = (tested (codes "ping") refl, (number_visible client h, tt))
words_visible (Salts client count) h = (tested (codes "salts") refl, (number_visible client h.0, (number_visible count (small count h.1), tt)))
words_visible (DropAnswer client call) h = (tested (codes "drop") refl, (number_visible client h.0, (number_visible call h.1, tt)))
words_visible (Renew client) h = (tested (codes "renew") refl, (number_visible client h, tt))
words_visible (End client) h = (tested (codes "end") refl, (number_visible client h, tt))
words_visible (Lose client) h = (tested (codes "lose") refl, (number_visible client h, tt))
words_visible Restart h = (tested (codes "restart") refl, tt)

kept_in : (event : Event) → is_left_out (line_of (words_for event)) ≡ false
kept_in Client = refl
kept_in ClientTemp = refl
kept_in (ClockAll at) = refl
kept_in (ClockServer at) = refl
kept_in (ClockClient client at) = refl
kept_in (Call client body after) = refl
kept_in (Flush client) = refl
kept_in (Give packet) = refl
kept_in (ForeignServer bytes) = refl
kept_in (ForeignClient client bytes) = refl
kept_in (Work job) = refl
kept_in TickServer = refl
kept_in (TickClient client) = refl
kept_in (AttachServer client) = refl
kept_in (AttachClient client) = refl
kept_in (Ping client) = refl
kept_in (Salts client count) = refl
kept_in (DropAnswer client call) = refl
kept_in (Renew client) = refl
kept_in (End client) = refl
kept_in (Lose client) = refl
kept_in Restart = refl

-- ---- lines

no_blank : (word : List ℕ) → All IsVisible word → All NotBlank word
no_blank word = weaker IsVisible NotBlank
    (λ b h.
    let no_space : eqb b 32 ≡ false = ne_eqb b 32 (λ e. omega (arith, h, e)) in
    let no_tab : eqb b 9 ≡ false = ne_eqb b 9 (λ e. omega (arith, h, e)) in
    rw (no_space, no_tab) refl)
    word

-- the words of a line made of words
words_again : (word : List ℕ) (words : List (List ℕ)) → AreVisible (word ∷ words) → words_of (line_of (word ∷ words)) ≡ word ∷ words
words_again word [] h = words_of-last word (no_blank word h.0)
words_again word (next ∷ words) h = words_of-word word 32 (line_of (next ∷ words)) (no_blank word h.0) refl ∙ ap (λ ws. word ∷ ws) (words_again next words h.1)

abbrev IsOfLine : ℕ → Type 0
IsOfLine byte = 32 ≤ byte

line_visible : (words : List (List ℕ)) → AreVisible words → All IsOfLine (line_of words)
line_visible [] h = All-nil IsOfLine
line_visible (word ∷ []) h = weaker IsVisible IsOfLine (λ b v. omega (arith, v)) word h.0
line_visible (word ∷ next ∷ words) h =
    All-append IsOfLine word (32 ∷ line_of (next ∷ words)) (weaker IsVisible IsOfLine (λ b v. omega (arith, v)) word h.0)
    (All-cons IsOfLine 32 (line_of (next ∷ words)) (omega arith) (line_visible (next ∷ words) h.1))

no_newline : (words : List (List ℕ)) → AreVisible words → All (λ b. b ≢ 10) (line_of words)
no_newline words h = weaker IsOfLine (λ b. b ≢ 10) (λ b v e. omega (arith, v, e)) (line_of words) (line_visible words h)

again : (words : List (List ℕ)) → (length words ≡ 0 → ⊥) → AreVisible words → words_of (line_of words) ≡ words
again [] some h = absurd (some refl)
again (word ∷ words) some h = words_again word words h

event_again : (event : Event) → IsInRange event → (length (words_for event) ≡ 0 → ⊥) → IsEvent event (words_of (line_of (words_for event)))
event_again event h some = subst (IsEvent event) (sym (again (words_for event) some (words_visible event h))) (words_are event h)

some_words : (event : Event) → length (words_for event) ≡ 0 → ⊥
some_words Client e = cc
some_words ClientTemp e = cc
some_words (ClockAll at) e = cc
some_words (ClockServer at) e = cc
some_words (ClockClient client at) e = cc
some_words (Call client body after) e = cc
some_words (Flush client) e = cc
some_words (Give packet) e = cc
some_words (ForeignServer bytes) e = cc
some_words (ForeignClient client bytes) e = cc
some_words (Work job) e = cc
some_words TickServer e = cc
some_words (TickClient client) e = cc
some_words (AttachServer client) e = cc
some_words (AttachClient client) e = cc
some_words (Ping client) e = cc
some_words (Salts client count) e = cc
some_words (DropAnswer client call) e = cc
some_words (Renew client) e = cc
some_words (End client) e = cc
some_words (Lose client) e = cc
some_words Restart e = cc

pub text_says : (number : ℕ) (events : List Event) → AreInRange events → Say SaysEvent (numbered number (lines_of (text_for events))) (placed_from number events)
text_says number [] h = tt
text_says number (event ∷ events) h =
    subst (λ lines. Say SaysEvent (numbered number lines) (placed_from number (event ∷ events)))
    (sym (lines_of-line (line_of (words_for event)) (text_for events) (no_newline (words_for event) (words_visible event h.0))))
    (subst (λ lines. Say SaysEvent lines (placed_from number (event ∷ events)))
    (sym (skip (is_left_out (line_of (words_for event))) _ _ _ (kept_in event) refl))
    ((refl, event_again event h.0 (some_words event)), text_says (number + 1) events h.1))
