-- Both ends of a connection, each with all bytes that went over it.
use Rattle.std.proofs.Common.{◌≡◌, ◌≢◌, ℕ, Bool, true, List, [], ◌∷◌, ◌++◌, append-nil, length, take, drop, Option, Some, refl, sym, ap, ap₂, subst, ◌∙◌}
use Rattle.std.proofs.lemmas.List.{take_at, drop_at}
use Rattle.cipher_modes.specs.CounterMode.{CtrState}
use Rattle.framing.specs.Holding.{Answers, IsMore, IsPacket, taken}
use Rattle.framing.specs.declared.next.Next.{Next}
use Rattle.framing.specs.declared.next.Next.TheVariants.{Packet, More, Fault}
use Rattle.transport.specs.Directions.{through}
use Rattle.transport.specs.Forms.{IsSent, frame_of, framing_of}
use Rattle.transport.specs.Steps.{IfFramed}
use Rattle.transport.specs.declared.wire.RawStep.{RawStep}
use Rattle.transport.specs.declared.wire.RawStep.TheVariants as steps
use Rattle.transport.specs.Starts.{IsRefused, IsSentStart, Opening, Starts}
use Rattle.transport.specs.Wires.{HasBegun, HasStarted, Hears, Line, Tells}
use Rattle.transport.specs.Ends.{Sends, Takes, packet_of}
use Rattle.transport.specs.declared.form.Form.{Form}
use Rattle.transport.specs.declared.form.Form.TheVariants as forms
use Rattle.transport.proofs.OneStart.{OneRead, NotBoth, one_start, not_refused}
use Rattle.transport.proofs.Hearing.{PiecesEqualTheWhole}
use Rattle.transport.proofs.InOrder.{Apart, Lasts, in_order, next_is, no_more}
use Rattle.transport.proofs.Meeting.{refused_on}
use Rattle.transport.proofs.SentStarts.{taken as start_taken}
use Rattle.transport.proofs.Starting.{starts_on}

-- a frame that was put behind a text and enciphered there
pub enciphered : (out front slice framed text : List ℕ) (before after : Option CtrState) → slice ≡ out → framed ≡ out ++ front → after ≡ before
    → text ≡ take (length slice) framed ++ through after (drop (length slice) framed) → text ≡ out ++ through before front
enciphered out front slice framed text before after is appended same whole =
    let at : length slice ≡ length out = ap length is in
    let head : take (length slice) framed ≡ out = ap (λ (n : ℕ). take n framed) at ∙ ap (take (length out)) appended ∙ take_at out front (length out) refl in
    let tail : drop (length slice) framed ≡ front = ap (λ (n : ℕ). drop n framed) at ∙ ap (drop (length out)) appended ∙ drop_at out front (length out) refl in
    whole ∙ ap₂ (λ (l m : List ℕ). l ++ m) head (ap₂ (λ (s : Option CtrState) (l : List ℕ). through s l) same tail)

-- what one end tells with this packet behind what it told
abbrev pub TellsOn : Line → Line → List ℕ → List ℕ → Type 0
TellsOn old new packet frame = (to : Option CtrState) (packets : List (List ℕ)) (bytes : List ℕ)
    → Tells old to packets bytes → Tells new to (packets ++ packet ∷ []) (bytes ++ frame)

pub begins : (old new : Line) (form : Form) (obfuscate : Bool) (drawn packet before after : List ℕ)
    → (obfuscate ≡ true → form ≢ forms.Full) → HasBegun old form before → IsSentStart obfuscate form drawn before → IsSent old.form packet
    → TellsOn old new packet (through old.writing (frame_of old.form old.number packet)) → new.form ≡ old.form
    → after ≡ before ++ through old.writing (frame_of old.form old.number packet) → Sends new (packet ∷ []) after
begins old new form obfuscate drawn packet before after plain begun sent fits tells same whole =
    let frame : List ℕ = through old.writing (frame_of old.form old.number packet) in
    let fits_form : IsSent form packet = subst (λ (f : Form). IsSent f packet) begun.form fits in
    let frames : through old.writing (frame_of form old.number packet) ++ [] ≡ frame =
    append-nil (through old.writing (frame_of form old.number packet))
    ∙ ap (λ (f : Form). through old.writing (frame_of f old.number packet)) (sym begun.form) in
    let starts : Starts (before ++ frame) begun.opening frame =
    subst (λ (l : List ℕ). Starts (before ++ l) begun.opening l) frames
    (start_taken old form obfuscate drawn before packet [] plain begun sent fits_form) in
    record {
      opening = begun.opening;
      rest = frame;
      starts = subst (λ (l : List ℕ). Starts l begun.opening frame) (sym whole) starts;
      form = same ∙ begun.form ∙ sym begun.opens;
      tells = tells begun.opening.up [] [] begun.tells;
    }

pub sends_on : (old new : Line) (packets more : List (List ℕ)) (packet frame before after : List ℕ) → TellsOn old new packet frame
    → new.form ≡ old.form → after ≡ before ++ frame → Sends old packets before → more ≡ packets ++ packet ∷ [] → Sends new more after
sends_on old new packets more packet frame before after tells same whole sends is =
    subst (λ (l : List (List ℕ)). Sends new l after) (sym is) (record {
      opening = sends.opening;
      rest = sends.rest ++ frame;
      starts = subst (λ (l : List ℕ). Starts l sends.opening (sends.rest ++ frame)) (sym whole)
          (starts_on before sends.opening sends.rest frame sends.starts);
      form = same ∙ sends.form;
      tells = tells sends.opening.up packets sends.rest sends.tells;
    })

-- a server's end that knows its form has lent none yet
pub takes_first : (bytes : List ℕ) (step : RawStep) → IfFramed step (λ wire. HasStarted wire bytes) → IfFramed step (λ wire. Takes wire [] bytes)
takes_first bytes (steps.Raw wire) started = tt
takes_first bytes (steps.Framed wire) started =
    record { opening = started.opening; rest = started.rest; starts = started.starts; form = started.form; hears = started.hears }
takes_first bytes (steps.Start found) started = tt
takes_first bytes (steps.Memory wire) started = tt

pub takes_on : (old new : Line) (packets : List (List ℕ)) (bytes piece : List ℕ)
    → ((from : Option CtrState) (heard : List (List ℕ)) (text : List ℕ) → Hears old from heard text → Hears new from heard (text ++ piece))
    → new.form ≡ old.form → Takes old packets bytes → Takes new packets (bytes ++ piece)
takes_on old new packets bytes piece hears same takes =
    record {
      opening = takes.opening;
      rest = takes.rest ++ piece;
      starts = starts_on bytes takes.opening takes.rest piece takes.starts;
      form = same ∙ takes.form;
      hears = hears takes.opening.up packets takes.rest takes.hears;
    }

pub takes_past : (old new : Line) (packets : List (List ℕ)) (bytes : List ℕ) (answer : Next)
    → ((from : Option CtrState) (heard : List (List ℕ)) (text : List ℕ) → Hears old from heard text → Hears new from (taken heard answer) text)
    → new.form ≡ old.form → Takes old packets bytes → Takes new (taken packets answer) bytes
takes_past old new packets bytes answer hears same takes =
    record {
      opening = takes.opening;
      rest = takes.rest;
      starts = takes.starts;
      form = same ∙ takes.form;
      hears = hears takes.opening.up packets takes.rest takes.hears;
    }

pub never_refused : OneRead → NotBoth → (client : Line) (sent : List (List ℕ)) (bytes later wire : List ℕ)
    → Sends client sent (bytes ++ later) → IsRefused bytes wire → ⊥
never_refused read both client sent bytes later wire sends refused =
    not_refused read both (bytes ++ later) sends.rest wire sends.opening sends.starts (refused_on bytes wire later refused)

lent_is : (packet : List ℕ) (answer : Next) → IsPacket packet answer → packet_of answer ≡ Some packet
lent_is packet (Packet lent) is = ap (λ (l : List ℕ). Some l) is
lent_is packet More is = absurd is
lent_is packet (Fault fault) is = absurd is

-- what the two ends are to one another: their stream, and the packets that are left
module _ (pieces : PiecesEqualTheWhole) (apart : Apart) (lasts : Lasts) (read : OneRead) (both : NotBoth) (client server : Line)
    (sent heard : List (List ℕ)) (bytes : List ℕ) (answer : Next) (sends : Sends client sent bytes) (takes : Takes server heard bytes)
    (answers : (from : Option CtrState) (packets : List (List ℕ)) (text : List ℕ) → Hears server from packets text
    → Answers (framing_of server.form) packets (through from text) answer) where
  same : (sends.opening ≡ takes.opening) × (sends.rest ≡ takes.rest)
  same = one_start read both bytes sends.rest takes.rest sends.opening takes.opening sends.starts takes.starts

  tells : Tells client takes.opening.up sent takes.rest
  tells = subst (λ (l : List ℕ). Tells client takes.opening.up sent l) same.1
      (subst (λ (o : Opening). Tells client o.up sent sends.rest) same.0 sends.tells)

  form : client.form ≡ server.form
  form = sends.form ∙ ap (λ (o : Opening). o.form) same.0 ∙ sym takes.form

  split : (left : List (List ℕ)) × (sent ≡ heard ++ left)
  split = (in_order pieces apart lasts client server takes.opening.up sent heard takes.rest [] form
      (subst (λ (l : List ℕ). Tells client takes.opening.up sent l) (sym (append-nil takes.rest)) tells) takes.hears).1

  behind : (left : List (List ℕ)) → drop (length heard) sent ≡ left → sent ≡ heard ++ left
  behind left rest =
      split.1 ∙ ap (λ (l : List (List ℕ)). heard ++ l)
      (sym (drop_at heard split.0 (length heard) refl) ∙ sym (ap (λ (l : List (List ℕ)). drop (length heard) l) split.1) ∙ rest)

  pub next_sent : (left : List (List ℕ)) (packet : List ℕ) → drop (length heard) sent ≡ packet ∷ left → packet_of answer ≡ Some packet
  next_sent left packet rest =
      lent_is packet answer (next_is client server takes.opening.up heard left packet takes.rest answer form
      (subst (λ (l : List (List ℕ)). Tells client takes.opening.up l takes.rest) (behind (packet ∷ left) rest) tells)
      (answers takes.opening.up heard takes.rest takes.hears))

  pub none_sent : drop (length heard) sent ≡ [] → IsMore answer
  none_sent rest =
      no_more client server takes.opening.up heard takes.rest answer form
      (subst (λ (l : List (List ℕ)). Tells client takes.opening.up l takes.rest) (behind [] rest ∙ append-nil heard) tells)
      (answers takes.opening.up heard takes.rest takes.hears)
