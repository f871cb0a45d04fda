-- Each event leaves a client steady.
use Rattle.std.proofs.Common.{◌≡◌, ℕ, ◌<◌, ◌≤◌, ◌^◌, ◌%◌, ◌==◌, ltb, Bool, true, false, not, cond, Option, Some, None, List, [], ◌∷◌, length, sym, refl, arith}
use Rattle.std.specs.Prelude.{is_none, option_map}
use Rattle.std.proofs.lemmas.Bool.{cond_both, eqb-true, false≢true, ltb-false}
use Rattle.octets.specs.Bytes.{IsBytes}
use Rattle.draws.specs.Draws.{word_after}
use Rattle.envelope.specs.declared.parts.Envelope.{Envelope}
use Rattle.call_table.specs.declared.call.CallNo.{CallNo}
use Rattle.call_table.specs.declared.call.Fate.{Fate}
use Rattle.call_table.specs.Table.{Call, is_sent, new_call}
use Rattle.client_rules.specs.Client.{Client, Needed, Temporary, calls_of, fresh_client}
use Rattle.client_rules.specs.Sending.{Setting}
use Rattle.client_rules.specs.Asking.{NotWords, TooLong, alone, alone_if_asked, alone_if_sent, attached, can_drop, drops, dropped, fault_at, is_asked, submit_fault, submitted}
use Rattle.client_rules.specs.Learning.{each_becomes}
use Rattle.client_rules.specs.Events.{AskSalts, Attach, Drop, End, Event, Flush, Ping, Renew, Run, Submit, Take, Tick, fate_renewed, made, renewed, step, takes, unless_fault}
use Rattle.law_packets.specs.Steady.{IsAsking, IsCall, IsFair, IsFit, IsSteady, IsTemporary}
use Rattle.law_packets.proofs.Calls.{Keeps, each-becomes, flagged-keeps, with-binding, with-call}
use Rattle.law_packets.proofs.Filled.{Laws}
use Rattle.law_packets.proofs.Flushed.{AreSized, IsPadded, flush-good}
use Rattle.law_packets.proofs.ClientLists.{rec-append, rec-map}
use Rattle.law_packets.proofs.Taken.{AreLawful, AreRead, ended-steady, take-steady}

-- ---- a call is submitted

-- what is no fault is whole words and short
record IsFaultless (body : List ℕ) : Type 0 where
  words : length body % 4 ≡ 0
  short : length body ≤ 262144

not-false : (b : Bool) → not b ≡ false → b ≡ true
not-false true is = refl
not-false false is = absurd (false≢true (sym is))

none-or : {X : Type 0} (b : Bool) (x : X) (rest : Option X) → is_none (cond b (Some x) rest) ≡ true → (b ≡ false) × (is_none rest ≡ true)
none-or true x rest is = absurd (false≢true is)
none-or false x rest is = (refl, is)

faultless : (count : ℕ) (body : List ℕ) (after : Option CallNo) → is_none (fault_at count body after) ≡ true → IsFaultless body
faultless count body after is =
    let long = none-or (ltb 262144 (length body)) (TooLong (length body)) _ is in
    let words = none-or (not (length body % 4 == 0)) (NotWords (length body)) _ long.1 in
    record { words = eqb-true (length body % 4) 0 (not-false (length body % 4 == 0) words.0); short = ltb-false 262144 (length body) long.0 }

module _ (known : ℕ → Bool) where
  abbrev Is : Client → Type 0
  Is client = IsSteady known client

  submitted-steady : (body : List ℕ) (after : Option CallNo) (client : Client) → IsBytes body → Is client → Is (unless_fault body after client)
  submitted-steady body after client bytes s =
      let new = new_call body after in
      cond_both (is_none (submit_fault body after client)) (submitted body after client) client Is
      (λ is.
      let so = faultless (length (calls_of client)) body after is in
      record {
        is_known = s.is_known;
        key = s.key;
        session = s.session;
        salt = s.salt;
        temporary = s.temporary;
        told = s.told;
        calls = rec-append IsCall (calls_of client) (new ∷ []) s.calls (record { bytes = bytes; words = so.words; short = so.short; names = tt }, tt);
      })
      (λ is. s)

  -- ---- wishes

  alone-keeps : Keeps alone_if_sent
  alone-keeps call is =
      cond_both (is_sent call.state) (alone call) call IsCall (λ so. flagged-keeps (λ (call : Call). record call.flags { alone = true }) call is) (λ so. is)

  asked-alone : (temporary : Option Temporary) → IsTemporary temporary → IsTemporary (option_map alone_if_asked temporary)
  asked-alone None is = tt
  asked-alone (Some temporary) is =
      cond_both (is_asked temporary.binding) (record temporary { is_alone = true }) temporary (λ (after : Temporary). IsAsking after.binding) (λ so. is) (λ so. is)

  attached-steady : (client : Client) → Is client → Is (attached client)
  attached-steady client s =
      record {
        is_known = s.is_known;
        key = s.key;
        session = s.session;
        salt = s.salt;
        temporary = asked-alone client.temporary s.temporary;
        told = s.told;
        calls = rec-map IsCall alone_if_sent (calls_of client) alone-keeps s.calls;
      }

  dropped-steady : (call : CallNo) (client : Client) → Is client → Is (dropped call client)
  dropped-steady call client s =
      cond_both (can_drop call client) _ client Is
      (λ is. with-call known call drops client (flagged-keeps (λ (call : Call). record call.flags { dropping = true })) s) (λ is. s)

  -- ---- another session

  renewed-steady : (session : ℕ) (client : Client) → session < 2 ^ 64 → Is client → Is (renewed session client)
  renewed-steady session client fits s =
      let fate : Call → Option Fate = λ call. fate_renewed call.state in
      let after = with-binding known Needed (each_becomes fate client) tt (each-becomes known fate client s) in
      record { is_known = after.is_known; key = after.key; session = fits; salt = omega arith; temporary = after.temporary; told = tt; calls = after.calls }

  fresh-steady : (key session : ℕ) (temporary : Option Temporary) → known key ≡ true → key < 2 ^ 64 → session < 2 ^ 64 → IsTemporary temporary → Is (fresh_client key temporary session)
  fresh-steady key session temporary is fits drawn may =
      record { is_known = is; key = fits; session = drawn; salt = omega arith; temporary = may; told = tt; calls = tt }

  module _ {S : Type 0} (laws : Laws) (sized : AreSized) (read : AreRead) (lawful : AreLawful) (setting : Setting S) (fit : IsFit setting) (padded : IsPadded setting.step) where
    pub made-steady : (key : ℕ) (temporary : Option Temporary) (draw : S) → known key ≡ true → key < 2 ^ 64 → IsTemporary temporary → Is (made setting key temporary draw).client
    made-steady key temporary draw is fits may = fresh-steady key (word_after setting.step 0 draw) temporary is fits (fit.words draw) may

    takes-steady : (now : ℕ) (opened : Option Envelope) (client : Client) → IsFair (Take now opened) → Is client → Is (takes now opened client)
    takes-steady now None client fair s = record { is_known = s.is_known; key = s.key; session = s.session; salt = s.salt; temporary = s.temporary; told = s.told; calls = s.calls }
    takes-steady now (Some envelope) client fair s = take-steady known read lawful now envelope client fair s

    pub step-steady : (run : Run S) (event : Event) → IsFair event → Is run.client → Is (step setting run event).client
    step-steady run (Submit body after) fair s = submitted-steady body after run.client fair s
    step-steady run Attach fair s = attached-steady run.client s
    step-steady run Tick fair s = record { is_known = s.is_known; key = s.key; session = s.session; salt = s.salt; temporary = s.temporary; told = s.told; calls = s.calls }
    step-steady run (Ping id) fair s = record { is_known = s.is_known; key = s.key; session = s.session; salt = s.salt; temporary = s.temporary; told = s.told; calls = s.calls }
    step-steady run (AskSalts count) fair s = record { is_known = s.is_known; key = s.key; session = s.session; salt = s.salt; temporary = s.temporary; told = s.told; calls = s.calls }
    step-steady run (Drop call) fair s = dropped-steady call run.client s
    step-steady run (Flush now) fair s = (flush-good laws sized known setting fit padded now run.client run.draw s).steady
    step-steady run (Take now opened) fair s = takes-steady now opened run.client fair s
    step-steady run Renew fair s = renewed-steady (word_after setting.step 0 run.draw) run.client (fit.words run.draw) s
    step-steady run End fair s = ended-steady known run.client s
