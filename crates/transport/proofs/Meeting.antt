-- A server's end meets the client's end that began.
use Rattle.std.proofs.Common.{◌≡◌, ◌≢◌, ℕ, Bool, true, List, [], ◌++◌, length-append, arith, sym, ap, subst, ◌∙◌}
use Rattle.std.proofs.lemmas.List.{take-append-le}
use Rattle.transport.specs.Directions.{through}
use Rattle.transport.specs.Forms.{IsSent, frame_of}
use Rattle.transport.specs.Starts.{IsAwaited, IsRefused, IsSentStart, Opening, Starts}
use Rattle.transport.specs.Wires.{HasBegun, HasStarted, Hears, Line, Tells}
use Rattle.transport.specs.declared.form.Form.{Form}
use Rattle.transport.specs.declared.form.Form.TheVariants as forms
use Rattle.transport.proofs.OneStart.{OneRead, NotBoth, one_start, not_awaited, not_refused}
use Rattle.transport.proofs.SentStarts.{taken}
use Rattle.transport.proofs.Starting.{same_plain, starts_on}

-- what 64 bytes tell, they tell with more behind them
pub refused_on : (bytes wire more : List ℕ) → IsRefused bytes wire → IsRefused (bytes ++ more) wire
refused_on bytes wire more r =
    record {
      enough = omega (arith, r.enough, length-append bytes more);
      first = r.first ∙ sym (take-append-le 64 bytes more r.enough);
      not_plain = same_plain bytes more (omega (arith, r.enough)) ∙ r.not_plain;
      fault = r.fault;
      none = r.none;
    }

module _ (read : OneRead) (both : NotBoth) (client : Line) (form : Form) (obfuscate : Bool) (drawn start packet more bytes later : List ℕ)
    (plain : obfuscate ≡ true → form ≢ forms.Full) (begun : HasBegun client form start) (sent : IsSentStart obfuscate form drawn start)
    (fits : IsSent form packet) (whole : bytes ++ later ≡ start ++ (through client.writing (frame_of form client.number packet) ++ more)) where
  abbrev rest : List ℕ
  rest = through client.writing (frame_of form client.number packet) ++ more

  starts_there : Starts (bytes ++ later) begun.opening rest
  starts_there = subst (λ (l : List ℕ). Starts l begun.opening rest) (sym whole) (taken client form obfuscate drawn start packet more plain begun sent fits)

  refused_never : (wire : List ℕ) → IsRefused bytes wire → ⊥
  refused_never wire refused = not_refused read both (bytes ++ later) rest wire begun.opening starts_there (refused_on bytes wire later refused)

  met : (server : Line) → (started : HasStarted server bytes)
      → (server.form ≡ client.form) × (started.rest ++ later ≡ rest) × Hears server begun.opening.up [] started.rest × Tells server begun.opening.down [] []
  met server started =
      let same = one_start read both (bytes ++ later) (started.rest ++ later) rest started.opening begun.opening
      (starts_on bytes started.opening started.rest later started.starts) starts_there in (
        started.form ∙ ap (λ (o : Opening). o.form) same.0 ∙ begun.opens ∙ sym begun.form,
        same.1,
        subst (λ (o : Opening). Hears server o.up [] started.rest) same.0 started.hears,
        subst (λ (o : Opening). Tells server o.down [] []) same.0 started.tells,
      )

pub not_awaited_there : OneRead → NotBoth → (client : Line) (form : Form) (obfuscate : Bool) (drawn start packet more bytes : List ℕ)
    → (obfuscate ≡ true → form ≢ forms.Full) → HasBegun client form start → IsSentStart obfuscate form drawn start → IsSent form packet
    → bytes ≡ start ++ (through client.writing (frame_of form client.number packet) ++ more) → IsAwaited bytes → ⊥
not_awaited_there read both client form obfuscate drawn start packet more bytes plain begun sent fits whole =
    let rest : List ℕ = through client.writing (frame_of form client.number packet) ++ more in
    not_awaited read both bytes rest begun.opening
    (subst (λ (l : List ℕ). Starts l begun.opening rest) (sym whole) (taken client form obfuscate drawn start packet more plain begun sent fits))

pub not_refused_there : OneRead → NotBoth → (client : Line) (form : Form) (obfuscate : Bool) (drawn start packet more bytes later wire : List ℕ)
    → (obfuscate ≡ true → form ≢ forms.Full) → HasBegun client form start → IsSentStart obfuscate form drawn start → IsSent form packet
    → bytes ++ later ≡ start ++ (through client.writing (frame_of form client.number packet) ++ more) → IsRefused bytes wire → ⊥
not_refused_there read both client form obfuscate drawn start packet more bytes later wire plain begun sent fits whole =
    refused_never read both client form obfuscate drawn start packet more bytes later plain begun sent fits whole wire

pub meets : OneRead → NotBoth → (client server : Line) (form : Form) (obfuscate : Bool) (drawn start packet more bytes later : List ℕ)
    → (obfuscate ≡ true → form ≢ forms.Full) → (begun : HasBegun client form start) → IsSentStart obfuscate form drawn start → IsSent form packet
    → bytes ++ later ≡ start ++ (through client.writing (frame_of form client.number packet) ++ more) → (started : HasStarted server bytes)
    → (server.form ≡ client.form) × (started.rest ++ later ≡ through client.writing (frame_of form client.number packet) ++ more)
    × Hears server begun.opening.up [] started.rest × Tells server begun.opening.down [] []
meets read both client server form obfuscate drawn start packet more bytes later plain begun sent fits whole started =
    met read both client form obfuscate drawn start packet more bytes later plain begun sent fits whole server started
