-- A wire that has just begun.
use Rattle.std.proofs.Common.{◌≡◌, ℕ, ◌++◌, List, [], length, refl, sym, ap, subst, arith, inl, inr, ◌∙◌, Option, None, Some, false}
use Rattle.std.specs.Prelude.{OnOk, Ok, Err}
use Rattle.std.specs.Result.{is_err}
use Rattle.std.specs.declared.result.Result.{Result}
use Rattle.cipher_modes.specs.CounterMode.{CtrState, advanced}
use Rattle.obfus.specs.Starts.{begins_plain}
use Rattle.obfus.specs.Streams.{up_stream, down_stream}
use Rattle.obfus.specs.Reads.{Reads}
use Rattle.obfus.specs.declared.init.Pair.{Pair}
use Rattle.obfus.specs.declared.tag.Tag.{Tag}
use Rattle.transport.specs.Starts.{plain, obfuscated, form_of_tag, start_of}
use Rattle.transport.proofs.Starting.{up_stands, down_stands, same_plain}
use Rattle.framing.specs.Held.{nothing}
use Rattle.framing.specs.Holding.{Stands}
use Rattle.transport.specs.Forms.{framing_of}
use Rattle.transport.specs.Directions.{through, behind}
use Rattle.transport.specs.Wires.{Line, Hears, Tells, HasBegun, IsNumbered}
use Rattle.transport.specs.declared.form.Form.{Form}
use Rattle.transport.specs.declared.form.Form.TheVariants.{Abridged, Intermediate, Padded, Full}

pub on_ok_get : {T E : Type 0} {P : Type 0} (r : Result T E) → is_err r ≡ false → OnOk r P → P
on_ok_get (Ok x) is p = p
on_ok_get (Err e) is p = absurd (cc)

through-nil : (stream : Option CtrState) → through stream [] ≡ []
through-nil None = refl
through-nil (Some s) = refl

first_number : (form : Form) → IsNumbered form 0 0
first_number Abridged = tt
first_number Intermediate = tt
first_number Padded = tt
first_number Full = refl

pub begun : ((form : Form) → Stands (framing_of form) nothing [] []) → (form : Form) (up down : Option CtrState) → behind up 0 ≡ up
    → (line : Line) → line ≡ record { form = form; held = nothing; reading = up; writing = down; number = 0 } → Hears line up [] []
begun fresh form up down stands line is =
    subst (λ (l : Line). Hears l up [] []) (sym is) (record {
      stands = subst (λ (t : List ℕ). Stands (framing_of form) nothing [] t) (sym (through-nil up)) (fresh form);
      place = sym stands;
    })

pub begun_out : (line : Line) (down : Option CtrState) → line.writing ≡ down → line.number ≡ 0 → behind down 0 ≡ down → Tells line down [] []
begun_out line down writing number stands = record {
  frames = through-nil down;
  number = subst (λ (n : ℕ). IsNumbered line.form n 0) (sym number) (first_number line.form);
  place = writing ∙ sym stands;
}

-- a client's end that isn't obfuscated
pub plain_begun : ((form : Form) → Stands (framing_of form) nothing [] []) → (form : Form) (line : Line) (start : List ℕ)
    → line ≡ record { form = form; held = nothing; reading = None; writing = None; number = 0 } → start ≡ start_of form → HasBegun line form start
plain_begun fresh form line start is bytes = record {
  opening = plain form;
  opens = refl;
  form = ap (λ (l : Line). l.form) is;
  hears = begun fresh form None None refl line is;
  tells = begun_out line None (ap (λ (l : Line). l.writing) is) (ap (λ (l : Line). l.number) is) refl;
  starts = λ rest told. inl (record { form = form; whole = ap (λ (l : List ℕ). l ++ rest) bytes; told = told; opens = refl });
}

-- and one that is
pub obfuscated_begun : ((form : Form) → Stands (framing_of form) nothing [] []) → (form : Form) (tag : Tag) (line : Line)
    (wire start plain : List ℕ) (dc : ℕ) (up down : CtrState)
    → line ≡ record { form = form; held = nothing; reading = Some down; writing = Some up; number = 0 } → form_of_tag tag ≡ form → start ≡ wire
    → length wire ≡ 64 → begins_plain wire ≡ false → up ≡ up_stream None plain 64 → down ≡ down_stream None plain 0
    → Reads None wire (record { tag = tag; dc = dc; up = up; down = down }) → HasBegun line form start
obfuscated_begun fresh form tag line wire start plain dc up down is names bytes size other up_is down_is reads =
    let pair : Pair = record { tag = tag; dc = dc; up = up; down = down } in
    let some : CtrState → Option CtrState = λ (t : CtrState). Some t in
    let stands : CtrState → Type 0 = λ (t : CtrState). advanced t 0 ≡ t in
    let up_rests : advanced up 0 ≡ up = subst stands (sym up_is) (up_stands plain) in
    let down_rests : advanced down 0 ≡ down = subst stands (sym down_is) (down_stands plain) in
    record {
      opening = obfuscated pair;
      opens = names;
      form = ap (λ (l : Line). l.form) is;
      hears = begun fresh form (Some down) (Some up) (ap some down_rests) line is;
      tells = begun_out line (Some up) (ap (λ (l : Line). l.writing) is) (ap (λ (l : Line). l.number) is) (ap some up_rests);
      starts = λ rest told. inr (record {
        wire = wire;
        pair = pair;
        size = size;
        whole = ap (λ (l : List ℕ). l ++ rest) bytes;
        not_plain = ap (λ (l : List ℕ). begins_plain (l ++ rest)) bytes ∙ same_plain wire rest (omega arith) ∙ other;
        reads = reads;
        opens = refl;
      });
    }
