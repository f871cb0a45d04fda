use Rattle.std.proofs.Common.{ℕ, List, sym, ap, subst, ◌∙◌, arith, inr, None, Some}
use Rattle.std.proofs.lemmas.List.{take_all}
use Rattle.obfus.specs.Reads.{Reads, IsFaultOf}
use Rattle.transport.specs.Starts.{Opening}
use Rattle.transport.specs.declared.form.Form.{Form}
use Rattle.transport.proofs.Starting.{unplain, all_of}
use Rattle.transport.proofs.start.look_at.Goals as goal

pub returns-in-Ok : goal.returns-in-Ok
returns-in-Ok c =
    let bytes : List ℕ = c.args.bytes.now in (
      omega arith,
      inr (record {
        wire = bytes;
        pair = c.in-Ok.pair;
        size = omega arith;
        whole = all_of bytes c.requires;
        not_plain = unplain bytes
            (sym c.starts_with.ensures.value ∙ c.if-starts_with.false) (sym c.starts_with-2.ensures.value ∙ c.if-starts_with-2.false)
            (sym c.starts_with-3.ensures.value ∙ c.if-starts_with-3.false) (sym c.begins_full.ensures ∙ c.if-begins_full.false);
        reads = subst (λ (l : List ℕ). Reads None l c.in-Ok.pair) c.copy_from_slice.ensures.after c.in-Ok.ensures.pair;
        opens = ap (λ (f : Form). let o : Opening = record { form = f; up = Some c.in-Ok.pair.up; down = Some c.in-Ok.pair.down } in o) c.form_of_tag.ensures.named;
      }),
    )

pub returns-in-Err : goal.returns-in-Err
returns-in-Err c =
    let bytes : List ℕ = c.args.bytes.now in
    record {
      enough = omega arith;
      first = sym (take_all 64 bytes c.requires);
      not_plain = unplain bytes
          (sym c.starts_with.ensures.value ∙ c.if-starts_with.false) (sym c.starts_with-2.ensures.value ∙ c.if-starts_with-2.false)
          (sym c.starts_with-3.ensures.value ∙ c.if-starts_with-3.false) (sym c.begins_full.ensures ∙ c.if-begins_full.false);
      fault = c.in-Err._fault;
      none = subst (λ (l : List ℕ). IsFaultOf None l c.in-Err._fault) c.copy_from_slice.ensures.after c.in-Err.ensures.fault;
    }
