use Rattle.std.proofs.Common.{◌∙◌, ◌<◌, ◌^◌, ap, sym, refl, arith}
use Rattle.std.specs.Result.{result_ok}
use Rattle.commands.specs.Values.{id_text}
use Rattle.commands.proofs.Numbers.{if_other, if_same, alike, differs, on_ok}
use Rattle.commands.proofs.Ids.{filled, id_text-bytes, read_back}
use Rattle.commands.proofs.values.id_of.Goals as goal

pub returns-in_err-ok-clause-none : goal.returns-in_err-ok-clause-none
returns-in_err-ok-clause-none c =
    rw c.from_residual.ensures (λ id fits e.
    let read = ap result_ok (filled tt c.args.text.now _ c.decode_to_slice.result c.decode_to_slice.new.out id refl e c.decode_to_slice.ensures.value).0 in
    let none = c.in_err-ok.ensures.value in cc)

pub returns-clause-found : goal.returns-clause-found
returns-clause-found c =
    let id = c.from_le_bytes-id.result in
    let fits : id < 2 ^ 64 = omega arith in
    let written = on_ok c.encode_to_slice.result _ _ c.encode_to_slice.ensures.written c.in_ok-ok-2.ensures.value in
    if_same c.eq.result id _ _ c.then_some.ensures (λ same.
    (fits, sym (c.as_bytes.ensures.value) ∙ (sym (alike c.eq.result c.as_slice.result.now c.as_bytes.result.now c.eq.ensures same) ∙ (c.as_slice.ensures ∙ (written ∙ id_text-bytes id c.to_le_bytes.result c.to_le_bytes.ensures)))))

pub returns-clause-none : goal.returns-clause-none
returns-clause-none c =
    let id = c.from_le_bytes-id.result in
    let written = on_ok c.encode_to_slice.result _ _ c.encode_to_slice.ensures.written c.in_ok-ok-2.ensures.value in
    if_other c.eq.result id _ _ c.then_some.ensures (λ other given fits e.
    let read = (filled tt c.args.text.now _ c.decode_to_slice.result c.decode_to_slice.new.out given refl e c.decode_to_slice.ensures.value).1 in
    let same = read_back c.decode_to_slice.new.out id given fits read c.from_le_bytes-id.ensures in
    differs c.eq.result c.as_slice.result.now c.as_bytes.result.now c.eq.ensures other
    (c.as_slice.ensures ∙ (written ∙ (id_text-bytes id c.to_le_bytes.result c.to_le_bytes.ensures ∙ (ap id_text same ∙ (sym e ∙ sym c.as_bytes.ensures.value))))))
