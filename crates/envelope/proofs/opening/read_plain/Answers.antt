use Rattle.std.proofs.Common.{◌≡◌, ◌%◌, ◌∙◌, ℕ, List, ap, subst, arith, length, take, drop}
use Rattle.byteorder.specs.Endian.{little_number}
use Rattle.envelope.specs.Opening.{length_said}
use Rattle.envelope.proofs.PlainTexts.{read_fields}
use Rattle.envelope.proofs.opening.read_plain.Goals as goal

pub returns-clause-envelope : goal.returns-clause-envelope
returns-clause-envelope c =
    let plain = c.args.text in
    let shown : c.as_slice-plain.result.now ≡ plain = c.as_slice-plain.ensures.value in
    let long : length c.as_slice-plain.result.now ≡ length plain = ap length shown in
    let said_is : c.int_at-said.result ≡ length_said plain = c.int_at-said.ensures ∙ ap length_said shown in
    let words : c.int_at-said.result % 4 ≡ 0 = omega arith in (
      read_fields c.args.key c.long_at.result c.long_at-2.result c.long_at-3.result c.int_at.result c.body_of.result plain
          (c.long_at.ensures ∙ ap (λ (t : List ℕ). little_number 8 t) shown)
          (c.long_at-2.ensures ∙ ap (λ (t : List ℕ). little_number 8 (drop 8 t)) shown)
          (c.long_at-3.ensures ∙ ap (λ (t : List ℕ). little_number 8 (drop 16 t)) shown)
          (c.int_at.ensures ∙ ap (λ (t : List ℕ). little_number 4 (drop 24 t)) shown)
          (c.body_of.ensures ∙ ap (λ (n : ℕ). take n (drop 32 plain)) said_is),
      record {
        body = record { words = subst (λ (n : ℕ). n % 4 ≡ 0) said_is words; within = omega (arith, said_is, long) };
        padding = record { least = omega (arith, said_is, long); most = omega (arith, said_is, long) };
      },
    )
