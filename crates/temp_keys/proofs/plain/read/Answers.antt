use Rattle.std.proofs.Common.{◌∙◌, ℕ, List, take, drop, ap, sym, arith}
use Rattle.temp_keys.specs.Messages.{int}
use Rattle.temp_keys.proofs.TextLemmas.{int-one, seq-part, length-part, constructor-part, plain-from_parts}
use Rattle.temp_keys.proofs.plain.read.Goals as goal
use Rattle.temp_keys.proofs.plain.read.Goals.{then-int_at-ne0-via-then-int_at-ne0, then-int_at-ne0-via-else-int_at-ne0+then-int_at-ne-INNER_BYTES, then-int_at-ne0-via-else-int_at-ne0+else-int_at-ne-INNER_BYTES+then-int_at-ne-BIND_AUTH_KEY_INNER}

pub returns-then-int_at-ne0-clause-none : goal.returns-then-int_at-ne0-clause-none
returns-then-int_at-ne0-clause-none c = λ random padding number inner sixteen e. elim c.then-int_at-ne0.branch [
  | then-int_at-ne0-via-then-int_at-ne0 w ↦
      w.if-int_at-ne0.true (int-one c.int_at.result 0 c.int_at.ensures.fits (omega arith) (c.int_at.ensures.value ∙ (ap (λ (p : List ℕ). take 4 (drop 24 p)) e ∙ seq-part random number inner padding sixteen)))
  | then-int_at-ne0-via-else-int_at-ne0+then-int_at-ne-INNER_BYTES w ↦
      let read = w.int_at-else-int_at-ne0 in
      w.if-int_at-ne-INNER_BYTES.true (int-one read.result 40 read.ensures.fits (omega arith) (read.ensures.value ∙ (ap (λ (p : List ℕ). take 4 (drop 28 p)) e ∙ length-part random number inner padding sixteen)))
  | then-int_at-ne0-via-else-int_at-ne0+else-int_at-ne-INNER_BYTES+then-int_at-ne-BIND_AUTH_KEY_INNER w ↦
      let read = w.int_at-else-int_at-ne-INNER_BYTES in
      w.if-int_at-ne-BIND_AUTH_KEY_INNER.true (int-one read.result 0x75a3f765 read.ensures.fits (omega arith) (read.ensures.value ∙ (ap (λ (p : List ℕ). take 4 (drop 32 p)) e ∙ constructor-part random number inner padding sixteen)))
]

pub returns-clause-found : goal.returns-clause-found
returns-clause-found c =
    plain-from_parts c.args.plain.now c.long_at-number.result (record { nonce = c.long_at.result; temp = c.long_at-2.result; perm = c.long_at-3.result; session = c.long_at-4.result; expires = c.int_at-2.result })
    c.long_at-number.ensures.value
    (sym (ap int c.if-int_at-ne0.false) ∙ c.int_at.ensures.value)
    (sym (ap int c.if-int_at-ne-INNER_BYTES.false) ∙ c.int_at-else-int_at-ne0.ensures.value)
    (sym (ap int c.if-int_at-ne-BIND_AUTH_KEY_INNER.false) ∙ c.int_at-else-int_at-ne-INNER_BYTES.ensures.value)
    c.long_at.ensures.value c.long_at-2.ensures.value c.long_at-3.ensures.value c.long_at-4.ensures.value c.int_at-2.ensures.value
