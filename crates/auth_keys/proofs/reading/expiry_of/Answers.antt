use Rattle.std.proofs.Common.{◌≡◌, ◌∙◌, arith, inl, inr, sym}
use Rattle.std.proofs.lemmas.Fmt.{decimal_injective}
use Rattle.auth_keys.proofs.reading.expiry_of.Goals as goal

pub returns-then-seconds-lt1-clause-none : goal.returns-then-seconds-lt1-clause-none
returns-then-seconds-lt1-clause-none c = λ expires from_one to_latest spelled.
    let read = c.in_ok-seconds.ensures.found in
    let same : c.in_ok-seconds.seconds ≡ expires = decimal_injective c.in_ok-seconds.seconds expires read.0 (omega (arith, to_latest)) (sym read.1 ∙ spelled) in
    elim c.then-seconds-lt1.either [
      | inl low ↦ omega (arith, low, same, from_one)
      | inr high ↦ omega (arith, high.1, same, to_latest)
    ]
