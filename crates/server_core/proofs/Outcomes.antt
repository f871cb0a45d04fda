-- What holds whatever comes out.
use Rattle.std.specs.Prelude.{OnOk, Result, Ok, Err}

pub on-ok-each : {T E J : Type 0} (A B : J → Type 0) (r : Result T E) → ((job : J) → A job → OnOk r (B job)) → OnOk r ((job : J) → A job → B job)
on-ok-each A B (Ok x) each = each
on-ok-each A B (Err e) each = tt
