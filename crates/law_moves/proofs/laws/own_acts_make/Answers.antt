use Rattle.std.proofs.Common.{refl, eq-eqb}
use Rattle.law_moves.proofs.laws.own_acts_make.Goals as goal

pub returns : goal.returns
returns c =
    record {
      new_client = λ w client session. rw (eq-eqb client client refl) refl;
      renewed = λ w client session. rw (eq-eqb client client refl) refl;
      renewed_calls = λ w client place session. rw (eq-eqb client client refl) refl;
      submitted = λ w client body. rw (eq-eqb client client refl, eq-eqb (w.submitted client) (w.submitted client) refl) refl;
      counted = λ w client body. rw (eq-eqb client client refl) refl;
      given_up = λ w call. rw (eq-eqb call.client call.client refl, eq-eqb call.place call.place refl) refl;
      ended = λ w client. rw (eq-eqb client client refl) refl;
      ended_calls = λ w client place. rw (eq-eqb client client refl) refl;
    }
