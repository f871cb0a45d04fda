use Rattle.std.proofs.Common.{refl, eq-eqb, ne_eqb}
use Rattle.law_moves.proofs.Makes.{learnt_unsent}
use Rattle.law_moves.proofs.laws.what_is_learnt_makes.Goals as goal

pub returns : goal.returns
returns c =
    record {
      learnt_client = λ w client unique salt. rw (eq-eqb client client refl) refl;
      learnt_calls = λ w client unique salt call mine sent. rw (eq-eqb call.client client mine, sent) refl;
      unsent = learnt_unsent;
      of_others = λ w client unique salt call other. rw (ne_eqb call.client client other) refl;
      unsalted = λ learnt salts salt under_none. rw under_none refl;
      salted = λ salts salt under_some under_it. rw (under_some, under_it) refl;
      salted_else = λ salts salt under_some under_another. rw (under_some, under_another) refl;
      learnt_before = λ unique learnt salts salt under_some. rw under_some refl;
    }
