use Rattle.std.proofs.Common.{refl, eq-eqb, ne_eqb}
use Rattle.law_moves.proofs.Makes.{learnt_already, learnt_new, learnt_full, ended_leaves, settles, leaves_unsent, leaves_others}
use Rattle.law_moves.proofs.laws.items_make.Goals as goal

pub returns : goal.returns
returns c =
    record {
      known = learnt_already;
      new = learnt_new;
      full = learnt_full;
      ended = ended_leaves;
      settled = settles;
      unsent = leaves_unsent;
      others_stay = leaves_others;
      of_others = λ w client number state call other. rw (ne_eqb call.client client other) refl;
      settled_clients = λ w client number state. refl;
      salt_taken = λ w client salt. rw (eq-eqb client client refl) refl;
      salt_left = λ w client salt. rw (eq-eqb client client refl) refl;
      salt_calls = λ w client salt takes. refl;
    }
