use Rattle.std.proofs.Common.{refl, ne_eqb}
use Rattle.law_moves.proofs.Makes.{heard_by_ended}
use Rattle.law_moves.proofs.laws.packets_make.Goals as goal

pub returns : goal.returns
returns c =
    record {
      heard = λ w client packet takes. refl;
      no_item = λ w client takes. refl;
      each_item = λ w client item items take takes. refl;
      each_other = λ w client item items. refl;
      left = heard_by_ended;
      taken = λ w client item takes not_ended. rw not_ended refl;
      item_new = λ w client unique salt takes. refl;
      item_result = λ w client number reply takes. refl;
      item_notice = λ w client number code takes. refl;
      item_wrong_salt = λ w client number salt takes. refl;
      noticed_again = (refl, refl);
      noticed_high = refl;
      noticed_old = refl;
      noticed_other = λ code not_low not_salt not_high not_old.
          rw (ne_eqb code 16 not_low, ne_eqb code 48 not_salt, ne_eqb code 17 not_high, ne_eqb code 20 not_old) refl;
    }
