use Rattle.std.proofs.Common.{refl, eq-eqb}
use Rattle.law_moves.proofs.Makes.{first_others}
use Rattle.law_moves.proofs.laws.parts_make.Goals as goal

pub returns : goal.returns
returns c =
    record {
      sent = λ w client parts. refl;
      no_part = λ w client. refl;
      each_part = λ w client part parts. refl;
      first_message = λ w client place number. refl;
      first_call = λ w client place number. rw (eq-eqb client client refl, eq-eqb place place refl) refl;
      first_others = first_others;
      again = λ w client place number. refl;
      again_calls = λ w client place number. refl;
      other = λ w client number. refl;
      other_again = λ w client number. refl;
    }
