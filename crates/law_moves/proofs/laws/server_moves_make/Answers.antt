use Rattle.std.proofs.Common.{refl, eq-eqb}
use Rattle.law_moves.proofs.laws.server_moves_make.Goals as goal

pub returns : goal.returns
returns c =
    record {
      make = λ w unique session. rw (eq-eqb unique unique refl) refl;
      draw = λ w unique salt. rw (eq-eqb unique unique refl) refl;
      judge = λ w unique message outcome. rw (eq-eqb unique unique refl) refl;
      forget = λ w unique number. rw (eq-eqb unique unique refl) refl;
      lose = λ w unique. rw (eq-eqb unique unique refl) refl;
      answer = λ w unique number body reply. refl;
      speak = λ w unique items. refl;
    }
