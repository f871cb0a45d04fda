use Rattle.std.proofs.Common.{◌≡◌, List, ℕ, [], ◌∷◌, ◌++◌, refl, ap, subst}
use Rattle.framing.specs.Streams.{Begins}
use Rattle.framing.specs.Holding.{Answers, IsPacket, taken}
use Rattle.frame_len.specs.Lengths.{form_of}
use Rattle.frame_len.specs.Reading.{Reading, StandsFor}
use Rattle.frame_len.proofs.Standing.{stands_of, stands_for}
use Rattle.frame_len.proofs.deframer.Deframer.next.Goals as goal

pub returns : goal.returns
returns c =
    let after = c.next.follows.holds-at-none in
    let kept : c.self.inside.padded ≡ c.args.self.now.padded = ap (λ (r : Reading). r.padded) c.self.view_is in (
      (
        refl,
        (λ _. tt),
        (
          subst (λ (r : Reading). (packets : List (List ℕ)) (bytes : List ℕ) → StandsFor r packets bytes
              → StandsFor (record { padded = c.self.inside.padded; stream = c.next.follows.lender-at-none }) (taken packets c.next.result) bytes)
              c.self.view_is (λ packets bytes stands. stands_for c.self.inside.padded c.next.follows.lender-at-none (taken packets c.next.result) bytes
              (after.0 packets bytes (stands_of _ packets bytes stands))),
          after.1,
          kept,
        ),
      ),
      record {
        answers = subst (λ (r : Reading). (packets : List (List ℕ)) (bytes : List ℕ) → StandsFor r packets bytes
            → Answers (form_of r.padded) packets bytes c.next.result)
            c.self.view_is (λ packets bytes stands. c.next.ensures.answers packets bytes (stands_of _ packets bytes stands));
        next_packet = subst (λ (r : Reading). (packets : List (List ℕ)) (packet bytes : List ℕ) → StandsFor r packets bytes
            → Begins (form_of r.padded) (packets ++ packet ∷ []) bytes → IsPacket packet c.next.result)
            c.self.view_is (λ packets packet bytes stands. ((c.next.ensures.answers packets bytes (stands_of _ packets bytes stands)).packet packet).1);
        after = tt;
      },
    )
