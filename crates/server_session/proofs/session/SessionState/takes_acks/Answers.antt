use Rattle.std.proofs.Common.{◌∙◌, ℕ, List, ap, sym, subst, refl, map, take, get_or, arith}
use Rattle.std.proofs.lemmas.List.{take_more, take_all}
use Rattle.server_rules.specs.Rows.{acked_by}
use Rattle.server_rules.specs.Server.{Reply}
use Rattle.server_session.specs.SessionState.{Stands}
use Rattle.server_session.proofs.FateLemmas.{acked-in-turn, acked-apart, are-apart, none-acked}
use Rattle.server_session.proofs.UnsaidLemmas.{no-more-kept}
use Rattle.server_session.proofs.session.SessionState.takes_acks.Goals as goal

pub loop-place-init : goal.loop-place-init
loop-place-init g c = (
  λ now session stands apart.
      subst (λ (replies : List Reply). Stands now c.args.self.now (record session { replies = replies })) (sym (none-acked session.replies)) stands,
  refl,
  refl,
  refl,
  λ now is. is,
  refl,
  λ weight messages. omega arith,
)

pub loop-place-preserved : goal.loop-place-preserved
loop-place-preserved g c =
    let place = c.loop-place.place in
    let ids = c.args.ids.now in (
      λ now session stands apart.
          let so_far = map (acked_by (take place ids)) session.replies in
          let after = c.ends_reply.ensures.stands now (record session { replies = so_far }) (c.loop-place.invariant.0 now session stands apart) (acked-apart (take place ids) session.replies apart) in
          subst (λ (replies : List Reply). Stands now c.ends_reply.new.self (record session { replies = replies }))
          (acked-in-turn (take place ids) (get_or ids place 0) session.replies
          ∙ ap (λ (numbers : List ℕ). map (acked_by numbers) session.replies) (sym (take_more ids place 0 c.loop-place-test.true))) after,
      c.ends_reply.ensures.same_numbers ∙ c.loop-place.invariant.1,
      c.ends_reply.ensures.same_key ∙ c.loop-place.invariant.2,
      c.ends_reply.ensures.same_room ∙ c.loop-place.invariant.3,
      λ now is. c.ends_reply.ensures.at now (c.loop-place.invariant.4 now is),
      c.ends_reply.ensures.same_number ∙ c.loop-place.invariant.5,
      λ weight messages. omega (arith, c.ends_reply.ensures.fewer_kept weight messages, c.loop-place.invariant.6 weight messages),
    )

pub returns-clause-says : goal.returns-clause-says
returns-clause-says g c = λ now owing draw speaker are says.
    let place = c.loop-place.place in
    let ids = c.args.ids.now in
    let stands = c.loop-place.invariant.0 now speaker.session says.stands (are-apart speaker.session.history speaker.session.replies speaker.session.counters.last are) in
    record {
      stands = subst (λ (numbers : List ℕ). Stands now c.loop-place.self (record speaker.session { replies = map (acked_by numbers) speaker.session.replies }))
          (take_all place ids (omega arith)) stands;
      owed = says.owed;
      draws = says.draws;
    }

pub returns-clause-same_numbers : goal.returns-clause-same_numbers
returns-clause-same_numbers g c = c.loop-place.invariant.1

pub returns-clause-same_key : goal.returns-clause-same_key
returns-clause-same_key g c = c.loop-place.invariant.2

pub returns-clause-at : goal.returns-clause-at
returns-clause-at g c = c.loop-place.invariant.4

pub returns-clause-same_room : goal.returns-clause-same_room
returns-clause-same_room g c = c.loop-place.invariant.3

pub returns-clause-same_number : goal.returns-clause-same_number
returns-clause-same_number g c = c.loop-place.invariant.5

pub returns-clause-unsaid : goal.returns-clause-unsaid
returns-clause-unsaid g c = λ owing. no-more-kept c.args.self.now _ owing c.loop-place.invariant.6
