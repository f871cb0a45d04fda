use Rattle.std.proofs.Common.{◌∙◌, ℕ, List, get_or, length, take, subst, sym, refl, arith}
use Rattle.std.proofs.lemmas.List.{take_all}
use Rattle.server_rules.specs.Event.{Speaker}
use Rattle.server_session.specs.Says.{Says}
use Rattle.server_session.specs.Unsaid.{is_among, is_numbered}
use Rattle.server_session.proofs.UnsaidLemmas.{numbered-more, one-among, said_numbered, unsaid-less}
use Rattle.server_session.proofs.session.SessionState.says_all_numbered.Goals as goal

pub loop-place-init : goal.loop-place-init
loop-place-init g c = record { says = λ now draw speaker says. says; places = λ called calls. omega arith; left = λ called calls. omega arith; places_taken = refl; bytes_taken = refl }

pub loop-place-preserved : goal.loop-place-preserved
loop-place-preserved g c =
    let so_far = c.loop-place.invariant in
    let step = c.says_numbered.ensures in
    let ids = c.args.ids.now in
    let place = c.loop-place.place in
    let among = one-among ids place c.loop-place-test.true in
    record {
      says = λ now draw speaker says.
          let before = said_numbered speaker (take place ids) in
          subst (λ (speaker : Speaker g.row.D.Denot). Says now c.args.self.now c.says_numbered.new.owing draw speaker) (sym (numbered-more speaker ids place c.loop-place-test.true))
          (step.says now draw before (so_far.says now draw speaker says));
      places = λ called calls. omega (arith, so_far.places called calls, step.places called (λ kept is. calls kept (among kept is)));
      left = λ called calls. omega (arith, so_far.left called calls, step.left called (λ kept is. calls kept (among kept is)));
      places_taken = step.taken.0 ∙ so_far.places_taken;
      bytes_taken = step.taken.1 ∙ so_far.bytes_taken;
    }

pub says_numbered-requires-clause-places : goal.says_numbered-requires-clause-places
says_numbered-requires-clause-places g c =
    let ids = c.args.ids.now in
    let all = c.loop-place.invariant.places (is_among ids) (λ kept is. is) in
    let less = unsaid-less (is_numbered (get_or ids c.loop-place.place 0)) (is_among ids) (λ kept. 1) c.loop-place.owing.messages c.args.self.now.outbox.replies
    (one-among ids c.loop-place.place c.loop-place-test.true) in
    omega (arith, all, less, c.requires.places)

pub says_numbered-requires-clause-bytes : goal.says_numbered-requires-clause-bytes
says_numbered-requires-clause-bytes g c =
    let ids = c.args.ids.now in
    let all = c.loop-place.invariant.left (is_among ids) (λ kept is. is) in
    let less = unsaid-less (is_numbered (get_or ids c.loop-place.place 0)) (is_among ids) (λ kept. length kept.body) c.loop-place.owing.messages c.args.self.now.outbox.replies
    (one-among ids c.loop-place.place c.loop-place-test.true) in
    omega (arith, all, less, c.requires.bytes)

pub returns-clause-says : goal.returns-clause-says
returns-clause-says g c = λ now draw speaker says.
    subst (λ (numbers : List ℕ). Says now c.args.self.now c.loop-place.owing draw (said_numbered speaker numbers))
    (take_all c.loop-place.place c.args.ids.now (omega arith)) (c.loop-place.invariant.says now draw speaker says)

pub returns-clause-taken : goal.returns-clause-taken
returns-clause-taken g c = (c.loop-place.invariant.places_taken, c.loop-place.invariant.bytes_taken)
