use Rattle.std.proofs.Common.{◌∙◌, ◌+◌, sym, subst, refl, arith, drop, get_or}
use Rattle.std.proofs.lemmas.Option.{get_or_from_slice_get, slice_get_within, none-some, slice_get-get_or}
use Rattle.outbox.specs.declared.kept.Kept.{Kept}
use Rattle.outbox.specs.Bodies.{head_bytes}
use Rattle.server_output.specs.Dues.{Dues}
use Rattle.server_output.specs.Items.{IsContent}
use Rattle.server_session.proofs.RepeatLemmas.{SaidSoFar, no-kept, bytes-more, bytes-within, said-all, said-more}
use Rattle.server_session.proofs.session.SessionState.says_all_again.Goals as goal
use Rattle.server_session.proofs.session.SessionState.says_all_again.Goals.{in-Some, in_default}

pub loop-place-init : goal.loop-place-init
loop-place-init g c = record { says = λ now draw speaker is. is; places = omega arith; room = omega arith; places_taken = refl; bytes_taken = refl }

pub loop-place-preserved : goal.loop-place-preserved
loop-place-preserved g c =
    let standing = c.args.self.now in
    let before = c.args.owing.now in
    let place = c.loop-place.place in
    elim c.match-at.branch [
      | in-Some w ↦
          subst (λ (after : Dues). SaidSoFar g.row.D.Denot standing before (place + 1) after) (sym w.owing-is)
          (said-more standing before c.loop-place.owing w.says_again.new.owing place w.in-Some.kept.now (sym w.in-Some.ensures)
          (λ now draw speaker reply. w.says_again.ensures.says now draw speaker reply) w.says_again.ensures.places w.says_again.ensures.left w.says_again.ensures.taken c.loop-place.invariant)
      | in_default w ↦
          absurd (none-some (get_or standing.outbox.replies place no-kept)
          (w.in_default.ensures ∙ slice_get-get_or standing.outbox.replies place no-kept (omega (arith, c.loop-place-test.true, c.len-place-end.ensures.value))))
    ]

pub says_again-requires-clause-content : goal.says_again-requires-clause-content
says_again-requires-clause-content g c =
    let replies = c.args.self.now.outbox.replies in
    let place = c.loop-place.place in
    let kept = c.in-Some.kept.now in
    subst (λ (k : Kept). IsContent (drop head_bytes k.body)) (get_or_from_slice_get replies place kept kept (sym c.in-Some.ensures))
    (c.args.self.now.contents place kept (slice_get_within replies place kept (sym c.in-Some.ensures))).content

pub says_again-requires-clause-place : goal.says_again-requires-clause-place
says_again-requires-clause-place g c =
    let within = slice_get_within c.args.self.now.outbox.replies c.loop-place.place c.in-Some.kept.now (sym c.in-Some.ensures) in
    let said = c.loop-place.invariant.places in
    let enough = c.requires.places in
    omega arith

pub says_again-requires-clause-bytes : goal.says_again-requires-clause-bytes
says_again-requires-clause-bytes g c =
    let replies = c.args.self.now.outbox.replies in
    let place = c.loop-place.place in
    let more = bytes-more replies place c.in-Some.kept.now (sym c.in-Some.ensures) in
    let within = bytes-within replies (place + 1) in
    let said = c.loop-place.invariant.room in
    let enough = c.requires.bytes in
    omega arith

pub returns-clause-says : goal.returns-clause-says
returns-clause-says g c = λ now draw speaker says.
    said-all c.args.self.now c.args.owing.now c.loop-place.owing c.loop-place.place (omega arith) c.loop-place.invariant now draw speaker says

pub returns-clause-places : goal.returns-clause-places
returns-clause-places g c =
    let said = c.loop-place.invariant.places in
    omega arith

pub returns-clause-left : goal.returns-clause-left
returns-clause-left g c =
    let said = c.loop-place.invariant.room in
    let within = bytes-within c.args.self.now.outbox.replies c.loop-place.place in
    omega arith

pub returns-clause-taken : goal.returns-clause-taken
returns-clause-taken g c = (c.loop-place.invariant.places_taken, c.loop-place.invariant.bytes_taken)
