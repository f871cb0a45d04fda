use Rattle.std.proofs.Common.{◌≡◌, ◌<◌, ◌∙◌, true, false, ap, sym, arith, eqb, length, insert}
use Rattle.std.specs.List.{remove}
use Rattle.std.specs.Prelude.{slice_get}
use Rattle.call_table.specs.Kept.{passes}
use Rattle.call_table.specs.Held.{with_member}
use Rattle.call_table.proofs.PlaceLemmas.{member_stays, member_leaves, member_away, member_enters, passes_within}
use Rattle.call_table.proofs.groups.put.Goals as goal

pub returns-then-is_there-clause-placed : goal.returns-then-is_there-clause-placed
returns-then-is_there-clause-placed c =
    let places = c.args.places.now.items in
    let there : passes (λ one. eqb one c.args.member) (slice_get places c.place_of-at.result) ≡ true = sym c.is_at-is_there.ensures ∙ c.if-is_there.true in
    sym (ap (λ b. with_member c.args.member b places) c.if-enters.true ∙ member_stays c.args.member places c.place_of-at.result c.place_of-at.ensures.place there)

pub returns-else-is_there-clause-placed : goal.returns-else-is_there-clause-placed
returns-else-is_there-clause-placed c =
    let places = c.args.places.now.items in
    let there : passes (λ one. eqb one c.args.member) (slice_get places c.place_of-at.result) ≡ false = sym c.is_at-is_there.ensures ∙ c.if-is_there.false in
    let done : c.insert-placed.new.self.items ≡ insert places c.place_of-at.result c.args.member = rw c.unwrap.ensures at c.insert-placed.ensures.items in
    done ∙ sym (ap (λ b. with_member c.args.member b places) c.if-enters.true ∙ member_enters c.args.member places c.place_of-at.result c.place_of-at.ensures.place there)

pub returns-then-is_there-2-clause-placed : goal.returns-then-is_there-2-clause-placed
returns-then-is_there-2-clause-placed c =
    let places = c.args.places.now.items in
    let there : passes (λ one. eqb one c.args.member) (slice_get places c.place_of-at.result) ≡ true = sym c.is_at-is_there.ensures ∙ c.if-is_there-2.true in
    let within : c.place_of-at.result < length places = passes_within (λ one. eqb one c.args.member) c.place_of-at.result places there in
    let done : c.remove.new.self.items ≡ remove places c.place_of-at.result = rw (c.remove.ensures.succeeds 0 (omega (arith, c.args.places.now.ok.0))) at c.remove.ensures.items in
    done ∙ sym (ap (λ b. with_member c.args.member b places) c.if-enters.false ∙ member_leaves c.args.member places c.place_of-at.result c.place_of-at.ensures.place there)

pub returns-else-is_there-2-clause-placed : goal.returns-else-is_there-2-clause-placed
returns-else-is_there-2-clause-placed c =
    let places = c.args.places.now.items in
    let there : passes (λ one. eqb one c.args.member) (slice_get places c.place_of-at.result) ≡ false = sym c.is_at-is_there.ensures ∙ c.if-is_there-2.false in
    sym (ap (λ b. with_member c.args.member b places) c.if-enters.false ∙ member_away c.args.member places c.place_of-at.result c.place_of-at.ensures.place there)
