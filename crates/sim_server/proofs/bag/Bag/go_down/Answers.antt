use Rattle.std.proofs.Common.{◌≡◌, ◌∙◌, sym, ◌<◌, ap, refl, arith, length}
use Rattle.std.proofs.lemmas.List.{length-map}
use Rattle.sim_server.specs.Bags.{Holds}
use Rattle.sim_server.specs.Made.{made_of_out}
use Rattle.sim_server.proofs.BagLemmas.{no-room, one-more}
use Rattle.sim_server.proofs.bag.Bag.go_down.Goals as goal

pub invariant_of-self-2 : goal.invariant_of-self-2
invariant_of-self-2 c =
    let same : c.self.inside.room ≡ c.args.self.now.room = ap (λ (held : Holds). held.room) c.self.view_is in
    let there : 0 < c.self.inside.room = omega (arith, same, c.requires) in
    rw (c.push_reserved.ensures.items, c.push_reserved.ensures.len, c.push_reserved.ensures.capacity)
    (one-more c.self.inside.batches.items _ _ _ c.self.inside.count c.self.inside.room (length c.as_slice.result.now) c.self.invariant there refl (length-map c.args.outs.items made_of_out ∙ ap length (sym c.as_slice.ensures.value)))

pub invariant_of-self : goal.invariant_of-self
invariant_of-self c = no-room c.self.inside.batches.items _ _ c.self.inside.count c.self.inside.room c.self.invariant
