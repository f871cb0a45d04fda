use Rattle.std.proofs.Common.{◌∙◌, ℕ, ◌-◌, ◌<◌, ◌≤◌, List, ap, subst, length, get_or}
use Rattle.std.specs.List.{slice_get}
use Rattle.sim_server.specs.Bags.{Holds}
use Rattle.world_rules.specs.World.{counted}
use Rattle.sim_server.specs.Made.{packets_in}
use Rattle.sim_server.specs.declared.bag.Batch.{Batch}
use Rattle.sim_server.proofs.BagLemmas.{no-packet, packet-found}
use Rattle.sim_server.proofs.bag.Bag.packet.Goals as goal

pub returns-then-begun-eq0 : goal.returns-then-begun-eq0
returns-then-begun-eq0 c =
    let same = c.as_slice.ensures.value in
    let begun = c.begun_by-begun.result in
    let later = subst (λ (batches : List Batch). (k : ℕ) (d : Batch) → begun ≤ k → k < length batches → c.args.number - 1 < (get_or batches k d).before)
    same c.begun_by-begun.ensures.later in
    no-packet c.args.number begun c.self.inside.batches.items c.self.invariant.each c.if-number-eq0.false c.if-begun-eq0.true later
    ∙ ap (λ (held : Holds). counted c.args.number held.made) c.self.view_is

pub returns : goal.returns
returns c =
    let same = c.as_slice.ensures.value in
    let begun = c.begun_by-begun.result in
    let items = c.self.inside.batches.items in
    let batch = c.index-batch.result.now in
    let within : begun ≤ length items = subst (λ (batches : List Batch). begun ≤ length batches) same c.begun_by-begun.ensures.within in
    let begins = subst (λ (batches : List Batch). (k : ℕ) (d : Batch) → k < begun → (get_or batches k d).before ≤ c.args.number - 1)
    same c.begun_by-begun.ensures.begun in
    let later = subst (λ (batches : List Batch). (k : ℕ) (d : Batch) → begun ≤ k → k < length batches → c.args.number - 1 < (get_or batches k d).before)
    same c.begun_by-begun.ensures.later in
    c.packet.ensures
    ∙ ap (λ (one : Batch). slice_get (packets_in one) (c.args.number - 1 - one.before)) c.index-batch.ensures
    ∙ packet-found c.args.number begun items batch c.self.invariant.each c.if-number-eq0.false c.if-begun-eq0.false within begins later
    ∙ ap (λ (held : Holds). counted c.args.number held.made) c.self.view_is
