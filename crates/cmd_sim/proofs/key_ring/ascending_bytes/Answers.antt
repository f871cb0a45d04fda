use Rattle.std.proofs.Common.{◌≡◌, ◌∙◌, ℕ, take, subst, arith}
use Rattle.std.proofs.lemmas.List.{length-set}
use Rattle.cmd_sim.specs.KeysOfSim.{numbers_from}
use Rattle.cmd_sim.proofs.KeyBytes.{written-on, all-written}
use Rattle.cmd_sim.proofs.key_ring.ascending_bytes.Goals as goal

pub loop-place-preserved : goal.loop-place-preserved
loop-place-preserved c = record {
  size = length-set c.loop-place.bytes c.loop-place.place c.loop-place.place ∙ c.loop-place.invariant.size;
  written = written-on c.loop-place.bytes c.loop-place.place (omega arith) c.loop-place.invariant.size c.loop-place.invariant.written;
}

pub returns : goal.returns
returns c =
    let whole : c.loop-place.place ≡ 256 = omega arith in
    all-written c.loop-place.bytes c.loop-place.invariant.size (subst (λ (n : ℕ). take n c.loop-place.bytes ≡ take n (numbers_from 0 256)) whole c.loop-place.invariant.written)
