use Rattle.std.proofs.Common.{◌≡◌, ℕ, take, replicate, append_assoc}
use Rattle.std.proofs.lemmas.List.{take-replicate}
use Rattle.tl_codec.proofs.fill.padded.Goals as goal

pub returns-clause-appended : goal.returns-clause-appended
returns-clause-appended c =
    let size = c.padding_of-size.result in
    let zeros : take {A = ℕ} size (replicate 3 0) ≡ replicate size 0 = take-replicate size 3 0 c.padding_of-size.ensures.small in
    rw (c.push_all-3.ensures.written, c.push_all-2.ensures.written, c.push_all.ensures.written, ← c.padding_of-size.ensures.value, ← zeros) (simp append_assoc)
