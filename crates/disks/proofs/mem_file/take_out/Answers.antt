use Rattle.std.proofs.Common.{◌≡◌, ◌<◌, List, length, slice_index_or, ap, subst}
use Rattle.disks.specs.Held.{bytes_in}
use Rattle.disks.specs.declared.mem_file.MemFile.{MemFile}
use Rattle.disks.proofs.HeldLemmas.{taken}
use Rattle.disks.proofs.mem_file.take_out.Goals as goal

-- the file at the place that was found is the one that is taken out
pub returns-in-Some-clause-taken : goal.returns-in-Some-clause-taken
returns-in-Some-clause-taken c =
    let inside = subst (λ (files : List MemFile). c.in_ok-place.place < length files) c.as_slice.ensures.value c.in_ok-place.ensures.inside in
    let called = subst (λ (files : List MemFile). (other : MemFile) → (slice_index_or files c.in_ok-place.place other).name ≡ c.args.name.now) c.as_slice.ensures.value c.in_ok-place.ensures.name in
    taken c.args.files.now.items c.take_at.new.files.items c.in_ok-place.place c.opened_at.result.place c.args.name.now (bytes_in c.opened_at.result) c.in-Some.disk
    inside called c.in-Some.ensures.taken c.opened_at.ensures.place (ap (λ contents. contents.items) c.opened_at.ensures.contents)
