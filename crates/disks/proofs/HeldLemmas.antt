-- Lemmas on files by their names.
use Rattle.std.proofs.Common.{◌≡◌, ◌<◌, ◌∙◌, ℕ, zero, suc, List, [], ◌∷◌, length, slice_index_or, slice_set, Some, None, option_map, arith, refl, ap, ap₂, sym, subst}
use Rattle.std.proofs.lemmas.List.{map-set, length-map}
use Rattle.disks.specs.Named.{Named, Takes, Puts}
use Rattle.disks.specs.Held.{bytes_in, named, names_of}
use Rattle.disks.specs.declared.mem_disk.MemDisk.{MemDisk}
use Rattle.disks.specs.declared.mem_file.MemFile.{MemFile}

-- the file at a place, by its name
pub name_at : (files : List MemFile) (place : ℕ) (file : MemFile) (other : Named) → place < length files → slice_index_or (names_of files) place other ≡ named (slice_index_or files place file)
name_at [] place file other h = absurd (omega (arith, h))
name_at (x ∷ files) zero file other h = refl
name_at (x ∷ files) (suc place) file other h = name_at files place file other (omega (arith, h))

-- a file is changed
pub name_set : (files : List MemFile) (place : ℕ) (file : MemFile) → names_of (slice_set files place file) ≡ slice_set (names_of files) place (named file)
name_set files place file = map-set named files place file

-- there is a file where there is a place
some_file : (files : List MemFile) (place : ℕ) → place < length files → MemFile
some_file [] place h = absurd (omega (arith, h))
some_file (x ∷ files) place h = x

-- a file is taken out
pub taken : (files after : List MemFile) (place at : ℕ) (name contents : List ℕ) (disk : MemDisk) → place < length files
    → ((file : MemFile) → (slice_index_or files place file).name ≡ name)
    → ((file : MemFile) → ((slice_index_or files place file).disk ≡ Some disk) × (after ≡ slice_set files place (record { name = (slice_index_or files place file).name; disk = None })))
    → at ≡ place → contents ≡ bytes_in disk → Takes name at contents (names_of files) (names_of after)
taken files after place at name contents disk inside called held here same =
    let file = some_file files place inside in
    let e : Takes name place (bytes_in disk) (names_of files) (names_of after) = record {
      inside = subst (λ n. place < n) (sym (length-map files named)) inside;
      file = λ other. name_at files place file other inside ∙ ap₂ (λ n d. record { name = n; contents = option_map bytes_in d }) (called file) (held file).0;
      files = ap names_of (held file).1 ∙ name_set files place (record { name = (slice_index_or files place file).name; disk = None })
          ∙ ap (λ n. slice_set (names_of files) place (record { name = n; contents = None })) (called file);
    } in
    subst (λ n. Takes name n contents (names_of files) (names_of after)) (sym here) (subst (λ b. Takes name place b (names_of files) (names_of after)) (sym same) e)

-- a file is put back
pub put : (files after : List MemFile) (place : ℕ) (file : MemFile) (disk : MemDisk) → place < length files
    → after ≡ slice_set files place (record { name = (slice_index_or files place file).name; disk = Some disk }) → Puts place (bytes_in disk) (names_of files) (names_of after)
put files after place file disk inside e other =
    ap names_of e ∙ name_set files place (record { name = (slice_index_or files place file).name; disk = Some disk })
    ∙ ap (λ n. slice_set (names_of files) place (record { name = n; contents = Some (bytes_in disk) })) (sym (ap (λ f. f.name) (name_at files place file other inside)))
