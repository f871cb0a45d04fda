-- Lemmas on what a writer of std takes.
use Rattle.std.proofs.Common.{◌≡◌, ◌<◌, ◌≤◌, ◌-◌, ℕ, zero, suc, List, [], ◌∷◌, ◌++◌, length, take, Option, None, Some, IfSome, IsSomeAnd, Result, Ok, Err, IfOk, IfErr, OnOk, arith, refl, sym, ap, subst, ◌∙◌, append-nil, length-append, length-take}
use lib.Seq.{take-append_seam}
use Rattle.std.proofs.KnownBytes.{Appends-kept, Appends-nil}
use Rattle.std.specs.Io.KnownBytes.{Appends, Keeps, WriteAppends}
use Rattle.mt_edge.specs.declared.sink.Put.{Put}
use Rattle.mt_edge.specs.declared.sink.Put.TheVariants.{Took, Failed}
use Rattle.mt_edge.specs.Put.{TakesFrom, TakesFront, TakesOver, flushed}

keeps_appends : (old mid new : Option (List ℕ)) → Keeps old mid → Keeps mid new → Appends old new []
keeps_appends None mid new first then = tt
keeps_appends (Some x) None new first then = absurd first
keeps_appends (Some x) (Some y) None first then = absurd then
keeps_appends (Some x) (Some y) (Some z) first then = then ∙ first ∙ sym (append-nil x)

-- a write and a flush, by what a writer of std told before them, between them and after them
pub takes_from : {E U F : Type 0} (put : Put) (count : ℕ) (piece : List ℕ) (old mid new : Option (List ℕ)) (answer : Result ℕ E) (flush : Result U F)
    → WriteAppends old mid answer piece → Keeps mid new
    → OnOk flush (count ≡ 0) → IfErr flush (λ _. IfOk answer (λ n. count ≡ n)) → IfErr answer (λ _. count ≡ 0)
    → OnOk flush (IfOk answer (λ n. 0 < n → put ≡ Took n)) → IfOk answer (λ n. n ≡ 0 → put ≡ Failed) → IfErr answer (λ _. put ≡ Failed) → IfErr flush (λ _. put ≡ Failed)
    → TakesFrom put count piece old new
takes_from put count piece old mid new (Ok zero) (Ok done) wrote kept none unflushed unwritten took nothing failed torn =
    subst (λ (p : Put). TakesFrom p count piece old new) (sym (nothing refl)) (subst (λ (k : ℕ). TakesFrom Failed k piece old new) (sym none) (Appends-kept old mid new (take 0 piece) wrote kept))
takes_from put count piece old mid new (Ok (suc n)) (Ok done) wrote kept none unflushed unwritten took nothing failed torn =
    let some : 0 < suc n = omega arith in
    subst (λ (p : Put). TakesFrom p count piece old new) (sym (took some)) (none, Appends-kept old mid new (take (suc n) piece) wrote kept)
takes_from put count piece old mid new (Ok n) (Err fault) wrote kept none unflushed unwritten took nothing failed torn =
    subst (λ (p : Put). TakesFrom p count piece old new) (sym torn) (subst (λ (k : ℕ). TakesFrom Failed k piece old new) (sym unflushed) (Appends-kept old mid new (take n piece) wrote kept))
takes_from put count piece old mid new (Err error) flush wrote kept none unflushed unwritten took nothing failed torn =
    subst (λ (p : Put). TakesFrom p count piece old new) (sym failed) (subst (λ (k : ℕ). TakesFrom Failed k piece old new) (sym unwritten) (keeps_appends old mid new wrote kept))

-- what a sink tells after a write whose piece was handed on
told-whole : (bytes front held : List ℕ) (count : ℕ) → held ≡ bytes ++ front → length front ≡ count → take (length held - count) held ≡ bytes
told-whole bytes front held count is long =
    let all : length held - count ≡ length bytes = omega (arith, ap (λ (l : List ℕ). length l) is, length-append bytes front, long) in
    ap (λ (n : ℕ). take n held) all ∙ ap (λ (l : List ℕ). take (length bytes) l) is ∙ take-append_seam bytes front

told-flushed : (put : Put) (count : ℕ) (piece : List ℕ) (old new : Option (List ℕ)) → count ≤ length piece → TakesFrom put count piece old new
    → IfSome old (λ before. IsSomeAnd (flushed count new) (λ after. TakesOver put piece before after))
told-flushed put count piece None new fits takes = tt
told-flushed (Took n) count piece (Some bytes) None fits takes = absurd takes.1
told-flushed (Took n) count piece (Some bytes) (Some held) fits takes =
    subst (λ (k : ℕ). IsSomeAnd (flushed k (Some held)) (λ after. after ≡ bytes ++ take n piece)) (sym takes.0) takes.1
told-flushed Failed count piece (Some bytes) None fits takes = absurd takes
told-flushed Failed zero piece (Some bytes) (Some held) fits takes = takes ∙ append-nil bytes
told-flushed Failed (suc n) piece (Some bytes) (Some held) fits takes =
    told-whole bytes (take (suc n) piece) held (suc n) takes (omega (arith, length-take (suc n) piece, fits))

pub flushed_as_told : (put : Put) (count before : ℕ) (piece : List ℕ) (old new : Option (List ℕ)) → before ≡ 0 → count ≤ length piece → TakesFrom put count piece old new
    → IfSome (flushed before old) (λ first. IsSomeAnd (flushed count new) (λ after. TakesOver put piece first after))
flushed_as_told put count before piece old new none fits takes =
    subst (λ (n : ℕ). IfSome (flushed n old) (λ first. IsSomeAnd (flushed count new) (λ after. TakesOver put piece first after))) (sym none) (told-flushed put count piece old new fits takes)

-- and after one that wasn't
pub flushed_stays : (held : Option (List ℕ)) → IfSome held (λ before. IsSomeAnd held (λ after. after ≡ before))
flushed_stays None = tt
flushed_stays (Some bytes) = refl

-- what a stream took of a piece
pub front_taken : (put : Put) (count : ℕ) (piece : List ℕ) (old new : Option (List ℕ)) → TakesFrom put count piece old new → TakesFront put piece old new
front_taken (Took n) count piece old new takes = takes.1
front_taken Failed count piece old new takes = (count, takes)

pub none_taken : (piece : List ℕ) (held : Option (List ℕ)) → TakesFront Failed piece held held
none_taken piece held = (0, Appends-nil held)
