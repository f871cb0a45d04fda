-- What follows from the disk model.
use Rattle.std.proofs.Common.{◌≡◌, ◌≤◌, ◌+◌, ◌-◌, ◌∙◌, ℕ, List, [], ◌∷◌, ◌++◌, length, take, drop, max, ◌⊎◌, inl, inr, arith, subst, sym, ap, ap₂}
use Rattle.std.proofs.lemmas.List.{take_all, take-append-le, take-append-drop, drop-drop, length-append, length-drop}
use Rattle.std.proofs.lemmas.List.Elements.{All-nil, All-cons}
use Rattle.disks.specs.declared.disk_act.DiskAct.{DiskAct}
use Rattle.disks.specs.declared.disk_act.DiskAct.TheVariants.{Write}
use Rattle.disks.specs.Crash.{Standing, IsApart, MayLeave, after_act, after_acts, synced_at}
use Rattle.disks.specs.Told.{DiskTold, MayHaveLeft, Noted, moment, now}

-- a moment at or past the end of the acts is now
at_end : (told : DiskTold) (at : ℕ) (left : List ℕ) → length told.acts ≤ at → MayLeave (moment told at) left → MayLeave (now told) left
at_end told at left past may = subst (λ acts. MayLeave (after_acts told.first acts) left) (take_all at told.acts past) may

pub at_once : (told : DiskTold) (left : List ℕ) → MayHaveLeft (length told.acts) told left → MayLeave (now told) left
at_once told left m = at_end told m.at left m.from m.left

-- the moments before the last act are those there were
earlier : (first : Standing) (acts noted : List DiskAct) (act : DiskAct) (at : ℕ) → noted ≡ acts ++ act ∷ [] → at ≤ length acts → after_acts first (take at noted) ≡ after_acts first (take at acts)
earlier first acts noted act at e low = ap (λ l. after_acts first (take at l)) e ∙ ap (after_acts first) (take-append-le at acts (act ∷ []) low)

by_place : (since : ℕ) (act : DiskAct) (before after : DiskTold) (left : List ℕ) → after.first ≡ before.first → after.acts ≡ before.acts ++ act ∷ []
    → (m : MayHaveLeft since after left) → (m.at ≤ length before.acts) ⊎ (length after.acts ≤ m.at) → MayHaveLeft since before left ⊎ MayLeave (now after) left
by_place since act before after left same e m (inl low) = inl (record {
  at = m.at;
  from = m.from;
  to = low;
  left = subst (λ s. MayLeave s left) (ap (λ f. after_acts f (take m.at after.acts)) same ∙ earlier before.first before.acts after.acts act m.at e low) m.left;
})
by_place since act before after left same e m (inr past) = inr (at_end after m.at left past m.left)

either_side : (n m k : ℕ) → m ≡ n + 1 → k ≤ m → (k ≤ n) ⊎ (m ≤ k)
either_side n m k e h = grind (arith, e, h)

pub one_more : (since : ℕ) (act : DiskAct) (before after : DiskTold) (left : List ℕ) → after.first ≡ before.first → Noted act before after
    → MayHaveLeft since after left → MayHaveLeft since before left ⊎ MayLeave (now after) left
one_more since act before after left same noted m =
    let longer : length after.acts ≡ length before.acts + 1 = ap length noted.acts ∙ length-append before.acts (act ∷ []) in
    by_place since act before after left same noted.acts m (either_side (length before.acts) (length after.acts) m.at longer m.to)

pub no_more : (since : ℕ) (before after : DiskTold) (left : List ℕ) → after.first ≡ before.first → after.acts ≡ before.acts
    → MayHaveLeft since after left → MayHaveLeft since before left
no_more since before after left same e m = record {
  at = m.at;
  from = m.from;
  to = subst (λ l. m.at ≤ length l) e m.to;
  left = subst (λ s. MayLeave s left) (ap (λ f. after_acts f (take m.at after.acts)) same ∙ ap (λ l. after_acts before.first (take m.at l)) e) m.left;
}

pub synced : (bytes left : List ℕ) → MayLeave (synced_at bytes) left → left ≡ bytes
synced bytes left may = sym (take_all (length bytes) left may.not_longer) ∙ may.stays 0 (length bytes) (omega arith) (All-nil (IsApart 0 (length bytes))) ∙ take_all (length bytes) bytes (omega arith)

-- the front before all that was written
front : (bytes left : List ℕ) (at count : ℕ) → at ≤ length bytes → MayLeave (after_act (synced_at bytes) (Write at count)) left → take at left ≡ take at bytes
front bytes left at count inside may = may.stays 0 at (omega (arith, inside)) (All-cons (IsApart 0 at) (record { at = at; count = count }) [] (inl (omega arith)) (All-nil (IsApart 0 at)))

pub behind : (bytes left : List ℕ) (count : ℕ) → MayLeave (after_act (synced_at bytes) (Write (length bytes) count)) left → left ≡ bytes ++ drop (length bytes) left
behind bytes left count may =
    sym (take-append-drop (length bytes) left) ∙ ap (λ l. l ++ drop (length bytes) left) (front bytes left (length bytes) count (omega arith) may ∙ take_all (length bytes) bytes (omega arith))

-- what is behind a place is no longer than the rest
rest_is_short : (xs : List ℕ) (end n : ℕ) → length xs ≤ n → length (drop end xs) ≤ n - end
rest_is_short xs end n h = omega (arith, length-drop end xs, h)

-- the same bytes up to the end are the same rest
same_rest : (left bytes : List ℕ) (end : ℕ) → length left ≤ length bytes → take (length bytes - end) (drop end left) ≡ take (length bytes - end) (drop end bytes)
    → drop end left ≡ drop end bytes
same_rest left bytes end most e =
    sym (take_all (length bytes - end) (drop end left) (rest_is_short left end (length bytes) most)) ∙ e
    ∙ take_all (length bytes - end) (drop end bytes) (rest_is_short bytes end (length bytes) (omega arith))

-- a write inside makes nothing longer
no_longer : (n a b : ℕ) → b ≤ n → a ≤ max n b → a ≤ n
no_longer n a b h k = grind (arith, h, k)

-- the back behind all that was written
back : (bytes left : List ℕ) (at count : ℕ) → at + count ≤ length bytes → MayLeave (after_act (synced_at bytes) (Write at count)) left
    → take (length bytes - (at + count)) (drop (at + count) left) ≡ take (length bytes - (at + count)) (drop (at + count) bytes)
back bytes left at count low may =
    may.stays (at + count) (length bytes - (at + count)) (omega (arith, low))
    (All-cons (IsApart (at + count) (length bytes - (at + count))) (record { at = at; count = count }) [] (inr (omega arith)) (All-nil (IsApart (at + count) (length bytes - (at + count)))))

pub inside : (bytes left : List ℕ) (at count : ℕ) → at + count ≤ length bytes → MayLeave (after_act (synced_at bytes) (Write at count)) left
    → left ≡ take at bytes ++ (take count (drop at left) ++ drop (at + count) bytes)
inside bytes left at count low may =
    let most : length left ≤ length bytes = no_longer (length bytes) (length left) (at + count) low may.not_longer in
    let same : drop (at + count) left ≡ drop (at + count) bytes = same_rest left bytes (at + count) most (back bytes left at count low may) in
    let split : drop at left ≡ take count (drop at left) ++ drop (at + count) left = sym (take-append-drop count (drop at left)) ∙ ap (λ l. take count (drop at left) ++ l) (drop-drop count at left) in
    sym (take-append-drop at left) ∙ ap₂ (λ a b. a ++ b) (front bytes left at count (omega (arith, low)) may) (split ∙ ap (λ l. take count (drop at left) ++ l) same)
