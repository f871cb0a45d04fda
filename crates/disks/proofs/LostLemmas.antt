-- What stood at the last sync is one of the contents that a crash may leave.
use Rattle.std.proofs.Common.{◌≡◌, ◌≤◌, ◌∙◌, ℕ, List, [], ◌∷◌, length, fold, arith, refl, ap, sym, subst}
use Rattle.octets.specs.Bytes.{IsBytes}
use Rattle.disks.specs.declared.disk_act.DiskAct.{DiskAct}
use Rattle.disks.specs.declared.disk_act.DiskAct.TheVariants.{Write, Cut, Sync}
use Rattle.disks.specs.Crash.{Standing, MayLeave, after_act, after_acts, synced_at, synced_after}

-- the bytes of the last sync have a length that the file had since
record Bounds (s : Standing) : Type 0 where
  low : s.least ≤ length s.synced
  high : length s.synced ≤ s.most

bounds_stay : (s : Standing) (act : DiskAct) → Bounds s → Bounds (after_act s act)
bounds_stay s (Write at count) b = (let low = b.low in let high = b.high in record { low = low; high = grind arith })
bounds_stay s (Cut len) b = (let low = b.low in let high = b.high in record { low = grind arith; high = high })
bounds_stay s (Sync contents) b = record { low = omega arith; high = omega arith }

bounds_all : (s : Standing) (acts : List DiskAct) → Bounds s → Bounds (after_acts s acts)
bounds_all s [] b = b
bounds_all s (act ∷ acts) b = bounds_all (after_act s act) acts (bounds_stay s act b)

synced_by_act : (s : Standing) (act : DiskAct) → (after_act s act).synced ≡ synced_after s.synced act
synced_by_act s (Write at count) = refl
synced_by_act s (Cut len) = refl
synced_by_act s (Sync contents) = refl

pub synced_by_acts : (s : Standing) (acts : List DiskAct) → (after_acts s acts).synced ≡ fold synced_after s.synced acts
synced_by_acts s [] = refl
synced_by_acts s (act ∷ acts) = synced_by_acts (after_act s act) acts ∙ ap (λ b. fold synced_after b acts) (synced_by_act s act)

synced_possible : (s : Standing) → Bounds s → IsBytes s.synced → MayLeave s s.synced
synced_possible s b fits = record { bytes = fits; not_shorter = b.low; not_longer = b.high; stays = λ from n low apart. refl }

pub lost_possible : (first left : List ℕ) (acts : List DiskAct) → left ≡ fold synced_after first acts → IsBytes left → MayLeave (after_acts (synced_at first) acts) left
lost_possible first left acts e fits =
    let s = after_acts (synced_at first) acts in
    let same : s.synced ≡ left = synced_by_acts (synced_at first) acts ∙ sym e in
    let start : Bounds (synced_at first) = record { low = omega arith; high = omega arith } in
    subst (MayLeave s) same (synced_possible s (bounds_all (synced_at first) acts start) (subst IsBytes (sym same) fits))
