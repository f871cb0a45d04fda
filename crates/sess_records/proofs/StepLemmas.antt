-- How the moments of a call go on, by what the laws of disks say.
use Rattle.std.proofs.Common.{◌≡◌, ◌≤◌, ◌∙◌, ℕ, List, [], ◌∷◌, length, ◌⊎◌, inl, inr, arith, subst, sym, ap}
use Rattle.std.proofs.lemmas.List.{length-append, take_all}
use Rattle.disks.specs.declared.disk_act.DiskAct.{DiskAct}
use Rattle.disks.specs.Crash.{MayLeave, after_acts}
use Rattle.disks.specs.Told.{DiskTold, MayHaveLeft, Noted, now}
use Rattle.sess_records.specs.Crashes.{Leaves, LeavesOnly}

-- what the laws say: after one more act, after none, and at once
abbrev pub OneMore : Type 0
OneMore = (since : ℕ) (act : DiskAct) (before after : DiskTold) (left : List ℕ) → after.first ≡ before.first → Noted act before after
    → MayHaveLeft since after left → MayHaveLeft since before left ⊎ MayLeave (now after) left

abbrev pub NoMore : Type 0
NoMore = (since : ℕ) (before after : DiskTold) (left : List ℕ) → after.first ≡ before.first → after.acts ≡ before.acts
    → MayHaveLeft since after left → MayHaveLeft since before left

abbrev pub AtOnce : Type 0
AtOnce = (told : DiskTold) (left : List ℕ) → MayHaveLeft (length told.acts) told left → MayLeave (now told) left

pub stays : NoMore → (before after : DiskTold) (P : List ℕ → Type 0) → after.first ≡ before.first → MayLeave (now after) after.contents → after.acts ≡ before.acts
    → Leaves before after P
stays no_more before after P same possible e = record {
  first = same;
  longer = omega (arith, ap length e);
  adds = λ since left m. inl (no_more since before after left same e m);
  possible = possible;
}

pub noted : OneMore → (act : DiskAct) (before after : DiskTold) (P : List ℕ → Type 0) → after.first ≡ before.first → MayLeave (now after) after.contents → Noted act before after
    → ((left : List ℕ) → MayLeave (now after) left → P left) → Leaves before after P
noted one_more act before after P same possible n here = record {
  first = same;
  longer = omega (arith, ap length n.acts, length-append before.acts (act ∷ []));
  adds = λ since left m. elim (one_more since act before after left same n m) [ inl e ↦ inl e | inr may ↦ inr (here left may) ];
  possible = possible;
}

pub goes_on : (before between after : DiskTold) (P : List ℕ → Type 0) → Leaves before between P → Leaves between after P → Leaves before after P
goes_on before between after P p q = record {
  first = q.first ∙ p.first;
  longer = omega (arith, p.longer, q.longer);
  adds = λ since left m. elim (q.adds since left m) [ inl e ↦ p.adds since left e | inr has ↦ inr has ];
  possible = q.possible;
}

pub weaker : (before after : DiskTold) (P Q : List ℕ → Type 0) → ((left : List ℕ) → P left → Q left) → Leaves before after P → Leaves before after Q
weaker before after P Q f p = record {
  first = p.first;
  longer = p.longer;
  adds = λ since left m. elim (p.adds since left m) [ inl e ↦ inl e | inr has ↦ inr (f left has) ];
  possible = p.possible;
}

-- what a read gives now, a crash since an earlier moment may have left
now_left : (since : ℕ) (told : DiskTold) → since ≤ length told.acts → MayLeave (now told) told.contents → MayHaveLeft since told told.contents
now_left since told low may = record {
  at = length told.acts;
  from = low;
  to = omega arith;
  left = subst (λ (l : List DiskAct). MayLeave (after_acts told.first l) told.contents) (sym (take_all (length told.acts) told.acts (omega arith))) may;
}

-- where a crash before the call leaves what has P, it does so at each moment of it, and so does the call
pub only : AtOnce → (before after : DiskTold) (P : List ℕ → Type 0) → ((left : List ℕ) → MayLeave (now before) left → P left) → Leaves before after P → LeavesOnly before after P
only at_once before after P here p = record {
  each = each;
  read = each after.contents (now_left (length before.acts) after p.longer p.possible);
  earlier = p;
}
  where
    each : (left : List ℕ) → MayHaveLeft (length before.acts) after left → P left
    each left m = elim (p.adds (length before.acts) left m) [ inl e ↦ here left (at_once before left e) | inr has ↦ has ]

-- the same of what is weaker, and of two calls one behind the other
pub only_weaker : (before after : DiskTold) (P Q : List ℕ → Type 0) → ((left : List ℕ) → P left → Q left) → LeavesOnly before after P → LeavesOnly before after Q
only_weaker before after P Q f p = record {
  each = λ left m. f left (p.each left m);
  read = f after.contents p.read;
  earlier = weaker before after P Q f p.earlier;
}

pub only_joined : (before between after : DiskTold) (P Q R : List ℕ → Type 0) → ((left : List ℕ) → P left → R left) → ((left : List ℕ) → Q left → R left)
    → LeavesOnly before between P → LeavesOnly between after Q → LeavesOnly before after R
only_joined before between after P Q R f g p q = record {
  each = λ left m. elim (q.earlier.adds (length before.acts) left m) [ inl e ↦ f left (p.each left e) | inr has ↦ g left has ];
  read = g after.contents q.read;
  earlier = goes_on before between after R (weaker before between P R f p.earlier) (weaker between after Q R g q.earlier);
}
