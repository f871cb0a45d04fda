-- What calls leave one after the other.
use Rattle.std.proofs.Common.{◌≢◌, ℕ, List, [], ◌∷◌, ◌++◌, ◌∙◌, inl, inr, subst, sym, ap, refl, append_assoc}
use Rattle.std.proofs.lemmas.List.{append-nil}
use Rattle.disks.specs.Told.{DiskTold}
use Rattle.sess_records.specs.declared.records.Record.{Record}
use Rattle.sess_records.specs.Crashes.{LeavesOnly}
use Rattle.sess_records.specs.Format.{Spells, open_gate}
use Rattle.sess_records.specs.Standing.{Behind, Settled, SpellsOneOf, SpellsSome}
use Rattle.sess_records.proofs.StepLemmas.{only_joined, only_weaker}

pub settled_spells : (seed : List ℕ) (entries : List Record) (len : ℕ) (told : DiskTold) → Settled seed entries len told → Spells seed entries told.contents
settled_spells seed entries len told s = record { gate = s.gate; at = len; reached = s.reached; closed = s.closed }

pub taken_spells : (seed : List ℕ) (entries : List Record) (gate at len : ℕ) (told : DiskTold) → Behind seed entries gate at len told → gate ≢ open_gate → Spells seed entries told.contents
taken_spells seed entries gate at len told b shut = record { gate = gate; at = at; reached = b.reached; closed = shut }

one_some : (seed : List ℕ) (entries : List Record) (entry : Record) (left : List ℕ) → SpellsOneOf seed entries entry left → SpellsSome seed entries (entry ∷ []) left
one_some seed entries entry left (inl p) =
    record { front = []; back = entry ∷ []; split = refl; spells = subst (λ (l : List Record). Spells seed l left) (sym (append-nil entries)) p }
one_some seed entries entry left (inr p) = record { front = entry ∷ []; back = []; split = refl; spells = p }

some_front : (seed : List ℕ) (entries some others : List Record) (left : List ℕ) → SpellsSome seed entries some left → SpellsSome seed entries (some ++ others) left
some_front seed entries some others left s = record {
  front = s.front;
  back = s.back ++ others;
  split = ap (λ (l : List Record). l ++ others) s.split ∙ append_assoc s.front s.back others;
  spells = s.spells;
}

some_behind : (seed : List ℕ) (entries some others : List Record) (left : List ℕ) → SpellsSome seed (entries ++ some) others left → SpellsSome seed entries (some ++ others) left
some_behind seed entries some others left s = record {
  front = some ++ s.front;
  back = s.back;
  split = ap (λ (l : List Record). some ++ l) s.split ∙ sym (append_assoc some s.front s.back);
  spells = subst (λ (l : List Record). Spells seed l left) (append_assoc entries some s.front) s.spells;
}

pub one_more : (seed : List ℕ) (entries : List Record) (entry : Record) (before after : DiskTold) → LeavesOnly before after (SpellsOneOf seed entries entry)
    → LeavesOnly before after (SpellsSome seed entries (entry ∷ []))
one_more seed entries entry before after p =
    only_weaker before after (SpellsOneOf seed entries entry) (SpellsSome seed entries (entry ∷ [])) (one_some seed entries entry) p

pub some_more : (seed : List ℕ) (entries some others : List Record) (before between after : DiskTold) → LeavesOnly before between (SpellsSome seed entries some)
    → LeavesOnly between after (SpellsSome seed (entries ++ some) others) → LeavesOnly before after (SpellsSome seed entries (some ++ others))
some_more seed entries some others before between after p q =
    only_joined before between after (SpellsSome seed entries some) (SpellsSome seed (entries ++ some) others) (SpellsSome seed entries (some ++ others))
    (some_front seed entries some others) (some_behind seed entries some others) p q
