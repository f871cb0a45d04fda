-- A file spells one list, or is no journal from one place on.
use Rattle.std.proofs.Common.{◌≡◌, ◌≢◌, ◌≤◌, ◌+◌, ◌∙◌, ℕ, List, ◌∷◌, ◌++◌, length, inl, inr, arith, sym, ap, refl}
use Rattle.sess_records.specs.declared.records.Record.{Record}
use Rattle.sess_records.specs.declared.records.Event.TheVariants.{Begin, Ran}
use Rattle.sess_records.specs.Format.{HasHeader, IsFault, IsReply, Reached, Spells, magic, open_gate, size_of, written}
use Rattle.sess_records.proofs.FormLemmas.{SameFile, Stops, append_split, follows, in_front, same_file}

record SameReached (s t : List ℕ) (es bs : List Record) (g h a b : ℕ) : Type 0 where
  seed : s ≡ t
  entries : es ≡ bs
  gate : g ≡ h
  place : a ≡ b

same_reached : (s t : List ℕ) (es bs : List Record) (g h a b : ℕ) (file : List ℕ) → (r : Reached s es g a file) → (q : Reached t bs h b file)
    → Stops g r.rest → Stops h q.rest → SameReached s t es bs g h a b
same_reached s t es bs g h a b file r q sr sq =
    let behind = append_split magic magic (s ++ (written es ++ g ∷ r.rest)) (t ++ (written bs ++ h ∷ q.rest)) refl (sym r.split ∙ q.split) in
    let seeds = append_split s t (written es ++ g ∷ r.rest) (written bs ++ h ∷ q.rest) (r.seeded ∙ sym q.seeded) behind.1 in
    let same : SameFile es bs g h r.rest q.rest = same_file es bs g h r.rest q.rest r.lawful q.lawful sr sq seeds.1 in
    record {
      seed = seeds.0;
      entries = same.entries;
      gate = same.gate;
      place = r.place ∙ ap (λ (l : List Record). 41 + length (written l)) same.entries ∙ sym q.place;
    }

stops_closed : (gate : ℕ) (rest : List ℕ) → gate ≢ open_gate → Stops gate rest
stops_closed gate rest shut is = absurd (shut is)

spelt_both : (seed other : List ℕ) (entries others : List Record) (file : List ℕ) → (p : Spells seed entries file) → (q : Spells other others file)
    → SameReached seed other entries others p.gate q.gate p.at q.at
spelt_both seed other entries others file p q =
    same_reached seed other entries others p.gate q.gate p.at q.at file p.reached q.reached
    (stops_closed p.gate p.reached.rest p.closed) (stops_closed q.gate q.reached.rest q.closed)

pub one_seed : (seed other : List ℕ) (entries others : List Record) (file : List ℕ) → Spells seed entries file → Spells other others file → seed ≡ other
one_seed seed other entries others file p q = (spelt_both seed other entries others file p q).seed

pub one_list : (seed other : List ℕ) (entries others : List Record) (file : List ℕ) → Spells seed entries file → Spells other others file → entries ≡ others
one_list seed other entries others file p q = (spelt_both seed other entries others file p q).entries

pub fronts : (seed other : List ℕ) (entries others : List Record) (gate at : ℕ) (file : List ℕ) → Reached seed entries gate at file → Spells other others file
    → (seed ≡ other) × ((more : List Record) × (others ≡ entries ++ more))
fronts seed other entries others gate at file r q =
    let behind = append_split magic magic (seed ++ (written entries ++ gate ∷ r.rest)) (other ++ (written others ++ q.gate ∷ q.reached.rest)) refl (sym r.split ∙ q.reached.split) in
    let seeds = append_split seed other (written entries ++ gate ∷ r.rest) (written others ++ q.gate ∷ q.reached.rest) (r.seeded ∙ sym q.reached.seeded) behind.1 in
    (seeds.0, in_front entries others gate q.gate r.rest q.reached.rest r.lawful q.reached.lawful q.closed seeds.1)

reached_header : (seed : List ℕ) (entries : List Record) (gate at : ℕ) (file : List ℕ) → Reached seed entries gate at file → HasHeader file
reached_header seed entries gate at file r =
    let next = follows entries gate r.rest in
    record {
      seed = seed;
      gate = next.0;
      rest = next.1;
      seeded = r.seeded;
      split = r.split ∙ ap (λ (l : List ℕ). magic ++ (seed ++ l)) next.2;
    }

pub no_fault : (seed : List ℕ) (entries : List Record) (at : ℕ) (file : List ℕ) → Spells seed entries file → IsFault at file → ⊥
no_fault seed entries at file p (inl none) = none.1 (reached_header seed entries p.gate p.at file p.reached)
no_fault seed entries at file p (inr n) =
    p.closed (same_reached seed n.seed entries n.entries p.gate open_gate p.at at file p.reached n.reached (stops_closed p.gate p.reached.rest p.closed) (λ _. n.none)).gate

pub one_fault : (at other : ℕ) (file : List ℕ) → IsFault at file → IsFault other file → at ≡ other
one_fault at other file (inl p) (inl q) = p.0 ∙ sym q.0
one_fault at other file (inl p) (inr q) = absurd (p.1 (reached_header q.seed q.entries open_gate other file q.reached))
one_fault at other file (inr p) (inl q) = absurd (q.1 (reached_header p.seed p.entries open_gate at file p.reached))
one_fault at other file (inr p) (inr q) =
    (same_reached p.seed q.seed p.entries q.entries open_gate open_gate at other file p.reached q.reached (λ _. p.none) (λ _. q.none)).place

pub work_size : (job : ℕ) (reply : List ℕ) → IsReply reply → size_of (Begin job) + size_of (Ran reply) ≤ 262196
work_size job reply r = omega (arith, r.short)
