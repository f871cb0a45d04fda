-- The first place of a file where no lawful record stands.
use Rattle.std.specs.Prelude.{◌≡◌, ℕ, List, [], ◌∷◌, ◌++◌, ◌⊎◌}
use Rattle.sess_records.specs.declared.records.Record.{Record}
use Rattle.sess_records.specs.Format.{HasHeader, IsFault, Reached as Read, open_gate}
use Rattle.sess_journal.specs.Replay.{Basis, IsLawful, Reached, Replays, at_first}

-- Up to an open gate the file has lawful records, and at the place behind it no record begins, or one that isn't lawful there.
pub record StopsAt {D : Type 0} (by_seed : List ℕ → Basis D) (at : ℕ) (file : List ℕ) : Type 0 where
  pub seed : List ℕ
  pub entries : List Record
  pub read : Read seed entries open_gate at file
  pub reached : Reached
  pub replays : Replays (by_seed seed) entries at_first reached
  pub stops : IsFault at file
      ⊎ ((entry : Record) × (gate : ℕ) × (next : ℕ) × Read seed (entries ++ entry ∷ []) gate next file × (IsLawful (by_seed seed) entry reached → ⊥))

-- the first place of a file where neither a header nor a record stands that is lawful there
abbrev pub IsNoJournalAt : {D : Type 0} → (List ℕ → Basis D) → ℕ → List ℕ → Type 0
IsNoJournalAt by_seed at file = ((at ≡ 0) × (HasHeader file → ⊥)) ⊎ StopsAt by_seed at file
