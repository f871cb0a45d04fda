-- The records of an opening, one after the other.
use Rattle.std.proofs.Common.{◌≡◌, ◌+◌, ℕ, Option, None, Some, List, [], ◌∷◌, ◌++◌, length, inl, inr, refl, sym, subst, ◌∙◌, arith}
use Rattle.std.specs.Prelude.{IfSome}
use Rattle.disks.specs.Told.{DiskTold}
use Rattle.sess_records.specs.declared.records.Record.{Record}
use Rattle.sess_records.specs.Format.{IsFault, Reached as Read, open_gate, written}
use Rattle.sess_records.specs.Standing.{Behind}
use Rattle.sess_journal.specs.Files.{IsNoJournalAt}
use Rattle.sess_records.specs.Seen.{Reading}
use Rattle.sess_records.specs.Standing.{HasTaken}
use Rattle.sess_journal.specs.Playing.{Follows, Player, StandsAt, basis_for}
use Rattle.sess_journal.specs.Replay.{Bases, Basis, IsLawful, Plays, Reached, Replays, at_first}

-- lists one behind the other
pub whole : {D : Type 0} → (basis : Basis D) (entries more : List Record) (before between after : Reached) → Replays basis entries before between
    → Replays basis more between after → Replays basis (entries ++ more) before after
whole basis [] more before between after is h = subst (λ (b : Reached). Replays basis more b after) is h
whole basis (entry ∷ entries) more before between after (next, plays, rest) h = (next, plays, whole basis entries more next between after rest h)

-- one more record
pub replays_more : {D : Type 0} → (basis : Basis D) (entries : List Record) (entry : Record) (reached after : Reached) → Replays basis entries at_first reached
    → Plays basis entry reached after → Replays basis (entries ++ entry ∷ []) at_first after
replays_more basis entries entry reached after replays plays = whole basis entries (entry ∷ []) at_first reached after replays (after, plays, refl)

-- no header
pub no_header : {D : Type 0} → (by_seed : List ℕ → Basis D) (at : ℕ) (told : Option DiskTold) → at ≡ 0 → IfSome told (λ file. IsFault at file.contents)
    → IfSome told (λ file. IsNoJournalAt by_seed at file.contents)
no_header by_seed at None none h = tt
no_header by_seed at (Some file) none (inl h) = inl h
no_header by_seed at (Some file) none (inr h) = absurd (let place : at ≡ 41 + length (written h.entries) = h.reached.place in omega (arith, none, place))

-- a record that isn't lawful
pub not_lawful : {D : Type 0} → (by_seed : List ℕ → Basis D) (seed : List ℕ) (entries : List Record) (gate at len : ℕ) (reached : Reached) (told : Option DiskTold) (entry : Record) (later next all : ℕ) → gate ≡ open_gate → IfSome told (λ file. Behind seed entries gate at len file)
    → IfSome told (λ file. Behind seed (entries ++ entry ∷ []) later next all file) → Replays (by_seed seed) entries at_first reached
    → (IsLawful (by_seed seed) entry reached → ⊥) → IfSome told (λ file. IsNoJournalAt by_seed at file.contents)
not_lawful by_seed seed entries gate at len reached None entry later next all is_open behind more replays none = tt
not_lawful by_seed seed entries gate at len reached (Some file) entry later next all is_open behind more replays none =
    inr (record {
      seed = seed;
      entries = entries;
      read = subst (λ (g : ℕ). Read seed entries g at file.contents) is_open behind.reached;
      reached = reached;
      replays = replays;
      stops = inr (entry, later, next, more.reached, none);
    })

-- a record was taken and played
pub follows_next : {K S D : Type 0} → (bases : Bases S D) (told : K → Option DiskTold) (opening next : Reading K) (player new : Player S D) (f : Follows bases told opening player) (entry : Record)
    → HasTaken told (f.entries ++ entry ∷ []) next → next.seed ≡ opening.seed → new.seed ≡ player.seed → new.server.seal ≡ player.server.seal
    → (after : Reached) × Plays (basis_for bases player) entry f.reached after × StandsAt bases after new → Follows bases told next new
follows_next {K} {S} {D} bases told opening next player new f entry taken same_seed seed seal (after, plays, stands) =
    let replays : Replays (basis_for bases player) (f.entries ++ entry ∷ []) at_first after = replays_more (basis_for bases player) f.entries entry f.reached after f.replays plays in
    let sealed : Replays (bases new.server.seal player.seed) (f.entries ++ entry ∷ []) at_first after =
    subst (λ (s : S). Replays (bases s player.seed) (f.entries ++ entry ∷ []) at_first after) (sym seal) replays in
    record {
      seed_is = seed ∙ f.seed_is ∙ sym same_seed;
      entries = f.entries ++ entry ∷ [];
      taken = taken;
      reached = after;
      replays = subst (λ (s : List ℕ). Replays (bases new.server.seal s) (f.entries ++ entry ∷ []) at_first after) (sym seed) sealed;
      stands = stands;
    }

module _ {K S D : Type 0} (bases : Bases S D) (told : K → Option DiskTold) (opening : Reading K) (player : Player S D) (f : Follows bases told opening player) where
  played_there : Replays (bases player.server.seal opening.seed) f.entries at_first f.reached
  played_there = subst (λ (s : List ℕ). Replays (bases player.server.seal s) f.entries at_first f.reached) f.seed_is f.replays

  -- a record that was read isn't lawful
  pub stops_at : (next : Reading K) (entry : Record) (at : ℕ) → at ≡ opening.at → opening.gate ≡ open_gate → told next.disk ≡ told opening.disk → next.seed ≡ opening.seed
      → HasTaken told (f.entries ++ entry ∷ []) next → (IsLawful (basis_for bases player) entry f.reached → ⊥)
      → IfSome (told opening.disk) (λ file. IsNoJournalAt (bases player.server.seal) at file.contents)
  stops_at next entry at place is_open same seed taken none =
      let more : IfSome (told opening.disk) (λ file. Behind opening.seed (f.entries ++ entry ∷ []) next.gate next.at next.len file) =
      subst (λ (s : List ℕ). IfSome (told opening.disk) (λ file. Behind s (f.entries ++ entry ∷ []) next.gate next.at next.len file)) seed
      (subst (λ (t : Option DiskTold). IfSome t (λ file. Behind next.seed (f.entries ++ entry ∷ []) next.gate next.at next.len file)) same taken) in
      let unlawful : IsLawful (bases player.server.seal opening.seed) entry f.reached → ⊥ =
      subst (λ (s : List ℕ). IsLawful (bases player.server.seal s) entry f.reached → ⊥) f.seed_is none in
      subst (λ (n : ℕ). IfSome (told opening.disk) (λ file. IsNoJournalAt (bases player.server.seal) n file.contents)) (sym place)
      (not_lawful (bases player.server.seal) opening.seed f.entries opening.gate opening.at opening.len f.reached (told opening.disk) entry next.gate next.at next.len is_open f.taken more played_there unlawful)
