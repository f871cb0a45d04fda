-- A server with its journal, and the end of a run that was cut off.
use Rattle.std.proofs.Common.{◌≡◌, ℕ, Option, None, Some, List, [], ◌∷◌, ◌++◌, max, refl, sym, ap, subst, ◌∙◌, arith}
use Rattle.std.specs.Prelude.{◌≢◌, IfSome, IsSomeAnd}
use Rattle.disks.specs.Told.{DiskTold}
use Rattle.sess_records.specs.declared.records.Event.TheVariants.{Interrupted}
use Rattle.sess_records.specs.declared.records.Record.{Record}
use Rattle.sess_records.specs.Seen.{File}
use Rattle.sess_records.specs.Format.{Spells, open_gate}
use Rattle.sess_records.specs.Standing.{Behind, Holds}
use Rattle.server_core.specs.Server.{Kept, StandsFor}
use Rattle.sess_journal.specs.Keeping.{Book, KeepsFor, Resumed, Seen, disk_in, ending, ending_by}
use Rattle.sess_journal.specs.Playing.{Leads, Player, StandsAt, basis_for}
use Rattle.sess_journal.specs.Replay.{Bases, Reached, Replays, at_first}
use Rattle.sess_journal.proofs.NextLemmas.{replays_more}
use Rattle.sess_journal.proofs.PlayLemmas.{plays_of}

pub append_none : (entries : List Record) → entries ++ [] ≡ entries
append_none [] = refl
append_none (entry ∷ entries) = ap (λ (l : List Record). entry ∷ l) (append_none entries)

-- the end of a run that began in the last record
pub ending_is : (now job : ℕ) (reached : Reached) (moment place : ℕ) → reached.begun ≡ Some job → moment ≡ max reached.server.now now → place ≡ reached.place
    → ending now reached ≡ record { moment = moment; place = place; event = Interrupted } ∷ []
ending_is now job reached moment place begun is_moment is_place =
    let entry : Record = record { moment = moment; place = place; event = Interrupted } in
    let same_entry : entry ≡ record { moment = max reached.server.now now; place = reached.place; event = Interrupted } =
    (λ i. record { moment = is_moment i; place = is_place i; event = Interrupted }) in
    ap (ending_by now reached.server.now reached.place) begun ∙ ap (λ (r : Record). r ∷ []) (sym same_entry)

-- the disk of a journal that is open
pub disk_is : {K : Type 0} → (book : Book K) (file : File K) → book ≡ record { journal = Some file; lost = None } → disk_in book ≡ Some file.disk
disk_is book file is = ap disk_in is

pub at_disk : {K : Type 0} → (found : Option K) (disk : K) (P : K → Type 0) → found ≡ Some disk → P disk → IsSomeAnd found P
at_disk {K} found disk P is h = subst (λ (o : Option K). IsSomeAnd o P) (sym is) h

module _ {K S D : Type 0} (bases : Bases S D) (told : K → Option DiskTold) where
  -- a server and its journal stand for what was reached
  pub keeps_by : (desk : Seen K S D) (player : Player S D) (file : File K) (entries : List Record) (reached : Reached) → desk.server ≡ player.server → desk.latest ≡ player.latest
      → desk.draw ≡ player.draw → desk.book ≡ record { journal = Some file; lost = None } → player.seed ≡ file.seed → Holds told entries file
      → Replays (basis_for bases player) entries at_first reached → StandsAt bases reached player → KeepsFor bases told entries desk reached.server
  keeps_by desk player file entries reached server latest draw book seed holds replays stands =
      let at_seed : Replays (bases player.server.seal file.seed) entries at_first reached =
      subst (λ (s : List ℕ). Replays (bases player.server.seal s) entries at_first reached) seed replays in
      let drawn : player.draw ≡ (bases player.server.seal file.seed).at reached.place =
      subst (λ (s : List ℕ). player.draw ≡ (bases player.server.seal s).at reached.place) seed stands.drawn in
      record {
        stands = subst (λ (kept : Kept S). StandsFor kept reached.server) (sym server) stands.stands;
        recorded = record {
          file = file;
          opened = ap (λ (b : Book K). b.journal) book;
          holds = holds;
          reached = reached;
          replays = subst (λ (kept : Kept S). Replays (bases kept.seal file.seed) entries at_first reached) (sym server) at_seed;
          same = refl;
          later = omega arith;
          latest_is = latest ∙ stands.latest_is;
          place = stands.place;
          drawn = draw ∙ subst (λ (kept : Kept S). player.draw ≡ (bases kept.seal file.seed).at reached.place) (sym server) drawn;
        };
      }

  -- no run was cut off
  pub resumed_none : (now : ℕ) (desk : Seen K S D) (player : Player S D) (file : File K) (entries : List Record) (reached : Reached) → player.begun ≡ None
      → desk.server ≡ player.server → desk.latest ≡ player.latest → desk.draw ≡ player.draw → desk.book ≡ record { journal = Some file; lost = None } → Holds told entries file
      → player.seed ≡ file.seed → Replays (basis_for bases player) entries at_first reached → StandsAt bases reached player
      → Resumed bases told file.seed now reached (entries ++ ending now reached) desk
  resumed_none now desk player file entries reached none server latest draw book holds seed replays stands =
      let begun : reached.begun ≡ None = sym stands.begun_is ∙ none in
      let empty : ending now reached ≡ [] = ap (ending_by now reached.server.now reached.place) begun in
      let all : entries ++ ending now reached ≡ entries = ap (λ (l : List Record). entries ++ l) empty ∙ append_none entries in
      record {
        after = reached;
        replays = subst (λ (l : List Record). Replays (bases desk.server.seal file.seed) l reached reached) (sym empty) refl;
        stands = subst (λ (l : List Record). KeepsFor bases told l desk reached.server) (sym all) (keeps_by desk player file entries reached server latest draw book seed holds replays stands);
        seed_is = subst (λ (b : Book K). IsSomeAnd b.journal (λ one. one.seed ≡ file.seed)) (sym book) refl;
      }

  -- a run was cut off
  pub resumed_some : (now job : ℕ) (desk : Seen K S D) (old new : Player S D) (file added : File K) (entries : List Record) (reached : Reached) (moment place : ℕ)
      → old.begun ≡ Some job → desk.server ≡ new.server → desk.latest ≡ new.latest → desk.draw ≡ new.draw → desk.book ≡ record { journal = Some added; lost = None }
      → added.seed ≡ file.seed → new.server.seal ≡ old.server.seal → new.seed ≡ old.seed → moment ≡ max reached.server.now now → place ≡ reached.place
      → Holds told (entries ++ record { moment = moment; place = place; event = Interrupted } ∷ []) added
      → old.seed ≡ file.seed → Replays (basis_for bases old) entries at_first reached → StandsAt bases reached old → Leads bases moment place Interrupted reached new
      → Resumed bases told file.seed now reached (entries ++ ending now reached) desk
  resumed_some now job desk old new file added entries reached moment place begun server latest draw book same_seed seal seed is_moment is_place holds from replays stands leads =
      let entry : Record = record { moment = moment; place = place; event = Interrupted } in
      let its = plays_of bases old new entry Interrupted reached seal seed refl (omega (arith, is_moment)) (omega (arith, is_place)) leads in
      let after : Reached = its.0 in
      let more : Replays (basis_for bases old) (entries ++ entry ∷ []) at_first after = replays_more (basis_for bases old) entries entry reached after replays its.1 in
      let sealed : Replays (bases new.server.seal old.seed) (entries ++ entry ∷ []) at_first after =
      subst (λ (s : S). Replays (bases s old.seed) (entries ++ entry ∷ []) at_first after) (sym seal) more in
      let all : Replays (basis_for bases new) (entries ++ entry ∷ []) at_first after =
      subst (λ (s : List ℕ). Replays (bases new.server.seal s) (entries ++ entry ∷ []) at_first after) (sym seed) sealed in
      let begun_too : reached.begun ≡ Some job = sym stands.begun_is ∙ begun in
      let ends : ending now reached ≡ entry ∷ [] = ending_is now job reached moment place begun_too is_moment is_place in
      let desk_seal : desk.server.seal ≡ old.server.seal = ap (λ (kept : Kept S). kept.seal) server ∙ seal in
      let last : Replays (bases old.server.seal old.seed) (entry ∷ []) reached after = (after, its.1, refl) in
      let last_sealed : Replays (bases desk.server.seal old.seed) (entry ∷ []) reached after =
      subst (λ (s : S). Replays (bases s old.seed) (entry ∷ []) reached after) (sym desk_seal) last in
      record {
        after = after;
        replays =
            subst (λ (s : List ℕ). Replays (bases desk.server.seal s) (ending now reached) reached after) from
            (subst (λ (l : List Record). Replays (bases desk.server.seal old.seed) l reached after) (sym ends) last_sealed);
        stands =
            subst (λ (l : List Record). KeepsFor bases told (entries ++ l) desk after.server) (sym ends)
            (keeps_by desk new added (entries ++ entry ∷ []) after server latest draw book (seed ∙ from ∙ sym same_seed) holds all its.2);
        seed_is = subst (λ (b : Book K). IsSomeAnd b.journal (λ one. one.seed ≡ file.seed)) (sym book) same_seed;
      }

-- ---- an opening

-- what a file was read as up to a closed gate is what it spells
pub spells_by : ((seed : List ℕ) (entries : List Record) (gate at len : ℕ) (told : DiskTold) → Behind seed entries gate at len told → gate ≢ open_gate → Spells seed entries told.contents)
    → (seed : List ℕ) (entries : List Record) (gate at len : ℕ) (old new : Option DiskTold) → IfSome new (λ file. Behind seed entries gate at len file) → gate ≢ open_gate
    → IfSome old (λ before. IsSomeAnd new (λ after. after.contents ≡ before.contents)) → IfSome old (λ before. Spells seed entries before.contents)
spells_by read seed entries gate at len None new behind shut same = tt
spells_by read seed entries gate at len (Some before) None behind shut same = absurd same
spells_by read seed entries gate at len (Some before) (Some after) behind shut same =
    subst (λ (l : List ℕ). Spells seed entries l) same (read seed entries gate at len after behind shut)
