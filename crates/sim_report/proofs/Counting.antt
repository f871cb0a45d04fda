-- The packets and entries of a world, as they are kept.
use Rattle.std.proofs.Common.{◌≡◌, ◌∙◌, ℕ, ◌+◌, ◌<◌, Bool, true, false, List, [], ◌∷◌, ◌++◌, Option, Some, None, length, map, slice_get, suc, add-one, ap, sym, subst, refl, arith, if◌then◌else◌, take, length-append, append-nil}
use Rattle.std.specs.Prelude.{option_map}
use Rattle.std.specs.List.{filter, flat_map}
use Rattle.std.proofs.lemmas.Grind.{flat_map-append}
use Rattle.std.proofs.lemmas.List.Elements.{filter-append}
use Rattle.std.proofs.lemmas.List.{length-map}
use Rattle.std.proofs.lemmas.Option.{slice_get-get_or, slice_get-map}
use Rattle.envelope.specs.declared.parts.Dir.{Dir}
use Rattle.envelope.specs.declared.parts.Dir.TheVariants.{Up, Down}
use Rattle.server_dispatch.specs.Entries.{entry_told}
use Rattle.server_dispatch.specs.declared.entries.Entry.{Entry}
use Rattle.sim_server.specs.Hosts.{kept_in, kept_of}
use Rattle.sim_server.specs.Made.{Made}
use Rattle.sim_server.specs.Registers.{entered, entered_in}
use Rattle.sim_server.specs.declared.register.Recorded.{Recorded}
use Rattle.world_rules.specs.Setting.{Setting}
use Rattle.world_rules.specs.World.{Entered, Packet, bytes_of, counted}
use Rattle.sim_report.specs.Bags.{bytes_in}
use Rattle.sim_report.proofs.Lines.{take_more}
use Rattle.sim_text.specs.Counts.{Tally, tally_line}

in_either : (dir : Dir) (session : ℕ) (bytes : List ℕ) → bytes_in (kept_in dir session bytes) ≡ bytes
in_either Up session bytes = refl
in_either Down session bytes = refl

-- the bytes of the packets that are kept of a bag are those that the setting seals them to
pub bytes_kept : {D V : Type 0} (setting : Setting D V) (bag : List Packet) → map bytes_in (map (kept_of setting) bag) ≡ map (bytes_of setting) bag
bytes_kept setting [] = refl
bytes_kept setting (packet ∷ bag) = rw (in_either packet.dir packet.envelope.session (bytes_of setting packet), bytes_kept setting bag) refl

-- a packet's bytes, by its place
pub bytes_at : (made : List Made) (place : ℕ) (one : Made) → Some one ≡ counted (place + 1) made → slice_get (map bytes_in made) place ≡ Some (bytes_in one)
bytes_at made place one here =
    let there : slice_get made place ≡ Some one = sym (here ∙ ap (λ n. counted n made) (add-one place)) in
    slice_get-map bytes_in made place ∙ ap (option_map bytes_in) there

no_way : {X Y : Type 0} (one : Option X) (x : X) (a b : Y) → None ≡ one → one ≡ Some x → a ≡ b
no_way one x a b none some = cc

-- there is one at each place
pub never_none : (made : List Made) (place : ℕ) (bytes : List ℕ) → None ≡ counted (place + 1) made → place < length (map bytes_in made)
    → slice_get (map bytes_in made) place ≡ Some bytes
never_none [] place bytes none less = absurd (omega (arith, less))
never_none (first ∷ made) place bytes none less =
    let within : place < length (first ∷ made) = subst (λ n. place < n) (length-map (first ∷ made) bytes_in) less in
    no_way (slice_get (first ∷ made) place) _ (slice_get (map bytes_in (first ∷ made)) place) (Some bytes)
    (none ∙ ap (λ n. counted n (first ∷ made)) (add-one place)) (slice_get-get_or (first ∷ made) place first within)

-- ---- entries that ran

same_if : {X Y : Type 0} (b : Bool) (x : X) (y : Y) (xs : List X) (ys : List Y) → length xs ≡ length ys
    → length (if b then x ∷ xs else xs) ≡ length (if b then y ∷ ys else ys)
same_if true x y xs ys same = ap suc same
same_if false x y xs ys same = same

ran_in : (start : ℕ) (entries : List Entry)
    → length (filter (λ (one : Entered). one.entry.ran) (map (entered start) (map entry_told entries))) ≡ length (filter (λ (entry : Entry). entry.ran) entries)
ran_in start [] = refl
ran_in start (entry ∷ entries) =
    same_if entry.ran (entered start (entry_told entry)) entry (filter (λ (one : Entered). one.entry.ran) (map (entered start) (map entry_told entries)))
    (filter (λ (entry : Entry). entry.ran) entries) (ran_in start entries)

-- with those of one more event
pub runs_on : (events : List Recorded) (place runs more : ℕ) (event : Recorded) (entries : List Entry) → slice_get events place ≡ Some event
    → map entry_told entries ≡ event.entries.entries → more ≡ length (filter (λ (entry : Entry). entry.ran) entries)
    → runs ≡ length (filter (λ (one : Entered). one.entry.ran) (flat_map entered_in (take place events)))
    → runs + more ≡ length (filter (λ (one : Entered). one.entry.ran) (flat_map entered_in (take (place + 1) events)))
runs_on events place runs more event entries here kept count so_far =
    let ran : Entered → Bool = λ one. one.entry.ran in
    let last : more ≡ length (filter ran (entered_in event)) =
    count ∙ sym (ran_in event.start entries) ∙ ap (λ some. length (filter ran (map (entered event.start) some))) kept in
    let whole : flat_map entered_in (take (place + 1) events) ≡ flat_map entered_in (take place events) ++ entered_in event =
    ap (flat_map entered_in) (take_more events place event here)
    ∙ (flat_map-append entered_in (take place events) (event ∷ []) ∙ ap (λ end. flat_map entered_in (take place events) ++ end) (append-nil (entered_in event))) in
    sym (ap (λ all. length (filter ran all)) whole
    ∙ ap length (filter-append ran (flat_map entered_in (take place events)) (entered_in event))
    ∙ length-append (filter ran (flat_map entered_in (take place events))) (filter ran (entered_in event))
    ∙ ap (λ n. n + length (filter ran (entered_in event))) (sym so_far) ∙ ap (λ n. runs + n) (sym last))

-- ---- the summary

pub tally_same : (one other : Tally) (runs ran packets made bytes wide : ℕ) → one ≡ other → runs ≡ ran → packets ≡ made → bytes ≡ wide
    → tally_line one runs packets bytes ≡ tally_line other ran made wide
tally_same one other runs ran packets made bytes wide a b c d = rw (a, b, c, d) refl
