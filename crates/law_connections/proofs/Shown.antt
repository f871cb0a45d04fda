-- What is computed of a joint run: whether its words are new, and whether its packets were made.
use Rattle.std.proofs.Common.{◌≡◌, ◌∙◌, ◌≢◌, ◌==◌, ◌<◌, length, ℕ, zero, suc, Bool, true, false, not, Option, Some, None, List, [], ◌∷◌, refl, sym, eq-eqb, inl, inr, arith}
use Rattle.std.specs.Prelude.{◌&&◌, slice_get}
use Rattle.std.specs.List.{All, AllPairs, Contains, list_any}
use Rattle.std.proofs.lemmas.Bool.{cases_Bool}
use Rattle.std.proofs.lemmas.List.Elements.{All-cons, All-nil}
use Rattle.std.proofs.lemmas.List.Kept.{AllPairs-cons}
use Rattle.envelope.specs.declared.parts.Dir.{Dir}
use Rattle.envelope.specs.declared.parts.Dir.TheVariants as way
use Rattle.server_node.specs.Trace.{Attach, Hear, Run, Tick}
use Rattle.world_rules.specs.Premises.{OpensOnly}
use Rattle.world_rules.specs.Setting.{Setting}
use Rattle.world_rules.specs.World.{Packet, World, counted}
use Rattle.law_connections.specs.Computed.{are_new, is_made, is_way}
use Rattle.law_connections.specs.Joint.{Joint, Step, Attaches, Begins, Does, Draws, Flushes, Hears, Renews, Serves, Starts, Submits, at_client_moment, at_moment, steps_on}
use Rattle.law_connections.specs.Premises.{IsStepByNoChance, NoChance}
use Rattle.law_connections.specs.Witness.{Down, Goes, Turn, Up, bytes_in, step_in, steps_in}

-- ---- words

pub both : (one other : Bool) → (one && other) ≡ true → (one ≡ true) × (other ≡ true)
both true other is = (refl, is)
both false other is = absurd (let e : false ≡ true = is in cc)

not-true : (b : Bool) → not b ≡ true → b ≡ false
not-true false is = refl
not-true true is = absurd (let e : false ≡ true = is in cc)

differs : (word other : ℕ) → (word == other) ≡ false → word ≢ other
differs word other is same = let e : true ≡ false = sym (eq-eqb word other same) ∙ is in absurd (cc)

none-same : (word : ℕ) (words : List ℕ) → list_any (λ other. word == other) words ≡ false → All (λ other. word ≢ other) words
none-same word [] is = All-nil (λ other. word ≢ other)
none-same word (other ∷ words) is =
    elim (cases_Bool (word == other)) [
      | inl same ↦ absurd (let e : true ≡ false = rw same at is in cc)
      | inr not_so ↦ All-cons (λ other. word ≢ other) other words (differs word other not_so) (none-same word words (rw not_so at is))
    ]

pub new-words : (words : List ℕ) → are_new words ≡ true → All (λ word. word ≢ 0) words × AllPairs (λ word other. word ≢ other) words
new-words [] is = (All-nil (λ word. word ≢ 0), λ i j d lt within. absurd (omega arith))
new-words (word ∷ words) is =
    let first = both (not (word == 0)) _ is in
    let second = both (not (list_any (λ other. word == other) words)) (are_new words) first.1 in
    let rest = new-words words second.1 in (
      All-cons (λ word. word ≢ 0) word words (differs word 0 (not-true (word == 0) first.0)) rest.0,
      AllPairs-cons (λ word other. word ≢ other) word words (none-same word words (not-true _ second.0)) rest.1,
    )

-- ---- packets

-- nothing comes to an end
abbrev pub is_quiet : Step ℕ → Bool
is_quiet (Serves (Hear now packet)) = false
is_quiet (Does number (Hears now packet)) = false
is_quiet step = true

abbrev pub turn_made : {V : Type 0} → Joint ℕ V → Turn → Bool
turn_made joint (Goes step) = is_quiet step
turn_made joint (Up number) = is_made way.Up (counted number joint.world.bag)
turn_made joint (Down number) = is_made way.Down (counted number joint.world.bag)

-- each packet that comes is one of the run that goes that way
abbrev pub turns_made : {V : Type 0} → Setting ℕ V → Joint ℕ V → List Turn → Bool
turns_made setting joint [] = true
turns_made setting joint (turn ∷ turns) = turn_made joint turn && turns_made setting (steps_on setting joint (step_in setting joint turn)) turns

way-same : (one other : Dir) → is_way one other ≡ true → one ≡ other
way-same way.Up way.Up is = refl
way-same way.Up way.Down is = absurd (let e : false ≡ true = is in cc)
way-same way.Down way.Up is = absurd (let e : false ≡ true = is in cc)
way-same way.Down way.Down is = refl

get-there : {X : Type 0} (xs : List X) (x : X) (i : ℕ) → slice_get xs i ≡ Some x → Contains xs x
get-there [] x i is = absurd (let e : None ≡ Some x = is in cc)
get-there (y ∷ xs) x zero is = let same : y ≡ x = cc in (0, omega arith, same)
get-there (y ∷ xs) x (suc i) is = let h = get-there xs x i is in let below : h.0 < length xs = h.1 in (suc h.0, omega arith, h.2)

counted-there : (number : ℕ) (bag : List Packet) (packet : Packet) → counted number bag ≡ Some packet → Contains bag packet
counted-there zero bag packet is = absurd (let e : None ≡ Some packet = is in cc)
counted-there (suc place) bag packet is = get-there bag packet place is

pub made-opens : {V : Type 0} (setting : Setting ℕ V) (world : World ℕ V) (now number : ℕ) (dir : Dir) (found : Option Packet) → counted number world.bag ≡ found → is_made dir found ≡ true
    → OpensOnly setting world now dir (bytes_in setting found)
made-opens setting world now number dir None is made = absurd (let e : false ≡ true = made in cc)
made-opens setting world now number dir (Some packet) is made = λ envelope opened.
    record { packet = packet; made = counted-there number world.bag packet is; way = way-same packet.dir dir made; same = refl }

quiet-step : {V : Type 0} (setting : Setting ℕ V) (joint : Joint ℕ V) (step : Step ℕ) → is_quiet step ≡ true → IsStepByNoChance setting joint step
quiet-step setting joint (Serves (Hear now packet)) is = absurd (let e : false ≡ true = is in cc)
quiet-step setting joint (Serves (Attach now name)) is = tt
quiet-step setting joint (Serves (Tick now)) is = tt
quiet-step setting joint (Serves (Run now)) is = tt
quiet-step setting joint (Starts draw) is = tt
quiet-step setting joint (Begins keys draw) is = tt
quiet-step setting joint (Does number (Submits body earlier)) is = tt
quiet-step setting joint (Does number (Draws words)) is = tt
quiet-step setting joint (Does number Attaches) is = tt
quiet-step setting joint (Does number Renews) is = tt
quiet-step setting joint (Does number (Flushes now)) is = tt
quiet-step setting joint (Does number (Hears now packet)) is = absurd (let e : false ≡ true = is in cc)

turn-so : {V : Type 0} (setting : Setting ℕ V) (joint : Joint ℕ V) (turn : Turn) → turn_made joint turn ≡ true → IsStepByNoChance setting joint (step_in setting joint turn)
turn-so setting joint (Goes step) is = quiet-step setting joint step is
turn-so setting joint (Up number) is =
    made-opens setting (at_moment 0 joint.world) _ number way.Up (counted number joint.world.bag) refl is
turn-so setting joint (Down number) is = λ seat at.
    made-opens setting (at_client_moment setting 1 0 joint.world) _ number way.Down (counted number joint.world.bag) refl is

pub no-chance : {V : Type 0} (setting : Setting ℕ V) (turns : List Turn) (joint : Joint ℕ V) → turns_made setting joint turns ≡ true → NoChance setting joint (steps_in setting joint turns)
no-chance setting [] joint is = tt
no-chance setting (turn ∷ turns) joint is =
    let parts = both (turn_made joint turn) (turns_made setting (steps_on setting joint (step_in setting joint turn)) turns) is in
    (turn-so setting joint turn parts.0, no-chance setting turns (steps_on setting joint (step_in setting joint turn)) parts.1)
