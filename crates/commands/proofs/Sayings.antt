-- What words say: by their first word, and once.
use Rattle.std.proofs.Common.{◌≡◌, ◌≢◌, ◌∙◌, ℕ, ◌<◌, ◌^◌, List, [], ◌∷◌, Bool, true, false, Option, Some, None, Result, Ok, ap, sym, refl, arith, codes, cond, map, option_map}
use Rattle.std.specs.Prelude.{slice_get}
use Rattle.std.specs.List.{list_any}
use Rattle.std.specs.Fmt.{decimal}
use Rattle.std.specs.Int.{w64, to_le_bytes, from_le_bytes}
use Rattle.std.specs.Str.{bytes_eq}
use Rattle.std.proofs.lemmas.Fmt.{decimal_injective}
use Rattle.std.proofs.lemmas.Nat.{from_le_bytes-to_le_bytes_8}
use Rattle.std.proofs.lemmas.Option.{slice_get-map}
use Rattle.std.proofs.lemmas.Slice.Eq.{bytes_eq-Decides}
use Rattle.clap.specs.Words.{Row}
use Rattle.hex.specs.Hex.{decode_sized}
use Rattle.hex.specs.declared.error.FromHexError.{FromHexError}
use Rattle.clap.proofs.WalkLemmas.{list_any-map}
use Rattle.transport.specs.declared.form.Form.{Form}
use Rattle.transport.specs.declared.form.Form.TheVariants.{Abridged, Intermediate, Padded, Full}
use Rattle.commands.specs.Simple.{sim, load, serve, call, pair, check, relay, rows}
use Rattle.commands.specs.Values.{HasText, HasFlag, HasNumber, MayHaveNumber, HasId, MayHaveId, HasForm, HasSecret, form_text, id_text}
use Rattle.commands.specs.Says.{Says, SaysServe, SaysCall, SaysPair, SaysRelay, asks_help, page_word}
use Rattle.commands.specs.Inner.{IsTold, SaysNothing}
use Rattle.commands.specs.declared.command.Command.{Command}
use Rattle.commands.specs.declared.command.Command.TheVariants.{Sim, Load, Serve, Call, Pair, Check, Relay, Help, Version}
use Rattle.commands.specs.declared.command.ServeOptions.{ServeOptions}
use Rattle.commands.specs.declared.command.CallOptions.{CallOptions}
use Rattle.commands.specs.declared.command.PairOptions.{PairOptions}
use Rattle.commands.specs.declared.command.RelayOptions.{RelayOptions}
use Rattle.commands.specs.declared.page.Page.{Page}
use Rattle.commands.specs.declared.page.Page.TheVariants as page
use Rattle.commands.proofs.Ids.{decoded}

-- ---- first words

-- the first word is not two words
pub apart : (words : List (List ℕ)) (a b : List ℕ) → slice_get words 0 ≡ Some a → slice_get words 0 ≡ Some b → bytes_eq a b ≡ false → ⊥
apart words a b p q different =
    let same : a ≡ b = cc in
    let yes = (bytes_eq-Decides a b).1 same in cc

not_both : (words : List (List ℕ)) → asks_help words ≡ true → asks_help words ≡ false → ⊥
not_both words p q = cc

no_help : (words : List (List ℕ)) → words ≡ codes "--version" ∷ [] → asks_help words ≡ false
no_help words e = ap asks_help e

-- a command that isn't told anything isn't said
pub refused-sim : (words : List (List ℕ)) → slice_get words 0 ≡ Some (codes "sim") → asks_help words ≡ false
    → ((told : Bool) → IsTold sim (HasFlag (codes "wire")) words told → ⊥) → (said : Command) → Says words said → ⊥
refused-sim words first plain none (Sim told) s = none told (record { taken = s.means.0.taken; tells = s.means.1 })
refused-sim words first plain none (Load told) s = apart words _ _ first s.first refl
refused-sim words first plain none (Serve told) s = apart words _ _ first s.first refl
refused-sim words first plain none (Call told) s = apart words _ _ first s.first refl
refused-sim words first plain none (Pair told) s = apart words _ _ first s.first refl
refused-sim words first plain none Check s = apart words _ _ first s.first refl
refused-sim words first plain none (Relay told) s = apart words _ _ first s.first refl
refused-sim words first plain none (Help page) s = not_both words s.means plain
refused-sim words first plain none Version s = apart words _ _ first s.first refl

-- a command that isn't told anything isn't said
pub refused-load : (words : List (List ℕ)) → slice_get words 0 ≡ Some (codes "load") → asks_help words ≡ false
    → ((told : ℕ) → IsTold load (HasNumber (codes "calls") 1 10000) words told → ⊥) → (said : Command) → Says words said → ⊥
refused-load words first plain none (Sim told) s = apart words _ _ first s.first refl
refused-load words first plain none (Load told) s = none told (record { taken = s.means.0.taken; tells = s.means.1 })
refused-load words first plain none (Serve told) s = apart words _ _ first s.first refl
refused-load words first plain none (Call told) s = apart words _ _ first s.first refl
refused-load words first plain none (Pair told) s = apart words _ _ first s.first refl
refused-load words first plain none Check s = apart words _ _ first s.first refl
refused-load words first plain none (Relay told) s = apart words _ _ first s.first refl
refused-load words first plain none (Help page) s = not_both words s.means plain
refused-load words first plain none Version s = apart words _ _ first s.first refl

-- a command that isn't told anything isn't said
pub refused-serve : (words : List (List ℕ)) → slice_get words 0 ≡ Some (codes "serve") → asks_help words ≡ false
    → ((told : ServeOptions) → IsTold serve SaysServe words told → ⊥) → (said : Command) → Says words said → ⊥
refused-serve words first plain none (Sim told) s = apart words _ _ first s.first refl
refused-serve words first plain none (Load told) s = apart words _ _ first s.first refl
refused-serve words first plain none (Serve told) s = none told (record { taken = s.means.0.taken; tells = s.means.1 })
refused-serve words first plain none (Call told) s = apart words _ _ first s.first refl
refused-serve words first plain none (Pair told) s = apart words _ _ first s.first refl
refused-serve words first plain none Check s = apart words _ _ first s.first refl
refused-serve words first plain none (Relay told) s = apart words _ _ first s.first refl
refused-serve words first plain none (Help page) s = not_both words s.means plain
refused-serve words first plain none Version s = apart words _ _ first s.first refl

-- a command that isn't told anything isn't said
pub refused-call : (words : List (List ℕ)) → slice_get words 0 ≡ Some (codes "call") → asks_help words ≡ false
    → ((told : CallOptions) → IsTold call SaysCall words told → ⊥) → (said : Command) → Says words said → ⊥
refused-call words first plain none (Sim told) s = apart words _ _ first s.first refl
refused-call words first plain none (Load told) s = apart words _ _ first s.first refl
refused-call words first plain none (Serve told) s = apart words _ _ first s.first refl
refused-call words first plain none (Call told) s = none told (record { taken = s.means.0.taken; tells = s.means.1 })
refused-call words first plain none (Pair told) s = apart words _ _ first s.first refl
refused-call words first plain none Check s = apart words _ _ first s.first refl
refused-call words first plain none (Relay told) s = apart words _ _ first s.first refl
refused-call words first plain none (Help page) s = not_both words s.means plain
refused-call words first plain none Version s = apart words _ _ first s.first refl

-- a command that isn't told anything isn't said
pub refused-pair : (words : List (List ℕ)) → slice_get words 0 ≡ Some (codes "pair") → asks_help words ≡ false
    → ((told : PairOptions) → IsTold pair SaysPair words told → ⊥) → (said : Command) → Says words said → ⊥
refused-pair words first plain none (Sim told) s = apart words _ _ first s.first refl
refused-pair words first plain none (Load told) s = apart words _ _ first s.first refl
refused-pair words first plain none (Serve told) s = apart words _ _ first s.first refl
refused-pair words first plain none (Call told) s = apart words _ _ first s.first refl
refused-pair words first plain none (Pair told) s = none told (record { taken = s.means.0.taken; tells = s.means.1 })
refused-pair words first plain none Check s = apart words _ _ first s.first refl
refused-pair words first plain none (Relay told) s = apart words _ _ first s.first refl
refused-pair words first plain none (Help page) s = not_both words s.means plain
refused-pair words first plain none Version s = apart words _ _ first s.first refl

-- a command that isn't told anything isn't said
pub refused-check : (words : List (List ℕ)) → slice_get words 0 ≡ Some (codes "check") → asks_help words ≡ false
    → ((told : Unit {0}) → IsTold check SaysNothing words told → ⊥) → (said : Command) → Says words said → ⊥
refused-check words first plain none (Sim told) s = apart words _ _ first s.first refl
refused-check words first plain none (Load told) s = apart words _ _ first s.first refl
refused-check words first plain none (Serve told) s = apart words _ _ first s.first refl
refused-check words first plain none (Call told) s = apart words _ _ first s.first refl
refused-check words first plain none (Pair told) s = apart words _ _ first s.first refl
refused-check words first plain none Check s = none tt (record { taken = s.means.taken; tells = tt })
refused-check words first plain none (Relay told) s = apart words _ _ first s.first refl
refused-check words first plain none (Help page) s = not_both words s.means plain
refused-check words first plain none Version s = apart words _ _ first s.first refl

-- a command that isn't told anything isn't said
pub refused-relay : (words : List (List ℕ)) → slice_get words 0 ≡ Some (codes "relay") → asks_help words ≡ false
    → ((told : RelayOptions) → IsTold relay SaysRelay words told → ⊥) → (said : Command) → Says words said → ⊥
refused-relay words first plain none (Sim told) s = apart words _ _ first s.first refl
refused-relay words first plain none (Load told) s = apart words _ _ first s.first refl
refused-relay words first plain none (Serve told) s = apart words _ _ first s.first refl
refused-relay words first plain none (Call told) s = apart words _ _ first s.first refl
refused-relay words first plain none (Pair told) s = apart words _ _ first s.first refl
refused-relay words first plain none Check s = apart words _ _ first s.first refl
refused-relay words first plain none (Relay told) s = none told (record { taken = s.means.0.taken; tells = s.means.1 })
refused-relay words first plain none (Help page) s = not_both words s.means plain
refused-relay words first plain none Version s = apart words _ _ first s.first refl

-- help is asked for, and behind no such word there is a page
pub refused-help : (words : List (List ℕ)) (word : List ℕ) → slice_get words 0 ≡ Some word → asks_help words ≡ true
    → ((page : Page) → word ≢ page_word page) → (said : Command) → Says words said → ⊥
refused-help words word first asked none (Sim told) s = not_both words asked s.means.0.plain
refused-help words word first asked none (Load told) s = not_both words asked s.means.0.plain
refused-help words word first asked none (Serve told) s = not_both words asked s.means.0.plain
refused-help words word first asked none (Call told) s = not_both words asked s.means.0.plain
refused-help words word first asked none (Pair told) s = not_both words asked s.means.0.plain
refused-help words word first asked none Check s = not_both words asked s.means.plain
refused-help words word first asked none (Relay told) s = not_both words asked s.means.0.plain
refused-help words word first asked none (Help page) s = let f = s.first in none page cc
refused-help words word first asked none Version s = not_both words asked (no_help words s.means)

-- ---- values

one_flag : (name : List ℕ) (rows : List Row) (a b : Bool) → HasFlag name rows a → HasFlag name rows b → a ≡ b
one_flag name rows true true p q = refl
one_flag name rows true false p q = sym (q.1 (p.0 refl))
one_flag name rows false true p q = p.1 (q.0 refl)
one_flag name rows false false p q = refl

one_number : (name : List ℕ) (least most : ℕ) (rows : List Row) (a b : ℕ) → most < 2 ^ 64 → HasNumber name least most rows a → HasNumber name least most rows b → a ≡ b
one_number name least most rows a b fits p q =
    let f = p.spelled in
    let g = q.spelled in
    let x = p.most_or_less in
    let y = q.most_or_less in
    let same : decimal a ≡ decimal b = cc in
    decimal_injective a b (omega arith) (omega arith) same

may_one_number : (name : List ℕ) (least most : ℕ) (rows : List Row) (a b : Option ℕ) → most < 2 ^ 64 → MayHaveNumber name least most rows a → MayHaveNumber name least most rows b → a ≡ b
may_one_number name least most rows None None fits p q = refl
may_one_number name least most rows None (Some b) fits p q = let g = q.spelled in cc
may_one_number name least most rows (Some a) None fits p q = let f = p.spelled in cc
may_one_number name least most rows (Some a) (Some b) fits p q = ap Some (one_number name least most rows a b fits p q)

one_id : (name : List ℕ) (rows : List Row) (a b : ℕ) → HasId name rows a → HasId name rows b → a ≡ b
one_id name rows a b p q =
    let f = p.spelled in
    let g = q.spelled in
    let same : id_text a ≡ id_text b = cc in
    let read = decoded (id_text a) a refl in
    let read_too = decoded (id_text a) b same in
    let bytes : to_le_bytes w64 a ≡ to_le_bytes w64 b = cc in
    sym (from_le_bytes-to_le_bytes_8 a p.long) ∙ (ap (from_le_bytes w64) bytes ∙ from_le_bytes-to_le_bytes_8 b q.long)

may_one_id : (name : List ℕ) (rows : List Row) (a b : Option ℕ) → MayHaveId name rows a → MayHaveId name rows b → a ≡ b
may_one_id name rows None None p q = refl
may_one_id name rows None (Some b) p q = let g = q.spelled in cc
may_one_id name rows (Some a) None p q = let f = p.spelled in cc
may_one_id name rows (Some a) (Some b) p q = ap Some (one_id name rows a b p q)

abbrev form_named : List ℕ → Option Form
form_named text = cond (bytes_eq text (codes "abridged")) (Some Abridged) (cond (bytes_eq text (codes "intermediate")) (Some Intermediate)
    (cond (bytes_eq text (codes "padded")) (Some Padded) (Some Full)))

form_named-text : (form : Form) → form_named (form_text form) ≡ Some form
form_named-text Abridged = refl
form_named-text Intermediate = refl
form_named-text Padded = refl
form_named-text Full = refl

one_form : (name : List ℕ) (rows : List Row) (a b : Form) → HasForm name rows a → HasForm name rows b → a ≡ b
one_form name rows a b p q =
    let same : form_text a ≡ form_text b = cc in
    let x = form_named-text a in
    let y = form_named-text b in
    let named = ap form_named same in cc

one_text : (name : List ℕ) (rows : List Row) (a b : List ℕ) → HasText name rows a → HasText name rows b → a ≡ b
one_text name rows a b p q = cc

abbrev page_named : List ℕ → Option Page
page_named text = cond (bytes_eq text (codes "--help")) (Some page.Program) (cond (bytes_eq text (codes "sim")) (Some page.Sim)
    (cond (bytes_eq text (codes "load")) (Some page.Load) (cond (bytes_eq text (codes "serve")) (Some page.Serve)
    (cond (bytes_eq text (codes "call")) (Some page.Call) (cond (bytes_eq text (codes "pair")) (Some page.Pair)
    (cond (bytes_eq text (codes "check")) (Some page.Check) (Some page.Relay)))))))

page_named-word : (p : Page) → page_named (page_word p) ≡ Some p
page_named-word page.Program = refl
page_named-word page.Sim = refl
page_named-word page.Load = refl
page_named-word page.Serve = refl
page_named-word page.Call = refl
page_named-word page.Pair = refl
page_named-word page.Check = refl
page_named-word page.Relay = refl

one_page : (words : List (List ℕ)) (a b : Page) → slice_get words 0 ≡ Some (page_word a) → slice_get words 0 ≡ Some (page_word b) → a ≡ b
one_page words a b p q =
    let same : page_word a ≡ page_word b = cc in
    let x = page_named-word a in
    let y = page_named-word b in
    let named = ap page_named same in cc

-- ---- options

abbrev serving : List ℕ → ℕ → ℕ → Option ℕ → Option (List ℕ) → ServeOptions
serving keys port conns stop_after journal = record { keys = keys; port = port; conns = conns; stop_after = stop_after; journal = journal }

one_serving : (rows : List Row) (a b : ServeOptions) → SaysServe rows a → SaysServe rows b → a ≡ b
one_serving rows a b p q =
    let keys = one_text _ rows _ _ p.keys q.keys in
    let port = one_number _ _ 65535 rows _ _ (omega arith) p.port q.port in
    let conns = one_number _ _ 1000 rows _ _ (omega arith) p.conns q.conns in
    let stop_after = may_one_number _ _ 1000000000 rows _ _ (omega arith) p.stop_after q.stop_after in
    ap (λ k. serving k a.port a.conns a.stop_after a.journal) keys
    ∙ (ap (λ n. serving b.keys n a.conns a.stop_after a.journal) port
    ∙ (ap (λ n. serving b.keys b.port n a.stop_after a.journal) conns
    ∙ (ap (λ o. serving b.keys b.port b.conns o a.journal) stop_after
    ∙ ap (λ o. serving b.keys b.port b.conns b.stop_after o) (sym p.journal ∙ q.journal))))

abbrev calling : List ℕ → ℕ → ℕ → Form → Bool → ℕ → Option ℕ → CallOptions
calling keys key port form obfuscate retries perm =
    record { keys = keys; key = key; port = port; form = form; obfuscate = obfuscate; retries = retries; perm = perm }

one_calling : (rows : List Row) (a b : CallOptions) → SaysCall rows a → SaysCall rows b → a ≡ b
one_calling rows a b p q =
    let keys = one_text _ rows _ _ p.keys q.keys in
    let key = one_id _ rows _ _ p.key q.key in
    let port = one_number _ _ 65535 rows _ _ (omega arith) p.port q.port in
    let form = one_form _ rows _ _ p.form q.form in
    let obfuscate = one_flag _ rows _ _ p.obfuscate q.obfuscate in
    let retries = one_number _ _ 1000 rows _ _ (omega arith) p.retries q.retries in
    let perm = may_one_id _ rows _ _ p.perm q.perm in
    ap (λ k. calling k a.key a.port a.form a.obfuscate a.retries a.perm) keys
    ∙ (ap (λ n. calling b.keys n a.port a.form a.obfuscate a.retries a.perm) key
    ∙ (ap (λ n. calling b.keys b.key n a.form a.obfuscate a.retries a.perm) port
    ∙ (ap (λ f. calling b.keys b.key b.port f a.obfuscate a.retries a.perm) form
    ∙ (ap (λ o. calling b.keys b.key b.port b.form o a.retries a.perm) obfuscate
    ∙ (ap (λ n. calling b.keys b.key b.port b.form b.obfuscate n a.perm) retries
    ∙ ap (λ o. calling b.keys b.key b.port b.form b.obfuscate b.retries o) perm)))))

abbrev pairing : List ℕ → ℕ → ℕ → ℕ → PairOptions
pairing keys key port stop_after = record { keys = keys; key = key; port = port; stop_after = stop_after }

one_pairing : (rows : List Row) (a b : PairOptions) → SaysPair rows a → SaysPair rows b → a ≡ b
one_pairing rows a b p q =
    let keys = one_text _ rows _ _ p.keys q.keys in
    let key = one_id _ rows _ _ p.key q.key in
    let port = one_number _ _ 65534 rows _ _ (omega arith) p.port q.port in
    let stop_after = one_number _ _ 1000000000 rows _ _ (omega arith) p.stop_after q.stop_after in
    ap (λ k. pairing k a.key a.port a.stop_after) keys
    ∙ (ap (λ n. pairing b.keys n a.port a.stop_after) key
    ∙ (ap (λ n. pairing b.keys b.key n a.stop_after) port
    ∙ ap (λ n. pairing b.keys b.key b.port n) stop_after))

abbrev relaying : List ℕ → Form → RelayOptions
relaying secret form = record { secret = secret; form = form }

-- what is decoded of one text is one list
decoded_once : (found : Result (List ℕ) FromHexError) (a b : List ℕ) → found ≡ Ok a → found ≡ Ok b → a ≡ b
decoded_once found a b p q = cc

one_secret : (name : List ℕ) (rows : List Row) (a b : List ℕ) → HasSecret name rows a → HasSecret name rows b → a ≡ b
one_secret name rows a b p q =
    let same = one_text name rows _ _ p.there q.there in
    decoded_once _ a b p.spelled (ap (λ t. decode_sized t 16) same ∙ q.spelled)

one_relaying : (rows : List Row) (a b : RelayOptions) → SaysRelay rows a → SaysRelay rows b → a ≡ b
one_relaying rows a b p q =
    let secret = one_secret _ rows _ _ p.secret q.secret in
    let form = one_form _ rows _ _ p.form q.form in
    ap (λ s. relaying s a.form) secret ∙ ap (λ f. relaying b.secret f) form

-- ---- commands

pub one_command : (words : List (List ℕ)) (a b : Command) → Says words a → Says words b → a ≡ b
one_command words (Sim a) (Sim b) p q = ap Sim (one_flag (codes "wire") (rows sim words) a b p.means.1 q.means.1)
one_command words (Sim a) (Load b) p q = absurd (apart words _ _ p.first q.first refl)
one_command words (Sim a) (Serve b) p q = absurd (apart words _ _ p.first q.first refl)
one_command words (Sim a) (Call b) p q = absurd (apart words _ _ p.first q.first refl)
one_command words (Sim a) (Pair b) p q = absurd (apart words _ _ p.first q.first refl)
one_command words (Sim a) Check p q = absurd (apart words _ _ p.first q.first refl)
one_command words (Sim a) (Relay b) p q = absurd (apart words _ _ p.first q.first refl)
one_command words (Sim a) (Help b) p q = absurd (not_both words q.means p.means.0.plain)
one_command words (Sim a) Version p q = absurd (apart words _ _ p.first q.first refl)
one_command words (Load a) (Sim b) p q = absurd (apart words _ _ p.first q.first refl)
one_command words (Load a) (Load b) p q = ap Load (one_number (codes "calls") 1 10000 (rows load words) a b (omega arith) p.means.1 q.means.1)
one_command words (Load a) (Serve b) p q = absurd (apart words _ _ p.first q.first refl)
one_command words (Load a) (Call b) p q = absurd (apart words _ _ p.first q.first refl)
one_command words (Load a) (Pair b) p q = absurd (apart words _ _ p.first q.first refl)
one_command words (Load a) Check p q = absurd (apart words _ _ p.first q.first refl)
one_command words (Load a) (Relay b) p q = absurd (apart words _ _ p.first q.first refl)
one_command words (Load a) (Help b) p q = absurd (not_both words q.means p.means.0.plain)
one_command words (Load a) Version p q = absurd (apart words _ _ p.first q.first refl)
one_command words (Serve a) (Sim b) p q = absurd (apart words _ _ p.first q.first refl)
one_command words (Serve a) (Load b) p q = absurd (apart words _ _ p.first q.first refl)
one_command words (Serve a) (Serve b) p q = ap Serve (one_serving (rows serve words) a b p.means.1 q.means.1)
one_command words (Serve a) (Call b) p q = absurd (apart words _ _ p.first q.first refl)
one_command words (Serve a) (Pair b) p q = absurd (apart words _ _ p.first q.first refl)
one_command words (Serve a) Check p q = absurd (apart words _ _ p.first q.first refl)
one_command words (Serve a) (Relay b) p q = absurd (apart words _ _ p.first q.first refl)
one_command words (Serve a) (Help b) p q = absurd (not_both words q.means p.means.0.plain)
one_command words (Serve a) Version p q = absurd (apart words _ _ p.first q.first refl)
one_command words (Call a) (Sim b) p q = absurd (apart words _ _ p.first q.first refl)
one_command words (Call a) (Load b) p q = absurd (apart words _ _ p.first q.first refl)
one_command words (Call a) (Serve b) p q = absurd (apart words _ _ p.first q.first refl)
one_command words (Call a) (Call b) p q = ap Call (one_calling (rows call words) a b p.means.1 q.means.1)
one_command words (Call a) (Pair b) p q = absurd (apart words _ _ p.first q.first refl)
one_command words (Call a) Check p q = absurd (apart words _ _ p.first q.first refl)
one_command words (Call a) (Relay b) p q = absurd (apart words _ _ p.first q.first refl)
one_command words (Call a) (Help b) p q = absurd (not_both words q.means p.means.0.plain)
one_command words (Call a) Version p q = absurd (apart words _ _ p.first q.first refl)
one_command words (Pair a) (Sim b) p q = absurd (apart words _ _ p.first q.first refl)
one_command words (Pair a) (Load b) p q = absurd (apart words _ _ p.first q.first refl)
one_command words (Pair a) (Serve b) p q = absurd (apart words _ _ p.first q.first refl)
one_command words (Pair a) (Call b) p q = absurd (apart words _ _ p.first q.first refl)
one_command words (Pair a) (Pair b) p q = ap Pair (one_pairing (rows pair words) a b p.means.1 q.means.1)
one_command words (Pair a) Check p q = absurd (apart words _ _ p.first q.first refl)
one_command words (Pair a) (Relay b) p q = absurd (apart words _ _ p.first q.first refl)
one_command words (Pair a) (Help b) p q = absurd (not_both words q.means p.means.0.plain)
one_command words (Pair a) Version p q = absurd (apart words _ _ p.first q.first refl)
one_command words Check (Sim b) p q = absurd (apart words _ _ p.first q.first refl)
one_command words Check (Load b) p q = absurd (apart words _ _ p.first q.first refl)
one_command words Check (Serve b) p q = absurd (apart words _ _ p.first q.first refl)
one_command words Check (Call b) p q = absurd (apart words _ _ p.first q.first refl)
one_command words Check (Pair b) p q = absurd (apart words _ _ p.first q.first refl)
one_command words Check Check p q = refl
one_command words Check (Relay b) p q = absurd (apart words _ _ p.first q.first refl)
one_command words Check (Help b) p q = absurd (not_both words q.means p.means.plain)
one_command words Check Version p q = absurd (apart words _ _ p.first q.first refl)
one_command words (Relay a) (Sim b) p q = absurd (apart words _ _ p.first q.first refl)
one_command words (Relay a) (Load b) p q = absurd (apart words _ _ p.first q.first refl)
one_command words (Relay a) (Serve b) p q = absurd (apart words _ _ p.first q.first refl)
one_command words (Relay a) (Call b) p q = absurd (apart words _ _ p.first q.first refl)
one_command words (Relay a) (Pair b) p q = absurd (apart words _ _ p.first q.first refl)
one_command words (Relay a) Check p q = absurd (apart words _ _ p.first q.first refl)
one_command words (Relay a) (Relay b) p q = ap Relay (one_relaying (rows relay words) a b p.means.1 q.means.1)
one_command words (Relay a) (Help b) p q = absurd (not_both words q.means p.means.0.plain)
one_command words (Relay a) Version p q = absurd (apart words _ _ p.first q.first refl)
one_command words (Help a) (Sim b) p q = absurd (not_both words p.means q.means.0.plain)
one_command words (Help a) (Load b) p q = absurd (not_both words p.means q.means.0.plain)
one_command words (Help a) (Serve b) p q = absurd (not_both words p.means q.means.0.plain)
one_command words (Help a) (Call b) p q = absurd (not_both words p.means q.means.0.plain)
one_command words (Help a) (Pair b) p q = absurd (not_both words p.means q.means.0.plain)
one_command words (Help a) Check p q = absurd (not_both words p.means q.means.plain)
one_command words (Help a) (Relay b) p q = absurd (not_both words p.means q.means.0.plain)
one_command words (Help a) (Help b) p q = ap Help (one_page words a b p.first q.first)
one_command words (Help a) Version p q = absurd (not_both words p.means (no_help words q.means))
one_command words Version (Sim b) p q = absurd (apart words _ _ p.first q.first refl)
one_command words Version (Load b) p q = absurd (apart words _ _ p.first q.first refl)
one_command words Version (Serve b) p q = absurd (apart words _ _ p.first q.first refl)
one_command words Version (Call b) p q = absurd (apart words _ _ p.first q.first refl)
one_command words Version (Pair b) p q = absurd (apart words _ _ p.first q.first refl)
one_command words Version Check p q = absurd (apart words _ _ p.first q.first refl)
one_command words Version (Relay b) p q = absurd (apart words _ _ p.first q.first refl)
one_command words Version (Help b) p q = absurd (not_both words q.means (no_help words p.means))
one_command words Version Version p q = refl

-- ---- the words as they are lent

pub begins : {A : Type 0} (f : A → List ℕ) (words : List A) (first : A) → Some first ≡ slice_get words 0 → slice_get (map f words) 0 ≡ Some (f first)
begins f words first e = slice_get-map f words 0 ∙ ap (option_map f) (sym e)

pub asked : {A : Type 0} (f : A → List ℕ) (words : List A) (answer : Bool) → answer ≡ list_any (λ word. bytes_eq (f word) (codes "--help")) words → answer ≡ asks_help (map f words)
asked f words answer e = e ∙ list_any-map (λ word. bytes_eq word (codes "--help")) f words
