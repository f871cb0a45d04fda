-- The key file of `sim` is that of its ring.
use Rattle.std.proofs.Common.{◌≡◌, ◌≢◌, ◌∙◌, ◌<◌, ◌≤◌, ◌==◌, if◌then◌else◌, Some, None, ℕ, zero, suc, Bool, true, false, List, [], ◌∷◌, ◌++◌, inr, length, get_or, ap, sym, arith, refl, codes, subst}
use Rattle.std.specs.Prelude.{IsSome, nat_lt, slice_index, ◌&&◌}
use Rattle.std.proofs.lemmas.Bool.{ltb-true}
use Rattle.std.specs.List.{list_all}
use Rattle.std.specs.Fmt.{decimal, digits}
use Rattle.hex.specs.Hex.{encode_lower}
use Rattle.hex.proofs.HexLemmas.{decode_of-encode_lower}
use Rattle.hex.proofs.OnLiterals.{hex_on_literals}
use Rattle.sha1.specs.Sha1.{first_words, schedule, rounds, compress, hash_after, digest_bytes, sha1}
use Rattle.octets.specs.Bytes.{IsBytes}
use Rattle.auth_keys.specs.Keys.{IsKey, identifier}
use Rattle.auth_keys.specs.Rings.{IsRing, HaveOtherIdentifiers, entry_of}
use Rattle.auth_keys.specs.KeyFile.{AreKeys, IsRingOf, Says, lines_of}
use Rattle.auth_keys.specs.declared.ring.RingKey.{RingKey}
use Rattle.auth_keys.specs.declared.key.KeyKind.TheVariants.{Perm, Temp}
use Rattle.sim_world.specs.Keys.{HasWorldKeys}
use Rattle.cmd_sim.specs.KeysOfSim.{ascending, descending, key_file, sim_ring}

-- ---- the keys

-- the identifiers of the two
pub ascending-identifier : identifier ascending ≡ 14474384091129631026
unfolding first_words schedule rounds compress hash_after digest_bytes sha1 ascending
ascending-identifier = refl

pub descending-identifier : identifier descending ≡ 1390049393749643670
unfolding first_words schedule rounds compress hash_after digest_bytes sha1 ascending descending
descending-identifier = refl

-- what passes the test is bytes
both : (a b : Bool) → (a && b) ≡ true → (a ≡ true) × (b ≡ true)
both true b h = (refl, h)
both false b h = cc

tested-at : (bytes : List ℕ) (i : ℕ) → list_all (λ byte. nat_lt byte 256) bytes ≡ true → slice_index bytes i < 256
tested-at [] i h = omega arith
tested-at (byte ∷ bytes) zero h = ltb-true byte 256 (both (nat_lt byte 256) (list_all (λ byte. nat_lt byte 256) bytes) h).0
tested-at (byte ∷ bytes) (suc i) h = tested-at bytes i (both (nat_lt byte 256) (list_all (λ byte. nat_lt byte 256) bytes) h).1

pub tested-bytes : (bytes : List ℕ) → list_all (λ byte. nat_lt byte 256) bytes ≡ true → IsBytes bytes
tested-bytes bytes h = λ i. tested-at bytes i h

ascending-tested : list_all (λ byte. nat_lt byte 256) ascending ≡ true
unfolding ascending
ascending-tested = refl

descending-tested : list_all (λ byte. nat_lt byte 256) descending ≡ true
unfolding ascending descending
descending-tested = refl

ascending-length : length ascending ≡ 256
unfolding ascending
ascending-length = refl

descending-length : length descending ≡ 256
unfolding ascending descending
descending-length = refl

pub ascending-key : IsKey ascending
ascending-key = record { count = ascending-length; in_range = tested-bytes ascending ascending-tested }

pub descending-key : IsKey descending
descending-key = record { count = descending-length; in_range = tested-bytes descending descending-tested }

-- ---- the lines

abbrev first_line : List ℕ
first_line = codes "perm " ++ encode_lower ascending

abbrev second_line : List ℕ
second_line = codes "temp 7200 " ++ encode_lower descending

two-lines : lines_of key_file ≡ first_line ∷ second_line ∷ []
unfolding ascending descending key_file hex_on_literals
two-lines = refl

ascending-digits : length (encode_lower ascending) ≡ 512
unfolding ascending hex_on_literals
ascending-digits = refl

descending-digits : length (encode_lower descending) ≡ 512
unfolding ascending descending hex_on_literals
descending-digits = refl

-- ---- the ring

first-says : Says first_line (record { key = ascending; kind = Perm })
first-says = record {
  kind = tt;
  digits = encode_lower ascending;
  spelled = (32, refl, refl);
  decoded = record { count = ascending-digits; decoded = decode_of-encode_lower ascending ascending-key.in_range };
}

expiry-spelt : decimal 7200 ≡ codes "7200"
unfolding digits
expiry-spelt = refl

second-says : Says second_line (record { key = descending; kind = Temp 7200 })
second-says = record {
  kind = (omega arith, omega arith);
  digits = encode_lower descending;
  spelled = (32, 32, refl, refl, ap (λ (spelt : List ℕ). codes "temp" ++ 32 ∷ (spelt ++ 32 ∷ encode_lower descending)) (sym expiry-spelt));
  decoded = record { count = descending-digits; decoded = decode_of-encode_lower descending descending-key.in_range };
}

said : AreKeys (first_line ∷ second_line ∷ []) sim_ring
unfolding sim_ring
said = inr (
  record { key = ascending; kind = Perm },
  record { key = descending; kind = Temp 7200 } ∷ [],
  first-says,
  refl,
  inr (record { key = descending; kind = Temp 7200 }, [], second-says, refl, refl),
)

identifiers-apart : identifier ascending ≢ identifier descending
identifiers-apart same = omega (arith, sym ascending-identifier ∙ (same ∙ descending-identifier))

apart-at : (i j : ℕ) (d : RingKey) → i < j → j < length sim_ring → HaveOtherIdentifiers (get_or sim_ring i d) (get_or sim_ring j d)
unfolding sim_ring
apart-at i zero d below within = absurd (omega (arith, below))
apart-at zero (suc zero) d below within = identifiers-apart
apart-at (suc i) (suc zero) d below within = absurd (omega (arith, below))
apart-at i (suc (suc j)) d below within = absurd (omega (arith, within))

keys-at : (i : ℕ) (d : RingKey) → i < length sim_ring → IsKey (get_or sim_ring i d).key
unfolding sim_ring
keys-at zero d within = ascending-key
keys-at (suc zero) d within = descending-key
keys-at (suc (suc i)) d within = absurd (omega (arith, within))

few : length sim_ring ≤ 64
unfolding sim_ring
few = omega arith

pub sim_ring-lawful : IsRing sim_ring
sim_ring-lawful = record { count = few; keys = λ i d within. keys-at i d within; apart = λ i j d below within. apart-at i j d below within }

-- the key file says the ring
pub sim_ring-read : IsRingOf key_file sim_ring
sim_ring-read = (subst (λ lines. AreKeys lines sim_ring) (sym two-lines) said, sim_ring-lawful)

pub key_file-length : length key_file ≡ 1041
unfolding ascending descending key_file hex_on_literals
key_file-length = refl

-- where each key is found
pub permanent-found : entry_of 14474384091129631026 sim_ring ≡ Some (record { key = ascending; kind = Perm })
unfolding sim_ring
permanent-found = ap (λ (test : Bool). if test then Some (record { key = ascending; kind = Perm }) else entry_of 14474384091129631026 (record { key = descending; kind = Temp 7200 } ∷ [])) (ap (λ (id : ℕ). id == 14474384091129631026) ascending-identifier)

pub temporary-found : entry_of 1390049393749643670 sim_ring ≡ Some (record { key = descending; kind = Temp 7200 })
unfolding sim_ring
temporary-found =
    ap (λ (id : ℕ). if id == 1390049393749643670 then Some (record { key = ascending; kind = Perm }) else entry_of 1390049393749643670 (record { key = descending; kind = Temp 7200 } ∷ [])) ascending-identifier
    ∙ ap (λ (id : ℕ). if id == 1390049393749643670 then Some (record { key = descending; kind = Temp 7200 }) else None) descending-identifier

pub sim_ring-has : HasWorldKeys sim_ring
sim_ring-has = record {
  permanent = subst IsSome (sym permanent-found) refl;
  temporary = subst IsSome (sym temporary-found) refl;
}
