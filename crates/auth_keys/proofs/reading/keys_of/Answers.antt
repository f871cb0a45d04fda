use Rattle.std.proofs.Common.{◌≡◌, ◌≢◌, ◌∙◌, ◌+◌, ◌<◌, ℕ, List, [], ◌∷◌, ◌++◌, All, length, get_or, set, slice_set, refl, sym, ap, subst, arith, append_assoc, length-append, length-set}
use Rattle.std.proofs.lemmas.Bool.{iff_false}
use Rattle.auth_keys.specs.Keys.{identifier}
use Rattle.auth_keys.specs.Rings.{IsRing}
use Rattle.auth_keys.specs.KeyFile.{AreKeys, lines_of}
use Rattle.auth_keys.specs.declared.ring.RingKey.{RingKey}
use Rattle.auth_keys.proofs.KeyLemmas.{digits-key}
use Rattle.auth_keys.proofs.RingLemmas.{AreSaidOn, are_said-left_out, are_said-more, keys-left_out, keys-said, reaches, ring-push}
use Rattle.auth_keys.proofs.reading.keys_of.Goals as goal

-- the line is neither left out nor says a key
pub returns-in_default-clause-fault : goal.returns-in_default-clause-fault
returns-in_default-clause-fault c =
    let so_far = c.loop-rest.invariant in
    record {
      line = c.first_line.result.0.now;
      ring = c.loop-rest.keys.items;
      reached = reaches c.args.text.now so_far.front c.first_line.result.0.now c.loop-rest.rest.now c.first_line.result.1.now c.loop-rest.line c.loop-rest.keys.items so_far.split c.first_line.ensures.lines so_far.counted so_far.said so_far.lawful;
      bad = (λ left. iff_false c.is_left_out.ensures c.if-not-is_left_out.true left, c.in_default.ensures.none);
    }

-- 64 keys stand before the line
pub returns-then-count-eq-RING_KEYS_MAX-clause-fault : goal.returns-then-count-eq-RING_KEYS_MAX-clause-fault
returns-then-count-eq-RING_KEYS_MAX-clause-fault c =
    let so_far = c.loop-rest.invariant in
    record {
      line = c.first_line.result.0.now;
      ring = c.loop-rest.keys.items;
      entry = c.in-Some.entry;
      reached = reaches c.args.text.now so_far.front c.first_line.result.0.now c.loop-rest.rest.now c.first_line.result.1.now c.loop-rest.line c.loop-rest.keys.items so_far.split c.first_line.ensures.lines so_far.counted so_far.said so_far.lawful;
      says = c.in-Some.ensures.found;
      full = omega (arith, c.loop-rest.keys.ok.0, c.len-count.ensures, c.if-count-eq-RING_KEYS_MAX.true);
    }

-- a key before has the identifier
pub returns-in-Some-place_of_id-clause-fault : goal.returns-in-Some-place_of_id-clause-fault
returns-in-Some-place_of_id-clause-fault c =
    let so_far = c.loop-rest.invariant in
    let keys = c.loop-rest.keys.items in
    let place = c.in-Some-place_of_id.place in
    let found = c.in-Some-place_of_id.ensures.found in
    let same_keys : c.deref.result.now ≡ keys = c.deref.ensures.value in
    let said = so_far.places place c.in-Some.entry (omega (arith, found.0, ap length same_keys)) in
    record {
      line = c.first_line.result.0.now;
      ring = keys;
      entry = c.in-Some.entry;
      first_line = said.line;
      first_entry = get_or keys place c.in-Some.entry;
      reached = reaches c.args.text.now so_far.front c.first_line.result.0.now c.loop-rest.rest.now c.first_line.result.1.now c.loop-rest.line keys so_far.split c.first_line.ensures.lines so_far.counted so_far.said so_far.lawful;
      says = c.in-Some.ensures.found;
      room = omega (arith, c.loop-rest.keys.ok.0, c.len-count.ensures, c.if-count-eq-RING_KEYS_MAX.false, so_far.lawful.count);
      at_first = said.at;
      first_says = said.says;
      same = ap (λ (ring : List RingKey). identifier (get_or ring place c.in-Some.entry).key) (sym same_keys) ∙ (found.1 c.in-Some.entry ∙ c.id.ensures.value);
    }

-- one more key
pub loop-rest-preserved-in_ok-append : goal.loop-rest-preserved-in_ok-append
loop-rest-preserved-in_ok-append c =
    let so_far = c.loop-rest.invariant in
    let keys = c.loop-rest.keys.items in
    let line = c.first_line.result.0.now in
    let entry = c.in-Some.entry in
    let says = c.in-Some.ensures.found in
    let lines : List (List ℕ) = so_far.front ++ line ∷ [] in
    let more : c.append.new.keys.items ≡ keys ++ entry ∷ [] = c.in_ok-append.ensures in
    let same_keys : c.deref.result.now ≡ keys = c.deref.ensures.value in
    let apart : All (λ (x : RingKey). identifier x.key ≢ c.id.result) keys = subst (λ (ring : List RingKey). All (λ (x : RingKey). identifier x.key ≢ c.id.result) ring) same_keys c.in_default-place_of_id.ensures.none in
    let count : c.len-count.result ≡ length keys = omega (arith, c.loop-rest.keys.ok.0, c.len-count.ensures) in
    let room : length keys < 64 = omega (arith, count, c.if-count-eq-RING_KEYS_MAX.false, so_far.lawful.count) in
    record {
      front = lines;
      split = so_far.split ∙ (ap (λ (l : List (List ℕ)). so_far.front ++ l) c.first_line.ensures.lines ∙ sym (append_assoc so_far.front (line ∷ []) (lines_of c.first_line.result.1.now)));
      counted = omega (arith, so_far.counted, length-append so_far.front (line ∷ []));
      short = omega (arith, so_far.short, c.first_line.ensures.shorter);
      sized = length-set c.loop-rest.lines c.len-count.result (c.loop-rest.line + 1) ∙ so_far.sized;
      said = subst (λ (ring : List RingKey). AreKeys lines ring) (sym more) (keys-said so_far.front line keys entry so_far.said says);
      lawful = subst IsRing (sym more) (ring-push keys entry so_far.lawful room (digits-key says.digits entry.key says.decoded) (λ k d less same. apart k d less (same ∙ sym c.id.ensures.value)));
      places = subst (λ (ring : List RingKey). AreSaidOn lines (slice_set c.loop-rest.lines c.len-count.result (c.loop-rest.line + 1)) ring) (sym more)
          (are_said-more so_far.front c.loop-rest.lines keys line entry c.len-count.result (c.loop-rest.line + 1) so_far.places count (omega (arith, count, room, so_far.sized)) (ap (λ (n : ℕ). n + 1) so_far.counted) says);
    }

-- a line that is left out
pub loop-rest-preserved : goal.loop-rest-preserved
loop-rest-preserved c =
    let so_far = c.loop-rest.invariant in
    let line = c.first_line.result.0.now in
    record {
      front = so_far.front ++ line ∷ [];
      split = so_far.split ∙ (ap (λ (l : List (List ℕ)). so_far.front ++ l) c.first_line.ensures.lines ∙ sym (append_assoc so_far.front (line ∷ []) (lines_of c.first_line.result.1.now)));
      counted = omega (arith, so_far.counted, length-append so_far.front (line ∷ []));
      short = omega (arith, so_far.short, c.first_line.ensures.shorter);
      sized = so_far.sized;
      said = keys-left_out so_far.front line c.loop-rest.keys.items so_far.said (c.is_left_out.ensures.0 c.if-not-is_left_out.false);
      lawful = so_far.lawful;
      places = are_said-left_out so_far.front c.loop-rest.lines c.loop-rest.keys.items line so_far.places;
    }
