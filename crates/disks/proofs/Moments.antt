-- What a read gives is one of the contents that a crash may leave, after each act.
use Rattle.std.proofs.Common.{◌≡◌, ◌≤◌, ◌+◌, ◌-◌, ◌∙◌, ℕ, List, [], ◌∷◌, ◌++◌, length, take, drop, min, max, ◌⊎◌, inl, inr, Some, arith, refl, subst, sym, ap, zero, suc}
use Rattle.std.proofs.lemmas.List.{take-take, take-append-le, drop-append-le, drop-drop, drop-take, drop_at, length-take, length-drop, length-append}
use Rattle.std.proofs.lemmas.List.Sums.{fold-append}
use Rattle.std.proofs.lemmas.List.Elements.{All-pop}
use Rattle.octets.specs.Bytes.{IsBytes}
use Rattle.disks.specs.declared.disk_act.DiskAct.{DiskAct}
use Rattle.disks.specs.declared.disk_act.DiskAct.TheVariants.{Write, Cut, Sync}
use Rattle.mt_edge.specs.declared.act.Act.TheVariants.{Ready, Failed}
use Rattle.disks.specs.Told.{DiskTold, Changes, Syncs, now}
use Rattle.disks.specs.Crash.{Standing, Range, IsApart, MayLeave, after_act, after_acts, synced_at, overwritten}

-- bounds of lengths
higher : (n most k : ℕ) → n ≤ most → n ≤ max most k
higher n most k h = grind (arith, h)

lower : (least k n : ℕ) → least ≤ n → min least k ≤ n
lower least k n h = grind (arith, h)

below_both : (a least k : ℕ) → a ≤ min least k → (a ≤ least) × (a ≤ k)
below_both a least k h = (grind (arith, h), grind (arith, h))

longer : (least n k size : ℕ) → least ≤ n → size ≡ max n k → least ≤ size
longer least n k size h e = grind (arith, h, e)

both_higher : (n most k size : ℕ) → n ≤ most → size ≡ max n k → size ≤ max most k
both_higher n most k size h e = grind (arith, h, e)

cut_low : (least len size : ℕ) → size ≡ len → min least len ≤ size
cut_low least len size e = grind (arith, e)

cut_high : (len n most size : ℕ) → len ≤ n → n ≤ most → size ≡ len → size ≤ most
cut_high len n most size h k e = omega (arith, h, k, e)

cut_size : (len : ℕ) (c : List ℕ) → len ≤ length c → length (take len c) ≡ len
cut_size len c h = grind (arith, h, length-take len c)

-- the length after a write
pub length_over : (at : ℕ) (bytes c : List ℕ) → at ≤ length c → length (overwritten at bytes c) ≡ max (length c) (at + length bytes)
length_over at bytes c inside =
    let one : length (overwritten at bytes c) ≡ length (take at c ++ bytes) + length (drop (at + length bytes) c) = length-append (take at c ++ bytes) (drop (at + length bytes) c) in
    grind (arith, one, length-append (take at c) bytes, cut_size at c inside, length-drop (at + length bytes) c)

-- a part before two others
part_before : (xs ys zs : List ℕ) (from count : ℕ) → from ≤ length xs → count ≤ length (drop from xs) → take count (drop from (xs ++ ys ++ zs)) ≡ take count (drop from xs)
part_before xs ys zs from count room fits =
    let room_two : from ≤ length (xs ++ ys) = omega (arith, length-append xs ys, room) in
    let e1 : drop from (xs ++ ys ++ zs) ≡ drop from (xs ++ ys) ++ zs = drop-append-le from (xs ++ ys) zs room_two in
    let e2 : drop from (xs ++ ys) ≡ drop from xs ++ ys = drop-append-le from xs ys room in
    let fits_two : count ≤ length (drop from xs ++ ys) = omega (arith, length-append (drop from xs) ys, fits) in
    ap (take count) e1 ∙ ap (λ l. take count (l ++ zs)) e2 ∙ take-append-le count (drop from xs ++ ys) zs fits_two ∙ take-append-le count (drop from xs) ys fits

-- a part of a front is the part of the whole
part_of_front : (len from count : ℕ) (c : List ℕ) → from + count ≤ len → take count (drop from (take len c)) ≡ take count (drop from c)
part_of_front len from count c low =
    let here : from + (len - from) ≡ len = omega (arith, low) in
    let e : drop from (take len c) ≡ take (len - from) (drop from c) = subst (λ k. drop from (take k c) ≡ take (len - from) (drop from c)) here (drop-take from (len - from) c) in
    ap (take count) e ∙ take-take count (len - from) (drop from c) (omega (arith, low))

-- bytes before a write stay
before_it : (at from count : ℕ) (bytes c : List ℕ) → at ≤ length c → from + count ≤ at → take count (drop from (overwritten at bytes c)) ≡ take count (drop from c)
before_it at from count bytes c inside low =
    let long : length (take at c) ≡ at = cut_size at c inside in
    let room : from ≤ length (take at c) = omega (arith, long, low) in
    let fits : count ≤ length (drop from (take at c)) = omega (arith, length-drop from (take at c), long, low) in
    part_before (take at c) bytes (drop (at + length bytes) c) from count room fits ∙ part_of_front at from count c low

-- bytes behind a write stay
behind_it : (at from : ℕ) (bytes c : List ℕ) → at ≤ length c → at + length bytes ≤ from → drop from (overwritten at bytes c) ≡ drop from c
behind_it at from bytes c inside high =
    let long : length (take at c ++ bytes) ≡ at + length bytes = omega (arith, length-append (take at c) bytes, cut_size at c inside) in
    let e1 : drop (at + length bytes) (overwritten at bytes c) ≡ drop (at + length bytes) c = drop_at (take at c ++ bytes) (drop (at + length bytes) c) (at + length bytes) long in
    let here : at + length bytes + (from - (at + length bytes)) ≡ from = omega (arith, high) in
    subst (λ n. drop n (overwritten at bytes c) ≡ drop n c) here
    (sym (drop-drop (from - (at + length bytes)) (at + length bytes) (overwritten at bytes c)) ∙ ap (drop (from - (at + length bytes))) e1
    ∙ drop-drop (from - (at + length bytes)) (at + length bytes) c)

-- bytes apart from a write stay
apart_from_it : (at from count : ℕ) (bytes c : List ℕ) → at ≤ length c → (from + count ≤ at) ⊎ (at + length bytes ≤ from)
    → take count (drop from (overwritten at bytes c)) ≡ take count (drop from c)
apart_from_it at from count bytes c inside (inl low) = before_it at from count bytes c inside low
apart_from_it at from count bytes c inside (inr high) = ap (take count) (behind_it at from bytes c inside high)

-- after one more act
pub one_act : (first : Standing) (acts noted : List DiskAct) (act : DiskAct) → noted ≡ acts ++ act ∷ [] → after_acts first noted ≡ after_act (after_acts first acts) act
one_act first acts noted act e = ap (after_acts first) e ∙ fold-append after_act first acts (act ∷ [])

-- a write more, done or not, leaves no fewer possibilities
write_loosens : (s : Standing) (at count : ℕ) (c : List ℕ) → MayLeave s c → MayLeave (after_act s (Write at count)) c
write_loosens s at count c may =
    let short = may.not_shorter in
    let long = may.not_longer in
    record {
      bytes = may.bytes;
      not_shorter = short;
      not_longer = higher (length c) s.most (at + count) long;
      stays = λ from n low apart. may.stays from n low (All-pop (IsApart from n) (s.written ++ record { at = at; count = count } ∷ []) s.written (Some (record { at = at; count = count })) refl apart).0;
    }

-- so does a cut
cut_loosens : (s : Standing) (len : ℕ) (c : List ℕ) → MayLeave s c → MayLeave (after_act s (Cut len)) c
cut_loosens s len c may =
    let short = may.not_shorter in
    record {
      bytes = may.bytes;
      not_shorter = lower s.least len (length c) short;
      not_longer = may.not_longer;
      stays = λ from n low apart. may.stays from n (below_both (from + n) s.least len low).0 apart;
    }

-- what is written over a content that a crash may leave
over : (s : Standing) (at : ℕ) (bytes c : List ℕ) → at ≤ length c → IsBytes (overwritten at bytes c) → MayLeave s c
    → MayLeave (after_act s (Write at (length bytes))) (overwritten at bytes c)
over s at bytes c inside fits may =
    let short = may.not_shorter in
    let long = may.not_longer in
    let size = length_over at bytes c inside in
    let range : Range = record { at = at; count = length bytes } in
    record {
      bytes = fits;
      not_shorter = longer s.least (length c) (at + length bytes) (length (overwritten at bytes c)) short size;
      not_longer = both_higher (length c) s.most (at + length bytes) (length (overwritten at bytes c)) long size;
      stays = λ from n low apart.
          let both = All-pop (IsApart from n) (s.written ++ range ∷ []) s.written (Some range) refl apart in
          apart_from_it at from n bytes c inside both.1 ∙ may.stays from n low both.0;
    }

-- what is left of it by a cut
short_of : (s : Standing) (len : ℕ) (c : List ℕ) → len ≤ length c → IsBytes (take len c) → MayLeave s c → MayLeave (after_act s (Cut len)) (take len c)
short_of s len c inside fits may =
    let short = may.not_shorter in
    let long = may.not_longer in
    let size : length (take len c) ≡ len = cut_size len c inside in
    record {
      bytes = fits;
      not_shorter = cut_low s.least len (length (take len c)) size;
      not_longer = cut_high len (length c) s.most (length (take len c)) inside long size;
      stays = λ from n low apart. part_of_front len from n c (below_both (from + n) s.least len low).1 ∙ may.stays from n (below_both (from + n) s.least len low).0 apart;
    }

-- after a write that was done
pub written_over : (first : Standing) (acts noted : List DiskAct) (at count : ℕ) (bytes c left : List ℕ) → noted ≡ acts ++ Write at count ∷ [] → count ≡ length bytes
    → left ≡ overwritten at bytes c → at ≤ length c → IsBytes left → MayLeave (after_acts first acts) c → MayLeave (after_acts first noted) left
written_over first acts noted at count bytes c left e f l inside fits may =
    let noted_so : noted ≡ acts ++ Write at (length bytes) ∷ [] = subst (λ n. noted ≡ acts ++ Write at n ∷ []) f e in
    let done : MayLeave (after_act (after_acts first acts) (Write at (length bytes))) (overwritten at bytes c) = over (after_acts first acts) at bytes c inside (subst IsBytes l fits) may in
    subst (MayLeave (after_acts first noted)) (sym l) (subst (λ s. MayLeave s (overwritten at bytes c)) (sym (one_act first acts noted (Write at (length bytes)) noted_so)) done)

-- after one that wasn't
pub written_maybe : (first : Standing) (acts noted : List DiskAct) (at count : ℕ) (c : List ℕ) → noted ≡ acts ++ Write at count ∷ []
    → MayLeave (after_acts first acts) c → MayLeave (after_acts first noted) c
written_maybe first acts noted at count c e may =
    subst (λ s. MayLeave s c) (sym (one_act first acts noted (Write at count) e)) (write_loosens (after_acts first acts) at count c may)

-- after a cut that was done
pub cut_off : (first : Standing) (acts noted : List DiskAct) (len : ℕ) (c left : List ℕ) → noted ≡ acts ++ Cut len ∷ []
    → left ≡ take len c → len ≤ length c → IsBytes left → MayLeave (after_acts first acts) c → MayLeave (after_acts first noted) left
cut_off first acts noted len c left e l inside fits may =
    let done : MayLeave (after_act (after_acts first acts) (Cut len)) (take len c) = short_of (after_acts first acts) len c inside (subst IsBytes l fits) may in
    subst (MayLeave (after_acts first noted)) (sym l) (subst (λ s. MayLeave s (take len c)) (sym (one_act first acts noted (Cut len) e)) done)

-- after one that wasn't
pub cut_maybe : (first : Standing) (acts noted : List DiskAct) (len : ℕ) (c : List ℕ) → noted ≡ acts ++ Cut len ∷ []
    → MayLeave (after_acts first acts) c → MayLeave (after_acts first noted) c
cut_maybe first acts noted len c e may =
    subst (λ s. MayLeave s c) (sym (one_act first acts noted (Cut len) e)) (cut_loosens (after_acts first acts) len c may)

-- right after a sync
pub fresh : (c : List ℕ) → IsBytes c → MayLeave (synced_at c) c
fresh c fits = record { bytes = fits; not_shorter = omega arith; not_longer = omega arith; stays = λ from n low apart. refl }

pub synced_now : (first : Standing) (acts noted : List DiskAct) (c : List ℕ) → noted ≡ acts ++ Sync c ∷ [] → IsBytes c → MayLeave (after_acts first noted) c
synced_now first acts noted c e fits = subst (λ s. MayLeave s c) (sym (one_act first acts noted (Sync c) e)) (fresh c fits)

-- what a disk tells after a write that was done
pub write_told : (first : Standing) (acts noted : List DiskAct) (at count : ℕ) (bytes c left : List ℕ) → noted ≡ acts ++ Write at count ∷ [] → count ≡ length bytes
    → left ≡ overwritten at bytes c → MayLeave (after_acts first noted) left
    → Changes Ready (Write at (length bytes)) (overwritten at bytes c) (record { contents = c; first = first; acts = acts }) (record { contents = left; first = first; acts = noted })
write_told first acts noted at count bytes c left e g f may =
    let noted_so : noted ≡ acts ++ Write at (length bytes) ∷ [] = subst (λ n. noted ≡ acts ++ Write at n ∷ []) g e in
    record {
      first = refl;
      does = (record { acts = noted_so; stands = one_act first acts noted (Write at (length bytes)) noted_so }, f);
      possible = may;
    }

-- after a cut that was done
pub cut_told : (first : Standing) (acts noted : List DiskAct) (len : ℕ) (c left : List ℕ) → noted ≡ acts ++ Cut len ∷ [] → left ≡ take len c → MayLeave (after_acts first noted) left
    → Changes Ready (Cut len) (take len c) (record { contents = c; first = first; acts = acts }) (record { contents = left; first = first; acts = noted })
cut_told first acts noted len c left e f may = record {
  first = refl;
  does = (record { acts = e; stands = one_act first acts noted (Cut len) e }, f);
  possible = may;
}

-- after a failed one that is noted
pub maybe_told : (first : Standing) (acts noted : List DiskAct) (act : DiskAct) (c wanted : List ℕ) → noted ≡ acts ++ act ∷ [] → MayLeave (after_acts first noted) c
    → Changes Failed act wanted (record { contents = c; first = first; acts = acts }) (record { contents = c; first = first; acts = noted })
maybe_told first acts noted act c wanted e may = record {
  first = refl;
  does = inl (record { acts = e; stands = one_act first acts noted act e });
  possible = may;
}

-- after one that isn't
pub none_told : (told : DiskTold) (act : DiskAct) (wanted : List ℕ) → MayLeave (now told) told.contents → Changes Failed act wanted told told
none_told told act wanted may = record { first = refl; does = inr refl; possible = may }

-- after a sync that was done
pub sync_told : (first : Standing) (acts noted : List DiskAct) (c copy : List ℕ) → noted ≡ acts ++ Sync copy ∷ [] → copy ≡ c → MayLeave (after_acts first noted) c
    → Syncs Ready (record { contents = c; first = first; acts = acts }) (record { contents = c; first = first; acts = noted })
sync_told first acts noted c copy e same may =
    let noted_so : noted ≡ acts ++ Sync c ∷ [] = subst (λ b. noted ≡ acts ++ Sync b ∷ []) same e in
    record {
      first = refl;
      settles = (record { acts = noted_so; stands = one_act first acts noted (Sync c) noted_so }, refl);
      possible = may;
    }

-- after one that wasn't
pub no_sync_told : (told : DiskTold) → MayLeave (now told) told.contents → Syncs Failed told told
no_sync_told told may = record { first = refl; settles = refl; possible = may }

-- parts of bytes, and bytes behind others, are bytes
bytes_take : (n : ℕ) (xs : List ℕ) → IsBytes xs → IsBytes (take n xs)
bytes_take zero xs fits i = omega arith
bytes_take (suc n) [] fits i = omega arith
bytes_take (suc n) (x ∷ xs) fits zero = fits 0
bytes_take (suc n) (x ∷ xs) fits (suc i) = bytes_take n xs (λ j. fits (suc j)) i

bytes_drop : (n : ℕ) (xs : List ℕ) → IsBytes xs → IsBytes (drop n xs)
bytes_drop zero xs fits i = fits i
bytes_drop (suc n) [] fits i = omega arith
bytes_drop (suc n) (x ∷ xs) fits i = bytes_drop n xs (λ j. fits (suc j)) i

bytes_append : (xs ys : List ℕ) → IsBytes xs → IsBytes ys → IsBytes (xs ++ ys)
bytes_append [] ys fits others i = others i
bytes_append (x ∷ xs) ys fits others zero = fits 0
bytes_append (x ∷ xs) ys fits others (suc i) = bytes_append xs ys (λ j. fits (suc j)) others i

pub over_bytes : (at : ℕ) (bytes c left : List ℕ) → left ≡ overwritten at bytes c → IsBytes c → IsBytes bytes → IsBytes left
over_bytes at bytes c left e fits others =
    subst IsBytes (sym e) (bytes_append (take at c ++ bytes) (drop (at + length bytes) c) (bytes_append (take at c) bytes (bytes_take at c fits) others) (bytes_drop (at + length bytes) c fits))

pub cut_bytes : (len : ℕ) (c left : List ℕ) → left ≡ take len c → IsBytes c → IsBytes left
cut_bytes len c left e fits = subst IsBytes (sym e) (bytes_take len c fits)
