-- One text behind another.
use Rattle.std.proofs.Common.{◌≡◌, ◌≢◌, ◌+◌, ◌-◌, ◌^◌, ◌⊎◌, inl, inr, ℕ, Bool, true, false, leb, List, [], ◌++◌, Option, Some, None, IfSome, IsSomeAnd, refl, sym, ap, subst, ◌∙◌, append_assoc, append-nil, arith}
use Rattle.std.proofs.lemmas.Bool.{leb-true, leb-false}
use Rattle.mt_edge.specs.Faults.{Rose, one_more}
use Rattle.statuses.specs.Outside.{Outside, Tells}
use Rattle.statuses.specs.declared.status.Status.{Status}

writes-both : (first middle last : Option (List ℕ)) (one other : List ℕ) → IfSome first (λ bytes. middle ≡ Some (bytes ++ one)) → IfSome middle (λ bytes. last ≡ Some (bytes ++ other))
    → IfSome first (λ bytes. last ≡ Some (bytes ++ (one ++ other)))
writes-both None middle last one other wrote then = tt
writes-both (Some bytes) middle last one other wrote then =
    let next : last ≡ Some ((bytes ++ one) ++ other) = subst (λ (told : Option (List ℕ)). IfSome told (λ some. last ≡ Some (some ++ other))) wrote then in
    next ∙ ap (λ (all : List ℕ). Some all) (append_assoc bytes one other)

abbrev pub Front : Option (List ℕ) → Option (List ℕ) → List ℕ → Type 0
Front first last due = IfSome first (λ bytes. IsSomeAnd last (λ now. (front : List ℕ) × (rest : List ℕ) × (due ≡ front ++ rest) × (rest ≢ []) × (now ≡ bytes ++ front)))

front-of : (bytes now one other : List ℕ) → ((front : List ℕ) × (rest : List ℕ) × (other ≡ front ++ rest) × (rest ≢ []) × (now ≡ (bytes ++ one) ++ front))
    → (front : List ℕ) × (rest : List ℕ) × ((one ++ other) ≡ front ++ rest) × (rest ≢ []) × (now ≡ bytes ++ front)
front-of bytes now one other wrote = (
  one ++ wrote.0,
  wrote.1,
  ap (λ (rest : List ℕ). one ++ rest) wrote.2 ∙ sym (append_assoc one wrote.0 wrote.1),
  wrote.3,
  wrote.4 ∙ append_assoc bytes one wrote.0,
)

front-some : (bytes : List ℕ) (last : Option (List ℕ)) (one other : List ℕ)
    → IsSomeAnd last (λ now. (front : List ℕ) × (rest : List ℕ) × (other ≡ front ++ rest) × (rest ≢ []) × (now ≡ (bytes ++ one) ++ front))
    → IsSomeAnd last (λ now. (front : List ℕ) × (rest : List ℕ) × ((one ++ other) ≡ front ++ rest) × (rest ≢ []) × (now ≡ bytes ++ front))
front-some bytes None one other wrote = absurd wrote
front-some bytes (Some now) one other wrote = front-of bytes now one other wrote

front-both : (first middle last : Option (List ℕ)) (one other : List ℕ) → IfSome first (λ bytes. middle ≡ Some (bytes ++ one)) → Front middle last other → Front first last (one ++ other)
front-both None middle last one other wrote then = tt
front-both (Some bytes) middle last one other wrote then =
    front-some bytes last one other (subst (λ (told : Option (List ℕ)). Front told last other) wrote then)

rose-over : (first middle last : ℕ) → middle ≡ first → Rose middle last → Rose first last
rose-over first middle last never (inl more) = inl (omega (arith, never, more))
rose-over first middle last never (inr most) = inr most

-- a text is written, and then another one told
pub tells-both : {T : Type 0} (told : T → Option (List ℕ)) (faults : T → ℕ) (first middle last : T) (one other : List ℕ) (due answer : Status)
    → IfSome (told first) (λ bytes. told middle ≡ Some (bytes ++ one)) → faults middle ≡ faults first
    → Tells (record { told = told; faults = faults; before = middle; after = last }) due other answer
    → Tells (record { told = told; faults = faults; before = first; after = last }) due (one ++ other) answer
tells-both told faults first middle last one other due answer wrote never (inl done) =
    inl (done.0, record { bytes = writes-both (told first) (told middle) (told last) one other wrote done.1.bytes; no_fault = done.1.no_fault ∙ never })
tells-both told faults first middle last one other due answer wrote never (inr failed) =
    inr (failed.0, rose-over (faults first) (faults middle) (faults last) never failed.1, front-both (told first) (told middle) (told last) one other wrote failed.2)

-- the same, by the lines that these texts are
pub tells-lines : {T : Type 0} (told : T → Option (List ℕ)) (faults : T → ℕ) (first middle last : T) (one other line next : List ℕ) (due answer : Status) → one ≡ line → other ≡ next
    → IfSome (told first) (λ bytes. told middle ≡ Some (bytes ++ one)) → faults middle ≡ faults first
    → Tells (record { told = told; faults = faults; before = middle; after = last }) due other answer
    → Tells (record { told = told; faults = faults; before = first; after = last }) due (line ++ next) answer
tells-lines told faults first middle last one other line next due answer is also wrote never tells =
    subst (λ (text : List ℕ). Tells (record { told = told; faults = faults; before = first; after = last }) due (text ++ next) answer) is
    (subst (λ (text : List ℕ). Tells (record { told = told; faults = faults; before = first; after = last }) due (one ++ text) answer) also
    (tells-both told faults first middle last one other due answer wrote never tells))

pub tells-line : {T : Type 0} (out : Outside T) (due : Status) (text line : List ℕ) (answer : Status) → text ≡ line → Tells out due text answer → Tells out due line answer
tells-line out due text line answer is tells = subst (λ (some : List ℕ). Tells out due some answer) is tells

-- ---- a text that is written whole, before another one

abbrev pub First : Option (List ℕ) → Option (List ℕ) → List ℕ → Type 0
First first last text = IfSome first (λ bytes. IsSomeAnd last (λ now. (rest : List ℕ) × (now ≡ bytes ++ (text ++ rest))))

first-some : (bytes : List ℕ) (last : Option (List ℕ)) (one other : List ℕ) → last ≡ Some ((bytes ++ one) ++ other) → IsSomeAnd last (λ now. (rest : List ℕ) × (now ≡ bytes ++ (one ++ rest)))
first-some bytes last one other wrote =
    subst (λ (told : Option (List ℕ)). IsSomeAnd told (λ now. (rest : List ℕ) × (now ≡ bytes ++ (one ++ rest)))) (sym wrote) (other, append_assoc bytes one other)

first-front : (bytes : List ℕ) (last : Option (List ℕ)) (one other : List ℕ)
    → IsSomeAnd last (λ now. (front : List ℕ) × (rest : List ℕ) × (other ≡ front ++ rest) × (rest ≢ []) × (now ≡ (bytes ++ one) ++ front))
    → IsSomeAnd last (λ now. (rest : List ℕ) × (now ≡ bytes ++ (one ++ rest)))
first-front bytes None one other wrote = absurd wrote
first-front bytes (Some now) one other wrote = (wrote.0, wrote.4 ∙ append_assoc bytes one wrote.0)

first-over : (first middle last : Option (List ℕ)) (one other : List ℕ) → IfSome first (λ bytes. middle ≡ Some (bytes ++ one))
    → IfSome middle (λ bytes. last ≡ Some (bytes ++ other)) ⊎ Front middle last other → First first last one
first-over None middle last one other wrote then = tt
first-over (Some bytes) middle last one other wrote (inl then) =
    first-some bytes last one other (subst (λ (told : Option (List ℕ)). IfSome told (λ some. last ≡ Some (some ++ other))) wrote then)
first-over (Some bytes) middle last one other wrote (inr then) =
    first-front bytes last one other (subst (λ (told : Option (List ℕ)). Front told last other) wrote then)

first-tells : {T : Type 0} (told : T → Option (List ℕ)) (faults : T → ℕ) (first middle last : T) (one other : List ℕ) (due answer : Status)
    → IfSome (told first) (λ bytes. told middle ≡ Some (bytes ++ one)) → Tells (record { told = told; faults = faults; before = middle; after = last }) due other answer
    → First (told first) (told last) one
first-tells told faults first middle last one other due answer wrote (inl done) = first-over (told first) (told middle) (told last) one other wrote (inl done.1.bytes)
first-tells told faults first middle last one other due answer wrote (inr failed) = first-over (told first) (told middle) (told last) one other wrote (inr failed.2)

-- by the line that it is: another text is told behind it, or none
pub first-line : {T : Type 0} (told : T → Option (List ℕ)) (faults : T → ℕ) (first middle last : T) (one other line : List ℕ) (due answer : Status) → one ≡ line
    → IfSome (told first) (λ bytes. told middle ≡ Some (bytes ++ one)) → Tells (record { told = told; faults = faults; before = middle; after = last }) due other answer
    → First (told first) (told last) line
first-line told faults first middle last one other line due answer is wrote tells =
    subst (λ (text : List ℕ). First (told first) (told last) text) is (first-tells told faults first middle last one other due answer wrote tells)

first-alone : (first last : Option (List ℕ)) (text : List ℕ) → IfSome first (λ bytes. last ≡ Some (bytes ++ text)) → First first last text
first-alone None last text wrote = tt
first-alone (Some bytes) last text wrote =
    subst (λ (told : Option (List ℕ)). IsSomeAnd told (λ now. (rest : List ℕ) × (now ≡ bytes ++ (text ++ rest)))) (sym wrote) ([], ap (λ (all : List ℕ). bytes ++ all) (sym (append-nil text)))

pub first-line-alone : (first last : Option (List ℕ)) (text line : List ℕ) → text ≡ line → IfSome first (λ bytes. last ≡ Some (bytes ++ text)) → First first last line
first-line-alone first last text line is wrote = subst (λ (some : List ℕ). First first last some) is (first-alone first last text wrote)

-- ---- counts

rose-by : (before after : ℕ) (so : Bool) → leb (before + 1) (2 ^ 64 - 1) ≡ so → after ≡ one_more before → Rose before after
rose-by before after true so once = inl (omega (arith, leb-true (before + 1) (2 ^ 64 - 1) so, once))
rose-by before after false so once = inr (omega (arith, leb-false (before + 1) (2 ^ 64 - 1) so, once))

pub rose-once : (before after : ℕ) → after ≡ one_more before → Rose before after
rose-once before after once = rose-by before after (leb (before + 1) (2 ^ 64 - 1)) refl once
