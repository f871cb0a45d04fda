-- What is kept stands for a table.
use Rattle.std.proofs.Common.{◌≡◌, ◌∙◌, ℕ, zero, suc, ◌+◌, ◌<◌, Bool, true, false, not, eqb, Option, Some, List, [], ◌∷◌, ◌++◌, length, set, get_or, filter, ap, refl, sym, subst, inl, inr, arith}
use Rattle.std.specs.Prelude.{slice_get, option_map, IfSome}
use Rattle.std.specs.List.{AllByRecursion, AllZip, list_all}
use Rattle.std.proofs.lemmas.Bool.{cases_Bool, cases_eq, eq-eqb, ne_eqb}
use Rattle.call_table.specs.declared.call.CallNo.{CallNo}
use Rattle.call_table.specs.declared.call.Living.{Living}
use Rattle.call_table.specs.declared.call.Flags.{Flags}
use Rattle.call_table.specs.declared.call.Fate.{Fate}
use Rattle.call_table.specs.declared.call.Fate.TheVariants as fate
use Rattle.call_table.specs.declared.call.Group.{Group}
use Rattle.call_table.specs.declared.call.Group.TheVariants as group
use Rattle.call_table.specs.declared.call.Under.{Under}
use Rattle.call_table.specs.declared.call.Under.TheVariants.{Zero, One, More}
use Rattle.call_table.specs.declared.row.Progress.{Progress}
use Rattle.call_table.specs.declared.row.Progress.TheVariants as progress
use Rattle.call_table.specs.declared.row.Row.{Row}
use Rattle.call_table.specs.Table.{State, Name, Call, Table, new_call, added, is_queued, is_sent, is_held, living_name_in, living_name, under_others, under_of, sent, sent_again, with_salt, state_after, settled, flagged, changed_at, places_from, first_from, is_number_of, is_in}
use Rattle.call_table.specs.Kept.{Contents, state_of, living_in, under_in, number_in, is_row_in, is_number, new_row, under_again, sent_row, progress_again, again_row, progress_after, settled_row, flagged_row, IsProgressOf, IsRowOf, IsBelow, Stands}

-- ---- lists that agree

pub zip_length : {X Y : Type 0} (R : X → Y → Type 0) (xs : List X) (ys : List Y) → AllZip R xs ys → length xs ≡ length ys
zip_length R [] [] h = refl
zip_length R [] (y ∷ ys) h = absurd h
zip_length R (x ∷ xs) [] h = absurd h
zip_length R (x ∷ xs) (y ∷ ys) h = omega (arith, zip_length R xs ys h.1)

pub zip_changed : {X Y : Type 0} (R : X → Y → Type 0) (f : X → X) (g : Y → Y) → ((x : X) (y : Y) → R x y → R (f x) (g y)) → (k : ℕ) (xs : List X) (ys : List Y) → AllZip R xs ys → AllZip R (changed_at k f xs) (changed_at k g ys)
zip_changed R f g keeps k [] [] h = tt
zip_changed R f g keeps k [] (y ∷ ys) h = absurd h
zip_changed R f g keeps k (x ∷ xs) [] h = absurd h
zip_changed R f g keeps zero (x ∷ xs) (y ∷ ys) h = (keeps x y h.0, h.1)
zip_changed R f g keeps (suc k) (x ∷ xs) (y ∷ ys) h = (h.0, zip_changed R f g keeps k xs ys h.1)

pub zip_push : {X Y : Type 0} (R : X → Y → Type 0) (xs : List X) (ys : List Y) (x : X) (y : Y) → R x y → AllZip R xs ys → AllZip R (xs ++ x ∷ []) (ys ++ y ∷ [])
zip_push R [] [] x y new h = (new, tt)
zip_push R [] (y' ∷ ys) x y new h = absurd h
zip_push R (x' ∷ xs) [] x y new h = absurd h
zip_push R (x' ∷ xs) (y' ∷ ys) x y new h = (h.0, zip_push R xs ys x y new h.1)

-- what both tell of a place is the same
pub zip_told : {X Y Z : Type 0} (R : X → Y → Type 0) (f : X → Z) (g : Y → Z) → ((x : X) (y : Y) → R x y → f x ≡ g y) → (k : ℕ) (xs : List X) (ys : List Y) → AllZip R xs ys → option_map f (slice_get xs k) ≡ option_map g (slice_get ys k)
zip_told R f g same k [] [] h = refl
zip_told R f g same k [] (y ∷ ys) h = absurd h
zip_told R f g same k (x ∷ xs) [] h = absurd h
zip_told R f g same zero (x ∷ xs) (y ∷ ys) h = ap Some (same x y h.0)
zip_told R f g same (suc k) (x ∷ xs) (y ∷ ys) h = zip_told R f g same k xs ys h.1

pub zip_first : {X Y : Type 0} (R : X → Y → Type 0) (f : X → Bool) (g : Y → Bool) → ((x : X) (y : Y) → R x y → f x ≡ g y) → (first : ℕ) (xs : List X) (ys : List Y) → AllZip R xs ys → first_from f first xs ≡ first_from g first ys
zip_first R f g same first [] [] h = refl
zip_first R f g same first [] (y ∷ ys) h = absurd h
zip_first R f g same first (x ∷ xs) [] h = absurd h
zip_first R f g same first (x ∷ xs) (y ∷ ys) h = rw (same x y h.0, zip_first R f g same (first + 1) xs ys h.1) refl

pub zip_places : {X Y : Type 0} (R : X → Y → Type 0) (f : X → Bool) (g : Y → Bool) → ((x : X) (y : Y) → R x y → f x ≡ g y) → (first : ℕ) (xs : List X) (ys : List Y) → AllZip R xs ys → places_from f first xs ≡ places_from g first ys
zip_places R f g same first [] [] h = refl
zip_places R f g same first [] (y ∷ ys) h = absurd h
zip_places R f g same first (x ∷ xs) [] h = absurd h
zip_places R f g same first (x ∷ xs) (y ∷ ys) h = rw (same x y h.0, zip_places R f g same (first + 1) xs ys h.1) refl

-- a row that is written in its place
pub changed_is_set : {X : Type 0} (f : X → X) (k : ℕ) (xs : List X) (x y : X) → k < length xs → x ≡ get_or xs k x → y ≡ f x → set xs k y ≡ changed_at k f xs
changed_is_set f k [] x y within is made = absurd (omega arith)
changed_is_set f zero (x' ∷ xs) x y within is made = ap (λ z. z ∷ xs) (made ∙ ap f is)
changed_is_set f (suc k) (x' ∷ xs) x y within is made = ap (λ zs. x' ∷ zs) (changed_is_set f k xs x y (omega arith) is made)

pub told_at : {X Z : Type 0} (f : X → Z) (k : ℕ) (xs : List X) (x : X) → k < length xs → x ≡ get_or xs k x → option_map f (slice_get xs k) ≡ Some (f x)
told_at f k [] x within is = absurd (omega arith)
told_at f zero (x' ∷ xs) x within is = ap (λ z. Some (f z)) (sym is)
told_at f (suc k) (x' ∷ xs) x within is = told_at f k xs x (omega arith) is

-- ---- what a row tells of its call

progress_state : (p : Progress) (s : State) (names : List Name) → IsProgressOf p s names → state_of p ≡ s
progress_state progress.Queued s names h = sym h
progress_state (progress.Sent living under) s names h = sym h.0
progress_state progress.Held s names h = sym h
progress_state (progress.Done bytes) s names h = sym h
progress_state (progress.Refused code) s names h = sym h
progress_state (progress.Unknown cause) s names h = sym h

progress_living : (p : Progress) (s : State) (names : List Name) → IsProgressOf p s names → living_in p ≡ option_map (λ name. name.message) (living_name_in s names)
progress_living progress.Queued s names h = rw h refl
progress_living (progress.Sent living under) s [] h = absurd h.1
progress_living (progress.Sent living under) s (name ∷ names) h = rw (h.0, h.1.0) refl
progress_living progress.Held s names h = rw h refl
progress_living (progress.Done bytes) s names h = rw h refl
progress_living (progress.Refused code) s names h = rw h refl
progress_living (progress.Unknown cause) s names h = rw h refl

progress_under : (p : Progress) (s : State) (names : List Name) → IsProgressOf p s names → under_in p ≡ option_map (λ name. under_of name.salts) (living_name_in s names)
progress_under progress.Queued s names h = rw h refl
progress_under (progress.Sent living under) s [] h = absurd h.1
progress_under (progress.Sent living under) s (name ∷ names) h = rw h.0 (ap Some (sym h.1.1))
progress_under progress.Held s names h = rw h refl
progress_under (progress.Done bytes) s names h = rw h refl
progress_under (progress.Refused code) s names h = rw h refl
progress_under (progress.Unknown cause) s names h = rw h refl

progress_number : (number : ℕ) (p : Progress) (s : State) (names : List Name) → IsProgressOf p s names → is_number number (number_in p) ≡ is_number_of number (living_name_in s names)
progress_number number progress.Queued s names h = rw h refl
progress_number number (progress.Sent living under) s [] h = absurd h.1
progress_number number (progress.Sent living under) s (name ∷ names) h = rw (h.0, h.1.0) refl
progress_number number progress.Held s names h = rw h refl
progress_number number (progress.Done bytes) s names h = rw h refl
progress_number number (progress.Refused code) s names h = rw h refl
progress_number number (progress.Unknown cause) s names h = rw h refl

pub row_state : (row : Row) (call : Call) → IsRowOf row call → state_of row.progress ≡ call.state
row_state row call h = progress_state row.progress call.state call.names h.progress

pub row_living : (row : Row) (call : Call) → IsRowOf row call → living_in row.progress ≡ option_map (λ name. name.message) (living_name call)
row_living row call h = progress_living row.progress call.state call.names h.progress

pub row_under : (row : Row) (call : Call) → IsRowOf row call → under_in row.progress ≡ option_map (λ name. under_of name.salts) (living_name call)
row_under row call h = progress_under row.progress call.state call.names h.progress

pub row_number : (number : ℕ) (row : Row) (call : Call) → IsRowOf row call → is_number number (number_in row.progress) ≡ is_number_of number (living_name call)
row_number number row call h = progress_number number row.progress call.state call.names h.progress

pub row_group : (g : Group) (row : Row) (call : Call) → IsRowOf row call → is_row_in g row ≡ is_in g call
row_group group.Queued row call h = ap is_queued (row_state row call h)
row_group group.Outstanding row call h = ap is_sent (row_state row call h)
row_group group.Held row call h = ap is_held (row_state row call h)
row_group group.Alone row call h = ap (λ (flags : Flags). flags.alone) h.flags
row_group group.Dropping row call h = ap (λ (flags : Flags). flags.dropping) h.flags

-- ---- salts

-- salt 0 changes nothing
zero_again : (salt : ℕ) (under : Under) → eqb salt 0 ≡ true → under_again salt under ≡ under
zero_again salt Zero none = rw none refl
zero_again salt (One other) none = rw none refl
zero_again salt More none = refl

two_same : (salt : ℕ) (salts : List ℕ) → eqb salt 0 ≡ false → under_others (salt ∷ (salt ∷ salts)) ≡ under_again salt (under_others (salt ∷ salts))
two_same salt salts some =
    let e : eqb salt salt ≡ true = eq-eqb salt salt refl in
    elim (cases_Bool (list_all (λ other. eqb other salt) salts)) [
      | inl pass ↦ rw (e, pass, some, e) refl
      | inr fail ↦ rw (e, fail) refl
    ]

two_others : (salt first : ℕ) (salts : List ℕ) → eqb salt 0 ≡ false → eqb first salt ≡ false → eqb salt first ≡ false → under_others (salt ∷ (first ∷ salts)) ≡ under_again salt (under_others (first ∷ salts))
two_others salt first salts some apart apart' = elim (cases_Bool (list_all (λ other. eqb other first) salts)) [
  | inl pass ↦ rw (apart, pass, some, apart') refl
  | inr fail ↦ rw (apart, fail) refl
]

others_more : (salt : ℕ) (salts : List ℕ) → eqb salt 0 ≡ false → under_others (salt ∷ salts) ≡ under_again salt (under_others salts)
others_more salt [] some = rw some refl
others_more salt (first ∷ salts) some = elim (cases_eq salt first) [
  | inl same ↦ subst (λ (t : ℕ). under_others (salt ∷ (t ∷ salts)) ≡ under_again salt (under_others (t ∷ salts))) same (two_same salt salts some)
  | inr other ↦ two_others salt first salts some (ne_eqb first salt (λ same. other (sym same))) (ne_eqb salt first other)
]

-- one more salt
pub under_more : (salt : ℕ) (salts : List ℕ) → under_of (salt ∷ salts) ≡ under_again salt (under_of salts)
under_more salt salts = elim (cases_eq salt 0) [
  | inl none ↦ let e : eqb salt 0 ≡ true = eq-eqb salt 0 none in rw e (sym (zero_again salt (under_of salts) e))
  | inr some ↦ let e : eqb salt 0 ≡ false = ne_eqb salt 0 some in rw e (others_more salt (filter (λ s. not (eqb s 0)) salts) e)
]

-- ---- the changes

pub row_new : (body : List ℕ) (after : Option CallNo) → IsRowOf (new_row body after) (new_call body after)
row_new body after = record { body = refl; after = refl; progress = refl; flags = refl }

pub row_sent : (session : ℕ) (living : Living) (salt : ℕ) (row : Row) (call : Call) → IsRowOf row call → IsRowOf (sent_row living salt row) (sent session living salt call)
row_sent session living salt row call h = record { body = h.body; after = h.after; progress = (refl, (refl, under_more salt [])); flags = h.flags }

progress_salt : (salt : ℕ) (p : Progress) (s : State) (names : List Name) → IsProgressOf p s names → IsProgressOf (progress_again salt p) s (with_salt salt names)
progress_salt salt progress.Queued s names h = h
progress_salt salt (progress.Sent living under) s [] h = absurd h.1
progress_salt salt (progress.Sent living under) s (name ∷ names) h = (h.0, (h.1.0, under_more salt name.salts ∙ ap (under_again salt) h.1.1))
progress_salt salt progress.Held s names h = h
progress_salt salt (progress.Done bytes) s names h = h
progress_salt salt (progress.Refused code) s names h = h
progress_salt salt (progress.Unknown cause) s names h = h

pub row_again : (salt : ℕ) (row : Row) (call : Call) → IsRowOf row call → IsRowOf (again_row salt row) (sent_again salt call)
row_again salt row call h = record { body = h.body; after = h.after; progress = progress_salt salt row.progress call.state call.names h.progress; flags = h.flags }

progress_settled : (f : Fate) (names : List Name) → IsProgressOf (progress_after f) (state_after f) names
progress_settled fate.Queue names = refl
progress_settled fate.Hold names = refl
progress_settled (fate.Done bytes) names = refl
progress_settled (fate.Refused code) names = refl
progress_settled (fate.Unknown cause) names = refl

pub row_settled : (f : Fate) (row : Row) (call : Call) → IsRowOf row call → IsRowOf (settled_row f row) (settled f call)
row_settled f row call h = record { body = h.body; after = h.after; progress = progress_settled f call.names; flags = refl }

pub row_flagged : (flags : Flags) (row : Row) (call : Call) → IsRowOf row call → IsRowOf (flagged_row flags row) (flagged flags call)
row_flagged flags row call h = record { body = h.body; after = h.after; progress = h.progress; flags = refl }

-- what is kept stands for a table after a change of one call
pub stands_changed : (k : ℕ) (f : Row → Row) (g : Call → Call) → ((row : Row) (call : Call) → IsRowOf row call → IsRowOf (f row) (g call)) → (kept after : Contents) (table : Table) → after.rows ≡ changed_at k f kept.rows → after.acks ≡ kept.acks → after.packets ≡ kept.packets → Stands kept table → Stands after (record table { calls = changed_at k g table.calls })
stands_changed k f g keeps kept after table rows acks packets h = record {
  rows = rw rows (zip_changed IsRowOf f g keeps k kept.rows table.calls h.rows);
  acks = acks ∙ h.acks;
  packets = packets ∙ h.packets;
}

-- what a row tells of its call, the table tells too
pub told_stands : {Z : Type 0} (f : Row → Z) (g : Call → Z) → ((row : Row) (call : Call) → IsRowOf row call → f row ≡ g call) → (kept : Contents) (table : Table) (rows : List Row) (k j : ℕ) (row : Row) (z : Z) → rows ≡ kept.rows → j ≡ k → j < length rows → row ≡ get_or rows j row → f row ≡ z → Stands kept table → option_map g (slice_get table.calls k) ≡ Some z
told_stands f g same kept table rows k j row z own at within is told h =
    let here : option_map f (slice_get rows j) ≡ Some z = told_at f j rows row within is ∙ ap Some told in
    let there : option_map f (slice_get kept.rows k) ≡ Some z = subst (λ (rs : List Row). option_map f (slice_get rs k) ≡ Some z) own (subst (λ (i : ℕ). option_map f (slice_get rows i) ≡ Some z) at here) in
    sym (zip_told IsRowOf f g same k kept.rows table.calls h.rows) ∙ there

pub group_stands : (g : Group) (kept : Contents) (table : Table) → Stands kept table → places_from (is_row_in g) 0 kept.rows ≡ places_from (is_in g) 0 table.calls
group_stands g kept table h = zip_places IsRowOf (is_row_in g) (is_in g) (row_group g) 0 kept.rows table.calls h.rows

pub first_stands : (number : ℕ) (kept : Contents) (table : Table) → Stands kept table → first_from (λ row. is_number number (number_in row.progress)) 0 kept.rows ≡ first_from (λ call. is_number_of number (living_name call)) 0 table.calls
first_stands number kept table h = zip_first IsRowOf (λ row. is_number number (number_in row.progress)) (λ call. is_number_of number (living_name call)) (row_number number) 0 kept.rows table.calls h.rows

pub stands_pushed : (kept after : Contents) (table : Table) (body : List ℕ) (earlier : Option CallNo) → after.rows ≡ kept.rows ++ new_row body earlier ∷ [] → after.acks ≡ kept.acks → after.packets ≡ kept.packets → Stands kept table → Stands after (added body earlier table)
stands_pushed kept after table body earlier rows acks packets h = record {
  rows = rw rows (zip_push IsRowOf kept.rows table.calls (new_row body earlier) (new_call body earlier) (row_new body earlier) h.rows);
  acks = acks ∙ h.acks;
  packets = packets ∙ h.packets;
}

-- ---- what the conditions ask

below_progress : (number : ℕ) (p : Progress) (s : State) (names : List Name) → IsProgressOf p s names → IfSome (living_name_in s names) (λ name. name.message.number < number) → IfSome (number_in p) (λ living. living < number)
below_progress number progress.Queued s names h below = tt
below_progress number (progress.Sent living under) s [] h below = absurd h.1
below_progress number (progress.Sent living under) s (name ∷ names) h below =
    let here : name.message.number < number = rw h.0 at below in
    subst (λ (l : Living). l.number < number) h.1.0 here
below_progress number progress.Held s names h below = tt
below_progress number (progress.Done bytes) s names h below = tt
below_progress number (progress.Refused code) s names h below = tt
below_progress number (progress.Unknown cause) s names h below = tt

zip_below : (number : ℕ) (rows : List Row) (calls : List Call) → AllZip IsRowOf rows calls → AllByRecursion (λ call. IfSome (living_name call) (λ name. name.message.number < number)) calls → AllByRecursion (IsBelow number) rows
zip_below number [] [] h below = tt
zip_below number [] (call ∷ calls) h below = absurd h
zip_below number (row ∷ rows) [] h below = absurd h
zip_below number (row ∷ rows) (call ∷ calls) h below = (below_progress number row.progress call.state call.names h.0.progress below.0, zip_below number rows calls h.1 below.1)

pub below_stands : (number : ℕ) (kept : Contents) (table : Table) → Stands kept table → AllByRecursion (λ call. IfSome (living_name call) (λ name. name.message.number < number)) table.calls → AllByRecursion (IsBelow number) kept.rows
below_stands number kept table h below = zip_below number kept.rows table.calls h.rows below
