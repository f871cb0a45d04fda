-- The numbers under which calls are outstanding, and the next one.
use Rattle.std.proofs.Common.{◌≡◌, ◌∙◌, ℕ, ◌<◌, nat_lt, true, false, List, [], ◌∷◌, Option, Some, None, ap, refl, sym, inl, inr, arith}
use Rattle.std.specs.Prelude.{if◌then◌else◌, option_map, fold, filter_map}
use Rattle.std.specs.List.{AllZip, cons_option}
use Rattle.std.proofs.lemmas.Bool.{cases_Bool}
use Rattle.std.proofs.lemmas.Bool.Decides.{nat_tests}
use Rattle.call_table.specs.declared.call.Living.{Living}
use Rattle.call_table.specs.declared.call.Under.{Under}
use Rattle.call_table.specs.declared.row.Progress.{Progress}
use Rattle.call_table.specs.declared.row.Progress.TheVariants as progress
use Rattle.call_table.specs.declared.row.Row.{Row}
use Rattle.call_table.specs.Table.{State, Sent, Name, Call, living_name, living_name_in, living_numbers, with_number, with_own}
use Rattle.call_table.specs.Kept.{IsNewest, IsProgressOf, IsRowOf, number_in, numbers_in}
use Rattle.msg_ids.specs.Counters.{next_number}
use Rattle.client_rules.specs.Filling.{inserted, living_number}

ins_less : (x a : ℕ) (xs : List ℕ) → nat_lt x a ≡ true → inserted (x ∷ xs) a ≡ x ∷ inserted xs a
ins_less x a xs less = ap (λ b. if b then x ∷ inserted xs a else a ∷ (x ∷ xs)) less

ins_here : (x a : ℕ) (xs : List ℕ) → nat_lt x a ≡ false → inserted (x ∷ xs) a ≡ a ∷ (x ∷ xs)
ins_here x a xs less = ap (λ b. if b then x ∷ inserted xs a else a ∷ (x ∷ xs)) less

-- both stand in front of the list
swap_front : (a b : ℕ) (xs : List ℕ) → inserted (a ∷ xs) b ≡ a ∷ inserted xs b → nat_lt a b ≡ true → inserted xs b ≡ b ∷ xs → inserted (a ∷ xs) b ≡ inserted (b ∷ xs) a
swap_front a b xs here less front =
    let other : nat_lt b a ≡ false = grind (arith, nat_tests, less) in
    here ∙ (ap (λ ys. a ∷ ys) front ∙ sym (ins_here b a xs other))

swap_both : (a b x : ℕ) (xs : List ℕ) → nat_lt x a ≡ false → nat_lt x b ≡ false → inserted (a ∷ (x ∷ xs)) b ≡ inserted (b ∷ (x ∷ xs)) a
swap_both a b x xs below_a below_b = elim (cases_Bool (nat_lt a b)) [
  | inl less ↦ swap_front a b (x ∷ xs) (ins_less a b (x ∷ xs) less) less (ins_here x b xs below_b)
  | inr over ↦ elim (cases_Bool (nat_lt b a)) [
    | inl less ↦ sym (swap_front b a (x ∷ xs) (ins_less b a (x ∷ xs) less) less (ins_here x a xs below_a))
    | inr under ↦
        let same : a ≡ b = grind (arith, nat_tests, over, under) in
        ap (λ n. inserted (n ∷ (x ∷ xs)) b) same ∙ ap (λ n. inserted (b ∷ (x ∷ xs)) n) (sym same)
  ]
]

-- where one goes behind the first, and the other doesn't
swap_apart : (a b x : ℕ) (xs : List ℕ) → nat_lt x a ≡ true → nat_lt x b ≡ false → inserted (inserted (x ∷ xs) a) b ≡ inserted (inserted (x ∷ xs) b) a
swap_apart a b x xs behind front =
    let less : nat_lt b a ≡ true = grind (arith, nat_tests, behind, front) in
    ap (λ ys. inserted ys b) (ins_less x a xs behind)
    ∙ (ins_here x b (inserted xs a) front
    ∙ sym (ap (λ ys. inserted ys a) (ins_here x b xs front) ∙ (ins_less b a (x ∷ xs) less ∙ ap (λ ys. b ∷ ys) (ins_less x a xs behind))))

-- numbers take their places in either order
inserts_swap : (a b : ℕ) (xs : List ℕ) → inserted (inserted xs a) b ≡ inserted (inserted xs b) a
inserts_swap a b [] = elim (cases_Bool (nat_lt a b)) [
  | inl less ↦ swap_front a b [] (ins_less a b [] less) less refl
  | inr over ↦ elim (cases_Bool (nat_lt b a)) [
    | inl less ↦ sym (swap_front b a [] (ins_less b a [] less) less refl)
    | inr under ↦
        let same : a ≡ b = grind (arith, nat_tests, over, under) in
        ap (λ n. inserted (n ∷ []) b) same ∙ ap (λ n. inserted (b ∷ []) n) (sym same)
  ]
]
inserts_swap a b (x ∷ xs) = elim (cases_Bool (nat_lt x a)) [
  | inl behind_a ↦ elim (cases_Bool (nat_lt x b)) [
    | inl behind_b ↦
        ap (λ ys. inserted ys b) (ins_less x a xs behind_a)
        ∙ (ins_less x b (inserted xs a) behind_b
        ∙ (ap (λ ys. x ∷ ys) (inserts_swap a b xs)
        ∙ sym (ap (λ ys. inserted ys a) (ins_less x b xs behind_b) ∙ ins_less x a (inserted xs b) behind_a)))
    | inr front_b ↦ swap_apart a b x xs behind_a front_b
  ]
  | inr front_a ↦ elim (cases_Bool (nat_lt x b)) [
    | inl behind_b ↦ sym (swap_apart b a x xs behind_b front_a)
    | inr front_b ↦ ap (λ ys. inserted ys b) (ins_here x a xs front_a) ∙ (swap_both a b x xs front_a front_b ∙ sym (ap (λ ys. inserted ys a) (ins_here x b xs front_b)))
  ]
]

fold_inserted : (ns acc : List ℕ) (n : ℕ) → fold inserted (inserted acc n) ns ≡ inserted (fold inserted acc ns) n
fold_inserted [] acc n = refl
fold_inserted (m ∷ ns) acc n = ap (λ own. fold inserted own ns) (inserts_swap n m acc) ∙ fold_inserted ns (inserted acc m) n

with_is : (n : ℕ) (xs : List ℕ) → inserted xs n ≡ with_number n xs
with_is n [] = refl
with_is n (x ∷ xs) = ap (λ ys. if nat_lt x n then x ∷ ys else n ∷ (x ∷ xs)) (with_is n xs)

own_is : (own : Option ℕ) (ns all : List ℕ) → fold inserted [] ns ≡ all → fold inserted [] (cons_option own ns) ≡ with_own own all
own_is None ns all is = is
own_is (Some n) ns all is = fold_inserted ns [] n ∙ (ap (λ ys. inserted ys n) is ∙ with_is n all)

-- the calls' numbers, taken one by one, are those in order
pub outstanding_is : (calls : List Call) → fold inserted [] (filter_map living_number calls) ≡ living_numbers calls
outstanding_is [] = refl
outstanding_is (call ∷ calls) = own_is (living_number call) (filter_map living_number calls) (living_numbers calls) (outstanding_is calls)

newest_number : (living : Living) (under : Under) (names : List Name) → IsNewest living under names → Some living.number ≡ option_map (λ name. name.message.number) (living_name_in Sent names)
newest_number living under [] is = absurd is
newest_number living under (name ∷ names) is = ap (λ own. Some own.number) (sym is.0)

row_number : (own : Progress) (state : State) (names : List Name) → IsProgressOf own state names → number_in own ≡ option_map (λ name. name.message.number) (living_name_in state names)
row_number progress.Queued state names is = ap (λ s. option_map (λ name. name.message.number) (living_name_in s names)) (sym is)
row_number (progress.Sent living under) state names is =
    newest_number living under names is.1 ∙ ap (λ s. option_map (λ name. name.message.number) (living_name_in s names)) (sym is.0)
row_number progress.Held state names is = ap (λ s. option_map (λ name. name.message.number) (living_name_in s names)) (sym is)
row_number (progress.Done bytes) state names is = ap (λ s. option_map (λ name. name.message.number) (living_name_in s names)) (sym is)
row_number (progress.Refused code) state names is = ap (λ s. option_map (λ name. name.message.number) (living_name_in s names)) (sym is)
row_number (progress.Unknown cause) state names is = ap (λ s. option_map (λ name. name.message.number) (living_name_in s names)) (sym is)

-- what is kept tells the same numbers
pub kept_numbers : (rows : List Row) (calls : List Call) → AllZip IsRowOf rows calls → numbers_in rows ≡ living_numbers calls
kept_numbers [] [] is = refl
kept_numbers [] (call ∷ calls) is = absurd is
kept_numbers (row ∷ rows) [] is = absurd is
kept_numbers (row ∷ rows) (call ∷ calls) is =
    ap (λ own. with_own own (numbers_in rows)) (row_number row.progress call.state call.names is.0.progress)
    ∙ ap (with_own (option_map (λ name. name.message.number) (living_name call))) (kept_numbers rows calls is.1)

-- the next number is behind the last one
pub next_behind : (last now : ℕ) → last < next_number last now
next_behind last now = omega arith
