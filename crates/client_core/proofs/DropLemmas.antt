-- The answers that are to be dropped, as they are gone through.
use Rattle.std.proofs.Common.{◌≡◌, ◌∙◌, ℕ, ◌+◌, ◌<◌, ◌≤◌, true, false, List, [], ◌∷◌, Option, Some, None, length, drop, ap, refl, sym, subst, inl, inr, arith}
use Rattle.std.specs.Prelude.{◌≢◌, slice_get, fold}
use Rattle.std.proofs.lemmas.Bool.{cases_Bool, true≢false}
use Rattle.service_tl.specs.declared.item.Item.TheVariants.{RpcDropAnswer}
use Rattle.service_tl.specs.Items.{spelling_of}
use Rattle.call_table.specs.declared.call.CallNo.{CallNo}
use Rattle.call_table.specs.Table.{at}
use Rattle.client_rules.specs.Client.{after_message, calls_of, numbered, with_call}
use Rattle.client_rules.specs.Filling.{Filling, changes, number_of, says_drop, says_drop_of, undropped}
use Rattle.client_core.specs.Kept.{Contents}
use Rattle.client_core.specs.Draft.{Draft, Goes, DropsSoFar, drops}
use Rattle.client_core.proofs.GoesLemmas.{goes_full}
use Rattle.client_core.proofs.QueueLemmas.{drop_get}

-- a full packet takes none
full_drop : {S : Type 0} (call : CallNo) (own : Option ℕ) (filling : Filling S) → filling.is_full ≡ true → says_drop_of call own filling ≡ filling
full_drop call None filling full = refl
full_drop call (Some number) filling full =
    goes_full (numbered true (spelling_of (RpcDropAnswer number)) filling.client) (changes (λ client. with_call call undropped (after_message true client))) filling full

full_drops : {S : Type 0} (filling : Filling S) (calls : List CallNo) → filling.is_full ≡ true → fold says_drop filling calls ≡ filling
full_drops filling [] full = refl
full_drops filling (call ∷ calls) full =
    ap (λ own. fold says_drop own calls) (full_drop call (number_of (at call (calls_of filling.client))) filling full) ∙ full_drops filling calls full

pub drops_none : {S : Type 0} (first : Filling S) (core : Contents) (draft : Draft) (count : ℕ) → Goes core draft first → count ≡ length (drops first) → DropsSoFar first core draft 0 count
drops_none first core draft count is all = record { now = first; goes = is; same = refl; left = λ room. omega (arith, all) }

-- one went, or doesn't fit
pub drops_next : {S : Type 0} (first : Filling S) (core new : Contents) (draft after : Draft) (k count : ℕ) (call : CallNo)
    → (so : DropsSoFar first core draft k count) → draft.is_full ≡ false → Some call ≡ slice_get (drops so.now) 0
    → Goes new after (says_drop so.now call) → (after.is_full ≡ false → drops (says_drop so.now call) ≡ drop 1 (drops so.now)) → DropsSoFar first new after (k + 1) count
drops_next first core new draft after k count call so room told is gone =
    let here : drops so.now ≡ call ∷ drop 1 (drops so.now) = drop_get (drops so.now) 0 call (sym told) in
    let next = says_drop so.now call in
    let step = so.same ∙ ap (fold says_drop so.now) here in
    elim (cases_Bool after.is_full) [
      | inl full ↦ record {
        now = next;
        goes = is;
        same = step ∙ (full_drops next (drop 1 (drops so.now)) (sym is.is_full ∙ full) ∙ sym (full_drops next (drops next) (sym is.is_full ∙ full)));
        left = λ still. absurd (true≢false (sym full ∙ still));
      }
      | inr still ↦ record {
        now = next;
        goes = is;
        same = step ∙ ap (fold says_drop next) (sym (gone still));
        left = λ room_now. omega (arith, so.left room, ap length here, ap length (gone still));
      }
    ]

pub drops_full : {S : Type 0} (first : Filling S) (core : Contents) (draft : Draft) (k count : ℕ) → DropsSoFar first core draft k count → draft.is_full ≡ true
    → Goes core draft (fold says_drop first (drops first))
drops_full first core draft k count so full =
    subst (Goes core draft) (sym (so.same ∙ full_drops so.now (drops so.now) (sym so.goes.is_full ∙ full))) so.goes

none_left : {X : Type 0} (xs : List X) → length xs ≡ 0 → xs ≡ []
none_left [] none = refl
none_left (x ∷ xs) none = absurd (omega (arith, none))

pub drops_all : {S : Type 0} (first : Filling S) (core : Contents) (draft : Draft) (k count : ℕ) → DropsSoFar first core draft k count → count ≤ k
    → Goes core draft (fold says_drop first (drops first))
drops_all first core draft k count so all = elim (cases_Bool draft.is_full) [
  | inl full ↦ drops_full first core draft k count so full
  | inr still ↦
      let none = none_left (drops so.now) (omega (arith, so.left still, all)) in
      subst (Goes core draft) (sym (so.same ∙ ap (fold says_drop so.now) none)) so.goes
]

none_get : {X : Type 0} (xs : List X) → None ≡ slice_get xs 0 → length xs ≡ 0
none_get [] none = refl
none_get (x ∷ xs) none = grind (arith, none)

-- there is a next one
pub drops_there : {S : Type 0} (first : Filling S) (core : Contents) (draft : Draft) (k count : ℕ) → (so : DropsSoFar first core draft k count) → draft.is_full ≡ false → k < count
    → None ≡ slice_get (drops so.now) 0 → ⊥
drops_there first core draft k count so room less none = absurd (omega (arith, so.left room, none_get (drops so.now) none, less))
