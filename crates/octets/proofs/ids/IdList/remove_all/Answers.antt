use Rattle.std.proofs.Common.{◌≡◌, ◌==◌, not, ℕ, List, subst, sym, rules}
use Rattle.std.specs.List.{filter}
use Rattle.std.proofs.lemmas.Fn.{filter_same}
use Rattle.octets.specs.Bytes.{AreLongs}
use Rattle.octets.proofs.Members.{longs_kept}
use Rattle.octets.proofs.ids.IdList.remove_all.Goals as goal

pub invariant_of-self : goal.invariant_of-self
invariant_of-self c =
    let test = λ (other : ℕ). not (other == c.args.number) in
    let left : c.retain.new.self.items ≡ filter test c.self.inside.numbers.items = filter_same _ test _ (λ x b f' k. search rules) _ _ c.retain.ensures.filtered in
    subst AreLongs (sym left) (longs_kept test c.self.inside.numbers.items c.self.invariant)

pub returns : goal.returns
returns c =
    let test = λ (other : ℕ). not (other == c.args.number) in
    let left : c.retain.new.self.items ≡ filter test c.self.inside.numbers.items = filter_same _ test _ (λ x b f' k. search rules) _ _ c.retain.ensures.filtered in
    subst (λ (numbers : List ℕ). c.retain.new.self.items ≡ filter test numbers) c.self.view_is left
