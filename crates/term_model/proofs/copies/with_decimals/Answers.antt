use Rattle.std.proofs.Common.{◌≡◌, ◌++◌, List, ℕ, ap, map, sym, ◌∙◌, append-nil, subst, true, length}
use Rattle.term_model.specs.Limits.{have_decimals}
use Rattle.term_model.specs.declared.name.Name.{Name}
use Rattle.term_model.proofs.OneScaleFacts.{are_uniform, from_keys, of_name, one_more, uniform_length}
use Rattle.term_model.proofs.copies.with_decimals.Goals as goal

pub loop-name-init : goal.loop-name-init
loop-name-init c =
    ap (λ (es : List (Name × ℕ)). es ++ map (of_name c.args.decimals) c.into_iter-name-iterator.result) c.new-uniform.ensures.empty
    ∙ ap (λ (names : List Name). map (of_name c.args.decimals) names) (c.into_iter-name-iterator.ensures.into_iter_gives ∙ c.keys-name-items.ensures.rest)
    ∙ from_keys c.args.decimals c.args.assets.now.entries

pub loop-name-preserved : goal.loop-name-preserved
loop-name-preserved c =
    one_more c.args.decimals c.args.assets.now.entries c.loop-name.uniform.entries c.insert.new.self.entries c.in-Some.name.now c.in_ok-clone.field-0 c.loop-name.name-iterator c.next.new.self
    c.keys-name-items.ensures.unique c.in-Some.ensures.steps c.in_ok-clone.ensures.cases c.in_ok-insert.ensures.entries c.loop-name.invariant

pub returns : goal.returns
returns c =
    let k = c.args.decimals in
    let all = sym (append-nil c.loop-name.uniform.entries) ∙ ap (λ (names : List Name). c.loop-name.uniform.entries ++ map (of_name k) names) (sym c.in-None.ensures.steps.0) ∙ c.loop-name.invariant in
    record {
      same = all;
      limits = subst (λ (es : List (Name × ℕ)). have_decimals 1 k es ≡ true) (sym all) (are_uniform k c.args.assets.now.entries);
      few = ap (λ (es : List (Name × ℕ)). length es) all ∙ uniform_length k c.args.assets.now.entries;
    }
