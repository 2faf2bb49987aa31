use Rattle.std.proofs.Common.{◌≡◌, ◌<◌, ◌^◌, ◌∙◌, List, ℕ, ap, length, subst, sym, true}
use Rattle.term_model.specs.Declarations.{declarations}
use Rattle.term_model.specs.Limits.{have_decimals}
use Rattle.term_model.specs.declared.name.Name.{Name}
use Rattle.term_model.proofs.CloneFacts.{cloned_entries}
use Rattle.term_model.proofs.decls.Decls.copy.Goals as goal

pub with_assets-requires : goal.with_assets-requires
with_assets-requires c =
    let was = c.args.self.now in
    let same = sym (cloned_entries was.assets.entries c.in_ok-assets.assets.entries c.in_ok-assets.ensures.cases) in
    record {
      version = was.version_in;
      decimals = subst (λ (es : List (Name × ℕ)). have_decimals was.version was.amounts es ≡ true) same was.decimals_in;
      few = subst (λ (es : List (Name × ℕ)). length es < 2 ^ 32) same was.few_assets;
      parties = c.in_ok-names.ensures.parties;
      labels = c.in_ok-names.ensures.labels;
      templates = c.in_ok-names.ensures.templates;
    }

pub returns : goal.returns
returns c =
    let was = c.args.self.now in
    c.with_assets.ensures
    ∙ ap (λ (es : List (Name × ℕ)). record (declarations was) { assets = es }) (cloned_entries was.assets.entries c.in_ok-assets.assets.entries c.in_ok-assets.ensures.cases)
