use Rattle.std.proofs.Common.{◌≡◌}
use Rattle.term_model.proofs.CloneFacts.{cloned_entries, cloned_items}
use Rattle.term_model.specs.declared.name.Name.{Name}
use Rattle.term_model.proofs.decls.Decls.names.Goals as goal

pub returns : goal.returns
returns c =
    let was = c.args.self.now in
    record {
      parties = cloned_items (λ (x y : Name). y ≡ x) (λ x y h. h) was.parties.keys c.in_ok-parties.parties.keys c.in_ok-parties.ensures.cases;
      labels = cloned_entries was.labels.entries c.in_ok-labels.labels.entries c.in_ok-labels.ensures.cases;
      templates = cloned_entries was.templates.entries c.in_ok-templates.templates.entries c.in_ok-templates.ensures.cases;
    }
