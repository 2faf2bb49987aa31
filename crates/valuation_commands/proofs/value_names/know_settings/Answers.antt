use Rattle.std.proofs.Common.{◌≡◌, ◌∙◌, ℕ, List, true, false, ap, refl, rules}
use Rattle.std.specs.Prelude.{is_none}
use Rattle.std.specs.Map.{keys_of}
use Rattle.term_model.specs.declared.name.Name.{Name}
use Rattle.term_model.specs.Declarations.{declarations}
use Rattle.report.specs.declared.fault_lines.Fault.TheVariants as fault
use Rattle.contract_grammar.specs.Names.{index_in}
use Rattle.valuation_commands.specs.ValuePromise.{first_unknown_of, names_set}
use Rattle.valuation_commands.proofs.value_names.know_settings.Goals as goal

pub returns-then-is_none : goal.returns-then-is_none
returns-then-is_none c =
    let d = declarations c.args.decls.now in
    let absent : is_none (index_in (keys_of d.templates) c.in-Some.name.now) ≡ true = search rules in
    let named : c.in_ok-name.name ≡ c.in-Some.name.now = search rules in
    record {
      name = c.in-Some.name.now;
      is_first = c.loop-name.invariant ∙ ap (λ (left : List (Name × ℕ)). first_unknown_of (names_set d left)) c.in-Some.ensures.steps ∙ rw absent refl;
      fault_is = ap (λ (n : List ℕ). fault.UnknownName n) named;
    }

pub loop-name-preserved : goal.loop-name-preserved
loop-name-preserved c =
    let d = declarations c.args.decls.now in
    let there : is_none (index_in (keys_of d.templates) c.in-Some.name.now) ≡ false = search rules in
    c.loop-name.invariant ∙ ap (λ (left : List (Name × ℕ)). first_unknown_of (names_set d left)) c.in-Some.ensures.steps ∙ rw there refl
