use Rattle.std.proofs.Common.{pos, ◌≡◌, ◌-◌, ◌*◌, ◌^◌, ℕ, ℤ, [], Option, ap, sym, subst, ◌∙◌, arith}
use Rattle.std.proofs.lemmas.Int.{to_z_pos}
use mir.Syntax.{w128}
use Rattle.term_model.specs.Declarations.{declarations}
use Rattle.term_model.specs.declared.rules.Rule.TheVariants.{Sort, Time, Scale, Size, Bound}
use Rattle.term_model.specs.Terms.{contract}
use Rattle.term_model.specs.Sites.{Once, EachDay}
use Rattle.term_model.specs.Flows.{scale_of_contract}
use Rattle.term_model.specs.Times.{IsStart}
use Rattle.term_model.specs.Bounds.{total_of}
use Rattle.contract_check.proofs.Granted.{granted}
use Rattle.contract_check.proofs.SimpleFacts.{is_start}
use Rattle.contract_check.proofs.simple_contracts.simple_facts.Goals as goal

pub returns : goal.returns
returns c =
    let d = declarations c.args.decls.now in
    let e = contract c.args.c.now in
    let x = c.in_ok-measured.measured in
    let rules = c.in_ok-measured.ensures.0 in
    let h = c.in_ok-measured.ensures.1 in
    let decimals : d.amounts - 0 - scale_of_contract d e [] ≡ d.amounts - scale_of_contract d e [] = omega arith in
    granted d e _ (rules Sort Once [] 0 tt) (rules Time Once [] 0 tt) (rules Scale Once [] 0 tt) (rules Size Once [] 0 tt) (rules Bound EachDay [] 0 tt) c.args.decls.now.labels_in
    (subst (λ (start : Option ℤ). IsStart e start) (sym c.start_of.ensures) (is_start e x.start h.start))
    h.scale
    (to_z_pos w128 x.total (omega (arith, h.within.total)) ∙ ap (λ (n : ℕ). pos n) (h.total ∙ ap (λ (i : ℕ). total_of d e [] * 10 ^ i) decimals))
    h.horizon
