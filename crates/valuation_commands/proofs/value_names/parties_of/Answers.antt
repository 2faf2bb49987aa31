use Rattle.std.proofs.Common.{◌≡◌, ℕ}
use Rattle.std.specs.Map.{keys_of}
use Rattle.std.specs.Prelude.{Some}
use Rattle.term_model.specs.Declarations.{declarations}
use Rattle.contract_grammar.specs.Names.{index_in}
use Rattle.command_words.specs.Words.{between_by}
use Rattle.command_courses.specs.Names.{IsUndeclared}
use Rattle.valuation_commands.specs.ValuePromise.{AreBetween}
use Rattle.valuation_commands.specs.ValueParts.{IsUnknownBetween, flow_of}
use Rattle.valuation_commands.specs.declared.value_names.Parties.{Parties}
use Rattle.command_courses.proofs.StopFacts.{handed_on}
use Rattle.valuation_commands.proofs.ValueParts.{no_asset, no_payer, no_receiver}
use Rattle.valuation_commands.proofs.value_names.parties_of.Goals as goal

pub returns-in_err-from : goal.returns-in_err-from
returns-in_err-from c =
    let d = declarations c.args.decls.now in
    let between = between_by c.args.between.now in
    handed_on (λ (index : ℕ). index_in d.parties between.from ≡ Some index) (λ (p : Parties). AreBetween d between (flow_of p)) (IsUndeclared d.parties between.from) (IsUnknownBetween d between)
    (no_payer d between) c.in_err-from.field-0.0 c.from_residual.result c.in_err-from.ensures c.from_residual.ensures.1

pub returns-in_err-to : goal.returns-in_err-to
returns-in_err-to c =
    let d = declarations c.args.decls.now in
    let between = between_by c.args.between.now in
    handed_on (λ (index : ℕ). index_in d.parties between.to ≡ Some index) (λ (p : Parties). AreBetween d between (flow_of p)) (IsUndeclared d.parties between.to) (IsUnknownBetween d between)
    (no_receiver d between c.in_ok-from.from c.in_ok-from.ensures) c.in_err-to.field-0.0 c.from_residual-in_err-to.result c.in_err-to.ensures c.from_residual-in_err-to.ensures.1

pub returns-in_err-asset : goal.returns-in_err-asset
returns-in_err-asset c =
    let d = declarations c.args.decls.now in
    let between = between_by c.args.between.now in
    handed_on (λ (index : ℕ). index_in (keys_of d.assets) between.asset ≡ Some index) (λ (p : Parties). AreBetween d between (flow_of p)) (IsUndeclared (keys_of d.assets) between.asset) (IsUnknownBetween d between)
    (no_asset d between c.in_ok-from.from c.in_ok-to.to c.in_ok-from.ensures c.in_ok-to.ensures) c.in_err-asset.field-0.0 c.from_residual-in_err-asset.result c.in_err-asset.ensures c.from_residual-in_err-asset.ensures.1
