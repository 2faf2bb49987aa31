use Rattle.term_model.specs.Declarations.{declarations}
use Rattle.command_words.specs.Words.{value_by}
use Rattle.valuation_commands.specs.ValueStages.{IsFirstUnknown, KnowsNames}
use Rattle.valuation_commands.specs.ValuePromise.{AreBetween}
use Rattle.valuation_commands.specs.ValueParts.{IsUnknownBetween, IsUnknownSetting, SettingsAreKnown, flow_of}
use Rattle.valuation_commands.specs.declared.value_names.Parties.{Parties}
use Rattle.command_courses.proofs.StopFacts.{handed_on}
use Rattle.valuation_commands.proofs.ValueParts.{between_stops, knows, setting_stops}
use Rattle.valuation_commands.proofs.value_names.know_names.Goals as goal

pub returns-in_err-parties : goal.returns-in_err-parties
returns-in_err-parties c =
    let d = declarations c.args.decls.now in
    let asked = value_by c.args.value.now in
    handed_on (λ (p : Parties). AreBetween d asked.between (flow_of p)) (λ (p : Parties). KnowsNames d asked (flow_of p)) (IsUnknownBetween d asked.between) (IsFirstUnknown d asked)
    (between_stops d asked) c.in_err-parties.field-0.0 c.from_residual.result c.in_err-parties.ensures c.from_residual.ensures.1

pub returns-in_err-know_settings : goal.returns-in_err-know_settings
returns-in_err-know_settings c =
    let d = declarations c.args.decls.now in
    let asked = value_by c.args.value.now in
    handed_on (λ (u : Unit {0}). SettingsAreKnown d asked.settings) (λ (p : Parties). KnowsNames d asked (flow_of p)) (IsUnknownSetting d asked.settings) (IsFirstUnknown d asked)
    (setting_stops d asked (flow_of c.in_ok-parties.parties) c.in_ok-parties.ensures) c.in_err-know_settings.field-0.0 c.from_residual-in_err-know_settings.result c.in_err-know_settings.ensures c.from_residual-in_err-know_settings.ensures.1

pub returns : goal.returns
returns c =
    knows (declarations c.args.decls.now) (value_by c.args.value.now) (flow_of c.in_ok-parties.parties) c.in_ok-parties.ensures c.in_ok-know_settings.ensures
