use Rattle.valuation_commands.proofs.NamePlaces.{declared_names_have_places}
use Rattle.contract_cli.proofs.laws.declared_names_have_places.Goals as goal

pub returns : goal.returns
returns c = declared_names_have_places
