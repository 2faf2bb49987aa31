use Rattle.term_core.proofs.SharedFacts.{formed_offsets}
use Rattle.specialise.proofs.PartFacts.{whole_inside, parts_inside}
use Rattle.specialise.proofs.laws.parts_may_be_specialised.Goals as goal

pub returns-clause-whole : goal.returns-clause-whole
returns-clause-whole c = whole_inside

pub returns-clause-parts : goal.returns-clause-parts
returns-clause-parts c = parts_inside

pub returns-clause-offsets : goal.returns-clause-offsets
returns-clause-offsets c = formed_offsets
