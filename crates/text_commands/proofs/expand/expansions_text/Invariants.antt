use Rattle.term_model.specs.Declarations.{declarations}
use Rattle.text_commands.specs.ExpandParts.{ArePlansOfTexts, ArePrintedBefore, AreWritableExpansions}
use Rattle.text_commands.proofs.expand.expansions_text.Given as goal

-- the contracts of the plans before those that are left are accepted and printed
abbrev pub invariant-loop-name : goal.invariant-loop-name
invariant-loop-name l = record {
  printed : ArePrintedBefore (declarations l.decls) l.plans.entries l.name-iterator l.text.items;
  plans : ArePlansOfTexts (declarations l.decls) l.name-iterator;
  writable : AreWritableExpansions l.name-iterator;
}
