use Rattle.std.proofs.Common.{◌≡◌, ◌≤◌, ◌∷◌, [], List, length}
use Rattle.indexmap.specs.IndexMap.{keys}
use Rattle.term_model.specs.Declarations.{declarations}
use Rattle.contract_grammar.specs.Tokens.{Tok}
use Rattle.contract_grammar.specs.Words.{Bytes}
use Rattle.contract_grammar.specs.Statements.{Entry, Repeat}
use Rattle.contract_parse.specs.Reading.{tokens_ahead}
use Rattle.schedule_forms.specs.declared.plans.Plan.{Plan}
use Rattle.schedule_forms.specs.PlanSpelling.{plan_line}
use Rattle.schedule_forms.specs.PlanExpecting.{PlanLines, PlanExpected, plan_fault}
use Rattle.schedule_forms.proofs.lines.read_plans.Given as goal

abbrev pub invariant-loop-head : goal.invariant-loop-head
invariant-loop-head l = record {
  follows : (ps : List PlanExpected) → plan_fault [] (PlanLines (declarations l.decls) ∷ ps) (tokens_ahead l.fn.ahead) ≡ plan_fault (keys l.plans) (PlanLines (declarations l.decls) ∷ ps) (tokens_ahead l.ahead);
  spelled : (after : List (Bytes × Plan)) (end : List Tok) → Repeat (Entry (plan_line (declarations l.decls))) l.plans.entries after (tokens_ahead l.ahead) end → Repeat (Entry (plan_line (declarations l.decls))) [] after (tokens_ahead l.fn.ahead) end;
  shorter : length l.ahead.after.now ≤ length l.fn.ahead.after.now;
}

abbrev pub decreases-loop-head : goal.decreases-loop-head
decreases-loop-head l = length l.ahead.after.now
