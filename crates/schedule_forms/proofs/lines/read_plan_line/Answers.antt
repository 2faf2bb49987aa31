use Rattle.std.proofs.Common.{◌∙◌, ◌∷◌, ◌++◌, [], List, ap, subst, sym, rules}
use Rattle.std.specs.Prelude.{codes}
use Rattle.std.specs.Map.{keys_of}
use Rattle.term_model.specs.Declarations.{declarations}
use Rattle.contract_grammar.specs.Tokens.{tokens}
use Rattle.contract_grammar.specs.Words.{Bytes}
use Rattle.contract_grammar.specs.Spelling.{word}
use Rattle.contract_grammar.proofs.Parts.{followed_by}
use Rattle.contract_parse.proofs.LineFacts.{inserted_entry, inserted_names}
use Rattle.schedule_forms.specs.declared.heads.PlanHead.{PlanHead}
use Rattle.schedule_forms.specs.PlanHeads.{word_of}
use Rattle.schedule_forms.specs.PlanExpecting.{definition_expected, plan_fault, the_mark}
use Rattle.schedule_forms.proofs.lines.read_plan_line.Goals as goal

pub returns-clause-reads : goal.returns-clause-reads
returns-clause-reads c = record {
  follows = λ ps.
      let d = declarations c.args.decls.now in
      let names = keys_of c.args.plans.now.entries ++ c.in_ok-name.name ∷ [] in
      c.in_ok-name.ensures.reads.follows (the_mark (codes "=") ∷ definition_expected d c.args.head (the_mark (codes ";") ∷ ps))
      ∙ c.in_ok-plan.ensures.reads.follows names ps
      ∙ ap (λ (ns : List Bytes). plan_fault ns ps (tokens c.in_ok-plan.rest.now))
      (inserted_names c.args.plans.now.entries c.insert.new.self.entries c.in_ok-name.name c.in_ok-plan.plan (tokens c.args.rest.now) (tokens c.in_ok-name.rest.now) c.in_ok-insert.ensures.entries c.in_ok-name.ensures.reads.spelled);
  spelled = λ ts w.
      record {
        name = c.in_ok-name.name;
        value = c.in_ok-plan.plan;
        is = inserted_entry c.args.plans.now.entries c.insert.new.self.entries c.in_ok-name.name c.in_ok-plan.plan (tokens c.args.rest.now) (tokens c.in_ok-name.rest.now) c.in_ok-insert.ensures.entries c.in_ok-name.ensures.reads.spelled;
        spelled = followed_by (tokens c.args.rest.now)
            (subst (λ (h : PlanHead). word (word_of h) ts (tokens c.args.rest.now)) (sym c.in_ok-plan.ensures.head) w)
            (followed_by (tokens c.in_ok-name.rest.now) c.in_ok-name.ensures.reads.spelled c.in_ok-plan.ensures.reads.spelled);
      };
  shorter = search rules;
}
