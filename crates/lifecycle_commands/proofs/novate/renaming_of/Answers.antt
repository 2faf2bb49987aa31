use Rattle.std.proofs.Common.{◌≡◌, ℕ, refl}
use Rattle.std.specs.Prelude.{Some}
use Rattle.term_model.specs.Declarations.{declarations}
use Rattle.contract_grammar.specs.Names.{index_in}
use Rattle.command_words.specs.Words.{novate_by}
use Rattle.lifecycle_commands.specs.NovateParts.{IsRenaming, LacksParty, no_new, no_old}
use Rattle.command_courses.specs.Names.{IsUndeclared}
use Rattle.command_courses.proofs.StopFacts.{handed_on}
use Rattle.lifecycle_commands.proofs.novate.renaming_of.Goals as goal

pub returns-in_err-old : goal.returns-in_err-old
returns-in_err-old c =
    let d = declarations c.args.decls.now in
    let asked = novate_by c.args.asked.now in
    handed_on (λ (index : ℕ). index_in d.parties asked.old ≡ Some index) (IsRenaming d asked) (IsUndeclared d.parties asked.old) (LacksParty d asked)
    (λ f h. no_old h) c.in_err-old.field-0.0 c.from_residual.result c.in_err-old.ensures c.from_residual.ensures.1

pub returns-in_err-new : goal.returns-in_err-new
returns-in_err-new c =
    let d = declarations c.args.decls.now in
    let asked = novate_by c.args.asked.now in
    handed_on (λ (index : ℕ). index_in d.parties asked.new ≡ Some index) (IsRenaming d asked) (IsUndeclared d.parties asked.new) (LacksParty d asked)
    (λ f h. no_new c.in_ok-old.old c.in_ok-old.ensures h) c.in_err-new.field-0.0 c.from_residual-in_err-new.result c.in_err-new.ensures c.from_residual-in_err-new.ensures.1

pub returns : goal.returns
returns c = record { contract = refl; old_is = c.in_ok-old.ensures; new_is = c.in_ok-new.ensures }
