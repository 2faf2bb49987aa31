use Rattle.std.proofs.Common.{◌∙◌, ◌||◌, Bool, ap, refl, sym}
use Rattle.std.specs.Prelude.{not}
use Rattle.std.proofs.lemmas.Result.{IfOk-weaker}
use Rattle.term_model.specs.Declarations.{declarations}
use Rattle.term_model.specs.Terms.{contract}
use Rattle.command_words.specs.Arguments.{given_text}
use Rattle.used_contracts.specs.ChoosingParts.{Chooses, TriesNext, selection}
use Rattle.used_contracts.specs.UsedContracts.{at_defaults}
use Rattle.used_contracts.specs.declared.choosing.Tried.{Tried}
use Rattle.used_contracts.proofs.ChoosingFacts.{asked_or_all, choose_next, choose_none}
use Rattle.used_contracts.proofs.choosing.choose.Goals as goal

pub returns-then-used : goal.returns-then-used
returns-then-used c =
    let choice = c.args.choice.now in
    let d = declarations choice.decls.now in
    let s = selection choice in
    let tried = c.args.tried.now in
    let name = c.args.next.name.now in
    let contr = contract c.args.next.contr in
    let after : Tried = record { met = tried.met || c.is_asked-asked.result; refused = c.try_next.new.refused } in
    let uses = asked_or_all (given_text choice.named) choice.only name ∙ ap (λ (b : Bool). b || not choice.only) (sym c.is_asked-asked.ensures) ∙ c.if-used.true in
    IfOk-weaker c.try_next.result (TriesNext d (at_defaults d (name, contr)) tried.refused c.try_next.new.refused) (Chooses d s (name, contr) tried after)
    (λ one tries. choose_next s d (name, contr) tried after (ap (λ (b : Bool). tried.met || b) c.is_asked-asked.ensures) one uses tries) c.try_next.ensures

pub returns : goal.returns
returns c =
    let choice = c.args.choice.now in
    let tried = c.args.tried.now in
    let name = c.args.next.name.now in
    let passes = asked_or_all (given_text choice.named) choice.only name ∙ ap (λ (b : Bool). b || not choice.only) (sym c.is_asked-asked.ensures) ∙ c.if-used.false in
    choose_none (selection choice) (declarations choice.decls.now) (name, contract c.args.next.contr) tried
    (record { met = tried.met || c.is_asked-asked.result; refused = tried.refused }) (ap (λ (b : Bool). tried.met || b) c.is_asked-asked.ensures) passes refl
