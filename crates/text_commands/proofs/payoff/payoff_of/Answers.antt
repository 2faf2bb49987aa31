use Rattle.std.proofs.Common.{ℕ, inl, refl, subst, sym}
use Rattle.std.specs.Global.{Vec}
use Rattle.term_model.specs.Declarations.{declarations}
use Rattle.term_model.specs.Terms.{contract}
use Rattle.payoff_terms.specs.Code.{PayoffCode, payoff_code}
use Rattle.payoff_terms.specs.WritableCode.{IsWritableCode}
use Rattle.command_courses.specs.Course.{Stops, Tells}
use Rattle.used_contracts.specs.AcceptingParts.{IsRefusedOne}
use Rattle.text_commands.specs.PayoffCourse.{payoff_of}
use Rattle.text_commands.specs.PayoffPromise.{IsAcceptedAtDefaults}
use Rattle.used_contracts.specs.UsedContracts.{at_defaults}
use Rattle.command_words.specs.Words.{payoff_by}
use Rattle.command_courses.specs.declared.status.Status.TheVariants as status
use Rattle.text_commands.proofs.PayoffFacts.{canon_asked, code_writable, refused_named}
use Rattle.command_courses.proofs.StopFacts.{handed_on}
use Rattle.text_commands.proofs.payoff.payoff_of.Goals as goal

pub returns-in_err-accept_at_defaults : goal.returns-in_err-accept_at_defaults
returns-in_err-accept_at_defaults c =
    let d = declarations c.args.decls.now in
    let asked = payoff_by c.args.asked.now in
    let contr = contract c.args.contr in
    let called = c.as_bytes-name.result.now in
    handed_on (λ (u : Unit {0}). IsAcceptedAtDefaults d contr) (λ (text : Vec ℕ). Tells (payoff_of asked d contr) status.Done text.items)
    (IsRefusedOne d (at_defaults d (called, contr))) (Stops (payoff_of asked d contr))
    (λ f h. inl (refused_named d asked.contract called contr c.as_bytes-name.ensures.value f h))
    c.in_err-accept_at_defaults.field-0.0 c.from_residual.result c.in_err-accept_at_defaults.ensures c.from_residual.ensures.1

pub code_asked-requires-clause-closed : goal.code_asked-requires-clause-closed
code_asked-requires-clause-closed c = c.requires.sound.closed

pub code_text-requires : goal.code_text-requires
code_text-requires c =
    let d = declarations c.args.decls.now in
    let contr = contract c.args.contr in
    subst (λ (k : PayoffCode). IsWritableCode k) (sym c.in_ok-code.ensures)
    (code_writable d contr c.args.asked.now.plain c.requires.sound.closed c.in_ok-accept_at_defaults.ensures c.requires.writable)

pub returns : goal.returns
returns c =
    let d = declarations c.args.decls.now in
    let asked = payoff_by c.args.asked.now in
    let contr = contract c.args.contr in
    let canon = canon_asked d asked c.as_bytes-name.result.now contr (payoff_code c.in_ok-code.code) c.in_ok-text.text.items c.as_bytes-name.ensures.value c.in_ok-code.ensures c.in_ok-text.ensures in
    (tt, c.in_ok-accept_at_defaults.ensures, (refl, canon))
