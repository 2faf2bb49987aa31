use Rattle.std.proofs.Common.{◌≡◌, ◌∙◌, ap, map, sym, true}
use Rattle.clap.specs.Words.{App, app_of, is_simple_and_free, matches_of}
use Rattle.clap.specs.Walk.{texts}
use Rattle.command_words.specs.Arguments.{declared, rule_by, taken}
use Rattle.command_words.proofs.Taken.{holds, refuses, simple, takes}
use Rattle.command_words.proofs.arguments.matches_of.Goals as goal

pub returns-in-Ok : goal.returns-in-Ok
returns-in-Ok c =
    let words = texts c.args.words.now in
    let app = app_of c.in_ok-command.command in
    let same : app ≡ declared c.args.name.now (map rule_by c.args.arguments.now) = c.in_ok-command.ensures in
    let free : is_simple_and_free app ≡ true = ap is_simple_and_free same ∙ c.requires in
    let rows = c.in-Ok.ensures.matches (simple app free) in (
      matches_of app words,
      ap (λ (a : App). taken a words) (sym same) ∙ takes app words (c.in-Ok.ensures.kinds free),
      holds app words c.in-Ok.matches rows.0,
    )

pub returns : goal.returns
returns c =
    let words = texts c.args.words.now in
    let app = app_of c.in_ok-command.command in
    let same : app ≡ declared c.args.name.now (map rule_by c.args.arguments.now) = c.in_ok-command.ensures in
    let free : is_simple_and_free app ≡ true = ap is_simple_and_free same ∙ c.requires in
    ap (λ (a : App). taken a words) (sym same)
    ∙ refuses app words c.in-Err.error (c.in-Err.ensures.kinds free) (λ e. c.in_default.not-OutOfMemory (c.kind.ensures ∙ e))
