use Rattle.std.proofs.Common.{◌≡◌, ◌∙◌, ℕ, List, [], ◌∷◌, ◌++◌, Some, ap, rules, sym}
use Rattle.std.proofs.lemmas.Map.Made.{is_some-lookup}
use Rattle.std.specs.Map.{keys_of}
use Rattle.std.specs.Str.{bytes_eq}
use Rattle.clap.specs.Words.{Text}
use Rattle.contract_grammar.specs.Names.{is_declared}
use Rattle.command_words.specs.Words.{one_more_setting, setting_of_word}
use Rattle.command_words.proofs.WordFacts.{setting_fresh, setting_twice}
use Rattle.command_words.proofs.value_words.add_setting.Goals as goal

pub returns-then-contains_key-clause-answer : goal.returns-then-contains_key-clause-answer
returns-then-contains_key-clause-answer c =
    let is : setting_of_word c.args.word.now ≡ Some (c.in-Some.name.now, c.in-Some.number) = search rules in
    ap (one_more_setting c.args.settings.now.entries) is
    ∙ setting_twice c.args.settings.now.entries c.in-Some.name.now c.in-Some.number
    (sym (c.if-contains_key.ensures ∙ is_some-lookup (bytes_eq c.in-Some.name.now) c.args.settings.now.entries))

pub put-requires : goal.put-requires
put-requires c =
    let same : c.in_ok-name.name ≡ c.in-Some.name.now = c.in_ok-name.ensures in
    ap (is_declared (keys_of c.args.settings.now.entries)) same
    ∙ sym (c.if-contains_key.ensures ∙ is_some-lookup (bytes_eq c.in-Some.name.now) c.args.settings.now.entries)

pub returns-clause-answer : goal.returns-clause-answer
returns-clause-answer c =
    let is : setting_of_word c.args.word.now ≡ Some (c.in-Some.name.now, c.in-Some.number) = search rules in
    let same : c.in_ok-name.name ≡ c.in-Some.name.now = c.in_ok-name.ensures in
    ap (one_more_setting c.args.settings.now.entries) is
    ∙ setting_fresh c.args.settings.now.entries c.in-Some.name.now c.in-Some.number
    (sym (c.if-contains_key.ensures ∙ is_some-lookup (bytes_eq c.in-Some.name.now) c.args.settings.now.entries))
    ∙ ap (λ (settings : List (Text × ℕ)). Some settings) (ap (λ (name : Text). c.args.settings.now.entries ++ (name, c.in-Some.number) ∷ []) (sym same) ∙ sym c.in_ok-put.ensures)
