-- How many days the templates have that the text of a code file declares.
use Rattle.std.proofs.Common.{◌≤◌, ℕ, List, [], subst, sym}
use Rattle.std.specs.List.{All}
use Rattle.std.proofs.lemmas.List.Elements.{All-nil, All-push}
use Rattle.contract_grammar.specs.Judgements.{integer_at}
use Rattle.contract_grammar.specs.Spelling.{Repeat, none, more}
use Rattle.contract_grammar.specs.Statements.{Entry, template_line}
use Rattle.contract_grammar.specs.Tokens.{Tok}
use Rattle.contract_grammar.specs.Words.{Bytes}
use Rattle.contract_grammar.proofs.TextNumbers.{by_value, integer_within}
use Rattle.payoff_lang.specs.LawsReading.{TemplatesOfCodeAreShort}

abbrev AreShort : List (Bytes × ℕ) → Type 0
AreShort templates = All (λ (entry : Bytes × ℕ). entry.1 ≤ 100_000) templates

days_short : (before : List (Bytes × ℕ)) (name : Bytes) (days : ℕ) (ts rest : List Tok) → template_line before name days ts rest → days ≤ 100_000
days_short before name days ts rest x = by_value (integer_at 100_000) days _ _ _ (λ t e. integer_within 100_000 t days e) x.two.two.two.one

lines_short : (before after : List (Bytes × ℕ)) (ts rest : List Tok) → Repeat (Entry template_line) before after ts rest → AreShort before → AreShort after
lines_short before after ts rest none all = all
lines_short before after ts rest (more {b = next} {between = left} x xs) all =
    let short = days_short before x.name x.value ts left x.spelled in
    let further = All-push (λ (entry : Bytes × ℕ). entry.1 ≤ 100_000) before (x.name, x.value) all short in
    lines_short next after left rest xs (subst AreShort (sym x.is) further)

pub templates_short : TemplatesOfCodeAreShort
templates_short bytes b text =
    let declared = text.spelled.two.two.two.one in
    let lines = declared.two.two.two.two.two.two.two.two in
    lines_short [] b.declarations.templates _ _ lines (All-nil (λ (entry : Bytes × ℕ). entry.1 ≤ 100_000))
