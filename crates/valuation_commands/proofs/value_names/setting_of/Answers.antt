use Rattle.std.proofs.Common.{◌≡◌, ◌∙◌, ◌++◌, ◌∷◌, [], ℕ, List, ap, map, rules, sym}
use Rattle.std.proofs.lemmas.List.{append_assoc}
use Rattle.term_model.specs.declared.name.Name.{Name}
use Rattle.valuation_commands.specs.ValuePromise.{number_set}
use Rattle.valuation_commands.proofs.value_names.setting_of.Goals as goal

pub loop-name-preserved : goal.loop-name-preserved
loop-name-preserved c =
    let settings = c.args.settings.now.entries in
    let number : Name × ℕ → ℕ = λ entry. number_set settings entry.0 entry.1 in
    let days = c.loop-name.days.items in
    let rest = c.next.new.self in
    let same : c.unwrap_or-number.result ≡ number (c.in-Some.name.now, c.in-Some.declared.now) = search rules in
    ap (λ (xs : List ℕ). xs ++ map number rest) c.in_ok-push.ensures.items
    ∙ append_assoc days (c.unwrap_or-number.result ∷ []) (map number rest)
    ∙ ap (λ (n : ℕ). days ++ n ∷ map number rest) same
    ∙ ap (λ (left : List (Name × ℕ)). days ++ map number left) (sym c.in-Some.ensures.steps)
    ∙ c.loop-name.invariant
