-- A command that is declared argument by argument.
use Rattle.std.proofs.Common.{◌≡◌, ℕ, ◌+◌, ◌<◌, ◌≤◌, List, drop, get_or, length, map, refl, add-one, drop-cons}
use Rattle.std.specs.Prelude.{fold}
use Rattle.std.proofs.lemmas.List.{drop_all}
use Rattle.clap.specs.Words.{App, Rule, with_rule}
use Rattle.command_words.specs.Arguments.{rule_by}
use Rattle.command_words.specs.declared.arguments.Argument.{Argument}

pub one_more : (a b : App) (r : Rule) (arguments : List Argument) (i : ℕ) (other : Argument)
    → b ≡ with_rule a r → r ≡ rule_by (get_or arguments i other) → i < length arguments
    → fold with_rule a (map rule_by (drop i arguments)) ≡ fold with_rule b (map rule_by (drop (i + 1) arguments))
one_more a b r arguments i other step rule before =
    rw (drop-cons arguments i other before, add-one i, step, rule) refl

pub no_more : (a : App) (arguments : List Argument) (i : ℕ) → length arguments ≤ i → a ≡ fold with_rule a (map rule_by (drop i arguments))
no_more a arguments i after = rw (drop_all i arguments after) refl
