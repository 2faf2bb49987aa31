use Rattle.std.proofs.Common.{◌∙◌, ℕ, List, ap, sym}
use Rattle.std.specs.Str.{bytes_eq}
use Rattle.text_commands.proofs.PayoffFacts.{kept_alone}
use Rattle.text_commands.proofs.payoff.if_named.Goals as goal

pub returns-then-eq : goal.returns-then-eq
returns-then-eq c =
    let key = c.args.next.name.now in
    kept_alone c.args.word.now key c.args.next.contr
    (sym (ap (λ (word : List ℕ). bytes_eq word key) c.as_bytes.ensures.value) ∙ sym c.eq.ensures ∙ c.if-eq.true)
