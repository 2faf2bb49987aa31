-- Parts that stand in a text: where one stands, another does, and what follows stands in the text too.
use Rattle.std.proofs.Common.{ℕ, ℤ, Bool, true, false, Result, List, [], ◌∷◌, ◌≡◌, subst}
use Rattle.std.specs.Prelude.{codes}
use Rattle.contract_grammar.specs.Tokens.{Tok}
use Rattle.contract_grammar.specs.Words.{Bytes, is_the_mark, is_the_word}
use Rattle.contract_grammar.specs.Judgements.{date_number_at, use_at}
use Rattle.contract_grammar.specs.Spelling.{Part, Signed, ◌⨟◌, dated_part, mark, nothing, one, sign, templates_part, valued, word}
use Rattle.contract_grammar.specs.declared.faults.TextKind.{TextKind}
use Rattle.payoff_lang.proofs.TokensStand.{StandsIn}

-- where the one part stands, the other does, and what follows stands in the text too
pub record Turns (text : List ℕ) (p q : Part) : Type 0 where
  pub turns : (ts rest : List Tok) → StandsIn text ts → p ts rest → q ts rest × StandsIn text rest

infixr 5 ◌▹◌
pub ◌▹◌ : {text : List ℕ} {p q p' q' : Part} → Turns text p q → Turns text p' q' → Turns text (p ⨟ p') (q ⨟ q')
f ▹ g = record {
  turns = λ ts rest stands x.
      let a = f.turns ts x.between stands x.one in
      let b = g.turns x.between rest a.1 x.two in
      (record { between = x.between; one = a.0; two = b.0 }, b.1);
}

pub behind_first : (text : List ℕ) (t : Tok) (ts rest : List Tok) → ts ≡ t ∷ rest → StandsIn text ts → StandsIn text rest
behind_first text t ts rest is stands = (subst (λ (us : List Tok). StandsIn text us) is stands).1

pub test_stays : {text : List ℕ} (test : Tok → Bool) → Turns text (one test) (one test)
test_stays {text} test = record { turns = λ ts rest stands x. (x, behind_first text x.0 ts rest x.1 stands) }

pub value_stays : {text : List ℕ} {X : Type 0} (judge : Tok → Result X TextKind) (x : X) → Turns text (valued judge x) (valued judge x)
value_stays {text} judge x = record { turns = λ ts rest stands y. (y, behind_first text y.0 ts rest y.1 stands) }

pub nothing_stays : {text : List ℕ} → Turns text nothing nothing
nothing_stays {text} = record { turns = λ ts rest stands x. (x, subst (λ (us : List Tok). StandsIn text us) x stands) }

sign_stays : {text : List ℕ} (negative : Bool) → Turns text (sign negative) (sign negative)
sign_stays true = test_stays (is_the_mark (codes "-"))
sign_stays false = nothing_stays

pub signed_stays : {text : List ℕ} {X : Type 0} (judge : Bool → Tok → Result X TextKind) (x : X) → Turns text (Signed (λ negative. valued (judge negative) x)) (Signed (λ negative. valued (judge negative) x))
signed_stays {text} judge x = record {
  turns = λ ts rest stands y.
      let a = (sign_stays {text = text} y.negative ▹ value_stays (judge y.negative) x).turns ts rest stands y.spelled in
      (record { negative = y.negative; spelled = a.0 }, a.1);
}

templates_stay : {text : List ℕ} (templates : List Bytes) (written : List ℕ) → Turns text (templates_part templates written) (templates_part templates written)
templates_stay templates [] = nothing_stays
templates_stay templates (i ∷ is) = test_stays (is_the_mark (codes "+")) ▹ value_stays (use_at templates) i ▹ templates_stay templates is

pub date_stays : {text : List ℕ} (templates : List Bytes) (days : ℤ) (written : List ℕ) → Turns text (dated_part templates days written) (dated_part templates days written)
date_stays templates days written = signed_stays date_number_at days ▹ templates_stay templates written

pub word_stays : {text : List ℕ} (w : Bytes) → Turns text (word w) (word w)
word_stays w = test_stays (is_the_word w)

pub mark_stays : {text : List ℕ} (m : Bytes) → Turns text (mark m) (mark m)
mark_stays m = test_stays (is_the_mark m)

pub open_stays : {text : List ℕ} → Turns text (mark (codes "(")) (mark (codes "("))
open_stays = mark_stays (codes "(")

pub comma_stays : {text : List ℕ} → Turns text (mark (codes ",")) (mark (codes ","))
comma_stays = mark_stays (codes ",")

pub close_stays : {text : List ℕ} → Turns text (mark (codes ")")) (mark (codes ")"))
close_stays = mark_stays (codes ")")
