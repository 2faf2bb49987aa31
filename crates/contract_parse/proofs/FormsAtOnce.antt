-- What stands at once where an expression does.
use Rattle.std.proofs.Common.{◌≡◌, ℕ, ◌≤◌, ◌<◌, Bool, true, false, cond, Result, Ok, Err, List, ◌∷◌, refl, sym, ap, ◌∙◌}
use Rattle.decimal.specs.declared.Decimal.{Decimal}
use Rattle.decimal.specs.Mantissas.{decimal_of}
use Rattle.contract_grammar.specs.Tokens.{Tok}
use Rattle.contract_grammar.specs.Words.{Bytes, is_name, is_number}
use Rattle.contract_grammar.specs.Names.{DeclaredNames}
use Rattle.contract_grammar.specs.Judgements.{literal_at, signed_decimal, variable_at}
use Rattle.contract_grammar.specs.Spelling.{valued}
use Rattle.contract_grammar.specs.declared.faults.TextKind.{TextKind}
use Rattle.contract_grammar.specs.declared.faults.TextKind.TheVariants.{Syntax, Deep}
use Rattle.contract_grammar.specs.declared.terms.Language.{Language}
use Rattle.contract_parse.specs.declared.heads.First.{First}
use Rattle.contract_parse.specs.AtOnce.{form_token}
use Rattle.contract_parse.specs.Expecting.{Expected, ExprAt, Next, Step, Stops, expr_expected, judged, run}
use Rattle.contract_parse.specs.Heads.{Beginning, OfForm, OfNumber, first_name, first_number, first_of, form_at, greatest_depth}
use Rattle.contract_parse.proofs.HeadFacts.{begun, deep_begins, form_token_begins, shallow_begins}
use Rattle.contract_parse.proofs.Passing.{value_taken}
use Rattle.contract_parse.proofs.Steps.{run-next, run-refuse}

number_so : (b : Bool) (o : Result Decimal TextKind) (x : Decimal) → cond b o (Err Syntax) ≡ Ok x → b ≡ true
number_so true o x e = refl
number_so false o x e = absurd cc

-- a literal is what an expression begins with
literal_first : (l : Language) (names : List Bytes) (t : Tok) (x : Decimal) → literal_at false t ≡ Ok x → first_of l names t ≡ Ok (OfNumber x)
literal_first l names t x e =
    ap (λ b. cond b (first_number (literal_at false t)) (cond (is_name t) (first_name (variable_at names t)) (form_at l t))) (number_so (is_number t) (signed_decimal false (decimal_of t.text)) x e)
    ∙ ap first_number e

module _ (s : DeclaredNames) (l : Language) (d : ℕ) (names : List Bytes) (ps : List Expected) where
  abbrev next : Beginning → Step
  next first = Next s (expr_expected s l d names first ps)

  pub literal_taken : (x : Decimal) (ts rest : List Tok) → d ≤ greatest_depth l → valued (literal_at false) x ts rest → run s (ExprAt l d names ∷ ps) ts ≡ run s ps rest
  literal_taken x ts rest low here =
      value_taken s s (ExprAt l d names ∷ ps) ps (literal_at false) x ts rest
      (λ t e. ap (λ r. judged r next) (sym (shallow_begins l d (first_of l names t) (OfNumber x) (literal_first l names t x e) low))) here

  module _ (f : First) (left : ℕ) (ts : List Tok) where
    first_is : first_of l names (form_token l f left) ≡ Ok (OfForm f)
    first_is = begun l (form_token l f left) f names (form_token_begins l f left)

    pub form_taken : d ≤ greatest_depth l → run s (ExprAt l d names ∷ ps) (form_token l f left ∷ ts) ≡ run s (expr_expected s l d names (OfForm f) ps) ts
    form_taken low =
        run-next s s (ExprAt l d names ∷ ps) (expr_expected s l d names (OfForm f) ps) (form_token l f left) ts
        (ap (λ r. judged r next) (sym (shallow_begins l d (first_of l names (form_token l f left)) (OfForm f) first_is low)))

    pub form_deep : greatest_depth l < d → run s (ExprAt l d names ∷ ps) (form_token l f left ∷ ts) ≡ Stops Deep left
    form_deep high =
        run-refuse s (ExprAt l d names ∷ ps) Deep (form_token l f left) ts
        (ap (λ r. judged r next) (sym (deep_begins l d (first_of l names (form_token l f left)) (OfForm f) first_is high)))
