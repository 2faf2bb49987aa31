-- What terms begin with.
use Rattle.std.proofs.Common.{◌≡◌, ℕ, ◌≤◌, Bool, true, false, cond, Option, Some, None, Result, Ok, Err, List, refl, sym, ap, ◌∙◌, subst, arith, ◌<◌}
use Rattle.std.specs.Prelude.{codes, nat_lt}
use Rattle.std.proofs.lemmas.Bool.{le-ltb, lt-ltb}
use Rattle.std.proofs.lemmas.Bool.Decides.{nat_tests}
use Rattle.contract_grammar.specs.declared.faults.TextKind.{TextKind}
use Rattle.contract_grammar.specs.declared.faults.TextKind.TheVariants as kind
use Rattle.contract_grammar.specs.declared.terms.Language.{Language}
use Rattle.contract_grammar.specs.declared.token.LexemeKind.TheVariants.{Word}
use Rattle.contract_parse.specs.declared.heads.First.{First}
use Rattle.contract_parse.specs.declared.heads.Head.{Head}
use Rattle.contract_parse.specs.declared.heads.AmountHead.{AmountHead}
use Rattle.contract_grammar.specs.Tokens.{Tok}
use Rattle.contract_grammar.specs.Words.{Bytes, is_name, is_number, is_the_mark, is_the_word}
use Rattle.decimal.specs.Mantissas.{decimal_of}
use Rattle.decimal.specs.declared.Decimal.{Decimal}
use Rattle.contract_grammar.specs.Names.{back_to}
use Rattle.contract_grammar.specs.Judgements.{literal_at, or_fault, signed_decimal, variable_at}
use Rattle.contract_grammar.proofs.TokenKinds.{of_mark, of_word}
use Rattle.contract_parse.specs.Heads.{Beginning, BeginsAmount, BeginsContract, BeginsForm, OfForm, OfName, OfNumber, amount_head_at, amount_head_of, first_at, first_name, first_number, first_of, first_word, form_at, greatest_depth, head_at, head_of, is_before_depth, leaf_word, within_depth}
use Rattle.contract_parse.specs.AtOnce.{form_token, head_word}

shallow_ok : {X : Type 0} (most d : ℕ) (b : Bool) (x : X) (deep r : Result X TextKind) → deep ≡ Err kind.Deep → nat_lt most d ≡ b → Ok x ≡ cond b deep r → (Ok x ≡ r) × (d ≤ most)
shallow_ok most d true x deep r is test e = absurd cc
shallow_ok most d false x deep r is test e = (e, grind (arith, nat_tests))

never_ok : {X : Type 0} (x : X) (k : TextKind) (a b : Bool) (deep other : Result X TextKind) → deep ≡ Err kind.Deep → other ≡ Err k → Ok x ≡ cond a other (cond b deep other) → ⊥
never_ok x k true b deep other p q e = cc
never_ok x k false true deep other p q e = cc
never_ok x k false false deep other p q e = cc

pub depth_ok : {X : Type 0} (language : Language) (d : ℕ) (r : Result X TextKind) (x : X) → Ok x ≡ within_depth language d r → (Ok x ≡ r) × (d ≤ greatest_depth language)
depth_ok language d (Ok y) x e = shallow_ok (greatest_depth language) d (nat_lt (greatest_depth language) d) x (Err kind.Deep) (Ok y) refl refl e
depth_ok language d (Err k) x e = absurd (never_ok x k (is_before_depth k) (nat_lt (greatest_depth language) d) (Err kind.Deep) (Err k) refl refl e)

-- ---- from the token to the judgement, by the depth

module _ {X : Type 0} (language : Language) (d : ℕ) (r : Result X TextKind) where
  pub shallow_begins : (x : X) → r ≡ Ok x → d ≤ greatest_depth language → Ok x ≡ within_depth language d r
  shallow_begins x is low = rw is (sym (ap (λ b. cond b (Err kind.Deep) (Ok x)) (le-ltb (greatest_depth language) d low)))

  pub deep_begins : (x : X) → r ≡ Ok x → greatest_depth language < d → Err kind.Deep ≡ within_depth language d r
  deep_begins x is high = rw is (sym (ap (λ b. cond b (Err kind.Deep) (Ok x)) (lt-ltb (greatest_depth language) d high)))

  -- a fault that comes before that of the depth, and one that comes behind it
  pub first_fault : (k : TextKind) → r ≡ Err k → is_before_depth k ≡ true → Err k ≡ within_depth language d r
  first_fault k is first = rw is (sym (ap (λ b. cond b (Err k) (cond (nat_lt (greatest_depth language) d) (Err kind.Deep) (Err k))) first))

  behind_depth : (k : TextKind) → is_before_depth k ≡ false → within_depth {X = X} language d (Err k) ≡ cond (nat_lt (greatest_depth language) d) (Err kind.Deep) (Err k)
  behind_depth k later = ap (λ b. cond b (Err k) (cond (nat_lt (greatest_depth language) d) (Err kind.Deep) (Err k))) later

  pub shallow_fault : (k : TextKind) → r ≡ Err k → is_before_depth k ≡ false → d ≤ greatest_depth language → Err k ≡ within_depth language d r
  shallow_fault k is later low = rw is (sym (behind_depth k later ∙ ap (λ b. cond b (Err kind.Deep) (Err k)) (le-ltb (greatest_depth language) d low)))

  pub deep_fault : (k : TextKind) → r ≡ Err k → is_before_depth k ≡ false → greatest_depth language < d → Err kind.Deep ≡ within_depth language d r
  deep_fault k is later high = rw is (sym (behind_depth k later ∙ ap (λ b. cond b (Err kind.Deep) (Err k)) (lt-ltb (greatest_depth language) d high)))

-- ---- from the judgement to the token

ok_same : {X : Type 0} (x y : X) (r s : Result X TextKind) → r ≡ Ok x → s ≡ Ok y → r ≡ s → x ≡ y
ok_same x y r s p q e = cc

form_same : (f x : First) → ◌≡◌ {A = Result Beginning TextKind} (Ok (OfForm f)) (Ok (OfForm x)) → f ≡ x
form_same f x e = cc

pub leaf_is_first : (l : Language) (names : List Bytes) (left : ℕ) → first_of l names (record { kind = Word; text = leaf_word l; left = left }) ≡ Ok (OfForm First.Obs)
leaf_is_first Language.Contracts names left = refl
leaf_is_first Language.Code names left = refl

-- the word that reads a model's value begins that form in payoff code
pub model_begins : (t : Tok) → is_the_word (codes "model") t ≡ true → first_word Language.Code t ≡ Ok (OfForm First.Obs)
model_begins t h = of_word (λ z. first_word Language.Code z ≡ Ok (OfForm First.Obs)) (codes "model") t h refl

module _ (language : Language) (t : Tok) where
  choose : (b : Bool) (x f : First) (rest : Result Beginning TextKind) → Ok (OfForm f) ≡ cond b (Ok (OfForm x)) rest → (b ≡ true → BeginsForm language t x) → (Ok (OfForm f) ≡ rest → BeginsForm language t f) → BeginsForm language t f
  choose true x f rest e hit miss = subst (λ g. BeginsForm language t g) (sym (form_same f x e)) (hit refl)
  choose false x f rest e hit miss = miss e

  word_begins : (f : First) → Ok (OfForm f) ≡ first_word language t → BeginsForm language t f
  word_begins f e =
      choose (is_the_word (codes "true") t) First.True f _ e (λ h. h) (λ e.
      choose (is_the_word (codes "false") t) First.False f _ e (λ h. h) (λ e.
      choose (is_the_word (codes "neg") t) First.Neg f _ e (λ h. h) (λ e.
      choose (is_the_word (codes "not") t) First.Not f _ e (λ h. h) (λ e.
      choose (is_the_word (codes "min") t) First.Min f _ e (λ h. h) (λ e.
      choose (is_the_word (codes "max") t) First.Max f _ e (λ h. h) (λ e.
      choose (is_the_word (codes "if") t) First.If f _ e (λ h. h) (λ e.
      choose (is_the_word (codes "widen") t) First.Widen f _ e (λ h. h) (λ e.
      choose (is_the_word (codes "round") t) First.Round f _ e (λ h. h) (λ e.
      choose (is_the_word (codes "div") t) First.Div f _ e (λ h. h) (λ e.
      choose (is_the_word (codes "acc") t) First.Acc f _ e (λ h. h) (λ e.
      choose (is_the_word (leaf_word language) t) First.Obs f _ e (λ h. h) (λ e.
      absurd cc))))))))))))

  -- the word or mark that a form was found to begin with
  pub form_begins : (f : First) → Ok (OfForm f) ≡ form_at language t → BeginsForm language t f
  form_begins f e =
      choose (is_the_mark (codes "-") t) First.Minus f _ e (λ h. h) (λ e.
      choose (is_the_mark (codes "(") t) First.Open f _ e (λ h. h) (λ e. word_begins f e))

  -- that word is reserved, so it is no name, and a mark is none
  pub begun : (f : First) (names : List Bytes) → BeginsForm language t f → first_of language names t ≡ Ok (OfForm f)
  begun First.True names b = of_word (λ z. first_of language names z ≡ Ok (OfForm First.True)) (codes "true") t b refl
  begun First.False names b = of_word (λ z. first_of language names z ≡ Ok (OfForm First.False)) (codes "false") t b refl
  begun First.Minus names b = of_mark (λ z. first_of language names z ≡ Ok (OfForm First.Minus)) (codes "-") t b refl
  begun First.Open names b = of_mark (λ z. first_of language names z ≡ Ok (OfForm First.Open)) (codes "(") t b refl
  begun First.Obs names b = of_word (λ z. first_of language names z ≡ Ok (OfForm First.Obs)) (leaf_word language) t b (leaf_is_first language names t.left)
  begun First.Neg names b = of_word (λ z. first_of language names z ≡ Ok (OfForm First.Neg)) (codes "neg") t b refl
  begun First.Not names b = of_word (λ z. first_of language names z ≡ Ok (OfForm First.Not)) (codes "not") t b refl
  begun First.Min names b = of_word (λ z. first_of language names z ≡ Ok (OfForm First.Min)) (codes "min") t b refl
  begun First.Max names b = of_word (λ z. first_of language names z ≡ Ok (OfForm First.Max)) (codes "max") t b refl
  begun First.If names b = of_word (λ z. first_of language names z ≡ Ok (OfForm First.If)) (codes "if") t b refl
  begun First.Widen names b = of_word (λ z. first_of language names z ≡ Ok (OfForm First.Widen)) (codes "widen") t b refl
  begun First.Round names b = of_word (λ z. first_of language names z ≡ Ok (OfForm First.Round)) (codes "round") t b refl
  begun First.Div names b = of_word (λ z. first_of language names z ≡ Ok (OfForm First.Div)) (codes "div") t b refl
  begun First.Acc names b = of_word (λ z. first_of language names z ≡ Ok (OfForm First.Acc)) (codes "acc") t b refl

  pub form_is_first : (f : First) (names : List Bytes) → Ok (OfForm f) ≡ form_at language t → first_of language names t ≡ Ok (OfForm f)
  form_is_first f names e = begun f names (form_begins f e)

  -- where no form begins and no number stands, what is no name is a fault
  no_name : (b : Bool) (r : Result ℕ TextKind) (o : Result Beginning TextKind) → o ≡ Err kind.Syntax → cond b (first_name (cond b r (Err kind.Syntax))) o ≡ first_name (cond b r (Err kind.Syntax))
  no_name true r o e = refl
  no_name false r o e = e

  pub name_is : (names : List Bytes) (back : ℕ) → is_name t ≡ true → Some back ≡ back_to names t.text → variable_at names t ≡ Ok back
  name_is names back n is = rw n (ap (or_fault kind.Unknown) (sym is))

  name_is_first : (names : List Bytes) (r : Result ℕ TextKind) → is_number t ≡ false → form_at language t ≡ Err kind.Syntax → variable_at names t ≡ r → first_of language names t ≡ first_name r
  name_is_first names r other e is = rw other (no_name (is_name t) (or_fault kind.Unknown (back_to names t.text)) (form_at language t) e) ∙ ap first_name is

  number_is_first : (names : List Bytes) (o : Option Decimal) → is_number t ≡ true → o ≡ decimal_of t.text → first_of language names t ≡ first_number (signed_decimal false o)
  number_is_first names o n e = rw n (ap (λ o. first_number (signed_decimal false o)) (sym e))

  -- a number that stands where an expression does
  module _ (names : List Bytes) (d : ℕ) (n : is_number t ≡ true) where
    pub number_begins : (x : Decimal) → Some x ≡ decimal_of t.text → d ≤ greatest_depth language → Ok (OfNumber x) ≡ first_at language d names t
    number_begins x e low = shallow_begins language d (first_of language names t) (OfNumber x) (number_is_first names (Some x) n e) low

    pub number_deep : (x : Decimal) → Some x ≡ decimal_of t.text → greatest_depth language < d → Err kind.Deep ≡ first_at language d names t
    number_deep x e high = deep_begins language d (first_of language names t) (OfNumber x) (number_is_first names (Some x) n e) high

    pub number_wide : None ≡ decimal_of t.text → Err kind.Number ≡ first_at language d names t
    number_wide e = first_fault language d (first_of language names t) kind.Number (number_is_first names None n e) refl

  pub number_is : (x : Decimal) → is_number t ≡ true → Some x ≡ decimal_of t.text → literal_at false t ≡ Ok x
  number_is x n e = rw n (ap (λ o. signed_decimal false o) (sym e))

  -- a name, or none, where neither a number nor a form stands
  module _ (names : List Bytes) (d : ℕ) (other : is_number t ≡ false) (e : form_at language t ≡ Err kind.Syntax) where
    pub no_name_begins : is_name t ≡ false → Err kind.Syntax ≡ first_at language d names t
    no_name_begins n = first_fault language d (first_of language names t) kind.Syntax (name_is_first names (Err kind.Syntax) other e (rw n refl)) refl

    pub name_begins : (back : ℕ) → is_name t ≡ true → Some back ≡ back_to names t.text → d ≤ greatest_depth language → Ok (OfName back) ≡ first_at language d names t
    name_begins back n is low = shallow_begins language d (first_of language names t) (OfName back) (name_is_first names (Ok back) other e (name_is names back n is)) low

    pub name_unknown : is_name t ≡ true → None ≡ back_to names t.text → d ≤ greatest_depth language → Err kind.Unknown ≡ first_at language d names t
    name_unknown n is low = shallow_fault language d (first_of language names t) kind.Unknown (name_is_first names (Err kind.Unknown) other e (rw n (ap (or_fault kind.Unknown) (sym is)))) refl low

    pub name_deep : is_name t ≡ true → greatest_depth language < d → Err kind.Deep ≡ first_at language d names t
    name_deep n high = by_place (back_to names t.text) refl
      where
        by_place : (o : Option ℕ) → back_to names t.text ≡ o → Err kind.Deep ≡ first_at language d names t
        by_place None is = deep_fault language d (first_of language names t) kind.Unknown (name_is_first names (Err kind.Unknown) other e (rw n (ap (or_fault kind.Unknown) is))) refl high
        by_place (Some back) is = deep_begins language d (first_of language names t) (OfName back) (name_is_first names (Ok back) other e (rw n (ap (or_fault kind.Unknown) is))) high

-- the token of a form begins it
pub form_token_begins : (l : Language) (f : First) (left : ℕ) → BeginsForm l (form_token l f left) f
form_token_begins l First.True left = refl
form_token_begins l First.False left = refl
form_token_begins l First.Minus left = refl
form_token_begins l First.Open left = refl
form_token_begins Language.Contracts First.Obs left = refl
form_token_begins Language.Code First.Obs left = refl
form_token_begins l First.Neg left = refl
form_token_begins l First.Not left = refl
form_token_begins l First.Min left = refl
form_token_begins l First.Max left = refl
form_token_begins l First.If left = refl
form_token_begins l First.Widen left = refl
form_token_begins l First.Round left = refl
form_token_begins l First.Div left = refl
form_token_begins l First.Acc left = refl

-- a word that is written as this token
abbrev pub word_token : Bytes → ℕ → Tok
word_token w left = record { kind = Word; text = w; left = left }

pub head_of_word : (h : Head) (left : ℕ) → head_of (word_token (head_word h) left) ≡ Ok h
head_of_word Head.Zero left = refl
head_of_word Head.Pay left = refl
head_of_word Head.Both left = refl
head_of_word Head.Scale left = refl
head_of_word Head.After left = refl
head_of_word Head.Let left = refl
head_of_word Head.If left = refl

pub word_begins_contract : (h : Head) (left : ℕ) → BeginsContract (word_token (head_word h) left) h
word_begins_contract Head.Zero left = refl
word_begins_contract Head.Pay left = refl
word_begins_contract Head.Both left = refl
word_begins_contract Head.Scale left = refl
word_begins_contract Head.After left = refl
word_begins_contract Head.Let left = refl
word_begins_contract Head.If left = refl

module _ (t : Tok) where
  choose_head : (b : Bool) (x f : Head) (rest : Result Head TextKind) → Ok f ≡ cond b (Ok x) rest → (b ≡ true → BeginsContract t x) → (Ok f ≡ rest → BeginsContract t f) → BeginsContract t f
  choose_head true x f rest e hit miss = subst (λ g. BeginsContract t g) (sym (ok_same f x (Ok f) (Ok x) refl refl e)) (hit refl)
  choose_head false x f rest e hit miss = miss e

  -- the token that a contract was found to begin with
  pub heads : (d : ℕ) (f : Head) → Ok f ≡ head_at d t → BeginsContract t f
  heads d f e = of_head (depth_ok Language.Contracts d (head_of t) f e).0
    where
      of_head : Ok f ≡ head_of t → BeginsContract t f
      of_head e =
          choose_head (is_the_word (codes "zero") t) Head.Zero f _ e (λ h. h) (λ e.
          choose_head (is_the_word (codes "pay") t) Head.Pay f _ e (λ h. h) (λ e.
          choose_head (is_the_word (codes "both") t) Head.Both f _ e (λ h. h) (λ e.
          choose_head (is_the_word (codes "scale") t) Head.Scale f _ e (λ h. h) (λ e.
          choose_head (is_the_word (codes "after") t) Head.After f _ e (λ h. h) (λ e.
          choose_head (is_the_word (codes "let") t) Head.Let f _ e (λ h. h) (λ e.
          choose_head (is_the_word (codes "if") t) Head.If f _ e (λ h. h) (λ e.
          absurd cc)))))))

module _ (t : Tok) where
  choose_amount : (b : Bool) (x f : AmountHead) (rest : Result AmountHead TextKind) → Ok f ≡ cond b (Ok x) rest → (b ≡ true → BeginsAmount t x) → (Ok f ≡ rest → BeginsAmount t f) → BeginsAmount t f
  choose_amount true x f rest e hit miss = subst (λ g. BeginsAmount t g) (sym (ok_same f x (Ok f) (Ok x) refl refl e)) (hit refl)
  choose_amount false x f rest e hit miss = miss e

  -- the token that an amount was found to begin with
  pub amount_heads : (d : ℕ) (f : AmountHead) → Ok f ≡ amount_head_at d t → BeginsAmount t f
  amount_heads d f e = of_head (depth_ok Language.Code d (amount_head_of t) f e).0
    where
      of_head : Ok f ≡ amount_head_of t → BeginsAmount t f
      of_head e =
          choose_amount (is_the_word (codes "none") t) AmountHead.None f _ e (λ h. h) (λ e.
          choose_amount (is_the_word (codes "pay") t) AmountHead.Pay f _ e (λ h. h) (λ e.
          choose_amount (is_the_word (codes "add") t) AmountHead.Add f _ e (λ h. h) (λ e.
          choose_amount (is_the_word (codes "scale") t) AmountHead.Scale f _ e (λ h. h) (λ e.
          choose_amount (is_the_word (codes "let") t) AmountHead.Let f _ e (λ h. h) (λ e.
          choose_amount (is_the_word (codes "loop") t) AmountHead.Loop f _ e (λ h. h) (λ e.
          choose_amount (is_the_word (codes "cut") t) AmountHead.Cut f _ e (λ h. h) (λ e.
          absurd cc)))))))
